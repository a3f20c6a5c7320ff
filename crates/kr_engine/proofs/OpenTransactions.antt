-- A leadership gives up the transaction that is open at the tip.
use Rattle.std.proofs.Common.{◌≡◌, ◌∙◌, sym, subst, ℕ, ℤ, pos, negsuc, Bool, true, false, cond, ◌+◌, ◌≤◌, List, [], ◌∷◌, ◌++◌, refl, ap, arith}
use Rattle.std.proofs.lemmas.Int.{ints}
use Rattle.std.proofs.lemmas.List.Elements.{All-append, All-from_recursion}
use Rattle.std.specs.Prelude.{◌+ℤ◌, ◌≤ℤ◌, ◌||◌, Option, Some, None, Ok, Err, IfSome, IsSome, IsTrue, int_lt, is_some, not}
use Rattle.std.specs.Option.{option_map}
use Rattle.std.specs.Ordering.{int_eq}
use Rattle.kr_defs.specs.declared.ill.Ill.{Ill}
use Rattle.kr_defs.specs.declared.ill.Ill.TheVariants.{BadTransaction}
use Rattle.kr_defs.specs.declared.limits.TheConstants.{PLACES_END}
use Rattle.kr_defs.specs.declared.record.Item.{Item}
use Rattle.kr_defs.specs.declared.record.Item.TheVariants as items
use Rattle.kr_defs.specs.declared.record.Record.{Record}
use Rattle.kr_defs.specs.Guard.{found}
use Rattle.kr_defs.specs.Image.{Image}
use Rattle.kr_defs.specs.LogStates.{Opened, apply_at, closed}
use Rattle.law_batch_limits.proofs.AbortRecords.{abort_fits}
use Rattle.law_batch_limits.specs.Fitting.{FitsBatch}
use Rattle.kr_store.specs.Images.{AreValid, Images, IsAbove, kept_at, log_place, marked, opened_at, tip_state}
use Rattle.kr_store.specs.ItemAnswers.{KeepsEpochs, MayStand}
use Rattle.kr_model.specs.Engine.{Core}
use Rattle.kr_model.specs.Entries.{item_entries}
use Rattle.kr_model.specs.Reasons.{already_leading, bad_next, exhausted, old_epoch}
use Rattle.kr_model.specs.World.{is_far}
use Rattle.kr_model.proofs.Places.{near}
use Rattle.kr_model.proofs.Queues.{never}
use Rattle.kr_engine.specs.inner.Append.{core_after_append_in}
use Rattle.kr_engine.specs.inner.Batch.{IsTaken, TakesItem}
use Rattle.kr_engine.specs.inner.Changes.{BreaksOff, GivesAlone}
use Rattle.kr_engine.specs.inner.Lead.{BeginsToLead, GivesUpOpen, an_abort, core_leading, core_up_to, lead_reason}
use Rattle.kr_engine.specs.inner.Ready.{IsReady, MayGiveUp}
use Rattle.kr_engine.proofs.FirstContacts.{begins_above, begins_higher}
use Rattle.kr_engine.proofs.FirstReasons.{none_row}
use Rattle.kr_engine.proofs.KeptPlaces.{last_added}
use Rattle.kr_engine.proofs.Undoing.{appended_in_breaks, begun_breaks, begun_then, breaks_then, images_break, same_breaks}

-- ---- the abort has a meaning

abbrev opened_with : ℤ → Image → Opened
opened_with begin image = record { place = log_place begin; image = image }

abort_by : (images : Images) (o : Option ℤ) (cause : Ill) → IsSome o → IfSome o (λ (begin : ℤ). IsSome (kept_at images begin)) → found BadTransaction (opened_at images o) (λ (opened : Opened). Ok (closed opened.image)) ≡ Err cause → ⊥
abort_by images None cause some there is = never some
abort_by images (Some begin) cause some there is = kept_by (kept_at images begin) there is
  where
    kept_by : (k : Option Image) → IsSome k → found BadTransaction (option_map (opened_with begin) k) (λ (opened : Opened). Ok (closed opened.image)) ≡ Err cause → ⊥
    kept_by None some is = never some
    kept_by (Some image) some is = cc

pub abort_means : (images : Images) (place : ℕ) (cause : Ill) → AreValid images → IsSome images.begun → apply_at (tip_state images) place (items.Record an_abort) ≡ Err cause → ⊥
unfolding apply_at
abort_means images place cause valid some is = abort_by images images.begun cause some valid.begun.tip is

pub abort_stands : (images : Images) (place : ℤ) (item : Item) → item ≡ items.Record an_abort → MayStand images place item
abort_stands images place item is = subst (MayStand images place) (sym is) tt

pub abort_taken : (before after : Images) (place : ℤ) (item : Item) → item ≡ items.Record an_abort → TakesItem before after place item → TakesItem before after place (items.Record an_abort)
abort_taken before after place item is takes = subst (TakesItem before after place) is takes

pub abort_never : (before after : Images) (place : ℤ) (item : Item) (cause : Ill) → item ≡ items.Record an_abort → AreValid before → IsSome before.begun → IsTaken before after place item (Some cause) → ⊥
abort_never before after place item cause is valid some taken =
    abort_means before (log_place place) cause valid some (ap (apply_at (tip_state before) (log_place place)) (sym is) ∙ taken.0)

pub ruleset apply_abort = (abort_stands, abort_taken, abort_never)

-- ---- it fits a batch

pub one_fits : (records : List Record) → records ≡ an_abort ∷ [] → FitsBatch records
one_fits records is = subst FitsBatch (sym is) abort_fits

-- ---- the batch

module _ (e between : Core) (same : between ≡ record e { images = between.images }) where
  pub same_tip : between.tip ≡ e.tip
  same_tip = ap (λ (a : Core). a.tip) same

  still_low : MayGiveUp e → between.tip ≤ℤ PLACES_END
  still_low may = subst (λ t. t ≤ℤ PLACES_END) (sym same_tip) may.low

  still_above : MayGiveUp e → between.images.kept ≡ e.images.kept → (place : ℤ) → IsTrue (int_lt between.tip place) → IsAbove between.images.kept place
  still_above may kept place high = subst (λ (ks : List (ℤ × Image)). IsAbove ks place) (sym kept) (may.above place (ap (λ t. int_lt t place) (sym same_tip) ∙ high))

  abort_breaks : KeepsEpochs between.images e.images → BreaksOff e between
  abort_breaks keeps = images_break e between same keeps.images keeps.calls keeps.begun

pub up_low : (e between : Core) → MayGiveUp e → between ≡ record e { images = between.images } → between.tip ≤ℤ PLACES_END
up_low e between may same = still_low e between same may

pub up_above : (e between : Core) → MayGiveUp e → between ≡ record e { images = between.images } → TakesItem e.images between.images e.tip (items.Record an_abort) → (place : ℤ) → IsTrue (int_lt between.tip place) → IsAbove between.images.kept place
up_above e between may same takes = still_above e between same may takes.epochs.images

gives_up_by : (o : Option ℤ) (e between after : Core) (epoch : ℤ) (records : List Record) → is_some o ≡ true → records ≡ an_abort ∷ [] → between ≡ record e { images = between.images } → TakesItem e.images between.images e.tip (items.Record an_abort)
    → after ≡ core_after_append_in between epoch records → GivesUpOpen o e after epoch
gives_up_by None e between after epoch records some is same takes appends = absurd cc
gives_up_by (Some begin) e between after epoch records some is same takes appends = record {
  images = between.images;
  takes = takes;
  same = appends ∙ (ap (core_after_append_in between epoch) is ∙ ap (λ (c : Core). core_after_append_in c epoch (an_abort ∷ [])) same);
}

pub gives_up : (e between after : Core) (epoch : ℤ) (records : List Record) → is_some e.images.begun ≡ true → records ≡ an_abort ∷ [] → between ≡ record e { images = between.images } → TakesItem e.images between.images e.tip (items.Record an_abort)
    → after ≡ core_after_append_in between epoch records → GivesUpOpen e.images.begun e after epoch
gives_up e between after epoch records some is same takes appends = gives_up_by e.images.begun e between after epoch records some is same takes appends

none_by : (o : Option ℤ) (e : Core) (epoch : ℤ) → is_some o ≡ false → GivesUpOpen o e e epoch
none_by None e epoch none = refl
none_by (Some begin) e epoch none = absurd cc

pub none_given_up : (e : Core) (epoch : ℤ) → is_some e.images.begun ≡ false → GivesUpOpen e.images.begun e e epoch
none_given_up e epoch none = none_by e.images.begun e epoch none

pub taking_breaks : (e between : Core) → between ≡ record e { images = between.images } → KeepsEpochs between.images e.images → BreaksOff e between
taking_breaks e between same keeps = abort_breaks e between same keeps

pub giving_up_breaks : (e between after : Core) → between ≡ record e { images = between.images } → TakesItem e.images between.images e.tip (items.Record an_abort) → GivesAlone between after → BreaksOff e after
giving_up_breaks e between after same takes gives = begun_then e between after (abort_breaks e between same takes.epochs) gives

pub ruleset give_up = (one_fits, up_low, up_above, gives_up, none_given_up, taking_breaks, giving_up_breaks, same_breaks)

-- ---- the leadership

-- what is given up breaks off as what is appended does
given_up_breaks : (o : Option ℤ) (e after : Core) (epoch : ℤ) → GivesUpOpen o e after epoch → BreaksOff e after
given_up_breaks None e after epoch is = same_breaks e after is
given_up_breaks (Some begin) e after epoch g =
    appended_in_breaks e (record e { images = g.images }) after epoch (an_abort ∷ [])
    (images_break e (record e { images = g.images }) refl g.takes.epochs.images g.takes.epochs.calls g.takes.epochs.begun) refl g.same

near_place : (z : ℤ) → is_far z ≡ false → z ≤ℤ PLACES_END
near_place (pos n) is = let low = near n is in omega (arith, ints, low)
near_place (negsuc n) is = omega (arith, ints)

lt_through : (a b c : ℤ) → int_lt a b ≡ true → int_lt b c ≡ true → int_lt a c ≡ true
lt_through a b c first then = grind (arith, ints)

module _ (e : Core) (epoch next : ℤ) (r : IsReady e) (begins : lead_reason e epoch next ≡ None) where
  -- the engine where the leadership begins at the end, or one above
  abbrev up_by : Bool → Core
  up_by b = cond b e (record e { images = marked e.images next; tip = next; fresh = e.fresh ++ item_entries e.tip (items.Control ∷ []) })

  next_near : next ≤ℤ PLACES_END
  next_near =
      let one = none_row (is_some e.leading) (already_leading e.leading) _ begins in
      let two = none_row (not (int_lt e.greatest epoch)) (old_epoch epoch e.greatest) _ one.1 in
      let three = none_row (not (int_eq next e.committed || int_eq next (e.committed +ℤ pos 1))) (bad_next next e.committed) _ two.1 in
      near_place next (none_row (is_far next) (exhausted next) None three.1).0

  -- one above
  next_above : int_eq next e.committed ≡ false → int_lt e.tip next ≡ true
  next_above other = begins_higher e epoch next r (sym begins) other

  open_by : (b : Bool) → int_eq next e.committed ≡ b → MayGiveUp (up_by b)
  open_by true is = record { low = r.low; kept = subst (λ (o : Option (ℤ × Image)). IsSome o) (sym r.last) refl; above = r.above }
  open_by false is = record {
    low = next_near;
    kept = subst (λ (o : Option (ℤ × Image)). IsSome o) (sym (last_added e.images.kept (next, e.images.tip))) refl;
    above = λ place high.
        let P : ℤ × Image → Type 0 = λ k. IsTrue (int_lt k.0 place) in
        All-append P e.images.kept ((next, e.images.tip) ∷ []) (r.above place (lt_through e.tip next place (next_above is) high)) (All-from_recursion P ((next, e.images.tip) ∷ []) (high, tt));
  }

  breaks_by : (b : Bool) → int_eq next e.committed ≡ b → BreaksOff e (up_by b)
  breaks_by true is = same_breaks e e refl
  breaks_by false is =
      let up = next_above is in record {
        same = refl;
        longer = record {
          images = (next, e.images.tip) ∷ [];
          kept = refl;
          later = (up, tt);
          counts = (next, e.images.made) ∷ [];
          calls = refl;
          later_counts = (up, tt);
          begins = (next, e.images.begun) ∷ [];
          begun = refl;
          later_begins = (up, tt);
        };
      }

  later_by : (b : Bool) → int_eq next e.committed ≡ b → (z : ℤ) → int_lt (up_by b).tip z ≡ true → int_lt e.tip z ≡ true
  later_by true is z high = high
  later_by false is z high = lt_through e.tip next z (next_above is) high

  module _ (up : Core) (is : up ≡ core_up_to e next) where
    up_open : MayGiveUp up
    up_open = subst MayGiveUp (sym is) (open_by (int_eq next e.committed) refl)

    up_breaks : (after : Core) → BreaksOff up after → BreaksOff e after
    up_breaks after b =
        let c : BreaksOff (core_up_to e next) after = subst (λ (a : Core). BreaksOff a after) is b in
        breaks_then e (core_up_to e next) after (breaks_by (int_eq next e.committed) refl) (later_by (int_eq next e.committed) refl) c

pub up_opens : (e up : Core) (epoch next : ℤ) → IsReady e → lead_reason e epoch next ≡ None → up ≡ core_up_to e next → MayGiveUp up
up_opens e up epoch next r begins is = up_open e epoch next r begins up is

pub upper_breaks : (e up after : Core) (epoch next : ℤ) → IsReady e → lead_reason e epoch next ≡ None → up ≡ core_up_to e next → BreaksOff up after → BreaksOff e after
upper_breaks e up after epoch next r begins is b = up_breaks e epoch next r begins up is after b

pub led_breaks : (e up settled after : Core) (epoch next : ℤ) → IsReady e → lead_reason e epoch next ≡ None → up ≡ core_up_to e next → GivesUpOpen up.images.begun up settled epoch → after ≡ settled → BreaksOff e after
led_breaks e up settled after epoch next r begins is gives same =
    upper_breaks e up after epoch next r begins is (subst (λ (a : Core). BreaksOff up a) (sym same) (given_up_breaks up.images.begun up settled epoch gives))

pub led_above : (e : Core) (epoch next : ℤ) → IsReady e → lead_reason e epoch next ≡ None → int_eq next e.committed ≡ false → IsAbove e.images.kept next
led_above e epoch next r begins other = begins_above e epoch next r (sym begins) other

pub leads_by : (e up settled after : Core) (epoch next : ℤ) → up ≡ core_up_to e next → GivesUpOpen up.images.begun up settled epoch → after ≡ core_leading settled epoch next → BeginsToLead e after epoch next
leads_by e up settled after epoch next is gives leads = record {
  settled = settled;
  gives_up = subst (λ (c : Core). GivesUpOpen c.images.begun c settled epoch) is gives;
  leads = leads;
}

pub ruleset begin_leadership = (led_above, up_opens, upper_breaks, led_breaks, leads_by, begun_breaks)
