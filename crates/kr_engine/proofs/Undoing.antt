-- Where memory was wanted, nothing of an event stays.
use Rattle.std.proofs.Common.{◌≡◌, ◌∙◌, sym, subst, ℕ, suc, ℤ, pos, true, false, Bool, cond, not, List, [], ◌∷◌, ◌++◌, map, filter, refl, ap, arith}
use Rattle.std.proofs.lemmas.Int.{ints}
use Rattle.std.proofs.lemmas.List.{append-nil, append_assoc}
use Rattle.std.proofs.lemmas.List.Elements.{filter-append, recursion_from_All}
use Rattle.std.proofs.lemmas.List.Folds.{find-append}
use Rattle.std.specs.Prelude.{◌+ℤ◌, Option, Some, None, Result, Ok, Err, OnOk, OnErr, IsTrue, find, int_lt, length, unwrap_or}
use Rattle.std.specs.List.{AllByRecursion}
use Rattle.std.specs.Option.{option_map, option_or}
use Rattle.std.specs.Ordering.{int_eq}
use Rattle.kr_batch.specs.BatchBytes.{batch_bytes}
use Rattle.kr_calls.specs.declared.events.Entry.{Entry}
use Rattle.kr_calls.specs.declared.events.Event.{Event}
use Rattle.kr_calls.specs.declared.events.Output.TheVariants as given
use Rattle.kr_defs.specs.declared.record.Record.{Record}
use Rattle.kr_defs.specs.Heartbeats.{Heartbeats}
use Rattle.kr_defs.specs.Image.{Image}
use Rattle.kr_defs.specs.ImageLaws.{as_items}
use Rattle.kr_store.specs.Images.{AreValid, Images, begun_at, begun_under, kept_at, marked, reverted}
use Rattle.kr_store.proofs.LastKept.{last_found}
use Rattle.kr_model.specs.Engine.{Core, IsSound, IsStep, outputs_left}
use Rattle.kr_model.specs.Entries.{item_entries}
use Rattle.kr_model.specs.Reasons.{led_epoch}
use Rattle.kr_engine.specs.inner.Append.{Writes, batch_in, core_after_append, core_after_append_in, place_behind}
use Rattle.kr_engine.specs.inner.Changes.{BreaksOff, GivesAlone, IsLonger, core_with_entries, counted_core}
use Rattle.kr_engine.specs.inner.Ready.{IsReady}
use Rattle.kr_model.proofs.LogEntries.{not_none}
use Rattle.kr_model.proofs.Queues.{drained}
use Rattle.kr_model.proofs.SoundEngines.{stepped_sound}

-- ---- what is kept besides

nothing_longer : (images : Images) (place : ℤ) → IsLonger images images place
nothing_longer images place = record {
  images = [];
  kept = sym (append-nil images.kept);
  later = tt;
  counts = [];
  calls = sym (append-nil images.kept_made);
  later_counts = tt;
  begins = [];
  begun = sym (append-nil images.kept_begun);
  later_begins = tt;
}

pub same_longer : (before after : Images) (place : ℤ) → after.kept ≡ before.kept → after.kept_made ≡ before.kept_made → after.kept_begun ≡ before.kept_begun → IsLonger before after place
same_longer before after place kept calls begun = record {
  images = [];
  kept = kept ∙ sym (append-nil before.kept);
  later = tt;
  counts = [];
  calls = calls ∙ sym (append-nil before.kept_made);
  later_counts = tt;
  begins = [];
  begun = begun ∙ sym (append-nil before.kept_begun);
  later_begins = tt;
}

module _ {X : Type 0} where
  all_both : (P : X → Type 0) (xs ys : List X) → AllByRecursion P xs → AllByRecursion P ys → AllByRecursion P (xs ++ ys)
  all_both P [] ys first then = then
  all_both P (x ∷ xs) ys first then = (first.0, all_both P xs ys first.1 then)

  all_so : (P Q : X → Type 0) → ((x : X) → P x → Q x) → (xs : List X) → AllByRecursion P xs → AllByRecursion Q xs
  all_so P Q so [] all = tt
  all_so P Q so (x ∷ xs) all = (so x all.0, all_so P Q so xs all.1)

beyond : (place : ℤ) (n : ℕ) (z : ℤ) → int_lt (place +ℤ pos n) z ≡ true → int_lt place z ≡ true
beyond place n z above = grind (arith, ints)

-- from a later place on
longer_on : (a b c : Images) (place later : ℤ) → ((z : ℤ) → int_lt later z ≡ true → int_lt place z ≡ true) → IsLonger a b place → IsLonger b c later → IsLonger a c place
longer_on a b c place later beyond first then = record {
  images = first.images ++ then.images;
  kept = then.kept ∙ (ap (λ (ks : List (ℤ × Image)). ks ++ then.images) first.kept ∙ append_assoc a.kept first.images then.images);
  later = all_both (λ (k : ℤ × Image). int_lt place k.0 ≡ true) first.images then.images first.later
      (all_so (λ (k : ℤ × Image). int_lt later k.0 ≡ true) (λ (k : ℤ × Image). int_lt place k.0 ≡ true) (λ k. beyond k.0) then.images then.later);
  counts = first.counts ++ then.counts;
  calls = then.calls ∙ (ap (λ (ms : List (ℤ × ℕ)). ms ++ then.counts) first.calls ∙ append_assoc a.kept_made first.counts then.counts);
  later_counts = all_both (λ (m : ℤ × ℕ). int_lt place m.0 ≡ true) first.counts then.counts first.later_counts
      (all_so (λ (m : ℤ × ℕ). int_lt later m.0 ≡ true) (λ (m : ℤ × ℕ). int_lt place m.0 ≡ true) (λ m. beyond m.0) then.counts then.later_counts);
  begins = first.begins ++ then.begins;
  begun = then.begun ∙ (ap (λ (bs : List (ℤ × Option ℤ)). bs ++ then.begins) first.begun ∙ append_assoc a.kept_begun first.begins then.begins);
  later_begins = all_both (λ (b : ℤ × Option ℤ). int_lt place b.0 ≡ true) first.begins then.begins first.later_begins
      (all_so (λ (b : ℤ × Option ℤ). int_lt later b.0 ≡ true) (λ (b : ℤ × Option ℤ). int_lt place b.0 ≡ true) (λ b. beyond b.0) then.begins then.later_begins);
}

longer_then : (a b c : Images) (place : ℤ) (n : ℕ) → IsLonger a b place → IsLonger b c (place +ℤ pos n) → IsLonger a c place
longer_then a b c place n first then = longer_on a b c place (place +ℤ pos n) (beyond place n) first then

higher : (place : ℤ) (n : ℕ) → int_lt place (place +ℤ pos (suc n)) ≡ true
higher place n = grind (arith, ints)

-- one batch more
one_longer : (before after : Images) (place : ℤ) (n : ℕ) (image : Image) (made : ℕ) (begun : Option ℤ) → after.kept ≡ before.kept ++ (place +ℤ pos (suc n), image) ∷ []
    → after.kept_made ≡ before.kept_made ++ (place +ℤ pos (suc n), made) ∷ [] → after.kept_begun ≡ before.kept_begun ++ (place +ℤ pos (suc n), begun) ∷ [] → IsLonger before after place
one_longer before after place n image made begun kept calls begins = record {
  images = (place +ℤ pos (suc n), image) ∷ [];
  kept = kept;
  later = (higher place n, tt);
  counts = (place +ℤ pos (suc n), made) ∷ [];
  calls = calls;
  later_counts = (higher place n, tt);
  begins = (place +ℤ pos (suc n), begun) ∷ [];
  begun = begins;
  later_begins = (higher place n, tt);
}

written_longer : (e after : Core) (records : List Record) → Writes e after records → IsLonger e.images after.images e.tip
written_longer e after [] w = same_longer e.images after.images e.tip w.kept w.counted.1 w.begins
written_longer e after (r ∷ records) w =
    one_longer e.images after.images e.tip (length records) after.images.tip w.counted.1.0 after.images.begun
    (w.kept ∙ ap (λ b. cond b e.images.kept (e.images.kept ++ (place_behind e (r ∷ records), after.images.tip) ∷ [])) (not_none (length records)))
    w.counted.1.2
    (w.begins ∙ ap (λ b. cond b e.images.kept_begun (e.images.kept_begun ++ (place_behind e (r ∷ records), after.images.begun) ∷ [])) (not_none (length records)))

-- ---- an event that breaks off

-- nothing but the images is changed, and later ones are kept besides
pub longer_breaks : (e after : Core) → after ≡ record e { images = after.images } → IsLonger e.images after.images e.tip → BreaksOff e after
longer_breaks e after is longer = record {
  same = subst (λ (a : Core). a ≡ record e { images = a.images; tip = a.tip; given = a.given; fresh = a.fresh }) (sym is) refl;
  longer = longer;
}

-- nothing but the images is changed, and none is kept besides
pub images_break : (e after : Core) → after ≡ record e { images = after.images } → after.images.kept ≡ e.images.kept → after.images.kept_made ≡ e.images.kept_made
    → after.images.kept_begun ≡ e.images.kept_begun → BreaksOff e after
images_break e after is kept calls begun = longer_breaks e after is (same_longer e.images after.images e.tip kept calls begun)

pub begun_breaks : (e after : Core) → GivesAlone e after → BreaksOff e after
begun_breaks e after is = subst (λ (a : Core). BreaksOff e a) (sym is) (record { same = refl; longer = nothing_longer e.images e.tip })

pub same_breaks : (e after : Core) → after ≡ e → BreaksOff e after
same_breaks e after is = subst (λ (a : Core). BreaksOff e a) (sym is) (record { same = refl; longer = nothing_longer e.images e.tip })

pub begun_then : (e between after : Core) → BreaksOff e between → GivesAlone between after → BreaksOff e after
begun_then e between after b is = subst (λ (a : Core). BreaksOff e a) (sym is) (record {
  same = ap (λ (c : Core). record c { given = after.given; fresh = after.fresh }) b.same;
  longer = b.longer;
})

-- a batch is appended in any epoch, behind the tip at which the event began
pub appended_in_breaks : (e between after : Core) (epoch : ℤ) (records : List Record) → BreaksOff e between → between.tip ≡ e.tip → after ≡ core_after_append_in between epoch records → BreaksOff e after
appended_in_breaks e between after epoch [] b at is = subst (λ (a : Core). BreaksOff e a) (sym is) b
appended_in_breaks e between after epoch (r ∷ records) b at is =
    let all = r ∷ records in
    let end = place_behind between all in
    let behind : Core = record between {
      images = marked between.images end;
      tip = end;
      given = between.given ++ given.Append (batch_bytes (batch_in between epoch all)) ∷ [];
      fresh = between.fresh ++ item_entries between.tip (as_items all);
    } in
    let own : after ≡ behind = is ∙ ap (λ b. cond b between behind) (not_none (length records)) in
    subst (λ (a : Core). BreaksOff e a) (sym own) (record {
      same = ap (λ (c : Core). record c { images = behind.images; tip = behind.tip; given = behind.given; fresh = behind.fresh }) b.same;
      longer = record {
        images = b.longer.images ++ (end, between.images.tip) ∷ [];
        kept = ap (λ (ks : List (ℤ × Image)). ks ++ (end, between.images.tip) ∷ []) b.longer.kept ∙ append_assoc e.images.kept b.longer.images ((end, between.images.tip) ∷ []);
        later = all_both (λ (k : ℤ × Image). int_lt e.tip k.0 ≡ true) b.longer.images ((end, between.images.tip) ∷ []) b.longer.later (end_later, tt);
        counts = b.longer.counts ++ (end, between.images.made) ∷ [];
        calls = ap (λ (ms : List (ℤ × ℕ)). ms ++ (end, between.images.made) ∷ []) b.longer.calls ∙ append_assoc e.images.kept_made b.longer.counts ((end, between.images.made) ∷ []);
        later_counts = all_both (λ (m : ℤ × ℕ). int_lt e.tip m.0 ≡ true) b.longer.counts ((end, between.images.made) ∷ []) b.longer.later_counts (end_later, tt);
        begins = b.longer.begins ++ (end, between.images.begun) ∷ [];
        begun = ap (λ (bs : List (ℤ × Option ℤ)). bs ++ (end, between.images.begun) ∷ []) b.longer.begun ∙ append_assoc e.images.kept_begun b.longer.begins ((end, between.images.begun) ∷ []);
        later_begins = all_both (λ (b : ℤ × Option ℤ). int_lt e.tip b.0 ≡ true) b.longer.begins ((end, between.images.begun) ∷ []) b.longer.later_begins (end_later, tt);
      };
    })
  where
    end_later : int_lt e.tip (place_behind between (r ∷ records)) ≡ true
    end_later = ap (λ t. int_lt e.tip (t +ℤ pos (suc (length records)))) at ∙ higher e.tip (length records)

pub appended_breaks : (e between after : Core) (records : List Record) → BreaksOff e between → between.tip ≡ e.tip → after ≡ core_after_append between records → BreaksOff e after
appended_breaks e between after records b at is = appended_in_breaks e between after (led_epoch between.leading) records b at is

-- items are added, and then nothing
pub added_breaks : (e between with_items after : Core) (new : List Entry) → after ≡ with_items → with_items ≡ core_with_entries between new → between ≡ record e { images = between.images }
    → IsLonger e.images between.images e.tip → BreaksOff e after
added_breaks e between with_items after new same adds is longer =
    begun_then e between after (longer_breaks e between is longer) (subst (λ (a : Core). GivesAlone between a) (sym (same ∙ adds)) refl)

pub adding_breaks : (e between after : Core) → GivesAlone between after → between ≡ record e { images = between.images } → IsLonger e.images between.images e.tip → BreaksOff e after
adding_breaks e between after begins is longer = begun_then e between after (longer_breaks e between is longer) begins

pub giving_breaks : (e between after : Core) → GivesAlone between after → between ≡ record e { images = between.images } → between.images.kept ≡ e.images.kept → between.images.kept_made ≡ e.images.kept_made
    → between.images.kept_begun ≡ e.images.kept_begun → BreaksOff e after
giving_breaks e between after begins is kept calls begun = begun_then e between after (images_break e between is kept calls begun) begins

-- what comes behind a part of an event breaks off
pub breaks_then : (e between after : Core) → BreaksOff e between → ((z : ℤ) → int_lt between.tip z ≡ true → int_lt e.tip z ≡ true) → BreaksOff between after → BreaksOff e after
breaks_then e between after b later c = record {
  same = c.same ∙ ap (λ (x : Core). record x { images = after.images; tip = after.tip; given = after.given; fresh = after.fresh }) b.same;
  longer = longer_on e.images between.images after.images e.tip between.tip later b.longer c.longer;
}

-- records are written, and what comes then breaks off
pub written_then : (e between after : Core) (records : List Record) → Writes e between records → between.held ≡ e.held → between.heard ≡ e.heard → BreaksOff between after → BreaksOff e after
written_then e between after records w held heard b = record {
  same =
      b.same
      ∙ (ap (λ (c : Core). record c { images = after.images; tip = after.tip; given = after.given; fresh = after.fresh }) w.same
      ∙ (ap (λ hs. record e { images = after.images; tip = after.tip; given = after.given; fresh = after.fresh; heard = between.heard; held = hs }) held
      ∙ ap (λ h. record e { images = after.images; tip = after.tip; given = after.given; fresh = after.fresh; heard = h }) heard));
  longer = longer_then e.images between.images after.images e.tip (length records) (written_longer e between records w)
      (subst (λ t. IsLonger between.images after.images t) (ap (λ (a : Core). a.tip) w.same) b.longer);
}

-- ---- the images that were found

abbrev with_lists : Image → List (ℤ × Image) → List (ℤ × ℕ) → Option ℤ → List (ℤ × Option ℤ) → Images
with_lists tip kept kept_made begun kept_begun = record { kept = kept; tip = tip; made = 0; kept_made = kept_made; begun = begun; kept_begun = kept_begun }

module _ {X : Type 0} (place : ℤ) where
  abbrev stays : ℤ × X → Bool
  stays k = not (int_lt place k.0)

  all_stay : (ks : List (ℤ × X)) → AllByRecursion (λ z. int_lt place z ≡ false) (map (λ (k : ℤ × X). k.0) ks) → filter stays ks ≡ ks
  all_stay [] all = refl
  all_stay (k ∷ ks) all = ap (λ b. cond (not b) (k ∷ filter stays ks) (filter stays ks)) all.0 ∙ ap (λ rest. k ∷ rest) (all_stay ks all.1)

  none_stays : (ks : List (ℤ × X)) → AllByRecursion (λ (k : ℤ × X). int_lt place k.0 ≡ true) ks → filter stays ks ≡ []
  none_stays [] all = refl
  none_stays (k ∷ ks) all = ap (λ b. cond (not b) (k ∷ filter stays ks) (filter stays ks)) all.0 ∙ none_stays ks all.1

  first_stay : (ks more : List (ℤ × X)) → AllByRecursion (λ z. int_lt place z ≡ false) (map (λ (k : ℤ × X). k.0) ks) → AllByRecursion (λ (k : ℤ × X). int_lt place k.0 ≡ true) more
      → filter stays (ks ++ more) ≡ ks
  first_stay ks more all later =
      filter-append stays ks more ∙ (ap (λ first. first ++ filter stays more) (all_stay ks all) ∙ (ap (λ rest. ks ++ rest) (none_stays more later) ∙ append-nil ks))

not_above : (place z : ℤ) → int_lt z (place +ℤ pos 1) ≡ true → int_lt place z ≡ false
not_above place z below = grind (arith, ints)

keys : {X : Type 0} (P Q : ℤ → Type 0) → ((z : ℤ) → P z → Q z) → (ks : List (ℤ × X)) → AllByRecursion (λ (k : ℤ × X). P k.0) ks → AllByRecursion Q (map (λ (k : ℤ × X). k.0) ks)
keys P Q so [] all = tt
keys P Q so (k ∷ ks) all = (so k.0 all.0, keys P Q so ks all.1)

first_or : (o p : Option (ℤ × Option ℤ)) → p ≡ None → begun_under (option_or o p) ≡ begun_under o
first_or None p is = ap begun_under is
first_or (Some b) p is = refl

none_found : (place : ℤ) (bs : List (ℤ × Option ℤ)) → AllByRecursion (λ (b : ℤ × Option ℤ). int_lt place b.0 ≡ true) bs → find (λ (b : ℤ × Option ℤ). int_eq b.0 place) bs ≡ None
none_found place [] all = refl
none_found place (b ∷ bs) all =
    ap (λ t. cond t (Some b) (find (λ (b : ℤ × Option ℤ). int_eq b.0 place) bs)) (not_there place b.0 all.0) ∙ none_found place bs all.1
  where
    not_there : (place z : ℤ) → int_lt place z ≡ true → int_eq z place ≡ false
    not_there place z above = grind (arith, ints)

module _ (e : Core) (r : IsReady e) (valid : AreValid e.images) where
  low_places : AllByRecursion (λ z. int_lt e.tip z ≡ false) (map (λ (k : ℤ × Image). k.0) e.images.kept)
  low_places =
      keys (λ z. int_lt z (e.tip +ℤ pos 1) ≡ true) (λ z. int_lt e.tip z ≡ false) (not_above e.tip) e.images.kept
      (recursion_from_All (λ (k : ℤ × Image). IsTrue (int_lt k.0 (e.tip +ℤ pos 1))) e.images.kept (r.above (e.tip +ℤ pos 1) (higher e.tip 0)))

  tip_found : find (λ (k : ℤ × Image). int_eq k.0 e.tip) e.images.kept ≡ Some (e.tip, e.images.tip)
  tip_found = last_found e.images.kept (e.tip, e.images.tip) valid.rising r.last

  module _ (after : Images) (l : IsLonger e.images after e.tip) where
    found : kept_at after e.tip ≡ Some e.images.tip
    found =
        ap (λ (ks : List (ℤ × Image)). option_map (λ (k : ℤ × Image). k.1) (find (λ (k : ℤ × Image). int_eq k.0 e.tip) ks)) l.kept
        ∙ (ap (option_map (λ (k : ℤ × Image). k.1)) (find-append (λ (k : ℤ × Image). int_eq k.0 e.tip) e.images.kept l.images)
        ∙ ap (λ (o : Option (ℤ × Image)). option_map (λ (k : ℤ × Image). k.1) (option_or o (find (λ (k : ℤ × Image). int_eq k.0 e.tip) l.images))) tip_found)

    -- the transaction that was open then
    begun_found : begun_at after e.tip ≡ e.images.begun
    begun_found =
        ap (λ (bs : List (ℤ × Option ℤ)). begun_under (find (λ (b : ℤ × Option ℤ). int_eq b.0 e.tip) bs)) l.begun
        ∙ (ap begun_under (find-append (λ (b : ℤ × Option ℤ). int_eq b.0 e.tip) e.images.kept_begun l.begins)
        ∙ (first_or (find (λ (b : ℤ × Option ℤ). int_eq b.0 e.tip) e.images.kept_begun) (find (λ (b : ℤ × Option ℤ). int_eq b.0 e.tip) l.begins) (none_found e.tip l.begins l.later_begins)
        ∙ r.begun))

    abbrev begun_stay : List (ℤ × Option ℤ)
    begun_stay = filter (stays e.tip) after.kept_begun

    begun_back : begun_stay ≡ e.images.kept_begun
    begun_back =
        ap (λ (bs : List (ℤ × Option ℤ)). filter (stays e.tip) bs) l.begun
        ∙ first_stay e.tip e.images.kept_begun l.begins (subst (AllByRecursion (λ z. int_lt e.tip z ≡ false)) (sym valid.begun.beside) low_places) l.later_begins

    pub images_back : unwrap_or (reverted after e.tip) after ≡ e.images
    images_back =
        ap (λ (o : Option Image). unwrap_or (option_map (λ (tip : Image). with_lists tip (filter (stays e.tip) after.kept) (filter (stays e.tip) after.kept_made) (begun_at after e.tip) begun_stay) o) after) found
        ∙ (ap (λ (ks : List (ℤ × Image)). with_lists e.images.tip (filter (stays e.tip) ks) (filter (stays e.tip) after.kept_made) (begun_at after e.tip) begun_stay) l.kept
        ∙ (ap (λ (ks : List (ℤ × Image)). with_lists e.images.tip ks (filter (stays e.tip) after.kept_made) (begun_at after e.tip) begun_stay) (first_stay e.tip e.images.kept l.images low_places l.later)
        ∙ (ap (λ (ms : List (ℤ × ℕ)). with_lists e.images.tip e.images.kept (filter (stays e.tip) ms) (begun_at after e.tip) begun_stay) l.calls
        ∙ (ap (λ (ms : List (ℤ × ℕ)). with_lists e.images.tip e.images.kept ms (begun_at after e.tip) begun_stay)
        (first_stay e.tip e.images.kept_made l.counts (subst (AllByRecursion (λ z. int_lt e.tip z ≡ false)) (sym valid.beside) low_places) l.later_counts)
        ∙ (ap (λ b. with_lists e.images.tip e.images.kept e.images.kept_made b begun_stay) begun_found
        ∙ (ap (λ bs. with_lists e.images.tip e.images.kept e.images.kept_made e.images.begun bs) begun_back
        ∙ ap (λ m. record e.images { made = m }) (sym r.unmade)))))))

-- ---- the engine that was found

-- at another time, where nothing was added yet
abbrev begun_core : Core → ℤ → Core
begun_core e time = record e { time = time; fresh = [] }

module _ (e begun left : Core) (now : ℤ) (is : begun ≡ begun_core e now) (none : outputs_left e ≡ []) where
  taken_back : (after : Core) (time : ℤ) (fresh : List Entry) → GivesAlone begun left → after ≡ record left { time = time; given = []; fresh = fresh } → time ≡ e.time → fresh ≡ e.fresh → after ≡ e
  taken_back after time fresh only back same_time same_fresh =
      back
      ∙ (ap (λ (c : Core). record c { time = time; given = []; fresh = fresh }) only
      ∙ (ap (λ (c : Core). record c { time = time; given = []; fresh = fresh }) is
      ∙ (ap (λ t. record e { time = t; given = []; fresh = fresh }) same_time
      ∙ (ap (λ f. record e { given = []; fresh = f }) same_fresh
      ∙ ap (λ g. record e { given = g }) (sym (drained e none).none_given)))))

  -- an event that changed no image
  alone : {X E : Type 0} (settled : Result X E) (after : Core) (time : ℤ) (fresh : List Entry) → OnErr settled (GivesAlone begun left)
      → OnErr settled (after ≡ record left { time = time; given = []; fresh = fresh }) → time ≡ e.time → fresh ≡ e.fresh → OnErr settled (after ≡ e)
  alone (Ok x) after time fresh only back same_time same_fresh = tt
  alone (Err fault) after time fresh only back same_time same_fresh = taken_back after time fresh only back same_time same_fresh

  pub unchanged_alone : {X E : Type 0} (result settled : Result X E) (after : Core) (time : ℤ) (fresh : List Entry) → result ≡ settled → OnErr settled (GivesAlone begun left)
      → OnErr settled (after ≡ record left { time = time; given = []; fresh = fresh }) → time ≡ e.time → fresh ≡ e.fresh → OnErr result (after ≡ e)
  unchanged_alone {X} {E} result settled after time fresh same only back same_time same_fresh =
      subst (λ (r : Result X E). OnErr r (after ≡ e)) (sym same) (alone settled after time fresh only back same_time same_fresh)

module _ (e begun between left : Core) (now : ℤ) (is : begun ≡ begun_core e now) (none : outputs_left e ≡ []) (r : IsReady e) (valid : AreValid e.images) (tip : ℤ) (at : tip ≡ e.tip) where
  images_found : BreaksOff begun between → left ≡ record between { images = unwrap_or (reverted between.images tip) between.images; tip = tip } → GivesAlone begun left
  images_found b back =
      let longer : IsLonger e.images between.images e.tip = subst (λ (c : Core). IsLonger c.images between.images c.tip) is b.longer in
      let images : unwrap_or (reverted between.images tip) between.images ≡ begun.images =
      ap (λ t. unwrap_or (reverted between.images t) between.images) at ∙ (images_back e r valid between.images longer ∙ sym (ap (λ (c : Core). c.images) is)) in
      let place : tip ≡ begun.tip = at ∙ sym (ap (λ (c : Core). c.tip) is) in
      let so : left ≡ record begun { given = between.given; fresh = between.fresh } =
      back
      ∙ (ap (λ (c : Core). record c { images = unwrap_or (reverted between.images tip) between.images; tip = tip }) b.same
      ∙ (ap (λ (i : Images). record begun { images = i; tip = tip; given = between.given; fresh = between.fresh }) images
      ∙ ap (λ t. record begun { tip = t; given = between.given; fresh = between.fresh }) place)) in
      subst (λ (a : Core). GivesAlone begun a) (sym so) refl

  with_images : {X E : Type 0} (settled : Result X E) (after : Core) (time : ℤ) (fresh : List Entry) → OnErr settled (BreaksOff begun between)
      → OnErr settled (left ≡ record between { images = unwrap_or (reverted between.images tip) between.images; tip = tip })
      → OnErr settled (after ≡ record left { time = time; given = []; fresh = fresh }) → time ≡ e.time → fresh ≡ e.fresh → OnErr settled (after ≡ e)
  with_images (Ok x) after time fresh broken undone back same_time same_fresh = tt
  with_images (Err fault) after time fresh broken undone back same_time same_fresh =
      taken_back e begun left now is none after time fresh (images_found broken undone) back same_time same_fresh

  pub unchanged : {X E : Type 0} (result settled : Result X E) (after : Core) (time : ℤ) (fresh : List Entry) → result ≡ settled → OnErr settled (BreaksOff begun between)
      → OnErr settled (left ≡ record between { images = unwrap_or (reverted between.images tip) between.images; tip = tip })
      → OnErr settled (after ≡ record left { time = time; given = []; fresh = fresh }) → time ≡ e.time → fresh ≡ e.fresh → OnErr result (after ≡ e)
  unchanged {X} {E} result settled after time fresh same broken undone back same_time same_fresh =
      subst (λ (r : Result X E). OnErr r (after ≡ e)) (sym same) (with_images settled after time fresh broken undone back same_time same_fresh)

-- ---- an event that is settled

so_counted : {S P X E : Type 0} (settled : Result X E) (between left after : Core) → OnOk settled S → OnOk settled (left ≡ between) → OnOk settled (after ≡ counted_core left)
    → (S → after ≡ counted_core between → P) → OnOk settled P
so_counted (Ok x) between left after settles same counts then = then settles (counts ∙ ap counted_core same)
so_counted (Err fault) between left after settles same counts then = tt

pub settled_then : {S P X E : Type 0} (result settled : Result X E) (between left after : Core) → result ≡ settled → OnOk settled S → OnOk settled (left ≡ between) → OnOk settled (after ≡ counted_core left)
    → (S → after ≡ counted_core between → P) → OnOk result P
settled_then {S} {P} {X} {E} result settled between left after is settles same counts then =
    subst (λ (r : Result X E). OnOk r P) (sym is) (so_counted settled between left after settles same counts then)

alone_counted : {S P X E : Type 0} (settled : Result X E) (left after : Core) → OnOk settled S → OnOk settled (after ≡ counted_core left) → (S → after ≡ counted_core left → P) → OnOk settled P
alone_counted (Ok x) left after settles counts then = then settles counts
alone_counted (Err fault) left after settles counts then = tt

-- the same for one that changes no image where memory is wanted
pub settled_alone : {S P X E : Type 0} (result settled : Result X E) (left after : Core) → result ≡ settled → OnOk settled S → OnOk settled (after ≡ counted_core left) → (S → after ≡ counted_core left → P) → OnOk result P
settled_alone {S} {P} {X} {E} result settled left after is settles counts then =
    subst (λ (r : Result X E). OnOk r P) (sym is) (alone_counted settled left after settles counts then)

-- whatever the answer, the engine stands for some past events
pub sound_then : {X E : Type 0} (result : Result X E) (e after : Core) (event : Event) → IsSound e → OnOk result (IsStep e after event) → OnErr result (after ≡ e) → IsSound after
sound_then (Ok x) e after event sound step same = stepped_sound e after event step sound
sound_then (Err fault) e after event sound step same = subst (λ (a : Core). IsSound a) (sym same) sound

pub whatever : {X E P : Type 0} (r : Result X E) → P → OnErr r P
whatever (Ok x) p = tt
whatever (Err fault) p = p
