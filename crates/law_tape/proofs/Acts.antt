-- An act that has no fault is one that the laws allow, and each such act has none.
use Rattle.std.proofs.Common.{◌≡◌, ◌∙◌, sym, ℕ, zero, suc, ◌+◌, ◌<◌, ◌≤◌, Bool, true, false, cond, List, [], ◌∷◌, ◌++◌, refl, ap, subst, arith, inl, inr, ◌⊎◌, map, reverse}
use Rattle.std.proofs.lemmas.Bool.{eqb-true}
use Rattle.std.specs.Prelude.{◌&&◌, ◌||◌, not, length, drop, Option, None, Some, is_some, nat_eq, nat_le, nat_lt, slice_get}
use Rattle.std.specs.List.{list_any}
use Rattle.std.specs.Option.{option_map_or}
use Rattle.law_quorum.specs.Batches.{Batch, BatchStandsAt, ImageStandsFor, Meet, StoredImage, behind}
use Rattle.law_quorum.specs.Nodes.{Node}
use Rattle.law_quorum.proofs.Places.{meet_before}
use Rattle.law_link.specs.Links.{Has, Held, IsPossible, Keep, Link, Web}
use Rattle.law_link.specs.Links as steps
use Rattle.law_link.proofs.LinkSteps.{IsWeb, RightAt}
use Rattle.law_tape.specs.Equality.{begins_with, same_batch, same_bytes}
use Rattle.law_tape.specs.Rules.{Side, TapeState, act_fault, digest_at, end_behind, has_at, holds_epoch, is_boundary, is_empty, is_first, is_fold, is_number, side_of, took}
use Rattle.law_tape.specs.Tapes.{IsPossibleLine, fold_of}
use Rattle.law_tape.specs.declared.line.LinkAct.{LinkAct}
use Rattle.law_tape.specs.declared.line.LinkAct.TheVariants as acts
use Rattle.law_tape.specs.declared.line.Line.TheVariants as lines
use Rattle.law_tape.specs.declared.fault.Fault.TheVariants as faults
use Rattle.law_tape.proofs.Allowed.{goes_on, holds_it, is_none, is_the_number, it_holds, it_took, none_is, number_is, passes, took_it}
use Rattle.law_tape.proofs.EqualityLemmas.{bytes_are, eq_true, has_some, holds_not, le_true, lt_true, not_holds, some_has, true_le, true_lt, are_bytes}
use Rattle.law_tape.proofs.Logs.{at_ends, at_stands, begins, behind_is, ends_at, first_is, is_behind, is_the_first, it_begins, stands_at}
use Rattle.law_tape.proofs.Standing.{Shows}

true_or_not : (t : Bool) → t ≡ true → t ≡ false → ⊥
true_or_not t a b = cc

none_more : (n : ℕ) → suc n ≡ zero → ⊥
none_more n e = cc

is_false : (t : Bool) → (t ≡ true → ⊥) → t ≡ false
is_false true h = absurd (h refl)
is_false false h = refl

module _ (folds : List StoredImage) (w : Web) (s : TapeState) (h : Shows w s) (web : IsWeb (fold_of folds) w) (k : ℕ) where
  abbrev side : Side
  side = side_of s.sides k

  abbrev n : Node
  n = w.cluster.nodes k

  abbrev l : Link
  l = w.links k

  leads : n.leads ≡ side.node.leads
  leads = ap (λ (x : Node). x.leads) (h.node k)

  end : n.end ≡ side.node.end
  end = ap (λ (x : Node). x.end) (h.node k)

  held : l.held ≡ side.link.held
  held = ap (λ (x : Link). x.held) (h.link k)

  asked : l.asked ≡ side.link.asked
  asked = ap (λ (x : Link). x.asked) (h.link k)

  waits : l.waits ≡ side.link.waits
  waits = ap (λ (x : Link). x.waits) (h.link k)

  pipe : l.pipe ≡ side.link.pipe
  pipe = ap (λ (x : Link). x.pipe) (h.link k)

  won : l.won ≡ reverse side.link.won
  won = ap (λ (x : Link). x.won) (h.link k)

  log_meets : Meet 0 s.store.log
  log_meets = subst (Meet 0) h.store.log web.cluster.one.meet

  -- what a node that leads wrote meets, and begins with what is asked
  own_meets : (epoch : ℕ) → n.leads ≡ Some epoch → Meet n.end n.own × Meet n.end l.asked
  own_meets epoch e = by l.held (subst (λ (o : Option ℕ). RightAt w.cluster.point.leaderships k n l l.held o) e (web.right k))
    where
      by : (o : Option Held) → RightAt w.cluster.point.leaderships k n l o (Some epoch) → Meet n.end n.own × Meet n.end l.asked
      by None r = absurd r
      by (Some x) r = (r.meet, meet_before n.end l.asked r.rest (subst (Meet n.end) r.own r.meet))

  -- ---- Win

  win_allowed : (e : Held) → act_fault folds s.store k side (acts.Win e) ≡ None → IsPossible (fold_of folds) w (steps.Win k e)
  win_allowed e f =
      let a = passes faults.Holds _ _ f in
      let b = passes faults.ToldBefore _ _ a.1 in
      let c = passes faults.NotTaken _ _ b.1 in (
        held ∙ is_none side.link.held a.0,
        λ has. true_or_not _ (some_has e.epoch (λ x. nat_eq x e.epoch) (λ y same. eq_true y e.epoch (sym same)) (reverse side.link.won) (subst (Has e.epoch) won has)) b.0,
        took_it k e w.cluster.point.leaderships (ap (λ ls. took ls k e) h.store.leaderships ∙ holds_not _ c.0),
      )

  allowed_win : (e : Held) → IsPossible (fold_of folds) w (steps.Win k e) → act_fault folds s.store k side (acts.Win e) ≡ None
  allowed_win e p =
      goes_on faults.Holds _ _ (none_is side.link.held (sym held ∙ p.0))
      (goes_on faults.ToldBefore _ _ (is_false _ (λ t. p.1 (subst (Has e.epoch) (sym won) (has_some e.epoch (λ x. nat_eq x e.epoch) (λ y same. sym (eqb-true y e.epoch same)) (reverse side.link.won) t))))
      (goes_on faults.NotTaken _ _ (not_holds _ (ap (λ ls. took ls k e) (sym h.store.leaderships) ∙ it_took k e w.cluster.point.leaderships p.2)) refl))

  -- ---- Read

  read_allowed : (b : Batch) → act_fault folds s.store k side (acts.Read b) ≡ None → IsPossible (fold_of folds) w (steps.Read k b)
  read_allowed b f =
      let a = passes faults.Leads _ _ f in
      let c = passes faults.NotInLog _ _ a.1 in
      let at : BatchStandsAt s.store.log side.node.end b = stands_at s.store.log side.node.end b log_meets (holds_not _ c.0) in (
        leads ∙ is_none side.node.leads a.0,
        subst (λ (log : List Batch). BatchStandsAt log n.end b) (sym h.store.log) (subst (λ (place : ℕ). BatchStandsAt s.store.log place b) (sym end) at),
      )

  allowed_read : (b : Batch) → IsPossible (fold_of folds) w (steps.Read k b) → act_fault folds s.store k side (acts.Read b) ≡ None
  allowed_read b p =
      let at : BatchStandsAt s.store.log n.end b = subst (λ (log : List Batch). BatchStandsAt log n.end b) h.store.log p.1 in
      goes_on faults.Leads _ _ (none_is side.node.leads (sym leads ∙ p.0))
      (goes_on faults.NotInLog _ _ (not_holds _ (at_stands s.store.log side.node.end b log_meets (subst (λ (place : ℕ). BatchStandsAt s.store.log place b) end at))) refl)

  -- ---- Take

  is_fold_of : (image : StoredImage) (gone : List Batch) → behind 0 gone ≡ image.offset → is_fold folds image ≡ true → image.bytes ≡ fold_of folds gone
  is_fold_of image gone at t = bytes_are _ _ t ∙ ap (λ place. place ∷ digest_at folds place) (sym at)

  fold_is : (image : StoredImage) (gone : List Batch) → behind 0 gone ≡ image.offset → image.bytes ≡ fold_of folds gone → is_fold folds image ≡ true
  fold_is image gone at e =
      let whole : image.bytes ≡ image.offset ∷ digest_at folds image.offset = e ∙ ap (λ place. place ∷ digest_at folds place) at in
      ap (λ bytes. same_bytes bytes (image.offset ∷ digest_at folds image.offset)) whole ∙ are_bytes (image.offset ∷ digest_at folds image.offset)

  image_stands : (image : StoredImage) → is_boundary s.store.log image.offset ≡ true → is_fold folds image ≡ true → ImageStandsFor (fold_of folds) w.cluster.point.log image
  image_stands image at is =
      let e = ends_at s.store.log image.offset log_meets at in
      record { gone = e.gone; rest = e.rest; split = h.store.log ∙ e.split; offset = e.ends; bytes = is_fold_of image e.gone e.ends is }

  stands_image : (image : StoredImage) → ImageStandsFor (fold_of folds) w.cluster.point.log image → (is_boundary s.store.log image.offset ≡ true) × (is_fold folds image ≡ true)
  stands_image image p =
      let split : s.store.log ≡ p.gone ++ p.rest = sym h.store.log ∙ p.split in
      let meets : Meet 0 (p.gone ++ p.rest) = subst (Meet 0) split log_meets in
      (ap (λ (log : List Batch). is_boundary log image.offset) split ∙ at_ends p.gone p.rest image.offset meets p.offset, fold_is image p.gone p.offset p.bytes)

  take_allowed : (image : StoredImage) → act_fault folds s.store k side (acts.Take image) ≡ None → IsPossible (fold_of folds) w (steps.Take k image)
  take_allowed image f =
      let a = passes faults.Leads _ _ f in
      let b = passes faults.OlderImage _ _ a.1 in
      let c = passes faults.NoBoundary _ _ b.1 in
      let d = passes faults.OtherImage _ _ c.1 in
      let low : side.node.end ≤ image.offset = le_true side.node.end image.offset (holds_not _ b.0) in
      record {
        standby = leads ∙ is_none side.node.leads a.0;
        later = subst (λ (place : ℕ). place ≤ image.offset) (sym end) low;
        right = image_stands image (holds_not _ c.0) (holds_not _ d.0);
      }

  allowed_take : (image : StoredImage) → IsPossible (fold_of folds) w (steps.Take k image) → act_fault folds s.store k side (acts.Take image) ≡ None
  allowed_take image p =
      let r = stands_image image p.right in
      goes_on faults.Leads _ _ (none_is side.node.leads (sym leads ∙ p.standby))
      (goes_on faults.OlderImage _ _ (not_holds _ (true_le side.node.end image.offset (subst (λ (place : ℕ). place ≤ image.offset) end p.later)))
      (goes_on faults.NoBoundary _ _ (not_holds _ r.0) (goes_on faults.OtherImage _ _ (not_holds _ r.1) refl)))

  -- ---- Begin

  begin_allowed : (e : Held) → act_fault folds s.store k side (acts.Begin e) ≡ None → IsPossible (fold_of folds) w (steps.Begin k e)
  begin_allowed e f =
      let a = passes faults.NotHeld _ _ f in
      let b = passes faults.Leads _ _ a.1 in
      let c = passes faults.OtherPlace _ _ b.1 in
      record {
        holds = held ∙ holds_it side.link.held e (holds_not _ a.0);
        standby = leads ∙ is_none side.node.leads b.0;
        reached = end ∙ eqb-true side.node.end e.start (holds_not _ c.0);
      }

  allowed_begin : (e : Held) → IsPossible (fold_of folds) w (steps.Begin k e) → act_fault folds s.store k side (acts.Begin e) ≡ None
  allowed_begin e p =
      goes_on faults.NotHeld _ _ (not_holds _ (it_holds side.link.held e (sym held ∙ p.holds)))
      (goes_on faults.Leads _ _ (none_is side.node.leads (sym leads ∙ p.standby))
      (goes_on faults.OtherPlace _ _ (not_holds _ (eq_true side.node.end e.start (sym end ∙ p.reached))) refl))

  -- ---- Write

  tip : end_behind n.end n.own ≡ end_behind side.node.end side.node.own
  tip = ap (λ (x : Node). end_behind x.end x.own) (h.node k)

  write_allowed : (b : Batch) → act_fault folds s.store k side (acts.Write b) ≡ None → IsPossible (fold_of folds) w (steps.Write k b)
  write_allowed b f =
      let a = passes faults.NotLeading _ _ f in
      let c = passes faults.OtherPlace _ _ a.1 in
      let d = passes faults.Empty _ _ c.1 in
      record {
        leads = leads ∙ number_is side.node.leads b.epoch (holds_not _ a.0);
        base = sym (behind_is n.end n.own b.base (tip ∙ number_is (end_behind side.node.end side.node.own) b.base (holds_not _ c.0)));
        some = lt_true 0 b.count (holds_not _ d.0);
      }

  allowed_write : (b : Batch) → IsPossible (fold_of folds) w (steps.Write k b) → act_fault folds s.store k side (acts.Write b) ≡ None
  allowed_write b p =
      let ends : end_behind side.node.end side.node.own ≡ Some b.base = sym tip ∙ (is_behind n.end n.own (own_meets b.epoch p.leads).0 ∙ ap Some (sym p.base)) in
      goes_on faults.NotLeading _ _ (not_holds _ (is_the_number side.node.leads b.epoch (sym leads ∙ p.leads)))
      (goes_on faults.OtherPlace _ _ (not_holds _ (is_the_number (end_behind side.node.end side.node.own) b.base ends))
      (goes_on faults.Empty _ _ (not_holds _ (true_lt 0 b.count p.some)) refl))

  -- ---- Stray

  not_held : (o : Option Held) (epoch : ℕ) → holds_epoch o epoch ≡ false → (e : Held) → o ≡ Some e → epoch ≡ e.epoch → ⊥
  not_held o epoch t e is same = true_or_not (holds_epoch o epoch) (ap (λ (x : Option Held). holds_epoch x epoch) is ∙ eq_true e.epoch epoch (sym same)) t

  held_not : (o : Option Held) (epoch : ℕ) → ((e : Held) → o ≡ Some e → epoch ≡ e.epoch → ⊥) → holds_epoch o epoch ≡ false
  held_not None epoch over = refl
  held_not (Some e) epoch over = is_false (nat_eq e.epoch epoch) (λ t. over e refl (sym (eqb-true e.epoch epoch t)))

  stray_allowed : (b : Batch) → act_fault folds s.store k side (acts.Stray b) ≡ None → IsPossible (fold_of folds) w (steps.Stray k b)
  stray_allowed b f =
      let a = passes faults.NeverLed _ _ f in
      let c = passes faults.StillHeld _ _ a.1 in
      record {
        led = subst (Has b.epoch) (sym won) (has_some b.epoch (λ x. nat_eq x b.epoch) (λ y same. sym (eqb-true y b.epoch same)) (reverse side.link.won) (holds_not _ a.0));
        over = λ e is. not_held side.link.held b.epoch c.0 e (sym held ∙ is);
      }

  allowed_stray : (b : Batch) → IsPossible (fold_of folds) w (steps.Stray k b) → act_fault folds s.store k side (acts.Stray b) ≡ None
  allowed_stray b p =
      goes_on faults.NeverLed _ _ (not_holds _ (some_has b.epoch (λ x. nat_eq x b.epoch) (λ y same. eq_true y b.epoch (sym same)) (reverse side.link.won) (subst (Has b.epoch) won p.led)))
      (goes_on faults.StillHeld _ _ (held_not side.link.held b.epoch (λ e is. p.over e (held ∙ is))) refl)

  -- ---- Hear, Pass

  next_is : (b : Batch) → is_first side.link.pipe b ≡ true → l.pipe ≡ b ∷ drop 1 l.pipe
  next_is b t = first_is l.pipe b (ap (λ (xs : List Batch). is_first xs b) pipe ∙ t)

  is_next : (b : Batch) (rest : List Batch) → l.pipe ≡ b ∷ rest → is_first side.link.pipe b ≡ true
  is_next b rest e = is_the_first side.link.pipe b rest (sym pipe ∙ e)

  hear_allowed : (b : Batch) → act_fault folds s.store k side (acts.Hear b) ≡ None → IsPossible (fold_of folds) w (steps.Hear k b (drop 1 l.pipe))
  hear_allowed b f =
      let a = passes faults.NotNext _ _ f in
      let c = passes faults.NotLeading _ _ a.1 in
      (next_is b (holds_not _ a.0), leads ∙ number_is side.node.leads b.epoch (holds_not _ c.0))

  allowed_hear : (b : Batch) → IsPossible (fold_of folds) w (steps.Hear k b (drop 1 l.pipe)) → act_fault folds s.store k side (acts.Hear b) ≡ None
  allowed_hear b p =
      goes_on faults.NotNext _ _ (not_holds _ (is_next b (drop 1 l.pipe) p.0))
      (goes_on faults.NotLeading _ _ (not_holds _ (is_the_number side.node.leads b.epoch (sym leads ∙ p.1))) refl)

  pass_allowed : (b : Batch) → act_fault folds s.store k side (acts.Pass b) ≡ None → IsPossible (fold_of folds) w (steps.Pass k b (drop 1 l.pipe))
  pass_allowed b f =
      let a = passes faults.NotNext _ _ f in
      let c = passes faults.OfTheEpoch _ _ a.1 in
      (next_is b (holds_not _ a.0), λ e. true_or_not _ (is_the_number side.node.leads b.epoch (sym leads ∙ e)) c.0)

  allowed_pass : (b : Batch) → IsPossible (fold_of folds) w (steps.Pass k b (drop 1 l.pipe)) → act_fault folds s.store k side (acts.Pass b) ≡ None
  allowed_pass b p =
      goes_on faults.NotNext _ _ (not_holds _ (is_next b (drop 1 l.pipe) p.0))
      (goes_on faults.OfTheEpoch _ _ (is_false _ (λ t. p.1 (leads ∙ number_is side.node.leads b.epoch t))) refl)

  -- ---- Ask

  empty_is : (list : List Batch) → is_empty list ≡ true → list ≡ []
  empty_is [] t = refl
  empty_is (x ∷ xs) t = let e : suc (length xs) ≡ zero = eqb-true (length (x ∷ xs)) zero t in absurd cc

  not_empty : (x : Batch) (xs : List Batch) → is_empty (x ∷ xs) ≡ false
  not_empty x xs = is_false (is_empty (x ∷ xs)) (λ t. none_more (length xs) (eqb-true (length (x ∷ xs)) zero t))

  is_none_more : (list : List Batch) → list ≡ [] → is_empty list ≡ true
  is_none_more list e = ap is_empty e ∙ eq_true zero zero refl

  ask_allowed : (e : Held) (group : List Batch) → act_fault folds s.store k side (acts.Ask e group) ≡ None → IsPossible (fold_of folds) w (steps.Ask k e group (drop (length group) l.waits))
  ask_allowed e [] f =
      let a = passes faults.NotHeld _ _ f in
      let b = passes faults.NotLeading _ _ a.1 in
      let c = passes faults.UnderWay _ _ b.1 in
      let d = passes faults.Empty (is_empty []) (cond (not (begins_with side.link.waits [])) (Some faults.NotNext) None) c.1 in absurd (true_or_not (is_empty []) (eq_true zero zero refl) d.0)
  ask_allowed e (first ∷ others) f =
      let a = passes faults.NotHeld _ _ f in
      let b = passes faults.NotLeading _ _ a.1 in
      let c = passes faults.UnderWay _ _ b.1 in
      let d = passes faults.Empty _ _ c.1 in
      let g = passes faults.NotNext _ _ d.1 in
      record {
        holds = held ∙ holds_it side.link.held e (holds_not _ a.0);
        leads = leads ∙ number_is side.node.leads e.epoch (holds_not _ b.0);
        none = asked ∙ empty_is side.link.asked (holds_not _ c.0);
        first = first;
        others = others;
        some = refl;
        next = begins l.waits (first ∷ others) (ap (λ (xs : List Batch). begins_with xs (first ∷ others)) waits ∙ holds_not _ g.0);
      }

  allowed_ask : (e : Held) (group : List Batch) → IsPossible (fold_of folds) w (steps.Ask k e group (drop (length group) l.waits)) → act_fault folds s.store k side (acts.Ask e group) ≡ None
  allowed_ask e group p =
      goes_on faults.NotHeld _ _ (not_holds _ (it_holds side.link.held e (sym held ∙ p.holds)))
      (goes_on faults.NotLeading _ _ (not_holds _ (is_the_number side.node.leads e.epoch (sym leads ∙ p.leads)))
      (goes_on faults.UnderWay _ _ (not_holds _ (is_none_more side.link.asked (sym asked ∙ p.none)))
      (goes_on faults.Empty _ _ (ap is_empty p.some ∙ not_empty p.first p.others)
      (goes_on faults.NotNext _ _ (not_holds _ (ap (λ (xs : List Batch). begins_with xs group) (sym waits ∙ p.next) ∙ it_begins group (drop (length group) l.waits))) refl))))

  -- ---- Settle

  first_stands : (list : List Batch) → is_empty list ≡ false → option_map_or (λ b. has_at s.store b side.node.end) (slice_get list 0) false ≡ true
      → (first : Batch) × (others : List Batch) × (list ≡ first ∷ others) × (has_at s.store first side.node.end ≡ true)
  first_stands [] e t = absurd (true_or_not (is_empty []) (eq_true zero zero refl) e)
  first_stands (first ∷ others) e t = (first, others, refl, t)

  settle_allowed : (e : Held) (last : ℕ) → act_fault folds s.store k side (acts.Settle e last) ≡ None → IsPossible (fold_of folds) w (steps.Settle k e) × (behind n.end l.asked ≡ last)
  settle_allowed e last f =
      let a = passes faults.NotHeld _ _ f in
      let b = passes faults.NotLeading _ _ a.1 in
      let c = passes faults.NoneAsked _ _ b.1 in
      let d = passes faults.NotInLog _ _ c.1 in
      let g = passes faults.OtherEnd _ _ d.1 in
      let first = first_stands side.link.asked c.0 (holds_not _ d.0) in
      let at : BatchStandsAt s.store.log side.node.end first.0 = stands_at s.store.log side.node.end first.0 log_meets first.3 in
      let ends : behind side.node.end side.link.asked ≡ last = behind_is side.node.end side.link.asked last (number_is (end_behind side.node.end side.link.asked) last (holds_not _ g.0)) in (
        record {
          holds = held ∙ holds_it side.link.held e (holds_not _ a.0);
          leads = leads ∙ number_is side.node.leads e.epoch (holds_not _ b.0);
          first = first.0;
          others = first.1;
          some = asked ∙ first.2;
          seen = subst (λ (log : List Batch). BatchStandsAt log n.end first.0) (sym h.store.log) (subst (λ (place : ℕ). BatchStandsAt s.store.log place first.0) (sym end) at);
        },
        ap (λ (place : ℕ). behind place l.asked) end ∙ (ap (behind side.node.end) asked ∙ ends),
      )

  allowed_settle : (e : Held) (last : ℕ) → IsPossible (fold_of folds) w (steps.Settle k e) → behind n.end l.asked ≡ last → act_fault folds s.store k side (acts.Settle e last) ≡ None
  allowed_settle e last p shown =
      let at : BatchStandsAt s.store.log n.end p.first = subst (λ (log : List Batch). BatchStandsAt log n.end p.first) h.store.log p.seen in
      let has : has_at s.store p.first side.node.end ≡ true = at_stands s.store.log side.node.end p.first log_meets (subst (λ (place : ℕ). BatchStandsAt s.store.log place p.first) end at) in
      let list : side.link.asked ≡ p.first ∷ p.others = sym asked ∙ p.some in
      let ends : end_behind side.node.end side.link.asked ≡ Some last =
      ap (λ (place : ℕ). end_behind place side.link.asked) (sym end)
      ∙ (ap (end_behind n.end) (sym asked) ∙ (is_behind n.end l.asked (own_meets e.epoch p.leads).1 ∙ ap Some shown)) in
      goes_on faults.NotHeld _ _ (not_holds _ (it_holds side.link.held e (sym held ∙ p.holds)))
      (goes_on faults.NotLeading _ _ (not_holds _ (is_the_number side.node.leads e.epoch (sym leads ∙ p.leads)))
      (goes_on faults.NoneAsked _ _ (ap is_empty list ∙ not_empty p.first p.others)
      (goes_on faults.NotInLog _ _ (not_holds _ (ap (λ (xs : List Batch). option_map_or (λ b. has_at s.store b side.node.end) (slice_get xs 0) false) list ∙ has))
      (goes_on faults.OtherEnd _ _ (not_holds _ (is_the_number (end_behind side.node.end side.link.asked) last ends)) refl))))

  -- ---- Give

  give_allowed : (keep : Keep) → act_fault folds s.store k side (acts.Give keep) ≡ None → IsPossible (fold_of folds) w (steps.Give k keep)
  give_allowed keep f =
      let a = passes faults.OlderImage _ _ f in
      let b = passes faults.NoBoundary _ _ a.1 in
      let c = passes faults.OtherImage _ _ b.1 in
      record { later = lt_true keep.before keep.image.offset (holds_not _ a.0); right = image_stands keep.image (holds_not _ b.0) (holds_not _ c.0) }

  allowed_give : (keep : Keep) → IsPossible (fold_of folds) w (steps.Give k keep) → act_fault folds s.store k side (acts.Give keep) ≡ None
  allowed_give keep p =
      let r = stands_image keep.image p.right in
      goes_on faults.OlderImage _ _ (not_holds _ (true_lt keep.before keep.image.offset p.later))
      (goes_on faults.NoBoundary _ _ (not_holds _ r.0) (goes_on faults.OtherImage _ _ (not_holds _ r.1) refl))

  -- ---- GiveUp, LetGo

  give_up_allowed : (epoch : ℕ) → act_fault folds s.store k side (acts.GiveUp epoch) ≡ None → IsPossible (fold_of folds) w (steps.GiveUp k epoch)
  give_up_allowed epoch f = leads ∙ number_is side.node.leads epoch (holds_not _ (passes faults.NotLeading _ _ f).0)

  allowed_give_up : (epoch : ℕ) → IsPossible (fold_of folds) w (steps.GiveUp k epoch) → act_fault folds s.store k side (acts.GiveUp epoch) ≡ None
  allowed_give_up epoch p = goes_on faults.NotLeading _ _ (not_holds _ (is_the_number side.node.leads epoch (sym leads ∙ p))) refl

  let_go_allowed : act_fault folds s.store k side acts.LetGo ≡ None → IsPossible (fold_of folds) w (steps.LetGo k)
  let_go_allowed f = leads ∙ is_none side.node.leads (passes faults.Leads _ _ f).0

  allowed_let_go : IsPossible (fold_of folds) w (steps.LetGo k) → act_fault folds s.store k side acts.LetGo ≡ None
  allowed_let_go p = goes_on faults.Leads _ _ (none_is side.node.leads (sym leads ∙ p)) refl

  -- ---- each act

  pub act_allowed : (act : LinkAct) → act_fault folds s.store k side act ≡ None → IsPossibleLine folds w (lines.Link k act)
  act_allowed (acts.Win e) f = (win_allowed e f, tt)
  act_allowed (acts.Read b) f = (read_allowed b f, tt)
  act_allowed (acts.Take image) f = (take_allowed image f, tt)
  act_allowed (acts.Begin e) f = (begin_allowed e f, tt)
  act_allowed (acts.Write b) f = (write_allowed b f, tt)
  act_allowed (acts.Stray b) f = (stray_allowed b f, tt)
  act_allowed (acts.Hear b) f = (hear_allowed b f, tt)
  act_allowed (acts.Pass b) f = (pass_allowed b f, tt)
  act_allowed (acts.Ask e group) f = (ask_allowed e group f, tt)
  act_allowed (acts.Settle e last) f = settle_allowed e last f
  act_allowed (acts.Give keep) f = (give_allowed keep f, tt)
  act_allowed (acts.GiveUp epoch) f = (give_up_allowed epoch f, tt)
  act_allowed acts.LetGo f = (let_go_allowed f, tt)
  act_allowed acts.Renew f = (tt, tt)

  pub allowed_act : (act : LinkAct) → IsPossibleLine folds w (lines.Link k act) → act_fault folds s.store k side act ≡ None
  allowed_act (acts.Win e) p = allowed_win e p.0
  allowed_act (acts.Read b) p = allowed_read b p.0
  allowed_act (acts.Take image) p = allowed_take image p.0
  allowed_act (acts.Begin e) p = allowed_begin e p.0
  allowed_act (acts.Write b) p = allowed_write b p.0
  allowed_act (acts.Stray b) p = allowed_stray b p.0
  allowed_act (acts.Hear b) p = allowed_hear b p.0
  allowed_act (acts.Pass b) p = allowed_pass b p.0
  allowed_act (acts.Ask e group) p = allowed_ask e group p.0
  allowed_act (acts.Settle e last) p = allowed_settle e last p.0 p.1
  allowed_act (acts.Give keep) p = allowed_give keep p.0
  allowed_act (acts.GiveUp epoch) p = allowed_give_up epoch p.0
  allowed_act acts.LetGo p = allowed_let_go p.0
  allowed_act acts.Renew p = refl
