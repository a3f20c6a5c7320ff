-- The records of the log have a meaning, one after the other: a leader writes what has one behind the log that it began with, and what is
-- appended for it is what it wrote, in its order.
use Rattle.std.proofs.Common.{◌≡◌, ◌∙◌, sym, subst, ℕ, ◌+◌, ◌<◌, ◌≤◌, Bool, true, false, cond, List, [], ◌∷◌, ◌++◌, length, take, drop, refl, ap, arith, inl, inr, ◌⊎◌}
use Rattle.std.specs.Prelude.{nat_eq, IsOk, Some, None}
use Rattle.std.specs.List.{AllByRecursion}
use Rattle.std.proofs.lemmas.Bool.{eqb-true}
use Rattle.std.proofs.lemmas.Bool.Decides.{nat_tests}
use Rattle.std.proofs.lemmas.List.{append-nil, append_assoc, length-append, take_all, take_at, take-append-drop, take-append-le}
use Rattle.kr_defs.specs.declared.record.Item.{Item}
use Rattle.kr_defs.specs.Image.{empty}
use Rattle.kr_defs.specs.Log.{apply_all}
use Rattle.law_quorum.specs.Batches.{Batch, Meet, behind}
use Rattle.law_quorum.specs.Changes.{Append, Campaign, Change, Drop, Expire, Other, base_of_first, compares, leads_by}
use Rattle.law_quorum.specs.History.{Leadership, Point, batches_appended, point_after, with_wrote}
use Rattle.law_quorum.specs.Laws.{AreBehind}
use Rattle.law_quorum.specs.NodeLaws.{IsFedNode}
use Rattle.law_quorum.specs.Nodes.{Node, after_loss, committed, ended_batches, fed, loaded, new_node, told_to_lead, unended_batches}
use Rattle.law_quorum.proofs.FedNodes.{begins_log}
use Rattle.law_quorum.proofs.KeptLog.{both}
use Rattle.law_quorum.proofs.Places.{behind_append, meet_before}
use Rattle.law_link.specs.Links.{Ask, Begin, Call, Clear, Execute, Give, GiveUp, Has, Hear, Held, IsFree, IsPossible, LetGo, Link, LinkStep, Make, MayAsk, MaySettle, Pass, Read, Renew, Settle, Stray, Take, Web, Win, Write, append_of, idle, leadership_at, no_web, set_link, stepped}
use Rattle.law_link.proofs.FoundLeaderships.{Stays, found_led, found_longer, found_other, is_latest, longer_by, no_append_stays, refused_stays, same_leadership}
use Rattle.law_link.proofs.LateFrames.{at_node}
use Rattle.law_link.proofs.LinkSteps.{CallRight, IsWeb, Runs, all_before, all_map2, has_all, of_epoch, runs_at, up_to}
use Rattle.law_link.proofs.StepLaws.{step_right}
use Rattle.law_link.proofs.UnderWay.{none_leads, written}
use Rattle.law_nodes.specs.OneList.{list_items}
use Rattle.law_nodes.proofs.Logs.{front_means}
use Rattle.law_one_log.specs.StoredBatches.{batches_in, image_bytes}
use Rattle.law_one_log.proofs.ReadLists.{AllStored, IsStored, behind_items, items_in}
use Rattle.law_one_log.proofs.Stored.{WebHas}

abbrev pub items : List Batch → List Item
items bs = list_items (batches_in bs)

abbrev pub HasSense : List Item → Type 0
HasSense is = IsOk (apply_all empty is)

-- batches have a meaning behind what the log has below a place
abbrev pub SenseBehind : List Batch → ℕ → List Batch → Type 0
SenseBehind log end bs = HasSense (take end (items log) ++ items bs)

-- ---- beginnings of the log

module _ (log gone rest : List Batch) (stored : AllStored log) (split : log ≡ gone ++ rest) where
  gone_stored : AllStored gone
  gone_stored = all_before IsStored gone rest (subst (λ (l : List Batch). AllStored l) split stored)

  split_items : items log ≡ items gone ++ items rest
  split_items = ap (λ (l : List Batch). items l) split ∙ items_in gone rest

  pub below : take (behind 0 gone) (items log) ≡ items gone
  below =
      ap (λ (l : List Item). take (behind 0 gone) l) split_items
      ∙ take_at (items gone) (items rest) (behind 0 gone) (let at = behind_items 0 gone gone_stored in omega (arith, at))

  pub low : behind 0 gone ≤ length (items log)
  low =
      let at = behind_items 0 gone gone_stored in
      let long = ap (λ (l : List Item). length l) split_items ∙ length-append (items gone) (items rest) in
      omega (arith, at, long)

longer_below : (log more : List Batch) (end : ℕ) → end ≤ length (items log) → take end (items (log ++ more)) ≡ take end (items log)
longer_below log more end le = ap (λ (l : List Item). take end l) (items_in log more) ∙ take-append-le end (items log) (items more) le

-- ---- what is known

-- a call is of batches that the log is beyond, or that have a meaning at its end
abbrev pub CallHasSense : List Leadership → List Batch → Call → Type 0
CallHasSense ls log c = (l : Leadership) → leadership_at c.epoch ls ≡ Some l
    → (base_of_first c.group < behind 0 (l.start ++ l.wrote)) ⊎ ((base_of_first c.group ≡ behind 0 (l.start ++ l.wrote)) × SenseBehind log (base_of_first c.group) c.group)

abbrev pub ViewHasSense : List Batch → Node → Type 0
ViewHasSense log v = (epoch : ℕ) → v.leads ≡ Some epoch → SenseBehind log v.end v.own

pub record WebHasSense (w : Web) : Type 0 where
  pub whole : HasSense (items w.cluster.point.log)
  pub views : (k : ℕ) → ViewHasSense w.cluster.point.log (w.cluster.nodes k)
  pub calls : (k : ℕ) → AllByRecursion (CallHasSense w.cluster.point.leaderships w.cluster.point.log) (w.links k).calls

pub first_sense : WebHasSense no_web
first_sense = record { whole = refl; views = λ k epoch leads. absurd cc; calls = λ k. tt }

none_appended : (p : Point) (change : Change) → batches_appended change ≡ [] → (point_after p change).log ≡ p.log
none_appended p change none = by (compares p.keys change)
  where
    by : (t : Bool) → cond t (p.log ++ batches_appended change) p.log ≡ p.log
    by true = ap (λ (bs : List Batch). p.log ++ bs) none ∙ append-nil p.log
    by false = refl

pub itself : (k : ℕ) → nat_eq k k ≡ true
itself k = grind (arith, nat_tests)

module _ (w : Web) (h : IsWeb image_bytes w) (s : WebHas IsStored image_bytes w) (g : WebHasSense w) where
  abbrev p : Point
  p = w.cluster.point

  abbrev ls : List Leadership
  ls = p.leaderships

  abbrev log : List Batch
  log = p.log

  -- ---- the store

  abbrev after_change : Change → Web
  after_change change = record { cluster = record w.cluster { point = point_after p change }; links = w.links }

  kept_sense : (change : Change) → Stays ls (point_after p change).leaderships → (point_after p change).log ≡ log → WebHasSense (after_change change)
  kept_sense change stays same = record {
    whole = subst (λ (l : List Batch). HasSense (items l)) (sym same) g.whole;
    views = λ k. subst (λ (l : List Batch). ViewHasSense l (w.cluster.nodes k)) (sym same) (g.views k);
    calls = λ k. all_map2 (CallRight ls k (w.links k).won) (CallHasSense ls log) (CallHasSense (point_after p change).leaderships (point_after p change).log)
        (λ c r sense l found.
        let is : r.leadership ≡ l = same_leadership r.leadership l (sym (stays.on c.epoch r.leadership r.found) ∙ found) in
        subst (λ (x : Leadership). (base_of_first c.group < behind 0 (x.start ++ x.wrote)) ⊎ ((base_of_first c.group ≡ behind 0 (x.start ++ x.wrote)) × SenseBehind (point_after p change).log (base_of_first c.group) c.group)) is
        (subst (λ (y : List Batch). (base_of_first c.group < behind 0 (r.leadership.start ++ r.leadership.wrote)) ⊎ ((base_of_first c.group ≡ behind 0 (r.leadership.start ++ r.leadership.wrote)) × SenseBehind y (base_of_first c.group) c.group)) (sym same)
        (sense r.leadership r.found)))
        (w.links k).calls (h.calls k) (g.calls k);
  }

  free_none : (change : Change) → IsFree change → batches_appended change ≡ []
  free_none (Campaign node token epoch) f = refl
  free_none (Append made batches) f = absurd f
  free_none (Drop before image) f = absurd f
  free_none Expire f = refl
  free_none Other f = refl

  free_stays : (change : Change) → IsFree change → Stays ls (point_after p change).leaderships
  free_stays (Campaign node token epoch) f = no_append_stays p (Campaign node token epoch) h.cluster.order tt
  free_stays (Append made batches) f = absurd f
  free_stays (Drop before image) f = absurd f
  free_stays Expire f = no_append_stays p Expire h.cluster.order tt
  free_stays Other f = no_append_stays p Other h.cluster.order tt

  fed_low : (j : ℕ) → (w.cluster.nodes j).end ≤ length (items log)
  fed_low j =
      let f = h.cluster.nodes j in
      let v = w.cluster.nodes j in
      let here : behind 0 (f.gone ++ v.batches) ≤ length (items log) = low log (f.gone ++ v.batches) f.rest s.log f.split in
      let end = f.end in
      omega (arith, here, end)

  -- how another call stands to a leadership
  abbrev Then : Leadership → List Batch → Call → Type 0
  Then m x other = (base_of_first other.group < behind 0 (m.start ++ m.wrote)) ⊎ ((base_of_first other.group ≡ behind 0 (m.start ++ m.wrote)) × SenseBehind x (base_of_first other.group) other.group)

  call_later : (l : Leadership) (rest : List Leadership) (group : List Batch) (base : ℕ) → behind 0 (l.start ++ l.wrote) ≡ base → base < behind base group → ls ≡ l ∷ rest
      → (other : Call) (j : ℕ) → CallRight ls j (w.links j).won other → CallHasSense ls log other → CallHasSense (longer_by l group ∷ rest) (log ++ group) other
  call_later l rest group base end some is other j r old m found =
      elim (found_other other.epoch l r.leadership rest group (subst (λ (x : List Leadership). leadership_at other.epoch x ≡ Some r.leadership) is r.found)) [
        | inl x ↦ (
            let same : longer_by l group ≡ m = same_leadership (longer_by l group) m (sym (found_longer other.epoch l rest group x.0) ∙ found) in
            let before : Then l log other = subst (λ (y : Leadership). Then y log other) (sym x.1) (old r.leadership r.found) in
            let high : behind 0 (l.start ++ (l.wrote ++ group)) ≡ behind base group =
            ap (behind 0) (sym (append_assoc l.start l.wrote group)) ∙ (behind_append 0 (l.start ++ l.wrote) group ∙ ap (λ (y : ℕ). behind y group) end) in
            let beyond : base_of_first other.group < behind 0 (l.start ++ (l.wrote ++ group)) = elim before [
              | inl low ↦ (let e = end in let up = high in let more = some in omega (arith, low, e, up, more))
              | inr at ↦ (let here = at.0 in let e = end in let up = high in let more = some in omega (arith, here, e, up, more))
            ] in
            inl (subst (λ (y : Leadership). base_of_first other.group < behind 0 (y.start ++ y.wrote)) same beyond))
        | inr later ↦ (
            let same : r.leadership ≡ m = same_leadership r.leadership m (sym later ∙ found) in
            let begun = begins_log log ls r.leadership.node other.epoch r.leadership.start r.leadership.wrote h.cluster.order.pieces
            (found_led other.epoch r.leadership.node ls r.leadership r.leadership.wrote [] r.found refl (sym (append-nil r.leadership.wrote))) in
            let high = low log (r.leadership.start ++ r.leadership.wrote) begun.0 s.log begun.1 in
            let after : Then r.leadership (log ++ group) other = elim (old r.leadership r.found) [
              | inl under ↦ inl under
              | inr at ↦ (
                  let here = at.0 in
                  let le : base_of_first other.group ≤ length (items log) = omega (arith, here, high) in
                  inr (at.0, subst (λ (x : List Item). HasSense (x ++ items other.group)) (sym (longer_below log group (base_of_first other.group) le)) at.1))
            ] in
            subst (λ (y : Leadership). Then y (log ++ group) other) same after)
      ]

  module _ (k : ℕ) (call : Call) (has : Has call (w.links k).calls) where
    c : CallRight ls k (w.links k).won call
    c = has_all (CallRight ls k (w.links k).won) call (w.links k).calls (h.calls k) has

    takes_effect : compares p.keys (append_of call) ≡ true → WebHasSense (after_change (append_of call))
    takes_effect is =
        let l = c.leadership in
        let group = call.group in
        let base = base_of_first group in
        let tests = both (leads_by p.keys.leader call.made) (nat_eq p.keys.end base) is in
        let latest = is_latest p.keys.leader call.made (p.keys.revision + 1) call.epoch ls l tests.0 h.cluster.order.led h.cluster.order.made c.found c.key in
        let rest = latest.0 in
        let then : (point_after p (append_of call)).leaderships ≡ longer_by l group ∷ rest =
        ap (λ (t : Bool). cond t (with_wrote group ls) ls) is ∙ ap (with_wrote group) latest.1 in
        let longer : (point_after p (append_of call)).log ≡ log ++ group = ap (λ (t : Bool). cond t (log ++ group) log) is in
        let pieces : AreBehind log (l ∷ rest) = subst (AreBehind log) latest.1 h.cluster.order.pieces in
        let at_end : behind 0 log ≡ base = h.cluster.one.end ∙ eqb-true p.keys.end base tests.1 in
        let end : behind 0 (l.start ++ l.wrote) ≡ base = ap (behind 0) (sym pieces.0) ∙ at_end in
        let all : take base (items log) ≡ items log = take_all base (items log) (let at = behind_items 0 log s.log in let here = at_end in omega (arith, at, here)) in
        let sense : SenseBehind log base group = elim (has_all (CallHasSense ls log) call (w.links k).calls (g.calls k) has l c.found) [
          | inl below ↦ absurd (let here = end in omega (arith, here, below))
          | inr found ↦ found.1
        ] in
        let whole : HasSense (items (log ++ group)) = subst (λ (is : List Item). HasSense is) (ap (λ (x : List Item). x ++ items group) all ∙ sym (items_in log group)) sense in
        record {
          whole = subst (λ (x : List Batch). HasSense (items x)) (sym longer) whole;
          views = λ j epoch leads.
              subst (λ (x : List Batch). SenseBehind x (w.cluster.nodes j).end (w.cluster.nodes j).own) (sym longer)
              (subst (λ (x : List Item). HasSense (x ++ items (w.cluster.nodes j).own)) (sym (longer_below log group (w.cluster.nodes j).end (fed_low j))) (g.views j epoch leads));
          calls = λ j.
              subst (λ (x : List Leadership). AllByRecursion (CallHasSense x (point_after p (append_of call)).log) (w.links j).calls) (sym then)
              (subst (λ (x : List Batch). AllByRecursion (CallHasSense (longer_by l group ∷ rest) x) (w.links j).calls) (sym longer)
              (all_map2 (CallRight ls j (w.links j).won) (CallHasSense ls log) (CallHasSense (longer_by l group ∷ rest) (log ++ group))
              (λ other r old m found. call_later l rest group base end c.some latest.1 other j r old m found) (w.links j).calls (h.calls j) (g.calls j)));
        }

    executed : (t : Bool) → compares p.keys (append_of call) ≡ t → WebHasSense (after_change (append_of call))
    executed true is = takes_effect is
    executed false is = kept_sense (append_of call) (refused_stays p call.made call.group is) (ap (λ (t : Bool). cond t (log ++ call.group) log) is)

  -- ---- links

  -- a node and its link are others
  web_with : (nodes : ℕ → Node) (links : ℕ → Link) → ((j : ℕ) → ViewHasSense log (nodes j)) → ((j : ℕ) → AllByRecursion (CallHasSense ls log) (links j).calls)
      → WebHasSense (record { cluster = record { point = p; nodes = nodes }; links = links })
  web_with nodes links views calls = record { whole = g.whole; views = views; calls = calls }

  node_with : (k : ℕ) (v : Node) → ViewHasSense log v → (j : ℕ) → ViewHasSense log (cond (nat_eq k j) v (w.cluster.nodes j))
  node_with k v own = at_node k (λ j t. ViewHasSense log (cond t v (w.cluster.nodes j))) own g.views

  link_with : (k : ℕ) (new : Link) → AllByRecursion (CallHasSense ls log) new.calls → (j : ℕ) → AllByRecursion (CallHasSense ls log) (set_link k new w.links j).calls
  link_with k new own = at_node k (λ j t. AllByRecursion (CallHasSense ls log) (cond t new (w.links j)).calls) own g.calls

  -- it doesn't lead
  idle_view : (v : Node) → v.leads ≡ None → ViewHasSense log v
  idle_view v none epoch leads = none_leads v.leads epoch none leads

  begun_view : (k epoch : ℕ) → ViewHasSense log (told_to_lead (w.cluster.nodes k) epoch)
  begun_view k epoch e leads =
      let end = (w.cluster.nodes k).end in
      subst (λ (is : List Item). HasSense is) (sym (append-nil (take end (items log))))
      (front_means empty (take end (items log)) (drop end (items log)) (subst (λ (is : List Item). HasSense is) (sym (take-append-drop end (items log))) g.whole))

  module _ (k : ℕ) (e : Held) (group rest : List Batch) (m : MayAsk w k e group rest) where
    abbrev v : Node
    v = w.cluster.nodes k

    r : Runs ls k v (w.links k) e e.epoch
    r = runs_at ls k v (w.links k) e e.epoch m.holds m.leads (h.right k)

    abbrev others : List Batch
    others = rest ++ of_epoch e.epoch (w.links k).pipe

    own_is : v.own ≡ group ++ others
    own_is =
        r.own
        ∙ (ap (λ (bs : List Batch). bs ++ r.rest) m.none
        ∙ (r.heard ∙ (ap (λ (bs : List Batch). bs ++ of_epoch e.epoch (w.links k).pipe) m.next ∙ append_assoc group rest (of_epoch e.epoch (w.links k).pipe))))

    base_is : base_of_first group ≡ v.end
    base_is =
        let meet : Meet v.end (m.first ∷ m.others) = subst (Meet v.end) m.some (meet_before v.end group others (subst (Meet v.end) own_is r.meet)) in
        ap base_of_first m.some ∙ meet.0

    wrote_is : r.took.leadership.wrote ≡ v.settled
    wrote_is = elim r.wrote [
      | inl is ↦ is
      | inr is ↦ is ∙ (ap (λ (bs : List Batch). v.settled ++ bs) m.none ∙ append-nil v.settled)
    ]

    at_is : base_of_first group ≡ behind 0 (r.took.leadership.start ++ r.took.leadership.wrote)
    at_is = base_is ∙ (sym r.ends ∙ ap (λ (bs : List Batch). behind 0 (r.took.leadership.start ++ bs)) (sym wrote_is))

    group_sense : SenseBehind log (base_of_first group) group
    group_sense =
        subst (λ (end : ℕ). SenseBehind log end group) (sym base_is)
        (front_means empty (take v.end (items log) ++ items group) (items others)
        (subst (λ (is : List Item). HasSense is)
        (ap (λ (bs : List Batch). take v.end (items log) ++ items bs) own_is
        ∙ (ap (λ (is : List Item). take v.end (items log) ++ is) (items_in group others) ∙ sym (append_assoc (take v.end (items log)) (items group) (items others))))
        (g.views k e.epoch m.leads)))

    asked_sense : CallHasSense ls log (record { epoch = e.epoch; made = e.made; group = group })
    asked_sense l found =
        let same : r.took.leadership ≡ l = same_leadership r.took.leadership l (sym r.took.found ∙ found) in
        subst (λ (x : Leadership). (base_of_first group < behind 0 (x.start ++ x.wrote)) ⊎ ((base_of_first group ≡ behind 0 (x.start ++ x.wrote)) × SenseBehind log (base_of_first group) group)) same
        (inr (at_is, group_sense))

  module _ (k : ℕ) (e : Held) (m : MaySettle w k e) where
    abbrev u : Node
    u = w.cluster.nodes k

    abbrev asked : List Batch
    asked = (w.links k).asked

    abbrev end : ℕ
    end = behind u.end asked

    runs : Runs ls k u (w.links k) e e.epoch
    runs = runs_at ls k u (w.links k) e e.epoch m.holds m.leads (h.right k)

    after : IsFedNode image_bytes p k (committed u end)
    after = subst (λ (t : Bool). IsFedNode image_bytes p k (cond t (committed u end) u)) (itself k) ((step_right image_bytes w (Settle k e) h m).1.cluster.nodes k)

    cut : (ended_batches end u.own ≡ asked) × (unended_batches end u.own ≡ runs.rest)
    cut =
        let up = up_to u.end asked runs.rest (subst (Meet u.end) runs.own runs.meet) in
        (ap (ended_batches end) runs.own ∙ up.0, ap (unended_batches end) runs.own ∙ up.1)

    abbrev had : List Batch
    had = after.gone ++ u.batches

    parts : log ≡ (had ++ asked) ++ after.rest
    parts =
        after.split
        ∙ (ap (λ (bs : List Batch). (after.gone ++ (u.batches ++ bs)) ++ after.rest) cut.0 ∙ ap (λ (bs : List Batch). bs ++ after.rest) (sym (append_assoc after.gone u.batches asked)))

    ends : behind 0 (had ++ asked) ≡ end
    ends =
        ap (behind 0) (append_assoc after.gone u.batches asked)
        ∙ (ap (λ (bs : List Batch). behind 0 (after.gone ++ (u.batches ++ bs))) (sym cut.0) ∙ after.end)

    had_end : behind 0 had ≡ u.end
    had_end =
        let stored = (s.links k).asked in
        let two = behind_append 0 had asked in
        let more = behind_items (behind 0 had) asked stored in
        let here = behind_items u.end asked stored in
        let all = ends in
        omega (arith, two, more, here, all)

    settled_view : ViewHasSense log (committed u end)
    settled_view epoch leads =
        let whole : take end (items log) ≡ take u.end (items log) ++ items asked =
        ap (λ (x : ℕ). take x (items log)) (sym ends)
        ∙ (below log (had ++ asked) after.rest s.log parts
        ∙ (items_in had asked
        ∙ ap (λ (is : List Item). is ++ items asked)
        (sym (below log had (asked ++ after.rest) s.log (parts ∙ append_assoc had asked after.rest)) ∙ ap (λ (x : ℕ). take x (items log)) had_end))) in
        subst (λ (is : List Item). HasSense is)
        (ap (λ (bs : List Batch). take u.end (items log) ++ items bs) runs.own
        ∙ (ap (λ (is : List Item). take u.end (items log) ++ is) (items_in asked runs.rest)
        ∙ (sym (append_assoc (take u.end (items log)) (items asked) (items runs.rest))
        ∙ (ap (λ (is : List Item). is ++ items runs.rest) (sym whole) ∙ ap (λ (bs : List Batch). take end (items log) ++ items bs) (sym cut.1)))))
        (g.views k epoch leads)

  -- ---- all steps

  -- what a daemon writes for a leadership has a meaning
  abbrev pub WritesSense : LinkStep → Type 0
  WritesSense (Write k b) = SenseBehind log (w.cluster.nodes k).end ((w.cluster.nodes k).own ++ b ∷ [])
  WritesSense other = Unit {0}

  pub step_sense : (step : LinkStep) → IsPossible image_bytes w step → WritesSense step → WebHasSense (stepped w step)
  step_sense (Execute k call) a new = executed k call a (compares p.keys (append_of call)) refl
  step_sense (Clear k keep) a new =
      kept_sense (Drop keep.before keep.image) (no_append_stays p (Drop keep.before keep.image) h.cluster.order tt) (none_appended p (Drop keep.before keep.image) refl)
  step_sense (Make change) a new = kept_sense change (free_stays change a) (none_appended p change (free_none change a))
  step_sense (Win k e) a new = web_with (stepped w (Win k e)).cluster.nodes (stepped w (Win k e)).links g.views (link_with k (record { held = Some e; asked = []; waits = []; pipe = (w.links k).pipe; won = e.epoch ∷ (w.links k).won; calls = (w.links k).calls; keeps = (w.links k).keeps }) (g.calls k))
  step_sense (Read k b) a new = web_with (stepped w (Read k b)).cluster.nodes (stepped w (Read k b)).links (node_with k (fed (w.cluster.nodes k) b) (idle_view (fed (w.cluster.nodes k) b) a.0)) g.calls
  step_sense (Take k image) a new = web_with (stepped w (Take k image)).cluster.nodes (stepped w (Take k image)).links (node_with k (loaded (w.cluster.nodes k) image) (idle_view (loaded (w.cluster.nodes k) image) a.standby)) g.calls
  step_sense (Begin k e) a new = web_with (stepped w (Begin k e)).cluster.nodes (stepped w (Begin k e)).links (node_with k (told_to_lead (w.cluster.nodes k) e.epoch) (begun_view k e.epoch)) (link_with k (record (w.links k) { asked = []; waits = [] }) (g.calls k))
  step_sense (Write k b) a new = web_with (stepped w (Write k b)).cluster.nodes (stepped w (Write k b)).links (node_with k (written (w.cluster.nodes k) b) (λ epoch leads. new)) (link_with k (record (w.links k) { pipe = (w.links k).pipe ++ b ∷ [] }) (g.calls k))
  step_sense (Stray k b) a new = web_with (stepped w (Stray k b)).cluster.nodes (stepped w (Stray k b)).links g.views (link_with k (record (w.links k) { pipe = (w.links k).pipe ++ b ∷ [] }) (g.calls k))
  step_sense (Hear k b rest) a new = web_with (stepped w (Hear k b rest)).cluster.nodes (stepped w (Hear k b rest)).links g.views (link_with k (record (w.links k) { pipe = rest; waits = (w.links k).waits ++ b ∷ [] }) (g.calls k))
  step_sense (Pass k b rest) a new = web_with (stepped w (Pass k b rest)).cluster.nodes (stepped w (Pass k b rest)).links g.views (link_with k (record (w.links k) { pipe = rest }) (g.calls k))
  step_sense (Ask k e group rest) a new = web_with (stepped w (Ask k e group rest)).cluster.nodes (stepped w (Ask k e group rest)).links g.views (link_with k (record (w.links k) { asked = group; waits = rest; calls = record { epoch = e.epoch; made = e.made; group = group } ∷ (w.links k).calls }) (asked_sense k e group rest a, g.calls k))
  step_sense (Settle k e) a new = web_with (stepped w (Settle k e)).cluster.nodes (stepped w (Settle k e)).links (node_with k (committed (w.cluster.nodes k) (behind (w.cluster.nodes k).end (w.links k).asked)) (settled_view k e a)) (link_with k (record (w.links k) { asked = [] }) (g.calls k))
  step_sense (Give k keep) a new = web_with (stepped w (Give k keep)).cluster.nodes (stepped w (Give k keep)).links g.views (link_with k (record (w.links k) { keeps = keep ∷ (w.links k).keeps }) (g.calls k))
  step_sense (GiveUp k epoch) a new = web_with (stepped w (GiveUp k epoch)).cluster.nodes (stepped w (GiveUp k epoch)).links (node_with k (after_loss (w.cluster.nodes k)) (idle_view (after_loss (w.cluster.nodes k)) refl)) (link_with k (idle (w.links k)) (g.calls k))
  step_sense (LetGo k) a new = web_with (stepped w (LetGo k)).cluster.nodes (stepped w (LetGo k)).links g.views (link_with k (idle (w.links k)) (g.calls k))
  step_sense (Renew k) a new = web_with (stepped w (Renew k)).cluster.nodes (stepped w (Renew k)).links (node_with k new_node (idle_view new_node refl)) (link_with k (record (idle (w.links k)) { pipe = [] }) (g.calls k))
