-- Each step, and all steps.
use Rattle.std.proofs.Common.{◌≡◌, ◌∙◌, sym, ℕ, ◌+◌, ◌<◌, ◌≤◌, Bool, true, false, cond, List, [], ◌∷◌, ◌++◌, refl, ap, subst, arith, inl, inr, ◌⊎◌}
use Rattle.std.proofs.lemmas.Bool.{eqb-true}
use Rattle.std.proofs.lemmas.List.{append_assoc, append-nil}
use Rattle.std.specs.Prelude.{IsSome, Option, None, Some, nat_eq, fold}
use Rattle.std.specs.List.{AllByRecursion}
use Rattle.std.specs.Option.{unwrap_or}
use Rattle.law_quorum.specs.Batches.{Batch, StoredImage, Meet, ImageStandsFor, behind}
use Rattle.law_quorum.specs.Changes.{Append, Campaign, Change, Drop, Expire, Other, base_of_first, compares, leads_by}
use Rattle.law_quorum.specs.History.{IsSent, Leadership, point_after, with_wrote}
use Rattle.law_quorum.specs.Laws.{AreBehind, WasWrittenBy}
use Rattle.law_quorum.specs.Nodes.{AreAllowed, Cluster, IsAllowedMove, Led, MayCommit, MayLead, Move, Node, after_loss, at_first, committed, ended_batches, fed, loaded, moved, new_node, set_node, told_to_lead, unended_batches, with_node}
use Rattle.law_quorum.specs.Nodes as moves
use Rattle.law_quorum.proofs.Places.{all_after, all_append, behind_append, behind_grows, meet_after, meet_append, meet_before}
use Rattle.law_quorum.proofs.KeptLog.{both}
use Rattle.law_quorum.proofs.ReadKeys.{carry_by, images_stand_later, tell}
use Rattle.law_quorum.proofs.WholeHistories.{grows_from}
use Rattle.law_quorum.proofs.FedNodes.{IsCluster, begins_log, first_cluster, moves_on}
use Rattle.law_link.specs.Links.{ArePossible, Call, Has, Held, IsFree, IsNoAppend, IsPossible, Keep, Link, MayAsk, MayBegin, MayGive, MaySettle, MayWrite, LinkStep, TookLeadership, Web, all_handed, append_of, handed, leadership_at, idle, no_web, set_link, stepped, MayStray}
use Rattle.law_link.specs.Links.{Execute, Clear, Make, Win, Read, Take, Begin, Write, Ask, Settle, Give, GiveUp, LetGo, Renew, Stray, Hear, Pass}
use Rattle.law_link.specs.LinkLaws.{LinksHandRight}
use Rattle.law_link.proofs.FoundLeaderships.{Stays, carries, found_before, found_epoch, found_led, found_longer, found_other, found_wrote, is_latest, longer_by, no_append_stays, refused_stays}
use Rattle.law_link.proofs.LinkSteps.{CallRight, IsKept, IsRight, IsWeb, RightAt, Runs, Waits, all_before, all_map, all_map2, call_later, grows, has_all, no_more, right_kept, right_later, runs_at, standing, up_to, waits_at, none_behind, none_of, of_append, of_epoch, of_other, of_this, right_piped}

-- ---- an append takes effect

base_at : (from : ℕ) (group : List Batch) → base_of_first group < behind (base_of_first group) group → Meet from group → base_of_first group ≡ from
base_at from [] some m = absurd (omega arith)
base_at from (b ∷ bs) some m = m.0

-- the leadership of the call goes on with its batches
module _ (l : Leadership) (ls : List Leadership) (k : ℕ) (call : Call) (is : l.epoch ≡ call.epoch) (holder : l.node ≡ k)
    (end : behind 0 (l.start ++ l.wrote) ≡ base_of_first call.group) (some : base_of_first call.group < behind (base_of_first call.group) call.group) where
  abbrev after : List Leadership
  after = longer_by l call.group ∷ ls

  call_on : (j : ℕ) (won : List ℕ) (c : Call) → CallRight (l ∷ ls) j won c → CallRight after j won c
  call_on j won c r = elim (found_other c.epoch l r.leadership ls call.group r.found) [
    | inl x ↦ record {
      leadership = longer_by l call.group;
      found = found_longer c.epoch l ls call.group x.0;
      holder = ap (λ (y : Leadership). y.node) x.1 ∙ r.holder;
      key = ap (λ (y : Leadership). y.made) x.1 ∙ r.key;
      taken_once = r.taken_once;
      meet = r.meet;
      some = r.some;
      carry = r.carry;
    }
    | inr f ↦ record {
      leadership = r.leadership;
      found = f;
      holder = r.holder;
      key = r.key;
      taken_once = r.taken_once;
      meet = r.meet;
      some = r.some;
      carry = r.carry;
    }
  ]

  abbrev took_on : (j : ℕ) (h : Held) (t : TookLeadership (l ∷ ls) j h) → leadership_at h.epoch after ≡ Some t.leadership → TookLeadership after j h
  took_on j h t f = record { leadership = t.leadership; found = f; holder = t.holder; key = t.key; began = t.began }

  abbrev took_longer : (j : ℕ) (h : Held) (t : TookLeadership (l ∷ ls) j h) → l.epoch ≡ h.epoch → l ≡ t.leadership → TookLeadership after j h
  took_longer j h t e same = record {
    leadership = longer_by l call.group;
    found = found_longer h.epoch l ls call.group e;
    holder = ap (λ (y : Leadership). y.node) same ∙ t.holder;
    key = ap (λ (y : Leadership). y.made) same ∙ t.key;
    began = ap (λ (y : Leadership). behind 0 y.start) same ∙ t.began;
  }

  -- what it appended, where the call is one that was settled before, or the one that is asked
  wrote_on : (n : Node) (link : Link) (h : Held) (r : Runs (l ∷ ls) k n link h h.epoch) → l ≡ r.took.leadership
      → (base_of_first call.group < n.end) ⊎ (call.group ≡ link.asked)
      → (l.wrote ++ call.group ≡ n.settled) ⊎ (l.wrote ++ call.group ≡ n.settled ++ link.asked)
  wrote_on n link h r same t =
      let m : Meet n.end link.asked = meet_before n.end link.asked r.rest (subst (Meet n.end) r.own r.meet) in
      let far : n.end ≤ behind n.end link.asked = behind_grows n.end link.asked m in
      let ends : behind 0 (l.start ++ n.settled) ≡ n.end = ap (λ (y : Leadership). behind 0 (y.start ++ n.settled)) same ∙ r.ends in
      elim r.wrote [
        | inl w ↦ (let wrote : l.wrote ≡ n.settled = ap (λ (y : Leadership). y.wrote) same ∙ w in
            let at : n.end ≡ base_of_first call.group = sym ends ∙ (ap (λ (x : List Batch). behind 0 (l.start ++ x)) (sym wrote) ∙ end) in
            elim t [
              | inl low ↦ absurd (omega arith)
              | inr asked ↦ inr (ap (λ (x : List Batch). x ++ call.group) wrote ∙ ap (λ (x : List Batch). n.settled ++ x) asked)
            ])
        | inr w ↦ (let wrote : l.wrote ≡ n.settled ++ link.asked = ap (λ (y : Leadership). y.wrote) same ∙ w in
            let at : behind n.end link.asked ≡ base_of_first call.group =
            ap (λ (x : ℕ). behind x link.asked) (sym ends)
            ∙ (sym (behind_append 0 (l.start ++ n.settled) link.asked)
            ∙ (ap (behind 0) (append_assoc l.start n.settled link.asked)
            ∙ (ap (λ (x : List Batch). behind 0 (l.start ++ x)) (sym wrote) ∙ end))) in
            elim t [
              | inl low ↦ absurd (omega arith)
              | inr asked ↦ (
                  let begins : base_of_first call.group ≡ n.end = base_at n.end call.group some (subst (Meet n.end) (sym asked) m) in
                  let over : base_of_first call.group < behind n.end link.asked =
                  subst (λ (g : List Batch). base_of_first call.group < behind n.end g) asked (subst (λ (x : ℕ). base_of_first call.group < behind x call.group) begins some) in
                  absurd (omega arith))
            ])
      ]

  right_on : (j : ℕ) (n : Node) (link : Link) → (j ≡ k → Has call link.calls) → (held : Option Held) (leads : Option ℕ) → RightAt (l ∷ ls) j n link held leads → RightAt after j n link held leads
  right_on j n link has None None r = tt
  right_on j n link has None (Some epoch) r = r
  right_on j n link has (Some h) None r = elim (found_other h.epoch l r.took.leadership ls call.group r.took.found) [
    | inl x ↦ (let here : j ≡ k = sym r.took.holder ∙ (ap (λ (y : Leadership). y.node) (sym x.1) ∙ holder) in
        absurd (has_all (λ (c : Call). c.epoch ≡ h.epoch → ⊥) call link.calls r.uncalled (has here) (sym is ∙ x.0)))
    | inr f ↦ record { took = took_on j h r.took f; taken_once = r.taken_once; none = r.none; uncalled = r.uncalled; unheard = r.unheard }
  ]
  right_on j n link has (Some h) (Some epoch) r = elim (found_other h.epoch l r.took.leadership ls call.group r.took.found) [
    | inl x ↦ (let here : j ≡ k = sym r.took.holder ∙ (ap (λ (y : Leadership). y.node) (sym x.1) ∙ holder) in
        let t = has_all (λ (c : Call). c.epoch ≡ h.epoch → (base_of_first c.group < n.end) ⊎ (c.group ≡ link.asked)) call link.calls r.tried (has here) (sym is ∙ x.0) in
        record {
          took = took_longer j h r.took x.0 x.1;
          taken_once = r.taken_once;
          number = r.number;
          wrote = wrote_on n link h (record {
            took = record { leadership = r.took.leadership; found = r.took.found; holder = r.took.holder ∙ here; key = r.took.key; began = r.took.began };
            taken_once = r.taken_once;
            number = refl;
            wrote = r.wrote;
            rest = r.rest;
            own = r.own;
            heard = r.heard;
            meet = r.meet;
            carry = r.carry;
            ends = r.ends;
            tried = r.tried;
          }) x.1 t;
          rest = r.rest;
          own = r.own;
          heard = r.heard;
          meet = r.meet;
          carry = r.carry;
          ends = ap (λ (y : Leadership). behind 0 (y.start ++ n.settled)) x.1 ∙ r.ends;
          tried = r.tried;
        })
    | inr f ↦ record {
      took = took_on j h r.took f;
      taken_once = r.taken_once;
      number = r.number;
      wrote = r.wrote;
      rest = r.rest;
      own = r.own;
      heard = r.heard;
      meet = r.meet;
      carry = r.carry;
      ends = r.ends;
      tried = r.tried;
    }
  ]

module _ (make : List Batch → List ℕ) where
  -- ---- one node and its link

  set_both : (P : ℕ → Node → Link → Type 0) (k : ℕ) (n : Node) (link : Link) (nodes : ℕ → Node) (links : ℕ → Link) → P k n link → ((j : ℕ) → P j (nodes j) (links j))
      → (j : ℕ) → P j (set_node k n nodes j) (set_link k link links j)
  set_both P k n link nodes links here all j = by (nat_eq k j) refl
    where
      by : (t : Bool) → nat_eq k j ≡ t → P j (cond t n (nodes j)) (cond t link (links j))
      by true e = subst (λ (i : ℕ). P i n link) (eqb-true k j e) here
      by false e = all j

  module _ (w : Web) (h : IsWeb make w) where
    abbrev ls : List Leadership
    ls = w.cluster.point.leaderships

    web_both : (k : ℕ) (n : Node) (link : Link) → IsCluster make (with_node w.cluster k n)
        → ((e : ℕ) → Has e (w.links k).won → Has e link.won) → AllByRecursion (CallRight ls k link.won) link.calls → IsRight ls k n link
        → AllByRecursion (IsKept make w.cluster.point.log) link.keeps → AllByRecursion (λ (b : Batch). Has b.epoch link.won) link.pipe
        → IsWeb make (record { cluster = with_node w.cluster k n; links = set_link k link w.links })
    web_both k n link cluster won calls right keeps piped = record {
      cluster = cluster;
      carry = h.carry;
      calls = set_both (λ (j : ℕ) (m : Node) (x : Link). AllByRecursion (CallRight ls j x.won) x.calls) k n link w.cluster.nodes w.links calls h.calls;
      unused = λ epoch l found. elim (h.unused epoch l found) [
        | inl none ↦ inl none
        | inr has ↦ inr (set_both (λ (j : ℕ) (m : Node) (x : Link). Has epoch (w.links j).won → Has epoch x.won) k n link w.cluster.nodes w.links (won epoch) (λ j x. x) l.node has)
      ];
      right = set_both (IsRight ls) k n link w.cluster.nodes w.links right h.right;
      keeps = set_both (λ (j : ℕ) (m : Node) (x : Link). AllByRecursion (IsKept make w.cluster.point.log) x.keeps) k n link w.cluster.nodes w.links keeps h.keeps;
      piped = set_both (λ (j : ℕ) (m : Node) (x : Link). AllByRecursion (λ (b : Batch). Has b.epoch x.won) x.pipe) k n link w.cluster.nodes w.links piped h.piped;
    }

    web_link : (k : ℕ) (link : Link)
        → ((e : ℕ) → Has e (w.links k).won → Has e link.won) → AllByRecursion (CallRight ls k link.won) link.calls → IsRight ls k (w.cluster.nodes k) link
        → AllByRecursion (IsKept make w.cluster.point.log) link.keeps → AllByRecursion (λ (b : Batch). Has b.epoch link.won) link.pipe
        → IsWeb make (record { cluster = w.cluster; links = set_link k link w.links })
    web_link k link won calls right keeps piped = record {
      cluster = h.cluster;
      carry = h.carry;
      calls = set_both (λ (j : ℕ) (m : Node) (x : Link). AllByRecursion (CallRight ls j x.won) x.calls) k new_node link w.cluster.nodes w.links calls h.calls;
      unused = λ epoch l found. elim (h.unused epoch l found) [
        | inl none ↦ inl none
        | inr has ↦ inr (set_both (λ (j : ℕ) (m : Node) (x : Link). Has epoch (w.links j).won → Has epoch x.won) k new_node link w.cluster.nodes w.links (won epoch) (λ j x. x) l.node has)
      ];
      right = set_both (λ (j : ℕ) (m : Node) (x : Link). IsRight ls j (w.cluster.nodes j) x) k new_node link w.cluster.nodes w.links right h.right;
      keeps = set_both (λ (j : ℕ) (m : Node) (x : Link). AllByRecursion (IsKept make w.cluster.point.log) x.keeps) k new_node link w.cluster.nodes w.links keeps h.keeps;
      piped = set_both (λ (j : ℕ) (m : Node) (x : Link). AllByRecursion (λ (b : Batch). Has b.epoch x.won) x.pipe) k new_node link w.cluster.nodes w.links piped h.piped;
    }

    web_node : (k : ℕ) (n : Node) → IsCluster make (with_node w.cluster k n) → IsRight ls k n (w.links k) → IsWeb make (record { cluster = with_node w.cluster k n; links = w.links })
    web_node k n cluster right = record {
      cluster = cluster;
      carry = h.carry;
      calls = h.calls;
      unused = h.unused;
      keeps = h.keeps;
      piped = h.piped;
      right = set_one k n right;
    }
      where
        set_one : (k : ℕ) (n : Node) → IsRight ls k n (w.links k) → (j : ℕ) → IsRight ls j (set_node k n w.cluster.nodes j) (w.links j)
        set_one k n right j = by (nat_eq k j) refl
          where
            by : (t : Bool) → nat_eq k j ≡ t → IsRight ls j (cond t n (w.cluster.nodes j)) (w.links j)
            by true e = subst (λ (i : ℕ). IsRight ls i n (w.links i)) (eqb-true k j e) right
            by false e = h.right j

    -- ---- the store

    kept_later : (change : Change) (k : ℕ) → AllByRecursion (IsKept make (point_after w.cluster.point change).log) (w.links k).keeps
    kept_later change k =
        let r = grows_from w.cluster.point (change ∷ []) in
        all_map (IsKept make w.cluster.point.log) (IsKept make (point_after w.cluster.point change).log)
        (λ keep i. (i.0, subst (λ (l : List Batch). ImageStandsFor make l keep.image) (sym r.1) (images_stand_later make w.cluster.point.log r.0 keep.image i.1)))
        (w.links k).keeps (h.keeps k)

    store_stays : (change : Change) → IsSent make w.cluster.point change → Stays ls (point_after w.cluster.point change).leaderships
        → IsWeb make (record { cluster = moved w.cluster (moves.Store change); links = w.links })
    store_stays change sent s = record {
      cluster = moves_on make w.cluster (moves.Store change) h.cluster sent;
      carry = carry_by make w.cluster.point change (compares w.cluster.point.keys change) refl h.cluster.order sent h.carry;
      calls = λ k. all_map (CallRight ls k (w.links k).won) (CallRight (point_after w.cluster.point change).leaderships k (w.links k).won)
          (call_later ls (point_after w.cluster.point change).leaderships k (w.links k).won s) (w.links k).calls (h.calls k);
      unused = λ epoch l found. elim (s.back epoch l found) [ inl f ↦ h.unused epoch l f | inr none ↦ inl none ];
      right = λ k. right_later ls (point_after w.cluster.point change).leaderships k (w.cluster.nodes k) (w.links k) s (w.links k).held (w.cluster.nodes k).leads (h.right k);
      keeps = kept_later change;
      piped = h.piped;
    }

    module _ (k : ℕ) (call : Call) (has : Has call (w.links k).calls) where
      abbrev c : CallRight ls k (w.links k).won call
      c = has_all (CallRight ls k (w.links k).won) call (w.links k).calls (h.calls k) has

      execute_sent : IsSent make w.cluster.point (append_of call)
      execute_sent = (c.meet, carries (w.cluster.point.keys.revision + 1) call.epoch call.made call.group ls c.leadership h.cluster.order.made c.found c.key c.carry)

      takes_effect : compares w.cluster.point.keys (append_of call) ≡ true → IsWeb make (record { cluster = moved w.cluster (moves.Store (append_of call)); links = w.links })
      takes_effect is =
          let p = w.cluster.point in
          let l = c.leadership in
          let tests = both (leads_by p.keys.leader call.made) (nat_eq p.keys.end (base_of_first call.group)) is in
          let latest = is_latest p.keys.leader call.made (p.keys.revision + 1) call.epoch ls l tests.0 h.cluster.order.led h.cluster.order.made c.found c.key in
          let rest = latest.0 in
          let then : (point_after p (append_of call)).leaderships ≡ longer_by l call.group ∷ rest =
          ap (λ (t : Bool). cond t (with_wrote call.group ls) ls) is ∙ ap (with_wrote call.group) latest.1 in
          let number : l.epoch ≡ call.epoch = found_epoch call.epoch ls l c.found in
          let pieces : AreBehind p.log (l ∷ rest) = subst (AreBehind p.log) latest.1 h.cluster.order.pieces in
          let end : behind 0 (l.start ++ l.wrote) ≡ base_of_first call.group =
          ap (behind 0) (sym pieces.0) ∙ (h.cluster.one.end ∙ eqb-true p.keys.end (base_of_first call.group) tests.1) in
          record {
            cluster = moves_on make w.cluster (moves.Store (append_of call)) h.cluster execute_sent;
            carry = carry_by make p (append_of call) (compares p.keys (append_of call)) refl h.cluster.order execute_sent h.carry;
            calls = λ j. subst (λ (x : List Leadership). AllByRecursion (CallRight x j (w.links j).won) (w.links j).calls) (sym then)
                (all_map (CallRight (l ∷ rest) j (w.links j).won) (CallRight (longer_by l call.group ∷ rest) j (w.links j).won)
                (call_on l rest k call number c.holder end c.some j (w.links j).won) (w.links j).calls
                (subst (λ (x : List Leadership). AllByRecursion (CallRight x j (w.links j).won) (w.links j).calls) latest.1 (h.calls j)));
            unused = λ epoch m found.
                elim (found_before epoch l m rest call.group (subst (λ (x : List Leadership). leadership_at epoch x ≡ Some m) then found)) [
                  | inl x ↦ inr (
                      let node : k ≡ m.node = sym c.holder ∙ ap (λ (y : Leadership). y.node) x.1 in
                      subst (λ (i : ℕ). Has epoch (w.links i).won) node (subst (λ (e : ℕ). Has e (w.links k).won) (sym number ∙ x.0) c.taken_once))
                  | inr f ↦ h.unused epoch m (subst (λ (x : List Leadership). leadership_at epoch x ≡ Some m) (sym latest.1) f)
                ];
            right = λ j. subst (λ (x : List Leadership). IsRight x j (w.cluster.nodes j) (w.links j)) (sym then)
                (right_on l rest k call number c.holder end c.some j (w.cluster.nodes j) (w.links j)
                (λ here. subst (λ (i : ℕ). Has call (w.links i).calls) (sym here) has)
                (w.links j).held (w.cluster.nodes j).leads
                (subst (λ (x : List Leadership). IsRight x j (w.cluster.nodes j) (w.links j)) latest.1 (h.right j)));
            keeps = kept_later (append_of call);
            piped = h.piped;
          }

      execute_by : (t : Bool) → compares w.cluster.point.keys (append_of call) ≡ t → IsWeb make (record { cluster = moved w.cluster (moves.Store (append_of call)); links = w.links })
      execute_by true is = takes_effect is
      execute_by false is = store_stays (append_of call) execute_sent (refused_stays w.cluster.point call.made call.group is)

    -- ---- links

    win_right : (k : ℕ) (e : Held) → (w.links k).held ≡ None → (Has e.epoch (w.links k).won → ⊥) → TookLeadership ls k e
        → IsWeb make (stepped w (Win k e))
    win_right k e none fresh took =
        let link = w.links k in
        let new : Link = record { held = Some e; asked = []; waits = []; pipe = link.pipe; won = e.epoch ∷ link.won; calls = link.calls; keeps = link.keeps } in
        let standby : (w.cluster.nodes k).leads ≡ None = no_more ls k (w.cluster.nodes k) link link.held (w.cluster.nodes k).leads none (h.right k) in
        let waits : Waits ls k new e = record {
          took = took;
          taken_once = inl refl;
          none = elim (h.unused e.epoch took.leadership took.found) [
            | inl x ↦ x
            | inr x ↦ absurd (fresh (subst (λ (i : ℕ). Has e.epoch (w.links i).won) took.holder x))
          ];
          uncalled = all_map (CallRight ls k link.won) (λ (c : Call). c.epoch ≡ e.epoch → ⊥)
              (λ c r same. fresh (subst (λ (i : ℕ). Has i link.won) same r.taken_once)) link.calls (h.calls k);
          unheard = none_of e.epoch link.pipe (all_map (λ (b : Batch). Has b.epoch link.won) (λ (b : Batch). b.epoch ≡ e.epoch → ⊥)
              (λ b has same. fresh (subst (λ (i : ℕ). Has i link.won) same has)) link.pipe (h.piped k));
        } in
        web_link k new (λ i x. inr x)
        (all_map (CallRight ls k link.won) (CallRight ls k (e.epoch ∷ link.won))
        (λ c r. record { leadership = r.leadership; found = r.found; holder = r.holder; key = r.key; taken_once = inr r.taken_once; meet = r.meet; some = r.some; carry = r.carry })
        link.calls (h.calls k))
        (subst (λ (o : Option ℕ). RightAt ls k (w.cluster.nodes k) new (Some e) o) (sym standby) waits) (h.keeps k)
        (all_map (λ (b : Batch). Has b.epoch link.won) (λ (b : Batch). Has b.epoch (e.epoch ∷ link.won)) (λ b has. inr has) link.pipe (h.piped k))

    on_standby : (k : ℕ) (n : Node) → (w.cluster.nodes k).leads ≡ None → n.leads ≡ None → IsRight ls k n (w.links k)
    on_standby k n before after = standing ls k (w.cluster.nodes k) n (w.links k) (w.links k).held after
        (subst (λ (o : Option ℕ). RightAt ls k (w.cluster.nodes k) (w.links k) (w.links k).held o) before (h.right k))

    begin_allowed : (k : ℕ) (e : Held) → MayBegin w k e → IsAllowedMove make w.cluster (moves.Lead k e.epoch e.start)
    begin_allowed k e m =
        let r = waits_at ls k (w.cluster.nodes k) (w.links k) e m.holds m.standby (h.right k) in
        record {
          standby = m.standby;
          start = r.took.leadership.start;
          ours = found_led e.epoch k ls r.took.leadership [] [] r.took.found r.took.holder r.none;
          begins = r.took.began;
          reached = m.reached;
        }

    begin_right : (k : ℕ) (e : Held) → MayBegin w k e → IsWeb make (stepped w (Begin k e))
    begin_right k e m =
        let link = w.links k in
        let n = told_to_lead (w.cluster.nodes k) e.epoch in
        let new : Link = record link { asked = []; waits = [] } in
        let r = waits_at ls k (w.cluster.nodes k) link e m.holds m.standby (h.right k) in
        let runs : Runs ls k n new e e.epoch = record {
          took = r.took;
          taken_once = r.taken_once;
          number = refl;
          wrote = inl r.none;
          rest = [];
          own = refl;
          heard = sym r.unheard;
          meet = tt;
          carry = tt;
          ends = ap (behind 0) (append-nil r.took.leadership.start) ∙ (r.took.began ∙ sym m.reached);
          tried = all_map (λ (c : Call). c.epoch ≡ e.epoch → ⊥) (λ (c : Call). c.epoch ≡ e.epoch → (base_of_first c.group < n.end) ⊎ (c.group ≡ []))
              (λ c no_call same. absurd (no_call same)) link.calls r.uncalled;
        } in
        web_both k n new (moves_on make w.cluster (moves.Lead k e.epoch e.start) h.cluster (begin_allowed k e m)) (λ i x. x) (h.calls k)
        (subst (λ (o : Option Held). RightAt ls k n new o (Some e.epoch)) (sym m.holds) runs) (h.keeps k) (h.piped k)

    write_right : (k : ℕ) (b : Batch) → MayWrite (w.cluster.nodes k) b → IsAllowedMove make w.cluster (moves.Write k b) → IsWeb make (stepped w (Write k b))
    write_right k b m a = by (w.links k).held refl
      where
        n : Node
        n = w.cluster.nodes k

        more : Node
        more = record (w.cluster.nodes k) { own = (w.cluster.nodes k).own ++ b ∷ [] }

        by : (held : Option Held) → (w.links k).held ≡ held → IsWeb make (stepped w (Write k b))
        by None none = absurd (leads_none (w.cluster.nodes k).leads m.leads (no_more ls k (w.cluster.nodes k) (w.links k) (w.links k).held (w.cluster.nodes k).leads none (h.right k)))
          where
            leads_none : (leads : Option ℕ) → leads ≡ Some b.epoch → leads ≡ None → ⊥
            leads_none leads some none = (let x : Some b.epoch ≡ None = sym some ∙ none in absurd cc)
        by (Some e) is =
            let r = runs_at ls k (w.cluster.nodes k) (w.links k) e b.epoch is m.leads (h.right k) in
            let node = w.cluster.nodes k in
            let link = w.links k in
            let new : Link = record link { pipe = link.pipe ++ b ∷ [] } in
            let runs : Runs ls k (record node { own = node.own ++ b ∷ [] }) new e b.epoch = record {
              took = r.took;
              taken_once = r.taken_once;
              number = r.number;
              wrote = r.wrote;
              rest = r.rest ++ b ∷ [];
              own = ap (λ (x : List Batch). x ++ b ∷ []) r.own ∙ append_assoc (w.links k).asked r.rest (b ∷ []);
              heard = ap (λ (x : List Batch). x ++ b ∷ []) r.heard
                  ∙ (append_assoc link.waits (of_epoch e.epoch link.pipe) (b ∷ [])
                  ∙ ap (λ (x : List Batch). link.waits ++ x)
                  (ap (λ (x : List Batch). of_epoch e.epoch link.pipe ++ x) (sym (of_this e.epoch b [] r.number)) ∙ sym (of_append e.epoch link.pipe (b ∷ []))));
              meet = meet_append node.end node.own (b ∷ []) r.meet (m.base, m.some, tt);
              carry = all_append (λ (x : Batch). x.epoch ≡ e.epoch) node.own (b ∷ []) r.carry (r.number, tt);
              ends = r.ends;
              tried = r.tried;
            } in
            web_both k (record node { own = node.own ++ b ∷ [] }) new (moves_on make w.cluster (moves.Write k b) h.cluster a) (λ i x. x) (h.calls k)
            (subst (λ (o : Option Held). RightAt ls k (record node { own = node.own ++ b ∷ [] }) new o node.leads) (sym is)
            (subst (λ (o : Option ℕ). RightAt ls k (record node { own = node.own ++ b ∷ [] }) new (Some e) o) (sym m.leads) runs)) (h.keeps k)
            (all_append (λ (x : Batch). Has x.epoch link.won) link.pipe (b ∷ []) (h.piped k) (subst (λ (i : ℕ). Has i link.won) (sym r.number) r.taken_once, tt))

    stray_right : (k : ℕ) (b : Batch) → MayStray w k b → IsWeb make (stepped w (Stray k b))
    stray_right k b m =
        let link = w.links k in
        web_link k (record link { pipe = link.pipe ++ b ∷ [] }) (λ i x. x) (h.calls k)
        (right_piped ls k (w.cluster.nodes k) link (link.pipe ++ b ∷ []) link.held (w.cluster.nodes k).leads
        (λ e is. sym (of_append e.epoch link.pipe (b ∷ []) ∙ (ap (λ (x : List Batch). of_epoch e.epoch link.pipe ++ x) (of_other e.epoch b [] (m.over e is)) ∙ append-nil (of_epoch e.epoch link.pipe)))) (h.right k))
        (h.keeps k) (all_append (λ (x : Batch). Has x.epoch link.won) link.pipe (b ∷ []) (h.piped k) (m.led, tt))

    behind_piped : (k : ℕ) (b : Batch) (rest : List Batch) → (w.links k).pipe ≡ b ∷ rest → AllByRecursion (λ (x : Batch). Has x.epoch (w.links k).won) rest
    behind_piped k b rest is = (subst (AllByRecursion (λ (x : Batch). Has x.epoch (w.links k).won)) is (h.piped k)).1

    -- the node leads in no epoch but that which its link holds
    pass_at : (k : ℕ) (b : Batch) (rest : List Batch) → (w.links k).pipe ≡ b ∷ rest → (held : Option Held) (leads : Option ℕ) → (leads ≡ Some b.epoch → ⊥)
        → RightAt ls k (w.cluster.nodes k) (w.links k) held leads → RightAt ls k (w.cluster.nodes k) (record (w.links k) { pipe = rest }) held leads
    pass_at k b rest is None None other r = tt
    pass_at k b rest is None (Some epoch) other r = r
    pass_at k b rest is (Some e) None other r = record {
      took = r.took;
      taken_once = r.taken_once;
      none = r.none;
      uncalled = r.uncalled;
      unheard = none_behind e.epoch b rest (ap (of_epoch e.epoch) (sym is) ∙ r.unheard);
    }
    pass_at k b rest is (Some e) (Some epoch) other r = record {
      took = r.took;
      taken_once = r.taken_once;
      number = r.number;
      wrote = r.wrote;
      rest = r.rest;
      own = r.own;
      heard = r.heard ∙ ap (λ (x : List Batch). (w.links k).waits ++ x) (ap (of_epoch e.epoch) is ∙ of_other e.epoch b rest (λ same. other (ap (λ (i : ℕ). Some i) (r.number ∙ sym same))));
      meet = r.meet;
      carry = r.carry;
      ends = r.ends;
      tried = r.tried;
    }

    pass_right : (k : ℕ) (b : Batch) (rest : List Batch) → (w.links k).pipe ≡ b ∷ rest → ((w.cluster.nodes k).leads ≡ Some b.epoch → ⊥) → IsWeb make (stepped w (Pass k b rest))
    pass_right k b rest is other = web_link k (record (w.links k) { pipe = rest }) (λ i x. x) (h.calls k)
        (pass_at k b rest is (w.links k).held (w.cluster.nodes k).leads other (h.right k)) (h.keeps k) (behind_piped k b rest is)

    hear_at : (k : ℕ) (b : Batch) (rest : List Batch) → (w.links k).pipe ≡ b ∷ rest → (held : Option Held) (leads : Option ℕ) → leads ≡ Some b.epoch
        → RightAt ls k (w.cluster.nodes k) (w.links k) held leads → RightAt ls k (w.cluster.nodes k) (record (w.links k) { pipe = rest; waits = (w.links k).waits ++ b ∷ [] }) held leads
    hear_at k b rest is None None some r = tt
    hear_at k b rest is None (Some epoch) some r = r
    hear_at k b rest is (Some e) None some r = absurd cc
    hear_at k b rest is (Some e) (Some epoch) some r = record {
      took = r.took;
      taken_once = r.taken_once;
      number = r.number;
      wrote = r.wrote;
      rest = r.rest;
      own = r.own;
      heard = r.heard ∙ (ap (λ (x : List Batch). (w.links k).waits ++ x)
          (ap (of_epoch e.epoch) is ∙ of_this e.epoch b rest (sym (ap (λ (o : Option ℕ). unwrap_or o epoch) some) ∙ r.number))
          ∙ sym (append_assoc (w.links k).waits (b ∷ []) (of_epoch e.epoch rest)));
      meet = r.meet;
      carry = r.carry;
      ends = r.ends;
      tried = r.tried;
    }

    hear_right : (k : ℕ) (b : Batch) (rest : List Batch) → (w.links k).pipe ≡ b ∷ rest → (w.cluster.nodes k).leads ≡ Some b.epoch → IsWeb make (stepped w (Hear k b rest))
    hear_right k b rest is some = web_link k (record (w.links k) { pipe = rest; waits = (w.links k).waits ++ b ∷ [] }) (λ i x. x) (h.calls k)
        (hear_at k b rest is (w.links k).held (w.cluster.nodes k).leads some (h.right k)) (h.keeps k) (behind_piped k b rest is)

    ask_right : (k : ℕ) (e : Held) (group behind_it : List Batch) → MayAsk w k e group behind_it → IsWeb make (stepped w (Ask k e group behind_it))
    ask_right k e group behind_it m =
        let link = w.links k in
        let n = w.cluster.nodes k in
        let call : Call = record { epoch = e.epoch; made = e.made; group = group } in
        let new : Link = record link { asked = group; waits = behind_it; calls = call ∷ link.calls } in
        let r = runs_at ls k n link e e.epoch m.holds m.leads (h.right k) in
        let rest : List Batch = behind_it ++ of_epoch e.epoch link.pipe in
        let next : n.own ≡ group ++ rest = r.own ∙ (ap (λ (x : List Batch). x ++ r.rest) m.none ∙ (r.heard
        ∙ (ap (λ (x : List Batch). x ++ of_epoch e.epoch link.pipe) m.next ∙ append_assoc group behind_it (of_epoch e.epoch link.pipe)))) in
        let meet : Meet n.end group = meet_before n.end group rest (subst (Meet n.end) next r.meet) in
        let at : base_of_first group ≡ n.end = ap base_of_first m.some ∙ (subst (Meet n.end) m.some meet).0 in
        let over : n.end < behind n.end group = subst (λ (g : List Batch). n.end < behind n.end g) (sym m.some) (grows n.end m.first m.others (subst (Meet n.end) m.some meet)) in
        let some : base_of_first group < behind (base_of_first group) group = subst (λ (x : ℕ). x < behind x group) (sym at) over in
        let settled : r.took.leadership.wrote ≡ n.settled = elim r.wrote [
          | inl x ↦ x
          | inr x ↦ x ∙ (ap (λ (y : List Batch). n.settled ++ y) m.none ∙ append-nil n.settled)
        ] in
        let right : CallRight ls k link.won call = record {
          leadership = r.took.leadership;
          found = r.took.found;
          holder = r.took.holder;
          key = r.took.key;
          taken_once = r.taken_once;
          meet = subst (λ (x : ℕ). Meet x group) (sym at) meet;
          some = some;
          carry = all_before (λ (b : Batch). b.epoch ≡ e.epoch) group rest (subst (AllByRecursion (λ (b : Batch). b.epoch ≡ e.epoch)) next r.carry);
        } in
        let runs : Runs ls k n new e e.epoch = record {
          took = r.took;
          taken_once = r.taken_once;
          number = refl;
          wrote = inl settled;
          rest = rest;
          own = next;
          heard = refl;
          meet = r.meet;
          carry = r.carry;
          ends = r.ends;
          tried = (
            (λ same. inr refl),
            all_map2 (CallRight ls k link.won)
                (λ (c : Call). c.epoch ≡ e.epoch → (base_of_first c.group < n.end) ⊎ (c.group ≡ link.asked)) (λ (c : Call). c.epoch ≡ e.epoch → (base_of_first c.group < n.end) ⊎ (c.group ≡ group))
                (λ c o t same. elim (t same) [
                  | inl low ↦ inl low
                  | inr asked ↦ absurd (empty c.group o.some (asked ∙ m.none))
                ]) link.calls (h.calls k) r.tried,
          );
        } in
        web_link k new (λ i x. x) (right, h.calls k)
        (subst (λ (o : Option Held). RightAt ls k n new o n.leads) (sym m.holds) (subst (λ (o : Option ℕ). RightAt ls k n new (Some e) o) (sym m.leads) runs)) (h.keeps k) (h.piped k)
      where
        empty : (g : List Batch) → base_of_first g < behind (base_of_first g) g → g ≡ [] → ⊥
        empty g some none = (let x : 0 < 0 = subst (λ (y : List Batch). base_of_first y < behind (base_of_first y) y) none some in absurd (omega arith))

    -- what is asked was appended, where the first of it stands at its place
    stands_whole : (k : ℕ) (e : Held) (m : MaySettle w k e) (r : Runs ls k (w.cluster.nodes k) (w.links k) e e.epoch)
        → r.took.leadership.wrote ≡ (w.cluster.nodes k).settled ++ (w.links k).asked
    stands_whole k e m r = elim r.wrote [
      | inr x ↦ x
      | inl x ↦ (
          let n = w.cluster.nodes k in
          let l = r.took.leadership in
          let carry = all_before (λ (b : Batch). b.epoch ≡ e.epoch) (w.links k).asked r.rest (subst (AllByRecursion (λ (b : Batch). b.epoch ≡ e.epoch)) r.own r.carry) in
          let first : m.first.epoch ≡ e.epoch = (subst (AllByRecursion (λ (b : Batch). b.epoch ≡ e.epoch)) m.some carry).0 in
          let v : WasWrittenBy l n.end m.first = found_wrote w.cluster.point.keys.epoch e.epoch ls l n.end m.first h.cluster.order.epochs r.took.found first
          (tell w.cluster.point.log ls n.end m.first h.cluster.order.pieces h.carry m.seen) in
          let meets : Meet n.end (m.first ∷ m.others) = subst (Meet n.end) m.some (meet_before n.end (w.links k).asked r.rest (subst (Meet n.end) r.own r.meet)) in
          let some = meets.1 in
          let begins : behind 0 (l.start ++ v.before) ≡ n.end = v.begins in
          -- the log up to what was settled ends where the first of what is asked begins, and yet has it
          let ends : behind 0 (l.start ++ (v.before ++ m.first ∷ v.after)) ≡ n.end = ap (λ (y : List Batch). behind 0 (l.start ++ y)) (sym v.split ∙ x) ∙ r.ends in
          let same : behind n.end (m.first ∷ v.after) ≡ n.end =
          ap (λ (y : ℕ). behind y (m.first ∷ v.after)) (sym begins)
          ∙ (sym (behind_append 0 (l.start ++ v.before) (m.first ∷ v.after))
          ∙ (ap (behind 0) (append_assoc l.start v.before (m.first ∷ v.after)) ∙ ends)) in
          let led = found_led e.epoch k ls l l.wrote [] r.took.found r.took.holder (sym (append-nil l.wrote)) in
          let begun = begins_log w.cluster.point.log ls k e.epoch l.start l.wrote h.cluster.order.pieces led in
          let whole : Meet 0 (l.start ++ l.wrote) = meet_before 0 (l.start ++ l.wrote) begun.0 (subst (Meet 0) begun.1 h.cluster.one.meet) in
          let split : l.start ++ l.wrote ≡ (l.start ++ v.before) ++ m.first ∷ v.after =
          ap (λ (y : List Batch). l.start ++ y) v.split ∙ sym (append_assoc l.start v.before (m.first ∷ v.after)) in
          let far : Meet (behind 0 (l.start ++ v.before) + m.first.count) v.after = (meet_after 0 (l.start ++ v.before) (m.first ∷ v.after) (subst (Meet 0) split whole)).2 in
          let low : n.end + m.first.count ≤ behind (n.end + m.first.count) v.after = behind_grows (n.end + m.first.count) v.after
          (subst (λ (y : ℕ). Meet (y + m.first.count) v.after) begins far) in
          let over : behind (n.end + m.first.count) v.after ≡ n.end = same in
          absurd (omega arith))
    ]

    commit_allowed : (k : ℕ) (e : Held) → MaySettle w k e → IsAllowedMove make w.cluster (moves.Commit k e.epoch (behind (w.cluster.nodes k).end (w.links k).asked))
    commit_allowed k e m =
        let link = w.links k in
        let n = w.cluster.nodes k in
        let r = runs_at ls k n link e e.epoch m.holds m.leads (h.right k) in
        let up = up_to n.end link.asked r.rest (subst (Meet n.end) r.own r.meet) in
        let next : ended_batches (behind n.end link.asked) n.own ≡ link.asked = ap (ended_batches (behind n.end link.asked)) r.own ∙ up.0 in
        record {
          leads = m.leads;
          start = r.took.leadership.start;
          ours = found_led e.epoch k ls r.took.leadership (n.settled ++ ended_batches (behind n.end link.asked) n.own) [] r.took.found r.took.holder
              (stands_whole k e m r ∙ (ap (λ (y : List Batch). n.settled ++ y) (sym next) ∙ sym (append-nil (n.settled ++ ended_batches (behind n.end link.asked) n.own))));
          whole = ap (behind n.end) next;
        }

    settle_right : (k : ℕ) (e : Held) → MaySettle w k e → IsWeb make (stepped w (Settle k e))
    settle_right k e m =
        let link = w.links k in
        let n = w.cluster.nodes k in
        let end = behind n.end link.asked in
        let after = committed n end in
        let new : Link = record link { asked = [] } in
        let r = runs_at ls k n link e e.epoch m.holds m.leads (h.right k) in
        let meets : Meet n.end (link.asked ++ r.rest) = subst (Meet n.end) r.own r.meet in
        let up = up_to n.end link.asked r.rest meets in
        let next : ended_batches end n.own ≡ link.asked = ap (ended_batches end) r.own ∙ up.0 in
        let others : unended_batches end n.own ≡ r.rest = ap (unended_batches end) r.own ∙ up.1 in
        let low : n.end < end = subst (λ (g : List Batch). n.end < behind n.end g) (sym m.some) (grows n.end m.first m.others (subst (Meet n.end) m.some (meet_before n.end link.asked r.rest meets))) in
        let base : base_of_first link.asked ≡ n.end = ap base_of_first m.some ∙ (subst (Meet n.end) m.some (meet_before n.end link.asked r.rest meets)).0 in
        let runs : Runs ls k after new e e.epoch = record {
          took = r.took;
          taken_once = r.taken_once;
          number = refl;
          wrote = inl (stands_whole k e m r ∙ ap (λ (y : List Batch). n.settled ++ y) (sym next));
          rest = r.rest;
          own = others;
          heard = r.heard;
          meet = subst (Meet end) (sym others) (meet_after n.end link.asked r.rest meets);
          carry = subst (AllByRecursion (λ (b : Batch). b.epoch ≡ e.epoch)) (sym others)
              (all_after (λ (b : Batch). b.epoch ≡ e.epoch) link.asked r.rest (subst (AllByRecursion (λ (b : Batch). b.epoch ≡ e.epoch)) r.own r.carry));
          ends = ap (λ (y : List Batch). behind 0 (r.took.leadership.start ++ (n.settled ++ y))) next
              ∙ (ap (behind 0) (sym (append_assoc r.took.leadership.start n.settled link.asked))
              ∙ (behind_append 0 (r.took.leadership.start ++ n.settled) link.asked ∙ ap (λ (y : ℕ). behind y link.asked) r.ends));
          tried = all_map (λ (c : Call). c.epoch ≡ e.epoch → (base_of_first c.group < n.end) ⊎ (c.group ≡ link.asked)) (λ (c : Call). c.epoch ≡ e.epoch → (base_of_first c.group < end) ⊎ (c.group ≡ []))
              (λ c t same. elim (t same) [
                | inl x ↦ inl (let y : base_of_first c.group < n.end = x in omega arith)
                | inr x ↦ inl (let y : base_of_first c.group ≡ n.end = ap base_of_first x ∙ base in omega arith)
              ]) link.calls r.tried;
        } in
        web_both k after new (moves_on make w.cluster (moves.Commit k e.epoch end) h.cluster (commit_allowed k e m)) (λ i x. x) (h.calls k)
        (subst (λ (o : Option Held). RightAt ls k after new o n.leads) (sym m.holds) (subst (λ (o : Option ℕ). RightAt ls k after new (Some e) o) (sym m.leads) runs)) (h.keeps k) (h.piped k)

    give_up_right : (k epoch : ℕ) → (w.cluster.nodes k).leads ≡ Some epoch → IsWeb make (stepped w (GiveUp k epoch))
    give_up_right k epoch leads = web_both k (after_loss (w.cluster.nodes k)) (idle (w.links k))
        (moves_on make w.cluster (moves.Lost k epoch) h.cluster leads) (λ i x. x) (h.calls k) tt (h.keeps k) (h.piped k)

    let_go_right : (k : ℕ) → (w.cluster.nodes k).leads ≡ None → IsWeb make (stepped w (LetGo k))
    let_go_right k standby = web_link k (idle (w.links k)) (λ i x. x) (h.calls k)
        (subst (λ (o : Option ℕ). RightAt ls k (w.cluster.nodes k) (idle (w.links k)) None o) (sym standby) tt) (h.keeps k) (h.piped k)

    renew_right : (k : ℕ) → IsWeb make (stepped w (Renew k))
    renew_right k = web_both k new_node (record (idle (w.links k)) { pipe = [] }) (moves_on make w.cluster (moves.Renew k) h.cluster tt) (λ i x. x) (h.calls k) tt (h.keeps k) tt

    give_right : (k : ℕ) (keep : Keep) → MayGive make w.cluster.point.log keep → IsWeb make (stepped w (Give k keep))
    give_right k keep m = web_link k (record (w.links k) { keeps = keep ∷ (w.links k).keeps }) (λ i x. x) (h.calls k)
        (right_kept ls k (w.cluster.nodes k) (w.links k) (keep ∷ (w.links k).keeps) (w.links k).held (w.cluster.nodes k).leads (h.right k))
        ((m.later, m.right), h.keeps k) (h.piped k)

    clear_sent : (k : ℕ) (keep : Keep) → Has keep (w.links k).keeps → IsSent make w.cluster.point (Drop keep.before keep.image)
    clear_sent k keep has = has_all (IsKept make w.cluster.point.log) keep (w.links k).keeps (h.keeps k) has

    free_sent : (change : Change) → IsFree change → IsSent make w.cluster.point change × IsNoAppend change
    free_sent (Campaign node token epoch) f = (tt, tt)
    free_sent (Append made batches) f = absurd f
    free_sent (Drop before image) f = absurd f
    free_sent Expire f = (tt, tt)
    free_sent Other f = (tt, tt)

    read_right : (k : ℕ) (b : Batch) → IsAllowedMove make w.cluster (moves.Feed k b) → IsWeb make (stepped w (Read k b))
    read_right k b a = web_node k (fed (w.cluster.nodes k) b) (moves_on make w.cluster (moves.Feed k b) h.cluster a) (on_standby k (fed (w.cluster.nodes k) b) a.0 a.0)

    take_right : (k : ℕ) (image : StoredImage) → IsAllowedMove make w.cluster (moves.Load k image) → IsWeb make (stepped w (Take k image))
    take_right k image a = web_node k (loaded (w.cluster.nodes k) image) (moves_on make w.cluster (moves.Load k image) h.cluster a)
        (on_standby k (loaded (w.cluster.nodes k) image) a.standby a.standby)

    leads_some : (leads : Option ℕ) (epoch : ℕ) → leads ≡ Some epoch → IsSome leads
    leads_some None epoch e = absurd cc
    leads_some (Some x) epoch e = refl

  -- ---- all

  pub step_right : (w : Web) (step : LinkStep) → IsWeb make w → IsPossible make w step → AreAllowed make w.cluster (handed w step) × IsWeb make (stepped w step)
  step_right w (Execute k call) h a = ((execute_sent w h k call a, tt), execute_by w h k call a (compares w.cluster.point.keys (append_of call)) refl)
  step_right w (Clear k keep) h a =
      let sent = clear_sent w h k keep a in
      ((sent, tt), store_stays w h (Drop keep.before keep.image) sent (no_append_stays w.cluster.point (Drop keep.before keep.image) h.cluster.order tt))
  step_right w (Make change) h a =
      let f = free_sent w h change a in ((f.0, tt), store_stays w h change f.0 (no_append_stays w.cluster.point change h.cluster.order f.1))
  step_right w (Win k e) h a = (tt, win_right w h k e a.0 a.1 a.2)
  step_right w (Read k b) h a = ((a, tt), read_right w h k b a)
  step_right w (Take k image) h a = ((a, tt), take_right w h k image a)
  step_right w (Begin k e) h a = ((begin_allowed w h k e a, tt), begin_right w h k e a)
  step_right w (Write k b) h a =
      let allowed = leads_some w h (w.cluster.nodes k).leads b.epoch a.leads in ((allowed, tt), write_right w h k b a allowed)
  step_right w (Stray k b) h a = (tt, stray_right w h k b a)
  step_right w (Hear k b rest) h a = (tt, hear_right w h k b rest a.0 a.1)
  step_right w (Pass k b rest) h a = (tt, pass_right w h k b rest a.0 a.1)
  step_right w (Ask k e group rest) h a = (tt, ask_right w h k e group rest a)
  step_right w (Settle k e) h a = ((commit_allowed w h k e a, tt), settle_right w h k e a)
  step_right w (Give k keep) h a = (tt, give_right w h k keep a)
  step_right w (GiveUp k epoch) h a = ((a, tt), give_up_right w h k epoch a)
  step_right w (LetGo k) h a = (tt, let_go_right w h k a)
  step_right w (Renew k) h a = ((tt, tt), renew_right w h k)

  pub allowed_both : (c : Cluster) (some more : List Move) → AreAllowed make c some → AreAllowed make (fold moved c some) more → AreAllowed make c (some ++ more)
  allowed_both c [] more a b = b
  allowed_both c (move ∷ some) more (here, a) b = (here, allowed_both (moved c move) some more a b)

  steps_right : (w : Web) (steps : List LinkStep) → IsWeb make w → ArePossible make w steps → AreAllowed make w.cluster (all_handed w steps)
  steps_right w [] h a = tt
  steps_right w (step ∷ steps) h (here, a) =
      let r = step_right w step h here in
      allowed_both w.cluster (handed w step) (all_handed (stepped w step) steps) r.0 (steps_right (stepped w step) steps r.1 a)

  pub first_web : IsWeb make no_web
  first_web = record { cluster = first_cluster make; carry = tt; calls = λ k. tt; unused = λ epoch l found. absurd cc; right = λ k. tt; keeps = λ k. tt; piped = λ k. tt }

pub links_hand_right : LinksHandRight
links_hand_right make steps a = steps_right make no_web steps (first_web make) a
