-- A leader is told that what it settled is committed.
use Rattle.std.proofs.Common.{◌≡◌, ◌∙◌, sym, subst, ℕ, ℤ, pos, Bool, true, false, cond, List, [], refl, ap, arith}
use Rattle.std.specs.Prelude.{◌<ℤ◌, Ok, Err, nat_lt, not}
use Rattle.std.specs.Ordering.{int_eq}
use Rattle.std.proofs.lemmas.Bool.Decides.{nat_tests}
use Rattle.std.proofs.lemmas.Int.{ints}
use Rattle.std.proofs.lemmas.List.{append-nil}
use Rattle.kr_batch.specs.declared.Batch.{Batch}
use Rattle.kr_calls.specs.declared.events.Event.TheVariants as events
use Rattle.kr_model.specs.Events.{outcome}
use Rattle.law_nodes.specs.declared.moves.MoveFault.TheVariants as faults
use Rattle.law_nodes.specs.Moves as table
use Rattle.law_nodes.specs.Moves.{committed_end, with_event}
use Rattle.law_nodes.specs.Nodes.{RunNode, after_event}
use Rattle.law_nodes.proofs.Steady.{node_settled, uncommitted}
use Rattle.kr_nodes.specs.declared.node.Node.{Node}
use Rattle.kr_nodes.specs.declared.shared.Shared.{Shared}
use Rattle.kr_nodes.specs.inner.Acting.{Acts, told_fed}
use Rattle.kr_nodes.specs.inner.Checks.{MayTell}
use Rattle.kr_nodes.specs.inner.Taking.{NodeTakes}
use Rattle.kr_nodes.specs.Standing.{AreBelow}
use Rattle.kr_nodes.proofs.Feeds.{none_new, reads_none}
use Rattle.kr_nodes.proofs.Moved.{shares}
use Rattle.kr_nodes.proofs.RefusedMoves.{leading_goes}
use Rattle.kr_nodes.proofs.Takings.{TakenNode, taken, taken_of}

module _ (k : ℕ) (epoch : ℤ) (before between : Node) (shared shared' : Shared) (may : MayTell before epoch)
    (t : NodeTakes k before between false shared.told.items shared'.told.items (events.Commit epoch before.settled)) (same : shared' ≡ record shared { told = shared'.told }) where
  fed_by : (list : List Batch) (n : RunNode) (to : ℕ) → before.settled ≡ pos n.settled → between.engine.committed ≡ pos to → AreBelow list (committed_end n) before.fed → AreBelow list n.settled before.sent
      → ((to ≡ n.settled → ⊥) → to ≡ committed_end n) → (b : Bool) → int_eq between.engine.committed before.settled ≡ b → AreBelow list to (cond b between.sent between.fed)
  fed_by list n to settled end fed sent stays true test =
      let all : to ≡ n.settled = grind (arith, ints) in
      subst (AreBelow list to) (sym t.places.sent) (subst (λ c. AreBelow list c before.sent) (sym all) sent)
  fed_by list n to settled end fed sent stays false test =
      let here : to ≡ committed_end n = stays (λ all. absurd (grind (arith, ints))) in
      subst (AreBelow list to) (sym t.places.fed) (subst (λ c. AreBelow list c before.fed) (sym here) fed)

  pub tell_acts : Acts (λ options r n. table.tell options r k n) k before (record between { fed = told_fed before.settled between }) shared shared' (Ok tt)
  tell_acts = λ options r n reached is s g.
      let event = events.Commit epoch (pos n.settled) in
      let takes : NodeTakes k before between false shared.told.items shared'.told.items event = subst (λ z. NodeTakes k before between false shared.told.items shared'.told.items (events.Commit epoch z)) s.settled t in
      let q = outcome options n.state event in
      let reads = reads_none options n event refl q in
      let m = after_event options n event in
      let own : TakenNode options m between = taken options k n event before between false shared.told.items shared'.told.items takes (taken_of options r.list n before s) (none_new q) reads s.time in
      let low : nat_lt (committed_end n) n.settled ≡ true = less (committed_end n) n.settled before.engine.committed before.settled s.engine.committed s.settled may.some in (
        with_event options r k n event,
        leading_goes k n.state.world.leading epoch _ (sym s.engine.leading ∙ may.leads)
            ∙ ap (λ b. cond (not b) (Err (faults.NothingNew (pos (committed_end n)))) (Ok (with_event options r k n event))) low,
        record {
          node = m;
          nodes_are = refl;
          more = [];
          grows = sym (append-nil r.list);
          stands = record {
            options_are = own.options_are;
            engine = own.engine;
            drained = own.drained;
            settled = t.places.settled ∙ (s.settled ∙ ap (λ z. pos z) (sym (node_settled options n event)));
            unsettled = own.unsettled;
            waiting = own.waiting;
            fed = fed_by r.list n m.state.world.committed s.settled own.engine.committed s.fed s.sent (λ other. uncommitted options n epoch (pos n.settled) other) (int_eq between.engine.committed before.settled) refl;
            sent = subst (λ z. AreBelow r.list z between.sent) (sym (node_settled options n event)) (subst (AreBelow r.list n.settled) (sym t.places.sent) s.sent);
            reads = own.reads;
            time = own.time;
          };
          shares = shares options r k n event before between false shared shared' takes s g (none_new q) reads s.time same;
        },
      )
    where
      less : (a b : ℕ) (x y : ℤ) → x ≡ pos a → y ≡ pos b → x <ℤ y → nat_lt a b ≡ true
      less a b x y is_a is_b low = grind (arith, nat_tests, ints)
