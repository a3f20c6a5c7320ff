-- A node begins to lead, or is told that its leadership is over.
use Rattle.std.proofs.Common.{◌≡◌, ◌∙◌, sym, subst, ℕ, ℤ, pos, true, false, cond, [], map, refl, ap, arith}
use Rattle.std.specs.Prelude.{FitsSigned, Option, Some, Ok, Err, int_lt, is_some, not, ◌==◌, if◌then◌else◌}
use Rattle.std.specs.Int.{w64}
use Rattle.std.specs.List.{slice_get}
use Rattle.std.proofs.lemmas.Bool.Decides.{nat_tests}
use Rattle.std.proofs.lemmas.Int.{ints}
use Rattle.std.proofs.lemmas.List.{append-nil, map-append}
use Rattle.kr_calls.specs.declared.events.Event.TheVariants as events
use Rattle.kr_defs.specs.declared.options.Options.{Options}
use Rattle.kr_model.specs.Events.{at_time_of, outcome}
use Rattle.law_nodes.specs.declared.moves.MoveFault.TheVariants as faults
use Rattle.law_nodes.specs.Moves as table
use Rattle.law_nodes.specs.Moves.{after_election, committed_end, deposed, length_of, with_event}
use Rattle.law_nodes.specs.Nodes.{Run, RunNode, after_event, at_own_end, told_of}
use Rattle.law_nodes.proofs.ReadBatches.{none_led}
use Rattle.law_nodes.proofs.Steady.{max_fits, node_end}
use Rattle.kr_nodes.specs.declared.node.Node.{Node}
use Rattle.kr_nodes.specs.declared.shared.Shared.{Shared}
use Rattle.kr_nodes.specs.inner.Acting.{Acts, IsReached, LeavesRun}
use Rattle.kr_nodes.specs.inner.Checks.{MayElect}
use Rattle.kr_nodes.specs.inner.Taking.{NodeTakes, ReturnsToEnd}
use Rattle.kr_nodes.specs.Standing.{AreBelow, StandsForNode, StandsForShared, told_as}
use Rattle.kr_nodes.proofs.Feeds.{is_node, none_new, reads_none}
use Rattle.kr_nodes.proofs.Moved.{event_leaves, node_stands}
use Rattle.kr_nodes.proofs.OwnEnds.{own_end}
use Rattle.kr_nodes.proofs.RefusedMoves.{leading_goes, standby_goes}
use Rattle.kr_nodes.proofs.Takings.{taken, taken_of, told_so}

module _ (k : ℕ) (epoch now next : ℤ) (fits : FitsSigned w64 now) (before back between : Node) (shared shared' shared'' : Shared) (may : MayElect epoch shared before next)
    (return : ReturnsToEnd before back) (t : NodeTakes k back between false shared.told.items shared'.told.items (events.Lead epoch next now)) (same : shared' ≡ record shared { told = shared'.told })
    (notes : shared'' ≡ record shared' { elected = if is_some between.engine.leading then epoch else shared'.elected }) where
  elected : (options : Options) (r : Run) (n : RunNode) → IsReached options r → slice_get r.nodes k ≡ Some n → StandsForNode options r.list n before → StandsForShared r shared → (next : Run) × (table.elect options r k n epoch now ≡ Ok next) × LeavesRun options r next k between shared''
  elected options r n reached is s g =
      let m = at_own_end n in
      let end = committed_end n in
      let event = events.Lead epoch (pos end) now in
      let own : StandsForNode options r.list m back = own_end options r.list n before back (taken_of options r.list n before s) return s.fed in
      let takes : NodeTakes k back between false shared.told.items shared'.told.items event =
      subst (λ z. NodeTakes k back between false shared.told.items shared'.told.items (events.Lead epoch z now)) (may.is ∙ s.engine.committed) t in
      let q = outcome options (at_time_of m.state event) event in
      let late = max_fits n.state.basis.time now s.time fits in
      let reads = reads_none options m event (none_led r.list r.elected n (is_node options r k n reached is) options epoch (pos end) now) q in
      let l = event_leaves options r k m event back between false shared shared' takes own g (none_new q) reads late tt same in
      let new : int_lt r.elected epoch ≡ true = ap (λ e. int_lt e epoch) (sym g.elected) ∙ may.new in
      let ends : pos end ≡ pos (length_of r) = sym s.engine.committed ∙ (may.whole ∙ g.length_is) in
      let whole : (end == length_of r) ≡ true = grind (arith, nat_tests, ints) in
      let to = after_election options r k m epoch event in
      let leads : is_some between.engine.leading ≡ is_some (after_event options m event).state.world.leading =
      ap (λ (o : Option ℤ). is_some o) (taken options k m event back between false shared.told.items shared'.told.items takes (taken_of options r.list m back own) (none_new q) reads late).engine.leading in
      let now_elected : shared''.elected ≡ (if is_some (after_event options m event).state.world.leading then epoch else r.elected) =
      ap (λ (x : Shared). x.elected) notes
      ∙ (ap (λ b. cond b epoch shared'.elected) leads
      ∙ ap (λ e. cond (is_some (after_event options m event).state.world.leading) epoch e) (ap (λ (x : Shared). x.elected) same ∙ g.elected)) in (
        to,
        standby_goes k n.state.world.leading _ (sym s.engine.leading ∙ may.idle)
            ∙ (ap (λ b. cond (not b) (Err (faults.OldEpoch epoch r.elected)) (cond (not (end == length_of r)) (Err (faults.Behind (pos end) (pos (length_of r)))) (Ok to))) new
            ∙ ap (λ b. cond (not b) (Err (faults.Behind (pos end) (pos (length_of r)))) (Ok to)) whole),
        record {
          node = after_event options m event;
          nodes_are = refl;
          more = [];
          grows = sym (append-nil r.list);
          stands = node_stands options r k m event back between false shared shared' takes own g (none_new q) reads late
              (subst (λ c. AreBelow r.list c between.fed) (sym (node_end options m event tt)) (subst (AreBelow r.list end) (sym takes.places.fed) own.fed));
          shares = record {
            list = ap (λ (x : Shared). x.list.items) notes ∙ l.shares.list;
            reads = g.reads;
            length_is = ap (λ (x : Shared). x.length) notes ∙ l.shares.length_is;
            elected = now_elected;
            told = ap (λ (x : Shared). x.told.items) notes ∙ l.shares.told;
          };
        },
      )

  pub elect_acts : Acts (λ options r n. table.elect options r k n epoch now) k before between shared shared'' (Ok tt)
  elect_acts = elected

-- ---- Lost

module _ (k : ℕ) (epoch : ℤ) (before between after : Node) (shared shared' : Shared) (led : before.engine.leading ≡ Some epoch)
    (t : NodeTakes k before between false shared.told.items shared'.told.items (events.Lost epoch)) (return : ReturnsToEnd between after) (same : shared' ≡ record shared { told = shared'.told }) where
  pub depose_acts : Acts (λ options r n. table.depose options r k n) k before after shared shared' (Ok tt)
  depose_acts = λ options r n reached is s g.
      let event = events.Lost epoch in
      let q = outcome options n.state event in
      let reads = reads_none options n event refl q in
      let own = taken options k n event before between false shared.told.items shared'.told.items t (taken_of options r.list n before s) (none_new q) reads s.time in (
        deposed options r k n event,
        leading_goes k n.state.world.leading epoch _ (sym s.engine.leading ∙ led),
        record {
          node = at_own_end (after_event options n event);
          nodes_are = refl;
          more = [];
          grows = sym (append-nil r.list);
          stands = own_end options r.list (after_event options n event) between after own return
              (subst (λ c. AreBelow r.list c between.fed) (sym (node_end options n event tt)) (subst (AreBelow r.list (committed_end n)) (sym t.places.fed) s.fed));
          shares = record {
            list = ap (λ (x : Shared). x.list.items) same ∙ g.list;
            reads = g.reads;
            length_is = ap (λ (x : Shared). x.length) same ∙ g.length_is;
            elected = ap (λ (x : Shared). x.elected) same ∙ g.elected;
            told =
                told_so options k n event before between false shared.told.items shared'.told.items t (taken_of options r.list n before s) (none_new q) reads (map told_as r.told) g.told
                ∙ sym (map-append told_as r.told (told_of options k n event));
          };
        },
      )
