-- The move that copies an image, of all nodes.
use Rattle.std.proofs.Common.{◌≡◌, ◌∙◌, sym, subst, inl, inr, ℕ, ℤ, pos, ◌≤◌, true, false, cond, List, [], length, refl, ap, arith}
use Rattle.std.specs.Prelude.{Option, Some, None, Result, Ok, Err, int_lt, is_some, nat_lt}
use Rattle.std.specs.List.{slice_get}
use Rattle.std.proofs.lemmas.Bool.Decides.{nat_tests}
use Rattle.std.proofs.lemmas.Int.{ints}
use Rattle.std.proofs.lemmas.List.{append-nil}
use Rattle.kr_calls.specs.declared.events.Event.{Event}
use Rattle.kr_calls.specs.declared.events.Event.TheVariants as events
use Rattle.kr_defs.specs.declared.options.Options.{Options}
use Rattle.kr_defs.specs.Image.{Image}
use Rattle.kr_defs.proofs.Tests.{some_is}
use Rattle.kr_model.specs.Load.{take_image}
use Rattle.kr_model.specs.World.{image_of_closed}
use Rattle.kr_snapshot.specs.Reading.{image_of}
use Rattle.law_nodes.specs.declared.moves.Move.TheVariants as moves
use Rattle.law_nodes.specs.declared.moves.MoveFault.{MoveFault}
use Rattle.law_nodes.specs.declared.moves.MoveFault.TheVariants as faults
use Rattle.law_nodes.specs.Moves as table
use Rattle.law_nodes.specs.Moves.{after_arrival, closed_end_of, committed_end, load_on, move_outcome, on_node, put_node, with_event}
use Rattle.law_nodes.specs.Nodes.{Run, RunNode, after_event}
use Rattle.law_nodes.proofs.Logs.{all_closed}
use Rattle.law_nodes.proofs.Steps.{set_leading}
use Rattle.kr_nodes.specs.declared.cluster.Cluster.{Cluster}
use Rattle.kr_nodes.specs.declared.node.Node.{Node}
use Rattle.kr_nodes.specs.declared.shared.Shared.{Shared}
use Rattle.kr_nodes.specs.declared.told.ToldReply.{ToldReply}
use Rattle.kr_nodes.specs.inner.Acting.{LeavesRun, MakesSome}
use Rattle.kr_nodes.specs.inner.Copying.{GivesImage, ImagesAt, IsCopyFault, LoadsEvent, LoadsAt, MayCopy}
use Rattle.kr_nodes.specs.Standing.{AreBelow, StandsForNode}
use Rattle.kr_nodes.proofs.Clusters.{at_missing, at_there, missing, put_stands, there}
use Rattle.kr_nodes.proofs.Copies.{none_imaged, set_waiting}
use Rattle.kr_nodes.proofs.Feeds.{is_node}
use Rattle.kr_nodes.proofs.RefusedMoves.{standby_goes, standby_refuses}

node_is : (nodes : List Node) (k : ℕ) (a b : Node) → slice_get nodes k ≡ Some a → slice_get nodes k ≡ Some b → a ≡ b
node_is nodes k a b is_a is_b = some_is a b (sym is_a ∙ is_b)

module _ (from to : ℕ) where
  -- ---- refused

  pub no_source : (c : Cluster) (fault : MoveFault) → length c.nodes.items ≤ from → fault ≡ faults.NoNode from c.count → MakesSome c c (moves.Copy from to) (Err fault)
  no_source c fault low is =
      subst (λ (f : MoveFault). MakesSome c c (moves.Copy from to) (Err f)) (sym is) (λ options r reached st.
      let m = missing options r c st from low in
      (at_missing r from _ m.0 ∙ ap (λ n. Err (faults.NoNode from n)) (sym m.1), st))

  pub no_target : (c : Cluster) (source : Node) (fault : MoveFault) → slice_get c.nodes.items from ≡ Some source → length c.nodes.items ≤ to → fault ≡ faults.NoNode to c.count → MakesSome c c (moves.Copy from to) (Err fault)
  no_target c source fault is_source low is =
      subst (λ (f : MoveFault). MakesSome c c (moves.Copy from to) (Err f)) (sym is) (λ options r reached st.
      let p = there options r c st from source is_source in
      let m = missing options r c st to low in
      (at_there r from p.0 (λ f. on_node r to (λ t. table.copy options r from to f t)) p.1 ∙ (at_missing r to (λ t. table.copy options r from to p.0 t) m.0 ∙ ap (λ n. Err (faults.NoNode to n)) (sym m.1)), st))

  -- where both are there
  copy_is : (options : Options) (r : Run) (f t : RunNode) → slice_get r.nodes from ≡ Some f → slice_get r.nodes to ≡ Some t → move_outcome options r (moves.Copy from to) ≡ table.copy options r from to f t
  copy_is options r f t is_f is_t = at_there r from f (λ f. on_node r to (λ t. table.copy options r from to f t)) is_f ∙ at_there r to t (λ t. table.copy options r from to f t) is_t

  abbrev then_load : Options → Run → RunNode → Result Run MoveFault
  then_load options r f = load_on (with_event options r from f events.Image) to (pos (closed_end_of f), image_of_closed f.state)

  pub not_copied : (c : Cluster) (source : Node) (fault : MoveFault) → slice_get c.nodes.items from ≡ Some source → IsCopyFault c.nodes.items from to fault → MakesSome c c (moves.Copy from to) (Err fault)
  not_copied c source fault is_source (inl l) =
      subst (λ (f : MoveFault). MakesSome c c (moves.Copy from to) (Err f)) (sym l.leads.1) (λ options r reached st.
      let p = there options r c st from source is_source in
      let q = there options r c st to l.target l.target_is in
      (copy_is options r p.0 q.0 p.1 q.1 ∙ standby_refuses to q.0.state.world.leading _ (ap (λ (o : Option ℤ). is_some o) (sym q.2.engine.leading) ∙ l.leads.0), st))
  not_copied c source fault is_source (inr o) =
      subst (λ (f : MoveFault). MakesSome c c (moves.Copy from to) (Err f)) (sym o.is) (λ options r reached st.
      let p = there options r c st from o.source o.source_is in
      let q = there options r c st to o.target o.target_is in
      let low : nat_lt (closed_end_of p.0) (committed_end q.0) ≡ true = as_numbers o.source.engine.closed o.target.engine.committed (closed_end_of p.0) (committed_end q.0) p.2.engine.closed q.2.engine.committed o.older in (
        copy_is options r p.0 q.0 p.1 q.1
            ∙ (standby_goes to q.0.state.world.leading _ (sym q.2.engine.leading ∙ o.idle)
            ∙ (ap (λ b. cond b (Err (faults.OlderImage (pos (closed_end_of p.0)) (pos (committed_end q.0)))) (then_load options r p.0)) low
            ∙ (ap (λ z. Err (faults.OlderImage z (pos (committed_end q.0)))) (sym p.2.engine.closed) ∙ ap (λ z. Err (faults.OlderImage o.source.engine.closed z)) (sym q.2.engine.committed)))),
        st,
      ))
    where
      as_numbers : (x y : ℤ) (a b : ℕ) → x ≡ pos a → y ≡ pos b → int_lt x y ≡ true → nat_lt a b ≡ true
      as_numbers x y a b is_a is_b is = grind (arith, nat_tests, ints)

  -- ---- made

  -- the event brings the image of that end
  abbrev Brings : Event → ℕ → Image → Type 0
  Brings (events.Load bytes) end image = image_of bytes ≡ Ok (pos end, image)
  Brings other end image = ⊥

  brings : (options : Options) (r : Run) (f : RunNode) (node : Node) (event : Event) → GivesImage node event → StandsForNode options r.list f node → Brings event (closed_end_of f) (image_of_closed f.state)
  brings options r f node (events.Load bytes) g s = g options r.list f s ∙ ap (λ z. Ok (z, image_of_closed f.state)) s.engine.closed
  brings options r f node (events.Batch bytes) g s = absurd g
  brings options r f node (events.Lead epoch next now) g s = absurd g
  brings options r f node (events.Commit epoch end) g s = absurd g
  brings options r f node (events.Lost epoch) g s = absurd g
  brings options r f node (events.Tick now) g s = absurd g
  brings options r f node (events.Request client now ask) g s = absurd g
  brings options r f node events.Image g s = absurd g

  loaded : (options : Options) (r : Run) (n : RunNode) (before after : Node) (event : Event) (end : ℤ) (place : ℕ) (image : Image) (fed : ℕ) (told told' : List ToldReply) → LoadsEvent to before after event end fed told told' → Brings event place image
      → StandsForNode options r.list n before → n.state.world.leading ≡ None → n.waiting ≡ [] → end ≡ pos place → AreBelow r.list place fed
      → StandsForNode options r.list (after_arrival n (take_image n.state (pos place, image))) after × (told' ≡ told)
  loaded options r n before after (events.Load bytes) end place image fed told told' loads b s none idle is below = loads options r.list n place image s none idle is b below
  loaded options r n before after (events.Batch bytes) end place image fed told told' loads b s none idle is below = absurd b
  loaded options r n before after (events.Lead epoch next now) end place image fed told told' loads b s none idle is below = absurd b
  loaded options r n before after (events.Commit epoch x) end place image fed told told' loads b s none idle is below = absurd b
  loaded options r n before after (events.Lost epoch) end place image fed told told' loads b s none idle is below = absurd b
  loaded options r n before after (events.Tick now) end place image fed told told' loads b s none idle is below = absurd b
  loaded options r n before after (events.Request client now ask) end place image fed told told' loads b s none idle is below = absurd b
  loaded options r n before after events.Image end place image fed told told' loads b s none idle is below = absurd b

  module _ (c between after : Cluster) (end : ℤ) (fed : ℕ) (event : Event) (may : MayCopy c.nodes.items from to end fed) (gives : ImagesAt from c.nodes.items between.nodes.items c.shared between.shared event)
      (loads : LoadsAt to between.nodes.items after.nodes.items event end fed between.shared.told.items after.shared.told.items) (count : between.count ≡ c.count) (spent : between.spent ≡ c.spent) (count' : after.count ≡ c.count) (spent' : after.spent ≡ c.spent)
      (same : after.shared ≡ record between.shared { told = after.shared.told }) where
    pub copied : MakesSome c after (moves.Copy from to) (Ok tt)
    copied = λ options r reached st.
        let p = there options r c st from may.source may.source_is in
        let q = there options r c st to may.target may.target_is in
        let f = p.0 in
        let t = q.0 in
        let none : t.state.world.leading ≡ None = sym q.2.engine.leading ∙ may.idle in
        let own : may.source ≡ gives.before = node_is c.nodes.items from may.source gives.before may.source_is gives.there in
        let s_before : StandsForNode options r.list f gives.before = subst (λ (n : Node). StandsForNode options r.list f n) own p.2 in
        let next = with_event options r from f events.Image in
        let l1 : LeavesRun options r next from gives.after between.shared = gives.images.goes options r f p.1 s_before st.shared in
        let st1 = put_stands options r c st next from gives.after between l1 gives.put count spent in
        let p2 = there options next between st1 to loads.before loads.there in
        let n = p2.0 in
        let still : n.state.world.leading ≡ None = set_leading r.nodes from to f (after_event options f events.Image) n t p.1 q.1 p2.1 refl ∙ none in
        let idle : n.waiting ≡ [] = set_waiting r.nodes from to f (after_event options f events.Image) n t p.1 q.1 p2.1 (λ w. none_imaged options f w) ((is_node options r to t reached q.1).idle none) in
        let place = closed_end_of f in
        let image = image_of_closed f.state in
        let closed : place ≡ committed_end f = all_closed f.state.world.log (is_node options r from f reached p.1).core.means (committed_end f) in
        let below = subst (λ end. AreBelow r.list end may.source.fed) (sym closed) p.2.fed in
        let got = loaded options next n loads.before loads.after event end place image fed between.shared.told.items after.shared.told.items loads.loads
        (brings options r f gives.before event gives.images.gives s_before) p2.2 still idle (may.end_is ∙ p.2.engine.closed) (subst (AreBelow r.list place) (sym may.fed_is) below) in
        let m = after_arrival n (take_image n.state (pos place, image)) in
        let last = put_node next to m in
        let later : nat_lt place (committed_end t) ≡ false = as_numbers may.source.engine.closed may.target.engine.committed place (committed_end t) p.2.engine.closed q.2.engine.committed may.later in (
          last,
          copy_is options r f t p.1 q.1
              ∙ (standby_goes to t.state.world.leading _ none
              ∙ (ap (λ b. cond b (Err (faults.OlderImage (pos place) (pos (committed_end t)))) (then_load options r f)) later
              ∙ at_there next to n (λ (x : RunNode). Ok (put_node next to (after_arrival x (take_image x.state (pos place, image))))) p2.1)),
          put_stands options next between st1 last to loads.after after
              (record {
                node = m;
                nodes_are = refl;
                more = [];
                grows = sym (append-nil next.list);
                stands = got.0;
                shares = record {
                  list = ap (λ (x : Shared). x.list.items) same ∙ st1.shared.list;
                  reads = st1.shared.reads;
                  length_is = ap (λ (x : Shared). x.length) same ∙ st1.shared.length_is;
                  elected = ap (λ (x : Shared). x.elected) same ∙ st1.shared.elected;
                  told = got.1 ∙ st1.shared.told;
                };
              }) loads.put (count' ∙ sym count) (spent' ∙ sym spent),
        )
      where
        as_numbers : (x y : ℤ) (a b : ℕ) → x ≡ pos a → y ≡ pos b → int_lt x y ≡ false → nat_lt a b ≡ false
        as_numbers x y a b is_a is_b is = grind (arith, nat_tests, ints)
