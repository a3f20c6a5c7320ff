-- The list's batch at a node's end comes to it.
use Rattle.std.proofs.Common.{◌≡◌, ◌∙◌, sym, subst, ℕ, pos, ◌+◌, Bool, true, false, cond, List, [], ◌∷◌, ◌++◌, length, length-append, map, refl, ap, arith}
use Rattle.std.specs.Prelude.{Option, Some, None, Result, Ok, Err, ◌==◌}
use Rattle.std.specs.List.{AllByRecursion, slice_get}
use Rattle.std.specs.Ordering.{int_eq}
use Rattle.std.proofs.lemmas.Bool.Decides.{nat_tests}
use Rattle.std.proofs.lemmas.Int.{ints}
use Rattle.std.proofs.lemmas.List.{append-nil, append_assoc}
use Rattle.kr_batch.specs.declared.Batch.{Batch}
use Rattle.kr_batch.specs.BatchBytes.{batch_bytes}
use Rattle.kr_batch.proofs.WrittenBatches.{regular_again}
use Rattle.kr_calls.specs.declared.events.Event.{Event}
use Rattle.kr_calls.specs.declared.events.Event.TheVariants as events
use Rattle.kr_calls.specs.declared.events.Reason.{Reason}
use Rattle.kr_defs.specs.declared.options.Options.{Options}
use Rattle.kr_defs.specs.declared.record.Item.{Item}
use Rattle.kr_defs.proofs.Tests.{some_is}
use Rattle.kr_model.specs.Batch.{take_batch}
use Rattle.kr_model.specs.Engine.{Rise}
use Rattle.kr_model.specs.Events.{at_time_of, outcome}
use Rattle.kr_model.specs.Outputs.{if_accepted}
use Rattle.kr_model.specs.World.{State, tip_of}
use Rattle.law_nodes.specs.declared.moves.MoveFault.TheVariants as faults
use Rattle.law_nodes.specs.Moves as table
use Rattle.law_nodes.specs.Moves.{after_arrival, committed_end, feed_next, length_of, put_node, run}
use Rattle.law_nodes.specs.Nodes.{NodeTold, Run, RunNode, batches_of, after_event}
use Rattle.law_nodes.specs.OneList.{batch_from, list_items}
use Rattle.law_nodes.specs.ReadingBack.{ReadsBack}
use Rattle.law_nodes.proofs.AllMoves.{run_is}
use Rattle.law_nodes.proofs.Invariant.{IsNode, IsRun, at_node}
use Rattle.law_nodes.proofs.Lists.{HasItems, batch_behind, items_append, items_one, some_before, some_behind}
use Rattle.kr_nodes.specs.declared.node.Node.{Node}
use Rattle.kr_nodes.specs.declared.shared.ListBatch.{ListBatch}
use Rattle.kr_nodes.specs.declared.shared.Shared.{Shared}
use Rattle.kr_nodes.specs.inner.Acting.{Acts, IsReached, LeavesRun, passed}
use Rattle.kr_nodes.specs.inner.Checks.{MayFeed}
use Rattle.kr_nodes.specs.inner.Taking.{NodeTakes, ReturnsToEnd}
use Rattle.kr_nodes.specs.Standing.{AreBelow, StandsForNode, StandsForShared, list_batch, told_as}
use Rattle.kr_nodes.proofs.Arrivals.{arrival_is, batch_is, fed_to, told_none}
use Rattle.kr_nodes.proofs.OwnEnds.{own_end}
use Rattle.kr_nodes.proofs.RefusedMoves.{at_front, standby_goes}
use Rattle.kr_nodes.proofs.Takings.{ReadBy, TakenNode, taken, taken_of, told_so}

-- what is reached keeps what stays true of all nodes
pub is_run : (options : Options) (r : Run) → IsReached options r → IsRun r
is_run options r reached = subst IsRun (sym reached.is) (run_is options reached.nodes reached.past)

pub is_node : (options : Options) (r : Run) (k : ℕ) (n : RunNode) → IsReached options r → slice_get r.nodes k ≡ Some n → IsNode r.list r.elected n
is_node options r k n reached is = at_node (IsNode r.list r.elected) r.nodes k n (is_run options r reached).nodes is

-- an event that appends nothing of its own
pub none_new : {X : Type 0} (q : Result State Reason) → [] ≡ if_accepted {X = X} q []
none_new (Ok after) = refl
none_new (Err reason) = refl

pub reads_none : (options : Options) (n : RunNode) (event : Event) → batches_of options (at_time_of n.state event) event ≡ [] → (q : Result State Reason) → ReadBy options n event q
reads_none options n event none (Ok after) = subst (AllByRecursion ReadsBack) (sym none) tt
reads_none options n event none (Err reason) = tt

-- ---- a batch at a place

module _ (list : List Batch) (place fed : ℕ) (a : AreBelow list place fed) (b : Batch) (bs : List Batch) (ahead : a.ahead ≡ b ∷ bs) where
  parts : list ≡ a.done ++ b ∷ bs
  parts = a.is ∙ ap (λ (l : List Batch). a.done ++ l) ahead

  pub next_is : AllByRecursion HasItems list → batch_from place list ≡ Some b
  next_is some =
      ap (λ (l : List Batch). batch_from place l) parts
      ∙ (ap (λ at. batch_from at (a.done ++ b ∷ bs)) a.reaches ∙ batch_behind a.done bs b (some_before a.done (b ∷ bs) (subst (AllByRecursion HasItems) parts some)))

  pub has_items : AllByRecursion HasItems list → HasItems b
  has_items some = (some_behind a.done (b ∷ bs) (subst (AllByRecursion HasItems) parts some)).0

  pub not_whole : AllByRecursion HasItems list → (place == length (list_items list)) ≡ false
  not_whole some =
      let all = ap (λ (l : List Batch). length (list_items l)) parts ∙ ap (λ (l : List Item). length l) (items_append a.done (b ∷ bs)) in
      let long = length-append (list_items a.done) (list_items (b ∷ bs)) in
      let own = length-append b.items (list_items bs) in
      let more = has_items some in
      let here = a.reaches in
      grind (arith, nat_tests)

  pub one_more : (to : ℕ) → to ≡ place + length b.items → AreBelow list to (fed + 1)
  one_more to up =
      let long = length-append a.done (b ∷ []) in
      let items = ap (λ (l : List Item). length l) (items_one a.done b) ∙ length-append (list_items a.done) b.items in
      let here = a.reaches in
      let count = a.count_is in record {
        done = a.done ++ b ∷ [];
        ahead = bs;
        is = parts ∙ sym (append_assoc a.done (b ∷ []) bs);
        reaches = omega (arith, items, here, up);
        count_is = omega (arith, long, count);
      }

reads_behind : (xs ys : List Batch) → AllByRecursion ReadsBack (xs ++ ys) → AllByRecursion ReadsBack ys
reads_behind [] ys h = h
reads_behind (x ∷ xs) ys h = reads_behind xs ys h.1

-- what stands where the batch is
pub record Found (list : List Batch) (place fed : ℕ) (batch : ListBatch) : Type 0 where
  pub below : AreBelow list place fed
  pub b : Batch
  pub bs : List Batch
  pub ahead : below.ahead ≡ b ∷ bs
  pub same : batch ≡ list_batch b

find_by : (list : List Batch) (place fed : ℕ) (batch : ListBatch) (a : AreBelow list place fed) (ahead : List Batch) → a.ahead ≡ ahead → slice_get (map list_batch (a.done ++ ahead)) (length a.done) ≡ Some batch → Found list place fed batch
find_by list place fed batch a [] is got = absurd (nothing a.done got)
  where
    nothing : (xs : List Batch) → slice_get (map list_batch (xs ++ [])) (length xs) ≡ Some batch → ⊥
    nothing [] h = cc
    nothing (x ∷ xs) h = nothing xs h
find_by list place fed batch a (b ∷ bs) is got = record { below = a; b = b; bs = bs; ahead = is; same = some_is batch (list_batch b) (sym got ∙ at_front a.done b bs) }

pub find : (r : Run) (shared : Shared) (place fed : ℕ) (batch : ListBatch) → StandsForShared r shared → AreBelow r.list place fed → slice_get shared.list.items fed ≡ Some batch → Found r.list place fed batch
find r shared place fed batch g a is =
    find_by r.list place fed batch a a.ahead refl
    (sym (ap (λ (l : List ListBatch). slice_get l fed) (g.list ∙ ap (λ (l : List Batch). map list_batch l) a.is) ∙ ap (λ n. slice_get (map list_batch (a.done ++ a.ahead)) n) a.count_is) ∙ is)

-- ---- the row

module _ (k : ℕ) (before between after : Node) (shared shared' : Shared) (batch : ListBatch) (may : MayFeed shared.list.items before batch)
    (t : NodeTakes k before between false shared.told.items shared'.told.items batch.event)
    (back : ReturnsToEnd (record between { fed = passed before.engine.committed between }) after) (same : shared' ≡ record shared { told = shared'.told }) where
  fed_at : (options : Options) (r : Run) (n : RunNode) → IsReached options r → slice_get r.nodes k ≡ Some n → StandsForNode options r.list n before → StandsForShared r shared → Found r.list (committed_end n) before.fed batch
      → (next : Run) × (table.feed r k n ≡ Ok next) × LeavesRun options r next k after shared'
  fed_at options r n reached is s g f =
      let b = f.b in
      let event = events.Batch (batch_bytes b) in
      let run = is_run options r reached in
      let own = is_node options r k n reached is in
      let none : n.state.world.leading ≡ None = sym s.engine.leading ∙ may.idle in
      let idle = own.idle none in
      let reads : ReadsBack b = (reads_behind f.below.done (b ∷ f.bs) (subst (AllByRecursion ReadsBack) (parts r.list (committed_end n) before.fed f.below b f.bs f.ahead) g.reads)).0 in
      let q = take_batch n.state b in
      let m = after_arrival n q in
      let arrived = arrival_is options k n idle event tt q (batch_is options n.state none b (regular_again b reads.regular)) in
      let takes : NodeTakes k before between false shared.told.items shared'.told.items event = subst (λ (x : ListBatch). NodeTakes k before between false shared.told.items shared'.told.items x.event) f.same t in
      let r_none = reads_none options n event refl (outcome options n.state event) in
      let own_taken : TakenNode options (after_event options n event) between = taken options k n event before between false shared.told.items shared'.told.items takes (taken_of options r.list n before s) (none_new (outcome options n.state event)) r_none s.time in
      let moved_end : (after_event options n event).state.world.committed ≡ m.state.world.committed = ap (λ (x : RunNode). x.state.world.committed) arrived in
      let engine_end : between.engine.committed ≡ pos m.state.world.committed = own_taken.engine.committed ∙ ap (λ c. pos c) moved_end in
      let tip : tip_of n.state ≡ committed_end n = standby_tip s none in
      let below : AreBelow r.list m.state.world.committed (passed before.engine.committed between) =
      by_test options r n f run s m.state.world.committed engine_end tip (λ other. fed_to n b other) (int_eq between.engine.committed before.engine.committed) refl in (
        put_node r k m,
        standby_goes k n.state.world.leading _ none
            ∙ (ap (λ c. cond c (Err (faults.NothingNew (pos (committed_end n)))) (feed_next r k n (batch_from (committed_end n) r.list))) (not_whole r.list (committed_end n) before.fed f.below b f.bs f.ahead run.some)
            ∙ ap (λ (o : Option Batch). feed_next r k n o) (next_is r.list (committed_end n) before.fed f.below b f.bs f.ahead run.some)),
        record {
          node = m;
          nodes_are = refl;
          more = [];
          grows = sym (append-nil r.list);
          stands = subst (λ (x : RunNode). StandsForNode options r.list x after) arrived
              (own_end options r.list (after_event options n event) (record between { fed = passed before.engine.committed between }) after
              (same_taken own_taken) back (subst (λ c. AreBelow r.list c (passed before.engine.committed between)) (sym moved_end) below));
          shares = record {
            list = ap (λ (x : Shared). x.list.items) same ∙ g.list;
            reads = g.reads;
            length_is = ap (λ (x : Shared). x.length) same ∙ g.length_is;
            elected = ap (λ (x : Shared). x.elected) same ∙ g.elected;
            told =
                told_so options k n event before between false shared.told.items shared'.told.items takes (taken_of options r.list n before s) (none_new (outcome options n.state event)) r_none (map told_as r.told) g.told
                ∙ (ap (λ (l : List NodeTold). map told_as r.told ++ map told_as l) (told_none options k n idle event tt) ∙ append-nil (map told_as r.told));
          };
        },
      )
    where
      standby_tip : (s : StandsForNode options r.list n before) → n.state.world.leading ≡ None → tip_of n.state ≡ committed_end n
      standby_tip s none = sym (subst (λ (ends : List ℕ). Rise (committed_end n) ends (tip_of n.state)) (s.engine.is_state.at_standby none).0 s.engine.is_state.ends)

      same_taken : {m : RunNode} → TakenNode options m between → TakenNode options m (record between { fed = passed before.engine.committed between })
      same_taken own = record { options_are = own.options_are; engine = own.engine; drained = own.drained; unsettled = own.unsettled; waiting = own.waiting; reads = own.reads; time = own.time }

      by_test : (options : Options) (r : Run) (n : RunNode) (f : Found r.list (committed_end n) before.fed batch) → IsRun r → (s : StandsForNode options r.list n before) → (to : ℕ) → between.engine.committed ≡ pos to → tip_of n.state ≡ committed_end n
          → ((to ≡ committed_end n → ⊥) → to ≡ tip_of n.state + length f.b.items) → (t' : Bool) → int_eq between.engine.committed before.engine.committed ≡ t' → AreBelow r.list to (cond t' between.fed (between.fed + 1))
      by_test options r n f run s to end tip up true test =
          let old = s.engine.committed in
          let stays : to ≡ committed_end n = grind (arith, ints) in
          subst (λ c. AreBelow r.list to c) (sym t.places.fed) (subst (λ c. AreBelow r.list c before.fed) (sym stays) f.below)
      by_test options r n f run s to end tip up false test =
          let old = s.engine.committed in
          let higher : to ≡ tip_of n.state + length f.b.items = up (λ stays. absurd (grind (arith, ints))) in
          subst (λ c. AreBelow r.list to (c + 1)) (sym t.places.fed) (one_more r.list (committed_end n) before.fed f.below f.b f.bs f.ahead to (higher ∙ ap (λ c. c + length f.b.items) tip))

  pub feed_acts : Acts (λ _ r n. table.feed r k n) k before after shared shared' (Ok tt)
  feed_acts = λ options r n reached is s g. fed_at options r n reached is s g (find r shared (committed_end n) before.fed batch g s.fed may.is)
