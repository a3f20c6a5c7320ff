-- The first batch of the latest leader that isn't in the list joins it.
use Rattle.std.proofs.Common.{◌≡◌, ◌∙◌, sym, subst, ℕ, ℤ, pos, ◌+◌, ◌^◌, ◌-◌, ◌≤◌, true, cond, List, [], ◌∷◌, ◌++◌, length, length-append, map, refl, ap, arith}
use Rattle.std.specs.Prelude.{◌+ℤ◌, ◌<ℤ◌, ◌≤ℤ◌, Some, Ok, Err, not, unsigned_abs}
use Rattle.std.specs.Int.{saturate_signed, w64}
use Rattle.std.specs.List.{AllByRecursion, slice_get}
use Rattle.std.specs.Ordering.{int_eq}
use Rattle.std.proofs.Math.Nat.{min-eq_left}
use Rattle.std.proofs.lemmas.Int.{ints}
use Rattle.std.proofs.lemmas.List.{append-nil, length-map, map-append}
use Rattle.kr_batch.specs.declared.Batch.{Batch}
use Rattle.kr_defs.specs.declared.limits.TheConstants.{PLACES_END}
use Rattle.kr_defs.specs.declared.options.Options.{Options}
use Rattle.kr_defs.specs.declared.record.Item.{Item}
use Rattle.kr_defs.proofs.IdLists.{id_itself}
use Rattle.kr_model.specs.Engine.{Core, IsEngine, outputs_left}
use Rattle.law_nodes.specs.declared.moves.MoveFault.TheVariants as faults
use Rattle.law_nodes.specs.Moves as table
use Rattle.law_nodes.specs.Moves.{committed_end, length_of, put_node, settle_first}
use Rattle.law_nodes.specs.NodeEvents.{writes_in}
use Rattle.law_nodes.specs.Nodes.{Run, RunNode}
use Rattle.law_nodes.specs.OneList.{list_items}
use Rattle.law_nodes.specs.ReadingBack.{ReadsBack}
use Rattle.law_nodes.proofs.Invariant.{IsNode}
use Rattle.law_nodes.proofs.Lists.{items_one}
use Rattle.law_nodes.proofs.Logs.{no_more}
use Rattle.law_nodes.proofs.ReadBatches.{reads_both}
use Rattle.kr_nodes.specs.declared.node.Node.{Node}
use Rattle.kr_nodes.specs.declared.shared.ListBatch.{ListBatch}
use Rattle.kr_nodes.specs.declared.shared.Shared.{Shared}
use Rattle.kr_nodes.specs.inner.Acting.{Acts, IsReached, LeavesRun, longer}
use Rattle.kr_nodes.specs.inner.Checks.{MaySettleNext}
use Rattle.kr_nodes.specs.inner.Settling.{Joins}
use Rattle.kr_nodes.specs.Standing.{AreBelow, StandsForNode, StandsForShared, list_batch}
use Rattle.kr_nodes.proofs.Feeds.{is_node}
use Rattle.kr_nodes.proofs.OwnEnds.{below_more}
use Rattle.kr_nodes.proofs.RefusedMoves.{leading_goes}

-- a place of a log stays as it is
pub within : (m : ℕ) → m ≤ unsigned_abs PLACES_END → (z : ℤ) (count : ℕ) → (z +ℤ pos count) ≡ pos m → longer z count ≡ pos m
within m low z count is =
    ap (λ (x : ℤ). saturate_signed w64 x) is
    ∙ ap (λ x. pos x) (let le : m ≤ 2 ^ 63 - 1 = omega (arith, low) in min-eq_left le)

head_is : {X : Type 0} (x y : X) (xs ys : List X) → x ∷ xs ≡ y ∷ ys → (x ≡ y) × (xs ≡ ys)
head_is x y xs ys is = (cc, cc)

in_range : (z : ℤ) (m : ℕ) → z ≡ pos m → m ≤ unsigned_abs PLACES_END → z <ℤ pos (2 ^ 63)
in_range z m is low = grind (arith, ints)

natural : (z : ℤ) (m : ℕ) → z ≡ pos m → pos 0 ≤ℤ z
natural z m is = grind (arith, ints)

-- ---- the row

-- what the code makes of the node
pub record SettlesFirst (before after : Node) (batch : ListBatch) (sent : ℕ) : Type 0 where
  pub engine : after.engine ≡ before.engine
  pub unsettled : before.pending.unsettled.items ≡ batch ∷ after.pending.unsettled.items
  pub waiting : after.pending.waiting ≡ before.pending.waiting
  pub settled : after.settled ≡ longer before.settled batch.count
  pub fed : after.fed ≡ before.fed
  pub sent_is : after.sent ≡ sent

module _ (k : ℕ) (before after : Node) (shared shared' : Shared) (batch : ListBatch) (may : MaySettleNext shared before) (pops : SettlesFirst before after batch (length shared'.list.items)) (joins : Joins shared shared' batch) where
  settled_by : (options : Options) (r : Run) (n : RunNode) → IsReached options r → slice_get r.nodes k ≡ Some n → StandsForNode options r.list n before → StandsForShared r shared → (bs : List Batch) → n.unsettled ≡ bs
      → (next : Run) × (settle_first r k n bs ≡ Ok next) × LeavesRun options r next k after shared'
  settled_by options r n reached is s g [] has = absurd (nothing (sym pops.unsettled ∙ (s.unsettled ∙ ap (λ (l : List Batch). map list_batch l) has)))
    where
      nothing : batch ∷ after.pending.unsettled.items ≡ [] → ⊥
      nothing h = absurd cc
  settled_by options r n reached is s g (b ∷ bs) has =
      let i = is_node options r k n reached is in
      let leads : n.state.world.leading ≡ Some r.elected = sym s.engine.leading ∙ (may.latest ∙ ap (λ e. Some e) g.elected) in
      let both = head_is batch (list_batch b) after.pending.unsettled.items (map list_batch bs) (sym pops.unsettled ∙ (s.unsettled ∙ ap (λ (l : List Batch). map list_batch l) has)) in
      let whole : n.settled ≡ length_of r = no_more r.list n.state.world.log n.settled i.core.settles (i.core.latest leads) in
      let count : batch.count ≡ length b.items = ap (λ (x : ListBatch). x.count) both.0 in
      let to = n.settled + length b.items in
      let low = below_tip options r n s i b bs has in
      let list' = r.list ++ b ∷ [] in
      let long : length (list_items list') ≡ to =
      ap (λ (l : List Item). length l) (items_one r.list b) ∙ (length-append (list_items r.list) b.items ∙ ap (λ x. x + length b.items) (sym whole)) in
      let longer_list : shared'.list.items ≡ map list_batch list' =
      joins.list ∙ (ap (λ (l : List ListBatch). l ++ batch ∷ []) g.list ∙ (ap (λ (x : ListBatch). map list_batch r.list ++ x ∷ []) both.0 ∙ sym (map-append list_batch r.list (b ∷ [])))) in
      let counted : length shared'.list.items ≡ length list' = ap (λ (l : List ListBatch). length l) longer_list ∙ length-map list' list_batch in
      let upto : (before.settled +ℤ pos batch.count) ≡ pos to = ap (λ z. z +ℤ pos batch.count) s.settled ∙ ap (λ c. pos n.settled +ℤ pos c) count in
      let reads : AllByRecursion ReadsBack (b ∷ bs) = subst (AllByRecursion ReadsBack) has s.reads in
      let node = record n { settled = to; unsettled = bs } in (
        record (put_node r k node) { list = list' },
        refl,
        record {
          node = node;
          nodes_are = refl;
          more = b ∷ [];
          grows = refl;
          stands = record {
            options_are = ap (λ (e : Core). e.options) pops.engine ∙ s.options_are;
            engine = subst (λ (e : Core). IsEngine e n.state (writes_in n.waiting)) (sym pops.engine) s.engine;
            drained = ap (λ (e : Core). outputs_left e) pops.engine ∙ s.drained;
            settled = pops.settled ∙ within to low before.settled batch.count upto;
            unsettled = both.1;
            waiting = ap (λ w. w.items) pops.waiting ∙ s.waiting;
            fed = subst (AreBelow list' (committed_end n)) (sym pops.fed) (below_more r.list (b ∷ []) (committed_end n) before.fed s.fed);
            sent = record { done = list'; ahead = []; is = sym (append-nil list'); reaches = sym long; count_is = pops.sent_is ∙ counted };
            reads = reads.1;
            time = s.time;
          };
          shares = record {
            list = longer_list;
            reads = reads_both r.list (b ∷ []) g.reads (reads.0, tt);
            length_is = all_long r g b to long (ap (λ x. x + length b.items) (sym whole)) low count;
            elected = joins.elected ∙ g.elected;
            told = ap (λ t. t.items) joins.told ∙ g.told;
          };
        },
      )
    where
      -- what isn't settled stands below the tip
      below_tip : (options : Options) (r : Run) (n : RunNode) (s : StandsForNode options r.list n before) (i : IsNode r.list r.elected n) (b : Batch) (bs : List Batch) → n.unsettled ≡ b ∷ bs → (n.settled + length b.items) ≤ unsigned_abs PLACES_END
      below_tip options r n s i b bs has =
          let f = i.core.settles in
          let items = ap (λ (l : List Item). length l) (f.items_are ∙ ap (λ (l : List Item). f.shared ++ l) (i.core.tail ∙ ap (λ (l : List Batch). list_items l) has)) in
          let long = length-append f.shared (list_items (b ∷ bs)) in
          let own = length-append b.items (list_items bs) in
          let end = f.end_is in
          let low = s.engine.is_state.low in
          omega (arith, items, long, own, end, low)

      all_long : (r : Run) (g : StandsForShared r shared) (b : Batch) (to : ℕ) → length (list_items (r.list ++ b ∷ [])) ≡ to → length_of r + length b.items ≡ to → to ≤ unsigned_abs PLACES_END → batch.count ≡ length b.items → shared'.length ≡ pos (length (list_items (r.list ++ b ∷ [])))
      all_long r g b to long up low count =
          let sum : (shared.length +ℤ pos batch.count) ≡ pos to = ap (λ z. z +ℤ pos batch.count) g.length_is ∙ (ap (λ c. pos (length_of r) +ℤ pos c) count ∙ ap (λ x. pos x) up) in
          joins.length_is (in_range (shared.length +ℤ pos batch.count) to sum low) (natural shared.length (length_of r) g.length_is) ∙ (sum ∙ ap (λ x. pos x) (sym long))

  pub settle_acts : Acts (λ _ r n. table.settle r k n) k before after shared shared' (Ok tt)
  settle_acts = λ options r n reached is s g.
      let got = settled_by options r n reached is s g n.unsettled refl in
      let same : int_eq shared.elected r.elected ≡ true = ap (λ e. int_eq shared.elected e) (sym g.elected) ∙ id_itself shared.elected in (
        got.0,
        leading_goes k n.state.world.leading shared.elected _ (sym s.engine.leading ∙ may.latest)
            ∙ (ap (λ b. cond (not b) (Err (faults.NotLatest shared.elected r.elected)) (settle_first r k n n.unsettled)) same ∙ got.1),
        got.2,
      )
