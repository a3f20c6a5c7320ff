-- What stays true of all nodes, move by move.
use Rattle.std.proofs.Common.{◌≡◌, sym, subst, ℕ, zero, suc, ℤ, pos, ◌+◌, ◌≤◌, List, [], ◌∷◌, ◌++◌, length, set}
use Rattle.std.specs.Prelude.{Option, Some, None, IsOk, int_lt, not, IsTrue}
use Rattle.std.specs.List.{AllByRecursion, slice_get}
use Rattle.kr_batch.specs.declared.Batch.{Batch}
use Rattle.kr_defs.specs.declared.record.Item.{Item}
use Rattle.kr_defs.specs.Heartbeats.{end, heard}
use Rattle.kr_defs.specs.Image.{empty}
use Rattle.kr_defs.specs.Log.{Log, apply_all}
use Rattle.kr_defs.proofs.Tests.{some_is}
use Rattle.kr_model.specs.World.{State}
use Rattle.law_nodes.specs.Agreement.{IsTold}
use Rattle.law_nodes.specs.Nodes.{RunNode, Run, Waiting}
use Rattle.law_nodes.specs.OneList.{Follows, list_items}
use Rattle.law_nodes.proofs.Lists.{HasItems}

-- a write that waits stands in its node's log, and needs the log up to its end
pub record Waits (log : Log) (w : Waiting) : Type 0 where
  pub front : List Item
  pub back : List Item
  pub at : w.write.decided.place ≡ pos (log.offset + length front)
  pub is : log.items ≡ front ++ (w.items ++ back)
  pub count : w.write.decided.count ≡ length w.items
  pub need : w.write.need ≡ pos ((log.offset + length front) + length w.items)

-- of a node without the writes that wait
pub record IsCore (list : List Batch) (elected : ℤ) (s : State) (settled : ℕ) (unsettled : List Batch) : Type 0 where
  pub committed : Follows list s.world.log s.world.committed
  pub settles : Follows list s.world.log settled
  pub order : s.world.committed ≤ settled
  -- what isn't settled stands above
  pub tail : settles.rest ≡ list_items unsettled
  pub some : AllByRecursion HasItems unsettled
  -- all has a meaning
  pub means : IsOk (apply_all s.world.log.image s.world.log.items)
  pub standby : s.world.leading ≡ None → (settled ≡ s.world.committed) × (unsettled ≡ []) × (heard s.basis ≡ end)
  -- it was elected, and where none was later, it settled all that the list has
  pub low : (epoch : ℤ) → s.world.leading ≡ Some epoch → IsTrue (not (int_lt elected epoch))
  pub latest : s.world.leading ≡ Some elected → settles.ahead ≡ []

pub record IsNode (list : List Batch) (elected : ℤ) (n : RunNode) : Type 0 where
  pub core : IsCore list elected n.state n.settled n.unsettled
  pub waits : AllByRecursion (Waits n.state.world.log) n.waiting
  pub idle : n.state.world.leading ≡ None → n.waiting ≡ []

abbrev pub Leads : ℤ → RunNode → Type 0
Leads elected n = n.state.world.leading ≡ Some elected

-- at most one node leads in the latest epoch
abbrev pub OneLeads : ℤ → List RunNode → Type 0
OneLeads elected [] = Unit {0}
OneLeads elected (n ∷ ns) = (Leads elected n → AllByRecursion (λ m. Leads elected m → ⊥) ns) × OneLeads elected ns

pub record IsRun (r : Run) : Type 0 where
  pub nodes : AllByRecursion (IsNode r.list r.elected) r.nodes
  pub one : OneLeads r.elected r.nodes
  pub some : AllByRecursion HasItems r.list
  pub told : AllByRecursion (IsTold r.list) r.told
  pub whole : IsOk (apply_all empty (list_items r.list))

-- ---- the same at another time, after another number of events

pub core_at : (list : List Batch) (elected : ℤ) (s : State) (settled : ℕ) (unsettled : List Batch) (count : ℕ) (time : ℤ) → IsCore list elected s settled unsettled
    → IsCore list elected (record { world = record s.world { count = count }; basis = record s.basis { time = time } }) settled unsettled
core_at list elected s settled unsettled count time c = record {
  committed = c.committed;
  settles = c.settles;
  order = c.order;
  tail = c.tail;
  some = c.some;
  means = c.means;
  standby = c.standby;
  low = c.low;
  latest = c.latest;
}

-- ---- nodes by their numbers

module _ (P Q : RunNode → Type 0) where
  pub all_put : (ns : List RunNode) (k : ℕ) (m : RunNode) → AllByRecursion P ns → ((n : RunNode) → P n → Q n) → Q m → AllByRecursion Q (set ns k m)
  all_put [] k m h up own = tt
  all_put (n ∷ ns) zero m h up own = (own, all_up ns h.1 up)
    where
      all_up : (xs : List RunNode) → AllByRecursion P xs → ((x : RunNode) → P x → Q x) → AllByRecursion Q xs
      all_up [] g u = tt
      all_up (x ∷ xs) g u = (u x g.0, all_up xs g.1 u)
  all_put (n ∷ ns) (suc k) m h up own = (up n h.0, all_put ns k m h.1 up own)

pub at_node : (P : RunNode → Type 0) (ns : List RunNode) (k : ℕ) (n : RunNode) → AllByRecursion P ns → slice_get ns k ≡ Some n → P n
at_node P [] k n h is = absurd cc
at_node P (x ∷ xs) zero n h is = subst P (some_is x n is) h.0
at_node P (x ∷ xs) (suc k) n h is = at_node P xs k n h.1 is

-- ---- who leads

-- a node takes the place of one that leads in the same epoch, or it doesn't lead in the latest
others_put : (elected : ℤ) (ns : List RunNode) (k : ℕ) (m : RunNode) → AllByRecursion (λ x. Leads elected x → ⊥) ns → (Leads elected m → ⊥) → AllByRecursion (λ x. Leads elected x → ⊥) (set ns k m)
others_put elected [] k m h own = tt
others_put elected (n ∷ ns) zero m h own = (own, h.1)
others_put elected (n ∷ ns) (suc k) m h own = (h.0, others_put elected ns k m h.1 own)

pub one_put : (elected : ℤ) (ns : List RunNode) (k : ℕ) (n m : RunNode) → slice_get ns k ≡ Some n → (Leads elected m → Leads elected n) → OneLeads elected ns → OneLeads elected (set ns k m)
one_put elected [] k n m is same h = tt
one_put elected (x ∷ xs) zero n m is same h = (λ leads. h.0 (subst (Leads elected) (sym (some_is x n is)) (same leads)), h.1)
one_put elected (x ∷ xs) (suc k) n m is same h = (
  λ leads. others_put elected xs k m (h.0 leads) (λ own. at_node (λ y. Leads elected y → ⊥) xs k n (h.0 leads) is (same own)),
  one_put elected xs k n m is same h.1,
)

pub never : {X : Type 0} {x : X} → (o : Option X) → o ≡ None → o ≡ Some x → ⊥
never o none some = absurd cc
