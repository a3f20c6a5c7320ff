-- Moves that a node refuses, with what is shared: nothing changes.
use Rattle.std.proofs.Common.{◌≡◌, ◌∙◌, sym, subst, inl, inr, ℕ, zero, suc, ◌<◌, get_or, ℤ, pos, true, cond, List, [], ◌∷◌, ◌++◌, length, map, set, refl, ap, arith}
use Rattle.std.specs.Prelude.{Option, Some, None, Result, Err, is_some, ◌==◌}
use Rattle.std.specs.List.{slice_get}
use Rattle.std.proofs.lemmas.Bool.Decides.{nat_tests}
use Rattle.std.proofs.lemmas.List.{append-nil}
use Rattle.std.proofs.lemmas.Option.{slice_get-get_or}
use Rattle.kr_batch.specs.declared.Batch.{Batch}
use Rattle.kr_defs.specs.declared.options.Options.{Options}
use Rattle.law_nodes.specs.declared.moves.MoveFault.{MoveFault}
use Rattle.law_nodes.specs.declared.moves.MoveFault.TheVariants as faults
use Rattle.law_nodes.specs.Moves as table
use Rattle.law_nodes.specs.Moves.{committed_end, feed_next, length_of, on_standby, while_leading}
use Rattle.law_nodes.specs.Nodes.{Run, RunNode}
use Rattle.law_nodes.specs.OneList.{batch_from, list_items}
use Rattle.kr_nodes.specs.declared.node.Node.{Node}
use Rattle.kr_nodes.specs.declared.shared.ListBatch.{ListBatch}
use Rattle.kr_nodes.specs.declared.shared.Shared.{Shared}
use Rattle.kr_nodes.specs.inner.Acting.{Acts, ActsBy, AreIdle, IsIdleNode, Row}
use Rattle.kr_nodes.specs.inner.Checks.{IsFeedFault}
use Rattle.kr_nodes.specs.Standing.{AreBelow, StandsForNode, StandsForShared, list_batch}

-- ---- who leads

pub standby_refuses : (k : ℕ) (o : Option ℤ) (x : Result Run MoveFault) → is_some o ≡ true → on_standby k o x ≡ Err (faults.NotStandby k)
standby_refuses k None x some = absurd cc
standby_refuses k (Some epoch) x some = refl

pub standby_goes : (k : ℕ) (o : Option ℤ) (x : Result Run MoveFault) → o ≡ None → on_standby k o x ≡ x
standby_goes k o x none = ap (λ (l : Option ℤ). on_standby k l x) none

pub leading_refuses : (k : ℕ) (o : Option ℤ) (next : ℤ → Result Run MoveFault) → o ≡ None → while_leading k o next ≡ Err (faults.NotLeading k)
leading_refuses k o next none = ap (λ (l : Option ℤ). while_leading k l next) none

pub leading_goes : (k : ℕ) (o : Option ℤ) (epoch : ℤ) (next : ℤ → Result Run MoveFault) → o ≡ Some epoch → while_leading k o next ≡ next epoch
leading_goes k o epoch next led = ap (λ (l : Option ℤ). while_leading k l next) led

-- ---- places in the list

pub at_front : (xs : List Batch) (y : Batch) (ys : List Batch) → slice_get (map list_batch (xs ++ y ∷ ys)) (length xs) ≡ Some (list_batch y)
at_front [] y ys = refl
at_front (x ∷ xs) y ys = at_front xs y ys

some_ahead : (xs ys : List Batch) → slice_get (map list_batch (xs ++ ys)) (length xs) ≡ None → ys ≡ []
some_ahead [] [] none = refl
some_ahead [] (y ∷ ys) none = absurd cc
some_ahead (x ∷ xs) ys none = some_ahead xs ys none

-- where no batch is at the end, the end is the list's
whole_list : (r : Run) (shared : Shared) (place fed : ℕ) → StandsForShared r shared → AreBelow r.list place fed → slice_get shared.list.items fed ≡ None → place ≡ length_of r
whole_list r shared place fed g a none =
    let at : slice_get (map list_batch (a.done ++ a.ahead)) (length a.done) ≡ None =
    sym (ap (λ (l : List ListBatch). slice_get l fed) (g.list ∙ ap (λ (l : List Batch). map list_batch l) a.is) ∙ ap (λ n. slice_get (map list_batch (a.done ++ a.ahead)) n) a.count_is) ∙ none in
    let all : r.list ≡ a.done = a.is ∙ (ap (λ (l : List Batch). a.done ++ l) (some_ahead a.done a.ahead at) ∙ append-nil a.done) in
    a.reaches ∙ sym (ap (λ (l : List Batch). length (list_items l)) all)

none_mapped : (bs : List Batch) → map list_batch bs ≡ [] → bs ≡ []
none_mapped [] is = refl
none_mapped (b ∷ bs) is = absurd cc

-- ---- what is refused

-- all but want of memory
abbrev pub IsReason : MoveFault → Type 0
IsReason faults.NoMemory = ⊥
IsReason other = Unit {0}

abbrev pub Refuses : Row → ℕ → Node → Shared → MoveFault → Type 0
Refuses row k node shared fault =
    (options : Options) (r : Run) (n : RunNode) → slice_get r.nodes k ≡ Some n → StandsForNode options r.list n node → StandsForShared r shared → row options r n ≡ Err fault

module _ (row : Row) (k : ℕ) (node : Node) (shared : Shared) where
  abbrev pub Stays : MoveFault → Type 0
  Stays fault = Acts row k node node shared shared (Err fault)

  pub refused : (fault : MoveFault) → IsReason fault → Refuses row k node shared fault → Stays fault
  refused (faults.NoNode a b) real h = λ options r n reached is s g. (h options r n is s g, refl, refl)
  refused (faults.NotStandby a) real h = λ options r n reached is s g. (h options r n is s g, refl, refl)
  refused (faults.NotLeading a) real h = λ options r n reached is s g. (h options r n is s g, refl, refl)
  refused (faults.OldEpoch a b) real h = λ options r n reached is s g. (h options r n is s g, refl, refl)
  refused (faults.Behind a b) real h = λ options r n reached is s g. (h options r n is s g, refl, refl)
  refused (faults.NotLatest a b) real h = λ options r n reached is s g. (h options r n is s g, refl, refl)
  refused (faults.NothingNew a) real h = λ options r n reached is s g. (h options r n is s g, refl, refl)
  refused (faults.OlderImage a b) real h = λ options r n reached is s g. (h options r n is s g, refl, refl)
  refused faults.NoMemory real h = absurd real

  by_fault : (fault named : MoveFault) → fault ≡ named → IsReason named → Refuses row k node shared named → Stays fault
  by_fault fault named is real h = subst Stays (sym is) (refused named real h)

-- memory was wanted
pub wanted : (row : Row) (k : ℕ) (before after : Node) (shared shared' : Shared) (fault : MoveFault) → fault ≡ faults.NoMemory → Acts row k before after shared shared' (Err fault)
wanted row k before after shared shared' fault is = subst (λ (f : MoveFault). Acts row k before after shared shared' (Err f)) (sym is) (λ options r n reached at s g. tt)

-- ---- each row

module _ (k : ℕ) (node : Node) (shared : Shared) (fault : MoveFault) where
  pub feed_refused : IsFeedFault k shared.list.items node fault → Stays (λ _ r n. table.feed r k n) k node shared fault
  feed_refused (inl f) = by_fault (λ _ r n. table.feed r k n) k node shared fault (faults.NotStandby k) f.1 tt (λ options r n is s g.
      standby_refuses k n.state.world.leading _ (ap (λ (o : Option ℤ). is_some o) (sym s.engine.leading) ∙ f.0))
  feed_refused (inr f) = by_fault (λ _ r n. table.feed r k n) k node shared fault (faults.NothingNew node.engine.committed) f.2 tt (λ options r n is s g.
      let whole : committed_end n ≡ length_of r = whole_list r shared (committed_end n) node.fed g s.fed f.1 in
      let same : (committed_end n == length_of r) ≡ true = grind (arith, nat_tests) in
      standby_goes k n.state.world.leading _ (sym s.engine.leading ∙ f.0)
      ∙ (ap (λ b. cond b (Err (faults.NothingNew (pos (committed_end n)))) (feed_next r k n (batch_from (committed_end n) r.list))) same
      ∙ ap (λ z. Err (faults.NothingNew z)) (sym s.engine.committed)))

-- another row that gives the same
pub acts_as : (row other : Row) (k : ℕ) (before after : Node) (shared shared' : Shared) (result : Result (Unit {0}) MoveFault) → ((options : Options) (r : Run) (n : RunNode) → row options r n ≡ other options r n)
    → Acts row k before after shared shared' result → Acts other k before after shared shared' result
acts_as row other k before after shared shared' result same acts =
    λ options r n reached is s g. subst (λ (o : Result Run MoveFault). ActsBy options r k o before after shared shared' result) (same options r n) (acts options r n reached is s g)

-- what stands at a place
pub stands_at : (nodes : List Node) (k : ℕ) (node : Node) → k < length nodes → node ≡ get_or nodes k node → slice_get nodes k ≡ Some node
stands_at nodes k node low is = slice_get-get_or nodes k node low ∙ ap (λ (n : Node). Some n) (sym is)

pub some_at : (nodes : List Node) (k : ℕ) → k < length nodes → (node : Node) × (slice_get nodes k ≡ Some node)
some_at [] k low = absurd (omega (arith, low))
some_at (x ∷ xs) zero low = (x, refl)
some_at (x ∷ xs) (suc k) low = some_at xs k (omega (arith, low))

pub idle_put : (nodes : List Node) (k : ℕ) (node : Node) → AreIdle nodes → IsIdleNode node → AreIdle (set nodes k node)
idle_put [] k node idle own = tt
idle_put (x ∷ xs) zero node idle own = (own, idle.1)
idle_put (x ∷ xs) (suc k) node idle own = (idle.0, idle_put xs k node idle.1 own)
