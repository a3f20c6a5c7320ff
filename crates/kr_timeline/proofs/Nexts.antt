-- The entries above a key.
use Rattle.std.proofs.Common.{◌≡◌, List, [], ◌∷◌, Option, Some, None, Bool, true, false, cond, ℕ, refl, ap, ◌∙◌, filter, sym}
use Rattle.std.specs.declared.cmp.Ordering.{Ordering}
use Rattle.std.specs.declared.ops.Bound.TheVariants.{Excluded, Unbounded}
use Rattle.std.specs.BTreeMap.Range.{range_contains, entries_between}
use Rattle.kr_defs.specs.Map.{above}
use Rattle.kr_timeline.specs.Chains.{AreFalling, value_at, standing, map_of}

module _ {K V : Type 0} where
  map_of-filter : (test : K → Bool) (m : ℕ) (chains : List (K × List (ℕ × Option V))) → filter (λ (e : K × V). test e.0) (map_of m chains) ≡ map_of m (filter (λ (e : K × List (ℕ × Option V)). test e.0) chains)
  map_of-filter test m [] = refl
  map_of-filter test m (e ∷ chains) =
      elim (value_at m e.1) as (λ x. value_at m e.1 ≡ x → filter (λ (p : K × V). test p.0) (standing e.0 x (map_of m chains)) ≡ map_of m (cond (test e.0) (e ∷ filter (λ (q : K × List (ℕ × Option V)). test q.0) chains) (filter (λ (q : K × List (ℕ × Option V)). test q.0) chains))) [
        | None ↦ λ is. map_of-filter test m chains ∙ elim (test e.0) as (λ b. map_of m (filter (λ (q : K × List (ℕ × Option V)). test q.0) chains) ≡ map_of m (cond b (e ∷ filter (λ (q : K × List (ℕ × Option V)). test q.0) chains) (filter (λ (q : K × List (ℕ × Option V)). test q.0) chains))) [
          | true ↦ sym (ap (λ (x : Option V). standing e.0 x (map_of m (filter (λ (q : K × List (ℕ × Option V)). test q.0) chains))) is)
          | false ↦ refl
        ]
        | Some v ↦ λ is. elim (test e.0) as (λ b. cond b ((e.0, v) ∷ filter (λ (p : K × V). test p.0) (map_of m chains)) (filter (λ (p : K × V). test p.0) (map_of m chains)) ≡ map_of m (cond b (e ∷ filter (λ (q : K × List (ℕ × Option V)). test q.0) chains) (filter (λ (q : K × List (ℕ × Option V)). test q.0) chains))) [
          | true ↦ ap (λ (ps : List (K × V)). (e.0, v) ∷ ps) (map_of-filter test m chains) ∙ sym (ap (λ (x : Option V). standing e.0 x (map_of m (filter (λ (q : K × List (ℕ × Option V)). test q.0) chains))) is)
          | false ↦ map_of-filter test m chains
        ]
      ] refl

  pub above_map_of : (order : K → K → Ordering) (m : ℕ) (chains : List (K × List (ℕ × Option V))) (key : K) → above order (map_of m chains) (Some key) ≡ map_of m (above order chains (Some key))
  above_map_of order m chains key = map_of-filter (range_contains order (Excluded key) Unbounded) m chains

  falls-filter : (test : K → Bool) (chains : List (K × List (ℕ × Option V))) → AreFalling chains → AreFalling (filter (λ (e : K × List (ℕ × Option V)). test e.0) chains)
  falls-filter test [] a = tt
  falls-filter test (e ∷ chains) a = elim (test e.0) as (λ b. AreFalling (cond b (e ∷ filter (λ (q : K × List (ℕ × Option V)). test q.0) chains) (filter (λ (q : K × List (ℕ × Option V)). test q.0) chains))) [
    | true ↦ (a.0, falls-filter test chains a.1)
    | false ↦ falls-filter test chains a.1
  ]

  pub falls-above : (order : K → K → Ordering) (chains : List (K × List (ℕ × Option V))) (key : K) → AreFalling chains → AreFalling (above order chains (Some key))
  falls-above order chains key a = falls-filter (range_contains order (Excluded key) Unbounded) chains a

  pub between_map_of : (order : K → K → Ordering) (m : ℕ) (chains : List (K × List (ℕ × Option V))) (after end : K) → entries_between order (Excluded after) (Excluded end) (map_of m chains) ≡ map_of m (entries_between order (Excluded after) (Excluded end) chains)
  between_map_of order m chains after end = map_of-filter (range_contains order (Excluded after) (Excluded end)) m chains

  pub falls-between : (order : K → K → Ordering) (chains : List (K × List (ℕ × Option V))) (after end : K) → AreFalling chains → AreFalling (entries_between order (Excluded after) (Excluded end) chains)
  falls-between order chains after end a = falls-filter (range_contains order (Excluded after) (Excluded end)) chains a
