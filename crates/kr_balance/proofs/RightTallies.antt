-- What is planned by right tallies is the plan.
use Rattle.std.proofs.Common.{◌≡◌, ◌∙◌, sym, subst, refl, ap, ℕ, ℤ, ◌*◌, Bool, true, false, cond, ◌&&◌, List, [], ◌∷◌, ◌++◌, map}
use Rattle.std.specs.Prelude.{filter, flat_map, nat_lt}
use Rattle.std.proofs.lemmas.List.{map-append}
use Rattle.kr_defs.specs.declared.partition.Partition.{Partition}
use Rattle.kr_defs.specs.Image.{Image}
use Rattle.kr_defs.specs.Walk.{Walked, of_topic, walk, walk_topic, walked}
use Rattle.kr_balance.specs.Plan.{is_above_percentage, is_imbalanced, is_planned, by_name, imbalanced, preferring, preferred_leader, plan}
use Rattle.kr_balance.specs.declared.counts.Tally.{Tally}
use Rattle.kr_balance.specs.inner.Tallies.{Counts, tally_of}
use Rattle.kr_balance.specs.inner.Planned.{is_over, is_planned_by, planned_row, planned_rows}

abbrev Entry : Type 0
Entry = (ℕ × ℤ) × Partition

module _ (image : Image) (tallies : List (ℤ × Tally)) (percent : ℕ) (right : Counts image tallies) where
  same_test : (p : Partition) → is_planned_by image tallies percent p ≡ is_imbalanced image p && is_above_percentage image percent (preferred_leader p)
  same_test p = ap (λ t. is_imbalanced image p && is_over percent t) (right (preferred_leader p))

  row_is : (name : List ℕ) (e : Entry) (es : List Entry) →
      planned_row image tallies percent name e ++ map by_name (filter (is_planned image percent) (map (walked name) es))
      ≡ map by_name (filter (is_planned image percent) (map (walked name) (e ∷ es)))
  row_is name e es =
      let rest = filter (is_planned image percent) (map (walked name) es) in
      ap (λ b. cond b ((name, e.0.1) ∷ []) [] ++ map by_name rest) (same_test e.1)
      ∙ elim (is_imbalanced image e.1 && is_above_percentage image percent (preferred_leader e.1)) as (λ b. cond b ((name, e.0.1) ∷ []) [] ++ map by_name rest ≡ map by_name (cond b (walked name e ∷ rest) rest)) [
        | true ↦ refl
        | false ↦ refl
      ]

  rows_are : (name : List ℕ) (es : List Entry) → flat_map (planned_row image tallies percent name) es ≡ map by_name (filter (is_planned image percent) (map (walked name) es))
  rows_are name [] = refl
  rows_are name (e ∷ es) = ap (λ (l : List (List ℕ × ℤ)). planned_row image tallies percent name e ++ l) (rows_are name es) ∙ row_is name e es

  filter_both : (xs ys : List Walked) → filter (is_planned image percent) (xs ++ ys) ≡ filter (is_planned image percent) xs ++ filter (is_planned image percent) ys
  filter_both [] ys = refl
  filter_both (x ∷ xs) ys =
      elim (is_planned image percent x) as (λ b. cond b (x ∷ filter (is_planned image percent) (xs ++ ys)) (filter (is_planned image percent) (xs ++ ys)) ≡ cond b (x ∷ filter (is_planned image percent) xs) (filter (is_planned image percent) xs) ++ filter (is_planned image percent) ys) [
        | true ↦ ap (λ (l : List Walked). x ∷ l) (filter_both xs ys)
        | false ↦ filter_both xs ys
      ]

  topics_are : (topics : List (List ℕ × ℕ)) → flat_map (planned_rows image tallies percent) topics ≡ map by_name (filter (is_planned image percent) (flat_map (walk_topic image.partitions) topics))
  topics_are [] = refl
  topics_are (t ∷ ts) =
      let here = walk_topic image.partitions t in
      let rest = flat_map (walk_topic image.partitions) ts in
      ap (λ (l : List (List ℕ × ℤ)). l ++ flat_map (planned_rows image tallies percent) ts) (rows_are t.0 (of_topic t.1 image.partitions))
      ∙ (ap (λ (l : List (List ℕ × ℤ)). map by_name (filter (is_planned image percent) here) ++ l) (topics_are ts)
      ∙ sym (ap (map by_name) (filter_both here rest) ∙ map-append by_name (filter (is_planned image percent) here) (filter (is_planned image percent) rest)))

pub all_planned : (image : Image) (tallies : List (ℤ × Tally)) (percent : ℕ) (rows : List (List ℕ × ℤ)) → Counts image tallies → rows ≡ flat_map (λ (t : List ℕ × ℕ). planned_rows image tallies percent t) image.topics → rows ≡ plan image percent
all_planned image tallies percent rows right is = is ∙ topics_are image tallies percent right image.topics
