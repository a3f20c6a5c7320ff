-- Assignments by their indexes.
use Rattle.std.proofs.Common.{◌≡◌, ◌∙◌, ◌<◌, ◌≤◌, ◌+◌, ◌-◌, ℕ, ℤ, Bool, true, false, cond, List, [], ◌∷◌, ◌++◌, length, get_or, drop, refl, sym, ap, append_assoc, arith}
use Rattle.std.specs.Prelude.{Option, Some, None, find, is_some, nat_le, nat_lt, ◌&&◌, ◌==◌, option_map, filter_map}
use Rattle.std.specs.Ordering.{int_cmp, int_eq}
use Rattle.std.specs.List.{cons_option, list_all, list_any, range_with_len}
use Rattle.std.proofs.lemmas.Bool.Decides.{nat_tests}
use Rattle.std.proofs.lemmas.Cmp.{int_cmp_total, int_eq_equiv}
use Rattle.std.proofs.lemmas.List.{append-nil, drop_all}
use Rattle.kr_defs.specs.declared.limits.TheConstants.{MOST_TARGETS}
use Rattle.kr_defs.specs.Brokers.{active}
use Rattle.kr_defs.specs.Ids.{has, is_distinct}
use Rattle.kr_defs.specs.Image.{Image}
use Rattle.kr_defs.specs.Map.{contains, get, insert}
use Rattle.kr_defs.specs.Partition.{are_targets}
use Rattle.kr_defs.proofs.Tests.{both}
use Rattle.kr_calls.specs.declared.create_topics.CreatableReplicaAssignment.{CreatableReplicaAssignment}
use Rattle.kr_calls.specs.CreateTopics.{assigned_at, are_assignable, first_size}
use Rattle.kr_calls.specs.NewPartitions.{is_assignable}
use Rattle.kr_rules.proofs.KeyLookups.{get_inserted}
use Rattle.kr_rules.proofs.SingleEntries.{here_of}
use Rattle.kr_topics.proofs.Placements.{range_step}

abbrev pub at_index : List CreatableReplicaAssignment → ℤ → Option (List ℤ)
at_index assignments index = option_map (λ (a : CreatableReplicaAssignment). a.brokers) (find (λ (a : CreatableReplicaAssignment). int_eq a.index index) assignments)

-- one assignment before those that were taken
pub index_more : (assignments : List CreatableReplicaAssignment) (i : ℕ) (a : CreatableReplicaAssignment) (es es' : List (ℤ × List ℤ)) → i < length assignments → a ≡ get_or assignments i a → es' ≡ insert int_cmp es a.index a.brokers
    → ((index : ℤ) → get int_cmp es index ≡ at_index (drop (i + 1) assignments) index) → (index : ℤ) → get int_cmp es' index ≡ at_index (drop i assignments) index
index_more assignments i a es es' lt here is so_far index =
    let rest : List CreatableReplicaAssignment = drop (i + 1) assignments in
    let added : get int_cmp es' index ≡ cond (int_eq index a.index) (Some a.brokers) (get int_cmp es index) = ap (λ m. get int_cmp m index) is ∙ get_inserted int_cmp_total es a.index index a.brokers in
    let first : cond (int_eq index a.index) (Some a.brokers) (get int_cmp es index) ≡ at_index (a ∷ rest) index =
    ap (λ b. cond b (Some a.brokers) (get int_cmp es index)) (int_eq_equiv.symm index a.index) ∙ elim (int_eq a.index index) as (λ b. cond b (Some a.brokers) (get int_cmp es index) ≡ option_map (λ (a : CreatableReplicaAssignment). a.brokers) (cond b (Some a) (find (λ (a : CreatableReplicaAssignment). int_eq a.index index) rest))) [ true ↦ refl | false ↦ so_far index ] in
    added ∙ first ∙ ap (λ those. at_index those index) (sym (here_of assignments i a lt here))

-- the same, counted from the end
pub index_earlier : (assignments : List CreatableReplicaAssignment) (k at : ℕ) (a : CreatableReplicaAssignment) (es es' : List (ℤ × List ℤ)) → k < length assignments → at ≡ length assignments - 1 - k → a ≡ get_or assignments at a → es' ≡ insert int_cmp es a.index a.brokers
    → ((index : ℤ) → get int_cmp es index ≡ at_index (drop (length assignments - k) assignments) index) → (index : ℤ) → get int_cmp es' index ≡ at_index (drop (length assignments - (k + 1)) assignments) index
index_earlier assignments k at a es es' lt at_is here is so_far index =
    let within : at < length assignments = omega arith in
    let next : length assignments - k ≡ at + 1 = omega arith in
    let now : at ≡ length assignments - (k + 1) = omega arith in
    index_more assignments at a es es' within here is (λ index. so_far index ∙ ap (λ n. at_index (drop n assignments) index) next) index ∙ ap (λ n. at_index (drop n assignments) index) now

pub index_begin : (assignments : List CreatableReplicaAssignment) (es : List (ℤ × List ℤ)) → es ≡ [] → (index : ℤ) → get int_cmp es index ≡ at_index (drop (length assignments - 0) assignments) index
index_begin assignments es none index =
    let e : length assignments - 0 ≡ length assignments = omega arith in
    ap (λ m. get int_cmp m index) none ∙ sym (ap (λ n. at_index (drop n assignments) index) e ∙ ap (λ those. at_index those index) (drop_all (length assignments) assignments (omega arith)))

pub index_all : (assignments : List CreatableReplicaAssignment) (k : ℕ) (es : List (ℤ × List ℤ)) → k ≡ length assignments → ((index : ℤ) → get int_cmp es index ≡ at_index (drop (length assignments - k) assignments) index) → (index : ℤ) → get int_cmp es index ≡ at_index assignments index
index_all assignments k es all so_far index = let e : length assignments - k ≡ 0 = omega arith in so_far index ∙ ap (λ n. at_index (drop n assignments) index) e

module _ (assignments : List CreatableReplicaAssignment) (i : ℕ) (lt : i < length assignments) where
  abbrev left : ℕ → List ℕ
  left i = range_with_len i (length assignments - i)

  abbrev some_at : ℕ → Bool
  some_at index = is_some (assigned_at assignments index)

  pub list_more : (brokers : List ℤ) → assigned_at assignments i ≡ Some brokers → (so_far all : List (List ℤ)) → so_far ++ filter_map (assigned_at assignments) (left i) ≡ all → (so_far ++ brokers ∷ []) ++ filter_map (assigned_at assignments) (left (i + 1)) ≡ all
  list_more brokers here so_far all told =
      let others : List (List ℤ) = filter_map (assigned_at assignments) (left (i + 1)) in
      let step : filter_map (assigned_at assignments) (left i) ≡ brokers ∷ others = ap (filter_map (assigned_at assignments)) (range_step i (length assignments) lt) ∙ ap (λ o. cons_option o others) here in
      append_assoc so_far (brokers ∷ []) others ∙ ap (λ xs. so_far ++ xs) (sym step) ∙ told

  pub whole_more : (brokers : List ℤ) → assigned_at assignments i ≡ Some brokers → (all : Bool) → list_all some_at (left i) ≡ all → list_all some_at (left (i + 1)) ≡ all
  whole_more brokers here all told =
      let step : list_all some_at (left i) ≡ list_all some_at (left (i + 1)) = ap (list_all some_at) (range_step i (length assignments) lt) ∙ ap (λ o. is_some o && list_all some_at (left (i + 1))) here in
      sym step ∙ told

  pub whole_none : assigned_at assignments i ≡ None → (all : Bool) → list_all some_at (left i) ≡ all → false ≡ all
  whole_none here all told =
      let step : list_all some_at (left i) ≡ false = ap (list_all some_at) (range_step i (length assignments) lt) ∙ ap (λ o. is_some o && list_all some_at (left (i + 1))) here in
      sym step ∙ told

-- all indexes are behind
pub list_all_told : (assignments : List CreatableReplicaAssignment) (i : ℕ) → i ≡ length assignments → (lists all : List (List ℤ)) → lists ++ filter_map (assigned_at assignments) (range_with_len i (length assignments - i)) ≡ all → lists ≡ all
list_all_told assignments i is lists all told = let none : length assignments - i ≡ 0 = omega arith in sym (append-nil lists) ∙ ap (λ n. lists ++ filter_map (assigned_at assignments) (range_with_len i n)) (sym none) ∙ told

pub list_all_whole : (assignments : List CreatableReplicaAssignment) (i : ℕ) → i ≡ length assignments → (all : Bool) → list_all (λ index. is_some (assigned_at assignments index)) (range_with_len i (length assignments - i)) ≡ all → true ≡ all
list_all_whole assignments i is all told = let none : length assignments - i ≡ 0 = omega arith in ap (λ n. list_all (λ index. is_some (assigned_at assignments index)) (range_with_len i n)) (sym none) ∙ told

-- the first assignment has few replicas where all may stand
pub few_first : (image : Image) (assignments : List CreatableReplicaAssignment) → are_assignable image assignments ≡ true → first_size assignments ≤ 32
few_first image [] all = omega arith
few_first image (a ∷ others) all =
    let first = both (is_assignable image a.brokers && length a.brokers == length a.brokers) (list_all (λ (b : CreatableReplicaAssignment). is_assignable image b.brokers && length b.brokers == length a.brokers) others) all in
    let assignable = both (is_assignable image a.brokers) (length a.brokers == length a.brokers) first.0 in
    let standing = both (are_targets a.brokers && list_all (contains int_cmp image.brokers) a.brokers) (list_any (has (active image)) a.brokers) assignable.0 in
    let targets = both (are_targets a.brokers) (list_all (contains int_cmp image.brokers) a.brokers) standing.0 in
    let size = both (nat_lt 0 (length a.brokers) && nat_le (length a.brokers) MOST_TARGETS) (is_distinct a.brokers) targets.0 in
    let few = both (nat_lt 0 (length a.brokers)) (nat_le (length a.brokers) MOST_TARGETS) size.0 in
    grind (arith, nat_tests, few.1)
