-- The replicas of new partitions may be a partition's, and one of them is active.
use Rattle.std.proofs.Common.{◌≡◌, refl, sym, subst, inl, inr, Bool, true, false, cond, not, ◌&&◌, ◌||◌, ◌==◌, ℕ, zero, suc, ◌+◌, ℤ, List, [], ◌∷◌, length, map, arith}
use Rattle.std.specs.Prelude.{IsTrue, MatchResult, Option, Some, None, nat_le, nat_lt, int_le, int_lt, pos, negsuc, find, unsigned_abs, option_map, filter}
use Rattle.std.specs.List.{AllByRecursion, cons_option, filter_map, list_all, list_any}
use Rattle.std.specs.Ordering.{int_cmp, int_eq}
use Rattle.std.proofs.lemmas.Bool.{and_from, and_parts, cases_Bool, leb-true, ltb-false, le-leb, or_cases, or_left, or_right}
use Rattle.std.proofs.lemmas.List.Elements.{All-weaker, recursion_from_All}
use Rattle.kr_defs.specs.declared.broker.Broker.{Broker}
use Rattle.kr_defs.specs.declared.limits.TheConstants.{MOST_REPLICAS, MOST_TARGETS}
use Rattle.kr_defs.specs.declared.options.Options.{Options}
use Rattle.kr_defs.specs.declared.partition.Partition.{Partition}
use Rattle.kr_defs.specs.Brokers.{active, active_of, is_active}
use Rattle.kr_defs.specs.Ids.{has, is_distinct, is_within, are_apart}
use Rattle.kr_defs.specs.Image.{Image, IsValid, has_numbers}
use Rattle.kr_defs.specs.Map as entries
use Rattle.kr_defs.specs.Map.{partition_order}
use Rattle.kr_defs.specs.Partition.{are_replicas, are_targets, is_natural, is_part, is_well_formed, target}
use Rattle.kr_defs.specs.Placed.{placed}
use Rattle.kr_defs.proofs.Changes.{formed_parts, replicas_from}
use Rattle.kr_defs.proofs.IdLists.{all_at, all_from, few_kept, first_member, same_id, some_left}
use Rattle.kr_defs.proofs.Tests.{neither, not_false}
use Rattle.kr_calls.specs.declared.create_partitions.CreatePartitionsAssignment.{CreatePartitionsAssignment}
use Rattle.kr_calls.specs.declared.create_topics.CreatableReplicaAssignment.{CreatableReplicaAssignment}
use Rattle.kr_calls.specs.declared.create_topics.CreatableTopic.{CreatableTopic}
use Rattle.kr_calls.specs.declared.errors.TheConstants.{INVALID_PARTITIONS, INVALID_REPLICATION_FACTOR, INVALID_REPLICA_ASSIGNMENT, INVALID_REQUEST}
use Rattle.kr_calls.specs.CreatePartitions as create_partitions
use Rattle.kr_calls.specs.CreateTopics as create_topics
use Rattle.kr_calls.specs.NewPartitions.{is_assignable, placements, racked}
use Rattle.kr_calls.proofs.WalkedChanges.{value_at}
use Rattle.law_safety.proofs.PlacedReplicas.{placed_count, placed_distinct, placed_within}
use Rattle.law_safety.proofs.Refusals.{IsOwn, by_if, by_refuse}

-- they may be those of a new partition
pub record IsNew (image : Image) (replicas : List ℤ) : Type 0 where
  pub formed : are_replicas replicas ≡ true
  pub led : list_any (has (active image)) replicas ≡ true

any_from : (test : ℤ → Bool) (ids : List ℤ) (id : ℤ) → has ids id ≡ true → test id ≡ true → list_any test ids ≡ true
any_from test [] id there passes = absurd cc
any_from test (x ∷ ids) id there passes = elim (or_cases (int_eq x id) (has ids id) there) [
  | inl same ↦ or_left (test x) (list_any test ids) (subst (λ y. test y ≡ true) (sym (same_id x id same)) passes)
  | inr later ↦ or_right (test x) (list_any test ids) (any_from test ids id later passes)
]

-- ---- ids of brokers aren't negative

pub at_key : (test : ℤ → Bool) (brokers : List (ℤ × Broker)) (id : ℤ) → AllByRecursion (λ e. test e.0 ≡ true) brokers → entries.contains int_cmp brokers id ≡ true → test id ≡ true
at_key test [] id all there = absurd cc
at_key test (e ∷ brokers) id all there = elim (cases_Bool (int_eq id e.0)) [
  | inl same ↦ subst (λ y. test y ≡ true) (sym (same_id id e.0 same)) all.0
  | inr other ↦ at_key test brokers id all.1 (rw other at there)
]

all_active : (test : ℤ → Bool) (brokers : List (ℤ × Broker)) → AllByRecursion (λ e. test e.0 ≡ true) brokers → list_all test (active_of brokers) ≡ true
all_active test [] all = refl
all_active test (e ∷ brokers) all = elim (is_active e.1) as (λ b. list_all test (map (λ (x : ℤ × Broker). x.0) (cond b (e ∷ filter (λ x. is_active x.1) brokers) (filter (λ x. is_active x.1) brokers))) ≡ true) [
  | true ↦ and_from (test e.0) (list_all test (active_of brokers)) all.0 (all_active test brokers all.1)
  | false ↦ all_active test brokers all.1
]

pub more_targets : (n : ℕ) → nat_le n MOST_TARGETS ≡ true → nat_le n MOST_REPLICAS ≡ true
more_targets n few = let le = leb-true n MOST_TARGETS few in le-leb n MOST_REPLICAS (omega (arith, le))

module _ (image : Image) (valid : IsValid image) where
  pub natural_keys : AllByRecursion (λ e. is_natural e.0 ≡ true) image.brokers
  natural_keys =
      recursion_from_All (λ (e : ℤ × Broker). is_natural e.0 ≡ true) image.brokers
      (All-weaker (λ (e : ℤ × Broker). IsTrue (has_numbers e.0 e.1)) (λ e. is_natural e.0 ≡ true) (λ e numbers. (and_parts (is_natural e.0) (is_natural e.1.epoch) numbers).0) image.brokers valid.brokers.numbers)

  pub formed_at : (key : ℕ × ℤ) (p : Partition) → entries.get partition_order image.partitions key ≡ Some p → is_well_formed p ≡ true
  formed_at key p = value_at partition_order (λ p. is_well_formed p ≡ true) image.partitions key p (recursion_from_All (λ e. is_well_formed e.1 ≡ true) image.partitions valid.partitions.well_formed)

  -- ---- replicas that are given

  assignable_new : (ids : List ℤ) → is_assignable image ids ≡ true → IsNew image ids
  assignable_new ids are =
      let a = and_parts (are_targets ids && list_all (entries.contains int_cmp image.brokers) ids) (list_any (has (active image)) ids) are in
      let b = and_parts (are_targets ids) (list_all (entries.contains int_cmp image.brokers) ids) a.0 in
      let c = and_parts (nat_lt 0 (length ids) && nat_le (length ids) MOST_TARGETS) (is_distinct ids) b.0 in
      let d = and_parts (nat_lt 0 (length ids)) (nat_le (length ids) MOST_TARGETS) c.0 in record {
        formed = replicas_from ids (record {
          some = d.0;
          few = more_targets (length ids) d.1;
          distinct = c.1;
          natural = all_from is_natural ids (λ id there. at_key is_natural image.brokers id natural_keys (all_at (entries.contains int_cmp image.brokers) ids id b.1 there));
        });
        led = a.1;
      }

  abbrev passes : CreatableReplicaAssignment → ℕ → Bool
  passes a size = is_assignable image a.brokers && length a.brokers == size

  assigned_one : (assignments : List CreatableReplicaAssignment) (size index : ℕ) (others : List (List ℤ)) → list_all (λ a. passes a size) assignments ≡ true → AllByRecursion (IsNew image) others → AllByRecursion (IsNew image) (cons_option (create_topics.assigned_at assignments index) others)
  assigned_one [] size index others all so_far = so_far
  assigned_one (a ∷ assignments) size index others all so_far =
      let parts = and_parts (passes a size) (list_all (λ x. passes x size) assignments) all in
      elim (int_eq a.index (pos index)) as (λ b. AllByRecursion (IsNew image) (cons_option (option_map (λ (x : CreatableReplicaAssignment). x.brokers) (cond b (Some a) (find (λ x. int_eq x.index (pos index)) assignments))) others)) [
        | true ↦ (assignable_new a.brokers (and_parts (is_assignable image a.brokers) (length a.brokers == size) parts.0).0, so_far)
        | false ↦ assigned_one assignments size index others parts.1 so_far
      ]

  assigned_all : (assignments : List CreatableReplicaAssignment) (size : ℕ) (indexes : List ℕ) → list_all (λ a. passes a size) assignments ≡ true → AllByRecursion (IsNew image) (filter_map (create_topics.assigned_at assignments) indexes)
  assigned_all assignments size [] all = tt
  assigned_all assignments size (index ∷ indexes) all = assigned_one assignments size index (filter_map (create_topics.assigned_at assignments) indexes) all (assigned_all assignments size indexes all)

  assigned_more : (assignments : List CreatePartitionsAssignment) (size : ℕ) → list_all (λ (a : CreatePartitionsAssignment). is_assignable image a.brokers && length a.brokers == size) assignments ≡ true → AllByRecursion (IsNew image) (map (λ (a : CreatePartitionsAssignment). a.brokers) assignments)
  assigned_more [] size all = tt
  assigned_more (a ∷ assignments) size all =
      let parts = and_parts (is_assignable image a.brokers && length a.brokers == size) (list_all (λ (x : CreatePartitionsAssignment). is_assignable image x.brokers && length x.brokers == size) assignments) all in
      (assignable_new a.brokers (and_parts (is_assignable image a.brokers) (length a.brokers == size) parts.0).0, assigned_more assignments size parts.1)

  -- ---- replicas that are placed

  module _ (factor : ℕ) (some : nat_lt 0 factor ≡ true) (few : nat_le factor MOST_REPLICAS ≡ true) (enough : nat_le factor (length (active image)) ≡ true) where
    placed_new : (start : ℕ) → IsNew image (placed (racked image) start factor)
    placed_new start =
        let ids : List ℤ = placed (racked image) start factor in
        let count : length ids ≡ factor = placed_count image valid start factor enough in
        let among = placed_within image valid start factor in
        let more : nat_lt 0 (length ids) ≡ true = subst (λ n. nat_lt 0 n ≡ true) (sym count) some in
        let one = first_member ids more in record {
          formed = replicas_from ids (record {
            some = more;
            few = subst (λ n. nat_le n MOST_REPLICAS ≡ true) (sym count) few;
            distinct = placed_distinct image valid start factor;
            natural = all_from is_natural ids (λ id there. all_at is_natural (active image) id (all_active is_natural image.brokers natural_keys) (all_at (has (active image)) ids id among there));
          });
          led = any_from (has (active image)) ids one.0 one.1 (all_at (has (active image)) ids one.0 among one.1);
        }

    placements_new : (place : ℤ) (first count : ℕ) → AllByRecursion (IsNew image) (placements image place first count factor)
    placements_new place first zero = tt
    placements_new place first (suc count) = (placed_new (unsigned_abs place + first), placements_new place (first + 1) count)

  -- ---- what requests lay out

  spread_new : (place partitions factor : ℤ) → create_topics.is_factor image factor ≡ true → AllByRecursion (IsNew image) (placements image place 0 (unsigned_abs partitions) (unsigned_abs factor))
  spread_new place partitions (negsuc n) is = absurd cc
  spread_new place partitions (pos n) is =
      let a = and_parts (int_le (pos 1) (pos n) && int_le (pos n) (pos MOST_TARGETS)) (int_le (pos n) (pos (length (active image)))) is in
      let b = and_parts (int_le (pos 1) (pos n)) (int_le (pos n) (pos MOST_TARGETS)) a.0 in
      placements_new n b.0 (more_targets n b.1) a.1 place 0 (unsigned_abs partitions)

  -- of new topics
  pub created_new : (options : Options) (place : ℤ) (entry : CreatableTopic) → MatchResult (create_topics.layout options image place entry) (λ layout. AllByRecursion (IsNew image) layout.replicas) IsOwn
  created_new options place entry =
      let P : create_topics.Layout → Type 0 = λ layout. AllByRecursion (IsNew image) layout.replicas in
      let partitions = create_topics.or_default entry.partitions options.partitions in
      let factor = create_topics.or_default entry.factor options.factor in
      by_if P IsOwn (length entry.assignments == 0) _ _
      (λ _. by_refuse P IsOwn INVALID_PARTITIONS (int_lt partitions (pos 1)) _ (λ _. refl) (λ _. by_refuse P IsOwn INVALID_REPLICATION_FACTOR (not (create_topics.is_factor image factor)) _ (λ _. refl) (λ fits.
      spread_new place partitions factor (not_false (create_topics.is_factor image factor) fits))))
      (λ _. by_refuse P IsOwn INVALID_REQUEST (not (int_eq entry.partitions (negsuc 0)) || not (int_eq entry.factor (negsuc 0))) _ (λ _. refl) (λ _. by_refuse P IsOwn INVALID_REPLICA_ASSIGNMENT (not (create_topics.are_whole entry.assignments) || not (create_topics.are_assignable image entry.assignments)) _ (λ _. refl) (λ fits.
      assigned_all entry.assignments (create_topics.first_size entry.assignments) (create_topics.indexes_of entry.assignments)
      (not_false (create_topics.are_assignable image entry.assignments) (neither (not (create_topics.are_whole entry.assignments)) (not (create_topics.are_assignable image entry.assignments)) fits).1))))

  -- of a topic that gets more partitions
  pub grown_new : (place : ℤ) (first count : ℕ) (p : Partition) (assignments : Option (List CreatePartitionsAssignment)) → is_well_formed p ≡ true → MatchResult (create_partitions.new_replicas image place first count (length (target p)) assignments) (AllByRecursion (IsNew image)) IsOwn
  grown_new place first count p (Some assignments) formed =
      let size = length (target p) in
      by_refuse (AllByRecursion (IsNew image)) IsOwn INVALID_REPLICA_ASSIGNMENT (not (create_partitions.are_assignable image count size assignments)) _ (λ _. refl) (λ fits.
      assigned_more assignments size (and_parts (length assignments == count) _ (not_false (create_partitions.are_assignable image count size assignments) fits)).1)
  grown_new place first count p None formed =
      let size = length (target p) in
      let f = formed_parts p formed in
      let kept = and_parts (is_part p.adding p.replicas && is_part p.removing p.replicas && are_apart p.adding p.removing && not (is_within p.replicas p.adding)) (not (is_within p.replicas p.removing)) f.reassignment in
      by_refuse (AllByRecursion (IsNew image)) IsOwn INVALID_REPLICATION_FACTOR (nat_lt (length (active image)) size) _ (λ _. refl) (λ fits.
      placements_new size (some_left p.replicas p.removing kept.1) (few_kept (λ id. not (has p.removing id)) p.replicas MOST_REPLICAS f.replicas.few)
      (let le = ltb-false (length (active image)) size fits in le-leb size (length (active image)) (omega (arith, le))) place first count)
