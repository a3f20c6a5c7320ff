-- Walks over the partitions of one topic, by index.
use Rattle.std.proofs.Common.{◌≡◌, ◌≢◌, ◌∙◌, ℕ, ◌≤◌, ◌<◌, true, false, cond, List, [], ◌∷◌, refl, sym, ap, subst, arith, ℤ, pos, negsuc}
use Rattle.std.specs.Prelude.{Some, None, ◌==◌, ◌&&◌, IsTrue}
use Rattle.std.specs.declared.cmp.Ordering.{Ordering}
use Rattle.std.specs.declared.cmp.Ordering.TheVariants.{Less, Equal, Greater}
use Rattle.std.specs.Ordering.{is_lt, nat_cmp, int_cmp, ordering_then, MatchOrdering}
use Rattle.std.specs.Cmp.{nat_cmp_is}
use Rattle.std.specs.List.{AllByRecursion}
use Rattle.std.specs.Map.{keys_of}
use Rattle.std.proofs.lemmas.Bool.Decides.{nat_tests}
use Rattle.std.proofs.lemmas.Cmp.{ranked}
use Rattle.std.proofs.lemmas.List.Elements.{recursion_from_All}
use Rattle.kr_defs.specs.declared.partition.Partition.{Partition}
use Rattle.kr_defs.specs.Image.{is_index}
use Rattle.kr_defs.specs.Map.{IsMap, above, next, partition_order}
use Rattle.kr_defs.specs.Walk.{of_topic}
use Rattle.kr_defs.specs.MapLaws.{TopicWalks}
use Rattle.kr_defs.proofs.ImageParts.{partition_total}
use Rattle.kr_defs.proofs.Walks.{walk_next, walk_end, all_above}

first_less : (r s : Ordering) (x y : ℕ) → MatchOrdering r (x < y) (x ≡ y) (y < x) → ordering_then r s ≡ Less → x ≤ y
first_less Less s x y m lt = omega (arith, m)
first_less Equal s x y m lt = omega (arith, m)
first_less Greater s x y m lt = absurd cc

-- an order of partitions goes by topic first
pub not_before : (a b : ℕ × ℤ) → partition_order a b ≡ Less → a.0 ≤ b.0
not_before a b lt = first_less (nat_cmp a.0 b.0) (int_cmp a.1 b.1) a.0 b.0 (ranked a.0 b.0 (nat_cmp a.0 b.0) refl) lt

another : (x id e : ℕ) → e ≤ x → id < e → (x == id) ≡ false
another x id e more less = grind (arith, nat_tests)

further : (x e : ℕ) → x ≤ e → (e == x) ≡ false → x < e
further x e less other = grind (arith, nat_tests)

pub equal_ids : (x y : ℕ) → x ≡ y → (x == y) ≡ true
equal_ids x y is = grind (arith, nat_tests)

other_ids : (x y : ℕ) → x ≢ y → (x == y) ≡ false
other_ids x y is = grind (arith, nat_tests)

pub same_topic : (x id : ℕ) → (x == id) ≡ true → x ≡ id
same_topic x id h = grind (arith, nat_tests)

none_of : (id : ℕ) (e : ℕ × ℤ) (ps : List ((ℕ × ℤ) × Partition)) → id < e.0 → AllByRecursion (λ z. partition_order e z ≡ Less) (keys_of ps) → of_topic id ps ≡ []
none_of id e [] lt a = refl
none_of id e (p ∷ ps) lt a = rw (another p.0.0 id e.0 (not_before e p.0 a.0) lt) (none_of id e ps lt a.1)

module _ (ps : List ((ℕ × ℤ) × Partition)) (ordered : IsMap partition_order ps) (after : ℕ × ℤ) where
  -- the next entry of the same topic
  pub group_next : (e : (ℕ × ℤ) × Partition) → Some e ≡ next partition_order ps (Some after) → e.0.0 ≡ after.0 → of_topic after.0 (above partition_order ps (Some after)) ≡ e ∷ of_topic e.0.0 (above partition_order ps (Some e.0))
  group_next e found same =
      let behind : of_topic after.0 (above partition_order ps (Some after)) ≡ e ∷ of_topic after.0 (above partition_order ps (Some e.0)) = rw (walk_next partition_total ps (Some after) e ordered (sym found), equal_ids e.0.0 after.0 same) refl in
      behind ∙ ap (λ id. e ∷ of_topic id (above partition_order ps (Some e.0))) (sym same)

  -- an entry of another topic comes next, so none of this topic is left
  pub group_end : (e : (ℕ × ℤ) × Partition) → Some e ≡ next partition_order ps (Some after) → e.0.0 ≢ after.0 → of_topic after.0 (above partition_order ps (Some after)) ≡ []
  group_end e found differ =
      let other = other_ids e.0.0 after.0 differ in
      let behind = walk_next partition_total ps (Some after) e ordered (sym found) in
      let all = subst (λ qs. AllByRecursion (λ z. partition_order after z ≡ Less) (keys_of qs)) behind (all_above partition_total after ps) in
      rw (behind, other) (none_of after.0 e.0 (above partition_order ps (Some e.0)) (further after.0 e.0.0 (not_before after e.0 all.0) other) (all_above partition_total e.0 ps))

  pub group_none : None ≡ next partition_order ps (Some after) → of_topic after.0 (above partition_order ps (Some after)) ≡ []
  group_none none = rw (walk_end (above partition_order ps (Some after)) (sym none)) refl

first_index : (n : ℤ) → is_index n ≡ true → int_cmp (negsuc 0) n ≡ Less
first_index (pos n) h = refl
first_index (negsuc n) h = absurd cc

same_less : (x : ℕ) (r : Ordering) → r ≡ Less → ordering_then (nat_cmp x x) r ≡ Less
same_less x r lt = rw (lt, ← (nat_cmp_is x x Equal refl)) refl

-- all entries of a topic stand above the index -1
pub group_begin : (id : ℕ) (ps : List ((ℕ × ℤ) × Partition)) → AllByRecursion (λ e. IsTrue (is_index e.0.1)) ps → of_topic id (above partition_order ps (Some (id, negsuc 0))) ≡ of_topic id ps
group_begin id [] a = refl
group_begin id (p ∷ ps) a =
    let rest = group_begin id ps a.1 in
    elim (p.0.0 == id) as (λ b. (p.0.0 == id) ≡ b → of_topic id (above partition_order (p ∷ ps) (Some (id, negsuc 0))) ≡ cond b (p ∷ of_topic id ps) (of_topic id ps)) [
      | true ↦ λ is.
          let less : partition_order (id, negsuc 0) p.0 ≡ Less = subst (λ (x : ℕ). ordering_then (nat_cmp id x) (int_cmp (negsuc 0) p.0.1) ≡ Less) (sym (same_topic p.0.0 id is)) (same_less id (int_cmp (negsuc 0) p.0.1) (first_index p.0.1 a.0)) in
          rw (less, is) (ap (λ qs. p ∷ qs) rest)
      | false ↦ λ is. elim (is_lt (partition_order (id, negsuc 0) p.0)) as (λ b. of_topic id (cond (b && true) (p ∷ above partition_order ps (Some (id, negsuc 0))) (above partition_order ps (Some (id, negsuc 0)))) ≡ of_topic id ps) [
        | true ↦ rw is rest
        | false ↦ rest
      ]
    ] refl

pub topic_walks : (partitions : List ((ℕ × ℤ) × Partition)) → TopicWalks partitions
topic_walks partitions ordered indexes = record {
  begins = λ id. group_begin id partitions (recursion_from_All (λ (e : (ℕ × ℤ) × Partition). IsTrue (is_index e.0.1)) partitions indexes);
  goes_on = λ after e found same. group_next partitions ordered after e (sym found) same;
  passes_on = λ after e found differ. group_end partitions ordered after e (sym found) differ;
  ends = λ after none. group_none partitions ordered after (sym none);
}
