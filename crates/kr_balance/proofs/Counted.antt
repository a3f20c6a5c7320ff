-- The tallies, as far as a walk has come.
use Rattle.std.proofs.Common.{◌≡◌, ◌∙◌, inl, inr, ◌<◌, sym, subst, refl, ap, arith, ℕ, ℤ, ◌+◌, ◌≤◌, Bool, true, false, cond, ◌&&◌, List, [], ◌∷◌, length}
use Rattle.std.specs.Prelude.{Option, Some, None, filter, unwrap_or}
use Rattle.std.specs.declared.cmp.Ordering.{Ordering}
use Rattle.std.specs.declared.cmp.Ordering.TheVariants.{Less, Equal, Greater}
use Rattle.std.specs.Ordering.{int_cmp, int_eq, is_eq, match_ordering}
use Rattle.std.specs.BTreeMap.{insert_entry}
use Rattle.std.proofs.lemmas.Bool.{cases_Bool}
use Rattle.std.proofs.lemmas.Bool.Decides.{Decides-int_eq}
use Rattle.std.proofs.lemmas.Cmp.{int_cmp_total, int_eq_equiv}
use Rattle.kr_defs.specs.declared.partition.Partition.{Partition}
use Rattle.kr_defs.specs.Image.{Image}
use Rattle.kr_defs.specs.declared.limits.TheConstants.{MOST_PARTITIONS}
use Rattle.kr_defs.specs.Map.{IsMap, above, get, next, partition_order}
use Rattle.kr_defs.proofs.ImageParts.{partition_total}
use Rattle.kr_defs.proofs.Maps.{length-filter_le}
use Rattle.kr_defs.proofs.Walks.{get_other, walk_end, walk_next}
use Rattle.kr_balance.specs.Plan.{is_imbalanced, is_imbalanced_of, prefers_broker, imbalanced, preferring, preferred_leader}
use Rattle.kr_balance.specs.declared.counts.Tally.{Tally}
use Rattle.kr_balance.specs.inner.Tallies.{Counts, empty_tally, one_more, tally_of, with_one}

abbrev Entry : Type 0
Entry = (ℕ × ℤ) × Partition

-- ---- one more

get_same : (es : List (ℤ × Tally)) (k : ℤ) (v : Tally) → get int_cmp (insert_entry int_cmp es k v) k ≡ Some v
get_same [] k v = rw (int_eq_equiv.refl k) refl
get_same (e ∷ es) k v =
    elim (int_cmp k e.0) as (λ r. int_cmp k e.0 ≡ r → get int_cmp (match_ordering r ((k, v) ∷ e ∷ es) ((e.0, v) ∷ es) (e ∷ insert_entry int_cmp es k v)) k ≡ Some v) [
      | Less ↦ λ is. rw (int_eq_equiv.refl k) refl
      | Equal ↦ λ is. rw is refl
      | Greater ↦ λ is. rw is (get_same es k v)
    ] refl

pub own_tally : (es : List (ℤ × Tally)) (k : ℤ) (is_imbalanced : Bool) → tally_of (with_one es k is_imbalanced) k ≡ one_more (tally_of es k) is_imbalanced
own_tally es k is_imbalanced = ap (λ o. unwrap_or o empty_tally) (get_same es k (one_more (tally_of es k) is_imbalanced))

pub other_tally : (es : List (ℤ × Tally)) (k b : ℤ) (is_imbalanced : Bool) → int_eq k b ≡ false → tally_of (with_one es k is_imbalanced) b ≡ tally_of es b
other_tally es k b is_imbalanced apart = ap (λ o. unwrap_or o empty_tally) (get_other int_cmp_total es k b (one_more (tally_of es k) is_imbalanced) (int_eq_equiv.symm b k ∙ apart))

-- ---- what is left of a walk

abbrev pub preferring_left : List Entry → Option (ℕ × ℤ) → ℤ → ℕ
preferring_left ps after b = length (filter (prefers_broker b) (above partition_order ps after))

abbrev pub imbalanced_left : Image → Option (ℕ × ℤ) → ℤ → ℕ
imbalanced_left image after b = length (filter (is_imbalanced_of image b) (above partition_order image.partitions after))

-- the tallies and what is left are all
pub record Counted (image : Image) (tallies : List (ℤ × Tally)) (after : Option (ℕ × ℤ)) : Type 0 where
  pub preferring : (b : ℤ) → (tally_of tallies b).preferring + preferring_left image.partitions after b ≡ preferring image b
  pub imbalanced : (b : ℤ) → (tally_of tallies b).imbalanced + imbalanced_left image after b ≡ imbalanced image b

pub none_counted : (image : Image) → Counted image [] None
none_counted image = record { preferring = λ b. omega arith; imbalanced = λ b. omega arith }

counted_by : (own : Bool) (n : ℕ) (e : Entry) (es : List Entry) → cond own (n + 1) n + length es ≡ n + length (cond own (e ∷ es) es)
counted_by true n e es = omega arith
counted_by false n e es = refl

preferring_then : (es : List (ℤ × Tally)) (k b : ℤ) (is_imbalanced : Bool) → (tally_of (with_one es k is_imbalanced) b).preferring ≡ cond (int_eq k b) ((tally_of es b).preferring + 1) (tally_of es b).preferring
preferring_then es k b is_imbalanced =
    elim (cases_Bool (int_eq k b)) [
      | inl own ↦ let same : k ≡ b = (Decides-int_eq k b).0 own in
          subst (λ x. (tally_of (with_one es k is_imbalanced) x).preferring ≡ cond (int_eq k x) ((tally_of es x).preferring + 1) (tally_of es x).preferring) same
          (ap (λ (t : Tally). t.preferring) (own_tally es k is_imbalanced) ∙ sym (ap (λ t. cond t ((tally_of es k).preferring + 1) (tally_of es k).preferring) (int_eq_equiv.refl k)))
      | inr other ↦ ap (λ (t : Tally). t.preferring) (other_tally es k b is_imbalanced other) ∙ sym (ap (λ t. cond t ((tally_of es b).preferring + 1) (tally_of es b).preferring) other)
    ]

imbalanced_then : (es : List (ℤ × Tally)) (k b : ℤ) (is_imbalanced : Bool) → (tally_of (with_one es k is_imbalanced) b).imbalanced ≡ cond (int_eq k b && is_imbalanced) ((tally_of es b).imbalanced + 1) (tally_of es b).imbalanced
imbalanced_then es k b is_imbalanced =
    elim (cases_Bool (int_eq k b)) [
      | inl own ↦ let same : k ≡ b = (Decides-int_eq k b).0 own in
          subst (λ x. (tally_of (with_one es k is_imbalanced) x).imbalanced ≡ cond (int_eq k x && is_imbalanced) ((tally_of es x).imbalanced + 1) (tally_of es x).imbalanced) same
          (ap (λ (t : Tally). t.imbalanced) (own_tally es k is_imbalanced) ∙ sym (ap (λ t. cond (t && is_imbalanced) ((tally_of es k).imbalanced + 1) (tally_of es k).imbalanced) (int_eq_equiv.refl k)))
      | inr other ↦ ap (λ (t : Tally). t.imbalanced) (other_tally es k b is_imbalanced other) ∙ sym (ap (λ t. cond (t && is_imbalanced) ((tally_of es b).imbalanced + 1) (tally_of es b).imbalanced) other)
    ]

module _ (image : Image) (ordered : IsMap partition_order image.partitions) (after : Option (ℕ × ℤ)) where
  pub count_more : (e : Entry) → Some e ≡ next partition_order image.partitions after → (es : List (ℤ × Tally)) → Counted image es after → Counted image (with_one es (preferred_leader e.1) (is_imbalanced image e.1)) (Some e.0)
  count_more e found es c =
      let rest = above partition_order image.partitions (Some e.0) in
      let begins = walk_next partition_total image.partitions after e ordered (sym found) in
      record {
        preferring = λ b.
            ap (λ n. n + preferring_left image.partitions (Some e.0) b) (preferring_then es (preferred_leader e.1) b (is_imbalanced image e.1))
            ∙ (counted_by (prefers_broker b e) (tally_of es b).preferring e (filter (prefers_broker b) rest)
            ∙ (ap (λ (l : List Entry). (tally_of es b).preferring + length (filter (prefers_broker b) l)) (sym begins) ∙ c.preferring b));
        imbalanced = λ b.
            ap (λ n. n + imbalanced_left image (Some e.0) b) (imbalanced_then es (preferred_leader e.1) b (is_imbalanced image e.1))
            ∙ (counted_by (is_imbalanced_of image b e) (tally_of es b).imbalanced e (filter (is_imbalanced_of image b) rest)
            ∙ (ap (λ (l : List Entry). (tally_of es b).imbalanced + length (filter (is_imbalanced_of image b) l)) (sym begins) ∙ c.imbalanced b));
      }

  pub count_over : None ≡ next partition_order image.partitions after → (es : List (ℤ × Tally)) → Counted image es after → Counts image es
  count_over none es c b =
      let end = walk_end (above partition_order image.partitions after) (sym none) in
      let owns = ap (λ (l : List Entry). length (filter (prefers_broker b) l)) end in
      let offs = ap (λ (l : List Entry). length (filter (is_imbalanced_of image b) l)) end in
      let o = c.preferring b in
      let f = c.imbalanced b in
      let own_is : (tally_of es b).preferring ≡ preferring image b = omega (arith, o, owns) in
      let off_is : (tally_of es b).imbalanced ≡ imbalanced image b = omega (arith, f, offs) in
      λ i. record { preferring = own_is i; imbalanced = off_is i }

pub few_preferring : (image : Image) (es : List (ℤ × Tally)) (after : Option (ℕ × ℤ)) (b : ℤ) → Counted image es after → length image.partitions ≤ MOST_PARTITIONS → (tally_of es b).preferring < 1000000000
few_preferring image es after b c few = let o = c.preferring b in let l = length-filter_le (prefers_broker b) image.partitions in omega (arith, o, l, few)

pub few_imbalanced : (image : Image) (es : List (ℤ × Tally)) (after : Option (ℕ × ℤ)) (b : ℤ) → Counted image es after → length image.partitions ≤ MOST_PARTITIONS → (tally_of es b).imbalanced < 1000000000
few_imbalanced image es after b c few = let o = c.imbalanced b in let l = length-filter_le (is_imbalanced_of image b) image.partitions in omega (arith, o, l, few)
