-- What a walk has gathered, and what is left.
use Rattle.std.proofs.Common.{◌≡◌, ◌∙◌, ◌<◌, ℕ, ℤ, List, [], ◌∷◌, ◌++◌, length, refl, sym, ap, append_assoc, arith, negsuc}
use Rattle.std.specs.Prelude.{Option, Some, None, All, IsTrue}
use Rattle.std.specs.declared.cmp.Ordering.{Ordering}
use Rattle.std.specs.Cmp.{IsTotalOrder}
use Rattle.std.specs.List.{flat_map}
use Rattle.std.proofs.lemmas.List.{append-nil}
use Rattle.std.proofs.lemmas.List.Elements.{recursion_from_All}
use Rattle.kr_defs.specs.declared.partition.Partition.{Partition}
use Rattle.kr_defs.specs.Image.{is_index}
use Rattle.kr_defs.specs.Map.{IsMap, above, next, partition_order}
use Rattle.kr_defs.specs.Walk.{of_topic}
use Rattle.kr_defs.proofs.TopicWalks.{group_begin}
use Rattle.kr_defs.proofs.Walks.{walk_more, walk_over, walk_less}

module _ (ps : List ((ℕ × ℤ) × Partition)) where
  -- the partitions of the key's topic above it
  abbrev pub left : ℕ × ℤ → List ((ℕ × ℤ) × Partition)
  left after = of_topic after.0 (above partition_order ps (Some after))

  pub key_less : (after : ℕ × ℤ) (e : (ℕ × ℤ) × Partition) → left after ≡ e ∷ left e.0 → length (left e.0) < length (left after)
  key_less after e behind = let n = ap length behind in omega (arith, n)

  module _ {Y : Type 0} (f : (ℕ × ℤ) × Partition → List Y) where
    pub key_more : (after : ℕ × ℤ) (e : (ℕ × ℤ) × Partition) → left after ≡ e ∷ left e.0 → (so_far all new : List Y) → new ≡ so_far ++ f e → so_far ++ flat_map f (left after) ≡ all → new ++ flat_map f (left e.0) ≡ all
    key_more after e behind so_far all new is told =
        rw is (append_assoc so_far (f e) (flat_map f (left e.0)) ∙ ap (λ es. so_far ++ flat_map f es) (sym behind) ∙ told)

    pub key_over : (after : ℕ × ℤ) → left after ≡ [] → (so_far all : List Y) → so_far ++ flat_map f (left after) ≡ all → so_far ≡ all
    key_over after none so_far all told = sym (append-nil so_far) ∙ (ap (λ es. so_far ++ flat_map f es) (sym none) ∙ told)

    pub key_begin : (id : ℕ) → All (λ (e : (ℕ × ℤ) × Partition). IsTrue (is_index e.0.1)) ps → flat_map f (left (id, negsuc 0)) ≡ flat_map f (of_topic id ps)
    key_begin id indexes = ap (flat_map f) (group_begin id ps (recursion_from_All (λ (e : (ℕ × ℤ) × Partition). IsTrue (is_index e.0.1)) ps indexes))

    pub key_begun : (id : ℕ) → All (λ (e : (ℕ × ℤ) × Partition). IsTrue (is_index e.0.1)) ps → (old new : List Y) → new ≡ old ++ flat_map f (left (id, negsuc 0)) → new ≡ old ++ flat_map f (of_topic id ps)
    key_begun id indexes old new is = is ∙ ap (λ ys. old ++ ys) (key_begin id indexes)

-- the same over all entries of a map
module _ {K V : Type 0} {R : K → K → Ordering} (o : IsTotalOrder R) where
  module _ {Y : Type 0} (f : K × V → List Y) where
    single : (e : K × V) (es : List (K × V)) → flat_map f (e ∷ es) ≡ flat_map f (e ∷ []) ++ flat_map f es
    single e es = ap (λ ys. ys ++ flat_map f es) (sym (append-nil (f e)))

    pub entry_more : (es : List (K × V)) (after : Option K) (e : K × V) → IsMap R es → Some e ≡ next R es after → (so_far all new : List Y) → new ≡ so_far ++ f e → so_far ++ flat_map f (above R es after) ≡ all → new ++ flat_map f (above R es (Some e.0)) ≡ all
    entry_more es after e ordered found so_far all new is told =
        rw is (ap (λ ys. (so_far ++ ys) ++ flat_map f (above R es (Some e.0))) (sym (append-nil (f e))) ∙ (walk_more o (flat_map f) single es after e ordered found so_far ∙ told))

    pub entry_over : (es : List (K × V)) (after : Option K) → None ≡ next R es after → (so_far all : List Y) → so_far ++ flat_map f (above R es after) ≡ all → so_far ≡ all
    entry_over es after none so_far all told = walk_over o (flat_map f) refl es after none so_far all told

  pub entry_less : (es : List (K × V)) (after : Option K) (e : K × V) → IsMap R es → Some e ≡ next R es after → length (above R es (Some e.0)) < length (above R es after)
  entry_less es after e ordered found = walk_less o es after e ordered found
