-- The number of few tagged fields is one byte.
use Rattle.std.proofs.Common.{◌≡◌, ◌∙◌, ◌≤◌, ◌<◌, ◌+◌, ℕ, List, [], ◌∷◌, length, ap, arith}
use Rattle.std.specs.Prelude.{Option, Some, None, sum_by}
use Rattle.std.proofs.lemmas.List.Sums.{sum_by-cons}
use Rattle.kr_defs.specs.Sizes.{field_bytes, field_there, tags_bytes, uvarint_bytes}

few_there : (fields : List (Option ℕ)) → sum_by field_there fields ≤ length fields
few_there [] = omega arith
few_there (None ∷ fields) = let here = sum_by-cons field_there None fields in let few = few_there fields in omega (arith, here, few)
few_there (Some size ∷ fields) = let here = sum_by-cons field_there (Some size) fields in let few = few_there fields in omega (arith, here, few)

one_byte : (n : ℕ) → n < 128 → uvarint_bytes n ≡ 1
one_byte n few = grind (arith, few)

pub few_tags : (fields : List (Option ℕ)) → length fields < 128 → tags_bytes fields ≡ 1 + sum_by field_bytes fields
few_tags fields few = let there = few_there fields in ap (λ n. n + sum_by field_bytes fields) (one_byte (sum_by field_there fields) (omega (arith, there, few)))

pub one_tag : (a : Option ℕ) → tags_bytes (a ∷ []) ≡ 1 + field_bytes a
one_tag a = few_tags (a ∷ []) (omega arith) ∙ omega arith

pub two_tags : (a b : Option ℕ) → tags_bytes (a ∷ b ∷ []) ≡ 1 + (field_bytes a + field_bytes b)
two_tags a b = few_tags (a ∷ b ∷ []) (omega arith) ∙ omega arith

pub three_tags : (a b c : Option ℕ) → tags_bytes (a ∷ b ∷ c ∷ []) ≡ 1 + (field_bytes a + field_bytes b + field_bytes c)
three_tags a b c = few_tags (a ∷ b ∷ c ∷ []) (omega arith) ∙ omega arith

pub eight_tags : (a b c d e f g h : Option ℕ) → tags_bytes (a ∷ b ∷ c ∷ d ∷ e ∷ f ∷ g ∷ h ∷ []) ≡ 1 + (field_bytes a + field_bytes b + field_bytes c + field_bytes d + field_bytes e + field_bytes f + field_bytes g + field_bytes h)
eight_tags a b c d e f g h = few_tags (a ∷ b ∷ c ∷ d ∷ e ∷ f ∷ g ∷ h ∷ []) (omega arith) ∙ omega arith

pub ruleset tags = (one_tag, two_tags, three_tags, eight_tags)
