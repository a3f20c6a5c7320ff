-- The groups of all topics.
use Rattle.std.proofs.Common.{◌≡◌, ◌∙◌, ℕ, ℤ, List, [], ◌∷◌}
use Rattle.std.specs.Prelude.{map}
use Rattle.std.specs.List.{flat_map}
use Rattle.std.proofs.lemmas.List.Concat.{flat_map_single}
use Rattle.kr_defs.specs.declared.partition.Partition.{Partition}
use Rattle.kr_defs.specs.Image.{Image}
use Rattle.kr_calls.specs.ElectLeaders.{Group, whole_topic}

pub whole : (es : List ((ℕ × ℤ) × Partition)) → flat_map (λ (e : (ℕ × ℤ) × Partition). e.0.1 ∷ []) es ≡ map (λ (e : (ℕ × ℤ) × Partition). e.0.1) es
whole es = flat_map_single (λ (e : (ℕ × ℤ) × Partition). e.0.1) es

pub all_whole : (image : Image) (groups : List Group) → groups ≡ flat_map (λ (t : List ℕ × ℕ). whole_topic image t ∷ []) image.topics → groups ≡ map (whole_topic image) image.topics
all_whole image groups is = is ∙ flat_map_single (whole_topic image) image.topics
