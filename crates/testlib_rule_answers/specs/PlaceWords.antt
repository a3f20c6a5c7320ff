-- The words of a placement (this project's own).
use Rattle.std.specs.Prelude.{ℕ, ℤ, ◌+◌, List, ◌++◌, codes, unsigned_abs}
use Rattle.std.specs.Fmt.{decimal, signed_decimal}
use Rattle.kr_defs.specs.Placed.{Rack, placed}
use Rattle.testlib_words.specs.PlainWords.{ids_words}

-- more brokers are asked for than there are
abbrev pub too_few_words : ℕ → ℤ → List ℕ
too_few_words usable asked = (codes "TooFew " ++ decimal usable) ++ (codes " " ++ signed_decimal asked)

-- the brokers of a placement
abbrev pub placed_words : List (ℤ × Rack) → ℤ → ℤ → ℤ → List ℕ
placed_words brokers start index factor = ids_words (placed brokers (unsigned_abs start + unsigned_abs index) (unsigned_abs factor))
