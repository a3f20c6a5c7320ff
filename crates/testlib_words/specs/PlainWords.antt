-- Plain words: numbers, lists of ids and what is left out (this project's own).
use Rattle.std.specs.Prelude.{ℤ, ℕ, ◌==◌, Bool, true, false, if◌then◌else◌, List, [], ◌∷◌, ◌++◌, length, Option, Some, None, codes}
use Rattle.hex.specs.Hex.{encode_lower}
use Rattle.std.specs.Fmt.{signed_decimal}

-- a space between two words
infixl 4 ◌␣◌
abbrev pub ◌␣◌ : List ℕ → List ℕ → List ℕ
before ␣ behind = before ++ (codes " " ++ behind)

-- each id behind a comma
abbrev pub others_words : List ℤ → List ℕ
others_words [] = []
others_words (id ∷ ids) = (codes "," ++ signed_decimal id) ++ others_words ids

-- the ids, commas between them
abbrev pub ids_words : List ℤ → List ℕ
ids_words [] = codes "-"
ids_words (id ∷ ids) = signed_decimal id ++ others_words ids

-- the ids where a list is given
abbrev pub given_words : Option (List ℤ) → List ℕ
given_words None = codes "."
given_words (Some ids) = ids_words ids

-- the number where one is given
abbrev pub number_words : Option ℤ → List ℕ
number_words None = codes "."
number_words (Some number) = signed_decimal number

abbrev pub bool_words : Bool → List ℕ
bool_words true = codes "true"
bool_words false = codes "false"

-- bytes in hex
abbrev pub hex_words : List ℕ → List ℕ
hex_words bytes = if length bytes == 0 then codes "-" else encode_lower bytes
