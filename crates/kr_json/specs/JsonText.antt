-- JSON texts (RFC 8259): strings, numbers, lists, and ids as Kafka writes them.
use Rattle.std.specs.Prelude.{ℕ, ℤ, Bool, ◌==◌, nat_lt, ◌+◌, ◌/◌, ◌%◌, List, [], ◌∷◌, ◌++◌, flat_map, Option, Some, None, if◌then◌else◌, codes}
use Rattle.std.specs.Fmt.{signed_decimal}
use Rattle.std.specs.Int.{w128, to_be_bytes}
use Rattle.base64.specs.Engines.{url_safe_no_pad}
use Rattle.base64.specs.GeneralPurpose.{encode_of}

-- ---- strings (RFC 8259, 7)

abbrev pub upper_hex : ℕ → ℕ
upper_hex n = if nat_lt n 10 then 48 + n else 55 + n

-- A quotation mark, a backslash and control characters are escaped, five of them by a letter; all others stand as they are, in UTF-8.
abbrev pub escaped : ℕ → List ℕ
escaped byte =
    if byte == 34 then codes "\\\"" else if byte == 92 then codes "\\\\" else if byte == 8 then codes "\\b" else
    if byte == 9 then codes "\\t" else if byte == 10 then codes "\\n" else if byte == 12 then codes "\\f" else
    if byte == 13 then codes "\\r" else
    if nat_lt byte 32 then codes "\\u00" ++ (upper_hex (byte / 16) ∷ upper_hex (byte % 16) ∷ []) else byte ∷ []

abbrev pub string : List ℕ → List ℕ
string text = codes "\"" ++ (flat_map escaped text ++ codes "\"")

abbrev pub string_or_null : Option (List ℕ) → List ℕ
string_or_null None = codes "null"
string_or_null (Some text) = string text

abbrev pub boolean : Bool → List ℕ
boolean b = if b then codes "true" else codes "false"

-- ---- lists (RFC 8259, 5)

-- an element behind another
abbrev pub further : {X : Type 0} → (X → List ℕ) → X → List ℕ
further text x = codes "," ++ text x

abbrev pub elements : {X : Type 0} → (X → List ℕ) → List X → List ℕ
elements text [] = []
elements text (x ∷ xs) = text x ++ flat_map (further text) xs

abbrev pub numbers : List ℤ → List ℕ
numbers ns = codes "[" ++ (elements signed_decimal ns ++ codes "]")

-- ---- ids: base64 with the alphabet for URLs and without padding (RFC 4648, 5), as Kafka's Uuid.toString

abbrev pub base64_id : ℕ → List ℕ
base64_id n = codes "\"" ++ (encode_of url_safe_no_pad (to_be_bytes w128 n) ++ codes "\"")
