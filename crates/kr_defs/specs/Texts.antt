-- Names, decimal numbers and lists in text.
use Rattle.std.specs.Prelude.{ℕ, ◌+◌, ◌-◌, ◌*◌, Bool, false, not, ◌&&◌, ◌||◌, List, [], ◌∷◌, length, map, bytes_eq, ◌==◌, nat_le, nat_lt, Option, Some, None, if◌then◌else◌}
use Rattle.std.specs.List.{list_all, slice_split, join_with_byte}
use Rattle.kr_defs.specs.declared.limits.TheConstants.{LONGEST_TOPIC}

-- `0` to `9`
abbrev pub is_digit : ℕ → Bool
is_digit byte = nat_le 48 byte && nat_le byte 57

-- `A` to `Z` and `a` to `z`
abbrev pub is_letter : ℕ → Bool
is_letter byte = (nat_le 65 byte && nat_le byte 90) || (nat_le 97 byte && nat_le byte 122)

-- Kafka's topic names: ASCII letters, digits, `.`, `_` and `-`
abbrev pub is_name_byte : ℕ → Bool
is_name_byte byte = is_digit byte || is_letter byte || byte == 46 || byte == 95 || byte == 45

-- each byte is one of these
abbrev pub are_name_bytes : List ℕ → Bool
are_name_bytes name = list_all is_name_byte name

-- some of these, at most so many
abbrev pub is_name : ℕ → List ℕ → Bool
is_name longest name = nat_lt 0 (length name) && nat_le (length name) longest && are_name_bytes name

-- Kafka's topic names are neither `.` nor `..`
abbrev pub is_topic_name : List ℕ → Bool
is_topic_name name = is_name LONGEST_TOPIC name && not (bytes_eq name (46 ∷ [])) && not (bytes_eq name (46 ∷ 46 ∷ []))

-- `.` becomes `_`
abbrev pub as_underscore : ℕ → ℕ
as_underscore byte = if byte == 46 then 95 else byte

-- Kafka's Topic.hasCollision: the names are the same after each `.` becomes `_`
abbrev pub names_agree : List ℕ → List ℕ → Bool
names_agree name other = bytes_eq (map as_underscore name) (map as_underscore other)

-- ---- decimal numbers (this project's own)

-- the number that these digits spell, behind digits that spell the first number
abbrev pub number_behind : ℕ → List ℕ → ℕ
number_behind before [] = before
number_behind before (digit ∷ digits) = number_behind (before * 10 + (digit - 48)) digits

-- there is a first digit, which is zero only where it is the only one
abbrev pub is_led : List ℕ → Bool
is_led [] = false
is_led (digit ∷ digits) = not (digit == 48) || length digits == 0

-- each byte is a digit
abbrev pub are_digits : List ℕ → Bool
are_digits text = list_all is_digit text

-- digits without sign or leading zero
abbrev pub is_decimal : List ℕ → Bool
is_decimal text = is_led text && are_digits text

-- the number up to the greatest that the text spells in decimal
abbrev pub decimal_up_to : ℕ → List ℕ → Option ℕ
decimal_up_to greatest text =
    if is_decimal text && nat_le (number_behind 0 text) greatest then Some (number_behind 0 text) else None

-- ---- lists in one text (Kafka's configuration values of type list)

-- the parts between commas; an empty text has none
abbrev pub parts : List ℕ → List (List ℕ)
parts text = if length text == 0 then [] else slice_split (λ byte. byte == 44) text

-- the parts, joined by commas
abbrev pub joined : List (List ℕ) → List ℕ
joined = join_with_byte 44
