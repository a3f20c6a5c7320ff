-- Which value a JSON is, as Kafka's JSON converters read it, and the bytes of a value.
use Rattle.std.specs.Prelude.{ℕ, ℤ, pos, negsuc, ◌||◌, ◌==◌, List, [], ◌∷◌, ◌++◌, length, is_some, int_lt, nat_lt, Option, Some, None, option_map, option_and_then, Result, Ok, Err, codes, if◌then◌else◌}
use Rattle.std.specs.Int.{w8, w16, w32, w64}
use Rattle.base64.specs.Engines.{url_safe_no_pad}
use Rattle.base64.specs.GeneralPurpose.{decode_of}
use Rattle.base64.specs.declared.decode.DecodeError.{DecodeError}
use Rattle.serde_json.specs.Data.{Data, Items, no_items, item}
use Rattle.serde_json.specs.Find.{as_array, as_bool, as_i64, as_null, as_number, as_str, as_u64, get}
use Rattle.kr_pages.specs.Nullable.{structure_or_null}
use Rattle.kr_wire.specs.Spelling as spelling

-- the value that a JSON is, where it is one, and the bytes that are written for a value
pub record JsonInput : Type 1 where
  pub Value : Type 0
  pub of_json : Data → Option Value
  pub bytes : Value → List ℕ

abbrev pub plain_input : {X : Type 0} → (Data → Option X) → (X → List ℕ) → JsonInput
plain_input {X} of_json bytes = record { Value = X; of_json = of_json; bytes = bytes }

-- ---- numbers

abbrev pub in_bounds : ℤ → ℤ → ℤ → Option ℤ
in_bounds least most n = if int_lt n least || int_lt most n then None else Some n

abbrev pub int64_of : Data → Option ℤ
int64_of d = option_and_then as_i64 (as_number d)

-- a number from the one bound to the other
abbrev pub integer_of : ℤ → ℤ → Data → Option ℤ
integer_of least most d = option_and_then (in_bounds least most) (int64_of d)

abbrev pub int8_of : Data → Option ℤ
int8_of = integer_of (negsuc 127) (pos 127)

abbrev pub int16_of : Data → Option ℤ
int16_of = integer_of (negsuc 32767) (pos 32767)

abbrev pub int32_of : Data → Option ℤ
int32_of = integer_of (negsuc 2147483647) (pos 2147483647)

abbrev pub uint16_of : Data → Option ℕ
uint16_of d = option_and_then (λ n. if nat_lt 65535 n then None else Some n) (option_and_then as_u64 (as_number d))

abbrev pub int8_input : JsonInput
int8_input = plain_input int8_of (spelling.signed w8)

abbrev pub int16_input : JsonInput
int16_input = plain_input int16_of (spelling.signed w16)

abbrev pub int32_input : JsonInput
int32_input = plain_input int32_of (spelling.signed w32)

abbrev pub int64_input : JsonInput
int64_input = plain_input int64_of (spelling.signed w64)

abbrev pub uint16_input : JsonInput
uint16_input = plain_input uint16_of (spelling.number w16)

abbrev pub boolean_input : JsonInput
boolean_input = plain_input as_bool spelling.bool

-- ---- texts

-- null, or what that gives
abbrev pub or_null : {X : Type 0} → (Data → Option X) → Data → Option (Option X)
or_null one d = if is_some (as_null d) then Some None else option_map Some (one d)

abbrev pub text_input : JsonInput
text_input = plain_input as_str spelling.text

abbrev pub nullable_text_input : JsonInput
nullable_text_input = plain_input (or_null as_str) spelling.text_or_null

abbrev pub sixteen : Result (List ℕ) DecodeError → Option (List ℕ)
sixteen (Ok bytes) = if length bytes == 16 then Some bytes else None
sixteen (Err e) = None

-- the 16 bytes of an id in base64, with the alphabet for URLs and without padding (RFC 4648, 5), as Kafka's Uuid.toString writes it
abbrev pub id_of : Data → Option (List ℕ)
id_of d = option_and_then (λ text. sixteen (decode_of url_safe_no_pad text)) (as_str d)

abbrev pub uuid_input : JsonInput
uuid_input = plain_input id_of (λ bytes. bytes)

-- Kafka's STRING: a text whose length 16 bits tell
abbrev pub short_text : List ℕ → Option (List ℕ)
short_text text = if nat_lt 32767 (length text) then None else Some text

abbrev pub short_text_of : Data → Option (List ℕ)
short_text_of d = option_and_then short_text (as_str d)

-- Kafka's NULLABLE_STRING: the length -1 for null
abbrev pub client_id : Option (List ℕ) → List ℕ
client_id None = spelling.signed w16 (negsuc 0)
client_id (Some text) = spelling.signed w16 (pos (length text)) ++ text

abbrev pub client_id_input : JsonInput
client_id_input = plain_input (or_null short_text_of) client_id

-- ---- lists

-- each item's value, where each has one
abbrev pub each : {X : Type 0} → (Data → Option X) → Items → Option (List X)
each one no_items = Some []
each one (item d ds) = option_and_then (λ x. option_map (λ xs. x ∷ xs) (each one ds)) (one d)

abbrev pub list_of : {X : Type 0} → (Data → Option X) → Data → Option (List X)
list_of one d = option_and_then (each one) (as_array d)

abbrev pub array_input : JsonInput → JsonInput
array_input f = record { Value = List f.Value; of_json = list_of f.of_json; bytes = spelling.list f.bytes }

abbrev pub nullable_array_input : JsonInput → JsonInput
nullable_array_input f = record { Value = Option (List f.Value); of_json = or_null (list_of f.of_json); bytes = spelling.list_or_null f.bytes }

-- ---- structures

-- the value of the member of that name
abbrev pub member_of : {X : Type 0} → List ℕ → (Data → Option X) → Data → Option X
member_of name one d = option_and_then one (get name d)

abbrev pub pair_of : {X Y : Type 0} → Option X → Option Y → Option (X × Y)
pair_of x y = option_and_then (λ a. option_map (λ b. (a, b)) y) x

pub record InputMember : Type 1 where
  pub name : List ℕ
  pub input : JsonInput

infix 7 ◌≔◌
abbrev pub ◌≔◌ : List ℕ → JsonInput → InputMember
name ≔ input = record { name = name; input = input }

-- A field, and those behind it: each is a member of one object, in any order and beside any other.
infixr 6 ◌⋄◌
abbrev pub ◌⋄◌ : InputMember → JsonInput → JsonInput
f ⋄ others = record {
  Value = f.input.Value × others.Value;
  of_json = λ (d : Data). pair_of (member_of f.name f.input.of_json d) (others.of_json d);
  bytes = λ (v : f.input.Value × others.Value). f.input.bytes v.0 ++ others.bytes v.1;
}

-- a structure, or null
abbrev pub nullable_input : JsonInput → JsonInput
nullable_input f = record { Value = Option f.Value; of_json = or_null f.of_json; bytes = structure_or_null f.bytes }

-- the end of a structure: no tagged field
abbrev pub no_more : JsonInput
no_more = plain_input (λ d. Some tt) (λ (u : Unit {0}). spelling.tags [])

-- the end of a message
abbrev pub message_end : JsonInput
message_end = plain_input (λ d. Some tt) (λ (u : Unit {0}). [])

-- ---- messages

-- Kafka's request header, version 2
abbrev pub request_header_input : JsonInput
request_header_input =
    codes "requestApiKey" ≔ int16_input ⋄ codes "requestApiVersion" ≔ int16_input ⋄ codes "correlationId" ≔ int32_input ⋄
    codes "clientId" ≔ client_id_input ⋄ no_more

-- a header, and a body behind it
abbrev pub message_input : JsonInput → JsonInput
message_input body = codes "requestHeader" ≔ request_header_input ⋄ codes "request" ≔ body ⋄ message_end
