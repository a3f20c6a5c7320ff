-- The words in which a row tells what a reader of primitives answers (this project's own): the value, what is written
-- for it in hex, and how many bytes are left, or the fault.
use Rattle.std.specs.Prelude.{◌≡◌, ℕ, ℤ, ◌/◌, ◌%◌, ◌^◌, Bool, List, Option, Some, None, length, Ok, Err, codes}
use Rattle.std.specs.Fmt.{decimal, signed_decimal}
use Rattle.std.specs.Int.{Width, w8, w16, w32, w64}
use Rattle.hex.specs.Hex.{encode_lower}
use Rattle.kr_batch.specs.Crc.{crc32c}
use Rattle.kr_wire.specs.Reading as reading
use Rattle.kr_wire.specs.Reading.{Read}
use Rattle.kr_wire.specs.Spelling as spelling
use Rattle.testlib_words.specs.PlainWords as plain
use Rattle.testlib_words.specs.PlainWords.{◌␣◌}
use Rattle.testlib_codec_answers.specs.declared.primitives.Primitive.{Primitive}
use Rattle.testlib_codec_answers.specs.declared.primitives.Primitive.TheVariants as primitives
use Rattle.testlib_codec_answers.specs.Words.{wire_words}

-- the answer to what was read: the words of its value, what is written for it, and how many bytes are left
abbrev pub Tells : {X : Type 0} → (X → List ℕ × List ℕ) → List ℕ → Read X → Type 0
Tells words text (Ok x) = text ≡ ((words x.0).0 ␣ (encode_lower (words x.0).1 ␣ decimal (length x.1)))
Tells words text (Err fault) = text ≡ wire_words fault

-- ---- the words of a value, and the bytes that are written for it

abbrev pub uvarint_words : ℕ → List ℕ × List ℕ
uvarint_words n = (decimal n, spelling.uvarint n)

abbrev pub varint_words : ℤ → List ℕ × List ℕ
varint_words n = (signed_decimal n, spelling.varint32 n)

abbrev pub varlong_words : ℤ → List ℕ × List ℕ
varlong_words n = (signed_decimal n, spelling.varint64 n)

abbrev pub number_words : Width → ℕ → List ℕ × List ℕ
number_words w n = (decimal n, spelling.number w n)

abbrev pub signed_words : Width → ℤ → List ℕ × List ℕ
signed_words w n = (signed_decimal n, spelling.signed w n)

abbrev pub bool_words : Bool → List ℕ × List ℕ
bool_words b = (plain.bool_words b, spelling.bool b)

-- the high and the low 64 bits
abbrev pub halves : ℕ → List ℕ
halves n = decimal (n / 2 ^ 64) ␣ decimal (n % 2 ^ 64)

abbrev pub id_words : ℕ → List ℕ × List ℕ
id_words n = (halves n, spelling.id n)

abbrev pub count_words : ℕ → List ℕ × List ℕ
count_words n = (decimal n, spelling.count n)

abbrev pub count_or_null : Option ℕ → List ℕ
count_or_null None = spelling.null
count_or_null (Some n) = spelling.count n

abbrev pub count_or_null_words : Option ℕ → List ℕ × List ℕ
count_or_null_words None = (codes "null", spelling.null)
count_or_null_words (Some n) = count_words n

-- a text in hex
abbrev pub text_words : List ℕ → List ℕ × List ℕ
text_words bytes = (plain.hex_words bytes, spelling.text bytes)

abbrev pub text_or_null_words : Option (List ℕ) → List ℕ × List ℕ
text_or_null_words None = (codes "null", spelling.null)
text_or_null_words (Some bytes) = text_words bytes

-- a tag and the size of its data
abbrev pub tag_words : ℕ × ℕ → List ℕ × List ℕ
tag_words tag = (decimal tag.0 ␣ decimal tag.1, spelling.tag tag.0 tag.1)

-- of fields that are skipped, how many bytes are left
abbrev pub TellsLeft : List ℕ → Read (Unit {0}) → Type 0
TellsLeft text (Ok x) = text ≡ decimal (length x.1)
TellsLeft text (Err fault) = text ≡ wire_words fault

-- the answer of each reader to the bytes
abbrev pub TellsPrimitive : Primitive → List ℕ → List ℕ → Type 0
TellsPrimitive primitives.Uvarint bytes text = Tells uvarint_words text (reading.uvarint_at bytes)
TellsPrimitive primitives.Varint bytes text = Tells varint_words text (reading.varint32_at bytes)
TellsPrimitive primitives.Varlong bytes text = Tells varlong_words text (reading.varint64_at bytes)
TellsPrimitive primitives.I8 bytes text = Tells (signed_words w8) text (reading.signed_at w8 bytes)
TellsPrimitive primitives.I16 bytes text = Tells (signed_words w16) text (reading.signed_at w16 bytes)
TellsPrimitive primitives.I32 bytes text = Tells (signed_words w32) text (reading.signed_at w32 bytes)
TellsPrimitive primitives.I64 bytes text = Tells (signed_words w64) text (reading.signed_at w64 bytes)
TellsPrimitive primitives.U16 bytes text = Tells (number_words w16) text (reading.number_at w16 bytes)
TellsPrimitive primitives.U32 bytes text = Tells (number_words w32) text (reading.number_at w32 bytes)
TellsPrimitive primitives.U64 bytes text = Tells (number_words w64) text (reading.number_at w64 bytes)
TellsPrimitive primitives.Bool bytes text = Tells bool_words text (reading.bool_at bytes)
TellsPrimitive primitives.Id bytes text = Tells id_words text (reading.id_at bytes)
TellsPrimitive primitives.Text bytes text = Tells text_words text (reading.text_at bytes)
TellsPrimitive primitives.TextOrNull bytes text = Tells text_or_null_words text (reading.text_or_null_at bytes)
TellsPrimitive primitives.Count bytes text = Tells count_words text (reading.count_at bytes)
TellsPrimitive primitives.CountOrNull bytes text = Tells count_or_null_words text (reading.count_or_null_at bytes)
TellsPrimitive (primitives.Tag last) bytes text = Tells tag_words text (reading.tag_at last bytes)
TellsPrimitive primitives.Tags bytes text = TellsLeft text (reading.tags_at reading.none_known tt bytes)
TellsPrimitive primitives.Crc32c bytes text = text ≡ decimal (crc32c bytes)
