-- Parts of messages: their layouts, and their texts as Kafka's JSON converters write them (RFC 8259).
use Rattle.std.specs.Prelude.{ℕ, Bool, true, false, List, [], ◌++◌, Option, Some, None, codes, if◌then◌else◌}
use Rattle.std.specs.Fmt.{signed_decimal}
use Rattle.kr_json.specs.JsonText as texts
use Rattle.kr_wire.specs.Schema.{Schema}
use Rattle.kr_wire.specs.Schema as schemas
use Rattle.kr_messages.specs.Layouts.{PartLayout}
use Rattle.kr_messages.specs.Layouts as layouts

-- the layout of a part's values, and the text of each
pub record Form : Type 1 where
  pub Value : Type 0
  pub layout : PartLayout Value
  pub json : Value → List ℕ

abbrev pub plain_form : {X : Type 0} → Schema X → (X → List ℕ) → Form
plain_form {X} schema json = record { Value = X; layout = layouts.Plain schema; json = json }

abbrev pub int8_form : Form
int8_form = plain_form schemas.Int8 signed_decimal

abbrev pub int16_form : Form
int16_form = plain_form schemas.Int16 signed_decimal

abbrev pub int32_form : Form
int32_form = plain_form schemas.Int32 signed_decimal

abbrev pub int64_form : Form
int64_form = plain_form schemas.Int64 signed_decimal

abbrev pub boolean_form : Form
boolean_form = plain_form schemas.Boolean texts.boolean

abbrev pub uuid_form : Form
uuid_form = plain_form schemas.Uuid texts.base64_id

abbrev pub text_form : Form
text_form = plain_form schemas.Text texts.string

abbrev pub nullable_text_form : Form
nullable_text_form = plain_form schemas.TextOrNull texts.string_or_null

-- ---- null

abbrev pub or_null_text : {X : Type 0} → (X → List ℕ) → Option X → List ℕ
or_null_text text None = codes "null"
or_null_text text (Some x) = text x

-- a structure, or null
abbrev pub nullable_form : Form → Form
nullable_form f = record { Value = Option f.Value; layout = layouts.StructureOrNull f.layout; json = or_null_text f.json }

-- ---- lists

abbrev pub array_text : {X : Type 0} → (X → List ℕ) → List X → List ℕ
array_text text xs = codes "[" ++ (texts.elements text xs ++ codes "]")

abbrev pub array_form : Form → Form
array_form f = record { Value = List f.Value; layout = layouts.Array f.layout; json = array_text f.json }

abbrev pub nullable_array_form : Form → Form
nullable_array_form f = record { Value = Option (List f.Value); layout = layouts.ArrayOrNull f.layout; json = or_null_text (array_text f.json) }

-- ---- structures

-- fields one after the other: their layout, and their text as the first ones of an object, or behind others
pub record FieldForms : Type 1 where
  pub Value : Type 0
  pub layout : PartLayout Value
  pub json : Bool → Value → List ℕ

-- what stands before a field's name
abbrev pub name_lead : Bool → List ℕ
name_lead is_first = if is_first then codes "\"" else codes ",\""

abbrev pub name_text : Bool → List ℕ → List ℕ
name_text is_first name = name_lead is_first ++ (name ++ codes "\":")

pub record Field : Type 1 where
  pub name : List ℕ
  pub form : Form

infix 7 ◌∶◌
abbrev pub ◌∶◌ : List ℕ → Form → Field
name ∶ form = record { name = name; form = form }

-- a field, and those behind it
infixr 6 ◌▹◌
abbrev pub ◌▹◌ : Field → FieldForms → FieldForms
f ▹ others = record {
  Value = f.form.Value × others.Value;
  layout = layouts.Both f.form.layout others.layout;
  json = λ (is_first : Bool) (v : f.form.Value × others.Value). name_text is_first f.name ++ (f.form.json v.0 ++ others.json false v.1);
}

-- tagged fields of which none is known, and none is shown
abbrev pub no_field : FieldForms
no_field = record { Value = Unit {0}; layout = layouts.Plain schemas.End; json = λ (is_first : Bool) (v : Unit {0}). [] }

abbrev pub object_form : FieldForms → Form
object_form fields = record { Value = fields.Value; layout = fields.layout; json = λ (v : fields.Value). codes "{" ++ (fields.json true v ++ codes "}") }

-- ---- replies

-- a header and a body behind it
abbrev pub response_message_form : Form → Form → Form
response_message_form header body = record {
  Value = header.Value × body.Value;
  layout = layouts.Both header.layout body.layout;
  json = λ (v : header.Value × body.Value). codes "{\"responseHeader\":" ++ (header.json v.0 ++ (codes ",\"response\":" ++ (body.json v.1 ++ codes "}")));
}

-- Kafka's response header, version 1
abbrev pub response_header_form : Form
response_header_form = object_form (codes "correlationId" ∶ int32_form ▹ no_field)

abbrev pub reply_form : Form → Form
reply_form body = response_message_form response_header_form body

-- an error alone, which answers a message that is no call
abbrev pub alone_form : Form → Form
alone_form f = record { Value = f.Value; layout = f.layout; json = λ (v : f.Value). codes "{\"errorCode\":" ++ (f.json v ++ codes "}") }

abbrev pub bare_form : Form
bare_form = alone_form int16_form
