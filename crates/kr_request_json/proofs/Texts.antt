-- Texts: which bytes are one, and null in the place of one.
use Rattle.std.proofs.Common.{◌≡◌, ℕ, true, false, List, ◌++◌, Option, Some, None, Result, Ok, Err, refl}
use Rattle.std.specs.Prelude.{IsUtf8, is_some, pos, negsuc}
use Rattle.std.specs.Int.{w8}
use Rattle.std.specs.Str.{is_utf8}
use Rattle.std.proofs.lemmas.Str.{IsUtf8-from_is_utf8, is_utf8-from_IsUtf8}
use Rattle.serde_json.specs.Data.{Data}
use Rattle.serde_json.specs.Find.{as_null, as_str}
use Rattle.serde_json.specs.Read.{read}
use Rattle.kr_pages.specs.Nullable.{structure_or_null}
use Rattle.kr_wire.specs.Spelling as spelling
use Rattle.kr_request_json.specs.declared.fault.PartFault.{PartFault}
use Rattle.kr_request_json.specs.declared.fault.PartFault.TheVariants as parts
use Rattle.kr_request_json.specs.Inputs.{JsonInput, array_input, client_id, client_id_input, nullable_array_input, nullable_input, nullable_text_input, or_null, short_text_of, text_input}
use Rattle.kr_request_json.specs.Messages.{json_of}
use Rattle.kr_request_json.specs.inner.Steps.{PutsFound, PutsInput}
use Rattle.kr_request_json.proofs.Fields.{joined}

-- ---- UTF-8

pub text_read : (text : List ℕ) → IsUtf8 text → json_of text ≡ read text
text_read text utf8 = rw (is_utf8-from_IsUtf8 text utf8) refl

pub text_unread : (text : List ℕ) → (IsUtf8 text → ⊥) → json_of text ≡ None
text_unread text none =
    elim (is_utf8 text) as (λ b. is_utf8 text ≡ b → json_of text ≡ None) [
      | true ↦ λ e. absurd (none (IsUtf8-from_is_utf8 text e))
      | false ↦ λ e. rw e refl
    ] refl

-- ---- null

module _ {X : Type 0} (one : Data → Option X) (whole : Option X → List ℕ) (d : Data) where
  some_put : is_some (as_null d) ≡ false → (result : Result (Unit {0}) PartFault) (before after : List ℕ) → PutsFound (one d) (λ x. whole (Some x)) result before after → PutsFound (or_null one d) whole result before after
  some_put some (Ok done) before after put = record { value = Some put.value; is = rw (some, put.is) refl; wrote = put.wrote }
  some_put some (Err parts.BadField) before after put = rw (some, put) refl
  some_put some (Err parts.NoMemory) before after put = tt

  null_put : is_some (as_null d) ≡ true → (before after : List ℕ) → after ≡ before ++ whole None → PutsFound (or_null one d) whole (Ok tt) before after
  null_put null before after wrote = record { value = None; is = rw null refl; wrote = wrote }

module _ (d : Data) (some : is_some (as_null d) ≡ false) (result : Result (Unit {0}) PartFault) (before after : List ℕ) where
  pub text_put : PutsInput text_input d result before after → PutsInput nullable_text_input d result before after
  text_put = some_put as_str spelling.text_or_null d some result before after

  pub client_put : PutsFound (short_text_of d) (λ text. client_id (Some text)) result before after → PutsInput client_id_input d result before after
  client_put = some_put short_text_of client_id d some result before after

  pub list_put : (f : JsonInput) → PutsInput (array_input f) d result before after → PutsInput (nullable_array_input f) d result before after
  list_put f = some_put (array_input f).of_json (spelling.list_or_null f.bytes) d some result before after

module _ (f : JsonInput) (d : Data) where
  -- a structure behind its byte
  marked_put : (result : Result (Unit {0}) PartFault) (before mid after : List ℕ) → mid ≡ before ++ spelling.signed w8 (pos 1) → PutsInput f d result mid after
      → PutsFound (f.of_json d) (λ x. structure_or_null f.bytes (Some x)) result before after
  marked_put (Ok done) before mid after marked put = record {
    value = put.value;
    is = put.is;
    wrote = joined before mid after (spelling.signed w8 (pos 1)) (f.bytes put.value) marked put.wrote;
  }
  marked_put (Err fault) before mid after marked put = put

  pub structure_put : is_some (as_null d) ≡ false → (result : Result (Unit {0}) PartFault) (before mid after : List ℕ) → mid ≡ before ++ spelling.signed w8 (pos 1) → PutsInput f d result mid after
      → PutsInput (nullable_input f) d result before after
  structure_put some result before mid after marked put =
      some_put f.of_json (structure_or_null f.bytes) d some result before after (marked_put result before mid after marked put)

module _ (d : Data) (null : is_some (as_null d) ≡ true) (before after : List ℕ) where
  pub text_null : after ≡ before ++ spelling.null → PutsInput nullable_text_input d (Ok tt) before after
  text_null = null_put as_str spelling.text_or_null d null before after

  pub client_null : after ≡ before ++ client_id None → PutsInput client_id_input d (Ok tt) before after
  client_null = null_put short_text_of client_id d null before after

  pub list_null : (f : JsonInput) → after ≡ before ++ spelling.null → PutsInput (nullable_array_input f) d (Ok tt) before after
  list_null f = null_put (array_input f).of_json (spelling.list_or_null f.bytes) d null before after

  pub structure_null : (f : JsonInput) → after ≡ before ++ spelling.signed w8 (negsuc 0) → PutsInput (nullable_input f) d (Ok tt) before after
  structure_null f = null_put f.of_json (structure_or_null f.bytes) d null before after
