-- What is taken and shown, one part after the other.
use Rattle.std.proofs.Common.{◌≡◌, ◌∙◌, ℕ, Bool, true, false, List, [], ◌++◌, append-nil, Some, None, Result, Ok, Err, refl, sym, ap}
use Rattle.std.specs.Prelude.{ℤ, pos, negsuc, not, codes}
use Rattle.std.specs.Int.{w8}
use Rattle.std.specs.Ordering.{int_eq}
use Rattle.kr_json.specs.JsonText.{elements}
use Rattle.kr_json.proofs.Joined.{three}
use Rattle.kr_layout.specs.declared.fault.ReadFault.{ReadFault}
use Rattle.kr_layout.specs.declared.fault.ReadFault.TheVariants as reads
use Rattle.kr_layout.specs.Answers as layouts
use Rattle.kr_layout.specs.Answers.{IsFaultOf}
use Rattle.kr_pages.specs.Nullable.{structure_or_null_at}
use Rattle.kr_wire.specs.declared.WireFault.TheVariants.{BadNull}
use Rattle.kr_wire.specs.Reading.{Read, count_at, count_or_null_at, elements_at, list_at, list_or_null_at, signed_at}
use Rattle.kr_wire.specs.Schema as schemas
use Rattle.kr_messages.specs.Forms.{Field, FieldForms, Form, ◌▹◌, alone_form, array_form, array_text, no_field, name_text, nullable_array_form, nullable_form, object_form, response_message_form}
use Rattle.kr_messages.specs.Layouts.{decoded_at}
use Rattle.kr_messages.specs.inner.Taken.{ShowsForm, ShowsFields, Transcribes}

pub taken : {X : Type 0} (read : List ℕ → Read X) (json : X → List ℕ) (x : X) (left left' before after : List ℕ) → read left ≡ Ok (x, left') → after ≡ before ++ json x → Transcribes read json (Ok tt) left left' before after
taken read json x left left' before after took wrote = record { value = x; took = took; wrote = wrote }

wrapped : {X : Type 0} (read : List ℕ → Read X) (text : X → List ℕ) (a b left left' before began late after : List ℕ) → began ≡ before ++ a → Transcribes read text (Ok tt) left left' began late → after ≡ late ++ b → Transcribes read (λ x. a ++ (text x ++ b)) (Ok tt) left left' before after
wrapped read text a b left left' before began late after opened shown closed = record {
  value = shown.value;
  took = shown.took;
  wrote = three before began late after a (text shown.value) b opened shown.wrote closed;
}

-- ---- fields

pub end_taken : (is_first : Bool) (result : Result (Unit {0}) ReadFault) (left left' same : List ℕ) → layouts.Takes result left' (schemas.value_at schemas.End left) → ShowsFields no_field is_first result left left' same same
end_taken is_first (Ok done) left left' same took = record { value = tt; took = took; wrote = sym (append-nil same) }
end_taken is_first (Err fault) left left' same took = took

module _ (f : Field) (others : FieldForms) where
  pub field_taken : (is_first : Bool) (result : Result (Unit {0}) ReadFault) (left mid left' before named late after : List ℕ) → named ≡ before ++ name_text is_first f.name
      → ShowsForm f.form (Ok tt) left mid named late → ShowsFields others false result mid left' late after → ShowsFields (f ▹ others) is_first result left left' before after
  field_taken is_first (Ok done) left mid left' before named late after name first rest = record {
    value = (first.value, rest.value);
    took = rw (first.took, rest.took) refl;
    wrote = three before named late after (name_text is_first f.name) (f.form.json first.value) (others.json false rest.value) name first.wrote rest.wrote;
  }
  field_taken is_first (Err reads.NoMemory) left mid left' before named late after name first rest = tt
  field_taken is_first (Err (reads.Wire fault)) left mid left' before named late after name first rest = rw (first.took, rest) refl

  pub field_refused : (fault : ReadFault) (left : List ℕ) → IsFaultOf fault (decoded_at f.form.layout left) → IsFaultOf fault (decoded_at (f ▹ others).layout left)
  field_refused reads.NoMemory left refused = tt
  field_refused (reads.Wire fault) left refused = rw refused refl

pub object_taken : (fields : FieldForms) (left left' before began late after : List ℕ) → began ≡ before ++ codes "{" → ShowsFields fields true (Ok tt) left left' began late → after ≡ late ++ codes "}" → ShowsForm (object_form fields) (Ok tt) left left' before after
object_taken fields left left' before began late after opened shown closed =
    wrapped (decoded_at fields.layout) (fields.json true) (codes "{") (codes "}") left left' before began late after opened shown closed

-- ---- null

module _ (f : Form) where
  module _ (mark : ℤ) (left mid : List ℕ) where
    pub null_marked : int_eq mark (negsuc 0) ≡ true → (before after : List ℕ) → signed_at w8 left ≡ Ok (mark, mid) → after ≡ before ++ codes "null" → ShowsForm (nullable_form f) (Ok tt) left mid before after
    unfolding structure_or_null_at
    null_marked null before after marked wrote = record { value = None; took = rw (marked, null) refl; wrote = wrote }

    pub badly_marked : int_eq mark (negsuc 0) ≡ false → not (int_eq mark (pos 1)) ≡ true → signed_at w8 left ≡ Ok (mark, mid) → IsFaultOf (reads.Wire BadNull) (decoded_at (nullable_form f).layout left)
    unfolding structure_or_null_at
    badly_marked some other marked = rw (marked, some, other) refl

    pub structure_marked : int_eq mark (negsuc 0) ≡ false → not (int_eq mark (pos 1)) ≡ false → (result : Result (Unit {0}) ReadFault) (left' before after : List ℕ) → signed_at w8 left ≡ Ok (mark, mid)
        → ShowsForm f result mid left' before after → ShowsForm (nullable_form f) result left left' before after
    unfolding structure_or_null_at
    structure_marked some there (Ok done) left' before after marked shown = record { value = Some shown.value; took = rw (marked, some, there, shown.took) refl; wrote = shown.wrote }
    structure_marked some there (Err reads.NoMemory) left' before after marked shown = tt
    structure_marked some there (Err (reads.Wire fault)) left' before after marked shown = rw (marked, some, there, shown) refl

  pub no_mark : (fault : ReadFault) (left : List ℕ) → IsFaultOf fault (signed_at w8 left) → IsFaultOf fault (decoded_at (nullable_form f).layout left)
  unfolding structure_or_null_at
  no_mark reads.NoMemory left refused = tt
  no_mark (reads.Wire fault) left refused = rw refused refl

-- ---- lists

module _ (f : Form) where
  pub array_taken : (count : ℕ) (left left' before began late after : List ℕ) → began ≡ before ++ codes "[" → Transcribes (elements_at (decoded_at f.layout) count) (elements f.json) (Ok tt) left left' began late
      → after ≡ late ++ codes "]" → Transcribes (elements_at (decoded_at f.layout) count) (array_text f.json) (Ok tt) left left' before after
  array_taken count left left' before began late after opened shown closed =
      wrapped (elements_at (decoded_at f.layout) count) (elements f.json) (codes "[") (codes "]") left left' before began late after opened shown closed

  module _ (left mid : List ℕ) (count : ℕ) where
    pub list_taken : (result : Result (Unit {0}) ReadFault) (left' before after : List ℕ) → count_at left ≡ Ok (count, mid)
        → Transcribes (elements_at (decoded_at f.layout) count) (array_text f.json) result mid left' before after → ShowsForm (array_form f) result left left' before after
    unfolding list_at
    list_taken (Ok done) left' before after counted shown = record { value = shown.value; took = rw (counted, shown.took) refl; wrote = shown.wrote }
    list_taken (Err reads.NoMemory) left' before after counted shown = tt
    list_taken (Err (reads.Wire fault)) left' before after counted shown = rw (counted, shown) refl

    pub some_taken : (result : Result (Unit {0}) ReadFault) (left' before after : List ℕ) → count_or_null_at left ≡ Ok (Some count, mid)
        → Transcribes (elements_at (decoded_at f.layout) count) (array_text f.json) result mid left' before after → ShowsForm (nullable_array_form f) result left left' before after
    unfolding list_or_null_at
    some_taken (Ok done) left' before after counted shown = record { value = Some shown.value; took = rw (counted, shown.took) refl; wrote = shown.wrote }
    some_taken (Err reads.NoMemory) left' before after counted shown = tt
    some_taken (Err (reads.Wire fault)) left' before after counted shown = rw (counted, shown) refl

  pub null_taken : (left left' before after : List ℕ) → count_or_null_at left ≡ Ok (None, left') → after ≡ before ++ codes "null" → ShowsForm (nullable_array_form f) (Ok tt) left left' before after
  unfolding list_or_null_at
  null_taken left left' before after counted wrote = record { value = None; took = rw counted refl; wrote = wrote }

  pub no_count : (fault : ReadFault) (left : List ℕ) → IsFaultOf fault (count_at left) → IsFaultOf fault (decoded_at (array_form f).layout left)
  unfolding list_at
  no_count reads.NoMemory left refused = tt
  no_count (reads.Wire fault) left refused = rw refused refl

  pub no_count_or_null : (fault : ReadFault) (left : List ℕ) → IsFaultOf fault (count_or_null_at left) → IsFaultOf fault (decoded_at (nullable_array_form f).layout left)
  unfolding list_or_null_at
  no_count_or_null reads.NoMemory left refused = tt
  no_count_or_null (reads.Wire fault) left refused = rw refused refl

pub alone_taken : (f : Form) (left left' before began late after : List ℕ) → began ≡ before ++ codes "{\"errorCode\":" → ShowsForm f (Ok tt) left left' began late → after ≡ late ++ codes "}" → ShowsForm (alone_form f) (Ok tt) left left' before after
alone_taken f left left' before began late after opened shown closed =
    wrapped (decoded_at f.layout) f.json (codes "{\"errorCode\":") (codes "}") left left' before began late after opened shown closed

-- ---- messages

module _ (header body : Form) (left mid : List ℕ) where
  pub message_taken : (left' before began a b c after : List ℕ) → began ≡ before ++ codes "{\"responseHeader\":" → ShowsForm header (Ok tt) left mid began a
      → b ≡ a ++ codes ",\"response\":" → ShowsForm body (Ok tt) mid left' b c → after ≡ c ++ codes "}" → ShowsForm (response_message_form header body) (Ok tt) left left' before after
  message_taken left' before began a b c after opened first between second closed =
      let rest = codes ",\"response\":" ++ (body.json second.value ++ codes "}") in
      record {
        value = (first.value, second.value);
        took = rw (first.took, second.took) refl;
        wrote = three before began a after (codes "{\"responseHeader\":") (header.json first.value) rest opened first.wrote
            (three a b c after (codes ",\"response\":") (body.json second.value) (codes "}") between second.wrote closed);
      }

  pub no_header : (fault : ReadFault) → IsFaultOf fault (decoded_at header.layout left) → IsFaultOf fault (decoded_at (response_message_form header body).layout left)
  no_header reads.NoMemory refused = tt
  no_header (reads.Wire fault) refused = rw refused refl

  pub no_body : (fault : ReadFault) (began a : List ℕ) → ShowsForm header (Ok tt) left mid began a → IsFaultOf fault (decoded_at body.layout mid) → IsFaultOf fault (decoded_at (response_message_form header body).layout left)
  no_body reads.NoMemory began a first refused = tt
  no_body (reads.Wire fault) began a first refused = rw (first.took, refused) refl
