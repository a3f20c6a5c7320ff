-- What is written by a layout: it has as many bytes as the layout says where texts and lists are short, and stands for the value and
-- is bytes where numbers and texts are those of their types. And what follows of bytes that stand for a value in some version. One
-- induction for both.
use Rattle.std.proofs.Common.{◌≡◌, ℕ, ◌+◌, ◌*◌, ◌<◌, ◌≤◌, ◌^◌, Bool, true, false, cond, ◌&&◌, ltb, leb, List, [], ◌∷◌, ◌++◌, length, map, take, get_or, Option, Some, None, refl, sym, ap, subst, ◌∙◌, arith, lit<, lit≤}
use Rattle.std.specs.Prelude.{ℤ, pos, ◌≢◌, FitsSigned, IfSome, IsUtf8}
use Rattle.std.specs.List.{flat_map, sum_by}
use Rattle.std.specs.Option.{option_map, unwrap_or}
use Rattle.std.specs.Ordering.{int_eq}
use Rattle.std.specs.Int.{Width, w8, w16, w32, w64, byte_len}
use mir.Val.{bits}
use Rattle.std.proofs.lemmas.Bool.Decides.{Decides-int_eq, nat_tests}
use Rattle.std.proofs.lemmas.List.{flat_map_more, take_more, map-append, length-map}
use Rattle.std.proofs.lemmas.List.Elements.{All-nil, All-map}
use Rattle.std.proofs.lemmas.List.Sums.{sum_by-cons}
use Rattle.kr_defs.specs.Sizes.{uvarint_bytes, list_bytes, tags_bytes, number_field, number_field_or, ids_field, ids_field_or, text_field}
use Rattle.kr_wire.specs.Grammar.{IsSigned, IsTextOrNull, IsList, IsListOrNull, IfTaggedSince, given, includes}
use Rattle.kr_wire.specs.Schema as plain
use Rattle.kr_wire.specs.Schema.{Schema, Int8, Int16, Int32, Int64, Uint16, Boolean, Uuid, Text, TextOrNull, End, Array, ArrayOrNull, ◌▸◌, Dropped, Constant, Structure}
use Rattle.kr_wire.specs.Spelling as written
use Rattle.kr_wire.specs.Tables.{ids, unless_empty, unless_default, written_data, Part, Int8NotZero, Int8OrNone, Int32OrNone, Int32sOrNull, Int32sOrEmpty, TextOrNone, UuidsDropped, IsUnless, IsIdsOrEmpty, IsTaggedPart, absent, Table, NoField, Field, Are, are_rising, written_fields}
use Rattle.kr_wire.proofs.FormLaws.{◌beside◌, free, then}
use Rattle.kr_wire.proofs.Lengths.{length_signed, length_signed_32, length_text, length_list, uvarint_few, each_long, both_lengths}
use Rattle.kr_wire.proofs.Numbers.{not_zero}
use Rattle.kr_wire.proofs.Schemas.{not_empty}
use Rattle.kr_wire.proofs.SpellingLaws.{Form, Plain, ◌plus◌, form, number, signed, id, bool, no_tags, text, small, list, list_of, int32s}
use Rattle.kr_wire.proofs.Tables.{both}
use Rattle.kr_wire.proofs.TaggedForms as tagged
use Rattle.kr_wire.proofs.TaggedForms.{FieldForm, FieldsForm, field_there, left_out, present}
use Rattle.kr_wire.proofs.TaggedSpelling.{AreFound, found, rising}
use Rattle.kr_record.specs.Layout.{RecordLayout, Of, Flag, ◌▹◌, Directories, Tagged, IsSince, IsInVersion}
use Rattle.kr_record.specs.Limits.{FitsField, AreInts, IsShort, of_schema, of_part, of_table, of_record_layout}
use Rattle.kr_record.specs.Spelling.{no_directories}
use Rattle.kr_record.specs.Spelling as layouts

-- Nothing in it is null as a list, dropped, or constant: no record has such a part.
abbrev pub is_spelled : {X : Type 0} → Schema X → Bool
is_spelled (Array s) = is_spelled s
is_spelled (ArrayOrNull s) = false
is_spelled (a ▸ b) = is_spelled a && is_spelled b
is_spelled (Dropped s) = false
is_spelled (Constant c s) = false
is_spelled (Structure s of fields there back) = is_spelled s
is_spelled _ = true

plain_form : {X : Type 0} (s : Schema X) → is_spelled s ≡ true → (x : X) → Plain (plain.Is s x) (plain.written s x) ((of_schema s).size x) ((of_schema s).short x) ((of_schema s).held x)
plain_form Int8 e n = signed w8 n (lit≤ tt)
plain_form Int16 e n = signed w16 n (lit≤ tt)
plain_form Int32 e n = signed w32 n (lit≤ tt)
plain_form Int64 e n = signed w64 n (lit≤ tt)
plain_form Uint16 e n = number w16 n (lit≤ tt)
plain_form Boolean e b = bool b
plain_form Uuid e n = id n
plain_form Text e t = text t
plain_form TextOrNull e None = small 0 0 (lit< tt)
plain_form TextOrNull e (Some t) = text t
plain_form End e u = no_tags
plain_form (Array Int32) e ids = int32s ids
plain_form (Array s) e xs = list (plain_form s e) (λ x b is. omega (arith, not_empty s x b is)) xs
plain_form (ArrayOrNull s) e o = absurd cc
plain_form (a ▸ b) e x =
    let h = both (is_spelled a) (is_spelled b) e in
    form (plain_form a h.0 x.0 plus plain_form b h.1 x.1) refl refl (omega arith) (λ p. p) (λ p. p) (λ q. q) (λ q. q)
plain_form (Dropped s) e u = absurd cc
plain_form (Constant c s) e u = absurd cc
plain_form (Structure s of fields there back) e y = plain_form s e (fields y)

-- ---- a number that is left out at its default

byte : (n : ℤ) → FieldForm (IsSigned w8 n) (n ≡ pos 0) (option_map (written.signed w8) (unless_default (pos 0) n)) (number_field 1 (pos 0) n) (Unit {0}) (FitsSigned w8 n)
byte n =
    let T : Bool → Type 0 = λ b. int_eq n (pos 0) ≡ b → FieldForm (IsSigned w8 n) (n ≡ pos 0) (option_map (written.signed w8) (cond b None (Some n))) (cond b None (Some 1)) (Unit {0}) (FitsSigned w8 n) in
    let step : T (int_eq n (pos 0)) = elim (int_eq n (pos 0)) as T [
      | true ↦ λ e. (let zero = (Decides-int_eq n (pos 0)).0 e in left_out zero tt (subst (FitsSigned w8) (sym zero) (record { sfits = lit< tt })))
      | false ↦ λ e. present (signed w8 n (lit≤ tt)) (λ p. omega (arith, length_signed w8 n)) (λ none. (let yes = (Decides-int_eq n (pos 0)).1 none in cc))
    ] in
    step refl

apart : (default n : ℤ) → Some n ≢ Some default → int_eq n default ≡ false
apart default n other = elim (int_eq n default) as (λ b. int_eq n default ≡ b → b ≡ false) [ true ↦ λ e. absurd (other (ap (λ (m : ℤ). Some m) ((Decides-int_eq n default).0 e))) | false ↦ λ e. refl ] refl

-- a number that was seen is the one that stands there, and isn't the one that spells "no change"
seen : (default n m : ℤ) → Some n ≡ unless_default default m → (n ≡ m) × (int_eq n default ≡ false)
seen default n m is = elim (int_eq m default) as (λ b. int_eq m default ≡ b → Some n ≡ cond b None (Some m) → (n ≡ m) × (int_eq n default ≡ false)) [
  | true ↦ λ e is. absurd cc
  | false ↦ λ e is. let same : n ≡ m = cc in (same, rw same e)
] refl is

module _ (w : Width) (few : bits w ≤ 64) (low : byte_len w < 2 ^ 32) (default : ℤ) where
  changed : (o : Option ℤ) → FieldForm (IsUnless (IsSigned w) default o) (o ≡ None) (option_map (written.signed w) o) (number_field_or (byte_len w) default o) (o ≢ Some default) (IfSome o (FitsSigned w))
  changed None = left_out refl (λ same. cc) tt
  changed (Some n) =
      let plain = signed w n few in
      record {
        long = λ p. let no = apart default n p in rw no (ap (λ (m : ℕ). Some m) (plain.size tt));
        few = λ p. omega (arith, plain.size tt);
        stands = λ p q. let no = apart default n p in record { n = n; is = rw no refl; spelled = plain.stands tt q };
        fits = λ p q. plain.fits tt q;
        within = λ d is. let no = (seen default n is.n is.is).1 in rw no (omega (arith, is.spelled.spelled.long));
        short = λ d is few same. let no = (seen default n is.n is.is).1 in let own : n ≡ default = cc in let yes = (Decides-int_eq n default).1 own in cc;
        held = λ d is fit. subst (FitsSigned w) (sym (seen default n is.n is.is).0) ((signed w is.n few).follows.held d is.spelled fit);
        absent = λ none. absurd cc;
      }

-- ---- a list of ids

pub length_ids : (xs : List ℤ) → length (ids xs) ≡ length (written.uvarint (length xs + 1)) + 4 * length xs
length_ids xs = length_list (written.signed w32) 4 length_signed_32 xs

ids_few : (xs : List ℤ) → FitsField xs → length (ids xs) < 2 ^ 32
ids_few xs fits = omega (arith, length_ids xs, uvarint_few (length xs + 1))

listed : (xs : List ℤ) → Plain (IsList (IsSigned w32) xs) (ids xs) (list_bytes 4 xs) (FitsField xs) (AreInts xs)
listed xs =
    let all = int32s xs in
    record {
      size = λ fits. all.size (omega arith);
      stands = λ fits q. all.stands (omega arith) q;
      fits = λ fits q. all.fits (omega arith) q;
      follows = record { cost = all.follows.cost; short = λ d is few. omega (arith, each_long 4 (λ n b one. omega (arith, one.spelled.long)) xs is.right is.second, both_lengths d is); held = all.follows.held };
    }

ids_or_null : (o : Option (List ℤ)) → FieldForm (IsListOrNull (IsSigned w32) o) (o ≡ None) (option_map ids o) (ids_field_or o) (IfSome o FitsField) (IfSome o AreInts)
ids_or_null None = left_out refl tt tt
ids_or_null (Some xs) = present (listed xs) (ids_few xs) (λ none. cc)

-- null and none are the same
ids_or_empty : (xs : List ℤ) → FieldForm (IsIdsOrEmpty xs) (xs ≡ []) (option_map ids (unless_empty xs)) (ids_field xs) (FitsField xs) (AreInts xs)
ids_or_empty [] = left_out refl (lit< tt) (All-nil _)
ids_or_empty (x ∷ xs) =
    let all = x ∷ xs in
    let own = listed all in
    let some : (d : List ℕ) (is : IsIdsOrEmpty all d) → IsList (IsSigned w32) all d = λ d is. elim is.listed as (λ o. all ≡ unwrap_or o [] → IsListOrNull (IsSigned w32) o d → IsList (IsSigned w32) all d) [
      | None ↦ λ e spelled. absurd cc
      | Some ys ↦ λ e spelled. subst (λ (l : List ℤ). IsList (IsSigned w32) l d) (sym e) spelled
    ] is.is is.spelled in
    let T : Bool → Type 0 = λ b. FieldForm (IsIdsOrEmpty all) (all ≡ []) (option_map ids (cond b None (Some all))) (ids_field all) (FitsField all) (AreInts all) in
    let there : T false = record {
      long = λ p. ap (λ (n : ℕ). Some n) (own.size p);
      few = ids_few all;
      stands = λ p q. record { listed = Some all; is = refl; spelled = own.stands p q };
      fits = own.fits;
      within = λ d is. omega (arith, own.follows.cost d (some d is));
      short = λ d is. own.follows.short d (some d is);
      held = λ d is. own.follows.held d (some d is);
      absent = λ none. absurd cc;
    } in
    subst T (sym (not_zero (length (x ∷ xs)) (omega arith))) there

-- ---- a text that is left out where there is none

pub length_text_data : (t : List ℕ) → length (written.text t) ≡ length (written.uvarint (length t + 1)) + length t
length_text_data t = length_text t

text_few : (t : List ℕ) → IsShort t → length (written.text t) < 2 ^ 32
text_few t short = omega (arith, length_text t, uvarint_few (length t + 1))

text_or_none : (o : Option (List ℕ)) → FieldForm (IsTextOrNull o) (o ≡ None) (option_map written.text o) (text_field o) (IfSome o IsShort) (IfSome o IsUtf8)
text_or_none None = left_out refl tt tt
text_or_none (Some t) = present (text t) (text_few t) (λ none. cc)

-- ---- each of them

part_form : {P : Type 0} (part : Part P) (p : P) → FieldForm (IsTaggedPart part p) (p ≡ absent part) (written_data part p) ((of_part part).size p) ((of_part part).short p) ((of_part part).held p)
part_form Int8NotZero n = byte n
part_form (Int8OrNone default) o = changed w8 (lit≤ tt) (lit< tt) default o
part_form (Int32OrNone default) o = changed w32 (lit≤ tt) (lit< tt) default o
part_form Int32sOrNull o = ids_or_null o
part_form Int32sOrEmpty xs = ids_or_empty xs
part_form TextOrNone o = text_or_none o
part_form UuidsDropped u = left_out refl tt tt

-- ---- tagged fields

-- which the version has, with tags of a byte
abbrev pub are_current : {Z : Type 0} → Table Z → ℕ → Bool
are_current NoField version = true
are_current (Field tag first part more) version = (ltb tag 128 && includes first version) && are_current more version

-- how many may be written
abbrev pub fields_in : {Z : Type 0} → Table Z → ℕ
fields_in NoField = 0
fields_in (Field tag first UuidsDropped more) = fields_in more
fields_in (Field tag first part more) = fields_in more + 1

one_there : (o : Option ℕ) → field_there o ≤ 1
one_there None = omega arith
one_there (Some n) = omega arith

few : {Z : Type 0} (t : Table Z) (z : Z) → sum_by field_there ((of_table t).size z) ≤ fields_in t
few NoField z = omega arith
few (Field tag first UuidsDropped more) z = omega (arith, sum_by-cons field_there None ((of_table more).size z.1), few more z.1)
few (Field tag first part more) z = omega (arith, sum_by-cons field_there ((of_part part).size z.0) ((of_table more).size z.1), one_there ((of_part part).size z.0), few more z.1)

are : {Z : Type 0} (t : Table Z) (version : ℕ) (z : Z) (fields : List (ℕ × List ℕ)) → are_current t version ≡ true → AreFound t z fields → (of_table t).short z → (of_table t).held z → Are t version z fields
are NoField version z fields e found short held = tt
are (Field tag first part more) version z fields e found short held =
    let h = both (ltb tag 128 && includes first version) (are_current more version) e in
    let there = (both (ltb tag 128) (includes first version) h.0).1 in
    let here = subst (λ (o : Option (List ℕ)). given o (IsTaggedPart part z.0) (z.0 ≡ absent part)) (sym found.0) ((part_form part z.0).stands short.0 held.0) in
    (subst (λ (b : Bool). IfTaggedSince b tag (IsTaggedPart part z.0) (z.0 ≡ absent part) fields) (sym there) here, are more version z.1 fields h.1 found.1 short.1 held.1)

table_form : {Z : Type 0} (t : Table Z) (newest : ℕ) → are_current t newest ≡ true → (version : ℕ) (z : Z) → FieldsForm (Are t version z) (written_fields t z) ((of_table t).size z) ((of_table t).short z) ((of_table t).held z)
table_form NoField newest e version z = tagged.no_more
table_form (Field tag first part more) newest e version z =
    let h = both (ltb tag 128 && includes first newest) (are_current more newest) e in
    let low : tag < 128 = (let test = (both (ltb tag 128) (includes first newest) h.0).0 in grind (arith, nat_tests)) in
    tagged.field (includes first version) tag low (table_form more newest h.1 version z.1) _ _ (part_form part z.0)

-- ---- layouts

-- one all-zero id more
pub one_zero_more : (start : List ℕ) (xs : List ℤ) (i : ℕ) (before after : List ℕ) → i < length xs → before ≡ start ++ flat_map written.id (no_directories (take i xs)) → after ≡ before ++ written.id 0
    → after ≡ start ++ flat_map written.id (no_directories (take (i + 1) xs))
one_zero_more start xs i before after lt so_far wrote =
    let zero_id : ℤ → ℕ = λ r. 0 in
    let step : no_directories (take (i + 1) xs) ≡ no_directories (take i xs) ++ 0 ∷ [] = ap (λ (ys : List ℤ). map zero_id ys) (take_more xs i (pos 0) lt) ∙ map-append zero_id (take i xs) (get_or xs i (pos 0) ∷ []) in
    wrote ∙ ap (λ (t : List ℕ). t ++ written.id 0) so_far ∙ flat_map_more written.id start (no_directories (take i xs)) 0 ∙ ap (λ (ys : List ℕ). start ++ flat_map written.id ys) (sym step)

-- which stand in a version that has them
directories : (here : Bool) → here ≡ true → (xs : List ℤ) → length xs < 2 ^ 31
    → let There = IsSince here (plain.Is (Dropped (Array Uuid))) tt tt in Form There There (written.list written.id (no_directories xs)) (list_bytes 16 xs) 0 (Unit {0}) (Unit {0})
directories true e xs few =
    let zero_id : ℤ → ℕ = λ r. 0 in
    let small = All-map (λ n. n < 2 ^ 128) zero_id xs (λ k d lt. lit< tt) in
    let same : length (no_directories xs) ≡ length xs = length-map xs zero_id in
    let short : length (no_directories xs) < 2 ^ 31 = omega (arith, same) in
    let all = list_of 16 id (λ n b is. omega (arith, not_empty Uuid n b is)) (no_directories xs) in
    record {
      size = λ p. all.size short ∙ ap (λ (n : ℕ). uvarint_bytes (n + 1) + 16 * n) same;
      stands = λ p q. let there : plain.Is (Dropped (Array Uuid)) tt (written.list written.id (no_directories xs)) = record { value = no_directories xs; spelled = all.stands short small } in there;
      fits = λ p q. all.fits short small;
      follows = free;
    }
directories false e xs few = absurd cc

-- a version that has all that is written
abbrev pub is_newest : {X : Type 0} → RecordLayout X → ℕ → Bool
is_newest (Of s) version = is_spelled s
is_newest (Flag first) version = includes first version
is_newest (a ▹ b) version = is_newest a version && is_newest b version
is_newest (Directories first a) version = includes first version && is_newest a version
is_newest (Tagged t) version = are_rising t && (are_current t version && leb (fields_in t) 8)

-- eight times as many bytes as stood for a value are no fewer
abbrev pub most_bytes : {X : Type 0} → RecordLayout X → X → ℕ
most_bytes (Of s) = λ x. 8 * (of_schema s).size x
most_bytes (Flag first) = λ x. 0
most_bytes (a ▹ b) = λ x. most_bytes a x.0 + most_bytes b x.1
most_bytes (Directories first a) = λ x. 8 * list_bytes 4 x.0 + most_bytes a x.1
most_bytes (Tagged t) = λ z. tags_bytes ((of_table t).size z)

pub layout_form : {X : Type 0} (s : RecordLayout X) (newest : ℕ) → is_newest s newest ≡ true → (version : ℕ) (x : X)
    → Form (IsInVersion s newest x) (IsInVersion s version x) (layouts.written s x) ((of_record_layout s).size x) (most_bytes s x) ((of_record_layout s).short x) ((of_record_layout s).held x)
layout_form (Of s) newest e version x = plain_form s e x
layout_form (Flag first) newest e version x =
    let part = bool x in
    record {
      size = part.size;
      stands = λ p q. subst (λ (here : Bool). IsSince here (plain.Is Boolean) false x (written.bool x)) (sym e) (part.stands p q);
      fits = part.fits;
      follows = free;
    }
layout_form (a ▹ b) newest e version x = let h = both (is_newest a newest) (is_newest b newest) e in layout_form a newest h.0 version x.0 plus layout_form b newest h.1 version x.1
layout_form (Directories first a) newest e version x =
    let h = both (includes first newest) (is_newest a newest) e in
    let front = plain_form (Array Int32) refl x.0 plus layout_form a newest h.1 version x.1 in
    record {
      size = λ p. (front plus directories (includes first newest) h.0 x.0 p.0).size (p, tt);
      stands = λ p q. (front plus directories (includes first newest) h.0 x.0 p.0).stands (p, tt) (q, tt);
      fits = λ p q. (front plus directories (includes first newest) h.0 x.0 p.0).fits (p, tt) (q, tt);
      follows = then (front.follows beside free) (omega arith) (λ p. p.0) (λ q. q.0);
    }
layout_form (Tagged t) newest e version z =
    let h = both (are_rising t) (are_current t newest && leb (fields_in t) 8) e in
    let here = both (are_current t newest) (leb (fields_in t) 8) h.1 in
    let count : fields_in t ≤ 8 = (let test = here.1 in grind (arith, nat_tests)) in
    tagged.tags (table_form t newest here.0 version z) (omega (arith, few t z)) (rising t z h.0) (λ short held. are t newest z (written_fields t z) here.0 (found t z h.0) short held)
