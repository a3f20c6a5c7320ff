-- What is written of a record, and what follows of bytes that stand for one.
use Rattle.std.proofs.Common.{◌≡◌, ℕ, ◌+◌, ◌*◌, ◌^◌, ◌<◌, ◌≤◌, List, [], ◌∷◌, ◌++◌, length, Ok, refl, ◌∙◌, append_assoc, arith, lit<}
use Rattle.std.specs.Prelude.{negsuc, Option, None}
use Rattle.std.specs.List.{sum_by}
use Rattle.std.proofs.lemmas.List.Sums.{sum_by-append, sum_by-cons}
use Rattle.kr_defs.specs.declared.record.Record.{Record}
use Rattle.kr_defs.specs.declared.record.Record.TheVariants as kinds
use Rattle.kr_defs.specs.Sizes.{text_bytes, no_tags_bytes, field_there, field_bytes, tags_bytes, number_field_or, ids_field_or, value_bytes}
use Rattle.kr_wire.specs.Laws.{IsBytes}
use Rattle.kr_wire.specs.Grammar.{◌⌢◌, IsUvarint}
use Rattle.kr_wire.proofs.SpellingLaws.{Form, ◌plus◌, form, small}
use Rattle.kr_wire.proofs.WrittenBytes.{OfBytes}
use Rattle.kr_record.specs.Layout.{Kind}
use Rattle.kr_record.specs.Records.{OfKind, of_kind, chosen, endpoint_layout, range_layout}
use Rattle.kr_record.specs.Encodable.{IsEncodable, IsHeld}
use Rattle.kr_record.specs.Grammar.{IsLayout, IsRecord}
use Rattle.kr_record.specs.Reading.{record_of}
use Rattle.kr_record.specs.Limits.{of_schema, of_record_layout}
use Rattle.kr_record.specs.Spelling.{framed, record_value}
use Rattle.kr_record.specs.Spelling as layouts
use Rattle.kr_record.proofs.LayoutForms.{most_bytes, layout_form}
use Rattle.kr_record.proofs.RecordLaws.{is_chosen, of_complete}

-- a kind with a small key, in its newest version, and what stood for it with some key, in some version
framed_form : (r : Record) (key version : ℕ) → let k = (chosen r).kind in
    Form (IsUvarint 1 ⌢ IsUvarint k.key ⌢ IsUvarint k.newest ⌢ IsLayout k.key k.newest r) (IsUvarint 1 ⌢ IsUvarint key ⌢ IsUvarint version ⌢ IsLayout key version r)
    (record_value r) (3 + (of_record_layout k.layout).size (chosen r).parts) (3 + most_bytes k.layout (chosen r).parts) (IsEncodable r) (IsHeld r)
unfolding record_value framed
framed_form r key version =
    let k = (chosen r).kind in
    let c = is_chosen r in
    let part = layout_form k.layout k.newest c.spelled version (chosen r).parts in
    let layout : Form (IsLayout k.key k.newest r) (IsLayout key version r) _ _ _ _ _ = record {
      size = part.size;
      stands = λ p q. (refl, omega arith, part.stands p q);
      fits = part.fits;
      follows = record { cost = λ b is. part.follows.cost b is.2; short = λ b is. part.follows.short b is.2; held = λ b is. part.follows.held b is.2 };
    } in
    form (small 1 1 (lit< tt) plus small k.key key c.low.0 plus small k.newest version c.low.1 plus layout) (simp append_assoc) (omega arith) (omega arith)
    (λ p. p.1.1.1) (λ p. (tt, (tt, (tt, p)))) (λ q. q.1.1.1) (λ q. (tt, (tt, (tt, q))))

pub stands : (r : Record) → IsEncodable r → IsHeld r → IsRecord r (record_value r)
stands r fits held = record { key = (chosen r).kind.key; version = (chosen r).kind.newest; spelled = (framed_form r 0 0).stands fits held }

pub again : (r : Record) → IsEncodable r → IsHeld r → record_of (record_value r) ≡ Ok r
again r fits held = of_complete (record_value r) r (stands r fits held)

pub record_fits : (r : Record) → IsEncodable r → IsHeld r → OfBytes (record_value r)
record_fits r fits held = (framed_form r 0 0).fits fits held

-- ---- what stands in bytes

pub short : (r : Record) (bytes : List ℕ) → IsRecord r bytes → length bytes < 2 ^ 31 → IsEncodable r
short r bytes is few = (framed_form r is.key is.version).follows.short bytes is.spelled few

pub held : (r : Record) (bytes : List ℕ) → IsRecord r bytes → IsBytes bytes → IsHeld r
held r bytes is fit = (framed_form r is.key is.version).follows.held bytes is.spelled fit

-- ---- what a match on a record says: its kind, and what stands in it

unfoldable pub held_of : OfKind → Type 0
held_of of = (of_record_layout of.kind.layout).held of.parts

pub held_as : (r : Record) → held_of (chosen r) → IsHeld r
unfolding held_of
held_as r held = held

pub held_kind : (k : Kind) (x : k.Parts) → (of_record_layout k.layout).held x → held_of (of_kind k x)
unfolding held_of
held_kind k x held = held

pub ruleset looked_at = (held_as, held_kind)

unfoldable pub value_of : OfKind → List ℕ
value_of of = framed of.kind.key of.kind.newest ++ layouts.written of.kind.layout of.parts

pub value_as : (r : Record) → record_value r ≡ value_of (chosen r)
unfolding record_value value_of
value_as r = refl

pub value_kind : (k : Kind) (x : k.Parts) → value_of (of_kind k x) ≡ framed k.key k.newest ++ layouts.written k.layout x
unfolding value_of
value_kind k x = refl

pub ruleset put_out = (value_as, value_kind)

-- ---- how many bytes are written

same_sums : {X : Type 0} (f g : X → ℕ) → ((x : X) → f x ≡ g x) → (xs : List X) → sum_by f xs ≡ sum_by g xs
same_sums f g same xs i = sum_by (λ x. same x i) xs

-- a field that is never written
none_more : (sizes : List (Option ℕ)) → tags_bytes (sizes ++ None ∷ []) ≡ tags_bytes sizes
none_more sizes =
    let there : sum_by field_there (sizes ++ None ∷ []) ≡ sum_by field_there sizes = omega (arith, sum_by-append field_there sizes (None ∷ []), sum_by-cons field_there None []) in
    let bytes : sum_by field_bytes (sizes ++ None ∷ []) ≡ sum_by field_bytes sizes = omega (arith, sum_by-append field_bytes sizes (None ∷ []), sum_by-cons field_bytes None []) in
    rw (there, bytes) refl

-- they are those that are told, and no more than eight times as many as stood for a record
all_bytes : (r : Record) → let k = (chosen r).kind in (3 + (of_record_layout k.layout).size (chosen r).parts ≡ value_bytes r) × (value_bytes r ≤ 3 + most_bytes k.layout (chosen r).parts)
unfolding value_bytes chosen
all_bytes (kinds.RegisterBroker broker state) =
    let endpoints = same_sums (of_schema endpoint_layout).size (λ e. text_bytes e.name + text_bytes e.host + 2 + 2 + no_tags_bytes) (λ e. omega arith) state.endpoints in
    let ranges = same_sums (of_schema range_layout).size (λ r. text_bytes r.name + 2 + 2 + no_tags_bytes) (λ r. omega arith) state.features in
    (omega (arith, endpoints, ranges), omega (arith, endpoints, ranges))
all_bytes (kinds.PartitionChange index n c) =
    let none = none_more (
    ids_field_or c.in_sync ∷ number_field_or 4 (negsuc 1) c.leader ∷ ids_field_or c.replicas ∷ ids_field_or c.removing ∷ ids_field_or c.adding
    ∷ number_field_or 1 (negsuc 0) c.recovery ∷ ids_field_or c.eligible ∷ ids_field_or c.last_known ∷ []) in
    (omega (arith, none), omega (arith, none))
all_bytes _ = (omega arith, omega arith)

pub size : (r : Record) → IsEncodable r → length (record_value r) ≡ value_bytes r
size r fits = (framed_form r 0 0).size fits ∙ (all_bytes r).0

pub cost : (r : Record) (bytes : List ℕ) → IsRecord r bytes → value_bytes r ≤ 8 * length bytes
cost r bytes is = omega (arith, (all_bytes r).1, (framed_form r is.key is.version).follows.cost bytes is.spelled)

pub ruleset laws = (stands, again, size, record_fits)
