-- The laws of records.
use Rattle.std.proofs.Common.{Fits, w8, get_or, ◌≡◌, ℕ, ◌≤◌, ◌<◌, Bool, cond, eqb, ltb, true, false, List, ◌++◌, Result, Ok, Err, refl, ap, subst, ◌∙◌, arith, lit<}
use Rattle.std.specs.Prelude.{not, IfOk}
use Rattle.std.proofs.lemmas.Bool.Decides.{nat_tests}
use Rattle.std.proofs.lemmas.Bool.{ltb-false, le-ltb}
use Rattle.kr_defs.specs.declared.record.Record.{Record}
use Rattle.kr_defs.specs.declared.record.Record.TheVariants as kinds
use Rattle.kr_wire.specs.declared.WireFault.{WireFault}
use Rattle.kr_wire.specs.Reading.{Read}
use Rattle.kr_wire.specs.Grammar.{◌⌢◌, IsUvarint, includes}
use Rattle.kr_wire.specs.Schema.{Int32, Boolean, Array, Dropped, Uuid}
use Rattle.kr_wire.proofs.ReadingLaws.{IsBytes, Yields, Law, joined, ◌before◌, structure_law, sound_done, sound_then, sound_last, sound_guard, sound_as, sound_if, complete_then, complete_last, complete_guard, all_sound, all_complete}
use Rattle.kr_wire.proofs.Numbers.{uvarint_law}
use Rattle.kr_wire.proofs.Schemas as schemas
use Rattle.kr_wire.proofs.Tables.{both, fields_law}
use Rattle.kr_record.specs.declared.fault.RecordFault.{RecordFault}
use Rattle.kr_record.specs.declared.fault.RecordFault.TheVariants as faults
use Rattle.kr_record.specs.Answers.{Gives, IsFault}
use Rattle.kr_record.specs.Records.{chosen, of_kind, register_broker, unregister_broker, topic, partition, config, partition_change, fence_broker, unfence_broker, remove_topic, feature_level, broker_registration_change, no_op, begin_transaction, end_transaction, abort_transaction}
use Rattle.kr_record.specs.Layout.{RecordLayout, Of, Flag, ◌▹◌, Directories, Tagged, Kind, IsSince, IsInVersion, since_at, version_at, is_whole}
use Rattle.kr_record.specs.Reading.{wired, layout_at, kind_at, served_at, record_at, record_of}
use Rattle.kr_record.specs.Grammar.{IsOfKind, IsLayout, IsRecord}
use Rattle.kr_record.proofs.LayoutForms.{is_newest}

-- ---- layouts: what is read by one stands for the value, and what stands for a value is read as it

since_law : {X : Type 0} {One : X → List ℕ → Type 0} {read : List ℕ → Read X} (here : Bool) → Law One read → (absent : X) → Law (IsSince here One absent) (since_at here read absent)
since_law true law absent = law
since_law {X} {One} {read} false law absent = record {
  sound = λ bytes fits. sound_done (IsSince false One absent) bytes absent (refl, refl);
  complete = λ x front rest is. rw (is.0, is.1) refl;
}

law : {X : Type 0} (s : RecordLayout X) → is_whole s ≡ true → (version : ℕ) → Law (IsInVersion s version) (version_at s version)
law (Of s) e version = schemas.law s e
law (Flag first) e version = since_law (includes first version) (schemas.law Boolean refl) false
law (a ▹ b) e version = let h = both (is_whole a) (is_whole b) e in law a h.0 version before law b h.1 version
law (Directories first a) e version =
    structure_law (λ p. p.0) (λ x. (x, tt)) (λ p. refl) (λ x. refl)
    ((schemas.law (Array Int32) refl before law a e version) before since_law (includes first version) (schemas.law (Dropped (Array Uuid)) refl) tt)
law (Tagged t) e version = fields_law t e version

-- ---- a fault of the wire is one of the record

wired_ok : {X : Type 0} (r : Result X WireFault) (x : X) → wired r ≡ Ok x → r ≡ Ok x
wired_ok {X} (Ok y) x e = let same : y ≡ x = cc in ap (λ z. let r : Result X WireFault = Ok z in r) same
wired_ok (Err d) x e = absurd cc

wired_law : {X : Type 0} {Is : X → List ℕ → Type 0} {read : List ℕ → Read X} → Law Is read → Law Is (λ bytes. wired (read bytes))
wired_law law = record {
  sound = λ bytes fits x rest e. law.sound bytes fits x rest (wired_ok _ (x, rest) e);
  complete = λ x front rest is. ap wired (law.complete x front rest is);
}

-- ---- the kinds

-- What holds of the kind of each record: it is found by its key, its layout is read, the newest version is written, the key and
-- the version take a byte each, and what stands in the record makes it.
pub record IsChosen (r : Record) (k : Kind) (parts : k.Parts) : Type 0 where
  pub found : (version : ℕ) (bytes : List ℕ) → layout_at k.key version bytes ≡ kind_at k version bytes
  pub whole : is_whole k.layout ≡ true
  pub spelled : is_newest k.layout k.newest ≡ true
  pub low : (k.key < 128) × (k.newest < 128)
  pub back : k.record_of parts ≡ r

pub is_chosen : (r : Record) → IsChosen r (chosen r).kind (chosen r).parts
unfolding layout_at chosen
is_chosen kinds.NoOp = record { found = λ version bytes. refl; whole = refl; spelled = refl; low = (lit< tt, lit< tt); back = refl }
is_chosen kinds.EndTransaction = record { found = λ version bytes. refl; whole = refl; spelled = refl; low = (lit< tt, lit< tt); back = refl }
is_chosen _ = record { found = λ version bytes. refl; whole = refl; spelled = refl; low = (lit< tt, lit< tt); back = refl }

parts_law : (k : Kind) → is_whole k.layout ≡ true → (version : ℕ) → Law (λ x front. (version ≤ k.newest) × IsInVersion k.layout version x front) (served_at k.key k.newest k.layout version)
unfolding served_at
parts_law k whole version =
    let layout = wired_law (law k.layout whole version) in
    record {
      sound = λ bytes fits. sound_guard _ bytes (ltb k.newest version) _ _ (λ le. sound_as (IsInVersion k.layout version) _ bytes _ (layout.sound bytes fits) (λ x front is. (ltb-false _ _ le, is)));
      complete = λ x front rest is. complete_guard _ _ _ _ (le-ltb _ _ is.0) (layout.complete x front rest is.1);
    }

pub read_as : (k : Kind) (version : ℕ) (bytes left : List ℕ) (x : k.Parts) → served_at k.key k.newest k.layout version bytes ≡ Ok (x, left) → kind_at k version bytes ≡ Ok (k.record_of x, left)
unfolding kind_at
read_as k version bytes left x e = rw e refl

pub refused_as : (k : Kind) (version : ℕ) (bytes : List ℕ) (e : RecordFault) → IsFault e (served_at k.key k.newest k.layout version bytes) → IsFault e (kind_at k version bytes)
unfolding kind_at
refused_as k version bytes faults.NoMemory fault = tt
refused_as k version bytes _ fault = rw fault refl

module _ (key version : ℕ) (bytes : List ℕ) (fits : IsBytes bytes) where
  abbrev Reads : Result (Record × List ℕ) RecordFault → Type 0
  Reads read = Yields (IsLayout key version) bytes read

  -- the kind with the key, or others
  kind_or : (k : Kind) → is_whole k.layout ≡ true → ((x : k.Parts) (front : List ℕ) → IsOfKind (of_kind k x) key version front → IsLayout key version (k.record_of x) front)
      → (others : Result (Record × List ℕ) RecordFault) → Reads others → Reads (cond (eqb key k.key) (kind_at k version bytes) others)
  unfolding kind_at
  kind_or k whole there others more =
      sound_if (IsLayout key version) bytes (eqb key k.key) (kind_at k version bytes) others
      (λ e. let same : key ≡ k.key = grind (arith, nat_tests) in sound_last (parts_law k whole version) _ k.record_of bytes fits (λ x front is. there x front (same, is.0, is.1))) (λ e. more)

  layout_sound : Reads (layout_at key version bytes)
  unfolding layout_at chosen
  layout_sound =
      kind_or register_broker refl (λ x front is. is) _ (kind_or unregister_broker refl (λ x front is. is) _ (kind_or topic refl (λ x front is. is) _ (kind_or partition refl (λ x front is. is) _
      (kind_or config refl (λ x front is. is) _ (kind_or partition_change refl (λ x front is. is) _ (kind_or fence_broker refl (λ x front is. is) _ (kind_or unfence_broker refl (λ x front is. is) _
      (kind_or remove_topic refl (λ x front is. is) _ (kind_or feature_level refl (λ x front is. is) _ (kind_or broker_registration_change refl (λ x front is. is) _ (kind_or no_op refl (λ x front is. is) _
      (kind_or begin_transaction refl (λ x front is. is) _ (kind_or end_transaction refl (λ x front is. is) _ (kind_or abort_transaction refl (λ x front is. is) _
      (λ r rest e. absurd cc)))))))))))))))

layout_complete : (key version : ℕ) (r : Record) (bytes rest : List ℕ) → IsLayout key version r bytes → layout_at key version (bytes ++ rest) ≡ Ok (r, rest)
unfolding kind_at
layout_complete key version r bytes rest is =
    let s = is_chosen r in
    let k = (chosen r).kind in
    let front : Record → Result (Record × List ℕ) RecordFault = λ x. Ok (x, rest) in
    rw (is.0, s.found) (complete_last (parts_law k s.whole version) (chosen r).parts k.record_of rest bytes (is.1, is.2) ∙ ap front s.back)

-- ---- records

pub record_law : Law IsRecord record_at
unfolding record_at
record_law = record {
  sound = λ bytes fits. sound_then (wired_law uvarint_law) IsRecord _ bytes fits (λ frame a rest first more.
      sound_guard _ rest (not (eqb frame 1)) _ _ (λ is_one.
      sound_then (wired_law uvarint_law) _ _ rest more (λ key b rest second more.
      sound_then (wired_law uvarint_law) _ _ rest more (λ version c rest third more.
      sound_as (IsLayout key version) _ rest _ (layout_sound key version rest more) (λ r d last.
      let one : frame ≡ 1 = grind (arith, nat_tests) in
      record {
        key = key;
        version = version;
        spelled = joined a (b ++ (c ++ d)) (subst (λ (n : ℕ). IsUvarint n a) one first) (joined b (c ++ d) second (joined c d third last));
      })))));
  complete = λ r bytes rest is.
      complete_then (wired_law uvarint_law) 1 (IsUvarint is.key ⌢ IsUvarint is.version ⌢ IsLayout is.key is.version r) _ _ rest
      (complete_then (wired_law uvarint_law) is.key (IsUvarint is.version ⌢ IsLayout is.key is.version r) _ _ rest
      (complete_then (wired_law uvarint_law) is.version (IsLayout is.key is.version r) _ _ rest
      (λ tail last. layout_complete is.key is.version r tail rest last))) bytes is.spelled;
}

-- ---- all of the bytes

pub of_sound : (bytes : List ℕ) (r : Record) → IsBytes bytes → record_of bytes ≡ Ok r → IsRecord r bytes
unfolding record_of
of_sound bytes r fits e = all_sound record_law faults.Trailing bytes r fits e

pub of_complete : (bytes : List ℕ) (r : Record) → IsRecord r bytes → record_of bytes ≡ Ok r
unfolding record_of
of_complete bytes r is = all_complete record_law faults.Trailing bytes r is

-- what a decoder's answer says
pub found : (bytes : List ℕ) (answer : Result Record RecordFault) → ((i : ℕ) → Fits w8 (get_or bytes i 0)) → Gives answer (record_of bytes) → IfOk answer (λ r. IsRecord r bytes)
found bytes (Ok r) fits given = of_sound bytes r (λ i. omega (arith, fits i)) given
found bytes (Err e) fits given = tt

pub only : (bytes : List ℕ) (answer : Result Record RecordFault) → Gives answer (record_of bytes) → (r : Record) → IsRecord r bytes → Gives answer (Ok r)
only bytes answer given r is = subst (λ (f : Result Record RecordFault). Gives answer f) (of_complete bytes r is) given
