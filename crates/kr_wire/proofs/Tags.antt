-- The law of tagged fields, from what is known of each.
use Rattle.std.proofs.Common.{◌≡◌, ℕ, zero, suc, ◌≤◌, false, ltb, List, [], ◌∷◌, ◌++◌, length, take, drop, Option, Some, None, Result, Ok, refl, sym, ap, subst, ◌∙◌, arith, append_assoc}
use Rattle.std.proofs.lemmas.Bool.{le-ltb, ltb-false}
use Rattle.std.proofs.lemmas.Bool.Decides.{nat_tests}
use Rattle.std.proofs.lemmas.List.{length-append, append-nil, take_at, drop_at, length-take-le, take-append-drop}
use Rattle.kr_wire.specs.declared.WireFault.{WireFault}
use Rattle.kr_wire.specs.declared.WireFault.TheVariants.{Short, BadTag}
use Rattle.kr_wire.specs.Reading.{◌>>=◌, Known, none_known, field_of, is_falling, uvarint_at, tag_at, fields_at, tags_at}
use Rattle.kr_wire.specs.Grammar.{◌⌢◌, Exactly, IsUvarint, Each, AreRising, IsField, IsTags, NoTags}
use Rattle.kr_wire.proofs.ReadingLaws.{IsBytes, IsBytes-behind, IsBytes-before, Yields, Law, bind_ok, guard_ok, read_ok, ok_value, ok_rest, sound_then, sound_guard, sound_done, complete_then}
use Rattle.kr_wire.proofs.Numbers.{uvarint_law}

-- ---- rising tags, as they are tested

pub rises : (last : Option ℕ) (f : ℕ × List ℕ) (fields : List (ℕ × List ℕ)) → is_falling last f.0 ≡ false → AreRising (Some f.0) fields → AreRising last (f ∷ fields)
rises None f fields test rest = rest
rises (Some last) f fields test rest = (grind (arith, nat_tests), rest)

pub first_rises : (last : Option ℕ) (f : ℕ × List ℕ) (fields : List (ℕ × List ℕ)) → AreRising last (f ∷ fields) → is_falling last f.0 ≡ false
first_rises None f fields rising = grind (arith, nat_tests)
first_rises (Some last) f fields rising = let h = rising.0 in grind (arith, nat_tests)

pub others_rise : (last : Option ℕ) (f : ℕ × List ℕ) (fields : List (ℕ × List ℕ)) → AreRising last (f ∷ fields) → AreRising (Some f.0) fields
others_rise None f fields rising = rising
others_rise (Some last) f fields rising = rising.1

-- ---- a tag and a size

record IsTag (last : Option ℕ) (t : ℕ × ℕ) (front : List ℕ) : Type 0 where
  rising : is_falling last t.0 ≡ false
  spelled : (IsUvarint t.0 ⌢ IsUvarint t.1) front

tag_sound : (last : Option ℕ) (bytes : List ℕ) → IsBytes bytes → Yields (IsTag last) bytes (tag_at last bytes)
tag_sound last bytes fits = sound_then uvarint_law (IsTag last) _ bytes fits (λ tag a rest first more.
    sound_guard _ rest (is_falling last tag) BadTag _ (λ rising.
    sound_then uvarint_law _ _ rest more (λ size b end second more.
    sound_guard _ end (ltb (length end) size) Short _ (λ room.
    sound_done _ end (tag, size) (rw append-nil (record { rising = rising; spelled = record { left = a; right = b; is = refl; first = first; second = second } }))))))

tag_room : (last : Option ℕ) (bytes : List ℕ) (t : ℕ × ℕ) (rest : List ℕ) → tag_at last bytes ≡ Ok (t, rest) → t.1 ≤ length rest
tag_room last bytes t rest e =
    let k = bind_ok (uvarint_at bytes) _ (t, rest) e in
    let g = guard_ok (is_falling last k.0.0) BadTag _ (t, rest) k.2 in
    let m = bind_ok (uvarint_at k.0.1) _ (t, rest) g.1 in
    let h = guard_ok (ltb (length m.0.1) m.0.0) Short (read_ok (k.0.0, m.0.0) m.0.1) (t, rest) m.2 in
    let room : m.0.0 ≤ length m.0.1 = ltb-false _ _ h.0 in
    let v : m.0.0 ≡ t.1 = ap (λ (u : ℕ × ℕ). u.1) (ok_value _ _ _ _ h.1) in
    omega (arith, ap length (ok_rest _ _ _ _ h.1))

tag_complete : (last : Option ℕ) (tag size : ℕ) (a b rest : List ℕ) → is_falling last tag ≡ false → IsUvarint tag a → IsUvarint size b → size ≤ length rest
    → tag_at last (a ++ (b ++ rest)) ≡ Ok ((tag, size), rest)
tag_complete last tag size a b rest rising first second room =
    rw (uvarint_law.complete tag a (b ++ rest) first, rising, uvarint_law.complete size b rest second, le-ltb (length rest) size room) refl

-- ---- what the known fields make of a value

abbrev pub run : {X : Type 0} → Known X → X → List (ℕ × List ℕ) → Result X WireFault
run known before [] = Ok before
run known before (f ∷ fields) = field_of (known f.0) before f.1 >>= λ after. run known after fields

abbrev pub AreBytes : List (ℕ × List ℕ) → Type 0
AreBytes [] = Unit {0}
AreBytes (f ∷ fields) = IsBytes f.1 × AreBytes fields

record IsRun {X : Type 0} (known : Known X) (count : ℕ) (last : Option ℕ) (before after : X) (bytes : List ℕ) : Type 0 where
  fields : List (ℕ × List ℕ)
  long : length fields ≡ count
  rising : AreRising last fields
  fit : AreBytes fields
  runs : run known before fields ≡ Ok after
  spelled : Each IsField fields bytes

module _ {X : Type 0} (known : Known X) where
  one_field : (count : ℕ) (last : Option ℕ) (before mid after : X) (tag size : ℕ) (rest front : List ℕ) → size ≤ length rest → IsBytes rest
      → (t : List ℕ) → IsTag last (tag, size) t
      → field_of (known tag) before (take size rest) ≡ Ok mid
      → IsRun known count (Some tag) mid after front
      → IsRun known (suc count) last before after (t ++ (take size rest ++ front))
  one_field count last before mid after tag size rest front room fits t is field run =
      let d : List ℕ = take size rest in
      let j = is.spelled in
      let long : length d ≡ size = length-take-le size rest room in
      let inner : (IsUvarint (length d) ⌢ Exactly d) (j.right ++ d) =
      record { left = j.right; right = d; is = refl; first = subst (λ (n : ℕ). IsUvarint n j.right) (sym long) j.second; second = refl } in
      let field_is : IsField (tag, d) (j.left ++ (j.right ++ d)) = record { left = j.left; right = j.right ++ d; is = refl; first = j.first; second = inner } in
      let regrouped : t ++ (d ++ front) ≡ (j.left ++ (j.right ++ d)) ++ front =
      ap (λ (s : List ℕ). s ++ (d ++ front)) j.is ∙ simp append_assoc in
      record {
        fields = (tag, d) ∷ run.fields;
        long = ap suc run.long;
        rising = rises last (tag, d) run.fields is.rising run.rising;
        fit = (IsBytes-before d (drop size rest) rest (sym (take-append-drop size rest)) fits, run.fit);
        runs = rw field run.runs;
        spelled = record { left = j.left ++ (j.right ++ d); right = front; is = regrouped; first = field_is; second = run.spelled };
      }

  fields_sound : (count : ℕ) (last : Option ℕ) (before : X) (bytes : List ℕ) → IsBytes bytes → Yields (IsRun known count last before) bytes (fields_at known count last before bytes)
  unfolding fields_at
  fields_sound zero last before bytes fits after end e = sound_done (IsRun known 0 last before) bytes before (record { fields = []; long = refl; rising = tt; fit = tt; runs = refl; spelled = refl }) after end e
  fields_sound (suc count) last before bytes fits after end e =
      let k = bind_ok (tag_at last bytes) _ (after, end) e in
      let t = tag_sound last bytes fits k.0.0 k.0.1 k.1 in
      let room = tag_room last bytes k.0.0 k.0.1 k.1 in
      let tag : ℕ = k.0.0.0 in
      let size : ℕ = k.0.0.1 in
      let rest : List ℕ = k.0.1 in
      let more : IsBytes rest = IsBytes-behind t.front rest bytes t.parts fits in
      let m = bind_ok (field_of (known tag) before (take size rest)) _ (after, end) k.2 in
      let split : rest ≡ take size rest ++ drop size rest = sym (take-append-drop size rest) in
      let f = fields_sound count (Some tag) m.0 (drop size rest) (IsBytes-behind (take size rest) (drop size rest) rest split more) after end m.2 in
      record {
        front = t.front ++ (take size rest ++ f.front);
        parts = t.parts ∙ ap (λ (s : List ℕ). t.front ++ s) (split ∙ ap (λ (s : List ℕ). take size rest ++ s) f.parts) ∙ simp append_assoc;
        holds = one_field count last before m.0 after tag size rest f.front room more t.front t.holds m.1 f.holds;
      }

  fields_complete : (fields : List (ℕ × List ℕ)) (last : Option ℕ) (before after : X) (front rest : List ℕ) → AreRising last fields → run known before fields ≡ Ok after
      → Each IsField fields front → fields_at known (length fields) last before (front ++ rest) ≡ Ok (after, rest)
  unfolding fields_at
  fields_complete [] last before after front rest rising runs is =
      let same : before ≡ after = cc in rw (is, same) refl
  fields_complete (f ∷ fields) last before after front rest rising runs is =
      let a : List ℕ = is.first.left in
      let b : List ℕ = is.first.second.left in
      let d : List ℕ = f.1 in
      let more : List ℕ = is.right ++ rest in
      let inner : is.first.right ≡ b ++ d = is.first.second.is ∙ ap (λ (s : List ℕ). b ++ s) is.first.second.second in
      let regrouped : front ++ rest ≡ a ++ (b ++ (d ++ more)) =
      ap (λ (s : List ℕ). s ++ rest) (is.is ∙ ap (λ (s : List ℕ). s ++ is.right) (is.first.is ∙ ap (λ (s : List ℕ). a ++ s) inner)) ∙ simp append_assoc in
      let m = bind_ok (field_of (known f.0) before d) (λ after. run known after fields) after runs in
      let read = tag_complete last f.0 (length d) a b (d ++ more) (first_rises last f fields rising) is.first.first is.first.second.first (omega (arith, length-append d more)) in
      let others = fields_complete fields (Some f.0) m.0 after is.right rest (others_rise last f fields rising) m.2 is.second in
      ap (λ (s : List ℕ). fields_at known (suc (length fields)) last before s) regrouped
      ∙ rw (read, take_at d more (length d) refl, m.1, drop_at d more (length d) refl) others

-- what holds of the fields and the value that they make
pub record Makes {X : Type 0} (known : Known X) (before : X) (Holds : X → List (ℕ × List ℕ) → Type 0) : Type 0 where
  pub sound : (x : X) (fields : List (ℕ × List ℕ)) → AreRising None fields → AreBytes fields → run known before fields ≡ Ok x → Holds x fields
  pub complete : (x : X) (fields : List (ℕ × List ℕ)) → AreRising None fields → Holds x fields → run known before fields ≡ Ok x

pub tags_law : {X : Type 0} {known : Known X} {before : X} {Holds : X → List (ℕ × List ℕ) → Type 0} → Makes known before Holds
    → Law (λ x. IsTags (Holds x)) (tags_at known before)
unfolding tags_at
tags_law {X} {known} {before} {Holds} makes = record {
  sound = λ bytes fits. sound_then uvarint_law (λ x. IsTags (Holds x)) _ bytes fits (λ count a rest first more x end e.
      let f = fields_sound known count None before rest more x end e in
      let r = f.holds in
      record {
        front = f.front;
        parts = f.parts;
        holds = record {
          fields = r.fields;
          rising = r.rising;
          holds = makes.sound x r.fields r.rising r.fit r.runs;
          spelled = record { left = a; right = f.front; is = refl; first = subst (λ (n : ℕ). IsUvarint n a) (sym r.long) first; second = r.spelled };
        };
      });
  complete = λ x bytes rest is. complete_then uvarint_law (length is.fields) (Each IsField is.fields) _ x rest (λ tail second.
      fields_complete known is.fields None before x tail rest is.rising (makes.complete x is.fields is.rising is.holds) second) bytes is.spelled;
}

no_fields : (fields : List (ℕ × List ℕ)) → run none_known tt fields ≡ Ok tt
no_fields [] = refl
no_fields (f ∷ fields) = no_fields fields

pub no_tags_law : Law (λ x. NoTags) (tags_at none_known tt)
no_tags_law = tags_law (record { sound = λ x fields rising fit runs. tt; complete = λ x fields rising holds. no_fields fields })
