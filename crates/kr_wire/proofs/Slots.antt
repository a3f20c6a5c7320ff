-- Each part of a value from the data of its tag.
use Rattle.std.proofs.Common.{◌≡◌, ℕ, ◌<◌, ◌≤◌, Bool, true, false, cond, eqb, ltb, List, [], ◌∷◌, length, Option, Some, None, Result, Ok, Err, refl, sym, ap, subst, ◌∙◌, arith}
use Rattle.std.proofs.lemmas.Bool.Decides.{nat_tests}
use Rattle.kr_wire.specs.declared.WireFault.{WireFault}
use Rattle.kr_wire.specs.declared.WireFault.TheVariants.{Short, Overlong, TooBig, BadTag, BadText, BadNull}
use Rattle.kr_wire.specs.Reading.{Read, Known, field_of, whole_field}
use Rattle.kr_wire.specs.Grammar.{AreRising, data_of, given, IfTagged}
use Rattle.kr_wire.proofs.ReadingLaws.{IsBytes, bind_ok, guard_ok, is_ok, nothing}
use Rattle.kr_wire.proofs.Tags.{run, AreBytes, others_rise}

-- ---- all of the data

pub whole_ok : {X : Type 0} (r : Read X) (x : X) → whole_field r ≡ Ok x → r ≡ Ok (x, [])
whole_ok (Ok y) x e =
    let g = guard_ok (ltb 0 (length y.1)) BadTag (Ok y.0) x e in
    let same : y.0 ≡ x = is_ok _ _ g.1 in
    let end : y.1 ≡ [] = nothing y.1 g.0 in
    rw (← same, ← end) refl
whole_ok (Err Short) x e = absurd cc
whole_ok (Err Overlong) x e = absurd cc
whole_ok (Err TooBig) x e = absurd cc
whole_ok (Err BadTag) x e = absurd cc
whole_ok (Err BadText) x e = absurd cc
whole_ok (Err BadNull) x e = absurd cc

abbrev pub Opens : {X : Type 0} → Option (X → List ℕ → Result X WireFault) → List ℕ → Type 0
Opens {X} known d = (before : X) → (after : X) × (field_of known before d ≡ Ok after)

-- what a field leaves of the value
abbrev pub Keeps : {X V : Type 0} → (X → V) → Option (X → List ℕ → Result X WireFault) → Type 0
Keeps {X} get known = (before after : X) (d : List ℕ) → field_of known before d ≡ Ok after → get after ≡ get before

-- ---- one part of the value

data_above : (last tag : ℕ) (fields : List (ℕ × List ℕ)) (d : List ℕ) → AreRising (Some last) fields → data_of tag fields ≡ Some d → last < tag
data_above last tag [] d rising e = absurd cc
data_above last tag (f ∷ fields) d rising e =
    let P : Bool → Type 0 = λ b. eqb f.0 tag ≡ b → cond b (Some f.1) (data_of tag fields) ≡ Some d → last < tag in
    let step : P (eqb f.0 tag) = elim (eqb f.0 tag) as P [
      | true ↦ λ same e. let h : last < f.0 = rising.0 in let k : f.0 ≡ tag = grind (arith, nat_tests) in omega arith
      | false ↦ λ other e. let h : last < f.0 = rising.0 in let k = data_above f.0 tag fields d rising.1 e in omega arith
    ] in
    step refl e

module _ {X V : Type 0} (known : Known X) (tag : ℕ) (get : X → V) (Is : V → List ℕ → Type 0) where
  pub record IsSlot : Type 0 where
    pub sets : (before after : X) (d : List ℕ) → IsBytes d → field_of (known tag) before d ≡ Ok after → Is (get after) d
    pub gives : (before after : X) (d : List ℕ) (v : V) → Is v d → field_of (known tag) before d ≡ Ok after → get after ≡ v
    pub keeps : (other : ℕ) → (eqb other tag ≡ false) → Keeps get (known other)

  kept : IsSlot → (fields : List (ℕ × List ℕ)) (last : ℕ) → tag ≤ last → AreRising (Some last) fields → (before after : X) → run known before fields ≡ Ok after → get after ≡ get before
  kept slot [] last le rising before after e = ap get (sym (is_ok _ _ e))
  kept slot (f ∷ fields) last le rising before after e =
      let above : last < f.0 = rising.0 in
      let m = bind_ok (field_of (known f.0) before f.1) (λ mid. run known mid fields) after e in
      let other : eqb f.0 tag ≡ false = grind (arith, nat_tests) in
      let later : get after ≡ get m.0 = kept slot fields f.0 (omega arith) rising.1 m.0 after m.2 in
      later ∙ slot.keeps f.0 other before m.0 f.1 m.1

  pub slot_sound : IsSlot → (fields : List (ℕ × List ℕ)) (last : Option ℕ) → AreRising last fields → AreBytes fields → (before after : X) → run known before fields ≡ Ok after
      → IfTagged tag (Is (get after)) (get after ≡ get before) fields
  slot_sound slot [] last rising fit before after e = ap get (sym (is_ok _ _ e))
  slot_sound slot (f ∷ fields) last rising fit before after e =
      let m = bind_ok (field_of (known f.0) before f.1) (λ mid. run known mid fields) after e in
      let mid : X = m.0 in
      let field : field_of (known f.0) before f.1 ≡ Ok mid = m.1 in
      let others : run known mid fields ≡ Ok after = m.2 in
      let up = others_rise last f fields rising in
      let P : Bool → Type 0 = λ b. eqb f.0 tag ≡ b → given (cond b (Some f.1) (data_of tag fields)) (Is (get after)) (get after ≡ get before) in
      let step : P (eqb f.0 tag) = elim (eqb f.0 tag) as P [
        | true ↦ λ e.
            let same : f.0 ≡ tag = grind (arith, nat_tests) in
            let field' : field_of (known tag) before f.1 ≡ Ok mid = subst (λ (t : ℕ). field_of (known t) before f.1 ≡ Ok mid) same field in
            let later : get after ≡ get mid = kept slot fields f.0 (omega arith) up mid after others in
            subst (λ (v : V). Is v f.1) (sym later) (slot.sets before mid f.1 fit.0 field')
        | false ↦ λ e.
            let kept_here : get mid ≡ get before = slot.keeps f.0 e before mid f.1 field in
            subst (λ (v : V). given (data_of tag fields) (Is (get after)) (get after ≡ v)) kept_here (slot_sound slot fields (Some f.0) up fit.1 mid after others)
      ] in
      step refl

  pub slot_complete : IsSlot → (fields : List (ℕ × List ℕ)) (last : Option ℕ) → AreRising last fields → (before after : X) (v : V) → run known before fields ≡ Ok after
      → IfTagged tag (Is v) (v ≡ get before) fields → get after ≡ v
  slot_complete slot [] last rising before after v e h = ap get (sym (is_ok _ _ e)) ∙ sym h
  slot_complete slot (f ∷ fields) last rising before after v e h =
      let m = bind_ok (field_of (known f.0) before f.1) (λ mid. run known mid fields) after e in
      let mid : X = m.0 in
      let field : field_of (known f.0) before f.1 ≡ Ok mid = m.1 in
      let others : run known mid fields ≡ Ok after = m.2 in
      let up = others_rise last f fields rising in
      let P : Bool → Type 0 = λ b. eqb f.0 tag ≡ b → given (cond b (Some f.1) (data_of tag fields)) (Is v) (v ≡ get before) → get after ≡ v in
      let step : P (eqb f.0 tag) = elim (eqb f.0 tag) as P [
        | true ↦ λ e is.
            let same : f.0 ≡ tag = grind (arith, nat_tests) in
            let field' : field_of (known tag) before f.1 ≡ Ok mid = subst (λ (t : ℕ). field_of (known t) before f.1 ≡ Ok mid) same field in
            kept slot fields f.0 (omega arith) up mid after others ∙ slot.gives before mid f.1 v is field'
        | false ↦ λ e is.
            let kept_here : get mid ≡ get before = slot.keeps f.0 e before mid f.1 field in
            slot_complete slot fields (Some f.0) up mid after v others (subst (λ (w : V). given (data_of tag fields) (Is v) (v ≡ w)) (sym kept_here) is)
      ] in
      step refl h

-- ---- and all of it

pub reads_all : {X : Type 0} (known : Known X) (fields : List (ℕ × List ℕ)) (last : Option ℕ) → AreRising last fields
    → ((tag : ℕ) (d : List ℕ) → data_of tag fields ≡ Some d → Opens (known tag) d) → (before : X) → (after : X) × (run known before fields ≡ Ok after)
reads_all known [] last rising opens before = (before, refl)
reads_all {X} known (f ∷ fields) last rising opens before =
    let up = others_rise last f fields rising in
    let here : data_of f.0 (f ∷ fields) ≡ Some f.1 = let e : eqb f.0 f.0 ≡ true = grind (arith, nat_tests) in rw e refl in
    let m = opens f.0 f.1 here before in
    let behind : (tag : ℕ) (d : List ℕ) → data_of tag fields ≡ Some d → Opens (known tag) d =
    λ tag d e. opens tag d (let above = data_above f.0 tag fields d up e in let other : eqb f.0 tag ≡ false = grind (arith, nat_tests) in rw other e) in
    let n = reads_all known fields (Some f.0) up behind m.0 in
    (n.0, rw m.1 n.1)
