-- Chains of arguments by their ids.
use Rattle.std.proofs.Common.{◌≡◌, ◌∙◌, ◌<◌, ◌||◌, ℕ, zero, suc, Bool, true, false, not, ◌&&◌, List, [], ◌∷◌, map, length, codes, refl, sym, ap, inl, inr, arith}
use Rattle.std.specs.List.{list_any, slice_index_or}
use Rattle.std.specs.Str.{bytes_eq}
use Rattle.std.proofs.lemmas.Slice.Eq.{bytes_eq-Decides}
use Rattle.clap.specs.Built.{FitsChain, HasDistinctIds, TakesValue}
use Rattle.clap.specs.declared.builder.arg.Arg.{Arg}
use Rattle.clap.specs.Walk.{Rule}
use Rattle.kr_flags.specs.Words.{IsOption}

abbrev pub id_of : Arg → List ℕ
id_of a = a.id.now

-- each id stands once
abbrev pub are_distinct : List (List ℕ) → Bool
are_distinct [] = true
are_distinct (id ∷ ids) = not (list_any (bytes_eq id) ids) && are_distinct ids

-- not empty, and not one that a command has of its own
abbrev pub is_own : List ℕ → Bool
is_own id = not (bytes_eq id []) && (not (bytes_eq id (codes "help")) && not (bytes_eq id (codes "version")))

-- ---- booleans

and_left : (a b : Bool) → (a && b) ≡ true → a ≡ true
and_left true b h = refl
and_left false b h = h

and_right : (a b : Bool) → (a && b) ≡ true → b ≡ true
and_right true b h = h
and_right false true h = refl
and_right false false h = h

not_both : (a : Bool) → not a ≡ true → a ≡ true → ⊥
not_both true h e = cc
not_both false h e = cc

or_here : (a b : Bool) → a ≡ true → (a || b) ≡ true
or_here true b h = refl
or_here false b h = cc

or_there : (a b : Bool) → b ≡ true → (a || b) ≡ true
or_there true b h = refl
or_there false b h = h

-- ---- ids

same_ids : (x y : List ℕ) → bytes_eq x y ≡ true → bytes_eq y x ≡ true
same_ids x y h = (bytes_eq-Decides y x).1 (sym ((bytes_eq-Decides x y).0 h))

differs : (id other : List ℕ) → not (bytes_eq id other) ≡ true → id ≡ other → ⊥
differs id other h e = not_both (bytes_eq id other) h ((bytes_eq-Decides id other).1 e)

found_any : (p : List ℕ → Bool) (xs : List Arg) (k : ℕ) (d : Arg) → k < length xs → p (id_of (slice_index_or xs k d)) ≡ true → list_any p (map id_of xs) ≡ true
found_any p [] k d lt hit = absurd (omega arith)
found_any p (x ∷ xs) zero d lt hit = or_here _ _ hit
found_any p (x ∷ xs) (suc k) d lt hit = or_there _ _ (found_any p xs k d (omega arith) hit)

pub distinct : (xs : List Arg) → are_distinct (map id_of xs) ≡ true → HasDistinctIds xs
distinct [] h j k d e low lt same = absurd (omega arith)
distinct (x ∷ xs) h zero zero d e low lt same = refl
distinct (x ∷ xs) h zero (suc k) d e low lt same =
    absurd (not_both _ (and_left _ _ h) (found_any (bytes_eq (id_of x)) xs k d (omega arith) same))
distinct (x ∷ xs) h (suc j) zero d e low lt same =
    absurd (not_both _ (and_left _ _ h) (found_any (bytes_eq (id_of x)) xs j e (omega arith) (same_ids (id_of (slice_index_or xs j e)) (id_of x) same)))
distinct (x ∷ xs) h (suc j) (suc k) d e low lt same =
    ap suc (distinct xs (and_right _ _ h) j k d e (omega arith) (omega arith) same)

pub fits : (rule : Rule) (a : Arg) → IsOption rule a → is_own rule.id ≡ true → FitsChain a
fits rule a o own =
    let same : id_of a ≡ rule.id = ap (λ (r : Rule). r.id) o.same in
    let empty? = not (bytes_eq rule.id []) in
    let help? = not (bytes_eq rule.id (codes "help")) in
    let version? = not (bytes_eq rule.id (codes "version")) in
    let others = and_right empty? (help? && version?) own in (
      o.plain,
      o.local,
      (λ empty. differs rule.id [] (and_left empty? (help? && version?) own) (sym same ∙ empty)),
      (λ auto. elim auto [
        | inl h ↦ differs rule.id (codes "help") (and_left help? version? others) (sym same ∙ h)
        | inr h ↦ differs rule.id (codes "version") (and_right help? version? others) (sym same ∙ h)
      ]),
    )

pub takes_value : (rule : Rule) (a : Arg) → IsOption rule a → rule.required ≡ true → TakesValue a
takes_value rule a o needed = (ap (λ (r : Rule). r.required) o.same ∙ needed, o.action, o.delim, o.least)
