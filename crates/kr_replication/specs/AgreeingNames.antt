-- The names that agree with one (Kafka's Topic.hasCollision: `.` and `_` are one character in metrics), in the order of names.
use Rattle.std.specs.Prelude.{◌≡◌, ℕ, ◌==◌, ◌&&◌, true, List, [], ◌∷◌, ◌++◌, map, Bool, Option, Some, None, IfSome, MatchOption, is_some, nat_lt, unwrap_or, if◌then◌else◌}
use Rattle.std.specs.Option.{option_map}
use Rattle.std.specs.declared.cmp.Ordering.TheVariants.{Less}
use Rattle.kr_defs.specs.Map.{text_order}
use Rattle.kr_defs.specs.Texts.{names_agree}

-- the name stands above the other, where there is one
abbrev pub StandsAbove : Option (List ℕ) → List ℕ → Type 0
StandsAbove after name = IfSome after (λ a. text_order a name ≡ Less)

-- the least of the names that agree with this one and stand above the other, where there is one
pub record IsNextAgreeing (name : List ℕ) (after next : Option (List ℕ)) : Type 0 where
  pub agrees : IfSome next (λ n. (names_agree n name ≡ true) × StandsAbove after n)
  pub least : (y : List ℕ) → names_agree y name ≡ true → StandsAbove after y → MatchOption next ⊥ (λ n. text_order y n ≡ Less → ⊥)

-- ---- byte by byte

-- `_` becomes `.`, the lesser of the two
abbrev pub as_dot : ℕ → ℕ
as_dot byte = if byte == 95 then 46 else byte

-- the least name that agrees
abbrev pub least_agreeing : List ℕ → List ℕ
least_agreeing name = map as_dot name

-- the least byte above the other that may stand for this one
abbrev pub byte_above : ℕ → ℕ → Option ℕ
byte_above byte other =
    if nat_lt other (as_dot byte) then Some (as_dot byte) else (if as_dot byte == 46 && nat_lt other 95 then Some 95 else None)

-- the least name whose first byte is above the other
abbrev pub raised_above : ℕ → List ℕ → ℕ → Option (List ℕ)
raised_above byte name other = option_map (λ first. first ∷ least_agreeing name) (byte_above byte other)

-- the byte before the rest, or the other where there is no rest
abbrev pub continued : ℕ → Option (List ℕ) → Option (List ℕ) → Option (List ℕ)
continued first None other = other
continued first (Some rest) other = Some (first ∷ rest)

-- the least name above the other that agrees
abbrev pub least_above : List ℕ → List ℕ → Option (List ℕ)
least_above [] other = None
least_above (byte ∷ name) [] = Some (least_agreeing (byte ∷ name))
least_above (byte ∷ name) (first ∷ other) =
    if as_dot byte == as_dot first then continued first (least_above name other) (raised_above byte name first) else raised_above byte name first

-- bytes are added where there are some, and it is told whether
abbrev pub AddsBytes : List ℕ → List ℕ → Bool → Option (List ℕ) → Type 0
AddsBytes old new found bytes = (found ≡ is_some bytes) × (new ≡ old ++ unwrap_or bytes [])

-- the same, or the least of all
abbrev pub next_agreeing : List ℕ → Option (List ℕ) → Option (List ℕ)
next_agreeing name None = Some (least_agreeing name)
next_agreeing name (Some other) = least_above name other
