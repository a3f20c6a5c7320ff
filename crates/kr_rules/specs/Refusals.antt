-- What code answers of an entry, beside what its rule says.
use Rattle.std.specs.Prelude.{◌≡◌, ℤ, Result, Ok, Err}
use Rattle.kr_rules.specs.declared.refusal.Refusal.{Refusal}
use Rattle.kr_rules.specs.declared.refusal.Refusal.TheVariants as refusals

-- the rule refuses with the same number; want of memory says nothing
abbrev pub IsRefusal : {D : Type 0} → Refusal → Result D ℤ → Type 0
IsRefusal (refusals.Error error) meaning = meaning ≡ Err error
IsRefusal refusals.NoMemory meaning = Unit {0}

-- the rule says the same
abbrev pub Judges : {D : Type 0} → Result D Refusal → Result D ℤ → Type 0
Judges (Ok draft) meaning = meaning ≡ Ok draft
Judges (Err refusal) meaning = IsRefusal refusal meaning

-- there is a number, of which this is true
abbrev pub IfError : Refusal → (ℤ → Type 0) → Type 0
IfError (refusals.Error error) P = P error
IfError refusals.NoMemory P = ⊥
