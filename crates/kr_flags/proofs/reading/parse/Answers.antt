use Rattle.std.proofs.Common.{◌≡◌, ◌∙◌, true, false, Bool, map, refl, sym, ap, ap₂}
use Rattle.clap.proofs.WalkLemmas.{first_value-rows}
use Rattle.clap.specs.Words.{first_of, matches_of, found_of, fault_of, is_simple, is_simple_and_free, takes}
use Rattle.std.specs.Prelude.{Result, Ok, Err}
use Rattle.kr_flags.specs.declared.told.SettingsFault.TheVariants.{Refused}
use Rattle.kr_flags.specs.Words as spec
use Rattle.kr_flags.proofs.Taken.{taken}
use Rattle.kr_flags.proofs.reading.parse.Goals as goal

simple : is_simple spec.kr_daemon ≡ true
simple = refl

free : is_simple_and_free spec.kr_daemon ≡ true
free = refl

pub returns-in-Ok-clause-values : goal.returns-in-Ok-clause-values
returns-in-Ok-clause-values c = λ name.
    let rows = (c.in-Ok.ensures.matches (ap is_simple c.in_ok-command.ensures.app ∙ simple)).0 in
    first_value-rows (found_of c.in-Ok.matches) name ∙ ap (first_of name) (rows ∙ ap₂ matches_of c.in_ok-command.ensures.app refl)

pub returns-in-Ok-clause-taken : goal.returns-in-Ok-clause-taken
returns-in-Ok-clause-taken c =
    let words = map (λ s. s.now) c.args.words.now in
    let none = sym (ap (λ app. fault_of app words) c.in_ok-command.ensures.app) ∙ c.in-Ok.ensures.kinds (ap is_simple_and_free c.in_ok-command.ensures.app ∙ free) in
    record { taken = taken spec.kr_daemon words simple refl refl refl none; faultless = none }

refuted : (b : Bool) {P : Type 0} → (b ≡ true → P) → (P → ⊥) → b ≡ false
refuted false h never = refl
refuted true h never = absurd (never (h refl))

abbrev err_of : {T E : Type 0} → E → Result T E → E
err_of other (Ok x) = other
err_of other (Err e) = e

pub returns-in-Err-clause-refused : goal.returns-in-Err-clause-refused
returns-in-Err-clause-refused c = λ refused.
    let same = ap (λ app. takes app (map (λ s. s.now) c.args.words.now)) c.in_ok-command.ensures.app in
    refuted (takes spec.kr_daemon (map (λ s. s.now) c.args.words.now)) (λ taken. c.in-Err.ensures.passes (same ∙ taken)) (c.fault_of.ensures (ap (err_of Refused) refused))
