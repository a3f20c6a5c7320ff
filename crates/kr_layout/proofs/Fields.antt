-- A tagged field, from the place of its data.
use Rattle.std.proofs.Common.{◌≡◌, ℕ, ◌+◌, ◌-◌, ◌≤◌, List, take, drop, Option, Ok, refl, ap, ◌∙◌, arith}
use Rattle.std.proofs.lemmas.List.{drop-drop}
use Rattle.kr_wire.specs.Reading.{tag_at}
use Rattle.kr_layout.specs.Answers.{field_at}

pub taken : (last : Option ℕ) (bytes : List ℕ) (at number place end : ℕ) → place ≤ end → tag_at last (drop at bytes) ≡ Ok ((number, end - place), drop place bytes)
    → field_at last (drop at bytes) ≡ Ok ((number, take (end - place) (drop place bytes)), drop end bytes)
taken last bytes at number place end le read =
    let d : place + (end - place) ≡ end = omega arith in
    let behind : drop (end - place) (drop place bytes) ≡ drop end bytes = drop-drop (end - place) place bytes ∙ ap (λ (n : ℕ). drop n bytes) d in
    rw (read, behind) refl
