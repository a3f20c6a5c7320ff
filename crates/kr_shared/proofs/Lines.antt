-- Who waits, and what is due.
use Rattle.std.proofs.Common.{◌≡◌, ◌∙◌, sym, ap, refl, ℕ, ◌+◌, Bool, true, false, List, [], ◌∷◌, ◌++◌, length, map, arith}
use Rattle.std.specs.Prelude.{Option, Some, None, is_some, not, option_to_list}
use Rattle.std.proofs.lemmas.List.{append-nil, map-append}
use Rattle.kr_calls.specs.declared.events.Entry.{Entry}
use Rattle.kr_shared.specs.declared.asked.Asked.{Asked}
use Rattle.kr_shared.specs.declared.line.Note.{Note}
use Rattle.kr_shared.specs.Lines.{entries_of, line_entry}

pub one_more_due : (notes : List Note) (note : Note) → entries_of (notes ++ note ∷ []) ≡ entries_of notes ++ line_entry note ∷ []
one_more_due notes note = map-append line_entry notes (note ∷ [])

pub none_newest : (q : Option Asked) → not (is_some q) ≡ true → q ≡ None
none_newest None is = refl
none_newest (Some a) is = absurd cc

pub enters : (waiting : List Asked) (q : Option Asked) (a : Asked) → not (is_some q) ≡ true → waiting ++ a ∷ [] ≡ (waiting ++ option_to_list q) ++ a ∷ []
enters waiting None a is = ap (λ (l : List Asked). l ++ a ∷ []) (sym (append-nil waiting))
enters waiting (Some b) a is = absurd cc

pub waits_more : (n : ℕ) (q : Option Asked) → not (is_some q) ≡ true → n + 1 ≡ (n + length (option_to_list q)) + 1
waits_more n None is = omega arith
waits_more n (Some b) is = absurd cc

pub ruleset lining = (one_more_due, none_newest, enters, waits_more)
