-- The writes that wait after one event more.
use Rattle.std.proofs.Common.{◌≡◌, ◌∙◌, sym, Bool, true, false, cond, List, [], ◌∷◌, ◌++◌, refl, ap}
use Rattle.std.proofs.lemmas.List.{append_assoc, append-nil}
use Rattle.std.proofs.lemmas.List.Elements.{filter-append}
use Rattle.std.proofs.lemmas.Grind.{fold-append}
use Rattle.std.specs.Prelude.{filter, fold}
use Rattle.std.specs.List.{AllByRecursion}
use Rattle.kr_calls.specs.declared.events.Event.{Event}
use Rattle.kr_defs.specs.declared.options.Options.{Options}
use Rattle.kr_model.specs.Events.{happens, state}
use Rattle.kr_model.specs.Outputs.{is_open_in, new_writes, waiting_writes, waiting_after, writes_from}
use Rattle.kr_model.specs.World.{State, start}

module _ (options : Options) where
  pub state_more : (past : List Event) (event : Event) → state options (past ++ event ∷ []) ≡ happens options (state options past) event
  state_more past event = fold-append (happens options) start past (event ∷ [])

  pub writes_more : (s : State) (past : List Event) (event : Event)
      → writes_from options s (past ++ event ∷ []) ≡ writes_from options s past ++ new_writes options (fold (happens options) s past) event
  writes_more s [] event = append-nil (new_writes options s event)
  writes_more s (first ∷ past) event =
      ap (λ rest. new_writes options s first ++ rest) (writes_more (happens options s first) past event)
      ∙ sym (append_assoc (new_writes options s first) (writes_from options (happens options s first) past) (new_writes options (fold (happens options) (happens options s first) past) event))

-- what the second test takes was taken by the first one before
module _ {X : Type 0} (p q : X → Bool) where
  taken_by : (b c : Bool) (x : X) (xs ys : List X) → p x ≡ b → q x ≡ c → (c ≡ true → b ≡ true) → filter q xs ≡ filter q ys
      → cond c (x ∷ filter q xs) (filter q xs) ≡ filter q (cond b (x ∷ ys) ys)
  taken_by true true x xs ys _ is h same = ap (λ rest. x ∷ rest) same ∙ sym (ap (λ c. cond c (x ∷ filter q ys) (filter q ys)) is)
  taken_by true false x xs ys _ is h same = same ∙ sym (ap (λ c. cond c (x ∷ filter q ys) (filter q ys)) is)
  taken_by false true x xs ys _ is h same = let both : false ≡ true = h refl in absurd cc
  taken_by false false x xs ys _ is h same = same

  pub taken_before : (xs : List X) → AllByRecursion (λ x. q x ≡ true → p x ≡ true) xs → filter q xs ≡ filter q (filter p xs)
  taken_before [] all = refl
  taken_before (x ∷ xs) all = taken_by (p x) (q x) x xs (filter p xs) refl refl all.0 (taken_before xs all.1)

module _ (options : Options) (past : List Event) (event : Event) where
  abbrev before : State
  before = state options past

  pub waiting_more : AllByRecursion (λ write. is_open_in (happens options before event).world write ≡ true → is_open_in before.world write ≡ true) (writes_from options start past)
      → waiting_writes options (past ++ event ∷ []) ≡ waiting_after options before (waiting_writes options past) event
  waiting_more closed =
      let q = is_open_in (happens options before event).world in
      ap (λ (s : State). filter (is_open_in s.world) (writes_from options start (past ++ event ∷ []))) (state_more options past event)
      ∙ (ap (filter q) (writes_more options start past event)
      ∙ (filter-append q (writes_from options start past) (new_writes options before event)
      ∙ (ap (λ rest. rest ++ filter q (new_writes options before event)) (taken_before (is_open_in before.world) q (writes_from options start past) closed)
      ∙ sym (filter-append q (waiting_writes options past) (new_writes options before event)))))
