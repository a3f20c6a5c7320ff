-- What was handed out so far, and then all of it.
use Rattle.std.proofs.Common.{◌≡◌, ◌∙◌, sym, ℕ, ℤ, List, [], ◌∷◌, ◌++◌, map, length, refl, ap, ◌<◌, arith}
use Rattle.std.specs.Prelude.{Option, Some, None, option_to_list}
use Rattle.std.proofs.lemmas.List.{append_assoc, append-nil, map-append}
use Rattle.kr_calls.specs.declared.events.Output.{Output}
use Rattle.kr_model.specs.declared.writes.Told.{Told}
use Rattle.kr_model.specs.declared.writes.Write.{Write}
use Rattle.kr_model.specs.Engine.{Core, Hands, IsEngine, HandsTold, output_of, outputs_left, told_left}
use Rattle.kr_model.specs.Outputs.{due_reply, due_writes, told_alone, told_answers, told_reply}
use Rattle.kr_model.specs.World.{State}
use Rattle.kr_shared.specs.Takes.{IsEmptied}

pub record IsFront (before now : Core) (told : List Told) : Type 0 where
  pub options : now.options ≡ before.options
  pub all : told_left before ≡ told ++ told_left now
  pub fresh : now.fresh ≡ before.fresh
  pub stands : (s : State) (writes : List Write) → IsEngine before s writes → IsEngine now s writes

pub nothing_yet : (e : Core) → IsFront e e []
nothing_yet e = record { options = refl; all = refl; fresh = refl; stands = λ s writes k. k }

pub one_more : (before now after : Core) (told : List Told) (t : Told) → IsFront before now told → Hands now after (output_of (Some t)) → HandsTold now after (Some t) → IsFront before after (told ++ t ∷ [])
one_more before now after told t f h tells = record {
  options = h.options ∙ f.options;
  all = f.all ∙ (ap (λ (l : List Told). told ++ l) tells ∙ sym (append_assoc told (t ∷ []) (told_left after)));
  fresh = h.fresh ∙ f.fresh;
  stands = λ s writes k. h.stands s writes (f.stands s writes k);
}

outputs_alone : (outputs : List Output) → map (λ (t : Told). t.output) (map told_alone outputs) ≡ outputs
outputs_alone [] = refl
outputs_alone (output ∷ outputs) = ap (λ (l : List Output). output ∷ l) (outputs_alone outputs)

pub outputs_due : (end : ℤ) (writes : List Write) → map (λ (t : Told). t.output) (map (told_reply end) writes) ≡ map (due_reply end) writes
outputs_due end [] = refl
outputs_due end (w ∷ writes) = ap (λ (l : List Output). due_reply end w ∷ l) (outputs_due end writes)

pub outputs_told : (e : Core) → map (λ (t : Told). t.output) (told_left e) ≡ outputs_left e
outputs_told e =
    map-append (λ (t : Told). t.output) (map told_alone (e.given ++ option_to_list e.refusal)) (told_answers e.leading e.closed e.held)
    ∙ (ap (λ (l : List Output). l ++ map (λ (t : Told). t.output) (told_answers e.leading e.closed e.held)) (outputs_alone (e.given ++ option_to_list e.refusal))
    ∙ ap (λ (l : List Output). (e.given ++ option_to_list e.refusal) ++ l) (outputs_due e.closed (due_writes e.leading e.closed e.held)))

none_told : (told : List Told) → map (λ (t : Told). t.output) told ≡ [] → told ≡ []
none_told [] is = refl
none_told (t ∷ told) is = absurd cc

pub emptied : (before now after : Core) (told : List Told) → IsFront before now told → Hands now after None → IsEmptied before after told
emptied before now after told f h =
    let left : outputs_left now ≡ [] = h.in_order ∙ h.all refl in
    let none : told_left now ≡ [] = none_told (told_left now) (outputs_told now ∙ left) in
    let all : told ≡ told_left before = sym (f.all ∙ (ap (λ (l : List Told). told ++ l) none ∙ append-nil told)) in record {
      options = h.options ∙ f.options;
      all = all;
      outputs = ap (map (λ (t : Told). t.output)) all ∙ outputs_told before;
      none = h.all refl;
      fresh = h.fresh ∙ f.fresh;
      stands = λ s writes k. h.stands s writes (f.stands s writes k);
    }

pub fewer_left : (now after : Core) (t : Told) → Hands now after (output_of (Some t)) → length (outputs_left after) < length (outputs_left now)
fewer_left now after t h = let n = ap length h.in_order in omega (arith, n)

pub ruleset handing_out = (nothing_yet, one_more, emptied, fewer_left)
