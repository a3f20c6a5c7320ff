-- An engine hands out one output more, or none.
use Rattle.std.proofs.Common.{◌≡◌, ◌∙◌, sym, ℕ, List, [], ◌∷◌, ◌++◌, map, refl, ap}
use Rattle.std.specs.Prelude.{Option, Some, None, option_to_list}
use Rattle.kr_calls.specs.declared.events.Output.{Output}
use Rattle.kr_model.specs.declared.writes.Told.{Told as Output_}
use Rattle.kr_model.specs.declared.writes.Write.{Write}
use Rattle.kr_model.specs.Engine.{Core, Hands, HandsTold, outputs_left, told_left}
use Rattle.kr_model.specs.Outputs.{due_reply, due_writes, told_alone, told_answers, told_reply}
use Rattle.kr_model.proofs.Queues.{drained}
use Rattle.kr_nodes.specs.inner.Handing.{Handed, HandsOut, HandsPart, after_output, after_outputs}

pub goes_on : (node : ℕ) (first now next : Core) (h h' h'' : Handed) (output : Output_) → HandsPart node first now h h' → Hands now next (Some output.output) → HandsTold now next (Some output)
    → h'' ≡ after_output node h' output → HandsPart node first next h h''
goes_on node first now next h h' h'' output some hands tells is = record {
  options = hands.options ∙ some.options;
  stands = λ s writes k. hands.stands s writes (some.stands s writes k);
  so_far =
      ap (λ (g : Handed). after_outputs node g (told_left next)) is
      ∙ (ap (λ (os : List Output_). after_outputs node h' os) (sym tells) ∙ some.so_far);
}

none_told : (e : Core) → outputs_left e ≡ [] → told_left e ≡ []
none_told e none =
    let d = drained e none in
    ap (λ (os : List Output). map told_alone (os ++ option_to_list e.refusal) ++ told_answers e.leading e.closed e.held) d.none_given
    ∙ (ap (λ (o : Option Output). map told_alone (option_to_list o) ++ told_answers e.leading e.closed e.held) d.none_refused
    ∙ none_due (due_writes e.leading e.closed e.held) d.none_due)
  where
    none_due : (ws : List Write) → map (due_reply e.closed) ws ≡ [] → map (told_reply e.closed) ws ≡ []
    none_due [] is = refl
    none_due (w ∷ ws) is = absurd cc

pub ends : (node : ℕ) (first now next : Core) (h h' : Handed) → HandsPart node first now h h' → Hands now next None → HandsOut node first next h h'
ends node first now next h h' some hands =
    let none = hands.all refl in
    record {
      options = hands.options ∙ some.options;
      stands = λ s writes k. hands.stands s writes (some.stands s writes k);
      drained = none;
      all = sym (ap (λ (os : List Output_). after_outputs node h' os) (none_told now (hands.in_order ∙ none))) ∙ some.so_far;
    }
