-- An engine that takes one event after the other, and hands out all outputs of each before the next.
use Rattle.std.specs.Prelude.{◌≡◌, List, [], ◌∷◌, Some}
use Rattle.kr_calls.specs.declared.events.Event.{Event}
use Rattle.kr_calls.specs.declared.events.Output.{Output}
use Rattle.kr_defs.specs.declared.options.Options.{Options}
use Rattle.kr_model.specs.Engine.{Core, Hands, IsEngine, IsStep, outputs_left}
use Rattle.kr_model.specs.Events.{state}
use Rattle.kr_model.specs.Outputs.{outputs, waiting_writes}
use Rattle.kr_model.specs.World.{start}

-- these outputs are handed out, and then none is left
abbrev pub HandsAll : Core → List Output → Core → Type 0
HandsAll before [] after = (outputs_left before ≡ []) × (after ≡ before)
HandsAll before (output ∷ outputs) after = (next : Core) × Hands before next (Some output) × HandsAll next outputs after

-- the events are taken, and of each these outputs are handed out
abbrev pub Runs : Core → List Event → List (List Output) → Core → Type 0
Runs before [] [] after = after ≡ before
Runs before [] (given ∷ others) after = ⊥
Runs before (event ∷ events) [] after = ⊥
Runs before (event ∷ events) (given ∷ others) after =
    (stepped : Core) × (drained : Core) × IsStep before stepped event × HandsAll stepped given drained × Runs drained events others after

-- The outputs are those of the events, and in the end the engine stands for all of them, with the writes that wait.
abbrev pub RunsGiveOutputs : Type 0
RunsGiveOutputs =
    (options : Options) (events : List Event) (given : List (List Output)) (before after : Core) → before.options ≡ options → IsEngine before start [] →
    Runs before events given after → (given ≡ outputs options events) × IsEngine after (state options events) (waiting_writes options events)
