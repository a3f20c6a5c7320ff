-- One more event: what was read, and what is given out for it.
use Rattle.std.proofs.Common.{◌≡◌, ℕ, List, [], ◌∷◌, ◌++◌, append_assoc, append-nil, refl, sym, ap, ◌∙◌}
use Rattle.std.specs.List.{flat_map}
use Rattle.std.proofs.lemmas.Grind.{flat_map-append}
use Rattle.kr_calls.specs.declared.events.Event.{Event}
use Rattle.kr_calls.specs.declared.events.Output.{Output}
use Rattle.kr_defs.specs.declared.options.Options.{Options}
use Rattle.kr_model.specs.Events.{state}
use Rattle.kr_model.specs.Outputs.{outputs, outputs_after, outputs_of, waiting_writes}
use Rattle.kr_stream.specs.Frames.{IsOpen, IsEvent}
use Rattle.kr_session_loop.specs.Session.{Opened, HasRead, all_outputs}
use Rattle.kr_session_loop.proofs.OutputFrames.{each_both, each_one}

-- ---- what was read

pub opened_first : (options : Options) (bytes : List ℕ) → IsOpen options bytes → HasRead (Opened options []) bytes
opened_first options bytes first = record { left = bytes; right = []; is = sym (append-nil bytes); first = first; second = refl }

pub read_further : (options : Options) (events : List Event) (event : Event) (front more : List ℕ) → HasRead (Opened options events) front → IsEvent event more
    → HasRead (Opened options (events ++ event ∷ [])) (front ++ more)
read_further options events event front more read next = record {
  left = read.left;
  right = read.right ++ more;
  is = ap (λ (l : List ℕ). l ++ more) read.is ∙ append_assoc read.left read.right more;
  first = read.first;
  second = each_both IsEvent events (event ∷ []) read.right more read.second (each_one IsEvent event more next);
}

-- ---- what is given out

abbrev pub joined : List (List Output) → List Output
joined given = flat_map (λ (outputs : List Output). outputs) given

pub joined_behind : (given : List (List Output)) (more : List Output) → joined (given ++ more ∷ []) ≡ joined given ++ more
joined_behind given more = flat_map-append (λ (outputs : List Output). outputs) given (more ∷ []) ∙ ap (λ (l : List Output). joined given ++ l) (append-nil more)

module _ (options : Options) where
  outputs_behind : (past events : List Event) (event : Event)
      → outputs_after options past (events ++ event ∷ []) ≡ outputs_after options past events ++ outputs_of options (state options (past ++ events)) (waiting_writes options (past ++ events)) event ∷ []
  outputs_behind past [] event = ap (λ (l : List Event). outputs_of options (state options l) (waiting_writes options l) event ∷ []) (sym (append-nil past))
  outputs_behind past (e ∷ events) event =
      ap (λ (l : List (List Output)). outputs_of options (state options past) (waiting_writes options past) e ∷ l) (outputs_behind (past ++ e ∷ []) events event
      ∙ ap (λ (l : List Event). outputs_after options (past ++ e ∷ []) events ++ outputs_of options (state options l) (waiting_writes options l) event ∷ []) (append_assoc past (e ∷ []) events))

  -- the outputs of one more event come behind those of the events before it
  pub all_behind : (events : List Event) (event : Event)
      → all_outputs options (events ++ event ∷ []) ≡ all_outputs options events ++ outputs_of options (state options events) (waiting_writes options events) event
  all_behind events event = ap joined (outputs_behind [] events event) ∙ joined_behind (outputs options events) (outputs_of options (state options events) (waiting_writes options events) event)
