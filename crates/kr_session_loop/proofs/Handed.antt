-- Outputs that an engine hands out, and engines that take one event after the other.
use Rattle.std.proofs.Common.{◌≡◌, ℕ, List, [], ◌∷◌, ◌++◌, Option, Some, None, refl, sym, ap, subst, ◌∙◌}
use Rattle.kr_calls.specs.declared.events.Event.{Event}
use Rattle.kr_calls.specs.declared.events.Output.{Output}
use Rattle.kr_model.specs.declared.writes.Write.{Write}
use Rattle.kr_model.specs.Engine.{Core, Hands, IsEngine, IsSound, IsStep, outputs_left}
use Rattle.kr_model.specs.Entries.{log_entries}
use Rattle.kr_model.specs.Events.{happens}
use Rattle.kr_model.specs.Outputs.{new_writes, outputs_of, waiting_after}
use Rattle.kr_model.specs.Runs.{HandsAll, Runs}
use Rattle.kr_model.specs.World.{State}
use Rattle.kr_session_loop.specs.Endings.{WroteAll, WroteSome}
use Rattle.kr_session_loop.specs.inner.Serving.{Drains, HandsSome}
use Rattle.kr_session_loop.proofs.OutputFrames.{some_behind, some_of_more}

-- ---- some outputs of an event

pub one_more : (a b c : Core) (given : List Output) (output : Output) → HandsSome a given b → Hands b c (Some output) → HandsSome a (given ++ output ∷ []) c
one_more a b c [] output is next = (c, subst (λ (e : Core). Hands e c (Some output)) is next, refl)
one_more a b c (other ∷ given) output (e, first, rest) next = (e, first, one_more e b c given output rest next)

pub left_behind : (a b : Core) (given : List Output) → HandsSome a given b → outputs_left a ≡ given ++ outputs_left b
left_behind a b [] is = ap outputs_left (sym is)
left_behind a b (output ∷ given) (e, first, rest) = first.in_order ∙ ap (λ (l : List Output). output ∷ l) (left_behind e b given rest)

-- one output isn't written whole
pub some_written : (before now after : Core) (given : List Output) (output : Output) (a b c : Option (List ℕ)) → HandsSome before given now → Hands now after (Some output) → WroteAll a b given
    → WroteSome b c (output ∷ []) → WroteSome a c (outputs_left before)
some_written before now after given output a b c some next wrote one =
    subst (WroteSome a c) (sym (left_behind before now given some ∙ ap (λ (l : List Output). given ++ l) next.in_order))
    (some_behind a b c given (output ∷ outputs_left after) wrote (some_of_more b c (output ∷ []) (outputs_left after) one))

-- ---- all of them

all_handed : (a b : Core) (given : List Output) → HandsSome a given b → outputs_left b ≡ [] → HandsAll a given b
all_handed a b [] is none = (ap outputs_left (sym is) ∙ none, is)
all_handed a b (output ∷ given) (e, first, rest) none = (e, first, all_handed e b given rest none)

pub drains : (a b c : Core) (given : List Output) → HandsSome a given b → Hands b c None → Drains a c given
drains a b c given some none = record { last = b; all = all_handed a b given some (none.in_order ∙ none.all refl); none = none }

stands_on : (a b : Core) (given : List Output) → HandsAll a given b → (s : State) (writes : List Write) → IsEngine a s writes → IsEngine b s writes
stands_on a b [] (none, is) s writes k = subst (λ (e : Core). IsEngine e s writes) (sym is) k
stands_on a b (output ∷ given) (e, first, rest) s writes k = stands_on e b given rest s writes (first.stands s writes k)

same_options : (a b : Core) (given : List Output) → HandsAll a given b → b.options ≡ a.options
same_options a b [] (none, is) = ap (λ (e : Core). e.options) is
same_options a b (output ∷ given) (e, first, rest) = same_options e b given rest ∙ first.options

-- ---- events

-- nothing was handed out between
pub step_through : (a b c : Core) (event : Event) → Hands a b None → IsStep b c event → IsStep a c event
step_through a b c event none step = record {
  options = step.options ∙ none.options;
  stands = λ s writes k. subst (λ o. IsEngine c (happens o s event) (waiting_after o s writes event)) none.options (step.stands s writes (none.stands s writes k));
  outputs = λ s writes k. step.outputs s writes (none.stands s writes k) ∙ ap (λ o. outputs_of o s writes event) none.options;
  held = λ s writes k. step.held s writes (none.stands s writes k) ∙ ap (λ o. writes ++ new_writes o s event) none.options;
  fresh = λ s writes k. step.fresh s writes (none.stands s writes k) ∙ ap (λ o. log_entries o s event) none.options;
}

pub run_further : (a b stepped c : Core) (events : List Event) (given : List (List Output)) (event : Event) (outputs : List Output) → Runs a events given b → IsStep b stepped event → HandsAll stepped outputs c
    → Runs a (events ++ event ∷ []) (given ++ outputs ∷ []) c
run_further a b stepped c [] [] event outputs is step all = (stepped, c, subst (λ (e : Core). IsStep e stepped event) is step, all, refl)
run_further a b stepped c [] (other ∷ given) event outputs is step all = absurd is
run_further a b stepped c (e ∷ events) [] event outputs is step all = absurd is
run_further a b stepped c (e ∷ events) (other ∷ given) event outputs (s, d, first, handed, rest) step all =
    (s, d, first, handed, run_further d b stepped c events given event outputs rest step all)

pub runs_options : (a b : Core) (events : List Event) (given : List (List Output)) → Runs a events given b → b.options ≡ a.options
runs_options a b [] [] is = ap (λ (e : Core). e.options) is
runs_options a b [] (other ∷ given) is = absurd is
runs_options a b (e ∷ events) [] is = absurd is
runs_options a b (e ∷ events) (other ∷ given) (s, d, first, handed, rest) = runs_options d b events given rest ∙ (same_options s d other handed ∙ first.options)

-- behind an event whose outputs are all handed out
pub sound_behind : (a stepped b : Core) (event : Event) (given : List Output) → IsSound a → IsStep a stepped event → Drains stepped b given → IsSound b × (outputs_left b ≡ [])
sound_behind a stepped b event given sound step d =
    let s = happens a.options sound.state event in
    let writes = waiting_after a.options sound.state sound.writes event in (
      record { state = s; writes = writes; stands = d.none.stands s writes (stands_on stepped d.last given d.all s writes (step.stands sound.state sound.writes sound.stands)) },
      d.none.all refl,
    )
