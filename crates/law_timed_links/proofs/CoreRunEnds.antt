-- A run of cores, and one more event behind it.
use Rattle.std.proofs.Common.{◌≡◌, ◌∙◌, sym, List, [], ◌∷◌, ◌++◌, refl, ap, subst, ℕ}
use Rattle.std.proofs.lemmas.List.{append_assoc, append-nil}
use Rattle.std.proofs.lemmas.List.Sums.{fold-append}
use Rattle.std.specs.Prelude.{fold}
use Rattle.law_quorum.specs.Batches.{Batch}
use Rattle.law_link.specs.Frames.{Network, NetworkStep, network_after, no_network}
use Rattle.law_link.specs.Refusals.{AllRise}
use Rattle.law_core.specs.Runs.{AllMayCome, CoreRun, Event, MayCome, all_steps, no_run, run_after, steps_of}

abbrev pub run_of : List Event → CoreRun
run_of events = fold run_after no_run events

pub network_is : (r : CoreRun) (events : List Event) → fold network_after r.network (all_steps r events) ≡ (fold run_after r events).network
network_is r [] = refl
network_is r (event ∷ events) =
    fold-append network_after r.network (steps_of r event) (all_steps (run_after r event) events) ∙ network_is (run_after r event) events

steps_both : (r : CoreRun) (some more : List Event) → all_steps r (some ++ more) ≡ all_steps r some ++ all_steps (fold run_after r some) more
steps_both r [] more = refl
steps_both r (event ∷ some) more =
    ap (λ (steps : List NetworkStep). steps_of r event ++ steps) (steps_both (run_after r event) some more)
    ∙ sym (append_assoc (steps_of r event) (all_steps (run_after r event) some) (all_steps (fold run_after r (event ∷ some)) more))

rise_both : (n : Network) (some more : List NetworkStep) → AllRise n some → AllRise (fold network_after n some) more → AllRise n (some ++ more)
rise_both n [] more a b = b
rise_both n (step ∷ some) more (here, a) b = (here, rise_both (network_after n step) some more a b)

module _ (make : List Batch → List ℕ) where
  may_both : (r : CoreRun) (some more : List Event) → AllMayCome make r some → AllMayCome make (fold run_after r some) more → AllMayCome make r (some ++ more)
  may_both r [] more a b = b
  may_both r (event ∷ some) more (here, a) b = (here, may_both (run_after r event) some more a b)

  -- cores are told only what is right, and their campaigns rise
  pub record IsRightRun (r : CoreRun) : Type 0 where
    pub events : List Event
    pub may : AllMayCome make no_run events
    pub rise : AllRise no_network (all_steps no_run events)
    pub run : run_of events ≡ r

  pub one_more : (r : CoreRun) (event : Event) → IsRightRun r → MayCome make r event → AllRise r.network (steps_of r event) → IsRightRun (run_after r event)
  one_more r event x may rise =
      let q = run_of x.events in
      let here : MayCome make q event = subst (λ (s : CoreRun). MayCome make s event) (sym x.run) may in
      let up : AllRise q.network (steps_of q event) = subst (λ (s : CoreRun). AllRise s.network (steps_of s event)) (sym x.run) rise in
      let last : AllRise q.network (all_steps q (event ∷ [])) = subst (λ (steps : List NetworkStep). AllRise q.network steps) (sym (append-nil (steps_of q event))) up in
      let risen : AllRise (fold network_after no_network (all_steps no_run x.events)) (all_steps q (event ∷ [])) =
      subst (λ (n : Network). AllRise n (all_steps q (event ∷ []))) (sym (network_is no_run x.events)) last in
      record {
        events = x.events ++ event ∷ [];
        may = may_both no_run x.events (event ∷ []) x.may (here, tt);
        rise = subst (λ (steps : List NetworkStep). AllRise no_network steps) (sym (steps_both no_run x.events (event ∷ [])))
            (rise_both no_network (all_steps no_run x.events) (all_steps q (event ∷ [])) x.rise risen);
        run = fold-append run_after no_run x.events (event ∷ []) ∙ ap (λ (s : CoreRun). run_after s event) x.run;
      }
