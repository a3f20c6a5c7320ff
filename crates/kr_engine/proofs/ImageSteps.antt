-- The image at the closed end is given out.
use Rattle.std.proofs.Common.{◌≡◌, ◌∙◌, sym, subst, ℤ, pos, List, [], ◌∷◌, ◌++◌, map, refl, ap}
use Rattle.std.specs.Prelude.{Some, unwrap_or, find, option_to_list}
use Rattle.std.specs.Ordering.{int_eq}
use Rattle.kr_calls.specs.declared.events.Event.TheVariants as events
use Rattle.kr_calls.specs.declared.events.Output.TheVariants as given
use Rattle.kr_defs.specs.Image.{Image, empty}
use Rattle.kr_snapshot.specs.ImageText.{image_text}
use Rattle.kr_store.specs.Images.{kept_at}
use Rattle.kr_model.specs.declared.writes.Write.{Write}
use Rattle.kr_engine.specs.inner.Changes.{cleared_core, counted_core}
use Rattle.kr_model.specs.Engine.{Core, IsEngine, IsStep, kept_image, outputs_left}
use Rattle.kr_engine.specs.inner.Image.{core_after_image}
use Rattle.kr_model.specs.Entries.{item_entries}
use Rattle.kr_model.specs.Outputs.{answers, answers_in}
use Rattle.kr_model.specs.World.{State, closed_of, image_of_closed, tip_of}
use Rattle.kr_model.proofs.EventOutcomes.{outputs_accepted, stands_accepted}
use Rattle.kr_model.proofs.LogEntries.{none_behind}
use Rattle.kr_model.proofs.KeptImages.{first_found}
use Rattle.kr_model.proofs.Queues.{IsDrained, drained}
use Rattle.kr_model.proofs.EventsWithoutWrites.{answers_then, held_then, passes}

module _ (e : Core) (d : IsDrained e) where
  abbrev after : Core
  after = counted_core (core_after_image (cleared_core e))

  module _ (s : State) (writes : List Write) (k : IsEngine e s writes) where
    pub closed_found : kept_at e.images e.closed ≡ Some (image_of_closed s)
    closed_found =
        ap (kept_at e.images) k.closed
        ∙ (ap (λ (kept : List (ℤ × Image)). kept_at (record e.images { kept = kept }) (pos (closed_of s.world))) k.kept
        ∙ first_found s.world.log (closed_of s.world) (find (λ (i : ℤ × Image). int_eq i.0 (pos (closed_of s.world))) (map (kept_image s.world.log) (s.world.covered ++ s.world.batch_ends))))

    left_then : outputs_left after ≡ given.Image (image_text (pos (closed_of s.world)) (image_of_closed s)) ∷ answers_in s.world (writes ++ [])
    left_then =
        ap (λ g. (g ++ given.Image (image_text e.closed (unwrap_or (kept_at e.images e.closed) empty)) ∷ []) ++ option_to_list e.refusal ++ answers e.leading e.closed e.held) d.none_given
        ∙ (ap (λ o. given.Image (image_text e.closed (unwrap_or o empty)) ∷ option_to_list e.refusal ++ answers e.leading e.closed e.held) closed_found
        ∙ (ap (λ c. given.Image (image_text c (image_of_closed s)) ∷ option_to_list e.refusal ++ answers e.leading e.closed e.held) k.closed
        ∙ (ap (λ o. given.Image (image_text (pos (closed_of s.world)) (image_of_closed s)) ∷ option_to_list o ++ answers e.leading e.closed e.held) d.none_refused
        ∙ ap (λ due. given.Image (image_text (pos (closed_of s.world)) (image_of_closed s)) ∷ due) (answers_then e s writes d k e.leading e.closed s.world k.leading k.closed))))

  step : IsStep e after events.Image
  step = record {
    options = refl;
    stands = λ s writes k. stands_accepted after e.options s writes events.Image s refl (passes e events.Image after.given e.refusal d s writes k);
    outputs = λ s writes k. left_then s writes k ∙ sym (outputs_accepted e e.options s writes events.Image s refl);
    held = λ s writes k. held_then e s writes d k;
    fresh = λ s writes k. ap (item_entries (pos (tip_of s))) (sym (none_behind s.world.log));
  }

pub image_step : (e : Core) → outputs_left e ≡ [] → IsStep e (counted_core (core_after_image (cleared_core e))) events.Image
image_step e none = step e (drained e none)

pub image_so : (e begun between after : Core) → outputs_left e ≡ [] → begun ≡ cleared_core e → between ≡ core_after_image begun → after ≡ counted_core between → IsStep e after events.Image
image_so e begun between stepped none begins gives counts =
    subst (λ (a : Core). IsStep e a events.Image) (sym (counts ∙ ap counted_core (gives ∙ ap core_after_image begins))) (image_step e none)
