-- KIP-630: a committed prefix of the log may be replaced by its image. That all that is given out stays the same is this
-- project's own.
use Rattle.std.specs.Prelude.{◌≡◌, ◌≤ℤ◌, ◌||◌, ℕ, pos, negsuc, int_lt, List, [], ◌∷◌, map, None, Ok, IsTrue, not}
use Rattle.std.specs.Int.{int_max}
use Rattle.std.specs.List.{AllByRecursion}
use Rattle.std.specs.Ordering.{int_eq}
use Rattle.kr_calls.specs.declared.events.Event.{Event}
use Rattle.kr_calls.specs.declared.events.Output.{Output}
use Rattle.kr_calls.specs.declared.events.Event.TheVariants as events
use Rattle.kr_calls.specs.declared.events.Output.TheVariants as given
use Rattle.kr_defs.specs.declared.options.Options.{Options}
use Rattle.kr_defs.specs.Image.{Image}
use Rattle.kr_defs.specs.Log.{image_at}
use Rattle.kr_snapshot.specs.Grammar.{IsImage}
use Rattle.kr_model.specs.Events.{state}
use Rattle.kr_model.specs.Outputs.{outputs_after}
use Rattle.kr_model.specs.World.{State, closed_of, is_far}

-- on standby, with this committed end, at which no transaction is open (KIP-868), and this image of what is committed
pub record StandsBy (s : State) (end : ℕ) (image : Image) : Type 0 where
  pub standby : s.world.leading ≡ None
  pub committed : s.world.committed ≡ end
  pub closed : closed_of s.world ≡ end
  pub seen : image_at s.world.log end ≡ Ok image

-- A Lead is of an epoch above all that were led before, where any was (the greatest is -1 where none was), at a time not
-- before all that were told. Nothing is asked of other events.
abbrev pub IsLater : State → Event → Type 0
IsLater s (events.Lead epoch next now) =
    IsTrue (int_eq s.world.greatest (negsuc 0) || int_lt s.world.greatest epoch) × (s.basis.time ≤ℤ int_max (pos 0) now)
IsLater s other = Unit {0}

-- a refusal without the number of its event
abbrev pub unnumbered : Output → Output
unnumbered (given.Refused event reason) = given.Refused 0 reason
unnumbered other = other

-- what later events give out, event by event, the numbers of events in refusals aside
abbrev pub given_after : Options → List Event → List Event → List (List Output)
given_after options past events = map (map unnumbered) (outputs_after options past events)

-- What the later events give out behind the earlier ones, they give out behind one Load of the image that those left.
abbrev pub ReplacedPrefix : Type 0
ReplacedPrefix =
    (options : Options) (earlier later : List Event) (end : ℕ) (image : Image) (bytes : List ℕ) →
    StandsBy (state options earlier) end image → IsTrue (not (is_far (pos end))) → IsImage (pos end) image bytes →
    AllByRecursion (IsLater (state options earlier)) later →
    given_after options earlier later ≡ given_after options (events.Load bytes ∷ []) later
