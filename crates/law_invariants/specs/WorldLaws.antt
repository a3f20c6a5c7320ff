-- Laws over all events: what is true of a controller whatever happened to it (this project's own).
use Rattle.std.specs.Prelude.{◌≡◌, ◌≤◌, ℕ, ℤ, int_le, List, ◌++◌, map, All, IsSome, None, IsTrue, MatchResult}
use Rattle.std.specs.List.{list_all}
use Rattle.std.specs.List.Sorted.{IsStrictlySortedBy}
use Rattle.std.specs.Ordering.{int_cmp}
use Rattle.kr_calls.specs.declared.events.Event.{Event}
use Rattle.kr_defs.specs.declared.options.Options.{Options}
use Rattle.kr_defs.specs.Heartbeats.{contact_brokers, end, heard, never_fall, stopping_brokers}
use Rattle.kr_defs.specs.Ids.{is_distinct, is_within}
use Rattle.kr_defs.specs.Image.{Image, IsValid}
use Rattle.kr_defs.specs.Log.{image_at, open_at}
use Rattle.kr_model.specs.declared.writes.Write.{Write}
use Rattle.kr_model.specs.Engine.{Core, IsEngine}
use Rattle.kr_model.specs.Events.{basis, state, world}
use Rattle.kr_model.specs.World.{State, closed_of, image_of_tip, tip_of}
use Rattle.law_safety.specs.HearingLaws.{HearsOf}

-- However many events come later, the committed end isn't below the one before.
abbrev pub CommittedRises : Type 0
CommittedRises =
    (options : Options) (past later : List Event) → (world options past).committed ≤ (world options (past ++ later)).committed

-- Nor is the closed end.
abbrev pub ClosedRises : Type 0
ClosedRises =
    (options : Options) (past later : List Event) → closed_of (world options past) ≤ closed_of (world options (past ++ later))

-- What is closed is committed.
abbrev pub ClosedIsCommitted : Type 0
ClosedIsCommitted = (options : Options) (past : List Event) → closed_of (world options past) ≤ (world options past).committed

-- While a node leads, no transaction is open at the tip: what it decides on is no part of one (KIP-868).
abbrev pub NoneOpenWhileLeading : Type 0
NoneOpenWhileLeading =
    (options : Options) (past : List Event) → let s = state options past in
    IsSome s.world.leading → open_at s.world.log (tip_of s) ≡ None

-- Along the contacts the times never fall, and none is later than the greatest time of any event.
abbrev pub ContactsRise : Type 0
ContactsRise =
    (options : Options) (past : List Event) → let b = basis options past in
    IsTrue (never_fall b.contacts) × IsTrue (list_all (λ c. int_le c.time b.time) b.contacts)

-- Each broker stands once among the contacts, and once among those that stop, which are contacts.
abbrev pub ContactsAreOnce : Type 0
ContactsAreOnce =
    (options : Options) (past : List Event) → let h = heard (basis options past) in
    IsTrue (is_distinct (contact_brokers h)) × IsTrue (is_distinct (stopping_brokers h)) × IsTrue (is_within (stopping_brokers h) (contact_brokers h))

-- A leader hears of the unfenced brokers of the image at the tip, and of the stopping ones among them; on standby nobody is
-- heard of.
abbrev pub HearsWhileLeading : Type 0
HearsWhileLeading =
    (options : Options) (past : List Event) → let s = state options past in
    (IsSome s.world.leading → HearsOf (heard s.basis) (image_of_tip s)) × (s.world.leading ≡ None → heard s.basis ≡ end)

-- The items of the log below each place make an image, and it is valid: so are those at the closed end, at the ends of the
-- batches above it, and at the tip.
abbrev pub ImagesAreValid : Type 0
ImagesAreValid = (options : Options) (past : List Event) (place : ℕ) → MatchResult (image_at (world options past).log place) IsValid (λ ill. ⊥)

-- The images that an engine keeps are valid, as is the one at the tip, and the places rise under which it keeps them.
abbrev pub KeptAreValid : Type 0
KeptAreValid =
    (e : Core) (s : State) (writes : List Write) → IsEngine e s writes
    → All (λ (k : ℤ × Image). IsValid k.1) e.images.kept × IsValid e.images.tip × IsStrictlySortedBy int_cmp (map (λ (k : ℤ × Image). k.0) e.images.kept)
