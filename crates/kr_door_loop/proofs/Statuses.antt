-- Which status comes where nothing failed.
use Rattle.std.proofs.Common.{◌≡◌, ◌∙◌, ℕ, ◌+◌, ◌<◌, ◌≤◌, ◌⊎◌, inl, inr, List, [], ◌++◌, length, append_assoc, append-nil, length-append, Option, Some, None, refl, sym, ap, arith}
use Rattle.std.specs.Io.KnownBytes.{Consumes, IsAtEnd}
use Rattle.kr_process.specs.declared.status.Status.{Status}
use Rattle.kr_process.specs.declared.status.Status.TheVariants as statuses
use Rattle.kr_wire.specs.Grammar.{Each}
use Rattle.kr_door_loop.specs.Endings.{AnswersWhole, BeginsNoFrame, DoorEnds, IsAsked, IsFrameFront, RefusesRest, SaysNoSize, longest_stream}
use Rattle.kr_door_loop.specs.Frames.{Question, asked_bytes}
use Rattle.kr_door_loop.proofs.FrameLaws.{NoneAt, agree, empty_none, front_none, no_size_none}

module _ (stream : List ℕ) (left' written written' : Option (List ℕ)) (short : length stream < longest_stream) where
  -- what stands where a stream is refused
  behind_frames : (l : Option (List ℕ)) (front rest : List ℕ) → Consumes (Some stream) l (front ++ rest)
      → SaysNoSize rest ⊎ (IsFrameFront rest × (0 < length rest) × IsAtEnd l) → (behind : List ℕ) × (stream ≡ front ++ behind) × NoneAt behind × (0 < length behind)
  behind_frames None front rest took tells = absurd took
  behind_frames (Some l) front rest took (inl none) =
      let joined : length (rest ++ l) ≡ length rest + length l = length-append rest l in
      let long : length rest ≡ 4 = none.said.long in
      let some : 0 < length (rest ++ l) = omega (arith, joined, long) in
      (rest ++ l, took ∙ append_assoc front rest l, no_size_none rest l none, some)
  behind_frames (Some l) front rest took (inr cut) =
      (rest, took ∙ (ap (λ (m : List ℕ). (front ++ rest) ++ m) cut.2 ∙ append-nil (front ++ rest)), front_none rest cut.0, cut.1)

  -- no more is taken than there is
  within_stream : (l : Option (List ℕ)) (taken : List ℕ) → Consumes (Some stream) l taken → length taken ≤ length stream
  within_stream None taken took = absurd took
  within_stream (Some l) taken took =
      let joined : length stream ≡ length taken + length l = ap (λ (m : List ℕ). length m) took ∙ length-append taken l in
      omega (arith, joined)

  -- all of it was taken
  ended_there : (l : Option (List ℕ)) (front rest : List ℕ) → Consumes (Some stream) l (front ++ rest) → rest ≡ [] → IsAtEnd l → stream ≡ front
  ended_there None front rest took none end = absurd took
  ended_there (Some l) front rest took none end =
      took ∙ (ap (λ (m : List ℕ). (front ++ rest) ++ m) end ∙ (append-nil (front ++ rest) ∙ (ap (λ (m : List ℕ). front ++ m) none ∙ append-nil front)))

  too_long : (front rest : List ℕ) → Consumes (Some stream) left' (front ++ rest) → length front + length rest ≡ longest_stream → ⊥
  too_long front rest took all =
      let within = within_stream left' (front ++ rest) took in
      let joined = length-append front rest in
      omega (arith, within, joined, all, short)

  whole_ends : (status : Status) → DoorEnds (Some stream) left' written written' status → (status ≡ statuses.ReadFault → ⊥) → (status ≡ statuses.WriteFault → ⊥)
      → (questions : List Question) → Each IsAsked questions stream → (status ≡ statuses.Done) ⊎ (status ≡ statuses.NoMemory)
  whole_ends statuses.Done ends read write questions each = inl refl
  whole_ends statuses.NoMemory ends read write questions each = inr refl
  whole_ends statuses.Usage ends read write questions each = absurd ends
  whole_ends statuses.ReadFault ends read write questions each = absurd (read refl)
  whole_ends statuses.WriteFault ends read write questions each = absurd (write refl)
  whole_ends statuses.TooLong ends read write questions each = absurd (too_long (asked_bytes ends.turns) ends.rest ends.took ends.behind.1)
  whole_ends (statuses.Malformed at) ends read write questions each =
      let front = asked_bytes ends.turns in
      let b = behind_frames left' front ends.rest ends.took ends.behind.1 in
      let long = agree ends.turns questions stream b.0 [] ends.are each (sym b.1 ∙ sym (append-nil stream)) b.2 empty_none in
      let joined : length stream ≡ length front + length b.0 = ap (λ (m : List ℕ). length m) b.1 ∙ length-append front b.0 in
      let some = b.3 in
      absurd (omega (arith, long, joined, some))

  rest_ends : (status : Status) → DoorEnds (Some stream) left' written written' status → (status ≡ statuses.ReadFault → ⊥) → (status ≡ statuses.WriteFault → ⊥)
      → (questions : List Question) (front behind : List ℕ) → stream ≡ front ++ behind → Each IsAsked questions front → BeginsNoFrame behind
      → (status ≡ statuses.Malformed (length front)) ⊎ (status ≡ statuses.NoMemory)
  rest_ends statuses.NoMemory ends read write questions front behind parts each none = inr refl
  rest_ends statuses.Usage ends read write questions front behind parts each none = absurd ends
  rest_ends statuses.ReadFault ends read write questions front behind parts each none = absurd (read refl)
  rest_ends statuses.WriteFault ends read write questions front behind parts each none = absurd (write refl)
  rest_ends statuses.TooLong ends read write questions front behind parts each none = absurd (too_long (asked_bytes ends.turns) ends.rest ends.took ends.behind.1)
  rest_ends statuses.Done ends read write questions front behind parts each none =
      let asked = asked_bytes ends.turns in
      let all = ended_there left' asked ends.rest ends.took ends.behind.0 ends.behind.1 in
      let long = agree ends.turns questions front [] behind ends.are each (append-nil asked ∙ (sym all ∙ parts)) empty_none none.none in
      let taken : length stream ≡ length asked = ap (λ (m : List ℕ). length m) all in
      let joined : length stream ≡ length front + length behind = ap (λ (m : List ℕ). length m) parts ∙ length-append front behind in
      let some = none.some in
      absurd (omega (arith, long, taken, joined, some))
  rest_ends (statuses.Malformed at) ends read write questions front behind parts each none =
      let asked = asked_bytes ends.turns in
      let b = behind_frames left' asked ends.rest ends.took ends.behind.1 in
      let long = agree ends.turns questions front b.0 behind ends.are each (sym b.1 ∙ parts) b.2 none.none in
      inl (ap (λ (n : ℕ). statuses.Malformed n) (ends.behind.0 ∙ long))

pub answers_whole : (left left' written written' : Option (List ℕ)) (status : Status) → DoorEnds left left' written written' status → (status ≡ statuses.ReadFault → ⊥) → (status ≡ statuses.WriteFault → ⊥) → AnswersWhole left status
answers_whole None left' written written' status ends read write = tt
answers_whole (Some stream) left' written written' status ends read write = λ questions short each. whole_ends stream left' written written' short status ends read write questions each

pub refuses_rest : (left left' written written' : Option (List ℕ)) (status : Status) → DoorEnds left left' written written' status → (status ≡ statuses.ReadFault → ⊥) → (status ≡ statuses.WriteFault → ⊥) → RefusesRest left status
refuses_rest None left' written written' status ends read write = tt
refuses_rest (Some stream) left' written written' status ends read write = λ questions front behind short parts each none. rest_ends stream left' written written' short status ends read write questions front behind parts each none
