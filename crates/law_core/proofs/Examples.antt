-- A run of a core: it leads, calls for an append of what its daemon writes, and commits that where it stands; an answer that comes twice
-- is passed over; then its lease may have run out.
use Rattle.std.proofs.Common.{◌≡◌, ℕ, List, [], ◌∷◌, refl, inl, arith}
use Rattle.law_quorum.specs.Batches.{Batch}
use Rattle.law_quorum.specs.Changes.{Campaign}
use Rattle.law_link.specs.Frames.{Act, Arrive, Emit, Lead}
use Rattle.law_link.specs.Links.{Ask, Begin, Call, Execute, GiveUp, Hear, Held, LetGo, Make, Settle, Win}
use Rattle.law_core.specs.Core.{Appended, Over, Stood, Won}
use Rattle.law_core.specs.Runs.{AllMayCome, Comes, Event, Happens, all_steps, no_run}

abbrev b : Batch
b = record { base = 0; count = 3; epoch = 1; bytes = [] }

abbrev one : Held
one = record { epoch = 1; made = 1; start = 0 }

abbrev call : Call
call = record { epoch = 1; made = 1; group = b ∷ [] }

abbrev run : List Event
run = Happens (Act (Make (Campaign 0 7 1))) ∷ Comes 0 (Won one) ∷ Happens (Arrive 0 (Lead 1 0) []) ∷ Happens (Emit 0 b) ∷ Comes 0 (Appended b)
    ∷ Happens (Act (Execute 0 call)) ∷ Comes 0 (Stood 1 0) ∷ Comes 0 (Stood 1 0) ∷ Comes 0 Over ∷ []

may : (make : List Batch → List ℕ) → AllMayCome make no_run run
may make = (
  (tt, tt),
  (
    ((λ x. x), record { leadership = record { node = 0; token = 7; epoch = 1; made = 1; start = []; wrote = [] }; found = refl; holder = refl; key = refl; began = refl }),
    (
      (tt, refl),
      (
        (tt, record { leads = refl; base = refl; some = omega arith }),
        (
          ([], refl),
          (
            (tt, inl refl),
            (
              record { call = call; has = inl refl; key = refl; first = b; others = []; group = refl; at = refl; seen = record { before = []; after = []; split = refl; begins = refl } },
              (
                record { call = call; has = inl refl; key = refl; first = b; others = []; group = refl; at = refl; seen = record { before = []; after = []; split = refl; begins = refl } },
                (tt, tt),
              ),
            ),
          ),
        ),
      ),
    ),
  ),
)

steps_then : all_steps no_run run ≡ Act (Make (Campaign 0 7 1)) ∷ Act (Win 0 one) ∷ Act (Begin 0 one) ∷ Arrive 0 (Lead 1 0) [] ∷ Emit 0 b ∷ Act (Hear 0 b [])
    ∷ Act (Ask 0 one (b ∷ []) []) ∷ Act (Execute 0 call) ∷ Act (Settle 0 one) ∷ Act (GiveUp 0 1) ∷ Act (LetGo 0) ∷ []
steps_then = refl
