-- A run: node 0 leads, appends a batch and commits it; its lease ends; node 1 reads the batch, and leads; an append of node 0 that comes
-- late is refused.
use Rattle.std.proofs.Common.{◌≡◌, ℕ, List, [], ◌∷◌, refl, inl, arith}
use Rattle.std.specs.Prelude.{fold, Some}
use Rattle.law_quorum.specs.Batches.{Batch}
use Rattle.law_quorum.specs.Changes.{Campaign, Expire}
use Rattle.law_quorum.specs.Nodes as moves
use Rattle.law_link.specs.Links.{ArePossible, Call, Held, LinkStep, Web, all_handed, append_of, no_web, stepped}
use Rattle.law_link.specs.Links.{Execute, Make, Win, Read, Begin, Write, Ask, Settle, Hear}

abbrev b : Batch
b = record { base = 0; count = 3; epoch = 1; bytes = [] }

abbrev one : Held
one = record { epoch = 1; made = 1; start = 0 }

abbrev two : Held
two = record { epoch = 2; made = 4; start = 3 }

abbrev call : Call
call = record { epoch = 1; made = 1; group = b ∷ [] }

abbrev run : List LinkStep
run = Make (Campaign 0 7 1) ∷ Win 0 one ∷ Begin 0 one ∷ Write 0 b ∷ Hear 0 b [] ∷ Ask 0 one (b ∷ []) [] ∷ Execute 0 call ∷ Settle 0 one ∷ Make Expire
    ∷ Make (Campaign 1 8 2) ∷ Win 1 two ∷ Read 1 b ∷ Begin 1 two ∷ Execute 0 call ∷ []

abbrev web : Web
web = fold stepped no_web run

-- all of it may happen
may : (make : List Batch → List ℕ) → ArePossible make no_web run
may make = (
  tt,
  (
    (refl, (λ x. x), record { leadership = record { node = 0; token = 7; epoch = 1; made = 1; start = []; wrote = [] }; found = refl; holder = refl; key = refl; began = refl }),
    (
      record { holds = refl; standby = refl; reached = refl },
      (
        record { leads = refl; base = refl; some = omega arith },
        (
          (refl, refl),
          (
            record { holds = refl; leads = refl; none = refl; first = b; others = []; some = refl; next = refl },
            (
              inl refl,
              (
                record { holds = refl; leads = refl; first = b; others = []; some = refl; seen = record { before = []; after = []; split = refl; begins = refl } },
                (
                  tt,
                  (
                    tt,
                    (
                      (refl, (λ x. x), record { leadership = record { node = 1; token = 8; epoch = 2; made = 4; start = b ∷ []; wrote = [] }; found = refl; holder = refl; key = refl; began = refl }),
                      (
                        (refl, record { before = []; after = []; split = refl; begins = refl }),
                        (
                          record { holds = refl; standby = refl; reached = refl },
                          (
                            inl refl,
                            tt,
                          ),
                        ),
                      ),
                    ),
                  ),
                ),
              ),
            ),
          ),
        ),
      ),
    ),
  ),
)

handed_then : all_handed no_web run ≡ moves.Store (Campaign 0 7 1) ∷ moves.Lead 0 1 0 ∷ moves.Write 0 b ∷ moves.Store (append_of call) ∷ moves.Commit 0 1 3
    ∷ moves.Store Expire ∷ moves.Store (Campaign 1 8 2) ∷ moves.Feed 1 b ∷ moves.Lead 1 2 3 ∷ moves.Store (append_of call) ∷ []
handed_then = refl

one_log : web.cluster.point.log ≡ b ∷ []
one_log = refl

under_its_place : web.cluster.point.keys.places 0 ≡ Some b
under_its_place = refl

ends : (web.cluster.nodes 0).end ≡ (web.cluster.nodes 1).end
ends = refl

-- node 0 believes that it leads still, and so does node 1: in different epochs
both_lead : ((web.cluster.nodes 0).leads ≡ Some 1) × ((web.cluster.nodes 1).leads ≡ Some 2)
both_lead = (refl, refl)
