-- A run with frames under way: node 0 writes a batch while a commit is under way to it, and one while a Lost is; the image that it makes
-- then reaches its link behind that, and takes the place of the first batch.
use Rattle.std.proofs.Common.{◌≡◌, sym, ℕ, List, [], ◌∷◌, ◌++◌, refl, ap, inl, arith}
use Rattle.law_quorum.specs.Batches.{Batch, StoredImage, behind}
use Rattle.law_quorum.specs.Changes.{Campaign, Drop}
use Rattle.law_quorum.specs.Nodes as moves
use Rattle.law_link.specs.Frames.{Act, AllMayHappen, Arrive, Commit, Emit, Lead, Lost, NetworkStep, Snapshot, all_link_steps, all_daemon_moves, no_network}
use Rattle.law_link.specs.Links.{Ask, Begin, Call, Clear, Execute, Give, GiveUp, Hear, Held, Keep, Make, Settle, Stray, Win, Write, append_of}

abbrev a : Batch
a = record { base = 0; count = 3; epoch = 1; bytes = [] }

abbrev b : Batch
b = record { base = 3; count = 1; epoch = 1; bytes = [] }

abbrev c : Batch
c = record { base = 4; count = 1; epoch = 1; bytes = [] }

abbrev one : Held
one = record { epoch = 1; made = 1; start = 0 }

abbrev call : Call
call = record { epoch = 1; made = 1; group = a ∷ [] }

module _ (make : List Batch → List ℕ) where
  abbrev image : StoredImage
  image = record { offset = 3; bytes = make (a ∷ []) }

  abbrev keep : Keep
  keep = record { before = 0; image = image }

  abbrev run : List NetworkStep
  run = Act (Make (Campaign 0 7 1)) ∷ Act (Win 0 one) ∷ Act (Begin 0 one) ∷ Arrive 0 (Lead 1 0) [] ∷ Emit 0 a ∷ Act (Hear 0 a [])
      ∷ Act (Ask 0 one (a ∷ []) []) ∷ Act (Execute 0 call) ∷ Act (Settle 0 one) ∷ Emit 0 b ∷ Arrive 0 (Commit 1 3) [] ∷ Act (GiveUp 0 1)
      ∷ Emit 0 c ∷ Snapshot 0 image ∷ Arrive 0 (Lost 1) [] ∷ Act (Give 0 keep) ∷ Act (Clear 0 keep) ∷ []

  may : AllMayHappen make no_network run
  may = (
    tt,
    (
      (refl, (λ x. x), record { leadership = record { node = 0; token = 7; epoch = 1; made = 1; start = []; wrote = [] }; found = refl; holder = refl; key = refl; began = refl }),
      (
        record { holds = refl; standby = refl; reached = refl },
        (
          refl,
          (
            record { leads = refl; base = refl; some = omega arith },
            (
              (refl, refl),
              (
                record { holds = refl; leads = refl; none = refl; first = a; others = []; some = refl; next = refl },
                (
                  inl refl,
                  (
                    record { holds = refl; leads = refl; first = a; others = []; some = refl; seen = record { before = []; after = []; split = refl; begins = refl } },
                    (
                      record { leads = refl; base = refl; some = omega arith },
                      (
                        refl,
                        (
                          refl,
                          (
                            record { leads = refl; base = refl; some = omega arith },
                            (
                              record {
                                first = a ∷ [];
                                more = [];
                                split = refl;
                                right = λ fed. (ap (λ (x : List Batch). behind 0 (x ++ a ∷ [])) fed.image, ap (λ (x : List Batch). make (x ++ a ∷ [])) (sym fed.image));
                              },
                              (refl, ((omega arith, inl refl), (inl refl, tt))),
                            ),
                          ),
                        ),
                      ),
                    ),
                  ),
                ),
              ),
            ),
          ),
        ),
      ),
    ),
  )

  -- what the daemon takes, and what it does between
  taken_then : all_daemon_moves no_network run ≡ moves.Store (Campaign 0 7 1) ∷ moves.Lead 0 1 0 ∷ moves.Write 0 a ∷ moves.Store (append_of call) ∷ moves.Write 0 b
      ∷ moves.Commit 0 1 3 ∷ moves.Write 0 c ∷ moves.Lost 0 1 ∷ moves.Store (Drop 0 image) ∷ []
  taken_then = refl

  -- for its link the third batch is of a leadership that is over
  seen_then : all_link_steps no_network run ≡ Make (Campaign 0 7 1) ∷ Win 0 one ∷ Begin 0 one ∷ Write 0 a ∷ Hear 0 a [] ∷ Ask 0 one (a ∷ []) [] ∷ Execute 0 call ∷ Settle 0 one
      ∷ Write 0 b ∷ GiveUp 0 1 ∷ Stray 0 c ∷ Give 0 keep ∷ Clear 0 keep ∷ []
  seen_then = refl
