-- What holds of the work at the start, and stays so where the records of an entry are taken whose answer stands in the
-- reply, holds after the request.
use Rattle.std.proofs.Common.{ℤ, List, [], ◌∷◌}
use Rattle.std.specs.Prelude.{Result, zip}
use Rattle.std.specs.List.{AllByRecursion}
use Rattle.kr_defs.specs.Image.{Image}
use Rattle.kr_defs.proofs.Tests.{Gives}
use Rattle.kr_calls.specs.declared.deciding.Draft.{Draft}
use Rattle.kr_calls.specs.Deciding.{Work, one, after_all, answers, after_groups, group_answers}
use Rattle.kr_calls.proofs.KeptByRequests.{TakenBy, done_by}

module _ {E A : Type 0} (refused : ℤ → E → A) (rule : Image → ℤ → E → Result (Draft A) ℤ) (I : Work → Type 0) (Is : E → A → Type 0) where
  -- it stays so where the records of an entry with such an answer are taken
  abbrev pub Keeps : Type 0
  Keeps = (w : Work) (entry : E) → I w → Gives (λ draft. Is entry draft.answer → (after : Work) → TakenBy w draft.records after → I after) (rule w.image w.place entry)

  -- each entry has such an answer
  abbrev pub AreAnswered : List E → List A → Type 0
  AreAnswered entries given = AllByRecursion (λ pair. Is pair.0 pair.1) (zip entries given)

  pub one_keeps : Keeps → (w : Work) (entry : E) → Is entry (one refused rule w entry).1 → I w → I (one refused rule w entry).0
  one_keeps keeps w entry is so_far =
      done_by refused (λ (d : Work × A). Is entry d.1 → I d.0) w entry (rule w.image w.place entry) (λ error e is. so_far) (λ is. so_far)
      (λ draft after e by is. keeps w entry so_far draft e is after by) is

  pub all_keep : Keeps → (w : Work) (entries : List E) → AreAnswered entries (answers refused rule w entries) → I w → I (after_all refused rule w entries)
  all_keep keeps w [] are so_far = so_far
  all_keep keeps w (entry ∷ entries) are so_far = all_keep keeps (one refused rule w entry).0 entries are.1 (one_keeps keeps w entry are.0 so_far)

  module _ {G B : Type 0} (entries_of : G → List E) (answer_of : G → List A → B) (Of : G → B → Type 0) (each : (group : G) (given : List A) → Of group (answer_of group given) → AreAnswered (entries_of group) given) where
    pub groups_keep : Keeps → (w : Work) (groups : List G) → AllByRecursion (λ pair. Of pair.0 pair.1) (zip groups (group_answers refused rule entries_of answer_of w groups)) → I w → I (after_groups refused rule entries_of answer_of w groups)
    groups_keep keeps w [] are so_far = so_far
    groups_keep keeps w (group ∷ groups) are so_far =
        groups_keep keeps (after_all refused rule w (entries_of group)) groups are.1
        (all_keep keeps w (entries_of group) (each group (answers refused rule w (entries_of group)) are.0) so_far)
