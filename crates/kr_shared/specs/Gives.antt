-- What is given out for an event: to the quorum its batches, and to the writes that waited their replies. This project's own.
use Rattle.std.specs.Prelude.{◌≡◌, ◌≤◌, ℕ, ◌+◌, List, Option}
use Rattle.kr_model.specs.declared.writes.Told.{Told}
use Rattle.kr_model.specs.Engine.{Core}
use Rattle.kr_shared.specs.declared.taking.Given.{Given}
use Rattle.kr_shared.specs.Answers.{answer_all, answering, first_reply, or_reason, or_reply, refusal_in, with_told}
use Rattle.kr_shared.specs.Appends.{Appends, AppendsIf}
use Rattle.kr_shared.specs.Lines.{LineView}
use Rattle.kr_shared.specs.Takes.{IsEmptied}

pub record GivesOne (pieces pieces' : Option (List (List ℕ))) (faults faults' : ℕ) (old new : LineView) (before : Given) (told : Told) (after : Given) : Type 0 where
  pub appends : AppendsIf before.appended pieces pieces' faults faults' told after.appended
  pub refused : after.refusal ≡ or_reason before.refusal told
  pub reply : after.reply ≡ or_reply before.reply told
  pub answers : answering new.waiting new.due ≡ with_told (answering old.waiting old.due) told
  pub fewer : (new.dues + new.waits) ≤ (old.dues + old.waits)
  pub same : new.room ≡ old.room

pub record Gives (pieces pieces' : Option (List (List ℕ))) (faults faults' : ℕ) (old new : LineView) (told : List Told) (given : Given) : Type 0 where
  pub appends : Appends pieces pieces' faults faults' told given.appended
  pub refused : given.refusal ≡ refusal_in told
  pub reply : given.reply ≡ first_reply told
  pub answers : answering new.waiting new.due ≡ answer_all (answering old.waiting old.due) told
  pub fewer : (new.dues + new.waits) ≤ (old.dues + old.waits)
  pub same : new.room ≡ old.room

-- all that the engine gives is given out
pub record GivesOut (before after : Core) (pieces pieces' : Option (List (List ℕ))) (faults faults' : ℕ) (old new : LineView) (given : Given) : Type 0 where
  pub told : List Told
  pub emptied : IsEmptied before after told
  pub gives : Gives pieces pieces' faults faults' old new told given
