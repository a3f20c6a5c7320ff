-- What the calls that decide entries say: the records and the answers are those of the rule. This project's own.
use Rattle.std.specs.Prelude.{◌≡◌, ◌≤◌, ◌+◌, ℕ, ℤ, Bool, List, Option, IfSome, Result, OnOk}
use Rattle.kr_defs.specs.declared.record.Record.{Record}
use Rattle.kr_defs.specs.Image.{Image}
use Rattle.kr_calls.specs.declared.deciding.Draft.{Draft}
use Rattle.kr_calls.specs.Deciding.{Work, after_all, after_groups, answers, group_answers, nothing_decided, one, unless_validating, weights}
use Rattle.kr_store.specs.Images.{Images}
use Rattle.kr_rules.specs.Progress.{Drawn, base_of, work_at}

-- the work on the present image, from the place on, before anything is decided
abbrev pub begun : ℤ → Images → Work
begun place images = nothing_decided place images.tip

-- the work whose records these are
abbrev pub work_of_records : ℤ → List Record → Images → Work
work_of_records place records images = work_at (record { start = place; records = records }) images.tip

module _ {E A : Type 0} (refused : ℤ → E → A) (rule : Image → ℤ → E → Result (Draft A) ℤ) where
  -- one entry is decided: its records, and its answer
  abbrev pub DecidesOne : ℤ → E → Images → Images → List Record × A → Type 0
  DecidesOne place entry before after d = one refused rule (begun place before) entry ≡ (work_of_records place d.0 after, d.1)

  -- the next entry is decided, from the work so far on, with this answer
  abbrev pub DecidesNext : E → Drawn → Drawn → Images → Images → A → Type 0
  DecidesNext entry drawn drawn' before after answer = one refused rule (work_at drawn before.tip) entry ≡ (work_at drawn' after.tip, answer)

  -- an answer to each entry, all decided in order
  abbrev pub AnswersEach : ℤ → List E → Images → List A → Type 0
  AnswersEach place entries before given = given ≡ answers refused rule (begun place before) entries

  -- the records of all entries, decided in order
  abbrev pub DecidesEach : ℤ → List E → Images → Images → List Record → Type 0
  DecidesEach place entries before after records = work_of_records place records after ≡ after_all refused rule (begun place before) entries

  -- the same; with validate-only none stand
  abbrev pub DecidesUnless : Bool → ℤ → List E → Images → Images → List Record → Type 0
  DecidesUnless validate_only place entries before after records =
      work_of_records place records after ≡ unless_validating validate_only (begun place before) (after_all refused rule (begun place before) entries)

  -- all entries are decided in order, from the work so far on
  abbrev pub GoesThrough : List E → Drawn → Drawn → Images → Images → Type 0
  GoesThrough entries drawn drawn' before after = work_at drawn' after.tip ≡ after_all refused rule (work_at drawn before.tip) entries

  module _ {G B : Type 0} (entries_of : G → List E) (answer_of : G → List A → B) where
    -- the answer to a group, whose entries are decided in order, from the work so far on
    abbrev pub AnswersGroup : G → Drawn → Images → B → Type 0
    AnswersGroup group drawn before given = given ≡ answer_of group (answers refused rule (work_at drawn before.tip) (entries_of group))

    -- an answer to each group, all decided in order
    abbrev pub AnswersGroups : ℤ → List G → Images → List B → Type 0
    AnswersGroups place groups before given = given ≡ group_answers refused rule entries_of answer_of (begun place before) groups

    -- the same, from the work so far on
    abbrev pub AnswersNextGroups : List G → Drawn → Images → List B → Type 0
    AnswersNextGroups groups drawn before given = given ≡ group_answers refused rule entries_of answer_of (work_at drawn before.tip) groups

    -- the records of all groups, decided in order
    abbrev pub DecidesGroups : ℤ → List G → Images → Images → List Record → Type 0
    DecidesGroups place groups before after records =
        work_of_records place records after ≡ after_groups refused rule entries_of answer_of (begun place before) groups

    -- all groups are decided in order, from the work so far on
    abbrev pub GoesThroughGroups : List G → Drawn → Drawn → Images → Images → Type 0
    GoesThroughGroups groups drawn drawn' before after =
        work_at drawn' after.tip ≡ after_groups refused rule entries_of answer_of (work_at drawn before.tip) groups

-- since the last kept epoch no more calls were made than so many and the records' weights
abbrev pub CallsWithin : ℕ → Images → List Record → Type 0
CallsWithin so_far images records = images.made ≤ so_far + weights (base_of images) records

-- if it was so of the records before, it is so of those after
abbrev pub CallsStayWithin : {X F : Type 0} → Result X F → Images → Images → List Record → List Record → Type 0
CallsStayWithin result before after records records' = (so_far : ℕ) → CallsWithin so_far before records → OnOk result (CallsWithin so_far after records')

-- where the cost is known, no more steps were taken
abbrev pub CostsAtMost : {X F : Type 0} → Result X F → Option ℕ → ℕ → ℕ → Type 0
CostsAtMost result cost before after = IfSome cost (λ n. OnOk result (after ≤ before + n))
