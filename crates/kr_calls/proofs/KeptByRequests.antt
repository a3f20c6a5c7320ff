-- What holds of the work at the start, and stays so where the records of an entry are taken, holds after the request.
use Rattle.std.proofs.Common.{◌≡◌, ℤ, Bool, true, false, cond, List, [], ◌∷◌, ◌++◌, refl, subst}
use Rattle.std.specs.Prelude.{Option, Some, None, Result, Ok, Err}
use Rattle.std.specs.List.{AllByRecursion}
use Rattle.kr_defs.specs.declared.ill.Ill.{Ill}
use Rattle.kr_defs.specs.declared.record.Record.{Record}
use Rattle.kr_defs.specs.Image.{Image}
use Rattle.kr_defs.proofs.Tests.{Gives, some_is}
use Rattle.kr_calls.specs.declared.deciding.Draft.{Draft}
use Rattle.kr_calls.specs.Deciding.{Work, apply_records, is_within_limits, work_with, taken, settled, done, one, after_all, after_groups, over_a_limit, unless_validating}

-- the work after records that were taken
pub record TakenBy (w : Work) (records : List Record) (after : Work) : Type 0 where
  pub applied : apply_records w.image records ≡ Ok after.image
  pub written : after.records ≡ w.records ++ records

added_gives : (w : Work) (records : List Record) (b : Bool) (r : Result Image Ill) (after : Work) → apply_records w.image records ≡ r → cond b (work_with w records r) None ≡ Some after → TakenBy w records after
added_gives w records true (Ok image) after meaning is =
    let same = some_is _ after is in
    subst (TakenBy w records) same (record { applied = meaning; written = refl })
added_gives w records true (Err cause) after meaning is = absurd cc
added_gives w records false r after meaning is = absurd cc

pub taken_gives : (w : Work) (records : List Record) (after : Work) → taken w records ≡ Some after → TakenBy w records after
unfolding taken
taken_gives w records after is = added_gives w records (is_within_limits w.records records) (apply_records w.image records) after refl is

module _ {E A : Type 0} (refused : ℤ → E → A) where
  -- what is done of an entry, by whether it is refused
  settled_by : (P : Work × A → Type 0) (w : Work) (entry : E) (answer : A) (o : Option Work) → P (w, refused over_a_limit entry) → ((after : Work) → o ≡ Some after → P (after, answer)) → P (settled refused w entry answer o)
  settled_by P w entry answer o refusing taking = elim o as (λ o. ((after : Work) → o ≡ Some after → P (after, answer)) → P (settled refused w entry answer o)) [
    | None ↦ λ taking. refusing
    | Some after ↦ λ taking. taking after refl
  ] taking

  pub done_by : (P : Work × A → Type 0) (w : Work) (entry : E) (r : Result (Draft A) ℤ) → ((error : ℤ) → r ≡ Err error → P (w, refused error entry)) → P (w, refused over_a_limit entry) → ((draft : Draft A) (after : Work) → r ≡ Ok draft → TakenBy w draft.records after → P (after, draft.answer)) → P (done refused w entry r)
  unfolding done
  done_by P w entry r bad limit good = elim r as (λ r. ((error : ℤ) → r ≡ Err error → P (w, refused error entry)) → ((draft : Draft A) (after : Work) → r ≡ Ok draft → TakenBy w draft.records after → P (after, draft.answer)) → P (done refused w entry r)) [
    | Err error ↦ λ bad good. bad error refl
    | Ok draft ↦ λ bad good. settled_by P w entry draft.answer (taken w draft.records) limit (λ after is. good draft after refl (taken_gives w draft.records after is))
  ] bad good

module _ {E A : Type 0} (refused : ℤ → E → A) (rule : Image → ℤ → E → Result (Draft A) ℤ) (I : Work → Type 0) (Is : E → Type 0) where
  -- it stays so where the records of an entry are taken
  abbrev pub Keeps : Type 0
  Keeps = (w : Work) (entry : E) → Is entry → I w → Gives (λ draft. (after : Work) → TakenBy w draft.records after → I after) (rule w.image w.place entry)

  pub one_keeps : Keeps → (w : Work) (entry : E) → Is entry → I w → I (one refused rule w entry).0
  one_keeps keeps w entry is so_far =
      done_by refused (λ (d : Work × A). I d.0) w entry (rule w.image w.place entry) (λ error e. so_far) so_far (λ draft after e by. keeps w entry is so_far draft e after by)

  pub all_keep : Keeps → (w : Work) (entries : List E) → AllByRecursion Is entries → I w → I (after_all refused rule w entries)
  all_keep keeps w [] are so_far = so_far
  all_keep keeps w (entry ∷ entries) are so_far = all_keep keeps (one refused rule w entry).0 entries are.1 (one_keeps keeps w entry are.0 so_far)

  pub groups_keep : {G B : Type 0} (entries_of : G → List E) (answer_of : G → List A → B) → Keeps → (w : Work) (groups : List G) → AllByRecursion (λ group. AllByRecursion Is (entries_of group)) groups → I w → I (after_groups refused rule entries_of answer_of w groups)
  groups_keep entries_of answer_of keeps w [] are so_far = so_far
  groups_keep entries_of answer_of keeps w (group ∷ groups) are so_far =
      groups_keep entries_of answer_of keeps (after_all refused rule w (entries_of group)) groups are.1 (all_keep keeps w (entries_of group) are.0 so_far)

module _ (I : Work → Type 0) where
  pub validated_keep : (validate_only : Bool) (before after : Work) → I before → I after → I (unless_validating validate_only before after)
  validated_keep true before after first then = first
  validated_keep false before after first then = then

  pub chosen_keep : {X : Type 0} (test : Bool) (x y : Work × X) → I x.0 → I y.0 → I (cond test x y).0
  chosen_keep true x y first then = first
  chosen_keep false x y first then = then

-- every entry
pub any_entry : {E : Type 0} (entries : List E) → AllByRecursion (λ _. Unit {0}) entries
any_entry [] = tt
any_entry (entry ∷ entries) = (tt, any_entry entries)

pub any_groups : {G E : Type 0} (entries_of : G → List E) (groups : List G) → AllByRecursion (λ group. AllByRecursion (λ _. Unit {0}) (entries_of group)) groups
any_groups entries_of [] = tt
any_groups entries_of (group ∷ groups) = (any_entry (entries_of group), any_groups entries_of groups)
