-- One entry, by what its rule says of it.
use Rattle.std.proofs.Common.{◌≡◌, ◌∙◌, ℤ, pos, List, [], ◌∷◌, ◌++◌, refl, sym, ap, append_assoc, drop, ℕ, ◌<◌, ◌+◌, length, get_or, map}
use Rattle.std.specs.Prelude.{Some, None, Result, Ok, Err, OnOk}
use Rattle.std.proofs.lemmas.List.{drop_more}
use Rattle.kr_defs.specs.Image.{Image}
use Rattle.kr_calls.specs.declared.errors.TheConstants.{POLICY_VIOLATION}
use Rattle.kr_calls.specs.declared.deciding.Draft.{Draft}
use Rattle.kr_calls.specs.Deciding.{Work, taken, settled, done, one, answers, after_all, group_answers, after_groups}
use Rattle.kr_rules.specs.Refusals.{IsRefusal, IfError}
use Rattle.kr_rules.specs.declared.refusal.Refusal.{Refusal}
use Rattle.kr_rules.specs.declared.refusal.Refusal.TheVariants as refusals

pub on_ok : {T F : Type 0} {P : Type 0} (r : Result T F) → P → OnOk r P
on_ok (Ok x) p = p
on_ok (Err e) p = tt

-- what is left from an index on begins with what stands there
pub here_of : {E : Type 0} (entries : List E) (i : ℕ) (entry : E) → i < length entries → entry ≡ get_or entries i entry → drop i entries ≡ entry ∷ drop (i + 1) entries
here_of entries i entry within is = drop_more entries i entry within ∙ ap (λ e. e ∷ drop (i + 1) entries) (sym is)

module _ {E A : Type 0} (refused : ℤ → E → A) (rule : Image → ℤ → E → Result (Draft A) ℤ) (w : Work) (entry : E) where
  pub one_taken : (draft : Draft A) (after : Work) → rule w.image w.place entry ≡ Ok draft → taken w draft.records ≡ Some after → one refused rule w entry ≡ (after, draft.answer)
  unfolding done
  one_taken draft after meaning took = rw (meaning, took) refl

  pub one_limited : (draft : Draft A) (answer : A) → rule w.image w.place entry ≡ Ok draft → taken w draft.records ≡ None → answer ≡ refused POLICY_VIOLATION entry → one refused rule w entry ≡ (w, answer)
  unfolding done
  one_limited draft answer meaning none is = rw (meaning, none, is) refl

  pub one_refused : (refusal : Refusal) (answer : A) → IsRefusal refusal (rule w.image w.place entry) → IfError refusal (λ error. answer ≡ refused error entry) → one refused rule w entry ≡ (w, answer)
  unfolding done
  one_refused (refusals.Error error) answer meaning is = rw (meaning, is) refl
  one_refused refusals.NoMemory answer meaning is = absurd is

  module _ (entries : List E) (i : ℕ) (within : i < length entries) (is : entry ≡ get_or entries i entry) (after : Work) (answer : A) (did : one refused rule w entry ≡ (after, answer)) where
    pub answers_more : (so_far : List A) → (so_far ++ answer ∷ []) ++ answers refused rule after (drop (i + 1) entries) ≡ so_far ++ answers refused rule w (drop i entries)
    answers_more so_far = append_assoc so_far (answer ∷ []) (answers refused rule after (drop (i + 1) entries)) ∙ ap (λ more. so_far ++ more) (ap (λ (p : Work × A). p.1 ∷ answers refused rule p.0 (drop (i + 1) entries)) (sym did) ∙ ap (answers refused rule w) (sym (here_of entries i entry within is)))

    pub after_more : after_all refused rule after (drop (i + 1) entries) ≡ after_all refused rule w (drop i entries)
    after_more = ap (λ (p : Work × A). after_all refused rule p.0 (drop (i + 1) entries)) (sym did) ∙ ap (after_all refused rule w) (sym (here_of entries i entry within is))

-- entries that are made of items
module _ {E I A : Type 0} (refused : ℤ → E → A) (rule : Image → ℤ → E → Result (Draft A) ℤ) (f : I → E) where
  abbrev pub refused_item : ℤ → I → A
  refused_item error item = refused error (f item)

  abbrev pub rule_item : Image → ℤ → I → Result (Draft A) ℤ
  rule_item image place item = rule image place (f item)

  pub done_item : (w : Work) (item : I) (meaning : Result (Draft A) ℤ) → done refused_item w item meaning ≡ done refused w (f item) meaning
  unfolding done
  done_item w item (Err error) = refl
  done_item w item (Ok draft) = elim (taken w draft.records) as (λ o. settled refused_item w item draft.answer o ≡ settled refused w (f item) draft.answer o) [ None ↦ refl | Some after ↦ refl ]

  pub answers_mapped : (w : Work) (items : List I) → answers refused_item rule_item w items ≡ answers refused rule w (map f items)
  answers_mapped w [] = refl
  answers_mapped w (item ∷ items) = rw (done_item w item (rule w.image w.place (f item))) (ap (λ more. (one refused rule w (f item)).1 ∷ more) (answers_mapped (one refused rule w (f item)).0 items))

  pub after_mapped : (w : Work) (items : List I) → after_all refused_item rule_item w items ≡ after_all refused rule w (map f items)
  after_mapped w [] = refl
  after_mapped w (item ∷ items) = rw (done_item w item (rule w.image w.place (f item))) (after_mapped (one refused rule w (f item)).0 items)

-- groups of entries
module _ {E A G B : Type 0} (refused : ℤ → E → A) (rule : Image → ℤ → E → Result (Draft A) ℤ) (entries_of : G → List E) (answer_of : G → List A → B) (w : Work) (group : G) (groups : List G) (i : ℕ) (within : i < length groups) (is : group ≡ get_or groups i group) where
  abbrev rest : List G
  rest = drop (i + 1) groups

  pub group_answers_more : (after : Work) (answer : B) → after ≡ after_all refused rule w (entries_of group) → answer ≡ answer_of group (answers refused rule w (entries_of group)) → (so_far : List B) → (so_far ++ answer ∷ []) ++ group_answers refused rule entries_of answer_of after rest ≡ so_far ++ group_answers refused rule entries_of answer_of w (drop i groups)
  group_answers_more after answer then made so_far = rw (then, made, here_of groups i group within is) (append_assoc so_far (answer_of group (answers refused rule w (entries_of group)) ∷ []) (group_answers refused rule entries_of answer_of (after_all refused rule w (entries_of group)) rest))

  pub after_groups_more : (after : Work) → after ≡ after_all refused rule w (entries_of group) → after_groups refused rule entries_of answer_of after rest ≡ after_groups refused rule entries_of answer_of w (drop i groups)
  after_groups_more after then = rw (then, here_of groups i group within is) refl
