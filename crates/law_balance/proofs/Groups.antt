-- Entries in groups are decided as the entries of all groups, one after the other.
use Rattle.std.proofs.Common.{◌≡◌, ◌∙◌, ℤ, List, [], ◌∷◌, ◌++◌, refl, sym, ap, subst}
use Rattle.std.specs.Prelude.{Result}
use Rattle.std.specs.List.{AllByRecursion, flat_map}
use Rattle.kr_defs.specs.Image.{Image}
use Rattle.kr_calls.specs.declared.deciding.Draft.{Draft}
use Rattle.kr_calls.specs.Deciding.{Work, one, after_all, answers, after_groups, group_answers}

module _ {E A : Type 0} (refused : ℤ → E → A) (rule : Image → ℤ → E → Result (Draft A) ℤ) where
  all_joined : (w : Work) (xs ys : List E) → after_all refused rule w (xs ++ ys) ≡ after_all refused rule (after_all refused rule w xs) ys
  all_joined w [] ys = refl
  all_joined w (x ∷ xs) ys = all_joined (one refused rule w x).0 xs ys

  answers_split : (P : A → Type 0) (w : Work) (xs ys : List E) → AllByRecursion P (answers refused rule w (xs ++ ys))
      → AllByRecursion P (answers refused rule w xs) × AllByRecursion P (answers refused rule (after_all refused rule w xs) ys)
  answers_split P w [] ys all = (tt, all)
  answers_split P w (x ∷ xs) ys all = let rest = answers_split P (one refused rule w x).0 xs ys all.1 in ((all.0, rest.0), rest.1)

  module _ {G B : Type 0} (entries_of : G → List E) (answer_of : G → List A → B) where
    pub groups_joined : (w : Work) (gs : List G) → after_groups refused rule entries_of answer_of w gs ≡ after_all refused rule w (flat_map entries_of gs)
    groups_joined w [] = refl
    groups_joined w (g ∷ gs) = groups_joined (after_all refused rule w (entries_of g)) gs ∙ sym (all_joined w (entries_of g) (flat_map entries_of gs))

    pub groups_answered : (P : A → Type 0) (Q : B → Type 0) → ((g : G) (given : List A) → AllByRecursion P given → Q (answer_of g given)) → (w : Work) (gs : List G)
        → AllByRecursion P (answers refused rule w (flat_map entries_of gs)) → AllByRecursion Q (group_answers refused rule entries_of answer_of w gs)
    groups_answered P Q each w [] all = tt
    groups_answered P Q each w (g ∷ gs) all =
        let parts = answers_split P w (entries_of g) (flat_map entries_of gs) all in
        (each g (answers refused rule w (entries_of g)) parts.0, groups_answered P Q each (after_all refused rule w (entries_of g)) gs parts.1)
