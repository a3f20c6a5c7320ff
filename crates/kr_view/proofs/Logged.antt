-- Entries that are neither answers nor pins are right wherever they come.
use Rattle.std.proofs.Common.{◌≡◌, ℤ, true, false, true≢false, List, [], ◌∷◌, ◌++◌, cond, sym, subst}
use Rattle.std.specs.List.{AllByRecursion}
use Rattle.std.proofs.lemmas.List.Elements.{recursion_from_All}
use Rattle.kr_defs.specs.declared.options.Options.{Options}
use Rattle.kr_calls.specs.declared.events.Entry.{Entry}
use Rattle.kr_calls.specs.declared.events.Entry.TheVariants as entries
use Rattle.kr_calls.specs.RightAnswers.{IsRightEntry, AreRightAfter}
use Rattle.kr_calls.specs.SeatList.{IsClosedList, is_below}
use Rattle.kr_view.specs.Staged.{is_begin, is_logged, staged_below}
use Rattle.kr_view.specs.StagedLaws.{LoggedEntriesAreRight, PlainEntriesAreRight, is_plain_entry}
use Rattle.kr_view.proofs.ClosedLists.{stays_closed}

abbrev Plain : List Entry → Type 0
Plain list = AllByRecursion (λ e. is_plain_entry e ≡ true) list

right : (o : Options) (before : List Entry) (e : Entry) → is_plain_entry e ≡ true → IsRightEntry o before e
right o before (entries.Item place item) is = tt
right o before (entries.Load offset records) is = tt
right o before (entries.Pin pin) is = absurd (true≢false (sym is))
right o before (entries.Unpin pin) is = tt
right o before (entries.Answer answer) is = absurd (true≢false (sym is))
right o before (entries.Stop number) is = tt

rights : (o : Options) (before list : List Entry) → Plain list → AreRightAfter o before list
rights o before [] all = tt
rights o before (e ∷ es) all = (right o before e all.0, rights o (before ++ e ∷ []) es all.1)

below_end : (end : ℤ) (list : List Entry) → Plain list → Plain (staged_below end list)
below_end end [] all = tt
below_end end (e ∷ es) all = elim (is_below end e) as (λ b. Plain (cond b (e ∷ staged_below end es) [])) [ true ↦ (all.0, below_end end es all.1) | false ↦ tt ]

both : (xs ys : List Entry) → Plain xs → Plain ys → Plain (xs ++ ys)
both [] ys a b = b
both (x ∷ xs) ys a b = (a.0, both xs ys a.1 b)

shown : (o : Options) (before waiting items notes : List Entry) (end : ℤ) → waiting ≡ [] → Plain items → Plain notes → AreRightAfter o before (waiting ++ staged_below end items ++ notes)
shown o before waiting items notes end none a b =
    subst (λ (l : List Entry). AreRightAfter o before (l ++ staged_below end items ++ notes)) (sym none) (rights o before (staged_below end items ++ notes) (both (staged_below end items) notes (below_end end items a) b))

abbrev Without : List Entry → Type 0
Without list = AllByRecursion (λ e. is_begin e ≡ false) list

without_below : (end : ℤ) (list : List Entry) → Without list → Without (staged_below end list)
without_below end [] all = tt
without_below end (e ∷ es) all = elim (is_below end e) as (λ b. Without (cond b (e ∷ staged_below end es) [])) [ true ↦ (all.0, without_below end es all.1) | false ↦ tt ]

without_both : (xs ys : List Entry) → Without xs → Without ys → Without (xs ++ ys)
without_both [] ys a b = b
without_both (x ∷ xs) ys a b = (a.0, without_both xs ys a.1 b)

closed_shown : (before waiting items notes : List Entry) (end : ℤ) → IsClosedList before → waiting ≡ [] → Without items → Without notes → IsClosedList (before ++ (waiting ++ staged_below end items ++ notes))
closed_shown before waiting items notes end closed none a b =
    subst (λ (l : List Entry). IsClosedList (before ++ (l ++ staged_below end items ++ notes))) (sym none) (stays_closed before (staged_below end items ++ notes) closed (without_both (staged_below end items) notes (without_below end items a) b))

pub are_plainly_right : PlainEntriesAreRight
are_plainly_right end s is = record {
  right = shown s.options s.list s.waiting s.items s.notes end is.waiting (recursion_from_All (λ (e : Entry). is_plain_entry e ≡ true) s.items is.items) (recursion_from_All (λ (e : Entry). is_plain_entry e ≡ true) s.notes is.notes);
  closed = closed_shown s.list s.waiting s.items s.notes end is.closed is.waiting (recursion_from_All (λ (e : Entry). is_begin e ≡ false) s.items is.begins) (recursion_from_All (λ (e : Entry). is_begin e ≡ false) s.notes is.no_begins);
}

logged_plain : (e : Entry) → is_logged e ≡ true → is_plain_entry e ≡ true
logged_plain (entries.Item place item) is = is
logged_plain (entries.Load offset records) is = is
logged_plain (entries.Pin pin) is = absurd (true≢false (sym is))
logged_plain (entries.Unpin pin) is = absurd (true≢false (sym is))
logged_plain (entries.Answer answer) is = absurd (true≢false (sym is))
logged_plain (entries.Stop number) is = absurd (true≢false (sym is))

all_plain : (list : List Entry) → AllByRecursion (λ e. is_logged e ≡ true) list → Plain list
all_plain [] all = tt
all_plain (e ∷ es) all = (logged_plain e all.0, all_plain es all.1)

pub are_right : LoggedEntriesAreRight
are_right end s is = record {
  right = shown s.options s.list s.waiting s.items s.notes end is.waiting (all_plain s.items (recursion_from_All (λ (e : Entry). is_logged e ≡ true) s.items is.items)) (subst Plain (sym is.notes) tt);
  closed = closed_shown s.list s.waiting s.items s.notes end is.closed is.waiting (recursion_from_All (λ (e : Entry). is_begin e ≡ false) s.items is.begins) (subst Without (sym is.notes) tt);
}
