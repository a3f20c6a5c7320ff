-- What a copy holds after one step more is what its entries then say.
use Rattle.std.proofs.Common.{◌≡◌, ℕ, List, [], ◌∷◌, ◌++◌, Option, None, fold, refl, sym, ap, ◌∙◌, subst}
use Rattle.kr_calls.specs.declared.seat_entry.SeatEntry.{SeatEntry}
use Rattle.kr_calls.specs.declared.events.Entry.{Entry}
use Rattle.kr_calls.specs.SeatList.{PinnedLog, loads_with, nothing_pinned, pinned_with, stop_with}
use Rattle.kr_view.specs.declared.run.Step.{Step}
use Rattle.kr_view.specs.Showing.{HoldsEntries}
use Rattle.kr_view.specs.Steps.{entries_of, entries_in, with_entries}
use Rattle.kr_view.specs.Tables.{noted, noted_with, nothing_told, told_among}
use Rattle.kr_view.proofs.Tables.{noted_alike}

fold_on : {A B : Type 0} (f : B → A → B) (b : B) (xs ys : List A) → fold f b (xs ++ ys) ≡ fold f (fold f b xs) ys
fold_on f b [] ys = refl
fold_on f b (x ∷ xs) ys = fold_on f (f b x) xs ys

pub held_more : (at after : PinnedLog) (told table : List (Option SeatEntry)) (first stop : Option ℕ) (before_loads loads : ℕ) (history more : List Step) (step : Step) → HoldsEntries at told first before_loads (entries_in history) → after ≡ fold pinned_with at (entries_of step) → table ≡ fold noted told (told_among (entries_of step)) → stop ≡ fold stop_with first (entries_of step)
    → loads ≡ fold loads_with before_loads (entries_of step) → more ≡ history ++ step ∷ [] → HoldsEntries after table stop loads (entries_in more)
held_more at after told table first stop before_loads loads history more step held a t s l m =
    let before : List Entry = entries_in history in
    let new : List Entry = entries_of step in
    let is : entries_in more ≡ before ++ new = ap (λ (l : List Step). entries_in l) m ∙ fold_on with_entries [] history (step ∷ []) in
    subst (λ (l : List Entry). HoldsEntries after table stop loads l) (sym is) (record {
      standing = a ∙ ap (λ (x : PinnedLog). fold pinned_with x new) held.standing ∙ sym (fold_on pinned_with nothing_pinned before new);
      table = t ∙ noted_alike told new ∙ ap (λ (u : List (Option SeatEntry)). fold noted_with u new) held.table ∙ sym (fold_on noted_with nothing_told before new);
      stop = s ∙ ap (λ (o : Option ℕ). fold stop_with o new) held.stop ∙ sym (fold_on stop_with None before new);
      loads_so_far = l ∙ ap (λ (n : ℕ). fold loads_with n new) held.loads_so_far ∙ sym (fold_on loads_with 0 before new);
    })
