-- What is found in a list is a right entry in it.
use Rattle.std.proofs.Common.{◌≡◌, ℕ, ◌⊎◌, inl, inr, Bool, true, false, List, [], ◌∷◌, ◌++◌, Option, Some, None, fold, cond, refl, sym, ap, ◌∙◌, subst, ⊎_elim, append_assoc, append-nil, ◌==◌}
use Rattle.std.proofs.lemmas.Bool.{eqb-true}
use Rattle.kr_defs.specs.declared.options.Options.{Options}
use Rattle.kr_calls.specs.declared.events.Entry.{Entry}
use Rattle.kr_calls.specs.declared.events.Entry.TheVariants as entries
use Rattle.kr_calls.specs.declared.seat_entry.SeatEntry.{SeatEntry}
use Rattle.kr_calls.specs.declared.seat_entry.SeatEntry.TheVariants as told
use Rattle.kr_view.specs.declared.looks.Look.TheVariants.{Found}
use Rattle.kr_calls.specs.RightAnswers.{IsRightEntry, AreRightAfter, AreRight}
use Rattle.kr_calls.specs.SeatList.{entry_of, entry_seat, entry_ticket, is_older, last_with, last_of, newer_of, stop_of}
use Rattle.kr_view.specs.Looks.{looked, looked_at, without_entry, HasRightEntry, LookTells}

abbrev Stands : Options → ℕ → List Entry → List Entry → SeatEntry → Type 0
Stands o s before list a = (mid : List Entry) × (rest : List Entry) × (list ≡ mid ++ entry_of a ∷ rest) × (entry_seat a ≡ s) × IsRightEntry o (before ++ mid) (entry_of a)

-- the first entry gave it, or it was there before
first : (o : Options) (s : ℕ) (before es : List Entry) (b a : SeatEntry) (last : Option SeatEntry) → IsRightEntry o before (entry_of b) → (t : Bool) → (entry_seat b == s) ≡ t → (u : Bool) → cond t (cond u last (Some b)) last ≡ Some a → (last ≡ Some a) ⊎ Stands o s before (entry_of b ∷ es) a
first o s before es b a last right true is false h =
    let same : b ≡ a = cc in
    inr ([], es, ap (λ x. entry_of x ∷ es) same, ap (λ (x : SeatEntry). entry_seat x) (sym same) ∙ eqb-true (entry_seat b) s is, subst (λ (x : SeatEntry). IsRightEntry o (before ++ []) (entry_of x)) same (rw append-nil right))
first o s before es b a last right true is true h = inl h
first o s before es b a last right false is u h = inl h

told_here : (o : Options) (s : ℕ) (before es : List Entry) (b : SeatEntry) (last : Option SeatEntry) (a : SeatEntry) → IsRightEntry o before (entry_of b) → newer_of s last b ≡ Some a → (last ≡ Some a) ⊎ Stands o s before (entry_of b ∷ es) a
told_here o s before es b last a right h = first o s before es b a last right (entry_seat b == s) refl (is_older b last) h

here : (o : Options) (s : ℕ) (before : List Entry) (e : Entry) (es : List Entry) (last : Option SeatEntry) (a : SeatEntry) → IsRightEntry o before e → last_with s last e ≡ Some a → (last ≡ Some a) ⊎ Stands o s before (e ∷ es) a
here o s before (entries.Item p n) es last a right h = inl h
here o s before (entries.Load p n) es last a right h = inl h
here o s before (entries.Pin pin) es last a right h = told_here o s before es (told.Pin pin) last a right h
here o s before (entries.Unpin pin) es last a right h = told_here o s before es (told.Unpin pin) last a right h
here o s before (entries.Answer answer) es last a right h = told_here o s before es (told.Answer answer) last a right h
here o s before (entries.Stop n) es last a right h = inl h

find : (o : Options) (s : ℕ) (before list : List Entry) (last : Option SeatEntry) (a : SeatEntry) → AreRightAfter o before list → fold (last_with s) last list ≡ Some a → (last ≡ Some a) ⊎ Stands o s before list a
find o s before [] last a right h = inl h
find o s before (e ∷ es) last a right h =
    ⊎_elim (λ (x : last_with s last e ≡ Some a). here o s before e es last a right.0 x)
    (λ (x : Stands o s (before ++ e ∷ []) es a). inr (e ∷ x.0, x.1, ap (λ l. e ∷ l) x.2, x.3, subst (λ l. IsRightEntry o l (entry_of a)) (append_assoc before (e ∷ []) x.0) x.4))
    (find o s (before ++ e ∷ []) es (last_with s last e) a right.1 h)

found : (o : Options) (s : ℕ) (list : List Entry) (a : SeatEntry) → AreRight o list → last_of s list ≡ Some a → HasRightEntry o list (entry_of a) × (entry_seat a ≡ s)
found o s list a right h =
    ⊎_elim (λ (x : None ≡ Some a). absurd cc) (λ (x : Stands o s [] list a). ((x.0, x.1, x.2, x.4), x.3)) (find o s [] list None a right h)

unfound : (o : Options) (s t : ℕ) (list : List Entry) (stop : Option ℕ) → stop_of list ≡ stop → LookTells o s t list (without_entry stop)
unfound o s t list (Some n) h = h
unfound o s t list None h = tt

at : (o : Options) (s t : ℕ) (list : List Entry) (a : SeatEntry) → AreRight o list → last_of s list ≡ Some a → (b : Bool) → (entry_ticket a == t) ≡ b → LookTells o s t list (cond b (Found a) (without_entry (stop_of list)))
at o s t list a right h true is = let f = found o s list a right h in (f.0, f.1, eqb-true (entry_ticket a) t is)
at o s t list a right h false is = unfound o s t list (stop_of list) refl

by_last : (o : Options) (s t : ℕ) (list : List Entry) (last : Option SeatEntry) → AreRight o list → last_of s list ≡ last → LookTells o s t list (looked_at last (stop_of list) t)
by_last o s t list None right h = unfound o s t list (stop_of list) refl
by_last o s t list (Some a) right h = at o s t list a right h (entry_ticket a == t) refl

pub tells : (o : Options) (s t : ℕ) (list : List Entry) → AreRight o list → LookTells o s t list (looked s t list)
tells o s t list right = by_last o s t list (last_of s list) right refl
