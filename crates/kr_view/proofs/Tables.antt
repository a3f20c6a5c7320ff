-- The table of the copies has what each seat was told last.
use Rattle.std.proofs.Common.{◌≡◌, ℕ, ◌<◌, Bool, true, false, List, [], ◌∷◌, Option, Some, None, length, get_or, set, fold, refl, ap, ◌∙◌, ◌==◌, cond, arith, length-set, slice_index_or}
use Rattle.std.proofs.lemmas.Grind.{common_steps}
use Rattle.std.proofs.lemmas.List.{length-replicate, get_or-replicate}
use Rattle.kr_calls.specs.declared.events.Entry.{Entry}
use Rattle.kr_calls.specs.declared.events.Entry.TheVariants as entries
use Rattle.kr_calls.specs.declared.seat_entry.SeatEntry.{SeatEntry}
use Rattle.kr_calls.specs.declared.seat_entry.SeatEntry.TheVariants as told
use Rattle.kr_calls.specs.SeatList.{entry_seat, is_older, newer, newer_of, last_with, last_of}
use Rattle.kr_view.specs.Tables.{noted, noted_if, noted_with, nothing_told, table_of, told_among, told_by, told_more, with_entry}

-- one entry more, at a seat of the table
one_more : (k seat : ℕ) (t : List (Option SeatEntry)) (a : SeatEntry) → k < length t → (old : Bool) → is_older a (get_or t seat None) ≡ old → (own : Bool) → (seat == k) ≡ own
    → get_or (cond old t (set t seat (Some a))) k None ≡ cond own (newer (get_or t k None) a) (get_or t k None)
one_more k seat t a h true is true own = grind (arith, common_steps)
one_more k seat t a h true is false own = refl
one_more k seat t a h false is true own = grind (arith, common_steps)
one_more k seat t a h false is false own = grind (arith, common_steps)

told_one : (k : ℕ) (t : List (Option SeatEntry)) (a : SeatEntry) → k < length t → get_or (noted t a) k None ≡ newer_of k (get_or t k None) a
told_one k t a h = one_more k (entry_seat a) t a h (is_older a (get_or t (entry_seat a) None)) refl (entry_seat a == k) refl

step : (k : ℕ) (t : List (Option SeatEntry)) (e : Entry) → k < length t → get_or (noted_with t e) k None ≡ last_with k (get_or t k None) e
step k t (entries.Item place item) h = refl
step k t (entries.Load offset records) h = refl
step k t (entries.Pin pin) h = told_one k t (told.Pin pin) h
step k t (entries.Unpin pin) h = told_one k t (told.Unpin pin) h
step k t (entries.Answer answer) h = told_one k t (told.Answer answer) h
step k t (entries.Stop number) h = refl

kept_by : (t : List (Option SeatEntry)) (seat : ℕ) (a : SeatEntry) (old : Bool) → length (cond old t (set t seat (Some a))) ≡ length t
kept_by t seat a true = refl
kept_by t seat a false = length-set t seat (Some a)

kept_if : (t : List (Option SeatEntry)) (o : Option SeatEntry) → length (noted_if t o) ≡ length t
kept_if t None = refl
kept_if t (Some a) = kept_by t (entry_seat a) a (is_older a (get_or t (entry_seat a) None))

kept : (t : List (Option SeatEntry)) (e : Entry) → length (noted_with t e) ≡ length t
kept t e = kept_if t (told_by e)

long : (t : List (Option SeatEntry)) (list : List Entry) → length (fold noted_with t list) ≡ length t
long t [] = refl
long t (e ∷ es) = long (noted_with t e) es ∙ kept t e

at : (k : ℕ) (t : List (Option SeatEntry)) (list : List Entry) → k < length t → get_or (fold noted_with t list) k None ≡ fold (last_with k) (get_or t k None) list
at k t [] h = refl
at k t (e ∷ es) h = at k (noted_with t e) es (let n = kept t e in omega arith) ∙ ap (λ o. fold (last_with k) o es) (step k t e h)

-- the same, as the copies hold it
pub entry_at : (k : ℕ) (list : List Entry) → k < 65 → slice_index_or (table_of list) k None ≡ last_of k list
entry_at k list h = at k nothing_told list (rw length-replicate h) ∙ ap (λ o. fold (last_with k) o list) (get_or-replicate 65 k None None h)

pub table_long : (list : List Entry) → length (table_of list) ≡ 65
table_long list = long nothing_told list ∙ length-replicate {A = Option SeatEntry} 65 None

-- what the entries tell the seats, noted one after the other
one_gathered : (t : List (Option SeatEntry)) (before : List SeatEntry) (o : Option SeatEntry) → fold noted t (told_more before o) ≡ noted_if (fold noted t before) o
one_gathered t before None = refl
one_gathered t before (Some a) = grind (arith, common_steps)

gathered : (t : List (Option SeatEntry)) (before : List SeatEntry) (list : List Entry) → fold noted t (fold with_entry before list) ≡ fold noted_with (fold noted t before) list
gathered t before [] = refl
gathered t before (e ∷ es) = gathered t (told_more before (told_by e)) es ∙ ap (λ u. fold noted_with u es) (one_gathered t before (told_by e))

pub noted_alike : (t : List (Option SeatEntry)) (list : List Entry) → fold noted t (told_among list) ≡ fold noted_with t list
noted_alike t list = gathered t [] list
