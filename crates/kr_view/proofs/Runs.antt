-- The end rises where a run of entries changes the image.
use Rattle.std.proofs.Common.{◌≡◌, ◌≢◌, ◌⊎◌, inl, inr, ⊎_elim, ℕ, ℤ, pos, Bool, true, false, ◌&&◌, cond, true≢false, List, [], ◌∷◌, ◌+◌, ◌<◌, suc, length, get_or, drop, add-one, drop-cons, fold, refl, sym, ap, ◌∙◌, subst, arith}
use Rattle.std.proofs.lemmas.Int.{ints}
use Rattle.std.proofs.lemmas.List.Elements.{All-head, All-tail}
use Rattle.std.proofs.lemmas.Bool.Decides.{Decides-int_eq}
use Rattle.std.specs.Prelude.{◌+ℤ◌, int_lt, unsigned_abs, Result, Ok, Err}
use Rattle.std.specs.Ordering.{int_eq}
use Rattle.kr_defs.specs.declared.ill.Ill.{Ill}
use Rattle.kr_defs.specs.declared.limits.TheConstants.{PLACES_END}
use Rattle.kr_defs.specs.LogStates.{LogState, apply_at}
use Rattle.kr_calls.specs.declared.events.Entry.{Entry}
use Rattle.kr_calls.specs.declared.events.Entry.TheVariants as entries
use Rattle.kr_calls.specs.SeatList.{PinnedLog, Reached, loads_with, pinned_with, with_outcome}
use Rattle.kr_view.specs.Runs.{is_single, AreNoSingles}
use Rattle.kr_view.specs.Standing.{run_with, with_run}

-- an entry more of a run
pub run_more : (entries : List Entry) (i : ℕ) (e : Entry) (now new all : Reached) → i < length entries → e ≡ get_or entries i e → new ≡ run_with now e → fold run_with now (drop i entries) ≡ all → fold run_with new (drop (i + 1) entries) ≡ all
run_more entries i e now new all more is one before =
    let step : drop i entries ≡ e ∷ drop (i + 1) entries = rw (add-one, drop-cons entries i e) (ap (λ (y : Entry). y ∷ drop (suc i) entries) (sym is)) in
    ap (λ (r : Reached). fold run_with r (drop (i + 1) entries)) one ∙ ap (λ (es : List Entry). fold run_with now es) (sym step) ∙ before

abbrev Rises : Reached → Reached → Type 0
Rises r after = (after ≡ r) ⊎ (int_lt r.end after.end ≡ true)

below_next : (place end : ℤ) → place ≡ end → int_lt end (place +ℤ pos 1) ≡ true
below_next place end same = grind (arith, ints)

through : (a b c : ℤ) → int_lt a b ≡ true → int_lt b c ≡ true → int_lt a c ≡ true
through a b c p q = grind (arith, ints)

at_end : (r : Reached) (place : ℤ) (result : Result LogState Ill) (is : Bool) → int_eq place r.end ≡ is → (low : Bool) → Rises r (cond (is && low) (with_outcome r (place +ℤ pos 1) result) r)
at_end r place (Ok state) true is true = inr (below_next place r.end ((Decides-int_eq place r.end).0 is))
at_end r place (Err cause) true is true = inl refl
at_end r place result true is false = inl refl
at_end r place result false is low = inl refl

one : (r : Reached) (e : Entry) → Rises r (run_with r e)
one r (entries.Item place item) = at_end r place (apply_at r.state (unsigned_abs place) item) (int_eq place r.end) refl (int_lt place PLACES_END)
one r (entries.Load offset records) = inl refl
one r (entries.Pin pin) = inl refl
one r (entries.Unpin pin) = inl refl
one r (entries.Answer answer) = inl refl
one r (entries.Stop number) = inl refl

both : (r s t : Reached) → Rises r s → Rises s t → Rises r t
both r s t p q =
    ⊎_elim (λ (same : s ≡ r). subst (λ (x : Reached). Rises x t) same q)
    (λ (up : int_lt r.end s.end ≡ true).
    ⊎_elim (λ (same : t ≡ s). inr (subst (λ (x : Reached). int_lt r.end x.end ≡ true) (sym same) up))
    (λ (on : int_lt s.end t.end ≡ true). inr (through r.end s.end t.end up on)) q)
    p

pub risen : (r : Reached) (es : List Entry) → Rises r (fold run_with r es)
risen r [] = inl refl
risen r (e ∷ es) = both r (run_with r e) (fold run_with (run_with r e) es) (one r e) (risen (run_with r e) es)

not_itself : (z : ℤ) → int_lt z z ≡ true → ⊥
not_itself z h = grind (arith, ints)

pub still_there : (r : Reached) (es : List Entry) → (fold run_with r es).end ≡ r.end → fold run_with r es ≡ r
still_there r es same =
    ⊎_elim (λ (is : fold run_with r es ≡ r). is)
    (λ (up : int_lt r.end (fold run_with r es).end ≡ true). absurd (not_itself r.end (subst (λ (z : ℤ). int_lt r.end z ≡ true) same up)))
    (risen r es)

pub gone_on : (r : Reached) (es : List Entry) → (fold run_with r es).end ≢ r.end → int_lt r.end (fold run_with r es).end ≡ true
gone_on r es other =
    ⊎_elim (λ (is : fold run_with r es ≡ r). absurd (other (ap (λ (x : Reached). x.end) is))) (λ (up : int_lt r.end (fold run_with r es).end ≡ true). up) (risen r es)

alike : (l : PinnedLog) (e : Entry) → is_single e ≡ false → record l { at = run_with l.at e } ≡ pinned_with l e
alike l (entries.Item place item) plain = refl
alike l (entries.Load offset records) plain = absurd (true≢false plain)
alike l (entries.Pin pin) plain = absurd (true≢false plain)
alike l (entries.Unpin pin) plain = absurd (true≢false plain)
alike l (entries.Answer answer) plain = refl
alike l (entries.Stop number) plain = refl

-- a run is what its entries say
pub run_is_log : (l : PinnedLog) (es : List Entry) → AreNoSingles es → with_run l es ≡ fold pinned_with l es
run_is_log l [] plain = refl
run_is_log l (e ∷ es) plain =
    ap (λ (x : PinnedLog). with_run x es) (alike l e (All-head (λ (x : Entry). is_single x ≡ false) e es plain)) ∙ run_is_log (pinned_with l e) es (All-tail (λ (x : Entry). is_single x ≡ false) e es plain)

plain_entry : (n : ℕ) (e : Entry) → is_single e ≡ false → loads_with n e ≡ n
plain_entry n (entries.Item place item) plain = refl
plain_entry n (entries.Load offset records) plain = absurd (true≢false plain)
plain_entry n (entries.Pin pin) plain = refl
plain_entry n (entries.Unpin pin) plain = refl
plain_entry n (entries.Answer answer) plain = refl
plain_entry n (entries.Stop number) plain = refl

-- a run has no image in place of all
pub no_loads : (n : ℕ) (es : List Entry) → AreNoSingles es → n ≡ fold loads_with n es
no_loads n [] plain = refl
no_loads n (e ∷ es) plain =
    no_loads n es (All-tail (λ (x : Entry). is_single x ≡ false) e es plain) ∙ ap (λ m. fold loads_with m es) (sym (plain_entry n e (All-head (λ (x : Entry). is_single x ≡ false) e es plain)))
