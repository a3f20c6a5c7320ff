-- Each step keeps the copies rule.
use Rattle.std.proofs.Common.{◌≡◌, ◌≢◌, ℕ, true, true≢false, List, [], ◌∷◌, ◌++◌, set, sym, refl, ap, ◌∙◌, subst, ⊎_elim, append_assoc, append-nil}
use mathlib.Core.Option.{some}
use lib.ListN.{get_elem?}
use Rattle.left_right.specs.Register.{Admits, TurnsAt, Forks, Merges}
use Rattle.atomic_table.proofs.Lists.{at_set, at_snoc}
use Rattle.kr_defs.specs.declared.options.Options.{Options}
use Rattle.kr_calls.specs.declared.events.Entry.{Entry}
use Rattle.kr_view.specs.declared.rule.ThreadView.{ThreadView}
use Rattle.kr_calls.specs.RightAnswers.{AreRightAfter, AreRight}
use Rattle.kr_calls.specs.SeatList.{IsClosedList}
use Rattle.kr_view.specs.AtomicSteps.{SeatIsMade, Publishes, Enters}
use Rattle.kr_view.specs.CopiesRule.{seen, unseen, FitsShowing, CopiesRuleHolds, GoesOn, Saw}
use Rattle.kr_view.specs.Showing.{Showing, showing, showing_more}

pub goes-on-trans : (a b c : List Entry) → GoesOn a b → GoesOn b c → GoesOn a c
goes-on-trans a b c p q = (q.0 ++ p.0, p.1 ∙ ap (λ l. l ++ p.0) q.1 ∙ append_assoc c q.0 p.0)

pub goes-on-refl : (a : List Entry) → GoesOn a a
goes-on-refl a = ([], sym (append-nil a))

pub right-append : (o : Options) (before xs ys : List Entry) → AreRightAfter o before xs → AreRightAfter o (before ++ xs) ys → AreRightAfter o before (xs ++ ys)
right-append o before [] ys a b = subst (λ l. AreRightAfter o l ys) (append-nil before) b
right-append o before (x ∷ xs) ys a b = (a.0, right-append o (before ++ x ∷ []) xs ys a.1 (subst (λ l. AreRightAfter o l ys) (sym (append_assoc before (x ∷ []) xs)) b))

set_fits : (x : Showing) (views : List ThreadView) (pass : ℕ) (w : ThreadView) → ((j : ℕ) (u : ThreadView) → j ≢ pass → get_elem? views j ≡ some u → FitsShowing x u) → FitsShowing x w → (j : ℕ) (u : ThreadView) → get_elem? (set views pass w) j ≡ some u → FitsShowing x u
set_fits x views pass w old new j u e =
    ⊎_elim (λ (t : (j ≡ pass) × (w ≡ u)). subst (FitsShowing x) t.1 new) (λ (t : (j ≢ pass) × (get_elem? views j ≡ some u)). old j u t.0 t.1) (at_set views pass j w u e)

-- a new view
fresh : (x : Showing) → FitsShowing x unseen
fresh x = record { begins = (x.list, refl); options = λ e. absurd (true≢false (sym e)) }

pub admits : Admits CopiesRuleHolds unseen
admits x views h = record {
  right = h.right;
  closed = h.closed;
  fits = λ j u e. ⊎_elim (h.fits j u) (λ (is : unseen ≡ u). subst (FitsShowing x) is (fresh x)) (at_snoc views unseen u j e);
}

-- what was seen stays a beginning of what is shown, where that goes on
onward : (x y : Showing) (u : ThreadView) → y.options ≡ x.options → GoesOn y.list x.list → FitsShowing x u → FitsShowing y u
onward x y u same more fits = record { begins = goes-on-trans y.list x.list u.list more fits.begins; options = λ s. fits.options s ∙ sym same }

-- what is shown goes on, and one thread sees all of it
turned : (x y : Showing) (views : List ThreadView) (number : ℕ) → y.options ≡ x.options → GoesOn y.list x.list → AreRight y.options y.list → IsClosedList y.list → CopiesRuleHolds x views → CopiesRuleHolds y (set views number (seen true y.options y.list))
turned x y views number same more right closed h = record {
  right = right;
  closed = closed;
  fits = set_fits y views number (seen true y.options y.list) (λ j u _ e. onward x y u same more (h.fits j u e)) (record { begins = goes-on-refl y.list; options = λ _. refl });
}

pub turns : (pass : ℕ) (v : ThreadView) (x y : Showing) → y.options ≡ x.options → GoesOn y.list x.list → (AreRight x.options x.list → AreRight y.options y.list) → (IsClosedList x.list → IsClosedList y.list) → TurnsAt CopiesRuleHolds pass v x y Saw
turns pass v x y same more right closed views h at =
    let all : AreRight y.options y.list = right h.right in
    let mine : FitsShowing y v = onward x y v same more (h.fits pass v at) in
    (seen true y.options y.list, turned x y views pass same more all (closed h.closed) h, record { later = mine.begins; is = refl; right = all; closed = closed h.closed; same = mine.options })

pub forks : (pass : ℕ) (v : ThreadView) → Forks CopiesRuleHolds pass v v v
forks pass v x views h at = record {
  right = h.right;
  closed = h.closed;
  fits = λ j u e. ⊎_elim (set_fits x views pass v (λ i t _ at'. h.fits i t at') (h.fits pass v at) j u) (λ (is : v ≡ u). subst (FitsShowing x) is (h.fits pass v at)) (at_snoc (set views pass v) v u j e);
}

pub merges : (pass : ℕ) (v : ThreadView) (other : ℕ) (w : ThreadView) → Merges CopiesRuleHolds pass v other w w unseen
merges pass v other w x views h at apart there =
    let theirs : FitsShowing x w = ⊎_elim (λ (t : (other ≡ pass) × (w ≡ w)). absurd (apart t.0)) (λ (t : (other ≢ pass) × (get_elem? views other ≡ some w)). h.fits other w t.1) (at_set views pass other w w there) in
    record {
      right = h.right;
      closed = h.closed;
      fits = set_fits x (set views pass w) other unseen (λ j u _ e. set_fits x views pass w (λ i t _ at'. h.fits i t at') theirs j u e) (fresh x);
    }

-- ---- the steps, as the law says them

pub seat_is_made : SeatIsMade
seat_is_made o views h =
    let v : ThreadView = seen true o [] in
    let new : FitsShowing (showing o []) v = record { begins = goes-on-refl []; options = λ _. refl } in
    record {
      right = h.right;
      closed = h.closed;
      fits = λ j u e. ⊎_elim (h.fits j u) (λ (is : v ≡ u). subst (FitsShowing (showing o [])) is new) (at_snoc views v u j e);
    }

pub publishes : Publishes
publishes x views number v more may at h = turned x (showing_more x more) views number refl (more, refl) (right-append x.options [] x.list more h.right may.right) may.closed h

pub enters : Enters
enters x views number v at h = turned x x views number refl (goes-on-refl x.list) h.right h.closed h
