-- The laws, over whole histories.
use Rattle.std.proofs.Common.{◌≡◌, ◌∙◌, sym, ℕ, Bool, true, false, cond, List, [], ◌∷◌, ◌++◌, refl, ap}
use Rattle.std.proofs.lemmas.List.{append_assoc, append-nil}
use Rattle.std.specs.Prelude.{nat_eq, ◌&&◌, fold}
use Rattle.law_quorum.specs.Batches.{Batch}
use Rattle.law_quorum.specs.Changes.{Change, base_of_first, compares, leads_by}
use Rattle.law_quorum.specs.History.{AreSent, Point, batches_appended, point_after, no_history, point}
use Rattle.law_quorum.specs.Laws.{IsInOrder, IsOneLog, LogOnlyGrows, OneLog, OverIsOver}
use Rattle.law_quorum.proofs.KeptLog.{one_log_stays}
use Rattle.law_quorum.proofs.LeadershipOrder.{IsOver, order_stays, over_stays}

pub fold_append : {A B : Type 0} (f : B → A → B) (b : B) (xs ys : List A) → fold f b (xs ++ ys) ≡ fold f (fold f b xs) ys
fold_append f b [] ys = refl
fold_append f b (x ∷ xs) ys = fold_append f (f b x) xs ys

-- ---- one log

module _ (make : List Batch → List ℕ) where
  pub one_from : (p : Point) (history : List Change) → IsOneLog make p → AreSent make p history → IsOneLog make (fold point_after p history)
  one_from p [] h sent = h
  one_from p (change ∷ history) h (first, sent) = one_from (point_after p change) history (one_log_stays make p change h first) sent

  pub one_at_first : IsOneLog make no_history
  one_at_first = record {
    meet = tt;
    end = refl;
    gone = [];
    kept = [];
    split = refl;
    offset = refl;
    image = refl;
    stand = tt;
    known = λ place b is. absurd cc;
  }

pub order_from : (p : Point) (history : List Change) → IsInOrder p → IsInOrder (fold point_after p history)
order_from p [] h = h
order_from p (change ∷ history) h = order_from (point_after p change) history (order_stays p change h)

pub order_at_first : IsInOrder no_history
order_at_first = record { epochs = refl; pieces = refl; made = tt; led = tt }

pub one_log : OneLog
one_log make history sent = (one_from make no_history history (one_at_first make) sent, order_from no_history history order_at_first)

-- ---- it grows

grown : (p : Point) (change : Change) (holds : Bool) → (more : List Batch) × (cond holds (p.log ++ batches_appended change) p.log ≡ p.log ++ more)
grown p change true = (batches_appended change, refl)
grown p change false = ([], sym (append-nil p.log))

pub grows_from : (p : Point) (history : List Change) → (more : List Batch) × ((fold point_after p history).log ≡ p.log ++ more)
grows_from p [] = ([], sym (append-nil p.log))
grows_from p (change ∷ history) =
    let first = grown p change (compares p.keys change) in
    let rest = grows_from (point_after p change) history in
    (first.0 ++ rest.0, rest.1 ∙ (ap (λ l. l ++ rest.0) first.1 ∙ append_assoc p.log first.0 rest.0))

pub log_only_grows : LogOnlyGrows
log_only_grows history later =
    let r = grows_from (point history) later in
    (r.0, ap (λ (p : Point). p.log) (fold_append point_after no_history history later) ∙ r.1)

-- ---- what is over stays over

over_from : (made : ℕ) (p : Point) (history : List Change) → IsOver made p → IsOver made (fold point_after p history)
over_from made p [] o = o
over_from made p (change ∷ history) o = over_from made (point_after p change) history (over_stays made p change o)

pub over_is_over : OverIsOver
over_is_over history later made batches past over =
    let o = over_from made (point history) later (record { past = past; over = over }) in
    let there : point (history ++ later) ≡ fold point_after (point history) later = fold_append point_after no_history history later in
    ap (λ (p : Point). leads_by p.keys.leader made && nat_eq p.keys.end (base_of_first batches)) there
    ∙ ap (λ b. b && nat_eq (fold point_after (point history) later).keys.end (base_of_first batches)) o.over
