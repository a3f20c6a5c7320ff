-- Each change keeps the leaderships in order, and one that is over stays over.
use Rattle.std.proofs.Common.{◌≡◌, ◌∙◌, sym, ℕ, zero, suc, ◌+◌, ◌≤◌, Bool, true, false, List, [], ◌∷◌, ◌++◌, refl, ap, subst, arith, add-one}
use Rattle.std.proofs.lemmas.List.{append_assoc, append-nil}
use Rattle.std.proofs.lemmas.Bool.{eqb-true}
use Rattle.std.proofs.lemmas.Bool.Decides.{nat_tests}
use Rattle.std.specs.Prelude.{Option, None, Some, nat_eq}
use Rattle.law_quorum.specs.Batches.{Batch}
use Rattle.law_quorum.specs.Changes.{Append, Campaign, Change, Drop, Expire, Other, Leader, base_of_first, compares, is_leaderless, leads_by}
use Rattle.law_quorum.specs.History.{Leadership, Point, point_after, with_wrote}
use Rattle.law_quorum.specs.Laws.{AreBehind, CountDown, Fall, IsInOrder, IsLed}
use Rattle.law_quorum.proofs.KeptLog.{both, taken}

higher : (a b : ℕ) (ls : List Leadership) → a ≤ b → Fall a ls → Fall b ls
higher a b [] high f = tt
higher a b (l ∷ ls) high (here, f) = (omega arith, f)

counted : (n : ℕ) (batches : List Batch) (ls : List Leadership) → CountDown n ls → CountDown n (with_wrote batches ls)
counted n batches [] c = c
counted zero batches (l ∷ ls) c = c
counted (suc n) batches (l ∷ ls) c = c

fallen : (n : ℕ) (batches : List Batch) (ls : List Leadership) → Fall n ls → Fall n (with_wrote batches ls)
fallen n batches [] f = f
fallen n batches (l ∷ ls) f = f

still_led : (leader : Option Leader) (batches : List Batch) (ls : List Leadership) → IsLed leader ls → IsLed leader (with_wrote batches ls)
still_led None batches ls i = tt
still_led (Some leader) batches [] i = i
still_led (Some leader) batches (l ∷ ls) i = i

-- somebody leads, so there is a latest leadership, which goes on
longer : (leader : Option Leader) (made : ℕ) (log batches : List Batch) (ls : List Leadership) → leads_by leader made ≡ true → IsLed leader ls
    → AreBehind log ls → AreBehind (log ++ batches) (with_wrote batches ls)
longer None made log batches ls leads i a = absurd cc
longer (Some leader) made log batches [] leads i a = absurd i
longer (Some leader) made log batches (l ∷ ls) leads i (is, a) = (ap (λ x. x ++ batches) is ∙ append_assoc l.start l.wrote batches, a)

by : (p : Point) (change : Change) (holds : Bool) → compares p.keys change ≡ holds → IsInOrder p → IsInOrder (taken p change holds)
by p change false is h = record { epochs = h.epochs; pieces = h.pieces; made = h.made; led = h.led }
by p (Campaign node token epoch) true is h =
    let next : p.keys.epoch + 1 ≡ epoch = eqb-true (p.keys.epoch + 1) epoch (both (is_leaderless p.keys.leader) (nat_eq (p.keys.epoch + 1) epoch) is).1 in
    record {
      epochs = subst (λ n. CountDown n (taken p (Campaign node token epoch) true).leaderships) (sym (add-one p.keys.epoch) ∙ next)
          ((sym next ∙ add-one p.keys.epoch), h.epochs);
      pieces = (refl, h.pieces);
      made = (omega arith, h.made);
      led = (refl, refl, refl);
    }
by p (Append made batches) true is h =
    let leads = (both (leads_by p.keys.leader made) (nat_eq p.keys.end (base_of_first batches)) is).0 in
    record {
      epochs = counted p.keys.epoch batches p.leaderships h.epochs;
      pieces = longer p.keys.leader made p.log batches p.leaderships leads h.led h.pieces;
      made = fallen (p.keys.revision + 1 + 1) batches p.leaderships (higher (p.keys.revision + 1) (p.keys.revision + 1 + 1) p.leaderships (omega arith) h.made);
      led = still_led p.keys.leader batches p.leaderships h.led;
    }
by p (Drop before image) true is h = record {
  epochs = h.epochs;
  pieces = subst (λ l. AreBehind l p.leaderships) (sym (append-nil p.log)) h.pieces;
  made = higher (p.keys.revision + 1) (p.keys.revision + 1 + 1) p.leaderships (omega arith) h.made;
  led = h.led;
}
by p Expire true is h = record {
  epochs = h.epochs;
  pieces = subst (λ l. AreBehind l p.leaderships) (sym (append-nil p.log)) h.pieces;
  made = higher (p.keys.revision + 1) (p.keys.revision + 1 + 1) p.leaderships (omega arith) h.made;
  led = tt;
}
by p Other true is h = record {
  epochs = h.epochs;
  pieces = subst (λ l. AreBehind l p.leaderships) (sym (append-nil p.log)) h.pieces;
  made = higher (p.keys.revision + 1) (p.keys.revision + 1 + 1) p.leaderships (omega arith) h.made;
  led = h.led;
}

pub order_stays : (p : Point) (change : Change) → IsInOrder p → IsInOrder (point_after p change)
order_stays p change h = by p change (compares p.keys change) refl h

-- ---- what is over

pub record IsOver (made : ℕ) (p : Point) : Type 0 where
  pub past : made ≤ p.keys.revision
  pub over : leads_by p.keys.leader made ≡ false

over_by : (made : ℕ) (p : Point) (change : Change) (holds : Bool) → IsOver made p → IsOver made (taken p change holds)
over_by made p change false o = record { past = o.past; over = o.over }
over_by made p (Campaign node token epoch) true o = let past = o.past in record { past = omega arith; over = grind (arith, nat_tests) }
over_by made p (Append mine batches) true o = let past = o.past in record { past = omega arith; over = o.over }
over_by made p (Drop before image) true o = let past = o.past in record { past = omega arith; over = o.over }
over_by made p Expire true o = let past = o.past in record { past = omega arith; over = refl }
over_by made p Other true o = let past = o.past in record { past = omega arith; over = o.over }

pub over_stays : (made : ℕ) (p : Point) (change : Change) → IsOver made p → IsOver made (point_after p change)
over_stays made p change o = over_by made p change (compares p.keys change) o
