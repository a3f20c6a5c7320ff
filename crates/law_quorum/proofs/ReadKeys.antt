-- What was read, and what the log tells of it.
use Rattle.std.proofs.Common.{zero, suc, append-nil, ◌≡◌, ◌∙◌, sym, ℕ, ◌<◌, ◌≤◌, Bool, true, false, List, [], ◌∷◌, ◌++◌, refl, ap, subst, arith, inl, inr, ◌⊎◌}
use Rattle.std.proofs.lemmas.List.{append_assoc}
use Rattle.std.proofs.lemmas.Bool.{eqb-true, ltb-false}
use Rattle.std.proofs.lemmas.Bool.Decides.{nat_tests}
use Rattle.std.specs.Prelude.{Option, None, Some, nat_eq, nat_lt, fold}
use Rattle.std.specs.List.{AllByRecursion}
use Rattle.law_quorum.specs.Batches.{Batch, StoredImage, Meet, BatchStandsAt, ImageStandsFor, behind, offset_of_image}
use Rattle.law_quorum.specs.Changes.{Append, Campaign, Change, Drop, Expire, Other, Leader, base_of_first, compares, leads_by}
use Rattle.law_quorum.specs.History.{AreSent, CarryEpoch, IsSent, Leadership, Point, point_after, no_history, point, with_wrote}
use Rattle.law_quorum.specs.Laws.{CountDown, IsLatest, TokensTell, AreBehind, BatchesTell, IsImageOf, IsInOrder, IsLed, IsOneLog, MissingIsDropped, ReadBatchesStand, ReadImagesStand, WasWritten}
use Rattle.law_quorum.proofs.Places.{all_after, all_append, meet_after, stands_later}
use Rattle.law_quorum.proofs.KeptLog.{both, shorter, taken}
use Rattle.law_quorum.proofs.LeadershipOrder.{order_stays}
use Rattle.law_quorum.proofs.WholeHistories.{log_only_grows, one_log, order_at_first}

pub read_batches_stand : ReadBatchesStand
read_batches_stand make history later place b sent is =
    let h = (one_log make history sent).0 in
    let r = log_only_grows history later in
    subst (λ (l : List Batch). BatchStandsAt l place b) (sym r.1) (stands_later (point history).log r.0 place b (h.known place b is))

pub image_stands : (make : List Batch → List ℕ) (p : Point) (image : StoredImage) → IsOneLog make p → p.keys.image ≡ Some image → ImageStandsFor make p.log image
image_stands make p image h is = record {
  gone = h.gone;
  rest = h.kept;
  split = h.split;
  offset = h.offset ∙ ap offset_of_image is;
  bytes = subst (λ (i : Option StoredImage). IsImageOf make i h.gone) is h.image;
}

pub images_stand_later : (make : List Batch → List ℕ) (log more : List Batch) (image : StoredImage) → ImageStandsFor make log image → ImageStandsFor make (log ++ more) image
images_stand_later make log more image s = record {
  gone = s.gone;
  rest = s.rest ++ more;
  split = ap (λ (l : List Batch). l ++ more) s.split ∙ append_assoc s.gone s.rest more;
  offset = s.offset;
  bytes = s.bytes;
}

pub read_images_stand : ReadImagesStand
read_images_stand make history later image sent is =
    let h = (one_log make history sent).0 in
    let r = log_only_grows history later in
    subst (λ (l : List Batch). ImageStandsFor make l image) (sym r.1) (images_stand_later make (point history).log r.0 image (image_stands make (point history) image h is))

missing : (make : List Batch → List ℕ) (p : Point) (place : ℕ) (b : Batch) → IsOneLog make p → BatchStandsAt p.log place b
    → (low : Bool) → nat_lt place (offset_of_image p.keys.image) ≡ low → (p.keys.places place ≡ Some b) ⊎ (place < offset_of_image p.keys.image)
missing make p place b h s true low = inr (grind (arith, nat_tests))
missing make p place b h s false low =
    let high : offset_of_image p.keys.image ≤ place = ltb-false place (offset_of_image p.keys.image) low in
    let offset : behind 0 h.gone ≡ offset_of_image p.keys.image = h.offset in
    let begins : behind 0 s.before ≡ place = s.begins in
    let r = shorter 0 h.gone h.kept s.before (b ∷ s.after) (subst (Meet 0) h.split h.meet) (sym h.split ∙ s.split) (omega arith) in
    let here = (all_after (λ (x : Batch). p.keys.places x.base ≡ Some x) r.0 (b ∷ s.after)
    (subst (AllByRecursion (λ (x : Batch). p.keys.places x.base ≡ Some x)) r.2 h.stand)).0 in
    let at : b.base ≡ behind 0 s.before = (meet_after 0 s.before (b ∷ s.after) (subst (Meet 0) s.split h.meet)).0 in
    inl (ap p.keys.places (sym (at ∙ begins)) ∙ here)

pub missing_is_dropped : MissingIsDropped
missing_is_dropped make history place b sent s =
    missing make (point history) place b (one_log make history sent).0 s (nat_lt place (offset_of_image (point history).keys.image)) refl

-- ---- whose a batch is

abbrev pub AllCarry : List Leadership → Type 0
AllCarry [] = Unit {0}
AllCarry (l ∷ ls) = AllByRecursion (λ (b : Batch). b.epoch ≡ l.epoch) l.wrote × AllCarry ls

carry_appended : (leader : Option Leader) (made : ℕ) (batches : List Batch) (ls : List Leadership) → leads_by leader made ≡ true → IsLed leader ls
    → CarryEpoch made batches ls → AllCarry ls → AllCarry (with_wrote batches ls)
carry_appended None made batches ls leads i c a = absurd cc
carry_appended (Some leader) made batches [] leads i c a = absurd i
carry_appended (Some leader) made batches (l ∷ ls) leads i c (first, a) =
    (all_append (λ (b : Batch). b.epoch ≡ l.epoch) l.wrote batches first (c.0 (i.0 ∙ eqb-true leader.made made leads)), a)

pub carry_by : (make : List Batch → List ℕ) (p : Point) (change : Change) (holds : Bool) → compares p.keys change ≡ holds → IsInOrder p → IsSent make p change
    → AllCarry p.leaderships → AllCarry (taken p change holds).leaderships
carry_by make p change false is o s a = a
carry_by make p (Campaign node token epoch) true is o s a = (tt, a)
carry_by make p (Append made batches) true is o s a =
    carry_appended p.keys.leader made batches p.leaderships (both (leads_by p.keys.leader made) (nat_eq p.keys.end (base_of_first batches)) is).0 o.led s.1 a
carry_by make p (Drop before image) true is o s a = a
carry_by make p Expire true is o s a = a
carry_by make p Other true is o s a = a

carry_from : (make : List Batch → List ℕ) (p : Point) (history : List Change) → IsInOrder p → AreSent make p history → AllCarry p.leaderships → AllCarry (fold point_after p history).leaderships
carry_from make p [] o s a = a
carry_from make p (change ∷ history) o (first, s) a =
    carry_from make (point_after p change) history (order_stays p change o) s (carry_by make p change (compares p.keys change) refl o first a)

-- an element of a list of two parts stands in one of them
part_of : (xs ys before : List Batch) (b : Batch) (after : List Batch) → xs ++ ys ≡ before ++ b ∷ after
    → ((r : List Batch) × (xs ≡ before ++ b ∷ r)) ⊎ ((x : List Batch) × (ys ≡ x ++ b ∷ after) × (before ≡ xs ++ x))
part_of [] ys before b after e = inr (before, e, refl)
part_of (x ∷ xs) ys [] b after e = inl (xs, (let here : x ≡ b = cc in ap (λ (z : Batch). z ∷ xs) here))
part_of (x ∷ xs) ys (y ∷ before) b after e =
    let here : x ≡ y = cc in
    let rest : xs ++ ys ≡ before ++ b ∷ after = cc in
    elim (part_of xs ys before b after rest) [
      | inl l ↦ inl (l.0, (ap (λ (z : Batch). z ∷ xs) here ∙ ap (λ (zs : List Batch). y ∷ zs) l.1))
      | inr r ↦ inr (r.0, r.1, (ap (λ (z : Batch). z ∷ before) (sym here) ∙ ap (λ (zs : List Batch). x ∷ zs) r.2))
    ]

epoch_of : (epoch : ℕ) (before : List Batch) (b : Batch) (after : List Batch) → AllByRecursion (λ (x : Batch). x.epoch ≡ epoch) (before ++ b ∷ after) → b.epoch ≡ epoch
epoch_of epoch before b after a = (all_after (λ (x : Batch). x.epoch ≡ epoch) before (b ∷ after) a).0

pub tell : (log : List Batch) (ls : List Leadership) (place : ℕ) (b : Batch) → AreBehind log ls → AllCarry ls → BatchStandsAt log place b → WasWritten ls place b
tell log [] place b is c s = none s.before (sym s.split ∙ is)
  where
    none : (before : List Batch) → before ++ b ∷ s.after ≡ [] → ⊥
    none [] e = absurd cc
    none (x ∷ before) e = absurd cc
tell log (l ∷ ls) place b (is, a) (first, c) s =
    elim (part_of l.start l.wrote s.before b s.after (sym is ∙ s.split)) [
      | inl x ↦ inr (tell l.start ls place b a c (record { before = s.before; after = x.0; split = x.1; begins = s.begins }))
      | inr y ↦ inl (record {
        before = y.0;
        after = s.after;
        split = y.1;
        begins = ap (behind 0) (sym y.2) ∙ s.begins;
        number = sym (epoch_of l.epoch y.0 b s.after (subst (AllByRecursion (λ (x : Batch). x.epoch ≡ l.epoch)) y.1 first));
      })
    ]

pub batches_tell : BatchesTell
batches_tell make history place b sent s =
    tell (point history).log (point history).leaderships place b (one_log make history sent).1.pieces
    (carry_from make no_history history order_at_first sent tt) s

-- ---- who leads

latest_of : (p : Point) (leader : Leader) (ls : List Leadership) (epoch : ℕ) → p.leaderships ≡ ls → p.keys.epoch ≡ epoch → behind 0 p.log ≡ p.keys.end
    → IsLed (Some leader) ls → CountDown epoch ls → AreBehind p.log ls → IsLatest p leader
latest_of p leader [] epoch is same ends led c a = absurd led
latest_of p leader (l ∷ ls) zero is same ends led c a = absurd c
latest_of p leader (l ∷ ls) (suc epoch) is same ends led c a = record {
  latest = l;
  others = ls;
  split = is;
  node = led.1;
  token = led.2;
  made = led.0;
  epoch = c.0 ∙ sym same;
  end = λ none. ap (behind 0) (sym (append-nil l.start) ∙ (ap (λ (x : List Batch). l.start ++ x) (sym none) ∙ sym a.0)) ∙ ends;
}

pub tokens_tell : TokensTell
tokens_tell make history leader sent is =
    let h = one_log make history sent in
    latest_of (point history) leader (point history).leaderships (point history).keys.epoch refl refl h.0.end
    (subst (λ (o : Option Leader). IsLed o (point history).leaderships) is h.1.led) h.1.epochs h.1.pieces
