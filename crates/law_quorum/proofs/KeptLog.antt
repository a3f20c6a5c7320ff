-- Each change keeps the keys one log.
use Rattle.std.proofs.Common.{◌≡◌, ◌∙◌, sym, ℕ, ◌+◌, ◌<◌, ◌≤◌, Bool, true, false, cond, List, [], ◌∷◌, ◌++◌, refl, ap, subst, arith}
use Rattle.std.proofs.lemmas.List.{append_assoc, append-nil}
use Rattle.std.proofs.lemmas.Bool.{eqb-true}
use Rattle.std.specs.Prelude.{Option, Some, nat_eq, ◌&&◌}
use Rattle.std.specs.List.{AllByRecursion}
use Rattle.law_quorum.specs.Batches.{Batch, StoredImage, Meet, BatchStandsAt, ImageStandsFor, behind, offset_of_image}
use Rattle.law_quorum.specs.Changes.{Append, Campaign, Change, Drop, Expire, Other, base_of_first, compares, leads_by, put_batches, with_revision, keys_written}
use Rattle.law_quorum.specs.History.{IsSent, Point, batches_appended, point_after, leaderships_after}
use Rattle.law_quorum.specs.Laws.{IsImageOf, IsOneLog}
use Rattle.law_quorum.proofs.Places.{all_after, all_append, all_known, all_put, behind_append, behind_grows, deleted_known, meet_after, meet_append, meet_before, stand_above, stand_still}

pub both : (a b : Bool) → (a && b) ≡ true → (a ≡ true) × (b ≡ true)
both true b h = (refl, h)
both false b h = absurd cc

-- the point, where it is known whether what is compared holds
abbrev pub taken : Point → Change → Bool → Point
taken p change holds = record {
  keys = cond holds (with_revision (keys_written p.keys change)) p.keys;
  log = cond holds (p.log ++ batches_appended change) p.log;
  leaderships = cond holds (leaderships_after p change) p.leaderships;
}

-- two beginnings of one log of which the one isn't longer
pub shorter : (from : ℕ) (xs a ys b : List Batch) → Meet from (xs ++ a) → xs ++ a ≡ ys ++ b → behind from xs ≤ behind from ys
    → (between : List Batch) × (ys ≡ xs ++ between) × (a ≡ between ++ b)
shorter from [] a ys b m e low = (ys, refl, e)
shorter from (x ∷ xs) a [] b m e low =
    let h : from + x.count ≤ behind (from + x.count) xs = behind_grows (from + x.count) xs (meet_before (from + x.count) xs a m.2) in
    let some = m.1 in
    absurd (omega arith)
shorter from (x ∷ xs) a (y ∷ ys) b m e low =
    let here : x ≡ y = cc in
    let rest : xs ++ a ≡ ys ++ b = cc in
    let there : behind (from + x.count) xs ≤ behind (from + x.count) ys =
    subst (λ (z : Batch). behind (from + x.count) xs ≤ behind (from + z.count) ys) (sym here) low in
    let r = shorter (from + x.count) xs a ys b m.2 rest there in
    (r.0, (ap (λ z. z ∷ ys) (sym here) ∙ ap (λ zs. x ∷ zs) r.1), r.2)

module _ (make : List Batch → List ℕ) where
  -- what concerns neither the log nor its keys
  kept_by : (p q : Point) → IsOneLog make p → q.log ≡ p.log → q.keys.end ≡ p.keys.end → q.keys.image ≡ p.keys.image → q.keys.places ≡ p.keys.places → IsOneLog make q
  kept_by p q h log end image places = record {
    meet = subst (Meet 0) (sym log) h.meet;
    end = ap (behind 0) log ∙ (h.end ∙ sym end);
    gone = h.gone;
    kept = h.kept;
    split = log ∙ h.split;
    offset = h.offset ∙ ap offset_of_image (sym image);
    image = subst (λ i. IsImageOf make i h.gone) (sym image) h.image;
    stand = subst (λ (places : ℕ → Option Batch). AllByRecursion (λ b. places b.base ≡ Some b) h.kept) (sym places) h.stand;
    known = subst (λ (l : List Batch). (place : ℕ) (b : Batch) → q.keys.places place ≡ Some b → BatchStandsAt l place b) (sym log)
        (subst (λ (places : ℕ → Option Batch). (place : ℕ) (b : Batch) → places place ≡ Some b → BatchStandsAt p.log place b) (sym places) h.known);
  }

  append_kept : (p : Point) (made : ℕ) (batches : List Batch) → IsOneLog make p → compares p.keys (Append made batches) ≡ true
      → Meet (base_of_first batches) batches → IsOneLog make (taken p (Append made batches) true)
  append_kept p made batches h holds meet =
      let base : p.keys.end ≡ base_of_first batches = eqb-true p.keys.end (base_of_first batches) (both (leads_by p.keys.leader made) (nat_eq p.keys.end (base_of_first batches)) holds).1 in
      let at : base_of_first batches ≡ behind 0 p.log = sym base ∙ sym h.end in
      let m : Meet (behind 0 p.log) batches = subst (λ n. Meet n batches) at meet in
      let k : Meet (behind 0 h.gone) h.kept = meet_after 0 h.gone h.kept (subst (Meet 0) h.split h.meet) in
      let low : behind (behind 0 h.gone) h.kept ≡ behind 0 p.log = sym (behind_append 0 h.gone h.kept) ∙ ap (behind 0) (sym h.split) in
      record {
        meet = meet_append 0 p.log batches h.meet m;
        end = behind_append 0 p.log batches ∙ ap (λ n. behind n batches) h.end;
        gone = h.gone;
        kept = h.kept ++ batches;
        split = ap (λ l. l ++ batches) h.split ∙ append_assoc h.gone h.kept batches;
        offset = h.offset;
        image = h.image;
        stand = all_append (λ (b : Batch). put_batches batches p.keys.places b.base ≡ Some b) h.kept batches
            (stand_still (behind 0 h.gone) (behind 0 p.log) h.kept batches p.keys.places k (omega arith) m h.stand)
            (all_put (behind 0 p.log) batches p.keys.places m);
        known = all_known batches p.log p.keys.places m h.known;
      }

  drop_kept : (p : Point) (before : ℕ) (image : StoredImage) → IsOneLog make p → compares p.keys (Drop before image) ≡ true
      → before < image.offset → ImageStandsFor make p.log image → IsOneLog make (taken p (Drop before image) true)
  drop_kept p before image h holds higher s =
      let same : offset_of_image p.keys.image ≡ before = eqb-true (offset_of_image p.keys.image) before holds in
      let offset : behind 0 h.gone ≡ offset_of_image p.keys.image = h.offset in
      let there : behind 0 s.gone ≡ image.offset = s.offset in
      let r = shorter 0 h.gone h.kept s.gone s.rest (subst (Meet 0) h.split h.meet) (sym h.split ∙ s.split) (omega arith) in
      let m : Meet (behind 0 s.gone) s.rest = meet_after 0 s.gone s.rest (subst (Meet 0) s.split h.meet) in
      record {
        meet = subst (Meet 0) (sym (append-nil p.log)) h.meet;
        end = ap (behind 0) (append-nil p.log) ∙ h.end;
        gone = s.gone;
        kept = s.rest;
        split = append-nil p.log ∙ s.split;
        offset = s.offset;
        image = s.bytes;
        stand = stand_above image.offset (behind 0 s.gone) s.rest p.keys.places (omega arith) m
            (all_after (λ (b : Batch). p.keys.places b.base ≡ Some b) r.0 s.rest
            (subst (AllByRecursion (λ (b : Batch). p.keys.places b.base ≡ Some b)) r.2 h.stand));
        known = subst (λ (l : List Batch). (place : ℕ) (b : Batch) → (taken p (Drop before image) true).keys.places place ≡ Some b → BatchStandsAt l place b)
            (sym (append-nil p.log)) (deleted_known image.offset p.log p.keys.places h.known);
      }

  by : (p : Point) (change : Change) (holds : Bool) → compares p.keys change ≡ holds → IsOneLog make p → IsSent make p change → IsOneLog make (taken p change holds)
  by p change false is h sent = kept_by p (taken p change false) h refl refl refl refl
  by p (Campaign node token epoch) true is h sent = kept_by p (taken p (Campaign node token epoch) true) h (append-nil p.log) refl refl refl
  by p (Append made batches) true is h sent = append_kept p made batches h is sent.0
  by p (Drop before image) true is h sent = drop_kept p before image h is sent.0 sent.1
  by p Expire true is h sent = kept_by p (taken p Expire true) h (append-nil p.log) refl refl refl
  by p Other true is h sent = kept_by p (taken p Other true) h (append-nil p.log) refl refl refl

  pub one_log_stays : (p : Point) (change : Change) → IsOneLog make p → IsSent make p change → IsOneLog make (point_after p change)
  one_log_stays p change h sent = by p change (compares p.keys change) refl h sent
