-- A change of the store that has no fault is one that the laws allow, each such change has none, and what is kept after it shows what the
-- laws have after its step.
use Rattle.std.proofs.Common.{◌≡◌, ◌∙◌, sym, ℕ, ◌+◌, Bool, true, false, cond, List, [], ◌∷◌, ◌++◌, refl, ap, subst, map, reverse}
use Rattle.std.proofs.lemmas.Bool.{eqb-true}
use Rattle.std.proofs.lemmas.List.{reverse-append, append-nil}
use Rattle.std.specs.Prelude.{◌&&◌, not, Option, None, Some, nat_eq}
use Rattle.law_quorum.specs.Batches.{Batch, Meet, StoredImage, behind, offset_of_image}
use Rattle.law_quorum.specs.Changes.{Campaign, Change, Drop, Expire, Keys, Leader, Other, base_of_first, compares, is_leaderless, keys_after, keys_written, leads_by, with_revision}
use Rattle.law_quorum.specs.History.{Leadership, Point, point_after, with_wrote}
use Rattle.law_quorum.proofs.KeptLog.{both, taken}
use Rattle.law_link.specs.Links.{Call, Has, Keep, Link, Web, append_of}
use Rattle.law_link.proofs.LinkSteps.{CallRight, IsWeb, has_all}
use Rattle.law_tape.specs.Equality.{same_call, same_keep}
use Rattle.law_tape.specs.Rules.{StoreState, TakenLeadership, TapeState, node_of_change, change_fault, end_behind, is_number, seen_fault, side_of, state_after, store_state_after}
use Rattle.law_tape.specs.Tapes.{IsPossibleLine, TookEffect, change_made, fold_of, web_after}
use Rattle.law_tape.specs.declared.fault.Fault.TheVariants as faults
use Rattle.law_tape.specs.declared.line.SeenKeys.{SeenKeys}
use Rattle.law_tape.specs.declared.line.StoreChange.{StoreChange}
use Rattle.law_tape.specs.declared.line.StoreChange.TheVariants as changes
use Rattle.law_tape.specs.declared.line.Line.TheVariants as lines
use Rattle.law_tape.proofs.Allowed.{goes_on, is_the_number, number_is, passes}
use Rattle.law_tape.proofs.EqualityLemmas.{call_is, eq_true, has_some, holds_not, is_call, is_keep, keep_is, not_holds, some_has}
use Rattle.law_tape.proofs.Logs.{behind_is, is_behind}
use Rattle.law_tape.proofs.Standing.{Shows, StandsFor, taken_of}

-- ---- a change that took effect

-- what it wrote is as it was seen
abbrev pub IsWritten : Keys → Change → SeenKeys → Type 0
IsWritten keys change seen =
    (compares keys change ≡ true) × ((keys_written keys change).revision + 1 ≡ seen.revision) × ((keys_written keys change).end ≡ seen.end) × (offset_of_image (keys_written keys change).image ≡ seen.first)

module _ (keys : Keys) (change : Change) (seen : SeenKeys) where
  keys_then : compares keys change ≡ true → keys_after keys change ≡ with_revision (keys_written keys change)
  keys_then holds = ap (λ t. cond t (with_revision (keys_written keys change)) keys) holds

  pub took_effect : IsWritten keys change seen → TookEffect keys change seen
  took_effect (holds, revision, end, first) =
      let e = keys_then holds in
      record {
        holds = holds;
        revision = ap (λ (x : Keys). x.revision) e ∙ revision;
        end = ap (λ (x : Keys). x.end) e ∙ end;
        first = ap (λ (x : Keys). offset_of_image x.image) e ∙ first;
      }

  pub effect_took : TookEffect keys change seen → IsWritten keys change seen
  effect_took t =
      let e = keys_then t.holds in (
        t.holds,
        ap (λ (x : Keys). x.revision) (sym e) ∙ t.revision,
        ap (λ (x : Keys). x.end) (sym e) ∙ t.end,
        ap (λ (x : Keys). offset_of_image x.image) (sym e) ∙ t.first,
      )

module _ (t : StoreState) (seen : SeenKeys) (end : Option ℕ) (first : ℕ) where
  pub seen_is : seen_fault t seen end first ≡ None → (t.revision + 1 ≡ seen.revision) × (end ≡ Some seen.end) × (first ≡ seen.first)
  seen_is f =
      let a = passes faults.OtherRevision _ _ f in
      let b = passes faults.OtherEnd _ _ a.1 in
      let c = passes faults.OtherFirst _ _ b.1 in
      (eqb-true (t.revision + 1) seen.revision (holds_not _ a.0), number_is end seen.end (holds_not _ b.0), eqb-true first seen.first (holds_not _ c.0))

  pub is_seen : t.revision + 1 ≡ seen.revision → end ≡ Some seen.end → first ≡ seen.first → seen_fault t seen end first ≡ None
  is_seen revision ends least =
      goes_on faults.OtherRevision _ _ (not_holds _ (eq_true (t.revision + 1) seen.revision revision))
      (goes_on faults.OtherEnd _ _ (not_holds _ (is_the_number end seen.end ends)) (goes_on faults.OtherFirst _ _ (not_holds _ (eq_true first seen.first least)) refl))

some_same : (a b : ℕ) → Some a ≡ Some b → a ≡ b
some_same a b e = cc

-- ---- which are allowed

module _ (folds : List StoredImage) (w : Web) (s : TapeState) (h : Shows w s) (web : IsWeb (fold_of folds) w) (seen : SeenKeys) where
  abbrev keys : Keys
  keys = w.cluster.point.keys

  abbrev t : StoreState
  t = s.store

  next : t.revision + 1 ≡ seen.revision → keys.revision + 1 ≡ seen.revision
  next e = ap (λ r. r + 1) h.store.revision ∙ e

  before_next : keys.revision + 1 ≡ seen.revision → t.revision + 1 ≡ seen.revision
  before_next e = ap (λ r. r + 1) (sym h.store.revision) ∙ e

  place : offset_of_image keys.image ≡ offset_of_image t.image
  place = ap offset_of_image h.store.image

  -- a change that leaves the log and the image
  stays : seen_fault t seen (Some t.end) (offset_of_image t.image) ≡ None → (keys.revision + 1 ≡ seen.revision) × (keys.end ≡ seen.end) × (offset_of_image keys.image ≡ seen.first)
  stays f = let r = seen_is t seen (Some t.end) (offset_of_image t.image) f in (next r.0, h.store.end ∙ some_same t.end seen.end r.1, place ∙ r.2)

  stayed : keys.revision + 1 ≡ seen.revision → keys.end ≡ seen.end → offset_of_image keys.image ≡ seen.first → seen_fault t seen (Some t.end) (offset_of_image t.image) ≡ None
  stayed r e f = is_seen t seen (Some t.end) (offset_of_image t.image) (before_next r) (ap Some (sym h.store.end ∙ e)) (sym place ∙ f)

  -- ---- Append

  appends : (call : Call) → compares keys (append_of call) ≡ (leads_by t.leader call.made && nat_eq t.end (base_of_first call.group))
  appends call =
      ap (λ (x : Option Leader). leads_by x call.made && nat_eq keys.end (base_of_first call.group)) h.store.leader
      ∙ ap (λ (x : ℕ). leads_by t.leader call.made && nat_eq x (base_of_first call.group)) h.store.end

  append_allowed : (node : ℕ) (call : Call) → change_fault t (side_of s.sides node).link seen (changes.Append node call) ≡ None → IsPossibleLine folds w (lines.Store seen (changes.Append node call))
  append_allowed node call f =
      let a = passes faults.NoCall _ _ f in
      let b = passes faults.OtherKeys _ _ a.1 in
      let r = seen_is t seen (end_behind t.end call.group) (offset_of_image t.image) b.1 in
      let called : Has call (reverse (side_of s.sides node).link.calls) = has_some call (same_call call) (call_is call) (reverse (side_of s.sides node).link.calls) (holds_not _ a.0) in
      let ends : behind keys.end call.group ≡ seen.end = ap (λ (x : ℕ). behind x call.group) h.store.end ∙ behind_is t.end call.group seen.end r.1 in (
        subst (Has call) (sym (ap (λ (x : Link). x.calls) (h.link node))) called,
        took_effect keys (append_of call) seen (appends call ∙ holds_not _ b.0, next r.0, ends, place ∙ r.2),
      )

  allowed_append : (node : ℕ) (call : Call) → IsPossibleLine folds w (lines.Store seen (changes.Append node call)) → change_fault t (side_of s.sides node).link seen (changes.Append node call) ≡ None
  allowed_append node call p =
      let x = effect_took keys (append_of call) seen p.1 in
      let right : CallRight w.cluster.point.leaderships node (w.links node).won call = has_all (CallRight w.cluster.point.leaderships node (w.links node).won) call (w.links node).calls (web.calls node) p.0 in
      let at : keys.end ≡ base_of_first call.group = eqb-true keys.end (base_of_first call.group) (both (leads_by keys.leader call.made) (nat_eq keys.end (base_of_first call.group)) x.0).1 in
      let meets : Meet t.end call.group = subst (λ (from : ℕ). Meet from call.group) (sym at ∙ h.store.end) right.meet in
      let ends : end_behind t.end call.group ≡ Some seen.end = is_behind t.end call.group meets ∙ ap Some (ap (λ (from : ℕ). behind from call.group) (sym h.store.end) ∙ x.2) in
      let called : Has call (reverse (side_of s.sides node).link.calls) = subst (Has call) (ap (λ (y : Link). y.calls) (h.link node)) p.0 in
      goes_on faults.NoCall _ _ (not_holds _ (some_has call (same_call call) (is_call call) (reverse (side_of s.sides node).link.calls) called))
      (goes_on faults.OtherKeys _ _ (not_holds _ (sym (appends call) ∙ x.0)) (is_seen t seen (end_behind t.end call.group) (offset_of_image t.image) (before_next x.1) ends (sym place ∙ x.3)))

  -- ---- Drop

  drop_allowed : (node : ℕ) (keep : Keep) → change_fault t (side_of s.sides node).link seen (changes.Drop node keep) ≡ None → IsPossibleLine folds w (lines.Store seen (changes.Drop node keep))
  drop_allowed node keep f =
      let a = passes faults.NoKeep _ _ f in
      let b = passes faults.OtherKeys _ _ a.1 in
      let r = seen_is t seen (Some t.end) keep.image.offset b.1 in
      let called : Has keep (reverse (side_of s.sides node).link.keeps) = has_some keep (same_keep keep) (keep_is keep) (reverse (side_of s.sides node).link.keeps) (holds_not _ a.0) in
      let before : compares keys (Drop keep.before keep.image) ≡ true = ap (λ (x : ℕ). nat_eq x keep.before) place ∙ holds_not _ b.0 in (
        subst (Has keep) (sym (ap (λ (x : Link). x.keeps) (h.link node))) called,
        took_effect keys (Drop keep.before keep.image) seen (before, next r.0, h.store.end ∙ some_same t.end seen.end r.1, r.2),
      )

  allowed_drop : (node : ℕ) (keep : Keep) → IsPossibleLine folds w (lines.Store seen (changes.Drop node keep)) → change_fault t (side_of s.sides node).link seen (changes.Drop node keep) ≡ None
  allowed_drop node keep p =
      let x = effect_took keys (Drop keep.before keep.image) seen p.1 in
      let called : Has keep (reverse (side_of s.sides node).link.keeps) = subst (Has keep) (ap (λ (y : Link). y.keeps) (h.link node)) p.0 in
      let before : nat_eq (offset_of_image t.image) keep.before ≡ true = ap (λ (y : ℕ). nat_eq y keep.before) (sym place) ∙ x.0 in
      goes_on faults.NoKeep _ _ (not_holds _ (some_has keep (same_keep keep) (is_keep keep) (reverse (side_of s.sides node).link.keeps) called))
      (goes_on faults.OtherKeys _ _ (not_holds _ before) (is_seen t seen (Some t.end) keep.image.offset (before_next x.1) (ap Some (sym h.store.end ∙ x.2)) x.3))

  -- ---- Campaign, Expire, Other

  campaigns : (node token epoch : ℕ) → compares keys (Campaign node token epoch) ≡ (is_leaderless t.leader && nat_eq (t.epoch + 1) epoch)
  campaigns node token epoch =
      ap (λ (x : Option Leader). is_leaderless x && nat_eq (keys.epoch + 1) epoch) h.store.leader ∙ ap (λ (x : ℕ). is_leaderless t.leader && nat_eq (x + 1) epoch) h.store.epoch

  pub change_allowed : (change : StoreChange) → change_fault t (side_of s.sides (node_of_change change)).link seen change ≡ None → IsPossibleLine folds w (lines.Store seen change)
  change_allowed (changes.Append node call) f = append_allowed node call f
  change_allowed (changes.Drop node keep) f = drop_allowed node keep f
  change_allowed (changes.Campaign node token epoch) f =
      let a = passes faults.OtherKeys _ _ f in
      let r = stays a.1 in (tt, took_effect keys (Campaign node token epoch) seen (campaigns node token epoch ∙ holds_not _ a.0, r.0, r.1, r.2))
  change_allowed changes.Expire f = let r = stays f in (tt, took_effect keys Expire seen (refl, r.0, r.1, r.2))
  change_allowed changes.Other f = let r = stays f in (tt, took_effect keys Other seen (refl, r.0, r.1, r.2))

  pub allowed_change : (change : StoreChange) → IsPossibleLine folds w (lines.Store seen change) → change_fault t (side_of s.sides (node_of_change change)).link seen change ≡ None
  allowed_change (changes.Append node call) p = allowed_append node call p
  allowed_change (changes.Drop node keep) p = allowed_drop node keep p
  allowed_change (changes.Campaign node token epoch) p =
      let x = effect_took keys (Campaign node token epoch) seen p.1 in
      goes_on faults.OtherKeys _ _ (not_holds _ (sym (campaigns node token epoch) ∙ x.0)) (stayed x.1 x.2 x.3)
  allowed_change changes.Expire p = let x = effect_took keys Expire seen p.1 in stayed x.1 x.2 x.3
  allowed_change changes.Other p = let x = effect_took keys Other seen p.1 in stayed x.1 x.2 x.3

-- ---- what is kept after a change

same_leaderships : (group : List Batch) (ls : List Leadership) → map taken_of (with_wrote group ls) ≡ map taken_of ls
same_leaderships group [] = refl
same_leaderships group (l ∷ ls) = refl

module _ (p : Point) (t : StoreState) (seen : SeenKeys) (h : StandsFor p t) where
  abbrev after : Change → Point
  after change = taken p change true

  log_stays : p.log ++ [] ≡ t.log
  log_stays = ap (λ (log : List Batch). log ++ []) h.log ∙ append-nil t.log

  append_stands : (node : ℕ) (call : Call) → IsWritten p.keys (append_of call) seen → StandsFor (after (append_of call)) (store_state_after t seen (changes.Append node call))
  append_stands node call x = record {
    revision = x.1;
    end = x.2;
    epoch = h.epoch;
    leader = h.leader;
    image = h.image;
    log = ap (λ (log : List Batch). log ++ call.group) h.log;
    leaderships = same_leaderships call.group p.leaderships ∙ h.leaderships;
  }

  drop_stands : (node : ℕ) (keep : Keep) → IsWritten p.keys (Drop keep.before keep.image) seen → StandsFor (after (Drop keep.before keep.image)) (store_state_after t seen (changes.Drop node keep))
  drop_stands node keep x = record { revision = x.1; end = h.end; epoch = h.epoch; leader = h.leader; image = refl; log = log_stays; leaderships = h.leaderships }

  campaign_stands : (node token epoch : ℕ) → behind 0 p.log ≡ p.keys.end → IsWritten p.keys (Campaign node token epoch) seen → StandsFor (after (Campaign node token epoch)) (store_state_after t seen (changes.Campaign node token epoch))
  campaign_stands node token epoch ends x = record {
    revision = x.1;
    end = h.end;
    epoch = refl;
    leader = ap (λ (made : ℕ). Some (record { node = node; token = token; made = made })) x.1;
    image = h.image;
    log = log_stays;
    leaderships =
        ap (λ (made : ℕ). record { node = node; epoch = epoch; made = made; start = behind 0 p.log } ∷ map taken_of p.leaderships) x.1
        ∙ (ap (λ (start : ℕ). record { node = node; epoch = epoch; made = seen.revision; start = start } ∷ map taken_of p.leaderships) (ends ∙ h.end)
        ∙ (ap (λ (ls : List TakenLeadership). record { node = node; epoch = epoch; made = seen.revision; start = t.end } ∷ ls) h.leaderships
        ∙ sym (reverse-append t.taken (record { node = node; epoch = epoch; made = seen.revision; start = t.end } ∷ []))));
  }

  expire_stands : IsWritten p.keys Expire seen → StandsFor (after Expire) (store_state_after t seen changes.Expire)
  expire_stands x = record { revision = x.1; end = h.end; epoch = h.epoch; leader = refl; image = h.image; log = log_stays; leaderships = h.leaderships }

  other_stands : IsWritten p.keys Other seen → StandsFor (after Other) (store_state_after t seen changes.Other)
  other_stands x = record { revision = x.1; end = h.end; epoch = h.epoch; leader = h.leader; image = h.image; log = log_stays; leaderships = h.leaderships }

  pub change_stands : (change : StoreChange) → behind 0 p.log ≡ p.keys.end → IsWritten p.keys (change_made change) seen → StandsFor (point_after p (change_made change)) (store_state_after t seen change)
  change_stands change ends x = subst (λ (q : Point). StandsFor q (store_state_after t seen change)) (sym (ap (taken p (change_made change)) x.0)) (by change x)
    where
      by : (change : StoreChange) → IsWritten p.keys (change_made change) seen → StandsFor (after (change_made change)) (store_state_after t seen change)
      by (changes.Append node call) x = append_stands node call x
      by (changes.Drop node keep) x = drop_stands node keep x
      by (changes.Campaign node token epoch) x = campaign_stands node token epoch ends x
      by changes.Expire x = expire_stands x
      by changes.Other x = other_stands x

pub change_shown : (folds : List StoredImage) (w : Web) (s : TapeState) → Shows w s → IsWeb (fold_of folds) w → (seen : SeenKeys) (change : StoreChange)
    → IsPossibleLine folds w (lines.Store seen change) → Shows (web_after w (lines.Store seen change)) (state_after s (lines.Store seen change))
change_shown folds w s h web seen change p =
    let stands = change_stands w.cluster.point s.store seen h.store change web.cluster.one.end (effect_took w.cluster.point.keys (change_made change) seen p.1) in
    by change stands
  where
    by : (change : StoreChange) → StandsFor (point_after w.cluster.point (change_made change)) (store_state_after s.store seen change) → Shows (web_after w (lines.Store seen change)) (state_after s (lines.Store seen change))
    by (changes.Append node call) stands = record { store = stands; count = h.count; node = h.node; link = h.link }
    by (changes.Drop node keep) stands = record { store = stands; count = h.count; node = h.node; link = h.link }
    by (changes.Campaign node token epoch) stands = record { store = stands; count = h.count; node = h.node; link = h.link }
    by changes.Expire stands = record { store = stands; count = h.count; node = h.node; link = h.link }
    by changes.Other stands = record { store = stands; count = h.count; node = h.node; link = h.link }
