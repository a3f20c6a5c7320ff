-- The lists of heartbeats keep what is true of them.
use Rattle.std.proofs.Common.{◌≡◌, ◌∙◌, sym, refl, ap, subst, inl, inr, Bool, true, false, not, cond, ◌&&◌, ◌||◌, List, [], ◌∷◌, ◌++◌, ℕ, suc, ℤ, pos, negsuc, map, take, Some, None, arith, ◌+◌}
use Rattle.std.proofs.lemmas.Bool.{and_parts, and_from, or_cases, or_left, or_right, cases_Bool}
use Rattle.std.proofs.lemmas.Bool.Decides.{nat_tests}
use Rattle.std.proofs.lemmas.List.{map-append}
use Rattle.std.proofs.lemmas.List.Folds.{list_any-append, list_all-append}
use Rattle.std.specs.Prelude.{filter, find, take_while, int_le, Option}
use Rattle.std.specs.List.{list_all, last_or, prefix_len}
use Rattle.std.specs.Option.{option_map, option_map_or}
use Rattle.std.specs.Ordering.{int_eq}
use Rattle.kr_defs.specs.declared.basis.Contact.{Contact}
use Rattle.kr_defs.specs.declared.basis.Stopping.{Stopping}
use Rattle.kr_defs.specs.Heartbeats.{Heartbeats, AreHeartbeats, contact_brokers, stopping_brokers, contacts_without, stopping_without, new_contact, new_stopping, never_fall, end, beat, leave, stop}
use Rattle.kr_defs.specs.HeartbeatLaws.{BeginningsStand, BeatsStand, LeavingStands, StoppingStands, Leaves, Beats, TheOldExpire}
use Rattle.kr_defs.specs.Ids.{has, is_distinct, is_within}
use Rattle.kr_defs.proofs.IdLists.{same_id, id_itself, refutes, all_at, all_from, has_before, has_kept, passes_kept, distinct_kept, joined_distinct}

-- ---- numbers and tests

pub le_through : (a b c : ℤ) → int_le a b ≡ true → int_le b c ≡ true → int_le a c ≡ true
le_through (pos a) (pos b) (pos c) h k = grind (arith, nat_tests)
le_through (pos a) (pos b) (negsuc c) h k = absurd cc
le_through (pos a) (negsuc b) c h k = absurd cc
le_through (negsuc a) (pos b) (pos c) h k = refl
le_through (negsuc a) (pos b) (negsuc c) h k = absurd cc
le_through (negsuc a) (negsuc b) (pos c) h k = refl
le_through (negsuc a) (negsuc b) (negsuc c) h k = grind (arith, nat_tests)

-- two tests that pass together are the same
same_test : (a b : Bool) → (a ≡ true → b ≡ true) → (b ≡ true → a ≡ true) → a ≡ b
same_test true true f g = refl
same_test true false f g = sym (f refl)
same_test false true f g = g refl
same_test false false f g = refl

abbrev is_other : ℤ → ℤ → Bool
is_other broker id = not (int_eq id broker)

differs : (x y : ℤ) → int_eq x y ≡ false → int_eq y x ≡ false
differs x y h = elim (cases_Bool (int_eq y x)) [
  | inl e ↦ let P : ℤ → Type 0 = λ z. int_eq z z ≡ true in absurd (refutes (int_eq x y) (rw h refl) (let Q : ℤ → Type 0 = λ z. int_eq x z ≡ true in subst Q (sym (same_id y x e)) (id_itself x)))
  | inr n ↦ n
]

-- ---- lists

map-filter : {X : Type 0} (f : X → ℤ) (p : ℤ → Bool) (xs : List X) → map f (filter (λ x. p (f x)) xs) ≡ filter p (map f xs)
map-filter f p [] = refl
map-filter {X} f p (x ∷ xs) =
    let left : List X = filter (λ y. p (f y)) xs in
    elim (p (f x)) as (λ b. map f (cond b (x ∷ left) left) ≡ cond b (f x ∷ filter p (map f xs)) (filter p (map f xs))) [
      | true ↦ ap (λ ids. f x ∷ ids) (map-filter f p xs)
      | false ↦ map-filter f p xs
    ]

all_left : {X : Type 0} (p q : X → Bool) (xs : List X) → list_all q xs ≡ true → list_all q (filter p xs) ≡ true
all_left p q [] h = refl
all_left {X} p q (x ∷ xs) h =
    let parts = and_parts (q x) (list_all q xs) h in
    elim (p x) as (λ b. list_all q (cond b (x ∷ filter p xs) (filter p xs)) ≡ true) [
      | true ↦ and_from (q x) (list_all q (filter p xs)) parts.0 (all_left p q xs parts.1)
      | false ↦ all_left p q xs parts.1
    ]

has_without : (broker : ℤ) (ids : List ℤ) (id : ℤ) → has (filter (is_other broker) ids) id ≡ (has ids id && is_other broker id)
has_without broker ids id =
    same_test (has (filter (is_other broker) ids) id) (has ids id && is_other broker id)
    (λ h. and_from (has ids id) (is_other broker id) (has_before (is_other broker) ids id h) (passes_kept (is_other broker) ids id h))
    (λ h. let parts = and_parts (has ids id) (is_other broker id) h in has_kept (is_other broker) ids id parts.0 parts.1)

within_without : (broker : ℤ) (ids those : List ℤ) → is_within ids those ≡ true → is_within (filter (is_other broker) ids) (filter (is_other broker) those) ≡ true
within_without broker ids those h =
    all_from (has (filter (is_other broker) those)) (filter (is_other broker) ids)
    (λ id k. has_kept (is_other broker) those id (all_at (has those) ids id h (has_before (is_other broker) ids id k)) (passes_kept (is_other broker) ids id k))

-- ---- times

fall_left : (p : Contact → Bool) (cs : List Contact) → never_fall cs ≡ true → never_fall (filter p cs) ≡ true
fall_left p [] h = refl
fall_left p (c ∷ cs) h =
    let q : Contact → Bool = λ later. int_le c.time later.time in
    let parts = and_parts (list_all q cs) (never_fall cs) h in
    elim (p c) as (λ b. never_fall (cond b (c ∷ filter p cs) (filter p cs)) ≡ true) [
      | true ↦ and_from (list_all q (filter p cs)) (never_fall (filter p cs)) (all_left p q cs parts.0) (fall_left p cs parts.1)
      | false ↦ fall_left p cs parts.1
    ]

abbrev is_upto : ℤ → Contact → Bool
is_upto now c = int_le c.time now

fall_push : (cs : List Contact) (c : Contact) → never_fall cs ≡ true → list_all (is_upto c.time) cs ≡ true → never_fall (cs ++ c ∷ []) ≡ true
fall_push [] c h upto = refl
fall_push (d ∷ cs) c h upto =
    let q : Contact → Bool = λ later. int_le d.time later.time in
    let parts = and_parts (list_all q cs) (never_fall cs) h in
    let ups = and_parts (is_upto c.time d) (list_all (is_upto c.time) cs) upto in
    and_from (list_all q (cs ++ c ∷ [])) (never_fall (cs ++ c ∷ []))
    (list_all-append q cs (c ∷ []) ∙ and_from (list_all q cs) (q c && true) parts.0 (and_from (q c) true ups.0 refl))
    (fall_push cs c parts.1 ups.1)

-- where the last contact isn't later, none is
all_upto : (now : ℤ) (cs : List Contact) → never_fall cs ≡ true → option_map_or (is_upto now) (last_or None cs) true ≡ true → list_all (is_upto now) cs ≡ true
all_upto now [] h last = refl
all_upto now (c ∷ []) h last = and_from (is_upto now c) true last refl
all_upto now (c ∷ d ∷ cs) h last =
    let q : Contact → Bool = λ later. int_le c.time later.time in
    let parts = and_parts (list_all q (d ∷ cs)) (never_fall (d ∷ cs)) h in
    let rest = all_upto now (d ∷ cs) parts.1 last in
    and_from (is_upto now c) (list_all (is_upto now) (d ∷ cs))
    (le_through c.time d.time now (and_parts (q d) (list_all q cs) parts.0).0 (and_parts (is_upto now d) (list_all (is_upto now) cs) rest).0)
    rest

-- ---- begin

brokers_begun : (now : ℤ) (ids : List ℤ) → map (λ (c : Contact). c.broker) (map (new_contact now) ids) ≡ ids
brokers_begun now [] = refl
brokers_begun now (id ∷ ids) = ap (λ rest. id ∷ rest) (brokers_begun now ids)

stopping_begun : (tip : ℤ) (ids : List ℤ) → map (λ (s : Stopping). s.broker) (map (new_stopping tip) ids) ≡ ids
stopping_begun tip [] = refl
stopping_begun tip (id ∷ ids) = ap (λ rest. id ∷ rest) (stopping_begun tip ids)

pub le_itself : (a : ℤ) → int_le a a ≡ true
le_itself (pos a) = grind (arith, nat_tests)
le_itself (negsuc a) = grind (arith, nat_tests)

all_begun : (now : ℤ) (ids : List ℤ) → list_all (λ (later : Contact). int_le now later.time) (map (new_contact now) ids) ≡ true
all_begun now [] = refl
all_begun now (id ∷ ids) = and_from (int_le now now) (list_all (λ (later : Contact). int_le now later.time) (map (new_contact now) ids)) (le_itself now) (all_begun now ids)

fall_begun : (now : ℤ) (ids : List ℤ) → never_fall (map (new_contact now) ids) ≡ true
fall_begun now [] = refl
fall_begun now (id ∷ ids) =
    and_from (list_all (λ (later : Contact). int_le now later.time) (map (new_contact now) ids)) (never_fall (map (new_contact now) ids))
    (all_begun now ids) (fall_begun now ids)

pub begun : BeginningsStand
begun unfenced stopping now led once stopping_once within =
    let D : List ℤ → Type 0 = λ ids. is_distinct ids ≡ true in
    let W : List ℤ → Type 0 = λ ids. is_within ids (map (λ (c : Contact). c.broker) (map (new_contact now) unfenced)) ≡ true in
    let V : List ℤ → Type 0 = λ ids. is_within stopping ids ≡ true in
    record {
      distinct = subst D (sym (brokers_begun now unfenced)) once;
      stopping_distinct = subst D (sym (stopping_begun led stopping)) stopping_once;
      rising = fall_begun now unfenced;
      among = subst W (sym (stopping_begun led stopping)) (subst V (sym (brokers_begun now unfenced)) within);
    }

pub ended : AreHeartbeats end
ended = record { distinct = refl; stopping_distinct = refl; rising = refl; among = refl }

-- ---- leave

contacts_left : (contacts : List Contact) (broker : ℤ) → map (λ (c : Contact). c.broker) (contacts_without contacts broker) ≡ filter (is_other broker) (map (λ (c : Contact). c.broker) contacts)
contacts_left contacts broker = map-filter (λ (c : Contact). c.broker) (is_other broker) contacts

stopping_left : (stopping : List Stopping) (broker : ℤ) → map (λ (s : Stopping). s.broker) (stopping_without stopping broker) ≡ filter (is_other broker) (map (λ (s : Stopping). s.broker) stopping)
stopping_left stopping broker = map-filter (λ (s : Stopping). s.broker) (is_other broker) stopping

pub left : LeavingStands
left h broker are =
    let D : List ℤ → Type 0 = λ ids. is_distinct ids ≡ true in
    let W : List ℤ → Type 0 = λ ids. is_within ids (contact_brokers (leave h broker)) ≡ true in
    let V : List ℤ → Type 0 = λ ids. is_within (filter (is_other broker) (stopping_brokers h)) ids ≡ true in
    record {
      distinct = subst D (sym (contacts_left h.contacts broker)) (distinct_kept (is_other broker) (contact_brokers h) are.distinct);
      stopping_distinct = subst D (sym (stopping_left h.stopping broker)) (distinct_kept (is_other broker) (stopping_brokers h) are.stopping_distinct);
      rising = fall_left (λ c. is_other broker c.broker) h.contacts are.rising;
      among = subst W (sym (stopping_left h.stopping broker))
          (subst V (sym (contacts_left h.contacts broker)) (within_without broker (stopping_brokers h) (contact_brokers h) are.among));
    }

pub leaves : (h : Heartbeats) (broker id : ℤ) → Leaves h broker id
leaves h broker id = record {
  contacts = ap (λ ids. has ids id) (contacts_left h.contacts broker) ∙ has_without broker (contact_brokers h) id;
  stopping = ap (λ ids. has ids id) (stopping_left h.stopping broker) ∙ has_without broker (stopping_brokers h) id;
}

-- ---- beat

beat_brokers : (h : Heartbeats) (broker now offset : ℤ) → contact_brokers (beat h broker now offset) ≡ filter (is_other broker) (contact_brokers h) ++ broker ∷ []
beat_brokers h broker now offset =
    map-append (λ (c : Contact). c.broker) (contacts_without h.contacts broker) (record { broker = broker; time = now; offset = offset } ∷ [])
    ∙ ap (λ ids. ids ++ broker ∷ []) (contacts_left h.contacts broker)

beat_has : (broker : ℤ) (ids : List ℤ) (id : ℤ) → has (filter (is_other broker) ids ++ broker ∷ []) id ≡ (has ids id || int_eq broker id)
beat_has broker ids id =
    let left : List ℤ = filter (is_other broker) ids in
    list_any-append (λ x. int_eq x id) left (broker ∷ [])
    ∙ same_test (has left id || (int_eq broker id || false)) (has ids id || int_eq broker id)
    (λ h. elim (or_cases (has left id) (int_eq broker id || false) h) [
      | inl k ↦ or_left (has ids id) (int_eq broker id) (has_before (is_other broker) ids id k)
      | inr k ↦ or_right (has ids id) (int_eq broker id) (elim (or_cases (int_eq broker id) false k) [ inl e ↦ e | inr n ↦ absurd cc ])
    ])
    (λ h. elim (cases_Bool (int_eq broker id)) [
      | inl e ↦ or_right (has left id) (int_eq broker id || false) (or_left (int_eq broker id) false e)
      | inr n ↦ or_left (has left id) (int_eq broker id || false) (has_kept (is_other broker) ids id
          (elim (or_cases (has ids id) (int_eq broker id) h) [ inl k ↦ k | inr e ↦ absurd (refutes (int_eq broker id) (rw n refl) e) ])
          (rw (differs broker id n) refl))
    ])

beat_distinct : (broker : ℤ) (ids : List ℤ) → is_distinct ids ≡ true → is_distinct (filter (is_other broker) ids ++ broker ∷ []) ≡ true
beat_distinct broker ids once =
    joined_distinct (filter (is_other broker) ids) (broker ∷ []) (distinct_kept (is_other broker) ids once) refl
    (λ id h. rw (differs id broker (elim (cases_Bool (int_eq id broker)) [
      | inl e ↦ absurd (refutes (int_eq id broker) (passes_kept (is_other broker) ids id h) e)
      | inr n ↦ n
    ])) refl)

pub beaten : BeatsStand
beaten h broker now offset are late =
    let D : List ℤ → Type 0 = λ ids. is_distinct ids ≡ true in
    let W : List ℤ → Type 0 = λ ids. is_within (stopping_brokers h) ids ≡ true in
    let ids : List ℤ = contact_brokers h in
    let p : Contact → Bool = λ c. is_other broker c.broker in
    let c : Contact = record { broker = broker; time = now; offset = offset } in
    record {
      distinct = subst D (sym (beat_brokers h broker now offset)) (beat_distinct broker ids are.distinct);
      stopping_distinct = are.stopping_distinct;
      rising = fall_push (filter p h.contacts) c (fall_left p h.contacts are.rising) (all_left p (is_upto now) h.contacts (all_upto now h.contacts are.rising late));
      among = subst W (sym (beat_brokers h broker now offset)) (all_from (has (filter (is_other broker) ids ++ broker ∷ [])) (stopping_brokers h)
          (λ id k. beat_has broker ids id ∙ or_left (has ids id) (int_eq broker id) (all_at (has ids) (stopping_brokers h) id are.among k)));
    }

found_last : (cs : List Contact) (c : Contact) → find (λ (d : Contact). int_eq d.broker c.broker) (contacts_without cs c.broker ++ c ∷ []) ≡ Some c
found_last [] c = rw (id_itself c.broker) refl
found_last (d ∷ cs) c =
    let is_it : Contact → Bool = λ e. int_eq e.broker c.broker in
    elim (cases_Bool (int_eq d.broker c.broker)) [
      | inl e ↦ rw e (found_last cs c)
      | inr n ↦ rw n (rw n (found_last cs c))
    ]

found_others : (cs : List Contact) (c : Contact) (id : ℤ) → int_eq id c.broker ≡ false → find (λ (d : Contact). int_eq d.broker id) (contacts_without cs c.broker ++ c ∷ []) ≡ find (λ (d : Contact). int_eq d.broker id) cs
found_others [] c id other = rw (differs id c.broker other) refl
found_others (d ∷ cs) c id other =
    elim (cases_Bool (int_eq d.broker c.broker)) [
      | inl e ↦ let P : ℤ → Type 0 = λ x. int_eq x id ≡ false in
          rw e (rw (subst P (sym (same_id d.broker c.broker e)) (differs id c.broker other)) (found_others cs c id other))
      | inr n ↦ rw n (ap (λ (o : Option Contact). cond (int_eq d.broker id) (Some d) o) (found_others cs c id other))
    ]

pub beats : (h : Heartbeats) (broker now offset id : ℤ) → Beats h broker now offset id
beats h broker now offset id =
    let c : Contact = record { broker = broker; time = now; offset = offset } in
    record {
      contacts = ap (λ ids. has ids id) (beat_brokers h broker now offset) ∙ beat_has broker (contact_brokers h) id;
      reported = ap (λ o. option_map (λ (d : Contact). d.offset) o) (found_last h.contacts c);
      others = λ other. ap (λ o. option_map (λ (d : Contact). d.offset) o) (found_others h.contacts c id other);
    }

-- ---- stop

-- an id that a list hasn't is none of the list's
none_of : (broker : ℤ) (ids : List ℤ) → has ids broker ≡ false → (id : ℤ) → has ids id ≡ true → int_eq broker id ≡ false
none_of broker ids new id k =
    elim (cases_Bool (int_eq broker id)) [
      | inl e ↦ let P : ℤ → Type 0 = λ x. has ids x ≡ true in
          absurd (refutes (has ids broker) (rw new refl) (subst P (sym (same_id broker id e)) k))
      | inr n ↦ n
    ]

pub stopped : StoppingStands
stopped h broker tip are there new =
    let D : List ℤ → Type 0 = λ ids. is_distinct ids ≡ true in
    let W : List ℤ → Type 0 = λ ids. is_within ids (contact_brokers h) ≡ true in
    let ids : List ℤ = stopping_brokers h in
    let now : stopping_brokers (stop h broker tip) ≡ ids ++ broker ∷ [] = map-append (λ (s : Stopping). s.broker) h.stopping (new_stopping tip broker ∷ []) in
    record {
      distinct = are.distinct;
      stopping_distinct = subst D (sym now) (joined_distinct ids (broker ∷ []) are.stopping_distinct refl
          (λ id k. rw (none_of broker ids new id k) refl));
      rising = are.rising;
      among = subst W (sym now) (list_all-append (has (contact_brokers h)) ids (broker ∷ []) ∙ and_from (is_within ids (contact_brokers h)) (has (contact_brokers h) broker && true) are.among (and_from (has (contact_brokers h) broker) true there refl));
    }

-- ---- expired

none_old : (limit : ℤ) (c : Contact) (cs : List Contact) → is_upto limit c ≡ false → list_all (λ later. int_le c.time later.time) cs ≡ true → filter (is_upto limit) cs ≡ []
none_old limit c [] young h = refl
none_old limit c (d ∷ cs) young h =
    let parts = and_parts (int_le c.time d.time) (list_all (λ later. int_le c.time later.time) cs) h in
    elim (cases_Bool (is_upto limit d)) [
      | inl old ↦ absurd (refutes (is_upto limit c) (rw young refl) (le_through c.time d.time limit parts.0 old))
      | inr n ↦ rw n (none_old limit c cs young parts.1)
    ]

first_more : (n : ℕ) (c : Contact) (cs : List Contact) → take (1 + n) (c ∷ cs) ≡ c ∷ take n cs
first_more n c cs = let e : 1 + n ≡ suc n = omega arith in rw e refl

old_front : (limit : ℤ) (cs : List Contact) → never_fall cs ≡ true → take_while (is_upto limit) cs ≡ filter (is_upto limit) cs
old_front limit [] h = refl
old_front limit (c ∷ cs) h =
    let parts = and_parts (list_all (λ later. int_le c.time later.time) cs) (never_fall cs) h in
    elim (cases_Bool (is_upto limit c)) [
      | inl old ↦ rw old (first_more (prefix_len (is_upto limit) cs) c cs ∙ ap (λ rest. c ∷ rest) (old_front limit cs parts.1))
      | inr young ↦ rw young (sym (none_old limit c cs young parts.0))
    ]

pub old_expire : TheOldExpire
old_expire h limit are = ap (λ cs. map (λ (c : Contact). c.broker) cs) (old_front limit h.contacts are.rising)
