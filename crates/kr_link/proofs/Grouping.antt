-- Batches that go together in an append.
use Rattle.std.proofs.Common.{◌≡◌, ◌∙◌, sym, ℕ, zero, suc, ◌+◌, ◌-◌, ◌<◌, ◌≤◌, Bool, true, false, cond, List, [], ◌∷◌, ◌++◌, length, drop, get_or, refl, ap, subst, arith, append_assoc, append-nil}
use Rattle.std.proofs.lemmas.Bool.Decides.{nat_tests}
use Rattle.std.proofs.lemmas.Bool.{cond-true, cond-false, leb-true}
use Rattle.std.specs.Prelude.{◌==◌, nat_le, Option, Some, None, option_to_list, slice_get}
use Rattle.std.specs.Option.{option_map_or}
use Rattle.law_quorum.specs.Batches.{Batch}
use Rattle.law_quorum.specs.Changes.{base_of_first}
use Rattle.law_core.specs.Core.{AppendGroup, append_group_behind, end_of, with_first}
use Rattle.kr_link.specs.Groups.{fitted, has_no_batch, left_behind, batch_end, waiting_group}

pub none_is : (xs : List Batch) → (length xs == 0) ≡ has_no_batch xs
none_is [] = refl
none_is (b ∷ bs) = grind (arith, nat_tests)

pub first_is : (xs : List Batch) → option_map_or (λ (b : Batch). b.base) (slice_get xs 0) 0 ≡ base_of_first xs
first_is [] = refl
first_is (b ∷ bs) = refl

last_of : (from d : ℕ) (b : Batch) (bs : List Batch) → option_map_or batch_end (slice_get (b ∷ bs) (length bs)) d ≡ end_of from (b ∷ bs)
last_of from d b [] = refl
last_of from d b (c ∷ bs) = last_of (b.base + b.count) d c bs

pub last_ends : (from : ℕ) (bs : List Batch) → option_map_or batch_end (slice_get bs (length bs - 1)) from ≡ end_of from bs
last_ends from [] = refl
last_ends from (b ∷ bs) = (let at : suc (length bs) - 1 ≡ length bs = omega arith in rw at (last_of from from b bs))

-- ---- one more, where it has room

abbrev after_one : ℕ → ℕ → Option Batch → List Batch → AppendGroup
after_one most room None rest = ([], rest)
after_one most room (Some b) rest = with_first b (append_group_behind most (room - length b.bytes) rest)

one_by : (t : Bool) (most room : ℕ) (b : Batch) (bs : List Batch)
    → cond t (with_first b (append_group_behind most (room - length b.bytes) bs)) ([], b ∷ bs) ≡ after_one most room (cond t (Some b) None) (cond t bs (b ∷ bs))
one_by true most room b bs = refl
one_by false most room b bs = refl

one_more : (most room : ℕ) (waits : List Batch) → append_group_behind (suc most) room waits ≡ after_one most room (fitted room waits) (left_behind room waits)
one_more most room [] = refl
one_more most room (b ∷ bs) = one_by (nat_le (length b.bytes) room) most room b bs

taken_one : (most room : ℕ) (waits : List Batch) → 0 < most → append_group_behind most room waits ≡ after_one (most - 1) room (fitted room waits) (left_behind room waits)
taken_one zero room waits some = absurd (omega arith)
taken_one (suc most) room waits some = (let at : suc most - 1 ≡ most = omega arith in rw at (one_more most room waits))

-- what is behind the next one, and what is left where none fits or no more may go
pub with_next : (most room : ℕ) (waits after : List Batch) (b : Batch) → 0 < most → Some b ≡ fitted room waits → after ≡ left_behind room waits
    → append_group_behind most room waits ≡ with_first b (append_group_behind (most - 1) (room - length b.bytes) after)
with_next most room waits after b some first rest =
    taken_one most room waits some ∙ (ap (λ (o : Option Batch). after_one (most - 1) room o (left_behind room waits)) (sym first)
    ∙ ap (λ (bs : List Batch). with_first b (append_group_behind (most - 1) (room - length b.bytes) bs)) (sym rest))

pub with_none : (most room : ℕ) (waits after : List Batch) → 0 < most → None ≡ fitted room waits → after ≡ left_behind room waits
    → append_group_behind most room waits ≡ ([], after)
with_none most room waits after some first rest =
    taken_one most room waits some ∙ (ap (λ (o : Option Batch). after_one (most - 1) room o (left_behind room waits)) (sym first)
    ∙ ap (λ (bs : List Batch). ([], bs)) (sym rest))

pub with_most : (room : ℕ) (waits : List Batch) → append_group_behind 0 room waits ≡ ([], waits)
with_most room [] = refl
with_most room (b ∷ bs) = refl

-- ---- the first ones

pub fits : (room : ℕ) (waits : List Batch) (b : Batch) → Some b ≡ fitted room waits → length b.bytes ≤ room
fits room [] b e = absurd cc
fits room (c ∷ bs) b e = by (nat_le (length c.bytes) room) refl e
  where
    by : (t : Bool) → nat_le (length c.bytes) room ≡ t → Some b ≡ cond t (Some c) None → length b.bytes ≤ room
    by true low is = (let same : c ≡ b = cc in subst (λ (x : Batch). length x.bytes ≤ room) same (leb-true (length c.bytes) room low))
    by false low is = absurd cc

abbrev pub is_within : ℕ → List Batch → Bool
is_within room waits = option_map_or (λ (b : Batch). nat_le (length b.bytes) room) (slice_get waits 0) false

pub none_fits : (room : ℕ) (waits : List Batch) → is_within room waits ≡ false → fitted room waits ≡ None
none_fits room [] e = refl
none_fits room (b ∷ bs) e = cond-false (nat_le (length b.bytes) room) (Some b) None e

pub all_stay : (room : ℕ) (waits : List Batch) → is_within room waits ≡ false → left_behind room waits ≡ waits
all_stay room [] e = refl
all_stay room (b ∷ bs) e = cond-false (nat_le (length b.bytes) room) bs (b ∷ bs) e

pub one_fits : (room : ℕ) (waits : List Batch) (first : Option Batch) → is_within room waits ≡ true → ((d : Batch) → 0 < length waits → first ≡ Some (get_or waits 0 d)) → first ≡ fitted room waits
one_fits room [] first e is = absurd cc
one_fits room (b ∷ bs) first e is = is b (omega arith) ∙ sym (cond-true (nat_le (length b.bytes) room) (Some b) None e)

pub others_stay : (room : ℕ) (waits rest : List Batch) → is_within room waits ≡ true → rest ≡ drop 1 waits → rest ≡ left_behind room waits
others_stay room [] rest e is = absurd cc
others_stay room (b ∷ bs) rest e is = is ∙ sym (cond-true (nat_le (length b.bytes) room) bs (b ∷ bs) e)

pub none_popped : (waits : List Batch) (first : Option Batch) → ((d : Batch) → 0 < length waits → first ≡ Some (get_or waits 0 d)) → first ≡ None → length waits ≡ 0
none_popped [] first is none = refl
none_popped (b ∷ bs) first is none = (let one : first ≡ Some b = is b (omega arith) in absurd cc)

pub one_popped : (waits rest : List Batch) (b : Batch) (first : Option Batch) → waits ≡ option_to_list first ++ rest → first ≡ Some b → waits ≡ b ∷ rest
one_popped waits rest b first is some = is ∙ ap (λ (o : Option Batch). option_to_list o ++ rest) some

pub none_left : (waits rest : List Batch) (first : Option Batch) → waits ≡ option_to_list first ++ rest → first ≡ None → waits ≡ rest
none_left waits rest first is none = is ∙ ap (λ (o : Option Batch). option_to_list o ++ rest) none

pub none_grouped : (waits : List Batch) → length waits ≡ 0 → waiting_group waits ≡ ([], waits)
none_grouped [] e = refl
none_grouped (b ∷ bs) e = absurd (omega arith)

module _ (waits rest : List Batch) (first : Batch) (room : ℕ) (is : waits ≡ first ∷ rest) (left : room ≡ 1048576 - length first.bytes) where
  grouped : waiting_group waits ≡ with_first first (append_group_behind 99 room rest)
  grouped = ap waiting_group is ∙ ap (λ (r : ℕ). with_first first (append_group_behind 99 r rest)) (sym left)

  pub group_of_first : (one group : List Batch) → one ≡ first ∷ [] → group ≡ one ++ (append_group_behind 99 room rest).0 → group ≡ (waiting_group waits).0
  group_of_first one group o g =
      g ∙ (ap (λ (bs : List Batch). bs ++ (append_group_behind 99 room rest).0) o ∙ sym (ap (λ (x : AppendGroup). x.0) grouped))

  pub rest_of_first : (after : List Batch) → after ≡ (append_group_behind 99 room rest).1 → after ≡ (waiting_group waits).1
  rest_of_first after r = r ∙ sym (ap (λ (x : AppendGroup). x.1) grouped)

-- ---- a loop's step, and its ends

module _ (most room : ℕ) (waits group : List Batch) (some : 0 < most) where
  pub next_group : (after more : List Batch) (b : Batch) (size : ℕ) → Some b ≡ fitted room waits → after ≡ left_behind room waits → more ≡ group ++ b ∷ [] → size ≡ length b.bytes
      → more ++ (append_group_behind (most - 1) (room - size) after).0 ≡ group ++ (append_group_behind most room waits).0
  next_group after more b size first rest m is =
      let g : AppendGroup = append_group_behind (most - 1) (room - size) after in
      let one : more ++ g.0 ≡ group ++ (b ∷ g.0) = ap (λ (bs : List Batch). bs ++ g.0) m ∙ append_assoc group (b ∷ []) g.0 in
      let sized : group ++ (b ∷ g.0) ≡ group ++ (b ∷ (append_group_behind (most - 1) (room - length b.bytes) after).0) =
      ap (λ (n : ℕ). group ++ (b ∷ (append_group_behind (most - 1) (room - n) after).0)) is in
      one ∙ (sized ∙ sym (ap (λ (x : AppendGroup). group ++ x.0) (with_next most room waits after b some first rest)))

  pub next_rest : (after : List Batch) (b : Batch) (size : ℕ) → Some b ≡ fitted room waits → after ≡ left_behind room waits → size ≡ length b.bytes
      → (append_group_behind (most - 1) (room - size) after).1 ≡ (append_group_behind most room waits).1
  next_rest after b size first rest is =
      ap (λ (n : ℕ). (append_group_behind (most - 1) (room - n) after).1) is ∙ sym (ap (λ (x : AppendGroup). x.1) (with_next most room waits after b some first rest))

  pub none_group : (total after : List Batch) → None ≡ fitted room waits → after ≡ left_behind room waits → group ++ (append_group_behind most room waits).0 ≡ total → group ≡ total
  none_group total after first rest all =
      sym (append-nil group) ∙ (sym (ap (λ (x : AppendGroup). group ++ x.0) (with_none most room waits after some first rest)) ∙ all)

  pub none_rest : (total after : List Batch) → None ≡ fitted room waits → after ≡ left_behind room waits → (append_group_behind most room waits).1 ≡ total → after ≡ total
  none_rest total after first rest all = sym (ap (λ (x : AppendGroup). x.1) (with_none most room waits after some first rest)) ∙ all

module _ (most room : ℕ) (waits group : List Batch) (over : most ≤ 0) where
  full : append_group_behind most room waits ≡ ([], waits)
  full = (let zero_left : most ≡ 0 = omega arith in ap (λ (m : ℕ). append_group_behind m room waits) zero_left ∙ with_most room waits)

  pub full_group : (total : List Batch) → group ++ (append_group_behind most room waits).0 ≡ total → group ≡ total
  full_group total all = sym (append-nil group) ∙ (sym (ap (λ (x : AppendGroup). group ++ x.0) full) ∙ all)

  pub full_rest : (total : List Batch) → (append_group_behind most room waits).1 ≡ total → waits ≡ total
  full_rest total all = sym (ap (λ (x : AppendGroup). x.1) full) ∙ all
