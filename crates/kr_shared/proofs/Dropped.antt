-- What goes with a leadership, and what stays.
use Rattle.std.proofs.Common.{◌≡◌, ◌∙◌, sym, subst, ℕ, suc, ℤ, pos, Bool, true, false, true≢false, cond, ◌||◌, ◌+◌, ◌≤◌, ◌<◌, List, [], ◌∷◌, ◌++◌, length, filter, refl, ap, arith, inl, inr}
use Rattle.std.specs.Prelude.{◌+ℤ◌, ◌==◌}
use Rattle.std.specs.List.{AllByRecursion, list_any}
use Rattle.std.proofs.lemmas.Bool.{cases_lt}
use Rattle.std.proofs.lemmas.Bool.Decides.{Decides-eqb, not_from_Decides}
use Rattle.std.proofs.lemmas.Int.{ints}
use Rattle.std.proofs.lemmas.List.{append-nil, nil_from_length}
use Rattle.kr_calls.specs.declared.events.Entry.{Entry}
use Rattle.kr_calls.specs.declared.events.Entry.TheVariants as entries
use Rattle.kr_calls.specs.SeatList.{is_below, item_entries}
use Rattle.kr_defs.specs.declared.record.Item.{Item}
use Rattle.kr_view.specs.Staged.{staged_above, staged_below}
use Rattle.kr_model.specs.Entries.{items_from}
use Rattle.kr_model.specs.World.{State, closed_of}
use Rattle.kr_model.proofs.Places.{is_below as is_lower, isnt_below}
use Rattle.law_published_log.proofs.Lists.{below_later, none_below}
use Rattle.kr_shared.specs.Works.{cut_if}
use Rattle.kr_shared.specs.inner.Dropping.{left_if, up_to_below}

-- ---- below an end, and above it

pub below_again : (end : ℤ) (es : List Entry) → staged_below end (staged_below end es) ≡ staged_below end es
below_again end [] = refl
below_again end (e ∷ es) =
    let rest = below_again end es in
    elim (is_below end e) as (λ b. is_below end e ≡ b → staged_below end (cond b (e ∷ staged_below end es) []) ≡ cond b (e ∷ staged_below end es) []) [
      | true ↦ λ is. ap (λ b. cond b (e ∷ staged_below end (staged_below end es)) []) is ∙ ap (λ (l : List Entry). e ∷ l) rest
      | false ↦ λ is. refl
    ] refl

pub none_above : (end : ℤ) (es : List Entry) → staged_above end (staged_below end es) ≡ []
none_above end [] = refl
none_above end (e ∷ es) =
    let rest = none_above end es in
    elim (is_below end e) as (λ b. is_below end e ≡ b → staged_above end (cond b (e ∷ staged_below end es) []) ≡ []) [
      | true ↦ λ is. ap (λ b. cond b (staged_above end (staged_below end es)) (e ∷ staged_below end es)) is ∙ rest
      | false ↦ λ is. refl
    ] refl

pub both_parts : (end : ℤ) (es : List Entry) → staged_below end es ++ staged_above end es ≡ es
both_parts end [] = refl
both_parts end (e ∷ es) =
    elim (is_below end e) as (λ b. cond b (e ∷ staged_below end es) [] ++ cond b (staged_above end es) (e ∷ es) ≡ e ∷ es) [ true ↦ ap (λ (l : List Entry). e ∷ l) (both_parts end es) | false ↦ refl ]

abbrev pub AreBelow : ℤ → List Entry → Type 0
AreBelow end es = AllByRecursion (λ e. is_below end e ≡ true) es

pub all_below : (end : ℤ) (es : List Entry) → AreBelow end (staged_below end es)
all_below end [] = tt
all_below end (e ∷ es) =
    elim (is_below end e) as (λ b. is_below end e ≡ b → AreBelow end (cond b (e ∷ staged_below end es) [])) [ true ↦ λ is. (is, all_below end es) | false ↦ λ is. tt ] refl

pub below_front : (end : ℤ) (xs ys : List Entry) → AreBelow end xs → staged_below end (xs ++ ys) ≡ xs ++ staged_below end ys
below_front end [] ys low = refl
below_front end (x ∷ xs) ys low = ap (λ b. cond b (x ∷ staged_below end (xs ++ ys)) []) low.0 ∙ ap (λ (l : List Entry). x ∷ l) (below_front end xs ys low.1)

pub above_front : (end : ℤ) (xs ys : List Entry) → AreBelow end xs → staged_above end (xs ++ ys) ≡ staged_above end ys
above_front end [] ys low = refl
above_front end (x ∷ xs) ys low = ap (λ b. cond b (staged_above end (xs ++ ys)) (x ∷ xs ++ ys)) low.0 ∙ above_front end xs ys low.1

pub later_below : (m n : ℕ) (es : List Entry) → m ≤ n → AreBelow (pos m) es → AreBelow (pos n) es
later_below m n [] up low = tt
later_below m n (e ∷ es) up low = (below_later m n e up low.0, later_below m n es up low.1)

-- ---- up to the last entry below an end

abbrev any_below : ℤ → List Entry → Bool
any_below end es = list_any (is_below end) es

any_both : (end : ℤ) (xs ys : List Entry) → any_below end (xs ++ ys) ≡ (any_below end xs || any_below end ys)
any_both end [] ys = refl
any_both end (x ∷ xs) ys = elim (is_below end x) as (λ b. (b || any_below end (xs ++ ys)) ≡ ((b || any_below end xs) || any_below end ys)) [ true ↦ refl | false ↦ any_both end xs ys ]

or_false : (b : Bool) → (b || false) ≡ b
or_false true = refl
or_false false = refl

none_left : (end : ℤ) (xs : List Entry) → any_below end xs ≡ false → up_to_below end xs ≡ []
none_left end [] none = refl
none_left end (x ∷ xs) none = ap (λ b. cond b (x ∷ up_to_below end xs) []) none

-- what is behind isn't below
pub up_to_front : (end : ℤ) (xs ys : List Entry) → any_below end ys ≡ false → up_to_below end (xs ++ ys) ≡ up_to_below end xs
up_to_front end [] ys none = none_left end ys none
up_to_front end (x ∷ xs) ys none =
    ap (λ b. cond (is_below end x || b) (x ∷ up_to_below end (xs ++ ys)) []) (any_both end xs ys ∙ ap (λ b. any_below end xs || b) none ∙ or_false (any_below end xs))
    ∙ ap (λ (l : List Entry). cond (is_below end x || any_below end xs) (x ∷ l) []) (up_to_front end xs ys none)

or_true : (a b : Bool) → b ≡ true → (a || b) ≡ true
or_true true b is = refl
or_true false b is = is

-- what is behind is below
pub up_to_all : (end : ℤ) (xs ys : List Entry) → any_below end ys ≡ true → up_to_below end (xs ++ ys) ≡ xs ++ up_to_below end ys
up_to_all end [] ys some = refl
up_to_all end (x ∷ xs) ys some =
    ap (λ b. cond b (x ∷ up_to_below end (xs ++ ys)) []) (or_true (is_below end x) (any_below end (xs ++ ys)) (any_both end xs ys ∙ or_true (any_below end xs) (any_below end ys) some))
    ∙ ap (λ (l : List Entry). x ∷ l) (up_to_all end xs ys some)

pub up_to_low : (end : ℤ) (xs ys : List Entry) → AreBelow end xs → up_to_below end (xs ++ ys) ≡ xs ++ up_to_below end ys
up_to_low end [] ys low = refl
up_to_low end (x ∷ xs) ys low =
    ap (λ b. cond (b || any_below end (xs ++ ys)) (x ∷ up_to_below end (xs ++ ys)) []) low.0 ∙ ap (λ (l : List Entry). x ∷ l) (up_to_low end xs ys low.1)

-- the last one is below, or goes
pub last_stays : (end : ℤ) (xs : List Entry) (e : Entry) → is_below end e ≡ true → up_to_below end (xs ++ e ∷ []) ≡ xs ++ e ∷ []
last_stays end xs e is =
    up_to_all end xs (e ∷ []) (ap (λ b. b || false) is) ∙ ap (λ b. xs ++ cond (b || false) (e ∷ []) []) is

pub last_goes : (end : ℤ) (xs : List Entry) (e : Entry) → is_below end e ≡ false → up_to_below end (xs ++ e ∷ []) ≡ up_to_below end xs
last_goes end xs e is = up_to_front end xs (e ∷ []) (ap (λ b. b || false) is)

-- none is left of the second part, or all of the first
pub two_parts : (end : ℤ) (xs ys : List Entry) → up_to_below end ys ≡ [] → up_to_below end (xs ++ ys) ≡ up_to_below end xs
two_parts end xs [] none = ap (up_to_below end) (append-nil xs)
two_parts end xs (y ∷ ys) none =
    elim (any_below end (y ∷ ys)) as (λ b. any_below end (y ∷ ys) ≡ b → cond b (y ∷ up_to_below end ys) [] ≡ [] → up_to_below end (xs ++ y ∷ ys) ≡ up_to_below end xs) [
      | true ↦ λ is none. absurd cc
      | false ↦ λ is none. up_to_front end xs (y ∷ ys) is
    ] refl none

pub second_part : (end : ℤ) (xs : List Entry) (y : Entry) (ys rest : List Entry) → up_to_below end ys ≡ y ∷ rest → up_to_below end (xs ++ ys) ≡ xs ++ up_to_below end ys
second_part end xs y [] rest some = absurd cc
second_part end xs y (z ∷ ys) rest some =
    elim (any_below end (z ∷ ys)) as (λ b. any_below end (z ∷ ys) ≡ b → cond b (z ∷ up_to_below end ys) [] ≡ y ∷ rest → up_to_below end (xs ++ z ∷ ys) ≡ xs ++ up_to_below end (z ∷ ys)) [
      | true ↦ λ is some. up_to_all end xs (z ∷ ys) is
      | false ↦ λ is some. absurd cc
    ] refl some

-- ---- items in order

next : (n : ℕ) → pos n +ℤ pos 1 ≡ pos (suc n)
next n = grind (arith, ints)

none_any : (place from : ℕ) (items : List Item) → place ≤ from → any_below (pos place) (item_entries (pos from) items) ≡ false
none_any place from [] up = refl
none_any place from (x ∷ xs) up =
    ap (λ b. b || any_below (pos place) (item_entries (pos from +ℤ pos 1) xs)) (isnt_below from place up)
    ∙ (ap (λ p. any_below (pos place) (item_entries p xs)) (next from) ∙ none_any place (suc from) xs (omega (arith, up)))

items_left : (place from : ℕ) (items : List Item) → up_to_below (pos place) (item_entries (pos from) items) ≡ filter (is_below (pos place)) (item_entries (pos from) items)
items_left place from [] = refl
items_left place from (x ∷ xs) =
    let rest = item_entries (pos from +ℤ pos 1) xs in
    let e : Entry = entries.Item (pos from) x in
    let later : up_to_below (pos place) rest ≡ filter (is_below (pos place)) rest =
    ap (λ p. up_to_below (pos place) (item_entries p xs)) (next from) ∙ (items_left place (suc from) xs ∙ ap (λ p. filter (is_below (pos place)) (item_entries p xs)) (sym (next from))) in
    elim (cases_lt from place) [
      | inl low ↦
          let is = is_lower from place low in
          ap (λ b. cond (b || any_below (pos place) rest) (e ∷ up_to_below (pos place) rest) []) is
          ∙ (ap (λ (l : List Entry). e ∷ l) later ∙ ap (λ b. cond b (e ∷ filter (is_below (pos place)) rest) (filter (is_below (pos place)) rest)) (sym is))
      | inr up ↦ none_left (pos place) (item_entries (pos from) (x ∷ xs)) (none_any place from (x ∷ xs) up) ∙ sym (none_below place from (x ∷ xs) up)
    ]

pub left_cut : (lost : Bool) (end : ℤ) (es : List Entry) (s : State) → es ≡ item_entries (pos (closed_of s.world)) (items_from s.world.log (closed_of s.world)) → {n : ℕ} → end ≡ pos n → left_if lost end es ≡ cut_if lost end es
left_cut false end es s is {n} at = refl
left_cut true end es s is {n} at =
    (λ i. up_to_below (at i) (is i))
    ∙ (items_left n (closed_of s.world) (items_from s.world.log (closed_of s.world)) ∙ (λ i. filter (is_below (sym at i)) (sym is i)))

pub ruleset dropping = (last_stays, last_goes)

-- first the back part loses what goes, and where nothing of it is left, the front
pub front_goes : (end : ℤ) (front back back' front' : List Entry) → back' ≡ up_to_below end back → back' ≡ [] → front' ≡ up_to_below end front → front' ++ back' ≡ up_to_below end (front ++ back)
front_goes end front back back' front' is none gone =
    (λ i. gone i ++ none i) ∙ (append-nil (up_to_below end front) ∙ sym (two_parts end front back (sym is ∙ none)))

pub back_goes : (end : ℤ) (front back back' : List Entry) → back' ≡ up_to_below end back → (back' ≡ [] → ⊥) → front ++ back' ≡ up_to_below end (front ++ back)
back_goes end front back [] is some = absurd (some refl)
back_goes end front back (y ∷ rest) is some = ap (λ (l : List Entry). front ++ l) is ∙ sym (second_part end front y back rest (sym is))

-- by whether something is left of the back part
pub none_counted : (es : List Entry) → (length es == 0) ≡ true → es ≡ []
none_counted es is = nil_from_length es ((Decides-eqb (length es) 0).0 is)

pub some_counted : (es : List Entry) → (length es == 0) ≡ false → es ≡ [] → ⊥
some_counted es is none = not_from_Decides (length es == 0) (Decides-eqb (length es) 0) is (ap length none)
