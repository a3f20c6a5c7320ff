-- The pages of a walk are of one image, unless its pin is lost.
use Rattle.std.proofs.Common.{◌≡◌, ◌∙◌, ◌⊎◌, inl, inr, ◌<◌, ℕ, zero, suc, ℤ, true, false, cond, List, [], ◌∷◌, ◌++◌, map, refl, sym, ap, subst, append-nil, arith}
use Rattle.std.specs.Prelude.{pos, negsuc, int_lt, ◌||◌, IsTrue, Option, Some, None, unsigned_abs}
use Rattle.std.specs.List.{AllByRecursion}
use Rattle.std.specs.Option.{is_some}
use Rattle.kr_defs.specs.Image.{Image, IsValid, empty}
use Rattle.kr_defs.proofs.Tests.{some_is}
use Rattle.kr_calls.specs.declared.events.Entry.{Entry}
use Rattle.kr_calls.specs.declared.pins.Pin.{Pin}
use Rattle.kr_calls.specs.SeatList.{image_below, is_kept_in, is_load}
use Rattle.kr_calls.specs.SeatListLaws.{unpins}
use Rattle.kr_calls.proofs.KeptPlaces.{images_stay}
use Rattle.kr_describe.proofs.ValidImages.{image_valid}
use Rattle.kr_pages.specs.declared.describe.Describe.{Describe}
use Rattle.kr_pages.specs.declared.describe.Described.{Described}
use Rattle.kr_pages.specs.declared.describe.LineKey.{LineKey}
use Rattle.kr_pages.specs.Joined.{IsPaged}
use Rattle.kr_pages.specs.Lines.{lines}
use Rattle.kr_pages.specs.Pages.{limit_of, most_lines, next_cursor, page}
use Rattle.kr_pages.proofs.Rising.{pages_join_lines}
use Rattle.kr_view.specs.CopiesRule.{GoesOn}
use Rattle.kr_view.specs.Seats.{Onward}
use Rattle.kr_shared.specs.Clients.{Client}
use Rattle.kr_shared.specs.Grants.{IsKeptFrom}
use Rattle.kr_shared.proofs.Onwards.{goes_on, onward_trans}
use Rattle.kr_server.specs.declared.exchange.Exchange.{Exchange}
use Rattle.kr_server.specs.declared.exchange.Exchange.TheVariants as exchanges
use Rattle.kr_server.specs.PagingCalls.{HoldsFor, HoldsOn, IsLost, IsPageExchange, KeepsFor}
use Rattle.kr_server.specs.SeatCalls.{AreExchanged, Holder, IsExchanged}
use Rattle.kr_server.specs.Walks.{IsPinLost, IsWalk, KeepsPins, NeighboursGoOn, ToldPage, WalksJoin, page_told, pages_told}
use Rattle.kr_server.proofs.LostPins.{later_part, lost_where, no_load}
use Rattle.kr_server.proofs.PageCalls.{asks_on, asks_records, asks_to_keep}
use Rattle.kr_server.proofs.Writes.{onward_all, onward_by}

-- ---- neighbours

-- what is no page keeps the pin
same_pin : (old new : Holder) (x : Exchange) → page_told x ≡ [] → IsExchanged old new x → new.pin ≡ old.pin
same_pin old new (exchanges.Write a) none is = is.1
same_pin old new (exchanges.Read call reply) none is = is.1
same_pin old new (exchanges.Page correlation place describe described) none is = absurd cc
same_pin old new (exchanges.Bare correlation error) none is = ap (λ (h : Holder). h.pin) is

first_none : (xs ys : List ToldPage) → xs ++ ys ≡ [] → xs ≡ []
first_none [] ys none = refl
first_none (x ∷ xs) ys none = absurd cc

last_none : (xs ys : List ToldPage) → xs ++ ys ≡ [] → ys ≡ []
last_none [] ys none = none
last_none (x ∷ xs) ys none = absurd cc

kept_between : (old new : Holder) (xs : List Exchange) → AreExchanged old xs new → pages_told xs ≡ [] → new.pin ≡ old.pin
kept_between old new [] all none = ap (λ (h : Holder). h.pin) all
kept_between old new (x ∷ xs) all none =
    kept_between all.0 new xs all.2 (last_none (page_told x) (pages_told xs) none) ∙ same_pin old all.0 x (first_none (page_told x) (pages_told xs) none) all.1

-- a page that left lines left its pin
left_pin : (next : Option LineKey) (got : Client) (pin : Pin) (new : Client) (left : Option Pin) → IsTrue (is_some next) → KeepsFor next got pin new left → left ≡ Some pin
left_pin None got pin new left is k = absurd cc
left_pin (Some next) got pin new left is k = k.1

-- a page with a cursor begins with the pin that is held
begins_with : (cursor : Option LineKey) (held : Option Pin) (pin : Pin) (old first : Client) (own : Pin) → IsTrue (is_some cursor) → held ≡ Some pin → HoldsFor cursor held old first own → (first ≡ old) × (own ≡ pin)
begins_with None held pin old first own is holds h = absurd cc
begins_with (Some key) None pin old first own is holds h = absurd cc
begins_with (Some key) (Some other) pin old first own is holds h = (h.0, h.1 ∙ some_is other pin holds)

later_page : (old : Client) (held : Pin) (others : List Pin) (ready : Client) (pin : Pin) (place : ℤ) (before new : Client)
    → HoldsOn old held others ready pin → old ≡ before → place ≡ pin.place → Onward ready.seen new.seen → (place ≡ held.place) ⊎ IsPinLost held before new
later_page old held [] ready pin place before new h same at on = inl (at ∙ ap (λ (p : Pin). p.place) h.1)
later_page old held (next ∷ more) ready pin place before new h same at on = inr (record {
  read = h.0;
  gone = h.1;
  before = subst (λ (c : Client). Onward c.seen h.0.seen) same (asks_records old h.0 h.3).onward;
  lost = h.4;
  gave = h.5;
  behind = onward_trans h.1.seen h.2.seen new.seen h.6.onward (onward_trans h.2.seen ready.seen new.seen (asks_on h.2 next more ready pin h.7).onward on);
})

pub neighbours_go_on : NeighboursGoOn
neighbours_go_on old left held new place later describe asked described shown between first all none second goes_on has_cursor =
    let kept : held.pin ≡ Some first.pin = kept_between left held between all none ∙ left_pin described.next first.got first.pin left.seat left.pin goes_on first.ends in
    let begun = begins_with asked.cursor held.pin first.pin held.seat second.first second.own has_cursor kept second.begins in
    let on = onward_trans second.ready.seen second.got.seen new.seat.seen (asks_records second.ready second.got second.reads).onward (asks_to_keep shown.next second.got second.pin new.seat new.pin second.ends).onward in
    let there = later_page second.first second.own second.others second.ready second.pin later held.seat new.seat second.holds begun.0 second.at on in
    let same : (later ≡ first.pin.place) ⊎ IsPinLost first.pin held.seat new.seat = subst (λ (p : Pin). (later ≡ p.place) ⊎ IsPinLost p held.seat new.seat) begun.1 there in
    elim same [
      | inl at ↦ inl (at ∙ sym first.at)
      | inr lost ↦ inr lost
    ]

-- ---- a pin that isn't lost

decided : (pin : Pin) (es : List Entry) → AllByRecursion (λ e. unpins pin e ≡ false) es ⊎ (AllByRecursion (λ e. unpins pin e ≡ false) es → ⊥)
decided pin [] = inl tt
decided pin (e ∷ es) = elim (unpins pin e) as (λ b. unpins pin e ≡ b → AllByRecursion (λ e. unpins pin e ≡ false) (e ∷ es) ⊎ (AllByRecursion (λ e. unpins pin e ≡ false) (e ∷ es) → ⊥)) [
  | true ↦ λ is. inr (λ all. let both : true ≡ false = sym is ∙ all.0 in cc)
  | false ↦ λ is. elim (decided pin es) [
    | inl all ↦ inl (is, all)
    | inr not_all ↦ inr (λ all. not_all all.1)
  ]
] refl

loads_none : (pin : Pin) (es : List Entry) → AllByRecursion (λ e. unpins pin e ≡ false) es → AllByRecursion (λ e. is_load e ≡ false) es
loads_none pin [] none = tt
loads_none pin (e ∷ es) none = (no_load pin e none.0, loads_none pin es none.1)

first_part : (P : Entry → Type 0) (xs ys : List Entry) → AllByRecursion P (xs ++ ys) → AllByRecursion P xs
first_part P [] ys all = tt
first_part P (x ∷ xs) ys all = (all.0, first_part P xs ys all.1)

module _ (pin : Pin) (list : List Entry) (kept : IsKeptFrom list pin) where
  -- nothing behind it takes it away
  none_takes : (later : List Entry) (on : GoesOn later list) → (IsLost pin later → ⊥) → AllByRecursion (λ e. unpins pin e ≡ false) (kept.rest ++ on.0)
  none_takes later on not_lost = elim (decided pin (kept.rest ++ on.0)) [
    | inl all ↦ all
    | inr not_all ↦ absurd (not_lost (lost_where pin list later kept on (λ all. absurd (not_all all))))
  ]

  pub kept_first : (later : List Entry) (on : GoesOn later list) → (IsLost pin later → ⊥) → IsTrue (is_kept_in list pin.place)
  kept_first later on not_lost =
      let none = first_part (λ e. unpins pin e ≡ false) kept.rest on.0 (none_takes later on not_lost) in
      let nothing : AllByRecursion (λ e. unpins pin e ≡ false) (kept.rest ++ []) = subst (AllByRecursion (λ e. unpins pin e ≡ false)) (sym (append-nil kept.rest)) none in
      subst (λ (l : List Entry). IsTrue (is_kept_in l pin.place)) (append-nil list) (kept.kept [] nothing)

  -- so the image is the one that was pinned
  pub same_image : (later : List Entry) (on : GoesOn later list) → (IsLost pin later → ⊥) → image_below pin.place later ≡ image_below pin.place list
  same_image later on not_lost =
      let none = later_part (λ e. unpins pin e ≡ false) kept.rest on.0 (none_takes later on not_lost) in
      ap (image_below pin.place) on.1 ∙ images_stay list on.0 pin.place (kept_first later on not_lost) (loads_none pin on.0 none)

-- ---- the pages of a walk

abbrev IsShownAt : ℤ → List Entry → ToldPage → Type 0
IsShownAt place list p = (p.place ≡ place) × (p.described ≡ page (image_below place list) p.describe)

abbrev told : ℤ → Describe → Described → ToldPage
told place describe described = record { place = place; describe = describe; described = described }

-- one page and the rest
data Parts (names : List (List ℕ)) (cursor : Option LineKey) (p : ToldPage) (ps : List ToldPage) : Type 0 where
  is_last : p.describe.names ≡ names → p.describe.cursor ≡ cursor → p.described.next ≡ None → ps ≡ [] → Parts names cursor p ps
  has_more : p.describe.names ≡ names → p.describe.cursor ≡ cursor → (next : LineKey) → p.described.next ≡ Some next → IsWalk names (Some next) ps → Parts names cursor p ps

parts : (names : List (List ℕ)) (cursor : Option LineKey) (p : ToldPage) (ps : List ToldPage) → IsWalk names cursor (p ∷ ps) → Parts names cursor p ps
parts names cursor p [] w = is_last w.0 w.1 w.2 refl
parts names cursor p (q ∷ ps) w = has_more w.0 w.1 w.2 w.3 w.4

-- the page is of the image that was pinned
shown_at : (list : List Entry) (old new : Client) (held left : Option Pin) (place : ℤ) (describe : Describe) (described : Described) (p : IsPageExchange old held new left place describe described)
    → IsKeptFrom list p.pin → GoesOn p.got.seen.list list → (IsLost p.pin p.got.seen.list → ⊥) → IsShownAt p.pin.place list (told place describe described)
shown_at list old new held left place describe described p kept on not_lost =
    (p.at, p.shows ∙ ap (λ (i : ℤ). page (image_below i p.got.seen.list) describe) p.at ∙ ap (λ (i : Image). page i describe) (same_image p.pin list kept p.got.seen.list on not_lost))

-- what is held where a page has ended
ends_with : (next : Option LineKey) (key : LineKey) (got : Client) (pin : Pin) (new : Client) (left : Option Pin) → next ≡ Some key → KeepsFor next got pin new left → (new ≡ got) × (left ≡ Some pin)
ends_with None key got pin new left is k = absurd cc
ends_with (Some next) key got pin new left is k = k

no_others : (old : Client) (held : Pin) (others : List Pin) (new : Client) (pin : Pin) → others ≡ [] → HoldsOn old held others new pin → (new ≡ old) × (pin ≡ held)
no_others old held [] new pin none h = h
no_others old held (next ∷ more) new pin none h = absurd cc

module _ (names : List (List ℕ)) (list : List Entry) (pin : Pin) (kept : IsKeptFrom list pin) where
  abbrev AllShown : List ToldPage → Type 0
  AllShown ps = AllByRecursion (IsShownAt pin.place list) ps

  -- a page, once the pin is held for it, and those behind it
  one_page : (xs : List Exchange) (old next : Holder) (place : ℤ) (describe : Describe) (described : Described) (cursor : Option LineKey)
      (p : IsPageExchange old.seat old.pin next.seat next.pin place describe described)
      → GoesOn p.ready.seen.list list → p.pin ≡ pin → (IsLost p.pin p.got.seen.list → ⊥)
      → ((key : LineKey) → GoesOn next.seat.seen.list list → next.pin ≡ Some pin → IsWalk names (Some key) (pages_told xs) → AllShown (pages_told xs))
      → IsWalk names cursor (told place describe described ∷ pages_told xs) → AllShown (told place describe described ∷ pages_told xs)
  one_page xs old next place describe described cursor p on is not_lost rest w =
      let read : GoesOn p.got.seen.list list = goes_on list p.ready.seen.list p.got.seen.list on p.reads.onward.list in
      let shown : IsShownAt pin.place list (told place describe described) =
      subst (λ (q : Pin). IsShownAt q.place list (told place describe described)) is
      (shown_at list old.seat next.seat old.pin next.pin place describe described p (subst (IsKeptFrom list) (sym is) kept) read not_lost) in
      elim (parts names cursor (told place describe described) (pages_told xs) w) [
        | is_last named asked none end ↦ subst (λ (ps : List ToldPage). AllShown (told place describe described ∷ ps)) (sym end) (shown, tt)
        | has_more named asked key goes further ↦
            let ended = ends_with described.next key p.got p.pin next.seat next.pin goes p.ends in
            (shown, rest key (subst (λ (c : Client). GoesOn c.seen.list list) (sym ended.0) read) (ended.1 ∙ ap (λ (q : Pin). Some q) is) further)
      ]

  -- the pages behind one that left lines
  behind : (xs : List Exchange) (old new : Holder) (all : AreExchanged old xs new) (key : LineKey) → GoesOn old.seat.seen.list list → old.pin ≡ Some pin
      → IsWalk names (Some key) (pages_told xs) → KeepsPins old xs new all → AllShown (pages_told xs)
  behind [] old new all key on held w keeps = absurd w
  behind (exchanges.Write a ∷ xs) old new all key on held w keeps =
      behind xs all.0 new all.2 key (goes_on list old.seat.seen.list all.0.seat.seen.list on (onward_by old all.0 (exchanges.Write a) all.1).list) (all.1.1 ∙ held) w keeps.1
  behind (exchanges.Read call reply ∷ xs) old new all key on held w keeps =
      behind xs all.0 new all.2 key (goes_on list old.seat.seen.list all.0.seat.seen.list on (onward_by old all.0 (exchanges.Read call reply) all.1).list) (all.1.1 ∙ held) w keeps.1
  behind (exchanges.Bare correlation error ∷ xs) old new all key on held w keeps =
      behind xs all.0 new all.2 key (goes_on list old.seat.seen.list all.0.seat.seen.list on (onward_by old all.0 (exchanges.Bare correlation error) all.1).list) (ap (λ (h : Holder). h.pin) all.1 ∙ held) w keeps.1
  behind (exchanges.Page correlation place describe described ∷ xs) old new all key on held w keeps =
      let p : IsPageExchange old.seat old.pin all.0.seat all.0.pin place describe described = all.1 in
      let asked : describe.cursor ≡ Some key = cursor_of (told place describe described) (pages_told xs) w in
      let has_one : IsTrue (is_some describe.cursor) = subst (λ (o : Option LineKey). IsTrue (is_some o)) (sym asked) refl in
      let begun = begins_with describe.cursor old.pin pin old.seat p.first p.own has_one held p.begins in
      let none = no_others p.first p.own p.others p.ready p.pin (keeps.0.0 has_one) p.holds in
      one_page xs old all.0 place describe described (Some key) p
      (subst (λ (c : Client). GoesOn c.seen.list list) (sym (none.0 ∙ begun.0)) on) (none.1 ∙ begun.1) keeps.0.1
      (λ next further held w. behind xs all.0 new all.2 next further held w keeps.1) w
    where
      cursor_of : (q : ToldPage) (ps : List ToldPage) → IsWalk names (Some key) (q ∷ ps) → q.describe.cursor ≡ Some key
      cursor_of q [] w = w.1
      cursor_of q (r ∷ ps) w = w.1

-- ---- the first page

-- a pin, and a list in which it is kept
record PinnedIn (pin : Pin) (later : List Entry) : Type 0 where
  list : List Entry
  kept : IsKeptFrom list pin
  on : GoesOn later list

itself : (list : List Entry) → GoesOn list list
itself list = ([], sym (append-nil list))

held_at : (old : Client) (held : Pin) (others : List Pin) (new : Client) (pin : Pin) → IsKeptFrom old.seen.list held → HoldsOn old held others new pin → PinnedIn pin new.seen.list
held_at old held [] new pin kept h = record {
  list = old.seen.list;
  kept = subst (IsKeptFrom old.seen.list) (sym h.1) kept;
  on = subst (λ (c : Client). GoesOn c.seen.list old.seen.list) (sym h.0) (itself old.seen.list);
}
held_at old held (next ∷ more) new pin kept h = held_at h.2 next more new pin h.6.kept h.7

pinned_first : (cursor : Option LineKey) (held : Option Pin) (old first : Client) (own : Pin) → cursor ≡ None → HoldsFor cursor held old first own → IsKeptFrom first.seen.list own
pinned_first None None old first own none h = h.kept
pinned_first None (Some held) old first own none h = h.2.kept
pinned_first (Some key) held old first own none h = absurd cc

-- ---- joined

at_least_one : (i : ℤ) → int_lt i (pos 1) ≡ false → 0 < unsigned_abs i
at_least_one (pos zero) is = absurd cc
at_least_one (pos (suc n)) is = omega arith
at_least_one (negsuc n) is = absurd cc

positive : (limit : ℤ) → 0 < limit_of limit
positive limit = elim (int_lt limit (pos 1)) as (λ b. int_lt limit (pos 1) ≡ b → 0 < cond (b || int_lt (pos most_lines) limit) most_lines (unsigned_abs limit)) [
  | true ↦ λ is. omega arith
  | false ↦ λ is. elim (int_lt (pos most_lines) limit) as (λ b. 0 < cond b most_lines (unsigned_abs limit)) [ true ↦ omega arith | false ↦ at_least_one limit is ]
] refl

module _ (image : Image) (names : List (List ℕ)) where
  abbrev limits : List ToldPage → List ℕ
  limits ps = map (λ (p : ToldPage). limit_of p.describe.limit) ps

  abbrev AllOf : List ToldPage → Type 0
  AllOf ps = AllByRecursion (λ (p : ToldPage). p.described ≡ page image p.describe) ps

  next_of : (cursor : Option LineKey) (p : ToldPage) → p.described ≡ page image p.describe → p.describe.names ≡ names → p.describe.cursor ≡ cursor
      → next_cursor (lines image names) cursor (limit_of p.describe.limit) ≡ p.described.next
  next_of cursor p shown named asked =
      ap (λ (ns : List (List ℕ)). next_cursor (lines image ns) cursor (limit_of p.describe.limit)) (sym named)
      ∙ ap (λ (o : Option LineKey). next_cursor (lines image p.describe.names) o (limit_of p.describe.limit)) (sym asked)
      ∙ sym (ap (λ (d : Described). d.next) shown)

  paged : (cursor : Option LineKey) (ps : List ToldPage) → IsWalk names cursor ps → AllOf ps → IsPaged (lines image names) cursor (limits ps)
  paged cursor [] w all = absurd w
  paged cursor (p ∷ []) w all = (positive p.describe.limit, next_of cursor p all.0 w.0 w.1 ∙ w.2)
  paged cursor (p ∷ q ∷ ps) w all = (positive p.describe.limit, w.2, next_of cursor p all.0 w.0 w.1 ∙ w.3, paged (Some w.2) (q ∷ ps) w.4 all.1)

all_of : (place : ℤ) (list : List Entry) (ps : List ToldPage) → AllByRecursion (IsShownAt place list) ps → AllByRecursion (λ (p : ToldPage). p.described ≡ page (image_below place list) p.describe) ps
all_of place list [] all = tt
all_of place list (p ∷ ps) all = (all.0.1, all_of place list ps all.1)

pub walks_join : IsValid empty → WalksJoin
walks_join valid old new [] names all w keeps = absurd w
walks_join valid old new (exchanges.Write a ∷ xs) names all w keeps = walks_join valid all.0 new xs names all.2 w keeps.1
walks_join valid old new (exchanges.Read call reply ∷ xs) names all w keeps = walks_join valid all.0 new xs names all.2 w keeps.1
walks_join valid old new (exchanges.Bare correlation error ∷ xs) names all w keeps = walks_join valid all.0 new xs names all.2 w keeps.1
walks_join valid old new (exchanges.Page correlation place describe described ∷ xs) names all w keeps =
    let p : IsPageExchange old.seat old.pin all.0.seat all.0.pin place describe described = all.1 in
    let pages : List ToldPage = told place describe described ∷ pages_told xs in
    let asked : describe.cursor ≡ None = cursor_of (told place describe described) (pages_told xs) w in
    let own = pinned_first describe.cursor old.pin old.seat p.first p.own asked p.begins in
    let at = held_at p.first p.own p.others p.ready p.pin own p.holds in
    let read : GoesOn p.got.seen.list at.list = goes_on at.list p.ready.seen.list p.got.seen.list at.on p.reads.onward.list in
    let shown = one_page names at.list p.pin at.kept xs old all.0 place describe described None p at.on refl keeps.0.1
    (λ next further held w. behind names at.list p.pin at.kept xs all.0 new all.2 next further held w keeps.1) w in
    let image = image_below p.pin.place at.list in
    record {
      place = p.pin.place;
      list = at.list;
      begins = goes_on at.list p.got.seen.list new.seat.seen.list read
          (onward_trans p.got.seen all.0.seat.seen new.seat.seen (asks_to_keep described.next p.got p.pin all.0.seat all.0.pin p.ends).onward (onward_all all.0 new xs all.2)).list;
      kept = kept_first p.pin at.list at.kept p.got.seen.list read keeps.0.1;
      all = shown;
      joined = pages_join_lines image names (limits image names pages) (image_valid valid p.pin.place at.list) (paged image names None pages w (all_of p.pin.place at.list pages shown));
    }
  where
    cursor_of : (q : ToldPage) (ps : List ToldPage) → IsWalk names None (q ∷ ps) → q.describe.cursor ≡ None
    cursor_of q [] w = w.1
    cursor_of q (r ∷ ps) w = w.1
