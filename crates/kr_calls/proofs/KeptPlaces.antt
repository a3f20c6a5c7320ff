-- What is kept of a list of entries, and what stays of it.
use Rattle.std.proofs.Common.{◌≡◌, ℤ, pos, Bool, true, false, true≢false, ◌&&◌, ◌||◌, cond, not, ◌==◌, List, [], ◌∷◌, ◌++◌, fold, filter, refl, sym, ap, ◌∙◌, subst, append_assoc, append-nil, arith}
use Rattle.std.specs.Prelude.{◌+ℤ◌, int_lt, unsigned_abs, Option, Result, Ok, Err}
use Rattle.std.specs.List.{AllByRecursion, list_any}
use Rattle.std.specs.Ordering.{int_eq}
use Rattle.std.proofs.lemmas.Bool.{and_parts}
use Rattle.std.proofs.lemmas.Bool.Decides.{Decides-int_eq}
use Rattle.std.proofs.lemmas.Int.{ints}
use Rattle.std.proofs.lemmas.List.Elements.{filter-append}
use Rattle.std.proofs.lemmas.List.Sums.{fold-append}
use Rattle.kr_defs.specs.declared.ill.Ill.{Ill}
use Rattle.kr_defs.specs.declared.limits.TheConstants.{PLACES_END}
use Rattle.kr_defs.specs.Image.{Image, empty}
use Rattle.kr_defs.specs.LogStates.{LogState, Opened, apply_at}
use Rattle.kr_defs.proofs.TopicWalks.{equal_ids, same_topic}
use Rattle.kr_calls.specs.declared.events.Entry.{Entry}
use Rattle.kr_calls.specs.declared.events.Entry.TheVariants as entries
use Rattle.kr_calls.specs.declared.pins.Pin.{Pin}
use Rattle.kr_calls.specs.Deciding.{apply_records}
use Rattle.kr_calls.specs.SeatList.{PinnedLog, Reached, end_of, image_below, is_below, is_load, is_pinned, is_same_pin, nothing_pinned, nothing_reached, pinned_log, pinned_with, pins_in, pins_of, pins_with, reached, reached_with, with_image, with_outcome, without_pin}
use Rattle.kr_calls.specs.SeatListLaws.{EndImages, KeptImagesStay, PinImages, PinsStay, unpins}

-- ---- the end rises

lt_itself : (x : ℤ) → int_lt x x ≡ false
lt_itself x = grind (arith, ints)

not_lt_through : (x y z : ℤ) → int_lt y x ≡ false → int_lt z y ≡ false → int_lt z x ≡ false
not_lt_through x y z a b = grind (arith, ints)

next_is_up : (place end : ℤ) → int_eq place end ≡ true → int_lt (place +ℤ pos 1) end ≡ false
next_is_up place end is = let same : place ≡ end = (Decides-int_eq place end).0 is in grind (arith, ints)

item_rises : (r : Reached) (place : ℤ) (result : Result LogState Ill) (at low : Bool) → int_eq place r.end ≡ at → int_lt (cond (at && low) (with_outcome r (place +ℤ pos 1) result) r).end r.end ≡ false
item_rises r place (Ok state) true true is = next_is_up place r.end is
item_rises r place (Err cause) true true is = lt_itself r.end
item_rises r place result true false is = lt_itself r.end
item_rises r place result false low is = lt_itself r.end

load_rises : (r : Reached) (offset : ℤ) (result : Result Image Ill) (below low : Bool) → int_lt offset r.end ≡ below → int_lt (cond (not below && low) (with_image r offset result) r).end r.end ≡ false
load_rises r offset (Ok image) false true is = is
load_rises r offset (Err cause) false true is = lt_itself r.end
load_rises r offset result false false is = lt_itself r.end
load_rises r offset result true low is = lt_itself r.end

rises_one : (r : Reached) (e : Entry) → int_lt (reached_with r e).end r.end ≡ false
rises_one r (entries.Item place item) = item_rises r place (apply_at r.state (unsigned_abs place) item) (int_eq place r.end) (int_lt place PLACES_END) refl
rises_one r (entries.Load offset records) = load_rises r offset (apply_records empty records) (int_lt offset r.end) (int_lt offset PLACES_END) refl
rises_one r (entries.Pin pin) = lt_itself r.end
rises_one r (entries.Unpin pin) = lt_itself r.end
rises_one r (entries.Answer answer) = lt_itself r.end
rises_one r (entries.Stop number) = lt_itself r.end

rises : (r : Reached) (es : List Entry) → int_lt (fold reached_with r es).end r.end ≡ false
rises r [] = lt_itself r.end
rises r (e ∷ es) = not_lt_through r.end (reached_with r e).end (fold reached_with (reached_with r e) es).end (rises_one r e) (rises (reached_with r e) es)

-- ---- what stands not below a place that is not below the end has no effect

past : (place p : ℤ) → int_lt p (place +ℤ pos 1) ≡ false → int_lt place p ≡ false → ⊥
past place p a b = grind (arith, ints)

item_alone : (p : ℤ) (r : Reached) (place : ℤ) (result : Result LogState Ill) (b : Bool) → int_lt p (cond b (with_outcome r (place +ℤ pos 1) result) r).end ≡ false → int_lt place p ≡ false → cond b (with_outcome r (place +ℤ pos 1) result) r ≡ r
item_alone p r place (Ok state) true up off = absurd (past place p up off)
item_alone p r place (Err cause) true up off = refl
item_alone p r place result false up off = refl

load_alone : (p : ℤ) (r : Reached) (offset : ℤ) (result : Result Image Ill) (b : Bool) → int_lt p (cond b (with_image r offset result) r).end ≡ false → (over : Bool) → int_lt p offset ≡ over → not over ≡ false → cond b (with_image r offset result) r ≡ r
load_alone p r offset (Ok image) true up true is off = absurd (true≢false (sym is ∙ up))
load_alone p r offset (Ok image) true up false is off = absurd (true≢false off)
load_alone p r offset (Err cause) true up over is off = refl
load_alone p r offset result false up over is off = refl

alone : (p : ℤ) (r : Reached) (e : Entry) → int_lt p (reached_with r e).end ≡ false → is_below p e ≡ false → reached_with r e ≡ r
alone p r (entries.Item place item) up off = item_alone p r place (apply_at r.state (unsigned_abs place) item) (int_eq place r.end && int_lt place PLACES_END) up off
alone p r (entries.Load offset records) up off = load_alone p r offset (apply_records empty records) (not (int_lt offset r.end) && int_lt offset PLACES_END) up (int_lt p offset) refl off
alone p r (entries.Pin pin) up off = refl
alone p r (entries.Unpin pin) up off = refl
alone p r (entries.Answer answer) up off = refl
alone p r (entries.Stop number) up off = refl

-- where a place is not below the end, what stands below it is the whole
whole_below : (p : ℤ) (r : Reached) (es : List Entry) → int_lt p (fold reached_with r es).end ≡ false → fold reached_with r (filter (is_below p) es) ≡ fold reached_with r es
whole_below p r [] up = refl
whole_below p r (e ∷ es) up =
    let after = reached_with r e in
    let rest = whole_below p after es up in
    elim (is_below p e) as (λ b. is_below p e ≡ b → fold reached_with r (cond b (e ∷ filter (is_below p) es) (filter (is_below p) es)) ≡ fold reached_with after es) [
      | true ↦ λ is. rest
      | false ↦ λ is. ap (λ x. fold reached_with x (filter (is_below p) es)) (sym (alone p r e (not_lt_through after.end (fold reached_with after es).end p (rises after es) up) is)) ∙ rest
    ] refl

-- ---- what stands below a kept place stays

abbrev at : LogState → ℤ → Reached
at state end = record { state = state; end = end }

abbrev reached_below : ℤ → List Entry → Reached
reached_below place list = reached (filter (is_below place) list)

lower_not : (place p : ℤ) → int_lt place p ≡ true → int_eq place p ≡ false
lower_not place p h = elim (int_eq place p) as (λ b. int_eq place p ≡ b → b ≡ false) [
  | true ↦ λ is. let same : place ≡ p = (Decides-int_eq place p).0 is in grind (arith, ints)
  | false ↦ λ is. refl
] refl

stays : (p : ℤ) (state : LogState) (e : Entry) → is_load e ≡ false → fold reached_with (at state p) (filter (is_below p) (e ∷ [])) ≡ at state p
stays p state (entries.Item place item) plain =
    elim (int_lt place p) as (λ b. int_lt place p ≡ b → fold reached_with (at state p) (cond b (entries.Item place item ∷ []) []) ≡ at state p) [
      | true ↦ λ is. ap (λ b. cond (b && int_lt place PLACES_END) (with_outcome (at state p) (place +ℤ pos 1) (apply_at state (unsigned_abs place) item)) (at state p)) (lower_not place p is)
      | false ↦ λ is. refl
    ] refl
stays p state (entries.Load offset records) plain = absurd (true≢false plain)
stays p state (entries.Pin pin) plain = refl
stays p state (entries.Unpin pin) plain = refl
stays p state (entries.Answer answer) plain = refl
stays p state (entries.Stop number) plain = refl

one_below : (p : ℤ) (state : LogState) (list : List Entry) (e : Entry) → reached_below p list ≡ at state p → is_load e ≡ false → reached_below p (list ++ e ∷ []) ≡ at state p
one_below p state list e is plain =
    ap (fold reached_with nothing_reached) (filter-append (is_below p) list (e ∷ []))
    ∙ fold-append reached_with nothing_reached (filter (is_below p) list) (filter (is_below p) (e ∷ []))
    ∙ ap (λ r. fold reached_with r (filter (is_below p) (e ∷ []))) is
    ∙ stays p state e plain

more_below : (p : ℤ) (state : LogState) (list more : List Entry) → reached_below p list ≡ at state p → AllByRecursion (λ e. is_load e ≡ false) more → reached_below p (list ++ more) ≡ at state p
more_below p state list [] is plain = ap (reached_below p) (append-nil list) ∙ is
more_below p state list (e ∷ es) is plain = ap (reached_below p) (sym (append_assoc list (e ∷ []) es)) ∙ more_below p state (list ++ e ∷ []) es (one_below p state list e is plain.0) plain.1

-- ---- the pins have the images below their places

pub same_at : (l : PinnedLog) (es : List Entry) → (fold pinned_with l es).at ≡ fold reached_with l.at es
same_at l [] = refl
same_at l (e ∷ es) = same_at (pinned_with l e) es

end_below : (list : List Entry) → reached_below (end_of list) list ≡ reached list
end_below list = whole_below (end_of list) nothing_reached list (lt_itself (end_of list))

abbrev state_with : Image → Option Opened → LogState
state_with image opened = record { image = image; opened = opened }

-- whatever was open at its place
abbrev IsKept : List Entry → Pin × Image → Type 0
IsKept list p = (opened : Option Opened) × (reached_below p.0.place list ≡ at (state_with p.1 opened) p.0.place)

abbrev AreKept : List Entry → List (Pin × Image) → Type 0
AreKept list pinned = AllByRecursion (IsKept list) pinned

all_one_more : (list : List Entry) (e : Entry) (pinned : List (Pin × Image)) → is_load e ≡ false → AreKept list pinned → AreKept (list ++ e ∷ []) pinned
all_one_more list e [] plain kept = tt
all_one_more list e (p ∷ ps) plain kept = ((kept.0.0, one_below p.0.place (state_with p.1 kept.0.0) list e kept.0.1 plain), all_one_more list e ps plain kept.1)

all_filter : (list : List Entry) (q : Pin × Image → Bool) (pinned : List (Pin × Image)) → AreKept list pinned → AreKept list (filter q pinned)
all_filter list q [] kept = tt
all_filter list q (p ∷ ps) kept = elim (q p) as (λ b. AreKept list (cond b (p ∷ filter q ps) (filter q ps))) [ true ↦ (kept.0, all_filter list q ps kept.1) | false ↦ all_filter list q ps kept.1 ]

all_push : (list : List Entry) (pinned : List (Pin × Image)) (p : Pin × Image) → AreKept list pinned → IsKept list p → AreKept list (pinned ++ p ∷ [])
all_push list [] p kept new = (new, tt)
all_push list (x ∷ xs) p kept new = (kept.0, all_push list xs p kept.1 new)

-- a pin at the end, whose image is that at the end
pin_kept : (list : List Entry) (r : Reached) (pinned : List (Pin × Image)) (pin : Pin) → r ≡ reached list → AreKept (list ++ entries.Pin pin ∷ []) pinned → (here : Bool) → int_eq pin.place r.end ≡ here → (new : Bool)
    → AreKept (list ++ entries.Pin pin ∷ []) (cond (here && new) (pinned ++ (pin, r.state.image) ∷ []) pinned)
pin_kept list r pinned pin own kept true is true =
    let same : pin.place ≡ r.end = (Decides-int_eq pin.place r.end).0 is in
    let place : pin.place ≡ end_of list = same ∙ ap (λ (x : Reached). x.end) own in
    let below : reached_below pin.place list ≡ at r.state pin.place = ap (λ z. reached_below z list) place ∙ end_below list ∙ sym own ∙ ap (λ z. at r.state z) (sym same) in
    all_push (list ++ entries.Pin pin ∷ []) pinned (pin, r.state.image) kept (r.state.opened, one_below pin.place r.state list (entries.Pin pin) below refl)
pin_kept list r pinned pin own kept true is false = kept
pin_kept list r pinned pin own kept false is new = kept

kept_one_more : (list : List Entry) (e : Entry) → AreKept list (pinned_log list).pinned → AreKept (list ++ e ∷ []) (pins_with (pinned_log list).at (pinned_log list).pinned e)
kept_one_more list (entries.Item place item) kept = all_one_more list (entries.Item place item) (pinned_log list).pinned refl kept
kept_one_more list (entries.Load offset records) kept = tt
kept_one_more list (entries.Pin pin) kept =
    let l = pinned_log list in
    pin_kept list l.at l.pinned pin (same_at nothing_pinned list) (all_one_more list (entries.Pin pin) l.pinned refl kept) (int_eq pin.place l.at.end) refl (not (is_pinned (pins_in l.pinned) pin))
kept_one_more list (entries.Unpin pin) kept =
    let l = pinned_log list in
    all_filter (list ++ entries.Unpin pin ∷ []) (λ (p : Pin × Image). not (is_same_pin pin p.0)) l.pinned (all_one_more list (entries.Unpin pin) l.pinned refl kept)
kept_one_more list (entries.Answer answer) kept = all_one_more list (entries.Answer answer) (pinned_log list).pinned refl kept
kept_one_more list (entries.Stop number) kept = all_one_more list (entries.Stop number) (pinned_log list).pinned refl kept

kept_more : (list more : List Entry) → AreKept list (pinned_log list).pinned → AreKept (list ++ more) (pinned_log (list ++ more)).pinned
kept_more list [] kept = subst (λ l. AreKept l (pinned_log l).pinned) (sym (append-nil list)) kept
kept_more list (e ∷ es) kept =
    let one : AreKept (list ++ e ∷ []) (pinned_log (list ++ e ∷ [])).pinned =
    subst (λ (l : PinnedLog). AreKept (list ++ e ∷ []) l.pinned) (sym (fold-append pinned_with nothing_pinned list (e ∷ []))) (kept_one_more list e kept) in
    subst (λ l. AreKept l (pinned_log l).pinned) (append_assoc list (e ∷ []) es) (kept_more (list ++ e ∷ []) es one)

pub all_kept : (list : List Entry) → AreKept list (pinned_log list).pinned
all_kept list = kept_more [] list tt

-- ---- the laws

pub end_image : EndImages
end_image list = ap (λ (r : Reached). r.state.image) (end_below list)

images_of : (list : List Entry) (pinned : List (Pin × Image)) → AreKept list pinned → AllByRecursion (λ (p : Pin × Image). image_below p.0.place list ≡ p.1) pinned
images_of list [] kept = tt
images_of list (p ∷ ps) kept = (ap (λ (r : Reached). r.state.image) kept.0.1, images_of list ps kept.1)

pub pin_images : PinImages
pin_images list = images_of list (pinned_log list).pinned (all_kept list)

-- one of the pins is of the place
of_place : (list : List Entry) (place : ℤ) (pinned : List (Pin × Image)) → AreKept list pinned → list_any (λ pin. int_eq pin.place place) (pins_in pinned) ≡ true → (state : LogState) × (reached_below place list ≡ at state place)
of_place list place [] kept any = absurd (true≢false (sym any))
of_place list place (p ∷ ps) kept any =
    elim (int_eq p.0.place place) as (λ b. int_eq p.0.place place ≡ b → (b || list_any (λ pin. int_eq pin.place place) (pins_in ps)) ≡ true → (state : LogState) × (reached_below place list ≡ at state place)) [
      | true ↦ λ is h. let state = state_with p.1 kept.0.0 in (state, subst (λ z. reached_below z list ≡ at state z) ((Decides-int_eq p.0.place place).0 is) kept.0.1)
      | false ↦ λ is h. of_place list place ps kept.1 h
    ] refl any

kept_at_place : (list : List Entry) (place : ℤ) (here : Bool) → int_eq place (pinned_log list).at.end ≡ here → (here || list_any (λ pin. int_eq pin.place place) (pins_of list)) ≡ true → (state : LogState) × (reached_below place list ≡ at state place)
kept_at_place list place true is any =
    let own : (pinned_log list).at ≡ reached list = same_at nothing_pinned list in
    let end : place ≡ end_of list = (Decides-int_eq place (pinned_log list).at.end).0 is ∙ ap (λ (x : Reached). x.end) own in
    ((reached list).state, ap (λ z. reached_below z list) end ∙ end_below list ∙ ap (λ z. at (reached list).state z) (sym end))
kept_at_place list place false is any = of_place list place (pinned_log list).pinned (all_kept list) any

pub images_stay : KeptImagesStay
images_stay list more place kept plain =
    let k = kept_at_place list place (int_eq place (pinned_log list).at.end) refl kept in
    ap (λ (r : Reached). r.state.image) (more_below place k.0 list more k.1 plain ∙ sym k.1)

-- ---- a pin stays

any_left : (q : Pin → Bool) (xs ys : List (Pin × Image)) → list_any q (pins_in xs) ≡ true → list_any q (pins_in (xs ++ ys)) ≡ true
any_left q [] ys any = absurd (true≢false (sym any))
any_left q (x ∷ xs) ys any = elim (q x.0) as (λ b. (b || list_any q (pins_in xs)) ≡ true → (b || list_any q (pins_in (xs ++ ys))) ≡ true) [ true ↦ λ h. refl | false ↦ λ h. any_left q xs ys h ] any

any_last : (q : Pin → Bool) (xs : List (Pin × Image)) (x : Pin × Image) → q x.0 ≡ true → list_any q (pins_in (xs ++ x ∷ [])) ≡ true
any_last q [] x is = ap (λ b. b || false) is
any_last q (y ∷ xs) x is = elim (q y.0) as (λ b. (b || list_any q (pins_in (xs ++ x ∷ []))) ≡ true) [ true ↦ refl | false ↦ any_last q xs x is ]

same_itself : (pin : Pin) → is_same_pin pin pin ≡ true
same_itself pin = (λ i. equal_ids pin.seat pin.seat refl i && (Decides-int_eq pin.place pin.place).1 refl i)

-- what is of one pin and not of another isn't of the other
apart_pins : (other pin x : Pin) → is_same_pin other pin ≡ false → is_same_pin pin x ≡ true → is_same_pin other x ≡ false
apart_pins other pin x off own =
    let both = and_parts (pin.seat == x.seat) (int_eq pin.place x.place) own in
    let seat : x.seat ≡ pin.seat = sym (same_topic pin.seat x.seat both.0) in
    let place : x.place ≡ pin.place = sym ((Decides-int_eq pin.place x.place).0 both.1) in
    (λ i. (other.seat == seat i) && int_eq other.place (place i)) ∙ off

any_filtered : (other pin : Pin) (xs : List (Pin × Image)) → is_same_pin other pin ≡ false → is_pinned (pins_in xs) pin ≡ true → is_pinned (pins_in (without_pin xs other)) pin ≡ true
any_filtered other pin [] off any = absurd (true≢false (sym any))
any_filtered other pin (x ∷ xs) off any =
    let rest : List (Pin × Image) = without_pin xs other in
    elim (is_same_pin pin x.0) as (λ b. is_same_pin pin x.0 ≡ b → (b || is_pinned (pins_in xs) pin) ≡ true → is_pinned (pins_in (cond (not (is_same_pin other x.0)) (x ∷ rest) rest)) pin ≡ true) [
      | true ↦ λ is h. ap (λ b. is_pinned (pins_in (cond (not b) (x ∷ rest) rest)) pin) (apart_pins other pin x.0 off is) ∙ ap (λ b. b || is_pinned (pins_in rest) pin) is
      | false ↦ λ is h.
          let later = any_filtered other pin xs off h in
          elim (is_same_pin other x.0) as (λ b. is_pinned (pins_in (cond (not b) (x ∷ rest) rest)) pin ≡ true) [ true ↦ later | false ↦ ap (λ b. b || is_pinned (pins_in rest) pin) is ∙ later ]
    ] refl any

abbrev Has : Pin → PinnedLog → Type 0
Has pin l = is_pinned (pins_in l.pinned) pin ≡ true

has_more : (pin : Pin) (l : PinnedLog) (e : Entry) → Has pin l → unpins pin e ≡ false → Has pin (pinned_with l e)
has_more pin l (entries.Item place item) has plain = has
has_more pin l (entries.Load offset records) has plain = absurd (true≢false plain)
has_more pin l (entries.Pin other) has plain =
    elim (int_eq other.place l.at.end && not (is_pinned (pins_in l.pinned) other)) as (λ b. is_pinned (pins_in (cond b (l.pinned ++ (other, l.at.state.image) ∷ []) l.pinned)) pin ≡ true) [
      | true ↦ any_left (is_same_pin pin) l.pinned ((other, l.at.state.image) ∷ []) has
      | false ↦ has
    ]
has_more pin l (entries.Unpin other) has plain = any_filtered other pin l.pinned plain has
has_more pin l (entries.Answer answer) has plain = has
has_more pin l (entries.Stop number) has plain = has

has_all : (pin : Pin) (l : PinnedLog) (es : List Entry) → Has pin l → AllByRecursion (λ e. unpins pin e ≡ false) es → Has pin (fold pinned_with l es)
has_all pin l [] has plain = has
has_all pin l (e ∷ es) has plain = has_all pin (pinned_with l e) es (has_more pin l e has plain.0) plain.1

has_new : (pin : Pin) (l : PinnedLog) → int_eq pin.place l.at.end ≡ true → Has pin (pinned_with l (entries.Pin pin))
has_new pin l here =
    ap (λ b. is_pinned (pins_in (cond (b && not (is_pinned (pins_in l.pinned) pin)) (l.pinned ++ (pin, l.at.state.image) ∷ []) l.pinned)) pin) here
    ∙ elim (is_pinned (pins_in l.pinned) pin) as (λ b. is_pinned (pins_in l.pinned) pin ≡ b → is_pinned (pins_in (cond (not b) (l.pinned ++ (pin, l.at.state.image) ∷ []) l.pinned)) pin ≡ true) [
      | true ↦ λ is. is
      | false ↦ λ is. any_last (is_same_pin pin) l.pinned (pin, l.at.state.image) (same_itself pin)
    ] refl

of_one_place : (pin x : Pin) → is_same_pin pin x ≡ true → int_eq x.place pin.place ≡ true
of_one_place pin x is = (Decides-int_eq x.place pin.place).1 (sym ((Decides-int_eq pin.place x.place).0 (and_parts (pin.seat == x.seat) (int_eq pin.place x.place) is).1))

any_weaker : (pin : Pin) (pins : List Pin) → is_pinned pins pin ≡ true → list_any (λ other. int_eq other.place pin.place) pins ≡ true
any_weaker pin [] any = absurd (true≢false (sym any))
any_weaker pin (x ∷ xs) any =
    elim (is_same_pin pin x) as (λ b. is_same_pin pin x ≡ b → (b || is_pinned xs pin) ≡ true → (int_eq x.place pin.place || list_any (λ other. int_eq other.place pin.place) xs) ≡ true) [
      | true ↦ λ is h. ap (λ b. b || list_any (λ other. int_eq other.place pin.place) xs) (of_one_place pin x is)
      | false ↦ λ is h. elim (int_eq x.place pin.place) as (λ b. (b || list_any (λ other. int_eq other.place pin.place) xs) ≡ true) [ true ↦ refl | false ↦ any_weaker pin xs h ]
    ] refl any

or_right : (a b : Bool) → b ≡ true → (a || b) ≡ true
or_right true b is = refl
or_right false b is = is

pub pins_stay : PinsStay
pins_stay before rest pin place plain =
    let l = pinned_log before in
    let own : l.at ≡ reached before = same_at nothing_pinned before in
    let here : int_eq pin.place l.at.end ≡ true = (Decides-int_eq pin.place l.at.end).1 (place ∙ ap (λ (x : Reached). x.end) (sym own)) in
    let list : List Entry = before ++ entries.Pin pin ∷ rest in
    let has : is_pinned (pins_of list) pin ≡ true =
    subst (Has pin) (sym (fold-append pinned_with nothing_pinned before (entries.Pin pin ∷ rest))) (has_all pin (pinned_with l (entries.Pin pin)) rest (has_new pin l here) plain) in
    (has, or_right (int_eq pin.place (pinned_log list).at.end) (list_any (λ other. int_eq other.place pin.place) (pins_of list)) (any_weaker pin (pins_of list) has))
