-- What is published of a log that went on, and what is kept behind the closed end.
use Rattle.std.proofs.Common.{◌≡◌, ◌∙◌, sym, subst, ℕ, zero, suc, ℤ, pos, Bool, true, false, cond, ◌+◌, ◌-◌, ◌≤◌, ◌<◌, List, [], ◌∷◌, ◌++◌, take, drop, length, refl, ap, arith}
use Rattle.std.specs.Prelude.{◌+ℤ◌, filter, not, unsigned_abs, Ok}
use Rattle.std.proofs.lemmas.Int.{ints}
use Rattle.std.proofs.lemmas.List.{append_assoc, append-nil, drop-append-le, drop-drop, drop-take, drop_all, length-drop, length-take, take_all}
use Rattle.kr_calls.specs.declared.events.Entry.{Entry}
use Rattle.kr_calls.specs.declared.events.Entry.TheVariants as entries
use Rattle.kr_calls.specs.Deciding.{apply_records}
use Rattle.kr_calls.specs.SeatList.{is_below, item_entries}
use Rattle.kr_defs.specs.declared.limits.TheConstants.{PLACES_END}
use Rattle.kr_defs.specs.declared.record.Item.{Item}
use Rattle.kr_defs.specs.declared.record.Record.{Record}
use Rattle.kr_defs.specs.Image.{Image, empty}
use Rattle.kr_defs.specs.Log.{Log, image_at, tip}
use Rattle.kr_view.specs.Staged.{staged_above, staged_below}
use Rattle.kr_model.specs.Entries.{items_from}
use Rattle.kr_model.specs.Lost.{cut}
use Rattle.kr_model.specs.World.{log_with}
use Rattle.kr_model.proofs.LogEntries.{placed_both}
use Rattle.kr_model.proofs.Places.{is_below as is_lower, isnt_below}
use Rattle.law_published_log.specs.Following.{Shows}
use Rattle.law_published_log.specs.FollowingLaws.{log_from}
use Rattle.law_published_log.proofs.Lists.{some_below}
use Rattle.law_published_log.proofs.Shown.{shown_logs_go_on}

-- ---- items below a place, and the others

next : (n : ℕ) → pos n +ℤ pos 1 ≡ pos (suc n)
next n = grind (arith, ints)

pub nothing_below : (from : ℕ) (items : List Item) → staged_below (pos from) (item_entries (pos from) items) ≡ []
nothing_below from [] = refl
nothing_below from (x ∷ xs) =
    ap (λ b. cond b (entries.Item (pos from) x ∷ staged_below (pos from) (item_entries (pos from +ℤ pos 1) xs)) []) (isnt_below from from (omega arith))

pub all_above : (from : ℕ) (items : List Item) → staged_above (pos from) (item_entries (pos from) items) ≡ item_entries (pos from) items
all_above from [] = refl
all_above from (x ∷ xs) =
    let rest = item_entries (pos from +ℤ pos 1) xs in
    ap (λ b. cond b (staged_above (pos from) rest) (entries.Item (pos from) x ∷ rest)) (isnt_below from from (omega arith))

pub below_so : (n from : ℕ) (items : List Item) → staged_below (pos (from + n)) (item_entries (pos from) items) ≡ item_entries (pos from) (take n items)
below_so zero from items = ap (λ m. staged_below (pos m) (item_entries (pos from) items)) (let e : from + zero ≡ from = omega arith in e) ∙ nothing_below from items
below_so (suc n) from [] = refl
below_so (suc n) from (x ∷ xs) =
    ap (λ b. cond b (entries.Item (pos from) x ∷ staged_below (pos (from + suc n)) (item_entries (pos from +ℤ pos 1) xs)) []) (is_lower from (from + suc n) (omega arith))
    ∙ ap (λ (l : List Entry). entries.Item (pos from) x ∷ l)
    (ap (λ p. staged_below (pos (from + suc n)) (item_entries p xs)) (next from)
    ∙ (ap (λ m. staged_below (pos m) (item_entries (pos (suc from)) xs)) (let e : from + suc n ≡ suc from + n = omega arith in e)
    ∙ (below_so n (suc from) xs ∙ ap (λ p. item_entries p (take n xs)) (sym (next from)))))

pub above_so : (n from : ℕ) (items : List Item) → staged_above (pos (from + n)) (item_entries (pos from) items) ≡ item_entries (pos (from + n)) (drop n items)
above_so zero from items =
    let e : from + zero ≡ from = omega arith in
    ap (λ m. staged_above (pos m) (item_entries (pos from) items)) e ∙ (all_above from items ∙ ap (λ m. item_entries (pos m) items) (sym e))
above_so (suc n) from [] = refl
above_so (suc n) from (x ∷ xs) =
    let e : from + suc n ≡ suc from + n = omega arith in
    let rest = item_entries (pos from +ℤ pos 1) xs in
    ap (λ b. cond b (staged_above (pos (from + suc n)) rest) (entries.Item (pos from) x ∷ rest)) (is_lower from (from + suc n) (omega arith))
    ∙ (ap (λ p. staged_above (pos (from + suc n)) (item_entries p xs)) (next from)
    ∙ (ap (λ m. staged_above (pos m) (item_entries (pos (suc from)) xs)) e
    ∙ (above_so n (suc from) xs ∙ ap (λ m. item_entries (pos m) (drop n xs)) (sym e))))

-- where all items are below the place, they come before the rest
pub below_rest : (place from : ℕ) (items : List Item) (rest : List Entry) → (from + length items) ≤ place → staged_below (pos place) (item_entries (pos from) items ++ rest) ≡ item_entries (pos from) items ++ staged_below (pos place) rest
below_rest place from [] rest low = refl
below_rest place from (x ∷ xs) rest low =
    ap (λ b. cond b (entries.Item (pos from) x ∷ staged_below (pos place) (item_entries (pos from +ℤ pos 1) xs ++ rest)) []) (is_lower from place (omega (arith, low)))
    ∙ ap (λ (l : List Entry). entries.Item (pos from) x ∷ l)
    (ap (λ p. staged_below (pos place) (item_entries p xs ++ rest)) (next from)
    ∙ (below_rest place (suc from) xs rest (omega (arith, low)) ∙ ap (λ p. item_entries p xs ++ staged_below (pos place) rest) (sym (next from))))

pub above_rest : (place from : ℕ) (items : List Item) (rest : List Entry) → (from + length items) ≤ place → staged_above (pos place) (item_entries (pos from) items ++ rest) ≡ staged_above (pos place) rest
above_rest place from [] rest low = refl
above_rest place from (x ∷ xs) rest low =
    let later = item_entries (pos from +ℤ pos 1) xs ++ rest in
    ap (λ b. cond b (staged_above (pos place) later) (entries.Item (pos from) x ∷ later)) (is_lower from place (omega (arith, low)))
    ∙ (ap (λ p. staged_above (pos place) (item_entries p xs ++ rest)) (next from) ∙ above_rest place (suc from) xs rest (omega (arith, low)))

-- ---- what is published

abbrev no_items : List Item
no_items = []

-- items and images
abbrev pub AreLogged : List Entry → Type 0
AreLogged [] = Unit {0}
AreLogged (entries.Item place item ∷ es) = AreLogged es
AreLogged (entries.Load offset records ∷ es) = AreLogged es
AreLogged (entries.Pin pin ∷ es) = ⊥
AreLogged (entries.Unpin pin ∷ es) = ⊥
AreLogged (entries.Answer answer ∷ es) = ⊥
AreLogged (entries.Stop number ∷ es) = ⊥

pub items_logged : (place : ℤ) (items : List Item) → AreLogged (item_entries place items)
items_logged place [] = tt
items_logged place (x ∷ xs) = items_logged (place +ℤ pos 1) xs

-- the list with what is added below the end shows the log, and the rest of the log is kept
pub record Publishes (log : Log) (end : ℕ) (list added : List Entry) : Type 0 where
  pub shows : Shows log end (list ++ staged_below (pos end) added)
  pub rest : staged_above (pos end) added ≡ item_entries (pos end) (items_from log end)
  pub logged : AreLogged added

staged_longer : (log : Log) (end : ℕ) (xs : List Item) → log.offset ≤ end → end ≤ tip log
    → item_entries (pos end) (items_from log end) ++ item_entries (pos (tip log)) xs ≡ item_entries (pos end) (items_from (log_with log xs) end)
staged_longer log end xs started low =
    let left = items_from log end in
    let long = length-drop (end - log.offset) log.items in
    ap (λ p. item_entries (pos end) left ++ item_entries p xs) (let e : tip log ≡ end + length left = omega (arith, long, started, low) in ap pos e)
    ∙ (sym (placed_both (pos end) left xs)
    ∙ ap (λ (l : List Item). item_entries (pos end) l) (sym (drop-append-le (end - log.offset) log.items xs (omega (arith, low)))))

pub longer_publishes : (log : Log) (end later : ℕ) (list : List Entry) (xs : List Item) (image : Image) → image_at (log_with log xs) (tip (log_with log xs)) ≡ Ok image → tip (log_with log xs) ≤ unsigned_abs PLACES_END
    → log.offset ≤ end → end ≤ tip log → end ≤ later → later ≤ tip (log_with log xs) → Shows log end list
    → Publishes (log_with log xs) later list (item_entries (pos end) (items_from log end) ++ item_entries (pos (tip log)) xs)
longer_publishes log end later list xs image means few started low up within shows =
    let long = log_with log xs in
    let ys = items_from long end in
    let n = later - end in
    let e : end + n ≡ later = omega (arith, up) in
    let staged = staged_longer log end xs started low in
    subst (λ (l : List Entry). Publishes long later list l) (sym staged) (record {
      shows =
          subst (λ (l : List Entry). Shows long later (list ++ l))
          (sym (ap (λ m. staged_below (pos m) (item_entries (pos end) ys)) (sym e) ∙ below_so n end ys))
          (shown_logs_go_on.further long end later list image means few started up within (shown_logs_go_on.longer log end list xs low shows));
      rest =
          ap (λ m. staged_above (pos m) (item_entries (pos end) ys)) (sym e)
          ∙ (above_so n end ys
          ∙ (ap (λ m. item_entries (pos m) (drop n ys)) e
          ∙ ap (λ (l : List Item). item_entries (pos later) l)
          (drop-drop n (end - log.offset) long.items ∙ ap (λ m. drop m long.items) (let f : (end - log.offset) + n ≡ later - log.offset = omega (arith, up, started) in f))));
      logged = items_logged (pos end) ys;
    })

-- a log that is cut at a later place
module _ (log : Log) (end later : ℕ) (list : List Entry) (started : log.offset ≤ end) (up : end ≤ later) (low : end ≤ tip log) where
  abbrev shorter : Log
  shorter = cut log later

  abbrev between : List Item
  between = take (later - end) (items_from log end)

  cut_left : items_from shorter end ≡ between
  cut_left =
      ap (λ n. drop (end - log.offset) (take n log.items)) (let e : later - log.offset ≡ (end - log.offset) + (later - end) = omega (arith, up, started) in e)
      ∙ drop-take (end - log.offset) (later - end) log.items

  still_shows : Shows log end list → Shows shorter end list
  still_shows shows = shown_logs_go_on.cut log end later list up shows

  pub left_is : filter (is_below (pos later)) (item_entries (pos end) (items_from log end)) ++ [] ≡ item_entries (pos end) (items_from shorter end)
  left_is =
      append-nil (filter (is_below (pos later)) (item_entries (pos end) (items_from log end)))
      ∙ (ap (λ m. filter (is_below (pos m)) (item_entries (pos end) (items_from log end))) (let e : later ≡ end + (later - end) = omega (arith, up) in e)
      ∙ (some_below (later - end) end (items_from log end) ∙ ap (λ (l : List Item). item_entries (pos end) l) (sym cut_left)))

  pub shorter_publishes : Shows log end list → Publishes shorter end list (filter (is_below (pos later)) (item_entries (pos end) (items_from log end)) ++ [])
  shorter_publishes shows =
      let left = items_from shorter end in
      subst (λ (l : List Entry). Publishes shorter end list l) (sym left_is) (record {
        shows = subst (λ (l : List Entry). Shows shorter end l) (sym (ap (λ (l : List Entry). list ++ l) (nothing_below end left) ∙ append-nil list)) (still_shows shows);
        rest = all_above end left;
        logged = items_logged (pos end) left;
      })

both_logged : (xs ys : List Entry) → AreLogged xs → AreLogged ys → AreLogged (xs ++ ys)
both_logged [] ys a b = b
both_logged (entries.Item place item ∷ xs) ys a b = both_logged xs ys a b
both_logged (entries.Load offset records ∷ xs) ys a b = both_logged xs ys a b
both_logged (entries.Pin pin ∷ xs) ys a b = absurd a
both_logged (entries.Unpin pin ∷ xs) ys a b = absurd a
both_logged (entries.Answer answer ∷ xs) ys a b = absurd a
both_logged (entries.Stop number ∷ xs) ys a b = absurd a

-- an image in place of all, behind all that was kept
module _ (log : Log) (end offset : ℕ) (list : List Entry) (image : Image) (records : List Record) (before : Image) where
  abbrev load : Entry
  load = entries.Load (pos offset) records

  pub load_publishes : image_at log (tip log) ≡ Ok before → tip log ≤ unsigned_abs PLACES_END → log.offset ≤ end → end ≤ tip log → tip log ≤ offset → offset < unsigned_abs PLACES_END → apply_records empty records ≡ Ok image → Shows log end list
      → Publishes (log_from offset image) offset list (item_entries (pos end) (items_from log end) ++ load ∷ [])
  load_publishes means low_tip started low up few makes shows =
      let left = items_from log end in
      let long = length-drop (end - log.offset) log.items in
      let all : (end + length left) ≤ offset = omega (arith, long, started, low, up) in
      let here : is_below (pos offset) load ≡ true = ap not (isnt_below offset offset (omega arith)) in
      let whole : Shows log (tip log) (list ++ item_entries (pos end) left) =
      subst (λ (l : List Item). Shows log (tip log) (list ++ item_entries (pos end) l)) (take_all (tip log - end) left (omega (arith, long, started, low)))
      (shown_logs_go_on.further log end (tip log) list before means low_tip started low (omega arith) shows) in
      let below : staged_below (pos offset) (item_entries (pos end) left ++ load ∷ []) ≡ item_entries (pos end) left ++ load ∷ [] =
      below_rest offset end left (load ∷ []) all ∙ ap (λ b. item_entries (pos end) left ++ cond b (load ∷ []) []) here in record {
        shows =
            subst (λ (l : List Entry). Shows (log_from offset image) offset l)
            (append_assoc list (item_entries (pos end) left) (load ∷ []) ∙ ap (λ (l : List Entry). list ++ l) (sym below))
            (shown_logs_go_on.loaded log (tip log) offset (list ++ item_entries (pos end) left) image records up few makes whole);
        rest =
            above_rest offset end left (load ∷ []) all
            ∙ (ap (λ b. cond b [] (load ∷ [])) here ∙ ap (λ (l : List Item). item_entries (pos offset) l) (sym (drop_all (offset - offset) no_items (omega arith))));
        logged = both_logged (item_entries (pos end) left) (load ∷ []) (items_logged (pos end) left) tt;
      }
