-- A place that isn't kept, or whose image may be another, has lost its pin.
use Rattle.std.proofs.Common.{◌≡◌, ◌∙◌, inl, inr, ℕ, ℤ, ◌-◌, ◌^◌, Bool, true, false, cond, not, List, [], ◌∷◌, ◌++◌, fold, refl, sym, ap, subst, append_assoc, arith}
use Rattle.std.specs.Prelude.{None, ◌||◌, IsTrue, int_lt}
use Rattle.std.specs.List.{AllByRecursion, list_any}
use Rattle.std.specs.Ordering.{int_eq}
use Rattle.std.proofs.lemmas.Bool.Decides.{Decides-int_eq}
use Rattle.std.proofs.lemmas.Int.{ints}
use Rattle.std.proofs.lemmas.List.Sums.{fold-append}
use Rattle.kr_base.specs.Causes.{raised}
use Rattle.kr_calls.specs.declared.events.Entry.{Entry}
use Rattle.kr_calls.specs.declared.events.Entry.TheVariants as entries
use Rattle.kr_calls.specs.declared.pins.Pin.{Pin}
use Rattle.kr_calls.specs.SeatList.{PinnedLog, is_kept_in, is_load, is_place_kept, loads_of, loads_with, lower, oldest_place, pinned_log, pins_in}
use Rattle.kr_calls.specs.SeatListLaws.{unpins}
use Rattle.kr_describe.specs.declared.steady.PageFault.{PageFault}
use Rattle.kr_describe.specs.declared.steady.PageFault.TheVariants as page_faults
use Rattle.kr_describe.specs.SteadyReads.{IsPageStop, MayDiffer}
use Rattle.kr_view.specs.CopiesRule.{GoesOn}
use Rattle.kr_view.specs.Scans.{IsNotThere}
use Rattle.kr_view.specs.declared.scans.ScanFault.TheVariants as scans
use Rattle.kr_shared.specs.Grants.{IsKeptFrom}
use Rattle.kr_server.specs.PagingCalls.{IsLost}
use Rattle.kr_server.specs.inner.Paging.{fault_end}

-- ---- no kept place is below the oldest

not_itself : (a : ℤ) → int_lt a a ≡ false
not_itself a = grind (arith, ints)

not_below : (a b : ℤ) → int_lt a b ≡ true → int_lt b a ≡ false
not_below a b h = grind (arith, ints)

no_later : (a b c : ℤ) → int_lt a b ≡ false → int_lt b c ≡ false → int_lt a c ≡ false
no_later a b c h k = grind (arith, ints)

is_place : (a b : ℤ) → int_eq a b ≡ true → a ≡ b
is_place a b h = (Decides-int_eq a b).0 h

lower_than : (e : ℤ) (p : Pin) → int_lt e (lower e p) ≡ false
lower_than e p = elim (int_lt p.place e) as (λ b. int_lt p.place e ≡ b → int_lt e (cond b p.place e) ≡ false) [
  | true ↦ λ h. not_below p.place e h
  | false ↦ λ h. not_itself e
] refl

lower_than_pin : (e : ℤ) (p : Pin) → int_lt p.place (lower e p) ≡ false
lower_than_pin e p = elim (int_lt p.place e) as (λ b. int_lt p.place e ≡ b → int_lt p.place (cond b p.place e) ≡ false) [
  | true ↦ λ h. not_itself p.place
  | false ↦ λ h. h
] refl

not_above : (e : ℤ) (ps : List Pin) → int_lt e (fold lower e ps) ≡ false
not_above e [] = not_itself e
not_above e (p ∷ ps) = no_later e (lower e p) (fold lower (lower e p) ps) (lower_than e p) (not_above (lower e p) ps)

module _ (place : ℤ) where
  not_above_pin : (e : ℤ) (ps : List Pin) → list_any (λ pin. int_eq pin.place place) ps ≡ true → int_lt place (fold lower e ps) ≡ false
  not_above_pin e [] h = absurd cc
  not_above_pin e (p ∷ ps) h = elim (int_eq p.place place) as (λ b. int_eq p.place place ≡ b → (b || list_any (λ pin. int_eq pin.place place) ps) ≡ true → int_lt place (fold lower (lower e p) ps) ≡ false) [
    | true ↦ λ own any. subst (λ (i : ℤ). int_lt i (fold lower (lower e p) ps) ≡ false) (is_place p.place place own) (no_later p.place (lower e p) (fold lower (lower e p) ps) (lower_than_pin e p) (not_above (lower e p) ps))
    | false ↦ λ other any. not_above_pin (lower e p) ps any
  ] refl h

  not_below_oldest : (l : PinnedLog) → IsTrue (is_place_kept l place) → int_lt place (oldest_place l) ≡ false
  not_below_oldest l kept = elim (int_eq place l.at.end) as (λ b. int_eq place l.at.end ≡ b → (b || list_any (λ pin. int_eq pin.place place) (pins_in l.pinned)) ≡ true → int_lt place (oldest_place l) ≡ false) [
    | true ↦ λ own any. subst (λ (i : ℤ). int_lt i (oldest_place l) ≡ false) (sym (is_place place l.at.end own)) (not_above l.at.end (pins_in l.pinned))
    | false ↦ λ other any. not_above_pin l.at.end (pins_in l.pinned) any
  ] refl kept

-- ---- images in place of all

pub no_load : (pin : Pin) (e : Entry) → unpins pin e ≡ false → is_load e ≡ false
no_load pin (entries.Item place item) h = refl
no_load pin (entries.Load offset records) h = absurd cc
no_load pin (entries.Pin other) h = refl
no_load pin (entries.Unpin other) h = refl
no_load pin (entries.Answer answer) h = refl
no_load pin (entries.Stop number) h = refl

same_loads : (pin : Pin) (n : ℕ) (es : List Entry) → AllByRecursion (λ e. unpins pin e ≡ false) es → fold loads_with n es ≡ n
same_loads pin n [] none = refl
same_loads pin n (e ∷ es) none =
    ap (λ b. fold loads_with (cond b (raised n) n) es) (no_load pin e none.0) ∙ same_loads pin n es none.1

pub later_part : (P : Entry → Type 0) (xs ys : List Entry) → AllByRecursion P (xs ++ ys) → AllByRecursion P ys
later_part P [] ys all = all
later_part P (x ∷ xs) ys all = later_part P xs ys all.1

not_kept : (b : Bool) → IsTrue (not b) → IsTrue b → ⊥
not_kept true denied held = cc
not_kept false denied held = cc

-- ---- a pin

module _ (pin : Pin) (old new : List Entry) (kept : IsKeptFrom old pin) (on : GoesOn new old) where
  stands_on : new ≡ kept.before ++ entries.Pin pin ∷ (kept.rest ++ on.0)
  stands_on = on.1 ∙ (ap (λ (l : List Entry). l ++ on.0) kept.stands ∙ append_assoc kept.before (entries.Pin pin ∷ kept.rest) on.0)

  -- it is kept on
  pub kept_on : IsKeptFrom new pin
  kept_on = record {
    before = kept.before;
    rest = kept.rest ++ on.0;
    stands = stands_on;
    kept = λ more none.
        let P : List Entry → Type 0 = λ l. IsTrue (is_kept_in l pin.place) in
        subst P (sym (ap (λ (l : List Entry). l ++ more) on.1 ∙ append_assoc old on.0 more))
        (kept.kept (on.0 ++ more) (subst (AllByRecursion (λ e. unpins pin e ≡ false)) (append_assoc kept.rest on.0 more) none));
  }

  none_behind : AllByRecursion (λ e. unpins pin e ≡ false) (kept.rest ++ on.0) → IsTrue (is_kept_in new pin.place)
  none_behind none = subst (λ (l : List Entry). IsTrue (is_kept_in l pin.place)) (sym on.1) (kept.kept on.0 none)

  pub lost_where : (AllByRecursion (λ e. unpins pin e ≡ false) (kept.rest ++ on.0) → loads_of new ≡ 2 ^ 64 - 1) → IsLost pin new
  lost_where most = record { before = kept.before; rest = kept.rest ++ on.0; stands = stands_on; lost = most }

  gone : (asked oldest : ℤ) → IsNotThere (pinned_log new) pin.place (scans.Gone asked oldest) → IsTrue (is_kept_in new pin.place) → ⊥
  gone asked oldest there is =
      let early : int_lt pin.place (oldest_place (pinned_log new)) ≡ true = ap (λ (i : ℤ). int_lt pin.place i) (sym there.1) ∙ there.2 in
      let late = not_below_oldest pin.place (pinned_log new) is in
      let both : true ≡ false = sym early ∙ late in
      cc

-- another image in place of all came between two reads, or their number stands still
module _ (pin : Pin) (old new : List Entry) (kept : IsKeptFrom old pin) (first : List Entry) (g : GoesOn first old) (h : GoesOn new first) where
  abbrev through : GoesOn new old
  through = (g.0 ++ h.0, h.1 ∙ (ap (λ (l : List Entry). l ++ h.0) g.1 ∙ append_assoc old g.0 h.0))

  same_behind : AllByRecursion (λ e. unpins pin e ≡ false) (kept.rest ++ (g.0 ++ h.0)) → loads_of new ≡ loads_of first
  same_behind none =
      let P : Entry → Type 0 = λ e. unpins pin e ≡ false in
      ap loads_of h.1 ∙ fold-append loads_with 0 first h.0 ∙ same_loads pin (loads_of first) h.0 (later_part P g.0 h.0 (later_part P kept.rest (g.0 ++ h.0) none))

  loaded : MayDiffer first new → IsLost pin new
  loaded (inl differs) = lost_where pin old new kept through (λ none. absurd (differs (same_behind none)))
  loaded (inr full) = lost_where pin old new kept through (λ none. full)

module _ (pin : Pin) (old new : List Entry) (kept : IsKeptFrom old pin) (on : GoesOn new old) where
  -- the page isn't there since it is lost
  pub is_lost : (fault : PageFault) → fault_end fault ≡ None → IsPageStop pin.place old new fault → IsLost pin new
  is_lost (page_faults.Scan (scans.Gone asked oldest)) is stop = lost_where pin old new kept on (λ none. absurd (gone pin old new kept on asked oldest stop (none_behind pin old new kept on none)))
  is_lost (page_faults.Scan (scans.NotKept asked)) is stop = lost_where pin old new kept on (λ none. absurd (not_kept (is_place_kept (pinned_log new) pin.place) stop.2 (none_behind pin old new kept on none)))
  is_lost (page_faults.Scan scans.NoCopy) is stop = absurd cc
  is_lost (page_faults.Scan scans.NoMemory) is stop = absurd cc
  is_lost page_faults.NoMemory is stop = absurd cc
  is_lost (page_faults.Loaded before later) is stop = loaded pin old new kept stop.1.first stop.1.behind stop.1.onward stop.1.loaded
