-- A page that a client asks for, call by call.
use Rattle.std.proofs.Common.{◌≡◌, ◌∙◌, ℤ, Bool, true, false, List, [], ◌∷◌, ◌++◌, Result, Ok, Err, refl, sym, ap, subst, inl, inr}
use Rattle.std.specs.Prelude.{IfOk, IfSome, IsTrue, Option, Some, None}
use Rattle.std.specs.Option.{is_some, option_map}
use Rattle.kr_calls.specs.declared.pins.Pin.{Pin}
use Rattle.kr_describe.specs.declared.steady.PageFault.{PageFault}
use Rattle.kr_describe.specs.declared.steady.PageFault.TheVariants as page_faults
use Rattle.kr_describe.specs.SteadyReads.{IsPageCause, IsPageStop}
use Rattle.kr_defs.proofs.Tests.{some_is}
use Rattle.kr_pages.specs.declared.describe.Describe.{Describe}
use Rattle.kr_pages.specs.declared.describe.Described.{Described}
use Rattle.kr_pages.specs.declared.describe.LineKey.{LineKey}
use Rattle.kr_pages.specs.Pages.{page}
use Rattle.kr_calls.specs.SeatList.{image_below, is_kept_in}
use Rattle.kr_view.specs.declared.scans.ScanFault.TheVariants as scans
use Rattle.kr_shared.specs.declared.clients.SubmitFault.{SubmitFault}
use Rattle.kr_shared.specs.declared.clients.SubmitFault.TheVariants as submits
use Rattle.kr_shared.specs.Clients.{Client, client_reading}
use Rattle.kr_shared.specs.Grants.{IsKeptFrom, pin_at}
use Rattle.kr_server.specs.declared.end.ServeEnd.{ServeEnd}
use Rattle.kr_server.specs.declared.end.ServeEnd.TheVariants as ends
use Rattle.kr_server.specs.PagingCalls.{HoldsFor, HoldsOn, IsLost, IsPageEnd, IsPlaceRefused, KeepsFor, PinsOne, ReadsRecords, Unpins, no_pin, no_unpin}
use Rattle.kr_server.specs.SeatCalls.{AsksForPages, Holder, holder}
use Rattle.kr_server.specs.inner.Paging.{Finished, GaveBack, IsPinPlace, IsPageMade, IsNoPage, IsPlaceEnd, IsReadyFor, Renewed, TookOne, fault_end}
use Rattle.kr_server.specs.inner.Serving.{refusal_end}
use Rattle.kr_server.proofs.LostPins.{is_lost, kept_on}
use Rattle.kr_server.proofs.PageCalls.{asks_more, asks_nothing, asks_pin, asks_records, asks_same, asks_unpin}

-- ---- a place, once another is given back

none_left : (held : Option ℤ) (old new : Client) (left : Option ℤ) → GaveBack held old new left (Ok tt) → left ≡ None
none_left None old new left g = g.2
none_left (Some place) old new left g = g.1

asks_given : (held : Option ℤ) (old new : Client) (left : Option ℤ) → GaveBack held old new left (Ok tt) → AsksForPages old new
asks_given None old new left g = asks_same old new g.1
asks_given (Some place) old new left g = asks_unpin old new place (Ok tt) g.0

pub not_given : (held : Option ℤ) (old new : Client) (left : Option ℤ) (fault : SubmitFault) → GaveBack held old new left (Err fault) → IsPlaceRefused old new fault
not_given None old new left fault g = let h = g.0 in absurd cc
not_given (Some place) old new left fault g = no_unpin place g.0

pub given_end : (held : Option ℤ) (old new : Client) (left : Option ℤ) (fault : SubmitFault) → GaveBack held old new left (Err fault) → IsPlaceEnd old new fault
given_end held old new left fault g = record { mid = old; before = asks_nothing old; cause = not_given held old new left fault g }

-- the one is given back, and the other pinned
pub renewed : (held : Option ℤ) (old mid new : Client) (between left : Option ℤ) (result : Result ℤ SubmitFault) → GaveBack held old mid between (Ok tt) → TookOne mid new left result → Renewed held old new left result
renewed held old mid new between left (Ok place) g took =
    (mid, subst (λ (o : Option ℤ). GaveBack held old mid o (Ok tt)) (none_left held old mid between g) g, took)
renewed held old mid new between left (Err fault) g took = record { mid = mid; before = asks_given held old mid between g; cause = took.0 }

pub asks_renewed : (held : Option ℤ) (old new : Client) (left : Option ℤ) (place : ℤ) → Renewed held old new left (Ok place) → AsksForPages old new
asks_renewed held old new left place r = asks_more old r.0 new (asks_given held old r.0 None r.1) (asks_pin r.0 new (pin_at r.0.number new.ticket place) r.2.0)

pub ruleset renewing = (given_end, renewed, asks_renewed)

-- ---- the place for a page

pins_place : (pin : Option Pin) (place : ℤ) → Some place ≡ option_map (λ (p : Pin). p.place) pin → (own : Pin) × (pin ≡ Some own) × (place ≡ own.place)
pins_place None place is = absurd cc
pins_place (Some own) place is = (own, refl, some_is place own.place is)

no_pin_held : (pin : Option Pin) → None ≡ option_map (λ (p : Pin). p.place) pin → pin ≡ None
no_pin_held None is = refl
no_pin_held (Some own) is = absurd cc

some_cursor : (cursor : Option LineKey) → is_some cursor ≡ true → (key : LineKey) × (cursor ≡ Some key)
some_cursor None is = absurd cc
some_cursor (Some key) is = (key, refl)

no_cursor : (cursor : Option LineKey) → is_some cursor ≡ false → cursor ≡ None
no_cursor None is = refl
no_cursor (Some key) is = absurd cc

module _ (cursor : Option LineKey) (old : Client) where
  -- where the walk goes on
  held_on : (pin : Pin) (place : ℤ) (key : LineKey) → place ≡ pin.place → IsKeptFrom old.seen.list pin → IsReadyFor (Some key) (holder old (Some pin)) old place
  held_on pin place key at kept = record {
    first = old;
    own = pin;
    begins = (refl, refl);
    others = [];
    pin = pin;
    holds = (refl, refl);
    at = at;
    kept = kept;
  }

  pub goes_on : (pin : Option Pin) (place : ℤ) → is_some cursor ≡ true → IsPinPlace (Some place) (holder old pin) → IsReadyFor cursor (holder old pin) old place
  goes_on pin place is held =
      let key = some_cursor cursor is in
      let own = pins_place pin place held.is in
      let kept : IsKeptFrom old.seen.list own.0 = subst (λ (o : Option Pin). IfSome o (λ p. IsKeptFrom old.seen.list p)) own.1 held.kept in
      let ready = held_on own.0 place key.0 own.2 kept in
      subst (λ (o : Option Pin). IsReadyFor cursor (holder old o) old place) (sym own.1) (subst (λ (o : Option LineKey). IsReadyFor o (holder old (Some own.0)) old place) (sym key.1) ready)

  -- a new one
  begun_at : (pin : Option Pin) (new : Client) (place : ℤ) (own : Pin) → own.place ≡ place → IsKeptFrom new.seen.list own → HoldsFor cursor pin old new own → IsReadyFor cursor (holder old pin) new place
  begun_at pin new place own at kept begins = record {
    first = new;
    own = own;
    begins = begins;
    others = [];
    pin = own;
    holds = (refl, refl);
    at = sym at;
    kept = kept;
  }

  first_pin : (o : Option LineKey) (new : Client) (own : Pin) → PinsOne old new own → HoldsFor o None old new own
  first_pin None new own p = p
  first_pin (Some key) new own p = p

  pub begun_first : (pin : Option Pin) (new : Client) (left : Option ℤ) (result : Result ℤ SubmitFault) → IsPinPlace None (holder old pin) → Renewed None old new left result → IfOk result (IsReadyFor cursor (holder old pin) new)
  begun_first pin new left (Ok place) held r =
      let own = pin_at r.0.number new.ticket place in
      let pinned : PinsOne old new own = subst (λ (c : Client). PinsOne c new own) r.1.1 r.2.0 in
      subst (λ (o : Option Pin). IsReadyFor cursor (holder old o) new place) (sym (no_pin_held pin held.is)) (begun_at None new place own refl pinned.kept (first_pin cursor new own pinned))
  begun_first pin new left (Err fault) held r = tt

  pub begun_again : (pin : Option Pin) (before : ℤ) (new : Client) (left : Option ℤ) (result : Result ℤ SubmitFault) → is_some cursor ≡ false → IsPinPlace (Some before) (holder old pin) → Renewed (Some before) old new left result → IfOk result (IsReadyFor cursor (holder old pin) new)
  begun_again pin before new left (Ok place) is held r =
      let own = pins_place pin before held.is in
      let next = pin_at r.0.number new.ticket place in
      let gave : Unpins old r.0 own.0.place (Ok tt) = subst (λ (i : ℤ). Unpins old r.0 i (Ok tt)) own.2 r.1.0 in
      let begins : HoldsFor None (Some own.0) old new next = (r.0, gave, r.2.0) in
      let same : HoldsFor cursor pin old new next =
      subst (λ (o : Option LineKey). HoldsFor o pin old new next) (sym (no_cursor cursor is)) (subst (λ (o : Option Pin). HoldsFor None o old new next) (sym own.1) begins) in
      begun_at pin new place next refl r.2.0.kept same
  begun_again pin before new left (Err fault) is held r = tt

-- ---- a page at it

-- the pin is lost, and another held
holds_more : (old : Client) (held : Pin) (others : List Pin) (mid : Client) (pin : Pin) (read gone new : Client) (next : Pin)
    → HoldsOn old held others mid pin → ReadsRecords mid read → IsLost pin read.seen.list → Unpins read gone pin.place (Ok tt) → PinsOne gone new next
    → HoldsOn old held (others ++ next ∷ []) new next
holds_more old held [] mid pin read gone new next h reads lost gave took =
    (read, gone, new, subst (λ (c : Client). ReadsRecords c read) h.0 reads, subst (λ (p : Pin). IsLost p read.seen.list) h.1 lost, subst (λ (p : Pin). Unpins read gone p.place (Ok tt)) h.1 gave, took, (refl, refl))
holds_more old held (other ∷ others) mid pin read gone new next h reads lost gave took =
    (h.0, h.1, h.2, h.3, h.4, h.5, h.6, holds_more h.2 other others mid pin read gone new next h.7 reads lost gave took)

module _ (cursor : Option LineKey) (before : Holder) (old got : Client) (place : ℤ) (ready : IsReadyFor cursor before old place) (reads : ReadsRecords old got) where
  kept_there : IsKeptFrom got.seen.list ready.pin
  kept_there = kept_on ready.pin old.seen.list got.seen.list ready.kept reads.onward.list

  pub lost_place : (new : Client) (left : Option ℤ) (next : ℤ) (fault : PageFault) → fault_end fault ≡ None → IsPageStop place old.seen.list got.seen.list fault → Renewed (Some place) got new left (Ok next) → IsReadyFor cursor before new next
  lost_place new left next fault none stop r =
      let lost = is_lost ready.pin old.seen.list got.seen.list ready.kept reads.onward.list fault none (subst (λ (i : ℤ). IsPageStop i old.seen.list got.seen.list fault) ready.at stop) in
      let gave : Unpins got r.0 ready.pin.place (Ok tt) = subst (λ (i : ℤ). Unpins got r.0 i (Ok tt)) ready.at r.1.0 in
      let own = pin_at r.0.number new.ticket next in
      record {
        first = ready.first;
        own = ready.own;
        begins = ready.begins;
        others = ready.others ++ own ∷ [];
        pin = own;
        holds = holds_more ready.first ready.own ready.others old ready.pin got r.0 new own ready.holds reads lost gave r.2.0;
        at = refl;
        kept = r.2.0.kept;
      }

  -- it is made
  module _ (d : Describe) (described : Described) (new : Client) (left : Option ℤ) where
    made_as : (pin : Option Pin) → described ≡ page (image_below place got.seen.list) d → IsTrue (is_kept_in got.seen.list place) → cursor ≡ d.cursor → KeepsFor described.next got ready.pin new pin → IsPinPlace left (holder new pin) → IsPageMade before new left place d described
    made_as pin shown kept asked ends is_held = record {
      pin = pin;
      paged = record {
        first = ready.first;
        own = ready.own;
        begins = subst (λ (o : Option LineKey). HoldsFor o before.pin before.seat ready.first ready.own) asked ready.begins;
        others = ready.others;
        ready = old;
        pin = ready.pin;
        holds = ready.holds;
        got = got;
        reads = reads;
        at = ready.at;
        kept = kept;
        shows = shown;
        ends = ends;
      };
      is_held = is_held;
    }

    pub made : described ≡ page (image_below place got.seen.list) d → IsTrue (is_kept_in got.seen.list place) → cursor ≡ d.cursor → Finished (is_some described.next) (Some place) got new left (Ok tt) → IsPageMade before new left place d described
    made shown kept asked f = by_next described.next refl
      where
        by_next : (o : Option LineKey) → described.next ≡ o → IsPageMade before new left place d described
        by_next None is =
            let g : Finished false (Some place) got new left (Ok tt) = subst (λ (o : Option LineKey). Finished (is_some o) (Some place) got new left (Ok tt)) is f in
            let gave : Unpins got new ready.pin.place (Ok tt) = subst (λ (i : ℤ). Unpins got new i (Ok tt)) ready.at g.0 in
            made_as None shown kept asked (subst (λ (o : Option LineKey). KeepsFor o got ready.pin new None) (sym is) (gave, refl)) (record { is = g.1; kept = tt })
        by_next (Some next) is =
            let g : Finished true (Some place) got new left (Ok tt) = subst (λ (o : Option LineKey). Finished (is_some o) (Some place) got new left (Ok tt)) is f in
            made_as (Some ready.pin) shown kept asked (subst (λ (o : Option LineKey). KeepsFor o got ready.pin new (Some ready.pin)) (sym is) (g.1, refl))
            (record { is = g.2 ∙ ap (λ (i : ℤ). Some i) ready.at; kept = subst (λ (c : Client). IsKeptFrom c.seen.list ready.pin) (sym g.1) kept_there })

-- ---- no page

pub refused_end : (old new : Client) (fault : SubmitFault) → IsPlaceRefused old new fault → IsPageEnd old new (refusal_end fault)
refused_end old new (submits.Ended number) r = r
refused_end old new (submits.Ahead floor tip) r = r
refused_end old new (submits.Exhausted tip) (no_pin cause onward misses) = absurd cause.cause
refused_end old new (submits.Exhausted tip) (no_unpin place u) = absurd u.cause
refused_end old new submits.NoMemory r = inr r

pub place_end : (old new : Client) (fault : SubmitFault) → IsPlaceEnd old new fault → IsNoPage old new (refusal_end fault)
place_end old new fault e = record { mid = e.mid; before = e.before; cause = refused_end e.mid new fault e.cause }

pub no_page_behind : (old mid new : Client) (end : ServeEnd) → AsksForPages old mid → IsNoPage mid new end → IsNoPage old new end
no_page_behind old mid new end first e = record { mid = e.mid; before = asks_more old mid e.mid first e.before; cause = e.cause }

-- it is given back, or held on
pub asks_finished : (goes_on : Bool) (held : Option ℤ) (old new : Client) (left : Option ℤ) → Finished goes_on held old new left (Ok tt) → AsksForPages old new
asks_finished true held old new left f = asks_same old new f.1
asks_finished false held old new left f = asks_given held old new left f

not_finished : (goes_on : Bool) (held : Option ℤ) (old new : Client) (left : Option ℤ) (fault : SubmitFault) → Finished goes_on held old new left (Err fault) → IsPlaceEnd old new fault
not_finished true held old new left fault f = let h = f.0 in absurd cc
not_finished false held old new left fault f = given_end held old new left fault f

pub unfinished : (old got new : Client) (goes_on : Bool) (held left : Option ℤ) (fault : SubmitFault) → ReadsRecords old got → Finished goes_on held got new left (Err fault) → IsNoPage old new (refusal_end fault)
unfinished old got new goes_on held left fault reads f = no_page_behind old got new (refusal_end fault) (asks_records old got reads) (place_end got new fault (not_finished goes_on held got new left fault f))

pub not_read : (old new : Client) (fault : PageFault) (end : ServeEnd) → Some end ≡ fault_end fault → ReadsRecords old new → IsPageCause (client_reading old) (client_reading new) fault → IsNoPage old new end
not_read old new (page_faults.Scan (scans.Gone asked oldest)) end is reads cause = absurd cc
not_read old new (page_faults.Scan (scans.NotKept asked)) end is reads cause = absurd cc
not_read old new (page_faults.Loaded first later) end is reads cause = absurd cc
not_read old new (page_faults.Scan scans.NoCopy) end is reads cause =
    record { mid = old; before = asks_nothing old; cause = subst (λ (e : ServeEnd). IsPageEnd old new e) (sym (some_is end ends.NoCopy is)) (reads, cause) }
not_read old new (page_faults.Scan scans.NoMemory) end is reads cause =
    record { mid = old; before = asks_nothing old; cause = subst (λ (e : ServeEnd). IsPageEnd old new e) (sym (some_is end ends.NoMemory is)) (inl reads) }
not_read old new page_faults.NoMemory end is reads cause =
    record { mid = old; before = asks_nothing old; cause = subst (λ (e : ServeEnd). IsPageEnd old new e) (sym (some_is end ends.NoMemory is)) (inl reads) }
