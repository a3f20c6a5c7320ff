-- What the pages of a walk have in common: pages of one list of names, from no cursor to none, each asked with the cursor that the
-- one before gave. This project's own.
use Rattle.std.specs.Prelude.{◌≡◌, ◌⊎◌, ℕ, ℤ, IsTrue, List, [], ◌∷◌, map, Option, Some, None}
use Rattle.std.specs.List.{AllByRecursion, flat_map}
use Rattle.std.specs.Option.{is_some}
use Rattle.kr_calls.specs.declared.events.Entry.{Entry}
use Rattle.kr_calls.specs.declared.pins.Pin.{Pin}
use Rattle.kr_calls.specs.SeatList.{image_below, is_kept_in}
use Rattle.kr_pages.specs.declared.describe.Describe.{Describe}
use Rattle.kr_pages.specs.declared.describe.Described.{Described}
use Rattle.kr_pages.specs.declared.describe.LineKey.{LineKey}
use Rattle.kr_pages.specs.Joined.{joined_pages}
use Rattle.kr_pages.specs.Lines.{lines}
use Rattle.kr_pages.specs.Pages.{limit_of, page}
use Rattle.kr_view.specs.CopiesRule.{GoesOn}
use Rattle.kr_view.specs.Seats.{Onward}
use Rattle.kr_shared.specs.Clients.{Client}
use Rattle.kr_server.specs.declared.exchange.Exchange.{Exchange}
use Rattle.kr_server.specs.declared.exchange.Exchange.TheVariants as exchanges
use Rattle.kr_server.specs.PagingCalls.{GivesBack, IsLost, IsPageExchange}
use Rattle.kr_server.specs.SeatCalls.{AreExchanged, Holder, IsExchanged}

-- a page that was told
pub record ToldPage : Type 0 where
  pub place : ℤ
  pub describe : Describe
  pub described : Described

abbrev pub page_told : Exchange → List ToldPage
page_told (exchanges.Write a) = []
page_told (exchanges.Read call reply) = []
page_told (exchanges.Page correlation place describe described) = record { place = place; describe = describe; described = described } ∷ []
page_told (exchanges.Bare correlation error) = []

abbrev pub pages_told : List Exchange → List ToldPage
pages_told xs = flat_map page_told xs

-- ---- neighbours

-- the seat's list showed the pin lost, and then its place was given back
pub record IsPinLost (pin : Pin) (old new : Client) : Type 0 where
  pub read : Client
  pub gone : Client
  pub before : Onward old.seen read.seen
  pub lost : IsLost pin read.seen.list
  pub gave : GivesBack read gone pin
  pub behind : Onward gone.seen new.seen

-- Of two pages with none between them, where the earlier one left lines and the later one has a cursor, the later one is of the
-- earlier one's place, unless the pin was lost.
abbrev pub NeighboursGoOn : Type 0
NeighboursGoOn =
    (old left held new : Holder) (place later : ℤ) (describe asked : Describe) (described shown : Described) (between : List Exchange)
    → (first : IsPageExchange old.seat old.pin left.seat left.pin place describe described) → AreExchanged left between held → pages_told between ≡ []
    → IsPageExchange held.seat held.pin new.seat new.pin later asked shown → IsTrue (is_some described.next) → IsTrue (is_some asked.cursor)
    → (later ≡ place) ⊎ IsPinLost first.pin held.seat new.seat

-- ---- walks

-- pages of these names, from this cursor to none
abbrev pub IsWalk : List (List ℕ) → Option LineKey → List ToldPage → Type 0
IsWalk names cursor [] = ⊥
IsWalk names cursor (p ∷ []) = (p.describe.names ≡ names) × (p.describe.cursor ≡ cursor) × (p.described.next ≡ None)
IsWalk names cursor (p ∷ q ∷ ps) =
    (p.describe.names ≡ names) × (p.describe.cursor ≡ cursor) × (next : LineKey) × (p.described.next ≡ Some next) × IsWalk names (Some next) (q ∷ ps)

-- No pin was lost: none was given back for another where there is a cursor, and none is lost in the list that the page was read from.
abbrev pub KeepsPin : (old new : Holder) (x : Exchange) → IsExchanged old new x → Type 0
KeepsPin old new (exchanges.Write a) is = Unit {0}
KeepsPin old new (exchanges.Read call reply) is = Unit {0}
KeepsPin old new (exchanges.Page correlation place describe described) is = (IsTrue (is_some describe.cursor) → is.others ≡ []) × (IsLost is.pin is.got.seen.list → ⊥)
KeepsPin old new (exchanges.Bare correlation error) is = Unit {0}

abbrev pub KeepsPins : (old : Holder) (xs : List Exchange) (new : Holder) → AreExchanged old xs new → Type 0
KeepsPins old [] new all = Unit {0}
KeepsPins old (x ∷ xs) new all = KeepsPin old all.0 x all.1 × KeepsPins all.0 xs new all.2

-- all of the image at one place, in a list that the seat had; and joined they are its lines
pub record IsOfOnePlace (names : List (List ℕ)) (pages : List ToldPage) (new : Client) : Type 0 where
  pub place : ℤ
  pub list : List Entry
  pub begins : GoesOn new.seen.list list
  pub kept : IsTrue (is_kept_in list place)
  pub all : AllByRecursion (λ (p : ToldPage). (p.place ≡ place) × (p.described ≡ page (image_below place list) p.describe)) pages
  pub joined : let those = lines (image_below place list) names in joined_pages those None (map (λ (p : ToldPage). limit_of p.describe.limit) pages) ≡ those

abbrev pub WalksJoin : Type 0
WalksJoin =
    (old new : Holder) (xs : List Exchange) (names : List (List ℕ)) (all : AreExchanged old xs new) → IsWalk names None (pages_told xs) → KeepsPins old xs new all
    → IsOfOnePlace names (pages_told xs) new.seat
