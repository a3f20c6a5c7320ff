-- What the calls of one page leave of a client's seat.
use Rattle.std.proofs.Common.{◌≡◌, ◌∙◌, ℤ, Result, Ok, Err, refl, ap, subst, inl, inr}
use Rattle.std.specs.Prelude.{IfErr, IfOk, IsTrue, OnOk}
use Rattle.kr_calls.specs.SeatList.{image_below, is_kept_in}
use Rattle.kr_describe.specs.declared.steady.PageFault.{PageFault}
use Rattle.kr_describe.specs.declared.steady.PageFault.TheVariants as page_faults
use Rattle.kr_describe.specs.SteadyReads.{Calls, HasPageCause, IsPageStop, none, one_more}
use Rattle.kr_pages.specs.declared.describe.Describe.{Describe}
use Rattle.kr_pages.specs.declared.describe.Described.{Described}
use Rattle.kr_pages.specs.Pages.{page}
use Rattle.kr_view.specs.declared.scans.ScanFault.TheVariants as scans
use Rattle.kr_view.specs.Seats.{Onward}
use Rattle.kr_shared.specs.Clients.{Client, MayRise, client_reading, with_client_reading}
use Rattle.kr_server.specs.PagingCalls.{ReadsRecords}
use Rattle.kr_server.specs.inner.Paging.{PageRead}

-- nothing but what it has seen
reads_alone : (old new : Client) → Calls client_reading with_client_reading old new → new ≡ with_client_reading old (client_reading new)
reads_alone old new (none a) = refl
reads_alone old new (one_more a b c first last) =
    last ∙ ap (λ (s : Client). with_client_reading s (client_reading c)) (reads_alone a b first)

page_misses : (old new : Client) (result : Result Described PageFault) → HasPageCause (client_reading old) (client_reading new) result → MayRise old.misses new.misses
page_misses old new (Ok described) cause = inl cause
page_misses old new (Err (page_faults.Scan (scans.Gone asked oldest))) cause = inl cause
page_misses old new (Err (page_faults.Scan (scans.NotKept asked))) cause = inl cause
page_misses old new (Err (page_faults.Scan scans.NoCopy)) cause = inr cause
page_misses old new (Err (page_faults.Scan scans.NoMemory)) cause = inl cause
page_misses old new (Err (page_faults.Loaded before later)) cause = inl cause
page_misses old new (Err page_faults.NoMemory) cause = inl cause

page_reads : (old new : Client) (result : Result Described PageFault) → Calls client_reading with_client_reading old new → Onward old.seen new.seen
    → HasPageCause (client_reading old) (client_reading new) result → ReadsRecords old new
page_reads old new result calls onward cause = record { onward = onward; misses = page_misses old new result cause; same = reads_alone old new calls }

-- and what it tells
pub page_read : (old new : Client) (own place : ℤ) → own ≡ place → (describe : Describe) (result : Result Described PageFault) → Calls client_reading with_client_reading old new → Onward old.seen new.seen
    → HasPageCause (client_reading old) (client_reading new) result → IfOk result (λ d. d ≡ page (image_below own new.seen.list) describe)
    → OnOk result (IsTrue (is_kept_in new.seen.list own)) → IfErr result (IsPageStop own old.seen.list new.seen.list) → PageRead old new place describe result
page_read old new own place same describe result calls onward cause shows kept stop =
    subst (λ (i : ℤ). PageRead old new i describe result) same (record { reads = page_reads old new result calls onward cause; shows = shows; kept = kept; stop = stop; cause = cause })
