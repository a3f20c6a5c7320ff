-- Pages of an image, one after the other.
use Rattle.std.proofs.Common.{◌≡◌, ◌∙◌, ◌⊎◌, ℕ, ℤ, ◌+◌, ◌-◌, ◌<◌, ◌≤◌, ◌^◌, min, List, [], ◌++◌, length, take, drop, fold, refl, sym, ap, subst, inl, inr, arith}
use Rattle.std.specs.Prelude.{◌≤ℤ◌, pos, IsTrue, Option, None, Result, Ok, Err, IfErr}
use Rattle.std.specs.Result.{IsErrAnd}
use Rattle.std.proofs.Math.Seq.{take-add}
use Rattle.std.proofs.lemmas.List.{length-drop, length-take, take_min}
use Rattle.std.proofs.lemmas.List.Sums.{fold-append}
use Rattle.kr_base.specs.Causes.{Rose}
use Rattle.kr_defs.specs.declared.limits.TheConstants.{IMAGE_BATCH}
use Rattle.kr_defs.specs.declared.record.Record.{Record}
use Rattle.kr_defs.specs.Image.{Image, IsValid}
use Rattle.kr_defs.specs.Records.{records_of}
use Rattle.kr_calls.specs.declared.events.Entry.{Entry}
use Rattle.kr_calls.specs.SeatList.{image_below, is_kept_in, loads_of, pinned_log}
use Rattle.kr_view.specs.Readers.{HasScanCause, Reading}
use Rattle.kr_view.specs.RecordPages.{record_page}
use Rattle.kr_view.specs.declared.record_key.RecordKey.{RecordKey}
use Rattle.kr_view.specs.declared.scans.ScanFault.{ScanFault}
use Rattle.kr_view.specs.declared.scans.ScanFault.TheVariants as scans
use Rattle.kr_shared.specs.Clients.{Client, client_reading, with_client_reading}
use Rattle.kr_shared.specs.ImageWrites.{HasMiss, IsMiss, IsNextPage, IsOver, IsScanMiss, IsStop, MayBeLoaded, SeesMore, StillKept}
use Rattle.kr_shared.specs.KeysBehind.{key_behind, keys_behind}
use Rattle.kr_shared.specs.declared.image_walk.Walk.{Walk}
use Rattle.kr_shared.specs.declared.image_writing.ImageWriteFault.{ImageWriteFault}
use Rattle.kr_shared.specs.declared.image_writing.ImageWriteFault.TheVariants as faults
use Rattle.kr_shared.proofs.KeyedRecords.{page_is}
use Rattle.kr_shared.proofs.Onwards.{onward_refl, onward_trans}

-- what is true of the fault that an answer has
pub fault_is : {T E : Type 0} (P : E → Type 0) (result : Result T E) (fault : E) → IsErrAnd result (λ (e : E). e ≡ fault) → P fault → IfErr result P
fault_is P (Ok done) fault told holds = tt
fault_is P (Err e) fault told holds = subst P (sym told) holds

-- ---- one call after the other

pub reads_none : (s : Client) → SeesMore s s
reads_none s = record { onward = onward_refl s.seen; same = refl }

pub reads_more : (a b c : Client) → SeesMore a b → SeesMore b c → SeesMore a c
reads_more a b c first second = record {
  onward = onward_trans a.seen b.seen c.seen first.onward second.onward;
  same = second.same ∙ ap (λ (s : Client). with_client_reading s (client_reading c)) first.same;
}

pub kept_more : (place : ℤ) (a b c : List Entry) → StillKept place a b → StillKept place b c → StillKept place a c
kept_more place a b c first second = record {
  kept = second.kept;
  image = second.image ∙ first.image;
  loads = second.loads ∙ first.loads;
  few = second.few;
}

scan_missed : (T : Type 0) (old new : Reading) (fault : ScanFault) → HasScanCause {T = T} old new (Err fault) → IsScanMiss old.misses new.misses fault
scan_missed T old new (scans.Gone asked oldest) cause = cause
scan_missed T old new (scans.NotKept asked) cause = cause
scan_missed T old new scans.NoCopy cause = cause.1
scan_missed T old new scans.NoMemory cause = cause

pub miss_of : (T : Type 0) (old new : Reading) (fault : ScanFault) → HasScanCause {T = T} old new (Err fault) → IsMiss old.misses new.misses (faults.Scan fault)
miss_of T old new fault cause = scan_missed T old new fault cause

-- where the count stayed in the calls before
pub missed_behind : (a b c : ℕ) (fault : ImageWriteFault) → b ≡ a → IsMiss b c fault → IsMiss a c fault
missed_behind a b c fault same miss = subst (λ (n : ℕ). IsMiss n c fault) same miss

-- ---- a fault behind calls that saw the same image

loaded_behind : (a b c : List Entry) → loads_of b ≡ loads_of a → MayBeLoaded b c → MayBeLoaded a c
loaded_behind a b c same (inl other) = inl (λ is. other (is ∙ sym same))
loaded_behind a b c same (inr greatest) = inr greatest

pub stop_behind : (place : ℤ) (a b c : List Entry) (fault : ImageWriteFault) → image_below place b ≡ image_below place a → loads_of b ≡ loads_of a → IsStop place b c fault → IsStop place a c fault
stop_behind place a b c (faults.Scan fault) image loads stop = stop
stop_behind place a b c (faults.Loaded first later) image loads stop = (stop.0, stop.1 ∙ loads, stop.2, loaded_behind a b c loads stop.3)
stop_behind place a b c faults.WriteFault image loads stop = record { kept = stop.kept; image = stop.image ∙ image; loads = stop.loads ∙ loads; few = stop.few }
stop_behind place a b c faults.NoMemory image loads stop = record { kept = stop.kept; image = stop.image ∙ image; loads = stop.loads ∙ loads; few = stop.few }

-- ---- a walk

-- the walk over this image went past so many records, while the seat read on and saw the same image
pub record HasWalked (begun : Walk) (start seat : Client) (w : Walk) (n : ℕ) : Type 0 where
  pub reads : SeesMore start seat
  pub misses : seat.misses ≡ start.misses
  pub kept : IsTrue (is_kept_in seat.seen.list begun.place)
  pub image : image_below begun.place seat.seen.list ≡ image_below begun.place start.seen.list
  pub loads : loads_of seat.seen.list ≡ loads_of start.seen.list
  pub within : n ≤ length (records_of (image_below begun.place start.seen.list))
  pub walk : w ≡ record begun { after = keys_behind None (take n (records_of (image_below begun.place start.seen.list))) }

module _ (begun : Walk) (start : Client) (over : IsOver begun start.seen.list) where
  abbrev records : List Record
  records = records_of (image_below begun.place start.seen.list)

  pub walk_begun : begun.after ≡ None → HasWalked begun start start begun 0
  walk_begun none = record {
    reads = reads_none start;
    misses = refl;
    kept = over.kept;
    image = refl;
    loads = refl;
    within = omega arith;
    walk = ap (λ (k : Option RecordKey). record begun { after = k }) none;
  }

  module _ (seat : Client) (w : Walk) (n : ℕ) (walked : HasWalked begun start seat w n) where
    place_is : w.place ≡ begun.place
    place_is = ap (λ (x : Walk). x.place) walked.walk

    pub over_there : IsOver w seat.seen.list
    over_there = record {
      loads = ap (λ (x : Walk). x.loads) walked.walk ∙ over.loads ∙ sym walked.loads;
      kept = subst (λ (p : ℤ). IsTrue (is_kept_in seat.seen.list p)) (sym place_is) walked.kept;
      natural = subst (λ (p : ℤ). pos 0 ≤ℤ p) (sym place_is) over.natural;
      valid = subst IsValid (sym (ap (λ (p : ℤ). image_below p seat.seen.list) place_is ∙ walked.image)) over.valid;
    }

    pub stop_there : (later : Client) (fault : ImageWriteFault) → IsStop w.place seat.seen.list later.seen.list fault → IsStop begun.place start.seen.list later.seen.list fault
    stop_there later fault stop =
        stop_behind begun.place start.seen.list seat.seen.list later.seen.list fault walked.image walked.loads
        (subst (λ (p : ℤ). IsStop p seat.seen.list later.seen.list fault) place_is stop)

    module _ (later : Client) (w' : Walk) (page : List Record) (next : IsNextPage seat.seen.list later.seen.list w w' page) where
      -- the page has the records that come next
      pub page_there : page ≡ take IMAGE_BATCH (drop n records)
      page_there =
          next.records
          ∙ (λ i. record_page (image_below (place_is i) seat.seen.list) (ap (λ (x : Walk). x.after) walked.walk i) IMAGE_BATCH)
          ∙ ap (λ (image : Image). record_page image (keys_behind None (take n records)) IMAGE_BATCH) walked.image
          ∙ page_is (image_below begun.place start.seen.list) over.valid n IMAGE_BATCH

      page_long : length page ≡ min IMAGE_BATCH (length records - n)
      page_long = ap (λ (l : List Record). length l) page_there ∙ length-take IMAGE_BATCH (drop n records) ∙ ap (λ (k : ℕ). min IMAGE_BATCH k) (length-drop n records)

      pub page_few : length page ≤ IMAGE_BATCH
      page_few = let long = page_long in omega (arith, long)

      -- a short one is the last one
      pub page_last : length page < IMAGE_BATCH → n + length page ≡ length records
      page_last short = let long = page_long in let within = walked.within in omega (arith, long, within, short)

      -- and there is one while records are left
      pub page_some : n < length records → 1 ≤ length page
      page_some left = let long = page_long in omega (arith, long, left)

      pub page_within : n + length page ≤ length records
      page_within = let long = page_long in let within = walked.within in omega (arith, long, within)

      page_first : take (length page) (drop n records) ≡ page
      page_first =
          ap (λ (k : ℕ). take k (drop n records)) (page_long ∙ ap (λ (k : ℕ). min IMAGE_BATCH k) (sym (length-drop n records)))
          ∙ take_min IMAGE_BATCH (drop n records) ∙ sym page_there

      pub further : take (n + length page) records ≡ take n records ++ page
      further = take-add n (length page) records ∙ ap (λ (l : List Record). take n records ++ l) page_first

      pub still_there : StillKept begun.place start.seen.list later.seen.list
      still_there =
          let own : StillKept begun.place seat.seen.list later.seen.list = subst (λ (p : ℤ). StillKept p seat.seen.list later.seen.list) place_is next.kept in
          record { kept = own.kept; image = own.image ∙ walked.image; loads = own.loads ∙ walked.loads; few = own.few }

      pub walk_further : SeesMore seat later → later.misses ≡ seat.misses → HasWalked begun start later w' (n + length page)
      walk_further reads misses = record {
        reads = reads_more start seat later walked.reads reads;
        misses = misses ∙ walked.misses;
        kept = still_there.kept;
        image = still_there.image;
        loads = still_there.loads;
        within = page_within;
        walk = next.walk
            ∙ ap (λ (x : Walk). record x { after = keys_behind x.after page }) walked.walk
            ∙ ap (λ (k : Option RecordKey). record begun { after = k }) (sym (ap (keys_behind None) further ∙ fold-append key_behind None (take n records) page));
      }
