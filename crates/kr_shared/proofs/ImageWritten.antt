-- What a seat has written of the image at a place.
use Rattle.std.proofs.Common.{◌≡◌, ◌∙◌, ◌⊎◌, ℕ, ℤ, pos, ◌+◌, ◌-◌, ◌<◌, ◌≤◌, ◌^◌, List, [], ◌++◌, length, take, drop, refl, sym, ap, subst, inl, inr, arith}
use Rattle.std.specs.Prelude.{◌≤ℤ◌, IsTrue, None, Option, Result, Ok, Err, IsErr, IsErrOf}
use Rattle.std.specs.Result.{IsErrAnd}
use Rattle.std.specs.Io.KnownBytes.{Appends}
use Rattle.std.proofs.KnownBytes.{Appends-nil, Appends-trans}
use Rattle.kr_base.specs.FailedPuts.{AppendsFront}
use Rattle.kr_defs.specs.declared.limits.TheConstants.{IMAGE_BATCH}
use Rattle.kr_defs.specs.declared.record.Record.{Record}
use Rattle.kr_defs.specs.Image.{Image, IsValid}
use Rattle.kr_defs.specs.Records.{records_of}
use Rattle.kr_calls.specs.declared.events.Entry.{Entry}
use Rattle.kr_calls.specs.SeatList.{image_below, is_kept_in, loads_of}
use Rattle.kr_snapshot.specs.ImageText.{image_head, image_text}
use Rattle.kr_snapshot.specs.Written.{IsFull, IsNextText, MayPut, Written, after_put, put_bytes}
use Rattle.kr_shared.specs.Clients.{Client}
use Rattle.kr_shared.specs.ImageWrites.{HasMiss, IsNextPage, IsOver, IsPutFault, IsReaderFault, IsStop, SeesMore, StillKept, WritesText, text_at}
use Rattle.kr_shared.specs.declared.image_walk.Walk.{Walk}
use Rattle.kr_shared.specs.declared.image_writing.ImageWriteFault.{ImageWriteFault}
use Rattle.kr_shared.specs.declared.image_writing.ImageWriteFault.TheVariants as faults
use Rattle.kr_shared.proofs.ImageFronts.{Begins, IsWhole, front_behind, front_of, head_begins, page_may_put, page_whole, still_full, text_further, text_to, text_to_begins, text_whole}
use Rattle.kr_shared.proofs.ImageWalks.{HasWalked, further, kept_more, missed_behind, page_there, page_within, still_there, stop_behind, stop_there, walk_begun, walk_further}

-- ---- where nothing is written

pub no_front : (a : Option (List ℕ)) (bytes : List ℕ) → AppendsFront a a bytes
no_front a bytes = (0, Appends-nil a)

pub misses_behind : {T : Type 0} (a b c : ℕ) (result : Result T ImageWriteFault) → b ≡ a → HasMiss b c result → HasMiss a c result
misses_behind a b c (Ok done) same stays = stays ∙ same
misses_behind a b c (Err fault) same miss = missed_behind a b c fault same miss

-- a sink's fault stops at what the seat saw last
pub put_stops : (place : ℤ) (first later : List Entry) (fault : ImageWriteFault) → IsPutFault fault → StillKept place first later → IsStop place first later fault
put_stops place first later (faults.Scan fault) never still = absurd never
put_stops place first later (faults.Loaded before after) never still = absurd never
put_stops place first later faults.WriteFault is still = still
put_stops place first later faults.NoMemory is still = still

-- an answer with a fault, of which some front was written
pub writes_front : (place : ℤ) (first new : List Entry) (written written' : Option (List ℕ)) (result : Result (Unit {0}) ImageWriteFault) (fault : ImageWriteFault) → IsErr result × IsErrAnd result (λ e. e ≡ fault) → IsStop place first new fault
    → AppendsFront written written' (text_at place first) → WritesText place first new written written' result
writes_front place first new written written' (Ok done) fault told stop front = let is = told.0 in absurd cc
writes_front place first new written written' (Err e) fault told stop front = (subst (λ (f : ImageWriteFault). IsStop place first new f) (sym told.1) stop, front)

-- what a seat answers is no fault of the sink
pub never_put : {T : Type 0} (result : Result T ImageWriteFault) (fault : ImageWriteFault) → IsErrAnd result (λ e. e ≡ fault) → IsReaderFault fault → IsErrOf result faults.WriteFault → ⊥
never_put result fault told own is = subst IsReaderFault (sym (subst (λ r. IsErrAnd r (λ e. e ≡ fault)) is told)) own

-- the text of the image that an earlier call saw, too
pub writes_earlier : (place : ℤ) (a b c : List Entry) (written written' : Option (List ℕ)) (result : Result (Unit {0}) ImageWriteFault) → StillKept place a b → WritesText place b c written written' result → WritesText place a c written written' result
writes_earlier place a b c written written' (Ok done) still writes = (kept_more place a b c still writes.0, writes.1)
writes_earlier place a b c written written' (Err fault) still writes =
    (stop_behind place a b c fault still.image still.loads writes.0, subst (λ (image : Image). AppendsFront written written' (image_text place image)) still.image writes.1)

-- a walk that begins anew, once more was seen
pub over_later : (w w' : Walk) (a b : List Entry) → IsOver w a → StillKept w.place a b → w'.place ≡ w.place → w'.loads ≡ w.loads → IsOver w' b
over_later w w' a b over still place loads = record {
  loads = loads ∙ over.loads ∙ sym still.loads;
  kept = subst (λ (p : ℤ). IsTrue (is_kept_in b p)) (sym place) still.kept;
  natural = subst (λ (p : ℤ). pos 0 ≤ℤ p) (sym place) over.natural;
  valid = subst IsValid (sym (ap (λ (p : ℤ). image_below p b) place ∙ still.image)) over.valid;
}

-- ---- one batch after the other

-- so many records of so many are written, in full batches or all
pub record HasWritten (begun : Walk) (start : Client) (count : ℕ) (seat : Client) (walk : Walk) (n : ℕ) (writer : Written) (written written' : Option (List ℕ)) : Type 0 where
  pub walked : HasWalked begun start seat walk n
  pub number : writer ≡ record { count = count; done = n }
  pub full : n < count → IsFull n
  pub wrote : Appends written written' (text_to begun.place (image_below begun.place start.seen.list) n)

module _ (begun : Walk) (start : Client) (over : IsOver begun start.seen.list) (few : loads_of start.seen.list < 2 ^ 64 - 1) (count : ℕ) (all : count ≡ length (records_of (image_below begun.place start.seen.list))) (a : Option (List ℕ)) where
  abbrev place : ℤ
  place = begun.place

  abbrev image : Image
  image = image_below begun.place start.seen.list

  abbrev text : List ℕ
  text = text_at begun.place start.seen.list

  -- perhaps a front of the head
  pub stops_at_head : (b : Option (List ℕ)) (result : Result (Unit {0}) ImageWriteFault) (fault : ImageWriteFault) → IsErr result × IsErrAnd result (λ e. e ≡ fault) → IsPutFault fault
      → AppendsFront a b (image_head place (pos count)) → WritesText place start.seen.list start.seen.list a b result
  stops_at_head b result fault told put front =
      let still : StillKept place start.seen.list start.seen.list = record { kept = over.kept; image = refl; loads = refl; few = few } in
      let head : AppendsFront a b (image_head place (pos (length (records_of image)))) = subst (λ (n : ℕ). AppendsFront a b (image_head place (pos n))) all front in
      let begins : Begins text (image_head place (pos (length (records_of image)))) =
      subst (λ (l : List ℕ). Begins text l) (head_begins place image) (text_to_begins place image 0 (omega arith) (inr (0, refl))) in
      writes_front place start.seen.list start.seen.list a b result fault told (put_stops place start.seen.list start.seen.list fault put still)
      (front_behind a a b text [] (image_head place (pos (length (records_of image)))) begins (Appends-nil a) head)

  pub head_written : (writer : Written) (b : Option (List ℕ)) → begun.after ≡ None → writer ≡ record { count = count; done = 0 } → Appends a b (image_head place (pos count)) → HasWritten begun start count start begun 0 writer a b
  head_written writer b none number head = record {
    walked = walk_begun begun start over none;
    number = number;
    full = λ less. (0, refl);
    wrote = subst (λ (l : List ℕ). Appends a b l) (sym (head_begins place image)) (subst (λ (n : ℕ). Appends a b (image_head place (pos n))) all head);
  }

  module _ (seat : Client) (w : Walk) (n : ℕ) (writer : Written) (b : Option (List ℕ)) (so_far : HasWritten begun start count seat w n writer a b) where
    full : n < length (records_of image) → IsFull n
    full less = so_far.full (omega (arith, all, less))

    number : writer ≡ record { count = length (records_of image); done = n }
    number = so_far.number ∙ ap (λ (k : ℕ). record { count = k; done = n }) all

    pub all_written : count ≤ n → StillKept place start.seen.list seat.seen.list × Appends a b (text_at place seat.seen.list)
    all_written last =
        let walked = so_far.walked in
        let within = walked.within in
        let same = walked.loads in
        let end : n ≡ length (records_of image) = omega (arith, all, last, within) in
        let whole : text_to place image n ≡ image_text place image = ap (text_to place image) end ∙ text_whole place image in (
          record { kept = walked.kept; image = walked.image; loads = same; few = omega (arith, few, same) },
          subst (λ (l : List ℕ). Appends a b l) (whole ∙ ap (image_text place) (sym walked.image)) so_far.wrote,
        )

    module _ (test : n < count) (later : Client) where
      left : n < length (records_of image)
      left = omega (arith, all, test)

      -- no next page came
      pub stops_at_page : (result : Result (Unit {0}) ImageWriteFault) (fault : ImageWriteFault) → IsErr result × IsErrAnd result (λ e. e ≡ fault) → IsStop w.place seat.seen.list later.seen.list fault → WritesText place start.seen.list later.seen.list a b result
      stops_at_page result fault told stop =
          writes_front place start.seen.list later.seen.list a b result fault told (stop_there begun start over seat w n so_far.walked later fault stop)
          (front_of a b text (text_to place image n) (text_to_begins place image n so_far.walked.within (inr (full left))) so_far.wrote)

      module _ (w' : Walk) (page : List Record) (next : IsNextPage seat.seen.list later.seen.list w w' page) where
        is : page ≡ take IMAGE_BATCH (drop n (records_of image))
        is = page_there begun start over seat w n so_far.walked later w' page next

        whole_then : IsWhole (records_of image) (n + length page)
        whole_then = page_whole place image over.valid n page is left full

        within_then : n + length page ≤ length (records_of image)
        within_then = page_within begun start over seat w n so_far.walked later w' page next

        further_text : IsNextText writer page (put_bytes writer page) → text_to place image (n + length page) ≡ text_to place image n ++ put_bytes writer page
        further_text behind =
            text_further place image n page so_far.walked.within (further begun start over seat w n so_far.walked later w' page next) (subst (λ (x : Written). IsNextText x page (put_bytes x page)) number behind)
            ∙ ap (λ (x : Written). text_to place image n ++ put_bytes x page) (sym number)

        pub may_put : MayPut writer page
        may_put = subst (λ (x : Written). MayPut x page) (sym number) (page_may_put place image over.valid n page is left)

        -- the batch wasn't written, or a front of it
        pub stops_at_batch : (c : Option (List ℕ)) (result : Result (Unit {0}) ImageWriteFault) (fault : ImageWriteFault) → IsErr result × IsErrAnd result (λ e. e ≡ fault) → IsPutFault fault → IsNextText writer page (put_bytes writer page)
            → AppendsFront b c (put_bytes writer page) → WritesText place start.seen.list later.seen.list a c result
        stops_at_batch c result fault told put behind front =
            writes_front place start.seen.list later.seen.list a c result fault told
            (put_stops place start.seen.list later.seen.list fault put (still_there begun start over seat w n so_far.walked later w' page next))
            (front_behind a b c text (text_to place image n) (put_bytes writer page)
            (subst (λ (l : List ℕ). Begins text l) (further_text behind) (text_to_begins place image (n + length page) within_then whole_then)) so_far.wrote front)

        pub batch_written : (writer' : Written) (c : Option (List ℕ)) → SeesMore seat later → later.misses ≡ seat.misses → writer' ≡ after_put writer page → IsNextText writer page (put_bytes writer page) → Appends b c (put_bytes writer page)
            → HasWritten begun start count later w' (n + length page) writer' a c
        batch_written writer' c reads misses after behind more = record {
          walked = walk_further begun start over seat w n so_far.walked later w' page next reads misses;
          number = after ∙ ap (λ (x : Written). after_put x page) so_far.number;
          full = λ less. still_full (records_of image) (n + length page) whole_then (omega (arith, all, less));
          wrote = subst (λ (l : List ℕ). Appends a c l) (sym (further_text behind)) (Appends-trans a b c (text_to place image n) (put_bytes writer page) so_far.wrote more);
        }
