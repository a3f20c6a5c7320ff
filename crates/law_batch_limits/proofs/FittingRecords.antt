-- Records that have a meaning and pass no limit of requests fit one batch.
use Rattle.std.proofs.Common.{◌≡◌, ℕ, ◌≤◌, List, [], ◌∷◌, length, refl, arith}
use Rattle.std.specs.Prelude.{sum_by, Result, Ok, Err, nat_le}
use Rattle.std.specs.List.{AllByRecursion}
use Rattle.std.proofs.lemmas.Bool.{leb-true}
use Rattle.std.proofs.lemmas.List.Elements.{All-from_recursion}
use Rattle.std.proofs.lemmas.List.Sums.{sum_by-cons}
use Rattle.kr_defs.specs.declared.ill.Ill.{Ill}
use Rattle.kr_defs.specs.declared.limits.TheConstants.{MOST_REQUEST_BYTES, MOST_REQUEST_RECORDS}
use Rattle.kr_defs.specs.declared.record.Item.{Item}
use Rattle.kr_defs.specs.declared.record.Item.TheVariants as items
use Rattle.kr_defs.specs.declared.record.Record.{Record}
use Rattle.kr_defs.specs.Apply.{apply_record}
use Rattle.kr_defs.specs.Guard.{and_then}
use Rattle.kr_defs.specs.Heartbeats.{heard}
use Rattle.kr_defs.specs.Image.{Image}
use Rattle.kr_defs.specs.ImageLaws.{as_items}
use Rattle.kr_defs.specs.Sizes as sizes
use Rattle.kr_defs.proofs.Tests.{both}
use Rattle.kr_record.specs.Encodable.{IsEncodable}
use Rattle.kr_record.proofs.RecordForms.{size}
use Rattle.kr_batch.specs.BatchBytes.{IsWritable, item_value, values_size}
use Rattle.kr_calls.specs.Deciding.{apply_records}
use Rattle.kr_calls.specs.Decide.{work_of}
use Rattle.kr_calls.proofs.DecisionMeanings.{requests_stand}
use Rattle.law_batch_limits.specs.Fitting.{RecordsFit, RequestsFit}
use Rattle.law_batch_limits.proofs.RequestLimits.{requests_bounded}
use Rattle.law_batch_limits.proofs.ShortRecords.{IsFew, written}

abbrev item_bytes : Item → ℕ
item_bytes i = length (item_value i)

-- each of the records, and their sizes
pub record AreLight (records : List Record) : Type 0 where
  pub each : AllByRecursion IsWritable (as_items records)
  pub same : values_size (as_items records) ≡ sum_by sizes.value_bytes records

first_few : (r : Record) (records : List Record) → IsFew (sum_by sizes.value_bytes (r ∷ records)) → IsFew (sizes.value_bytes r) × IsFew (sum_by sizes.value_bytes records)
first_few r records few = let sum = sum_by-cons sizes.value_bytes r records in (omega (arith, sum, few), omega (arith, sum, few))

both_light : (r : Record) (records : List Record) → IsEncodable r → AreLight records → AreLight (r ∷ records)
both_light r records fits rest =
    let own = size r fits in
    let first = sum_by-cons item_bytes (items.Record r) (as_items records) in
    let second = sum_by-cons sizes.value_bytes r records in
    let same = rest.same in
    record { each = (fits, rest.each); same = omega (arith, own, first, second, same) }

are_light : (image after : Image) (records : List Record) → apply_records image records ≡ Ok after → IsFew (sum_by sizes.value_bytes records) → AreLight records
are_light image after [] meaning few = record { each = tt; same = refl }
are_light image after (r ∷ records) meaning few =
    let parts = first_few r records few in
    elim (apply_record image r) as (λ (q : Result Image Ill). apply_record image r ≡ q → and_then q (λ mid. apply_records mid records) ≡ Ok after → AreLight (r ∷ records)) [
      | Ok mid ↦ λ is rest. both_light r records (written image mid r is parts.0) (are_light mid after records rest parts.1)
      | Err cause ↦ λ is rest. absurd cc
    ] refl meaning

pub records_fit : RecordsFit
records_fit image after records meaning within =
    let parts = both (nat_le (length records) MOST_REQUEST_RECORDS) (nat_le (sum_by sizes.value_bytes records) MOST_REQUEST_BYTES) within in
    let few : length records ≤ 10000 = leb-true (length records) MOST_REQUEST_RECORDS parts.0 in
    let little : IsFew (sum_by sizes.value_bytes records) = leb-true (sum_by sizes.value_bytes records) MOST_REQUEST_BYTES parts.1 in
    let light = are_light image after records meaning little in
    let same = light.same in
    record { few = few; each = All-from_recursion IsWritable (as_items records) light.each; small = omega (arith, same, little) }

pub requests_fit : RequestsFit
requests_fit options basis image place request =
    let work = (work_of options basis.time (heard basis) image place request).0 in
    records_fit image work.image work.records (requests_stand options basis.time (heard basis) image place request) (requests_bounded options basis.time (heard basis) image place request)
