-- What one record batch takes of the records of one event (this project's own).
use Rattle.std.specs.Prelude.{◌≡◌, ◌≤◌, ◌<◌, ℤ, true, List, length, All, Ok}
use Rattle.kr_defs.specs.declared.basis.Basis.{Basis}
use Rattle.kr_defs.specs.declared.limits.TheConstants.{MOST_RECORDS}
use Rattle.kr_defs.specs.declared.options.Options.{Options}
use Rattle.kr_defs.specs.declared.record.Record.{Record}
use Rattle.kr_defs.specs.Image.{Image}
use Rattle.kr_defs.specs.ImageLaws.{as_items}
use Rattle.kr_batch.specs.BatchBytes.{VALUES_END, IsWritable, values_size}
use Rattle.kr_calls.specs.declared.calls.Request.{Request}
use Rattle.kr_calls.specs.Deciding.{apply_records, is_request}
use Rattle.kr_calls.specs.Decide.{decide}

-- they are few, each has a written form, and their values are small
pub record FitsBatch (records : List Record) : Type 0 where
  pub few : length records ≤ MOST_RECORDS
  pub each : All IsWritable (as_items records)
  pub small : values_size (as_items records) < VALUES_END

-- Records that have a meaning and pass no limit of requests fit.
abbrev pub RecordsFit : Type 0
RecordsFit = (image after : Image) (records : List Record) → apply_records image records ≡ Ok after → is_request records ≡ true → FitsBatch records

-- So do the records of every request.
abbrev pub RequestsFit : Type 0
RequestsFit = (options : Options) (basis : Basis) (image : Image) (place : ℤ) (request : Request) → FitsBatch (decide options image basis place request).records
