-- A law of the records that make an image (this project's own).
use Rattle.std.specs.Prelude.{◌≡◌, List, map, Ok}
use Rattle.kr_defs.specs.declared.record.Record.{Record}
use Rattle.kr_defs.specs.declared.record.Item.{Item}
use Rattle.kr_defs.specs.declared.record.Item.TheVariants as items
use Rattle.kr_defs.specs.Image.{Image, IsValid, empty}
use Rattle.kr_defs.specs.Log.{apply_all}
use Rattle.kr_defs.specs.Records.{records_of}

-- records as items of a log
abbrev pub as_items : List Record → List Item
as_items records = map (λ r. items.Record r) records

-- The records of a valid image, in their order, make it out of the empty image.
abbrev pub OwnRecordsMakeImages : Type 0
OwnRecordsMakeImages = (image : Image) → IsValid image → apply_all empty (as_items (records_of image)) ≡ Ok image
