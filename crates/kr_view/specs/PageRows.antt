-- The rows of an image behind a key, topic by topic. This project's own.
use Rattle.std.specs.Prelude.{List, flat_map, Option, Some, None}
use Rattle.kr_defs.specs.Image.{Image}
use Rattle.kr_view.specs.declared.scans.PageRow.{PageRow}
use Rattle.kr_view.specs.declared.scans.ScanKey.{ScanKey}
use Rattle.kr_view.specs.Listings.{listed, listed_behind}
use Rattle.kr_view.specs.Scans.{no_heads, page_row}

abbrev pub rows_behind : Image → Option ScanKey → List PageRow
rows_behind image None = flat_map (listed no_heads page_row image.partitions) image.topics
rows_behind image (Some key) = listed_behind no_heads page_row image key.topic key.index
