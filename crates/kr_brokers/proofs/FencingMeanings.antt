-- The records of a fencing have a meaning on the image that they are made of.
use Rattle.std.proofs.Common.{◌≡◌, List, Ok, refl, sym}
use Rattle.std.specs.Prelude.{IsOk}
use Rattle.kr_defs.specs.declared.record.Record.{Record}
use Rattle.kr_defs.specs.Image.{Image}
use Rattle.kr_calls.specs.Deciding.{apply_records}

pub have_meanings : (tip seen after : Image) (records made : List Record) → seen ≡ tip → records ≡ made → apply_records seen made ≡ Ok after → IsOk (apply_records tip records)
have_meanings tip seen after records made is are stands = rw (sym is, are, stands) refl
