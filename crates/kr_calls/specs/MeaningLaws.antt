-- A law of the records that requests give (this project's own).
use Rattle.std.specs.Prelude.{ℤ}
use Rattle.kr_defs.specs.declared.options.Options.{Options}
use Rattle.kr_defs.specs.Heartbeats.{Heartbeats}
use Rattle.kr_defs.specs.Image.{Image}
use Rattle.kr_calls.specs.declared.calls.Request.{Request}
use Rattle.kr_calls.specs.Decide.{work_of}
use Rattle.kr_calls.specs.Deciding.{HaveMeanings}

-- Each record that a request gives has a meaning at its place, and the last one leaves the image of the decision.
abbrev pub RecordsHaveMeanings : Type 0
RecordsHaveMeanings =
    (options : Options) (time : ℤ) (heartbeats : Heartbeats) (image : Image) (place : ℤ) (request : Request) →
    HaveMeanings image (work_of options time heartbeats image place request).0
