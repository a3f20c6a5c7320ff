-- The records that have a written form, and what every record that a program holds meets.
use Rattle.kr_defs.specs.declared.broker.Endpoint.{Endpoint}
use Rattle.kr_defs.specs.declared.broker.Range.{Range}
use Rattle.kr_defs.specs.declared.record.Record.{Record}
use Rattle.kr_record.specs.Limits.{of_schema, of_record_layout}
pub use Rattle.kr_record.specs.Limits.{FitsField, IsShort}
use Rattle.kr_record.specs.Records.{chosen, endpoint_layout, range_layout}

abbrev pub IsShortEndpoint : Endpoint → Type 0
IsShortEndpoint = (of_schema endpoint_layout).short

abbrev pub IsShortRange : Range → Type 0
IsShortRange = (of_schema range_layout).short

abbrev pub IsEncodable : Record → Type 0
IsEncodable r = (of_record_layout (chosen r).kind.layout).short (chosen r).parts

abbrev pub IsHeld : Record → Type 0
IsHeld r = (of_record_layout (chosen r).kind.layout).held (chosen r).parts
