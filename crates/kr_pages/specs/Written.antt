-- What is written for a request for a page, and for its reply: Kafka's response header version 1 without tagged fields, and the body.
use Rattle.std.specs.Prelude.{ℕ, ℤ, pos, List, [], ◌++◌, FitsSigned}
use Rattle.std.specs.Int.{w32}
use Rattle.kr_wire.specs.Laws.{IsPrimitive, IsShortList, IsWritten}
use Rattle.kr_wire.specs.Schema.{Fits, written}
use Rattle.kr_wire.specs.Spelling.{list, signed, tags}
use Rattle.kr_pages.specs.declared.describe.Describe.{Describe}
use Rattle.kr_pages.specs.declared.describe.Described.{Described}
use Rattle.kr_pages.specs.Messages.{IsDescribe, IsDescribedMessage, cursor, described_topic, topic_request}
use Rattle.kr_pages.specs.Nullable.{FitsOrNull, structure_or_null}
use Rattle.kr_pages.specs.Reading.{describe_at}

abbrev pub describe_bytes : Describe → List ℕ
describe_bytes d = list (written topic_request) d.names ++ (signed w32 d.limit ++ (structure_or_null (written cursor) d.cursor ++ tags []))

-- the numbers are in their ranges, the texts are UTF-8, and texts and lists are shorter than 2^31
abbrev pub DescribeFits : Describe → Type 0
DescribeFits d = IsShortList (Fits topic_request) d.names × FitsSigned w32 d.limit × FitsOrNull (Fits cursor) d.cursor

abbrev pub page_bytes : Described → List ℕ
page_bytes d = signed w32 (pos 0) ++ (list (written described_topic) d.topics ++ (structure_or_null (written cursor) d.next ++ tags []))

abbrev pub described_bytes : ℤ → Described → List ℕ
described_bytes correlation d = signed w32 correlation ++ (tags [] ++ page_bytes d)

abbrev pub PageFits : Described → Type 0
PageFits d = IsShortList (Fits described_topic) d.topics × FitsOrNull (Fits cursor) d.next

abbrev pub DescribedFits : ℤ → Described → Type 0
DescribedFits correlation d = FitsSigned w32 correlation × PageFits d

-- ---- laws

-- What is read stands for the request, what stands for one is read as it, and what is written for one reads back to it.
abbrev pub DescribesAreWritten : Type 0
DescribesAreWritten = IsPrimitive IsDescribe describe_at describe_bytes DescribeFits

-- What is written for a reply stands for it and is written for no other, whatever follows.
abbrev pub DescribedAreWritten : Type 0
DescribedAreWritten = IsWritten (λ (m : ℤ × Described). IsDescribedMessage m.0 m.1) (λ m. described_bytes m.0 m.1) (λ m. DescribedFits m.0 m.1)
