use Rattle.kr_wire.proofs.ReadingLaws.{one_value}
use Rattle.kr_record.proofs.RecordLaws.{record_law, of_complete}
use Rattle.kr_record.proofs.reading.records.Goals as goal

pub returns : goal.returns
returns c = record { one = one_value record_law; read = λ r bytes is. of_complete bytes r is }
