use Rattle.kr_record.proofs.RecordForms.{short, held, stands, cost}
use Rattle.law_round_trip.proofs.records_again.Goals as goal

pub returns : goal.returns
returns c = record { short = short; held = held; stands = λ r bytes is fit few. stands r (short r bytes is few) (held r bytes is fit); size = cost }
