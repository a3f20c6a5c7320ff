use Rattle.kr_batch.proofs.Batches.{found, one_value}
use Rattle.kr_batch.proofs.decoding.decode.Goals as goal

pub returns-clause-found : goal.returns-clause-found
returns-clause-found c = found _ _ c.type_inv.bytes c.batch.ensures

pub returns-clause-one : goal.returns-clause-one
returns-clause-one c = λ a b is other. one_value c.args.bytes.now a b is other
