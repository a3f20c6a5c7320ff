use Rattle.kr_wire.proofs.Apart.{is_written}
use Rattle.kr_layout.proofs.put.written_forms.Goals as goal

pub returns : goal.returns
returns g c = is_written g.T.Put.schema
