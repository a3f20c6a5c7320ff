use Rattle.kr_defs.proofs.OwnRecords.{own_records}
use Rattle.kr_defs.proofs.image_laws.own_records_make_images.Goals as goal

pub returns : goal.returns
returns c = own_records
