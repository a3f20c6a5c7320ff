use Rattle.kr_snapshot.proofs.WholeImages.{image_complete, image_one}
use Rattle.kr_snapshot.proofs.laws.images.Goals as goal

pub returns-clause-read : goal.returns-clause-read
returns-clause-read c = image_complete

pub returns-clause-one : goal.returns-clause-one
returns-clause-one c = image_one
