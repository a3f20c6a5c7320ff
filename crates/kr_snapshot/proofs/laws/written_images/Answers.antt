use Rattle.kr_snapshot.proofs.Texts.{text_stands, text_again}
use Rattle.kr_snapshot.proofs.laws.written_images.Goals as goal

pub returns-clause-stands : goal.returns-clause-stands
returns-clause-stands c = text_stands

pub returns-clause-again : goal.returns-clause-again
returns-clause-again c = text_again
