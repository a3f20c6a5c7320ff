use Rattle.std.specs.Prelude.{IsSome}
use Rattle.kr_store.specs.Images.{Images, last_kept}
use Rattle.kr_store.specs.ItemAnswers.{FallsBack}
use Rattle.std.proofs.Common.{sym, subst}
use Rattle.kr_image.specs.KeptImages.{images_of}
use Rattle.kr_image.proofs.transactions.mark_or_go_back.Goals as goal

pub go_back-requires-clause-some : goal.go_back-requires-clause-some
go_back-requires-clause-some g c = subst (λ (i : Images). IsSome (last_kept i)) (sym c.in-Err.ensures.err) c.requires.some

pub returns-in-Err-clause-err : goal.returns-in-Err-clause-err
returns-in-Err-clause-err g c = subst (λ (i : Images). FallsBack i (images_of c.go_back.new.timelines c.mark.new.kept.items c.go_back.new.begun)) c.in-Err.ensures.err c.go_back.ensures.back
