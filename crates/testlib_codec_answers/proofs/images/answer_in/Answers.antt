use Rattle.std.proofs.Common.{arith, rules, w64}
use Rattle.std.specs.Prelude.{string_bytes, FitsSigned}
use Rattle.std.proofs.lemmas.Int.{to_z-of_z}
use Rattle.kr_snapshot.specs.Reading.{image_of}
use Rattle.testlib_codec_answers.proofs.ImageFaultWords.{told_fault}
use Rattle.testlib_codec_answers.proofs.images.answer_in.Goals as goal

pub image_in_words-requires : goal.image_in_words-requires
image_in_words-requires c =
    let fits : FitsSigned w64 c.in-Ok.offset = search rules in
    let stands = c.images.ensures.stands c.args.bytes.now c.in-Ok.offset c.in-Ok.store.tip (λ i. omega (arith, c.type_inv.bytes i)) c.in-Ok.ensures.0 in
    rw (to_z-of_z w64 c.in-Ok.offset fits) stands.natural

pub returns-in-Err : goal.returns-in-Err
returns-in-Err c =
    told_fault string_bytes c.first_byte-at.result c.in-Err.fault (image_of c.args.bytes.now) c.fault_text.result c.in-Err.ensures c.fault_text.ensures.words c.fault_text.ensures.no_memory
