use Rattle.std.proofs.Common.{arith}
use Rattle.std.specs.Prelude.{length, string_bytes}
use Rattle.kr_batch.specs.Reading.{batch_of}
use Rattle.testlib_codec_answers.proofs.FaultWords.{told_batch}
use Rattle.testlib_codec_answers.proofs.batches.batch_answer.Goals as goal

pub returns-in-Err : goal.returns-in-Err
returns-in-Err c = told_batch string_bytes (length c.args.bytes.now) c.in-Err.fault (batch_of c.args.bytes.now) c.batch_fault.result c.in-Err.ensures.exact c.batch_fault.ensures.words c.batch_fault.ensures.no_memory

pub batch_words-requires : goal.batch_words-requires
batch_words-requires c few some = c.batches_again.ensures.regular c.in-Ok.batch c.args.bytes.now c.in-Ok.ensures.found (λ i. omega (arith, c.type_inv.bytes i)) few some
