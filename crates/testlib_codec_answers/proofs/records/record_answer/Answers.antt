use Rattle.std.specs.Prelude.{length, string_bytes}
use Rattle.kr_record.specs.Reading.{record_of}
use Rattle.testlib_codec_answers.proofs.FaultWords.{told_record}
use Rattle.testlib_codec_answers.proofs.records.record_answer.Goals as goal

pub returns-in-Err : goal.returns-in-Err
returns-in-Err c = told_record string_bytes (length c.args.bytes.now) c.in-Err.fault (record_of c.args.bytes.now) c.record_fault.result c.in-Err.ensures.exact c.record_fault.ensures.words c.record_fault.ensures.no_memory
