use Rattle.std.proofs.Common.{◌+◌, [], length, arith}
use Rattle.kr_fold.proofs.Pieces.{grew_more, is_full, is_ended}
use Rattle.kr_fold.proofs.BatchReading.{none_sized, none_cut, none_short, none_shorter, grown_some, took_all, sized_on, unfinished_on}
use Rattle.kr_fold.proofs.batch.read_batch.Goals as goal

pub returns-in-Err-read_size-clause-none : goal.returns-in-Err-read_size-clause-none
returns-in-Err-read_size-clause-none g c =
    let first = rw c.new-bytes.ensures.items at c.in-Ok-Full.ensures.grew in
    let twelve = is_full c.in-Ok-Full.field-0 _ 12 (length c.fill.new.bytes.items) c.in-Ok-Full.field-0-is c.in-Ok-Full.ensures.filled in
    none_sized _ _ c.fill.new.bytes.items first 0 0 c.args.at _ c.in-Ok-Full.ensures.within twelve (rw c.as_slice.ensures.value at c.in-Err-read_size.ensures.read)

pub returns-in-Ok-Full-fill-clause-batch : goal.returns-in-Ok-Full-fill-clause-batch
returns-in-Ok-Full-fill-clause-batch g c =
    let first = rw c.new-bytes.ensures.items at c.in-Ok-Full.ensures.grew in
    let second = c.in-Ok-Full-fill.ensures.grew in
    let told = rw c.as_slice.ensures.value at c.in-Ok.ensures.read in
    let twelve = is_full c.in-Ok-Full.field-0 _ 12 (length c.fill.new.bytes.items) c.in-Ok-Full.field-0-is c.in-Ok-Full.ensures.filled in
    let whole = is_full c.in-Ok-Full-fill.field-0 _ (12 + c.in-Ok.size) (length c.fill-2.new.bytes.items) c.in-Ok-Full-fill.field-0-is c.in-Ok-Full-fill.ensures.filled in
    record {
      took = took_all _ _ _ (grew_more _ _ _ [] _ _ first second);
      sized = sized_on _ _ _ _ c.in-Ok.size second twelve told (omega (arith, whole));
      within = c.in-Ok-Full-fill.ensures.within;
    }

pub returns-in-Ok-Ended-fill-clause-none : goal.returns-in-Ok-Ended-fill-clause-none
returns-in-Ok-Ended-fill-clause-none g c =
    let first = rw c.new-bytes.ensures.items at c.in-Ok-Full.ensures.grew in
    let second = c.in-Ok-Ended-fill.ensures.grew in
    let told = rw c.as_slice.ensures.value at c.in-Ok.ensures.read in
    let twelve = is_full c.in-Ok-Full.field-0 _ 12 (length c.fill.new.bytes.items) c.in-Ok-Full.field-0-is c.in-Ok-Full.ensures.filled in
    let ended = is_ended c.in-Ok-Ended-fill.field-0 _ (12 + c.in-Ok.size) (length c.fill-2.new.bytes.items) c.in-Ok-Ended-fill.field-0-is c.in-Ok-Ended-fill.ensures.filled in
    none_cut _ _ c.fill-2.new.bytes.items (grew_more _ _ _ [] _ _ first second) 0 0 c.args.at c.in-Ok-Ended-fill.ensures.within
    (grown_some _ _ _ _ second (omega (arith, twelve))) (unfinished_on _ _ _ _ c.in-Ok.size second twelve told ended.0) ended.1

pub returns-in-Err-fill-clause-none : goal.returns-in-Err-fill-clause-none
returns-in-Err-fill-clause-none g c =
    let first = rw c.new-bytes.ensures.items at c.in-Ok-Full.ensures.grew in
    let told = rw c.as_slice.ensures.value at c.in-Ok.ensures.read in
    let twelve = is_full c.in-Ok-Full.field-0 _ 12 (length c.fill.new.bytes.items) c.in-Ok-Full.field-0-is c.in-Ok-Full.ensures.filled in
    let later = c.in-Ok-Full.ensures.later in
    none_shorter _ _ _ _ _ _ c.args.at c.in-Ok.size _ c.fill-2.new.bytes.items first twelve told c.in-Err-fill.fault later c.in-Err-fill.ensures.fault

pub returns-in-Err-clause-none : goal.returns-in-Err-clause-none
returns-in-Err-clause-none g c = none_short _ _ _ _ c.args.at c.new-bytes.result.items c.fill.new.bytes.items c.new-bytes.ensures.items c.in-Err.fault c.in-Err.ensures.fault
