use Rattle.std.proofs.Common.{[], arith}
use Rattle.std.proofs.lemmas.List.Elements.{All-nil}
use Rattle.kr_defs.specs.Records.{records_of}
use Rattle.kr_snapshot.specs.inner.Writer.{IsLight}
use Rattle.kr_snapshot.proofs.SmallRecords.{may_begin, own_text}
use Rattle.kr_snapshot.proofs.writing.batches.Goals as goal

pub put_records-requires : goal.put_records-requires
put_records-requires g c = may_begin c.args.seen.now _ c.is_valid.ensures c.new-writer.ensures

pub finish-requires : goal.finish-requires
finish-requires g c =
    let own = own_text c.args.seen.now c.is_valid.ensures in
    record {
      done = records_of c.args.seen.now;
      stands = c.in_ok-put_records.ensures.stands [] c.new-writer.ensures (omega (arith, own));
      light = All-nil IsLight;
      little = omega (arith, own);
    }

pub returns-clause-bytes : goal.returns-clause-bytes
returns-clause-bytes g c =
    let own = own_text c.args.seen.now c.is_valid.ensures in
    c.finish.ensures.bytes (records_of c.args.seen.now) (c.in_ok-put_records.ensures.stands [] c.new-writer.ensures (omega (arith, own)))

pub returns-clause-count : goal.returns-clause-count
returns-clause-count g c =
    let own = own_text c.args.seen.now c.is_valid.ensures in
    c.finish.ensures.count (records_of c.args.seen.now) (c.in_ok-put_records.ensures.stands [] c.new-writer.ensures (omega (arith, own)))
