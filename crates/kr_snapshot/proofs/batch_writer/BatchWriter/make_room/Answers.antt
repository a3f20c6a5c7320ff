use Rattle.std.proofs.Common.{◌≡◌, arith}
use Rattle.std.proofs.lemmas.Result.{on_ok_weaker}
use Rattle.kr_defs.specs.declared.limits.TheConstants.{IMAGE_BATCH}
use Rattle.kr_snapshot.proofs.Groups.{put_full}
use Rattle.kr_snapshot.proofs.batch_writer.BatchWriter.make_room.Goals as goal

pub returns-clause-room : goal.returns-clause-room
returns-clause-room c = on_ok_weaker c.put_group.result (λ puts. (let none = puts.count in omega (arith, none))) c.put_group.ensures

pub returns-clause-stands : goal.returns-clause-stands
returns-clause-stands c = λ done s.
    let full : c.args.self.now.count ≡ IMAGE_BATCH = omega (arith, s.counted, s.few) in
    on_ok_weaker c.put_group.result (λ puts. put_full _ _ puts done s full) c.put_group.ensures
