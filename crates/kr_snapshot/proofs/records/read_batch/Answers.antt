use Rattle.std.proofs.Common.{◌≡◌, length, arith}
use Rattle.kr_snapshot.proofs.records.read_batch.Goals as goal

pub overflow_add-found : goal.overflow_add-found
overflow_add-found c =
    let long : c.len.result ≡ length c.args.batch.now.items = c.len.ensures in
    omega (arith, long, c.requires.few, c.requires.room.within, c.requires.room.fits)
