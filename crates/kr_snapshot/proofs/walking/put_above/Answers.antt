use Rattle.std.proofs.Common.{[], ◌∷◌, length, ap, arith, refl}
use Rattle.std.specs.Prelude.{map}
use Rattle.kr_snapshot.specs.inner.EntryRecords.{partition_record}
use Rattle.kr_snapshot.proofs.WriterRecords.{amid_may, amid_more, amid_end}
use Rattle.kr_snapshot.proofs.walking.put_above.Goals as goal

pub push-requires-clause-may : goal.push-requires-clause-may
push-requires-clause-may g c =
    rw c.in_ok-set_partition.ensures.of
    (amid_may _ _ _ _ c.loop-key.invariant (partition_record (c.in-Some.key.now, c.in-Some.state.now) ∷ []) _ (ap (map partition_record) c.in-Some.ensures.next) c.requires)

pub loop-key-preserved : goal.loop-key-preserved
loop-key-preserved g c =
    amid_more _ _ _ _ c.loop-key.invariant _ (partition_record (c.in-Some.key.now, c.in-Some.state.now) ∷ []) _ (ap (map partition_record) c.in-Some.ensures.next) (rw c.in_ok-set_partition.ensures.of at c.in_ok-push.ensures)

pub loop-key-smaller : goal.loop-key-smaller
loop-key-smaller g c = let n = ap length c.in-Some.ensures.next in omega (arith, n)

pub returns : goal.returns
returns g c = amid_end _ _ _ _ c.loop-key.invariant (ap (map partition_record) (c.in_default.ensures.none refl))
