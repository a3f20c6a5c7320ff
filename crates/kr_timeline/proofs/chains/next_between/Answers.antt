use Rattle.std.proofs.Common.{ap, ◌∙◌, slice_get, subst, sym}
use Rattle.kr_timeline.specs.Chains.{AreFalling, map_of}
use Rattle.kr_timeline.proofs.Nexts.{falls-between}
use Rattle.kr_timeline.proofs.chains.next_between.Goals as goal

pub loop-key-init : goal.loop-key-init
loop-key-init g c =
    let rest = c.into_iter-key-iterator.ensures.into_iter_gives ∙ c.range-key-items.ensures.between tt in
    record {
      first = ap (λ es. slice_get (map_of c.args.number es) 0) rest;
      falls = subst AreFalling (sym rest) (falls-between g.K.Ord.cmp c.args.chains.now.entries c.args.after.now c.args.end.now c.requires.falls);
    }
