use Rattle.std.proofs.Common.{sym}
use Rattle.std.specs.BTreeMap.{is_at}
use Rattle.kr_timeline.specs.Chains.{Falls}
use Rattle.kr_timeline.proofs.Entries.{all-found}
use Rattle.kr_timeline.proofs.chains.repeat.Goals as goal

pub repeat-requires : goal.repeat-requires
repeat-requires g c = all-found (is_at (g.K.Ord.cmp c.args.key.now)) Falls c.in-Some.chain.now c.args.chains.now.entries (sym c.in-Some.ensures.value) c.requires
