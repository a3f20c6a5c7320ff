use Rattle.kr_timeline.proofs.Restores.{falling, rewritten, undone}
use Rattle.kr_timeline.proofs.restoration.rewrite.Goals as goal

pub cut_keys-requires : goal.cut_keys-requires
cut_keys-requires g c = falling g.met.K.Ord.total c.args.from c.args.number c.args.keys.now.items c.args.chains.now.entries c.len.ensures.ordered c.requires.below c.requires.some c.repeat_keys.new.chains.entries c.in-Err.ensures.err c.requires.falls

pub returns-in-Ok-clause-ok : goal.returns-in-Ok-clause-ok
returns-in-Ok-clause-ok g c = rewritten g.met.K.Ord.total c.args.from c.args.number c.args.keys.now.items c.args.chains.now.entries c.len.ensures.ordered c.requires.below c.requires.some c.repeat_keys.new.chains.entries c.lower_keys.new.chains.entries c.in-Ok.ensures.ok c.lower_keys.ensures

pub returns-in-Err-clause-err : goal.returns-in-Err-clause-err
returns-in-Err-clause-err g c = undone g.met.K.Ord.total c.args.from c.args.number c.args.keys.now.items c.args.chains.now.entries c.len.ensures.ordered c.requires.below c.requires.some c.repeat_keys.new.chains.entries c.cut_keys.new.chains.entries c.in-Err.ensures.err c.cut_keys.ensures
