use Rattle.std.proofs.Common.{sym, ap, ◌∙◌, rules}
use Rattle.std.specs.Map.{remove_entry}
use Rattle.std.specs.BTreeMap.{is_at}
use Rattle.kr_timeline.specs.Chains.{Falls}
use Rattle.kr_timeline.proofs.Entries.{all-found, others_same}
use Rattle.kr_timeline.proofs.chains.trim_chain.Goals as goal

pub trim-requires : goal.trim-requires
trim-requires g c = all-found (is_at (g.K.Ord.cmp c.args.key.now)) Falls c.in-Some.chain.now c.args.chains.now.entries (sym c.in-Some.ensures.value) c.requires

pub returns-clause-others : goal.returns-clause-others
returns-clause-others g c = ap (remove_entry (is_at (g.K.Ord.cmp c.args.key.now))) (search rules) ∙ others_same (is_at (g.K.Ord.cmp c.args.key.now)) c.trim.new.self c.args.chains.now.entries
