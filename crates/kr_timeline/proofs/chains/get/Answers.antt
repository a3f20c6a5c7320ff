use Rattle.std.proofs.Common.{sym, ◌∙◌}
use Rattle.std.specs.BTreeMap.{is_at}
use Rattle.kr_timeline.specs.Chains.{Falls}
use Rattle.kr_timeline.proofs.Entries.{all-found}
use Rattle.kr_timeline.proofs.Standing.{get-standing, get-nowhere}
use Rattle.kr_timeline.proofs.chains.get.Goals as goal

pub at-requires : goal.at-requires
at-requires g c = all-found (is_at (g.K.Ord.cmp c.args.key.now)) Falls c.in-Some.chain.now c.args.chains.now.entries (sym c.in-Some.ensures.value) c.requires

pub returns-in-Some : goal.returns-in-Some
returns-in-Some g c = record { value = c.at.ensures ∙ sym (get-standing g.met.K.Ord.total c.args.key.now c.args.number c.in-Some.chain.now c.args.chains.now.entries c.len.ensures.ordered (sym c.in-Some.ensures.value)) }

pub returns-in-None : goal.returns-in-None
returns-in-None g c = record { value = sym (get-nowhere _ c.args.number c.args.chains.now.entries (sym c.in-None.ensures.value)) }
