use Rattle.std.proofs.Common.{sym, ◌∙◌}
use Rattle.kr_view.proofs.Loaded.{from_start, loaded, not_loaded}
use Rattle.kr_view.proofs.standing.Standing.store_loaded.Goals as goal

pub store_of-requires : goal.store_of-requires
store_of-requires g c = from_start c.args.self.now.at c.args.offset.now c.may_load.ensures.place (sym c.may_load.ensures.value ∙ c.if-not-may_load.false)

pub returns-then-not-may_load : goal.returns-then-not-may_load
returns-then-not-may_load g c = not_loaded c.args.self.now.at c.args.offset.now c.args.records.now (sym c.may_load.ensures.value ∙ c.if-not-may_load.true)

pub returns : goal.returns
returns g c = loaded c.args.self.now.at c.args.offset.now c.args.records.now c.in_ok-made.made c.may_load.ensures.place (sym c.may_load.ensures.value ∙ c.if-not-may_load.false) c.in_ok-made.ensures
