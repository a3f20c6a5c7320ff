use Rattle.std.proofs.Common.{◌∙◌, sym}
use Rattle.kr_model.specs.Entries.{item_entries}
use Rattle.kr_engine.proofs.BatchSteps.{batch_above, batch_forgets, items_refused}
use Rattle.kr_engine.proofs.engine.Engine.take_items.Goals as goal

pub move_to-requires-clause-above : goal.move_to-requires-clause-above
move_to-requires-clause-above g c =
    batch_above c.args.self.now c.apply_items.new.self c.add_items.new.self c.args.items c.args.end.now (item_entries c.apply_items.new.self.tip c.args.items)
    c.requires.sound c.requires.standby (c.in_ok-ill.ensures.all c.in-None.is) c.requires.some c.requires.end c.in_ok-add_items-in-None.ensures.added

pub move_to-requires-clause-begun : goal.move_to-requires-clause-begun
move_to-requires-clause-begun g c =
    batch_forgets c.args.self.now c.apply_items.new.self c.add_items.new.self c.args.items c.args.end.now (item_entries c.apply_items.new.self.tip c.args.items)
    c.requires.sound c.requires.standby (c.in_ok-ill.ensures.all c.in-None.is) c.requires.some c.requires.end c.in_ok-add_items-in-None.ensures.added

pub returns-in-Some-clause-settled : goal.returns-in-Some-clause-settled
returns-in-Some-clause-settled g c =
    items_refused c.args.self.now c.apply_items.new.self c.refuse_items.new.self c.args.end.now c.args.items c.in-Some.ill c.requires.ready c.requires.valid c.apply_items.ensures.longer c.apply_items.ensures.same
    (sym c.in-Some.is ∙ c.in_ok-ill.ensures.found) c.refuse_items.ensures.refused
