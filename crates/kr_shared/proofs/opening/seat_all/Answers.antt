use Rattle.std.proofs.Common.{◌≡◌, ◌∙◌, [], sym, subst, ap, refl}
use Rattle.kr_model.specs.World.{start}
use Rattle.kr_shared.specs.Standing.{Standing}
use Rattle.kr_shared.specs.Turns.{Bench}
use Rattle.kr_shared.specs.Works.{DeskView}
use Rattle.kr_shared.proofs.Starts.{kept_shelf, opened_for, opened_rests, opened_stands, settled_is}
use Rattle.kr_shared.proofs.opening.seat_all.Goals as goal

pub new-requires-clause-stands : goal.new-requires-clause-stands
new-requires-clause-stands g c =
    opened_for c.args.options.now c.new-desk.result c.args.publisher c.args.parts.engine c.new-desk.ensures c.requires.publisher c.requires.engine.0 c.requires.engine.1 c.requires.engine.2

pub new-requires-clause-rests : goal.new-requires-clause-rests
new-requires-clause-rests g c =
    opened_rests c.args.options.now c.new-desk.result c.args.publisher c.args.parts.engine c.new-desk.ensures c.requires.publisher c.requires.engine.0 c.requires.engine.1 c.requires.engine.2

pub returns-in-Ok-clause-ok : goal.returns-in-Ok-clause-ok
returns-in-Ok-clause-ok g c =
    let stands = opened_stands c.args.options.now c.new-desk.result c.args.publisher c.args.parts.engine c.new-desk.ensures c.requires.publisher c.requires.engine.0 c.requires.engine.1 c.requires.engine.2 in
    let settles = settled_is c.args.options.now c.new-desk.result c.args.publisher c.args.parts.engine c.new-desk.ensures c.requires.publisher c.requires.engine.0 c.requires.engine.1 c.requires.engine.2 in
    let shelf = kept_shelf c.args.options.now c.new-desk.result c.args.publisher c.args.parts.engine c.new-desk.ensures c.requires.publisher c.requires.engine.0 c.requires.engine.1 c.requires.engine.2 in
    let is = c.new.ensures in record {
      knows = ap (λ (b : Bench). b.knows) is ∙ c.requires.pass.1;
      stands = subst (λ (d : DeskView). Standing d start []) (sym (ap (λ (b : Bench). b.work) is)) stands;
      shelf = ap (λ (b : Bench). b.work.shelf) is ∙ ap (λ (d : DeskView). d.shelf) settles;
      shown = ap (λ (b : Bench). b.shown) is ∙ ap (λ (h : Rattle.kr_view.specs.Shelves.Shelf). h.list) shelf;
      stays = ap (λ (b : Bench). b.stays) is;
      events = ap (λ (b : Bench). b.events) is;
      refusal = ap (λ (b : Bench). b.refusal) is;
      stopped = ap (λ (b : Bench). b.stopped) is;
      late = ap (λ (b : Bench). b.late) is;
      nothing = c.requires.link;
      many = c.in-Ok.ensures.0;
      seated = c.in-Ok.ensures.1;
    }
