use Rattle.std.proofs.Common.{[], ◌∷◌, refl}
use Rattle.std.proofs.lemmas.List.Elements.{recursion_from_All}
use Rattle.kr_snapshot.specs.inner.Writer.{IsLight}
use Rattle.kr_snapshot.proofs.Groups.{push_adds}
use Rattle.kr_snapshot.proofs.batch_writer.BatchWriter.push.Goals as goal

pub returns : goal.returns
returns c =
    let light = (recursion_from_All IsLight (c.args.record.now ∷ []) c.requires.may.light).0 in
    push_adds c.args.self.now c.make_room.new.self _ c.args.record.now light c.in_ok-make_room.ensures.room refl refl refl c.in_ok-put_numbered.ensures.ok c.requires.held c.in_ok-make_room.ensures.stands
