use Rattle.kr_layout.proofs.Fields.{taken}
use Rattle.kr_layout.proofs.reader.Reader.field.Goals as goal

pub returns : goal.returns
returns g c = rw (← c.self.view_is) (taken c.args.last c.self.inside.bytes.now c.self.inside.at _ c.in_ok-tag.place c.in_ok-tag.tag.end c.in_ok-tag.ensures.within.0 c.in_ok-tag.ensures.read)
