use Rattle.kr_session_loop.proofs.HandedOn.{advanced}
use Rattle.kr_session_loop.proofs.ahead.Ahead.advance.Goals as goal

pub returns : goal.returns
returns c = advanced c.self.inside.room.items c.self.inside.start c.self.inside.end c.args.count c.args.self.now c.self.view_is c.requires
