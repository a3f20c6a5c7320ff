use Rattle.kr_link.proofs.LinkMoves.{calls_are_moves}
use Rattle.kr_link.proofs.link_moves.calls_are_moves.Goals as goal

pub returns : goal.returns
returns c = calls_are_moves
