use Rattle.kr_stream.proofs.FrameLaws.{refused_none, unfinished_none}
use Rattle.kr_stream.proofs.laws.no_frame_is_passed_over.Goals as goal

pub returns-clause-refused : goal.returns-clause-refused
returns-clause-refused c = refused_none

pub returns-clause-unfinished : goal.returns-clause-unfinished
returns-clause-unfinished c = unfinished_none
