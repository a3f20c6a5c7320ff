use Rattle.std.proofs.Common.{◌+◌}
use Rattle.kr_stream.proofs.Parts.{took_both, head_took}
use Rattle.kr_stream.proofs.Causes.{stopped_at_kind, stopped_at_head}
use Rattle.kr_stream.proofs.head.read_head.Goals as goal

pub returns-in-Err-read_number-clause-stopped : goal.returns-in-Err-read_number-clause-stopped
returns-in-Err-read_number-clause-stopped g c =
    stopped_at_kind c.args.opened _ _ _ c.args.at c.in-Ok.size _ _ _ c.in-Ok.ensures.size c.in-Ok.ensures.some c.read_size.ensures.later c.in-Err-read_number.fault c.in-Err-read_number.ensures.short

pub returns-in-None-clause-stopped : goal.returns-in-None-clause-stopped
returns-in-None-clause-stopped g c =
    stopped_at_head c.args.opened _ _ c.args.at c.in-Ok.size c.in-Ok-read_number.number _ _
    (took_both _ _ _ c.args.at (c.args.at + 4) (c.args.at + 5) c.in-Ok.ensures.size c.in-Ok-read_number.ensures.number) c.in-Ok.ensures.some c.in-None.ensures.none

pub returns-in-Some-clause-head : goal.returns-in-Some-clause-head
returns-in-Some-clause-head g c =
    head_took _ _ _ c.args.at c.in-Ok.size c.in-Ok-read_number.number c.in-Some.head.len c.in-Some.head.kind c.in-Ok.ensures.size c.in-Ok-read_number.ensures.number c.in-Some.ensures.len c.in-Some.ensures.kind
