use Rattle.std.proofs.Common.{◌∙◌}
use Rattle.kr_partitions.proofs.ReportedMembers.{bad_members}
use Rattle.kr_partitions.proofs.members.are_bad_members.Goals as goal

pub returns : goal.returns
returns c = c.are_no_members.ensures ∙ bad_members c.args.partition.now c.args.members.now
