use Rattle.kr_wire.proofs.reading.+read_groups.Given as goal

-- proposed from what the function passes where it calls itself
abbrev pub decreases-read_groups : goal.decreases-read_groups
decreases-read_groups l = l.room
