use Rattle.kr_partitions.proofs.request_keys.is_among.Goals as goal

pub returns-in-Some : goal.returns-in-Some
returns-in-Some c = rw c.in-Some.is (rw c.key_of.ensures at c.contains.ensures)
