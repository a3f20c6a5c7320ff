use Rattle.kr_snapshot.proofs.records.read_batch.Given as goal

abbrev pub ghosts-read_items : goal.ghosts-read_items
ghosts-read_items a = record { name = a.blank.name; parts = a.blank.parts }
