use Rattle.kr_snapshot.proofs.pieces.close.Given as goal

abbrev pub ghosts-keep : goal.ghosts-keep
ghosts-keep a = record { name = a.blank.name; parts = a.blank.parts }
