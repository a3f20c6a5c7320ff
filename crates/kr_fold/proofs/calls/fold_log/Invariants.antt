use Rattle.kr_fold.proofs.calls.fold_log.Given as goal

abbrev pub ghosts-read_log : goal.ghosts-read_log
ghosts-read_log g a = record { name = a.blank.name; parts = a.blank.parts }
