use Rattle.kr_leaders.proofs.call.balance_input.Given as goal

abbrev pub ghosts-balanced_text : goal.ghosts-balanced_text
ghosts-balanced_text g a = record { name = a.blank.name; parts = a.blank.parts }
