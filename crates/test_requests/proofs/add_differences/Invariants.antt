use Rattle.test_requests.proofs.add_differences.Given as goal

abbrev pub ghosts-counted_row : goal.ghosts-counted_row
ghosts-counted_row a = record { name = a.blank.name; parts = a.blank.parts }
