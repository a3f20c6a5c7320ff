use Rattle.test_bench.proofs.image.Written.new.Given as goal

abbrev pub ghosts-store_of : goal.ghosts-store_of
ghosts-store_of a = record { name = a.blank.name; parts = a.blank.parts }
