use Rattle.test_bench.proofs.partitions.print_store.Given as goal

abbrev pub ghosts-store_of : goal.ghosts-store_of
ghosts-store_of g a = record { name = a.blank.name; parts = a.blank.parts }
