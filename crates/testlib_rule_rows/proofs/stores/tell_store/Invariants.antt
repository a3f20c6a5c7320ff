use Rattle.testlib_rule_rows.proofs.stores.tell_store.Given as goal

abbrev pub ghosts-tell_all : goal.ghosts-tell_all
ghosts-tell_all a = record { name = a.blank.name; parts = a.blank.parts }
