use Rattle.test_calls.proofs.contacts.contacts_of_two_brokers.Given as goal

abbrev pub ghosts-three_beats : goal.ghosts-three_beats
ghosts-three_beats g a = record { name = a.blank.name; parts = a.blank.parts }
