use Rattle.test_calls.proofs.timelines.a_timeline_of_texts.Given as goal

abbrev pub ghosts-texts : goal.ghosts-texts
ghosts-texts g a = record { name = a.blank.name; parts = a.blank.parts }
