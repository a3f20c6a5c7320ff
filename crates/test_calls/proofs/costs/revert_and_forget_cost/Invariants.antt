use Rattle.test_calls.proofs.costs.revert_and_forget_cost.Given as goal

abbrev pub ghosts-costs : goal.ghosts-costs
ghosts-costs g a = record { name = a.blank.name; parts = a.blank.parts }
