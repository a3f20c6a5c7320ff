use Rattle.kr_nodes.proofs.cluster.Cluster.step.Given as goal

abbrev pub ghosts-make : goal.ghosts-make
ghosts-make a = record { name = a.blank.name; parts = a.blank.parts }
