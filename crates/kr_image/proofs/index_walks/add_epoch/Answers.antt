use Rattle.kr_image.proofs.index_walks.add_epoch.Goals as goal

pub returns-clause-lists : goal.returns-clause-lists
returns-clause-lists c = rw c.place_of.ensures at c.add_map.ensures.lists
