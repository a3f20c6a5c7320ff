use Rattle.kr_image.proofs.MapWalks.{all_listed}
use Rattle.kr_image.proofs.index_walks.index_of_maps.Goals as goal

pub returns : goal.returns
returns c = all_listed c.add_map.new.index c.add_kept.new.index c.args.timeline.now.maps c.in_ok-add_map.ensures.lists c.add_kept.ensures.grows c.in_ok-add_kept.ensures.lists
