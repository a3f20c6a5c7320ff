use Rattle.kr_view.proofs.Filling.{behind_others, few_taken}
use Rattle.kr_view.proofs.listing.list_behind.Goals as goal

pub list_topics-requires : goal.list_topics-requires
list_topics-requires g c = few_taken _ _ _ c.in_ok-list_rest.ensures

pub returns : goal.returns
returns g c = behind_others _ _ _ _ _ _ c.in_ok-list_rest.ensures c.in_ok-list_topics.ensures
