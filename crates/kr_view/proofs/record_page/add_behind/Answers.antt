use Rattle.kr_view.proofs.Filling.{behind_others, few_taken}
use Rattle.kr_view.proofs.record_page.add_behind.Goals as goal

pub add_settings-requires : goal.add_settings-requires
add_settings-requires g c = few_taken _ _ _ c.in_ok-list_behind.ensures

pub returns : goal.returns
returns g c = behind_others _ _ _ _ _ _ c.in_ok-list_behind.ensures c.in_ok-add_settings.ensures
