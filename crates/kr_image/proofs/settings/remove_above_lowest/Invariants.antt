use Rattle.std.proofs.Common.{◌≡◌, ◌≤◌, ◌+◌, length, filter, not, true}
use Rattle.std.specs.Prelude.{count_by}
use Rattle.std.specs.declared.cmp.Ordering.TheVariants.{Less}
use Rattle.kr_defs.specs.declared.limits.TheConstants.{MOST_CONFIG_TEXT}
use Rattle.kr_defs.specs.Apply.{is_setting_of}
use Rattle.kr_defs.specs.Image.{config_text}
use Rattle.kr_defs.specs.Map.{IsMap, config_order}
use Rattle.kr_image.specs.inner.TopicKeys.{settings_end}
use Rattle.kr_image.proofs.Removal.{AreBetween}
use Rattle.kr_image.proofs.settings.remove_above_lowest.Given as goal

abbrev pub invariant-loop-end : goal.invariant-loop-end
invariant-loop-end l = record {
  others : filter (λ e. not (is_setting_of l.name e.0)) l.configs.maps.present ≡ filter (λ e. not (is_setting_of l.name e.0)) l.initial.configs.maps.present;
  ordered : IsMap config_order l.configs.maps.present;
  little : config_text l.configs.maps.present ≤ MOST_CONFIG_TEXT;
  end : l.end ≡ settings_end l.name;
  own : is_setting_of l.name l.after ≡ true;
  forward : config_order l.after l.end ≡ Less;
  between : AreBetween config_order (is_setting_of l.name) l.after l.end l.configs.maps.present;
  counted : l.bytes ≡ config_text l.configs.maps.present;
  made : l.configs.maps.made + count_by (λ e. is_setting_of l.name e.0) l.configs.maps.present ≤ l.initial.configs.maps.made + count_by (λ e. is_setting_of l.name e.0) l.initial.configs.maps.present;
  kept : l.configs.maps.kept ≡ l.initial.configs.maps.kept;
}

abbrev pub decreases-loop-end : goal.decreases-loop-end
decreases-loop-end l = length l.configs.maps.present
