use Rattle.std.proofs.Common.{◌∙◌, ap, arith, length, refl, sym}
use Rattle.kr_defs.specs.declared.record.ConfigKey.{ConfigKey}
use Rattle.kr_defs.specs.Apply.{is_setting_of}
use Rattle.kr_defs.specs.Map.{config_order}
use Rattle.kr_defs.proofs.ImageParts.{config_total}
use Rattle.kr_defs.proofs.Maps.{IsMap-remove}
use Rattle.kr_defs.proofs.EntryCounts.{length-gone, text_gone}
use Rattle.kr_image.proofs.Owners.{setting_same, setting_self, settings_between, settings_forward, settings_within}
use Rattle.kr_image.proofs.Removal.{count-gone, goes, none_between, others-gone}
use Rattle.kr_image.proofs.settings.remove_above_lowest.Goals as goal

pub loop-end-init : goal.loop-end-init
loop-end-init c = record {
  others = refl;
  ordered = c.requires.ordered;
  little = c.requires.little;
  end = c.in_ok-end.ensures;
  own = rw c.in_ok-after.ensures (setting_self c.args.name.now);
  forward = rw (c.in_ok-after.ensures, c.in_ok-end.ensures) (settings_forward c.args.name.now);
  between = rw (c.in_ok-after.ensures, c.in_ok-end.ensures) (settings_within c.args.name.now c.args.configs.now.maps.present c.requires.apart);
  counted = c.requires.counted;
  made = omega arith;
  kept = refl;
}

pub loop-end-smaller : goal.loop-end-smaller
loop-end-smaller c =
    let i = c.loop-end.invariant in
    let step = goes config_order (is_setting_of c.args.name.now) config_total c.loop-end.after c.in_ok-end.end c.loop-end.configs.maps.present c.in-Some.key i.ordered i.between (rw c.in-Some.is at c.in_ok-key.ensures) in
    let gone = length-gone config_order c.loop-end.configs.maps.present c.in-Some.key step.there in
    let less = ap length c.in_ok-unset_text.ensures.present in
    omega (arith, gone, less)

pub loop-end-preserved : goal.loop-end-preserved
loop-end-preserved c =
    let i = c.loop-end.invariant in
    let es = c.loop-end.configs.maps.present in
    let key = c.in-Some.key in
    let own = is_setting_of c.args.name.now in
    let step = goes config_order own config_total c.loop-end.after c.in_ok-end.end es key i.ordered i.between (rw c.in-Some.is at c.in_ok-key.ensures) in
    let theirs = settings_between c.args.name.now c.loop-end.after key i.own step.above (rw i.end at step.below) in
    let same = λ (x : ConfigKey). setting_same c.args.name.now key x theirs in
    let count = count-gone config_order own key same es step.there in
    let text = text_gone es key in
    let is = c.in_ok-unset_text.ensures.present in
    record {
      others = rw is (others-gone config_order own key same es ∙ i.others);
      ordered = rw is (IsMap-remove config_total es key i.ordered);
      little = rw is (let little = i.little in omega (arith, text, little));
      end = i.end;
      own = theirs;
      forward = step.below;
      between = rw is step.rest;
      counted = c.in_ok-unset_text.ensures.counted;
      made = rw is (let more = c.in_ok-unset_text.ensures.made in let so_far = i.made in omega (arith, count, more, so_far));
      kept = c.unset_text.ensures.kept ∙ i.kept;
    }

pub returns-clause-present : goal.returns-clause-present
returns-clause-present c =
    sym (none_between config_order (is_setting_of c.args.name.now) config_total c.loop-end.after c.in_ok-end.end c.loop-end.configs.maps.present c.loop-end.invariant.between (rw c.in_default.is at c.in_ok-key.ensures)) ∙ c.loop-end.invariant.others
