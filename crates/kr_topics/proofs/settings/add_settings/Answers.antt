use Rattle.kr_topics.proofs.TopicSettings.{setting_at}
use Rattle.kr_topics.proofs.settings.add_settings.Goals as goal

pub loop-setting-preserved : goal.loop-setting-preserved
loop-setting-preserved g c =
    setting_at c.args.seen.now.configs c.args.topic.now c.loop-setting.given.entries _ c.loop-setting.records _ c.args.settings.now c.loop-setting.setting-index c.setting-item.result _ c.loop-setting-test.true c.setting-item.is c.in_ok-add_setting.ensures.given c.in_ok-add_setting.ensures.records c.loop-setting.invariant
