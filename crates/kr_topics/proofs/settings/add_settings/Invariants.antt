use Rattle.std.proofs.Common.{◌++◌, drop}
use Rattle.kr_calls.specs.CreateTopics.{settings_records}
use Rattle.kr_topics.proofs.TopicSettings.{IsUnder}
use Rattle.kr_topics.proofs.settings.add_settings.Given as goal

abbrev pub invariant-loop-setting : goal.invariant-loop-setting
invariant-loop-setting g l =
    let base = l.seen.configs in
    IsUnder base l.topic l.given.entries l.records (drop l.setting-index l.settings) (l.fn.records ++ settings_records base l.topic l.settings)
