use Rattle.std.proofs.Common.{◌∙◌, ap}
use Rattle.std.specs.Prelude.{bytes_eq, find}
use Rattle.std.specs.Option.{option_map}
use Rattle.kr_calls.specs.IncrementalAlterConfigs.{Values}
use Rattle.kr_configs.proofs.OperationKeys.{looked_up}
use Rattle.kr_configs.proofs.values.Values.get.Goals as goal

pub returns : goal.returns
returns c =
    c.get.ensures.value ∙ (looked_up c.args.key.now c.self.inside.named.entries ∙ ap (λ (vs : Values). option_map (λ v. v.1) (find (λ v. bytes_eq v.0 c.args.key.now) vs)) c.self.view_is)
