use Rattle.std.proofs.Common.{◌∙◌, ap, rules}
use Rattle.std.specs.Int.{w64}
use Rattle.std.specs.Ordering.{int_cmp}
use Rattle.std.proofs.lemmas.Int.{to_z-of_z}
use mir.Val.{SFits}
use Rattle.kr_defs.specs.Map.{get}
use Rattle.kr_topics.proofs.assigning.at_index.Goals as goal

pub returns : goal.returns
returns c =
    let fits : SFits w64 c.key_of.result = search rules in
    c.at_key.ensures ∙ ap (get int_cmp c.args.those.now.entries) (to_z-of_z w64 c.key_of.result fits ∙ c.key_of.ensures)
