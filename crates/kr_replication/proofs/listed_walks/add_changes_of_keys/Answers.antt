use Rattle.std.proofs.Common.{◌≡◌, ◌∙◌, ◌++◌, List, ap, subst}
use Rattle.std.specs.Prelude.{OnOk}
use Rattle.kr_defs.specs.declared.record.Record.{Record}
use Rattle.kr_replication.specs.ListedWalks.{records_of_names}
use Rattle.kr_replication.proofs.ListedWalks.{listed_changes}
use Rattle.kr_replication.proofs.listed_walks.add_changes_of_keys.Goals as goal

pub returns : goal.returns
returns g c =
    let change = g.C.Change.change c.args.rule.now c.args.seen.now in
    let keys = c.args.keys.now in
    subst (λ (rs : List Record). OnOk c.add_of_names.result (c.add_of_names.new.records ≡ c.args.records.now ++ rs))
    (ap (records_of_names change c.args.seen.now keys) c.in_ok-names.ensures ∙ listed_changes change c.args.seen.now c.requires.test keys c.is_valid.ensures c.as_set.ensures.ordered c.requires.least c.requires.concerns)
    c.add_of_names.ensures
