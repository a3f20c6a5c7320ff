use Rattle.std.specs.Option.{option_copied}
use Rattle.kr_view.proofs.Behind.{rows_first}
use Rattle.kr_view.proofs.page.page_of.Goals as goal

pub returns : goal.returns
returns g c = rows_first c.args.seen.now c.args.most (option_copied c.args.after) _ _ c.is_valid.ensures c.new-page.ensures c.in_ok-add_rows.ensures
