use Rattle.std.specs.Option.{option_copied}
use Rattle.kr_view.proofs.Behind.{record_page_is}
use Rattle.kr_view.proofs.record_page.record_page.Goals as goal

pub returns : goal.returns
returns g c = record_page_is c.args.seen.now c.args.most (option_copied c.args.after) _ _ c.is_valid.ensures c.new-records.ensures c.in_ok-add_records.ensures
