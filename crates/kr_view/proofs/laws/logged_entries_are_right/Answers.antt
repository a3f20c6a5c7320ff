use Rattle.kr_view.proofs.Logged.{are_plainly_right, are_right}
use Rattle.kr_view.proofs.laws.logged_entries_are_right.Goals as goal

pub returns-clause-logged : goal.returns-clause-logged
returns-clause-logged c = are_right

pub returns-clause-plain : goal.returns-clause-plain
returns-clause-plain c = are_plainly_right
