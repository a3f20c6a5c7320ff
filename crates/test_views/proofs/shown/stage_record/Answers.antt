use Rattle.std.proofs.Common.{subst, sym, w64, to_z, of_z}
use Rattle.kr_view.specs.StagedLaws.{IsPlain}
use Rattle.test_views.proofs.StagedItems.{stays_plain}
use Rattle.test_views.proofs.shown.stage_record.Goals as goal

-- src/shown.rt:66:1
pub returns : goal.returns
returns c = subst IsPlain (sym c.in_default.ensures) (stays_plain c.args.publisher.now (to_z w64 (of_z w64 c.args.place)) c.args.change c.requires.plain c.requires.begins)
