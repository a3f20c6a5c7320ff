use Rattle.std.proofs.Common.{sym, ◌∙◌}
use Rattle.kr_view.proofs.Filling.{no_room_for}
use Rattle.kr_view.proofs.listing.list_head.Goals as goal

pub returns-then-is_full : goal.returns-then-is_full
returns-then-is_full g c = no_room_for _ _ _ c.requires (sym c.is_full.ensures ∙ c.if-is_full.true)
