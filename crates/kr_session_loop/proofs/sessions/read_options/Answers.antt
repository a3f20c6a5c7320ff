use Rattle.std.proofs.Common.{sym, subst}
use Rattle.kr_session_loop.specs.Endings.{EndsWith}
use Rattle.kr_session_loop.proofs.SessionSteps.{no_end_first, no_event_first, open_taken, unread_first}
use Rattle.kr_session_loop.proofs.sessions.read_options.Goals as goal

pub returns-in-Err-clause-stopped : goal.returns-in-Err-clause-stopped
returns-in-Err-clause-stopped g c = λ written.
    subst (EndsWith _ _ written written) (sym c.unread.ensures) (unread_first _ c.requires.stage _ _ written _ _ _ c.in-Err.fault c.requires.place c.in-Err.ensures.stopped)

pub returns-in-Ok-Open-clause-open : goal.returns-in-Ok-Open-clause-open
returns-in-Ok-Open-clause-open g c =
    open_taken _ c.requires.stage _ _ c.in-Ok-Open.field-0 _ _ c.in-Ok-Open.ensures.frame c.in-Ok-Open.options c.in-Ok-Open.field-0-is c.requires.place

pub returns-in-Ok-Open-clause-fits : goal.returns-in-Ok-Open-clause-fits
returns-in-Ok-Open-clause-fits g c =
    (open_taken _ c.requires.stage _ _ c.in-Ok-Open.field-0 _ _ c.in-Ok-Open.ensures.frame c.in-Ok-Open.options c.in-Ok-Open.field-0-is c.requires.place).is.holds.fits

pub unreachable-requires : goal.unreachable-requires
unreachable-requires g c = no_event_first _ c.requires.stage _ _ c.in-Ok-Event.field-0 _ _ c.in-Ok-Event.ensures.frame c.in-Ok-Event.field-0-0 c.in-Ok-Event.field-0-is

pub unreachable-requires-in-Ok-End : goal.unreachable-requires-in-Ok-End
unreachable-requires-in-Ok-End g c = no_end_first _ c.requires.stage _ _ c.in-Ok-End.field-0 _ _ c.in-Ok-End.ensures.frame c.in-Ok-End.field-0-is
