use Rattle.std.proofs.Common.{◌∙◌, ap, not, sym}
use Rattle.std.specs.Option.{option_copied}
use Rattle.std.proofs.lemmas.Cmp.{int_cmp_total}
use Rattle.kr_defs.proofs.Walks.{walk_less}
use Rattle.kr_replication.proofs.EntryTests.{any_here, any_later, any_none}
use Rattle.kr_brokers.specs.Stopping.{lags}
use Rattle.kr_brokers.proofs.ReadOffsets.{none_lags}
use Rattle.kr_brokers.proofs.broker_heartbeat.have_read.Goals as goal

pub loop-id-preserved : goal.loop-id-preserved
loop-id-preserved g c =
    let late = lags c.args.sessions.now.heartbeats c.args.since.now in
    c.loop-id.invariant ∙ any_later int_cmp_total late c.args.seen.now.brokers (option_copied c.loop-id.after) (c.in-Some.id.now, c.in-Some.state.now) c.is_valid.ensures.brokers.ordered c.in-Some.ensures (sym c.lags.ensures ∙ c.if-lags.false)

pub loop-id-smaller : goal.loop-id-smaller
loop-id-smaller g c =
    walk_less int_cmp_total c.args.seen.now.brokers (option_copied c.loop-id.after) (c.in-Some.id.now, c.in-Some.state.now) c.is_valid.ensures.brokers.ordered c.in-Some.ensures

pub returns-then-lags : goal.returns-then-lags
returns-then-lags g c =
    let late = lags c.args.sessions.now.heartbeats c.args.since.now in
    let one = c.loop-id.invariant ∙ any_here int_cmp_total late c.args.seen.now.brokers (option_copied c.loop-id.after) (c.in-Some.id.now, c.in-Some.state.now) c.is_valid.ensures.brokers.ordered c.in-Some.ensures (sym c.lags.ensures ∙ c.if-lags.true) in
    sym (none_lags c.args.since.now c.args.sessions.now.heartbeats c.args.seen.now.brokers ∙ ap not one)

pub returns : goal.returns
returns g c =
    let late = lags c.args.sessions.now.heartbeats c.args.since.now in
    let none = c.loop-id.invariant ∙ any_none int_cmp_total late c.args.seen.now.brokers (option_copied c.loop-id.after) c.in_default.ensures in
    sym (none_lags c.args.since.now c.args.sessions.now.heartbeats c.args.seen.now.brokers ∙ ap not none)
