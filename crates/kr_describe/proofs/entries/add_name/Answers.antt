use Rattle.std.proofs.Common.{◌∙◌, ℤ, ap, pos, sym, w32}
use Rattle.std.specs.Prelude.{int_lt}
use Rattle.std.proofs.lemmas.Int.{to_z-of_z}
use Rattle.kr_view.proofs.Filling.{no_room_for}
use Rattle.kr_describe.proofs.LineSteps.{unknown_done}
use Rattle.kr_describe.proofs.SoFar.{begun, ended, failed, further}
use Rattle.kr_describe.proofs.entries.add_name.Goals as goal

pub returns-then-is_full-clause-went : goal.returns-then-is_full-clause-went
returns-then-is_full-clause-went g c = ended tt (begun g.R.RecordReader.reading g.R.RecordReader.with_reading c.args.steady.now c.args.reader.now c.requires.steady)

pub returns-then-is_full-clause-entries : goal.returns-then-is_full-clause-entries
returns-then-is_full-clause-entries g c = no_room_for _ _ _ c.requires.few (sym c.is_full.ensures ∙ c.if-is_full.true)

pub returns-in_default-clause-entries : goal.returns-in_default-clause-entries
returns-in_default-clause-entries g c =
    let own = to_z-of_z w32 c.args.index c.ranges.index in
    unknown_done _ c.requires.steady.valid _ _ c.args.name.now c.args.index c.requires.few (sym (rw c.in_default.is at c.in_ok-id.ensures.id)) (sym c.is_full.ensures ∙ c.if-is_full.false) _ (ap (λ (i : ℤ). int_lt i (pos 0)) own) _ c.in_ok-add_bare.ensures.added c.in_ok-add_bare.ensures.none

pub returns-in_err-add_known-clause-went : goal.returns-in_err-add_known-clause-went
returns-in_err-add_known-clause-went g c = failed c.from_residual-in_err-add_known.result (further (begun g.R.RecordReader.reading g.R.RecordReader.with_reading c.args.steady.now c.args.reader.now c.requires.steady) c.in_ok-id.ensures.went) c.in_err-add_known.ensures.went c.from_residual-in_err-add_known.ensures.1

pub returns-clause-went : goal.returns-clause-went
returns-clause-went g c = ended tt (further (further (begun g.R.RecordReader.reading g.R.RecordReader.with_reading c.args.steady.now c.args.reader.now c.requires.steady) c.in_ok-id.ensures.went) c.in_ok-add_known.ensures.went)
