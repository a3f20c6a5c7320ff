use Rattle.std.proofs.Common.{◌∙◌, ℤ, ap, sym, w32}
use Rattle.std.specs.Prelude.{Some}
use Rattle.kr_defs.specs.declared.partition.Partition.{Partition}
use Rattle.std.proofs.lemmas.Int.{to_z-of_z}
use Rattle.kr_view.proofs.Filling.{filling, no_room}
use Rattle.kr_describe.proofs.LineSteps.{less_room, part_pushed, parts_ended}
use Rattle.kr_describe.proofs.SoFar.{begun, ended, failed, further, image_there, no_room_left}
use Rattle.kr_describe.proofs.entries.add_parts.Goals as goal

pub loop-index-init : goal.loop-index-init
loop-index-init g c = record {
  went = begun g.R.RecordReader.reading g.R.RecordReader.with_reading c.args.steady.now c.args.reader.now c.requires.steady;
  filled = filling _ _ _ c.requires.few;
}

pub loop-index-smaller : goal.loop-index-smaller
loop-index-smaller g c = less_room _ _ _ _ (sym c.is_full.ensures ∙ c.if-is_full.false) c.in_ok-push.ensures.ok

pub loop-index-preserved : goal.loop-index-preserved
loop-index-preserved g c =
    let went = c.loop-index.invariant.went in
    let asked = further went c.in_ok-index.ensures.went in
    let own = to_z-of_z w32 c.in-Some.index (rw c.in-Some.is at c.in_ok-index.ensures.fits) in
    let next : ℤ → ℤ × Partition = λ i. (i, c.in-Some.state) in
    let found = ap (λ (i : ℤ). Some (next i)) own ∙ rw c.in-Some.is at c.in_ok-index.ensures.partition in
    record {
      went = further asked c.in_ok-part.ensures.went;
      filled = part_pushed _ c.requires.steady.valid _ _ _ _ _ _ _ c.loop-index.invariant.filled _ (image_there went) _ (sym c.is_full.ensures ∙ c.if-is_full.false) _ _ found _ (image_there asked) _ c.in_ok-part.ensures.part _ c.in_ok-part_entry.ensures c.in_ok-push.ensures.ok;
    }

pub returns-then-is_full-clause-entries : goal.returns-then-is_full-clause-entries
returns-then-is_full-clause-entries g c =
    let own = to_z-of_z w32 c.args.after c.ranges.after in
    let done = no_room _ _ _ _ _ c.loop-index.invariant.filled (sym c.is_full.ensures ∙ c.if-is_full.true) in
    rw own at done

pub returns-clause-entries : goal.returns-clause-entries
returns-clause-entries g c =
    let own = to_z-of_z w32 c.args.after c.ranges.after in
    let done = parts_ended _ c.requires.steady.valid _ _ _ _ _ _ _ c.loop-index.invariant.filled _ (image_there c.loop-index.invariant.went) (rw c.in_default.is at c.in_ok-index.ensures.partition) in
    rw own at done

pub returns-in_err-index-clause-went : goal.returns-in_err-index-clause-went
returns-in_err-index-clause-went g c = failed c.from_residual.result c.loop-index.invariant.went c.in_err-index.ensures.went c.from_residual.ensures.1

pub returns-in_err-part-clause-went : goal.returns-in_err-part-clause-went
returns-in_err-part-clause-went g c = failed c.from_residual-in_err-part.result (further c.loop-index.invariant.went c.in_ok-index.ensures.went) c.in_err-part.ensures.went c.from_residual-in_err-part.ensures.1

pub returns-in_err-part_entry-clause-went : goal.returns-in_err-part_entry-clause-went
returns-in_err-part_entry-clause-went g c = no_room_left c.from_residual-in_err-part_entry.result c.requires.steady (further (further c.loop-index.invariant.went c.in_ok-index.ensures.went) c.in_ok-part.ensures.went) c.from_residual-in_err-part_entry.ensures.1

pub returns-in_err-push-clause-went : goal.returns-in_err-push-clause-went
returns-in_err-push-clause-went g c = no_room_left c.from_residual-in_err-push.result c.requires.steady (further (further c.loop-index.invariant.went c.in_ok-index.ensures.went) c.in_ok-part.ensures.went) c.from_residual-in_err-push.ensures.1

pub returns-then-is_full-clause-went : goal.returns-then-is_full-clause-went
returns-then-is_full-clause-went g c = ended tt (further c.loop-index.invariant.went c.in_ok-index.ensures.went)

pub returns-clause-went : goal.returns-clause-went
returns-clause-went g c = ended tt (further c.loop-index.invariant.went c.in_ok-index.ensures.went)
