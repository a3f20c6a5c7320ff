use Rattle.std.proofs.Common.{◌∙◌, sym}
use Rattle.kr_view.proofs.Filling.{filling, no_room}
use Rattle.kr_describe.proofs.LineSteps.{topic_added, topic_less, topics_ended}
use Rattle.kr_describe.proofs.SoFar.{begun, ended, failed, further, image_there, no_room_left}
use Rattle.kr_describe.proofs.entries.add_topics.Goals as goal

pub loop-last-init : goal.loop-last-init
loop-last-init g c = record {
  went = begun g.R.RecordReader.reading g.R.RecordReader.with_reading c.args.steady.now c.args.reader.now c.requires.steady;
  filled = rw c.in_ok-last.ensures (filling _ _ _ c.requires.few);
}

pub loop-last-smaller : goal.loop-last-smaller
loop-last-smaller g c = topic_less _ c.requires.steady.valid _ _ _ _ _ c.loop-last.invariant.filled _ (image_there c.loop-last.invariant.went) _ (rw c.in-Some.is at c.in_ok-name.ensures.name)

pub loop-last-preserved : goal.loop-last-preserved
loop-last-preserved g c =
    let went = c.loop-last.invariant.went in
    let asked = further went c.in_ok-name.ensures.went in
    record {
      went = further asked c.in_ok-add_name.ensures.went;
      filled = topic_added _ c.requires.steady.valid _ _ _ _ _ c.loop-last.invariant.filled _ (image_there went) _ (rw c.in-Some.is at c.in_ok-name.ensures.name) _ (image_there asked) _ c.in_ok-add_name.ensures.entries;
    }

pub returns-then-is_full-clause-entries : goal.returns-then-is_full-clause-entries
returns-then-is_full-clause-entries g c = no_room _ _ _ _ _ c.loop-last.invariant.filled (sym c.is_full.ensures ∙ c.if-is_full.true)

pub returns-clause-entries : goal.returns-clause-entries
returns-clause-entries g c = topics_ended _ c.requires.steady.valid _ _ _ _ _ c.loop-last.invariant.filled _ (image_there c.loop-last.invariant.went) (rw c.in_default.is at c.in_ok-name.ensures.name)

pub returns-in_err-last-clause-went : goal.returns-in_err-last-clause-went
returns-in_err-last-clause-went g c = no_room_left c.from_residual.result c.requires.steady (begun g.R.RecordReader.reading g.R.RecordReader.with_reading c.args.steady.now c.args.reader.now c.requires.steady) c.from_residual.ensures.1

pub returns-in_err-name-clause-went : goal.returns-in_err-name-clause-went
returns-in_err-name-clause-went g c = failed c.from_residual-in_err-name.result c.loop-last.invariant.went c.in_err-name.ensures.went c.from_residual-in_err-name.ensures.1

pub returns-then-is_full-clause-went : goal.returns-then-is_full-clause-went
returns-then-is_full-clause-went g c = ended tt (further c.loop-last.invariant.went c.in_ok-name.ensures.went)

pub returns-in_err-add_name-clause-went : goal.returns-in_err-add_name-clause-went
returns-in_err-add_name-clause-went g c = failed c.from_residual-in_err-add_name.result (further c.loop-last.invariant.went c.in_ok-name.ensures.went) c.in_err-add_name.ensures.went c.from_residual-in_err-add_name.ensures.1

pub returns-clause-went : goal.returns-clause-went
returns-clause-went g c = ended tt (further c.loop-last.invariant.went c.in_ok-name.ensures.went)
