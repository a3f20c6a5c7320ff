use Rattle.std.proofs.lemmas.Int.{to_z-of_z}
use Rattle.std.proofs.Common.{w32, ◌∙◌, ◌++◌, ℤ, ap, take}
use Rattle.kr_describe.specs.inner.ShownLines.{part_entries}
use Rattle.kr_describe.specs.SteadyReads.{steady_image}
use Rattle.kr_describe.proofs.LineSteps.{known_done}
use Rattle.kr_describe.proofs.entries.add_known.Goals as goal

pub returns-clause-entries : goal.returns-clause-entries
returns-clause-entries g c =
    let own = to_z-of_z w32 c.args.index c.ranges.index in
    let before = to_z-of_z w32 c.index_before.result (record { sfits = c.index_before.type_inv }) in
    known_done _ c.requires.steady.valid _ _ c.args.name.now c.args.index c.requires.few c.args.id.now c.requires.named _ (c.in_ok-add_parts.ensures.entries ∙ ap (λ (i : ℤ). take c.args.most (c.args.entries.now ++ part_entries (steady_image c.args.steady.now (g.R.RecordReader.reading c.args.reader.now)) c.args.name.now c.args.id.now i)) (before ∙ rw own at c.index_before.ensures)) c.requires.free _ (rw (c.len-before.ensures, own) at c.is_alone-alone.ensures) _ c.in_ok-add_bare.ensures.added c.in_ok-add_bare.ensures.none
