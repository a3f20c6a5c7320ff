-- What is built keeps the partition well formed.
use Rattle.std.proofs.Common.{◌≡◌, sym, subst, Option, Result, Ok, Err}
use Rattle.std.specs.Prelude.{IfOk, IfSome, IsTrue}
use Rattle.kr_base.specs.declared.answers.NoMemory.{NoMemory}
use Rattle.kr_defs.specs.declared.partition.Partition.{Partition}
use Rattle.kr_defs.specs.declared.partition.PartitionChange.{PartitionChange}
use Rattle.kr_defs.specs.declared.changing.Facts.{Facts}
use Rattle.kr_defs.specs.declared.changing.Want.{Want}
use Rattle.kr_defs.specs.Partition.{is_well_formed}
use Rattle.kr_defs.specs.Merge.{merged}
use Rattle.kr_defs.specs.Build.{is_sensible, built}
use Rattle.kr_defs.proofs.Changes.{kept}
use Rattle.kr_change.proofs.building.build.Goals as goal

keeps : (p : Partition) (want : Want) (facts : Facts) (r : Result (Option PartitionChange) NoMemory) → IfOk r (λ change. change ≡ built p want facts) → IsTrue (is_well_formed p) → IsTrue (is_sensible want) → IfOk r (λ o. IfSome o (λ change. IsTrue (is_well_formed (merged p change))))
keeps p want facts (Ok o) is formed sensible =
    let P : Option PartitionChange → Type 0 = λ c. IfSome c (λ change. IsTrue (is_well_formed (merged p change))) in
    subst P (sym is) (kept p want facts formed sensible)
keeps p want facts (Err e) is formed sensible = tt

pub returns-clause-well_formed : goal.returns-clause-well_formed
returns-clause-well_formed c formed sensible = keeps c.args.partition.now c.args.want.now c.args.facts.now c.build_under.result c.build_under.ensures formed sensible
