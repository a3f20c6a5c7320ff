-- Reading elements one after the other, where one of them ends it.
use Rattle.std.proofs.Common.{◌≡◌, ℕ, ◌-◌, ◌<◌, List}
use Rattle.kr_wire.specs.Reading.{Read, elements_at}
use Rattle.kr_wire.proofs.Elements.{with_front, ends_in}
use Rattle.kr_layout.specs.declared.fault.ReadFault.{ReadFault}
use Rattle.kr_layout.specs.declared.fault.ReadFault.TheVariants as faults
use Rattle.kr_layout.specs.Answers.{IsFaultOf}

pub ends : {X : Type 0} (one : List ℕ → Read X) (front : List X) (count i : ℕ) (bytes : List ℕ) (total : Read (List X)) → with_front one front (elements_at one (count - i) bytes) ≡ total
    → (e : ReadFault) → i < count → IsFaultOf e (one bytes) → IsFaultOf e total
ends one front count i bytes total so_far (faults.Wire fault) lt h = ends_in one front count i bytes total so_far fault lt h
ends one front count i bytes total so_far faults.NoMemory lt h = tt
