-- What a look into a copy does to a reader. This project's own.
use Rattle.std.specs.Prelude.{◌≡◌, MatchResult}
use Rattle.core.specs.declared.result.Result.{Result}
use Rattle.kr_base.specs.Causes.{Rose}
use Rattle.kr_view.specs.Edges.{seen_by}
use Rattle.kr_view.specs.Readers.{Reading}
use Rattle.kr_view.specs.declared.edge.Edge.{Edge}
use Rattle.kr_view.specs.declared.seat.CopyFault.{CopyFault}
use Rattle.kr_view.specs.declared.seat.CopyFault.TheVariants.{NoCopy, NoMemory}

abbrev pub IsEdgeCause : Edge → Edge → CopyFault → Type 0
IsEdgeCause old new NoCopy = (seen_by new ≡ seen_by old) × Rose old.misses new.misses
IsEdgeCause old new NoMemory = new.misses ≡ old.misses

-- no copy only where the count rose, and then nothing else changed
abbrev pub HasEdgeCause : {T : Type 0} → Edge → Edge → Result T CopyFault → Type 0
HasEdgeCause old new result = MatchResult result (λ _. new.misses ≡ old.misses) (IsEdgeCause old new)

abbrev pub edge_reading : Edge → Reading
edge_reading e = record { seen = seen_by e; misses = e.misses }
