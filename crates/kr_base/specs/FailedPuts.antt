-- What a failed put may have written. This project's own.
use Rattle.std.specs.Prelude.{ℕ, List, take, Option}
use Rattle.std.specs.Io.KnownBytes.{Appends}

-- known bytes grow by some front of the piece
abbrev pub AppendsFront : Option (List ℕ) → Option (List ℕ) → List ℕ → Type 0
AppendsFront before now piece = (count : ℕ) × Appends before now (take count piece)
