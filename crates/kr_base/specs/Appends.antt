-- What a quorum in memory shows. This project's own.
use Rattle.std.specs.Prelude.{ℕ, ◌-◌, ◌==◌, ◌&&◌, Bool, not, List, [], ◌∷◌, ◌++◌, length, nat_le, take, drop, Option}
use Rattle.std.specs.List.{concat, list_any}
use Rattle.std.specs.Option.{option_map}
use Rattle.kr_base.specs.Causes.{raised}

-- one piece more, where the pieces are told
abbrev pub with_piece : Option (List (List ℕ)) → List ℕ → Option (List (List ℕ))
with_piece told piece = option_map (λ pieces. pieces ++ piece ∷ []) told

-- bytes in pieces of these sizes
abbrev pub pieces_of : List ℕ → List ℕ → List (List ℕ)
pieces_of [] bytes = []
pieces_of (size ∷ sizes) bytes = take size bytes ∷ pieces_of sizes (drop size bytes)

-- the pieces that were appended, the most bytes and the most calls that it takes, the numbers of the calls that fail, how
-- many calls were made, how many failed
pub record Appended : Type 0 where
  pub pieces : List (List ℕ)
  pub room : ℕ
  pub most : ℕ
  pub failing : List ℕ
  pub calls : ℕ
  pub faults : ℕ

-- the next call, of so many bytes, is neither listed nor past the most calls, and has room
abbrev pub accepts : Appended → ℕ → Bool
accepts quorum size =
    not (list_any (λ listed. listed == raised quorum.calls) quorum.failing)
    && nat_le (raised quorum.calls) quorum.most && nat_le size (quorum.room - length (concat quorum.pieces))
