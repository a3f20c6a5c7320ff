-- Bytes that go from a source to those that are held. This project's own.
use Rattle.std.specs.Prelude.{◌≡◌, ℕ, List, ◌++◌, Option}
use Rattle.std.specs.Io.KnownBytes.{Consumes}

-- some known bytes left the source, and stand behind those that were held
pub record Moves (left left' : Option (List ℕ)) (held held' : List ℕ) : Type 0 where
  pub taken : List ℕ
  pub took : Consumes left left' taken
  pub stand : held' ≡ held ++ taken
