-- What sources and sinks in memory show. This project's own.
use Rattle.std.specs.Prelude.{ℕ, ◌-◌, ◌==◌, ◌&&◌, Bool, not, List, length, nat_le}
use Rattle.std.specs.List.{list_any}
use Rattle.kr_base.specs.Causes.{raised}

-- a source: the bytes that are left, the numbers of the reads that fail, how many reads were made, how many failed
pub record Input : Type 0 where
  pub left : List ℕ
  pub failing : List ℕ
  pub calls : ℕ
  pub faults : ℕ

-- a sink: the bytes that were written, the most bytes and the most puts that it takes, the numbers of the puts that
-- fail, how many puts were made, how many failed
pub record Output : Type 0 where
  pub written : List ℕ
  pub room : ℕ
  pub most : ℕ
  pub failing : List ℕ
  pub calls : ℕ
  pub faults : ℕ

-- the next put, of so many bytes, is neither listed nor past the most puts, and has room
abbrev pub takes : Output → ℕ → Bool
takes sink size =
    not (list_any (λ listed. listed == raised sink.calls) sink.failing)
    && nat_le (raised sink.calls) sink.most && nat_le size (sink.room - length sink.written)
