-- The keys that one resource's operations named, in order of first naming.
use Rattle.std.specs.Prelude.{◌≡◌, [], ◌∷◌, None, bytes_eq, find}
use Rattle.kr_calls.specs.IncrementalAlterConfigs.{Values}

-- each key stands once
abbrev pub AreOnce : Values → Type 0
AreOnce [] = Unit {0}
AreOnce (v ∷ values) = (find (λ w. bytes_eq w.0 v.0) values ≡ None) × AreOnce values
