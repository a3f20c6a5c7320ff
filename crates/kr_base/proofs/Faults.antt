-- Counts of faults over one call after the other.
use Rattle.std.proofs.Common.{ℕ, ◌≤◌, arith}
use Rattle.kr_base.specs.Causes.{Rose}

-- where the later of two calls raised the count, both together did
pub rose_later : (a b c : ℕ) → a ≤ b → Rose b c → Rose a c
rose_later a b c before rose = omega (arith, before, rose)

-- where the earlier did, too
pub rose_earlier : (a b c : ℕ) → Rose a b → b ≤ c → Rose a c
rose_earlier a b c rose after = omega (arith, rose, after)

pub ruleset causes = (rose_later, rose_earlier)
