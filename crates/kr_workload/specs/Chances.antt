-- The numbers that are drawn: a linear congruential generator of 64 bits, with Knuth's multiplier (MMIX).
use Rattle.std.specs.Prelude.{ℕ, ◌+◌, ◌*◌, ◌/◌, ◌%◌, ◌^◌}
use Rattle.kr_workload.specs.declared.chances.Chances.{Chances}

-- the number behind this one
unfoldable pub next_drawn : ℕ → ℕ
next_drawn x = (x * 6364136223846793005 + 1442695040888963407) % 2 ^ 64

-- of a number its upper half, below the given one
unfoldable pub drawn_below : ℕ → ℕ → ℕ
drawn_below x most = x / 2 ^ 32 % most

-- the four draws of a round, in order: what is done, which broker of six, which topic of three hundred, which partition of ten
unfoldable pub chances : ℕ → Chances
chances x = record {
  kind = drawn_below (next_drawn x) 6;
  broker = 1 + drawn_below (next_drawn (next_drawn x)) 6;
  topic = drawn_below (next_drawn (next_drawn (next_drawn x))) 300;
  partition = drawn_below (next_drawn (next_drawn (next_drawn (next_drawn x)))) 10;
  last = next_drawn (next_drawn (next_drawn (next_drawn x)));
}
