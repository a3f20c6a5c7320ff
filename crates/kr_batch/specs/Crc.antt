-- CRC-32C (Castagnoli), as iSCSI has it (RFC 3720, 12.1) and Kafka's record batches (KIP-98) use it.
use Rattle.std.specs.Prelude.{ℕ, zero, suc, ◌/◌, ◌%◌, ◌==◌, List, if◌then◌else◌, bit_xor}
use Rattle.std.specs.List.{fold}

-- the polynomial, lowest power in the highest bit
abbrev pub polynomial : ℕ
polynomial = 0x82F63B78

-- One bit is shifted out at the low end; where it was 1 the polynomial goes in.
abbrev pub bit_step : ℕ → ℕ
bit_step c = if c % 2 == 1 then bit_xor (c / 2) polynomial else c / 2

-- so many bits
abbrev pub bit_steps : ℕ → ℕ → ℕ
bit_steps zero c = c
bit_steps (suc n) c = bit_steps n (bit_step c)

-- A byte is xored into the low bits, and its eight bits are shifted out.
unfoldable pub byte_step : ℕ → ℕ → ℕ
byte_step c byte = bit_steps 8 (bit_xor c byte)

-- It starts with all ones, and in the end all bits are turned.
unfoldable pub crc32c : List ℕ → ℕ
crc32c bytes = bit_xor (fold byte_step 0xFFFFFFFF bytes) 0xFFFFFFFF
