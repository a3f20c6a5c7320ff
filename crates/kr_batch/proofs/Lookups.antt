-- The table, and eight bytes at once by it.
use Rattle.std.proofs.Common.{◌≡◌, ℕ, zero, suc, ◌+◌, ◌*◌, ◌/◌, ◌%◌, ◌^◌, ◌<◌, List, [], ◌∷◌, get_or, refl, sym, ap, ◌∙◌, arith}
use Rattle.std.specs.Prelude.{bit_xor}
use Rattle.std.specs.Int.{w64, to_le_bytes}
use Rattle.std.specs.Int.Bits.{xor_zero_r}
use Rattle.std.proofs.lemmas.Nat.{xor_shr}
use Rattle.kr_batch.specs.Crc.{bit_steps, byte_step}
use Rattle.kr_batch.specs.declared.table.TheConstants.{TABLE}
use Rattle.kr_batch.proofs.Crc.{eight, steps_then, steps_xor}

-- the values of f at n numbers, from a number on
abbrev values : (ℕ → ℕ) → ℕ → ℕ → List ℕ
values f zero from = []
values f (suc n) from = f from ∷ values f n (from + 1)

value_at : (f : ℕ → ℕ) (n from i : ℕ) → i < n → get_or (values f n from) i 0 ≡ f (from + i)
value_at f zero from i lt = absurd (omega arith)
value_at f (suc n) from zero lt = let e : from ≡ from + 0 = omega arith in ap f e
value_at f (suc n) from (suc i) lt = (let e : from + 1 + i ≡ from + suc i = omega arith in value_at f n (from + 1) i (omega arith) ∙ ap f e)

-- a byte, and as many zero bytes behind it as its row says
abbrev entry : ℕ → ℕ
entry i = bit_steps (8 * (i / 256 + 1)) (i % 256)

-- the whole table, computed
table_is : TABLE ≡ values entry 4096 0
table_is = refl

table_at : (row byte : ℕ) → row < 16 → byte < 256 → get_or TABLE (256 * row + byte) 0 ≡ bit_steps (8 * (row + 1)) byte
table_at row byte few small =
    let start : 0 + (256 * row + byte) ≡ 256 * row + byte = omega arith in
    let high : (256 * row + byte) / 256 ≡ row = omega arith in
    let low : (256 * row + byte) % 256 ≡ byte = omega arith in
    ap (λ (t : List ℕ). get_or t (256 * row + byte) 0) table_is ∙ value_at entry 4096 0 (256 * row + byte) (omega arith) ∙ ap entry start
    ∙ ap (λ q. bit_steps (8 * (q + 1)) ((256 * row + byte) % 256)) high ∙ ap (bit_steps (8 * (row + 1))) low

-- ---- one byte

pub byte_looked_up : (zeros byte wide result : ℕ) → zeros < 16 → byte < 256 → wide ≡ byte → result ≡ get_or TABLE (256 * zeros + wide) 0
    → result ≡ bit_steps (8 * (zeros + 1)) byte
byte_looked_up zeros byte wide result few small same is = is ∙ ap (λ b. get_or TABLE (256 * zeros + b) 0) same ∙ table_at zeros byte few small

pub byte_shifted_out : (sum byte wide low result : ℕ) → byte < 256 → wide ≡ byte → low ≡ bit_xor sum wide % 256 → result ≡ bit_steps (8 * (0 + 1)) low
    → bit_xor (sum / 256) result ≡ byte_step sum byte
unfolding byte_step
byte_shifted_out sum byte wide low result small same index is =
    let low_is : low ≡ bit_xor sum byte % 256 = index ∙ ap (λ b. bit_xor sum b % 256) same in
    let none : byte / 256 ≡ 0 = omega arith in
    let high : bit_xor sum byte / 256 ≡ sum / 256 = xor_shr sum byte 8 ∙ ap (bit_xor (sum / 256)) none ∙ xor_zero_r (sum / 256) in
    ap (bit_xor (sum / 256)) (is ∙ ap (bit_steps 8) low_is) ∙ sym (eight (bit_xor sum byte) ∙ ap (λ h. bit_xor h (bit_steps 8 (bit_xor sum byte % 256))) high)

-- ---- eight bytes

-- the k + 1 bytes of x, each looked up, the highest first
abbrev looked : ℕ → ℕ → ℕ → ℕ
looked zeros zero x = bit_steps (8 * (zeros + 1)) x
looked zeros (suc k) x = bit_xor (looked zeros k (x / 256)) (bit_steps (8 * (zeros + suc k + 1)) (x % 256))

looked_is : (zeros k x : ℕ) → looked zeros k x ≡ bit_steps (8 * (zeros + k + 1)) x
looked_is zeros zero x = let e : 8 * (zeros + 1) ≡ 8 * (zeros + 0 + 1) = omega arith in ap (λ n. bit_steps n x) e
looked_is zeros (suc k) x =
    let n : ℕ = 8 * (zeros + k + 1) in
    let more : 8 + n ≡ 8 * (zeros + suc k + 1) = omega arith in
    let low : bit_steps n (bit_steps 8 (x % 256)) ≡ bit_steps (8 * (zeros + suc k + 1)) (x % 256) = steps_then 8 n (x % 256) ∙ ap (λ m. bit_steps m (x % 256)) more in
    ap (λ h. bit_xor h (bit_steps (8 * (zeros + suc k + 1)) (x % 256))) (looked_is zeros k (x / 256))
    ∙ ap (bit_xor (bit_steps n (x / 256))) (sym low)
    ∙ sym (steps_xor n (x / 256) (bit_steps 8 (x % 256)))
    ∙ ap (bit_steps n) (sym (eight x))
    ∙ steps_then 8 n x
    ∙ ap (λ m. bit_steps m x) more

pub word_shifted_out : (zeros w : ℕ) (bytes : List ℕ) (a b c d e f g h : ℕ) → w < 2 ^ 64 → bytes ≡ to_le_bytes w64 w
    → a ≡ bit_steps (8 * (zeros + 1)) (get_or bytes 7 0) → b ≡ bit_steps (8 * (zeros + 1 + 1)) (get_or bytes 6 0)
    → c ≡ bit_steps (8 * (zeros + 2 + 1)) (get_or bytes 5 0) → d ≡ bit_steps (8 * (zeros + 3 + 1)) (get_or bytes 4 0)
    → e ≡ bit_steps (8 * (zeros + 4 + 1)) (get_or bytes 3 0) → f ≡ bit_steps (8 * (zeros + 5 + 1)) (get_or bytes 2 0)
    → g ≡ bit_steps (8 * (zeros + 6 + 1)) (get_or bytes 1 0) → h ≡ bit_steps (8 * (zeros + 7 + 1)) (get_or bytes 0 0)
    → bit_xor (bit_xor (bit_xor (bit_xor (bit_xor (bit_xor (bit_xor a b) c) d) e) f) g) h ≡ bit_steps (8 * (zeros + 8)) w
word_shifted_out zeros w bytes a b c d e f g h fits is is_a is_b is_c is_d is_e is_f is_g is_h =
    let d2 : w / 256 / 256 ≡ w / 65536 = omega arith in
    let d3 : w / 65536 / 256 ≡ w / 16777216 = omega arith in
    let d4 : w / 16777216 / 256 ≡ w / 4294967296 = omega arith in
    let d5 : w / 4294967296 / 256 ≡ w / 1099511627776 = omega arith in
    let d6 : w / 1099511627776 / 256 ≡ w / 281474976710656 = omega arith in
    let d7 : w / 281474976710656 / 256 ≡ w / 72057594037927936 = omega arith in
    let at : (i n : ℕ) → get_or (to_le_bytes w64 w) i 0 ≡ n → get_or bytes i 0 ≡ n = λ i n e. ap (λ l. get_or l i 0) is ∙ e in
    let at_7 : get_or bytes 7 0 ≡ w / 72057594037927936 = at 7 _ (omega arith) in
    let at_6 : get_or bytes 6 0 ≡ w / 281474976710656 % 256 = at 6 _ refl in
    let at_5 : get_or bytes 5 0 ≡ w / 1099511627776 % 256 = at 5 _ refl in
    let at_4 : get_or bytes 4 0 ≡ w / 4294967296 % 256 = at 4 _ refl in
    let at_3 : get_or bytes 3 0 ≡ w / 16777216 % 256 = at 3 _ refl in
    let at_2 : get_or bytes 2 0 ≡ w / 65536 % 256 = at 2 _ refl in
    let at_1 : get_or bytes 1 0 ≡ w / 256 % 256 = at 1 _ refl in
    let at_0 : get_or bytes 0 0 ≡ w % 256 = at 0 _ refl in
    let all : looked zeros 7 w ≡ bit_steps (8 * (zeros + 7 + 1)) w = looked_is zeros 7 w in
    let more : 8 * (zeros + 7 + 1) ≡ 8 * (zeros + 8) = omega arith in
    rw (is_a, is_b, is_c, is_d, is_e, is_f, is_g, is_h, at_0, at_1, at_2, at_3, at_4, at_5, at_6, at_7, sym d7, sym d6, sym d5, sym d4, sym d3, sym d2) (all ∙ ap (λ n. bit_steps n w) more)
