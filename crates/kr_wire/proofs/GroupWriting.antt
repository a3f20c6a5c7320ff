-- Writing the groups of a number one after the other.
use Rattle.std.proofs.Common.{◌≡◌, ℕ, zero, suc, ◌+◌, ◌-◌, ◌/◌, ◌%◌, ◌^◌, ◌<◌, ◌≤◌, ◌⊎◌, inl, inr, List, [], ◌∷◌, ◌++◌, length, take, slice_set, append_assoc, refl, sym, ap, ◌∙◌, arith}
use Rattle.std.proofs.lemmas.Bool.{lt-ltb, le-ltb}
use Rattle.std.proofs.lemmas.List.{take_more_set}
use Rattle.std.proofs.Math.Nat.{pow-succ'}
use Rattle.kr_wire.specs.Spelling.{groups}

-- a group that is not the last
group_first : (room n : ℕ) → 128 ≤ n → groups (suc room) n ≡ (128 + n % 128) ∷ groups room (n / 128)
group_first room n le = rw (le-ltb n 128 le) refl

-- a group that is the last
group_last : (room n : ℕ) → (room ≡ 0) ⊎ (n < 128) → groups room n ≡ n ∷ []
group_last zero n last = refl
group_last (suc room) n (inl none) = absurd (omega arith)
group_last (suc room) n (inr small) = rw (lt-ltb n 128 small) refl

pub two_groups : (room n : ℕ) → 1 ≤ room → 128 ≤ n → n < 16384 → (128 + n % 128) ∷ n / 128 ∷ [] ≡ groups room n
two_groups zero n some big small = absurd (omega arith)
two_groups (suc room) n some big small = sym (group_first room n big ∙ ap (λ (g : List ℕ). (128 + n % 128) ∷ g) (group_last room (n / 128) (inr (omega arith))))

-- a number pushed behind some bytes, group by group
pub pushes_one : (so_far : List ℕ) (left rest : ℕ) (whole : List ℕ) → 0 < left → 128 ≤ rest → so_far ++ groups left rest ≡ whole
    → so_far ++ (128 + rest % 128) ∷ [] ++ groups (left - 1) (rest / 128) ≡ whole
pushes_one so_far left rest whole some big is =
    let e : left ≡ suc (left - 1) = omega arith in
    let first : groups left rest ≡ (128 + rest % 128) ∷ groups (left - 1) (rest / 128) = ap (λ (n : ℕ). groups n rest) e ∙ group_first (left - 1) rest big in
    append_assoc so_far ((128 + rest % 128) ∷ []) (groups (left - 1) (rest / 128)) ∙ (ap (λ (g : List ℕ). so_far ++ g) (sym first) ∙ is)

pub pushes_last : (so_far : List ℕ) (left rest : ℕ) (whole : List ℕ) → (left ≡ 0) ⊎ (rest < 128) → so_far ++ groups left rest ≡ whole → so_far ++ rest ∷ [] ≡ whole
pushes_last so_far left rest whole last is = ap (λ (g : List ℕ). so_far ++ g) (sym (group_last left rest last)) ∙ is

pub smaller : (left rest : ℕ) → 0 < left → rest < 128 ^ (left + 1) → rest / 128 < 128 ^ (left - 1 + 1)
smaller left rest some fits =
    let e : left + 1 ≡ suc (left - 1 + 1) = omega arith in
    let fits' : rest < 128 ^ suc (left - 1 + 1) = rw e at fits in
    let p = pow-succ' 128 (left - 1 + 1) in
    omega (arith, p)
