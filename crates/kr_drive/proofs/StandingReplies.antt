-- How many replies tell of a write that stands.
use Rattle.std.proofs.Common.{◌≡◌, ◌∙◌, sym, ℕ, suc, ◌+◌, ◌<◌, ◌≤◌, Bool, true, false, cond, List, [], ◌∷◌, ◌++◌, ◌-◌, ℤ, get_or, length, length-append, take, map, refl, ap, arith}
use Rattle.std.specs.Prelude.{filter}
use Rattle.std.proofs.lemmas.List.{take_all, take_more}
use Rattle.std.proofs.lemmas.List.Elements.{filter-append}
use Rattle.kr_nodes.specs.declared.told.ToldReply.{ToldReply}
use Rattle.kr_nodes.specs.Standing.{told_as}
use Rattle.law_nodes.specs.Nodes.{NodeTold}
use Rattle.kr_drive.specs.declared.summary.NodesSummary.{NodesSummary}
use Rattle.kr_drive.specs.Driving.{has_place}
use Rattle.kr_drive.specs.inner.Standing.{counted, stands}

one_counted : (n : ℕ) (b : Bool) (t : ToldReply) → (n + length (cond b (t ∷ []) [])) ≡ cond b (n + 1) n
one_counted n true t = refl
one_counted n false t = omega arith

pub count_more : (ts : List ToldReply) (i : ℕ) (t : ToldReply) → i < length ts → t ≡ get_or ts i t → counted (length (filter stands (take i ts))) t ≡ length (filter stands (take (i + 1) ts))
count_more ts i t low is =
    sym (ap (λ (l : List ToldReply). length (filter stands l)) (take_more ts i t low ∙ ap (λ (x : ToldReply). take i ts ++ x ∷ []) (sym is))
    ∙ (ap (λ (l : List ToldReply). length l) (filter-append stands (take i ts) (t ∷ []))
    ∙ (length-append (filter stands (take i ts)) (filter stands (t ∷ [])) ∙ one_counted (length (filter stands (take i ts))) (stands t) t)))

by_one : (b : Bool) (t : ToldReply) (rest : List ToldReply) (n : ℕ) → length rest ≤ n → length (cond b (t ∷ rest) rest) ≤ n + 1
by_one true t rest n le = omega (arith, le)
by_one false t rest n le = omega (arith, le)

pub few_counted : (ts : List ToldReply) → length (filter stands ts) ≤ length ts
few_counted [] = omega arith
few_counted (t ∷ ts) =
    let le : length (filter stands (t ∷ ts)) ≤ length ts + 1 = by_one (stands t) t (filter stands ts) (length ts) (few_counted ts) in
    omega (arith, le)

same_by : (b : Bool) (t : NodeTold) (rest : List NodeTold) (others : List ToldReply) → length others ≡ length rest → length (cond b (told_as t ∷ others) others) ≡ length (cond b (t ∷ rest) rest)
same_by true t rest others same = ap suc same
same_by false t rest others same = same

-- of the run's
pub same_counted : (ts : List NodeTold) → length (filter stands (map told_as ts)) ≡ length (filter has_place ts)
same_counted [] = refl
same_counted (t ∷ ts) = same_by (has_place t) t (filter has_place ts) (filter stands (map told_as ts)) (same_counted ts)

-- ---- the four numbers

abbrev pub numbers : ℕ → ℕ → ℤ → ℕ → NodesSummary
numbers made rounds long told = record { moves = made; refused = rounds - made; length = long; told = told }

pub same_numbers : (made made' rounds rounds' told told' : ℕ) (long long' : ℤ) → made ≡ made' → rounds ≡ rounds' → long ≡ long' → told ≡ told' → numbers made rounds long told ≡ numbers made' rounds' long' told'
same_numbers made made' rounds rounds' told told' long long' a b c d =
    ap (λ n. numbers n rounds long told) a ∙ (ap (λ n. numbers made' n long told) b ∙ (ap (λ z. numbers made' rounds' z told) c ∙ ap (λ n. numbers made' rounds' long' n) d))
