-- Counts that stay or rise.
use Rattle.std.proofs.Common.{◌≡◌, ◌≤◌, ◌+◌, ◌-◌, ◌^◌, ℕ, min, inl, inr, Result, Ok, Err, refl, sym, subst, arith, ◌∙◌}
use Rattle.kr_base.specs.Causes.{Rose}
use Rattle.kr_view.specs.declared.seat.CopyFault.{CopyFault}
use Rattle.kr_view.specs.declared.seat.CopyFault.TheVariants as copies
use Rattle.kr_view.specs.Seats.{HasCopyCause, Seat}
use Rattle.kr_shared.specs.Clients.{MayRise}

pub stays : (n : ℕ) → MayRise n n
stays n = inl refl

-- a count that rose later rose
pub rose_behind : (a b c : ℕ) → MayRise a b → Rose b c → Rose a c
rose_behind a b c (inl same) rose = let P : ℕ → Type 0 = λ n. Rose n c in subst P same rose
rose_behind a b c (inr first) rose = omega (arith, first, rose)

pub may_rise_behind : (a b c : ℕ) → MayRise a b → MayRise b c → MayRise a c
may_rise_behind a b c first (inl same) = let P : ℕ → Type 0 = λ n. MayRise a n in subst P (sym same) first
may_rise_behind a b c first (inr rose) = inr (rose_behind a b c first rose)

one_look : {T : Type 0} (old new : Seat) (result : Result T CopyFault) → HasCopyCause old new result → MayRise old.misses new.misses
one_look old new (Ok t) same = inl same
one_look old new (Err copies.NoCopy) cause = inr cause.1
one_look old new (Err copies.NoMemory) same = inl same

-- one look further
pub looked_on : {T : Type 0} (a : ℕ) (old new : Seat) (result : Result T CopyFault) → MayRise a old.misses → HasCopyCause old new result → MayRise a new.misses
looked_on a old new result first cause = may_rise_behind a old.misses new.misses first (one_look old new result cause)
