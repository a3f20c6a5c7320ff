-- The last of the readers' seats, by itself, and the client's seat that is made of it, before the others.
use Rattle.std.proofs.Common.{◌≡◌, ◌∙◌, ℕ, zero, suc, ◌+◌, List, [], ◌∷◌, ◌++◌, length, refl, sym, ap, arith}
use Rattle.std.specs.Prelude.{Some, slice_get}
use Rattle.kr_defs.specs.declared.options.Options.{Options}
use Rattle.kr_view.specs.CopiesRule.{seen}
use Rattle.kr_view.specs.Opened.{AreSeats}
use Rattle.kr_view.specs.Seats.{Seat}
use Rattle.std.proofs.lemmas.Option.{get_or_from_slice_get}
use Rattle.kr_shared.specs.Clients.{Client, a_client}

still : {A : Type 0} (ys : List A) (x : A) (k : ℕ) (z : A) → slice_get ys k ≡ Some z → slice_get (ys ++ x ∷ []) k ≡ Some z
still [] x k z e = absurd cc
still (y ∷ ys) x zero z e = e
still (y ∷ ys) x (suc k) z e = still ys x k z e

at_end : {A : Type 0} (ys : List A) (x : A) → slice_get (ys ++ x ∷ []) (length ys) ≡ Some x
at_end [] x = refl
at_end (y ∷ ys) x = at_end ys x

pub last_seat : (options : Options) (left : List Seat) (s : Seat) → AreSeats options (left ++ s ∷ []) → AreSeats options left × (s ≡ record { number = length left + 1; seen = seen Rattle.std.specs.Prelude.true options []; misses = 0 })
last_seat options left s seats = ((λ k x e. seats k x (still left s k x e)), seats (length left) s (at_end left s))

pub seated_front : (options : Options) (n : ℕ) (x : Client) (made : List Client) → x ≡ a_client options (n + 1) → ((k : ℕ) (s : Client) → slice_get made k ≡ Some s → s ≡ a_client options (n + 1 + k + 1)) → (k : ℕ) (s : Client) → slice_get (x ∷ made) k ≡ Some s → s ≡ a_client options (n + k + 1)
seated_front options n x made is others zero s e =
    let number : n + 1 ≡ n + zero + 1 = omega arith in
    sym (get_or_from_slice_get (x ∷ made) zero s x e) ∙ is ∙ ap (a_client options) number
seated_front options n x made is others (suc k) s e =
    let number : n + 1 + k + 1 ≡ n + suc k + 1 = omega arith in
    others k s e ∙ ap (a_client options) number
