-- Why no message is read.
use Rattle.std.proofs.Common.{◌≡◌, ◌∙◌, ◌<◌, ◌≤◌, ◌+◌, ◌⊎◌, ℕ, zero, suc, List, [], ◌∷◌, ◌++◌, length, Option, refl, sym, subst, inl, inr, arith, append-nil, length-append}
use Rattle.std.specs.Int.{w32}
use Rattle.std.proofs.KnownBytes.{Consumes-trans}
use Rattle.kr_base.specs.Causes.{Rose}
use Rattle.kr_wire.specs.Grammar.{Exactly, IsNumber}
use Rattle.kr_defs.specs.declared.limits.TheConstants.{MOST_MESSAGE_BYTES, MOST_SESSION_BYTES}
use Rattle.kr_intake.specs.declared.taking.Shortage.{Shortage}
use Rattle.kr_intake.specs.declared.taking.Shortage.TheVariants as shortages
use Rattle.kr_intake.specs.Shortages.{FallsShort}
use Rattle.kr_server.specs.declared.end.ServeEnd.TheVariants as ends
use Rattle.kr_server.specs.Messages.{AnyMessage, IsMessageBegun, IsMessageThat, IsSizedMessage, within_body, within_size}
use Rattle.kr_server.specs.inner.Reading.{IsUnread, TookPiece, shortage_end}

none_of : (xs : List ℕ) → length xs ≡ 0 → xs ≡ []
none_of [] h = refl
none_of (x ∷ xs) h = absurd (omega (arith, h))

later_rose : (n m k : ℕ) → n ≤ m → Rose m k → Rose n k
later_rose n m k le rose = omega (arith, le, rose)

-- no byte came, and the source is at its end
pub closed : (a b : Option (List ℕ)) (at f g : ℕ) → FallsShort at 4 a b f g (shortages.Ended 0) → IsUnread at a b f g ends.Closed
closed a b at f g s =
    let none : s.taken ≡ [] = none_of s.taken (sym s.cause.0) in
    let top = s.cause.2 in
    record { taken = s.taken; took = s.took; within = omega (arith, top); cause = (none, s.cause.1, omega (arith, top)) }

module _ (a b c : Option (List ℕ)) (at : ℕ) where
  -- the size is cut
  pub in_the_size : (f g : ℕ) (s : Shortage) → FallsShort at 4 a b f g s → (s ≡ shortages.Ended 0 → ⊥) → IsUnread at a b f g (shortage_end at s)
  in_the_size f g (shortages.Ended zero) s some = absurd (some refl)
  in_the_size f g (shortages.Ended (suc count)) s some =
      let top = s.cause.2 in
      let came = s.cause.0 in
      record { taken = s.taken; took = s.took; within = omega (arith, top); cause = (refl, inr (omega (arith, came), (within_size s.few, top), s.cause.1)) }
  in_the_size f g shortages.ReadFault s some =
      let top = s.cause.1 in
      record { taken = s.taken; took = s.took; within = omega (arith, top); cause = ((within_size s.few, top), s.cause.0) }
  in_the_size f g shortages.TooLong s some =
      let top = s.cause in
      record { taken = s.taken; took = s.took; within = omega (arith, top); cause = (within_size s.few, top) }

  module _ (size : ℕ) (t : TookPiece (IsNumber w32 size) a b at (at + 4)) where
    within_four : at + length t.taken ≤ MOST_SESSION_BYTES
    within_four = let long = t.is.long in let w = t.within in omega (arith, long, w)

    -- it is past the limit
    pub too_great : (f g : ℕ) → MOST_MESSAGE_BYTES < size → IsUnread at a b f g (ends.Malformed at)
    too_great f g great =
        record { taken = t.taken; took = t.took; within = within_four; cause = (refl, inl (record { size = size; spelled = t.is; great = great })) }

    module _ (short : size ≤ MOST_MESSAGE_BYTES) where
      -- no memory for the message
      no_room_for : (n : ℕ) → size ≡ n → IsMessageBegun t.taken ⊎ IsMessageThat AnyMessage t.taken
      no_room_for zero same = inr (record {
        message = [];
        sized = record { short = omega arith; spelled = record { left = t.taken; right = []; is = sym (append-nil t.taken); first = let P : ℕ → Type 0 = λ m. IsNumber w32 m t.taken in subst P same t.is; second = refl } };
        holds = tt;
      })
      no_room_for (suc n) same = inl (within_body size t.taken [] (sym (append-nil t.taken)) t.is short (omega (arith, same)))

      pub no_room : (f g : ℕ) → IsUnread at a b f g ends.NoMemory
      no_room f g = record { taken = t.taken; took = t.took; within = within_four; cause = no_room_for size refl }

      -- the message is cut
      pub in_the_body : (f m g : ℕ) (s : Shortage) → f ≤ m → FallsShort (at + 4) size b c m g s → IsUnread at a c f g (shortage_end at s)
      in_the_body f m g (shortages.Ended count) le s =
          let long : length (t.taken ++ s.taken) ≡ length t.taken + length s.taken = length-append t.taken s.taken in
          let four : length t.taken ≡ 4 = t.is.long in
          let top = s.cause.2 in
          let below : at + length (t.taken ++ s.taken) < MOST_SESSION_BYTES = omega (arith, long, four, top) in
          record {
            taken = t.taken ++ s.taken;
            took = Consumes-trans a b c t.taken s.taken t.took s.took;
            within = omega (arith, below);
            cause = (refl, inr (omega (arith, long, four), (within_body size t.taken s.taken refl t.is short s.few, below), s.cause.1));
          }
      in_the_body f m g shortages.ReadFault le s =
          let long : length (t.taken ++ s.taken) ≡ length t.taken + length s.taken = length-append t.taken s.taken in
          let four : length t.taken ≡ 4 = t.is.long in
          let top = s.cause.1 in
          let below : at + length (t.taken ++ s.taken) < MOST_SESSION_BYTES = omega (arith, long, four, top) in
          record {
            taken = t.taken ++ s.taken;
            took = Consumes-trans a b c t.taken s.taken t.took s.took;
            within = omega (arith, below);
            cause = ((within_body size t.taken s.taken refl t.is short s.few, below), later_rose f m g le s.cause.0);
          }
      in_the_body f m g shortages.TooLong le s =
          let long : length (t.taken ++ s.taken) ≡ length t.taken + length s.taken = length-append t.taken s.taken in
          let four : length t.taken ≡ 4 = t.is.long in
          let top = s.cause in
          let all : at + length (t.taken ++ s.taken) ≡ MOST_SESSION_BYTES = omega (arith, long, four, top) in
          record {
            taken = t.taken ++ s.taken;
            took = Consumes-trans a b c t.taken s.taken t.took s.took;
            within = omega (arith, all);
            cause = (within_body size t.taken s.taken refl t.is short s.few, all);
          }

      -- the message is whole
      pub message_took : (len : ℕ) (body : List ℕ) → TookPiece (Exactly body) b c (at + 4) (at + 4 + len) → len ≡ size → length body ≡ len → TookPiece (IsSizedMessage body) a c at (at + 4 + size)
      message_took len body s same long =
          let both : length (t.taken ++ s.taken) ≡ length t.taken + length s.taken = length-append t.taken s.taken in
          let four : length t.taken ≡ 4 = t.is.long in
          let place = s.place in
          let w = s.within in
          record {
            taken = t.taken ++ s.taken;
            is = record {
              short = omega (arith, short, same, long);
              spelled = record { left = t.taken; right = s.taken; is = refl; first = let P : ℕ → Type 0 = λ n. IsNumber w32 n t.taken in subst P (sym (long ∙ same)) t.is; second = s.is };
            };
            took = Consumes-trans a b c t.taken s.taken t.took s.took;
            place = omega (arith, both, four, place, same);
            within = omega (arith, w, same);
          }
