-- A frame is taken from a source: its size, and what stands behind it; or why there is none.
use Rattle.std.proofs.Common.{◌≡◌, ◌∙◌, ℕ, zero, suc, ◌+◌, ◌<◌, ◌≤◌, inl, inr, List, [], ◌∷◌, ◌++◌, length, append-nil, length-append, Option, refl, sym, ap, subst, arith}
use Rattle.std.specs.Int.{w32, from_be_bytes}
use Rattle.std.specs.Io.KnownBytes.{Consumes, IsAtEnd}
use Rattle.kr_base.proofs.Pieces.{consumes_more}
use Rattle.kr_defs.specs.declared.limits.TheConstants.{MOST_SESSION_BYTES}
use Rattle.kr_intake.specs.declared.taking.Shortage.TheVariants as shortages
use Rattle.kr_intake.specs.Shortages.{FallsShort}
use Rattle.kr_process.specs.declared.status.Status.{Status}
use Rattle.kr_process.specs.declared.status.Status.TheVariants as statuses
use Rattle.kr_wire.specs.Grammar.{IsNumber}
use Rattle.kr_door_loop.specs.declared.limits.TheConstants.{MOST_QUESTION_BYTES}
use Rattle.kr_door_loop.specs.Endings.{SaysNoSize, IsFrameFront, in_content, in_size}
use Rattle.kr_door_loop.specs.inner.Steps.{StopsAt, StopsBy, TookFrame, TookSize}

empty_of : (xs : List ℕ) → 0 ≡ length xs → xs ≡ []
empty_of [] is = refl
empty_of (x ∷ xs) is = absurd (omega (arith, is))

-- ---- the size

module _ (at : ℕ) (left left' : Option (List ℕ)) (f f' : ℕ) where
  pub ended : (count : ℕ) (status : Status) → FallsShort at 4 left left' f f' (shortages.Ended count) → (count ≡ 0 → status ≡ statuses.Done) → (0 < count → status ≡ statuses.Malformed at) → StopsAt at left left' status
  ended zero status short end cut =
      let below = short.cause.2 in
      subst (StopsAt at left left') (sym (end refl)) (record {
        taken = short.taken;
        took = short.took;
        within = omega (arith, below);
        why = (empty_of short.taken short.cause.0, short.cause.1);
      })
  ended (suc count) status short end cut =
      let below = short.cause.2 in
      let came = short.cause.0 in
      let some : 0 < suc count = omega arith in
      let long : 0 < length short.taken = omega (arith, came) in
      subst (StopsAt at left left') (sym (cut some)) (record {
        taken = short.taken;
        took = short.took;
        within = omega (arith, below);
        why = (refl, inr (in_size short.few, long, short.cause.1));
      })

  pub size_unread : FallsShort at 4 left left' f f' shortages.ReadFault → StopsAt at left left' statuses.ReadFault
  size_unread short =
      let below = short.cause.1 in
      record { taken = short.taken; took = short.took; within = omega (arith, below); why = in_size short.few }

  pub size_too_long : FallsShort at 4 left left' f f' shortages.TooLong → StopsAt at left left' statuses.TooLong
  size_too_long short =
      let all = short.cause in
      record { taken = short.taken; took = short.took; within = omega (arith, all); why = (in_size short.few, short.cause) }

module _ (at : ℕ) (left left' : Option (List ℕ)) (bytes : List ℕ) (size : ℕ) (took : Consumes left left' bytes) (long : length bytes ≡ 4) (said : size ≡ from_be_bytes w32 bytes) (room : at + 4 ≤ MOST_SESSION_BYTES) where
  number : IsNumber w32 size bytes
  number = record { long = long; spelled = said }

  pub no_size : size ≡ 0 → StopsAt at left left' (statuses.Malformed at)
  no_size none = record { taken = bytes; took = took; within = omega (arith, long, room); why = (refl, inl (record { size = size; said = number; none = inl none })) }

  pub large_size : MOST_QUESTION_BYTES < size → StopsAt at left left' (statuses.Malformed at)
  large_size large = record { taken = bytes; took = took; within = omega (arith, long, room); why = (refl, inl (record { size = size; said = number; none = inr large })) }

  pub took_size : 0 < size → size ≤ MOST_QUESTION_BYTES → TookSize at left left' size
  took_size some few = record { taken = bytes; said = number; took = took; some = some; few = few; within = room }

-- ---- what stands behind it

module _ (at : ℕ) (left mid left' : Option (List ℕ)) (size : ℕ) (t : TookSize at left mid size) where
  pub no_room : StopsAt at left mid statuses.NoMemory
  no_room =
      let long : length t.taken ≡ 4 = t.said.long in
      let within = t.within in
      record {
        taken = t.taken;
        took = t.took;
        within = omega (arith, long, within);
        why = in_content size t.taken [] (sym (append-nil t.taken)) t.said t.some t.few t.some;
      }

  module _ (f f' len : ℕ) (same : len ≡ size) where
    cut : (s : List ℕ) → length s < len → IsFrameFront (t.taken ++ s)
    cut s few = in_content size t.taken s refl t.said t.some t.few (subst (λ (n : ℕ). length s < n) same few)

    both : (s : List ℕ) → Consumes mid left' s → Consumes left left' (t.taken ++ s)
    both s took = consumes_more left mid left' t.taken s t.took took

    longer : (s : List ℕ) → at + length (t.taken ++ s) ≡ (at + 4) + length s
    longer s =
        let joined = length-append t.taken s in
        let long : length t.taken ≡ 4 = t.said.long in
        omega (arith, joined, long)

    pub cut_content : (count : ℕ) → FallsShort (at + 4) len mid left' f f' (shortages.Ended count) → StopsAt at left left' (statuses.Malformed at)
    cut_content count short =
        let below = short.cause.2 in
        let place = longer short.taken in
        let joined = length-append t.taken short.taken in
        let long : length t.taken ≡ 4 = t.said.long in
        let some : 0 < length (t.taken ++ short.taken) = omega (arith, joined, long) in
        record {
          taken = t.taken ++ short.taken;
          took = both short.taken short.took;
          within = omega (arith, below, place);
          why = (refl, inr (cut short.taken short.few, some, short.cause.1));
        }

    pub unread_content : FallsShort (at + 4) len mid left' f f' shortages.ReadFault → StopsAt at left left' statuses.ReadFault
    unread_content short =
        let below = short.cause.1 in
        let place = longer short.taken in
        record { taken = t.taken ++ short.taken; took = both short.taken short.took; within = omega (arith, below, place); why = cut short.taken short.few }

    pub long_content : FallsShort (at + 4) len mid left' f f' shortages.TooLong → StopsAt at left left' statuses.TooLong
    long_content short =
        let all = short.cause in
        let place = longer short.taken in
        record {
          taken = t.taken ++ short.taken;
          took = both short.taken short.took;
          within = omega (arith, all, place);
          why = (cut short.taken short.few, place ∙ all);
        }

  pub took_frame : (content : List ℕ) → Consumes mid left' content → length content ≡ size → (at + 4) + size ≤ MOST_SESSION_BYTES → TookFrame at left left' content
  took_frame content took long room =
      let some = t.some in
      let few = t.few in
      record {
        taken = t.taken ++ content;
        is = record { left = t.taken; right = content; is = refl; first = subst (λ (n : ℕ). IsNumber w32 n t.taken) (sym long) t.said; second = refl };
        took = consumes_more left mid left' t.taken content t.took took;
        fits = (omega (arith, some, long), omega (arith, few, long));
        within = omega (arith, room, long);
      }
