-- Two readings of one stream are one: whole messages are served out, and others up to where they break.
use Rattle.std.proofs.Common.{◌≡◌, ◌∙◌, ℕ, ◌+◌, ◌<◌, List, [], ◌∷◌, ◌++◌, length, Option, Some, None, inl, inr, refl, sym, ap, subst, arith, append_assoc, append-nil, length-append}
use Rattle.std.specs.Int.{w32}
use Rattle.std.specs.Io.KnownBytes.{Consumes, IsAtEnd}
use Rattle.kr_wire.specs.Grammar.{Each, IsNumber}
use Rattle.kr_defs.specs.declared.limits.TheConstants.{MOST_SESSION_BYTES}
use Rattle.kr_server.specs.declared.end.ServeEnd.{ServeEnd}
use Rattle.kr_server.specs.declared.end.ServeEnd.TheVariants as ends
use Rattle.kr_server.specs.declared.exchange.Exchange.{Exchange}
use Rattle.kr_server.specs.Exchanges.{IsMessageOf}
use Rattle.kr_server.specs.Messages.{IsBrokenMessage, IsMessageBegun, IsSizeTooGreat, IsSizedMessage, within_body, within_size}
use Rattle.kr_server.specs.Served.{AreMessages, Connection, IsServedOut, IsServedUpTo, NoMessageBegins, Served, ServesMessages, ServesUpToBreak}

-- fronts of one length are one
same_fronts : (a b x y : List ℕ) → length a ≡ length b → a ++ x ≡ b ++ y → (a ≡ b) × (x ≡ y)
same_fronts [] [] x y long same = (refl, same)
same_fronts [] (m ∷ b) x y long same = absurd (omega (arith, long))
same_fronts (n ∷ a) [] x y long same = absurd (omega (arith, long))
same_fronts (n ∷ a) (m ∷ b) x y long same =
    let head : n ≡ m = cc in
    let tail : a ++ x ≡ b ++ y = cc in
    let r = same_fronts a b x y (omega (arith, long)) tail in
    (ap (λ (k : ℕ). k ∷ a) head ∙ ap (λ (l : List ℕ). m ∷ l) r.0, r.1)

-- the sizes at the front of one stream are one
sizes_once : (p q : ℕ) (a b x y : List ℕ) → IsNumber w32 p a → IsNumber w32 q b → a ++ x ≡ b ++ y → (p ≡ q) × (x ≡ y)
sizes_once p q a b x y first second same =
    let r = same_fronts a b x y (first.long ∙ sym second.long) same in
    let P : List ℕ → Type 0 = λ l. IsNumber w32 p l in
    let again = subst P r.0 first in
    (again.spelled ∙ sym second.spelled, r.1)

-- a message behind its size, with what is behind it
parts_of : (message a x : List ℕ) (s : IsSizedMessage message a) → a ++ x ≡ s.spelled.left ++ (message ++ x)
parts_of message a x s =
    ap (λ (l : List ℕ). l ++ x) s.spelled.is ∙ (append_assoc s.spelled.left s.spelled.right x ∙ ap (λ (l : List ℕ). s.spelled.left ++ (l ++ x)) s.spelled.second)

-- the messages at the front of one stream are one
messages_once : (m n a b x y : List ℕ) → IsSizedMessage m a → IsSizedMessage n b → a ++ x ≡ b ++ y → x ≡ y
messages_once m n a b x y first second same =
    let r = sizes_once (length m) (length n) first.spelled.left second.spelled.left (m ++ x) (n ++ y) first.spelled.first second.spelled.first
    (sym (parts_of m a x first) ∙ (same ∙ parts_of n b y second)) in
    (same_fronts m n x y r.0 r.1).1

first_lengths : (m n a b x y : List ℕ) → IsSizedMessage m a → IsSizedMessage n b → a ++ x ≡ b ++ y → length a ≡ length b
first_lengths m n a b x y first second same =
    let r = messages_once m n a b x y first second same in
    let e : length a + length x ≡ length b + length y = sym (length-append a x) ∙ (ap length same ∙ length-append b y) in
    omega (arith, e, ap length r)

-- a message has some bytes
message_length : (m a : List ℕ) → IsSizedMessage m a → 0 < length a
message_length m a s =
    let long : length s.spelled.left ≡ 4 = s.spelled.first.long in
    let e = ap length s.spelled.is ∙ length-append s.spelled.left s.spelled.right in
    omega (arith, long, e)

behind_first : (a b c x y : List ℕ) → a ≡ b ++ c → a ++ x ≡ y → b ++ (c ++ x) ≡ y
behind_first a b c x y parts same = sym (append_assoc b c x) ∙ (ap (λ (l : List ℕ). l ++ x) (sym parts) ∙ same)

-- behind messages at the front of whole messages there are whole messages
messages_behind : (ns : List (List ℕ)) (front rest : List ℕ) (ms : List (List ℕ)) (stream : List ℕ) → AreMessages ms stream → AreMessages ns front → front ++ rest ≡ stream
    → (more : List (List ℕ)) × AreMessages more rest
messages_behind [] front rest ms stream whole none same =
    (ms, subst (AreMessages ms) (sym same ∙ ap (λ (l : List ℕ). l ++ rest) none) whole)
messages_behind (n ∷ ns) front rest [] stream whole each same =
    let long = message_length n each.left each.first in
    let e = ap length each.is ∙ length-append each.left each.right in
    let f : length front + length rest ≡ length stream = sym (length-append front rest) ∙ ap length same in
    let zero : length stream ≡ 0 = ap length whole in
    absurd (omega (arith, long, e, f, zero))
messages_behind (n ∷ ns) front rest (m ∷ ms) stream whole each same =
    let tail = messages_once n m each.left whole.left (each.right ++ rest) whole.right each.first whole.first (behind_first front each.left each.right rest (whole.left ++ whole.right) each.is (same ∙ whole.is)) in
    messages_behind ns each.right rest ms whole.right whole.second each.second tail

-- the exchanges' messages
messages_of : (xs : List Exchange) (front : List ℕ) → Each IsMessageOf xs front → (ns : List (List ℕ)) × AreMessages ns front
messages_of [] front none = ([], none)
messages_of (x ∷ xs) front each =
    let r = messages_of xs each.right each.second in
    (each.first.message ∷ r.0, record { left = each.left; right = each.right; is = each.is; first = each.first.sized; second = r.1 })

-- ---- where it breaks, no message begins

too_great_none : (rest l : List ℕ) → IsSizeTooGreat rest → NoMessageBegins (rest ++ l)
too_great_none rest l g message front behind parts s =
    let r = sizes_once g.size (length message) rest s.spelled.left l (message ++ behind) g.spelled s.spelled.first (parts ∙ parts_of message front behind s) in
    let short = s.short in
    let great = g.great in
    absurd (omega (arith, short, great, r.0))

begun_none : (rest : List ℕ) → IsMessageBegun rest → NoMessageBegins rest
begun_none rest (within_size few) message front behind parts s =
    let four : length s.spelled.left ≡ 4 = s.spelled.first.long in
    let e = ap length (parts ∙ parts_of message front behind s) ∙ length-append s.spelled.left (message ++ behind) in
    absurd (omega (arith, few, four, e))
begun_none rest (within_body size head body is spelled short few) message front behind parts s =
    let r = sizes_once size (length message) head s.spelled.left body (message ++ behind) spelled s.spelled.first (sym is ∙ (parts ∙ parts_of message front behind s)) in
    let e = ap length r.1 ∙ length-append message behind in
    absurd (omega (arith, few, e, r.0))

broken_none : (at : ℕ) (rest l : List ℕ) → IsBrokenMessage at rest (Some l) → NoMessageBegins (rest ++ l)
broken_none at rest l (inl great) = too_great_none rest l great
broken_none at rest l (inr cut) =
    let none : l ≡ [] = cut.2 in
    let whole : rest ≡ rest ++ l = sym (ap (λ (m : List ℕ). rest ++ m) none ∙ append-nil rest) in
    subst NoMessageBegins whole (begun_none rest cut.1.0)

broken_some : (at : ℕ) (rest l : List ℕ) → IsBrokenMessage at rest (Some l) → 0 < length (rest ++ l)
broken_some at rest l (inl great) =
    let four : length rest ≡ 4 = great.spelled.long in
    let e = length-append rest l in
    omega (arith, four, e)
broken_some at rest l (inr cut) =
    let some = cut.0 in
    let e = length-append rest l in
    omega (arith, some, e)

-- where bytes are left with which none begins, they are no messages
not_messages : (ms : List (List ℕ)) (bytes : List ℕ) → AreMessages ms bytes → 0 < length bytes → NoMessageBegins bytes → ⊥
not_messages [] bytes none some nothing = let zero : length bytes ≡ 0 = ap length none in omega (arith, zero, some)
not_messages (m ∷ ms) bytes each some nothing = nothing m each.left each.right each.is each.first

-- the place at which no message begins is one
one_break : (ms ns : List (List ℕ)) (a b x y : List ℕ) → AreMessages ms a → AreMessages ns b → NoMessageBegins x → NoMessageBegins y → a ++ x ≡ b ++ y → length a ≡ length b
one_break [] [] a b x y none other nox noy same = ap length none ∙ sym (ap length other)
one_break [] (n ∷ ns) a b x y none each nox noy same =
    absurd (nox n each.left (each.right ++ y) (sym (behind_first b each.left each.right y x each.is (sym same ∙ ap (λ (l : List ℕ). l ++ x) none))) each.first)
one_break (m ∷ ms) [] a b x y each none nox noy same =
    absurd (noy m each.left (each.right ++ x) (sym (behind_first a each.left each.right x y each.is (same ∙ ap (λ (l : List ℕ). l ++ y) none))) each.first)
one_break (m ∷ ms) (n ∷ ns) a b x y each other nox noy same =
    let stream : each.left ++ (each.right ++ x) ≡ other.left ++ (other.right ++ y) =
    behind_first a each.left each.right x _ each.is (same ∙ (ap (λ (l : List ℕ). l ++ y) other.is ∙ append_assoc other.left other.right y)) in
    let tail = messages_once m n each.left other.left (each.right ++ x) (other.right ++ y) each.first other.first stream in
    let long = one_break ms ns each.right other.right x y each.second other.second nox noy tail in
    let firsts : length each.left ≡ length other.left = first_lengths m n each.left other.left (each.right ++ x) (other.right ++ y) each.first other.first stream in
    let e = ap length each.is ∙ length-append each.left each.right in
    let f = ap length other.is ∙ length-append other.left other.right in
    omega (arith, long, firsts, e, f)

-- ---- what a connection comes to where no count rose

-- what the ends say, of a stream that is known
module _ (stream l front rest : List ℕ) (ns : List (List ℕ)) (read : AreMessages ns front) (took : stream ≡ (front ++ rest) ++ l) where
  parted : front ++ (rest ++ l) ≡ stream
  parted = sym (took ∙ append_assoc front rest l)

  -- whole messages don't break
  whole_unbroken : (at : ℕ) (ms : List (List ℕ)) → AreMessages ms stream → IsBrokenMessage at rest (Some l) → ⊥
  whole_unbroken at ms whole broken =
      let r = messages_behind ns front (rest ++ l) ms stream whole read parted in
      not_messages r.0 (rest ++ l) r.1 (broken_some at rest l broken) (broken_none at rest l broken)

  module _ (ms : List (List ℕ)) (begun behind : List ℕ) (parts : stream ≡ begun ++ behind) (whole : AreMessages ms begun) (none : NoMessageBegins behind) where
    -- messages that break don't end
    broken_unended : 0 < length behind → rest ≡ [] → l ≡ [] → ⊥
    broken_unended some no_rest no_l =
        let all : stream ≡ front = took ∙ (ap (λ (m : List ℕ). (front ++ m) ++ l) no_rest ∙ (ap (λ (m : List ℕ). m ++ l) (append-nil front) ∙ (ap (λ (m : List ℕ). front ++ m) no_l ∙ append-nil front))) in
        let r = messages_behind ms begun behind ns front read whole (sym parts ∙ all) in
        not_messages r.0 behind r.1 some none

    broken_there : (at : ℕ) → IsBrokenMessage at rest (Some l) → length front ≡ length begun
    broken_there at broken = one_break ns ms front begun (rest ++ l) behind read whole (broken_none at rest l broken) none (parted ∙ parts)

module _ (stream : List ℕ) (before after : Connection) (known : before.left ≡ Some stream) where
  module _ (end : ServeEnd) (s : Served before after end) where
    consumed : Consumes (Some stream) after.left (s.front ++ s.rest)
    consumed = subst (λ (o : Option (List ℕ)). Consumes o after.left (s.front ++ s.rest)) known s.took

  left_of : (o : Option (List ℕ)) (taken : List ℕ) → Consumes (Some stream) o taken → (l : List ℕ) × (o ≡ Some l) × (stream ≡ taken ++ l)
  left_of None taken took = absurd took
  left_of (Some l) taken took = (l, refl, took)

  broken_left : (at : ℕ) (rest : List ℕ) (o : Option (List ℕ)) (l : List ℕ) → o ≡ Some l → IsBrokenMessage at rest o → IsBrokenMessage at rest (Some l)
  broken_left at rest o l is broken = subst (IsBrokenMessage at rest) is broken

  pub served_out : (end : ServeEnd) → Served before after end → (end ≡ ends.ReadFault → ⊥) → (end ≡ ends.WriteFault → ⊥) → (end ≡ ends.NoCopy → ⊥)
      → (ms : List (List ℕ)) → AreMessages ms stream → length stream < MOST_SESSION_BYTES → IsServedOut end
  served_out ends.Closed s read write copy ms whole short = tt
  served_out (ends.Malformed place) s read write copy ms whole short =
      let t = left_of after.left (s.front ++ s.rest) (consumed (ends.Malformed place) s) in
      let ns = messages_of s.xs s.front s.asked in
      whole_unbroken stream t.0 s.front s.rest ns.0 ns.1 t.2 (length s.front) ms whole (broken_left (length s.front) s.rest after.left t.0 t.1 s.behind.2)
  served_out ends.ReadFault s read write copy ms whole short = read refl
  served_out ends.WriteFault s read write copy ms whole short = write refl
  served_out ends.TooLong s read write copy ms whole short =
      let t = left_of after.left (s.front ++ s.rest) (consumed ends.TooLong s) in
      let e = ap length t.2 ∙ length-append (s.front ++ s.rest) t.0 in
      let f = length-append s.front s.rest in
      let all = s.behind.2 in
      omega (arith, e, f, all, short)
  served_out (ends.Ended number) s read write copy ms whole short = tt
  served_out (ends.Ahead floor tip) s read write copy ms whole short = tt
  served_out (ends.Exhausted tip) s read write copy ms whole short = tt
  served_out ends.NoCopy s read write copy ms whole short = copy refl
  served_out ends.NoMemory s read write copy ms whole short = tt

  pub served_up_to : (end : ServeEnd) → Served before after end → (end ≡ ends.ReadFault → ⊥) → (end ≡ ends.WriteFault → ⊥) → (end ≡ ends.NoCopy → ⊥)
      → (ms : List (List ℕ)) (begun behind : List ℕ) → stream ≡ begun ++ behind → AreMessages ms begun → 0 < length behind → NoMessageBegins behind → IsServedUpTo (length begun) end
  served_up_to ends.Closed s read write copy ms begun behind parts whole some none =
      let t = left_of after.left (s.front ++ s.rest) (consumed ends.Closed s) in
      let ns = messages_of s.xs s.front s.asked in
      let over : t.0 ≡ [] = subst IsAtEnd t.1 s.behind.2 in
      broken_unended stream t.0 s.front s.rest ns.0 ns.1 t.2 ms begun behind parts whole none some s.behind.1 over
  served_up_to (ends.Malformed place) s read write copy ms begun behind parts whole some none =
      let t = left_of after.left (s.front ++ s.rest) (consumed (ends.Malformed place) s) in
      let ns = messages_of s.xs s.front s.asked in
      s.behind.1 ∙ broken_there stream t.0 s.front s.rest ns.0 ns.1 t.2 ms begun behind parts whole none (length s.front) (broken_left (length s.front) s.rest after.left t.0 t.1 s.behind.2)
  served_up_to ends.ReadFault s read write copy ms begun behind parts whole some none = read refl
  served_up_to ends.WriteFault s read write copy ms begun behind parts whole some none = write refl
  served_up_to ends.TooLong s read write copy ms begun behind parts whole some none = tt
  served_up_to (ends.Ended number) s read write copy ms begun behind parts whole some none = tt
  served_up_to (ends.Ahead floor tip) s read write copy ms begun behind parts whole some none = tt
  served_up_to (ends.Exhausted tip) s read write copy ms begun behind parts whole some none = tt
  served_up_to ends.NoCopy s read write copy ms begun behind parts whole some none = copy refl
  served_up_to ends.NoMemory s read write copy ms begun behind parts whole some none = tt

module _ (before after : Connection) (end : ServeEnd) (s : Served before after end) (read : end ≡ ends.ReadFault → ⊥) (write : end ≡ ends.WriteFault → ⊥) (copy : end ≡ ends.NoCopy → ⊥) where
  all_served : (o : Option (List ℕ)) → before.left ≡ o → ServesMessages o end
  all_served None is = tt
  all_served (Some stream) is = served_out stream before after is end s read write copy

  pub serves_messages : ServesMessages before.left end
  serves_messages = all_served before.left refl

  all_up_to : (o : Option (List ℕ)) → before.left ≡ o → ServesUpToBreak o end
  all_up_to None is = tt
  all_up_to (Some stream) is = served_up_to stream before after is end s read write copy

  pub serves_up_to_break : ServesUpToBreak before.left end
  serves_up_to_break = all_up_to before.left refl
