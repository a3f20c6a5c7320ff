-- How the serving of a connection goes on by one message, and how it ends.
use Rattle.std.proofs.Common.{◌≡◌, ◌∙◌, ℕ, ℤ, ◌+◌, ◌≤◌, List, [], ◌∷◌, ◌++◌, length, Option, refl, sym, ap, subst, inl, inr, arith, append-nil, length-append}
use Rattle.std.specs.Prelude.{None}
use Rattle.std.specs.Io.KnownBytes.{Consumes}
use Rattle.std.proofs.KnownBytes.{Consumes-nil, Consumes-trans}
use Rattle.kr_defs.specs.declared.limits.TheConstants.{MOST_SESSION_BYTES}
use Rattle.kr_wire.specs.Grammar.{Each}
use Rattle.kr_view.specs.declared.seat.CopyFault.TheVariants as copies
use Rattle.kr_shared.specs.declared.clients.SubmitFault.{SubmitFault}
use Rattle.kr_shared.specs.declared.clients.SubmitFault.TheVariants as submits
use Rattle.kr_server.specs.declared.end.ServeEnd.{ServeEnd}
use Rattle.kr_server.specs.declared.end.ServeEnd.TheVariants as ends
use Rattle.kr_server.specs.declared.exchange.Exchange.{Exchange}
use Rattle.kr_server.specs.Exchanges.{IsAskedFor, IsMessageOf}
use Rattle.kr_server.specs.Messages.{IsSizedMessage}
use Rattle.kr_server.specs.SeatCalls.{for_ask, Holder, IsWithoutMemory, PushesWrites, holder, pushed_writes}
use Rattle.kr_server.specs.Served.{Connection, EndsBehind, IsWithoutAnswer, IsWithoutCopy, Served, WroteReplies, WroteRepliesUpTo, connection}
use Rattle.kr_server.specs.inner.Reading.{IsUnread, TookPiece}
use Rattle.kr_server.specs.inner.Serving.{IsAnsweredBy, IsAnsweredInPart, IsNotAnswered, IsNotExchanged, IsSilent, ServedSoFar}
use Rattle.kr_server.proofs.Lists.{each_both, each_one, tells_more, tells_none, tells_same}
use Rattle.kr_server.proofs.Replies.{wrote_in_part, wrote_more, wrote_none, wrote_same}
use Rattle.kr_server.proofs.Writes.{asks_without_page, exchanged_more, exchanged_none, pushes_no_more, pushes_refused, pushes_those, pushes_unread, pushes_without_memory}

-- ---- one message after the other

-- before the first message
pub begins : (first : Connection) → ServedSoFar first first None 0
begins first = record {
  xs = [];
  front = [];
  pin = None;
  asked = refl;
  took = Consumes-nil first.left;
  place = refl;
  exchanged = exchanged_none (holder first.seat None);
  is_held = record { is = refl; kept = tt };
  wrote = wrote_none first.written;
  tells = tells_none first.told;
}

-- the message asks for the exchange, behind its size
sized_asked : (x : Exchange) (message bytes : List ℕ) → IsSizedMessage message bytes → IsAskedFor x message → IsMessageOf x bytes
sized_asked x message bytes sized asked = record { message = message; sized = sized; holds = asked }

module _ (first before : Connection) (held : Option ℤ) (at : ℕ) (g : ServedSoFar first before held at) where
  abbrev base : Holder
  base = holder first.seat None

  abbrev now : Holder
  now = holder before.seat g.pin

  -- ---- no message is read

  module _ (left' : Option (List ℕ)) (rest : List ℕ) (took : Consumes before.left left' rest) (within : length g.front + length rest ≤ MOST_SESSION_BYTES) where
    ended_in : (end : ServeEnd) → EndsBehind (length g.front) rest left' now before.seat end → WroteRepliesUpTo end first.written before.written g.xs
        → Served first (connection left' before.written before.told before.seat) end
    ended_in end behind wrote = record {
      xs = g.xs;
      front = g.front;
      rest = rest;
      mid = now;
      asked = g.asked;
      took = Consumes-trans first.left before.left left' g.front rest g.took took;
      within = within;
      exchanged = g.exchanged;
      behind = behind;
      wrote = wrote;
      tells = g.tells;
      pushed = pushes_those base now before.seat g.xs g.exchanged refl;
    }

  module _ (left' : Option (List ℕ)) (f h : ℕ) where
    unread_there : (end : ServeEnd) → IsUnread (length g.front) before.left left' f h end → Served first (connection left' before.written before.told before.seat) end
    unread_there ends.Closed u = ended_in left' u.taken u.took u.within ends.Closed (refl, u.cause.0, u.cause.1, u.cause.2) g.wrote
    unread_there (ends.Malformed place) u = ended_in left' u.taken u.took u.within (ends.Malformed place) (refl, u.cause.0, u.cause.1) g.wrote
    unread_there ends.ReadFault u = ended_in left' u.taken u.took u.within ends.ReadFault (refl, u.cause.0) g.wrote
    unread_there ends.WriteFault u = absurd u.cause
    unread_there ends.TooLong u = ended_in left' u.taken u.took u.within ends.TooLong (refl, u.cause.0, u.cause.1) g.wrote
    unread_there (ends.Ended number) u = absurd u.cause
    unread_there (ends.Ahead floor tip) u = absurd u.cause
    unread_there (ends.Exhausted tip) u = absurd u.cause
    unread_there ends.NoCopy u = absurd u.cause
    unread_there ends.NoMemory u = ended_in left' u.taken u.took u.within ends.NoMemory (elim u.cause [
      | inl begun ↦ inl (refl, begun)
      | inr whole ↦ inr (record { message = whole.message; sized = whole.sized; holds = for_ask refl })
    ]) g.wrote

    pub unread : (end : ServeEnd) → IsUnread at before.left left' f h end → Served first (connection left' before.written before.told before.seat) end
    unread end u = unread_there end (subst (λ (n : ℕ). IsUnread n before.left left' f h end) g.place u)

  -- ---- a message is read

  module _ (after : Connection) (message : List ℕ) (next : ℕ) (t : TookPiece (IsSizedMessage message) before.left after.left at next) where
    length_so : length (g.front ++ t.taken) ≡ next
    length_so = length-append g.front t.taken ∙ (ap (λ (n : ℕ). n + length t.taken) (sym g.place) ∙ sym t.place)

    took_so : Consumes first.left after.left (g.front ++ t.taken)
    took_so = Consumes-trans first.left before.left after.left g.front t.taken g.took t.took

    asked_too : (x : Exchange) → IsAskedFor x message → Each IsMessageOf (g.xs ++ x ∷ []) (g.front ++ t.taken)
    asked_too x asked = each_both IsMessageOf g.xs (x ∷ []) g.front t.taken g.asked (each_one IsMessageOf x t.taken (sized_asked x message t.taken t.is asked))

    -- it is answered
    pub goes_on : (left : Option ℤ) → IsAnsweredBy message before after g.pin left → ServedSoFar first after left next
    goes_on left a = record {
      xs = g.xs ++ a.x ∷ [];
      pin = a.left;
      front = g.front ++ t.taken;
      asked = asked_too a.x a.asked;
      took = took_so;
      place = sym length_so;
      exchanged = exchanged_more base now (holder after.seat a.left) g.xs a.x g.exchanged a.exchanged;
      is_held = a.is_held;
      wrote = wrote_more first.written before.written after.written g.xs g.wrote a.x a.fits a.wrote;
      tells = tells_more first.told before.told after.told g.xs (a.x ∷ []) g.tells a.tells;
    }

    -- it is answered in part
    answered_in_part : IsAnsweredInPart message before after g.pin → Served first after ends.WriteFault
    answered_in_part a = record {
      xs = g.xs ++ a.x ∷ [];
      front = g.front ++ t.taken;
      rest = [];
      mid = holder after.seat a.left;
      asked = asked_too a.x a.asked;
      took = subst (Consumes first.left after.left) (sym (append-nil (g.front ++ t.taken))) took_so;
      within = let w = t.within in omega (arith, length_so, w);
      exchanged = exchanged_more base now (holder after.seat a.left) g.xs a.x g.exchanged a.exchanged;
      behind = (refl, refl);
      wrote = wrote_in_part first.written before.written after.written g.xs g.wrote a.x a.fits a.wrote;
      tells = tells_more first.told before.told after.told g.xs (a.x ∷ []) g.tells a.tells;
      pushed = pushes_those base (holder after.seat a.left) after.seat (g.xs ++ a.x ∷ []) (exchanged_more base now (holder after.seat a.left) g.xs a.x g.exchanged a.exchanged) refl;
    }

    -- it is not answered
    module _ (silent : IsSilent before after) where
      not_answered : (end : ServeEnd) → EndsBehind (length g.front) t.taken after.left now after.seat end → WroteRepliesUpTo end first.written after.written g.xs
          → PushesWrites first.seat before.seat after.seat (pushed_writes g.xs) → Served first after end
      not_answered end behind wrote pushed = record {
        xs = g.xs;
        front = g.front;
        rest = t.taken;
        mid = now;
        asked = g.asked;
        took = took_so;
        within = let e = length-append g.front t.taken in let w = t.within in omega (arith, e, length_so, w);
        exchanged = g.exchanged;
        behind = behind;
        wrote = wrote;
        tells = tells_same first.told before.told after.told g.xs g.tells silent.tells;
        pushed = pushed;
      }

      wrote_so : WroteReplies first.written after.written g.xs
      wrote_so = wrote_same first.written before.written after.written g.xs g.wrote silent.wrote

      no_answer : (fault : SubmitFault) (end : ServeEnd) → IsWithoutAnswer before.seat after.seat fault end message → PushesWrites first.seat before.seat after.seat (pushed_writes g.xs)
      no_answer fault end (inl write) = pushes_refused base now after.seat g.xs g.exchanged fault message write
      no_answer fault end (inr page) = pushes_no_more base now after.seat g.xs g.exchanged (asks_without_page before.seat after.seat end message page)

      no_copy : IsWithoutCopy before.seat after.seat message → PushesWrites first.seat before.seat after.seat (pushed_writes g.xs)
      no_copy (inl read) = pushes_unread base now after.seat g.xs g.exchanged copies.NoCopy message read
      no_copy (inr page) = pushes_no_more base now after.seat g.xs g.exchanged (asks_without_page before.seat after.seat ends.NoCopy message page)

      refused : (end : ServeEnd) → (end ≡ ends.NoMemory → ⊥) → IsNotExchanged message before.seat after.seat end → Served first after end
      refused ends.Closed other n = absurd n
      refused (ends.Malformed place) other n = absurd n
      refused ends.ReadFault other n = absurd n
      refused ends.WriteFault other n = absurd n
      refused ends.TooLong other n = absurd n
      refused (ends.Ended number) other n =
          not_answered (ends.Ended number) (record { message = message; sized = t.is; holds = n }) wrote_so (no_answer (submits.Ended number) (ends.Ended number) n)
      refused (ends.Ahead floor tip) other n =
          not_answered (ends.Ahead floor tip) (record { message = message; sized = t.is; holds = n }) wrote_so (no_answer (submits.Ahead floor tip) (ends.Ahead floor tip) n)
      refused (ends.Exhausted tip) other n =
          not_answered (ends.Exhausted tip) (record { message = message; sized = t.is; holds = n }) wrote_so (pushes_refused base now after.seat g.xs g.exchanged (submits.Exhausted tip) message n)
      refused ends.NoCopy other n = not_answered ends.NoCopy (record { message = message; sized = t.is; holds = n }) wrote_so (no_copy n)
      refused ends.NoMemory other n = absurd (other refl)

      no_memory : IsWithoutMemory now after.seat message → Served first after ends.NoMemory
      no_memory n = not_answered ends.NoMemory (inr (record { message = message; sized = t.is; holds = n })) wrote_so (pushes_without_memory base now after.seat g.xs g.exchanged message n)

    pub fails : (end : ServeEnd) → IsNotAnswered message before after g.pin end → Served first after end
    fails ends.WriteFault a = answered_in_part a
    fails ends.Closed a = refused a.0 ends.Closed (λ e. cc) a.1
    fails (ends.Malformed place) a = refused a.0 (ends.Malformed place) (λ e. cc) a.1
    fails ends.ReadFault a = refused a.0 ends.ReadFault (λ e. cc) a.1
    fails ends.TooLong a = refused a.0 ends.TooLong (λ e. cc) a.1
    fails (ends.Ended number) a = refused a.0 (ends.Ended number) (λ e. cc) a.1
    fails (ends.Ahead floor tip) a = refused a.0 (ends.Ahead floor tip) (λ e. cc) a.1
    fails (ends.Exhausted tip) a = refused a.0 (ends.Exhausted tip) (λ e. cc) a.1
    fails ends.NoCopy a = refused a.0 ends.NoCopy (λ e. cc) a.1
    fails ends.NoMemory a = no_memory a.0 a.1
