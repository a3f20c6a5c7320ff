-- What a session tells by its status where nothing failed.
use Rattle.std.proofs.Common.{◌≡◌, ℕ, ◌+◌, ◌≤◌, ◌⊎◌, inl, inr, Bool, List, [], ◌∷◌, ◌++◌, length, append_assoc, append-nil, length-append, Option, Some, None, refl, sym, ap, subst, ◌∙◌, arith}
use Rattle.std.specs.Io.KnownBytes.{Consumes, IsAtEnd}
use Rattle.kr_calls.specs.declared.events.Event.{Event}
use Rattle.kr_defs.specs.declared.options.Options.{Options}
use Rattle.kr_stream.specs.Laws.{NoneBegins}
use Rattle.kr_stream.specs.Reader.{IsRefused}
use Rattle.kr_stream.proofs.FrameLaws.{refused_none, unfinished_none}
use Rattle.kr_process.specs.declared.status.Status.{Status}
use Rattle.kr_process.specs.declared.status.Status.TheVariants as statuses
use Rattle.kr_session_loop.specs.Session.{Progress, HasRead, IsSession, is_opened}
use Rattle.kr_session_loop.specs.Endings.{BreaksRightly, EndsWith, IsCut, RefusesBroken, ServesWhole, longest}
use Rattle.kr_session_loop.proofs.Streams.{whole_not_broken, one_break}

-- a longer front begins with a shorter one
longer_front : (a b x y : List ℕ) → a ++ x ≡ b ++ y → length a ≤ length b → (m : List ℕ) × (b ≡ a ++ m)
longer_front [] b x y same le = (b, refl)
longer_front (n ∷ a) [] x y same le = absurd (omega (arith, le))
longer_front (n ∷ a) (m ∷ b) x y same le =
    let head : n ≡ m = cc in
    let tail : a ++ x ≡ b ++ y = cc in
    let shorter : length a ≤ length b = omega (arith, le) in
    let r = longer_front a b x y tail shorter in
    (r.0, ap (λ (k : ℕ). k ∷ b) (sym head) ∙ ap (λ (l : List ℕ). n ∷ l) r.1)

module _ (stream : List ℕ) (left' written written' : Option (List ℕ)) where
  -- what is left behind what was taken
  behind_all : (l : Option (List ℕ)) (taken : List ℕ) → Consumes (Some stream) l taken → (behind : List ℕ) × (stream ≡ taken ++ behind)
  behind_all None taken took = absurd took
  behind_all (Some l) taken took = (l, took)

  -- no frame stands behind the whole ones
  break_behind : (l : Option (List ℕ)) (opened : Bool) (at : ℕ) (front rest : List ℕ) → Consumes (Some stream) l (front ++ rest)
      → IsRefused opened rest ⊎ (IsCut opened at rest × IsAtEnd l) → (behind : List ℕ) × (stream ≡ front ++ behind) × NoneBegins opened behind
  break_behind None opened at front rest took tells = absurd took
  break_behind (Some l) opened at front rest took (inl refused) = (rest ++ l, took ∙ append_assoc front rest l, refused_none opened rest l refused)
  break_behind (Some l) opened at front rest took (inr cut) =
      let none : l ≡ [] = cut.1 in (
        rest,
        took ∙ (ap (λ (m : List ℕ). (front ++ rest) ++ m) none ∙ append-nil (front ++ rest)),
        unfinished_none opened rest cut.0.0,
      )

  whole_ends : (status : Status) → EndsWith (Some stream) left' written written' status → (status ≡ statuses.Usage → ⊥) → (status ≡ statuses.ReadFault → ⊥) → (status ≡ statuses.WriteFault → ⊥)
      → (options : Options) (events : List Event) (session more : List ℕ) → stream ≡ session ++ more → IsSession options events session → length session ≤ longest
      → (status ≡ statuses.Done) ⊎ (status ≡ statuses.NoMemory)
  whole_ends statuses.Done ends usage read write options events session more same is short = inl refl
  whole_ends statuses.NoMemory ends usage read write options events session more same is short = inr refl
  whole_ends statuses.Usage ends usage read write options events session more same is short = absurd (usage refl)
  whole_ends statuses.ReadFault ends usage read write options events session more same is short = absurd (read refl)
  whole_ends statuses.WriteFault ends usage read write options events session more same is short = absurd (write refl)
  whole_ends (statuses.Malformed at) ends usage read write options events session more same is short =
      let b = break_behind left' (is_opened ends.progress) (length ends.front) ends.front ends.rest ends.took ends.behind.1 in
      absurd (whole_not_broken options events session more ends.progress ends.front b.0 (inr ends.bytes) is (sym same ∙ b.1) ends.read b.2)
  whole_ends statuses.TooLong ends usage read write options events session more same is short =
      let b = behind_all left' (ends.front ++ ends.rest) ends.took in
      let l = ends.behind.1 in
      let e = length-append ends.front ends.rest in
      let le : length session ≤ length (ends.front ++ ends.rest) = omega (arith, l, e, short) in
      let m = longer_front session (ends.front ++ ends.rest) more b.0 (sym same ∙ b.1) le in
      absurd (whole_not_broken options events session m.0 ends.progress ends.front ends.rest (inr ends.bytes) is (sym m.1) ends.read (unfinished_none (is_opened ends.progress) ends.rest ends.behind.0))

  broken_ends : (status : Status) → EndsWith (Some stream) left' written written' status → (status ≡ statuses.Usage → ⊥) → (status ≡ statuses.ReadFault → ⊥) → (status ≡ statuses.WriteFault → ⊥)
      → (progress : Progress) (front behind : List ℕ) → stream ≡ front ++ behind → HasRead progress front → NoneBegins (is_opened progress) behind
      → (status ≡ statuses.Malformed (length front)) ⊎ (status ≡ statuses.TooLong) ⊎ (status ≡ statuses.NoMemory)
  broken_ends statuses.Done ends usage read write progress front behind same has none =
      let b = behind_all left' ends.taken ends.took in
      absurd (whole_not_broken ends.options ends.events ends.taken b.0 progress front behind (inl ends.bytes) ends.session (sym b.1 ∙ same) has none)
  broken_ends statuses.NoMemory ends usage read write progress front behind same has none = inr (inr refl)
  broken_ends statuses.Usage ends usage read write progress front behind same has none = absurd (usage refl)
  broken_ends statuses.ReadFault ends usage read write progress front behind same has none = absurd (read refl)
  broken_ends statuses.WriteFault ends usage read write progress front behind same has none = absurd (write refl)
  broken_ends (statuses.Malformed at) ends usage read write progress front behind same has none =
      let b = break_behind left' (is_opened ends.progress) (length ends.front) ends.front ends.rest ends.took ends.behind.1 in
      let long = one_break ends.progress progress ends.front b.0 front behind (inl ends.bytes) ends.read b.2 has none (sym b.1 ∙ same) in
      inl (ap (λ (n : ℕ). statuses.Malformed n) (ends.behind.0 ∙ long))
  broken_ends statuses.TooLong ends usage read write progress front behind same has none = inr (inl refl)

  breaks : (status : Status) → EndsWith (Some stream) left' written written' status → BreaksRightly (Some stream) status
  breaks status ends at is =
      let e = subst (EndsWith (Some stream) left' written written') is ends in
      let b = break_behind left' (is_opened e.progress) (length e.front) e.front e.rest e.took e.behind.1 in
      (e.progress, e.front, b.0, b.1, e.read, e.behind.0, b.2)

pub serves_whole : (left left' written written' : Option (List ℕ)) (status : Status) → EndsWith left left' written written' status → (status ≡ statuses.Usage → ⊥) → (status ≡ statuses.ReadFault → ⊥) → (status ≡ statuses.WriteFault → ⊥)
    → ServesWhole left status
serves_whole None left' written written' status ends usage read write = tt
serves_whole (Some stream) left' written written' status ends usage read write = whole_ends stream left' written written' status ends usage read write

pub refuses_broken : (left left' written written' : Option (List ℕ)) (status : Status) → EndsWith left left' written written' status → (status ≡ statuses.Usage → ⊥) → (status ≡ statuses.ReadFault → ⊥) → (status ≡ statuses.WriteFault → ⊥)
    → RefusesBroken left status
refuses_broken None left' written written' status ends usage read write = tt
refuses_broken (Some stream) left' written written' status ends usage read write = broken_ends stream left' written written' status ends usage read write

pub breaks_rightly : (left left' written written' : Option (List ℕ)) (status : Status) → EndsWith left left' written written' status → BreaksRightly left status
breaks_rightly None left' written written' status ends = tt
breaks_rightly (Some stream) left' written written' status ends = breaks stream left' written written' status ends
