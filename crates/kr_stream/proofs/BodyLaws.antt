-- The laws of the bodies of frames: what is read stands for its value, and what stands is read.
use Rattle.std.proofs.Common.{le→leb, zero-le, ◌≡◌, ℕ, ◌-◌, ◌≤◌, true, false, List, [], ◌++◌, length, drop, Result, Ok, Err, refl, sym, ap, subst, ◌∙◌, arith}
use Rattle.std.specs.Prelude.{ℤ, pos, negsuc, int_lt, ◌≤ℤ◌}
use Rattle.std.specs.Int.{w16, w32, w64}
use Rattle.std.proofs.lemmas.List.{append-nil, length-drop, drop_all}
use Rattle.std.proofs.lemmas.Bool.Decides.{nat_tests}
use Rattle.kr_wire.specs.declared.WireFault.TheVariants.{TooBig}
use Rattle.kr_wire.specs.Reading.{Read, signed_at}
use Rattle.kr_wire.specs.Grammar.{◌⌢◌, IsNumber, IsSigned}
use Rattle.kr_wire.proofs.ReadingLaws.{IsBytes, Law, Yields, Front, joined, ok_rest, ok_value, read_ok, sound_then, sound_last, sound_guard, sound_done, complete_then, complete_last, complete_guard, complete_bind, whole_sound, whole_complete}
use Rattle.kr_wire.proofs.Numbers.{number_law, signed_law}
use Rattle.kr_defs.specs.declared.options.Options.{Options}
use Rattle.kr_calls.specs.declared.events.Event.{Event}
use Rattle.kr_calls.specs.declared.events.Event.TheVariants as events
use Rattle.kr_stream.specs.declared.kind.FrameKind.{FrameKind}
use Rattle.kr_stream.specs.declared.kind.FrameKind.TheVariants as kinds
use Rattle.kr_stream.specs.Frames.{IsTime, IsEventBody, IsOptions, IsTextRest, kind_of_event}
use Rattle.kr_stream.specs.inner.Bodies.{IsEventOf, is_of_numbers, time_at, lead_at, commit_at, lost_at, tick_at, numbers_at, IsStamp, stamp_at, AreSpelled, options_at}

-- ---- numbers

natural : (z : ℤ) → int_lt z (pos 0) ≡ false → pos 0 ≤ℤ z
natural (pos n) e = record { le = le→leb 0 n zero-le }
natural (negsuc n) e = absurd cc

not_negative : (z : ℤ) → pos 0 ≤ℤ z → int_lt z (pos 0) ≡ false
not_negative (pos n) le = grind (arith, nat_tests)
not_negative (negsuc n) le = absurd le.le

pub time_law : Law IsTime time_at
unfolding time_at
time_law = record {
  sound = λ bytes fits. sound_then (signed_law w64) IsTime _ bytes fits (λ now a rest first more.
      sound_guard _ rest (int_lt now (pos 0)) TooBig _ (λ passed.
      sound_done _ rest now (rw append-nil (record { natural = natural now passed; spelled = first }))));
  complete = λ now front rest is. complete_bind (signed_at w64 (front ++ rest)) _ (now, rest) (now, rest) ((signed_law w64).complete now front rest is.spelled) (complete_guard _ _ _ _ (not_negative now is.natural) refl);
}

numbers_sound : (kind : FrameKind) → is_of_numbers kind ≡ true → (bytes : List ℕ) → IsBytes bytes → Yields (IsEventOf kind) bytes (numbers_at kind bytes)
unfolding lead_at commit_at lost_at tick_at
numbers_sound kinds.Lead e bytes fits =
    sound_then (signed_law w32) (IsEventOf kinds.Lead) _ bytes fits (λ epoch a rest first more.
    sound_then (signed_law w64) _ _ rest more (λ next b rest second more.
    sound_last time_law _ (λ now. events.Lead epoch next now) rest more (λ now c third.
    record { named = refl; is = joined a (b ++ c) first (joined b c second third) })))
numbers_sound kinds.Commit e bytes fits =
    sound_then (signed_law w32) (IsEventOf kinds.Commit) _ bytes fits (λ epoch a rest first more.
    sound_last (signed_law w64) _ (λ end. events.Commit epoch end) rest more (λ end b second.
    record { named = refl; is = joined a b first second }))
numbers_sound kinds.Lost e bytes fits =
    sound_last (signed_law w32) (IsEventOf kinds.Lost) (λ epoch. events.Lost epoch) bytes fits (λ epoch a first. record { named = refl; is = first })
numbers_sound kinds.Tick e bytes fits =
    sound_last time_law (IsEventOf kinds.Tick) (λ now. events.Tick now) bytes fits (λ now a first. record { named = refl; is = first })
numbers_sound kinds.Image e bytes fits = sound_done (IsEventOf kinds.Image) bytes events.Image (record { named = refl; is = refl })
numbers_sound kinds.Open e bytes fits = absurd cc
numbers_sound kinds.Batch e bytes fits = absurd cc
numbers_sound kinds.Load e bytes fits = absurd cc
numbers_sound kinds.Request e bytes fits = absurd cc
numbers_sound kinds.End e bytes fits = absurd cc

event_complete : (event : Event) → is_of_numbers (kind_of_event event) ≡ true → (bytes rest : List ℕ) → IsEventBody event bytes
    → numbers_at (kind_of_event event) (bytes ++ rest) ≡ Ok (event, rest)
unfolding lead_at commit_at lost_at tick_at
event_complete (events.Lead epoch next now) e bytes rest is =
    complete_then (signed_law w32) epoch (IsSigned w64 next ⌢ IsTime now) _ _ rest
    (complete_then (signed_law w64) next (IsTime now) _ _ rest
    (complete_last time_law now (λ now. events.Lead epoch next now) rest)) bytes is
event_complete (events.Commit epoch end) e bytes rest is =
    complete_then (signed_law w32) epoch (IsSigned w64 end) _ _ rest
    (complete_last (signed_law w64) end (λ end. events.Commit epoch end) rest) bytes is
event_complete (events.Lost epoch) e bytes rest is = complete_last (signed_law w32) epoch (λ epoch. events.Lost epoch) rest bytes is
event_complete (events.Tick now) e bytes rest is = complete_last time_law now (λ now. events.Tick now) rest bytes is
event_complete events.Image e bytes rest is = ap (λ (l : List ℕ). read_ok events.Image (l ++ rest)) is
event_complete (events.Batch b) e bytes rest is = absurd cc
event_complete (events.Load b) e bytes rest is = absurd cc
event_complete (events.Request client now ask) e bytes rest is = absurd cc

numbers_complete : (kind : FrameKind) → is_of_numbers kind ≡ true → (event : Event) (front rest : List ℕ) → IsEventOf kind event front → numbers_at kind (front ++ rest) ≡ Ok (event, rest)
numbers_complete kind e event front rest is =
    let P : FrameKind → Type 0 = λ k. numbers_at k (front ++ rest) ≡ Ok (event, rest) in
    subst P is.named (event_complete event (ap is_of_numbers is.named ∙ e) front rest is.is)

pub numbers_law : (kind : FrameKind) → is_of_numbers kind ≡ true → Law (IsEventOf kind) (numbers_at kind)
numbers_law kind e = record { sound = numbers_sound kind e; complete = numbers_complete kind e }

pub stamp_law : Law IsStamp stamp_at
unfolding stamp_at
stamp_law = record {
  sound = λ bytes fits. sound_then (number_law w32) IsStamp _ bytes fits (λ client a rest first more.
      sound_last time_law _ (λ now. (client, now)) rest more (λ now b second.
      joined a b first second));
  complete = λ x bytes rest is.
      complete_then (number_law w32) x.0 (IsTime x.1) _ _ rest
      (complete_last time_law x.1 (λ now. (x.0, now)) rest) bytes is;
}

-- ---- Open

all_of : (bytes : List ℕ) (o : Options) (Is : Options → List ℕ → Type 0) → Is o bytes → (y : Options) (rest : List ℕ) → (let r : Read Options = Ok (o, []) in r) ≡ Ok (y, rest) → Front (Is y) bytes rest
all_of bytes o Is is y rest e =
    let none : [] ≡ rest = ok_rest _ _ _ _ e in
    record {
      front = bytes;
      parts = sym (append-nil bytes) ∙ ap (λ (l : List ℕ). bytes ++ l) none;
      holds = let P : Options → Type 0 = λ z. Is z bytes in subst P (ok_value _ _ _ _ e) is;
    }

pub options_sound : (bytes : List ℕ) → IsBytes bytes → Yields AreSpelled bytes (options_at bytes)
unfolding options_at
options_sound bytes fits =
    sound_then (signed_law w32) AreSpelled _ bytes fits (λ node a r1 p1 m1.
    sound_then (number_law w64) _ _ r1 m1 (λ salt b r2 p2 m2.
    sound_then (number_law w32) _ _ r2 m2 (λ session c r3 p3 m3.
    sound_then (signed_law w32) _ _ r3 m3 (λ partitions d r4 p4 m4.
    sound_then (signed_law w16) _ _ r4 m4 (λ factor e r5 p5 m5.
    sound_then (signed_law w32) _ _ r5 m5 (λ minimum f r6 p6 m6.
    all_of r6 _ _ (joined a _ p1 (joined b _ p2 (joined c _ p3 (joined d _ p4 (joined e _ p5 (joined f r6 p6 refl))))))))))))

options_read : (o : Options) (body : List ℕ) → IsOptions o body → options_at (body ++ []) ≡ Ok (o, [])
unfolding options_at
options_read o body is =
    complete_then (signed_law w32) o.node (IsNumber w64 o.salt ⌢ IsNumber w32 o.session_ms ⌢ IsSigned w32 o.partitions ⌢ IsSigned w16 o.factor ⌢ IsSigned w32 o.minimum ⌢ IsTextRest o.cluster) _ _ []
    (complete_then (number_law w64) o.salt (IsNumber w32 o.session_ms ⌢ IsSigned w32 o.partitions ⌢ IsSigned w16 o.factor ⌢ IsSigned w32 o.minimum ⌢ IsTextRest o.cluster) _ _ []
    (complete_then (number_law w32) o.session_ms (IsSigned w32 o.partitions ⌢ IsSigned w16 o.factor ⌢ IsSigned w32 o.minimum ⌢ IsTextRest o.cluster) _ _ []
    (complete_then (signed_law w32) o.partitions (IsSigned w16 o.factor ⌢ IsSigned w32 o.minimum ⌢ IsTextRest o.cluster) _ _ []
    (complete_then (signed_law w16) o.factor (IsSigned w32 o.minimum ⌢ IsTextRest o.cluster) _ _ []
    (complete_then (signed_law w32) o.minimum (IsTextRest o.cluster) _ _ []
    (λ tail all. ap (λ (l : List ℕ). let r : Read Options = Ok (record o { cluster = l }, []) in r) (append-nil tail ∙ all.all))))))) body is.spelled

pub options_whole : (o : Options) (body : List ℕ) → IsOptions o body → options_at body ≡ Ok (o, [])
options_whole o body is = ap options_at (sym (append-nil body)) ∙ options_read o body is

-- ---- all of a body

nothing_left : (at : ℕ) (body : List ℕ) → at ≤ length body → drop at body ≡ [] → at ≡ length body
nothing_left at body le none =
    let e : length body - at ≡ 0 = sym (length-drop at body) ∙ ap (λ (l : List ℕ). length l) none in
    omega (arith, e, le)

module _ {X E : Type 0} {Is : X → List ℕ → Type 0} {read : List ℕ → Result (X × List ℕ) E} (law : Law Is read) (body : List ℕ) where
  -- what was read to the end
  pub all_read : (x : X) (at : ℕ) → IsBytes body → read body ≡ Ok (x, drop at body) → at ≡ length body → Is x body
  all_read x at fits e end =
      let le : length body ≤ at = omega (arith, end) in
      whole_sound law body x fits (e ∙ ap (λ (l : List ℕ). read_ok x l) (drop_all at body le))

  -- what doesn't read
  pub none_read : (e : E) → read body ≡ Err e → (x : X) → Is x body → ⊥
  none_read e fault x is = let r = sym fault ∙ whole_complete law body x is in cc

  -- what reads with something left
  pub none_left : (y : X) (at : ℕ) → read body ≡ Ok (y, drop at body) → at ≤ length body → (at ≡ length body → ⊥) → (x : X) → Is x body → ⊥
  none_left y at e le more x is = more (nothing_left at body le (ok_rest _ _ _ _ (sym e ∙ whole_complete law body x is)))
