-- A message asks one thing, which reading finds.
use Rattle.std.proofs.Common.{Fits, w8, w32, get_or, ◌≡◌, ℕ, ◌<◌, ◌≤◌, Bool, true, false, cond, ltb, List, [], ◌∷◌, ◌++◌, length, take, drop, append_assoc, inl, inr, ◌-◌, Option, Some, None, Result, Ok, Err, refl, sym, ap, subst, ◌∙◌, arith}
use Rattle.std.specs.Prelude.{ℤ, pos, IfOk, find}
use Rattle.std.specs.Int.{Width, w16, byte_len, cast_signed, from_be_bytes}
use Rattle.std.specs.Ordering.{int_eq}
use Rattle.std.proofs.lemmas.List.{append-nil, length-append, length-drop}
use Rattle.std.proofs.lemmas.Bool.{le-ltb, lt-ltb, ltb-true, cases_lt, and_parts}
use Rattle.std.proofs.lemmas.Bool.Decides.{Decides-int_eq}
use Rattle.kr_base.specs.declared.answers.NoMemory.{NoMemory}
use Rattle.kr_wire.specs.declared.WireFault.{WireFault}
use Rattle.kr_wire.specs.Reading.{Read, signed_at}
use Rattle.kr_wire.specs.Laws.{Front}
use Rattle.kr_wire.proofs.ReadingLaws.{IsBytes, IsBytes-behind, joined, ok_value, ok_rest, nothing}
use Rattle.kr_layout.specs.declared.fault.BodyFault.TheVariants as bodies
use Rattle.kr_calls.specs.declared.calls.Ask.{Ask}
use Rattle.kr_calls.specs.declared.calls.Ask.TheVariants as asks
use Rattle.kr_calls.specs.declared.calls.AskFault.TheVariants as faults
use Rattle.kr_calls.specs.declared.calls.Call.{Call}
use Rattle.kr_calls.specs.declared.calls.Request.{Request}
use Rattle.kr_req.specs.declared.api.ApiKey.{ApiKey}
use Rattle.kr_req.specs.declared.api.ApiKey.TheVariants as apis
use Rattle.kr_req.specs.Messages.{number_of, version_of, api_of, IsServed, IsStart, IsCall, IsAsk, MessagesAskOneThing, short, unsupported, call, trailing, unread}
use Rattle.kr_req.specs.Reading.{is_api, served, served_by, head_at, called_ask, known_ask, started_ask, ask_of}
use Rattle.kr_req.proofs.Headers.{start_law}
use Rattle.kr_req.proofs.Bodies.{rest_at, rest_sound, rest_complete, ended, request_is}

-- ---- keys

passes : {X : Type 0} (test : X → Bool) (xs : List X) (x : X) → find test xs ≡ Some x → test x ≡ true
passes test [] x e = absurd cc
passes {X} test (y ∷ ys) x e = elim (test y) as (λ b. test y ≡ b → cond b (Some y) (find test ys) ≡ Some x → test x ≡ true) [
  | true ↦ λ holds same. let h : y ≡ x = cc in subst (λ (z : X). test z ≡ true) h holds
  | false ↦ λ holds same. passes test ys x same
] refl e

served_is : (key version : ℤ) (api : ApiKey) → served_by key version ≡ Some api → (number_of api ≡ key) × (version_of api ≡ version)
unfolding served_by
served_is key version api e =
    let h = and_parts (int_eq (number_of api) key) (int_eq (version_of api) version) (passes (is_api key version) served api e) in
    ((Decides-int_eq (number_of api) key).0 h.0, (Decides-int_eq (version_of api) version).0 h.1)

serves : (api : ApiKey) → served_by (number_of api) (version_of api) ≡ Some api
unfolding served_by
serves apis.BrokerRegistration = refl
serves apis.BrokerHeartbeat = refl
serves apis.UnregisterBroker = refl
serves apis.CreateTopics = refl
serves apis.DeleteTopics = refl
serves apis.CreatePartitions = refl
serves apis.AlterPartition = refl
serves apis.ElectLeaders = refl
serves apis.AlterPartitionReassignments = refl
serves apis.ListPartitionReassignments = refl
serves apis.IncrementalAlterConfigs = refl
serves apis.Metadata = refl

serves_key : (key version : ℤ) → (s : IsServed key version) → served_by key version ≡ Some s.api
serves_key key version s =
    subst (λ (k : ℤ). served_by k version ≡ Some s.api) s.number (subst (λ (v : ℤ). served_by (number_of s.api) v ≡ Some s.api) s.at_version (serves s.api))

-- ---- starts

-- what begins a message is read first
starts : (key version correlation : ℤ) (message rest : List ℕ) → Front (IsStart key version correlation) message rest
    → head_at message ≡ Ok ((key, version, correlation), rest)
starts key version correlation message rest f = ap head_at f.parts ∙ start_law.complete (key, version, correlation) f.front rest f.holds

start_long : (key version correlation : ℤ) (bytes : List ℕ) → IsStart key version correlation bytes → length bytes ≡ 8
start_long key version correlation bytes is =
    let k = is.second in
    let e = ap length is.is ∙ length-append is.left is.right in
    let e' = ap length k.is ∙ length-append k.left k.right in
    let l : length is.left ≡ 2 = is.first.spelled.long in
    let l' : length k.left ≡ 2 = k.first.spelled.long in
    let l'' : length k.right ≡ 4 = k.second.spelled.long in
    omega arith

signed_whole : (w : Width) (bytes : List ℕ) → byte_len w ≤ length bytes → signed_at w bytes ≡ Ok (cast_signed w (from_be_bytes w (take (byte_len w) bytes)), drop (byte_len w) bytes)
signed_whole w bytes long = rw (le-ltb (length bytes) (byte_len w) long) refl

no_start : (message : List ℕ) (e : WireFault) → 8 ≤ length message → head_at message ≡ Err e → ⊥
unfolding head_at
no_start message e long bad =
    let l2 : length (drop 2 message) ≡ length message - 2 = length-drop 2 message in
    let l4 : length (drop 2 (drop 2 message)) ≡ length message - 2 - 2 = length-drop 2 (drop 2 message) ∙ ap (λ n. n - 2) l2 in
    let first = signed_whole w16 message (omega arith) in
    let second = signed_whole w16 (drop 2 message) (omega arith) in
    let third = signed_whole w32 (drop 2 (drop 2 message)) (omega arith) in
    let h = rw (first, second, third) at bad in
    cc

-- ---- calls

-- a call at the front of a message begins with its key, its version and its correlation id, and the rest stands behind them
call_parts : (c : Call) (message rest : List ℕ) → (f : Front (IsCall c) message rest)
    → Front (IsStart (number_of (api_of c.request)) (version_of (api_of c.request)) c.correlation) message (f.holds.right ++ rest)
call_parts c message rest f = record {
  front = f.holds.left;
  parts = f.parts ∙ ap (λ (t : List ℕ). t ++ rest) f.holds.is ∙ append_assoc f.holds.left f.holds.right rest;
  holds = f.holds.first;
}

-- what a message at whose front a call stands asks
asks_call : (c : Call) (message rest : List ℕ) → Front (IsCall c) message rest
    → ask_of message ≡ called_ask c.correlation (ended (Ok (c.request, rest)))
unfolding ask_of
asks_call c message rest f =
    let started = starts (number_of (api_of c.request)) (version_of (api_of c.request)) c.correlation message (f.holds.right ++ rest) (call_parts c message rest f) in
    let read = request_is (api_of c.request) (f.holds.right ++ rest) ∙ ap ended (rest_complete c.request f.holds.right rest f.holds.second) in
    rw (started, serves (api_of c.request), read) refl

-- ---- what is asked is read

more : (rest : List ℕ) → 0 < length rest → ltb 0 (length rest) ≡ true
more rest lt = lt-ltb 0 (length rest) lt

unread_is : (key version correlation : ℤ) (message rest : List ℕ) → IsBytes message → Front (IsStart key version correlation) message rest
    → (s : IsServed key version) → ((c : Call) (rest : List ℕ) → Front (IsCall c) message rest → ⊥)
    → (read : Read Request) → rest_at s.api rest ≡ read → called_ask correlation (ended read) ≡ asks.Bare correlation faults.Wire
unread_is key version correlation message rest fits f s none (Err fault) e = refl
unread_is key version correlation message rest fits f s none (Ok x) e =
    let g = rest_sound s.api rest (IsBytes-behind f.front rest message f.parts fits) x.0 x.1 e in
    let number : number_of (api_of x.0) ≡ key = ap number_of g.holds.0 ∙ s.number in
    let at_version : version_of (api_of x.0) ≡ version = ap version_of g.holds.0 ∙ s.at_version in
    let start : IsStart (number_of (api_of x.0)) (version_of (api_of x.0)) correlation f.front =
    subst (λ (k : ℤ). IsStart k (version_of (api_of x.0)) correlation f.front) (sym number)
    (subst (λ (v : ℤ). IsStart key v correlation f.front) (sym at_version) f.holds) in
    absurd (none (record { correlation = correlation; request = x.0 }) x.1 (record {
      front = f.front ++ g.front;
      parts = f.parts ∙ ap (λ (t : List ℕ). f.front ++ t) g.parts ∙ sym (append_assoc f.front g.front x.1);
      holds = joined f.front g.front start g.holds.1;
    }))

unserved : (key version : ℤ) → (IsServed key version → ⊥) → (found : Option ApiKey) → served_by key version ≡ found → found ≡ None
unserved key version none None e = refl
unserved key version none (Some api) e = let h = served_is key version api e in absurd (none (record { api = api; number = h.0; at_version = h.1 }))

started_short : (message : List ℕ) → IsBytes message → length message < 8 → (read : Read (ℤ × ℤ × ℤ)) → head_at message ≡ read
    → started_ask read ≡ asks.Bare (pos 0) faults.Wire
started_short message fits lt (Err fault) e = refl
started_short message fits lt (Ok s) e =
    let f = start_law.sound message fits s.0 s.1 e in
    let l = start_long s.0.0 s.0.1 s.0.2 f.front f.holds in
    let k = ap length f.parts ∙ length-append f.front s.1 in
    absurd (omega arith)

pub ask_is : (ask : Ask) (message : List ℕ) → IsBytes message → IsAsk ask message → ask_of message ≡ ask
unfolding ask_of
ask_is _ message fits (short _ lt) = started_short message fits lt (head_at message) refl
ask_is _ message fits (unsupported key version correlation _ begins none) =
    rw (starts key version correlation message begins.0 begins.1, unserved key version none (served_by key version) refl) refl
ask_is _ message fits (call c _ is) = asks_call c message [] (record { front = message; parts = sym (append-nil message); holds = is })
ask_is _ message fits (trailing c _ rest f lt) = asks_call c message rest f ∙ rw (more rest lt) refl
ask_is _ message fits (unread key version correlation _ begins s none) =
    rw (starts key version correlation message begins.0 begins.1, serves_key key version s, request_is s.api begins.0)
    (unread_is key version correlation message begins.0 fits begins.1 s none (rest_at s.api begins.0) refl)

-- ---- what is read is asked

read_found : (key version correlation : ℤ) (message rest : List ℕ) → IsBytes message → Front (IsStart key version correlation) message rest
    → (api : ApiKey) → number_of api ≡ key → version_of api ≡ version
    → (read : Read Request) → rest_at api rest ≡ read → IsAsk (called_ask correlation (ended read)) message
read_found key version correlation message rest fits f api number at_version (Err fault) e =
    unread key version correlation message (rest, f) (record { api = api; number = number; at_version = at_version }) (λ c tail g.
    let one = sym (starts key version correlation message rest f) ∙ starts (number_of (api_of c.request)) (version_of (api_of c.request)) c.correlation message (g.holds.right ++ tail) (call_parts c message tail g) in
    let same : rest ≡ g.holds.right ++ tail = ok_rest _ _ _ _ one in
    let start = ok_value _ _ _ _ one in
    let found : Some (api_of c.request) ≡ Some api =
    sym (serves (api_of c.request))
    ∙ ap (λ (s : ℤ × ℤ × ℤ). served_by s.0 s.1) (sym start)
    ∙ serves_key key version (record { api = api; number = number; at_version = at_version }) in
    let key_same : api_of c.request ≡ api = cc in
    let read = ap (rest_at api) same ∙ subst (λ (a : ApiKey). rest_at a (g.holds.right ++ tail) ≡ Ok (c.request, tail)) key_same (rest_complete c.request g.holds.right tail g.holds.second) in
    let h = sym e ∙ read in cc)
read_found key version correlation message rest fits f api number at_version (Ok x) e =
    let g = rest_sound api rest (IsBytes-behind f.front rest message f.parts fits) x.0 x.1 e in
    let number' : number_of (api_of x.0) ≡ key = ap number_of g.holds.0 ∙ number in
    let version' : version_of (api_of x.0) ≡ version = ap version_of g.holds.0 ∙ at_version in
    let start : IsStart (number_of (api_of x.0)) (version_of (api_of x.0)) correlation f.front =
    subst (λ (k : ℤ). IsStart k (version_of (api_of x.0)) correlation f.front) (sym number')
    (subst (λ (v : ℤ). IsStart key v correlation f.front) (sym version') f.holds) in
    let c : Call = record { correlation = correlation; request = x.0 } in
    let front : Front (IsCall c) message x.1 = record {
      front = f.front ++ g.front;
      parts = f.parts ∙ ap (λ (t : List ℕ). f.front ++ t) g.parts ∙ sym (append_assoc f.front g.front x.1);
      holds = joined f.front g.front start g.holds.1;
    } in
    elim (ltb 0 (length x.1)) as (λ b. ltb 0 (length x.1) ≡ b → IsAsk (called_ask correlation (cond b (Err bodies.Trailing) (Ok x.0))) message) [
      | true ↦ λ left. trailing c message x.1 front (ltb-true 0 (length x.1) left)
      | false ↦ λ left.
          let whole : message ≡ front.front = front.parts ∙ ap (λ (t : List ℕ). front.front ++ t) (nothing x.1 left) ∙ append-nil front.front in
          call c message (subst (λ (t : List ℕ). IsCall c t) (sym whole) front.holds)
    ] refl

known_found : (key version correlation : ℤ) (message rest : List ℕ) → IsBytes message → Front (IsStart key version correlation) message rest
    → (found : Option ApiKey) → served_by key version ≡ found → IsAsk (known_ask (key, version, correlation) rest found) message
known_found key version correlation message rest fits f None e =
    unsupported key version correlation message (rest, f) (λ s. let h = sym (serves_key key version s) ∙ e in cc)
known_found key version correlation message rest fits f (Some api) e =
    let h = served_is key version api e in
    rw (request_is api rest) (read_found key version correlation message rest fits f api h.0 h.1 (rest_at api rest) refl)

started_found : (message : List ℕ) → IsBytes message → (read : Read (ℤ × ℤ × ℤ)) → head_at message ≡ read → IsAsk (started_ask read) message
started_found message fits (Ok s) e =
    known_found s.0.0 s.0.1 s.0.2 message s.1 fits (start_law.sound message fits s.0 s.1 e) (served_by s.0.0 s.0.1) refl
started_found message fits (Err fault) e = elim (cases_lt (length message) 8) [
  | inl lt ↦ short message lt
  | inr le ↦ absurd (no_start message fault le e)
]

pub ask_found : (message : List ℕ) → IsBytes message → IsAsk (ask_of message) message
unfolding ask_of
ask_found message fits = started_found message fits (head_at message) refl

pub asks_one : MessagesAskOneThing
asks_one message fits = (ask_of message, ask_found message fits, λ any is. sym (ask_is any message fits is))

-- ---- what a decoder's answer says

pub found : (message : List ℕ) (answer : Result Ask NoMemory) → ((i : ℕ) → Fits w8 (get_or message i 0)) → IfOk answer (λ ask. ask ≡ ask_of message)
    → IfOk answer (λ ask. IsAsk ask message)
found message (Ok ask) fits given = subst (λ (a : Ask). IsAsk a message) (sym given) (ask_found message (λ i. omega (arith, fits i)))
found message (Err e) fits given = tt

pub only : (message : List ℕ) (answer : Result Ask NoMemory) → ((i : ℕ) → Fits w8 (get_or message i 0)) → IfOk answer (λ ask. ask ≡ ask_of message)
    → (any : Ask) → IsAsk any message → IfOk answer (λ ask. ask ≡ any)
only message (Ok ask) fits given any is = given ∙ ask_is any message (λ i. omega (arith, fits i)) is
only message (Err e) fits given any is = tt
