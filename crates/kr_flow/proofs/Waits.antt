-- Events that wait.
use Rattle.std.proofs.Common.{◌≡◌, ◌∙◌, ◌⊎◌, ℕ, ◌+◌, ◌<◌, ◌≤◌, ◌||◌, Bool, true, false, cond, List, [], ◌∷◌, ◌++◌, Some, None, length, length-append, refl, ap, inl, inr, arith}
use Rattle.std.specs.Prelude.{IsTrue}
use Rattle.std.proofs.lemmas.Bool.{eqb-true, le-leb, leb-true, lt-leb}
use Rattle.std.proofs.lemmas.List.Sums.{sum_by-cons, sum_by_push}
use Rattle.kr_flow.specs.declared.room.Waiting.{Waiting}
use Rattle.kr_flow.specs.Flows.{AreBounded, Flow, bytes_of, most_waiting}
use Rattle.kr_flow.specs.Rooms.{room_behind, first_in, first_waiting, has_room_for, room_noted, noted_first, rest_in, rest_of}

either : (a b : Bool) → (a || b) ≡ true → (a ≡ true) ⊎ (b ≡ true)
either true b h = inl refl
either false b h = inr h

-- with one more that has room
pub more_is_bounded : (ws : List Waiting) (e : Waiting) → IsTrue (has_room_for ws e.bytes) → AreBounded (ws ++ e ∷ [])
more_is_bounded ws e room = λ several. elim (either _ _ room) [
  | inl none ↦ let empty : length ws ≡ 0 = eqb-true _ _ none in
      let one : length (ws ++ e ∷ []) ≡ length ws + 1 = length-append ws (e ∷ []) in
      absurd (omega (arith, empty, one, several))
  | inr within ↦ let most : bytes_of ws + e.bytes ≤ most_waiting = leb-true _ _ within in
      let all : bytes_of (ws ++ e ∷ []) ≡ bytes_of ws + e.bytes = sum_by_push (λ w. w.bytes) ws e in
      omega (arith, most, all)
]

pub rest_is_bounded : (e : Waiting) (ws : List Waiting) → AreBounded (e ∷ ws) → AreBounded ws
rest_is_bounded e ws bounded = λ several.
    let all : bytes_of (e ∷ ws) ≡ e.bytes + bytes_of ws = sum_by-cons (λ w. w.bytes) e ws in
    let most : bytes_of (e ∷ ws) ≤ most_waiting = bounded (omega (arith, several)) in
    omega (arith, all, most)

pub front_is_bounded : (ws : List Waiting) (e : Waiting) → AreBounded (ws ++ e ∷ []) → AreBounded ws
front_is_bounded ws e bounded = λ several.
    let all : bytes_of (ws ++ e ∷ []) ≡ bytes_of ws + e.bytes = sum_by_push (λ w. w.bytes) ws e in
    let one : length (ws ++ e ∷ []) ≡ length ws + 1 = length-append ws (e ∷ []) in
    let most : bytes_of (ws ++ e ∷ []) ≤ most_waiting = bounded (omega (arith, one, several)) in
    omega (arith, all, most)

-- ---- what the worker took

pub not_more : (flow : Flow) (events : ℕ) → events ≤ flow.taken → room_noted flow events ≡ flow
not_more flow events le = ap (λ b. cond b flow (rest_of flow)) (le-leb events flow.taken le)

pub none_first : (flow : Flow) (events : ℕ) → events ≤ flow.taken → noted_first flow events ≡ None
none_first flow events le = ap (λ b. cond b None (first_waiting flow)) (le-leb events flow.taken le)

pub one_more_taken : (flow : Flow) (events : ℕ) (e : Waiting) (ws : List Waiting) → flow.taken < events → flow.waiting ≡ e ∷ ws → room_noted flow events ≡ room_behind flow e ws
one_more_taken flow events e ws lt h =
    ap (λ b. cond b flow (rest_of flow)) (lt-leb events flow.taken lt) ∙ ap (rest_in flow) h

pub one_first : (flow : Flow) (events : ℕ) (e : Waiting) (ws : List Waiting) → flow.taken < events → flow.waiting ≡ e ∷ ws → noted_first flow events ≡ Some e
one_first flow events e ws lt h =
    ap (λ b. cond b None (first_waiting flow)) (lt-leb events flow.taken lt) ∙ ap first_in h

pub none_waits : (flow : Flow) (events : ℕ) → flow.taken < events → flow.waiting ≡ [] → room_noted flow events ≡ flow
none_waits flow events lt h =
    ap (λ b. cond b flow (rest_of flow)) (lt-leb events flow.taken lt) ∙ ap (rest_in flow) h

pub none_waits_first : (flow : Flow) (events : ℕ) → flow.taken < events → flow.waiting ≡ [] → noted_first flow events ≡ None
none_waits_first flow events lt h =
    ap (λ b. cond b None (first_waiting flow)) (lt-leb events flow.taken lt) ∙ ap first_in h
