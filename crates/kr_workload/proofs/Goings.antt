-- How the session goes on: by one event, and by one step after the other.
use Rattle.std.proofs.Common.{◌≡◌, ◌≤◌, ℕ, ◌+◌, suc, [], ◌∷◌, ◌++◌, add-one, refl, sym, ap, subst, ◌∙◌, arith}
use Rattle.std.proofs.Common.{SFits, to_z, of_z, w32, w64}
use Rattle.std.proofs.lemmas.Int.{to_z-of_z, to_z_pos}
use Rattle.std.specs.Prelude.{ℤ, pos, Bool}
use Rattle.kr_defs.specs.Image.{Image}
use Rattle.kr_calls.specs.declared.calls.Request.{Request}
use Rattle.kr_calls.specs.declared.events.Event.{Event}
use Rattle.kr_calls.specs.declared.events.Event.TheVariants as events
use Rattle.kr_model.specs.World.{image_of_tip, tip_of}
use Rattle.kr_workload.specs.declared.chances.Chances.{Chances}
use Rattle.kr_workload.specs.declared.host.Host.{Host}
use Rattle.kr_workload.specs.inner.Standing.{Goes, IsMade, IsIdle, MayGo, HasMade, HostTakes}
use Rattle.kr_workload.specs.Session.{Made, after_draw, ask, chances, commit_all, lead_next, lose, request_event, state_behind, steps}
use Rattle.kr_workload.specs.Requests.{heartbeat}
use Rattle.kr_workload.proofs.Playing.{engine_so, image_so, ready_then, stands_then}

-- ---- what a host sees

module _ (seed : ℕ) (made : Made) (host : Host) (stands : HasMade seed made host) where
  pub tip_seen : host.engine.tip ≡ pos (tip_of (state_behind seed made))
  tip_seen = (engine_so seed made.events host.engine stands.played).tip

  pub end_seen : host.engine.committed ≡ pos (state_behind seed made).world.committed
  end_seen = (engine_so seed made.events host.engine stands.played).committed

  pub image_seen : image_of_tip (state_behind seed made) ≡ host.engine.images.tip
  image_seen = image_so seed made.events host.engine stands.played

  pub heartbeat_seen : (image : Image) (offset : ℤ) → image ≡ host.engine.images.tip → offset ≡ host.engine.tip → (broker : ℕ) (want_fence : Bool)
      → heartbeat image offset broker want_fence ≡ heartbeat (image_of_tip (state_behind seed made)) (pos (tip_of (state_behind seed made))) broker want_fence
  heartbeat_seen image offset here there broker want_fence =
      ap (λ (i : Image). heartbeat i offset broker want_fence) (here ∙ sym image_seen)
      ∙ ap (λ (z : ℤ). heartbeat (image_of_tip (state_behind seed made)) z broker want_fence) (there ∙ tip_seen)

-- ---- numbers of events

module _ (epoch : ℕ) where
  pub lost_so : epoch ≤ 2000000000 → events.Lost (to_z w32 epoch) ≡ events.Lost (pos epoch)
  lost_so few = ap (λ (z : ℤ). events.Lost z) (to_z_pos w32 epoch (omega (arith, few)))

  pub commit_so : (end : ℤ) → epoch ≤ 2000000000 → SFits w64 end → events.Commit (to_z w32 epoch) (to_z w64 (of_z w64 end)) ≡ events.Commit (pos epoch) end
  commit_so end few fits =
      ap (λ (z : ℤ). events.Commit z (to_z w64 (of_z w64 end))) (to_z_pos w32 epoch (omega (arith, few))) ∙ ap (λ (z : ℤ). events.Commit (pos epoch) z) (to_z-of_z w64 end fits)

  pub lead_so : (next : ℤ) → epoch ≤ 2000000000 → SFits w64 next → events.Lead (to_z w32 epoch) (to_z w64 (of_z w64 next)) (pos 0) ≡ events.Lead (pos epoch) next (pos 0)
  lead_so next few fits =
      ap (λ (z : ℤ). events.Lead z (to_z w64 (of_z w64 next)) (pos 0)) (to_z_pos w32 epoch (omega (arith, few))) ∙ ap (λ (z : ℤ). events.Lead (pos epoch) z (pos 0)) (to_z-of_z w64 next fits)

-- ---- by one event

module _ (before after : Host) (event : Event) (ready : IsIdle before.engine) (t : HostTakes before.engine after.engine before.tally after.tally event) (drawn : after.drawn ≡ before.drawn) where
  pub asked : (request : Request) → event ≡ request_event (before.requests + 1) request → after.requests ≡ before.requests + 1 → after.epoch ≡ before.epoch → Goes before after (λ seed made. ask made request) 1 0
  unfolding ask
  asked request is requests epoch = record {
    stands = λ seed made stands.
        subst (λ (e : Event). HasMade seed (record { events = made.events ++ e ∷ []; requests = made.requests + 1; epoch = made.epoch; drawn = made.drawn }) after) (is ∙ ap (λ (n : ℕ). request_event (n + 1) request) stands.requests)
        (stands_then before after event ready t seed made stands (subst IsMade (sym is) tt) _ _ _ (requests ∙ ap (λ (n : ℕ). n + 1) stands.requests) (epoch ∙ stands.epoch) (drawn ∙ stands.drawn));
    ready = ready_then before after event ready t;
    room = omega (arith, requests);
    few = omega (arith, epoch);
  }

  pub committed : (end : ℤ) → event ≡ events.Commit (pos before.epoch) end → end ≡ before.engine.tip → after.requests ≡ before.requests → after.epoch ≡ before.epoch → Goes before after commit_all 0 0
  unfolding commit_all
  committed end is end_so requests epoch = record {
    stands = λ seed made stands.
        subst (λ (e : Event). HasMade seed (record { events = made.events ++ e ∷ []; requests = made.requests; epoch = made.epoch; drawn = made.drawn }) after)
        (is ∙ (ap (λ (n : ℕ). events.Commit (pos n) end) stands.epoch ∙ ap (λ (z : ℤ). events.Commit (pos made.epoch) z) (end_so ∙ tip_seen seed made before stands)))
        (stands_then before after event ready t seed made stands (subst IsMade (sym is) tt) _ _ _ (requests ∙ stands.requests) (epoch ∙ stands.epoch) (drawn ∙ stands.drawn));
    ready = ready_then before after event ready t;
    room = omega (arith, requests);
    few = omega (arith, epoch);
  }

  pub lost : event ≡ events.Lost (pos before.epoch) → after.requests ≡ before.requests → after.epoch ≡ before.epoch → Goes before after (λ seed made. lose made) 0 0
  unfolding lose
  lost is requests epoch = record {
    stands = λ seed made stands.
        subst (λ (e : Event). HasMade seed (record { events = made.events ++ e ∷ []; requests = made.requests; epoch = made.epoch; drawn = made.drawn }) after)
        (is ∙ ap (λ (n : ℕ). events.Lost (pos n)) stands.epoch)
        (stands_then before after event ready t seed made stands (subst IsMade (sym is) tt) _ _ _ (requests ∙ stands.requests) (epoch ∙ stands.epoch) (drawn ∙ stands.drawn));
    ready = ready_then before after event ready t;
    room = omega (arith, requests);
    few = omega (arith, epoch);
  }

  pub led : (next : ℤ) → event ≡ events.Lead (pos (before.epoch + 1)) next (pos 0) → next ≡ before.engine.committed → after.requests ≡ before.requests → after.epoch ≡ before.epoch + 1 → Goes before after lead_next 0 1
  unfolding lead_next
  led next is next_so requests epoch = record {
    stands = λ seed made stands.
        subst (λ (e : Event). HasMade seed (record { events = made.events ++ e ∷ []; requests = made.requests; epoch = made.epoch + 1; drawn = made.drawn }) after)
        (is ∙ (ap (λ (n : ℕ). events.Lead (pos (n + 1)) next (pos 0)) stands.epoch ∙ ap (λ (z : ℤ). events.Lead (pos (made.epoch + 1)) z (pos 0)) (next_so ∙ end_seen seed made before stands)))
        (stands_then before after event ready t seed made stands (subst IsMade (sym is) tt) _ _ _ (requests ∙ stands.requests) (epoch ∙ ap (λ (n : ℕ). n + 1) stands.epoch) (drawn ∙ stands.drawn));
    ready = ready_then before after event ready t;
    room = omega (arith, requests);
    few = omega (arith, epoch);
  }

-- ---- by a draw

pub draws : (before after : Host) (c : Chances) → IsIdle before.engine → c ≡ chances before.drawn → after ≡ record before { drawn = c.last } → Goes before after (λ seed made. after_draw made) 0 0
unfolding after_draw
draws before after c ready is same =
    let drawn : Host = record before { drawn = c.last } in
    subst (λ (h : Host). Goes before h (λ seed made. after_draw made) 0 0) (sym same) (record {
      stands = λ seed made stands. record {
        played = stands.played;
        counted = stands.counted;
        small = stands.small;
        requests = stands.requests;
        epoch = stands.epoch;
        drawn = ap (λ (d : Chances). d.last) (is ∙ ap chances stands.drawn);
      };
      ready = ready;
      room = omega arith;
      few = omega arith;
    })

-- ---- one step after the other

pub may_less : (a : Host) (m n k l : ℕ) → k ≤ m → l ≤ n → MayGo a m n → MayGo a k l
may_less a m n k l fewer less may = record { ready = may.ready; room = omega (arith, may.room, fewer); few = omega (arith, may.few, less) }

module _ (a b : Host) (f : ℕ → Made → Made) (m n : ℕ) (first : Goes a b f m n) where
  pub may_go_on : (k l : ℕ) → MayGo a (m + k) (n + l) → MayGo b k l
  may_go_on k l may = record { ready = first.ready; room = omega (arith, first.room, may.room); few = omega (arith, first.few, may.few) }

  pub goes_both : (c : Host) (g : ℕ → Made → Made) (k l : ℕ) → Goes b c g k l → Goes a c (λ seed made. g seed (f seed made)) (m + k) (n + l)
  goes_both c g k l second = record {
    stands = λ seed made stands. second.stands seed (f seed made) (first.stands seed made stands);
    ready = second.ready;
    room = omega (arith, first.room, second.room);
    few = omega (arith, first.few, second.few);
  }

-- by another name, and at most by more
pub goes_as : (a b : Host) (f g : ℕ → Made → Made) (m n k l : ℕ) → ((seed : ℕ) (made : Made) → HasMade seed made a → f seed made ≡ g seed made) → m ≤ k → n ≤ l → Goes a b f m n → Goes a b g k l
goes_as a b f g m n k l same fewer less goes = record {
  stands = λ seed made stands. subst (λ (next : Made). HasMade seed next b) (same seed made stands) (goes.stands seed made stands);
  ready = goes.ready;
  room = omega (arith, goes.room, fewer);
  few = omega (arith, goes.few, less);
}

-- nothing happened
pub goes_itself : (a : Host) → IsIdle a.engine → Goes a a (λ seed made. made) 0 0
goes_itself a ready = record { stands = λ seed made stands. stands; ready = ready; room = omega arith; few = omega arith }

module _ (step : ℕ → ℕ → Made → Made) where
  steps_none : (seed : ℕ) (made : Made) → made ≡ steps 0 (step seed) made
  unfolding steps
  steps_none seed made = refl

  steps_suc : (n seed : ℕ) (made : Made) → step seed n (steps n (step seed) made) ≡ steps (suc n) (step seed) made
  unfolding steps
  steps_suc n seed made = refl

  pub goes_none : (a : Host) → IsIdle a.engine → Goes a a (λ seed. steps 0 (step seed)) 0 0
  goes_none a ready = record {
    stands = λ seed made stands. subst (λ (next : Made). HasMade seed next a) (steps_none seed made) stands;
    ready = ready;
    room = omega arith;
    few = omega arith;
  }

  pub goes_more : (a b c : Host) (n m k x y : ℕ) → Goes a b (λ seed. steps n (step seed)) m k → Goes b c (λ seed. step seed n) x y → Goes a c (λ seed. steps (n + 1) (step seed)) (m + x) (k + y)
  goes_more a b c n m k x y first second = record {
    stands = λ seed made stands.
        subst (λ (next : Made). HasMade seed next c) (steps_suc n seed made ∙ ap (λ (i : ℕ). steps i (step seed) made) (sym (add-one n)))
        (second.stands seed (steps n (step seed) made) (first.stands seed made stands));
    ready = second.ready;
    room = omega (arith, first.room, second.room);
    few = omega (arith, first.few, second.few);
  }

  pub goes_times : (a b : Host) (n k x y l : ℕ) → n ≡ k → x ≡ k → y ≡ l → Goes a b (λ seed. steps n (step seed)) x y → Goes a b (λ seed. steps k (step seed)) k l
  goes_times a b n k x y l is so few goes = record {
    stands = λ seed made stands. subst (λ (i : ℕ). HasMade seed (steps i (step seed) made) b) is (goes.stands seed made stands);
    ready = goes.ready;
    room = omega (arith, goes.room, so);
    few = omega (arith, goes.few, few);
  }
