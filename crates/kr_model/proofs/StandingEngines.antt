-- What an engine that stands for past events tells of them.
use Rattle.std.proofs.Common.{◌≡◌, ◌∙◌, sym, ℕ, ℤ, pos, true, List, refl, ap, subst, ◌≤◌, [], ◌∷◌, map, arith}
use Rattle.std.specs.Prelude.{Option, Some, None, Result, IsTrue, int_lt, int_le, true, unwrap_or, ◌++◌}
use Rattle.std.proofs.lemmas.List.Elements.{All-from_recursion, All-nil}
use Rattle.kr_defs.specs.Heartbeats as hearing
use Rattle.kr_defs.specs.Heartbeats.{Heartbeats}
use Rattle.kr_defs.specs.Image.{Image, empty}
use Rattle.kr_defs.specs.Log.{Log}
use Rattle.kr_store.specs.Images.{IsAbove, last_kept}
use Rattle.kr_model.specs.declared.writes.Write.{Write}
use Rattle.kr_model.specs.Engine.{Core, IsEngine, Rise, kept_image, kept_places, IsState}
use Rattle.kr_model.specs.World.{State, closed_of, tip_of, image_of_tip, start}
use Rattle.kr_model.proofs.KeptImages.{not_higher, all_below, last, last_is, rise_both}
use Rattle.kr_model.proofs.Logs.{none_open_at_start}
use Rattle.kr_model.proofs.LoadedImages.{empty_valid}
use Rattle.kr_model.proofs.Queues.{never}

-- ---- the engine in terms of the state

-- what the state tells of the engine
abbrev pub core_of : Core → State → Core
core_of e s = record e {
  tip = pos (tip_of s);
  committed = pos s.world.committed;
  closed = pos (closed_of s.world);
  leading = s.world.leading;
  greatest = s.world.greatest;
  count = s.world.count;
  time = s.basis.time;
  led = s.basis.led;
  heard = hearing.heard s.basis;
}

same_parts : (e : Core) (tip committed closed : ℤ) (leading : Option ℤ) (greatest : ℤ) (count : ℕ) (time led : ℤ) (heard : Heartbeats)
    → e.tip ≡ tip → e.committed ≡ committed → e.closed ≡ closed → e.leading ≡ leading → e.greatest ≡ greatest → e.count ≡ count → e.time ≡ time → e.led ≡ led → e.heard ≡ heard
    → e ≡ record e { tip = tip; committed = committed; closed = closed; leading = leading; greatest = greatest; count = count; time = time; led = led; heard = heard }
same_parts e tip committed closed leading greatest count time led heard a b j c d f g h i =
    ap (λ t. record e { tip = t }) a
    ∙ (ap (λ z. record e { tip = tip; committed = z }) b
    ∙ (ap (λ z. record e { tip = tip; committed = committed; closed = z }) j
    ∙ (ap (λ l. record e { tip = tip; committed = committed; closed = closed; leading = l }) c
    ∙ (ap (λ z. record e { tip = tip; committed = committed; closed = closed; leading = leading; greatest = z }) d
    ∙ (ap (λ n. record e { tip = tip; committed = committed; closed = closed; leading = leading; greatest = greatest; count = n }) f
    ∙ (ap (λ t. record e { tip = tip; committed = committed; closed = closed; leading = leading; greatest = greatest; count = count; time = t }) g
    ∙ (ap (λ l. record e { tip = tip; committed = committed; closed = closed; leading = leading; greatest = greatest; count = count; time = time; led = l }) h
    ∙ ap (λ hs. record e { tip = tip; committed = committed; closed = closed; leading = leading; greatest = greatest; count = count; time = time; led = led; heard = hs }) i)))))))

pub is_core : (e : Core) (s : State) (writes : List Write) → IsEngine e s writes → e ≡ core_of e s
is_core e s writes k =
    same_parts e (pos (tip_of s)) (pos s.world.committed) (pos (closed_of s.world)) s.world.leading s.world.greatest s.world.count s.basis.time s.basis.led (hearing.heard s.basis)
    k.tip k.committed k.closed k.leading k.greatest k.count k.time k.led k.heard_of

-- ---- what is kept

pub tip_only : (log : Log) (from : ℕ) (ns : List ℕ) (to : ℕ) → Rise from ns to → ns ≡ [] → from ≡ to
tip_only log from [] to rise is = rise
tip_only log from (n ∷ ns) to rise is = absurd cc

module _ (e : Core) (s : State) (writes : List Write) (k : IsEngine e s writes) where
  pub rises : s.world.committed ≤ tip_of s
  rises = not_higher s.world.committed s.world.batch_ends (tip_of s) k.is_state.ends

  -- the places that are kept
  pub places_rise : Rise (closed_of s.world) (s.world.covered ++ s.world.batch_ends) (tip_of s)
  places_rise = rise_both (closed_of s.world) s.world.covered s.world.committed s.world.batch_ends (tip_of s) k.is_state.settled k.is_state.ends

  pub same_image : image_of_tip s ≡ e.images.tip
  same_image = ap (λ r. Rattle.std.specs.Result.result_unwrap_or r Rattle.kr_defs.specs.Image.empty) k.present

  pub last_kept_is : last_kept e.images ≡ Some (e.tip, e.images.tip)
  last_kept_is =
      ap last k.kept
      ∙ (last_is s.world.log (tip_of s) (closed_of s.world) (s.world.covered ++ s.world.batch_ends) places_rise
      ∙ (ap (λ t. Some (t, image_of_tip s)) (sym k.tip) ∙ ap (λ i. Some (e.tip, i)) same_image))

  pub all_kept_below : (place : ℤ) → IsTrue (int_lt e.tip place) → IsAbove e.images.kept place
  all_kept_below place high =
      subst (λ (kept : List (ℤ × Image)). IsAbove kept place) (sym k.kept)
      (All-from_recursion (λ (k : ℤ × Image). IsTrue (int_lt k.0 place)) (map (kept_image s.world.log) (kept_places s.world))
      (all_below s.world.log (tip_of s) place (closed_of s.world) (s.world.covered ++ s.world.batch_ends) places_rise (ap (λ t. int_lt t place) (sym k.tip) ∙ high)))

  pub stands_still : e.leading ≡ None → e.committed ≡ e.tip
  stands_still none =
      let ends = (k.is_state.at_standby (sym k.leading ∙ none)).0 in
      k.committed ∙ (ap pos (tip_only s.world.log s.world.committed s.world.batch_ends (tip_of s) k.is_state.ends ends) ∙ sym k.tip)

-- ---- the start

pub start_state : IsState start []
start_state = record {
  valid = empty_valid;
  started = omega arith;
  settled = ap (λ o. unwrap_or o 0) (none_open_at_start 0 empty 0);
  ends = refl;
  begun = tt;
  low = omega arith;
  at_standby = λ none. (refl, refl);
  decided = λ some. absurd (never some);
  hears = λ some. absurd (never some);
  in_time = refl;
  natural = refl;
  reached = All-nil (λ write. int_le write.need (pos (tip_of start)) ≡ true);
}
