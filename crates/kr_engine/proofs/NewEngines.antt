-- An engine to which nothing has happened.
use Rattle.std.proofs.Common.{◌≡◌, ◌∙◌, sym, subst, ℕ, pos, [], ◌∷◌, refl, ap}
use Rattle.std.specs.Prelude.{IfOk, Option, Result, Ok, Err, unwrap_or}
use Rattle.std.specs.Option.{option_map}
use Rattle.kr_defs.specs.declared.options.Options.{Options}
use Rattle.kr_defs.specs.Image.{empty}
use Rattle.kr_defs.specs.Log.{first, image_at, open_at, state_at}
use Rattle.kr_model.specs.Engine.{Core, IsEngine, outputs_left}
use Rattle.kr_engine.specs.inner.Changes.{new_core}
use Rattle.kr_model.specs.World.{seen_at, start}
use Rattle.kr_model.proofs.Logs.{none_open_at_start}
use Rattle.kr_model.proofs.StandingEngines.{start_state}

at_first : (options : Options) → IsEngine (new_core options) start []
unfolding image_at state_at
at_first options = record {
  tip = refl;
  committed = refl;
  closed = ap (λ o. pos (unwrap_or o 0)) (sym (none_open_at_start 0 empty 0));
  leading = refl;
  greatest = refl;
  count = refl;
  time = refl;
  led = refl;
  heard_of = refl;
  present = refl;
  kept = ap (λ (o : Option ℕ). (pos (unwrap_or o 0), seen_at first (unwrap_or o 0)) ∷ []) (sym (none_open_at_start 0 empty 0));
  begun = ap (option_map (λ (n : ℕ). pos n)) (sym (none_open_at_start 0 empty 0));
  kept_begun =
      ap (λ (o : Option ℕ). (pos 0, option_map (λ (n : ℕ). pos n) o) ∷ []) (sym (none_open_at_start 0 empty 0))
      ∙ ap (λ (o : Option ℕ). (pos (unwrap_or o 0), option_map (λ (n : ℕ). pos n) (open_at first (unwrap_or o 0))) ∷ []) (sym (none_open_at_start 0 empty 0));
  weighed = record { unmade = refl; rest = []; counted = ap (λ (o : Option ℕ). (pos (unwrap_or o 0), 0) ∷ []) (sym (none_open_at_start 0 empty 0)); each = tt };
  waits = refl;
  ordered = refl;
  is_state = start_state;
}

pub opened_stands : (options : Options) (e : Core) → e ≡ new_core options → IsEngine e start []
opened_stands options e is = subst (λ (e : Core). IsEngine e start []) (sym is) (at_first options)

pub opened_drained : (options : Options) (e : Core) → e ≡ new_core options → outputs_left e ≡ []
opened_drained options e is = subst (λ (e : Core). outputs_left e ≡ []) (sym is) refl

pub opened_fresh : (options : Options) (e : Core) → e ≡ new_core options → e.fresh ≡ []
opened_fresh options e is = ap (λ (e : Core). e.fresh) is

pub all_opened : {E : Type 0} (P : Core → Type 0) (options : Options) → ((e : Core) → e ≡ new_core options → P e) → (r : Result Core E) → IfOk r (λ e. e ≡ new_core options) → IfOk r P
all_opened P options opened (Ok e) is = opened e is
all_opened P options opened (Err fault) is = tt
