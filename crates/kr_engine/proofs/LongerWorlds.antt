-- A leader's world that is longer by batches, and what is kept of it.
use Rattle.std.proofs.Common.{◌≡◌, ◌∙◌, sym, subst, ℕ, ℤ, pos, ◌+◌, ◌≤◌, ◌<◌, List, [], ◌∷◌, ◌++◌, map, refl, ap, arith}
use Rattle.std.proofs.lemmas.List.{append_assoc}
use Rattle.std.specs.Prelude.{Option, Some, None, Ok, IfSome, unwrap_or}
use Rattle.std.specs.List.{AllByRecursion}
use Rattle.std.specs.Option.{option_map_or}
use Rattle.kr_defs.specs.declared.record.Item.{Item}
use Rattle.kr_defs.specs.Image.{Image}
use Rattle.kr_defs.specs.Log.{Log, closed_end_at, image_at, open_at, state_at, tip}
use Rattle.kr_defs.specs.LogStates.{LogState}
use Rattle.kr_store.specs.Images.{Images}
use Rattle.kr_model.specs.Engine.{Rise, kept_begin, kept_image, kept_places}
use Rattle.kr_model.specs.Weights.{IsWeighed, weight_below, weight_settled}
use Rattle.kr_model.specs.World.{World, closed_of, log_with, seen_at}
use Rattle.kr_model.proofs.KeptImages.{not_higher, seen_below}
use Rattle.kr_model.proofs.Logs.{open_written_below, state_seen}
use Rattle.kr_model.proofs.TransactionWeights.{begun_below}
use Rattle.kr_model.proofs.Weights.{weight_longer}
use Rattle.kr_engine.proofs.KeptStates.{Keeps, keeps_weighed}

-- ---- what is settled weighs the same in a longer log

settled_by : (log : Log) (more : List Item) (place : ℕ) (state : LogState) (o : Option ℕ) → state_at log place ≡ Ok state → place ≤ tip log → open_at log place ≡ o
    → option_map_or (λ (begin : ℕ). weight_below (log_with log more) (begin + 1)) o (weight_below (log_with log more) place) ≡ option_map_or (λ (begin : ℕ). weight_below log (begin + 1)) o (weight_below log place)
settled_by log more place state None is low unclosed = weight_longer log more place low
settled_by log more place state (Some begin) is low unclosed = weight_longer log more (begin + 1) (let below = begun_below log place state begin is unclosed in omega (arith, below, low))

pub settled_same : (log : Log) (more : List Item) (place : ℕ) (image : Image) → image_at log (tip log) ≡ Ok image → place ≤ tip log → weight_settled (log_with log more) place ≡ weight_settled log place
settled_same log more place image seen low =
    let h = state_seen log place (seen_at log place) (seen_below log place image seen) in
    ap (λ o. option_map_or (λ (begin : ℕ). weight_below (log_with log more) (begin + 1)) o (weight_below (log_with log more) place)) (open_written_below log more place low)
    ∙ settled_by log more place h.state (open_at log place) h.there low refl

-- ---- batches behind the others

abbrev pub world_with : World → List Item → List ℕ → World
world_with w own new = record w { log = log_with w.log own; batch_ends = w.batch_ends ++ new }

module _ (w : World) (own : List Item) (new : List ℕ) (images : Images) (image : Image) (last : ℕ) (seen : image_at w.log (tip w.log) ≡ Ok image) (low : w.committed ≤ tip w.log)
    (k : Keeps images (log_with w.log own) (closed_of w) (weight_settled w.log w.committed) ((w.covered ++ w.batch_ends) ++ new) last) where
  abbrev v : World
  v = world_with w own new

  pub closed_same : closed_of v ≡ closed_of w
  closed_same = ap (λ o. unwrap_or o w.committed) (open_written_below w.log own w.committed low)

  places_same : closed_of w ∷ ((w.covered ++ w.batch_ends) ++ new) ≡ kept_places v
  places_same = ap (λ ns. closed_of w ∷ ns) (append_assoc w.covered w.batch_ends new) ∙ ap (λ c. c ∷ (w.covered ++ (w.batch_ends ++ new))) (sym closed_same)

  pub kept_so : images.kept ≡ map (kept_image v.log) (kept_places v)
  kept_so = k.kept ∙ ap (map (kept_image v.log)) places_same

  pub begins_so : images.kept_begun ≡ map (kept_begin v.log) (kept_places v)
  begins_so = k.kept_begun ∙ ap (map (kept_begin v.log)) places_same

  pub weighed_so : images.made ≡ 0 → IsWeighed images v.log (closed_of v) (weight_settled v.log v.committed) (v.covered ++ v.batch_ends)
  weighed_so none =
      subst (λ c. IsWeighed images v.log c (weight_settled v.log w.committed) (w.covered ++ (w.batch_ends ++ new))) (sym closed_same)
      (subst (λ b. IsWeighed images v.log (closed_of w) b (w.covered ++ (w.batch_ends ++ new))) (sym (settled_same w.log own w.committed image seen low))
      (subst (λ ns. IsWeighed images v.log (closed_of w) (weight_settled w.log w.committed) ns) (append_assoc w.covered w.batch_ends new)
      (keeps_weighed images v.log (closed_of w) (weight_settled w.log w.committed) ((w.covered ++ w.batch_ends) ++ new) last k none)))

  pub settled_so : Rise (closed_of w) w.covered w.committed → Rise (closed_of v) v.covered v.committed
  settled_so rise = subst (λ c. Rise c w.covered w.committed) (sym closed_same) rise

-- ---- what is open at the ends of batches

abbrev pub BegunBelow : Log → ℕ → ℕ → Type 0
BegunBelow log committed n = IfSome (open_at log n) (λ begin. begin < committed)

pub still_begun : (log : Log) (more : List Item) (committed : ℕ) (ns : List ℕ) (from : ℕ) → Rise from ns (tip log) → AllByRecursion (BegunBelow log committed) ns → AllByRecursion (BegunBelow (log_with log more) committed) ns
still_begun log more committed [] from rise all = tt
still_begun log more committed (n ∷ ns) from rise all =
    (subst (λ (o : Option ℕ). IfSome o (λ begin. begin < committed)) (sym (open_written_below log more n (not_higher n ns (tip log) rise.1))) all.0, still_begun log more committed ns n rise.1 all.1)

pub begun_more : (P : ℕ → Type 0) (ns : List ℕ) (n : ℕ) → AllByRecursion P ns → P n → AllByRecursion P (ns ++ n ∷ [])
begun_more P [] n all own = (own, tt)
begun_more P (m ∷ ms) n all own = (all.0, begun_more P ms n all.1 own)

-- nothing is open there
pub none_below : (log : Log) (committed n : ℕ) → open_at log n ≡ None → BegunBelow log committed n
none_below log committed n none = subst (λ (o : Option ℕ). IfSome o (λ begin. begin < committed)) (sym none) tt
