-- A log that is longer by a batch.
use Rattle.std.proofs.Common.{◌≡◌, ◌∙◌, sym, ℕ, ℤ, pos, ◌<◌, List, [], ◌∷◌, ◌++◌, map, refl, ap, arith, ◌≤◌}
use Rattle.std.proofs.lemmas.List.{map-append}
use Rattle.std.specs.Prelude.{Ok, Result}
use Rattle.std.specs.Result.{result_unwrap_or}
use Rattle.kr_defs.specs.declared.ill.Ill.{Ill}
use Rattle.kr_defs.specs.declared.record.Item.{Item}
use Rattle.kr_defs.specs.Image.{Image, empty}
use Rattle.kr_defs.specs.Log.{Log, apply_all, image_at, tip}
use Rattle.kr_model.specs.Engine.{Rise, kept_image}
use Rattle.kr_model.specs.World.{seen_at, log_with}
use Rattle.kr_model.proofs.Logs.{written_at_tip, written_below}
use Rattle.kr_model.proofs.KeptImages.{not_higher, under}
use Rattle.kr_defs.specs.declared.record.Item.TheVariants as items
use Rattle.kr_defs.specs.Apply.{apply}

-- ---- an item of the quorum's own has no meaning

pub control_at_tip : (log : Log) (image : Image) → image_at log (tip log) ≡ Ok image → image_at (log_with log (items.Control ∷ [])) (tip (log_with log (items.Control ∷ []))) ≡ Ok image
unfolding apply
control_at_tip log image is = written_at_tip log (items.Control ∷ []) image image is refl

-- what is kept below the tip is seen as before
pub kept_before : (log : Log) (items : List Item) (from : ℕ) (ns : List ℕ) → from ≤ tip log → Rise from ns (tip log) → map (kept_image (log_with log items)) (from ∷ ns) ≡ map (kept_image log) (from ∷ ns)
kept_before log items from [] low rise = ap (λ (r : Result Image Ill). under from (result_unwrap_or r empty) ∷ []) (written_below log items from low)
kept_before log items from (n ∷ ns) low rise =
    ap (λ (r : Result Image Ill). under from (result_unwrap_or r empty) ∷ map (kept_image (log_with log items)) (n ∷ ns)) (written_below log items from low)
    ∙ ap (λ rest. kept_image log from ∷ rest) (kept_before log items n ns (not_higher n ns (tip log) rise.1) rise.1)

-- ---- a batch more

pub rise_more : (from : ℕ) (ns : List ℕ) (to n : ℕ) → Rise from ns to → to < n → Rise from (ns ++ n ∷ []) n
rise_more from [] to n rise up = (omega (arith, rise, up), refl)
rise_more from (m ∷ ns) to n rise up = (rise.0, rise_more m ns to n rise.1 up)

module _ (log : Log) (items : List Item) (before image : Image) (seen : image_at log (tip log) ≡ Ok before) (means : apply_all before items ≡ Ok image) where
  abbrev longer : Log
  longer = log_with log items

  pub present_then : image_at longer (tip longer) ≡ Ok image
  present_then = written_at_tip log items before image seen means

  pub seen_then : seen_at longer (tip longer) ≡ image
  seen_then = ap (λ (r : Result Image Ill). result_unwrap_or r empty) present_then

  pub kept_then : (from : ℕ) (ns : List ℕ) (n : ℕ) → Rise from ns (tip log) → n ≡ tip longer
      → map (kept_image log) (from ∷ ns) ++ (pos n, image) ∷ [] ≡ map (kept_image longer) (from ∷ (ns ++ n ∷ []))
  kept_then from ns n rise is =
      ap (λ (kept : List (ℤ × Image)). kept ++ (pos n, image) ∷ []) (sym (kept_before log items from ns (not_higher from ns (tip log) rise) rise))
      ∙ (ap (λ i. map (kept_image longer) (from ∷ ns) ++ (pos n, i) ∷ []) (sym seen_then)
      ∙ (ap (λ m. map (kept_image longer) (from ∷ ns) ++ (pos n, seen_at longer m) ∷ []) (sym is)
      ∙ sym (map-append (kept_image longer) (from ∷ ns) (n ∷ []))))
