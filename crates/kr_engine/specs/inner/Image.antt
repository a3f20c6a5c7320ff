-- What an Image makes of an engine.
use Rattle.std.specs.Prelude.{[], ◌∷◌, ◌++◌, unwrap_or}
use Rattle.kr_calls.specs.declared.events.Output.TheVariants as given
use Rattle.kr_defs.specs.Image.{empty}
use Rattle.kr_snapshot.specs.ImageText.{image_text}
use Rattle.kr_store.specs.Images.{kept_at}
use Rattle.kr_model.specs.Engine.{Core}

abbrev pub core_after_image : Core → Core
core_after_image e = record e { given = e.given ++ given.Image (image_text e.closed (unwrap_or (kept_at e.images e.closed) empty)) ∷ [] }
