-- What is given where reading gives this offset and this image.
use Rattle.std.proofs.Common.{◌≡◌, ◌∙◌, ℤ, sym, ap, Result, Ok, Err}
use Rattle.std.specs.Prelude.{IfOk}
use Rattle.kr_defs.specs.Image.{Image}
use Rattle.kr_store.specs.Images.{Images}
use Rattle.kr_snapshot.specs.declared.fault.ImageFault.{ImageFault}
use Rattle.kr_snapshot.specs.ReaderState.{Restores}
use Rattle.kr_store.specs.Images.{kept_once}

abbrev found : ℤ × Image → Result (ℤ × Image) ImageFault → ℤ × Image
found other (Ok x) = x
found other (Err fault) = other

pub restored : (result : Result (ℤ × Images) ImageFault) (offset : ℤ) (image : Image) → Restores result (Ok (offset, image))
    → IfOk result (λ x. (x.0 ≡ offset) × (x.1 ≡ kept_once offset image))
restored (Ok x) offset image given =
    let same = sym (ap (found (offset, image)) given.0) in
    let place = ap (λ (p : ℤ × Image). p.0) same in
    let tip = ap (λ (p : ℤ × Image). p.1) same in
    (place, given.1 ∙ (ap (λ (o : ℤ). kept_once o x.1.tip) place ∙ ap (kept_once offset) tip))
restored (Err fault) offset image given = tt
