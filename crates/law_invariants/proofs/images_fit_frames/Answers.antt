use Rattle.law_invariants.proofs.ImageSizes.{images_fit_frames}
use Rattle.law_invariants.proofs.images_fit_frames.Goals as goal

pub returns : goal.returns
returns c = images_fit_frames
