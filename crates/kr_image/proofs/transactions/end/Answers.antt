use Rattle.std.proofs.Common.{◌∙◌, ap, not, refl}
use Rattle.kr_defs.proofs.Tests.{none_is}
use Rattle.kr_image.specs.KeptImages.{images_of}
use Rattle.kr_image.proofs.BegunEpochs.{are_valid, none_begun}
use Rattle.kr_image.proofs.StoreStates.{end_done, no_end}
use Rattle.kr_image.proofs.transactions.end.Goals as goal

pub returns-then-is_none-clause-applied : goal.returns-then-is_none-clause-applied
returns-then-is_none-clause-applied g c = rw c.bad_transaction.ensures (no_end (images_of c.args.timelines.now c.args.kept.now.items c.args.begun.now) (none_is c.args.begun.now (c.is_none.ensures ∙ ap not c.if-is_none.true)), refl, refl)

pub returns-clause-store : goal.returns-clause-store
returns-clause-store g c = record { store = c.requires.store.store; opens = none_begun c.args.kept.now.items c.args.begun.now c.requires.store.opens }

pub returns-clause-applied : goal.returns-clause-applied
returns-clause-applied g c = (end_done (images_of c.args.timelines.now c.args.kept.now.items c.args.begun.now) (are_valid c.args.timelines.now c.args.kept.now.items c.args.begun.now c.requires.store) (c.is_none.ensures ∙ ap not c.if-is_none.false), record { images = refl; calls = refl; begun = refl })
