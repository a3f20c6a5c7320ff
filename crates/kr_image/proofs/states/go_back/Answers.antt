use Rattle.std.proofs.Common.{arith, refl}
use Rattle.std.specs.VecDeque.{deque_len}
use Rattle.kr_image.specs.Timelines.{keeps_of}
use Rattle.kr_image.proofs.EpochEnds.{last_read}
use Rattle.kr_image.proofs.LastEpoch.{are_kept, back_keeps, last_found}
use Rattle.kr_image.proofs.StoreStates.{back_whole, goes_back}
use Rattle.kr_image.proofs.states.go_back.Goals as goal

pub revert-requires : goal.revert-requires
revert-requires g c = are_kept (keeps_of c.args.timelines.now) c.args.kept.now.items c.in-Some.k.now c.in-Some.k.now.epoch c.requires.kept.epochs (last_found (keeps_of c.args.timelines.now) c.args.kept.now.items c.in-Some.k.now c.requires.kept.rising (last_read c.args.kept.now.items (deque_len c.args.kept.now) c.in-Some.k.now (omega (arith, c.args.kept.now.ok)) (c.in-Some.ensures.variant.0 refl) c.in-Some.ensures.lookup))

pub returns-clause-store : goal.returns-clause-store
returns-clause-store g c = back_whole c.args.timelines.now c.revert.new.self c.args.kept.now.items c.in-Some.k.now c.args.begun.now (last_read c.args.kept.now.items (deque_len c.args.kept.now) c.in-Some.k.now (omega (arith, c.args.kept.now.ok)) (c.in-Some.ensures.variant.0 refl) c.in-Some.ensures.lookup) c.requires.kept c.requires.begun c.revert.ensures.back c.revert.ensures.counts

pub returns-clause-same : goal.returns-clause-same
returns-clause-same g c = back_keeps c.args.timelines.now c.revert.new.self c.args.kept.now.items c.in-Some.k.now (last_read c.args.kept.now.items (deque_len c.args.kept.now) c.in-Some.k.now (omega (arith, c.args.kept.now.ok)) (c.in-Some.ensures.variant.0 refl) c.in-Some.ensures.lookup) c.requires.kept c.revert.ensures.back c.revert.ensures.counts

pub returns-clause-back : goal.returns-clause-back
returns-clause-back g c = goes_back c.args.timelines.now c.revert.new.self c.args.kept.now.items c.in-Some.k.now c.args.begun.now (last_read c.args.kept.now.items (deque_len c.args.kept.now) c.in-Some.k.now (omega (arith, c.args.kept.now.ok)) (c.in-Some.ensures.variant.0 refl) c.in-Some.ensures.lookup) c.requires.kept c.requires.begun c.revert.ensures.back c.revert.ensures.counts
