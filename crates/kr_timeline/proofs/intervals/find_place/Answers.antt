use Rattle.std.proofs.Common.{rules, arith}
use Rattle.std.proofs.lemmas.List.Sorted.{answers_always}
use Rattle.kr_timeline.proofs.Places.{stands_found, searchable, nowhere}
use Rattle.kr_timeline.proofs.intervals.find_place.Goals as goal

pub returns-in-Ok-clause-found : goal.returns-in-Ok-clause-found
returns-in-Ok-clause-found g c = stands_found (λ i. i.epoch) c.args.kept.now.items c.args.epoch.now c.in-Ok.place c.requires (omega (arith, c.in-Ok.ensures.bound, c.args.kept.now.ok)) (c.in-Ok.ensures.position (λ i. i.epoch) (answers_always _ _ _ (λ f a r t called. search rules)))

pub returns-in-Err-clause-none : goal.returns-in-Err-clause-none
returns-in-Err-clause-none g c = λ _. nowhere (λ i. i.epoch) c.args.kept.now.items c.args.epoch.now c.in-Err.field-0 (c.in-Err.ensures.position (λ i. i.epoch) (answers_always _ _ _ (λ f a r t called. search rules)) (searchable (λ i. i.epoch) c.args.kept.now.items c.args.epoch.now c.requires))
