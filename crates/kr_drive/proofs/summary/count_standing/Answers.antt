use Rattle.std.proofs.Common.{rules, ◌^◌, ◌≡◌, ◌∙◌, ◌+◌, ◌<◌, ◌≤◌, ap, length, take, ℕ, arith}
use Rattle.std.proofs.lemmas.List.{length-take}
use Rattle.kr_drive.specs.inner.Standing.{counted}
use Rattle.kr_drive.proofs.StandingReplies.{count_more, few_counted}
use Rattle.kr_drive.proofs.summary.count_standing.Goals as goal

pub count_if_stands-count-requires : goal.count_if_stands-count-requires
count_if_stands-count-requires c =
    let told = c.args.told.now in
    let few = few_counted (take c.loop-one.one-index told) in
    let front = length-take c.loop-one.one-index told in
    let so_far = c.loop-one.invariant in
    let low = c.loop-one-test.true in
    let most : length told < 2 ^ 64 = search rules in
    omega (arith, few, front, so_far, low, most)

pub loop-one-preserved : goal.loop-one-preserved
loop-one-preserved c =
    c.count_if_stands-count.ensures
    ∙ (ap (λ (n : ℕ). counted n c.one-item.result) c.loop-one.invariant
    ∙ count_more c.args.told.now c.loop-one.one-index c.one-item.result c.loop-one-test.true c.one-item.is)
