use Rattle.std.proofs.Common.{◌∙◌, ap, ◌+◌, ℕ, arith}
use Rattle.std.specs.Option.{option_copied}
use Rattle.std.specs.Prelude.{Some}
use Rattle.kr_defs.proofs.ImageParts.{partition_total}
use Rattle.kr_defs.proofs.Walks.{walk_less}
use Rattle.kr_workload.proofs.LedPartitions.{few_led, led_left, led_more, led_over}
use Rattle.kr_workload.proofs.summary.count_led.Goals as goal

pub count_if_led-led-requires : goal.count_if_led-led-requires
count_if_led-led-requires g c =
    let few = few_led c.args.seen.now.partitions in
    omega (arith, few, c.is_valid.ensures.partitions.few, c.loop-key.invariant)

pub loop-key-preserved : goal.loop-key-preserved
loop-key-preserved g c =
    let ps = c.args.seen.now.partitions in
    let after = option_copied c.loop-key.after in
    let key = c.in-Some.key.now in
    ap (λ (n : ℕ). n + led_left ps (Some key)) c.count_if_led-led.ensures
    ∙ (led_more ps c.is_valid.ensures.partitions.ordered after (c.in-Some.key.now, c.in-Some.partition.now) c.in-Some.ensures c.loop-key.led ∙ c.loop-key.invariant)

pub loop-key-smaller : goal.loop-key-smaller
loop-key-smaller g c =
    walk_less partition_total c.args.seen.now.partitions (option_copied c.loop-key.after) (c.in-Some.key.now, c.in-Some.partition.now) c.is_valid.ensures.partitions.ordered c.in-Some.ensures

pub returns : goal.returns
returns g c = led_over c.args.seen.now.partitions c.is_valid.ensures.partitions.ordered (option_copied c.loop-key.after) c.in_default.ensures c.loop-key.led _ c.loop-key.invariant
