use Rattle.std.proofs.Common.{◌≡◌, subst, sym, ap, ◌∙◌, Some, w32, to_z, of_z}
use Rattle.std.proofs.lemmas.Int.{to_z-of_z}
use Rattle.kr_balance.specs.Plan.{preferred_leader}
use Rattle.std.specs.Option.{option_copied}
use Rattle.kr_defs.proofs.ImageParts.{partition_total}
use Rattle.kr_defs.proofs.Walks.{walk_less}
use Rattle.kr_balance.specs.inner.Tallies.{with_one}
use Rattle.kr_balance.proofs.Counted.{Counted, count_more, count_over, few_imbalanced, few_preferring, none_counted}
use Rattle.kr_balance.proofs.counts.count_partitions.Goals as goal

pub count_one-requires-clause-preferring : goal.count_one-requires-clause-preferring
count_one-requires-clause-preferring g c =
    few_preferring c.args.seen.now c.loop-key.tallies.entries (option_copied c.loop-key.after) _ c.loop-key.invariant c.is_valid.ensures.partitions.few

pub count_one-requires-clause-imbalanced : goal.count_one-requires-clause-imbalanced
count_one-requires-clause-imbalanced g c =
    few_imbalanced c.args.seen.now c.loop-key.tallies.entries (option_copied c.loop-key.after) _ c.loop-key.invariant c.is_valid.ensures.partitions.few

pub loop-key-smaller : goal.loop-key-smaller
loop-key-smaller g c =
    walk_less partition_total c.args.seen.now.partitions (option_copied c.loop-key.after) (c.in-Some.key.now, c.in-Some.partition.now) c.is_valid.ensures.partitions.ordered c.in-Some.ensures

pub loop-key-preserved : goal.loop-key-preserved
loop-key-preserved g c =
    let image = c.args.seen.now in
    let es = c.loop-key.tallies.entries in
    let own : to_z w32 (of_z w32 c.preferred_leader-preferred.result) ≡ preferred_leader c.in-Some.partition.now = to_z-of_z w32 c.preferred_leader-preferred.result (record { sfits = c.preferred_leader-preferred.type_inv }) ∙ c.preferred_leader-preferred.ensures in
    let more = count_more image c.is_valid.ensures.partitions.ordered (option_copied c.loop-key.after) (c.in-Some.key.now, c.in-Some.partition.now) c.in-Some.ensures es c.loop-key.invariant in
    subst (λ es. Counted image es (Some c.in-Some.key.now))
    (sym (c.in_ok-count_one.ensures ∙ (ap (λ o. with_one es o c.is_imbalanced-is_imbalanced.result) own ∙ ap (λ b. with_one es (preferred_leader c.in-Some.partition.now) b) c.is_imbalanced-is_imbalanced.ensures))) more

pub returns : goal.returns
returns g c = count_over c.args.seen.now c.is_valid.ensures.partitions.ordered (option_copied c.loop-key.after) c.in_default.ensures c.loop-key.tallies.entries c.loop-key.invariant
