use Rattle.std.proofs.Common.{◌∙◌, sym, arith, rules, refl}
use Rattle.std.specs.VecDeque.{deque_len}
use Rattle.std.proofs.lemmas.List.Sorted.{IsPartitionPoint-from_clause}
use Rattle.kr_timeline.proofs.Searches.{is_later, IsPlace, later_first, value_placed, nothing_placed, ended}
use Rattle.kr_timeline.proofs.chain.value_among.Goals as goal

pub returns-in-Some : goal.returns-in-Some
returns-in-Some g c =
    let place : IsPlace c.args.number c.args.versions.now.items c.partition_point-place.result = IsPartitionPoint-from_clause (is_later c.args.number) c.args.versions.now.items c.partition_point-place.result c.partition_point-place.ensures.partitioned (later_first c.args.number c.args.versions.now.items c.requires) (λ a r f called. search rules) in
    c.value.ensures ∙ sym (value_placed c.args.number c.args.versions.now.items c.partition_point-place.result c.in-Some.version.now place (let lt = c.in-Some.ensures.variant.0 refl in omega (arith, lt, c.args.versions.now.ok)) c.in-Some.ensures.lookup)

pub returns-in-None : goal.returns-in-None
returns-in-None g c =
    let place : IsPlace c.args.number c.args.versions.now.items c.partition_point-place.result = IsPartitionPoint-from_clause (is_later c.args.number) c.args.versions.now.items c.partition_point-place.result c.partition_point-place.ensures.partitioned (later_first c.args.number c.args.versions.now.items c.requires) (λ a r f called. search rules) in
    sym (nothing_placed c.args.number c.args.versions.now.items c.partition_point-place.result place (let past = ended c.partition_point-place.result (deque_len c.args.versions.now) c.in-None.ensures.variant.1 in omega (arith, past, c.args.versions.now.ok)))
