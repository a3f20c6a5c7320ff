use Rattle.std.proofs.Common.{◌≡◌, ◌∙◌, ◌<◌, ◌+◌, ℕ, ap, length, arith}
use Rattle.std.proofs.lemmas.List.FromFn.{length-map-range_with_len}
use Rattle.kr_place.specs.Placing.{placed_in}
use Rattle.kr_topics.proofs.Placements.{index_begin, index_more, index_over}
use Rattle.kr_topics.proofs.partitions.placements.Goals as goal

pub loop-index-init : goal.loop-index-init
loop-index-init c = index_begin (λ (index : ℕ). placed_in c.args.those.now (c.args.start + index) c.args.factor) c.args.first c.args.count c.new-lists.result c.new-lists.ensures

pub loop-index-preserved : goal.loop-index-preserved
loop-index-preserved c =
    let lt : c.loop-index.index < c.args.first + c.args.count = omega arith in
    index_more (λ (index : ℕ). placed_in c.args.those.now (c.args.start + index) c.args.factor) c.loop-index.index (c.args.first + c.args.count) lt c.loop-index.lists _ c.in_ok-add_placed.ensures _ c.loop-index.invariant

pub returns-clause-lists : goal.returns-clause-lists
returns-clause-lists c =
    let is : c.loop-index.index ≡ c.args.first + c.args.count = omega arith in
    index_over (λ (index : ℕ). placed_in c.args.those.now (c.args.start + index) c.args.factor) c.loop-index.index (c.args.first + c.args.count) is c.loop-index.lists _ c.loop-index.invariant

pub returns-clause-count : goal.returns-clause-count
returns-clause-count c =
    let is : c.loop-index.index ≡ c.args.first + c.args.count = omega arith in
    ap length (index_over (λ (index : ℕ). placed_in c.args.those.now (c.args.start + index) c.args.factor) c.loop-index.index (c.args.first + c.args.count) is c.loop-index.lists _ c.loop-index.invariant) ∙ length-map-range_with_len (λ (index : ℕ). placed_in c.args.those.now (c.args.start + index) c.args.factor) c.args.first c.args.count
