use Rattle.std.proofs.Common.{◌≡◌, ◌∙◌, ◌<◌, ◌∷◌, [], pos, length, sym, ap, arith, length-append}
use Rattle.std.specs.Prelude.{Some, None}
use Rattle.kr_calls.specs.CreateTopics.{assigned_at}
use Rattle.kr_topics.proofs.Assignments.{list_more, whole_more, whole_none, list_all_told, list_all_whole}
use Rattle.kr_topics.proofs.assigning.lists_of.Goals as goal

pub loop-index-preserved : goal.loop-index-preserved
loop-index-preserved c =
    let lt : c.loop-index.index < length c.args.assignments.now = omega arith in
    let here : assigned_at c.args.assignments.now c.loop-index.index ≡ Some c.in-Some.brokers.now = sym (c.in-Some.ensures ∙ c.in_ok-those.ensures (pos c.loop-index.index)) in
    record {
      told = rw c.in_ok-add_list-in-Some.ensures (list_more c.args.assignments.now c.loop-index.index lt c.in-Some.brokers.now here c.loop-index.lists _ c.loop-index.invariant.told);
      whole = whole_more c.args.assignments.now c.loop-index.index lt c.in-Some.brokers.now here _ c.loop-index.invariant.whole;
      count = omega (arith, ap length c.in_ok-add_list-in-Some.ensures, length-append c.loop-index.lists (c.in-Some.brokers.now ∷ []), c.loop-index.invariant.count);
    }

pub returns-in-None-clause-whole : goal.returns-in-None-clause-whole
returns-in-None-clause-whole c =
    let lt : c.loop-index.index < length c.args.assignments.now = omega arith in
    let here : assigned_at c.args.assignments.now c.loop-index.index ≡ None = sym (c.in-None.ensures ∙ c.in_ok-those.ensures (pos c.loop-index.index)) in
    whole_none c.args.assignments.now c.loop-index.index lt here _ c.loop-index.invariant.whole

pub returns-clause-lists : goal.returns-clause-lists
returns-clause-lists c =
    let all : c.loop-index.index ≡ length c.args.assignments.now = omega arith in
    list_all_told c.args.assignments.now c.loop-index.index all c.loop-index.lists _ c.loop-index.invariant.told

pub returns-clause-whole : goal.returns-clause-whole
returns-clause-whole c =
    let all : c.loop-index.index ≡ length c.args.assignments.now = omega arith in
    list_all_whole c.args.assignments.now c.loop-index.index all _ c.loop-index.invariant.whole
