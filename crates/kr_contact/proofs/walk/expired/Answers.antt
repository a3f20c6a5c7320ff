use Rattle.std.proofs.Common.{◌≡◌, ◌<◌, w32, true, int_le, ap, ◌∙◌, arith}
use Rattle.std.proofs.lemmas.Int.{to_z-of_z}
use Rattle.kr_contact.specs.Nodes.{index_of, node_at}
use Rattle.kr_contact.proofs.Walks.{known_now, given_more, counted_more}
use Rattle.kr_contact.proofs.walk.expired.Goals as goal

pub loop-preserved : goal.loop-preserved
loop-preserved g c =
    let is = c.read-node.ensures in
    let old : true ≡ int_le (node_at c.args.nodes.now.items (index_of c.args.nodes.now.ptr c.loop.place)).time c.args.limit.now = rw is at c.if-not-is_old.ensures in
    let within : c.loop.counter < c.args.count = c.loop-test.true in
    let pushed = rw (to_z-of_z w32 c.broker_of.result (record { sfits = c.broker_of.type_inv })) at c.in_ok-push.ensures.ok in
    rw is (record {
      known = (known_now c.args.nodes.now.ptr c.args.nodes.now.items c.args.limit.now c.args.count c.loop.counter c.loop.place within c.loop.invariant.known).1;
      given = given_more c.args.nodes.now.ptr c.args.nodes.now.items c.args.limit.now c.args.count c.loop.counter c.loop.place _ _ _ _ within old (c.broker_of.ensures ∙ ap (λ n. n.broker) is) pushed c.loop.invariant.given;
      counted = counted_more c.args.nodes.now.ptr c.args.nodes.now.items c.args.limit.now c.args.count c.loop.counter c.loop.place _ _ _ within old c.tick.ensures c.loop.invariant.counted;
      within = omega arith;
    })
