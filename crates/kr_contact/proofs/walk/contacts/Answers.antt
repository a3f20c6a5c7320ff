use Rattle.std.proofs.Common.{◌<◌, pos, arith}
use Rattle.kr_contact.proofs.Walks.{known_now, listed_more}
use Rattle.kr_contact.proofs.walk.contacts.Goals as goal

pub read-node-requires : goal.read-node-requires
read-node-requires c =
    let within : c.loop.counter < c.args.count = c.loop-test.true in
    rw (c.args.nodes.now.ok.0) (known_now c.args.nodes.now.ptr c.args.nodes.now.items (pos 0) c.args.count c.loop.counter c.loop.place within c.loop.invariant.known).0

pub loop-preserved : goal.loop-preserved
loop-preserved c =
    let within : c.loop.counter < c.args.count = c.loop-test.true in
    let pushed = rw (c.contact_in.ensures, c.read-node.ensures) at c.in_ok-push.ensures.items in
    rw (c.read-node.ensures) (record {
      known = (known_now c.args.nodes.now.ptr c.args.nodes.now.items (pos 0) c.args.count c.loop.counter c.loop.place within c.loop.invariant.known).1;
      copied = listed_more c.args.nodes.now.ptr c.args.nodes.now.items (pos 0) c.args.count c.loop.counter c.loop.place _ _ _ within pushed c.loop.invariant.copied;
      within = omega arith;
    })
