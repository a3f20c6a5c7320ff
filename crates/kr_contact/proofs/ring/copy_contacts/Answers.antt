use Rattle.std.proofs.Common.{◌<◌, pos, arith}
use Rattle.kr_contact.proofs.Walks.{known_now, copied_more}
use Rattle.kr_contact.proofs.ring.copy_contacts.Goals as goal

pub loop-preserved : goal.loop-preserved
loop-preserved g c =
    let within : c.loop.counter < c.args.count = c.loop-test.true in
    let touched = rw (c.contact_in.ensures, c.read-node.ensures) at c.touch.ensures.contacts in
    let used = c.touch.ensures.spare in
    let room = c.loop.invariant.room in
    let spare = c.loop.invariant.spare in
    rw (c.read-node.ensures) (record {
      known = (known_now c.args.nodes.now.ptr c.args.nodes.now.items (pos 0) c.args.count c.loop.counter c.loop.place within c.loop.invariant.known).1;
      copied = copied_more c.args.nodes.now.ptr c.args.nodes.now.items (pos 0) c.args.count c.loop.counter c.loop.place _ _ _ within c.requires.single touched c.loop.invariant.copied;
      room = omega arith;
      spare = omega arith;
      within = omega arith;
    })
