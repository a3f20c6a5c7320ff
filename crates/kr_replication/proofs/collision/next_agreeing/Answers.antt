use Rattle.std.specs.Option.{option_copied}
use Rattle.std.proofs.lemmas.Str.{IsUtf8-from_ascii}
use Rattle.kr_replication.proofs.AgreeingNames.{next_ascii, none_told, some_told, told}
use Rattle.kr_replication.proofs.collision.next_agreeing.Goals as goal

pub returns-then-not-branch : goal.returns-then-not-branch
returns-then-not-branch c =
    none_told c.args.name.now (option_copied c.args.after) c.new-bytes.result.items c.add_next.new.out.items c.in_ok-add_next.field-0 c.if-not-branch.true c.in_ok-add_next.ensures

pub from_utf8-requires : goal.from_utf8-requires
from_utf8-requires c =
    let next = told c.args.name.now (option_copied c.args.after) c.new-bytes.result.items c.add_next.new.out.items c.in_ok-add_next.field-0 c.new-bytes.ensures.items c.if-not-branch.false c.in_ok-add_next.ensures in
    rw c.as_slice.ensures.value (IsUtf8-from_ascii c.add_next.new.out.items (next_ascii c.args.name.now (option_copied c.args.after) c.add_next.new.out.items next c.requires))

pub returns : goal.returns
returns c =
    rw (c.in_ok-from_utf8.ensures, c.as_slice.ensures.value)
    (some_told c.args.name.now (option_copied c.args.after) c.new-bytes.result.items c.add_next.new.out.items c.in_ok-add_next.field-0 c.new-bytes.ensures.items c.if-not-branch.false c.in_ok-add_next.ensures)
