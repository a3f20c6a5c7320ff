use Rattle.std.proofs.Common.{◌≡◌, ◌+◌, ℕ, ◌++◌, take, drop, pos, sym, ap, ◌∙◌, arith}
use Rattle.kr_wire.specs.Spelling.{varint32}
use Rattle.kr_batch.proofs.Fronts.{is_longer, is_short, is_small, one_set, two_set}
use Rattle.kr_batch.proofs.encoding.set_length.Goals as goal

pub overflow_mul-len : goal.overflow_mul-len
overflow_mul-len c = omega (arith, is_small c.args.len c.args.width c.requires.fits c.requires.few)

pub overflow_mul-len-else-width-eq1 : goal.overflow_mul-len-else-width-eq1
overflow_mul-len-else-width-eq1 c = omega (arith, is_small c.args.len c.args.width c.requires.fits c.requires.few)

pub overflow_cast-len-else-width-eq1-2 : goal.overflow_cast-len-else-width-eq1-2
overflow_cast-len-else-width-eq1-2 c = omega (arith, is_small c.args.len c.args.width c.requires.fits c.requires.few)

pub overflow_cast-len : goal.overflow_cast-len
overflow_cast-len c = omega (arith, is_short c.args.len c.args.width c.requires.fits c.if-width-eq1.true)

pub index_mut-requires-else-width-eq1 : goal.index_mut-requires-else-width-eq1
index_mut-requires-else-width-eq1 c = grind (arith, c.requires.some, c.requires.room)

pub index_mut-requires-else-width-eq1-2 : goal.index_mut-requires-else-width-eq1-2
index_mut-requires-else-width-eq1-2 c = grind (arith, c.requires.some, c.requires.room)

pub returns-then-width-eq1 : goal.returns-then-width-eq1
returns-then-width-eq1 c =
    one_set c.args.out.now.items c.args.at c.args.len (is_short c.args.len c.args.width c.requires.fits c.if-width-eq1.true) (omega arith)
    ∙ ap (λ (n : ℕ). take c.args.at c.args.out.now.items ++ varint32 (pos c.args.len) ++ drop (c.args.at + n) c.args.out.now.items) (sym c.if-width-eq1.true)

pub returns-else-width-eq1 : goal.returns-else-width-eq1
returns-else-width-eq1 c =
    let both : c.args.width ≡ 2 = omega (arith, c.requires.some, c.requires.few, c.if-width-eq1.false) in
    two_set c.args.out.now.items c.args.at c.args.len (is_longer c.args.len c.args.width c.requires.fits both) (is_small c.args.len c.args.width c.requires.fits c.requires.few) (omega (arith, both))
    ∙ ap (λ (n : ℕ). take c.args.at c.args.out.now.items ++ varint32 (pos c.args.len) ++ drop (c.args.at + n) c.args.out.now.items) (sym both)
