use Rattle.kr_batch.proofs.Sizes.{one, two, three, four, five}
use Rattle.kr_batch.proofs.encoding.varint_len.Goals as goal

pub returns-then-value-clause-len : goal.returns-then-value-clause-len
returns-then-value-clause-len c = one _ c.if-value.true

pub returns-then-value-2-clause-len : goal.returns-then-value-2-clause-len
returns-then-value-2-clause-len c = two _ c.if-value.false c.if-value-2.true

pub returns-then-value-3-clause-len : goal.returns-then-value-3-clause-len
returns-then-value-3-clause-len c = three _ c.if-value-2.false c.if-value-3.true

pub returns-then-value-4-clause-len : goal.returns-then-value-4-clause-len
returns-then-value-4-clause-len c = four _ c.if-value-3.false c.if-value-4.true

pub returns-else-value-4-clause-len : goal.returns-else-value-4-clause-len
returns-else-value-4-clause-len c = five _ c.if-value-4.false
