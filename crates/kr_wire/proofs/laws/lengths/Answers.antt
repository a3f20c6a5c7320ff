use Rattle.std.specs.Int.{w8, w16, w32, w64}
use Rattle.kr_wire.specs.Spelling.{signed}
use Rattle.kr_wire.proofs.Lengths.{length_number, length_signed, length_id, length_bool, groups_few, length_uvarint, length_text, length_list}
use Rattle.kr_wire.proofs.laws.lengths.Goals as goal

pub returns-clause-numbers : goal.returns-clause-numbers
returns-clause-numbers c = λ n. (length_number w16 n, length_number w32 n, length_number w64 n)

pub returns-clause-signed : goal.returns-clause-signed
returns-clause-signed c = λ n. (length_signed w8 n, length_signed w16 n, length_signed w32 n, length_signed w64 n)

pub returns-clause-id : goal.returns-clause-id
returns-clause-id c = length_id

pub returns-clause-bool : goal.returns-clause-bool
returns-clause-bool c = length_bool

pub returns-clause-groups : goal.returns-clause-groups
returns-clause-groups c = groups_few

pub returns-clause-uvarint : goal.returns-clause-uvarint
returns-clause-uvarint c = length_uvarint

pub returns-clause-text : goal.returns-clause-text
returns-clause-text c = length_text

pub returns-clause-list : goal.returns-clause-list
returns-clause-list c = length_list (signed w32) 4 (λ n. length_signed w32 n)
