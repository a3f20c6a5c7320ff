-- KIP-868: what an item of a log is to a transaction.
use Rattle.kr_defs.specs.declared.record.Item.{Item}
use Rattle.kr_defs.specs.declared.record.Item.TheVariants as items
use Rattle.kr_defs.specs.declared.record.Record.{Record}
use Rattle.kr_defs.specs.declared.record.Record.TheVariants as kinds
use Rattle.kr_image.specs.declared.transactions.Role.{Role}
use Rattle.kr_image.specs.declared.transactions.Role.TheVariants as roles

abbrev pub role_of : Record → Role
role_of (kinds.BeginTransaction name) = roles.Begin
role_of kinds.EndTransaction = roles.End
role_of (kinds.AbortTransaction reason) = roles.Abort
role_of other = roles.Inner

abbrev pub item_role : Item → Role
item_role items.Control = roles.Inner
item_role (items.Record value) = role_of value
