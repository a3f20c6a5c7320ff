-- What a batch has: control items alone, or records alone (record batches of magic 2, KIP-98).
use Rattle.std.specs.Prelude.{◌≡◌, Bool, true, false, List, ◌∷◌}
use Rattle.kr_defs.specs.declared.record.Item.{Item}
use Rattle.kr_defs.specs.declared.record.Item.TheVariants as items

-- the first item is a control item; a batch that was read has then no others
abbrev pub begins_with_control : List Item → Bool
begins_with_control (items.Control ∷ others) = true
begins_with_control others = false

-- a batch that was read has then records alone
abbrev pub HasRecords : List Item → Type 0
HasRecords all = begins_with_control all ≡ false
