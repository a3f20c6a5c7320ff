-- Tests of equality. This project's own.
use Rattle.std.specs.Prelude.{ℕ, Bool, true, false, ◌&&◌, List, [], ◌∷◌, length, nat_eq, nat_le}
use Rattle.std.specs.List.{list_all, zip}
use Rattle.law_quorum.specs.Batches.{Batch, StoredImage}
use Rattle.law_link.specs.Links.{Call, Held, Keep}

abbrev pub same_bytes : List ℕ → List ℕ → Bool
same_bytes [] [] = true
same_bytes [] (b ∷ bs) = false
same_bytes (a ∷ as') [] = false
same_bytes (a ∷ []) (b ∷ []) = nat_eq a b
same_bytes (a ∷ as') (b ∷ bs) = nat_eq a b && same_bytes as' bs

abbrev pub same_batch : Batch → Batch → Bool
same_batch a b = nat_eq a.base b.base && nat_eq a.count b.count && nat_eq a.epoch b.epoch && same_bytes a.bytes b.bytes

-- one list has the batches of the other, as far as both go
abbrev pub agree : List Batch → List Batch → Bool
agree some others = list_all (λ p. same_batch p.0 p.1) (zip some others)

abbrev pub same_batches : List Batch → List Batch → Bool
same_batches some others = nat_eq (length some) (length others) && agree some others

abbrev pub begins_with : List Batch → List Batch → Bool
begins_with list others = nat_le (length others) (length list) && agree list others

abbrev pub same_image : StoredImage → StoredImage → Bool
same_image a b = nat_eq a.offset b.offset && same_bytes a.bytes b.bytes

abbrev pub same_held : Held → Held → Bool
same_held a b = nat_eq a.epoch b.epoch && nat_eq a.made b.made && nat_eq a.start b.start

abbrev pub same_call : Call → Call → Bool
same_call a b = nat_eq a.epoch b.epoch && nat_eq a.made b.made && same_batches a.group b.group

abbrev pub same_keep : Keep → Keep → Bool
same_keep a b = nat_eq a.before b.before && same_image a.image b.image
