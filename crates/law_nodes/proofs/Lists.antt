-- Lists of batches, and parts of lists.
use Rattle.std.proofs.Common.{◌≡◌, ◌∙◌, sym, ℕ, zero, suc, ◌-◌, ◌≤◌, ◌<◌, List, [], ◌∷◌, ◌++◌, length, take, drop, refl, ap, arith}
use Rattle.std.specs.Prelude.{Some}
use Rattle.std.specs.List.{AllByRecursion}
use Rattle.std.proofs.lemmas.List.{append-nil, append_assoc, length-append, take_at, take-append-drop, take-append-le}
use Rattle.std.proofs.lemmas.List.Concat.{flat_map-append}
use Rattle.kr_batch.specs.declared.Batch.{Batch}
use Rattle.kr_defs.specs.declared.record.Item.{Item}
use Rattle.law_nodes.specs.OneList.{StandsIn, batch_from, list_items}

-- a batch has items
abbrev pub HasItems : Batch → Type 0
HasItems b = 0 < length b.items

pub items_append : (xs ys : List Batch) → list_items (xs ++ ys) ≡ list_items xs ++ list_items ys
items_append xs ys = flat_map-append (λ (b : Batch). b.items) xs ys

pub items_one : (xs : List Batch) (b : Batch) → list_items (xs ++ b ∷ []) ≡ list_items xs ++ b.items
items_one xs b = items_append xs (b ∷ []) ∙ ap (λ (l : List Item). list_items xs ++ l) (append-nil b.items)

-- ---- lists of batches that all have items

pub some_both : (xs ys : List Batch) → AllByRecursion HasItems xs → AllByRecursion HasItems ys → AllByRecursion HasItems (xs ++ ys)
some_both [] ys h g = g
some_both (x ∷ xs) ys h g = (h.0, some_both xs ys h.1 g)

pub some_behind : (xs ys : List Batch) → AllByRecursion HasItems (xs ++ ys) → AllByRecursion HasItems ys
some_behind [] ys h = h
some_behind (x ∷ xs) ys h = some_behind xs ys h.1

pub some_before : (xs ys : List Batch) → AllByRecursion HasItems (xs ++ ys) → AllByRecursion HasItems xs
some_before [] ys h = tt
some_before (x ∷ xs) ys h = (h.0, some_before xs ys h.1)

pub none_long : (bs : List Batch) → AllByRecursion HasItems bs → length (list_items bs) ≡ 0 → bs ≡ []
none_long [] h is = refl
none_long (b ∷ bs) h is =
    let some = h.0 in
    let long = length-append b.items (list_items bs) in
    absurd (omega (arith, some, long, is))

-- ---- the batch at a place

next_at : (bs : List Batch) (b : Batch) (at : ℕ) → 0 < at → batch_from at (b ∷ bs) ≡ batch_from (at - length b.items) bs
next_at bs b zero some = absurd (omega (arith, some))
next_at bs b (suc at) some = refl

pub batch_behind : (done ahead : List Batch) (b : Batch) → AllByRecursion HasItems done → batch_from (length (list_items done)) (done ++ b ∷ ahead) ≡ Some b
batch_behind [] ahead b some = refl
batch_behind (d ∷ ds) ahead b some =
    let long = length-append d.items (list_items ds) in
    let here = some.0 in
    next_at (ds ++ b ∷ ahead) d (length (d.items ++ list_items ds)) (omega (arith, long, here))
    ∙ (ap (λ at. batch_from at (ds ++ b ∷ ahead)) (let e : length (d.items ++ list_items ds) - length d.items ≡ length (list_items ds) = omega (arith, long) in e)
    ∙ batch_behind ds ahead b some.1)

-- ---- parts

pub stands_on : (items more part : List Item) (from : ℕ) → StandsIn items from part → StandsIn (items ++ more) from part
stands_on items more part from s = record {
  front = s.front;
  back = s.back ++ more;
  at = s.at;
  is = ap (λ l. l ++ more) s.is ∙ (append_assoc s.front (part ++ s.back) more ∙ ap (λ l. s.front ++ l) (append_assoc part s.back more));
}

-- what the longer of two fronts has
pub rest_of : (xs ys zs ws : List Item) → xs ++ ys ≡ zs ++ ws → length zs ≤ length xs → xs ≡ zs ++ drop (length zs) xs
rest_of xs ys zs ws is le =
    sym (take-append-drop (length zs) xs)
    ∙ ap (λ l. l ++ drop (length zs) xs)
    (sym (take-append-le (length zs) xs ys le) ∙ (ap (λ l. take (length zs) l) is ∙ take_at zs ws (length zs) refl))
