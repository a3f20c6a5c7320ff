-- The records that are read one after the other, against their order and their meaning.
use Rattle.std.proofs.Common.{◌≡◌, ◌∙◌, ℕ, suc, ◌+◌, ◌<◌, ◌≤◌, get_or, drop, drop-cons, add-one, Bool, true, false, cond, List, [], ◌∷◌, ◌++◌, length, Result, Ok, Err, refl, sym, ap, subst, arith}
use Rattle.std.specs.Prelude.{not}
use Rattle.std.proofs.lemmas.List.{drop_all}
use Rattle.std.specs.List.{list_any}
use Rattle.kr_defs.specs.declared.ill.Ill.{Ill}
use Rattle.kr_defs.specs.declared.record.Record.{Record}
use Rattle.kr_defs.specs.declared.record.Item.{Item}
use Rattle.kr_defs.specs.declared.record.Item.TheVariants as items
use Rattle.kr_defs.specs.Apply.{apply}
use Rattle.kr_defs.specs.Guard.{and_then}
use Rattle.kr_defs.specs.Image.{Image}
use Rattle.kr_defs.specs.ImageLaws.{as_items}
use Rattle.kr_defs.specs.ImageOrder.{is_later, seen_with, are_in_order}
use Rattle.kr_defs.specs.Log.{apply_all}
use Rattle.kr_wire.specs.Reading.{◌>>=◌}
use Rattle.kr_wire.proofs.ReadingLaws.{bind_ok, guard_ok, is_ok, complete_bind, complete_guard}
use Rattle.kr_batch.proofs.Frames.{is_true}
use Rattle.kr_snapshot.specs.declared.fault.ImageFault.{ImageFault}
use Rattle.kr_snapshot.specs.ReaderState.{IsFault}
use Rattle.kr_snapshot.proofs.Faults.{through}
use Rattle.kr_snapshot.specs.Reading.{Progress, with_meaning, record_read, item_read, items_read, is_control}

-- what was read, and then the record too
abbrev stepped : Progress → Record → Image → Progress
stepped p r image = record { expected = p.expected; found = p.found + 1; seen = seen_with p.seen r; image = image }

meaning_ok : (p : Progress) (r : Record) (a : Result Image Ill) (q : Progress) → with_meaning p r a ≡ Ok q → (image : Image) × (a ≡ Ok image) × (stepped p r image ≡ q)
meaning_ok p r (Ok image) q e = (image, refl, is_ok _ _ e)
meaning_ok p r (Err cause) q e = absurd cc

record_ok : (p : Progress) (r : Record) (q : Progress) → record_read p r ≡ Ok q → (is_later p.seen r ≡ true) × ((image : Image) × (apply p.image (items.Record r) ≡ Ok image) × (stepped p r image ≡ q))
unfolding record_read
record_ok p r q e =
    let g = guard_ok (not (is_later p.seen r)) _ _ q e in
    (is_true (is_later p.seen r) g.0, meaning_ok p r (apply p.image (items.Record r)) q g.1)

record_done : (p : Progress) (r : Record) (image : Image) → is_later p.seen r ≡ true → apply p.image (items.Record r) ≡ Ok image → record_read p r ≡ Ok (stepped p r image)
unfolding record_read
record_done p r image later applied = complete_guard (not (is_later p.seen r)) _ _ _ (ap not later) (ap (with_meaning p r) applied)

-- what is known of records that were read
pub record AreRead (p q : Progress) (rs : List Record) : Type 0 where
  pub ordered : are_in_order p.seen rs ≡ true
  pub applied : apply_all p.image (as_items rs) ≡ Ok q.image
  pub found : q.found ≡ p.found + length rs
  pub expected : q.expected ≡ p.expected

read_none : (p : Progress) → AreRead p p []
read_none p = record { ordered = refl; applied = refl; found = omega arith; expected = refl }

pub records_sound : (rs : List Record) (p q : Progress) → items_read p (as_items rs) ≡ Ok q → AreRead p q rs
records_sound [] p q e = subst (λ (x : Progress). AreRead p x []) (is_ok _ _ e) (read_none p)
records_sound (r ∷ rs) p q e =
    let a = bind_ok (record_read p r) (λ next. items_read next (as_items rs)) q e in
    let s = record_ok p r a.0 a.1 in
    let rest = subst (λ (n : Progress). items_read n (as_items rs) ≡ Ok q) (sym s.1.2) a.2 in
    let i = records_sound rs (stepped p r s.1.0) q rest in
    let found = i.found in
    record {
      ordered = ap (λ b. cond b (are_in_order (seen_with p.seen r) rs) false) s.0 ∙ i.ordered;
      applied = ap (λ x. and_then x (λ after. apply_all after (as_items rs))) s.1.1 ∙ i.applied;
      found = omega (arith, found);
      expected = i.expected;
    }

first_true : (a b : Bool) → cond a b false ≡ true → (a ≡ true) × (b ≡ true)
first_true true b e = (refl, e)
first_true false b e = absurd cc

then_ok : {X Y E : Type 0} (r : Result X E) (next : X → Result Y E) (y : Y) → and_then r next ≡ Ok y → (x : X) × (r ≡ Ok x) × (next x ≡ Ok y)
then_ok (Ok x) next y e = (x, refl, e)
then_ok (Err d) next y e = absurd cc

pub records_complete : (rs : List Record) (p : Progress) (image : Image) → are_in_order p.seen rs ≡ true → apply_all p.image (as_items rs) ≡ Ok image
    → (q : Progress) × (items_read p (as_items rs) ≡ Ok q) × (image ≡ q.image)
records_complete [] p image ordered applied = (p, refl, sym (is_ok _ _ applied))
records_complete (r ∷ rs) p image ordered applied =
    let o = first_true (is_later p.seen r) (are_in_order (seen_with p.seen r) rs) ordered in
    let a = then_ok (apply p.image (items.Record r)) (λ after. apply_all after (as_items rs)) image applied in
    let i = records_complete rs (stepped p r a.0) image o.1 a.2 in
    (i.0, complete_bind (record_read p r) (λ next. items_read next (as_items rs)) (stepped p r a.0) i.0 (record_done p r a.0 o.0 a.1) i.1, i.2)

pub items_append : (p : Progress) (xs ys : List Item) → items_read p (xs ++ ys) ≡ (items_read p xs >>= λ next. items_read next ys)
items_append p [] ys = refl
items_append p (x ∷ xs) ys =
    elim (item_read p x) as (λ (r : Result Progress ImageFault). (r >>= λ next. items_read next (xs ++ ys)) ≡ ((r >>= λ next. items_read next xs) >>= λ next. items_read next ys)) [
      | Ok next ↦ items_append next xs ys
      | Err fault ↦ refl
    ]

-- ---- control items

pub none_control : (rs : List Record) → list_any is_control (as_items rs) ≡ false
none_control [] = refl
none_control (r ∷ rs) = none_control rs

pub only_records : (all : List Item) → list_any is_control all ≡ false → (rs : List Record) × (all ≡ as_items rs)
only_records [] none = ([], refl)
only_records (items.Record r ∷ all) none = let o = only_records all none in (r ∷ o.0, ap (λ (is : List Item). items.Record r ∷ is) o.1)
only_records (items.Control ∷ all) none = absurd cc

-- ---- one after the other

here : (items : List Item) (i : ℕ) (item : Item) → i < length items → item ≡ get_or items i item → drop i items ≡ item ∷ drop (i + 1) items
here items i item within is = rw (add-one, drop-cons items i item) (ap (λ (x : Item). x ∷ drop (suc i) items) (sym is))

module _ (p next : Progress) (items : List Item) (i : ℕ) (item : Item) (within : i < length items) (is : item ≡ get_or items i item) where
  one : items_read p (drop i items) ≡ (item_read p item >>= λ n. items_read n (drop (i + 1) items))
  one = ap (items_read p) (here items i item within is)

  pub items_next : item_read p item ≡ Ok next → items_read next (drop (i + 1) items) ≡ items_read p (drop i items)
  items_next read = sym (one ∙ ap (λ (r : Result Progress ImageFault). r >>= λ n. items_read n (drop (i + 1) items)) read)

module _ (p : Progress) (items : List Item) (i : ℕ) (item : Item) (within : i < length items) (is : item ≡ get_or items i item) (whole : Result Progress ImageFault) (fault : ImageFault) where
  pub items_fault : items_read p (drop i items) ≡ whole → IsFault fault (item_read p item) → IsFault fault whole
  items_fault so_far found = through fault (item_read p item) whole
      (λ read. sym so_far ∙ (one p p items i item within is ∙ ap (λ (r : Result Progress ImageFault). r >>= λ n. items_read n (drop (i + 1) items)) read)) found

pub items_done : (p : Progress) (items : List Item) (i : ℕ) (whole : Result Progress ImageFault) → length items ≤ i → items_read p (drop i items) ≡ whole → whole ≡ Ok p
items_done p items i whole past so_far = sym so_far ∙ ap (items_read p) (drop_all i items past)
