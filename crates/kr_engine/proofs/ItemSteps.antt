-- Items are applied to a store, one after the other.
use Rattle.std.proofs.Common.{◌≡◌, ◌∙◌, sym, subst, ℕ, zero, suc, ℤ, pos, negsuc, Bool, true, false, cond, ◌+◌, ◌≤◌, ◌<◌, List, [], ◌∷◌, ◌++◌, length, get_or, drop, refl, ap, arith, inl, inr}
use Rattle.std.proofs.lemmas.Int.{ints}
use Rattle.std.proofs.lemmas.List.{append-nil, append_assoc, drop_all, drop_more}
use Rattle.std.proofs.lemmas.List.Elements.{All-append, All-from_recursion, recursion_from_All}
use Rattle.std.proofs.lemmas.List.Folds.{find-append}
use Rattle.std.specs.Prelude.{◌⊎◌, ◌+ℤ◌, ◌-◌, ◌≤ℤ◌, ◌||◌, Option, Some, None, Result, Ok, Err, All, IsSome, IsTrue, find, int_lt, is_some, slice_get, if◌then◌else◌}
use Rattle.std.specs.List.{AllByRecursion}
use Rattle.std.specs.Option.{option_map, option_or}
use Rattle.std.specs.Ordering.{int_eq}
use Rattle.kr_defs.specs.declared.ill.Ill.{Ill}
use Rattle.kr_defs.specs.declared.record.Item.{Item}
use Rattle.kr_defs.specs.declared.record.Item.TheVariants as items
use Rattle.kr_defs.specs.declared.record.Record.TheVariants as kinds
use Rattle.kr_defs.specs.Image.{Image}
use Rattle.kr_defs.specs.LogStates.{LogState, apply_at, first_ill_at, ill_at_or}
use Rattle.kr_defs.proofs.IdLists.{id_itself}
use Rattle.kr_defs.proofs.Tests.{some_is}
use Rattle.kr_store.specs.Images.{Images, IsAbove, kept_at, last_kept, log_place, marked, tip_state}
use Rattle.kr_store.specs.ItemAnswers.{KeepsEpochs, MayOpen, MayStand, with_begin, with_epoch}
use Rattle.kr_engine.specs.inner.Batch.{IsTaken, TakesItem, TakesItems}
use Rattle.kr_engine.specs.inner.Changes.{IsLonger}
use Rattle.kr_engine.proofs.KeptPlaces.{last_added}

-- ---- places

pub natural_place : (place : ℤ) → pos 0 ≤ℤ place → place ≡ pos (log_place place)
natural_place (pos n) natural = refl
natural_place (negsuc n) natural = absurd (omega (arith, ints, natural))

pub next_place : (place : ℤ) → pos 0 ≤ℤ place → log_place (place +ℤ pos 1) ≡ log_place place + 1
next_place (pos n) natural = refl
next_place (negsuc n) natural = absurd (omega (arith, ints, natural))

still_natural : (place : ℤ) → pos 0 ≤ℤ place → pos 0 ≤ℤ (place +ℤ pos 1)
still_natural place natural = omega (arith, ints, natural)

lt_next : (z place : ℤ) → int_lt z place ≡ true → int_lt z (place +ℤ pos 1) ≡ true
lt_next z place is = grind (arith, ints)

lt_itself : (z : ℤ) → int_lt z (z +ℤ pos 1) ≡ true
lt_itself z = grind (arith, ints)

further : (place : ℤ) (n : ℕ) → int_lt place (place +ℤ pos (suc n)) ≡ true
further place n = grind (arith, ints)

-- ---- what is kept besides

-- the place is kept too
pub record Adds (before after : Images) (place : ℤ) : Type 0 where
  pub new : is_some (kept_at before place) ≡ false
  pub epochs : KeepsEpochs after (marked before place)

abbrev pub Grows : Images → Images → ℤ → Type 0
Grows before after place = KeepsEpochs after before ⊎ Adds before after place

begins : (before after : Images) (place : ℤ) (b : Bool) → is_some (kept_at before place) ≡ b → KeepsEpochs after (if b then before else marked before place) → Grows before after place
begins before after place true is keeps = inl keeps
begins before after place false is keeps = inr (record { new = is; epochs = keeps })

pub grows : (before after : Images) (place : ℤ) (item : Item) → KeepsEpochs after (with_begin before place item) → Grows before after place
grows before after place (items.Record (kinds.BeginTransaction name)) keeps = begins before after place (is_some (kept_at before place)) refl keeps
grows before after place item keeps = inl keeps

-- ---- the store behind an item

all_next : (kept : List (ℤ × Image)) (place : ℤ) → IsAbove kept place → IsAbove kept (place +ℤ pos 1)
all_next kept place above =
    All-from_recursion (λ (k : ℤ × Image). IsTrue (int_lt k.0 (place +ℤ pos 1))) kept (each kept (recursion_from_All (λ (k : ℤ × Image). IsTrue (int_lt k.0 place)) kept above))
  where
    each : (kept : List (ℤ × Image)) → AllByRecursion (λ (k : ℤ × Image). IsTrue (int_lt k.0 place)) kept → AllByRecursion (λ (k : ℤ × Image). IsTrue (int_lt k.0 (place +ℤ pos 1))) kept
    each [] all = tt
    each (k ∷ kept) all = (lt_next k.0 place all.0, each kept all.1)

abbrev Low : ℤ → ℤ × Image → Type 0
Low place k = IsTrue (int_lt k.0 place)

-- none is kept above the next place
grown_above : (before after : Images) (place : ℤ) → Grows before after place → IsAbove before.kept (place +ℤ pos 1) → IsAbove after.kept (place +ℤ pos 1)
grown_above before after place (inl keeps) above = subst (λ (ks : List (ℤ × Image)). IsAbove ks (place +ℤ pos 1)) (sym keeps.images) above
grown_above before after place (inr adds) above =
    subst (λ (ks : List (ℤ × Image)). IsAbove ks (place +ℤ pos 1)) (sym adds.epochs.images)
    (All-append (Low (place +ℤ pos 1)) before.kept ((place, before.tip) ∷ []) above (All-from_recursion (Low (place +ℤ pos 1)) ((place, before.tip) ∷ []) (lt_itself place, tt)))

grown_some : (before after : Images) (place : ℤ) → Grows before after place → IsSome (last_kept before) → IsSome (last_kept after)
grown_some before after place (inl keeps) some = subst (λ (ks : List (ℤ × Image)). IsSome (slice_get ks (length ks - 1))) (sym keeps.images) some
grown_some before after place (inr adds) some =
    subst (λ (ks : List (ℤ × Image)). IsSome (slice_get ks (length ks - 1))) (sym adds.epochs.images)
    (subst (λ (o : Option (ℤ × Image)). IsSome o) (sym (last_added before.kept (place, before.tip))) refl)

-- ---- what is longer than it was at the first place

last_there : (ks : List (ℤ × Image)) (k : ℤ × Image) → slice_get ks (length ks - 1) ≡ Some k → is_some (find (λ (e : ℤ × Image). int_eq e.0 k.0) ks) ≡ true
last_there [] k last = absurd cc
last_there (x ∷ []) k last =
    ap (λ b. is_some (cond b (Some x) (find (λ (e : ℤ × Image). int_eq e.0 k.0) []))) (ap (λ (e : ℤ × Image). int_eq e.0 k.0) (some_is x k last) ∙ id_itself k.0)
last_there (x ∷ y ∷ es) k last =
    elim (int_eq x.0 k.0) as (λ b. is_some (cond b (Some x) (find (λ (e : ℤ × Image). int_eq e.0 k.0) (y ∷ es))) ≡ true) [
      | true ↦ refl
      | false ↦ last_there (y ∷ es) k (sym (later x y es) ∙ last)
    ]
  where
    less_one : (n : ℕ) → suc n - 1 ≡ n
    less_one n = omega arith

    later : (x y : ℤ × Image) (xs : List (ℤ × Image)) → slice_get (x ∷ y ∷ xs) (length (x ∷ y ∷ xs) - 1) ≡ slice_get (y ∷ xs) (length (y ∷ xs) - 1)
    later x y xs = ap (slice_get (x ∷ y ∷ xs)) (less_one (suc (length xs))) ∙ sym (ap (slice_get (y ∷ xs)) (less_one (length xs)))

abbrev found_by : ℤ → List (ℤ × Image) → Option (ℤ × Image)
found_by place ks = find (λ (k : ℤ × Image). int_eq k.0 place) ks

still_found : (o rest : Option (ℤ × Image)) → is_some o ≡ true → is_some (option_or o rest) ≡ true
still_found None rest is = absurd cc
still_found (Some k) rest is = refl

-- the first place stays kept
first_kept : (start now : Images) (place : ℤ) (image : Image) → last_kept start ≡ Some (place, image) → IsLonger start now place → is_some (found_by place now.kept) ≡ true
first_kept start now place image last l =
    ap (λ (ks : List (ℤ × Image)). is_some (found_by place ks)) l.kept
    ∙ (ap (λ (o : Option (ℤ × Image)). is_some o) (find-append (λ (k : ℤ × Image). int_eq k.0 place) start.kept l.images)
    ∙ still_found (found_by place start.kept) (found_by place l.images) (last_there start.kept (place, image) last))

mapped : (o : Option (ℤ × Image)) → is_some (option_map (λ (k : ℤ × Image). k.1) o) ≡ is_some o
mapped None = refl
mapped (Some k) = refl

-- what is added stands above it
added_later : (start now : Images) (place at : ℤ) (i : ℕ) (image : Image) → last_kept start ≡ Some (place, image) → IsLonger start now place → at ≡ place +ℤ pos i → is_some (kept_at now at) ≡ false → int_lt place at ≡ true
added_later start now place at zero image last l is new =
    let here : at ≡ place = is ∙ Rattle.std.proofs.Math.IntN.+ℤ_idr place in
    let there : is_some (kept_at now place) ≡ true = mapped (found_by place now.kept) ∙ first_kept start now place image last l in
    let both : true ≡ false = sym there ∙ (ap (λ z. is_some (kept_at now z)) (sym here) ∙ new) in absurd cc
added_later start now place at (suc n) image last l is new = ap (int_lt place) is ∙ further place n

pub same_longer : (start now next : Images) (place : ℤ) → IsLonger start now place → KeepsEpochs next now → IsLonger start next place
same_longer start now next place l keeps = record {
  images = l.images;
  kept = keeps.images ∙ l.kept;
  later = l.later;
  counts = l.counts;
  calls = keeps.calls ∙ l.calls;
  later_counts = l.later_counts;
  begins = l.begins;
  begun = keeps.begun ∙ l.begun;
  later_begins = l.later_begins;
}

all_both : {X : Type 0} (P : X → Type 0) (xs ys : List X) → AllByRecursion P xs → AllByRecursion P ys → AllByRecursion P (xs ++ ys)
all_both P [] ys first second = second
all_both {X} P (x ∷ xs) ys first second = (first.0, all_both P xs ys first.1 second)

grown_longer : (start now next : Images) (place at : ℤ) (i : ℕ) (image : Image) → last_kept start ≡ Some (place, image) → IsLonger start now place → at ≡ place +ℤ pos i → Grows now next at → IsLonger start next place
grown_longer start now next place at i image last l is (inl keeps) = same_longer start now next place l keeps
grown_longer start now next place at i image last l is (inr adds) =
    let up = added_later start now place at i image last l is adds.new in
    record {
      images = l.images ++ (at, now.tip) ∷ [];
      kept = adds.epochs.images ∙ (ap (λ (ks : List (ℤ × Image)). ks ++ (at, now.tip) ∷ []) l.kept ∙ append_assoc start.kept l.images ((at, now.tip) ∷ []));
      later = all_both (λ (k : ℤ × Image). int_lt place k.0 ≡ true) l.images ((at, now.tip) ∷ []) l.later (up, tt);
      counts = l.counts ++ (at, now.made) ∷ [];
      calls = adds.epochs.calls ∙ (ap (λ (ms : List (ℤ × ℕ)). ms ++ (at, now.made) ∷ []) l.calls ∙ append_assoc start.kept_made l.counts ((at, now.made) ∷ []));
      later_counts = all_both (λ (m : ℤ × ℕ). int_lt place m.0 ≡ true) l.counts ((at, now.made) ∷ []) l.later_counts (up, tt);
      begins = l.begins ++ (at, now.begun) ∷ [];
      begun = adds.epochs.begun ∙ (ap (λ (bs : List (ℤ × Option ℤ)). bs ++ (at, now.begun) ∷ []) l.begun ∙ append_assoc start.kept_begun l.begins ((at, now.begun) ∷ []));
      later_begins = all_both (λ (b : ℤ × Option ℤ). int_lt place b.0 ≡ true) l.begins ((at, now.begun) ∷ []) l.later_begins (up, tt);
    }

-- ---- at a turn of the walk over the items

-- these items are left, the first of which stands at the place
pub record Applying (start now : Images) (place at : ℤ) (all left : List Item) (i : ℕ) : Type 0 where
  pub found : first_ill_at (tip_state now) (log_place at) left ≡ first_ill_at (tip_state start) (log_place place) all
  pub takes : (after : Images) → TakesItems now after at left → TakesItems start after place all
  pub may : MayOpen now at
  pub above : IsAbove now.kept (at +ℤ pos 1)
  pub some : IsSome (last_kept now)
  pub longer : IsLonger start now place
  pub natural : pos 0 ≤ℤ at
  pub at_place : at ≡ place +ℤ pos i

none_longer : (images : Images) (place : ℤ) → IsLonger images images place
none_longer images place = record {
  images = [];
  kept = sym (append-nil images.kept);
  later = tt;
  counts = [];
  calls = sym (append-nil images.kept_made);
  later_counts = tt;
  begins = [];
  begun = sym (append-nil images.kept_begun);
  later_begins = tt;
}

pub none_applied : (start : Images) (place : ℤ) (all : List Item) → last_kept start ≡ Some (place, start.tip) → IsAbove start.kept (place +ℤ pos 1) → pos 0 ≤ℤ place → Applying start start place place all all 0
none_applied start place all last above natural = record {
  found = refl;
  takes = λ after takes. takes;
  may = inr last;
  above = above;
  some = subst (λ (o : Option (ℤ × Image)). IsSome o) (sym last) refl;
  longer = none_longer start place;
  natural = natural;
  at_place = sym (Rattle.std.proofs.Math.IntN.+ℤ_idr place);
}

pub may_stand : (images : Images) (place : ℤ) (item : Item) → MayOpen images place → MayStand images place item
may_stand images place (items.Record (kinds.BeginTransaction name)) may = may
may_stand images place item may = tt

pub place_more : (place at : ℤ) (i : ℕ) → at ≡ place +ℤ pos i → at +ℤ pos 1 ≡ place +ℤ pos (i + 1)
place_more place at i is = omega (arith, ints, is)

pub one_applied : (start now next : Images) (place at : ℤ) (all : List Item) (item : Item) (left : List Item) (i : ℕ) → last_kept start ≡ Some (place, start.tip)
    → Applying start now place at all (item ∷ left) i → TakesItem now next at item → Applying start next place (at +ℤ pos 1) all left (i + 1)
one_applied start now next place at all item left i last a t =
    let more = grows now next at item t.epochs in
    let above : IsAbove next.kept (at +ℤ pos 1) = grown_above now next at more a.above in
    record {
      found =
          ap (λ n. first_ill_at (tip_state next) n left) (next_place at a.natural)
          ∙ (sym (ap (λ r. ill_at_or (log_place at) r (λ (after : LogState). first_ill_at after (log_place at + 1) left)) t.applied)
          ∙ a.found);
      takes = λ after rest. a.takes after (next, t, rest);
      may = inl above;
      above = all_next next.kept (at +ℤ pos 1) above;
      some = grown_some now next at more a.some;
      longer = grown_longer start now next place at i start.tip last a.longer a.at_place more;
      natural = still_natural at a.natural;
      at_place = place_more place at i a.at_place;
    }

-- an item has no meaning
pub one_refused : (start now : Images) (place at : ℤ) (all : List Item) (item : Item) (left : List Item) (i : ℕ) (cause : Ill) → Applying start now place at all (item ∷ left) i
    → apply_at (tip_state now) (log_place at) item ≡ Err cause → Some (at, cause) ≡ first_ill_at (tip_state start) (log_place place) all
one_refused start now place at all item left i cause a none =
    ap (λ z. Some (z, cause)) (natural_place at a.natural)
    ∙ (sym (ap (λ r. ill_at_or (log_place at) r (λ (after : LogState). first_ill_at after (log_place at + 1) left)) none)
    ∙ a.found)

-- all have one
pub all_applied : (start now : Images) (place at : ℤ) (all : List Item) (i : ℕ) → Applying start now place at all [] i
    → (None ≡ first_ill_at (tip_state start) (log_place place) all) × TakesItems start now place all
all_applied start now place at all i a = (a.found, a.takes now refl)

-- ---- the same with the items of a slice, of which so many are gone

item_here : (all : List Item) (i : ℕ) (item : Item) → i < length all → item ≡ get_or all i item → drop i all ≡ item ∷ drop (i + 1) all
item_here all i item within is = drop_more all i item within ∙ ap (λ x. x ∷ drop (i + 1) all) (sym is)

pub applied_here : (start now next : Images) (place at : ℤ) (all : List Item) (i : ℕ) (item : Item) → last_kept start ≡ Some (place, start.tip) → i < length all → item ≡ get_or all i item
    → Applying start now place at all (drop i all) i → TakesItem now next at item → Applying start next place (at +ℤ pos 1) all (drop (i + 1) all) (i + 1)
applied_here start now next place at all i item last within is a t =
    one_applied start now next place at all item (drop (i + 1) all) i last (subst (λ (left : List Item). Applying start now place at all left i) (item_here all i item within is) a) t

pub refused_here : (start now : Images) (place at : ℤ) (all : List Item) (i : ℕ) (item : Item) (cause : Ill) → i < length all → item ≡ get_or all i item
    → Applying start now place at all (drop i all) i → apply_at (tip_state now) (log_place at) item ≡ Err cause → Some (at, cause) ≡ first_ill_at (tip_state start) (log_place place) all
refused_here start now place at all i item cause within is a none =
    one_refused start now place at all item (drop (i + 1) all) i cause (subst (λ (left : List Item). Applying start now place at all left i) (item_here all i item within is) a) none

pub applied_to_end : (start now : Images) (place at : ℤ) (all : List Item) (i : ℕ) → length all ≤ i → Applying start now place at all (drop i all) i
    → (None ≡ first_ill_at (tip_state start) (log_place place) all) × TakesItems start now place all
applied_to_end start now place at all i past a = all_applied start now place at all i (subst (λ (left : List Item). Applying start now place at all left i) (drop_all i all past) a)
