-- The last kept epoch: going back to it drops nothing.
use Rattle.std.proofs.Common.{◌≡◌, ℤ, true, false, not, List, [], ◌∷◌, ◌++◌, refl, sym, ap, subst, ◌∙◌, map, filter, find, arith}
use Rattle.std.specs.Prelude.{Option, Some, None, IsTrue, IsSome, int_lt}
use Rattle.std.specs.Option.{option_map}
use Rattle.std.specs.declared.cmp.Ordering.TheVariants.{Less}
use Rattle.std.specs.Ordering.{int_cmp, int_eq}
use Rattle.std.specs.List.{AllByRecursion}
use Rattle.std.specs.List.Sorted.{IsStrictlySortedBy}
use Rattle.std.specs.Map.{keys_of}
use Rattle.std.proofs.lemmas.List.Elements.{All-from_recursion}
use Rattle.std.proofs.lemmas.Bool.Decides.{Decides-int_eq}
use Rattle.std.proofs.lemmas.Int.{ints}
use Rattle.kr_defs.specs.Image.{Image}
use Rattle.kr_defs.specs.KeptMaps.{Kept as KeptMap, IsAbove}
use Rattle.kr_defs.specs.Map.{IsMap}
use Rattle.kr_store.specs.Images.{last_image}
use Rattle.kr_image.specs.declared.kept_counts.KeptCounts.{KeptCounts}
use Rattle.kr_image.specs.declared.timelines.Timelines.{Timelines}
use Rattle.kr_image.specs.Timelines.{Keeps, keeps_of, kept_in, image_in, present_image}
use Rattle.kr_image.specs.KeptImages.{images_in, images_of, HaveEpochs, IsKept, IsStore, RevertsAll, AreAbove, AreKept}
use Rattle.kr_image.proofs.KeptLists.{apart_before, find_last, find_map, map_push, all_weaker, all_push, all_map, all_mapped}
use Rattle.kr_image.proofs.EpochEnds.{last, last_later, Split, split, filter_all, less_lt}
use Rattle.kr_image.proofs.Stores.{reverted_store}

-- ---- the last of a list

pub last_map : {X Y : Type 0} (f : X → Y) (xs : List X) → last (map f xs) ≡ option_map f (last xs)
last_map f [] = refl
last_map f (x ∷ []) = refl
last_map f (x ∷ y ∷ xs) = last_later (f x) (f y) (map f xs) ∙ (last_map f (y ∷ xs) ∙ sym (ap (option_map f) (last_later x y xs)))

-- ---- epochs that rise

at_last : {V : Type 0} (P : ℤ → Type 0) (es : List (ℤ × V)) (e : ℤ × V) → AllByRecursion P (keys_of (es ++ e ∷ [])) → P e.0
at_last P [] e a = a.0
at_last P (x ∷ es) e a = at_last P es e a.1

rising_below : {V : Type 0} (es : List (ℤ × V)) (e : ℤ × V) → IsMap int_cmp (es ++ e ∷ []) → AllByRecursion (λ (x : ℤ × V). int_lt x.0 e.0 ≡ true) es
unfolding IsStrictlySortedBy
rising_below [] e s = tt
rising_below (x ∷ es) e s = (less_lt x.0 e.0 (at_last (λ z. int_cmp x.0 z ≡ Less) es e s.0), rising_below es e s.1)

not_past : (x e : ℤ) → int_lt x e ≡ true → not (int_lt e x) ≡ true
not_past x e h = grind (arith, ints)

not_past_self : (e : ℤ) → not (int_lt e e) ≡ true
not_past_self e = grind (arith, ints)

same_self : (x : ℤ) → int_eq x x ≡ true
same_self x = (Decides-int_eq x x).1 refl

-- ---- the epochs of a store

module _ (kept : Keeps) (list : List KeptCounts) (k : KeptCounts) (rising : IsMap int_cmp (images_in kept list)) (is_last : last list ≡ Some k) where
  parts : Split list k
  parts = split list k is_last

  below : AllByRecursion (λ (x : KeptCounts). int_lt x.epoch k.epoch ≡ true) parts.front
  below =
      let pushed : images_in kept list ≡ images_in kept parts.front ++ (k.epoch, image_in kept k.epoch) ∷ [] = ap (images_in kept) parts.is ∙ map_push (λ (x : KeptCounts). (x.epoch, image_in kept x.epoch)) parts.front k in
      all_map (λ (x : KeptCounts). (x.epoch, image_in kept x.epoch)) (λ (e : ℤ × Image). int_lt e.0 k.epoch ≡ true) parts.front (rising_below (images_in kept parts.front) (k.epoch, image_in kept k.epoch) (subst (IsMap int_cmp) pushed rising))

  pub last_found : find (λ (x : KeptCounts). int_eq x.epoch k.epoch) list ≡ Some k
  last_found = ap (find (λ (x : KeptCounts). int_eq x.epoch k.epoch)) parts.is
      ∙ find_last (λ (x : KeptCounts). int_eq x.epoch k.epoch) parts.front k (all_weaker (λ (x : KeptCounts). int_lt x.epoch k.epoch ≡ true) (λ (x : KeptCounts). int_eq x.epoch k.epoch ≡ false) (λ x h. apart_before x.epoch k.epoch h) parts.front below) (same_self k.epoch)

  none_past : AllByRecursion (λ (x : KeptCounts). not (int_lt k.epoch x.epoch) ≡ true) list
  none_past = subst (AllByRecursion (λ (x : KeptCounts). not (int_lt k.epoch x.epoch) ≡ true)) (sym parts.is)
      (all_push (λ (x : KeptCounts). not (int_lt k.epoch x.epoch) ≡ true) parts.front k (all_weaker (λ (x : KeptCounts). int_lt x.epoch k.epoch ≡ true) (λ (x : KeptCounts). not (int_lt k.epoch x.epoch) ≡ true) (λ x h. not_past x.epoch k.epoch h) parts.front below) (not_past_self k.epoch))

  pub all_left : filter (λ (x : KeptCounts). not (int_lt k.epoch x.epoch)) list ≡ list
  all_left = filter_all (λ (x : KeptCounts). not (int_lt k.epoch x.epoch)) list none_past

  maps_left : {K V : Type 0} (ks : List (KeptMap K V)) → map (λ (x : KeptMap K V). x.epoch) ks ≡ map (λ (x : KeptCounts). x.epoch) list → filter (λ (x : KeptMap K V). not (int_lt k.epoch x.epoch)) ks ≡ ks
  maps_left {K} {V} ks same = filter_all (λ (x : KeptMap K V). not (int_lt k.epoch x.epoch)) ks
      (all_map (λ (x : KeptMap K V). x.epoch) (λ x. not (int_lt k.epoch x) ≡ true) ks (subst (AllByRecursion (λ x. not (int_lt k.epoch x) ≡ true)) (sym same) (all_mapped (λ (x : KeptCounts). x.epoch) (λ x. not (int_lt k.epoch x) ≡ true) list none_past)))

-- ---- back to the last epoch

module _ (t after : Timelines) (list : List KeptCounts) (k : KeptCounts) (is_last : last list ≡ Some k) (is : IsKept (keeps_of t) list) (reverts : RevertsAll t after k.epoch) (counts : after.counts ≡ k.counts) where
  pub back_keeps : keeps_of after ≡ keeps_of t
  back_keeps =
      let brokers : after.brokers.maps.kept ≡ t.brokers.maps.kept = reverts.brokers ∙ maps_left (keeps_of t) list k is.rising is_last t.brokers.maps.kept is.epochs.brokers in
      let names : after.names.maps.kept ≡ t.names.maps.kept = reverts.names ∙ maps_left (keeps_of t) list k is.rising is_last t.names.maps.kept is.epochs.names in
      let topics : after.topics.maps.kept ≡ t.topics.maps.kept = reverts.topics ∙ maps_left (keeps_of t) list k is.rising is_last t.topics.maps.kept is.epochs.topics in
      let partitions : after.partitions.maps.kept ≡ t.partitions.maps.kept = reverts.partitions ∙ maps_left (keeps_of t) list k is.rising is_last t.partitions.maps.kept is.epochs.partitions in
      let configs : after.configs.maps.kept ≡ t.configs.maps.kept = reverts.configs ∙ maps_left (keeps_of t) list k is.rising is_last t.configs.maps.kept is.epochs.configs in
      let features : after.features.maps.kept ≡ t.features.maps.kept = reverts.features ∙ maps_left (keeps_of t) list k is.rising is_last t.features.maps.kept is.epochs.features in
      cc

  pub back_store : IsStore after list
  back_store = subst (IsStore after) (all_left (keeps_of t) list k is.rising is_last) (reverted_store t after k.epoch reverts list k (last_found (keeps_of t) list k is.rising is_last) counts is)

  pub back_image : (begun : Option ℤ) → last_image (images_of t list begun) ≡ Some (present_image after)
  back_image begun = ap (option_map (λ (e : ℤ × Image). e.1)) (last_map (λ (x : KeptCounts). (x.epoch, image_in (keeps_of t) x.epoch)) list ∙ ap (option_map (λ (x : KeptCounts). (x.epoch, image_in (keeps_of t) x.epoch))) is_last) ∙ ap (λ (i : Image). Some i) (sym reverts.tip)

-- ---- what the timelines need for a mark and a revert

kept_there : {K V : Type 0} (ks : List (KeptMap K V)) (list : List KeptCounts) (k : KeptCounts) (epoch : ℤ) → map (λ (x : KeptMap K V). x.epoch) ks ≡ map (λ (x : KeptCounts). x.epoch) list → find (λ (x : KeptCounts). int_eq x.epoch epoch) list ≡ Some k → IsSome (kept_in ks epoch)
kept_there {K} {V} ks list k epoch same found =
    let both : option_map (λ (x : KeptMap K V). x.epoch) (find (λ (x : KeptMap K V). int_eq x.epoch epoch) ks) ≡ Some k.epoch =
    sym (find_map (λ (x : KeptMap K V). x.epoch) (λ x. int_eq x epoch) ks) ∙ (ap (find (λ x. int_eq x epoch)) same ∙ (find_map (λ (x : KeptCounts). x.epoch) (λ x. int_eq x epoch) list ∙ ap (option_map (λ (x : KeptCounts). x.epoch)) found)) in
    elim (find (λ (x : KeptMap K V). int_eq x.epoch epoch) ks) as (λ o. option_map (λ (x : KeptMap K V). x.epoch) o ≡ Some k.epoch → IsSome (option_map (λ (x : KeptMap K V). x.map) o)) [
      | None ↦ λ h. absurd cc
      | Some x ↦ λ h. refl
    ] both

pub are_kept : (kept : Keeps) (list : List KeptCounts) (k : KeptCounts) (epoch : ℤ) → HaveEpochs kept (map (λ (x : KeptCounts). x.epoch) list) → find (λ (x : KeptCounts). int_eq x.epoch epoch) list ≡ Some k → AreKept kept epoch
are_kept kept list k epoch have found = record {
  brokers = kept_there kept.brokers list k epoch have.brokers found;
  names = kept_there kept.names list k epoch have.names found;
  topics = kept_there kept.topics list k epoch have.topics found;
  partitions = kept_there kept.partitions list k epoch have.partitions found;
  configs = kept_there kept.configs list k epoch have.configs found;
  features = kept_there kept.features list k epoch have.features found;
}

above_there : {K V : Type 0} (ks : List (KeptMap K V)) (list : List KeptCounts) (epoch : ℤ) → map (λ (x : KeptMap K V). x.epoch) ks ≡ map (λ (x : KeptCounts). x.epoch) list → AllByRecursion (λ (x : KeptCounts). int_lt x.epoch epoch ≡ true) list → IsAbove ks epoch
above_there {K} {V} ks list epoch same above = All-from_recursion (λ (x : KeptMap K V). IsTrue (int_lt x.epoch epoch)) ks
    (all_map (λ (x : KeptMap K V). x.epoch) (λ x. int_lt x epoch ≡ true) ks (subst (AllByRecursion (λ x. int_lt x epoch ≡ true)) (sym same) (all_mapped (λ (x : KeptCounts). x.epoch) (λ x. int_lt x epoch ≡ true) list above)))

pub are_above : (kept : Keeps) (list : List KeptCounts) (epoch : ℤ) → HaveEpochs kept (map (λ (x : KeptCounts). x.epoch) list) → AllByRecursion (λ (x : KeptCounts). int_lt x.epoch epoch ≡ true) list → AreAbove kept epoch
are_above kept list epoch have above = record {
  brokers = above_there kept.brokers list epoch have.brokers above;
  names = above_there kept.names list epoch have.names above;
  topics = above_there kept.topics list epoch have.topics above;
  partitions = above_there kept.partitions list epoch have.partitions above;
  configs = above_there kept.configs list epoch have.configs above;
  features = above_there kept.features list epoch have.features above;
}
