-- Where the open transactions began: the epochs that are kept for them stay.
use Rattle.std.proofs.Common.{◌≡◌, ◌∙◌, ℤ, Bool, true, false, cond, not, List, [], ◌∷◌, ◌++◌, refl, sym, ap, subst, filter, arith}
use Rattle.std.specs.Prelude.{Option, Some, None, IfSome, IsSome, IsTrue, int_lt}
use Rattle.std.specs.Option.{option_map}
use Rattle.std.specs.Ordering.{int_eq}
use Rattle.std.specs.List.{AllByRecursion}
use Rattle.std.proofs.lemmas.Int.{ints}
use Rattle.std.proofs.lemmas.Bool.Decides.{Decides-int_eq}
use Rattle.std.proofs.lemmas.List.Elements.{All-from_recursion, recursion_from_All}
use Rattle.kr_defs.specs.Image.{Image}
use Rattle.kr_defs.proofs.StateLogs.{if_some_then}
use Rattle.kr_defs.proofs.Tests.{some_is}
use Rattle.kr_store.specs.Images.{AreBegun, AreBegunFrom, AreValid, kept_at}
use Rattle.kr_image.specs.declared.kept_counts.KeptCounts.{KeptCounts}
use Rattle.kr_image.specs.declared.timelines.Timelines.{Timelines}
use Rattle.kr_image.specs.Timelines.{keeps_of, image_in}
use Rattle.kr_image.specs.KeptImages.{HaveBegins, IsStoreWith, HasBegin, IsListed, begins_in, listed_at, images_of}
use Rattle.kr_image.proofs.EpochEnds.{last, last_later}
use Rattle.kr_image.proofs.KeptCalls.{made_epochs}
use Rattle.kr_image.proofs.KeptLists.{all_map, all_mapped, all_passing, all_push, all_weaker, find_filter, find_map, filter_map_is, map_again}
use Rattle.kr_image.proofs.Stores.{found_has, found_passes}

-- ---- listed epochs

listed_then : (list : List KeptCounts) (k : KeptCounts) (begin : ℤ) → IsListed list begin → IsListed (list ++ k ∷ []) begin
listed_then [] k begin h = absurd cc
listed_then (x ∷ list) k begin h =
    elim (int_eq x.epoch begin) as (λ b. IsSome (cond b (Some x) (listed_at list begin)) → IsSome (cond b (Some x) (listed_at (list ++ k ∷ []) begin))) [
      | true ↦ λ h. refl
      | false ↦ λ h. listed_then list k begin h
    ] h

listed_left : (q : ℤ → Bool) (list : List KeptCounts) (begin : ℤ) → q begin ≡ true → IsListed list begin → IsListed (filter (λ (k : KeptCounts). q k.epoch) list) begin
listed_left q list begin left h = subst (λ (o : Option KeptCounts). IsSome o)
    (sym (find_filter (λ (k : KeptCounts). int_eq k.epoch begin) (λ (k : KeptCounts). q k.epoch) (λ k is. ap q ((Decides-int_eq k.epoch begin).0 is) ∙ left) list)) h

listed_has : (P : ℤ → Type 0) (list : List KeptCounts) (begin : ℤ) → AllByRecursion (λ (k : KeptCounts). P k.epoch) list → IsListed list begin → P begin
listed_has P [] begin a h = absurd cc
listed_has P (x ∷ list) begin a h =
    elim (int_eq x.epoch begin) as (λ b. int_eq x.epoch begin ≡ b → IsSome (cond b (Some x) (listed_at list begin)) → P begin) [
      | true ↦ λ is h. subst P ((Decides-int_eq x.epoch begin).0 is) a.0
      | false ↦ λ is h. listed_has P list begin a.1 h
    ] refl h

pub found_listed : (list : List KeptCounts) (epoch : ℤ) (k : KeptCounts) → listed_at list epoch ≡ Some k → IsListed list epoch
found_listed list epoch k is = subst (λ (o : Option KeptCounts). IsSome o) (sym is) refl

-- ---- numbers

not_past : (x e : ℤ) → int_lt x e ≡ true → not (int_lt e x) ≡ true
not_past x e h = grind (arith, ints)

not_past_either : (x e b : ℤ) → not (int_lt e x) ≡ true → not (int_lt x b) ≡ true → not (int_lt e b) ≡ true
not_past_either x e b h i = grind (arith, ints)

-- ---- a new store

pub none_listed : (list : List KeptCounts) → list ≡ [] → HaveBegins list None
none_listed list none = record { tip = tt; kept = subst (λ (ks : List KeptCounts). AllByRecursion (HasBegin ks) ks) (sym none) tt }

-- ---- an epoch more

pub begun_then : (list : List KeptCounts) (begun : Option ℤ) (k : KeptCounts) → k.begun ≡ begun → HaveBegins list begun → AllByRecursion (λ (x : KeptCounts). int_lt x.epoch k.epoch ≡ true) list → HaveBegins (list ++ k ∷ []) begun
begun_then list begun k same has above = record {
  tip = if_some_then (IsListed list) (IsListed (list ++ k ∷ [])) begun (λ begin h. listed_then list k begin h) has.tip;
  kept = all_push (HasBegin (list ++ k ∷ [])) list k
      (all_weaker (HasBegin list) (HasBegin (list ++ k ∷ [])) (λ x is. if_some_then (λ begin. IsListed list begin × (not (int_lt x.epoch begin) ≡ true)) (λ begin. IsListed (list ++ k ∷ []) begin × (not (int_lt x.epoch begin) ≡ true)) x.begun (λ begin h. (listed_then list k begin h.0, h.1)) is) list has.kept)
      (subst (λ (o : Option ℤ). IfSome o (λ begin. IsListed (list ++ k ∷ []) begin × (not (int_lt k.epoch begin) ≡ true))) (sym same)
      (if_some_then (IsListed list) (λ begin. IsListed (list ++ k ∷ []) begin × (not (int_lt k.epoch begin) ≡ true)) begun
      (λ begin h. (listed_then list k begin h, not_past begin k.epoch (listed_has (λ x. int_lt x k.epoch ≡ true) list begin above h))) has.tip));
}

-- ---- fewer epochs

both_some : {X : Type 0} (P Q R : X → Type 0) (o : Option X) → ((x : X) → P x → Q x → R x) → IfSome o P → IfSome o Q → IfSome o R
both_some P Q R None step p q = tt
both_some P Q R (Some x) step p q = step x p q

both_left : (q : ℤ → Bool) (list left : List KeptCounts) → AllByRecursion (λ (k : KeptCounts). IfSome k.begun (λ begin. q begin ≡ true)) left → AllByRecursion (λ (k : KeptCounts). HasBegin list k × (q k.epoch ≡ true)) left
    → AllByRecursion (HasBegin (filter (λ (k : KeptCounts). q k.epoch) list)) left
both_left q list [] a b = tt
both_left q list (k ∷ left) a b = (
  both_some (λ begin. q begin ≡ true) (λ begin. IsListed list begin × (not (int_lt k.epoch begin) ≡ true)) (λ begin. IsListed (filter (λ (k : KeptCounts). q k.epoch) list) begin × (not (int_lt k.epoch begin) ≡ true)) k.begun
      (λ begin in_left h. (listed_left q list begin in_left h.0, h.1)) a.0 b.0.0,
  both_left q list left a.1 b.1,
)

pub begun_left : (q : ℤ → Bool) (list : List KeptCounts) (begun before : Option ℤ) → HaveBegins list before
    → IfSome begun (λ begin. IsListed list begin × (q begin ≡ true))
    → AllByRecursion (λ (k : KeptCounts). IfSome k.begun (λ begin. q begin ≡ true)) (filter (λ (k : KeptCounts). q k.epoch) list)
    → HaveBegins (filter (λ (k : KeptCounts). q k.epoch) list) begun
begun_left q list begun before has tip kept =
    let left : List KeptCounts = filter (λ (k : KeptCounts). q k.epoch) list in
    record {
      tip = if_some_then (λ begin. IsListed list begin × (q begin ≡ true)) (IsListed left) begun (λ begin h. listed_left q list begin h.1 h.0) tip;
      kept = both_left q list left kept (all_passing (HasBegin list) (λ (k : KeptCounts). q k.epoch) list has.kept);
    }

-- up to an epoch that is kept
pub begun_up_to : (list : List KeptCounts) (before : Option ℤ) (epoch : ℤ) (k : KeptCounts) → HaveBegins list before → listed_at list epoch ≡ Some k → HaveBegins (filter (λ (x : KeptCounts). not (int_lt epoch x.epoch)) list) k.begun
begun_up_to list before epoch k has found =
    let q : ℤ → Bool = λ x. not (int_lt epoch x) in
    let there = found_has (HasBegin list) (λ (x : KeptCounts). int_eq x.epoch epoch) list k has.kept found in
    let is : k.epoch ≡ epoch = (Decides-int_eq k.epoch epoch).0 (found_passes (λ (x : KeptCounts). int_eq x.epoch epoch) list k found) in
    begun_left q list k.begun before has
    (if_some_then (λ begin. IsListed list begin × (not (int_lt k.epoch begin) ≡ true)) (λ begin. IsListed list begin × (q begin ≡ true)) k.begun (λ begin h. (h.0, subst (λ e. not (int_lt e begin) ≡ true) is h.1)) there)
    (all_weaker (λ (x : KeptCounts). HasBegin list x × (q x.epoch ≡ true)) (λ (x : KeptCounts). IfSome x.begun (λ begin. q begin ≡ true))
    (λ x b. if_some_then (λ begin. IsListed list begin × (not (int_lt x.epoch begin) ≡ true)) (λ begin. q begin ≡ true) x.begun (λ begin h. not_past_either x.epoch epoch begin b.1 h.1) b.0)
    (filter (λ (x : KeptCounts). q x.epoch) list) (all_passing (HasBegin list) (λ (x : KeptCounts). q x.epoch) list has.kept))

-- from an epoch that isn't above a begin
pub begun_from : (t : Timelines) (list : List KeptCounts) (begun : Option ℤ) (epoch : ℤ) → HaveBegins list begun → AreBegunFrom (images_of t list begun) epoch → HaveBegins (filter (λ (x : KeptCounts). not (int_lt x.epoch epoch)) list) begun
begun_from t list begun epoch has from =
    let q : ℤ → Bool = λ x. not (int_lt x epoch) in
    let kept = recursion_from_All (λ (b : ℤ × Option ℤ). IfSome b.1 (λ begin. IsTrue (q begin))) (filter (λ (b : ℤ × Option ℤ). q b.0) (begins_in list)) from.kept in
    let listed = subst (AllByRecursion (λ (b : ℤ × Option ℤ). IfSome b.1 (λ begin. IsTrue (q begin)))) (filter_map_is (λ (k : KeptCounts). (k.epoch, k.begun)) (λ (b : ℤ × Option ℤ). q b.0) list) kept in
    begun_left q list begun begun has
    (both_some (IsListed list) (λ begin. IsTrue (q begin)) (λ begin. IsListed list begin × (q begin ≡ true)) begun (λ begin h i. (h, i)) has.tip from.tip)
    (all_map (λ (k : KeptCounts). (k.epoch, k.begun)) (λ (b : ℤ × Option ℤ). IfSome b.1 (λ begin. q begin ≡ true)) (filter (λ (k : KeptCounts). q k.epoch) list) listed)

-- ---- the tip alone

pub none_begun : (list : List KeptCounts) (begun : Option ℤ) → HaveBegins list begun → HaveBegins list None
none_begun list begun has = record { tip = tt; kept = has.kept }

pub begun_here : (list : List KeptCounts) (begun : Option ℤ) (epoch : ℤ) → HaveBegins list begun → IsListed list epoch → HaveBegins list (Some epoch)
begun_here list begun epoch has there = record { tip = there; kept = has.kept }

all_at_last : {X : Type 0} (P : X → Type 0) (xs : List X) (x : X) → AllByRecursion P xs → last xs ≡ Some x → P x
all_at_last P [] x a h = absurd cc
all_at_last P (y ∷ []) x a h = subst P (some_is y x h) a.0
all_at_last P (y ∷ z ∷ xs) x a h = all_at_last P (z ∷ xs) x a.1 (sym (last_later y z xs) ∙ h)

pub begun_at_last : (list : List KeptCounts) (begun : Option ℤ) (k : KeptCounts) → HaveBegins list begun → last list ≡ Some k → HaveBegins list k.begun
begun_at_last list begun k has is = record {
  tip = if_some_then (λ begin. IsListed list begin × (not (int_lt k.epoch begin) ≡ true)) (IsListed list) k.begun (λ begin h. h.0) (all_at_last (HasBegin list) list k has.kept is);
  kept = has.kept;
}

-- ---- what a contract sees

listed_kept : (o : Option KeptCounts) (f : KeptCounts → ℤ × Image) → IsSome o → IsSome (option_map (λ (e : ℤ × Image). e.1) (option_map f o))
listed_kept None f h = absurd cc
listed_kept (Some k) f h = refl

pub kept_there : (t : Timelines) (list : List KeptCounts) (begun : Option ℤ) (epoch : ℤ) → IsListed list epoch → IsSome (kept_at (images_of t list begun) epoch)
kept_there t list begun epoch h =
    let f : KeptCounts → ℤ × Image = λ k. (k.epoch, image_in (keeps_of t) k.epoch) in
    subst (λ (o : Option (ℤ × Image)). IsSome (option_map (λ (e : ℤ × Image). e.1) o)) (sym (find_map f (λ (e : ℤ × Image). int_eq e.0 epoch) list)) (listed_kept (listed_at list epoch) f h)

pub are_begun : (t : Timelines) (list : List KeptCounts) (begun : Option ℤ) → HaveBegins list begun → AreBegun (images_of t list begun)
are_begun t list begun has = record {
  beside = map_again (λ (k : KeptCounts). (k.epoch, k.begun)) (λ (b : ℤ × Option ℤ). b.0) list ∙ sym (map_again (λ (k : KeptCounts). (k.epoch, image_in (keeps_of t) k.epoch)) (λ (e : ℤ × Image). e.0) list);
  tip = if_some_then (IsListed list) (λ begin. IsSome (kept_at (images_of t list begun) begin)) begun (λ begin h. kept_there t list begun begin h) has.tip;
  kept = All-from_recursion (λ (b : ℤ × Option ℤ). IfSome b.1 (λ begin. IsSome (kept_at (images_of t list begun) begin) × IsTrue (not (int_lt b.0 begin)))) (begins_in list)
      (all_mapped (λ (k : KeptCounts). (k.epoch, k.begun)) (λ (b : ℤ × Option ℤ). IfSome b.1 (λ begin. IsSome (kept_at (images_of t list begun) begin) × IsTrue (not (int_lt b.0 begin)))) list
      (all_weaker (HasBegin list) (λ (k : KeptCounts). IfSome k.begun (λ begin. IsSome (kept_at (images_of t list begun) begin) × IsTrue (not (int_lt k.epoch begin)))) (λ k is. if_some_then (λ begin. IsListed list begin × (not (int_lt k.epoch begin) ≡ true)) (λ begin. IsSome (kept_at (images_of t list begun) begin) × IsTrue (not (int_lt k.epoch begin))) k.begun (λ begin h. (kept_there t list begun begin h.0, h.1)) is) list has.kept));
}

pub are_valid : (t : Timelines) (list : List KeptCounts) (begun : Option ℤ) → IsStoreWith t list begun → AreValid (images_of t list begun)
are_valid t list begun is = record {
  rising = is.store.kept.rising;
  kept = is.store.kept.valid;
  tip = is.store.valid;
  beside = made_epochs (keeps_of t) list is.store.kept.epochs ∙ sym (map_again (λ (k : KeptCounts). (k.epoch, image_in (keeps_of t) k.epoch)) (λ (e : ℤ × Image). e.0) list);
  begun = are_begun t list begun is.opens;
}
