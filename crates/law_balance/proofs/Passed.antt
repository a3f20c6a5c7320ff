-- The walk over an image passes each partition, so that what is planned is all that is imbalanced of the brokers above.
use Rattle.std.proofs.Common.{◌≡◌, ◌∙◌, ◌⊎◌, inl, inr, sym, subst, refl, ap, Bool, true, false, cond, not, ◌&&◌, ℕ, ℤ, List, [], ◌∷◌, ◌++◌, length, Option, Some, None}
use Rattle.std.specs.Prelude.{◌==◌, filter, find, map, IsTrue, IsSomeAnd, is_some, unwrap_or, slice_get, negsuc}
use Rattle.std.specs.List.{AllByRecursion, flat_map}
use Rattle.std.specs.List.Sorted.{IsStrictlySortedBy}
use Rattle.std.specs.Map.{keys_of}
use Rattle.std.specs.Option.{option_map}
use Rattle.std.specs.Ordering.{int_eq, is_eq}
use Rattle.std.proofs.lemmas.Bool.{and_parts, cases_Bool}
use Rattle.std.proofs.lemmas.Bool.Decides.{Decides-int_eq}
use Rattle.std.proofs.lemmas.List.Elements.{recursion_from_All}
use Rattle.kr_defs.specs.declared.partition.Partition.{Partition}
use Rattle.kr_defs.specs.Brokers.{active, active_of}
use Rattle.kr_defs.specs.Ids.{has}
use Rattle.kr_defs.specs.Image.{Image, IsValid, has_topic, topic_name}
use Rattle.kr_defs.specs.Map.{IsMap, get, partition_order}
use Rattle.kr_defs.specs.Partition.{is_moving}
use Rattle.kr_defs.specs.Walk.{Walked, of_topic, walk, walk_topic, walked}
use Rattle.kr_defs.proofs.IdLists.{id_itself}
use Rattle.kr_defs.proofs.ImageParts.{partition_total}
use Rattle.kr_defs.proofs.Tests.{some_is}
use Rattle.kr_defs.proofs.TopicWalks.{equal_ids, same_topic}
use Rattle.kr_defs.proofs.Walks.{own_entries}
use Rattle.kr_balance.specs.Plan.{imbalanced, is_above_percentage, is_imbalanced, is_imbalanced_of, is_planned, planned, preferred_leader, prefers_broker}
use Rattle.law_balance.specs.Balancing.{IsBack}
use Rattle.law_balance.specs.GivingBack.{GoesBack}
use Rattle.law_balance.proofs.Elections.{Others}
use Rattle.law_balance.proofs.Keys.{Key, Entries, entry_at, own_key, same_key}

abbrev Entry : Type 0
Entry = Key × Partition

-- ---- each entry is walked

parts_of : {X : Type 0} (P : X → Type 0) (xs ys : List X) → AllByRecursion P (xs ++ ys) → AllByRecursion P xs × AllByRecursion P ys
parts_of P [] ys all = (tt, all)
parts_of P (x ∷ xs) ys all = let rest = parts_of P xs ys all.1 in ((all.0, rest.0), rest.1)

topic_entries : (P : Walked → Type 0) (name : List ℕ) (id : ℕ) (es : Entries) → AllByRecursion P (map (walked name) (of_topic id es)) → AllByRecursion (λ (e : Entry). (e.0.0 == id) ≡ true → P (walked name e)) es
topic_entries P name id [] all = tt
topic_entries P name id (e ∷ es) all =
    elim (e.0.0 == id) as (λ b. AllByRecursion P (map (walked name) (cond b (e ∷ of_topic id es) (of_topic id es))) → (b ≡ true → P (walked name e)) × AllByRecursion (λ (e : Entry). (e.0.0 == id) ≡ true → P (walked name e)) es) [
      | true ↦ λ all. ((λ _. all.0), topic_entries P name id es all.1)
      | false ↦ λ all. ((λ other. absurd cc), topic_entries P name id es all)
    ] all

-- an entry of some of these topics has it
abbrev HasWalked : (Walked → Type 0) → List (List ℕ × ℕ) → Entry → Type 0
HasWalked P topics e = has_topic topics e.0.0 ≡ true → (name : List ℕ) × P (walked name e)

same_ids : (x y : ℕ) → (x == y) ≡ true → (y == x) ≡ true
same_ids x y is = equal_ids y x (sym (same_topic x y is))

either_topic : (P : Walked → Type 0) (t : List ℕ × ℕ) (ts : List (List ℕ × ℕ)) (e : Entry) → ((e.0.0 == t.1) ≡ true → P (walked t.0 e)) → HasWalked P ts e → HasWalked P (t ∷ ts) e
either_topic P t ts e here there = split (t.1 == e.0.0) refl
  where
    split : (b : Bool) → (t.1 == e.0.0) ≡ b → is_some (option_map (λ (x : List ℕ × ℕ). x.0) (cond b (Some t) (find (λ x. x.1 == e.0.0) ts))) ≡ true → (name : List ℕ) × P (walked name e)
    split true is has = (t.0, here (same_ids t.1 e.0.0 is))
    split false is has = there has

either_all : (P : Walked → Type 0) (t : List ℕ × ℕ) (ts : List (List ℕ × ℕ)) (es : Entries) → AllByRecursion (λ (e : Entry). (e.0.0 == t.1) ≡ true → P (walked t.0 e)) es → AllByRecursion (HasWalked P ts) es → AllByRecursion (HasWalked P (t ∷ ts)) es
either_all P t ts [] here there = tt
either_all P t ts (e ∷ es) here there = (either_topic P t ts e here.0 there.0, either_all P t ts es here.1 there.1)

none_walked : (P : Walked → Type 0) (es : Entries) → AllByRecursion (HasWalked P []) es
none_walked P [] = tt
none_walked P (e ∷ es) = ((λ some. absurd cc), none_walked P es)

all_walked : (P : Walked → Type 0) (topics : List (List ℕ × ℕ)) (es : Entries) → AllByRecursion P (flat_map (walk_topic es) topics) → AllByRecursion (HasWalked P topics) es
all_walked P [] es all = none_walked P es
all_walked P (t ∷ ts) es all =
    let parts = parts_of P (walk_topic es t) (flat_map (walk_topic es) ts) all in
    either_all P t ts es (topic_entries P t.0 t.1 es parts.0) (all_walked P ts es parts.1)

-- ---- what isn't planned

module _ (image : Image) (percent : ℕ) where
  abbrev is_due : Partition → Bool
  is_due p = is_imbalanced image p && is_above_percentage image percent (preferred_leader p)

  abbrev Spared : List Walked → Walked → Type 0
  Spared those w = Others those w.key → is_planned image percent w ≡ false

  itself_planned : (w : Walked) (those : List Walked) (b : Bool) → is_planned image percent w ≡ b → Others (cond b (w ∷ those) those) w.key → is_planned image percent w ≡ false
  itself_planned w those true is others = let itself = own_key w.key in let other = others.0 in absurd cc
  itself_planned w those false is others = is

  fewer : (v : Walked) (those : List Walked) (b : Bool) (key : Key) → Others (cond b (v ∷ those) those) key → Others those key
  fewer v those true key others = others.1
  fewer v those false key others = others

  spared_too : (v : Walked) (those ws : List Walked) → AllByRecursion (Spared those) ws → AllByRecursion (Spared (cond (is_planned image percent v) (v ∷ those) those)) ws
  spared_too v those [] all = tt
  spared_too v those (w ∷ ws) all = ((λ others. all.0 (fewer v those (is_planned image percent v) w.key others)), spared_too v those ws all.1)

  spared : (ws : List Walked) → AllByRecursion (Spared (filter (is_planned image percent) ws)) ws
  spared [] = tt
  spared (w ∷ ws) = (
    itself_planned w (filter (is_planned image percent) ws) (is_planned image percent w) refl,
    spared_too w (filter (is_planned image percent) ws) ws (spared ws),
  )

  -- a partition of the image whose key is that of no planned one
  abbrev IsSpared : Entry → Type 0
  IsSpared e = Others (planned image percent) e.0 → is_due e.1 ≡ false

  owned_spared : (es : Entries) → AllByRecursion (λ (e : Entry). IsTrue (has_topic image.topics e.0.0)) es → AllByRecursion (HasWalked (Spared (planned image percent)) image.topics) es → AllByRecursion IsSpared es
  owned_spared [] owned all = tt
  owned_spared (e ∷ es) owned all = ((all.0 owned.0).1, owned_spared es owned.1 all.1)

  all_spared : IsValid image → AllByRecursion IsSpared image.partitions
  all_spared valid =
      owned_spared image.partitions (recursion_from_All (λ (e : Entry). IsTrue (has_topic image.topics e.0.0)) image.partitions valid.partitions.owned)
      (all_walked (Spared (planned image percent)) image.topics image.partitions (spared (walk image)))

  -- ---- what is imbalanced then

  module _ (after : Image) (valid : IsValid image) (brokers : after.brokers ≡ image.brokers) (keys : keys_of after.partitions ≡ keys_of image.partitions)
      (others : (key : Key) → Others (planned image percent) key → get partition_order after.partitions key ≡ get partition_order image.partitions key) where
    -- a key is that of none of these, or that of one that is back
    other_or_back : (ws : List Walked) (key : Key) → AllByRecursion (IsBack after) ws → Others ws key ⊎ ((w : Walked) × IsSomeAnd (get partition_order after.partitions key) (GoesBack w.partition))
    other_or_back [] key back = inl tt
    other_or_back (w ∷ ws) key back =
        elim (cases_Bool (is_eq (partition_order key w.key))) [
          | inl same ↦ inr (w, subst (λ (k : Key). IsSomeAnd (get partition_order after.partitions k) (GoesBack w.partition)) (sym (same_key key w.key same)) back.0)
          | inr other ↦ elim (other_or_back ws key back.1) [
            | inl rest ↦ inl (other, rest)
            | inr one ↦ inr one
          ]
        ]

    leads_itself : (p : Partition) → p.leader ≡ preferred_leader p → is_imbalanced after p ≡ false
    leads_itself p leads =
        ap (λ t. not t && has p.in_sync (preferred_leader p) && has (active after) (preferred_leader p) && not (is_moving p)) (ap (λ l. int_eq l (preferred_leader p)) leads ∙ id_itself (preferred_leader p))

    prefer_same : (p q : Partition) → q.replicas ≡ p.replicas → preferred_leader q ≡ preferred_leader p
    prefer_same p q same = ap (λ (rs : List ℤ). unwrap_or (slice_get rs 0) (negsuc 0)) same

    back_at : (w : Walked) (o : Option Partition) (p : Partition) → o ≡ Some p → IsSomeAnd o (GoesBack w.partition) → is_imbalanced after p ≡ false
    back_at w None p is back = absurd back
    back_at w (Some q) p is back = subst (λ (x : Partition). is_imbalanced after x ≡ false) (some_is q p is) (leads_itself q (back.led ∙ sym (prefer_same w.partition q back.replicas)))

    not_due : (e : Entry) → get partition_order after.partitions e.0 ≡ Some e.1 → AllByRecursion (IsBack after) (planned image percent) → (is_imbalanced after e.1 && is_above_percentage image percent (preferred_leader e.1)) ≡ false
    not_due e there back =
        elim (other_or_back (planned image percent) e.0 back) [
          | inl other ↦
              ap (λ bs. (not (int_eq e.1.leader (preferred_leader e.1)) && has e.1.in_sync (preferred_leader e.1) && has (active_of bs) (preferred_leader e.1) && not (is_moving e.1)) && is_above_percentage image percent (preferred_leader e.1)) brokers
              ∙ entry_at IsSpared image.partitions e.0 e.1 (all_spared valid) (sym (others e.0 other) ∙ there) other
          | inr one ↦ ap (λ b. b && is_above_percentage image percent (preferred_leader e.1)) (back_at one.0 (get partition_order after.partitions e.0) e.1 there one.1)
        ]

    not_of : (broker : ℤ) (e : Entry) → is_above_percentage image percent broker ≡ true → (is_imbalanced after e.1 && is_above_percentage image percent (preferred_leader e.1)) ≡ false → is_imbalanced_of after broker e ≡ false
    not_of broker e above differs =
        elim (cases_Bool (int_eq (preferred_leader e.1) broker)) [
          | inl same ↦ ap (λ t. t && is_imbalanced after e.1) same ∙ alone (is_imbalanced after e.1) (is_above_percentage image percent (preferred_leader e.1)) (ap (is_above_percentage image percent) ((Decides-int_eq (preferred_leader e.1) broker).0 same) ∙ above) differs
          | inr other ↦ ap (λ t. t && is_imbalanced after e.1) other
        ]
      where
        alone : (a b : Bool) → b ≡ true → (a && b) ≡ false → a ≡ false
        alone true b is differs = absurd cc
        alone false b is differs = refl

    none_of : (broker : ℤ) → is_above_percentage image percent broker ≡ true → AllByRecursion (IsBack after) (planned image percent) → (es : Entries) → AllByRecursion (λ (e : Entry). get partition_order after.partitions e.0 ≡ Some e.1) es → length (filter (is_imbalanced_of after broker) es) ≡ 0
    none_of broker above back [] own = refl
    none_of broker above back (e ∷ es) own =
        ap (λ b. length (cond b (e ∷ filter (is_imbalanced_of after broker) es) (filter (is_imbalanced_of after broker) es))) (not_of broker e above (not_due e own.0 back))
        ∙ none_of broker above back es own.1

    pub none_imbalanced : (broker : ℤ) → is_above_percentage image percent broker ≡ true → AllByRecursion (IsBack after) (planned image percent) → imbalanced after broker ≡ 0
    none_imbalanced broker above back =
        none_of broker above back after.partitions (own_entries partition_total after.partitions (subst (IsStrictlySortedBy partition_order) (sym keys) valid.partitions.ordered))
