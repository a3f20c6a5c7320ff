-- The partitions and the settings of one topic stand together.
use Rattle.std.proofs.Common.{◌≡◌, subst, ℕ, ℤ, true, false, cond, not, List, [], ◌∷◌, refl, sym, ap, ◌∙◌, arith, ◌⊎◌, inl, inr}
use Rattle.std.specs.Prelude.{◌==◌, ◌+ℤ◌, ◌++◌, pos, negsuc, Some, int_lt, All, IsTrue, is_some, bytes_eq}
use Rattle.std.specs.declared.cmp.Ordering.{Ordering}
use Rattle.std.specs.declared.cmp.Ordering.TheVariants.{Less, Equal, Greater}
use Rattle.std.specs.Ordering.{is_eq, nat_cmp, int_cmp, int_eq, ordering_then, ordering_reverse}
use Rattle.std.specs.Cmp.{IsTotalOrder, int_cmp_is}
use Rattle.std.specs.List.{AllByRecursion}
use Rattle.std.proofs.lemmas.Bool.Decides.{nat_tests, Decides-eqb, Decides-int_eq}
use Rattle.std.proofs.lemmas.Cmp.{nat_cmp_total, int_cmp_total}
use Rattle.std.proofs.lemmas.Int.{ints}
use Rattle.std.proofs.lemmas.List.Elements.{recursion_from_All}
use Rattle.std.proofs.lemmas.Map.Lookups.{exact_bytes}
use Rattle.std.proofs.lemmas.Slice.Eq.{bytes_eq-Decides}
use Rattle.kr_defs.specs.declared.partition.Partition.{Partition}
use Rattle.kr_defs.specs.declared.record.ConfigKey.{ConfigKey}
use Rattle.kr_defs.specs.declared.limits.TheConstants.{LAST_INDEX}
use Rattle.kr_defs.specs.Apply.{is_setting_of, topic_kind}
use Rattle.kr_defs.specs.Image.{is_index}
use Rattle.kr_defs.specs.Map as map
use Rattle.kr_defs.specs.Map.{text_order, partition_order, config_order}
use Rattle.kr_defs.specs.Partition.{is_natural}
use Rattle.kr_defs.proofs.EntryCounts.{config_same, is_equal}
use Rattle.kr_defs.proofs.ImageParts.{text_total}
use Rattle.kr_defs.proofs.Maps.{then_equal}
use Rattle.kr_defs.proofs.Tests.{both, not_true}
use Rattle.kr_image.proofs.Removal.{AreBetween}
use Rattle.kr_image.proofs.Index.{self_equal}
use Rattle.kr_image.specs.Timelines.{lowest}
use Rattle.kr_image.specs.inner.TopicKeys.{partitions_end, settings_end}

-- ---- orders by one part and then another

then_cases : (r s : Ordering) → ordering_then r s ≡ Less → (r ≡ Less) ⊎ ((r ≡ Equal) × (s ≡ Less))
then_cases Less s h = inl refl
then_cases Equal s h = inr (refl, h)
then_cases Greater s h = absurd cc

-- where x is neither before nor after y in the first part, it is equal in it
module _ {K : Type 0} {R : K → K → Ordering} (o : IsTotalOrder R) where
  pinched : (x y : K) → ((R x y ≡ Less) ⊎ (R x y ≡ Equal)) → ((R y x ≡ Less) ⊎ (R y x ≡ Equal)) → R y x ≡ Equal
  pinched x y (inl p) (inl q) = let back : R x y ≡ Greater = o.antisymm x y ∙ ap ordering_reverse q in absurd cc
  pinched x y (inl p) (inr q) = q
  pinched x y (inr p) (inl q) = let back : R x y ≡ Greater = o.antisymm x y ∙ ap ordering_reverse q in absurd cc
  pinched x y (inr p) (inr q) = q

first_part : {s r : Ordering} → (r ≡ Less) ⊎ ((r ≡ Equal) × (s ≡ Less)) → (r ≡ Less) ⊎ (r ≡ Equal)
first_part (inl p) = inl p
first_part (inr p) = inr p.0

below_natural : (n : ℤ) → is_natural n ≡ true → int_cmp (negsuc 0) n ≡ Less
below_natural (pos n) h = refl
below_natural (negsuc n) h = absurd cc

-- ---- partitions

pub partition_same : (topic : ℕ) (k x : ℕ × ℤ) → (k.0 == topic) ≡ true → is_eq (partition_order k x) ≡ true → (x.0 == topic) ≡ true
partition_same topic k x own equal =
    let k_is : k.0 ≡ topic = (Decides-eqb k.0 topic).0 own in
    let same : nat_cmp k.0 x.0 ≡ Equal = (then_equal (nat_cmp k.0 x.0) (int_cmp k.1 x.1) (is_equal (partition_order k x) equal)).0 in
    grind (arith, nat_tests)

-- a key of the topic, and the end of the topic's keys: what stands between is the topic's
pub partitions_between : (topic : ℕ) (a x : ℕ × ℤ) → (a.0 == topic) ≡ true → partition_order a x ≡ Less → partition_order x (partitions_end topic) ≡ Less → (x.0 == topic) ≡ true
partitions_between topic a x own low high =
    let a_is : a.0 ≡ topic = (Decides-eqb a.0 topic).0 own in
    let from : (nat_cmp a.0 x.0 ≡ Less) ⊎ (nat_cmp a.0 x.0 ≡ Equal) = first_part (then_cases (nat_cmp a.0 x.0) (int_cmp a.1 x.1) low) in
    let to : (nat_cmp x.0 topic ≡ Less) ⊎ (nat_cmp x.0 topic ≡ Equal) = first_part (then_cases (nat_cmp x.0 topic) (int_cmp x.1 (partitions_end topic).1) high) in
    let equal : nat_cmp x.0 topic ≡ Equal = pinched nat_cmp_total topic x.0 (rw a_is at from) to in
    grind (arith, nat_tests)

below_end : (index : ℤ) → is_index index ≡ true → int_cmp index (LAST_INDEX +ℤ pos 1) ≡ Less
below_end index fits =
    let most : int_lt LAST_INDEX index ≡ false = not_true (int_lt LAST_INDEX index) (both (is_natural index) (not (int_lt LAST_INDEX index)) fits).1 in
    sym (int_cmp_is index (LAST_INDEX +ℤ pos 1) Less (grind (arith, ints, most)))

partition_between : (topic : ℕ) (y : ℕ × ℤ) → is_index y.1 ≡ true → (y.0 == topic) ≡ true → (partition_order (topic, negsuc 0) y ≡ Less) × (partition_order y (partitions_end topic) ≡ Less)
partition_between topic y fits own =
    let y_is : y.0 ≡ topic = (Decides-eqb y.0 topic).0 own in
    let equal : nat_cmp topic y.0 ≡ Equal = ap (nat_cmp topic) y_is ∙ self_equal nat_cmp_total topic in
    let equal' : nat_cmp y.0 topic ≡ Equal = ap (λ n. nat_cmp n topic) y_is ∙ self_equal nat_cmp_total topic in
    let natural : is_natural y.1 ≡ true = (both (is_natural y.1) _ fits).0 in (
      ap (λ r. ordering_then r (int_cmp (negsuc 0) y.1)) equal ∙ below_natural y.1 natural,
      ap (λ r. ordering_then r (int_cmp y.1 (LAST_INDEX +ℤ pos 1))) equal' ∙ below_end y.1 fits,
    )

pub partition_self : (topic : ℕ) → (topic == topic) ≡ true
partition_self topic = (Decides-eqb topic topic).1 refl

pub partitions_forward : (topic : ℕ) → partition_order (topic, negsuc 0) (partitions_end topic) ≡ Less
partitions_forward topic = ap (λ r. ordering_then r (int_cmp (negsuc 0) (partitions_end topic).1)) (self_equal nat_cmp_total topic)

each_within : (topic : ℕ) (ps : List ((ℕ × ℤ) × Partition)) → AllByRecursion (λ (e : (ℕ × ℤ) × Partition). IsTrue (is_index e.0.1)) ps → AreBetween partition_order (λ k. k.0 == topic) (topic, negsuc 0) (partitions_end topic) ps
each_within topic [] a = tt
each_within topic (e ∷ ps) a = (λ own. partition_between topic e.0 a.0 own, each_within topic ps a.1)

-- all of a topic's partitions stand between the lowest key of the topic and its end
pub partitions_within : (topic : ℕ) (ps : List ((ℕ × ℤ) × Partition)) → All (λ e. IsTrue (is_index e.0.1)) ps → AreBetween partition_order (λ k. k.0 == topic) (topic, negsuc 0) (partitions_end topic) ps
partitions_within topic ps indexes = each_within topic ps (recursion_from_All (λ e. IsTrue (is_index e.0.1)) ps indexes)

-- ---- settings

setting_from : (name : List ℕ) (k : ConfigKey) → (int_cmp topic_kind k.kind ≡ Equal) → (text_order name k.name ≡ Equal) → is_setting_of name k ≡ true
setting_from name k kinds names =
    let same : text_order name k.name ≡ Equal = names in
    let texts : bytes_eq k.name name ≡ true = (bytes_eq-Decides k.name name).1 (sym (exact_bytes name k.name names)) in
    let kind : int_eq k.kind topic_kind ≡ true = ap is_eq (int_cmp_total.antisymm k.kind topic_kind ∙ ap ordering_reverse kinds) in
    rw (kind, texts) refl

setting_parts : (name : List ℕ) (k : ConfigKey) → is_setting_of name k ≡ true → (k.kind ≡ topic_kind) × (k.name ≡ name)
setting_parts name k own =
    let parts = both (int_eq k.kind topic_kind) (bytes_eq k.name name) own in
    ((Decides-int_eq k.kind topic_kind).0 parts.0, (bytes_eq-Decides k.name name).0 parts.1)

-- no text is below the empty one
empty_first : (text : List ℕ) → is_eq (text_order [] text) ≡ false → text_order [] text ≡ Less
empty_first [] h = absurd cc
empty_first (x ∷ text) h = refl

pub setting_same : (name : List ℕ) (k x : ConfigKey) → is_setting_of name k ≡ true → is_eq (config_order k x) ≡ true → is_setting_of name x ≡ true
setting_same name k x own equal = ap (is_setting_of name) (sym (config_same k x equal)) ∙ own

setting_above : (name : List ℕ) (y : ConfigKey) → is_eq (config_order (lowest name) y) ≡ false → is_setting_of name y ≡ true → config_order (lowest name) y ≡ Less
setting_above name y apart own =
    let parts = setting_parts name y own in
    let kinds : int_cmp topic_kind y.kind ≡ Equal = ap (int_cmp topic_kind) parts.0 ∙ self_equal int_cmp_total topic_kind in
    let names : text_order name y.name ≡ Equal = ap (text_order name) parts.1 ∙ self_equal text_total name in
    let left : config_order (lowest name) y ≡ text_order [] y.key = ap (λ r. ordering_then r (ordering_then (text_order name y.name) (text_order [] y.key))) kinds ∙ ap (λ r. ordering_then r (text_order [] y.key)) names in
    left ∙ empty_first y.key (ap is_eq (sym left) ∙ apart)

-- a name is below the next one, and none stands between
below_next : (name : List ℕ) → text_order name (name ++ 0 ∷ []) ≡ Less
below_next [] = refl
below_next (c ∷ name) = ap (λ r. ordering_then r (text_order name (name ++ 0 ∷ []))) (self_equal nat_cmp_total c) ∙ below_next name

head_part : (r s : Ordering) → ((ordering_then r s ≡ Less) ⊎ (ordering_then r s ≡ Equal)) → (r ≡ Less) ⊎ (r ≡ Equal)
head_part Less s h = inl refl
head_part Equal s h = inr refl
head_part Greater s (inl h) = absurd cc
head_part Greater s (inr h) = absurd cc

none_below_empty : (text : List ℕ) → text_order text [] ≡ Less → ⊥
none_below_empty [] h = absurd cc
none_below_empty (c ∷ text) h = absurd cc

none_below_zero : (c : ℕ) → nat_cmp c 0 ≡ Less → ⊥
none_below_zero c h = grind (arith, nat_tests)

none_before_zero : (c : ℕ) (x : List ℕ) → ordering_then (nat_cmp c 0) (text_order x []) ≡ Less → ⊥
none_before_zero c x h = elim (then_cases (nat_cmp c 0) (text_order x []) h) [ inl below ↦ none_below_zero c below | inr parts ↦ none_below_empty x parts.1 ]

none_next : (name x : List ℕ) → ((text_order name x ≡ Less) ⊎ (text_order name x ≡ Equal)) → text_order x (name ++ 0 ∷ []) ≡ Less → text_order name x ≡ Equal
none_next [] [] low high = refl
none_next [] (d ∷ x) low high = absurd (none_before_zero d x high)
none_next (c ∷ name) [] (inl p) high = absurd cc
none_next (c ∷ name) [] (inr p) high = absurd cc
none_next (c ∷ name) (d ∷ x) low high =
    let to = then_cases (nat_cmp d c) (text_order x (name ++ 0 ∷ [])) high in
    let same : nat_cmp d c ≡ Equal = pinched nat_cmp_total c d (head_part (nat_cmp c d) (text_order name x) low) (first_part to) in
    let same' : nat_cmp c d ≡ Equal = nat_cmp_total.antisymm c d ∙ ap ordering_reverse same in
    let low' = subst (λ r. (ordering_then r (text_order name x) ≡ Less) ⊎ (ordering_then r (text_order name x) ≡ Equal)) same' low in
    let high' = subst (λ r. ordering_then r (text_order x (name ++ 0 ∷ [])) ≡ Less) same high in
    ap (λ r. ordering_then r (text_order name x)) same' ∙ none_next name x low' high'

setting_below : (name : List ℕ) (y : ConfigKey) → is_setting_of name y ≡ true → config_order y (settings_end name) ≡ Less
setting_below name y own =
    let parts = setting_parts name y own in
    let kinds : int_cmp y.kind topic_kind ≡ Equal = ap (λ k. int_cmp k topic_kind) parts.0 ∙ self_equal int_cmp_total topic_kind in
    let names : text_order y.name (name ++ 0 ∷ []) ≡ Less = ap (λ n. text_order n (name ++ 0 ∷ [])) parts.1 ∙ below_next name in
    ap (λ r. ordering_then r (ordering_then (text_order y.name (name ++ 0 ∷ [])) (text_order y.key []))) kinds ∙ ap (λ r. ordering_then r (text_order y.key [])) names

-- all of a topic's settings stand between its least key and its end, where none has that key
pub settings_within : (name : List ℕ) (es : List (ConfigKey × List ℕ)) → map.contains config_order es (lowest name) ≡ false → AreBetween config_order (is_setting_of name) (lowest name) (settings_end name) es
settings_within name [] none = tt
settings_within name (e ∷ es) none =
    elim (is_eq (config_order (lowest name) e.0)) as (λ b. is_eq (config_order (lowest name) e.0) ≡ b → is_some (cond b (Some e.1) (map.get config_order es (lowest name))) ≡ false → AreBetween config_order (is_setting_of name) (lowest name) (settings_end name) (e ∷ es)) [
      | true ↦ λ is none. absurd cc
      | false ↦ λ is none. (λ own. (setting_above name e.0 is own, setting_below name e.0 own), settings_within name es none)
    ] refl none

first_less : (r s : Ordering) → (s ≡ Less → ⊥) → ordering_then r s ≡ Less → r ≡ Less
first_less Less s never h = refl
first_less Equal s never h = absurd (never h)
first_less Greater s never h = absurd cc

-- a setting of the topic, and the end of the topic's: what stands between is the topic's
pub settings_between : (name : List ℕ) (a x : ConfigKey) → is_setting_of name a ≡ true → config_order a x ≡ Less → config_order x (settings_end name) ≡ Less → is_setting_of name x ≡ true
settings_between name a x own low high =
    let parts = setting_parts name a own in
    let from = then_cases (int_cmp a.kind x.kind) (ordering_then (text_order a.name x.name) (text_order a.key x.key)) low in
    let to = then_cases (int_cmp x.kind topic_kind) (ordering_then (text_order x.name (name ++ 0 ∷ [])) (text_order x.key [])) high in
    let kinds : int_cmp x.kind topic_kind ≡ Equal = pinched int_cmp_total topic_kind x.kind (rw parts.0 at (first_part from)) (first_part to) in
    let kinds' : int_cmp topic_kind x.kind ≡ Equal = int_cmp_total.antisymm topic_kind x.kind ∙ ap ordering_reverse kinds in
    let low_kind = subst (λ k. ordering_then (int_cmp k x.kind) (ordering_then (text_order a.name x.name) (text_order a.key x.key)) ≡ Less) parts.0 low in
    let low_name = subst (λ n. ordering_then (int_cmp topic_kind x.kind) (ordering_then (text_order n x.name) (text_order a.key x.key)) ≡ Less) parts.1 low_kind in
    let low' : ordering_then (text_order name x.name) (text_order a.key x.key) ≡ Less = sym (ap (λ r. ordering_then r (ordering_then (text_order name x.name) (text_order a.key x.key))) kinds') ∙ low_name in
    let high' : ordering_then (text_order x.name (name ++ 0 ∷ [])) (text_order x.key []) ≡ Less = sym (ap (λ r. ordering_then r (ordering_then (text_order x.name (name ++ 0 ∷ [])) (text_order x.key []))) kinds) ∙ high in
    let names : text_order name x.name ≡ Equal = none_next name x.name (first_part (then_cases (text_order name x.name) (text_order a.key x.key) low')) (first_less (text_order x.name (name ++ 0 ∷ [])) (text_order x.key []) (none_below_empty x.key) high') in
    setting_from name x kinds' names

pub setting_self : (name : List ℕ) → is_setting_of name (lowest name) ≡ true
setting_self name = setting_from name (lowest name) (self_equal int_cmp_total topic_kind) (self_equal text_total name)

pub settings_forward : (name : List ℕ) → config_order (lowest name) (settings_end name) ≡ Less
settings_forward name = setting_below name (lowest name) (setting_self name)
