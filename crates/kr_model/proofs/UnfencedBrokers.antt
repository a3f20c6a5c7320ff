-- The unfenced and the stopping brokers of an image: each once, and the stopping ones among the unfenced.
use Rattle.std.proofs.Common.{◌≡◌, ◌∙◌, sym, ℤ, Bool, true, false, cond, [], ◌∷◌, refl, ap, not}
use Rattle.std.proofs.lemmas.Bool.{and_from, and_parts}
use Rattle.std.specs.Prelude.{Option, Some, None, map, filter, IsTrue}
use Rattle.std.specs.declared.cmp.Ordering.TheVariants.{Less}
use Rattle.std.specs.List.{AllByRecursion}
use Rattle.std.specs.List.Sorted.{IsStrictlySortedBy}
use Rattle.std.specs.Map.{keys_of}
use Rattle.std.specs.Option.{option_map_or}
use Rattle.std.specs.Ordering.{int_cmp, int_eq, is_eq}
use Rattle.kr_defs.specs.declared.broker.Broker.{Broker}
use Rattle.kr_defs.specs.Brokers as brokers
use Rattle.kr_defs.specs.Ids.{has, is_distinct, is_within}
use Rattle.kr_defs.specs.Image.{Image, IsValid}
use Rattle.kr_defs.specs.Map as entries
use Rattle.kr_defs.specs.Map.{IsMap}
use Rattle.kr_defs.proofs.IdLists.{all_from, id_itself, same_id}
use Rattle.law_safety.proofs.BrokerTests.{Brokers, by_get, passing}

abbrev is_unfenced : Broker → Bool
is_unfenced b = not b.fenced

differs : (x y : ℤ) → int_cmp x y ≡ Less → int_eq y x ≡ false
differs x y less = elim (int_eq y x) as (λ b. int_eq y x ≡ b → b ≡ false) [
  | true ↦ λ same. let both : true ≡ false = sym (id_itself x) ∙ (ap (λ z. int_eq x z) (sym (same_id y x same)) ∙ ap is_eq less) in absurd cc
  | false ↦ λ other. refl
] refl

absent : (test : Broker → Bool) (es : Brokers) (id : ℤ) → AllByRecursion (λ z. int_cmp id z ≡ Less) (keys_of es) → has (passing test es) id ≡ false
absent test [] id below = refl
absent test (e ∷ es) id below =
    elim (test e.1) as (λ b. has (map (λ (d : ℤ × Broker). d.0) (cond b (e ∷ filter (λ d. test d.1) es) (filter (λ d. test d.1) es))) id ≡ false) [
      | true ↦ rw (differs id e.0 below.0) (absent test es id below.1)
      | false ↦ absent test es id below.1
    ]

are_distinct : (test : Broker → Bool) (es : Brokers) → IsMap int_cmp es → is_distinct (passing test es) ≡ true
unfolding IsStrictlySortedBy
are_distinct test [] s = refl
are_distinct test (e ∷ es) s =
    elim (test e.1) as (λ b. is_distinct (map (λ (d : ℤ × Broker). d.0) (cond b (e ∷ filter (λ d. test d.1) es) (filter (λ d. test d.1) es))) ≡ true) [
      | true ↦ and_from (not (has (passing test es) e.0)) (is_distinct (passing test es)) (ap not (absent test es e.0 s.0)) (are_distinct test es s.1)
      | false ↦ are_distinct test es s.1
    ]

stops_unfenced : (o : Option Broker) → option_map_or brokers.is_stopping o false ≡ true → option_map_or is_unfenced o false ≡ true
stops_unfenced None is = absurd cc
stops_unfenced (Some b) is = (and_parts (not b.fenced) b.stopping is).0

pub unfenced_once : (image : Image) → IsValid image → IsTrue (is_distinct (brokers.unfenced image))
unfenced_once image valid = are_distinct is_unfenced image.brokers valid.brokers.ordered

pub stopping_once : (image : Image) → IsValid image → IsTrue (is_distinct (brokers.stopping image))
stopping_once image valid = are_distinct brokers.is_stopping image.brokers valid.brokers.ordered

pub stopping_within : (image : Image) → IsValid image → IsTrue (is_within (brokers.stopping image) (brokers.unfenced image))
stopping_within image valid =
    let es = image.brokers in
    let ordered = valid.brokers.ordered in
    all_from (has (brokers.unfenced image)) (brokers.stopping image) (λ id there.
    by_get is_unfenced es id ordered ∙ stops_unfenced (entries.get int_cmp es id) (sym (by_get brokers.is_stopping es id ordered) ∙ there))
