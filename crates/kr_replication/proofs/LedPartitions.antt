-- A broker leads a partition where it leads one whose key is listed for it.
use Rattle.std.proofs.Common.{◌≡◌, ◌∙◌, ℕ, ℤ, Bool, true, false, ◌||◌, cond, List, [], ◌∷◌, refl, sym, ap, subst, pos, negsuc}
use Rattle.std.specs.Prelude.{Option, Some, IsSome, IsTrue}
use Rattle.std.specs.declared.cmp.Ordering.TheVariants.{Less, Equal, Greater}
use Rattle.std.specs.Ordering.{is_eq, int_cmp, int_eq}
use Rattle.std.specs.List.{AllByRecursion, list_any}
use Rattle.std.specs.Option.{option_map_or}
use Rattle.std.proofs.lemmas.Bool.Decides.{Decides-int_eq}
use Rattle.std.proofs.lemmas.Cmp.{int_ranked}
use Rattle.std.proofs.lemmas.List.Elements.{recursion_from_All}
use Rattle.kr_defs.specs.declared.broker.Broker.{Broker}
use Rattle.kr_defs.specs.declared.partition.Partition.{Partition}
use Rattle.kr_defs.specs.Ids.{has}
use Rattle.kr_defs.specs.Image.{Image, IsValid, has_numbers}
use Rattle.kr_defs.specs.Map.{get, partition_order}
use Rattle.kr_defs.specs.Partition.{is_leader, is_natural, is_well_formed}
use Rattle.kr_calls.specs.BrokerHeartbeat.{leads}
use Rattle.kr_defs.proofs.Changes.{formed_parts}
use Rattle.kr_defs.proofs.IdLists.{all_at}
use Rattle.kr_defs.proofs.ImageParts.{partition_total}
use Rattle.kr_defs.proofs.Tests.{both, or_right}
use Rattle.kr_defs.proofs.Walks.{own_entries}
use Rattle.kr_replicas.specs.BrokerPartitions.{AreAtLeast, has_replica, holds_key}
use Rattle.kr_replicas.proofs.Partitions.{same_partition}
use Rattle.kr_replication.specs.ListedWalks.{leads_any, leads_at}

abbrev Key : Type 0
Key = ℕ × ℤ

abbrev Entry : Type 0
Entry = Key × Partition

-- ---- a registered broker that leads is a replica

registered_natural : (broker : ℤ) (es : List (ℤ × Broker)) → AllByRecursion (λ (e : ℤ × Broker). IsTrue (has_numbers e.0 e.1)) es → IsSome (get int_cmp es broker) → is_natural broker ≡ true
registered_natural broker [] a some = absurd cc
registered_natural broker (e ∷ es) a some =
    elim (int_cmp broker e.0) as (λ r. int_cmp broker e.0 ≡ r → IsSome (cond (is_eq r) (Some e.1) (get int_cmp es broker)) → is_natural broker ≡ true) [
      | Less ↦ λ is some. registered_natural broker es a.1 some
      | Equal ↦ λ is some. ap is_natural (int_ranked broker e.0 Equal (sym is)) ∙ (both (is_natural e.0) (is_natural e.1.epoch) a.0).0
      | Greater ↦ λ is some. registered_natural broker es a.1 some
    ] refl some

in_sync_led : (leader : ℤ) (in_sync : List ℤ) → is_natural leader ≡ true → is_leader leader in_sync ≡ true → has in_sync leader ≡ true
in_sync_led (pos n) in_sync natural leads = leads
in_sync_led (negsuc n) in_sync natural leads = absurd cc

replica_led : (broker : ℤ) (p : Partition) → is_natural broker ≡ true → is_well_formed p ≡ true → int_eq p.leader broker ≡ true → has p.replicas broker ≡ true
replica_led broker p natural formed leads =
    let parts = formed_parts p formed in
    let own : p.leader ≡ broker = (Decides-int_eq p.leader broker).0 leads in
    all_at (has p.replicas) p.in_sync broker parts.inside (in_sync_led broker p.in_sync natural (subst (λ (z : ℤ). is_leader z p.in_sync ≡ true) own parts.leads))

-- ---- what is led is among the listed keys, and the other way round

some_at : (test : Key → Bool) (keys : List Key) (key : Key) → holds_key keys key ≡ true → test key ≡ true → list_any test keys ≡ true
some_at test [] key among passes = absurd cc
some_at test (k ∷ ks) key among passes =
    elim (partition_order key k) as (λ r. partition_order key k ≡ r → (is_eq r || holds_key ks key) ≡ true → list_any test (k ∷ ks) ≡ true) [
      | Less ↦ λ is among. or_right (test k) (list_any test ks) (some_at test ks key among passes)
      | Equal ↦ λ is among. ap (λ b. b || list_any test ks) (subst (λ (z : Key). test z ≡ true) (same_partition key k is) passes)
      | Greater ↦ λ is among. or_right (test k) (list_any test ks) (some_at test ks key among passes)
    ] refl among

module _ (broker : ℤ) (natural : is_natural broker ≡ true) (keys : List Key) (all : List Entry) where
  entry_led : (es : List Entry) → AllByRecursion (λ (e : Entry). get partition_order all e.0 ≡ Some e.1) es → AllByRecursion (λ (e : Entry). has e.1.replicas broker ≡ true → holds_key keys e.0 ≡ true) es
      → AllByRecursion (λ (e : Entry). IsTrue (is_well_formed e.1)) es → list_any (λ (e : Entry). int_eq e.1.leader broker) es ≡ true → leads_any all broker keys ≡ true
  entry_led [] own least formed led = absurd cc
  entry_led (e ∷ es) own least formed led =
      elim (int_eq e.1.leader broker) as (λ b. int_eq e.1.leader broker ≡ b → (b || list_any (λ (e : Entry). int_eq e.1.leader broker) es) ≡ true → leads_any all broker keys ≡ true) [
        | true ↦ λ is led. some_at (leads_at all broker) keys e.0 (least.0 (replica_led broker e.1 natural formed.0 is)) (ap (λ (o : Option Partition). option_map_or (λ (p : Partition). int_eq p.leader broker) o false) own.0 ∙ is)
        | false ↦ λ is led. entry_led es own.1 least.1 formed.1 led
      ] refl led

found_led : (broker : ℤ) (key : Key) (es : List Entry) → leads_at es broker key ≡ true → list_any (λ (e : Entry). int_eq e.1.leader broker) es ≡ true
found_led broker key [] led = absurd cc
found_led broker key (e ∷ es) led =
    elim (is_eq (partition_order key e.0)) as (λ b. option_map_or (λ (p : Partition). int_eq p.leader broker) (cond b (Some e.1) (get partition_order es key)) false ≡ true → list_any (λ (e : Entry). int_eq e.1.leader broker) (e ∷ es) ≡ true) [
      | true ↦ λ led. ap (λ b. b || list_any (λ (e : Entry). int_eq e.1.leader broker) es) led
      | false ↦ λ led. or_right (int_eq e.1.leader broker) (list_any (λ (e : Entry). int_eq e.1.leader broker) es) (found_led broker key es led)
    ] led

key_led : (broker : ℤ) (es : List Entry) (keys : List Key) → leads_any es broker keys ≡ true → list_any (λ (e : Entry). int_eq e.1.leader broker) es ≡ true
key_led broker es [] led = absurd cc
key_led broker es (k ∷ ks) led =
    elim (leads_at es broker k) as (λ b. leads_at es broker k ≡ b → (b || leads_any es broker ks) ≡ true → list_any (λ (e : Entry). int_eq e.1.leader broker) es ≡ true) [
      | true ↦ λ is led. found_led broker k es is
      | false ↦ λ is led. key_led broker es ks led
    ] refl led

-- a walk over the keys
pub none_here : (es : List Entry) (broker : ℤ) (key : Key) (rest keys : List Key) → leads_at es broker key ≡ false → leads_any es broker (key ∷ rest) ≡ leads_any es broker keys → leads_any es broker rest ≡ leads_any es broker keys
none_here es broker key rest keys none same = sym (ap (λ b. b || leads_any es broker rest) none) ∙ same

pub one_here : (es : List Entry) (broker : ℤ) (key : Key) (rest keys : List Key) → leads_at es broker key ≡ true → leads_any es broker (key ∷ rest) ≡ leads_any es broker keys → true ≡ leads_any es broker keys
one_here es broker key rest keys one same = sym (ap (λ b. b || leads_any es broker rest) one) ∙ same

pub ruleset leading = (none_here, one_here)

same_test : (a b : Bool) → (a ≡ true → b ≡ true) → (b ≡ true → a ≡ true) → a ≡ b
same_test true b to from = sym (to refl)
same_test false true to from = from refl
same_test false false to from = refl

pub leads_listed : (image : Image) (broker : ℤ) (keys : List Key) → IsValid image → IsSome (get int_cmp image.brokers broker) → AreAtLeast keys (has_replica broker) image.partitions → leads_any image.partitions broker keys ≡ leads image broker
leads_listed image broker keys valid registered least =
    let ps = image.partitions in
    let natural = registered_natural broker image.brokers (recursion_from_All (λ (e : ℤ × Broker). IsTrue (has_numbers e.0 e.1)) image.brokers valid.brokers.numbers) registered in
    same_test (leads_any ps broker keys) (leads image broker) (key_led broker ps keys)
    (entry_led broker natural keys ps ps (own_entries partition_total ps valid.partitions.ordered)
    (recursion_from_All (λ (e : Entry). has e.1.replicas broker ≡ true → holds_key keys e.0 ≡ true) ps least)
    (recursion_from_All (λ (e : Entry). IsTrue (is_well_formed e.1)) ps valid.partitions.well_formed))
