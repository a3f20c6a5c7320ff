-- The active brokers once one of them is unfenced, and the elections that it may win.
use Rattle.std.proofs.Common.{◌≡◌, ◌∙◌, ℤ, pos, negsuc, Bool, true, false, not, ◌&&◌, ◌||◌, cond, List, [], ◌∷◌, refl, sym, ap, subst}
use Rattle.std.specs.Prelude.{Option, Some, None, filter, map, if◌then◌else◌}
use Rattle.std.specs.declared.cmp.Ordering.TheVariants.{Less, Equal, Greater}
use Rattle.std.specs.Ordering.{is_eq, match_ordering, ordering_reverse, int_cmp, int_eq}
use Rattle.std.specs.BTreeMap.{insert_entry}
use Rattle.std.specs.List.{AllByRecursion}
use Rattle.std.specs.List.Sorted.{IsStrictlySortedBy}
use Rattle.std.specs.Map.{keys_of}
use Rattle.std.proofs.lemmas.Cmp.{int_cmp_total}
use Rattle.kr_defs.specs.declared.broker.Broker.{Broker}
use Rattle.kr_defs.specs.Apply.{changed}
use Rattle.kr_defs.specs.declared.partition.PartitionChange.{PartitionChange}
use Rattle.kr_defs.specs.declared.record.Record.{Record}
use Rattle.kr_defs.specs.Brokers.{is_active, active_of}
use Rattle.kr_defs.specs.Build.{built}
use Rattle.kr_defs.specs.DefaultWant.{default_want}
use Rattle.kr_defs.specs.Image.{Image}
use Rattle.kr_defs.specs.Map.{IsMap, get, insert}
use Rattle.kr_defs.specs.Settings.{facts_with}
use Rattle.kr_defs.specs.Walk.{changes_of, walk}
use Rattle.kr_defs.proofs.IdLists.{same_id}
use Rattle.kr_defs.proofs.Maps.{below_all, none_below}
use Rattle.kr_defs.proofs.Tests.{some_is}
use Rattle.kr_defs.proofs.Walks.{behind_apart}
use Rattle.kr_calls.specs.BrokerHeartbeat.{electing, waits_for}
use Rattle.kr_replicas.specs.BrokerPartitions.{has_replica}
use Rattle.kr_replication.specs.BrokerIds.{ids_where}
use Rattle.kr_replication.specs.ListedWalks.{ConcernsOnly}
use Rattle.kr_brokers.specs.Unfencing.{active_with, electing_with}

module _ (b : ℤ) where
  abbrev ids : List (ℤ × Broker) → List ℤ
  ids es = ids_where (active_with b) es

  or_none : (x : Bool) → (x || false) ≡ x
  or_none true = refl
  or_none false = refl

  another : (e : ℤ × Broker) → int_eq e.0 b ≡ false → active_with b e ≡ is_active e.1
  another e is = ap (λ c. is_active e.1 || c && not e.1.stopping) is ∙ or_none (is_active e.1)

  -- the others, which stand behind
  others_same : (ds : List (ℤ × Broker)) → AllByRecursion (λ z. int_cmp b z ≡ Less) (keys_of ds) → ids ds ≡ active_of ds
  others_same [] a = refl
  others_same (d ∷ ds) a =
      ap (λ c. map (λ (e : ℤ × Broker). e.0) (cond c (d ∷ filter (active_with b) ds) (filter (active_with b) ds))) (another d (behind_apart int_cmp_total b d.0 a.0))
      ∙ elim (is_active d.1) as (λ c. map (λ (e : ℤ × Broker). e.0) (cond c (d ∷ filter (active_with b) ds) (filter (active_with b) ds)) ≡ map (λ (e : ℤ × Broker). e.0) (cond c (d ∷ filter (λ (e : ℤ × Broker). is_active e.1) ds) (filter (λ (e : ℤ × Broker). is_active e.1) ds))) [
        | true ↦ ap (λ (xs : List ℤ). d.0 ∷ xs) (others_same ds a.1)
        | false ↦ others_same ds a.1
      ]

  flags : (fenced stopping : Bool) → (not fenced && not stopping || not stopping) ≡ (not false && not (stopping || false))
  flags true true = refl
  flags true false = refl
  flags false true = refl
  flags false false = refl

  module _ (state : Broker) where
    abbrev now : Broker
    now = changed state (negsuc 0) (pos 0)

    itself : (e : ℤ × Broker) → int_eq e.0 b ≡ true → e.1 ≡ state → active_with b e ≡ is_active now
    itself e is same = ap (λ c. is_active e.1 || c && not e.1.stopping) is ∙ (ap (λ (s : Broker). is_active s || not s.stopping) same ∙ flags state.fenced state.stopping)

    pub active_once_unfenced : (es : List (ℤ × Broker)) → IsMap int_cmp es → get int_cmp es b ≡ Some state → active_of (insert int_cmp es b now) ≡ ids es
    unfolding IsStrictlySortedBy
    active_once_unfenced [] s found = absurd cc
    active_once_unfenced (e ∷ es) s found =
        elim (int_cmp b e.0) as (λ r. int_cmp b e.0 ≡ r → cond (is_eq r) (Some e.1) (get int_cmp es b) ≡ Some state → active_of (match_ordering r ((b, now) ∷ e ∷ es) ((e.0, now) ∷ es) (e ∷ insert_entry int_cmp es b now)) ≡ ids (e ∷ es)) [
          | Less ↦ λ is found. let none = none_below int_cmp_total es b (below_all int_cmp_total b e.0 (keys_of es) is s.0) in absurd cc
          | Equal ↦ λ is found.
              let here = itself e (ap is_eq (int_cmp_total.antisymm e.0 b ∙ ap ordering_reverse is)) (some_is e.1 state found) in
              let rest = others_same es (subst (λ (z : ℤ). AllByRecursion (λ y. int_cmp z y ≡ Less) (keys_of es)) (sym (same_id b e.0 (ap is_eq is))) s.0) in
              sym (ap (λ c. map (λ (x : ℤ × Broker). x.0) (cond c (e ∷ filter (active_with b) es) (filter (active_with b) es))) here
              ∙ elim (is_active now) as (λ c. map (λ (x : ℤ × Broker). x.0) (cond c (e ∷ filter (active_with b) es) (filter (active_with b) es)) ≡ map (λ (x : ℤ × Broker). x.0) (cond c ((e.0, now) ∷ filter (λ (x : ℤ × Broker). is_active x.1) es) (filter (λ (x : ℤ × Broker). is_active x.1) es))) [
                | true ↦ ap (λ (xs : List ℤ). e.0 ∷ xs) rest
                | false ↦ rest
              ])
          | Greater ↦ λ is found.
              let rest = active_once_unfenced es s.1 found in
              let apart = ap is_eq (int_cmp_total.antisymm e.0 b ∙ ap ordering_reverse is) in
              elim (is_active e.1) as (λ c. map (λ (x : ℤ × Broker). x.0) (cond c (e ∷ filter (λ (x : ℤ × Broker). is_active x.1) (insert int_cmp es b now)) (filter (λ (x : ℤ × Broker). is_active x.1) (insert int_cmp es b now))) ≡ map (λ (x : ℤ × Broker). x.0) (cond c (e ∷ filter (active_with b) es) (filter (active_with b) es))) [
                | true ↦ ap (λ (xs : List ℤ). e.0 ∷ xs) rest
                | false ↦ rest
              ]
              ∙ sym (ap (λ c. map (λ (x : ℤ × Broker). x.0) (cond c (e ∷ filter (active_with b) es) (filter (active_with b) es))) (another e apart))
        ] refl found

pub elections_once_unfenced : (minimum b : ℤ) (image : Image) (state : Broker) → IsMap int_cmp image.brokers → get int_cmp image.brokers b ≡ Some state
    → changes_of (electing_with minimum b image) (walk image) ≡ changes_of (electing minimum image b state) (walk image)
elections_once_unfenced minimum b image state ordered found =
    let elections : List ℤ → List Record = λ active. changes_of (λ w. if waits_for b w.partition then built w.partition (default_want w.partition) (facts_with minimum image active w.topic) else None) (walk image) in
    ap elections (sym (active_once_unfenced b state image.brokers ordered found))

-- no other partition waits for the broker than those that it is a replica of
nobody_waits : (c : Bool) (change : Option PartitionChange) → (if c && false then change else None) ≡ None
nobody_waits true change = refl
nobody_waits false change = refl

pub electing_concerns : (minimum broker : ℤ) (image : Image) → ConcernsOnly (has_replica broker) (electing_with minimum broker image)
electing_concerns minimum broker image w formed absent =
    let none : Bool = int_eq w.partition.leader (negsuc 0) in
    let change : Option PartitionChange = built w.partition (default_want w.partition) (facts_with minimum image (ids_where (active_with broker) image.brokers) w.topic) in
    ap (λ b. if none && b then change else None) absent ∙ nobody_waits none change
