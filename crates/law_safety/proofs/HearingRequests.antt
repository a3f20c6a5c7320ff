-- Whom a leader hears of, after each request.
use Rattle.std.proofs.Common.{◌≡◌, ◌∙◌, ℤ, Bool, true, false, cond, List, [], ◌∷◌, refl, sym, ap, subst, not}
use Rattle.std.specs.Prelude.{◌&&◌, ◌||◌, ◌==◌, Option, Some, None, Result, Ok, Err, pos, negsuc, int_lt, length, bytes_eq, map}
use Rattle.std.specs.Option.{option_map_or}
use Rattle.std.specs.Ordering.{int_cmp, int_eq}
use Rattle.std.proofs.lemmas.Cmp.{int_cmp_total}
use Rattle.kr_defs.specs.declared.basis.Basis.{Basis}
use Rattle.kr_defs.specs.declared.broker.Broker.{Broker}
use Rattle.kr_defs.specs.declared.ill.Ill.TheVariants.{BadNumber, StaleEpoch, NoBroker, Limit}
use Rattle.kr_defs.specs.declared.limits.TheConstants.{MOST_BROKERS}
use Rattle.kr_defs.specs.declared.options.Options.{Options}
use Rattle.kr_defs.specs.declared.partition.PartitionChange.{PartitionChange}
use Rattle.kr_defs.specs.declared.record.Record.TheVariants as kinds
use Rattle.kr_defs.specs.Apply as apply
use Rattle.kr_defs.specs.Apply.{apply_record}
use Rattle.kr_defs.specs.Brokers.{is_stopping, stopping, unfenced}
use Rattle.kr_defs.specs.Guard.{found}
use Rattle.kr_defs.specs.Heartbeats.{Heartbeats, contact_brokers, heard, leave, new_contact, new_stopping, stopping_brokers}
use Rattle.kr_defs.specs.Image.{Image, IsValid, has_numbers, is_small_registration}
use Rattle.kr_defs.specs.Map as entries
use Rattle.kr_defs.specs.Walk.{Walked, changes_of, walk}
use Rattle.kr_defs.proofs.Tests.{Gives, gives_refuse, gives_found, gives_done, gives_then, neither, some_is}
use Rattle.kr_defs.proofs.Walks.{get_other}
use Rattle.kr_calls.specs.declared.errors.TheConstants.{BROKER_ID_NOT_REGISTERED, DUPLICATE_BROKER_REGISTRATION, INCONSISTENT_CLUSTER_ID, INVALID_REQUEST, POLICY_VIOLATION, STALE_BROKER_EPOCH}
use Rattle.kr_calls.specs.declared.broker_heartbeat.BrokerHeartbeat.{BrokerHeartbeat}
use Rattle.kr_calls.specs.declared.broker_registration.BrokerRegistration.{BrokerRegistration}
use Rattle.kr_calls.specs.declared.unregister_broker.UnregisterBroker.{UnregisterBroker}
use Rattle.kr_calls.specs.BrokerHeartbeat as broker_heartbeat
use Rattle.kr_calls.specs.BrokerRegistration as broker_registration
use Rattle.kr_calls.specs.declared.calls.Request.{Request}
use Rattle.kr_calls.specs.declared.calls.Request.TheVariants as requests
use Rattle.kr_calls.specs.declared.deciding.Draft.{Draft}
use Rattle.kr_calls.specs.UnregisterBroker as unregister_broker
use Rattle.kr_calls.specs.Deciding.{Work, apply_records, nothing_decided, one}
use Rattle.kr_calls.specs.Decide.{decide, work_of}
use Rattle.kr_calls.specs.NextBasis.{heartbeats_after}
use Rattle.kr_calls.specs.NextBasisLaws.{is_of_a_broker}
use Rattle.kr_calls.specs.NextBasis as hearing
use Rattle.kr_calls.specs.TakingOut.{fencing, taking_out}
use Rattle.kr_calls.proofs.BrokersLeft.{all_leave, changes_are}
use Rattle.kr_calls.proofs.KeptByRequests.{done_by}
use Rattle.kr_calls.proofs.OtherRequests.{others_leave}
use Rattle.law_safety.specs.HearingLaws.{HearsOf, LeadersBeginHearing, DecisionHears, RequestsKeepHearing, FencingsKeepHearing}
use Rattle.law_safety.proofs.SafeRequests.{valid_after}
use Rattle.law_safety.proofs.BrokerTests.{Brokers, OthersStay, get_gone, get_left, get_own, passes, passing}
use Rattle.law_safety.proofs.HeardBrokers.{is_unfenced, heard_leaving, heard_beating, heard_stopping}

-- ---- the brokers after a record about one of them, and changes of partitions

-- the broker has this registration now
abbrev pub HasBroker : Image → ℤ → Broker → Image → Type 0
HasBroker image k state after = after.brokers ≡ entries.insert int_cmp image.brokers k state

module _ (image : Image) (k : ℤ) where
  changed_then : (epoch fenced stopping : ℤ) (state : Broker) (change : Walked → Option PartitionChange) (ws : List Walked) → entries.get int_cmp image.brokers k ≡ Some state → Gives (HasBroker image k (apply.changed state fenced stopping)) (apply_records image (kinds.BrokerRegistrationChange k epoch fenced stopping ∷ changes_of change ws))
  unfolding apply_record
  changed_then epoch fenced stopping state change ws there =
      let P = HasBroker image k (apply.changed state fenced stopping) in
      gives_then P P (apply.change_broker_registration image k epoch fenced stopping) (λ after. apply_records after (changes_of change ws))
      (gives_found P NoBroker (entries.get int_cmp image.brokers k) _ (λ old is. gives_refuse P StaleEpoch (not (int_eq epoch old.epoch)) _ (λ _. gives_refuse P BadNumber (not (apply.is_fencing fenced && apply.is_flag stopping)) _ (λ _. gives_done P _
      (ap (λ (b : Broker). entries.insert int_cmp image.brokers k (apply.changed b fenced stopping)) (some_is old state (sym is ∙ there)))))))
      (λ mid has after is. all_leave mid (changes_of change ws) (changes_are change ws) after is ∙ has)

  registered_then : (state : Broker) (change : Walked → Option PartitionChange) (ws : List Walked) → Gives (HasBroker image k state) (apply_records image (kinds.RegisterBroker k state ∷ changes_of change ws))
  unfolding apply_record
  registered_then state change ws =
      let P = HasBroker image k state in
      gives_then P P (apply.register_broker image k state) (λ after. apply_records after (changes_of change ws))
      (gives_refuse P BadNumber (not (has_numbers k state)) _ (λ _. gives_refuse P StaleEpoch (option_map_or (λ (old : Broker). int_lt state.epoch old.epoch) (entries.get int_cmp image.brokers k) false) _ (λ _. gives_refuse P Limit (entries.is_full int_cmp MOST_BROKERS image.brokers k || not (is_small_registration state)) _ (λ _. gives_done P _ refl))))
      (λ mid has after is. all_leave mid (changes_of change ws) (changes_are change ws) after is ∙ has)

  removed_then : (epoch : ℤ) (change : Walked → Option PartitionChange) (ws : List Walked) → Gives (λ after. after.brokers ≡ entries.remove int_cmp image.brokers k) (apply_records image (kinds.UnregisterBroker k epoch ∷ changes_of change ws))
  unfolding apply_record
  removed_then epoch change ws =
      let P = λ (after : Image). after.brokers ≡ entries.remove int_cmp image.brokers k in
      gives_then P P (apply.unregister_broker image k epoch) (λ after. apply_records after (changes_of change ws))
      (gives_found P NoBroker (entries.get int_cmp image.brokers k) _ (λ old _. gives_refuse P StaleEpoch (not (int_eq epoch old.epoch)) _ (λ _. gives_done P _ refl)))
      (λ mid has after is. all_leave mid (changes_of change ws) (changes_are change ws) after is ∙ has)

-- ---- the broker, and the others, where one is stored or goes

module _ (image after : Image) (k : ℤ) (state : Broker) (has : HasBroker image k state after) where
  others : OthersStay image.brokers after.brokers k
  others id other = ap (λ (es : Brokers). entries.get int_cmp es id) has ∙ get_other int_cmp_total image.brokers k id state other

  own : (test : Broker → Bool) → passes test after.brokers k ≡ test state
  own test = ap (λ (es : Brokers). passes test es k) has ∙ ap (λ (o : Option Broker). option_map_or test o false) (get_own image.brokers k state)

-- ---- what becomes of a broker that beats

both_stop : (b : Bool) → (b && not b) ≡ false
both_stop true = refl
both_stop false = refl

or_off : (b : Bool) → b ≡ false → (b || false) ≡ false
or_off true is = absurd cc
or_off false is = refl

module _ (minimum : ℤ) (image : Image) (now place : ℤ) (q : BrokerHeartbeat) (state : Broker) (valid : IsValid image) (there : entries.get int_cmp image.brokers q.broker ≡ Some state) (h : Heartbeats) (hears : HearsOf h image) where
  abbrev k : ℤ
  k = q.broker

  at_first : (test : Broker → Bool) → passes test image.brokers k ≡ test state
  at_first test = ap (λ (o : Option Broker). option_map_or test o false) there

  abbrev HeardAfter : broker_heartbeat.Step → Type 0
  HeardAfter step = (after : Image) → IsValid after → apply_records image step.records ≡ Ok after → HearsOf (cond step.fenced (leave h k) (hearing.after_contact h image after now place q)) after

  same_image : (P : Image → Type 0) → P image → (after : Image) → apply_records image [] ≡ Ok after → P after
  same_image P here after is = gives_done P image here after is

  -- a fenced broker stays so
  stays_fenced : (shuts_down : Bool) → state.fenced ≡ true → HeardAfter (record { records = []; fenced = true; shuts_down = shuts_down })
  stays_fenced shuts_down fenced after good is =
      same_image (λ i. HearsOf (leave h k) i)
      (heard_leaving h image image hears valid.brokers.ordered valid.brokers.ordered k (λ id other. refl) (at_first is_unfenced ∙ rw fenced refl) (at_first is_stopping ∙ rw fenced refl)) after is

  -- an unfenced one is heard of
  stays_unfenced : (shuts_down : Bool) → state.fenced ≡ false → HeardAfter (record { records = []; fenced = false; shuts_down = shuts_down })
  stays_unfenced shuts_down unfenced after good is =
      same_image (λ i. HearsOf (hearing.after_contact h image i now place q) i)
      (rw (both_stop (hearing.broker_is_stopping image k)) (heard_beating h image image hears valid.brokers.ordered valid.brokers.ordered k (λ id other. refl) now q.offset (at_first is_unfenced ∙ rw unfenced refl) refl)) after is

  fences : (epoch : ℤ) (change : Walked → Option PartitionChange) (shuts_down : Bool) → HeardAfter (record { records = kinds.BrokerRegistrationChange k epoch (pos 1) (pos 0) ∷ changes_of change (walk image); fenced = true; shuts_down = shuts_down })
  fences epoch change shuts_down after good is =
      let has = changed_then image k epoch (pos 1) (pos 0) state change (walk image) there after is in
      heard_leaving h image after hears valid.brokers.ordered good.brokers.ordered k (others image after k _ has) (own image after k _ has is_unfenced) (own image after k _ has is_stopping)

  unfences : (epoch : ℤ) (change : Walked → Option PartitionChange) (shuts_down : Bool) → state.fenced ≡ true → state.stopping ≡ false → HeardAfter (record { records = kinds.BrokerRegistrationChange k epoch (negsuc 0) (pos 0) ∷ changes_of change (walk image); fenced = false; shuts_down = shuts_down })
  unfences epoch change shuts_down fenced going after good is =
      let has = changed_then image k epoch (negsuc 0) (pos 0) state change (walk image) there after is in
      let then : hearing.broker_is_stopping after k ≡ false = own image after k _ has (λ s. s.stopping) ∙ or_off state.stopping going in
      rw then (heard_beating h image after hears valid.brokers.ordered good.brokers.ordered k (others image after k _ has) now q.offset (own image after k _ has is_unfenced)
      (at_first is_stopping ∙ (rw fenced (sym (own image after k _ has is_stopping ∙ or_off state.stopping going)))))

  stops : (epoch : ℤ) (change : Walked → Option PartitionChange) (shuts_down : Bool) → state.fenced ≡ false → state.stopping ≡ false → HeardAfter (record { records = kinds.BrokerRegistrationChange k epoch (pos 0) (pos 1) ∷ changes_of change (walk image); fenced = false; shuts_down = shuts_down })
  stops epoch change shuts_down unfenced going after good is =
      let has = changed_then image k epoch (pos 0) (pos 1) state change (walk image) there after is in
      let then : hearing.broker_is_stopping after k ≡ true = own image after k _ has (λ s. s.stopping) ∙ rw going refl in
      let first : hearing.broker_is_stopping image k ≡ false = at_first (λ s. s.stopping) ∙ going in
      rw (then, first) (heard_stopping h image after hears valid.brokers.ordered good.brokers.ordered k (others image after k _ has) now q.offset (own image after k _ has is_unfenced ∙ rw unfenced refl) place
      (own image after k _ has is_stopping ∙ rw (unfenced, going) refl))

  choose : (test : Bool) (x y : broker_heartbeat.Step) → (test ≡ true → HeardAfter x) → (test ≡ false → HeardAfter y) → HeardAfter (cond test x y)
  choose true x y first then = first refl
  choose false x y first then = then refl

  fenced_heard : state.fenced ≡ true → HeardAfter (broker_heartbeat.of_fenced minimum image q state)
  fenced_heard fenced = choose (q.want_shutdown || state.stopping) _ _ (λ _. stays_fenced true fenced) (λ going. choose (q.want_fence || broker_heartbeat.is_behind q) _ _ (λ _. stays_fenced false fenced) (λ _.
      unfences state.epoch (broker_heartbeat.electing minimum image k state) false fenced (neither q.want_shutdown state.stopping going).1))

  stopping_heard : state.fenced ≡ false → HeardAfter (broker_heartbeat.of_stopping minimum h image q)
  stopping_heard unfenced = choose (broker_heartbeat.is_passed_on h image k) _ _ (λ _. fences q.epoch (taking_out minimum image k false) true) (λ _. stays_unfenced false unfenced)

  active_heard : state.fenced ≡ false → state.stopping ≡ false → HeardAfter (broker_heartbeat.of_active minimum image q)
  active_heard unfenced going =
      choose q.want_fence _ _ (λ _. fences q.epoch (taking_out minimum image k false) q.want_shutdown) (λ _.
      choose (q.want_shutdown && not (broker_heartbeat.leads image k)) _ _ (λ _. fences q.epoch (taking_out minimum image k false) true) (λ _.
      choose q.want_shutdown _ _ (λ _. stops q.epoch (taking_out minimum image k false) false unfenced going) (λ _. stays_unfenced false unfenced)))

  pub step_heard : HeardAfter (broker_heartbeat.step minimum h image q state)
  unfolding broker_heartbeat.step
  step_heard = choose state.fenced _ _ fenced_heard (λ unfenced. choose state.stopping _ _ (λ _. stopping_heard unfenced) (λ going. active_heard unfenced going))

-- ---- whole requests

-- no rule refuses with 0
abbrev HasErrors : {X : Type 0} → Result X ℤ → Type 0
HasErrors r = (error : ℤ) → r ≡ Err error → int_eq error (pos 0) ≡ false

err_is : {X : Type 0} (e error : ℤ) → ◌≡◌ {A = Result X ℤ} (Err e) (Err error) → e ≡ error
err_is {X} e error is = ap (λ (r : Result X ℤ). elim r [ Ok x ↦ e | Err f ↦ f ]) is

refuse_has : {X : Type 0} (cause : ℤ) (test : Bool) (r : Result X ℤ) → int_eq cause (pos 0) ≡ false → HasErrors r → HasErrors (cond test (Err cause) r)
refuse_has {X} cause true r real rest error is = subst (λ (e : ℤ). int_eq e (pos 0) ≡ false) (err_is {X = X} cause error is) real
refuse_has cause false r real rest error is = rest error is

found_has : {V X : Type 0} (cause : ℤ) (o : Option V) (next : V → Result X ℤ) → int_eq cause (pos 0) ≡ false → ((v : V) → HasErrors (next v)) → HasErrors (found cause o next)
found_has {V} {X} cause None next real rest error is = subst (λ (e : ℤ). int_eq e (pos 0) ≡ false) (err_is {X = X} cause error is) real
found_has cause (Some v) next real rest error is = rest v error is

done_has : {X : Type 0} (x : X) → HasErrors (Ok x)
done_has x error is = absurd cc

module _ (options : Options) (b : Basis) (image : Image) (place : ℤ) (valid : IsValid image) (hears : HearsOf (heard b) image) where
  abbrev h : Heartbeats
  h = heard b

  -- nothing comes of a refused request
  refused_hears : (error broker : ℤ) → int_eq error (pos 0) ≡ false → HearsOf (hearing.after_leaving h error broker) image
  refused_hears error broker real = rw real hears

  -- a registered broker is fenced
  registered_leaves : (q : BrokerRegistration) (change : Walked → Option PartitionChange) (ws : List Walked) (after : Image) → IsValid after → apply_records image (kinds.RegisterBroker q.broker (broker_registration.registration q place) ∷ changes_of change ws) ≡ Ok after → HearsOf (leave h q.broker) after
  registered_leaves q change ws after good is =
      let has = registered_then image q.broker (broker_registration.registration q place) change ws after is in
      heard_leaving h image after hears valid.brokers.ordered good.brokers.ordered q.broker (others image after q.broker _ has) (own image after q.broker _ has is_unfenced) (own image after q.broker _ has is_stopping)

  registered_hears : (q : BrokerRegistration) (old : Option Broker) (after : Image) → IsValid after → apply_records image (kinds.RegisterBroker q.broker (broker_registration.registration q place) ∷ broker_registration.earlier_taken_out options.minimum image q old) ≡ Ok after → HearsOf (leave h q.broker) after
  registered_hears q None after good is = registered_leaves q (λ _. None) [] after good is
  registered_hears q (Some old) after good is = registered_leaves q (taking_out options.minimum image q.broker (not (int_eq q.previous_epoch old.epoch))) (walk image) after good is

  registration_hears : (q : BrokerRegistration) → let d = one broker_registration.refused (broker_registration.rule options b.time h) (nothing_decided place image) q in HearsOf (hearing.after_leaving h d.1.error q.broker) d.0.image
  registration_hears q =
      done_by broker_registration.refused (λ (d : Work × _). HearsOf (hearing.after_leaving h d.1.error q.broker) d.0.image) (nothing_decided place image) q (broker_registration.rule options b.time h image place q)
      (λ error is. refused_hears error q.broker (refuse_has INCONSISTENT_CLUSTER_ID (not (bytes_eq q.cluster options.cluster)) _ refl (refuse_has INVALID_REQUEST (int_lt q.broker (pos 0) || q.migrating || length q.listeners == 0) _ refl (refuse_has DUPLICATE_BROKER_REGISTRATION (broker_registration.is_taken options b.time h image q) _ refl (done_has (broker_registration.registered options image place q)))) error is))
      (refused_hears POLICY_VIOLATION q.broker refl)
      (λ draft after is by.
      let P = λ (draft : Draft _). (int_eq draft.answer.error (pos 0) ≡ true) × ((after : Image) → IsValid after → apply_records image draft.records ≡ Ok after → HearsOf (leave h q.broker) after) in
      let told = gives_refuse P INCONSISTENT_CLUSTER_ID (not (bytes_eq q.cluster options.cluster)) _ (λ _. gives_refuse P INVALID_REQUEST (int_lt q.broker (pos 0) || q.migrating || length q.listeners == 0) _ (λ _. gives_refuse P DUPLICATE_BROKER_REGISTRATION (broker_registration.is_taken options b.time h image q) _ (λ _. gives_done P (broker_registration.registered options image place q) (refl, registered_hears q (entries.get int_cmp image.brokers q.broker))))) draft is in
      rw told.0 (told.1 after.image (valid_after image draft.records valid after.image by.applied) by.applied))

  unregistration_hears : (q : UnregisterBroker) → let d = one unregister_broker.refused (unregister_broker.rule options) (nothing_decided place image) q in HearsOf (hearing.after_leaving h d.1.error q.broker) d.0.image
  unregistration_hears q =
      done_by unregister_broker.refused (λ (d : Work × _). HearsOf (hearing.after_leaving h d.1.error q.broker) d.0.image) (nothing_decided place image) q (unregister_broker.rule options image place q)
      (λ error is. refused_hears error q.broker (found_has BROKER_ID_NOT_REGISTERED (entries.get int_cmp image.brokers q.broker) _ refl (λ old. done_has _) error is))
      (refused_hears POLICY_VIOLATION q.broker refl)
      (λ draft after is by.
      let P = λ (draft : Draft _). (int_eq draft.answer.error (pos 0) ≡ true) × ((after : Image) → IsValid after → apply_records image draft.records ≡ Ok after → HearsOf (leave h q.broker) after) in
      let told = gives_found P BROKER_ID_NOT_REGISTERED (entries.get int_cmp image.brokers q.broker) _ (λ old _. gives_done P _ (
        refl,
        λ after good applied.
            let gone = removed_then image q.broker old.epoch (taking_out options.minimum image q.broker true) (walk image) after applied in
            let own = λ (test : Broker → Bool). ap (λ (es : Brokers). passes test es q.broker) gone ∙ ap (λ (o : Option Broker). option_map_or test o false) (get_gone image.brokers q.broker valid.brokers.ordered) in
            heard_leaving h image after hears valid.brokers.ordered good.brokers.ordered q.broker (λ id other. ap (λ (es : Brokers). entries.get int_cmp es id) gone ∙ get_left image.brokers q.broker id other) (own is_unfenced) (own is_stopping),
      )) draft is in
      rw told.0 (told.1 after.image (valid_after image draft.records valid after.image by.applied) by.applied))

  heartbeat_hears : (q : BrokerHeartbeat) → let d = one broker_heartbeat.refused (broker_heartbeat.rule options h) (nothing_decided place image) q in HearsOf (hearing.after_heartbeat h image d.0.image b.time place q d.1) d.0.image
  heartbeat_hears q =
      let told = λ (state : Broker). broker_heartbeat.told q (broker_heartbeat.step options.minimum h image q state) in
      done_by broker_heartbeat.refused (λ (d : Work × _). HearsOf (hearing.after_heartbeat h image d.0.image b.time place q d.1) d.0.image) (nothing_decided place image) q (broker_heartbeat.rule options h image place q)
      (λ error is. rw (found_has STALE_BROKER_EPOCH (entries.get int_cmp image.brokers q.broker) _ refl (λ state. refuse_has STALE_BROKER_EPOCH (not (int_eq q.epoch state.epoch)) _ refl (done_has (told state))) error is) hears)
      hears
      (λ draft after is by.
      let P = λ (draft : Draft _). (after : Image) → IsValid after → apply_records image draft.records ≡ Ok after → HearsOf (hearing.after_heartbeat h image after b.time place q draft.answer) after in
      gives_found P STALE_BROKER_EPOCH (entries.get int_cmp image.brokers q.broker) _ (λ state there. gives_refuse P STALE_BROKER_EPOCH (not (int_eq q.epoch state.epoch)) _ (λ _. gives_done P (told state)
      (step_heard options.minimum image b.time place q state valid there h hears))) draft is
      after.image (valid_after image draft.records valid after.image by.applied) by.applied)

-- ---- the laws

left_alone : (options : Options) (b : Basis) (image : Image) (place : ℤ) (request : Request) → is_of_a_broker request ≡ false → HearsOf (heard b) image → DecisionHears (decide options image b place request)
left_alone options b image place request other hears =
    let left = others_leave options b image place request other in
    record {
      contacts = λ id. ap (λ (h : Heartbeats). Rattle.kr_defs.specs.Ids.has (contact_brokers h) id) left.heard_of ∙ (hears.contacts id ∙ ap (λ (es : Brokers). Rattle.kr_defs.specs.Ids.has (passing is_unfenced es) id) (sym left.registered));
      stopping_ones = λ id. ap (λ (h : Heartbeats). Rattle.kr_defs.specs.Ids.has (stopping_brokers h) id) left.heard_of ∙ (hears.stopping_ones id ∙ ap (λ (es : Brokers). Rattle.kr_defs.specs.Ids.has (passing is_stopping es) id) (sym left.registered));
    }

pub requests_keep_hearing : RequestsKeepHearing
unfolding work_of broker_registration.decided broker_heartbeat.decided unregister_broker.decided heartbeats_after
requests_keep_hearing options b image place (requests.BrokerRegistration q) valid hears = registration_hears options b image place valid hears q
requests_keep_hearing options b image place (requests.BrokerHeartbeat q) valid hears = heartbeat_hears options b image place valid hears q
requests_keep_hearing options b image place (requests.UnregisterBroker q) valid hears = unregistration_hears options b image place valid hears q
requests_keep_hearing options b image place (requests.CreateTopics q) valid hears = left_alone options b image place (requests.CreateTopics q) refl hears
requests_keep_hearing options b image place (requests.DeleteTopics q) valid hears = left_alone options b image place (requests.DeleteTopics q) refl hears
requests_keep_hearing options b image place (requests.CreatePartitions q) valid hears = left_alone options b image place (requests.CreatePartitions q) refl hears
requests_keep_hearing options b image place (requests.AlterPartition q) valid hears = left_alone options b image place (requests.AlterPartition q) refl hears
requests_keep_hearing options b image place (requests.ElectLeaders q) valid hears = left_alone options b image place (requests.ElectLeaders q) refl hears
requests_keep_hearing options b image place (requests.AlterPartitionReassignments q) valid hears = left_alone options b image place (requests.AlterPartitionReassignments q) refl hears
requests_keep_hearing options b image place (requests.IncrementalAlterConfigs q) valid hears = left_alone options b image place (requests.IncrementalAlterConfigs q) refl hears
requests_keep_hearing options b image place (requests.ListPartitionReassignments q) valid hears = left_alone options b image place (requests.ListPartitionReassignments q) refl hears
requests_keep_hearing options b image place (requests.Metadata q) valid hears = left_alone options b image place (requests.Metadata q) refl hears

pub fencings_keep_hearing : FencingsKeepHearing
fencings_keep_hearing minimum h image after broker state valid there hears is =
    let has = changed_then image broker state.epoch (pos 1) (pos 0) state (taking_out minimum image broker false) (walk image) there after is in
    let good = valid_after image (fencing minimum image broker state.epoch) valid after is in
    heard_leaving h image after hears valid.brokers.ordered good.brokers.ordered broker (others image after broker _ has) (own image after broker _ has is_unfenced) (own image after broker _ has is_stopping)

mapped : {X : Type 0} (f : ℤ → X) (g : X → ℤ) → ((id : ℤ) → g (f id) ≡ id) → (ids : List ℤ) → map g (map f ids) ≡ ids
mapped f g back [] = refl
mapped f g back (id ∷ ids) = rw (back id, mapped f g back ids) refl

pub leaders_begin_hearing : LeadersBeginHearing
leaders_begin_hearing image now led = record {
  contacts = λ id. ap (λ (ids : List ℤ). Rattle.kr_defs.specs.Ids.has ids id) (mapped (new_contact now) (λ c. c.broker) (λ id. refl) (unfenced image));
  stopping_ones = λ id. ap (λ (ids : List ℤ). Rattle.kr_defs.specs.Ids.has ids id) (mapped (new_stopping led) (λ s. s.broker) (λ id. refl) (stopping image));
}
