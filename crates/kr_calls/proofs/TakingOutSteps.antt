-- Taking a broker out of the partitions of a valid image.
use Rattle.std.proofs.Common.{◌≡◌, ℤ, Bool, true, false, cond, List, [], ◌∷◌, refl, ap, subst}
use Rattle.std.specs.Prelude.{Some, None, IsTrue, IfSome, ◌||◌, pos, Result, Ok, Err}
use Rattle.std.specs.Ordering.{int_cmp}
use Rattle.kr_defs.specs.declared.broker.Broker.{Broker}
use Rattle.kr_defs.specs.declared.changing.Facts.{Facts}
use Rattle.kr_defs.specs.declared.changing.Want.{Want}
use Rattle.kr_defs.specs.declared.partition.Partition.{Partition}
use Rattle.kr_defs.specs.declared.partition.PartitionChange.{PartitionChange}
use Rattle.kr_defs.specs.declared.record.Record.TheVariants as kinds
use Rattle.kr_defs.specs.Apply.{apply_record, changed}
use Rattle.kr_defs.specs.Brokers.{active}
use Rattle.kr_defs.specs.Build.{is_sensible, built}
use Rattle.kr_defs.specs.Guard.{found}
use Rattle.kr_defs.specs.Ids.{without}
use Rattle.kr_defs.specs.Image.{Image, IsValid}
use Rattle.kr_defs.specs.Map as entries
use Rattle.kr_defs.specs.Merge.{merged}
use Rattle.kr_defs.specs.Partition.{is_well_formed}
use Rattle.kr_defs.specs.Settings.{facts_with}
use Rattle.kr_defs.proofs.Changes.{kept}
use Rattle.kr_defs.proofs.IdLists.{id_itself}
use Rattle.kr_defs.proofs.NewPartitions.{defaults_sensible}
use Rattle.kr_calls.specs.declared.errors.TheConstants.{BROKER_ID_NOT_REGISTERED}
use Rattle.kr_calls.specs.declared.deciding.Draft.{Draft}
use Rattle.kr_calls.specs.declared.unregister_broker.UnregisterBrokerReply.{UnregisterBrokerReply}
use Rattle.kr_calls.specs.TakingOut.{taken_out, taking_out, fencing, without_broker, is_held}
use Rattle.kr_calls.specs.TakingOutLaws.{LeaveWith, TakingOutIsNeverRefused, FencingIsNeverRefused, UnregisteringIsNeverRefused}
use Rattle.kr_calls.proofs.WalkedChanges.{IsSound, walk_leaves}

-- a change that is built where a test holds, of a want that is sensible
pub built_sound : (p : Partition) (want : Want) (facts : Facts) (test : Bool) (c : PartitionChange) → is_well_formed p ≡ true → is_sensible want ≡ true → cond test (built p want facts) None ≡ Some c → is_well_formed (merged p c) ≡ true
built_sound p want facts true c formed sensible is = subst (λ o. IfSome o (λ change. IsTrue (is_well_formed (merged p change)))) is (kept p want facts formed sensible)
built_sound p want facts false c formed sensible is = absurd cc

pub taking_sound : (minimum : ℤ) (image : Image) (broker : ℤ) (restarted : Bool) → IsSound (taking_out minimum image broker restarted)
taking_sound minimum image broker restarted w formed c is =
    built_sound w.partition (without_broker w.partition broker restarted) (facts_with minimum image (without (active image) (broker ∷ [])) w.topic) (is_held w.partition broker restarted) c formed (defaults_sensible w.partition formed) is

-- also on the image with other brokers
pub taken_out_leaves : (minimum : ℤ) (image : Image) (brokers : List (ℤ × Broker)) (broker : ℤ) (restarted : Bool) → IsValid image → LeaveWith (record image { brokers = brokers }) brokers (taken_out minimum image broker restarted)
taken_out_leaves minimum image brokers broker restarted valid = walk_leaves (taking_out minimum image broker restarted) image brokers (taking_sound minimum image broker restarted) valid

pub taking_out_stands : TakingOutIsNeverRefused
taking_out_stands minimum image broker restarted valid = taken_out_leaves minimum image image.brokers broker restarted valid

or_nothing : (b : Bool) → (b || false) ≡ b
or_nothing true = refl
or_nothing false = refl

-- who is fenced stops or not as before
fenced_then : (state : Broker) → changed state (pos 1) (pos 0) ≡ record state { fenced = true }
fenced_then state = ap (λ (b : Bool). record state { fenced = true; stopping = b }) (or_nothing state.stopping)

pub fencing_stands : FencingIsNeverRefused
unfolding apply_record
fencing_stands minimum image broker state valid there =
    let brokers = entries.insert int_cmp image.brokers broker (changed state (pos 1) (pos 0)) in
    let rest = taken_out_leaves minimum image brokers broker false valid in
    subst (λ (s : Broker). LeaveWith image (entries.insert int_cmp image.brokers broker s) (fencing minimum image broker state.epoch)) (fenced_then state) (rest.0, rw (there, id_itself state.epoch) rest.1)

value_or : {X E : Type 0} → X → Result X E → X
value_or x (Ok y) = y
value_or x (Err e) = x

pub unregistering_stands : UnregisteringIsNeverRefused
unfolding apply_record value_or
unregistering_stands options image place request draft valid is =
    let key = request.broker in
    let brokers = entries.remove int_cmp image.brokers key in
    let own = λ (old : Broker). let d : Draft UnregisterBrokerReply = record { records = kinds.UnregisterBroker key old.epoch ∷ taken_out options.minimum image key true; answer = record { error = pos 0 } } in d in
    elim (entries.get int_cmp image.brokers key) as (λ o. entries.get int_cmp image.brokers key ≡ o → found BROKER_ID_NOT_REGISTERED o (λ old. Ok (own old)) ≡ Ok draft → LeaveWith image brokers draft.records) [
      | None ↦ λ there is. absurd cc
      | Some old ↦ λ there is.
          let rest = taken_out_leaves options.minimum image brokers key true valid in
          subst (λ (d : Draft UnregisterBrokerReply). LeaveWith image brokers d.records) (ap (value_or (own old)) is) (rest.0, rw (there, id_itself old.epoch) rest.1)
    ] refl is
