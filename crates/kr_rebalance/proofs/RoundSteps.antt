-- What the step of a round leaves.
use Rattle.std.proofs.Common.{◌≡◌, ◌∙◌, sym, subst, refl, ap, Bool, true, false, not, cond, ◌&&◌, ℕ, ℤ, pos, List, [], ◌∷◌, Option, Some, None}
use Rattle.std.specs.Prelude.{All, IsSome, IsTrue, OnOk, Result, Ok, Err, is_some}
use Rattle.std.specs.Result.{result_unwrap_or}
use Rattle.std.proofs.lemmas.List.Elements.{All-from_recursion}
use Rattle.kr_calls.specs.declared.calls.Ask.{Ask}
use Rattle.kr_calls.specs.declared.calls.Ask.TheVariants as asks
use Rattle.kr_calls.specs.declared.calls.Request.{Request}
use Rattle.kr_calls.specs.declared.calls.Request.TheVariants as requests
use Rattle.kr_calls.specs.declared.events.Event.{Event}
use Rattle.kr_calls.specs.declared.events.Reason.{Reason}
use Rattle.kr_calls.specs.Decide.{Decision, decide}
use Rattle.kr_calls.specs.Deciding.{apply_records}
use Rattle.kr_calls.specs.MeaningLaws.{RecordsHaveMeanings}
use Rattle.kr_defs.specs.declared.ill.Ill.{Ill}
use Rattle.kr_defs.specs.declared.options.Options.{Options}
use Rattle.kr_defs.specs.Heartbeats.{heard}
use Rattle.kr_defs.specs.Image.{Image, IsValid, empty}
use Rattle.kr_defs.specs.ImageLaws.{as_items}
use Rattle.kr_defs.specs.Log.{apply_all, image_at, tip}
use Rattle.kr_model.specs.declared.writes.Write.{Write}
use Rattle.kr_model.specs.Engine.{Core, IsEngine, IsSound, IsStep}
use Rattle.kr_model.specs.Events.{at_time_of, happens, outcome, with_next_number}
use Rattle.kr_model.specs.Outputs.{if_accepted, new_writes, write_of, writes_of}
use Rattle.kr_model.specs.Reasons.{exhausted}
use Rattle.kr_model.specs.Request.{after_ask, after_write, decision, is_decided}
use Rattle.kr_model.specs.World.{State, image_of_tip, is_far, log_with, seen_at, tip_of, with_records}
use Rattle.kr_model.proofs.LogEntries.{batch_written}
use Rattle.kr_model.proofs.Logs.{as_records, written_at_tip}
use Rattle.kr_balance.specs.Plan.{plan}
use Rattle.kr_rebalance.specs.Round.{round_event}
use Rattle.law_balance.specs.Balancing.{Balances, IsWithoutErrors, RoundsBalance}
use Rattle.law_balance.specs.Election.{preferred_election}

not_far : (b : Bool) → IsTrue (not b) → b ≡ false
not_far true h = absurd cc
not_far false h = refl

ok_is : (x y : Image) (r : Result Image Ill) → r ≡ Ok x → r ≡ Ok y → x ≡ y
ok_is x y r first second = ap (λ (s : Result Image Ill). result_unwrap_or s empty) (sym first ∙ second)

module _ (before after : Core) (client percent : ℕ) (now : ℤ) (s : State) (writes : List Write)
    (stands : IsEngine before s writes) (leads : IsSome before.leading) (low : IsTrue (not (is_far before.tip))) where
  abbrev request : Request
  request = requests.ElectLeaders (preferred_election (plan before.images.tip percent))

  abbrev ask : Ask
  ask = asks.Call (record { correlation = pos 0; request = request })

  abbrev event : Event
  event = round_event client now before.images.tip percent

  -- at the event's time
  abbrev timed : State
  timed = at_time_of s event

  image_is : image_of_tip s ≡ before.images.tip
  image_is = ap (λ (r : Result Image Ill). result_unwrap_or r empty) stands.present

  is_led : is_some s.world.leading ≡ true
  is_led = ap is_some (sym stands.leading) ∙ leads

  is_low : is_far (pos (tip_of s)) ≡ false
  is_low = ap is_far (sym stands.tip) ∙ not_far (is_far before.tip) low

  decides : is_decided timed.world ask ≡ true
  decides = ap (λ b. b && true) is_led

  accepted : outcome before.options timed event ≡ Ok (after_write before.options timed request)
  accepted =
      ap (λ b. cond (is_decided timed.world ask && b) (Err (exhausted (pos (tip_of timed)))) (Ok (after_ask before.options timed ask))) is_low
      ∙ (ap (λ b. cond (b && false) (Err (exhausted (pos (tip_of timed)))) (Ok (cond b (after_write before.options timed request) timed))) decides)

  happened : happens before.options s event ≡ with_next_number (after_write before.options timed request)
  happened = ap (λ (r : Result State Reason). with_next_number (result_unwrap_or r timed)) accepted

  abbrev decided : Decision
  decided = decision before.options timed request

  module _ (rounds : RoundsBalance) (valid : IsValid before.images.tip) where
    balanced_so : Balances before.images.tip decided.image percent × IsWithoutErrors decided.reply
    balanced_so =
        subst (λ (image : Image). let d = decide before.options image timed.basis (pos (tip_of s)) request in Balances before.images.tip d.image percent × IsWithoutErrors d.reply) (sym image_is)
        (let r = rounds before.options timed.basis before.images.tip (pos (tip_of s)) percent valid in (r.balances, r.answers))

    all_answered : All (λ (write : Write). IsWithoutErrors write.reply) (new_writes before.options s event)
    all_answered =
        subst (λ (r : Result State Reason). All (λ (write : Write). IsWithoutErrors write.reply) (if_accepted r (writes_of before.options timed event))) (sym accepted)
        (subst (λ b. All (λ (write : Write). IsWithoutErrors write.reply) (cond b (write_of before.options timed client (record { correlation = pos 0; request = request }) ∷ []) [])) (sym decides)
        (All-from_recursion (λ (write : Write). IsWithoutErrors write.reply) (write_of before.options timed client (record { correlation = pos 0; request = request }) ∷ []) (balanced_so.1, tt)))

    -- the image then is that of the decision
    image_then : RecordsHaveMeanings → IsStep before after event → decided.image ≡ after.images.tip
    image_then meanings step =
        let e : IsEngine after (happens before.options s event) _ = step.stands s writes stands in
        let then : image_at (with_records s.world decided.records).log (tip (with_records s.world decided.records).log) ≡ Ok after.images.tip =
        subst (λ (x : State). image_at x.world.log (tip x.world.log) ≡ Ok after.images.tip) happened e.present in
        let written : image_at (log_with s.world.log (as_items decided.records)) (tip (log_with s.world.log (as_items decided.records))) ≡ Ok after.images.tip =
        subst (λ log. image_at log (tip log) ≡ Ok after.images.tip) (batch_written s.world (as_items decided.records)) then in
        let means : apply_records (image_of_tip s) decided.records ≡ Ok decided.image = meanings before.options timed.basis.time (heard timed.basis) (image_of_tip s) (pos (tip_of s)) request in
        let applies : apply_all before.images.tip (as_items decided.records) ≡ Ok decided.image =
        as_records before.images.tip decided.records ∙ (ap (λ image. apply_records image decided.records) (sym image_is) ∙ means) in
        ok_is decided.image after.images.tip (image_at (log_with s.world.log (as_items decided.records)) (tip (log_with s.world.log (as_items decided.records))))
        (written_at_tip s.world.log (as_items decided.records) before.images.tip decided.image stands.present applies) written

    all_balanced : RecordsHaveMeanings → IsStep before after event → Balances before.images.tip after.images.tip percent
    all_balanced meanings step = subst (λ (image : Image). Balances before.images.tip image percent) (image_then meanings step) balanced_so.0

pub balanced : (before after : Core) (client percent : ℕ) (now : ℤ) → RoundsBalance → RecordsHaveMeanings → IsValid before.images.tip → IsSound before → IsSome before.leading → IsTrue (not (is_far before.tip))
    → IsStep before after (round_event client now before.images.tip percent) → Balances before.images.tip after.images.tip percent
balanced before after client percent now rounds meanings valid sound leads low step =
    all_balanced before after client percent now sound.state sound.writes sound.stands leads low rounds valid meanings step

pub answered : (before : Core) (client percent : ℕ) (now : ℤ) → RoundsBalance → IsValid before.images.tip → IsSome before.leading → IsTrue (not (is_far before.tip))
    → (s : State) (writes : List Write) → IsEngine before s writes → All (λ (write : Write). IsWithoutErrors write.reply) (new_writes before.options s (round_event client now before.images.tip percent))
answered before client percent now rounds valid leads low s writes stands = all_answered before before client percent now s writes stands leads low rounds valid

pub on_ok_so : {T F : Type 0} {P Q : Type 0} (r : Result T F) → (P → Q) → OnOk r P → OnOk r Q
on_ok_so (Ok value) f p = f p
on_ok_so (Err fault) f p = p
