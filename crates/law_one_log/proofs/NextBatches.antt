-- The batches that an event appends stand one behind the other at the tip, in the epoch that is led.
use Rattle.std.proofs.Common.{◌≡◌, ◌∙◌, sym, subst, ℕ, ℤ, pos, ◌+◌, ◌<◌, Bool, true, false, cond, List, [], ◌∷◌, ◌++◌, length, map, refl, ap, arith}
use Rattle.std.specs.Prelude.{unsigned_abs, not, is_some, ◌&&◌, Option, Some, None, Result, Ok, Err}
use Rattle.std.specs.List.{AllByRecursion}
use Rattle.std.proofs.lemmas.List.{append-nil, length-append}
use Rattle.kr_batch.specs.declared.Batch.{Batch}
use Rattle.kr_calls.specs.declared.calls.Ask.TheVariants as asks
use Rattle.kr_calls.specs.declared.calls.Call.{Call}
use Rattle.kr_calls.specs.declared.events.Reason.{Reason}
use Rattle.kr_calls.specs.Decide.{is_read}
use Rattle.kr_defs.specs.declared.options.Options.{Options}
use Rattle.kr_defs.specs.declared.record.Record.{Record}
use Rattle.kr_defs.specs.Heartbeats.{end, heard}
use Rattle.kr_defs.specs.ImageLaws.{as_items}
use Rattle.kr_defs.specs.Log.{Log, tip}
use Rattle.kr_model.specs.Outputs.{if_accepted, next_batch}
use Rattle.kr_model.specs.Reasons.{led_epoch}
use Rattle.kr_model.specs.Request.{decision, is_decided}
use Rattle.kr_model.specs.Tick.{fence, fencing_of, lapsed_contacts}
use Rattle.kr_model.specs.World.{State, image_of_tip, tip_of}
use Rattle.kr_model.proofs.DueWrites.{batch_leaves}
use Rattle.kr_model.proofs.LogEntries.{not_none}
use Rattle.kr_model.proofs.Logs.{tip_written}
use Rattle.kr_model.proofs.OrderlyStates.{none_lapses}
use Rattle.law_quorum.specs.Batches.{behind}
use Rattle.law_quorum.specs.Batches.{Batch as StoredBatch}
use Rattle.law_quorum.specs.Nodes.{Node}
use Rattle.law_quorum.proofs.Places.{behind_append}
use Rattle.law_link.specs.Links.{MayWrite}
use Rattle.law_link.proofs.UnderWay.{written}
use Rattle.law_nodes.specs.Nodes.{batch_for, fencing_batches}
use Rattle.law_nodes.specs.OneList.{list_items}
use Rattle.law_nodes.proofs.ReadBatches.{fenced_log}
use Rattle.law_one_log.specs.Daemons.{IsReadBatch}
use Rattle.law_one_log.specs.StoredBatches.{stored}
use Rattle.law_one_log.proofs.ReadLists.{AllStored, is_stored}

abbrev pub AreNext : ℕ → ℕ → List Batch → Type 0
AreNext epoch at [] = Unit {0}
AreNext epoch at (b ∷ bs) = (b.base ≡ pos at) × (b.epoch ≡ pos epoch) × (0 < length b.items) × AreNext epoch (at + length b.items) bs

next_both : (epoch at : ℕ) (xs ys : List Batch) → AreNext epoch at xs → AreNext epoch (at + length (list_items xs)) ys → AreNext epoch at (xs ++ ys)
next_both epoch at [] ys h g = subst (λ (n : ℕ). AreNext epoch n ys) (let e : at + 0 ≡ at = omega arith in e) g
next_both epoch at (x ∷ xs) ys h g =
    let long : length (x.items ++ list_items xs) ≡ length x.items + length (list_items xs) = length-append x.items (list_items xs) in
    let e : at + length (x.items ++ list_items xs) ≡ (at + length x.items) + length (list_items xs) = omega (arith, long) in
    (h.0, h.1, h.2, next_both epoch (at + length x.items) xs ys h.3 (subst (λ (n : ℕ). AreNext epoch n ys) e g))

-- ---- by the state

module _ (epoch : ℕ) where
  one_next : (s : State) → s.world.leading ≡ Some (pos epoch) → (records : List Record) → AreNext epoch (tip_of s) (batch_for s records)
  one_next s led [] = tt
  one_next s led (r ∷ rs) =
      subst (λ b. AreNext epoch (tip_of s) (cond b [] (next_batch s (r ∷ rs) ∷ []))) (sym (not_none (length rs)))
      (refl, ap (λ (o : Option ℤ). led_epoch o) led, omega arith, tt)

  fenced_next : (options : Options) (brokers : List ℤ) (s : State) → s.world.leading ≡ Some (pos epoch) → AreNext epoch (tip_of s) (fencing_batches options s brokers)
  fenced_next options [] s led = tt
  fenced_next options (broker ∷ brokers) s led =
      let records = fencing_of options (image_of_tip s) broker in
      let own = batch_for s records in
      let next = fence options s broker in
      let tip_is : tip_of next ≡ tip_of s + length (list_items own) =
      ap (λ (log : Log). tip log) (fenced_log options (broker ∷ []) s)
      ∙ (tip_written s.world.log (list_items (own ++ [])) ∙ ap (λ (bs : List Batch). tip_of s + length (list_items bs)) (append-nil own)) in
      next_both epoch (tip_of s) own (fencing_batches options next brokers) (one_next s led records)
      (subst (λ (n : ℕ). AreNext epoch n (fencing_batches options next brokers)) tip_is
      (fenced_next options brokers next ((batch_leaves s.world (as_items records)).leading ∙ led)))

-- ---- who leads, or doesn't

abbrev pub NextBy : Option ℕ → ℕ → List Batch → Type 0
NextBy None at bs = bs ≡ []
NextBy (Some epoch) at bs = AreNext epoch at bs

abbrev pub as_led : Option ℕ → Option ℤ
as_led None = None
as_led (Some epoch) = Some (pos epoch)

pub accepted_next : (o : Option ℕ) (at : ℕ) (bs : List Batch) (q : Result State Reason) → NextBy o at bs → NextBy o at (if_accepted q bs)
accepted_next o at bs (Ok after) h = h
accepted_next None at bs (Err reason) h = refl
accepted_next (Some epoch) at bs (Err reason) h = tt

module _ (options : Options) (s : State) where
  by_decided : (o : Option ℕ) → s.world.leading ≡ as_led o → (call : Call) (b : Bool) → is_decided s.world (asks.Call call) ≡ b
      → NextBy o (tip_of s) (cond b (batch_for s (decision options s call.request).records) [])
  by_decided None none call false is = refl
  by_decided None none call true is = absurd (let e : false ≡ true = subst (λ (o : Option ℤ). (is_some o && not (is_read call.request)) ≡ true) none is in cc)
  by_decided (Some epoch) led call false is = tt
  by_decided (Some epoch) led call true is = one_next epoch s led (decision options s call.request).records

  pub request_next : (o : Option ℕ) → s.world.leading ≡ as_led o → (call : Call)
      → NextBy o (tip_of s) (cond (is_decided s.world (asks.Call call)) (batch_for s (decision options s call.request).records) [])
  request_next o led call = by_decided o led call (is_decided s.world (asks.Call call)) refl

  pub tick_next : (o : Option ℕ) → s.world.leading ≡ as_led o → (s.world.leading ≡ None → heard s.basis ≡ end) → NextBy o (tip_of s) (fencing_batches options s (lapsed_contacts options s))
  tick_next None none idle = ap (λ (brokers : List ℤ). fencing_batches options s brokers) (none_lapses options s (idle none))
  tick_next (Some epoch) led idle = fenced_next epoch options (lapsed_contacts options s) s led

-- ---- the store's batches

abbrev pub AreWritten : Node → List StoredBatch → Type 0
AreWritten d [] = Unit {0}
AreWritten d (b ∷ bs) = MayWrite d b × AreWritten (written d b) bs

next_written : (epoch at : ℕ) (d : Node) (bs : List Batch) → d.leads ≡ Some epoch → behind d.end d.own ≡ at → AreNext epoch at bs → AreWritten d (map (λ (b : Batch). stored b) bs)
next_written epoch at d [] led tip h = tt
next_written epoch at d (b ∷ bs) led tip h = (
  record {
    leads = led ∙ ap (λ (z : ℤ). Some (unsigned_abs z)) (sym h.1);
    base = ap (λ (z : ℤ). unsigned_abs z) h.0 ∙ sym tip;
    some = h.2;
  },
  next_written epoch (at + length b.items) (written d (stored b)) bs led (behind_append d.end d.own (stored b ∷ []) ∙ ap (λ (n : ℕ). n + length b.items) tip) h.3,
)

next_stored : (epoch at : ℕ) (bs : List Batch) → AreNext epoch at bs → AllByRecursion IsReadBatch bs → AllStored (map (λ (b : Batch). stored b) bs)
next_stored epoch at [] h read = tt
next_stored epoch at (b ∷ bs) h read = (is_stored b at h.0 read.0, next_stored epoch (at + length b.items) bs h.3 read.1)

none_written : (d : Node) (bs : List Batch) → bs ≡ [] → AreWritten d (map (λ (b : Batch). stored b) bs) × AllStored (map (λ (b : Batch). stored b) bs)
none_written d [] is = (tt, tt)
none_written d (b ∷ bs) is = absurd cc

pub all_written : (o : Option ℕ) (at : ℕ) (d : Node) (bs : List Batch) → d.leads ≡ o → behind d.end d.own ≡ at → NextBy o at bs → AllByRecursion IsReadBatch bs
    → AreWritten d (map (λ (b : Batch). stored b) bs) × AllStored (map (λ (b : Batch). stored b) bs)
all_written None at d bs leads tip h read = none_written d bs h
all_written (Some epoch) at d bs leads tip h read = (next_written epoch at d bs leads tip h, next_stored epoch at bs h read)
