-- What a leader's requests and the ends of sessions write.
use Rattle.std.proofs.Common.{◌≡◌, ◌∙◌, sym, subst, ℕ, suc, ℤ, pos, ◌+◌, ◌<◌, Bool, true, false, cond, List, [], ◌∷◌, ◌++◌, length, map, refl, ap, arith}
use Rattle.std.specs.Prelude.{Option, Some, None, Result, Ok, IsOk, ◌==◌, ◌&&◌, not, is_some}
use Rattle.std.proofs.lemmas.List.{append-nil, append_assoc, length-map}
use Rattle.kr_batch.specs.declared.Batch.{Batch}
use Rattle.kr_calls.specs.declared.calls.Ask.TheVariants as asks
use Rattle.kr_calls.specs.declared.calls.Call.{Call}
use Rattle.kr_calls.specs.declared.events.Event.TheVariants as events
use Rattle.kr_calls.specs.Decide.{is_read}
use Rattle.kr_calls.specs.Deciding.{apply_records}
use Rattle.kr_calls.proofs.DecisionMeanings.{requests_stand}
use Rattle.kr_defs.specs.declared.basis.Basis.{Basis}
use Rattle.kr_defs.specs.declared.ill.Ill.{Ill}
use Rattle.kr_defs.specs.declared.options.Options.{Options}
use Rattle.kr_defs.specs.declared.record.Item.{Item}
use Rattle.kr_defs.specs.declared.record.Item.TheVariants as items
use Rattle.kr_defs.specs.declared.record.Record.{Record}
use Rattle.kr_defs.specs.Heartbeats.{heard, leave}
use Rattle.kr_defs.specs.Image.{Image}
use Rattle.kr_defs.specs.ImageLaws.{as_items}
use Rattle.kr_defs.specs.Log.{Log, apply_all, tip}
use Rattle.kr_model.specs.Outputs.{next_batch, write_of}
use Rattle.kr_model.specs.Request.{after_ask, after_write, decision, is_decided}
use Rattle.kr_model.specs.Tick.{fence, fence_all, fencing_of}
use Rattle.kr_model.specs.World.{State, image_of_tip, log_with, tip_of, with_heartbeats, with_records}
use Rattle.kr_model.proofs.DueWrites.{batch_leaves}
use Rattle.kr_model.proofs.LogEntries.{batch_written, not_none}
use Rattle.kr_model.proofs.Logs.{as_records, tip_written}
use Rattle.kr_model.proofs.SafeEntries.{fenced_to}
use Rattle.law_nodes.specs.Nodes.{Waiting, batch_for, batches_for, fencing_batches, writes_with}
use Rattle.law_nodes.specs.OneList.{list_items}
use Rattle.law_nodes.proofs.Invariant.{IsCore, Waits, never}
use Rattle.law_nodes.proofs.Lists.{items_one, some_both}
use Rattle.law_nodes.proofs.Logs
use Rattle.law_nodes.proofs.Replies.{AllWait, waits_both, waits_longer}

-- records that mean something are written
meant : (image after : Image) (records : List Record) → apply_records image records ≡ Ok after → IsOk (apply_all image (as_items records))
meant image after records is = subst (λ (r : Result Image Ill). IsOk r) (sym (as_records image records ∙ is)) refl

-- the items of the batch that is made of records
batch_items : (s : State) (records : List Record) → list_items (batch_for s records) ≡ as_items records
batch_items s [] = refl
batch_items s (r ∷ rs) =
    ap (λ b. list_items (cond b [] (next_batch s (r ∷ rs) ∷ []))) (not_none (length rs)) ∙ append-nil (as_items (r ∷ rs))

module _ (list : List Batch) (elected : ℤ) (settled : ℕ) where
  -- ---- one batch

  pub core_more : (s : State) (unsettled : List Batch) → IsCore list elected s settled unsettled → IsCore list elected s settled (unsettled ++ [])
  core_more s unsettled c = subst (IsCore list elected s settled) (sym (append-nil unsettled)) c

  module _ (s : State) (unsettled : List Batch) (basis : Basis) (c : IsCore list elected s settled unsettled) (epoch : ℤ) (led : s.world.leading ≡ Some epoch) where
    none_written : IsCore list elected (record { world = s.world; basis = basis }) settled unsettled
    none_written = record {
      committed = c.committed;
      settles = c.settles;
      order = c.order;
      tail = c.tail;
      some = c.some;
      means = c.means;
      standby = λ none. absurd (never s.world.leading none led);
      low = c.low;
      latest = c.latest;
    }

    written : (b : Batch) (ends : List ℕ) → 0 < length b.items → IsOk (apply_all s.world.log.image (s.world.log.items ++ b.items))
        → IsCore list elected (record { world = record s.world { log = log_with s.world.log b.items; batch_ends = ends }; basis = basis }) settled (unsettled ++ b ∷ [])
    written b ends some means = record {
      committed = Logs.longer_log list s.world.log s.world.committed b.items c.committed;
      settles = Logs.longer_log list s.world.log settled b.items c.settles;
      order = c.order;
      tail = ap (λ (l : List Item). l ++ b.items) c.tail ∙ sym (items_one unsettled b);
      some = some_both unsettled (b ∷ []) c.some (some, tt);
      means = means;
      standby = λ none. absurd (never s.world.leading none led);
      low = c.low;
      latest = c.latest;
    }

    pub core_written : (records : List Record) → IsOk (apply_all s.world.log.image (s.world.log.items ++ as_items records))
        → IsCore list elected (record { world = with_records s.world records; basis = basis }) settled (unsettled ++ batch_for s records)
    core_written [] means = subst (IsCore list elected (record { world = s.world; basis = basis }) settled) (sym (append-nil unsettled)) none_written
    core_written (r ∷ rs) means = by_tests (length (as_items (r ∷ rs)) == 0) (length (r ∷ rs) == 0) (not_none (length (as_items rs))) (not_none (length rs))
      where
        by_tests : (a b : Bool) → a ≡ false → b ≡ false
            → IsCore list elected (record { world = cond a s.world (record s.world { log = log_with s.world.log (as_items (r ∷ rs)); batch_ends = s.world.batch_ends ++ (tip s.world.log + length (as_items (r ∷ rs))) ∷ [] }); basis = basis }) settled (unsettled ++ cond b [] (next_batch s (r ∷ rs) ∷ []))
        by_tests true b is h = absurd cc
        by_tests false true h is = absurd cc
        by_tests false false h g =
            let some : 0 < suc (length (as_items rs)) = omega arith in
            written (next_batch s (r ∷ rs)) (s.world.batch_ends ++ (tip s.world.log + length (as_items (r ∷ rs))) ∷ []) some means

  -- ---- fencings

  module _ (options : Options) where
    pub core_fenced : (brokers : List ℤ) (s : State) (unsettled : List Batch) → IsCore list elected s settled unsettled → (epoch : ℤ) → s.world.leading ≡ Some epoch
        → IsCore list elected (fence_all options s brokers) settled (unsettled ++ fencing_batches options s brokers)
    core_fenced [] s unsettled c epoch led = core_more s unsettled c
    core_fenced (broker ∷ brokers) s unsettled c epoch led =
        let records = fencing_of options (image_of_tip s) broker in
        let f = fenced_to options (image_of_tip s) broker (Logs.valid_tip list s.world.log s.world.committed c.committed c.means) in
        let means = Logs.means_behind s.world.log (as_items records) c.means (meant (image_of_tip s) f.after records f.means) in
        let first = core_written s unsettled (with_heartbeats s.basis (leave (heard s.basis) broker)) c epoch led records means in
        subst (IsCore list elected (fence_all options s (broker ∷ brokers)) settled) (append_assoc unsettled (batch_for s records) (fencing_batches options (fence options s broker) brokers))
        (core_fenced brokers (fence options s broker) (unsettled ++ batch_for s records) first epoch ((batch_leaves s.world (as_items records)).leading ∙ led))

module _ (options : Options) where
  pub leading_fenced : (brokers : List ℤ) (s : State) → (fence_all options s brokers).world.leading ≡ s.world.leading
  leading_fenced [] s = refl
  leading_fenced (broker ∷ brokers) s =
      leading_fenced brokers (fence options s broker) ∙ (batch_leaves s.world (as_items (fencing_of options (image_of_tip s) broker))).leading

  pub waits_fenced : (brokers : List ℤ) (s : State) (ws : List Waiting) → AllWait s.world.log ws → AllWait (fence_all options s brokers).world.log ws
  waits_fenced [] s ws h = h
  waits_fenced (broker ∷ brokers) s ws h =
      let records = fencing_of options (image_of_tip s) broker in
      waits_fenced brokers (fence options s broker) ws
      (subst (λ (log : Log). AllWait log ws) (sym (batch_written s.world (as_items records))) (waits_longer s.world.log (as_items records) ws h))

-- ---- a request

module _ (list : List Batch) (elected : ℤ) (settled : ℕ) (unsettled : List Batch) (options : Options) (s : State) (client : ℕ) (now : ℤ) (call : Call)
    (c : IsCore list elected s settled unsettled) (waiting : List Waiting) (h : AllWait s.world.log waiting) where
  abbrev decided : Bool
  decided = is_decided s.world (asks.Call call)

  abbrev records : List Record
  records = (decision options s call.request).records

  -- the write of the request
  abbrev own : Waiting
  own = record { write = write_of options s client call; items = list_items (batch_for s records) }

  own_waits : decided ≡ true → Waits (log_with s.world.log (as_items records)) own
  own_waits is =
      let long : length (list_items (batch_for s records)) ≡ length (as_items records) = ap (λ (l : List Item). length l) (batch_items s records) in
      let after : after_ask options s (asks.Call call) ≡ after_write options s call.request = ap (λ b. cond b (after_write options s call.request) s) is in
      let end : tip_of (after_ask options s (asks.Call call)) ≡ tip (log_with s.world.log (as_items records)) =
      ap (λ (t : State). tip_of t) after ∙ ap (λ (log : Log). tip log) (batch_written s.world (as_items records)) in
      record {
        front = s.world.log.items;
        back = [];
        at = refl;
        is = ap (λ (l : List Item). s.world.log.items ++ l) (sym (append-nil (list_items (batch_for s records)) ∙ batch_items s records));
        count = sym (long ∙ length-map records (λ (r : Record). items.Record r));
        need = ap (λ n. pos n) (end ∙ (tip_written s.world.log (as_items records) ∙ ap (λ n. tip s.world.log + n) (sym long)));
      }

  means : IsOk (apply_all s.world.log.image (s.world.log.items ++ as_items records))
  means =
      let d = decision options s call.request in
      Logs.means_behind s.world.log (as_items records) c.means
      (meant (image_of_tip s) d.image records (requests_stand options s.basis.time (heard s.basis) (image_of_tip s) (pos (tip_of s)) call.request))

  leads : (o : Option ℤ) → s.world.leading ≡ o → decided ≡ true → (epoch : ℤ) × (s.world.leading ≡ Some epoch)
  leads None none is = absurd (let e : false ≡ true = subst (λ (o : Option ℤ). (is_some o && not (is_read call.request)) ≡ true) none is in cc)
  leads (Some epoch) led is = (epoch, led)

  abbrev Written : Bool → Type 0
  Written b =
      IsCore list elected (cond b (after_write options s call.request) s) settled (unsettled ++ cond b (batch_for s records) [])
      × AllWait (cond b (after_write options s call.request) s).world.log (waiting ++ map (λ write. record { write = write; items = list_items (cond b (batch_for s records) []) }) (cond b (write_of options s client call ∷ []) []))
      × ((cond b (after_write options s call.request) s).world.leading ≡ s.world.leading)

  by_decided : (b : Bool) → decided ≡ b → Written b
  by_decided false is = (core_more list elected settled s unsettled c, waits_both s.world.log waiting [] h tt, refl)
  by_decided true is =
      let led = leads s.world.leading refl is in (
        core_written list elected settled s unsettled (with_heartbeats s.basis (decision options s call.request).heartbeats) c led.0 led.1 records means,
        subst (λ (log : Log). AllWait log (waiting ++ own ∷ [])) (sym (batch_written s.world (as_items records)))
            (waits_both (log_with s.world.log (as_items records)) waiting (own ∷ []) (waits_longer s.world.log (as_items records) waiting h) (own_waits is, tt)),
        (batch_leaves s.world (as_items records)).leading,
      )

  pub asked : IsCore list elected (after_ask options s (asks.Call call)) settled (unsettled ++ batches_for options s (asks.Call call))
      × AllWait (after_ask options s (asks.Call call)).world.log (writes_with options s waiting (events.Request client now (asks.Call call)))
      × ((after_ask options s (asks.Call call)).world.leading ≡ s.world.leading)
  asked = by_decided decided refl
