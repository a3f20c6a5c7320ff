-- What is decided of a write, and what it makes of an engine.
use Rattle.std.proofs.Common.{◌≡◌, ◌∙◌, sym, subst, ℕ, ℤ, pos, negsuc, Bool, true, false, cond, ◌+◌, ◌≤◌, List, [], ◌∷◌, ◌++◌, length, refl, ap, arith}
use Rattle.std.proofs.lemmas.Int.{ints}
use Rattle.std.proofs.lemmas.List.Folds.{find-append}
use Rattle.std.specs.Prelude.{◌==◌, ◌≤ℤ◌, Option, Some, Result, Ok, Err, IfOk, OnOk, IsSome, IsTrue, find, int_lt, unwrap_or}
use Rattle.std.specs.Option.{option_map, option_or}
use Rattle.std.specs.Ordering.{int_eq}
use Rattle.kr_calls.specs.declared.errors.TheConstants.{NOT_CONTROLLER}
use Rattle.kr_calls.specs.declared.calls.Call.{Call}
use Rattle.kr_calls.specs.declared.calls.Reply.{Reply}
use Rattle.kr_calls.specs.declared.calls.Request.{Request}
use Rattle.kr_calls.specs.declared.deciding.Effect.{Effect}
use Rattle.kr_calls.specs.NextBasis.{heartbeats_after, broker_is_stopping}
use Rattle.kr_calls.specs.Refuse.{refuse}
use Rattle.kr_calls.proofs.DecisionMeanings.{requests_stand}
use Rattle.kr_batch.specs.BatchBytes.{batch_bytes}
use Rattle.kr_calls.specs.declared.events.Output.TheVariants as given
use Rattle.kr_calls.specs.Deciding.{apply_records, weights}
use Rattle.kr_defs.specs.declared.basis.Basis.{Basis}
use Rattle.kr_defs.specs.declared.limits.TheConstants.{MOST_RECORDS, PLACES_END}
use Rattle.kr_defs.specs.declared.record.Record.{Record}
use Rattle.kr_defs.specs.Heartbeats.{Heartbeats, is_not_before, stopping_brokers}
use Rattle.kr_defs.specs.Ids.{has}
use Rattle.kr_defs.specs.ImageLaws.{as_items}
use Rattle.kr_defs.specs.Image.{Image, empty}
use Rattle.law_batch_limits.specs.Fitting.{FitsBatch}
use Rattle.law_batch_limits.proofs.FittingRecords.{requests_fit}
use Rattle.kr_store.specs.Images.{AreValid, IsAbove, IsSettled, kept_at, marked}
use Rattle.kr_store.proofs.LastKept.{last_found}
use Rattle.kr_model.specs.Entries.{item_entries}
use Rattle.kr_model.specs.declared.writes.Decided.{Decided}
use Rattle.kr_model.specs.declared.writes.Write.{Write}
use Rattle.kr_model.specs.Engine.{Core, basis_of}
use Rattle.kr_engine.specs.inner.Ready.{IsReady}
use Rattle.kr_engine.specs.inner.Request.{Decides, TakesWrite, core_holding, decided_at, decided_by, image_kept, write_with}
use Rattle.kr_engine.specs.inner.Changes.{BreaksOff, GivesAlone}
use Rattle.kr_engine.specs.inner.Append.{core_after_append, batch_at, place_behind}
use Rattle.kr_engine.proofs.AppendSteps.{writes_by}
use Rattle.kr_engine.proofs.Undoing.{appended_breaks, begun_then, images_break, same_breaks}

-- ---- the engine

pub write_fits : (before after : Core) (request : Request) (out : Effect) → Decides before after request out → FitsBatch out.records
write_fits before after request out d = subst FitsBatch (sym d.records) (requests_fit before.options (basis_of before) before.images.tip before.tip request)

pub write_few : (before after : Core) (request : Request) (out : Effect) → Decides before after request out → length out.records ≤ MOST_RECORDS
write_few before after request out d = (write_fits before after request out d).few

pub write_above : (before after : Core) (request : Request) (out : Effect) → Decides before after request out → IsReady before → (place : ℤ) → IsTrue (int_lt after.tip place) → IsAbove after.images.kept place
write_above before after request out d r place high =
    subst (λ (kept : List (ℤ × Image)). IsAbove kept place) (sym d.kept) (r.above place (sym (ap (λ (a : Core). int_lt a.tip place) d.same) ∙ high))

-- appending leaves the time, the leadership, the writes that wait and the contacts
record Keeps (before after : Core) : Type 0 where
  time : after.time ≡ before.time
  leading : after.leading ≡ before.leading
  held : after.held ≡ before.held
  heard : after.heard ≡ before.heard

append_keeps : (e : Core) (records : List Record) → Keeps e (core_after_append e records)
append_keeps e records =
    elim (length records == 0) as (λ b. Keeps e (cond b e (record e {
      images = marked e.images (place_behind e records);
      tip = place_behind e records;
      given = e.given ++ given.Append (batch_bytes (batch_at e records)) ∷ [];
      fresh = e.fresh ++ item_entries e.tip (as_items records);
    }))) [
      | true ↦ record { time = refl; leading = refl; held = refl; heard = refl }
      | false ↦ record { time = refl; leading = refl; held = refl; heard = refl }
    ]

held_apart : (a b : Core) (held : List Write) (heard : Heartbeats) → a ≡ record b { held = held; heard = heard } → a ≡ record b { held = a.held; heard = a.heard }
held_apart a b held heard is = subst (λ (c : Core). c ≡ record b { held = c.held; heard = c.heard }) (sym is) refl

-- what the rule of a request gives, said clause by clause
pub decides_by : (before after : Core) (request : Request) (out : Effect) → out.records ≡ (decided_by before request).records → out.reply ≡ (decided_by before request).reply
    → after.images.tip ≡ (decided_by before request).image → after.images.kept ≡ before.images.kept
    → after.images.made ≤ before.images.made + weights before.images.tip out.records → after.images.kept_made ≡ before.images.kept_made → after.images.kept_begun ≡ before.images.kept_begun
    → (IsSettled before.images → IsSettled after.images) → after ≡ record before { images = after.images } → Decides before after request out
decides_by before after request out records reply image kept made calls begins settled same = record {
  records = records;
  reply = reply;
  same = same;
  image = image;
  kept = kept;
  made = made;
  calls = calls;
  begins = begins;
  settled = settled;
}

tip_natural : (committed tip : ℤ) → pos 0 ≤ℤ committed → committed ≤ℤ tip → pos 0 ≤ℤ tip
tip_natural (pos m) (pos n) natural rising = omega (arith, ints)
tip_natural (pos m) (negsuc n) natural rising = absurd (omega (arith, ints))
tip_natural (negsuc m) tip natural rising = absurd (omega (arith, ints))

pub ready_natural : (e : Core) → IsReady e → pos 0 ≤ℤ e.tip
ready_natural e r = tip_natural e.committed e.tip r.natural r.rising

pub decides_ok : {E : Type 0} (before after : Core) (request : Request) (r : Result Effect E) → IfOk r (λ (out : Effect). out.records ≡ (decided_by before request).records) → IfOk r (λ (out : Effect). out.reply ≡ (decided_by before request).reply)
    → OnOk r (after.images.tip ≡ (decided_by before request).image) → after.images.kept ≡ before.images.kept
    → IfOk r (λ (out : Effect). after.images.made ≤ before.images.made + weights before.images.tip out.records) → after.images.kept_made ≡ before.images.kept_made
    → after.images.kept_begun ≡ before.images.kept_begun → (IsSettled before.images → IsSettled after.images) → after ≡ record before { images = after.images } → IfOk r (λ (out : Effect). Decides before after request out)
decides_ok before after request (Ok out) records reply image kept made calls begins settled same = decides_by before after request out records reply image kept made calls begins settled same
decides_ok before after request (Err fault) records reply image kept made calls begins settled same = tt

pub ruleset decides = (ready_natural)

pub write_low : (before after : Core) (request : Request) (out : Effect) → Decides before after request out → IsReady before → after.tip ≤ℤ PLACES_END
write_low before after request out d r = subst (λ t. t ≤ℤ PLACES_END) (sym (ap (λ (a : Core). a.tip) d.same)) r.low

-- ---- the image below a write's records

abbrev at_place : ℤ → ℤ × Image → Bool
at_place place k = int_eq k.0 place

found_in : (kept more : List (ℤ × Image)) (place : ℤ) (image : Image) → find (at_place place) kept ≡ Some (place, image) → find (at_place place) (kept ++ more) ≡ Some (place, image)
found_in kept more place image is = find-append (at_place place) kept more ∙ ap (λ (o : Option (ℤ × Image)). option_or o (find (at_place place) more)) is

-- also behind its records
found_behind : (between : Core) (records : List Record) (place : ℤ) (image : Image) → find (at_place place) between.images.kept ≡ Some (place, image)
    → find (at_place place) (core_after_append between records).images.kept ≡ Some (place, image)
found_behind between records place image is =
    elim (length records == 0) as (λ b. find (at_place place) (cond b between (record between {
      images = marked between.images (place_behind between records);
      tip = place_behind between records;
      given = between.given ++ given.Append (batch_bytes (batch_at between records)) ∷ [];
      fresh = between.fresh ++ item_entries between.tip (as_items records);
    })).images.kept ≡ Some (place, image)) [
      | true ↦ is
      | false ↦ found_in between.images.kept ((place_behind between records, between.images.tip) ∷ []) place image is
    ]

same_tip : (between : Core) (records : List Record) → (core_after_append between records).images.tip ≡ between.images.tip
same_tip between records =
    elim (length records == 0) as (λ b. (cond b between (record between {
      images = marked between.images (place_behind between records);
      tip = place_behind between records;
      given = between.given ++ given.Append (batch_bytes (batch_at between records)) ∷ [];
      fresh = between.fresh ++ item_entries between.tip (as_items records);
    })).images.tip ≡ between.images.tip) [
      | true ↦ refl
      | false ↦ refl
    ]

-- the tip at which a write is decided, under another name
pub decided_there : (decided : Decided) (tip place : ℤ) (count : ℕ) (basis : Basis) → decided ≡ record { place = tip; count = count; basis = basis } → tip ≡ place → decided ≡ record { place = place; count = count; basis = basis }
decided_there decided tip place count basis is same = subst (λ (p : ℤ). decided ≡ record { place = p; count = count; basis = basis }) same is

module _ (before between with_appended' : Core) (call : Call) (out : Effect) (r : IsReady before) (valid : AreValid before.images) (d : Decides before between call.request out) (is : with_appended' ≡ core_after_append between out.records) where
  image_below : kept_at with_appended'.images before.tip ≡ Some before.images.tip
  image_below =
      ap (λ (e : Core). kept_at e.images before.tip) is
      ∙ ap (option_map (λ (k : ℤ × Image). k.1))
      (found_behind between out.records before.tip before.images.tip
      (ap (find (at_place before.tip)) d.kept ∙ last_found before.images.kept (before.tip, before.images.tip) valid.rising r.last))

  same_place : (decided : Decided) (basis : Basis) → decided ≡ record { place = between.tip; count = length out.records; basis = basis } → decided.place ≡ before.tip
  same_place decided basis at = ap (λ (x : Decided). x.place) at ∙ ap (λ (e : Core). e.tip) d.same

  seen_below : (decided : Decided) (basis : Basis) → decided ≡ record { place = between.tip; count = length out.records; basis = basis } → kept_at with_appended'.images decided.place ≡ Some before.images.tip
  seen_below decided basis at = ap (kept_at with_appended'.images) (same_place decided basis at) ∙ image_below

  pub image_there : (decided : Decided) (basis : Basis) → decided ≡ record { place = between.tip; count = length out.records; basis = basis } → IsSome (kept_at with_appended'.images decided.place)
  image_there decided basis at = subst (λ (o : Option Image). IsSome o) (sym (seen_below decided basis at)) refl

  same_heard : with_appended'.heard ≡ before.heard
  same_heard = ap (λ (e : Core). e.heard) is ∙ ((append_keeps between out.records).heard ∙ ap (λ (e : Core). e.heard) d.same)

  same_time : with_appended'.time ≡ before.time
  same_time = ap (λ (e : Core). e.time) is ∙ ((append_keeps between out.records).time ∙ ap (λ (e : Core). e.time) d.same)

  pub heard_in_time : IsTrue (is_not_before with_appended'.heard with_appended'.time)
  heard_in_time = ap (λ h. is_not_before h with_appended'.time) same_heard ∙ (ap (is_not_before before.heard) same_time ∙ r.in_time)

  pub stopping_below : (decided : Decided) (basis : Basis) → decided ≡ record { place = between.tip; count = length out.records; basis = basis } → (id : ℤ)
      → IsTrue (has (stopping_brokers with_appended'.heard) id) → IsTrue (broker_is_stopping (image_kept with_appended'.images decided.place) id)
  stopping_below decided basis at id there =
      ap (λ (o : Option Image). broker_is_stopping (unwrap_or o empty) id) (seen_below decided basis at) ∙ r.among id (ap (λ h. has (stopping_brokers h) id) (sym same_heard) ∙ there)

  -- whom is heard of behind the records
  heard_behind : (decided : Decided) (basis : Basis) → decided ≡ record { place = between.tip; count = length out.records; basis = basis }
      → heartbeats_after with_appended'.heard (image_kept with_appended'.images decided.place) with_appended'.images.tip with_appended'.time decided.place call.request out.reply ≡ (decided_by before call.request).heartbeats
  heard_behind decided basis at =
      ap (λ (o : Option Image). heartbeats_after with_appended'.heard (unwrap_or o empty) with_appended'.images.tip with_appended'.time decided.place call.request out.reply) (seen_below decided basis at)
      ∙ (ap (λ h. heartbeats_after h before.images.tip with_appended'.images.tip with_appended'.time decided.place call.request out.reply) same_heard
      ∙ (ap (λ (i : Image). heartbeats_after before.heard before.images.tip i with_appended'.time decided.place call.request out.reply) (ap (λ (e : Core). e.images.tip) is ∙ (same_tip between out.records ∙ d.image))
      ∙ (ap (λ t. heartbeats_after before.heard before.images.tip (decided_by before call.request).image t decided.place call.request out.reply) same_time
      ∙ (ap (λ p. heartbeats_after before.heard before.images.tip (decided_by before call.request).image before.time p call.request out.reply) (same_place decided basis at)
      ∙ ap (heartbeats_after before.heard before.images.tip (decided_by before call.request).image before.time before.tip call.request) d.reply))))

module _ (before between with_appended' after : Core) (client : ℕ) (call : Call) (out : Effect) (refusal : Reply) (r : IsReady before) (valid : AreValid before.images) (d : Decides before between call.request out) (is : with_appended' ≡ core_after_append between out.records) where
  leading_same : with_appended'.leading ≡ before.leading
  leading_same = ap (λ (a : Core). a.leading) is ∙ ((append_keeps between out.records).leading ∙ ap (λ (a : Core). a.leading) d.same)

  held_same : with_appended'.held ≡ before.held
  held_same = ap (λ (a : Core). a.held) is ∙ ((append_keeps between out.records).held ∙ ap (λ (a : Core). a.held) d.same)

  abbrev write_of : Option ℤ → ℤ → Reply → Reply → Decided → Write
  write_of leading need reply refusal decided = write_with client call leading need reply refusal decided

  abbrev at : ℤ → List Record → Basis → Decided
  at place records basis = record { place = place; count = length records; basis = basis }

  decided_so : (decided : Decided) (basis : Basis) → basis ≡ basis_of before → decided ≡ at between.tip out.records basis → decided ≡ decided_at before call.request
  decided_so decided basis basis_is is =
      is
      ∙ (ap (λ t. at t out.records basis) (ap (λ (a : Core). a.tip) d.same)
      ∙ (ap (λ rs. at before.tip rs basis) d.records
      ∙ ap (at before.tip (decided_by before call.request).records) basis_is))

  pub takes_write : (decided : Decided) (basis : Basis) → refusal ≡ refuse call.request NOT_CONTROLLER → basis ≡ basis_of before → decided ≡ record { place = between.tip; count = length out.records; basis = basis }
      → after ≡ core_holding with_appended' client call out.reply refusal decided → TakesWrite before after client call
  takes_write decided basis refuses basis_is decided_is held =
      let records = (decided_by before call.request).records in
      let fits = requests_fit before.options (basis_of before) before.images.tip before.tip call.request in
      record {
        writes = writes_by before between after records
            (d.same ∙ ap (λ h. record before { images = between.images; heard = h }) (sym (ap (λ (b : Core). b.heard) d.same)))
            d.kept
            (subst (λ rs. between.images.made ≤ before.images.made + weights before.images.tip rs) d.records d.made)
            d.calls
            d.begins
            d.settled
            (subst (λ i. apply_records before.images.tip records ≡ Ok i) (sym d.image) (requests_stand before.options before.time before.heard before.images.tip before.tip call.request))
            fits.few
            (held_apart after with_appended' _ _ held ∙ ap (λ (a : Core). record a { held = after.held; heard = after.heard }) (is ∙ ap (core_after_append between) d.records));
        heard = ap (λ (a : Core). a.heard) held ∙ heard_behind before between with_appended' call out r valid d is decided basis decided_is;
        held =
            ap (λ (a : Core). a.held) held
            ∙ (ap (λ hs. hs ++ write_of with_appended'.leading with_appended'.tip out.reply refusal decided ∷ []) held_same
            ∙ (ap (λ l. before.held ++ write_of l with_appended'.tip out.reply refusal decided ∷ []) leading_same
            ∙ (ap (λ r. before.held ++ write_of before.leading with_appended'.tip r refusal decided ∷ []) d.reply
            ∙ (ap (λ r. before.held ++ write_of before.leading with_appended'.tip (decided_by before call.request).reply r decided ∷ []) refuses
            ∙ (ap (λ (x : Decided). before.held ++ write_of before.leading with_appended'.tip (decided_by before call.request).reply (refuse call.request NOT_CONTROLLER) x ∷ []) (decided_so decided basis basis_is decided_is)
            ∙ ap (λ t. before.held ++ write_of before.leading t (decided_by before call.request).reply (refuse call.request NOT_CONTROLLER) (decided_at before call.request) ∷ []) (sym (ap (λ (a : Core). a.tip) held)))))));
      }

-- ---- where memory is wanted

pub decided_breaks : (before between : Core) (request : Request) (out : Effect) → Decides before between request out → BreaksOff before between
decided_breaks before between request out d = images_break before between d.same d.kept d.calls d.begins

pub append_breaks : (before between after : Core) (request : Request) (out : Effect) → Decides before between request out → GivesAlone between after → BreaksOff before after
append_breaks before between after request out d is = begun_then before between after (decided_breaks before between request out d) is

pub holding_breaks : (before between with_appended' after : Core) (request : Request) (out : Effect) → Decides before between request out → with_appended' ≡ core_after_append between out.records → after ≡ with_appended' → BreaksOff before after
holding_breaks before between with_appended' after request out d is same =
    appended_breaks before between after out.records (decided_breaks before between request out d) (ap (λ (e : Core). e.tip) d.same) (same ∙ is)

pub ruleset takes = (write_fits, write_few, write_above, write_low, takes_write, image_there, heard_in_time, stopping_below, append_breaks, holding_breaks, same_breaks)
