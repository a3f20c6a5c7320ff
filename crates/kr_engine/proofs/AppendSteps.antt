-- What a leader's records make of an engine.
use Rattle.std.proofs.Common.{◌≡◌, ◌∙◌, sym, subst, ℕ, ℤ, pos, Bool, true, false, cond, ◌+◌, ◌≤◌, ◌<◌, List, [], ◌∷◌, ◌++◌, map, length, refl, ap, arith, All}
use Rattle.std.proofs.Math.IntN.{+ℤ_idr}
use Rattle.std.proofs.lemmas.List.{append-nil, length-map}
use Rattle.std.specs.Prelude.{◌+ℤ◌, ◌==◌, Option, None, Result, Ok, filter, int_le, unsigned_abs, IsSome}
use Rattle.std.specs.List.{AllByRecursion, list_all}
use Rattle.kr_batch.specs.BatchBytes.{batch_bytes}
use Rattle.kr_calls.specs.declared.events.Output.TheVariants as given
use Rattle.kr_calls.specs.Deciding.{apply_records, weights}
use Rattle.kr_defs.specs.declared.basis.Basis.{Basis}
use Rattle.kr_defs.specs.declared.ill.Ill.{Ill}
use Rattle.kr_defs.specs.declared.limits.TheConstants.{PLACES_END}
use Rattle.kr_defs.specs.declared.record.Item.{Item}
use Rattle.kr_defs.specs.declared.record.Item.TheVariants as items
use Rattle.kr_defs.specs.declared.record.Record.{Record}
use Rattle.kr_defs.specs.Heartbeats as hearing
use Rattle.kr_defs.specs.Heartbeats.{Heartbeats}
use Rattle.kr_defs.specs.Image.{Image, IsValid}
use Rattle.kr_defs.specs.ImageLaws.{as_items}
use Rattle.kr_defs.specs.Log.{Log, apply_all, image_at, open_at, tip}
use Rattle.law_safety.specs.HearingLaws.{HearsOf}
use Rattle.kr_store.specs.Images.{Images, IsSettled, begun_under, marked, tip_state}
use Rattle.kr_model.specs.declared.writes.Write.{Write}
use Rattle.kr_model.specs.Engine.{Core, IsEngine, Rise, writes_in_order, kept_begin, kept_image, kept_places}
use Rattle.kr_model.specs.Entries.{item_entries}
use Rattle.kr_model.specs.Outputs.{is_open}
use Rattle.kr_model.specs.World.{State, World, closed_of, image_of_tip, tip_of, with_records, log_with}
use Rattle.kr_model.specs.Weights.{IsWeighed, weight_settled}
use Rattle.kr_engine.specs.inner.Append.{CallsAreCounted, Writes, core_after_append, batch_at, place_behind}
use Rattle.kr_model.proofs.KeptImages.{not_higher}
use Rattle.kr_model.proofs.LongerLogs.{rise_more}
use Rattle.kr_model.proofs.LogEntries.{batch_written, not_none}
use Rattle.kr_model.proofs.Logs.{as_records, open_still, tip_written}
use Rattle.kr_model.proofs.Queues.{never}
use Rattle.kr_engine.proofs.KeptPlaces.{last_added}
use Rattle.kr_engine.proofs.KeptStates.{Keeps, engine_keeps, keeps_state, place_of, records_kept, tip_kept}
use Rattle.kr_engine.proofs.LongerWorlds.{BegunBelow, begins_so, begun_more, closed_same, kept_so, none_below, settled_so, still_begun, weighed_so, world_with}
use Rattle.kr_engine.proofs.ReadyEngines.{settled_leader}

-- ---- the engine

-- below the records, with other images and contacts
abbrev between : Core → Images → Heartbeats → Core
between e images heard = record e { images = images; heard = heard }

abbrev behind : Core → List Write → Heartbeats → Core
behind e held heard = record e { held = held; heard = heard }

none_written : (e : Core) (images : Images) (heard heard' : Heartbeats) (held : List Write) → images.kept ≡ e.images.kept → images.made ≤ e.images.made + weights e.images.tip [] → images.kept_made ≡ e.images.kept_made
    → images.kept_begun ≡ e.images.kept_begun → (IsSettled e.images → IsSettled images) → apply_records e.images.tip [] ≡ Ok images.tip → Writes e (behind (core_after_append (between e images heard) []) held heard') []
none_written e images heard heard' held kept made calls begins settled meaning = record {
  meaning = meaning;
  kept = kept;
  begins = begins;
  settled = settled;
  counted = (omega (arith, made), calls);
  few = omega arith;
  same =
      ap (λ t. record e { images = images; heard = heard'; held = held; tip = t }) (sym (+ℤ_idr e.tip))
      ∙ (ap (λ g. record e { images = images; heard = heard'; held = held; tip = e.tip +ℤ pos 0; given = g }) (sym (append-nil e.given))
      ∙ ap (λ f. record e { images = images; heard = heard'; held = held; tip = e.tip +ℤ pos 0; given = e.given ++ []; fresh = f }) (sym (append-nil e.fresh)));
}

module _ (e : Core) (images : Images) (heard heard' : Heartbeats) (held : List Write) (r : Record) (records : List Record) where
  abbrev all : List Record
  all = r ∷ records

  abbrev after_by : Bool → Core
  after_by b = behind (cond b (between e images heard) (record (between e images heard) {
    images = marked images (place_behind e all);
    tip = place_behind e all;
    given = e.given ++ given.Append (batch_bytes (batch_at e all)) ∷ [];
    fresh = e.fresh ++ item_entries e.tip (as_items all);
  })) held heard'

  settled_behind : IsSettled images → IsSettled (marked images (place_behind e all))
  settled_behind s = record { tip = s.tip; last = ap begun_under (last_added images.kept_begun (place_behind e all, images.begun)) ∙ s.tip }

  some_written : images.kept ≡ e.images.kept → images.made ≤ e.images.made + weights e.images.tip all → images.kept_made ≡ e.images.kept_made → images.kept_begun ≡ e.images.kept_begun → (IsSettled e.images → IsSettled images)
      → apply_records e.images.tip all ≡ Ok images.tip → length all ≤ 10000
      → Writes e (behind (core_after_append (between e images heard) all) held heard') all
  some_written kept made calls begins settled meaning few =
      let has = sym (not_none (length records)) in record {
        meaning = subst (λ b. apply_records e.images.tip all ≡ Ok (after_by b).images.tip) has meaning;
        kept = subst (λ b. (after_by b).images.kept ≡ cond b e.images.kept (e.images.kept ++ (place_behind e all, (after_by b).images.tip) ∷ [])) has
            (ap (λ (kept : List (ℤ × Image)). kept ++ (place_behind e all, images.tip) ∷ []) kept);
        begins = subst (λ b. (after_by b).images.kept_begun ≡ cond b e.images.kept_begun (e.images.kept_begun ++ (place_behind e all, (after_by b).images.begun) ∷ [])) has
            (ap (λ (bs : List (ℤ × Option ℤ)). bs ++ (place_behind e all, images.begun) ∷ []) begins);
        settled = λ before. subst (λ b. IsSettled (after_by b).images) has (settled_behind (settled before));
        counted = subst (λ b. CallsAreCounted e.images (after_by b).images (place_behind e all) all) has
            (refl, (images.made, made, ap (λ (ms : List (ℤ × ℕ)). ms ++ (place_behind e all, images.made) ∷ []) calls));
        few = few;
        same = subst (λ b. after_by b ≡ record e {
          images = (after_by b).images;
          tip = place_behind e all;
          given = e.given ++ cond b [] (given.Append (batch_bytes (batch_at e all)) ∷ []);
          fresh = e.fresh ++ item_entries e.tip (as_items all);
          heard = (after_by b).heard;
          held = (after_by b).held;
        }) has refl;
      }

pub writes_by : (e between' after : Core) (records : List Record) → between' ≡ record e { images = between'.images; heard = between'.heard } → between'.images.kept ≡ e.images.kept
    → between'.images.made ≤ e.images.made + weights e.images.tip records → between'.images.kept_made ≡ e.images.kept_made
    → between'.images.kept_begun ≡ e.images.kept_begun → (IsSettled e.images → IsSettled between'.images) → apply_records e.images.tip records ≡ Ok between'.images.tip → length records ≤ 10000
    → after ≡ record (core_after_append between' records) { held = after.held; heard = after.heard } → Writes e after records
writes_by e between' after [] same kept made calls begins settled meaning few is =
    subst (λ (a : Core). Writes e a []) (sym (is ∙ ap (λ (b : Core). record (core_after_append b []) { held = after.held; heard = after.heard }) same))
    (none_written e between'.images between'.heard after.heard after.held kept made calls begins settled meaning)
writes_by e between' after (r ∷ records) same kept made calls begins settled meaning few is =
    subst (λ (a : Core). Writes e a (r ∷ records)) (sym (is ∙ ap (λ (b : Core). record (core_after_append b (r ∷ records)) { held = after.held; heard = after.heard }) same))
    (some_written e between'.images between'.heard after.heard after.held r records kept made calls begins settled meaning few)

-- ---- the state

-- what a world has of the records that an engine has written
pub record HasWritten (after : Core) (s : State) (v : World) (count : ℕ) : Type 0 where
  pub tip_is : after.tip ≡ pos (tip v.log)
  pub start : v.log.offset ≤ s.world.committed
  pub committed_is : v.committed ≡ s.world.committed
  pub closed_is : closed_of v ≡ closed_of s.world
  pub leading_is : v.leading ≡ s.world.leading
  pub greatest_is : v.greatest ≡ s.world.greatest
  pub count_of : v.count ≡ s.world.count
  pub present : image_at v.log (tip v.log) ≡ Ok after.images.tip
  pub decided : open_at v.log (tip v.log) ≡ None
  pub begun : after.images.begun ≡ place_of (open_at v.log (tip v.log))
  pub kept : after.images.kept ≡ map (kept_image v.log) (kept_places v)
  pub kept_begun : after.images.kept_begun ≡ map (kept_begin v.log) (kept_places v)
  pub weighed : IsWeighed after.images v.log (closed_of v) (weight_settled v.log v.committed) (v.covered ++ v.batch_ends)
  pub settled : Rise (closed_of v) v.covered v.committed
  pub ends : Rise v.committed v.batch_ends (tip v.log)
  pub begins : AllByRecursion (BegunBelow v.log v.committed) v.batch_ends
  pub higher : tip v.log ≡ tip_of s + count

abbrev pub IsLonger : Core → State → List Record → Type 0
IsLonger after s records = HasWritten after s (with_records s.world records) (length records)

pub ok_is : (image after : Image) → apply_records image [] ≡ Ok after → after ≡ image
ok_is image after is = ap (λ (r : Result Image Ill). Rattle.std.specs.Result.result_unwrap_or r image) (sym is)

same_images : (a b : Images) → a.kept ≡ b.kept → a.made ≡ b.made → a.kept_made ≡ b.kept_made → a.kept_begun ≡ b.kept_begun → a.tip ≡ b.tip → a.begun ≡ b.begun → a ≡ b
same_images a b kept made calls begins tip begun =
    ap (λ (k : List (ℤ × Image)). record a { kept = k }) kept
    ∙ (ap (λ n. record a { kept = b.kept; made = n }) made
    ∙ (ap (λ (ms : List (ℤ × ℕ)). record a { kept = b.kept; made = b.made; kept_made = ms }) calls
    ∙ (ap (λ (bs : List (ℤ × Option ℤ)). record a { kept = b.kept; made = b.made; kept_made = b.kept_made; kept_begun = bs }) begins
    ∙ (ap (λ (i : Image). record a { kept = b.kept; made = b.made; kept_made = b.kept_made; kept_begun = b.kept_begun; tip = i }) tip
    ∙ ap (λ (o : Option ℤ). record a { kept = b.kept; made = b.made; kept_made = b.kept_made; kept_begun = b.kept_begun; tip = b.tip; begun = o }) begun))))

module _ (e after : Core) (s : State) (writes : List Write) (k : IsEngine e s writes) (leads : IsSome s.world.leading) where
  none_open : open_at s.world.log (tip_of s) ≡ None
  none_open = k.is_state.decided leads

  -- nothing is open behind the records
  none_begun : (records : List Record) → Writes e after records → after.images.begun ≡ None
  none_begun records w = (w.settled (settled_leader e s writes k leads)).tip

  none_longer : Writes e after [] → IsLonger after s []
  none_longer w = record {
    tip_is = ap (λ (a : Core). a.tip) w.same ∙ (+ℤ_idr e.tip ∙ k.tip);
    start = k.is_state.started;
    committed_is = refl;
    closed_is = refl;
    leading_is = refl;
    greatest_is = refl;
    count_of = refl;
    present = k.present ∙ ap (λ i. ok i) (sym (ok_is e.images.tip after.images.tip w.meaning));
    decided = none_open;
    begun = none_begun [] w ∙ ap place_of (sym none_open);
    kept = w.kept ∙ k.kept;
    kept_begun = w.begins ∙ k.kept_begun;
    weighed = record {
      unmade = (let few = w.counted.0 in let none = k.weighed.unmade in omega (arith, few, none));
      rest = k.weighed.rest;
      counted = w.counted.1 ∙ k.weighed.counted;
      each = k.weighed.each;
    };
    settled = k.is_state.settled;
    ends = k.is_state.ends;
    begins = k.is_state.begun;
    higher = omega arith;
  }
    where
      ok : Image → Result Image Ill
      ok i = Ok i

  module _ (r : Record) (records : List Record) (w : Writes e after (r ∷ records)) where
    abbrev own : List Item
    own = as_items (r ∷ records)

    abbrev longer : Log
    longer = log_with s.world.log own

    abbrev n : ℕ
    n = tip_of s + length own

    abbrev world_by : Bool → World
    world_by b = cond b s.world (world_with s.world own (n ∷ []))

    count_is : length own ≡ length (r ∷ records)
    count_is = length-map (r ∷ records) (λ (r : Record). items.Record r)

    means : apply_all e.images.tip own ≡ Ok after.images.tip
    means = as_records e.images.tip (r ∷ records) ∙ w.meaning

    new_tip : n ≡ tip longer
    new_tip = sym (tip_written s.world.log own)

    place_is : place_behind e (r ∷ records) ≡ pos (tip longer)
    place_is = ap (λ t. t +ℤ pos (length (r ∷ records))) k.tip ∙ (ap (λ m. pos (tip_of s + m)) (sym count_is) ∙ ap pos new_tip)

    abbrev counts : ℕ
    counts = w.counted.1.0

    -- the images behind the records, before they are kept
    abbrev unkept : Images
    unkept = record after.images { kept = e.images.kept; made = counts; kept_made = e.images.kept_made; kept_begun = e.images.kept_begun }

    low : s.world.committed ≤ tip_of s
    low = not_higher s.world.committed s.world.batch_ends (tip_of s) k.is_state.ends

    unkept_keeps : Keeps unkept longer (closed_of s.world) (weight_settled s.world.log s.world.committed) (s.world.covered ++ s.world.batch_ends) (tip_of s)
    unkept_keeps =
        records_kept e.images unkept s.world.log (closed_of s.world) (weight_settled s.world.log s.world.committed) (s.world.covered ++ s.world.batch_ends) (tip_of s) (r ∷ records)
        (engine_keeps e s writes k) none_open w.meaning refl refl refl (none_begun (r ∷ records) w) w.counted.1.1

    not_empty : (length (r ∷ records) == 0) ≡ false
    not_empty = not_none (length records)

    is_marked : after.images ≡ marked unkept (pos (tip longer))
    is_marked =
        same_images after.images (marked unkept (pos (tip longer)))
        (w.kept ∙ (ap (λ b. cond b e.images.kept (e.images.kept ++ (place_behind e (r ∷ records), after.images.tip) ∷ [])) not_empty ∙ ap (λ z. e.images.kept ++ (z, after.images.tip) ∷ []) place_is))
        w.counted.0
        (w.counted.1.2 ∙ ap (λ z. e.images.kept_made ++ (z, counts) ∷ []) place_is)
        (w.begins ∙ (ap (λ b. cond b e.images.kept_begun (e.images.kept_begun ++ (place_behind e (r ∷ records), after.images.begun) ∷ [])) not_empty ∙ ap (λ z. e.images.kept_begun ++ (z, after.images.begun) ∷ []) place_is))
        refl refl

    some : tip_of s < tip longer
    some = let count = count_is in let end = new_tip in omega (arith, count, end)

    keeps : Keeps after.images longer (closed_of s.world) (weight_settled s.world.log s.world.committed) ((s.world.covered ++ s.world.batch_ends) ++ n ∷ []) (tip longer)
    keeps =
        subst (λ m. Keeps after.images longer (closed_of s.world) (weight_settled s.world.log s.world.committed) ((s.world.covered ++ s.world.batch_ends) ++ m ∷ []) (tip longer)) (sym new_tip)
        (tip_kept unkept after.images longer (closed_of s.world) (weight_settled s.world.log s.world.committed) (s.world.covered ++ s.world.batch_ends) (tip_of s) unkept_keeps some is_marked)

    decided_then : open_at longer (tip longer) ≡ None
    decided_then = open_still s.world.log own (tip_state e.images) after.images.tip (keeps_state e.images s.world.log (closed_of s.world) (weight_settled s.world.log s.world.committed) (s.world.covered ++ s.world.batch_ends) (tip_of s) (engine_keeps e s writes k)) means ∙ none_open

    longer_so : HasWritten after s (world_by false) (length (r ∷ records))
    longer_so = record {
      tip_is = ap (λ (a : Core). a.tip) w.same ∙ place_is;
      start = k.is_state.started;
      committed_is = refl;
      closed_is = closed_same s.world own (n ∷ []) after.images e.images.tip (tip longer) k.present low keeps;
      leading_is = refl;
      greatest_is = refl;
      count_of = refl;
      present = keeps.present;
      decided = decided_then;
      begun = keeps.begun;
      kept = kept_so s.world own (n ∷ []) after.images e.images.tip (tip longer) k.present low keeps;
      kept_begun = begins_so s.world own (n ∷ []) after.images e.images.tip (tip longer) k.present low keeps;
      weighed = weighed_so s.world own (n ∷ []) after.images e.images.tip (tip longer) k.present low keeps w.counted.0;
      settled = settled_so s.world own (n ∷ []) after.images e.images.tip (tip longer) k.present low keeps k.is_state.settled;
      ends = subst (Rise s.world.committed (s.world.batch_ends ++ n ∷ [])) new_tip
          (rise_more s.world.committed s.world.batch_ends (tip_of s) n k.is_state.ends (let count = count_is in omega (arith, count)));
      begins = begun_more (BegunBelow longer s.world.committed) s.world.batch_ends n (still_begun s.world.log own s.world.committed s.world.batch_ends s.world.committed k.is_state.ends k.is_state.begun)
          (none_below longer s.world.committed n (ap (open_at longer) new_tip ∙ decided_then));
      higher = sym new_tip ∙ ap (λ m. tip_of s + m) count_is;
    }

    some_longer : IsLonger after s (r ∷ records)
    some_longer = subst (λ b. HasWritten after s (world_by b) (length (r ∷ records))) (sym (ap (λ m. m == 0) count_is ∙ not_none (length records))) longer_so

  pub longer_by : (records : List Record) → Writes e after records → IsLonger after s records
  longer_by [] w = none_longer w
  longer_by (r ∷ records) w = some_longer r records w

-- ---- an engine behind the records

still_leads : (leading before : Option ℤ) → leading ≡ before → IsSome before → leading ≡ None → ⊥
still_leads leading before same some none = never (subst (λ (l : Option ℤ). IsSome l) (sym same ∙ none) some)

module _ (e after : Core) (s : State) (writes then : List Write) (k : IsEngine e s writes) (records : List Record) (w : Writes e after records) (basis : Basis) where
  abbrev state_behind : State
  state_behind = record { world = with_records s.world records; basis = basis }

  pub same_seen : IsSome s.world.leading → image_of_tip state_behind ≡ after.images.tip
  same_seen leads = ap (λ r. Rattle.std.specs.Result.result_unwrap_or r Rattle.kr_defs.specs.Image.empty) (longer_by e after s writes k leads records w).present

  pub engine_behind : basis.time ≡ s.basis.time → basis.led ≡ s.basis.led → after.heard ≡ hearing.heard basis
      → tip_of s + length records ≤ unsigned_abs PLACES_END
      → IsSome s.world.leading
      → HearsOf (hearing.heard basis) after.images.tip
      → list_all (λ c. int_le c.time s.basis.time) basis.contacts ≡ true
      → filter (is_open after.leading after.closed) after.held ≡ then
      → writes_in_order after.held ≡ true
      → All (λ write. int_le write.need (pos (tip_of s + length records)) ≡ true) then
      → IsEngine after state_behind then
  engine_behind same_time same_led heard low leads hears in_time waits ordered reached =
      let l = longer_by e after s writes k leads records w in
      let same = w.same in record {
        tip = l.tip_is;
        committed = ap (λ (a : Core). a.committed) same ∙ (k.committed ∙ ap pos (sym l.committed_is));
        closed = ap (λ (a : Core). a.closed) same ∙ (k.closed ∙ ap pos (sym l.closed_is));
        leading = ap (λ (a : Core). a.leading) same ∙ (k.leading ∙ sym l.leading_is);
        greatest = ap (λ (a : Core). a.greatest) same ∙ (k.greatest ∙ sym l.greatest_is);
        count = ap (λ (a : Core). a.count) same ∙ (k.count ∙ sym l.count_of);
        time = ap (λ (a : Core). a.time) same ∙ (k.time ∙ sym same_time);
        led = ap (λ (a : Core). a.led) same ∙ (k.led ∙ sym same_led);
        heard_of = heard;
        present = l.present;
        kept = l.kept;
        begun = l.begun;
        kept_begun = l.kept_begun;
        weighed = l.weighed;
        waits = waits;
        ordered = ordered;
        is_state = record {
          valid = subst (λ (log : Log). IsValid log.image) (sym (batch_written s.world (as_items records))) k.is_state.valid;
          started = subst (λ c. (with_records s.world records).log.offset ≤ c) (sym l.committed_is) l.start;
          settled = l.settled;
          ends = l.ends;
          begun = l.begins;
          low = subst (λ n. n ≤ unsigned_abs PLACES_END) (sym l.higher) low;
          at_standby = λ none. absurd (still_leads (with_records s.world records).leading s.world.leading l.leading_is leads none);
          decided = λ some. l.decided;
          hears = λ some. subst (HearsOf (hearing.heard basis)) (sym (same_seen leads)) hears;
          in_time = subst (λ t. list_all (λ c. int_le c.time t) basis.contacts ≡ true) (sym same_time) in_time;
          natural = subst (λ t. int_le (pos 0) t ≡ true) (sym same_time) k.is_state.natural;
          reached = subst (λ n. All (λ write. int_le write.need (pos n) ≡ true) then) (sym l.higher) reached;
        };
      }
