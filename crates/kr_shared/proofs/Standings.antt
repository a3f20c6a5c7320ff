-- A worker that stands for a state serves an event, and stands for the next one.
use Rattle.std.proofs.Common.{◌≡◌, ◌∙◌, sym, subst, ℕ, ℤ, pos, Bool, true, false, cond, ◌+◌, ◌-◌, ◌≤◌, ◌<◌, List, [], ◌∷◌, ◌++◌, length, refl, ap, arith, inl, inr}
use Rattle.std.specs.Prelude.{◌⊎◌, ◌&&◌, Option, Some, None, is_some, not, filter, unsigned_abs, unwrap_or, Ok}
use Rattle.std.proofs.lemmas.List.{append-nil}
use Rattle.kr_calls.specs.declared.events.Entry.{Entry}
use Rattle.kr_calls.specs.declared.events.Event.{Event}
use Rattle.kr_calls.specs.declared.events.Entry.TheVariants as entries
use Rattle.kr_calls.specs.Deciding.{apply_records}
use Rattle.kr_calls.specs.SeatList.{is_below, item_entries}
use Rattle.kr_defs.specs.declared.limits.TheConstants.{PLACES_END}
use Rattle.kr_defs.specs.declared.options.Options.{Options}
use Rattle.kr_defs.specs.Image.{Image, IsValid, empty}
use Rattle.kr_defs.specs.ImageLaws.{as_items}
use Rattle.kr_defs.specs.Log.{Log, closed_end_at, image_at, tip}
use Rattle.kr_defs.specs.Records.{records_of}
use Rattle.kr_view.specs.Staged.{staged_below}
use Rattle.kr_model.specs.declared.writes.Told.{Told}
use Rattle.kr_model.specs.declared.writes.Write.{Write}
use Rattle.kr_model.specs.Engine.{Core, IsEngine, Rise}
use Rattle.kr_model.specs.Entries.{items_from, log_entries}
use Rattle.kr_model.specs.Events.{happens}
use Rattle.kr_model.specs.Lost.{cut}
use Rattle.kr_model.specs.Outputs.{waiting_after}
use Rattle.kr_model.specs.World.{World, closed_of, log_with}
use Rattle.kr_model.proofs.DueWrites.{event_goes}
use Rattle.kr_model.proofs.KeptImages.{not_higher}
use Rattle.kr_model.proofs.Logs.{closed_cut_below, none_open_at_start}
use Rattle.kr_model.proofs.StandingEngines.{tip_only}
use Rattle.law_published_log.specs.Following.{Shows}
use Rattle.law_published_log.specs.FollowingLaws.{log_from}
use Rattle.law_published_log.proofs.Evolving.{Evolved, Loaded, Longer, Shorter, evolves}
use Rattle.kr_shared.specs.Standing.{Standing}
use Rattle.kr_shared.specs.Takes.{TakesEvent}
use Rattle.kr_shared.specs.Works.{added_after, cut_if}
use Rattle.kr_shared.proofs.Published.{Publishes, left_is, load_publishes, longer_publishes, nothing_below, shorter_publishes}

-- ---- what is added, by how the log went on

abbrev pub lost_by : Option ℤ → Option ℤ → Bool
lost_by before after = is_some before && not (is_some after)

not_lost : (before after : Bool) → (before ≡ true → after ≡ true) → (before && not after) ≡ false
not_lost true after led = ap not (led refl)
not_lost false after led = refl

-- the facts of a log at rest, and of the one after the event
pub record Rests (w after : World) : Type 0 where
  pub started : w.log.offset ≤ closed_of w
  pub low : closed_of w ≤ tip w.log
  pub committed : closed_of w ≤ w.committed
  pub rises : closed_of w ≤ closed_of after
  pub within : closed_of after ≤ tip after.log
  pub few : tip after.log ≤ unsigned_abs PLACES_END
  pub few_before : tip w.log ≤ unsigned_abs PLACES_END
  pub image : Image
  pub means : image_at after.log (tip after.log) ≡ Ok image
  pub before : Image
  pub meant : image_at w.log (tip w.log) ≡ Ok before
  pub at_standby : w.leading ≡ None → tip w.log ≡ w.committed

module _ (w after : World) (list fresh : List Entry) (f : Rests w after) (shows : Shows w.log (closed_of w) list) where
  abbrev left : List Entry
  left = item_entries (pos (closed_of w)) (items_from w.log (closed_of w))

  abbrev added : List Entry
  added = added_after (lost_by w.leading after.leading) (pos after.committed) left fresh

  pub longer_added : (l : Longer w after) → fresh ≡ item_entries (pos (tip w.log)) l.items → Publishes after.log (closed_of after) list added
  longer_added l is =
      let all = left ++ item_entries (pos (tip w.log)) l.items in
      let same : added ≡ all =
      ap (λ b. cut_if b (pos after.committed) left ++ fresh) (not_lost (is_some w.leading) (is_some after.leading) l.led) ∙ ap (λ (e : List Entry). left ++ e) is in
      let longer = log_with w.log l.items in
      subst (λ (e : List Entry). Publishes after.log (closed_of after) list e) (sym same)
      (subst (λ (g : Log). Publishes g (closed_of after) list all) (sym l.writes)
      (longer_publishes w.log (closed_of w) (closed_of after) list l.items f.image
      (subst (λ (g : Log). image_at g (tip g) ≡ Ok f.image) l.writes f.means)
      (subst (λ (g : Log). tip g ≤ unsigned_abs PLACES_END) l.writes f.few)
      f.started f.low f.rises
      (subst (λ (g : Log). closed_of after ≤ tip g) l.writes f.within)
      shows))

  cut_added : Shorter w after → fresh ≡ [] → added ≡ filter (is_below (pos w.committed)) left ++ []
  cut_added c is =
      ap (λ b. cut_if (b && not (is_some after.leading)) (pos after.committed) left ++ fresh) c.led
      ∙ (ap (λ (o : Option ℤ). cut_if (not (is_some o)) (pos after.committed) left ++ fresh) c.over
      ∙ (ap (λ n. filter (is_below (pos n)) left ++ fresh) c.same ∙ ap (λ (e : List Entry). filter (is_below (pos w.committed)) left ++ e) is))

  pub closed_stays : Shorter w after → closed_of after ≡ closed_of w
  closed_stays c =
      ap (λ (x : Log × ℕ). closed_end_at x.0 x.1) (λ i. (c.cuts i, c.same i))
      ∙ closed_cut_below w.log w.committed w.committed (omega arith)

  pub shorter_added : Shorter w after → fresh ≡ [] → Publishes after.log (closed_of after) list added
  shorter_added c is =
      subst (λ (e : List Entry). Publishes after.log (closed_of after) list e) (sym (cut_added c is))
      (subst (λ (x : Log × ℕ). Publishes x.0 x.1 list (filter (is_below (pos w.committed)) left ++ [])) (λ i. (sym c.cuts i, sym (closed_stays c) i))
      (shorter_publishes w.log (closed_of w) w.committed list f.started f.committed f.low shows))

  -- of that nothing is published
  pub shorter_shown : Shorter w after → fresh ≡ [] → staged_below (pos (closed_of after)) added ≡ []
  shorter_shown c is =
      ap (staged_below (pos (closed_of after))) (cut_added c is)
      ∙ (ap (λ n. staged_below (pos n) (filter (is_below (pos w.committed)) left ++ [])) (closed_stays c)
      ∙ (ap (staged_below (pos (closed_of w))) (left_is w.log (closed_of w) w.committed list f.started f.committed f.low)
      ∙ nothing_below (closed_of w) (items_from (cut w.log w.committed) (closed_of w))))

  pub loaded_added : (l : Loaded w after) → fresh ≡ entries.Load (pos l.offset) (records_of l.image) ∷ [] → (IsValid l.image → apply_records empty (records_of l.image) ≡ Ok l.image) → Publishes after.log (closed_of after) list added
  loaded_added l is makes =
      let load = entries.Load (pos l.offset) (records_of l.image) ∷ [] in
      let same : added ≡ left ++ load =
      ap (λ (o : Option ℤ). cut_if (lost_by o after.leading) (pos after.committed) left ++ fresh) l.standby ∙ ap (λ (e : List Entry). left ++ e) is in
      let up : tip w.log ≤ l.offset = (let t = f.at_standby l.standby in let a = l.above in omega (arith, t, a)) in
      let closed : closed_of after ≡ l.offset =
      ap (λ (x : Log × ℕ). closed_end_at x.0 x.1) (λ i. (l.starts i, l.committed i)) ∙ ap (λ o. unwrap_or o l.offset) (none_open_at_start l.offset l.image l.offset) in
      subst (λ (e : List Entry). Publishes after.log (closed_of after) list e) (sym same)
      (subst (λ (x : Log × ℕ). Publishes x.0 x.1 list (left ++ load)) (λ i. (sym l.starts i, sym closed i))
      (load_publishes w.log (closed_of w) l.offset list l.image (records_of l.image) f.before f.meant f.few_before f.started f.low up l.few (makes l.valid) shows))
