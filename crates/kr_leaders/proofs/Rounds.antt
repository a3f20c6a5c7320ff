-- What a round and the commit behind it leave.
use Rattle.std.proofs.Common.{◌≡◌, ◌∙◌, ℕ, ℤ, pos, negsuc, Bool, true, false, cond, not, ◌||◌, ◌+◌, ◌≤ℤ◌, List, [], ◌∷◌, ◌++◌, length, refl, ap, sym, subst, arith}
use Rattle.std.proofs.lemmas.Int.{ints}
use Rattle.std.proofs.lemmas.List.{length-map}
use Rattle.std.specs.Prelude.{Option, Some, Result, Ok, Err, IfOk, IsSome, IsTrue, unwrap_or, ◌+ℤ◌}
use Rattle.std.specs.Ordering.{int_eq}
use Rattle.std.specs.Result.{result_unwrap_or}
use Rattle.kr_calls.specs.declared.calls.Request.{Request}
use Rattle.kr_calls.specs.declared.calls.Request.TheVariants as requests
use Rattle.kr_calls.specs.declared.events.Event.{Event}
use Rattle.kr_calls.specs.declared.events.Event.TheVariants as events
use Rattle.kr_calls.specs.declared.events.Reason.{Reason}
use Rattle.kr_calls.specs.Decide.{Decision, decide}
use Rattle.kr_calls.specs.Deciding.{apply_records}
use Rattle.kr_calls.specs.MeaningLaws.{RecordsHaveMeanings}
use Rattle.kr_defs.specs.declared.basis.Basis.{Basis}
use Rattle.kr_defs.specs.declared.ill.Ill.{Ill}
use Rattle.kr_defs.specs.declared.options.Options.{Options}
use Rattle.kr_defs.specs.declared.record.Item.{Item}
use Rattle.kr_defs.specs.declared.record.Item.TheVariants as items
use Rattle.kr_defs.specs.declared.record.Record.{Record}
use Rattle.kr_defs.specs.Heartbeats.{heard}
use Rattle.kr_defs.specs.Image.{Image, empty}
use Rattle.kr_defs.specs.ImageLaws.{as_items}
use Rattle.kr_defs.specs.Log.{Log, apply_all, image_at, tip}
use Rattle.kr_defs.proofs.IdLists.{id_itself}
use Rattle.kr_store.specs.Images.{kept_at}
use Rattle.kr_model.specs.declared.writes.Write.{Write}
use Rattle.kr_model.specs.Commit.{after_commit, is_end}
use Rattle.kr_model.specs.Engine.{Core, IsEngine, IsSound, IsStep}
use Rattle.kr_model.specs.Events.{at_time_of, happens, outcome, with_next_number}
use Rattle.kr_model.specs.Outputs.{waiting_after}
use Rattle.kr_model.specs.Reasons.{bad_commit, exhausted, not_leading}
use Rattle.kr_model.specs.Request.{after_write, decision}
use Rattle.kr_model.specs.World.{State, World, closed_of, image_of_tip, is_far, leads_in, log_with, seen_at, tip_of, with_batch, with_heartbeats}
use Rattle.kr_model.proofs.LogEntries.{batch_written, not_none}
use Rattle.kr_defs.specs.LogStates.{closed}
use Rattle.kr_defs.proofs.StateLogs.{state_at_tip}
use Rattle.kr_model.proofs.Logs.{as_records, image_there as image_of_state, tip_written, written_at_tip}
use Rattle.kr_model.proofs.Queues.{drained}
use Rattle.kr_engine.proofs.ImageSteps.{closed_found}
use Rattle.kr_balance.specs.Plan.{plan}
use Rattle.kr_rebalance.specs.Round.{round_event}
use Rattle.law_balance.specs.Election.{preferred_election}
use Rattle.kr_leaders.specs.Balance as balance
use Rattle.kr_leaders.specs.inner.Engines as engines
use Rattle.kr_leaders.specs.inner.Engines.{Commits, LeadsOn, IsAfterEvent, leader}

-- ---- a batch that is committed

either : (a b : Bool) → b ≡ true → (a || (b || false)) ≡ true
either true b is = refl
either false b is = ap (λ c. c || false) is

-- behind a leader that began at this place
module _ (n : ℕ) (image : Image) (basis : Basis) where
  abbrev begun : World
  begun = (leader (pos n) image).world

  -- with these items as one batch
  abbrev with_items : List Item → State
  with_items own = with_next_number (record { world = with_batch begun own; basis = basis })

  abbrev some_batch : List Item → World
  some_batch own = record begun { log = log_with begun.log own; batch_ends = begun.batch_ends ++ (tip begun.log + length own) ∷ [] }

  first_tip : tip begun.log ≡ n
  first_tip = omega arith

  begun_image : image_at begun.log (tip begun.log) ≡ Ok image
  begun_image = image_of_state begun.log (tip begun.log) (closed image) (state_at_tip begun.log)

  leads_still : (own : List Item) → (with_items own).world.leading ≡ Some (pos 1)
  leads_still [] = refl
  leads_still (item ∷ own) = ap (λ b. (cond b begun (some_batch (item ∷ own))).leading) (not_none (length own))

  ends_there : (own : List Item) → is_end (with_items own).world (pos (tip (with_items own).world.log)) ≡ true
  ends_there [] = ap (λ (m : ℕ). int_eq (pos m) (pos n) || false) first_tip ∙ ap (λ b. b || false) (id_itself (pos n))
  ends_there (item ∷ own) =
      let all : List Item = item ∷ own in
      ap (λ b. let w : World = cond b begun (some_batch all) in is_end w (pos (tip w.log))) (not_none (length own))
      ∙ (ap (λ (m : ℕ). int_eq (pos m) (pos n) || (int_eq (pos m) (pos (tip begun.log + length all)) || false)) (tip_written begun.log all)
      ∙ either (int_eq (pos (tip begun.log + length all)) (pos n)) (int_eq (pos (tip begun.log + length all)) (pos (tip begun.log + length all))) (id_itself (pos (tip begun.log + length all))))

  module _ (own : List Item) where
    abbrev committing : State
    committing = with_items own

    abbrev end : ℕ
    end = tip_of committing

    abbrev commit : Event
    commit = events.Commit (pos 1) (pos end)

    accepted : outcome balance.balance_options (at_time_of committing commit) commit ≡ Ok (after_commit committing (pos end))
    accepted =
        ap (λ (l : Option ℤ). let r : Result State Reason = cond (not (leads_in l (pos 1))) (Err (not_leading (pos 1) committing.world.leading)) (cond (not (is_end committing.world (pos end))) (Err (bad_commit (pos end) (pos committing.world.committed) (pos (tip_of committing)))) (Ok (after_commit committing (pos end)))) in r) (leads_still own)
        ∙ ap (λ b. let r : Result State Reason = cond (not b) (Err (bad_commit (pos end) (pos committing.world.committed) (pos (tip_of committing)))) (Ok (after_commit committing (pos end))) in r) (ends_there own)

    -- the state behind the commit
    abbrev last : State
    last = with_next_number (after_commit committing (pos end))

    committed_is : happens balance.balance_options committing commit ≡ last
    committed_is = ap (λ (r : Result State Reason). with_next_number (result_unwrap_or r (at_time_of committing commit))) accepted

    log_is : last.world.log ≡ log_with begun.log own
    log_is = batch_written begun own

    end_is : end ≡ n + length own
    end_is = ap tip log_is ∙ (tip_written begun.log own ∙ ap (λ m. m + length own) first_tip)

    image_there : (after : Image) (records : List Record) → own ≡ as_items records → apply_records image records ≡ Ok after → seen_at last.world.log (tip_of last) ≡ after
    image_there after records are means =
        ap (λ (log : Log). seen_at log (tip log)) log_is
        ∙ ap (λ (r : Result Image Ill). result_unwrap_or r empty)
        (written_at_tip begun.log own image after begun_image (ap (λ (xs : List Item). apply_all image xs) are ∙ (as_records image records ∙ means)))

-- ---- the round

module _ (n : ℕ) (image : Image) (percent : ℕ) (near : is_far (pos n) ≡ false) where
  abbrev begins : State
  begins = leader (pos n) image

  abbrev request : Request
  request = requests.ElectLeaders (preferred_election (plan image percent))

  abbrev event : Event
  event = round_event 0 (pos 0) image percent

  abbrev decided : Decision
  decided = balance.round percent (pos n) image

  image_is : image_of_tip begins ≡ image
  image_is = ap (λ (r : Result Image Ill). result_unwrap_or r empty) (image_of_state begins.world.log (tip_of begins) (closed image) (state_at_tip begins.world.log))

  tip_is : tip_of begins ≡ n
  tip_is = omega arith

  decision_is : decision balance.balance_options begins request ≡ decided
  decision_is =
      ap (λ (i : Image). decide balance.balance_options i begins.basis (pos (tip_of begins)) request) image_is
      ∙ ap (λ (m : ℕ). decide balance.balance_options image begins.basis (pos m) request) tip_is

  abbrev written : Decision → State
  written d = with_items n image (with_heartbeats begins.basis d.heartbeats) (as_items d.records)

  round_is : happens balance.balance_options begins event ≡ written decided
  round_is =
      ap (λ (m : ℕ). with_next_number (result_unwrap_or (cond (is_far (pos m)) (Err (exhausted (pos (tip_of begins)))) (Ok (after_write balance.balance_options begins request))) begins)) tip_is
      ∙ (ap (λ b. with_next_number (result_unwrap_or (cond b (Err (exhausted (pos (tip_of begins)))) (Ok (after_write balance.balance_options begins request))) begins)) near
      ∙ ap written decision_is)

-- ---- a controller that made the round, and committed it

module _ (n : ℕ) (image : Image) (percent : ℕ) (before rounded drained_then after : Core) (l : LeadsOn before (pos n) image) where
  abbrev led : State
  led = leader (pos n) image

  abbrev d : Decision
  d = balance.round percent (pos n) image

  abbrev event_of : Image → Event
  event_of tip = round_event 0 (pos 0) tip percent

  abbrev behind_round : State
  behind_round = written n image percent l.near d

  abbrev basis_behind : Basis
  basis_behind = with_heartbeats led.basis d.heartbeats

  abbrev last_state : State
  last_state = last n image basis_behind (as_items d.records)

  tip_image : before.images.tip ≡ image
  tip_image = ap (λ (r : Result Image Ill). result_unwrap_or r empty) (sym l.stands.present ∙ image_of_state led.world.log (tip_of led) (closed image) (state_at_tip led.world.log))

  module _ (meanings : RecordsHaveMeanings) (step : IsStep before rounded (event_of before.images.tip)) (handed : engines.IsDrained rounded drained_then) (took : IsAfterEvent drained_then after (events.Commit (pos 1) drained_then.tip)) where
    abbrev waiting : List Write
    waiting = waiting_after before.options led l.writes (event_of before.images.tip)

    stepped : IsEngine rounded behind_round waiting
    stepped =
        subst (λ (s : State). IsEngine rounded s waiting)
        (ap (λ (tip : Image). happens before.options led (event_of tip)) tip_image ∙ (ap (λ (o : Options). happens o led (event_of image)) l.options ∙ round_is n image percent l.near))
        (step.stands led l.writes l.stands)

    ready : IsEngine drained_then behind_round waiting
    ready = handed.stands behind_round waiting stepped

    abbrev waiting_then : List Write
    waiting_then = waiting_after drained_then.options behind_round waiting (events.Commit (pos 1) drained_then.tip)

    settled : IsEngine after last_state waiting_then
    settled =
        subst (λ (s : State). IsEngine after s waiting_then)
        (ap (λ (tip : ℤ). happens drained_then.options behind_round (events.Commit (pos 1) tip)) ready.tip
        ∙ (ap (λ (o : Options). happens o behind_round (events.Commit (pos 1) (pos (tip_of behind_round)))) (handed.options ∙ (step.options ∙ l.options))
        ∙ committed_is n image basis_behind (as_items d.records)))
        (took.stands behind_round waiting ready)

    count_is : length (as_items d.records) ≡ length d.records
    count_is = length-map d.records (λ (r : Record). items.Record r)

    -- nothing is open at its committed end, which is its tip
    closed_there : closed_of last_state.world ≡ tip_of last_state
    closed_there = ap (λ (o : Option ℕ). unwrap_or o (tip_of last_state)) (settled.is_state.decided (subst (λ (l : Option ℤ). IsSome l) (sym (leads_still n image basis_behind (as_items d.records))) refl))

    place_is : after.closed ≡ pos n +ℤ pos (length d.records)
    place_is = settled.closed ∙ ap pos closed_there ∙ ap (λ (m : ℕ). pos m) (end_is n image basis_behind (as_items d.records) ∙ ap (λ m. n + m) count_is)

    means : apply_records image d.records ≡ Ok d.image
    means = meanings balance.balance_options (balance.first_basis (pos n) image).time (heard (balance.first_basis (pos n) image)) image (pos n) (request n image percent l.near)

    commits_natural : Commits after (pos n +ℤ pos (length d.records)) d.image
    commits_natural = record {
      closed = place_is;
      kept =
          ap (kept_at after.images) (sym place_is)
          ∙ (closed_found after (drained after took.idle.drained) last_state waiting_then settled
          ∙ ap (λ (i : Image). Some i) (ap (seen_at last_state.world.log) closed_there ∙ image_there n image basis_behind (as_items d.records) d.image d.records refl means));
    }

pub commits : (before rounded drained_then after : Core) (percent : ℕ) (offset : ℤ) (image : Image) → RecordsHaveMeanings → LeadsOn before offset image → IsStep before rounded (round_event 0 (pos 0) before.images.tip percent)
    → engines.IsDrained rounded drained_then → IsAfterEvent drained_then after (events.Commit (pos 1) drained_then.tip)
    → Commits after (offset +ℤ pos (length (balance.round percent offset image).records)) (balance.round percent offset image).image
commits before rounded drained_then after percent (pos n) image meanings l step handed took = commits_natural n image percent before rounded drained_then after l meanings step handed took
commits before rounded drained_then after percent (negsuc n) image meanings l step handed took = absurd (let natural = l.natural in omega (arith, natural))

-- ---- what a leader may do

pub is_leading : (e : Core) (offset : ℤ) (image : Image) → LeadsOn e offset image → IsSome e.leading
is_leading e offset image l = subst (λ (o : Option ℤ). IsSome o) (sym l.stands.leading) refl

pub is_near : (e : Core) (offset : ℤ) (image : Image) → LeadsOn e offset image → IsTrue (not (is_far e.tip))
is_near e (pos n) image l =
    subst (λ (tip : ℤ). IsTrue (not (is_far tip))) (sym (l.stands.tip ∙ ap (λ (m : ℕ). pos m) (tip_is n image 0 l.near)))
    (subst (λ b. IsTrue (not b)) (sym l.near) refl)
is_near e (negsuc n) image l = absurd (let natural = l.natural in omega (arith, natural))

-- ---- what is written

pub natural_end : (e : Core) → IsSound e → pos 0 ≤ℤ e.closed
natural_end e sound = subst (λ (p : ℤ). pos 0 ≤ℤ p) (sym sound.stands.closed) (omega (arith, ints))

pub if_ok_weaker : {T E : Type 0} {P Q : T → Type 0} (r : Result T E) → ((x : T) → P x → Q x) → IfOk r P → IfOk r Q
if_ok_weaker (Ok x) more is = more x is
if_ok_weaker (Err fault) more is = tt
