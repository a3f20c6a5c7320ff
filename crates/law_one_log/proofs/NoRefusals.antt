-- A daemon refuses no frame that is welcome, while places are left; and it knows the ends and the greatest epoch behind it.
use Rattle.std.proofs.Common.{◌≡◌, ◌∙◌, sym, subst, ℕ, ℤ, pos, suc, ◌+◌, ◌-◌, ◌≤◌, Bool, true, false, cond, List, [], ◌∷◌, ◌++◌, length, refl, ap, arith, inl, inr}
use Rattle.std.specs.Prelude.{int_lt, not, ◌||◌, ◌+ℤ◌, is_some, Option, Some, None, Result, Ok, Err, IsOk}
use Rattle.std.specs.List.{AllByRecursion, list_any}
use Rattle.std.specs.Ordering.{int_eq}
use Rattle.std.specs.Result.{result_unwrap_or, result_err}
use Rattle.std.specs.Option.{option_map}
use Rattle.std.proofs.lemmas.Bool.Decides.{nat_tests}
use Rattle.std.proofs.lemmas.Int.{ints}
use Rattle.std.proofs.lemmas.List.{append_assoc, take_all}
use Rattle.kr_batch.specs.declared.Batch.{Batch}
use Rattle.kr_calls.specs.declared.events.Event.{Event}
use Rattle.kr_calls.specs.declared.events.Event.TheVariants as events
use Rattle.kr_calls.specs.declared.events.Reason.{Reason}
use Rattle.kr_defs.specs.declared.ill.Ill.{Ill}
use Rattle.kr_defs.specs.declared.limits.TheConstants.{GREATEST_TIP}
use Rattle.kr_defs.specs.declared.options.Options.{Options}
use Rattle.kr_defs.specs.declared.record.Item.{Item}
use Rattle.kr_defs.specs.Image.{Image, empty}
use Rattle.kr_defs.specs.ImageLaws.{as_items}
use Rattle.kr_defs.specs.Log.{Log, apply_all, tip}
use Rattle.kr_defs.specs.LogStates.{LogState, apply_all_at, closed, first_ill_at}
use Rattle.kr_defs.proofs.IdLists.{id_itself}
use Rattle.kr_defs.proofs.StateLogs.{cause_named_at, plain_all, plain_log}
use Rattle.kr_defs.proofs.Tests.{or_right}
use Rattle.kr_snapshot.specs.ImageText.{image_text}
use Rattle.kr_snapshot.specs.Reading.{image_of}
use Rattle.kr_model.specs.Batch.{after_batch, end_of, take_batch, unless_ill}
use Rattle.kr_model.specs.Commit.{after_commit, commit, is_end}
use Rattle.kr_model.specs.Events.{at_time_of, outcome}
use Rattle.kr_model.specs.Lead.{after_lead, giving_up, lead, may_begin_at, taking_over}
use Rattle.kr_model.specs.Load.{after_load, take_image}
use Rattle.kr_model.specs.Lost.{after_lost}
use Rattle.kr_model.specs.Reasons as reasons
use Rattle.kr_model.specs.World.{State, is_far, leads_in, seen_state, tip_of}
use Rattle.kr_model.proofs.DueWrites.{batch_leaves}
use Rattle.law_quorum.specs.Batches.{BatchStandsAt, ImageStandsFor, Meet, StoredImage, behind}
use Rattle.law_quorum.specs.Batches.{Batch as StoredBatch}
use Rattle.law_quorum.specs.Nodes.{Node, after_loss, committed, ended_batches, fed, loaded, told_to_lead, unended_batches}
use Rattle.law_quorum.proofs.Places.{all_after, behind_append}
use Rattle.law_link.specs.Links.{Has}
use Rattle.law_link.specs.Refusals.{EndsOwn}
use Rattle.law_link.proofs.UnderWay.{ended_joined}
use Rattle.law_nodes.specs.Nodes.{RunNode, after_by, after_event}
use Rattle.law_nodes.specs.OneList.{list_items}
use Rattle.law_nodes.proofs.Lists.{HasItems, some_behind}
use Rattle.law_nodes.proofs.Logs
use Rattle.law_one_log.specs.OneLog.{IsNotRefused}
use Rattle.law_one_log.specs.StoredBatches.{batches_in, image_bytes, value_of_batch}
use Rattle.law_one_log.proofs.DaemonFrames as frames
use Rattle.law_one_log.proofs.DaemonStates.{IsDaemon}
use Rattle.law_one_log.proofs.KnownEnds.{EndsAmong, Knows, among_above, among_after, among_first}
use Rattle.law_one_log.proofs.ReadLists.{AllStored, IsStored, in_append}

-- ---- tests

passed : {X E : Type 0} (cause : E) (test : Bool) (rest : Result X E) → test ≡ false → cond test (Err cause) rest ≡ rest
passed cause test rest is = ap (λ (b : Bool). cond b (Err cause) rest) is

not_far : (most : ℤ) (n m : ℕ) → n ≤ m → int_lt most (pos m) ≡ false → int_lt most (pos n) ≡ false
not_far most n m le is = grind (arith, ints, nat_tests)

not_lower : (n m : ℕ) → m ≤ n → int_lt (pos n) (pos m) ≡ false
not_lower n m le = grind (arith, ints, nat_tests)

later_epoch : (greatest : ℤ) (least epoch : ℕ) → int_lt greatest (pos least) ≡ true → least ≤ epoch → int_lt greatest (pos epoch) ≡ true
later_epoch greatest least epoch low le = grind (arith, ints, nat_tests)

next_epoch : (epoch : ℕ) → int_lt (pos epoch) (pos (suc epoch)) ≡ true
next_epoch epoch = grind (arith, ints, nat_tests)

any_has : (end : ℕ) (ends : List ℕ) → Has end ends → list_any (λ n. int_eq (pos end) (pos n)) ends ≡ true
any_has end [] h = absurd h
any_has end (n ∷ ends) h = elim h [
  | inl e ↦ ap (λ (b : Bool). b || list_any (λ n. int_eq (pos end) (pos n)) ends) (ap (λ (x : ℕ). int_eq (pos end) (pos x)) (sym e) ∙ id_itself (pos end))
  | inr r ↦ or_right (int_eq (pos end) (pos n)) (list_any (λ n. int_eq (pos end) (pos n)) ends) (any_has end ends r)
]

behind_up : (from : ℕ) (bs : List StoredBatch) → from ≤ behind from bs
behind_up from [] = omega arith
behind_up from (b ∷ bs) = let up = behind_up (from + b.count) bs in omega (arith, up)

-- ---- records that have a meaning for images have one in a log without transactions

none_of : (o : Option (ℤ × Ill)) → option_map (λ (i : ℤ × Ill). i.1) o ≡ None → o ≡ None
none_of None is = refl
none_of (Some x) is = absurd cc

module _ (log : Log) (items : List Item) (means : IsOk (apply_all log.image log.items)) (more : IsOk (apply_all log.image (log.items ++ items))) where
  abbrev there : Image
  there = result_unwrap_or (apply_all log.image log.items) empty

  abbrev after : Image
  after = result_unwrap_or (apply_all there items) empty

  tip_state : seen_state log (tip log) ≡ closed there
  tip_state =
      ap (λ (r : Result LogState Ill). result_unwrap_or r (closed empty))
      (plain_log log (tip log) there
      (ap (λ (l : List Item). apply_all log.image l) (take_all (tip log - log.offset) log.items (omega arith)) ∙ Logs.ok_is (apply_all log.image log.items) means))

  applied : apply_all_at (closed there) (tip log) items ≡ Ok (closed after)
  applied = plain_all items (closed there) (tip log) after (Logs.ok_is (apply_all there items) (Logs.later_means log.image log.items items more))

  pub none_ill : first_ill_at (seen_state log (tip log)) (tip log) items ≡ None
  none_ill =
      ap (λ (s : LogState). first_ill_at s (tip log) items) tip_state
      ∙ none_of (first_ill_at (closed there) (tip log) items)
      (cause_named_at items (closed there) (tip log) ∙ ap (λ (r : Result LogState Ill). result_err r) applied)

-- ---- the frames

-- the event is accepted, and what it makes of the controller knows
pub record IsAccepted (options : Options) (n : RunNode) (event : Event) (to : Node) (least : ℕ) : Type 0 where
  pub after : State
  pub is : outcome options (at_time_of n.state event) event ≡ Ok after
  pub knows : Knows to least after.world

module _ (options : Options) (n : RunNode) (event : Event) (to : Node) (least : ℕ) (a : IsAccepted options n event to least) where
  pub accepted_taken : IsNotRefused options n event
  accepted_taken = subst (λ (q : Result State Reason). IsOk q) (sym a.is) refl

  pub accepted_knows : Knows to least (after_event options n event).state.world
  accepted_knows =
      subst (λ (q : Result State Reason). Knows to least (after_by options n (at_time_of n.state event) event q).state.world) (sym a.is)
      (record { ends = a.knows.ends; low = a.knows.low })

module _ (options : Options) (log : List StoredBatch) (k : ℕ) (d : Node) (n : RunNode) (i : IsDaemon (batches_in log) d n) (least : ℕ) (h : Knows d least n.state.world)
    (room : is_far (pos (behind 0 log)) ≡ false) where
  abbrev list : List Batch
  list = batches_in log

  near : (place : ℕ) → place ≤ behind 0 log → is_far (pos place) ≡ false
  near place le = not_far GREATEST_TIP place (behind 0 log) le room

  pub near_after : (before after : List StoredBatch) → log ≡ before ++ after → is_far (pos (behind 0 before)) ≡ false
  near_after before after split =
      let up = behind_up (behind 0 before) after in
      let both = ap (behind 0) split ∙ behind_append 0 before after in
      near (behind 0 before) (omega (arith, up, both))

  -- ---- on standby

  module _ (idle : n.state.world.leading ≡ None) where
    own_none : d.own ≡ []
    own_none = frames.own_none options log k d n i idle

    no_ends : (ends : List ℕ) (at : ℕ) → EndsAmong ends at d.own
    no_ends ends at = subst (λ (bs : List StoredBatch). EndsAmong ends at bs) (sym own_none) tt

    idle_test : is_some n.state.world.leading ≡ false
    idle_test = ap (λ (o : Option ℤ). is_some o) idle

    -- ---- Feed

    module _ (stored : AllStored log) (meet : Meet 0 log) (whole : IsOk (apply_all empty (list_items list))) (b : StoredBatch) (stands : BatchStandsAt log d.end b) (base : b.base ≡ d.end) where
      abbrev x : Batch
      x = value_of_batch b

      its : IsStored b
      its = frames.its options log k d n i idle stored meet whole b stands

      base_is : x.base ≡ pos n.state.world.committed
      base_is = its.base ∙ ap (λ (e : ℕ). pos e) (base ∙ sym i.end)

      end_is : end_of x ≡ pos (behind 0 (stands.before ++ b ∷ []))
      end_is =
          ap (λ (z : ℤ). z +ℤ pos (length x.items)) its.base
          ∙ ap (λ (e : ℕ). pos e)
          (ap (λ (c : ℕ). b.base + c) its.count ∙ (ap (λ (e : ℕ). e + b.count) (base ∙ sym stands.begins) ∙ sym (behind_append 0 stands.before (b ∷ []))))

      near_end : is_far (end_of x) ≡ false
      near_end =
          ap (λ (z : ℤ). is_far z) end_is
          ∙ near_after (stands.before ++ b ∷ []) stands.after (stands.split ∙ sym (append_assoc stands.before (b ∷ []) stands.after))

      means_more : IsOk (apply_all n.state.world.log.image (n.state.world.log.items ++ x.items))
      means_more =
          let c = i.node.core in
          let ahead = frames.ahead_by options log k d n i idle stored meet whole b stands c.settles.ahead refl in
          Logs.low_means list n.state.world.log n.state.world.committed c.settles x ahead.0 (c.tail ∙ ap (λ (l : List Batch). list_items l) (c.standby idle).1) ahead.1 whole

      taken : take_batch n.state x ≡ Ok (after_batch n.state x)
      taken =
          passed (reasons.gap (pos n.state.world.committed) x.base) (not (int_eq x.base (pos n.state.world.committed))) _
          (ap (λ (z : ℤ). not (int_eq z (pos n.state.world.committed))) base_is ∙ ap (λ (t : Bool). not t) (id_itself (pos n.state.world.committed)))
          ∙ (passed (reasons.exhausted (end_of x)) (is_far (end_of x)) _ near_end
          ∙ ap (λ (o : Option (ℤ × Ill)). unless_ill o (after_batch n.state x)) (none_ill n.state.world.log x.items i.node.core.means means_more))

      pub feed_accepted : IsAccepted options n (events.Batch b.bytes) (fed d b) least
      feed_accepted = record {
        after = after_batch n.state x;
        is = frames.feed_is options log k d n i idle stored meet whole b stands ∙ taken;
        knows = record { ends = no_ends n.state.world.batch_ends (d.end + b.count); low = h.low };
      }

    -- ---- Load

    module _ (whole : IsOk (apply_all empty (list_items list))) (image : StoredImage) (right : ImageStandsFor image_bytes log image) (stored : AllStored log)
        (read : (offset : ℤ) (seen : Image) → image.bytes ≡ image_text offset seen → image_of image.bytes ≡ Ok (offset, seen)) (later : d.end ≤ image.offset) where
      abbrev seen : Image
      seen = frames.seen options log k d n i idle whole image right stored read

      load_taken : take_image n.state (pos image.offset, seen) ≡ Ok (after_load n.state image.offset seen)
      load_taken =
          passed (reasons.older_image (pos image.offset) (pos n.state.world.committed)) (int_lt (pos image.offset) (pos n.state.world.committed)) _
          (not_lower image.offset n.state.world.committed (let end = i.end in omega (arith, end, later)))
          ∙ passed (reasons.exhausted (pos image.offset)) (is_far (pos image.offset)) _
          (subst (λ (e : ℕ). is_far (pos e) ≡ false) right.offset (near_after right.gone right.rest right.split))

      pub load_accepted : IsAccepted options n (events.Load image.bytes) (loaded d image) least
      load_accepted = record {
        after = after_load n.state image.offset seen;
        is = frames.load_is options log k d n i idle whole image right stored read ∙ load_taken;
        knows = record { ends = no_ends [] image.offset; low = h.low };
      }

    -- ---- Lead

    module _ (epoch : ℕ) (now : ℤ) (later : least ≤ epoch) (begun : is_far (pos n.state.world.committed) ≡ false) where
      abbrev leads_now : Event
      leads_now = events.Lead (pos epoch) (pos n.state.world.committed) now

      abbrev s : State
      s = at_time_of n.state leads_now

      abbrev next : ℤ
      next = pos n.state.world.committed

      led : lead s (pos epoch) next ≡ Ok (after_lead s (pos epoch) next)
      led =
          passed (reasons.already_leading n.state.world.leading) (is_some n.state.world.leading) _ idle_test
          ∙ (passed (reasons.old_epoch (pos epoch) n.state.world.greatest) (not (int_lt n.state.world.greatest (pos epoch))) _
          (ap (λ (t : Bool). not t) (later_epoch n.state.world.greatest least epoch h.low later))
          ∙ (passed (reasons.bad_next next next) (not (may_begin_at n.state.world next)) _
          (ap (λ (t : Bool). not (t || int_eq next (pos (n.state.world.committed + 1)))) (id_itself next))
          ∙ passed (reasons.exhausted next) (is_far next) _ begun))

      pub lead_accepted : IsAccepted options n leads_now (told_to_lead d epoch) (suc epoch)
      lead_accepted = record {
        after = after_lead s (pos epoch) next;
        is = led;
        knows = record {
          ends = tt;
          low =
              let led = (taking_over s (pos epoch) next).world in
              ap (λ (z : ℤ). int_lt z (pos (suc epoch))) (batch_leaves led (as_items (giving_up led))).greatest ∙ next_epoch epoch;
        };
      }

  -- ---- to a leader

  module _ (epoch : ℕ) (leads : n.state.world.leading ≡ Some (pos epoch)) where
    led_test : not (leads_in n.state.world.leading (pos epoch)) ≡ false
    led_test = ap (λ (o : Option ℤ). not (leads_in o (pos epoch))) leads ∙ ap (λ (t : Bool). not t) (id_itself (pos epoch))

    -- ---- Commit

    module _ (end : ℕ) (own : EndsOwn d end) where
      among : EndsAmong n.state.world.batch_ends d.end (own.ended ++ own.others)
      among = subst (λ (bs : List StoredBatch). EndsAmong n.state.world.batch_ends d.end bs) own.split h.ends

      is_known : is_end n.state.world (pos end) ≡ true
      is_known = elim (among_first n.state.world.batch_ends d.end own.ended own.others among) [
        | inl same ↦ (
            let e : end ≡ n.state.world.committed = sym own.at ∙ (same ∙ sym i.end) in
            ap (λ (t : Bool). t || list_any (λ n. int_eq (pos end) (pos n)) n.state.world.batch_ends)
            (ap (λ (x : ℕ). int_eq (pos end) (pos x)) (sym e) ∙ id_itself (pos end)))
        | inr has ↦ or_right (int_eq (pos end) (pos n.state.world.committed)) (list_any (λ n. int_eq (pos end) (pos n)) n.state.world.batch_ends)
            (any_has end n.state.world.batch_ends (subst (λ (x : ℕ). Has x n.state.world.batch_ends) own.at has))
      ]

      commits : commit n.state (pos epoch) (pos end) ≡ Ok (after_commit n.state (pos end))
      commits =
          passed (reasons.not_leading (pos epoch) n.state.world.leading) (not (leads_in n.state.world.leading (pos epoch))) _ led_test
          ∙ passed (reasons.bad_commit (pos end) (pos n.state.world.committed) (pos (tip_of n.state))) (not (is_end n.state.world (pos end))) _ (ap (λ (t : Bool). not t) is_known)

      module _ (whole : behind d.end (ended_batches end d.own) ≡ end) where
        abbrev others : List StoredBatch
        others = unended_batches end d.own

        own_is : d.own ≡ ended_batches end d.own ++ others
        own_is = sym (ended_joined end d.own)

        others_stored : AllStored others
        others_stored = all_after IsStored (ended_batches end d.own) others (subst (λ (l : List StoredBatch). AllStored l) own_is i.own)

        others_some : AllByRecursion HasItems (batches_in others)
        others_some =
            some_behind (batches_in (ended_batches end d.own)) (batches_in others)
            (subst (AllByRecursion HasItems) (ap (λ (l : List StoredBatch). batches_in l) own_is ∙ in_append (ended_batches end d.own) others) i.node.core.some)

        others_among : EndsAmong n.state.world.batch_ends end others
        others_among =
            subst (λ (at : ℕ). EndsAmong n.state.world.batch_ends at others) whole
            (among_after n.state.world.batch_ends d.end (ended_batches end d.own) others (subst (λ (bs : List StoredBatch). EndsAmong n.state.world.batch_ends d.end bs) own_is h.ends))

        pub commit_accepted : IsAccepted options n (events.Commit (pos epoch) (pos end)) (committed d end) least
        commit_accepted = record {
          after = after_commit n.state (pos end);
          is = commits;
          knows = record { ends = among_above n.state.world.batch_ends end end others (omega arith) others_stored others_some others_among; low = h.low };
        }

    -- ---- Lost

    pub loss_accepted : IsAccepted options n (events.Lost (pos epoch)) (after_loss d) least
    loss_accepted = record {
      after = after_lost n.state;
      is = passed (reasons.not_leading (pos epoch) n.state.world.leading) (not (leads_in n.state.world.leading (pos epoch))) _ led_test;
      knows = record { ends = tt; low = h.low };
    }
