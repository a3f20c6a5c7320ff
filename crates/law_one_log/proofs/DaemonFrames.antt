-- Each frame that a daemon takes makes of its controller what law_link says.
use Rattle.std.proofs.Common.{◌≡◌, ◌∙◌, sym, subst, ℕ, ℤ, pos, ◌+◌, ◌<◌, ◌≤◌, true, cond, List, [], ◌∷◌, ◌++◌, length, take, map, refl, ap, arith}
use Rattle.std.specs.Prelude.{int_lt, not, is_some, Option, Some, None, Result, Ok, Err, IsOk, filter}
use Rattle.std.specs.Ordering.{int_eq}
use Rattle.std.specs.Result.{result_unwrap_or}
use Rattle.std.specs.List.{AllByRecursion, flat_map}
use Rattle.std.proofs.lemmas.Bool.Decides.{nat_tests}
use Rattle.std.proofs.lemmas.Int.{ints}
use Rattle.std.proofs.lemmas.List.{append-nil, append_assoc, length-append, take_at}
use Rattle.kr_batch.specs.declared.Batch.{Batch}
use Rattle.kr_batch.specs.declared.fault.BatchFault.{BatchFault}
use Rattle.kr_batch.specs.Reading.{batch_of}
use Rattle.kr_calls.specs.declared.events.Event.{Event}
use Rattle.kr_calls.specs.declared.events.Event.TheVariants as events
use Rattle.kr_calls.specs.declared.events.Output.{Output}
use Rattle.kr_calls.specs.declared.events.Reason.{Reason}
use Rattle.kr_defs.specs.declared.ill.Ill.{Ill}
use Rattle.kr_defs.specs.declared.options.Options.{Options}
use Rattle.kr_defs.specs.declared.record.Item.{Item}
use Rattle.kr_defs.specs.Guard.{and_then}
use Rattle.kr_defs.specs.Image.{Image, empty}
use Rattle.kr_defs.specs.Log.{Log, apply_all}
use Rattle.kr_defs.specs.LogStates.{first_ill_at}
use Rattle.kr_defs.proofs.Tests.{Gives, gives_done, gives_refuse, some_is}
use Rattle.kr_snapshot.specs.declared.fault.ImageFault.{ImageFault}
use Rattle.kr_snapshot.specs.ImageText.{image_text}
use Rattle.kr_snapshot.specs.Reading.{image_of}
use Rattle.kr_model.specs.declared.writes.Write.{Write}
use Rattle.kr_model.specs.Batch.{after_batch, batch_or, end_of, take_batch, unless_ill}
use Rattle.kr_model.specs.Events.{at_time_of, outcome, with_next_number}
use Rattle.kr_model.specs.Lead.{after_lead, lead, may_begin_at}
use Rattle.kr_model.specs.Load.{after_load, image_or, take_image}
use Rattle.kr_model.specs.Outputs.{answers_now, if_accepted, writes_of}
use Rattle.kr_model.specs.Reasons as reasons
use Rattle.kr_model.specs.World.{State, is_far, seen_at, state_of_tip, tip_of}
use Rattle.kr_model.proofs.DueWrites.{lead_committed, lead_leading}
use Rattle.law_quorum.specs.Batches.{BatchStandsAt, ImageStandsFor, Meet, StoredImage, behind}
use Rattle.law_quorum.specs.Batches.{Batch as StoredBatch}
use Rattle.law_quorum.specs.History.{Point}
use Rattle.law_quorum.specs.NodeLaws.{IsFedNode}
use Rattle.law_quorum.specs.Nodes.{Node, after_loss, committed, ended_batches, fed, loaded, told_to_lead, unended_batches}
use Rattle.law_quorum.proofs.Places.{all_after, behind_append, meet_before}
use Rattle.law_link.proofs.LinkSteps.{all_before}
use Rattle.law_link.proofs.UnderWay.{ended_joined}
use Rattle.law_nodes.specs.Moves.{after_arrival}
use Rattle.law_nodes.specs.Nodes.{RunNode, Waiting, after_by, after_event, at_own_end, batches_of, tells_by, told_due, told_now, told_of, waits_in, writes_with}
use Rattle.law_nodes.specs.OneList.{Follows, batch_from, list_items}
use Rattle.law_nodes.proofs.Invariant.{IsNode, never}
use Rattle.law_nodes.proofs.Lists.{HasItems, batch_behind, items_append, some_behind}
use Rattle.law_nodes.proofs.Logs
use Rattle.law_nodes.proofs.ReadBatches.{none_led}
use Rattle.law_nodes.proofs.Replies.{AllTold, none_waits}
use Rattle.law_nodes.proofs.Steady.{end_moved, node_end}
use Rattle.law_nodes.proofs.Steps.{after_is, commit_fine, fed_is, lead_fine, loaded_is, lost_is}
use Rattle.law_one_log.specs.Daemons.{batches_given}
use Rattle.law_one_log.specs.OneLog.{IsNotRefused}
use Rattle.law_one_log.specs.StoredBatches.{value_of_batch, batches_in, image_bytes, text_of_image}
use Rattle.law_one_log.proofs.DaemonStates.{IsDaemon, apart, node_on, noted, tip_is, with_own}
use Rattle.law_one_log.proofs.NextBatches.{as_led}
use Rattle.law_one_log.proofs.ReadLists.{AllStored, IsStored, all_have, behind_items, in_append, items_in}

ok_of : (q : Result State Reason) → IsOk q → (after : State) × (q ≡ Ok after)
ok_of (Ok after) h = (after, refl)
ok_of (Err reason) h = absurd cc

not_below : (e : ℤ) → int_lt e e ≡ true → ⊥
not_below e up = grind (arith, ints)

none_in : (bs : List StoredBatch) → batches_in bs ≡ [] → bs ≡ []
none_in [] is = refl
none_in (b ∷ bs) is = absurd cc

pub none_given : (q : Result State Reason) → if_accepted {X = Batch} q [] ≡ []
none_given (Ok after) = refl
none_given (Err reason) = refl

-- what an accepted batch or image makes
batch_taken : (s : State) (b : Batch) → Gives (λ (a : State). a ≡ after_batch s b) (take_batch s b)
batch_taken s b =
    let P : State → Type 0 = λ a. a ≡ after_batch s b in
    gives_refuse P (reasons.gap (pos s.world.committed) b.base) (not (int_eq b.base (pos s.world.committed))) _ (λ _.
    gives_refuse P (reasons.exhausted (end_of b)) (is_far (end_of b)) _ (λ _. by_ill (first_ill_at (state_of_tip s) (tip_of s) b.items)))
  where
    by_ill : (o : Option (ℤ × Ill)) → Gives (λ (a : State). a ≡ after_batch s b) (unless_ill o (after_batch s b))
    by_ill None = gives_done (λ (a : State). a ≡ after_batch s b) (after_batch s b) refl
    by_ill (Some (place, cause)) = λ after is. absurd cc

image_taken : (s : State) (end : ℕ) (image : Image) → Gives (λ (a : State). a ≡ after_load s end image) (take_image s (pos end, image))
image_taken s end image =
    let P : State → Type 0 = λ a. a ≡ after_load s end image in
    gives_refuse P (reasons.older_image (pos end) (pos s.world.committed)) (int_lt (pos end) (pos s.world.committed)) _ (λ _.
    gives_refuse P (reasons.exhausted (pos end)) (is_far (pos end)) _ (λ _. gives_done P (after_load s end image) refl))

led_taken : (s : State) (epoch next : ℤ) → Gives (λ (a : State). a ≡ after_lead s epoch next) (lead s epoch next)
led_taken s epoch next =
    let P : State → Type 0 = λ a. a ≡ after_lead s epoch next in
    let w = s.world in
    gives_refuse P (reasons.already_leading w.leading) (is_some w.leading) _ (λ _. gives_refuse P (reasons.old_epoch epoch w.greatest) (not (int_lt w.greatest epoch)) _ (λ _.
    gives_refuse P (reasons.bad_next next (pos w.committed)) (not (may_begin_at w next)) _ (λ _. gives_refuse P (reasons.exhausted next) (is_far next) _ (λ _.
    gives_done P (after_lead s epoch next) refl))))

module _ (options : Options) (log : List StoredBatch) (k : ℕ) (d : Node) (n : RunNode) (i : IsDaemon (batches_in log) d n) where
  abbrev list : List Batch
  list = batches_in log

  abbrev m : RunNode
  m = with_own n d

  -- what comes of a frame
  pub record Takes (event : Event) (to : Node) : Type 0 where
    pub daemon : IsDaemon list to (after_event options n event)
    pub told : AllTold list (told_of options k n event)
    pub none : batches_given options n event ≡ []

  abbrev at : Event → State
  at event = at_time_of n.state event

  -- ---- what comes on standby

  module _ (none : n.state.world.leading ≡ None) where
    pub own_none : d.own ≡ []
    own_none = none_in d.own (i.node.core.standby none).1

    tip_end : tip_of n.state ≡ d.end
    tip_end = tip_is list d n i ∙ ap (λ (bs : List StoredBatch). behind d.end bs) own_none

    abbrev built : State → List Waiting → List Batch → RunNode
    built after ws bs = record { state = with_next_number after; waiting = ws; settled = after.world.committed; unsettled = bs }

    came : (event : Event) (after : State) (to : Node) → outcome options (at event) event ≡ Ok after → after.world.leading ≡ None → IsNode list i.elected (built after n.waiting [])
        → to.leads ≡ None → after.world.committed ≡ to.end → to.own ≡ [] → IsDaemon list to (after_event options n event)
    came event after to is idle node leads end own =
        let ws = filter (waits_in after.world) (writes_with options (at event) n.waiting event) in
        let waits : n.waiting ≡ ws = i.node.idle none ∙ sym (none_waits after.world idle (writes_with options (at event) n.waiting event)) in
        let there : IsDaemon list to (after_by options n (at event) event (Ok after)) = record {
          leads = idle ∙ ap (λ (o : Option ℕ). as_led o) (sym leads);
          end = end;
          own = subst (λ (bs : List StoredBatch). AllStored bs) (sym own) tt;
          elected = i.elected;
          above = λ epoch led. absurd (never after.world.leading idle led);
          node = subst (λ (bs : List StoredBatch). IsNode list i.elected (built after ws (batches_in bs))) (sym own)
              (subst (λ (l : List Waiting). IsNode list i.elected (built after l [])) waits node);
        } in
        subst (λ (q : Result State Reason). IsDaemon list to (after_by options n (at event) event q)) (sym is) there

    abbrev as_waiting : Event → Write → Waiting
    as_waiting event write = record { write = write; items = list_items (batches_of options (at event) event) }

    -- no write waits, and so nothing is told
    told_none : (event : Event) (after : State) → answers_now options (at event) event ≡ [] → writes_of options (at event) event ≡ [] → outcome options (at event) event ≡ Ok after
        → AllTold list (told_of options k n event)
    told_none event after silent unwritten is =
        let all : writes_with options (at event) n.waiting event ≡ [] =
        ap (λ (ws : List Waiting). ws ++ map (as_waiting event) (writes_of options (at event) event)) (i.node.idle none)
        ∙ ap (λ (ws : List Write). map (as_waiting event) ws) unwritten in
        let there : AllTold list (tells_by options k n (at event) event (Ok after)) =
        subst (λ (ws : List Waiting). AllTold list (flat_map (told_now k) (answers_now options (at event) event) ++ told_due k after.world ws)) (sym all)
        (subst (λ (os : List Output). AllTold list (flat_map (told_now k) os ++ [])) (sym silent) tt) in
        subst (λ (q : Result State Reason). AllTold list (tells_by options k n (at event) event q)) (sym is) there

    -- ---- Feed

    module _ (stored : AllStored log) (meet : Meet 0 log) (whole : IsOk (apply_all empty (list_items list))) (b : StoredBatch) (stands : BatchStandsAt log d.end b) where
      before_is : list ≡ batches_in stands.before ++ value_of_batch b ∷ batches_in stands.after
      before_is = ap (λ (l : List StoredBatch). batches_in l) stands.split ∙ in_append stands.before (b ∷ stands.after)

      split_stored : AllStored (stands.before ++ b ∷ stands.after)
      split_stored = subst (λ (l : List StoredBatch). AllStored l) stands.split stored

      pub its : IsStored b
      its = (all_after IsStored stands.before (b ∷ stands.after) split_stored).0

      items_before : length (list_items (batches_in stands.before)) ≡ d.end
      items_before =
          let at = behind_items 0 stands.before (all_before IsStored stands.before (b ∷ stands.after) split_stored) in
          let begins = stands.begins in
          omega (arith, at, begins)

      found : batch_from d.end list ≡ Some (value_of_batch b)
      found =
          ap (λ (l : List Batch). batch_from d.end l) before_is
          ∙ (ap (λ (n : ℕ). batch_from n (batches_in stands.before ++ value_of_batch b ∷ batches_in stands.after)) (sym items_before)
          ∙ batch_behind (batches_in stands.before) (batches_in stands.after) (value_of_batch b)
          (all_have 0 stands.before (all_before IsStored stands.before (b ∷ stands.after) split_stored)
          (meet_before 0 stands.before (b ∷ stands.after) (subst (Meet 0) stands.split meet))))

      some : AllByRecursion HasItems list
      some = all_have 0 log stored meet

      abbrev f : Follows list n.state.world.log n.state.world.committed
      f = i.node.core.settles

      pub ahead_by : (bs : List Batch) → f.ahead ≡ bs → (others : List Batch) × (f.ahead ≡ value_of_batch b ∷ others)
      ahead_by [] is =
          let end : n.state.world.committed ≡ length (list_items list) = Logs.no_more list n.state.world.log n.state.world.committed f is in
          let long = ap (λ (l : List Batch). length (list_items l)) before_is ∙ ap (λ (l : List Item). length l) (items_append (batches_in stands.before) (value_of_batch b ∷ batches_in stands.after)) in
          let two = length-append (list_items (batches_in stands.before)) ((value_of_batch b).items ++ list_items (batches_in stands.after)) in
          let three = length-append (value_of_batch b).items (list_items (batches_in stands.after)) in
          let own : 0 < length (value_of_batch b).items = (some_behind (batches_in stands.before) (value_of_batch b ∷ batches_in stands.after) (subst (AllByRecursion HasItems) before_is some)).0 in
          let here = items_before in
          let same = i.end in
          absurd (omega (arith, end, long, two, three, own, here, same))
      ahead_by (x ∷ xs) is =
          let first : batch_from n.state.world.committed list ≡ Some x = Logs.next_batch_is list n.state.world.log n.state.world.committed f x xs some is in
          let same : x ≡ value_of_batch b = some_is x (value_of_batch b) (sym first ∙ (ap (λ (n : ℕ). batch_from n list) i.end ∙ found)) in
          (xs, is ∙ ap (λ (y : Batch). y ∷ xs) same)

      pub feed_is : outcome options (at (events.Batch b.bytes)) (events.Batch b.bytes) ≡ take_batch n.state (value_of_batch b)
      feed_is =
          ap (λ (o : Option ℤ). cond (is_some o) (Err (reasons.already_leading o)) (and_then (batch_or (batch_of b.bytes)) (take_batch n.state))) none
          ∙ ap (λ (r : Result Batch BatchFault). and_then (batch_or r) (take_batch n.state)) its.read

      pub feeds : d.leads ≡ None → IsNotRefused options n (events.Batch b.bytes) → Takes (events.Batch b.bytes) (fed d b)
      feeds leads taken =
          let event = events.Batch b.bytes in
          let t = ok_of (outcome options (at event) event) taken in
          let got : take_batch n.state (value_of_batch b) ≡ Ok t.0 = sym feed_is ∙ t.1 in
          let ahead = ahead_by f.ahead refl in
          let a = fed_is options list i.elected k m i.node none (value_of_batch b) ahead.0 ahead.1 whole in
          let node : IsNode list i.elected (built t.0 n.waiting []) = subst (λ (q : Result State Reason). IsNode list i.elected (after_arrival m q)) got a.0 in
          let idle : t.0.world.leading ≡ None = sym (ap (λ (q : Result State Reason). (after_arrival m q).state.world.leading) got) ∙ a.1 in
          let after : t.0 ≡ after_batch n.state (value_of_batch b) = batch_taken n.state (value_of_batch b) t.0 got in
          let tip = tip_end in
          let count = its.count in
          let up : tip_of n.state + length (value_of_batch b).items ≡ d.end + b.count = omega (arith, tip, count) in
          let end : t.0.world.committed ≡ d.end + b.count = ap (λ (s : State). s.world.committed) after ∙ up in
          record {
            daemon = came event t.0 (fed d b) t.1 idle node leads end own_none;
            told = told_none event t.0 refl refl t.1;
            none = none_given (outcome options (at event) event);
          }

    -- ---- Load

    module _ (whole : IsOk (apply_all empty (list_items list))) (image : StoredImage) (right : ImageStandsFor image_bytes log image) (stored : AllStored log)
        (read : (offset : ℤ) (seen : Image) → image.bytes ≡ image_text offset seen → image_of image.bytes ≡ Ok (offset, seen)) where
      abbrev gone : List Item
      gone = list_items (batches_in right.gone)

      abbrev rest : List Item
      rest = list_items (batches_in right.rest)

      items_are : list_items list ≡ gone ++ rest
      items_are = ap (λ (l : List StoredBatch). list_items (batches_in l)) right.split ∙ items_in right.gone right.rest

      gone_length : length gone ≡ image.offset
      gone_length =
          let at = behind_items 0 right.gone (all_before IsStored right.gone right.rest (subst (λ (l : List StoredBatch). AllStored l) right.split stored)) in
          let offset = right.offset in
          omega (arith, at, offset)

      gone_means : apply_all empty gone ≡ Ok (result_unwrap_or (apply_all empty gone) empty)
      gone_means = Logs.ok_is (apply_all empty gone) (Logs.front_means empty gone rest (subst (λ (l : List Item). IsOk (apply_all empty l)) items_are whole))

      -- the whole list as a log
      abbrev all : Log
      all = record { offset = 0; image = empty; items = list_items list }

      all_follows : Follows list all image.offset
      all_follows = record {
        done = batches_in right.gone;
        ahead = batches_in right.rest;
        before = [];
        shared = gone;
        rest = rest;
        list_is = ap (λ (l : List StoredBatch). batches_in l) right.split ∙ in_append right.gone right.rest;
        done_is = refl;
        items_are = items_are;
        offset_is = refl;
        end_is = let long = gone_length in omega (arith, long);
        starts = refl;
      }

      abbrev pub seen : Image
      seen = seen_at all image.offset

      seen_is : result_unwrap_or (apply_all empty gone) empty ≡ seen
      seen_is =
          ap (λ (r : Result Image Ill). result_unwrap_or r empty)
          (sym (Logs.same_image list all image.offset all_follows whole
          ∙ ap (λ (l : List Item). apply_all empty l) (ap (λ (l : List Item). take image.offset l) items_are ∙ take_at gone rest image.offset gone_length)))

      bytes_are : image.bytes ≡ image_text (pos image.offset) seen
      bytes_are =
          right.bytes
          ∙ (ap (λ (r : Result Image Ill). text_of_image (behind 0 right.gone) r) gone_means
          ∙ (ap (λ (end : ℕ). image_text (pos end) (result_unwrap_or (apply_all empty gone) empty)) right.offset
          ∙ ap (λ (x : Image). image_text (pos image.offset) x) seen_is))

      pub load_is : outcome options (at (events.Load image.bytes)) (events.Load image.bytes) ≡ take_image n.state (pos image.offset, seen)
      load_is =
          ap (λ (o : Option ℤ). cond (is_some o) (Err (reasons.already_leading o)) (and_then (image_or (image_of image.bytes)) (take_image n.state))) none
          ∙ ap (λ (r : Result (ℤ × Image) ImageFault). and_then (image_or r) (take_image n.state)) (read (pos image.offset) seen bytes_are)

      pub loads : d.leads ≡ None → IsNotRefused options n (events.Load image.bytes) → Takes (events.Load image.bytes) (loaded d image)
      loads leads taken =
          let event = events.Load image.bytes in
          let t = ok_of (outcome options (at event) event) taken in
          let got : take_image n.state (pos image.offset, seen) ≡ Ok t.0 = sym load_is ∙ t.1 in
          let a = loaded_is options list i.elected k m i.node none all image.offset all_follows whole in
          let node : IsNode list i.elected (built t.0 n.waiting []) = subst (λ (q : Result State Reason). IsNode list i.elected (after_arrival m q)) got a.0 in
          let idle : t.0.world.leading ≡ None = sym (ap (λ (q : Result State Reason). (after_arrival m q).state.world.leading) got) ∙ a.1 in
          let after : t.0 ≡ after_load n.state image.offset seen = image_taken n.state image.offset seen t.0 got in
          record {
            daemon = came event t.0 (loaded d image) t.1 idle node leads (ap (λ (s : State). s.world.committed) after) own_none;
            told = told_none event t.0 refl refl t.1;
            none = none_given (outcome options (at event) event);
          }

    -- ---- Lead

    module _ (epoch : ℕ) (now : ℤ) where
      abbrev f_ : Follows list n.state.world.log n.state.world.committed
      f_ = i.node.core.settles

      abbrev leads_now : Event
      leads_now = events.Lead (pos epoch) (pos n.state.world.committed) now

      -- of the list's beginning that it has
      abbrev own_beginning : IsNode f_.done i.elected m
      own_beginning =
          let c = i.node.core in record {
            core = record {
              committed = record {
                done = f_.done;
                ahead = [];
                before = f_.before;
                shared = f_.shared;
                rest = f_.rest;
                list_is = sym (append-nil f_.done);
                done_is = f_.done_is;
                items_are = f_.items_are;
                offset_is = f_.offset_is;
                end_is = f_.end_is;
                starts = f_.starts;
              };
              settles = record {
                done = f_.done;
                ahead = [];
                before = f_.before;
                shared = f_.shared;
                rest = f_.rest;
                list_is = sym (append-nil f_.done);
                done_is = f_.done_is;
                items_are = f_.items_are;
                offset_is = f_.offset_is;
                end_is = f_.end_is;
                starts = f_.starts;
              };
              order = c.order;
              tail = c.tail;
              some = c.some;
              means = c.means;
              standby = c.standby;
              low = c.low;
              latest = λ is. refl;
            };
            waits = i.node.waits;
            idle = i.node.idle;
          }

      leads_next : int_lt (pos epoch) (pos (epoch + 1)) ≡ true
      leads_next = grind (arith, ints, nat_tests)

      pub leads_at : IsNotRefused options n leads_now → Takes leads_now (told_to_lead d epoch)
      leads_at taken =
          let s = at leads_now in
          let t = ok_of (outcome options s leads_now) taken in
          let a = lead_fine options f_.done i.elected k m own_beginning none (pos epoch) now refl t.0 t.1 in
          let after : t.0 ≡ after_lead s (pos epoch) (pos n.state.world.committed) = led_taken s (pos epoch) (pos n.state.world.committed) t.0 t.1 in
          let tip = tip_end in
          let end = i.end in
          let low : n.state.world.committed ≤ tip_of n.state = omega (arith, tip, end) in
          let leading : t.0.world.leading ≡ Some (pos epoch) = ap (λ (x : State). x.world.leading) after ∙ lead_leading s (pos epoch) (pos n.state.world.committed) low in
          let same : t.0.world.committed ≡ n.state.world.committed = ap (λ (x : State). x.world.committed) after ∙ lead_committed s (pos epoch) (pos n.state.world.committed) low in
          let none_appended : batches_of options s leads_now ≡ [] = none_led list i.elected m i.node options (pos epoch) (pos n.state.world.committed) now in
          let then = after_by options n s leads_now (Ok t.0) in
          let node : IsNode f_.done (pos epoch) (noted then then.state.world.committed []) =
          subst (λ (end : ℕ). IsNode f_.done (pos epoch) (noted then end [])) (sym same)
          (subst (λ (bs : List Batch). IsNode f_.done (pos epoch) (noted then n.state.world.committed bs)) none_appended a.0) in
          let above : (e : ℤ) → t.0.world.leading ≡ Some e → int_lt e (pos (epoch + 1)) ≡ true =
          λ e is. ap (λ (z : ℤ). int_lt z (pos (epoch + 1))) (some_is e (pos epoch) (sym is ∙ leading)) ∙ leads_next in
          let there : IsDaemon list (told_to_lead d epoch) then = record {
            leads = leading;
            end = same ∙ i.end;
            own = tt;
            elected = pos (epoch + 1);
            above = above;
            node = subst (λ (l : List Batch). IsNode l (pos (epoch + 1)) (noted then then.state.world.committed [])) (sym f_.list_is)
                (node_on f_.done f_.ahead (pos epoch) (pos (epoch + 1)) (noted then then.state.world.committed []) above node);
          } in
          record {
            daemon = subst (λ (q : Result State Reason). IsDaemon list (told_to_lead d epoch) (after_by options n s leads_now q)) (sym t.1) there;
            told = told_none leads_now t.0 refl refl t.1;
            none = ap (λ (bs : List Batch). if_accepted (outcome options s leads_now) bs) none_appended ∙ none_given (outcome options s leads_now);
          }

  -- ---- what comes to a leader

  led_at : (epoch : ℕ) → d.leads ≡ Some epoch → n.state.world.leading ≡ Some (pos epoch)
  led_at epoch leads = i.leads ∙ ap (λ (o : Option ℕ). as_led o) leads

  -- ---- Commit: what it commits stands in the list

  module _ (p : Point) (same : log ≡ p.log) (epoch end : ℕ) (leads : d.leads ≡ Some epoch) (whole : behind d.end (ended_batches end d.own) ≡ end)
      (stored : AllStored log) (after : IsFedNode image_bytes p k (committed d end)) where
    abbrev ended : List StoredBatch
    ended = ended_batches end d.own

    abbrev others : List StoredBatch
    others = unended_batches end d.own

    abbrev had : List StoredBatch
    had = after.gone ++ d.batches

    abbrev g : Follows list n.state.world.log n.state.world.committed
    g = i.node.core.settles

    own_stored : AllStored (ended ++ others)
    own_stored = subst (λ (l : List StoredBatch). AllStored l) (sym (ended_joined end d.own)) i.own

    parts : log ≡ (had ++ ended) ++ after.rest
    parts = same ∙ (after.split ∙ ap (λ (l : List StoredBatch). l ++ after.rest) (sym (append_assoc after.gone d.batches ended)))

    parts_stored : AllStored ((had ++ ended) ++ after.rest)
    parts_stored = subst (λ (l : List StoredBatch). AllStored l) parts stored

    had_stored : AllStored had
    had_stored = all_before IsStored had ended (all_before IsStored (had ++ ended) after.rest parts_stored)

    up : end ≡ d.end + length (list_items (batches_in ended))
    up = sym whole ∙ behind_items d.end ended (all_before IsStored ended others own_stored)

    had_length : length (list_items (batches_in had)) ≡ d.end
    had_length =
        let all : behind 0 (after.gone ++ (d.batches ++ ended)) ≡ end = after.end in
        let assoc = ap (λ (l : List StoredBatch). behind 0 l) (append_assoc after.gone d.batches ended) in
        let two = behind_append 0 had ended in
        let more = behind_items (behind 0 had) ended (all_before IsStored ended others own_stored) in
        let first = behind_items 0 had had_stored in
        let high = up in
        omega (arith, all, assoc, two, more, first, high)

    had_is : list_items (batches_in had) ≡ g.before ++ g.shared
    had_is =
        let items = list_items (batches_in had) in
        let more = list_items (batches_in ended) ++ list_items (batches_in after.rest) in
        let split : list_items list ≡ items ++ more =
        ap (λ (l : List StoredBatch). list_items (batches_in l)) (parts ∙ append_assoc had ended after.rest)
        ∙ (items_in had (ended ++ after.rest) ∙ ap (λ (l : List Item). items ++ l) (items_in ended after.rest)) in
        sym (take_at items more d.end had_length)
        ∙ (ap (λ (l : List Item). take d.end l) (sym split ∙ Logs.front_is list n.state.world.log n.state.world.committed g)
        ∙ take_at (g.before ++ g.shared) (list_items g.ahead) d.end (Logs.end_length list n.state.world.log n.state.world.committed g ∙ i.end))

    abbrev settled : Follows list n.state.world.log end
    settled = record {
      done = batches_in (had ++ ended);
      ahead = batches_in after.rest;
      before = g.before;
      shared = g.shared ++ list_items (batches_in ended);
      rest = list_items (batches_in others);
      list_is = ap (λ (l : List StoredBatch). batches_in l) parts ∙ in_append (had ++ ended) after.rest;
      done_is =
          items_in had ended
          ∙ (ap (λ (l : List Item). l ++ list_items (batches_in ended)) had_is ∙ append_assoc g.before g.shared (list_items (batches_in ended)));
      items_are =
          g.items_are
          ∙ (ap (λ (l : List Item). g.shared ++ l)
          (i.node.core.tail ∙ (ap (λ (l : List StoredBatch). list_items (batches_in l)) (sym (ended_joined end d.own)) ∙ items_in ended others))
          ∙ sym (append_assoc g.shared (list_items (batches_in ended)) (list_items (batches_in others))));
      offset_is = g.offset_is;
      end_is =
          let long = length-append g.shared (list_items (batches_in ended)) in
          let here = g.end_is in
          let at = i.end in
          let high = up in
          omega (arith, long, here, at, high);
      starts = g.starts;
    }

    abbrev to_settle : RunNode
    to_settle = noted n end (batches_in others)

    abbrev settles : IsNode list i.elected to_settle
    settles =
        let c = i.node.core in record {
          core = record {
            committed = c.committed;
            settles = settled;
            order = let at = i.end in let high = up in omega (arith, at, high);
            tail = refl;
            some = some_behind (batches_in ended) (batches_in others)
                (subst (AllByRecursion HasItems) (ap (λ (l : List StoredBatch). batches_in l) (sym (ended_joined end d.own)) ∙ in_append ended others) c.some);
            means = c.means;
            standby = λ idle. absurd (never n.state.world.leading idle (led_at epoch leads));
            low = c.low;
            latest = λ is. absurd (not_below i.elected (i.above i.elected is));
          };
          waits = i.node.waits;
          idle = i.node.idle;
        }

    abbrev commits_now : Event
    commits_now = events.Commit (pos epoch) (pos end)

    pub commits : IsNotRefused options n commits_now → Takes commits_now (committed d end)
    commits taken =
        let s = at commits_now in
        let t = ok_of (outcome options s commits_now) taken in
        let then = after_event options n commits_now in
        let a = after_is options list i.elected k to_settle commits_now settles (commit_fine options list i.elected k to_settle settles (pos epoch) (led_at epoch leads)) in
        let none = none_given (outcome options s commits_now) in
        let is : after_event options to_settle commits_now ≡ noted then end (batches_in others) =
        apart options n commits_now end (batches_in others)
        ∙ (ap (λ (bs : List Batch). noted then end (batches_in others ++ bs)) none ∙ ap (λ (bs : List Batch). noted then end bs) (append-nil (batches_in others))) in
        let moved : then.state.world.committed ≡ end =
        ap (λ (q : Result State Reason). (after_by options n s commits_now q).state.world.committed) t.1 ∙ end_moved options s (pos epoch) (pos end) t.0 t.1 in
        let leading : then.state.world.leading ≡ n.state.world.leading = ap (λ (x : RunNode). x.state.world.leading) (sym is) ∙ a.2 in
        record {
          daemon = record {
            leads = leading ∙ i.leads;
            end = moved;
            own = all_after IsStored ended others own_stored;
            elected = i.elected;
            above = λ e led. i.above e (sym leading ∙ led);
            node = subst (IsNode list i.elected) (is ∙ ap (λ (x : ℕ). noted then x (batches_in others)) (sym moved)) a.0;
          };
          told = a.1;
          none = none;
        }

  -- ---- Lost

  pub loses : (epoch : ℕ) → d.leads ≡ Some epoch → Takes (events.Lost (pos epoch)) (after_loss d)
  loses epoch leads =
      let event = events.Lost (pos epoch) in
      let then = after_event options n event in
      let a = lost_is options list i.elected k m i.node (pos epoch) (led_at epoch leads) in
      let is = apart options n event n.state.world.committed (batches_in d.own) in
      let leading : then.state.world.leading ≡ None = ap (λ (x : RunNode). x.state.world.leading) (sym is) ∙ a.2 in
      let same : then.state.world.committed ≡ n.state.world.committed = node_end options n event tt in
      record {
        daemon = record {
          leads = leading;
          end = same ∙ i.end;
          own = tt;
          elected = i.elected;
          above = λ e led. absurd (never then.state.world.leading leading led);
          node = subst (λ (x : RunNode). IsNode list i.elected (at_own_end x)) is a.0;
        };
        told = a.1;
        none = none_given (outcome options (at event) event);
      }
