-- A daemon is a controller whose state stands for what law_link says of it, and each event keeps that so.
use Rattle.std.proofs.Common.{◌≡◌, ◌∙◌, sym, subst, ℕ, ℤ, pos, ◌+◌, true, List, [], ◌++◌, length, map, take, refl, ap, arith}
use Rattle.std.specs.Prelude.{int_lt, ◌&&◌, Option, Some, None, Result, Ok, Err, IsOk}
use Rattle.std.specs.List.{AllByRecursion}
use Rattle.std.proofs.lemmas.Int.{ints}
use Rattle.std.proofs.lemmas.List.{append-nil, append_assoc, length-append, take_at}
use Rattle.kr_batch.specs.declared.Batch.{Batch}
use Rattle.kr_calls.specs.declared.calls.Ask.{Ask}
use Rattle.kr_calls.specs.declared.calls.Ask.TheVariants as asks
use Rattle.kr_calls.specs.declared.calls.AskFault.{AskFault}
use Rattle.kr_calls.specs.declared.events.Event.{Event}
use Rattle.kr_calls.specs.declared.events.Event.TheVariants as events
use Rattle.kr_calls.specs.declared.events.Reason.{Reason}
use Rattle.kr_defs.specs.declared.ill.Ill.{Ill}
use Rattle.kr_defs.specs.declared.options.Options.{Options}
use Rattle.kr_defs.specs.declared.record.Item.{Item}
use Rattle.kr_defs.specs.Image.{Image, empty}
use Rattle.kr_defs.specs.Log.{apply_all}
use Rattle.kr_defs.proofs.Tests.{Gives, gives_done, gives_refuse}
use Rattle.kr_model.specs.Events.{at_time_of, outcome, time_after}
use Rattle.kr_model.specs.Outputs.{if_accepted}
use Rattle.kr_model.specs.Reasons.{exhausted}
use Rattle.kr_model.specs.Request.{is_decided}
use Rattle.kr_model.specs.World.{State, is_far, tip_of}
use Rattle.law_quorum.specs.Batches.{behind}
use Rattle.law_quorum.specs.Batches.{Batch as StoredBatch}
use Rattle.law_quorum.specs.Nodes.{Node}
use Rattle.law_quorum.proofs.Places.{all_append}
use Rattle.law_nodes.specs.Nodes.{RunNode, after_by, after_event, batches_of, told_of}
use Rattle.law_nodes.specs.OneList.{list_items}
use Rattle.law_nodes.proofs.Invariant.{IsCore, IsNode, core_at}
use Rattle.law_nodes.proofs.LeaderLogs.{core_more}
use Rattle.law_nodes.proofs.Logs
use Rattle.law_nodes.proofs.Replies.{AllTold, waits_both}
use Rattle.law_nodes.proofs.Steady.{LeavesEnd, node_end}
use Rattle.law_nodes.proofs.Steps.{Fine, after_is, fine, image_fine, request_fine, tick_fine}
use Rattle.law_one_log.specs.Daemons.{IsReadBatch, batches_given}
use Rattle.law_one_log.specs.StoredBatches.{batches_in, stored}
use Rattle.law_one_log.proofs.NextBatches.{NextBy, accepted_next, as_led, request_next, tick_next}
use Rattle.law_one_log.proofs.ReadLists.{AllStored, IsStored, all_read, behind_items, in_append}

-- a node, with what it had of the list and what it appended
abbrev pub noted : RunNode → ℕ → List Batch → RunNode
noted n settled unsettled = record n { settled = settled; unsettled = unsettled }

abbrev pub with_own : RunNode → Node → RunNode
with_own n d = noted n n.state.world.committed (batches_in d.own)

pub record IsDaemon (list : List Batch) (d : Node) (n : RunNode) : Type 0 where
  pub leads : n.state.world.leading ≡ as_led d.leads
  pub end : n.state.world.committed ≡ d.end
  pub own : AllStored d.own
  -- an epoch above the one that it leads
  pub elected : ℤ
  pub above : (epoch : ℤ) → n.state.world.leading ≡ Some epoch → int_lt epoch elected ≡ true
  pub node : IsNode list elected (with_own n d)

-- the list grows, and later epochs are led
pub node_on : (list more : List Batch) (elected to : ℤ) (m : RunNode) → ((epoch : ℤ) → m.state.world.leading ≡ Some epoch → int_lt epoch to ≡ true) → IsNode list elected m
    → IsNode (list ++ more) to m
node_on list more elected to m above i =
    let c = i.core in record {
      core = record {
        committed = Logs.longer_list list more m.state.world.log m.state.world.committed c.committed;
        settles = Logs.longer_list list more m.state.world.log m.settled c.settles;
        order = c.order;
        tail = c.tail;
        some = c.some;
        means = c.means;
        standby = c.standby;
        low = λ e is. let up = above e is in grind (arith, ints);
        latest = λ is. absurd (let up = above to is in grind (arith, ints));
      };
      waits = i.waits;
      idle = i.idle;
    }

pub daemon_on : (list more : List Batch) (d : Node) (n : RunNode) → IsDaemon list d n → IsDaemon (list ++ more) d n
daemon_on list more d n i = record {
  leads = i.leads;
  end = i.end;
  own = i.own;
  elected = i.elected;
  above = i.above;
  node = node_on list more i.elected i.elected (with_own n d) i.above i.node;
}

-- its tip is behind what it appended
pub tip_is : (list : List Batch) (d : Node) (n : RunNode) → IsDaemon list d n → tip_of n.state ≡ behind d.end d.own
tip_is list d n i =
    let f = i.node.core.settles in
    let long : length n.state.world.log.items ≡ length f.shared + length (list_items (batches_in d.own)) =
    ap (λ (l : List Item). length l) (f.items_are ∙ ap (λ (l : List Item). f.shared ++ l) i.node.core.tail) ∙ length-append f.shared (list_items (batches_in d.own)) in
    let at = behind_items d.end d.own i.own in
    let here = f.end_is in
    let end = i.end in
    omega (arith, long, at, here, end)

-- what it appended has a meaning behind what the list has below its end
pub sense_of : (list : List Batch) (d : Node) (n : RunNode) → IsDaemon list d n → IsOk (apply_all empty (take d.end (list_items list) ++ list_items (batches_in d.own)))
sense_of list d n i =
    let log = n.state.world.log in
    let end = n.state.world.committed in
    let f = i.node.core.settles in
    let own = list_items (batches_in d.own) in
    let below : take d.end (list_items list) ≡ f.before ++ f.shared =
    ap (λ (l : List Item). take d.end l) (Logs.front_is list log end f) ∙ take_at (f.before ++ f.shared) (list_items f.ahead) d.end (Logs.end_length list log end f ∙ i.end) in
    let there : IsOk (apply_all log.image (f.shared ++ own)) =
    subst (λ (l : List Item). IsOk (apply_all log.image l)) (f.items_are ∙ ap (λ (l : List Item). f.shared ++ l) i.node.core.tail) i.node.core.means in
    subst (λ (l : List Item). IsOk (apply_all empty l)) (sym (append_assoc f.before f.shared own) ∙ ap (λ (l : List Item). l ++ own) (sym below))
    (subst (λ (r : Result Image Ill). IsOk r) (sym (Logs.from_start list log end f (f.shared ++ own))) there)

-- ---- an event of its own

-- what was noted stays, and what the event appends is put behind it
module _ (options : Options) (n : RunNode) (event : Event) (settled : ℕ) (unsettled : List Batch) where
  apart_by : (q : Result State Reason)
      → after_by options (noted n settled unsettled) (at_time_of n.state event) event q
      ≡ noted (after_by options n (at_time_of n.state event) event q) settled (unsettled ++ if_accepted q (batches_of options (at_time_of n.state event) event))
  apart_by (Ok after) = refl
  apart_by (Err reason) = ap (λ (bs : List Batch). noted (after_by options n (at_time_of n.state event) event (Err reason)) settled bs) (sym (append-nil unsettled))

  pub apart : after_event options (noted n settled unsettled) event ≡ noted (after_event options n event) settled (unsettled ++ batches_given options n event)
  apart = apart_by (outcome options (at_time_of n.state event) event)

abbrev pub with_batches : Node → List StoredBatch → Node
with_batches d bs = record d { own = d.own ++ bs }

module _ (options : Options) (list : List Batch) (k : ℕ) (d : Node) (n : RunNode) (i : IsDaemon list d n) where
  abbrev m : RunNode
  m = with_own n d

  abbrev FineAt : Event → Type 0
  FineAt event = Gives (Fine options list i.elected k m event) (outcome options (at_time_of n.state event) event)

  -- what comes of it
  pub record Lives (event : Event) : Type 0 where
    pub daemon : IsDaemon list (with_batches d (map (λ (b : Batch). stored b) (batches_given options n event))) (after_event options n event)
    pub told : AllTold list (told_of options k n event)

  pub serves : (event : Event) → FineAt event → LeavesEnd event → AllStored (map (λ (b : Batch). stored b) (batches_given options n event)) → AllByRecursion IsReadBatch (batches_given options n event)
      → Lives event
  serves event fine leaves have reads =
      let then = after_event options n event in
      let given = batches_given options n event in
      let kept = map (λ (b : Batch). stored b) given in
      let a = after_is options list i.elected k m event i.node fine in
      let same : then.state.world.committed ≡ n.state.world.committed = node_end options n event leaves in
      let is = apart options n event n.state.world.committed (batches_in d.own) in
      let own : batches_in d.own ++ given ≡ batches_in (d.own ++ kept) = sym (in_append d.own kept ∙ ap (λ (bs : List Batch). batches_in d.own ++ bs) (all_read given reads)) in
      let to : after_event options m event ≡ with_own then (with_batches d kept) =
      is ∙ (ap (λ (end : ℕ). noted then end (batches_in d.own ++ given)) (sym same) ∙ ap (λ (bs : List Batch). noted then then.state.world.committed bs) own) in
      let leading : then.state.world.leading ≡ n.state.world.leading = ap (λ (x : RunNode). x.state.world.leading) (sym is) ∙ a.2 in
      record {
        daemon = record {
          leads = leading ∙ i.leads;
          end = same ∙ i.end;
          own = all_append IsStored d.own kept i.own have;
          elected = i.elected;
          above = λ epoch led. i.above epoch (sym leading ∙ led);
          node = subst (IsNode list i.elected) to a.0;
        };
        told = a.1;
      }

  bare_fine : (client : ℕ) (now : ℤ) (correlation : ℤ) (fault : AskFault) → FineAt (events.Request client now (asks.Bare correlation fault))
  bare_fine client now correlation fault =
      let event = events.Request client now (asks.Bare correlation fault) in
      let s = at_time_of n.state event in
      let P = Fine options list i.elected k m event in
      let core : IsCore list i.elected s m.settled m.unsettled = core_at list i.elected n.state m.settled m.unsettled n.state.world.count (time_after n.state.basis.time event) i.node.core in
      gives_refuse P (exhausted (pos (tip_of s))) (is_decided s.world (asks.Bare correlation fault) && is_far (pos (tip_of s))) _ (λ _.
      gives_done P s (fine options list i.elected k m event s (core_more list i.elected m.settled s m.unsettled core) (waits_both s.world.log n.waiting [] i.node.waits tt) refl))

  pub request_is : (client : ℕ) (now : ℤ) (ask : Ask) → FineAt (events.Request client now ask)
  request_is client now (asks.Call call) = request_fine options list i.elected k m i.node client now call
  request_is client now (asks.Bare correlation fault) = bare_fine client now correlation fault

  pub tick_is : (now : ℤ) → FineAt (events.Tick now)
  tick_is now = tick_fine options list i.elected k m i.node now

  pub image_is : FineAt events.Image
  image_is = image_fine options list i.elected k m i.node

  -- what it appends
  pub request_given : (client : ℕ) (now : ℤ) (ask : Ask) → NextBy d.leads (tip_of n.state) (batches_given options n (events.Request client now ask))
  request_given client now (asks.Call call) =
      let event = events.Request client now (asks.Call call) in
      let s = at_time_of n.state event in
      accepted_next d.leads (tip_of n.state) (batches_of options s event) (outcome options s event) (request_next options s d.leads i.leads call)
  request_given client now (asks.Bare correlation fault) = none_next d.leads
    where
      none_next : (o : Option ℕ) → NextBy o (tip_of n.state) (batches_given options n (events.Request client now (asks.Bare correlation fault)))
      none_next None = refl
      none_next (Some epoch) = tt

  pub tick_given : (now : ℤ) → NextBy d.leads (tip_of n.state) (batches_given options n (events.Tick now))
  tick_given now =
      let event = events.Tick now in
      let s = at_time_of n.state event in
      accepted_next d.leads (tip_of n.state) (batches_of options s event) (outcome options s event) (tick_next options s d.leads i.leads (λ none. (i.node.core.standby none).2))
