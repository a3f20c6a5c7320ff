-- A client asks a node.
use Rattle.std.proofs.Common.{◌≡◌, ◌∙◌, sym, ℕ, ℤ, pos, Bool, true, false, cond, List, [], ◌∷◌, length, map, refl, ap}
use Rattle.std.proofs.lemmas.List.{append-nil}
use Rattle.std.specs.Prelude.{◌+ℤ◌, ◌&&◌, FitsSigned, Result, Ok, Err, is_some, not}
use Rattle.std.specs.Int.{w64}
use Rattle.kr_calls.specs.declared.calls.Ask.TheVariants as asks
use Rattle.kr_calls.specs.declared.calls.Call.{Call}
use Rattle.kr_calls.specs.declared.events.Entry.{Entry}
use Rattle.kr_calls.specs.declared.events.Event.{Event}
use Rattle.kr_calls.specs.declared.events.Event.TheVariants as events
use Rattle.kr_calls.specs.declared.events.Reason.{Reason}
use Rattle.kr_calls.specs.Decide.{is_read}
use Rattle.kr_defs.specs.declared.options.Options.{Options}
use Rattle.kr_defs.specs.declared.record.Item.{Item}
use Rattle.kr_defs.specs.declared.record.Record.{Record}
use Rattle.kr_defs.specs.ImageLaws.{as_items}
use Rattle.kr_defs.specs.Log.{Log}
use Rattle.kr_model.specs.declared.writes.Write.{Write}
use Rattle.kr_model.specs.Engine.{IsEngine}
use Rattle.kr_model.specs.Entries.{entries_added, item_entries, items_from, log_entries}
use Rattle.kr_model.specs.Events.{at_time_of, outcome}
use Rattle.kr_model.specs.Outputs.{if_accepted, next_batch, write_of}
use Rattle.kr_model.specs.Reasons.{exhausted}
use Rattle.kr_model.specs.Request.{after_ask, after_write, decision, is_decided}
use Rattle.kr_model.specs.World.{State, is_far, log_with, tip_of}
use Rattle.kr_model.proofs.EventOutcomes.{entries_accepted}
use Rattle.kr_model.proofs.LogEntries.{batch_written, behind, not_none}
use Rattle.law_nodes.specs.Moves.{with_event}
use Rattle.law_nodes.specs.NodeEvents.{writes_in}
use Rattle.law_nodes.specs.Nodes.{RunNode, batch_for, batches_of}
use Rattle.law_nodes.specs.OneList.{list_items}
use Rattle.law_nodes.proofs.Steady.{max_fits}
use Rattle.kr_nodes.specs.declared.node.Node.{Node}
use Rattle.kr_nodes.specs.declared.shared.Shared.{Shared}
use Rattle.kr_nodes.specs.declared.told.ToldReply.{ToldReply}
use Rattle.kr_nodes.specs.inner.Acting as acting
use Rattle.kr_nodes.specs.inner.Acting.{Acts, IsReached, LeavesRun}
use Rattle.kr_nodes.specs.inner.Taking.{NodeTakes, all_items, if_write}
use Rattle.kr_nodes.proofs.Handings.{new_items}
use Rattle.kr_nodes.proofs.Moved.{event_leaves}
use Rattle.kr_nodes.proofs.ReadMoves.{reads_back}
use Rattle.kr_nodes.proofs.Rows.{tick_row}
use Rattle.kr_nodes.proofs.Takings.{taken_of}

-- ---- what is added

items_again : (place : ℤ) (items : List Item) → all_items (item_entries place items) ≡ items
items_again place [] = refl
items_again place (item ∷ items) = ap (λ (l : List Item). item ∷ l) (items_again (place +ℤ pos 1) items)

batch_items : (s : State) (records : List Record) → list_items (batch_for s records) ≡ as_items records
batch_items s [] = refl
batch_items s (r ∷ rs) =
    ap (λ b. list_items (cond b [] (next_batch s (r ∷ rs) ∷ []))) (not_none (length rs)) ∙ append-nil (as_items (r ∷ rs))

module _ (options : Options) (k : ℕ) (n : RunNode) (client : ℕ) (now : ℤ) (call : Call) (write : is_read call.request ≡ false) where
  abbrev event : Event
  event = events.Request client now (asks.Call call)

  abbrev s : State
  s = at_time_of n.state event

  abbrev q : Result State Reason
  q = outcome options s event

  abbrev records : List Record
  records = (decision options s call.request).records

  abbrev after : State
  after = after_ask options s (asks.Call call)

  -- of a write that is decided
  added_items : (fresh : List Entry) → fresh ≡ entries_added n.state event after → is_decided s.world (asks.Call call) ≡ true → all_items fresh ≡ list_items (batches_of options s event)
  added_items fresh is decided =
      let log : after.world.log ≡ log_with s.world.log (as_items records) =
      ap (λ b. (cond b (after_write options s call.request) s).world.log) decided ∙ batch_written s.world (as_items records) in
      let added : items_from after.world.log (tip_of n.state) ≡ as_items records = ap (λ (l : Log). items_from l (tip_of n.state)) log ∙ behind s.world.log (as_items records) in
      ap (λ (es : List Entry). all_items es) is
      ∙ (items_again (pos (tip_of n.state)) (items_from after.world.log (tip_of n.state))
      ∙ (added
      ∙ (sym (batch_items s records) ∙ ap (λ b. list_items (cond b (batch_for s records) [])) (sym decided))))

  by_tests : (fresh : List Entry) (items : List Item) (w : Write) (l r f : Bool) → r ≡ false → (l ≡ true → f ≡ false → all_items fresh ≡ items)
      → if_write (l && not f) fresh ≡ if_accepted (cond ((l && not r) && f) (Err (exhausted (pos (tip_of s)))) (Ok after)) (map (λ (x : Write). items) (cond (l && not r) (w ∷ []) []))
  by_tests fresh items w true false true is same = refl
  by_tests fresh items w true false false is same = ap (λ (x : List Item). x ∷ []) (same refl refl)
  by_tests fresh items w false false f is same = refl
  by_tests fresh items w l true f is same = absurd cc

  module _ (before between : Node) (told told' : List ToldReply) (t : NodeTakes k before between (is_some before.engine.leading && not (is_far before.engine.tip)) told told' event)
      (e : IsEngine before.engine n.state (writes_in n.waiting)) (options_are : before.engine.options ≡ options) where
    fresh_is : q ≡ Ok after → t.stepped.fresh ≡ entries_added n.state event after
    fresh_is got =
        t.step.fresh n.state (writes_in n.waiting) e
        ∙ (ap (λ (o : Options). log_entries o n.state event) options_are ∙ entries_accepted before.engine options n.state (writes_in n.waiting) event after got)

    goes : is_some n.state.world.leading ≡ true → is_far (pos (tip_of n.state)) ≡ false → all_items t.stepped.fresh ≡ list_items (batches_of options s event)
    goes leads near =
        let decided : is_decided s.world (asks.Call call) ≡ true = ap (λ b. b && not (is_read call.request)) leads ∙ ap (λ b. true && not b) write in
        let got : q ≡ Ok after =
        ap (λ b. cond (b && is_far (pos (tip_of s))) (Err (exhausted (pos (tip_of s)))) (Ok after)) decided ∙ ap (λ b. cond b (Err (exhausted (pos (tip_of s)))) (Ok after)) near in
        added_items t.stepped.fresh (fresh_is got) decided

    pub new_is : if_write (is_some before.engine.leading && not (is_far before.engine.tip)) t.stepped.fresh ≡ new_items options k n event q
    new_is =
        ap (λ b. if_write (is_some b && not (is_far before.engine.tip)) t.stepped.fresh) e.leading
        ∙ (ap (λ z. if_write (is_some n.state.world.leading && not (is_far z)) t.stepped.fresh) e.tip
        ∙ by_tests t.stepped.fresh (list_items (batches_of options s event)) (write_of options s client call) (is_some n.state.world.leading) (is_read call.request) (is_far (pos (tip_of n.state))) write goes)

module _ (k client : ℕ) (now : ℤ) (call : Call) (write : is_read call.request ≡ false) (fits : FitsSigned w64 now) (before between : Node) (shared shared' : Shared)
    (t : NodeTakes k before between (is_some before.engine.leading && not (is_far before.engine.tip)) shared.told.items shared'.told.items (events.Request client now (asks.Call call)))
    (same : shared' ≡ record shared { told = shared'.told }) where
  pub ask_acts : Acts (λ options r n. acting.ask_outcome options r k n client now call) k before between shared shared' (Ok tt)
  ask_acts = λ options r n reached is s g.
      let event = events.Request client now (asks.Call call) in
      let is_write = is_some before.engine.leading && not (is_far before.engine.tip) in
      let late = max_fits n.state.basis.time now s.time fits in
      let q = outcome options (at_time_of n.state event) event in (
        with_event options r k n event,
        refl,
        event_leaves options r k n event before between is_write shared shared' t s g
            (new_is options k n client now call write before between shared.told.items shared'.told.items t s.engine s.options_are)
            (reads_back options r k n event before between is_write shared.told.items shared'.told.items t (taken_of options r.list n before s) reached is late q refl) late tt same,
      )

module _ (k : ℕ) (now : ℤ) (fits : FitsSigned w64 now) (before between : Node) (shared shared' : Shared)
    (t : NodeTakes k before between false shared.told.items shared'.told.items (events.Tick now)) (same : shared' ≡ record shared { told = shared'.told }) where
  pub tick_acts : Acts (λ options r n. acting.tick_outcome options r k n now) k before between shared shared' (Ok tt)
  tick_acts = λ options r n reached is s g. tick_row options r k n before between shared shared' is s g same now reached fits t
