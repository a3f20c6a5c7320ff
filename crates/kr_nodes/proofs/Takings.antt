-- A node that took an event stands for what law_nodes makes of it.
use Rattle.std.proofs.Common.{◌≡◌, ◌∙◌, sym, subst, ℕ, ℤ, pos, Bool, true, false, cond, List, [], ◌∷◌, ◌++◌, length, map, refl, ap}
use Rattle.std.specs.Prelude.{FitsSigned, Option, Some, None, Result, Ok, Err, filter, unsigned_abs}
use Rattle.std.specs.Int.{w64}
use Rattle.std.specs.List.{AllByRecursion}
use Rattle.std.specs.Option.{option_map_or}
use Rattle.kr_batch.specs.declared.Batch.{Batch}
use Rattle.kr_batch.specs.declared.heading.Heading.{Heading}
use Rattle.kr_batch.specs.BatchBytes.{batch_bytes}
use Rattle.kr_batch.proofs.Batches.{head_there}
use Rattle.kr_batch.proofs.WrittenBatches.{regular_spelled}
use Rattle.kr_calls.specs.declared.events.Event.{Event}
use Rattle.kr_calls.specs.declared.events.Event.TheVariants as events
use Rattle.kr_calls.specs.declared.events.Reason.{Reason}
use Rattle.kr_defs.specs.declared.options.Options.{Options}
use Rattle.kr_defs.specs.declared.record.Item.{Item}
use Rattle.kr_model.specs.declared.writes.Told.{Told as Output_}
use Rattle.kr_model.specs.declared.writes.Write.{Write}
use Rattle.kr_model.specs.Engine.{Core, IsEngine, outputs_left, told_left, writes_in_order}
use Rattle.kr_model.specs.Events.{at_time_of, happens, outcome, time_after}
use Rattle.kr_model.specs.Outputs.{is_open, is_open_in, new_writes, outputs_of, waiting_after}
use Rattle.kr_model.specs.World.{State}
use Rattle.law_nodes.specs.NodeEvents.{writes_in}
use Rattle.law_nodes.specs.Nodes.{RunNode, after_by, after_event, batches_of, told_of}
use Rattle.law_nodes.proofs.NodeEvents.{takes}
use Rattle.kr_nodes.specs.declared.node.Node.{Node}
use Rattle.kr_nodes.specs.declared.shared.ListBatch.{ListBatch}
use Rattle.kr_nodes.specs.declared.told.ToldReply.{ToldReply}
use Rattle.kr_nodes.specs.inner.Handing.{Handed, after_outputs, handed_over}
use Rattle.kr_nodes.specs.inner.Taking.{NodeTakes, if_write, handed_noted}
use Rattle.law_nodes.specs.ReadingBack.{ReadsBack}
use Rattle.kr_nodes.specs.Standing.{StandsForNode, list_batch, told_as}
use Rattle.law_nodes.proofs.ReadBatches.{reads_both}
use Rattle.kr_nodes.proofs.Handings.{at, handed_all, left_is, new_items, told_then}
use Rattle.kr_nodes.proofs.Handings as handings
use Rattle.kr_nodes.proofs.Outputs.{IsCounted, items_in}
use Rattle.law_nodes.proofs.Steady.{node_time}

-- ---- a batch that is read back is counted right

counted : (b : Batch) → ReadsBack b → IsCounted b
counted b r =
    ap (λ n. record { event = events.Batch (batch_bytes b); count = n })
    (ap (λ (o : Option Heading). option_map_or (λ (h : Heading). unsigned_abs h.count) o 0)
    (head_there (batch_bytes b) b (regular_spelled b r.regular)
    ∙ ap (λ t. cond t (Some (record { base = b.base; epoch = b.epoch; count = pos (length b.items) })) None) r.low))

all_counted : (bs : List Batch) → AllByRecursion ReadsBack bs → AllByRecursion IsCounted bs
all_counted [] h = tt
all_counted (b ∷ bs) h = (counted b h.0, all_counted bs h.1)

-- ---- writes that wait are open

again_by : (p : Write → Bool) (x : Write) (xs : List Write) → filter p (filter p xs) ≡ filter p xs → (b : Bool) → p x ≡ b → filter p (cond b (x ∷ filter p xs) (filter p xs)) ≡ cond b (x ∷ filter p xs) (filter p xs)
again_by p x xs rest true is = ap (λ b. cond b (x ∷ filter p (filter p xs)) (filter p (filter p xs))) is ∙ ap (λ (l : List Write). x ∷ l) rest
again_by p x xs rest false is = rest

filter_again : (p : Write → Bool) (xs : List Write) → filter p (filter p xs) ≡ filter p xs
filter_again p [] = refl
filter_again p (x ∷ xs) = again_by p x xs (filter_again p xs) (p x) refl

pub undue : (e : Core) (s : State) (writes : List Write) → IsEngine e s writes → filter (is_open_in s.world) writes ≡ writes
undue e s writes k =
    let same : filter (is_open e.leading e.closed) writes ≡ filter (is_open_in s.world) writes =
    ap (λ (o : Option ℤ). filter (is_open o e.closed) writes) k.leading ∙ ap (λ c. filter (is_open s.world.leading c) writes) k.closed in
    sym same ∙ (ap (λ (l : List Write). filter (is_open e.leading e.closed) l) (sym k.waits) ∙ (filter_again (is_open e.leading e.closed) e.held ∙ k.waits))

-- ---- what stands of a node but for places

pub record TakenNode (options : Options) (n : RunNode) (node : Node) : Type 0 where
  pub options_are : node.engine.options ≡ options
  pub engine : IsEngine node.engine n.state (writes_in n.waiting)
  pub drained : outputs_left node.engine ≡ []
  pub unsettled : node.pending.unsettled.items ≡ map list_batch n.unsettled
  pub waiting : node.pending.waiting.items ≡ map (λ w. w.items) n.waiting
  pub reads : AllByRecursion ReadsBack n.unsettled
  pub time : FitsSigned w64 n.state.basis.time

pub taken_of : (options : Options) (list : List Batch) (n : RunNode) (node : Node) → StandsForNode options list n node → TakenNode options n node
taken_of options list n node s = record { options_are = s.options_are; engine = s.engine; drained = s.drained; unsettled = s.unsettled; waiting = s.waiting; reads = s.reads; time = s.time }

-- ---- an event

-- of an event that is accepted the batches are read back
abbrev pub ReadBy : Options → RunNode → Event → Result State Reason → Type 0
ReadBy options n event (Ok after) = AllByRecursion ReadsBack (batches_of options (at_time_of n.state event) event)
ReadBy options n event (Err reason) = Unit {0}

module _ (options : Options) (k : ℕ) (n : RunNode) (event : Event) (before after : Node) (is_write : Bool) (told told' : List ToldReply) (t : NodeTakes k before after is_write told told' event)
    (stands : TakenNode options n before) where
  abbrev q : Result State Reason
  q = outcome options (at_time_of n.state event) event

  pub stepped_stands : IsEngine t.stepped (happens options n.state event) (waiting_after options n.state (writes_in n.waiting) event)
  stepped_stands =
      subst (λ (o : Options). IsEngine t.stepped (happens o n.state event) (waiting_after o n.state (writes_in n.waiting) event)) stands.options_are
      (t.step.stands n.state (writes_in n.waiting) stands.engine)

  undue_now : filter (is_open_in n.state.world) (writes_in n.waiting) ≡ writes_in n.waiting
  undue_now = undue before.engine n.state (writes_in n.waiting) stands.engine

  after_stands : IsEngine after.engine (after_event options n event).state (writes_in (after_event options n event).waiting)
  after_stands =
      let acts = takes options k n event in
      subst (λ (s : State). IsEngine after.engine s (writes_in (after_event options n event).waiting)) (sym acts.state)
      (subst (λ (ws : List Write). IsEngine after.engine (happens options n.state event) ws) (sym (acts.writes undue_now))
      (t.stands (happens options n.state event) (waiting_after options n.state (writes_in n.waiting) event) stepped_stands))

  held_is : t.stepped.held ≡ writes_in n.waiting ++ new_writes options n.state event
  held_is = t.step.held n.state (writes_in n.waiting) stands.engine ∙ ap (λ (o : Options). writes_in n.waiting ++ new_writes o n.state event) stands.options_are

  left : told_left t.stepped ≡ told_then options k n event q
  left =
      left_is options k n event t.stepped q
      (t.step.outputs n.state (writes_in n.waiting) stands.engine ∙ ap (λ (o : Options). outputs_of o n.state (writes_in n.waiting) event) stands.options_are)
      held_is stepped_stands.leading stepped_stands.closed undue_now

  by_reads : (r : Result State Reason) → ReadBy options n event r → handings.CountedBy options k n event r
  by_reads (Ok s) reads = all_counted (batches_of options (at_time_of n.state event) event) reads
  by_reads (Err reason) reads = tt

  module _ (new : if_write is_write t.stepped.fresh ≡ new_items options k n event q) (reads : ReadBy options n event q) where
    all : (before_told : List ToldReply) → told ≡ before_told → handed_over after.pending told' ≡ handings.after options k n event q before_told
    all before_told same =
        let h = handed_over before.pending told in
        t.all
        ∙ (ap (λ (os : List Output_). after_outputs k (handed_noted is_write t.stepped.fresh h) os) left
        ∙ (ap (λ (l : List ListBatch). after_outputs k (record { unsettled = l; waiting = before.pending.waiting.items ++ if_write is_write t.stepped.fresh; told = told }) (told_then options k n event q)) stands.unsettled
        ∙ (ap (λ (l : List (List Item)). after_outputs k (record { unsettled = map list_batch n.unsettled; waiting = l ++ if_write is_write t.stepped.fresh; told = told }) (told_then options k n event q)) stands.waiting
        ∙ (ap (λ (l : List (List Item)). after_outputs k (record { unsettled = map list_batch n.unsettled; waiting = items_in n.waiting ++ l; told = told }) (told_then options k n event q)) new
        ∙ (ap (λ (l : List ToldReply). after_outputs k (record { unsettled = map list_batch n.unsettled; waiting = items_in n.waiting ++ new_items options k n event q; told = l }) (told_then options k n event q)) same
        ∙ handed_all options k n event q before_told (by_reads q reads) (sym (ap writes_in_order held_is) ∙ stepped_stands.ordered) undue_now)))))

    reads_by : (r : Result State Reason) → ReadBy options n event r → AllByRecursion ReadsBack (after_by options n (at_time_of n.state event) event r).unsettled
    reads_by (Ok s) more = reads_both n.unsettled (batches_of options (at_time_of n.state event) event) stands.reads more
    reads_by (Err reason) more = stands.reads

    pub told_so : (before_told : List ToldReply) → told ≡ before_told → told' ≡ before_told ++ map told_as (told_of options k n event)
    told_so before_told same = ap (λ (h : Handed). h.told) (all before_told same)

    pub taken : FitsSigned w64 (time_after n.state.basis.time event) → TakenNode options (after_event options n event) after
    taken fits = record {
      options_are = t.options ∙ (t.step.options ∙ stands.options_are);
      engine = after_stands;
      drained = t.drained;
      unsettled = ap (λ (h : Handed). h.unsettled) (all told refl);
      waiting = ap (λ (h : Handed). h.waiting) (all told refl);
      reads = reads_by q reads;
      time = subst (λ z. FitsSigned w64 z) (sym (node_time options n event)) fits;
    }
