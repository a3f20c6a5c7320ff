-- The image of one node's closed end, which another one loads.
use Rattle.std.proofs.Common.{◌≡◌, ◌∙◌, sym, subst, ℕ, zero, suc, ℤ, pos, Bool, true, false, cond, List, [], ◌∷◌, ◌++◌, map, set, refl, ap, arith}
use Rattle.std.specs.Prelude.{IfSome, Option, Some, None, Ok, filter, find}
use Rattle.std.specs.List.{slice_get}
use Rattle.std.specs.Option.{unwrap_or}
use Rattle.std.specs.Ordering.{int_eq}
use Rattle.std.proofs.lemmas.Int.{ints}
use Rattle.std.proofs.lemmas.List.{append-nil}
use Rattle.kr_batch.specs.declared.Batch.{Batch}
use Rattle.kr_calls.specs.declared.events.Event.{Event}
use Rattle.kr_calls.specs.declared.events.Event.TheVariants as events
use Rattle.kr_defs.specs.declared.options.Options.{Options}
use Rattle.kr_defs.specs.Image.{Image, empty}
use Rattle.kr_defs.proofs.Tests.{some_is}
use Rattle.kr_snapshot.specs.Grammar.{IsImage}
use Rattle.kr_snapshot.specs.ImageText.{image_text}
use Rattle.kr_snapshot.specs.Reading.{image_of}
use Rattle.kr_snapshot.proofs.WholeImages.{image_complete}
use Rattle.kr_store.specs.Images.{kept_at}
use Rattle.kr_model.specs.declared.writes.Write.{Write}
use Rattle.kr_model.specs.Engine.{Core, IsEngine, kept_image}
use Rattle.kr_model.specs.Events.{happens, outcome}
use Rattle.kr_model.specs.Outputs.{waiting_after}
use Rattle.kr_model.specs.Load.{take_image}
use Rattle.kr_model.specs.World.{State, closed_of, image_of_closed, seen_at}
use Rattle.kr_model.proofs.KeptImages.{first_found}
use Rattle.law_nodes.specs.Moves.{after_arrival, committed_end}
use Rattle.law_nodes.specs.Nodes.{NodeTold, RunNode, Waiting, after_event, waits_in}
use Rattle.kr_nodes.specs.declared.node.Node.{Node}
use Rattle.kr_nodes.specs.declared.shared.Shared.{Shared}
use Rattle.kr_nodes.specs.declared.told.ToldReply.{ToldReply}
use Rattle.kr_nodes.specs.inner.Acting.{IsIdleNode, skipped}
use Rattle.kr_nodes.specs.inner.Copying.{GivesImage, ImagesNode, IsImageEvent, LoadsEvent, LoadsBytes}
use Rattle.kr_nodes.specs.inner.Taking.{NodeTakes, ReturnsToEnd}
use Rattle.kr_nodes.specs.Standing.{AreBelow, StandsForNode, told_as}
use Rattle.kr_nodes.proofs.Arrivals.{arrival_is, image_is, loaded_to, told_none}
use Rattle.kr_nodes.proofs.Feeds.{none_new, reads_none}
use Rattle.kr_nodes.proofs.OwnEnds.{own_end}
use Rattle.kr_nodes.proofs.Rows.{image_row}
use Rattle.kr_nodes.proofs.Takings.{taken, taken_of, told_so}

-- the image at the closed end is always kept
kept_closed : (e : Core) (s : State) (writes : List Write) → IsEngine e s writes → kept_at e.images e.closed ≡ Some (image_of_closed s)
kept_closed e s writes k =
    let end = closed_of s.world in
    ap (kept_at e.images) k.closed
    ∙ (ap (λ (kept : List (ℤ × Image)). kept_at (record e.images { kept = kept }) (pos end)) k.kept
    ∙ first_found s.world.log end (find (λ (i : ℤ × Image). int_eq i.0 (pos end)) (map (kept_image s.world.log) (s.world.covered ++ s.world.batch_ends))))

-- and that at the committed end, where it is the same
pub kept_end : (e : Core) (s : State) (writes : List Write) → IsEngine e s writes → closed_of s.world ≡ s.world.committed → kept_at e.images e.committed ≡ Some (seen_at s.world.log s.world.committed)
kept_end e s writes k same =
    ap (kept_at e.images) (k.committed ∙ (ap (λ n. pos n) (sym same) ∙ sym k.closed))
    ∙ (kept_closed e s writes k ∙ ap (λ n. Some (seen_at s.world.log n)) same)

read_by : (end : ℤ) (image : Image) (o : Option Image) → o ≡ Some image → IfSome o (λ i. IsImage end i (image_text end i)) → image_of (image_text end (unwrap_or o empty)) ≡ Ok (end, image)
read_by end image None is stands = absurd cc
read_by end image (Some kept) is stands = image_complete end kept (image_text end kept) stands ∙ ap (λ (i : Image). Ok (end, i)) (some_is kept image is)

pub gives : (node : Node) (event : Event) → IsImageEvent node.engine event → GivesImage node event
gives node event i =
    subst (GivesImage node) (sym i.is)
    (λ options list n s. read_by node.engine.closed (image_of_closed n.state) (kept_at node.engine.images node.engine.closed) (kept_closed node.engine n.state _ s.engine) i.stands)

pub still_idle : (k : ℕ) (before after : Node) (is_write : Bool) (told told' : List ToldReply) (event : Event) → NodeTakes k before after is_write told told' event → IsIdleNode before → IsIdleNode after
still_idle k before after is_write told told' event t i =
    let s = i.sound in record {
      sound = record {
        state = happens before.engine.options s.state event;
        writes = waiting_after before.engine.options s.state s.writes event;
        stands = t.stands (happens before.engine.options s.state event) (waiting_after before.engine.options s.state s.writes event) (t.step.stands s.state s.writes s.stands);
      };
      drained = t.drained;
    }

pub images : (k : ℕ) (before after : Node) (shared shared' : Shared) (event : Event) → IsIdleNode before → IsImageEvent before.engine event → NodeTakes k before after false shared.told.items shared'.told.items events.Image → shared' ≡ record shared { told = shared'.told }
    → ImagesNode k before after shared shared' event
images k before after shared shared' event idle i t same = record {
  gives = gives before event i;
  idle = still_idle k before after false shared.told.items shared'.told.items events.Image t idle;
  goes = λ options r n is s g. image_row options r k n before after shared shared' is s g same t;
}

-- ---- loading

module _ (k : ℕ) (before between after : Node) (bytes : List ℕ) (end : ℤ) (fed : ℕ) (told told' : List ToldReply) (t : NodeTakes k before between false told told' (events.Load bytes))
    (back : ReturnsToEnd (record between { fed = skipped end fed between }) after) where
  fed_by : (list : List Batch) (n : RunNode) (place to : ℕ) → end ≡ pos place → between.engine.committed ≡ pos to → AreBelow list place fed → AreBelow list (committed_end n) before.fed → ((to ≡ place → ⊥) → to ≡ committed_end n)
      → (b : Bool) → int_eq between.engine.committed end ≡ b → AreBelow list to (cond b fed between.fed)
  fed_by list n place to is at below old stays true test =
      let there : to ≡ place = grind (arith, ints) in
      subst (λ c. AreBelow list c fed) (sym there) below
  fed_by list n place to is at below old stays false test =
      let here : to ≡ committed_end n = stays (λ there. absurd (grind (arith, ints))) in
      subst (AreBelow list to) (sym t.places.fed) (subst (λ c. AreBelow list c before.fed) (sym here) old)

  loads_bytes : LoadsBytes k before after bytes end fed told told'
  loads_bytes = λ options list n place image s none idle is reads below.
      let event = events.Load bytes in
      let x : ℤ × Image = (pos place, image) in
      let q = take_image n.state x in
      let m = after_arrival n q in
      let r_none = reads_none options n event refl (outcome options n.state event) in
      let arrived = arrival_is options k n idle event tt q (image_is options n.state none bytes x reads) in
      let own = taken options k n event before between false told told' t (taken_of options list n before s) (none_new (outcome options n.state event)) r_none s.time in
      let moved : (after_event options n event).state.world.committed ≡ m.state.world.committed = ap (λ (y : RunNode). y.state.world.committed) arrived in
      let at : between.engine.committed ≡ pos m.state.world.committed = own.engine.committed ∙ ap (λ c. pos c) moved in
      let fed' = fed_by list n place m.state.world.committed is at below s.fed (λ other. loaded_to n x other) (int_eq between.engine.committed end) refl in (
        subst (λ (y : RunNode). StandsForNode options list y after) arrived
            (own_end options list (after_event options n event) (record between { fed = skipped end fed between }) after
            (record { options_are = own.options_are; engine = own.engine; drained = own.drained; unsettled = own.unsettled; waiting = own.waiting; reads = own.reads; time = own.time })
            back (subst (λ c. AreBelow list c (skipped end fed between)) (sym moved) fed')),
        told_so options k n event before between false told told' t (taken_of options list n before s) (none_new (outcome options n.state event)) r_none told refl
            ∙ (ap (λ (l : List NodeTold). told ++ map told_as l) (told_none options k n idle event tt) ∙ append-nil told),
      )

pub loads : (k : ℕ) (before between after : Node) (event : Event) (end : ℤ) (fed : ℕ) (told told' : List ToldReply) → NodeTakes k before between false told told' event
    → ReturnsToEnd (record between { fed = skipped end fed between }) after → LoadsEvent k before after event end fed told told'
loads k before between after (events.Load bytes) end fed told told' t back = loads_bytes k before between after bytes end fed told told' t back
loads k before between after (events.Batch bytes) end fed told told' t back = tt
loads k before between after (events.Lead epoch next now) end fed told told' t back = tt
loads k before between after (events.Commit epoch to) end fed told told' t back = tt
loads k before between after (events.Lost epoch) end fed told told' t back = tt
loads k before between after (events.Tick now) end fed told told' t back = tt
loads k before between after (events.Request client now ask) end fed told told' t back = tt
loads k before between after events.Image end fed told told' t back = tt

-- ---- a node that gave its image waits for nothing more

pub none_imaged : (options : Options) (f : RunNode) → f.waiting ≡ [] → (after_event options f events.Image).waiting ≡ []
none_imaged options f idle = ap (λ (ws : List Waiting). filter (waits_in f.state.world) (ws ++ [])) idle

pub set_waiting : (ns : List RunNode) (from to : ℕ) (f after n t : RunNode) → slice_get ns from ≡ Some f → slice_get ns to ≡ Some t → slice_get (set ns from after) to ≡ Some n
    → (f.waiting ≡ [] → after.waiting ≡ []) → t.waiting ≡ [] → n.waiting ≡ []
set_waiting [] from to f after n t is_f is_t is_n same idle = absurd cc
set_waiting (x ∷ xs) zero zero f after n t is_f is_t is_n same idle =
    ap (λ (m : RunNode). m.waiting) (sym (some_is after n is_n)) ∙ same (ap (λ (m : RunNode). m.waiting) (sym (some_is x f is_f) ∙ some_is x t is_t) ∙ idle)
set_waiting (x ∷ xs) zero (suc to) f after n t is_f is_t is_n same idle = ap (λ (m : RunNode). m.waiting) (some_is n t (sym is_n ∙ is_t)) ∙ idle
set_waiting (x ∷ xs) (suc from) zero f after n t is_f is_t is_n same idle = ap (λ (m : RunNode). m.waiting) (some_is n t (sym is_n ∙ is_t)) ∙ idle
set_waiting (x ∷ xs) (suc from) (suc to) f after n t is_f is_t is_n same idle = set_waiting xs from to f after n t is_f is_t is_n same idle
