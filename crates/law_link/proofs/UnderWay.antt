-- One daemon, and what is under way to it.
use Rattle.std.proofs.Common.{◌≡◌, ◌∙◌, sym, ℕ, ◌+◌, ◌<◌, true, false, cond, List, [], ◌∷◌, ◌++◌, refl, ap, subst, arith, inl, inr, ◌⊎◌}
use Rattle.std.proofs.lemmas.Bool.Decides.{nat_tests}
use Rattle.std.proofs.lemmas.List.{append_assoc, append-nil}
use Rattle.std.specs.Prelude.{Option, None, Some, nat_le, option_to_list}
use Rattle.std.specs.Option.{unwrap_or}
use Rattle.std.specs.List.{AllByRecursion}
use Rattle.law_quorum.specs.Batches.{Batch, BatchStandsAt, ImageStandsFor, behind}
use Rattle.law_quorum.specs.Changes.{Change}
use Rattle.law_quorum.specs.History.{Point, point_after}
use Rattle.law_quorum.specs.Nodes.{IsAllowedMove, Led, MayCommit, Node, after_loss, committed, ended_batches, fed, loaded, told_to_lead, unended_batches}
use Rattle.law_quorum.proofs.Places.{all_append, behind_append, stands_later}
use Rattle.law_quorum.proofs.ReadKeys.{images_stand_later}
use Rattle.law_quorum.proofs.WholeHistories.{grows_from}
use Rattle.law_quorum.proofs.FedNodes.{led_stays}
use Rattle.law_link.specs.Links.{Has, Held}
use Rattle.law_link.specs.Frames.{Frame, Feed, Load, Lead, Commit, Lost, move_of}

abbrev pub after_frame : Node → Frame → Node
after_frame d (Feed b) = fed d b
after_frame d (Load image) = loaded d image
after_frame d (Lead epoch end) = told_to_lead d epoch
after_frame d (Commit epoch end) = committed d end
after_frame d (Lost epoch) = after_loss d

-- a daemon that stands so may be handed the frame
abbrev pub MayArrive : (List Batch → List ℕ) → Point → ℕ → Node → Frame → Type 0
MayArrive make p k d frame = IsAllowedMove make (record { point = p; nodes = λ j. d }) (move_of k frame)

-- the frames make of the daemon what its link sees in it, and each may arrive in its turn
abbrev pub Reaches : (List Batch → List ℕ) → Point → ℕ → Node → List Frame → Node → Type 0
Reaches make p k d [] v = v ≡ d
Reaches make p k d (frame ∷ frames) v = MayArrive make p k d frame × Reaches make p k (after_frame d frame) frames v

-- ---- the epochs that it leads, or is to lead

abbrev pub epoch_begun : Frame → List ℕ
epoch_begun (Lead epoch end) = epoch ∷ []
epoch_begun other = []

abbrev pub epochs_begun : List Frame → List ℕ
epochs_begun [] = []
epochs_begun (frame ∷ frames) = epoch_begun frame ++ epochs_begun frames

abbrev pub epochs_led : Option ℕ → List Frame → List ℕ
epochs_led leads frames = option_to_list leads ++ epochs_begun frames

abbrev pub Once : List ℕ → Type 0
Once [] = Unit {0}
Once (e ∷ es) = (Has e es → ⊥) × Once es

-- its epochs are some that its link won, each once; and one that its link holds and hasn't handed in isn't among them
pub record IsUnderWay (make : List Batch → List ℕ) (p : Point) (k : ℕ) (d : Node) (frames : List Frame) (v : Node) (won : List ℕ) (held : Option Held) : Type 0 where
  pub reaches : Reaches make p k d frames v
  pub won_all : AllByRecursion (λ e. Has e won) (epochs_led d.leads frames)
  pub once : Once (epochs_led d.leads frames)
  pub fresh : v.leads ≡ None → (h : Held) → held ≡ Some h → Has h.epoch (epochs_led d.leads frames) → ⊥

pub none_leads : {X : Type 0} (leads : Option ℕ) (epoch : ℕ) → leads ≡ None → leads ≡ Some epoch → X
none_leads leads epoch none some = (let e : None ≡ Some epoch = sym none ∙ some in absurd cc)

pub same_epoch : (a b : ℕ) → Some a ≡ Some b → a ≡ b
same_epoch a b e = ap (λ o. unwrap_or o a) e

has_before : (x e : ℕ) (es : List ℕ) → Has x (es ++ e ∷ []) → Has x es ⊎ (x ≡ e)
has_before x e [] h = elim h [ inl same ↦ inr same | inr none ↦ absurd none ]
has_before x e (y ∷ es) h = elim h [
  | inl same ↦ inl (inl same)
  | inr h ↦ elim (has_before x e es h) [ inl has ↦ inl (inr has) | inr same ↦ inr same ]
]

once_more : (e : ℕ) (es : List ℕ) → Once es → (Has e es → ⊥) → Once (es ++ e ∷ [])
once_more e [] o new = ((λ none. none), tt)
once_more e (x ∷ es) (first, o) new = (
  (λ has. elim (has_before x e es has) [ inl h ↦ first h | inr same ↦ new (inl (sym same)) ]),
  once_more e es o (λ has. new (inr has)),
)

pub begun_append : (frames : List Frame) (frame : Frame) → epochs_begun (frames ++ frame ∷ []) ≡ epochs_begun frames ++ epoch_begun frame
begun_append [] frame = append-nil (epoch_begun frame)
begun_append (f ∷ frames) frame =
    ap (λ (es : List ℕ). epoch_begun f ++ es) (begun_append frames frame) ∙ sym (append_assoc (epoch_begun f) (epochs_begun frames) (epoch_begun frame))

led_append : (leads : Option ℕ) (frames : List Frame) (frame : Frame) → epochs_led leads (frames ++ frame ∷ []) ≡ epochs_led leads frames ++ epoch_begun frame
led_append leads frames frame =
    ap (λ (es : List ℕ). option_to_list leads ++ es) (begun_append frames frame) ∙ sym (append_assoc (option_to_list leads) (epochs_begun frames) (epoch_begun frame))

-- ---- what a daemon writes behind frames that are under way

abbrev pub written : Node → Batch → Node
written d b = record d { own = d.own ++ b ∷ [] }

pub ended_joined : (end : ℕ) (bs : List Batch) → ended_batches end bs ++ unended_batches end bs ≡ bs
ended_joined end [] = refl
ended_joined end (b ∷ bs) = elim (nat_le (b.base + b.count) end) as (λ t. cond t (b ∷ ended_batches end bs) [] ++ cond t (unended_batches end bs) (b ∷ bs) ≡ b ∷ bs) [
  | true ↦ ap (λ (xs : List Batch). b ∷ xs) (ended_joined end bs)
  | false ↦ refl
]

-- a commit up to where a batch of them ends is of none that is written behind
ended_before : (from end : ℕ) (b : Batch) (own : List Batch) → b.base ≡ behind from own → 0 < b.count → behind from (ended_batches end own) ≡ end
    → (ended_batches end (own ++ b ∷ []) ≡ ended_batches end own) × (unended_batches end (own ++ b ∷ []) ≡ unended_batches end own ++ b ∷ [])
ended_before from end b [] base some whole =
    let at : b.base ≡ from = base in
    let ends : from ≡ end = whole in
    let t : nat_le (b.base + b.count) end ≡ false = grind (arith, nat_tests) in
    (ap (λ x. cond x (b ∷ []) []) t, ap (λ x. cond x [] (b ∷ [])) t)
ended_before from end b (x ∷ own) base some whole =
    (elim (nat_le (x.base + x.count) end) as (λ t. behind from (cond t (x ∷ ended_batches end own) []) ≡ end
    → (cond t (x ∷ ended_batches end (own ++ b ∷ [])) [] ≡ cond t (x ∷ ended_batches end own) [])
    × (cond t (unended_batches end (own ++ b ∷ [])) (x ∷ own ++ b ∷ []) ≡ cond t (unended_batches end own) (x ∷ own) ++ b ∷ [])) [
      | true ↦ λ ends. (let r = ended_before (from + x.count) end b own base some ends in (ap (λ (xs : List Batch). x ∷ xs) r.0, r.1))
      | false ↦ λ ends. (refl, refl)
    ]) whole

commit_written : (d : Node) (end : ℕ) (b : Batch) → b.base ≡ behind d.end d.own → 0 < b.count → behind d.end (ended_batches end d.own) ≡ end
    → committed (written d b) end ≡ written (committed d end) b
commit_written d end b base some whole =
    let r = ended_before d.end end b d.own base some whole in
    ap (λ (xs : List Batch). record d { batches = d.batches ++ xs; end = end; settled = d.settled ++ xs; own = unended_batches end (d.own ++ b ∷ []) }) r.0
    ∙ ap (λ (ys : List Batch). record d { batches = d.batches ++ ended_batches end d.own; end = end; settled = d.settled ++ ended_batches end d.own; own = ys }) r.1

-- behind a commit under way a daemon's batches go on where they did
commit_tip : (d : Node) (end : ℕ) → behind d.end (ended_batches end d.own) ≡ end → behind end (unended_batches end d.own) ≡ behind d.end d.own
commit_tip d end whole =
    ap (λ (m : ℕ). behind m (unended_batches end d.own)) (sym whole)
    ∙ (sym (behind_append d.end (ended_batches end d.own) (unended_batches end d.own)) ∙ ap (behind d.end) (ended_joined end d.own))

module _ (make : List Batch → List ℕ) where
  -- ---- one more is under way

  reaches_more : (p : Point) (k : ℕ) (d : Node) (frames : List Frame) (v : Node) (frame : Frame) → Reaches make p k d frames v → MayArrive make p k v frame
      → Reaches make p k d (frames ++ frame ∷ []) (after_frame v frame)
  reaches_more p k d [] v frame r a = (subst (λ (x : Node). MayArrive make p k x frame) r a, ap (λ (x : Node). after_frame x frame) r)
  reaches_more p k d (f ∷ frames) v frame (here, r) a = (here, reaches_more p k (after_frame d f) frames v frame r a)

  module _ (p : Point) (k : ℕ) (d : Node) (frames : List Frame) (v : Node) (won : List ℕ) (held : Option Held) (w : IsUnderWay make p k d frames v won held) where
    -- a frame that begins no epoch
    pub sent_on : (frame : Frame) (then : Option Held) → epoch_begun frame ≡ [] → MayArrive make p k v frame
        → ((after_frame v frame).leads ≡ None → (h : Held) → then ≡ Some h → Has h.epoch (epochs_led d.leads frames) → ⊥)
        → IsUnderWay make p k d (frames ++ frame ∷ []) (after_frame v frame) won then
    sent_on frame then none a fresh =
        let same : epochs_led d.leads frames ≡ epochs_led d.leads (frames ++ frame ∷ []) =
        sym (append-nil (epochs_led d.leads frames))
        ∙ (ap (λ (es : List ℕ). epochs_led d.leads frames ++ es) (sym none) ∙ sym (led_append d.leads frames frame)) in
        record {
          reaches = reaches_more p k d frames v frame w.reaches a;
          won_all = subst (AllByRecursion (λ (e : ℕ). Has e won)) same w.won_all;
          once = subst Once same w.once;
          fresh = λ standby h is has. fresh standby h is (subst (Has h.epoch) (sym same) has);
        }

    pub sent_lead : (h : Held) → v.leads ≡ None → held ≡ Some h → Has h.epoch won → MayArrive make p k v (Lead h.epoch h.start)
        → IsUnderWay make p k d (frames ++ Lead h.epoch h.start ∷ []) (told_to_lead v h.epoch) won held
    sent_lead h standby holds has a =
        let more : epochs_led d.leads frames ++ h.epoch ∷ [] ≡ epochs_led d.leads (frames ++ Lead h.epoch h.start ∷ []) = sym (led_append d.leads frames (Lead h.epoch h.start)) in
        record {
          reaches = reaches_more p k d frames v (Lead h.epoch h.start) w.reaches a;
          won_all = subst (AllByRecursion (λ (e : ℕ). Has e won)) more
              (all_append (λ (e : ℕ). Has e won) (epochs_led d.leads frames) (h.epoch ∷ []) w.won_all (has, tt));
          once = subst Once more (once_more h.epoch (epochs_led d.leads frames) w.once (w.fresh standby h holds));
          fresh = λ none x is in_it. none_leads (Some h.epoch) h.epoch none refl;
        }

  -- ---- one arrives

  module _ (p : Point) (k : ℕ) (d v : Node) (rest : List Frame) (won : List ℕ) (held : Option Held) where
    pub arrived : (frame : Frame) → IsUnderWay make p k d (frame ∷ rest) v won held → IsUnderWay make p k (after_frame d frame) rest v won held
    arrived (Feed b) w = record { reaches = w.reaches.1; won_all = w.won_all; once = w.once; fresh = w.fresh }
    arrived (Load image) w = record { reaches = w.reaches.1; won_all = w.won_all; once = w.once; fresh = w.fresh }
    arrived (Commit epoch end) w = record { reaches = w.reaches.1; won_all = w.won_all; once = w.once; fresh = w.fresh }
    arrived (Lead epoch end) w =
        let standby : d.leads ≡ None = w.reaches.0.standby in
        record {
          reaches = w.reaches.1;
          won_all = subst (λ (o : Option ℕ). AllByRecursion (λ (e : ℕ). Has e won) (epochs_led o (Lead epoch end ∷ rest))) standby w.won_all;
          once = subst (λ (o : Option ℕ). Once (epochs_led o (Lead epoch end ∷ rest))) standby w.once;
          fresh = λ none h is has. w.fresh none h is (subst (λ (o : Option ℕ). Has h.epoch (epochs_led o (Lead epoch end ∷ rest))) (sym standby) has);
        }
    arrived (Lost epoch) w =
        let leads : d.leads ≡ Some epoch = w.reaches.0 in
        record {
          reaches = w.reaches.1;
          won_all = (subst (λ (o : Option ℕ). AllByRecursion (λ (e : ℕ). Has e won) (epochs_led o (Lost epoch ∷ rest))) leads w.won_all).1;
          once = (subst (λ (o : Option ℕ). Once (epochs_led o (Lost epoch ∷ rest))) leads w.once).1;
          fresh = λ none h is has. w.fresh none h is (subst (λ (o : Option ℕ). Has h.epoch (epochs_led o (Lost epoch ∷ rest))) (sym leads) (inr has));
        }

  -- ---- the store changes meanwhile

  module _ (p : Point) (change : Change) (k : ℕ) where
    arrives_later : (d : Node) (frame : Frame) → MayArrive make p k d frame → MayArrive make (point_after p change) k d frame
    arrives_later d (Feed b) a =
        let r = grows_from p (change ∷ []) in (a.0, subst (λ (l : List Batch). BatchStandsAt l d.end b) (sym r.1) (stands_later p.log r.0 d.end b a.1))
    arrives_later d (Load image) a =
        let r = grows_from p (change ∷ []) in
        record {
          standby = a.standby;
          later = a.later;
          right = subst (λ (l : List Batch). ImageStandsFor make l image) (sym r.1) (images_stand_later make p.log r.0 image a.right);
        }
    arrives_later d (Lead epoch end) a =
        record { standby = a.standby; start = a.start; ours = led_stays p change k epoch a.start [] a.ours; begins = a.begins; reached = a.reached }
    arrives_later d (Commit epoch end) a =
        record { leads = a.leads; start = a.start; ours = led_stays p change k epoch a.start (d.settled ++ ended_batches end d.own) a.ours; whole = a.whole }
    arrives_later d (Lost epoch) a = a

    reaches_later : (d : Node) (frames : List Frame) (v : Node) → Reaches make p k d frames v → Reaches make (point_after p change) k d frames v
    reaches_later d [] v r = r
    reaches_later d (frame ∷ frames) v (here, r) = (arrives_later d frame here, reaches_later (after_frame d frame) frames v r)

    pub way_later : (d : Node) (frames : List Frame) (v : Node) (won : List ℕ) (held : Option Held) → IsUnderWay make p k d frames v won held
        → IsUnderWay make (point_after p change) k d frames v won held
    way_later d frames v won held w = record { reaches = reaches_later d frames v w.reaches; won_all = w.won_all; once = w.once; fresh = w.fresh }

  -- ---- the daemon writes meanwhile

  module _ (p : Point) (k epoch : ℕ) where
    never_leads : (d : Node) (frames : List Frame) (v : Node) → Reaches make p k d frames v → (d.leads ≡ Some epoch → ⊥) → (Has epoch (epochs_begun frames) → ⊥)
        → v.leads ≡ Some epoch → ⊥
    never_leads d [] v r other never leads = other (ap (λ (x : Node). x.leads) (sym r) ∙ leads)
    never_leads d (Feed b ∷ frames) v r other never leads = never_leads (fed d b) frames v r.1 other never leads
    never_leads d (Load image ∷ frames) v r other never leads = never_leads (loaded d image) frames v r.1 other never leads
    never_leads d (Lead number end ∷ frames) v r other never leads =
        never_leads (told_to_lead d number) frames v r.1 (λ same. never (inl (sym (same_epoch number epoch same)))) (λ has. never (inr has)) leads
    never_leads d (Commit number end ∷ frames) v r other never leads = never_leads (committed d end) frames v r.1 other never leads
    never_leads d (Lost number ∷ frames) v r other never leads =
        never_leads (after_loss d) frames v r.1 (λ same. none_leads None epoch refl same) never leads

    pub tip_stays : (d : Node) (frames : List Frame) (v : Node) → Reaches make p k d frames v → d.leads ≡ Some epoch → (Has epoch (epochs_begun frames) → ⊥)
        → v.leads ≡ Some epoch → behind v.end v.own ≡ behind d.end d.own
    tip_stays d [] v r led never leads = ap (λ (x : Node). behind x.end x.own) r
    tip_stays d (Feed b ∷ frames) v r led never leads = none_leads d.leads epoch r.0.0 led
    tip_stays d (Load image ∷ frames) v r led never leads = none_leads d.leads epoch r.0.standby led
    tip_stays d (Lead number end ∷ frames) v r led never leads = none_leads d.leads epoch r.0.standby led
    tip_stays d (Commit number end ∷ frames) v r led never leads =
        tip_stays (committed d end) frames v r.1 led never leads ∙ commit_tip d end r.0.whole
    tip_stays d (Lost number ∷ frames) v r led never leads =
        absurd (never_leads (after_loss d) frames v r.1 (λ same. none_leads None epoch refl same) never leads)

    -- and so do the batches that it has with those that it appended
    pub joined_stays : (d : Node) (frames : List Frame) (v : Node) → Reaches make p k d frames v → d.leads ≡ Some epoch → (Has epoch (epochs_begun frames) → ⊥)
        → v.leads ≡ Some epoch → v.batches ++ v.own ≡ d.batches ++ d.own
    joined_stays d [] v r led never leads = ap (λ (x : Node). x.batches ++ x.own) r
    joined_stays d (Feed b ∷ frames) v r led never leads = none_leads d.leads epoch r.0.0 led
    joined_stays d (Load image ∷ frames) v r led never leads = none_leads d.leads epoch r.0.standby led
    joined_stays d (Lead number end ∷ frames) v r led never leads = none_leads d.leads epoch r.0.standby led
    joined_stays d (Commit number end ∷ frames) v r led never leads =
        joined_stays (committed d end) frames v r.1 led never leads
        ∙ (append_assoc d.batches (ended_batches end d.own) (unended_batches end d.own) ∙ ap (λ (bs : List Batch). d.batches ++ bs) (ended_joined end d.own))
    joined_stays d (Lost number ∷ frames) v r led never leads =
        absurd (never_leads (after_loss d) frames v r.1 (λ same. none_leads None epoch refl same) never leads)

    module _ (b : Batch) (some : 0 < b.count) where
      commit_behind : (d : Node) (number end : ℕ) → b.base ≡ behind d.end d.own → MayCommit p k d number end → MayCommit p k (written d b) number end
      commit_behind d number end base a =
          let r = ended_before d.end end b d.own base some a.whole in
          record {
            leads = a.leads;
            start = a.start;
            ours = subst (λ (xs : List Batch). Led p.leaderships k number a.start (d.settled ++ xs)) (sym r.0) a.ours;
            whole = ap (behind d.end) r.0 ∙ a.whole;
          }

      -- its link sees the batch, where it sees it lead
      pub write_reaches : (d : Node) (frames : List Frame) (v : Node) → Reaches make p k d frames v → d.leads ≡ Some epoch → (Has epoch (epochs_begun frames) → ⊥)
          → b.base ≡ behind d.end d.own → v.leads ≡ Some epoch → Reaches make p k (written d b) frames (written v b)
      write_reaches d [] v r led never base leads = ap (λ (x : Node). written x b) r
      write_reaches d (Feed x ∷ frames) v r led never base leads = none_leads d.leads epoch r.0.0 led
      write_reaches d (Load image ∷ frames) v r led never base leads = none_leads d.leads epoch r.0.standby led
      write_reaches d (Lead number end ∷ frames) v r led never base leads = none_leads d.leads epoch r.0.standby led
      write_reaches d (Commit number end ∷ frames) v r led never base leads = (
        commit_behind d number end base r.0,
        subst (λ (x : Node). Reaches make p k x frames (written v b)) (sym (commit_written d end b base some r.0.whole))
            (write_reaches (committed d end) frames v r.1 led never (base ∙ sym (commit_tip d end r.0.whole)) leads),
      )
      write_reaches d (Lost number ∷ frames) v r led never base leads =
          absurd (never_leads (after_loss d) frames v r.1 (λ same. none_leads None epoch refl same) never leads)

      -- and else it comes to nothing
      pub stray_reaches : (d : Node) (frames : List Frame) (v : Node) → Reaches make p k d frames v → d.leads ≡ Some epoch → (Has epoch (epochs_begun frames) → ⊥)
          → b.base ≡ behind d.end d.own → (v.leads ≡ Some epoch → ⊥) → Reaches make p k (written d b) frames v
      stray_reaches d [] v r led never base other = absurd (other (ap (λ (x : Node). x.leads) r ∙ led))
      stray_reaches d (Feed x ∷ frames) v r led never base other = none_leads d.leads epoch r.0.0 led
      stray_reaches d (Load image ∷ frames) v r led never base other = none_leads d.leads epoch r.0.standby led
      stray_reaches d (Lead number end ∷ frames) v r led never base other = none_leads d.leads epoch r.0.standby led
      stray_reaches d (Commit number end ∷ frames) v r led never base other = (
        commit_behind d number end base r.0,
        subst (λ (x : Node). Reaches make p k x frames v) (sym (commit_written d end b base some r.0.whole))
            (stray_reaches (committed d end) frames v r.1 led never (base ∙ sym (commit_tip d end r.0.whole)) other),
      )
      stray_reaches d (Lost number ∷ frames) v r led never base other = r
