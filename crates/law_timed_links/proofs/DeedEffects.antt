-- What a core's deeds do: to its link and to what is under way to its daemon; and nothing to another node.
use Rattle.std.proofs.Common.{◌≡◌, ◌∙◌, sym, ℕ, Bool, true, false, cond, List, [], ◌∷◌, ◌++◌, refl, ap, arith, inl, inr}
use Rattle.std.proofs.lemmas.Bool.Decides.{nat_tests}
use Rattle.std.proofs.lemmas.List.{append_assoc, append-nil}
use Rattle.std.specs.Prelude.{Some, nat_eq, flat_map, fold}
use Rattle.std.specs.List.{AllByRecursion}
use Rattle.law_quorum.specs.Batches.{Batch, behind}
use Rattle.law_quorum.specs.Changes.{base_of_first}
use Rattle.law_quorum.specs.Nodes as nodes
use Rattle.law_link.specs.Frames.{Act, Commit, Feed, Frame, Lead, Load, Lost, Network, daemons_of, network_after}
use Rattle.law_link.specs.Links.{Call, Has, Keep, Link, idle}
use Rattle.law_core.specs.Core.{CallAppend, CallDrop, Deed, HandBatch, HandCommit, HandImage, HandLead, HandLost, Hear, Hold, Pass, Resign, Serve, frames_with}
use Rattle.law_core.specs.Runs.{acts, step_of}
use Rattle.kr_link.specs.declared.actions.Action.{Action}
use Rattle.kr_link.specs.declared.actions.Action.TheVariants as actions
use Rattle.kr_link.specs.Outgoing.{actions_of}
use Rattle.law_timed_links.specs.TimedLaws.{IsExact}
use Rattle.law_timed_links.specs.TimedRuns.{frames_sent}

-- ---- what is set at a node

pub itself : (k : ℕ) → nat_eq k k ≡ true
itself k = grind (arith, nat_tests)

pub there : {X : Type 0} (k : ℕ) (new old : X) → cond (nat_eq k k) new old ≡ new
there k new old = ap (λ (t : Bool). cond t new old) (itself k)

-- ---- lists

pub all_both : {X : Type 0} (P : X → Type 0) (xs ys : List X) → AllByRecursion P xs → AllByRecursion P ys → AllByRecursion P (xs ++ ys)
all_both P [] ys a b = b
all_both P (x ∷ xs) ys (h, a) b = (h, all_both P xs ys a b)

-- what holds of both holds of the one that is chosen
pub either : {X : Type 0} (P : X → Type 0) (t : Bool) (x y : X) → P x → P y → P (cond t x y)
either P true x y p q = p
either P false x y p q = q

-- ---- the link

abbrev pub link_with : List Batch → Link → Deed → Link
link_with rest l Serve = record (idle l) { pipe = [] }
link_with rest l (Hear b) = record l { pipe = rest; waits = l.waits ++ b ∷ [] }
link_with rest l (Pass b) = record l { pipe = rest }
link_with rest l (HandBatch b) = l
link_with rest l (HandImage image) = l
link_with rest l (HandLead h) = record l { asked = []; waits = [] }
link_with rest l (HandCommit h end) = record l { asked = [] }
link_with rest l (HandLost h) = idle l
link_with rest l (CallAppend h group waits) =
    record l { asked = group; waits = waits; calls = record { epoch = h.epoch; made = h.made; group = group } ∷ l.calls }
link_with rest l (CallDrop before image) = record l { keeps = record { before = before; image = image } ∷ l.keeps }
link_with rest l (Hold h) =
    record { held = Some h; asked = []; waits = []; pipe = l.pipe; won = h.epoch ∷ l.won; calls = l.calls; keeps = l.keeps }
link_with rest l (Resign h) = idle l

abbrev pub IsNoServe : Deed → Type 0
IsNoServe Serve = ⊥
IsNoServe other = Unit {0}

module _ (k : ℕ) (rest : List Batch) where
  abbrev after : Network → Deed → Network
  after n deed = network_after n (Act (step_of k rest deed))

  linked : (n : Network) (deed : Deed) → (after n deed).web.links k ≡ link_with rest (n.web.links k) deed
  linked n (HandBatch b) = refl
  linked n (HandImage image) = refl
  linked n other = there k (link_with rest (n.web.links k) other) (n.web.links k)

  same_cluster : (n : Network) (deed : Deed) → IsNoServe deed → daemons_of (after n deed) ≡ daemons_of n
  same_cluster n Serve free = absurd free
  same_cluster n other free = refl

  same_images : (n : Network) (deed : Deed) → (after n deed).images ≡ n.images
  same_images n other = refl

  pub all_linked : (n : Network) (deeds : List Deed) → (fold network_after n (acts k rest deeds)).web.links k ≡ fold (link_with rest) (n.web.links k) deeds
  all_linked n [] = refl
  all_linked n (deed ∷ deeds) = all_linked (after n deed) deeds ∙ ap (λ (l : Link). fold (link_with rest) l deeds) (linked n deed)

  pub all_same_cluster : (n : Network) (deeds : List Deed) → AllByRecursion IsNoServe deeds → daemons_of (fold network_after n (acts k rest deeds)) ≡ daemons_of n
  all_same_cluster n [] free = refl
  all_same_cluster n (deed ∷ deeds) (free, none) = all_same_cluster (after n deed) deeds none ∙ same_cluster n deed free

  pub all_same_images : (n : Network) (deeds : List Deed) → (fold network_after n (acts k rest deeds)).images ≡ n.images
  all_same_images n [] = refl
  all_same_images n (deed ∷ deeds) = all_same_images (after n deed) deeds ∙ same_images n deed

  -- ---- another node

  module _ (j : ℕ) (other : nat_eq k j ≡ false) where
    not_there : {X : Type 0} (new old : X) → cond (nat_eq k j) new old ≡ old
    not_there new old = ap (λ (t : Bool). cond t new old) other

    link_stays : (n : Network) (deed : Deed) → (after n deed).web.links j ≡ n.web.links j
    link_stays n (HandBatch b) = refl
    link_stays n (HandImage image) = refl
    link_stays n deed = not_there (link_with rest (n.web.links k) deed) (n.web.links j)

    frames_stay : (n : Network) (deed : Deed) → (after n deed).frames j ≡ n.frames j
    frames_stay n Serve = not_there [] (n.frames j)
    frames_stay n (HandBatch b) = not_there (n.frames k ++ Feed b ∷ []) (n.frames j)
    frames_stay n (HandImage image) = not_there (n.frames k ++ Load image ∷ []) (n.frames j)
    frames_stay n (HandLead h) = not_there (n.frames k ++ Lead h.epoch h.start ∷ []) (n.frames j)
    frames_stay n (HandCommit h end) = not_there (n.frames k ++ Commit h.epoch (behind (n.web.cluster.nodes k).end (n.web.links k).asked) ∷ []) (n.frames j)
    frames_stay n (HandLost h) = not_there (n.frames k ++ Lost h.epoch ∷ []) (n.frames j)
    frames_stay n deed = refl

    -- as the links see it
    node_stays : (n : Network) (deed : Deed) → (after n deed).web.cluster.nodes j ≡ n.web.cluster.nodes j
    node_stays n (HandBatch b) = not_there (nodes.fed (n.web.cluster.nodes k) b) (n.web.cluster.nodes j)
    node_stays n (HandImage image) = not_there (nodes.loaded (n.web.cluster.nodes k) image) (n.web.cluster.nodes j)
    node_stays n (HandLead h) = not_there (nodes.told_to_lead (n.web.cluster.nodes k) h.epoch) (n.web.cluster.nodes j)
    node_stays n (HandCommit h end) = not_there (nodes.committed (n.web.cluster.nodes k) (behind (n.web.cluster.nodes k).end (n.web.links k).asked)) (n.web.cluster.nodes j)
    node_stays n (HandLost h) = not_there (nodes.after_loss (n.web.cluster.nodes k)) (n.web.cluster.nodes j)
    node_stays n Serve = not_there nodes.new_node (n.web.cluster.nodes j)
    node_stays n deed = refl

    pub nodes_stay : (n : Network) (deeds : List Deed) → (fold network_after n (acts k rest deeds)).web.cluster.nodes j ≡ n.web.cluster.nodes j
    nodes_stay n [] = refl
    nodes_stay n (deed ∷ deeds) = nodes_stay (after n deed) deeds ∙ node_stays n deed

    pub links_stay : (n : Network) (deeds : List Deed) → (fold network_after n (acts k rest deeds)).web.links j ≡ n.web.links j
    links_stay n [] = refl
    links_stay n (deed ∷ deeds) = links_stay (after n deed) deeds ∙ link_stays n deed

    pub all_frames_stay : (n : Network) (deeds : List Deed) → (fold network_after n (acts k rest deeds)).frames j ≡ n.frames j
    all_frames_stay n [] = refl
    all_frames_stay n (deed ∷ deeds) = all_frames_stay (after n deed) deeds ∙ frames_stay n deed

-- ---- what is under way is what the actions send

abbrev pub all_sent : List Deed → List Frame
all_sent deeds = flat_map frames_sent (flat_map actions_of deeds)

pub frames_put : (frames : List Frame) (deeds : List Deed) → AllByRecursion IsNoServe deeds → fold frames_with frames deeds ≡ frames ++ all_sent deeds
frames_put frames [] free = sym (append-nil frames)
frames_put frames (Serve ∷ deeds) (free, none) = absurd free
frames_put frames (HandBatch b ∷ deeds) (free, none) = frames_put (frames ++ Feed b ∷ []) deeds none ∙ append_assoc frames (Feed b ∷ []) (all_sent deeds)
frames_put frames (HandImage image ∷ deeds) (free, none) =
    frames_put (frames ++ Load image ∷ []) deeds none ∙ append_assoc frames (Load image ∷ []) (all_sent deeds)
frames_put frames (HandLead h ∷ deeds) (free, none) =
    frames_put (frames ++ Lead h.epoch h.start ∷ []) deeds none ∙ append_assoc frames (Lead h.epoch h.start ∷ []) (all_sent deeds)
frames_put frames (HandCommit h end ∷ deeds) (free, none) =
    frames_put (frames ++ Commit h.epoch end ∷ []) deeds none ∙ append_assoc frames (Commit h.epoch end ∷ []) (all_sent deeds)
frames_put frames (HandLost h ∷ deeds) (free, none) =
    frames_put (frames ++ Lost h.epoch ∷ []) deeds none ∙ append_assoc frames (Lost h.epoch ∷ []) (all_sent deeds)
frames_put frames (deed ∷ deeds) (free, none) = frames_put frames deeds none

-- ---- calls

pub call_stays : (rest : List Batch) (l : Link) (deed : Deed) (call : Call) → Has call l.calls → Has call (link_with rest l deed).calls
call_stays rest l (CallAppend h group waits) call has = inr has
call_stays rest l deed call has = has

keep_stays : (rest : List Batch) (l : Link) (deed : Deed) (keep : Keep) → Has keep l.keeps → Has keep (link_with rest l deed).keeps
keep_stays rest l (CallDrop before image) keep has = inr has
keep_stays rest l deed keep has = has

pub calls_stay : (rest : List Batch) (l : Link) (deeds : List Deed) (call : Call) → Has call l.calls → Has call (fold (link_with rest) l deeds).calls
calls_stay rest l [] call has = has
calls_stay rest l (deed ∷ deeds) call has = calls_stay rest (link_with rest l deed) deeds call (call_stays rest l deed call has)

-- an append of the link's own
pub record IsOwnAppend (calls : List Call) (made : ℕ) (group : List Batch) : Type 0 where
  pub call : Call
  pub has : Has call calls
  pub key : call.made ≡ made
  pub batches : call.group ≡ group

-- that the link calls for such a change is known
abbrev pub IsKnownBy : List Call → List Keep → Action → Type 0
IsKnownBy calls keeps (actions.Append guard batches) = IsOwnAppend calls guard.made batches × (guard.end ≡ base_of_first batches)
IsKnownBy calls keeps (actions.DropBatches before below image) = Has (record { before = before; image = image }) keeps × (below ≡ image.offset)
IsKnownBy calls keeps other = Unit {0}

abbrev pub IsKnown : Link → Action → Type 0
IsKnown l action = IsKnownBy l.calls l.keeps action

known_stays : (rest : List Batch) (l : Link) (deed : Deed) (action : Action) → IsKnown l action → IsKnown (link_with rest l deed) action
known_stays rest l deed (actions.Append guard batches) (h, exact) =
    (record { call = h.call; has = call_stays rest l deed h.call h.has; key = h.key; batches = h.batches }, exact)
known_stays rest l deed (actions.DropBatches before below image) (h, exact) = (keep_stays rest l deed (record { before = before; image = image }) h, exact)
known_stays rest l deed other h = tt

pub known_later : (rest : List Batch) (l : Link) (deeds : List Deed) (action : Action) → IsKnown l action → IsKnown (fold (link_with rest) l deeds) action
known_later rest l [] action h = h
known_later rest l (deed ∷ deeds) action h = known_later rest (link_with rest l deed) deeds action (known_stays rest l deed action h)

deed_known : (rest : List Batch) (l : Link) (deed : Deed) → AllByRecursion (IsKnown (link_with rest l deed)) (actions_of deed)
deed_known rest l (CallAppend h group waits) =
    ((record { call = record { epoch = h.epoch; made = h.made; group = group }; has = inl refl; key = refl; batches = refl }, refl), tt)
deed_known rest l (CallDrop before image) = ((inl refl, refl), tt)
deed_known rest l (HandBatch b) = (tt, tt)
deed_known rest l (HandImage image) = (tt, tt)
deed_known rest l (HandLead h) = (tt, tt)
deed_known rest l (HandCommit h end) = (tt, tt)
deed_known rest l (HandLost h) = (tt, tt)
deed_known rest l (Resign h) = (tt, tt)
deed_known rest l other = tt

pub all_later : (rest : List Batch) (l : Link) (deeds : List Deed) (more : List Action)
    → AllByRecursion (IsKnown l) more → AllByRecursion (IsKnown (fold (link_with rest) l deeds)) more
all_later rest l deeds [] a = tt
all_later rest l deeds (action ∷ more) (h, a) = (known_later rest l deeds action h, all_later rest l deeds more a)

pub deeds_known : (rest : List Batch) (l : Link) (deeds : List Deed) → AllByRecursion (IsKnown (fold (link_with rest) l deeds)) (flat_map actions_of deeds)
deeds_known rest l [] = tt
deeds_known rest l (deed ∷ deeds) =
    all_both (IsKnown (fold (link_with rest) (link_with rest l deed) deeds)) (actions_of deed) (flat_map actions_of deeds)
    (all_later rest (link_with rest l deed) deeds (actions_of deed) (deed_known rest l deed)) (deeds_known rest (link_with rest l deed) deeds)

pub exact : (l : Link) (action : Action) → IsKnown l action → IsExact action
exact l (actions.Append guard batches) (h, same) = same
exact l (actions.DropBatches before below image) (h, same) = same
exact l other h = tt
