-- What is kept after an act shows what the laws have after its step.
use Rattle.std.proofs.Common.{◌≡◌, ◌∙◌, sym, ℕ, ◌+◌, ◌<◌, Bool, true, false, cond, List, [], ◌∷◌, ◌++◌, refl, ap, subst, reverse}
use Rattle.std.proofs.lemmas.Bool.{eqb-true}
use Rattle.std.proofs.lemmas.List.{length-set, reverse-append}
use Rattle.std.specs.Prelude.{length, drop, take, Some, nat_eq, slice_set}
use Rattle.law_quorum.specs.Batches.{Batch, Meet, StoredImage, behind}
use Rattle.law_quorum.specs.Nodes.{Node, after_loss, committed, ended_batches, fed, loaded, new_node, told_to_lead, unended_batches}
use Rattle.law_link.specs.Links.{Call, Held, Keep, Link, Web, idle}
use Rattle.law_link.proofs.LinkSteps.{IsWeb, Runs, runs_at, up_to}
use Rattle.law_tape.specs.Rules.{Side, TapeState, link_state_after, node_after, side_after, side_of, state_after}
use Rattle.law_tape.specs.Tapes.{IsPossibleLine, fold_of, web_after}
use Rattle.law_tape.specs.declared.line.LinkAct.{LinkAct}
use Rattle.law_tape.specs.declared.line.LinkAct.TheVariants as acts
use Rattle.law_tape.specs.declared.line.Line.TheVariants as lines
use Rattle.law_tape.proofs.Logs.{base_there}
use Rattle.law_tape.proofs.Standing.{Shows, StandsFor, latest_first, side_set}

take_all : (xs ys : List Batch) → take (length xs) (xs ++ ys) ≡ xs
take_all [] ys = refl
take_all (x ∷ xs) ys = ap (λ (zs : List Batch). x ∷ zs) (take_all xs ys)

drop_all : (xs ys : List Batch) → drop (length xs) (xs ++ ys) ≡ ys
drop_all [] ys = refl
drop_all (x ∷ xs) ys = drop_all xs ys

reverse_more : {X : Type 0} (xs : List X) (x : X) → x ∷ reverse xs ≡ reverse (xs ++ x ∷ [])
reverse_more xs x = sym (reverse-append xs (x ∷ []))

module _ (folds : List StoredImage) (w : Web) (s : TapeState) (h : Shows w s) (web : IsWeb (fold_of folds) w) (k : ℕ) (low : k < 256) where
  abbrev side : Side
  side = side_of s.sides k

  abbrev n : Node
  n = w.cluster.nodes k

  abbrev l : Link
  l = w.links k

  -- ---- where the node's daemon, or its link, is another one, and where it stays the same

  within : k < length s.sides
  within = subst (λ (n : ℕ). k < n) (sym h.count) low

  side_at : (new : Side) (j : ℕ) → side_of (slice_set s.sides k new) j ≡ cond (nat_eq k j) new (side_of s.sides j)
  side_at new j = side_set s.sides k new within j

  node_set : (m : Node) (new : Side) → m ≡ new.node → (j : ℕ) → cond (nat_eq k j) m (w.cluster.nodes j) ≡ (side_of (slice_set s.sides k new) j).node
  node_set m new e j = by (nat_eq k j) ∙ ap (λ (x : Side). x.node) (sym (side_at new j))
    where
      by : (t : Bool) → cond t m (w.cluster.nodes j) ≡ (cond t new (side_of s.sides j)).node
      by true = e
      by false = h.node j

  link_set : (m : Link) (new : Side) → m ≡ latest_first new.link → (j : ℕ) → cond (nat_eq k j) m (w.links j) ≡ latest_first (side_of (slice_set s.sides k new) j).link
  link_set m new e j = by (nat_eq k j) ∙ ap (λ (x : Side). latest_first x.link) (sym (side_at new j))
    where
      by : (t : Bool) → cond t m (w.links j) ≡ latest_first (cond t new (side_of s.sides j)).link
      by true = e
      by false = h.link j

  node_stays : (new : Side) → new.node ≡ side.node → (j : ℕ) → w.cluster.nodes j ≡ (side_of (slice_set s.sides k new) j).node
  node_stays new e j = by (nat_eq k j) refl ∙ ap (λ (x : Side). x.node) (sym (side_at new j))
    where
      by : (t : Bool) → nat_eq k j ≡ t → w.cluster.nodes j ≡ (cond t new (side_of s.sides j)).node
      by true is = subst (λ (i : ℕ). w.cluster.nodes i ≡ new.node) (eqb-true k j is) (h.node k ∙ sym e)
      by false is = h.node j

  link_stays : (new : Side) → new.link ≡ side.link → (j : ℕ) → w.links j ≡ latest_first (side_of (slice_set s.sides k new) j).link
  link_stays new e j = by (nat_eq k j) refl ∙ ap (λ (x : Side). latest_first x.link) (sym (side_at new j))
    where
      by : (t : Bool) → nat_eq k j ≡ t → w.links j ≡ latest_first (cond t new (side_of s.sides j)).link
      by true is = subst (λ (i : ℕ). w.links i ≡ latest_first new.link) (eqb-true k j is) (h.link k ∙ ap latest_first (sym e))
      by false is = h.link j

  -- ---- the link of each act that adds to its lists

  win_link : (e : Held) → record { held = Some e; asked = []; waits = []; pipe = l.pipe; won = e.epoch ∷ l.won; calls = l.calls; keeps = l.keeps } ≡ latest_first (link_state_after side.link (acts.Win e))
  win_link e =
      ap (λ (x : Link). record { held = Some e; asked = []; waits = []; pipe = x.pipe; won = e.epoch ∷ x.won; calls = x.calls; keeps = x.keeps }) (h.link k)
      ∙ ap (λ (won : List ℕ). record { held = Some e; asked = []; waits = []; pipe = side.link.pipe; won = won; calls = reverse side.link.calls; keeps = reverse side.link.keeps }) (reverse_more side.link.won e.epoch)

  abbrev call_of : Held → List Batch → Call
  call_of e group = record { epoch = e.epoch; made = e.made; group = group }

  ask_link : (e : Held) (group : List Batch) → record l { asked = group; waits = drop (length group) l.waits; calls = call_of e group ∷ l.calls } ≡ latest_first (link_state_after side.link (acts.Ask e group))
  ask_link e group =
      ap (λ (x : Link). record x { asked = group; waits = drop (length group) x.waits; calls = call_of e group ∷ x.calls }) (h.link k)
      ∙ ap (λ (calls : List Call). record { held = side.link.held; asked = group; waits = drop (length group) side.link.waits; pipe = side.link.pipe; won = reverse side.link.won; calls = calls; keeps = reverse side.link.keeps }) (reverse_more side.link.calls (call_of e group))

  give_link : (keep : Keep) → record l { keeps = keep ∷ l.keeps } ≡ latest_first (link_state_after side.link (acts.Give keep))
  give_link keep =
      ap (λ (x : Link). record x { keeps = keep ∷ x.keeps }) (h.link k)
      ∙ ap (λ (keeps : List Keep). record { held = side.link.held; asked = side.link.asked; waits = side.link.waits; pipe = side.link.pipe; won = reverse side.link.won; calls = reverse side.link.calls; keeps = keeps }) (reverse_more side.link.keeps keep)

  -- ---- the daemon of each act that adds to its batches

  read_node : (b : Batch) → b.base ≡ n.end → fed n b ≡ node_after side.node side.link (acts.Read b)
  read_node b at =
      ap (λ (place : ℕ). record n { batches = n.batches ++ b ∷ []; end = place + b.count }) (sym at)
      ∙ ap (λ (x : Node). record x { batches = x.batches ++ b ∷ []; end = b.base + b.count }) (h.node k)

  -- what it wrote begins with what is asked, which meets
  settle_node : (e : Held) (end : ℕ) (rest : List Batch) → n.own ≡ l.asked ++ rest → Meet n.end (l.asked ++ rest) → behind n.end l.asked ≡ end
      → committed n (behind n.end l.asked) ≡ node_after side.node side.link (acts.Settle e end)
  settle_node e end rest own meets shown =
      let at : ℕ = behind n.end l.asked in
      let parts = up_to n.end l.asked rest meets in
      let first : ended_batches at n.own ≡ take (length l.asked) n.own =
      ap (ended_batches at) own ∙ (parts.0 ∙ (sym (take_all l.asked rest) ∙ ap (take (length l.asked)) (sym own))) in
      let others : unended_batches at n.own ≡ drop (length l.asked) n.own =
      ap (unended_batches at) own ∙ (parts.1 ∙ (sym (drop_all l.asked rest) ∙ ap (drop (length l.asked)) (sym own))) in
      ap (λ (xs : List Batch). record n { batches = n.batches ++ xs; end = at; settled = n.settled ++ xs; own = unended_batches at n.own }) first
      ∙ (ap (λ (xs : List Batch). record n { batches = n.batches ++ take (length l.asked) n.own; end = at; settled = n.settled ++ take (length l.asked) n.own; own = xs }) others
      ∙ (ap (λ (place : ℕ). record n { batches = n.batches ++ take (length l.asked) n.own; end = place; settled = n.settled ++ take (length l.asked) n.own; own = drop (length l.asked) n.own }) shown
      ∙ (ap (λ (x : Node). record x { batches = x.batches ++ take (length l.asked) x.own; end = end; settled = x.settled ++ take (length l.asked) x.own; own = drop (length l.asked) x.own }) (h.node k)
      ∙ ap (λ (x : Link). record side.node { batches = side.node.batches ++ take (length x.asked) side.node.own; end = end; settled = side.node.settled ++ take (length x.asked) side.node.own; own = drop (length x.asked) side.node.own }) (h.link k))))

  -- ---- each act

  shown_after : (act : LinkAct) (v : Web) → StandsFor v.cluster.point s.store
      → ((j : ℕ) → v.cluster.nodes j ≡ (side_of (slice_set s.sides k (side_after side act)) j).node)
      → ((j : ℕ) → v.links j ≡ latest_first (side_of (slice_set s.sides k (side_after side act)) j).link) → Shows v (state_after s (lines.Link k act))
  shown_after act v store nodes links = record { store = store; count = length-set s.sides k (side_after side act) ∙ h.count; node = nodes; link = links }

  settle_shown : (e : Held) (end : ℕ) → IsPossibleLine folds w (lines.Link k (acts.Settle e end)) → Shows (web_after w (lines.Link k (acts.Settle e end))) (state_after s (lines.Link k (acts.Settle e end)))
  settle_shown e end p =
      let act : LinkAct = acts.Settle e end in
      let r : Runs w.cluster.point.leaderships k n l e e.epoch = runs_at w.cluster.point.leaderships k n l e e.epoch p.0.holds p.0.leads (web.right k) in
      shown_after act (web_after w (lines.Link k act)) h.store
      (node_set (committed n (behind n.end l.asked)) (side_after side act) (settle_node e end r.rest r.own (subst (Meet n.end) r.own r.meet) p.1))
      (link_set (record l { asked = [] }) (side_after side act) (ap (λ (x : Link). record x { asked = [] }) (h.link k)))

  pub act_shown : (act : LinkAct) → IsPossibleLine folds w (lines.Link k act) → Shows (web_after w (lines.Link k act)) (state_after s (lines.Link k act))
  act_shown (acts.Win e) p =
      let act : LinkAct = acts.Win e in
      shown_after act (web_after w (lines.Link k act)) h.store (node_stays (side_after side act) refl) (link_set _ (side_after side act) (win_link e))
  act_shown (acts.Read b) p =
      let act : LinkAct = acts.Read b in
      let at : b.base ≡ n.end = base_there w.cluster.point.log n.end b web.cluster.one.meet p.0.1 in
      shown_after act (web_after w (lines.Link k act)) h.store (node_set (fed n b) (side_after side act) (read_node b at)) (link_stays (side_after side act) refl)
  act_shown (acts.Take image) p =
      let act : LinkAct = acts.Take image in
      shown_after act (web_after w (lines.Link k act)) h.store
      (node_set (loaded n image) (side_after side act) (ap (λ (x : Node). loaded x image) (h.node k))) (link_stays (side_after side act) refl)
  act_shown (acts.Begin e) p =
      let act : LinkAct = acts.Begin e in
      shown_after act (web_after w (lines.Link k act)) h.store
      (node_set (told_to_lead n e.epoch) (side_after side act) (ap (λ (x : Node). told_to_lead x e.epoch) (h.node k)))
      (link_set (record l { asked = []; waits = [] }) (side_after side act) (ap (λ (x : Link). record x { asked = []; waits = [] }) (h.link k)))
  act_shown (acts.Write b) p =
      let act : LinkAct = acts.Write b in
      shown_after act (web_after w (lines.Link k act)) h.store
      (node_set (record n { own = n.own ++ b ∷ [] }) (side_after side act) (ap (λ (x : Node). record x { own = x.own ++ b ∷ [] }) (h.node k)))
      (link_set (record l { pipe = l.pipe ++ b ∷ [] }) (side_after side act) (ap (λ (x : Link). record x { pipe = x.pipe ++ b ∷ [] }) (h.link k)))
  act_shown (acts.Stray b) p =
      let act : LinkAct = acts.Stray b in
      shown_after act (web_after w (lines.Link k act)) h.store (node_stays (side_after side act) refl)
      (link_set (record l { pipe = l.pipe ++ b ∷ [] }) (side_after side act) (ap (λ (x : Link). record x { pipe = x.pipe ++ b ∷ [] }) (h.link k)))
  act_shown (acts.Hear b) p =
      let act : LinkAct = acts.Hear b in
      shown_after act (web_after w (lines.Link k act)) h.store (node_stays (side_after side act) refl)
      (link_set (record l { pipe = drop 1 l.pipe; waits = l.waits ++ b ∷ [] }) (side_after side act) (ap (λ (x : Link). record x { pipe = drop 1 x.pipe; waits = x.waits ++ b ∷ [] }) (h.link k)))
  act_shown (acts.Pass b) p =
      let act : LinkAct = acts.Pass b in
      shown_after act (web_after w (lines.Link k act)) h.store (node_stays (side_after side act) refl)
      (link_set (record l { pipe = drop 1 l.pipe }) (side_after side act) (ap (λ (x : Link). record x { pipe = drop 1 x.pipe }) (h.link k)))
  act_shown (acts.Ask e group) p =
      let act : LinkAct = acts.Ask e group in
      shown_after act (web_after w (lines.Link k act)) h.store (node_stays (side_after side act) refl) (link_set _ (side_after side act) (ask_link e group))
  act_shown (acts.Settle e end) p = settle_shown e end p
  act_shown (acts.Give keep) p =
      let act : LinkAct = acts.Give keep in
      shown_after act (web_after w (lines.Link k act)) h.store (node_stays (side_after side act) refl) (link_set _ (side_after side act) (give_link keep))
  act_shown (acts.GiveUp epoch) p =
      let act : LinkAct = acts.GiveUp epoch in
      shown_after act (web_after w (lines.Link k act)) h.store
      (node_set (after_loss n) (side_after side act) (ap after_loss (h.node k))) (link_set (idle l) (side_after side act) (ap idle (h.link k)))
  act_shown acts.LetGo p =
      let act : LinkAct = acts.LetGo in
      shown_after act (web_after w (lines.Link k act)) h.store (node_stays (side_after side act) refl) (link_set (idle l) (side_after side act) (ap idle (h.link k)))
  act_shown acts.Renew p =
      let act : LinkAct = acts.Renew in
      shown_after act (web_after w (lines.Link k act)) h.store
      (node_set new_node (side_after side act) refl)
      (link_set (record (idle l) { pipe = [] }) (side_after side act) (ap (λ (x : Link). record (idle x) { pipe = [] }) (h.link k)))
