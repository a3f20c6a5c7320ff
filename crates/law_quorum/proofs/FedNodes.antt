-- Each move keeps each node at a beginning of the one log.
use Rattle.std.proofs.Common.{◌≡◌, ◌∙◌, sym, ℕ, zero, suc, ◌+◌, ◌≤◌, Bool, true, false, cond, List, [], ◌∷◌, ◌++◌, refl, ap, subst, arith, inl, inr}
use Rattle.std.proofs.lemmas.List.{append_assoc, append-nil}
use Rattle.std.proofs.lemmas.Bool.{eqb-true}
use Rattle.std.specs.Prelude.{Option, None, Some, nat_eq, fold}
use Rattle.std.specs.Option.{unwrap_or}
use Rattle.law_quorum.specs.Batches.{Batch, StoredImage, Meet, BatchStandsAt, behind}
use Rattle.law_quorum.specs.Changes.{Append, Campaign, Change, Drop, Expire, Other, compares}
use Rattle.law_quorum.specs.History.{Leadership, Point, point_after, no_history, with_wrote}
use Rattle.law_quorum.specs.Laws.{AreBehind, CountDown, IsInOrder, IsOneLog}
use Rattle.law_quorum.specs.Nodes.{AreAllowed, Cluster, Commit, Feed, IsAllowedMove, Lead, Led, Load, Lost, MayCommit, MayLead, MayLoad, Move, Node, Renew, Store, Write, after_loss, at_first, cluster, committed, ended_batches, fed, loaded, moved, new_node, set_node, told_to_lead, with_node}
use Rattle.law_quorum.specs.NodeLaws.{EqualEnds, IsFedNode, NodesFollow, OneLeader}
use Rattle.law_quorum.proofs.Places.{behind_append, same_beginning}
use Rattle.law_quorum.proofs.KeptLog.{one_log_stays, taken}
use Rattle.law_quorum.proofs.LeadershipOrder.{order_stays}
use Rattle.law_quorum.proofs.WholeHistories.{grows_from, one_at_first, order_at_first}

-- ---- leaderships that were held

led_later : (batches : List Batch) (ls : List Leadership) (k epoch : ℕ) (start wrote : List Batch) → Led ls k epoch start wrote → Led (with_wrote batches ls) k epoch start wrote
led_later batches [] k epoch start wrote h = h
led_later batches (l ∷ ls) k epoch start wrote h = elim h [
  | inl x ↦ inl (record {
    holder = x.holder;
    number = x.number;
    began = x.began;
    more = x.more ++ batches;
    wrote_first = ap (λ (w : List Batch). w ++ batches) x.wrote_first ∙ append_assoc wrote x.more batches;
  })
  | inr y ↦ inr y
]

led_by : (p : Point) (change : Change) (holds : Bool) (k epoch : ℕ) (start wrote : List Batch) → Led p.leaderships k epoch start wrote → Led (taken p change holds).leaderships k epoch start wrote
led_by p change false k epoch start wrote h = h
led_by p (Campaign node token number) true k epoch start wrote h = inr h
led_by p (Append made batches) true k epoch start wrote h = led_later batches p.leaderships k epoch start wrote h
led_by p (Drop before image) true k epoch start wrote h = h
led_by p Expire true k epoch start wrote h = h
led_by p Other true k epoch start wrote h = h

pub led_stays : (p : Point) (change : Change) (k epoch : ℕ) (start wrote : List Batch) → Led p.leaderships k epoch start wrote → Led (point_after p change).leaderships k epoch start wrote
led_stays p change k epoch start wrote h = led_by p change (compares p.keys change) k epoch start wrote h

-- what it began with and what it appended is a beginning of the log
pub begins_log : (log : List Batch) (ls : List Leadership) (k epoch : ℕ) (start wrote : List Batch) → AreBehind log ls → Led ls k epoch start wrote
    → (rest : List Batch) × (log ≡ (start ++ wrote) ++ rest)
begins_log log [] k epoch start wrote a h = absurd h
begins_log log (l ∷ ls) k epoch start wrote (is, a) h = elim h [
  | inl x ↦ (x.more, (is ∙ (ap (λ (s : List Batch). s ++ l.wrote) x.began ∙ (ap (λ (w : List Batch). start ++ w) x.wrote_first ∙ sym (append_assoc start wrote x.more)))))
  | inr y ↦ (let r = begins_log l.start ls k epoch start wrote a y in
      (r.0 ++ l.wrote, (is ∙ (ap (λ (s : List Batch). s ++ l.wrote) r.1 ∙ append_assoc (start ++ wrote) r.0 l.wrote))))
]

pub low_epoch : (n : ℕ) (ls : List Leadership) (k epoch : ℕ) (start wrote : List Batch) → CountDown n ls → Led ls k epoch start wrote → epoch ≤ n
low_epoch n [] k epoch start wrote c h = absurd h
low_epoch zero (l ∷ ls) k epoch start wrote c h = absurd c
low_epoch (suc n) (l ∷ ls) k epoch start wrote (is, c) h = elim h [
  | inl x ↦ (let e = x.number in omega arith)
  | inr y ↦ (let r : epoch ≤ n = low_epoch n ls k epoch start wrote c y in omega arith)
]

-- one epoch, one holder
one_holder : (n : ℕ) (ls : List Leadership) (j k epoch : ℕ) (start wrote other more : List Batch) → CountDown n ls
    → Led ls j epoch start wrote → Led ls k epoch other more → j ≡ k
one_holder n [] j k epoch start wrote other more c h i = absurd h
one_holder zero (l ∷ ls) j k epoch start wrote other more c h i = absurd c
one_holder (suc n) (l ∷ ls) j k epoch start wrote other more (is, c) h i = elim h [
  | inl x ↦ elim i [
    | inl y ↦ sym x.holder ∙ y.holder
    | inr y ↦ (let r : epoch ≤ n = low_epoch n ls k epoch other more c y in let e = x.number in absurd (omega arith))
  ]
  | inr x ↦ elim i [
    | inl y ↦ (let r : epoch ≤ n = low_epoch n ls j epoch start wrote c x in let e = y.number in absurd (omega arith))
    | inr y ↦ one_holder n ls j k epoch start wrote other more c x y
  ]
]

none_leads : {X : Type 0} (leads : Option ℕ) (epoch : ℕ) → leads ≡ None → leads ≡ Some epoch → X
none_leads leads epoch none some = absurd cc

same_epoch : (a b : ℕ) → Some a ≡ Some b → a ≡ b
same_epoch a b e = ap (λ o. unwrap_or o a) e

-- ---- one node

module _ (make : List Batch → List ℕ) where
  new_fed : (p : Point) (k : ℕ) → IsFedNode make p k new_node
  new_fed p k = record { gone = []; rest = p.log; image = refl; split = refl; end = refl; leading = λ epoch e. none_leads None epoch refl e }

  -- the store changes under it
  stays_fed : (p : Point) (change : Change) (k : ℕ) (n : Node) → IsFedNode make p k n → IsFedNode make (point_after p change) k n
  stays_fed p change k n f =
      let r = grows_from p (change ∷ []) in record {
        gone = f.gone;
        rest = f.rest ++ r.0;
        image = f.image;
        split = r.1 ∙ (ap (λ l. l ++ r.0) f.split ∙ append_assoc (f.gone ++ n.batches) f.rest r.0);
        end = f.end;
        leading = λ epoch e. let l = f.leading epoch e in (l.0, l.1, led_stays p change k epoch l.0 n.settled l.2);
      }

  feed_fed : (p : Point) (k : ℕ) (n : Node) (b : Batch) → IsOneLog make p → IsFedNode make p k n → n.leads ≡ None → BatchStandsAt p.log n.end b → IsFedNode make p k (fed n b)
  feed_fed p k n b h f standby s =
      let same = same_beginning 0 (f.gone ++ n.batches) f.rest s.before (b ∷ s.after) (subst (Meet 0) f.split h.meet) (sym f.split ∙ s.split) (f.end ∙ sym s.begins) in
      let joined : f.gone ++ (n.batches ++ b ∷ []) ≡ (f.gone ++ n.batches) ++ b ∷ [] = sym (append_assoc f.gone n.batches (b ∷ [])) in
      record {
        gone = f.gone;
        rest = s.after;
        image = f.image;
        split = s.split ∙ (ap (λ (l : List Batch). l ++ b ∷ s.after) (sym same.0)
            ∙ (sym (append_assoc (f.gone ++ n.batches) (b ∷ []) s.after) ∙ ap (λ (l : List Batch). l ++ s.after) (sym joined)));
        end = ap (behind 0) joined ∙ (behind_append 0 (f.gone ++ n.batches) (b ∷ []) ∙ ap (λ (m : ℕ). m + b.count) f.end);
        leading = λ epoch e. none_leads n.leads epoch standby e;
      }

  load_fed : (p : Point) (k : ℕ) (n : Node) (image : StoredImage) → IsFedNode make p k n → MayLoad make p n image → IsFedNode make p k (loaded n image)
  load_fed p k n image f m =
      let s = m.right in record {
        gone = s.gone;
        rest = s.rest;
        image = s.bytes;
        split = s.split ∙ ap (λ (l : List Batch). l ++ s.rest) (sym (append-nil s.gone));
        end = ap (behind 0) (append-nil s.gone) ∙ s.offset;
        leading = λ epoch e. none_leads n.leads epoch m.standby e;
      }

  lead_fed : (p : Point) (k : ℕ) (n : Node) (epoch end : ℕ) → IsOneLog make p → IsInOrder p → IsFedNode make p k n → MayLead p k n epoch end → IsFedNode make p k (told_to_lead n epoch)
  lead_fed p k n epoch end h o f m =
      let begun = begins_log p.log p.leaderships k epoch m.start [] o.pieces m.ours in
      let same = same_beginning 0 (f.gone ++ n.batches) f.rest (m.start ++ []) begun.0 (subst (Meet 0) f.split h.meet) (sym f.split ∙ begun.1)
      (f.end ∙ (m.reached ∙ (sym m.begins ∙ ap (behind 0) (sym (append-nil m.start))))) in
      record {
        gone = f.gone;
        rest = f.rest;
        image = f.image;
        split = f.split;
        end = f.end;
        leading = λ number e. (m.start, same.0, subst (λ x. Led p.leaderships k x m.start []) (same_epoch epoch number e) m.ours);
      }

  commit_fed : (p : Point) (k : ℕ) (n : Node) (epoch end : ℕ) → IsOneLog make p → IsInOrder p → IsFedNode make p k n → MayCommit p k n epoch end → IsFedNode make p k (committed n end)
  commit_fed p k n epoch end h o f m =
      let next = ended_batches end n.own in
      let l = f.leading epoch m.leads in
      -- both speak of the one leadership of this epoch, which began with one log
      let start : l.0 ≡ m.start = same_start p.keys.epoch p.leaderships k epoch l.0 m.start n.settled (n.settled ++ next) o.epochs l.2 m.ours in
      let begun = begins_log p.log p.leaderships k epoch m.start (n.settled ++ next) o.pieces m.ours in
      let joined : f.gone ++ (n.batches ++ next) ≡ m.start ++ (n.settled ++ next) =
      sym (append_assoc f.gone n.batches next) ∙ (ap (λ (x : List Batch). x ++ next) l.1
      ∙ (append_assoc l.0 n.settled next ∙ ap (λ (x : List Batch). x ++ (n.settled ++ next)) start)) in
      record {
        gone = f.gone;
        rest = begun.0;
        image = f.image;
        split = begun.1 ∙ ap (λ (x : List Batch). x ++ begun.0) (sym joined);
        end = ap (behind 0) (sym (append_assoc f.gone n.batches next)) ∙ (behind_append 0 (f.gone ++ n.batches) next ∙ (ap (λ (x : ℕ). behind x next) f.end ∙ m.whole));
        leading = λ number e. (m.start, joined, subst (λ x. Led p.leaderships k x m.start (n.settled ++ next)) (same_epoch epoch number (sym m.leads ∙ e)) m.ours);
      }
    where
      same_start : (n : ℕ) (ls : List Leadership) (k epoch : ℕ) (start other wrote more : List Batch) → CountDown n ls
          → Led ls k epoch start wrote → Led ls k epoch other more → start ≡ other
      same_start n [] k epoch start other wrote more c a b = absurd a
      same_start zero (l ∷ ls) k epoch start other wrote more c a b = absurd c
      same_start (suc n) (l ∷ ls) k epoch start other wrote more (is, c) a b = elim a [
        | inl x ↦ elim b [
          | inl y ↦ sym x.began ∙ y.began
          | inr y ↦ (let r : epoch ≤ n = low_epoch n ls k epoch other more c y in let e = x.number in absurd (omega arith))
        ]
        | inr x ↦ elim b [
          | inl y ↦ (let r : epoch ≤ n = low_epoch n ls k epoch start wrote c x in let e = y.number in absurd (omega arith))
          | inr y ↦ same_start n ls k epoch start other wrote more c x y
        ]
      ]

  lost_fed : (p : Point) (k : ℕ) (n : Node) → IsFedNode make p k n → IsFedNode make p k (after_loss n)
  lost_fed p k n f = record { gone = f.gone; rest = f.rest; image = f.image; split = f.split; end = f.end; leading = λ epoch e. none_leads None epoch refl e }

  write_fed : (p : Point) (k : ℕ) (n : Node) (own : List Batch) → IsFedNode make p k n → IsFedNode make p k (record n { own = own })
  write_fed p k n own f = record { gone = f.gone; rest = f.rest; image = f.image; split = f.split; end = f.end; leading = f.leading }

  -- ---- all nodes

  pub record IsCluster (c : Cluster) : Type 0 where
    pub one : IsOneLog make c.point
    pub order : IsInOrder c.point
    pub nodes : (k : ℕ) → IsFedNode make c.point k (c.nodes k)

  set_fed : (p : Point) (k : ℕ) (n : Node) (nodes : ℕ → Node) → IsFedNode make p k n → ((j : ℕ) → IsFedNode make p j (nodes j)) → (j : ℕ) → IsFedNode make p j (set_node k n nodes j)
  set_fed p k n nodes f all j = by (nat_eq k j) refl
    where
      by : (t : Bool) → nat_eq k j ≡ t → IsFedNode make p j (cond t n (nodes j))
      by true e = subst (λ i. IsFedNode make p i n) (eqb-true k j e) f
      by false e = all j

  node_moves : (c : Cluster) (k : ℕ) (n : Node) → IsCluster c → IsFedNode make c.point k n → IsCluster (with_node c k n)
  node_moves c k n h f = record { one = h.one; order = h.order; nodes = set_fed c.point k n c.nodes f h.nodes }

  pub moves_on : (c : Cluster) (move : Move) → IsCluster c → IsAllowedMove make c move → IsCluster (moved c move)
  moves_on c (Store change) h a = record {
    one = one_log_stays make c.point change h.one a;
    order = order_stays c.point change h.order;
    nodes = λ k. stays_fed c.point change k (c.nodes k) (h.nodes k);
  }
  moves_on c (Feed k b) h a = node_moves c k (fed (c.nodes k) b) h (feed_fed c.point k (c.nodes k) b h.one (h.nodes k) a.0 a.1)
  moves_on c (Load k image) h a = node_moves c k (loaded (c.nodes k) image) h (load_fed c.point k (c.nodes k) image (h.nodes k) a)
  moves_on c (Lead k epoch end) h a = node_moves c k (told_to_lead (c.nodes k) epoch) h (lead_fed c.point k (c.nodes k) epoch end h.one h.order (h.nodes k) a)
  moves_on c (Commit k epoch end) h a = node_moves c k (committed (c.nodes k) end) h (commit_fed c.point k (c.nodes k) epoch end h.one h.order (h.nodes k) a)
  moves_on c (Lost k epoch) h a = node_moves c k (after_loss (c.nodes k)) h (lost_fed c.point k (c.nodes k) (h.nodes k))
  moves_on c (Write k b) h a = node_moves c k (record (c.nodes k) { own = (c.nodes k).own ++ b ∷ [] }) h (write_fed c.point k (c.nodes k) ((c.nodes k).own ++ b ∷ []) (h.nodes k))
  moves_on c (Renew k) h a = node_moves c k new_node h (new_fed c.point k)

  moves_from : (c : Cluster) (moves : List Move) → IsCluster c → AreAllowed make c moves → IsCluster (fold moved c moves)
  moves_from c [] h a = h
  moves_from c (move ∷ moves) h (a, rest) = moves_from (moved c move) moves (moves_on c move h a) rest

  pub first_cluster : IsCluster at_first
  first_cluster = record { one = one_at_first make; order = order_at_first; nodes = λ k. new_fed no_history k }

pub nodes_follow : NodesFollow
nodes_follow make moves a = let h = moves_from make at_first moves (first_cluster make) a in (h.one, h.order, h.nodes)

pub equal_ends : EqualEnds
equal_ends make moves a j k same one other =
    let h = moves_from make at_first moves (first_cluster make) a in
    (same_beginning 0 (one.gone ++ ((cluster moves).nodes j).batches) one.rest (other.gone ++ ((cluster moves).nodes k).batches) other.rest
    (subst (Meet 0) one.split h.one.meet) (sym one.split ∙ other.split) (one.end ∙ (same ∙ sym other.end))).0

-- ---- leaders

led_on : (c : Cluster) (move : Move) (k epoch : ℕ) (start wrote : List Batch) → Led c.point.leaderships k epoch start wrote → Led (moved c move).point.leaderships k epoch start wrote
led_on c (Store change) k epoch start wrote h = led_stays c.point change k epoch start wrote h
led_on c (Feed j b) k epoch start wrote h = h
led_on c (Load j image) k epoch start wrote h = h
led_on c (Lead j number end) k epoch start wrote h = h
led_on c (Commit j number end) k epoch start wrote h = h
led_on c (Lost j number) k epoch start wrote h = h
led_on c (Write j b) k epoch start wrote h = h
led_on c (Renew j) k epoch start wrote h = h

led_after : (c : Cluster) (moves : List Move) (k epoch : ℕ) (start wrote : List Batch) → Led c.point.leaderships k epoch start wrote → Led (fold moved c moves).point.leaderships k epoch start wrote
led_after c [] k epoch start wrote h = h
led_after c (move ∷ moves) k epoch start wrote h = led_after (moved c move) moves k epoch start wrote (led_on c move k epoch start wrote h)

allowed_after : (make : List Batch → List ℕ) (c : Cluster) (moves later : List Move) → AreAllowed make c (moves ++ later)
    → AreAllowed make c moves × AreAllowed make (fold moved c moves) later
allowed_after make c [] later a = (tt, a)
allowed_after make c (move ∷ moves) later (a, rest) = let r = allowed_after make (moved c move) moves later rest in ((a, r.0), r.1)

pub one_leader : OneLeader
one_leader make moves later j k epoch end last a =
    let first = allowed_after make at_first moves (Lead j epoch end ∷ (later ++ Lead k epoch last ∷ [])) a in
    let c = cluster moves in
    let one = first.1.0 in
    let then = moved c (Lead j epoch end) in
    let rest = allowed_after make then later (Lead k epoch last ∷ []) first.1.1 in
    let other = rest.1.0 in
    let h = moves_from make at_first moves (first_cluster make) first.0 in
    let i = moves_from make then later (moves_on make c (Lead j epoch end) h one) rest.0 in
    one_holder (fold moved then later).point.keys.epoch (fold moved then later).point.leaderships j k epoch one.start [] other.start [] i.order.epochs
    (led_after then later j epoch one.start [] one.ours) other.ours
