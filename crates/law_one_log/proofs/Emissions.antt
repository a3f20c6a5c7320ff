-- What a daemon writes, as its link sees it.
use Rattle.std.proofs.Common.{◌≡◌, ◌∙◌, sym, subst, ℕ, ◌+◌, Bool, true, false, cond, List, [], ◌∷◌, ◌++◌, length, map, take, refl, ap, arith}
use Rattle.std.specs.Prelude.{nat_eq, fold, Option, Some}
use Rattle.std.proofs.lemmas.List.{append-nil, append_assoc}
use Rattle.kr_batch.specs.declared.Batch.{Batch}
use Rattle.kr_defs.specs.declared.record.Item.{Item}
use Rattle.kr_defs.specs.Image.{empty}
use Rattle.law_quorum.specs.Batches.{behind}
use Rattle.law_quorum.specs.Batches.{Batch as StoredBatch}
use Rattle.law_quorum.specs.History.{Point}
use Rattle.law_quorum.specs.NodeLaws.{IsFedNode}
use Rattle.law_quorum.specs.Nodes.{Node}
use Rattle.law_quorum.proofs.Places.{all_after, all_append, behind_append}
use Rattle.law_link.specs.Frames.{Emit, Network, NetworkStep, emitted, leads_epoch, network_after}
use Rattle.law_link.specs.Links.{Has, IsPossible, MayWrite, Stray, Write, stepped}
use Rattle.law_link.proofs.LateFrames.{IsNetwork, at_node, network_right}
use Rattle.law_link.proofs.LinkSteps.{all_before}
use Rattle.law_link.proofs.UnderWay.{IsUnderWay, Once, epochs_begun, epochs_led, joined_stays, tip_stays, written}
use Rattle.law_link.proofs.Welcome.{AscentOf, ascends}
use Rattle.law_nodes.proofs.Logs.{front_means}
use Rattle.law_one_log.specs.StoredBatches.{image_bytes, stored}
use Rattle.law_one_log.proofs.DaemonStates.{with_batches}
use Rattle.law_one_log.proofs.Meanings.{HasSense, SenseBehind, WebHasSense, below, items, itself, step_sense}
use Rattle.law_one_log.proofs.NextBatches.{AreWritten}
use Rattle.law_one_log.proofs.ReadLists.{AllStored, IsStored, behind_items, items_in}
use Rattle.law_one_log.proofs.Stored.{WebHas, step_has}

module _ (k : ℕ) where
  abbrev pub emits : List Batch → List NetworkStep
  emits bs = map (λ (b : Batch). Emit k (stored b)) bs

  abbrev pub as_stored : List Batch → List StoredBatch
  as_stored bs = map (λ (b : Batch). stored b) bs

  pub record IsEmitted (before after : Network) (bs : List StoredBatch) : Type 0 where
    pub network : IsNetwork image_bytes after
    pub has : WebHas IsStored image_bytes after.web
    pub daemons : (j : ℕ) → after.daemons j ≡ cond (nat_eq k j) (with_batches (before.daemons k) bs) (before.daemons j)
    pub log : after.web.cluster.point ≡ before.web.cluster.point
    pub sense : WebHasSense after.web
    pub ascent : (leasts : ℕ → ℕ) → ((j : ℕ) → AscentOf image_bytes leasts before j) → (j : ℕ) → AscentOf image_bytes leasts after j

  one_has : (n : Network) (b : StoredBatch) (t : Bool) → WebHas IsStored image_bytes n.web → IsPossible image_bytes n.web (emitted t k b) → IsStored b
      → WebHas IsStored image_bytes (stepped n.web (emitted t k b))
  one_has n b true h a is = step_has IsStored image_bytes n.web h (Write k b) a is
  one_has n b false h a is = step_has IsStored image_bytes n.web h (Stray k b) a is

  one_log : (n : Network) (b : StoredBatch) (t : Bool) → (stepped n.web (emitted t k b)).cluster.point ≡ n.web.cluster.point
  one_log n b true = refl
  one_log n b false = refl

  -- what is written behind what is under way has the meaning that its link sees
  module _ (n : Network) (h : IsNetwork image_bytes n) (has : WebHas IsStored image_bytes n.web) (g : WebHasSense n.web) (b : StoredBatch) (m : MayWrite (n.daemons k) b)
      (own : AllStored (n.daemons k).own) (sense : SenseBehind n.web.cluster.point.log (n.daemons k).end ((n.daemons k).own ++ b ∷ [])) where
    abbrev p : Point
    p = n.web.cluster.point

    abbrev d : Node
    d = n.daemons k

    abbrev v : Node
    v = n.web.cluster.nodes k

    content : (x : Node) (f : IsFedNode image_bytes p k x) → take x.end (items p.log) ++ items (x.own ++ b ∷ []) ≡ items f.gone ++ (items (x.batches ++ x.own) ++ items (b ∷ []))
    content x f =
        let end : take x.end (items p.log) ≡ items f.gone ++ items x.batches =
        ap (λ (e : ℕ). take e (items p.log)) (sym f.end) ∙ (below p.log (f.gone ++ x.batches) f.rest has.log f.split ∙ items_in f.gone x.batches) in
        ap (λ (l : List Item). l ++ items (x.own ++ b ∷ [])) end
        ∙ (append_assoc (items f.gone) (items x.batches) (items (x.own ++ b ∷ []))
        ∙ ap (λ (l : List Item). items f.gone ++ l)
        (ap (λ (l : List Item). items x.batches ++ l) (items_in x.own (b ∷ []))
        ∙ (sym (append_assoc (items x.batches) (items x.own) (items (b ∷ []))) ∙ ap (λ (l : List Item). l ++ items (b ∷ [])) (sym (items_in x.batches x.own)))))

    module _ (leads : v.leads ≡ Some b.epoch) where
      abbrev way : IsUnderWay image_bytes p k d (n.frames k) v (n.web.links k).won (n.web.links k).held
      way = h.way k

      never : Has b.epoch (epochs_begun (n.frames k)) → ⊥
      never = (subst (λ (o : Option ℕ). Once (epochs_led o (n.frames k))) m.leads way.once).0

      abbrev fv : IsFedNode image_bytes p k v
      fv = h.web.cluster.nodes k

      abbrev fd : IsFedNode image_bytes p k d
      fd = h.daemons k

      joined : v.batches ++ v.own ≡ d.batches ++ d.own
      joined = joined_stays image_bytes p k b.epoch d (n.frames k) v way.reaches m.leads never leads

      both_stored : AllStored (d.batches ++ d.own)
      both_stored =
          all_append IsStored d.batches d.own
          (all_after IsStored fd.gone d.batches (all_before IsStored (fd.gone ++ d.batches) fd.rest (subst (λ (l : List StoredBatch). AllStored l) fd.split has.log))) own

      tip_of_all : (x : Node) (f : IsFedNode image_bytes p k x) → AllStored (x.batches ++ x.own) → behind 0 f.gone + length (items (x.batches ++ x.own)) ≡ behind x.end x.own
      tip_of_all x f stored =
          sym (behind_items (behind 0 f.gone) (x.batches ++ x.own) stored)
          ∙ (sym (behind_append 0 f.gone (x.batches ++ x.own))
          ∙ (ap (behind 0) (sym (append_assoc f.gone x.batches x.own)) ∙ (behind_append 0 (f.gone ++ x.batches) x.own ∙ ap (λ (e : ℕ). behind e x.own) f.end)))

      gone_end : behind 0 fv.gone ≡ behind 0 fd.gone
      gone_end =
          let one = tip_of_all v fv (subst (λ (l : List StoredBatch). AllStored l) (sym joined) both_stored) in
          let two = tip_of_all d fd both_stored in
          let tips = tip_stays image_bytes p k b.epoch d (n.frames k) v way.reaches m.leads never leads in
          let long = ap (λ (l : List StoredBatch). length (items l)) joined in
          omega (arith, one, two, tips, long)

      gone_same : items fv.gone ≡ items fd.gone
      gone_same =
          sym (below p.log fv.gone (v.batches ++ fv.rest) has.log (fv.split ∙ append_assoc fv.gone v.batches fv.rest))
          ∙ (ap (λ (e : ℕ). take e (items p.log)) gone_end ∙ below p.log fd.gone (d.batches ++ fd.rest) has.log (fd.split ∙ append_assoc fd.gone d.batches fd.rest))

      seen_sense : SenseBehind p.log v.end (v.own ++ b ∷ [])
      seen_sense =
          subst (λ (l : List Item). HasSense l)
          (content d fd
          ∙ (ap (λ (l : List Item). l ++ (items (d.batches ++ d.own) ++ items (b ∷ []))) (sym gone_same)
          ∙ (ap (λ (l : List StoredBatch). items fv.gone ++ (items l ++ items (b ∷ []))) (sym joined) ∙ sym (content v fv)))) sense

    one_sense : (t : Bool) → leads_epoch v.leads b.epoch ≡ t → IsPossible image_bytes n.web (emitted t k b) → WebHasSense (stepped n.web (emitted t k b))
    one_sense true is a = step_sense n.web h.web has g (Write k b) a (seen_sense a.leads)
    one_sense false is a = step_sense n.web h.web has g (Stray k b) a tt

  pub all_emitted : (n : Network) (bs : List Batch) → IsNetwork image_bytes n → WebHas IsStored image_bytes n.web → WebHasSense n.web → AllStored (n.daemons k).own
      → SenseBehind n.web.cluster.point.log (n.daemons k).end ((n.daemons k).own ++ as_stored bs) → AreWritten (n.daemons k) (as_stored bs) → AllStored (as_stored bs)
      → IsEmitted n (fold network_after n (emits bs)) (as_stored bs)
  all_emitted n [] h has g own sense w s = record {
    network = h;
    has = has;
    daemons = at_node k (λ j t. n.daemons j ≡ cond t (with_batches (n.daemons k) []) (n.daemons j))
        (ap (λ (own : List StoredBatch). record (n.daemons k) { own = own }) (sym (append-nil (n.daemons k).own))) (λ j. refl);
    log = refl;
    sense = g;
    ascent = λ leasts all. all;
  }
  all_emitted n (b ∷ bs) h has g own sense w s =
      let x = stored b in
      let t = leads_epoch (n.web.cluster.nodes k).leads x.epoch in
      let next = network_after n (Emit k x) in
      let r = network_right image_bytes n (Emit k x) h w.0 in
      let d = n.daemons k in
      let log = n.web.cluster.point.log in
      let now : next.daemons k ≡ written d x = ap (λ (q : Bool). cond q (written d x) d) (itself k) in
      let whole : SenseBehind log d.end ((d.own ++ x ∷ []) ++ as_stored bs) = subst (λ (l : List StoredBatch). SenseBehind log d.end l) (sym (append_assoc d.own (x ∷ []) (as_stored bs))) sense in
      let first : SenseBehind log d.end (d.own ++ x ∷ []) =
      front_means empty (take d.end (items log) ++ items (d.own ++ x ∷ [])) (items (as_stored bs))
      (subst (λ (l : List Item). HasSense l) (ap (λ (l : List Item). take d.end (items log) ++ l) (items_in (d.own ++ x ∷ []) (as_stored bs))
      ∙ sym (append_assoc (take d.end (items log)) (items (d.own ++ x ∷ [])) (items (as_stored bs)))) whole) in
      let then_own : AllStored (next.daemons k).own = subst (λ (y : Node). AllStored y.own) (sym now) (all_append IsStored d.own (x ∷ []) own (s.0, tt)) in
      let then_sense : SenseBehind next.web.cluster.point.log (next.daemons k).end ((next.daemons k).own ++ as_stored bs) =
      subst (λ (q : Point). SenseBehind q.log (next.daemons k).end ((next.daemons k).own ++ as_stored bs)) (sym (one_log n x t))
      (subst (λ (y : Node). SenseBehind log y.end (y.own ++ as_stored bs)) (sym now) whole) in
      let rest = all_emitted next bs r.2 (one_has n x t has r.1.0 s.0) (one_sense n h has g x w.0 own first t refl r.1.0) then_own then_sense
      (subst (λ (y : Node). AreWritten y (as_stored bs)) (sym now) w.1) s.1 in
      record {
        network = rest.network;
        has = rest.has;
        daemons = λ j.
            rest.daemons j
            ∙ at_node k (λ i q. cond q (with_batches (next.daemons k) (as_stored bs)) (cond q (written (n.daemons k) x) (n.daemons i)) ≡ cond q (with_batches (n.daemons k) (x ∷ as_stored bs)) (n.daemons i))
            (ap (λ (y : Node). with_batches y (as_stored bs)) now
            ∙ ap (λ (l : List StoredBatch). record (n.daemons k) { own = l }) (append_assoc (n.daemons k).own (x ∷ []) (as_stored bs)))
            (λ i. refl) j;
        log = rest.log ∙ one_log n x t;
        sense = rest.sense;
        ascent = λ leasts all. rest.ascent leasts (ascends image_bytes n h leasts all (Emit k x) w.0 tt);
      }
