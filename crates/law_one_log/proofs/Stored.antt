-- What is true of each batch that a daemon writes is true of each batch of the log, and of each that a link knows.
use Rattle.std.proofs.Common.{◌≡◌, subst, ℕ, Bool, true, false, cond, List, [], ◌∷◌, ◌++◌}
use Rattle.std.specs.List.{AllByRecursion}
use Rattle.law_quorum.specs.Batches.{Batch}
use Rattle.law_quorum.specs.Changes.{Append, Campaign, Change, Drop, Expire, Other, compares}
use Rattle.law_quorum.specs.History.{Point, batches_appended, point_after}
use Rattle.law_quorum.proofs.Places.{all_after, all_append}
use Rattle.law_link.specs.Links.{Ask, Begin, Call, Clear, Execute, Give, GiveUp, Hear, IsFree, IsPossible, LetGo, Link, LinkStep, Make, Pass, Read, Renew, Settle, Stray, Take, Web, Win, Write, append_of, no_web, set_link, stepped}
use Rattle.law_link.proofs.LateFrames.{at_node}
use Rattle.law_link.proofs.LinkSteps.{all_before, has_all}

module _ (P : Batch → Type 0) (make : List Batch → List ℕ) where
  abbrev pub All : List Batch → Type 0
  All bs = AllByRecursion P bs

  pub record LinkHas (l : Link) : Type 0 where
    pub asked : All l.asked
    pub waits : All l.waits
    pub pipe : All l.pipe
    pub calls : AllByRecursion (λ (c : Call). All c.group) l.calls

  pub record WebHas (w : Web) : Type 0 where
    pub log : All w.cluster.point.log
    pub links : (k : ℕ) → LinkHas (w.links k)

  -- the batch that a daemon writes in a step
  abbrev pub WritesOne : LinkStep → Type 0
  WritesOne (Write k b) = P b
  WritesOne (Stray k b) = P b
  WritesOne other = Unit {0}

  log_has : (p : Point) (change : Change) → All p.log → All (batches_appended change) → All (point_after p change).log
  log_has p change log new = by (compares p.keys change)
    where
      by : (t : Bool) → All (cond t (p.log ++ batches_appended change) p.log)
      by true = all_append P p.log (batches_appended change) log new
      by false = log

  none_appended : (change : Change) → IsFree change → All (batches_appended change)
  none_appended (Campaign node token epoch) f = tt
  none_appended (Append made batches) f = absurd f
  none_appended (Drop before image) f = absurd f
  none_appended Expire f = tt
  none_appended Other f = tt

  module _ (w : Web) (h : WebHas w) where
    store_has : (change : Change) → All (batches_appended change) → WebHas (record { cluster = record w.cluster { point = point_after w.cluster.point change }; links = w.links })
    store_has change new = record { log = log_has w.cluster.point change h.log new; links = h.links }

    set_has : (k : ℕ) (new : Link) → LinkHas new → (j : ℕ) → LinkHas (set_link k new w.links j)
    set_has k new own = at_node k (λ j t. LinkHas (cond t new (w.links j))) own h.links

    first_of : (k : ℕ) (b : Batch) (rest : List Batch) → (w.links k).pipe ≡ b ∷ rest → All (b ∷ rest)
    first_of k b rest is = subst (AllByRecursion P) is (h.links k).pipe

    pub step_has : (step : LinkStep) → IsPossible make w step → WritesOne step → WebHas (stepped w step)
    step_has (Execute k call) a new = store_has (append_of call) (has_all (λ (c : Call). All c.group) call (w.links k).calls (h.links k).calls a)
    step_has (Clear k keep) a new = store_has (Drop keep.before keep.image) tt
    step_has (Make change) a new = store_has change (none_appended change a)
    step_has (Win k e) a new =
        let l = h.links k in
        record { log = h.log; links = set_has k _ (record { asked = tt; waits = tt; pipe = l.pipe; calls = l.calls }) }
    step_has (Read k b) a new = record { log = h.log; links = h.links }
    step_has (Take k image) a new = record { log = h.log; links = h.links }
    step_has (Begin k e) a new =
        let l = h.links k in
        record { log = h.log; links = set_has k _ (record { asked = tt; waits = tt; pipe = l.pipe; calls = l.calls }) }
    step_has (Write k b) a new =
        let l = h.links k in
        record { log = h.log; links = set_has k _ (record { asked = l.asked; waits = l.waits; pipe = all_append P (w.links k).pipe (b ∷ []) l.pipe (new, tt); calls = l.calls }) }
    step_has (Stray k b) a new =
        let l = h.links k in
        record { log = h.log; links = set_has k _ (record { asked = l.asked; waits = l.waits; pipe = all_append P (w.links k).pipe (b ∷ []) l.pipe (new, tt); calls = l.calls }) }
    step_has (Hear k b rest) a new =
        let l = h.links k in
        let pipe = first_of k b rest a.0 in
        record { log = h.log; links = set_has k _ (record { asked = l.asked; waits = all_append P (w.links k).waits (b ∷ []) l.waits (pipe.0, tt); pipe = pipe.1; calls = l.calls }) }
    step_has (Pass k b rest) a new =
        let l = h.links k in
        record { log = h.log; links = set_has k _ (record { asked = l.asked; waits = l.waits; pipe = (first_of k b rest a.0).1; calls = l.calls }) }
    step_has (Ask k e group rest) a new =
        let l = h.links k in
        let both : All (group ++ rest) = subst (AllByRecursion P) a.next l.waits in
        let asked : All group = all_before P group rest both in
        record { log = h.log; links = set_has k _ (record { asked = asked; waits = all_after P group rest both; pipe = l.pipe; calls = (asked, l.calls) }) }
    step_has (Settle k e) a new =
        let l = h.links k in
        record { log = h.log; links = set_has k _ (record { asked = tt; waits = l.waits; pipe = l.pipe; calls = l.calls }) }
    step_has (Give k keep) a new =
        let l = h.links k in
        record { log = h.log; links = set_has k _ (record { asked = l.asked; waits = l.waits; pipe = l.pipe; calls = l.calls }) }
    step_has (GiveUp k epoch) a new =
        let l = h.links k in
        record { log = h.log; links = set_has k _ (record { asked = tt; waits = tt; pipe = l.pipe; calls = l.calls }) }
    step_has (LetGo k) a new =
        let l = h.links k in
        record { log = h.log; links = set_has k _ (record { asked = tt; waits = tt; pipe = l.pipe; calls = l.calls }) }
    step_has (Renew k) a new =
        let l = h.links k in
        record { log = h.log; links = set_has k _ (record { asked = tt; waits = tt; pipe = tt; calls = l.calls }) }

  pub first_has : WebHas no_web
  first_has = record { log = tt; links = λ k. record { asked = tt; waits = tt; pipe = tt; calls = tt } }
