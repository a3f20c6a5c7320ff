-- What a core does, as turns of a system whose daemons are controllers.
use Rattle.std.proofs.Common.{◌≡◌, ◌∙◌, sym, ℕ, List, [], ◌∷◌, ◌++◌, refl, ap, subst}
use Rattle.std.proofs.lemmas.List.{append-nil}
use Rattle.std.proofs.lemmas.List.Sums.{fold-append}
use Rattle.std.specs.Prelude.{fold, map}
use Rattle.std.specs.List.{AllByRecursion}
use Rattle.kr_defs.specs.declared.options.Options.{Options}
use Rattle.law_quorum.specs.Batches.{Batch as StoredBatch}
use Rattle.law_link.specs.Frames.{Act, AllMayHappen, MayAct, Network, network_after, set_at}
use Rattle.law_link.specs.Links.{Clear, Execute, LinkStep, Make}
use Rattle.law_link.specs.Refusals.{AllRise, Rises}
use Rattle.law_core.specs.Core.{Deed, Joined, Serve, core_step, resigning}
use Rattle.law_core.specs.Runs.{Comes, CoreRun, Happens, IsOfNoLink, acts, behind_first, run_after, step_of}
use Rattle.law_nodes.specs.Nodes.{NodeTold, RunNode, fresh_node}
use Rattle.law_one_log.specs.Daemons.{AllMayTurn, Link, System, SystemTurn, no_system, turned, with_new}
use Rattle.law_one_log.specs.StoredBatches.{image_bytes}
use Rattle.law_timed_links.proofs.CallSides.{RecordsAll, RecordsJoin}
use Rattle.law_timed_links.proofs.CoreDeeds.{leaves, quiet_all, resigned}
use Rattle.law_timed_links.proofs.DeedEffects.{IsNoServe}
use Rattle.law_timed_links.proofs.TimedRuns.{RecordsStore}

module _ (options : Options) where
  pub may_both : (y : System) (some more : List SystemTurn) → AllMayTurn options y some → AllMayTurn options (fold (turned options) y some) more → AllMayTurn options y (some ++ more)
  may_both y [] more a b = b
  may_both y (turn ∷ some) more (here, a) b = (here, may_both (turned options y turn) some more a b)

  -- turns come to the network of a run, with these daemons, and clients were told this
  pub record IsTurned (daemons : ℕ → RunNode) (told : List NodeTold) (r : CoreRun) : Type 0 where
    pub turns : List SystemTurn
    pub may : AllMayTurn options no_system turns
    pub network : (fold (turned options) no_system turns).network ≡ r.network
    pub same_daemons : (fold (turned options) no_system turns).daemons ≡ daemons
    pub same_told : (fold (turned options) no_system turns).told ≡ told

  -- more turns behind them
  pub turned_on : (daemons then : ℕ → RunNode) (told told_then : List NodeTold) (r s : CoreRun) (x : IsTurned daemons told r) (more : List SystemTurn)
      → AllMayTurn options (fold (turned options) no_system x.turns) more → (fold (turned options) (fold (turned options) no_system x.turns) more).network ≡ s.network
      → (fold (turned options) (fold (turned options) no_system x.turns) more).daemons ≡ then → (fold (turned options) (fold (turned options) no_system x.turns) more).told ≡ told_then
      → IsTurned then told_then s
  turned_on daemons then told told_then r s x more may network same_daemons same_told =
      let both = fold-append (turned options) no_system x.turns more in
      record {
        turns = x.turns ++ more;
        may = may_both no_system x.turns more x.may may;
        network = ap (λ (y : System). y.network) both ∙ network;
        same_daemons = ap (λ (y : System). y.daemons) both ∙ same_daemons;
        same_told = ap (λ (y : System). y.told) both ∙ same_told;
      }

  module _ (k : ℕ) (rest : List StoredBatch) where
    abbrev turns_of : List Deed → List SystemTurn
    turns_of deeds = map (λ (deed : Deed). Link (step_of k rest deed)) deeds

    abbrev after : System → Deed → System
    after y deed = turned options y (Link (step_of k rest deed))

    deeds_may : (y : System) (deeds : List Deed) → AllMayHappen image_bytes y.network (acts k rest deeds) → AllRise y.network (acts k rest deeds) → AllMayTurn options y (turns_of deeds)
    deeds_may y [] a u = tt
    deeds_may y (deed ∷ deeds) (here, a) (up, u) = ((here, up), deeds_may (after y deed) deeds a u)

    deeds_network : (y : System) (deeds : List Deed) → (fold (turned options) y (turns_of deeds)).network ≡ fold network_after y.network (acts k rest deeds)
    deeds_network y [] = refl
    deeds_network y (deed ∷ deeds) = deeds_network (after y deed) deeds

    deeds_told : (y : System) (deeds : List Deed) → (fold (turned options) y (turns_of deeds)).told ≡ y.told
    deeds_told y [] = refl
    deeds_told y (deed ∷ deeds) = deeds_told (after y deed) deeds ∙ append-nil y.told

    same_daemons_one : (daemons : ℕ → RunNode) (deed : Deed) → IsNoServe deed → with_new (step_of k rest deed) daemons ≡ daemons
    same_daemons_one daemons Serve free = absurd free
    same_daemons_one daemons other free = refl

    deeds_daemons : (y : System) (deeds : List Deed) → AllByRecursion IsNoServe deeds → (fold (turned options) y (turns_of deeds)).daemons ≡ y.daemons
    deeds_daemons y [] free = refl
    deeds_daemons y (deed ∷ deeds) (free, all) = deeds_daemons (after y deed) deeds all ∙ same_daemons_one y.daemons deed free

  -- ---- records

  pub records : (daemons : ℕ → RunNode) (told : List NodeTold) → RecordsAll image_bytes (IsTurned daemons told)
  records daemons told r k came free x right may rise =
      let y = fold (turned options) no_system x.turns in
      let rest = behind_first (r.network.web.links k).pipe in
      let deeds = (core_step (r.cores k) came).1 in
      turned_on daemons daemons told told r (run_after r (Comes k came)) x (turns_of k rest deeds)
      (deeds_may k rest y deeds (subst (λ (n : Network). AllMayHappen image_bytes n (acts k rest deeds)) (sym x.network) may) (subst (λ (n : Network). AllRise n (acts k rest deeds)) (sym x.network) rise))
      (deeds_network k rest y deeds ∙ ap (λ (n : Network). fold network_after n (acts k rest deeds)) x.network)
      (deeds_daemons k rest y deeds (leaves rest (r.network.web.links k) (r.cores k) came free).no_serve ∙ x.same_daemons)
      (deeds_told k rest y deeds ∙ x.same_told)

  pub joins : (daemons : ℕ → RunNode) (told : List NodeTold) → RecordsJoin image_bytes (IsTurned daemons told) (λ (k : ℕ). IsTurned (set_at k fresh_node daemons) told)
  joins daemons told r k x may rise =
      let y = fold (turned options) no_system x.turns in
      let rest = behind_first (r.network.web.links k).pipe in
      let role = (r.cores k).role in
      let deeds = Serve ∷ resigning role in
      turned_on daemons (set_at k fresh_node daemons) told told r (run_after r (Comes k Joined)) x (turns_of k rest deeds)
      (deeds_may k rest y deeds (subst (λ (n : Network). AllMayHappen image_bytes n (acts k rest deeds)) (sym x.network) may) (subst (λ (n : Network). AllRise n (acts k rest deeds)) (sym x.network) rise))
      (deeds_network k rest y deeds ∙ ap (λ (n : Network). fold network_after n (acts k rest deeds)) x.network)
      (deeds_daemons k rest (after k rest y Serve) (resigning role) (quiet_all (resigning role) (resigned role)) ∙ ap (λ (ds : ℕ → RunNode). set_at k fresh_node ds) x.same_daemons)
      (deeds_told k rest y deeds ∙ x.same_told)

  same_with : (daemons : ℕ → RunNode) (step : LinkStep) → IsOfNoLink (Act step) → with_new step daemons ≡ daemons
  same_with daemons (Execute k call) is = refl
  same_with daemons (Clear k keep) is = refl
  same_with daemons (Make change) is = refl
  same_with daemons other is = absurd is

  pub stores : (daemons : ℕ → RunNode) (told : List NodeTold) → RecordsStore image_bytes (IsTurned daemons told)
  stores daemons told r step x is may rise =
      let y = fold (turned options) no_system x.turns in
      turned_on daemons daemons told told r (run_after r (Happens (Act step))) x (Link step ∷ [])
      ((subst (λ (n : Network). MayAct image_bytes n step) (sym x.network) may, subst (λ (n : Network). Rises n (Act step)) (sym x.network) rise), tt)
      (ap (λ (n : Network). network_after n (Act step)) x.network) (same_with y.daemons step is ∙ x.same_daemons) (append-nil y.told ∙ x.same_told)
