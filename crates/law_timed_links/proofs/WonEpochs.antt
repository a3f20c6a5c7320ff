-- The epochs that a node's links won, and its campaigns: each one that is awaited takes, if any, an epoch above them all.
use Rattle.std.proofs.Common.{◌≡◌, ◌∙◌, sym, ℕ, ◌+◌, ◌<◌, ◌≤◌, Bool, true, false, cond, List, [], ◌∷◌, refl, ap, subst, arith, inl, inr, ◌⊎◌}
use Rattle.std.proofs.lemmas.Bool.{eqb-true}
use Rattle.std.specs.Option.{unwrap_or}
use Rattle.std.specs.Prelude.{None, Option, Some, nat_eq}
use Rattle.std.specs.List.{AllByRecursion}
use Rattle.law_quorum.specs.Batches.{Batch}
use Rattle.law_quorum.specs.Changes.{Append, Campaign, Change, Drop, Expire, Other, compares, is_leaderless, keys_written, with_revision}
use Rattle.law_quorum.specs.History.{Leadership, Point, leaderships_after, point_after, with_wrote}
use Rattle.law_quorum.proofs.KeptLog.{both}
use Rattle.law_link.specs.Links.{Has, Held, TookLeadership, leadership_at}
use Rattle.law_link.proofs.FoundLeaderships.{first_or_later, found_epoch}
use Rattle.law_link.proofs.LinkSteps.{all_map, has_all}
use Rattle.kr_link.specs.declared.actions.Action.{Action}
use Rattle.kr_link.specs.declared.actions.Action.TheVariants as actions
use Rattle.kr_link.specs.declared.campaigns.Campaign.{Campaign as LinkCampaign}
use Rattle.law_timed_links.specs.TimedLaws.{AreNames}
use Rattle.law_timed_links.specs.TimedRuns.{LinkedNode}
use Rattle.law_timed_links.proofs.Campaigns.{IsBelow}

none_some : (it : LinkCampaign) → None ≡ Some it → ⊥
none_some it e = absurd cc

none_found : (m : Leadership) → None ≡ Some m → ⊥
none_found m e = absurd cc

-- a campaign that was done for a link of the node, under the name
pub record WasCalled (name : ℕ → ℕ → ℕ) (done : List (ℕ × Action)) (token : ℕ) : Type 0 where
  pub life : ℕ
  pub number : ℕ
  pub has : Has (life, actions.Campaign number) done
  pub named : token ≡ name life number

-- of an earlier link, or below the next token
abbrev pub IsEarlier : ℕ → ℕ → ℕ → Action → Type 0
IsEarlier life next at (actions.Campaign token) = (at < life) ⊎ ((at ≡ life) × (token < next))
IsEarlier life next at other = Unit {0}

abbrev pub AreEarlier : ℕ → ℕ → List (ℕ × Action) → Type 0
AreEarlier life next done = AllByRecursion (λ (e : ℕ × Action). IsEarlier life next e.0 e.1) done

-- a leadership of a node, with a token, in an epoch
pub record IsPast (name : ℕ → ℕ → ℕ) (k life : ℕ) (done : List (ℕ × Action)) (awaited : Option LinkCampaign) (won : List ℕ) (greatest node token epoch : ℕ) : Type 0 where
  pub below : epoch ≤ greatest
  pub called : node ≡ k → WasCalled name done token
  pub late : (it : LinkCampaign) → awaited ≡ Some it → node ≡ k → token ≡ name life it.token → AllByRecursion (λ (e : ℕ). e < epoch) won

module _ (name : ℕ → ℕ → ℕ) (k : ℕ) where
  abbrev pub ArePast : ℕ → List (ℕ × Action) → Option LinkCampaign → List ℕ → ℕ → List Leadership → Type 0
  ArePast life done awaited won greatest ls = AllByRecursion (λ (l : Leadership). IsPast name k life done awaited won greatest l.node l.token l.epoch) ls

  -- the epochs won are some that were led, and the campaigns that were put out are earlier ones
  pub record IsCounted (greatest : ℕ) (ls : List Leadership) (life : ℕ) (done : List (ℕ × Action)) (next : ℕ) (awaited : Option LinkCampaign) (put : List Action) (won : List ℕ) : Type 0 where
    pub low : AllByRecursion (λ (e : ℕ). e ≤ greatest) won
    pub below : AllByRecursion (IsBelow next) put
    pub earlier : AreEarlier life next done
    pub past : ArePast life done awaited won greatest ls

  -- ---- the store

  past_more : (life : ℕ) (done : List (ℕ × Action)) (awaited : Option LinkCampaign) (won : List ℕ) (low high : ℕ) → low ≤ high → (ls : List Leadership)
      → ArePast life done awaited won low ls → ArePast life done awaited won high ls
  past_more life done awaited won low high le [] a = tt
  past_more life done awaited won low high le (l ∷ ls) (h, a) =
      (record { below = (let b : l.epoch ≤ low = h.below in omega (arith, le, b)); called = h.called; late = h.late }, past_more life done awaited won low high le ls a)

  past_wrote : (life : ℕ) (done : List (ℕ × Action)) (awaited : Option LinkCampaign) (won : List ℕ) (greatest : ℕ) (batches : List Batch) (ls : List Leadership)
      → ArePast life done awaited won greatest ls → ArePast life done awaited won greatest (with_wrote batches ls)
  past_wrote life done awaited won greatest batches [] a = tt
  past_wrote life done awaited won greatest batches (l ∷ ls) (h, a) = (h, a)

  low_more : (low high : ℕ) → low ≤ high → (won : List ℕ) → AllByRecursion (λ (e : ℕ). e ≤ low) won → AllByRecursion (λ (e : ℕ). e ≤ high) won
  low_more low high le [] a = tt
  low_more low high le (e ∷ won) (h, a) = (omega (arith, le, h), low_more low high le won a)

  low_above : (low high : ℕ) → low < high → (won : List ℕ) → AllByRecursion (λ (e : ℕ). e ≤ low) won → AllByRecursion (λ (e : ℕ). e < high) won
  low_above low high lt [] a = tt
  low_above low high lt (e ∷ won) (h, a) = (omega (arith, lt, h), low_above low high lt won a)

  -- a campaign of this node's that takes effect was called for
  abbrev pub IsCalledIn : List (ℕ × Action) → Change → Type 0
  IsCalledIn done (Campaign node token epoch) = node ≡ k → WasCalled name done token
  IsCalledIn done _ = Unit {0}

  module _ (p : Point) (life : ℕ) (done : List (ℕ × Action)) (next : ℕ) (awaited : Option LinkCampaign) (put : List Action) (won : List ℕ)
      (i : IsCounted p.keys.epoch p.leaderships life done next awaited put won) where
    taken : (change : Change) → IsCalledIn done change → compares p.keys change ≡ true
        → IsCounted (with_revision (keys_written p.keys change)).epoch (leaderships_after p change) life done next awaited put won
    taken (Campaign node token epoch) is c =
        let up : p.keys.epoch + 1 ≡ epoch = eqb-true (p.keys.epoch + 1) epoch (both (is_leaderless p.keys.leader) (nat_eq (p.keys.epoch + 1) epoch) c).1 in
        let le : p.keys.epoch ≤ epoch = omega (arith, up) in
        let lt : p.keys.epoch < epoch = omega (arith, up) in
        record {
          low = low_more p.keys.epoch epoch le won i.low;
          below = i.below;
          earlier = i.earlier;
          past = (
            record { below = omega arith; called = is; late = λ it x y z. low_above p.keys.epoch epoch lt won i.low },
            past_more life done awaited won p.keys.epoch epoch le p.leaderships i.past,
          );
        }
    taken (Append made batches) is c = record { low = i.low; below = i.below; earlier = i.earlier; past = past_wrote life done awaited won p.keys.epoch batches p.leaderships i.past }
    taken (Drop before image) is c = record { low = i.low; below = i.below; earlier = i.earlier; past = i.past }
    taken Expire is c = record { low = i.low; below = i.below; earlier = i.earlier; past = i.past }
    taken Other is c = record { low = i.low; below = i.below; earlier = i.earlier; past = i.past }

    stored_by : (change : Change) → IsCalledIn done change → (t : Bool) → compares p.keys change ≡ t
        → IsCounted (cond t (with_revision (keys_written p.keys change)) p.keys).epoch (cond t (leaderships_after p change) p.leaderships) life done next awaited put won
    stored_by change is true c = taken change is c
    stored_by change is false c = i

    pub stored_right : (change : Change) → IsCalledIn done change
        → IsCounted (point_after p change).keys.epoch (point_after p change).leaderships life done next awaited put won
    stored_right change is = stored_by change is (compares p.keys change) refl

  -- ---- the link

  module _ (greatest : ℕ) (ls : List Leadership) (life : ℕ) (done : List (ℕ × Action)) (next : ℕ) (awaited : Option LinkCampaign) (put : List Action) (won : List ℕ)
      (i : IsCounted greatest ls life done next awaited put won) where
    -- the first of what it put out is done
    done_earlier : (action : Action) → IsBelow next action → IsEarlier life next life action
    done_earlier (actions.Campaign token) b = inr (refl, b)
    done_earlier other b = tt

    past_done : (e : ℕ × Action) (rest : List Leadership) → ArePast life done awaited won greatest rest → ArePast life (e ∷ done) awaited won greatest rest
    past_done e [] a = tt
    past_done e (l ∷ rest) (h, a) = (
      record { below = h.below; called = λ x. (let w = h.called x in record { life = w.life; number = w.number; has = inr w.has; named = w.named }); late = h.late },
      past_done e rest a,
    )

    pub done_right : (action : Action) (rest : List Action) → AllByRecursion (IsBelow next) (action ∷ rest) → IsCounted greatest ls life ((life, action) ∷ done) next awaited rest won
    done_right action rest (b, below) = record { low = i.low; below = below; earlier = (done_earlier action b, i.earlier); past = past_done (life, action) ls i.past }

    -- another link takes its place
    older : (at : ℕ) (action : Action) → IsEarlier life next at action → IsEarlier (life + 1) 0 at action
    older at (actions.Campaign token) e = elim e [
      | inl low ↦ inl (omega (arith, low))
      | inr same ↦ (let s : at ≡ life = same.0 in inl (omega (arith, s)))
    ]
    older at other e = tt

    past_none : (rest : List Leadership) → ArePast life done awaited won greatest rest → ArePast (life + 1) done None won greatest rest
    past_none [] a = tt
    past_none (l ∷ rest) (h, a) = (record { below = h.below; called = h.called; late = λ it e x y. absurd (none_some it e) }, past_none rest a)

    pub restarted_right : IsCounted greatest ls (life + 1) done 0 None [] won
    restarted_right = record {
      low = i.low;
      below = tt;
      earlier = all_map (λ (e : ℕ × Action). IsEarlier life next e.0 e.1) (λ (e : ℕ × Action). IsEarlier (life + 1) 0 e.0 e.1) (λ e h. older e.0 e.1 h) done i.earlier;
      past = past_none ls i.past;
    }

    -- ---- a call

    later_next : (more : ℕ) → next ≤ more → (at : ℕ) (action : Action) → IsEarlier life next at action → IsEarlier life more at action
    later_next more le at (actions.Campaign token) e = elim e [
      | inl low ↦ inl low
      | inr same ↦ (let s : token < next = same.1 in inr (same.0, omega (arith, le, s)))
    ]
    later_next more le at other e = tt

    earlier_more : (more : ℕ) → next ≤ more → AreEarlier life more done
    earlier_more more le =
        all_map (λ (e : ℕ × Action). IsEarlier life next e.0 e.1) (λ (e : ℕ × Action). IsEarlier life more e.0 e.1) (λ e h. later_next more le e.0 e.1 h) done i.earlier

    -- nobody leads under the name of a campaign that wasn't put out
    unused : AreNames name → (token : ℕ) → WasCalled name done token → token ≡ name life next → ⊥
    unused names token w e =
        let same = names w.life w.number life next (sym w.named ∙ e) in
        let number : w.number ≡ next = same.1 in
        let at : w.life ≡ life = same.0 in
        elim (has_all (λ (x : ℕ × Action). IsEarlier life next x.0 x.1) (w.life, actions.Campaign w.number) done i.earlier w.has) [
          | inl low ↦ (let below : w.life < life = low in absurd (omega (arith, at, below)))
          | inr here ↦ (let below : w.number < next = here.1 in absurd (omega (arith, number, below)))
        ]

    past_with : (then : Option LinkCampaign) → ((node token epoch : ℕ) → (node ≡ k → WasCalled name done token)
        → ((it : LinkCampaign) → awaited ≡ Some it → node ≡ k → token ≡ name life it.token → AllByRecursion (λ (e : ℕ). e < epoch) won)
        → (it : LinkCampaign) → then ≡ Some it → node ≡ k → token ≡ name life it.token → AllByRecursion (λ (e : ℕ). e < epoch) won)
        → (rest : List Leadership) → ArePast life done awaited won greatest rest → ArePast life done then won greatest rest
    past_with then f [] a = tt
    past_with then f (l ∷ rest) (h, a) =
        (record { below = h.below; called = h.called; late = f l.node l.token l.epoch h.called h.late }, past_with then f rest a)

    pub called_right : AreNames name → (more : ℕ) (then : Option LinkCampaign) (puts : List Action) → next ≤ more → AllByRecursion (IsBelow more) puts
        → (then ≡ None) ⊎ ((then ≡ awaited) ⊎ ((it : LinkCampaign) × ((then ≡ Some it) × (it.token ≡ next))))
        → IsCounted greatest ls life done more then puts won
    called_right names more then puts le below how = record {
      low = i.low;
      below = below;
      earlier = earlier_more more le;
      past = past_with then (λ node token epoch called late it e here named. by how node token epoch called late it e here named) ls i.past;
    }
      where
        by : (then ≡ None) ⊎ ((then ≡ awaited) ⊎ ((it : LinkCampaign) × ((then ≡ Some it) × (it.token ≡ next)))) → (node token epoch : ℕ) → (node ≡ k → WasCalled name done token)
            → ((it : LinkCampaign) → awaited ≡ Some it → node ≡ k → token ≡ name life it.token → AllByRecursion (λ (e : ℕ). e < epoch) won)
            → (it : LinkCampaign) → then ≡ Some it → node ≡ k → token ≡ name life it.token → AllByRecursion (λ (e : ℕ). e < epoch) won
        by (inl none) node token epoch called late it e here named = absurd (none_some it (sym none ∙ e))
        by (inr (inl same)) node token epoch called late it e here named = late it (sym same ∙ e) here named
        by (inr (inr fresh)) node token epoch called late it e here named =
            let same : it.token ≡ next = ap (λ (o : Option LinkCampaign). (unwrap_or o it).token) (sym e ∙ fresh.1.0) ∙ fresh.1.1 in
            absurd (unused names token (called here) (named ∙ ap (λ (x : ℕ). name life x) same))

    -- a campaign took effect, and isn't awaited any more
    pub won_right : (epoch more : ℕ) (then : Option LinkCampaign) (puts : List Action) → epoch ≤ greatest → next ≤ more → AllByRecursion (IsBelow more) puts → then ≡ None
        → IsCounted greatest ls life done more then puts (epoch ∷ won)
    won_right epoch more then puts low le below none = record { low = (low, i.low); below = below; earlier = earlier_more more le; past = past_won ls i.past }
      where
        past_won : (rest : List Leadership) → ArePast life done awaited won greatest rest → ArePast life done then (epoch ∷ won) greatest rest
        past_won [] a = tt
        past_won (l ∷ rest) (h, a) = (record { below = h.below; called = h.called; late = λ it e x y. absurd (none_some it (sym none ∙ e)) }, past_won rest a)

    -- where it was awaited it is above all that were won
    pub above_won : (h : Held) (took : TookLeadership ls k h) (it : LinkCampaign) → awaited ≡ Some it → took.leadership.token ≡ name life it.token
        → AllByRecursion (λ (e : ℕ). e < h.epoch) won × (h.epoch ≤ greatest)
    above_won h took it e named =
        let past = found_all h.epoch ls took.leadership i.past took.found in
        let number : took.leadership.epoch ≡ h.epoch = found_epoch h.epoch ls took.leadership took.found in
        (subst (λ (x : ℕ). AllByRecursion (λ (e : ℕ). e < x) won) number (past.late it e took.holder named), subst (λ (x : ℕ). x ≤ greatest) number past.below)
      where
        found_all : (epoch : ℕ) (rest : List Leadership) (m : Leadership) → ArePast life done awaited won greatest rest → leadership_at epoch rest ≡ Some m
            → IsPast name k life done awaited won greatest m.node m.token m.epoch
        found_all epoch [] m a found = absurd (none_found m found)
        found_all epoch (l ∷ rest) m (h, a) found = elim (first_or_later epoch l m rest found) [
          | inl here ↦ subst (λ (x : Leadership). IsPast name k life done awaited won greatest x.node x.token x.epoch) here.1 h
          | inr later ↦ found_all epoch rest m a later.1
        ]

abbrev pub CountedAt : (ℕ → ℕ → ℕ) → Point → ℕ → LinkedNode → List ℕ → Type 0
CountedAt name p k x won =
    IsCounted name k p.keys.epoch p.leaderships x.life x.done x.link.campaigns.next x.link.campaigns.under_way x.link.out.actions won
