-- What comes to a core, and what that may do then.
use Rattle.std.proofs.Common.{◌≡◌, ◌∙◌, sym, ℕ, zero, suc, ◌+◌, ◌-◌, ◌<◌, ◌≤◌, Bool, true, false, cond, List, [], ◌∷◌, ◌++◌, refl, ap, subst, arith, inl, inr, ◌⊎◌}
use Rattle.std.proofs.lemmas.Bool.{eqb-true}
use Rattle.std.proofs.lemmas.Bool.Decides.{nat_tests}
use Rattle.std.specs.Prelude.{None, Some, ◌&&◌, nat_eq, nat_le, nat_lt, length, fold}
use Rattle.law_quorum.specs.Batches.{Batch, StoredImage, BatchStandsAt, ImageStandsFor, Meet, behind}
use Rattle.law_quorum.specs.Changes.{base_of_first}
use Rattle.law_quorum.specs.Nodes.{Node}
use Rattle.law_quorum.specs.Nodes as nodes
use Rattle.law_quorum.proofs.KeptLog.{both}
use Rattle.law_quorum.proofs.Places.{meet_before}
use Rattle.law_link.specs.Frames.{Act, AllMayHappen, Commit, Feed, Frame, Lead, Load, Lost, MayAct, Network, network_after}
use Rattle.law_link.specs.Links.{Call, Has, Held, Link, TookLeadership, idle}
use Rattle.law_link.proofs.FoundLeaderships.{one_key}
use Rattle.law_link.proofs.LateFrames.{IsNetwork}
use Rattle.law_link.proofs.LinkSteps.{CallRight, Runs, has_all, runs_at}
use Rattle.law_link.proofs.UnderWay.{none_leads, same_epoch}
use Rattle.law_core.specs.Core.{AppendGroup, Appended, CallAppend, CallDrop, Came, Deed, Elected, Found, FoundImage, HandBatch, HandCommit, HandImage, HandLead, HandLost, Hear, Hold, Imaged, Joined, Leading, LinkCore, MOST, Over, Pass, ROOM, Resign, Role, Serve, Standby, Stood, Won, after_asking, after_lead_when_fed, append_group, append_group_behind, asking, becomes, core_step, end_of, frames_with, leading, on_appended, on_batch, on_found, on_found_image, on_stood, on_won, resigning, with_first}
use Rattle.law_core.specs.Runs.{IsRightOf, WasSeen, acts, behind_first, step_of}

-- a role is that of a node, as its link sees it, and of its link
abbrev pub IsRole : Role → Node → Link → Type 0
IsRole Standby v l = (v.leads ≡ None) × (l.held ≡ None)
IsRole (Elected h) v l = (v.leads ≡ None) × (l.held ≡ Some h)
IsRole (Leading h asked waits) v l = (v.leads ≡ Some h.epoch) × (l.held ≡ Some h) × (l.asked ≡ asked) × (l.waits ≡ waits)

pub record IsCore (c : LinkCore) (v : Node) (l : Link) : Type 0 where
  pub fed : v.end ≡ c.fed
  pub role : IsRole c.role v l

itself : (k : ℕ) → nat_eq k k ≡ true
itself k = grind (arith, nat_tests)

-- what is set at a node is there
there : (k : ℕ) (P : Bool → Type 0) → P true → P (nat_eq k k)
there k P h = subst P (sym (itself k)) h

joined_behind : (most room : ℕ) (bs : List Batch) → (append_group_behind most room bs).0 ++ (append_group_behind most room bs).1 ≡ bs
joined_behind most room [] = refl
joined_behind zero room (b ∷ bs) = refl
joined_behind (suc most) room (b ∷ bs) =
    elim (nat_le (length b.bytes) room) as (λ t. (cond t (with_first b (append_group_behind most (room - length b.bytes) bs)) ([], b ∷ bs)).0
    ++ (cond t (with_first b (append_group_behind most (room - length b.bytes) bs)) ([], b ∷ bs)).1 ≡ b ∷ bs) [
      | true ↦ ap (λ (xs : List Batch). b ∷ xs) (joined_behind most (room - length b.bytes) bs)
      | false ↦ refl
    ]

joined : (b : Batch) (bs : List Batch) → (append_group b bs).0 ++ (append_group b bs).1 ≡ b ∷ bs
joined b bs = ap (λ (xs : List Batch). b ∷ xs) (joined_behind (MOST - 1) (ROOM - length b.bytes) bs)

-- batches that meet end where their counts lead
met_end : (from : ℕ) (bs : List Batch) → Meet from bs → end_of from bs ≡ behind from bs
met_end from [] m = refl
met_end from (b ∷ bs) m = ap (λ (x : ℕ). end_of (x + b.count) bs) m.0 ∙ met_end (from + b.count) bs m.2

differ : (a b : ℕ) → nat_eq a b ≡ false → a ≡ b → ⊥
differ a b f same = (let t : nat_eq a b ≡ true = grind (arith, nat_tests) in let z : true ≡ false = sym t ∙ f in absurd cc)

module _ (make : List Batch → List ℕ) (k : ℕ) (r : List Batch) where
  abbrev after : Network → Deed → Network
  after n deed = network_after n (Act (step_of k r deed))

  -- a commit is up to the end of what was called for
  abbrev IsUpTo : Network → Deed → Type 0
  IsUpTo n (HandCommit e end) = end ≡ behind (n.web.cluster.nodes k).end (n.web.links k).asked
  IsUpTo n other = Unit {0}

  handed_one : (n : Network) (deed : Deed) → IsUpTo n deed → (after n deed).frames k ≡ frames_with (n.frames k) deed
  handed_one n Serve up = there k (λ t. cond t [] (n.frames k) ≡ []) refl
  handed_one n (HandBatch b) up = there k (λ t. cond t (n.frames k ++ Feed b ∷ []) (n.frames k) ≡ n.frames k ++ Feed b ∷ []) refl
  handed_one n (HandImage image) up = there k (λ t. cond t (n.frames k ++ Load image ∷ []) (n.frames k) ≡ n.frames k ++ Load image ∷ []) refl
  handed_one n (HandLead e) up = there k (λ t. cond t (n.frames k ++ Lead e.epoch e.start ∷ []) (n.frames k) ≡ n.frames k ++ Lead e.epoch e.start ∷ []) refl
  handed_one n (HandCommit e end) up =
      there k (λ t. cond t (n.frames k ++ Commit e.epoch (behind (n.web.cluster.nodes k).end (n.web.links k).asked) ∷ []) (n.frames k) ≡ n.frames k ++ Commit e.epoch end ∷ [])
      (ap (λ (x : ℕ). n.frames k ++ Commit e.epoch x ∷ []) (sym up))
  handed_one n (HandLost e) up = there k (λ t. cond t (n.frames k ++ Lost e.epoch ∷ []) (n.frames k) ≡ n.frames k ++ Lost e.epoch ∷ []) refl
  handed_one n (Hear b) up = refl
  handed_one n (Pass b) up = refl
  handed_one n (CallAppend e group waits) up = refl
  handed_one n (CallDrop before image) up = refl
  handed_one n (Hold e) up = refl
  handed_one n (Resign e) up = refl

  -- the deeds may happen one after the other, the core stands for what is then, and what is under way is what they hand over
  pub record Does (n : Network) (deeds : List Deed) (c : LinkCore) : Type 0 where
    pub may : AllMayHappen make n (acts k r deeds)
    pub core : IsCore c ((fold network_after n (acts k r deeds)).web.cluster.nodes k) ((fold network_after n (acts k r deeds)).web.links k)
    pub handed : (fold network_after n (acts k r deeds)).frames k ≡ fold frames_with (n.frames k) deeds

  none : (n : Network) (c : LinkCore) → IsCore c (n.web.cluster.nodes k) (n.web.links k) → Does n [] c
  none n c is = record { may = tt; core = is; handed = refl }

  one : (n : Network) (deed : Deed) (c : LinkCore) → IsUpTo n deed → MayAct make n (step_of k r deed)
      → IsCore c ((after n deed).web.cluster.nodes k) ((after n deed).web.links k) → Does n (deed ∷ []) c
  one n deed c up a is = record { may = (a, tt); core = is; handed = handed_one n deed up }

  more : (n : Network) (deed : Deed) (deeds : List Deed) (c : LinkCore) → IsUpTo n deed → MayAct make n (step_of k r deed) → Does (after n deed) deeds c → Does n (deed ∷ deeds) c
  more n deed deeds c up a d = record {
    may = (a, d.may);
    core = d.core;
    handed = d.handed ∙ ap (λ (fs : List Frame). fold frames_with fs deeds) (handed_one n deed up);
  }

  module _ (n : Network) where
    abbrev v : Node
    v = n.web.cluster.nodes k

    abbrev l : Link
    l = n.web.links k

    begin_does : (fed : ℕ) (e : Held) → IsCore (record { fed = fed; role = Elected e }) v l → Does n (leading fed e) (record { fed = fed; role = after_lead_when_fed fed e })
    begin_does fed e is = by (nat_eq fed e.start) refl
      where
        by : (t : Bool) → nat_eq fed e.start ≡ t → Does n (cond t (HandLead e ∷ []) []) (record { fed = fed; role = cond t (Leading e [] []) (Elected e) })
        by false x = none n (record { fed = fed; role = Elected e }) is
        by true x = one n (HandLead e) (record { fed = fed; role = Leading e [] [] }) tt
            (record { holds = is.role.1; standby = is.role.0; reached = is.fed ∙ eqb-true fed e.start x })
            (there k (λ t. IsCore (record { fed = fed; role = Leading e [] [] }) (cond t (nodes.told_to_lead v e.epoch) v) (cond t (record l { asked = []; waits = [] }) l))
            (record { fed = is.fed; role = (refl, is.role.1, refl, refl) }))

    ask_does : (fed : ℕ) (e : Held) (waits : List Batch) → IsCore (record { fed = fed; role = Leading e [] waits }) v l
        → Does n (asking e waits) (record { fed = fed; role = after_asking e waits })
    ask_does fed e [] is = none n (record { fed = fed; role = Leading e [] [] }) is
    ask_does fed e (b ∷ bs) is =
        let g : AppendGroup = append_group b bs in
        one n (CallAppend e g.0 g.1) (record { fed = fed; role = Leading e g.0 g.1 }) tt
        (record {
          holds = is.role.1;
          leads = is.role.0;
          none = is.role.2;
          first = b;
          others = (append_group_behind (MOST - 1) (ROOM - length b.bytes) bs).0;
          some = refl;
          next = is.role.3 ∙ sym (joined b bs);
        })
        (there k (λ t. IsCore (record { fed = fed; role = Leading e g.0 g.1 }) v
        (cond t (record l { asked = g.0; waits = g.1; calls = record { epoch = e.epoch; made = e.made; group = g.0 } ∷ l.calls }) l))
        (record { fed = is.fed; role = (is.role.0, is.role.1, refl, refl) }))

    resign_does : (fed : ℕ) (e : Held) → v.leads ≡ None → v.end ≡ fed → Does n (Resign e ∷ []) (record { fed = fed; role = Standby })
    resign_does fed e standby end = one n (Resign e) (record { fed = fed; role = Standby }) tt standby
        (there k (λ t. IsCore (record { fed = fed; role = Standby }) v (cond t (idle l) l)) (record { fed = end; role = (standby, refl) }))

    image_does : (c : LinkCore) (before : ℕ) (image : StoredImage) → IsCore c v l → Has image (n.images k) → Does n (core_step c (Imaged before image)).1 c
    image_does c before image is has = by (nat_lt before image.offset) refl
      where
        kept : (role : Role) → IsRole role v l → IsRole role v (record l { keeps = record { before = before; image = image } ∷ l.keeps })
        kept Standby r = r
        kept (Elected e) r = r
        kept (Leading e asked waits) r = r

        by : (t : Bool) → nat_lt before image.offset ≡ t → Does n (cond t (CallDrop before image ∷ []) []) c
        by false e = none n c is
        by true e = one n (CallDrop before image) c tt (grind (arith, nat_tests), has)
            (there k (λ t. IsCore c v (cond t (record l { keeps = record { before = before; image = image } ∷ l.keeps }) l)) (record { fed = is.fed; role = kept c.role is.role }))

    pass_does : (c : LinkCore) (b : Batch) → IsCore c v l → l.pipe ≡ b ∷ r → (v.leads ≡ Some b.epoch → ⊥) → Does n (Pass b ∷ []) c
    pass_does c b is piped other = one n (Pass b) c tt (piped, other)
        (there k (λ t. IsCore c v (cond t (record l { pipe = r }) l)) (record { fed = is.fed; role = passed c.role is.role }))
      where
        passed : (role : Role) → IsRole role v l → IsRole role v (record l { pipe = r })
        passed Standby x = x
        passed (Elected e) x = x
        passed (Leading e asked waits) x = x

  -- ---- what comes

  module _ (n : Network) where
    abbrev w : Node
    w = n.web.cluster.nodes k

    abbrev m : Link
    m = n.web.links k

    rejoin_does : (e : Held) → Does n (Serve ∷ Resign e ∷ []) (record { fed = 0; role = Standby })
    rejoin_does e = more n Serve (Resign e ∷ []) (record { fed = 0; role = Standby }) tt tt
        (resign_does (after n Serve) 0 e (there k (λ t. (cond t nodes.new_node w).leads ≡ None) refl) (there k (λ t. (cond t nodes.new_node w).end ≡ 0) refl))

    join_does : (role : Role) → Does n (Serve ∷ resigning role) (record { fed = 0; role = Standby })
    join_does Standby = one n Serve (record { fed = 0; role = Standby }) tt tt
        (there k (λ t. IsCore (record { fed = 0; role = Standby }) (cond t nodes.new_node w) (cond t (record (idle m) { pipe = [] }) m)) (record { fed = refl; role = (refl, refl) }))
    join_does (Elected e) = rejoin_does e
    join_does (Leading e asked waits) = rejoin_does e

    over_does : (c : LinkCore) → IsCore c w m → Does n (core_step c Over).1 (core_step c Over).0
    over_does c is = by c.role is.role
      where
        by : (role : Role) → IsRole role w m → Does n (core_step (record { fed = c.fed; role = role }) Over).1 (core_step (record { fed = c.fed; role = role }) Over).0
        by Standby x = none n (record { fed = c.fed; role = Standby }) (record { fed = is.fed; role = x })
        by (Elected e) x = resign_does n c.fed e x.0 is.fed
        by (Leading e asked waits) x = more n (HandLost e) (Resign e ∷ []) (record { fed = c.fed; role = Standby }) tt x.0
            (resign_does (after n (HandLost e)) c.fed e (there k (λ t. (cond t (nodes.after_loss w) w).leads ≡ None) refl)
            (there k (λ t. (cond t (nodes.after_loss w) w).end ≡ c.fed) is.fed))

    hear_does : (fed : ℕ) (e : Held) (asked waits : List Batch) (b : Batch) → IsCore (record { fed = fed; role = Leading e asked waits }) w m → m.pipe ≡ b ∷ r → b.epoch ≡ e.epoch
        → Does n (on_batch fed e asked (waits ++ b ∷ []) b).1 (on_batch fed e asked (waits ++ b ∷ []) b).0
    hear_does fed e asked waits b is piped same = by asked heard
      where
        a : MayAct make n (step_of k r (Hear b))
        a = (piped, is.role.0 ∙ ap (λ (x : ℕ). Some x) (sym same))

        heard : IsCore (record { fed = fed; role = Leading e asked (waits ++ b ∷ []) }) ((after n (Hear b)).web.cluster.nodes k) ((after n (Hear b)).web.links k)
        heard = there k (λ t. IsCore (record { fed = fed; role = Leading e asked (waits ++ b ∷ []) }) w (cond t (record m { pipe = r; waits = m.waits ++ b ∷ [] }) m))
            (record { fed = is.fed; role = (is.role.0, is.role.1, is.role.2, ap (λ (x : List Batch). x ++ b ∷ []) is.role.3) })

        by : (xs : List Batch) → IsCore (record { fed = fed; role = Leading e xs (waits ++ b ∷ []) }) ((after n (Hear b)).web.cluster.nodes k) ((after n (Hear b)).web.links k)
            → Does n (on_batch fed e xs (waits ++ b ∷ []) b).1 (on_batch fed e xs (waits ++ b ∷ []) b).0
        by [] next = more n (Hear b) (asking e (waits ++ b ∷ [])) (record { fed = fed; role = after_asking e (waits ++ b ∷ []) }) tt a
            (ask_does (after n (Hear b)) fed e (waits ++ b ∷ []) next)
        by (x ∷ xs) next = one n (Hear b) (record { fed = fed; role = Leading e (x ∷ xs) (waits ++ b ∷ []) }) tt a next

    appended_does : (c : LinkCore) (b : Batch) → IsCore c w m → m.pipe ≡ b ∷ r → Does n (core_step c (Appended b)).1 (core_step c (Appended b)).0
    appended_does c b is piped = by c.role is.role
      where
        by : (role : Role) → IsRole role w m → Does n (on_appended c.fed role b).1 (on_appended c.fed role b).0
        by Standby x = pass_does n (record { fed = c.fed; role = Standby }) b (record { fed = is.fed; role = x }) piped (λ leads. none_leads w.leads b.epoch x.0 leads)
        by (Elected e) x = pass_does n (record { fed = c.fed; role = Elected e }) b (record { fed = is.fed; role = x }) piped (λ leads. none_leads w.leads b.epoch x.0 leads)
        by (Leading e asked waits) x = at (nat_eq b.epoch e.epoch) refl
          where
            at : (t : Bool) → nat_eq b.epoch e.epoch ≡ t
                → Does n (cond t (on_batch c.fed e asked (waits ++ b ∷ []) b) (becomes c.fed (Leading e asked waits) (Pass b ∷ []))).1
                (cond t (on_batch c.fed e asked (waits ++ b ∷ []) b) (becomes c.fed (Leading e asked waits) (Pass b ∷ []))).0
            at true y = hear_does c.fed e asked waits b (record { fed = is.fed; role = x }) piped (eqb-true b.epoch e.epoch y)
            at false y = pass_does n (record { fed = c.fed; role = Leading e asked waits }) b (record { fed = is.fed; role = x }) piped
                (λ leads. differ b.epoch e.epoch y (same_epoch b.epoch e.epoch (sym leads ∙ x.0)))

    -- a batch or an image that was read moves the end
    read_right : (fed : ℕ) (role : Role) (b : Batch) → IsCore (record { fed = fed; role = role }) w m
        → IsCore (record { fed = fed + b.count; role = role }) ((after n (HandBatch b)).web.cluster.nodes k) ((after n (HandBatch b)).web.links k)
    read_right fed role b is =
        there k (λ t. IsCore (record { fed = fed + b.count; role = role }) (cond t (nodes.fed w b) w) m)
        (record { fed = ap (λ (x : ℕ). x + b.count) is.fed; role = by role is.role })
      where
        by : (role : Role) → IsRole role w m → IsRole role (nodes.fed w b) m
        by Standby x = x
        by (Elected e) x = x
        by (Leading e asked waits) x = x

    take_right : (fed : ℕ) (role : Role) (image : StoredImage) → IsCore (record { fed = fed; role = role }) w m
        → IsCore (record { fed = image.offset; role = role }) ((after n (HandImage image)).web.cluster.nodes k) ((after n (HandImage image)).web.links k)
    take_right fed role image is =
        there k (λ t. IsCore (record { fed = image.offset; role = role }) (cond t (nodes.loaded w image) w) m) (record { fed = refl; role = by role is.role })
      where
        by : (role : Role) → IsRole role w m → IsRole role (nodes.loaded w image) m
        by Standby x = x
        by (Elected e) x = x
        by (Leading e asked waits) x = x

    found_does : (c : LinkCore) (b : Batch) → IsCore c w m → BatchStandsAt n.web.cluster.point.log b.base b → Does n (core_step c (Found b)).1 (core_step c (Found b)).0
    found_does c b is s = by c.role is.role
      where
        stands : nat_eq b.base c.fed ≡ true → BatchStandsAt n.web.cluster.point.log w.end b
        stands y = subst (λ (at : ℕ). BatchStandsAt n.web.cluster.point.log at b) (eqb-true b.base c.fed y ∙ sym is.fed) s

        by : (role : Role) → IsRole role w m → Does n (on_found c.fed role b).1 (on_found c.fed role b).0
        by Standby x = at (nat_eq b.base c.fed) refl
          where
            at : (t : Bool) → nat_eq b.base c.fed ≡ t → Does n (cond t (becomes (c.fed + b.count) Standby (HandBatch b ∷ [])) (becomes c.fed Standby [])).1
                (cond t (becomes (c.fed + b.count) Standby (HandBatch b ∷ [])) (becomes c.fed Standby [])).0
            at false y = none n (record { fed = c.fed; role = Standby }) (record { fed = is.fed; role = x })
            at true y = one n (HandBatch b) (record { fed = c.fed + b.count; role = Standby }) tt (x.0, stands y)
                (read_right c.fed Standby b (record { fed = is.fed; role = x }))
        by (Elected e) x = at (nat_eq b.base c.fed) refl
          where
            at : (t : Bool) → nat_eq b.base c.fed ≡ t
                → Does n (cond t (becomes (c.fed + b.count) (after_lead_when_fed (c.fed + b.count) e) (HandBatch b ∷ leading (c.fed + b.count) e)) (becomes c.fed (Elected e) [])).1
                (cond t (becomes (c.fed + b.count) (after_lead_when_fed (c.fed + b.count) e) (HandBatch b ∷ leading (c.fed + b.count) e)) (becomes c.fed (Elected e) [])).0
            at false y = none n (record { fed = c.fed; role = Elected e }) (record { fed = is.fed; role = x })
            at true y = more n (HandBatch b) (leading (c.fed + b.count) e) (record { fed = c.fed + b.count; role = after_lead_when_fed (c.fed + b.count) e }) tt (x.0, stands y)
                (begin_does (after n (HandBatch b)) (c.fed + b.count) e (read_right c.fed (Elected e) b (record { fed = is.fed; role = x })))
        by (Leading e asked waits) x = none n (record { fed = c.fed; role = Leading e asked waits }) (record { fed = is.fed; role = x })

    found_image_does : (c : LinkCore) (image : StoredImage) → IsCore c w m → ImageStandsFor make n.web.cluster.point.log image
        → Does n (core_step c (FoundImage image)).1 (core_step c (FoundImage image)).0
    found_image_does c image is s = by c.role is.role
      where
        later : nat_lt c.fed image.offset ≡ true → w.end ≤ image.offset
        later y = (let e : w.end ≡ c.fed = is.fed in let low : c.fed < image.offset = grind (arith, nat_tests) in omega arith)

        by : (role : Role) → IsRole role w m → Does n (on_found_image c.fed role image).1 (on_found_image c.fed role image).0
        by Standby x = at (nat_lt c.fed image.offset) refl
          where
            at : (t : Bool) → nat_lt c.fed image.offset ≡ t → Does n (cond t (becomes image.offset Standby (HandImage image ∷ [])) (becomes c.fed Standby [])).1
                (cond t (becomes image.offset Standby (HandImage image ∷ [])) (becomes c.fed Standby [])).0
            at false y = none n (record { fed = c.fed; role = Standby }) (record { fed = is.fed; role = x })
            at true y = one n (HandImage image) (record { fed = image.offset; role = Standby }) tt (record { standby = x.0; later = later y; right = s })
                (take_right c.fed Standby image (record { fed = is.fed; role = x }))
        by (Elected e) x = at (nat_lt c.fed image.offset) refl
          where
            at : (t : Bool) → nat_lt c.fed image.offset ≡ t
                → Does n (cond t (becomes image.offset (after_lead_when_fed image.offset e) (HandImage image ∷ leading image.offset e)) (becomes c.fed (Elected e) [])).1
                (cond t (becomes image.offset (after_lead_when_fed image.offset e) (HandImage image ∷ leading image.offset e)) (becomes c.fed (Elected e) [])).0
            at false y = none n (record { fed = c.fed; role = Elected e }) (record { fed = is.fed; role = x })
            at true y = more n (HandImage image) (leading image.offset e) (record { fed = image.offset; role = after_lead_when_fed image.offset e }) tt
                (record { standby = x.0; later = later y; right = s })
                (begin_does (after n (HandImage image)) image.offset e (take_right c.fed (Elected e) image (record { fed = is.fed; role = x })))
        by (Leading e asked waits) x = none n (record { fed = c.fed; role = Leading e asked waits }) (record { fed = is.fed; role = x })

    won_does : (c : LinkCore) (e : Held) → IsCore c w m → (Has e.epoch m.won → ⊥) × TookLeadership n.web.cluster.point.leaderships k e
        → Does n (core_step c (Won e)).1 (core_step c (Won e)).0
    won_does c e is took = by c.role is.role
      where
        by : (role : Role) → IsRole role w m → Does n (on_won c.fed role e).1 (on_won c.fed role e).0
        by Standby x = more n (Hold e) (leading c.fed e) (record { fed = c.fed; role = after_lead_when_fed c.fed e }) tt (x.1, took.0, took.1)
            (begin_does (after n (Hold e)) c.fed e
            (there k (λ t. IsCore (record { fed = c.fed; role = Elected e }) w (cond t (record { held = Some e; asked = []; waits = []; pipe = m.pipe; won = e.epoch ∷ m.won; calls = m.calls; keeps = m.keeps }) m))
            (record { fed = is.fed; role = (x.0, refl) })))
        by (Elected held) x = none n (record { fed = c.fed; role = Elected held }) (record { fed = is.fed; role = x })
        by (Leading held asked waits) x = none n (record { fed = c.fed; role = Leading held asked waits }) (record { fed = is.fed; role = x })

    module _ (h : IsNetwork make n) where
      -- those under way meet from the daemon's end on
      asked_meet : (e : Held) (asked waits : List Batch) → IsRole (Leading e asked waits) w m → Meet w.end asked
      asked_meet e asked waits x =
          let leads : Runs n.web.cluster.point.leaderships k w m e e.epoch = runs_at n.web.cluster.point.leaderships k w m e e.epoch x.1 x.0 (h.web.right k) in
          subst (Meet w.end) x.2 (meet_before w.end m.asked leads.rest (subst (Meet w.end) leads.own leads.meet))

      -- the batches under way stand, where a call of this leadership from the daemon's end on was seen
      seen_first : (e : Held) (first : Batch) (asked waits : List Batch) (made base : ℕ) → IsRole (Leading e (first ∷ asked) waits) w m → e.made ≡ made → first.base ≡ base
          → WasSeen n.web.cluster.point.log m made base → BatchStandsAt n.web.cluster.point.log w.end first
      seen_first e first asked waits made base x key at s =
          let ls = n.web.cluster.point.leaderships in
          let leads : Runs ls k w m e e.epoch = runs_at ls k w m e e.epoch x.1 x.0 (h.web.right k) in
          let called : CallRight ls k m.won s.call = has_all (CallRight ls k m.won) s.call m.calls (h.web.calls k) s.has in
          let number : s.call.epoch ≡ e.epoch = one_key (n.web.cluster.point.keys.revision + 1) s.call.epoch e.epoch ls called.leadership leads.took.leadership
          h.web.cluster.order.made called.found leads.took.found (called.key ∙ (s.key ∙ (sym key ∙ sym leads.took.key))) in
          let meets : Meet w.end (first ∷ asked) = asked_meet e (first ∷ asked) waits x in
          let end : base ≡ w.end = sym at ∙ meets.0 in
          let from : base_of_first s.call.group ≡ base = ap base_of_first s.group ∙ s.at in
          elim (has_all (λ (c : Call). c.epoch ≡ e.epoch → (base_of_first c.group < w.end) ⊎ (c.group ≡ m.asked)) s.call m.calls leads.tried s.has number) [
            | inl low ↦ (let below : base_of_first s.call.group < w.end = low in absurd (omega arith))
            | inr same ↦ (let both_ways : s.first ∷ s.others ≡ first ∷ asked = sym s.group ∙ (same ∙ x.2) in
                let is : s.first ≡ first = cc in
                subst (λ (b : Batch). BatchStandsAt n.web.cluster.point.log w.end b) is (subst (λ (p : ℕ). BatchStandsAt n.web.cluster.point.log p s.first) end s.seen))
          ]

      settle_does : (fed : ℕ) (e : Held) (first : Batch) (asked waits : List Batch) → IsCore (record { fed = fed; role = Leading e (first ∷ asked) waits }) w m
          → BatchStandsAt n.web.cluster.point.log w.end first
          → Does n (HandCommit e (end_of fed (first ∷ asked)) ∷ asking e waits) (record { fed = end_of fed (first ∷ asked); role = after_asking e waits })
      settle_does fed e first asked waits is seen =
          let end : behind w.end m.asked ≡ end_of fed (first ∷ asked) =
          ap (λ (x : List Batch). behind w.end x) is.role.2 ∙ sym (met_end w.end (first ∷ asked) (asked_meet e (first ∷ asked) waits is.role)) in
          more n (HandCommit e (end_of fed (first ∷ asked))) (asking e waits) (record { fed = end_of fed (first ∷ asked); role = after_asking e waits }) (sym end)
          (record { holds = is.role.1; leads = is.role.0; first = first; others = asked; some = is.role.2; seen = seen })
          (ask_does (after n (HandCommit e (end_of fed (first ∷ asked)))) (end_of fed (first ∷ asked)) e waits
          (there k (λ t. IsCore (record { fed = end_of fed (first ∷ asked); role = Leading e [] waits })
          (cond t (nodes.committed w (behind w.end m.asked)) w) (cond t (record m { asked = [] }) m))
          (record { fed = end; role = (is.role.0, is.role.1, refl, is.role.3) })))

      stood_does : (c : LinkCore) (made base : ℕ) → IsCore c w m → WasSeen n.web.cluster.point.log m made base
          → Does n (core_step c (Stood made base)).1 (core_step c (Stood made base)).0
      stood_does c made base is s = by c.role is.role
        where
          by : (role : Role) → IsRole role w m → Does n (on_stood c.fed role made base).1 (on_stood c.fed role made base).0
          by Standby x = none n (record { fed = c.fed; role = Standby }) (record { fed = is.fed; role = x })
          by (Elected e) x = none n (record { fed = c.fed; role = Elected e }) (record { fed = is.fed; role = x })
          by (Leading e [] waits) x = none n (record { fed = c.fed; role = Leading e [] waits }) (record { fed = is.fed; role = x })
          by (Leading e (first ∷ asked) waits) x = at (nat_eq e.made made && nat_eq first.base base) refl
            where
              at : (t : Bool) → nat_eq e.made made && nat_eq first.base base ≡ t
                  → Does n (cond t (becomes (end_of c.fed (first ∷ asked)) (after_asking e waits) (HandCommit e (end_of c.fed (first ∷ asked)) ∷ asking e waits))
                  (becomes c.fed (Leading e (first ∷ asked) waits) [])).1 (cond t (becomes (end_of c.fed (first ∷ asked)) (after_asking e waits) (HandCommit e (end_of c.fed (first ∷ asked)) ∷ asking e waits))
                  (becomes c.fed (Leading e (first ∷ asked) waits) [])).0
              at false y = none n (record { fed = c.fed; role = Leading e (first ∷ asked) waits }) (record { fed = is.fed; role = x })
              at true y =
                  let t = both (nat_eq e.made made) (nat_eq first.base base) y in
                  settle_does c.fed e first asked waits (record { fed = is.fed; role = x })
                  (seen_first e first asked waits made base x (eqb-true e.made made t.0) (eqb-true first.base base t.1) s)

      came_does : (c : LinkCore) (came : Came) → r ≡ behind_first m.pipe → IsCore c w m → IsRightOf make n k came → Does n (core_step c came).1 (core_step c came).0
      came_does c Joined rest is x = join_does c.role
      came_does c (Appended b) rest is x = appended_does c b is (x.1 ∙ ap (λ (bs : List Batch). b ∷ bs) (sym (rest ∙ ap behind_first x.1)))
      came_does c (Imaged before image) rest is x = image_does n c before image is x
      came_does c (Found b) rest is x = found_does c b is x
      came_does c (FoundImage image) rest is x = found_image_does c image is x
      came_does c (Won e) rest is x = won_does c e is x
      came_does c (Stood made base) rest is x = stood_does c made base is x
      came_does c Over rest is x = over_does c is

pub came_right : (make : List Batch → List ℕ) (k : ℕ) (n : Network) → IsNetwork make n → (c : LinkCore) (came : Came) → IsCore c (n.web.cluster.nodes k) (n.web.links k) → IsRightOf make n k came
    → Does make k (behind_first (n.web.links k).pipe) n (core_step c came).1 (core_step c came).0
came_right make k n h c came is right = came_does make k (behind_first (n.web.links k).pipe) n h c came refl is right
