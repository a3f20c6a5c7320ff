-- A core's steps, by what its role is.
use Rattle.std.proofs.Common.{◌≡◌, ◌∙◌, sym, ℕ, ◌+◌, ◌-◌, Bool, true, false, cond, List, [], ◌∷◌, ◌++◌, refl, ap}
use Rattle.std.proofs.lemmas.Bool.{cond-true, cond-false, eqb-true}
use Rattle.std.specs.Cmp.{second_so}
use Rattle.std.specs.Prelude.{◌&&◌, nat_eq, nat_lt, not}
use Rattle.law_quorum.specs.Batches.{Batch, StoredImage}
use Rattle.law_quorum.specs.Changes.{base_of_first}
use Rattle.law_link.specs.Links.{Held}
use Rattle.law_core.specs.Core.{CallAppend, Deed, Elected, HandBatch, HandImage, Hear, Hold, Leading, LinkCore, Outcome, Pass, Role, Standby, after_lead_when_fed, becomes, leading, on_appended, on_batch, on_found, on_found_image, on_over, on_stood, on_won, core_step, Imaged, CallDrop, asking, end_of, resigning}
use Rattle.kr_link.specs.Cores.{asked_in, asking_in, beginning_in, begun_in, committed_in, committed_to, committing, telling_lost}
use Rattle.kr_link.specs.Groups.{has_no_batch, may_ask, waiting_group}
use Rattle.kr_link.specs.declared.actions.Action.TheVariants as actions
use Rattle.kr_link.specs.declared.actions.DaemonFrame.TheVariants as frames
use Rattle.kr_link.specs.Outgoing.{Outgoing, again_with, append_action, put_all, put_one}
use Rattle.kr_link.specs.Roles.{is_image_next, has_leadership, is_leading, is_batch_next, awaits_append}

-- ---- over

pub over_core : (fed : ℕ) (role : Role) → (on_over fed role).0 ≡ (becomes fed Standby []).0
over_core fed Standby = refl
over_core fed (Elected h) = refl
over_core fed (Leading h asked waits) = refl

pub over_out : (out : Outgoing) (fed : ℕ) (role : Role) → put_all out (on_over fed role).1 ≡ put_all (put_all out (telling_lost role)) (resigning role)
over_out out fed Standby = refl
over_out out fed (Elected h) = refl
over_out out fed (Leading h asked waits) = refl

-- ---- batches of the daemon

pub not_ready : (h : Held) (asked waits : List Batch) → may_ask asked waits ≡ false → asked_in h asked waits ≡ Leading h asked waits
not_ready h [] [] e = refl
not_ready h [] (b ∷ bs) e = absurd cc
not_ready h (first ∷ asked) waits e = refl

pub asks_nothing : (h : Held) (asked waits : List Batch) → may_ask asked waits ≡ false → asking_in h asked waits ≡ []
asks_nothing h [] [] e = refl
asks_nothing h [] (b ∷ bs) e = absurd cc
asks_nothing h (first ∷ asked) waits e = refl

-- a group is called for
module _ (h : Held) where
  pub ready_role : (asked waits group rest : List Batch) → may_ask asked waits ≡ true → group ≡ (waiting_group waits).0 → rest ≡ (waiting_group waits).1
      → Leading h group rest ≡ asked_in h asked waits
  ready_role [] [] group rest e g r = absurd cc
  ready_role [] (b ∷ bs) group rest e g r = ap (λ (xs : List Batch). Leading h xs rest) g ∙ ap (λ (xs : List Batch). Leading h (waiting_group (b ∷ bs)).0 xs) r
  ready_role (first ∷ asked) waits group rest e g r = absurd cc

  asks_group : (asked waits : List Batch) → may_ask asked waits ≡ true → asking_in h asked waits ≡ CallAppend h (waiting_group waits).0 (waiting_group waits).1 ∷ []
  asks_group [] [] e = absurd cc
  asks_group [] (b ∷ bs) e = refl
  asks_group (first ∷ asked) waits e = absurd cc

  -- with both halves of its guard
  pub call_out : (asked batches : List Batch) (end : ℕ) (out after : Outgoing) → batches ≡ asked → end ≡ base_of_first asked
      → after ≡ put_one out (actions.Append (record { made = h.made; end = end }) batches) → after ≡ put_one out (append_action h asked)
  call_out asked batches end out after same at a =
      a ∙ (ap (λ (n : ℕ). put_one out (actions.Append (record { made = h.made; end = n }) batches)) at
      ∙ ap (λ (xs : List Batch). put_one out (actions.Append (record { made = h.made; end = base_of_first asked }) xs)) same)

  pub ready_out : (asked waits group : List Batch) (out after : Outgoing) → may_ask asked waits ≡ true → group ≡ (waiting_group waits).0
      → after ≡ put_one out (append_action h group) → after ≡ put_all out (asking_in h asked waits)
  ready_out asked waits group out after e g a =
      a ∙ (ap (λ (xs : List Batch). put_one out (append_action h xs)) g ∙ sym (ap (λ (ds : List Deed). put_all out ds) (asks_group asked waits e)))

  pub none_again : (out : Outgoing) (asked : List Batch) → has_no_batch asked ≡ true → out ≡ again_with out h asked
  none_again out [] e = refl
  none_again out (b ∷ bs) e = absurd cc

  pub some_again : (out after : Outgoing) (asked : List Batch) → has_no_batch asked ≡ false → after ≡ put_one out (append_action h asked) → after ≡ again_with out h asked
  some_again out after [] e a = absurd cc
  some_again out after (b ∷ bs) e a = a

  -- the append under way is committed, and another one called for
  pub commit_out : (fed end : ℕ) (asked none waits : List Batch) (out mid after : Outgoing) → none ≡ [] → end ≡ end_of fed asked
      → mid ≡ put_one out (actions.Send (frames.Commit h.epoch end)) → after ≡ put_all mid (asking_in h none waits)
      → after ≡ put_all out (committing fed (Leading h asked waits))
  commit_out fed end asked none waits out mid after n at m a =
      a ∙ (ap (λ (xs : List Batch). put_all mid (asking_in h xs waits)) n
      ∙ (ap (λ (o : Outgoing). put_all o (asking h waits)) m
      ∙ ap (λ (x : ℕ). put_all (put_one out (actions.Send (frames.Commit h.epoch x))) (asking h waits)) at))

batch_is : (fed : ℕ) (h : Held) (asked waits : List Batch) (b : Batch) → on_batch fed h asked waits b ≡ becomes fed (asked_in h asked waits) (Hear b ∷ asking_in h asked waits)
batch_is fed h [] waits b = refl
batch_is fed h (first ∷ asked) waits b = refl

pub other_heard : (fed : ℕ) (h : Held) (asked waits : List Batch) (b : Batch) → nat_eq b.epoch h.epoch ≡ false
    → on_appended fed (Leading h asked waits) b ≡ becomes fed (Leading h asked waits) (Pass b ∷ [])
other_heard fed h asked waits b e = cond-false (nat_eq b.epoch h.epoch) (on_batch fed h asked (waits ++ b ∷ []) b) (becomes fed (Leading h asked waits) (Pass b ∷ [])) e

own_heard : (fed : ℕ) (h : Held) (asked waits : List Batch) (b : Batch) → nat_eq b.epoch h.epoch ≡ true
    → on_appended fed (Leading h asked waits) b ≡ becomes fed (asked_in h asked (waits ++ b ∷ [])) (Hear b ∷ asking_in h asked (waits ++ b ∷ []))
own_heard fed h asked waits b e =
    cond-true (nat_eq b.epoch h.epoch) (on_batch fed h asked (waits ++ b ∷ []) b) (becomes fed (Leading h asked waits) (Pass b ∷ [])) e ∙ batch_is fed h asked (waits ++ b ∷ []) b

module _ (h : Held) (asked waits more : List Batch) (b : Batch) (e : nat_eq b.epoch h.epoch ≡ true) (pushed : more ≡ waits ++ b ∷ []) where
  pub own_role : (after : Role) → after ≡ asked_in h asked more → after ≡ (on_appended 0 (Leading h asked waits) b).0.role
  own_role after a = a ∙ (ap (λ (xs : List Batch). asked_in h asked xs) pushed ∙ sym (ap (λ (o : Outcome). o.0.role) (own_heard 0 h asked waits b e)))

  pub own_out : (out after : Outgoing) → after ≡ put_all out (asking_in h asked more) → after ≡ put_all out (on_appended 0 (Leading h asked waits) b).1
  own_out out after a =
      a ∙ (ap (λ (xs : List Batch). put_all out (asking_in h asked xs)) pushed ∙ sym (ap (λ (o : Outcome). put_all out o.1) (own_heard 0 h asked waits b e)))

heard_by : (t : Bool) (fed : ℕ) (h : Held) (asked waits more : List Batch) (b : Batch)
    → cond t (on_batch fed h asked more b) (becomes fed (Leading h asked waits) (Pass b ∷ []))
    ≡ becomes fed (cond t (on_batch 0 h asked more b) (becomes 0 (Leading h asked waits) (Pass b ∷ []))).0.role (cond t (on_batch 0 h asked more b) (becomes 0 (Leading h asked waits) (Pass b ∷ []))).1
heard_by false fed h asked waits more b = refl
heard_by true fed h [] waits more b = refl
heard_by true fed h (first ∷ asked) waits more b = refl

-- its end doesn't matter
heard : (fed : ℕ) (role : Role) (b : Batch) → on_appended fed role b ≡ becomes fed (on_appended 0 role b).0.role (on_appended 0 role b).1
heard fed Standby b = refl
heard fed (Elected h) b = refl
heard fed (Leading h asked waits) b = heard_by (nat_eq b.epoch h.epoch) fed h asked waits (waits ++ b ∷ []) b

pub heard_core : (fed : ℕ) (role after : Role) (b : Batch) → after ≡ (on_appended 0 role b).0.role → (becomes fed after []).0 ≡ (on_appended fed role b).0
heard_core fed role after b e = ap (λ (r : Role). (becomes fed r []).0) e ∙ sym (ap (λ (o : Outcome). o.0) (heard fed role b))

pub heard_out : (fed : ℕ) (role : Role) (b : Batch) (out after : Outgoing) → after ≡ put_all out (on_appended 0 role b).1 → after ≡ put_all out (on_appended fed role b).1
heard_out fed role b out after e = e ∙ sym (ap (λ (o : Outcome). put_all out o.1) (heard fed role b))

-- ---- what is read

pub found_other : (fed : ℕ) (role : Role) (b : Batch) → is_batch_next fed role b ≡ false → on_found fed role b ≡ becomes fed role []
found_other fed Standby b e = cond-false (nat_eq b.base fed) (becomes (fed + b.count) Standby (HandBatch b ∷ [])) (becomes fed Standby []) e
found_other fed (Elected h) b e =
    cond-false (nat_eq b.base fed) (becomes (fed + b.count) (after_lead_when_fed (fed + b.count) h) (HandBatch b ∷ leading (fed + b.count) h)) (becomes fed (Elected h) []) e
found_other fed (Leading h asked waits) b e = refl

found_next : (fed : ℕ) (role : Role) (b : Batch) → is_batch_next fed role b ≡ true
    → on_found fed role b ≡ becomes (fed + b.count) (begun_in (fed + b.count) role) (HandBatch b ∷ beginning_in (fed + b.count) role)
found_next fed Standby b e = cond-true (nat_eq b.base fed) (becomes (fed + b.count) Standby (HandBatch b ∷ [])) (becomes fed Standby []) e
found_next fed (Elected h) b e =
    cond-true (nat_eq b.base fed) (becomes (fed + b.count) (after_lead_when_fed (fed + b.count) h) (HandBatch b ∷ leading (fed + b.count) h)) (becomes fed (Elected h) []) e
found_next fed (Leading h asked waits) b e = absurd cc

module _ (fed end : ℕ) (role : Role) (b : Batch) (e : is_batch_next fed role b ≡ true) (at : end ≡ b.base + b.count) where
  ends : end ≡ fed + b.count
  ends = at ∙ ap (λ (x : ℕ). x + b.count) (eqb-true b.base fed (second_so (not (is_leading role)) (nat_eq b.base fed) e))

  pub found_core : (after : Role) → after ≡ begun_in end role → (becomes end after []).0 ≡ (on_found fed role b).0
  found_core after r =
      ap (λ (x : Role). (becomes end x []).0) r ∙ (ap (λ (x : ℕ). (becomes x (begun_in x role) []).0) ends ∙ sym (ap (λ (o : Outcome). o.0) (found_next fed role b e)))

  pub found_out : (out mid after : Outgoing) → mid ≡ put_one out (actions.Send (frames.Feed b)) → after ≡ put_all mid (beginning_in end role)
      → after ≡ put_all out (on_found fed role b).1
  found_out out mid after m a =
      a ∙ (ap (λ (o : Outgoing). put_all o (beginning_in end role)) m
      ∙ (ap (λ (x : ℕ). put_all (put_one out (actions.Send (frames.Feed b))) (beginning_in x role)) ends ∙ sym (ap (λ (o : Outcome). put_all out o.1) (found_next fed role b e))))

pub image_other : (fed : ℕ) (role : Role) (image : StoredImage) → is_image_next fed role image ≡ false → on_found_image fed role image ≡ becomes fed role []
image_other fed Standby image e = cond-false (nat_lt fed image.offset) (becomes image.offset Standby (HandImage image ∷ [])) (becomes fed Standby []) e
image_other fed (Elected h) image e =
    cond-false (nat_lt fed image.offset) (becomes image.offset (after_lead_when_fed image.offset h) (HandImage image ∷ leading image.offset h)) (becomes fed (Elected h) []) e
image_other fed (Leading h asked waits) image e = refl

image_next : (fed : ℕ) (role : Role) (image : StoredImage) → is_image_next fed role image ≡ true
    → on_found_image fed role image ≡ becomes image.offset (begun_in image.offset role) (HandImage image ∷ beginning_in image.offset role)
image_next fed Standby image e = cond-true (nat_lt fed image.offset) (becomes image.offset Standby (HandImage image ∷ [])) (becomes fed Standby []) e
image_next fed (Elected h) image e =
    cond-true (nat_lt fed image.offset) (becomes image.offset (after_lead_when_fed image.offset h) (HandImage image ∷ leading image.offset h)) (becomes fed (Elected h) []) e
image_next fed (Leading h asked waits) image e = absurd cc

module _ (fed end : ℕ) (role : Role) (image : StoredImage) (e : is_image_next fed role image ≡ true) (at : end ≡ image.offset) where
  pub image_core : (after : Role) → after ≡ begun_in end role → (becomes end after []).0 ≡ (on_found_image fed role image).0
  image_core after r =
      ap (λ (x : Role). (becomes end x []).0) r ∙ (ap (λ (x : ℕ). (becomes x (begun_in x role) []).0) at ∙ sym (ap (λ (o : Outcome). o.0) (image_next fed role image e)))

  pub image_out : (out mid after : Outgoing) → mid ≡ put_one out (actions.Send (frames.Load image)) → after ≡ put_all mid (beginning_in end role)
      → after ≡ put_all out (on_found_image fed role image).1
  image_out out mid after m a =
      a ∙ (ap (λ (o : Outgoing). put_all o (beginning_in end role)) m
      ∙ (ap (λ (x : ℕ). put_all (put_one out (actions.Send (frames.Load image))) (beginning_in x role)) at ∙ sym (ap (λ (o : Outcome). put_all out o.1) (image_next fed role image e))))

-- ---- campaigns and appends

pub won_more : (fed : ℕ) (role : Role) (h : Held) → has_leadership role ≡ true → on_won fed role h ≡ becomes fed role []
won_more fed Standby h e = absurd cc
won_more fed (Elected held) h e = refl
won_more fed (Leading held asked waits) h e = refl

pub won_first : (fed : ℕ) (role : Role) (h : Held) → has_leadership role ≡ false → on_won fed role h ≡ becomes fed (after_lead_when_fed fed h) (Hold h ∷ leading fed h)
won_first fed Standby h e = refl
won_first fed (Elected held) h e = absurd cc
won_first fed (Leading held asked waits) h e = absurd cc

pub stood_other : (fed : ℕ) (role : Role) (made base : ℕ) → awaits_append made base role ≡ false → on_stood fed role made base ≡ becomes fed role []
stood_other fed Standby made base e = refl
stood_other fed (Elected h) made base e = refl
stood_other fed (Leading h [] waits) made base e = refl
stood_other fed (Leading h (first ∷ asked) waits) made base e =
    cond-false (nat_eq h.made made && nat_eq first.base base)
    (becomes (committed_to fed (Leading h (first ∷ asked) waits)) (committed_in (Leading h (first ∷ asked) waits)) (committing fed (Leading h (first ∷ asked) waits)))
    (becomes fed (Leading h (first ∷ asked) waits) []) e

pub stood_own : (fed : ℕ) (role : Role) (made base : ℕ) → awaits_append made base role ≡ true
    → on_stood fed role made base ≡ becomes (committed_to fed role) (committed_in role) (committing fed role)
stood_own fed Standby made base e = absurd cc
stood_own fed (Elected h) made base e = absurd cc
stood_own fed (Leading h [] waits) made base e = absurd cc
stood_own fed (Leading h (first ∷ asked) waits) made base e =
    cond-true (nat_eq h.made made && nat_eq first.base base)
    (becomes (committed_to fed (Leading h (first ∷ asked) waits)) (committed_in (Leading h (first ∷ asked) waits)) (committing fed (Leading h (first ∷ asked) waits)))
    (becomes fed (Leading h (first ∷ asked) waits) []) e

pub stood_core : (fed end : ℕ) (role after : Role) (made base : ℕ) → awaits_append made base role ≡ true → end ≡ committed_to fed role → after ≡ committed_in role
    → (becomes end after []).0 ≡ (on_stood fed role made base).0
stood_core fed end role after made base e at r =
    ap (λ (x : Role). (becomes end x []).0) r ∙ (ap (λ (x : ℕ). (becomes x (committed_in role) []).0) at ∙ sym (ap (λ (o : Outcome). o.0) (stood_own fed role made base e)))

-- ---- images

pub gives_nothing : (c : LinkCore) (before : ℕ) (image : StoredImage) → nat_lt before image.offset ≡ false → (core_step c (Imaged before image)).1 ≡ []
gives_nothing c before image e = cond-false (nat_lt before image.offset) (CallDrop before image ∷ []) [] e

pub gives : (c : LinkCore) (before : ℕ) (image : StoredImage) → nat_lt before image.offset ≡ true → (core_step c (Imaged before image)).1 ≡ CallDrop before image ∷ []
gives c before image e = cond-true (nat_lt before image.offset) (CallDrop before image ∷ []) [] e
