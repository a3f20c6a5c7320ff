-- What the deeds of a core come to, by what comes to it: of what is under way from its daemon, the epochs that it won, and the append under
-- way.
use Rattle.std.proofs.Common.{◌≡◌, ◌∙◌, ℕ, ◌+◌, cond, List, [], ◌∷◌, ◌++◌, refl, inl}
use Rattle.std.specs.Prelude.{fold, nat_eq, nat_lt, ◌&&◌}
use Rattle.std.specs.List.{AllByRecursion}
use Rattle.law_quorum.specs.Batches.{Batch, StoredImage}
use Rattle.law_link.specs.Links.{Call, Has, Held, Link}
use Rattle.law_core.specs.Core.{Appended, CallDrop, Came, Deed, Elected, Found, FoundImage, HandBatch, HandCommit, HandImage, HandLead, Hear, Hold, Imaged, Joined, Leading, LinkCore, Outcome, Over, Pass, Role, Serve, Standby, Stood, Won, after_asking, after_lead_when_fed, asking, becomes, core_step, end_of, leading, on_appended, on_batch, on_found, on_found_image, on_over, on_stood, on_won, resigning}
use Rattle.law_timed_links.proofs.DeedEffects.{IsNoServe, calls_stay, either, link_with}

-- it neither takes from the pipe nor wins a campaign
abbrev pub IsQuiet : Deed → Type 0
IsQuiet Serve = ⊥
IsQuiet (Hear b) = ⊥
IsQuiet (Pass b) = ⊥
IsQuiet (Hold h) = ⊥
IsQuiet other = Unit {0}

abbrev pub AreQuiet : List Deed → Type 0
AreQuiet deeds = AllByRecursion IsQuiet deeds

quiet_asking : (h : Held) (waits : List Batch) → AreQuiet (asking h waits)
quiet_asking h [] = tt
quiet_asking h (b ∷ bs) = (tt, tt)

quiet_leading : (fed : ℕ) (h : Held) → AreQuiet (leading fed h)
quiet_leading fed h = either AreQuiet (nat_eq fed h.start) (HandLead h ∷ []) [] (tt, tt) tt

-- ---- the pipe, and the epochs won

pub record Leaves (rest : List Batch) (l : Link) (deeds : List Deed) (batches : List Batch) (epochs : List ℕ) : Type 0 where
  pub no_serve : AllByRecursion IsNoServe deeds
  pub pipe : (fold (link_with rest) l deeds).pipe ≡ batches
  pub won : (fold (link_with rest) l deeds).won ≡ epochs

quiet_no_serve : (deed : Deed) → IsQuiet deed → IsNoServe deed
quiet_no_serve Serve q = q
quiet_no_serve other q = tt

pub quiet_all : (deeds : List Deed) → AreQuiet deeds → AllByRecursion IsNoServe deeds
quiet_all [] q = tt
quiet_all (deed ∷ deeds) (q, all) = (quiet_no_serve deed q, quiet_all deeds all)

quiet_pipe : (rest : List Batch) (l : Link) (deed : Deed) → IsQuiet deed → (link_with rest l deed).pipe ≡ l.pipe
quiet_pipe rest l Serve q = absurd q
quiet_pipe rest l (Hear b) q = absurd q
quiet_pipe rest l (Pass b) q = absurd q
quiet_pipe rest l (Hold h) q = absurd q
quiet_pipe rest l other q = refl

quiet_won : (rest : List Batch) (l : Link) (deed : Deed) → IsQuiet deed → (link_with rest l deed).won ≡ l.won
quiet_won rest l Serve q = absurd q
quiet_won rest l (Hear b) q = absurd q
quiet_won rest l (Pass b) q = absurd q
quiet_won rest l (Hold h) q = absurd q
quiet_won rest l other q = refl

quiet : (rest : List Batch) (l : Link) (deeds : List Deed) → AreQuiet deeds → Leaves rest l deeds l.pipe l.won
quiet rest l [] q = record { no_serve = tt; pipe = refl; won = refl }
quiet rest l (deed ∷ deeds) (q, all) =
    let r : Leaves rest (link_with rest l deed) deeds (link_with rest l deed).pipe (link_with rest l deed).won = quiet rest (link_with rest l deed) deeds all in
    record { no_serve = (quiet_no_serve deed q, r.no_serve); pipe = r.pipe ∙ quiet_pipe rest l deed q; won = r.won ∙ quiet_won rest l deed q }

-- behind a deed that is no serve
behind_one : (rest : List Batch) (l : Link) (deed : Deed) (deeds : List Deed) → IsNoServe deed → AreQuiet deeds
    → Leaves rest l (deed ∷ deeds) (link_with rest l deed).pipe (link_with rest l deed).won
behind_one rest l deed deeds free all =
    let r : Leaves rest (link_with rest l deed) deeds (link_with rest l deed).pipe (link_with rest l deed).won = quiet rest (link_with rest l deed) deeds all in
    record { no_serve = (free, r.no_serve); pipe = r.pipe; won = r.won }

abbrev pub pipe_told : List Batch → Came → List Batch → List Batch
pipe_told rest (Appended b) pipe = rest
pipe_told rest other pipe = pipe

abbrev pub won_by : Role → Held → List ℕ → List ℕ
won_by Standby h won = h.epoch ∷ won
won_by other h won = won

abbrev pub won_told : Came → Role → List ℕ → List ℕ
won_told (Won h) role won = won_by role h won
won_told other role won = won

abbrev pub IsNoJoin : Came → Type 0
IsNoJoin Joined = ⊥
IsNoJoin other = Unit {0}

-- ---- what the core does, by what comes

abbrev QuietIn : Outcome → Type 0
QuietIn o = AreQuiet o.1

imaged : (before : ℕ) (image : StoredImage) → AreQuiet (cond (nat_lt before image.offset) (CallDrop before image ∷ []) [])
imaged before image = either AreQuiet (nat_lt before image.offset) (CallDrop before image ∷ []) [] (tt, tt) tt

found : (fed : ℕ) (role : Role) (b : Batch) → QuietIn (on_found fed role b)
found fed Standby b =
    either QuietIn (nat_eq b.base fed) (becomes (fed + b.count) Standby (HandBatch b ∷ [])) (becomes fed Standby []) (tt, tt) tt
found fed (Elected h) b =
    either QuietIn (nat_eq b.base fed)
    (becomes (fed + b.count) (after_lead_when_fed (fed + b.count) h) (HandBatch b ∷ leading (fed + b.count) h)) (becomes fed (Elected h) [])
    (tt, quiet_leading (fed + b.count) h) tt
found fed (Leading h asked waits) b = tt

image_found : (fed : ℕ) (role : Role) (image : StoredImage) → QuietIn (on_found_image fed role image)
image_found fed Standby image =
    either QuietIn (nat_lt fed image.offset) (becomes image.offset Standby (HandImage image ∷ [])) (becomes fed Standby []) (tt, tt) tt
image_found fed (Elected h) image =
    either QuietIn (nat_lt fed image.offset)
    (becomes image.offset (after_lead_when_fed image.offset h) (HandImage image ∷ leading image.offset h)) (becomes fed (Elected h) [])
    (tt, quiet_leading image.offset h) tt
image_found fed (Leading h asked waits) image = tt

stood : (fed : ℕ) (role : Role) (made base : ℕ) → QuietIn (on_stood fed role made base)
stood fed Standby made base = tt
stood fed (Elected h) made base = tt
stood fed (Leading h [] waits) made base = tt
stood fed (Leading h (first ∷ asked) waits) made base =
    either QuietIn (nat_eq h.made made && nat_eq first.base base)
    (becomes (end_of fed (first ∷ asked)) (after_asking h waits) (HandCommit h (end_of fed (first ∷ asked)) ∷ asking h waits))
    (becomes fed (Leading h (first ∷ asked) waits) []) (tt, quiet_asking h waits) tt

over : (fed : ℕ) (role : Role) → QuietIn (on_over fed role)
over fed Standby = tt
over fed (Elected h) = (tt, tt)
over fed (Leading h asked waits) = (tt, (tt, tt))

-- nothing but a batch that its daemon wrote, a campaign that took effect and a new daemon
abbrev pub IsPlain : Came → Type 0
IsPlain Joined = ⊥
IsPlain (Appended b) = ⊥
IsPlain (Won h) = ⊥
IsPlain other = Unit {0}

pub plain : (c : LinkCore) (came : Came) → IsPlain came → AreQuiet (core_step c came).1
plain c Joined p = absurd p
plain c (Appended b) p = absurd p
plain c (Won h) p = absurd p
plain c (Imaged before image) p = imaged before image
plain c (Found b) p = found c.fed c.role b
plain c (FoundImage image) p = image_found c.fed c.role image
plain c (Stood made base) p = stood c.fed c.role made base
plain c Over p = over c.fed c.role

abbrev pub IsTaking : Deed → Type 0
IsTaking (Hear b) = Unit {0}
IsTaking (Pass b) = Unit {0}
IsTaking other = ⊥

abbrev pub TakesFirst : List Deed → Type 0
TakesFirst [] = ⊥
TakesFirst (deed ∷ deeds) = IsTaking deed × AreQuiet deeds

abbrev TakesIn : Outcome → Type 0
TakesIn o = TakesFirst o.1

heard : (fed : ℕ) (h : Held) (asked waits : List Batch) (b : Batch) → TakesIn (on_batch fed h asked waits b)
heard fed h [] waits b = (tt, quiet_asking h waits)
heard fed h (first ∷ asked) waits b = (tt, tt)

pub appended : (fed : ℕ) (role : Role) (b : Batch) → TakesFirst (on_appended fed role b).1
appended fed Standby b = (tt, tt)
appended fed (Elected h) b = (tt, tt)
appended fed (Leading h asked waits) b =
    either TakesIn (nat_eq b.epoch h.epoch) (on_batch fed h asked (waits ++ b ∷ []) b) (becomes fed (Leading h asked waits) (Pass b ∷ []))
    (heard fed h asked (waits ++ b ∷ []) b) (tt, tt)

pub resigned : (role : Role) → AreQuiet (resigning role)
resigned Standby = tt
resigned (Elected h) = (tt, tt)
resigned (Leading h asked waits) = (tt, tt)

pub led : (fed : ℕ) (h : Held) → AreQuiet (leading fed h)
led fed h = quiet_leading fed h

module _ (rest : List Batch) (l : Link) where
  taken : (deeds : List Deed) → TakesFirst deeds → Leaves rest l deeds rest l.won
  taken [] t = absurd t
  taken (Hear b ∷ deeds) (t, q) = behind_one rest l (Hear b) deeds tt q
  taken (Pass b ∷ deeds) (t, q) = behind_one rest l (Pass b) deeds tt q
  taken (other ∷ deeds) (t, q) = absurd t

  admitted : (fed : ℕ) (role : Role) (h : Held) → Leaves rest l (on_won fed role h).1 l.pipe (won_by role h l.won)
  admitted fed Standby h = behind_one rest l (Hold h) (leading fed h) tt (quiet_leading fed h)
  admitted fed (Elected held) h = quiet rest l [] tt
  admitted fed (Leading held asked waits) h = quiet rest l [] tt

  pub leaves : (c : LinkCore) (came : Came) → IsNoJoin came → Leaves rest l (core_step c came).1 (pipe_told rest came l.pipe) (won_told came c.role l.won)
  leaves c Joined free = absurd free
  leaves c (Appended b) free = taken (on_appended c.fed c.role b).1 (appended c.fed c.role b)
  leaves c (Won h) free = admitted c.fed c.role h
  leaves c came free = quiet rest l (core_step c came).1 (plain c came tt)

-- ---- the append under way was called for

abbrev pub IsAsked : Role → List Call → Type 0
IsAsked (Leading h (b ∷ bs) waits) calls = Has (record { epoch = h.epoch; made = h.made; group = b ∷ bs }) calls
IsAsked other calls = Unit {0}

module _ (rest : List Batch) where
  abbrev AsksIn : Link → Outcome → Type 0
  AsksIn l o = IsAsked o.0.role (fold (link_with rest) l o.1).calls

  asked_later : (l : Link) (deeds : List Deed) (role : Role) → IsAsked role l.calls → IsAsked role (fold (link_with rest) l deeds).calls
  asked_later l deeds (Leading h (b ∷ bs) waits) a = calls_stay rest l deeds (record { epoch = h.epoch; made = h.made; group = b ∷ bs }) a
  asked_later l deeds (Leading h [] waits) a = tt
  asked_later l deeds Standby a = tt
  asked_later l deeds (Elected h) a = tt

  asked_now : (l : Link) (h : Held) (waits : List Batch) → IsAsked (after_asking h waits) (fold (link_with rest) l (asking h waits)).calls
  asked_now l h [] = tt
  asked_now l h (b ∷ bs) = inl refl

  led_now : (fed : ℕ) (h : Held) (calls : List Call) → IsAsked (after_lead_when_fed fed h) calls
  led_now fed h calls = either (λ (role : Role). IsAsked role calls) (nat_eq fed h.start) (Leading h [] []) (Elected h) tt tt

  heard_asks : (l : Link) (fed : ℕ) (h : Held) (asked waits : List Batch) (b : Batch) → IsAsked (Leading h asked waits) l.calls
      → AsksIn l (on_batch fed h asked (waits ++ b ∷ []) b)
  heard_asks l fed h [] waits b a = asked_now (link_with rest l (Hear b)) h (waits ++ b ∷ [])
  heard_asks l fed h (first ∷ asked) waits b a = a

  appended_asks : (l : Link) (fed : ℕ) (role : Role) (b : Batch) → IsAsked role l.calls → AsksIn l (on_appended fed role b)
  appended_asks l fed Standby b a = tt
  appended_asks l fed (Elected h) b a = tt
  appended_asks l fed (Leading h asked waits) b a =
      either (AsksIn l) (nat_eq b.epoch h.epoch) (on_batch fed h asked (waits ++ b ∷ []) b) (becomes fed (Leading h asked waits) (Pass b ∷ []))
      (heard_asks l fed h asked waits b a) (asked_later l (Pass b ∷ []) (Leading h asked waits) a)

  found_asks : (l : Link) (fed : ℕ) (role : Role) (b : Batch) → IsAsked role l.calls → AsksIn l (on_found fed role b)
  found_asks l fed Standby b a =
      either (AsksIn l) (nat_eq b.base fed) (becomes (fed + b.count) Standby (HandBatch b ∷ [])) (becomes fed Standby []) tt tt
  found_asks l fed (Elected h) b a =
      either (AsksIn l) (nat_eq b.base fed)
      (becomes (fed + b.count) (after_lead_when_fed (fed + b.count) h) (HandBatch b ∷ leading (fed + b.count) h)) (becomes fed (Elected h) [])
      (led_now (fed + b.count) h (fold (link_with rest) l (HandBatch b ∷ leading (fed + b.count) h)).calls) tt
  found_asks l fed (Leading h asked waits) b a = a

  image_asks : (l : Link) (fed : ℕ) (role : Role) (image : StoredImage) → IsAsked role l.calls → AsksIn l (on_found_image fed role image)
  image_asks l fed Standby image a =
      either (AsksIn l) (nat_lt fed image.offset) (becomes image.offset Standby (HandImage image ∷ [])) (becomes fed Standby []) tt tt
  image_asks l fed (Elected h) image a =
      either (AsksIn l) (nat_lt fed image.offset)
      (becomes image.offset (after_lead_when_fed image.offset h) (HandImage image ∷ leading image.offset h)) (becomes fed (Elected h) [])
      (led_now image.offset h (fold (link_with rest) l (HandImage image ∷ leading image.offset h)).calls) tt
  image_asks l fed (Leading h asked waits) image a = a

  won_asks : (l : Link) (fed : ℕ) (role : Role) (h : Held) → IsAsked role l.calls → AsksIn l (on_won fed role h)
  won_asks l fed Standby h a = led_now fed h (fold (link_with rest) l (Hold h ∷ leading fed h)).calls
  won_asks l fed (Elected held) h a = tt
  won_asks l fed (Leading held asked waits) h a = a

  stood_asks : (l : Link) (fed : ℕ) (role : Role) (made base : ℕ) → IsAsked role l.calls → AsksIn l (on_stood fed role made base)
  stood_asks l fed Standby made base a = tt
  stood_asks l fed (Elected h) made base a = tt
  stood_asks l fed (Leading h [] waits) made base a = tt
  stood_asks l fed (Leading h (first ∷ asked) waits) made base a =
      either (AsksIn l) (nat_eq h.made made && nat_eq first.base base)
      (becomes (end_of fed (first ∷ asked)) (after_asking h waits) (HandCommit h (end_of fed (first ∷ asked)) ∷ asking h waits))
      (becomes fed (Leading h (first ∷ asked) waits) [])
      (asked_now (link_with rest l (HandCommit h (end_of fed (first ∷ asked)))) h waits) a

  over_asks : (l : Link) (fed : ℕ) (role : Role) → AsksIn l (on_over fed role)
  over_asks l fed Standby = tt
  over_asks l fed (Elected h) = tt
  over_asks l fed (Leading h asked waits) = tt

  pub asks : (l : Link) (c : LinkCore) (came : Came) → IsAsked c.role l.calls
      → IsAsked (core_step c came).0.role (fold (link_with rest) l (core_step c came).1).calls
  asks l c Joined a = tt
  asks l c (Appended b) a = appended_asks l c.fed c.role b a
  asks l c (Imaged before image) a = asked_later l (core_step c (Imaged before image)).1 c.role a
  asks l c (Found b) a = found_asks l c.fed c.role b a
  asks l c (FoundImage image) a = image_asks l c.fed c.role image a
  asks l c (Won h) a = won_asks l c.fed c.role h a
  asks l c (Stood made base) a = stood_asks l c.fed c.role made base a
  asks l c Over a = over_asks l c.fed c.role
