-- Parts of a core's steps.
use Rattle.std.specs.Prelude.{ℕ, List, [], ◌∷◌}
use Rattle.law_quorum.specs.Batches.{Batch}
use Rattle.law_link.specs.Links.{Held}
use Rattle.law_core.specs.Core.{Deed, Elected, HandCommit, HandLost, Leading, LinkCore as AnyCore, Role, after_asking, after_lead_when_fed, asking, end_of, leading}
use Rattle.kr_link.specs.declared.link_core.LinkCore.{LinkCore}
use Rattle.kr_link.specs.Roles.{law_role}

abbrev pub core_of : LinkCore → AnyCore
core_of c = record { fed = c.fed; role = law_role c.role }

-- where no append is under way, one of what waits is called for
abbrev pub asked_in : Held → List Batch → List Batch → Role
asked_in h [] waits = after_asking h waits
asked_in h (first ∷ asked) waits = Leading h (first ∷ asked) waits

abbrev pub asking_in : Held → List Batch → List Batch → List Deed
asking_in h [] waits = asking h waits
asking_in h (first ∷ asked) waits = []

-- the daemon is made to lead once it is fed
abbrev pub begun_in : ℕ → Role → Role
begun_in fed (Elected h) = after_lead_when_fed fed h
begun_in fed other = other

abbrev pub beginning_in : ℕ → Role → List Deed
beginning_in fed (Elected h) = leading fed h
beginning_in fed other = []

-- the append under way is committed
abbrev pub committed_to : ℕ → Role → ℕ
committed_to fed (Leading h asked waits) = end_of fed asked
committed_to fed other = fed

abbrev pub committed_in : Role → Role
committed_in (Leading h asked waits) = after_asking h waits
committed_in other = other

abbrev pub committing : ℕ → Role → List Deed
committing fed (Leading h asked waits) = HandCommit h (end_of fed asked) ∷ asking h waits
committing fed other = []

-- the daemon is told of a leadership that is lost
abbrev pub telling_lost : Role → List Deed
telling_lost (Leading h asked waits) = HandLost h ∷ []
telling_lost other = []
