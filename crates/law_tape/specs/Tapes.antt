-- Which lines of a tape the laws on links allow.
use Rattle.std.specs.Prelude.{◌≡◌, ◌<◌, ℕ, zero, suc, true, List, [], ◌∷◌, length, drop, Option, None, Some}
use Rattle.std.specs.Option.{option_map}
use Rattle.law_quorum.specs.Batches.{Batch, StoredImage, behind, offset_of_image}
use Rattle.law_quorum.specs.Changes.{Campaign, Change, Drop, Expire, Keys, Other, compares, keys_after}
use Rattle.law_quorum.specs.Nodes.{AreAllowed, at_first}
use Rattle.law_link.specs.Links.{Link, LinkStep, IsPossible, Web, all_handed, append_of, no_web, stepped}
use Rattle.law_link.specs.Links.{Execute, Clear, Make, Win, Read, Take, Begin, Write, Stray, Hear, Pass, Ask, Settle, Give, GiveUp, LetGo, Renew}
use Rattle.law_tape.specs.Rules.{digest_at, first_refused, node_told, tape_begins}
use Rattle.law_tape.specs.declared.fault.Fault.{Fault}
use Rattle.law_tape.specs.declared.line.SeenKeys.{SeenKeys}
use Rattle.law_tape.specs.declared.line.StoreChange.{StoreChange}
use Rattle.law_tape.specs.declared.line.StoreChange.TheVariants as changes
use Rattle.law_tape.specs.declared.line.LinkAct.{LinkAct}
use Rattle.law_tape.specs.declared.line.LinkAct.TheVariants as acts
use Rattle.law_tape.specs.declared.line.Line.{Line}
use Rattle.law_tape.specs.declared.line.Line.TheVariants as lines

-- the bytes of the image of batches from place 0 on, as the folds tell them
abbrev pub fold_of : List StoredImage → List Batch → List ℕ
fold_of folds gone = behind 0 gone ∷ digest_at folds (behind 0 gone)

-- ---- the step for which a line stands

abbrev pub store_step : StoreChange → LinkStep
store_step (changes.Append node call) = Execute node call
store_step (changes.Drop node keep) = Clear node keep
store_step (changes.Campaign node token epoch) = Make (Campaign node token epoch)
store_step changes.Expire = Make Expire
store_step changes.Other = Make Other

abbrev pub change_made : StoreChange → Change
change_made (changes.Append node call) = append_of call
change_made (changes.Drop node keep) = Drop keep.before keep.image
change_made (changes.Campaign node token epoch) = Campaign node token epoch
change_made changes.Expire = Expire
change_made changes.Other = Other

abbrev pub link_step : ℕ → Link → LinkAct → LinkStep
link_step k link (acts.Win h) = Win k h
link_step k link (acts.Read b) = Read k b
link_step k link (acts.Take image) = Take k image
link_step k link (acts.Begin h) = Begin k h
link_step k link (acts.Write b) = Write k b
link_step k link (acts.Stray b) = Stray k b
link_step k link (acts.Hear b) = Hear k b (drop 1 link.pipe)
link_step k link (acts.Pass b) = Pass k b (drop 1 link.pipe)
link_step k link (acts.Ask h group) = Ask k h group (drop (length group) link.waits)
link_step k link (acts.Settle h end) = Settle k h
link_step k link (acts.Give keep) = Give k keep
link_step k link (acts.GiveUp epoch) = GiveUp k epoch
link_step k link acts.LetGo = LetGo k
link_step k link acts.Renew = Renew k

abbrev pub step_for : Web → Line → LinkStep
step_for w (lines.Store seen change) = store_step change
step_for w (lines.Link k act) = link_step k (w.links k) act

-- ---- what a line says besides

-- the change took effect, and left the keys as they were seen: the least place under which a batch stands is that of the image
pub record TookEffect (keys : Keys) (change : Change) (seen : SeenKeys) : Type 0 where
  pub holds : compares keys change ≡ true
  pub revision : (keys_after keys change).revision ≡ seen.revision
  pub end : (keys_after keys change).end ≡ seen.end
  pub first : offset_of_image (keys_after keys change).image ≡ seen.first

abbrev pub IsShownRight : Web → Line → Type 0
IsShownRight w (lines.Store seen change) = TookEffect w.cluster.point.keys (change_made change) seen
IsShownRight w (lines.Link k (acts.Settle h end)) = behind (w.cluster.nodes k).end (w.links k).asked ≡ end
IsShownRight w _ = Unit {0}

-- ---- a tape

abbrev pub IsPossibleLine : List StoredImage → Web → Line → Type 0
IsPossibleLine folds w line = IsPossible (fold_of folds) w (step_for w line) × IsShownRight w line

-- nodes are numbers below 256
abbrev pub IsAllowedLine : List StoredImage → Web → Line → Type 0
IsAllowedLine folds w line = (node_told line < 256) × IsPossibleLine folds w line

abbrev pub web_after : Web → Line → Web
web_after w line = stepped w (step_for w line)

-- None: each line is allowed. Some: so many lines are, and the next one isn't.
abbrev pub IsVerdict : List StoredImage → Web → List Line → Option ℕ → Type 0
IsVerdict folds w [] None = Unit {0}
IsVerdict folds w [] (Some at) = ⊥
IsVerdict folds w (line ∷ lines') None = IsAllowedLine folds w line × IsVerdict folds (web_after w line) lines' None
IsVerdict folds w (line ∷ lines') (Some zero) = IsAllowedLine folds w line → ⊥
IsVerdict folds w (line ∷ lines') (Some (suc at)) = IsAllowedLine folds w line × IsVerdict folds (web_after w line) lines' (Some at)

-- ---- what a tape tells of which each line is allowed

abbrev pub tape_steps : Web → List Line → List LinkStep
tape_steps w [] = []
tape_steps w (line ∷ lines') = step_for w line ∷ tape_steps (web_after w line) lines'

-- each daemon was handed only what it may be: so all were handed beginnings of one log
abbrev pub AllowedTapesAreSafe : Type 0
AllowedTapesAreSafe = (folds : List StoredImage) (lines' : List Line) → IsVerdict folds no_web lines' None
    → AreAllowed (fold_of folds) at_first (all_handed no_web (tape_steps no_web lines'))

-- what is found by tests is what the laws say
abbrev pub VerdictsAreExact : Type 0
VerdictsAreExact = (folds : List StoredImage) (lines' : List Line) → IsVerdict folds no_web lines' (option_map (λ (r : ℕ × Fault). r.0) (first_refused folds 0 tape_begins lines'))
