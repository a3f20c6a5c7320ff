-- How the words `make` and `nodes` end: what was written at each answer.
use Rattle.std.specs.Prelude.{◌≡◌, ◌⊎◌, ◌+◌, ℕ, List, Option, Result, Ok, Err}
use Rattle.std.specs.Io.KnownBytes.{Appends, Keeps}
use Rattle.kr_base.specs.FailedPuts.{AppendsFront}
use Rattle.kr_drive.specs.Driving.{nodes_lines, nodes_summary}
use Rattle.kr_fold.specs.declared.fault.ToolFault.{ToolFault}
use Rattle.kr_fold.specs.declared.fault.ToolFault.TheVariants as faults
use Rattle.kr_workload.specs.declared.summary.Summary.{Summary}
use Rattle.kr_workload.specs.Session.{Made, made_session, options}
use Rattle.kr_workload.specs.Summary.{summary, summary_text}

-- the six lines of the number's session, with two thousand rounds
abbrev pub make_text : ℕ → List ℕ
make_text seed = summary_text (summary (options seed) (made_session seed 2000).events)

-- there each request is answered, and once
abbrev pub AllAnswered : ℕ → Type 0
AllAnswered seed =
    let made : Made = made_session seed 2000 in
    let found : Summary = summary (options seed) made.events in
    found.ok + found.refused ≡ made.requests

-- the four lines of the number's moves, in five thousand rounds
abbrev pub nodes_text : ℕ → List ℕ
nodes_text seed = nodes_lines (nodes_summary seed 5000)

-- the whole text; a front of it where a write failed; and nothing where memory ran out
abbrev pub WritesOneText : List ℕ → Option (List ℕ) → Option (List ℕ) → Result (Unit {0}) ToolFault → Type 0
WritesOneText text written written' (Ok done) = Appends written written' text
WritesOneText text written written' (Err faults.WriteFault) = AppendsFront written written' text
WritesOneText text written written' (Err faults.NoMemory) = Keeps written written'
WritesOneText text written written' (Err other) = ⊥

-- and no input is taken
abbrev pub TextEnds : List ℕ → Option (List ℕ) → Option (List ℕ) → Option (List ℕ) → Option (List ℕ) → Result (Unit {0}) ToolFault → Type 0
TextEnds text left left' written written' result = Keeps left left' × WritesOneText text written written' result

abbrev pub MakeEnds : ℕ → Option (List ℕ) → Option (List ℕ) → Option (List ℕ) → Option (List ℕ) → Result (Unit {0}) ToolFault → Type 0
MakeEnds seed left left' written written' result = TextEnds (make_text seed) left left' written written' result

abbrev pub NodesEnds : ℕ → Option (List ℕ) → Option (List ℕ) → Option (List ℕ) → Option (List ℕ) → Result (Unit {0}) ToolFault → Type 0
NodesEnds seed left left' written written' result = TextEnds (nodes_text seed) left left' written written' result

-- where no write failed it is done, if there is memory
abbrev pub MakesWhole : Result (Unit {0}) ToolFault → Type 0
MakesWhole result = (result ≡ Ok tt) ⊎ (result ≡ Err faults.NoMemory)
