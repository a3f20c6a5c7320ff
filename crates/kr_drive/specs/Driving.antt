-- A schedule of moves on three nodes that is drawn from a number (this project's own), and what comes of it, in four numbers. All
-- times are 0, and all requests are of client 1.
use Rattle.std.specs.Prelude.{ℕ, ℤ, zero, suc, pos, negsuc, ◌+◌, ◌-◌, ◌%◌, ◌==◌, ◌||◌, ◌+ℤ◌, List, [], ◌∷◌, ◌++◌, length, filter, codes, Bool, not, is_ok, if◌then◌else◌, unsigned_abs}
use Rattle.std.specs.Int.{int_max, saturate_signed, w32}
use Rattle.std.specs.Ordering.{int_eq}
use Rattle.kr_calls.specs.declared.calls.Call.{Call}
use Rattle.kr_workload.specs.Chances.{drawn_below, next_drawn}
use Rattle.kr_workload.specs.Requests.{note}
use Rattle.kr_workload.specs.Session.{options}
use Rattle.kr_workload.specs.Summary.{number_line}
use Rattle.law_nodes.specs.declared.moves.Move.{Move}
use Rattle.law_nodes.specs.declared.moves.Move.TheVariants as moves
use Rattle.law_nodes.specs.Moves.{length_of, move_outcome, run}
use Rattle.law_nodes.specs.Nodes.{NodeTold, Run}
use Rattle.kr_drive.specs.declared.summary.NodesSummary.{NodesSummary}

-- ---- the move of a round

-- the epoch above each in which a node was elected, at most the greatest of 32 bits
abbrev pub epoch_above : ℤ → ℤ
epoch_above elected = saturate_signed w32 (int_max elected (pos 0) +ℤ pos 1)

abbrev pub asked_move : ℕ → ℕ → Move
asked_move round node = moves.Ask node 1 (pos 0) (record { correlation = pos round; request = note round })

-- to the node behind it
abbrev pub copied_move : ℕ → Move
copied_move node = moves.Copy node ((node + 1) % 3)

abbrev pub drawn_move : ℤ → ℕ → ℕ → ℕ → Move
drawn_move elected round kind node =
    if kind == 0 then moves.Feed node else
    if kind == 1 then moves.Elect node (epoch_above elected) (pos 0) else
    if kind == 2 || kind == 3 then asked_move round node else
    if kind == 4 then moves.Settle node else
    if kind == 5 then moves.Tell node else
    if kind == 6 then moves.Depose node else
    copied_move node

-- ---- rounds

-- so far
pub record Driven : Type 0 where
  pub past : List Move
  -- how many of them were accepted
  pub made : ℕ
  -- the number that the next one is made of
  pub drawn : ℕ

abbrev pub nothing_driven : ℕ → Driven
nothing_driven seed = record { past = []; made = 0; drawn = seed }

abbrev pub run_behind : ℕ → Driven → Run
run_behind seed d = run (options seed) 3 d.past

-- one of eight kinds is drawn, and then one of three nodes
abbrev pub drawn_turn : ℕ → ℕ → Driven → Move
drawn_turn seed round d =
    drawn_move (run_behind seed d).elected round (drawn_below (next_drawn d.drawn) 8) (drawn_below (next_drawn (next_drawn d.drawn)) 3)

abbrev pub with_move : ℕ → Move → Driven → Driven
with_move seed turn d = record {
  past = d.past ++ turn ∷ [];
  made = d.made + (if is_ok (move_outcome (options seed) (run_behind seed d) turn) then 1 else 0);
  drawn = next_drawn (next_drawn d.drawn);
}

-- rounds are numbered from 1
unfoldable pub driven : ℕ → ℕ → Driven
driven seed zero = nothing_driven seed
driven seed (suc n) = with_move seed (drawn_turn seed (suc n) (driven seed n)) (driven seed n)

-- ---- what comes of them

-- of a write that stands
abbrev pub has_place : NodeTold → Bool
has_place t = not (int_eq t.place (negsuc 0))

abbrev pub summary_of : ℕ → ℕ → Driven → NodesSummary
summary_of seed rounds d = record {
  moves = d.made;
  refused = rounds - d.made;
  length = pos (length_of (run_behind seed d));
  told = length (filter has_place (run_behind seed d).told);
}

abbrev pub nodes_summary : ℕ → ℕ → NodesSummary
nodes_summary seed rounds = summary_of seed rounds (driven seed rounds)

unfoldable pub nodes_lines : NodesSummary → List ℕ
nodes_lines s =
    number_line (codes "moves") s.moves ++ number_line (codes "refused") s.refused ++ number_line (codes "length") (unsigned_abs s.length)
    ++ number_line (codes "told") s.told
