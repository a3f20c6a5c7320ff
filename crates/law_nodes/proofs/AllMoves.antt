-- Any moves keep it, and so the nodes agree.
use Rattle.std.proofs.Common.{◌≡◌, ◌∙◌, sym, ℕ, zero, suc, negsuc, List, [], ◌∷◌, replicate, take, refl, ap, arith}
use Rattle.std.specs.Prelude.{Some, Result, Ok, Err, fold}
use Rattle.std.specs.Result.{result_unwrap_or}
use Rattle.std.specs.List.{AllByRecursion, slice_get}
use Rattle.kr_calls.specs.declared.calls.Ask.TheVariants as ask
use Rattle.kr_calls.specs.declared.events.Event.TheVariants as events
use Rattle.kr_defs.specs.declared.options.Options.{Options}
use Rattle.kr_defs.specs.Image.{empty}
use Rattle.kr_defs.specs.Log.{apply_all, first}
use Rattle.law_nodes.specs.declared.moves.Move.{Move}
use Rattle.law_nodes.specs.declared.moves.Move.TheVariants as moves
use Rattle.law_nodes.specs.declared.moves.MoveFault.{MoveFault}
use Rattle.law_nodes.specs.Agreement.{NodesAgree}
use Rattle.law_nodes.specs.Moves as table
use Rattle.law_nodes.specs.Moves.{after_move, move_outcome, run, with_event, on_node}
use Rattle.law_nodes.specs.Nodes.{RunNode, Run, first_run, fresh_node}
use Rattle.law_nodes.specs.OneList.{Follows, list_items}
use Rattle.law_nodes.proofs.Invariant.{IsNode, IsRun, Leads, OneLeads, at_node}
use Rattle.law_nodes.proofs.Logs.{same_image}
use Rattle.law_nodes.proofs.Steps as kept
use Rattle.law_nodes.proofs.Steps.{Keeps, there}

module _ (options : Options) where
  pub keeps : (r : Run) (m : Move) → IsRun r → Keeps (move_outcome options r m)
  keeps r (moves.Feed k) g = there r k (λ n. table.feed r k n) (λ n is. kept.feeds r g options k n is)
  keeps r (moves.Elect k epoch now) g = there r k (λ n. table.elect options r k n epoch now) (λ n is. kept.elects r g options k epoch now n is)
  keeps r (moves.Ask k client now call) g =
      there r k (λ n. Ok (with_event options r k n (events.Request client now (ask.Call call)))) (λ n is. kept.asks r g options k client now call n is)
  keeps r (moves.Tick k now) g = there r k (λ n. Ok (with_event options r k n (events.Tick now))) (λ n is. kept.ticks r g options k now n is)
  keeps r (moves.Settle k) g = there r k (λ n. table.settle r k n) (λ n is. kept.settles r g k n is)
  keeps r (moves.Tell k) g = there r k (λ n. table.tell options r k n) (λ n is. kept.tells r g options k n is)
  keeps r (moves.Depose k) g = there r k (λ n. table.depose options r k n) (λ n is. kept.deposes r g options k n is)
  keeps r (moves.Copy from to) g =
      there r from (λ f. on_node r to (λ t. table.copy options r from to f t))
      (λ f is_f. there r to (λ t. table.copy options r from to f t) (λ t is_t. kept.copies options r g from to f t is_f is_t))

  kept_or : (r : Run) (after : Result Run MoveFault) → IsRun r → Keeps after → IsRun (result_unwrap_or after r)
  kept_or r (Ok next) g h = h
  kept_or r (Err fault) g h = g

  kept_by_all : (ms : List Move) (r : Run) → IsRun r → IsRun (fold (after_move options) r ms)
  kept_by_all [] r g = g
  kept_by_all (m ∷ ms) r g = kept_by_all ms (after_move options r m) (kept_or r (move_outcome options r m) g (keeps r m g))

  pub run_is : (nodes : ℕ) (ms : List Move) → IsRun (run options nodes ms)
  run_is nodes ms = kept_by_all ms (first_run nodes) (record { nodes = all_first nodes; one = one_first nodes; some = tt; told = tt; whole = refl })
    where
      follows : Follows [] first 0
      follows = record { done = []; ahead = []; before = []; shared = []; rest = []; list_is = refl; done_is = refl; items_are = refl; offset_is = refl; end_is = refl; starts = refl }

      first_is : IsNode [] (negsuc 0) fresh_node
      first_is = record {
        core = record {
          committed = follows;
          settles = follows;
          order = omega arith;
          tail = refl;
          some = tt;
          means = refl;
          standby = λ _. (refl, refl, refl);
          low = λ epoch is. absurd cc;
          latest = λ is. absurd cc;
        };
        waits = tt;
        idle = λ _. refl;
      }

      all_first : (n : ℕ) → AllByRecursion (IsNode [] (negsuc 0)) (replicate n fresh_node)
      all_first zero = tt
      all_first (suc n) = (first_is, all_first n)

      none_first : (n : ℕ) → AllByRecursion (λ m. Leads (negsuc 0) m → ⊥) (replicate n fresh_node)
      none_first zero = tt
      none_first (suc n) = ((λ is. absurd cc), none_first n)

      one_first : (n : ℕ) → OneLeads (negsuc 0) (replicate n fresh_node)
      one_first zero = tt
      one_first (suc n) = ((λ _. none_first n), one_first n)

pub nodes_agree : NodesAgree
nodes_agree options nodes ms =
    let r = run options nodes ms in
    let g = run_is options nodes ms in
    let seen = λ (k : ℕ) (n : RunNode) (is : slice_get r.nodes k ≡ Some n).
    let c = (at_node (IsNode r.list r.elected) r.nodes k n g.nodes is).core in
    same_image r.list n.state.world.log n.state.world.committed c.committed c.means in
    record {
      follows = λ k n is. (at_node (IsNode r.list r.elected) r.nodes k n g.nodes is).core.committed;
      images = seen;
      equal = λ j k m n is_m is_n same. seen j m is_m ∙ (ap (λ end. apply_all empty (take end (list_items r.list))) same ∙ sym (seen k n is_n));
      told = g.told;
    }
