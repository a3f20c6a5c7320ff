use Rattle.std.proofs.Common.{rules, w64, to_z, of_z, ◌≡◌, ◌∙◌, ap, sym, ℤ, List}
use Rattle.std.specs.Prelude.{Option, Some}
use Rattle.std.specs.List.{slice_get}
use Rattle.std.specs.Option.{option_map}
use Rattle.law_nodes.specs.Moves.{run}
use Rattle.kr_nodes.specs.declared.node.Node.{Node}
use Rattle.kr_nodes.proofs.Agreements.{end_is}
use Rattle.kr_nodes.proofs.cluster.Cluster.end.Goals as goal

pub returns-in-Some : goal.returns-in-Some
returns-in-Some c = λ options nodes past st.
    let is = ap (λ (l : List Node). slice_get l c.args.node) (sym c.deref.ensures.value) ∙ c.in-Some.ensures in
    let same : to_z w64 (of_z w64 c.committed.result) ≡ c.in-Some.node.now.engine.committed = search rules in
    ap (λ (z : ℤ). Some z) same
    ∙ (sym (ap (λ (o : Option Node). option_map (λ (n : Node). n.engine.committed) o) is) ∙ end_is options (run options nodes past) c.args.self.now c.args.node st)

pub returns-in-None : goal.returns-in-None
returns-in-None c = λ options nodes past st.
    let is = ap (λ (l : List Node). slice_get l c.args.node) (sym c.deref.ensures.value) ∙ c.in-None.ensures in
    sym (ap (λ (o : Option Node). option_map (λ (n : Node). n.engine.committed) o) is) ∙ end_is options (run options nodes past) c.args.self.now c.args.node st
