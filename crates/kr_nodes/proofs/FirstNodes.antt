-- A list of nodes to which nothing has happened, and one more.
use Rattle.std.proofs.Common.{◌≡◌, ◌∙◌, ℕ, zero, suc, pos, negsuc, ◌+◌, false, List, [], ◌∷◌, ◌++◌, length, length-append, replicate, refl, subst, sym, arith}
use Rattle.std.specs.Int.{w64}
use Rattle.std.proofs.lemmas.Int.{fits_signed_from_abs}
use Rattle.std.proofs.lemmas.List.{length-replicate}
use Rattle.law_nodes.specs.Nodes.{first_run, fresh_node}
use Rattle.kr_nodes.specs.declared.cluster.Cluster.{Cluster}
use Rattle.std.specs.List.{AllByRecursion}
use Rattle.kr_defs.specs.declared.options.Options.{Options}
use Rattle.kr_nodes.specs.declared.node.Node.{Node}
use Rattle.kr_nodes.specs.inner.Taking.{IsFirstNode}
use Rattle.kr_nodes.specs.Standing.{AllPairs, AreBelow, AreFirst, StandsForNode, StandsForRun}

all_more : (options : Options) (nodes : List Node) (node : Node) → AllByRecursion (IsFirstNode options) nodes → IsFirstNode options node → AllByRecursion (IsFirstNode options) (nodes ++ node ∷ [])
all_more options [] node h own = (own, tt)
all_more options (n ∷ ns) node h own = (h.0, all_more options ns node h.1 own)

pub first_more : (options : Options) (count : ℕ) (nodes all : List Node) (node : Node) → AreFirst options count nodes → all ≡ nodes ++ node ∷ [] → IsFirstNode options node → AreFirst options (count + 1) all
first_more options count nodes all node first is own =
    let long = length-append nodes (node ∷ []) in
    let same = first.0 in
    subst (AreFirst options (count + 1)) (sym is) (omega (arith, long, same), all_more options nodes node first.1 own)

-- ---- a cluster to which nothing has happened

none_below : AreBelow [] 0 0
none_below = record { done = []; ahead = []; is = refl; reaches = refl; count_is = refl }

first_stands : (options : Options) (node : Node) → IsFirstNode options node → StandsForNode options [] fresh_node node
first_stands options node f = record {
  options_are = f.options_are;
  engine = f.stands;
  drained = f.drained;
  settled = f.settled;
  unsettled = f.unsettled;
  waiting = f.waiting;
  fed = subst (AreBelow [] 0) (sym f.fed) none_below;
  sent = subst (AreBelow [] 0) (sym f.sent) none_below;
  reads = tt;
  time = fits_signed_from_abs w64 (pos 0) (omega arith);
}

first_pairs : (options : Options) (count : ℕ) (nodes : List Node) → length nodes ≡ count → AllByRecursion (IsFirstNode options) nodes → AllPairs (StandsForNode options []) (replicate count fresh_node) nodes
first_pairs options zero [] same h = tt
first_pairs options zero (n ∷ ns) same h = absurd (omega (arith, same))
first_pairs options (suc count) [] same h = absurd (omega (arith, same))
first_pairs options (suc count) (n ∷ ns) same h = (first_stands options n h.0, first_pairs options count ns (omega (arith, same)) h.1)

pub first_cluster : (options : Options) (count : ℕ) (c : Cluster) → AreFirst options count c.nodes.items → c.spent ≡ false → c.count ≡ count → c.shared.list.items ≡ [] → c.shared.length ≡ pos 0 → c.shared.elected ≡ negsuc 0
    → c.shared.told.items ≡ [] → StandsForRun options (first_run count) c
first_cluster options count c first running counts list len elected told = record {
  running = running;
  nodes = first_pairs options count c.nodes.items first.0 first.1;
  count = counts ∙ sym (length-replicate count fresh_node);
  shared = record { list = list; reads = tt; length_is = len; elected = elected; told = told };
}
