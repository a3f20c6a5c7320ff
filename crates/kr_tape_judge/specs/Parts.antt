-- What an act changes in a daemon or in a link.
use Rattle.std.specs.Prelude.{ℕ, List, [], ◌++◌, drop, take}
use Rattle.law_quorum.specs.Nodes.{Node}
use Rattle.law_link.specs.Links.{Link}

abbrev pub node_settled : Node → ℕ → ℕ → Node
node_settled n count end = record n {
  batches = n.batches ++ take count n.own;
  end = end;
  settled = n.settled ++ take count n.own;
  own = drop count n.own;
}

abbrev pub link_begun : Link → Link
link_begun l = record l { asked = []; waits = [] }

abbrev pub link_passed : Link → Link
link_passed l = record l { pipe = drop 1 l.pipe }

abbrev pub link_settled : Link → Link
link_settled l = record l { asked = [] }
