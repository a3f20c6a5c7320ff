use Rattle.std.proofs.Common.{rules, ◌≡◌, ◌∙◌, ap, sym, ℤ, w32, w64, to_z, of_z}
use Rattle.law_nodes.specs.declared.moves.Move.{Move}
use Rattle.law_nodes.specs.Moves as table
use Rattle.kr_nodes.specs.inner.Acting as acting
use Rattle.kr_nodes.specs.inner.Acting.{one_outcome}
use Rattle.kr_nodes.proofs.RefusedMoves.{acts_as}
use Rattle.kr_nodes.proofs.node.Node.act.Goals as goal

pub returns-in-Feed : goal.returns-in-Feed
returns-in-Feed g c =
    let k = c.args.number in
    acts_as (λ _ r n. table.feed r k n) (λ options r n. one_outcome options r k n c.args.turn) k _ _ _ _ _
    (λ options r n. ap (λ (t : Move). one_outcome options r k n t) (sym c.in-Feed.is)) c.feed.ensures

pub returns-in-Elect : goal.returns-in-Elect
returns-in-Elect g c =
    let k = c.args.number in
    let epoch : to_z w32 (of_z w32 c.in-Elect.epoch) ≡ c.in-Elect.epoch = search rules in
    let now : to_z w64 (of_z w64 c.in-Elect.now) ≡ c.in-Elect.now = search rules in
    acts_as (λ options r n. table.elect options r k n (to_z w32 (of_z w32 c.in-Elect.epoch)) (to_z w64 (of_z w64 c.in-Elect.now))) (λ options r n. one_outcome options r k n c.args.turn) k _ _ _ _ _
    (λ options r n. ap (λ (z : ℤ). table.elect options r k n z (to_z w64 (of_z w64 c.in-Elect.now))) epoch ∙ (ap (λ (z : ℤ). table.elect options r k n c.in-Elect.epoch z) now ∙ ap (λ (t : Move). one_outcome options r k n t) (sym c.in-Elect.is))) c.elect.ensures

pub returns-in-Ask : goal.returns-in-Ask
returns-in-Ask g c =
    let k = c.args.number in
    let now : to_z w64 (of_z w64 c.in-Ask.now) ≡ c.in-Ask.now = search rules in
    acts_as (λ options r n. acting.ask_outcome options r k n c.in-Ask.client (to_z w64 (of_z w64 c.in-Ask.now)) c.in-Ask.call) (λ options r n. one_outcome options r k n c.args.turn) k _ _ _ _ _
    (λ options r n. ap (λ (z : ℤ). acting.ask_outcome options r k n c.in-Ask.client z c.in-Ask.call) now ∙ ap (λ (t : Move). one_outcome options r k n t) (sym c.in-Ask.is)) c.ask.ensures

pub returns-in-Tick : goal.returns-in-Tick
returns-in-Tick g c =
    let k = c.args.number in
    let now : to_z w64 (of_z w64 c.in-Tick.now) ≡ c.in-Tick.now = search rules in
    acts_as (λ options r n. acting.tick_outcome options r k n (to_z w64 (of_z w64 c.in-Tick.now))) (λ options r n. one_outcome options r k n c.args.turn) k _ _ _ _ _
    (λ options r n. ap (λ (z : ℤ). acting.tick_outcome options r k n z) now ∙ ap (λ (t : Move). one_outcome options r k n t) (sym c.in-Tick.is)) c.tick.ensures

pub returns-in-Settle : goal.returns-in-Settle
returns-in-Settle g c =
    let k = c.args.number in
    acts_as (λ _ r n. table.settle r k n) (λ options r n. one_outcome options r k n c.args.turn) k _ _ _ _ _
    (λ options r n. ap (λ (t : Move). one_outcome options r k n t) (sym c.in-Settle.is)) c.settle.ensures

pub returns-in-Tell : goal.returns-in-Tell
returns-in-Tell g c =
    let k = c.args.number in
    acts_as (λ options r n. table.tell options r k n) (λ options r n. one_outcome options r k n c.args.turn) k _ _ _ _ _
    (λ options r n. ap (λ (t : Move). one_outcome options r k n t) (sym c.in-Tell.is)) c.tell.ensures

pub returns-in-Depose : goal.returns-in-Depose
returns-in-Depose g c =
    let k = c.args.number in
    acts_as (λ options r n. table.depose options r k n) (λ options r n. one_outcome options r k n c.args.turn) k _ _ _ _ _
    (λ options r n. ap (λ (t : Move). one_outcome options r k n t) (sym c.in-Depose.is)) c.depose.ensures
