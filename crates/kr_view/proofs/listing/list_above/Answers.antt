use Rattle.std.proofs.Common.{ℕ, ℤ, ap, arith, length, map, refl, sym, ◌∙◌}
use Rattle.kr_defs.specs.declared.partition.Partition.{Partition}
use Rattle.kr_defs.specs.Walk.{walked}
use Rattle.kr_view.proofs.Filling.{filling, one_more, none_left, no_room}
use Rattle.kr_view.proofs.listing.list_above.Goals as goal

pub loop-key-init : goal.loop-key-init
loop-key-init g c = filling _ _ _ c.requires

pub loop-key-preserved : goal.loop-key-preserved
loop-key-preserved g c =
    let row = λ (e : (ℕ × ℤ) × Partition). g.P.Listing.rows c.args.listing.now (walked c.args.name.now e) in
    one_more _ _ _ _ _ c.loop-key.invariant _ _ _ (rw c.in_ok-row.ensures at c.in_ok-push.ensures.ok) (ap (map row) c.in-Some.ensures.next) (sym c.is_full.ensures ∙ c.if-is_full.false)

pub loop-key-smaller : goal.loop-key-smaller
loop-key-smaller g c = let n = ap length c.in-Some.ensures.next in omega (arith, n)

pub returns-then-is_full : goal.returns-then-is_full
returns-then-is_full g c = no_room _ _ _ _ _ c.loop-key.invariant (sym c.is_full.ensures ∙ c.if-is_full.true)

pub returns : goal.returns
returns g c =
    let row = λ (e : (ℕ × ℤ) × Partition). g.P.Listing.rows c.args.listing.now (walked c.args.name.now e) in
    none_left _ _ _ _ _ c.loop-key.invariant (ap (map row) (c.in_default.ensures.none refl))
