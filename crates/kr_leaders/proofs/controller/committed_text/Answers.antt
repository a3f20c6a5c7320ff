use Rattle.std.proofs.Common.{◌∙◌, ◌≤ℤ◌, ℤ, pos, subst, sym, w64}
use Rattle.std.proofs.lemmas.Int.{to_z-of_z}
use Rattle.kr_leaders.proofs.Rounds.{natural_end}
use Rattle.kr_leaders.proofs.controller.committed_text.Goals as goal

pub write-requires : goal.write-requires
write-requires c =
    let is = to_z-of_z w64 c.closed-end.result (record { sfits = c.closed-end.type_inv }) ∙ c.closed-end.ensures in
    subst (λ (p : ℤ). pos 0 ≤ℤ p) (sym is) (natural_end c.args.engine.now c.requires)
