use Rattle.std.proofs.Common.{◌≡◌, ◌∙◌, sym, ap, true, ◌&&◌, w32, to_z, of_z}
use Rattle.std.proofs.lemmas.Int.{to_z-of_z}
use Rattle.kr_balance.specs.inner.Tallies.{tally_of}
use Rattle.kr_balance.specs.Plan.{is_imbalanced, preferred_leader}
use Rattle.kr_balance.specs.inner.Planned.{is_over}
use Rattle.kr_balance.proofs.planning.is_planned.Goals as goal

pub returns-then-is_imbalanced : goal.returns-then-is_imbalanced
returns-then-is_imbalanced g c =
    let es = c.args.tallies.now.entries in
    let p = c.args.partition.now in
    let own : to_z w32 (of_z w32 c.preferred_leader-preferred.result) ≡ preferred_leader p = to_z-of_z w32 c.preferred_leader-preferred.result (record { sfits = c.preferred_leader-preferred.type_inv }) ∙ c.preferred_leader-preferred.ensures in
    c.is_over.ensures
    ∙ (ap (λ t. is_over c.args.percent t) (c.tally_of.ensures ∙ ap (λ b. tally_of es b) own)
    ∙ ap (λ t. t && is_over c.args.percent (tally_of es (preferred_leader p))) (sym c.if-is_imbalanced.true ∙ c.is_imbalanced.ensures))
