use Rattle.std.proofs.Common.{◌≡◌, ◌∙◌, ◌++◌, ℕ, true, rules, ap, sym, w64}
use Rattle.std.specs.Prelude.{FitsSigned, ◌==◌}
use Rattle.std.proofs.lemmas.Int.{to_z-of_z}
use Rattle.kr_shared.specs.Desks.{held_back}
use Rattle.kr_shared.specs.inner.Dropping.{left_if, up_to_below}
use Rattle.kr_shared.proofs.Dropped.{back_goes, front_goes, none_counted, some_counted}
use Rattle.kr_shared.proofs.desk.Desk.drop_lost.Goals as goal

pub returns-then-is_empty-clause-left : goal.returns-then-is_empty-clause-left
returns-then-is_empty-clause-left c =
    let lost : c.args.lost ≡ true = search rules in
    let end = c.committed-end.result in
    let fits : FitsSigned w64 end = search rules in
    let back = c.drop_behind.new.entries in
    front_goes end c.self.inside.unstaged.items c.self.inside.fresh.items back.items c.drop_behind-then-is_empty.new.entries.items
    (rw (to_z-of_z w64 end fits) at c.drop_behind.ensures) (none_counted back.items (ap (λ (n : ℕ). n == 0) (sym back.ok.0) ∙ (sym c.is_empty.ensures ∙ c.if-is_empty.true)))
    (rw (to_z-of_z w64 end fits) at c.drop_behind-then-is_empty.ensures)
    ∙ ((λ i. up_to_below (c.committed-end.ensures i) (c.self.inside.unstaged.items ++ c.self.inside.fresh.items))
    ∙ (λ i. left_if (sym lost i) (c.self.view_is i).engine.committed (held_back (c.self.view_is i))))

pub returns-else-is_empty-clause-left : goal.returns-else-is_empty-clause-left
returns-else-is_empty-clause-left c =
    let lost : c.args.lost ≡ true = search rules in
    let end = c.committed-end.result in
    let fits : FitsSigned w64 end = search rules in
    let back = c.drop_behind.new.entries in
    back_goes end c.self.inside.unstaged.items c.self.inside.fresh.items back.items
    (rw (to_z-of_z w64 end fits) at c.drop_behind.ensures) (some_counted back.items (ap (λ (n : ℕ). n == 0) (sym back.ok.0) ∙ (sym c.is_empty.ensures ∙ c.if-is_empty.false)))
    ∙ ((λ i. up_to_below (c.committed-end.ensures i) (c.self.inside.unstaged.items ++ c.self.inside.fresh.items))
    ∙ (λ i. left_if (sym lost i) (c.self.view_is i).engine.committed (held_back (c.self.view_is i))))
