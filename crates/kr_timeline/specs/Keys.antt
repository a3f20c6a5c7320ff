-- Settings at equal places are at the same one.
use Rattle.std.proofs.Common.{◌∙◌, ap, List, ℕ, ℤ}
use Rattle.std.specs.Ordering.{int_cmp, ordering_then}
use Rattle.std.proofs.lemmas.Map.Lookups.{CmpEqualImpliesEq, exact_signed, exact_bytes}
use Rattle.kr_defs.specs.Map.{config_order, text_order}
use Rattle.kr_defs.proofs.Maps.{then_equal}

pub config_exact : CmpEqualImpliesEq config_order
config_exact x y h =
    let first = then_equal (int_cmp x.kind y.kind) (ordering_then (text_order x.name y.name) (text_order x.key y.key)) h in
    let rest = then_equal (text_order x.name y.name) (text_order x.key y.key) first.1 in
    ap (λ (k : ℤ). record x { kind = k }) (exact_signed x.kind y.kind first.0)
    ∙ ap (λ (n : List ℕ). record x { kind = y.kind; name = n }) (exact_bytes x.name y.name rest.0)
    ∙ ap (λ (n : List ℕ). record x { kind = y.kind; name = y.name; key = n }) (exact_bytes x.key y.key rest.1)
