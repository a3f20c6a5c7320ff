-- A list of brokers in which none stands twice.
use Rattle.std.proofs.Common.{◌≡◌, ℤ, ◌||◌, false, List, [], ◌∷◌, ◌++◌, map, refl, ◌∙◌, ap}
use Rattle.std.specs.Cmp.{int_eq_equiv}
use Rattle.std.specs.List.{IsDistinct, list_any}
use Rattle.std.specs.Ordering.{int_eq}
use Rattle.std.proofs.lemmas.Map.Keys.{IsDistinct-push}
use Rattle.kr_defs.specs.Placed.{Rack}

ids-push : (brokers : List (ℤ × Rack)) (broker : ℤ × Rack) → map (λ (b : ℤ × Rack). b.0) (brokers ++ broker ∷ []) ≡ map (λ (b : ℤ × Rack). b.0) brokers ++ broker.0 ∷ []
ids-push [] broker = refl
ids-push (b ∷ brokers) broker = ap (λ (xs : List ℤ). b.0 ∷ xs) (ids-push brokers broker)

pub distinct-none : (brokers : List (ℤ × Rack)) → brokers ≡ [] → IsDistinct int_eq (map (λ (b : ℤ × Rack). b.0) brokers)
unfolding IsDistinct
distinct-none brokers none = rw none tt

any_id : (brokers : List (ℤ × Rack)) (id : ℤ) → list_any (int_eq id) (map (λ (b : ℤ × Rack). b.0) brokers) ≡ list_any (λ (b : ℤ × Rack). int_eq id b.0) brokers
any_id [] id = refl
any_id (b ∷ brokers) id = ap (λ t. int_eq id b.0 || t) (any_id brokers id)

pub distinct-push : (brokers brokers' : List (ℤ × Rack)) (broker : ℤ × Rack) → brokers' ≡ brokers ++ broker ∷ [] → IsDistinct int_eq (map (λ (b : ℤ × Rack). b.0) brokers)
    → list_any (λ (b : ℤ × Rack). int_eq broker.0 b.0) brokers ≡ false → IsDistinct int_eq (map (λ (b : ℤ × Rack). b.0) brokers')
distinct-push brokers brokers' broker is distinct fresh = rw (is, ids-push) (IsDistinct-push int_eq_equiv _ broker.0 distinct (any_id brokers broker.0 ∙ fresh))
