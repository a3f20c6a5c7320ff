-- The loops that sort, group and walk, one step each.
use Rattle.std.proofs.Common.{◌≡◌, ℕ, ℤ, ◌+◌, ◌-◌, ◌<◌, ◌≤◌, zero, suc, List, [], ◌∷◌, ◌++◌, Option, Some, None, length, take, get_or, option_to_list, append_assoc, length-append, refl, sym, ◌∙◌, ap, arith}
use Rattle.std.specs.List.{filter_map, range_with_len, cons_option}
use Rattle.std.specs.Map.{values_of}
use Rattle.std.specs.Ordering.{int_cmp}
use Rattle.std.proofs.lemmas.List.{take_more, take_all, take_at}
use Rattle.std.proofs.lemmas.List.Sums.{fold_push}
use Rattle.std.proofs.lemmas.List.Elements.{filter_map-append}
use Rattle.kr_defs.specs.Map as entries
use Rattle.kr_defs.specs.Placed.{Rack, by_id, visit, visited}

-- one broker more
pub by_id-more : (brokers : List (ℤ × Rack)) (i : ℕ) (broker : ℤ × Rack) (sorted sorted' : List (ℤ × Rack)) → i < length brokers → broker ≡ get_or brokers i broker
    → sorted ≡ by_id (take i brokers) → sorted' ≡ entries.insert int_cmp sorted broker.0 broker.1 → sorted' ≡ by_id (take (i + 1) brokers)
by_id-more brokers i broker sorted sorted' lt item so_far is =
    let more : take (i + 1) brokers ≡ take i brokers ++ broker ∷ [] = take_more brokers i broker lt ∙ ap (λ (b : ℤ × Rack). take i brokers ++ b ∷ []) (sym item) in
    is ∙ ap (λ (es : List (ℤ × Rack)). entries.insert int_cmp es broker.0 broker.1) so_far ∙ sym (ap by_id more ∙ fold_push _ _ (take i brokers) broker)

ranges : (a n m : ℕ) → range_with_len a (n + m) ≡ range_with_len a n ++ range_with_len (a + n) m
ranges a zero m =
    let e : 0 + m ≡ m = omega arith in
    let f : a ≡ a + 0 = omega arith in
    ap (range_with_len a) e ∙ ap (λ b. range_with_len b m) f
ranges a (suc n) m =
    let e : suc n + m ≡ suc (n + m) = omega arith in
    let f : a + 1 + n ≡ a + suc n = omega arith in
    ap (range_with_len a) e ∙ ap (λ (ks : List ℕ). a ∷ ks) (ranges (a + 1) n m ∙ ap (λ b. range_with_len (a + 1) n ++ range_with_len b m) f)

visited-add : (racks : List (List ℤ)) (start k m : ℕ) → visited racks start (k + m) ≡ visited racks start k ++ filter_map (visit racks start) (range_with_len (0 + k) m)
unfolding visited
visited-add racks start k m = ap (filter_map (visit racks start)) (ranges 0 k m) ∙ filter_map-append (visit racks start) (range_with_len 0 k) (range_with_len (0 + k) m)

only : (o : Option ℤ) → cons_option o [] ≡ option_to_list o
only None = refl
only (Some x) = refl

pub visited-none : (racks : List (List ℤ)) (start : ℕ) → visited racks start 0 ≡ []
unfolding visited
visited-none racks start = refl

-- one visit more
pub visited-more : (racks : List (List ℤ)) (start k : ℕ) (chosen chosen' : List ℤ) → chosen ≡ visited racks start k → chosen' ≡ chosen ++ option_to_list (visit racks start k) → chosen' ≡ visited racks start (k + 1)
visited-more racks start k chosen chosen' so_far is =
    let here : 0 + k ≡ k = omega arith in
    let last : filter_map (visit racks start) (range_with_len (0 + k) 1) ≡ option_to_list (visit racks start k) = ap (λ n. filter_map (visit racks start) (range_with_len n 1)) here ∙ only (visit racks start k) in
    is ∙ ap (λ (xs : List ℤ). xs ++ option_to_list (visit racks start k)) so_far ∙ sym (visited-add racks start k 1 ∙ ap (λ (xs : List ℤ). visited racks start k ++ xs) last)

length-option : (o : Option ℤ) → length (option_to_list o) ≤ 1
length-option None = omega arith
length-option (Some x) = omega arith

pub room-left : (o : Option ℤ) (chosen chosen' : List ℤ) (factor : ℕ) → length chosen < factor → chosen' ≡ chosen ++ option_to_list o → length chosen' ≤ factor
room-left o chosen chosen' factor lt is = omega (arith, ap length is, length-append chosen (option_to_list o), length-option o)

-- enough brokers are chosen
pub enough : (racks : List (List ℤ)) (start k visits factor : ℕ) (chosen : List ℤ) → chosen ≡ visited racks start k → k ≤ visits → length chosen ≡ factor → chosen ≡ take factor (visited racks start visits)
enough racks start k visits factor chosen so_far lt full =
    let e : k + (visits - k) ≡ visits = omega arith in
    let rest : visited racks start visits ≡ chosen ++ filter_map (visit racks start) (range_with_len (0 + k) (visits - k)) =
    ap (visited racks start) (sym e) ∙ visited-add racks start k (visits - k) ∙ ap (λ (xs : List ℤ). xs ++ filter_map (visit racks start) (range_with_len (0 + k) (visits - k))) (sym so_far) in
    sym (ap (take factor) rest ∙ take_at chosen _ factor full)

-- all visits are made
pub all_made : (racks : List (List ℤ)) (start k visits factor : ℕ) (chosen : List ℤ) → chosen ≡ visited racks start k → k ≡ visits → length chosen ≤ factor → chosen ≡ take factor (visited racks start visits)
all_made racks start k visits factor chosen so_far last short = sym (ap (λ n. take factor (visited racks start n)) (sym last) ∙ ap (take factor) (sym so_far) ∙ take_all factor chosen short)

-- one rack more
pub rows-more : (rows rows' : List (List ℤ)) (racks racks' all : List (Rack × List ℤ)) (rack : Rack) (ids : List ℤ) → racks ≡ (rack, ids) ∷ racks' → rows' ≡ rows ++ ids ∷ [] → rows ++ values_of racks ≡ values_of all → rows' ++ values_of racks' ≡ values_of all
rows-more rows rows' racks racks' all rack ids first is so_far =
    ap (λ (xs : List (List ℤ)). xs ++ values_of racks') is ∙ append_assoc rows (ids ∷ []) (values_of racks') ∙ sym (ap (λ (es : List (Rack × List ℤ)). rows ++ values_of es) first) ∙ so_far

pub ruleset walks = (by_id-more, visited-more, room-left, enough, all_made, rows-more)
