-- What tests of equality tell, and of tests in a row.
use Rattle.std.proofs.Common.{◌≡◌, ◌∙◌, sym, ℕ, zero, suc, pred, ◌<◌, ◌≤◌, Bool, true, false, List, [], ◌∷◌, ◌++◌, refl, ap, subst, arith, inl, inr, ◌⊎◌}
use Rattle.std.proofs.lemmas.Bool.{eqb-true}
use Rattle.std.proofs.lemmas.Bool.Decides.{nat_tests}
use Rattle.std.specs.Prelude.{◌&&◌, ◌||◌, not, length, nat_eq, nat_le, nat_lt}
use Rattle.std.specs.List.{list_all, list_any, zip}
use Rattle.law_quorum.specs.Batches.{Batch, StoredImage}
use Rattle.law_quorum.proofs.KeptLog.{both}
use Rattle.law_link.specs.Links.{Call, Has, Held, Keep}
use Rattle.law_tape.specs.Equality.{agree, begins_with, same_batch, same_batches, same_bytes, same_call, same_held, same_image, same_keep}

pub joined : (a b : Bool) → a ≡ true → b ≡ true → (a && b) ≡ true
joined true b h k = k
joined false b h k = absurd cc

pub either : (a b : Bool) → (a || b) ≡ true → (a ≡ true) ⊎ (b ≡ true)
either true b h = inl refl
either false b h = inr h

pub true_or_false : (t : Bool) → (t ≡ true) ⊎ (t ≡ false)
true_or_false true = inl refl
true_or_false false = inr refl

pub first_of_two : (a b : Bool) → a ≡ true → (a || b) ≡ true
first_of_two true b h = refl
first_of_two false b h = absurd cc

pub second_of_two : (a b : Bool) → b ≡ true → (a || b) ≡ true
second_of_two true b h = refl
second_of_two false b h = h

pub holds_not : (a : Bool) → not a ≡ false → a ≡ true
holds_not true h = refl
holds_not false h = absurd cc

pub not_holds : (a : Bool) → a ≡ true → not a ≡ false
not_holds true h = refl
not_holds false h = absurd cc

pub eq_true : (a b : ℕ) → a ≡ b → nat_eq a b ≡ true
eq_true a b e = grind (arith, nat_tests)

pub le_true : (a b : ℕ) → nat_le a b ≡ true → a ≤ b
le_true a b t = grind (arith, nat_tests)

pub true_le : (a b : ℕ) → a ≤ b → nat_le a b ≡ true
true_le a b h = grind (arith, nat_tests)

pub lt_true : (a b : ℕ) → nat_lt a b ≡ true → a < b
lt_true a b t = grind (arith, nat_tests)

pub true_lt : (a b : ℕ) → a < b → nat_lt a b ≡ true
true_lt a b h = grind (arith, nat_tests)

pub bytes_are : (a b : List ℕ) → same_bytes a b ≡ true → a ≡ b
bytes_are [] [] h = refl
bytes_are [] (b ∷ bs) h = absurd cc
bytes_are (a ∷ as') [] h = absurd cc
bytes_are (a ∷ []) (b ∷ []) h = ap (λ n. n ∷ []) (eqb-true a b h)
bytes_are (a ∷ []) (b ∷ (c ∷ cs)) h = absurd (nothing (both (nat_eq a b) false h))
  where
    nothing : (nat_eq a b ≡ true) × (false ≡ true) → ⊥
    nothing (x, y) = cc
bytes_are (a ∷ (x ∷ xs)) (b ∷ bs) h =
    let p = both (nat_eq a b) (same_bytes (x ∷ xs) bs) h in
    ap (λ n. n ∷ (x ∷ xs)) (eqb-true a b p.0) ∙ ap (λ ns. b ∷ ns) (bytes_are (x ∷ xs) bs p.1)

pub are_bytes : (a : List ℕ) → same_bytes a a ≡ true
are_bytes [] = refl
are_bytes (a ∷ []) = eq_true a a refl
are_bytes (a ∷ (x ∷ xs)) = joined (nat_eq a a) (same_bytes (x ∷ xs) (x ∷ xs)) (eq_true a a refl) (are_bytes (x ∷ xs))

pub batch_is : (a b : Batch) → same_batch a b ≡ true → a ≡ b
batch_is a b h =
    let p = both (nat_eq a.base b.base && nat_eq a.count b.count && nat_eq a.epoch b.epoch) (same_bytes a.bytes b.bytes) h in
    let q = both (nat_eq a.base b.base && nat_eq a.count b.count) (nat_eq a.epoch b.epoch) p.0 in
    let r = both (nat_eq a.base b.base) (nat_eq a.count b.count) q.0 in
    let base : a.base ≡ b.base = eqb-true a.base b.base r.0 in
    let count : a.count ≡ b.count = eqb-true a.count b.count r.1 in
    let epoch : a.epoch ≡ b.epoch = eqb-true a.epoch b.epoch q.1 in
    let bytes : a.bytes ≡ b.bytes = bytes_are a.bytes b.bytes p.1 in
    ap (λ x. record { base = x; count = a.count; epoch = a.epoch; bytes = a.bytes }) base
    ∙ (ap (λ x. record { base = b.base; count = x; epoch = a.epoch; bytes = a.bytes }) count
    ∙ (ap (λ x. record { base = b.base; count = b.count; epoch = x; bytes = a.bytes }) epoch
    ∙ ap (λ x. record { base = b.base; count = b.count; epoch = b.epoch; bytes = x }) bytes))

pub is_batch : (a b : Batch) → a ≡ b → same_batch a b ≡ true
is_batch a b e = ap (same_batch a) (sym e) ∙ itself a
  where
    itself : (a : Batch) → same_batch a a ≡ true
    itself a = joined _ _ (joined _ _ (joined _ _ (eq_true a.base a.base refl) (eq_true a.count a.count refl)) (eq_true a.epoch a.epoch refl)) (are_bytes a.bytes)

pub batches_are : (a b : List Batch) → same_batches a b ≡ true → a ≡ b
batches_are [] [] h = refl
batches_are [] (b ∷ bs) h = let e : zero ≡ suc (length bs) = eqb-true zero (length (b ∷ bs)) (both (nat_eq zero (length (b ∷ bs))) (agree [] (b ∷ bs)) h).0 in absurd cc
batches_are (a ∷ as') [] h = let e : suc (length as') ≡ zero = eqb-true (length (a ∷ as')) zero (both (nat_eq (length (a ∷ as')) zero) (agree (a ∷ as') []) h).0 in absurd cc
batches_are (a ∷ as') (b ∷ bs) h =
    let p = both (nat_eq (length (a ∷ as')) (length (b ∷ bs))) (same_batch a b && agree as' bs) h in
    let q = both (same_batch a b) (agree as' bs) p.1 in
    let long : suc (length as') ≡ suc (length bs) = eqb-true (length (a ∷ as')) (length (b ∷ bs)) p.0 in
    let same : nat_eq (length as') (length bs) ≡ true = eq_true (length as') (length bs) (ap pred long) in
    ap (λ x. x ∷ as') (batch_is a b q.0) ∙ ap (λ xs. b ∷ xs) (batches_are as' bs (joined (nat_eq (length as') (length bs)) (agree as' bs) same q.1))

pub agrees : (a : List Batch) → agree a a ≡ true
agrees [] = refl
agrees (a ∷ as') = joined (same_batch a a) (agree as' as') (is_batch a a refl) (agrees as')

pub are_batches : (a b : List Batch) → a ≡ b → same_batches a b ≡ true
are_batches a b e = ap (same_batches a) (sym e) ∙ joined (nat_eq (length a) (length a)) (agree a a) (eq_true (length a) (length a) refl) (agrees a)

pub held_is : (a b : Held) → same_held a b ≡ true → a ≡ b
held_is a b h =
    let q = both (nat_eq a.epoch b.epoch && nat_eq a.made b.made) (nat_eq a.start b.start) h in
    let r = both (nat_eq a.epoch b.epoch) (nat_eq a.made b.made) q.0 in
    ap (λ x. record { epoch = x; made = a.made; start = a.start }) (eqb-true a.epoch b.epoch r.0)
    ∙ (ap (λ x. record { epoch = b.epoch; made = x; start = a.start }) (eqb-true a.made b.made r.1)
    ∙ ap (λ x. record { epoch = b.epoch; made = b.made; start = x }) (eqb-true a.start b.start q.1))

pub is_held : (a b : Held) → a ≡ b → same_held a b ≡ true
is_held a b e = ap (same_held a) (sym e) ∙ joined _ _ (joined _ _ (eq_true a.epoch a.epoch refl) (eq_true a.made a.made refl)) (eq_true a.start a.start refl)

pub call_is : (a b : Call) → same_call a b ≡ true → a ≡ b
call_is a b h =
    let q = both (nat_eq a.epoch b.epoch && nat_eq a.made b.made) (same_batches a.group b.group) h in
    let r = both (nat_eq a.epoch b.epoch) (nat_eq a.made b.made) q.0 in
    ap (λ x. record { epoch = x; made = a.made; group = a.group }) (eqb-true a.epoch b.epoch r.0)
    ∙ (ap (λ x. record { epoch = b.epoch; made = x; group = a.group }) (eqb-true a.made b.made r.1)
    ∙ ap (λ x. record { epoch = b.epoch; made = b.made; group = x }) (batches_are a.group b.group q.1))

pub is_call : (a b : Call) → a ≡ b → same_call a b ≡ true
is_call a b e = ap (same_call a) (sym e) ∙ joined _ _ (joined _ _ (eq_true a.epoch a.epoch refl) (eq_true a.made a.made refl)) (are_batches a.group a.group refl)

pub image_is : (a b : StoredImage) → same_image a b ≡ true → a ≡ b
image_is a b h =
    let q = both (nat_eq a.offset b.offset) (same_bytes a.bytes b.bytes) h in
    ap (λ x. record { offset = x; bytes = a.bytes }) (eqb-true a.offset b.offset q.0)
    ∙ ap (λ x. record { offset = b.offset; bytes = x }) (bytes_are a.bytes b.bytes q.1)

pub keep_is : (a b : Keep) → same_keep a b ≡ true → a ≡ b
keep_is a b h =
    let q = both (nat_eq a.before b.before) (same_image a.image b.image) h in
    ap (λ x. record { before = x; image = a.image }) (eqb-true a.before b.before q.0)
    ∙ ap (λ x. record { before = b.before; image = x }) (image_is a.image b.image q.1)

pub is_keep : (a b : Keep) → a ≡ b → same_keep a b ≡ true
is_keep a b e = ap (same_keep a) (sym e)
    ∙ joined (nat_eq a.before a.before) (same_image a.image a.image) (eq_true a.before a.before refl)
    (joined (nat_eq a.image.offset a.image.offset) (same_bytes a.image.bytes a.image.bytes) (eq_true a.image.offset a.image.offset refl) (are_bytes a.image.bytes))

-- ---- what is in a list

pub has_some : {X : Type 0} (x : X) (test : X → Bool) → ((y : X) → test y ≡ true → x ≡ y) → (ys : List X) → list_any test ys ≡ true → Has x ys
has_some x test is [] h = absurd cc
has_some x test is (y ∷ ys) h = elim (either (test y) (list_any test ys) h) [ inl t ↦ inl (is y t) | inr t ↦ inr (has_some x test is ys t) ]

pub some_has : {X : Type 0} (x : X) (test : X → Bool) → ((y : X) → x ≡ y → test y ≡ true) → (ys : List X) → Has x ys → list_any test ys ≡ true
some_has x test is [] h = absurd h
some_has x test is (y ∷ ys) h = elim h [ inl e ↦ first_of_two (test y) (list_any test ys) (is y e) | inr r ↦ second_of_two (test y) (list_any test ys) (some_has x test is ys r) ]
