-- The calls that are counted under the kept epochs, after one more is kept, and after some are dropped; and their sums.
use Rattle.std.proofs.Common.{◌≡◌, ℕ, suc, ℤ, Bool, true, false, cond, not, List, [], ◌∷◌, ◌++◌, ◌+◌, ◌*◌, length, refl, sym, ap, ◌∙◌, arith, map, filter}
use Rattle.std.specs.Prelude.{int_lt, sum_by, take}
use Rattle.std.proofs.lemmas.List.{length-map}
use Rattle.std.proofs.lemmas.List.Sums.{sum_by-cons}
use Rattle.kr_defs.specs.KeptMaps.{Kept, oldest_unmade as map_unmade}
use Rattle.kr_store.specs.Images.{calls_of, oldest_unmade}
use Rattle.kr_defs.specs.declared.broker.Broker.{Broker}
use Rattle.kr_defs.specs.declared.partition.Partition.{Partition}
use Rattle.kr_defs.specs.declared.record.ConfigKey.{ConfigKey}
use Rattle.kr_defs.specs.declared.record.Topic.{Topic}
use Rattle.kr_image.specs.declared.kept_counts.KeptCounts.{KeptCounts}
use Rattle.kr_image.specs.Timelines.{Keeps, all_above, undone_in, undone_of, covered_in, covered_of}
use Rattle.kr_image.specs.KeptImages.{HaveEpochs, made_in, none_made, with_made}
use Rattle.kr_image.proofs.KeptLists.{filter_map_is, map_push}

abbrev epochs_of : List (ℤ × ℕ) → List ℤ
epochs_of sums = map (λ (m : ℤ × ℕ). m.0) sums

-- ---- one timeline

module _ {K V : Type 0} where
  abbrev epochs_in : List (Kept K V) → List ℤ
  epochs_in kept = map (λ (k : Kept K V). k.epoch) kept

  pub with_epochs : (kept : List (Kept K V)) (sums : List (ℤ × ℕ)) → epochs_of (with_made kept sums) ≡ epochs_of sums
  with_epochs [] sums = refl
  with_epochs (k ∷ kept) [] = refl
  with_epochs (k ∷ kept) (m ∷ sums) = ap (λ (es : List ℤ). m.0 ∷ es) (with_epochs kept sums)

  pub with_push : (kept : List (Kept K V)) (sums : List (ℤ × ℕ)) (k : Kept K V) (m : ℤ × ℕ) → epochs_in kept ≡ epochs_of sums → with_made (kept ++ k ∷ []) (sums ++ m ∷ []) ≡ with_made kept sums ++ (m.0, k.made + m.1) ∷ []
  with_push [] [] k m same = refl
  with_push [] (n ∷ sums) k m same = absurd cc
  with_push (j ∷ kept) [] k m same = absurd cc
  with_push (j ∷ kept) (n ∷ sums) k m same =
      let rest : epochs_in kept ≡ epochs_of sums = cc in
      ap (λ (ms : List (ℤ × ℕ)). (n.0, j.made + n.1) ∷ ms) (with_push kept sums k m rest)

  pub with_left : (q : ℤ → Bool) (kept : List (Kept K V)) (sums : List (ℤ × ℕ)) → epochs_in kept ≡ epochs_of sums
      → with_made (filter (λ (k : Kept K V). q k.epoch) kept) (filter (λ (m : ℤ × ℕ). q m.0) sums) ≡ filter (λ (m : ℤ × ℕ). q m.0) (with_made kept sums)
  with_left q [] sums same = refl
  with_left q (k ∷ kept) [] same = absurd cc
  with_left q (k ∷ kept) (m ∷ sums) same =
      let here : k.epoch ≡ m.0 = cc in
      let tails : epochs_in kept ≡ epochs_of sums = cc in
      let ks = filter (λ (k : Kept K V). q k.epoch) kept in
      let ms = filter (λ (m : ℤ × ℕ). q m.0) sums in
      let rest = with_left q kept sums tails in
      ap (λ (x : ℤ). with_made (cond (q x) (k ∷ ks) ks) (filter (λ (m : ℤ × ℕ). q m.0) (m ∷ sums))) here
      ∙ elim (q m.0) as (λ b. with_made (cond b (k ∷ ks) ks) (cond b (m ∷ ms) ms) ≡ cond b ((m.0, k.made + m.1) ∷ filter (λ (m : ℤ × ℕ). q m.0) (with_made kept sums)) (filter (λ (m : ℤ × ℕ). q m.0) (with_made kept sums))) [
        | true ↦ ap (λ (ns : List (ℤ × ℕ)). (m.0, k.made + m.1) ∷ ns) rest
        | false ↦ rest
      ]

  pub with_unmade : (kept : List (Kept K V)) (sums : List (ℤ × ℕ)) → with_made (map_unmade kept) (oldest_unmade sums) ≡ oldest_unmade (with_made kept sums)
  with_unmade [] [] = refl
  with_unmade [] (m ∷ sums) = refl
  with_unmade (k ∷ kept) [] = refl
  with_unmade (k ∷ kept) (m ∷ sums) = refl

  -- ---- sums

  with_sum : (kept : List (Kept K V)) (sums : List (ℤ × ℕ)) → epochs_in kept ≡ epochs_of sums → calls_of (with_made kept sums) ≡ sum_by (λ (k : Kept K V). k.made) kept + calls_of sums
  with_sum [] [] same = refl
  with_sum [] (n ∷ sums) same = absurd cc
  with_sum (j ∷ kept) [] same = absurd cc
  with_sum (k ∷ kept) (m ∷ sums) same =
      let tails : epochs_in kept ≡ epochs_of sums = cc in
      let rest : calls_of (with_made kept sums) ≡ sum_by (λ (k : Kept K V). k.made) kept + calls_of sums = with_sum kept sums tails in
      omega (arith, rest, sum_by-cons (λ (m : ℤ × ℕ). m.1) (m.0, k.made + m.1) (with_made kept sums), sum_by-cons (λ (m : ℤ × ℕ). m.1) m sums, sum_by-cons (λ (k : Kept K V). k.made) k kept)

  with_first : (kept : List (Kept K V)) (sums : List (ℤ × ℕ)) → epochs_in kept ≡ epochs_of sums → calls_of (take 1 (with_made kept sums)) ≡ sum_by (λ (k : Kept K V). k.made) (take 1 kept) + calls_of (take 1 sums)
  with_first [] [] same = refl
  with_first [] (n ∷ sums) same = absurd cc
  with_first (j ∷ kept) [] same = absurd cc
  with_first (k ∷ kept) (m ∷ sums) same = omega (arith, sum_by-cons (λ (m : ℤ × ℕ). m.1) (m.0, k.made + m.1) [], sum_by-cons (λ (m : ℤ × ℕ). m.1) m [], sum_by-cons (λ (k : Kept K V). k.made) k [])

  one_each : (kept : List (Kept K V)) → sum_by (λ (k : Kept K V). k.made + 1) kept ≡ sum_by (λ (k : Kept K V). k.made) kept + length kept
  one_each [] = refl
  one_each (k ∷ kept) =
      let rest : sum_by (λ (k : Kept K V). k.made + 1) kept ≡ sum_by (λ (k : Kept K V). k.made) kept + length kept = one_each kept in
      omega (arith, rest, sum_by-cons (λ (k : Kept K V). k.made + 1) k kept, sum_by-cons (λ (k : Kept K V). k.made) k kept)

  same_length : (kept : List (Kept K V)) (sums : List (ℤ × ℕ)) → epochs_in kept ≡ epochs_of sums → length kept ≡ length sums
  same_length [] [] same = refl
  same_length [] (n ∷ sums) same = absurd cc
  same_length (j ∷ kept) [] same = absurd cc
  same_length (k ∷ kept) (m ∷ sums) same = let tails : epochs_in kept ≡ epochs_of sums = cc in ap (λ n. suc n) (same_length kept sums tails)

  module _ (kept : List (Kept K V)) (sums : List (ℤ × ℕ)) (same : epochs_in kept ≡ epochs_of sums) where
    passing : (q : ℤ → Bool) → epochs_in (filter (λ (k : Kept K V). q k.epoch) kept) ≡ epochs_of (filter (λ (m : ℤ × ℕ). q m.0) sums)
    passing q = sym (filter_map_is (λ (k : Kept K V). k.epoch) q kept) ∙ (ap (filter q) same ∙ filter_map_is (λ (m : ℤ × ℕ). m.0) q sums)

    sum_passing : (q : ℤ → Bool) → calls_of (filter (λ (m : ℤ × ℕ). q m.0) (with_made kept sums)) ≡ sum_by (λ (k : Kept K V). k.made) (filter (λ (k : Kept K V). q k.epoch) kept) + calls_of (filter (λ (m : ℤ × ℕ). q m.0) sums)
    sum_passing q = sym (ap (λ (ms : List (ℤ × ℕ)). calls_of ms) (with_left q kept sums same)) ∙ with_sum (filter (λ (k : Kept K V). q k.epoch) kept) (filter (λ (m : ℤ × ℕ). q m.0) sums) (passing q)

    first_passing : (q : ℤ → Bool) → calls_of (take 1 (filter (λ (m : ℤ × ℕ). q m.0) (with_made kept sums))) ≡ sum_by (λ (k : Kept K V). k.made) (take 1 (filter (λ (k : Kept K V). q k.epoch) kept)) + calls_of (take 1 (filter (λ (m : ℤ × ℕ). q m.0) sums))
    first_passing q = sym (ap (λ (ms : List (ℤ × ℕ)). calls_of (take 1 ms)) (with_left q kept sums same)) ∙ with_first (filter (λ (k : Kept K V). q k.epoch) kept) (filter (λ (m : ℤ × ℕ). q m.0) sums) (passing q)

    pub undone_with : (epoch : ℤ) → calls_of (filter (λ (m : ℤ × ℕ). int_lt epoch m.0) (with_made kept sums)) + length (filter (λ (m : ℤ × ℕ). int_lt epoch m.0) sums) ≡ undone_in kept epoch + calls_of (filter (λ (m : ℤ × ℕ). int_lt epoch m.0) sums)
    undone_with epoch =
        let q : ℤ → Bool = λ x. int_lt epoch x in
        let ks : List (Kept K V) = filter (λ (k : Kept K V). int_lt epoch k.epoch) kept in
        let ms : List (ℤ × ℕ) = filter (λ (m : ℤ × ℕ). int_lt epoch m.0) sums in
        let sum : calls_of (filter (λ (m : ℤ × ℕ). int_lt epoch m.0) (with_made kept sums)) ≡ sum_by (λ (k : Kept K V). k.made) ks + calls_of ms = sum_passing q in
        let many : length ks ≡ length ms = same_length ks ms (passing q) in
        omega (arith, sum, many, one_each ks)

    pub covered_with : (epoch : ℤ) → calls_of (filter (λ (m : ℤ × ℕ). int_lt m.0 epoch) (with_made kept sums)) + calls_of (take 1 (filter (λ (m : ℤ × ℕ). not (int_lt m.0 epoch)) (with_made kept sums))) + length (filter (λ (m : ℤ × ℕ). int_lt m.0 epoch) sums)
        ≡ covered_in kept epoch + (calls_of (filter (λ (m : ℤ × ℕ). int_lt m.0 epoch) sums) + calls_of (take 1 (filter (λ (m : ℤ × ℕ). not (int_lt m.0 epoch)) sums)))
    covered_with epoch =
        let q : ℤ → Bool = λ x. int_lt x epoch in
        let p : ℤ → Bool = λ x. not (int_lt x epoch) in
        let ks : List (Kept K V) = filter (λ (k : Kept K V). int_lt k.epoch epoch) kept in
        let ms : List (ℤ × ℕ) = filter (λ (m : ℤ × ℕ). int_lt m.0 epoch) sums in
        let sum : calls_of (filter (λ (m : ℤ × ℕ). int_lt m.0 epoch) (with_made kept sums)) ≡ sum_by (λ (k : Kept K V). k.made) ks + calls_of ms = sum_passing q in
        let first : calls_of (take 1 (filter (λ (m : ℤ × ℕ). not (int_lt m.0 epoch)) (with_made kept sums))) ≡ sum_by (λ (k : Kept K V). k.made) (take 1 (filter (λ (k : Kept K V). not (int_lt k.epoch epoch)) kept)) + calls_of (take 1 (filter (λ (m : ℤ × ℕ). not (int_lt m.0 epoch)) sums)) = first_passing p in
        let many : length ks ≡ length ms = same_length ks ms (passing q) in
        omega (arith, sum, first, many, one_each ks)

-- ---- all of them

none_epochs : (list : List KeptCounts) → epochs_of (none_made list) ≡ map (λ (k : KeptCounts). k.epoch) list
none_epochs [] = refl
none_epochs (k ∷ list) = ap (λ (es : List ℤ). k.epoch ∷ es) (none_epochs list)

none_calls : (sums : List (ℤ × ℕ)) (list : List KeptCounts) → sums ≡ none_made list → calls_of sums ≡ 0
none_calls sums [] is = ap (λ (ms : List (ℤ × ℕ)). calls_of ms) is
none_calls sums (k ∷ list) is =
    let rest : calls_of (none_made list) ≡ 0 = none_calls (none_made list) list refl in
    ap (λ (ms : List (ℤ × ℕ)). calls_of ms) is ∙ omega (arith, rest, sum_by-cons (λ (m : ℤ × ℕ). m.1) (k.epoch, 0) (none_made list))

none_unmade : (list : List KeptCounts) → oldest_unmade (none_made list) ≡ none_made list
none_unmade [] = refl
none_unmade (k ∷ list) = refl

none_left : (q : ℤ → Bool) (list : List KeptCounts) → none_made (filter (λ (k : KeptCounts). q k.epoch) list) ≡ filter (λ (m : ℤ × ℕ). q m.0) (none_made list)
none_left q list = sym (filter_map_is (λ (k : KeptCounts). (k.epoch, 0)) (λ (m : ℤ × ℕ). q m.0) list)

first_none : (list : List KeptCounts) → calls_of (take 1 (none_made list)) ≡ 0
first_none [] = refl
first_none (k ∷ list) = sum_by-cons (λ (m : ℤ × ℕ). m.1) (k.epoch, 0) []

none_first : (q : ℤ → Bool) (list : List KeptCounts) → calls_of (take 1 (filter (λ (m : ℤ × ℕ). q m.0) (none_made list))) ≡ 0
none_first q list = ap (λ (ms : List (ℤ × ℕ)). calls_of (take 1 ms)) (sym (none_left q list)) ∙ first_none (filter (λ (k : KeptCounts). q k.epoch) list)

none_length : (q : ℤ → Bool) (list : List KeptCounts) → length (filter (λ (k : KeptCounts). q k.epoch) list) ≡ length (filter (λ (m : ℤ × ℕ). q m.0) (none_made list))
none_length q list = sym (length-map (filter (λ (k : KeptCounts). q k.epoch) list) (λ (k : KeptCounts). (k.epoch, 0))) ∙ ap (λ (ms : List (ℤ × ℕ)). length ms) (none_left q list)

module _ (kept : Keeps) (list : List KeptCounts) (have : HaveEpochs kept (map (λ (k : KeptCounts). k.epoch) list)) where
  abbrev in0 : List (ℤ × ℕ)
  in0 = none_made list

  abbrev in1 : List (ℤ × ℕ)
  in1 = with_made kept.features in0

  abbrev in2 : List (ℤ × ℕ)
  in2 = with_made kept.configs in1

  abbrev in3 : List (ℤ × ℕ)
  in3 = with_made kept.partitions in2

  abbrev in4 : List (ℤ × ℕ)
  in4 = with_made kept.topics in3

  abbrev in5 : List (ℤ × ℕ)
  in5 = with_made kept.names in4

  abbrev in6 : List (ℤ × ℕ)
  in6 = with_made kept.brokers in5

  epochs0 : epochs_of in0 ≡ map (λ (k : KeptCounts). k.epoch) list
  epochs0 = none_epochs list

  epochs1 : epochs_of in1 ≡ map (λ (k : KeptCounts). k.epoch) list
  epochs1 = with_epochs kept.features in0 ∙ epochs0

  same0 : map (λ (k : Kept (List ℕ) ℤ). k.epoch) kept.features ≡ epochs_of in0
  same0 = have.features ∙ sym epochs0

  epochs2 : epochs_of in2 ≡ map (λ (k : KeptCounts). k.epoch) list
  epochs2 = with_epochs kept.configs in1 ∙ epochs1

  same1 : map (λ (k : Kept ConfigKey (List ℕ)). k.epoch) kept.configs ≡ epochs_of in1
  same1 = have.configs ∙ sym epochs1

  epochs3 : epochs_of in3 ≡ map (λ (k : KeptCounts). k.epoch) list
  epochs3 = with_epochs kept.partitions in2 ∙ epochs2

  same2 : map (λ (k : Kept (ℕ × ℤ) Partition). k.epoch) kept.partitions ≡ epochs_of in2
  same2 = have.partitions ∙ sym epochs2

  epochs4 : epochs_of in4 ≡ map (λ (k : KeptCounts). k.epoch) list
  epochs4 = with_epochs kept.topics in3 ∙ epochs3

  same3 : map (λ (k : Kept ℕ Topic). k.epoch) kept.topics ≡ epochs_of in3
  same3 = have.topics ∙ sym epochs3

  epochs5 : epochs_of in5 ≡ map (λ (k : KeptCounts). k.epoch) list
  epochs5 = with_epochs kept.names in4 ∙ epochs4

  same4 : map (λ (k : Kept (List ℕ) ℕ). k.epoch) kept.names ≡ epochs_of in4
  same4 = have.names ∙ sym epochs4

  epochs6 : epochs_of in6 ≡ map (λ (k : KeptCounts). k.epoch) list
  epochs6 = with_epochs kept.brokers in5 ∙ epochs5

  same5 : map (λ (k : Kept ℤ Broker). k.epoch) kept.brokers ≡ epochs_of in5
  same5 = have.brokers ∙ sym epochs5

  pub made_epochs : epochs_of (made_in kept list) ≡ map (λ (k : KeptCounts). k.epoch) list
  made_epochs = epochs6

  module _ (q : ℤ → Bool) where
    abbrev left : List KeptCounts
    left = filter (λ (k : KeptCounts). q k.epoch) list

    abbrev passes : List (ℤ × ℕ) → List (ℤ × ℕ)
    passes sums = filter (λ (m : ℤ × ℕ). q m.0) sums

    abbrev out1 : List (ℤ × ℕ)
    out1 = with_made (filter (λ (k : Kept (List ℕ) ℤ). q k.epoch) kept.features) (none_made left)

    left1 : out1 ≡ passes in1
    left1 = ap (λ (ms : List (ℤ × ℕ)). with_made (filter (λ (k : Kept (List ℕ) ℤ). q k.epoch) kept.features) ms) (none_left q list) ∙ with_left q kept.features in0 same0

    abbrev out2 : List (ℤ × ℕ)
    out2 = with_made (filter (λ (k : Kept ConfigKey (List ℕ)). q k.epoch) kept.configs) (out1)

    left2 : out2 ≡ passes in2
    left2 = ap (λ (ms : List (ℤ × ℕ)). with_made (filter (λ (k : Kept ConfigKey (List ℕ)). q k.epoch) kept.configs) ms) left1 ∙ with_left q kept.configs in1 same1

    abbrev out3 : List (ℤ × ℕ)
    out3 = with_made (filter (λ (k : Kept (ℕ × ℤ) Partition). q k.epoch) kept.partitions) (out2)

    left3 : out3 ≡ passes in3
    left3 = ap (λ (ms : List (ℤ × ℕ)). with_made (filter (λ (k : Kept (ℕ × ℤ) Partition). q k.epoch) kept.partitions) ms) left2 ∙ with_left q kept.partitions in2 same2

    abbrev out4 : List (ℤ × ℕ)
    out4 = with_made (filter (λ (k : Kept ℕ Topic). q k.epoch) kept.topics) (out3)

    left4 : out4 ≡ passes in4
    left4 = ap (λ (ms : List (ℤ × ℕ)). with_made (filter (λ (k : Kept ℕ Topic). q k.epoch) kept.topics) ms) left3 ∙ with_left q kept.topics in3 same3

    abbrev out5 : List (ℤ × ℕ)
    out5 = with_made (filter (λ (k : Kept (List ℕ) ℕ). q k.epoch) kept.names) (out4)

    left5 : out5 ≡ passes in5
    left5 = ap (λ (ms : List (ℤ × ℕ)). with_made (filter (λ (k : Kept (List ℕ) ℕ). q k.epoch) kept.names) ms) left4 ∙ with_left q kept.names in4 same4

    abbrev out6 : List (ℤ × ℕ)
    out6 = with_made (filter (λ (k : Kept ℤ Broker). q k.epoch) kept.brokers) (out5)

    left6 : out6 ≡ passes in6
    left6 = ap (λ (ms : List (ℤ × ℕ)). with_made (filter (λ (k : Kept ℤ Broker). q k.epoch) kept.brokers) ms) left5 ∙ with_left q kept.brokers in5 same5

    -- where the others are dropped
    pub made_left : (after : Keeps) → after.brokers ≡ filter (λ (k : Kept ℤ Broker). q k.epoch) kept.brokers → after.names ≡ filter (λ (k : Kept (List ℕ) ℕ). q k.epoch) kept.names → after.topics ≡ filter (λ (k : Kept ℕ Topic). q k.epoch) kept.topics → after.partitions ≡ filter (λ (k : Kept (ℕ × ℤ) Partition). q k.epoch) kept.partitions → after.configs ≡ filter (λ (k : Kept ConfigKey (List ℕ)). q k.epoch) kept.configs → after.features ≡ filter (λ (k : Kept (List ℕ) ℤ). q k.epoch) kept.features → made_in after left ≡ passes (made_in kept list)
    made_left after b n t p c f = rw (b, n, t, p, c, f) left6

    abbrev un1 : List (ℤ × ℕ)
    un1 = with_made (map_unmade (filter (λ (k : Kept (List ℕ) ℤ). q k.epoch) kept.features)) (none_made left)

    unmade1 : un1 ≡ oldest_unmade out1
    unmade1 = ap (λ (ms : List (ℤ × ℕ)). with_made (map_unmade (filter (λ (k : Kept (List ℕ) ℤ). q k.epoch) kept.features)) ms) (sym (none_unmade left)) ∙ with_unmade (filter (λ (k : Kept (List ℕ) ℤ). q k.epoch) kept.features) (none_made left)

    abbrev un2 : List (ℤ × ℕ)
    un2 = with_made (map_unmade (filter (λ (k : Kept ConfigKey (List ℕ)). q k.epoch) kept.configs)) (un1)

    unmade2 : un2 ≡ oldest_unmade out2
    unmade2 = ap (λ (ms : List (ℤ × ℕ)). with_made (map_unmade (filter (λ (k : Kept ConfigKey (List ℕ)). q k.epoch) kept.configs)) ms) unmade1 ∙ with_unmade (filter (λ (k : Kept ConfigKey (List ℕ)). q k.epoch) kept.configs) (out1)

    abbrev un3 : List (ℤ × ℕ)
    un3 = with_made (map_unmade (filter (λ (k : Kept (ℕ × ℤ) Partition). q k.epoch) kept.partitions)) (un2)

    unmade3 : un3 ≡ oldest_unmade out3
    unmade3 = ap (λ (ms : List (ℤ × ℕ)). with_made (map_unmade (filter (λ (k : Kept (ℕ × ℤ) Partition). q k.epoch) kept.partitions)) ms) unmade2 ∙ with_unmade (filter (λ (k : Kept (ℕ × ℤ) Partition). q k.epoch) kept.partitions) (out2)

    abbrev un4 : List (ℤ × ℕ)
    un4 = with_made (map_unmade (filter (λ (k : Kept ℕ Topic). q k.epoch) kept.topics)) (un3)

    unmade4 : un4 ≡ oldest_unmade out4
    unmade4 = ap (λ (ms : List (ℤ × ℕ)). with_made (map_unmade (filter (λ (k : Kept ℕ Topic). q k.epoch) kept.topics)) ms) unmade3 ∙ with_unmade (filter (λ (k : Kept ℕ Topic). q k.epoch) kept.topics) (out3)

    abbrev un5 : List (ℤ × ℕ)
    un5 = with_made (map_unmade (filter (λ (k : Kept (List ℕ) ℕ). q k.epoch) kept.names)) (un4)

    unmade5 : un5 ≡ oldest_unmade out5
    unmade5 = ap (λ (ms : List (ℤ × ℕ)). with_made (map_unmade (filter (λ (k : Kept (List ℕ) ℕ). q k.epoch) kept.names)) ms) unmade4 ∙ with_unmade (filter (λ (k : Kept (List ℕ) ℕ). q k.epoch) kept.names) (out4)

    abbrev un6 : List (ℤ × ℕ)
    un6 = with_made (map_unmade (filter (λ (k : Kept ℤ Broker). q k.epoch) kept.brokers)) (un5)

    unmade6 : un6 ≡ oldest_unmade out6
    unmade6 = ap (λ (ms : List (ℤ × ℕ)). with_made (map_unmade (filter (λ (k : Kept ℤ Broker). q k.epoch) kept.brokers)) ms) unmade5 ∙ with_unmade (filter (λ (k : Kept ℤ Broker). q k.epoch) kept.brokers) (out5)

    -- where the others are dropped, and no call counts for the oldest
    pub made_unmade : (after : Keeps) → after.brokers ≡ map_unmade (filter (λ (k : Kept ℤ Broker). q k.epoch) kept.brokers) → after.names ≡ map_unmade (filter (λ (k : Kept (List ℕ) ℕ). q k.epoch) kept.names) → after.topics ≡ map_unmade (filter (λ (k : Kept ℕ Topic). q k.epoch) kept.topics) → after.partitions ≡ map_unmade (filter (λ (k : Kept (ℕ × ℤ) Partition). q k.epoch) kept.partitions) → after.configs ≡ map_unmade (filter (λ (k : Kept ConfigKey (List ℕ)). q k.epoch) kept.configs) → after.features ≡ map_unmade (filter (λ (k : Kept (List ℕ) ℤ). q k.epoch) kept.features) → made_in after left ≡ oldest_unmade (passes (made_in kept list))
    made_unmade after b n t p c f = rw (b, n, t, p, c, f) (unmade6 ∙ ap (λ (ms : List (ℤ × ℕ)). oldest_unmade ms) left6)

    length1 : length (passes in1) ≡ length (passes in0)
    length1 = sym (length-map (passes in1) (λ (m : ℤ × ℕ). m.0)) ∙ (ap (λ (es : List ℤ). length es) (sym (filter_map_is (λ (m : ℤ × ℕ). m.0) q in1) ∙ (ap (filter q) (epochs1 ∙ sym epochs0) ∙ filter_map_is (λ (m : ℤ × ℕ). m.0) q in0)) ∙ length-map (passes in0) (λ (m : ℤ × ℕ). m.0))

    length2 : length (passes in2) ≡ length (passes in0)
    length2 = sym (length-map (passes in2) (λ (m : ℤ × ℕ). m.0)) ∙ (ap (λ (es : List ℤ). length es) (sym (filter_map_is (λ (m : ℤ × ℕ). m.0) q in2) ∙ (ap (filter q) (epochs2 ∙ sym epochs0) ∙ filter_map_is (λ (m : ℤ × ℕ). m.0) q in0)) ∙ length-map (passes in0) (λ (m : ℤ × ℕ). m.0))

    length3 : length (passes in3) ≡ length (passes in0)
    length3 = sym (length-map (passes in3) (λ (m : ℤ × ℕ). m.0)) ∙ (ap (λ (es : List ℤ). length es) (sym (filter_map_is (λ (m : ℤ × ℕ). m.0) q in3) ∙ (ap (filter q) (epochs3 ∙ sym epochs0) ∙ filter_map_is (λ (m : ℤ × ℕ). m.0) q in0)) ∙ length-map (passes in0) (λ (m : ℤ × ℕ). m.0))

    length4 : length (passes in4) ≡ length (passes in0)
    length4 = sym (length-map (passes in4) (λ (m : ℤ × ℕ). m.0)) ∙ (ap (λ (es : List ℤ). length es) (sym (filter_map_is (λ (m : ℤ × ℕ). m.0) q in4) ∙ (ap (filter q) (epochs4 ∙ sym epochs0) ∙ filter_map_is (λ (m : ℤ × ℕ). m.0) q in0)) ∙ length-map (passes in0) (λ (m : ℤ × ℕ). m.0))

    length5 : length (passes in5) ≡ length (passes in0)
    length5 = sym (length-map (passes in5) (λ (m : ℤ × ℕ). m.0)) ∙ (ap (λ (es : List ℤ). length es) (sym (filter_map_is (λ (m : ℤ × ℕ). m.0) q in5) ∙ (ap (filter q) (epochs5 ∙ sym epochs0) ∙ filter_map_is (λ (m : ℤ × ℕ). m.0) q in0)) ∙ length-map (passes in0) (λ (m : ℤ × ℕ). m.0))

    length6 : length (passes in6) ≡ length (passes in0)
    length6 = sym (length-map (passes in6) (λ (m : ℤ × ℕ). m.0)) ∙ (ap (λ (es : List ℤ). length es) (sym (filter_map_is (λ (m : ℤ × ℕ). m.0) q in6) ∙ (ap (filter q) (epochs6 ∙ sym epochs0) ∙ filter_map_is (λ (m : ℤ × ℕ). m.0) q in0)) ∙ length-map (passes in0) (λ (m : ℤ × ℕ). m.0))

  module _ (more : KeptCounts) (b : Kept ℤ Broker) (n : Kept (List ℕ) ℕ) (t : Kept ℕ Topic) (p : Kept (ℕ × ℤ) Partition) (c : Kept ConfigKey (List ℕ)) (f : Kept (List ℕ) ℤ) where
    abbrev count1 : ℕ
    count1 = f.made + 0

    abbrev push1 : List (ℤ × ℕ)
    push1 = with_made (kept.features ++ f ∷ []) (none_made (list ++ more ∷ []))

    pushed1 : push1 ≡ in1 ++ (more.epoch, count1) ∷ []
    pushed1 = ap (λ (ms : List (ℤ × ℕ)). with_made (kept.features ++ f ∷ []) ms) (map_push (λ (k : KeptCounts). (k.epoch, 0)) list more) ∙ with_push kept.features in0 f (more.epoch, 0) same0

    abbrev count2 : ℕ
    count2 = c.made + count1

    abbrev push2 : List (ℤ × ℕ)
    push2 = with_made (kept.configs ++ c ∷ []) (push1)

    pushed2 : push2 ≡ in2 ++ (more.epoch, count2) ∷ []
    pushed2 = ap (λ (ms : List (ℤ × ℕ)). with_made (kept.configs ++ c ∷ []) ms) (pushed1) ∙ with_push kept.configs in1 c (more.epoch, count1) same1

    abbrev count3 : ℕ
    count3 = p.made + count2

    abbrev push3 : List (ℤ × ℕ)
    push3 = with_made (kept.partitions ++ p ∷ []) (push2)

    pushed3 : push3 ≡ in3 ++ (more.epoch, count3) ∷ []
    pushed3 = ap (λ (ms : List (ℤ × ℕ)). with_made (kept.partitions ++ p ∷ []) ms) (pushed2) ∙ with_push kept.partitions in2 p (more.epoch, count2) same2

    abbrev count4 : ℕ
    count4 = t.made + count3

    abbrev push4 : List (ℤ × ℕ)
    push4 = with_made (kept.topics ++ t ∷ []) (push3)

    pushed4 : push4 ≡ in4 ++ (more.epoch, count4) ∷ []
    pushed4 = ap (λ (ms : List (ℤ × ℕ)). with_made (kept.topics ++ t ∷ []) ms) (pushed3) ∙ with_push kept.topics in3 t (more.epoch, count3) same3

    abbrev count5 : ℕ
    count5 = n.made + count4

    abbrev push5 : List (ℤ × ℕ)
    push5 = with_made (kept.names ++ n ∷ []) (push4)

    pushed5 : push5 ≡ in5 ++ (more.epoch, count5) ∷ []
    pushed5 = ap (λ (ms : List (ℤ × ℕ)). with_made (kept.names ++ n ∷ []) ms) (pushed4) ∙ with_push kept.names in4 n (more.epoch, count4) same4

    abbrev count6 : ℕ
    count6 = b.made + count5

    abbrev push6 : List (ℤ × ℕ)
    push6 = with_made (kept.brokers ++ b ∷ []) (push5)

    pushed6 : push6 ≡ in6 ++ (more.epoch, count6) ∷ []
    pushed6 = ap (λ (ms : List (ℤ × ℕ)). with_made (kept.brokers ++ b ∷ []) ms) (pushed5) ∙ with_push kept.brokers in5 b (more.epoch, count5) same5

    -- where one more is kept
    pub made_more : (after : Keeps) → after.brokers ≡ kept.brokers ++ b ∷ [] → after.names ≡ kept.names ++ n ∷ [] → after.topics ≡ kept.topics ++ t ∷ [] → after.partitions ≡ kept.partitions ++ p ∷ [] → after.configs ≡ kept.configs ++ c ∷ [] → after.features ≡ kept.features ++ f ∷ [] → made_in after (list ++ more ∷ []) ≡ made_in kept list ++ (more.epoch, b.made + n.made + t.made + p.made + c.made + f.made) ∷ []
    made_more after bs ns ts ps cs fs =
        let all : count6 ≡ b.made + n.made + t.made + p.made + c.made + f.made = omega arith in
        rw (bs, ns, ts, ps, cs, fs) (pushed6 ∙ ap (λ (z : ℕ). made_in kept list ++ (more.epoch, z) ∷ []) all)

  -- ---- bounds

  pub undone_all : (epoch : ℤ) → undone_of kept epoch ≡ calls_of (filter (λ (m : ℤ × ℕ). int_lt epoch m.0) (made_in kept list)) + 6 * length (filter (λ (m : ℤ × ℕ). int_lt epoch m.0) (made_in kept list))
  undone_all epoch =
      let q : ℤ → Bool = λ x. int_lt epoch x in
      let none : calls_of (filter (λ (m : ℤ × ℕ). int_lt epoch m.0) (in0)) ≡ 0 = none_calls (filter (λ (m : ℤ × ℕ). int_lt epoch m.0) (in0)) (filter (λ (k : KeptCounts). int_lt epoch k.epoch) list) (sym (none_left q list)) in
      omega (arith, none, undone_with kept.features in0 same0 epoch, undone_with kept.configs in1 same1 epoch, undone_with kept.partitions in2 same2 epoch, undone_with kept.topics in3 same3 epoch, undone_with kept.names in4 same4 epoch, undone_with kept.brokers in5 same5 epoch, length1 q, length2 q, length3 q, length4 q, length5 q, length6 q)

  pub above_all : (epoch : ℤ) → all_above kept epoch ≡ calls_of (filter (λ (m : ℤ × ℕ). int_lt epoch m.0) (made_in kept list))
  above_all epoch =
      let q : ℤ → Bool = λ x. int_lt epoch x in
      let none : calls_of (filter (λ (m : ℤ × ℕ). int_lt epoch m.0) (in0)) ≡ 0 = none_calls (filter (λ (m : ℤ × ℕ). int_lt epoch m.0) (in0)) (filter (λ (k : KeptCounts). int_lt epoch k.epoch) list) (sym (none_left q list)) in
      omega (arith, none, sum_passing kept.features in0 same0 q, sum_passing kept.configs in1 same1 q, sum_passing kept.partitions in2 same2 q, sum_passing kept.topics in3 same3 q, sum_passing kept.names in4 same4 q, sum_passing kept.brokers in5 same5 q)

  pub covered_all : (epoch : ℤ) → covered_of kept epoch ≡ calls_of (filter (λ (m : ℤ × ℕ). int_lt m.0 epoch) (made_in kept list)) + calls_of (take 1 (filter (λ (m : ℤ × ℕ). not (int_lt m.0 epoch)) (made_in kept list))) + 6 * length (filter (λ (m : ℤ × ℕ). int_lt m.0 epoch) (made_in kept list))
  covered_all epoch =
      let q : ℤ → Bool = λ x. int_lt x epoch in
      let none : calls_of (filter (λ (m : ℤ × ℕ). int_lt m.0 epoch) (in0)) ≡ 0 = none_calls (filter (λ (m : ℤ × ℕ). int_lt m.0 epoch) (in0)) (filter (λ (k : KeptCounts). int_lt k.epoch epoch) list) (sym (none_left q list)) in
      let none_from : calls_of (take 1 (filter (λ (m : ℤ × ℕ). not (int_lt m.0 epoch)) (in0))) ≡ 0 = none_first (λ x. not (int_lt x epoch)) list in
      omega (arith, none, none_from, covered_with kept.features in0 same0 epoch, covered_with kept.configs in1 same1 epoch, covered_with kept.partitions in2 same2 epoch, covered_with kept.topics in3 same3 epoch, covered_with kept.names in4 same4 epoch, covered_with kept.brokers in5 same5 epoch, length1 q, length2 q, length3 q, length4 q, length5 q, length6 q)

  pub length_above : (epoch : ℤ) → length (filter (λ (k : KeptCounts). int_lt epoch k.epoch) list) ≡ length (filter (λ (m : ℤ × ℕ). int_lt epoch m.0) (made_in kept list))
  length_above epoch = let q : ℤ → Bool = λ x. int_lt epoch x in none_length q list ∙ sym (length6 q)

  pub length_below : (epoch : ℤ) → length (filter (λ (k : KeptCounts). int_lt k.epoch epoch) list) ≡ length (filter (λ (m : ℤ × ℕ). int_lt m.0 epoch) (made_in kept list))
  length_below epoch = let q : ℤ → Bool = λ x. int_lt x epoch in none_length q list ∙ sym (length6 q)
