-- Versions of one key.
use Rattle.std.proofs.Common.{◌≡◌, ◌≤◌, ◌<◌, List, [], ◌∷◌, ◌++◌, Option, Some, None, Bool, true, false, cond, not, ◌&&◌, ℕ, ◌+◌, ◌-◌, length, refl, sym, ◌∙◌, ap, arith, suc, zero, nat_le, nat_eq, slice_get, get_or, drop, is_some}
use Rattle.std.specs.List.{AllByRecursion}
use Rattle.std.specs.Bool.{OnTrue, OnFalse}
use Rattle.std.specs.Option.{option_to_list}
use Rattle.std.proofs.lemmas.Bool.{or_left, or_right, leb-true, leb-false, OnTrue_from, OnFalse_from}
use Rattle.std.proofs.lemmas.Option.{slice_get_read}
use Rattle.kr_defs.proofs.Tests.{some_is}
use Rattle.kr_timeline.specs.Chains.{value_at, is_written, written, Falls, IsTidy, is_above, cut, settled, EndsCovered, EndsOpen, is_left, newer, is_gone, without_gone}
use Rattle.kr_timeline.proofs.Bools.{or_either}

module _ {V : Type 0} where
  -- ---- lists of versions

  pub each : (P Q : ℕ × Option V → Type 0) (chain : List (ℕ × Option V)) → ((v : ℕ × Option V) → P v → Q v) → AllByRecursion P chain → AllByRecursion Q chain
  each P Q [] h a = tt
  each P Q (v ∷ older) h a = (h v a.0, each P Q older h a.1)

  pub both_each : (P Q R : ℕ × Option V → Type 0) (chain : List (ℕ × Option V)) → ((v : ℕ × Option V) → P v → Q v → R v) → AllByRecursion P chain → AllByRecursion Q chain → AllByRecursion R chain
  both_each P Q R [] h a b = tt
  both_each P Q R (v ∷ older) h a b = (h v a.0 b.0, both_each P Q R older h a.1 b.1)

  -- of what is left of a chain, where something is
  abbrev pub OfLeft : (List (ℕ × Option V) → Type 0) → List (ℕ × Option V) → Type 0
  OfLeft P [] = Unit
  OfLeft P (v ∷ older) = P (v ∷ older)

  pub of_left : (P : List (ℕ × Option V) → Type 0) (chain : List (ℕ × Option V)) → P chain → OfLeft P chain
  of_left P [] p = tt
  of_left P (v ∷ older) p = p

  tidy_first : (listed : ℕ → Bool) (v : ℕ × Option V) (left : List (ℕ × Option V)) → listed v.0 ≡ true → OfLeft (IsTidy listed) left → IsTidy listed (v ∷ left)
  tidy_first listed v [] here a = or_left (listed v.0) (is_some v.1) here
  tidy_first listed v (w ∷ older) here a = (here, a)

  -- the tests may differ where no version is
  pub tidy_by : (P : ℕ → Type 0) (listed later : ℕ → Bool) (chain : List (ℕ × Option V)) → ((n : ℕ) → P n → listed n ≡ true → later n ≡ true) → AllByRecursion (λ (v : ℕ × Option V). P v.0) chain → IsTidy listed chain → IsTidy later chain
  tidy_by P listed later [] h a t = t
  tidy_by P listed later (v ∷ []) h a t = or_either (listed v.0) (is_some v.1) t (λ l. or_left (later v.0) (is_some v.1) (h v.0 a.0 l)) (λ s. or_right (later v.0) (is_some v.1) s)
  tidy_by P listed later (v ∷ w ∷ older) h a t = (h v.0 a.0 t.0, tidy_by P listed later (w ∷ older) h a.1 t.1)

  all_unit : (chain : List (ℕ × Option V)) → AllByRecursion (λ (v : ℕ × Option V). Unit {0}) chain
  all_unit [] = tt
  all_unit (v ∷ older) = (tt, all_unit older)

  pub tidy_map : (listed later : ℕ → Bool) (chain : List (ℕ × Option V)) → ((n : ℕ) → listed n ≡ true → later n ≡ true) → IsTidy listed chain → IsTidy later chain
  tidy_map listed later chain h t = tidy_by (λ n. Unit {0}) listed later chain (λ n u l. h n l) (all_unit chain) t

  -- ---- a cut

  pub cut-first : (number : ℕ) (chain : List (ℕ × Option V)) → is_above number chain ≡ false → cut number chain ≡ chain
  cut-first number [] h = refl
  cut-first number (v ∷ older) h = elim (nat_le v.0 number) as (λ b. not b ≡ false → cond b (v ∷ older) (cut number older) ≡ v ∷ older) [ true ↦ λ e. refl | false ↦ λ e. cc ] h

  pub cut-rest : (number : ℕ) (chain : List (ℕ × Option V)) → is_above number chain ≡ true → cut number (drop 1 chain) ≡ cut number chain
  cut-rest number [] h = refl
  cut-rest number (v ∷ older) h = elim (nat_le v.0 number) as (λ b. not b ≡ true → cut number older ≡ cond b (v ∷ older) (cut number older)) [ true ↦ λ e. cc | false ↦ λ e. refl ] h

  pub same-cut : (number m : ℕ) (chain : List (ℕ × Option V)) → m ≤ number → value_at m (cut number chain) ≡ value_at m chain
  same-cut number m [] le = refl
  same-cut number m (v ∷ older) le = elim (nat_le v.0 number) as (λ b. nat_le v.0 number ≡ b → value_at m (cond b (v ∷ older) (cut number older)) ≡ cond (nat_le v.0 m) v.1 (value_at m older)) [
    | true ↦ λ is. refl
    | false ↦ λ is. let above : nat_le v.0 m ≡ false = grind arith in same-cut number m older le ∙ sym (ap (λ b. cond b v.1 (value_at m older)) above)
  ] refl

  pub all-cut : (P : ℕ × Option V → Type 0) (number : ℕ) (chain : List (ℕ × Option V)) → AllByRecursion P chain → AllByRecursion P (cut number chain)
  all-cut P number [] a = tt
  all-cut P number (v ∷ older) a = elim (nat_le v.0 number) as (λ b. AllByRecursion P (cond b (v ∷ older) (cut number older))) [ true ↦ a | false ↦ all-cut P number older a.1 ]

  pub falls-cut : (number : ℕ) (chain : List (ℕ × Option V)) → Falls chain → Falls (cut number chain)
  falls-cut number [] a = tt
  falls-cut number (v ∷ older) a = elim (nat_le v.0 number) as (λ b. Falls (cond b (v ∷ older) (cut number older))) [ true ↦ a | false ↦ falls-cut number older a.1 ]

  -- none of its versions is above the number
  pub low-cut : (number : ℕ) (chain : List (ℕ × Option V)) → Falls chain → AllByRecursion (λ (w : ℕ × Option V). nat_le w.0 number ≡ true) (cut number chain)
  low-cut number [] a = tt
  low-cut number (v ∷ older) a = elim (nat_le v.0 number) as (λ b. nat_le v.0 number ≡ b → AllByRecursion (λ (w : ℕ × Option V). nat_le w.0 number ≡ true) (cond b (v ∷ older) (cut number older))) [
    | true ↦ λ is. (is, each (λ (w : ℕ × Option V). w.0 < v.0) (λ (w : ℕ × Option V). nat_le w.0 number ≡ true) older (λ w lt. grind arith) a.0)
    | false ↦ λ is. low-cut number older a.1
  ] refl

  tidy-cut_rest : (listed : ℕ → Bool) (number : ℕ) (v : ℕ × Option V) (older : List (ℕ × Option V)) → IsTidy listed (v ∷ older) → OfLeft (IsTidy listed) (cut number (v ∷ older))
  tidy-cut_rest listed number v [] t = elim (nat_le v.0 number) as (λ b. OfLeft (IsTidy listed) (cond b (v ∷ []) [])) [ true ↦ t | false ↦ tt ]
  tidy-cut_rest listed number v (w ∷ older) t = elim (nat_le v.0 number) as (λ b. OfLeft (IsTidy listed) (cond b (v ∷ w ∷ older) (cut number (w ∷ older)))) [ true ↦ t | false ↦ tidy-cut_rest listed number w older t.1 ]

  pub tidy-cut : (listed : ℕ → Bool) (number : ℕ) (chain : List (ℕ × Option V)) → IsTidy listed chain → OfLeft (IsTidy listed) (cut number chain)
  tidy-cut listed number [] t = absurd t
  tidy-cut listed number (v ∷ older) t = tidy-cut_rest listed number v older t

  -- ---- a settled chain

  pub same-settled : (number m : ℕ) (chain : List (ℕ × Option V)) → number ≤ m → value_at m (settled number chain) ≡ value_at m chain
  same-settled number m [] le = refl
  same-settled number m (v ∷ older) le = elim (nat_le v.0 number) as (λ b. nat_le v.0 number ≡ b → value_at m (cond b (cond (is_some v.1) (v ∷ []) []) (v ∷ settled number older)) ≡ cond (nat_le v.0 m) v.1 (value_at m older)) [
    | true ↦ λ is.
        let low : nat_le v.0 m ≡ true = grind arith in
        elim v.1 as (λ (x : Option V). value_at m (cond (is_some x) ((v.0, x) ∷ []) []) ≡ cond (nat_le v.0 m) x (value_at m older)) [
          | None ↦ sym (ap (λ b. cond b None (value_at m older)) low)
          | Some value ↦ ap (λ b. cond b (Some value) None) low ∙ sym (ap (λ b. cond b (Some value) (value_at m older)) low)
        ]
    | false ↦ λ is. ap (λ (x : Option V). cond (nat_le v.0 m) v.1 x) (same-settled number m older le)
  ] refl

  pub all-settled : (P : ℕ × Option V → Type 0) (number : ℕ) (chain : List (ℕ × Option V)) → AllByRecursion P chain → AllByRecursion P (settled number chain)
  all-settled P number [] a = tt
  all-settled P number (v ∷ older) a = elim (nat_le v.0 number) as (λ b. AllByRecursion P (cond b (cond (is_some v.1) (v ∷ []) []) (v ∷ settled number older))) [
    | true ↦ elim (is_some v.1) as (λ b. AllByRecursion P (cond b (v ∷ []) [])) [ true ↦ (a.0, tt) | false ↦ tt ]
    | false ↦ (a.0, all-settled P number older a.1)
  ]

  pub falls-settled : (number : ℕ) (chain : List (ℕ × Option V)) → Falls chain → Falls (settled number chain)
  falls-settled number [] a = tt
  falls-settled number (v ∷ older) a = elim (nat_le v.0 number) as (λ b. Falls (cond b (cond (is_some v.1) (v ∷ []) []) (v ∷ settled number older))) [
    | true ↦ elim (is_some v.1) as (λ b. Falls (cond b (v ∷ []) [])) [ true ↦ (tt, tt) | false ↦ tt ]
    | false ↦ (all-settled (λ (w : ℕ × Option V). w.0 < v.0) number older a.0, falls-settled number older a.1)
  ]

  tidy_last : (later : ℕ → Bool) (v : ℕ × Option V) → OfLeft (IsTidy later) (cond (is_some v.1) (v ∷ []) [])
  tidy_last later v = elim (is_some v.1) as (λ b. is_some v.1 ≡ b → OfLeft (IsTidy later) (cond b (v ∷ []) [])) [ true ↦ λ is. or_right (later v.0) (is_some v.1) is | false ↦ λ is. tt ] refl

  tidy-settled_rest : (listed later : ℕ → Bool) (number : ℕ) (v : ℕ × Option V) (older : List (ℕ × Option V)) → ((n : ℕ) → nat_le n number ≡ false → listed n ≡ true → later n ≡ true) → IsTidy listed (v ∷ older) → OfLeft (IsTidy later) (settled number (v ∷ older))
  tidy-settled_rest listed later number v [] h t = elim (nat_le v.0 number) as (λ b. nat_le v.0 number ≡ b → OfLeft (IsTidy later) (cond b (cond (is_some v.1) (v ∷ []) []) (v ∷ []))) [
    | true ↦ λ is. tidy_last later v
    | false ↦ λ is. or_either (listed v.0) (is_some v.1) t (λ l. or_left (later v.0) (is_some v.1) (h v.0 is l)) (λ s. or_right (later v.0) (is_some v.1) s)
  ] refl
  tidy-settled_rest listed later number v (w ∷ older) h t = elim (nat_le v.0 number) as (λ b. nat_le v.0 number ≡ b → OfLeft (IsTidy later) (cond b (cond (is_some v.1) (v ∷ []) []) (v ∷ settled number (w ∷ older)))) [
    | true ↦ λ is. tidy_last later v
    | false ↦ λ is. tidy_first later v (settled number (w ∷ older)) (h v.0 is t.0) (tidy-settled_rest listed later number w older h t.1)
  ] refl

  -- what is listed at the number or before it needn't be
  pub tidy-settled : (listed later : ℕ → Bool) (number : ℕ) (chain : List (ℕ × Option V)) → ((n : ℕ) → nat_le n number ≡ false → listed n ≡ true → later n ≡ true) → IsTidy listed chain → OfLeft (IsTidy later) (settled number chain)
  tidy-settled listed later number [] h t = absurd t
  tidy-settled listed later number (v ∷ older) h t = tidy-settled_rest listed later number v older h t

  -- ---- how a chain is settled, from its end on

  newer-push : (v : ℕ × Option V) (older : List (ℕ × Option V)) (last : ℕ × Option V) → newer (v ∷ (older ++ last ∷ [])) ≡ v ∷ older
  newer-push v [] last = refl
  newer-push v (w ∷ older) last = ap (λ (rest : List (ℕ × Option V)). v ∷ rest) (newer-push w older last)

  all-newer : (P : ℕ × Option V → Type 0) (chain : List (ℕ × Option V)) → AllByRecursion P chain → AllByRecursion P (newer chain)
  all-newer P [] a = tt
  all-newer P (v ∷ []) a = tt
  all-newer P (v ∷ w ∷ older) a = (a.0, all-newer P (w ∷ older) a.1)

  pub falls-newer : (chain : List (ℕ × Option V)) → Falls chain → Falls (newer chain)
  falls-newer [] a = tt
  falls-newer (v ∷ []) a = tt
  falls-newer (v ∷ w ∷ older) a = (all-newer (λ (u : ℕ × Option V). u.0 < v.0) (w ∷ older) a.0, falls-newer (w ∷ older) a.1)

  -- nothing that is left stands behind a version up to the number
  settled-newer : (number : ℕ) (chain : List (ℕ × Option V)) (place : ℕ) (cover : ℕ × Option V) → slice_get chain place ≡ Some cover → length chain ≡ place + 2 → cover.0 ≤ number → settled number (newer chain) ≡ settled number chain
  settled-newer number [] place cover at last le = refl
  settled-newer number (v ∷ []) place cover at last le = absurd (omega arith)
  settled-newer number (v ∷ w ∷ []) zero cover at last le =
      let is : v ≡ cover = cc in
      let low : v.0 ≤ number = rw is le in
      let here : nat_le v.0 number ≡ true = grind arith in
      ap (λ b. cond b (cond (is_some v.1) (v ∷ []) []) (v ∷ [])) here ∙ sym (ap (λ b. cond b (cond (is_some v.1) (v ∷ []) []) (v ∷ settled number (w ∷ []))) here)
  settled-newer number (v ∷ w ∷ []) (suc place) cover at last le = absurd (omega arith)
  settled-newer number (v ∷ w ∷ u ∷ older) zero cover at last le = absurd (omega arith)
  settled-newer number (v ∷ w ∷ u ∷ older) (suc place) cover at last le =
      let rest : settled number (newer (w ∷ u ∷ older)) ≡ settled number (w ∷ u ∷ older) = settled-newer number (w ∷ u ∷ older) place cover at (omega arith) le in
      ap (λ (left : List (ℕ × Option V)). cond (nat_le v.0 number) (cond (is_some v.1) (v ∷ []) []) (v ∷ left)) rest

  pub settled_covered : (number : ℕ) (chain : List (ℕ × Option V)) → EndsCovered number chain → settled number (newer chain) ≡ settled number chain
  settled_covered number chain c = settled-newer number chain c.place c.cover c.at c.last c.up_to

  open_rest : (number : ℕ) (v : ℕ × Option V) (older : List (ℕ × Option V)) → EndsOpen number (v ∷ older) → EndsOpen number older
  open_rest number v older o = record { above = λ place u len at. o.above (suc place) u (omega arith) at }

  settled-open : (number : ℕ) (chain : List (ℕ × Option V)) → AllByRecursion (λ (v : ℕ × Option V). number < v.0) (newer chain) → settled number chain ≡ without_gone number chain
  settled-open number [] a = refl
  settled-open number (v ∷ []) a = elim (nat_le v.0 number) as (λ b. cond b (cond (is_some v.1) (v ∷ []) []) (v ∷ []) ≡ cond (b && not (is_some v.1)) [] (v ∷ [])) [
    | true ↦ elim (is_some v.1) as (λ b. cond b (v ∷ []) [] ≡ cond (not b) [] (v ∷ [])) [ true ↦ refl | false ↦ refl ]
    | false ↦ refl
  ]
  settled-open number (v ∷ w ∷ older) a =
      let lt : number < v.0 = a.0 in
      let above : nat_le v.0 number ≡ false = grind arith in
      ap (λ b. cond b (cond (is_some v.1) (v ∷ []) []) (v ∷ settled number (w ∷ older))) above
      ∙ ap (λ (rest : List (ℕ × Option V)). v ∷ rest) (settled-open number (w ∷ older) a.1)
      ∙ elim (is_gone number (w ∷ older)) as (λ b. v ∷ cond b (newer (w ∷ older)) (w ∷ older) ≡ cond b (v ∷ newer (w ∷ older)) (v ∷ w ∷ older)) [ true ↦ refl | false ↦ refl ]

  above_newer : (number : ℕ) (chain : List (ℕ × Option V)) → Falls chain → EndsOpen number chain → AllByRecursion (λ (v : ℕ × Option V). number < v.0) (newer chain)
  above_newer number [] f o = tt
  above_newer number (v ∷ []) f o = tt
  above_newer number (v ∷ w ∷ []) f o = (o.above 0 v refl refl, tt)
  above_newer number (v ∷ w ∷ u ∷ older) f o =
      let rest : AllByRecursion (λ (x : ℕ × Option V). number < x.0) (newer (w ∷ u ∷ older)) = above_newer number (w ∷ u ∷ older) f.1 (open_rest number v (w ∷ u ∷ older) o) in
      let next : number < w.0 = rest.0 in
      let first : w.0 < v.0 = f.0.0 in
      (omega arith, rest)

  pub settled_open : (number : ℕ) (chain : List (ℕ × Option V)) → Falls chain → EndsOpen number chain → settled number chain ≡ without_gone number chain
  settled_open number chain f o = settled-open number chain (above_newer number chain f o)

  gone-at : (number : ℕ) (v : ℕ × Option V) (older : List (ℕ × Option V)) (place : ℕ) (last : ℕ × Option V) → slice_get older place ≡ Some last → length older ≡ suc place → is_gone number (v ∷ older) ≡ nat_le last.0 number && not (is_some last.1)
  gone-at number v [] place last at len = absurd cc
  gone-at number v (w ∷ []) zero last at len = let is : w ≡ last = cc in ap (λ (u : ℕ × Option V). nat_le u.0 number && not (is_some u.1)) is
  gone-at number v (w ∷ []) (suc place) last at len = absurd (omega arith)
  gone-at number v (w ∷ u ∷ older) zero last at len = absurd (omega arith)
  gone-at number v (w ∷ u ∷ older) (suc place) last at len = gone-at number w (u ∷ older) place last at (omega arith)

  pub gone_at : (number : ℕ) (v : ℕ × Option V) (older : List (ℕ × Option V)) (count : ℕ) (last : ℕ × Option V) → length older ≡ count → 0 < count → last ≡ get_or older (count - 1) last → is_gone number (v ∷ older) ≡ nat_le last.0 number && not (is_some last.1)
  gone_at number v older count last len some is = gone-at number v older (count - 1) last (slice_get_read older count (count - 1) last (sym len) (omega arith) is) (omega arith)

  -- ---- by what a deque answers

  pub covered_one : (number : ℕ) (v : ℕ × Option V) (older : List (ℕ × Option V)) (answer : Bool) → length older ≡ 1 → answer ≡ nat_le v.0 number → OnTrue answer (EndsCovered number (v ∷ older))
  covered_one number v older answer len is = OnTrue_from answer (EndsCovered number (v ∷ older)) (λ holds. let le : v.0 ≤ number = leb-true v.0 number (sym is ∙ holds) in record { place = 0; cover = v; at = refl; last = omega arith; up_to = le })

  module _ (number : ℕ) (v : ℕ × Option V) (older : List (ℕ × Option V)) (count : ℕ) (w : ℕ × Option V) (answer : Bool) (len : length older ≡ count) (two : 2 ≤ count) (at : w ≡ get_or older (count - 2) w) (is : answer ≡ nat_le w.0 number) where
    there : slice_get older (count - 2) ≡ Some w
    there = slice_get_read older count (count - 2) w (sym len) (omega arith) at

    pub covered_at : OnTrue answer (EndsCovered number (v ∷ older))
    covered_at = OnTrue_from answer (EndsCovered number (v ∷ older)) (λ holds. record { place = suc (count - 2); cover = w; at = there; last = omega arith; up_to = leb-true w.0 number (sym is ∙ holds) })

    pub open_at : OnFalse answer (EndsOpen number (v ∷ older))
    open_at = OnFalse_from answer (EndsOpen number (v ∷ older)) (λ fails. record {
      above = λ place u last found.
          let here : place ≡ suc (count - 2) = omega arith in
          let same : w ≡ u = some_is w u (sym there ∙ sym (ap (slice_get (v ∷ older)) here) ∙ found) in
          let lt : number < w.0 = leb-false w.0 number (sym is ∙ fails) in
          rw (← same) lt;
    })

  pub newer_popped : (v : ℕ × Option V) (older left : List (ℕ × Option V)) (last : Option (ℕ × Option V)) (answer : Bool) → older ≡ left ++ option_to_list last → answer ≡ is_some last → OnTrue answer (v ∷ left ≡ newer (v ∷ older))
  newer_popped v older left None answer is told = OnTrue_from answer (v ∷ left ≡ newer (v ∷ older)) (λ holds. absurd cc)
  newer_popped v older left (Some last) answer is told = OnTrue_from answer (v ∷ left ≡ newer (v ∷ older)) (λ holds. sym (ap (λ (vs : List (ℕ × Option V)). newer (v ∷ vs)) is ∙ newer-push v left last))

  left-covered : (number : ℕ) (chain : List (ℕ × Option V)) (place : ℕ) → length chain ≡ place + 2 → is_left (newer chain) ≡ true
  left-covered number [] place len = absurd (omega arith)
  left-covered number (v ∷ []) place len = absurd (omega arith)
  left-covered number (v ∷ w ∷ older) place len = refl

  pub left_covered : (number : ℕ) (chain : List (ℕ × Option V)) → EndsCovered number chain → is_left (newer chain) ≡ true
  left_covered number chain c = left-covered number chain c.place c.last

  newer_shorter : (chain : List (ℕ × Option V)) → 0 < length chain → length (newer chain) < length chain
  newer_shorter [] lt = absurd (omega arith)
  newer_shorter (v ∷ []) lt = omega arith
  newer_shorter (v ∷ w ∷ older) lt = let rest : length (newer (w ∷ older)) < length (w ∷ older) = newer_shorter (w ∷ older) (omega arith) in omega (arith, rest)

  pub shorter_covered : (number : ℕ) (chain : List (ℕ × Option V)) → EndsCovered number chain → length (newer chain) < length chain
  shorter_covered number chain c = newer_shorter chain (omega (arith, c.last))

  -- ---- a chain with a newest version

  pub present-written : (number : ℕ) (value : Option V) (chain : List (ℕ × Option V)) → value_at number (written number value chain) ≡ value
  present-written number value [] = let here : nat_le number number ≡ true = grind arith in ap (λ b. cond b value None) here
  present-written number value (v ∷ older) = let here : nat_le number number ≡ true = grind arith in
      elim (nat_eq v.0 number) as (λ b. value_at number (cond b ((number, value) ∷ older) ((number, value) ∷ v ∷ older)) ≡ value) [
        | true ↦ ap (λ b. cond b value (value_at number older)) here
        | false ↦ ap (λ b. cond b value (value_at number (v ∷ older))) here
      ]

  pub same-written : (number m : ℕ) (value : Option V) (chain : List (ℕ × Option V)) → m < number → value_at m (written number value chain) ≡ value_at m chain
  same-written number m value [] lt = let here : nat_le number m ≡ false = grind arith in ap (λ b. cond b value None) here
  same-written number m value (v ∷ older) lt = let here : nat_le number m ≡ false = grind arith in
      elim (nat_eq v.0 number) as (λ b. nat_eq v.0 number ≡ b → value_at m (cond b ((number, value) ∷ older) ((number, value) ∷ v ∷ older)) ≡ cond (nat_le v.0 m) v.1 (value_at m older)) [
        | true ↦ λ is. let there : nat_le v.0 m ≡ false = grind arith in ap (λ b. cond b value (value_at m older)) here ∙ sym (ap (λ b. cond b v.1 (value_at m older)) there)
        | false ↦ λ is. ap (λ b. cond b value (value_at m (v ∷ older))) here
      ] refl

  pub all-written : (P : ℕ × Option V → Type 0) (number : ℕ) (value : Option V) (chain : List (ℕ × Option V)) → P (number, value) → AllByRecursion P chain → AllByRecursion P (written number value chain)
  all-written P number value [] h a = (h, tt)
  all-written P number value (v ∷ older) h a = elim (nat_eq v.0 number) as (λ b. AllByRecursion P (cond b ((number, value) ∷ older) ((number, value) ∷ v ∷ older))) [ true ↦ (h, a.1) | false ↦ (h, a) ]

  pub falls-written : (number : ℕ) (value : Option V) (chain : List (ℕ × Option V)) → AllByRecursion (λ (w : ℕ × Option V). nat_le w.0 number ≡ true) chain → Falls chain → Falls (written number value chain)
  falls-written number value [] a f = (tt, tt)
  falls-written number value (v ∷ older) a f = elim (nat_eq v.0 number) as (λ b. nat_eq v.0 number ≡ b → Falls (cond b ((number, value) ∷ older) ((number, value) ∷ v ∷ older))) [
    | true ↦ λ is. (each (λ (w : ℕ × Option V). w.0 < v.0) (λ (w : ℕ × Option V). w.0 < number) older (λ w lt. grind arith) f.0, f.1)
    | false ↦ λ is.
        let le : nat_le v.0 number ≡ true = a.0 in
        let lt : v.0 < number = grind arith in
        ((lt, each (λ (w : ℕ × Option V). w.0 < v.0) (λ (w : ℕ × Option V). w.0 < number) older (λ w h. omega arith) f.0), f)
  ] refl

  pub all-again : (P : ℕ → Bool) (number : ℕ) (value : Option V) (chain : List (ℕ × Option V)) → is_written number chain ≡ true → AllByRecursion (λ (v : ℕ × Option V). P v.0 ≡ true) chain → AllByRecursion (λ (v : ℕ × Option V). P v.0 ≡ true) (written number value chain)
  all-again P number value [] h a = cc
  all-again P number value (v ∷ older) h a =
      let same : v.0 ≡ number = grind arith in
      elim (nat_eq v.0 number) as (λ b. AllByRecursion (λ (w : ℕ × Option V). P w.0 ≡ true) (cond b ((number, value) ∷ older) ((number, value) ∷ v ∷ older))) [ true ↦ (ap P (sym same) ∙ a.0, a.1) | false ↦ (ap P (sym same) ∙ a.0, a) ]

  tidy_rest : (listed : ℕ → Bool) (v : ℕ × Option V) (older : List (ℕ × Option V)) → IsTidy listed (v ∷ older) → OfLeft (IsTidy listed) older
  tidy_rest listed v [] t = tt
  tidy_rest listed v (w ∷ older) t = t.1

  -- the new version is listed
  pub tidy-written : (listed : ℕ → Bool) (number : ℕ) (value : Option V) (chain : List (ℕ × Option V)) → listed number ≡ true → OfLeft (IsTidy listed) chain → IsTidy listed (written number value chain)
  tidy-written listed number value [] here t = or_left (listed number) (is_some value) here
  tidy-written listed number value (v ∷ older) here t = elim (nat_eq v.0 number) as (λ b. IsTidy listed (cond b ((number, value) ∷ older) ((number, value) ∷ v ∷ older))) [
    | true ↦ tidy_first listed (number, value) older here (tidy_rest listed v older t)
    | false ↦ (here, t)
  ]
