-- Versions of a key are dropped, and the key where none is left.
use Rattle.std.proofs.Common.{◌≡◌, ◌≤◌, List, [], ◌∷◌, Option, Some, None, Bool, true, false, cond, ℕ, ◌+◌, ◌<◌, length, get_or, drop, refl, sym, ◌∙◌, ap, arith, nat_le, nat_eq, ◌||◌, ◌&&◌}
use Rattle.std.specs.List.{AllByRecursion}
use Rattle.std.specs.List.Sorted.{IsStrictlySortedBy}
use Rattle.std.specs.declared.cmp.Ordering.{Ordering}
use Rattle.std.specs.declared.cmp.Ordering.TheVariants.{Less}
use Rattle.std.specs.Ordering.{is_eq}
use Rattle.std.specs.Cmp.{IsTotalOrder}
use Rattle.std.specs.Map.{keys_of, lookup, set_value, remove_entry}
use Rattle.std.specs.BTreeMap.{is_at}
use Rattle.std.proofs.lemmas.Bool.{or_left, or_right}
use Rattle.std.proofs.lemmas.List.{drop_more}
use Rattle.kr_defs.specs.Map.{IsMap}
use Rattle.kr_timeline.specs.Chains.{value_at, Falls, IsTidy, cut, settled, left_of, is_left, is_listed, standing, map_of, Versions, AreFalling, AreTidy, remaining, trimmed, all_trimmed}
use Rattle.kr_timeline.specs.Intervals.{is_any, cut_back}
use Rattle.kr_timeline.specs.declared.chain.Trim.{Trim}
use Rattle.kr_timeline.specs.declared.chain.Trim.TheVariants as trims
use Rattle.kr_timeline.specs.declared.intervals.Interval.{Interval}
use Rattle.kr_timeline.proofs.Bools.{or_either, and_first, or_assoc, or_swap}
use Rattle.kr_timeline.proofs.Versions.{each, both_each, OfLeft, of_left, tidy_by, tidy_map, same-cut, all-cut, falls-cut, low-cut, tidy-cut, same-settled, all-settled, falls-settled, tidy-settled}
use Rattle.kr_timeline.proofs.Entries.{IsOne, all-past, all_both, one}

falls_left : {V : Type 0} (trim : Trim) (number : ℕ) (chain : List (ℕ × Option V)) → Falls chain → Falls (left_of trim number chain)
falls_left trims.Above number chain f = falls-cut number chain f
falls_left trims.Below number chain f = falls-settled number chain f

module _ {K V : Type 0} where
  -- ---- the entry by the map's calls

  trim_none : (test : K → Bool) (left : List (ℕ × Option V) → List (ℕ × Option V)) (es : List (K × List (ℕ × Option V))) → lookup test es ≡ None → trimmed test left es ≡ es
  trim_none test left [] h = refl
  trim_none test left (e ∷ es) h = elim (test e.0) as (λ b. cond b (Some e.1) (lookup test es) ≡ None → cond b (remaining e.0 (left e.1) es) (e ∷ trimmed test left es) ≡ e ∷ es) [
    | true ↦ λ is. cc
    | false ↦ λ is. ap (λ (rest : List (K × List (ℕ × Option V))). e ∷ rest) (trim_none test left es is)
  ] h

  pub remaining_some : (key : K) (left : List (ℕ × Option V)) (rest : List (K × List (ℕ × Option V))) → is_left left ≡ true → remaining key left rest ≡ (key, left) ∷ rest
  remaining_some key [] rest h = absurd cc
  remaining_some key (v ∷ older) rest h = refl

  remaining_none : (key : K) (left : List (ℕ × Option V)) (rest : List (K × List (ℕ × Option V))) → is_left left ≡ false → remaining key left rest ≡ rest
  remaining_none key [] rest h = refl
  remaining_none key (v ∷ older) rest h = absurd cc

  trim_set : (test : K → Bool) (left : List (ℕ × Option V) → List (ℕ × Option V)) (chain : List (ℕ × Option V)) (es : List (K × List (ℕ × Option V))) → lookup test es ≡ Some chain → is_left (left chain) ≡ true → trimmed test left es ≡ set_value test es (left chain)
  trim_set test left chain [] h some = refl
  trim_set test left chain (e ∷ es) h some = elim (test e.0) as (λ b. cond b (Some e.1) (lookup test es) ≡ Some chain → cond b (remaining e.0 (left e.1) es) (e ∷ trimmed test left es) ≡ cond b ((e.0, left chain) ∷ es) (e ∷ set_value test es (left chain))) [
    | true ↦ λ is. let here : e.1 ≡ chain = cc in ap (λ (c : List (ℕ × Option V)). remaining e.0 (left c) es) here ∙ remaining_some e.0 (left chain) es some
    | false ↦ λ is. ap (λ (rest : List (K × List (ℕ × Option V))). e ∷ rest) (trim_set test left chain es is some)
  ] h

  trim_out : (test : K → Bool) (left : List (ℕ × Option V) → List (ℕ × Option V)) (chain : List (ℕ × Option V)) (es : List (K × List (ℕ × Option V))) → lookup test es ≡ Some chain → is_left (left chain) ≡ false → trimmed test left es ≡ remove_entry test es
  trim_out test left chain [] h none = refl
  trim_out test left chain (e ∷ es) h none = elim (test e.0) as (λ b. cond b (Some e.1) (lookup test es) ≡ Some chain → cond b (remaining e.0 (left e.1) es) (e ∷ trimmed test left es) ≡ cond b es (e ∷ remove_entry test es)) [
    | true ↦ λ is. let here : e.1 ≡ chain = cc in ap (λ (c : List (ℕ × Option V)). remaining e.0 (left c) es) here ∙ remaining_none e.0 (left chain) es none
    | false ↦ λ is. ap (λ (rest : List (K × List (ℕ × Option V))). e ∷ rest) (trim_out test left chain es is none)
  ] h

  module _ (test : K → Bool) (left : List (ℕ × Option V) → List (ℕ × Option V)) (es after : List (K × List (ℕ × Option V))) (answer : Bool) where
    pub trim_left : (lookup test es ≡ None → after ≡ es) → ((chain : List (ℕ × Option V)) → lookup test es ≡ Some chain → answer ≡ is_left (left chain)) → ((chain : List (ℕ × Option V)) → lookup test es ≡ Some chain → after ≡ set_value test es (left chain)) → answer ≡ true → after ≡ trimmed test left es
    trim_left absent told present holds = elim (lookup test es) as (λ x. lookup test es ≡ x → after ≡ trimmed test left es) [
      | None ↦ λ is. absent is ∙ sym (trim_none test left es is)
      | Some chain ↦ λ is. present chain is ∙ sym (trim_set test left chain es is (sym (told chain is) ∙ holds))
    ] refl

    pub trim_gone : (lookup test es ≡ None → answer ≡ true) → ((chain : List (ℕ × Option V)) → lookup test es ≡ Some chain → answer ≡ is_left (left chain)) → remove_entry test after ≡ remove_entry test es → answer ≡ false → remove_entry test after ≡ trimmed test left es
    trim_gone absent told others fails = elim (lookup test es) as (λ x. lookup test es ≡ x → remove_entry test after ≡ trimmed test left es) [
      | None ↦ λ is. let holds = absent is in absurd cc
      | Some chain ↦ λ is. others ∙ sym (trim_out test left chain es is (sym (told chain is) ∙ fails))
    ] refl

  -- ---- what it means for all chains

  map-remaining : (m : ℕ) (key : K) (left : List (ℕ × Option V)) (rest : List (K × List (ℕ × Option V))) → map_of m (remaining key left rest) ≡ standing key (value_at m left) (map_of m rest)
  map-remaining m key [] rest = refl
  map-remaining m key (v ∷ older) rest = refl

  same-trimmed : (test : K → Bool) (left : List (ℕ × Option V) → List (ℕ × Option V)) (m : ℕ) (es : List (K × List (ℕ × Option V))) → ((chain : List (ℕ × Option V)) → value_at m (left chain) ≡ value_at m chain) → map_of m (trimmed test left es) ≡ map_of m es
  same-trimmed test left m [] h = refl
  same-trimmed test left m (e ∷ es) h = elim (test e.0) as (λ b. map_of m (cond b (remaining e.0 (left e.1) es) (e ∷ trimmed test left es)) ≡ standing e.0 (value_at m e.1) (map_of m es)) [
    | true ↦ map-remaining m e.0 (left e.1) es ∙ ap (λ (x : Option V). standing e.0 x (map_of m es)) (h e.1)
    | false ↦ ap (λ (rest : List (K × V)). standing e.0 (value_at m e.1) rest) (same-trimmed test left m es h)
  ]

  all-remaining : (Q : K × List (ℕ × Option V) → Type 0) (key : K) (left : List (ℕ × Option V)) (rest : List (K × List (ℕ × Option V))) → OfLeft (λ (c : List (ℕ × Option V)). Q (key, c)) left → AllByRecursion Q rest → AllByRecursion Q (remaining key left rest)
  all-remaining Q key [] rest h a = a
  all-remaining Q key (v ∷ older) rest h a = (h, a)

  all-trimmed : (test : K → Bool) (left : List (ℕ × Option V) → List (ℕ × Option V)) (P Q : K × List (ℕ × Option V) → Type 0) (es : List (K × List (ℕ × Option V))) → IsOne test es → ((e : K × List (ℕ × Option V)) → test e.0 ≡ false → P e → Q e)
      → ((k : K) (chain : List (ℕ × Option V)) → test k ≡ true → P (k, chain) → OfLeft (λ (c : List (ℕ × Option V)). Q (k, c)) (left chain)) → AllByRecursion P es → AllByRecursion Q (trimmed test left es)
  all-trimmed test left P Q [] one others here a = tt
  all-trimmed test left P Q (e ∷ es) one others here a = elim (test e.0) as (λ b. test e.0 ≡ b → AllByRecursion Q (cond b (remaining e.0 (left e.1) es) (e ∷ trimmed test left es))) [
    | true ↦ λ t. all-remaining Q e.0 (left e.1) es (here e.0 e.1 t a.0) (all-past test P Q es others (one.0 t) a.1)
    | false ↦ λ t. (others e t a.0, all-trimmed test left P Q es one.1 others here a.1)
  ] refl

  keys-remaining : (P : K → Type 0) (key : K) (left : List (ℕ × Option V)) (rest : List (K × List (ℕ × Option V))) → P key → AllByRecursion P (keys_of rest) → AllByRecursion P (keys_of (remaining key left rest))
  keys-remaining P key [] rest h a = a
  keys-remaining P key (v ∷ older) rest h a = (h, a)

  keys-trimmed : (P : K → Type 0) (test : K → Bool) (left : List (ℕ × Option V) → List (ℕ × Option V)) (es : List (K × List (ℕ × Option V))) → AllByRecursion P (keys_of es) → AllByRecursion P (keys_of (trimmed test left es))
  keys-trimmed P test left [] a = tt
  keys-trimmed P test left (e ∷ es) a = elim (test e.0) as (λ b. AllByRecursion P (keys_of (cond b (remaining e.0 (left e.1) es) (e ∷ trimmed test left es)))) [
    | true ↦ keys-remaining P e.0 (left e.1) es a.0 a.1
    | false ↦ (a.0, keys-trimmed P test left es a.1)
  ]

  ordered-remaining : (R : K → K → Ordering) (key : K) (left : List (ℕ × Option V)) (rest : List (K × List (ℕ × Option V))) → IsMap R ((key, left) ∷ rest) → IsMap R (remaining key left rest)
  unfolding IsStrictlySortedBy
  ordered-remaining R key [] rest s = s.1
  ordered-remaining R key (v ∷ older) rest s = s

  ordered-trimmed : (R : K → K → Ordering) (test : K → Bool) (left : List (ℕ × Option V) → List (ℕ × Option V)) (es : List (K × List (ℕ × Option V))) → IsMap R es → IsMap R (trimmed test left es)
  unfolding IsStrictlySortedBy
  ordered-trimmed R test left [] s = tt
  ordered-trimmed R test left (e ∷ es) s = elim (test e.0) as (λ b. IsMap R (cond b (remaining e.0 (left e.1) es) (e ∷ trimmed test left es))) [
    | true ↦ ordered-remaining R e.0 (left e.1) es s
    | false ↦ (keys-trimmed (λ z. R e.0 z ≡ Less) test left es s.0, ordered-trimmed R test left es s.1)
  ]

  -- ---- chains still fall

  pub each_entry : (P Q : K × List (ℕ × Option V) → Type 0) (es : List (K × List (ℕ × Option V))) → ((e : K × List (ℕ × Option V)) → P e → Q e) → AllByRecursion P es → AllByRecursion Q es
  each_entry P Q [] h p = tt
  each_entry P Q (e ∷ es) h p = (h e p.0, each_entry P Q es h p.1)

  each_remaining : (Q : K × List (ℕ × Option V) → Type 0) (key : K) (left : List (ℕ × Option V)) (rest : List (K × List (ℕ × Option V))) → Q (key, left) → AllByRecursion Q rest → AllByRecursion Q (remaining key left rest)
  each_remaining Q key [] rest q a = a
  each_remaining Q key (v ∷ older) rest q a = (q, a)

  pub each_trimmed : (test : K → Bool) (left : List (ℕ × Option V) → List (ℕ × Option V)) (P Q : K × List (ℕ × Option V) → Type 0) (es : List (K × List (ℕ × Option V))) → ((k : K) (chain : List (ℕ × Option V)) → P (k, chain) → Q (k, left chain)) → ((e : K × List (ℕ × Option V)) → P e → Q e)
      → AllByRecursion P es → AllByRecursion Q (trimmed test left es)
  each_trimmed test left P Q [] here others a = tt
  each_trimmed test left P Q (e ∷ es) here others a = elim (test e.0) as (λ b. AllByRecursion Q (cond b (remaining e.0 (left e.1) es) (e ∷ trimmed test left es))) [
    | true ↦ each_remaining Q e.0 (left e.1) es (here e.0 e.1 a.0) (each_entry P Q es others a.1)
    | false ↦ (others e a.0, each_trimmed test left P Q es here others a.1)
  ]

  pub falls_trimmed : (test : K → Bool) (trim : Trim) (number : ℕ) (es : List (K × List (ℕ × Option V))) → AreFalling es → AreFalling (trimmed test (left_of trim number) es)
  falls_trimmed test trim number es a = each_trimmed test (left_of trim number) (λ (e : K × List (ℕ × Option V)). Falls e.1) (λ (e : K × List (ℕ × Option V)). Falls e.1) es (λ k chain f. falls_left trim number chain f) (λ e f. f) a

  pub falls_all : (order : K → K → Ordering) (trim : Trim) (number : ℕ) (keys : List K) (es : List (K × List (ℕ × Option V))) → AreFalling es → AreFalling (all_trimmed order (left_of trim number) keys es)
  falls_all order trim number [] es a = a
  falls_all order trim number (key ∷ keys) es a = falls_all order trim number keys (trimmed (is_at (order key)) (left_of trim number) es) (falls_trimmed (is_at (order key)) trim number es a)

  -- one key more of a list
  pub all_rest : (order : K → K → Ordering) (left : List (ℕ × Option V) → List (ℕ × Option V)) (keys : List K) (index : ℕ) (key : K) (es after : List (K × List (ℕ × Option V))) → index < length keys → key ≡ get_or keys index key → after ≡ trimmed (is_at (order key)) left es
      → all_trimmed order left (drop (index + 1) keys) after ≡ all_trimmed order left (drop index keys) es
  all_rest order left keys index key es after lt here is =
      let rest : drop index keys ≡ key ∷ drop (index + 1) keys = drop_more keys index key lt ∙ ap (λ k. k ∷ drop (index + 1) keys) (sym here) in
      ap (all_trimmed order left (drop (index + 1) keys)) is ∙ sym (ap (λ ks. all_trimmed order left ks es) rest)

  pub falls_back : (order : K → K → Ordering) (number : ℕ) (dropped : List (Interval K)) (es : List (K × List (ℕ × Option V))) → AreFalling es → AreFalling (cut_back order number dropped es)
  falls_back order number [] es a = a
  falls_back order number (i ∷ dropped) es a = falls_all order trims.Above number i.keys.items (cut_back order number dropped es) (falls_back order number dropped es a)

  -- ---- tests of versions

  pub versions_map : (p q : K → ℕ → Bool) (chains : List (K × List (ℕ × Option V))) → ((k : K) (n : ℕ) → p k n ≡ true → q k n ≡ true) → Versions p chains → Versions q chains
  versions_map p q [] h a = tt
  versions_map p q (e ∷ chains) h a = (each (λ (v : ℕ × Option V). p e.0 v.0 ≡ true) (λ (v : ℕ × Option V). q e.0 v.0 ≡ true) e.1 (λ v i. h e.0 v.0 i) a.0, versions_map p q chains h a.1)

  pub versions_both : (p q r : K → ℕ → Bool) (chains : List (K × List (ℕ × Option V))) → ((k : K) (n : ℕ) → p k n ≡ true → q k n ≡ true → r k n ≡ true) → Versions p chains → Versions q chains → Versions r chains
  versions_both p q r [] h a b = tt
  versions_both p q r (e ∷ chains) h a b = (both_each (λ (v : ℕ × Option V). p e.0 v.0 ≡ true) (λ (v : ℕ × Option V). q e.0 v.0 ≡ true) (λ (v : ℕ × Option V). r e.0 v.0 ≡ true) e.1 (λ v i j. h e.0 v.0 i j) a.0 b.0, versions_both p q r chains h a.1 b.1)

  pub tidies_by : (low listed later : K → ℕ → Bool) (chains : List (K × List (ℕ × Option V))) → ((k : K) (n : ℕ) → low k n ≡ true → listed k n ≡ true → later k n ≡ true) → Versions low chains → AreTidy listed chains → AreTidy later chains
  tidies_by low listed later [] h a t = tt
  tidies_by low listed later (e ∷ chains) h a t = (tidy_by (λ n. low e.0 n ≡ true) (listed e.0) (later e.0) e.1 (λ n i l. h e.0 n i l) a.0 t.0, tidies_by low listed later chains h a.1 t.1)

  pub tidies_map : (listed later : K → ℕ → Bool) (chains : List (K × List (ℕ × Option V))) → ((k : K) (n : ℕ) → listed k n ≡ true → later k n ≡ true) → AreTidy listed chains → AreTidy later chains
  tidies_map listed later [] h t = tt
  tidies_map listed later (e ∷ chains) h t = (tidy_map (listed e.0) (later e.0) e.1 (λ n l. h e.0 n l) t.0, tidies_map listed later chains h t.1)

-- ---- versions above a number are dropped

-- the listed keys have lost their versions above the number
pub record Cuts {K V : Type 0} (listed : K → Bool) (number : ℕ) (before after : List (K × List (ℕ × Option V))) : Type 0 where
  pub same : (m : ℕ) → m ≤ number → map_of m after ≡ map_of m before
  pub within : (passes : K → ℕ → Bool) → Versions passes before → Versions passes after
  pub falls : AreFalling before → AreFalling after
  pub gone : (passes : K → ℕ → Bool) → AreFalling before → Versions (λ k n. nat_le n number || (listed k || passes k n)) before → Versions (λ k n. nat_le n number || passes k n) after
  pub tidy : (changed : K → ℕ → Bool) → AreTidy changed before → AreTidy changed after
  pub ordered : (R : K → K → Ordering) → IsMap R before → IsMap R after

module _ {K V : Type 0} where
  cut_one : {R : K → K → Ordering} → IsTotalOrder R → (key : K) (number : ℕ) (es : List (K × List (ℕ × Option V))) → IsMap R es → Cuts (λ k. is_eq (R key k)) number es (trimmed (is_at (R key)) (cut number) es)
  cut_one {R} o key number es s = record {
    same = λ m le. same-trimmed (is_at (R key)) (cut number) m es (λ chain. same-cut number m chain le);
    within = λ passes a. all-trimmed (is_at (R key)) (cut number) (λ (e : K × List (ℕ × Option V)). AllByRecursion (λ (v : ℕ × Option V). passes e.0 v.0 ≡ true) e.1) (λ (e : K × List (ℕ × Option V)). AllByRecursion (λ (v : ℕ × Option V). passes e.0 v.0 ≡ true) e.1) es (one o key es s) (λ e t h. h)
        (λ k chain t h. of_left (AllByRecursion (λ (v : ℕ × Option V). passes k v.0 ≡ true)) (cut number chain) (all-cut (λ (v : ℕ × Option V). passes k v.0 ≡ true) number chain h)) a;
    falls = λ a. all-trimmed (is_at (R key)) (cut number) (λ (e : K × List (ℕ × Option V)). Falls e.1) (λ (e : K × List (ℕ × Option V)). Falls e.1) es (one o key es s) (λ e t h. h) (λ k chain t h. of_left Falls (cut number chain) (falls-cut number chain h)) a;
    gone = λ passes f a. all-trimmed (is_at (R key)) (cut number)
        (λ (e : K × List (ℕ × Option V)). Falls e.1 × AllByRecursion (λ (v : ℕ × Option V). nat_le v.0 number || (is_eq (R key e.0) || passes e.0 v.0) ≡ true) e.1) (λ (e : K × List (ℕ × Option V)). AllByRecursion (λ (v : ℕ × Option V). nat_le v.0 number || passes e.0 v.0 ≡ true) e.1) es (one o key es s)
        (λ e t h. each (λ (v : ℕ × Option V). nat_le v.0 number || (is_eq (R key e.0) || passes e.0 v.0) ≡ true) (λ (v : ℕ × Option V). nat_le v.0 number || passes e.0 v.0 ≡ true) e.1 (λ v p. ap (λ b. nat_le v.0 number || (b || passes e.0 v.0)) (sym t) ∙ p) h.1)
        (λ k chain t h. of_left (AllByRecursion (λ (v : ℕ × Option V). nat_le v.0 number || passes k v.0 ≡ true)) (cut number chain) (each (λ (v : ℕ × Option V). nat_le v.0 number ≡ true) (λ (v : ℕ × Option V). nat_le v.0 number || passes k v.0 ≡ true) (cut number chain) (λ v p. or_left (nat_le v.0 number) (passes k v.0) p) (low-cut number chain h.0)))
        (all_both (λ (e : K × List (ℕ × Option V)). Falls e.1) (λ (e : K × List (ℕ × Option V)). AllByRecursion (λ (v : ℕ × Option V). nat_le v.0 number || (is_eq (R key e.0) || passes e.0 v.0) ≡ true) e.1) es f a);
    tidy = λ changed a. all-trimmed (is_at (R key)) (cut number) (λ (e : K × List (ℕ × Option V)). IsTidy (changed e.0) e.1) (λ (e : K × List (ℕ × Option V)). IsTidy (changed e.0) e.1) es (one o key es s) (λ e t h. h) (λ k chain t h. tidy-cut (changed k) number chain h) a;
    ordered = λ Q a. ordered-trimmed Q (is_at (R key)) (cut number) es a;
  }

  cuts_none : (listed : K → Bool) (number : ℕ) (chains : List (K × List (ℕ × Option V))) → ((k : K) → listed k ≡ false) → Cuts listed number chains chains
  cuts_none listed number chains none = record {
    same = λ m le. refl;
    within = λ passes a. a;
    falls = λ a. a;
    gone = λ passes f a. versions_map (λ k n. nat_le n number || (listed k || passes k n)) (λ k n. nat_le n number || passes k n) chains (λ k n h. ap (λ b. nat_le n number || (b || passes k n)) (sym (none k)) ∙ h) a;
    tidy = λ changed a. a;
    ordered = λ R a. a;
  }

  -- one after the other
  cuts_both : (a b c : K → Bool) (number : ℕ) (before mid after : List (K × List (ℕ × Option V))) → ((k : K) → c k ≡ a k || b k) → Cuts a number before mid → Cuts b number mid after → Cuts c number before after
  cuts_both a b c number before mid after is x y = record {
    same = λ m le. y.same m le ∙ x.same m le;
    within = λ passes v. y.within passes (x.within passes v);
    falls = λ f. y.falls (x.falls f);
    gone = λ passes f v.
        y.gone passes (x.falls f) (x.gone (λ k n. b k || passes k n) f
        (versions_map (λ k n. nat_le n number || (c k || passes k n)) (λ k n. nat_le n number || (a k || (b k || passes k n))) before
        (λ k n h. ap (λ d. nat_le n number || d) (sym (or_assoc (a k) (b k) (passes k n)) ∙ ap (λ d. d || passes k n) (sym (is k))) ∙ h) v));
    tidy = λ changed v. y.tidy changed (x.tidy changed v);
    ordered = λ R s. y.ordered R (x.ordered R s);
  }

  pub cut_keys : {R : K → K → Ordering} → IsTotalOrder R → (number : ℕ) (keys : List K) (es : List (K × List (ℕ × Option V))) → IsMap R es → Cuts (is_listed R keys) number es (all_trimmed R (cut number) keys es)
  cut_keys {R} o number [] es s = cuts_none (is_listed R []) number es (λ k. refl)
  cut_keys {R} o number (key ∷ keys) es s =
      let first : Cuts (λ k. is_eq (R key k)) number es (trimmed (is_at (R key)) (cut number) es) = cut_one o key number es s in
      cuts_both (λ k. is_eq (R key k)) (is_listed R keys) (is_listed R (key ∷ keys)) number es (trimmed (is_at (R key)) (cut number) es) (all_trimmed R (cut number) (key ∷ keys) es) (λ k. refl) first (cut_keys o number keys (trimmed (is_at (R key)) (cut number) es) (first.ordered R s))

  pub cut_lists : {R : K → K → Ordering} → IsTotalOrder R → (number : ℕ) (dropped : List (Interval K)) (es : List (K × List (ℕ × Option V))) → IsMap R es → Cuts (is_any R dropped) number es (cut_back R number dropped es)
  cut_lists {R} o number [] es s = cuts_none (is_any R []) number es (λ k. refl)
  cut_lists {R} o number (i ∷ dropped) es s =
      let later : Cuts (is_any R dropped) number es (cut_back R number dropped es) = cut_lists o number dropped es s in
      cuts_both (is_any R dropped) (is_listed R i.keys.items) (is_any R (i ∷ dropped)) number es (cut_back R number dropped es) (cut_back R number (i ∷ dropped) es) (λ k. or_swap (is_listed R i.keys.items k) (is_any R dropped k)) later (cut_keys o number i.keys.items (cut_back R number dropped es) (later.ordered R s))

-- ---- versions that no map from a number on has are dropped

-- what only maps before the number had of the listed keys has gone
pub record Settles {K V : Type 0} (listed : K → Bool) (number : ℕ) (before after : List (K × List (ℕ × Option V))) : Type 0 where
  pub same : (m : ℕ) → number ≤ m → map_of m after ≡ map_of m before
  pub within : (passes : K → ℕ → Bool) → Versions passes before → Versions passes after
  pub falls : AreFalling before → AreFalling after
  pub tidy : (rest : K → Bool) (later : K → ℕ → Bool) → AreTidy (λ k n. (nat_eq n number && (listed k || rest k)) || later k n) before → AreTidy (λ k n. (nat_eq n number && rest k) || later k n) after
  pub ordered : (R : K → K → Ordering) → IsMap R before → IsMap R after

above_it : (n number : ℕ) (listed later there : Bool) → nat_le n number ≡ false → (nat_eq n number && listed) || later ≡ true → there || later ≡ true
above_it n number listed later there above h =
    or_either (nat_eq n number && listed) later h (λ l. let same : nat_eq n number ≡ true = and_first (nat_eq n number) listed l in absurd (grind arith)) (λ l. or_right there later l)

module _ {K V : Type 0} where
  settle_one : {R : K → K → Ordering} → IsTotalOrder R → (key : K) (number : ℕ) (es : List (K × List (ℕ × Option V))) → IsMap R es → Settles (λ k. is_eq (R key k)) number es (trimmed (is_at (R key)) (settled number) es)
  settle_one {R} o key number es s = record {
    same = λ m le. same-trimmed (is_at (R key)) (settled number) m es (λ chain. same-settled number m chain le);
    within = λ passes a. all-trimmed (is_at (R key)) (settled number) (λ (e : K × List (ℕ × Option V)). AllByRecursion (λ (v : ℕ × Option V). passes e.0 v.0 ≡ true) e.1) (λ (e : K × List (ℕ × Option V)). AllByRecursion (λ (v : ℕ × Option V). passes e.0 v.0 ≡ true) e.1) es (one o key es s) (λ e t h. h)
        (λ k chain t h. of_left (AllByRecursion (λ (v : ℕ × Option V). passes k v.0 ≡ true)) (settled number chain) (all-settled (λ (v : ℕ × Option V). passes k v.0 ≡ true) number chain h)) a;
    falls = λ a. all-trimmed (is_at (R key)) (settled number) (λ (e : K × List (ℕ × Option V)). Falls e.1) (λ (e : K × List (ℕ × Option V)). Falls e.1) es (one o key es s) (λ e t h. h) (λ k chain t h. of_left Falls (settled number chain) (falls-settled number chain h)) a;
    tidy = λ rest later a. all-trimmed (is_at (R key)) (settled number)
        (λ (e : K × List (ℕ × Option V)). IsTidy (λ n. (nat_eq n number && (is_eq (R key e.0) || rest e.0)) || later e.0 n) e.1) (λ (e : K × List (ℕ × Option V)). IsTidy (λ n. (nat_eq n number && rest e.0) || later e.0 n) e.1) es (one o key es s)
        (λ e t h. tidy_map (λ n. (nat_eq n number && (is_eq (R key e.0) || rest e.0)) || later e.0 n) (λ n. (nat_eq n number && rest e.0) || later e.0 n) e.1 (λ n p. ap (λ b. (nat_eq n number && (b || rest e.0)) || later e.0 n) (sym t) ∙ p) h)
        (λ k chain t h. tidy-settled (λ n. (nat_eq n number && (is_eq (R key k) || rest k)) || later k n) (λ n. (nat_eq n number && rest k) || later k n) number chain (λ n above l. above_it n number (is_eq (R key k) || rest k) (later k n) (nat_eq n number && rest k) above l) h) a;
    ordered = λ Q a. ordered-trimmed Q (is_at (R key)) (settled number) es a;
  }

  settles_both : (a b c : K → Bool) (number : ℕ) (before mid after : List (K × List (ℕ × Option V))) → ((k : K) → c k ≡ a k || b k) → Settles a number before mid → Settles b number mid after → Settles c number before after
  settles_both a b c number before mid after is x y = record {
    same = λ m le. y.same m le ∙ x.same m le;
    within = λ passes v. y.within passes (x.within passes v);
    falls = λ f. y.falls (x.falls f);
    tidy = λ rest later t. y.tidy rest later (x.tidy (λ k. b k || rest k) later
        (tidies_map (λ k n. (nat_eq n number && (c k || rest k)) || later k n) (λ k n. (nat_eq n number && (a k || (b k || rest k))) || later k n) before
        (λ k n h. ap (λ d. (nat_eq n number && d) || later k n) (sym (or_assoc (a k) (b k) (rest k)) ∙ ap (λ d. d || rest k) (sym (is k))) ∙ h) t));
    ordered = λ R s. y.ordered R (x.ordered R s);
  }

  pub settle_keys : {R : K → K → Ordering} → IsTotalOrder R → (number : ℕ) (keys : List K) (es : List (K × List (ℕ × Option V))) → IsMap R es → Settles (is_listed R keys) number es (all_trimmed R (settled number) keys es)
  settle_keys {R} o number [] es s = record { same = λ m le. refl; within = λ passes a. a; falls = λ a. a; tidy = λ rest later a. a; ordered = λ Q a. a }
  settle_keys {R} o number (key ∷ keys) es s =
      let first : Settles (λ k. is_eq (R key k)) number es (trimmed (is_at (R key)) (settled number) es) = settle_one o key number es s in
      settles_both (λ k. is_eq (R key k)) (is_listed R keys) (is_listed R (key ∷ keys)) number es (trimmed (is_at (R key)) (settled number) es) (all_trimmed R (settled number) (key ∷ keys) es) (λ k. refl) first (settle_keys o number keys (trimmed (is_at (R key)) (settled number) es) (first.ordered R s))
