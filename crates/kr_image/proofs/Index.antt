-- The topics by id, after one comes or goes.
use Rattle.std.proofs.Common.{◌≡◌, ℕ, Bool, true, false, cond, not, List, [], ◌∷◌, refl, sym, ap, subst, ◌∙◌, arith}
use Rattle.std.specs.Prelude.{Option, Some, None, is_some, filter, find, slice_get, ◌||◌, ◌==◌}
use Rattle.std.specs.Option.{option_map}
use Rattle.std.specs.declared.cmp.Ordering.{Ordering}
use Rattle.std.specs.declared.cmp.Ordering.TheVariants.{Less, Equal, Greater}
use Rattle.std.specs.Ordering.{is_eq, match_ordering, ordering_reverse, nat_cmp}
use Rattle.std.specs.Cmp.{IsTotalOrder}
use Rattle.std.specs.List.{AllByRecursion, list_any}
use Rattle.std.specs.List.Sorted.{IsStrictlySortedBy}
use Rattle.std.specs.Map.{keys_of, values_of}
use Rattle.std.specs.BTreeMap.{insert_entry}
use Rattle.std.proofs.lemmas.Bool.Decides.{nat_tests, Decides-eqb}
use Rattle.std.proofs.lemmas.Cmp.{nat_cmp_total}
use Rattle.std.proofs.lemmas.Map.Lookups.{exact_bytes}
use Rattle.kr_defs.specs.declared.record.Topic.{Topic}
use Rattle.kr_defs.specs.Image.{topic_name, has_topic, are_distinct}
use Rattle.kr_defs.specs.Map as map
use Rattle.kr_defs.specs.Map.{text_order}
use Rattle.kr_defs.proofs.ImageParts.{text_total, has_topic_any}
use Rattle.kr_defs.proofs.Maps.{IsMap-insert, IsMap-remove}
use Rattle.kr_defs.proofs.Tests.{both, not_true, some_is}
use Rattle.kr_store.specs.Images.{topic_of}
use Rattle.kr_image.specs.Timelines.{IsIndex}

eq_is : (q k : ℕ) → is_eq (nat_cmp q k) ≡ (k == q)
eq_is q k = grind (arith, nat_tests)

eq_same : (k : ℕ) → (k == k) ≡ true
eq_same k = grind (arith, nat_tests)

other : (a b c : ℕ) → (a == b) ≡ true → (a == c) ≡ false → (c == b) ≡ false
other a b c h k = grind (arith, nat_tests)

pub self_equal : {K : Type 0} {R : K → K → Ordering} → IsTotalOrder R → (x : K) → R x x ≡ Equal
self_equal {K} {R} o x = elim (R x x) as (λ r. r ≡ ordering_reverse r → r ≡ Equal) [ Less ↦ λ h. absurd cc | Equal ↦ λ h. refl | Greater ↦ λ h. absurd cc ] (o.antisymm x x)

-- ---- by name

name_first : (ts : List (List ℕ × ℕ)) (name : List ℕ) (id q : ℕ) → topic_name ((name, id) ∷ ts) q ≡ cond (id == q) (Some name) (topic_name ts q)
name_first ts name id q = elim (id == q) as (λ b. option_map (λ (e : List ℕ × ℕ). e.0) (cond b (Some (name, id)) (find (λ (e : List ℕ × ℕ). e.1 == q) ts)) ≡ cond b (Some name) (topic_name ts q)) [ true ↦ refl | false ↦ refl ]

pub name_set : (ts : List (List ℕ × ℕ)) (name : List ℕ) (id q : ℕ) → map.contains text_order ts name ≡ false → has_topic ts id ≡ false → topic_name (map.insert text_order ts name id) q ≡ cond (id == q) (Some name) (topic_name ts q)
name_set [] name id q new none = name_first [] name id q
name_set (e ∷ ts) name id q new none =
    let here : has_topic (e ∷ ts) id ≡ cond (e.1 == id) true (has_topic ts id) = ap is_some (name_first ts e.0 e.1 id) ∙ elim (e.1 == id) as (λ b. is_some (cond b (Some e.0) (topic_name ts id)) ≡ cond b true (has_topic ts id)) [ true ↦ refl | false ↦ refl ] in
    elim (text_order name e.0) as (λ r. is_some (cond (is_eq r) (Some e.1) (map.get text_order ts name)) ≡ false → topic_name (match_ordering r ((name, id) ∷ e ∷ ts) ((e.0, id) ∷ ts) (e ∷ insert_entry text_order ts name id)) q ≡ cond (id == q) (Some name) (topic_name (e ∷ ts) q)) [
      | Less ↦ λ new. name_first (e ∷ ts) name id q
      | Equal ↦ λ new. absurd cc
      | Greater ↦ λ new. elim (e.1 == id) as (λ b. (e.1 == id) ≡ b → cond b true (has_topic ts id) ≡ false → topic_name (e ∷ insert_entry text_order ts name id) q ≡ cond (id == q) (Some name) (topic_name (e ∷ ts) q)) [
        | true ↦ λ is none. absurd cc
        | false ↦ λ is none.
            let rest : topic_name (map.insert text_order ts name id) q ≡ cond (id == q) (Some name) (topic_name ts q) = name_set ts name id q new none in
            name_first (insert_entry text_order ts name id) e.0 e.1 q
            ∙ (elim (e.1 == q) as (λ b. (e.1 == q) ≡ b → cond b (Some e.0) (topic_name (insert_entry text_order ts name id) q) ≡ cond (id == q) (Some name) (cond b (Some e.0) (topic_name ts q))) [
              | true ↦ λ at_q. let apart : (id == q) ≡ false = other e.1 q id at_q is in ap (λ b. cond b (Some name) (Some e.0)) (sym apart)
              | false ↦ λ at_q. rest
            ] refl
            ∙ ap (λ (o : Option (List ℕ)). cond (id == q) (Some name) o) (sym (name_first ts e.0 e.1 q)))
      ] refl (sym here ∙ none)
    ] new

pub name_gone : (ts : List (List ℕ × ℕ)) (id q : ℕ) → topic_name (filter (λ e. not (e.1 == id)) ts) q ≡ cond (id == q) None (topic_name ts q)
name_gone [] id q = elim (id == q) as (λ b. ◌≡◌ {A = Option (List ℕ)} None (cond b None None)) [ true ↦ refl | false ↦ refl ]
name_gone (e ∷ ts) id q =
    let rest = name_gone ts id q in
    elim (e.1 == id) as (λ b. (e.1 == id) ≡ b → topic_name (cond (not b) (e ∷ filter (λ e. not (e.1 == id)) ts) (filter (λ e. not (e.1 == id)) ts)) q ≡ cond (id == q) None (topic_name (e ∷ ts) q)) [
      | true ↦ λ is. rest ∙ (elim (id == q) as (λ b. (id == q) ≡ b → cond b None (topic_name ts q) ≡ cond b None (topic_name (e ∷ ts) q)) [
        | true ↦ λ at_q. refl
        | false ↦ λ at_q. let apart : (e.1 == q) ≡ false = grind (arith, nat_tests) in sym (name_first ts e.0 e.1 q ∙ ap (λ b. cond b (Some e.0) (topic_name ts q)) apart)
      ] refl)
      | false ↦ λ is. name_first (filter (λ e. not (e.1 == id)) ts) e.0 e.1 q ∙ (elim (e.1 == q) as (λ b. (e.1 == q) ≡ b → cond b (Some e.0) (topic_name (filter (λ e. not (e.1 == id)) ts) q) ≡ cond (id == q) None (cond b (Some e.0) (topic_name ts q))) [
        | true ↦ λ at_q. let apart : (id == q) ≡ false = other e.1 q id at_q is in ap (λ b. cond b None (Some e.0)) (sym apart)
        | false ↦ λ at_q. rest
      ] refl ∙ ap (λ (o : Option (List ℕ)). cond (id == q) None o) (sym (name_first ts e.0 e.1 q)))
    ] refl

-- ---- by id

module _ {V : Type 0} where
  pub get_set : (es : List (ℕ × V)) (k q : ℕ) (v : V) → map.get nat_cmp (map.insert nat_cmp es k v) q ≡ cond (k == q) (Some v) (map.get nat_cmp es q)
  get_set [] k q v = ap (λ b. cond b (Some v) None) (eq_is q k)
  get_set (e ∷ es) k q v =
      elim (nat_cmp k e.0) as (λ r. nat_cmp k e.0 ≡ r → map.get nat_cmp (match_ordering r ((k, v) ∷ e ∷ es) ((e.0, v) ∷ es) (e ∷ insert_entry nat_cmp es k v)) q ≡ cond (k == q) (Some v) (map.get nat_cmp (e ∷ es) q)) [
        | Less ↦ λ is. ap (λ b. cond b (Some v) (map.get nat_cmp (e ∷ es) q)) (eq_is q k)
        | Equal ↦ λ is. let same : k ≡ e.0 = grind (arith, nat_tests) in
            ap (λ b. cond b (Some v) (map.get nat_cmp es q)) (eq_is q e.0) ∙ rw same (elim (e.0 == q) as (λ b. cond b (Some v) (map.get nat_cmp es q) ≡ cond b (Some v) (cond b (Some e.1) (map.get nat_cmp es q))) [ true ↦ refl | false ↦ refl ]
            ∙ ap (λ b. cond (e.0 == q) (Some v) (cond b (Some e.1) (map.get nat_cmp es q))) (sym (eq_is q e.0)))
        | Greater ↦ λ is. let apart : (k == e.0) ≡ false = grind (arith, nat_tests) in
            let rest = get_set es k q v in
            ap (λ b. cond b (Some e.1) (map.get nat_cmp (insert_entry nat_cmp es k v) q)) (eq_is q e.0)
            ∙ (elim (e.0 == q) as (λ b. (e.0 == q) ≡ b → cond b (Some e.1) (map.get nat_cmp (insert_entry nat_cmp es k v) q) ≡ cond (k == q) (Some v) (cond b (Some e.1) (map.get nat_cmp es q))) [
              | true ↦ λ at_q. let off : (k == q) ≡ false = grind (arith, nat_tests) in ap (λ b. cond b (Some v) (Some e.1)) (sym off)
              | false ↦ λ at_q. rest
            ] refl ∙ ap (λ b. cond (k == q) (Some v) (cond b (Some e.1) (map.get nat_cmp es q))) (sym (eq_is q e.0)))
      ] refl

  absent : (es : List (ℕ × V)) (k q : ℕ) → AllByRecursion (λ z. nat_cmp k z ≡ Less) (keys_of es) → (k == q) ≡ true → map.get nat_cmp es q ≡ None
  absent [] k q a at_q = refl
  absent (e ∷ es) k q a at_q =
      let less : nat_cmp k e.0 ≡ Less = a.0 in
      let off : (e.0 == q) ≡ false = grind (arith, nat_tests) in
      ap (λ b. cond b (Some e.1) (map.get nat_cmp es q)) (eq_is q e.0 ∙ off) ∙ absent es k q a.1 at_q

  pub get_gone : (es : List (ℕ × V)) (k q : ℕ) → map.IsMap nat_cmp es → map.get nat_cmp (map.remove nat_cmp es k) q ≡ cond (k == q) None (map.get nat_cmp es q)
  unfolding IsStrictlySortedBy
  get_gone [] k q s = elim (k == q) as (λ b. ◌≡◌ {A = Option V} None (cond b None None)) [ true ↦ refl | false ↦ refl ]
  get_gone (e ∷ es) k q s =
      elim (is_eq (nat_cmp k e.0)) as (λ b. is_eq (nat_cmp k e.0) ≡ b → map.get nat_cmp (cond b es (e ∷ map.remove nat_cmp es k)) q ≡ cond (k == q) None (map.get nat_cmp (e ∷ es) q)) [
        | true ↦ λ is. let same : (e.0 == k) ≡ true = sym (eq_is k e.0) ∙ is in
            elim (k == q) as (λ b. (k == q) ≡ b → map.get nat_cmp es q ≡ cond b None (map.get nat_cmp (e ∷ es) q)) [
              | true ↦ λ at_q. let at_e : (e.0 == q) ≡ true = grind (arith, nat_tests) in absent es e.0 q s.0 at_e
              | false ↦ λ at_q. let off : (e.0 == q) ≡ false = grind (arith, nat_tests) in ap (λ b. cond b (Some e.1) (map.get nat_cmp es q)) (sym (eq_is q e.0 ∙ off))
            ] refl
        | false ↦ λ is. let apart : (e.0 == k) ≡ false = sym (eq_is k e.0) ∙ is in
            let rest = get_gone es k q s.1 in
            ap (λ b. cond b (Some e.1) (map.get nat_cmp (map.remove nat_cmp es k) q)) (eq_is q e.0)
            ∙ (elim (e.0 == q) as (λ b. (e.0 == q) ≡ b → cond b (Some e.1) (map.get nat_cmp (map.remove nat_cmp es k) q) ≡ cond (k == q) None (cond b (Some e.1) (map.get nat_cmp es q))) [
              | true ↦ λ at_q. let off : (k == q) ≡ false = other e.0 q k at_q apart in ap (λ b. cond b None (Some e.1)) (sym off)
              | false ↦ λ at_q. rest
            ] refl ∙ ap (λ b. cond (k == q) None (cond b (Some e.1) (map.get nat_cmp es q))) (sym (eq_is q e.0)))
      ] refl

-- ---- both

none_mapped : (id q : ℕ) (name : List ℕ) (o : Option (List ℕ)) → option_map (λ n. topic_of n q) (cond (id == q) (Some name) o) ≡ cond (id == q) (Some (topic_of name id)) (option_map (λ n. topic_of n q) o)
none_mapped id q name o =
    elim (id == q) as (λ b. (id == q) ≡ b → option_map (λ n. topic_of n q) (cond b (Some name) o) ≡ cond b (Some (topic_of name id)) (option_map (λ n. topic_of n q) o)) [
      | true ↦ λ is. let same : q ≡ id = sym ((Decides-eqb id q).0 is) in ap (λ n. Some (topic_of name n)) same
      | false ↦ λ is. refl
    ] refl

pub index_set : (names : List (List ℕ × ℕ)) (topics : List (ℕ × Topic)) (name : List ℕ) (id : ℕ) → IsIndex names topics → map.contains text_order names name ≡ false → has_topic names id ≡ false
    → IsIndex (map.insert text_order names name id) (map.insert nat_cmp topics id (topic_of name id))
index_set names topics name id is new none = record {
  ordered = IsMap-insert nat_cmp_total topics id (topic_of name id) is.ordered;
  found = λ q. get_set topics id q (topic_of name id) ∙ (ap (λ (o : Option Topic). cond (id == q) (Some (topic_of name id)) o) (is.found q)
      ∙ sym (ap (option_map (λ n. topic_of n q)) (name_set names name id q new none) ∙ none_mapped id q name (topic_name names q)));
}

pub index_gone : (names : List (List ℕ × ℕ)) (topics : List (ℕ × Topic)) (id : ℕ) → IsIndex names topics → IsIndex (filter (λ e. not (e.1 == id)) names) (map.remove nat_cmp topics id)
index_gone names topics id is = record {
  ordered = IsMap-remove nat_cmp_total topics id is.ordered;
  found = λ q. get_gone topics id q is.ordered ∙ (ap (λ (o : Option Topic). cond (id == q) None o) (is.found q)
      ∙ sym (ap (option_map (λ n. topic_of n q)) (name_gone names id q) ∙ elim (id == q) as (λ b. option_map (λ n. topic_of n q) (cond b None (topic_name names q)) ≡ cond b None (option_map (λ n. topic_of n q) (topic_name names q))) [ true ↦ refl | false ↦ refl ]));
}

-- ---- a name and its id

named_has : (ts : List (List ℕ × ℕ)) (id : ℕ) (name : List ℕ) → topic_name ts id ≡ Some name → has_topic ts id ≡ true
named_has ts id name h = ap is_some h

module _ (P : List ℕ → Type 0) where
  at_name : (ts : List (List ℕ × ℕ)) (id : ℕ) (name : List ℕ) → AllByRecursion P (keys_of ts) → topic_name ts id ≡ Some name → P name
  at_name [] id name a h = absurd cc
  at_name (e ∷ ts) id name a h =
      elim (e.1 == id) as (λ b. cond b (Some e.0) (topic_name ts id) ≡ Some name → P name) [
        | true ↦ λ h. subst P (some_is e.0 name h) a.0
        | false ↦ λ h. at_name ts id name a.1 h
      ] (sym (name_first ts e.0 e.1 id) ∙ h)

all_kept : (ts : List (List ℕ × ℕ)) (id : ℕ) → list_any (λ other. other == id) (values_of ts) ≡ false → filter (λ e. not (e.1 == id)) ts ≡ ts
all_kept [] id h = refl
all_kept (e ∷ ts) id h =
    elim (e.1 == id) as (λ b. (b || list_any (λ other. other == id) (values_of ts)) ≡ false → cond (not b) (e ∷ filter (λ e. not (e.1 == id)) ts) (filter (λ e. not (e.1 == id)) ts) ≡ e ∷ ts) [
      | true ↦ λ h. absurd cc
      | false ↦ λ h. ap (λ (rest : List (List ℕ × ℕ)). e ∷ rest) (all_kept ts id h)
    ] h

-- the name of an id goes as the id does
pub name_removed : (ts : List (List ℕ × ℕ)) (name : List ℕ) (id : ℕ) → map.IsMap text_order ts → are_distinct (values_of ts) ≡ true → topic_name ts id ≡ Some name → map.remove text_order ts name ≡ filter (λ e. not (e.1 == id)) ts
unfolding IsStrictlySortedBy
name_removed [] name id s d h = absurd cc
name_removed (e ∷ ts) name id s d h =
    let distinct = both (not (list_any (λ other. other == e.1) (values_of ts))) (are_distinct (values_of ts)) d in
    elim (e.1 == id) as (λ b. (e.1 == id) ≡ b → cond b (Some e.0) (topic_name ts id) ≡ Some name → cond (is_eq (text_order name e.0)) ts (e ∷ map.remove text_order ts name) ≡ cond (not b) (e ∷ filter (λ e. not (e.1 == id)) ts) (filter (λ e. not (e.1 == id)) ts)) [
      | true ↦ λ is h.
          let same : e.0 ≡ name = some_is e.0 name h in
          let id_is : e.1 ≡ id = (Decides-eqb e.1 id).0 is in
          let none : list_any (λ other. other == id) (values_of ts) ≡ false = ap (λ i. list_any (λ other. other == i) (values_of ts)) (sym id_is) ∙ not_true _ distinct.0 in
          let equal : text_order name e.0 ≡ Equal = ap (λ n. text_order name n) same ∙ self_equal text_total name in
          ap (λ r. cond (is_eq r) ts (e ∷ map.remove text_order ts name)) equal ∙ sym (all_kept ts id none)
      | false ↦ λ is h.
          let below : text_order e.0 name ≡ Less = at_name (λ z. text_order e.0 z ≡ Less) ts id name s.0 h in
          let greater : text_order name e.0 ≡ Greater = text_total.antisymm name e.0 ∙ ap ordering_reverse below in
          ap (λ r. cond (is_eq r) ts (e ∷ map.remove text_order ts name)) greater ∙ ap (λ (rest : List (List ℕ × ℕ)). e ∷ rest) (name_removed ts name id s.1 distinct.1 h)
    ] refl (sym (name_first ts e.0 e.1 id) ∙ h)

-- the id of an entry leads to its name, where each id stands once
named_later : (e : List ℕ × ℕ) (ts : List (List ℕ × ℕ)) (name : List ℕ) (id : ℕ) → not (list_any (λ other. other == e.1) (values_of ts)) ≡ true → topic_name ts id ≡ Some name → topic_name (e ∷ ts) id ≡ Some name
named_later e ts name id new h =
    name_first ts e.0 e.1 id ∙ elim (e.1 == id) as (λ b. (e.1 == id) ≡ b → cond b (Some e.0) (topic_name ts id) ≡ Some name) [
      | true ↦ λ is.
          let id_is : e.1 ≡ id = (Decides-eqb e.1 id).0 is in
          let none : list_any (λ other. other == id) (values_of ts) ≡ false = ap (λ i. list_any (λ other. other == i) (values_of ts)) (sym id_is) ∙ not_true _ new in
          let some : list_any (λ other. other == id) (values_of ts) ≡ true = sym (has_topic_any ts id) ∙ ap is_some h in
          absurd cc
      | false ↦ λ is. h
    ] refl

named_first : (e : List ℕ × ℕ) (ts : List (List ℕ × ℕ)) → topic_name (e ∷ ts) e.1 ≡ Some e.0
named_first e ts = name_first ts e.0 e.1 e.1 ∙ ap (λ b. cond b (Some e.0) (topic_name ts e.1)) (eq_same e.1)

pub name_of_id : (ts : List (List ℕ × ℕ)) (name : List ℕ) (id : ℕ) → are_distinct (values_of ts) ≡ true → map.get text_order ts name ≡ Some id → topic_name ts id ≡ Some name
name_of_id [] name id d h = absurd cc
name_of_id (e ∷ ts) name id d h =
    let distinct = both (not (list_any (λ other. other == e.1) (values_of ts))) (are_distinct (values_of ts)) d in
    elim (text_order name e.0) as (λ r. text_order name e.0 ≡ r → cond (is_eq r) (Some e.1) (map.get text_order ts name) ≡ Some id → topic_name (e ∷ ts) id ≡ Some name) [
      | Less ↦ λ is h. named_later e ts name id distinct.0 (name_of_id ts name id distinct.1 h)
      | Equal ↦ λ is h.
          let same : name ≡ e.0 = exact_bytes name e.0 is in
          let id_is : e.1 ≡ id = some_is e.1 id h in
          subst (λ (i : ℕ). topic_name (e ∷ ts) i ≡ Some name) id_is (named_first e ts ∙ ap (λ (n : List ℕ). Some n) (sym same))
      | Greater ↦ λ is h. named_later e ts name id distinct.0 (name_of_id ts name id distinct.1 h)
    ] refl h

pub name_of_entry : (test : List ℕ × ℕ → Bool) (ts : List (List ℕ × ℕ)) (e : List ℕ × ℕ) → are_distinct (values_of ts) ≡ true → slice_get (filter test ts) 0 ≡ Some e → topic_name ts e.1 ≡ Some e.0
name_of_entry test [] e d h = absurd cc
name_of_entry test (x ∷ ts) e d h =
    let distinct = both (not (list_any (λ other. other == x.1) (values_of ts))) (are_distinct (values_of ts)) d in
    elim (test x) as (λ b. slice_get (cond b (x ∷ filter test ts) (filter test ts)) 0 ≡ Some e → topic_name (x ∷ ts) e.1 ≡ Some e.0) [
      | true ↦ λ h. subst (λ (y : List ℕ × ℕ). topic_name (x ∷ ts) y.1 ≡ Some y.0) (some_is x e h) (named_first x ts)
      | false ↦ λ h. named_later x ts e.0 e.1 distinct.0 (name_of_entry test ts e distinct.1 h)
    ] h

pub next_named : (ts : List (List ℕ × ℕ)) (after : Option (List ℕ)) (name : List ℕ) (id : ℕ) → are_distinct (values_of ts) ≡ true → map.next text_order ts after ≡ Some (name, id) → topic_name ts id ≡ Some name
next_named [] None name id d h = absurd cc
next_named (e ∷ ts) None name id d h = subst (λ (y : List ℕ × ℕ). topic_name (e ∷ ts) y.1 ≡ Some y.0) (some_is e (name, id) h) (named_first e ts)
next_named ts (Some key) name id d h = name_of_entry _ ts (name, id) d h
