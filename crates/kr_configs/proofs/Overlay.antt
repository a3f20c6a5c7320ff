-- The settings once a resource's operations are done: its keys have their values, all others are as before.
use Rattle.std.proofs.Common.{◌≡◌, ◌∙◌, ℕ, ℤ, Bool, true, false, cond, List, [], ◌∷◌, refl, ap, subst}
use Rattle.std.specs.Prelude.{Option, Some, None, find, bytes_eq, unwrap_or, ◌&&◌}
use Rattle.std.specs.declared.cmp.Ordering.{Ordering}
use Rattle.std.specs.declared.cmp.Ordering.TheVariants.{Less, Equal, Greater}
use Rattle.std.specs.Ordering.{is_eq, int_cmp, int_eq, match_ordering, ordering_reverse, ordering_then}
use Rattle.std.specs.BTreeMap.{insert_entry, is_at}
use Rattle.std.specs.Cmp.{IsTotalOrder, eq_by_cmp_equiv, int_eq_equiv, signed_Decides}
use Rattle.std.specs.Cmp.Lexicographic.{texts_ties, nat_list_eq_equiv}
use Rattle.std.specs.Map.{keys_of}
use Rattle.std.specs.Option.{option_map}
use Rattle.std.proofs.lemmas.Map.{lookup-remove_entry}
use Rattle.std.proofs.lemmas.Map.Keys.{IsDistinct-from_sorted}
use Rattle.kr_defs.specs.declared.record.ConfigKey.{ConfigKey}
use Rattle.kr_defs.specs.Map.{IsMap, get, insert, remove, config_order, text_order}
use Rattle.kr_defs.proofs.ImageParts.{config_total}
use Rattle.kr_defs.proofs.Maps.{IsMap-insert, IsMap-remove}
use Rattle.kr_defs.proofs.Walks.{get_other}
use Rattle.kr_calls.specs.declared.incremental_alter_configs.ConfigResource.{ConfigResource}
use Rattle.kr_calls.specs.IncrementalAlterConfigs.{Values, key_of, with_values}
use Rattle.kr_configs.specs.NamedKeys.{AreOnce}
use Rattle.kr_configs.proofs.OperationKeys.{same_text}

equal_is : (r : Ordering) → is_eq r ≡ true → r ≡ Equal
equal_is Less is = absurd cc
equal_is Equal is = refl
equal_is Greater is = absurd cc

equal_back : (r : Ordering) → is_eq (ordering_reverse r) ≡ is_eq r
equal_back Less = refl
equal_back Equal = refl
equal_back Greater = refl

equal_then : (r s : Ordering) → is_eq (ordering_then r s) ≡ (is_eq r && is_eq s)
equal_then Less s = refl
equal_then Equal s = refl
equal_then Greater s = refl

-- numbers that test as the same are the same
pub same_number : (x y : ℤ) → int_eq x y ≡ true → x ≡ y
same_number x y is = (signed_Decides x y).0 is

equal_turned : {K : Type 0} {R : K → K → Ordering} → IsTotalOrder R → (k q : K) → is_eq (R k q) ≡ is_eq (R q k)
equal_turned {R = R} o k q = ap is_eq (o.antisymm k q) ∙ equal_back (R q k)

module _ {K V : Type 0} {R : K → K → Ordering} (o : IsTotalOrder R) where
  -- a value is put at a key, or the key goes
  abbrev pub put : List (K × V) → K → Option V → List (K × V)
  put es k None = remove R es k
  put es k (Some v) = insert R es k v

  pub put_ordered : (es : List (K × V)) (k : K) (value : Option V) → IsMap R es → IsMap R (put es k value)
  put_ordered es k None ordered = IsMap-remove o es k ordered
  put_ordered es k (Some v) ordered = IsMap-insert o es k v ordered

  got_own : (es : List (K × V)) (k q : K) (v : V) → R q k ≡ Equal → get R (insert R es k v) q ≡ Some v
  got_own [] k q v is = rw is refl
  got_own (e ∷ es) k q v is =
      elim (R k e.0) as (λ r. R k e.0 ≡ r → get R (match_ordering r ((k, v) ∷ e ∷ es) ((e.0, v) ∷ es) (e ∷ insert_entry R es k v)) q ≡ Some v) [
        | Less ↦ λ at. rw is refl
        | Equal ↦ λ at. rw (o.congr q k e.0 is ∙ at) refl
        | Greater ↦ λ at. rw (o.congr q k e.0 is ∙ at) (got_own es k q v is)
      ] refl

  -- what stands at a key behind it
  pub got_put : (es : List (K × V)) (k q : K) (value : Option V) → IsMap R es → get R (put es k value) q ≡ cond (is_eq (R q k)) value (get R es q)
  got_put es k q None ordered =
      lookup-remove_entry (eq_by_cmp_equiv o) (is_at (R k)) (λ x y is. ap is_eq (o.congr k x y (equal_is (R k x) is))) q es (IsDistinct-from_sorted R (keys_of es) ordered)
      ∙ ap (λ b. cond b None (get R es q)) (equal_turned o k q)
  got_put es k q (Some v) ordered =
      elim (is_eq (R q k)) as (λ b. is_eq (R q k) ≡ b → get R (insert R es k v) q ≡ cond b (Some v) (get R es q)) [
        | true ↦ λ is. got_own es k q v (equal_is (R q k) is)
        | false ↦ λ is. get_other o es k q v is
      ] refl

-- two settings are at one place
pub at_one_place : (x y : ConfigKey) → is_eq (config_order x y) ≡ (int_eq x.kind y.kind && (bytes_eq x.name y.name && bytes_eq x.key y.key))
at_one_place x y =
    equal_then (int_cmp x.kind y.kind) (ordering_then (text_order x.name y.name) (text_order x.key y.key))
    ∙ ap (λ b. int_eq x.kind y.kind && b) (equal_then (text_order x.name y.name) (text_order x.key y.key) ∙ rw (← texts_ties x.name y.name, ← texts_ties x.key y.key) refl)

no_place : (a b c : Bool) → (a && b) ≡ false → (a && (b && c)) ≡ false
no_place true true c apart = absurd cc
no_place true false c apart = refl
no_place false b c apart = refl

-- settings of one resource
keys_alike : (entry : ConfigResource) (k j : List ℕ) → is_eq (config_order (key_of entry k) (key_of entry j)) ≡ bytes_eq j k
keys_alike entry k j =
    at_one_place (key_of entry k) (key_of entry j) ∙ rw (int_eq_equiv.refl entry.kind, nat_list_eq_equiv.refl entry.name) (nat_list_eq_equiv.symm k j)

module _ (entry : ConfigResource) where
  one_put : (cs : List (ConfigKey × List ℕ)) (k : List ℕ) (value : Option (List ℕ)) (vs : Values) → with_values cs entry ((k, value) ∷ vs) ≡ with_values (put config_total cs (key_of entry k) value) entry vs
  one_put cs k None vs = refl
  one_put cs k (Some v) vs = refl

  -- a key of the resource
  pub got_own_key : (cs : List (ConfigKey × List ℕ)) (vs : Values) (k : List ℕ) → IsMap config_order cs → AreOnce vs → get config_order (with_values cs entry vs) (key_of entry k) ≡ unwrap_or (option_map (λ v. v.1) (find (λ v. bytes_eq v.0 k) vs)) (get config_order cs (key_of entry k))
  got_own_key cs [] k ordered once = refl
  got_own_key cs (v ∷ vs) k ordered once =
      let next = put config_total cs (key_of entry v.0) v.1 in
      let there : get config_order next (key_of entry k) ≡ cond (bytes_eq v.0 k) v.1 (get config_order cs (key_of entry k)) =
      got_put config_total cs (key_of entry v.0) (key_of entry k) v.1 ordered ∙ ap (λ b. cond b v.1 (get config_order cs (key_of entry k))) (keys_alike entry k v.0) in
      ap (λ es. get config_order es (key_of entry k)) (one_put cs v.0 v.1 vs)
      ∙ got_own_key next vs k (put_ordered config_total cs (key_of entry v.0) v.1 ordered) once.1
      ∙ ap (λ value. unwrap_or (option_map (λ (w : List ℕ × Option (List ℕ)). w.1) (find (λ (w : List ℕ × Option (List ℕ)). bytes_eq w.0 k) vs)) value) there
      ∙ elim (bytes_eq v.0 k) as (λ b. bytes_eq v.0 k ≡ b → unwrap_or (option_map (λ (w : List ℕ × Option (List ℕ)). w.1) (find (λ (w : List ℕ × Option (List ℕ)). bytes_eq w.0 k) vs)) (cond b v.1 (get config_order cs (key_of entry k))) ≡ unwrap_or (option_map (λ (w : List ℕ × Option (List ℕ)). w.1) (cond b (Some v) (find (λ (w : List ℕ × Option (List ℕ)). bytes_eq w.0 k) vs))) (get config_order cs (key_of entry k))) [
        | true ↦ λ is.
            let none : find (λ (w : List ℕ × Option (List ℕ)). bytes_eq w.0 k) vs ≡ None = subst (λ j. find (λ (w : List ℕ × Option (List ℕ)). bytes_eq w.0 j) vs ≡ None) (same_text v.0 k is) once.0 in
            rw none refl
        | false ↦ λ is. refl
      ] refl

  -- a setting of another resource
  pub got_other_key : (cs : List (ConfigKey × List ℕ)) (vs : Values) (q : ConfigKey) → IsMap config_order cs → (int_eq q.kind entry.kind && bytes_eq q.name entry.name) ≡ false → get config_order (with_values cs entry vs) q ≡ get config_order cs q
  got_other_key cs [] q ordered apart = refl
  got_other_key cs (v ∷ vs) q ordered apart =
      let next = put config_total cs (key_of entry v.0) v.1 in
      ap (λ es. get config_order es q) (one_put cs v.0 v.1 vs)
      ∙ got_other_key next vs q (put_ordered config_total cs (key_of entry v.0) v.1 ordered) apart
      ∙ got_put config_total cs (key_of entry v.0) q v.1 ordered
      ∙ ap (λ b. cond b v.1 (get config_order cs q)) (at_one_place q (key_of entry v.0) ∙ no_place (int_eq q.kind entry.kind) (bytes_eq q.name entry.name) (bytes_eq q.key v.0) apart)
