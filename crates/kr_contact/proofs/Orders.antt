-- Contacts along a list of nodes: those without one broker, and whether the broker is there.
use Rattle.std.proofs.Common.{◌≡◌, ℕ, ℤ, Bool, Some, None, true, false, not, ◌||◌, List, [], ◌∷◌, ◌++◌, map, append_assoc, refl, sym, ap, subst, ◌∙◌, inl, inr}
use Rattle.std.specs.Ordering.{int_eq}
use Rattle.std.proofs.lemmas.Bool.{cases_Bool}
use Rattle.kr_defs.proofs.IdLists.{same_id, id_itself}
use Rattle.kr_defs.proofs.Tests.{neither}
use Rattle.kr_defs.specs.declared.basis.Contact.{Contact}
use Rattle.kr_defs.specs.Heartbeats.{contacts_without}
use Rattle.kr_contact.specs.Contacts.{AreSingle, is_contact, contact_of, touched}
use Rattle.kr_contact.specs.Rings.{IsIn}

module _ (f : ℕ → Contact) (key : ℤ) where
  -- the node is of another broker
  abbrev pub IsOther : ℕ → Type 0
  IsOther s = int_eq (f s).broker key ≡ false

  abbrev test : Contact → Bool
  test c = not (int_eq c.broker key)

  pub without_none : (is : List ℕ) → ((s : ℕ) → IsIn s is → IsOther s) → contacts_without (map f is) key ≡ map f is
  without_none [] others = refl
  without_none (i ∷ is) others =
      rw (others i (inl refl)) (ap (λ cs. f i ∷ cs) (without_none is (λ s there. others s (inr there))))

  pub without_one : (xs : List ℕ) (i : ℕ) (ys : List ℕ) → int_eq (f i).broker key ≡ true → ((s : ℕ) → IsIn s (xs ++ ys) → IsOther s) → contacts_without (map f (xs ++ i ∷ ys)) key ≡ map f (xs ++ ys)
  without_one [] i ys is others = rw is (without_none ys others)
  without_one (x ∷ xs) i ys is others =
      rw (others x (inl refl)) (ap (λ cs. f x ∷ cs) (without_one xs i ys is (λ s there. others s (inr there))))

  pub is_none : (is : List ℕ) → ((s : ℕ) → IsIn s is → IsOther s) → false ≡ is_contact (map f is) key
  is_none [] others = refl
  is_none (i ∷ is) others = rw (others i (inl refl)) (is_none is (λ s there. others s (inr there)))

  pub is_one : (xs : List ℕ) (i : ℕ) (ys : List ℕ) → int_eq (f i).broker key ≡ true → true ≡ is_contact (map f (xs ++ i ∷ ys)) key
  is_one [] i ys is = rw is refl
  is_one (x ∷ xs) i ys is =
      elim (int_eq (f x).broker key) as (λ b. true ≡ (b || is_contact (map f (xs ++ i ∷ ys)) key)) [ true ↦ refl | false ↦ is_one xs i ys is ]

  pub found_none : (is : List ℕ) → ((s : ℕ) → IsIn s is → IsOther s) → None ≡ contact_of (map f is) key
  found_none [] others = refl
  found_none (i ∷ is) others = rw (others i (inl refl)) (found_none is (λ s there. others s (inr there)))

  pub found_one : (xs : List ℕ) (i : ℕ) (ys : List ℕ) → int_eq (f i).broker key ≡ true → ((s : ℕ) → IsIn s (xs ++ ys) → IsOther s) → Some (f i) ≡ contact_of (map f (xs ++ i ∷ ys)) key
  found_one [] i ys is others = rw is refl
  found_one (x ∷ xs) i ys is others = rw (others x (inl refl)) (found_one xs i ys is (λ s there. others s (inr there)))

pub map_same : {X : Type 0} (f g : ℕ → X) (is : List ℕ) → ((s : ℕ) → IsIn s is → f s ≡ g s) → map f is ≡ map g is
map_same f g [] same = refl
map_same f g (i ∷ is) same = (λ t. same i (inl refl) t ∷ map_same f g is (λ s there. same s (inr there)) t)

-- ---- contacts that stand once

differs : (x y : ℤ) → int_eq x y ≡ false → int_eq y x ≡ false
differs x y h =
    elim (cases_Bool (int_eq y x)) [
      | inl holds ↦ let back : int_eq x y ≡ true = subst (λ (z : ℤ). int_eq x z ≡ true) (sym (same_id y x holds)) (id_itself x) in let bad : true ≡ false = sym back ∙ h in absurd cc
      | inr fails ↦ fails
    ]

none_at : (xs : List Contact) (c : Contact) (ys : List Contact) (key : ℤ) → is_contact (xs ++ c ∷ ys) key ≡ false → int_eq c.broker key ≡ false
none_at [] c ys key none = (neither (int_eq c.broker key) (is_contact ys key) none).0
none_at (x ∷ xs) c ys key none = none_at xs c ys key (neither (int_eq x.broker key) (is_contact (xs ++ c ∷ ys) key) none).1

single_front : (xs : List Contact) (c : Contact) (ys : List Contact) → AreSingle (xs ++ c ∷ ys) → is_contact xs c.broker ≡ false
single_front [] c ys s = refl
single_front (x ∷ xs) c ys s = rw (differs c.broker x.broker (none_at xs c ys x.broker s.0)) (single_front xs c ys s.1)

without_absent : (xs : List Contact) (key : ℤ) → is_contact xs key ≡ false → contacts_without xs key ≡ xs
without_absent [] key none = refl
without_absent (x ∷ xs) key none =
    let both = neither (int_eq x.broker key) (is_contact xs key) none in
    rw (both.0) (ap (λ cs. x ∷ cs) (without_absent xs key both.1))

pub touched_new : (xs : List Contact) (c : Contact) (ys : List Contact) → AreSingle (xs ++ c ∷ ys) → touched xs c ++ ys ≡ xs ++ c ∷ ys
touched_new xs c ys s = ap (λ cs. (cs ++ c ∷ []) ++ ys) (without_absent xs c.broker (single_front xs c ys s)) ∙ append_assoc xs (c ∷ []) ys
