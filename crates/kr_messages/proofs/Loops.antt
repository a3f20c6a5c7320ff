-- The elements of a list, taken and shown one after the other.
use Rattle.std.proofs.Common.{◌≡◌, ◌∙◌, ℕ, ◌+◌, ◌-◌, ◌<◌, ◌≤◌, Bool, true, false, List, [], ◌∷◌, ◌++◌, append-nil, append_assoc, Result, Ok, Err, refl, sym, ap, subst, arith}
use Rattle.std.specs.List.{flat_map}
use Rattle.std.proofs.lemmas.Grind.{flat_map-append}
use Rattle.kr_json.specs.JsonText.{elements, further}
use Rattle.kr_json.proofs.Joined.{two}
use Rattle.kr_layout.specs.declared.fault.ReadFault.{ReadFault}
use Rattle.kr_layout.specs.Answers.{IsFaultOf}
use Rattle.kr_layout.proofs.Elements.{ends}
use Rattle.kr_wire.proofs.Elements.{with_front, goes_on, is_done}
use Rattle.kr_wire.specs.Reading.{Read, elements_at}
use Rattle.kr_messages.specs.inner.Taken.{TookText, comma, is_some}

-- some elements of a list were taken, and are shown
pub record TakesSome {X : Type 0} (one : List ℕ → Read X) (json : X → List ℕ) (count counter : ℕ) (is_further : Bool) (left left' before after : List ℕ) : Type 0 where
  pub front : List X
  pub took : with_front one front (elements_at one (count - counter) left') ≡ elements_at one count left
  pub wrote : after ≡ before ++ elements json front
  pub further : is_further ≡ is_some front

module _ {X : Type 0} (one : List ℕ → Read X) (json : X → List ℕ) where
  none_before : (read : Read (List X)) → with_front one [] read ≡ read
  none_before (Ok y) = refl
  none_before (Err f) = refl

  pub begun : (count : ℕ) (left before : List ℕ) → TakesSome one json count 0 false left left before before
  begun count left before =
      let all : count - 0 ≡ count = omega arith in
      record { front = []; took = subst (λ (n : ℕ). with_front one [] (elements_at one n left) ≡ elements_at one count left) (sym all) (none_before (elements_at one count left)); wrote = sym (append-nil before); further = refl }

  shown_more : (xs : List X) (x : X) → elements json (xs ++ x ∷ []) ≡ elements json xs ++ (comma (is_some xs) ++ json x)
  shown_more [] x = append-nil (json x)
  shown_more (y ∷ ys) x =
      let more = flat_map-append (further json) ys (x ∷ []) ∙ ap (λ (l : List ℕ). flat_map (further json) ys ++ l) (append-nil (further json x)) in
      ap (λ (l : List ℕ). json y ++ l) more ∙ sym (append_assoc (json y) (flat_map (further json) ys) (further json x))

  some_more : (xs : List X) (x : X) → true ≡ is_some (xs ++ x ∷ [])
  some_more [] x = refl
  some_more (y ∷ ys) x = refl

  one_behind : (front : List X) (x : X) (is_further : Bool) (before out between after : List ℕ) → out ≡ before ++ elements json front → is_further ≡ is_some front
      → between ≡ out ++ comma is_further → after ≡ between ++ json x → after ≡ before ++ elements json (front ++ x ∷ [])
  one_behind front x is_further before out between after so_far further parted shown =
      let text = elements json front in
      let more = comma is_further ++ json x in
      two out between after (comma is_further) (json x) parted shown
      ∙ (ap (λ (l : List ℕ). l ++ more) so_far
      ∙ (append_assoc before text more
      ∙ (ap (λ (b : Bool). before ++ (text ++ (comma b ++ json x))) further
      ∙ ap (λ (l : List ℕ). before ++ l) (sym (shown_more front x)))))

  module _ (count i : ℕ) (is_further : Bool) (left mid before out : List ℕ) (so_far : TakesSome one json count i is_further left mid before out) where
    pub one_more : (left' between after : List ℕ) → i < count → between ≡ out ++ comma is_further → TookText one json mid left' between after → TakesSome one json count (i + 1) true left left' before after
    one_more left' between after lt parted shown = record {
      front = so_far.front ++ shown.value ∷ [];
      took = goes_on one so_far.front count i mid (elements_at one count left) so_far.took shown.value left' lt shown.took;
      wrote = one_behind so_far.front shown.value is_further before out between after so_far.wrote so_far.further parted shown.wrote;
      further = some_more so_far.front shown.value;
    }

    pub all_shown : count ≤ i → TookText (elements_at one count) (elements json) left mid before out
    all_shown le = record {
      value = so_far.front;
      took = is_done one so_far.front count i mid (elements_at one count left) so_far.took le;
      wrote = so_far.wrote;
    }

    pub one_refused : (fault : ReadFault) → i < count → IsFaultOf fault (one mid) → IsFaultOf fault (elements_at one count left)
    one_refused fault lt refused = ends one so_far.front count i mid (elements_at one count left) so_far.took fault lt refused
