-- The next name that agrees, and a walk from one to the next.
use Rattle.std.proofs.Common.{◌≡◌, ◌∙◌, ◌<◌, ◌≤◌, ℕ, Bool, true, false, cond, List, [], ◌∷◌, ◌++◌, ◌⊎◌, inl, inr, length, map, filter, refl, sym, ap, subst, arith, ◌&&◌, ◌||◌}
use Rattle.std.specs.Prelude.{Option, Some, None, IfSome, IsTrue, IsAscii, MatchOption, All, bytes_eq, is_some, nat_eq, nat_le, nat_lt, not, unwrap_or, ◌==◌}
use Rattle.std.specs.Option.{option_map}
use Rattle.std.specs.List.{AllByRecursion, list_all, list_any}
use Rattle.std.specs.declared.cmp.Ordering.{Ordering}
use Rattle.std.specs.declared.cmp.Ordering.TheVariants.{Less, Equal, Greater}
use Rattle.std.specs.Ordering.{is_eq, is_lt, nat_cmp, ordering_reverse, ordering_then}
use Rattle.std.proofs.lemmas.Bool.Decides.{nat_tests}
use Rattle.std.proofs.lemmas.List.Elements.{recursion_from_All}
use Rattle.std.proofs.lemmas.Map.Lookups.{exact_bytes}
use Rattle.std.proofs.lemmas.Str.Ascii.{IsAscii-nil, IsAscii-cons}
use Rattle.kr_defs.specs.declared.limits.TheConstants.{LONGEST_TOPIC}
use Rattle.kr_defs.specs.Map.{above, contains, get, text_order}
use Rattle.kr_defs.specs.Texts.{are_name_bytes, as_underscore, is_name, is_name_byte, is_topic_name, names_agree}
use Rattle.kr_defs.proofs.EntryCounts.{is_equal}
use Rattle.kr_defs.proofs.ImageParts.{text_total}
use Rattle.kr_defs.proofs.Tests.{both, none_is, or_right}
use Rattle.kr_replication.specs.AgreeingNames.{AddsBytes, StandsAbove, IsNextAgreeing, as_dot, continued, least_above, least_agreeing, next_agreeing, raised_above}

-- ---- bytes

first_least : (q b : ℕ) → nat_eq (as_underscore q) (as_underscore b) ≡ true → nat_cmp q (as_dot b) ≡ Less → ⊥
first_least q b same less = grind (arith, nat_tests)

last_byte : (q b p : ℕ) → nat_eq (as_underscore q) (as_underscore b) ≡ true → nat_lt p (as_dot b) ≡ false → (as_dot b == 46 && nat_lt p 95) ≡ true → nat_cmp p q ≡ Less → nat_cmp q 95 ≡ Less → ⊥
last_byte q b p same low high above less = let parts = both (as_dot b == 46) (nat_lt p 95) high in grind (arith, nat_tests)

none_left : (q b p : ℕ) → nat_eq (as_underscore q) (as_underscore b) ≡ true → nat_lt p (as_dot b) ≡ false → (as_dot b == 46 && nat_lt p 95) ≡ false → nat_cmp p q ≡ Less → ⊥
none_left q b p same low high above = grind (arith, nat_tests)

lowest_byte : (b : ℕ) → nat_eq (as_underscore (as_dot b)) (as_underscore b) ≡ true
lowest_byte b = grind (arith, nat_tests)

highest_byte : (b p : ℕ) → (as_dot b == 46 && nat_lt p 95) ≡ true → nat_eq (as_underscore 95) (as_underscore b) ≡ true
highest_byte b p is = let parts = both (as_dot b == 46) (nat_lt p 95) is in grind (arith, nat_tests)

highest_above : (b p : ℕ) → (as_dot b == 46 && nat_lt p 95) ≡ true → nat_cmp p 95 ≡ Less
highest_above b p is = let parts = both (as_dot b == 46) (nat_lt p 95) is in grind (arith, nat_tests)

same_byte : (b p : ℕ) → (as_dot b == as_dot p) ≡ true → nat_eq (as_underscore p) (as_underscore b) ≡ true
same_byte b p is = grind (arith, nat_tests)

other_byte : (b p q : ℕ) → (as_dot b == as_dot p) ≡ false → nat_eq (as_underscore q) (as_underscore b) ≡ true → nat_cmp p q ≡ Equal → ⊥
other_byte b p q apart same equal = grind (arith, nat_tests)

itself : (p : ℕ) → nat_cmp p p ≡ Equal
itself p = grind (arith, nat_tests)

against : (p q : ℕ) → nat_cmp p q ≡ Less → nat_cmp q p ≡ Less → ⊥
against p q low high = grind (arith, nat_tests)

not_equal_too : (p q : ℕ) → nat_cmp p q ≡ Less → nat_cmp q p ≡ Equal → ⊥
not_equal_too p q low equal = grind (arith, nat_tests)

not_less_too : (p q : ℕ) → nat_cmp p q ≡ Equal → nat_cmp q p ≡ Less → ⊥
not_less_too p q equal less = grind (arith, nat_tests)

-- ---- names in order

then_less : (r s : Ordering) → ordering_then r s ≡ Less → (r ≡ Less) ⊎ ((r ≡ Equal) × (s ≡ Less))
then_less Less s h = inl refl
then_less Equal s h = inr (refl, h)
then_less Greater s h = absurd cc

none_below_empty : (text : List ℕ) → text_order text [] ≡ Less → ⊥
none_below_empty [] h = absurd cc
none_below_empty (c ∷ text) h = absurd cc

not_before : (q x : ℕ) (qs xs : List ℕ) → (nat_cmp q x ≡ Less → ⊥) → (text_order qs xs ≡ Less → ⊥) → text_order (q ∷ qs) (x ∷ xs) ≡ Less → ⊥
not_before q x qs xs first rest less = elim (then_less (nat_cmp q x) (text_order qs xs) less) [ inl lt ↦ first lt | inr parts ↦ rest parts.1 ]

first_before : (q x : ℕ) (qs xs : List ℕ) → nat_cmp q x ≡ Less → text_order (q ∷ qs) (x ∷ xs) ≡ Less
first_before q x qs xs less = ap (λ r. ordering_then r (text_order qs xs)) less

agree_more : (q b : ℕ) (qs bs : List ℕ) → nat_eq (as_underscore q) (as_underscore b) ≡ true → names_agree qs bs ≡ true → names_agree (q ∷ qs) (b ∷ bs) ≡ true
agree_more q b qs bs first rest = ap (λ t. t && names_agree qs bs) first ∙ rest

agree_parts : (q b : ℕ) (qs bs : List ℕ) → names_agree (q ∷ qs) (b ∷ bs) ≡ true → (nat_eq (as_underscore q) (as_underscore b) ≡ true) × (names_agree qs bs ≡ true)
agree_parts q b qs bs is = both (nat_eq (as_underscore q) (as_underscore b)) (bytes_eq (map as_underscore qs) (map as_underscore bs)) is

-- ---- the next one agrees and stands above

abbrev Agrees : Option (List ℕ) → List ℕ → List ℕ → Type 0
Agrees next other name = IfSome next (λ n. (names_agree n name ≡ true) × (text_order other n ≡ Less))

lowest_agrees : (name : List ℕ) → names_agree (least_agreeing name) name ≡ true
lowest_agrees [] = refl
lowest_agrees (b ∷ bs) = agree_more (as_dot b) b (least_agreeing bs) bs (lowest_byte b) (lowest_agrees bs)

lowest_above : (b p : ℕ) → nat_lt p (as_dot b) ≡ true → nat_cmp p (as_dot b) ≡ Less
lowest_above b p is = grind (arith, nat_tests)

raised_agrees : (b p : ℕ) (bs ps : List ℕ) → Agrees (raised_above b bs p) (p ∷ ps) (b ∷ bs)
raised_agrees b p bs ps =
    elim (nat_lt p (as_dot b)) as (λ t. nat_lt p (as_dot b) ≡ t → Agrees (option_map (λ first. first ∷ least_agreeing bs) (cond t (Some (as_dot b)) (cond (as_dot b == 46 && nat_lt p 95) (Some 95) None))) (p ∷ ps) (b ∷ bs)) [
      | true ↦ λ is. (agree_more (as_dot b) b (least_agreeing bs) bs (lowest_byte b) (lowest_agrees bs), first_before p (as_dot b) ps (least_agreeing bs) (lowest_above b p is))
      | false ↦ λ low. elim (as_dot b == 46 && nat_lt p 95) as (λ t. (as_dot b == 46 && nat_lt p 95) ≡ t → Agrees (option_map (λ first. first ∷ least_agreeing bs) (cond t (Some 95) None)) (p ∷ ps) (b ∷ bs)) [
        | true ↦ λ is. (agree_more 95 b (least_agreeing bs) bs (highest_byte b p is) (lowest_agrees bs), first_before p 95 ps (least_agreeing bs) (highest_above b p is))
        | false ↦ λ none. tt
      ] refl
    ] refl

continued_agrees : (b p : ℕ) (bs ps : List ℕ) (rest here : Option (List ℕ)) → (as_dot b == as_dot p) ≡ true → Agrees rest ps bs → Agrees here (p ∷ ps) (b ∷ bs) → Agrees (continued p rest here) (p ∷ ps) (b ∷ bs)
continued_agrees b p bs ps None here same rest_is here_is = here_is
continued_agrees b p bs ps (Some rest) here same rest_is here_is =
    (agree_more p b rest bs (same_byte b p same) rest_is.0, ap (λ r. ordering_then r (text_order ps rest)) (itself p) ∙ rest_is.1)

least_agrees : (name other : List ℕ) → Agrees (least_above name other) other name
least_agrees [] other = tt
least_agrees (b ∷ bs) [] = (lowest_agrees (b ∷ bs), refl)
least_agrees (b ∷ bs) (p ∷ ps) =
    elim (as_dot b == as_dot p) as (λ t. (as_dot b == as_dot p) ≡ t → Agrees (cond t (continued p (least_above bs ps) (raised_above b bs p)) (raised_above b bs p)) (p ∷ ps) (b ∷ bs)) [
      | true ↦ λ same. continued_agrees b p bs ps (least_above bs ps) (raised_above b bs p) same (least_agrees bs ps) (raised_agrees b p bs ps)
      | false ↦ λ apart. raised_agrees b p bs ps
    ] refl

-- ---- no other one stands between

abbrev NoneBefore : Option (List ℕ) → List ℕ → Type 0
NoneBefore next y = MatchOption next ⊥ (λ n. text_order y n ≡ Less → ⊥)

lowest_least : (y name : List ℕ) → names_agree y name ≡ true → text_order y (least_agreeing name) ≡ Less → ⊥
lowest_least [] [] is less = absurd cc
lowest_least [] (b ∷ bs) is less = absurd cc
lowest_least (q ∷ qs) [] is less = absurd cc
lowest_least (q ∷ qs) (b ∷ bs) is less =
    let parts = agree_parts q b qs bs is in
    not_before q (as_dot b) qs (least_agreeing bs) (first_least q b parts.0) (lowest_least qs bs parts.1) less

raised_least : (b p q : ℕ) (bs qs : List ℕ) → nat_eq (as_underscore q) (as_underscore b) ≡ true → names_agree qs bs ≡ true → nat_cmp p q ≡ Less → NoneBefore (raised_above b bs p) (q ∷ qs)
raised_least b p q bs qs same agree above =
    elim (nat_lt p (as_dot b)) as (λ t. nat_lt p (as_dot b) ≡ t → NoneBefore (option_map (λ first. first ∷ least_agreeing bs) (cond t (Some (as_dot b)) (cond (as_dot b == 46 && nat_lt p 95) (Some 95) None))) (q ∷ qs)) [
      | true ↦ λ is. not_before q (as_dot b) qs (least_agreeing bs) (first_least q b same) (lowest_least qs bs agree)
      | false ↦ λ low. elim (as_dot b == 46 && nat_lt p 95) as (λ t. (as_dot b == 46 && nat_lt p 95) ≡ t → NoneBefore (option_map (λ first. first ∷ least_agreeing bs) (cond t (Some 95) None)) (q ∷ qs)) [
        | true ↦ λ high. not_before q 95 qs (least_agreeing bs) (last_byte q b p same low high above) (lowest_least qs bs agree)
        | false ↦ λ high. none_left q b p same low high above
      ] refl
    ] refl

continued_first : (p q : ℕ) (qs : List ℕ) (rest here : Option (List ℕ)) → nat_cmp p q ≡ Less → NoneBefore here (q ∷ qs) → NoneBefore (continued p rest here) (q ∷ qs)
continued_first p q qs None here above here_is = here_is
continued_first p q qs (Some rest) here above here_is =
    λ less. elim (then_less (nat_cmp q p) (text_order qs rest) less) [ inl lt ↦ against p q above lt | inr parts ↦ not_equal_too p q above parts.0 ]

continued_rest : (p q : ℕ) (qs : List ℕ) (rest here : Option (List ℕ)) → nat_cmp p q ≡ Equal → NoneBefore rest qs → NoneBefore (continued p rest here) (q ∷ qs)
continued_rest p q qs None here equal rest_is = absurd rest_is
continued_rest p q qs (Some rest) here equal rest_is = not_before q p qs rest (not_less_too p q equal) rest_is

least_is : (name other y : List ℕ) → names_agree y name ≡ true → text_order other y ≡ Less → NoneBefore (least_above name other) y
least_is [] other [] is above = none_below_empty other above
least_is [] other (q ∷ qs) is above = absurd cc
least_is (b ∷ bs) [] y is above = lowest_least y (b ∷ bs) is
least_is (b ∷ bs) (p ∷ ps) [] is above = absurd cc
least_is (b ∷ bs) (p ∷ ps) (q ∷ qs) is above =
    let parts = agree_parts q b qs bs is in
    elim (then_less (nat_cmp p q) (text_order ps qs) above) [
      | inl lt ↦ elim (as_dot b == as_dot p) as (λ t. NoneBefore (cond t (continued p (least_above bs ps) (raised_above b bs p)) (raised_above b bs p)) (q ∷ qs)) [
        | true ↦ continued_first p q qs (least_above bs ps) (raised_above b bs p) lt (raised_least b p q bs qs parts.0 parts.1 lt)
        | false ↦ raised_least b p q bs qs parts.0 parts.1 lt
      ]
      | inr later ↦ elim (as_dot b == as_dot p) as (λ t. (as_dot b == as_dot p) ≡ t → NoneBefore (cond t (continued p (least_above bs ps) (raised_above b bs p)) (raised_above b bs p)) (q ∷ qs)) [
        | true ↦ λ same. continued_rest p q qs (least_above bs ps) (raised_above b bs p) later.0 (least_is bs ps qs parts.1 later.1)
        | false ↦ λ apart. absurd (other_byte b p q apart parts.0 later.0)
      ] refl
    ]

pub next_is : (name : List ℕ) (after : Option (List ℕ)) → IsNextAgreeing name after (next_agreeing name after)
next_is name None = record { agrees = (lowest_agrees name, tt); least = λ y is above. lowest_least y name is }
next_is name (Some other) = record { agrees = least_agrees name other; least = least_is name other }

-- ---- what was written and told

pub none_told : (name : List ℕ) (after : Option (List ℕ)) (old new : List ℕ) (found : Bool) → found ≡ false → AddsBytes old new found (next_agreeing name after) → IsNextAgreeing name after None
none_told name after old new found is adds =
    let none : next_agreeing name after ≡ None = none_is (next_agreeing name after) (sym adds.0 ∙ is) in
    subst (λ o. IsNextAgreeing name after o) none (next_is name after)

written_is : (next : Option (List ℕ)) (old new : List ℕ) → old ≡ [] → is_some next ≡ true → new ≡ old ++ unwrap_or next [] → next ≡ Some new
written_is None old new empty there is = absurd cc
written_is (Some x) old new empty there is = ap Some (sym (is ∙ ap (λ xs. xs ++ x) empty))

pub told : (name : List ℕ) (after : Option (List ℕ)) (old new : List ℕ) (found : Bool) → old ≡ [] → found ≡ true → AddsBytes old new found (next_agreeing name after) → next_agreeing name after ≡ Some new
told name after old new found empty is adds = written_is (next_agreeing name after) old new empty (sym adds.0 ∙ is) adds.1

pub some_told : (name : List ℕ) (after : Option (List ℕ)) (old new : List ℕ) (found : Bool) → old ≡ [] → found ≡ true → AddsBytes old new found (next_agreeing name after) → IsNextAgreeing name after (Some new)
some_told name after old new found empty is adds = subst (λ o. IsNextAgreeing name after o) (told name after old new found empty is adds) (next_is name after)

-- ---- ASCII

below_128 : (q b : ℕ) → nat_eq (as_underscore q) (as_underscore b) ≡ true → nat_lt b 128 ≡ true → q < 128
below_128 q b same ascii = grind (arith, nat_tests)

agree_ascii : (y name : List ℕ) → names_agree y name ≡ true → list_all (λ byte. nat_lt byte 128) name ≡ true → IsAscii y
agree_ascii [] name is ascii = IsAscii-nil
agree_ascii (q ∷ qs) [] is ascii = absurd cc
agree_ascii (q ∷ qs) (b ∷ bs) is ascii =
    let parts = agree_parts q b qs bs is in
    let bytes = both (nat_lt b 128) (list_all (λ byte. nat_lt byte 128) bs) ascii in
    IsAscii-cons q qs (below_128 q b parts.0 bytes.0) (agree_ascii qs bs parts.1 bytes.1)

-- what is found of an ASCII name is text
pub next_ascii : (name : List ℕ) (after : Option (List ℕ)) (next : List ℕ) → next_agreeing name after ≡ Some next → list_all (λ byte. nat_lt byte 128) name ≡ true → IsAscii next
next_ascii name after next is ascii =
    let agrees = subst (λ o. IfSome o (λ n. (names_agree n name ≡ true) × StandsAbove after n)) is (next_is name after).agrees in
    agree_ascii next name agrees.0 ascii

name_byte : (q b : ℕ) → is_name_byte q ≡ true → nat_eq (as_underscore q) (as_underscore b) ≡ true → nat_lt b 128 ≡ true
name_byte q b is same = grind (arith, nat_tests)

names_ascii : (y name : List ℕ) → are_name_bytes y ≡ true → names_agree y name ≡ true → list_all (λ byte. nat_lt byte 128) name ≡ true
names_ascii y [] bytes is = refl
names_ascii [] (b ∷ bs) bytes is = absurd cc
names_ascii (q ∷ qs) (b ∷ bs) bytes is =
    let parts = agree_parts q b qs bs is in
    let first = both (is_name_byte q) (are_name_bytes qs) bytes in
    ap (λ t. t && list_all (λ byte. nat_lt byte 128) bs) (name_byte q b first.0 parts.0) ∙ names_ascii qs bs first.1 parts.1

topic_bytes : (y : List ℕ) → is_topic_name y ≡ true → are_name_bytes y ≡ true
topic_bytes y is =
    let whole = both (is_name LONGEST_TOPIC y && not (bytes_eq y (46 ∷ []))) (not (bytes_eq y (46 ∷ 46 ∷ []))) is in
    let named = both (is_name LONGEST_TOPIC y) (not (bytes_eq y (46 ∷ []))) whole.0 in
    (both (nat_lt 0 (length y) && nat_le (length y) LONGEST_TOPIC) (are_name_bytes y) named.0).1

abbrev like : List ℕ → List ℕ × ℕ → Bool
like name topic = names_agree topic.0 name

no_others : (name : List ℕ) (topics : List (List ℕ × ℕ)) → list_all (λ byte. nat_lt byte 128) name ≡ false → AllByRecursion (λ e. IsTrue (is_topic_name e.0)) topics → list_any (like name) topics ≡ false
no_others name [] other names = refl
no_others name (t ∷ ts) other names =
    elim (names_agree t.0 name) as (λ b. names_agree t.0 name ≡ b → (b || list_any (like name) ts) ≡ false) [
      | true ↦ λ is. let ascii = names_ascii t.0 name (topic_bytes t.0 names.0) is in let against : true ≡ false = sym ascii ∙ other in absurd cc
      | false ↦ λ is. no_others name ts other names.1
    ] refl

-- with a name that isn't ASCII no topic's agrees
pub none_other : (name : List ℕ) (topics : List (List ℕ × ℕ)) → list_all (λ byte. nat_lt byte 128) name ≡ false → All (λ e. IsTrue (is_topic_name e.0)) topics → list_any (like name) topics ≡ false
none_other name topics other names = no_others name topics other (recursion_from_All (λ e. IsTrue (is_topic_name e.0)) topics names)

-- ---- topics

abbrev is_above : Option (List ℕ) → List ℕ → Bool
is_above None name = true
is_above (Some after) name = is_lt (text_order after name) && true

above_is : (topics : List (List ℕ × ℕ)) (after : Option (List ℕ)) → above text_order topics after ≡ filter (λ e. is_above after e.0) topics
above_is [] None = refl
above_is (t ∷ ts) None = ap (λ (rest : List (List ℕ × ℕ)). t ∷ rest) (above_is ts None)
above_is topics (Some after) = refl

module _ {X : Type 0} (test q r : X → Bool) where
  skipped : (e : X) (xs : List X) (b : Bool) → test e ≡ false → list_any test (cond b (e ∷ xs) xs) ≡ list_any test xs
  skipped e xs true is = ap (λ t. t || list_any test xs) is
  skipped e xs false is = refl

  -- of the entries that pass, the same stand in both
  any_same : (es : List X) → AllByRecursion (λ e. test e ≡ true → q e ≡ r e) es → list_any test (filter q es) ≡ list_any test (filter r es)
  any_same [] a = refl
  any_same (e ∷ es) a =
      elim (test e) as (λ t. test e ≡ t → list_any test (cond (q e) (e ∷ filter q es) (filter q es)) ≡ list_any test (cond (r e) (e ∷ filter r es) (filter r es))) [
        | true ↦ λ is. ap (λ b. list_any test (cond b (e ∷ filter q es) (filter q es))) (a.0 is) ∙ elim (r e) as (λ b. list_any test (cond b (e ∷ filter q es) (filter q es)) ≡ list_any test (cond b (e ∷ filter r es) (filter r es))) [
          | true ↦ ap (λ t. test e || t) (any_same es a.1)
          | false ↦ any_same es a.1
        ]
        | false ↦ λ is. skipped e (filter q es) (q e) is ∙ (any_same es a.1 ∙ sym (skipped e (filter r es) (r e) is))
      ] refl

  fewer_pass : (es : List X) → ((e : X) → q e ≡ true → r e ≡ true) → length (filter q es) ≤ length (filter r es)
  fewer_pass [] a = omega arith
  fewer_pass (e ∷ es) a =
      let rest = fewer_pass es a in
      elim (q e) as (λ b. (b ≡ true → r e ≡ true) → length (cond b (e ∷ filter q es) (filter q es)) ≤ length (cond (r e) (e ∷ filter r es) (filter r es))) [
        | true ↦ λ step. let is : r e ≡ true = step refl in rw is (omega arith)
        | false ↦ λ step. elim (r e) as (λ b. length (filter q es) ≤ length (cond b (e ∷ filter r es) (filter r es))) [ true ↦ omega arith | false ↦ omega arith ]
      ] (a e)

none_pass : {X : Type 0} (test : X → Bool) (es : List X) → list_any test (filter (λ e. false) es) ≡ false
none_pass test [] = refl
none_pass test (e ∷ es) = none_pass test es

-- a key that has no value is none of the entries'
apart_from : (topics : List (List ℕ × ℕ)) (c : List ℕ) → contains text_order topics c ≡ false → AllByRecursion (λ e. is_eq (text_order c e.0) ≡ false) topics
apart_from [] c none = tt
apart_from (t ∷ ts) c none =
    elim (is_eq (text_order c t.0)) as (λ b. is_eq (text_order c t.0) ≡ b → is_some (cond b (Some t.1) (get text_order ts c)) ≡ false → AllByRecursion (λ e. is_eq (text_order c e.0) ≡ false) (t ∷ ts)) [
      | true ↦ λ is none. absurd cc
      | false ↦ λ is none. (is, apart_from ts c none)
    ] refl none

is_less : (r : Ordering) → (is_lt r && true) ≡ true → r ≡ Less
is_less Less h = refl
is_less Equal h = absurd cc
is_less Greater h = absurd cc

stands_above : (after : Option (List ℕ)) (y : List ℕ) → is_above after y ≡ true → StandsAbove after y
stands_above None y is = tt
stands_above (Some a) y is = is_less (text_order a y) is

is_above_from : (after : Option (List ℕ)) (y : List ℕ) → StandsAbove after y → is_above after y ≡ true
is_above_from None y is = refl
is_above_from (Some a) y is = ap (λ r. is_lt r && true) is

above_later : (after : Option (List ℕ)) (c y : List ℕ) → StandsAbove after c → text_order c y ≡ Less → StandsAbove after y
above_later None c y low high = tt
above_later (Some a) c y low high = text_total.trans a c y low high

not_before_is : (r s : Ordering) → r ≡ ordering_reverse s → (s ≡ Less → ⊥) → is_eq r ≡ false → (is_lt r && true) ≡ true
not_before_is Less s back before apart = refl
not_before_is Equal s back before apart = absurd cc
not_before_is Greater Less back before apart = absurd (before refl)
not_before_is Greater Equal back before apart = absurd cc
not_before_is Greater Greater back before apart = absurd cc

module _ (name : List ℕ) (after : Option (List ℕ)) (c : List ℕ) (next : IsNextAgreeing name after (Some c)) where
  passed : (e : List ℕ × ℕ) → is_eq (text_order c e.0) ≡ false → like name e ≡ true → is_above after e.0 ≡ is_above (Some c) e.0
  passed e apart agrees =
      elim (is_above after e.0) as (λ b. is_above after e.0 ≡ b → b ≡ is_above (Some c) e.0) [
        | true ↦ λ is. sym (not_before_is (text_order c e.0) (text_order e.0 c) (text_total.antisymm c e.0) (next.least e.0 agrees (stands_above after e.0 is)) apart)
        | false ↦ λ is. elim (is_lt (text_order c e.0) && true) as (λ b. (is_lt (text_order c e.0) && true) ≡ b → false ≡ b) [
          | true ↦ λ above. let there = is_above_from after e.0 (above_later after c e.0 next.agrees.1 (is_less (text_order c e.0) above)) in let against : true ≡ false = sym there ∙ is in absurd cc
          | false ↦ λ above. refl
        ] refl
      ] refl

  each_passed : (topics : List (List ℕ × ℕ)) → AllByRecursion (λ e. is_eq (text_order c e.0) ≡ false) topics → AllByRecursion (λ e. like name e ≡ true → is_above after e.0 ≡ is_above (Some c) e.0) topics
  each_passed [] a = tt
  each_passed (t ∷ ts) a = (passed t a.0, each_passed ts a.1)

  -- between the one name and the next that agrees there is none that agrees
  pub jump : (topics : List (List ℕ × ℕ)) → contains text_order topics c ≡ false → list_any (like name) (above text_order topics after) ≡ list_any (like name) (above text_order topics (Some c))
  jump topics none =
      ap (list_any (like name)) (above_is topics after) ∙ any_same (like name) (λ e. is_above after e.0) (λ e. is_above (Some c) e.0) topics (each_passed topics (apart_from topics c none))

  -- and no more topics stand above
  pub fewer : (topics : List (List ℕ × ℕ)) → length (above text_order topics (Some c)) ≤ length (above text_order topics after)
  fewer topics =
      let step : (e : List ℕ × ℕ) → is_above (Some c) e.0 ≡ true → is_above after e.0 ≡ true = λ e is. is_above_from after e.0 (above_later after c e.0 next.agrees.1 (is_less (text_order c e.0) is)) in
      let less = fewer_pass (λ e. true) (λ (e : List ℕ × ℕ). is_above (Some c) e.0) (λ (e : List ℕ × ℕ). is_above after e.0) topics step in
      let same = ap length (above_is topics after) in
      omega (arith, less, same)

  found_of : (topics : List (List ℕ × ℕ)) → contains text_order topics c ≡ true → list_any (like name) topics ≡ true
  found_of [] there = absurd cc
  found_of (t ∷ ts) there =
      elim (is_eq (text_order c t.0)) as (λ b. is_eq (text_order c t.0) ≡ b → is_some (cond b (Some t.1) (get text_order ts c)) ≡ true → (names_agree t.0 name || list_any (like name) ts) ≡ true) [
        | true ↦ λ is there. let same : c ≡ t.0 = exact_bytes c t.0 (is_equal (text_order c t.0) is) in ap (λ b. b || list_any (like name) ts) (ap (λ n. names_agree n name) (sym same) ∙ next.agrees.0)
        | false ↦ λ is there. or_right (names_agree t.0 name) (list_any (like name) ts) (found_of ts there)
      ] refl there

  -- a topic of the next name is one
  pub found : (topics : List (List ℕ × ℕ)) → contains text_order topics c ≡ true → list_any (like name) topics ≡ true
  found topics there = found_of topics there

module _ (name : List ℕ) (after : Option (List ℕ)) (next : IsNextAgreeing name after None) where
  no_more : (topics : List (List ℕ × ℕ)) → AllByRecursion (λ e. like name e ≡ true → is_above after e.0 ≡ false) topics
  no_more [] = tt
  no_more (t ∷ ts) = (λ agrees. elim (is_above after t.0) as (λ b. is_above after t.0 ≡ b → b ≡ false) [ true ↦ λ is. absurd (next.least t.0 agrees (stands_above after t.0 is)) | false ↦ λ is. refl ] refl, no_more ts)

  -- without a next name that agrees no topic is left that does
  pub none_next : (topics : List (List ℕ × ℕ)) → list_any (like name) (above text_order topics after) ≡ false
  none_next topics =
      ap (list_any (like name)) (above_is topics after) ∙ (any_same (like name) (λ e. is_above after e.0) (λ e. false) topics (no_more topics) ∙ none_pass (like name) topics)
