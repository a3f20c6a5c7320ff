-- Names without `.` and `_` agree with no other name.
use Rattle.std.proofs.Common.{◌≡◌, ◌∙◌, ℕ, true, false, cond, List, [], ◌∷◌, map, refl, sym, ap, arith, ◌||◌}
use Rattle.std.specs.Prelude.{Some, is_some, ◌==◌, bytes_eq, nat_eq}
use Rattle.std.specs.declared.cmp.Ordering.TheVariants.{Equal}
use Rattle.std.specs.Ordering.{is_eq}
use Rattle.std.specs.List.{list_any}
use Rattle.std.proofs.lemmas.Bool.Decides.{nat_tests}
use Rattle.kr_defs.specs.Map.{contains, get, text_order}
use Rattle.kr_defs.specs.Texts.{as_underscore, names_agree}
use Rattle.kr_defs.proofs.ImageParts.{text_total}
use Rattle.kr_defs.proofs.Tests.{both, neither}
use Rattle.kr_topics.proofs.TopicSettings.{mirrored}

-- a byte that stands for itself alone
plain_byte : (b n : ℕ) → (n == 46) ≡ false → (n == 95) ≡ false → nat_eq (as_underscore b) (as_underscore n) ≡ true → b ≡ n
plain_byte b n dot line is = grind (arith, nat_tests)

agree_same : (other name : List ℕ) → list_any (λ byte. byte == 46 || byte == 95) name ≡ false → names_agree other name ≡ true → other ≡ name
agree_same [] [] plain is = refl
agree_same [] (n ∷ ns) plain is = absurd cc
agree_same (b ∷ bs) [] plain is = absurd cc
agree_same (b ∷ bs) (n ∷ ns) plain is =
    let parts = neither (n == 46 || n == 95) (list_any (λ byte. byte == 46 || byte == 95) ns) plain in
    let first = neither (n == 46) (n == 95) parts.0 in
    let equal = both (nat_eq (as_underscore b) (as_underscore n)) (bytes_eq (map as_underscore bs) (map as_underscore ns)) is in
    let here : b ≡ n = plain_byte b n first.0 first.1 equal.0 in
    let rest : bs ≡ ns = agree_same bs ns parts.1 equal.1 in
    cc

pub none_agrees : (topics : List (List ℕ × ℕ)) (name : List ℕ) → list_any (λ byte. byte == 46 || byte == 95) name ≡ false → contains text_order topics name ≡ false → list_any (λ (topic : List ℕ × ℕ). names_agree topic.0 name) topics ≡ false
none_agrees [] name plain none = refl
none_agrees (t ∷ ts) name plain none =
    elim (names_agree t.0 name) as (λ b. names_agree t.0 name ≡ b → (b || list_any (λ (topic : List ℕ × ℕ). names_agree topic.0 name) ts) ≡ false) [
      | true ↦ λ is.
          let same : text_order name t.0 ≡ Equal = ap (text_order name) (agree_same t.0 name plain is) ∙ mirrored (text_order name name) (text_total.antisymm name name) in
          let some : is_some (cond (is_eq (text_order name t.0)) (Some t.1) (get text_order ts name)) ≡ true = rw same refl in
          let against : true ≡ false = sym some ∙ none in
          absurd cc
      | false ↦ λ is. elim (is_eq (text_order name t.0)) as (λ b. is_some (cond b (Some t.1) (get text_order ts name)) ≡ false → list_any (λ (topic : List ℕ × ℕ). names_agree topic.0 name) ts ≡ false) [
        | true ↦ λ none. absurd cc
        | false ↦ λ none. none_agrees ts name plain none
      ] none
    ] refl
