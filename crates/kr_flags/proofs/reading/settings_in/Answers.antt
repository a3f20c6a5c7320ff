use Rattle.std.proofs.Common.{rules, ◌≡◌, ◌∙◌, ◌<◌, ◌⊎◌, ℕ, List, Option, Some, None, codes, map, option_map, refl, sym, ap, inl, inr, pos}
use Rattle.std.specs.Prelude.{option_and_then, IsSomeAnd}
use Rattle.std.specs.Borrow.{Bor}
use Rattle.kr_defs.specs.Texts.{decimal_up_to}
use Rattle.kr_flags.specs.Words.{AreWrong, SaysClients, value_given}
use Rattle.kr_flags.proofs.reading.settings_in.Goals as goal

-- the answer of `get_str` and what the words say are the same
clients_said : (words : List (List ℕ)) (text : Option (Bor (List ℕ))) (n : ℕ) → option_map (λ t. t.now) text ≡ value_given (codes "clients") words
    → ((text ≡ None) × (n ≡ 8)) ⊎ IsSomeAnd text (λ t. (decimal_up_to 63 t.now ≡ Some n) × (0 < n)) → SaysClients words n
clients_said words None n same (inl h) = inl (sym same, h.1)
clients_said words None n same (inr h) = absurd h
clients_said words (Some t) n same (inl h) = cc
clients_said words (Some t) n same (inr h) = inr (ap (option_and_then (decimal_up_to 63)) (sym same) ∙ h.0, h.1)

clients_wrong : (words : List (List ℕ)) (text : Option (Bor (List ℕ))) → option_map (λ t. t.now) text ≡ value_given (codes "clients") words
    → IsSomeAnd text (λ t. (decimal_up_to 63 t.now ≡ None) ⊎ (decimal_up_to 63 t.now ≡ Some 0)) → AreWrong words
clients_wrong words None same h = absurd h
clients_wrong words (Some t) same (inl h) = AreWrong.clients t.now (sym same) (inl (ap (option_and_then (decimal_up_to 63)) (sym same) ∙ h))
clients_wrong words (Some t) same (inr h) = AreWrong.clients t.now (sym same) (inr (ap (option_and_then (decimal_up_to 63)) (sym same) ∙ h))

pub returns-then-cluster-gt-LONGEST_CLUSTER-clause-refused : goal.returns-then-cluster-gt-LONGEST_CLUSTER-clause-refused
returns-then-cluster-gt-LONGEST_CLUSTER-clause-refused c = λ refused.
    AreWrong.cluster c.value-cluster.result.now (sym (c.in_ok-matches.ensures.values (codes "cluster")) ∙ c.value-cluster.ensures) (search rules)

pub returns-in-None-clients_of-clause-refused : goal.returns-in-None-clients_of-clause-refused
returns-in-None-clients_of-clause-refused c = λ refused.
    clients_wrong (map (λ s. s.now) c.args.words.now) c.get_str.result (c.get_str.ensures ∙ c.in_ok-matches.ensures.values (codes "clients")) (c.in-None-clients_of.ensures.none refl)

pub returns-clause-says : goal.returns-clause-says
returns-clause-says c =
    let said = λ (name : List ℕ). sym (c.in_ok-matches.ensures.values name) in record {
      listen = said (codes "listen") ∙ (c.value-3.ensures ∙ ap Some (sym c.in_ok-from_str.ensures));
      node = ap (λ t. option_map pos (option_and_then (decimal_up_to 2147483647) t)) (said (codes "node") ∙ c.value.ensures) ∙ search rules;
      cluster = said (codes "cluster") ∙ (c.value-cluster.ensures ∙ ap Some (sym c.in_ok-from_str-2.ensures));
      short = search rules;
      salt = ap (option_and_then (decimal_up_to 18446744073709551615)) (said (codes "salt") ∙ c.value-2.ensures) ∙ search rules;
      link = said (codes "link") ∙ (sym c.get_str-2.ensures ∙ sym c.in_ok-link_of.ensures);
      clients = clients_said (map (λ s. s.now) c.args.words.now) c.get_str.result c.in-Some-clients_of.clients (c.get_str.ensures ∙ c.in_ok-matches.ensures.values (codes "clients")) c.in-Some-clients_of.ensures.some;
    }
