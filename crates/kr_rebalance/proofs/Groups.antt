-- Entries that are grouped_with one after the other are those of the definition.
use Rattle.std.proofs.Common.{◌≡◌, ◌∙◌, Bool, true, false, cond, ℕ, ℤ, List, [], ◌∷◌, ◌++◌, refl, sym, ap, subst, append_assoc, ◌<◌, ◌+◌, length, drop, get_or}
use Rattle.std.specs.Prelude.{bytes_eq}
use Rattle.std.proofs.lemmas.List.{drop_more}
use Rattle.std.proofs.lemmas.Slice.Eq.{bytes_eq-Decides}
use Rattle.kr_calls.specs.declared.elect_leaders.ElectLeadersTopic.{ElectLeadersTopic}
use Rattle.kr_rebalance.specs.declared.election.Grouping.{Grouping}
use Rattle.kr_rebalance.specs.inner.Grouping.{entries_with, grouped_with, open_entry}
use Rattle.law_balance.specs.Election.{asked_before, entries_by_topic}

abbrev entry : List ℕ → List ℤ → ElectLeadersTopic
entry topic partitions = record { topic = topic; partitions = partitions }

-- two runs of one topic are one
joined : (topic : List ℕ) (first then : List ℤ) (ts : List ElectLeadersTopic) → asked_before topic first (asked_before topic then ts) ≡ asked_before topic (first ++ then) ts
joined topic first then [] = ap (λ b. cond b (entry topic (first ++ then) ∷ []) (entry topic first ∷ entry topic then ∷ [])) ((bytes_eq-Decides topic topic).1 refl)
joined topic first then (t ∷ ts) =
    let same : bytes_eq topic topic ≡ true = (bytes_eq-Decides topic topic).1 refl in
    elim (bytes_eq t.topic topic) as (λ b. asked_before topic first (cond b (entry topic (then ++ t.partitions) ∷ ts) (entry topic then ∷ t ∷ ts)) ≡ cond b (entry topic ((first ++ then) ++ t.partitions) ∷ ts) (entry topic (first ++ then) ∷ t ∷ ts)) [
      | true ↦
          ap (λ b. cond b (entry topic (first ++ (then ++ t.partitions)) ∷ ts) (entry topic first ∷ entry topic (then ++ t.partitions) ∷ ts)) same
          ∙ ap (λ ids. entry topic ids ∷ ts) (sym (append_assoc first then t.partitions))
      | false ↦ ap (λ b. cond b (entry topic (first ++ then) ∷ t ∷ ts) (entry topic first ∷ entry topic then ∷ t ∷ ts)) same
    ]

-- those of two topics are two
apart : (topic other : List ℕ) (first then : List ℤ) (ts : List ElectLeadersTopic) → bytes_eq other topic ≡ false → asked_before topic first (asked_before other then ts) ≡ entry topic first ∷ asked_before other then ts
apart topic other first then [] differ = ap (λ b. cond b (entry topic (first ++ then) ∷ []) (entry topic first ∷ entry other then ∷ [])) differ
apart topic other first then (t ∷ ts) differ =
    elim (bytes_eq t.topic other) as (λ b. asked_before topic first (cond b (entry other (then ++ t.partitions) ∷ ts) (entry other then ∷ t ∷ ts)) ≡ entry topic first ∷ cond b (entry other (then ++ t.partitions) ∷ ts) (entry other then ∷ t ∷ ts)) [
      | true ↦ ap (λ b. cond b (entry topic (first ++ (then ++ t.partitions)) ∷ ts) (entry topic first ∷ entry other (then ++ t.partitions) ∷ ts)) differ
      | false ↦ ap (λ b. cond b (entry topic (first ++ then) ∷ t ∷ ts) (entry topic first ∷ entry other then ∷ t ∷ ts)) differ
    ]

pub grouped_more : (g : Grouping) (n : List ℕ × ℤ) (ns : List (List ℕ × ℤ)) → entries_with (grouped_with g n) ns ≡ entries_with g (n ∷ ns)
grouped_more g n ns =
    let ts = entries_by_topic ns in
    elim (bytes_eq n.0 g.topic) as (λ b. bytes_eq n.0 g.topic ≡ b → entries_with (cond b (record g { partitions = g.partitions ++ n.1 ∷ [] }) (record { done = g.done ++ open_entry g ∷ []; topic = n.0; partitions = n.1 ∷ [] })) ns ≡ entries_with g (n ∷ ns)) [
      | true ↦ λ is.
          let same : n.0 ≡ g.topic = (bytes_eq-Decides n.0 g.topic).0 is in
          ap (λ es. g.done ++ es) (sym (joined g.topic g.partitions (n.1 ∷ []) ts) ∙ ap (λ name. asked_before g.topic g.partitions (asked_before name (n.1 ∷ []) ts)) (sym same))
      | false ↦ λ is.
          append_assoc g.done (open_entry g ∷ []) (asked_before n.0 (n.1 ∷ []) ts) ∙ ap (λ es. g.done ++ es) (sym (apart g.topic n.0 g.partitions (n.1 ∷ []) ts is))
    ] refl

-- the next one of a list joins
pub grouped_here : (g after : Grouping) (ns : List (List ℕ × ℤ)) (i : ℕ) (n : List ℕ × ℤ) (topics : List ElectLeadersTopic) → i < length ns → n ≡ get_or ns i n → after ≡ grouped_with g n → entries_with g (drop i ns) ≡ topics → entries_with after (drop (i + 1) ns) ≡ topics
grouped_here g after ns i n topics within is joins so_far =
    ap (λ (x : Grouping). entries_with x (drop (i + 1) ns)) joins
    ∙ (grouped_more g n (drop (i + 1) ns) ∙ (ap (λ (xs : List (List ℕ × ℤ)). entries_with g xs) (sym (drop_more ns i n within ∙ ap (λ (x : List ℕ × ℤ). x ∷ drop (i + 1) ns) (sym is))) ∙ so_far))
