-- What a request asks for is what was named, in order.
use Rattle.std.proofs.Common.{◌≡◌, ◌∙◌, Bool, true, false, cond, ℕ, ℤ, List, [], ◌∷◌, ◌++◌, refl, sym, ap, subst, append_assoc}
use Rattle.std.specs.Prelude.{map, bytes_eq}
use Rattle.std.specs.List.{flat_map}
use Rattle.std.proofs.lemmas.List.{append-nil, map-append}
use Rattle.std.proofs.lemmas.Slice.Eq.{bytes_eq-Decides}
use Rattle.kr_calls.specs.declared.elect_leaders.ElectLeadersTopic.{ElectLeadersTopic}
use Rattle.kr_calls.specs.ElectLeaders.{Entry, Group, entries_of}
use Rattle.law_balance.specs.Election.{asked_before, entries_by_topic}

abbrev pub group_of : ElectLeadersTopic → Group
group_of t = (t.topic, t.partitions)

-- each index with the name of its topic
abbrev entries : List ℕ → List ℤ → List Entry
entries topic indexes = map (λ index. (topic, index)) indexes

-- what all groups ask for
abbrev pub all_asked : List ElectLeadersTopic → List Entry
all_asked ts = flat_map entries_of (map group_of ts)

before_asked : (topic : List ℕ) (indexes : List ℤ) (ts : List ElectLeadersTopic) → all_asked (asked_before topic indexes ts) ≡ entries topic indexes ++ all_asked ts
before_asked topic indexes [] = refl
before_asked topic indexes (t ∷ ts) =
    let one : ElectLeadersTopic = record { topic = topic; partitions = indexes ++ t.partitions } in
    let two : ElectLeadersTopic = record { topic = topic; partitions = indexes } in
    elim (bytes_eq t.topic topic) as (λ b. bytes_eq t.topic topic ≡ b → all_asked (cond b (one ∷ ts) (two ∷ t ∷ ts)) ≡ entries topic indexes ++ (entries t.topic t.partitions ++ all_asked ts)) [
      | true ↦ λ is.
          let same : t.topic ≡ topic = (bytes_eq-Decides t.topic topic).0 is in
          ap (λ es. es ++ all_asked ts) (map-append (λ (index : ℤ). (topic, index)) indexes t.partitions)
          ∙ (append_assoc (entries topic indexes) (entries topic t.partitions) (all_asked ts)
          ∙ ap (λ name. entries topic indexes ++ (entries name t.partitions ++ all_asked ts)) (sym same))
      | false ↦ λ is. refl
    ] refl

pub named_asked : (ns : List Entry) → all_asked (entries_by_topic ns) ≡ ns
named_asked [] = refl
named_asked (n ∷ ns) = before_asked n.0 (n.1 ∷ []) (entries_by_topic ns) ∙ ap (λ (es : List Entry). n ∷ es) (named_asked ns)
