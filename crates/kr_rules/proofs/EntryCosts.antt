-- What entries cost, one after the other.
use Rattle.std.proofs.Common.{◌≡◌, ◌≤◌, ◌<◌, ◌+◌, ℕ, ℤ, true, false, cond, List, [], ◌∷◌, length, refl, ap, subst, arith, drop, get_or, map}
use Rattle.std.specs.Prelude.{Option, Some, None, IfSome, Result, Ok}
use Rattle.kr_defs.specs.Image.{Image}
use Rattle.kr_calls.specs.declared.deciding.Draft.{Draft}
use Rattle.kr_calls.specs.Deciding.{Work, one, after_all}
use Rattle.kr_rules.specs.Costs.{is_undone, draft_cost, plus, cost, group_cost}
use Rattle.kr_rules.proofs.SingleEntries.{here_of, refused_item, rule_item, done_item}

pub if_any : {T : Type 0} {P : T → Type 0} (o : Option T) → ((x : T) → P x) → IfSome o P
if_any None p = tt
if_any (Some x) p = p x

pub if_weaker : {T : Type 0} {P Q : T → Type 0} (o : Option T) → ((x : T) → P x → Q x) → IfSome o P → IfSome o Q
if_weaker None step p = tt
if_weaker (Some x) step p = step x p

pub if_same : {T : Type 0} {P Q : T → Type 0} (o p : Option T) → o ≡ p → ((x : T) → P x → Q x) → IfSome o P → IfSome p Q
if_same {T} {P} o p is step h = if_weaker p step (subst (λ (o : Option T). IfSome o P) is h)

-- a draft that isn't undone costs its records
pub own_draft : {A : Type 0} (image : Image) (meaning : Result (Draft A) ℤ) (draft : Draft A) (P : ℕ → Type 0) → meaning ≡ Ok draft → (is_undone image draft.records ≡ false → P (length draft.records)) → IfSome (draft_cost image meaning) P
own_draft image meaning draft P is step =
    rw is (elim (is_undone image draft.records) as (λ b. (b ≡ false → P (length draft.records)) → IfSome (cond b None (Some (length draft.records))) P) [ true ↦ λ step. tt | false ↦ λ step. step refl ] step)

-- so many steps were taken, and what is left goes no further than that
abbrev pub Reach : Option ℕ → ℕ → ℕ → Type 0
Reach (Some more) steps limit = steps + more ≤ limit
Reach None steps limit = ⊥

pub outset : (o : Option ℕ) (steps : ℕ) → IfSome o (λ n. Reach o steps (steps + n))
outset None steps = tt
outset (Some n) steps = omega arith

pub spend : (first rest : Option ℕ) (steps now limit : ℕ) → IfSome first (λ n. now ≤ steps + n) → Reach (plus first rest) steps limit → Reach rest now limit
spend (Some x) (Some y) steps now limit less reach = omega (arith, less, reach)
spend (Some x) None steps now limit less reach = absurd reach
spend None rest steps now limit less reach = absurd reach

module _ {E A : Type 0} (refused : ℤ → E → A) (rule : Image → ℤ → E → Result (Draft A) ℤ) where
  -- an entry more
  pub spend_here : (w after : Work) (answer : A) (entries : List E) (i : ℕ) (entry : E) (steps now : ℕ) (all : Option ℕ) → i < length entries → entry ≡ get_or entries i entry → one refused rule w entry ≡ (after, answer)
      → IfSome (draft_cost w.image (rule w.image w.place entry)) (λ n. now ≤ steps + n)
      → (start : ℕ) → IfSome all (λ n. Reach (cost refused rule w (drop i entries)) steps (start + n)) → IfSome all (λ n. Reach (cost refused rule after (drop (i + 1) entries)) now (start + n))
  spend_here w after answer entries i entry steps now all within is did less start reach =
      if_weaker all (λ n reach. spend (draft_cost w.image (rule w.image w.place entry)) (cost refused rule after (drop (i + 1) entries)) steps now (start + n) less (
      rw (here_of entries i entry within is, did) at reach)) reach

  module _ {I : Type 0} (f : I → E) where
    pub cost_mapped : (w : Work) (items : List I) → cost (refused_item refused rule f) (rule_item refused rule f) w items ≡ cost refused rule w (map f items)
    cost_mapped w [] = refl
    cost_mapped w (item ∷ items) = rw (done_item refused rule f w item (rule w.image w.place (f item))) (ap (plus (draft_cost w.image (rule w.image w.place (f item)))) (cost_mapped (one refused rule w (f item)).0 items))

  module _ {G : Type 0} (entries_of : G → List E) where
    pub spend_group : (w after : Work) (groups : List G) (i : ℕ) (group : G) (steps now : ℕ) (all : Option ℕ) → i < length groups → group ≡ get_or groups i group → after ≡ after_all refused rule w (entries_of group)
        → IfSome (cost refused rule w (entries_of group)) (λ n. now ≤ steps + n)
        → (start : ℕ) → IfSome all (λ n. Reach (group_cost refused rule entries_of w (drop i groups)) steps (start + n)) → IfSome all (λ n. Reach (group_cost refused rule entries_of after (drop (i + 1) groups)) now (start + n))
    spend_group w after groups i group steps now all within is then less start reach =
        rw then (if_weaker all (λ n reach. spend (cost refused rule w (entries_of group)) (group_cost refused rule entries_of (after_all refused rule w (entries_of group)) (drop (i + 1) groups)) steps now (start + n) less (
        rw (here_of groups i group within is) at reach)) reach)
