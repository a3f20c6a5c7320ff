-- The leadership of an epoch, and what a change makes of it.
use Rattle.std.proofs.Common.{◌≡◌, ◌∙◌, sym, ℕ, zero, suc, ◌+◌, ◌<◌, ◌≤◌, Bool, true, false, cond, List, [], ◌∷◌, ◌++◌, refl, ap, subst, arith, inl, inr, ◌⊎◌}
use Rattle.std.proofs.lemmas.Bool.{eqb-true}
use Rattle.std.proofs.lemmas.Bool.Decides.{nat_tests}
use Rattle.std.specs.Prelude.{Option, None, Some, nat_eq}
use Rattle.std.specs.Option.{unwrap_or}
use Rattle.std.specs.List.{AllByRecursion}
use Rattle.law_quorum.specs.Batches.{Batch}
use Rattle.law_quorum.specs.Changes.{Append, Campaign, Change, Drop, Expire, Other, Leader, compares, is_leaderless, leads_by}
use Rattle.law_quorum.specs.History.{CarryEpoch, Leadership, Point, point_after}
use Rattle.law_quorum.specs.Laws.{CountDown, Fall, IsInOrder, IsLed, WasWritten, WasWrittenBy}
use Rattle.law_quorum.specs.Nodes.{Led}
use Rattle.law_quorum.proofs.KeptLog.{both, taken}
use Rattle.law_link.specs.Links.{IsNoAppend, leadership_at}

pub same_leadership : (a b : Leadership) → Some a ≡ Some b → a ≡ b
same_leadership a b e = ap (λ o. unwrap_or o a) e

-- where a leadership is found in a list of at least one: it is the first, or is found behind it
module _ (epoch : ℕ) (l m : Leadership) (ls : List Leadership) where
  first_or : (t : Bool) → nat_eq l.epoch epoch ≡ t → cond t (Some l) (leadership_at epoch ls) ≡ Some m
      → ((l.epoch ≡ epoch) × (l ≡ m)) ⊎ ((nat_eq l.epoch epoch ≡ false) × (leadership_at epoch ls ≡ Some m))
  first_or true e found = inl (eqb-true l.epoch epoch e, same_leadership l m found)
  first_or false e found = inr (e, found)

  pub first_or_later : leadership_at epoch (l ∷ ls) ≡ Some m → ((l.epoch ≡ epoch) × (l ≡ m)) ⊎ ((nat_eq l.epoch epoch ≡ false) × (leadership_at epoch ls ≡ Some m))
  first_or_later found = first_or (nat_eq l.epoch epoch) refl found

none_found : {X : Type 0} (m : Leadership) → None ≡ Some m → X
none_found m e = absurd cc

pub found_epoch : (epoch : ℕ) (ls : List Leadership) (m : Leadership) → leadership_at epoch ls ≡ Some m → m.epoch ≡ epoch
found_epoch epoch [] m found = none_found m found
found_epoch epoch (l ∷ ls) m found = elim (first_or_later epoch l m ls found) [
  | inl x ↦ ap (λ (y : Leadership). y.epoch) (sym x.1) ∙ x.0
  | inr y ↦ found_epoch epoch ls m y.1
]

found_low : (n epoch : ℕ) (ls : List Leadership) (m : Leadership) → CountDown n ls → leadership_at epoch ls ≡ Some m → epoch ≤ n
found_low n epoch [] m c found = none_found m found
found_low zero epoch (l ∷ ls) m c found = absurd c
found_low (suc n) epoch (l ∷ ls) m (is, c) found = elim (first_or_later epoch l m ls found) [
  | inl x ↦ (let e = x.0 in omega arith)
  | inr y ↦ (let r : epoch ≤ n = found_low n epoch ls m c y.1 in omega arith)
]

found_made : (bound epoch : ℕ) (ls : List Leadership) (m : Leadership) → Fall bound ls → leadership_at epoch ls ≡ Some m → m.made < bound
found_made bound epoch [] m f found = none_found m found
found_made bound epoch (l ∷ ls) m (here, f) found = elim (first_or_later epoch l m ls found) [
  | inl x ↦ subst (λ (y : Leadership). y.made < bound) x.1 here
  | inr y ↦ (let r : m.made < l.made = found_made l.made epoch ls m f y.1 in omega arith)
]

-- a leadership that is found led, with what it appended
pub found_led : (epoch k : ℕ) (ls : List Leadership) (m : Leadership) (wrote more : List Batch) → leadership_at epoch ls ≡ Some m → m.node ≡ k → m.wrote ≡ wrote ++ more
    → Led ls k epoch m.start wrote
found_led epoch k [] m wrote more found node is = none_found m found
found_led epoch k (l ∷ ls) m wrote more found node is = elim (first_or_later epoch l m ls found) [
  | inl x ↦ inl (record {
    holder = ap (λ (y : Leadership). y.node) x.1 ∙ node;
    number = x.0;
    began = ap (λ (y : Leadership). y.start) x.1;
    more = more;
    wrote_first = ap (λ (y : Leadership). y.wrote) x.1 ∙ is;
  })
  | inr y ↦ inr (found_led epoch k ls m wrote more y.1 node is)
]

-- the batch was written by the leadership of its epoch
pub found_wrote : (n epoch : ℕ) (ls : List Leadership) (m : Leadership) (place : ℕ) (b : Batch) → CountDown n ls → leadership_at epoch ls ≡ Some m → b.epoch ≡ epoch
    → WasWritten ls place b → WasWrittenBy m place b
found_wrote n epoch [] m place b c found at w = absurd w
found_wrote zero epoch (l ∷ ls) m place b c found at w = absurd c
found_wrote (suc n) epoch (l ∷ ls) m place b (is, c) found at w = elim (first_or_later epoch l m ls found) [
  | inl x ↦ elim w [
    | inl v ↦ subst (λ (y : Leadership). WasWrittenBy y place b) x.1 v
    | inr v ↦ (let low = written_low n ls place b c v in let e = x.0 in absurd (omega arith))
  ]
  | inr y ↦ elim w [
    | inl v ↦ (let number = v.number in let low : epoch ≤ n = found_low n epoch ls m c y.1 in absurd (omega arith))
    | inr v ↦ found_wrote n epoch ls m place b c y.1 at v
  ]
]
  where
    written_low : (n : ℕ) (ls : List Leadership) (place : ℕ) (b : Batch) → CountDown n ls → WasWritten ls place b → b.epoch ≤ n
    written_low n [] place b c w = absurd w
    written_low zero (l ∷ ls) place b c w = absurd c
    written_low (suc n) (l ∷ ls) place b (is, c) w = elim w [
      | inl v ↦ (let number = v.number in omega arith)
      | inr v ↦ (let r : b.epoch ≤ n = written_low n ls place b c v in omega arith)
    ]

-- ---- changes that append nothing

-- all leaderships that were found are found as they were, and a new one has appended nothing
pub record Stays (before after : List Leadership) : Type 0 where
  pub on : (epoch : ℕ) (m : Leadership) → leadership_at epoch before ≡ Some m → leadership_at epoch after ≡ Some m
  pub back : (epoch : ℕ) (m : Leadership) → leadership_at epoch after ≡ Some m → (leadership_at epoch before ≡ Some m) ⊎ (m.wrote ≡ [])

stays_itself : (ls : List Leadership) → Stays ls ls
stays_itself ls = record { on = λ epoch m found. found; back = λ epoch m found. inl found }

stays_behind : (n : ℕ) (l : Leadership) (ls : List Leadership) → CountDown n ls → n + 1 ≡ l.epoch → l.wrote ≡ [] → Stays ls (l ∷ ls)
stays_behind n l ls c next none = record {
  on = λ epoch m found. (
      let low : epoch ≤ n = found_low n epoch ls m c found in
      let t : nat_eq l.epoch epoch ≡ false = grind (arith, nat_tests) in
      ap (λ x. cond x (Some l) (leadership_at epoch ls)) t ∙ found);
  back = λ epoch m found. elim (first_or_later epoch l m ls found) [
    | inl x ↦ inr (ap (λ (y : Leadership). y.wrote) (sym x.1) ∙ none)
    | inr y ↦ inl y.1
  ];
}

stays_by : (p : Point) (change : Change) (holds : Bool) → compares p.keys change ≡ holds → IsInOrder p → IsNoAppend change → Stays p.leaderships (taken p change holds).leaderships
stays_by p change false is o other = stays_itself p.leaderships
stays_by p (Campaign node token epoch) true is o other =
    stays_behind p.keys.epoch (record { node = node; token = token; epoch = epoch; made = p.keys.revision + 1; start = p.log; wrote = [] }) p.leaderships o.epochs
    (eqb-true (p.keys.epoch + 1) epoch (both (is_leaderless p.keys.leader) (nat_eq (p.keys.epoch + 1) epoch) is).1) refl
stays_by p (Append made batches) true is o other = absurd other
stays_by p (Drop before image) true is o other = stays_itself p.leaderships
stays_by p Expire true is o other = stays_itself p.leaderships
stays_by p Other true is o other = stays_itself p.leaderships

pub no_append_stays : (p : Point) (change : Change) → IsInOrder p → IsNoAppend change → Stays p.leaderships (point_after p change).leaderships
no_append_stays p change o other = stays_by p change (compares p.keys change) refl o other

-- ---- appends

pub refused_stays : (p : Point) (made : ℕ) (batches : List Batch) → compares p.keys (Append made batches) ≡ false → Stays p.leaderships (point_after p (Append made batches)).leaderships
refused_stays p made batches is = subst (λ (t : Bool). Stays p.leaderships (taken p (Append made batches) t).leaderships) (sym is) (stays_itself p.leaderships)

-- who appends is the latest leadership
pub is_latest : (leader : Option Leader) (made bound epoch : ℕ) (ls : List Leadership) (m : Leadership) → leads_by leader made ≡ true → IsLed leader ls → Fall bound ls
    → leadership_at epoch ls ≡ Some m → m.made ≡ made → (rest : List Leadership) × (ls ≡ m ∷ rest)
is_latest None made bound epoch ls m leads i f found is = absurd cc
is_latest (Some leader) made bound epoch [] m leads i f found is = absurd i
is_latest (Some leader) made bound epoch (l ∷ ls) m leads i (here, f) found is = elim (first_or_later epoch l m ls found) [
  | inl x ↦ (ls, ap (λ (y : Leadership). y ∷ ls) x.1)
  | inr y ↦ (let low : m.made < l.made = found_made l.made epoch ls m f y.1 in
      let e = eqb-true leader.made made leads in let d = i.0 in absurd (omega arith))
]

-- the latest leadership goes on, and the others stay
abbrev pub longer_by : Leadership → List Batch → Leadership
longer_by l batches = record l { wrote = l.wrote ++ batches }

pub found_longer : (epoch : ℕ) (l : Leadership) (ls : List Leadership) (batches : List Batch) → l.epoch ≡ epoch → leadership_at epoch (longer_by l batches ∷ ls) ≡ Some (longer_by l batches)
found_longer epoch l ls batches is =
    let t : nat_eq l.epoch epoch ≡ true = grind (arith, nat_tests) in
    ap (λ x. cond x (Some (longer_by l batches)) (leadership_at epoch ls)) t

pub found_other : (epoch : ℕ) (l m : Leadership) (ls : List Leadership) (batches : List Batch) → leadership_at epoch (l ∷ ls) ≡ Some m
    → ((l.epoch ≡ epoch) × (l ≡ m)) ⊎ (leadership_at epoch (longer_by l batches ∷ ls) ≡ Some m)
found_other epoch l m ls batches found = elim (first_or_later epoch l m ls found) [
  | inl x ↦ inl x
  | inr y ↦ inr (ap (λ x. cond x (Some (longer_by l batches)) (leadership_at epoch ls)) y.0 ∙ y.1)
]

pub found_before : (epoch : ℕ) (l m : Leadership) (ls : List Leadership) (batches : List Batch) → leadership_at epoch (longer_by l batches ∷ ls) ≡ Some m
    → ((l.epoch ≡ epoch) × (longer_by l batches ≡ m)) ⊎ (leadership_at epoch (l ∷ ls) ≡ Some m)
found_before epoch l m ls batches found = elim (first_or_later epoch (longer_by l batches) m ls found) [
  | inl x ↦ inl x
  | inr y ↦ inr (ap (λ x. cond x (Some l) (leadership_at epoch ls)) y.0 ∙ y.1)
]

-- one key, one leadership
pub one_key : (bound e f : ℕ) (ls : List Leadership) (l m : Leadership) → Fall bound ls → leadership_at e ls ≡ Some l → leadership_at f ls ≡ Some m → l.made ≡ m.made → e ≡ f
one_key bound e f [] l m d a b same = none_found l a
one_key bound e f (x ∷ ls) l m (here, d) a b same = elim (first_or_later e x l ls a) [
  | inl p ↦ elim (first_or_later f x m ls b) [
    | inl q ↦ sym p.0 ∙ q.0
    | inr q ↦ (let low : m.made < x.made = found_made x.made f ls m d q.1 in let i = ap (λ (y : Leadership). y.made) p.1 in absurd (omega arith))
  ]
  | inr p ↦ elim (first_or_later f x m ls b) [
    | inl q ↦ (let low : l.made < x.made = found_made x.made e ls l d p.1 in let i = ap (λ (y : Leadership). y.made) q.1 in absurd (omega arith))
    | inr q ↦ one_key x.made e f ls l m d p.1 q.1 same
  ]
]

-- batches that carry the epoch of the leadership of their key
pub carries : (bound epoch made : ℕ) (batches : List Batch) (ls : List Leadership) (m : Leadership) → Fall bound ls → leadership_at epoch ls ≡ Some m → m.made ≡ made
    → AllByRecursion (λ (b : Batch). b.epoch ≡ epoch) batches → CarryEpoch made batches ls
carries bound epoch made batches [] m f found is all = tt
carries bound epoch made batches (l ∷ ls) m (here, f) found is all = elim (first_or_later epoch l m ls found) [
  | inl x ↦ ((λ same. subst (λ (n : ℕ). AllByRecursion (λ (b : Batch). b.epoch ≡ n) batches) (sym x.0) all), others l.made ls made batches f (ap (λ (y : Leadership). y.made) x.1 ∙ is))
  | inr y ↦ (let low : m.made < l.made = found_made l.made epoch ls m f y.1 in
      ((λ same. absurd (omega arith)), carries l.made epoch made batches ls m f y.1 is all))
]
  where
    others : (top : ℕ) (ls : List Leadership) (made : ℕ) (batches : List Batch) → Fall top ls → top ≡ made → CarryEpoch made batches ls
    others top [] made batches f is = tt
    others top (l ∷ ls) made batches (here, f) is = ((λ same. absurd (omega arith)), others_below l.made ls made batches f (omega arith))
      where
        others_below : (top : ℕ) (ls : List Leadership) (made : ℕ) (batches : List Batch) → Fall top ls → top ≤ made → CarryEpoch made batches ls
        others_below top [] made batches f is = tt
        others_below top (l ∷ ls) made batches (here, f) is = ((λ same. absurd (omega arith)), others_below l.made ls made batches f (omega arith))
