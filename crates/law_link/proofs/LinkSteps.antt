-- Each step hands in what it may, and keeps what links know right.
use Rattle.std.proofs.Common.{◌≡◌, ◌∙◌, sym, ℕ, ◌+◌, ◌<◌, ◌≤◌, Bool, nat_eq, true, false, cond, List, [], ◌∷◌, ◌++◌, refl, ap, subst, arith, inl, inr, ◌⊎◌}
use Rattle.std.proofs.lemmas.Bool.{eqb-true}
use Rattle.std.proofs.lemmas.Bool.Decides.{nat_tests}
use Rattle.std.specs.Prelude.{Option, None, Some, nat_le}
use Rattle.std.specs.Option.{unwrap_or}
use Rattle.std.specs.List.{AllByRecursion}
use Rattle.law_quorum.specs.Batches.{Batch, Meet, ImageStandsFor, behind}
use Rattle.law_quorum.specs.Changes.{base_of_first}
use Rattle.law_quorum.specs.History.{Leadership}
use Rattle.law_quorum.specs.Nodes.{Node, ended_batches, unended_batches}
use Rattle.law_quorum.proofs.Places.{behind_grows, meet_before}
use Rattle.law_quorum.proofs.ReadKeys.{AllCarry}
use Rattle.law_quorum.proofs.FedNodes.{IsCluster}
use Rattle.law_link.specs.Links.{Call, Has, Held, Keep, Link, TookLeadership, Web, leadership_at}
use Rattle.law_link.proofs.FoundLeaderships.{Stays}

-- ---- what is known

-- what a node's link called for: by a leadership of its own, batches of its epoch that meet
pub record CallRight (ls : List Leadership) (k : ℕ) (won : List ℕ) (call : Call) : Type 0 where
  pub leadership : Leadership
  pub found : leadership_at call.epoch ls ≡ Some leadership
  pub holder : leadership.node ≡ k
  pub key : leadership.made ≡ call.made
  pub taken_once : Has call.epoch won
  pub meet : Meet (base_of_first call.group) call.group
  pub some : base_of_first call.group < behind (base_of_first call.group) call.group
  pub carry : AllByRecursion (λ b. b.epoch ≡ call.epoch) call.group

-- those of an epoch
abbrev pub of_epoch : ℕ → List Batch → List Batch
of_epoch epoch [] = []
of_epoch epoch (b ∷ bs) = cond (nat_eq b.epoch epoch) (b ∷ of_epoch epoch bs) (of_epoch epoch bs)

-- a leadership that its node's daemon wasn't told of: nothing was appended for it, and nothing was called for
pub record Waits (ls : List Leadership) (k : ℕ) (link : Link) (h : Held) : Type 0 where
  pub took : TookLeadership ls k h
  pub taken_once : Has h.epoch link.won
  pub none : took.leadership.wrote ≡ []
  pub uncalled : AllByRecursion (λ c. c.epoch ≡ h.epoch → ⊥) link.calls
  pub unheard : of_epoch h.epoch link.pipe ≡ []

-- one that leads: it appended what was committed, or that and what was asked
pub record Runs (ls : List Leadership) (k : ℕ) (n : Node) (link : Link) (h : Held) (epoch : ℕ) : Type 0 where
  pub took : TookLeadership ls k h
  pub taken_once : Has h.epoch link.won
  pub number : epoch ≡ h.epoch
  pub wrote : (took.leadership.wrote ≡ n.settled) ⊎ (took.leadership.wrote ≡ n.settled ++ link.asked)
  pub rest : List Batch
  pub own : n.own ≡ link.asked ++ rest
  pub heard : rest ≡ link.waits ++ of_epoch h.epoch link.pipe
  pub meet : Meet n.end n.own
  pub carry : AllByRecursion (λ b. b.epoch ≡ h.epoch) n.own
  pub ends : behind 0 (took.leadership.start ++ n.settled) ≡ n.end
  pub tried : AllByRecursion (λ c. c.epoch ≡ h.epoch → (base_of_first c.group < n.end) ⊎ (c.group ≡ link.asked)) link.calls

abbrev pub RightAt : List Leadership → ℕ → Node → Link → Option Held → Option ℕ → Type 0
RightAt ls k n link None None = Unit {0}
RightAt ls k n link None (Some epoch) = ⊥
RightAt ls k n link (Some h) None = Waits ls k link h
RightAt ls k n link (Some h) (Some epoch) = Runs ls k n link h epoch

abbrev pub IsRight : List Leadership → ℕ → Node → Link → Type 0
IsRight ls k n link = RightAt ls k n link link.held n.leads

-- an image that was given stands for a beginning of the log
abbrev pub IsKept : (List Batch → List ℕ) → List Batch → Keep → Type 0
IsKept make log keep = (keep.before < keep.image.offset) × ImageStandsFor make log keep.image

pub record IsWeb (make : List Batch → List ℕ) (w : Web) : Type 0 where
  pub cluster : IsCluster make w.cluster
  pub carry : AllCarry w.cluster.point.leaderships
  pub calls : (k : ℕ) → AllByRecursion (CallRight w.cluster.point.leaderships k (w.links k).won) (w.links k).calls
  pub unused : (epoch : ℕ) (l : Leadership) → leadership_at epoch w.cluster.point.leaderships ≡ Some l → (l.wrote ≡ []) ⊎ Has epoch (w.links l.node).won
  pub right : (k : ℕ) → IsRight w.cluster.point.leaderships k (w.cluster.nodes k) (w.links k)
  pub keeps : (k : ℕ) → AllByRecursion (IsKept make w.cluster.point.log) (w.links k).keeps
  pub piped : (k : ℕ) → AllByRecursion (λ b. Has b.epoch (w.links k).won) (w.links k).pipe

-- ---- lists

pub all_map : {X : Type 0} (P Q : X → Type 0) → ((x : X) → P x → Q x) → (xs : List X) → AllByRecursion P xs → AllByRecursion Q xs
all_map P Q f [] a = tt
all_map P Q f (x ∷ xs) (h, a) = (f x h, all_map P Q f xs a)

pub all_map2 : {X : Type 0} (O P Q : X → Type 0) → ((x : X) → O x → P x → Q x) → (xs : List X) → AllByRecursion O xs → AllByRecursion P xs → AllByRecursion Q xs
all_map2 O P Q f [] o a = tt
all_map2 O P Q f (x ∷ xs) (g, o) (h, a) = (f x g h, all_map2 O P Q f xs o a)

pub all_before : {X : Type 0} (P : X → Type 0) (xs ys : List X) → AllByRecursion P (xs ++ ys) → AllByRecursion P xs
all_before P [] ys a = tt
all_before P (x ∷ xs) ys (h, a) = (h, all_before P xs ys a)

pub has_all : {X : Type 0} (P : X → Type 0) (x : X) (xs : List X) → AllByRecursion P xs → Has x xs → P x
has_all P x [] a h = absurd h
has_all P x (y ∷ ys) (here, a) h = elim h [ inl e ↦ subst P (sym e) here | inr r ↦ has_all P x ys a r ]

-- batches up to the end of the first ones are those
pub up_to : (from : ℕ) (xs ys : List Batch) → Meet from (xs ++ ys) → (ended_batches (behind from xs) (xs ++ ys) ≡ xs) × (unended_batches (behind from xs) (xs ++ ys) ≡ ys)
up_to from [] [] m = (refl, refl)
up_to from [] (y ∷ ys) (at, some, m) =
    let t : nat_le (y.base + y.count) from ≡ false = grind (arith, nat_tests) in
    (ap (λ x. cond x (y ∷ ended_batches from ys) []) t, ap (λ x. cond x (unended_batches from ys) (y ∷ ys)) t)
up_to from (x ∷ xs) ys (at, some, m) =
    let low : from + x.count ≤ behind (from + x.count) xs = behind_grows (from + x.count) xs (meet_before (from + x.count) xs ys m) in
    let t : nat_le (x.base + x.count) (behind (from + x.count) xs) ≡ true = grind (arith, nat_tests) in
    let r = up_to (from + x.count) xs ys m in
    let end = behind (from + x.count) xs in (
      ap (λ z. cond z (x ∷ ended_batches end (xs ++ ys)) []) t ∙ ap (λ (zs : List Batch). x ∷ zs) r.0,
      ap (λ z. cond z (unended_batches end (xs ++ ys)) (x ∷ xs ++ ys)) t ∙ r.1,
    )

pub grows : (from : ℕ) (b : Batch) (bs : List Batch) → Meet from (b ∷ bs) → from < behind from (b ∷ bs)
grows from b bs (at, some, m) = let h : from + b.count ≤ behind (from + b.count) bs = behind_grows (from + b.count) bs m in omega arith

-- ---- by the state of link and node

-- what is right stays so where leaderships that were found are found
pub right_later : (before after : List Leadership) (k : ℕ) (n : Node) (link : Link) → Stays before after → (held : Option Held) (leads : Option ℕ)
    → RightAt before k n link held leads → RightAt after k n link held leads
right_later before after k n link s None None r = tt
right_later before after k n link s None (Some epoch) r = r
right_later before after k n link s (Some h) None r = record {
  took = record { leadership = r.took.leadership; found = s.on h.epoch r.took.leadership r.took.found; holder = r.took.holder; key = r.took.key; began = r.took.began };
  taken_once = r.taken_once;
  none = r.none;
  uncalled = r.uncalled;
  unheard = r.unheard;
}
right_later before after k n link s (Some h) (Some epoch) r = record {
  took = record { leadership = r.took.leadership; found = s.on h.epoch r.took.leadership r.took.found; holder = r.took.holder; key = r.took.key; began = r.took.began };
  taken_once = r.taken_once;
  number = r.number;
  wrote = r.wrote;
  rest = r.rest;
  own = r.own;
  heard = r.heard;
  meet = r.meet;
  carry = r.carry;
  ends = r.ends;
  tried = r.tried;
}

pub call_later : (before after : List Leadership) (k : ℕ) (won : List ℕ) → Stays before after → (c : Call) → CallRight before k won c → CallRight after k won c
call_later before after k won s c r = record {
  leadership = r.leadership;
  found = s.on c.epoch r.leadership r.found;
  holder = r.holder;
  key = r.key;
  taken_once = r.taken_once;
  meet = r.meet;
  some = r.some;
  carry = r.carry;
}

-- a node on standby whose link holds nothing
pub no_more : (ls : List Leadership) (k : ℕ) (n : Node) (link : Link) (held : Option Held) (leads : Option ℕ) → held ≡ None → RightAt ls k n link held leads → leads ≡ None
no_more ls k n link None None e r = refl
no_more ls k n link None (Some epoch) e r = absurd r
no_more ls k n link (Some h) leads e r = absurd cc

pub held_is : (a b : Held) → Some a ≡ Some b → a ≡ b
held_is a b e = ap (λ o. unwrap_or o a) e

pub waits_at : (ls : List Leadership) (k : ℕ) (n : Node) (link : Link) (h : Held) → link.held ≡ Some h → n.leads ≡ None → IsRight ls k n link → Waits ls k link h
waits_at ls k n link h held leads r = subst (λ (o : Option Held). RightAt ls k n link o None) held (subst (λ (o : Option ℕ). RightAt ls k n link link.held o) leads r)

pub runs_at : (ls : List Leadership) (k : ℕ) (n : Node) (link : Link) (h : Held) (epoch : ℕ) → link.held ≡ Some h → n.leads ≡ Some epoch → IsRight ls k n link → Runs ls k n link h epoch
runs_at ls k n link h epoch held leads r = subst (λ (o : Option Held). RightAt ls k n link o (Some epoch)) held (subst (λ (o : Option ℕ). RightAt ls k n link link.held o) leads r)

-- a node that isn't told to lead nor stops leading, where its link stays the same
pub standing : (ls : List Leadership) (k : ℕ) (n m : Node) (link : Link) (held : Option Held) → m.leads ≡ None → RightAt ls k n link held None → RightAt ls k m link held m.leads
standing ls k n m link None e r = subst (λ (o : Option ℕ). RightAt ls k m link None o) (sym e) tt
standing ls k n m link (Some h) e r = subst (λ (o : Option ℕ). RightAt ls k m link (Some h) o) (sym e) r

-- images that are kept change nothing of it
pub right_kept : (ls : List Leadership) (k : ℕ) (n : Node) (link : Link) (keeps : List Keep) (held : Option Held) (leads : Option ℕ)
    → RightAt ls k n link held leads → RightAt ls k n (record link { keeps = keeps }) held leads
right_kept ls k n link keeps None None r = tt
right_kept ls k n link keeps None (Some epoch) r = r
right_kept ls k n link keeps (Some h) None r = record { took = r.took; taken_once = r.taken_once; none = r.none; uncalled = r.uncalled; unheard = r.unheard }
right_kept ls k n link keeps (Some h) (Some epoch) r = record {
  took = r.took;
  taken_once = r.taken_once;
  number = r.number;
  wrote = r.wrote;
  rest = r.rest;
  own = r.own;
  heard = r.heard;
  meet = r.meet;
  carry = r.carry;
  ends = r.ends;
  tried = r.tried;
}

-- ---- batches under way

pub of_append : (epoch : ℕ) (xs ys : List Batch) → of_epoch epoch (xs ++ ys) ≡ of_epoch epoch xs ++ of_epoch epoch ys
of_append epoch [] ys = refl
of_append epoch (x ∷ xs) ys = elim (nat_eq x.epoch epoch) as (λ t. cond t (x ∷ of_epoch epoch (xs ++ ys)) (of_epoch epoch (xs ++ ys)) ≡ cond t (x ∷ of_epoch epoch xs) (of_epoch epoch xs) ++ of_epoch epoch ys) [
  | true ↦ ap (λ (zs : List Batch). x ∷ zs) (of_append epoch xs ys)
  | false ↦ of_append epoch xs ys
]

pub of_this : (epoch : ℕ) (b : Batch) (bs : List Batch) → b.epoch ≡ epoch → of_epoch epoch (b ∷ bs) ≡ b ∷ of_epoch epoch bs
of_this epoch b bs same =
    let t : nat_eq b.epoch epoch ≡ true = grind (arith, nat_tests) in
    ap (λ x. cond x (b ∷ of_epoch epoch bs) (of_epoch epoch bs)) t

pub of_other : (epoch : ℕ) (b : Batch) (bs : List Batch) → (b.epoch ≡ epoch → ⊥) → of_epoch epoch (b ∷ bs) ≡ of_epoch epoch bs
of_other epoch b bs other = by (nat_eq b.epoch epoch) refl
  where
    by : (t : Bool) → nat_eq b.epoch epoch ≡ t → cond t (b ∷ of_epoch epoch bs) (of_epoch epoch bs) ≡ of_epoch epoch bs
    by true e = absurd (other (eqb-true b.epoch epoch e))
    by false e = refl

pub none_of : (epoch : ℕ) (bs : List Batch) → AllByRecursion (λ (b : Batch). b.epoch ≡ epoch → ⊥) bs → of_epoch epoch bs ≡ []
none_of epoch [] a = refl
none_of epoch (b ∷ bs) (here, a) = of_other epoch b bs here ∙ none_of epoch bs a

-- of an epoch of which none is under way, none is behind the first
pub none_behind : (epoch : ℕ) (b : Batch) (bs : List Batch) → of_epoch epoch (b ∷ bs) ≡ [] → of_epoch epoch bs ≡ []
none_behind epoch b bs none = by (nat_eq b.epoch epoch) none
  where
    by : (t : Bool) → cond t (b ∷ of_epoch epoch bs) (of_epoch epoch bs) ≡ [] → of_epoch epoch bs ≡ []
    by true e = absurd cc
    by false e = e

-- others are under way, of which none is of the epoch that is held
pub right_piped : (ls : List Leadership) (k : ℕ) (n : Node) (link : Link) (pipe : List Batch) (held : Option Held) (leads : Option ℕ)
    → ((h : Held) → held ≡ Some h → of_epoch h.epoch link.pipe ≡ of_epoch h.epoch pipe)
    → RightAt ls k n link held leads → RightAt ls k n (record link { pipe = pipe }) held leads
right_piped ls k n link pipe None None same r = tt
right_piped ls k n link pipe None (Some epoch) same r = r
right_piped ls k n link pipe (Some h) None same r = record { took = r.took; taken_once = r.taken_once; none = r.none; uncalled = r.uncalled; unheard = sym (same h refl) ∙ r.unheard }
right_piped ls k n link pipe (Some h) (Some epoch) same r = record {
  took = r.took;
  taken_once = r.taken_once;
  number = r.number;
  wrote = r.wrote;
  rest = r.rest;
  own = r.own;
  heard = r.heard ∙ ap (λ (x : List Batch). link.waits ++ x) (same h refl);
  meet = r.meet;
  carry = r.carry;
  ends = r.ends;
  tried = r.tried;
}
