-- An imbalanced partition goes back to its preferred leader.
use Rattle.std.proofs.Common.{◌≡◌, ◌∙◌, sym, subst, refl, ap, arith, Bool, true, false, not, cond, ◌&&◌, ◌||◌, ◌==◌, ℕ, ◌+◌, length, List, [], ◌∷◌, ◌++◌, ℤ, Option, Some, None}
use Rattle.std.proofs.lemmas.Bool.{and_parts, and_from, cases_Bool}
use Rattle.std.specs.Prelude.{IsSomeAnd, unwrap_or, nat_lt, is_none, slice_get, negsuc}
use Rattle.std.specs.Ordering.{int_eq}
use Rattle.std.specs.Cmp.Lexicographic.{pointwise}
use Rattle.kr_defs.specs.declared.partition.Partition.{Partition}
use Rattle.kr_defs.specs.declared.partition.PartitionChange.{PartitionChange}
use Rattle.kr_defs.specs.declared.changing.Assignment.{Assignment}
use Rattle.kr_defs.specs.declared.changing.Choice.{Choice}
use Rattle.kr_defs.specs.declared.changing.Choice.TheVariants as choices
use Rattle.kr_defs.specs.declared.changing.Facts.{Facts}
use Rattle.kr_defs.specs.declared.changing.Mode.TheVariants as modes
use Rattle.kr_defs.specs.declared.changing.Want.{Want}
use Rattle.kr_defs.specs.Brokers.{active}
use Rattle.kr_defs.specs.Build.{aimed, asked, built, change_between, completes, difference, ended, is_blank, is_target_in_sync, reached, settled, unless, standing_by, recovery_after, formed}
use Rattle.kr_defs.specs.Elect.{elected, is_sound}
use Rattle.kr_defs.specs.Ids.{has, within, is_within}
use Rattle.kr_defs.specs.Image.{Image}
use Rattle.kr_defs.specs.Merge.{merged}
use Rattle.kr_defs.specs.Partition.{is_moving, is_well_formed}
use Rattle.kr_defs.proofs.Changes.{formed_parts}
use Rattle.kr_defs.proofs.IdLists.{has_kept, id_itself}
use Rattle.kr_balance.specs.Plan.{is_imbalanced, preferred_leader}
use Rattle.kr_calls.specs.ElectLeaders.{in_mode}
use Rattle.law_balance.specs.GivingBack.{GoesBack, ImbalancedGoBack}

abbrev pub preferred : Partition → Want
preferred p = in_mode p modes.Preferred

negated : (b : Bool) → not b ≡ true → b ≡ false
negated true h = absurd cc
negated false h = refl

-- ---- no reassignment runs, so none ends

still : (p : Partition) → is_moving p ≡ false → ended (asked (preferred p)) ≡ asked (preferred p)
unfolding ended completes
still p rests =
    let a = asked (preferred p) in
    ap (λ moves. cond (moves && is_target_in_sync a.replicas a.removing a.in_sync) (reached a) a) rests

-- ---- the first replica comes first

leads : (p : Partition) (replicas in_sync : List ℤ) (facts : Facts) → nat_lt 0 (length replicas) ≡ true
    → is_sound p replicas in_sync modes.Preferred None facts (unwrap_or (slice_get replicas 0) (negsuc 0)) ≡ true
    → elected p replicas in_sync modes.Preferred None facts ≡ (unwrap_or (slice_get replicas 0) (negsuc 0), choices.InSync)
unfolding elected
leads p [] in_sync facts some sound = absurd cc
leads p (b ∷ rest) in_sync facts some sound = rw sound refl

first_there : (replicas : List ℤ) → nat_lt 0 (length replicas) ≡ true → has replicas (unwrap_or (slice_get replicas 0) (negsuc 0)) ≡ true
first_there [] some = absurd cc
first_there (b ∷ rest) some = rw (id_itself b) refl

-- ---- an imbalanced partition

pub record Imbalanced (image : Image) (p : Partition) : Type 0 where
  pub other : int_eq p.leader (preferred_leader p) ≡ false
  pub in_sync : has p.in_sync (preferred_leader p) ≡ true
  pub active : has (active image) (preferred_leader p) ≡ true
  pub rests : is_moving p ≡ false

pub imbalanced_parts : (image : Image) (p : Partition) → is_imbalanced image p ≡ true → Imbalanced image p
imbalanced_parts image p imbalanced =
    let a = and_parts (not (int_eq p.leader (preferred_leader p)) && has p.in_sync (preferred_leader p) && has (active image) (preferred_leader p)) (not (is_moving p)) imbalanced in
    let b = and_parts (not (int_eq p.leader (preferred_leader p)) && has p.in_sync (preferred_leader p)) (has (active image) (preferred_leader p)) a.0 in
    let c = and_parts (not (int_eq p.leader (preferred_leader p))) (has p.in_sync (preferred_leader p)) b.0 in
    record {
      other = negated (int_eq p.leader (preferred_leader p)) c.0;
      in_sync = c.1;
      active = b.1;
      rests = negated (is_moving p) a.1;
    }

module _ (image : Image) (p : Partition) (facts : Facts) (same : facts.active ≡ active image) (formed_well : is_well_formed p ≡ true) (o : Imbalanced image p) where
  before : Assignment
  before = ended (asked (preferred p))

  abbrev some : nat_lt 0 (length p.replicas) ≡ true
  some = (formed_parts p formed_well).replicas.some

  chosen : elected p (asked (preferred p)).replicas (asked (preferred p)).in_sync modes.Preferred None facts ≡ (preferred_leader p, choices.InSync)
  chosen = leads p p.replicas (within p.replicas p.in_sync) facts some
      (and_from (has (within p.replicas p.in_sync) (preferred_leader p)) (has facts.active (preferred_leader p))
      (has_kept (λ id. has p.in_sync id) p.replicas (preferred_leader p) (first_there p.replicas some) o.in_sync)
      (ap (λ ids. has ids (preferred_leader p)) same ∙ o.active))

  aims : ((aimed p (preferred p) facts).leader ≡ preferred_leader p) × ((aimed p (preferred p) facts).replicas ≡ p.replicas)
  unfolding aimed settled
  aims =
      let s = still p o.rests in
      let e = ap (λ (a : Assignment). elected p a.replicas a.in_sync modes.Preferred None facts) s ∙ chosen in (
        ap (λ (x : ℤ × Choice). x.0) e,
        ap (λ (x : ℤ × Choice). (settled (ended (asked (preferred p))) x.0 x.1).replicas) e ∙ ap (λ (a : Assignment). a.replicas) s,
      )

  new : Partition
  new = aimed p (preferred p) facts

false_within : (x y : Bool) → x && false && y ≡ false
false_within true y = refl
false_within false y = refl

named_not_blank : (c : PartitionChange) (b : ℤ) → c.leader ≡ Some b → is_blank c ≡ false
named_not_blank c b is =
    ap (λ (l : Option ℤ). is_none c.in_sync && is_none c.eligible && is_none c.last_known && is_none l && (is_none c.replicas && is_none c.removing && is_none c.adding && is_none c.recovery)) is
    ∙ false_within (is_none c.in_sync && is_none c.eligible && is_none c.last_known) (is_none c.replicas && is_none c.removing && is_none c.adding && is_none c.recovery)

same_or : (test : Bool) (xs ys : List ℤ) → ys ≡ xs → unwrap_or (unless test ys) xs ≡ xs
same_or true xs ys is = refl
same_or false xs ys is = is

-- the change between a partition and one with another leader and the same replicas
told : (p after : Partition) (b : ℤ) → after.leader ≡ b → int_eq p.leader b ≡ false → after.replicas ≡ p.replicas
    → IsSomeAnd (change_between p after) (λ c. ((merged p c).leader ≡ b) × ((merged p c).replicas ≡ p.replicas))
unfolding difference merged
told p after b led other replicas =
    let d = difference p after in
    let names : d.leader ≡ Some b =
    ap (λ l. unless (int_eq p.leader l && is_within p.replicas after.replicas) l) led ∙ ap (λ t. unless (t && is_within p.replicas after.replicas) b) other in
    subst (λ (t : Bool). IsSomeAnd (unless t d) (λ c. ((merged p c).leader ≡ b) × ((merged p c).replicas ≡ p.replicas)))
    (sym (named_not_blank d b names))
    (ap (λ (l : Option ℤ). unwrap_or l p.leader) names, same_or (pointwise int_eq p.replicas after.replicas) p.replicas after.replicas replicas)

pub imbalanced_go_back : ImbalancedGoBack
unfolding built
imbalanced_go_back image p facts same well imbalanced =
    let o = imbalanced_parts image p imbalanced in
    let a = aims image p facts same well o in
    let t = told p (aimed p (preferred p) facts) (preferred_leader p) a.0 o.other a.1 in
    finish (change_between p (aimed p (preferred p) facts)) t
  where
    finish : (c : Option PartitionChange) → IsSomeAnd c (λ c. ((merged p c).leader ≡ preferred_leader p) × ((merged p c).replicas ≡ p.replicas)) → IsSomeAnd c (λ c. GoesBack p (merged p c))
    finish None h = h
    finish (Some c) h = record { led = h.0; replicas = h.1 }
