-- An election of a partition without leader that finds nobody.
use Rattle.std.proofs.Common.{◌≡◌, ◌∙◌, ℤ, negsuc, Bool, true, false, ◌&&◌, refl, sym, ap, subst, inl, inr}
use Rattle.std.specs.Prelude.{ℕ, not, Option, Some, None, Result, Ok, unwrap_or, is_none, if◌then◌else◌}
use Rattle.std.specs.Ordering.{int_eq}
use Rattle.std.proofs.lemmas.Bool.{cases_Bool}
use Rattle.kr_defs.proofs.IdLists.{same_id}
use Rattle.kr_defs.proofs.Tests.{not_false}
use Rattle.kr_defs.specs.declared.changing.Facts.{Facts}
use Rattle.kr_defs.specs.declared.changing.Want.{Want}
use Rattle.kr_defs.specs.declared.partition.Partition.{Partition}
use Rattle.kr_defs.specs.declared.partition.PartitionChange.{PartitionChange}
use Rattle.kr_defs.specs.Build.{aimed, built, change_between, difference, is_blank, unless}
use Rattle.kr_defs.specs.Ids.{is_within}
use Rattle.kr_defs.specs.declared.changing.Mode.TheVariants as modes
use Rattle.kr_defs.specs.declared.options.Options.{Options}
use Rattle.kr_defs.specs.Guard.{refuse◌when◌else◌}
use Rattle.kr_defs.specs.Image.{Image}
use Rattle.kr_defs.specs.Settings.{facts_of}
use Rattle.kr_calls.specs.declared.errors.TheConstants.{ELECTION_NOT_NEEDED, ELIGIBLE_LEADERS_NOT_AVAILABLE}
use Rattle.kr_calls.specs.ElectLeaders.{Entry, drafted, elects_any, in_mode}
use Rattle.kr_partitions.specs.inner.NamedLeader.{names_nobody, with_leader}

-- the leader that is named where -1 stood
abbrev leader_named : ℤ → Bool → Option ℤ
leader_named leader within = unless (int_eq (negsuc 0) leader && within) leader

named : (leader : ℤ) (within : Bool) → int_eq (unwrap_or (leader_named leader within) (negsuc 0)) (negsuc 0) ≡ int_eq leader (negsuc 0)
named leader within = elim (cases_Bool (int_eq (negsuc 0) leader)) [
  | inl e ↦ let P : ℤ → Type 0 = λ z. int_eq (unwrap_or (leader_named z within) (negsuc 0)) (negsuc 0) ≡ int_eq z (negsuc 0) in
      subst P (same_id (negsuc 0) leader e) (elim within as (λ b. int_eq (unwrap_or (leader_named (negsuc 0) b) (negsuc 0)) (negsuc 0) ≡ int_eq (negsuc 0) (negsuc 0)) [ true ↦ refl | false ↦ refl ])
  | inr e ↦ rw e refl
]

none_is : {X : Type 0} (o : Option X) → is_none o ≡ true → o ≡ None
none_is None h = refl
none_is (Some x) h = absurd cc

fourth : (a b c d rest : Bool) → (a && b && c && d && rest) ≡ true → d ≡ true
fourth false b c d rest h = absurd cc
fourth true false c d rest h = absurd cc
fourth true true false d rest h = absurd cc
fourth true true true false rest h = absurd cc
fourth true true true true rest h = refl

-- a change without any field names no leader
blank : (change : PartitionChange) → is_blank change ≡ true → int_eq (unwrap_or change.leader (negsuc 0)) (negsuc 0) ≡ true
blank change h =
    let rest = is_none change.replicas && is_none change.removing && is_none change.adding && is_none change.recovery in
    let none = fourth (is_none change.in_sync) (is_none change.eligible) (is_none change.last_known) (is_none change.leader) rest h in
    rw (none_is change.leader none) refl

named_by : (change : PartitionChange) → names_nobody (unless (is_blank change) change) ≡ int_eq (unwrap_or change.leader (negsuc 0)) (negsuc 0)
named_by change = elim (cases_Bool (is_blank change)) [
  | inl e ↦ rw e (sym (blank change e))
  | inr e ↦ rw e refl
]

by_difference : (old new : Partition) → old.leader ≡ negsuc 0 → names_nobody (change_between old new) ≡ int_eq new.leader (negsuc 0)
unfolding difference
by_difference old new none = named_by (difference old new) ∙ rw none (named new.leader (is_within old.replicas new.replicas))

pub nobody : (p : Partition) (want : Want) (facts : Facts) (change : Option PartitionChange) → p.leader ≡ negsuc 0 → change ≡ built p want facts → int_eq (aimed p want facts).leader (negsuc 0) ≡ names_nobody change
unfolding built
nobody p want facts change none is = rw is (sym (by_difference p (aimed p want facts) none))

passed : {X E : Type 0} (cause : E) (test : Bool) (rest : Result X E) → test ≡ false → (refuse cause when test else rest) ≡ rest
passed cause test rest h = rw h refl

-- where nobody leads, the change of an election says it all
pub elects_by : (options : Options) (image : Image) (entry : Entry) (id : ℕ) (p : Partition) (change : Option PartitionChange) → not (int_eq p.leader (negsuc 0)) ≡ false → change ≡ built p (in_mode p modes.Unclean) (facts_of options image entry.0) → elects_any options image entry id p ≡ with_leader entry id change
unfolding with_leader
elects_by options image entry id p change none is =
    let want = in_mode p modes.Unclean in
    let facts = facts_of options image entry.0 in
    let made = built p want facts in
    passed ELECTION_NOT_NEEDED (not (int_eq p.leader (negsuc 0))) (refuse ELIGIBLE_LEADERS_NOT_AVAILABLE when int_eq (aimed p want facts).leader (negsuc 0) else Ok (drafted entry id made)) none
    ∙ (ap (λ (b : Bool). refuse ELIGIBLE_LEADERS_NOT_AVAILABLE when b else Ok (drafted entry id made)) (nobody p want facts made (same_id p.leader (negsuc 0) (not_false (int_eq p.leader (negsuc 0)) none)) refl)
    ∙ ap (λ (c : Option PartitionChange). with_leader entry id c) (sym is))
