-- Which records break at limits alone, one after the other.
use Rattle.std.proofs.Common.{◌≡◌, ℤ, ℕ, Bool, true, false, cond, not, List, [], ◌∷◌, ◌++◌, refl, ap, subst, inl, inr}
use Rattle.std.specs.Prelude.{◌⊎◌, Option, Some, None, Result, Ok, Err, IfSome, IsTrue, MatchResult}
use Rattle.std.specs.Ordering.{int_eq}
use Rattle.kr_defs.specs.declared.ill.Ill.{Ill}
use Rattle.kr_defs.specs.declared.ill.Ill.TheVariants.{BadPartition}
use Rattle.kr_defs.specs.declared.partition.Partition.{Partition}
use Rattle.kr_defs.specs.declared.partition.PartitionChange.{PartitionChange}
use Rattle.kr_defs.specs.declared.record.Record.{Record}
use Rattle.kr_defs.specs.declared.record.Record.TheVariants as kinds
use Rattle.kr_defs.specs.Apply.{apply_record}
use Rattle.kr_defs.specs.BuiltLaws.{has_too_many}
use Rattle.kr_defs.specs.Guard.{and_then, found}
use Rattle.kr_defs.specs.Image.{Image, topic_name}
use Rattle.kr_defs.specs.Map as entries
use Rattle.kr_defs.specs.Map.{partition_order}
use Rattle.kr_defs.specs.Merge.{merged}
use Rattle.kr_defs.specs.Partition.{is_well_formed}
use Rattle.kr_defs.specs.Walk.{change_records}
use Rattle.kr_defs.proofs.Tests.{Gives, not_true}
use Rattle.kr_calls.specs.declared.errors.TheConstants.{POLICY_VIOLATION}
use Rattle.kr_calls.specs.Deciding.{apply_records}
use Rattle.kr_calls.proofs.WalkedChanges.{is_owned}
use Rattle.law_safety.specs.RefusalLaws.{BreakAtLimits, is_past_limit}

-- ---- rows of conditions, by what they give and why they refuse

module _ {X E : Type 0} (P : X → Type 0) (Q : E → Type 0) where
  pub by_refuse : (cause : E) (test : Bool) (r : Result X E) → (test ≡ true → Q cause) → (test ≡ false → MatchResult r P Q) → MatchResult (cond test (Err cause) r) P Q
  by_refuse cause true r refusing going = refusing refl
  by_refuse cause false r refusing going = going refl

  pub by_found : {V : Type 0} (cause : E) (o : Option V) (next : V → Result X E) → (o ≡ None → Q cause) → ((v : V) → o ≡ Some v → MatchResult (next v) P Q) → MatchResult (found cause o next) P Q
  by_found cause None next refusing going = refusing refl
  by_found cause (Some v) next refusing going = going v refl

  pub by_then : {Y : Type 0} (R : Y → Type 0) (r : Result Y E) (next : Y → Result X E) → MatchResult r R Q → ((y : Y) → R y → MatchResult (next y) P Q) → MatchResult (and_then r next) P Q
  by_then R (Ok y) next first going = going y first
  by_then R (Err e) next first going = first

  pub by_if : (test : Bool) (r s : Result X E) → (test ≡ true → MatchResult r P Q) → (test ≡ false → MatchResult s P Q) → MatchResult (cond test r s) P Q
  by_if true r s if_so if_not = if_so refl
  by_if false r s if_so if_not = if_not refl

  pub gives_from : (r : Result X E) → MatchResult r P Q → Gives P r
  gives_from (Ok x) given y is = subst P (ap (λ q. Rattle.kr_defs.proofs.Tests.ok_or_this x q) is) given
  gives_from (Err e) given y is = absurd cc

-- a rule's own answer
abbrev pub IsOwn : ℤ → Type 0
IsOwn error = int_eq error POLICY_VIOLATION ≡ false

-- ---- records

module _ (place : ℤ) where
  abbrev pub Breaks : Image → List Record → Type 0
  Breaks = BreakAtLimits place

  -- why it may be refused, and what comes behind it
  abbrev pub BreaksBy : Image → Record → (Image → Type 0) → Result Image Ill → Type 0
  BreaksBy image what rest r = MatchResult r rest (λ cause. IsTrue (is_past_limit place image what cause))

  -- records that have meanings
  pub breaks_nowhere : (image after : Image) (records : List Record) → apply_records image records ≡ Ok after → Breaks image records
  breaks_nowhere image after [] are = tt
  breaks_nowhere image after (r ∷ records) are =
      elim (apply_record image r) as (λ x. and_then x (λ mid. apply_records mid records) ≡ Ok after → BreaksBy image r (λ mid. Breaks mid records) x) [
        | Ok mid ↦ λ are. breaks_nowhere mid after records are
        | Err cause ↦ λ are. absurd cc
      ] are

  pub both_break : (image : Image) (xs ys : List Record) → Breaks image xs → ((mid : Image) → apply_records image xs ≡ Ok mid → Breaks mid ys) → Breaks image (xs ++ ys)
  both_break image [] ys first behind = behind image refl
  both_break image (x ∷ xs) ys first behind =
      elim (apply_record image x) as (λ r. BreaksBy image x (λ mid. Breaks mid xs) r → ((mid : Image) → and_then r (λ after. apply_records after xs) ≡ Ok mid → Breaks mid ys) → BreaksBy image x (λ mid. Breaks mid (xs ++ ys)) r) [
        | Ok mid ↦ λ first behind. both_break mid xs ys first behind
        | Err cause ↦ λ first behind. first
      ] first behind

  -- the change of one partition that has too many replicas, or is well formed
  abbrev pub IsLongOrFormed : Partition → PartitionChange → Type 0
  IsLongOrFormed p change = (has_too_many (merged p change) ≡ true) ⊎ (is_well_formed (merged p change) ≡ true)

  pub change_breaks : (image : Image) (name : List ℕ) (key : ℕ × ℤ) (p : Partition) (o : Option PartitionChange) → topic_name image.topics key.0 ≡ Some name → entries.get partition_order image.partitions key ≡ Some p → IfSome o (IsLongOrFormed p) → Breaks image (change_records key.0 key.1 o)
  unfolding apply_record
  change_breaks image name key p None named there formed = tt
  change_breaks image name key p (Some change) named there formed =
      let row = BreaksBy image (kinds.PartitionChange key.1 key.0 change) (λ mid. Breaks mid []) in
      let owned = is_owned image.topics key.0 name named in
      rw (owned, there) (by_refuse (λ mid. Breaks mid []) (λ cause. IsTrue (is_past_limit place image (kinds.PartitionChange key.1 key.0 change) cause)) BadPartition (not (is_well_formed (merged p change))) _
      (λ bad. elim formed [
        | inl long ↦ rw there long
        | inr well ↦ absurd cc
      ])
      (λ _. tt))
