-- Where no transaction is open in a store, none is after each of its calls.
use Rattle.std.proofs.Common.{◌≡◌, ◌∙◌, ℤ, ℕ, zero, suc, ◌-◌, Bool, true, false, cond, List, [], ◌∷◌, ◌++◌, refl, sym, ap, subst, filter, length}
use Rattle.std.specs.Prelude.{Result, Ok, Err, OnErr, OnOk, Option, Some, None, IfSome, IsTrue, find, int_lt, not, slice_get}
use Rattle.std.specs.List.{AllByRecursion}
use Rattle.std.specs.Option.{option_map}
use Rattle.std.specs.Ordering.{int_eq}
use Rattle.std.proofs.lemmas.List.Elements.{All-from_recursion}
use Rattle.kr_defs.specs.declared.record.Item.{Item}
use Rattle.kr_defs.specs.Image.{Image}
use Rattle.kr_defs.proofs.Tests.{some_is}
use Rattle.kr_store.specs.declared.places.ApplyFault.{ApplyFault}
use Rattle.kr_store.specs.declared.places.ApplyFault.TheVariants as faults
use Rattle.kr_store.specs.ItemAnswers.{IsFault}
use Rattle.kr_store.specs.Images.{AreBegunFrom, Images, begun_at, begun_under, no_images, forgotten, kept_at, last_begun, marked, reverted}
use Rattle.testlib_rule_answers.specs.Histories.{AreClosed}

abbrev IsShut : ℤ × Option ℤ → Type 0
IsShut b = b.1 ≡ None

found_shut : (test : ℤ × Option ℤ → Bool) (begins : List (ℤ × Option ℤ)) → AllByRecursion IsShut begins → begun_under (find test begins) ≡ None
found_shut test [] all = refl
found_shut test (b ∷ begins) all =
    elim (test b) as (λ t. begun_under (cond t (Some b) (find test begins)) ≡ None) [
      | true ↦ all.0
      | false ↦ found_shut test begins all.1
    ]

there_shut : (begins : List (ℤ × Option ℤ)) (n : ℕ) → AllByRecursion IsShut begins → begun_under (slice_get begins n) ≡ None
there_shut [] n all = refl
there_shut (b ∷ begins) zero all = all.0
there_shut (b ∷ begins) (suc n) all = there_shut begins n all.1

more_shut : (begins : List (ℤ × Option ℤ)) (b : ℤ × Option ℤ) → AllByRecursion IsShut begins → IsShut b → AllByRecursion IsShut (begins ++ b ∷ [])
more_shut [] b all shut = (shut, tt)
more_shut (x ∷ begins) b all shut = (all.0, more_shut begins b all.1 shut)

some_shut : (keep : ℤ × Option ℤ → Bool) (begins : List (ℤ × Option ℤ)) → AllByRecursion IsShut begins → AllByRecursion IsShut (filter keep begins)
some_shut keep [] all = tt
some_shut keep (b ∷ begins) all =
    elim (keep b) as (λ t. AllByRecursion IsShut (cond t (b ∷ filter keep begins) (filter keep begins))) [
      | true ↦ (all.0, some_shut keep begins all.1)
      | false ↦ some_shut keep begins all.1
    ]

from_any : (epoch : ℤ) (o : Option ℤ) → o ≡ None → IfSome o (λ begin. IsTrue (not (int_lt begin epoch)))
from_any epoch o none = rw none tt

all_from : (epoch : ℤ) (begins : List (ℤ × Option ℤ)) → AllByRecursion IsShut begins → AllByRecursion (λ (b : ℤ × Option ℤ). IfSome b.1 (λ begin. IsTrue (not (int_lt begin epoch)))) begins
all_from epoch [] all = tt
all_from epoch (b ∷ begins) all = (from_any epoch b.1 all.0, all_from epoch begins all.1)

-- ---- the calls

pub closed_on : (before after : Images) → after.begun ≡ before.begun → after.kept_begun ≡ before.kept_begun → AreClosed before → AreClosed after
closed_on before after tip same closed = record { tip = tip ∙ closed.tip; kept = rw same closed.kept }

closed_back : (before after : Images) → after.begun ≡ last_begun before → after.kept_begun ≡ before.kept_begun → AreClosed before → AreClosed after
closed_back before after tip same closed = record { tip = tip ∙ there_shut before.kept_begun (length before.kept_begun - 1) closed.kept; kept = rw same closed.kept }

-- an item that has no meaning changes nothing, and without memory the tip is that of the last kept epoch
pub closed_failed : (before after : Images) (fault : ApplyFault) (place : ℤ) (item : Item) → IsFault before after fault place item → after.kept_begun ≡ before.kept_begun → AreClosed before → AreClosed after
closed_failed before after (faults.IllFormed there cause) place item failed same closed = subst AreClosed (sym failed.2) closed
closed_failed before after faults.NoMemory place item failed same closed = closed_back before after failed.2 same closed

pub none_closed : AreClosed no_images
none_closed = record { tip = refl; kept = tt }

closed_marked : (images : Images) (epoch : ℤ) → AreClosed images → AreClosed (marked images epoch)
closed_marked images epoch closed = record { tip = closed.tip; kept = more_shut images.kept_begun (epoch, images.begun) closed.kept closed.tip }

pub mark_closes : {T E : Type 0} (result : Result T E) (before after : Images) (epoch : ℤ) → OnOk result (after ≡ marked before epoch) → OnErr result (after ≡ before) → AreClosed before → AreClosed after
mark_closes (Ok done) before after epoch ok err closed = subst AreClosed (sym ok) (closed_marked before epoch closed)
mark_closes (Err fault) before after epoch ok err closed = subst AreClosed (sym err) closed

-- going back to an epoch, with the image that is kept there
abbrev pub without_later : Images → ℤ → Image → Images
without_later images epoch tip = record {
  kept = filter (λ (k : ℤ × Image). not (int_lt epoch k.0)) images.kept;
  tip = tip;
  made = 0;
  kept_made = filter (λ (m : ℤ × ℕ). not (int_lt epoch m.0)) images.kept_made;
  begun = begun_at images epoch;
  kept_begun = filter (λ (b : ℤ × Option ℤ). not (int_lt epoch b.0)) images.kept_begun;
}

of_epoch : (images after : Images) (epoch : ℤ) (o : Option Image) → option_map (without_later images epoch) o ≡ Some after → AreClosed images → AreClosed after
of_epoch images after epoch None is closed = absurd cc
of_epoch images after epoch (Some tip) is closed =
    subst AreClosed (some_is _ _ is) (record {
      tip = found_shut (λ (b : ℤ × Option ℤ). int_eq b.0 epoch) images.kept_begun closed.kept;
      kept = some_shut (λ (b : ℤ × Option ℤ). not (int_lt epoch b.0)) images.kept_begun closed.kept;
    })

pub closed_reverted : (images after : Images) (epoch : ℤ) → reverted images epoch ≡ Some after → AreClosed images → AreClosed after
closed_reverted images after epoch is closed = of_epoch images after epoch (kept_at images epoch) is closed

pub closed_forgotten : (images : Images) (epoch : ℤ) → AreClosed images → AreClosed (forgotten images epoch)
closed_forgotten images epoch closed = record { tip = closed.tip; kept = some_shut (λ (b : ℤ × Option ℤ). not (int_lt b.0 epoch)) images.kept_begun closed.kept }

pub begun_from : (images : Images) (epoch : ℤ) → AreClosed images → AreBegunFrom images epoch
begun_from images epoch closed =
    let left : List (ℤ × Option ℤ) = filter (λ (b : ℤ × Option ℤ). not (int_lt b.0 epoch)) images.kept_begun in
    record {
      tip = from_any epoch images.begun closed.tip;
      kept = All-from_recursion (λ (b : ℤ × Option ℤ). IfSome b.1 (λ begin. IsTrue (not (int_lt begin epoch)))) left (all_from epoch left (some_shut (λ (b : ℤ × Option ℤ). not (int_lt b.0 epoch)) images.kept_begun closed.kept));
    }

pub ruleset begins = (closed_on, none_closed)
