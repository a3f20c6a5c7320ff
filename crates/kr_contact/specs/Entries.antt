-- Which node is a broker's: entries in order of the brokers' ids. This project's own.
use Rattle.std.specs.Prelude.{◌≡◌, ◌++◌, ◌∷◌, ℕ, ℤ, List, length}
use Rattle.std.specs.List.{AllByRecursion}
use Rattle.std.specs.List.Sorted.{IsStrictlySortedBy}
use Rattle.std.specs.Map.{keys_of}
use Rattle.std.specs.Ordering.{int_cmp}
use Rattle.std.specs.declared.cmp.Ordering.TheVariants.{Less}
use Rattle.kr_contact.specs.declared.nodes.Place.{Place}

pub record EntriesSeen : Type 0 where
  pub entries : List (ℤ × Place)
  -- so many entries more find room
  pub spare : ℕ

-- the ids rise
abbrev pub AreOrdered : List (ℤ × Place) → Type 0
AreOrdered entries = IsStrictlySortedBy int_cmp (keys_of entries)

-- the broker's entry stands there
pub record IsEntryAt (entries : List (ℤ × Place)) (broker : ℤ) (at : ℕ) : Type 0 where
  pub front : List (ℤ × Place)
  pub place : Place
  pub back : List (ℤ × Place)
  pub is : entries ≡ front ++ (broker, place) ∷ back
  pub at_is : at ≡ length front

-- the broker has no entry, and one would stand there
pub record IsGapAt (entries : List (ℤ × Place)) (broker : ℤ) (at : ℕ) : Type 0 where
  pub front : List (ℤ × Place)
  pub back : List (ℤ × Place)
  pub is : entries ≡ front ++ back
  pub at_is : at ≡ length front
  pub below : AllByRecursion (λ k. int_cmp k broker ≡ Less) (keys_of front)
  pub above : AllByRecursion (λ k. int_cmp broker k ≡ Less) (keys_of back)
