-- What an item does to a state, by what it is to a transaction.
use Rattle.std.proofs.Common.{◌≡◌, ℕ, ℤ, refl, subst, sym}
use Rattle.kr_defs.specs.declared.record.Item.{Item}
use Rattle.kr_defs.specs.declared.record.Item.TheVariants as items
use Rattle.kr_defs.specs.declared.record.Record.TheVariants as kinds
use Rattle.kr_defs.specs.LogStates.{LogState, abort_open, apply_at, begin_at, end_open, image_after}
use Rattle.kr_defs.specs.Weight.{weight}
use Rattle.kr_store.specs.Images.{Images}
use Rattle.kr_store.specs.ItemAnswers.{MayOpen, MayStand, calls_at, calls_to_undo, with_begin, with_epoch}
use Rattle.kr_image.specs.declared.transactions.Role.{Role}
use Rattle.kr_image.specs.declared.transactions.Role.TheVariants as roles
use Rattle.kr_image.specs.inner.Roles.{item_role}

pub record Begins (item : Item) : Type 0 where
  pub may : (images : Images) (place : ℤ) → MayStand images place item → MayOpen images place
  pub row : (state : LogState) (place : ℕ) → apply_at state place item ≡ begin_at state place
  pub epochs : (images : Images) (place : ℤ) → with_begin images place item ≡ with_epoch images place
  pub calls : (images : Images) → calls_at images item ≡ 0

pub record Ends (item : Item) : Type 0 where
  pub row : (state : LogState) (place : ℕ) → apply_at state place item ≡ end_open state
  pub epochs : (images : Images) (place : ℤ) → with_begin images place item ≡ images

pub record Aborts (item : Item) : Type 0 where
  pub row : (state : LogState) (place : ℕ) → apply_at state place item ≡ abort_open state
  pub epochs : (images : Images) (place : ℤ) → with_begin images place item ≡ images
  pub calls : (images : Images) → calls_at images item ≡ calls_to_undo images

pub record Changes (item : Item) : Type 0 where
  pub row : (state : LogState) (place : ℕ) → apply_at state place item ≡ image_after state item
  pub epochs : (images : Images) (place : ℤ) → with_begin images place item ≡ images
  pub calls : (images : Images) → calls_at images item ≡ weight images.tip item

abbrev pub IsRow : Role → Item → Type 0
IsRow roles.Begin item = Begins item
IsRow roles.End item = Ends item
IsRow roles.Abort item = Aborts item
IsRow roles.Inner item = Changes item

row_of : (item : Item) → IsRow (item_role item) item
unfolding apply_at
row_of items.Control = record { row = λ state place. refl; epochs = λ images place. refl; calls = λ images. refl }
row_of (items.Record (kinds.BeginTransaction name)) = record { may = λ images place may. may; row = λ state place. refl; epochs = λ images place. refl; calls = λ images. refl }
row_of (items.Record kinds.EndTransaction) = record { row = λ state place. refl; epochs = λ images place. refl }
row_of (items.Record (kinds.AbortTransaction reason)) = record { row = λ state place. refl; epochs = λ images place. refl; calls = λ images. refl }
row_of (items.Record other) = record { row = λ state place. refl; epochs = λ images place. refl; calls = λ images. refl }

pub row : (item : Item) (p : Role) → p ≡ item_role item → IsRow p item
row item p is = subst (λ (q : Role). IsRow q item) (sym is) (row_of item)
