-- The kept epochs after one more, and after some are dropped.
use Rattle.std.proofs.Common.{◌≡◌, ℤ, ℕ, ◌-◌, ◌<◌, Bool, true, false, List, [], ◌∷◌, ◌++◌, refl, sym, ap, ◌∙◌, map, filter, length, arith}
use Rattle.std.specs.Prelude.{Option, Some, None, IsSome, IsTrue, int_lt, not, ◌==◌, slice_get}
use Rattle.std.specs.List.{list_all}
use Rattle.std.specs.Option.{option_map}
use Rattle.std.proofs.lemmas.List.Sums.{AllPass-from_list_all}
use Rattle.std.proofs.lemmas.List.Folds.{list_all-map}
use Rattle.std.proofs.lemmas.Option.{slice_get-get_or}
use Rattle.kr_defs.specs.Image.{Image}
use Rattle.kr_defs.proofs.Tests.{some_is}
use Rattle.kr_store.specs.Images.{Images, IsAbove, kept_at, last_kept, reverted}
use Rattle.kr_image.proofs.KeptLists.{filter_map_is}
use Rattle.testlib_rule_answers.specs.Histories.{AreEpochs}
use Rattle.testlib_rule_answers.proofs.ClosedStores.{without_later}

module _ (kept : List (ℤ × Image)) (epochs : List ℤ) (are : AreEpochs kept epochs) where
  pub is_above : (epoch : ℤ) → list_all (λ e. int_lt e epoch) epochs ≡ true → IsAbove kept epoch
  is_above epoch all = AllPass-from_list_all (λ (k : ℤ × Image). int_lt k.0 epoch) kept
      (sym (list_all-map (λ e. int_lt e epoch) (λ (k : ℤ × Image). k.0) kept) ∙ ap (λ (es : List ℤ). list_all (λ e. int_lt e epoch) es) are ∙ all)

  pub dropped : (keep : ℤ → Bool) → AreEpochs (filter (λ (k : ℤ × Image). keep k.0) kept) (filter keep epochs)
  dropped keep = sym (filter_map_is (λ (k : ℤ × Image). k.0) keep kept) ∙ ap (λ (es : List ℤ). filter keep es) are

last_is : (k : ℤ × Image) (ks : List (ℤ × Image)) → IsSome (slice_get (k ∷ ks) (length (k ∷ ks) - 1))
last_is k ks = rw (slice_get-get_or (k ∷ ks) (length (k ∷ ks) - 1) k (omega arith)) refl

some_last : (kept : List (ℤ × Image)) (epochs : List ℤ) → AreEpochs kept epochs → (length epochs == 0) ≡ false → IsSome (slice_get kept (length kept - 1))
some_last [] [] are some = absurd cc
some_last [] (e ∷ es) are some = absurd cc
some_last (k ∷ ks) epochs are some = last_is k ks

pub some_kept : (images : Images) (epochs : List ℤ) → AreEpochs images.kept epochs → (length epochs == 0) ≡ false → IsSome (last_kept images)
some_kept images epochs are some = some_last images.kept epochs are some

of_epoch : (images after : Images) (epoch : ℤ) (o : Option Image) → option_map (without_later images epoch) o ≡ Some after → after.kept ≡ filter (λ (k : ℤ × Image). not (int_lt epoch k.0)) images.kept
of_epoch images after epoch None is = absurd cc
of_epoch images after epoch (Some tip) is = ap (λ (i : Images). i.kept) (sym (some_is _ _ is))

pub reverted_epochs : (images after : Images) (epochs : List ℤ) (epoch : ℤ) → AreEpochs images.kept epochs → reverted images epoch ≡ Some after → AreEpochs after.kept (filter (λ e. not (int_lt epoch e)) epochs)
reverted_epochs images after epochs epoch are is =
    ap (λ (ks : List (ℤ × Image)). map (λ (k : ℤ × Image). k.0) ks) (of_epoch images after epoch (kept_at images epoch) is)
    ∙ dropped images.kept epochs are (λ e. not (int_lt epoch e))

pub ruleset kept = (is_above, some_kept)
