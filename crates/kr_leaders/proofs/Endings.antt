-- What a balance answers, of what was read and what was written.
use Rattle.std.proofs.Common.{◌≡◌, ◌∙◌, ℕ, ℤ, ◌≤◌, ◌<◌, ◌⊎◌, inl, inr, true, false, List, ◌++◌, length, Option, Some, None, Result, Ok, Err, refl, sym, ap, subst, arith}
use Rattle.std.proofs.lemmas.List.{append-nil}
use Rattle.std.specs.Prelude.{IsErrOf}
use Rattle.std.specs.Io.KnownBytes.{Consumes, IsAtEnd, Keeps}
use Rattle.kr_defs.specs.Image.{Image, IsValid}
use Rattle.kr_fold.specs.declared.fault.ToolFault.{ToolFault}
use Rattle.kr_fold.specs.declared.fault.ToolFault.TheVariants as faults
use Rattle.kr_fold.specs.Endings.{DumpEnds, IsInputFault, RefusesBroken, RefusesLonger, TookAll, largest}
use Rattle.kr_fold.specs.Images.{BreaksAt}
use Rattle.kr_fold.proofs.CallEnds.{input_forgotten}
use Rattle.kr_fold.proofs.Completeness.{dumps_whole, refuses_broken, refuses_longer}
use Rattle.kr_model.specs.World.{is_far}
use Rattle.kr_model.proofs.LoadedImages.{loaded_valid}
use Rattle.kr_snapshot.specs.Grammar.{IsImage}
use Rattle.kr_snapshot.proofs.WholeImages.{image_complete, image_one}
use Rattle.kr_wire.specs.Grammar.{Exactly}
use Rattle.law_balance.specs.Balancing.{RoundsBalance}
use Rattle.kr_leaders.specs.Balance as balance
use Rattle.kr_leaders.specs.Endings.{BalanceEnds, BalancesWhole, IsBalanced, IsBalanceFault, RefusesPast}

abbrev Answer : Type 0
Answer = Result (Unit {0}) ToolFault

module _ (left left' : Option (List ℕ)) where
  all_image : (bytes : List ℕ) (offset : ℤ) (image : Image) → TookAll (Exactly bytes) left left' → IsImage offset image bytes → TookAll (IsImage offset image) left left'
  all_image bytes offset image all is = record { taken = all.taken; took = all.took; end = all.end; short = all.short; is = subst (IsImage offset image) (sym all.is) is }

  pub balanced_of : (percent : ℕ) (bytes text : List ℕ) (offset : ℤ) (image : Image) → RoundsBalance → TookAll (Exactly bytes) left left' → IsImage offset image bytes → is_far offset ≡ false
      → text ≡ balance.balanced_text percent offset image → IsBalanced percent (Exactly text) left left'
  balanced_of percent bytes text offset image rounds all is near told =
      let valid : IsValid image = loaded_valid bytes (offset, image) (image_complete offset image bytes is) in
      record {
        offset = offset;
        image = image;
        ends = all_image bytes offset image all is;
        near = near;
        balances = (rounds balance.balance_options (balance.first_basis offset image) image offset percent valid).balances;
        wrote = sym told;
      }

  pub past_of : (bytes : List ℕ) (offset : ℤ) (image : Image) → TookAll (Exactly bytes) left left' → IsImage offset image bytes → is_far offset ≡ true → IsBalanceFault left left' (faults.Malformed 0)
  past_of bytes offset image all is far = inr (refl, record { offset = offset; image = image; ends = all_image bytes offset image all is; far = far })

  pub fault_of : (fault : ToolFault) → IsInputFault left left' fault → IsBalanceFault left left' fault
  fault_of (faults.Malformed at) is = inl is
  fault_of faults.ReadFault is = is
  fault_of faults.NoMemory is = is
  fault_of faults.WriteFault is = is
  fault_of faults.TooLong is = is

  kept_so : (a : Option (List ℕ)) → Keeps a a
  kept_so None = tt
  kept_so (Some xs) = refl

  pub fault_ends : (percent : ℕ) (written : Option (List ℕ)) (fault : ToolFault) → IsBalanceFault left left' fault → BalanceEnds percent left left' written written (Err fault)
  fault_ends percent written (faults.Malformed at) is = (is, kept_so written)
  fault_ends percent written faults.ReadFault is = (is, kept_so written)
  fault_ends percent written faults.NoMemory is = (is, kept_so written)
  fault_ends percent written faults.WriteFault is = absurd is
  fault_ends percent written faults.TooLong is = (is, kept_so written)

-- for what is told of a break
pub no_balance_line : (at percent : ℕ) (left left' written written' : Option (List ℕ)) → BalanceEnds percent left left' written written' (Err (faults.Malformed at)) → BalanceEnds percent left left' written written' (Err faults.NoMemory)
no_balance_line at percent left left' written written' ends = (
  elim ends.0 [
    | inl fault ↦ input_forgotten left left' at fault
    | inr late ↦ let all = late.1.ends in record { taken = all.taken; took = all.took; few = let short = all.short in omega (arith, short) }
  ],
  ends.1,
)

-- ---- where nothing failed

-- all that was known was taken
all_taken : (stream taken : List ℕ) (l : Option (List ℕ)) → Consumes (Some stream) l taken → IsAtEnd l → stream ≡ taken
all_taken stream taken None took end = absurd took
all_taken stream taken (Some l) took end = took ∙ (ap (λ (x : List ℕ). taken ++ x) end ∙ append-nil taken)

true_or_false : true ≡ false → ⊥
true_or_false e = cc

module _ (percent : ℕ) (stream : List ℕ) (left' written written' : Option (List ℕ)) where
  -- the same is told of a fault of the input as by a dump
  abbrev Dumped : Answer → Type 0
  Dumped result = DumpEnds (Some stream) left' None None result

  -- an image that was taken is the one that the stream is
  no_other : (a b : ℤ) (i j : Image) → TookAll (IsImage a i) (Some stream) left' → IsImage b j stream → a ≡ b
  no_other a b i j all is = (image_one stream a b i j (subst (IsImage a i) (sym (all_taken stream all.taken left' all.took all.end)) all.is) is).0

  whole : (result : Answer) → BalanceEnds percent (Some stream) left' written written' result → (IsErrOf result faults.ReadFault → ⊥) → (IsErrOf result faults.WriteFault → ⊥)
      → (offset : ℤ) (image : Image) → IsImage offset image stream → length stream ≤ largest → is_far offset ≡ false → (result ≡ Ok tt) ⊎ (result ≡ Err faults.NoMemory)
  whole (Ok tt) ends read write offset image is short near = inl refl
  whole (Err faults.NoMemory) ends read write offset image is short near = inr refl
  whole (Err faults.ReadFault) ends read write offset image is short near = absurd (read refl)
  whole (Err faults.WriteFault) ends read write offset image is short near = absurd (write refl)
  whole (Err faults.TooLong) ends read write offset image is short near = absurd ends.0
  whole (Err (faults.Malformed at)) ends read write offset image is short near = elim ends.0 [
    | inl fault ↦ dumps_whole left' None None (Err (faults.Malformed at)) (Some stream) (fault, tt) read write offset image is short
    | inr late ↦ absurd (true_or_false (sym late.1.far ∙ (ap is_far (no_other late.1.offset offset late.1.image image late.1.ends is) ∙ near)))
  ]

  past : (result : Answer) → BalanceEnds percent (Some stream) left' written written' result → (IsErrOf result faults.ReadFault → ⊥) → (IsErrOf result faults.WriteFault → ⊥)
      → (offset : ℤ) (image : Image) → IsImage offset image stream → length stream ≤ largest → is_far offset ≡ true → (result ≡ Err (faults.Malformed 0)) ⊎ (result ≡ Err faults.NoMemory)
  past (Ok tt) ends read write offset image is short far = absurd (true_or_false (sym far ∙ (ap is_far (sym (no_other ends.offset offset ends.image image ends.ends is)) ∙ ends.near)))
  past (Err faults.NoMemory) ends read write offset image is short far = inr refl
  past (Err faults.ReadFault) ends read write offset image is short far = absurd (read refl)
  past (Err faults.WriteFault) ends read write offset image is short far = absurd (write refl)
  past (Err faults.TooLong) ends read write offset image is short far = absurd ends.0
  past (Err (faults.Malformed at)) ends read write offset image is short far = elim ends.0 [
    | inl fault ↦ elim (dumps_whole left' None None (Err (faults.Malformed at)) (Some stream) (fault, tt) read write offset image is short) [
      | inl done ↦ absurd cc
      | inr none ↦ inr none
    ]
    | inr late ↦ inl (ap (λ (n : ℕ). let r : Answer = Err (faults.Malformed n) in r) late.0)
  ]

  -- an image that was taken would be dumped, if nobody saw what is written
  dumped : (offset : ℤ) (image : Image) → TookAll (IsImage offset image) (Some stream) left' → Dumped (Ok tt)
  dumped offset image all = record { offset = offset; image = image; ends = all; wrote = tt }

  not_read : IsErrOf (let r : Answer = Ok tt in r) faults.ReadFault → ⊥
  not_read is = cc

  not_written : IsErrOf (let r : Answer = Ok tt in r) faults.WriteFault → ⊥
  not_written is = cc

  -- so it is no broken one
  unbroken : (offset : ℤ) (image : Image) → TookAll (IsImage offset image) (Some stream) left' → (at : ℕ) → BreaksAt stream at → length stream ≤ largest → ⊥
  unbroken offset image all at breaks short = elim (refuses_broken left' None None (Ok tt) (Some stream) (dumped offset image all) not_read not_written at breaks short) [
    | inl refused ↦ cc
    | inr none ↦ cc
  ]

  broken : (result : Answer) → BalanceEnds percent (Some stream) left' written written' result → (IsErrOf result faults.ReadFault → ⊥) → (IsErrOf result faults.WriteFault → ⊥)
      → (at : ℕ) → BreaksAt stream at → length stream ≤ largest → (result ≡ Err (faults.Malformed at)) ⊎ (result ≡ Err faults.NoMemory)
  broken (Ok tt) ends read write at breaks short = absurd (unbroken ends.offset ends.image ends.ends at breaks short)
  broken (Err faults.NoMemory) ends read write at breaks short = inr refl
  broken (Err faults.ReadFault) ends read write at breaks short = absurd (read refl)
  broken (Err faults.WriteFault) ends read write at breaks short = absurd (write refl)
  broken (Err faults.TooLong) ends read write at breaks short = absurd ends.0
  broken (Err (faults.Malformed place)) ends read write at breaks short = elim ends.0 [
    | inl fault ↦ refuses_broken left' None None (Err (faults.Malformed place)) (Some stream) (fault, tt) read write at breaks short
    | inr late ↦ absurd (unbroken late.1.offset late.1.image late.1.ends at breaks short)
  ]

  not_long : (offset : ℤ) (image : Image) → TookAll (IsImage offset image) (Some stream) left' → largest < length stream → ⊥
  not_long offset image all long =
      let same = ap (λ (x : List ℕ). length x) (all_taken stream all.taken left' all.took all.end) in
      let short = all.short in
      omega (arith, same, short, long)

  longer : (result : Answer) → BalanceEnds percent (Some stream) left' written written' result → (IsErrOf result faults.ReadFault → ⊥) → (IsErrOf result faults.WriteFault → ⊥)
      → largest < length stream → (result ≡ Err (faults.Malformed largest)) ⊎ (result ≡ Err faults.NoMemory)
  longer (Ok tt) ends read write long = absurd (not_long ends.offset ends.image ends.ends long)
  longer (Err faults.NoMemory) ends read write long = inr refl
  longer (Err faults.ReadFault) ends read write long = absurd (read refl)
  longer (Err faults.WriteFault) ends read write long = absurd (write refl)
  longer (Err faults.TooLong) ends read write long = absurd ends.0
  longer (Err (faults.Malformed place)) ends read write long = elim ends.0 [
    | inl fault ↦ refuses_longer left' None None (Err (faults.Malformed place)) (Some stream) (fault, tt) read write long
    | inr late ↦ absurd (not_long late.1.offset late.1.image late.1.ends long)
  ]

module _ (percent : ℕ) (left' written written' : Option (List ℕ)) (result : Answer) where
  pub balances_whole : (left : Option (List ℕ)) → BalanceEnds percent left left' written written' result → (IsErrOf result faults.ReadFault → ⊥) → (IsErrOf result faults.WriteFault → ⊥) → BalancesWhole left result
  balances_whole None ends read write = tt
  balances_whole (Some stream) ends read write = whole percent stream left' written written' result ends read write

  pub refuses_past : (left : Option (List ℕ)) → BalanceEnds percent left left' written written' result → (IsErrOf result faults.ReadFault → ⊥) → (IsErrOf result faults.WriteFault → ⊥) → RefusesPast left result
  refuses_past None ends read write = tt
  refuses_past (Some stream) ends read write = past percent stream left' written written' result ends read write

  pub refuses_broken_image : (left : Option (List ℕ)) → BalanceEnds percent left left' written written' result → (IsErrOf result faults.ReadFault → ⊥) → (IsErrOf result faults.WriteFault → ⊥) → RefusesBroken left result
  refuses_broken_image None ends read write = tt
  refuses_broken_image (Some stream) ends read write = broken percent stream left' written written' result ends read write

  pub refuses_longer_image : (left : Option (List ℕ)) → BalanceEnds percent left left' written written' result → (IsErrOf result faults.ReadFault → ⊥) → (IsErrOf result faults.WriteFault → ⊥) → RefusesLonger left result
  refuses_longer_image None ends read write = tt
  refuses_longer_image (Some stream) ends read write = longer percent stream left' written written' result ends read write
