-- Frames of outputs that are written one after the other, and fronts of them.
use Rattle.std.proofs.Common.{◌≡◌, ℕ, ◌+◌, List, [], ◌∷◌, ◌++◌, length, take, append_assoc, append-nil, Option, Result, Ok, Err, refl, sym, ap, subst, ◌∙◌, arith}
use Rattle.std.specs.Prelude.{All, OnOk, OnErr, IsErrOf}
use Rattle.std.specs.Io.KnownBytes.{Appends}
use Rattle.std.proofs.KnownBytes.{Appends-trans, Appends-nil}
use Rattle.std.proofs.lemmas.List.{take_all}
use Rattle.std.proofs.lemmas.List.Elements.{All-append, All-cons, All-nil}
use Rattle.std.proofs.lemmas.Grind.{flat_map-append}
use Rattle.std.proofs.Math.Seq.{take-append-add}
use Rattle.kr_base.specs.FailedPuts.{AppendsFront}
use Rattle.kr_wire.specs.Grammar.{Each}
use Rattle.kr_calls.specs.declared.events.Output.{Output}
use Rattle.kr_stream.specs.declared.fault.WriteFault.{WriteFault}
use Rattle.kr_stream.specs.declared.fault.WriteFault.TheVariants as faults
use Rattle.kr_stream.specs.Outputs.{FrameFits, Wrote, WroteFront, frame_bytes, frames_bytes}
use Rattle.kr_session_loop.specs.Endings.{WroteAll, WroteSome}

-- ---- one after the other

pub each_both : {X : Type 0} (One : X → List ℕ → Type 0) (xs ys : List X) (a b : List ℕ) → Each One xs a → Each One ys b → Each One (xs ++ ys) (a ++ b)
each_both One [] ys a b none second = subst (Each One ys) (ap (λ (l : List ℕ). l ++ b) (sym none)) second
each_both One (x ∷ xs) ys a b first second = record {
  left = first.left;
  right = first.right ++ b;
  is = ap (λ (l : List ℕ). l ++ b) first.is ∙ append_assoc first.left first.right b;
  first = first.first;
  second = each_both One xs ys first.right b first.second second;
}

pub each_one : {X : Type 0} (One : X → List ℕ → Type 0) (x : X) (bytes : List ℕ) → One x bytes → Each One (x ∷ []) bytes
each_one One x bytes is = record { left = bytes; right = []; is = sym (append-nil bytes); first = is; second = refl }

-- ---- all of them

pub none_written : (written : Option (List ℕ)) → WroteAll written written []
none_written written = record { fit = All-nil FrameFits; bytes = Appends-nil written }

module _ (a b c : Option (List ℕ)) where
  pub both_written : (xs ys : List Output) → WroteAll a b xs → WroteAll b c ys → WroteAll a c (xs ++ ys)
  both_written xs ys first second = record {
    fit = All-append FrameFits xs ys first.fit second.fit;
    bytes = subst (Appends a c) (sym (flat_map-append frame_bytes xs ys)) (Appends-trans a b c (frames_bytes xs) (frames_bytes ys) first.bytes second.bytes);
  }

-- ---- some of them

all_of_a_piece : (a b : Option (List ℕ)) (xs : List ℕ) → Appends a b xs → AppendsFront a b xs
all_of_a_piece a b xs wrote = (length xs, subst (λ (l : List ℕ). Appends a b l) (sym (take_all (length xs) xs (omega arith))) wrote)

pub none_of : (written : Option (List ℕ)) (outputs : List Output) → WroteSome written written outputs
none_of written outputs = record { first = []; others = outputs; parts = refl; fit = All-nil FrameFits; bytes = (0, Appends-nil written) }

pub all_of : (a b : Option (List ℕ)) (xs : List Output) → WroteAll a b xs → WroteSome a b xs
all_of a b xs all = record { first = xs; others = []; parts = sym (append-nil xs); fit = all.fit; bytes = all_of_a_piece a b (frames_bytes xs) all.bytes }

front_behind : (a b c : Option (List ℕ)) (xs ys : List ℕ) → Appends a b xs → AppendsFront b c ys → AppendsFront a c (xs ++ ys)
front_behind a b c xs ys first second =
    (length xs + second.0, subst (λ (l : List ℕ). Appends a c l) (sym (take-append-add xs ys second.0)) (Appends-trans a b c xs (take second.0 ys) first second.1))

-- some of the outputs behind others, and those all
pub some_behind : (a b c : Option (List ℕ)) (xs ys : List Output) → WroteAll a b xs → WroteSome b c ys → WroteSome a c (xs ++ ys)
some_behind a b c xs ys all some = record {
  first = xs ++ some.first;
  others = some.others;
  parts = ap (λ (l : List Output). xs ++ l) some.parts ∙ sym (append_assoc xs some.first some.others);
  fit = All-append FrameFits xs some.first all.fit some.fit;
  bytes = subst (AppendsFront a c) (sym (flat_map-append frame_bytes xs some.first)) (front_behind a b c (frames_bytes xs) (frames_bytes some.first) all.bytes some.bytes);
}

pub some_of_more : (a b : Option (List ℕ)) (xs ys : List Output) → WroteSome a b xs → WroteSome a b (xs ++ ys)
some_of_more a b xs ys some = record {
  first = some.first;
  others = some.others ++ ys;
  parts = ap (λ (l : List Output). l ++ ys) some.parts ∙ append_assoc some.first some.others ys;
  fit = some.fit;
  bytes = some.bytes;
}

-- ---- one output

module _ (output : Output) (a b : Option (List ℕ)) where
  alone : frames_bytes (output ∷ []) ≡ frame_bytes output
  alone = append-nil (frame_bytes output)

  fits : FrameFits output → All FrameFits (output ∷ [])
  fits fit = All-cons FrameFits output [] fit (All-nil FrameFits)

  pub one_written : (result : Result (Unit {0}) WriteFault) → OnOk result (Wrote output a b) → OnOk result (WroteAll a b (output ∷ []))
  one_written (Ok u) wrote = record { fit = fits wrote.fits; bytes = subst (Appends a b) (sym alone) wrote.bytes }
  one_written (Err fault) wrote = tt

  one_front : WroteFront output a b → WroteSome a b (output ∷ [])
  one_front wrote = record { first = output ∷ []; others = []; parts = refl; fit = fits wrote.fits; bytes = subst (AppendsFront a b) (sym alone) wrote.bytes }

  pub one_unwritten : (result : Result (Unit {0}) WriteFault) → (IsErrOf result faults.Failed → WroteFront output a b) → (IsErrOf result faults.NoMemory → b ≡ a)
      → OnErr result (WroteSome a b (output ∷ []))
  one_unwritten (Ok u) front same = tt
  one_unwritten (Err faults.Failed) front same = one_front (front refl)
  one_unwritten (Err faults.NoMemory) front same = subst (λ (l : Option (List ℕ)). WroteSome a l (output ∷ [])) (sym (same refl)) (none_of a (output ∷ []))
