-- Several calls of a reader for one page, in a function: what is known between them and at its ends.
use Rattle.std.proofs.Common.{◌≡◌, ℕ, List, sym, subst, Result, Ok, Err}
use Rattle.std.specs.Prelude.{IsErrAnd, Some}
use Rattle.kr_defs.specs.Image.{Image}
use Rattle.kr_defs.specs.Map.{get, text_order}
use Rattle.kr_view.specs.Readers.{Reading}
use Rattle.kr_view.proofs.Filling.{few_taken}
use Rattle.kr_describe.specs.declared.steady.PageFault.{PageFault}
use Rattle.kr_describe.specs.declared.steady.PageFault.TheVariants as faults
use Rattle.kr_describe.specs.declared.steady.Steady.{Steady}
use Rattle.kr_describe.specs.SteadyReads.{GoesSteadily, IsSteady, steady_image}
use Rattle.kr_describe.proofs.Going.{fails, goes_as, goes_on, no_memory, stays, steady_on}

module _ {A : Type 0} (reading : A → Reading) (with_reading : A → Reading → A) (s : Steady) (a : A) where
  -- no fault came by now
  abbrev pub SoFar : A → Type 0
  SoFar b = GoesSteadily {T = Unit {0}} reading with_reading s a b (Ok tt)

  pub begun : IsSteady s (reading a) → SoFar a
  begun steady = stays reading with_reading s a tt steady

module _ {A : Type 0} {reading : A → Reading} {with_reading : A → Reading → A} {s : Steady} {a : A} where
  pub further : {T : Type 0} {b c : A} {x : T} → SoFar reading with_reading s a b → GoesSteadily reading with_reading s b c (Ok x) → SoFar reading with_reading s a c
  further {b = b} {c = c} {x = x} first then = goes_on reading with_reading s a b c tt (Ok tt) first (goes_as reading with_reading s b c x tt then)

  pub ended : {U : Type 0} {b : A} (y : U) → SoFar reading with_reading s a b → GoesSteadily reading with_reading s a b (Ok y)
  ended {b = b} y first = goes_as reading with_reading s a b tt y first

  -- the fault is handed on
  pub failed : {T U : Type 0} {b c : A} {fault : PageFault} (result : Result U PageFault) → SoFar reading with_reading s a b → GoesSteadily {T = T} reading with_reading s b c (Err fault) → IsErrAnd result (λ e. e ≡ fault) → GoesSteadily reading with_reading s a c result
  failed {b = b} {c = c} {fault = fault} result first then told = goes_on reading with_reading s a b c tt result first (fails reading with_reading s b c fault result then told)

  pub steady_there : {b : A} → IsSteady s (reading a) → SoFar reading with_reading s a b → IsSteady s (reading b)
  steady_there {b = b} steady first = steady_on reading with_reading s a b tt steady first

  pub no_room_left : {U : Type 0} {b : A} (result : Result U PageFault) → IsSteady s (reading a) → SoFar reading with_reading s a b → IsErrAnd result (λ e. e ≡ faults.NoMemory) → GoesSteadily reading with_reading s a b result
  no_room_left {b = b} result steady first told = goes_on reading with_reading s a b b tt result first (no_memory reading with_reading s b result (steady_there steady first) told)

  -- the image is the first one's
  pub image_there : {b : A} → SoFar reading with_reading s a b → steady_image s (reading b) ≡ steady_image s (reading a)
  image_there first = first.ends.image

  pub named_there : {b : A} (name : List ℕ) (id : ℕ) → SoFar reading with_reading s a b → get text_order (steady_image s (reading a)).topics name ≡ Some id → get text_order (steady_image s (reading b)).topics name ≡ Some id
  named_there {b = b} name id first named = subst (λ (i : Image). get text_order i.topics name ≡ Some id) (sym (image_there first)) named

  -- the last call's answer is the function's
  pub handed : {U : Type 0} {b c : A} (result : Result U PageFault) → SoFar reading with_reading s a b → GoesSteadily reading with_reading s b c result → GoesSteadily reading with_reading s a c result
  handed {b = b} {c = c} result first then = goes_on reading with_reading s a b c tt result first then

pub ruleset ends = (begun, ended, failed, no_room_left, steady_there, named_there, handed, few_taken)
