-- The images that are kept under rising places.
use Rattle.std.proofs.Common.{◌≡◌, ◌∙◌, sym, ℕ, ℤ, pos, true, false, cond, ◌≤◌, ◌+◌, ◌-◌, List, [], ◌∷◌, ◌++◌, take, drop, map, refl, ap, subst, arith, suc, negsuc, length}
use Rattle.std.proofs.lemmas.List.{take-append-drop}
use Rattle.std.specs.Prelude.{Option, Some, None, Result, Ok, Err, not, filter, int_lt, IsTrue, slice_get}
use Rattle.std.specs.Option.{option_map}
use Rattle.std.specs.Ordering.{int_eq}
use Rattle.std.specs.Result.{result_unwrap_or}
use Rattle.std.proofs.lemmas.Bool.Decides.{nat_tests}
use Rattle.std.specs.List.{AllByRecursion}
use Rattle.kr_defs.specs.declared.ill.Ill.{Ill}
use Rattle.kr_defs.specs.Guard.{and_then}
use Rattle.kr_defs.specs.Image.{Image, empty}
use Rattle.kr_defs.specs.declared.record.Item.{Item}
use Rattle.kr_defs.specs.Log.{Log, image_at, state_image, state_at, tip}
use Rattle.kr_defs.specs.LogStates.{LogState, apply_all_at, closed}
use Rattle.kr_defs.proofs.StateLogs.{apply_append as states_append, state_at_tip}
use Rattle.kr_defs.proofs.IdLists.{id_itself}
use Rattle.kr_model.specs.declared.writes.Write.{Write}
use Rattle.kr_model.specs.Engine.{Rise, kept_image}
use Rattle.kr_model.specs.Outputs.{is_open}
use Rattle.kr_model.specs.World.{seen_at, seen_state}
use Rattle.kr_model.proofs.Places.{is_below, isnt_below}

-- ---- the image at the end

seen_first : (r : Result LogState Ill) (next : LogState → Result LogState Ill) (after : Image) → state_image (and_then r next) ≡ Ok after → state_image r ≡ Ok (result_unwrap_or (state_image r) empty)
seen_first (Ok state) next after is = refl
seen_first (Err cause) next after is = absurd cc

kept_first : (r : Result LogState Ill) (next : LogState → Result LogState Ill) (after : Image) → state_image (and_then r next) ≡ Ok after → r ≡ Ok (result_unwrap_or r (closed empty))
kept_first (Ok state) next after is = refl
kept_first (Err cause) next after is = absurd cc

-- the items below a place and those behind it
parted_at : (log : Log) (place : ℕ) → and_then (apply_all_at (closed log.image) log.offset (take (place - log.offset) log.items)) (λ (s : LogState). apply_all_at s (log.offset + length (take (place - log.offset) log.items)) (drop (place - log.offset) log.items)) ≡ state_at log (tip log)
parted_at log place =
    let n = place - log.offset in
    sym (states_append (take n log.items) (drop n log.items) (closed log.image) log.offset)
    ∙ (ap (λ (xs : List Item). apply_all_at (closed log.image) log.offset xs) (take-append-drop n log.items) ∙ sym (state_at_tip log))

-- each place below the tip has a state
pub state_below : (log : Log) (place : ℕ) (image : Image) → image_at log (tip log) ≡ Ok image → state_at log place ≡ Ok (seen_state log place)
unfolding image_at state_at
state_below log place image is =
    let n = place - log.offset in
    kept_first (apply_all_at (closed log.image) log.offset (take n log.items)) (λ (s : LogState). apply_all_at s (log.offset + length (take n log.items)) (drop n log.items)) image
    (ap state_image (parted_at log place) ∙ is)

image_in : (r : Result LogState Ill) → (result_unwrap_or r (closed empty)).image ≡ result_unwrap_or (state_image r) empty
image_in (Ok state) = refl
image_in (Err cause) = refl

pub image_of_seen : (log : Log) (place : ℕ) → (seen_state log place).image ≡ seen_at log place
unfolding image_at
image_of_seen log place = image_in (state_at log place)

-- and an image
pub seen_below : (log : Log) (place : ℕ) (image : Image) → image_at log (tip log) ≡ Ok image → image_at log place ≡ Ok (seen_at log place)
unfolding image_at state_at
seen_below log place image is =
    let n = place - log.offset in
    seen_first (apply_all_at (closed log.image) log.offset (take n log.items)) (λ (s : LogState). apply_all_at s (log.offset + length (take n log.items)) (drop n log.items)) image
    (ap state_image (parted_at log place) ∙ is)

-- ---- what is kept

-- an image under a place
abbrev pub under : ℕ → Image → ℤ × Image
under place image = (pos place, image)

pub not_higher : (from : ℕ) (ns : List ℕ) (to : ℕ) → Rise from ns to → from ≤ to
not_higher from [] to rise = omega (arith, rise)
not_higher from (n ∷ ns) to rise = let up = rise.0 in let rest = not_higher n ns to rise.1 in omega (arith, up, rest)

-- one list behind the other
pub rise_both : (from : ℕ) (xs : List ℕ) (mid : ℕ) (ys : List ℕ) (to : ℕ) → Rise from xs mid → Rise mid ys to → Rise from (xs ++ ys) to
rise_both from [] mid ys to first second = subst (λ n. Rise n ys to) (sym first) second
rise_both from (n ∷ xs) mid ys to first second = (first.0, rise_both n xs mid ys to first.1 second)

none_left : (log : Log) (least from : ℕ) (ns : List ℕ) (to : ℕ) → least ≤ from → Rise from ns to
    → filter (λ (k : ℤ × Image). not (int_lt (pos least) k.0)) (map (kept_image log) ns) ≡ []
none_left log least from [] to low rise = refl
none_left log least from (n ∷ ns) to low rise =
    let rest = filter (λ (k : ℤ × Image). not (int_lt (pos least) k.0)) (map (kept_image log) ns) in
    ap (λ b. cond (not b) (kept_image log n ∷ rest) rest) (is_below least n (let up = rise.0 in omega (arith, up, low)))
    ∙ none_left log least n ns to (let up = rise.0 in omega (arith, up, low)) rise.1

isnt_itself : (n : ℕ) → int_lt (pos n) (pos n) ≡ false
isnt_itself n = isnt_below n n (omega arith)

-- the images above the end are dropped
pub first_left : (log : Log) (from : ℕ) (ns : List ℕ) (to : ℕ) → Rise from ns to
    → filter (λ (k : ℤ × Image). not (int_lt (pos from) k.0)) (map (kept_image log) (from ∷ ns)) ≡ kept_image log from ∷ []
first_left log from ns to rise =
    let rest = filter (λ (k : ℤ × Image). not (int_lt (pos from) k.0)) (map (kept_image log) ns) in
    ap (λ b. cond (not b) (kept_image log from ∷ rest) rest) (isnt_itself from)
    ∙ ap (λ rest. kept_image log from ∷ rest) (none_left log from from ns to (omega arith) rise)

-- and that of the end is found
pub first_found : (log : Log) (from : ℕ) (rest : Option (ℤ × Image)) → option_map (λ (k : ℤ × Image). k.1) (cond (int_eq (pos from) (pos from)) (Some (kept_image log from)) rest) ≡ Some (seen_at log from)
first_found log from rest = ap (λ b. option_map (λ (k : ℤ × Image). k.1) (cond b (Some (kept_image log from)) rest)) (id_itself (pos from))

pub none_open : (end : ℤ) (writes : List Write) → filter (is_open None end) writes ≡ []
none_open end [] = refl
none_open end (write ∷ writes) = none_open end writes

-- ---- what is kept last

less_one : (n : ℕ) → suc n - 1 ≡ n
less_one n = omega arith

abbrev pub last : List (ℤ × Image) → Option (ℤ × Image)
last kept = slice_get kept (length kept - 1)

last_later : (x y : ℤ × Image) (xs : List (ℤ × Image)) → last (x ∷ y ∷ xs) ≡ last (y ∷ xs)
last_later x y xs = ap (slice_get (x ∷ y ∷ xs)) (less_one (suc (length xs))) ∙ sym (ap (slice_get (y ∷ xs)) (less_one (length xs)))

lt_from : (m n : ℕ) (place : ℤ) → m ≤ n → int_lt (pos n) place ≡ true → int_lt (pos m) place ≡ true
lt_from m n (pos p) low h = grind (arith, nat_tests)
lt_from m n (negsuc p) low h = absurd cc

module _ (log : Log) (to : ℕ) where
  pub last_is : (from : ℕ) (ns : List ℕ) → Rise from ns to → last (map (kept_image log) (from ∷ ns)) ≡ Some (kept_image log to)
  last_is from [] rise = ap (λ n. Some (kept_image log n)) rise
  last_is from (n ∷ ns) rise = last_later (kept_image log from) (kept_image log n) (map (kept_image log) ns) ∙ last_is n ns rise.1

  pub all_below : (place : ℤ) (from : ℕ) (ns : List ℕ) → Rise from ns to → int_lt (pos to) place ≡ true → AllByRecursion (λ (k : ℤ × Image). IsTrue (int_lt k.0 place)) (map (kept_image log) (from ∷ ns))
  all_below place from [] rise high = (lt_from from to place (omega (arith, rise)) high, tt)
  all_below place from (n ∷ ns) rise high = (lt_from from to place (not_higher from (n ∷ ns) to rise) high, all_below place n ns rise.1 high)
