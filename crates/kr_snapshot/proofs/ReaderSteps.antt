-- What a reader holds, and how it goes on.
use Rattle.std.proofs.Common.{◌≡◌, ◌∙◌, ℕ, ℤ, pos, negsuc, ◌+◌, ◌<◌, ◌≤◌, false, List, [], ◌∷◌, ◌++◌, length, Option, Some, None, Result, Ok, Err, refl, sym, ap, subst, arith, inl, inr}
use Rattle.std.specs.Prelude.{take, drop, not, nat_lt, int_lt, if◌then◌else◌, IfOk, IfSome, IsTrue, ◌≤ℤ◌}
use Rattle.std.proofs.lemmas.Bool.{cases_Bool, lt-ltb, le-ltb, cases_lt}
use Rattle.std.proofs.lemmas.Int.{ints}
use Rattle.std.proofs.lemmas.List.{take-append-drop, length-take-le}
use Rattle.std.proofs.lemmas.List.Elements.{All-filter, All-from_recursion}
use Rattle.kr_defs.specs.Image.{Image, empty}
use Rattle.kr_store.specs.Images.{AreBegunFrom, Images, IsAbove, marked}
use Rattle.kr_wire.specs.Reading.{◌>>=◌}
use Rattle.kr_wire.proofs.ReadingLaws.{IsBytes, bind_ok, is_ok}
use Rattle.kr_snapshot.specs.Grammar.{IsImage}
use Rattle.kr_snapshot.proofs.WholeImages.{image_complete, image_sound}
use Rattle.std.specs.Result.{result_err}
use Rattle.kr_batch.specs.declared.fault.BatchFault.{BatchFault}
use Rattle.kr_batch.specs.declared.fault.BatchFault.TheVariants as refusals
use Rattle.kr_snapshot.specs.declared.fault.ImageFault.{ImageFault}
use Rattle.kr_snapshot.specs.Reading.{batch_fault_behind, Progress, nothing_found, headed, numbers_at, batch_refused, whole_read, Taken, nothing_taken, waits, head_taken, extent, is_no_size, size_at, batch_taken, judged, goes_on, so_far, with_piece, ends, image_of}
use Rattle.kr_snapshot.specs.declared.fault.ImageFault.TheVariants as faults
use Rattle.kr_snapshot.specs.declared.fault.BatchCause.TheVariants as causes
use Rattle.kr_snapshot.specs.declared.pieces.Body.{Body}
use Rattle.kr_snapshot.specs.declared.pieces.Pieces.{Pieces}
use Rattle.kr_snapshot.specs.ReaderState.{IsBegun, IsFault, IsUnfinished, IsWaiting, LeadsTo, Restores, StandsFor, Waits, feed_answer, body_in, progress_in, state_of, taken_in}
use Rattle.kr_snapshot.proofs.Faults.{through}
use Rattle.kr_snapshot.proofs.BatchPieces.{StartsWith, start_is, size_front, size_bad, batch_waits, head_waits, goes_on_append, fills}

-- ---- what is judged leaves nothing to judge

abbrev cut : ℕ → BatchFault → Result Taken ImageFault
cut found fault = Err (batch_fault_behind found (causes.Refused fault))

abbrev taken_ok : Taken → Result Taken ImageFault
taken_ok t = Ok t

head_settled : (held : List ℕ) (t : Taken) → head_taken held ≡ Ok t → judged t.body t.held ≡ Ok t
unfolding head_taken batch_taken
head_settled held t e = elim (cases_Bool (nat_lt (length held) 16)) [
  | inl short ↦
      let same : taken_ok (record { body = None; held = held }) ≡ taken_ok t = rw short at e in
      subst (λ (x : Taken). judged x.body x.held ≡ Ok x) (is_ok _ _ same) (rw short refl)
  | inr there ↦
      let read : (headed (numbers_at held) >>= λ head. waits (Some (head.0.0, nothing_found head.0.1)) []) ≡ Ok t = rw there at e in
      let b = bind_ok (headed (numbers_at held)) (λ head. waits (Some (head.0.0, nothing_found head.0.1)) []) t read in
      subst (λ (x : Taken). judged x.body x.held ≡ Ok x) (is_ok _ _ b.2) refl
]

-- a batch of this size
abbrev rest_taken : ℤ × Progress → List ℕ → ℕ → Result Taken ImageFault
rest_taken b held size = if nat_lt (length held) (extent size) then waits (Some b) held else (whole_read b.1 held >>= λ next. waits (Some (b.0, next)) [])

batch_settled : (b : ℤ × Progress) (held : List ℕ) (t : Taken) → batch_taken b held ≡ Ok t → judged t.body t.held ≡ Ok t
unfolding batch_taken
batch_settled b held t e = elim (cases_Bool (nat_lt (length held) 12)) [
  | inl short ↦
      let same : taken_ok (record { body = Some b; held = held }) ≡ taken_ok t = rw short at e in
      subst (λ (x : Taken). judged x.body x.held ≡ Ok x) (is_ok _ _ same) (rw short refl)
  | inr there ↦
      let read : (batch_refused b.1.found (size_at held) >>= λ size. rest_taken b held size) ≡ Ok t = rw there at e in
      let s = bind_ok (batch_refused b.1.found (size_at held)) (rest_taken b held) t read in
      elim (cases_Bool (nat_lt (length held) (extent s.0))) [
        | inl short ↦
            let same : taken_ok (record { body = Some b; held = held }) ≡ taken_ok t = rw short at s.2 in
            subst (λ (x : Taken). judged x.body x.held ≡ Ok x) (is_ok _ _ same) (rw (there, s.1, short) refl)
        | inr whole ↦
            let next : (whole_read b.1 held >>= λ next. waits (Some (b.0, next)) []) ≡ Ok t = rw whole at s.2 in
            let w = bind_ok (whole_read b.1 held) (λ next. waits (Some (b.0, next)) []) t next in
            subst (λ (x : Taken). judged x.body x.held ≡ Ok x) (is_ok _ _ w.2) refl
      ]
]

pub settled : (body : Option (ℤ × Progress)) (held : List ℕ) (t : Taken) → judged body held ≡ Ok t → judged t.body t.held ≡ Ok t
settled None held t e = head_settled held t e
settled (Some b) held t e = batch_settled b held t e

-- ---- how many bytes there have to be

abbrev size_ok : ℕ → Result ℕ BatchFault
size_ok size = Ok size

record HasSize (held : List ℕ) (size : ℕ) : Type 0 where
  starts : StartsWith (take 12 held) size
  good : is_no_size size ≡ false

no_size : (size : ℕ) (fault : BatchFault) → Err fault ≡ size_ok size → ⊥
no_size size fault e = cc

sized : (held : List ℕ) (size : ℕ) → 12 ≤ length held → size_at held ≡ Ok size → HasSize held size
sized held size there e =
    let long : length (take 12 held) ≡ 12 = length-take-le 12 held there in
    let s = start_is (take 12 held) long in
    let parts : take 12 held ++ drop 12 held ≡ held = take-append-drop 12 held in
    let read : size_at (take 12 held ++ drop 12 held) ≡ Ok size = ap size_at parts ∙ e in
    elim (cases_Bool (is_no_size s.0)) [
      | inl bad ↦ absurd (no_size size refusals.Short (sym (size_bad (take 12 held) (drop 12 held) s.0 s.1 bad) ∙ read))
      | inr good ↦
          let same : s.0 ≡ size = is_ok _ _ (sym (size_front (take 12 held) (drop 12 held) s.0 s.1 good) ∙ read) in
          subst (λ (n : ℕ). HasSize held n) same (record { starts = s.1; good = good })
    ]

pub size_waits : (b : ℤ × Progress) (held : List ℕ) (size : ℕ) → 12 ≤ length held → size_at held ≡ Ok size → Waits (Some b) held (extent size)
size_waits b held size there e =
    let s = sized held size there e in
    subst (λ (l : List ℕ). Waits (Some b) l (extent size)) (take-append-drop 12 held) (batch_waits b (take 12 held) (drop 12 held) size s.starts s.good)

abbrev kept_bytes : Result Taken ImageFault → List ℕ
kept_bytes (Ok t) = t.held
kept_bytes (Err fault) = []

abbrev kept_body : Result Taken ImageFault → Option (ℤ × Progress)
kept_body (Ok t) = t.body
kept_body (Err fault) = None

abbrev none_yet : Option (ℤ × Progress)
none_yet = None

not_none : (b : ℤ × Progress) → Some b ≡ none_yet → ⊥
not_none b e = cc

-- where nothing is judged there are fewer bytes
pub head_short : (held : List ℕ) → judged None held ≡ waits None held → length held < 16
unfolding head_taken
head_short held e = elim (cases_lt (length held) 16) [
  | inl lt ↦ lt
  | inr ge ↦
      let there : nat_lt (length held) 16 ≡ false = le-ltb (length held) 16 ge in
      let read : (headed (numbers_at held) >>= λ head. waits (Some (head.0.0, nothing_found head.0.1)) []) ≡ waits None held = rw there at e in
      let b = bind_ok (headed (numbers_at held)) (λ head. waits (Some (head.0.0, nothing_found head.0.1)) []) (record { body = None; held = held }) read in
      absurd (not_none (b.0.0.0, nothing_found b.0.0.1) (ap kept_body b.2))
]

pub batch_short : (b : ℤ × Progress) (held : List ℕ) (size : ℕ) → judged (Some b) held ≡ waits (Some b) held → 12 ≤ length held → size_at held ≡ Ok size → length held < extent size
unfolding batch_taken
batch_short b held size e there size_is = elim (cases_lt (length held) (extent size)) [
  | inl lt ↦ lt
  | inr ge ↦
      let start : nat_lt (length held) 12 ≡ false = le-ltb (length held) 12 there in
      let enough : nat_lt (length held) (extent size) ≡ false = le-ltb (length held) (extent size) ge in
      let read : (whole_read b.1 held >>= λ next. waits (Some (b.0, next)) []) ≡ waits (Some b) held = rw (start, size_is, enough) at e in
      let w = bind_ok (whole_read b.1 held) (λ next. waits (Some (b.0, next)) []) (record { body = Some b; held = held }) read in
      let bytes : [] ≡ held = ap kept_bytes w.2 in
      let none : 0 ≡ length held = ap (λ (l : List ℕ). length l) bytes in
      absurd (omega (arith, none, there))
]

pub batch_sized : (b : ℤ × Progress) (held : List ℕ) (fault : BatchFault) → judged (Some b) held ≡ waits (Some b) held → 12 ≤ length held → size_at held ≡ Err fault → ⊥
unfolding batch_taken
batch_sized b held fault e there size_is =
    let start : nat_lt (length held) 12 ≡ false = le-ltb (length held) 12 there in
    let read : cut b.1.found fault ≡ waits (Some b) held = rw (start, size_is) at e in
    cc

-- ---- a part of a piece

module _ (body : Option (ℤ × Progress)) (held front rest piece : List ℕ) (most : ℕ)
    (parts : piece ≡ front ++ rest) (waiting : Waits body held most) (some : 1 ≤ length front) (room : length held + length front ≤ most) where
  part : goes_on (record { body = body; held = held }) piece ≡ (judged body (held ++ front) >>= λ next. goes_on next rest)
  part =
      ap (goes_on (record { body = body; held = held })) parts ∙ (goes_on_append (record { body = body; held = held }) front rest
      ∙ ap (λ (r : Result Taken ImageFault). r >>= λ next. goes_on next rest) (fills body held front most waiting some room))

  pub part_taken : (after : Taken) → judged body (held ++ front) ≡ Ok after → goes_on (record { body = body; held = held }) piece ≡ goes_on after rest
  part_taken after read = part ∙ ap (λ (r : Result Taken ImageFault). r >>= λ next. goes_on next rest) read

  pub part_fault : (fault : ImageFault) → IsFault fault (judged body (held ++ front)) → IsFault fault (goes_on (record { body = body; held = held }) piece)
  part_fault fault is = through fault (judged body (held ++ front)) (goes_on (record { body = body; held = held }) piece)
      (λ read. part ∙ ap (λ (r : Result Taken ImageFault). r >>= λ next. goes_on next rest) read) is

-- ---- the store in the end

pub above_all : (store : Images) (offset : ℤ) → store.kept ≡ (negsuc 0, empty) ∷ [] → pos 0 ≤ℤ offset → IsAbove store.kept offset
above_all store (pos n) kept least = rw kept (All-from_recursion (λ (k : ℤ × Image). IsTrue (int_lt k.0 (pos n))) ((negsuc 0, empty) ∷ []) (refl, tt))
above_all store (negsuc n) kept least = absurd (omega (arith, ints))

-- no transaction is open
pub begun_from : (store : Images) (offset : ℤ) → store.begun ≡ None → store.kept_begun ≡ (negsuc 0, None) ∷ [] → AreBegunFrom (marked store offset) offset
begun_from store offset begun kept_begun =
    let P : ℤ × Option ℤ → Type 0 = λ b. IfSome b.1 (λ begin. IsTrue (not (int_lt begin offset))) in
    rw (begun, kept_begun) (record {
      tip = tt;
      kept = All-filter (λ (b : ℤ × Option ℤ). not (int_lt b.0 offset)) P ((negsuc 0, None) ∷ (offset, None) ∷ []) (All-from_recursion P ((negsuc 0, None) ∷ (offset, None) ∷ []) (tt, (tt, tt)));
    })

-- ---- what a reader stands for

pub stands_on : (t : Taken) (fed piece : List ℕ) → so_far fed ≡ Ok t → goes_on t piece ≡ so_far (fed ++ piece)
stands_on t fed piece is = sym (goes_on_append nothing_taken fed piece ∙ ap (λ (r : Result Taken ImageFault). r >>= λ next. goes_on next piece) is)

pub faulty_on : (fault : ImageFault) (fed piece : List ℕ) → IsFault fault (so_far fed) → IsFault fault (so_far (fed ++ piece))
faulty_on fault fed piece is = through fault (so_far fed) (so_far (fed ++ piece))
    (λ read. goes_on_append nothing_taken fed piece ∙ ap (λ (r : Result Taken ImageFault). r >>= λ next. goes_on next piece) read) is

-- a fault that the bytes so far show is that of all bytes
pub fault_stays : (fault : ImageFault) (fed : List ℕ) → IsFault fault (so_far fed) → IsFault fault (image_of fed)
unfolding image_of
fault_stays fault fed is = through fault (so_far fed) (so_far fed >>= λ t. ends t.body t.held) (λ read. ap (λ (r : Result Taken ImageFault). r >>= λ t. ends t.body t.held) read) is

pub end_is : (t : Taken) (fed : List ℕ) → so_far fed ≡ Ok t → image_of fed ≡ ends t.body t.held
unfolding image_of
end_is t fed is = ap (λ (r : Result Taken ImageFault). r >>= λ x. ends x.body x.held) is

pub faults_stay : (fed more : List ℕ) (fault : ImageFault) → so_far fed ≡ Err fault → image_of (fed ++ more) ≡ Err fault
unfolding image_of
faults_stay fed more fault read =
    let on : so_far (fed ++ more) ≡ Err fault = goes_on_append nothing_taken fed more ∙ ap (λ (r : Result Taken ImageFault). r >>= λ next. goes_on next more) read in
    ap (λ (r : Result Taken ImageFault). r >>= λ t. ends t.body t.held) on

-- ---- a whole piece

pub all_taken : (t first : Taken) (rest piece : List ℕ) → length rest ≡ 0 → goes_on t rest ≡ goes_on first piece → goes_on first piece ≡ Ok t
all_taken t first [] piece none so_far = sym so_far
all_taken t first (x ∷ rest) piece none so_far = absurd (omega (arith, none))

pub fault_taken : (t first : Taken) (rest piece : List ℕ) (fault : ImageFault) → goes_on t rest ≡ goes_on first piece → IsFault fault (goes_on t rest) → IsFault fault (goes_on first piece)
fault_taken t first rest piece fault so_far is = through fault (goes_on t rest) (goes_on first piece) (λ read. sym so_far ∙ read) is

then_piece : (r : Result Taken ImageFault) (piece : List ℕ) → (r >>= λ next. goes_on next piece) ≡ with_piece r piece
then_piece (Ok t) piece = refl
then_piece (Err fault) piece = refl

pub piece_more : (fed piece : List ℕ) → so_far (fed ++ piece) ≡ with_piece (so_far fed) piece
piece_more fed piece = goes_on_append nothing_taken fed piece ∙ then_piece (so_far fed) piece

-- ---- how many bytes there have to be, for what a reader holds

same_size : (a b : ℕ) → size_ok a ≡ size_ok b → a ≡ b
same_size a b e = is_ok _ _ e

pub unfinished_size : (held : List ℕ) (size : ℕ) → IsUnfinished held → 12 ≤ length held → size_at held ≡ Ok size → length held < extent size
unfinished_size held size unfinished there read =
    let u = unfinished there in
    let same = same_size u.0 size (sym u.1 ∙ read) in
    let short = u.2 in
    omega (arith, same, short)

pub unfinished_sized : (held : List ℕ) (fault : BatchFault) → IsUnfinished held → 12 ≤ length held → size_at held ≡ Err fault → ⊥
unfinished_sized held fault unfinished there read =
    let u = unfinished there in
    no_size u.0 fault (sym read ∙ u.1)

size_there : (r : Result ℕ BatchFault) → ((fault : BatchFault) → r ≡ Err fault → ⊥) → (size : ℕ) × (r ≡ Ok size)
size_there (Ok size) none = (size, refl)
size_there (Err fault) none = absurd (none fault refl)

pub unfinished : (b : ℤ × Progress) (held : List ℕ) → judged (Some b) held ≡ waits (Some b) held → IsUnfinished held
unfinished b held waiting = λ there.
    let s = size_there (size_at held) (λ fault read. batch_sized b held fault waiting there read) in
    (s.0, s.1, batch_short b held s.0 waiting there s.1)

pub goal_none : (p : Pieces) → p.body ≡ None → IsWaiting p → (length p.held.items < 16) × Waits (body_in p.body p.store.tip) p.held.items 16
goal_none p none w =
    let held : List ℕ = p.held.items in
    let is : body_in p.body p.store.tip ≡ None = ap (λ (b : Option Body). body_in b p.store.tip) none in
    (head_short held (subst (λ (b : Option (ℤ × Progress)). judged b held ≡ waits b held) is w.waiting), subst (λ (b : Option (ℤ × Progress)). Waits b held 16) (sym is) (head_waits held))

pub goal_some : (p : Pieces) (body : Body) → p.body ≡ Some body → IsWaiting p → IsUnfinished p.held.items
goal_some p body some w =
    let held : List ℕ = p.held.items in
    let is : body_in p.body p.store.tip ≡ Some (body.offset, progress_in body.tally p.store.tip) = ap (λ (b : Option Body). body_in b p.store.tip) some in
    unfinished (body.offset, progress_in body.tally p.store.tip) held (subst (λ (b : Option (ℤ × Progress)). judged b held ≡ waits b held) is w.waiting)

pub waits_some : (p : Pieces) (body : Body) (most : ℕ) → p.body ≡ Some body → ((b : ℤ × Progress) → Waits (Some b) p.held.items most) → Waits (body_in p.body p.store.tip) p.held.items most
waits_some p body most some all =
    let is : body_in p.body p.store.tip ≡ Some (body.offset, progress_in body.tally p.store.tip) = ap (λ (b : Option Body). body_in b p.store.tip) some in
    subst (λ (b : Option (ℤ × Progress)). Waits b p.held.items most) (sym is) (all (body.offset, progress_in body.tally p.store.tip))

-- ---- the end

pub ends_short : (b : ℤ × Progress) → b.1.found < b.1.expected → ends (Some b) [] ≡ Err (faults.NoEnd b.1.found b.1.expected)
ends_short b short = rw (lt-ltb b.1.found b.1.expected short) refl

pub ends_whole : (b : ℤ × Progress) → b.1.expected ≤ b.1.found → ends (Some b) [] ≡ Ok (b.0, b.1.image)
ends_whole b whole = rw (le-ltb b.1.found b.1.expected whole) refl

-- ---- calls

pub waiting_after : (p after : Pieces) (held : List ℕ) → IsBegun after.body after.store → judged (body_in p.body p.store.tip) held ≡ Ok (taken_in after) → IsWaiting after
waiting_after p after held begun read = record { begun = begun; waiting = settled (body_in p.body p.store.tip) held (taken_in after) read }

pub fed_more : (t after : Taken) (answer : Result (Unit {0}) ImageFault) (fed piece : List ℕ) → LeadsTo answer after (goes_on t piece) → so_far fed ≡ Ok t
    → StandsFor (state_of (result_err answer) after) (fed ++ piece)
fed_more t after (Ok done) fed piece leads stands = sym (stands_on t fed piece stands) ∙ leads
fed_more t after (Err fault) fed piece leads stands = subst (λ (r : Result Taken ImageFault). IsFault fault r) (stands_on t fed piece stands) leads

pub answers : (answer : Result (Unit {0}) ImageFault) (after : Taken) → answer ≡ feed_answer (state_of (result_err answer) after)
answers (Ok tt) after = refl
answers (Err fault) after = refl

stands_as : (s : Result Taken ImageFault) (f : Option ImageFault) (t : Taken) → state_of f t ≡ s → (g : Option ImageFault) → f ≡ g → (fed : List ℕ) → StandsFor s fed → StandsFor (state_of g t) fed
stands_as s f t view g is fed stands = subst (λ (x : Result Taken ImageFault). StandsFor x fed) (sym view ∙ ap (λ (o : Option ImageFault). state_of o t) is) stands

pub stands_fault : (s : Result Taken ImageFault) (f : Option ImageFault) (t : Taken) (fault : ImageFault) → state_of f t ≡ s → f ≡ Some fault → (fed : List ℕ) → StandsFor s fed → IsFault fault (so_far fed)
stands_fault s f t fault view is fed stands = stands_as s f t view (Some fault) is fed stands

pub stands_open : (s : Result Taken ImageFault) (f : Option ImageFault) (t : Taken) → state_of f t ≡ s → f ≡ None → (fed : List ℕ) → StandsFor s fed → so_far fed ≡ Ok t
stands_open s f t view is fed stands = stands_as s f t view None is fed stands

-- what is given in the end
restored : (result : Result (ℤ × Images) ImageFault) (read whole : Result (ℤ × Image) ImageFault) → whole ≡ read → Restores result read → Restores result whole
restored result read whole is given = subst (λ (r : Result (ℤ × Image) ImageFault). Restores result r) (sym is) given

pub given_end : (result : Result (ℤ × Images) ImageFault) (t : Taken) (fed : List ℕ) → so_far fed ≡ Ok t → Restores result (ends t.body t.held) → Restores result (image_of fed)
given_end result t fed stands given = restored result (ends t.body t.held) (image_of fed) (end_is t fed stands) given

pub given_found : (result : Result (ℤ × Images) ImageFault) (fed : List ℕ) → IsBytes fed → Restores result (image_of fed) → IfOk result (λ (x : ℤ × Images). IsImage x.0 x.1.tip fed)
given_found (Ok x) fed bytes given = image_sound fed x.0 x.1.tip bytes given.0
given_found (Err fault) fed bytes given = tt

pub given_only : (result : Result (ℤ × Images) ImageFault) (fed : List ℕ) (offset : ℤ) (image : Image) → IsImage offset image fed → Restores result (image_of fed) → Restores result (Ok (offset, image))
given_only result fed offset image is given = subst (λ (r : Result (ℤ × Image) ImageFault). Restores result r) (image_complete offset image fed is) given
