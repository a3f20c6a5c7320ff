-- A log that follows the list goes on to follow it.
use Rattle.std.proofs.Common.{◌≡◌, ◌∙◌, sym, subst, ℕ, ◌+◌, ◌-◌, ◌≤◌, List, [], ◌∷◌, ◌++◌, length, take, drop, refl, ap, arith}
use Rattle.std.specs.Prelude.{None, Option, Some, Result, Ok, Err, IsOk, unwrap_or}
use Rattle.std.specs.Result.{result_unwrap_or}
use Rattle.std.specs.List.{AllByRecursion}
use Rattle.std.proofs.lemmas.List.{append-nil, append_assoc, length-append, take-append-drop, take_all, take_at}
use Rattle.kr_batch.specs.declared.Batch.{Batch}
use Rattle.kr_defs.specs.declared.record.Item.{Item}
use Rattle.kr_defs.specs.declared.ill.Ill.{Ill}
use Rattle.kr_defs.specs.Guard.{and_then}
use Rattle.kr_defs.specs.Image.{Image, IsValid, empty}
use Rattle.kr_defs.specs.Log.{Log, apply_all, closed_end_at, image_at, open_at, state_at, tip}
use Rattle.kr_defs.specs.LogStates.{closed}
use Rattle.kr_defs.proofs.StateLogs.{open_told, plain_log}
use Rattle.kr_defs.proofs.Logs.{kept_all}
use Rattle.kr_model.specs.Lost.{cut}
use Rattle.kr_model.specs.World.{log_with, seen_at}
use Rattle.kr_model.proofs.LoadedImages.{empty_valid}
use Rattle.kr_model.proofs.Logs.{apply_append, image_there}
use Rattle.law_nodes.specs.OneList.{Follows, batch_from, StandsIn, list_items}
use Rattle.law_nodes.proofs.Lists.{HasItems, batch_behind, items_append, items_one, none_long, rest_of, some_before, some_behind}

-- ---- items below the end

-- the log's items below the end
pub shared_is : (list : List Batch) (log : Log) (end : ℕ) (f : Follows list log end) → take (end - log.offset) log.items ≡ f.shared
shared_is list log end f =
    let e = f.end_is in
    ap (λ (l : List Item). take (end - log.offset) l) f.items_are ∙ take_at f.shared f.rest (end - log.offset) (omega (arith, e))

-- the list's items below the end
pub front_is : (list : List Batch) (log : Log) (end : ℕ) (f : Follows list log end) → list_items list ≡ (f.before ++ f.shared) ++ list_items f.ahead
front_is list log end f =
    ap (λ (l : List Batch). list_items l) f.list_is ∙ (items_append f.done f.ahead ∙ ap (λ (l : List Item). l ++ list_items f.ahead) f.done_is)

pub end_length : (list : List Batch) (log : Log) (end : ℕ) (f : Follows list log end) → length (f.before ++ f.shared) ≡ end
end_length list log end f =
    let long = length-append f.before f.shared in
    let o = f.offset_is in
    let e = f.end_is in
    omega (arith, long, o, e)

-- ---- facts on images

pub ok_is : (r : Result Image Ill) → IsOk r → r ≡ Ok (result_unwrap_or r empty)
ok_is (Ok image) h = refl
ok_is (Err cause) h = absurd cc

then_ok : (r : Result Image Ill) (next : Image → Result Image Ill) → IsOk (and_then r next) → IsOk r
then_ok (Ok image) next h = refl
then_ok (Err cause) next h = absurd cc

-- what begins well
pub front_means : (image : Image) (front back : List Item) → IsOk (apply_all image (front ++ back)) → IsOk (apply_all image front)
front_means image front back h = then_ok (apply_all image front) (λ i. apply_all i back) (subst (λ (r : Result Image Ill). IsOk r) (apply_append front back image) h)

later_ok : (r : Result Image Ill) (next : Image → Result Image Ill) → IsOk (and_then r next) → IsOk (next (result_unwrap_or r empty))
later_ok (Ok image) next h = h
later_ok (Err cause) next h = absurd cc

-- what stands behind goes on from what stands in front
pub later_means : (image : Image) (front back : List Item) → IsOk (apply_all image (front ++ back)) → IsOk (apply_all (result_unwrap_or (apply_all image front) empty) back)
later_means image front back h = later_ok (apply_all image front) (λ i. apply_all i back) (subst (λ (r : Result Image Ill). IsOk r) (apply_append front back image) h)

-- what goes on well
pub back_means : (image : Image) (front back : List Item) → IsOk (apply_all image front)
    → IsOk (apply_all (result_unwrap_or (apply_all image front) empty) back) → IsOk (apply_all image (front ++ back))
back_means image front back h k =
    subst (λ (r : Result Image Ill). IsOk r) (sym (apply_append front back image ∙ ap (λ (r : Result Image Ill). and_then r (λ i. apply_all i back)) (ok_is (apply_all image front) h))) k

-- ---- no transaction is open in a log whose items all have a meaning for images

module _ (log : Log) (means : IsOk (apply_all log.image log.items)) (place : ℕ) where
  plain : apply_all log.image (take (place - log.offset) log.items) ≡ Ok (result_unwrap_or (apply_all log.image (take (place - log.offset) log.items)) empty)
  plain =
      let n = place - log.offset in
      ok_is (apply_all log.image (take n log.items))
      (front_means log.image (take n log.items) (drop n log.items) (subst (λ (l : List Item). IsOk (apply_all log.image l)) (sym (take-append-drop n log.items)) means))

  plain_state : state_at log place ≡ Ok (closed (result_unwrap_or (apply_all log.image (take (place - log.offset) log.items)) empty))
  plain_state = plain_log log place (result_unwrap_or (apply_all log.image (take (place - log.offset) log.items)) empty) plain

  plain_image : image_at log place ≡ apply_all log.image (take (place - log.offset) log.items)
  plain_image = image_there log place (closed (result_unwrap_or (apply_all log.image (take (place - log.offset) log.items)) empty)) plain_state ∙ sym plain

  pub has_plain_state : (image : Image) × (state_at log place ≡ Ok (closed image))
  has_plain_state = (result_unwrap_or (apply_all log.image (take (place - log.offset) log.items)) empty, plain_state)

  none_open : open_at log place ≡ None
  none_open = sym (open_told log place (closed (result_unwrap_or (apply_all log.image (take (place - log.offset) log.items)) empty)) plain_state)

  pub all_closed : closed_end_at log place ≡ place
  all_closed = ap (λ (o : Option ℕ). unwrap_or o place) none_open

-- ---- images

pub same_image : (list : List Batch) (log : Log) (end : ℕ) → Follows list log end → IsOk (apply_all log.image log.items) → image_at log end ≡ apply_all empty (take end (list_items list))
same_image list log end f means =
    plain_image log means end
    ∙ (ap (λ (l : List Item). apply_all log.image l) (shared_is list log end f)
    ∙ (sym (apply_append f.before f.shared empty ∙ ap (λ (r : Result Image Ill). and_then r (λ i. apply_all i f.shared)) f.starts)
    ∙ ap (λ (l : List Item). apply_all empty l)
    (sym (ap (λ (l : List Item). take end l) (front_is list log end f) ∙ take_at (f.before ++ f.shared) (list_items f.ahead) end (end_length list log end f)))))

-- a log's items mean what they mean in the list behind what is below its start
pub from_start : (list : List Batch) (log : Log) (end : ℕ) (f : Follows list log end) (items : List Item) → apply_all empty (f.before ++ items) ≡ apply_all log.image items
from_start list log end f items = apply_append f.before items empty ∙ ap (λ (r : Result Image Ill). and_then r (λ i. apply_all i items)) f.starts

pub shared_means : (list : List Batch) (log : Log) (end : ℕ) (f : Follows list log end) → IsOk (apply_all log.image log.items) → IsOk (apply_all log.image f.shared)
shared_means list log end f h = front_means log.image f.shared f.rest (subst (λ (l : List Item). IsOk (apply_all log.image l)) f.items_are h)

pub seen : (list : List Batch) (log : Log) (end : ℕ) → Follows list log end → IsOk (apply_all log.image log.items) → image_at log end ≡ Ok (seen_at log end)
seen list log end f h =
    ok_is (image_at log end)
    (subst (λ (r : Result Image Ill). IsOk r) (sym (plain_image log h end ∙ ap (λ (l : List Item). apply_all log.image l) (shared_is list log end f))) (shared_means list log end f h))

-- ---- the same end, told otherwise

abbrev pub same_end : (list : List Batch) (log : Log) (end to : ℕ) → to ≡ end → Follows list log end → Follows list log to
same_end list log end to is f = record {
  done = f.done;
  ahead = f.ahead;
  before = f.before;
  shared = f.shared;
  rest = f.rest;
  list_is = f.list_is;
  done_is = f.done_is;
  items_are = f.items_are;
  offset_is = f.offset_is;
  end_is = is ∙ f.end_is;
  starts = f.starts;
}

-- ---- the list grows

abbrev pub longer_list : (list more : List Batch) (log : Log) (end : ℕ) → Follows list log end → Follows (list ++ more) log end
longer_list list more log end f = record {
  done = f.done;
  ahead = f.ahead ++ more;
  before = f.before;
  shared = f.shared;
  rest = f.rest;
  list_is = ap (λ (l : List Batch). l ++ more) f.list_is ∙ append_assoc f.done f.ahead more;
  done_is = f.done_is;
  items_are = f.items_are;
  offset_is = f.offset_is;
  end_is = f.end_is;
  starts = f.starts;
}

-- ---- the log changes

abbrev pub longer_log : (list : List Batch) (log : Log) (end : ℕ) (items : List Item) → Follows list log end → Follows list (log_with log items) end
longer_log list log end items f = record {
  done = f.done;
  ahead = f.ahead;
  before = f.before;
  shared = f.shared;
  rest = f.rest ++ items;
  list_is = f.list_is;
  done_is = f.done_is;
  items_are = ap (λ (l : List Item). l ++ items) f.items_are ∙ append_assoc f.shared f.rest items;
  offset_is = f.offset_is;
  end_is = f.end_is;
  starts = f.starts;
}

abbrev pub cut_log : (list : List Batch) (log : Log) (end : ℕ) → Follows list log end → Follows list (cut log end) end
cut_log list log end f = record {
  done = f.done;
  ahead = f.ahead;
  before = f.before;
  shared = f.shared;
  rest = [];
  list_is = f.list_is;
  done_is = f.done_is;
  items_are = shared_is list log end f ∙ sym (append-nil f.shared);
  offset_is = f.offset_is;
  end_is = f.end_is;
  starts = f.starts;
}

-- the list takes the log's next batch, where it has no more than the log has
abbrev pub settle_batch : (list : List Batch) (log : Log) (end to : ℕ) (f : Follows list log end) (b : Batch) (tail : List Item)
    → f.ahead ≡ [] → f.rest ≡ b.items ++ tail → to ≡ end + length b.items → Follows (list ++ b ∷ []) log to
settle_batch list log end to f b tail none rest up = record {
  done = list ++ b ∷ [];
  ahead = [];
  before = f.before;
  shared = f.shared ++ b.items;
  rest = tail;
  list_is = sym (append-nil (list ++ b ∷ []));
  done_is =
      items_one list b
      ∙ (ap (λ (l : List Item). l ++ b.items)
      (front_is list log end f ∙ (ap (λ (l : List Batch). (f.before ++ f.shared) ++ list_items l) none ∙ append-nil (f.before ++ f.shared)))
      ∙ append_assoc f.before f.shared b.items);
  items_are = f.items_are ∙ (ap (λ (l : List Item). f.shared ++ l) rest ∙ sym (append_assoc f.shared b.items tail));
  offset_is = f.offset_is;
  end_is = let long = length-append f.shared b.items in let e = f.end_is in omega (arith, long, e, up);
  starts = f.starts;
}

-- the log takes the list's next batch, where it has nothing of its own
abbrev pub feed_batch : (list : List Batch) (log : Log) (end to : ℕ) (f : Follows list log end) (b : Batch) (bs : List Batch)
    → f.rest ≡ [] → f.ahead ≡ b ∷ bs → to ≡ end + length b.items → Follows list (log_with log b.items) to
feed_batch list log end to f b bs none ahead up = record {
  done = f.done ++ b ∷ [];
  ahead = bs;
  before = f.before;
  shared = f.shared ++ b.items;
  rest = [];
  list_is = f.list_is ∙ (ap (λ (l : List Batch). f.done ++ l) ahead ∙ sym (append_assoc f.done (b ∷ []) bs));
  done_is = items_one f.done b ∙ (ap (λ (l : List Item). l ++ b.items) f.done_is ∙ append_assoc f.before f.shared b.items);
  items_are =
      ap (λ (l : List Item). l ++ b.items) (f.items_are ∙ (ap (λ (l : List Item). f.shared ++ l) none ∙ append-nil f.shared))
      ∙ sym (append-nil (f.shared ++ b.items));
  offset_is = f.offset_is;
  end_is = let long = length-append f.shared b.items in let e = f.end_is in omega (arith, long, e, up);
  starts = f.starts;
}

-- a log that starts from the image there
abbrev pub load_image : (list : List Batch) (log : Log) (end : ℕ) (image : Image) → Follows list log end → IsOk (apply_all log.image log.items) → image_at log end ≡ Ok image
    → Follows list (record { offset = end; image = image; items = [] }) end
load_image list log end image f means is = record {
  done = f.done;
  ahead = f.ahead;
  before = f.before ++ f.shared;
  shared = [];
  rest = [];
  list_is = f.list_is;
  done_is = f.done_is ∙ sym (append-nil (f.before ++ f.shared));
  items_are = refl;
  offset_is = sym (end_length list log end f);
  end_is = omega arith;
  starts =
      ap (λ (l : List Item). apply_all empty l)
      (sym (ap (λ (l : List Item). take end l) (front_is list log end f) ∙ take_at (f.before ++ f.shared) (list_items f.ahead) end (end_length list log end f)))
      ∙ (sym (same_image list log end f means) ∙ is);
}

-- ---- what a leader decided stands in the list once it is settled

pub settled_stands : (list : List Batch) (log : Log) (end from : ℕ) (f : Follows list log end) (front part back : List Item)
    → from ≡ log.offset + length front → log.items ≡ front ++ (part ++ back) → (from + length part) ≤ end → StandsIn (list_items list) from part
settled_stands list log end from f front part back at is low =
    let e = f.end_is in
    let o = f.offset_is in
    let both = length-append front part in
    let whole = rest_of f.shared f.rest (front ++ part) back (sym f.items_are ∙ (is ∙ sym (append_assoc front part back))) (omega (arith, e, at, low, both)) in
    let behind = drop (length (front ++ part)) f.shared in
    let long = length-append f.before front in
    record {
      front = f.before ++ front;
      back = behind ++ list_items f.ahead;
      at = omega (arith, o, at, long);
      is =
          front_is list log end f
          ∙ (ap (λ (l : List Item). (f.before ++ l) ++ list_items f.ahead) whole
          ∙ (ap (λ (l : List Item). (f.before ++ l) ++ list_items f.ahead) (append_assoc front part behind)
          ∙ (ap (λ (l : List Item). l ++ list_items f.ahead) (sym (append_assoc f.before front (part ++ behind)))
          ∙ (append_assoc (f.before ++ front) (part ++ behind) (list_items f.ahead)
          ∙ ap (λ (l : List Item). (f.before ++ front) ++ l) (append_assoc part behind (list_items f.ahead))))));
    }

-- ---- what the list has beyond the end

pub low_means : (list : List Batch) (log : Log) (end : ℕ) (f : Follows list log end) (b : Batch) (bs : List Batch) → f.rest ≡ [] → f.ahead ≡ b ∷ bs
    → IsOk (apply_all empty (list_items list)) → IsOk (apply_all log.image (log.items ++ b.items))
low_means list log end f b bs none ahead whole =
    let items_is : f.before ++ (log.items ++ b.items) ++ list_items bs ≡ list_items list =
    ap (λ (l : List Item). f.before ++ (l ++ b.items) ++ list_items bs) (f.items_are ∙ (ap (λ (l : List Item). f.shared ++ l) none ∙ append-nil f.shared))
    ∙ (ap (λ (l : List Item). l ++ list_items bs) (sym (append_assoc f.before f.shared b.items))
    ∙ (append_assoc (f.before ++ f.shared) b.items (list_items bs)
    ∙ sym (front_is list log end f ∙ ap (λ (l : List Batch). (f.before ++ f.shared) ++ list_items l) ahead))) in
    subst (λ (r : Result Image Ill). IsOk r) (from_start list log end f (log.items ++ b.items))
    (front_means empty (f.before ++ (log.items ++ b.items)) (list_items bs) (subst (λ (l : List Item). IsOk (apply_all empty l)) (sym items_is) whole))

pub no_more : (list : List Batch) (log : Log) (end : ℕ) (f : Follows list log end) → f.ahead ≡ [] → end ≡ length (list_items list)
no_more list log end f none =
    sym (ap (λ l. length l) (front_is list log end f ∙ (ap (λ (l : List Batch). (f.before ++ f.shared) ++ list_items l) none ∙ append-nil (f.before ++ f.shared))) ∙ end_length list log end f)

pub all_had : (list : List Batch) (log : Log) (end : ℕ) (f : Follows list log end) → AllByRecursion HasItems list → end ≡ length (list_items list) → f.ahead ≡ []
all_had list log end f some is =
    let long = length-append (f.before ++ f.shared) (list_items f.ahead) in
    let all = ap (λ l. length l) (front_is list log end f) in
    let here = end_length list log end f in
    none_long f.ahead (some_behind f.done f.ahead (subst (AllByRecursion HasItems) f.list_is some)) (omega (arith, is, long, all, here))

done_length : (list : List Batch) (log : Log) (end : ℕ) (f : Follows list log end) → length (list_items f.done) ≡ end
done_length list log end f = ap (λ l. length l) f.done_is ∙ end_length list log end f

pub next_batch_is : (list : List Batch) (log : Log) (end : ℕ) (f : Follows list log end) (b : Batch) (bs : List Batch) → AllByRecursion HasItems list → f.ahead ≡ b ∷ bs → batch_from end list ≡ Some b
next_batch_is list log end f b bs some ahead =
    let parts = f.list_is ∙ ap (λ (l : List Batch). f.done ++ l) ahead in
    ap (λ l. batch_from end l) parts
    ∙ (ap (λ at. batch_from at (f.done ++ b ∷ bs)) (sym (done_length list log end f))
    ∙ batch_behind f.done bs b (some_before f.done f.ahead (subst (AllByRecursion HasItems) f.list_is some)))

-- ---- the image at the tip

pub tip_is : (log : Log) → IsOk (apply_all log.image log.items) → seen_at log (tip log) ≡ result_unwrap_or (apply_all log.image log.items) empty
tip_is log means =
    ap (λ (r : Result Image Ill). result_unwrap_or r empty)
    (plain_image log means (tip log) ∙ ap (λ (l : List Item). apply_all log.image l) (take_all (tip log - log.offset) log.items (omega arith)))

-- what has a meaning on it has one behind the log's items
pub means_behind : (log : Log) (items : List Item) → IsOk (apply_all log.image log.items) → IsOk (apply_all (seen_at log (tip log)) items) → IsOk (apply_all log.image (log.items ++ items))
means_behind log items h k = back_means log.image log.items items h (subst (λ (i : Image). IsOk (apply_all i items)) (tip_is log h) k)

-- it is valid
pub valid_tip : (list : List Batch) (log : Log) (end : ℕ) → Follows list log end → IsOk (apply_all log.image log.items) → IsValid (seen_at log (tip log))
valid_tip list log end f h =
    subst IsValid (sym (tip_is log h))
    (kept_all (f.before ++ log.items) empty empty_valid (result_unwrap_or (apply_all log.image log.items) empty) (from_start list log end f log.items ∙ ok_is (apply_all log.image log.items) h))
