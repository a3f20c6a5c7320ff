-- Two logs, of which the one begins with an image in place of a prefix of the other.
use Rattle.std.proofs.Common.{◌≡◌, ◌∙◌, sym, ℕ, ◌+◌, ◌-◌, ◌≤◌, List, [], ◌++◌, length, take, refl, ap, arith}
use Rattle.std.proofs.lemmas.List.{append_assoc, length-append}
use Rattle.std.proofs.Math.Seq.{take-append-add}
use Rattle.std.specs.Prelude.{None, Option, Result, Ok, unwrap_or}
use Rattle.std.specs.Result.{result_unwrap_or}
use Rattle.kr_defs.specs.declared.ill.Ill.{Ill}
use Rattle.kr_defs.specs.declared.record.Item.{Item}
use Rattle.kr_defs.specs.Guard.{and_then}
use Rattle.kr_defs.specs.Image.{empty}
use Rattle.kr_defs.specs.Log.{Log, closed_end_at, image_at, open_at, state_at, state_image, tip}
use Rattle.kr_defs.specs.LogStates.{LogState, apply_all_at, closed, open_behind_all}
use Rattle.kr_defs.proofs.StateLogs.{apply_append, open_all, open_append}
use Rattle.kr_model.specs.Lost.{cut}
use Rattle.kr_model.specs.World.{seen_at, seen_state, log_with}

-- the items before the offset of the short log make its image, and leave no transaction open
pub record Shortens (long short : Log) : Type 0 where
  pub prefix : List Item
  pub items : long.items ≡ prefix ++ short.items
  pub offset : short.offset ≡ long.offset + length prefix
  pub state : apply_all_at (closed long.image) long.offset prefix ≡ Ok (closed short.image)

pub shortens_itself : (log : Log) → Shortens log log
shortens_itself log = record { prefix = []; items = refl; offset = omega arith; state = refl }

module _ (long short : Log) (k : Shortens long short) where
  pub same_tip : tip long ≡ tip short
  same_tip =
      let many : length long.items ≡ length k.prefix + length short.items = ap length k.items ∙ length-append k.prefix short.items in
      let begin = k.offset in
      omega (arith, many, begin)

  -- the items up to a place that isn't in the prefix
  taken : (place : ℕ) → short.offset ≤ place → take (place - long.offset) long.items ≡ k.prefix ++ take (place - short.offset) short.items
  taken place high =
      let begin = k.offset in
      let far : place - long.offset ≡ length k.prefix + (place - short.offset) = omega (arith, begin, high) in
      ap (λ n. take n long.items) far
      ∙ (ap (take (length k.prefix + (place - short.offset))) k.items ∙ take-append-add k.prefix short.items (place - short.offset))

  same_at : (place : ℕ) → short.offset ≤ place → state_at long place ≡ state_at short place
  unfolding state_at
  same_at place high =
      let rest : List Item = take (place - short.offset) short.items in
      ap (λ (xs : List Item). apply_all_at (closed long.image) long.offset xs) (taken place high)
      ∙ (apply_append k.prefix rest (closed long.image) long.offset
      ∙ (ap (λ (r : Result LogState Ill). and_then r (λ (s : LogState). apply_all_at s (long.offset + length k.prefix) rest)) k.state
      ∙ ap (λ n. apply_all_at (closed short.image) n rest) (sym k.offset)))

  pub same_seen : (place : ℕ) → short.offset ≤ place → seen_at long place ≡ seen_at short place
  unfolding image_at
  same_seen place high = ap (λ (r : Result LogState Ill). result_unwrap_or (state_image r) empty) (same_at place high)

  pub same_seen_at_tip : seen_at long (tip long) ≡ seen_at short (tip short)
  same_seen_at_tip = ap (seen_at long) same_tip ∙ same_seen (tip short) (omega arith)

  pub same_state_at_tip : seen_state long (tip long) ≡ seen_state short (tip short)
  same_state_at_tip = ap (seen_state long) same_tip ∙ ap (λ (r : Result LogState Ill). result_unwrap_or r (closed empty)) (same_at (tip short) (omega arith))

  -- ---- the open transaction

  none_left : open_behind_all None long.offset k.prefix ≡ None
  none_left = sym (open_all k.prefix (closed long.image) long.offset (closed short.image) k.state)

  same_open : (place : ℕ) → short.offset ≤ place → open_at long place ≡ open_at short place
  unfolding open_at
  same_open place high =
      let rest : List Item = take (place - short.offset) short.items in
      ap (λ (xs : List Item). open_behind_all None long.offset xs) (taken place high)
      ∙ (open_append k.prefix rest None long.offset
      ∙ (ap (λ (o : Option ℕ). open_behind_all o (long.offset + length k.prefix) rest) none_left
      ∙ ap (λ n. open_behind_all None n rest) (sym k.offset)))

  pub same_open_at_tip : open_at long (tip long) ≡ open_at short (tip short)
  same_open_at_tip = ap (open_at long) same_tip ∙ same_open (tip short) (omega arith)

  pub same_closed : (place : ℕ) → short.offset ≤ place → closed_end_at long place ≡ closed_end_at short place
  same_closed place high = ap (λ (o : Option ℕ). unwrap_or o place) (same_open place high)

  -- ---- what changes both

  pub shortens_written : (items : List Item) → Shortens (log_with long items) (log_with short items)
  shortens_written items = record {
    prefix = k.prefix;
    items = ap (λ before. before ++ items) k.items ∙ append_assoc k.prefix short.items items;
    offset = k.offset;
    state = k.state;
  }

  pub shortens_cut : (place : ℕ) → short.offset ≤ place → Shortens (cut long place) (cut short place)
  shortens_cut place high = record { prefix = k.prefix; items = taken place high; offset = k.offset; state = k.state }
