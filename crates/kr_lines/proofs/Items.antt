-- The lines of a batch's items, one after the other.
use Rattle.std.proofs.Common.{◌≡◌, ◌∙◌, ℕ, ◌+◌, List, ◌∷◌, ◌++◌, drop, append_assoc, ap}
use Rattle.kr_defs.specs.declared.record.Item.{Item}
use Rattle.kr_batch.specs.declared.Batch.{Batch}
use Rattle.kr_json.specs.Lines.{record_line}
use Rattle.kr_lines.specs.BatchLines.{entry_version, item_lines, place_in, told_or_none}

module _ (batch : Batch) (bytes : List ℕ) where
  pub line_more : (text text' : List ℕ) (number at next version : ℕ) (item : Item) (others : List Item) → (version, drop next bytes) ≡ told_or_none (entry_version (drop at bytes)) → text' ≡ text ++ record_line (place_in batch number) version item → text' ++ item_lines batch (number + 1) others (drop next bytes) ≡ text ++ item_lines batch number (item ∷ others) (drop at bytes)
  line_more text text' number at next version item others told grown =
      let line = record_line (place_in batch number) version item in
      let behind = item_lines batch (number + 1) others (drop next bytes) in
      ap (λ (l : List ℕ). l ++ behind) grown ∙ (append_assoc text line behind
      ∙ ap (λ (p : ℕ × List ℕ). text ++ (record_line (place_in batch number) p.0 item ++ item_lines batch (number + 1) others p.1)) told)
