-- A record that begins no transaction is staged among plain entries.
use Rattle.std.proofs.Common.{◌≡◌, ◌∙◌, Bool, true, false, List, [], ◌∷◌, ◌++◌, ℤ, refl}
use Rattle.std.specs.Prelude.{All}
use Rattle.std.proofs.lemmas.List.Elements.{All-append, All-cons, All-nil}
use Rattle.kr_calls.specs.declared.events.Entry.{Entry}
use Rattle.kr_calls.specs.declared.events.Entry.TheVariants as entries
use Rattle.kr_defs.specs.declared.record.Item.TheVariants as items
use Rattle.kr_defs.specs.declared.record.Record.{Record}
use Rattle.kr_view.specs.Shelves.{Shelf, with_staged}
use Rattle.kr_view.specs.Staged.{is_begin, is_begin_record}
use Rattle.kr_view.specs.StagedLaws.{IsPlain, is_plain_entry}

pub stays_plain : (s : Shelf) (place : ℤ) (change : Record) → IsPlain s → is_begin_record change ≡ false → IsPlain (with_staged s (entries.Item place (items.Record change)))
stays_plain s place change plain begins =
    let e : Entry = entries.Item place (items.Record change) in
    let P : Entry → Type 0 = λ e. is_plain_entry e ≡ true in
    let B : Entry → Type 0 = λ e. is_begin e ≡ false in record {
      closed = plain.closed;
      waiting = plain.waiting;
      items = All-append P s.items (e ∷ []) plain.items (All-cons P e [] refl (All-nil P));
      begins = All-append B s.items (e ∷ []) plain.begins (All-cons B e [] begins (All-nil B));
      notes = plain.notes;
      no_begins = plain.no_begins;
    }
