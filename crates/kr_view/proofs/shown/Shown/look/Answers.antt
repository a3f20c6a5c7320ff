use Rattle.std.proofs.Common.{◌≡◌, ◌<◌, ℕ, List, Option, None, length, slice_index_or, sym, ap, ◌∙◌, subst, IfOk}
use Rattle.kr_calls.specs.declared.events.Entry.{Entry}
use Rattle.kr_calls.specs.declared.seat_entry.SeatEntry.{SeatEntry}
use Rattle.kr_view.specs.Looks.{looked, looked_at}
use Rattle.kr_calls.specs.SeatList.{last_of}
use Rattle.kr_view.specs.Showing.{Showing}
use Rattle.kr_view.specs.Steps.{entries_in}
use Rattle.kr_view.specs.declared.looks.Look.{Look}
use Rattle.kr_view.proofs.Tables.{entry_at, table_long}
use Rattle.kr_view.proofs.shown.Shown.look.Goals as goal

pub of-requires : goal.of-requires
of-requires c =
    let s = c.self.inside in
    let long : length s.table ≡ 65 = ap (λ (t : List (Option SeatEntry)). length t) c.self.invariant.table ∙ table_long (entries_in s.history) in
    subst (λ (n : ℕ). c.args.seat < n) (sym long) c.requires

pub returns : goal.returns
returns c =
    let s = c.self.inside in
    let list : (entries_in s.history) ≡ c.args.self.now.list = ap (λ (s : Showing). s.list) c.self.view_is in
    let last : c.of.result.now ≡ last_of c.args.seat (entries_in s.history) = c.of.ensures ∙ ap (λ (t : List (Option SeatEntry)). slice_index_or t c.args.seat None) c.self.invariant.table ∙ entry_at c.args.seat (entries_in s.history) c.requires in
    let same : looked_at c.of.result.now s.stop c.args.ticket ≡ looked c.args.seat c.args.ticket c.args.self.now.list =
    (λ i. looked_at (last i) (c.self.invariant.stop i) c.args.ticket) ∙ ap (λ (l : List Entry). looked c.args.seat c.args.ticket l) list in
    subst (λ (x : Look). IfOk c.look_at.result (λ l. l ≡ x)) same c.look_at.ensures
