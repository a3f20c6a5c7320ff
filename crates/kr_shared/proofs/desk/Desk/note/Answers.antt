use Rattle.std.proofs.Common.{◌≡◌, ◌∙◌, ◌+◌, ◌++◌, ◌∷◌, [], ap, arith}
use Rattle.kr_shared.specs.Desks.{DeskState}
use Rattle.kr_shared.specs.Lines.{LineView, line_entry}
use Rattle.kr_shared.proofs.Noting.{noted_for, notes_so}
use Rattle.kr_shared.proofs.desk.Desk.note.Goals as goal

pub returns-clause-done : goal.returns-clause-done
returns-clause-done c =
    let e = line_entry c.args.note in
    let is = ap (λ (k : DeskState). record k { line = c.note.new.self }) c.self.view_is in
    let due = ap (λ (l : LineView). l.due) c.note.ensures ∙ ap (λ (k : DeskState). k.line.due ++ e ∷ []) c.self.view_is in
    let waiting = ap (λ (l : LineView). l.waiting) c.note.ensures ∙ ap (λ (k : DeskState). k.line.waiting) c.self.view_is in
    notes_so c.args.self.now _ c.requires.rests c.requires.stands e c.note.new.self due waiting is c.requires.bare

pub returns-clause-stands : goal.returns-clause-stands
returns-clause-stands c =
    let e = line_entry c.args.note in
    let old = c.args.self.now.line in
    let is = ap (λ (k : DeskState). record k { line = c.note.new.self }) c.self.view_is in
    let due = ap (λ (l : LineView). l.due) c.note.ensures ∙ ap (λ (k : DeskState). k.line.due ++ e ∷ []) c.self.view_is in
    let waiting = ap (λ (l : LineView). l.waiting) c.note.ensures ∙ ap (λ (k : DeskState). k.line.waiting) c.self.view_is in
    let dues : c.note.new.self.dues ≡ old.dues + 1 = ap (λ (l : LineView). l.dues) c.note.ensures ∙ ap (λ (k : DeskState). k.line.dues + 1) c.self.view_is in
    let waits : c.note.new.self.waits ≡ old.waits = ap (λ (l : LineView). l.waits) c.note.ensures ∙ ap (λ (k : DeskState). k.line.waits) c.self.view_is in
    let room : c.note.new.self.room ≡ old.room = ap (λ (l : LineView). l.room) c.note.ensures ∙ ap (λ (k : DeskState). k.line.room) c.self.view_is in
    let none = c.requires.rests.seated.dues in
    let more = c.requires.room in
    noted_for c.args.self.now _ c.requires.rests c.requires.stands e c.note.new.self due waiting is c.requires.bare (omega (arith, dues, waits, room, none, more))
