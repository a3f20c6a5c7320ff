use Rattle.kr_lines.proofs.Statuses.{rightly}
use Rattle.kr_lines.proofs.Told.{read_told, write_told}
use Rattle.kr_lines.proofs.words.show_and_tell.Goals as goal

pub returns-clause-ends : goal.returns-clause-ends
returns-clause-ends g c = record {
  answer = c.show-answer.result;
  holds = c.show-answer.ensures.ends;
  told = c.tell-told.result;
  same = c.tell-told.ensures.same;
  status = c.status_for.ensures;
  line = c.tell-told.ensures.told;
}

pub returns-clause-read : goal.returns-clause-read
returns-clause-read g c = λ is. c.show-answer.ensures.read (read_told c.tell-told.result c.show-answer.result _ c.tell-told.ensures.same c.status_for.ensures is)

pub returns-clause-write : goal.returns-clause-write
returns-clause-write g c = λ is. c.show-answer.ensures.write (write_told c.tell-told.result c.show-answer.result _ c.tell-told.ensures.same c.status_for.ensures is)

pub returns-clause-which : goal.returns-clause-which
returns-clause-which g c = λ still silent. rightly _ _ _ _ _ c.show-answer.result c.tell-told.result _ c.show-answer.ensures.ends (λ e. still (c.show-answer.ensures.read e)) (λ e. silent (c.show-answer.ensures.write e)) c.tell-told.ensures.same c.status_for.ensures
