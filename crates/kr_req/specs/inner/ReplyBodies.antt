-- What is appended for the body of a reply.
use Rattle.std.specs.Prelude.{ℕ, List}
use Rattle.kr_layout.specs.Answers.{Puts}
use Rattle.kr_calls.specs.declared.calls.Reply.{Reply}
use Rattle.kr_req.specs.WrittenReplies.{of_body}

abbrev pub PutsBody : Reply → List ℕ → List ℕ → Type 0
PutsBody reply before after = of_body (λ X s x. Puts s x before after) reply
