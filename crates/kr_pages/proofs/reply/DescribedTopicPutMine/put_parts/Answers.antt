use Rattle.std.proofs.Common.{ℕ, List}
use Rattle.kr_wire.specs.Schema.{Constant, Schema}
use Rattle.kr_layout.specs.Answers.{Puts}
use Rattle.kr_layout.proofs.Chains.{puts_structure, puts_then}
use Rattle.kr_pages.proofs.reply.DescribedTopicPutMine.put_parts.Goals as goal

always : {X : Type 0} {s : Schema X} {x : X} {before after : List ℕ} → Puts s x before after → Puts (Constant x s) tt before after
always put = record { bytes = put.bytes; fits = put.fits }

pub returns-clause-ok : goal.returns-clause-ok
returns-clause-ok c = puts_structure _ _ _ _ _ _ _ _ _ c.put_end.result c.put_end.ensures.ok (λ last.
    puts_then c.in_ok-put.ensures.ok (puts_then c.in_ok-put-2.ensures.ok (puts_then c.in_ok-put-3.ensures.ok (puts_then (always c.in_ok-put-4.ensures.ok) (puts_then c.in_ok-put-5.ensures.ok (puts_then (always c.in_ok-put-6.ensures.ok) last))))))
