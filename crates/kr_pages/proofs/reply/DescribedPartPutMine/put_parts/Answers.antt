use Rattle.kr_layout.proofs.Chains.{puts_structure, puts_then}
use Rattle.kr_pages.proofs.reply.DescribedPartPutMine.put_parts.Goals as goal

pub returns-clause-ok : goal.returns-clause-ok
returns-clause-ok c = puts_structure _ _ _ _ _ _ _ _ _ c.put_end.result c.put_end.ensures.ok (λ last.
    puts_then c.in_ok-put.ensures.ok (puts_then c.in_ok-put-2.ensures.ok (puts_then c.in_ok-put-3.ensures.ok (puts_then c.in_ok-put-4.ensures.ok (puts_then c.in_ok-put-5.ensures.ok (puts_then c.in_ok-put-6.ensures.ok (puts_then c.in_ok-put-7.ensures.ok (puts_then c.in_ok-put-8.ensures.ok (puts_then c.in_ok-put-9.ensures.ok last)))))))))
