use Rattle.std.proofs.Common.{ap, ◌∙◌, ◌++◌, ◌∷◌, [], inl, inr, refl}
use Rattle.kr_timeline.proofs.timeline.write_listed.Goals as goal

pub returns-then-is_written-clause-ok : goal.returns-then-is_written-clause-ok
returns-then-is_written-clause-ok g c = record { writes = c.in_ok-write.ensures.ok; listed = inr (refl, c.is_written.ensures c.if-is_written.true) }

pub returns-clause-ok : goal.returns-clause-ok
returns-clause-ok g c = record {
  writes = c.in_ok-write-2.ensures.ok;
  listed = inl (c.push_reserved.ensures.items ∙ ap (λ ks. ks ++ c.in_ok-copy.copy ∷ []) c.in_ok-reserve.ensures.items ∙ ap (λ k. c.args.keys.now.items ++ k ∷ []) c.in_ok-copy.ensures);
}
