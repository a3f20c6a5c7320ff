use Rattle.std.proofs.Common.{◌≡◌, ◌∙◌, ◌<◌, ◌+◌, ℕ, not, sym, arith}
use Rattle.kr_defs.specs.Image.{has_topic}
use Rattle.kr_topics.proofs.FirstNumbers.{find_begin, find_here, find_later, find_none}
use Rattle.kr_topics.proofs.create_topics.free_id.Goals as goal

pub loop-id-init : goal.loop-id-init
loop-id-init g c = find_begin (λ (id : ℕ). not (has_topic c.args.seen.now.topics id)) c.args.first c.args.count

pub loop-id-preserved : goal.loop-id-preserved
loop-id-preserved g c =
    let lt : c.loop-id.id < c.args.first + c.args.count = omega arith in
    sym (find_later (λ (id : ℕ). not (has_topic c.args.seen.now.topics id)) c.loop-id.id (c.args.first + c.args.count) lt (sym c.is_free.ensures ∙ c.if-is_free.false)) ∙ c.loop-id.invariant

pub returns-then-is_free : goal.returns-then-is_free
returns-then-is_free g c =
    let lt : c.loop-id.id < c.args.first + c.args.count = omega arith in
    sym (find_here (λ (id : ℕ). not (has_topic c.args.seen.now.topics id)) c.loop-id.id (c.args.first + c.args.count) lt (sym c.is_free.ensures ∙ c.if-is_free.true)) ∙ c.loop-id.invariant

pub returns : goal.returns
returns g c =
    let is : c.loop-id.id ≡ c.args.first + c.args.count = omega arith in
    sym (find_none (λ (id : ℕ). not (has_topic c.args.seen.now.topics id)) c.loop-id.id (c.args.first + c.args.count) is) ∙ c.loop-id.invariant
