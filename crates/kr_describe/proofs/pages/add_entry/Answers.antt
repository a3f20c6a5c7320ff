use Rattle.std.proofs.Common.{◌∙◌, sym}
use Rattle.kr_describe.proofs.PutTogether.{entry_follows, entry_joins}
use Rattle.kr_describe.proofs.pages.add_entry.Goals as goal

pub returns-then-is_of_topic : goal.returns-then-is_of_topic
returns-then-is_of_topic c = entry_joins _ _ c.in-Some.last c.args.entry c.in-Some.ensures.items _ c.in_ok-last.ensures (sym c.is_of_topic.ensures ∙ c.if-is_of_topic.true) _ c.in_ok-push-2.ensures.items

pub returns : goal.returns
returns c = entry_follows _ _ c.in-Some.last c.args.entry c.in-Some.ensures.items (sym c.is_of_topic.ensures ∙ c.if-is_of_topic.false) _ _ c.in_ok-push-3.ensures.items c.in_ok-push-4.ensures.items
