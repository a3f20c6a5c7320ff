use Rattle.std.proofs.Common.{◌≡◌, ◌∙◌, arith, sym, List, ℕ, false}
use Rattle.std.specs.Prelude.{Some}
use Rattle.std.specs.Option.{option_copied}
use Rattle.kr_defs.specs.Map.{contains, text_order}
use Rattle.kr_defs.specs.Texts.{names_agree}
use Rattle.kr_defs.proofs.ImageParts.{text_total}
use Rattle.kr_defs.proofs.Walks.{walk_less}
use Rattle.kr_replication.proofs.AgreeingNames.{fewer, found, jump, none_next, none_other}
use Rattle.kr_replication.proofs.EntryTests.{any_here, any_later, any_none}
use Rattle.kr_replication.proofs.collision.has_agreeing_name.Goals as goal

pub loop-next-preserved : goal.loop-next-preserved
loop-next-preserved g c =
    let topics = c.args.seen.now.topics in
    let name = c.args.name.now in
    let next = rw c.in-Some.is at c.in_ok-next.ensures in
    let absent : contains text_order topics c.in-Some.next ≡ false = sym c.is_topic.ensures ∙ c.if-is_topic.false in
    c.loop-next.invariant ∙ (jump name (option_copied c.loop-next.after) c.in-Some.next next topics absent
    ∙ any_later text_total (λ (topic : List ℕ × ℕ). names_agree topic.0 name) topics (Some c.in-Some.next) (c.in-Some-next_topic.other.now, c.in-Some-next_topic._id.now) c.is_valid.ensures.topics.ordered c.in-Some-next_topic.ensures (sym c.names_agree.ensures ∙ c.if-names_agree.false))

pub loop-next-smaller : goal.loop-next-smaller
loop-next-smaller g c =
    let topics = c.args.seen.now.topics in
    let next = rw c.in-Some.is at c.in_ok-next.ensures in
    let less = walk_less text_total topics (Some c.in-Some.next) (c.in-Some-next_topic.other.now, c.in-Some-next_topic._id.now) c.is_valid.ensures.topics.ordered c.in-Some-next_topic.ensures in
    let most = fewer c.args.name.now (option_copied c.loop-next.after) c.in-Some.next next topics in
    omega (arith, less, most)

pub returns-then-not-is_ascii : goal.returns-then-not-is_ascii
returns-then-not-is_ascii g c =
    sym (none_other c.args.name.now c.args.seen.now.topics (sym c.is_ascii.ensures ∙ c.if-not-is_ascii.true) c.is_valid.ensures.topics.names)

pub returns-then-is_topic : goal.returns-then-is_topic
returns-then-is_topic g c =
    let next = rw c.in-Some.is at c.in_ok-next.ensures in
    sym (found c.args.name.now (option_copied c.loop-next.after) c.in-Some.next next c.args.seen.now.topics (sym c.is_topic.ensures ∙ c.if-is_topic.true))

pub returns-in_default-next_topic : goal.returns-in_default-next_topic
returns-in_default-next_topic g c =
    let topics = c.args.seen.now.topics in
    let name = c.args.name.now in
    let next = rw c.in-Some.is at c.in_ok-next.ensures in
    let absent : contains text_order topics c.in-Some.next ≡ false = sym c.is_topic.ensures ∙ c.if-is_topic.false in
    sym (c.loop-next.invariant ∙ (jump name (option_copied c.loop-next.after) c.in-Some.next next topics absent
    ∙ any_none text_total (λ (topic : List ℕ × ℕ). names_agree topic.0 name) topics (Some c.in-Some.next) c.in_default-next_topic.ensures))

pub returns-then-names_agree : goal.returns-then-names_agree
returns-then-names_agree g c =
    let topics = c.args.seen.now.topics in
    let name = c.args.name.now in
    let next = rw c.in-Some.is at c.in_ok-next.ensures in
    let absent : contains text_order topics c.in-Some.next ≡ false = sym c.is_topic.ensures ∙ c.if-is_topic.false in
    sym (c.loop-next.invariant ∙ (jump name (option_copied c.loop-next.after) c.in-Some.next next topics absent
    ∙ any_here text_total (λ (topic : List ℕ × ℕ). names_agree topic.0 name) topics (Some c.in-Some.next) (c.in-Some-next_topic.other.now, c.in-Some-next_topic._id.now) c.is_valid.ensures.topics.ordered c.in-Some-next_topic.ensures (sym c.names_agree.ensures ∙ c.if-names_agree.true)))

pub returns : goal.returns
returns g c =
    sym (c.loop-next.invariant ∙ none_next c.args.name.now (option_copied c.loop-next.after) (rw c.in_default.is at c.in_ok-next.ensures) c.args.seen.now.topics)
