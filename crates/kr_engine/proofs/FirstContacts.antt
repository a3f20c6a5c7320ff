-- Whom a leadership begins to hear of: each broker once, and the stopping ones among the unfenced.
use Rattle.std.proofs.Common.{◌≡◌, ◌∙◌, sym, ℤ, pos, true, false, ap, arith, not, List}
use Rattle.std.proofs.lemmas.Int.{ints}
use Rattle.std.specs.Prelude.{◌+ℤ◌, ◌||◌, None, int_lt, is_some, IsTrue}
use Rattle.std.specs.Ordering.{int_eq}
use Rattle.kr_defs.specs.Brokers as brokers
use Rattle.kr_defs.specs.Ids.{is_distinct, is_within}
use Rattle.kr_defs.specs.Image.{Image}
use Rattle.kr_defs.proofs.IdLists.{same_id}
use Rattle.kr_defs.proofs.Tests.{none_is, not_false}
use Rattle.kr_store.specs.Images.{AreValid, Images, IsAbove}
use Rattle.kr_model.specs.Engine.{Core}
use Rattle.kr_engine.specs.inner.Lead.{lead_reason}
use Rattle.kr_model.specs.Reasons.{already_leading, bad_next, old_epoch}
use Rattle.kr_engine.specs.inner.Ready.{IsReady}
use Rattle.kr_model.proofs.UnfencedBrokers.{stopping_once, stopping_within, unfenced_once}
use Rattle.kr_engine.proofs.FirstReasons.{none_row}

pub unfenced_distinct : (images : Images) → AreValid images → IsTrue (is_distinct (brokers.unfenced images.tip))
unfenced_distinct images valid = unfenced_once images.tip valid.tip

pub stopping_distinct : (images : Images) → AreValid images → IsTrue (is_distinct (brokers.stopping images.tip))
stopping_distinct images valid = stopping_once images.tip valid.tip

pub stopping_among : (images : Images) → AreValid images → IsTrue (is_within (brokers.stopping images.tip) (brokers.unfenced images.tip))
stopping_among images valid = stopping_within images.tip valid.tip

-- of the image that is looked at, which is the present one
pub seen_among : (images : Images) (seen : Image) (stopping unfenced : List ℤ) → AreValid images → seen ≡ images.tip → stopping ≡ brokers.stopping seen → unfenced ≡ brokers.unfenced seen → IsTrue (is_within stopping unfenced)
seen_among images seen stopping unfenced valid is stops hears =
    ap (λ (ids : List ℤ). is_within ids unfenced) (stops ∙ ap brokers.stopping is)
    ∙ (ap (λ (ids : List ℤ). is_within (brokers.stopping images.tip) ids) (hears ∙ ap brokers.unfenced is) ∙ stopping_among images valid)

pub ruleset heard_of = (unfenced_distinct, stopping_distinct, stopping_among, seen_among)

-- ---- a leadership that begins one above the end

higher : (b : ℤ) → int_lt b (b +ℤ pos 1) ≡ true
higher b = grind (arith, ints)

one_higher : (a b : ℤ) → int_eq a (b +ℤ pos 1) ≡ true → int_lt b a ≡ true
one_higher a b is = ap (int_lt b) (same_id a (b +ℤ pos 1) is) ∙ higher b

pub begins_higher : (e : Core) (epoch next : ℤ) → IsReady e → None ≡ lead_reason e epoch next → int_eq next e.committed ≡ false → int_lt e.tip next ≡ true
begins_higher e epoch next r none other =
    let one = none_row (is_some e.leading) (already_leading e.leading) _ (sym none) in
    let two = none_row (not (int_lt e.greatest epoch)) (old_epoch epoch e.greatest) _ one.1 in
    let three = none_row (not (int_eq next e.committed || int_eq next (e.committed +ℤ pos 1))) (bad_next next e.committed) _ two.1 in
    let begins = not_false (int_eq next e.committed || int_eq next (e.committed +ℤ pos 1)) three.0 in
    let above : int_eq next (e.committed +ℤ pos 1) ≡ true = sym (ap (λ b. b || int_eq next (e.committed +ℤ pos 1)) other) ∙ begins in
    sym (ap (λ c. int_lt c next) (r.at_standby (none_is e.leading one.0))) ∙ one_higher next e.committed above

pub begins_above : (e : Core) (epoch next : ℤ) → IsReady e → None ≡ lead_reason e epoch next → int_eq next e.committed ≡ false → IsAbove e.images.kept next
begins_above e epoch next r none other = r.above next (begins_higher e epoch next r none other)
