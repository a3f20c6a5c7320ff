use Rattle.std.proofs.Common.{◌≡◌, ◌∙◌, ℤ, Err, Ok, ap, fold, int_lt, rules, subst, sym, w64, false}
use Rattle.std.specs.Prelude.{FitsSigned, unwrap_or}
use Rattle.std.proofs.lemmas.Int.{to_z-of_z}
use Rattle.kr_base.specs.declared.answers.NoEpoch.{NoEpoch}
use Rattle.kr_calls.specs.SeatList.{lower}
use Rattle.kr_store.specs.Images.{AreBegunFrom, begun_at}
use Rattle.kr_store.specs.declared.places.At.TheVariants as places
use Rattle.kr_view.proofs.NeededEpochs.{begun_there, floor_begun, floor_low}
use Rattle.kr_view.proofs.standing.oldest_needed.Goals as goal

pub returns-in-Ok-clause-low : goal.returns-in-Ok-clause-low
returns-in-Ok-clause-low c =
    let store = c.args.store.now in
    let oldest = fold lower c.args.end.now c.args.pins.now in
    let fits : FitsSigned w64 c.oldest-oldest.result = search rules in
    let round = to_z-of_z w64 c.oldest-oldest.result fits in
    let at : c.at_epoch.result ≡ places.Epoch oldest = c.at_epoch.ensures ∙ ap (λ (z : ℤ). places.Epoch z) (round ∙ c.oldest-oldest.ensures) in
    let begun : c.in-Ok.begin ≡ begun_at store oldest = begun_there store c.args.end.now c.args.pins.now c.requires c.counts-counts.ensures.valid {E = NoEpoch} c.at_epoch.result (Ok c.in-Ok.begin) at c.in-Ok.ensures in
    let same = c.oldest-oldest.ensures in
    let chosen = c.unwrap_or.ensures in
    let floor : c.unwrap_or.result ≡ unwrap_or (begun_at store oldest) oldest = cc in
    let fit : FitsSigned w64 c.unwrap_or.result = search rules in
    subst (λ (z : ℤ). int_lt oldest z ≡ false) (sym (to_z-of_z w64 c.unwrap_or.result fit ∙ floor)) (floor_low store c.args.end.now c.args.pins.now c.requires c.counts-counts.ensures.valid)

pub returns-in-Ok-clause-begun : goal.returns-in-Ok-clause-begun
returns-in-Ok-clause-begun c =
    let store = c.args.store.now in
    let oldest = fold lower c.args.end.now c.args.pins.now in
    let fits : FitsSigned w64 c.oldest-oldest.result = search rules in
    let round = to_z-of_z w64 c.oldest-oldest.result fits in
    let at : c.at_epoch.result ≡ places.Epoch oldest = c.at_epoch.ensures ∙ ap (λ (z : ℤ). places.Epoch z) (round ∙ c.oldest-oldest.ensures) in
    let begun : c.in-Ok.begin ≡ begun_at store oldest = begun_there store c.args.end.now c.args.pins.now c.requires c.counts-counts.ensures.valid {E = NoEpoch} c.at_epoch.result (Ok c.in-Ok.begin) at c.in-Ok.ensures in
    let same = c.oldest-oldest.ensures in
    let chosen = c.unwrap_or.ensures in
    let floor : c.unwrap_or.result ≡ unwrap_or (begun_at store oldest) oldest = cc in
    let fit : FitsSigned w64 c.unwrap_or.result = search rules in
    subst (λ (z : ℤ). AreBegunFrom store z) (sym (to_z-of_z w64 c.unwrap_or.result fit ∙ floor)) (floor_begun store c.args.end.now c.args.pins.now c.requires c.counts-counts.ensures.valid)

pub returns-in-Err-clause-begun : goal.returns-in-Err-clause-begun
returns-in-Err-clause-begun c =
    let fits : FitsSigned w64 c.oldest-oldest.result = search rules in
    let at : c.at_epoch.result ≡ places.Epoch (fold lower c.args.end.now c.args.pins.now) = c.at_epoch.ensures ∙ ap (λ (z : ℤ). places.Epoch z) (to_z-of_z w64 c.oldest-oldest.result fits ∙ c.oldest-oldest.ensures) in
    absurd (begun_there c.args.store.now c.args.end.now c.args.pins.now c.requires c.counts-counts.ensures.valid c.at_epoch.result (Err c.in-Err.field-0) at c.in-Err.ensures)
