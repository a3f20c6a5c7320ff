use Rattle.std.proofs.Common.{rules, ◌≡◌, ◌∙◌, ◌+◌, ℕ, List, length, sym, ap, subst}
use Rattle.std.specs.Prelude.{Some, slice_get}
use Rattle.kr_shared.specs.Clients.{Client, a_client}
use Rattle.kr_shared.proofs.LastSeats.{seated_front}
use Rattle.kr_shared.proofs.opening.seats_down.Goals as goal

pub loop-made-preserved : goal.loop-made-preserved
loop-made-preserved c =
    let options = c.args.options.now in
    let left = length c.last_seat.new.readers.items in
    let one : (left + 1 ≡ length c.loop-made.readers.items) × (c.in-Some.seat ≡ a_client options (left + 1)) = search rules in
    record {
      passes = c.in_ok-seat.ensures.passes;
      readers = c.in_ok-seat.ensures.readers;
      alike = c.in_ok-seat.ensures.alike;
      many = search rules;
      seated = λ k s e. seated_front options left c.in-Some.seat c.loop-made.made.items one.1 (λ j t f. c.loop-made.invariant.seated j t f ∙ ap (λ (n : ℕ). a_client options (n + j + 1)) (sym one.0)) k s (subst (λ (l : List Client). slice_get l k ≡ Some s) c.in_ok-push_front.ensures.items e);
    }
