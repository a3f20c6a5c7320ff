use Rattle.std.proofs.Common.{refl}
use Rattle.kr_nodes.proofs.Handed.{ends, goes_on}
use Rattle.kr_nodes.proofs.handing.hand_out.Goals as goal

pub loop-output-init : goal.loop-output-init
loop-output-init c = record { ordered = c.requires; some = record { options = refl; stands = λ s writes k. k; so_far = refl } }

pub loop-output-preserved : goal.loop-output-preserved
loop-output-preserved c = record {
  ordered = c.in-Some.ensures.hands.ordered;
  some = goes_on _ _ _ _ _ _ _ _ c.loop-output.invariant.some c.in-Some.ensures.hands c.in-Some.ensures.tells c.in_ok-take.ensures;
}

pub returns : goal.returns
returns c = ends _ _ _ _ _ _ c.loop-output.invariant.some c.in_default.ensures.hands
