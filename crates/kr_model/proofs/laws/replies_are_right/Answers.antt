use Rattle.kr_model.proofs.ContactTimes.{left_in_time as check_0}
-- EventOutcomes
use Rattle.kr_model.proofs.EventsWithoutWrites.{grown as check_2}
use Rattle.kr_model.proofs.FencedBrokers.{hears_by as check_3}
use Rattle.kr_model.proofs.LoadedImages.{empty_valid as check_4}
use Rattle.kr_model.proofs.OrderlyStates.{not_earlier as check_5}
use Rattle.kr_model.proofs.OutputsLeft.{handing_out_stands as check_6}
use Rattle.kr_model.proofs.Queues.{never as check_7}
use Rattle.kr_model.proofs.SoundEngines.{opened_sound as check_8}
use Rattle.kr_model.proofs.StandingEngines.{is_core as check_9}
use Rattle.kr_model.proofs.UnfencedBrokers.{unfenced_once as check_10}
use Rattle.kr_model.proofs.Weights.{weights_append as check_11}
use Rattle.kr_model.proofs.WriteOrders.{order_more as check_12}
use Rattle.kr_model.proofs.Examples.{commits as check_13}
use Rattle.kr_model.proofs.CoveredEnds.{covered_above as check_14}
use Rattle.kr_model.proofs.TransactionWeights.{since_at_tip as check_15}
use Rattle.kr_model.proofs.Leaderships.{lead_written as check_16}
use Rattle.kr_model.proofs.RightReplies.{replies_are_right}
use Rattle.kr_model.proofs.laws.replies_are_right.Goals as goal

pub returns : goal.returns
returns c = replies_are_right
