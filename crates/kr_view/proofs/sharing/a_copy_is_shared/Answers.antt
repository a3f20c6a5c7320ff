use denote.Param.Send.{arg_send, arg_sync, param_send, param_sync}
use Rattle.kr_view.proofs.Sent.{shown_send, shown_sync}
use Rattle.kr_view.proofs.sharing.a_copy_is_shared.Goals as goal

pub is_shared-requires-send-T : goal.is_shared-requires-send-T
is_shared-requires-send-T c κs = search (param_send, arg_send, shown_send) depth 8

pub is_shared-requires-sync-T : goal.is_shared-requires-sync-T
is_shared-requires-sync-T c κs = search (param_sync, arg_sync, shown_sync) depth 8
