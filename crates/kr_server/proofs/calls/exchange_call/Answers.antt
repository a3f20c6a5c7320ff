use Rattle.std.specs.Int.{w16, w32}
use Rattle.std.proofs.lemmas.Int.{to_z-of_z}
use Rattle.kr_server.proofs.Exchanged.{no_call_asked}
use Rattle.kr_server.proofs.calls.exchange_call.Goals as goal

pub returns-in-Bare-clause-asked : goal.returns-in-Bare-clause-asked
returns-in-Bare-clause-asked g c =
    rw (to_z-of_z w32 c.in-Bare.correlation search, to_z-of_z w16 c.error_of.result search)
    (no_call_asked c.in-Bare.correlation c.error_of.result c.args.message.now c.in-Bare.fault c.requires c.error_of.ensures (rw c.in-Bare.is at c.in-Ok.ensures.found))
