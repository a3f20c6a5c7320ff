use Rattle.std.proofs.Common.{drop}
use Rattle.kr_stream.proofs.BodyAnswers.{options_found, options_unread, options_misfit}
use Rattle.kr_stream.proofs.opening.options.Goals as goal

pub returns-in-Err-clause-misfit : goal.returns-in-Err-clause-misfit
returns-in-Err-clause-misfit c = λ is. options_unread c.args.body.now _ c.in-Err.ensures.read

pub returns-in-Ok-clause-found : goal.returns-in-Ok-clause-found
returns-in-Ok-clause-found c =
    let o = c.in-Ok.opening in
    options_found (record { node = o.node; salt = o.salt; session_ms = o.session_ms; partitions = o.partitions; factor = o.factor; minimum = o.minimum; cluster = drop o.cluster c.args.body.now }) c.args.body.now _ c.options_with.result c.type_inv.body c.in-Ok.ensures.read c.split_at.ensures.back c.options_with.ensures.found

pub returns-in-Ok-clause-misfit : goal.returns-in-Ok-clause-misfit
returns-in-Ok-clause-misfit c =
    let o = c.in-Ok.opening in
    λ is. options_misfit c.args.body.now _ (record { node = o.node; salt = o.salt; session_ms = o.session_ms; partitions = o.partitions; factor = o.factor; minimum = o.minimum; cluster = drop o.cluster c.args.body.now }) c.in-Ok.ensures.read c.split_at.ensures.back (c.options_with.ensures.misfit is)
