use Rattle.std.proofs.Common.{inr, refl}
use Rattle.kr_process.specs.declared.status.Status.TheVariants as statuses
use Rattle.kr_leaders.proofs.Endings.{no_balance_line}
use Rattle.kr_words.proofs.Statuses.{breaks_told, ends_told, no_balances_whole, no_dump_line, no_dumps_broken, no_dumps_longer, no_dumps_whole, no_fold_line, no_folds_more, no_folds_whole, no_past, of_told, refuses_told, same_but_memory, serves_told}
use Rattle.kr_words.proofs.running.run.Goals as goal

pub returns-clause-session : goal.returns-clause-session
returns-clause-session g c = λ is. ends_told _ _ _ _ c.tell.result c.serve_words-status.result c.tell.ensures.same (c.serve_words-status.ensures.session is)

pub returns-clause-read : goal.returns-clause-read
returns-clause-read g c = λ is. c.serve_words-status.ensures.read (same_but_memory c.tell.result c.serve_words-status.result statuses.ReadFault c.tell.ensures.same is (λ e. cc))

pub returns-clause-write : goal.returns-clause-write
returns-clause-write g c = λ is. c.serve_words-status.ensures.write (same_but_memory c.tell.result c.serve_words-status.result statuses.WriteFault c.tell.ensures.same is (λ e. cc))

pub returns-clause-complete : goal.returns-clause-complete
returns-clause-complete g c = λ served read write.
    serves_told _ c.tell.result c.serve_words-status.result c.tell.ensures.same (c.serve_words-status.ensures.complete served read write)

pub returns-clause-broken : goal.returns-clause-broken
returns-clause-broken g c = λ served read write.
    refuses_told _ c.tell.result c.serve_words-status.result c.tell.ensures.same (c.serve_words-status.ensures.broken served read write)

pub returns-clause-breaks : goal.returns-clause-breaks
returns-clause-breaks g c = λ is. breaks_told _ c.tell.result c.serve_words-status.result c.tell.ensures.same (c.serve_words-status.ensures.breaks is)

pub returns-clause-idle : goal.returns-clause-idle
returns-clause-idle g c = λ is. c.serve_words-status.ensures.idle (same_but_memory c.tell.result c.serve_words-status.result statuses.Usage c.tell.ensures.same is (λ e. cc))

pub returns-clause-fold : goal.returns-clause-fold
returns-clause-fold g c = λ is. of_told _ c.tell.result c.serve_words-status.result c.tell.ensures.same (λ at. no_fold_line at _ _ _ _) (c.serve_words-status.ensures.fold is)

pub returns-clause-dump : goal.returns-clause-dump
returns-clause-dump g c = λ is. of_told _ c.tell.result c.serve_words-status.result c.tell.ensures.same (λ at. no_dump_line at _ _ _ _) (c.serve_words-status.ensures.dump is)

pub returns-clause-fold_complete : goal.returns-clause-fold_complete
returns-clause-fold_complete g c = λ is read write. of_told _ c.tell.result c.serve_words-status.result c.tell.ensures.same (λ at. no_folds_whole at _) (c.serve_words-status.ensures.fold_complete is read write)

pub returns-clause-fold_broken : goal.returns-clause-fold_broken
returns-clause-fold_broken g c = λ is read write. of_told _ c.tell.result c.serve_words-status.result c.tell.ensures.same (λ at. no_folds_more at _) (c.serve_words-status.ensures.fold_broken is read write)

pub returns-clause-dump_complete : goal.returns-clause-dump_complete
returns-clause-dump_complete g c = λ is read write. of_told _ c.tell.result c.serve_words-status.result c.tell.ensures.same (λ at. no_dumps_whole at _) (c.serve_words-status.ensures.dump_complete is read write)

pub returns-clause-dump_broken : goal.returns-clause-dump_broken
returns-clause-dump_broken g c = λ is read write. of_told _ c.tell.result c.serve_words-status.result c.tell.ensures.same (λ at. no_dumps_broken at _) (c.serve_words-status.ensures.dump_broken is read write)

pub returns-clause-dump_longer : goal.returns-clause-dump_longer
returns-clause-dump_longer g c = λ is read write. of_told _ c.tell.result c.serve_words-status.result c.tell.ensures.same (λ at. no_dumps_longer at _) (c.serve_words-status.ensures.dump_longer is read write)

pub returns-clause-make : goal.returns-clause-make
returns-clause-make g c = λ seed is. of_told _ c.tell.result c.serve_words-status.result c.tell.ensures.same (λ at none. absurd none.1) (c.serve_words-status.ensures.make seed is)

pub returns-clause-make_complete : goal.returns-clause-make_complete
returns-clause-make_complete g c = λ seed is write. of_told _ c.tell.result c.serve_words-status.result c.tell.ensures.same (λ at whole. inr refl) (c.serve_words-status.ensures.make_complete seed is write)

pub returns-clause-make_answered : goal.returns-clause-make_answered
returns-clause-make_answered g c = λ seed made is. c.serve_words-status.ensures.make_answered seed made (same_but_memory c.tell.result c.serve_words-status.result statuses.Done c.tell.ensures.same is (λ e. cc))

pub returns-clause-nodes : goal.returns-clause-nodes
returns-clause-nodes g c = λ seed is. of_told _ c.tell.result c.serve_words-status.result c.tell.ensures.same (λ at none. absurd none.1) (c.serve_words-status.ensures.nodes seed is)

pub returns-clause-nodes_complete : goal.returns-clause-nodes_complete
returns-clause-nodes_complete g c = λ seed is write. of_told _ c.tell.result c.serve_words-status.result c.tell.ensures.same (λ at whole. inr refl) (c.serve_words-status.ensures.nodes_complete seed is write)

pub returns-clause-balance : goal.returns-clause-balance
returns-clause-balance g c = λ percent is. of_told _ c.tell.result c.serve_words-status.result c.tell.ensures.same (λ at. no_balance_line at percent _ _ _ _) (c.serve_words-status.ensures.balance percent is)

pub returns-clause-balance_complete : goal.returns-clause-balance_complete
returns-clause-balance_complete g c = λ percent is read write. of_told _ c.tell.result c.serve_words-status.result c.tell.ensures.same (λ at. no_balances_whole at _) (c.serve_words-status.ensures.balance_complete percent is read write)

pub returns-clause-balance_past : goal.returns-clause-balance_past
returns-clause-balance_past g c = λ percent is read write. of_told _ c.tell.result c.serve_words-status.result c.tell.ensures.same (λ at. no_past at _) (c.serve_words-status.ensures.balance_past percent is read write)

pub returns-clause-balance_broken : goal.returns-clause-balance_broken
returns-clause-balance_broken g c = λ percent is read write. of_told _ c.tell.result c.serve_words-status.result c.tell.ensures.same (λ at. no_dumps_broken at _) (c.serve_words-status.ensures.balance_broken percent is read write)

pub returns-clause-balance_longer : goal.returns-clause-balance_longer
returns-clause-balance_longer g c = λ percent is read write. of_told _ c.tell.result c.serve_words-status.result c.tell.ensures.same (λ at. no_dumps_longer at _) (c.serve_words-status.ensures.balance_longer percent is read write)
