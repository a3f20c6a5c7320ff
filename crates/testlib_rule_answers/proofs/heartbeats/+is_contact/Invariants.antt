use Rattle.std.proofs.Common.{length}
use Rattle.testlib_rule_answers.proofs.heartbeats.+is_contact.Given as goal

abbrev pub decreases-is_contact : goal.decreases-is_contact
decreases-is_contact l = length l.contacts.now
