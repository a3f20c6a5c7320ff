use Rattle.std.proofs.Common.{length}
use Rattle.testlib_rule_answers.proofs.heartbeats.+other_contacts_text.Given as goal

abbrev pub decreases-other_contacts_text : goal.decreases-other_contacts_text
decreases-other_contacts_text l = length l.contacts.now
