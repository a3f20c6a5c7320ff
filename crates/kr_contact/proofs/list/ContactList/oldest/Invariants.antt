use Rattle.kr_contact.proofs.list.ContactList.oldest.Given as goal

abbrev pub ghosts-oldest : goal.ghosts-oldest
ghosts-oldest a = record { name = a.blank.name; parts = a.blank.parts }
