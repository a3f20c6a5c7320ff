use Rattle.kr_contact.proofs.list.ContactList.reserve.Given as goal

abbrev pub ghosts-wider : goal.ghosts-wider
ghosts-wider a = record { name = a.blank.name; parts = a.blank.parts }
