use Rattle.kr_contact.proofs.list.ContactList.copied.Given as goal

abbrev pub ghosts-wider : goal.ghosts-wider
ghosts-wider a = record { name = a.blank.name; parts = a.blank.parts }
