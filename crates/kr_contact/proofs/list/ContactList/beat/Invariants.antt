use Rattle.kr_contact.proofs.list.ContactList.beat.Given as goal

abbrev pub ghosts-beat : goal.ghosts-beat
ghosts-beat a = record { name = a.blank.name; parts = a.blank.parts }
