use Rattle.kr_session_loop.proofs.sessions.session.Given as goal

abbrev pub ghosts-serve : goal.ghosts-serve
ghosts-serve g a = record { name = a.blank.name; parts = a.blank.parts }
