use Rattle.kr_rules.proofs.room.Filling.add.Goals as goal

pub returns-in_ok-key-in-Config : goal.returns-in_ok-key-in-Config
returns-in_ok-key-in-Config g c = rw c.in-Config.is (rw c.in_ok-key-in-Config.ensures at c.add_setting.ensures)
