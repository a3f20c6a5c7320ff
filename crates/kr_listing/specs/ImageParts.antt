-- What a whole image gives, in the order in which one is written. This project's own.
use Rattle.std.specs.Prelude.{ℕ, ℤ, List, ◌++◌}
use Rattle.std.specs.List.{flat_map}
use Rattle.kr_defs.specs.declared.broker.Broker.{Broker}
use Rattle.kr_defs.specs.declared.record.ConfigKey.{ConfigKey}
use Rattle.kr_defs.specs.Image.{Image}

module _ {Y : Type 0} where
  -- some rows, and behind them what each feature, broker, topic and setting gives
  abbrev pub with_parts : List Y → (List ℕ × ℤ → List Y) → (ℤ × Broker → List Y) → (Image → List ℕ × ℕ → List Y) → (ConfigKey × List ℕ → List Y) → Image → List Y
  with_parts rows feature broker topic config image =
      (((rows ++ flat_map feature image.features)
      ++ flat_map broker image.brokers)
      ++ flat_map (topic image) image.topics)
      ++ flat_map config image.configs
