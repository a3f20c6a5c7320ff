-- What a daemon opens; sessions of nine seconds are Kafka's default (broker.session.timeout.ms). This project's own.
use Rattle.std.specs.Prelude.{ℕ, ℤ, pos, ◌+◌, List, Option, Some, None}
use Rattle.kr_defs.specs.declared.options.Options.{Options}
use Rattle.kr_flags.specs.declared.told.Settings.{Settings}
use Rattle.kr_host.specs.declared.startup.Startup.{Startup}

-- one partition of one replica where a request leaves that open, and one replica in sync is enough
abbrev pub options_of : ℤ → List ℕ → ℕ → Options
options_of node cluster salt = record {
  node = node;
  salt = salt;
  session_ms = 9000;
  partitions = pos 1;
  factor = pos 1;
  minimum = pos 1;
  cluster = cluster;
}

-- one seat for each client that is served at once, and with a link one for the images that it asks for
abbrev pub seats_of : ℕ → Option (List ℕ) → ℕ
seats_of clients None = clients
seats_of clients (Some address) = clients + 1

abbrev pub startup_of : Settings → Startup
startup_of settings = record {
  listen = settings.listen;
  link = settings.link;
  options = options_of settings.node settings.cluster settings.salt;
  seats = seats_of settings.clients settings.link;
}
