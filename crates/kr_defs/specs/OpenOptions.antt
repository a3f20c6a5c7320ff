-- Which options a controller may be started with (this project's own).
use Rattle.std.specs.Prelude.{pos, Bool, ◌&&◌, length, nat_lt, nat_le, int_le}
use Rattle.kr_defs.specs.declared.limits.TheConstants.{MOST_DEFAULT_PARTITIONS, MOST_TARGETS, LONGEST_CLUSTER}
use Rattle.kr_defs.specs.declared.options.Options.{Options}
use Rattle.kr_defs.specs.Partition.{is_natural}

abbrev pub are_options : Options → Bool
are_options o =
    is_natural o.node && nat_lt 0 o.session_ms
    && (int_le (pos 1) o.partitions && int_le o.partitions MOST_DEFAULT_PARTITIONS)
    && (int_le (pos 1) o.factor && int_le o.factor (pos MOST_TARGETS))
    && int_le (pos 1) o.minimum && nat_le (length o.cluster) LONGEST_CLUSTER
