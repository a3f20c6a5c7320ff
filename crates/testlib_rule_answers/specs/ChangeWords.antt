-- The words of a partition, of a change of it and of an election (this project's own).
use Rattle.std.specs.Prelude.{ℤ, ℕ, List, ◌++◌, Option, Some, None, codes}
use Rattle.std.specs.Fmt.{signed_decimal}
use Rattle.kr_defs.specs.declared.partition.Partition.{Partition}
use Rattle.kr_defs.specs.declared.partition.PartitionChange.{PartitionChange}
use Rattle.kr_defs.specs.declared.changing.Choice.{Choice}
use Rattle.kr_defs.specs.declared.changing.Choice.TheVariants as choices
use Rattle.testlib_words.specs.PlainWords.{◌␣◌, ids_words, given_words, number_words}

abbrev pub list_words : Partition → List ℕ
list_words p =
    (ids_words p.replicas ␣ ids_words p.in_sync ␣ ids_words p.eligible) ␣ (ids_words p.last_known ␣ ids_words p.adding ␣ ids_words p.removing)

-- leader and recovery, then the epochs of the leader and of the partition
abbrev pub state_words : Partition → List ℕ
state_words p = (signed_decimal p.leader ␣ signed_decimal p.recovery) ␣ (signed_decimal p.leader_epoch ␣ signed_decimal p.partition_epoch)

unfoldable pub partition_words : Partition → List ℕ
partition_words p = list_words p ␣ state_words p

abbrev pub standing_words : PartitionChange → List ℕ
standing_words c = given_words c.in_sync ␣ given_words c.replicas ␣ given_words c.removing

abbrev pub other_words : PartitionChange → List ℕ
other_words c = given_words c.adding ␣ given_words c.eligible ␣ given_words c.last_known

unfoldable pub change_words : PartitionChange → List ℕ
change_words c = standing_words c ␣ other_words c ␣ (number_words c.leader ␣ number_words c.recovery)

-- the change that is built, where one is
abbrev pub built_words : Option PartitionChange → List ℕ
built_words None = codes "none"
built_words (Some change) = change_words change

abbrev pub choice_words : Choice → List ℕ
choice_words choices.InSync = codes "InSync"
choice_words choices.Eligible = codes "Eligible"
choice_words choices.Unclean = codes "Unclean"
choice_words choices.Nobody = codes "Nobody"

abbrev pub election_words : ℤ × Choice → List ℕ
election_words election = signed_decimal election.0 ␣ choice_words election.1

-- the eligible replicas and the last known ones
abbrev pub stand_by_words : List ℤ × List ℤ → List ℕ
stand_by_words lists = ids_words lists.0 ␣ ids_words lists.1
