-- Worked examples of changes, by computation.
use Rattle.std.proofs.Common.{◌≡◌, refl, false, List, [], ◌∷◌, ℤ, pos, negsuc, Option, Some, None}
use Rattle.kr_defs.specs.declared.partition.Partition.{Partition}
use Rattle.kr_defs.specs.declared.partition.PartitionChange.{PartitionChange}
use Rattle.kr_defs.specs.declared.changing.Facts.{Facts}
use Rattle.kr_defs.specs.declared.changing.Mode.{Mode}
use Rattle.kr_defs.specs.declared.changing.Mode.TheVariants as modes
use Rattle.kr_defs.specs.declared.changing.Want.{Want}
use Rattle.kr_defs.specs.Build.{built, aimed, completes, ended, settled, standing_by, difference}
use Rattle.kr_defs.specs.Elect.{elected}
use Rattle.kr_defs.specs.Eligible.{eligible_after}
use Rattle.kr_defs.specs.Merge.{merged}

-- what is asked where only the replicas in sync are named
abbrev keeping : Partition → List ℤ → Mode → Option ℤ → Want
keeping p in_sync mode restarted = record {
  replicas = p.replicas;
  adding = p.adding;
  removing = p.removing;
  in_sync = in_sync;
  recovery = p.recovery;
  mode = mode;
  restarted = restarted;
}

-- two replicas are to be in sync, and unclean election is off
abbrev among : List ℤ → Facts
among active = record { active = active; unclean = false; minimum = pos 2 }

abbrev nothing : PartitionChange
nothing = record {
  in_sync = None;
  replicas = None;
  removing = None;
  adding = None;
  eligible = None;
  last_known = None;
  leader = None;
  recovery = None;
}

-- three replicas, all in sync, led by the first
abbrev whole : Partition
whole = record { replicas = pos 1 ∷ pos 2 ∷ pos 3 ∷ []; in_sync = pos 1 ∷ pos 2 ∷ pos 3 ∷ []; eligible = []; last_known = []; adding = []; removing = []; leader = pos 1; recovery = pos 0; leader_epoch = pos 0; partition_epoch = pos 0 }

-- its first two replicas were reported in sync
abbrev reported : Partition
reported = record { replicas = pos 1 ∷ pos 2 ∷ pos 3 ∷ []; in_sync = pos 1 ∷ pos 2 ∷ []; eligible = []; last_known = []; adding = []; removing = []; leader = pos 1; recovery = pos 0; leader_epoch = pos 0; partition_epoch = pos 1 }

-- two in sync meet the minimum, so that nobody is eligible
report : built whole (keeping whole (pos 1 ∷ pos 2 ∷ []) modes.Plain None) (among (pos 1 ∷ pos 2 ∷ pos 3 ∷ pos 4 ∷ pos 5 ∷ [])) ≡ Some (record nothing { in_sync = Some (pos 1 ∷ pos 2 ∷ []) })
unfolding built aimed ended completes settled standing_by elected eligible_after difference
report = refl

report_merged : merged whole (record nothing { in_sync = Some (pos 1 ∷ pos 2 ∷ []) }) ≡ reported
unfolding merged
report_merged = refl

-- its leader was fenced
abbrev led_by_second : Partition
led_by_second = record { replicas = pos 1 ∷ pos 2 ∷ pos 3 ∷ []; in_sync = pos 2 ∷ []; eligible = pos 1 ∷ []; last_known = []; adding = []; removing = []; leader = pos 2; recovery = pos 0; leader_epoch = pos 1; partition_epoch = pos 2 }

-- the second leads, and the first is eligible
leader_fenced : built reported (keeping reported (pos 2 ∷ []) modes.Plain None) (among (pos 2 ∷ pos 3 ∷ pos 4 ∷ pos 5 ∷ [])) ≡ Some (record nothing { in_sync = Some (pos 2 ∷ []); eligible = Some (pos 1 ∷ []); leader = Some (pos 2) })
unfolding built aimed ended completes settled standing_by elected eligible_after difference
leader_fenced = refl

leader_fenced_merged : merged reported (record nothing { in_sync = Some (pos 2 ∷ []); eligible = Some (pos 1 ∷ []); leader = Some (pos 2) }) ≡ led_by_second
unfolding merged
leader_fenced_merged = refl

-- its last replica in sync was fenced as well
abbrev leaderless : Partition
leaderless = record { replicas = pos 1 ∷ pos 2 ∷ pos 3 ∷ []; in_sync = []; eligible = pos 1 ∷ pos 2 ∷ []; last_known = []; adding = []; removing = []; leader = negsuc 0; recovery = pos 0; leader_epoch = pos 2; partition_epoch = pos 3 }

-- nobody leads, though the third is active
last_fenced : built led_by_second (keeping led_by_second ([]) modes.Plain None) (among (pos 3 ∷ pos 4 ∷ pos 5 ∷ [])) ≡ Some (record nothing { in_sync = Some ([]); eligible = Some (pos 1 ∷ pos 2 ∷ []); leader = Some (negsuc 0) })
unfolding built aimed ended completes settled standing_by elected eligible_after difference
last_fenced = refl

last_fenced_merged : merged led_by_second (record nothing { in_sync = Some ([]); eligible = Some (pos 1 ∷ pos 2 ∷ []); leader = Some (negsuc 0) }) ≡ leaderless
unfolding merged
last_fenced_merged = refl

-- its first replica came back
abbrev returned : Partition
returned = record { replicas = pos 1 ∷ pos 2 ∷ pos 3 ∷ []; in_sync = pos 1 ∷ []; eligible = pos 2 ∷ []; last_known = []; adding = []; removing = []; leader = pos 1; recovery = pos 0; leader_epoch = pos 3; partition_epoch = pos 4 }

-- an eligible election: the leader alone is in sync
eligible_returns : built leaderless (keeping leaderless ([]) modes.Plain None) (among (pos 1 ∷ pos 3 ∷ pos 4 ∷ pos 5 ∷ [])) ≡ Some (record nothing { in_sync = Some (pos 1 ∷ []); eligible = Some (pos 2 ∷ []); leader = Some (pos 1) })
unfolding built aimed ended completes settled standing_by elected eligible_after difference
eligible_returns = refl

eligible_returns_merged : merged leaderless (record nothing { in_sync = Some (pos 1 ∷ []); eligible = Some (pos 2 ∷ []); leader = Some (pos 1) }) ≡ returned
unfolding merged
eligible_returns_merged = refl

-- its second replica restarted uncleanly
abbrev restarted : Partition
restarted = record { replicas = pos 1 ∷ pos 2 ∷ pos 3 ∷ []; in_sync = pos 1 ∷ []; eligible = []; last_known = pos 2 ∷ []; adding = []; removing = []; leader = pos 1; recovery = pos 0; leader_epoch = pos 3; partition_epoch = pos 5 }

-- the second replica is no more eligible, but last known
unclean_restart : built returned (keeping returned (pos 1 ∷ []) modes.Plain (Some (pos 2))) (among (pos 1 ∷ pos 3 ∷ pos 4 ∷ pos 5 ∷ [])) ≡ Some (record nothing { eligible = Some ([]); last_known = Some (pos 2 ∷ []) })
unfolding built aimed ended completes settled standing_by elected eligible_after difference
unclean_restart = refl

unclean_restart_merged : merged returned (record nothing { eligible = Some ([]); last_known = Some (pos 2 ∷ []) }) ≡ restarted
unfolding merged
unclean_restart_merged = refl

-- after a clean restart nothing changes
clean_restart : built returned (keeping returned (pos 1 ∷ []) modes.Plain None) (among (pos 1 ∷ pos 3 ∷ pos 4 ∷ pos 5 ∷ [])) ≡ None
unfolding built aimed ended completes settled standing_by elected eligible_after difference
clean_restart = refl

-- with a minimum of one nobody is eligible
minimum_lowered : built returned (keeping returned (pos 1 ∷ []) modes.Plain None) (record { active = pos 1 ∷ pos 3 ∷ pos 4 ∷ pos 5 ∷ []; unclean = false; minimum = pos 1 }) ≡ Some (record nothing { eligible = Some ([]) })
unfolding built aimed ended completes settled standing_by elected eligible_after difference
minimum_lowered = refl

-- it is being reassigned to 3, 4 and 5
abbrev reassigning : Partition
reassigning = record { replicas = pos 3 ∷ pos 4 ∷ pos 5 ∷ pos 1 ∷ pos 2 ∷ []; in_sync = pos 1 ∷ pos 2 ∷ pos 3 ∷ []; eligible = []; last_known = []; adding = pos 4 ∷ pos 5 ∷ []; removing = pos 1 ∷ pos 2 ∷ []; leader = pos 1; recovery = pos 0; leader_epoch = pos 0; partition_epoch = pos 1 }

-- its leader and replicas in sync stay
reassignment_begins : built whole (record (keeping whole (pos 1 ∷ pos 2 ∷ pos 3 ∷ []) modes.Plain None) { replicas = pos 3 ∷ pos 4 ∷ pos 5 ∷ pos 1 ∷ pos 2 ∷ []; adding = pos 4 ∷ pos 5 ∷ []; removing = pos 1 ∷ pos 2 ∷ [] }) (among (pos 1 ∷ pos 2 ∷ pos 3 ∷ pos 4 ∷ pos 5 ∷ [])) ≡ Some (record nothing { replicas = Some (pos 3 ∷ pos 4 ∷ pos 5 ∷ pos 1 ∷ pos 2 ∷ []); removing = Some (pos 1 ∷ pos 2 ∷ []); adding = Some (pos 4 ∷ pos 5 ∷ []) })
unfolding built aimed ended completes settled standing_by elected eligible_after difference
reassignment_begins = refl

reassignment_begins_merged : merged whole (record nothing { replicas = Some (pos 3 ∷ pos 4 ∷ pos 5 ∷ pos 1 ∷ pos 2 ∷ []); removing = Some (pos 1 ∷ pos 2 ∷ []); adding = Some (pos 4 ∷ pos 5 ∷ []) }) ≡ reassigning
unfolding merged
reassignment_begins_merged = refl

-- its reassignment has ended
abbrev reassigned : Partition
reassigned = record { replicas = pos 3 ∷ pos 4 ∷ pos 5 ∷ []; in_sync = pos 3 ∷ pos 4 ∷ pos 5 ∷ []; eligible = []; last_known = []; adding = []; removing = []; leader = pos 3; recovery = pos 0; leader_epoch = pos 1; partition_epoch = pos 2 }

-- the whole target is in sync
reassignment_ends : built reassigning (keeping reassigning (pos 1 ∷ pos 3 ∷ pos 4 ∷ pos 5 ∷ []) modes.Plain None) (among (pos 1 ∷ pos 2 ∷ pos 3 ∷ pos 4 ∷ pos 5 ∷ [])) ≡ Some (record nothing { in_sync = Some (pos 3 ∷ pos 4 ∷ pos 5 ∷ []); replicas = Some (pos 3 ∷ pos 4 ∷ pos 5 ∷ []); removing = Some ([]); adding = Some ([]); leader = Some (pos 3) })
unfolding built aimed ended completes settled standing_by elected eligible_after difference
reassignment_ends = refl

reassignment_ends_merged : merged reassigning (record nothing { in_sync = Some (pos 3 ∷ pos 4 ∷ pos 5 ∷ []); replicas = Some (pos 3 ∷ pos 4 ∷ pos 5 ∷ []); removing = Some ([]); adding = Some ([]); leader = Some (pos 3) }) ≡ reassigned
unfolding merged
reassignment_ends_merged = refl

-- the added replicas alone don't end it
reassignment_goes_on : built reassigning (keeping reassigning (pos 1 ∷ pos 4 ∷ pos 5 ∷ []) modes.Plain None) (among (pos 1 ∷ pos 2 ∷ pos 3 ∷ pos 4 ∷ pos 5 ∷ [])) ≡ Some (record nothing { in_sync = Some (pos 4 ∷ pos 5 ∷ pos 1 ∷ []) })
unfolding built aimed ended completes settled standing_by elected eligible_after difference
reassignment_goes_on = refl

-- the preferred replica leads already
preferred_leads : built whole (keeping whole (pos 1 ∷ pos 2 ∷ pos 3 ∷ []) modes.Preferred None) (among (pos 1 ∷ pos 2 ∷ pos 3 ∷ pos 4 ∷ pos 5 ∷ [])) ≡ None
unfolding built aimed ended completes settled standing_by elected eligible_after difference
preferred_leads = refl

-- also after the reassignment
preferred_leads_on : built reassigned (keeping reassigned (pos 3 ∷ pos 4 ∷ pos 5 ∷ []) modes.Preferred None) (among (pos 1 ∷ pos 2 ∷ pos 3 ∷ pos 4 ∷ pos 5 ∷ [])) ≡ None
unfolding built aimed ended completes settled standing_by elected eligible_after difference
preferred_leads_on = refl

-- any active replica, where that is asked for
unclean_election : built leaderless (keeping leaderless ([]) modes.Unclean None) (among (pos 3 ∷ pos 4 ∷ pos 5 ∷ [])) ≡ Some (record nothing { in_sync = Some (pos 3 ∷ []); eligible = Some ([]); leader = Some (pos 3); recovery = Some (pos 1) })
unfolding built aimed ended completes settled standing_by elected eligible_after difference
unclean_election = refl

-- it is being moved to 4, which isn't in sync yet
abbrev moving : Partition
moving = record { replicas = pos 4 ∷ pos 1 ∷ pos 2 ∷ []; in_sync = pos 1 ∷ []; eligible = []; last_known = []; adding = pos 4 ∷ []; removing = pos 1 ∷ pos 2 ∷ []; leader = pos 1; recovery = pos 0; leader_epoch = pos 0; partition_epoch = pos 0 }

-- the new leader is the whole target
unclean_election_ends_reassignment : built moving (keeping moving [] modes.Unclean None) (among (pos 4 ∷ [])) ≡ Some (record nothing { in_sync = Some (pos 4 ∷ []); replicas = Some (pos 4 ∷ []); removing = Some ([]); adding = Some ([]); leader = Some (pos 4); recovery = Some (pos 1) })
unfolding built aimed ended completes settled standing_by elected eligible_after difference
unclean_election_ends_reassignment = refl

-- its first replica stays, eligible, and its second goes
abbrev shrinking : Partition
shrinking = record { replicas = pos 3 ∷ pos 1 ∷ []; in_sync = pos 1 ∷ []; eligible = pos 3 ∷ []; last_known = []; adding = []; removing = pos 1 ∷ []; leader = pos 1; recovery = pos 0; leader_epoch = pos 0; partition_epoch = pos 0 }

-- the eligible leader is the whole target
eligible_election_ends_reassignment : built shrinking (keeping shrinking [] modes.Plain None) (among (pos 3 ∷ [])) ≡ Some (record nothing { in_sync = Some (pos 3 ∷ []); replicas = Some (pos 3 ∷ []); removing = Some ([]); eligible = Some ([]); leader = Some (pos 3) })
unfolding built aimed ended completes settled standing_by elected eligible_after difference
eligible_election_ends_reassignment = refl

-- it has had as many changes as are counted
abbrev long_lived : Partition
long_lived = record { replicas = pos 1 ∷ pos 2 ∷ pos 3 ∷ []; in_sync = pos 1 ∷ pos 2 ∷ pos 3 ∷ []; eligible = []; last_known = []; adding = []; removing = []; leader = pos 1; recovery = pos 0; leader_epoch = pos 2147483647; partition_epoch = pos 2147483647 }

-- both epochs stay, also where a leader is named
epochs_stay : merged long_lived (record nothing { leader = Some (pos 2) }) ≡ record long_lived { leader = pos 2 }
unfolding merged
epochs_stay = refl
