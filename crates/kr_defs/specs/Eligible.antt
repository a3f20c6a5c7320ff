-- KIP-966: which replicas may lead though they aren't in sync. Their order, and the last known ones, are this project's own.
use Rattle.std.specs.Prelude.{Bool, not, ◌&&◌, ◌||◌, List, [], length, filter, ℤ, pos, int_le, Option, if◌then◌else◌}
use Rattle.std.specs.Int.{int_min}
use Rattle.kr_defs.specs.declared.partition.Partition.{Partition}
use Rattle.kr_defs.specs.Ids.{has}
use Rattle.kr_defs.specs.Elect.{is_restarted}

-- at least the minimum is in sync, or all replicas where they are fewer
abbrev pub is_enough : List ℤ → List ℤ → ℤ → Bool
is_enough replicas in_sync minimum = int_le (int_min minimum (pos (length replicas))) (pos (length in_sync))

-- it was in sync or eligible, isn't in sync now, and hasn't restarted uncleanly
abbrev pub stays_eligible : Partition → List ℤ → Option ℤ → ℤ → Bool
stays_eligible p in_sync restarted id =
    (has p.in_sync id || has p.eligible id) && not (has in_sync id) && not (is_restarted restarted id)

-- it was in sync, eligible or last known
abbrev pub was_known : Partition → ℤ → Bool
was_known p id = has p.in_sync id || has p.eligible id || has p.last_known id

-- it was known, and is now neither in sync nor eligible
abbrev pub is_last_known : Partition → List ℤ → List ℤ → ℤ → Bool
is_last_known p in_sync eligible id = was_known p id && not (has in_sync id) && not (has eligible id)

abbrev pub eligible_now : Partition → List ℤ → List ℤ → Option ℤ → List ℤ
eligible_now p replicas in_sync restarted = filter (λ id. stays_eligible p in_sync restarted id) replicas

abbrev pub last_known_now : Partition → List ℤ → List ℤ → List ℤ → List ℤ
last_known_now p replicas in_sync eligible = filter (λ id. is_last_known p in_sync eligible id) replicas

-- the eligible and the last known replicas, in the order of the replicas; none where enough are in sync
unfoldable pub eligible_after : Partition → List ℤ → List ℤ → ℤ → Option ℤ → List ℤ × List ℤ
eligible_after p replicas in_sync minimum restarted =
    let eligible = eligible_now p replicas in_sync restarted in
    if is_enough replicas in_sync minimum then ([], []) else (eligible, last_known_now p replicas in_sync eligible)
