-- The states of servers.
use Rattle.std.specs.Prelude.{ℕ, ◌+◌, ◌-◌, ◌^◌, Bool, true, false, nat_le, min, if◌then◌else◌}
use Rattle.hostgroups.specs.declared.row.ServerStatus.{ServerStatus}
use Rattle.hostgroups.specs.declared.row.ServerStatus.TheVariants.{Online, Shunned, OfflineSoft, OfflineHard}

abbrev pub is_online : ServerStatus → Bool
is_online Online = true
is_online _ = false

-- a server that is ONLINE is shunned for ten seconds, at most to the last moment
abbrev pub once_failed : (now_ms : ℕ) → ServerStatus → ServerStatus
once_failed now_ms Online = Shunned (min (now_ms + 10000) (2 ^ 64 - 1))
once_failed now_ms (Shunned until_ms) = Shunned until_ms
once_failed now_ms OfflineSoft = OfflineSoft
once_failed now_ms OfflineHard = OfflineHard

-- a server that was shunned until now, or until earlier, is ONLINE
abbrev pub once_ticked : (now_ms : ℕ) → ServerStatus → ServerStatus
once_ticked now_ms Online = Online
once_ticked now_ms (Shunned until_ms) = if nat_le until_ms now_ms then Online else Shunned until_ms
once_ticked now_ms OfflineSoft = OfflineSoft
once_ticked now_ms OfflineHard = OfflineHard
