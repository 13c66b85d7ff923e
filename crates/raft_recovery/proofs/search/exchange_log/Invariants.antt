use Rattle.std.proofs.Common.{◌≡◌, ◌-◌, ◌*◌}
use Rattle.proof_progress.specs.Plans.{exchanges}
use Rattle.raft_recovery.specs.Ways.{played}
use Rattle.raft_recovery.proofs.search.exchange_log.Given as goal

-- what is left of the exchanges
abbrev pub invariant-loop-index : goal.invariant-loop-index
invariant-loop-index l =
    played (exchanges l.world.given l.now (2 * (l._index-end - l._index)) l.id l.other l.world.history.net) l.world
    ≡ played (exchanges l.initial.world.given l.now (2 * l._index-end) l.id l.other l.initial.world.history.net) l.initial.world
