-- Why nodes don't go on, as text.
use Rattle.std.specs.Prelude.{ℕ, ◌++◌, List, codes}
use Rattle.std.specs.Fmt.{decimal}
use Rattle.raft_recovery.specs.declared.error.Failure.{Failure}
use Rattle.raft_recovery.specs.declared.error.Failure.TheVariants.{Full, OutOfMemory}
use Rattle.raft_recovery.specs.declared.error.RecoveryError.{RecoveryError}
use Rattle.raft_recovery.specs.declared.error.RecoveryError.TheVariants.{Failed, NeedsSnapshot, NoLog, NoMajority, NoNode, NoPayload, Repeated, Stuck}

-- what ran out
abbrev pub failure_text : Failure → List ℕ
failure_text Full = codes "W4"
failure_text OutOfMemory = codes "W5"

-- the reason
abbrev pub error_text : RecoveryError → List ℕ
error_text (Repeated n) = codes "node " ++ decimal n ++ codes " stands twice"
error_text (NoNode n) = codes "there is no node " ++ decimal n
error_text NoPayload = codes "no request may carry an entry"
error_text NoLog = codes "no node has a log"
error_text NoMajority = codes "no voter can be elected by a majority of its groups"
error_text (NeedsSnapshot n t) = codes "node " ++ decimal t ++ codes " needs a snapshot of node " ++ decimal n
error_text Stuck = codes "no way on was found"
error_text (Failed f) = failure_text f
