-- A new log's bytes, which are put out in pieces.
use Rattle.std.specs.Prelude.{ℕ, ◌+◌, drop, min, length, List, [], ◌++◌}
use Rattle.raft_service.specs.raft_packed_server.declared.batch.NewLog.{NewLog}
use Rattle.raft_service.specs.raft_packed_server.Checkpoints.{new_log_bytes}
use Rattle.service_host.specs.declared.pieces.TheConstants.{MOST}

-- what is left of them, and where that begins in the log
pub record Left : Type 0 where
  pub at : ℕ
  pub bytes : List ℕ

abbrev pub none_left : Left
none_left = record { at = 0; bytes = [] }

abbrev pub all_of : NewLog → Left
all_of log = record { at = 0; bytes = new_log_bytes log }

-- what a piece leaves: it has as many as it may, or all that are left
abbrev pub behind_piece : Left → Left
behind_piece left = record { at = left.at + min MOST (length left.bytes); bytes = drop MOST left.bytes }
