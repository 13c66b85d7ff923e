-- What comes of requests that were handed out, as bytes (Redis Cluster's specification, "MOVED Redirection"; Redis, cluster.c).
use Rattle.std.specs.Prelude.{◌≡◌, ℕ, ◌==◌, length, List, [], ◌∷◌, ◌++◌, codes, Result, Ok, Err, if◌then◌else◌}
use Rattle.std.specs.Fmt.{decimal}
use Rattle.std.specs.List.{flat_map}
use Rattle.raft_machine.specs.declared.command.Reply as machine
use Rattle.raft_resp.specs.Replies.{error, array, reply_bytes}
use Rattle.raft_resp.specs.declared.replies.Protocol.{Protocol}
use Rattle.raft_connection.specs.declared.answer.Answer.{Answer}
use Rattle.raft_connection.specs.declared.answer.Answer.TheVariants as answer
use Rattle.raft_connection.specs.declared.answer.AnswerError.{AnswerError}
use Rattle.raft_connection.specs.declared.answer.AnswerError.TheVariants.{OutOfMemory, NotWaiting, WrongNumberOfReplies}
use Rattle.raft_connection.specs.declared.pending.Replies.{Replies}
use Rattle.raft_connection.specs.declared.pending.Replies.TheVariants.{One, Array}
use Rattle.raft_connection.specs.declared.pending.Waiting.{Waiting}

-- what a function answered is the definition, unless memory runs out
abbrev pub UnlessMemory : {X : Type 0} → Result X AnswerError → Result X AnswerError → Type 0
UnlessMemory (Ok x) defined = defined ≡ Ok x
UnlessMemory (Err OutOfMemory) defined = Unit {0}
UnlessMemory (Err NotWaiting) defined = defined ≡ Err NotWaiting
UnlessMemory (Err WrongNumberOfReplies) defined = defined ≡ Err WrongNumberOfReplies

abbrev pub moved_text : ℕ → List ℕ → ℕ → List ℕ
moved_text slot host port = codes "MOVED " ++ decimal slot ++ codes " " ++ host ++ codes ":" ++ decimal port

abbrev pub error_bytes : List ℕ → List ℕ
error_bytes text = error text

abbrev pub array_bytes : Protocol → List machine.Reply → List ℕ
array_bytes p replies = array (length replies) ++ flat_map (reply_bytes p) replies

-- as many replies as were asked for
abbrev pub replies_bytes : Protocol → Replies → List machine.Reply → Result (List ℕ) AnswerError
replies_bytes p One (reply ∷ []) = Ok (reply_bytes p reply)
replies_bytes p One _ = Err WrongNumberOfReplies
replies_bytes p (Array n) replies = if length replies == n then Ok (array_bytes p replies) else Err WrongNumberOfReplies

abbrev pub answer_bytes : Waiting → Answer → Result (List ℕ) AnswerError
answer_bytes w (answer.Replies replies) = replies_bytes w.protocol w.replies replies
answer_bytes w (answer.Moved host port) = Ok (error_bytes (moved_text w.slot host port))
answer_bytes w answer.NoLeader = Ok (error_bytes (codes "CLUSTERDOWN The cluster is down"))
answer_bytes w answer.Busy = Ok (error_bytes (codes "TRYAGAIN Too many requests wait"))
answer_bytes w answer.Outdated = Ok (error_bytes (codes "OUTDATED A later request of this session was run"))
answer_bytes w answer.Reused = Ok (error_bytes (codes "ERR Another request of this session had this number"))
answer_bytes w answer.Interrupted = Ok (error_bytes (codes "UNBLOCKED force unblock from blocking operation, instance state changed (master -> replica?)"))
