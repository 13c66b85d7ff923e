-- What leaves.
use Rattle.std.specs.Prelude.{ℕ, Bool, List, [], ◌∷◌, ◌++◌, map, Option, None, Some, if◌then◌else◌}
use Rattle.std.specs.List.{fold}
use Rattle.raft_answers.specs.declared.answer.Reply.{Reply}
use Rattle.raft_answers.specs.declared.request.Proposal.{Proposal}
use Rattle.raft_answers.specs.Answers.{ended, expired, expired_replies, settled, settled_left, settled_replies}
use Rattle.raft_answers.specs.Requests.{Open}
use Rattle.raft_store.specs.declared.entry.Entry.{Entry}
use Rattle.raft_node.specs.declared.record.Executed.{Executed}
use Rattle.raft_peers.specs.proof_packed.Nodes.{PackedInstalled, PackedRecords}
use Rattle.raft_peers.specs.declared.output.Output.{Output}
use Rattle.raft_peers.specs.declared.output.Output.TheVariants as outputs

module _ {S : Type 0} where
  abbrev pub install : PackedInstalled S → Output S
  install x = outputs.Install x.snapshot

  abbrev pub replies_out : List Reply → List (Output S)
  replies_out rs = map outputs.Reply rs

  -- reads are answered
  abbrev pub reads_out : List Reply → List (Output S)
  reads_out rs = map outputs.Read rs

  -- an entry is executed, and those who wait for it are answered
  abbrev pub executed_out : Entry → List Proposal → List (Output S)
  executed_out e ps = outputs.Execute e ∷ replies_out (settled_replies e.log_id ps)

  -- entries, in order
  abbrev pub executed_outputs : List Entry → List Proposal → List (Output S)
  executed_outputs [] ps = []
  executed_outputs (e ∷ es) ps = executed_out e ps ++ executed_outputs es (settled_left e.log_id.index ps)

abbrev pub settled_all : List Entry → Open → Open
settled_all [] o = o
settled_all (e ∷ es) o = settled_all es (settled e.log_id o)

-- what steps say leaves: the frames of its messages, each snapshot to install, each entry to execute with the answers of those who wait for
-- it, and nothing else
abbrev pub said_outputs : {S : Type 0} → List (Output S) → PackedRecords S → List Proposal → List (Output S)
said_outputs frames said ps = frames ++ (map install said.installed ++ executed_outputs (map (λ x. x.entry) said.executed) ps)

-- Answers without an entry

-- requests whose lead is over
abbrev pub lost_left : Bool → Open → Open
lost_left lost o = if lost then record o { proposed = [] } else o

abbrev pub lost_replies : Bool → Open → List Reply
lost_replies lost o = if lost then ended o.proposed else []

-- those whose lead is over, and then those that came so long ago
abbrev pub overdue_left : Bool → ℕ → Open → Open
overdue_left lost upto o = expired upto (lost_left lost o)

abbrev pub overdue_replies : Bool → ℕ → Open → List Reply
overdue_replies lost upto o = lost_replies lost o ++ expired_replies upto (lost_left lost o)

-- What is handed out

-- the index of the last entry that was handed out, after one more, and after these more
abbrev pub executed_one : Option ℕ → Executed → Option ℕ
executed_one before x = Some x.entry.log_id.index

abbrev pub executed_after : List Executed → Option ℕ → Option ℕ
executed_after xs last = fold executed_one last xs

-- the same after what steps say; it isn't known once a snapshot was put in place of what was there
abbrev pub handed_after : {S : Type 0} → PackedRecords S → Option ℕ → Option ℕ
handed_after said last = elim said.installed [ [] ↦ executed_after said.executed last | y ∷ ys ↦ None ]
