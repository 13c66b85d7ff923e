-- The contents of a report.
use Rattle.std.specs.Prelude.{List}
use Rattle.std.specs.List.Sorted.{IsPermutation, IsNonDecreasingBy}
use Rattle.raft_store.specs.declared.entry.Entry.{Entry}
use Rattle.raft_schedule.specs.declared.event.AppliedEvent.{AppliedEvent}
use Rattle.raft_node.specs.declared.record.Executed.{Executed}
use Rattle.raft_node.specs.declared.record.Installed.{Installed}
use Rattle.raft_node.specs.declared.record.Decided.{Decided}
use Rattle.raft_node.specs.declared.record.Established.{Established}
use Rattle.raft_calls.specs.declared.lead.Answer.{Answer}
use Rattle.raft_calls.specs.declared.message.Message.{Message}
use Rattle.raft_node.specs.Safety.{entries_of}

-- the events with their outcomes, and the records: each decided commit with its leader's whole log up to it, and each
-- established leader with its whole log then
pub record Reported : Type 0 where
  pub past : List AppliedEvent
  pub executed : List Executed
  pub installed : List Installed
  pub decided : List (Decided (List Entry))
  pub established : List (Established (List Entry))
  pub answers : List Answer
  pub messages : List Message

-- the entries of both records, by index
pub record Table (executed : List Executed) (installed : List Installed) (table : List Entry) : Type 0 where
  pub same : IsPermutation (entries_of executed installed) table
  pub rising : IsNonDecreasingBy (λ e. e.log_id.index) table
