-- What is true of nodes, and what was expected of them.
use Rattle.std.specs.Prelude.{ℕ, ◌-◌, ◌||◌, ◌++◌, Bool, true, false, List, [], ◌∷◌, codes, length, Option, Some, None, if◌then◌else◌, nat_eq, slice_get}
use Rattle.std.specs.Fmt.{decimal}
use Rattle.std.specs.List.{list_all}
use Rattle.std.specs.Option.{option_map}
use Rattle.std.specs.Ordering.{is_eq, nat_cmp}
use Rattle.raft_state.specs.Log.{last}
use Rattle.raft_state.specs.Order.{last_id_cmp}
use Rattle.raft_store.specs.declared.entry.Entry.{Entry}
use Rattle.raft_store.specs.Types.{EngineView, WorldStore}
use Rattle.raft_schedule.specs.declared.step.Expectation.{Expectation}
use Rattle.raft_schedule.specs.declared.step.Expectation.TheVariants as expected
use Rattle.raft_schedule.specs.declared.step.Fact.{Fact}
use Rattle.raft_schedule.specs.declared.step.Fact.TheVariants as fact
use Rattle.raft_schedule.specs.Steps.{same_fact}
use Rattle.raft_schedule.specs.Written.{expectation_text}
use Rattle.raft_calls.specs.declared.lead.Answer.{Answer}
use Rattle.raft_node.specs.Net.{NodeView, Records, node_at}
use Rattle.raft_node.specs.Runs.{History}

-- the index of the last entry that the state machine has applied: it has applied all from index 0 on
abbrev pub applied_of : WorldStore → Option ℕ
applied_of t = if nat_eq (length t.applied) 0 then None else Some (length t.applied - 1)

-- what is true of a node, in the order in which it is told: of one that runs its role, its vote, its last and its committed
-- id; and of each what it has applied
abbrev pub engine_facts : Option EngineView → List Fact → List Fact
engine_facts None others = fact.Stopped ∷ others
engine_facts (Some e) others =
    (let state = e.machine.core.state in
    fact.Role state.role ∷ fact.Vote state.vote ∷ fact.Last (last state.ids) ∷ fact.Committed state.committed ∷ others)

abbrev pub facts_of : NodeView → List Fact
facts_of n = engine_facts n.engine (fact.Applied (applied_of n.store) ∷ [])

abbrev pub has_fact : List Fact → Fact → Bool
has_fact [] wanted = false
has_fact (f ∷ fs) wanted = same_fact wanted f || has_fact fs wanted

-- the last answer to a read
abbrev pub last_answer : {L : Type 0} → Records L → Option Answer
last_answer r = slice_get r.answers (length r.answers - 1)

-- what is expected is there. No two state machines ever differ
abbrev pub is_met : Expectation → History (List Entry) → Bool
is_met (expected.Node id facts) t = elim (node_at t.net.nodes id) [ None ↦ false | Some n ↦ list_all (has_fact (facts_of n)) facts ]
is_met (expected.Read id) t = elim (last_answer t.net.records) [ None ↦ false | Some a ↦ is_eq (last_id_cmp nat_cmp a.log_id id) ]
is_met expected.Agree t = true

-- what is there in its place: all that is true of the node, if it is one; the last answer, if there is one
abbrev pub found_for : Expectation → History (List Entry) → Option Expectation
found_for (expected.Node id facts) t = option_map (λ n. expected.Node id (facts_of n)) (node_at t.net.nodes id)
found_for (expected.Read id) t = option_map (λ a. expected.Read a.log_id) (last_answer t.net.records)
found_for expected.Agree t = Some expected.Agree

abbrev pub found_text : Option Expectation → List ℕ
found_text None = codes "nothing"
found_text (Some e) = expectation_text e

-- `line N: expected .., found ..`
abbrev pub unmet_text : ℕ → Expectation → Option Expectation → List ℕ
unmet_text line expected found = codes "line " ++ decimal line ++ codes ": expected " ++ expectation_text expected ++ codes ", found " ++ found_text found
