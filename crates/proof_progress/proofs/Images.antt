-- What an election makes of the engines that take part in it, each as one record.
use Rattle.std.specs.Prelude.{Bool, ℕ, false, true, List, [], ◌∷◌, None, Some}
use Rattle.std.specs.Ordering.{nat_cmp}
use Rattle.proof_deeds.specs.raft_state.declared.ids.LeaderId.{LeaderId}
use Rattle.proof_deeds.specs.raft_state.declared.ids.Vote.{Vote}
use Rattle.proof_deeds.specs.raft_state.declared.state.RaftState.{RaftState}
use Rattle.proof_deeds.specs.raft_state.State.{server_state}
use Rattle.proof_deeds.specs.raft_command.declared.message.VoteResponse.{VoteResponse}
use Rattle.proof_deeds.specs.raft_state.declared.state.ServerState.TheVariants.{Candidate, Leader}
use Rattle.proof_deeds.specs.raft_state.Log.{last}
use Rattle.proof_deeds.specs.raft_command.declared.command.Command.TheVariants.{QuitLeader, SaveVote, SendVote}
use Rattle.proof_deeds.specs.raft_command.declared.message.VoteRequest.{VoteRequest}
use Rattle.proof_deeds.specs.raft_proposer.Candidate.{candidate_of, grant_by}
use Rattle.proof_deeds.specs.raft_store.Types.{EngineView, WorldCandidate, WorldCommand}
use Rattle.proof_deeds.specs.raft_node.Net.{NodeView, no_streams}
use Rattle.proof_deeds.specs.raft_node.declared.node.Streams.{Streams}
use Rattle.proof_deeds.specs.raft_state.declared.state.ServerState.{ServerState}
use Rattle.proof_deeds.specs.raft_command.declared.config.EngineConfig.{EngineConfig}
use Rattle.proof_deeds.specs.raft_steps.Parts.{idle}
use Rattle.proof_deeds.specs.raft_steps.Starts.{started_role}
use Rattle.proof_deeds.specs.raft_store.Entries.{entry_meaning}
use Rattle.proof_deeds.specs.raft_store.Restart.{started}
use Rattle.proof_progress.specs.Elections.{asked_id, pending}

-- the vote that an engine asks for next
abbrev pub stood_vote : EngineView → Vote ℕ
stood_vote e = pending (asked_id e)

-- what it asks with
abbrev pub stood_request : EngineView → VoteRequest ℕ
stood_request e = record { vote = stood_vote e; last_log_id = last e.machine.core.state.ids }

-- an engine that stands, with nothing queued before
abbrev pub stood : ℕ → EngineView → EngineView
stood now e = record e {
  machine = record {
    core = record {
      state = record e.machine.core.state { vote = stood_vote e; time = Some now; role = Candidate };
      output = record e.machine.core.output { items = SaveVote (stood_vote e) ∷ SendVote (stood_request e) ∷ [] };
    };
    leader = None;
    candidate = Some (candidate_of nat_cmp now (stood_vote e) (last e.machine.core.state.ids) e.machine.core.state.em.membership);
  };
}

-- an engine that grants a request of this leader id, with nothing queued before, and its reply
abbrev pub grant_reply : LeaderId ℕ → EngineView → VoteResponse ℕ
grant_reply d e = record { vote = record { leader_id = d; committed = false }; vote_granted = true; last_log_id = last e.machine.core.state.ids }

abbrev pub granted_with : LeaderId ℕ → ℕ → List WorldCommand → EngineView → EngineView
granted_with d now cs e =
    let s : RaftState ℕ (Unit {0}) = record e.machine.core.state { vote = record { leader_id = d; committed = false }; time = Some now } in
    record e {
      machine = record {
        core = record { state = record s { role = server_state nat_cmp s e.config.id }; output = record e.machine.core.output { items = cs } };
        leader = None;
        candidate = None;
      };
    }

-- what a node of this role queues when it follows, and its streams then
abbrev pub quits : ServerState → List WorldCommand
quits Leader = QuitLeader ∷ []
quits _ = []

abbrev pub streams_after : ServerState → Streams → Streams
streams_after Leader s = no_streams
streams_after _ s = s

-- the candidate of a node that stands, and itself granted by it
abbrev pub standing : ℕ → EngineView → WorldCandidate
standing now e = candidate_of nat_cmp now (stood_vote e) (last e.machine.core.state.ids) e.machine.core.state.em.membership

abbrev pub asking : ℕ → List WorldCommand → EngineView → EngineView
asking now cs e = record e {
  machine = record {
    core = record {
      state = record e.machine.core.state { vote = stood_vote e; time = Some now; role = Candidate };
      output = record e.machine.core.output { items = cs };
    };
    leader = None;
    candidate = Some (grant_by nat_cmp (standing now e) e.config.id);
  };
}

-- the engine of a node that starts and doesn't lead
abbrev pub started_engine : EngineConfig ℕ → Bool → NodeView → EngineView
started_engine settings saved N =
    let s : RaftState ℕ (Unit {0}) = started nat_cmp entry_meaning saved N.store in
    record { config = record settings { id = N.id }; machine = idle (record s { role = started_role nat_cmp (record settings { id = N.id }) s }); seen_greater_log = false }
