-- The laws of engines and deeds, on the step of each call: where a node stands, and the call isn't refused, its queue
-- is carried on to what the engine knows after the call.
use Rattle.std.specs.Prelude.{ℕ, ◌≡◌, ◌≢◌, ◌⊎◌, true, List, None, Some}
use Rattle.std.specs.List.{AllByRecursion}
use Rattle.std.specs.Ordering.{is_eq, nat_cmp}
use Rattle.raft_node.specs.raft_state.declared.ids.Vote.{Vote}
use Rattle.raft_node.specs.raft_state.declared.membership.Members.{Members}
use Rattle.raft_node.specs.raft_state.Order.{vote_cmp}
use Rattle.raft_node.specs.raft_command.declared.config.EngineConfig.{EngineConfig}
use Rattle.raft_node.specs.raft_command.declared.message.VoteRequest.{VoteRequest}
use Rattle.raft_node.specs.raft_command.declared.message.VoteResponse.{VoteResponse}
use Rattle.raft_node.specs.raft_steps.Refusals.{refusals_of_initialize, refusals_of_vote_resp}
use Rattle.raft_node.specs.raft_steps.Engine.{as_uncommitted, elect, handle_vote_resp, initialize}
use Rattle.raft_node.specs.raft_steps.Parts.{on_core, then_command}
use Rattle.raft_node.specs.raft_steps.Requests.{handle_vote_req, vote_req_answer}
use Rattle.raft_node.specs.raft_steps.VoteHandler.{update_vote}
use Rattle.proof_agreement.specs.Machine.{Includes}
use Rattle.proof_agreement.specs.Stores.{Append, Session, AppendRequest, SnapshotRequest, VoteGranted}
use Rattle.raft_node.specs.raft_store.declared.entry.Entry.{Entry}
use Rattle.raft_node.specs.raft_store.Entries.{entry_meaning}
use Rattle.raft_node.specs.raft_store.Types.{WorldCandidate, WorldStore, WorldMachine}
use Rattle.raft_node.specs.raft_calls.declared.message.Body.TheVariants as body
use Rattle.raft_node.specs.raft_calls.declared.message.Message.{Message}
use Rattle.raft_node.specs.declared.node.Turn.{Turn}
use Rattle.raft_node.specs.raft_calls.Deliveries.{vote_reply}
use Rattle.raft_node.specs.raft_calls.Elections.{first_entry}
use Rattle.raft_node.specs.raft_calls.Feeds.{own_grant}
use Rattle.proof_deeds.specs.Chains.{Unread}
use Rattle.proof_deeds.specs.Follows.{MayBeSaved, VoteTold}
use Rattle.proof_deeds.specs.Images.{Ideal, IdealEntry, IsNamed, number, setup_of}
use Rattle.proof_deeds.specs.Knows.{CarriedIn, Delivered, Stands}

-- a committed vote that came with a request of its leader
abbrev pub Heard : Ideal → Vote ℕ → Type 0
Heard W v =
    ((r : Append Entry) × Includes W.messages (AppendRequest r) × (r.session.leader ≡ number v.leader_id))
    ⊎ ((q : Session) × (es : List IdealEntry) × Includes W.messages (SnapshotRequest q es) × (q.leader ≡ number v.leader_id))

-- who is said to grant a vote is the node itself, or has said so
abbrev pub GrantHeard : Ideal → ℕ → ℕ → VoteResponse ℕ → Type 0
GrantHeard W n target resp = resp.vote_granted ≡ true → (target ≡ n) ⊎ Includes W.messages (VoteGranted target (number resp.vote.leader_id))

-- elections, of a first membership
pub record ElectionsDone (first : Members ℕ (Unit {0})) : Type 0 where
  -- a node that doesn't lead asks for votes
  pub by_elect : (config : EngineConfig ℕ) (t : Turn) (u : WorldStore) (W : Ideal) (now : ℕ) (m : WorldMachine) → Stands (setup_of first) t config u W m → AllByRecursion Unread m.core.output.items → m.leader ≡ None
      → CarriedIn (setup_of first) t u W (elect nat_cmp entry_meaning config now m)
  -- the first entry is taken, and the node asks for votes
  pub by_initialize : (config : EngineConfig ℕ) (t : Turn) (u : WorldStore) (W : Ideal) (now : ℕ) (m : WorldMachine) → Stands (setup_of first) t config u W m → AllByRecursion Unread m.core.output.items → m.leader ≡ None
      → refusals_of_initialize nat_cmp entry_meaning config 0 (first_entry first) m ≡ None → CarriedIn (setup_of first) t u W (initialize nat_cmp entry_meaning config 0 (first_entry first) now m)
  -- a vote request is delivered, and answered
  pub by_vote_request : (config : EngineConfig ℕ) (t : Turn) (u : WorldStore) (W : Ideal) (req : VoteRequest ℕ) (now : ℕ) (msg : Message) (m : WorldMachine) → Stands (setup_of first) t config u W m → AllByRecursion Unread m.core.output.items
      → Delivered (setup_of first) t W msg → msg.body ≡ body.VoteRequest req
      → CarriedIn (setup_of first) t u W (on_core (λ c. then_command c (vote_reply (vote_req_answer nat_cmp entry_meaning config req now m))) (handle_vote_req nat_cmp entry_meaning config req now m))
  -- a reply to the candidate's request
  pub by_vote_resp : (config : EngineConfig ℕ) (t : Turn) (u : WorldStore) (W : Ideal) (target : ℕ) (resp : VoteResponse ℕ) (now : ℕ) (m : WorldMachine) → Stands (setup_of first) t config u W m → AllByRecursion Unread m.core.output.items
      → refusals_of_vote_resp nat_cmp config target resp m ≡ None → IsNamed resp.vote.leader_id → MayBeSaved t.id resp.vote W → GrantHeard W t.id target resp → CarriedIn (setup_of first) t u W (handle_vote_resp nat_cmp entry_meaning config target resp now m)
  -- the vote of another leader, which sent a request
  pub by_heard_vote : (config : EngineConfig ℕ) (t : Turn) (u : WorldStore) (W : Ideal) (v : Vote ℕ) (now : ℕ) (m : WorldMachine) → Stands (setup_of first) t config u W m → AllByRecursion Unread m.core.output.items → IsNamed v.leader_id → v.committed ≡ true
      → v.leader_id.node_id ≢ t.id → Heard W v → CarriedIn (setup_of first) t u W (update_vote nat_cmp entry_meaning config v now m)
  -- the node's own grant, once its vote is stored; commands may be queued behind it
  pub by_own_grant : (config : EngineConfig ℕ) (t : Turn) (u : WorldStore) (W : Ideal) (v : Vote ℕ) (c : WorldCandidate) (now : ℕ) (m : WorldMachine) → Stands (setup_of first) t config u W m → m.candidate ≡ Some c → is_eq (vote_cmp nat_cmp c.vote v) ≡ true
      → refusals_of_vote_resp nat_cmp config config.id (own_grant v) m ≡ None → CarriedIn (setup_of first) t u W (handle_vote_resp nat_cmp entry_meaning config config.id (own_grant v) now m)
  -- a higher vote that a reply tells, adopted without its mark
  pub by_higher_vote : (config : EngineConfig ℕ) (t : Turn) (u : WorldStore) (W : Ideal) (v : Vote ℕ) (now : ℕ) (m : WorldMachine) → Stands (setup_of first) t config u W m → AllByRecursion Unread m.core.output.items → VoteTold v W
      → CarriedIn (setup_of first) t u W (update_vote nat_cmp entry_meaning config (as_uncommitted v) now m)
