-- Reads by the rule: what a server has to hear before it answers a read that has no entry in the log (Raft paper, section 8; Ongaro,
-- Consensus: Bridging Theory and Practice, section 6.4: the read index). It asks its node, which leads, up to which log id the read has
-- to wait, and counts replies to requests that it sent later than that by its clock: heartbeats have no numbers.
use Rattle.std.specs.Prelude.{ℕ, ◌<◌, ◌≤◌, ◌≡◌, ◌≢◌, ◌⊎◌, All, true, List, [], ◌∷◌, Some, slice_get}
use Rattle.std.specs.Ordering.{nat_cmp}
use Rattle.proof_deeds.specs.raft_state.declared.ids.LeaderId.{LeaderId}
use Rattle.proof_deeds.specs.raft_progress.Quorum.{is_quorum}
use Rattle.proof_deeds.specs.raft_schedule.declared.event.Start.{Start}
use Rattle.proof_deeds.specs.raft_schedule.declared.event.Start.TheVariants.{Bare}
use Rattle.proof_deeds.specs.raft_calls.declared.lead.Answer.{Answer}
use Rattle.proof_deeds.specs.raft_calls.declared.message.Message.{Message}
use Rattle.proof_deeds.specs.raft_calls.declared.message.Origin.{Origin}
use Rattle.proof_deeds.specs.raft_node.declared.act.Act.TheVariants.{Read, Restart, Take}
use Rattle.proof_deeds.specs.raft_node.declared.given.Given.{Given}
use Rattle.proof_deeds.specs.raft_node.Chosen.{effective_in}
use Rattle.proof_clients.specs.Reads.{IsTaking}
use Rattle.proof_servers.specs.Servers.{Action, Crashes, Step, Takes, node_after, outputs_of}
use Rattle.proof_answers.specs.Answers.{node_then}

-- By an action up to this one the server takes a reply of a node, which tells no higher vote, to a request that it sent under d after
-- this moment.
pub record Hears (actions : List Action) (id upto moment : ℕ) (d : LeaderId ℕ) (node : ℕ) : Type 0 where
  pub number : ℕ
  pub early : number ≤ upto
  pub step : Step
  pub takes : slice_get actions number ≡ Some (Takes id step)
  pub message : Message
  pub is : step.act ≡ Take message
  pub from : message.from ≡ node
  pub origin : Origin
  pub tells : IsTaking message.body origin
  pub session : origin.session_id.vote.leader_id ≡ d
  pub later : moment < origin.sent_at

module _ (given : Given) (actions : List Action) where
  -- The server asks its node by the action `read`, gets this answer, and hears up to the action `upto`: of the membership that is effective
  -- at the node then, a quorum consists of itself, and of nodes that it hears. It hasn't crashed in between, and each start of it
  -- was bare, as after a crash.
  pub record IsRead (id read upto : ℕ) (a : Answer) : Type 0 where
    pub step : Step
    pub takes : slice_get actions read ≡ Some (Takes id step)
    pub is : step.act ≡ Read
    pub answered : (outputs_of given (node_then given actions read id) step).answers ≡ a ∷ []
    pub nodes : List ℕ
    pub quorum : is_quorum nat_cmp (effective_in (node_then given actions read id).store).groups nodes ≡ true
    pub each : All (λ n. (n ≡ id) ⊎ Hears actions id upto (node_after given (node_then given actions read id) step).moment a.leader_id n) nodes
    pub runs : (number k at : ℕ) → read < number → number < upto → slice_get actions number ≢ Some (Crashes id k at)
    pub bare : (number at : ℕ) (start : Start) → number < upto → slice_get actions number ≡ Some (Takes id (record { act = Restart start; at = at })) → start ≡ Bare
