-- The laws of engines and deeds, on a follower's calls: where a node stands, an append request is delivered, and the
-- call isn't refused, its queue is carried on to what the engine knows after the call.
use Rattle.std.specs.Prelude.{ℕ, ◌≡◌, false, List, Option, None, Some, map}
use Rattle.std.specs.List.{AllByRecursion}
use Rattle.std.specs.Ordering.{nat_cmp}
use Rattle.raft_node.specs.raft_state.declared.ids.LogId.{LogId}
use Rattle.raft_node.specs.raft_state.declared.membership.Members.{Members}
use Rattle.raft_node.specs.raft_command.declared.config.EngineConfig.{EngineConfig}
use Rattle.raft_node.specs.raft_steps.Conditions.{IsFollowing}
use Rattle.raft_node.specs.raft_steps.RequestRefusals.{refusals_of_append, refusals_of_commit}
use Rattle.raft_node.specs.raft_steps.Requests.{handle_append_entries, handle_commit_entries}
use Rattle.raft_node.specs.raft_steps.VoteHandler.{rejects_vote, update_vote}
use Rattle.raft_node.specs.raft_store.declared.entry.Entry.{Entry}
use Rattle.raft_node.specs.raft_store.Entries.{entry_meaning}
use Rattle.raft_node.specs.raft_store.Types.{WorldStore, WorldMachine}
use Rattle.proof_mirror.specs.Ready.{AppendFits}
use Rattle.raft_node.specs.raft_calls.declared.message.Body.TheVariants as body
use Rattle.raft_node.specs.raft_calls.declared.message.Message.{Message}
use Rattle.raft_node.specs.raft_calls.declared.message.Origin.{Origin}
use Rattle.raft_node.specs.declared.node.Turn.{Turn}
use Rattle.raft_node.specs.raft_calls.Deliveries.{reply_token}
use Rattle.proof_deeds.specs.Chains.{Unread}
use Rattle.proof_deeds.specs.Images.{Ideal, setup_of}
use Rattle.proof_deeds.specs.Knows.{CarriedIn, Delivered, Stands}

-- an append request is delivered to a node that stands
pub record StandsTold (first : Members ℕ (Unit {0})) (config : EngineConfig ℕ) (t : Turn) (u : WorldStore) (W : Ideal) (m : WorldMachine) (msg : Message) (o : Origin) (prev : Option (LogId ℕ)) (es : List Entry) (told : Option (LogId ℕ)) : Type 0 where
  pub stands : Stands (setup_of first) t config u W m
  pub delivered : Delivered (setup_of first) t W msg
  pub body : msg.body ≡ body.AppendRequest o prev es told

-- followers, of a first membership
pub record FollowersDone (first : Members ℕ (Unit {0})) : Type 0 where
  -- an append request is taken: what conflicts is cut, what is new is put, and the reply says what is accepted. Where
  -- its vote isn't rejected, no cut reaches the committed membership
  pub by_append : (config : EngineConfig ℕ) (t : Turn) (u : WorldStore) (W : Ideal) (now : ℕ) (m : WorldMachine) (msg : Message) (o : Origin) (prev : Option (LogId ℕ)) (es : List Entry) (told : Option (LogId ℕ)) → StandsTold first config t u W m msg o prev es told
      → AllByRecursion Unread m.core.output.items → refusals_of_append nat_cmp config o.session_id.vote prev (map (λ (e : Entry). e.log_id) es) m ≡ None
      → (rejects_vote nat_cmp m.core.state o.session_id.vote ≡ false → AppendFits nat_cmp entry_meaning (update_vote nat_cmp entry_meaning config o.session_id.vote now m).core.state prev es)
      → CarriedIn (setup_of first) t u W (handle_append_entries nat_cmp entry_meaning config o.session_id.vote prev es (Some reply_token) now m)
  -- what its leader says is committed, a follower of that vote commits as far as it has accepted, and applies
  pub by_commit : (config : EngineConfig ℕ) (t : Turn) (u : WorldStore) (W : Ideal) (m : WorldMachine) (msg : Message) (o : Origin) (prev : Option (LogId ℕ)) (es : List Entry) (told : Option (LogId ℕ)) → StandsTold first config t u W m msg o prev es told
      → IsFollowing nat_cmp m → m.core.state.vote ≡ o.session_id.vote → refusals_of_commit nat_cmp told m ≡ None
      → CarriedIn (setup_of first) t u W (handle_commit_entries nat_cmp entry_meaning config told m)
