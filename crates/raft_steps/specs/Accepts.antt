-- What `accept_vote` answers, and the reply that it queues.
use Rattle.std.specs.Prelude.{◌≡◌, ℕ, Option, None, Some, MatchBool}
use Rattle.std.specs.Borrow.{Bor}
use Rattle.std.specs.Fn.{FnOnceReturns, Once}
use Rattle.std.specs.declared.cmp.Ordering.{Ordering}
use Rattle.raft_state.specs.declared.config.RaftEntry
use Rattle.raft_state.specs.declared.ids.Vote.{Vote}
use Rattle.raft_state.specs.declared.policy.RejectVoteRequest.{RejectVoteRequest}
use Rattle.raft_state.specs.declared.policy.RejectVoteRequest.TheVariants as reject
use Rattle.raft_state.specs.declared.state.RaftState.{RaftState}
use Rattle.raft_command.specs.declared.command.Command.TheVariants as command
use Rattle.raft_command.specs.declared.config.EngineConfig.{EngineConfig}
use Rattle.raft_command.specs.declared.message.Token.{Token}
use Rattle.raft_command.specs.declared.respond.Respond.{Respond}
use Rattle.raft_steps.specs.Parts.{Machine, then_command, on_core}
use Rattle.raft_steps.specs.VoteHandler.{rejects_vote, update_vote}

-- a reply that a closure makes of what it is shown
pub record MakesReply {C NID N E D R S F X A : Type 0} (shown_of : RaftState NID N → X) (reply_of : A → Respond C NID N E D R S) (g : Once F (Bor X × (RejectVoteRequest NID × (Token × Unit {0}))) A) (f : F)
    (s : RaftState NID N) (rejected : RejectVoteRequest NID) (token : Token) (reply : Respond C NID N E D R S) : Type 0 where
  pub shown : Bor X
  pub answer : A
  pub is_state : shown.now ≡ shown_of s
  pub given : FnOnceReturns g f (shown, (rejected, (token, tt))) answer
  pub is_reply : reply ≡ reply_of answer

module _ {C NID N E D R S : Type 0} (replies : RaftState NID N → RejectVoteRequest NID → Token → Respond C NID N E D R S → Type 0) where
  -- a reply with the vote that rejects, and the queue that ends with it
  pub record OnlyReplies (token : Token) (old new : Machine C NID N E D R S) : Type 0 where
    pub reply : Respond C NID N E D R S
    pub given : replies old.core.state (reject.ByVote old.core.state.vote) token reply
    pub queued : new ≡ on_core (λ c. then_command c (command.Respond None reply)) old

module _ {C NID N E D R S : Type 0} (cmp : NID → NID → Ordering) (entry : RaftEntry.Ghosts E NID N) (config : EngineConfig NID) (replies : RaftState NID N → RejectVoteRequest NID → Token → Respond C NID N E D R S → Type 0) where
  -- a vote below ours is replied to; any other is adopted, and the token handed back
  abbrev pub Accepts : Vote NID → Token → ℕ → Option Token → Machine C NID N E D R S → Machine C NID N E D R S → Type 0
  Accepts v token now answer old new =
      MatchBool (rejects_vote cmp old.core.state v)
      ((answer ≡ None) × OnlyReplies replies token old new)
      ((answer ≡ Some token) × (new ≡ update_vote cmp entry config v now old))
