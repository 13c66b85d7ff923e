-- A rejected vote changes nothing but for the reply.
use Rattle.std.proofs.Common.{◌≡◌, ◌∙◌, refl, ap, subst, ℕ, Bool, true, false, None}
use Rattle.std.specs.Prelude.{Result, Ok, Err, if◌then◌else◌}
use Rattle.std.specs.declared.cmp.Ordering.{Ordering}
use Rattle.raft_state.specs.declared.config.RaftEntry
use Rattle.raft_state.specs.declared.ids.Vote.{Vote}
use Rattle.raft_state.specs.declared.policy.RejectVoteRequest.{RejectVoteRequest}
use Rattle.raft_state.specs.declared.policy.RejectVoteRequest.TheVariants as reject
use Rattle.raft_state.specs.declared.state.RaftState.{RaftState}
use Rattle.raft_command.specs.declared.command.Command.TheVariants as command
use Rattle.raft_command.specs.declared.config.EngineConfig.{EngineConfig}
use Rattle.raft_command.specs.declared.message.Token.{Token}
use Rattle.raft_command.specs.declared.respond.Respond.{Respond}
use Rattle.raft_steps.specs.Accepts.{Accepts}
use Rattle.raft_steps.specs.Parts.{Machine, then_command, on_core}
use Rattle.raft_steps.specs.VoteHandler.{rejects_vote, update_vote, vote_answer}

module _ {NID : Type 0} where
  -- an answer that rejects comes of a vote below the node's own, and names that
  abbrev answer_of : Bool → Vote NID → Result (Unit {0}) (RejectVoteRequest NID)
  answer_of b w = if b then Err (reject.ByVote w) else Ok tt

  rejection : (b : Bool) (w : Vote NID) (x : RejectVoteRequest NID) → answer_of b w ≡ Err x → (b ≡ true) × (x ≡ reject.ByVote w)
  rejection true w x e = (refl, cc)
  rejection false w x e = cc

module _ {NID N : Type 0} (cmp : NID → NID → Ordering) where
  pub rejected_by : (v : Vote NID) (s : RaftState NID N) (x : RejectVoteRequest NID) → vote_answer cmp s v ≡ Err x → (rejects_vote cmp s v ≡ true) × (x ≡ reject.ByVote s.vote)
  rejected_by v s x e = rejection (rejects_vote cmp s v) s.vote x e

module _ {C NID N E D R S : Type 0} (cmp : NID → NID → Ordering) (entry : RaftEntry.Ghosts E NID N) (config : EngineConfig NID) where
  -- a vote that is rejected changes nothing
  rejected_same : (v : Vote NID) (now : ℕ) (m : Machine C NID N E D R S) → rejects_vote cmp m.core.state v ≡ true → update_vote cmp entry config v now m ≡ m
  unfolding update_vote
  rejected_same v now m e = rw e refl

  -- and nothing has changed
  unchanged : (v : Vote NID) (now : ℕ) (old mid : Machine C NID N E D R S) (x : RejectVoteRequest NID)
      → vote_answer cmp old.core.state v ≡ Err x → mid ≡ update_vote cmp entry config v now old → mid ≡ old
  unchanged v now old mid x answer e = e ∙ rejected_same v now old (rejection (rejects_vote cmp old.core.state v) old.core.state.vote x answer).0

  pub same_state : (v : Vote NID) (now : ℕ) (old mid : Machine C NID N E D R S) (x : RejectVoteRequest NID)
      → vote_answer cmp old.core.state v ≡ Err x → mid ≡ update_vote cmp entry config v now old → mid.core.state ≡ old.core.state
  same_state v now old mid x answer e = ap (λ (m : Machine C NID N E D R S). m.core.state) (unchanged v now old mid x answer e)

  -- the reply is queued behind what was there
  pub replied : (replies : RaftState NID N → RejectVoteRequest NID → Token → Respond C NID N E D R S → Type 0) (v : Vote NID) (token : Token) (now : ℕ)
      (old mid : Machine C NID N E D R S) (x : RejectVoteRequest NID) (reply : Respond C NID N E D R S)
      → vote_answer cmp old.core.state v ≡ Err x → mid ≡ update_vote cmp entry config v now old → replies mid.core.state x token reply
      → Accepts cmp entry config replies v token now None old (on_core (λ c. then_command c (command.Respond None reply)) mid)
  replied replies v token now old mid x reply answer e given =
      let r = rejection (rejects_vote cmp old.core.state v) old.core.state.vote x answer in
      let same = unchanged v now old mid x answer e in
      let shown : replies old.core.state x token reply = subst (λ (m : Machine C NID N E D R S). replies m.core.state x token reply) same given in
      rw r.0 (
        refl,
        record {
          reply = reply;
          given = subst (λ y. replies old.core.state y token reply) r.1 shown;
          queued = ap (on_core (λ c. then_command c (command.Respond None reply))) same;
        },
      )
