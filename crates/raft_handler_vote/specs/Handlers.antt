-- What the handlers borrow, and that they keep their borrows.
use Rattle.std.specs.Prelude.{◌≡◌}
use Rattle.raft_handler_vote.specs.declared.vote_handler.VoteHandler.{VoteHandler}
use Rattle.raft_steps.specs.Parts.{Machine, machine_of}

module _ {C NID N E D R S : Type 0} where
  abbrev pub view_of_vote : VoteHandler C NID N E D R S → Machine C NID N E D R S
  view_of_vote h = machine_of h.state.now h.output.now h.leader.now h.candidate.now

  pub record SameVoteBorrows (old new : VoteHandler C NID N E D R S) : Type 0 where
    pub config : new.config ≡ old.config
    pub state : new.state.ghost_name ≡ old.state.ghost_name
    pub output : new.output.ghost_name ≡ old.output.ghost_name
    pub leader : new.leader.ghost_name ≡ old.leader.ghost_name
    pub candidate : new.candidate.ghost_name ≡ old.candidate.ghost_name
