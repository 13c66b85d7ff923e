-- What the handlers borrow, and that they keep their borrows.
use Rattle.std.specs.Prelude.{◌≡◌}
use Rattle.raft_handler_leader.specs.declared.leader_handler.LeaderHandler.{LeaderHandler}
use Rattle.raft_handler_leader.specs.declared.replication_handler.ReplicationHandler.{ReplicationHandler}
use Rattle.raft_steps.specs.Parts.{Led, led_of}

module _ {C NID N E D R S : Type 0} where
  abbrev pub view_of_replication : ReplicationHandler C NID N E D R S → Led C NID N E D R S
  view_of_replication h = led_of h.leader.now h.state.now h.output.now

  pub record SameReplicationBorrows (old new : ReplicationHandler C NID N E D R S) : Type 0 where
    pub config : new.config ≡ old.config
    pub leader : new.leader.ghost_name ≡ old.leader.ghost_name
    pub state : new.state.ghost_name ≡ old.state.ghost_name
    pub output : new.output.ghost_name ≡ old.output.ghost_name

  abbrev pub view_of_leader : LeaderHandler C NID N E D R S → Led C NID N E D R S
  view_of_leader h = led_of h.leader.now h.state.now h.output.now

  pub record SameLeaderBorrows (old new : LeaderHandler C NID N E D R S) : Type 0 where
    pub config : new.config ≡ old.config
    pub leader : new.leader.ghost_name ≡ old.leader.ghost_name
    pub state : new.state.ghost_name ≡ old.state.ghost_name
    pub output : new.output.ghost_name ≡ old.output.ghost_name
