-- What the handlers borrow, and that they keep their borrows.
use Rattle.std.specs.Prelude.{◌≡◌, None}
use Rattle.raft_handler_common.specs.declared.establish_handler.EstablishHandler.{EstablishHandler}
use Rattle.raft_handler_common.specs.declared.log_handler.LogHandler.{LogHandler}
use Rattle.raft_handler_common.specs.declared.server_state_handler.ServerStateHandler.{ServerStateHandler}
use Rattle.raft_handler_common.specs.declared.snapshot_handler.SnapshotHandler.{SnapshotHandler}
use Rattle.raft_steps.specs.Parts.{Core, Machine, core_of, machine_of}

module _ {C NID N E D R S : Type 0} where
  abbrev pub view_of_server_state : ServerStateHandler C NID N E D R S → Core C NID N E D R S
  view_of_server_state h = core_of h.state.now h.output.now

  pub record SameServerStateBorrows (old new : ServerStateHandler C NID N E D R S) : Type 0 where
    pub config : new.config ≡ old.config
    pub state : new.state.ghost_name ≡ old.state.ghost_name
    pub output : new.output.ghost_name ≡ old.output.ghost_name

  abbrev pub view_of_snapshot : SnapshotHandler C NID N E D R S → Core C NID N E D R S
  view_of_snapshot h = core_of h.state.now h.output.now

  pub record SameSnapshotBorrows (old new : SnapshotHandler C NID N E D R S) : Type 0 where
    pub state : new.state.ghost_name ≡ old.state.ghost_name
    pub output : new.output.ghost_name ≡ old.output.ghost_name

  abbrev pub view_of_establish : EstablishHandler C NID N E D R S → Machine C NID N E D R S
  view_of_establish h = machine_of h.state.now h.output.now h.leader.now None

  abbrev pub view_of_log : LogHandler C NID N E D R S → Core C NID N E D R S
  view_of_log h = core_of h.state.now h.output.now

  pub record SameLogBorrows (old new : LogHandler C NID N E D R S) : Type 0 where
    pub config : new.config ≡ old.config
    pub state : new.state.ghost_name ≡ old.state.ghost_name
    pub output : new.output.ghost_name ≡ old.output.ghost_name
