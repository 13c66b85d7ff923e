-- The server behind a service: its snapshots are states of the key-value machine.
use Rattle.raft_core.specs.Views.{CoreView}
use Rattle.raft_core.specs.raft_peers.declared.output.Output as core_output
use Rattle.raft_core.specs.declared.driver.OpenedCore as opened
use Rattle.raft_machine.specs.Machine.{State}

abbrev pub Core : Type 0
Core = CoreView State

abbrev pub CoreOutput : Type 0
CoreOutput = core_output.Output State

abbrev pub OpenedCore : Type 0
OpenedCore = opened.OpenedCore State
