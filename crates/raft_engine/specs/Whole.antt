-- The parts of an engine as a whole.
use Rattle.raft_engine.specs.declared.engine.Engine.{Engine}
use Rattle.raft_steps.specs.Parts.{Machine, machine_of}

module _ {C NID N E D R S : Type 0} where
  -- the parts of an engine, without its settings and `seen_greater_log`
  abbrev pub parts : Engine C NID N E D R S → Machine C NID N E D R S
  parts e = machine_of e.state e.output e.leader e.candidate
