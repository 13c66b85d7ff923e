use Rattle.std.proofs.Common.{rules, ◌≡◌, false}
use Rattle.raft_engine.specs.Whole.{parts}
use Rattle.raft_steps.proofs.KeptInstall.{handle_install_is_sound}
use Rattle.raft_steps.proofs.Settled.{settled_sound}
use Rattle.raft_steps.specs.Parts.{machine_of}
use Rattle.raft_steps.proofs.Installed.{request_may}
use Rattle.raft_steps.proofs.Room.{log_end}
use Rattle.raft_engine.proofs.Ended.{ended}
use Rattle.raft_engine.proofs.engine.Engine.handle_install_full_snapshot.Goals as goal

pub handle_install_full_snapshot-done-requires-clause-log : goal.handle_install_full_snapshot-done-requires-clause-log
handle_install_full_snapshot-done-requires-clause-log g c =
    let e = c.args.self.now in
    let unspent : e.output.spent ≡ false = search rules in
    log_end g.C.NodeId.Ord.cmp e.state (c.requires unspent).sound

pub handle_install_full_snapshot-done-requires-clause-room : goal.handle_install_full_snapshot-done-requires-clause-room
handle_install_full_snapshot-done-requires-clause-room g c =
    let e = c.args.self.now in
    λ _. request_may g.C.NodeId.Ord.cmp e.config c.args.vote _ (parts e) c.in_ok-check_install.ensures.passed

pub returns-clause-step : goal.returns-clause-step
returns-clause-step g c =
    let new = c.handle_install_full_snapshot-done.new in
    ended (λ q. machine_of new.state q new.leader new.candidate) _ _ _ _ _ _ _ _ c.settle.ensures c.in_ok-check_install.ensures.passed c.handle_install_full_snapshot-done.ensures

pub returns-clause-sound : goal.returns-clause-sound
returns-clause-sound g c =
    let e = c.args.self.now in
    let unspent : e.output.spent ≡ false = search rules in
    settled_sound g.C.NodeId.Ord.cmp e.config _ _ _ _ _ _ _ _ c.settle.ensures c.handle_install_full_snapshot-done.ensures
    (handle_install_is_sound g.C.NodeId.Ord.cmp g.met.C.NodeId.Ord.total g.met.C.NodeId.NodeId.equal_is_same g.C.Entry.RaftEntry e.config c.args.vote c.args.snapshot c.args.token c.args.now (parts e) c.in_ok-check_install.ensures.passed (c.requires unspent))

pub handle_install_full_snapshot-done-requires-clause-number : goal.handle_install_full_snapshot-done-requires-clause-number
handle_install_full_snapshot-done-requires-clause-number g c = search rules
