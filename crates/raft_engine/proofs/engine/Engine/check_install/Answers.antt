use Rattle.std.proofs.Common.{rules, ◌≡◌, sym, subst, true, false, Some}
use Rattle.std.specs.Prelude.{IfErr}
use Rattle.std.specs.Ordering.{is_eq}
use Rattle.raft_command.specs.Ends.{is_memory}
use Rattle.raft_steps.specs.Refusals.{is_counter_end}
use Rattle.raft_steps.specs.InstallRefusals.{refusals_of_fit}
use Rattle.raft_engine.specs.Whole.{parts}
use Rattle.raft_steps.specs.VoteHandler.{rejects_vote}
use Rattle.raft_steps.proofs.Installed.{request_asked}
use Rattle.raft_engine.proofs.engine.Engine.check_install.Goals as goal

pub returns-clause-refused : goal.returns-clause-refused
returns-clause-refused g c =
    let e = c.args.self.now in
    let v = c.args.vote.now in
    let far : is_counter_end (parts e) ≡ false = search rules in
    let committed : v.committed ≡ true = search rules in
    let other : is_eq (g.C.NodeId.Ord.cmp v.leader_id.node_id e.config.id) ≡ false = search rules in
    let low : rejects_vote g.C.NodeId.Ord.cmp e.state v ≡ false = search rules in
    subst (λ o. IfErr c.check_fit.result (λ x. (is_memory x ≡ false) × (o ≡ Some x)))
    (sym (request_asked g.C.NodeId.Ord.cmp e.config v (refusals_of_fit g.C.NodeId.Ord.cmp e.state v c.args.meta.now) (parts e) c.requires far committed other low))
    c.check_fit.ensures.refused

pub returns-then-is_counter_end-clause-passed : goal.returns-then-is_counter_end-clause-passed
returns-then-is_counter_end-clause-passed g c = search rules
