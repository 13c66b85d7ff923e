use Rattle.std.proofs.Common.{rules, ◌∙◌, ◌≤◌, ap, length, None}
use Rattle.std.specs.List.{fold}
use Rattle.std.proofs.lemmas.List.{take_all}
use Rattle.raft_steps.specs.LeaderHandler.{later_membership}
use Rattle.raft_steps.proofs.Memberships.{last_membership}
use Rattle.raft_handler_leader.proofs.leader_handler.last_membership.Goals as goal

pub returns : goal.returns
returns g c =
    let ge : length c.args.entries.now ≤ c.loop-entry.entry-index = search rules in
    c.loop-entry.invariant ∙ ap (fold (later_membership g.C.Entry.RaftEntry) None) (take_all c.loop-entry.entry-index c.args.entries.now ge)
    ∙ last_membership g.C.Entry.RaftEntry c.args.entries.now
