use Rattle.std.proofs.Common.{List, None, ap, rules, subst, sym, ℕ, ◌≡◌, ◌<◌, ◌∙◌}
use Rattle.std.specs.Prelude.{All, ◌^◌, map}
use Rattle.raft_cluster.specs.Clusters.{AreNew}
use Rattle.raft_world.specs.Limits.{refusals_of_new}
use Rattle.raft_cluster.proofs.Clusters.{new_follows, new_holds}
use Rattle.raft_cluster.proofs.cluster.Cluster.new.Goals as goal

pub returns-clause-holds : goal.returns-clause-holds
returns-clause-holds g c =
    let none : c.refusals_of_new.result ≡ None = search rules in
    new_holds g.M.Machine.application g.M.Machine.codec _
    (new_follows g.M.Machine.application g.M.Machine.codec g.met.M.Machine.is_codec _
    (ap (λ (ids : List ℕ). refusals_of_new ids c.args.given.membership.groups) (sym c.as_slice.ensures) ∙ (sym c.refusals_of_new.ensures.refused ∙ none))
    (subst (λ (ids : List ℕ). All (λ id. id < 2 ^ 64) ids) c.as_slice-2.ensures c.in_ok-machines.ensures.named)
    (subst (λ (ids : List ℕ). AreNew ids c.in_ok-machines.machines.items) c.as_slice-2.ensures c.in_ok-machines.ensures.fresh)
    (ap (map (λ x. x.bytes)) c.new.ensures)
    (ap (map (λ x. x.entry)) c.new-2.ensures.executed)
    (ap (map (λ x. x.snapshot)) c.new-2.ensures.installed)
    (ap (map (λ x. (x.node, x.reply))) c.new-2.ensures.answered)
    c.new-2.ensures.asked)
    (ap (map (λ x. (x.node, x.reply))) c.new-2.ensures.answered)
    (subst (λ (ids : List ℕ). AreNew ids c.in_ok-machines.machines.items) c.as_slice-2.ensures c.in_ok-machines.ensures.fresh)
