use Rattle.std.proofs.Common.{◌∙◌, sym}
use Rattle.raft_recovery.proofs.Judging.{never, not_there}
use Rattle.raft_recovery.proofs.judge.have_recovered.Goals as goal

pub returns-in-None : goal.returns-in-None
returns-in-None c =
    never
    (not_there c.args.old.now.history.net c.args.new.now.history.net c.args.up.now c.args.log_id.now c.args.value.now c.args.count
    c.args.old.now.given (sym c.in_ok-found_at.ensures ∙ c.in-None.is))

pub have_recovered_by-requires : goal.have_recovered_by-requires
have_recovered_by-requires c = sym c.in_ok-found_at.ensures ∙ c.in-Some.is
