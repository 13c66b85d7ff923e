use Rattle.std.proofs.Common.{rules, sym, ap, ◌∙◌, ◌≡◌}
use Rattle.std.proofs.lemmas.List.Edits.{map_over_more}
use Rattle.raft_reads.specs.Reads.{answer_left}
use Rattle.raft_reads.proofs.reads.leave_all.Goals as goal

pub loop-round-preserved : goal.loop-round-preserved
loop-round-preserved c =
    let set : c.leave.new.self ≡ answer_left c.round-item.result = c.leave.ensures ∙ ap answer_left (sym c.round-item.is) in
    rw set (map_over_more answer_left c.args.rounds.now c.loop-round.rounds c.loop-round.round-index c.round-item.result
    (search rules) c.loop-round.invariant c.round-item.is)
