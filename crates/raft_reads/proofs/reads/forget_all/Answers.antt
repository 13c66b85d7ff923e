use Rattle.std.proofs.Common.{rules, sym, ap, ◌∙◌, ◌≡◌}
use Rattle.std.proofs.lemmas.List.Edits.{map_over_more}
use Rattle.raft_reads.specs.Reads.{answered_in}
use Rattle.raft_reads.proofs.reads.forget_all.Goals as goal

pub loop-round-preserved : goal.loop-round-preserved
loop-round-preserved c =
    let place = answered_in c.args.count in
    let set : c.forget.new.self ≡ place c.round-item.result = c.forget.ensures ∙ ap place (sym c.round-item.is) in
    rw set (map_over_more place c.args.rounds.now c.loop-round.rounds c.loop-round.round-index c.round-item.result
    (search rules) c.loop-round.invariant c.round-item.is)
