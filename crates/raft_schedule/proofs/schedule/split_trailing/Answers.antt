use Rattle.std.proofs.Common.{sym, ◌∙◌}
use Rattle.raft_schedule.proofs.Together.{split_off, three_of}
use Rattle.raft_schedule.proofs.schedule.split_trailing.Goals as goal

pub returns-in_ok-parse_number-in-len2-up : goal.returns-in_ok-parse_number-in-len2-up
returns-in_ok-parse_number-in-len2-up c =
    split_off c.args.name.now c.args.words.now c.in_ok-parse_number-in-len2-up.field-0 _ _ (three_of c.args.words.now c.in-len2-up.len_at_least c.if-not-is_empty.ensures) (sym c.if-eq.true ∙ c.eq.ensures) c.in_ok-parse_number-in-len2-up.ensures
