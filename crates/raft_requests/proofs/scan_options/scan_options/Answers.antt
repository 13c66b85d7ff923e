use Rattle.std.proofs.Common.{◌-◌, length, take, drop, sym, ap, ◌∙◌}
use Rattle.raft_requests.specs.ScanOptions.{with_option}
use Rattle.raft_requests.proofs.Scanned.{option_front, option_more}
use Rattle.raft_requests.proofs.scan_options.scan_options.Goals as goal

pub loop-rest-preserved : goal.loop-rest-preserved
loop-rest-preserved c =
    let rest = c.loop-rest.rest.now in
    let name = c.name-item.result in
    let word = c.word-item.result in
    option_more c.loop-rest.options c.in_ok-options.options rest name word (take (length rest - 2) (drop 2 rest)) _
    (option_front rest name word c.in-len2-up.len_at_least c.name-item.is c.word-item.is)
    (ap (λ w. with_option c.loop-rest.options w word) (sym c.as_slice.ensures) ∙ c.in_ok-options.ensures)
    c.loop-rest.invariant
