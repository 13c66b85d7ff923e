use Rattle.std.proofs.Common.{◌≡◌, ◌-◌}
use Rattle.raft_resp.specs.Reading.{texts}
use Rattle.raft_resp.specs.Requests.{words_at}
use Rattle.raft_resp.proofs.Loops.{with_front}
use Rattle.raft_resp.proofs.requests.words_at.Given as goal

abbrev pub invariant-loop : goal.invariant-loop
invariant-loop l = with_front (texts l.words.items) (words_at l.most (l.count - l.counter) l.rest) ≡ words_at l.most l.count l.bytes
