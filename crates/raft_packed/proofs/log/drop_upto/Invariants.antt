use Rattle.std.proofs.Common.{◌≡◌, ◌+◌, filter, length, nat_lt}
use Rattle.raft_packed.proofs.log.drop_upto.Given as goal

abbrev pub invariant-loop : goal.invariant-loop
invariant-loop l = record {
  kept : filter (λ p. nat_lt l.upto p.0) l.log.entries ≡ filter (λ p. nat_lt l.upto p.0) l.initial.log.entries;
  left : length l.log.entries + l.counter ≡ length l.initial.log.entries;
}
