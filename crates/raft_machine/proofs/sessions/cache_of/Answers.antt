use Rattle.std.proofs.Common.{sym, ap, ◌∙◌}
use Rattle.std.specs.NonZero.{non_zero_usize_get}
use Rattle.raft_machine.proofs.Recalled.{refused, one_more}
use Rattle.raft_machine.proofs.sessions.cache_of.Goals as goal

pub returns-then-contains : goal.returns-then-contains
returns-then-contains c =
    let popped = rw c.in-Some.is at c.pop.ensures.items in
    refused _ c.pop.new.self.items c.loop-client.cache.entries c.loop-client.entries.items c.args.entries.items (c.in-Some.client, c.in-Some.answered) popped c.loop-client.invariant.all (sym c.if-contains.ensures)

pub loop-client-preserved : goal.loop-client-preserved
loop-client-preserved c =
    let popped = rw c.in-Some.is at c.pop.ensures.items in
    let cap = ap (λ k. k.cap) c.in_ok-cache.ensures in
    let more =
    one_more c.loop-client.cache c.put.new.self c.pop.new.self.items c.loop-client.entries.items c.args.entries.items c.in-Some.client c.in-Some.answered (non_zero_usize_get c.args.cap) popped c.loop-client.invariant.all
    c.requires (c.loop-client.invariant.cap ∙ cap) c.loop-client.invariant.distinct (sym c.if-contains.ensures) (ap (λ k. k.entries) c.in_ok-put.ensures.entries)
    in
    record { all = more.0; cap = ap (λ k. k.cap) c.in_ok-put.ensures.entries ∙ c.loop-client.invariant.cap; distinct = more.1 }
