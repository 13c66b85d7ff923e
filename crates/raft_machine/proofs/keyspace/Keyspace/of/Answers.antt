use Rattle.std.proofs.Common.{◌≡◌, ◌-◌, [], ◌++◌, take, sym, ap, ◌∙◌}
use Rattle.raft_machine.specs.Space.{Map}
use Rattle.raft_machine.proofs.Spaces.{timely-empty}
use Rattle.raft_machine.proofs.Loaded.{loaded, loaded-step, loaded-all, made}
use Rattle.raft_machine.proofs.keyspace.Keyspace.of.Goals as goal

pub invariant_of-keyspace : goal.invariant_of-keyspace
invariant_of-keyspace c = rw c.new.ensures (timely-empty c.new-2.result c.args.moment)

pub loop-key-preserved : goal.loop-key-preserved
loop-key-preserved c =
    let popped = rw c.in-Some.is at c.pop.ensures.items in
    loaded-step c.loop-key.keyspace c.put.new.self _ c.loop-key.entries.items c.pop.new.self.items c.from_items.result (c.in-Some.key, c.in-Some.stored) popped c.from_items.ensures c.in_ok-put.ensures.ok
    c.loop-key.invariant

pub returns : goal.returns
returns c =
    let popped : c.pop.new.self.items ≡ [] = c.in_default.ensures.rest ∙ ap (λ n. take (n - 1) c.loop-key.entries.items) c.in_default.ensures.cases.0 in
    let nil : c.loop-key.entries.items ≡ [] = c.in_default.ensures.items ∙ ap (λ es. es ++ []) popped in
    let start = ap (λ (m : Map). made m c.args.moment) c.new.ensures in
    ap (λ es. loaded c.loop-key.keyspace es) (sym nil) ∙ c.loop-key.invariant ∙ loaded-all c.args.moment c.args.entries.items _ c.requires.rising c.requires.live start
