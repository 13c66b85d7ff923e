use Rattle.std.proofs.Common.{◌≡◌, ◌∙◌, ◌++◌, ap, map, Bor}
use Rattle.std.specs.VecDeque.Iter.{deque_iter_rest}
use Rattle.std.proofs.lemmas.List.{map-append}
use Rattle.raft_store.specs.declared.entry.Entry.{Entry}
use Rattle.raft_store.specs.Starting.{entries_of}
use Rattle.raft_store.proofs.Shown.{all_seen}
use Rattle.raft_store.proofs.restart.push_past.Goals as goal

pub returns : goal.returns
returns c =
    let all : map (λ (e : Bor Entry). e.now) c.loop-entry.yielded ≡ deque_iter_rest c.values_from-entry-items.result = all_seen c.into_iter-entry-iterator.result c.loop-entry.entry-iterator c.next.new.self c.loop-entry.yielded c.next.result (deque_iter_rest c.values_from-entry-items.result)
    (ap deque_iter_rest c.into_iter-entry-iterator.ensures.into_iter_gives) c.loop-entry.yielded_by c.in-None.is c.next.ensures.steps in
    ap entries_of c.loop-entry.invariant
    ∙ (map-append (λ (x : Bor Entry). x.now) c.args.log.now.items c.loop-entry.yielded ∙ ap (λ es. entries_of c.args.log.now.items ++ es) (all ∙ c.values_from-entry-items.ensures))
