use Rattle.std.proofs.Common.{◌≡◌, ◌∙◌, ◌++◌, ap, map}
use Rattle.std.specs.Map.{values_of}
use Rattle.std.specs.Map.Iter.{deref}
use Rattle.std.specs.VecDeque.Iter.{deque_iter_rest}
use Rattle.raft_store.specs.Entries.{entry_meaning}
use Rattle.raft_store.proofs.Shown.{all_seen, ids_shown}
use Rattle.raft_store.proofs.restart.push_ids.Goals as goal

pub returns : goal.returns
returns c =
    let all : map deref c.loop-entry.yielded ≡ deque_iter_rest c.values-entry-items.result = all_seen c.into_iter-entry-iterator.result c.loop-entry.entry-iterator c.next.new.self c.loop-entry.yielded c.next.result (deque_iter_rest c.values-entry-items.result)
    (ap deque_iter_rest c.into_iter-entry-iterator.ensures.into_iter_gives) c.loop-entry.yielded_by c.in-None.is c.next.ensures.steps in
    let e : map deref c.loop-entry.yielded ≡ values_of c.args.stored.now = all ∙ c.values-entry-items.ensures in
    c.loop-entry.invariant ∙ ap (λ ids. c.args.ids.now.items ++ ids) (ids_shown c.loop-entry.yielded ∙ ap (map entry_meaning.id_of) e)
