use Rattle.std.proofs.Common.{◌≡◌, ◌∙◌, ap, map}
use Rattle.std.specs.VecDeque.Iter.{deque_iter_rest}
use Rattle.raft_store.proofs.Shown.{all_seen}
use Rattle.raft_store.proofs.store.copy_between.Goals as goal

pub returns : goal.returns
returns c =
    let all : map (λ e. e.now) c.loop-entry.yielded ≡ deque_iter_rest c.values_between-entry-items.result = all_seen c.into_iter-entry-iterator.result c.loop-entry.entry-iterator c.next.new.self c.loop-entry.yielded c.next.result (deque_iter_rest c.values_between-entry-items.result)
    (ap deque_iter_rest c.into_iter-entry-iterator.ensures.into_iter_gives) c.loop-entry.yielded_by c.in-None.is c.next.ensures.steps in
    c.loop-entry.invariant ∙ (all ∙ c.values_between-entry-items.ensures)
