use Rattle.std.proofs.Common.{◌≡◌, ◌-◌}
use Rattle.raft_codec.specs.Codec.{items_at}
use Rattle.raft_codec.proofs.Loop.{with_front}
use Rattle.raft_request_codec.proofs.form.read_items.Given as goal

abbrev pub invariant-loop : goal.invariant-loop
invariant-loop g l = with_front l.items.items (items_at g.T.Form.codec (l.count - l.counter) l.reader) ≡ items_at g.T.Form.codec l.count l.initial.reader
