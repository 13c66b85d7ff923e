use Rattle.std.proofs.Common.{◌≡◌, ◌∙◌, sym, true}
use Rattle.std.specs.Ordering.{nat_cmp}
use Rattle.std.specs.Result.{is_ok}
use Rattle.raft_steps.specs.Requests.{append_answer}
use Rattle.raft_store.specs.Entries.{entry_meaning}
use Rattle.raft_store.specs.Types.{EngineView}
use Rattle.raft_calls.specs.Engines.{view_of}
use Rattle.raft_calls.proofs.Along.{append_follows, append_readied}
use Rattle.raft_calls.proofs.deliver.take_append.Goals as goal

pub take_commit-requires-clause-following : goal.take_commit-requires-clause-following
take_commit-requires-clause-following c =
    let e : EngineView = view_of c.args.engine.now in
    let ok : is_ok (append_answer nat_cmp entry_meaning e.config c.args.vote.now c.args.prev c.args.moment e.machine) ≡ true = sym c.in-Ok-true.ensures.step.1.0 ∙ c.in-Ok-true.field-0-test in
    append_follows c.args.vote.now c.args.prev c.args.entries.items c.args.moment e (view_of c.handle_append_entries.new.self) c.in-Ok-true.ensures.step.0 ok
    c.in-Ok-true.ensures.step.1.1

pub take_commit-requires-clause-ready : goal.take_commit-requires-clause-ready
take_commit-requires-clause-ready c =
    append_readied c.args.vote.now c.args.prev c.args.entries.items c.args.moment (view_of c.args.engine.now) (view_of c.handle_append_entries.new.self)
    c.in-Ok-true.ensures.step.0 c.in-Ok-true.ensures.config c.in-Ok-true.ensures.step.1.1 c.requires.resting
