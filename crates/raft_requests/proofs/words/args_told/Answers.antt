use Rattle.std.proofs.Common.{sym, ◌∙◌, arith}
use Rattle.raft_requests.proofs.Told.{full, done, arg_behind}
use Rattle.raft_requests.proofs.words.args_told.Goals as goal

pub returns-then-left-eq0 : goal.returns-then-left-eq0
returns-then-left-eq0 c = sym (full c.loop-arg.text.items _ (omega (arith, c.loop-arg.text.ok.0))) ∙ c.loop-arg.invariant

pub returns : goal.returns
returns c = sym (done c.loop-arg.text.items c.args.args.now c.loop-arg.arg-index (omega arith)) ∙ c.loop-arg.invariant

pub loop-arg-preserved : goal.loop-arg-preserved
loop-arg-preserved c =
    arg_behind c.loop-arg.text.items _ c.args.args.now c.loop-arg.arg-index c.arg-item.result (omega arith) c.arg-item.is (omega (arith, c.loop-arg.text.ok.0))
    c.in_ok-push.ensures.items c.in_ok-push_told.ensures c.in_ok-extend_from_slice.ensures.items c.front.ensures c.as_slice.ensures c.saturating_sub-left.ensures
    (c.len.ensures ∙ c.loop-arg.text.ok.0) c.loop-arg.invariant
