use Rattle.std.proofs.Common.{rules, subst, sym, ◌≡◌}
use Rattle.raft_frames.specs.Format.{header}
use Rattle.raft_packed_server.specs.Checkpoints.{IsFirstFrame}
use Rattle.raft_packed_server.proofs.Renewed.{first_whole}
use Rattle.raft_packed_server.proofs.checkpoint.frame_at_once.Goals as goal

pub returns-clause-first : goal.returns-clause-first
returns-clause-first c =
    let payload = c.args.payload.now in
    let head = c.in_ok-front.front.items in
    let place = c.start-tail.result in
    let front = c.push_payload.new.out.items in
    let is : head ≡ header c.args.id.now = search rules in
    subst (λ left. IsFirstFrame c.args.id.now payload front left c.push_payload.new.tail) (sym c.new.ensures.items)
    (first_whole c.args.id.now payload head front place c.push_payload.new.tail c.in_ok-push_payload.ensures.payload is c.start-tail.ensures
    c.in_ok-push_payload.ensures.frame c.in_ok-push_payload.ensures.tail)
