use Rattle.std.proofs.Common.{rules, subst, ◌≡◌, ◌++◌}
use Rattle.raft_frames.specs.Format.{after, frame, header}
use Rattle.raft_frames.specs.Laws.{IsPayload}
use Rattle.raft_packed_server.proofs.Renewed.{first_left}
use Rattle.raft_packed_server.proofs.checkpoint.frame_summed.Goals as goal

pub returns-clause-first : goal.returns-clause-first
returns-clause-first c =
    let payload = c.args.payload.bytes.items in
    let head = c.in_ok-front.front.items in
    let place = c.start-tail.result in
    let front = c.push_head.new.out.items in
    let there : IsPayload payload = subst (λ p. IsPayload p) c.deref.ensures.value c.in_ok-push_head.ensures.payload in
    let is : head ≡ header c.args.id.now = search rules in
    first_left c.args.id.now payload head front place c.push_head.new.tail there is c.start-tail.ensures
    (subst (λ p. front ++ p ≡ head ++ frame place p) c.deref.ensures.value c.in_ok-push_head.ensures.frame)
    (subst (λ p. c.push_head.new.tail ≡ after place p) c.deref.ensures.value c.in_ok-push_head.ensures.tail)
