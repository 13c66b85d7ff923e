use Rattle.std.proofs.Common.{ℕ, ◌≡◌, ◌+◌, ◌-◌, ◌++◌, take, subst, arith, rules}
use Rattle.service_host.specs.declared.pieces.TheConstants.{MOST}
use Rattle.service_host.specs.Frames.{piece_of}
use Rattle.service_host.specs.Pieces.{Left, behind_piece}
use Rattle.service_host.proofs.Lists.{left_is, put_is}
use Rattle.service_host.proofs.pieces.Pieces.put.Goals as goal

pub returns-clause-out : goal.returns-clause-out
returns-clause-out c =
    let i = c.self.inside in
    subst (λ (v : Left). c.put-3.new.out.items ≡ c.args.out.now.items ++ piece_of v.at (take MOST v.bytes)) c.self.view_is
    (put_is MOST i.front i.snapshot i.rest _ _ _ _ _ _ c.left.ensures c.min-most_of_snapshot.ensures c.left-2.ensures c.min.ensures
    c.left-3.ensures c.min-2.ensures i.at c.args.out.now.items _ _ _ _ (omega (arith, c.if-count-eq0.false)) c.in_ok-write_head.ensures
    c.in_ok-put.ensures.out c.in_ok-put-2.ensures.out c.in_ok-put-3.ensures.out)

pub returns-clause-left : goal.returns-clause-left
returns-clause-left c =
    let i = c.self.inside in
    let new : Left = record { at = c.in_ok-end.end; bytes = c.put.new.self ++ (c.put-2.new.self ++ c.put-3.new.self) } in
    let count : ℕ = MOST - (((MOST - c.min-most_of_snapshot.result) - c.min.result) - c.min-2.result) in
    let end : c.in_ok-end.end ≡ i.at + count = search rules in
    subst (λ (v : Left). new ≡ behind_piece v) c.self.view_is
    (left_is MOST i.front i.snapshot i.rest _ _ _ _ _ _ c.left.ensures c.min-most_of_snapshot.ensures c.left-2.ensures c.min.ensures
    c.left-3.ensures c.min-2.ensures i.at _ _ _ _ end c.in_ok-put.ensures.left c.in_ok-put-2.ensures.left c.in_ok-put-3.ensures.left)
