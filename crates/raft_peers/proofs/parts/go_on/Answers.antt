use Rattle.std.proofs.Common.{[], ◌∷◌, inr, subst, sym}
use Rattle.std.specs.Prelude.{Contains}
use Rattle.raft_peers.proofs.Among.{pushed_back}
use Rattle.raft_peers.proofs.parts.go_on.Goals as goal

pub returns-clause-outgoing : goal.returns-clause-outgoing
returns-clause-outgoing g c =
    let old = c.args.outgoing.now.items in
    let was = subst (Contains old) (sym c.follow.ensures) (c.take_to.ensures.taken c.in-Some.one c.in-Some.is) in
    pushed_back old c.take_to.new.outgoing.items c.push-2.new.self.items c.follow.new.self c.take_to.ensures.left was c.in_ok-push-2.ensures.items

pub returns-clause-outputs : goal.returns-clause-outputs
returns-clause-outputs g c =
    let old = c.args.outgoing.now.items in
    let was = subst (Contains old) (sym c.follow.ensures) (c.take_to.ensures.taken c.in-Some.one c.in-Some.is) in
    let s = c.in_ok-send.ensures in
    inr (c.follow.new.self, s.0 ∷ [], was, (s.1, tt), s.2)
