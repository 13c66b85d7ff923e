use Rattle.std.proofs.Common.{Option, subst, sym}
use Rattle.raft_packed.specs.declared.encoding.Encoding.{Encoding}
use Rattle.raft_packed.specs.Encodings.{IsOf, IsOfSome}
use Rattle.raft_packed.proofs.Encodings.{finished_is}
use Rattle.raft_packed.proofs.encoding.Encodable.take_encoded.Goals as goal

pub returns-in-Ok-clause-sum : goal.returns-in-Ok-clause-sum
returns-in-Ok-clause-sum g c =
    let m = g.M.Machine in
    let state = c.self.inside.snapshot.state in
    let e = c.in_ok-take.field-0 in
    let is = subst (λ (o : Option Encoding). IsOfSome m.codec m.left m.fits_left state o) (sym c.in_ok-take.ensures.value) c.self.invariant in
    (finished_is m.codec m.left m.fits_left state c.args.before c.args.front.now e c.in-Ok.encoded is c.in-Ok.ensures.ok).2
