use Rattle.std.proofs.Common.{◌++◌, arith, ap, refl, append_assoc, ◌∙◌, sym}
use Rattle.raft_codec.specs.Codec.{number}
use Rattle.raft_codec.specs.NumberLaws.{one_byte, more_bytes}
use Rattle.raft_codec.proofs.writing.write_number.Goals as goal

pub loop-rest-init : goal.loop-rest-init
loop-rest-init c = (9, omega arith, refl)

pub loop-rest-preserved : goal.loop-rest-preserved
loop-rest-preserved c =
    let i = c.loop-rest.invariant in
    let m = more_bytes i.0 c.loop-rest.rest c.loop-rest-test.true i.1 in
    (m.0, m.1, rw (c.in_ok-push.ensures.items) (rw append_assoc (ap (λ bs. c.loop-rest.out.items ++ bs) (sym m.2) ∙ i.2)))

pub returns : goal.returns
unfolding number
returns c =
    let i = c.loop-rest.invariant in
    (omega arith, c.in_ok-push-2.ensures.items ∙ ap (λ bs. c.loop-rest.out.items ++ bs) (sym (one_byte i.0 c.loop-rest.rest c.loop-rest-test.false)) ∙ i.2)
