use Rattle.std.proofs.Common.{◌++◌, ◌∙◌, ap, append_assoc}
use Rattle.service_host.specs.declared.frames.OutputKind.TheVariants.{Append}
use Rattle.service_host.specs.Frames.{framed, next_frame}
use Rattle.service_host.proofs.frames.write_append.Goals as goal

pub returns : goal.returns
returns c =
    let old = c.args.out.now.items in
    let next = next_frame c.args.next.now in
    c.in_ok-write_next.ensures
    ∙ (ap (λ x. x ++ next) (c.in_ok-write_output.ensures ∙ ap (λ b. old ++ framed Append c.args.end b) c.as_slice.ensures)
    ∙ append_assoc old (framed Append c.args.end c.args.bytes.now) next)
