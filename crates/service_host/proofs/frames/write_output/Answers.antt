use Rattle.std.proofs.lemmas.List.{append_assoc}
use Rattle.service_host.proofs.frames.write_output.Goals as goal

pub returns : goal.returns
returns c = rw (c.in_ok-extend_from_slice.ensures.items, c.in_ok-write_head.ensures) (simp append_assoc)
