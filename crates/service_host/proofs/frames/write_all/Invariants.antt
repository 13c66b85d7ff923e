use Rattle.std.proofs.Common.{◌≡◌, ◌++◌, take}
use Rattle.service_host.specs.Frames.{frames}
use Rattle.service_host.proofs.frames.write_all.Given as goal

abbrev pub invariant-loop-output : goal.invariant-loop-output
invariant-loop-output l = l.out.items ≡ l.fn.out.items ++ frames (take l.output-index l.outputs)
