-- The texts of errors, as Redis writes them.
use Rattle.std.specs.Prelude.{ℕ, List, codes}
use Rattle.raft_machine.specs.declared.command.Failure.{Failure}
use Rattle.raft_machine.specs.declared.command.Failure.TheVariants.{NotAnInteger, Overflow, TooLong}

abbrev pub text_of : Failure → List ℕ
text_of NotAnInteger = codes "ERR value is not an integer or out of range"
text_of Overflow = codes "ERR increment or decrement would overflow"
text_of TooLong = codes "ERR string exceeds maximum allowed size (proto-max-bulk-len)"
