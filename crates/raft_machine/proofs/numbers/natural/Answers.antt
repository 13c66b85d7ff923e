use Rattle.std.proofs.Common.{sym, ◌≡◌, true, false, arith}
use Rattle.std.specs.Fmt.{decimal}
use Rattle.std.specs.Str.{bytes_eq}
use Rattle.std.proofs.lemmas.Slice.Eq.{bytes_eq-Decides}
use Rattle.raft_machine.proofs.Numerals.{not_text, not_parsed, natural_is, other_text}
use Rattle.raft_machine.proofs.numbers.natural.Goals as goal

pub returns-in_default : goal.returns-in_default
returns-in_default c = sym (not_text c.args.bytes.now c.in_default.ensures.cases.0)

pub returns-then-eq : goal.returns-then-eq
returns-then-eq c =
    let same : bytes_eq (decimal c.in-Ok-parse.number) c.args.bytes.now ≡ true = rw (← c.format.ensures.text, ← c.as_bytes.ensures.value) (sym c.if-eq.ensures) in
    let parsed = c.in-Ok-parse.ensures.value.0 in
    sym (natural_is c.args.bytes.now c.in-Ok-parse.number (omega (arith, parsed.0.1, parsed.1)) (sym ((bytes_eq-Decides (decimal c.in-Ok-parse.number) c.args.bytes.now).0 same)))

pub returns-else-eq : goal.returns-else-eq
returns-else-eq c =
    let other : bytes_eq (decimal c.in-Ok-parse.number) c.args.bytes.now ≡ false = rw (← c.format.ensures.text, ← c.as_bytes.ensures.value) (sym c.if-eq.ensures) in
    sym (other_text c.args.bytes.now c.in-Ok-parse.number (rw (sym c.in-Ok.ensures.cases.0) c.in-Ok-parse.ensures.value.0) other)

pub returns-in-Err : goal.returns-in-Err
returns-in-Err c = sym (not_parsed {E = Unit {0}} c.args.bytes.now tt (rw (sym c.in-Ok.ensures.cases.0) c.in-Err.ensures.value.0))
