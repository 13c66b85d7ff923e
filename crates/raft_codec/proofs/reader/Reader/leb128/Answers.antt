use Rattle.std.proofs.Common.{◌<◌, ◌≤◌, ◌+◌, ◌*◌, ◌-◌, arith, sym, ap, ◌∙◌, refl}
use Rattle.std.proofs.lemmas.Result.{err_from_is_err_and}
use Rattle.raft_codec.specs.Codec.{leb128_at}
use Rattle.raft_codec.proofs.Numbers.{no_byte, first_byte, last_byte, goes_on, last_is_zero, last_is, cut_off, tenth_is_zero, tenth_is_one, tenth_is_more, within, next_unit, unit_fits}
use Rattle.raft_codec.proofs.reader.Reader.leb128.Goals as goal

pub returns-in_err-first : goal.returns-in_err-first
returns-in_err-first c =
    let p = err_from_is_err_and c.from_residual.result c.from_residual.ensures.1 in
    rw (p.1, p.2, c.in_err-first.ensures.read.0) (rw c.in_err-first.ensures.read.1 (no_byte 9))

pub returns-then-first-lt128 : goal.returns-then-first-lt128
returns-then-first-lt128 c = ap (leb128_at 9) c.in_ok-first.ensures.read ∙ last_byte 8 c.in_ok-first.first _ c.if-first-lt128.true

pub loop-init : goal.loop-init
loop-init c = record {
  unit = refl;
  low = omega (arith, c.in_ok-first.ensures.fits);
  all = sym (ap (leb128_at 9) c.in_ok-first.ensures.read ∙ first_byte 8 c.in_ok-first.first _ c.if-first-lt128.false c.in_ok-first.ensures.fits);
}

pub returns-in_err-byte : goal.returns-in_err-byte
returns-in_err-byte c =
    let p = err_from_is_err_and c.from_residual-in_err-byte.result c.from_residual-in_err-byte.ensures.1 in
    rw (p.1, p.2, c.in_err-byte.ensures.read.0) (cut_off c.loop.number c.loop.unit (8 - c.loop.counter) _ c.loop.self c.in_err-byte.ensures.read.1 c.loop.invariant.all)

pub returns-then-byte-eq0 : goal.returns-then-byte-eq0
returns-then-byte-eq0 c = last_is_zero c.loop.number c.loop.unit c.loop.counter _ c.loop-test.true c.in_ok-byte.byte c.loop.self _ c.in_ok-byte.ensures.read c.if-byte-eq0.true c.loop.invariant.all

pub returns-then-byte-lt128 : goal.returns-then-byte-lt128
returns-then-byte-lt128 c =
    last_is c.loop.number c.loop.unit c.loop.counter _ c.loop-test.true c.in_ok-byte.byte c.loop.self _ c.in_ok-byte.ensures.read c.if-byte-eq0.false c.if-byte-lt128.true c.loop.invariant.all

pub overflow_mul-result : goal.overflow_mul-result
overflow_mul-result c =
    let b = c.in_ok-byte.byte in
    let l : c.loop.number + b * c.loop.unit < c.loop.unit * 128 = within c.loop.number c.loop.unit b c.loop.invariant.low c.if-byte-lt128.true in
    let u = unit_fits (c.loop.unit * 128) (c.loop.counter + 1) (next_unit c.loop.unit c.loop.counter c.loop.invariant.unit) (omega arith) in
    omega (arith, l, u)

pub overflow_add-result : goal.overflow_add-result
overflow_add-result c =
    let b = c.in_ok-byte.byte in
    let l : c.loop.number + b * c.loop.unit < c.loop.unit * 128 = within c.loop.number c.loop.unit b c.loop.invariant.low c.if-byte-lt128.true in
    let u = unit_fits (c.loop.unit * 128) (c.loop.counter + 1) (next_unit c.loop.unit c.loop.counter c.loop.invariant.unit) (omega arith) in
    omega (arith, l, u)

pub overflow_mul-number : goal.overflow_mul-number
overflow_mul-number c =
    let b = c.in_ok-byte.byte - 128 in
    let l : c.loop.number + b * c.loop.unit < c.loop.unit * 128 = within c.loop.number c.loop.unit b c.loop.invariant.low (omega (arith, c.in_ok-byte.ensures.fits)) in
    let u = unit_fits (c.loop.unit * 128) (c.loop.counter + 1) (next_unit c.loop.unit c.loop.counter c.loop.invariant.unit) (omega arith) in
    omega (arith, l, u)

pub overflow_add-number : goal.overflow_add-number
overflow_add-number c =
    let b = c.in_ok-byte.byte - 128 in
    let l : c.loop.number + b * c.loop.unit < c.loop.unit * 128 = within c.loop.number c.loop.unit b c.loop.invariant.low (omega (arith, c.in_ok-byte.ensures.fits)) in
    let u = unit_fits (c.loop.unit * 128) (c.loop.counter + 1) (next_unit c.loop.unit c.loop.counter c.loop.invariant.unit) (omega arith) in
    omega (arith, l, u)

pub overflow_mul-unit : goal.overflow_mul-unit
overflow_mul-unit c =
    let u = unit_fits (c.loop.unit * 128) (c.loop.counter + 1) (next_unit c.loop.unit c.loop.counter c.loop.invariant.unit) (omega arith) in
    omega (arith, u)

pub loop-preserved : goal.loop-preserved
loop-preserved c = record {
  unit = next_unit c.loop.unit c.loop.counter c.loop.invariant.unit;
  low = within c.loop.number c.loop.unit (c.in_ok-byte.byte - 128) c.loop.invariant.low (omega (arith, c.in_ok-byte.ensures.fits));
  all = goes_on c.loop.number c.loop.unit c.loop.counter _ c.loop-test.true c.in_ok-byte.byte c.loop.self _ c.in_ok-byte.ensures.read c.if-byte-lt128.false c.in_ok-byte.ensures.fits c.loop.invariant.all;
}

pub returns-in_err-byte-2 : goal.returns-in_err-byte-2
returns-in_err-byte-2 c =
    let p = err_from_is_err_and c.from_residual-in_err-byte-2.result c.from_residual-in_err-byte-2.ensures.1 in
    rw (p.1, p.2, c.in_err-byte-2.ensures.read.0) (cut_off c.loop.number c.loop.unit (8 - c.loop.counter) _ c.loop.self c.in_err-byte-2.ensures.read.1 c.loop.invariant.all)

pub returns-in-0 : goal.returns-in-0
returns-in-0 c = tenth_is_zero c.loop.number c.loop.unit c.loop.counter _ c.loop-test.false c.in_ok-byte-2.field-0 c.loop.self _ c.in_ok-byte-2.ensures.read c.in-0.is c.loop.invariant.all

pub returns-in-1 : goal.returns-in-1
returns-in-1 c = tenth_is_one c.loop.number c.loop.unit c.loop.counter _ c.loop-test.false c.in_ok-byte-2.field-0 c.loop.self _ c.in_ok-byte-2.ensures.read c.in-1.is c.loop.invariant.all

pub returns-in_default : goal.returns-in_default
returns-in_default c =
    let d = c.in_default in
    let more : 2 ≤ c.in_ok-byte-2.field-0 = omega (arith, d) in
    tenth_is_more c.loop.number c.loop.unit c.loop.counter _ c.loop-test.false c.in_ok-byte-2.field-0 c.loop.self _ c.in_ok-byte-2.ensures.read more c.loop.invariant.all
