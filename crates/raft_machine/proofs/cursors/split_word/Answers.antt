use Rattle.std.proofs.Common.{◌≡◌, ℕ, ◌+◌, ◌-◌, ◌*◌, ◌≤◌, length, sym, ◌∙◌, subst, arith}
use Rattle.raft_machine.specs.Cursors.{cursor_of}
use Rattle.raft_machine.proofs.Digits.{Reads, ReadsHeads, reads_start, reads_more, reads_fit, reads_end, heads_start, heads_more, heads_end, bytes_more, left_more, left_after}
use Rattle.raft_machine.proofs.cursors.split_word.Goals as goal

pub loop-init : goal.loop-init
loop-init c = record { word = reads_start c.args.bytes.now; heads = heads_start c.args.bytes.now; bytes = λ h. h; left = omega arith }

pub overflow_mul-word : goal.overflow_mul-word
overflow_mul-word c =
    let byte = c.next-byte in
    omega (arith, reads_fit c.loop.counter c.loop.word c.loop.rest.now (cursor_of c.args.bytes.now) byte.result.0 byte.result.1.now (omega arith) c.loop.invariant.word byte.ensures.next byte.ensures.byte)

pub overflow_add-word : goal.overflow_add-word
overflow_add-word c =
    let byte = c.next-byte in
    let same : c.from.result ≡ byte.result.0 = omega arith in
    omega (arith, same, reads_fit c.loop.counter c.loop.word c.loop.rest.now (cursor_of c.args.bytes.now) byte.result.0 byte.result.1.now (omega arith) c.loop.invariant.word byte.ensures.next byte.ensures.byte)

pub loop-preserved : goal.loop-preserved
loop-preserved c =
    let byte = c.next-byte in
    let same : c.from.result ≡ byte.result.0 = omega arith in
    record {
      word = subst (λ (b : ℕ). Reads (8 - (c.loop.counter + 1)) (c.loop.word * 256 + b) byte.result.1.now (cursor_of c.args.bytes.now)) (sym same)
          (reads_more c.loop.counter c.loop.word c.loop.rest.now (cursor_of c.args.bytes.now) byte.result.0 byte.result.1.now (omega arith) c.loop.invariant.word byte.ensures.next byte.ensures.byte);
      heads = subst (λ (b : ℕ). ReadsHeads (c.loop.counter + 1) (c.loop.word * 256 + b) byte.result.1.now c.args.bytes.now) (sym same)
          (heads_more c.loop.counter c.loop.word c.loop.rest.now c.args.bytes.now byte.result.0 byte.result.1.now (omega arith) c.loop.invariant.heads byte.ensures.next byte.ensures.byte);
      bytes = λ h. c.loop.invariant.bytes (bytes_more c.loop.rest.now byte.result.0 byte.result.1.now byte.ensures.next byte.ensures.byte h);
      left = left_more c.loop.rest.now byte.result.0 byte.result.1.now byte.ensures.next ∙ left_after (length c.loop.rest.now) (length c.args.bytes.now) c.loop.counter c.loop.invariant.left;
    }

pub returns-clause-word : goal.returns-clause-word
returns-clause-word c = let all : 8 ≤ c.loop.counter = omega arith in reads_end c.loop.counter c.loop.word c.loop.rest.now (cursor_of c.args.bytes.now) all c.loop.invariant.word

pub returns-clause-heads : goal.returns-clause-heads
returns-clause-heads c = heads_end c.loop.counter c.loop.word c.loop.rest.now c.args.bytes.now (omega arith) c.loop.invariant.heads

pub returns-clause-bytes : goal.returns-clause-bytes
returns-clause-bytes c = c.loop.invariant.bytes

pub returns-clause-left : goal.returns-clause-left
returns-clause-left c = let n : c.loop.counter ≡ 8 = omega arith in let l = c.loop.invariant.left in omega arith
