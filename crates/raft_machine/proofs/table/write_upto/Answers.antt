use Rattle.std.proofs.Common.{rules, ◌≡◌, ◌∷◌, ◌∙◌, ap, arith, length, sym}
use Rattle.std.proofs.lemmas.List.{length-append}
use Rattle.raft_machine.specs.Bytes.{entry}
use Rattle.raft_machine.proofs.Pieces.{one_behind, one_written}
use Rattle.raft_machine.proofs.table.write_upto.Goals as goal

pub loop-key-preserved : goal.loop-key-preserved
loop-key-preserved c =
    let step : c.loop-key.key-iterator ≡ (c.in-Some.key.now, c.in-Some.stored.now) ∷ c.next.new.self = search rules in
    record {
      behind = one_behind _ _ _ _ c.loop-key.invariant.behind step;
      more = omega (arith, c.loop-key.invariant.more, ap length c.in_ok-write_entry.ensures.1, length-append c.loop-key.out.items (entry.bytes (c.as_slice.result.now, c.in-Some.stored.now)));
      written = one_written entry _ _ _ _ _ _ _ c.loop-key.invariant.written
          (step ∙ ap (λ k. (k, c.in-Some.stored.now) ∷ c.next.new.self) (sym c.as_slice.ensures)) c.in_ok-write_entry.ensures;
    }
