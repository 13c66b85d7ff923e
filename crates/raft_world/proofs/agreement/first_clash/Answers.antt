use Rattle.std.proofs.Common.{◌≡◌, ◌-◌, arith, sym, ◌∙◌, false}
use Rattle.std.proofs.lemmas.List.{get_or_default}
use Rattle.std.proofs.lemmas.List.Sorted.{all_adjacent_more}
use Rattle.raft_world.specs.Agreed.{clash}
use Rattle.raft_world.specs.Clashes.{Apart}
use Rattle.raft_world.proofs.agreement.first_clash.Goals as goal

pub loop-i-preserved : goal.loop-i-preserved
loop-i-preserved c =
    let no : clash c.index-table-i.result c.index-table-i-in-loop-i.result ≡ false = sym c.is_clash.ensures ∙ c.if-is_clash.false in
    all_adjacent_more c.args.table.now Apart c.loop-i.i (omega arith) c.loop-i.invariant (λ d.
    rw (
      ← get_or_default c.args.table.now (c.loop-i.i - 1) c.index-table-i.result d (omega arith),
      ← get_or_default c.args.table.now c.loop-i.i c.index-table-i-in-loop-i.result d (omega arith),
      ← c.index-table-i.is,
      ← c.index-table-i-in-loop-i.is,
    ) no)
