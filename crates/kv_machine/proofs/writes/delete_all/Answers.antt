use Rattle.std.proofs.Common.{◌≡◌, ◌∷◌, rules}
use Rattle.kv_machine.proofs.Deleting.{delete-all, delete-rest}
use Rattle.kv_machine.proofs.writes.delete_all.Goals as goal

pub loop-kv-preserved : goal.loop-kv-preserved
loop-kv-preserved c =
    let left : c.loop-kv.left.now ≡ c.in-Some.kv.now ∷ c.in-Some.after.now = search rules in
    record {
      all = delete-all c.loop-kv.keyspace c.delete.new.self c.in_ok-copy.field-0 c.in-Some.kv.now c.in-Some.after.now c.loop-kv.left.now _ c.in_ok-delete.ensures c.in_ok-copy.ensures left
          c.loop-kv.invariant.deletable c.loop-kv.invariant.all;
      deletable = delete-rest c.loop-kv.keyspace c.delete.new.self c.in_ok-copy.field-0 c.in-Some.kv.now c.in-Some.after.now c.loop-kv.left.now c.in_ok-delete.ensures c.in_ok-copy.ensures left
          c.loop-kv.invariant.deletable;
    }
