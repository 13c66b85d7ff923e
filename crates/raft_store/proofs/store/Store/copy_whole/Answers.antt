use Rattle.std.proofs.Common.{◌≡◌, ◌++◌, ◌∙◌, ℕ, List, ap, ap₂, arith, drop, length, sym, take}
use Rattle.std.specs.Prelude.{max}
use Rattle.raft_store.specs.declared.entry.Entry.{Entry}
use Rattle.raft_store.specs.Entries.{entry_meaning}
use Rattle.raft_store.specs.Store.{between}
use Rattle.raft_store.specs.Types.{WorldStore}
use Rattle.raft_store.proofs.WholeLogs.{whole_part}
use Rattle.raft_store.proofs.store.Store.copy_whole.Goals as goal

pub returns : goal.returns
returns c =
    let held : c.as_slice-snapshot.result.now ≡ c.args.self.now.snap = c.as_slice-snapshot.ensures ∙ ap (λ (t : WorldStore). t.snap) c.self.view_is in
    let log : c.self.inside.ring ≡ c.args.self.now.log = ap (λ (t : WorldStore). t.log) c.self.view_is in
    let from : c.max.result ≡ max c.args.from (length c.args.self.now.snap) = omega (arith, ap (λ (es : List Entry). length es) held) in
    c.in_ok-append_all.ensures
    ∙ (ap₂ (λ (a b : List Entry). a ++ b) c.in_ok-copied.ensures c.in_ok-stored.ensures
    ∙ (ap (λ (es : List Entry). drop c.args.from (take c.args.end es) ++ between c.max.result c.args.end c.self.inside.ring) held
    ∙ (ap₂ (λ (k : ℕ) (es : List (ℕ × Entry)). drop c.args.from (take c.args.end c.args.self.now.snap) ++ between k c.args.end es) from log
    ∙ sym (whole_part entry_meaning c.args.self.now c.requires c.args.from c.args.end))))
