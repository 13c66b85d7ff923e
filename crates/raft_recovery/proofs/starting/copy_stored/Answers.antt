use Rattle.std.proofs.Common.{ℕ, ◌≡◌, ◌+◌, ◌^◌, ◌∙◌, length, rules, ap, sym}
use Rattle.std.specs.List.{AllByRecursion}
use Rattle.std.specs.Map.{values_of}
use Rattle.raft_store.specs.Store.{between}
use Rattle.raft_recovery.proofs.Stored.{all_stored}
use Rattle.raft_recovery.proofs.starting.copy_stored.Goals as goal

pub returns-clause-entries : goal.returns-clause-entries
returns-clause-entries c =
    let log = c.args.store.now.log in
    let is : c.in_ok-entries.entries.items ≡ between 0 (2 ^ 64) log =
    c.in_ok-entries.ensures ∙ ap (λ n. between 0 (n + 1) log) c.id_of_index.ensures in
    let len : length c.in_ok-entries.entries.items ≡ length log = search rules in
    is ∙ (all_stored (2 ^ 64) log (ap length (sym is) ∙ len)).1

pub returns-clause-keys : goal.returns-clause-keys
returns-clause-keys c =
    let log = c.args.store.now.log in
    let is : c.in_ok-entries.entries.items ≡ between 0 (2 ^ 64) log =
    c.in_ok-entries.ensures ∙ ap (λ n. between 0 (n + 1) log) c.id_of_index.ensures in
    let len : length c.in_ok-entries.entries.items ≡ length log = search rules in
    (all_stored (2 ^ 64) log (ap length (sym is) ∙ len)).0
