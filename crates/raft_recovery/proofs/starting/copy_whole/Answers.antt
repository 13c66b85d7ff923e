use Rattle.std.proofs.Common.{ℕ, ◌≡◌, ◌+◌, ◌++◌, ◌^◌, ◌∙◌, List, length, rules, ap}
use Rattle.raft_state.specs.Order.{next}
use Rattle.raft_store.specs.declared.entry.Entry.{Entry}
use Rattle.raft_store.specs.Store.{between, past}
use Rattle.raft_recovery.proofs.Stored.{past_is}
use Rattle.raft_recovery.proofs.starting.copy_whole.Goals as goal

pub returns : goal.returns
returns c =
    let t = c.args.store.now in
    let counted : c.len.result ≡ length c.in_ok-entries.entries.items = search rules in
    let len : next c.id_before.result ≡ length t.snap = c.id_before.ensures ∙ (counted ∙ ap length c.in_ok-entries.ensures) in
    let above : c.in_ok-above.above.items ≡ past (length t.snap) t.log =
    c.in_ok-above.ensures
    ∙ (ap (λ n. between (next c.id_before.result) (n + 1) t.log) c.id_of_index.ensures
    ∙ (ap (λ n. between n (2 ^ 64) t.log) len ∙ past_is (2 ^ 64) (length t.snap) t.log c.requires)) in
    let all : c.push_copies.new.entries.items ≡ c.in_ok-entries.entries.items ++ c.in_ok-above.above.items = search rules in
    all ∙ (ap (λ (es : List Entry). es ++ c.in_ok-above.above.items) c.in_ok-entries.ensures ∙ ap (λ (es : List Entry). t.snap ++ es) above)
