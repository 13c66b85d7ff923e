use Rattle.std.proofs.Common.{rules, ◌≡◌, ◌+◌, ◌⊎◌, length, map, subst, sym, List, Some}
use Rattle.std.specs.Prelude.{slice_get, ◌↔◌}
use Rattle.raft_state.specs.LogLaws.{IsRun}
use Rattle.raft_store.specs.declared.entry.Entry.{Entry}
use Rattle.raft_store.specs.Entries.{entry_meaning}
use Rattle.raft_store.specs.Ring.{Continues, numbered}
use Rattle.raft_store.proofs.Numbered.{continued}
use Rattle.raft_store.proofs.ring.Ring.is_continued_by.Goals as goal

pub returns-then-is_next : goal.returns-then-is_next
returns-then-is_next c =
    let xs : List Entry = c.self.inside.items.items in
    let es : List Entry = c.args.entries.now in
    let e : Entry = c.in-Some.entry.now in
    let len : c.len.result ≡ length xs = search rules in
    let get : slice_get es 0 ≡ Some e = search rules in
    let goes_on : Continues entry_meaning (numbered c.self.inside.first xs) es ↔ (((c.len.result ≡ 0) ⊎ (c.self.inside.first + c.len.result ≡ e.log_id.index)) × IsRun e.log_id.index (map entry_meaning.id_of es)) =
    continued c.self.inside.first c.len.result xs es e len get in (
      λ t. subst (λ log. Continues entry_meaning log es) c.self.view_is (goes_on.1 (c.is_next.ensures.0 c.if-is_next.true, c.is_run.ensures.0 t)),
      λ r. c.is_run.ensures.1 (goes_on.0 (subst (λ log. Continues entry_meaning log es) (sym c.self.view_is) r)).1,
    )

pub returns-else-is_next : goal.returns-else-is_next
returns-else-is_next c =
    let xs : List Entry = c.self.inside.items.items in
    let es : List Entry = c.args.entries.now in
    let e : Entry = c.in-Some.entry.now in
    let len : c.len.result ≡ length xs = search rules in
    let get : slice_get es 0 ≡ Some e = search rules in
    let goes_on : Continues entry_meaning (numbered c.self.inside.first xs) es ↔ (((c.len.result ≡ 0) ⊎ (c.self.inside.first + c.len.result ≡ e.log_id.index)) × IsRun e.log_id.index (map entry_meaning.id_of es)) =
    continued c.self.inside.first c.len.result xs es e len get in
    (λ t. cc (t, c.if-is_next.false), λ r. c.is_next.ensures.1 (goes_on.0 (subst (λ log. Continues entry_meaning log es) (sym c.self.view_is) r)).0)
