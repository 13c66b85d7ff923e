use Rattle.std.proofs.Common.{List, None, Option, Some, ap, subst, sym, ◌≡◌, ◌∙◌}
use Rattle.std.specs.Option.{option_map}
use Rattle.std.specs.Prelude.{unwrap_or}
use Rattle.raft_store.specs.declared.entry.Entry.{Entry}
use Rattle.raft_store.specs.Store.{between}
use Rattle.proof_packed_stores.specs.Stores.{Packed, with_entries}
use Rattle.raft_packed.specs.declared.states.Note.{Note}
use Rattle.raft_packed.specs.Kept.{IsNotedFolded, StatesView, SummaryView, no_state, state_past, summary_of, with_late, with_state}
use Rattle.raft_packed.proofs.Folded.{none_by, noted_is}
use Rattle.raft_packed.proofs.states.States.is_noted_folded.Goals as goal
use Rattle.raft_packed.proofs.states.States.is_noted_folded.Goals.{then-is_none, else-is_none}

pub returns-then-are_between : goal.returns-then-are_between
returns-then-are_between g c = λ t.
    let app = g.M.Machine.application in
    let s = c.self.inside in
    let k = c.in-Some-None.summary in
    let es : List Entry = s.first.items in
    let snap = with_late app s.snapshot s.late.items in
    let log = c.args.log.now.entries in
    let none : c.in-Some-None.field-0.state ≡ None = cc in
    let same : c.in-Some-None.field-0.summary ≡ k = cc in
    let noted : option_map (λ (n : Note g.row.M.Denot). with_state n.summary (unwrap_or n.state (state_past app s.base snap es))) s.note
    ≡ Some (with_state k (state_past app s.base snap es)) =
    ap (λ (o : Option (Note g.row.M.Denot)). option_map (λ n. with_state n.summary (unwrap_or n.state (state_past app s.base snap es))) o)
    c.in-Some-None.is
    ∙ (λ i. Some (with_state (same i) (unwrap_or (none i) (state_past app s.base snap es)))) in
    let there = rw c.in-Some-None.is at (ap (λ (x : SummaryView). x.end) c.summary.view_is) in
    let end : c.summary.inside.end ≡ k.end = there ∙ ap (λ (x : SummaryView). x.end) same in
    let found : (s.base ≡ None) × (es ≡ between s.snapshot.end k.end log) = elim c.if-is_none.branch [
      | then-is_none w ↦ (
        none_by s.base c.is_none.result c.is_none.ensures w.if-is_none.true,
        sym w.deref.ensures.value
            ∙ (w.are_between.ensures (sym w.value-is ∙ c.if-are_between.true) ∙ (λ i. between (w.end.ensures i) (end i) log)),
      )
      | else-is_none w ↦ absurd (cc (c.if-are_between.true, w.value-is, w.if-is_none.false))
    ] in
    let summed = c.is_with.ensures t
    ∙ (ap (λ (x : SummaryView). with_entries no_state x c.deref-then-are_between.result.now) c.summary-then-are_between.ensures
    ∙ ap (λ (xs : List Entry). with_entries no_state (summary_of s.snapshot) xs) c.deref-then-are_between.ensures.value) in
    let sums : k ≡ with_entries no_state (summary_of s.snapshot) es = cc (summed, c.in-Some-None.summary-is) in
    subst (λ (v : StatesView g.row.M.Denot). IsNotedFolded app v.snap log v.noted) c.self.view_is
    (subst (λ (q : Option (Packed g.row.M.Denot)). IsNotedFolded app snap log q) (sym noted)
    (ap (λ (b : Option g.row.M.Denot). with_state k (state_past app b snap es)) found.0 ∙ noted_is app snap k es log found.1 sums))
