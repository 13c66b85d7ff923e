use Rattle.std.proofs.Common.{ℕ, ◌≡◌, List, ap, subst, ◌∙◌}
use Rattle.std.specs.Prelude.{IfOk}
use Rattle.std.specs.FinMap.{from_sorted}
use Rattle.raft_machine.specs.Bytes.{are_live, are_rising}
use Rattle.raft_machine.specs.BytesLaws.{space_back}
use Rattle.raft_machine.specs.Space.{Space}
use Rattle.raft_machine.specs.declared.stored.Stored.{Stored}
use Rattle.raft_machine.proofs.Loaded.{entries_live, entries_rising, made}
use Rattle.raft_machine.proofs.keyspace.Keyspace.copy.Goals as goal

pub of-requires-clause-rising : goal.of-requires-clause-rising
of-requires-clause-rising c = ap are_rising c.in_ok-copy_entries.ensures ∙ entries_rising c.self.inside.table

pub of-requires-clause-live : goal.of-requires-clause-live
of-requires-clause-live c =
    ap (are_live c.self.inside.moment) c.in_ok-copy_entries.ensures ∙ entries_live c.self.inside.table c.self.inside.moment c.self.invariant.later

pub returns : goal.returns
returns c =
    let same =
    ap (λ (es : List (List ℕ × Stored)). made (from_sorted es) c.self.inside.moment) c.in_ok-copy_entries.ensures
    ∙ space_back (made c.self.inside.table c.self.inside.moment)
    ∙ c.self.view_is
    in
    subst (λ (s : Space). IfOk c.of.result (λ copied. copied ≡ s)) same c.of.ensures
