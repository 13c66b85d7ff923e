-- Lemmas on the equality of tables. Nothing here has to be believed.
use Rattle.std.specs.Prelude.{Bool}
use Rattle.std.specs.Cmp.{IsPartialEquivalence, IsEquivalence, and_per, and_equiv, on_per, on_equiv, partial_equiv_from_equiv, nat_eq_equiv}
use Rattle.std.specs.Cmp.Lexicographic.{lists_per, lists_equiv}
use Rattle.raft_progress.specs.Table.{Table, same_table}

module _ {ID V P Q : Type 0} {set_eq : Q → Q → Bool} {id_eq : ID → ID → Bool} {value_eq : V → V → Bool} {default_eq : P → P → Bool} where
  -- equality of tables is symmetric and transitive if that of their parts is
  pub same_table_per : IsPartialEquivalence set_eq → IsPartialEquivalence id_eq → IsPartialEquivalence value_eq → IsPartialEquivalence default_eq → IsPartialEquivalence (same_table set_eq id_eq value_eq default_eq)
  same_table_per sets ids values defaults =
      and_per (on_per (λ (t : Table ID V P Q). t.set) sets)
      (and_per (on_per (λ (t : Table ID V P Q). t.rows) (lists_per (and_per (on_per (λ (r : ID × V). r.0) ids) (on_per (λ (r : ID × V). r.1) values))))
      (and_per (on_per (λ (t : Table ID V P Q). t.voters) (partial_equiv_from_equiv nat_eq_equiv)) (on_per (λ (t : Table ID V P Q). t.default) defaults)))

  -- and reflexive
  pub same_table_equiv : IsEquivalence set_eq → IsEquivalence id_eq → IsEquivalence value_eq → IsEquivalence default_eq → IsEquivalence (same_table set_eq id_eq value_eq default_eq)
  same_table_equiv sets ids values defaults =
      and_equiv (on_equiv (λ (t : Table ID V P Q). t.set) sets)
      (and_equiv (on_equiv (λ (t : Table ID V P Q). t.rows) (lists_equiv (and_equiv (on_equiv (λ (r : ID × V). r.0) ids) (on_equiv (λ (r : ID × V). r.1) values))))
      (and_equiv (on_equiv (λ (t : Table ID V P Q). t.voters) nat_eq_equiv) (on_equiv (λ (t : Table ID V P Q). t.default) defaults)))
