-- The entries between two indexes.
use Rattle.std.specs.Prelude.{ℕ, ◌≡◌, false, ◌&&◌, List, [], ◌∷◌, nat_le, nat_lt, ◌≤◌, refl}
use Rattle.std.proofs.Common.{arith}
use Rattle.std.proofs.lemmas.Bool.Decides.{nat_tests}
use Rattle.raft_store.specs.Store.{between}

no_test : (from end q : ℕ) → end ≤ from → (nat_le from q && nat_lt q end) ≡ false
no_test from end q h = grind (arith, nat_tests)

-- no entry stands between an index and one at or below it
pub between_none : {E : Type 0} (from end : ℕ) (log : List (ℕ × E)) → end ≤ from → between from end log ≡ []
between_none from end [] h = refl
between_none from end (x ∷ log) h = rw (no_test from end x.0 h) (between_none from end log h)
