-- What a table is seen as: a finite map from bytes.
use Rattle.std.specs.Prelude.{ℕ, List, Option, refl}
use Rattle.std.specs.Coded.{Coded, code_by, coded×, coded_list, coded_option, coded_ℕ}
use Rattle.raft_machine.specs.declared.stored.Stored.{Stored}

-- as a pair
abbrev pub stored_code : Coded Stored
stored_code = code_by (List ℕ × Option ℕ) (coded× (coded_list coded_ℕ) (coded_option coded_ℕ)) (λ s. (s.bytes, s.expires)) (λ p. record { bytes = p.0; expires = p.1 }) (λ _. refl)
