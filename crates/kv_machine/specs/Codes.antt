-- What is stored at a key, as a tuple of its fields.
use Rattle.std.specs.Prelude.{ℕ, List, refl}
use Rattle.std.specs.Coded.{Coded, code_by, coded×, coded_list, coded_ℕ}
use Rattle.kv_machine.specs.declared.key_value.Stored.{Stored}

abbrev pub stored_code : Coded Stored
stored_code =
    code_by (ℕ × (ℕ × (ℕ × (ℕ × List ℕ)))) (coded× coded_ℕ (coded× coded_ℕ (coded× coded_ℕ (coded× coded_ℕ (coded_list coded_ℕ)))))
    (λ s. (s.create_revision, (s.mod_revision, (s.version, (s.lease, s.value)))))
    (λ p. record { create_revision = p.0; mod_revision = p.1.0; version = p.1.1.0; lease = p.1.1.1.0; value = p.1.1.1.1 }) (λ _. refl)
