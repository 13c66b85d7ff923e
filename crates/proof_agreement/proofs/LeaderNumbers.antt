-- Leader ids as numbers: each number is of one id, and the order is that of (term, node id).
use Rattle.std.proofs.Common.{ℕ, ◌<◌, ◌≡◌, ◌⊎◌, inl, inr, ⊎_elim, arith}
use Rattle.std.proofs.lemmas.Bool.{cases_order}
use Rattle.proof_agreement.specs.LeaderNumbers.{leader_number, leader_node}

pub leader_node-number : (t n : ℕ) → n < 18446744073709551616 → leader_node (leader_number t n) ≡ n
leader_node-number t n h = omega arith

pub leader_number-lt : (t n u m : ℕ) → n < 18446744073709551616 → m < 18446744073709551616 → (t < u) ⊎ ((t ≡ u) × (n < m)) → leader_number t n < leader_number u m
leader_number-lt t n u m h k (inl l) = omega arith
leader_number-lt t n u m h k (inr p) = omega (arith, p.0, p.1)

pub lt_of_leader_number : (t n u m : ℕ) → n < 18446744073709551616 → m < 18446744073709551616 → leader_number t n < leader_number u m → (t < u) ⊎ ((t ≡ u) × (n < m))
lt_of_leader_number t n u m h k l = ⊎_elim (λ e. inr (e, omega arith)) (λ c. ⊎_elim inl (λ g. absurd (omega arith)) c) (cases_order t u)

pub leader_number-same : (t n u m : ℕ) → n < 18446744073709551616 → m < 18446744073709551616 → leader_number t n ≡ leader_number u m → (t ≡ u) × (n ≡ m)
leader_number-same t n u m h k e = (omega arith, omega arith)
