-- A leader id (term, node id) of u64 parts as one number, which keeps the order of openraft's leader ids.
use Rattle.std.specs.Prelude.{ℕ, ◌+◌, ◌*◌, ◌%◌}

abbrev pub leader_number : ℕ → ℕ → ℕ
leader_number term node = term * 18446744073709551616 + node

-- the node that a leader id names
abbrev pub leader_node : ℕ → ℕ
leader_node d = d % 18446744073709551616
