-- Keys in steps (Redis, SCAN).
use Rattle.std.specs.Prelude.{ℕ, ◌-◌, ◌^◌, ◌==◌, ◌&&◌, Bool, true, not, List, [], ◌∷◌, ◌++◌, filter, find, Option, Some, None, nat_lt, nat_le, slice_get, if◌then◌else◌}
use Rattle.std.specs.Option.{option_map_or}
use Rattle.raft_patterns.specs.Patterns.{matches}
use Rattle.raft_machine.specs.declared.command.ScanOptions.{ScanOptions}
use Rattle.raft_machine.specs.declared.command.Page.{Page}
use Rattle.raft_machine.specs.Cursors.{cursor_of}

abbrev pub Key : Type 0
Key = List ℕ

abbrev pub fits_pattern : Option (List ℕ) → Key → Bool
fits_pattern None k = true
fits_pattern (Some pattern) k = matches pattern k

-- whether a key is answered, if a step takes it
abbrev pub is_asked : ScanOptions → Key → Bool
is_asked options k = options.of_strings && fits_pattern options.pattern k

-- the keys whose cursors aren't below this one
abbrev pub keys_from : ℕ → List Key → List Key
keys_from cursor ks = filter (λ k. nat_le cursor (cursor_of k)) ks

-- the cursor of the last key that a step takes: of the count-th, or else a greater one than any
abbrev pub last_of : ℕ → List Key → ℕ
last_of count ks = option_map_or cursor_of (slice_get ks (count - 1)) (2 ^ 64)

-- the cursor of the first key behind it, or else 0
abbrev pub next_of : ℕ → List Key → ℕ
next_of last ks = option_map_or cursor_of (find (λ k. nat_lt last (cursor_of k)) ks) 0

-- A step takes count keys, and the others with the cursor of the last of them. It answers those that are asked for, and the cursor of the
-- next step.
abbrev pub page_of : ScanOptions → List Key → Page
page_of options ks =
    let last = last_of options.count ks in
    record { cursor = next_of last ks; keys = filter (λ k. nat_le (cursor_of k) last && is_asked options k) ks }

unfoldable pub scan : List Key → ScanOptions → Page
scan ks options = page_of options (keys_from options.cursor ks)

-- ---- key by key

abbrev pub asked : ScanOptions → Key → List Key
asked options k = if is_asked options k then k ∷ [] else []

-- no key is left to be taken, and the one before has another cursor
abbrev pub ends : ℕ → ℕ → ℕ → Bool
ends left last cursor = left == 0 && not (cursor == last)

-- so many keys are left to be taken, the one before had this cursor
abbrev pub walk : ScanOptions → ℕ → ℕ → List Key → Page
walk options left last [] = record { cursor = 0; keys = [] }
walk options left last (k ∷ ks) =
    if ends left last (cursor_of k) then record { cursor = cursor_of k; keys = [] }
    else let rest = walk options (left - 1) (cursor_of k) ks in record { cursor = rest.cursor; keys = asked options k ++ rest.keys }
