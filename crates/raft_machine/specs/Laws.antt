-- What the laws speak of.
use Rattle.std.specs.Prelude.{ℕ, suc, ◌≡◌, ◌<◌, ◌⊎◌, ◌==◌, Bool, true, List, [], ◌∷◌, ◌++◌, filter, map, Option, Some, None, if◌then◌else◌}
use Rattle.std.specs.List.{AllByRecursion, list_any, repeat}
use Rattle.std.specs.Ordering.{nat_cmp, eq_by_cmp}
use Rattle.std.specs.Option.{option_map}
use Rattle.std.specs.Cmp.Lexicographic.{slice_cmp}
use Rattle.std.specs.FinMap.{contains_key, keys, len}
use Rattle.raft_machine.specs.declared.command.ScanOptions.{ScanOptions}
use Rattle.raft_machine.specs.declared.command.Command.{Command}
use Rattle.raft_machine.specs.declared.command.Command.TheVariants.{Read, Set, SetMany, CompareAndSet, Append, Increment, Delete, Take, Expire, Persist}
use Rattle.raft_machine.specs.Space.{Map}
use Rattle.raft_machine.specs.Scans.{Key, is_asked, scan}

-- the keys that a command may change
abbrev pub changed_by : Command → List (List ℕ)
changed_by (Read query) = []
changed_by (Set k v options) = k ∷ []
changed_by (SetMany pairs) = map (λ p. p.0) pairs
changed_by (CompareAndSet k expected v) = k ∷ []
changed_by (Append k more) = k ∷ []
changed_by (Increment k by) = k ∷ []
changed_by (Delete ks) = ks
changed_by (Take k) = k ∷ []
changed_by (Expire k t condition) = k ∷ []
changed_by (Persist k) = k ∷ []

-- whether a key is among keys
abbrev pub has : List ℕ → List (List ℕ) → Bool
has k ks = list_any (eq_by_cmp (slice_cmp nat_cmp) k) ks

-- whether a command may change a key
abbrev pub names : Command → List ℕ → Bool
names c k = has k (changed_by c)

-- the same keys are asked for, at another cursor
abbrev pub at_cursor : ScanOptions → ℕ → ℕ → ScanOptions
at_cursor options cursor count = record { cursor = cursor; count = count; pattern = options.pattern; of_strings = options.of_strings }

-- What steps from a cursor answer one after the other, until one answers 0; nothing if none does. Each has the keys that there are then, and
-- its own count.
abbrev pub iterated : ScanOptions → ℕ → List (Map × ℕ) → Option (List Key)
iterated options cursor [] = None
iterated options cursor (m ∷ ms) =
    let page = scan (keys m.0) (at_cursor options cursor m.1) in
    if page.cursor == 0 then Some page.keys else option_map (λ ks. page.keys ++ ks) (iterated options page.cursor ms)

-- steps through keys that stay the same answer each key that is asked for, in order, and end after at most one step more than keys
abbrev pub ScansAnswerEachKeyOnce : Type 0
ScansAnswerEachKeyOnce =
    (options : ScanOptions) (m : Map)
    → iterated options 0 (repeat (suc (len m)) ((m, options.count) ∷ [])) ≡ Some (filter (is_asked options) (keys m))

-- a key that is asked for, and there at each step, is answered before 0 is
abbrev pub ScansMissNoKey : Type 0
ScansMissNoKey =
    (options : ScanOptions) (steps : List (Map × ℕ)) (answered : List (List ℕ)) (k : List ℕ)
    → iterated options 0 steps ≡ Some answered → is_asked options k ≡ true → AllByRecursion (λ m. contains_key m.0 k ≡ true) steps
    → has k answered ≡ true

-- a step answers a cursor behind its own, or 0
abbrev pub CursorsRise : Type 0
CursorsRise = (options : ScanOptions) (m : Map) → let page = scan (keys m) options in (page.cursor ≡ 0) ⊎ (options.cursor < page.cursor)
