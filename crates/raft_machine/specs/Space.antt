-- The keys that there are at a moment.
use Rattle.std.specs.Prelude.{◌≡◌, ℕ, ◌<◌, Bool, true, List, Option, Some, None, nat_lt, max, refl, if◌then◌else◌}
use Rattle.std.specs.Option.{option_and_then}
use Rattle.std.specs.Ordering.{nat_cmp}
use Rattle.std.specs.Cmp.Lexicographic.{slice_cmp}
use Rattle.std.specs.Coded.{Coded, code_by, coded×, coded_list, coded_ℕ}
use Rattle.std.specs.FinMap as map
use Rattle.std.specs.FinMap.{FinMap}
use Rattle.raft_machine.specs.declared.stored.Stored.{Stored}
use Rattle.raft_machine.specs.Table.{stored_code}
use Rattle.raft_machine.specs.Deadlines.{Noted, has}

-- what is stored at each key
abbrev pub Map : Type 0
Map = FinMap (slice_cmp nat_cmp) Stored

-- the keys, and the moment, in milliseconds since the Unix epoch
pub record Space : Type 0 where
  pub map : Map
  pub moment : ℕ

abbrev pub space_code : Coded Space
space_code = code_by (Map × ℕ) (coded× (map.code (coded_list coded_ℕ) stored_code) coded_ℕ) (λ s. (s.map, s.moment)) (λ p. record { map = p.0; moment = p.1 }) (λ _. refl)

-- whether what expires then, if ever, is there at a moment
abbrev pub lives : ℕ → Option ℕ → Bool
lives now None = true
lives now (Some t) = nat_lt now t

-- when a key expires, if there is such a key and it does
abbrev pub deadline_of : Map → List ℕ → Option ℕ
deadline_of m k = option_and_then (λ s. s.expires) (map.get m k)

-- the keys that haven't expired
abbrev pub alive : ℕ → Map → Map
alive now m = map.retain_keys m (λ k. lives now (deadline_of m k))

-- The moment goes on, and never back; what has expired then is gone (Redis, EXPIRE).
abbrev pub advanced : Space → ℕ → Space
advanced s moment = record { map = alive (max s.moment moment) s.map; moment = max s.moment moment }

-- What would have expired already isn't stored, and the key is removed.
abbrev pub put : Space → List ℕ → Stored → Space
put s k stored = record { map = if lives s.moment stored.expires then map.insert s.map k stored else map.remove s.map k; moment = s.moment }

abbrev pub without : Space → List ℕ → Space
without s k = record { map = map.remove s.map k; moment = s.moment }

-- each key's deadline is noted
abbrev pub AreNoted : Map → Noted → Type 0
AreNoted m deadlines = (k : List ℕ) (t : ℕ) → deadline_of m k ≡ Some t → has deadlines t k ≡ true

-- no key has expired
abbrev pub AreLater : Map → ℕ → Type 0
AreLater m now = (k : List ℕ) (t : ℕ) → deadline_of m k ≡ Some t → now < t

pub record IsTimely (m : Map) (deadlines : Noted) (now : ℕ) : Type 0 where
  pub noted : AreNoted m deadlines
  pub later : AreLater m now
