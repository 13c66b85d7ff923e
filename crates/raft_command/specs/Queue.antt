-- A queue of commands (openraft's `EngineOutput`).
use Rattle.std.specs.Prelude.{ℕ, Bool, true, List, [], ◌∷◌, ◌++◌, Option, None, Some}

-- its items, the last sequence number, and whether it is spent
pub record Queue (A : Type 0) : Type 0 where
  pub items : List A
  pub seq : ℕ
  pub spent : Bool

-- the queue with these items after its own
abbrev pub queued : {A : Type 0} → Queue A → List A → Queue A
queued q xs = record q { items = q.items ++ xs }

-- the queue with one more item in front
abbrev pub postponed : {A : Type 0} → Queue A → A → Queue A
postponed q x = record q { items = x ∷ q.items }

-- the first item, and the queue without it
abbrev pub popped : {A : Type 0} → Queue A → Option A × Queue A
popped q = elim q.items [ [] ↦ (None, q) | x ∷ xs ↦ (Some x, record q { items = xs }) ]

-- a queue after out of memory
abbrev pub emptied : {A : Type 0} → Queue A → Queue A
emptied q = record q { items = []; spent = true }
