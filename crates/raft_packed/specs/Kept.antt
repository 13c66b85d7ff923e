-- What a store keeps beside its log: a snapshot, what is noted for the next one, and what was applied. A summary is what is kept of
-- entries but their state.
use Rattle.std.specs.Prelude.{ℕ, ◌≡◌, Bool, false, List, ◌∷◌, Option, None, Some, IfSome, fold, nat_lt, unwrap_or}
use Rattle.raft_store.specs.declared.entry.Entry.{Entry}
use Rattle.raft_store.specs.Store.{between}
use Rattle.proof_packed_stores.specs.Stores.{Application, Packed, PackedStore, packed_keep_snapshot, with_entries}

abbrev pub SummaryView : Type 0
SummaryView = Packed (Unit {0})

-- the application that has no state
abbrev pub no_state : Application (Unit {0})
no_state = record { first = tt; apply = λ state e. tt }

-- the first entry of a log stands at an index or below it
abbrev pub BeginsUpto : ℕ → List (ℕ × Entry) → Type 0
BeginsUpto upto log = (first : ℕ × Entry) (rest : List (ℕ × Entry)) → log ≡ first ∷ rest → nat_lt upto first.0 ≡ false

-- what is noted, if anything is, is longer than what ends there
abbrev pub is_longer : Option SummaryView → ℕ → Bool
is_longer None end = false
is_longer (Some k) end = nat_lt end k.end

module _ {S : Type 0} where
  abbrev pub summary_of : Packed S → SummaryView
  summary_of p = record { end = p.end; last_id = p.last_id; before = p.before; effective = p.effective; state = tt }

  abbrev pub with_state : SummaryView → S → Packed S
  with_state k s = record { end = k.end; last_id = k.last_id; before = k.before; effective = k.effective; state = s }

  -- what is noted is kept, if anything is
  abbrev pub kept_if_noted : Option (Packed S) → PackedStore S → PackedStore S
  kept_if_noted None t = t
  kept_if_noted (Some p) t = packed_keep_snapshot p t

  -- a snapshot with the entries of a log up to an index, and a store's own with those of its log
  abbrev pub folded_from : Application S → Packed S → List (ℕ × Entry) → ℕ → Packed S
  folded_from app snap log end = with_entries app snap (between snap.end end log)

  abbrev pub folded : Application S → PackedStore S → ℕ → Packed S
  folded app t end = folded_from app t.snap t.log end

  -- what is noted, if anything is, is the snapshot with the entries of a log up to its own end
  abbrev pub IsNotedFolded : Application S → Packed S → List (ℕ × Entry) → Option (Packed S) → Type 0
  IsNotedFolded app snap log noted = IfSome noted (λ p. p ≡ folded_from app snap log p.end)

  -- the end of what is noted, if anything is, names it: with the log's entries up to there the snapshot that is stored is what keeping it would leave
  abbrev pub IsNamedByEnd : Application S → PackedStore S → Option (Packed S) → Type 0
  IsNamedByEnd app t noted = IfSome noted (λ p. packed_keep_snapshot (folded app t p.end) t ≡ packed_keep_snapshot p t)

  -- a snapshot, once its late entries are applied to its state
  abbrev pub with_late : Application S → Packed S → List Entry → Packed S
  with_late app p late = record p { state = fold app.apply p.state late }

  -- the state that entries give after those of a snapshot, or after this other state
  abbrev pub state_past : Application S → Option S → Packed S → List Entry → S
  state_past app base snap es = fold app.apply (unwrap_or base snap.state) es

-- a snapshot, what is noted for the next one, and what was applied
pub record StatesView (S : Type 0) : Type 0 where
  pub snap : Packed S
  pub noted : Option (Packed S)
  pub applied : Packed S

-- a store, and what is noted for its next snapshot
pub record NotedStore (S : Type 0) : Type 0 where
  pub store : PackedStore S
  pub noted : Option (Packed S)
