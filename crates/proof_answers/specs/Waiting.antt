-- Which action took the step that comes on disk. Actions are counted from 0.
use Rattle.std.specs.Prelude.{ℕ, List, [], ◌∷◌, ◌++◌, nat_eq, if◌then◌else◌}
use Rattle.std.proofs.Common.{suc}
use Rattle.proof_servers.specs.Servers.{Action, Crashes, Flushes, Takes}

-- all but the oldest
abbrev pub but_oldest : List ℕ → List ℕ
but_oldest [] = []
but_oldest (step ∷ steps) = steps

module _ (id : ℕ) where
  -- The numbers of the actions by which the server took the steps that wait for its disk, the oldest first, after one more
  -- action: a step waits behind the others, a flush takes the oldest, and after a crash the start alone waits.
  abbrev pub waiting_on : ℕ → Action → List ℕ → List ℕ
  waiting_on number (Takes other step) steps = if nat_eq other id then steps ++ number ∷ [] else steps
  waiting_on number (Flushes other) steps = if nat_eq other id then but_oldest steps else steps
  waiting_on number (Crashes other k at) steps = if nat_eq other id then number ∷ [] else steps

  abbrev pub waiting_from : ℕ → List Action → List ℕ → List ℕ
  waiting_from number [] steps = steps
  waiting_from number (a ∷ rest) steps = waiting_from (suc number) rest (waiting_on number a steps)

  -- after these actions of servers that started empty
  abbrev pub waiting : List Action → List ℕ
  waiting actions = waiting_from 0 actions []
