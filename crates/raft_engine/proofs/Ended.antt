-- How a call ends that its queue settles.
use Rattle.std.specs.Prelude.{◌≡◌, Option, None, Result, Ok, Err, OnOk, IfOk}
use Rattle.std.proofs.Common.{refl, sym, ap, subst}
use Rattle.std.specs.declared.alloc.AllocError.{AllocError}
use Rattle.raft_command.specs.Ends.{Ends, IsSpent, Settles}
use Rattle.raft_command.specs.Queue.{Queue}
use Rattle.raft_error.specs.declared.error.EngineError.{EngineError}

module _ {A B NID N M X : Type 0} (f : Queue B → X) (asks : Option (EngineError NID N)) (done : Result A AllocError) (old new : Queue B) (r : Result A (EngineError NID N)) (x : X) (m n : M) where
  -- by a step
  pub ended : Settles done old r new → asks ≡ None → OnOk done (f old ≡ x) → Ends asks r new (λ _. f new ≡ x) m n
  ended = go done where
    go : (done : Result A AllocError) → Settles done old r new → asks ≡ None → OnOk done (f old ≡ x) → Ends asks r new (λ _. f new ≡ x) m n
    go (Ok a) h e p = subst (λ r. Ends asks r new (λ _. f new ≡ x) m n) (sym h.0) (e, subst (λ q. f q ≡ x) (sym h.1) p)
    go (Err _) h e p = subst (λ r. Ends asks r new (λ _. f new ≡ x) m n) (sym h.0) (e, subst IsSpent (sym h.1) (record { empty = refl; spent = refl }))

  -- by an answer and a step
  pub ended_with : (y : A) → Settles done old r new → asks ≡ None → IfOk done (λ a. a ≡ y) → OnOk done (f old ≡ x) → Ends asks r new (λ a. (a ≡ y) × (f new ≡ x)) m n
  ended_with y = go done where
    go : (done : Result A AllocError) → Settles done old r new → asks ≡ None → IfOk done (λ a. a ≡ y) → OnOk done (f old ≡ x) → Ends asks r new (λ a. (a ≡ y) × (f new ≡ x)) m n
    go (Ok a) h e k p = subst (λ r. Ends asks r new (λ a. (a ≡ y) × (f new ≡ x)) m n) (sym h.0) (e, (k, subst (λ q. f q ≡ x) (sym h.1) p))
    go (Err _) h e k p = subst (λ r. Ends asks r new (λ a. (a ≡ y) × (f new ≡ x)) m n) (sym h.0) (e, subst IsSpent (sym h.1) (record { empty = refl; spent = refl }))

  -- by a step of a part, in a whole that has it
  pub ended_in : {Y : Type 0} (g : X → Y) → Settles done old r new → asks ≡ None → OnOk done (f old ≡ x) → Ends asks r new (λ _. g (f new) ≡ g x) m n
  ended_in g = go done where
    go : (done : Result A AllocError) → Settles done old r new → asks ≡ None → OnOk done (f old ≡ x) → Ends asks r new (λ _. g (f new) ≡ g x) m n
    go (Ok a) h e p = subst (λ r. Ends asks r new (λ _. g (f new) ≡ g x) m n) (sym h.0) (e, ap g (subst (λ q. f q ≡ x) (sym h.1) p))
    go (Err _) h e p = subst (λ r. Ends asks r new (λ _. g (f new) ≡ g x) m n) (sym h.0) (e, subst IsSpent (sym h.1) (record { empty = refl; spent = refl }))
