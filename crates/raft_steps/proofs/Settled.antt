-- What holds at the end of a call that its queue has settled, if it wasn't spent by out of memory.
use Rattle.std.specs.Prelude.{◌≡◌, true, false, Option, Result, Ok, Err, OnOk, IfOk}
use Rattle.std.proofs.Common.{sym, ◌∙◌, ap, subst}
use Rattle.std.specs.declared.alloc.AllocError.{AllocError}
use Rattle.std.specs.declared.alloc.Global.{Global}
use Rattle.std.specs.declared.boxed.Box.{Box}
use Rattle.std.specs.declared.cmp.Ordering.{Ordering}
use Rattle.raft_state.specs.declared.state.RaftState.{RaftState}
use Rattle.raft_progress_entry.specs.raft_error.declared.error.EngineError.{EngineError}
use Rattle.raft_command.specs.declared.command.Command.{Command}
use Rattle.raft_command.specs.declared.config.EngineConfig.{EngineConfig}
use Rattle.raft_command.specs.Ends.{Settles}
use Rattle.raft_command.specs.Queue.{Queue}
use Rattle.raft_steps.specs.Invariants.{IsSound, IsSoundLed, IsSoundUnlessSpent, IsSoundLedUnlessSpent}
use Rattle.raft_steps.specs.Parts.{Core, Led, Machine, core_of, led_of, led_machine, machine_of}
use Rattle.raft_proposer.specs.Joint.{JointLeader, JointCandidate}

-- what holds of a step's value holds of what the call leaves
settled : {A B NID N X : Type 0} (P : X → Type 0) (f : Queue B → X) (done : Result A AllocError) (old new : Queue B) (r : Result A (EngineError NID N)) (x : X)
    → Settles done old r new → OnOk done (f old ≡ x) → P x → new.spent ≡ false → P (f new)
settled P f (Ok a) old new r x h e p unspent = subst (λ q. P (f q)) (sym h.1) (subst P (sym e) p)
settled P f (Err e) old new r x h k p unspent = let no : true ≡ false = sym (ap (λ q. q.spent) h.1) ∙ unspent in cc

-- the same of what its answer says
settled_by : {A B NID N X : Type 0} (P : X → Type 0) (f : Queue B → X) (Q : A → Type 0) (done : Result A AllocError) (old new : Queue B) (r : Result A (EngineError NID N))
    → Settles done old r new → IfOk done Q → ((a : A) → Q a → P (f old)) → new.spent ≡ false → P (f new)
settled_by P f Q (Ok a) old new r h q p unspent = subst (λ q. P (f q)) (sym h.1) (p a q)
settled_by P f Q (Err e) old new r h k p unspent = let no : true ≡ false = sym (ap (λ q. q.spent) h.1) ∙ unspent in cc

module _ {A C NID N E D R S : Type 0} (cmp : NID → NID → Ordering) (config : EngineConfig NID) (done : Result A AllocError) (old new : Queue (Command C NID N E D R S)) (r : Result A (EngineError NID N)) (s : RaftState NID N) where
  -- of an engine
  pub settled_sound : (l : Option (Box (JointLeader C NID N E D R S) Global)) (c : Option (JointCandidate NID)) (m : Machine C NID N E D R S)
      → Settles done old r new → OnOk done (machine_of s old l c ≡ m) → IsSound cmp config m → IsSoundUnlessSpent cmp config (machine_of s new l c)
  settled_sound l c m h e p = settled (IsSound cmp config) (λ q. machine_of s q l c) done old new r m h e p

  pub settled_if : (l : Option (Box (JointLeader C NID N E D R S) Global)) (c : Option (JointCandidate NID)) (Q : A → Type 0)
      → Settles done old r new → IfOk done Q → ((a : A) → Q a → IsSound cmp config (machine_of s old l c)) → IsSoundUnlessSpent cmp config (machine_of s new l c)
  settled_if l c Q h q p = settled_by (IsSound cmp config) (λ q. machine_of s q l c) Q done old new r h q p

  -- of a leader and its state
  pub settled_led : (l : JointLeader C NID N E D R S) (m : Led C NID N E D R S)
      → Settles done old r new → OnOk done (led_of l s old ≡ m) → IsSoundLed cmp config m → IsSoundLedUnlessSpent cmp config (led_of l s new)
  settled_led l m h e p = settled (IsSoundLed cmp config) (λ q. led_of l s q) done old new r m h e p

  -- of an engine with this leader
  pub settled_beside : (l : JointLeader C NID N E D R S) (c : Option (JointCandidate NID)) (m : Led C NID N E D R S)
      → Settles done old r new → OnOk done (led_of l s old ≡ m) → IsSound cmp config (led_machine m c) → IsSoundUnlessSpent cmp config (led_machine (led_of l s new) c)
  settled_beside l c m h e p = settled (λ (m : Led C NID N E D R S). IsSound cmp config (led_machine m c)) (λ q. led_of l s q) done old new r m h e p

  -- of an engine of which a step reads and writes state and queue alone
  pub settled_core : (l : Option (JointLeader C NID N E D R S)) (c : Option (JointCandidate NID)) (k : Core C NID N E D R S)
      → Settles done old r new → OnOk done (core_of s old ≡ k) → IsSound cmp config (record { core = k; leader = l; candidate = c })
      → IsSoundUnlessSpent cmp config (record { core = core_of s new; leader = l; candidate = c })
  settled_core l c k h e p = settled (λ (k : Core C NID N E D R S). IsSound cmp config (record { core = k; leader = l; candidate = c })) (λ q. core_of s q) done old new r k h e p

  -- of a leader whose call reads and writes state and queue alone
  pub settled_led_core : (l : JointLeader C NID N E D R S) (k : Core C NID N E D R S)
      → Settles done old r new → OnOk done (core_of s old ≡ k) → IsSoundLed cmp config (record { leader = l; core = k }) → IsSoundLedUnlessSpent cmp config (led_of l s new)
  settled_led_core l k h e p = settled (λ (k : Core C NID N E D R S). IsSoundLed cmp config (record { leader = l; core = k })) (λ q. core_of s q) done old new r k h e p
