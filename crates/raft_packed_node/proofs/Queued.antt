-- The next command of an engine.
use Rattle.std.specs.Prelude.{◌≡◌, true, false, List, [], ◌∷◌, Option, None, Some, length, nat_eq, refl}
use Rattle.std.proofs.Common.{arith}
use Rattle.std.proofs.lemmas.Bool.Decides.{nat_tests}
use Rattle.raft_command.specs.Queue.{Queue, popped}
use Rattle.raft_calls.specs.Held.{IsReadyWhereRunning, IsRestingWhereRunning}
use Rattle.raft_node.specs.Commands.{next_command_of}
use Rattle.raft_node.specs.Work.{is_idle}
use Rattle.raft_store.specs.Types.{EngineView, WorldCommand}

-- it isn't idle if there is one
pub busy_by : (o : Option EngineView) (c : WorldCommand) → next_command_of o ≡ Some c → is_idle o ≡ false
busy_by None c h = cc
busy_by (Some e) c h = go e.machine.core.output.items h
  where
    go : (cs : List WorldCommand) → (popped (record e.machine.core.output { items = cs })).0 ≡ Some c → nat_eq (length cs) 0 ≡ false
    go [] h = cc
    go (x ∷ xs) h = grind (arith, nat_tests)

-- and is if there is none
pub idle_by : (o : Option EngineView) → next_command_of o ≡ None → is_idle o ≡ true
idle_by None h = refl
idle_by (Some e) h = go e.machine.core.output.items h
  where
    go : (cs : List WorldCommand) → (popped (record e.machine.core.output { items = cs })).0 ≡ None → nat_eq (length cs) 0 ≡ true
    go [] h = refl
    go (x ∷ xs) h = cc

-- a queue from which nothing is popped stays
pub unpopped : (q p : Queue WorldCommand) (r : Option WorldCommand) → r ≡ (popped q).0 → p ≡ (popped q).1 → r ≡ None → p ≡ q
unpopped q p r first rest none = go q.items first rest
  where
    go : (cs : List WorldCommand) → r ≡ (popped (record q { items = cs })).0 → p ≡ (popped (record q { items = cs })).1 → p ≡ record q { items = cs }
    go [] f s = s
    go (x ∷ xs) f s = cc

-- a ready engine rests once its queue is worked off
empty_of : (cs : List WorldCommand) → nat_eq (length cs) 0 ≡ true → cs ≡ []
empty_of [] h = refl
empty_of (c ∷ cs) h = let other : nat_eq (length (c ∷ cs)) 0 ≡ false = grind (arith, nat_tests) in cc

pub resting_of : (o : Option EngineView) → IsReadyWhereRunning o → is_idle o ≡ true → IsRestingWhereRunning o
resting_of None h idle = tt
resting_of (Some e) h idle = record { ready = h; queue = empty_of e.machine.core.output.items idle }
