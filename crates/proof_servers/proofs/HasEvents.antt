-- What a server may do the world has an event for: a message that was sent can be delivered, then and later.
use Rattle.std.specs.Prelude.{◌≡◌, ◌<◌, ℕ, Bool, true, false, List, [], ◌∷◌, ◌++◌, ◌-◌, length, nat_eq, slice_get, Contains, Option, None, Some, refl, if◌then◌else◌}
use Rattle.std.specs.List.{slice_index_or}
use Rattle.std.specs.Option.{option_map}
use Rattle.std.proofs.Common.{◌∙◌, ap, arith, zero, suc}
use Rattle.std.proofs.lemmas.Bool.Decides.{nat_tests}
use Rattle.proof_deeds.specs.raft_schedule.declared.event.EventKind.{EventKind}
use Rattle.proof_deeds.specs.raft_schedule.declared.event.EventKind.TheVariants as event
use Rattle.proof_deeds.specs.raft_node.declared.act.Act.{Act}
use Rattle.proof_deeds.specs.raft_node.declared.act.Act.TheVariants.{Initialize, Elect, Take, Propose, SendHeartbeat, Fail, TriggerSnapshot, FinishSnapshot, TriggerPurge, Restart, ChangeLearners, ChangeMembership, Read, StepDown, Stop}
use Rattle.proof_deeds.specs.raft_node.declared.act.Aim.{Aim}
use Rattle.proof_deeds.specs.raft_calls.declared.elections.Candidates.TheVariants.{AllMembers, Voters}
use Rattle.proof_deeds.specs.raft_calls.declared.message.Message.{Message}
use Rattle.proof_deeds.specs.raft_node.Events.{aim_of}
use Rattle.proof_servers.specs.Follows.{HasEvent}
use Rattle.proof_servers.specs.Servers.{MayTake}

slice_get_more : {A : Type 0} (xs ys : List A) (i : ℕ) (x : A) → slice_get xs i ≡ Some x → slice_get (xs ++ ys) i ≡ Some x
slice_get_more [] ys i x e = cc
slice_get_more (a ∷ xs) ys zero x e = e
slice_get_more (a ∷ xs) ys (suc i) x e = slice_get_more xs ys i x e

slice_get_is : {A : Type 0} (xs : List A) (k : ℕ) (x : A) → k < length xs → slice_index_or xs k x ≡ x → slice_get xs k ≡ Some x
slice_get_is [] k x h e = absurd (omega arith)
slice_get_is (a ∷ xs) zero x h e = ap Some e
slice_get_is (a ∷ xs) (suc k) x h e = slice_get_is xs k x (omega arith) e

abbrev aims_at : ℕ → Option Message → Option Aim
aims_at id o = option_map (λ m. record { id = m.to; act = Take m }) o

delivers_more : (bag more : List Message) (k : ℕ) (a : Aim) → aim_of bag (event.Deliver k) ≡ Some a → aim_of (bag ++ more) (event.Deliver k) ≡ Some a
delivers_more bag more k a e = go (nat_eq k 0) refl e
  where
    there : (o : Option Message) → slice_get bag (k - 1) ≡ o → aims_at 0 o ≡ Some a → aims_at 0 (slice_get (bag ++ more) (k - 1)) ≡ Some a
    there None q h = cc
    there (Some m) q h = ap (aims_at 0) (slice_get_more bag more (k - 1) m q) ∙ h

    go : (b : Bool) → nat_eq k 0 ≡ b → aims_at 0 (if b then None else slice_get bag (k - 1)) ≡ Some a → aims_at 0 (if nat_eq k 0 then None else slice_get (bag ++ more) (k - 1)) ≡ Some a
    go true q h = cc
    go false q h = rw q (there (slice_get bag (k - 1)) refl h)

pub aims_more : (bag more : List Message) (kind : EventKind) (a : Aim) → aim_of bag kind ≡ Some a → aim_of (bag ++ more) kind ≡ Some a
aims_more bag more (event.Init n) a e = e
aims_more bag more (event.Timeout n) a e = e
aims_more bag more (event.Stand n) a e = e
aims_more bag more (event.Deliver k) a e = delivers_more bag more k a e
aims_more bag more (event.Propose n values) a e = e
aims_more bag more (event.Heartbeat n) a e = e
aims_more bag more (event.Fail n t) a e = e
aims_more bag more (event.Snapshot n) a e = e
aims_more bag more (event.Built n) a e = e
aims_more bag more (event.Purge n i) a e = e
aims_more bag more (event.Restart n start) a e = e
aims_more bag more (event.Member n learners) a e = e
aims_more bag more (event.Change n groups learners) a e = e
aims_more bag more (event.Read n) a e = e
aims_more bag more (event.Down n) a e = e
aims_more bag more (event.Stop n) a e = e

event_for_message : (bag : List Message) (id : ℕ) (m : Message) → Contains bag m → m.to ≡ id → HasEvent bag id (Take m)
event_for_message bag id m c to = record {
  kind = event.Deliver (suc c.0);
  aims =
      let is : slice_get bag c.0 ≡ Some m = slice_get_is bag c.0 m c.1 c.2 in
      let zero_not : nat_eq (suc c.0) 0 ≡ false = grind (arith, nat_tests) in
      let back : suc c.0 - 1 ≡ c.0 = omega arith in
      rw (zero_not, back, is) (ap (λ i. Some (record { id = i; act = Take m })) to);
}

pub event_for : (bag : List Message) (id : ℕ) (act : Act) → MayTake bag id act → HasEvent bag id act
event_for bag id Initialize h = record { kind = event.Init id; aims = refl }
event_for bag id (Elect Voters) h = record { kind = event.Timeout id; aims = refl }
event_for bag id (Elect AllMembers) h = record { kind = event.Stand id; aims = refl }
event_for bag id (Take m) h = event_for_message bag id m h.0 h.1
event_for bag id (Propose values) h = record { kind = event.Propose id values; aims = refl }
event_for bag id SendHeartbeat h = record { kind = event.Heartbeat id; aims = refl }
event_for bag id (Fail target) h = record { kind = event.Fail id target; aims = refl }
event_for bag id TriggerSnapshot h = record { kind = event.Snapshot id; aims = refl }
event_for bag id FinishSnapshot h = record { kind = event.Built id; aims = refl }
event_for bag id (TriggerPurge i) h = record { kind = event.Purge id i; aims = refl }
event_for bag id (Restart start) h = record { kind = event.Restart id start; aims = refl }
event_for bag id (ChangeLearners learners) h = record { kind = event.Member id learners; aims = refl }
event_for bag id (ChangeMembership groups learners) h = record { kind = event.Change id groups learners; aims = refl }
event_for bag id Read h = record { kind = event.Read id; aims = refl }
event_for bag id StepDown h = record { kind = event.Down id; aims = refl }
event_for bag id Stop h = record { kind = event.Stop id; aims = refl }

pub may_take_more : (network bag : List Message) (id : ℕ) (act : Act) → ((m : Message) → Contains network m → Contains bag m) → MayTake network id act → MayTake bag id act
may_take_more network bag id (Take m) within h = (within m h.0, h.1)
may_take_more network bag id Initialize within h = tt
may_take_more network bag id (Elect candidates) within h = tt
may_take_more network bag id (Propose values) within h = tt
may_take_more network bag id SendHeartbeat within h = tt
may_take_more network bag id (Fail target) within h = tt
may_take_more network bag id TriggerSnapshot within h = tt
may_take_more network bag id FinishSnapshot within h = tt
may_take_more network bag id (TriggerPurge i) within h = tt
may_take_more network bag id (Restart start) within h = tt
may_take_more network bag id (ChangeLearners learners) within h = tt
may_take_more network bag id (ChangeMembership groups learners) within h = tt
may_take_more network bag id Read within h = tt
may_take_more network bag id StepDown within h = tt
may_take_more network bag id Stop within h = tt
