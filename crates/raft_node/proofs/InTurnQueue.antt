-- What each reply of a queue waits for is done before it.
use Rattle.std.specs.Prelude.{◌≡◌, ◌<◌, ℕ, Bool, true, false, List, [], ◌∷◌, ◌++◌, slice_get, Option, None, Some, refl, if◌then◌else◌}
use Rattle.std.proofs.Common.{◌∙◌, ◌⊎◌, inl, inr, sym, ap, subst, arith, zero, suc, ⊎_elim}
use Rattle.raft_command.specs.declared.command.Command.TheVariants.{Respond, StateMachine}
use Rattle.raft_command.specs.declared.command.Condition.{Condition}
use Rattle.raft_command.specs.declared.command.Condition.TheVariants.{StateMachineCommand}
use Rattle.raft_command.specs.Kind.{condition_of}
use Rattle.raft_store.specs.declared.entry.Entry.{Entry}
use Rattle.raft_store.specs.Types.{EngineView, WorldCommand}
use Rattle.raft_node.specs.declared.node.Turn.{Turn}
use Rattle.raft_node.specs.Commands.{executed, next_command}
use Rattle.raft_calls.specs.Engines.{WorldRespond}
use Rattle.raft_node.specs.Execute.{exec}
use Rattle.raft_calls.specs.Feeds.{feed, feed_of}
use Rattle.raft_node.specs.InTurn.{AwaitsEarlier}
use Rattle.raft_node.specs.Work.{Work, one_less, stopped, stops, work_step}
use Rattle.raft_calls.proofs.InTurnCalls.{Only, Unwaiting, unwaiting}
use Rattle.raft_calls.proofs.Queues.{fed_only}
use Rattle.raft_calls.proofs.InTurnInstalls.{AllAwaited, Among, Awaited, IsAwaited, WorldSmCommand, then_unwaiting}
use Rattle.raft_node.proofs.InTurnSteps.{Next, executed_next, executed_none, next_some}

-- of a running engine what each queued reply waits for is done, or stands before it
abbrev pub QueueAwaited : List WorldCommand → Option EngineView → Type 0
QueueAwaited done o = (e : EngineView) → o ≡ Some e → AllAwaited done e.machine.core.output.items

module _ {L : Type 0} (keep : List Entry → L) (t : Turn) where
  -- it stays so when the next command is done
  step_awaited : (w : Work L) (c : WorldCommand) (n : Next keep t w c) (done : List WorldCommand) → AllAwaited (c ∷ done) n.rest → QueueAwaited (c ∷ done) (work_step keep t w).engine
  step_awaited w c n done h e is = go (stops w.left) (sym (ap (λ (x : Work L). x.engine) n.step) ∙ is)
    where
      fed_back : Only n.engine.machine.core (feed t.moment c n.engine).machine.core
      fed_back = fed_only Unwaiting unwaiting t.moment (feed_of c) n.engine

      go : (b : Bool) → ◌≡◌ {A = Option EngineView}
          (if b then stopped (exec keep t n.engine c w.effects) else record { engine = Some (feed t.moment c n.engine); effects = exec keep t n.engine c w.effects; left = one_less w.left }).engine
          (Some e) → AllAwaited (c ∷ done) e.machine.core.output.items
      go true q = cc
      go false q =
          let same : feed t.moment c n.engine ≡ e = cc in
          subst (λ (e : EngineView). AllAwaited (c ∷ done) e.machine.core.output.items) same
          (subst (AllAwaited (c ∷ done)) (sym (fed_back.behind ∙ ap (λ cs. cs ++ fed_back.added) n.queue)) (then_unwaiting (c ∷ done) n.rest fed_back.added h fed_back.each))

  pub executed_awaited : (k : ℕ) (w : Work L) (done : List WorldCommand) → QueueAwaited done w.engine → AllAwaited done (executed keep t k w)
  executed_awaited zero w done h = tt
  executed_awaited (suc k) w done h = go (next_command w) refl (λ d g. executed_awaited k (work_step keep t w) d g)
    where
      go : (o : Option WorldCommand) → next_command w ≡ o
          → ((d : List WorldCommand) → QueueAwaited d (work_step keep t w).engine → AllAwaited d (executed keep t k (work_step keep t w))) → AllAwaited done (executed keep t (suc k) w)
      go None q rest = subst (AllAwaited done) (sym (executed_none keep t (suc k) w q)) tt
      go (Some c) q rest =
          let n : Next keep t w c = next_some keep t w c q in
          let x : AllAwaited done (c ∷ n.rest) = subst (AllAwaited done) n.queued (h n.was n.runs) in
          subst (AllAwaited done) (sym (executed_next keep t k w c q)) (x.0, rest (c ∷ done) (step_awaited w c n done x.1))

-- the place of what a reply waits for
record Stands (cs : List WorldCommand) (j : ℕ) (c : WorldCommand) : Type 0 where
  place : ℕ
  before : place < j
  is : slice_get cs place ≡ Some c

record Found (done cs : List WorldCommand) (j : ℕ) (condition : Condition ℕ) : Type 0 where
  command : WorldSmCommand
  number : condition ≡ StateMachineCommand command.seq
  stands : Among (StateMachine command) done ⊎ Stands cs j (StateMachine command)

found : (done cs : List WorldCommand) → AllAwaited done cs → (j : ℕ) (condition : Condition ℕ) (reply : WorldRespond) → slice_get cs j ≡ Some (Respond (Some condition) reply)
    → Found done cs j condition
found done [] h j condition reply e = cc
found done (c ∷ cs) h zero condition reply e =
    let same : c ≡ Respond (Some condition) reply = cc in
    let a : Awaited done condition = subst (λ (c : WorldCommand). IsAwaited done (condition_of c)) same h.0 in
    record { command = a.command; number = a.number; stands = inl a.is }
found done (c ∷ cs) h (suc j) condition reply e =
    let f : Found (c ∷ done) cs j condition = found (c ∷ done) cs h.1 j condition reply e in
    record { command = f.command; number = f.number; stands = moved (StateMachine f.command) f.stands }
  where
    moved : (s : WorldCommand) → ((c ≡ s) ⊎ Among s done) ⊎ Stands cs j s → Among s done ⊎ Stands (c ∷ cs) (suc j) s
    moved s (inl (inl q)) = inr (record { place = 0; before = omega arith; is = ap Some q })
    moved s (inl (inr a)) = inl a
    moved s (inr p) = let l : p.place < j = p.before in inr (record { place = suc p.place; before = omega (arith, l); is = p.is })

pub awaits_earlier : (cs : List WorldCommand) → AllAwaited [] cs → (j : ℕ) (condition : Condition ℕ) (reply : WorldRespond) → slice_get cs j ≡ Some (Respond (Some condition) reply)
    → AwaitsEarlier cs j condition
awaits_earlier cs h j condition reply e =
    let f : Found [] cs j condition = found [] cs h j condition reply e in
    ⊎_elim (λ (a : ⊥). absurd a) (λ (p : Stands cs j (StateMachine f.command)). record { place = p.place; before = p.before; command = f.command; queued = p.is; number = f.number }) f.stands
