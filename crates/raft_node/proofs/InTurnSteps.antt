-- What a command changes at its turn: the store as the store's own definition says, and the bag by what it sends.
use Rattle.std.specs.Prelude.{◌≡◌, ◌<◌, ◌≤◌, ℕ, Bool, true, false, List, [], ◌∷◌, ◌++◌, length, take, Option, None, Some, refl, if◌then◌else◌, nat_eq}
use Rattle.std.specs.List.{AllByRecursion}
use Rattle.std.proofs.Common.{◌∙◌, sym, ap, subst, arith, zero, suc}
use Rattle.std.proofs.lemmas.Bool.Decides.{nat_tests}
use Rattle.std.proofs.lemmas.List.{append-nil}
use Rattle.raft_progress_entry.specs.declared.entry.Inflight.{Inflight}
use Rattle.raft_progress_entry.specs.declared.entry.Inflight.TheVariants as inflight
use Rattle.raft_command.specs.declared.command.Command.TheVariants.{AppendInputEntries, BecomeLeader, Commit, DeleteConflictLog, PurgeLog, QuitLeader, RebuildReplicationStreams, Replicate, ReplicateCommitted, Respond, SaveVote, SendVote, StateMachine}
use Rattle.raft_command.specs.declared.replication.ReplicationSessionId.{ReplicationSessionId}
use Rattle.raft_command.specs.declared.sm.CommandPayload.TheVariants.{BuildSnapshot, GetSnapshot, BeginReceivingSnapshot, InstallFullSnapshot, Apply}
use Rattle.raft_command.specs.Queue.{popped}
use Rattle.raft_store.specs.declared.entry.Entry.{Entry}
use Rattle.raft_store.specs.Entries.{entry_meaning}
use Rattle.raft_store.specs.Store.{exec_all}
use Rattle.raft_store.specs.Store as store
use Rattle.raft_store.specs.Types.{WorldCommand, WorldPayload, EngineView}
use Rattle.raft_calls.specs.declared.message.Body.{Body}
use Rattle.raft_calls.specs.declared.message.Body.TheVariants as body
use Rattle.raft_calls.specs.declared.message.Message.{Message}
use Rattle.raft_node.specs.declared.node.Turn.{Turn}
use Rattle.raft_node.specs.Commands.{executed, next_command}
use Rattle.raft_node.specs.Execute.{Effects, exec, exec_committed, exec_payload, heartbeat, others, replication, replies, sending, to_each}
use Rattle.raft_calls.specs.Feeds.{feed}
use Rattle.raft_node.specs.InTurn.{IsReply}
use Rattle.raft_node.specs.Work.{Work, done_of, idle, is_idle, one_less, step_of, stopped, stops, weight, work_step, worked}
use Rattle.raft_calls.specs.Engines.{with_queue}
use Rattle.raft_node.proofs.Falls.{falls}

-- the command replies
abbrev pub IsRespond : WorldCommand → Type 0
IsRespond (Respond when reply) = Unit {0}
IsRespond _ = ⊥

-- messages of which only a `Respond` sends replies
abbrev pub Sendable : WorldCommand → List Message → Type 0
Sendable c ms = AllByRecursion (λ (m : Message). IsReply m.body → IsRespond c) ms

module _ {L : Type 0} where
  -- what a command leaves of the store, and what it sends
  pub record Turns (c : WorldCommand) (old new : Effects L) : Type 0 where
    pub store : new.store ≡ store.exec entry_meaning (λ es. es) c old.store
    pub sent : List Message
    pub bag : new.records.bag ≡ old.records.bag ++ sent
    pub sends : Sendable c sent

each_sendable : (c : WorldCommand) (id : ℕ) (ids : List ℕ) (b : Body) → (IsReply b → IsRespond c) → Sendable c (to_each id ids b)
each_sendable c id [] b h = tt
each_sendable c id (to ∷ ids) b h = (h, each_sendable c id ids b h)

responses_sendable : (c : WorldCommand) → IsRespond c → (ms : List Message) → Sendable c ms
responses_sendable c r [] = tt
responses_sendable c r (m ∷ ms) = (λ is. r, responses_sendable c r ms)

module _ {L : Type 0} (keep : List Entry → L) (t : Turn) (e : EngineView) where
  -- nothing is sent
  quiet : (c : WorldCommand) (old new : Effects L) → new.store ≡ store.exec entry_meaning (λ es. es) c old.store → new.records.bag ≡ old.records.bag → Turns c old new
  quiet c old new s b = record { store = s; sent = []; bag = b ∙ sym (append-nil old.records.bag); sends = tt }

  payload_turns : (seq : ℕ) (p : WorldPayload) (w : Effects L) → (let c : WorldCommand = StateMachine (record { seq = seq; payload = p }) in Turns c w (exec_payload keep t c p w))
  payload_turns seq BuildSnapshot w = quiet (StateMachine (record { seq = seq; payload = BuildSnapshot })) w _ refl refl
  payload_turns seq (GetSnapshot tx) w = quiet (StateMachine (record { seq = seq; payload = GetSnapshot tx })) w _ refl refl
  payload_turns seq (BeginReceivingSnapshot tx) w = quiet (StateMachine (record { seq = seq; payload = BeginReceivingSnapshot tx })) w _ refl refl
  payload_turns seq (InstallFullSnapshot s) w = quiet (StateMachine (record { seq = seq; payload = InstallFullSnapshot s })) w _ refl refl
  payload_turns seq (Apply es) w = quiet (StateMachine (record { seq = seq; payload = Apply es })) w _ refl refl

  unreplying : (s : ReplicationSessionId ℕ) (u : _) (f : Inflight ℕ) → IsReply (replication t s u f) → ⊥
  unreplying s u inflight.None h = h
  unreplying s u (inflight.Logs id range) h = h
  unreplying s u (inflight.Snapshot id last) h = h

  pub exec_turns : (c : WorldCommand) (w : Effects L) → Turns c w (exec keep t e c w)
  exec_turns (SaveVote v) w = quiet (SaveVote v) w _ refl refl
  exec_turns (AppendInputEntries v es) w = quiet (AppendInputEntries v es) w _ refl refl
  exec_turns (DeleteConflictLog since) w = quiet (DeleteConflictLog since) w _ refl refl
  exec_turns (PurgeLog upto) w = quiet (PurgeLog upto) w _ refl refl
  exec_turns (Commit seq already upto) w = quiet (Commit seq already upto) w _ refl refl
  exec_turns (StateMachine c) w = payload_turns c.seq c.payload w
  exec_turns (SendVote req) w = record { store = refl; sent = _; bag = refl; sends = each_sendable (SendVote req) t.id (others t.id e.machine.core.state.em.membership) (body.VoteRequest req) (λ h. h) }
  exec_turns (RebuildReplicationStreams targets) w = quiet (RebuildReplicationStreams targets) w _ refl refl
  exec_turns (Replicate target req) w = go w.streams.session_id
    where
      go : (o : Option (ReplicationSessionId ℕ)) → Turns (Replicate target req) w (elim o as (λ _. Effects L) [ None ↦ w | Some s ↦ sending (to_each t.id (target ∷ []) (replication t s w.store req)) w ])
      go None = quiet (Replicate target req) w w refl refl
      go (Some s) = record { store = refl; sent = _; bag = refl; sends = each_sendable (Replicate target req) t.id (target ∷ []) (replication t s w.store req) (unreplying s w.store req) }
  exec_turns (ReplicateCommitted x) w = go w.streams.session_id
    where
      go : (o : Option (ReplicationSessionId ℕ)) → Turns (ReplicateCommitted x) w (exec_committed keep t x (record w { streams = record w.streams { session_id = o } }))
      go None = quiet (ReplicateCommitted x) w _ refl refl
      go (Some s) = record { store = refl; sent = _; bag = refl; sends = each_sendable (ReplicateCommitted x) t.id w.streams.targets (heartbeat t s x) (λ h. h) }
  exec_turns (Respond when reply) w = record { store = refl; sent = _; bag = refl; sends = responses_sendable (Respond when reply) tt (replies t reply) }
  exec_turns BecomeLeader w = quiet BecomeLeader w _ refl refl
  exec_turns QuitLeader w = quiet QuitLeader w _ refl refl

module _ {L : Type 0} (keep : List Entry → L) (t : Turn) where
  -- a command's turn: the engine without it, the commands behind it, and the step that it makes
  pub record Next (w : Work L) (c : WorldCommand) : Type 0 where
    pub engine : EngineView
    pub rest : List WorldCommand
    pub queue : engine.machine.core.output.items ≡ rest
    pub was : EngineView
    pub runs : w.engine ≡ Some was
    pub queued : was.machine.core.output.items ≡ c ∷ rest
    pub popped : engine ≡ with_queue was (record was.machine.core.output { items = rest })
    pub step : work_step keep t w ≡ done_of keep t w engine c

  -- there is a next command, or nothing is left to do
  pub next_none : (w : Work L) → next_command w ≡ None → idle w ≡ true
  next_none w h = go w.engine refl h
    where
      empty : (e : EngineView) (cs : List WorldCommand) → (popped (record e.machine.core.output { items = cs })).0 ≡ None → nat_eq (length cs) 0 ≡ true
      empty e [] h = refl
      empty e (c ∷ cs) h = cc

      go : (o : Option EngineView) → w.engine ≡ o → (elim o as (λ _. Option WorldCommand) [ None ↦ None | Some e ↦ (popped e.machine.core.output).0 ]) ≡ None → is_idle w.engine ≡ true
      go None q k = rw q refl
      go (Some e) q k = rw q (empty e e.machine.core.output.items k)

  pub next_some : (w : Work L) (c : WorldCommand) → next_command w ≡ Some c → Next w c
  next_some w c h = go w.engine refl h
    where
      taken : (e : EngineView) → w.engine ≡ Some e → (cs : List WorldCommand) → e.machine.core.output.items ≡ cs → (popped (record e.machine.core.output { items = cs })).0 ≡ Some c → Next w c
      taken e q [] p k = cc
      taken e q (x ∷ xs) p k =
          let same : x ≡ c = cc in
          let left : EngineView = with_queue e (record e.machine.core.output { items = xs }) in
          record {
            engine = left;
            rest = xs;
            queue = refl;
            was = e;
            runs = q;
            queued = p ∙ ap (λ y. y ∷ xs) same;
            popped = refl;
            step =
                ap (λ (o : Option EngineView). elim o as (λ _. Work L) [ None ↦ w | Some e ↦ step_of keep t w e (popped e.machine.core.output) ]) q
                ∙ (ap (λ cs. step_of keep t w e (popped (record e.machine.core.output { items = cs }))) p ∙ ap (λ y. done_of keep t w left y) same);
          }

      go : (o : Option EngineView) → w.engine ≡ o → (elim o as (λ _. Option WorldCommand) [ None ↦ None | Some e ↦ (popped e.machine.core.output).0 ]) ≡ Some c → Next w c
      go None q k = cc
      go (Some e) q k = taken e q e.machine.core.output.items refl k

  pub next_busy : (w : Work L) (c : WorldCommand) → Next w c → idle w ≡ false
  next_busy w c n = ap is_idle n.runs ∙ (ap (λ (cs : List WorldCommand). nat_eq (length cs) 0) n.queued ∙ longer c n.rest)
    where
      longer : (c : WorldCommand) (cs : List WorldCommand) → nat_eq (length (c ∷ cs)) 0 ≡ false
      longer c cs = grind (arith, nat_tests)

  -- its effects, whether or not the node then stops
  done_turns : (w : Work L) (e : EngineView) (c : WorldCommand) → Turns c w.effects (done_of keep t w e c).effects
  done_turns w e c = go (stops w.left)
    where
      after : Effects L
      after = exec keep t e c w.effects

      go : (b : Bool) → Turns c w.effects (if b then stopped after else record { engine = Some (feed t.moment c e); effects = after; left = one_less w.left }).effects
      go true = let x = exec_turns keep t e c w.effects in record { store = x.store; sent = x.sent; bag = x.bag; sends = x.sends }
      go false = exec_turns keep t e c w.effects

  pub step_turns : (w : Work L) (c : WorldCommand) → Next w c → Turns c w.effects (work_step keep t w).effects
  step_turns w c n = subst (λ (x : Work L). Turns c w.effects x.effects) (sym n.step) (done_turns w n.engine c)

  -- the commands one by one
  pub worked_next : (k : ℕ) (w : Work L) (c : WorldCommand) → Next w c → worked keep (suc k) t w ≡ worked keep k t (work_step keep t w)
  unfolding worked
  worked_next k w c n = let b : idle w ≡ false = next_busy w c n in rw b refl

  pub worked_none : (k : ℕ) (w : Work L) → next_command w ≡ None → worked keep k t w ≡ w
  unfolding worked
  worked_none zero w h = refl
  worked_none (suc k) w h = let b : idle w ≡ true = next_none w h in rw b refl

  pub executed_next : (k : ℕ) (w : Work L) (c : WorldCommand) → next_command w ≡ Some c → executed keep t (suc k) w ≡ c ∷ executed keep t k (work_step keep t w)
  executed_next k w c h = rw (h, executed) refl

  pub executed_none : (k : ℕ) (w : Work L) → next_command w ≡ None → executed keep t k w ≡ []
  executed_none zero w h = refl
  executed_none (suc k) w h = rw (h, executed) refl

  -- the store after some commands
  pub worked_store : (k : ℕ) (w : Work L) → (worked keep k t w).effects.store ≡ exec_all entry_meaning (λ es. es) w.effects.store (executed keep t k w)
  unfolding worked
  worked_store zero w = refl
  worked_store (suc k) w = go (next_command w) refl (worked_store k (work_step keep t w))
    where
      go : (o : Option WorldCommand) → next_command w ≡ o
          → (worked keep k t (work_step keep t w)).effects.store ≡ exec_all entry_meaning (λ es. es) (work_step keep t w).effects.store (executed keep t k (work_step keep t w))
          → (worked keep (suc k) t w).effects.store ≡ exec_all entry_meaning (λ es. es) w.effects.store (executed keep t (suc k) w)
      go None h later =
          ap (λ (x : Work L). x.effects.store) (worked_none (suc k) w h)
          ∙ sym (ap (exec_all entry_meaning (λ es. es) w.effects.store) (executed_none (suc k) w h))
      go (Some c) h later =
          let n : Next w c = next_some w c h in
          ap (λ (x : Work L). x.effects.store) (worked_next k w c n)
          ∙ (later
          ∙ (ap (λ u. exec_all entry_meaning (λ es. es) u (executed keep t k (work_step keep t w))) (step_turns w c n).store
          ∙ sym (ap (exec_all entry_meaning (λ es. es) w.effects.store) (executed_next k w c h))))

  -- the first commands of a queue that is worked off are those that so many steps execute
  pub executed_first : (k m : ℕ) (w : Work L) → weight w ≤ m → take k (executed keep t m w) ≡ executed keep t k w
  executed_first zero m w h = refl
  executed_first (suc k) m w h = go (next_command w) refl (λ m l. executed_first k m (work_step keep t w) l)
    where
      falling : (c : WorldCommand) → next_command w ≡ Some c → weight (work_step keep t w) < weight w
      falling c q = falls keep t w (next_busy w c (next_some w c q))

      further : (m : ℕ) → weight w ≤ m → (c : WorldCommand) → next_command w ≡ Some c
          → ((m : ℕ) → weight (work_step keep t w) ≤ m → take k (executed keep t m (work_step keep t w)) ≡ executed keep t k (work_step keep t w))
          → take (suc k) (executed keep t m w) ≡ executed keep t (suc k) w
      further zero h c q rest = let f : weight (work_step keep t w) < weight w = falling c q in absurd (omega (arith, f, h))
      further (suc m) h c q rest =
          let f : weight (work_step keep t w) < weight w = falling c q in
          ap (take (suc k)) (executed_next m w c q) ∙ (ap (λ cs. c ∷ cs) (rest m (omega (arith, f, h))) ∙ sym (executed_next k w c q))

      go : (o : Option WorldCommand) → next_command w ≡ o
          → ((m : ℕ) → weight (work_step keep t w) ≤ m → take k (executed keep t m (work_step keep t w)) ≡ executed keep t k (work_step keep t w))
          → take (suc k) (executed keep t m w) ≡ executed keep t (suc k) w
      go None q rest = ap (take (suc k)) (executed_none m w q) ∙ sym (executed_none (suc k) w q)
      go (Some c) q rest = further m h c q rest

  -- and as many steps as there are commands do all of them
  pub worked_all : (m : ℕ) (w : Work L) → worked keep (length (executed keep t m w)) t w ≡ worked keep m t w
  unfolding worked
  worked_all zero w = refl
  worked_all (suc m) w = go (next_command w) refl (worked_all m (work_step keep t w))
    where
      go : (o : Option WorldCommand) → next_command w ≡ o → worked keep (length (executed keep t m (work_step keep t w))) t (work_step keep t w) ≡ worked keep m t (work_step keep t w)
          → worked keep (length (executed keep t (suc m) w)) t w ≡ worked keep (suc m) t w
      go None h rest = ap (λ (cs : List WorldCommand). worked keep (length cs) t w) (executed_none (suc m) w h) ∙ (worked_none 0 w h ∙ sym (worked_none (suc m) w h))
      go (Some c) h rest =
          let n : Next w c = next_some w c h in
          let more : length (c ∷ executed keep t m (work_step keep t w)) ≡ suc (length (executed keep t m (work_step keep t w))) = omega arith in
          ap (λ (cs : List WorldCommand). worked keep (length cs) t w) (executed_next m w c h)
          ∙ (ap (λ k. worked keep k t w) more ∙ (worked_next (length (executed keep t m (work_step keep t w))) w c n ∙ (rest ∙ sym (worked_next m w c n))))
