-- A node that leads by its stored vote sends what it has queued as it starts, in its session.
use Rattle.std.proofs.Common.{ℕ, suc, ◌+◌, ◌≡◌, ◌⊎◌, inl, inr, Bool, true, false, List, [], ◌∷◌, ◌++◌, length, arith, refl, sym, ap, ◌∙◌, subst, append-nil, Option, None, Some}
use Rattle.std.specs.Prelude.{if◌then◌else◌, nat_eq}
use Rattle.std.specs.List.{AllByRecursion}
use Rattle.std.specs.Option.{option_map}
use Rattle.std.specs.Ordering.{is_eq, nat_cmp}
use Rattle.std.proofs.lemmas.Bool.Decides.{nat_tests}
use Rattle.proof_deeds.specs.raft_state.declared.ids.LogId.{LogId}
use Rattle.proof_deeds.specs.raft_state.declared.ids.Vote.{Vote}
use Rattle.proof_deeds.specs.raft_state.declared.membership.StoredMembership.{StoredMembership}
use Rattle.proof_deeds.specs.raft_state.Order.{vote_cmp}
use Rattle.proof_deeds.proofs.raft_state_proofs.LogLists.{each_append}
use Rattle.proof_deeds.specs.raft_progress_entry.declared.entry.Inflight.{Inflight}
use Rattle.proof_deeds.specs.raft_progress_entry.declared.entry.Inflight.TheVariants as inflight
use Rattle.proof_deeds.specs.raft_error.declared.error.EngineError.{EngineError}
use Rattle.proof_deeds.specs.raft_command.declared.command.Command.TheVariants as command
use Rattle.proof_deeds.specs.raft_command.declared.replication.ReplicationSessionId.{ReplicationSessionId}
use Rattle.proof_deeds.specs.raft_command.declared.sm.CommandPayload.TheVariants as payload
use Rattle.proof_deeds.specs.raft_command.Queue.{popped}
use Rattle.proof_deeds.specs.raft_steps.Parts.{led_of, leading}
use Rattle.proof_deeds.specs.raft_steps.Refusals.{refusals_of_local_progress}
use Rattle.proof_deeds.specs.raft_steps.ReplicationHandler.{update_local_progress}
use Rattle.proof_deeds.specs.raft_store.declared.entry.Entry.{Entry}
use Rattle.proof_deeds.specs.raft_store.Types.{EngineView, WorldCandidate, WorldCommand, WorldLeader, WorldPayload, WorldStore}
use Rattle.proof_deeds.specs.raft_calls.declared.message.Body.{Body}
use Rattle.proof_deeds.specs.raft_calls.declared.message.Message.{Message}
use Rattle.proof_deeds.specs.raft_node.declared.node.Turn.{Turn}
use Rattle.proof_deeds.specs.raft_node.Events.{message_at}
use Rattle.proof_deeds.specs.raft_node.Execute.{exec, exec_payload, replicate_committed, replication, sending, to_each}
use Rattle.proof_deeds.specs.raft_calls.Feeds.{last_sent, WorldLed, asks_itself, called, feed, grant_own, hold_own}
use Rattle.proof_deeds.specs.raft_calls.Deliveries.{session_of}
use Rattle.proof_deeds.specs.raft_node.Runs.{whole_logs}
use Rattle.proof_deeds.specs.raft_node.Work.{Work, step_of, weight, work_step, worked}
use Rattle.proof_deeds.specs.raft_calls.Engines.{with_queue}
use Rattle.proof_deeds.proofs.raft_node_proofs.Worked.{worked-keeps, worked-step}
use Rattle.proof_progress.specs.Choices.{AsksFirst, IsRequestTo}
use Rattle.proof_progress.proofs.Campaigns.{message_last, message_stays}
use Rattle.proof_progress.proofs.Deposed.{AsksIn}
use Rattle.proof_progress.proofs.KeptVotes.{KeepsCore, Stays, local_keeps}
use Rattle.proof_progress.proofs.LeaderStarts.{LeadsAtOnce}
use Rattle.proof_progress.proofs.Leading.{local_vote, parts}
use Rattle.proof_progress.proofs.Works.{Effected, at_work}

-- a request of a session was sent from one node to another
pub record Asked (bag : List Message) (n h : ℕ) (s : ReplicationSessionId ℕ) : Type 0 where
  pub number : ℕ
  pub body : Body
  pub is : message_at bag number ≡ Some (record { from = n; to = h; body = body })
  pub asks : AsksIn s body

replication_asks : (t : Turn) (s : ReplicationSessionId ℕ) (u : WorldStore) (f : Inflight ℕ) → AsksIn s (replication t s u f)
replication_asks t s u inflight.None = refl
replication_asks t s u (inflight.Logs id range) = refl
replication_asks t s u (inflight.Snapshot id last) = refl

module _ (h : ℕ) (s : ReplicationSessionId ℕ) (t : Turn) where
  asked_more : (bag ms : List Message) → Asked bag t.id h s → Asked (bag ++ ms) t.id h s
  asked_more bag ms a = record { number = a.number; body = a.body; is = message_stays bag ms a.number _ a.is; asks = a.asks }

  -- what a command leaves of the streams, and of what was sent
  module _ (e : EngineView) (session : session_of e ≡ Some s) (E : Effected) (streams : E.streams.session_id ≡ Some s) where
    exec_streams : (c : WorldCommand) → Stays c → (exec whole_logs t e c E).streams.session_id ≡ Some s
    exec_streams (command.SaveVote v) k = streams
    exec_streams (command.AppendInputEntries v es) k = streams
    exec_streams (command.DeleteConflictLog since) k = streams
    exec_streams (command.PurgeLog upto) k = streams
    exec_streams (command.Commit seq already upto) k = streams
    exec_streams (command.StateMachine c) k = go c.payload
      where
        ids : Effected → Option (ReplicationSessionId ℕ)
        ids F = F.streams.session_id

        go : (p : WorldPayload) → ids (exec_payload whole_logs t (command.StateMachine c) p E) ≡ Some s
        go payload.BuildSnapshot = streams
        go (payload.GetSnapshot x) = streams
        go (payload.BeginReceivingSnapshot x) = streams
        go (payload.InstallFullSnapshot x) = streams
        go (payload.Apply x) = streams
    exec_streams (command.SendVote req) k = streams
    exec_streams (command.RebuildReplicationStreams targets) k = session
    exec_streams (command.Replicate target req) k = rw streams refl
    exec_streams (command.ReplicateCommitted committed) k = rw streams refl
    exec_streams (command.Respond when reply) k = streams
    exec_streams command.BecomeLeader k = streams
    exec_streams command.QuitLeader k = absurd k

    exec_asked : (c : WorldCommand) → Asked E.records.bag t.id h s → Asked (exec whole_logs t e c E).records.bag t.id h s
    exec_asked (command.SaveVote v) a = a
    exec_asked (command.AppendInputEntries v es) a = a
    exec_asked (command.DeleteConflictLog since) a = a
    exec_asked (command.PurgeLog upto) a = a
    exec_asked (command.Commit seq already upto) a = a
    exec_asked (command.StateMachine c) a = go c.payload
      where
        go : (p : WorldPayload) → Asked (exec_payload whole_logs t (command.StateMachine c) p E).records.bag t.id h s
        go payload.BuildSnapshot = a
        go (payload.GetSnapshot x) = a
        go (payload.BeginReceivingSnapshot x) = a
        go (payload.InstallFullSnapshot x) = a
        go (payload.Apply x) = a
    exec_asked (command.SendVote req) a = asked_more E.records.bag _ a
    exec_asked (command.RebuildReplicationStreams targets) a = a
    exec_asked (command.Replicate target req) a = go E.streams.session_id
      where
        go : (o : Option (ReplicationSessionId ℕ)) → Asked (elim o as (λ _. Effected) [ None ↦ E | Some q ↦ sending (to_each t.id (target ∷ []) (replication t q E.store req)) E ]).records.bag t.id h s
        go None = a
        go (Some q) = asked_more E.records.bag _ a
    exec_asked (command.ReplicateCommitted committed) a = go E.streams.session_id
      where
        go : (o : Option (ReplicationSessionId ℕ)) → Asked (elim o as (λ _. Effected) [ None ↦ E | Some q ↦ replicate_committed whole_logs t committed q E ]).records.bag t.id h s
        go None = a
        go (Some q) = asked_more E.records.bag _ a
    exec_asked (command.Respond when reply) a = asked_more E.records.bag _ a
    exec_asked command.BecomeLeader a = a
    exec_asked command.QuitLeader a = a

    -- a request is sent
    exec_asks : (c : WorldCommand) → IsRequestTo h c → Asked (exec whole_logs t e c E).records.bag t.id h s
    exec_asks (command.Replicate target req) q =
        rw streams
        (record {
          number = length E.records.bag + 1;
          body = replication t s E.store req;
          is = message_last E.records.bag (record { from = t.id; to = target; body = replication t s E.store req }) [] ∙ ap (λ k. let z : Option Message = Some (record { from = t.id; to = k; body = replication t s E.store req }) in z) q;
          asks = replication_asks t s E.store req;
        })
    exec_asks (command.SaveVote v) q = absurd q
    exec_asks (command.AppendInputEntries v es) q = absurd q
    exec_asks (command.DeleteConflictLog since) q = absurd q
    exec_asks (command.PurgeLog upto) q = absurd q
    exec_asks (command.Commit seq already upto) q = absurd q
    exec_asks (command.StateMachine c) q = absurd q
    exec_asks (command.SendVote req) q = absurd q
    exec_asks (command.RebuildReplicationStreams targets) q = absurd q
    exec_asks (command.ReplicateCommitted committed) q = absurd q
    exec_asks (command.Respond when reply) q = absurd q
    exec_asks command.BecomeLeader q = absurd q
    exec_asks command.QuitLeader q = absurd q

  -- what is fed back leaves the session, and queues at most commands that leave the streams
  pub record InSession (e : EngineView) : Type 0 where
    pub session : session_of e ≡ Some s
    pub alone : e.machine.candidate ≡ None

  pub record FedOn (e f : EngineView) : Type 0 where
    pub in_session : InSession f
    pub more : List WorldCommand
    pub items : f.machine.core.output.items ≡ e.machine.core.output.items ++ more
    pub stays : AllByRecursion Stays more

  module _ (e : EngineView) (i : InSession e) where
    unfed : FedOn e e
    unfed = record { in_session = i; more = []; items = sym (append-nil e.machine.core.output.items); stays = tt }

    held_on : (x : Option (LogId ℕ)) (l : WorldLeader) → e.machine.leader ≡ Some l → FedOn e (hold_own x l e)
    held_on x l q = go (refusals_of_local_progress nat_cmp e.config x (led_of l e.machine.core.state e.machine.core.output))
      where
        led : WorldLed
        led = led_of l e.machine.core.state e.machine.core.output

        of_leader : Option WorldLeader → Option (ReplicationSessionId ℕ)
        of_leader o = option_map (λ (l : WorldLeader). record { vote = l.vote; membership_log_id = e.machine.core.state.em.log_id }) o

        go : (r : Option (EngineError ℕ (Unit {0}))) → FedOn e (called r e (leading e.machine (update_local_progress nat_cmp e.config x (led_of l e.machine.core.state e.machine.core.output))))
        go None =
            let k : KeepsCore led.core (update_local_progress nat_cmp e.config x led).core = local_keeps e.config x led in
            record {
              in_session = record {
                session =
                    ap (λ (v : Vote ℕ). let z : Option (ReplicationSessionId ℕ) = Some (record { vote = v; membership_log_id = (update_local_progress nat_cmp e.config x led).core.state.em.log_id }) in z) (local_vote e.config x led)
                    ∙ (ap (λ (m : StoredMembership ℕ (Unit {0})). let z : Option (ReplicationSessionId ℕ) = Some (record { vote = l.vote; membership_log_id = m.log_id }) in z) k.state.em
                    ∙ (sym (ap of_leader q) ∙ i.session));
                alone = i.alone;
              };
              more = k.more;
              items = k.items;
              stays = k.stays;
            }
        go (Some r) = unfed

    fed_on : (now : ℕ) (c : WorldCommand) → FedOn e (feed now c e)
    fed_on now (command.SaveVote v) = go e.machine.candidate i.alone
      where
        go : (o : Option WorldCandidate) → o ≡ None → FedOn e (elim o as (λ _. EngineView) [ None ↦ e | Some c ↦ (if asks_itself v c e then grant_own now v e else e) ])
        go None q = unfed
        go (Some c) q = cc
    fed_on now (command.AppendInputEntries v es) = go e.machine.leader refl
      where
        of : (b : Bool) (l : WorldLeader) → e.machine.leader ≡ Some l → FedOn e (if b then hold_own (last_sent None es) l e else e)
        of true l q = held_on (last_sent None es) l q
        of false l q = unfed

        go : (o : Option WorldLeader) → e.machine.leader ≡ o → FedOn e (elim o as (λ _. EngineView) [ None ↦ e | Some l ↦ (if is_eq (vote_cmp nat_cmp l.vote v) then hold_own (last_sent None es) l e else e) ])
        go None q = unfed
        go (Some l) q = of (is_eq (vote_cmp nat_cmp l.vote v)) l q
    fed_on now (command.DeleteConflictLog since) = unfed
    fed_on now (command.PurgeLog upto) = unfed
    fed_on now (command.Commit seq already upto) = unfed
    fed_on now (command.StateMachine c) = unfed
    fed_on now (command.SendVote req) = unfed
    fed_on now (command.RebuildReplicationStreams targets) = unfed
    fed_on now (command.Replicate target req) = unfed
    fed_on now (command.ReplicateCommitted committed) = unfed
    fed_on now (command.Respond when reply) = unfed
    fed_on now command.BecomeLeader = unfed
    fed_on now command.QuitLeader = unfed

  asks_more : (cs more : List WorldCommand) → AsksFirst h cs → AsksFirst h (cs ++ more)
  asks_more [] more a = absurd a
  asks_more (c ∷ cs) more (inl q) = inl q
  asks_more (c ∷ cs) more (inr q) = inr (asks_more cs more q)

  -- a node at work that leads in the session, and has sent the request or has it queued
  pub record SendsOn (w : Work (List Entry)) : Type 0 where
    pub engine : EngineView
    pub runs : w.engine ≡ Some engine
    pub in_session : InSession engine
    pub left : w.left ≡ None
    pub streams : w.effects.streams.session_id ≡ Some s
    pub stays : AllByRecursion Stays engine.machine.core.output.items
    pub asks : Asked w.effects.records.bag t.id h s ⊎ AsksFirst h engine.machine.core.output.items

  step_at : (e : EngineView) (E : Effected) → InSession e → E.streams.session_id ≡ Some s → AllByRecursion Stays e.machine.core.output.items → Asked E.records.bag t.id h s ⊎ AsksFirst h e.machine.core.output.items
      → SendsOn (work_step whole_logs t (at_work e E))
  step_at e E i st k a = of e.machine.core.output.items k a k
    where
      of : (cs : List WorldCommand) → AllByRecursion Stays cs → Asked E.records.bag t.id h s ⊎ AsksFirst h cs → AllByRecursion Stays e.machine.core.output.items → SendsOn (step_of whole_logs t (at_work e E) e (popped (record e.machine.core.output { items = cs })))
      of [] k (inl a) all = record { engine = e; runs = refl; in_session = i; left = refl; streams = st; stays = all; asks = inl a }
      of [] k (inr a) all = absurd a
      of (c ∷ cs) k a all =
          let q : EngineView = with_queue e (record e.machine.core.output { items = cs }) in
          let j : InSession q = record { session = i.session; alone = i.alone } in
          let f : FedOn q (feed t.moment c q) = fed_on q j t.moment c in
          record {
            engine = feed t.moment c q;
            runs = refl;
            in_session = f.in_session;
            left = refl;
            streams = exec_streams q i.session E st c k.0;
            stays = subst (AllByRecursion Stays) (sym f.items) (each_append Stays cs f.more k.1 f.stays);
            asks = after a;
          }
        where
          qu : EngineView
          qu = with_queue e (record e.machine.core.output { items = cs })

          after : Asked E.records.bag t.id h s ⊎ AsksFirst h (c ∷ cs) → Asked (exec whole_logs t qu c E).records.bag t.id h s ⊎ AsksFirst h (feed t.moment c qu).machine.core.output.items
          after (inl b) = inl (exec_asked qu i.session E st c b)
          after (inr (inl b)) = inl (exec_asks qu i.session E st c b)
          after (inr (inr b)) =
              let f : FedOn qu (feed t.moment c qu) = fed_on qu (record { session = i.session; alone = i.alone }) t.moment c in
              inr (subst (AsksFirst h) (sym f.items) (asks_more cs f.more b))

  step_sends : (w : Work (List Entry)) → SendsOn w → SendsOn (work_step whole_logs t w)
  step_sends w x =
      subst (λ (u : Work (List Entry)). SendsOn (work_step whole_logs t u))
      (sym (ap (λ (o : Option EngineView). let u : Work (List Entry) = record { engine = o; effects = w.effects; left = w.left } in u) x.runs ∙ ap (λ (o : Option ℕ). let u : Work (List Entry) = record { engine = Some x.engine; effects = w.effects; left = o } in u) x.left))
      (step_at x.engine w.effects x.in_session x.streams x.stays x.asks)

  pub sends_on : (fuel : ℕ) (w : Work (List Entry)) → SendsOn w → SendsOn (worked whole_logs fuel t w)
  sends_on fuel w x = worked-keeps whole_logs t SendsOn fuel (λ w _ k. step_sends w k) w x

-- a node that leads at once has this session
abbrev pub session_at : (v : Vote ℕ) (e : EngineView) → LeadsAtOnce v e → ReplicationSessionId ℕ
session_at v e l = record { vote = l.leader.vote; membership_log_id = e.machine.core.state.em.log_id }

module _ (v : Vote ℕ) (t : Turn) (E : Effected) (h : ℕ) where
  busy : (n : ℕ) → nat_eq (suc n) 0 ≡ false
  busy n = grind (arith, nat_tests)

  begins_sending : (e : EngineView) (l : WorldLeader) (streams : _) (more : List WorldCommand) → AllByRecursion Stays more → AsksFirst h more
      → SendsOn h (record { vote = l.vote; membership_log_id = e.machine.core.state.em.log_id }) t
      (worked whole_logs (weight (at_work (parts v t E e (command.BecomeLeader ∷ command.RebuildReplicationStreams streams ∷ more) (Some l) None v) E)) t (at_work (parts v t E e (command.BecomeLeader ∷ command.RebuildReplicationStreams streams ∷ more) (Some l) None v) E))
  begins_sending e l streams more k a =
      let w0 : Work (List Entry) = at_work (parts v t E e (command.BecomeLeader ∷ command.RebuildReplicationStreams streams ∷ more) (Some l) None v) E in
      let w1 : Work (List Entry) = work_step whole_logs t w0 in
      let w2 : Work (List Entry) = work_step whole_logs t w1 in
      subst (λ (u : Work (List Entry)). SendsOn h (record { vote = l.vote; membership_log_id = e.machine.core.state.em.log_id }) t u) (worked-step whole_logs t w1 (busy (length more)) ∙ worked-step whole_logs t w0 (busy (suc (length more))))
      (sends_on h (record { vote = l.vote; membership_log_id = e.machine.core.state.em.log_id }) t (weight w2) w2
      (record { engine = _; runs = refl; in_session = record { session = refl; alone = refl }; left = refl; streams = refl; stays = k; asks = inr a }))

  pub starts_sending : (e : EngineView) (l : LeadsAtOnce v e) → e.machine.candidate ≡ None → e.machine.core.state.vote ≡ v → AsksFirst h e.machine.core.output.items → SendsOn h (session_at v e l) t (worked whole_logs (weight (at_work e E)) t (at_work e E))
  starts_sending e l alone vote a =
      subst (λ (f : EngineView). SendsOn h (session_at v e l) t (worked whole_logs (weight (at_work f E)) t (at_work f E)))
      (sym (ap (λ cs. parts v t E e cs e.machine.leader e.machine.candidate e.machine.core.state.vote) l.items
      ∙ (ap (λ k. parts v t E e (command.BecomeLeader ∷ command.RebuildReplicationStreams l.streams ∷ l.more) k e.machine.candidate e.machine.core.state.vote) l.leads
      ∙ (ap (λ c. parts v t E e (command.BecomeLeader ∷ command.RebuildReplicationStreams l.streams ∷ l.more) (Some l.leader) c e.machine.core.state.vote) alone
      ∙ ap (λ w. parts v t E e (command.BecomeLeader ∷ command.RebuildReplicationStreams l.streams ∷ l.more) (Some l.leader) None w) vote))))
      (begins_sending e l.leader l.streams l.more l.stays (past_two (subst (AsksFirst h) l.items a)))
    where
      past_two : AsksFirst h (command.BecomeLeader ∷ command.RebuildReplicationStreams l.streams ∷ l.more) → AsksFirst h l.more
      past_two (inl q) = absurd q
      past_two (inr (inl q)) = absurd q
      past_two (inr (inr q)) = q
