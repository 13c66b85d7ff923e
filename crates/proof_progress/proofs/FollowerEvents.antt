-- In a world a node takes a request for entries: the answer is on its way, the node follows, and all others stay.
use Rattle.std.proofs.Common.{ℕ, suc, ◌+◌, ◌-◌, ◌<◌, ◌≡◌, ◌≢◌, ◌⊎◌, inl, inr, true, false, List, [], ◌∷◌, ◌++◌, length, map, arith, refl, sym, ap, ◌∙◌, subst, Option, None, Some}
use Rattle.std.specs.Prelude.{◌^◌, is_some, nat_le, slice_get}
use Rattle.std.specs.List.{list_any}
use Rattle.std.specs.Option.{option_map, option_to_list}
use Rattle.std.specs.Ordering.{is_eq, is_le, nat_cmp}
use Rattle.std.proofs.lemmas.Bool.Decides.{nat_tests}
use Rattle.std.proofs.lemmas.Cmp.{nat_cmp_total}
use Rattle.proof_deeds.specs.raft_state.declared.ids.LogId.{LogId}
use Rattle.proof_deeds.specs.raft_state.declared.ids.Vote.{Vote}
use Rattle.proof_deeds.specs.raft_state.LogLaws.{IsRun}
use Rattle.proof_deeds.specs.raft_state.Log.{last}
use Rattle.proof_deeds.specs.raft_state.Order.{last_id_cmp, next}
use Rattle.proof_deeds.specs.raft_state.Same.{nat_same}
use Rattle.proof_deeds.specs.raft_state.State.{accepted, has_log_id}
use Rattle.proof_deeds.proofs.raft_state_proofs.Orders.{last_total, le_trans}
use Rattle.proof_deeds.specs.raft_command.declared.command.Command.TheVariants.{Respond}
use Rattle.proof_deeds.specs.raft_command.declared.message.AppendEntriesResponse.{AppendEntriesResponse}
use Rattle.proof_deeds.specs.raft_command.declared.message.AppendEntriesResponse.TheVariants.{Conflict, Success}
use Rattle.proof_deeds.specs.raft_command.declared.respond.Respond.TheVariants as respond
use Rattle.proof_deeds.specs.raft_command.Message.{append_response}
use Rattle.proof_deeds.specs.raft_proposer.Joint.{u64_max}
use Rattle.proof_deeds.specs.raft_steps.Laws.{later}
use Rattle.proof_deeds.specs.raft_steps.Refusals.{is_at_end}
use Rattle.proof_deeds.specs.raft_steps.Requests.{append_answer}
use Rattle.proof_deeds.specs.raft_steps.VoteHandler.{rejects_vote}
use Rattle.proof_deeds.specs.raft_store.declared.entry.Entry.{Entry}
use Rattle.proof_deeds.specs.raft_store.Entries.{entry_meaning}
use Rattle.proof_deeds.specs.raft_store.Types.{EngineView, WorldCommand}
use Rattle.proof_deeds.specs.raft_schedule.declared.event.Event.{Event}
use Rattle.proof_deeds.specs.raft_schedule.declared.event.SkipReason.{SkipReason}
use Rattle.proof_deeds.specs.raft_schedule.declared.event.SkipReason.TheVariants.{NotRunning}
use Rattle.proof_deeds.specs.raft_node.declared.act.Act.TheVariants.{Take}
use Rattle.proof_deeds.specs.raft_node.declared.act.Aim.{Aim}
use Rattle.proof_deeds.specs.raft_node.declared.given.Given.{Given}
use Rattle.proof_deeds.specs.raft_calls.declared.message.Body.TheVariants as body
use Rattle.proof_deeds.specs.raft_calls.declared.message.Message.{Message}
use Rattle.proof_deeds.specs.raft_calls.declared.message.Origin.{Origin}
use Rattle.proof_deeds.specs.raft_node.declared.node.Turn.{Turn}
use Rattle.proof_deeds.specs.raft_calls.Deliveries.{deliver as delivered, reply_token, take_append}
use Rattle.proof_deeds.specs.raft_node.Events.{happens, message_at}
use Rattle.proof_deeds.specs.raft_calls.Feeds.{last_sent}
use Rattle.proof_deeds.specs.raft_node.Execute.{sending}
use Rattle.proof_deeds.specs.raft_node.Net.{Net, NodeView, Records}
use Rattle.proof_deeds.specs.raft_node.Runs.{whole_logs, world_after}
use Rattle.proof_deeds.specs.raft_node.WellFormed.{IsWellFormed}
use Rattle.proof_deeds.specs.raft_node.Work.{weight, worked}
use Rattle.proof_deeds.specs.Follows.{AppendSent}
use Rattle.proof_deeds.specs.Images.{setup_of}
use Rattle.proof_deeds.specs.Nets.{EngineFollows}
use Rattle.proof_deeds.proofs.PlainRefusals.{nodes_apart}
use Rattle.proof_deeds.proofs.Proved.{followed}
use Rattle.proof_progress.specs.Continuations.{At, deliver}
use Rattle.proof_progress.specs.Exchanges.{FollowsAt, MayTake}
use Rattle.proof_progress.proofs.Answering.{request_answered}
use Rattle.proof_progress.proofs.Campaigns.{at_id, message_last}
use Rattle.proof_progress.proofs.Carried.{last_then}
use Rattle.proof_progress.proofs.Exchanging.{append_sent, engine_follows, ids_below, taken_plain}
use Rattle.proof_progress.proofs.FollowerActs.{After, after}
use Rattle.proof_progress.proofs.Matches.{later_new, later_old}
use Rattle.proof_progress.proofs.Numbers.{drawn, far_off, unled_left}
use Rattle.proof_progress.proofs.Places.{Changed, changes}
use Rattle.proof_progress.proofs.Plays.{latest, node_after, plays, work_begins}
use Rattle.proof_progress.proofs.Taking.{conflict_lacks}
use Rattle.proof_progress.proofs.Works.{Effected, at_work, queueing}
use Rattle.proof_progress.proofs.WorksOff.{all_feed, bag_grows, exec_both, exec_each, message_stays, none_sent, still_feeds, works_off}

-- a request's last id has the index after its entries
sent_end : (prev : Option (LogId ℕ)) (es : List Entry) → IsRun (next prev) (map (λ (x : Entry). x.log_id) es) → next (last_sent prev es) ≡ next prev + length (map (λ (x : Entry). x.log_id) es)
sent_end prev [] r = omega arith
sent_end prev (x ∷ xs) r =
    let e : x.log_id.index ≡ next prev = r.0 in
    let k : next (last_sent (Some x.log_id) xs) ≡ next (Some x.log_id) + length (map (λ (x : Entry). x.log_id) xs) = sent_end (Some x.log_id) xs (subst (λ i. IsRun (i + 1) (map (λ (x : Entry). x.log_id) xs)) (sym e) r.1) in
    ap next (last_then prev x xs) ∙ omega (arith, k, e)

-- with entries, that is the id of the last
pub last_of_sent : (prev : Option (LogId ℕ)) (x : Entry) (xs : List Entry) → last_sent prev (x ∷ xs) ≡ last (map (λ (x : Entry). x.log_id) (x ∷ xs))
last_of_sent prev x [] = refl
last_of_sent prev x (y ∷ ys) = last_then prev x (y ∷ ys) ∙ (last_of_sent (Some x.log_id) y ys ∙ sym (last_more x.log_id y.log_id (map (λ (x : Entry). x.log_id) ys)))
  where
    last_more : (a b : LogId ℕ) (cs : List (LogId ℕ)) → last (a ∷ b ∷ cs) ≡ last (b ∷ cs)
    last_more a b cs = ap (slice_get (a ∷ b ∷ cs)) (past (length cs)) ∙ sym (ap (slice_get (b ∷ cs)) (here (length cs)))
      where
        past : (k : ℕ) → suc (suc k) - 1 ≡ suc k
        past k = omega arith

        here : (k : ℕ) → suc k - 1 ≡ k
        here k = omega arith

sent_later : (prev : Option (LogId ℕ)) (es : List Entry) → is_le (last_id_cmp nat_cmp (last_sent prev es) (later nat_cmp prev (last (map (λ (x : Entry). x.log_id) es)))) ≡ true
sent_later prev [] = later_old nat_cmp nat_cmp_total nat_same prev None
sent_later prev (x ∷ xs) =
    subst (λ o. is_le (last_id_cmp nat_cmp o (later nat_cmp prev (last (map (λ (x : Entry). x.log_id) (x ∷ xs))))) ≡ true) (sym (last_of_sent prev x xs)) (later_new nat_cmp nat_cmp_total nat_same prev (last (map (λ (x : Entry). x.log_id) (x ∷ xs))))

module _ (given : Given) (wf : IsWellFormed given) (past : List Event) (now n t : ℕ) (v : Vote ℕ) (left : ℕ) (f : MayTake (world_after given past) now v (left + 2) t) (k : ℕ) (o : Origin) (prev : Option (LogId ℕ)) (es : List Entry) (told : Option (LogId ℕ))
    (there : message_at (world_after given past).records.bag k ≡ Some (record { from = n; to = t; body = body.AppendRequest o prev es told })) (vote : o.session_id.vote ≡ v) (end : next (last_sent prev es) < 2 ^ 64) where
  abbrev net : Net (List Entry)
  net = world_after given past

  abbrev pub net1 : Net (List Entry)
  net1 = (happens whole_logs weight given (deliver k now) (world_after given past)).1

  abbrev msg : Message
  msg = record { from = n; to = t; body = body.AppendRequest o prev es told }

  pub request : AppendSent (setup_of given.membership) t o prev es told (followed given wf past).world
  request = append_sent given wf past t f.node f.at f.engine f.runs k n now o prev es told there

  pub follows : EngineFollows (setup_of given.membership) f.node (followed given wf past).world f.engine
  follows = engine_follows given wf past t f.node f.at f.engine f.runs

  pub low : rejects_vote nat_cmp f.engine.machine.core.state o.session_id.vote ≡ false
  low = subst (λ w. rejects_vote nat_cmp f.engine.machine.core.state w ≡ false) (sym vote) f.low

  pub other : is_eq (nat_cmp o.session_id.vote.leader_id.node_id f.engine.config.id) ≡ false
  other = nodes_apart o.session_id.vote.leader_id.node_id f.engine.config.id (λ e. request.leaders.away (e ∙ (follows.id ∙ at_id (world_after given past).nodes t f.node f.at)))

  pub below : list_any is_at_end (option_to_list prev ++ map (λ (x : Entry). x.log_id) es) ≡ false
  below = go prev request.run (subst (λ i. i < 2 ^ 64) (sent_end prev es request.run) end)
    where
      first : (i k : ℕ) → (i + 1) + k < 2 ^ 64 → nat_le 18446744073709551615 i ≡ false
      first i k h = let l : i < 18446744073709551615 = omega (arith, h) in grind (arith, nat_tests)

      go : (p : Option (LogId ℕ)) → IsRun (next p) (map (λ (x : Entry). x.log_id) es) → next p + length (map (λ (x : Entry). x.log_id) es) < 2 ^ 64 → list_any is_at_end (option_to_list p ++ map (λ (x : Entry). x.log_id) es) ≡ false
      go None r h = ids_below 0 (map (λ (x : Entry). x.log_id) es) r h
      go (Some p) r h = let t : nat_le 18446744073709551615 p.index ≡ false = first p.index (length (map (λ (x : Entry). x.log_id) es)) h in rw t (ids_below (p.index + 1) (map (λ (x : Entry). x.log_id) es) r h)

  abbrev pub response : AppendEntriesResponse ℕ
  response = append_response (append_answer nat_cmp entry_meaning f.engine.config o.session_id.vote prev now f.engine.machine)

  pub taken : After f.engine o.session_id.vote prev es told now f.unspent (far_off (left + 2) f.engine.machine f.numbers) low request.leaders.committed other below (taken_plain given wf past t f.node f.at f.engine f.runs k n now o prev es told there)
  taken = after f.engine o.session_id.vote prev es told now f.unspent (far_off (left + 2) f.engine.machine f.numbers) low request.leaders.committed other below (taken_plain given wf past t f.node f.at f.engine f.runs k n now o prev es told there)

  -- what it answers: success, or a conflict at an id that it doesn't have
  pub answers : (response ≡ Success) ⊎ ((x : LogId ℕ) × (prev ≡ Some x) × (response ≡ Conflict) × (has_log_id nat_cmp f.engine.machine.core.state x ≡ false))
  answers = go prev refl (request_answered nat_cmp nat_cmp_total nat_same f.engine.config entry_meaning o.session_id.vote prev now f.engine.machine low)
    where
      go : (p : Option (LogId ℕ)) → prev ≡ p → (response ≡ Success) ⊎ ((is_some prev ≡ true) × (response ≡ Conflict)) → (response ≡ Success) ⊎ ((x : LogId ℕ) × (prev ≡ Some x) × (response ≡ Conflict) × (has_log_id nat_cmp f.engine.machine.core.state x ≡ false))
      go p e (inl s) = inl s
      go None e (inr c) = let z : is_some prev ≡ false = ap is_some e in let w : true ≡ false = sym c.0 ∙ z in cc
      go (Some x) e (inr c) =
          inr (x, e, c.1, conflict_lacks f.engine.config o.session_id.vote x now f.engine.machine low other (subst (λ p. append_response (append_answer nat_cmp entry_meaning f.engine.config o.session_id.vote p now f.engine.machine) ≡ Conflict) e c.1))

  abbrev pub turn : Turn
  turn = record { id = f.node.id; moment = now; request = Some msg }

  abbrev pub reply : WorldCommand
  reply = Respond None (respond.AppendEntries (record { value = response; token = reply_token }))

  abbrev pub cs : List WorldCommand
  cs = taken.before ++ reply ∷ taken.behind

  abbrev pub answering : List WorldCommand → EngineView
  answering xs = queueing taken.engine xs

  abbrev pub done : Effected
  done = exec_each turn (answering []) cs (work_begins f.node net.records)

  abbrev pub node : NodeView
  node = node_after f.node now (answering []) done

  works : worked whole_logs (weight (at_work (answering cs) (work_begins f.node net.records))) turn (at_work (answering cs) (work_begins f.node net.records)) ≡ at_work (answering []) done
  works = works_off turn (answering []) cs (work_begins f.node net.records) (all_feed now (answering []) (still_feeds now (answering []) taken.leader taken.candidate) cs)

  call : ◌≡◌ {A = Option ℕ × EngineView} (take_append o.session_id.vote prev es told now f.engine) (None, answering cs)
  call = taken.call ∙ ap (λ (xs : List WorldCommand). let x : Option ℕ × EngineView = (None, answering xs) in x) taken.items

  pub changed : Changed net net1 t node done.records
  changed =
      changes given net (deliver k now) t (Take msg) f.node _ (record { node = node; records = done.records }) f.at
      (ap (λ (o : Option Message). let z : Option Aim = option_map (λ (m : Message). record { id = m.to; act = Take m }) o in z) there)
      (plays given (Take msg) (deliver k now) (λ k e. delivered n (body.AppendRequest o prev es told) k e) f.node net.records now f.engine (answering cs) (answering []) done (λ n. refl) (λ n. refl) f.runs
      (running f.node.engine f.runs) (latest now f.node.moment f.moment) refl call works)
      (at_id net.nodes t f.node f.at)
    where
      running : (p : Option EngineView) → p ≡ Some f.engine → ◌≡◌ {A = Option SkipReason} (elim p [ None ↦ Some NotRunning | Some e ↦ None ]) None
      running None e = cc
      running (Some e) z = refl

  -- the answer is on its way, as the last message
  pub replied : message_at net1.records.bag (length net1.records.bag) ≡ Some (record { from = t; to = n; body = body.AppendReply o response prev (last_sent prev es) })
  replied =
      let E1 : Effected = exec_each turn (answering []) taken.before (work_begins f.node net.records) in
      let m : Message = record { from = f.node.id; to = n; body = body.AppendReply o response prev (last_sent prev es) } in
      let E2 : Effected = sending (record { from = f.node.id; to = n; body = body.AppendReply o response prev (last_sent prev es) } ∷ []) E1 in
      let bag : net1.records.bag ≡ E1.records.bag ++ record { from = f.node.id; to = n; body = body.AppendReply o response prev (last_sent prev es) } ∷ [] =
      ap (λ (r : Records (List Entry)). r.bag) changed.records
      ∙ (ap (λ (E : Effected). E.records.bag) (exec_both turn (answering []) taken.before (reply ∷ taken.behind) (work_begins f.node net.records)) ∙ none_sent turn (answering []) taken.behind taken.silent E2) in
      subst (λ (b : List Message). message_at b (length b) ≡ Some (record { from = t; to = n; body = body.AppendReply o response prev (last_sent prev es) })) (sym bag)
      (ap (message_at (E1.records.bag ++ m ∷ [])) (one_longer E1.records.bag m)
      ∙ (message_last E1.records.bag m []
      ∙ ap (λ i. let z : Option Message = Some (record { from = i; to = n; body = body.AppendReply o response prev (last_sent prev es) }) in z) (at_id net.nodes t f.node f.at)))
    where
      one_longer : (b : List Message) (m : Message) → length (b ++ m ∷ []) ≡ length b + 1
      one_longer [] m = refl
      one_longer (x ∷ b) m = let h = one_longer b m in omega (arith, h)

  -- messages stay on their way
  pub bag_then : (j : ℕ) (m : Message) → message_at net.records.bag j ≡ Some m → message_at net1.records.bag j ≡ Some m
  bag_then j m q =
      let g = bag_grows turn (answering []) cs (work_begins f.node net.records) in
      ap (λ (r : Records (List Entry)). message_at r.bag j) changed.records ∙ (ap (λ (b : List Message). message_at b j) g.1 ∙ message_stays net.records.bag g.0 j m q)

  pub others : (j : ℕ) (K : NodeView) → j ≢ t → At (world_after given past).nodes j K → At net1.nodes j K
  others = changed.others

  pub follows_then : FollowsAt net1 now v left t
  follows_then = record {
    node = node;
    at = changed.here;
    moment = omega arith;
    engine = answering [];
    runs = refl;
    unspent = taken.spent;
    numbers = unled_left left (answering []).machine taken.leader (drawn f.engine.machine.core.output.seq taken.engine.machine.core.output.seq left 2 (u64_max - 8) f.numbers.0 taken.seq);
    vote = taken.vote ∙ vote;
  }

  -- with a conflict what is committed stays
  pub keeps_then : response ≡ Conflict → follows_then.engine.machine.core.state.committed ≡ f.engine.machine.core.state.committed
  unfolding follows_then taken
  keeps_then h = taken.keeps h

  -- and what it had accepted before is committed, as far as the leader says so
  pub commits_then : f.engine.machine.core.state.vote ≡ o.session_id.vote → response ≡ Success → is_le (last_id_cmp nat_cmp told (accepted nat_cmp f.engine.machine.core.state)) ≡ true
      → is_le (last_id_cmp nat_cmp told follows_then.engine.machine.core.state.committed) ≡ true
  unfolding follows_then taken
  commits_then same s h = taken.commits same s h

  -- after success all is accepted that the request carried
  pub accepts_then : response ≡ Success → is_le (last_id_cmp nat_cmp (last_sent prev es) (accepted nat_cmp follows_then.engine.machine.core.state)) ≡ true
  unfolding follows_then taken
  accepts_then s =
      le_trans (last_total nat_cmp nat_cmp_total) (last_sent prev es) (later nat_cmp prev (last (map (λ (x : Entry). x.log_id) es))) (accepted nat_cmp taken.engine.machine.core.state) (sent_later prev es)
      (taken.accepts s)
