-- Where no request is taken, a node's log grows: by the first entry, or by entries of its own under the vote that it has then.
use Rattle.std.proofs.Common.{ℕ, ◌+◌, ◌<◌, ◌≤◌, ◌≡◌, ◌⊎◌, ⊎_elim, Bool, true, false, not, List, [], ◌∷◌, ◌++◌, append-nil, append_assoc, filter, fold, length, map, arith, refl, sym, ap, ◌∙◌, subst, Option, None, Some}
use Rattle.std.specs.Prelude.{IfSome, if◌then◌else◌, nat_lt}
use Rattle.std.proofs.lemmas.Bool.{cases_lt}
use Rattle.std.proofs.lemmas.List.{length-append, length-map}
use Rattle.std.proofs.lemmas.List.Elements.{filter-append}
use Rattle.std.specs.List.{AllByRecursion}
use Rattle.std.specs.Map.{values_of}
use Rattle.std.specs.Option.{option_to_list}
use Rattle.std.specs.Ordering.{nat_cmp}
use Rattle.proof_deeds.specs.raft_state.declared.ids.LeaderId.{LeaderId}
use Rattle.proof_deeds.specs.raft_state.declared.ids.LogId.{LogId}
use Rattle.proof_deeds.specs.raft_state.Invariants.{first_index}
use Rattle.proof_deeds.specs.raft_state.LogLaws.{IsRun}
use Rattle.proof_deeds.specs.raft_state.Order.{next}
use Rattle.proof_deeds.proofs.raft_state_proofs.LogLists.{each_append}
use Rattle.proof_deeds.specs.raft_command.declared.command.Command.TheVariants as command
use Rattle.proof_deeds.specs.raft_command.declared.sm.CommandPayload.TheVariants as payload
use Rattle.proof_deeds.specs.raft_command.Queue.{popped}
use Rattle.proof_deeds.specs.raft_steps.Invariants.{IsSound}
use Rattle.proof_deeds.specs.raft_store.declared.entry.Entry.{Entry}
use Rattle.proof_deeds.specs.raft_store.Entries.{entry_meaning}
use Rattle.proof_deeds.specs.raft_store.Mirror.{ids_of, keyed, map_ids}
use Rattle.proof_deeds.specs.raft_store.Store as store
use Rattle.proof_deeds.specs.raft_store.Store.{past, put, whole}
use Rattle.proof_deeds.specs.raft_store.Types.{EngineView, WorldCommand, WorldPayload, WorldStore}
use Rattle.proof_deeds.proofs.raft_store_proofs.Lists.{Run, length_under, onward, onward_all, split, under, values_with}
use Rattle.proof_deeds.specs.raft_calls.Engines.{with_queue}
use Rattle.proof_deeds.specs.raft_calls.Feeds.{feed, feed_of}
use Rattle.proof_deeds.specs.raft_node.declared.given.Given.{Given}
use Rattle.proof_deeds.specs.raft_node.declared.node.Turn.{Turn}
use Rattle.proof_deeds.specs.raft_node.Execute.{Effects, exec}
use Rattle.proof_deeds.specs.raft_node.Runs.{whole_logs}
use Rattle.proof_deeds.specs.raft_node.Work.{Work, one_less, step_of, stopped, stops, work_step, worked}
use Rattle.proof_deeds.proofs.raft_node_proofs.Worked.{worked-keeps}
use Rattle.proof_deeds.specs.proof_mirror.Ready.{FitsBefore, MayPurge, MayPut, Ready, Shaped}
use Rattle.proof_deeds.proofs.proof_mirror_proofs.Purges.{purged_values}
use Rattle.proof_deeds.proofs.proof_mirror_proofs.Puts.{put_stored}
use Rattle.proof_deeds.proofs.proof_mirror_proofs.Shape.{past_keyed, run_of_ids}
use Rattle.proof_deeds.specs.proof_agreement.Machine.{Setup}
use Rattle.proof_deeds.specs.Chains.{Chain, left_by, stored}
use Rattle.proof_deeds.specs.Images.{Ideal, number, setup_of}
use Rattle.proof_deeds.proofs.AllLaws.{all_laws}
use Rattle.proof_deeds.proofs.AppendFitting.{Settled}
use Rattle.proof_deeds.proofs.Drains.{step_works}
use Rattle.proof_deeds.proofs.Executed.{exec_stores}
use Rattle.proof_deeds.proofs.Pushes.{chain_within}
use Rattle.proof_deeds.proofs.Tails.{index, tail_vote}
use Rattle.proof_progress.proofs.EntriesQueued.{Brings as Gives}
use Rattle.proof_progress.proofs.EntriesStored.{EffectsOf, exec_keeps}
use Rattle.proof_progress.proofs.Bringing.{Brings, BringsIn, Brought}
use Rattle.proof_progress.proofs.BringingCalled.{AllBring, fed_adds}
use Rattle.proof_progress.proofs.OwnFirst.{leaves}
use Rattle.proof_progress.proofs.SameVotes.{fed_leader}
use Rattle.proof_progress.proofs.Throughout.{AtWork}
use Rattle.proof_progress.proofs.Top.{behind_all}

-- Stores

-- the index after the stored entries
abbrev pub stored_end : WorldStore → ℕ
stored_end u = next u.front + length (values_of u.log)

-- they reach the snapshot's end
abbrev pub Reaches : WorldStore → Type 0
Reaches u = length u.snap ≤ stored_end u

run_rest : (k : ℕ) (xs ys : List (LogId ℕ)) → IsRun k (xs ++ ys) → IsRun (k + length xs) ys
run_rest k [] ys r = subst (λ n. IsRun n ys) (let e : k ≡ k + 0 = omega arith in e) r
run_rest k (x ∷ xs) ys r = subst (λ n. IsRun n ys) (let e : (k + 1) + length xs ≡ k + length (x ∷ xs) = omega arith in e) (run_rest (k + 1) xs ys r.1)

-- entries that may be put go on from the stored ones
put_run : (u : WorldStore) (es : List Entry) → MayPut nat_cmp entry_meaning u es → Run index (stored_end u) es
put_run u es f = run_of_ids entry_meaning (stored_end u) es (subst (λ n. IsRun n (map entry_meaning.id_of es)) (place u.front) (run_rest (first_index u.front) (ids_of entry_meaning u) (map entry_meaning.id_of es) f.run))
  where
    n : length (map_ids entry_meaning u) ≡ length (values_of u.log)
    n = length-map (values_of u.log) entry_meaning.id_of

    place : (o : Option (LogId ℕ)) → first_index o + length (option_to_list o ++ map_ids entry_meaning u) ≡ next o + length (values_of u.log)
    place None = omega (arith, n)
    place (Some x) = omega (arith, n)

-- they are the end of the whole log then
pub put_grows : (u : WorldStore) (es : List Entry) → Shaped entry_meaning u → MayPut nat_cmp entry_meaning u es → Reaches u
    → (whole (record u { log = fold (put entry_meaning) u.log es }) ≡ whole u ++ es) × Reaches (record u { log = fold (put entry_meaning) u.log es })
put_grows u es z f l =
    let xs : List Entry = values_of u.log in
    let n : ℕ = length u.snap in
    let r : Run index (stored_end u) es = put_run u es f in
    let k : fold (put entry_meaning) u.log es ≡ keyed entry_meaning (values_of u.log ++ es) = put_stored entry_meaning u (stored_end u) es z.keys (run_of_ids entry_meaning (next u.front) (values_of u.log) z.run) refl r in
    let a : past (length u.snap) u.log ≡ onward index (length u.snap) (values_of u.log) = ap (past (length u.snap)) z.keys ∙ past_keyed entry_meaning (length u.snap) (values_of u.log) in
    let b : past (length u.snap) (fold (put entry_meaning) u.log es) ≡ onward index (length u.snap) (values_of u.log) ++ es =
    ap (past (length u.snap)) k ∙ (past_keyed entry_meaning (length u.snap) (values_of u.log ++ es)
    ∙ (filter-append (λ e. not (nat_lt (index e) (length u.snap))) (values_of u.log) es ∙ ap (λ ys. onward index (length u.snap) (values_of u.log) ++ ys) (onward_all index (stored_end u) (length u.snap) es l r))) in
    let v : length (values_of (fold (put entry_meaning) u.log es)) ≡ length (values_of u.log) + length es =
    ap (λ ys. length ys) (ap values_of k ∙ values_with index (values_of u.log ++ es)) ∙ length-append (values_of u.log) es in (
      ap (λ ys. u.snap ++ ys) b ∙ (sym (append_assoc u.snap (onward index (length u.snap) (values_of u.log)) es) ∙ ap (λ ys. (u.snap ++ ys) ++ es) (sym a)),
      omega (arith, l, v),
    )

-- a purge leaves no fewer
purge_reaches : (u : WorldStore) (x : LogId ℕ) → Shaped entry_meaning u → MayPurge entry_meaning u x → Reaches u → Reaches (record u { log = filter (λ p. nat_lt x.index p.0) u.log; front = Some x })
purge_reaches u x z m l =
    let xs : List Entry = values_of u.log in
    let r : Run index (next u.front) (values_of u.log) = run_of_ids entry_meaning (next u.front) (values_of u.log) z.run in
    let v : length (values_of (filter (λ (p : ℕ × Entry). nat_lt x.index p.0) u.log)) ≡ length (onward index (x.index + 1) (values_of u.log)) = ap (λ ys. length ys) (purged_values entry_meaning u x.index z.keys) in
    ⊎_elim (λ k. let a = m.within in omega (arith, k, l, v, a))
    (λ k.
    let a : next u.front + length (under index (x.index + 1) (values_of u.log)) ≡ x.index + 1 = length_under index (next u.front) (x.index + 1) (values_of u.log) r m.above k in
    let b : length (under index (x.index + 1) (values_of u.log)) + length (onward index (x.index + 1) (values_of u.log)) ≡ length (values_of u.log) =
    sym (length-append (under index (x.index + 1) (values_of u.log)) (onward index (x.index + 1) (values_of u.log))) ∙ ap (λ ys. length ys) (split index (next u.front) (x.index + 1) (values_of u.log) r) in
    omega (arith, a, b, l, v)) (cases_lt (next u.front + length (values_of u.log)) (x.index + 1))

-- Commands

module _ (n low : ℕ) (P : Entry → Type 0) where
  -- what a command appends
  pub record Appends (c : WorldCommand) (u v : WorldStore) : Type 0 where
    pub added : List Entry
    pub log : whole v ≡ whole u ++ added
    pub each : AllByRecursion (Brought n low) added
    pub gives : AllByRecursion P added → Gives P c
    pub reaches : Reaches v

  nothing : (c : WorldCommand) (u v : WorldStore) → whole v ≡ whole u → Gives P c → Reaches v → Appends c u v
  nothing c u v q g l = record { added = []; log = q ∙ sym (append-nil (whole u)); each = tt; gives = λ _. g; reaches = l }

  pub command_appends : (u : WorldStore) (cs : List WorldCommand) (c : WorldCommand) → Brings n low c → Shaped entry_meaning u → FitsBefore nat_cmp entry_meaning (λ es. es) u cs c → Reaches u → Appends c u (stored c u)
  command_appends u cs (command.SaveVote v) k z f l = nothing (command.SaveVote v) u (stored (command.SaveVote v) u) refl tt l
  command_appends u cs (command.AppendInputEntries v es) k z f l = let g = put_grows u es z f l in record { added = es; log = g.0; each = k; gives = λ h. h; reaches = g.1 }
  command_appends u cs (command.DeleteConflictLog since) k z f l = absurd k
  command_appends u cs (command.PurgeLog upto) k z f l =
      nothing (command.PurgeLog upto) u (stored (command.PurgeLog upto) u) (leaves u cs (command.PurgeLog upto) tt f).log tt (purge_reaches u upto z f l)
  command_appends u cs (command.Commit seq already upto) k z f l = nothing (command.Commit seq already upto) u (stored (command.Commit seq already upto) u) refl tt l
  command_appends u cs (command.StateMachine c) k z f l = go c.payload k
    where
      go : (p : WorldPayload) → BringsIn p → Appends (command.StateMachine (record { seq = c.seq; payload = p })) u (store.exec_payload entry_meaning (λ es. es) p u)
      go payload.BuildSnapshot k = record { added = []; log = sym (append-nil (whole u)); each = tt; gives = λ _. tt; reaches = l }
      go (payload.GetSnapshot x) k = record { added = []; log = sym (append-nil (whole u)); each = tt; gives = λ _. tt; reaches = l }
      go (payload.BeginReceivingSnapshot x) k = record { added = []; log = sym (append-nil (whole u)); each = tt; gives = λ _. tt; reaches = l }
      go (payload.InstallFullSnapshot s) k = absurd k
      go (payload.Apply x) k = record { added = []; log = sym (append-nil (whole u)); each = tt; gives = λ _. tt; reaches = l }
  command_appends u cs (command.SendVote req) k z f l = nothing (command.SendVote req) u u refl tt l
  command_appends u cs (command.RebuildReplicationStreams targets) k z f l = nothing (command.RebuildReplicationStreams targets) u u refl tt l
  command_appends u cs (command.Replicate target req) k z f l = nothing (command.Replicate target req) u u refl tt l
  command_appends u cs (command.ReplicateCommitted x) k z f l = nothing (command.ReplicateCommitted x) u u refl tt l
  command_appends u cs (command.Respond when reply) k z f l = nothing (command.Respond when reply) u u refl tt l
  command_appends u cs command.BecomeLeader k z f l = nothing command.BecomeLeader u u refl tt l
  command_appends u cs command.QuitLeader k z f l = nothing command.QuitLeader u u refl tt l

module _ {X : Type 0} (P : X → Type 0) where
  front_each : (xs ys : List X) → AllByRecursion P (xs ++ ys) → AllByRecursion P xs
  front_each [] ys h = tt
  front_each (x ∷ xs) ys h = (h.0, front_each xs ys h.1)

-- Work

-- the store's vote after a queue's first command isn't above that at its end
first_rises : (s : Setup Entry) (t : Turn) (v : LeaderId ℕ) (u : WorldStore) (c : WorldCommand) (cs : List WorldCommand) (W V : Ideal) → Chain s t v u (c ∷ cs) W V
    → number (stored c u).vote.leader_id ≤ (V.store t.id).vote
first_rises s t v u c cs W V (X, d, k) =
    let a : (X.store t.id).vote ≡ number (stored c u).vote.leader_id = d.store.vote in
    let b : (X.store t.id).vote ≤ (V.store t.id).vote = (chain_within s t v (stored c u) cs X V k).votes t.id in
    omega (arith, a, b)

module _ (given : Given) (t : Turn) (low : ℕ) (P : Entry → Type 0) (u0 : WorldStore) where
  -- a node at work has appended such entries since it had the store u0, and has no greater vote; what holds of all of them, and held of all
  -- entries, holds of all
  pub record HasGrown (E : Effects (List Entry)) (o : Option EngineView) : Type 0 where
    pub added : List Entry
    pub log : whole E.store ≡ whole u0 ++ added
    pub each : AllByRecursion (Brought t.id low) added
    pub all : AllByRecursion P added → EffectsOf P E
    pub reaches : Reaches E.store
    pub vote : number E.store.vote.leader_id ≤ low
    pub votes : IfSome o (λ e. number e.machine.core.state.vote.leader_id ≡ low)
    pub queue : IfSome o (AllBring t.id low)

  module _ (since : Ideal) (w : Work (List Entry)) (e : EngineView) (c : WorldCommand) (cs : List WorldCommand) (is : e.machine.core.output.items ≡ c ∷ cs) (h : AtWork given t since (record w { engine = Some e })) (g : HasGrown w.effects (Some e)) where
    abbrev behind : EngineView
    behind = with_queue e (record e.machine.core.output { items = cs })

    abbrev A : Effects (List Entry)
    A = exec whole_logs t (with_queue e (record e.machine.core.output { items = cs })) c w.effects

    brings : AllByRecursion (Brings t.id low) (c ∷ cs)
    brings = subst (AllByRecursion (Brings t.id low)) is g.queue

    does : Appends t.id low P c w.effects.store A.store
    does =
        let ready = subst (λ xs. Ready nat_cmp entry_meaning (λ es. es) w.effects.store xs) is h.engine.pending.core.ready in
        subst (Appends t.id low P c w.effects.store) (sym (exec_stores t behind w.effects c)) (command_appends t.id low P w.effects.store cs c brings.0 ready.0 ready.1 g.reaches)

    vote : number A.store.vote.leader_id ≤ low
    vote =
        let k : Chain (setup_of given.membership) t e.machine.core.state.vote.leader_id w.effects.store (c ∷ cs) h.world h.engine.carried.end =
        subst (λ xs. Chain (setup_of given.membership) t e.machine.core.state.vote.leader_id w.effects.store xs h.world h.engine.carried.end) is h.engine.carried.chain in
        let a : number (stored c w.effects.store).vote.leader_id ≤ (h.engine.carried.end.store t.id).vote = first_rises (setup_of given.membership) t e.machine.core.state.vote.leader_id w.effects.store c cs h.world h.engine.carried.end k in
        let b : (h.engine.carried.end.store t.id).vote ≡ number e.machine.core.state.vote.leader_id =
        tail_vote (setup_of given.membership) (left_by w.effects.store e.machine.core.output.items) (h.engine.carried.end.store t.id) e.machine.core.state h.engine.carried.store h.engine.pending.core.in_step in
        let d : number e.machine.core.state.vote.leader_id ≡ low = g.votes in
        subst (λ (u : WorldStore). number u.vote.leader_id ≤ low) (sym (exec_stores t behind w.effects c)) (omega (arith, a, b, d))

    sound : IsSound nat_cmp behind.config behind.machine
    sound = record { sound = h.engine.ready.sound.sound; lead = h.engine.ready.sound.lead }

    same : number (feed t.moment c behind).machine.core.state.vote.leader_id ≡ low
    same = ap number (fed_leader t.moment (feed_of c) behind) ∙ g.votes

    told : AllBring t.id low (feed t.moment c behind)
    told =
        let z : number (feed t.moment c behind).machine.core.state.vote.leader_id ≡ low = same in
        let k = fed_adds t.id low behind h.engine.id sound t.moment (feed_of c) (omega (arith, z)) in
        subst (AllByRecursion (Brings t.id low)) (sym k.behind) (each_append (Brings t.id low) cs k.added brings.1 k.each)

    then_grown : (o : Option EngineView) → IfSome o (λ e. number e.machine.core.state.vote.leader_id ≡ low) → IfSome o (AllBring t.id low) → HasGrown A o
    then_grown o p q = record {
      added = g.added ++ does.added;
      log = does.log ∙ (ap (λ es. es ++ does.added) g.log ∙ append_assoc (whole u0) g.added does.added);
      each = each_append (Brought t.id low) g.added does.added g.each does.each;
      all = λ a. exec_keeps P t behind w.effects (g.all (front_each P g.added does.added a)) c (does.gives (behind_all P g.added does.added a));
      reaches = does.reaches;
      vote = vote;
      votes = p;
      queue = q;
    }

    pub done_grown : (b : Bool) → (let x : Work (List Entry) = (if b then stopped A else record { engine = Some (feed t.moment c behind); effects = A; left = one_less w.left }) in HasGrown x.effects x.engine)
    done_grown true =
        let k = then_grown None tt tt in
        record { added = k.added; log = k.log; each = k.each; all = λ a. let e = k.all a in record { store = e.store; noted = λ es q. cc; bag = e.bag }; reaches = k.reaches; vote = k.vote; votes = tt; queue = tt }
    done_grown false = then_grown (Some (feed t.moment c behind)) same told

  record Grows (since : Ideal) (w : Work (List Entry)) : Type 0 where
    works : AtWork given t since w
    grown : HasGrown w.effects w.engine

  module _ (node : t.id < 18446744073709551616) (since : Ideal) where
    items_grow : (w : Work (List Entry)) (e : EngineView) (cs : List WorldCommand) → e.machine.core.output.items ≡ cs → AtWork given t since (record w { engine = Some e }) → HasGrown w.effects (Some e)
        → (let x : Work (List Entry) = step_of whole_logs t (record w { engine = Some e }) e (popped (record e.machine.core.output { items = cs })) in HasGrown x.effects x.engine)
    items_grow w e [] is h g = g
    items_grow w e (c ∷ cs) is h g = done_grown since w e c cs is h g (stops w.left)

    step_grows : (w : Work (List Entry)) → Grows since w → Grows since (work_step whole_logs t w)
    step_grows w g = record { works = step_works given.membership (Settled (setup_of given.membership)) t (all_laws given.membership) node since w g.works; grown = go w.engine g.works g.grown }
      where
        go : (o : Option EngineView) → AtWork given t since (record w { engine = o }) → HasGrown w.effects o
            → (let x : Work (List Entry) = (elim o as (λ x. Work (List Entry)) [ None ↦ record w { engine = o } | Some e ↦ step_of whole_logs t (record w { engine = o }) e (popped e.machine.core.output) ]) in HasGrown x.effects x.engine)
        go None h k = k
        go (Some e) h k = items_grow w e e.machine.core.output.items refl h k

    -- once the queue is worked off
    pub worked_grown : (fuel : ℕ) (w : Work (List Entry)) → AtWork given t since w → HasGrown w.effects w.engine → HasGrown (worked whole_logs fuel t w).effects (worked whole_logs fuel t w).engine
    worked_grown fuel w h g = let k : Grows since (worked whole_logs fuel t w) = worked-keeps whole_logs t (Grows since) fuel (λ x busy p. step_grows x p) w (record { works = h; grown = g }) in k.grown
