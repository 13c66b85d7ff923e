-- Logs in order: parts of them, and what each command leaves of a store's order.
use Rattle.std.proofs.Common.{ℕ, zero, suc, ◌+◌, ◌≤◌, ◌≡◌, ⊎_elim, true, cond, List, [], ◌∷◌, ◌++◌, length, map, take, arith, refl, sym, ap, ◌∙◌, subst, Option, Some, None}
use Rattle.std.specs.Prelude.{nat_lt, filter, fold, slice_get, IfSome}
use Rattle.std.specs.List.{AllByRecursion}
use Rattle.std.specs.Map.{values_of}
use Rattle.std.specs.Option.{option_to_list}
use Rattle.std.specs.declared.cmp.Ordering.{Ordering}
use Rattle.std.specs.declared.cmp.Ordering.TheVariants.{Equal}
use Rattle.std.specs.Ordering.{is_gt, is_le}
use Rattle.std.specs.Cmp.{IsTotalOrder}
use Rattle.std.proofs.lemmas.Bool.{cases_lt, lt-ltb, le-ltb, eq-eqb}
use Rattle.raft_state.specs.declared.config.RaftEntry
use Rattle.raft_state.specs.declared.ids.LeaderId.{LeaderId}
use Rattle.raft_state.specs.declared.ids.LogId.{LogId}
use Rattle.raft_state.specs.declared.ids.Vote.{Vote}
use Rattle.raft_state.specs.declared.state.RaftState.{RaftState}
use Rattle.raft_state.specs.Fits.{fits, is_within, is_below}
use Rattle.raft_state.specs.Invariants.{IsUnder, IsBelowEnd, Rises, LogOrder, StateFits, first_index}
use Rattle.raft_state.specs.Log.{last, at, below}
use Rattle.raft_state.specs.LogLaws.{IsRun}
use Rattle.raft_state.specs.Order.{next, leader_id_cmp, vote_cmp}
use Rattle.raft_state.proofs.LogLists as lists
use Rattle.raft_state.proofs.LogLists.{at_has, below_run, each_filter, each_map, has_lt, has_within, last_is, rises_below}
use Rattle.raft_state.proofs.Orders.{leader_total, le_trans, lt_is_le, lt_of_gt, or_left, vote_le_leader, vote_total, within_of, within_refl}
use Rattle.raft_state.proofs.Purges.{purged_to}
use Rattle.raft_state.proofs.StateLaws.{is_found_at, within_none}
use Rattle.raft_command.specs.declared.command.Command.{Command}
use Rattle.raft_command.specs.declared.command.Command.TheVariants.{SaveVote, AppendInputEntries, DeleteConflictLog, PurgeLog, Commit, StateMachine, BecomeLeader, QuitLeader, ReplicateCommitted, Replicate, RebuildReplicationStreams, SendVote, Respond}
use Rattle.raft_command.specs.declared.sm.CommandPayload.{CommandPayload}
use Rattle.raft_command.specs.declared.sm.CommandPayload.TheVariants.{BuildSnapshot, GetSnapshot, BeginReceivingSnapshot, InstallFullSnapshot, Apply}
use Rattle.raft_steps.proofs.Room.{last_each}
use Rattle.raft_store.specs.Store.{Store, index_of, put, exec, exec_all, exec_payload}
use Rattle.raft_store.specs.Mirror.{Holds, keyed, ids_of, map_ids}
use Rattle.raft_store.proofs.Lists.{Run}
use Rattle.proof_mirror.specs.Ready.{Shaped, Ordered, MayPut, MayPurge, Fits, CanOrder, Ready, InStep}
use Rattle.proof_mirror.proofs.Cuts.{cut_holds}
use Rattle.proof_mirror.proofs.Places.{at_reaches}
use Rattle.proof_mirror.proofs.Purges.{purge_holds, purged_ids}
use Rattle.proof_mirror.proofs.Puts.{behind_more, put_stored}
use Rattle.proof_mirror.proofs.Shape.{Shape, shape_of, ids_behind, ids_of_run, run_of_ids, behind_run, length_ids}
use Rattle.proof_mirror.proofs.Queued.{fits_of}
use Rattle.raft_store.proofs.Lists.{values_with}

module _ {NID : Type 0} (cmp : NID → NID → Ordering) where
  -- ids in order, wherever they begin: no leader in them is above this one, they rise, and no index is the greatest
  pub record InOrder (leader : LeaderId NID) (ids : List (LogId NID)) : Type 0 where
    pub by_vote : AllByRecursion (IsUnder cmp leader) ids
    pub rising : Rises cmp None ids
    pub below_end : AllByRecursion IsBelowEnd ids

  pub in_order : (leader : LeaderId NID) (ids : List (LogId NID)) (purged : Option (LogId NID)) → LogOrder cmp leader ids purged → InOrder leader ids
  in_order leader ids purged h = record { by_vote = h.by_vote; rising = h.rising; below_end = h.below_end }

  each_begin : (P : LogId NID → Type 0) (xs ys : List (LogId NID)) → AllByRecursion P (xs ++ ys) → AllByRecursion P xs
  each_begin P [] ys h = tt
  each_begin P (x ∷ xs) ys h = (h.0, each_begin P xs ys h.1)

  rises_begin : (d : Option (LogId NID)) (xs ys : List (LogId NID)) → Rises cmp d (xs ++ ys) → Rises cmp d xs
  rises_begin d [] ys h = tt
  rises_begin d (x ∷ xs) ys h = (h.0, rises_begin (Some x) xs ys h.1)

  pub order_begin : (leader : LeaderId NID) (xs ys : List (LogId NID)) → InOrder leader (xs ++ ys) → InOrder leader xs
  order_begin leader xs ys h = record { by_vote = each_begin (IsUnder cmp leader) xs ys h.by_vote; rising = rises_begin None xs ys h.rising; below_end = each_begin IsBelowEnd xs ys h.below_end }

-- the ids of a state are in order under its vote
abbrev pub Orderly : {NID N : Type 0} → (NID → NID → Ordering) → RaftState NID N → Type 0
Orderly cmp s = InOrder cmp s.vote.leader_id s.ids

module _ {NID : Type 0} where
  -- the front stands first
  pub first_behind : (f : Option (LogId NID)) (xs : List (LogId NID)) → IfSome f (λ x. slice_get (option_to_list f ++ xs) 0 ≡ Some x)
  first_behind None xs = tt
  first_behind (Some x) xs = refl

  first_more : (f : Option (LogId NID)) (xs ys : List (LogId NID)) → IfSome f (λ x. slice_get ((option_to_list f ++ xs) ++ ys) 0 ≡ Some x)
  first_more None xs ys = tt
  first_more (Some x) xs ys = refl

  run_rest : (n : ℕ) (xs ys : List (LogId NID)) → IsRun n (xs ++ ys) → IsRun (n + length xs) ys
  run_rest n [] ys r = let e : n ≡ n + 0 = omega arith in subst (λ k. IsRun k ys) e r
  run_rest n (x ∷ xs) ys r = let e : (n + 1) + length xs ≡ n + suc (length xs) = omega arith in subst (λ k. IsRun k ys) e (run_rest (n + 1) xs ys r.1)

module _ {NID N E : Type 0} (entry : RaftEntry.Ghosts E NID N) where
  behind_length : (f : Option (LogId NID)) (es : List E) → first_index f + length (ids_behind entry f es) ≡ next f + length es
  behind_length None es = omega (arith, length_ids entry es)
  behind_length (Some x) es = omega (arith, length_ids entry es)

  -- a store holds what it holds
  holds_own : (t : Store NID N E) → t.log ≡ keyed entry (values_of t.log) → Holds entry t t.vote (ids_of entry t) t.front
  holds_own t k = record { vote_is = refl; ids_are = refl; purged_is = refl; keys = k }

module _ {NID N E : Type 0} (cmp : NID → NID → Ordering) (entry : RaftEntry.Ghosts E NID N) where
  -- entries that go on with the log of a state in step
  pub may_put : (t : Store NID N E) (s : RaftState NID N) (es : List E) → InStep entry t s → Run (index_of entry) (next (last s.ids)) es → InOrder cmp s.vote.leader_id (s.ids ++ map entry.id_of es) → MayPut cmp entry t es
  may_put t s es j r o =
      let h : Shape entry t s = shape_of entry t s j.mirrors j.marks in
      let v : InOrder cmp t.vote.leader_id (ids_of entry t ++ map entry.id_of es) =
      subst (λ (w : Vote NID). InOrder cmp w.leader_id (ids_of entry t ++ map entry.id_of es)) j.mirrors.log.vote_is (subst (λ ids. InOrder cmp s.vote.leader_id (ids ++ map entry.id_of es)) j.mirrors.log.ids_are o) in
      let n : next (last s.ids) ≡ first_index t.front + length (ids_of entry t) = h.end ∙ sym (behind_length entry t.front (values_of t.log)) in
      record {
        by_vote = v.by_vote;
        rising = v.rising;
        run = lists.run_append (first_index t.front) (ids_of entry t) (map entry.id_of es) (behind_run entry t.front (values_of t.log) h.run) (subst (λ k. IsRun k (map entry.id_of es)) n (ids_of_run entry (next (last s.ids)) es r));
        below_end = v.below_end;
        first = first_more t.front (map_ids entry t) (map entry.id_of es);
      }

-- an id stands at its index
abbrev pub Stands : {NID : Type 0} → List (LogId NID) → Option (LogId NID) → Type 0
Stands ids o = IfSome o (λ x. at ids x.index ≡ Some x)

module _ {NID : Type 0} (cmp : NID → NID → Ordering) (total : IsTotalOrder cmp) (same : (a b : NID) → cmp a b ≡ Equal → a ≡ b) where
  -- a log in order under a leader that isn't below
  raised_order : (old new : LeaderId NID) (ids : List (LogId NID)) (purged : Option (LogId NID)) → is_le (leader_id_cmp cmp old new) ≡ true → LogOrder cmp old ids purged → LogOrder cmp new ids purged
  raised_order old new ids purged l h = record {
    by_vote = each_map (IsUnder cmp old) (IsUnder cmp new) (λ x u. le_trans (leader_total cmp total) x.leader_id old new u l) ids h.by_vote;
    rising = h.rising;
    run = h.run;
    below_end = h.below_end;
    first = h.first;
  }

  pub first_stands : (ids : List (LogId NID)) (o : Option (LogId NID)) → IfSome o (λ x. slice_get ids 0 ≡ Some x) → Stands ids o
  first_stands ids None f = tt
  first_stands [] (Some x) f = cc
  first_stands (y ∷ ys) (Some x) f = let e : y ≡ x = cc in ap (λ b. cond b (Some y) (at ys x.index)) (eq-eqb y.index x.index (ap (λ z. z.index) e)) ∙ ap Some e

  -- of two ids of a log in order the one of the lower index is within the other
  stands_within : (leader : LeaderId NID) (ids : List (LogId NID)) (purged : Option (LogId NID)) → LogOrder cmp leader ids purged → (a b : Option (LogId NID)) → Stands ids a → Stands ids b → next a ≤ next b → is_within cmp a b ≡ true
  stands_within leader ids purged h None b sa sb l = within_none cmp total same b
  stands_within leader ids purged h (Some x) None sa sb l = absurd (omega (arith, l))
  stands_within leader ids purged h (Some x) (Some y) sa sb l =
      ⊎_elim
      (λ o. within_of cmp total (Some x) (Some y) (lt_is_le _ (has_lt cmp total x y None (first_index purged) ids h.run h.rising (at_has x.index x ids sa) (at_has y.index y ids sb) o)) l)
      (λ o. let i : x.index ≡ y.index = omega (arith, o, l) in let e : Some x ≡ Some y = sym sa ∙ (ap (at ids) i ∙ sb) in subst (λ z. is_within cmp (Some x) z ≡ true) e (within_refl cmp total (Some x)))
      (cases_lt x.index y.index)

  stands_fits : (ids : List (LogId NID)) (purged o : Option (LogId NID)) → Stands ids o → fits cmp ids purged o ≡ true
  stands_fits ids purged None s = refl
  stands_fits ids purged (Some x) s = or_left _ (is_below cmp (Some x) purged) (is_found_at cmp total same ids x _ s)

  pub stands_last : (leader : LeaderId NID) (ids : List (LogId NID)) (purged : Option (LogId NID)) → LogOrder cmp leader ids purged → (o : Option (LogId NID)) → Stands ids o → is_within cmp o (last ids) ≡ true
  stands_last leader ids purged h None s = within_none cmp total same (last ids)
  stands_last leader ids purged h (Some x) s = subst (λ d. is_within cmp (Some x) d ≡ true) (sym (last_is ids)) (has_within cmp total x None (first_index purged) ids h.run h.rising (at_has x.index x ids s))

  -- a log in order, and marks that stand in it in their order, are what is asked of a state
  pub order_fits : (leader : LeaderId NID) (ids : List (LogId NID)) (purged purge_to snapshot committed : Option (LogId NID)) → LogOrder cmp leader ids purged → Stands ids purge_to → Stands ids snapshot → Stands ids committed
      → next purged ≤ next purge_to → next purge_to ≤ next snapshot → next snapshot ≤ next committed → StateFits cmp leader ids purged purge_to snapshot committed None
  order_fits leader ids purged purge_to snapshot committed h st ss sc lt ls lc = record {
    log = h;
    marks = record {
      at_purged = stands_within leader ids purged h purged purge_to (first_stands ids purged h.first) st lt;
      at_target = stands_within leader ids purged h purge_to snapshot st ss ls;
      at_snapshot = stands_within leader ids purged h snapshot committed ss sc lc;
      at_committed = stands_last leader ids purged h committed sc;
      target_fits = stands_fits ids purged purge_to st;
      snapshot_fits = stands_fits ids purged snapshot ss;
      committed_fits = stands_fits ids purged committed sc;
    };
    accepted = tt;
  }

module _ {NID N E : Type 0} (cmp : NID → NID → Ordering) (total : IsTotalOrder cmp) (same : (a b : NID) → cmp a b ≡ Equal → a ≡ b) (entry : RaftEntry.Ghosts E NID N) where
  after_vote : (t : Store NID N E) (v : Vote NID) → Ordered cmp entry t → is_gt (vote_cmp cmp v t.vote) ≡ true → Ordered cmp entry (record t { vote = v })
  after_vote t v o g =
      let l : is_le (leader_id_cmp cmp t.vote.leader_id v.leader_id) ≡ true = vote_le_leader cmp t.vote v (lt_is_le _ (lt_of_gt (vote_total cmp total) v t.vote g)) in
      record {
        log = raised_order cmp total same t.vote.leader_id v.leader_id (ids_of entry t) t.front l o.log;
        snapshot = raised_order cmp total same t.vote.leader_id v.leader_id (map entry.id_of t.snap) None l o.snapshot;
        front = o.front;
      }

  after_put : (t : Store NID N E) (es : List E) → Shaped entry t → Ordered cmp entry t → MayPut cmp entry t es → Ordered cmp entry (record t { log = fold (put entry) t.log es })
  after_put t es z o f =
      let xs : List E = values_of t.log in
      let r : Run (index_of entry) (next t.front + length xs) es =
      run_of_ids entry (next t.front + length xs) es (subst (λ k. IsRun k (map entry.id_of es)) (behind_length entry t.front xs) (run_rest (first_index t.front) (ids_of entry t) (map entry.id_of es) f.run)) in
      let v : values_of (fold (put entry) t.log es) ≡ xs ++ es = ap values_of (put_stored entry t (next t.front + length xs) es z.keys (run_of_ids entry (next t.front) xs z.run) refl r) ∙ values_with (index_of entry) (xs ++ es) in
      let e : ids_of entry t ++ map entry.id_of es ≡ ids_of entry (record t { log = fold (put entry) t.log es }) = behind_more entry t.front xs es ∙ ap (ids_behind entry t.front) (sym v) in
      record { log = subst (λ ids. LogOrder cmp t.vote.leader_id ids t.front) e f; snapshot = o.snapshot; front = o.front }

  after_cut : (t : Store NID N E) (i : ℕ) → Shaped entry t → Ordered cmp entry t → length t.applied ≤ i → Ordered cmp entry (record t { log = filter (λ p. nat_lt p.0 i) t.log })
  after_cut t i z o l =
      let w : Store NID N E = record t { log = filter (λ p. nat_lt p.0 i) t.log } in
      let ids : List (LogId NID) = ids_of entry t in
      let e : below i ids ≡ ids_of entry w = (cut_holds entry t t.vote ids t.front i (holds_own entry t z.keys) (omega (arith, l, z.recorded, z.front))).ids_are in
      record {
        log = record {
          by_vote = subst (AllByRecursion (IsUnder cmp t.vote.leader_id)) e (each_filter (IsUnder cmp t.vote.leader_id) (λ x. nat_lt x.index i) ids o.log.by_vote);
          rising = subst (Rises cmp None) e (rises_below cmp None (first_index t.front) i ids o.log.run o.log.rising);
          run = subst (IsRun (first_index t.front)) e (below_run (first_index t.front) i ids o.log.run);
          below_end = subst (AllByRecursion IsBelowEnd) e (each_filter IsBelowEnd (λ x. nat_lt x.index i) ids o.log.below_end);
          first = first_behind t.front (map_ids entry w);
        };
        snapshot = o.snapshot;
        front = o.front;
      }

  -- the snapshot's last id, alone
  pub last_alone : (t : Store NID N E) (x : LogId NID) → Shaped entry t → Ordered cmp entry t → t.meta.last_log_id ≡ Some x → LogOrder cmp t.vote.leader_id (x ∷ []) (Some x)
  last_alone t x z o e =
      let q : last (map entry.id_of t.snap) ≡ Some x = sym z.tells.last_id ∙ e in
      record {
        by_vote = (subst (λ d. IfSome d (IsUnder cmp t.vote.leader_id)) q (last_each (IsUnder cmp t.vote.leader_id) (map entry.id_of t.snap) o.snapshot.by_vote), tt);
        rising = (refl, tt);
        run = (refl, tt);
        below_end = (subst (λ d. IfSome d IsBelowEnd) q (last_each IsBelowEnd (map entry.id_of t.snap) o.snapshot.below_end), tt);
        first = refl;
      }

  after_purge : (t : Store NID N E) (x : LogId NID) → Shaped entry t → Ordered cmp entry t → MayPurge entry t x → Ordered cmp entry (record t { log = filter (λ p. nat_lt x.index p.0) t.log; front = Some x })
  after_purge t x z o f =
      let w : Store NID N E = record t { log = filter (λ p. nat_lt x.index p.0) t.log; front = Some x } in
      let ids : List (LogId NID) = ids_of entry t in
      let e : purged_ids ids x ≡ ids_of entry w =
      (purge_holds entry t t.vote ids t.front x (holds_own entry t z.keys) o.log.run f.above (λ l. ⊎_elim (λ a. a) (λ b. absurd (omega (arith, l, b.1))) f.held)).ids_are in
      record { log = subst (λ ids. LogOrder cmp t.vote.leader_id ids (Some x)) e (⊎_elim stored alone f.held); snapshot = o.snapshot; front = λ q. sym (f.end q) }
    where
      stored : at (ids_of entry t) x.index ≡ Some x → LogOrder cmp t.vote.leader_id (purged_ids (ids_of entry t) x) (Some x)
      stored a =
          let ids : List (LogId NID) = ids_of entry t in
          let h : StateFits cmp t.vote.leader_id ids t.front (Some x) (Some x) (Some x) None = order_fits cmp total same t.vote.leader_id ids t.front (Some x) (Some x) (Some x) o.log a a a f.above (omega arith) (omega arith) in
          rw (lt-ltb x.index (next (last ids)) (omega (arith, at_reaches (first_index t.front) x.index ids x o.log.run a)))
          (purged_to cmp total same t.vote.leader_id ids t.front (Some x) (Some x) (Some x) None h x a h.marks.at_purged (within_refl cmp total (Some x))).log

      alone : (t.meta.last_log_id ≡ Some x) × (next (last (ids_of entry t)) ≤ x.index) → LogOrder cmp t.vote.leader_id (purged_ids (ids_of entry t) x) (Some x)
      alone p = rw (le-ltb x.index (next (last (ids_of entry t))) p.1) (last_alone t x z o p.0)

module _ {C NID N E D R S : Type 0} (cmp : NID → NID → Ordering) (total : IsTotalOrder cmp) (same : (a b : NID) → cmp a b ≡ Equal → a ≡ b) (entry : RaftEntry.Ghosts E NID N) (entries_in : S → List E) where
  after_payload : (t : Store NID N E) (c : CommandPayload C NID N E D R S) → Shaped entry t → Ordered cmp entry t → CanOrder cmp entry entries_in t c → Ordered cmp entry (exec_payload entry entries_in c t)
  after_payload t BuildSnapshot z o f = o
  after_payload t (GetSnapshot g) z o f = o
  after_payload t (BeginReceivingSnapshot g) z o f = o
  after_payload t (InstallFullSnapshot s) z o f = record { log = o.log; snapshot = f.order; front = λ q. absurd (omega (arith, q, f.past, z.recorded, z.front)) }
  after_payload t (Apply g) z o f = o

  -- a store is in order after each command that finds what it needs
  pub ordered_exec : (t : Store NID N E) (c : Command C NID N E D R S) → Shaped entry t → Ordered cmp entry t → Fits cmp entry entries_in t c → Ordered cmp entry (exec entry entries_in c t)
  ordered_exec t (SaveVote v) z o f = after_vote cmp total same entry t v o f
  ordered_exec t (AppendInputEntries v es) z o f = after_put cmp total same entry t es z o f
  ordered_exec t (DeleteConflictLog since) z o f = after_cut cmp total same entry t since.index z o f.1
  ordered_exec t (PurgeLog upto) z o f = after_purge cmp total same entry t upto z o f
  ordered_exec t (Commit seq already upto) z o f = record { log = o.log; snapshot = o.snapshot; front = o.front }
  ordered_exec t (StateMachine c) z o f = after_payload t c.payload z o f
  ordered_exec t BecomeLeader z o f = o
  ordered_exec t QuitLeader z o f = o
  ordered_exec t (ReplicateCommitted g) z o f = o
  ordered_exec t (Replicate g h) z o f = o
  ordered_exec t (RebuildReplicationStreams g) z o f = o
  ordered_exec t (SendVote g) z o f = o
  ordered_exec t (Respond g h) z o f = o

  -- and wherever a stop comes among ready commands
  pub ordered_at_stop : (t : Store NID N E) (cs : List (Command C NID N E D R S)) (j : ℕ) → Ready cmp entry entries_in t cs → Ordered cmp entry t → Ordered cmp entry (exec_all entry entries_in t (take j cs))
  ordered_at_stop t [] zero h o = o
  ordered_at_stop t [] (suc j) h o = o
  ordered_at_stop t (c ∷ cs) zero h o = o
  ordered_at_stop t (c ∷ cs) (suc j) h o = ordered_at_stop (exec entry entries_in c t) cs j h.2 (ordered_exec t c (by_shape t cs c h) o (fits_of cmp entry entries_in t cs c h.1)) where
    by_shape : (t : Store NID N E) (cs : List (Command C NID N E D R S)) (c : Command C NID N E D R S) → Ready cmp entry entries_in t (c ∷ cs) → Shaped entry t
    by_shape t cs c h = h.0
