-- A node takes a leader's request for entries at an event: its answer is on its way.
use Rattle.std.proofs.Common.{ℕ, ◌+◌, ◌≤◌, ◌≡◌, inl, inr, Bool, true, false, not, List, [], ◌∷◌, ◌++◌, map, arith, refl, sym, ap, ◌∙◌, subst, Option, None, Some, Result, Ok, Err}
use Rattle.std.specs.Prelude.{◌||◌, IfSome, if◌then◌else◌}
use Rattle.std.specs.List.{AllByRecursion, list_any}
use Rattle.std.specs.Option.{option_or, option_to_list}
use Rattle.std.specs.Ordering.{is_eq, is_le, nat_cmp}
use Rattle.std.specs.Result.{is_ok}
use Rattle.std.proofs.lemmas.Bool.Decides.{nat_tests}
use Rattle.std.proofs.lemmas.Cmp.{nat_cmp_total}
use Rattle.proof_deeds.specs.raft_state.declared.ids.LogId.{LogId}
use Rattle.proof_deeds.specs.raft_state.declared.ids.Vote.{Vote}
use Rattle.proof_deeds.specs.raft_state.Consecutive.{follows_on}
use Rattle.proof_deeds.specs.raft_state.Log.{last}
use Rattle.proof_deeds.specs.raft_state.Order.{last_id_cmp}
use Rattle.proof_deeds.specs.raft_state.Same.{nat_same}
use Rattle.proof_deeds.specs.raft_state.State.{accepted}
use Rattle.proof_deeds.specs.raft_state.declared.policy.RejectAppendEntries.{RejectAppendEntries}
use Rattle.proof_deeds.specs.raft_state.declared.policy.RejectAppendEntries.TheVariants as reject
use Rattle.proof_deeds.proofs.raft_state_proofs.Orders.{last_total, le_trans}
use Rattle.proof_deeds.specs.raft_error.declared.error.EngineError.{EngineError}
use Rattle.proof_deeds.specs.raft_error.declared.error.EngineError.TheVariants.{CommittedNotHeld, ContradictsHeld, CounterEnd, IndexEnd, NotFollowing, Spent}
use Rattle.proof_deeds.specs.raft_error.Number.{first_refusal, number_of}
use Rattle.proof_deeds.specs.raft_command.declared.command.Command.TheVariants.{Respond}
use Rattle.proof_deeds.specs.raft_command.declared.message.AppendEntriesResponse.{AppendEntriesResponse}
use Rattle.proof_deeds.specs.raft_command.declared.message.AppendEntriesResponse.TheVariants.{Conflict, Success}
use Rattle.proof_deeds.specs.raft_command.declared.respond.Respond.TheVariants as respond
use Rattle.proof_deeds.specs.raft_command.Message.{append_response}
use Rattle.proof_deeds.specs.raft_steps.Laws.{QueuesOnly, later}
use Rattle.proof_deeds.specs.raft_steps.FollowingHandler.{commit_target}
use Rattle.proof_deeds.specs.raft_steps.Refusals.{is_at_end, is_counter_end, is_near_end, is_spent, refusals_of_counter, rows_in}
use Rattle.proof_deeds.specs.raft_steps.RequestRefusals.{contradicts_accepted, contradicts_committed, is_above_committed, is_above_vote, is_missing, refusals_of_append, refusals_of_commit, refusals_of_follow, refusals_of_held}
use Rattle.proof_deeds.specs.raft_steps.Requests.{append_answer, handle_append_entries, handle_commit_entries}
use Rattle.proof_deeds.specs.raft_steps.VoteHandler.{rejects_vote}
use Rattle.proof_deeds.proofs.raft_steps_proofs.Followed.{ids_asked}
use Rattle.proof_deeds.specs.raft_store.declared.entry.Entry.{Entry}
use Rattle.proof_deeds.specs.raft_store.Entries.{entry_meaning}
use Rattle.proof_deeds.specs.raft_store.Types.{EngineView, WorldCommand}
use Rattle.proof_deeds.specs.raft_calls.Deliveries.{answered as call_answered, appended, reply_token, take_append, take_commit, with_machine}
use Rattle.proof_deeds.specs.raft_node.Safety.{IsOtherRefusal}
use Rattle.proof_progress.proofs.Answering.{handle_commit_accepted, handle_commits, success_accepts, success_keeps}
use Rattle.proof_progress.proofs.Taking.{Calm, Took, handle_commit_calm, handle_commit_queues, heard_accepted, took}
use Rattle.proof_progress.proofs.WorksOff.{SendsNothing}

other_refusal : (k : ℕ) → 11 ≤ k → k ≤ 16 → IsOtherRefusal k → ⊥
other_refusal k l u (inl h) = omega (arith, l, h)
other_refusal k l u (inr h) = omega (arith, u, h)

-- a refusal by what doesn't fit is none, if it is another
fits_or : (a b c d e f : Bool) → a ≡ false
    → IfSome (first_refusal {E = EngineError ℕ (Unit {0})} ((a, IndexEnd) ∷ (b, NotFollowing) ∷ (c, NotFollowing) ∷ (d, ContradictsHeld) ∷ (e, ContradictsHeld) ∷ (f, ContradictsHeld) ∷ [])) (λ r. IsOtherRefusal (number_of r))
    → first_refusal {E = EngineError ℕ (Unit {0})} ((a, IndexEnd) ∷ (b, NotFollowing) ∷ (c, NotFollowing) ∷ (d, ContradictsHeld) ∷ (e, ContradictsHeld) ∷ (f, ContradictsHeld) ∷ []) ≡ None
fits_or true b c d e f q h = cc
fits_or false true c d e f q h = absurd (other_refusal (number_of {NID = ℕ} {N = Unit {0}} NotFollowing) (omega arith) (omega arith) h)
fits_or false false true d e f q h = absurd (other_refusal (number_of {NID = ℕ} {N = Unit {0}} NotFollowing) (omega arith) (omega arith) h)
fits_or false false false true e f q h = absurd (other_refusal (number_of {NID = ℕ} {N = Unit {0}} ContradictsHeld) (omega arith) (omega arith) h)
fits_or false false false false true f q h = absurd (other_refusal (number_of {NID = ℕ} {N = Unit {0}} ContradictsHeld) (omega arith) (omega arith) h)
fits_or false false false false false true q h = absurd (other_refusal (number_of {NID = ℕ} {N = Unit {0}} ContradictsHeld) (omega arith) (omega arith) h)
fits_or false false false false false false q h = refl

module _ (f : EngineView) (v : Vote ℕ) (prev : Option (LogId ℕ)) (es : List Entry) (told : Option (LogId ℕ)) (now : ℕ) (unspent : f.machine.core.output.spent ≡ false) (far : is_counter_end f.machine ≡ false)
    (low : rejects_vote nat_cmp f.machine.core.state v ≡ false) (committed : v.committed ≡ true) (other : is_eq (nat_cmp v.leader_id.node_id f.config.id) ≡ false)
    (below : list_any is_at_end (option_to_list prev ++ map (λ (x : Entry). x.log_id) es) ≡ false) (plain : IfSome (take_append v prev es told now f).0 IsOtherRefusal) where
  abbrev ids : List (LogId ℕ)
  ids = map (λ (x : Entry). x.log_id) es

  abbrev pub response : AppendEntriesResponse ℕ
  response = append_response (append_answer nat_cmp entry_meaning f.config v prev now f.machine)

  abbrev reply : WorldCommand
  reply = Respond None (respond.AppendEntries (record { value = append_response (append_answer nat_cmp entry_meaning f.config v prev now f.machine); token = reply_token }))

  abbrev entered : EngineView
  entered = appended v prev es now f

  is_taken : Took f.config v (append_response (append_answer nat_cmp entry_meaning f.config v prev now f.machine)) f.machine (appended v prev es now f).machine
  is_taken = took f.config v prev es now f.machine low other

  abbrev asks : Option (EngineError ℕ (Unit {0}))
  asks = refusals_of_append nat_cmp f.config v prev (map (λ (x : Entry). x.log_id) es) f.machine

  -- the entries aren't refused
  unrefused : refusals_of_append nat_cmp f.config v prev (map (λ (x : Entry). x.log_id) es) f.machine ≡ None
  unrefused = go asks refl plain
    where
      by_ids : asks ≡ refusals_of_follow nat_cmp f.machine.core.state v prev (map (λ (x : Entry). x.log_id) es)
      by_ids = ids_asked nat_cmp f.config v prev ids f.machine unspent far committed other low

      go : (x : Option (EngineError ℕ (Unit {0}))) → refusals_of_append nat_cmp f.config v prev (map (λ (x : Entry). x.log_id) es) f.machine ≡ x
          → IfSome (let z : Option ℕ × EngineView = elim x [
            | Some r ↦ (Some (number_of r), f)
            | None ↦ (if is_ok (append_answer nat_cmp entry_meaning f.config v prev now f.machine) then take_commit told (appended v prev es now f) else (None, appended v prev es now f))
          ] in z).0 IsOtherRefusal
          → refusals_of_append nat_cmp f.config v prev (map (λ (x : Entry). x.log_id) es) f.machine ≡ None
      go None q h = q
      go (Some r) q h =
          by_ids
          ∙ fits_or (list_any is_at_end (option_to_list prev ++ ids)) (not (follows_on nat_cmp prev ids)) (list_any (is_above_vote nat_cmp v) (option_to_list prev ++ ids)) (list_any (is_above_committed nat_cmp f.machine.core.state) (option_to_list prev))
          (list_any (contradicts_committed nat_cmp f.machine.core.state) ids) (list_any (contradicts_accepted nat_cmp f.machine.core.state v) (option_to_list prev ++ ids)) below
          (subst (λ (o : Option (EngineError ℕ (Unit {0}))). IfSome o (λ r. IsOtherRefusal (number_of r))) (sym q ∙ by_ids) h)

  -- nor is the commit after them
  held : (x : Bool) (done : EngineView) → IfSome (call_answered (first_refusal {E = EngineError ℕ (Unit {0})} ((x, CommittedNotHeld) ∷ [])) (appended v prev es now f) done).0 IsOtherRefusal
      → first_refusal {E = EngineError ℕ (Unit {0})} ((x, CommittedNotHeld) ∷ []) ≡ None
  held true done h = absurd (other_refusal (number_of {NID = ℕ} {N = Unit {0}} CommittedNotHeld) (omega arith) (omega arith) h)
  held false done h = refl

  counts : refusals_of_counter (appended v prev es now f).machine ≡ None
  counts = go (is_spent (appended v prev es now f).machine) (is_counter_end (appended v prev es now f).machine) (is_taken.spent ∙ unspent) (still (is_near_end f.machine.core.output.seq) (is_near_end (appended v prev es now f).machine.core.output.seq) (list_any (λ row. is_near_end row.1.last_inflight_id) (rows_in (appended v prev es now f).machine)) (list_any (λ row. is_near_end row.1.last_inflight_id) (rows_in f.machine)) (near (appended v prev es now f).machine.core.output.seq f.machine.core.output.seq is_taken.seq) rows far)
    where
      near : (k n : ℕ) → k ≤ n + 0 → is_near_end n ≡ false → is_near_end k ≡ false
      near k n l e = grind (arith, nat_tests)

      rows : list_any (λ row. is_near_end row.1.last_inflight_id) (rows_in (appended v prev es now f).machine) ≡ false
      rows = rw is_taken.leader refl

      still : (a x y z : Bool) → (a ≡ false → x ≡ false) → y ≡ false → (a || z) ≡ false → (x || y) ≡ false
      still true x y z p q e = cc
      still false x y z p q e = rw (p refl, q) refl

      go : (a b : Bool) → a ≡ false → b ≡ false → ◌≡◌ {A = Option (EngineError ℕ (Unit {0}))} (first_refusal ((a, Spent) ∷ (b, CounterEnd) ∷ [])) None
      go a b p q = rw (p, q) refl

  held_is : refusals_of_commit nat_cmp told (appended v prev es now f).machine ≡ first_refusal ((is_missing nat_cmp (appended v prev es now f).machine.core.state (commit_target nat_cmp (appended v prev es now f).machine.core.state told), CommittedNotHeld) ∷ [])
  held_is = ap (λ (o : Option (EngineError ℕ (Unit {0}))). option_or o (refusals_of_held nat_cmp (appended v prev es now f).machine.core.state told)) counts

  -- the engine after the call: it follows, and its answer is queued
  pub record After : Type 0 where
    pub engine : EngineView
    pub call : ◌≡◌ {A = Option ℕ × EngineView} (take_append v prev es told now f) (None, engine)
    pub leader : engine.machine.leader ≡ None
    pub candidate : engine.machine.candidate ≡ None
    pub vote : engine.machine.core.state.vote ≡ v
    pub spent : engine.machine.core.output.spent ≡ false
    pub config : engine.config ≡ f.config
    pub before : List WorldCommand
    pub seq : engine.machine.core.output.seq ≤ f.machine.core.output.seq + 2
    pub accepts : append_response (append_answer nat_cmp entry_meaning f.config v prev now f.machine) ≡ Success
        → is_le (last_id_cmp nat_cmp (later nat_cmp prev (last (map (λ (x : Entry). x.log_id) es))) (accepted nat_cmp engine.machine.core.state)) ≡ true
    pub commits : f.machine.core.state.vote ≡ v → append_response (append_answer nat_cmp entry_meaning f.config v prev now f.machine) ≡ Success → is_le (last_id_cmp nat_cmp told (accepted nat_cmp f.machine.core.state)) ≡ true
        → is_le (last_id_cmp nat_cmp told engine.machine.core.state.committed) ≡ true
    pub keeps : append_response (append_answer nat_cmp entry_meaning f.config v prev now f.machine) ≡ Conflict → engine.machine.core.state.committed ≡ f.machine.core.state.committed
    pub behind : List WorldCommand
    pub silent : AllByRecursion SendsNothing behind
    pub items : engine.machine.core.output.items ≡ before ++ Respond None (respond.AppendEntries (record { value = append_response (append_answer nat_cmp entry_meaning f.config v prev now f.machine); token = reply_token })) ∷ behind

  -- what it has accepted after the entries
  accepts_first : append_response (append_answer nat_cmp entry_meaning f.config v prev now f.machine) ≡ Success
      → is_le (last_id_cmp nat_cmp (later nat_cmp prev (last (map (λ (x : Entry). x.log_id) es))) (accepted nat_cmp (appended v prev es now f).machine.core.state)) ≡ true
  unfolding handle_append_entries
  accepts_first h = success_accepts nat_cmp nat_cmp_total nat_same f.config entry_meaning v prev now f.machine low es h

  accepts_still : f.machine.core.state.vote ≡ v → append_response (append_answer nat_cmp entry_meaning f.config v prev now f.machine) ≡ Success
      → is_le (last_id_cmp nat_cmp (accepted nat_cmp f.machine.core.state) (accepted nat_cmp (appended v prev es now f).machine.core.state)) ≡ true
  unfolding handle_append_entries
  accepts_still same h =
      subst (λ (o : Option (LogId ℕ)). is_le (last_id_cmp nat_cmp o (accepted nat_cmp (appended v prev es now f).machine.core.state)) ≡ true) (heard_accepted f.config v now f.machine low other same)
      (success_keeps nat_cmp nat_cmp_total nat_same f.config entry_meaning v prev now f.machine low es h)

  not_ok : (a : Result (Unit {0}) (RejectAppendEntries ℕ)) → is_ok a ≡ false → append_response a ≡ Success → ⊥
  not_ok (Ok x) q h = cc
  not_ok (Err (reject.ByVote w)) q h = cc
  not_ok (Err (reject.ByConflictingLogId y x)) q h = cc

  no_conflict : (a : Result (Unit {0}) (RejectAppendEntries ℕ)) → is_ok a ≡ true → append_response a ≡ Conflict → ⊥
  no_conflict (Ok x) q h = cc
  no_conflict (Err x) q h = cc

  few_then : (x y z : ℕ) → y ≤ x + 0 → z ≤ y + 2 → z ≤ x + 2
  few_then x y z a b = omega (arith, a, b)

  append_assoc : (xs ys zs : List WorldCommand) → (xs ++ ys) ++ zs ≡ xs ++ (ys ++ zs)
  append_assoc [] ys zs = refl
  append_assoc (x ∷ xs) ys zs = ap (λ ws. x ∷ ws) (append_assoc xs ys zs)

  pub after : After
  unfolding handle_commit_entries
  after = go asks unrefused (is_ok (append_answer nat_cmp entry_meaning f.config v prev now f.machine)) refl plain
    where
      Called : Option (EngineError ℕ (Unit {0})) → Bool → Option ℕ × EngineView
      Called x b = elim x as (λ _. Option ℕ × EngineView) [ Some r ↦ (Some (number_of r), f) | None ↦ (if b then take_commit told (appended v prev es now f) else (None, appended v prev es now f)) ]

      -- all of it as one equation
      called_is : (x : Option (EngineError ℕ (Unit {0}))) (b : Bool) → refusals_of_append nat_cmp f.config v prev (map (λ (x : Entry). x.log_id) es) f.machine ≡ x → is_ok (append_answer nat_cmp entry_meaning f.config v prev now f.machine) ≡ b
          → ◌≡◌ {A = Option ℕ × EngineView} (take_append v prev es told now f) (Called x b)
      called_is x b q k = λ i. Called (q i) (k i)

      done : EngineView
      done = with_machine (appended v prev es now f) (handle_commit_entries nat_cmp entry_meaning f.config told (appended v prev es now f).machine)

      more : QueuesOnly SendsNothing (appended v prev es now f).machine.core (handle_commit_entries nat_cmp entry_meaning f.config told (appended v prev es now f).machine).core
      more = handle_commit_queues f.config SendsNothing (λ seq a b t e E. refl) (λ seq t e E. refl) told (appended v prev es now f).machine

      calm : Calm 2 (appended v prev es now f).machine.core (handle_commit_entries nat_cmp entry_meaning f.config told (appended v prev es now f).machine).core
      calm = handle_commit_calm f.config told (appended v prev es now f).machine

      committed_engine : IfSome (take_commit told (appended v prev es now f)).0 IsOtherRefusal → is_ok (append_answer nat_cmp entry_meaning f.config v prev now f.machine) ≡ true → After
      committed_engine h ok =
          let none : refusals_of_commit nat_cmp told (appended v prev es now f).machine ≡ None =
          held_is
          ∙ held (is_missing nat_cmp (appended v prev es now f).machine.core.state (commit_target nat_cmp (appended v prev es now f).machine.core.state told)) done
          (subst (λ (r : Option (EngineError ℕ (Unit {0}))). IfSome (call_answered r (appended v prev es now f) done).0 IsOtherRefusal) held_is h) in
          record {
            engine = done;
            call = called_is None true unrefused ok ∙ ap (λ (r : Option (EngineError ℕ (Unit {0}))). call_answered r (appended v prev es now f) done) none;
            leader = is_taken.leader;
            candidate = is_taken.candidate;
            vote = calm.vote ∙ is_taken.vote;
            spent = calm.spent ∙ (is_taken.spent ∙ unspent);
            config = refl;
            before = is_taken.before;
            seq = few_then f.machine.core.output.seq (appended v prev es now f).machine.core.output.seq done.machine.core.output.seq is_taken.seq calm.seq;
            accepts = λ s.
                subst (λ o. is_le (last_id_cmp nat_cmp (later nat_cmp prev (last (map (λ (x : Entry). x.log_id) es))) o) ≡ true) (sym (handle_commit_accepted nat_cmp nat_cmp_total nat_same f.config entry_meaning told (appended v prev es now f).machine)) (accepts_first s);
            commits = λ same s h.
                handle_commits nat_cmp nat_cmp_total nat_same f.config entry_meaning told (appended v prev es now f).machine
                (le_trans (last_total nat_cmp nat_cmp_total) told (accepted nat_cmp f.machine.core.state) (accepted nat_cmp (appended v prev es now f).machine.core.state) h (accepts_still same s));
            keeps = λ h. absurd (no_conflict (append_answer nat_cmp entry_meaning f.config v prev now f.machine) ok h);
            behind = more.added;
            silent = more.each;
            items = more.behind ∙ (ap (λ (xs : List WorldCommand). xs ++ more.added) is_taken.answers ∙ append_assoc is_taken.before (reply ∷ []) more.added);
          }

      go : (x : Option (EngineError ℕ (Unit {0}))) → refusals_of_append nat_cmp f.config v prev (map (λ (x : Entry). x.log_id) es) f.machine ≡ None → (b : Bool) → is_ok (append_answer nat_cmp entry_meaning f.config v prev now f.machine) ≡ b → IfSome (take_append v prev es told now f).0 IsOtherRefusal → After
      go x none true ok h = committed_engine (subst (λ (r : Option ℕ × EngineView). IfSome r.0 IsOtherRefusal) (called_is None true none ok) h) ok
      go x none false ok h = record {
        engine = appended v prev es now f;
        call = called_is None false none ok;
        leader = is_taken.leader;
        candidate = is_taken.candidate;
        vote = is_taken.vote;
        spent = is_taken.spent ∙ unspent;
        config = refl;
        before = is_taken.before;
        seq = few_then f.machine.core.output.seq (appended v prev es now f).machine.core.output.seq (appended v prev es now f).machine.core.output.seq is_taken.seq (omega arith);
        accepts = accepts_first;
        commits = λ same s h. absurd (not_ok (append_answer nat_cmp entry_meaning f.config v prev now f.machine) ok s);
        keeps = λ h. is_taken.committed;
        behind = [];
        silent = tt;
        items = is_taken.answers;
      }
