-- What the refusals of a request leave.
use Rattle.std.specs.Prelude.{◌≡◌, ℕ, ◌+◌, ◌-◌, ◌<◌, ◌≤◌, ◌^◌, nat_le, Bool, true, false, not, ◌&&◌, ◌||◌, Ok, List, [], ◌∷◌, Option, None, Some, Result, Err, refl, if◌then◌else◌}
use Rattle.std.proofs.Common.{ap, arith, sym, ◌∙◌}
use Rattle.raft_state.specs.declared.config.RaftEntry
use Rattle.raft_state.specs.declared.policy.RejectAppendEntries.{RejectAppendEntries}
use Rattle.raft_state.specs.declared.policy.RejectAppendEntries.TheVariants as reject
use Rattle.raft_steps.specs.Requests.{append_answer, append_entries, follow}
use Rattle.std.specs.List.{list_any}
use Rattle.raft_state.proofs.Orders.{nat_le_is, nat_le_of}
use Rattle.raft_state.specs.declared.state.RaftState.{RaftState}
use Rattle.raft_steps.specs.FollowingHandler.{holds_previous, consecutive_answer}
use Rattle.std.proofs.lemmas.Bool.Decides.{nat_tests}
use Rattle.std.specs.Option.{option_or}
use Rattle.std.specs.Ordering.{is_eq}
use Rattle.std.specs.declared.cmp.Ordering.{Ordering}
use Rattle.raft_state.specs.declared.ids.LogId.{LogId}
use Rattle.raft_state.specs.declared.ids.Vote.{Vote}
use Rattle.raft_state.specs.Members.{contains}
use Rattle.raft_progress_entry.specs.raft_error.Number.{first_refusal}
use Rattle.raft_progress_entry.specs.raft_error.declared.error.EngineError.{EngineError}
use Rattle.raft_progress_entry.specs.raft_error.declared.error.EngineError.TheVariants.{Spent, CounterEnd, VoteNotCommitted, OwnVote}
use Rattle.raft_command.specs.declared.config.EngineConfig.{EngineConfig}
use Rattle.raft_steps.specs.Refusals.{is_near_end, is_spent, is_counter_end, rows_in}
use Rattle.raft_steps.specs.Parts.{Core, Machine, on_core}
use Rattle.raft_steps.specs.RequestRefusals.{refusals_of_append, refusals_of_follow}
use Rattle.raft_steps.specs.Room.{MayLead, HasRoomAfter, is_new}
use Rattle.raft_steps.specs.VoteHandler.{rejects_vote, update_vote}

same_test : (a b : Bool) → (a ≡ true → b ≡ true) → (b ≡ true → a ≡ true) → a ≡ b
same_test true b f g = sym (f refl)
same_test false true f g = g refl
same_test false false f g = refl

-- at most a lease behind a moment, and at most at the lease's end
pub lease_is : (now since lease : ℕ) → nat_le (now - since) lease ≡ nat_le now (since + lease)
lease_is now since lease =
    same_test (nat_le (now - since) lease) (nat_le now (since + lease))
    (λ h. let k : now - since ≤ lease = nat_le_is _ _ h in nat_le_of now (since + lease) (omega (arith, k)))
    (λ h. let k : now ≤ since + lease = nat_le_is _ _ h in nat_le_of (now - since) lease (omega (arith, k)))

module _ {NID N : Type 0} (cmp : NID → NID → Ordering) where
  -- an append behind an id that is held isn't rejected
  pub held_answer : (s : RaftState NID N) (prev : Option (LogId NID)) → holds_previous cmp s prev ≡ true → consecutive_answer cmp s prev ≡ Ok tt
  held_answer s None h = refl
  held_answer s (Some x) h = rw h refl

else_is : {A : Type 0} (b : Bool) (x y : A) → b ≡ false → y ≡ (if b then x else y)
else_is true x y e = cc
else_is false x y e = refl

module _ {C NID N E D R S : Type 0} (cmp : NID → NID → Ordering) (entry : RaftEntry.Ghosts E NID N) (config : EngineConfig NID) where
  -- an append's answer, once its vote is taken
  pub answer_is : (v : Vote NID) (prev : Option (LogId NID)) (now : ℕ) (m n : Machine C NID N E D R S) (a : Result (Unit {0}) (RejectAppendEntries NID)) → rejects_vote cmp m.core.state v ≡ false
      → n ≡ update_vote cmp entry config v now m → a ≡ consecutive_answer cmp n.core.state prev → a ≡ append_answer cmp entry config v prev now m
  unfolding append_answer
  answer_is v prev now m n a low e h =
      h ∙ ap (λ (k : Machine C NID N E D R S). consecutive_answer cmp k.core.state prev) e
      ∙ else_is (rejects_vote cmp m.core.state v) (Err (reject.ByVote m.core.state.vote)) (consecutive_answer cmp (update_vote cmp entry config v now m).core.state prev) low

  -- and what it leaves
  pub append_is : (v : Vote NID) (prev : Option (LogId NID)) (es : List E) (now : ℕ) (m n : Machine C NID N E D R S) (q : Core C NID N E D R S) → rejects_vote cmp m.core.state v ≡ false
      → n ≡ update_vote cmp entry config v now m → q ≡ follow cmp entry config prev es n.core → record n { core = q } ≡ append_entries cmp entry config v prev es now m
  unfolding append_entries
  append_is v prev es now m n q low e h =
      ap (λ (k : Core C NID N E D R S). record n { core = k }) h ∙ ap (on_core (follow cmp entry config prev es)) e
      ∙ else_is (rejects_vote cmp m.core.state v) m (on_core (follow cmp entry config prev es) (update_vote cmp entry config v now m)) low

-- a number that isn't near its end may be counted on from
pub counted : (n : ℕ) → is_near_end n ≡ false → n + 2 < 2 ^ 64
counted n e = grind (arith, nat_tests, e)

module _ {C NID N E D R S : Type 0} where
  -- and so may an engine's, whose numbers aren't near their end
  pub counted_engine : (m : Machine C NID N E D R S) → is_counter_end m ≡ false → m.core.output.seq + 2 < 2 ^ 64
  counted_engine m e = counted m.core.output.seq (first (is_near_end m.core.output.seq) (list_any (λ row. is_near_end row.1.last_inflight_id) (rows_in m)) e) where
    first : (a b : Bool) → (a || b) ≡ false → a ≡ false
    first true b e = cc
    first false b e = refl

module _ {C NID N E D R S : Type 0} (cmp : NID → NID → Ordering) (config : EngineConfig NID) where
  -- if an append's vote passes and isn't below the node's own, its ids are checked
  pub ids_asked : (v : Vote NID) (prev : Option (LogId NID)) (ids : List (LogId NID)) (m : Machine C NID N E D R S) → is_spent m ≡ false → is_counter_end m ≡ false → v.committed ≡ true
      → is_eq (cmp v.leader_id.node_id config.id) ≡ false → rejects_vote cmp m.core.state v ≡ false → refusals_of_append cmp config v prev ids m ≡ refusals_of_follow cmp m.core.state v prev ids
  ids_asked v prev ids m p q r s t =
      by_tests (is_spent m) (is_counter_end m) v.committed (is_eq (cmp v.leader_id.node_id config.id)) (rejects_vote cmp m.core.state v) (refusals_of_follow cmp m.core.state v prev ids) p q r s t where
        by_tests : (a b c d f : Bool) (more : Option (EngineError NID N)) → a ≡ false → b ≡ false → c ≡ true → d ≡ false → f ≡ false
            → option_or (first_refusal ((a, Spent) ∷ (b, CounterEnd) ∷ (not c, VoteNotCommitted) ∷ (d, OwnVote) ∷ [])) (if f then None else more) ≡ more
        by_tests a b c d f more p q r s t = rw (p, q, r, s, t) refl

  -- an append that isn't refused isn't of this node's own vote, and so makes no leader of it
  pub append_may : (v : Vote NID) (prev : Option (LogId NID)) (ids : List (LogId NID)) (m : Machine C NID N E D R S) → refusals_of_append cmp config v prev ids m ≡ None
      → MayLead cmp config v m.core.state.em.membership m.core.state.ids m.leader
  append_may v prev ids m e =
      go (is_spent m) (is_counter_end m) v.committed (is_eq (cmp v.leader_id.node_id config.id)) (contains cmp m.core.state.em.membership config.id) (is_new cmp v m.leader)
      (if rejects_vote cmp m.core.state v then None else refusals_of_follow cmp m.core.state v prev ids) e where
        go : (a b c d f g : Bool) (more : Option (EngineError NID N))
            → option_or (first_refusal ((a, Spent) ∷ (b, CounterEnd) ∷ (not c, VoteNotCommitted) ∷ (d, OwnVote) ∷ [])) more ≡ None
            → (c && d && f && g) ≡ true → HasRoomAfter cmp v m.core.state.ids
        go true b c d f g more e h = cc
        go false true c d f g more e h = cc
        go false false false d f g more e h = cc
        go false false true true f g more e h = cc
        go false false true false f g more e h = cc
