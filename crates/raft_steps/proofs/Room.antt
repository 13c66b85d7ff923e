-- If a no-op entry would be proposed, the refusals leave an index for it.
use Rattle.std.specs.Prelude.{◌≡◌, ℕ, ◌+◌, ◌<◌, ◌^◌, ◌==◌, Bool, true, false, ◌&&◌, not, List, [], ◌∷◌, Option, None, Some, IfSome, refl, find}
use Rattle.std.specs.List.{AllByRecursion, last_or}
use Rattle.std.proofs.Common.{ap, sym, ◌∙◌, cond, arith, inl, inr, subst, lit<}
use Rattle.std.proofs.lemmas.Bool.Decides.{nat_tests}
use Rattle.std.specs.declared.cmp.Ordering.{Ordering}
use Rattle.std.specs.declared.cmp.Ordering.TheVariants.{Equal}
use Rattle.std.specs.Ordering.{is_eq, is_lt, is_le}
use Rattle.std.specs.Cmp.{IsTotalOrder}
use Rattle.raft_state.specs.declared.ids.LogId.{LogId}
use Rattle.raft_state.specs.declared.ids.Vote.{Vote}
use Rattle.raft_state.specs.declared.state.RaftState.{RaftState}
use Rattle.raft_state.specs.Order.{leader_id_cmp, last_id_cmp, next}
use Rattle.raft_state.specs.Log.{last}
use Rattle.raft_state.specs.Fits.{is_within}
use Rattle.raft_state.specs.Same.{leader_id_same}
use Rattle.raft_state.specs.State.{ends_of_leader, first_of}
use Rattle.raft_proposer.specs.Joint.{u64_max}
use Rattle.raft_proposer.specs.Leader.{blank_id}
use Rattle.raft_state.specs.Invariants.{IsBelowEnd, IsSoundState, first_index}
use Rattle.raft_state.proofs.Orders.{le_refl, lt_not_ge, last_total, within_le, is_equal}
use Rattle.raft_state.proofs.LogLists.{last_is, Has, has_within}
use Rattle.raft_steps.specs.VoteHandler.{rejects_vote}
use Rattle.raft_steps.specs.Room.{HasRoom, is_full, leads_anew, MayLead}
use Rattle.raft_proposer.specs.Joint.{JointLeader}
use Rattle.raft_command.specs.declared.config.EngineConfig.{EngineConfig}

last_or_each : {X : Type 0} (P : X → Type 0) (d : Option X) (xs : List X) → IfSome d P → AllByRecursion P xs → IfSome (last_or d xs) P
last_or_each P d [] h k = h
last_or_each P d (x ∷ xs) h k = last_or_each P (Some x) xs k.0 k.1

-- what holds of each id holds of the last
pub last_each : {NID : Type 0} (P : LogId NID → Type 0) (ids : List (LogId NID)) → AllByRecursion P ids → IfSome (last ids) P
last_each P ids h = subst (λ d. IfSome d P) (sym (last_is ids)) (last_or_each P None ids tt h)

module _ {NID : Type 0} where
  -- what is found is there, and passes the test
  pub find_has : (p : LogId NID → Bool) (xs : List (LogId NID)) → IfSome (find p xs) (λ y. (p y ≡ true) × Has y xs)
  find_has p [] = tt
  find_has p (x ∷ xs) = go (p x) refl (find_has p xs) where
    later : (o : Option (LogId NID)) → IfSome o (λ y. (p y ≡ true) × Has y xs) → IfSome o (λ y. (p y ≡ true) × Has y (x ∷ xs))
    later None h = tt
    later (Some y) h = (h.0, inr h.1)

    go : (b : Bool) → p x ≡ b → IfSome (find p xs) (λ y. (p y ≡ true) × Has y xs) → IfSome (cond b (Some x) (find p xs)) (λ y. (p y ≡ true) × Has y (x ∷ xs))
    go true e h = (e, inl refl)
    go false e h = later (find p xs) h

module _ {NID : Type 0} (cmp : NID → NID → Ordering) (total : IsTotalOrder cmp) (same : (a b : NID) → cmp a b ≡ Equal → a ≡ b) where
  not_lt : {X : Type 0} → (x y : Option (LogId NID)) → is_le (last_id_cmp cmp y x) ≡ true → is_lt (last_id_cmp cmp x y) ≡ true → X
  not_lt x y h e = let no : false ≡ true = sym (lt_not_ge (last_total cmp total) x y e) ∙ h in cc

  -- where the last id is of the vote's leader, no blank is proposed
  none_proposed : {X : Type 0} → (v : Vote NID) (x : LogId NID) (first : Option (LogId NID)) → is_eq (leader_id_cmp cmp x.leader_id v.leader_id) ≡ true
      → IfSome first (λ f. (is_eq (leader_id_cmp cmp f.leader_id x.leader_id) ≡ true) × (is_le (last_id_cmp cmp (Some f) (Some x)) ≡ true))
      → is_lt (last_id_cmp cmp (last (ends_of_leader cmp first x)) (Some (blank_id cmp v (ends_of_leader cmp first x)))) ≡ true → X
  none_proposed v x None e h = rw e (not_lt (Some x) (Some x) (le_refl (last_total cmp total) (Some x)))
  none_proposed v x (Some f) e h =
      let own : is_eq (leader_id_cmp cmp f.leader_id v.leader_id) ≡ true =
      subst (λ l. is_eq (leader_id_cmp cmp l v.leader_id) ≡ true) (sym (leader_id_same cmp same f.leader_id x.leader_id (is_equal _ h.0))) e in
      go (f.index == x.index) own where
        go : {X : Type 0} → (b : Bool) → is_eq (leader_id_cmp cmp f.leader_id v.leader_id) ≡ true
            → is_lt (last_id_cmp cmp (last (cond b (x ∷ []) (f ∷ x ∷ []))) (Some (blank_id cmp v (cond b (x ∷ []) (f ∷ x ∷ []))))) ≡ true → X
        go true own = rw e (not_lt (Some x) (Some x) (le_refl (last_total cmp total) (Some x)))
        go false own = rw own (not_lt (Some x) (Some f) h.1)

module _ {NID N : Type 0} (cmp : NID → NID → Ordering) (total : IsTotalOrder cmp) (same : (a b : NID) → cmp a b ≡ Equal → a ≡ b) where
  -- a log that isn't full has room
  pub room_of : (v : Vote NID) (s : RaftState NID N) → IsSoundState cmp s → is_full cmp v s.ids ≡ false → HasRoom cmp v s
  room_of v s h full = go (last s.ids) refl full (last_each IsBelowEnd s.ids h.log.below_end) where
    below : (i : ℕ) → (i + 1 == u64_max) ≡ false → i + 1 < 2 ^ 64 → (i + 1) + 1 < 2 ^ 64
    below i e l = grind (arith, nat_tests)

    go : (o : Option (LogId NID)) → last s.ids ≡ o
        → elim o [ None ↦ false | Some x ↦ not (is_eq (leader_id_cmp cmp x.leader_id v.leader_id)) && (x.index + 1 == u64_max) ] ≡ false
        → IfSome o IsBelowEnd → HasRoom cmp v s
    go None e f l = λ q. rw e (omega arith)
    go (Some x) e f l = by (is_eq (leader_id_cmp cmp x.leader_id v.leader_id)) refl f where
      by : (b : Bool) → is_eq (leader_id_cmp cmp x.leader_id v.leader_id) ≡ b → (not b && (x.index + 1 == u64_max)) ≡ false → HasRoom cmp v s
      by false q f = λ z. rw e (below x.index f l)
      by true q f = rw e (none_proposed cmp total same v x (first_of cmp x.leader_id s.ids) q (firsts (first_of cmp x.leader_id s.ids) (find_has (λ id. is_eq (leader_id_cmp cmp id.leader_id x.leader_id)) s.ids))) where
        firsts : (f : Option (LogId NID)) → IfSome f (λ y. (is_eq (leader_id_cmp cmp y.leader_id x.leader_id) ≡ true) × Has y s.ids)
            → IfSome f (λ y. (is_eq (leader_id_cmp cmp y.leader_id x.leader_id) ≡ true) × (is_le (last_id_cmp cmp (Some y) (Some x)) ≡ true))
        firsts None h = tt
        firsts (Some y) k = (
          k.0,
          within_le cmp total (Some y) (Some x) (subst (λ d. is_within cmp (Some y) d ≡ true) (sym (last_is s.ids) ∙ e)
              (has_within cmp total y None (first_index s.purged) s.ids h.log.run h.log.rising k.1)),
        )

second_fails_with : (a b : Bool) → (a && b) ≡ false → a ≡ true → b ≡ false
second_fails_with true b e h = e
second_fails_with false b e h = cc

module _ {C NID N E D R S : Type 0} (cmp : NID → NID → Ordering) (total : IsTotalOrder cmp) (same : (a b : NID) → cmp a b ≡ Equal → a ≡ b) (config : EngineConfig NID) where
  -- a vote whose blank entry would not get the greatest index may lead
  pub may_lead : (v : Vote NID) (s : RaftState NID N) (leader : Option (JointLeader C NID N E D R S)) → IsSoundState cmp s
      → (leads_anew cmp config v s.em.membership leader && is_full cmp v s.ids) ≡ false → MayLead cmp config v s.em.membership s.ids leader
  may_lead v s leader h e = λ anew. room_of cmp total same v s h (second_fails_with (leads_anew cmp config v s.em.membership leader) (is_full cmp v s.ids) e anew)

  -- and so may one that is taken
  pub may_take : (v : Vote NID) (s : RaftState NID N) (leader : Option (JointLeader C NID N E D R S)) → IsSoundState cmp s
      → (not (rejects_vote cmp s v) && (leads_anew cmp config v s.em.membership leader && is_full cmp v s.ids)) ≡ false → rejects_vote cmp s v ≡ false → MayLead cmp config v s.em.membership s.ids leader
  may_take v s leader h e low =
      may_lead v s leader h
      (second_fails_with (not (rejects_vote cmp s v)) (leads_anew cmp config v s.em.membership leader && is_full cmp v s.ids) e (ap not low))

module _ {NID N : Type 0} (cmp : NID → NID → Ordering) where
  -- a log in order leaves an index after its last one
  pub log_end : (s : RaftState NID N) → IsSoundState cmp s → next (last s.ids) < 2 ^ 64
  log_end s h = go (last s.ids) (last_each IsBelowEnd s.ids h.log.below_end) where
    go : (o : Option (LogId NID)) → IfSome o IsBelowEnd → next o < 2 ^ 64
    go None l = lit< tt
    go (Some x) l = l
