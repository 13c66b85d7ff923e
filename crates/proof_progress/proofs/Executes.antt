-- Nodes are told what their leader has committed, and commit it.
use Rattle.std.proofs.Common.{ℕ, suc, ◌+◌, ◌*◌, ◌<◌, ◌≤◌, ◌≡◌, ◌≢◌, ◌⊎◌, inl, inr, true, false, List, [], ◌∷◌, ◌++◌, length, arith, refl, sym, ap, ◌∙◌, subst, Option, None, Some}
use Rattle.std.specs.Prelude.{◌^◌}
use Rattle.std.specs.List.{AllByRecursion}
use Rattle.std.specs.Ordering.{is_le, nat_cmp}
use Rattle.std.proofs.Math.Nat.{add-mul, mul-suc}
use Rattle.std.proofs.lemmas.Cmp.{nat_cmp_total}
use Rattle.proof_deeds.specs.raft_state.declared.ids.LogId.{LogId}
use Rattle.proof_deeds.specs.raft_state.declared.ids.Vote.{Vote}
use Rattle.proof_deeds.specs.raft_state.Log.{last}
use Rattle.proof_deeds.specs.raft_state.Order.{last_id_cmp, next}
use Rattle.proof_deeds.specs.raft_state.Same.{nat_same}
use Rattle.proof_deeds.specs.raft_state.State.{has_log_id}
use Rattle.proof_deeds.proofs.raft_state_proofs.Orders.{last_total, le_antisymm, within_le, within_next}
use Rattle.proof_deeds.specs.raft_command.declared.message.AppendEntriesResponse.TheVariants.{Conflict, Success}
use Rattle.proof_deeds.specs.raft_progress.Quorum.{is_quorum}
use Rattle.proof_deeds.specs.raft_steps.VoteHandler.{rejects_vote}
use Rattle.proof_deeds.specs.raft_proposer.Joint.{u64_max}
use Rattle.proof_deeds.proofs.raft_steps_proofs.LawsQueue.{append_append, append_none}
use Rattle.proof_deeds.specs.raft_store.declared.entry.Entry.{Entry}
use Rattle.proof_deeds.specs.raft_store.declared.entry.Value.{Value}
use Rattle.proof_deeds.specs.raft_schedule.declared.event.Event.{Event}
use Rattle.proof_deeds.specs.raft_calls.declared.message.Body.TheVariants as body
use Rattle.proof_deeds.specs.raft_calls.declared.message.Message.{Message}
use Rattle.proof_deeds.specs.raft_node.declared.given.Given.{Given}
use Rattle.proof_deeds.specs.raft_node.Events.{happens, message_at}
use Rattle.proof_deeds.specs.raft_node.Net.{Net, NodeView}
use Rattle.proof_deeds.specs.raft_node.Runs.{whole_logs, world_after}
use Rattle.proof_deeds.specs.raft_node.WellFormed.{IsWellFormed}
use Rattle.proof_deeds.specs.raft_node.Work.{weight}
use Rattle.proof_progress.specs.CatchUps.{AllMatchAfter, CanServe, HasCaughtUp, MayCatchUp, log_len}
use Rattle.proof_progress.specs.Commits.{CanCatchUp, CommitsAfter, ExecutesAfter, HasCommitted, IsBehind, WorldsExecute, needed}
use Rattle.proof_progress.specs.Continuations.{At, deliver, propose}
use Rattle.proof_progress.specs.Elections.{Listed}
use Rattle.proof_progress.specs.Exchanges.{FollowsAt, HasNumbers, IsTold, LeadsAt, MayTake, led}
use Rattle.proof_progress.specs.Plans.{bring_all, number_of, replicate, sends, tell, tell_all, tells, world_then}
use Rattle.proof_progress.specs.Proposals.{EachOnce, IsVoter, id_past}
use Rattle.proof_progress.proofs.AllCatchUp.{fewer_caught, worlds_all_match}
use Rattle.proof_progress.proofs.Applies.{applied_is, applies}
use Rattle.proof_progress.proofs.CanElect.{goes_after}
use Rattle.proof_progress.proofs.CatchesUp.{less_numbers, takes_as}
use Rattle.proof_progress.proofs.FollowerEvents as follower
use Rattle.proof_progress.proofs.InFlight.{leader_runs}
use Rattle.proof_progress.proofs.LeadersKnow.{knows, sound_led}
use Rattle.proof_progress.proofs.Matches.{same_last}
use Rattle.proof_progress.proofs.Numbered.{told_first}
use Rattle.proof_progress.proofs.Planned.{bring_both, planned_then, tell_is, tells_next}
use Rattle.proof_progress.proofs.ProposalCommits.{worlds_commit}
use Rattle.proof_progress.proofs.Rising.{all_rise}
use Rattle.proof_progress.proofs.Values.{executed_values, holds_left}

-- One node

module _ (given : Given) (wf : IsWellFormed given) (past : List Event) (now n t k : ℕ) (v : Vote ℕ) (y : LogId ℕ) (own : y.leader_id ≡ v.leader_id) (c : HasCaughtUp (world_after given past) now v (Some y) (k + 2) t) (m : IsTold (world_after given past) v n t (Some y)) where
  abbrev f : MayTake (world_after given past) now v (k + 2) t
  f = takes_as c.follows v refl

  abbrev all : List Event
  all = past ++ deliver m.number now ∷ []

  abbrev net1 : Net (List Entry)
  net1 = (happens whole_logs weight given (deliver m.number now) (world_after given past)).1

  world_is : world_after given all ≡ net1
  world_is = goes_after given past (deliver m.number now ∷ [])

  low_end : 0 < 2 ^ 64
  low_end = omega arith

  succeeds : follower.response given wf past now n t v k f m.number m.o None [] (Some y) m.there m.own low_end ≡ Success
  succeeds = go (follower.answers given wf past now n t v k f m.number m.o None [] (Some y) m.there m.own low_end)
    where
      go : (follower.response given wf past now n t v k f m.number m.o None [] (Some y) m.there m.own low_end ≡ Success)
          ⊎ ((z : LogId ℕ) × (None ≡ Some z) × (follower.response given wf past now n t v k f m.number m.o None [] (Some y) m.there m.own low_end ≡ Conflict) × (has_log_id nat_cmp c.follows.engine.machine.core.state z ≡ false))
          → follower.response given wf past now n t v k f m.number m.o None [] (Some y) m.there m.own low_end ≡ Success
      go (inl s) = s
      go (inr d) = let z : None ≡ Some d.0 = d.1 in cc

  follows1 : FollowsAt net1 now v k t
  follows1 = follower.follows_then given wf past now n t v k f m.number m.o None [] (Some y) m.there m.own low_end

  at1 : At (world_after given all).nodes t follows1.node
  at1 = subst (λ (w : Net (List Entry)). At w.nodes t follows1.node) (sym world_is) follows1.at

  commits1 : is_le (last_id_cmp nat_cmp (Some y) follows1.engine.machine.core.state.committed) ≡ true
  unfolding follows1
  commits1 = follower.commits_then given wf past now n t v k f m.number m.o None [] (Some y) m.there m.own low_end (c.follows.vote ∙ sym m.own) succeeds c.accepts

  pub told_commits : HasCommitted (world_after given all) now v (Some y) k t
  told_commits = record {
    follows = record {
      node = follows1.node;
      at = at1;
      moment = follows1.moment;
      engine = follows1.engine;
      runs = follows1.runs;
      unspent = follows1.unspent;
      numbers = follows1.numbers;
      vote = follows1.vote;
    };
    committed = commits1;
    applied = applies given wf all t follows1.node at1 follows1.engine follows1.runs y (own ∙ sym (ap (λ (w : Vote ℕ). w.leader_id) follows1.vote)) commits1;
  }

  pub told_others : (i : ℕ) (I : NodeView) → i ≢ t → At (world_after given past).nodes i I → At (world_after given all).nodes i I
  told_others i I d a = subst (λ (w : Net (List Entry)). At w.nodes i I) (sym world_is) (follower.others given wf past now n t v k f m.number m.o None [] (Some y) m.there m.own low_end i I d a)

  pub told_bag : (j : ℕ) (b : Message) → message_at (world_after given past).records.bag j ≡ Some b → message_at (world_after given all).records.bag j ≡ Some b
  told_bag j b q = ap (λ (w : Net (List Entry)). message_at w.records.bag j) world_is ∙ follower.bag_then given wf past now n t v k f m.number m.o None [] (Some y) m.there m.own low_end j b q

-- Several nodes

moved_caught : {net : Net (List Entry)} {now : ℕ} {v : Vote ℕ} {x : Option (LogId ℕ)} {k t : ℕ} → (c : HasCaughtUp net now v x k t) → (other : Net (List Entry)) → At other.nodes t c.follows.node → HasCaughtUp other now v x k t
moved_caught c other a = record {
  follows = record { node = c.follows.node; at = a; moment = c.follows.moment; engine = c.follows.engine; runs = c.follows.runs; unspent = c.follows.unspent; numbers = c.follows.numbers; vote = c.follows.vote };
  accepts = c.accepts;
}

moved_committed : {net : Net (List Entry)} {now : ℕ} {v : Vote ℕ} {x : Option (LogId ℕ)} {k t : ℕ} → (c : HasCommitted net now v x k t) → (other : Net (List Entry)) → At other.nodes t c.follows.node → HasCommitted other now v x k t
moved_committed c other a = record {
  follows = record { node = c.follows.node; at = a; moment = c.follows.moment; engine = c.follows.engine; runs = c.follows.runs; unspent = c.follows.unspent; numbers = c.follows.numbers; vote = c.follows.vote };
  committed = c.committed;
  applied = c.applied;
}

-- what is left after all of these events
record AllTold (given : Given) (past : List Event) (now n k : ℕ) (v : Vote ℕ) (x : Option (LogId ℕ)) (ts : List ℕ) (all : List Event) : Type 0 where
  planned : all ≡ past ++ tell_all given now n v x ts (world_after given past)
  each : AllByRecursion (HasCommitted (world_after given all) now v x k) ts
  others : (i : ℕ) (I : NodeView) → AllByRecursion (λ t. i ≢ t) ts → At (world_after given past).nodes i I → At (world_after given all).nodes i I

module _ (given : Given) (wf : IsWellFormed given) (now n k : ℕ) (v : Vote ℕ) (y : LogId ℕ) (own : y.leader_id ≡ v.leader_id) where
  all_told : (ts : List ℕ) (past : List Event) → EachOnce ts → AllByRecursion (HasCaughtUp (world_after given past) now v (Some y) (k + 2)) ts → AllByRecursion (λ t. IsTold (world_after given past) v n t (Some y)) ts
      → (more : List Event) × (length more ≤ length ts) × AllTold given past now n k v (Some y) ts (past ++ more)
  all_told [] past once c m = ([], omega arith, subst (AllTold given past now n k v (Some y) []) (append_none past) (record { planned = append_none past; each = tt; others = λ i I d a. a }))
  all_told (t ∷ ts) past once c m = joined (all_told ts (past ++ deliver first.0.number now ∷ []) once.1 (caught_on ts once.0 c.1) (told_on ts m.1))
    where
      -- the first request that tells it
      first : (h : IsTold (world_after given past) v n t (Some y))
          × (number_of (sends n t (tells v (Some y))) (world_after given past).records.bag ≡ Some h.number)
      first = told_first (world_after given past) v n t (Some y) m.0

      past1 : List Event
      past1 = past ++ deliver first.0.number now ∷ []

      caught_on : (us : List ℕ) → AllByRecursion (λ u. u ≢ t) us → AllByRecursion (HasCaughtUp (world_after given past) now v (Some y) (k + 2)) us
          → AllByRecursion (HasCaughtUp (world_after given past1) now v (Some y) (k + 2)) us
      caught_on [] d h = tt
      caught_on (u ∷ us) d h = (moved_caught h.0 _ (told_others given wf past now n t k v y own c.0 first.0 u h.0.follows.node d.0 h.0.follows.at), caught_on us d.1 h.1)

      told_on : (us : List ℕ) → AllByRecursion (λ u. IsTold (world_after given past) v n u (Some y)) us
          → AllByRecursion (λ u. IsTold (world_after given past1) v n u (Some y)) us
      told_on [] h = tt
      told_on (u ∷ us) h =
          (record { number = h.0.number; o = h.0.o; own = h.0.own; there = told_bag given wf past now n t k v y own c.0 first.0 h.0.number (record { from = n; to = u; body = body.AppendRequest h.0.o None [] (Some y) }) h.0.there }, told_on us h.1)

      away : (us : List ℕ) → AllByRecursion (λ u. u ≢ t) us → AllByRecursion (λ u. t ≢ u) us
      away [] d = tt
      away (u ∷ us) d = ((λ e. d.0 (sym e)), away us d.1)

      committed : HasCommitted (world_after given past1) now v (Some y) k t
      committed = told_commits given wf past now n t k v y own c.0 first.0

      joined : (more : List Event) × (length more ≤ length ts) × AllTold given past1 now n k v (Some y) ts (past1 ++ more)
          → (more : List Event) × (length more ≤ length (t ∷ ts)) × AllTold given past now n k v (Some y) (t ∷ ts) (past ++ more)
      joined r = (
        deliver first.0.number now ∷ r.0,
        (let h = r.1 in omega (arith, h)),
        subst (AllTold given past now n k v (Some y) (t ∷ ts)) (append_append past (deliver first.0.number now ∷ []) r.0)
            (record {
              planned = planned_then given past (deliver first.0.number now ∷ []) (tell_all given now n v (Some y) ts) past1 (past1 ++ r.0) refl r.2.planned
                  ∙ ap (λ (es : List Event). past ++ es) (sym (tells_next given now n v (Some y) t ts (world_after given past) first.0.number first.1));
              each = (moved_committed committed _ (r.2.others t committed.follows.node (away ts once.0) committed.follows.at), r.2.each);
              others = λ i I d a. r.2.others i I d.1 (told_others given wf past now n t k v y own c.0 first.0 i I d.0 a);
            }),
      )

-- Lists in two parts

pub left_of : {A : Type 0} (P : A → Type 0) (xs ys : List A) → AllByRecursion P (xs ++ ys) → AllByRecursion P xs
left_of P [] ys h = tt
left_of P (x ∷ xs) ys h = (h.0, left_of P xs ys h.1)

pub right_of : {A : Type 0} (P : A → Type 0) (xs ys : List A) → AllByRecursion P (xs ++ ys) → AllByRecursion P ys
right_of P [] ys h = h
right_of P (x ∷ xs) ys h = right_of P xs ys h.1

pub both_of : {A : Type 0} (P : A → Type 0) (xs ys : List A) → AllByRecursion P xs → AllByRecursion P ys → AllByRecursion P (xs ++ ys)
both_of P [] ys h k = k
both_of P (x ∷ xs) ys h k = (h.0, both_of P xs ys h.1 k)

once_left : (xs ys : List ℕ) → EachOnce (xs ++ ys) → EachOnce xs
once_left [] ys h = tt
once_left (x ∷ xs) ys h = (left_of (λ y. y ≢ x) xs ys h.0, once_left xs ys h.1)

once_right : (xs ys : List ℕ) → EachOnce (xs ++ ys) → EachOnce ys
once_right [] ys h = h
once_right (x ∷ xs) ys h = once_right xs ys h.1

-- those of one part aren't those of the other
once_apart : (xs ys : List ℕ) → EachOnce (xs ++ ys) → AllByRecursion (λ y. AllByRecursion (λ x. y ≢ x) xs) ys
once_apart xs ys h = go ys (each xs h)
  where
    each : (xs : List ℕ) → EachOnce (xs ++ ys) → AllByRecursion (λ x. AllByRecursion (λ y. y ≢ x) ys) xs
    each [] h = tt
    each (x ∷ xs) h = (right_of (λ y. y ≢ x) xs ys h.0, each xs h.1)

    heads : (xs : List ℕ) (y : ℕ) (zs : List ℕ) → AllByRecursion (λ x. AllByRecursion (λ z. z ≢ x) (y ∷ zs)) xs → AllByRecursion (λ x. y ≢ x) xs
    heads [] y zs k = tt
    heads (x ∷ xs) y zs k = (k.0.0, heads xs y zs k.1)

    tails : (xs : List ℕ) (y : ℕ) (zs : List ℕ) → AllByRecursion (λ x. AllByRecursion (λ z. z ≢ x) (y ∷ zs)) xs → AllByRecursion (λ x. AllByRecursion (λ z. z ≢ x) zs) xs
    tails [] y zs k = tt
    tails (x ∷ xs) y zs k = (k.0.1, tails xs y zs k.1)

    go : (ys : List ℕ) → AllByRecursion (λ x. AllByRecursion (λ y. y ≢ x) ys) xs → AllByRecursion (λ y. AllByRecursion (λ x. y ≢ x) xs) ys
    go [] k = tt
    go (y ∷ zs) k = (heads xs y zs k, go zs (tails xs y zs k))

length_both : {A : Type 0} (xs ys : List A) → length (xs ++ ys) ≡ length xs + length ys
length_both [] ys = omega arith
length_both (x ∷ xs) ys = let h = length_both xs ys in omega (arith, h)

pub away : (n : ℕ) (us : List ℕ) → AllByRecursion (λ u. u ≢ n) us → AllByRecursion (λ u. n ≢ u) us
away n [] d = tt
away n (u ∷ us) d = ((λ e. d.0 (sym e)), away n us d.1)

-- The whole of it

module _ (given : Given) (wf : IsWellFormed given) (past : List Event) (now n k : ℕ) (l : LeadsAt (world_after given past) now n) (v : Value) (vs : List Value) (t : ℕ) (ts us : List ℕ) (once : EachOnce (n ∷ t ∷ ts ++ us))
    (voters : AllByRecursion (IsVoter (led l)) (n ∷ t ∷ ts)) (quorum : is_quorum nat_cmp l.leader.progress.set (n ∷ t ∷ ts) ≡ true) (targets : AllByRecursion (Listed l.node.streams.targets) (t ∷ ts ++ us)) (keeps : CanServe l) (room : log_len l + length (v ∷ vs) ≤ u64_max)
    (numbers : HasNumbers (needed l (k + 2) (length (v ∷ vs)) (length (t ∷ ts ++ us))) l.engine.machine)
    (may : AllByRecursion (CanCatchUp l (needed l (k + 2) (length (v ∷ vs)) (length (t ∷ ts ++ us)))) (t ∷ ts ++ us)) where
  abbrev x : Option (LogId ℕ)
  x = Some (id_past (length vs) (led l))

  -- what is left for the others once the voters have caught up
  abbrev later : ℕ
  later = (k + 2) + length us * (4 * (log_len l + length (v ∷ vs)) + 2)

  split : needed l (k + 2) (length (v ∷ vs)) (length (t ∷ ts ++ us)) ≡ needed l ((k + 2) + length us * (4 * (log_len l + length (v ∷ vs)) + 2)) (length (v ∷ vs)) (length (t ∷ ts))
  split =
      ap (λ c. ((k + 2) + c * (4 * (log_len l + length (v ∷ vs)) + 2)) + 2) (length_both (t ∷ ts) us)
      ∙ (ap (λ c. ((k + 2) + c) + 2) (add-mul (length (t ∷ ts)) (length us) (4 * (log_len l + length (v ∷ vs)) + 2)) ∙ turned (k + 2) (length (t ∷ ts) * (4 * (log_len l + length (v ∷ vs)) + 2)) (length us * (4 * (log_len l + length (v ∷ vs)) + 2)))
    where
      turned : (a b c : ℕ) → (a + (b + c)) + 2 ≡ ((a + c) + b) + 2
      turned a b c = omega arith

  may_split : AllByRecursion (CanCatchUp l (needed l ((k + 2) + length us * (4 * (log_len l + length (v ∷ vs)) + 2)) (length (v ∷ vs)) (length (t ∷ ts)))) (t ∷ ts ++ us)
  may_split = subst (λ j. AllByRecursion (CanCatchUp l j) (t ∷ ts ++ us)) split may

  once_first : EachOnce (n ∷ t ∷ ts)
  once_first = once_left (n ∷ t ∷ ts) us once

  first : (more : List Event) × (length more ≤ 1 + length (t ∷ ts) * (4 * (log_len l + length (v ∷ vs)) + 1)) × CommitsAfter given past now n ((k + 2) + length us * (4 * (log_len l + length (v ∷ vs)) + 2)) l v vs (t ∷ ts) (past ++ more)
  first =
      worlds_commit given wf past now n ((k + 2) + length us * (4 * (log_len l + length (v ∷ vs)) + 2)) l v vs t ts once_first voters quorum keeps room (subst (λ j. HasNumbers j l.engine.machine) split numbers)
      (left_of _ (t ∷ ts) us may_split)

  abbrev past1 : List Event
  past1 = past ++ first.0

  abbrev c : CommitsAfter given past now n ((k + 2) + length us * (4 * (log_len l + length (v ∷ vs)) + 2)) l v vs (t ∷ ts) (past ++ first.0)
  c = first.2

  len2 : log_len c.leads ≡ log_len l + length (v ∷ vs)
  len2 = ap next c.end ∙ plus (next (last l.engine.machine.core.state.ids)) (length vs)
    where
      plus : (a b : ℕ) → (a + b) + 1 ≡ a + suc b
      plus a b = omega arith

  -- the others
  each_may : (ys : List ℕ) → AllByRecursion (λ u. u ≢ n) ys → AllByRecursion (λ u. AllByRecursion (λ y. u ≢ y) (t ∷ ts)) ys → AllByRecursion (CanCatchUp l (needed l ((k + 2) + length us * (4 * (log_len l + length (v ∷ vs)) + 2)) (length (v ∷ vs)) (length (t ∷ ts)))) ys
      → AllByRecursion (MayCatchUp c.leads ((k + 2) + length us * (4 * (log_len l + length (v ∷ vs)) + 2))) ys
  each_may [] d f m = tt
  each_may (u ∷ ys) d f m = (one, each_may ys d.1 f.1 m.1)
    where
      sums : (a b : ℕ) → (a + b) + 2 ≡ a + (b + 2)
      sums a b = omega arith

      b : (b : IsBehind c.leads u) × (b.asked.entry.searching_end ≡ m.0.row.searching_end)
      b = c.behind u m.0.row d.0 f.0 m.0.has

      one : MayCatchUp c.leads ((k + 2) + length us * (4 * (log_len l + length (v ∷ vs)) + 2)) u
      one = record {
        asked = b.0.asked;
        behind = b.0.behind;
        takes = record {
          node = m.0.takes.node;
          at = c.others u m.0.takes.node d.0 f.0 m.0.takes.at;
          moment = m.0.takes.moment;
          engine = m.0.takes.engine;
          runs = m.0.takes.runs;
          unspent = m.0.takes.unspent;
          numbers =
              less_numbers ((k + 2) + length us * (4 * (log_len l + length (v ∷ vs)) + 2)) (length (t ∷ ts) * (4 * (log_len l + length (v ∷ vs)) + 2) + 2) m.0.takes.engine.machine
              (subst (λ j. HasNumbers j m.0.takes.engine.machine) (sums ((k + 2) + length us * (4 * (log_len l + length (v ∷ vs)) + 2)) (length (t ∷ ts) * (4 * (log_len l + length (v ∷ vs)) + 2))) m.0.takes.numbers);
          low = subst (λ (w : Vote ℕ). rejects_vote nat_cmp m.0.takes.engine.machine.core.state w ≡ false) (sym c.vote) m.0.takes.low;
        };
        searched = subst (λ (o : Option (LogId ℕ)). next o ≤ b.0.asked.entry.searching_end) (sym c.purge_to) (subst (λ i. next l.engine.machine.core.state.purge_to ≤ i) (sym b.1) m.0.searched);
        reaches = subst (λ (o : Option (LogId ℕ)). next o ≤ next m.0.takes.engine.machine.core.state.committed) (sym c.purge_to) m.0.reaches;
      }

  others_away : AllByRecursion (λ u. u ≢ n) us
  others_away = right_of (λ u. u ≢ n) (t ∷ ts) us once.0

  others_apart : AllByRecursion (λ u. AllByRecursion (λ y. u ≢ y) (t ∷ ts)) us
  others_apart = once_apart (t ∷ ts) us once.1

  second : (more : List Event) × (length more ≤ length us * (4 * log_len c.leads + 1)) × AllMatchAfter given past1 now n (k + 2) c.leads us (past1 ++ more)
  second =
      worlds_all_match given wf us past1 now n (k + 2) c.leads (others_away, once_right (t ∷ ts) us once.1) c.serves (subst (λ len. HasNumbers ((k + 2) + length us * (4 * len + 2)) c.leads.engine.machine) (sym len2) c.numbers)
      (subst (λ len. AllByRecursion (MayCatchUp c.leads ((k + 2) + length us * (4 * len + 2))) us) (sym len2) (each_may us others_away others_apart (right_of _ (t ∷ ts) us may_split)))

  abbrev past2 : List Event
  past2 = past1 ++ second.0

  abbrev d : AllMatchAfter given past1 now n (k + 2) c.leads us (past1 ++ second.0)
  d = second.2

  -- all have caught up
  first_stay : (ys : List ℕ) → AllByRecursion (λ y. y ≢ n) ys → AllByRecursion (λ y. AllByRecursion (λ u. y ≢ u) us) ys
      → AllByRecursion (HasCaughtUp (world_after given past1) now l.leader.vote x ((k + 2) + length us * (4 * (log_len l + length (v ∷ vs)) + 2))) ys → AllByRecursion (HasCaughtUp (world_after given past2) now l.leader.vote x (k + 2)) ys
  first_stay [] a f h = tt
  first_stay (y ∷ ys) a f h =
      (moved_caught (fewer_caught (k + 2) (length us * (4 * (log_len l + length (v ∷ vs)) + 2)) h.0) _ (d.others y h.0.follows.node a.0 f.0 h.0.follows.at), first_stay ys a.1 f.1 h.1)

  turned_apart : AllByRecursion (λ y. AllByRecursion (λ u. y ≢ u) us) (t ∷ ts)
  turned_apart = go (t ∷ ts) us others_apart
    where
      heads : (ys us : List ℕ) (y : ℕ) → AllByRecursion (λ u. AllByRecursion (λ z. u ≢ z) (y ∷ ys)) us → AllByRecursion (λ u. y ≢ u) us
      heads ys [] y h = tt
      heads ys (u ∷ us) y h = ((λ e. h.0.0 (sym e)), heads ys us y h.1)

      tails : (ys us : List ℕ) (y : ℕ) → AllByRecursion (λ u. AllByRecursion (λ z. u ≢ z) (y ∷ ys)) us → AllByRecursion (λ u. AllByRecursion (λ z. u ≢ z) ys) us
      tails ys [] y h = tt
      tails ys (u ∷ us) y h = (h.0.1, tails ys us y h.1)

      go : (ys us : List ℕ) → AllByRecursion (λ u. AllByRecursion (λ z. u ≢ z) ys) us → AllByRecursion (λ y. AllByRecursion (λ u. y ≢ u) us) ys
      go [] us h = tt
      go (y ∷ ys) us h = (heads ys us y h, go ys us (tails ys us y h))

  all_caught : AllByRecursion (HasCaughtUp (world_after given past2) now l.leader.vote x (k + 2)) (t ∷ ts ++ us)
  all_caught =
      both_of _ (t ∷ ts) us (first_stay (t ∷ ts) (left_of (λ u. u ≢ n) (t ∷ ts) us once.0) turned_apart c.caught)
      (subst (λ (w : Vote ℕ). AllByRecursion (HasCaughtUp (world_after given past2) now w x (k + 2)) us) c.vote (subst (λ (o : Option (LogId ℕ)). AllByRecursion (HasCaughtUp (world_after given past2) now c.leads.leader.vote o (k + 2)) us) c.end d.caught))

  -- what it commits is new, and so told
  new : c.leads.engine.machine.core.state.committed ≢ l.engine.machine.core.state.committed
  new e =
      let a : next l.engine.machine.core.state.committed ≤ next (last l.engine.machine.core.state.ids) = within_next nat_cmp nat_cmp_total l.engine.machine.core.state.committed (last l.engine.machine.core.state.ids) (sound_led given wf past now n l).sound.marks.at_committed in
      let b : next (last l.engine.machine.core.state.ids) + length vs + 1 ≡ next l.engine.machine.core.state.committed = sym (ap next c.committed) ∙ ap next e in
      absurd (omega (arith, a, b))

  told : (ys : List ℕ) → AllByRecursion (Listed l.node.streams.targets) ys → AllByRecursion (λ u. IsTold (world_after given past2) l.leader.vote n u x) ys
  told ys h = go ys h c.on.tells
    where
      stays : (u : ℕ) → IsTold (world_after given past1) l.leader.vote n u x → IsTold (world_after given past2) l.leader.vote n u x
      stays u m = record { number = m.number; o = m.o; own = m.own; there = d.on.bag m.number (record { from = n; to = u; body = body.AppendRequest m.o None [] x }) m.there }

      go : (ys : List ℕ) → AllByRecursion (Listed l.node.streams.targets) ys
          → (c.leads.engine.machine.core.state.committed ≡ l.engine.machine.core.state.committed)
          ⊎ ((t : ℕ) → Listed l.node.streams.targets t → IsTold (world_after given past1) l.leader.vote n t c.leads.engine.machine.core.state.committed)
          → AllByRecursion (λ u. IsTold (world_after given past2) l.leader.vote n u x) ys
      go ys h (inl e) = absurd (new e)
      go [] h (inr f) = tt
      go (u ∷ ys) h (inr f) = (stays u (subst (IsTold (world_after given past1) l.leader.vote n u) c.committed (f u h.0)), go ys h.1 (inr f))

  rest : (more : List Event) × (length more ≤ length (t ∷ ts ++ us)) × AllTold given past2 now n k l.leader.vote x (t ∷ ts ++ us) (past2 ++ more)
  rest = all_told given wf now n k l.leader.vote (id_past (length vs) (led l)) refl (t ∷ ts ++ us) past2 once.1 all_caught (told (t ∷ ts ++ us) targets)

  -- the leader has committed the same still
  still : d.leads.engine.machine.core.state.committed ≡ x
  still =
      same_last nat_cmp nat_cmp_total nat_same d.leads.engine.machine.core.state.committed x
      (le_antisymm (last_total nat_cmp nat_cmp_total) d.leads.engine.machine.core.state.committed x
      (subst (λ o. is_le (last_id_cmp nat_cmp d.leads.engine.machine.core.state.committed o) ≡ true) (d.end ∙ c.end)
      (within_le nat_cmp nat_cmp_total d.leads.engine.machine.core.state.committed (last d.leads.engine.machine.core.state.ids) (sound_led given wf past2 now n d.leads).sound.marks.at_committed))
      (subst (λ o. is_le (last_id_cmp nat_cmp o d.leads.engine.machine.core.state.committed) ≡ true) c.committed (all_rise nat_cmp nat_cmp_total nat_same c.leads.engine.config us (led c.leads) (led d.leads) d.replicated)))

  -- all of it is as planned
  abbrev proposed : Net (List Entry)
  proposed = world_then given now (propose n (v ∷ vs) now) (world_after given past)

  abbrev brought : List Event
  brought = propose n (v ∷ vs) now ∷ bring_all given now n (t ∷ ts ++ us) proposed

  brought_planned : past2 ≡ past ++ brought
  brought_planned =
      planned_then given past (propose n (v ∷ vs) now ∷ bring_all given now n (t ∷ ts) proposed) (bring_all given now n us) past1 past2
      c.planned d.planned
      ∙ ap (λ (es : List Event). past ++ propose n (v ∷ vs) now ∷ es) (sym (bring_both given now n (t ∷ ts) us proposed))

  -- the vote and the committed id that the others are told are the leader's
  told_planned : tell given now n (t ∷ ts ++ us) (world_after given past2) ≡ tell_all given now n l.leader.vote x (t ∷ ts ++ us) (world_after given past2)
  told_planned =
      tell_is given now n (t ∷ ts ++ us) (world_after given past2) d.leads.engine (leader_runs d.leads)
      ∙ (ap (λ (w : Vote ℕ). tell_all given now n w d.leads.engine.machine.core.state.committed (t ∷ ts ++ us) (world_after given past2)) (d.vote ∙ (sym (knows given wf past1 now n c.leads).vote ∙ c.vote))
      ∙ ap (λ (o : Option (LogId ℕ)). tell_all given now n l.leader.vote o (t ∷ ts ++ us) (world_after given past2)) still)

  all_planned : past2 ++ rest.0 ≡ past ++ replicate given now n (v ∷ vs) (t ∷ ts ++ us) (world_after given past)
  all_planned =
      planned_then given past brought (tell given now n (t ∷ ts ++ us)) past2 (past2 ++ rest.0) brought_planned
      (rest.2.planned ∙ ap (λ (es : List Event). past2 ++ es) (sym told_planned))

  pub executes : (more : List Event) × (length more ≤ 1 + length (t ∷ ts ++ us) * (4 * (log_len l + length (v ∷ vs)) + 2)) × ExecutesAfter given past now n k l v vs (t ∷ ts ++ us) (past ++ more)
  executes = (
    first.0 ++ (second.0 ++ rest.0),
    counted,
    subst (ExecutesAfter given past now n k l v vs (t ∷ ts ++ us)) (append_append past1 second.0 rest.0 ∙ append_append past first.0 (second.0 ++ rest.0)) all_done,
  )
    where
      spread : (c y : ℕ) → c * (y + 2) ≡ c * (y + 1) + c
      spread c y = ap (λ z. c * z) (same y) ∙ mul-suc c (y + 1)
        where
          same : (y : ℕ) → y + 2 ≡ suc (y + 1)
          same y = omega arith

      total_length : length (first.0 ++ (second.0 ++ rest.0)) ≡ length first.0 + (length second.0 + length rest.0)
      total_length = length_both first.0 (second.0 ++ rest.0) ∙ ap (λ z. length first.0 + z) (length_both second.0 rest.0)

      summed : (a f g h ct cu y : ℕ) → a ≡ f + (g + h) → f ≤ 1 + ct * (y + 1) → g ≤ cu * (y + 1) → h ≤ ct + cu → a ≤ 1 + (ct + cu) * (y + 2)
      summed a f g h ct cu y e p q r =
          subst (λ z. a ≤ 1 + z) (sym (spread (ct + cu) y ∙ ap (λ z. z + (ct + cu)) (add-mul ct cu (y + 1)))) (plain a f g h (ct * (y + 1)) (cu * (y + 1)) (ct + cu) e p q r)
        where
          plain : (a f g h p q c : ℕ) → a ≡ f + (g + h) → f ≤ 1 + p → g ≤ q → h ≤ c → a ≤ 1 + ((p + q) + c)
          plain a f g h p q c e i j k = omega (arith, e, i, j, k)

      counted : length (first.0 ++ (second.0 ++ rest.0)) ≤ 1 + length (t ∷ ts ++ us) * (4 * (log_len l + length (v ∷ vs)) + 2)
      counted =
          subst (λ c. length (first.0 ++ (second.0 ++ rest.0)) ≤ 1 + c * (4 * (log_len l + length (v ∷ vs)) + 2)) (sym (length_both (t ∷ ts) us))
          (summed (length (first.0 ++ (second.0 ++ rest.0))) (length first.0) (length second.0) (length rest.0) (length (t ∷ ts)) (length us) (4 * (log_len l + length (v ∷ vs))) total_length first.1
          (subst (λ len. length second.0 ≤ length us * (4 * len + 1)) len2 second.1) (subst (λ c. length rest.0 ≤ c) (length_both (t ∷ ts) us) rest.1))

      leader_applied : length d.leads.node.store.applied ≡ next (Some (id_past (length vs) (led l)))
      leader_applied = applied_is given wf (past2 ++ rest.0) n d.leads.node (rest.2.others n d.leads.node (away n (t ∷ ts ++ us) once.0) d.leads.at) d.leads.engine d.leads.runs ∙ ap next still

      fits : (a j m : ℕ) → m ≡ (a + j) + 1 → a + suc j ≤ m
      fits a j m q = omega (arith, q)

      all_done : ExecutesAfter given past now n k l v vs (t ∷ ts ++ us) (past2 ++ rest.0)
      all_done = record {
        planned = all_planned;
        leads = record {
          node = d.leads.node;
          at = rest.2.others n d.leads.node (away n (t ∷ ts ++ us) once.0) d.leads.at;
          moment = d.leads.moment;
          engine = d.leads.engine;
          runs = d.leads.runs;
          leader = d.leads.leader;
          leads = d.leads.leads;
          session = d.leads.session;
          in_session = d.leads.in_session;
          streams = d.leads.streams;
          unspent = d.leads.unspent;
        };
        numbers = less_numbers k 2 d.leads.engine.machine d.numbers;
        end = d.end ∙ c.end;
        committed = still;
        applied = leader_applied;
        values = executed_values given wf (past2 ++ rest.0) n d.leads.node (rest.2.others n d.leads.node (away n (t ∷ ts ++ us) once.0) d.leads.at) (log_len l) (v ∷ vs) (holds_left (log_len l) (v ∷ vs) d.left c.stored)
            (fits (log_len l) (length vs) (length d.leads.node.store.applied) leader_applied);
        each = rest.2.each;
      }

pub worlds_execute : WorldsExecute
worlds_execute given wf past now n k l v vs t ts us once voters quorum targets keeps room numbers may = executes given wf past now n k l v vs t ts us once voters quorum targets keeps room numbers may
