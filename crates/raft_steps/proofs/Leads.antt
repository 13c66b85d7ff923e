-- What a new leader has left, and when there is one.
use Rattle.std.proofs.Common.{◌≡◌, ◌∙◌, sym, refl, ap, subst, ℕ, ◌+◌, ◌^◌, ◌<◌, Bool, true, false, List, [], ◌∷◌, ◌++◌, Option, None, Some, lit<, arith}
use Rattle.std.specs.Cmp.{IsTotalOrder, tied_itself}
use Rattle.std.specs.Option.{option_to_list}
use Rattle.raft_state.proofs.Orders.{leader_total}
use Rattle.raft_proposer.specs.Candidate.{into_leader}
use Rattle.std.specs.Prelude.{All, not, ◌&&◌}
use Rattle.std.proofs.lemmas.List.Elements.{All-nil, All-cons}
use Rattle.std.specs.Ordering.{is_eq, is_lt, is_gt, bool_cmp}
use Rattle.std.specs.declared.cmp.Ordering.{Ordering}
use Rattle.std.specs.declared.cmp.Ordering.TheVariants.{Less, Equal, Greater}
use Rattle.raft_state.specs.declared.ids.LogId.{LogId}
use Rattle.raft_state.specs.declared.ids.Vote.{Vote}
use Rattle.raft_state.specs.declared.membership.Members.{Members}
use Rattle.raft_state.specs.declared.state.RaftState.{RaftState}
use Rattle.raft_state.specs.Order.{last_id_cmp, leader_id_cmp, vote_cmp, next}
use Rattle.raft_state.specs.Log.{last}
use Rattle.raft_state.specs.Members.{contains, voter_ids, learner_ids}
use Rattle.raft_state.specs.State.{by_last_leader, is_leader}
use Rattle.raft_state.specs.Same.{leader_id_same, both_equal}
use Rattle.raft_progress_entry.specs.Entry.{empty}
use Rattle.raft_proposer.specs.raft_progress.Table.{rows_of, row_ids}
use Rattle.raft_command.specs.declared.command.Command.{Command}
use Rattle.raft_command.specs.declared.config.EngineConfig.{EngineConfig}
use Rattle.raft_command.specs.Queue.{Queue}
use Rattle.raft_proposer.specs.Leader.{leader_in}
use Rattle.raft_steps.specs.Parts.{led_of}
use Rattle.raft_proposer.specs.Joint.{JointLeader, JointCandidate}
use Rattle.raft_steps.specs.Room.{HasRoom, MayLead}
use Rattle.raft_steps.specs.Sending.{CanSend, MaySend}
use Rattle.raft_steps.proofs.Ends.{by_last_leader_ends}

from_none : (k : ℕ) → k < 2 ^ 64 → 0 + k < 2 ^ 64
from_none k h = omega (arith, h)

fresh : {NID : Type 0} (k end : ℕ) → k < 2 ^ 64 → (ids : List NID) → All (CanSend k) (rows_of (empty {NID = NID} end) ids)
fresh k end b [] = All-nil (CanSend k)
fresh k end b (id ∷ ids) = All-cons (CanSend k) (id, empty end) (rows_of (empty end) ids) (from_none k b, lit< tt) (fresh k end b ids)

module _ {C NID N E D R S : Type 0} (cmp : NID → NID → Ordering) where
  -- a new leader may send
  pub fresh_may : (k : ℕ) (l : JointLeader C NID N E D R S) (s : RaftState NID N) (o : Queue (Command C NID N E D R S)) (vote : Vote NID) (m : Members NID N) (ids : List (LogId NID))
      → l ≡ leader_in cmp vote m ids → next (last s.ids) < 2 ^ 64 → k < 2 ^ 64 → MaySend k (led_of l s o)
  fresh_may k l s o vote m ids e h b = rw e (record { rows = fresh k (next (last ids)) b (voter_ids cmp m ++ learner_ids cmp m); log = h })

  -- and has an index for its blank entry
  pub fresh_room : (l : JointLeader C NID N E D R S) (s : RaftState NID N) → l ≡ leader_in cmp s.vote s.em.membership (by_last_leader cmp s.ids) → HasRoom cmp s.vote s
      → is_lt (last_id_cmp cmp l.last_log_id (Some l.noop_log_id)) ≡ true → next l.last_log_id + 1 < 2 ^ 64
  fresh_room l s e room = rw e (λ h. rw (by_last_leader_ends cmp s.ids) (room h))

all_hold : (a b c d : Bool) → ((a && b) && c) ≡ true → d ≡ true → (c && a && b && d) ≡ true
all_hold true true true true h k = refl
all_hold false b c d h k = cc
all_hold true false c d h k = cc
all_hold true true false d h k = cc
all_hold true true true false h k = cc

not_both : {X : Type 0} (a b : Bool) → a ≡ false → (a && b) ≡ true → X
not_both true b e h = cc
not_both false b e h = cc

first_three : (a b c d : Bool) → (a && b && c && d) ≡ true → a ≡ true
first_three true b c d h = refl
first_three false b c d h = cc

module _ {C NID N E D R S : Type 0} (cmp : NID → NID → Ordering) (config : EngineConfig NID) where
  -- a node that leads and has no leader yet has an index for its blank entry
  pub anew_room : (s : RaftState NID N) (leader : Option (JointLeader C NID N E D R S)) → is_leader cmp s config.id ≡ true
      → elim leader [ None ↦ true | Some l ↦ not (is_eq (leader_id_cmp cmp l.vote.leader_id s.vote.leader_id)) ] ≡ true
      → MayLead cmp config s.vote s.em.membership s.ids leader → HasRoom cmp s.vote s
  anew_room s leader h k room =
      room (all_hold (is_eq (cmp s.vote.leader_id.node_id config.id)) (contains cmp s.em.membership config.id) s.vote.committed
      (elim leader [ None ↦ true | Some l ↦ not (is_eq (leader_id_cmp cmp l.vote.leader_id s.vote.leader_id)) ]) h k)

  -- a vote that isn't committed leads nobody
  pub pending_may : (v : Vote NID) (m : Members NID N) (ids : List (LogId NID)) (leader : Option (JointLeader C NID N E D R S)) → v.committed ≡ false → MayLead cmp config v m ids leader
  pending_may v m ids leader e = λ h.
      let yes : v.committed ≡ true = first_three v.committed (is_eq (cmp v.leader_id.node_id config.id)) (contains cmp m config.id)
      (elim leader [ None ↦ true | Some l ↦ not (is_eq (leader_id_cmp cmp l.vote.leader_id v.leader_id)) ]) h in
      let no : false ≡ true = sym e ∙ yes in
      cc

  -- only the vote, the effective membership and the log count
  pub may_lead_on : (v w : Vote NID) (m n : Members NID N) (ids new : List (LogId NID)) (leader : Option (JointLeader C NID N E D R S))
      → w ≡ v → n ≡ m → new ≡ ids → MayLead cmp config v m ids leader → MayLead cmp config w n new leader
  may_lead_on v w m n ids new leader e f g h =
      subst (λ x. MayLead cmp config x n new leader) (sym e)
      (subst (λ x. MayLead cmp config v x new leader) (sym f)
      (subst (λ x. MayLead cmp config v m x leader) (sym g) h))

last_of_four : {X : Type 0} (a b c d : Bool) → d ≡ false → (a && b && c && d) ≡ true → X
last_of_four true true true true e h = cc
last_of_four true true true false e h = cc
last_of_four true true false d e h = cc
last_of_four true false c d e h = cc
last_of_four false b c d e h = cc

module _ {C NID N E D R S : Type 0} (cmp : NID → NID → Ordering) (total : IsTotalOrder cmp) (config : EngineConfig NID) where
  -- a leader doesn't lead anew by its own vote
  pub own_vote_may : (l : JointLeader C NID N E D R S) (m : Members NID N) (ids : List (LogId NID)) → MayLead cmp config l.vote m ids (Some l)
  own_vote_may l m ids = λ h.
      last_of_four l.vote.committed (is_eq (cmp l.vote.leader_id.node_id config.id)) (contains cmp m config.id) (not (is_eq (leader_id_cmp cmp l.vote.leader_id l.vote.leader_id)))
      (ap (λ r. not (is_eq r)) (tied_itself (leader_total cmp total) l.vote.leader_id)) h

  -- a leader made by votes may send
  pub into_may : (k : ℕ) (c : JointCandidate NID) (l : JointLeader C NID N E D R S) (s : RaftState NID N) (o : Queue (Command C NID N E D R S)) → l ≡ into_leader cmp c → next (last s.ids) < 2 ^ 64 → k < 2 ^ 64 → MaySend k (led_of l s o)
  into_may k c l s o e h b = rw e (record { rows = fresh k (next (last (option_to_list c.last_log_id))) b (row_ids c.progress ++ c.learner_ids); log = h })

pub one_id : {NID : Type 0} (o : Option (LogId NID)) → last (option_to_list o) ≡ o
one_id None = refl
one_id (Some x) = refl

-- neither below nor above is equal
pub no_order : (r : Ordering) → is_lt r ≡ false → is_gt r ≡ false → r ≡ Equal
no_order Less h k = cc
no_order Equal h k = refl
no_order Greater h k = cc

same_mark : (a b : Bool) → bool_cmp a b ≡ Equal → a ≡ b
same_mark true true e = refl
same_mark false false e = refl
same_mark true false e = cc
same_mark false true e = cc

module _ {NID : Type 0} (cmp : NID → NID → Ordering) (same : (a b : NID) → cmp a b ≡ Equal → a ≡ b) where
  -- equal votes are the same
  pub vote_same : (v w : Vote NID) → vote_cmp cmp v w ≡ Equal → v ≡ w
  vote_same v w e =
      let p = both_equal (leader_id_cmp cmp v.leader_id w.leader_id) (bool_cmp v.committed w.committed) e in
      let l = leader_id_same cmp same v.leader_id w.leader_id p.0 in
      let c = same_mark v.committed w.committed p.1 in
      λ i. record { leader_id = l i; committed = c i }

  -- and so is a vote neither below nor above another
  pub vote_is : (v w : Vote NID) → is_lt (vote_cmp cmp v w) ≡ false → is_gt (vote_cmp cmp v w) ≡ false → w ≡ v
  vote_is v w h k = sym (vote_same v w (no_order (vote_cmp cmp v w) h k))
