-- A leader brings a node's log to match its own: exchange after exchange, until nothing is in flight to it.
use Rattle.std.proofs.Common.{ℕ, zero, suc, ◌+◌, ◌-◌, ◌*◌, ◌<◌, ◌≤◌, ◌≡◌, ◌≢◌, ◌⊎◌, inl, inr, Bool, true, false, not, List, [], ◌∷◌, ◌++◌, length, arith, refl, sym, ap, ◌∙◌, subst, Option, None, Some, Result, Ok, Err}
use Rattle.std.specs.Prelude.{◌==◌, max, min, if◌then◌else◌, nat_lt}
use Rattle.std.specs.Ordering.{is_le, is_lt, nat_cmp}
use Rattle.std.proofs.lemmas.Bool.Decides.{nat_tests}
use Rattle.std.proofs.lemmas.Cmp.{nat_cmp_total}
use Rattle.proof_deeds.specs.raft_state.declared.ids.LogId.{LogId}
use Rattle.proof_deeds.specs.raft_state.declared.ids.Vote.{Vote}
use Rattle.proof_deeds.specs.raft_state.declared.state.RaftState.{RaftState}
use Rattle.proof_deeds.specs.raft_state.Log.{last}
use Rattle.proof_deeds.specs.raft_state.Order.{last_id_cmp, next, vote_cmp}
use Rattle.proof_deeds.specs.raft_state.Same.{nat_same}
use Rattle.proof_deeds.specs.raft_state.State.{accepted}
use Rattle.proof_deeds.specs.raft_progress_entry.declared.entry.Inflight.{Inflight}
use Rattle.proof_deeds.specs.raft_progress_entry.declared.entry.Inflight.TheVariants as inflight
use Rattle.proof_deeds.specs.raft_progress_entry.declared.entry.ProgressEntry.{ProgressEntry}
use Rattle.proof_deeds.specs.raft_progress_entry.Entry.{before, is_idle, next_send, send_end, send_start, sent, silenced}
use Rattle.proof_deeds.specs.raft_progress.Table.{get}
use Rattle.proof_deeds.specs.raft_command.declared.config.EngineConfig.{EngineConfig}
use Rattle.proof_deeds.specs.raft_proposer.Joint.{u64_max}
use Rattle.proof_deeds.specs.raft_steps.Invariants.{EntryFits}
use Rattle.proof_deeds.specs.raft_steps.VoteHandler.{rejects_vote}
use Rattle.proof_deeds.specs.raft_store.declared.entry.Entry.{Entry}
use Rattle.proof_deeds.specs.raft_store.Types.{EngineView, WorldMachine}
use Rattle.proof_deeds.specs.raft_schedule.declared.event.Event.{Event}
use Rattle.proof_deeds.specs.raft_node.declared.given.Given.{Given}
use Rattle.proof_deeds.specs.raft_calls.declared.message.Body.TheVariants as body
use Rattle.proof_deeds.specs.raft_node.declared.node.Streams.{Streams}
use Rattle.proof_progress.specs.Elections.{Listed}
use Rattle.proof_deeds.specs.raft_node.Net.{Net, NodeView}
use Rattle.proof_deeds.specs.raft_node.Runs.{world_after}
use Rattle.proof_deeds.specs.raft_node.WellFormed.{IsWellFormed}
use Rattle.proof_deeds.proofs.raft_steps_proofs.LawsQueue.{append_append, append_none}
use Rattle.proof_progress.specs.CatchUps.{CanServe, MatchesAfter, MayCatchUp, WorldsMatch, log_len}
use Rattle.proof_progress.specs.Continuations.{At, fail}
use Rattle.proof_progress.specs.Exchanges.{AreEntries, Carries, Exchanged, FollowsAt, HasNumbers, IsFree, IsLeft, IsOnItsWay, IsTold, LeadsAt, LeadsOn, MayTake, SentAgain, led}
use Rattle.proof_progress.specs.Plans.{exchange, exchanges, request_to}
use Rattle.proof_progress.specs.Replication.{Answers, IsAsked, IsMatched, Rounds}
use Rattle.proof_progress.proofs.Accepted.{past as accepted_past, sent_search}
use Rattle.proof_progress.proofs.Exchanged.{worlds_exchange, worlds_send_again}
use Rattle.proof_progress.proofs.InFlight.{first_on_its_way, first_requested, leader_runs, none_requested}
use Rattle.proof_progress.proofs.LeadersKnow.{knows, sound_led}
use Rattle.proof_progress.proofs.Nearing.{IsDone, IsSent, IsServed, gap, gap_most}
use Rattle.proof_progress.proofs.Numbers.{fewer}
use Rattle.proof_progress.proofs.Planned.{bring_is, exchanges_next, exchanges_none, planned_then}
use Rattle.proof_progress.proofs.Rounds.{After, failed_after, falls, fits_of, handled_after, narrowed, numbered, still_low, then_known}
use Rattle.proof_progress.proofs.Works.{vote_itself}
use Rattle.proof_progress.proofs.WorksOff.{left_itself, left_then}

-- Small facts

pub same_entry : (o : Option (ProgressEntry ℕ)) (a b : ProgressEntry ℕ) → o ≡ Some a → o ≡ Some b → a ≡ b
same_entry o a b p q = cc

pub less_numbers : (k j : ℕ) (m : WorldMachine) → HasNumbers (k + j) m → HasNumbers k m
less_numbers k j m h = (low m.core.output.seq (u64_max - 8) h.0, fewer (u64_max - 8) k j _ h.1)
  where
    low : (x b : ℕ) → x + (k + j) ≤ b → x + k ≤ b
    low x b l = omega (arith, l)

-- a follower may take more of its leader
abbrev pub takes_as : {net : Net (List Entry)} {now : ℕ} {v : Vote ℕ} {k t : ℕ} → FollowsAt net now v k t → (w : Vote ℕ) → w ≡ v → MayTake net now w k t
takes_as {net} {now} {v} {k} {t} f w q = record {
  node = f.node;
  at = f.at;
  moment = f.moment;
  engine = f.engine;
  runs = f.runs;
  unspent = f.unspent;
  numbers = f.numbers;
  low = subst (λ (u : Vote ℕ). is_lt (vote_cmp nat_cmp w u) ≡ false) (sym (f.vote ∙ sym q)) (ap is_lt (vote_itself w));
}

-- a leader goes on, and goes on
pub on_self : {net : Net (List Entry)} {now n : ℕ} → (l : LeadsAt net now n) → LeadsOn l l
on_self l = record { streams = refl; bag = λ k m q. q; tells = inl refl }

pub on_then : {net net1 net2 : Net (List Entry)} {now n : ℕ} → (l : LeadsAt net now n) (l1 : LeadsAt net1 now n) (l2 : LeadsAt net2 now n) → l1.leader.vote ≡ l.leader.vote → LeadsOn l l1 → LeadsOn l1 l2 → LeadsOn l l2
on_then {net} {net1} {net2} {now} {n} l l1 l2 vote h g = record { streams = g.streams ∙ h.streams; bag = λ k m q. g.bag k m (h.bag k m q); tells = told h.tells g.tells }
  where
    stays : (u : ℕ) → l2.engine.machine.core.state.committed ≡ l1.engine.machine.core.state.committed → IsTold net1 l.leader.vote n u l1.engine.machine.core.state.committed → IsTold net2 l.leader.vote n u l2.engine.machine.core.state.committed
    stays u q k = subst (IsTold net2 l.leader.vote n u) (sym q) (record { number = k.number; o = k.o; own = k.own; there = g.bag k.number (record { from = n; to = u; body = body.AppendRequest k.o None [] l1.engine.machine.core.state.committed }) k.there })

    told : (l1.engine.machine.core.state.committed ≡ l.engine.machine.core.state.committed) ⊎ ((t : ℕ) → Listed l.node.streams.targets t → IsTold net1 l.leader.vote n t l1.engine.machine.core.state.committed)
        → (l2.engine.machine.core.state.committed ≡ l1.engine.machine.core.state.committed) ⊎ ((t : ℕ) → Listed l1.node.streams.targets t → IsTold net2 l1.leader.vote n t l2.engine.machine.core.state.committed)
        → (l2.engine.machine.core.state.committed ≡ l.engine.machine.core.state.committed) ⊎ ((t : ℕ) → Listed l.node.streams.targets t → IsTold net2 l.leader.vote n t l2.engine.machine.core.state.committed)
    told (inl p) (inl q) = inl (q ∙ p)
    told (inr f) (inl q) = inr (λ u k. stays u q (f u k))
    told p (inr f) = inr (λ u k. subst (λ (v : Vote ℕ). IsTold net2 v n u l2.engine.machine.core.state.committed) vote (f u (subst (λ (s : Streams). Listed s.targets u) (sym h.streams) k)))

-- past what is to be purged no snapshot is sent
no_snapshot : (s : RaftState ℕ (Unit {0})) (payload : ℕ) (e : ProgressEntry ℕ) (number : ℕ) (end : Option (LogId ℕ)) → next s.purge_to ≤ e.searching_end → e.inflight ≡ inflight.None → (sent e (next_send s payload e)).inflight ≡ inflight.Snapshot number end → ⊥
no_snapshot s payload e number end p free = go (not (is_idle e)) (nat_lt e.searching_end (next s.purge_to)) never (send_start s e == send_end s payload (send_start s e))
  where
    not_low : (x y : ℕ) → y ≤ x → nat_lt x y ≡ false
    not_low x y q = grind (arith, nat_tests)

    never : nat_lt e.searching_end (next s.purge_to) ≡ false
    never = not_low e.searching_end (next s.purge_to) p

    by_free : (i : Inflight ℕ) → i ≡ inflight.None → i ≡ inflight.Snapshot number end → ⊥
    by_free i q z = cc

    go : (busy low : Bool) → low ≡ false → (same_end : Bool)
        → (sent e (
        if busy then Err e.inflight
        else if low then Ok (inflight.Snapshot (e.last_inflight_id + 1) s.snap.last_log_id)
        else if same_end then Err inflight.None
        else Ok (inflight.Logs (e.last_inflight_id + 1) (record { prev = before s.ids (send_start s e); last = before s.ids (send_end s payload (send_start s e)) })))).inflight
        ≡ inflight.Snapshot number end → ⊥
    go true low l same_end q = by_free e.inflight free q
    go false true l same_end q = cc
    go false false l true q = by_free e.inflight free q
    go false false l false q = cc

free_none : (e : ProgressEntry ℕ) (end : Option (LogId ℕ)) → e.inflight ≡ inflight.None → IsServed end e → IsDone end e
free_none e end f (inl (inl i)) = let z : inflight.None ≡ inflight.Logs i.number (record { prev = i.prev; last = i.upto }) = sym f ∙ i.is in cc
free_none e end f (inl (inr i)) = let z : inflight.None ≡ inflight.Snapshot i.number i.upto = sym f ∙ i.is in cc
free_none e end f (inr d) = d

not_zero : (m st en n se : ℕ) → m ≤ st → st < en → en ≤ n → (se - m) + (n - m) ≤ 0 → ⊥
not_zero m st en n se a b c d = omega (arith, a, b, c, d)

not_all : (m st en n : ℕ) → m ≤ st → st < en → en ≤ n → m ≡ n → ⊥
not_all m st en n a b c d = omega (arith, a, b, c, d)

same_search : (m1 m2 a b n : ℕ) → (a - m1) + (n - m1) ≡ (b - m2) + (n - m2) → m1 ≡ m2 → m2 ≤ b → m1 ≤ a → a ≡ b
same_search m1 m2 a b n e m h k = omega (arith, e, m, h, k)

-- no snapshot is needed past an index: the search doesn't end below it, and the log matches that far, or the node has committed that far
pub record Searched (p : ℕ) (e : ProgressEntry ℕ) (g : EngineView) : Type 0 where
  pub low : p ≤ e.searching_end
  pub reaches : (p ≤ next e.matching) ⊎ (p ≤ next g.machine.core.state.committed)

abbrev retake : {net : Net (List Entry)} {now : ℕ} {v : Vote ℕ} {j t : ℕ} → MayTake net now v j t → (i : ℕ) → j ≡ i → MayTake net now v i t
retake f i q = record { node = f.node; at = f.at; moment = f.moment; engine = f.engine; runs = f.runs; unspent = f.unspent; numbers = subst (λ k. HasNumbers k f.engine.machine) q f.numbers; low = f.low }

-- A node that is brought up to date, from where a leader serves it

-- what is left after all of these events
pub record Caught (given : Given) (past : List Event) (now n t k fuel : ℕ) (l : LeadsAt (world_after given past) now n) (end : Option (LogId ℕ)) (all : List Event) : Type 0 where
  pub planned : all ≡ past ++ exchanges given now fuel n t (world_after given past)
  pub leads : LeadsAt (world_after given all) now n
  pub config : leads.engine.config ≡ l.engine.config
  pub numbers : HasNumbers k leads.engine.machine
  pub on : LeadsOn l leads
  pub left : IsLeft l.node.store leads.node.store
  pub count : ℕ
  pub rounds : Rounds nat_cmp l.engine.config t count (led l) (led leads)
  pub matched : IsMatched nat_cmp t (led leads)
  pub follows : FollowsAt (world_after given all) now l.leader.vote k t
  pub accepts : is_le (last_id_cmp nat_cmp end (accepted nat_cmp follows.engine.machine.core.state)) ≡ true
  pub others : (i : ℕ) (I : NodeView) → i ≢ n → i ≢ t → At (world_after given past).nodes i I → At (world_after given all).nodes i I

module _ (given : Given) (wf : IsWellFormed given) (now n t k : ℕ) (apart : n ≢ t) (end : Option (LogId ℕ)) where
  -- where the node has followed and accepted all, once all of its log is known to match
  abbrev IfMatched : Vote ℕ → EngineView → ProgressEntry ℕ → Type 0
  IfMatched v g e = e.matching ≡ end → (g.machine.core.state.vote ≡ v) × (is_le (last_id_cmp nat_cmp end (accepted nat_cmp g.machine.core.state)) ≡ true)

  -- where nothing is in flight, all is done
  ended : (fuel : ℕ) (past : List Event) (l : LeadsAt (world_after given past) now n) → last l.engine.machine.core.state.ids ≡ end → HasNumbers (k + 2 * fuel) l.engine.machine → (e : ProgressEntry ℕ) → get nat_cmp l.leader.progress t ≡ Some e
      → IsDone end e → (f : MayTake (world_after given past) now l.leader.vote (k + 2 * fuel) t) → IfMatched l.leader.vote f.engine e → Caught given past now n t k fuel l end past
  ended fuel past l last_is numbers e has d f known =
      let h : (f.engine.machine.core.state.vote ≡ l.leader.vote) × (is_le (last_id_cmp nat_cmp end (accepted nat_cmp f.engine.machine.core.state)) ≡ true) = known d.matching in
      record {
        planned = append_none past
            ∙ ap (λ (es : List Event). past ++ es) (sym (exchanges_none given now n t (world_after given past) fuel (none_requested l t (record { entry = e; has = has; free = d.free }))));
        leads = l;
        config = refl;
        numbers = less_numbers k (2 * fuel) l.engine.machine numbers;
        on = on_self l;
        left = left_itself l.node.store;
        count = 0;
        rounds = refl;
        matched = record { entry = e; has = has; free = d.free; matching = d.matching ∙ sym last_is };
        follows = record { node = f.node; at = f.at; moment = f.moment; engine = f.engine; runs = f.runs; unspent = f.unspent; numbers = less_numbers k (2 * fuel) f.engine.machine f.numbers; vote = h.0 };
        accepts = h.1;
        others = λ i I d c a. a;
      }

  abbrev Ends : (past : List Event) (l : LeadsAt (world_after given past) now n) → ℕ → Type 0
  Ends past l fuel = (more : List Event) × (length more ≤ 2 * fuel) × Caught given past now n t k fuel l end (past ++ more)

  -- what is on its way are entries
  on_its_way : (past : List Event) (l : LeadsAt (world_after given past) now n) (e : ProgressEntry ℕ) → next l.engine.machine.core.state.purge_to ≤ e.searching_end → get nat_cmp l.leader.progress t ≡ Some e → IsServed end e → (a : IsOnItsWay l t)
      → IsSent (next end) e × AreEntries (sent a.was (next_send l.engine.machine.core.state l.engine.config.max_payload_entries a.was)).inflight
  on_its_way past l e low has serves a = go serves
    where
      one : sent a.was (next_send l.engine.machine.core.state l.engine.config.max_payload_entries a.was) ≡ e
      one = same_entry (get nat_cmp l.leader.progress t) (sent a.was (next_send l.engine.machine.core.state l.engine.config.max_payload_entries a.was)) e a.has has

      searched : next l.engine.machine.core.state.purge_to ≤ a.was.searching_end
      searched = subst (λ i. next l.engine.machine.core.state.purge_to ≤ i) (sent_search a.was (next_send l.engine.machine.core.state l.engine.config.max_payload_entries a.was)) (subst (λ (y : ProgressEntry ℕ). next l.engine.machine.core.state.purge_to ≤ y.searching_end) (sym one) low)

      carried : (i : Inflight ℕ) → (sent a.was (next_send l.engine.machine.core.state l.engine.config.max_payload_entries a.was)).inflight ≡ i → i ≡ inflight.None → ⊥
      carried inflight.None q z = subst (λ (i : Inflight ℕ). Carries l.session i a.body) q a.carries
      carried (inflight.Logs number range) q z = cc
      carried (inflight.Snapshot number upto) q z = cc

      go : IsServed end e → IsSent (next end) e × AreEntries (sent a.was (next_send l.engine.machine.core.state l.engine.config.max_payload_entries a.was)).inflight
      go (inl (inl i)) = (i, subst AreEntries (sym (ap (λ (x : ProgressEntry ℕ). x.inflight) one ∙ i.is)) tt)
      go (inl (inr i)) = absurd (no_snapshot l.engine.machine.core.state l.engine.config.max_payload_entries a.was i.number i.upto searched a.free (ap (λ (x : ProgressEntry ℕ). x.inflight) one ∙ i.is))
      go (inr d) = absurd (carried e.inflight (ap (λ (x : ProgressEntry ℕ). x.inflight) one) d.free)

  -- an exchange narrows the gap
  module _ (fuel : ℕ) (past : List Event) (l : LeadsAt (world_after given past) now n) (payload : 1 ≤ l.engine.config.max_payload_entries) (unpurged : next l.engine.machine.core.state.purge_to < next (last l.engine.machine.core.state.ids))
      (last_is : last l.engine.machine.core.state.ids ≡ end) (e : ProgressEntry ℕ) (has : get nat_cmp l.leader.progress t ≡ Some e) (few : gap (next end) e ≤ suc fuel) (i : IsSent (next end) e) (past_purge : next l.engine.machine.core.state.purge_to ≤ next i.prev)
      (g : EngineView) (ok : Searched (next l.engine.machine.core.state.purge_to) e g) (request : ℕ) (requested : request_to (world_after given past) n t ≡ Some request) (x : Exchanged given past now n t (k + 2 * fuel) l g request) where
    abbrev past1 : List Event
    past1 = past ++ exchange given now request (world_after given past)

    abbrev known_then : ProgressEntry ℕ
    known_then = then_known nat_cmp nat_cmp_total nat_same l.engine.config payload t x.handled

    after : After nat_cmp nat_cmp_total nat_same l.engine.config t (led l) (led x.leads) known_then
    after = handled_after nat_cmp nat_cmp_total nat_same l.engine.config payload t (led l) (led x.leads) (sound_led given wf past now n l) unpurged x.handled

    answered_is : x.handled.asked.entry ≡ e
    answered_is = same_entry (get nat_cmp l.leader.progress t) x.handled.asked.entry e x.handled.asked.has has

    narrower : gap (next end) after.entry ≤ fuel
    narrower =
        let f : gap (next (last l.engine.machine.core.state.ids)) known_then < gap (next (last l.engine.machine.core.state.ids)) x.handled.asked.entry =
        falls nat_cmp nat_cmp_total nat_same l.engine.config payload t (led l) (led x.leads) (sound_led given wf past now n l) unpurged x.handled
        (inl (subst (λ (o : Option (LogId ℕ)). IsSent (next o) x.handled.asked.entry) (sym last_is) (subst (λ (y : ProgressEntry ℕ). IsSent (next end) y) (sym answered_is) i))) in
        let was : gap (next (last l.engine.machine.core.state.ids)) x.handled.asked.entry ≡ gap (next end) e = ap (λ (y : ProgressEntry ℕ). gap (next (last l.engine.machine.core.state.ids)) y) answered_is ∙ ap (λ (o : Option (LogId ℕ)). gap (next o) e) last_is in
        let is : gap (next end) after.entry ≡ gap (next (last l.engine.machine.core.state.ids)) known_then = ap (λ (o : Option (LogId ℕ)). gap (next o) after.entry) (sym last_is) ∙ after.same_gap in
        counted _ _ _ _ is f was few
      where
        counted : (a b c d : ℕ) → a ≡ b → b < c → c ≡ d → d ≤ suc fuel → a ≤ fuel
        counted a b c d p l q h = omega (arith, p, l, q, h)

    vote_on : x.leads.leader.vote ≡ l.leader.vote
    vote_on = (knows given wf past1 now n x.leads).vote ∙ (after.leaves.vote ∙ sym (knows given wf past now n l).vote)

    takes : MayTake (world_after given past1) now x.leads.leader.vote (k + 2 * fuel) t
    takes = takes_as x.follows x.leads.leader.vote vote_on

    known_on : IfMatched x.leads.leader.vote takes.engine after.entry
    unfolding takes
    known_on m = (x.follows.vote ∙ sym vote_on, go x.handled.result refl)
      where
        number : ℕ
        number = (numbered x.handled.asked.entry.inflight x.handled.asked.busy).0

        go : (r : Result (Option (LogId ℕ)) (LogId ℕ)) → x.handled.result ≡ r → is_le (last_id_cmp nat_cmp end (accepted nat_cmp x.follows.engine.machine.core.state)) ≡ true
        go (Ok y) q =
            let z : y ≡ end = sym (after.matching ∙ ap (λ (r : Result (Option (LogId ℕ)) (LogId ℕ)). (narrowed nat_cmp x.handled.asked.entry (numbered x.handled.asked.entry.inflight x.handled.asked.busy).0 r).matching) q) ∙ m in
            subst (λ (o : Option (LogId ℕ)). is_le (last_id_cmp nat_cmp o (accepted nat_cmp x.follows.engine.machine.core.state)) ≡ true) z (x.accepts y q)
        go (Err y) q =
            let z : after.entry.matching ≡ x.handled.asked.entry.matching = after.matching ∙ ap (λ (r : Result (Option (LogId ℕ)) (LogId ℕ)). (narrowed nat_cmp x.handled.asked.entry (numbered x.handled.asked.entry.inflight x.handled.asked.busy).0 r).matching) q in
            let w : e.matching ≡ end = sym (z ∙ ap (λ (y : ProgressEntry ℕ). y.matching) answered_is) ∙ m in
            absurd (not_all (next e.matching) (next i.prev) (next i.upto) (next end) i.low i.some i.within (ap next w))

    -- it needs no snapshot then, either
    ok_on : Searched (next x.leads.engine.machine.core.state.purge_to) after.entry takes.engine
    unfolding takes
    ok_on = subst (λ (o : Option (LogId ℕ)). Searched (next o) after.entry x.follows.engine) (sym after.leaves.purge_to) (go x.handled.result refl)
      where
        Narrowed : Result (Option (LogId ℕ)) (LogId ℕ) → ProgressEntry ℕ
        Narrowed r = narrowed nat_cmp x.handled.asked.entry (numbered x.handled.asked.entry.inflight x.handled.asked.busy).0 r

        fits_after : EntryFits nat_cmp x.leads.engine.machine.core.state.ids x.leads.engine.machine.core.state.purged after.entry
        fits_after = fits_of nat_cmp nat_cmp_total nat_same l.engine.config t (led x.leads) after.sound after.entry after.has

        ends_at : after.entry.searching_end ≡ known_then.searching_end
        ends_at = same_search (next after.entry.matching) (next known_then.matching) after.entry.searching_end known_then.searching_end (next (last l.engine.machine.core.state.ids)) after.same_gap (ap next after.matching) after.above fits_after.above

        same_ends : x.handled.asked.entry.searching_end ≡ e.searching_end
        same_ends = ap (λ (y : ProgressEntry ℕ). y.searching_end) answered_is

        matched_to : (y : Option (LogId ℕ)) → x.handled.result ≡ Ok y → y ≡ i.upto
        matched_to y q = subst (λ (f : Inflight ℕ). Answers f (Ok y)) (ap (λ (y : ProgressEntry ℕ). y.inflight) answered_is ∙ i.is) (subst (λ (r : Result (Option (LogId ℕ)) (LogId ℕ)). Answers x.handled.asked.entry.inflight r) q x.handled.answers)

        further : (p st en : ℕ) → p ≤ st → st < en → p ≤ en
        further p st en a b = omega (arith, a, b)

        up : (p se m : ℕ) → p ≤ se → p ≤ max se m
        up p se m a = omega (arith, a)

        down : (p se i : ℕ) → p ≤ se → p ≤ i → p ≤ min se i
        down p se i a b = omega (arith, a, b)

        go : (r : Result (Option (LogId ℕ)) (LogId ℕ)) → x.handled.result ≡ r → Searched (next l.engine.machine.core.state.purge_to) after.entry x.follows.engine
        go (Ok y) q = record {
          low = subst (λ z. next l.engine.machine.core.state.purge_to ≤ z) (sym (ends_at ∙ ap (λ (r : Result (Option (LogId ℕ)) (LogId ℕ)). (Narrowed r).searching_end) q))
              (up (next l.engine.machine.core.state.purge_to) x.handled.asked.entry.searching_end (next y) (subst (λ z. next l.engine.machine.core.state.purge_to ≤ z) (sym same_ends) ok.low));
          reaches = inl (subst (λ (o : Option (LogId ℕ)). next l.engine.machine.core.state.purge_to ≤ next o) (sym (after.matching ∙ (ap (λ (r : Result (Option (LogId ℕ)) (LogId ℕ)). (Narrowed r).matching) q ∙ matched_to y q)))
              (further (next l.engine.machine.core.state.purge_to) (next i.prev) (next i.upto) past_purge i.some));
        }
        go (Err y) q = by ok.reaches
          where
            same_matching : after.entry.matching ≡ e.matching
            same_matching = after.matching ∙ (ap (λ (r : Result (Option (LogId ℕ)) (LogId ℕ)). (Narrowed r).matching) q ∙ ap (λ (y : ProgressEntry ℕ). y.matching) answered_is)

            by : (next l.engine.machine.core.state.purge_to ≤ next e.matching) ⊎ (next l.engine.machine.core.state.purge_to ≤ next g.machine.core.state.committed) → Searched (next l.engine.machine.core.state.purge_to) after.entry x.follows.engine
            by (inl h) =
                let m : next l.engine.machine.core.state.purge_to ≤ next after.entry.matching = subst (λ (o : Option (LogId ℕ)). next l.engine.machine.core.state.purge_to ≤ next o) (sym same_matching) h in
                let a : next after.entry.matching ≤ after.entry.searching_end = fits_after.above in
                record { low = omega (arith, m, a); reaches = inl m }
            by (inr h) =
                let c : (next g.machine.core.state.committed ≤ y.index) × (x.follows.engine.machine.core.state.committed ≡ g.machine.core.state.committed) = x.conflicts y q in
                let b : next l.engine.machine.core.state.purge_to ≤ y.index = (let u = c.0 in omega (arith, h, u)) in
                record {
                  low = subst (λ z. next l.engine.machine.core.state.purge_to ≤ z) (sym (ends_at ∙ ap (λ (r : Result (Option (LogId ℕ)) (LogId ℕ)). (Narrowed r).searching_end) q))
                      (down (next l.engine.machine.core.state.purge_to) x.handled.asked.entry.searching_end y.index (subst (λ z. next l.engine.machine.core.state.purge_to ≤ z) (sym same_ends) ok.low) b);
                  reaches = inr (subst (λ (o : Option (LogId ℕ)). next l.engine.machine.core.state.purge_to ≤ next o) (sym c.1) h);
                }

    joined : Ends past1 x.leads fuel → Ends past l (suc fuel)
    joined r = (
      exchange given now request (world_after given past) ++ r.0,
      two_more (length r.0) r.1,
      subst (Caught given past now n t k (suc fuel) l end) (append_append past (exchange given now request (world_after given past)) r.0) all,
    )
      where
        two_more : (count : ℕ) → count ≤ 2 * fuel → suc (suc count) ≤ 2 * suc fuel
        two_more count h = omega (arith, h)

        c : Caught given past1 now n t k fuel x.leads end (past1 ++ r.0)
        c = r.2

        all : Caught given past now n t k (suc fuel) l end (past1 ++ r.0)
        all = record {
          planned = planned_then given past (exchange given now request (world_after given past)) (exchanges given now fuel n t) past1 (past1 ++ r.0) refl c.planned
              ∙ ap (λ (es : List Event). past ++ es) (sym (exchanges_next given now n t (world_after given past) fuel request requested));
          leads = c.leads;
          config = c.config ∙ x.config;
          numbers = c.numbers;
          on = on_then l x.leads c.leads vote_on x.on c.on;
          left = left_then x.left c.left;
          count = suc c.count;
          rounds = (led x.leads, x.handled, subst (λ (g : EngineConfig ℕ). Rounds nat_cmp g t c.count (led x.leads) (led c.leads)) x.config c.rounds);
          matched = c.matched;
          follows = record {
            node = c.follows.node;
            at = c.follows.at;
            moment = c.follows.moment;
            engine = c.follows.engine;
            runs = c.follows.runs;
            unspent = c.follows.unspent;
            numbers = c.follows.numbers;
            vote = c.follows.vote ∙ vote_on;
          };
          accepts = c.accepts;
          others = λ j J d u h. c.others j J d u (x.others j J d u h);
        }

  pub catch_up : (fuel : ℕ) (past : List Event) (l : LeadsAt (world_after given past) now n) → 1 ≤ l.engine.config.max_payload_entries → next l.engine.machine.core.state.purge_to < next (last l.engine.machine.core.state.ids)
      → last l.engine.machine.core.state.ids ≡ end → HasNumbers (k + 2 * fuel) l.engine.machine → (e : ProgressEntry ℕ) → get nat_cmp l.leader.progress t ≡ Some e → IsServed end e → gap (next end) e ≤ fuel → IsFree l t ⊎ IsOnItsWay l t
      → (f : MayTake (world_after given past) now l.leader.vote (k + 2 * fuel) t) → IfMatched l.leader.vote f.engine e → Searched (next l.engine.machine.core.state.purge_to) e f.engine → Ends past l fuel
  catch_up fuel past l payload unpurged last_is numbers e has serves few (inl free) f known ok =
      let one : free.entry ≡ e = same_entry (get nat_cmp l.leader.progress t) free.entry e free.has has in
      let d : IsDone end e = free_none e end (ap (λ (x : ProgressEntry ℕ). x.inflight) (sym one) ∙ free.free) serves in
      ([], omega arith, subst (Caught given past now n t k fuel l end) (append_none past) (ended fuel past l last_is numbers e has d f known))
  catch_up zero past l payload unpurged last_is numbers e has serves few (inr a) f known ok =
      let i : IsSent (next end) e = (on_its_way past l e ok.low has serves a).0 in
      absurd (not_zero (next e.matching) (next i.prev) (next i.upto) (next end) e.searching_end i.low i.some i.within few)
  catch_up (suc fuel) past l payload unpurged last_is numbers e has serves few (inr a) f known ok =
      let i = on_its_way past l e ok.low has serves a in
      let x : Exchanged given past now n t (k + 2 * fuel) l f.engine (first_on_its_way l t a i.1).number =
      worlds_exchange given wf past now n t (k + 2 * fuel) l apart payload unpurged (subst (λ j. HasNumbers j l.engine.machine) (two fuel) numbers) (first_on_its_way l t a i.1) i.1 (retake f ((k + 2 * fuel) + 2) (two fuel)) in
      let y : After nat_cmp nat_cmp_total nat_same l.engine.config t (led l) (led x.leads) (then_known nat_cmp nat_cmp_total nat_same l.engine.config payload t x.handled) =
      after fuel past l payload unpurged last_is e has few i.0 (purged i.0) f.engine ok (first_on_its_way l t a i.1).number (first_requested l t a i.1) x in
      joined fuel past l payload unpurged last_is e has few i.0 (purged i.0) f.engine ok (first_on_its_way l t a i.1).number (first_requested l t a i.1) x
      (catch_up fuel (past ++ exchange given now (first_on_its_way l t a i.1).number (world_after given past)) x.leads (subst (λ (c : EngineConfig ℕ). 1 ≤ c.max_payload_entries) (sym x.config) payload) (still_low (led l) (led x.leads) y.leaves unpurged) (y.leaves.end ∙ last_is) x.numbers
      y.entry y.has (subst (λ (o : Option (LogId ℕ)). IsServed o y.entry) last_is y.serves) (narrower fuel past l payload unpurged last_is e has few i.0 (purged i.0) f.engine ok (first_on_its_way l t a i.1).number (first_requested l t a i.1) x) x.next
      (takes fuel past l payload unpurged last_is e has few i.0 (purged i.0) f.engine ok (first_on_its_way l t a i.1).number (first_requested l t a i.1) x) (known_on fuel past l payload unpurged last_is e has few i.0 (purged i.0) f.engine ok (first_on_its_way l t a i.1).number (first_requested l t a i.1) x) (ok_on fuel past l payload unpurged last_is e has few i.0 (purged i.0) f.engine ok (first_on_its_way l t a i.1).number (first_requested l t a i.1) x))
    where
      two : (fuel : ℕ) → k + 2 * suc fuel ≡ (k + 2 * fuel) + 2
      two fuel = omega arith

      one : sent a.was (next_send l.engine.machine.core.state l.engine.config.max_payload_entries a.was) ≡ e
      one = same_entry (get nat_cmp l.leader.progress t) (sent a.was (next_send l.engine.machine.core.state l.engine.config.max_payload_entries a.was)) e a.has has

      purged : (i : IsSent (next end) e) → next l.engine.machine.core.state.purge_to ≤ next i.prev
      purged i =
          accepted_past l.engine.config (led l) (sound_led given wf past now n l) payload unpurged t a.was a.free a.has i.number (record { prev = i.prev; last = i.upto })
          (ap (λ (x : ProgressEntry ℕ). x.inflight) one ∙ i.is)

-- From a failure on

module _ (given : Given) (wf : IsWellFormed given) (past : List Event) (now n t k : ℕ) (l : LeadsAt (world_after given past) now n) (apart : n ≢ t) (keeps : CanServe l) (numbers : HasNumbers (k + (4 * log_len l + 2)) l.engine.machine)
    (may : MayCatchUp l (k + (4 * log_len l + 2)) t) where
  abbrev a : IsAsked nat_cmp t (led l)
  a = may.asked

  abbrev f : MayTake (world_after given past) now l.leader.vote (k + (4 * log_len l + 2)) t
  f = may.takes

  abbrev fuel : ℕ
  fuel = 2 * log_len l

  abbrev end : Option (LogId ℕ)
  end = last l.engine.machine.core.state.ids

  split : (k a : ℕ) → k + (4 * a + 2) ≡ (k + 2 * (2 * a)) + 2
  split k a = omega arith

  again : SentAgain given past now n t (k + 2 * (2 * log_len l)) l
  again = worlds_send_again given wf past now n t (k + 2 * (2 * log_len l)) l apart keeps.payload keeps.unpurged (subst (λ j. HasNumbers j l.engine.machine) (split k (log_len l)) numbers) a

  abbrev past_fail : List Event
  past_fail = past ++ fail n t now ∷ []

  begun : After nat_cmp nat_cmp_total nat_same l.engine.config t (led l) (led again.leads) (silenced a.entry)
  begun = failed_after nat_cmp nat_cmp_total nat_same l.engine.config keeps.payload t (led l) (led again.leads) a.entry a.has (sound_led given wf past now n l) keeps.unpurged again.failed

  vote_begun : again.leads.leader.vote ≡ l.leader.vote
  vote_begun = (knows given wf past_fail now n again.leads).vote ∙ (begun.leaves.vote ∙ sym (knows given wf past now n l).vote)

  -- the failure is the leader's own: the node stays
  stays : MayTake (world_after given past_fail) now again.leads.leader.vote (k + 2 * (2 * log_len l)) t
  stays = record {
    node = f.node;
    at = again.others t f.node (λ e. apart (sym e)) f.at;
    moment = f.moment;
    engine = f.engine;
    runs = f.runs;
    unspent = f.unspent;
    numbers = less_numbers (k + 2 * (2 * log_len l)) 2 f.engine.machine (subst (λ j. HasNumbers j f.engine.machine) (split k (log_len l)) f.numbers);
    low = subst (λ (v : Vote ℕ). rejects_vote nat_cmp f.engine.machine.core.state v ≡ false) (sym vote_begun) f.low;
  }

  begun_gap : gap (next end) begun.entry ≤ 2 * log_len l
  begun_gap =
      let e : EntryFits nat_cmp again.leads.engine.machine.core.state.ids again.leads.engine.machine.core.state.purged begun.entry = fits_of nat_cmp nat_cmp_total nat_same l.engine.config t (led again.leads) begun.sound begun.entry begun.has in
      gap_most (next begun.entry.matching) begun.entry.searching_end (next end) (subst (λ (o : Option (LogId ℕ)). begun.entry.searching_end ≤ next o) begun.leaves.end e.below)

  ok_begun : Searched (next again.leads.engine.machine.core.state.purge_to) begun.entry f.engine
  ok_begun =
      let e : EntryFits nat_cmp again.leads.engine.machine.core.state.ids again.leads.engine.machine.core.state.purged begun.entry = fits_of nat_cmp nat_cmp_total nat_same l.engine.config t (led again.leads) begun.sound begun.entry begun.has in
      let q : begun.entry.searching_end ≡ a.entry.searching_end =
      same_search (next begun.entry.matching) (next (silenced a.entry).matching) begun.entry.searching_end (silenced a.entry).searching_end (next end) begun.same_gap (ap next begun.matching) begun.above e.above in
      subst (λ (o : Option (LogId ℕ)). Searched (next o) begun.entry f.engine) (sym begun.leaves.purge_to)
      (record { low = subst (λ z. next l.engine.machine.core.state.purge_to ≤ z) (sym q) may.searched; reaches = inr may.reaches })

  caught : (more : List Event) × (length more ≤ 2 * (2 * log_len l)) × Caught given past_fail now n t k (2 * log_len l) again.leads end (past_fail ++ more)
  unfolding stays
  caught =
      catch_up given wf now n t k apart end (2 * log_len l) past_fail again.leads (subst (λ (c : EngineConfig ℕ). 1 ≤ c.max_payload_entries) (sym again.config) keeps.payload) (still_low (led l) (led again.leads) begun.leaves keeps.unpurged) begun.leaves.end again.numbers
      begun.entry begun.has begun.serves begun_gap again.next stays (λ m. absurd (may.behind (sym begun.matching ∙ m))) ok_begun

  pub matches : (more : List Event) × (length more ≤ 4 * log_len l + 1) × MatchesAfter given past now n t k l (past ++ more)
  matches = (
    fail n t now ∷ caught.0,
    (let h = caught.1 in omega (arith, h)),
    subst (MatchesAfter given past now n t k l) (append_append past (fail n t now ∷ []) caught.0) all,
  )
    where
      c : Caught given past_fail now n t k (2 * log_len l) again.leads end (past_fail ++ caught.0)
      c = caught.2

      all : MatchesAfter given past now n t k l (past_fail ++ caught.0)
      all = record {
        planned = planned_then given past (fail n t now ∷ []) (exchanges given now (2 * log_len l) n t) past_fail (past_fail ++ caught.0) refl c.planned
            ∙ ap (λ (es : List Event). past ++ es) (sym (bring_is given now n t (world_after given past) l.engine (leader_runs l)));
        leads = c.leads;
        config = c.config ∙ again.config;
        numbers = c.numbers;
        on = on_then l again.leads c.leads vote_begun again.on c.on;
        left = left_then again.left c.left;
        replicated = record {
          begun = led again.leads;
          failed = again.failed;
          count = c.count;
          rounds = subst (λ (g : EngineConfig ℕ). Rounds nat_cmp g t c.count (led again.leads) (led c.leads)) again.config c.rounds;
          matched = c.matched;
        };
        caught = record {
          follows = record {
            node = c.follows.node;
            at = c.follows.at;
            moment = c.follows.moment;
            engine = c.follows.engine;
            runs = c.follows.runs;
            unspent = c.follows.unspent;
            numbers = c.follows.numbers;
            vote = c.follows.vote ∙ vote_begun;
          };
          accepts = c.accepts;
        };
        others = λ i I d u h. c.others i I d u (again.others i I d h);
      }

pub worlds_match : WorldsMatch
worlds_match given wf past now n t k l apart keeps numbers may = matches given wf past now n t k l apart keeps numbers may
