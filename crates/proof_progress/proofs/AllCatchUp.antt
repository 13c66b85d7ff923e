-- A leader brings the logs of several nodes to match its own, one after another.
use Rattle.std.proofs.Common.{ℕ, suc, ◌+◌, ◌*◌, ◌≤◌, ◌≡◌, ◌≢◌, false, List, [], ◌∷◌, ◌++◌, length, arith, refl, sym, ap, ◌∙◌, subst, Option}
use Rattle.std.specs.List.{AllByRecursion}
use Rattle.std.specs.Ordering.{nat_cmp}
use Rattle.std.proofs.Math.Nat.{suc-mul}
use Rattle.std.proofs.lemmas.Cmp.{nat_cmp_total}
use Rattle.proof_deeds.specs.raft_state.declared.ids.LogId.{LogId}
use Rattle.proof_deeds.specs.raft_state.declared.ids.Vote.{Vote}
use Rattle.proof_deeds.specs.raft_state.Log.{last}
use Rattle.proof_deeds.specs.raft_state.Order.{next}
use Rattle.proof_deeds.specs.raft_state.Same.{nat_same}
use Rattle.proof_deeds.specs.raft_command.declared.config.EngineConfig.{EngineConfig}
use Rattle.proof_deeds.specs.raft_steps.VoteHandler.{rejects_vote}
use Rattle.proof_deeds.proofs.raft_steps_proofs.LawsQueue.{append_append, append_none}
use Rattle.proof_deeds.specs.raft_store.declared.entry.Entry.{Entry}
use Rattle.proof_deeds.specs.raft_schedule.declared.event.Event.{Event}
use Rattle.proof_deeds.specs.raft_node.declared.given.Given.{Given}
use Rattle.proof_deeds.specs.raft_node.Net.{Net}
use Rattle.proof_deeds.specs.raft_node.Runs.{world_after}
use Rattle.proof_deeds.specs.raft_node.WellFormed.{IsWellFormed}
use Rattle.proof_progress.specs.CatchUps.{AllMatchAfter, HasCaughtUp, CanServe, MatchesAfter, MayCatchUp, WorldsAllMatch, log_len}
use Rattle.proof_progress.specs.Continuations.{At}
use Rattle.proof_progress.specs.Exchanges.{HasNumbers, LeadsAt, MayTake, led}
use Rattle.proof_progress.specs.Plans.{bring, bring_all}
use Rattle.proof_progress.specs.Proposals.{EachOnce, ReplicatedTo}
use Rattle.proof_progress.proofs.CatchesUp.{less_numbers, on_self, on_then, worlds_match}
use Rattle.proof_progress.proofs.LeadersKnow.{knows, sound_led}
use Rattle.proof_progress.proofs.Planned.{planned_then}
use Rattle.proof_progress.proofs.Proposed.{Kept, after_kept, differs, kept_then, rounds_keep}
use Rattle.proof_progress.proofs.Rounds.{After, failed_after, still_low}
use Rattle.proof_progress.proofs.WorksOff.{left_itself, left_then}
use Rattle.proof_deeds.specs.raft_progress_entry.Entry.{silenced}

-- what one of them changes at the leader
module _ (given : Given) (wf : IsWellFormed given) (past : List Event) (now n t j : ℕ) (l : LeadsAt (world_after given past) now n) (keeps : CanServe l) (k : ℕ) (may : MayCatchUp l j t) (all : List Event) (m : MatchesAfter given past now n t k l all) where
  begun : After nat_cmp nat_cmp_total nat_same l.engine.config t (led l) m.replicated.begun (silenced may.asked.entry)
  begun = failed_after nat_cmp nat_cmp_total nat_same l.engine.config keeps.payload t (led l) m.replicated.begun may.asked.entry may.asked.has (sound_led given wf past now n l) keeps.unpurged m.replicated.failed

  pub kept : Kept nat_cmp nat_cmp_total nat_same l.engine.config t (led l) (led m.leads)
  kept =
      kept_then nat_cmp nat_cmp_total nat_same l.engine.config t (led l) m.replicated.begun (led m.leads) (after_kept nat_cmp nat_cmp_total nat_same l.engine.config t (led l) m.replicated.begun (silenced may.asked.entry) begun)
      (rounds_keep nat_cmp nat_cmp_total nat_same l.engine.config keeps.payload t m.replicated.count m.replicated.begun (led m.leads) begun.sound (still_low (led l) m.replicated.begun begun.leaves keeps.unpurged) m.replicated.rounds)

  pub vote_kept : m.leads.leader.vote ≡ l.leader.vote
  vote_kept = (knows given wf all now n m.leads).vote ∙ (kept.leaves.vote ∙ sym (knows given wf past now n l).vote)

  pub keeps_then : CanServe m.leads
  keeps_then = record {
    payload = subst (λ (c : EngineConfig ℕ). 1 ≤ c.max_payload_entries) (sym m.config) keeps.payload;
    unpurged = still_low (led l) (led m.leads) kept.leaves keeps.unpurged;
  }

  -- another node may catch up as before
  pub may_then : (i u : ℕ) → u ≢ n → u ≢ t → MayCatchUp l (k + i) u → MayCatchUp m.leads (k + i) u
  may_then i u d e h = record {
    asked = record { entry = h.asked.entry; has = kept.touches.others u (differs nat_cmp nat_same u t e) ∙ h.asked.has; busy = h.asked.busy };
    behind = λ q. h.behind (q ∙ kept.leaves.end);
    takes = record {
      node = h.takes.node;
      at = m.others u h.takes.node d e h.takes.at;
      moment = h.takes.moment;
      engine = h.takes.engine;
      runs = h.takes.runs;
      unspent = h.takes.unspent;
      numbers = h.takes.numbers;
      low = subst (λ (v : Vote ℕ). rejects_vote nat_cmp h.takes.engine.machine.core.state v ≡ false) (sym vote_kept) h.takes.low;
    };
    searched = subst (λ (o : Option (LogId ℕ)). next o ≤ h.asked.entry.searching_end) (sym kept.leaves.purge_to) h.searched;
    reaches = subst (λ (o : Option (LogId ℕ)). next o ≤ next h.takes.engine.machine.core.state.committed) (sym kept.leaves.purge_to) h.reaches;
  }

-- a node that caught up, in another world that has it, under the same vote
moved : {net : Net (List Entry)} {now : ℕ} {v : Vote ℕ} {end : Option (LogId ℕ)} {k t : ℕ} → (c : HasCaughtUp net now v end k t) → (net1 : Net (List Entry)) → At net1.nodes t c.follows.node → HasCaughtUp net1 now v end k t
moved c net1 a = record {
  follows = record { node = c.follows.node; at = a; moment = c.follows.moment; engine = c.follows.engine; runs = c.follows.runs; unspent = c.follows.unspent; numbers = c.follows.numbers; vote = c.follows.vote };
  accepts = c.accepts;
}

abbrev pub less_take : {net : Net (List Entry)} {now : ℕ} {v : Vote ℕ} {t : ℕ} → (k j : ℕ) → MayTake net now v (k + j) t → MayTake net now v k t
less_take k j f = record { node = f.node; at = f.at; moment = f.moment; engine = f.engine; runs = f.runs; unspent = f.unspent; numbers = less_numbers k j f.engine.machine f.numbers; low = f.low }

less_may : {net : Net (List Entry)} {now n : ℕ} {l : LeadsAt net now n} → (k j t : ℕ) → MayCatchUp l (k + j) t → MayCatchUp l k t
less_may k j t h = record { asked = h.asked; behind = h.behind; takes = less_take k j h.takes; searched = h.searched; reaches = h.reaches }

abbrev pub fewer_caught : {net : Net (List Entry)} {now : ℕ} {v : Vote ℕ} {end : Option (LogId ℕ)} {t : ℕ} → (k j : ℕ) → HasCaughtUp net now v end (k + j) t → HasCaughtUp net now v end k t
fewer_caught k j c = record {
  follows = record { node = c.follows.node; at = c.follows.at; moment = c.follows.moment; engine = c.follows.engine; runs = c.follows.runs; unspent = c.follows.unspent; numbers = less_numbers k j c.follows.engine.machine c.follows.numbers; vote = c.follows.vote };
  accepts = c.accepts;
}

module _ (given : Given) (wf : IsWellFormed given) (now n k : ℕ) where
  abbrev Budget : ℕ → List ℕ → ℕ
  Budget len ts = k + length ts * (4 * len + 2)

  abbrev AllEnd : (ts : List ℕ) (past : List Event) (l : LeadsAt (world_after given past) now n) → Type 0
  AllEnd ts past l = (more : List Event) × (length more ≤ length ts * (4 * log_len l + 1)) × AllMatchAfter given past now n k l ts (past ++ more)

  module _ (t : ℕ) (ts : List ℕ) (past : List Event) (l : LeadsAt (world_after given past) now n) (once : EachOnce (n ∷ t ∷ ts)) (keeps : CanServe l) (numbers : HasNumbers (k + length (t ∷ ts) * (4 * log_len l + 2)) l.engine.machine)
      (may : AllByRecursion (MayCatchUp l (k + length (t ∷ ts) * (4 * log_len l + 2))) (t ∷ ts)) where
    budget : (len c : ℕ) → k + suc c * (4 * len + 2) ≡ (k + c * (4 * len + 2)) + (4 * len + 2)
    budget len c = ap (λ x. k + x) (suc-mul c (4 * len + 2)) ∙ plus k (c * (4 * len + 2)) (4 * len + 2)
      where
        plus : (a b d : ℕ) → a + (b + d) ≡ (a + b) + d
        plus a b d = omega arith

    apart : n ≢ t
    apart e = once.0.0 (sym e)

    may_first : MayCatchUp l ((k + length ts * (4 * log_len l + 2)) + (4 * log_len l + 2)) t
    may_first = subst (λ j. MayCatchUp l j t) (budget (log_len l) (length ts)) may.0

    one : (more : List Event) × (length more ≤ 4 * log_len l + 1) × MatchesAfter given past now n t (k + length ts * (4 * log_len l + 2)) l (past ++ more)
    one = worlds_match given wf past now n t (k + length ts * (4 * log_len l + 2)) l apart keeps (subst (λ j. HasNumbers j l.engine.machine) (budget (log_len l) (length ts)) numbers) may_first

    abbrev past1 : List Event
    past1 = past ++ one.0

    abbrev m : MatchesAfter given past now n t (k + length ts * (4 * log_len l + 2)) l (past ++ one.0)
    m = one.2

    kept_one : Kept nat_cmp nat_cmp_total nat_same l.engine.config t (led l) (led m.leads)
    kept_one = kept given wf past now n t _ l keeps (k + length ts * (4 * log_len l + 2)) may_first past1 m

    same_len : log_len m.leads ≡ log_len l
    same_len = ap next kept_one.leaves.end

    vote_one : m.leads.leader.vote ≡ l.leader.vote
    vote_one = vote_kept given wf past now n t _ l keeps (k + length ts * (4 * log_len l + 2)) may_first past1 m

    -- the others may as before
    others_may : (us : List ℕ) → AllByRecursion (λ u. u ≢ n) us → AllByRecursion (λ u. u ≢ t) us → AllByRecursion (MayCatchUp l (k + length (t ∷ ts) * (4 * log_len l + 2))) us → AllByRecursion (MayCatchUp m.leads (k + length ts * (4 * log_len l + 2))) us
    others_may [] d e h = tt
    others_may (u ∷ us) d e h = (
      less_may (k + length ts * (4 * log_len l + 2)) (4 * log_len l + 2) u
          (may_then given wf past now n t _ l keeps (k + length ts * (4 * log_len l + 2)) may_first past1 m (4 * log_len l + 2) u d.0 e.0 (subst (λ j. MayCatchUp l j u) (budget (log_len l) (length ts)) h.0)),
      others_may us d.1 e.1 h.1,
    )

    keeps_one : CanServe m.leads
    keeps_one = keeps_then given wf past now n t _ l keeps (k + length ts * (4 * log_len l + 2)) may_first past1 m

    numbers_one : HasNumbers (k + length ts * (4 * log_len m.leads + 2)) m.leads.engine.machine
    numbers_one = subst (λ len. HasNumbers (k + length ts * (4 * len + 2)) m.leads.engine.machine) (sym same_len) m.numbers

    may_one : AllByRecursion (MayCatchUp m.leads (k + length ts * (4 * log_len m.leads + 2))) ts
    may_one = subst (λ len. AllByRecursion (MayCatchUp m.leads (k + length ts * (4 * len + 2))) ts) (sym same_len) (others_may ts once.0.1 once.1.0 may.1)

    once_one : EachOnce (n ∷ ts)
    once_one = (once.0.1, once.1.1)

    joined : AllEnd ts past1 m.leads → AllEnd (t ∷ ts) past l
    joined r = (
      one.0 ++ r.0,
      counted (length (one.0 ++ r.0)) (length one.0) (length r.0) (length ts) (log_len l) (log_len m.leads) (length_both one.0 r.0) one.1 r.1 same_len,
      subst (AllMatchAfter given past now n k l (t ∷ ts)) (append_append past one.0 r.0) all,
    )
      where
        length_both : (xs ys : List Event) → length (xs ++ ys) ≡ length xs + length ys
        length_both [] ys = omega arith
        length_both (x ∷ xs) ys = let h = length_both xs ys in omega (arith, h)

        counted : (a b c ts len len1 : ℕ) → a ≡ b + c → b ≤ 4 * len + 1 → c ≤ ts * (4 * len1 + 1) → len1 ≡ len → a ≤ suc ts * (4 * len + 1)
        counted a b c ts len len1 e p q s = let r : c ≤ ts * (4 * len + 1) = subst (λ y. c ≤ ts * (4 * y + 1)) s q in by a b c ts len e p r
          where
            sum : (a b c y z : ℕ) → a ≡ b + c → b ≤ y → c ≤ z → a ≤ z + y
            sum a b c y z e p r = omega (arith, e, p, r)

            by : (a b c ts len : ℕ) → a ≡ b + c → b ≤ 4 * len + 1 → c ≤ ts * (4 * len + 1) → a ≤ suc ts * (4 * len + 1)
            by a b c ts len e p r = subst (λ x. a ≤ x) (sym (suc-mul ts (4 * len + 1))) (sum a b c (4 * len + 1) (ts * (4 * len + 1)) e p r)

        c : AllMatchAfter given past1 now n k m.leads ts (past1 ++ r.0)
        c = r.2

        away : (us : List ℕ) → AllByRecursion (λ u. u ≢ t) us → AllByRecursion (λ u. t ≢ u) us
        away [] d = tt
        away (u ∷ us) d = ((λ e. d.0 (sym e)), away us d.1)

        caught_as : (us : List ℕ) → AllByRecursion (HasCaughtUp (world_after given (past1 ++ r.0)) now m.leads.leader.vote (last m.leads.engine.machine.core.state.ids) k) us
            → AllByRecursion (HasCaughtUp (world_after given (past1 ++ r.0)) now l.leader.vote (last l.engine.machine.core.state.ids) k) us
        caught_as us h = subst (λ (v : Vote ℕ). AllByRecursion (HasCaughtUp (world_after given (past1 ++ r.0)) now v (last l.engine.machine.core.state.ids) k) us) vote_one
            (subst (λ (end : Option (LogId ℕ)). AllByRecursion (HasCaughtUp (world_after given (past1 ++ r.0)) now m.leads.leader.vote end k) us) kept_one.leaves.end h)

        all : AllMatchAfter given past now n k l (t ∷ ts) (past1 ++ r.0)
        all = record {
          planned = planned_then given past (bring given now n t (world_after given past)) (bring_all given now n ts) past1 (past1 ++ r.0) m.planned c.planned;
          leads = c.leads;
          config = c.config ∙ m.config;
          numbers = c.numbers;
          on = on_then l m.leads c.leads vote_one m.on c.on;
          left = left_then m.left c.left;
          end = c.end ∙ kept_one.leaves.end;
          purge_to = c.purge_to ∙ kept_one.leaves.purge_to;
          vote = c.vote ∙ kept_one.leaves.vote;
          replicated = (led m.leads, m.replicated, subst (λ (g : EngineConfig ℕ). ReplicatedTo nat_cmp g ts (led m.leads) (led c.leads)) m.config c.replicated);
          caught = (
            fewer_caught k (length ts * (4 * log_len l + 2)) (moved m.caught (world_after given (past1 ++ r.0)) (c.others t m.caught.follows.node (λ e. apart (sym e)) (away ts once.1.0) m.caught.follows.at)),
            caught_as ts c.caught,
          );
          rows = λ u e. c.rows u e.1 ∙ kept_one.touches.others u (differs nat_cmp nat_same u t e.0);
          others = λ i I d e h. c.others i I d e.1 (m.others i I d e.0 h);
        }

  pub all_match : (ts : List ℕ) (past : List Event) (l : LeadsAt (world_after given past) now n) → EachOnce (n ∷ ts) → CanServe l → HasNumbers (k + length ts * (4 * log_len l + 2)) l.engine.machine
      → AllByRecursion (MayCatchUp l (k + length ts * (4 * log_len l + 2))) ts → AllEnd ts past l
  all_match [] past l once keeps numbers may = (
    [],
    omega arith,
    subst (AllMatchAfter given past now n k l []) (append_none past)
        (record { planned = append_none past; leads = l; config = refl; numbers = less_numbers k 0 l.engine.machine (subst (λ j. HasNumbers j l.engine.machine) (nothing k (4 * log_len l + 2)) numbers); on = on_self l; left = left_itself l.node.store; end = refl; purge_to = refl; vote = refl; replicated = refl; caught = tt; rows = λ u e. refl; others = λ i I d e h. h }),
  )
    where
      nothing : (k c : ℕ) → k + 0 * c ≡ k + 0
      nothing k c = omega arith
  all_match (t ∷ ts) past l once keeps numbers may =
      joined t ts past l once keeps numbers may
      (all_match ts (past ++ (one t ts past l once keeps numbers may).0) (m t ts past l once keeps numbers may).leads (once_one t ts past l once keeps numbers may) (keeps_one t ts past l once keeps numbers may) (numbers_one t ts past l once keeps numbers may)
      (may_one t ts past l once keeps numbers may))

pub worlds_all_match : WorldsAllMatch
worlds_all_match given wf ts past now n k l once keeps numbers may = all_match given wf now n k ts past l once keeps numbers may
