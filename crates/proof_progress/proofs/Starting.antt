-- Nodes make bare starts, one after another.
use Rattle.std.proofs.Common.{ℕ, suc, ◌+◌, ◌<◌, ◌≤◌, ◌≡◌, ◌≢◌, inl, inr, Bool, true, false, List, [], ◌∷◌, length, arith, refl, sym, ◌∙◌, subst, Some}
use Rattle.std.specs.Prelude.{max}
use Rattle.std.specs.List.{AllByRecursion}
use Rattle.std.specs.Ordering.{nat_cmp}
use Rattle.std.proofs.lemmas.Bool.Decides.{nat_tests}
use Rattle.proof_deeds.specs.raft_state.State.{is_leader}
use Rattle.proof_deeds.specs.raft_progress.Quorum.{is_quorum}
use Rattle.proof_deeds.specs.raft_proposer.Joint.{u64_max}
use Rattle.proof_deeds.specs.raft_store.declared.entry.Entry.{Entry}
use Rattle.proof_deeds.specs.raft_store.Entries.{entry_meaning}
use Rattle.proof_deeds.specs.raft_store.Restart.{started}
use Rattle.proof_deeds.specs.raft_store.Types.{EngineView}
use Rattle.proof_deeds.specs.raft_schedule.declared.event.Event.{Event}
use Rattle.proof_deeds.specs.raft_schedule.declared.event.Outcome.{Outcome}
use Rattle.proof_deeds.specs.raft_node.declared.given.Given.{Given}
use Rattle.proof_deeds.specs.raft_node.Events.{happens}
use Rattle.proof_deeds.specs.raft_node.Net.{Net, NodeView}
use Rattle.proof_deeds.specs.raft_node.Runs.{whole_logs}
use Rattle.proof_deeds.specs.raft_node.Work.{weight}
use Rattle.proof_progress.specs.Continuations.{At, goes_on}
use Rattle.proof_progress.specs.Elections.{members}
use Rattle.proof_progress.specs.GoesOn.{HasTerms, NeedsOthers, found, greatest_term, last_moment}
use Rattle.proof_progress.specs.Plans.{start_bare, starts}
use Rattle.proof_progress.specs.Proposals.{EachOnce}
use Rattle.proof_progress.proofs.BareStarts.{BareStarted, StartsBare, bare_starts, starts_at_last}
use Rattle.proof_progress.proofs.Chosen.{each_at, enough_is_quorum}
use Rattle.proof_progress.proofs.Conditions.{is_enough}
use Rattle.proof_progress.proofs.Executes.{away}

-- a greatest term, and a last moment
left_of_max : (a b : ℕ) → a ≤ max a b
left_of_max a b = grind (arith, nat_tests)

right_of_max : (a b c : ℕ) → a ≤ c → a ≤ max b c
right_of_max a b c l = grind (arith, nat_tests)

max_below : (a b c : ℕ) → a + 1 < c → b + 1 < c → max a b + 1 < c
max_below a b c l m = grind (arith, nat_tests)

pub up_to_term : (nodes : List NodeView) (id : ℕ) (N : NodeView) → At nodes id N → N.store.vote.leader_id.term ≤ greatest_term nodes
up_to_term [] id N h = absurd h
up_to_term (x ∷ xs) id N (inl p) = subst (λ (M : NodeView). M.store.vote.leader_id.term ≤ max x.store.vote.leader_id.term (greatest_term xs)) p.1 (left_of_max x.store.vote.leader_id.term (greatest_term xs))
up_to_term (x ∷ xs) id N (inr p) = right_of_max N.store.vote.leader_id.term x.store.vote.leader_id.term (greatest_term xs) (up_to_term xs id N p.1)

pub up_to_moment : (nodes : List NodeView) (id : ℕ) (N : NodeView) → At nodes id N → N.moment ≤ last_moment nodes
up_to_moment [] id N h = absurd h
up_to_moment (x ∷ xs) id N (inl p) = subst (λ (M : NodeView). M.moment ≤ max x.moment (last_moment xs)) p.1 (left_of_max x.moment (last_moment xs))
up_to_moment (x ∷ xs) id N (inr p) = right_of_max N.moment x.moment (last_moment xs) (up_to_moment xs id N p.1)

pub terms_left : (given : Given) (nodes : List NodeView) → AllByRecursion (HasTerms given) nodes → greatest_term nodes + 1 < u64_max
terms_left given [] a = omega arith
terms_left given (x ∷ xs) a = max_below x.store.vote.leader_id.term (greatest_term xs) u64_max a.0.terms (terms_left given xs a.1)

-- what a quorum alone isn't
pub not_enough : (now : ℕ) (e : EngineView) → is_quorum nat_cmp (members e).groups (e.config.id ∷ []) ≡ false → is_enough now e ≡ false
not_enough now e q = go (is_enough now e) refl
  where
    go : (b : Bool) → is_enough now e ≡ b → b ≡ false
    go true p = let z : true ≡ false = sym (enough_is_quorum now e p) ∙ q in z
    go false p = refl

module _ (given : Given) (net : Net (List Entry)) (now : ℕ) (moments : (id : ℕ) (N : NodeView) → At net.nodes id N → N.moment ≤ now) (terms : AllByRecursion (HasTerms given) net.nodes) where
  -- a node of the world, which is as it was
  pub record Waits (mid : Net (List Entry)) (t : ℕ) : Type 0 where
    pub node : NodeView
    pub was : At net.nodes t node
    pub at : At mid.nodes t node
    pub others : NeedsOthers given node

  -- one that has started
  pub record Ready (new : Net (List Entry)) (t : ℕ) : Type 0 where
    pub was : NodeView
    pub before : At net.nodes t was
    pub node : NodeView
    pub at : At new.nodes t node
    pub moment : node.moment ≤ now
    pub engine : EngineView
    pub runs : node.engine ≡ Some engine
    pub starts : StartsBare (found given was) engine

  pub starts_at : (mid : Net (List Entry)) (t : ℕ) (N : NodeView) → At net.nodes t N → At mid.nodes t N → NeedsOthers given N
      → BareStarted mid (happens whole_logs weight given (start_bare t) mid).1 N.moment t (found given N)
  starts_at mid t N was at others =
      let h : HasTerms given N = each_at (HasTerms given) net.nodes t N was terms in
      subst (λ (x : Outcome × Net (List Entry)). BareStarted mid x.1 N.moment t (found given N)) (sym (starts_at_last given t N mid at))
      (bare_starts given N.moment N mid t at (omega arith) (let l : N.store.vote.leader_id.term + 1 < u64_max = h.terms in omega (arith, l)) h.index
      (few others))
    where
      few : NeedsOthers given N → is_leader nat_cmp (started nat_cmp entry_meaning false N.store) N.id ≡ true → is_enough N.moment (found given N) ≡ false
      few (inl q) p = let z : true ≡ false = sym p ∙ q in cc
      few (inr q) p = not_enough N.moment (found given N) q

  -- these have started, and all others are as they were
  pub record AllReady (mid new : Net (List Entry)) (ts : List ℕ) (es : List Event) : Type 0 where
    pub frame : (k : ℕ) (K : NodeView) → AllByRecursion (λ t. k ≢ t) ts → At mid.nodes k K → At new.nodes k K
    pub ready : AllByRecursion (Ready new) ts
    pub count : length es ≤ length ts

  wait_on : (mid new : Net (List Entry)) (t : ℕ) → ((k : ℕ) (K : NodeView) → k ≢ t → At mid.nodes k K → At new.nodes k K) → (us : List ℕ) → AllByRecursion (λ u. u ≢ t) us → AllByRecursion (Waits mid) us → AllByRecursion (Waits new) us
  wait_on mid new t f [] d w = tt
  wait_on mid new t f (u ∷ us) d w = (record { node = w.0.node; was = w.0.was; at = f u w.0.node d.0 w.0.at; others = w.0.others }, wait_on mid new t f us d.1 w.1)

  pub all_start : (ts : List ℕ) (mid : Net (List Entry)) → EachOnce ts → AllByRecursion (Waits mid) ts
      → AllReady mid (goes_on given (starts ts) mid) ts (starts ts)
  all_start [] mid once w = record { frame = λ k K d at. at; ready = tt; count = omega arith }
  all_start (t ∷ ts) mid once w =
      let one : Net (List Entry) = (happens whole_logs weight given (start_bare t) mid).1 in
      let b : BareStarted mid one w.0.node.moment t (found given w.0.node) = starts_at mid t w.0.node w.0.was w.0.at w.0.others in
      let r : AllReady one (goes_on given (starts ts) one) ts (starts ts) =
      all_start ts one once.1 (wait_on mid one t b.changed.others ts once.0 w.1) in
      record {
        frame = λ k K d at. r.frame k K d.1 (b.changed.others k K d.0 at);
        ready = (
          record {
            was = w.0.node;
            before = w.0.was;
            node = b.node;
            at = r.frame t b.node (away t ts once.0) b.changed.here;
            moment = let a : b.node.moment ≡ w.0.node.moment = b.moment in
                let l : w.0.node.moment ≤ now = moments t w.0.node w.0.was in omega (arith, a, l);
            engine = b.engine;
            runs = b.runs;
            starts = b.starts;
          },
          r.ready,
        );
        count = let l : length (starts ts) ≤ length ts = r.count in let m : suc (length (starts ts)) ≤ suc (length ts) = omega (arith, l) in m;
      }
