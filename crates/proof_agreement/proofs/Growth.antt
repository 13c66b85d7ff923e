-- Each event gives Grows, and leaves a candidate's log alone.
use Rattle.std.proofs.Common.{ℕ, ◌<◌, ◌≡◌, inl, inr, Bool, true, false, arith, refl, sym, ◌∙◌}
use Rattle.std.proofs.lemmas.Bool.{true≢false}
use Rattle.proof_agreement.specs.Machine.{Node, World, Setup, Executed, Event, RaiseVote, GrantVote, Follow, Establish, Propose, Truncate, Extend, Clear, Install, Acknowledge, Decide, LearnCommitted, ForgetCommitted, Execute, Begin, Allowed, happens, Includes, updated, push, log_of, leader_log, vote_of}
use Rattle.proof_agreement.proofs.Logs.{updated_all}
use Rattle.proof_agreement.proofs.Invariants.{Invariants}
use Rattle.proof_agreement.proofs.Stability.{LeaderGrows-refl, Grows}
use Rattle.proof_agreement.proofs.NodeEvents.{node_grows}
use Rattle.proof_agreement.proofs.RecordEvents.{acknowledge_grows, decide_grows}
use Rattle.proof_agreement.proofs.ProposeEvent.{propose_grows}
use Rattle.proof_agreement.proofs.EstablishEvent.{establish_grows}

module _ {A : Type 0} where
  -- where a vote above 0 is the same and not committed, the log is the same
  pub record StillAt (N M : Node A) : Type 0 where
    pub vote_committed : N.vote_committed ≡ false
    pub log : M.log ≡ N.log

  abbrev pub Still : World A → World A → Type 0
  Still w w' = (n : ℕ) → vote_of w' n ≡ vote_of w n → 0 < vote_of w n → (w'.node n).vote_committed ≡ false → StillAt (w.node n) (w'.node n)

module _ {A : Type 0} (s : Setup A) (w : World A) (inv : Invariants s w) where
  pub grows : (e : Event A) → Allowed s w e → Grows w (happens s w e)
  grows (RaiseVote n d) h = node_grows s w n (record (w.node n) { vote = d; vote_committed = false }) (omega arith)
  grows (GrantVote n) h = record { leader = λ d. LeaderGrows-refl (w.leader d); vote = λ m. omega arith; acknowledged = λ m d k a. inl a; acknowledges = λ m d. omega arith; grants = λ x h'. inr h' }
  grows (Follow n d) h = node_grows s w n (record (w.node n) { vote = d; vote_committed = true }) h.from
  grows (Establish d q) h = establish_grows s w inv d q h
  grows (Propose d payload) h = propose_grows s w inv d payload h
  grows (Truncate n i) h = node_grows s w n (record (w.node n) { log = record (log_of w n) { len = i } }) (omega arith)
  grows (Extend n m) h = node_grows s w n (record (w.node n) { log = record (leader_log w (vote_of w n)) { len = m } }) (omega arith)
  grows (Clear n j d p) h = node_grows s w n (record (w.node n) { log = record (log_of w n) { len = j } }) (omega arith)
  grows (Install n d k) h = node_grows s w n (record (w.node n) { log = record (leader_log w d) { len = k }; committed = k }) (omega arith)
  grows (Acknowledge n y) h = acknowledge_grows s w inv n y h
  grows (Decide d c q) h = decide_grows s w inv d c
  grows (LearnCommitted n d c) h = node_grows s w n (record (w.node n) { committed = c }) (omega arith)
  grows (ForgetCommitted n c) h = node_grows s w n (record (w.node n) { committed = c }) (omega arith)
  grows (Execute n i) h = record { leader = λ d. LeaderGrows-refl (w.leader d); vote = λ m. omega arith; acknowledged = λ m d k a. inl a; acknowledges = λ m d. omega arith; grants = λ x h'. h' }
  grows (Begin n) h = node_grows s w n (record (w.node n) { log = record (leader_log w 0) { len = 1 } }) (omega arith)

  node_still : (n : ℕ) (N : Node A) → (N.vote ≡ vote_of w n → 0 < vote_of w n → N.vote_committed ≡ false → StillAt (w.node n) N) → (m : ℕ) → (updated w.node n N m).vote ≡ vote_of w m → 0 < vote_of w m → (updated w.node n N m).vote_committed ≡ false → StillAt (w.node m) (updated w.node n N m)
  node_still n N h = updated_all (λ m M. M.vote ≡ vote_of w m → 0 < vote_of w m → M.vote_committed ≡ false → StillAt (w.node m) M) w.node n N h (λ m _ _ _ t. record { vote_committed = t; log = refl })

  both_ways : {b : Bool} {X : Type 0} → b ≡ true → b ≡ false → X
  both_ways p q = absurd (true≢false (sym p ∙ q))

  pub still : (e : Event A) → Allowed s w e → Still w (happens s w e)
  still (RaiseVote n d) h = node_still n (record (w.node n) { vote = d; vote_committed = false }) (λ e _ _. absurd (omega arith))
  still (GrantVote n) h = λ m _ _ t. record { vote_committed = t; log = refl }
  still (Follow n d) h = node_still n (record (w.node n) { vote = d; vote_committed = true }) (λ _ _ t. absurd (true≢false t))
  still (Establish d q) h = node_still (s.owner d) (record (w.node (s.owner d)) { vote_committed = true }) (λ _ _ t. absurd (true≢false t))
  still (Propose d payload) h = node_still (s.owner d) (record (w.node (s.owner d)) { log = push (log_of w (s.owner d)) (record { leader = d; payload = payload }) }) (λ _ _ t. both_ways h.vote_committed t)
  still (Truncate n i) h = node_still n (record (w.node n) { log = record (log_of w n) { len = i } }) (λ _ _ t. both_ways h.led.vote_committed t)
  still (Extend n m) h = node_still n (record (w.node n) { log = record (leader_log w (vote_of w n)) { len = m } }) (λ _ _ t. both_ways h.led.vote_committed t)
  still (Clear n j d p) h = node_still n (record (w.node n) { log = record (log_of w n) { len = j } }) (λ _ _ t. both_ways h.led.vote_committed t)
  still (Install n d k) h = node_still n (record (w.node n) { log = record (leader_log w d) { len = k }; committed = k }) (λ _ _ t. both_ways h.led.vote_committed t)
  still (Acknowledge n y) h = λ m _ _ t. record { vote_committed = t; log = refl }
  still (Decide d c q) h = λ m _ _ t. record { vote_committed = t; log = refl }
  still (LearnCommitted n d c) h = node_still n (record (w.node n) { committed = c }) (λ _ _ t. record { vote_committed = t; log = refl })
  still (ForgetCommitted n c) h = node_still n (record (w.node n) { committed = c }) (λ _ _ t. record { vote_committed = t; log = refl })
  still (Execute n i) h = λ m _ _ t. record { vote_committed = t; log = refl }
  still (Begin n) h = node_still n (record (w.node n) { log = record (leader_log w 0) { len = 1 } }) (λ _ l _. absurd (omega (arith, h.fresh)))

module _ {A : Type 0} (s : Setup A) (w : World A) where
  pub executed_grows : (e : Event A) (x : Executed A) → Includes w.executed x → Includes (happens s w e).executed x
  executed_grows (Execute n i) x h = inr h
  executed_grows _ x h = h
