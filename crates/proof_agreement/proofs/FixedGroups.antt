-- The machine with fixed voter groups is a special case.
use Rattle.std.proofs.Common.{arith, ℕ, inl, List, [], ◌∷◌, refl, sym}
use Rattle.std.proofs.lemmas.Bool.{true≢false}
use Rattle.proof_agreement.specs.Machine.{World, Event, RaiseVote, GrantVote, Follow, Establish, Propose, Truncate, Extend, Clear, Install, Acknowledge, Decide, LearnCommitted, ForgetCommitted, Execute, Begin, Allowed, AllAllowed, happens}
use Rattle.proof_agreement.specs.FixedGroups.{fixed, FixedAllowed, AllFixed}

module _ {A : Type 0} (g : List ℕ) (gs : List (List ℕ)) (owner : ℕ → ℕ) (first : A) where
  pub one_allowed : (w : World A) (e : Event A) → FixedAllowed g gs (fixed g gs owner first) w e → Allowed (fixed g gs owner first) w e
  one_allowed w (Establish d q) h = record { positive = h.positive; vote = h.vote; not_committed = h.not_committed; some = h.some; quorum = record { first = h.quorum.0; rest = h.quorum.1 }; each = h.each }
  one_allowed w (Propose d x) h = record { vote = h.0; vote_committed = h.1; same = λ _ _. refl; settled = λ t _. absurd (true≢false (sym t)); change = λ t _. absurd (true≢false (sym t)) }
  one_allowed w (Clear n j d p) h = record { led = h.led; past = h.past; shorter = h.shorter; low = h.low; decided = h.decided; apart = h.apart; deep = inl refl }
  one_allowed w (Decide d c q) h = record { established = h.established; own = h.own; span = c; holds = omega arith; in_log = h.in_log; quorum = record { first = h.quorum.0; rest = h.quorum.1 }; each = h.each }
  one_allowed w (RaiseVote n d) h = h
  one_allowed w (GrantVote n) h = h
  one_allowed w (Follow n d) h = h
  one_allowed w (Truncate n i) h = h
  one_allowed w (Extend n m) h = h
  one_allowed w (Install n d k) h = h
  one_allowed w (Acknowledge n y) h = h
  one_allowed w (LearnCommitted n d c) h = h
  one_allowed w (ForgetCommitted n c) h = h
  one_allowed w (Execute n i) h = h
  one_allowed w (Begin n) h = h

  pub all_allowed : (es : List (Event A)) (w : World A) → AllFixed g gs (fixed g gs owner first) es w → AllAllowed (fixed g gs owner first) es w
  all_allowed [] w h = tt
  all_allowed (e ∷ es) w h = (one_allowed w e h.0, all_allowed es (happens (fixed g gs owner first) w e) h.1)
