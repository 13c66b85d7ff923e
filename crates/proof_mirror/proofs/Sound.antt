-- What the invariants of an engine give.
use Rattle.std.proofs.Common.{◌+◌, ◌<◌, ◌≤◌, ◌≡◌, ⊎_elim, true, false, arith, refl, ap, subst, Option, Some, None, List, [], ◌∷◌, sym}
use Rattle.std.specs.Prelude.{IfSome, ◌==◌, ◌&&◌, not, ◌||◌}
use Rattle.std.specs.List.{AllByRecursion}
use Rattle.std.specs.declared.cmp.Ordering.{Ordering}
use Rattle.std.specs.declared.cmp.Ordering.TheVariants.{Equal}
use Rattle.std.specs.Ordering.{is_gt, is_le, is_lt}
use Rattle.std.specs.Cmp.{IsTotalOrder}
use Rattle.std.proofs.lemmas.Bool.{cases_lt, both_ways, and_cases, and_parts, eqb-true, not-false}
use Rattle.raft_state.specs.declared.ids.LogId.{LogId}
use Rattle.raft_state.specs.declared.state.RaftState.{RaftState}
use Rattle.raft_state.specs.Consecutive.{follows_on}
use Rattle.raft_state.specs.LogLaws.{IsRun}
use Rattle.raft_state.specs.Fits.{fits, is_within, is_below}
use Rattle.raft_state.specs.Invariants.{IsSoundState}
use Rattle.raft_state.specs.Log.{at}
use Rattle.raft_state.specs.Order.{next, last_id_cmp}
use Rattle.raft_state.proofs.Orders.{lt_of_gt, lt_not_ge, last_total, within_of}
use Rattle.raft_state.proofs.LogLists.{fits_has}
use Rattle.raft_state.proofs.StateLaws.{purged_within, within_none}
use Rattle.raft_progress_entry.specs.declared.entry.ProgressEntry.{ProgressEntry}
use Rattle.raft_command.specs.declared.config.EngineConfig.{EngineConfig}
use Rattle.raft_steps.specs.Invariants.{EntryFits, LeaderFits, CandidateFits, IsSound, IsSoundLed}
use Rattle.raft_steps.specs.Parts.{Led, Machine}
use Rattle.raft_proposer.specs.Joint.{JointLeader, JointCandidate}
use Rattle.raft_state.specs.State.{commits, is_found}
use Rattle.raft_steps.specs.RequestRefusals.{is_missing}
use Rattle.raft_steps.proofs.EntryLaws.{fits_le, newly_held}
use Rattle.proof_mirror.specs.Ready.{SearchFits, KnowsLog, CommitFits, AsksAtEnd}

module _ {NID N : Type 0} (cmp : NID → NID → Ordering) (total : IsTotalOrder cmp) (same : (a b : NID) → cmp a b ≡ Equal → a ≡ b) (s : RaftState NID N) (h : IsSoundState cmp s) where
  -- the committed id stands in the log
  committed_at : (y : LogId NID) → s.committed ≡ Some y → at s.ids y.index ≡ Some y
  committed_at y e = fits_has cmp total same s.ids s.purged y (subst (λ o. fits cmp s.ids s.purged o ≡ true) e h.marks.committed_fits) (subst (λ o. is_within cmp s.purged o ≡ true) e (purged_within cmp total same _ _ _ _ _ _ _ h))

  -- an id that fits the log, and is above the committed one, is past it
  pub commit_fits : (x : LogId NID) → fits cmp s.ids s.purged (Some x) ≡ true → CommitFits cmp s x
  commit_fits x f g = (newly_held cmp total same _ _ _ _ _ _ _ h x f g, past s.committed refl) where
    past : (o : Option (LogId NID)) → s.committed ≡ o → next s.committed ≤ x.index
    past None e = let q : next s.committed ≡ 0 = ap next e in omega (arith, q)
    past (Some y) e = ⊎_elim (λ l. absurd (both_ways (is_le (last_id_cmp cmp (Some x) (Some y))) not_le (below l))) (λ l. let q : next s.committed ≡ y.index + 1 = ap next e in omega (arith, q, l)) (cases_lt x.index (y.index + 1)) where
      not_le : is_le (last_id_cmp cmp (Some x) (Some y)) ≡ false
      not_le = lt_not_ge (last_total cmp total) (Some y) (Some x) (lt_of_gt (last_total cmp total) (Some x) (Some y) (subst (λ o. is_gt (last_id_cmp cmp (Some x) o) ≡ true) e g))

      below : x.index < y.index + 1 → is_le (last_id_cmp cmp (Some x) (Some y)) ≡ true
      below l = fits_le cmp total same _ _ _ _ _ _ _ h x y f (committed_at y e) (omega (arith, l))

  -- an id that fits the log, and isn't past the committed index, is within the committed one
  pub fits_within : (o : Option (LogId NID)) → fits cmp s.ids s.purged o ≡ true → next o ≤ next s.committed → is_within cmp o s.committed ≡ true
  fits_within None f l = within_none cmp total same s.committed
  fits_within (Some x) f l = go s.committed refl where
    go : (o : Option (LogId NID)) → s.committed ≡ o → is_within cmp (Some x) o ≡ true
    go None e = let q : next s.committed ≡ 0 = ap next e in absurd (omega (arith, l, q))
    go (Some y) e =
        let q : next s.committed ≡ y.index + 1 = ap next e in
        within_of cmp total (Some x) (Some y) (fits_le cmp total same _ _ _ _ _ _ _ h x y f (committed_at y e) (omega (arith, l, q))) (omega (arith, l, q))

  -- what is to be committed fits, where it isn't missing
  pub held_commit : (o : Option (LogId NID)) → is_missing cmp s o ≡ false → IfSome o (CommitFits cmp s)
  held_commit None q = tt
  held_commit (Some x) q = λ g.
      let found : is_found cmp (at s.ids x.index) x ≡ true =
      ⊎_elim (λ n. absurd (both_ways (commits cmp s (Some x)) n g)) (λ n. not-false (is_found cmp (at s.ids x.index) x) n) (and_cases (commits cmp s (Some x)) (not (is_found cmp (at s.ids x.index) x)) q) in
      commit_fits x (subst (λ b. (b || is_below cmp (Some x) s.purged) ≡ true) (sym found) refl) g

  pub all_fit : (o : Option (LogId NID)) → fits cmp s.ids s.purged o ≡ true → IfSome o (CommitFits cmp s)
  all_fit None f = tt
  all_fit (Some x) f = commit_fits x f

module _ {NID : Type 0} (cmp : NID → NID → Ordering) where
  -- what a leader knows is within the log
  rows_know : (ids : List (LogId NID)) (purged : Option (LogId NID)) (rows : List (NID × ProgressEntry NID)) → AllByRecursion (λ row. EntryFits cmp ids purged row.1) rows → AllByRecursion (λ row. SearchFits ids row.1) rows
  rows_know ids purged [] a = tt
  rows_know ids purged (row ∷ rows) a = (record { above = a.0.above; below = a.0.below }, rows_know ids purged rows a.1)

module _ {C NID N E D R S : Type 0} (cmp : NID → NID → Ordering) (config : EngineConfig NID) where
  pub led_knows : (l : Led C NID N E D R S) → IsSoundLed cmp config l → KnowsLog l.core.state.ids l.leader
  led_knows l h = record { end = ap next h.leader_fits.last_id; rows = rows_know cmp l.core.state.ids l.core.state.purged l.leader.progress.rows h.leader_fits.entries }

  pub machine_knows : (m : Machine C NID N E D R S) → IsSound cmp config m → IfSome m.leader (KnowsLog m.core.state.ids)
  machine_knows m h = go m.leader h.lead.leader_fits where
    go : (o : Option (JointLeader C NID N E D R S)) → IfSome o (LeaderFits cmp config.id m.core.state.ids m.core.state.purged m.core.state.em.membership) → IfSome o (KnowsLog m.core.state.ids)
    go None k = tt
    go (Some l) k = record { end = ap next k.last_id; rows = rows_know cmp m.core.state.ids m.core.state.purged l.progress.rows k.entries }

  -- a candidate asks at the log's end
  pub machine_asks : (m : Machine C NID N E D R S) → IsSound cmp config m → IfSome m.candidate (AsksAtEnd cmp m.core.state)
  machine_asks m h = go m.candidate h.lead.candidate_fits where
    go : (o : Option (JointCandidate NID)) → IfSome o (CandidateFits cmp config.id m.core.state.vote m.core.state.ids m.core.state.em.membership) → IfSome o (AsksAtEnd cmp m.core.state)
    go None k = tt
    go (Some c) k = λ e. ap next (k.current e).last_id

module _ {NID : Type 0} (cmp : NID → NID → Ordering) where
  -- the entries of an append that isn't refused follow on
  pub follow_run : (prev : Option (LogId NID)) (ids : List (LogId NID)) → follows_on cmp prev ids ≡ true → IsRun (next prev) ids
  follow_run prev [] h = tt
  follow_run prev (x ∷ xs) h =
      let p = and_parts (x.index == next prev && is_lt (last_id_cmp cmp prev (Some x))) (follows_on cmp (Some x) xs) h in
      let i : x.index ≡ next prev = eqb-true x.index (next prev) (and_parts (x.index == next prev) (is_lt (last_id_cmp cmp prev (Some x))) p.0).0 in
      (i, subst (λ n. IsRun n xs) (let e : x.index + 1 ≡ next prev + 1 = omega (arith, i) in e) (follow_run (Some x) xs p.1))
