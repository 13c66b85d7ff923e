-- An engine's calls for its purges and its snapshots.
use Rattle.std.proofs.Common.{ℕ, suc, ◌-◌, ◌<◌, ◌≤◌, ◌≡◌, ◌⊎◌, List, [], ◌∷◌, ◌++◌, length, drop, arith, refl, sym, ap, ◌∙◌, subst, Option, None, Some}
use Rattle.std.specs.Prelude.{IfSome, if◌then◌else◌}
use Rattle.std.specs.Ordering.{is_gt, nat_cmp}
use Rattle.std.proofs.lemmas.Bool.{cond_both}
use Rattle.std.proofs.lemmas.Cmp.{nat_cmp_total}
use Rattle.raft_node.specs.raft_state.declared.ids.LogId.{LogId}
use Rattle.raft_node.specs.raft_state.Invariants.{IsSoundState}
use Rattle.raft_node.specs.raft_state.Order.{last_id_cmp}
use Rattle.raft_node.specs.raft_state.Same.{nat_same}
use Rattle.raft_node.specs.raft_state.State.{accepted, purge}
use Rattle.raft_node.specs.raft_command.Push.{with_command}
use Rattle.raft_node.specs.raft_command.declared.command.Command.TheVariants as command
use Rattle.raft_node.specs.raft_steps.LogHandler.{purge_log}
use Rattle.raft_node.specs.raft_steps.Parts.{on_core}
use Rattle.proof_agreement.specs.Machine.{Setup}
use Rattle.proof_agreement.specs.Stores.{Append, entry_at}
use Rattle.proof_agreement.specs.Deeds.{Purge, MayAccept, does}
use Rattle.proof_agreement.proofs.WholeLogs.{whole_purge}
use Rattle.raft_node.specs.raft_store.declared.entry.Entry.{Entry}
use Rattle.raft_node.specs.raft_store.Entries.{entry_meaning}
use Rattle.raft_node.specs.raft_store.Types.{WorldStore, WorldCommand, WorldMachine}
use Rattle.proof_mirror.specs.Ready.{Shaped, Fits, Ready, MayPurge, Pending}
use Rattle.proof_mirror.proofs.Purges.{purge_is}
use Rattle.proof_mirror.proofs.Purging.{pending_purge}
use Rattle.proof_mirror.proofs.Queued.{fits_of}
use Rattle.raft_node.specs.declared.node.Turn.{Turn}
use Rattle.proof_deeds.specs.Chains.{Reached, left_by, Carried, Done}
use Rattle.proof_deeds.specs.Images.{Ideal, IdealStore, number}
use Rattle.proof_deeds.specs.Knows.{KnowsLed, Knows, CarriedIn}
use Rattle.proof_deeds.proofs.Keeps.{Keeps, known_in}
use Rattle.proof_deeds.proofs.Overlap.{laps}
use Rattle.proof_deeds.proofs.Pushes.{push}
use Rattle.proof_deeds.proofs.Roles.{WorldCore, WorldState}
use Rattle.proof_deeds.proofs.SnapshotPushes.{snap_length, may_purge, done_purge}
use Rattle.proof_deeds.proofs.Tails.{tail_reaches}
use Rattle.proof_deeds.proofs.Worlds.{at_put, does_then, done_does, if_some}

-- the last of ready commands
pub ready_last : (u : WorldStore) (cs : List WorldCommand) (c : WorldCommand) → Ready nat_cmp entry_meaning (λ es. es) u (cs ++ c ∷ []) → Shaped entry_meaning (left_by u cs) × Fits nat_cmp entry_meaning (λ es. es) (left_by u cs) c
ready_last u [] c r = (r.0, fits_of nat_cmp entry_meaning (λ es. es) u [] c r.1)
ready_last u (b ∷ cs) c r = ready_last (left_by u (b ∷ [])) cs c r.2

module _ (s : Setup Entry) (n : ℕ) where
  -- what is known reads of the state its vote, and what was accepted under it
  pub knows_state : (m : WorldMachine) (c : WorldCore) (V : Ideal) → c.state.vote ≡ m.core.state.vote → accepted nat_cmp c.state ≡ accepted nat_cmp m.core.state → Knows s n m V → Knows s n (record m { core = c }) V
  knows_state m c V e a k = record {
    state = subst (λ o. IfSome o (λ x. ((r : Append Entry) × MayAccept s V n r x.index (number x.leader_id)) ⊎ (x.index < (V.store n).committed))) (sym a) k.state;
    leader = if_some (λ l. KnowsLed s n m.core.state l V) (λ l. KnowsLed s n c.state l V) (λ l q. record { vote = q.vote ∙ sym e; session = q.session; rows = q.rows; above = q.above }) m.leader k.leader;
    candidate = k.candidate;
    alone = k.alone;
  }

  -- a purge leaves vote, accepted ids and all that is held
  pub purge_alike : (st : WorldState) (x : LogId ℕ) → ((purge nat_cmp st x).vote ≡ st.vote) × (accepted nat_cmp (purge nat_cmp st x) ≡ accepted nat_cmp st)
  purge_alike st x = (ap (λ (z : WorldState). z.vote) (sym (purge_is nat_cmp st x)), ap (accepted nat_cmp) (sym (purge_is nat_cmp st x)))

  pub keeps_purge : (W : Ideal) (k : ℕ) → (W.store n).front ≤ length (W.store n).snapshot → (W.store n).front ≤ k → k ≤ length (W.store n).snapshot → Keeps s (W.store n) ((does s W (Purge n k)).store n)
  keeps_purge W k low past cov =
      let S : IdealStore = record (W.store n) { front = k; entries = drop (k - (W.store n).front) (W.store n).entries } in
      subst (Keeps s (W.store n)) (sym (at_put W n S))
      (record {
        vote = refl;
        vote_committed = refl;
        committed = omega arith;
        holds = λ i x p. subst (λ ys. (i < (W.store n).committed) ⊎ ((i < length ys) × ((entry_at s ys i).leader ≡ x))) (sym (whole_purge (W.store n) low k past cov)) p;
      })

module _ (s : Setup Entry) (t : Turn) (u : WorldStore) (W : Ideal) (reached : Reached s W) where
  -- a purge up to the target
  pub carried_purge : (m : WorldMachine) → Pending nat_cmp entry_meaning (λ es. es) u m.core → IsSoundState nat_cmp m.core.state → CarriedIn s t u W m → CarriedIn s t u W (on_core (purge_log nat_cmp) m)
  unfolding purge_log
  carried_purge m p sound h = go m.core.state.purge_to refl (pending_purge nat_cmp nat_cmp_total nat_same entry_meaning (λ es. es) u m.core p sound) where
    c : WorldCore
    c = m.core

    T : WorldStore
    T = left_by u m.core.output.items

    may : (x : LogId ℕ) → Pending nat_cmp entry_meaning (λ es. es) u (let z : WorldCore = record { state = purge nat_cmp m.core.state x; output = with_command m.core.output (command.PurgeLog x) } in z)
        → CarriedIn s t u W (record m { core = record { state = purge nat_cmp m.core.state x; output = with_command m.core.output (command.PurgeLog x) } })
    may x q =
        let z : Shaped entry_meaning (left_by u m.core.output.items) × MayPurge entry_meaning (left_by u m.core.output.items) x = ready_last u m.core.output.items (command.PurgeLog x) q.ready in
        let a : ((purge nat_cmp m.core.state x).vote ≡ m.core.state.vote) × (accepted nat_cmp (purge nat_cmp m.core.state x) ≡ accepted nat_cmp m.core.state) = purge_alike s t.id m.core.state x in
        let n : WorldMachine = record m { core = record { state = purge nat_cmp m.core.state x; output = with_command m.core.output (command.PurgeLog x) } } in
        subst (λ v. Carried s t v u W (m.core.output.items ++ command.PurgeLog x ∷ []) (Knows s t.id n)) (ap (λ v. v.leader_id) (sym a.0))
        (push s t m.core.state.vote.leader_id u W m.core.output.items (command.PurgeLog x) (Knows s t.id m) (Knows s t.id n) h
        (λ V y k.
        let S : IdealStore = record (V.store t.id) { front = suc x.index; entries = drop (suc x.index - (V.store t.id).front) (V.store t.id).entries } in
        let b : ((V.store t.id).front ≤ suc x.index) × (suc x.index ≤ length (V.store t.id).snapshot) = may_purge s (left_by u m.core.output.items) x (V.store t.id) y.store z.0 z.1 in
        let l : length (V.store t.id).snapshot ≡ length (left_by u m.core.output.items).snap = snap_length s (left_by u m.core.output.items) (V.store t.id) y.store z.0 in
        let low : (V.store t.id).front ≤ length (V.store t.id).snapshot = omega (arith, y.store.front, l, z.0.front) in
        let X : Ideal = does s V (Purge t.id (suc x.index)) in
        let d : Done s t m.core.state.vote.leader_id (left_by u m.core.output.items) (command.PurgeLog x) V (does s V (Purge t.id (suc x.index))) =
        done_purge s t m.core.state.vote.leader_id (left_by u m.core.output.items) x V y.store z.0 z.1 (laps s V (does_then s _ W V reached y.came) t.id) (λ _. tail_reaches s (left_by u m.core.output.items) (V.store t.id) m.core.state y.store p.in_step) in (
          X,
          d,
          knows_state s t.id m n.core X a.0 a.1
              (known_in s t.id V X (done_does s t m.core.state.vote.leader_id (left_by u m.core.output.items) (command.PurgeLog x) V X d) m (keeps_purge s t.id V (suc x.index) low b.0 b.1) (ap (λ (Z : IdealStore). Z.session) (at_put V t.id S)) k),
        )))

    go : (o : Option (LogId ℕ)) → m.core.state.purge_to ≡ o
        → Pending nat_cmp entry_meaning (λ es. es) u (elim o as (λ _. WorldCore) [
          | None ↦ m.core
          | Some upto ↦
              (if is_gt (last_id_cmp nat_cmp (Some upto) m.core.state.purged)
              then record { state = purge nat_cmp m.core.state upto; output = with_command m.core.output (command.PurgeLog upto) }
              else m.core)
        ])
        → CarriedIn s t u W (record m {
          core = elim o as (λ _. WorldCore) [
            | None ↦ m.core
            | Some upto ↦
                (if is_gt (last_id_cmp nat_cmp (Some upto) m.core.state.purged)
                then record { state = purge nat_cmp m.core.state upto; output = with_command m.core.output (command.PurgeLog upto) }
                else m.core)
          ];
        })
    go None e q = h
    go (Some x) e q =
        cond_both (is_gt (last_id_cmp nat_cmp (Some x) m.core.state.purged)) (let z : WorldCore = record { state = purge nat_cmp m.core.state x; output = with_command m.core.output (command.PurgeLog x) } in z) m.core
        (λ (z : WorldCore). Pending nat_cmp entry_meaning (λ es. es) u z → CarriedIn s t u W (record m { core = z }))
        (λ _ p. may x p) (λ _ _. h) q
