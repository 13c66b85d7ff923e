-- What is fed back after entries are stored, step by step.
use Rattle.std.specs.Prelude.{ℕ, ◌≡◌, true, false, Option, None, Some, refl}
use Rattle.std.proofs.Common.{◌∙◌}
use Rattle.std.specs.Ordering.{nat_cmp}
use Rattle.raft_state.specs.declared.ids.LogId.{LogId}
use Rattle.raft_state.specs.declared.ids.Vote.{Vote}
use Rattle.raft_state.specs.Fits.{fits}
use Rattle.raft_error.specs.declared.error.EngineError.{EngineError}
use Rattle.raft_steps.specs.Refusals.{refusals_of_local_progress}
use Rattle.raft_steps.specs.Parts.{leading, led_of}
use Rattle.raft_steps.specs.ReplicationHandler.{update_local_progress}
use Rattle.raft_store.specs.Types.{EngineView, WorldLeader}
use Rattle.raft_calls.specs.declared.feed.Feed.TheVariants.{Stored}
use Rattle.raft_calls.specs.Feeds.{called, fed, held_where_led, leads_by}
use Rattle.raft_calls.specs.Held.{Held, IsReady}
use Rattle.raft_calls.proofs.Ready.{contained_fits}

abbrev with_leader : EngineView → Option WorldLeader → EngineView
with_leader e o = record e { machine = record e.machine { leader = o } }

-- the id that it is told fits its log
pub held_fits : (e : EngineView) (v : Vote ℕ) (x : Option (LogId ℕ)) → IsReady e → Held e.machine.core.state.ids (Stored v x)
    → fits nat_cmp e.machine.core.state.ids e.machine.core.state.purged x ≡ true
held_fits e v None h held = refl
held_fits e v (Some y) h held = contained_fits e.machine.core.state y h.sound.sound held

-- a leader that is told, refused or not
told_is : (asks : Option (EngineError ℕ (Unit {0}))) (x : Option (LogId ℕ)) (l : WorldLeader) (e : EngineView) →
    record (with_leader e (Some l)) {
      machine = leading e.machine (elim asks [
        | None ↦ update_local_progress nat_cmp e.config x (led_of l e.machine.core.state e.machine.core.output)
        | Some r ↦ led_of l e.machine.core.state e.machine.core.output
      ]);
    }
    ≡ called asks (with_leader e (Some l)) (leading e.machine (update_local_progress nat_cmp e.config x (led_of l e.machine.core.state e.machine.core.output)))
told_is None x l e = refl
told_is (Some r) x l e = refl

-- told of entries under the vote that it leads by
pub fed_held : (now : ℕ) (v : Vote ℕ) (x : Option (LogId ℕ)) (e new : EngineView) → leads_by v e ≡ true → new ≡ held_where_led x e → new ≡ fed now (Stored v x) e
fed_held now v x e new leads is = is ∙ go e.machine.leader leads
  where
    go : (o : Option WorldLeader) → leads_by v (with_leader e o) ≡ true → held_where_led x (with_leader e o) ≡ fed now (Stored v x) (with_leader e o)
    go None h = cc
    go (Some l) h = rw h (told_is (refusals_of_local_progress nat_cmp e.config x (led_of l e.machine.core.state e.machine.core.output)) x l e)

-- and of others
pub fed_other : (now : ℕ) (v : Vote ℕ) (x : Option (LogId ℕ)) (e : EngineView) → leads_by v e ≡ false → e ≡ fed now (Stored v x) e
fed_other now v x e other = go e.machine.leader other
  where
    go : (o : Option WorldLeader) → leads_by v (with_leader e o) ≡ false → with_leader e o ≡ fed now (Stored v x) (with_leader e o)
    go None h = refl
    go (Some l) h = rw h refl
