-- What calls keep, along the equations that they ensure.
use Rattle.std.specs.Prelude.{ℕ, ◌≡◌, true, List, map, Option, None, Some}
use Rattle.std.proofs.Common.{sym, ap, subst, refl, Box, Global}
use Rattle.std.specs.Ordering.{nat_cmp}
use Rattle.std.specs.Result.{is_ok}
use Rattle.raft_state.specs.declared.ids.LogId.{LogId}
use Rattle.raft_state.specs.declared.ids.Vote.{Vote}
use Rattle.raft_state.specs.declared.state.RaftState.{RaftState}
use Rattle.raft_command.specs.declared.config.EngineConfig.{EngineConfig}
use Rattle.raft_steps.specs.Conditions.{IsFollowing}
use Rattle.raft_steps.specs.Invariants.{IsSound}
use Rattle.raft_steps.specs.Parts.{idle, unboxed}
use Rattle.raft_steps.specs.RequestRefusals.{refusals_of_append}
use Rattle.raft_steps.specs.Requests.{append_answer, handle_append_entries}
use Rattle.raft_store.specs.declared.entry.Entry.{Entry}
use Rattle.raft_store.specs.Entries.{entry_meaning}
use Rattle.raft_store.specs.Types.{EngineView, WorldMachine}
use Rattle.raft_calls.specs.Engines.{WorldEngine, view_of}
use Rattle.raft_calls.specs.Deliveries.{appended, reply_token}
use Rattle.raft_calls.specs.Held.{AllHeld, IsReady, IsResting}
use Rattle.raft_calls.specs.Starts.{new_engine}
use Rattle.raft_calls.proofs.Ready.{appended_follows, appended_ready}

-- an engine after an append that was taken: it follows, and is ready
pub append_follows : (v : Vote ℕ) (prev : Option (LogId ℕ)) (es : List Entry) (now : ℕ) (e new : EngineView)
    → refusals_of_append nat_cmp e.config v prev (map entry_meaning.id_of es) e.machine ≡ None
    → is_ok (append_answer nat_cmp entry_meaning e.config v prev now e.machine) ≡ true
    → new.machine ≡ handle_append_entries nat_cmp entry_meaning e.config v prev es (Some reply_token) now e.machine → IsFollowing nat_cmp new.machine
append_follows v prev es now e new asks ok is = subst (IsFollowing nat_cmp) (sym is) (appended_follows v prev es now e asks ok)

pub append_readied : (v : Vote ℕ) (prev : Option (LogId ℕ)) (es : List Entry) (now : ℕ) (e new : EngineView)
    → refusals_of_append nat_cmp e.config v prev (map entry_meaning.id_of es) e.machine ≡ None → new.config ≡ e.config
    → new.machine ≡ handle_append_entries nat_cmp entry_meaning e.config v prev es (Some reply_token) now e.machine → IsResting e → IsReady new
append_readied v prev es now e new asks config is h =
    let a : IsReady (appended v prev es now e) = appended_ready v prev es now e asks h in
    record {
      sound = subst (λ c. IsSound nat_cmp c new.machine) (sym config) (subst (IsSound nat_cmp e.config) (sym is) a.sound);
      held = subst (λ (m : WorldMachine). AllHeld m.core.state.ids m.core.output.items) (sym is) a.held;
    }

-- an engine that was just made is at rest, and leads nothing
pub made_rests : (settings : EngineConfig ℕ) (id : ℕ) (s : RaftState ℕ (Unit {0})) (e : WorldEngine) → view_of e ≡ record (new_engine settings id) { machine = idle s }
    → IsSound nat_cmp e.config (view_of e).machine → IsResting (view_of e)
made_rests settings id s e made h = record {
  ready = record { sound = h; held = subst (λ (x : EngineView). AllHeld x.machine.core.state.ids x.machine.core.output.items) (sym made) tt };
  queue = ap (λ (x : EngineView). x.machine.core.output.items) made;
}

pub made_unled : (settings : EngineConfig ℕ) (id : ℕ) (s : RaftState ℕ (Unit {0})) (e : WorldEngine) → view_of e ≡ record (new_engine settings id) { machine = idle s } → e.leader ≡ None
made_unled settings id s e made = none e.leader (ap (λ (x : EngineView). x.machine.leader) made)
  where
    none : {A : Type 0} (o : Option (Box A Global)) → unboxed o ≡ None → o ≡ None
    none None h = refl
    none (Some l) h = cc
