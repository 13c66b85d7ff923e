-- A reply that tells no vote above its request's comes of a request whose vote wasn't rejected.
use Rattle.std.proofs.Common.{ℕ, ◌≡◌, Bool, true, false, List, [], ◌∷◌, map, refl, sym, subst, ◌∙◌, Option, None, Some}
use Rattle.std.specs.Prelude.{if◌then◌else◌, is_ok}
use Rattle.std.specs.List.{AllByRecursion}
use Rattle.std.proofs.lemmas.Bool.{true≢false}
use Rattle.std.specs.Option.{option_to_list}
use Rattle.std.specs.Ordering.{is_lt, nat_cmp}
use Rattle.proof_deeds.specs.raft_state.Order.{vote_cmp}
use Rattle.proof_deeds.specs.raft_steps.Installs.{handle_install_full_snapshot, reply_install}
use Rattle.proof_deeds.specs.raft_steps.Parts.{on_core}
use Rattle.proof_deeds.specs.raft_state.declared.ids.LogId.{LogId}
use Rattle.proof_deeds.specs.raft_state.declared.ids.Vote.{Vote}
use Rattle.proof_deeds.proofs.raft_state_proofs.LogLists.{each_append}
use Rattle.proof_deeds.specs.raft_error.declared.error.EngineError.{EngineError}
use Rattle.proof_deeds.specs.raft_command.declared.command.Command.TheVariants as command
use Rattle.proof_deeds.specs.raft_command.declared.respond.Respond.TheVariants as respond
use Rattle.proof_deeds.specs.raft_steps.RequestRefusals.{refusals_of_append}
use Rattle.proof_deeds.specs.raft_steps.InstallRefusals.{refusals_of_install}
use Rattle.proof_deeds.specs.raft_error.Number.{number_of}
use Rattle.proof_deeds.specs.raft_command.Message.{append_response}
use Rattle.proof_deeds.specs.raft_steps.Requests.{append_answer, append_entries, handle_append_entries}
use Rattle.proof_deeds.specs.raft_steps.VoteHandler.{rejects_vote}
use Rattle.proof_deeds.specs.raft_store.declared.entry.Entry.{Entry}
use Rattle.proof_deeds.specs.raft_store.Entries.{entry_meaning}
use Rattle.proof_deeds.specs.raft_store.Types.{EngineView, WorldCommand, WorldSnapshot}
use Rattle.proof_deeds.specs.raft_calls.declared.message.Body.{Body}
use Rattle.proof_deeds.specs.raft_calls.declared.message.Body.TheVariants as body
use Rattle.proof_deeds.specs.raft_calls.declared.message.Message.{Message}
use Rattle.proof_deeds.specs.raft_calls.declared.message.Origin.{Origin}
use Rattle.proof_deeds.specs.raft_node.declared.node.Turn.{Turn}
use Rattle.proof_deeds.specs.raft_calls.Deliveries.{answered, appended, reply_token, take_append, take_commit, take_snapshot, with_machine}
use Rattle.proof_deeds.specs.raft_calls.Engines.{WorldRespond}
use Rattle.proof_deeds.specs.raft_node.Execute.{replies, reply_to}
use Rattle.proof_deeds.specs.raft_calls.Feeds.{feed}
use Rattle.proof_clients.specs.Reads.{IsRequestOf, TellsNoVote}
use Rattle.proof_clients.proofs.Replies.{Replies, Tells}

-- the turn's request
abbrev pub Requested : Turn → ℕ → Origin → Type 0
Requested t n o = (n ≡ t.id) × ((q : Message) × (t.request ≡ Some q) × IsRequestOf q.body o)

pub each_any : (cs : List WorldCommand) → AllByRecursion (λ (c : WorldCommand). Unit {0}) cs
each_any [] = tt
each_any (c ∷ cs) = (tt, each_any cs)

module _ (old : List Message) (t : Turn) where
  replies_requested : (r : WorldRespond) → AllByRecursion (Tells (Requested t)) (replies t r)
  replies_requested r = go t.request refl
    where
      each : (q : Message) → t.request ≡ Some q → (b : Body) → q.body ≡ b → (r : WorldRespond) → AllByRecursion (Tells (Requested t)) (map (λ (b : Body). let m : Message = record { from = t.id; to = q.from; body = b } in m) (option_to_list (reply_to b r)))
      each q e (body.VoteRequest x) k (respond.Vote r) = (λ o h. absurd h, tt)
      each q e (body.AppendRequest o prev es c) k (respond.AppendEntries r) = (λ p h. (refl, (q, e, subst (λ (b : Body). IsRequestOf b p) (sym k) h.0)), tt)
      each q e (body.SnapshotRequest o s) k (respond.InstallFullSnapshot r) = (λ p h. (refl, (q, e, subst (λ (b : Body). IsRequestOf b p) (sym k) h.0)), tt)
      each q e _ k _ = tt

      go : (o : Option Message) → t.request ≡ o → AllByRecursion (Tells (Requested t)) (elim o as (λ _. List Message) [ None ↦ [] | Some m ↦ map (λ b. record { from = t.id; to = m.from; body = b }) (option_to_list (reply_to m.body r)) ])
      go None e = tt
      go (Some m) e = each m e m.body refl r

  pub requested_only : (c : WorldCommand) → Unit {0} → Replies (Requested t) old t c
  requested_only (command.Respond when reply) g = replies_requested reply
  requested_only _ g = tt

-- a refusal of a vote, which tells a higher one
abbrev pub IsRefusal : Vote ℕ → WorldCommand → Type 0
IsRefusal v (command.Respond when (respond.AppendEntries r)) = TellsNoVote r.value → ⊥
IsRefusal v (command.Respond when (respond.InstallFullSnapshot r)) = is_lt (vote_cmp nat_cmp v r.value.vote) ≡ true
IsRefusal v _ = ⊥

abbrev pub Never : ℕ → Origin → Type 0
Never n o = ⊥

-- the turn's request, if it is a leader's, has this vote
abbrev pub HasVote : Turn → Vote ℕ → Type 0
HasVote t v = (q : Message) (o : Origin) → t.request ≡ Some q → IsRequestOf q.body o → o.session_id.vote ≡ v

module _ (old : List Message) (t : Turn) (v : Vote ℕ) (fits : HasVote t v) where
  pub refusals_only : (c : WorldCommand) → IsRefusal v c → Replies Never old t c
  refusals_only (command.Respond when (respond.AppendEntries r)) g = go t.request
    where
      each : (q : Message) (b : Body) → AllByRecursion (Tells Never) (map (λ (b : Body). let m : Message = record { from = t.id; to = q.from; body = b } in m) (option_to_list (reply_to b (respond.AppendEntries r))))
      each q (body.AppendRequest o prev es c) = (λ p h. g h.1, tt)
      each q _ = tt

      go : (o : Option Message) → AllByRecursion (Tells Never) (elim o as (λ _. List Message) [ None ↦ [] | Some m ↦ map (λ b. record { from = t.id; to = m.from; body = b }) (option_to_list (reply_to m.body (respond.AppendEntries r))) ])
      go None = tt
      go (Some m) = each m m.body
  refusals_only (command.Respond when (respond.InstallFullSnapshot r)) g = go t.request refl
    where
      each : (q : Message) → t.request ≡ Some q → (b : Body) → q.body ≡ b → AllByRecursion (Tells Never) (map (λ (b : Body). let m : Message = record { from = t.id; to = q.from; body = b } in m) (option_to_list (reply_to b (respond.InstallFullSnapshot r))))
      each q e (body.SnapshotRequest o s) k =
          let own : o.session_id.vote ≡ v = fits q o e (subst (λ (b : Body). IsRequestOf b o) (sym k) refl) in
          (λ p h. true≢false (sym g ∙ subst (λ w. is_lt (vote_cmp nat_cmp w r.value.vote) ≡ false) own h.1), tt)
      each q e _ k = tt

      go : (o : Option Message) → t.request ≡ o → AllByRecursion (Tells Never) (elim o as (λ _. List Message) [ None ↦ [] | Some m ↦ map (λ b. record { from = t.id; to = m.from; body = b }) (option_to_list (reply_to m.body (respond.InstallFullSnapshot r))) ])
      go None e = tt
      go (Some m) e = each m e m.body refl
  refusals_only _ g = absurd g

  pub refusals_feed : (c : WorldCommand) (e : EngineView) → IsRefusal v c → AllByRecursion (IsRefusal v) e.machine.core.output.items → AllByRecursion (IsRefusal v) (feed t.moment c e).machine.core.output.items
  refusals_feed (command.Respond when r) e g k = k
  refusals_feed _ e g k = absurd g

-- an engine that rejects a vote queues a refusal only
module _ (v : Vote ℕ) (prev : Option (LogId ℕ)) (es : List Entry) (committed : Option (LogId ℕ)) (now : ℕ) (e : EngineView) (rejects : rejects_vote nat_cmp e.machine.core.state v ≡ true) (empty : e.machine.core.output.items ≡ []) where
  answers_so : is_ok (append_answer nat_cmp entry_meaning e.config v prev now e.machine) ≡ false
  unfolding append_answer
  answers_so = rw rejects refl

  refuses : TellsNoVote (append_response (append_answer nat_cmp entry_meaning e.config v prev now e.machine)) → ⊥
  unfolding append_answer
  refuses = rw rejects (λ x. x)

  unchanged : append_entries nat_cmp entry_meaning e.config v prev es now e.machine ≡ e.machine
  unfolding append_entries
  unchanged = rw rejects refl

  queued : AllByRecursion (IsRefusal v) (appended v prev es now e).machine.core.output.items
  unfolding handle_append_entries
  queued = rw unchanged (each_append (IsRefusal v) e.machine.core.output.items _ (subst (AllByRecursion (IsRefusal v)) (sym empty) tt) (refuses, tt))

  abbrev queue_of : Option ℕ × EngineView → List WorldCommand
  queue_of r = r.1.machine.core.output.items

  pub refused_queue : AllByRecursion (IsRefusal v) (take_append v prev es committed now e).1.machine.core.output.items
  refused_queue = go (refusals_of_append nat_cmp e.config v prev (map (λ (x : Entry). x.log_id) es) e.machine)
    where
      go : (o : Option (EngineError ℕ (Unit {0}))) → AllByRecursion (IsRefusal v) (queue_of (elim o as (λ _. Option ℕ × EngineView) [
        | Some r ↦ (Some (number_of r), e)
        | None ↦ (if is_ok (append_answer nat_cmp entry_meaning e.config v prev now e.machine) then take_commit committed (appended v prev es now e) else (None, appended v prev es now e))
      ]))
      go (Some r) = subst (AllByRecursion (IsRefusal v)) (sym empty) tt
      go None = pick (is_ok (append_answer nat_cmp entry_meaning e.config v prev now e.machine)) answers_so
        where
          pick : (b : Bool) → b ≡ false → AllByRecursion (IsRefusal v) (queue_of (if b then take_commit committed (appended v prev es now e) else (None, appended v prev es now e)))
          pick true q = cc
          pick false q = queued

module _ (v : Vote ℕ) (snapshot : WorldSnapshot) (now : ℕ) (e : EngineView) (rejects : rejects_vote nat_cmp e.machine.core.state v ≡ true) (empty : e.machine.core.output.items ≡ []) where
  only_replied : handle_install_full_snapshot nat_cmp entry_meaning e.config v snapshot reply_token now e.machine ≡ on_core (reply_install None reply_token) e.machine
  unfolding handle_install_full_snapshot
  only_replied = rw rejects refl

  replied : AllByRecursion (IsRefusal v) (with_machine e (handle_install_full_snapshot nat_cmp entry_meaning e.config v snapshot reply_token now e.machine)).machine.core.output.items
  replied = rw only_replied (each_append (IsRefusal v) e.machine.core.output.items _ (subst (AllByRecursion (IsRefusal v)) (sym empty) tt) (rejects, tt))

  pub refused_install : AllByRecursion (IsRefusal v) (take_snapshot v snapshot now e).1.machine.core.output.items
  refused_install = go (refusals_of_install nat_cmp e.config v snapshot.meta e.machine)
    where
      go : (o : Option (EngineError ℕ (Unit {0})))
          → AllByRecursion (IsRefusal v) (answered o e (with_machine e (handle_install_full_snapshot nat_cmp entry_meaning e.config v snapshot reply_token now e.machine))).1.machine.core.output.items
      go (Some r) = subst (AllByRecursion (IsRefusal v)) (sym empty) tt
      go None = replied
