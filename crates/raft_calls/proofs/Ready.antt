-- Engines stay ready: between commands they are sound, and their logs have what is yet to be stored.
use Rattle.std.specs.Prelude.{ℕ, Result, Err, ◌≡◌, ◌+◌, ◌≤◌, ◌==◌, Bool, true, false, List, [], ◌∷◌, Option, None, Some, Contains, map, is_some, if◌then◌else◌, refl}
use Rattle.std.proofs.Common.{◌∙◌, sym, subst, arith, inl, inr, ⊎_elim, zero, suc}
use Rattle.std.proofs.lemmas.Bool.Decides.{nat_tests}
use Rattle.std.proofs.lemmas.Cmp.{nat_cmp_total}
use Rattle.std.specs.Ordering.{nat_cmp, is_eq}
use Rattle.raft_state.specs.declared.ids.LogId.{LogId}
use Rattle.raft_state.specs.declared.ids.Vote.{Vote}
use Rattle.raft_state.specs.declared.membership.Members.{Members}
use Rattle.raft_state.specs.declared.state.RaftState.{RaftState}
use Rattle.raft_state.specs.Fits.{fits}
use Rattle.raft_state.specs.Invariants.{IsSoundState, first_index}
use Rattle.raft_state.specs.Log.{at}
use Rattle.raft_state.specs.LogLaws.{IsRun as IsRunOf}
use Rattle.raft_state.specs.Order.{vote_cmp}
use Rattle.raft_state.specs.Same.{nat_same}
use Rattle.raft_state.specs.State.{is_found}
use Rattle.raft_state.proofs.LogLists.{Has, run_low}
use Rattle.raft_state.proofs.StateLaws.{is_found_at}
use Rattle.raft_error.specs.declared.error.EngineError.{EngineError}
use Rattle.raft_command.specs.declared.config.EngineConfig.{EngineConfig}
use Rattle.raft_command.specs.Queue.{Queue, popped}
use Rattle.std.specs.Result.{is_ok}
use Rattle.raft_state.specs.declared.policy.RejectAppendEntries.{RejectAppendEntries}
use Rattle.raft_state.specs.declared.policy.RejectAppendEntries.TheVariants.{ByVote}
use Rattle.raft_error.specs.Number.{number_of}
use Rattle.raft_command.specs.Message.{append_response}
use Rattle.raft_command.specs.declared.message.VoteRequest.{VoteRequest}
use Rattle.raft_command.specs.declared.message.VoteResponse.{VoteResponse}
use Rattle.raft_steps.specs.Refusals.{refusals_of_elect, refusals_of_initialize, refusals_of_local_progress, refusals_of_vote_resp}
use Rattle.raft_steps.specs.Conditions.{IsFollowing}
use Rattle.raft_steps.specs.FollowingHandler.{commit_entries, commit_target, consecutive_answer}
use Rattle.raft_steps.specs.RequestRefusals.{refusals_of_append, refusals_of_commit, refusals_of_follow, refusals_of_vote_req}
use Rattle.raft_steps.specs.Requests.{append_answer, append_entries, follow, handle_append_entries, handle_commit_entries, handle_vote_req, refuses_vote_req, replied, vote_req_answer}
use Rattle.raft_steps.specs.VoteHandler.{rejects_vote, update_vote}
use Rattle.raft_steps.specs.Engine.{handle_vote_resp}
use Rattle.raft_steps.specs.Invariants.{IsSound}
use Rattle.raft_steps.specs.Parts.{led_of, on_core, then_command}
use Rattle.raft_steps.proofs.Kept.{TakesIds}
use Rattle.raft_steps.proofs.KeptCommit.{local_is_sound}
use Rattle.raft_steps.proofs.KeptEngine.{elect_is_sound, empty_is_sound, handle_vote_resp_is_sound, idle_is_sound, initialize_is_sound, told_is_sound}
use Rattle.raft_steps.proofs.KeptFollow.{engine_commits_is_sound, handle_append_entries_is_sound, heard_case, not_own, taken_vote_req_is_sound}
use Rattle.raft_store.specs.declared.entry.Entry.{Entry}
use Rattle.raft_store.specs.Entries.{entry_meaning}
use Rattle.raft_store.specs.Types.{WorldCandidate, WorldCommand, WorldLeader, WorldMachine, EngineView}
use Rattle.raft_schedule.specs.declared.event.SkipReason.{SkipReason}
use Rattle.raft_schedule.specs.declared.event.SkipReason.TheVariants.{HasLeader}
use Rattle.raft_calls.specs.declared.elections.Candidates.{Candidates}
use Rattle.raft_calls.specs.declared.feed.Feed.{Feed}
use Rattle.raft_calls.specs.declared.feed.Feed.TheVariants.{Saved, Stored, Nothing}
use Rattle.raft_calls.specs.declared.message.Body.{Body}
use Rattle.raft_calls.specs.declared.message.Body.TheVariants as body
use Rattle.raft_calls.specs.Deliveries.{appended, deliver, reply_token, take_append, take_commit, take_vote_reply, take_vote_request, vote_reply, with_machine}
use Rattle.raft_calls.specs.Elections.{elected, first_entry, initialized, skip_candidate, skip_elect, skip_initialize}
use Rattle.raft_calls.specs.Feeds.{asks_itself, called, fed, feed_of, grant_own, hold_own, own_grant}
use Rattle.raft_calls.specs.Held.{AllHeld, Held, IsReady, IsResting}
use Rattle.raft_calls.specs.Starts.{new_engine, begun_anew}
use Rattle.raft_calls.specs.Engines.{with_queue}
use Rattle.raft_calls.proofs.Follows.{handle_append-stores, stores_held}
use Rattle.raft_calls.proofs.Grows.{Grown, elect-grows, grown-none, grown-silent, grown-then, grown_held, handle_vote_resp-grows, initialize-grows, local-grows, plain_commit-grows, update_vote-grows}
use Rattle.raft_calls.proofs.LeaderReady.{reply_ready}
use Rattle.raft_calls.proofs.SnapshotReady.{answered_ready, installed_ready, snapshot_reply_ready}
use Rattle.raft_calls.proofs.StartReady.{begun_one, resumed_ready}

abbrev pub engine_after : Option ℕ × EngineView → EngineView
engine_after r = r.1

-- an entry takes the id that it is given
takes : TakesIds entry_meaning
takes e id = (refl, refl)

-- an index of a run finds the id that is there
contains_has : (ids : List (LogId ℕ)) (x : LogId ℕ) → Contains ids x → Has x ids
contains_has [] x h = absurd (omega (arith, h.1))
contains_has (y ∷ ys) x (zero, l, e) = inl e
contains_has (y ∷ ys) x (suc i, l, e) = inr (contains_has ys x (i, omega (arith, l), e))

pub run_finds : (n : ℕ) (x : LogId ℕ) (ids : List (LogId ℕ)) → IsRunOf n ids → Has x ids → at ids x.index ≡ Some x
run_finds n x [] r h = absurd h
run_finds n x (y ∷ ys) r h =
    ⊎_elim
    (λ (e : y ≡ x). first e)
    (λ (k : Has x ys).
    let low : n + 1 ≤ x.index = run_low (n + 1) x ys r.1 k in
    later (other y.index x.index n r.0 low) (run_finds (n + 1) x ys r.1 k))
    h
  where
    itself : (i : ℕ) → (i == i) ≡ true
    itself i = grind (arith, nat_tests)

    other : (i j n : ℕ) → i ≡ n → n + 1 ≤ j → (i == j) ≡ false
    other i j n e l = grind (arith, nat_tests)

    first : y ≡ x → at (y ∷ ys) x.index ≡ Some x
    first e = rw (← e) (rw (itself y.index) refl)

    later : (y.index == x.index) ≡ false → at ys x.index ≡ Some x → at (y ∷ ys) x.index ≡ Some x
    later e h = rw e h

-- what a sound log has fits it
pub contained_fits : (s : RaftState ℕ (Unit {0})) (x : LogId ℕ) → IsSoundState nat_cmp s → Contains s.ids x → fits nat_cmp s.ids s.purged (Some x) ≡ true
contained_fits s x h c =
    let here : is_found nat_cmp (at s.ids x.index) x ≡ true =
    is_found_at nat_cmp nat_cmp_total nat_same s.ids x _ (run_finds (first_index s.purged) x s.ids h.log.run (contains_has s.ids x c)) in
    rw here refl

-- a call that isn't refused keeps an engine ready
called_ready : {A : Type 0} (asks : Option A) (e : EngineView) (m : WorldMachine) → IsReady e → (asks ≡ None → IsReady (with_machine e m)) → IsReady (called asks e m)
called_ready None e m h next = next refl
called_ready (Some r) e m h next = h

-- a step that keeps the engine sound, and whose commands the log has
grown_ready : (e : EngineView) (m : WorldMachine) → IsReady e → Grown e.machine.core m.core → IsSound nat_cmp e.config m → IsReady (with_machine e m)
grown_ready e m h g sound = record { sound = sound; held = grown_held e.machine.core m.core g h.held }

abbrev with_candidate : EngineView → Option WorldCandidate → EngineView
with_candidate e o = record e { machine = record e.machine { candidate = o } }

abbrev with_leader : EngineView → Option WorldLeader → EngineView
with_leader e o = record e { machine = record e.machine { leader = o } }

pub grant_own_ready : (now : ℕ) (v : Vote ℕ) (e : EngineView) → IsReady e → IsReady (grant_own now v e)
grant_own_ready now v e h =
    called_ready (refusals_of_vote_resp nat_cmp e.config e.config.id (own_grant v) e.machine) e _ h
    (λ (asks : refusals_of_vote_resp nat_cmp e.config e.config.id (own_grant v) e.machine ≡ None).
    grown_ready e _ h (handle_vote_resp-grows e.config e.config.id (own_grant v) now e.machine)
    (handle_vote_resp_is_sound nat_cmp nat_cmp_total nat_same entry_meaning takes e.config e.config.id (own_grant v) now e.machine asks h.sound))

saved_ready : (now : ℕ) (v : Vote ℕ) (e : EngineView) → IsReady e → IsReady (fed now (Saved v) e)
saved_ready now v e h = go e.machine.candidate h
  where
    pick : (c : WorldCandidate) (b : Bool) → IsReady (with_candidate e (Some c))
        → IsReady (if b then grant_own now v (with_candidate e (Some c)) else with_candidate e (Some c))
    pick c true k = grant_own_ready now v (with_candidate e (Some c)) k
    pick c false k = k

    go : (o : Option WorldCandidate) → IsReady (with_candidate e o)
        → IsReady (elim o as (λ x. EngineView) [ None ↦ with_candidate e o | Some c ↦ (if asks_itself v c (with_candidate e o) then grant_own now v (with_candidate e o) else with_candidate e o) ])
    go None k = k
    go (Some c) k = pick c _ k

pub hold_own_ready : (v : Vote ℕ) (x : Option (LogId ℕ)) (l : WorldLeader) (e : EngineView) → IsReady (with_leader e (Some l))
    → Held e.machine.core.state.ids (Stored v x) → IsReady (hold_own x l (with_leader e (Some l)))
hold_own_ready v x l e h held =
    called_ready (refusals_of_local_progress nat_cmp e.config x (led_of l e.machine.core.state e.machine.core.output)) (with_leader e (Some l)) _ h
    (λ asks.
    grown_ready (with_leader e (Some l)) _ h (local-grows e.config x (led_of l e.machine.core.state e.machine.core.output))
    (local_is_sound nat_cmp nat_cmp_total nat_same e.config x (with_leader e (Some l)).machine (fit x held) h.sound))
  where
    fit : (x : Option (LogId ℕ)) → Held e.machine.core.state.ids (Stored v x) → fits nat_cmp e.machine.core.state.ids e.machine.core.state.purged x ≡ true
    fit None k = refl
    fit (Some y) k = contained_fits e.machine.core.state y h.sound.sound k

stored_ready : (now : ℕ) (v : Vote ℕ) (x : Option (LogId ℕ)) (e : EngineView) → IsReady e → Held e.machine.core.state.ids (Stored v x) → IsReady (fed now (Stored v x) e)
stored_ready now v x e h held = go e.machine.leader h
  where
    pick : (l : WorldLeader) (b : Bool) → IsReady (with_leader e (Some l)) → IsReady (if b then hold_own x l (with_leader e (Some l)) else with_leader e (Some l))
    pick l true k = hold_own_ready v x l e k held
    pick l false k = k

    go : (o : Option WorldLeader) → IsReady (with_leader e o)
        → IsReady (elim o as (λ x. EngineView) [ None ↦ with_leader e o | Some l ↦ (if is_eq (vote_cmp nat_cmp l.vote v) then hold_own x l (with_leader e o) else with_leader e o) ])
    go None k = k
    go (Some l) k = pick l _ k

-- an engine that is told of a command that is done
pub fed_ready : (now : ℕ) (f : Feed) (e : EngineView) → IsReady e → Held e.machine.core.state.ids f → IsReady (fed now f e)
fed_ready now (Saved v) e h held = saved_ready now v e h
fed_ready now (Stored v x) e h held = stored_ready now v x e h held
fed_ready now Nothing e h held = h

-- an engine whose first command is taken out: it is ready, and its log has what this command stores
pub record Taken (e : EngineView) (c : WorldCommand) : Type 0 where
  pub ready : IsReady e
  pub held : Held e.machine.core.state.ids (feed_of c)

pub popped_ready : (e : EngineView) (c : WorldCommand) (cs : List WorldCommand) → e.machine.core.output.items ≡ c ∷ cs → IsReady e
    → Taken (with_queue e (record e.machine.core.output { items = cs })) c
popped_ready e c cs is h =
    let held : AllHeld e.machine.core.state.ids (c ∷ cs) = rw is at h.held in
    record { ready = record { sound = record { sound = h.sound.sound; lead = h.sound.lead }; held = held.1 }; held = held.0 }

-- the same along what a call that pops answers
pub pop_taken : (e : EngineView) (r : Option WorldCommand) (q : Queue WorldCommand) (c : WorldCommand) → r ≡ (popped e.machine.core.output).0 → q ≡ (popped e.machine.core.output).1 → r ≡ Some c
    → IsReady e → Taken (with_queue e q) c
pop_taken e r q c first rest some h = go e.machine.core.output.items refl (sym some ∙ first) rest
  where
    go : (cs : List WorldCommand) → e.machine.core.output.items ≡ cs → Some c ≡ (popped (record e.machine.core.output { items = cs })).0
        → q ≡ (popped (record e.machine.core.output { items = cs })).1 → Taken (with_queue e q) c
    go [] is f r = cc
    go (x ∷ xs) is f r =
        let same : x ≡ c = cc in
        rw r (subst (Taken (with_queue e (record e.machine.core.output { items = xs }))) same (popped_ready e x xs is h))

pub pop_ready : (e : EngineView) (r : Option WorldCommand) (q : Queue WorldCommand) (c : WorldCommand) → r ≡ (popped e.machine.core.output).0 → q ≡ (popped e.machine.core.output).1 → r ≡ Some c
    → IsReady e → IsReady (with_queue e q)
pop_ready e r q c first rest some h = (pop_taken e r q c first rest some h).ready

pub pop_held : (e : EngineView) (r : Option WorldCommand) (q : Queue WorldCommand) (c : WorldCommand) → r ≡ (popped e.machine.core.output).0 → q ≡ (popped e.machine.core.output).1 → r ≡ Some c
    → IsReady e → Held e.machine.core.state.ids (feed_of c)
pop_held e r q c first rest some h = (pop_taken e r q c first rest some h).held

-- an act that is no reason to skip
pub led_by_none : (e : EngineView) → skip_initialize e ≡ None → e.machine.leader ≡ None
led_by_none e h = go e.machine.leader h
  where
    go : (o : Option WorldLeader) → ◌≡◌ {A = Option SkipReason} (if is_some o then Some HasLeader else None) None → o ≡ None
    go None k = refl
    go (Some l) k = cc

pub elects_unled : (candidates : Candidates) (e : EngineView) → skip_elect candidates e ≡ None → e.machine.leader ≡ None
elects_unled candidates e h = go e.machine.leader h
  where
    go : (o : Option WorldLeader) → ◌≡◌ {A = Option SkipReason} (if is_some o then Some HasLeader else skip_candidate candidates e) None → o ≡ None
    go None k = refl
    go (Some l) k = cc

pub initialized_ready : (first : Members ℕ (Unit {0})) (now : ℕ) (e : EngineView) → e.machine.leader ≡ None → IsReady e → IsReady (initialized first now e).1
initialized_ready first now e unled h =
    answered_ready (refusals_of_initialize nat_cmp entry_meaning e.config 0 (first_entry first) e.machine) e _ h
    (λ (asks : refusals_of_initialize nat_cmp entry_meaning e.config 0 (first_entry first) e.machine ≡ None).
    grown_ready e _ h (initialize-grows e.config 0 (first_entry first) now e.machine)
    (initialize_is_sound nat_cmp nat_cmp_total nat_same entry_meaning takes e.config 0 (first_entry first) now e.machine unled asks h.sound.sound))

pub elected_ready : (now : ℕ) (e : EngineView) → e.machine.leader ≡ None → IsReady e → IsReady (elected now e).1
elected_ready now e unled h =
    answered_ready (refusals_of_elect nat_cmp e.config e.machine) e _ h
    (λ (asks : refusals_of_elect nat_cmp e.config e.machine ≡ None).
    grown_ready e _ h (elect-grows e.config now e.machine) (elect_is_sound nat_cmp nat_cmp_total nat_same entry_meaning takes e.config now e.machine unled h.sound.sound))

-- a node that doesn't lead on
pub begun_ready : (now : ℕ) (e : EngineView) → e.machine.leader ≡ None → IsReady e → IsReady (begun_anew now e).1
begun_ready now e unled h = begun_one (λ r. IsReady r.1) now e (λ _. elected_ready now e unled h) h (resumed_ready e h)

-- a vote request
pub vote_req-grows : (req : VoteRequest ℕ) (now : ℕ) (e : EngineView) → Grown e.machine.core (handle_vote_req nat_cmp entry_meaning e.config req now e.machine).core
unfolding handle_vote_req
vote_req-grows req now e = go (refuses_vote_req nat_cmp e.config e.machine.core.state req now)
  where
    go : (b : Bool) → Grown e.machine.core (if b then e.machine else update_vote nat_cmp entry_meaning e.config req.vote now e.machine).core
    go true = grown-none e.machine.core
    go false = update_vote-grows e.config req.vote now e.machine

vote_req_is_sound : (req : VoteRequest ℕ) (now : ℕ) (e : EngineView) → refusals_of_vote_req nat_cmp e.config req now e.machine ≡ None → IsSound nat_cmp e.config e.machine
    → IsSound nat_cmp e.config (handle_vote_req nat_cmp entry_meaning e.config req now e.machine)
unfolding handle_vote_req
vote_req_is_sound req now e asks h = go (refuses_vote_req nat_cmp e.config e.machine.core.state req now) refl
  where
    go : (b : Bool) → refuses_vote_req nat_cmp e.config e.machine.core.state req now ≡ b
        → IsSound nat_cmp e.config (if b then e.machine else update_vote nat_cmp entry_meaning e.config req.vote now e.machine)
    go true is = h
    go false is = taken_vote_req_is_sound nat_cmp nat_cmp_total nat_same entry_meaning takes e.config req now e.machine is asks h

vote_request_ready : (req : VoteRequest ℕ) (now : ℕ) (e : EngineView) → IsReady e → IsReady (take_vote_request req now e).1
vote_request_ready req now e h =
    let m = handle_vote_req nat_cmp entry_meaning e.config req now e.machine in
    let reply = vote_reply (vote_req_answer nat_cmp entry_meaning e.config req now e.machine) in
    answered_ready (refusals_of_vote_req nat_cmp e.config req now e.machine) e _ h
    (λ (asks : refusals_of_vote_req nat_cmp e.config req now e.machine ≡ None).
    grown_ready e _ h
    (grown-then e.machine.core m.core _ (vote_req-grows req now e) (grown-silent m.core (then_command m.core reply) (reply ∷ []) refl refl refl (tt, tt)))
    (told_is_sound nat_cmp nat_cmp_total nat_same e.config reply m (vote_req_is_sound req now e asks h.sound)))

-- a reply to the candidate
vote_reply_ready : (from : ℕ) (resp : VoteResponse ℕ) (now : ℕ) (e : EngineView) → IsReady e → IsReady (take_vote_reply from resp now e).1
vote_reply_ready from resp now e h =
    answered_ready (refusals_of_vote_resp nat_cmp e.config from resp e.machine) e _ h
    (λ (asks : refusals_of_vote_resp nat_cmp e.config from resp e.machine ≡ None).
    let after : IsReady (with_machine e (handle_vote_resp nat_cmp entry_meaning e.config from resp now e.machine)) =
    grown_ready e _ h (handle_vote_resp-grows e.config from resp now e.machine)
    (handle_vote_resp_is_sound nat_cmp nat_cmp_total nat_same entry_meaning takes e.config from resp now e.machine asks h.sound) in
    record { sound = after.sound; held = after.held })

-- a leader's committed id
follower_commits-grow : (x : Option (LogId ℕ)) (e : EngineView) → Grown e.machine.core (handle_commit_entries nat_cmp entry_meaning e.config x e.machine).core
unfolding handle_commit_entries commit_entries
follower_commits-grow x e = plain_commit-grows e.config (commit_target nat_cmp e.machine.core.state x) e.machine.core

commits_is_sound : (x : Option (LogId ℕ)) (e : EngineView) → IsFollowing nat_cmp e.machine → refusals_of_commit nat_cmp x e.machine ≡ None → IsSound nat_cmp e.config e.machine
    → IsSound nat_cmp e.config (handle_commit_entries nat_cmp entry_meaning e.config x e.machine)
unfolding handle_commit_entries
commits_is_sound x e follows asks h = engine_commits_is_sound nat_cmp nat_cmp_total nat_same e.config x e.machine follows asks h

commit_ready : (x : Option (LogId ℕ)) (e : EngineView) → IsFollowing nat_cmp e.machine → IsReady e → IsReady (take_commit x e).1
commit_ready x e follows h =
    answered_ready (refusals_of_commit nat_cmp x e.machine) e _ h
    (λ (asks : refusals_of_commit nat_cmp x e.machine ≡ None). grown_ready e _ h (follower_commits-grow x e) (commits_is_sound x e follows asks h.sound))

-- an append that isn't refused
pub appended_ready : (v : Vote ℕ) (prev : Option (LogId ℕ)) (es : List Entry) (now : ℕ) (e : EngineView)
    → refusals_of_append nat_cmp e.config v prev (map entry_meaning.id_of es) e.machine ≡ None → IsResting e → IsReady (appended v prev es now e)
appended_ready v prev es now e asks h = record {
  sound = handle_append_entries_is_sound nat_cmp nat_cmp_total nat_same entry_meaning e.config v prev es (Some reply_token) now e.machine asks h.ready.sound;
  held = stores_held e.machine.core _ h.queue (handle_append-stores e.config v prev es (Some reply_token) now e.machine asks);
}

-- after it was taken the node follows
follows_after : (v : Vote ℕ) (prev : Option (LogId ℕ)) (es : List Entry) (now : ℕ) (e : EngineView)
    → refusals_of_append nat_cmp e.config v prev (map entry_meaning.id_of es) e.machine ≡ None → rejects_vote nat_cmp e.machine.core.state v ≡ false
    → IsFollowing nat_cmp (on_core (follow nat_cmp entry_meaning e.config prev es) (update_vote nat_cmp entry_meaning e.config v now e.machine))
follows_after v prev es now e asks low =
    heard_case nat_cmp nat_cmp_total nat_same entry_meaning e.config (λ n. IsFollowing nat_cmp (on_core (follow nat_cmp entry_meaning e.config prev es) n)) v now e.machine low
    (not_own nat_cmp nat_cmp_total nat_same entry_meaning e.config v (refusals_of_follow nat_cmp e.machine.core.state v prev (map entry_meaning.id_of es)) e.machine asks)
    (λ role q. record { no_leader = refl; no_candidate = tt })

pub appended_follows : (v : Vote ℕ) (prev : Option (LogId ℕ)) (es : List Entry) (now : ℕ) (e : EngineView)
    → refusals_of_append nat_cmp e.config v prev (map entry_meaning.id_of es) e.machine ≡ None
    → is_ok (append_answer nat_cmp entry_meaning e.config v prev now e.machine) ≡ true → IsFollowing nat_cmp (appended v prev es now e).machine
unfolding handle_append_entries append_entries append_answer
appended_follows v prev es now e asks ok = go (rejects_vote nat_cmp e.machine.core.state v) refl ok
  where
    after : Bool → WorldMachine
    after b = if b then e.machine else on_core (follow nat_cmp entry_meaning e.config prev es) (update_vote nat_cmp entry_meaning e.config v now e.machine)

    answer : Bool → Result (Unit {0}) (RejectAppendEntries ℕ)
    answer b = if b then Err (ByVote e.machine.core.state.vote) else consecutive_answer nat_cmp (update_vote nat_cmp entry_meaning e.config v now e.machine).core.state prev

    go : (b : Bool) → rejects_vote nat_cmp e.machine.core.state v ≡ b → is_ok (answer b) ≡ true
        → IsFollowing nat_cmp (on_core (λ c. record c { output = replied (Some reply_token) (append_response (answer b)) c.output }) (after b))
    go true is k = cc
    go false is k = let f = follows_after v prev es now e asks is in record { no_leader = f.no_leader; no_candidate = f.no_candidate }

append_ready : (v : Vote ℕ) (prev : Option (LogId ℕ)) (es : List Entry) (committed : Option (LogId ℕ)) (now : ℕ) (e : EngineView) → IsResting e
    → IsReady (take_append v prev es committed now e).1
append_ready v prev es committed now e h = go (refusals_of_append nat_cmp e.config v prev (map entry_meaning.id_of es) e.machine) refl
  where
    pick : refusals_of_append nat_cmp e.config v prev (map entry_meaning.id_of es) e.machine ≡ None
        → (b : Bool) → is_ok (append_answer nat_cmp entry_meaning e.config v prev now e.machine) ≡ b
        → IsReady (engine_after (if b then take_commit committed (appended v prev es now e) else (None, appended v prev es now e)))
    pick asks true ok = commit_ready committed (appended v prev es now e) (appended_follows v prev es now e asks ok) (appended_ready v prev es now e asks h)
    pick asks false ok = appended_ready v prev es now e asks h

    go : (o : Option (EngineError ℕ (Unit {0}))) → refusals_of_append nat_cmp e.config v prev (map entry_meaning.id_of es) e.machine ≡ o
        → IsReady (engine_after (elim o [
          | Some r ↦ (Some (number_of r), e)
          | None ↦
              (if is_ok (append_answer nat_cmp entry_meaning e.config v prev now e.machine) then take_commit committed (appended v prev es now e)
              else (None, appended v prev es now e))
        ]))
    go (Some r) asks = h.ready
    go None asks = pick asks (is_ok (append_answer nat_cmp entry_meaning e.config v prev now e.machine)) refl

pub deliver_ready : (from : ℕ) (b : Body) (now : ℕ) (e : EngineView) → IsResting e → IsReady (deliver from b now e).1
deliver_ready from (body.VoteRequest req) now e h = vote_request_ready req now e h.ready
deliver_ready from (body.VoteReply resp) now e h = vote_reply_ready from resp now e h.ready
deliver_ready from (body.AppendRequest o prev es committed) now e h = append_ready o.session_id.vote prev es committed now e h
deliver_ready from (body.AppendReply o reply prev upto) now e h = reply_ready e h.ready h.queue from o reply prev upto now
deliver_ready from (body.SnapshotRequest o s) now e h = installed_ready e h.ready h.queue o.session_id.vote s now
deliver_ready from (body.SnapshotReply o reply upto) now e h = snapshot_reply_ready e h.ready h.queue from o reply upto now

-- a new node's engine
pub new_resting : (settings : EngineConfig ℕ) (id : ℕ) → IsResting (new_engine settings id)
new_resting settings id = record {
  ready = record {
    sound = idle_is_sound nat_cmp nat_cmp_total nat_same (record settings { id = id }) (new_engine settings id).machine.core (empty_is_sound nat_cmp (Unit {0}) 0);
    held = tt;
  };
  queue = refl;
}
