-- An append's commands store entries that the log then has, though it was cut before.
use Rattle.std.specs.Prelude.{ℕ, ◌-◌, ◌==◌, Bool, true, false, not, ◌≡◌, ◌++◌, ◌&&◌, List, [], ◌∷◌, Option, Some, None, Contains, map, drop, fold, length, slice_get, refl, if◌then◌else◌}
use Rattle.std.specs.Ordering.{nat_cmp, is_eq, is_gt}
use Rattle.std.specs.List.{slice_index_or}
use Rattle.std.specs.Option.{option_map, option_or}
use Rattle.std.proofs.Common.{◌∙◌, sym, ap, arith, append_assoc, subst, zero, suc}
use Rattle.std.proofs.lemmas.Cmp.{nat_cmp_total}
use Rattle.std.proofs.lemmas.List.{append-nil}
use Rattle.std.proofs.lemmas.List.Elements.{Contains-append_right, Contains-get_or}
use Rattle.std.proofs.lemmas.Option.{get_or_from_slice_get, slice_get_within}
use Rattle.raft_state.specs.declared.ids.LogId.{LogId}
use Rattle.raft_state.specs.declared.ids.Vote.{Vote}
use Rattle.raft_state.specs.declared.membership.StoredMembership.{StoredMembership}
use Rattle.raft_state.specs.declared.state.RaftState.{RaftState}
use Rattle.raft_state.specs.Log.{at, last}
use Rattle.raft_state.specs.Members.{contains}
use Rattle.raft_state.specs.Order.{vote_cmp}
use Rattle.raft_state.specs.Same.{nat_same}
use Rattle.raft_state.specs.State.{accept, append_membership, extend, has_log_id, truncate, undoes_membership}
use Rattle.raft_command.specs.Message.{append_response}
use Rattle.raft_command.specs.Push.{with_command}
use Rattle.raft_command.specs.declared.command.Command.TheVariants.{AppendInputEntries, DeleteConflictLog, Respond, SaveVote}
use Rattle.raft_command.specs.declared.config.EngineConfig.{EngineConfig}
use Rattle.raft_command.specs.declared.message.AppendEntriesResponse.{AppendEntriesResponse}
use Rattle.raft_command.specs.declared.message.Token.{Token}
use Rattle.raft_command.specs.declared.respond.Respond.TheVariants as respond
use Rattle.raft_steps.specs.FollowingHandler.{do_append_entries, ensure_log_consecutive, holds_previous, memberships_in, new_entries, truncate_for, truncate_logs, with_entries}
use Rattle.raft_steps.specs.FollowingHandler as following
use Rattle.raft_steps.specs.Laws.{later}
use Rattle.raft_steps.specs.Parts.{on_core, then_command, with_state}
use Rattle.raft_steps.specs.RequestRefusals.{refusals_of_append, refusals_of_follow}
use Rattle.raft_steps.specs.Requests.{append_answer, append_entries, follow, handle_append_entries, replied}
use Rattle.raft_steps.specs.ServerStateHandler.{role_commands, update_role}
use Rattle.raft_steps.specs.VoteHandler.{become_following, become_leader, rejects_vote, take_vote, update_internal_server_state, update_vote}
use Rattle.raft_steps.proofs.KeptFollow.{not_own}
use Rattle.raft_steps.proofs.Leads.{no_order, vote_same}
use Rattle.raft_store.specs.declared.entry.Entry.{Entry}
use Rattle.raft_store.specs.Entries.{entry_meaning}
use Rattle.raft_store.specs.Types.{WorldCommand, WorldMachine}
use Rattle.raft_calls.specs.declared.feed.Feed.TheVariants.{Stored}
use Rattle.raft_calls.specs.Feeds.{last_sent}
use Rattle.raft_calls.specs.Held.{AllHeld, Held}
use Rattle.raft_calls.proofs.Falls.{WorldCore}
use Rattle.raft_calls.proofs.Grows.{Silent, all_held-append, role_silent, silent_all}
use Rattle.raft_calls.proofs.Stored.{ids_in}

-- the queue goes on by commands that any log has
pub record Quiet (old new : WorldCore) : Type 0 where
  pub more : List WorldCommand
  pub items : new.output.items ≡ old.output.items ++ more
  pub held : (ids : List (LogId ℕ)) → AllHeld ids more

-- and by commands that the log after it has
pub record Stores (old new : WorldCore) : Type 0 where
  pub more : List WorldCommand
  pub items : new.output.items ≡ old.output.items ++ more
  pub held : AllHeld new.state.ids more

pub quiet-none : (c : WorldCore) → Quiet c c
quiet-none c = record { more = []; items = sym (append-nil c.output.items); held = λ ids. tt }

pub quiet-silent : (old new : WorldCore) (cs : List WorldCommand) → new.output.items ≡ old.output.items ++ cs → Silent cs → Quiet old new
quiet-silent old new cs items silent = record { more = cs; items = items; held = λ ids. (silent_all ids cs silent).0 }

pub quiet-then : (a b c : WorldCore) → Quiet a b → Quiet b c → Quiet a c
quiet-then a b c g h = record {
  more = g.more ++ h.more;
  items = h.items ∙ (ap (λ items. items ++ h.more) g.items ∙ append_assoc a.output.items g.more h.more);
  held = λ ids. all_held-append ids g.more h.more (g.held ids) (h.held ids);
}

pub quiet-stores : (old new : WorldCore) → Quiet old new → Stores old new
quiet-stores old new q = record { more = q.more; items = q.items; held = q.held new.state.ids }

stores-then : (a b c : WorldCore) → Quiet a b → Stores b c → Stores a c
stores-then a b c g h = record {
  more = g.more ++ h.more;
  items = h.items ∙ (ap (λ items. items ++ h.more) g.items ∙ append_assoc a.output.items g.more h.more);
  held = all_held-append c.state.ids g.more h.more (g.held c.state.ids) h.held;
}

-- and then one command that stores nothing
stores-told : (a b c : WorldCore) → Stores a b → Quiet b c → c.state.ids ≡ b.state.ids → Stores a c
stores-told a b c g h ids = record {
  more = g.more ++ h.more;
  items = h.items ∙ (ap (λ items. items ++ h.more) g.items ∙ append_assoc a.output.items g.more h.more);
  held = all_held-append c.state.ids g.more h.more (subst (λ xs. AllHeld xs g.more) (sym ids) g.held) (h.held c.state.ids);
}

-- from an empty queue on, all that is queued is held
pub stores_held : (old new : WorldCore) → old.output.items ≡ [] → Stores old new → AllHeld new.state.ids new.output.items
stores_held old new none s =
    let is : new.output.items ≡ s.more = s.items ∙ ap (λ xs. xs ++ s.more) none in
    subst (λ xs. AllHeld new.state.ids xs) (sym is) s.held

-- the last of some entries is among their ids
id_in : (es : List Entry) (x : Entry) → Contains es x → Contains (ids_in es) x.log_id
id_in [] x h = absurd (omega (arith, h.1))
id_in (e ∷ es) x (zero, l, q) = (0, omega arith, ap (λ (y : Entry). y.log_id) q)
id_in (e ∷ es) x (suc i, l, q) =
    let r = id_in es x (i, omega (arith, l), q) in
    (suc r.0, omega (arith, r.1), r.2)

at_in : (es : List Entry) (i : ℕ) (x : Entry) → slice_get es i ≡ Some x → Contains (ids_in es) x.log_id
at_in es i x h =
    let is : slice_index_or es i x ≡ x = get_or_from_slice_get es i x x h in
    id_in es x (subst (Contains es) is (Contains-get_or es i x (slice_get_within es i x h)))

pub last_held : (v : Vote ℕ) (ids : List (LogId ℕ)) (es : List Entry) → Held (ids ++ ids_in es) (Stored v (last_sent None es))
last_held v ids es = go (slice_get es (length es - 1)) refl
  where
    go : (o : Option Entry) → slice_get es (length es - 1) ≡ o → Held (ids ++ ids_in es) (Stored v (option_or (option_map (λ e. e.log_id) o) None))
    go None h = tt
    go (Some x) h = Contains-append_right ids (ids_in es) x.log_id (at_in es (length es - 1) x h)

joined-ids : (ms : List (StoredMembership ℕ (Unit {0}))) (s : RaftState ℕ (Unit {0})) → (fold append_membership s ms).ids ≡ s.ids
joined-ids [] s = refl
joined-ids (m ∷ ms) s = joined-ids ms (append_membership s m)

module _ (config : EngineConfig ℕ) where
  pub role-quiet : (c : WorldCore) → Quiet c (update_role nat_cmp config c)
  unfolding update_role
  role-quiet c = quiet-silent c (update_role nat_cmp config c) (role_commands c.state.role _) refl (role_silent c.state.role _)

  pub truncate-quiet : (i : ℕ) (c : WorldCore) → Quiet c (truncate_logs nat_cmp config i c)
  unfolding truncate_logs
  truncate-quiet i c = go (at c.state.ids i)
    where
      cut : LogId ℕ → WorldCore
      cut first = record { state = truncate c.state i; output = with_command c.output (DeleteConflictLog first) }

      cut-quiet : (first : LogId ℕ) → Quiet c (cut first)
      cut-quiet first = record { more = DeleteConflictLog first ∷ []; items = refl; held = λ ids. (tt, tt) }

      pick : (first : LogId ℕ) (b : Bool) → Quiet c (if b then cut first else update_role nat_cmp config (cut first))
      pick first true = cut-quiet first
      pick first false = quiet-then c (cut first) _ (cut-quiet first) (role-quiet (cut first))

      go : (o : Option (LogId ℕ)) → Quiet c
          (elim o as (λ _. WorldCore) [ None ↦ c | Some first ↦ (if not (undoes_membership c.state i) then cut first else update_role nat_cmp config (cut first)) ])
      go None = quiet-none c
      go (Some first) = pick first _

  truncate_for-quiet : (es : List Entry) (c : WorldCore) → Quiet c (truncate_for nat_cmp entry_meaning config es c)
  truncate_for-quiet [] c = quiet-none c
  truncate_for-quiet (e ∷ es) c = truncate-quiet e.log_id.index c

  consecutive-quiet : (prev : Option (LogId ℕ)) (c : WorldCore) → Quiet c (ensure_log_consecutive nat_cmp config prev c)
  unfolding ensure_log_consecutive
  consecutive-quiet None c = quiet-none c
  consecutive-quiet (Some x) c = go (has_log_id nat_cmp c.state x)
    where
      go : (b : Bool) → Quiet c (if b then c else truncate_logs nat_cmp config x.index c)
      go true = quiet-none c
      go false = truncate-quiet x.index c

  -- entries behind the last one
  abbrev joined : List Entry → WorldCore → WorldCore
  joined es c = with_state c (with_entries entry_meaning c.state es)

  joined_ids-is : (es : List Entry) (c : WorldCore) → (joined es c).state.ids ≡ c.state.ids ++ ids_in es
  joined_ids-is es c = joined-ids (drop (length (memberships_in entry_meaning es) - 2) (memberships_in entry_meaning es)) (extend c.state (map entry_meaning.id_of es))

  appended-stores : (v : Vote ℕ) (es : List Entry) (c d : WorldCore) → Quiet c d → d.state.ids ≡ c.state.ids ++ ids_in es → Stores c (then_command d (AppendInputEntries v es))
  appended-stores v es c d q ids =
      let one : List WorldCommand = AppendInputEntries v es ∷ [] in
      record {
        more = q.more ++ one;
        items = ap (λ xs. xs ++ one) q.items ∙ append_assoc c.output.items q.more one;
        held = all_held-append d.state.ids q.more one (q.held d.state.ids) (subst (λ xs. Held xs (Stored v (last_sent None es))) (sym ids) (last_held v c.state.ids es), tt);
      }

  do_append-stores : (es : List Entry) (c : WorldCore) → Stores c (do_append_entries nat_cmp entry_meaning config es c)
  unfolding do_append_entries update_role
  do_append-stores es c = go (length es == 0) (length (memberships_in entry_meaning es) == 0)
    where
      settled : Bool → WorldCore
      settled b = if b then joined es c else update_role nat_cmp config (joined es c)

      go : (a b : Bool) → Stores c (if a then c else then_command (settled b) (AppendInputEntries c.state.vote es))
      go true b = quiet-stores c c (quiet-none c)
      go false true = appended-stores c.state.vote es c (joined es c) (quiet-silent c (joined es c) [] (sym (append-nil c.output.items)) tt) (joined_ids-is es c)
      go false false =
          appended-stores c.state.vote es c (update_role nat_cmp config (joined es c))
          (quiet-silent c (update_role nat_cmp config (joined es c)) (role_commands (joined es c).state.role _) refl (role_silent (joined es c).state.role _)) (joined_ids-is es c)

  append-stores : (prev : Option (LogId ℕ)) (es : List Entry) (c : WorldCore) → Stores c (following.append_entries nat_cmp entry_meaning config prev es c)
  unfolding following.append_entries
  append-stores prev es c =
      let noted : WorldCore = with_state c (accept nat_cmp c.state (later nat_cmp prev (last (map entry_meaning.id_of es)))) in
      let new = new_entries nat_cmp entry_meaning c.state es in
      let cut = truncate_for nat_cmp entry_meaning config new noted in
      stores-then c cut _
      (quiet-then c noted cut (quiet-silent c noted [] (sym (append-nil c.output.items)) tt) (truncate_for-quiet new noted))
      (do_append-stores new cut)

  follow-stores : (prev : Option (LogId ℕ)) (es : List Entry) (c : WorldCore) → Stores c (follow nat_cmp entry_meaning config prev es c)
  unfolding follow
  follow-stores prev es c = go (holds_previous nat_cmp c.state prev)
    where
      go : (b : Bool) → Stores c (if b then following.append_entries nat_cmp entry_meaning config prev es c else ensure_log_consecutive nat_cmp config prev c)
      go true = append-stores prev es c
      go false = quiet-stores c _ (consecutive-quiet prev c)

  following-quiet : (m : WorldMachine) → Quiet m.core (become_following nat_cmp config m).core
  unfolding become_following
  following-quiet m = role-quiet m.core

  -- a node whose vote names another one follows
  internal-quiet : (m : WorldMachine) → is_eq (nat_cmp m.core.state.vote.leader_id.node_id config.id) ≡ false
      → Quiet m.core (update_internal_server_state nat_cmp entry_meaning config m).core
  unfolding update_internal_server_state
  internal-quiet m other = go (is_eq (nat_cmp m.core.state.vote.leader_id.node_id config.id)) other
    where
      go : (b : Bool) → b ≡ false → Quiet m.core
          (if (b && contains nat_cmp m.core.state.em.membership config.id) && m.core.state.vote.committed then become_leader nat_cmp entry_meaning config m
          else if b && contains nat_cmp m.core.state.em.membership config.id then m
          else become_following nat_cmp config m).core
      go true e = cc
      go false e = following-quiet m

  pub heard-quiet : (v : Vote ℕ) (now : ℕ) (m : WorldMachine) → rejects_vote nat_cmp m.core.state v ≡ false → is_eq (nat_cmp v.leader_id.node_id config.id) ≡ false
      → Quiet m.core (update_vote nat_cmp entry_meaning config v now m).core
  unfolding update_vote
  heard-quiet v now m low other = by (rejects_vote nat_cmp m.core.state v) low
    where
      go : (b : Bool) → is_gt (vote_cmp nat_cmp v m.core.state.vote) ≡ b → Quiet m.core
          (update_internal_server_state nat_cmp entry_meaning config
          (on_core (λ c. if b then then_command (with_state c (record c.state { vote = v; time = Some now })) (SaveVote v) else with_state c (record c.state { time = Some now })) m)).core
      go true e =
          let taken : WorldMachine = on_core (λ c. then_command (with_state c (record c.state { vote = v; time = Some now })) (SaveVote v)) m in
          quiet-then m.core taken.core _ (quiet-silent m.core taken.core (SaveVote v ∷ []) refl (tt, tt)) (internal-quiet taken other)
      go false e =
          let own : v ≡ m.core.state.vote = vote_same nat_cmp nat_same v m.core.state.vote (no_order _ low e) in
          let heard : WorldMachine = on_core (λ c. with_state c (record c.state { time = Some now })) m in
          quiet-then m.core heard.core _ (quiet-silent m.core heard.core [] (sym (append-nil m.core.output.items)) tt)
          (internal-quiet heard (subst (λ (w : Vote ℕ). is_eq (nat_cmp w.leader_id.node_id config.id) ≡ false) own other))

      by : (b : Bool) → b ≡ false → Quiet m.core
          (if b then m else update_internal_server_state nat_cmp entry_meaning config (on_core (take_vote nat_cmp config v now) m)).core
      by true e = cc
      by false e = go (is_gt (vote_cmp nat_cmp v m.core.state.vote)) refl

  -- an append of a leader that isn't refused
  append_entries-stores : (v : Vote ℕ) (prev : Option (LogId ℕ)) (es : List Entry) (now : ℕ) (m : WorldMachine)
      → refusals_of_append nat_cmp config v prev (map entry_meaning.id_of es) m ≡ None → Stores m.core (append_entries nat_cmp entry_meaning config v prev es now m).core
  unfolding append_entries
  append_entries-stores v prev es now m asks = go (rejects_vote nat_cmp m.core.state v) refl
    where
      go : (b : Bool) → rejects_vote nat_cmp m.core.state v ≡ b → Stores m.core
          (if b then m else on_core (follow nat_cmp entry_meaning config prev es) (update_vote nat_cmp entry_meaning config v now m)).core
      go true e = quiet-stores m.core m.core (quiet-none m.core)
      go false e =
          stores-then m.core (update_vote nat_cmp entry_meaning config v now m).core _
          (heard-quiet v now m e (not_own nat_cmp nat_cmp_total nat_same entry_meaning config v (refusals_of_follow nat_cmp m.core.state v prev (map entry_meaning.id_of es)) m asks))
          (follow-stores prev es (update_vote nat_cmp entry_meaning config v now m).core)

  replied-quiet : (token : Option Token) (response : AppendEntriesResponse ℕ) (c : WorldCore) → Quiet c (record c { output = replied token response c.output })
  replied-quiet None response c = quiet-none c
  replied-quiet (Some t) response c = record { more = Respond None (respond.AppendEntries (record { value = response; token = t })) ∷ []; items = refl; held = λ ids. (tt, tt) }

  replied-ids : (token : Option Token) (response : AppendEntriesResponse ℕ) (c : WorldCore) → (record c { output = replied token response c.output }).state.ids ≡ c.state.ids
  replied-ids token response c = refl

  pub handle_append-stores : (v : Vote ℕ) (prev : Option (LogId ℕ)) (es : List Entry) (token : Option Token) (now : ℕ) (m : WorldMachine)
      → refusals_of_append nat_cmp config v prev (map entry_meaning.id_of es) m ≡ None → Stores m.core (handle_append_entries nat_cmp entry_meaning config v prev es token now m).core
  unfolding handle_append_entries
  handle_append-stores v prev es token now m asks =
      let c = (append_entries nat_cmp entry_meaning config v prev es now m).core in
      let response = append_response (append_answer nat_cmp entry_meaning config v prev now m) in
      stores-told m.core c _ (append_entries-stores v prev es now m asks) (replied-quiet token response c) (replied-ids token response c)
