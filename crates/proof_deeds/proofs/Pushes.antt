-- Commands put behind a queue that is carried.
use Rattle.std.proofs.Common.{ℕ, ◌≡◌, List, [], ◌∷◌, ◌++◌, refl, sym, ap, ◌∙◌, subst, append-nil, append_assoc, None}
use Rattle.std.specs.List.{AllByRecursion}
use Rattle.raft_node.specs.raft_state.declared.ids.LeaderId.{LeaderId}
use Rattle.raft_node.specs.raft_command.declared.command.Command.TheVariants as command
use Rattle.proof_agreement.specs.Machine.{Setup}
use Rattle.raft_node.specs.raft_store.declared.entry.Entry.{Entry}
use Rattle.raft_node.specs.raft_store.Types.{WorldStore, WorldCommand, EngineView}
use Rattle.raft_node.specs.declared.node.Turn.{Turn}
use Rattle.raft_node.specs.Execute.{Effects, exec}
use Rattle.raft_node.specs.Runs.{whole_logs}
use Rattle.proof_deeds.specs.Chains.{Does, LeaderFor, Unread, stored, left_by, Done, Chain, Carried}
use Rattle.proof_deeds.specs.Follows.{StoreIs, RestIs}
use Rattle.proof_deeds.specs.Images.{Ideal}
use Rattle.proof_deeds.proofs.Worlds.{Within, does_self, does_then, within_of}

pub left_more : (u : WorldStore) (cs ds : List WorldCommand) → left_by u (cs ++ ds) ≡ left_by (left_by u cs) ds
left_more u [] ds = refl
left_more u (c ∷ cs) ds = left_more (stored c u) cs ds

module _ (s : Setup Entry) (t : Turn) (v : LeaderId ℕ) where
  -- a chain is a run of deeds
  pub chain_does : (u : WorldStore) (cs : List WorldCommand) (W V : Ideal) → Chain s t v u cs W V → Does s W V
  chain_does u [] W V h = subst (Does s W) h (does_self s W)
  chain_does u (c ∷ cs) W V h = does_then s W h.0 V (record { deeds = h.1.deeds; allowed = h.1.allowed; claimed = h.1.claimed; result = h.1.result }) (chain_does (stored c u) cs h.0 V h.2)

  pub chain_within : (u : WorldStore) (cs : List WorldCommand) (W V : Ideal) → Chain s t v u cs W V → Within W V
  chain_within u cs W V h = within_of s W V (chain_does u cs W V h)

  -- one more command, from the world that the chain leaves
  pub chain_more : (u : WorldStore) (cs : List WorldCommand) (c : WorldCommand) (W V X : Ideal) → Chain s t v u cs W V → Done s t v (left_by u cs) c V X → Chain s t v u (cs ++ c ∷ []) W X
  chain_more u [] c W V X h x = (X, subst (λ Z. Done s t v u c Z X) (sym h) x, refl)
  chain_more u (b ∷ cs) c W V X h x = (h.0, h.1, chain_more (stored b u) cs c h.0 V X h.2 x)

  -- what is known of the world that a queue leaves
  pub record Tail (u : WorldStore) (W : Ideal) (cs : List WorldCommand) (V : Ideal) : Type 0 where
    pub came : Does s W V
    pub within : Within W V
    pub store : StoreIs s (left_by u cs) (V.store t.id)

  pub tail_of : (u : WorldStore) (W : Ideal) (cs : List WorldCommand) (K : Ideal → Type 0) (h : Carried s t v u W cs K) → Tail u W cs h.end
  tail_of u W cs K h = record { came = chain_does u cs W h.end h.chain; within = chain_within u cs W h.end h.chain; store = h.store }

  -- a command is put behind a queue, where it is done from the world that the queue leaves, and what is then known
  -- follows
  pub push : (u : WorldStore) (W : Ideal) (cs : List WorldCommand) (c : WorldCommand) (K L : Ideal → Type 0) → Carried s t v u W cs K
      → ((V : Ideal) → Tail u W cs V → K V → (X : Ideal) × Done s t v (left_by u cs) c V X × L X)
      → Carried s t v u W (cs ++ c ∷ []) L
  push u W cs c K L h f =
      let y : (X : Ideal) × Done s t v (left_by u cs) c h.end X × L X = f h.end (tail_of u W cs K h) h.knows in
      record {
        end = y.0;
        chain = chain_more u cs c W h.end y.0 h.chain y.1;
        store = subst (λ w. StoreIs s w (y.0.store t.id)) (sym (left_more u cs (c ∷ []))) y.1.store;
        knows = y.2;
      }

  -- something else is known of the world that the queue leaves
  pub carry : (u : WorldStore) (W : Ideal) (cs : List WorldCommand) (K L : Ideal → Type 0) → Carried s t v u W cs K → ((V : Ideal) → Tail u W cs V → K V → L V) → Carried s t v u W cs L
  carry u W cs K L h f = record { end = h.end; chain = h.chain; store = h.store; knows = f h.end (tail_of u W cs K h) h.knows }

  -- commands that are each done, and leave the store and what is known
  pub push_each : (T u : WorldStore) (W : Ideal) (cs ds : List WorldCommand) (P : WorldCommand → Type 0) (K : Ideal → Type 0) → left_by u cs ≡ T → Carried s t v u W cs K → AllByRecursion P ds
      → ((c : WorldCommand) (V : Ideal) → P c → Does s W V → StoreIs s T (V.store t.id) → K V → (stored c T ≡ T) × ((X : Ideal) × Done s t v T c V X × K X))
      → Carried s t v u W (cs ++ ds) K
  push_each T u W cs [] P K e h a f = subst (λ ds. Carried s t v u W ds K) (sym (append-nil cs)) h
  push_each T u W cs (d ∷ ds) P K e h a f =
      let z : (stored d T ≡ T) × ((X : Ideal) × Done s t v T d h.end X × K X) = f d h.end a.0 (tail_of u W cs K h).came (subst (λ w. StoreIs s w (h.end.store t.id)) e h.store) h.knows in
      let b : Carried s t v u W (cs ++ d ∷ []) K = push u W cs d K K h (λ V k l. let y : (stored d T ≡ T) × ((X : Ideal) × Done s t v T d V X × K X) = f d V a.0 k.came (subst (λ w. StoreIs s w (V.store t.id)) e k.store) l in subst (λ w. (X : Ideal) × Done s t v w d V X × K X) (sym e) y.1) in
      subst (λ bs. Carried s t v u W bs K) (append_assoc cs (d ∷ []) ds)
      (push_each T u W (cs ++ d ∷ []) ds P K (left_more u cs (d ∷ []) ∙ (ap (stored d) e ∙ z.0)) b a.1 f)

  pub push_idle : (u : WorldStore) (W : Ideal) (cs ds : List WorldCommand) (P : WorldCommand → Type 0) (K : Ideal → Type 0) → Carried s t v u W cs K → AllByRecursion P ds
      → ((c : WorldCommand) (V : Ideal) → P c → Does s W V → StoreIs s (left_by u cs) (V.store t.id) → K V → (stored c (left_by u cs) ≡ left_by u cs) × ((X : Ideal) × Done s t v (left_by u cs) c V X × K X))
      → Carried s t v u W (cs ++ ds) K
  push_idle u W cs ds P K h a f = push_each (left_by u cs) u W cs ds P K refl h a f

  -- the first command is executed: what its effects are then follows, and the rest of the queue is carried on
  pub record Popped (u : WorldStore) (W : Ideal) (c : WorldCommand) (cs : List WorldCommand) (K : Ideal → Type 0) : Type 0 where
    pub next : Ideal
    pub done : Done s t v u c W next
    pub carried : Carried s t v (stored c u) next cs K

  pub pop : (u : WorldStore) (W : Ideal) (c : WorldCommand) (cs : List WorldCommand) (K : Ideal → Type 0) → Carried s t v u W (c ∷ cs) K → Popped u W c cs K
  pop u W c cs K h = record { next = h.chain.0; done = h.chain.1; carried = record { end = h.end; chain = h.chain.2; store = h.store; knows = h.knows } }

-- Commands that read nothing of the engine's votes

-- an engine with this leader id, and no leader
abbrev as_if : LeaderId ℕ → EngineView → EngineView
as_if v e = record e { machine = record e.machine { leader = None; core = record e.machine.core { state = record e.machine.core.state { vote = record e.machine.core.state.vote { leader_id = v } } } } }

exec_unread : (t : Turn) (v : LeaderId ℕ) (c : WorldCommand) → Unread c → (e : EngineView) (w : Effects (List Entry)) → exec whole_logs t (as_if v e) c w ≡ exec whole_logs t e c w
exec_unread t v (command.SaveVote _) r e w = refl
exec_unread t v (command.AppendInputEntries _ es) r e w = refl
exec_unread t v (command.DeleteConflictLog since) r e w = refl
exec_unread t v (command.PurgeLog upto) r e w = refl
exec_unread t v (command.Commit seq already upto) r e w = refl
exec_unread t v (command.StateMachine c) r e w = refl
exec_unread t v (command.SendVote req) r e w = refl
exec_unread t v (command.RebuildReplicationStreams targets) r e w = absurd r
exec_unread t v (command.Replicate target req) r e w = refl
exec_unread t v (command.ReplicateCommitted committed) r e w = refl
exec_unread t v (command.Respond when reply) r e w = refl
exec_unread t v command.BecomeLeader r e w = absurd r
exec_unread t v command.QuitLeader r e w = refl

-- such a command needs no leader
unread_leaderless : (e : EngineView) (c : WorldCommand) → Unread c → LeaderFor c e
unread_leaderless e (command.SaveVote _) r = tt
unread_leaderless e (command.AppendInputEntries _ es) r = tt
unread_leaderless e (command.DeleteConflictLog since) r = tt
unread_leaderless e (command.PurgeLog upto) r = tt
unread_leaderless e (command.Commit seq already upto) r = tt
unread_leaderless e (command.StateMachine c) r = tt
unread_leaderless e (command.SendVote req) r = tt
unread_leaderless e (command.RebuildReplicationStreams targets) r = absurd r
unread_leaderless e (command.Replicate target req) r = tt
unread_leaderless e (command.ReplicateCommitted committed) r = tt
unread_leaderless e (command.Respond when reply) r = tt
unread_leaderless e command.BecomeLeader r = tt
unread_leaderless e command.QuitLeader r = tt

module _ (s : Setup Entry) (t : Turn) (v v2 : LeaderId ℕ) where
  done_renamed : (u : WorldStore) (c : WorldCommand) (W V : Ideal) → Unread c → Done s t v u c W V → Done s t v2 u c W V
  done_renamed u c W V r x = record {
    deeds = x.deeds;
    by = x.by;
    allowed = x.allowed;
    claimed = x.claimed;
    answered = x.answered;
    commits = x.commits;
    result = x.result;
    store = x.store;
    rest = λ w e q k _ _. subst (λ z. RestIs s t.id z V) (exec_unread t v c r e w) (x.rest w (as_if v e) q k (record { vote = refl; leader = tt }) (unread_leaderless (as_if v e) c r));
  }

  chain_renamed : (u : WorldStore) (cs : List WorldCommand) (W V : Ideal) → AllByRecursion Unread cs → Chain s t v u cs W V → Chain s t v2 u cs W V
  chain_renamed u [] W V r h = h
  chain_renamed u (c ∷ cs) W V r h = (h.0, done_renamed u c W h.0 r.0 h.1, chain_renamed (stored c u) cs h.0 V r.1 h.2)

  -- a queue that reads nothing of the votes is carried under any leader id
  pub carried_renamed : (u : WorldStore) (W : Ideal) (cs : List WorldCommand) (K : Ideal → Type 0) → AllByRecursion Unread cs → Carried s t v u W cs K → Carried s t v2 u W cs K
  carried_renamed u W cs K r h = record { end = h.end; chain = chain_renamed u cs W h.end r h.chain; store = h.store; knows = h.knows }
