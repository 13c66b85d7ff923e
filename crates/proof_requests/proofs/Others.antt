-- Another server is as it was; and one that starts has read nothing.
use Rattle.std.proofs.Common.{ℕ, zero, suc, ◌≡◌, ◌≢◌, false, List, [], ◌∷◌, ◌++◌, refl, sym, ap, ◌∙◌, subst, None, Some, arith}
use Rattle.std.specs.Prelude.{max, nat_eq, slice_get, if◌then◌else◌}
use Rattle.std.specs.List.{AllByRecursion}
use Rattle.std.proofs.lemmas.Bool.{ne_eqb}
use Rattle.raft_schedule.specs.declared.event.Start.{Start}
use Rattle.raft_schedule.specs.declared.event.Start.TheVariants.{Bare}
use Rattle.raft_node.specs.declared.act.Act.TheVariants.{Restart}
use Rattle.raft_node.specs.declared.given.Given.{Given}
use Rattle.raft_node.specs.Net.{NodeView, new_node}
use Rattle.proof_servers.specs.Servers.{Action, Cluster, Crashes, Disk, Flushes, Server, Step, Takes, WaitingStep, after_action, after_actions, crashed, flushed, flushed_first, new_cluster, stopped_node, with_server, with_step}
use Rattle.proof_servers.specs.Recorded.{joined}
use Rattle.proof_servers.proofs.Follow.{changes}
use Rattle.raft_core.specs.raft_reads.Reads.{ReadsView, no_reads}
use Rattle.raft_core.specs.Views.{CoreView}
use Rattle.proof_requests.specs.Laws.{IsOwnAction}
use Rattle.proof_requests.specs.OnDisk.{flushed_from, flushed_node, flushed_on, with_oldest}
use Rattle.proof_requests.specs.Reading.{IsHanded, StartsBare}
use Rattle.proof_requests.specs.ReadLaws.{AreReads, IsReader, answers_waiting, pending}
use Rattle.proof_requests.specs.Requests.{Asked, server_after}
use Rattle.proof_requests.proofs.Handed.{from_both}
use Rattle.proof_requests.proofs.Kept.{NoCrash}
use Rattle.proof_requests.proofs.Lists.{slot_none}
use Rattle.proof_requests.proofs.More.{after_both}
use Rattle.proof_requests.proofs.ReadCalls.{bare_more, reads_more}
use Rattle.proof_requests.proofs.Silent.{answers_step, silent}

-- an action of this server
abbrev pub Concerns : ℕ → Action → Type 0
Concerns id (Takes other step) = other ≡ id
Concerns id (Flushes other) = other ≡ id
Concerns id (Crashes other k at) = other ≡ id

pub concerns_own : (id : ℕ) (a : Action) → IsOwnAction id a → Concerns id a
concerns_own id (Takes other step) h = h
concerns_own id (Flushes other) h = h
concerns_own id (Crashes other k at) h = absurd h

module _ (given : Given) (id other : ℕ) (apart : other ≢ id) where
  one_still : (a : Action) (c : Cluster) → Concerns id a → (after_action given a c).servers other ≡ c.servers other
  one_still (Takes x step) c e = (changes x (with_step given step (c.servers x)) c).others other (λ q. apart (sym q ∙ e))
  one_still (Flushes x) c e = go (c.servers x).waiting
    where
      go : (xs : List WaitingStep)
          → ◌≡◌ {A = Server} ((elim xs as (λ _. Cluster) [ [] ↦ c | w ∷ ws ↦ record (with_server x (flushed w ws (c.servers x)) c) { released = joined c.released w.outputs } ]).servers other) (c.servers other)
      go [] = refl
      go (w ∷ ws) = (changes x (flushed w ws (c.servers x)) c).others other (λ q. apart (sym q ∙ e))
  one_still (Crashes x k at) c e = (changes x (crashed given x k at (c.servers x)) c).others other (λ q. apart (sym q ∙ e))

  all_still : (took : List Action) (c : Cluster) → AllByRecursion (Concerns id) took → (after_actions given took c).servers other ≡ c.servers other
  all_still [] c h = refl
  all_still (a ∷ took) c h = all_still took (after_action given a c) h.1 ∙ one_still a c h.0

  pub server_still : (actions took : List Action) → AllByRecursion (Concerns id) took → server_after given (actions ++ took) other ≡ server_after given actions other
  server_still actions took h = ap (λ (c : Cluster). c.servers other) (after_both given actions took (new_cluster given)) ∙ all_still took (after_actions given actions (new_cluster given)) h

  pub no_crash_of : (took : List Action) → AllByRecursion (Concerns id) took → NoCrash other took
  no_crash_of [] h j k at e = absurd (slot_none j (Crashes other k at) e)
  no_crash_of (a ∷ took) h zero k at e = let z : a ≡ Crashes other k at = cc in apart (subst (Concerns id) z h.0)
  no_crash_of (a ∷ took) h (suc j) k at e = no_crash_of took h.1 j k at e

  -- what it has on disk
  passes : (x : ℕ) (there n : NodeView) → x ≡ id → (if nat_eq x other then there else n) ≡ n
  passes x there n q = let e : nat_eq x other ≡ false = ne_eqb x other (λ r. apart (sym r ∙ q)) in rw e refl

  flushed_one : (a : Action) (s : Server) (n : NodeView) → Concerns id a → flushed_on given other a s n ≡ n
  flushed_one (Takes x step) s n q = refl
  flushed_one (Flushes x) s n q = passes x (with_oldest given other s n) n q
  flushed_one (Crashes x k at) s n q = passes x (stopped_node other (flushed_first k s).disk) n q

  flushed_all : (took : List Action) (c : Cluster) (n : NodeView) → AllByRecursion (Concerns id) took → flushed_from given other took c n ≡ n
  flushed_all [] c n h = refl
  flushed_all (a ∷ took) c n h =
      ap (flushed_from given other took (after_action given a c)) (flushed_one a (c.servers other) n h.0) ∙ flushed_all took (after_action given a c) n h.1

  flushed_other : (actions took : List Action) → AllByRecursion (Concerns id) took → flushed_node given (actions ++ took) other ≡ flushed_node given actions other
  flushed_other actions took h =
      from_both given other actions took (new_cluster given) (new_node given.settings other) ∙ flushed_all took (after_actions given actions (new_cluster given)) (flushed_node given actions other) h

  -- it takes no start
  no_start_of : (took : List Action) → AllByRecursion (Concerns id) took → (j at : ℕ) (start : Start) → slice_get took j ≢ Some (Takes other (record { act = Restart start; at = at }))
  no_start_of [] h j at start e = slot_none j (Takes other (record { act = Restart start; at = at })) e
  no_start_of (a ∷ took) h zero at start e = let z : a ≡ Takes other (record { act = Restart start; at = at }) = cc in apart (subst (Concerns id) z h.0)
  no_start_of (a ∷ took) h (suc j) at start e = no_start_of took h.1 j at start e

  pub bare_other : (actions took : List Action) → AllByRecursion (Concerns id) took → StartsBare actions other → StartsBare (actions ++ took) other
  bare_other actions took h bare = bare_more given actions took other bare (no_start_of took h)

  pub reader_other : {S : Type 0} (actions took : List Action) → AllByRecursion (Concerns id) took → (v : CoreView S) (reading : List Asked)
      → IsReader given actions other v reading → IsReader given (actions ++ took) other v reading
  reader_other actions took h v reading x = record {
    bare = bare_other actions took h x.bare;
    handed = subst (λ (n : NodeView). IsHanded n.store.applied v.executed) (sym (flushed_other actions took h)) x.handed;
    pending_is = ap (λ (s : Server). answers_waiting s.waiting) (server_still actions took h) ∙ x.pending_is;
    reads = reads_more given actions took other (no_crash_of took h) v.reads reading x.reads;
  }

-- One that starts after a crash

module _ (given : Given) (actions : List Action) (id k at : ℕ) where
  abbrev after : List Action
  after = actions ++ Crashes id k at ∷ []

  pub bare_start : (i : ℕ) → StartsBare actions i → StartsBare after i
  bare_start i bare = bare_more given actions (Crashes id k at ∷ []) i bare none_there
    where
      none_there : (j moment : ℕ) (start : Start) → slice_get (Crashes id k at ∷ []) j ≢ Some (Takes i (record { act = Restart start; at = moment }))
      none_there zero moment start e = cc
      none_there (suc j) moment start e = cc

  -- it has said nothing
  start_says : answers_waiting (server_after given after id).waiting ≡ []
  start_says =
      ap (λ (c : Cluster). answers_waiting (c.servers id).waiting) (after_both given actions (Crashes id k at ∷ []) (new_cluster given))
      ∙ (ap (λ (s : Server). answers_waiting s.waiting) (changes id (crashed given id k at (server_after given actions id)) (after_actions given actions (new_cluster given))).own
      ∙ by (flushed_first k (server_after given actions id)).disk)
    where
      by : (d : Disk) → answers_waiting (with_step given (record { act = Restart Bare; at = max at d.moment }) (record { node = stopped_node id d; reserved = d.moment; waiting = []; disk = d })).waiting ≡ []
      by d =
          let step : Step = record { act = Restart Bare; at = max at d.moment } in
          let s : Server = record { node = stopped_node id d; reserved = d.moment; waiting = []; disk = d } in
          answers_step given s step ∙ silent given (stopped_node id d) step (λ e. cc)

  pub reader_start : {S : Type 0} (v : CoreView S) → v.executed ≡ None → v.reads ≡ no_reads → StartsBare actions id → IsReader given after id v []
  reader_start v none_executed none_read bare = record {
    bare = bare_start id bare;
    handed = subst (IsHanded (flushed_node given after id).store.applied) (sym none_executed) tt;
    pending_is = start_says ∙ sym (ap (λ (r : ReadsView). pending r.rounds) none_read);
    reads = subst (λ (r : ReadsView). AreReads given after id r []) (sym none_read) (record { open_are = tt; rounds = tt; one = omega arith });
  }
