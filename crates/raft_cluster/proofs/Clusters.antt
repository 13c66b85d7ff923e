-- What a line does in a cluster is what the model's servers do, and what their clients see.
use Rattle.std.proofs.Common.{ℕ, zero, suc, ◌+◌, ◌<◌, ◌≤◌, ◌≡◌, ◌≢◌, ◌∙◌, ◌⊎◌, Bool, true, false, List, [], ◌∷◌, ◌++◌, length, take, Option, None, Some, nat_eq, refl, sym, ap, subst, arith, append_assoc, inl, inr}
use Rattle.std.specs.Prelude.{All, Contains, IfSome, ◌^◌, ◌-◌, ◌||◌, get_or, if◌then◌else◌, map, nat_lt, set, slice_get}
use Rattle.std.specs.List.{AllByRecursion, list_any}
use Rattle.std.proofs.lemmas.Bool.{eqb-false, eqb-true}
use Rattle.std.proofs.lemmas.Grind.{flat_map-append}
use Rattle.std.proofs.lemmas.List.{length-append, length-map, map-append, take-map}
use Rattle.std.proofs.lemmas.List.Quantifiers.{position-Some}
use Rattle.raft_store.specs.declared.entry.Entry.{Entry}
use Rattle.raft_answers.specs.declared.answer.Reply.{Reply}
use Rattle.raft_answers.specs.declared.request.Operation.{Operation}
use Rattle.raft_answers.specs.declared.request.Operation.TheVariants.{Read}
use Rattle.raft_answers.specs.declared.request.Proposal.{Proposal}
use Rattle.raft_answers.specs.declared.request.Token.{Token}
use Rattle.raft_frames.specs.declared.header.LogId.{LogId}
use Rattle.raft_frames.specs.declared.tail.Tail.{Tail}
use Rattle.raft_node.specs.declared.given.Given.{Given}
use Rattle.raft_node.specs.Net.{Records}
use Rattle.raft_node.specs.WellFormed.{IsWellFormed, has_twice, lacks_voters}
use Rattle.raft_world.specs.declared.error.WorldError.{WorldError}
use Rattle.raft_world.specs.declared.error.WorldError.TheVariants.{DuplicateId, NoVoters, TooManyNodes}
use Rattle.raft_world.specs.Limits.{refusals_of_new}
use Rattle.proof_servers.specs.Servers.{Action, Server, Step, after_actions, crashed, new_cluster, with_server, with_step}
use Rattle.proof_servers.specs.Servers.{Cluster as ModelCluster}
use Rattle.proof_servers.specs.Servers as servers
use Rattle.proof_requests.proofs.proof_logs_proofs.Runs.{AreFlushed, after_more, all_flushed, server_in, server_past}
use Rattle.raft_codec.specs.Codec.{Codec, IsCodec}
use Rattle.proof_packed.specs.Nodes.{packed_message, packed_records}
use Rattle.proof_packed.specs.Stores.{Application}
use Rattle.proof_requests.specs.proof_packed_servers.Checkpoints.{AreAlike, AreSameDisks, packed_checkpointed, packed_left_by}
use Rattle.proof_requests.specs.proof_packed_servers.Servers.{PackedCluster, PackedServer, PackedStep, action_packed, cluster_packed, packed_with_server, server_packed}
use Rattle.proof_requests.specs.proof_packed_servers.Servers.{waiting_packed}
use Rattle.proof_requests.proofs.proof_packed_servers_proofs.Checkpoints.{go_on}
use Rattle.proof_requests.proofs.proof_packed_servers_proofs.Clusters.{clusters_kept}
use Rattle.proof_requests.proofs.proof_packed_servers_proofs.MayAct.{runs_may}
use Rattle.proof_requests.specs.raft_packed_server.declared.serving.Serving.{Serving}
use Rattle.proof_requests.specs.raft_packed_server.Laws.{OpensCrashed}
use Rattle.proof_requests.specs.raft_packed_server.Recovery.{GoesOn}
use Rattle.proof_requests.specs.raft_packed_server.Represents.{said_by}
use Rattle.proof_requests.specs.raft_core.raft_peers.declared.output.Output.{Output}
use Rattle.proof_requests.specs.raft_core.raft_peers.declared.output.Output.TheVariants as outputs
use Rattle.proof_requests.specs.raft_core.Calls.{Receives, Ticks}
use Rattle.proof_requests.specs.raft_core.Laws.{read_replies_of, replies_of}
use Rattle.proof_requests.specs.raft_core.raft_reads.Reads.{read_replies, with_left}
use Rattle.proof_requests.specs.raft_core.Outputs.{handed_after}
use Rattle.proof_requests.specs.raft_core.Steps.{with_steps}
use Rattle.proof_requests.specs.raft_core.Views.{CoreView}
use Rattle.proof_requests.proofs.raft_core_proofs.ReadsTold.{only_rounds_tell_ok}
use Rattle.proof_requests.specs.Actions.{Initializes, after_steps, flushes, initialized, received, released, taking, ticked, written}
use Rattle.proof_requests.specs.Clients.{AreBeside, Cores, StayBy, StayBySteps, after_call, after_end, after_read, after_request, no_cores, with_one}
use Rattle.proof_requests.specs.Frames.{frames_of as frames_in}
use Rattle.proof_requests.specs.Requests.{Placed}
use Rattle.proof_requests.proofs.Lists.{contains_slot}
use Rattle.proof_requests.proofs.Packs.{crash_packed, flushes_packed, steps_packed}
use Rattle.proof_requests.proofs.Promises.{stay_beside}
use Rattle.proof_requests.proofs.Queues.{one_other, one_own}
use Rattle.proof_requests.proofs.Sent.{frames_more}
use Rattle.raft_cluster.specs.declared.cluster.Cluster.{Cluster}
use Rattle.raft_cluster.specs.declared.comes.Comes.{Comes}
use Rattle.raft_cluster.specs.declared.machine.Handed.{Handed}
use Rattle.raft_cluster.specs.declared.machine.Machine.{Machine}
use Rattle.raft_cluster.specs.declared.network.Network.{Network}
use Rattle.raft_cluster.specs.declared.network.Sent.{Sent}
use Rattle.raft_cluster.specs.declared.told.Answered.{Answered}
use Rattle.raft_cluster.specs.declared.told.Told.{Told}
use Rattle.raft_cluster.specs.Calls.{ByCore, ByFlush, ByNewLog, ByRead, ByRequest, ByStart, ByTakeOver, ByWrite, Calls, GivesUp, Never, ReadsIf, RequestsIf, StartsIf, Stops, is_done, is_forged, is_opened, is_refused, with_handed}
use Rattle.raft_cluster.specs.Clients.{AreClients, answers_told}
use Rattle.raft_cluster.specs.Clusters.{AreNew, Carries, Follows, HasEntryAt, HasHanded, Holds, IsCluster, IsFrameAt, IsKept, IsNew, IsTold, KeepsAcknowledged, Leaves, Notes, answers_of, entries_told, frames_of, model_of, place_of, replies_told, sent_at, snapshots_told}
use Rattle.raft_cluster.specs.Outputs.{AreQuiet, answer_in, answers_in, entry_in, executed_in, handed_in, installed_in, is_packet, others_in, snapshot_in}
use Rattle.raft_cluster.specs.Servers.{IsServer, log_on}
use Rattle.raft_cluster.proofs.Kept.{answers_kept, handed_on, handed_there, keeps, not_ok_kept, quiet_kept, received_kept, released_kept, said_kept}
use Rattle.raft_cluster.proofs.Alike.{alike_at}
use Rattle.raft_cluster.proofs.Clients.{clients_call, clients_end, clients_first, clients_read, clients_request, clients_still}
use Rattle.raft_cluster.proofs.Cores.{idle, is_initialized, is_received, is_released, is_stopped, is_ticked, is_written, quiet_received, quiet_ticked, quiet_written, same_initialized, same_received, same_ticked, same_written}
use Rattle.raft_cluster.proofs.Frames.{carries_more, carries_none, carries_quiet, carries_said}
use Rattle.raft_cluster.proofs.Leaving.{executed_said, frames_said, installed_said, quiet_executed, quiet_installed}
use Rattle.raft_cluster.proofs.Machines.{reads}
use Rattle.raft_cluster.proofs.Order.{order_initialized, order_received, order_released, order_ticked, order_written}
use Rattle.raft_cluster.proofs.Recorded.{bag_more, executed_more, installed_more}
use Rattle.raft_cluster.proofs.Seen.{keeps_writes}
use Rattle.raft_cluster.proofs.Servers.{begun, given_up, made, opened, taken_over}

or_false : (a : Bool) → (a || false) ≡ a
or_false true = refl
or_false false = refl

or_true : (a : Bool) → (a || true) ≡ true
or_true true = refl
or_true false = refl

or_no : (a b : Bool) → (a || b) ≡ false → (a ≡ false) × (b ≡ false)
or_no true b e = absurd cc
or_no false b e = (refl, e)

other_id : (a b : ℕ) → nat_eq a b ≡ false → b ≡ a → ⊥
other_id a b differs same = eqb-false a b differs (sym same)

-- ---- new clusters

well_formed : (ids : List ℕ) (groups : List (List ℕ)) → refusals_of_new ids groups ≡ None → (has_twice ids ≡ false) × (lacks_voters groups ≡ false)
well_formed ids groups e = go (has_twice ids) (nat_lt 16 (length ids)) (lacks_voters groups) e
  where
    go : (a b c : Bool) → ◌≡◌ {A = Option WorldError} (if a then Some DuplicateId else if b then Some TooManyNodes else if c then Some NoVoters else None) None → (a ≡ false) × (c ≡ false)
    go true b c e = absurd cc
    go false true c e = absurd cc
    go false false true e = absurd cc
    go false false false e = (refl, refl)

-- ---- steps of one server

-- a server took steps, and nothing left
record AreTaken (id : ℕ) (t : Server) (model next : ModelCluster) : Type 0 where
  pub own : next.servers id ≡ t
  pub others : (x : ℕ) → (id ≡ x → ⊥) → next.servers x ≡ model.servers x
  pub released : next.released ≡ model.released

all_taken : (given : Given) (id : ℕ) (steps : List Step) (model : ModelCluster)
    → AreTaken id (after_steps given steps (model.servers id)) model (after_actions given (taking id steps) model)
all_taken given id [] model = record { own = refl; others = λ x d. refl; released = refl }
all_taken given id (step ∷ steps) model =
    let t : Server = with_step given step (model.servers id) in
    let rest = all_taken given id steps (with_server id t model) in
    record {
      own = rest.own ∙ ap (after_steps given steps) (server_in id t model);
      others = λ x d. rest.others x d ∙ server_past id x t model d;
      released = rest.released;
    }

append_nil : {X : Type 0} (xs : List X) → xs ++ [] ≡ xs
append_nil [] = refl
append_nil (x ∷ xs) = ap (λ ys. x ∷ ys) (append_nil xs)

-- ---- frames

-- bytes that begin with another byte are no packet
no_packet : (bytes : List ℕ) → is_packet bytes ≡ false → slice_get bytes 0 ≢ Some 0
no_packet [] isnt e = cc
no_packet (b ∷ bytes) isnt e =
    let zero_first : b ≡ 0 = cc in
    let there : ◌≡◌ {A = Bool} true false = sym (ap (λ x. nat_eq x 0) zero_first) ∙ isnt in
    cc

pub frame_at : (sent : List Sent) (number : ℕ) (x : Sent) → sent_at sent number ≡ Some x → IsFrameAt sent x.bytes
frame_at sent number x e = go (nat_eq number 0) e
  where
    there : (xs : List Sent) (i : ℕ) → slice_get xs i ≡ Some x → slice_get (map (λ (y : Sent). y.bytes) xs) i ≡ Some x.bytes
    there [] i e = absurd cc
    there (y ∷ xs) zero e = (let same : y ≡ x = cc in ap (λ (z : Sent). Some z.bytes) same)
    there (y ∷ xs) (suc i) e = there xs i e

    go : (b : Bool) → (if b then None else slice_get sent (number - 1)) ≡ Some x → IsFrameAt sent x.bytes
    go true e = absurd cc
    go false e = record { i = number - 1; is = there sent (number - 1) e }

module _ {S : Type 0} where
  -- ---- the machine with an id

  abbrev ids_of : List (Machine S) → List ℕ
  ids_of machines = map (λ m. m.id) machines

  -- the first with this id stands there
  record IsPlace (id : ℕ) (machines : List (Machine S)) (place : ℕ) (d : Machine S) : Type 0 where
    pub within : place < length machines
    pub has : nat_eq (get_or machines place d).id id ≡ true
    pub before : (k : ℕ) → k < place → nat_eq (get_or machines k d).id id ≡ false

  place_is : (id : ℕ) (machines : List (Machine S)) (place : ℕ) (d : Machine S) → place_of machines id ≡ Some place → IsPlace id machines place d
  unfolding place_of
  place_is id machines place d e =
      let p = position-Some (λ (m : Machine S). nat_eq m.id id) machines place d e in
      record { within = p.0; has = p.1; before = p.2 }

  -- so there is a machine
  pub place_within : (id : ℕ) (machines : List (Machine S)) (place : ℕ) → place_of machines id ≡ Some place → place < length machines
  unfolding place_of
  place_within id [] place e = absurd cc
  place_within id (x ∷ machines) place e = (position-Some (λ (m : Machine S). nat_eq m.id id) (x ∷ machines) place x e).0

  behind : (id : ℕ) (x : Machine S) (machines : List (Machine S)) (place : ℕ) (d : Machine S) → IsPlace id (x ∷ machines) (suc place) d → IsPlace id machines place d
  behind id x machines place d at = record { within = omega (arith, at.within); has = at.has; before = λ k less. at.before (suc k) (omega (arith, less)) }

  id_there : (id : ℕ) (machines : List (Machine S)) (place : ℕ) (d : Machine S) → IsPlace id machines place d → (get_or machines place d).id ≡ id
  id_there id machines place d at = eqb-true (get_or machines place d).id id at.has

  get_all : (P : Machine S → Type 0) (machines : List (Machine S)) (place : ℕ) (d : Machine S) → AllByRecursion P machines → place < length machines → P (get_or machines place d)
  get_all P [] place d all less = absurd (omega (arith, less))
  get_all P (x ∷ machines) zero d all less = all.0
  get_all P (x ∷ machines) (suc place) d all less = get_all P machines place d all.1 (omega (arith, less))

  member : (id : ℕ) (machines : List (Machine S)) (place : ℕ) (d : Machine S) → IsPlace id machines place d → Contains (ids_of machines) id
  member id [] place d at = absurd (omega (arith, at.within))
  member id (x ∷ machines) zero d at = (0, omega arith, id_there id (x ∷ machines) zero d at)
  member id (x ∷ machines) (suc place) d at =
      (let rest = member id machines place d (behind id x machines place d at) in (suc rest.0, omega (arith, rest.1), rest.2))

  -- another one is there in its place
  ids_set : (id : ℕ) (machines : List (Machine S)) (place : ℕ) (n d : Machine S) → IsPlace id machines place d → n.id ≡ id → ids_of (set machines place n) ≡ ids_of machines
  ids_set id [] place n d at same = refl
  ids_set id (x ∷ machines) zero n d at same = ap (λ i. i ∷ ids_of machines) (same ∙ sym (id_there id (x ∷ machines) zero d at))
  ids_set id (x ∷ machines) (suc place) n d at same = ap (λ is. x.id ∷ is) (ids_set id machines place n d (behind id x machines place d at) same)

  module _ (P Q : Machine S → Type 0) (id : ℕ) (keeps : (x : Machine S) → (id ≡ x.id → ⊥) → P x → Q x) where
    others : (machines : List (Machine S)) → list_any (λ other. nat_eq other id) (ids_of machines) ≡ false → AllByRecursion P machines → AllByRecursion Q machines
    others [] none all = tt
    others (x ∷ machines) none all =
        let differs = or_no (nat_eq x.id id) (list_any (λ other. nat_eq other id) (ids_of machines)) none in
        (keeps x (other_id x.id id differs.0) all.0, others machines differs.1 all.1)

    set_all : (machines : List (Machine S)) (place : ℕ) (n d : Machine S) → IsPlace id machines place d → has_twice (ids_of machines) ≡ false → Q n → AllByRecursion P machines
        → AllByRecursion Q (set machines place n)
    set_all [] place n d at once q all = tt
    set_all (x ∷ machines) zero n d at once q all =
        let differs = or_no (list_any (λ other. nat_eq other x.id) (ids_of machines)) (has_twice (ids_of machines)) once in
        (q, others machines (subst (λ i. list_any (λ other. nat_eq other i) (ids_of machines) ≡ false) (id_there id (x ∷ machines) zero d at) differs.0) all.1)
    set_all (x ∷ machines) (suc place) n d at once q all =
        let differs = or_no (list_any (λ other. nat_eq other x.id) (ids_of machines)) (has_twice (ids_of machines)) once in
        (keeps x (other_id x.id id (at.before 0 (omega arith))) all.0, set_all machines place n d (behind id x machines place d at) differs.1 q all.1)

  all_map : (P Q : Machine S → Type 0) → ((x : Machine S) → P x → Q x) → (machines : List (Machine S)) → AllByRecursion P machines → AllByRecursion Q machines
  all_map P Q keeps [] all = tt
  all_map P Q keeps (x ∷ machines) all = (keeps x all.0, all_map P Q keeps machines all.1)

  -- one more machine is made
  pub new_more : (ids : List ℕ) (machines : List (Machine S)) (id : ℕ) (m : Machine S) → AreNew ids machines → m.id ≡ id → IsNew m → AreNew (ids ++ id ∷ []) (machines ++ m ∷ [])
  new_more ids machines id m are same is = record {
    same = map-append (λ (x : Machine S). x.id) machines (m ∷ []) ∙ (λ i. are.same i ++ same i ∷ []);
    each = all_push machines are.each;
  }
    where
      all_push : (ms : List (Machine S)) → AllByRecursion IsNew ms → AllByRecursion IsNew (ms ++ m ∷ [])
      all_push [] all = (is, tt)
      all_push (x ∷ ms) all = (all.0, all_push ms all.1)

  -- what leaves and isn't for the log's end
  answers_others : (out : List (Output S)) → answers_in (others_in out) ≡ answers_in out
  answers_others [] = refl
  answers_others (outputs.Reply r ∷ out) = ap (λ rs. r ∷ rs) (answers_others out)
  answers_others (outputs.Read r ∷ out) = ap (λ rs. r ∷ rs) (answers_others out)
  answers_others (outputs.Send to bytes ∷ out) = answers_others out
  answers_others (outputs.Append bytes end next ∷ out) = answers_others out
  answers_others (outputs.Install p ∷ out) = answers_others out
  answers_others (outputs.Execute e ∷ out) = answers_others out

  reads_others : (out : List (Output S)) → read_replies_of (others_in out) ≡ read_replies_of out
  reads_others [] = refl
  reads_others (outputs.Reply r ∷ out) = reads_others out
  reads_others (outputs.Read r ∷ out) = ap (λ rs. r ∷ rs) (reads_others out)
  reads_others (outputs.Send to bytes ∷ out) = reads_others out
  reads_others (outputs.Append bytes end next ∷ out) = reads_others out
  reads_others (outputs.Install p ∷ out) = reads_others out
  reads_others (outputs.Execute e ∷ out) = reads_others out

  frames_others : (out : List (Output S)) → frames_in (others_in out) ≡ frames_in out
  frames_others [] = refl
  frames_others (outputs.Reply r ∷ out) = frames_others out
  frames_others (outputs.Read r ∷ out) = frames_others out
  frames_others (outputs.Send to bytes ∷ out) = ap (λ fs. bytes ∷ fs) (frames_others out)
  frames_others (outputs.Append bytes end next ∷ out) = frames_others out
  frames_others (outputs.Install p ∷ out) = frames_others out
  frames_others (outputs.Execute e ∷ out) = frames_others out

  -- the replies that were told then
  replies_told_more : (told told2 : Told S) (id : ℕ) (rs : List Reply) → answers_told told2 ≡ answers_told told ++ answers_of id rs → replies_told told2 ≡ replies_told told ++ rs
  replies_told_more told told2 id rs e = ap (map (λ (x : ℕ × Reply). x.1)) e ∙ (map-append (λ (x : ℕ × Reply). x.1) (answers_told told) (answers_of id rs) ∙ ap (λ ys. replies_told told ++ ys) (back rs))
    where
      back : (rs : List Reply) → map (λ (x : ℕ × Reply). x.1) (answers_of id rs) ≡ rs
      back [] = refl
      back (r ∷ rs) = ap (λ ys. r ∷ ys) (back rs)

  -- nothing has left
  pub record IsQuiet (c e : Cluster S) : Type 0 where
    pub frames : frames_of e.network ≡ frames_of c.network
    pub executed : entries_told e.told ≡ entries_told c.told
    pub installed : snapshots_told e.told ≡ snapshots_told c.told
    pub answers : answers_told e.told ≡ answers_told c.told

  leaves_nothing : (c e : Cluster S) (id : ℕ) (out : List (Output S)) → out ≡ [] → Leaves id out c.network c.told e.network e.told → IsQuiet c e
  leaves_nothing c e id out none l = record {
    frames = l.frames ∙ (ap (λ o. frames_of c.network ++ frames_in o) none ∙ append_nil (frames_of c.network));
    executed = l.executed ∙ (ap (λ o. entries_told c.told ++ executed_in o) none ∙ append_nil (entries_told c.told));
    installed = l.installed ∙ (ap (λ o. snapshots_told c.told ++ installed_in o) none ∙ append_nil (snapshots_told c.told));
    answers = l.answers ∙ (ap (λ o. answers_told c.told ++ answers_of id (answers_in o)) none ∙ append_nil (answers_told c.told));
  }

  -- ---- what leaves

  pub leaves_none : (node : ℕ) (network : Network) (told : Told S) → Leaves node [] network told network told
  leaves_none node network told = record {
    frames = sym (append_nil (frames_of network));
    executed = sym (append_nil (entries_told told));
    installed = sym (append_nil (snapshots_told told));
    answers = sym (append_nil (answers_told told));
    asked = refl;
  }

  pub leaves_more : (node : ℕ) (out : List (Output S)) (x : Output S) (network mid last : Network) (told told_mid told_last : Told S) → Leaves node out network told mid told_mid
      → Leaves node (x ∷ []) mid told_mid last told_last → Leaves node (out ++ x ∷ []) network told last told_last
  leaves_more node out x network mid last told told_mid told_last a b = record {
    frames = b.frames ∙ (ap (λ fs. fs ++ frames_in (x ∷ [])) a.frames
        ∙ (append_assoc (frames_of network) (frames_in out) (frames_in (x ∷ [])) ∙ ap (λ fs. frames_of network ++ fs) (sym (frames_more out (x ∷ [])))));
    executed = b.executed ∙ (ap (λ fs. fs ++ executed_in (x ∷ [])) a.executed
        ∙ (append_assoc (entries_told told) (executed_in out) (executed_in (x ∷ [])) ∙ ap (λ fs. entries_told told ++ fs) (sym (flat_map-append entry_in out (x ∷ [])))));
    installed = b.installed ∙ (ap (λ fs. fs ++ installed_in (x ∷ [])) a.installed
        ∙ (append_assoc (snapshots_told told) (installed_in out) (installed_in (x ∷ [])) ∙ ap (λ fs. snapshots_told told ++ fs) (sym (flat_map-append snapshot_in out (x ∷ [])))));
    answers = b.answers ∙ (ap (λ ys. ys ++ answers_of node (answers_in (x ∷ []))) a.answers
        ∙ (append_assoc (answers_told told) (answers_of node (answers_in out)) (answers_of node (answers_in (x ∷ [])))
        ∙ ap (λ ys. answers_told told ++ ys) (sym (ap (answers_of node) (flat_map-append answer_in out (x ∷ [])) ∙ map-append (λ (r : Reply). (node, r)) (answers_in out) (answers_in (x ∷ []))))));
    asked = b.asked ∙ a.asked;
  }

  -- ---- up to which index entries were handed out

  abbrev AreHanded : List Entry → List (Machine S) → Type 0
  AreHanded es machines = AllByRecursion (HasHanded es) machines

  set_any : (P : Machine S → Type 0) (machines : List (Machine S)) (place : ℕ) (n : Machine S) → P n → AllByRecursion P machines → AllByRecursion P (set machines place n)
  set_any P [] place n p all = tt
  set_any P (x ∷ machines) zero n p all = (p, all.1)
  set_any P (x ∷ machines) (suc place) n p all = (all.0, set_any P machines place n p all.1)

  -- what clients were told is the same
  kept_still : (c e : Cluster S) → entries_told e.told ≡ entries_told c.told → answers_told e.told ≡ answers_told c.told → KeepsAcknowledged c.told → KeepsAcknowledged e.told
  kept_still c e entries answers keeps =
      subst (λ es. AllByRecursion (IsKept es) (replies_told e.told)) (sym entries)
      (subst (AllByRecursion (IsKept (entries_told c.told))) (sym (ap (map (λ (x : ℕ × Reply). x.1)) answers)) keeps)

  -- no server runs
  no_core_handed : (es : List Entry) (m : Machine S) → m.core ≡ None → HasHanded es m
  no_core_handed es m none = subst (λ (o : Option (CoreView S)). IfSome o (λ v. IfSome v.executed (λ index. HasEntryAt index es))) (sym none) tt

-- ---- what holds of a cluster

module _ {S : Type 0} (app : Application S) (codec : Codec S) where
  pub holds_by : (e : Cluster S) → (e.damaged ≡ false → Follows app codec e) → KeepsAcknowledged e.told → AreHanded (entries_told e.told) e.machines.items → Holds app codec e
  holds_by e follows keeps handed = record {
    follows = follows;
    writes = λ undamaged. let f = follows undamaged in keeps_writes app codec e.given f.given f.actions f.placed f.cores f.beside e.told (length f.actions) f.clients (entries_told e.told) f.is.told.executed;
    keeps = keeps;
    handed = handed;
  }

  -- a new cluster
  pub new_holds : (c : Cluster S) → Follows app codec c → answers_told c.told ≡ [] → AreNew c.given.ids c.machines.items → Holds app codec c
  new_holds c f none fresh =
      holds_by c (λ undamaged. f) (subst (AllByRecursion (IsKept (entries_told c.told))) (sym (ap (map (λ (x : ℕ × Reply). x.1)) none)) tt)
      (all_map IsNew (HasHanded (entries_told c.told)) (λ m is. no_core_handed (entries_told c.told) m is.0) c.machines.items fresh.each)

  -- other frames wait
  pub network_holds : (c : Cluster S) (n : Network) → n.sent ≡ c.network.sent → Holds app codec c → Holds app codec (record c { network = n })
  network_holds c n same h =
      holds_by (record c { network = n })
      (λ undamaged.
      let f = h.follows undamaged in
      let frames : frames_of n ≡ frames_of c.network = ap (λ s. map (λ (x : Sent). x.bytes) s.items) same in
      record {
        given = f.given;
        actions = f.actions;
        placed = f.placed;
        cores = f.cores;
        beside = f.beside;
        is = record { ids = f.is.ids; servers = f.is.servers; sent = subst (Carries app codec (cluster_packed app (model_of app codec f)).released.bag) (sym frames) f.is.sent; told = f.is.told };
        running = f.running;
        frames = frames ∙ f.frames;
        clients = f.clients;
      }) h.keeps h.handed

  -- a byte on a disk was changed by hand, or a packet of a stranger was taken
  pub damaged_holds : (c e : Cluster S) → e.damaged ≡ true → e.told ≡ c.told → AreHanded (entries_told c.told) e.machines.items → Holds app codec c → Holds app codec e
  damaged_holds c e damaged told handed h =
      holds_by e (λ undamaged. absurd (let there : ◌≡◌ {A = Bool} true false = sym damaged ∙ undamaged in cc)) (subst KeepsAcknowledged (sym told) h.keeps)
      (subst (λ (x : Told S). AreHanded (entries_told x) e.machines.items) (sym told) handed)

  module _ (c : Cluster S) (id place : ℕ) (m n : Machine S) (found : place_of c.machines.items id ≡ Some place) (was : m ≡ get_or c.machines.items place m) (h : Holds app codec c) where
    own_handed : HasHanded (entries_told c.told) m
    own_handed = subst (HasHanded (entries_told c.told)) (sym was) (get_all (HasHanded (entries_told c.told)) c.machines.items place m h.handed (place_is id c.machines.items place m found).within)

    -- a byte of a server's disk was changed by hand
    pub corrupt_holds : (e : Cluster S) → e.machines.items ≡ set c.machines.items place n → n.core ≡ m.core → e.damaged ≡ true → e.told ≡ c.told → Holds app codec e
    corrupt_holds e items core damaged told =
        damaged_holds c e damaged told
        (subst (AreHanded (entries_told c.told)) (sym items)
        (set_any (HasHanded (entries_told c.told)) c.machines.items place n
        (subst (λ (o : Option (CoreView S)). IfSome o (λ v. IfSome v.executed (λ index. HasEntryAt index (entries_told c.told)))) (sym core) own_handed) h.handed)) h

-- no new log is on its way at a server that was opened
alone_by : {S : Type 0} (o : Option (Serving S)) (header : Option LogId) (place : Tail) → GoesOn o header place → (v : Serving S) → o ≡ Some v → v.next ≡ None
alone_by None header place goes v is = absurd goes
alone_by {S = S} (Some u) header place goes v is = ap (λ (x : Option (Serving S)). next_in x) (sym is) ∙ goes.alone
  where
    next_in : Option (Serving S) → Option Tail
    next_in None = None
    next_in (Some x) = x.next

module _ {S : Type 0} (app : Application S) (codec : Codec S) (inverse : IsCodec codec) where
  -- a new cluster follows none
  pub new_follows : (c : Cluster S) → refusals_of_new c.given.ids c.given.membership.groups ≡ None → All (λ id. id < 2 ^ 64) c.given.ids → AreNew c.given.ids c.machines.items
      → frames_of c.network ≡ [] → entries_told c.told ≡ [] → snapshots_told c.told ≡ [] → answers_told c.told ≡ [] → c.told.asked.items ≡ [] → Follows app codec c
  new_follows c kept named fresh none executed installed answers asked =
      let well = well_formed c.given.ids c.given.membership.groups kept in
      record {
        given = record { named = named; once = well.0; voters = well.1 };
        actions = [];
        placed = [];
        cores = no_cores;
        beside = (stay_beside app codec inverse).first c.given;
        is = record {
          ids = fresh.same;
          servers = all_map IsNew (λ m. IsServer app codec c.given (server_packed app ((new_cluster c.given).servers m.id)) m) (λ m is. made app codec c.given m is.0 is.1 is.2) c.machines.items fresh.each;
          sent = subst (Carries app codec []) (sym none) (carries_none app codec);
          told = record { executed = executed; installed = installed };
        };
        running = all_map IsNew (λ (m : Machine S). ◌≡◌ {A = Option (CoreView S)} None m.core) (λ m is. sym is.0) c.machines.items fresh.each;
        frames = none;
        clients = subst (λ noted. AreClients {S = S} 0 no_cores noted (answers_told c.told)) (sym asked) (subst (AreClients {S = S} 0 no_cores []) (sym answers) clients_first);
      }

  -- ---- a machine's call

  module _ (c e : Cluster S) (id place : ℕ) (m n : Machine S) (found : place_of c.machines.items id ≡ Some place) (was : m ≡ get_or c.machines.items place m)
      (same : e.given ≡ c.given) (items : e.machines.items ≡ set c.machines.items place n) (same_id : n.id ≡ m.id) (f : Follows app codec c) where
    abbrev model : ModelCluster
    model = model_of app codec f

    -- the model's server, packed
    abbrev own : PackedServer S
    own = server_packed app (model.servers m.id)

    found_at : IsPlace id c.machines.items place m
    found_at = place_is id c.machines.items place m found

    pub m_id : m.id ≡ id
    m_id = ap (λ (x : Machine S). x.id) was ∙ id_there id c.machines.items place m found_at

    at : IsPlace m.id c.machines.items place m
    at = subst (λ i. IsPlace i c.machines.items place m) (sym m_id) found_at

    is_member : Contains c.given.ids m.id
    is_member = subst (λ ids. Contains ids m.id) f.is.ids (member m.id c.machines.items place m at)

    stood : IsServer app codec c.given own m
    stood =
        subst (λ (x : Machine S). IsServer app codec c.given (server_packed app (model.servers x.id)) x) (sym was)
        (get_all (λ x. IsServer app codec c.given (server_packed app (model.servers x.id)) x) c.machines.items place m f.is.servers at.within)

    runs : f.cores.cores m.id ≡ m.core
    runs =
        subst (λ (x : Machine S). f.cores.cores x.id ≡ x.core) (sym was)
        (get_all (λ x. f.cores.cores x.id ≡ x.core) c.machines.items place m f.running at.within)

    -- a checkpoint makes a disk that is the same, as long as nothing is still to come on disk
    checkpoint_same : packed_left_by own.waiting ≡ [] → AreSameDisks app own.disk (packed_checkpointed app own).disk
    checkpoint_same waits =
        alike_at app m.id (cluster_packed app model) (packed_checkpointed app own)
        (subst (λ (d : PackedCluster S). packed_left_by (d.servers m.id).waiting ≡ [] → AreAlike app d (packed_with_server m.id (packed_checkpointed app (d.servers m.id)) d))
        (sym (clusters_kept c.given f.given app f.actions f.beside.may))
        (go_on app c.given f.given (map (action_packed app) f.actions) (runs_may app c.given f.given f.actions f.beside.may) m.id is_member) waits)

    once : has_twice (ids_of c.machines.items) ≡ false
    once = subst (λ ids. has_twice ids ≡ false) (sym f.is.ids) f.given.once

    -- a cluster in which the model's server is another one
    changed : (next : ModelCluster) → ((x : ℕ) → (m.id ≡ x → ⊥) → next.servers x ≡ model.servers x) → IsServer app codec c.given (server_packed app (next.servers m.id)) n
        → Carries app codec (map (packed_message app) next.released.bag) (frames_of e.network) → IsTold (packed_records app next.released) e.told
        → IsCluster app codec (cluster_packed app next) e
    changed next past stands sent told = record {
      ids = ap ids_of items ∙ (ids_set m.id c.machines.items place n m at same_id ∙ (f.is.ids ∙ ap (λ (g : Given). g.ids) (sym same)));
      servers =
          subst (λ (g : Given). AllByRecursion (λ x. IsServer app codec g (server_packed app (next.servers x.id)) x) e.machines.items) (sym same)
          (subst (AllByRecursion (λ x. IsServer app codec c.given (server_packed app (next.servers x.id)) x)) (sym items)
          (set_all (λ x. IsServer app codec c.given (server_packed app (model.servers x.id)) x) (λ x. IsServer app codec c.given (server_packed app (next.servers x.id)) x) m.id
          (λ x d stood. subst (λ s. IsServer app codec c.given (server_packed app s) x) (sym (past x.id d)) stood)
          c.machines.items place n m at once (subst (λ i. IsServer app codec c.given (server_packed app (next.servers i)) n) (sym same_id) stands) f.is.servers));
      sent = sent;
      told = told;
    }

    -- another core runs there
    running : (o : Option (CoreView S)) → o ≡ n.core → AllByRecursion (λ x. with_one m.id o f.cores.cores x.id ≡ x.core) e.machines.items
    running o now =
        subst (AllByRecursion (λ x. with_one m.id o f.cores.cores x.id ≡ x.core)) (sym items)
        (set_all (λ x. f.cores.cores x.id ≡ x.core) (λ x. with_one m.id o f.cores.cores x.id ≡ x.core) m.id
        (λ x d is. one_other m.id x.id o f.cores.cores (λ q. d (sym q)) ∙ is)
        c.machines.items place n m at once (ap (with_one m.id o f.cores.cores) same_id ∙ (one_own m.id o f.cores.cores ∙ now)) f.running)

    -- it follows these actions
    follows_now : (actions : List Action) (placed : List Placed) (s : Cores S) → AreBeside app codec c.given actions placed s → IsCluster app codec (cluster_packed app (after_actions c.given actions (new_cluster c.given))) e
        → AllByRecursion (λ x. s.cores x.id ≡ x.core) e.machines.items → frames_of e.network ≡ s.sent → AreClients (length actions) s e.told.asked.items (answers_told e.told) → Follows app codec e
    follows_now actions placed s beside is run frames clients = record {
      given = subst IsWellFormed (sym same) f.given;
      actions = actions;
      placed = placed;
      cores = s;
      beside = subst (λ (g : Given). AreBeside app codec g actions placed s) (sym same) beside;
      is = subst (λ (g : Given). IsCluster app codec (cluster_packed app (after_actions g actions (new_cluster g))) e) (sym same) is;
      running = run;
      frames = frames;
      clients = clients;
    }

    -- the model's cluster after more actions
    after_these : (more : List Action) → after_actions c.given (f.actions ++ more) (new_cluster c.given) ≡ after_actions c.given more model
    after_these more = after_more c.given f.actions more (new_cluster c.given)

    longer : (more : List Action) → length f.actions ≤ length (f.actions ++ more)
    longer more = let l : length (f.actions ++ more) ≡ length f.actions + length more = length-append f.actions more in omega (arith, l)

    -- nothing leaves
    module _ (quiet : IsQuiet c e) where
      still_sent : Carries app codec (map (packed_message app) model.released.bag) (frames_of e.network)
      still_sent = subst (Carries app codec (map (packed_message app) model.released.bag)) (sym quiet.frames) f.is.sent

      still_told : IsTold (packed_records app model.released) e.told
      still_told = record { executed = quiet.executed ∙ f.is.told.executed; installed = quiet.installed ∙ f.is.told.installed }

      still_clients : (count : ℕ) (s : Cores S) → e.told.asked.items ≡ c.told.asked.items → AreClients count s c.told.asked.items (answers_told c.told) → AreClients count s e.told.asked.items (answers_told e.told)
      still_clients count s asked k = subst (λ noted. AreClients count s noted (answers_told e.told)) (sym asked) (subst (AreClients count s c.told.asked.items) (sym quiet.answers) k)

      -- the model's cluster stays as it is
      as_it_is : IsServer app codec c.given own n → IsCluster app codec (cluster_packed app model) e
      as_it_is stands = changed model (λ x d. refl) stands still_sent still_told

      -- nothing happens
      pub rested : e.told.asked.items ≡ c.told.asked.items → n ≡ m → Follows app codec e
      rested asked rests =
          follows_now f.actions f.placed f.cores f.beside (as_it_is (subst (IsServer app codec c.given own) (sym rests) stood))
          (subst (AllByRecursion (λ x. f.cores.cores x.id ≡ x.core)) (sym items)
          (set_all (λ x. f.cores.cores x.id ≡ x.core) (λ x. f.cores.cores x.id ≡ x.core) m.id (λ x d is. is) c.machines.items place n m at once
          (subst (λ (x : Machine S). f.cores.cores x.id ≡ x.core) (sym rests) runs) f.running))
          (quiet.frames ∙ f.frames) (still_clients (length f.actions) f.cores asked f.clients)

      -- the server stops
      pub ended : e.told.asked.items ≡ c.told.asked.items → (out : List (Output S)) → Stops m out n → Follows app codec e
      ended asked out stop =
          follows_now f.actions f.placed (after_end m.id None (length f.actions) f.cores) ((stay_beside app codec inverse).stops c.given f.actions f.placed f.cores f.beside m.id)
          (as_it_is (is_stopped app codec c.given own m stood out n stop))
          (running None (sym stop.closed)) (quiet.frames ∙ f.frames)
          (still_clients (length f.actions) (after_end m.id None (length f.actions) f.cores) asked
          (clients_end (length f.actions) f.cores c.told.asked.items (answers_told c.told) f.clients m.id None (length f.actions) (omega arith)))

      -- a request is taken
      pub admitted : (token : Token) (operation : Operation) (noted : e.told.asked.items ≡ c.told.asked.items ++ record { node = m.id; token = token; operation = operation; after = length c.told.answered.items } ∷ [])
          → ByRequest token operation m n → Follows app codec e
      admitted token operation noted r =
          let s : Cores S = after_request m.id token operation r.next (length f.actions) f.cores in
          follows_now f.actions f.placed s
          ((stay_beside app codec inverse).requests c.given f.actions f.placed f.cores f.beside m.id r.core r.next token operation (runs ∙ r.is_open) r.admits)
          (as_it_is (subst (IsServer app codec c.given own) (sym r.becomes)
          (idle app codec c.given own m stood r.core r.next r.is_open (ap (λ (v : CoreView S). v.server) r.admits) (ap (λ (v : CoreView S). v.id) r.admits))))
          (running (Some r.next) (sym (ap (λ (x : Machine S). x.core) r.becomes))) (quiet.frames ∙ f.frames)
          (subst (λ rows. AreClients (length f.actions) s rows (answers_told e.told)) (sym noted)
          (subst (AreClients (length f.actions) s (c.told.asked.items ++ record { node = m.id; token = token; operation = operation; after = length c.told.answered.items } ∷ [])) (sym quiet.answers)
          (clients_request (length f.actions) f.cores c.told.asked.items (answers_told c.told) f.clients m.id token operation r.next (length c.told.answered.items)
          (sym (length-map c.told.answered.items (λ (x : Answered). (x.node, x.reply)))))))

      -- a read that needs no entry is
      pub read_admitted : (token : Token) (noted : e.told.asked.items ≡ c.told.asked.items ++ record { node = m.id; token = token; operation = Read; after = length c.told.answered.items } ∷ [])
          → ByRead token m n → Follows app codec e
      read_admitted token noted r =
          let s : Cores S = after_read m.id token r.next (length f.actions) f.cores in
          follows_now f.actions f.placed s
          ((stay_beside app codec inverse).rule_reads c.given f.actions f.placed f.cores f.beside m.id r.core r.next token (runs ∙ r.is_open) r.admits)
          (as_it_is (subst (IsServer app codec c.given own) (sym r.becomes)
          (idle app codec c.given own m stood r.core r.next r.is_open (ap (λ (v : CoreView S). v.server) r.admits) (ap (λ (v : CoreView S). v.id) r.admits))))
          (running (Some r.next) (sym (ap (λ (x : Machine S). x.core) r.becomes))) (quiet.frames ∙ f.frames)
          (subst (λ rows. AreClients (length f.actions) s rows (answers_told e.told)) (sym noted)
          (subst (AreClients (length f.actions) s (c.told.asked.items ++ record { node = m.id; token = token; operation = Read; after = length c.told.answered.items } ∷ [])) (sym quiet.answers)
          (clients_read (length f.actions) f.cores c.told.asked.items (answers_told c.told) f.clients m.id token r.next (length c.told.answered.items)
          (sym (length-map c.told.answered.items (λ (x : Answered). (x.node, x.reply)))))))

      -- a call that is about the server's log alone
      logged : (next : CoreView S) → n.core ≡ Some next → e.told.asked.items ≡ c.told.asked.items
          → AreBeside app codec c.given f.actions f.placed (record f.cores { cores = with_one m.id (Some next) f.cores.cores })
          → IsServer app codec c.given own n → Follows app codec e
      logged next now asked beside stands =
          let s : Cores S = record f.cores { cores = with_one m.id (Some next) f.cores.cores } in
          follows_now f.actions f.placed s beside (as_it_is stands) (running (Some next) (sym now)) (quiet.frames ∙ f.frames)
          (still_clients (length f.actions) s asked
          (clients_still (length f.actions) f.cores c.told.asked.items (answers_told c.told) (with_one m.id (Some next) f.cores.cores) f.clients))

      -- the server begins a new log
      pub begun_follows : e.told.asked.items ≡ c.told.asked.items → (out : List (Output S)) → ByNewLog codec m out n → Follows app codec e
      begun_follows asked out b =
          logged b.next (ap (λ (x : Machine S). x.core) b.becomes) asked
          ((stay_beside app codec inverse).new_logs (log_on m) b.log c.given f.actions f.placed f.cores f.beside m.id b.core b.next (runs ∙ b.is_open) b.does)
          (begun app codec c.given own m stood out n b checkpoint_same)

      -- it takes the old one's place
      pub over_follows : e.told.asked.items ≡ c.told.asked.items → (out : List (Output S)) → ByTakeOver m out n → Follows app codec e
      over_follows asked out b =
          logged b.next b.now asked
          ((stay_beside app codec inverse).take_overs (Some b.end) c.given f.actions f.placed f.cores f.beside m.id b.core b.next (runs ∙ b.is_open) b.does)
          (taken_over app codec c.given own m stood out n b)

      -- or it is given up
      pub given_up_follows : e.told.asked.items ≡ c.told.asked.items → (out : List (Output S)) → ByCore GivesUp m out n → Follows app codec e
      given_up_follows asked out b =
          logged b.next (ap (λ (x : Machine S). x.core) b.becomes) asked
          ((stay_beside app codec inverse).given_up c.given f.actions f.placed f.cores f.beside m.id b.core b.next (runs ∙ b.is_open) b.does.1)
          (subst (IsServer app codec c.given own) (sym b.becomes) (given_up app codec c.given own m stood b.core b.next b.is_open b.does.1))

      -- the server starts, on what a crash left of its disk
      pub started : e.told.asked.items ≡ c.told.asked.items → ByStart app codec c.given m n → Follows app codec e
      started asked start =
          let o = start.opened in
          let has : PackedServer S = record own { disk = stood.disk } in
          let crash : OpensCrashed app codec c.given (log_on m) stood.has.k 0 has m.disk.items (record { server = o.core.server; end = o.end }) =
          reads app codec c.given has m stood.has inverse (record { server = o.core.server; end = o.end }) start.begins.opens in
          let took : List Action = servers.Crashes m.id crash.survive 0 ∷ [] in
          let t : Server = crashed c.given m.id crash.survive 0 (model.servers m.id) in
          let s : Cores S = after_end m.id (Some o.core) (length f.actions + 1) f.cores in
          follows_now (f.actions ++ took) f.placed s
          ((stay_beside app codec inverse).reads c.given f.given f.actions f.placed f.cores f.beside (log_on m) stood.has.k stood.disk m.disk.items o is_member stood.same start.begins crash)
          (subst (λ (x : ModelCluster). IsCluster app codec (cluster_packed app x) e) (sym (after_these took))
          (changed (with_server m.id t model) (λ x d. server_past m.id x t model d)
          (subst (λ y. IsServer app codec c.given y n) (sym (crash_packed app c.given f.given m.id is_member f.actions f.beside.may crash.survive 0) ∙ sym (ap (server_packed app) (server_in m.id t model)))
          (opened app codec c.given own m stood o n start.was_closed crash (alone_by o.core.server.serving _ _ start.begins.opens.tail) start.begins.is_given start.begins.node start.id start.now start.written start.disk))
          still_sent still_told))
          (running (Some o.core) (sym start.now)) (quiet.frames ∙ f.frames)
          (still_clients (length (f.actions ++ took)) s asked
          (subst (λ count. AreClients count s c.told.asked.items (answers_told c.told)) (sym (length-append f.actions took))
          (clients_end (length f.actions) f.cores c.told.asked.items (answers_told c.told) f.clients m.id (Some o.core) (length f.actions + 1) (omega arith))))

    -- what leaves a server leaves the others' clients alone
    told_clients : (said out : List (Output S)) (new : CoreView S) (took : List Action) → StayBy app codec c.given f.actions f.placed f.cores m.id said new took → answers_in out ≡ replies_of said ++ read_replies_of said
        → Leaves m.id out c.network c.told e.network e.told
        → AreClients (length (f.actions ++ took)) (after_call m.id said new (length (f.actions ++ took)) f.cores) e.told.asked.items (answers_told e.told)
    told_clients said out new took b rs leaves =
        let count = length (f.actions ++ took) in
        subst (λ rows. AreClients count (after_call m.id said new count f.cores) rows (answers_told e.told)) (sym leaves.asked)
        (subst (AreClients count (after_call m.id said new count f.cores) c.told.asked.items) (sym (leaves.answers ∙ ap (λ ys. answers_told c.told ++ answers_of m.id ys) rs))
        (clients_call (length f.actions) f.cores c.told.asked.items (answers_told c.told) f.clients m.id said new count (longer took) b.first b.first_reads))

    sent_more : (said out : List (Output S)) (new : CoreView S) (count : ℕ) → frames_in out ≡ frames_in said → Leaves m.id out c.network c.told e.network e.told
        → frames_of e.network ≡ (after_call m.id said new count f.cores).sent
    sent_more said out new count fs leaves = leaves.frames ∙ (λ i. f.frames i ++ fs i)

    -- the server takes steps
    pub stepped : (taken : List (PackedStep S)) (said out : List (Output S)) (new : CoreView S)
        → StayBySteps app codec c.given f.actions f.placed f.cores m.id said new taken → IsServer app codec c.given (with_steps app c.given taken own) n
        → n.core ≡ Some new → answers_in out ≡ replies_of said ++ read_replies_of said → frames_in out ≡ frames_in said → AreQuiet codec out
        → Leaves m.id out c.network c.told e.network e.told → Follows app codec e
    stepped taken said out new (steps, are, b) stands now rs fs quiet leaves =
        let took : List Action = taking m.id steps in
        let next : ModelCluster = after_actions c.given took model in
        let done : AreTaken m.id (after_steps c.given steps (model.servers m.id)) model next = all_taken c.given m.id steps model in
        let takes : server_packed app (after_steps c.given steps (model.servers m.id)) ≡ with_steps app c.given taken own =
        steps_packed app c.given f.given m.id is_member steps f.actions b.beside.may ∙ ap (λ ts. with_steps app c.given ts own) are in
        let bag : map (packed_message app) next.released.bag ≡ map (packed_message app) model.released.bag ++ [] =
        ap (λ (r : Records (List Entry)). map (packed_message app) r.bag) done.released ∙ sym (append_nil (map (packed_message app) model.released.bag)) in
        follows_now (f.actions ++ took) (f.placed ++ b.more) (after_call m.id said new (length (f.actions ++ took)) f.cores) b.beside
        (subst (λ (x : ModelCluster). IsCluster app codec (cluster_packed app x) e) (sym (after_these took))
        (changed next done.others (subst (λ s. IsServer app codec c.given s n) (sym takes ∙ sym (ap (server_packed app) done.own)) stands)
        (subst (λ ms. Carries app codec ms (frames_of e.network)) (sym bag)
        (subst (Carries app codec (map (packed_message app) model.released.bag ++ [])) (sym leaves.frames)
        (carries_more app codec (map (packed_message app) model.released.bag) [] (frames_of c.network) (frames_in out) f.is.sent (carries_quiet app codec out quiet))))
        (subst (λ (r : Records (List Entry)). IsTold (packed_records app r) e.told) (sym done.released) (record {
          executed = leaves.executed
              ∙ (ap (λ es. entries_told c.told ++ es) (quiet_executed codec out quiet) ∙ (append_nil (entries_told c.told) ∙ f.is.told.executed));
          installed = leaves.installed
              ∙ (ap (λ ps. snapshots_told c.told ++ ps) (quiet_installed codec out quiet) ∙ (append_nil (snapshots_told c.told) ∙ f.is.told.installed));
        }))))
        (running (Some new) (sym now)) (sent_more said out new (length (f.actions ++ took)) fs leaves) (told_clients said out new took b rs leaves)

    -- records came on disk: what leaves is what their steps say
    pub flushed : (out : List (Output S)) → ByFlush app codec m out n → Leaves m.id out c.network c.told e.network e.told → Follows app codec e
    flushed out call leaves =
        let r = call.does in
        let k : ℕ = released call.position call.core in
        let took : List Action = flushes m.id k in
        let b = (stay_beside app codec inverse).releases call.position c.given f.given f.actions f.placed f.cores f.beside m.id call.core call.next out (runs ∙ call.is_open) r in
        let has = is_released app codec c.given own m stood out n call in
        let ws = take k (model.servers m.id).waiting in
        let next : ModelCluster = after_actions c.given took model in
        let done : AreFlushed m.id k model next = all_flushed c.given m.id k model in
        let ps : List Proposal = call.core.requests.proposed in
        let qs : List Reply = read_replies (handed_after r.said call.core.executed) (with_left r.said.answers call.core.reads) in
        let says : r.said ≡ said_by (map (waiting_packed app) ws) = has.says ∙ ap said_by (take-map (waiting_packed app) k (model.servers m.id).waiting) in
        let sent : frames_in out ≡ frames_in r.frames =
        ap frames_in r.leaves ∙ frames_said app codec call.core.start r.said r.frames call.core.preparing call.next.preparing call.core.outgoing call.next.outgoing r.sends ps qs in
        let bag : map (packed_message app) next.released.bag ≡ map (packed_message app) model.released.bag ++ r.said.bag =
        ap (λ (q : Records (List Entry)). map (packed_message app) q.bag) done.released ∙ bag_more app ws model.released r.said says in
        follows_now (f.actions ++ took) (f.placed ++ b.more) (after_call m.id out call.next (length (f.actions ++ took)) f.cores) b.beside
        (subst (λ (x : ModelCluster). IsCluster app codec (cluster_packed app x) e) (sym (after_these took))
        (changed next done.others
        (subst (λ s. IsServer app codec c.given s n) (sym (flushes_packed app k (model.servers m.id)) ∙ sym (ap (server_packed app) done.own)) has.stands)
        (subst (λ ms. Carries app codec ms (frames_of e.network)) (sym bag)
        (subst (Carries app codec (map (packed_message app) model.released.bag ++ r.said.bag))
        (sym (leaves.frames ∙ ap (λ fs. frames_of c.network ++ fs) sent))
        (carries_more app codec (map (packed_message app) model.released.bag) r.said.bag (frames_of c.network) (frames_in r.frames) f.is.sent
        (carries_said app codec call.core.start call.core.preparing call.next.preparing call.core.outgoing call.next.outgoing r.said.bag r.frames r.sends))))
        (subst (λ (q : Records (List Entry)). IsTold (packed_records app q) e.told) (sym done.released) (record {
          executed = leaves.executed
              ∙ ((λ i. f.is.told.executed i ++ (ap executed_in r.leaves ∙ executed_said app codec call.core.start r.said r.frames
              call.core.preparing call.next.preparing call.core.outgoing call.next.outgoing r.sends ps qs) i)
              ∙ executed_more app ws model.released r.said says);
          installed = leaves.installed
              ∙ ((λ i. f.is.told.installed i ++ (ap installed_in r.leaves ∙ installed_said app codec call.core.start r.said r.frames
              call.core.preparing call.next.preparing call.core.outgoing call.next.outgoing r.sends ps qs) i)
              ∙ installed_more app ws model.released r.said says);
        }))))
        (running (Some call.next) (sym call.now)) (sent_more out out call.next (length (f.actions ++ took)) refl leaves)
        (told_clients out out call.next took b (order_released app codec call.core call.next out call.position r) leaves)

    -- a call of a server: it rests, stops, or does this
    pub called : (Does : Machine S → List (Output S) → Machine S → Type 0) (out : List (Output S)) → Leaves m.id out c.network c.told e.network e.told → (Does m out n → Follows app codec e) → Calls Does m out n → Follows app codec e
    called Does out leaves does (inl rests) = rested (leaves_nothing c e m.id out rests.0 leaves) leaves.asked rests.1
    called Does out leaves does (inr (inl stop)) = ended (leaves_nothing c e m.id out stop.none leaves) leaves.asked out stop
    called Does out leaves does (inr (inr done)) = does done

    pub initialized_follows : (out : List (Output S)) → Leaves m.id out c.network c.told e.network e.told → ByCore (Initializes app) m out n → Follows app codec e
    initialized_follows out leaves b =
        stepped (initialized app b.core) out out b.next ((stay_beside app codec inverse).initializes c.given f.given f.actions f.placed f.cores f.beside m.id b.core b.next out (runs ∙ b.is_open) b.does)
        (subst (IsServer app codec c.given (with_steps app c.given (initialized app b.core) own)) (sym b.becomes) (is_initialized app codec c.given own m stood b.core b.next b.is_open out b.does))
        (ap (λ (x : Machine S). x.core) b.becomes) (order_initialized app codec b.core b.next out b.does) refl (subst (AreQuiet codec) (sym b.does.0) tt) leaves

    pub ticked_follows : (out : List (Output S)) → Leaves m.id out c.network c.told e.network e.told → ByCore (Ticks app) m out n → Follows app codec e
    ticked_follows out leaves b =
        stepped (ticked app b.core out b.next b.does) out out b.next ((stay_beside app codec inverse).ticks c.given f.given f.actions f.placed f.cores f.beside m.id b.core b.next out (runs ∙ b.is_open) b.does)
        (subst (IsServer app codec c.given (with_steps app c.given (ticked app b.core out b.next b.does) own)) (sym b.becomes) (is_ticked app codec c.given own m stood b.core b.next b.is_open out b.does))
        (ap (λ (x : Machine S). x.core) b.becomes) (order_ticked app codec b.core b.next out b.does) refl (quiet_ticked app codec b.core b.next out b.does) leaves

    pub received_follows : (bytes : List ℕ) (out : List (Output S)) → Contains (frames_of c.network) bytes ⊎ (slice_get bytes 0 ≢ Some 0) → Leaves m.id out c.network c.told e.network e.told
        → ByCore (Receives app codec bytes) m out n → Follows app codec e
    received_follows bytes out from leaves b =
        let sent : Contains f.cores.sent bytes ⊎ (slice_get bytes 0 ≢ Some 0) = subst (λ fs. Contains fs bytes ⊎ (slice_get bytes 0 ≢ Some 0)) f.frames from in
        stepped (received app b.core out b.next codec bytes b.does) out out b.next ((stay_beside app codec inverse).receives c.given f.given f.actions f.placed f.cores f.beside m.id b.core b.next out bytes (runs ∙ b.is_open) sent b.does)
        (subst (IsServer app codec c.given (with_steps app c.given (received app b.core out b.next codec bytes b.does) own)) (sym b.becomes) (is_received app codec c.given own m stood b.core b.next b.is_open bytes out b.does))
        (ap (λ (x : Machine S). x.core) b.becomes) (order_received app codec b.core b.next out bytes b.does) refl (quiet_received app codec b.core b.next out bytes b.does) leaves

    pub written_follows : (out : List (Output S)) → Leaves m.id out c.network c.told e.network e.told → ByWrite app codec m out n → Follows app codec e
    written_follows out leaves b =
        stepped (written app codec b.core b.said b.next b.does) b.said out b.next ((stay_beside app codec inverse).writes c.given f.given f.actions f.placed f.cores f.beside m.id b.core b.next b.said (runs ∙ b.is_open) b.does)
        (subst (IsServer app codec c.given (with_steps app c.given (written app codec b.core b.said b.next b.does) own)) (sym b.becomes) (is_written app codec c.given own m stood b.core b.next b.said b.is_open b.does))
        (ap (λ (x : Machine S). x.core) b.becomes ∙ handed_core (handed_in b.said))
        (ap answers_in b.leaves ∙ (answers_others b.said ∙ order_written app codec b.core b.next b.said b.does)) (ap frames_in b.leaves ∙ frames_others b.said)
        (subst (AreQuiet codec) (sym b.leaves) (quiet_written app codec b.core b.next b.said b.does)) leaves
      where
        handed_core : (h : Option Handed) → (with_handed h (record m { core = Some b.next })).core ≡ Some b.next
        handed_core None = refl
        handed_core (Some h) = refl

  module _ (c e : Cluster S) (id place : ℕ) (m n : Machine S) (found : place_of c.machines.items id ≡ Some place) (was : m ≡ get_or c.machines.items place m)
      (same : e.given ≡ c.given) (items : e.machines.items ≡ set c.machines.items place n) (same_id : n.id ≡ m.id) (h : Holds app codec c) where
    abbrev es : List Entry
    es = entries_told e.told

    -- the machine's id is that of the call
    m_is : m.id ≡ id
    m_is = ap (λ (x : Machine S). x.id) was ∙ id_there id c.machines.items place m (place_is id c.machines.items place m found)

    leaves_at : (out : List (Output S)) → Leaves id out c.network c.told e.network e.told → Leaves m.id out c.network c.told e.network e.told
    leaves_at out leaves = subst (λ i. Leaves i out c.network c.told e.network e.told) (sym m_is) leaves

    -- what leaves keeps what was acknowledged
    kept_now : (out : List (Output S)) → Leaves id out c.network c.told e.network e.told → AllByRecursion (IsKept es) (answers_in out) → KeepsAcknowledged e.told
    kept_now out leaves now = keeps out c.told e.told leaves.executed (replies_told_more c.told e.told id (answers_in out) leaves.answers) now h.keeps

    -- Up to which index entries were handed out

    module _ (more : List Entry) (entries : entries_told e.told ≡ entries_told c.told ++ more) where
      handed_later : (x : Machine S) → HasHanded (entries_told c.told) x → HasHanded es x
      handed_later x k = subst (λ xs. HasHanded xs x) (sym entries) (handed_on (entries_told c.told) more x k)

      all_handed : HasHanded es n → AreHanded es e.machines.items
      all_handed own =
          subst (AreHanded es) (sym items) (set_any (HasHanded es) c.machines.items place n own (all_map (HasHanded (entries_told c.told)) (HasHanded es) handed_later c.machines.items h.handed))

      m_handed : HasHanded es m
      m_handed = handed_later m (own_handed app codec c id place m n found was h)

      -- of the core that runs there
      core_handed : (core : CoreView S) → m.core ≡ Some core → IfSome core.executed (λ index. HasEntryAt index es)
      core_handed core is_open = subst (λ (o : Option (CoreView S)). IfSome o (λ v. IfSome v.executed (λ index. HasEntryAt index es))) is_open m_handed

      -- and of the next one, if that has handed out no more
      next_handed : (core next : CoreView S) → m.core ≡ Some core → n.core ≡ Some next → next.executed ≡ core.executed → HasHanded es n
      next_handed core next is_open now executed =
          subst (λ (o : Option (CoreView S)). IfSome o (λ v. IfSome v.executed (λ index. HasEntryAt index es))) (sym now)
          (subst (λ (o : Option ℕ). IfSome o (λ index. HasEntryAt index es)) (sym executed) (core_handed core is_open))

      call_handed : (Does : Machine S → List (Output S) → Machine S → Type 0) (out : List (Output S)) → (Does m out n → HasHanded es n) → Calls Does m out n → HasHanded es n
      call_handed Does out done (inl rests) = subst (HasHanded es) (sym rests.1) m_handed
      call_handed Does out done (inr (inl stop)) = no_core_handed es n stop.closed
      call_handed Does out done (inr (inr does)) = done does

    -- nothing is told of as executed
    none_more : entries_told e.told ≡ entries_told c.told → entries_told e.told ≡ entries_told c.told ++ []
    none_more entries = entries ∙ sym (append_nil (entries_told c.told))

    nothing_left : (out : List (Output S)) → out ≡ [] → AllByRecursion (IsKept es) (answers_in out)
    nothing_left out none = subst (λ o. AllByRecursion (IsKept es) (answers_in o)) (sym none) tt

    -- a call of which nothing leaves that acknowledges a request
    quiet_call : (Does : Machine S → List (Output S) → Machine S → Type 0) (out : List (Output S)) → (Does m out n → AreQuiet codec out) → (Does m out n → AllByRecursion (IsKept es) (read_replies_of out)) → Calls Does m out n
        → AllByRecursion (IsKept es) (answers_in out)
    quiet_call Does out quiet reads (inl rests) = nothing_left out rests.0
    quiet_call Does out quiet reads (inr (inl stop)) = nothing_left out stop.none
    quiet_call Does out quiet reads (inr (inr done)) = quiet_kept codec es out (quiet done) (reads done)

    quiet_holds : (Does : Machine S → List (Output S) → Machine S → Type 0) (out : List (Output S)) → e.damaged ≡ c.damaged → (Does m out n → AreQuiet codec out) → (Does m out n → AllByRecursion (IsKept es) (read_replies_of out))
        → (Does m out n → HasHanded es n) → ((f : Follows app codec c) → Leaves m.id out c.network c.told e.network e.told → Does m out n → Follows app codec e)
        → Calls Does m out n → Leaves id out c.network c.told e.network e.told → Holds app codec e
    quiet_holds Does out undamaged quiet reads own follows call leaves =
        holds_by app codec e
        (λ none.
        let f = h.follows (sym undamaged ∙ none) in
        called c e id place m n found was same items same_id f Does out (leaves_at out leaves) (follows f (leaves_at out leaves)) call)
        (kept_now out leaves (quiet_call Does out quiet reads call))
        (all_handed (executed_in out) leaves.executed (call_handed (executed_in out) leaves.executed Does out own call))

    pub initialize_holds : e.damaged ≡ c.damaged → e.network ≡ c.network → e.told ≡ c.told → Calls (ByCore (Initializes app)) m [] n → Holds app codec e
    initialize_holds undamaged network told call =
        quiet_holds (ByCore (Initializes app)) [] undamaged (λ b. tt) (λ b. tt)
        (λ b. next_handed [] (none_more (ap entries_told told)) b.core b.next b.is_open (ap (λ (x : Machine S). x.core) b.becomes) (same_initialized app codec b.core b.next [] b.does))
        (λ f leaves b. initialized_follows c e id place m n found was same items same_id f [] leaves b) call
        (subst (λ (x : Network). Leaves id [] c.network c.told x e.told) (sym network) (subst (λ (x : Told S). Leaves id [] c.network c.told c.network x) (sym told) (leaves_none id c.network c.told)))

    pub tick_holds : (out : List (Output S)) → e.damaged ≡ c.damaged → Calls (ByCore (Ticks app)) m out n → Leaves id out c.network c.told e.network e.told → Holds app codec e
    tick_holds out undamaged call leaves =
        quiet_holds (ByCore (Ticks app)) out undamaged (λ b. quiet_ticked app codec b.core b.next out b.does) (λ b. not_ok_kept es (read_replies_of out) ((only_rounds_tell_ok app codec).ticks b.core b.next out b.does))
        (λ b. next_handed (executed_in out) leaves.executed b.core b.next b.is_open (ap (λ (x : Machine S). x.core) b.becomes) (same_ticked app codec b.core b.next out b.does))
        (λ f leaves b. ticked_follows c e id place m n found was same items same_id f out leaves b) call leaves

    pub write_holds : (out : List (Output S)) → e.damaged ≡ c.damaged → Calls (ByWrite app codec) m out n → Leaves id out c.network c.told e.network e.told → Holds app codec e
    write_holds out undamaged call leaves =
        quiet_holds (ByWrite app codec) out undamaged (λ b. subst (AreQuiet codec) (sym b.leaves) (quiet_written app codec b.core b.next b.said b.does))
        (λ b. subst (AllByRecursion (IsKept es)) (sym (ap read_replies_of b.leaves ∙ reads_others b.said)) (not_ok_kept es (read_replies_of b.said) ((only_rounds_tell_ok app codec).writes b.core b.next b.said b.does)))
        (λ b.
        next_handed (executed_in out) leaves.executed b.core b.next b.is_open (ap (λ (x : Machine S). x.core) b.becomes ∙ handed_core (handed_in b.said) b.next) (same_written app codec b.core b.next b.said b.does))
        (λ f leaves b. written_follows c e id place m n found was same items same_id f out leaves b) call leaves
      where
        handed_core : (o : Option Handed) (next : CoreView S) → (with_handed o (record m { core = Some next })).core ≡ Some next
        handed_core None next = refl
        handed_core (Some x) next = refl

    -- a frame is taken
    module _ (out : List (Output S)) (bytes : List ℕ) (leaves : Leaves id out c.network c.told e.network e.told) where
      takes_quiet : ByCore (Receives app codec bytes) m out n → AreQuiet codec out
      takes_quiet b = quiet_received app codec b.core b.next out bytes b.does

      takes_reads : ByCore (Receives app codec bytes) m out n → AllByRecursion (IsKept es) (read_replies_of out)
      takes_reads b = received_kept app codec es b.core b.next out bytes (core_handed (executed_in out) leaves.executed b.core b.is_open) b.does

      takes_handed : ByCore (Receives app codec bytes) m out n → HasHanded es n
      takes_handed b = next_handed (executed_in out) leaves.executed b.core b.next b.is_open (ap (λ (x : Machine S). x.core) b.becomes) (same_received app codec b.core b.next out bytes b.does)

    -- on receiving a frame that has left, or no packet
    received_holds : (out : List (Output S)) (bytes : List ℕ) → e.damaged ≡ c.damaged → Contains (frames_of c.network) bytes ⊎ (slice_get bytes 0 ≢ Some 0) → Calls (ByCore (Receives app codec bytes)) m out n
        → Leaves id out c.network c.told e.network e.told → Holds app codec e
    received_holds out bytes undamaged from call leaves =
        quiet_holds (ByCore (Receives app codec bytes)) out undamaged (takes_quiet out bytes leaves) (takes_reads out bytes leaves) (takes_handed out bytes leaves)
        (λ f leaves b. received_follows c e id place m n found was same items same_id f bytes out from leaves b) call leaves

    pub deliver_holds : (out : List (Output S)) (bytes : List ℕ) → e.damaged ≡ c.damaged → IsFrameAt c.network.sent.items bytes → Calls (ByCore (Receives app codec bytes)) m out n
        → Leaves id out c.network c.told e.network e.told → Holds app codec e
    deliver_holds out bytes undamaged at call leaves = received_holds out bytes undamaged (inl (contains_slot (frames_of c.network) at.i bytes at.is)) call leaves

    -- on receiving a stranger's bytes
    pub stranger_holds : (out : List (Output S)) (bytes : List ℕ) (comes : Comes) → e.damaged ≡ (c.damaged || is_forged bytes comes)
        → Calls (ByCore (Receives app codec bytes)) m out n → (is_refused comes ≡ true → Calls Never m out n) → Leaves id out c.network c.told e.network e.told → Holds app codec e
    stranger_holds out bytes comes becomes call refused leaves = go (is_refused comes) (is_packet bytes) refl refl
      where
        still : is_forged bytes comes ≡ false → e.damaged ≡ c.damaged
        still isnt = becomes ∙ (ap (λ b. c.damaged || b) isnt ∙ or_false c.damaged)

        go : (a b : Bool) → is_refused comes ≡ a → is_packet bytes ≡ b → Holds app codec e
        go true b is is_b =
            quiet_holds Never out (still (ap (λ (x : Bool). if x then false else is_packet bytes) is)) (λ none. absurd none) (λ none. absurd none) (λ none. absurd none) (λ f leaves none. absurd none) (refused is) leaves
        go false false is is_b =
            received_holds out bytes (still (ap (λ (x : Bool). if x then false else is_packet bytes) is ∙ is_b)) (inr (no_packet bytes is_b)) call leaves
        go false true is is_b =
            holds_by app codec e
            (λ none.
            absurd (let there : ◌≡◌ {A = Bool} true false =
            sym (becomes ∙ (ap (λ b. c.damaged || b) (ap (λ (x : Bool). if x then false else is_packet bytes) is ∙ is_b) ∙ or_true c.damaged)) ∙ none in cc))
            (kept_now out leaves (quiet_call (ByCore (Receives app codec bytes)) out (takes_quiet out bytes leaves) (takes_reads out bytes leaves) call))
            (all_handed (executed_in out) leaves.executed (call_handed (executed_in out) leaves.executed (ByCore (Receives app codec bytes)) out (takes_handed out bytes leaves) call))

    -- records came on disk
    pub flush_holds : (out : List (Output S)) → e.damaged ≡ c.damaged → Calls (ByFlush app codec) m out n → Leaves id out c.network c.told e.network e.told → Holds app codec e
    flush_holds out undamaged call leaves =
        holds_by app codec e
        (λ none.
        let f = h.follows (sym undamaged ∙ none) in
        called c e id place m n found was same items same_id f (ByFlush app codec) out (leaves_at out leaves) (λ b. flushed c e id place m n found was same items same_id f out b (leaves_at out leaves)) call)
        (kept_now out leaves (go call))
        (all_handed (executed_in out) leaves.executed (call_handed (executed_in out) leaves.executed (ByFlush app codec) out own call))
      where
        next_executed : (b : ByFlush app codec m out n) → IfSome b.next.executed (λ index. HasEntryAt index es)
        next_executed b =
            let said = b.does.said in
            let reads : List Reply = read_replies (handed_after said b.core.executed) (with_left said.answers b.core.reads) in
            let told : executed_in out ≡ map (λ x. x.entry) said.executed = ap executed_in b.does.leaves ∙ executed_said app codec b.core.start said b.does.frames
            b.core.preparing b.next.preparing b.core.outgoing b.next.outgoing b.does.sends b.core.requests.proposed reads in
            let before : IfSome b.core.executed (λ index. HasEntryAt index (entries_told c.told)) =
            subst (λ (o : Option (CoreView S)). IfSome o (λ v. IfSome v.executed (λ index. HasEntryAt index (entries_told c.told)))) b.is_open (own_handed app codec c id place m n found was h) in
            subst (λ (o : Option ℕ). IfSome o (λ index. HasEntryAt index es)) (sym (ap (λ (v : CoreView S). v.executed) b.does.rest))
            (subst (λ xs. IfSome (handed_after said b.core.executed) (λ index. HasEntryAt index xs)) (sym (leaves.executed ∙ ap (λ xs. entries_told c.told ++ xs) told))
            (handed_there (entries_told c.told) said b.core.executed before))

        own : ByFlush app codec m out n → HasHanded es n
        own b = subst (λ (o : Option (CoreView S)). IfSome o (λ v. IfSome v.executed (λ index. HasEntryAt index es))) (sym b.now) (next_executed b)

        go : Calls (ByFlush app codec) m out n → AllByRecursion (IsKept es) (answers_in out)
        go (inl rests) = nothing_left out rests.0
        go (inr (inl stop)) = nothing_left out stop.none
        go (inr (inr b)) =
            let reads : List Reply = read_replies (handed_after b.does.said b.core.executed) (with_left b.does.said.answers b.core.reads) in
            subst (λ xs. AllByRecursion (IsKept xs) (answers_in out)) (sym leaves.executed)
            (answers_kept (entries_told c.told) (executed_in out) out (order_released app codec b.core b.next out b.position b.does)
            (said_kept app codec b.core.start b.core.requests.proposed b.does.said b.does.frames b.core.preparing b.next.preparing b.core.outgoing
            b.next.outgoing b.does.sends reads out b.does.leaves)
            (subst (λ xs. AllByRecursion (IsKept xs) (read_replies_of out)) leaves.executed (released_kept app codec es b.position b.core b.next out b.does (next_executed b))))

    -- nothing leaves

    quiet_now : e.network ≡ c.network → e.told ≡ c.told → IsQuiet c e
    quiet_now network told = record { frames = ap frames_of network; executed = ap entries_told told; installed = ap snapshots_told told; answers = ap answers_told told }

    still_kept : e.told ≡ c.told → KeepsAcknowledged e.told
    still_kept told = subst KeepsAcknowledged (sym told) h.keeps

    -- and nothing new runs
    still_handed : entries_told e.told ≡ entries_told c.told → n ≡ m → AreHanded es e.machines.items
    still_handed entries rests = all_handed [] (none_more entries) (subst (HasHanded es) (sym rests) (m_handed [] (none_more entries)))

    pub rest_holds : e.damaged ≡ c.damaged → e.network ≡ c.network → e.told ≡ c.told → n ≡ m → Holds app codec e
    rest_holds undamaged network told rests =
        holds_by app codec e (λ none. rested c e id place m n found was same items same_id (h.follows (sym undamaged ∙ none)) (quiet_now network told) (ap (λ (t : Told S). t.asked.items) told) rests) (still_kept told)
        (still_handed (ap entries_told told) rests)

    pub crash_holds : e.damaged ≡ c.damaged → e.network ≡ c.network → e.told ≡ c.told → Stops m [] n → Holds app codec e
    crash_holds undamaged network told stop =
        holds_by app codec e (λ none. ended c e id place m n found was same items same_id (h.follows (sym undamaged ∙ none)) (quiet_now network told) (ap (λ (t : Told S). t.asked.items) told) [] stop) (still_kept told)
        (all_handed [] (none_more (ap entries_told told)) (no_core_handed es n stop.closed))

    -- a server begins a new log
    pub checkpoint_holds : e.damaged ≡ c.damaged → e.network ≡ c.network → e.told ≡ c.told → Calls (ByNewLog codec) m [] n → Holds app codec e
    checkpoint_holds undamaged network told call =
        quiet_holds (ByNewLog codec) [] undamaged (λ b. tt) (λ b. tt)
        (λ b. next_handed [] (none_more (ap entries_told told)) b.core b.next b.is_open (ap (λ (x : Machine S). x.core) b.becomes) (ap (λ (v : CoreView S). v.executed) b.does.rest))
        (λ f leaves b. begun_follows c e id place m n found was same items same_id f (quiet_now network told) (ap (λ (t : Told S). t.asked.items) told) [] b) call
        (subst (λ (x : Network). Leaves id [] c.network c.told x e.told) (sym network) (subst (λ (x : Told S). Leaves id [] c.network c.told c.network x) (sym told) (leaves_none id c.network c.told)))

    -- it takes the old one's place
    pub take_over_holds : e.damaged ≡ c.damaged → e.network ≡ c.network → e.told ≡ c.told → Calls ByTakeOver m [] n → Holds app codec e
    take_over_holds undamaged network told call =
        quiet_holds ByTakeOver [] undamaged (λ b. tt) (λ b. tt)
        (λ b. next_handed [] (none_more (ap entries_told told)) b.core b.next b.is_open b.now (ap (λ (v : CoreView S). v.executed) b.does.rest))
        (λ f leaves b. over_follows c e id place m n found was same items same_id f (quiet_now network told) (ap (λ (t : Told S). t.asked.items) told) [] b) call
        (subst (λ (x : Network). Leaves id [] c.network c.told x e.told) (sym network) (subst (λ (x : Told S). Leaves id [] c.network c.told c.network x) (sym told) (leaves_none id c.network c.told)))

    -- or it is given up
    pub give_up_holds : e.damaged ≡ c.damaged → e.network ≡ c.network → e.told ≡ c.told → Calls (ByCore GivesUp) m [] n → Holds app codec e
    give_up_holds undamaged network told call =
        quiet_holds (ByCore GivesUp) [] undamaged (λ b. tt) (λ b. tt)
        (λ b. next_handed [] (none_more (ap entries_told told)) b.core b.next b.is_open (ap (λ (x : Machine S). x.core) b.becomes) (ap (λ (v : CoreView S). v.executed) b.does.1))
        (λ f leaves b. given_up_follows c e id place m n found was same items same_id f (quiet_now network told) (ap (λ (t : Told S). t.asked.items) told) [] b) call
        (subst (λ (x : Network). Leaves id [] c.network c.told x e.told) (sym network) (subst (λ (x : Told S). Leaves id [] c.network c.told c.network x) (sym told) (leaves_none id c.network c.told)))

    -- or it stops while it does
    pub crash_in_checkpoint_holds : e.damaged ≡ c.damaged → e.network ≡ c.network → e.told ≡ c.told → Calls Never m [] n → Holds app codec e
    crash_in_checkpoint_holds undamaged network told (inl rests) = rest_holds undamaged network told rests.1
    crash_in_checkpoint_holds undamaged network told (inr (inl stop)) = crash_holds undamaged network told stop
    crash_in_checkpoint_holds undamaged network told (inr (inr none)) = absurd none

    pub start_holds : (given : Given) (comes : Comes) → e.damaged ≡ c.damaged → e.network ≡ c.network → e.told ≡ c.told → given ≡ c.given → StartsIf app codec (is_opened comes) given m n → Holds app codec e
    start_holds given comes undamaged network told copied call = go (is_opened comes) (subst (λ (g : Given). StartsIf app codec (is_opened comes) g m n) copied call)
      where
        go : (b : Bool) → StartsIf app codec b c.given m n → Holds app codec e
        go true start =
            holds_by app codec e (λ none. started c e id place m n found was same items same_id (h.follows (sym undamaged ∙ none)) (quiet_now network told) (ap (λ (t : Told S). t.asked.items) told) start) (still_kept told)
            (all_handed [] (none_more (ap entries_told told))
            (subst (λ (o : Option (CoreView S)). IfSome o (λ v. IfSome v.executed (λ index. HasEntryAt index es))) (sym start.now)
            (subst (λ (o : Option ℕ). IfSome o (λ index. HasEntryAt index es)) (sym start.begins.executed) tt)))
        go false rests = rest_holds undamaged network told rests

    -- something is noted if it was taken
    module _ (taken : Bool) (token : Token) (operation : Operation) (undamaged : e.damaged ≡ c.damaged) (network : e.network ≡ c.network) (notes : Notes taken id token operation c.told e.told) where
      quiet_noted : IsQuiet c e
      quiet_noted = record { frames = ap frames_of network; executed = ap entries_told notes.rest; installed = ap snapshots_told notes.rest; answers = ap answers_told notes.rest }

      kept_noted : KeepsAcknowledged e.told
      kept_noted = kept_still c e (ap entries_told notes.rest) (ap answers_told notes.rest) h.keeps

      same_entries : entries_told e.told ≡ entries_told c.told
      same_entries = ap entries_told notes.rest

      not_taken : e.told.asked.items ≡ c.told.asked.items → n ≡ m → Holds app codec e
      not_taken row rests = holds_by app codec e (λ none. rested c e id place m n found was same items same_id (h.follows (sym undamaged ∙ none)) quiet_noted row rests) kept_noted (still_handed same_entries rests)

      was_taken : (core next : CoreView S) → m.core ≡ Some core → n ≡ record m { core = Some next } → next.executed ≡ core.executed → (Follows app codec c → Follows app codec e) → Holds app codec e
      was_taken core next is_open becomes executed follows =
          holds_by app codec e (λ none. follows (h.follows (sym undamaged ∙ none))) kept_noted
          (all_handed [] (none_more same_entries) (next_handed [] (none_more same_entries) core next is_open (ap (λ (x : Machine S). x.core) becomes) executed))

    pub request_holds : (token : Token) (operation noted : Operation) (comes : Comes) → e.damaged ≡ c.damaged → e.network ≡ c.network → noted ≡ operation → Notes (is_done comes) id token noted c.told e.told
        → RequestsIf (is_done comes) token operation m n → Holds app codec e
    request_holds token operation noted comes undamaged network copied notes call =
        go (is_done comes) notes call
      where
        go : (b : Bool) → Notes b id token noted c.told e.told → RequestsIf b token operation m n → Holds app codec e
        go true notes r =
            was_taken true token noted undamaged network notes r.core r.next r.is_open r.becomes (ap (λ (v : CoreView S). v.executed) r.admits)
            (λ f.
            admitted c e id place m n found was same items same_id f (quiet_noted true token noted undamaged network notes) token operation
            (notes.asked ∙ (λ i. c.told.asked.items ++ record { node = sym m_is i; token = token; operation = copied i; after = length c.told.answered.items } ∷ [])) r)
        go false notes rests = not_taken false token noted undamaged network notes notes.asked rests

    pub read_holds : (token : Token) (comes : Comes) → e.damaged ≡ c.damaged → e.network ≡ c.network → Notes (is_done comes) id token Read c.told e.told → ReadsIf (is_done comes) token m n → Holds app codec e
    read_holds token comes undamaged network notes call =
        go (is_done comes) notes call
      where
        go : (b : Bool) → Notes b id token Read c.told e.told → ReadsIf b token m n → Holds app codec e
        go true notes r =
            was_taken true token Read undamaged network notes r.core r.next r.is_open r.becomes (ap (λ (v : CoreView S). v.executed) r.admits)
            (λ f.
            read_admitted c e id place m n found was same items same_id f (quiet_noted true token Read undamaged network notes) token
            (notes.asked ∙ (λ i. c.told.asked.items ++ record { node = sym m_is i; token = token; operation = Read; after = length c.told.answered.items } ∷ [])) r)
        go false notes rests = not_taken false token Read undamaged network notes notes.asked rests
