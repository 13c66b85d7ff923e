-- Messages that have left servers are recorded in a world, and an ideal world has its snapshots.
use Rattle.std.proofs.Common.{ℕ, ◌≡◌, ◌∙◌, inl, inr, List, [], ◌∷◌, length, map, arith, refl, sym, ap}
use Rattle.std.specs.Prelude.{◌⊎◌, Contains}
use Rattle.std.proofs.lemmas.List.{length-map}
use Rattle.proof_deeds.specs.raft_schedule.declared.event.Event.{Event}
use Rattle.proof_deeds.specs.raft_store.declared.entry.Entry.{Entry}
use Rattle.proof_deeds.specs.raft_calls.declared.message.Body.{Body}
use Rattle.proof_deeds.specs.raft_calls.declared.message.Body.TheVariants.{AppendReply, AppendRequest, SnapshotReply, SnapshotRequest, VoteReply, VoteRequest}
use Rattle.proof_deeds.specs.raft_calls.declared.message.Message.{Message}
use Rattle.proof_deeds.specs.raft_node.declared.given.Given.{Given}
use Rattle.proof_deeds.specs.raft_node.Runs.{world_after}
use Rattle.proof_deeds.specs.raft_node.WellFormed.{IsWellFormed}
use Rattle.proof_deeds.specs.proof_agreement.Machine.{Includes, Setup}
use Rattle.proof_deeds.specs.proof_agreement.Machine as machine
use Rattle.proof_deeds.specs.proof_agreement.Stores as stores
use Rattle.proof_deeds.specs.Chains.{Reached}
use Rattle.proof_deeds.specs.Follows.{BodyIs, MessageIs}
use Rattle.proof_deeds.specs.Images.{Ideal, IdealEntry, images, setup_of}
use Rattle.proof_deeds.proofs.Promised.{one_of}
use Rattle.proof_deeds.proofs.Proved.{followed}
use Rattle.proof_deeds.proofs.Worlds.{stores_follow}
use Rattle.proof_servers.specs.Follows.{Follows}
use Rattle.proof_servers.specs.Servers.{after_actions, new_cluster}
use Rattle.proof_servers.proofs.Follow.{servers_follow}
use Rattle.proof_snapshots.specs.Laws.{SnapshotsAgree, entries_in}
use Rattle.proof_snapshots.proofs.Sent.{snapshots_same}

-- the entries of an image
payloads : (es : List Entry) → map (λ (e : IdealEntry). e.payload) (images es) ≡ es
payloads [] = refl
payloads (e ∷ es) = ap (λ xs. e ∷ xs) (payloads es)

empty : (es : List Entry) → length es ≡ 0 → es ≡ []
empty [] e = refl
empty (x ∷ es) e = absurd (omega (arith, e))

-- they were sent as a snapshot, or are none
abbrev IsSnapshot : Ideal → List Entry → Type 0
IsSnapshot W es = (es ≡ []) ⊎ ((q : stores.Session) × Includes W.messages (stores.SnapshotRequest q (images es)))

module _ (s : Setup Entry) (W : Ideal) where
  snapshot_in : (from to : ℕ) (b : Body) → BodyIs s from to b W → IsSnapshot W (entries_in b)
  snapshot_in from to (VoteRequest r) h = inl refl
  snapshot_in from to (VoteReply r) h = inl refl
  snapshot_in from to (AppendRequest o prev entries commit) h = inl refl
  snapshot_in from to (AppendReply o reply prev upto) h = inl refl
  snapshot_in from to (SnapshotRequest o snapshot) h = inr (h.session, h.sent)
  snapshot_in from to (SnapshotReply o reply upto) h = inl refl

  same : Reached s W → (es fs : List Entry) → IsSnapshot W es → IsSnapshot W fs → length es ≡ length fs → es ≡ fs
  same reached es fs (inl none) k e = none ∙ sym (empty fs (sym e ∙ ap length none))
  same reached es fs (inr h) (inl none) e = empty es (e ∙ ap length none) ∙ sym none
  same reached es fs (inr h) (inr k) e =
      sym (payloads es)
      ∙ (ap (map (λ (x : IdealEntry). x.payload))
      (snapshots_same s (machine.start s) W (stores_follow s W reached) h.0 k.0 (images es) (images fs) h.1 k.1
      (length-map es _ ∙ (e ∙ sym (length-map fs _))))
      ∙ payloads fs)

-- of a world
in_world : (given : Given) (wf : IsWellFormed given) (es : List Event) (m n : Message) → Contains (world_after given es).records.bag m
    → Contains (world_after given es).records.bag n → length (entries_in m.body) ≡ length (entries_in n.body) → entries_in m.body ≡ entries_in n.body
in_world given wf es m n h k e =
    let s = setup_of given.membership in
    let f = followed given wf es in
    let bag = (world_after given es).records.bag in
    same s f.world f.follows.reached (entries_in m.body) (entries_in n.body)
    (snapshot_in s f.world m.from m.to m.body (one_of (MessageIs s f.world) bag m f.follows.records.bag h))
    (snapshot_in s f.world n.from n.to n.body (one_of (MessageIs s f.world) bag n f.follows.records.bag k)) e

pub agreed : SnapshotsAgree
agreed given wf actions may m n h k e =
    let f : (es : List Event) × Follows given es (after_actions given actions (new_cluster given)) = servers_follow given actions may in
    in_world given wf f.0 m n (f.1.released.bag m h) (f.1.released.bag n k) e
