-- A snapshot that was built becomes the store's.
use Rattle.std.proofs.Common.{ℕ, ◌-◌, ◌<◌, ◌≤◌, ◌≡◌, ◌⊎◌, List, [], ◌∷◌, length, take, drop, arith, refl, sym, ap, ap₂, ◌∙◌, subst, Option, None, Some}
use Rattle.std.proofs.lemmas.List.{length-map, take-map, get_or-take}
use Rattle.raft_node.specs.raft_state.declared.ids.LogId.{LogId}
use Rattle.raft_node.specs.raft_state.declared.membership.SnapshotMeta.{SnapshotMeta}
use Rattle.raft_node.specs.raft_state.Order.{next}
use Rattle.proof_agreement.specs.Machine.{Setup}
use Rattle.proof_agreement.specs.Machine as machine
use Rattle.proof_agreement.specs.Stores.{whole, entry_at, first_entry}
use Rattle.proof_agreement.specs.Deeds.{BuildSnapshot, DropNote, put}
use Rattle.proof_agreement.proofs.StoresBridge.{front_low}
use Rattle.proof_agreement.proofs.WholeLogs.{whole_snapshot, get_left}
use Rattle.raft_node.specs.raft_store.declared.entry.Entry.{Entry}
use Rattle.raft_node.specs.raft_store.Entries.{entry_meaning}
use Rattle.raft_node.specs.raft_store.Store as store
use Rattle.raft_node.specs.raft_store.Types.{WorldStore}
use Rattle.proof_mirror.specs.Ready.{Shaped}
use Rattle.proof_deeds.specs.Chains.{Reached}
use Rattle.proof_deeds.specs.Follows.{FrontIs, StoreIs}
use Rattle.proof_deeds.specs.Images.{Ideal, IdealStore, IdealEntry, IsWellFormedEntry, EntriesFit, image, images}
use Rattle.proof_deeds.proofs.Keeps.{Keeps}
use Rattle.proof_deeds.proofs.Overlap.{noted_begins}
use Rattle.proof_deeds.proofs.Restarts.{DoesAs}
use Rattle.proof_deeds.proofs.Stored.{each_take}
use Rattle.proof_deeds.proofs.Tails.{whole_is, whole_fit, images_same}
use Rattle.proof_deeds.proofs.Worlds.{at_put, stores_follow}

module _ (s : Setup Entry) (n : ℕ) (u : WorldStore) (W : Ideal) (h : StoreIs s u (W.store n)) (z : Shaped entry_meaning u) (reached : Reached s W) (es : List Entry) (noted : (W.store n).noted ≡ images es) where
  pub noted_length : length (W.store n).noted ≡ length es
  noted_length = ap (λ xs. length xs) noted ∙ length-map es image

  begins : take (length (W.store n).noted) (whole (W.store n)) ≡ (W.store n).noted
  begins = noted_begins s (machine.start s) W (stores_follow s W reached) n

  -- what was noted begins the whole log
  pub built_begins : es ≡ take (length es) (store.whole u)
  built_begins =
      images_same es (take (length es) (store.whole u))
      (sym noted ∙ (sym begins ∙ (ap₂ take noted_length (whole_is s u (W.store n) h z) ∙ take-map image (length es) (store.whole u))))

  -- the front's entry is that of the noted list too
  front_on : (o : Option (LogId ℕ)) → length (W.store n).snapshot ≤ length (W.store n).noted → next o ≤ length (W.store n).snapshot → FrontIs s o (W.store n).snapshot → FrontIs s o (W.store n).noted
  front_on None g l k = tt
  front_on (Some x) g l k = (
    k.0,
    ap (λ xs. (entry_at s xs x.index).leader) (sym begins)
        ∙ (ap (λ (y : IdealEntry). y.leader) (get_or-take (length (W.store n).noted) (whole (W.store n)) x.index (first_entry s) (omega (arith, g, l))
        ∙ get_left s (W.store n).snapshot (drop (length (W.store n).snapshot - (W.store n).front) (W.store n).entries) x.index (omega (arith, l))) ∙ k.1),
  )

  -- a world that comes of this one by deeds of the node, whose store there holds what it held
  pub record Ended (v : WorldStore) : Type 0 where
    pub world : Ideal
    pub did : DoesAs s n W world
    pub store : StoreIs s v (world.store n)
    pub keeps : Keeps s (W.store n) (world.store n)
    pub session : (world.store n).session ≡ (W.store n).session

  -- no shorter than the snapshot, it becomes the store's
  pub built_followed : (meta : SnapshotMeta ℕ (Unit {0})) → length u.snap ≤ length es → Ended (record u { meta = meta; snap = es })
  built_followed meta l =
      let S : IdealStore = record (W.store n) { snapshot = (W.store n).noted; noted = [] } in
      let m : length (W.store n).snapshot ≡ length u.snap = ap (λ xs. length xs) h.snapshot ∙ length-map u.snap image in
      let low : (W.store n).front ≤ length (W.store n).snapshot = front_low s (machine.start s) W (stores_follow s W reached) n in
      let g : length (W.store n).snapshot ≤ length (W.store n).noted = omega (arith, m, noted_length, l) in
      let w : whole S ≡ whole (W.store n) = whole_snapshot (W.store n) low (W.store n).noted g begins in
      record {
        world = put W n S;
        did = record { deeds = BuildSnapshot n ∷ []; by = (refl, tt); allowed = (g, tt); claimed = (tt, tt); result = refl; quiet = record { messages = refl; decided = refl } };
        store = subst (StoreIs s (record u { meta = meta; snap = es })) (sym (at_put W n S)) (record {
          vote = h.vote;
          vote_committed = h.vote_committed;
          front = h.front;
          entries = h.entries;
          snapshot = noted;
          saved = h.saved;
          saved_leader = h.saved_leader;
          applied = h.applied;
          vote_named = h.vote_named;
          entries_fit = h.entries_fit;
          snapshot_fit = subst (EntriesFit s) (sym built_begins) (each_take (IsWellFormedEntry s) (length es) (store.whole u) (whole_fit s u (W.store n) h z));
          front_is = front_on u.front g (omega (arith, h.front, low)) h.front_is;
          saved_named = h.saved_named;
        });
        keeps = subst (Keeps s (W.store n)) (sym (at_put W n S)) (record {
          vote = refl;
          vote_committed = refl;
          committed = omega arith;
          holds = λ k x p. subst (λ xs. (k < (W.store n).committed) ⊎ ((k < length xs) × ((entry_at s xs k).leader ≡ x))) (sym w) p;
        });
        session = ap (λ (T : IdealStore). T.session) (at_put W n S);
      }

  -- a shorter one is dropped
  pub dropped_followed : Ended u
  dropped_followed =
      let S : IdealStore = record (W.store n) { noted = [] } in
      record {
        world = put W n S;
        did = record { deeds = DropNote n ∷ []; by = (refl, tt); allowed = (tt, tt); claimed = (tt, tt); result = refl; quiet = record { messages = refl; decided = refl } };
        store = subst (StoreIs s u) (sym (at_put W n S)) (record {
          vote = h.vote;
          vote_committed = h.vote_committed;
          front = h.front;
          entries = h.entries;
          snapshot = h.snapshot;
          saved = h.saved;
          saved_leader = h.saved_leader;
          applied = h.applied;
          vote_named = h.vote_named;
          entries_fit = h.entries_fit;
          snapshot_fit = h.snapshot_fit;
          front_is = h.front_is;
          saved_named = h.saved_named;
        });
        keeps = subst (Keeps s (W.store n)) (sym (at_put W n S)) (record { vote = refl; vote_committed = refl; committed = omega arith; holds = λ k x p. p });
        session = ap (λ (T : IdealStore). T.session) (at_put W n S);
      }
