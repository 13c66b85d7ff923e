-- What a world that is followed at a moment promises, in its own words: agreement, leader completeness, log matching.
use Rattle.std.proofs.Common.{ℕ, zero, suc, ◌+◌, ◌-◌, ◌<◌, ◌≡◌, inl, inr, List, [], ◌∷◌, length, map, take, arith, refl, sym, ap, ap₂, ◌∙◌, subst, subst₂, Some}
use Rattle.std.specs.Prelude.{Contains, flat_map, nat_le, slice_get, true}
use Rattle.std.specs.declared.cmp.Ordering.TheVariants.{Less}
use Rattle.std.specs.Ordering.{is_le, nat_cmp, ordering_then}
use Rattle.std.specs.List.{AllByRecursion}
use Rattle.std.proofs.lemmas.List.{length-map, take-map}
use Rattle.std.proofs.lemmas.List.Elements.{All-contains, All-from_recursion}
use Rattle.raft_node.specs.raft_state.declared.ids.LeaderId.{LeaderId}
use Rattle.raft_node.specs.raft_state.declared.ids.LogId.{LogId}
use Rattle.raft_node.specs.raft_state.Fits.{is_within}
use Rattle.raft_node.specs.raft_state.LogLaws.{IsRun}
use Rattle.raft_node.specs.raft_state.Order.{last_id_cmp, leader_id_cmp}
use Rattle.raft_node.proofs.raft_state_proofs.Orders.{both_and, nat_le_of}
use Rattle.proof_agreement.specs.Machine.{Includes, Setup, start}
use Rattle.proof_agreement.specs.Stores.{DecidedCommit, InstalledSnapshot, applied, entry_at, whole}
use Rattle.proof_agreement.specs.StoresLaws.{AppliedAgree as StoresApplied, AppliedDecided, BeginsWith, CommitsEnd, Gives, OwnEntriesAbove, StoresAgree, StoresComplete, StoresDecided, IsRecordOf as IsIdealRecordOf, IsWholeLog as IsIdealWholeLog, LeadersAppend, StoresMatch}
use Rattle.proof_agreement.proofs.StoresBridge.{begins_first}
use Rattle.proof_agreement.proofs.StoresTheorems as theorems
use Rattle.raft_node.specs.raft_store.declared.entry.Entry.{Entry}
use Rattle.raft_node.specs.raft_store.Entries.{entry_meaning}
use Rattle.raft_node.specs.raft_store.Store as store
use Rattle.proof_mirror.specs.Ready.{Shaped}
use Rattle.raft_node.specs.declared.record.Executed.{Executed}
use Rattle.raft_node.specs.declared.record.Installed.{Installed}
use Rattle.raft_node.specs.MayKeep.{AllMayKeep, CanStoreNext}
use Rattle.raft_node.specs.Net.{Net, NodeView}
use Rattle.raft_node.specs.Safety.{Agrees, AppendsOnly, AppliedAgree, AppliedAreDecided, DecidedEnd, ExecutedAreDecided, IsComplete, IsRecordOf, IsWholeLog, Matches, ReadsSee, StandsAbove, entries_of}
use Rattle.proof_deeds.specs.Chains.{Reached}
use Rattle.proof_deeds.specs.Follows.{ExecutedIs, InstalledIs, DecidedIs, EstablishedIs, RecordsAre, StoreIs}
use Rattle.proof_deeds.specs.Images.{Ideal, IdealEntry, IsNamed, number, image, images}
use Rattle.proof_deeds.proofs.Numbers.{number_below, number_same}
use Rattle.proof_deeds.proofs.Runs.{AnswerFits, IsRecorded, ids_in, found_id, whole_runs, RecordsFit, DecidedFits, EstablishedFits, InstalledFits}
use Rattle.proof_deeds.proofs.Tails.{entry_of_id, named_of_id, whole_fit, whole_is, images_same}
use Rattle.proof_deeds.proofs.Worlds.{does_self, each_more, stores_follow}

-- each of a list

pub one_of : {X : Type 0} (P : X → Type 0) (xs : List X) (x : X) → AllByRecursion P xs → Contains xs x → P x
one_of P xs x h c = All-contains P xs x (All-from_recursion P xs h) c

pub within_slot : (es : List Entry) (k : ℕ) (x : LogId ℕ) → slice_get (ids_in es) k ≡ Some x → k < length (images es)
within_slot [] k x e = cc
within_slot (e ∷ es) zero x q = omega arith
within_slot (e ∷ es) (suc k) x q = let l : k < length (images es) = within_slot es k x q in omega (arith, l)

module _ (s : Setup Entry) where
  -- where an entry's image stands, it stands
  slot_of_image : (es : List Entry) (k : ℕ) (x : Entry) → k < length (images es) → entry_at s (images es) k ≡ image x → slice_get es k ≡ Some x
  slot_of_image [] k x l e = absurd (omega (arith, l))
  slot_of_image (y ∷ ys) zero x l e = ap (λ (i : IdealEntry). Some i.payload) e
  slot_of_image (y ∷ ys) (suc k) x l e = slot_of_image ys k x (omega (arith, l)) e

  -- and where it stands, its image stands
  image_of_slot : (es : List Entry) (k : ℕ) (x : Entry) → slice_get es k ≡ Some x → entry_at s (images es) k ≡ image x
  image_of_slot [] k x e = cc
  image_of_slot (y ∷ ys) zero x e = let z : y ≡ x = cc in ap image z
  image_of_slot (y ∷ ys) (suc k) x e = image_of_slot ys k x e

  slot_inside : (es : List Entry) (k : ℕ) (x : Entry) → slice_get es k ≡ Some x → k < length (images es)
  slot_inside [] k x e = cc
  slot_inside (y ∷ ys) zero x e = omega arith
  slot_inside (y ∷ ys) (suc k) x e = let l : k < length (images ys) = slot_inside ys k x e in omega (arith, l)

  -- each entry of a run from 0 on stands at its index
  each_placed : (G : ℕ → IdealEntry → Type 0) (n : ℕ) (es : List Entry) → IsRun n (ids_in es) → ((k : ℕ) → k < length es → G (n + k) (entry_at s (images es) k)) → AllByRecursion (λ (e : Entry). G e.log_id.index (image e)) es
  each_placed G n [] r f = tt
  each_placed G n (e ∷ es) r f = (
    subst (λ i. G i (image e)) (let q : n + 0 ≡ e.log_id.index = omega (arith, r.0) in q) (f 0 (omega arith)),
    each_placed G (n + 1) es r.1 (λ k h. subst (λ i. G i (entry_at s (images es) k)) (let q : n + suc k ≡ (n + 1) + k = omega arith in q) (f (suc k) (omega (arith, h)))),
  )

  -- an entry of a run that is of this leader has its id and the index of its place
  own_slot : (n : ℕ) (es : List Entry) (k : ℕ) (d : LeaderId ℕ) → IsRun n (ids_in es) → AllByRecursion (λ (e : Entry). IsNamed e.log_id.leader_id) es → length (images es) ≡ suc k → (entry_at s (images es) k).leader ≡ number d → IsNamed d
      → slice_get (ids_in es) k ≡ Some (record { leader_id = d; index = n + k })
  own_slot n [] k d r a l e m = absurd (omega (arith, l))
  own_slot n (x ∷ xs) zero d r a l e m =
      let i : x.log_id.index ≡ n + 0 = omega (arith, r.0) in
      ap₂ (λ d i. Some (let y : LogId ℕ = record { leader_id = d; index = i } in y)) (number_same x.log_id.leader_id d a.0 m e) i
  own_slot n (x ∷ xs) (suc k) d r a l e m =
      let q : (n + 1) + k ≡ n + suc k = omega arith in
      own_slot (n + 1) xs k d r.1 a.1 (omega (arith, l)) e m ∙ ap (λ i. Some (let y : LogId ℕ = record { leader_id = d; index = i } in y)) q

  module _ (W : Ideal) where
    Given : Entry → Type 0
    Given e = Gives s W e.log_id.index (image e)

    executed_given : (xs : List Executed) → AllByRecursion (ExecutedIs W) xs → AllByRecursion (λ (e : Entry). Gives s W e.log_id.index (image e)) (map (λ x. x.entry) xs)
    executed_given [] h = tt
    executed_given (x ∷ xs) h = (inl (record { node = x.node; index = x.entry.log_id.index; entry = image x.entry }, h.0, refl, refl), executed_given xs h.1)

    installed_given : (xs : List Installed) → AllByRecursion (InstalledIs W) xs → AllByRecursion InstalledFits xs → AllByRecursion (λ (e : Entry). Gives s W e.log_id.index (image e)) (flat_map (λ x. x.entries) xs)
    installed_given [] h f = tt
    installed_given (x ∷ xs) h f =
        each_more (λ (e : Entry). Gives s W e.log_id.index (image e)) x.entries (flat_map (λ x. x.entries) xs)
        (each_placed (Gives s W) 0 x.entries f.0
        (λ k l.
        let i : InstalledSnapshot Entry = record { node = x.node; entries = images x.entries } in
        let n : length (images x.entries) ≡ length x.entries = length-map x.entries image in
        inr (i, h.0, omega (arith, l, n), let q : 0 + k ≡ k = omega arith in ap (entry_at s (images x.entries)) q)))
        (installed_given xs h.1 f.1)

  -- the laws of stores, of a world that came of the empty one
  module _ (W : Ideal) (r : Reached s W) where
    pub agree_in : StoresAgree s W
    agree_in = theorems.stores_agree s (start s) W (stores_follow s W r)

    pub complete_in : StoresComplete W
    complete_in = theorems.stores_complete s (start s) W (stores_follow s W r)

    pub ends_in : CommitsEnd s W
    ends_in = theorems.commits_end s (start s) W (stores_follow s W r)

    pub decided_in : StoresDecided s W
    decided_in = theorems.stores_decided s (start s) W (stores_follow s W r)

    pub applied_in : StoresApplied W
    applied_in = theorems.applied_agree s (start s) W (stores_follow s W r)

    pub above_in : OwnEntriesAbove s W
    above_in = theorems.own_entries_above s (start s) W (stores_follow s W r)

    pub append_in : LeadersAppend W
    append_in = theorems.leaders_append s (start s) W (stores_follow s W r)

    pub applied_decided_in : AppliedDecided s W
    applied_decided_in = theorems.applied_decided s (start s) W (stores_follow s W r)

    pub match_in : StoresMatch s W
    match_in = theorems.stores_match s (start s) W (stores_follow s W r)

  -- a node's store is the ideal one, and shaped
  pub record NodeStands (W : Ideal) (n : NodeView) : Type 0 where
    pub node : n.id < 18446744073709551616
    pub store : StoreIs s n.store (W.store n.id)
    pub shaped : Shaped entry_meaning n.store
    pub next : CanStoreNext n.engine n.store

  -- a world at a moment between two commands: its stores and records are followed
  pub record NetStands (net : Net (List Entry)) (W : Ideal) : Type 0 where
    pub reached : Reached s W
    pub nodes : AllByRecursion (NodeStands W) net.nodes
    pub records : RecordsAre s net.records W
    pub fit : RecordsFit s W net.records

  module _ (net : Net (List Entry)) (W : Ideal) (h : NetStands net W) where
    -- what is executed or installed is given in the ideal world
    given : (x : Entry) → Contains (entries_of net.records.executed net.records.installed) x → Gives s W x.log_id.index (image x)
    given x c =
        one_of (λ (e : Entry). Gives s W e.log_id.index (image e)) (entries_of net.records.executed net.records.installed) x
        (each_more (λ (e : Entry). Gives s W e.log_id.index (image e)) (map (λ x. x.entry) net.records.executed) (flat_map (λ x. x.entries) net.records.installed) (executed_given W net.records.executed h.records.executed) (installed_given W net.records.installed h.records.installed h.fit.installed)) c

    pub agrees : Agrees net
    agrees x y c d e =
        let a : Gives s W x.log_id.index (image x) = given x c in
        let b : Gives s W y.log_id.index (image y) = given y d in
        ap (λ (i : IdealEntry). i.payload) (agree_in W h.reached x.log_id.index (image x) (image y) a (subst (λ i. Gives s W i (image y)) (sym e) b))

    pub complete : IsComplete net
    complete r l c d e =
        let a : DecidedIs W r = one_of (DecidedIs W) net.records.decided r h.records.decided c in
        let b : EstablishedIs W l = one_of (EstablishedIs W) net.records.established l h.records.established d in
        let x : DecidedFits r = one_of DecidedFits net.records.decided r h.fit.decided c in
        let y : EstablishedFits l = one_of EstablishedFits net.records.established l h.fit.established d in
        let z : take (length (images r.log)) (images l.log) ≡ images r.log = complete_in W h.reached _ _ a.there b (number_below r.leader_id l.leader_id x.named y.named e) in
        images_same (take (length r.log) l.log) r.log (sym (take-map image (length r.log) l.log) ∙ (ap (λ n. take n (images l.log)) (sym (length-map r.log image)) ∙ z))

    pub decided_end : DecidedEnd net
    decided_end r c =
        let a : DecidedIs W r = one_of (DecidedIs W) net.records.decided r h.records.decided c in
        let b : DecidedFits r = one_of DecidedFits net.records.decided r h.fit.decided c in
        let e : (length (images r.log) ≡ suc r.log_id.index) × ((entry_at s (images r.log) r.log_id.index).leader ≡ number r.leader_id) = ends_in W h.reached _ a.there in
        let n : length (ids_in r.log) - 1 ≡ r.log_id.index = omega (arith, length-map r.log (λ (x : Entry). x.log_id), length-map r.log image, e.0) in
        let q : 0 + r.log_id.index ≡ r.log_id.index = omega arith in (
          ap (slice_get (ids_in r.log)) n ∙ (own_slot 0 r.log r.log_id.index r.leader_id b.run b.all_named e.0 e.1 b.named
              ∙ ap₂ (λ d i. Some (let x : LogId ℕ = record { leader_id = d; index = i } in x)) (sym a.own) q),
          a.own,
        )

    -- what is executed or installed was decided in the ideal world, and so recorded
    pub executed_decided : ExecutedAreDecided net
    executed_decided x c =
        let d : (d : DecidedCommit Entry) × Includes W.decided d × (x.log_id.index < length d.entries) × (entry_at s d.entries x.log_id.index ≡ image x) = decided_in W h.reached x.log_id.index (image x) (given x c) in
        let a : IsRecorded d.0 net.records.decided = h.fit.recorded d.0 d.1 in
        let e : d.0.entries ≡ images a.by.log = ap (λ (y : DecidedCommit Entry). y.entries) a.is in
        (a.by, a.there, slot_of_image a.by.log x.log_id.index x (subst (λ ys. x.log_id.index < length ys) e d.2) (subst (λ ys. entry_at s ys x.log_id.index ≡ image x) e d.3))

    -- a whole log is an ideal one, and its indexes go on from 0
    pub record WholeIs (es : List Entry) : Type 0 where
      pub is : IsIdealWholeLog W (images es)
      pub run : IsRun 0 (ids_in es)

    whole_one : (es : List Entry) → IsWholeLog net es → WholeIs es
    whole_one es (inl (n, c, e)) =
        let a : NodeStands W n = one_of (NodeStands W) net.nodes n h.nodes c in
        subst WholeIs e (record { is = inl (n.id, whole_is s n.store (W.store n.id) a.store a.shaped); run = whole_runs n.store a.shaped })
    whole_one es (inr (inl (l, c, e))) =
        let a : EstablishedIs W l = one_of (EstablishedIs W) net.records.established l h.records.established c in
        let b : EstablishedFits l = one_of EstablishedFits net.records.established l h.fit.established c in
        subst WholeIs e (record { is = inr (inl (record { leader = number l.leader_id; entries = images l.log }, a, refl)); run = b.run })
    whole_one es (inr (inr (r, c, e))) =
        let a : DecidedIs W r = one_of (DecidedIs W) net.records.decided r h.records.decided c in
        let b : DecidedFits r = one_of DecidedFits net.records.decided r h.fit.decided c in
        subst WholeIs e (record { is = inr (inr (record { leader = number r.leader_id; index = r.log_id.index; entries = images r.log }, a.there, refl)); run = b.run })

    pub matches : Matches net
    matches xs ys x wx wy hx hy =
        let a : WholeIs xs = whole_one xs wx in
        let b : WholeIs ys = whole_one ys wy in
        let p : slice_get (ids_in xs) x.index ≡ Some x = found_id xs x a.run hx in
        let q : slice_get (ids_in ys) x.index ≡ Some x = found_id ys x b.run hy in
        let i : x.index < length (images xs) = within_slot xs x.index x p in
        let j : x.index < length (images ys) = within_slot ys x.index x q in
        let e : take (suc x.index) (images xs) ≡ take (suc x.index) (images ys) = match_in W h.reached (images xs) (images ys) x.index a.is b.is i j (entry_of_id s xs x.index x p ∙ sym (entry_of_id s ys x.index x q)) in
        let k : x.index + 1 ≡ suc x.index = omega arith in
        ap (λ n. take n xs) k ∙ (images_same (take (suc x.index) xs) (take (suc x.index) ys) (sym (take-map image (suc x.index) xs) ∙ (e ∙ take-map image (suc x.index) ys)) ∙ ap (λ n. take n ys) (sym k))

    record_one : (d : LeaderId ℕ) (es : List Entry) → IsRecordOf net.records d es → IsIdealRecordOf W (number d) (images es)
    record_one d es (inl (l, c, q, e)) =
        let a : EstablishedIs W l = one_of (EstablishedIs W) net.records.established l h.records.established c in
        subst₂ (λ d es. IsIdealRecordOf W (number d) (images es)) q e (inl (record { leader = number l.leader_id; entries = images l.log }, a, refl, refl))
    record_one d es (inr (r, c, q, e)) =
        let a : DecidedIs W r = one_of (DecidedIs W) net.records.decided r h.records.decided c in
        subst₂ (λ d es. IsIdealRecordOf W (number d) (images es)) q e (inr (record { leader = number r.leader_id; index = r.log_id.index; entries = images r.log }, a.there, refl, refl))

    -- of two records of a leader's log the longer begins with the shorter
    pub appends_only : AppendsOnly net
    appends_only d es fs x y l =
        let z : take (length (images es)) (images fs) ≡ images es = append_in W h.reached (number d) (images es) (images fs) (record_one d es x) (record_one d fs y) (omega (arith, l, length-map es image, length-map fs image)) in
        images_same (take (length es) fs) es (sym (take-map image (length es) fs) ∙ (ap (λ n. take n (images fs)) (sym (length-map es image)) ∙ z))

    -- no store has a gap, so records may keep whole logs
    pub may_keep : AllMayKeep net
    may_keep = record {
      gapless =
          λ n c.
          let a : NodeStands W n = one_of (NodeStands W) net.nodes n h.nodes c in
          record { keys = a.shaped.keys; run = a.shaped.run; front = a.shaped.front };
      grows = appends_only;
      next =
          λ n c.
          let a : NodeStands W n = one_of (NodeStands W) net.nodes n h.nodes c in
          a.next;
    }

    -- what state machines have taken: of two, the longer begins with the shorter
    applied_one : (n : NodeView) → NodeStands W n → applied (W.store n.id) ≡ images n.store.applied
    applied_one n a =
        ap₂ take a.store.applied (whole_is s n.store (W.store n.id) a.store a.shaped)
        ∙ (take-map image (length n.store.applied) (store.whole n.store) ∙ ap images (sym a.shaped.applied))

    pub applied_agree : AppliedAgree net
    applied_agree m n c d l =
        let a : NodeStands W m = one_of (NodeStands W) net.nodes m h.nodes c in
        let b : NodeStands W n = one_of (NodeStands W) net.nodes n h.nodes d in
        let z : BeginsWith (applied (W.store n.id)) (applied (W.store m.id)) = applied_in W h.reached m.id n.id (omega (arith, l, a.store.applied, b.store.applied)) in
        let q : take (length (images m.store.applied)) (images n.store.applied) ≡ images m.store.applied = subst₂ BeginsWith (applied_one n b) (applied_one m a) z in
        images_same (take (length m.store.applied) n.store.applied) m.store.applied (sym (take-map image (length m.store.applied) n.store.applied) ∙ (ap (λ i. take i (images n.store.applied)) (sym (length-map m.store.applied image)) ∙ q))

    -- what they have taken was decided in the ideal world, and so recorded
    pub applied_decided : AppliedAreDecided net
    applied_decided n i x c q =
        let a : NodeStands W n = one_of (NodeStands W) net.nodes n h.nodes c in
        let w : applied (W.store n.id) ≡ images n.store.applied = applied_one n a in
        let l : i < length (applied (W.store n.id)) = subst (λ ys. i < length ys) (sym w) (slot_inside n.store.applied i x q) in
        let d : (d : DecidedCommit Entry) × Includes W.decided d × (i < length d.entries) × (entry_at s d.entries i ≡ entry_at s (applied (W.store n.id)) i) = applied_decided_in W h.reached n.id i l in
        let b : IsRecorded d.0 net.records.decided = h.fit.recorded d.0 d.1 in
        let e : d.0.entries ≡ images b.by.log = ap (λ (y : DecidedCommit Entry). y.entries) b.is in
        let v : entry_at s (images b.by.log) i ≡ image x = ap (λ ys. entry_at s ys i) (sym e) ∙ (d.3 ∙ (ap (λ ys. entry_at s ys i) w ∙ image_of_slot n.store.applied i x q)) in
        (b.by, b.there, slot_of_image b.by.log i x (subst (λ ys. i < length ys) e d.2) v)

    -- a node's log begins with the first entry
    pub begins : (n : NodeView) (x : Entry) → Contains net.nodes n → slice_get (store.whole n.store) 0 ≡ Some x → x ≡ s.first_payload
    begins n x c q =
        let a : NodeStands W n = one_of (NodeStands W) net.nodes n h.nodes c in
        let w : whole (W.store n.id) ≡ images (store.whole n.store) = whole_is s n.store (W.store n.id) a.store a.shaped in
        let l : 0 < length (whole (W.store n.id)) = subst (λ ys. 0 < length ys) (sym w) (slot_inside (store.whole n.store) 0 x q) in
        let b : entry_at s (whole (W.store n.id)) 0 ≡ record { leader = 0; payload = s.first_payload } = begins_first s (start s) W (stores_follow s W h.reached) n.id l in
        ap (λ (i : IdealEntry). i.payload) (sym (image_of_slot (store.whole n.store) 0 x q) ∙ (ap (λ ys. entry_at s ys 0) (sym w) ∙ b))

    -- an entry of a leader stands above all that leaders of lower ids ever decide
    pub stands_above : StandsAbove net
    stands_above r n x c d hx lower =
        let a : NodeStands W n = one_of (NodeStands W) net.nodes n h.nodes d in
        let b : DecidedIs W r = one_of (DecidedIs W) net.records.decided r h.records.decided c in
        let f : DecidedFits r = one_of DecidedFits net.records.decided r h.fit.decided c in
        let es : List Entry = store.whole n.store in
        let p : slice_get (ids_in (store.whole n.store)) x.index ≡ Some x = found_id (store.whole n.store) x (whole_runs n.store a.shaped) hx in
        let w : whole (W.store n.id) ≡ images (store.whole n.store) = whole_is s n.store (W.store n.id) a.store a.shaped in
        let named : IsNamed x.leader_id = named_of_id s (store.whole n.store) x.index x (whole_fit s n.store (W.store n.id) a.store a.shaped) p in
        above_in W h.reached (record { leader = number r.leader_id; index = r.log_id.index; entries = images r.log }) (images (store.whole n.store)) x.index b.there (inl (n.id, w)) (within_slot (store.whole n.store) x.index x p)
        (subst (λ d. number r.leader_id < d) (sym (entry_of_id s (store.whole n.store) x.index x p)) (number_below r.leader_id x.leader_id f.named named lower))

    -- so what is answered to a read is at or above that
    pub reads_see : ReadsSee net
    reads_see a r c d lower =
        let f : AnswerFits s W a = one_of (AnswerFits s W) net.records.answers a h.fit.answers c in
        let b : DecidedIs W r = one_of (DecidedIs W) net.records.decided r h.records.decided d in
        let g : DecidedFits r = one_of DecidedFits net.records.decided r h.fit.decided d in
        let l : r.log_id.index < f.id.index = f.above W (does_self s W) (record { leader = number r.leader_id; index = r.log_id.index; entries = images r.log }) b.there (number_below r.leader_id a.leader_id g.named f.named lower) in
        let o : leader_id_cmp nat_cmp r.log_id.leader_id f.id.leader_id ≡ Less = subst₂ (λ x y. leader_id_cmp nat_cmp x y ≡ Less) (sym b.own) (sym f.own) lower in
        subst (λ y. is_within nat_cmp (Some r.log_id) y ≡ true) (sym f.is)
        (both_and (is_le (last_id_cmp nat_cmp (Some r.log_id) (Some f.id))) (nat_le (r.log_id.index + 1) (f.id.index + 1)) (ap (λ q. is_le (ordering_then q (nat_cmp r.log_id.index f.id.index))) o) (nat_le_of (r.log_id.index + 1) (f.id.index + 1) (omega (arith, l))))
