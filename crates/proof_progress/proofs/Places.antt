-- One node of a world changes at an event.
use Rattle.std.proofs.Common.{ℕ, zero, suc, ◌+◌, ◌<◌, ◌≡◌, ◌≢◌, inl, inr, ⊎_elim, Bool, true, false, not, cond, List, [], ◌∷◌, length, arith, refl, sym, ap, ◌∙◌, subst, Option, None, Some}
use Rattle.std.specs.Prelude.{nat_eq, nat_lt, slice_get, slice_set}
use Rattle.std.specs.List.{position_or_len}
use Rattle.std.proofs.lemmas.Bool.Decides.{nat_tests}
use Rattle.proof_deeds.specs.raft_store.declared.entry.Entry.{Entry}
use Rattle.proof_deeds.specs.raft_schedule.declared.event.Event.{Event}
use Rattle.proof_deeds.specs.raft_schedule.declared.event.Outcome.{Outcome}
use Rattle.proof_deeds.specs.raft_schedule.declared.event.Outcome.TheVariants.{Skipped}
use Rattle.proof_deeds.specs.raft_schedule.declared.event.SkipReason.{SkipReason}
use Rattle.proof_deeds.specs.raft_schedule.declared.event.SkipReason.TheVariants.{NoMessage, NotRunning}
use Rattle.proof_deeds.specs.raft_node.declared.act.Act.{Act}
use Rattle.proof_deeds.specs.raft_node.declared.act.Aim.{Aim}
use Rattle.proof_deeds.specs.raft_node.declared.given.Given.{Given}
use Rattle.proof_deeds.specs.raft_node.Events.{Scene, aim_of, at_node, at_place, called_at, calls, finish, happens, moment_of, place_of, played, skip_reason, turn_of}
use Rattle.proof_deeds.specs.raft_node.Net.{Net, NodeView, Records}
use Rattle.proof_deeds.specs.raft_node.Runs.{whole_logs}
use Rattle.proof_deeds.specs.raft_node.Work.{weight}
use Rattle.proof_progress.specs.Continuations.{At}

pub same_ids : (a b : ℕ) → a ≡ b → nat_eq a b ≡ true
same_ids a b e = grind (arith, nat_tests)

pub other_ids : (a b : ℕ) → a ≢ b → nat_eq a b ≡ false
other_ids a b e = grind (arith, nat_tests)

-- one node has an id
pub at_one : (nodes : List NodeView) (id : ℕ) (N M : NodeView) → At nodes id N → At nodes id M → N ≡ M
at_one [] id N M h k = absurd h
at_one (x ∷ xs) id N M (inl p) (inl q) = sym p.1 ∙ q.1
at_one (x ∷ xs) id N M (inl p) (inr q) = absurd (q.0 p.0)
at_one (x ∷ xs) id N M (inr p) (inl q) = absurd (p.0 q.0)
at_one (x ∷ xs) id N M (inr p) (inr q) = at_one xs id N M p.1 q.1

abbrev pub spot : List NodeView → ℕ → ℕ
spot nodes id = position_or_len (λ (n : NodeView). nat_eq n.id id) nodes

abbrev cased : Bool → List NodeView → ℕ → ℕ
cased b xs id = cond (not b) (1 + spot xs id) 0

pub one_more : (n : ℕ) → 1 + n ≡ suc n
one_more n = omega arith

pub stands_at : (nodes : List NodeView) (id : ℕ) (N : NodeView) → At nodes id N → slice_get nodes (spot nodes id) ≡ Some N
stands_at [] id N h = absurd h
stands_at (x ∷ xs) id N h = ⊎_elim (λ (p : (x.id ≡ id) × (x ≡ N)). here (nat_eq x.id id) (same_ids x.id id p.0) p.1) (λ (p : (x.id ≢ id) × At xs id N). there (nat_eq x.id id) (other_ids x.id id p.0) (stands_at xs id N p.1)) h
  where
    here : (b : Bool) → b ≡ true → x ≡ N → slice_get (x ∷ xs) (cased b xs id) ≡ Some N
    here true e z = ap (λ (y : NodeView). Some y) z
    here false e z = cc

    there : (b : Bool) → b ≡ false → slice_get xs (spot xs id) ≡ Some N → slice_get (x ∷ xs) (cased b xs id) ≡ Some N
    there true e z = cc
    there false e z = ap (slice_get (x ∷ xs)) (one_more (spot xs id)) ∙ z

below_length : (xs : List NodeView) (i : ℕ) (x : NodeView) → slice_get xs i ≡ Some x → i < length xs
below_length [] i x e = cc
below_length (y ∷ ys) zero x e = omega arith
below_length (y ∷ ys) (suc i) x e = let l : i < length ys = below_length ys i x e in omega (arith, l)

set_same : (xs : List NodeView) (i : ℕ) (x : NodeView) → slice_get xs i ≡ Some x → slice_set xs i x ≡ xs
set_same [] i x e = cc
set_same (y ∷ ys) zero x e = let z : x ≡ y = cc in ap (λ (w : NodeView). w ∷ ys) z
set_same (y ∷ ys) (suc i) x e = ap (λ (ws : List NodeView). y ∷ ws) (set_same ys i x e)

pub placed : (nodes : List NodeView) (id : ℕ) (N : NodeView) → At nodes id N → place_of nodes id ≡ Some (spot nodes id)
unfolding place_of
placed nodes id N h = go (nat_lt (spot nodes id) (length nodes)) (let l : spot nodes id < length nodes = below_length nodes (spot nodes id) N (stands_at nodes id N h) in grind (arith, nat_tests))
  where
    go : (b : Bool) → b ≡ true → ◌≡◌ {A = Option ℕ} (cond b (Some (spot nodes id)) None) (Some (spot nodes id))
    go true e = refl
    go false e = cc

pub put_here : (nodes : List NodeView) (id : ℕ) (N m : NodeView) → At nodes id N → m.id ≡ id → At (slice_set nodes (spot nodes id) m) id m
put_here [] id N m h e = absurd h
put_here (x ∷ xs) id N m h e = ⊎_elim (λ (p : (x.id ≡ id) × (x ≡ N)). here (nat_eq x.id id) (same_ids x.id id p.0)) (λ (p : (x.id ≢ id) × At xs id N). there p.0 (nat_eq x.id id) (other_ids x.id id p.0) (put_here xs id N m p.1 e)) h
  where
    here : (b : Bool) → b ≡ true → At (slice_set (x ∷ xs) (cased b xs id) m) id m
    here true z = inl (e, refl)
    here false z = cc

    there : x.id ≢ id → (b : Bool) → b ≡ false → At (slice_set xs (spot xs id) m) id m → At (slice_set (x ∷ xs) (cased b xs id) m) id m
    there d true z k = cc
    there d false z k = subst (λ i. At (slice_set (x ∷ xs) i m) id m) (sym (one_more (spot xs id))) (inr (d, k))

pub put_there : (nodes : List NodeView) (id : ℕ) (N m : NodeView) (k : ℕ) (K : NodeView) → At nodes id N → m.id ≡ id → k ≢ id → At nodes k K → At (slice_set nodes (spot nodes id) m) k K
put_there [] id N m k K h e d a = absurd h
put_there (x ∷ xs) id N m k K h e d a =
    ⊎_elim (λ (p : (x.id ≡ id) × (x ≡ N)). here p.0 (nat_eq x.id id) (same_ids x.id id p.0) a) (λ (p : (x.id ≢ id) × At xs id N). there (nat_eq x.id id) (other_ids x.id id p.0) (put_there xs id N m k K p.1 e d) a) h
  where
    here : x.id ≡ id → (b : Bool) → b ≡ true → At (x ∷ xs) k K → At (slice_set (x ∷ xs) (cased b xs id) m) k K
    here q true z (inl p) = absurd (d (sym p.0 ∙ q))
    here q true z (inr p) = inr ((λ w. d (sym w ∙ e)), p.1)
    here q false z p = cc

    there : (b : Bool) → b ≡ false → (At xs k K → At (slice_set xs (spot xs id) m) k K) → At (x ∷ xs) k K → At (slice_set (x ∷ xs) (cased b xs id) m) k K
    there true z f p = cc
    there false z f (inl p) = subst (λ i. At (slice_set (x ∷ xs) i m) k K) (sym (one_more (spot xs id))) (inl p)
    there false z f (inr p) = subst (λ i. At (slice_set (x ∷ xs) i m) k K) (sym (one_more (spot xs id))) (inr (p.0, f p.1))

-- at an event one node becomes another, and the records these; the other nodes stay
pub record Changed (old new : Net (List Entry)) (id : ℕ) (m : NodeView) (r : Records (List Entry)) : Type 0 where
  pub here : At new.nodes id m
  pub others : (k : ℕ) (K : NodeView) → k ≢ id → At old.nodes k K → At new.nodes k K
  pub records : new.records ≡ r

module _ (given : Given) (old : Net (List Entry)) (event : Event) (id : ℕ) (act : Act) (N : NodeView) where
  abbrev aim : Aim
  aim = record { id = id; act = act }

  pub happens_is : (i : ℕ) → ◌≡◌ {A = Option Aim} (aim_of old.records.bag event.kind) (Some (record { id = id; act = act })) → place_of old.nodes id ≡ Some i → slice_get old.nodes i ≡ Some N
      → happens whole_logs weight given event old ≡ (let r = played whole_logs weight given act event (record { node = N; records = old.records }) in (r.0, record { nodes = slice_set old.nodes i r.1.node; records = r.1.records }))
  unfolding happens
  happens_is i kind here is = by_aim (aim_of old.records.bag event.kind) kind ∙ (by_id (place_of old.nodes id) here ∙ by_place (slice_get old.nodes i) is)
    where
      by_aim : (o : Option Aim) → ◌≡◌ {A = Option Aim} o (Some (record { id = id; act = act }))
          → ◌≡◌ {A = Outcome × Net (List Entry)} (elim o [ None ↦ (Skipped NoMessage, old) | Some a ↦ at_node old a.id (played whole_logs weight given a.act event) ]) (at_node old id (played whole_logs weight given act event))
      by_aim None q = cc
      by_aim (Some a) q =
          let z : ◌≡◌ {A = Aim} a (record { id = id; act = act }) = cc in
          ap (λ (b : Aim). at_node old b.id (played whole_logs weight given b.act event)) z

      by_id : (o : Option ℕ) → o ≡ Some i → ◌≡◌ {A = Outcome × Net (List Entry)} (elim o [ None ↦ (Skipped NotRunning, old) | Some j ↦ at_place old j (played whole_logs weight given act event) ]) (at_place old i (played whole_logs weight given act event))
      by_id None q = cc
      by_id (Some j) q = let z : j ≡ i = cc in ap (λ k. at_place old k (played whole_logs weight given act event)) z

      by_place : (o : Option NodeView) → o ≡ Some N → ◌≡◌ {A = Outcome × Net (List Entry)} (elim o [
        | None ↦ (Skipped NotRunning, old)
        | Some m ↦ (let r = played whole_logs weight given act event (record { node = m; records = old.records }) in (r.0, record { nodes = slice_set old.nodes i r.1.node; records = r.1.records }))
      ]) (let r = played whole_logs weight given act event (record { node = N; records = old.records }) in (r.0, record { nodes = slice_set old.nodes i r.1.node; records = r.1.records }))
      by_place None q = cc
      by_place (Some m) q =
          let z : m ≡ N = cc in
          ap (λ (k : NodeView). let r = played whole_logs weight given act event (record { node = k; records = old.records }) in let x : Outcome × Net (List Entry) = (r.0, record { nodes = slice_set old.nodes i r.1.node; records = r.1.records }) in x) z

  pub changes : (o : Outcome) (s : Scene (List Entry)) → At old.nodes id N → ◌≡◌ {A = Option Aim} (aim_of old.records.bag event.kind) (Some (record { id = id; act = act }))
      → ◌≡◌ {A = Outcome × Scene (List Entry)} (played whole_logs weight given act event (record { node = N; records = old.records })) (o, s) → s.node.id ≡ id
      → Changed old (happens whole_logs weight given event old).1 id s.node s.records
  changes o s at kind is own =
      subst (λ (x : Outcome × Net (List Entry)). Changed old x.1 id s.node s.records)
      (sym (happens_is (spot old.nodes id) kind (placed old.nodes id N at) (stands_at old.nodes id N at)
      ∙ ap (λ (r : Outcome × Scene (List Entry)). let x : Outcome × Net (List Entry) = (r.0, record { nodes = slice_set old.nodes (spot old.nodes id) r.1.node; records = r.1.records }) in x) is))
      (record { here = put_here old.nodes id N s.node at own; others = λ k K d a. put_there old.nodes id N s.node k K at own d a; records = refl })

  -- if it is skipped, all stays
  abbrev here : Scene (List Entry)
  here = record { node = N; records = old.records }

  abbrev played_here : Outcome × Scene (List Entry)
  played_here = played whole_logs weight given act event (record { node = N; records = old.records })

  played_skipped : (reason : SkipReason) → skip_reason act N ≡ Some reason → ◌≡◌ {A = Outcome × Scene (List Entry)} played_here (Skipped reason, here)
  unfolding played
  played_skipped reason q = ap by_reason q
    where
      by_reason : Option SkipReason → Outcome × Scene (List Entry)
      by_reason o =
          let now : Scene (List Entry) = called_at (moment_of event N) here in
          let r : Option ℕ × Scene (List Entry) = calls given act now in
          elim o as (λ _. Outcome × Scene (List Entry)) [
            | Some r ↦ (Skipped r, here)
            | None ↦ finish whole_logs weight (turn_of act now.node) event.stop r.0 r.1
          ]

  pub skips : (reason : SkipReason) → At old.nodes id N → ◌≡◌ {A = Option Aim} (aim_of old.records.bag event.kind) (Some (record { id = id; act = act }))
      → skip_reason act N ≡ Some reason → (happens whole_logs weight given event old).1 ≡ old
  skips reason at kind q =
      ap (λ (x : Outcome × Net (List Entry)). x.1) (happens_is (spot old.nodes id) kind (placed old.nodes id N at) (stands_at old.nodes id N at))
      ∙ (ap put (played_skipped reason q) ∙ ap with_nodes (set_same old.nodes (spot old.nodes id) N (stands_at old.nodes id N at)))
    where
      with_nodes : List NodeView → Net (List Entry)
      with_nodes ns = record { nodes = ns; records = old.records }

      put : Outcome × Scene (List Entry) → Net (List Entry)
      put r = record { nodes = slice_set old.nodes (spot old.nodes id) r.1.node; records = r.1.records }
