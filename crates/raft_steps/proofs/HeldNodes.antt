-- A leader's tables are the effective membership's.
use Rattle.std.specs.Prelude.{◌≡◌, Bool, true, false, not, ◌||◌, List, [], ◌∷◌, Option, None, Some, IfSome, map, filter, find, take, drop, is_some, refl}
use Rattle.std.proofs.Common.{ap, cond, sym, ◌∙◌}
use Rattle.std.proofs.lemmas.List.{take-map, drop-map}
use Rattle.std.proofs.lemmas.List.Folds.{list_any-append}
use Rattle.std.proofs.Math.Seq.{take-append_seam, drop-append_seam}
use Rattle.std.specs.List.{list_any}
use Rattle.std.specs.Option.{option_map}
use Rattle.std.specs.Ordering.{is_eq}
use Rattle.std.specs.declared.cmp.Ordering.{Ordering}
use Rattle.raft_state.specs.declared.membership.Members.{Members}
use Rattle.raft_state.specs.Members.{is_voter, learner_ids, voter_ids}
use Rattle.raft_proposer.specs.raft_progress.Table.{Table, is_row_of, row_of}
use Rattle.raft_command.specs.declared.config.EngineConfig.{EngineConfig}
use Rattle.raft_steps.specs.Invariants.{HoldsNodes, IsSound, LeaderFits}
use Rattle.raft_steps.specs.LeadLaws.{IsTableOf}
use Rattle.raft_steps.specs.Parts.{Machine, led_in, led_of}
use Rattle.raft_proposer.specs.Joint.{JointLeader}
use Rattle.raft_steps.proofs.Named.{any_named}

beside_left : (a x y all : Bool) → (x || y) ≡ all → ((a || x) || y) ≡ (a || all)
beside_left true x y all h = refl
beside_left false x y all h = h

beside_right : (a x y all : Bool) → (x || y) ≡ all → (x || (a || y)) ≡ (a || all)
beside_right true true y all h = refl
beside_right true false y all h = refl
beside_right false x y all h = h

module _ {X : Type 0} (p q : X → Bool) where
  -- an element of a list is among those that pass a test, or among the others
  either_part : (xs : List X) → (list_any p (filter q xs) || list_any p (filter (λ x. not (q x)) xs)) ≡ list_any p xs
  either_part [] = refl
  either_part (x ∷ xs) = go (q x) (either_part xs) where
    go : (b : Bool) → (list_any p (filter q xs) || list_any p (filter (λ x. not (q x)) xs)) ≡ list_any p xs
        → (list_any p (cond b (x ∷ filter q xs) (filter q xs)) || list_any p (cond (not b) (x ∷ filter (λ x. not (q x)) xs) (filter (λ x. not (q x)) xs))) ≡ (p x || list_any p xs)
    go true h = beside_left (p x) (list_any p (filter q xs)) (list_any p (filter (λ x. not (q x)) xs)) (list_any p xs) h
    go false h = beside_right (p x) (list_any p (filter q xs)) (list_any p (filter (λ x. not (q x)) xs)) (list_any p xs) h

module _ {ID V : Type 0} (cmp : ID → ID → Ordering) where
  -- an id that has a row is one of the rows' ids
  has_row : (id : ID) (rows : List (ID × V)) → is_some (row_of cmp id rows) ≡ list_any (λ row. is_eq (cmp id row.0)) rows
  has_row id [] = refl
  has_row id (row ∷ rows) = go (is_row_of cmp id row) (has_row id rows) where
    go : (b : Bool) → is_some (row_of cmp id rows) ≡ list_any (λ row. is_eq (cmp id row.0)) rows
        → is_some (elim (cond b (Some row) (find (is_row_of cmp id) rows)) [ None ↦ None | Some r ↦ Some r.1 ]) ≡ (b || list_any (λ row. is_eq (cmp id row.0)) rows)
    go true h = refl
    go false h = h

module _ {NID N V P : Type 0} (cmp : NID → NID → Ordering) where
  -- the rows of a table that holds a membership's nodes
  pub table_of_members : (m : Members NID N) (t : Table NID V P (List (List NID))) → HoldsNodes cmp m t → IsTableOf cmp m t
  table_of_members m t h = record {
    groups = h.set;
    voters = sym (take-map (λ (row : NID × V). row.0) t.voters t.rows) ∙ (λ i. take (h.voters i) (h.ids i)) ∙ take-append_seam (voter_ids cmp m) (learner_ids cmp m);
    learners = sym (drop-map (λ (row : NID × V). row.0) t.voters t.rows) ∙ (λ i. drop (h.voters i) (h.ids i)) ∙ drop-append_seam (voter_ids cmp m) (learner_ids cmp m);
    nodes = λ id.
        has_row cmp id t.rows ∙ any_named (λ x. is_eq (cmp id x)) (λ (row : NID × V). row.0) t.rows ∙ ap (list_any (λ x. is_eq (cmp id x))) h.ids
        ∙ list_any-append (λ x. is_eq (cmp id x)) (voter_ids cmp m) (learner_ids cmp m)
        ∙ either_part (λ x. is_eq (cmp id x)) (is_voter cmp m) (map (λ entry. entry.0) m.nodes)
        ∙ sym (any_named (λ x. is_eq (cmp id x)) (λ (entry : NID × N). entry.0) m.nodes);
  }

module _ {C NID N E D R S : Type 0} (cmp : NID → NID → Ordering) (config : EngineConfig NID) where
  -- and so are both of a sound engine's leader
  pub engine_tables : (m : Machine C NID N E D R S) → IsSound cmp config m
      → IfSome (led_in m) (λ l. IsTableOf cmp l.core.state.em.membership l.leader.progress × IsTableOf cmp l.core.state.em.membership l.leader.clock_progress)
  engine_tables m h = go m.leader h.lead.leader_fits where
    go : (o : Option (JointLeader C NID N E D R S)) → IfSome o (LeaderFits cmp config.id m.core.state.ids m.core.state.purged m.core.state.em.membership)
        → IfSome (option_map (λ (l : JointLeader C NID N E D R S). led_of l m.core.state m.core.output) o) (λ l. IsTableOf cmp l.core.state.em.membership l.leader.progress × IsTableOf cmp l.core.state.em.membership l.leader.clock_progress)
    go None k = tt
    go (Some l) k = (table_of_members cmp m.core.state.em.membership l.progress k.progress, table_of_members cmp m.core.state.em.membership l.clock_progress k.clock)
