-- Equality of log ids, by that of node ids.
use Rattle.std.specs.Prelude.{Bool, ◌&&◌, nat_eq}
use Rattle.std.specs.Cmp.{IsPartialEquivalence, IsEquivalence, nat_eq_equiv, partial_equiv_from_equiv, on_per, on_equiv, and_per, and_equiv}
use Rattle.raft_state.specs.declared.ids.LeaderId.{LeaderId}
use Rattle.raft_state.specs.declared.ids.LogId.{LogId}

module _ {NID : Type 0} (eq : NID → NID → Bool) where
  -- equal terms and nodes
  abbrev pub leader_id_eq : LeaderId NID → LeaderId NID → Bool
  leader_id_eq a b = nat_eq a.term b.term && eq a.node_id b.node_id

  -- equal leaders and indexes
  abbrev pub log_id_eq : LogId NID → LogId NID → Bool
  log_id_eq a b = leader_id_eq a.leader_id b.leader_id && nat_eq a.index b.index

  leader_id_per : IsPartialEquivalence eq → IsPartialEquivalence leader_id_eq
  leader_id_per p = and_per (on_per (λ (x : LeaderId NID). x.term) (partial_equiv_from_equiv nat_eq_equiv)) (on_per (λ x. x.node_id) p)

  leader_id_equiv : IsEquivalence eq → IsEquivalence leader_id_eq
  leader_id_equiv e = and_equiv (on_equiv (λ (x : LeaderId NID). x.term) nat_eq_equiv) (on_equiv (λ x. x.node_id) e)

  pub log_id_per : IsPartialEquivalence eq → IsPartialEquivalence log_id_eq
  log_id_per p = and_per (on_per (λ (x : LogId NID). x.leader_id) (leader_id_per p)) (on_per (λ x. x.index) (partial_equiv_from_equiv nat_eq_equiv))

  pub log_id_equiv : IsEquivalence eq → IsEquivalence log_id_eq
  log_id_equiv e = and_equiv (on_equiv (λ (x : LogId NID). x.leader_id) (leader_id_equiv e)) (on_equiv (λ x. x.index) nat_eq_equiv)
