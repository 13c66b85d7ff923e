-- What has left servers stays so after more actions.
use Rattle.std.proofs.Common.{ℕ, ◌≡◌, List, [], ◌∷◌, ◌++◌, map, refl, sym, subst}
use Rattle.std.specs.Prelude.{Contains}
use Rattle.std.proofs.lemmas.List.{map-append}
use Rattle.std.proofs.lemmas.List.Elements.{Contains-append_left, Contains-append_right}
use Rattle.raft_calls.specs.declared.message.Message.{Message}
use Rattle.raft_node.specs.declared.given.Given.{Given}
use Rattle.raft_node.specs.declared.record.Executed.{Executed}
use Rattle.raft_node.specs.Net.{Records}
use Rattle.raft_store.specs.declared.entry.Entry.{Entry}
use Rattle.proof_servers.specs.Recorded.{joined}
use Rattle.proof_servers.specs.Servers.{Action, Cluster, Crashes, Flushes, Takes, WaitingStep, after_action, after_actions, flushed, new_cluster, with_server}
use Rattle.proof_requests.specs.Answered.{entries_left}
use Rattle.proof_requests.specs.Requests.{server_after}
use Rattle.proof_requests.proofs.More.{after_both}

-- a part of all that has left
module _ {X : Type 0} (part : Records (List Entry) → List X) (joins : (a b : Records (List Entry)) → part (joined a b) ≡ part a ++ part b) (given : Given) where
  part_one : (a : Action) (c : Cluster) (x : X) → Contains (part c.released) x → Contains (part (after_action given a c).released) x
  part_one (Takes id step) c x k = k
  part_one (Flushes id) c x k = go (c.servers id).waiting
    where
      go : (xs : List WaitingStep)
          → Contains (part (elim xs as (λ _. Cluster) [ [] ↦ c | w ∷ ws ↦ record (with_server id (flushed w ws (c.servers id)) c) { released = joined c.released w.outputs } ]).released) x
      go [] = k
      go (w ∷ ws) = subst (λ (ys : List X). Contains ys x) (sym (joins c.released w.outputs)) (Contains-append_left (part c.released) (part w.outputs) x k)
  part_one (Crashes id k at) c x h = h

  part_all : (took : List Action) (c : Cluster) (x : X) → Contains (part c.released) x → Contains (part (after_actions given took c).released) x
  part_all [] c x k = k
  part_all (a ∷ took) c x k = part_all took (after_action given a c) x (part_one a c x k)

  abbrev left_after : List Action → List X
  left_after actions = part (after_actions given actions (new_cluster given)).released

  part_more : (actions took : List Action) (x : X) → Contains (left_after actions) x → Contains (left_after (actions ++ took)) x
  part_more actions took x k = subst (λ (c : Cluster). Contains (part c.released) x) (sym (after_both given actions took (new_cluster given))) (part_all took (after_actions given actions (new_cluster given)) x k)

  -- what the oldest step says
  part_oldest : (actions : List Action) (id : ℕ) (w : WaitingStep) (ws : List WaitingStep) → (server_after given actions id).waiting ≡ w ∷ ws → (x : X) → Contains (part w.outputs) x
      → Contains (left_after (actions ++ Flushes id ∷ [])) x
  part_oldest actions id w ws q x k =
      subst (λ (c : Cluster). Contains (part c.released) x) (sym (after_both given actions (Flushes id ∷ []) (new_cluster given))) (go (server_after given actions id).waiting q)
    where
      go : (xs : List WaitingStep) → xs ≡ w ∷ ws
          → Contains (part (elim xs as (λ _. Cluster) [
            | [] ↦ after_actions given actions (new_cluster given)
            | w ∷ ws ↦ record (with_server id (flushed w ws (server_after given actions id)) (after_actions given actions (new_cluster given))) { released = joined (after_actions given actions (new_cluster given)).released w.outputs }
          ]).released) x
      go [] r = cc
      go (y ∷ xs) r =
          let z : y ≡ w = cc in
          subst (λ (ys : List X). Contains ys x) (sym (joins (after_actions given actions (new_cluster given)).released y.outputs))
          (Contains-append_right (part (after_actions given actions (new_cluster given)).released) (part y.outputs) x (subst (λ (v : WaitingStep). Contains (part v.outputs) x) (sym z) k))

-- messages
abbrev pub bag_after : Given → List Action → List Message
bag_after given actions = (after_actions given actions (new_cluster given)).released.bag

pub bag_more : (given : Given) (actions took : List Action) (m : Message) → Contains (bag_after given actions) m → Contains (bag_after given (actions ++ took)) m
bag_more given actions took m k = part_more (λ r. r.bag) (λ a b. refl) given actions took m k

pub bag_oldest : (given : Given) (actions : List Action) (id : ℕ) (w : WaitingStep) (ws : List WaitingStep) → (server_after given actions id).waiting ≡ w ∷ ws → (m : Message) → Contains w.outputs.bag m
    → Contains (bag_after given (actions ++ Flushes id ∷ [])) m
bag_oldest given actions id w ws q m k = part_oldest (λ r. r.bag) (λ a b. refl) given actions id w ws q m k

-- entries that were executed
abbrev entries_in : Records (List Entry) → List Entry
entries_in r = map (λ x. x.entry) r.executed

entries_join : (a b : Records (List Entry)) → entries_in (joined a b) ≡ entries_in a ++ entries_in b
entries_join a b = map-append (λ (x : Executed). x.entry) a.executed b.executed

pub entries_more : (given : Given) (actions took : List Action) (e : Entry) → Contains (entries_left given actions) e → Contains (entries_left given (actions ++ took)) e
entries_more given actions took e k = part_more entries_in entries_join given actions took e k

pub entries_oldest : (given : Given) (actions : List Action) (id : ℕ) (w : WaitingStep) (ws : List WaitingStep) → (server_after given actions id).waiting ≡ w ∷ ws → (e : Entry) → Contains (map (λ x. x.entry) w.outputs.executed) e
    → Contains (entries_left given (actions ++ Flushes id ∷ [])) e
entries_oldest given actions id w ws q e k = part_oldest entries_in entries_join given actions id w ws q e k
