-- What an election leaves of the other nodes: each is as it was, or has granted its vote.
use Rattle.std.proofs.Common.{ℕ, ◌≤◌, ◌≡◌, ◌≢◌, ◌⊎◌, inl, inr, Bool, true, false, List, [], length, arith, refl, sym, ap, ◌∙◌, subst, Option, Some}
use Rattle.std.specs.Prelude.{nat_eq}
use Rattle.std.proofs.lemmas.Bool.Decides.{nat_tests}
use Rattle.proof_deeds.specs.raft_state.declared.ids.LeaderId.{LeaderId}
use Rattle.proof_deeds.specs.raft_store.declared.entry.Entry.{Entry}
use Rattle.proof_deeds.specs.raft_store.Types.{EngineView}
use Rattle.proof_deeds.specs.raft_schedule.declared.event.Event.{Event}
use Rattle.proof_deeds.specs.raft_node.declared.given.Given.{Given}
use Rattle.proof_deeds.specs.raft_node.Net.{Net, NodeView, Records}
use Rattle.proof_progress.specs.Continuations.{At, goes_on}
use Rattle.proof_progress.proofs.Afresh.{LeadsSince, Since, since_then}
use Rattle.proof_progress.proofs.Images.{granted_with}
use Rattle.proof_progress.proofs.Places.{Changed, at_one}

-- a node has granted its vote, at this moment
pub record Granted (d : LeaderId ℕ) (now : ℕ) (I m : NodeView) : Type 0 where
  pub engine : EngineView
  pub ran : I.engine ≡ Some engine
  pub moment : m.moment ≡ now
  pub runs : m.engine ≡ Some (granted_with d now [] engine)

pub record BesideAt (d : LeaderId ℕ) (now : ℕ) (new : Net (List Entry)) (i : ℕ) (I : NodeView) : Type 0 where
  pub node : NodeView
  pub at : At new.nodes i node
  pub was : (node ≡ I) ⊎ Granted d now I node

-- all nodes but one
abbrev pub Beside : LeaderId ℕ → ℕ → ℕ → Net (List Entry) → Net (List Entry) → Type 0
Beside d now n net new = (i : ℕ) (I : NodeView) → i ≢ n → At net.nodes i I → BesideAt d now new i I

module _ (d : LeaderId ℕ) (now n : ℕ) where
  -- that one changes
  pub beside_changed : (net new : Net (List Entry)) (m : NodeView) (r : Records (List Entry)) → Changed net new n m r → Beside d now n net new
  beside_changed net new m r c i I a at = record { node = I; at = c.others i I a at; was = inl refl }

  -- another grants
  pub beside_granted : (net new : Net (List Entry)) (t : ℕ) (T m : NodeView) (r : Records (List Entry)) → Changed net new t m r → At net.nodes t T → Granted d now T m → Beside d now n net new
  beside_granted net new t T m r c there g i I a at = go (nat_eq i t) refl
    where
      named : (x y : ℕ) → nat_eq x y ≡ true → x ≡ y
      named x y e = grind (arith, nat_tests)

      unnamed : (x y : ℕ) → nat_eq x y ≡ false → x ≢ y
      unnamed x y e = grind (arith, nat_tests)

      go : (b : Bool) → nat_eq i t ≡ b → BesideAt d now new i I
      go true q =
          let z : i ≡ t = named i t q in
          let s : T ≡ I = at_one net.nodes t T I there (subst (λ j. At net.nodes j I) z at) in
          record { node = m; at = subst (λ j. At new.nodes j m) (sym z) c.here; was = inr (subst (λ (N : NodeView). Granted d now N m) s g) }
      go false q = record { node = I; at = c.others i I (unnamed i t q) at; was = inl refl }

  -- one after another: a node that grants twice has granted once
  pub beside_then : (net mid new : Net (List Entry)) → Beside d now n net mid → Beside d now n mid new → Beside d now n net new
  beside_then net mid new f g i I a at =
      let x : BesideAt d now mid i I = f i I a at in
      let y : BesideAt d now new i x.node = g i x.node a x.at in
      record { node = y.node; at = y.at; was = both x.node y.node x.was y.was }
    where
      one : (o : Option EngineView) (x y : EngineView) → o ≡ Some x → o ≡ Some y → x ≡ y
      one o x y p q = cc

      both : (m k : NodeView) → (m ≡ I) ⊎ Granted d now I m → (k ≡ m) ⊎ Granted d now m k → (k ≡ I) ⊎ Granted d now I k
      both m k (inl p) (inl q) = inl (q ∙ p)
      both m k (inl p) (inr h) = inr (record { engine = h.engine; ran = subst (λ (N : NodeView). N.engine ≡ Some h.engine) p h.ran; moment = h.moment; runs = h.runs })
      both m k (inr h) (inl q) = inr (record { engine = h.engine; ran = h.ran; moment = ap (λ (N : NodeView). N.moment) q ∙ h.moment; runs = ap (λ (N : NodeView). N.engine) q ∙ h.runs })
      both m k (inr h) (inr j) =
          let z : j.engine ≡ granted_with d now [] h.engine = one m.engine j.engine (granted_with d now [] h.engine) j.ran h.runs in
          inr (record { engine = h.engine; ran = h.ran; moment = j.moment; runs = j.runs ∙ ap (λ (e : EngineView). let o : Option EngineView = Some (granted_with d now [] e) in o) z })

-- after these events, of which there are at most so many, the node leads; the other nodes are as they were, or have granted
pub record Elected (given : Given) (now n : ℕ) (d : LeaderId ℕ) (b : EngineView) (most : ℕ) (net : Net (List Entry)) (es : List Event) : Type 0 where
  pub won : LeadsSince b d (goes_on given es net) now n
  pub beside : Beside d now n net (goes_on given es net)
  pub count : length es ≤ most

-- from an engine that it had before
pub elected_since : (given : Given) (now n : ℕ) (d : LeaderId ℕ) (a b : EngineView) (most : ℕ) (net : Net (List Entry)) (es : List Event) → Since a b → Elected given now n d b most net es → Elected given now n d a most net es
elected_since given now n d a b most net es s h = record { won = since_then a b s d (goes_on given es net) now n h.won; beside = h.beside; count = h.count }
