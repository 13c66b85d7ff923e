-- Servers of the model whose disks are the same, but for what no start reads.
use Rattle.std.proofs.Common.{ℕ, zero, suc, ◌≡◌, ◌∙◌, List, [], ◌∷◌, refl, sym, ap, subst}
use Rattle.raft_node.specs.declared.given.Given.{Given}
use Rattle.proof_packed.specs.Stores.{Application}
use Rattle.raft_packed_wire.specs.raft_packed_node.Effects.{nothing_recorded}
use Rattle.proof_requests.specs.proof_packed_servers.Checkpoints.{AreAlike, AreSameDisks, with_disks}
use Rattle.proof_requests.specs.proof_packed_servers.Servers.{Crashes, PackedCluster, PackedDisk, PackedServer, PackedWaitingStep, packed_crashed, packed_flushed}
use Rattle.proof_requests.specs.proof_packed_servers.Servers.{packed_flushed_first, packed_with_records, packed_with_server}
use Rattle.proof_requests.proofs.proof_packed_servers_proofs.Checkpoints.{all_alike}
use Rattle.proof_requests.proofs.Queues.{one_own}

module _ {S : Type 0} (app : Application S) where
  pub same_back : (d e : PackedDisk S) → AreSameDisks app d e → AreSameDisks app e d
  same_back d e is = record { store = sym is.store; moment = sym is.moment }

  pub same_both : (d e f : PackedDisk S) → AreSameDisks app d e → AreSameDisks app e f → AreSameDisks app d f
  same_both d e f one two = record { store = one.store ∙ two.store; moment = one.moment ∙ two.moment }

  -- the same server, but for its disk
  abbrev pub IsBut : PackedServer S → PackedServer S → Type 0
  IsBut one other = other ≡ record one { disk = other.disk }

  -- what clusters that are alike have at an id
  pub alike_at : (id : ℕ) (c : PackedCluster S) (t : PackedServer S) → AreAlike app c (packed_with_server id t c) → AreSameDisks app (c.servers id).disk t.disk
  alike_at id c t alike =
      subst (AreSameDisks app (c.servers id).disk)
      (sym (ap (λ (d : PackedCluster S). (d.servers id).disk) alike.is) ∙ ap (λ (x : PackedServer S). x.disk) (one_own id t c.servers)) (alike.same id)

  abbrev server_of : PackedServer S → PackedServer S
  server_of s = s

  -- so many steps are flushed
  pub flushed_but : (k : ℕ) (s : PackedServer S) (e : PackedDisk S) → IsBut (packed_flushed_first app k s) (packed_flushed_first app k (record s { disk = e }))
  flushed_but zero s e = refl
  flushed_but (suc k) s e = go s.waiting (λ w ws. flushed_but k (packed_flushed app w ws s) (packed_with_records app w.disk_records e))
    where
      go : (xs : List (PackedWaitingStep S))
          → ((w : PackedWaitingStep S) (ws : List (PackedWaitingStep S))
          → IsBut (packed_flushed_first app k (packed_flushed app w ws s)) (packed_flushed_first app k (packed_flushed app w ws (record s { disk = e }))))
          → IsBut
          (server_of (elim xs as (λ _. PackedServer S) [ [] ↦ s | w ∷ ws ↦ packed_flushed_first app k (packed_flushed app w ws s) ]))
          (server_of (elim xs as (λ _. PackedServer S) [
            | [] ↦ record s { disk = e }
            | w ∷ ws ↦ packed_flushed_first app k (packed_flushed app w ws (record s { disk = e }))
          ]))
      go [] rest = refl
      go (w ∷ ws) rest = rest w ws

  module _ (given : Given) (s : PackedServer S) (e : PackedDisk S) (same : AreSameDisks app s.disk e) where
    -- the server on the other disk
    abbrev pub other : PackedServer S
    other = record s { disk = e }

    -- both crash
    pub record Crashed (id k at : ℕ) : Type 0 where
      pub disk : PackedDisk S
      pub disks : AreSameDisks app (packed_crashed app given id k at s).disk disk
      pub is : packed_crashed app given id k at other ≡ record (packed_crashed app given id k at s) { disk = disk }

    pub crashed : (id k at : ℕ) → Crashed id k at
    crashed id k at =
        let one : PackedCluster S = record { servers = λ _. s; released = nothing_recorded } in
        let alike = all_alike app given (Crashes id k at ∷ []) one (with_disks (λ _. e) one) (record { disks = λ _. e; is = refl; same = λ _. same }) in
        let own : (t : PackedServer S) (c : PackedCluster S) → (packed_with_server id t c).servers id ≡ t = λ t c. one_own id t c.servers in
        record {
          disk = alike.disks id;
          disks = subst (λ (t : PackedServer S). AreSameDisks app t.disk (alike.disks id)) (own (packed_crashed app given id k at s) one) (alike.same id);
          is =
              sym (own (packed_crashed app given id k at other) (with_disks (λ _. e) one))
              ∙ (ap (λ (c : PackedCluster S). c.servers id) alike.is
              ∙ ap (λ (t : PackedServer S). record t { disk = alike.disks id }) (own (packed_crashed app given id k at s) one));
        }

    -- or so many steps of both are flushed
    pub flushed_alike : (k : ℕ) → AreSameDisks app (packed_flushed_first app k s).disk (packed_flushed_first app k other).disk
    flushed_alike k =
        let both : Crashed 0 k 0 = crashed 0 k 0 in
        subst (AreSameDisks app (packed_flushed_first app k s).disk) (sym (ap (λ (t : PackedServer S). t.disk) both.is)) both.disks
