-- What a leader knows to match of a node's log is held by the node, if the node's vote isn't above the leader's.
use Rattle.std.proofs.Common.{ℕ, suc, ◌<◌, ◌≤◌, ◌≡◌, inr, ⊎_elim, Bool, true, false, cond, List, [], ◌∷◌, length, arith, refl, sym, ap, ◌∙◌, subst, Some}
use Rattle.std.specs.List.{AllByRecursion}
use Rattle.std.specs.Option.{option_map}
use Rattle.std.specs.Prelude.{find}
use Rattle.std.specs.Ordering.{nat_cmp}
use Rattle.std.proofs.lemmas.Bool.{true≢false}
use Rattle.proof_deeds.specs.raft_state.Same.{nat_same}
use Rattle.proof_deeds.proofs.raft_state_proofs.Orders.{is_equal}
use Rattle.proof_deeds.specs.raft_progress.Table.{is_row_of, row_of}
use Rattle.proof_deeds.specs.proof_agreement.Machine.{Agree, Includes, Setup, World, leader_log, log_of}
use Rattle.proof_deeds.specs.proof_agreement.Stores.{Accepted, Append, AppendRequest, Stores, whole}
use Rattle.proof_deeds.specs.proof_agreement.Deeds.{HasAccepted, Holds, Names}
use Rattle.proof_deeds.proofs.proof_agreement_proofs.Invariants.{Contradicts, DecidedPast, MayLack, limit, limit_of}
use Rattle.proof_deeds.proofs.proof_agreement_proofs.LogDeeds.{named}
use Rattle.proof_deeds.proofs.proof_agreement_proofs.StoresFollow.{AcceptedOk, AppendRequestOk, StoreOk, StoresFollow}

-- In a reached world of stores, where groups may change: a node whose vote isn't above a leader's holds what it accepted of it
module _ {A : Type 0} (s : Setup A) (changing : s.groups_kept ≡ false) (since : World A) (W : Stores A) (K : StoresFollow s since W) where
  pub accepted_held : (m d k x : ℕ) (r : Append A) → HasAccepted W m d k → (W.store m).vote ≤ d → Includes W.messages (AppendRequest r) → r.session.leader ≡ d → Names s r k x → Holds s (W.store m) k x
  accepted_held m d k x r a low sent own nm = ⊎_elim (λ (g : Agree (suc k) (log_of K.world m) (leader_log K.world d)). held g) (λ (l : MayLack s K.world (limit (K.world.node m)) d k). absurd (lacks l)) ((K.inv.node m).kept d k past)
    where
      c : AcceptedOk s K.world m d a.last a.upto
      c = subst (λ v. AcceptedOk s K.world m v a.last a.upto) a.leader (K.told.message (Accepted m a.session a.last a.upto) a.sent)

      q : AppendRequestOk s K.world d r
      q = subst (λ v. AppendRequestOk s K.world v r) own (K.told.message (AppendRequest r) sent)

      z : (k < (leader_log K.world d).len) × (((leader_log K.world d).at k).leader ≡ x)
      z = named s K.world d r k x q nm

      S : StoreOk s (K.world.node m) (W.store m)
      S = K.store m

      past : k < K.world.acknowledged m d
      past = let u : k < a.upto = a.past in let v : a.upto ≤ K.world.acknowledged m d = c.acknowledged in omega (arith, u, v)

      held : Agree (suc k) (log_of K.world m) (leader_log K.world d) → Holds s (W.store m) k x
      held g =
          let in_log : k < (log_of K.world m).len = let u : suc k ≤ (log_of K.world m).len = g.left in omega (arith, u) in
          let len : (log_of K.world m).len ≡ length (whole (W.store m)) = S.log.len in
          inr (omega (arith, in_log, len), ap (λ y. y.leader) (sym (S.log.agree.same k in_log) ∙ g.same k (omega arith)) ∙ z.1)

      below : (b : Bool) (v l : ℕ) → l < limit_of b v → v ≤ d → d < l → ⊥
      below true v l u w e = omega (arith, u, w, e)
      below false v l u w e = omega (arith, u, w, e)

      lacks : MayLack s K.world (limit (K.world.node m)) d k → ⊥
      lacks l =
          ⊎_elim
          (λ (c : Contradicts K.world l.leader d k). below (K.world.node m).vote_committed (K.world.node m).vote l.leader l.low (let e : (K.world.node m).vote ≡ (W.store m).vote = S.vote in omega (arith, e, low)) c.above)
          (λ (p : DecidedPast s K.world l.leader k). true≢false (sym p.0 ∙ changing)) l.why

-- a node's row, of what holds of each
pub row_known : {V : Type 0} (P : ℕ × V → Type 0) (t : ℕ) (e : V) (rows : List (ℕ × V)) → AllByRecursion P rows → row_of nat_cmp t rows ≡ Some e → P (t, e)
row_known P t e [] a h = cc
row_known P t e (row ∷ rows) a h = go (is_row_of nat_cmp t row) refl (row_known P t e rows a.1) h
  where
    go : (b : Bool) → is_row_of nat_cmp t row ≡ b → (row_of nat_cmp t rows ≡ Some e → P (t, e)) → option_map (λ (r : ℕ × _). r.1) (cond b (Some row) (find (is_row_of nat_cmp t) rows)) ≡ Some e → P (t, e)
    go true q f k =
        let i : t ≡ row.0 = nat_same t row.0 (is_equal _ q) in
        let v : row.1 ≡ e = cc in
        subst (λ (u : _). P (t, u)) v (subst (λ (j : ℕ). P (j, row.1)) (sym i) a.0)
    go false q f k = f k
