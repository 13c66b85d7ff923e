-- A watch has seen all commands of a node at work, in their order.
use Rattle.std.specs.Prelude.{refl, ℕ, ◌≡◌, ◌<◌, ◌≤◌, ◌∷◌, true, false, List, [], Option, None, Some}
use Rattle.std.specs.List.{fold}
use Rattle.std.specs.Option.{option_to_list}
use Rattle.std.proofs.Common.{◌∙◌, ap, arith, suc, sym, zero}
use Rattle.raft_store.specs.Types.{WorldCommand}
use Rattle.raft_node.specs.declared.node.Turn.{Turn}
use Rattle.raft_node.specs.Commands.{next_command_of}
use Rattle.proof_packed.specs.Nodes.{PackedWork, packed_idle, packed_work_step}
use Rattle.proof_packed.specs.Records.{packed_executed}
use Rattle.proof_packed.specs.Stores.{Application, Packed}
use Rattle.raft_packed_node.specs.Effects.{all_executed, weight}
use Rattle.raft_packed_node.proofs.Falls.{falls}
use Rattle.raft_packed_node.proofs.Queued.{busy_by, idle_by}

module _ {S : Type 0} (app : Application S) (t : Turn) (brought : Packed S) where
  abbrev step : PackedWork S → PackedWork S
  step w = packed_work_step app t brought w

  executed_next : (n : ℕ) (w : PackedWork S) (c : WorldCommand) → next_command_of w.engine ≡ Some c → packed_executed app t brought (suc n) w ≡ c ∷ packed_executed app t brought n (step w)
  executed_next n w c h = rw (h, packed_executed) refl

  executed_none : (n : ℕ) (w : PackedWork S) → next_command_of w.engine ≡ None → packed_executed app t brought n w ≡ []
  executed_none zero w h = refl
  executed_none (suc n) w h = rw (h, packed_executed) refl

  falling : (w : PackedWork S) (c : WorldCommand) → next_command_of w.engine ≡ Some c → weight (step w) < weight w
  falling w c q = falls app t brought w (busy_by w.engine c q)

  -- once nothing is left, more steps execute nothing more
  executed_enough : (m n : ℕ) (w : PackedWork S) → weight w ≤ m → weight w ≤ n → packed_executed app t brought m w ≡ packed_executed app t brought n w
  executed_enough zero n w h k = go (next_command_of w.engine) refl
    where
      go : (o : Option WorldCommand) → next_command_of w.engine ≡ o → packed_executed app t brought zero w ≡ packed_executed app t brought n w
      go None q = executed_none zero w q ∙ sym (executed_none n w q)
      go (Some c) q = absurd (omega (arith, falling w c q, h))
  executed_enough (suc m) zero w h k = go (next_command_of w.engine) refl
    where
      go : (o : Option WorldCommand) → next_command_of w.engine ≡ o → packed_executed app t brought (suc m) w ≡ packed_executed app t brought zero w
      go None q = executed_none (suc m) w q ∙ sym (executed_none zero w q)
      go (Some c) q = absurd (omega (arith, falling w c q, k))
  executed_enough (suc m) (suc n) w h k = go (next_command_of w.engine) refl (λ l r. executed_enough m n (step w) l r)
    where
      go : (o : Option WorldCommand) → next_command_of w.engine ≡ o
          → (weight (step w) ≤ m → weight (step w) ≤ n → packed_executed app t brought m (step w) ≡ packed_executed app t brought n (step w))
          → packed_executed app t brought (suc m) w ≡ packed_executed app t brought (suc n) w
      go None q same = executed_none (suc m) w q ∙ sym (executed_none (suc n) w q)
      go (Some c) q same =
          executed_next m w c q
          ∙ (ap (λ cs. c ∷ cs) (same (omega (arith, falling w c q, h)) (omega (arith, falling w c q, k))) ∙ sym (executed_next n w c q))

  -- a busy node executes the next command, and then the others
  executed_busy : (w : PackedWork S) (c : WorldCommand) → next_command_of w.engine ≡ Some c → all_executed app t brought w ≡ c ∷ all_executed app t brought (step w)
  executed_busy w c q = go (weight w) refl
    where
      go : (n : ℕ) → weight w ≡ n → packed_executed app t brought n w ≡ c ∷ all_executed app t brought (step w)
      go zero e = absurd (omega (arith, falling w c q, e))
      go (suc n) e =
          executed_next n w c q ∙ ap (λ cs. c ∷ cs) (executed_enough n (weight (step w)) (step w) (omega (arith, falling w c q, e)) (omega arith))

  module _ {V : Type 0} (sees : V → WorldCommand → V) where
    -- what is seen with all that is left
    pub seen_idle : (w : PackedWork S) (a : V) → packed_idle app t brought w ≡ true → fold sees a (all_executed app t brought w) ≡ a
    seen_idle w a h = go (next_command_of w.engine) refl
      where
        go : (o : Option WorldCommand) → next_command_of w.engine ≡ o → fold sees a (all_executed app t brought w) ≡ a
        go None q = ap (fold sees a) (executed_none (weight w) w q)
        go (Some c) q = let f : false ≡ true = sym (busy_by w.engine c q) ∙ h in absurd (cc)

    -- is what is seen once the next command was seen, with all that is left then
    pub seen_next : (w v : PackedWork S) (a b : V) → v ≡ step w → packed_idle app t brought w ≡ false → b ≡ fold sees a (option_to_list (next_command_of w.engine))
        → fold sees b (all_executed app t brought v) ≡ fold sees a (all_executed app t brought w)
    seen_next w v a b is busy seen = go (next_command_of w.engine) refl
      where
        go : (o : Option WorldCommand) → next_command_of w.engine ≡ o → fold sees b (all_executed app t brought v) ≡ fold sees a (all_executed app t brought w)
        go None q = let f : false ≡ true = sym busy ∙ idle_by w.engine q in absurd (cc)
        go (Some c) q =
            let one : b ≡ sees a c = seen ∙ ap (λ (o : Option WorldCommand). fold sees a (option_to_list o)) q in
            ap (λ (u : PackedWork S). fold sees b (all_executed app t brought u)) is
            ∙ (ap (λ (x : V). fold sees x (all_executed app t brought (step w))) one ∙ sym (ap (fold sees a) (executed_busy w c q)))
