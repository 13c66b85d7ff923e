-- A watch has seen all commands of a node at work, in their order.
use Rattle.std.specs.Prelude.{refl, ℕ, ◌≡◌, ◌<◌, ◌≤◌, ◌∷◌, true, false, List, [], length, Option, None, Some, Result, Ok, Err, OnOk}
use Rattle.std.specs.List.{fold}
use Rattle.std.specs.Option.{option_to_list}
use Rattle.std.proofs.Common.{◌∙◌, ap, arith, suc, sym, zero}
use Rattle.std.proofs.lemmas.List.{length-take, take_all}
use Rattle.raft_schedule.specs.declared.event.Event.{Event}
use Rattle.raft_schedule.specs.declared.event.SkipReason.{SkipReason}
use Rattle.raft_store.specs.declared.entry.Entry.{Entry}
use Rattle.raft_store.specs.Types.{WorldCommand}
use Rattle.raft_node.specs.declared.act.Act.{Act}
use Rattle.raft_node.specs.declared.given.Given.{Given}
use Rattle.raft_calls.specs.declared.message.Message.{Message}
use Rattle.raft_node.specs.declared.node.Turn.{Turn}
use Rattle.raft_node.specs.Commands.{all_executed, commands_at, executed, next_command}
use Rattle.raft_node.specs.Events.{Scene, called_at, calls, moment_of, requested, skip_reason, turn_of, work_of}
use Rattle.raft_node.specs.Work.{Work, idle, weight, work_step}
use Rattle.raft_node.proofs.Falls.{falls}
use Rattle.raft_node.proofs.InTurnSteps.{executed_first, executed_next, executed_none, next_busy, next_none, next_some}
use Rattle.raft_node.proofs.Keeping.{turn_along}

module _ {L : Type 0} (keep : List Entry → L) (t : Turn) where
  -- once nothing is left, more steps execute nothing more
  executed_more : (m n : ℕ) (w : Work L) → weight w ≤ m → m ≤ n → executed keep t n w ≡ executed keep t m w
  executed_more m n w h le =
      let short : length (executed keep t m w) ≤ m =
      omega (arith, ap length (executed_first keep t m m w h), length-take m (executed keep t m w)) in
      sym (executed_first keep t n m w (omega (arith, h))) ∙ take_all n (executed keep t m w) (omega (arith, short, le))

  -- an idle node executes nothing
  pub executed_idle : (w : Work L) → idle w ≡ true → all_executed keep t w ≡ []
  executed_idle w h = go (next_command w) refl
    where
      go : (o : Option WorldCommand) → next_command w ≡ o → all_executed keep t w ≡ []
      go None q = executed_none keep t (weight w) w q
      go (Some c) q = let f : false ≡ true = sym (next_busy keep t w c (next_some keep t w c q)) ∙ h in absurd (cc)

  -- a busy one executes the next command, and then the others
  pub executed_busy : (w : Work L) → idle w ≡ false → (c : WorldCommand) → next_command w ≡ Some c → all_executed keep t w ≡ c ∷ all_executed keep t (work_step keep t w)
  executed_busy w h c q = go (weight w) refl
    where
      less : weight (work_step keep t w) < weight w
      less = falls keep t w h

      go : (n : ℕ) → weight w ≡ n → executed keep t n w ≡ c ∷ all_executed keep t (work_step keep t w)
      go zero e = absurd (omega (arith, less, e))
      go (suc n) e =
          executed_next keep t n w c q ∙ ap (λ cs. c ∷ cs) (executed_more (weight (work_step keep t w)) n (work_step keep t w) (omega arith) (omega (arith, less, e)))

module _ {L S : Type 0} (keep : List Entry → L) (t : Turn) (sees : S → WorldCommand → S) where
  -- what is seen with all that is left
  pub seen_idle : (w : Work L) (a : S) → idle w ≡ true → fold sees a (all_executed keep t w) ≡ a
  seen_idle w a h = ap (fold sees a) (executed_idle keep t w h)

  -- is what is seen once the next command was seen, with all that is left then
  pub seen_next : (w v : Work L) (a b : S) → v ≡ work_step keep t w → idle w ≡ false → b ≡ fold sees a (option_to_list (next_command w))
      → fold sees b (all_executed keep t v) ≡ fold sees a (all_executed keep t w)
  seen_next w v a b is busy seen = go (next_command w) refl
    where
      go : (o : Option WorldCommand) → next_command w ≡ o → fold sees b (all_executed keep t v) ≡ fold sees a (all_executed keep t w)
      go None q = let f : false ≡ true = sym busy ∙ next_none keep t w q in absurd (cc)
      go (Some c) q =
          let one : b ≡ sees a c = seen ∙ ap (λ (o : Option WorldCommand). fold sees a (option_to_list o)) q in
          ap (λ (u : Work L). fold sees b (all_executed keep t u)) is
          ∙ (ap (λ (x : S). fold sees x (all_executed keep t (work_step keep t w))) one ∙ sym (ap (fold sees a) (executed_busy keep t w busy c q)))

-- the commands of an event, by its turn and the calls that were made
module _ {L S : Type 0} (keep : List Entry → L) (given : Given) (act : Act) (event : Event) (s : Scene L) (sees : S → WorldCommand → S) where
  taken : skip_reason act s.node ≡ None
      → all_executed keep (turn_of act (called_at (moment_of event s.node) s).node) (work_of event.stop (calls given act (called_at (moment_of event s.node) s)).1)
      ≡ commands_at keep given act event s
  taken none =
      ap (λ (o : Option SkipReason). elim o as (λ _. List WorldCommand) [
        | Some reason ↦ []
        | None ↦ all_executed keep (turn_of act (called_at (moment_of event s.node) s).node) (work_of event.stop (calls given act (called_at (moment_of event s.node) s)).1)
      ]) (sym none)

  pub watched_along : (a b : S) (id moment : ℕ) (request : Option Message) (r : Option ℕ × Scene L) → id ≡ s.node.id → moment ≡ moment_of event s.node → request ≡ requested act
      → r ≡ calls given act (called_at moment s) → skip_reason act s.node ≡ None
      → {X E : Type 0} (o : Result X E) → OnOk o (b ≡ fold sees a (all_executed keep (record { id = id; moment = moment; request = request }) (work_of event.stop r.1)))
      → OnOk o (b ≡ fold sees a (commands_at keep given act event s))
  watched_along a b id moment request r named at asked is none (Err e) h = tt
  watched_along a b id moment request r named at asked is none (Ok x) h =
      turn_along keep given act event s (λ t w. b ≡ fold sees a (all_executed keep t w) → b ≡ fold sees a (commands_at keep given act event s))
      id moment request r named at asked is (λ q. q ∙ ap (fold sees a) (taken none)) h
