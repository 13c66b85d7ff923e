-- Only a `Respond` sends replies, at its turn.
use Rattle.std.specs.Prelude.{◌≡◌, ◌<◌, ◌≤◌, ℕ, List, [], ◌∷◌, ◌++◌, length, slice_get, Option, None, Some, refl}
use Rattle.std.specs.List.{AllByRecursion}
use Rattle.std.proofs.Common.{◌∙◌, sym, ap, subst, arith, append_assoc, zero, suc, ⊎_elim}
use Rattle.std.proofs.lemmas.Bool.{cases_lt}
use Rattle.std.proofs.lemmas.List.{append-nil}
use Rattle.std.proofs.lemmas.Option.{slice_get_past}
use Rattle.raft_store.specs.declared.entry.Entry.{Entry}
use Rattle.raft_store.specs.Types.{WorldCommand}
use Rattle.raft_calls.specs.declared.message.Message.{Message}
use Rattle.raft_node.specs.declared.node.Turn.{Turn}
use Rattle.raft_node.specs.Commands.{executed, next_command}
use Rattle.raft_node.specs.InTurn.{IsReply}
use Rattle.raft_node.specs.Work.{Work, work_step, worked}
use Rattle.raft_node.proofs.InTurnSteps.{IsRespond, Next, Turns, executed_next, next_some, step_turns, worked_next, worked_none}

module _ {X : Type 0} where
  pub get_left : (xs ys : List X) (i : ℕ) → i < length xs → slice_get (xs ++ ys) i ≡ slice_get xs i
  get_left [] ys i h = absurd (omega (arith, h))
  get_left (x ∷ xs) ys zero h = refl
  get_left (x ∷ xs) ys (suc i) h = get_left xs ys i (omega (arith, h))

  each_get : (P : X → Type 0) (xs : List X) (i : ℕ) (x : X) → slice_get xs i ≡ Some x → AllByRecursion P xs → P x
  each_get P [] i x e h = cc
  each_get P (y ∷ ys) zero x e h = let q : y ≡ x = cc in subst P q h.0
  each_get P (y ∷ ys) (suc i) x e h = each_get P ys i x e h.1

  each_behind : (P : X → Type 0) (xs ys : List X) (i : ℕ) (x : X) → length xs ≤ i → slice_get (xs ++ ys) i ≡ Some x → AllByRecursion P ys → P x
  each_behind P [] ys i x h e all = each_get P ys i x e all
  each_behind P (y ∷ xs) ys zero x h e all = absurd (omega (arith, h))
  each_behind P (y ∷ xs) ys (suc i) x h e all = each_behind P xs ys i x (omega (arith, h)) e all

module _ {L : Type 0} (keep : List Entry → L) (t : Turn) where
  -- the bag of a node at work
  abbrev pub bag_in : Work L → List Message
  bag_in w = w.effects.records.bag

  -- it grows
  record Grows (old new : Work L) : Type 0 where
    more : List Message
    is : bag_in new ≡ bag_in old ++ more

  worked_grows : (k : ℕ) (w : Work L) → Grows w (worked keep k t w)
  unfolding worked
  worked_grows zero w = record { more = []; is = sym (append-nil (bag_in w)) }
  worked_grows (suc k) w = go (next_command w) refl (worked_grows k (work_step keep t w))
    where
      go : (o : Option WorldCommand) → next_command w ≡ o → Grows (work_step keep t w) (worked keep k t (work_step keep t w)) → Grows w (worked keep (suc k) t w)
      go None h rest = record { more = []; is = ap bag_in (worked_none keep t (suc k) w h) ∙ sym (append-nil (bag_in w)) }
      go (Some c) h rest =
          let n : Next keep t w c = next_some keep t w c h in
          let one : Turns c w.effects (work_step keep t w).effects = step_turns keep t w c n in
          record {
            more = one.sent ++ rest.more;
            is = ap bag_in (worked_next keep t k w c n) ∙ (rest.is ∙ (ap (λ ms. ms ++ rest.more) one.bag ∙ append_assoc (bag_in w) one.sent rest.more));
          }

  -- number i is sent by a reply, at its turn
  pub record SentBy (k : ℕ) (w : Work L) (i : ℕ) (m : Message) : Type 0 where
    pub turn : ℕ
    pub command : WorldCommand
    pub is : slice_get (executed keep t k w) turn ≡ Some command
    pub responds : IsRespond command
    pub unsent : length (bag_in (worked keep turn t w)) ≤ i
    pub sent : slice_get (bag_in (worked keep (suc turn) t w)) i ≡ Some m

  pub sent_by : (k : ℕ) (w : Work L) (i : ℕ) (m : Message) → length (bag_in w) ≤ i → slice_get (bag_in (worked keep k t w)) i ≡ Some m → IsReply m.body → SentBy k w i m
  unfolding worked
  sent_by zero w i m old e r = let none : slice_get (bag_in w) i ≡ None = slice_get_past (bag_in w) i old in cc
  sent_by (suc k) w i m old e r = go (next_command w) refl (λ l x. sent_by k (work_step keep t w) i m l x r)
    where
      here : (c : WorldCommand) → next_command w ≡ Some c → Next keep t w c → Turns c w.effects (work_step keep t w).effects
          → slice_get (bag_in (worked keep k t (work_step keep t w))) i ≡ Some m → i < length (bag_in (work_step keep t w)) → SentBy (suc k) w i m
      here c h n one x l =
          let grown : Grows (work_step keep t w) (worked keep k t (work_step keep t w)) = worked_grows k (work_step keep t w) in
          let now : slice_get (bag_in (work_step keep t w)) i ≡ Some m = sym (get_left (bag_in (work_step keep t w)) grown.more i l) ∙ (sym (ap (λ ms. slice_get ms i) grown.is) ∙ x) in
          record {
            turn = 0;
            command = c;
            is = ap (λ cs. slice_get cs 0) (executed_next keep t k w c h);
            responds = each_behind (λ (m : Message). IsReply m.body → IsRespond c) (bag_in w) one.sent i m old (sym (ap (λ ms. slice_get ms i) one.bag) ∙ now) one.sends r;
            unsent = old;
            sent = ap (λ (x : Work L). slice_get (bag_in x) i) (worked_next keep t 0 w c n) ∙ now;
          }

      later : (c : WorldCommand) → next_command w ≡ Some c → Next keep t w c → SentBy k (work_step keep t w) i m → SentBy (suc k) w i m
      later c h n s = record {
        turn = suc s.turn;
        command = s.command;
        is = ap (λ cs. slice_get cs (suc s.turn)) (executed_next keep t k w c h) ∙ s.is;
        responds = s.responds;
        unsent = subst (λ (x : Work L). length (bag_in x) ≤ i) (sym (worked_next keep t s.turn w c n)) s.unsent;
        sent = ap (λ (x : Work L). slice_get (bag_in x) i) (worked_next keep t (suc s.turn) w c n) ∙ s.sent;
      }

      go : (o : Option WorldCommand) → next_command w ≡ o
          → (length (bag_in (work_step keep t w)) ≤ i → slice_get (bag_in (worked keep k t (work_step keep t w))) i ≡ Some m → SentBy k (work_step keep t w) i m) → SentBy (suc k) w i m
      go None h rest =
          let none : slice_get (bag_in w) i ≡ None = slice_get_past (bag_in w) i old in
          let some : slice_get (bag_in w) i ≡ Some m = sym (ap (λ (x : Work L). slice_get (bag_in x) i) (worked_none keep t (suc k) w h)) ∙ e in
          cc
      go (Some c) h rest =
          let n : Next keep t w c = next_some keep t w c h in
          let x : slice_get (bag_in (worked keep k t (work_step keep t w))) i ≡ Some m = sym (ap (λ (x : Work L). slice_get (bag_in x) i) (worked_next keep t k w c n)) ∙ e in
          ⊎_elim (λ l. here c h n (step_turns keep t w c n) x l) (λ l. later c h n (rest l x)) (cases_lt i (length (bag_in (work_step keep t w))))
