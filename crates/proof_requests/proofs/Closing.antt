-- Answers to the first of a server's requests.
use Rattle.std.proofs.Common.{ℕ, ◌<◌, ◌≤◌, ◌≡◌, Bool, true, false, List, [], ◌∷◌, ◌++◌, length, take, drop, map, arith, refl, sym, ap, ◌∙◌, subst, Option, Some, append_assoc}
use Rattle.std.specs.Prelude.{Contains, nat_eq, slice_get, ◌==◌, if◌then◌else◌}
use Rattle.std.specs.List.{AllByRecursion, prefix_len, take_while}
use Rattle.std.proofs.lemmas.Bool.Decides.{nat_tests}
use Rattle.std.proofs.lemmas.List.{append-nil}
use Rattle.raft_state.specs.declared.ids.LogId.{LogId}
use Rattle.raft_state.specs.IdEquality.{log_id_eq}
use Rattle.raft_store.specs.declared.entry.Entry.{Entry}
use Rattle.raft_node.specs.declared.given.Given.{Given}
use Rattle.raft_node.specs.WellFormed.{IsWellFormed}
use Rattle.raft_answers.specs.declared.answer.Answer.{Answer}
use Rattle.raft_answers.specs.declared.answer.Answer.TheVariants.{Failed, NotLeader, Ok, Unknown}
use Rattle.raft_answers.specs.declared.answer.Reply.{Reply}
use Rattle.raft_answers.specs.declared.request.Proposal.{Proposal}
use Rattle.raft_answers.specs.declared.request.Request.{Request}
use Rattle.raft_answers.specs.Answers.{answer_at, came_upto, ended, expired, expired_replies, proposed_left, proposed_upto, refused, settled, settled_replies, waits_upto}
use Rattle.raft_answers.specs.Requests.{Open, no_requests}
use Rattle.raft_answers.proofs.True.{answers_are_true}
use Rattle.raft_core.specs.Outputs.{executed_outputs, lost_left, lost_replies, overdue_left, overdue_replies, replies_out, settled_all}
use Rattle.raft_core.specs.Laws.{replies_of}
use Rattle.raft_core.proofs.Told.{replies_are, replies_more}
use Rattle.proof_servers.specs.Servers.{Action, AllMayAct, Crashes, new_cluster}
use Rattle.proof_answers.specs.Answers.{Fails, Proposed, Told}
use Rattle.proof_clients.proofs.Sequences.{element}
use Rattle.proof_requests.specs.Answered.{AreAnswered, HasFailed, IsAnswered, IsTrue, entries_left}
use Rattle.proof_requests.specs.Requests.{AllPairs, AreOpen, ArePlaced, Asked, IsAwaited, IsWaiting, Placed, Rises}
use Rattle.proof_requests.proofs.Lists.{pairs_append, pairs_drop, pairs_take, rises_left, split_at}
use Rattle.proof_requests.proofs.Told.{IsTold, told_is, told_since}

module _ (given : Given) (actions : List Action) (placed : List Placed) (id : ℕ) where
  -- some of the first requests got these replies, and these are left
  pub record Closed (asked : List Asked) (replies : List Reply) (o : Open) : Type 0 where
    pub left : List Asked
    pub answered : AreAnswered given actions placed id asked replies left
    pub open_are : AreOpen given actions placed id o left

  pub closes_none : (asked : List Asked) (o : Open) → AreOpen given actions placed id o asked → Closed asked [] o
  closes_none asked o h = record { left = asked; answered = record { closed = []; all = refl; each = tt }; open_are = h }

  pub answered_both : (asked mid left : List Asked) (rs qs : List Reply) → AreAnswered given actions placed id asked rs mid → AreAnswered given actions placed id mid qs left → AreAnswered given actions placed id asked (rs ++ qs) left
  answered_both asked mid left rs qs a b = record {
    closed = a.closed ++ b.closed;
    all = a.all ∙ (ap (λ xs. a.closed ++ xs) b.all ∙ sym (append_assoc a.closed b.closed left));
    each = pairs_append (IsAnswered given actions placed id) a.closed rs b.closed qs a.each b.each;
  }

  -- two answer one after the other
  pub closes_both : (asked : List Asked) (rs qs : List Reply) (o : Open) → (mid : Open) → (a : Closed asked rs mid) → ((left : List Asked) → AreOpen given actions placed id mid left → Closed left qs o) → Closed asked (rs ++ qs) o
  closes_both asked rs qs o mid a f =
      let b = f a.left a.open_are in
      record { left = b.left; answered = answered_both asked a.left b.left rs qs a.answered b.answered; open_are = b.open_are }

  replies_pairs : {X : Type 0} (P : X → Asked → Type 0) (f : X → Reply) → ((x : X) (a : Asked) → P x a → IsAnswered given actions placed id a (f x)) → (xs : List X) (asks : List Asked) → AllPairs P xs asks → AllPairs (IsAnswered given actions placed id) asks (map f xs)
  replies_pairs P f g [] [] h = tt
  replies_pairs P f g [] (a ∷ asks) h = absurd h
  replies_pairs P f g (x ∷ xs) [] h = absurd h
  replies_pairs P f g (x ∷ xs) (a ∷ asks) h = (g x a h.0, replies_pairs P f g xs asks h.1)

  -- the first of those that were proposed
  pub closes_proposed : (n : ℕ) (f : Proposal → Reply) → ((p : Proposal) (a : Asked) → IsAwaited given actions placed id p a → IsAnswered given actions placed id a (f p)) → (asked : List Asked) (o : Open) → AreOpen given actions placed id o asked
      → Closed asked (map f (take n o.proposed)) (record o { proposed = drop n o.proposed })
  closes_proposed n f truth asked o h =
      let all : asked ≡ take n h.proposed ++ (drop n h.proposed ++ h.waiting) = h.all ∙ (ap (λ xs. xs ++ h.waiting) (split_at n h.proposed) ∙ append_assoc (take n h.proposed) (drop n h.proposed) h.waiting) in
      record {
        left = drop n h.proposed ++ h.waiting;
        answered = record {
          closed = take n h.proposed;
          all = all;
          each = replies_pairs (IsAwaited given actions placed id) f truth (take n o.proposed) (take n h.proposed) (pairs_take (IsAwaited given actions placed id) n o.proposed h.proposed h.awaited);
        };
        open_are = record {
          proposed = drop n h.proposed;
          waiting = h.waiting;
          all = refl;
          awaited = pairs_drop (IsAwaited given actions placed id) n o.proposed h.proposed h.awaited;
          waits = h.waits;
          rises = rises_left (take n h.proposed) (drop n h.proposed ++ h.waiting) (subst Rises all h.rises);
        };
      }

  -- all of them
  pub closes_all : (f : Proposal → Reply) → ((p : Proposal) (a : Asked) → IsAwaited given actions placed id p a → IsAnswered given actions placed id a (f p)) → (asked : List Asked) (o : Open) → AreOpen given actions placed id o asked
      → Closed asked (map f o.proposed) (record o { proposed = [] })
  closes_all f truth asked o h = record {
    left = h.waiting;
    answered = record { closed = h.proposed; all = h.all; each = replies_pairs (IsAwaited given actions placed id) f truth o.proposed h.proposed h.awaited };
    open_are = record { proposed = []; waiting = h.waiting; all = refl; awaited = tt; waits = h.waits; rises = rises_left h.proposed h.waiting (subst Rises h.all h.rises) };
  }

  none_pairs : {X : Type 0} (P : X → Asked → Type 0) (xs : List X) (asks : List Asked) → xs ≡ [] → AllPairs P xs asks → asks ≡ []
  none_pairs P [] [] q h = refl
  none_pairs P [] (a ∷ asks) q h = absurd h
  none_pairs P (x ∷ xs) asks q h = cc

  -- the first of those that wait, if none is proposed
  pub closes_waiting : (n : ℕ) (f : Request → Reply) → ((r : Request) (a : Asked) → IsWaiting given actions placed id r a → IsAnswered given actions placed id a (f r)) → (asked : List Asked) (o : Open) → o.proposed ≡ [] → AreOpen given actions placed id o asked
      → Closed asked (map f (take n o.waiting)) (record o { waiting = drop n o.waiting })
  closes_waiting n f truth asked o none h =
      let no : h.proposed ≡ [] = none_pairs (IsAwaited given actions placed id) o.proposed h.proposed none h.awaited in
      let all : asked ≡ take n h.waiting ++ drop n h.waiting = h.all ∙ (ap (λ xs. xs ++ h.waiting) no ∙ split_at n h.waiting) in
      record {
        left = drop n h.waiting;
        answered = record {
          closed = take n h.waiting;
          all = all;
          each = replies_pairs (IsWaiting given actions placed id) f truth (take n o.waiting) (take n h.waiting) (pairs_take (IsWaiting given actions placed id) n o.waiting h.waiting h.waits);
        };
        open_are = record {
          proposed = [];
          waiting = drop n h.waiting;
          all = refl;
          awaited = subst (λ xs. AllPairs (IsAwaited given actions placed id) xs []) (sym none) tt;
          waits = pairs_drop (IsWaiting given actions placed id) n o.waiting h.waiting h.waits;
          rises = rises_left (take n h.waiting) (drop n h.waiting) (subst Rises all h.rises);
        };
      }

  -- Answers without an entry

  unknown : (p : Proposal) (a : Asked) → IsAwaited given actions placed id p a → IsAnswered given actions placed id a (record { token = p.token; answer = Unknown })
  unknown p a h = (h.token, tt)

  -- nothing was proposed for one that waits
  not_proposed : (r : Request) (a : Asked) → IsWaiting given actions placed id r a → HasFailed given actions placed id a
  not_proposed r a h w c e = let l : a.number < a.number = h.fresh w a.number c e in absurd (omega (arith, l))

  pub closes_ended : (asked : List Asked) (o : Open) → AreOpen given actions placed id o asked → Closed asked (ended o.proposed) (record o { proposed = [] })
  closes_ended asked o h = closes_all (λ p. record { token = p.token; answer = Unknown }) unknown asked o h

  pub closes_lost : (lost : Bool) (asked : List Asked) (o : Open) → AreOpen given actions placed id o asked → Closed asked (lost_replies lost o) (lost_left lost o)
  closes_lost true asked o h = closes_ended asked o h
  closes_lost false asked o h = closes_none asked o h

  pub closes_refused : (leader : Option ℕ) (asked : List Asked) (o : Open) → o.proposed ≡ [] → AreOpen given actions placed id o asked → Closed asked (refused (NotLeader leader) o.waiting) (record o { waiting = [] })
  closes_refused leader asked o none h =
      let no : h.proposed ≡ [] = none_pairs (IsAwaited given actions placed id) o.proposed h.proposed none h.awaited in
      let f : Request → Reply = λ r. record { token = r.token; answer = NotLeader leader } in
      record {
        left = [];
        answered = record {
          closed = h.waiting;
          all = h.all ∙ (ap (λ xs. xs ++ h.waiting) no ∙ sym (append-nil h.waiting));
          each = replies_pairs (IsWaiting given actions placed id) f (λ r a k. (k.token, not_proposed r a k)) o.waiting h.waiting h.waits;
        };
        open_are = record { proposed = []; waiting = []; all = refl; awaited = subst (λ xs. AllPairs (IsAwaited given actions placed id) xs []) (sym none) tt; waits = tt; rises = tt };
      }

  expired_second : (ps : List Proposal) (w : List Request) (m : ℕ) (asked : List Asked) → AreOpen given actions placed id (record { proposed = ps; waiting = w }) asked
      → (let k = if length ps == 0 then m else 0 in Closed asked (refused Failed (take k w)) (record { proposed = ps; waiting = drop k w }))
  expired_second [] w m asked h = closes_waiting m (λ r. record { token = r.token; answer = Failed }) (λ r a k. (k.token, not_proposed r a k)) asked (record { proposed = []; waiting = w }) refl h
  expired_second (p ∷ ps) w m asked h =
      let some : (length (p ∷ ps) == 0) ≡ false = grind (arith, nat_tests) in
      rw some (none w h)
    where
      none : (w : List Request) → AreOpen given actions placed id (record { proposed = p ∷ ps; waiting = w }) asked → Closed asked (refused Failed (take 0 w)) (record { proposed = p ∷ ps; waiting = drop 0 w })
      none [] h = closes_none asked (record { proposed = p ∷ ps; waiting = [] }) h
      none (r ∷ w) h = closes_none asked (record { proposed = p ∷ ps; waiting = r ∷ w }) h

  pub closes_expired : (upto : ℕ) (asked : List Asked) (o : Open) → AreOpen given actions placed id o asked → Closed asked (expired_replies upto o) (expired upto o)
  closes_expired upto asked o h =
      closes_both asked (ended (take_while (proposed_upto upto) o.proposed)) _ (expired upto o) (record o { proposed = proposed_left upto o.proposed })
      (closes_proposed (prefix_len (proposed_upto upto) o.proposed) (λ p. record { token = p.token; answer = Unknown }) unknown asked o h)
      (λ left k. expired_second (proposed_left upto o.proposed) o.waiting (prefix_len (came_upto upto) o.waiting) left k)

  pub closes_overdue : (lost : Bool) (upto : ℕ) (asked : List Asked) (o : Open) → AreOpen given actions placed id o asked → Closed asked (overdue_replies lost upto o) (overdue_left lost upto o)
  closes_overdue lost upto asked o h =
      closes_both asked (lost_replies lost o) (expired_replies upto (lost_left lost o)) (overdue_left lost upto o) (lost_left lost o) (closes_lost lost asked o h)
      (λ left k. closes_expired upto left (lost_left lost o) k)

  pub closes_refused_all : (leader : Option ℕ) (asked : List Asked) (o : Open) → AreOpen given actions placed id o asked → Closed asked (ended o.proposed ++ refused (NotLeader leader) o.waiting) no_requests
  closes_refused_all leader asked o h =
      closes_both asked (ended o.proposed) (refused (NotLeader leader) o.waiting) no_requests (record o { proposed = [] }) (closes_ended asked o h)
      (λ left k. closes_refused leader left (record o { proposed = [] }) refl k)

-- Answers with an entry
module _ (given : Given) (wf : IsWellFormed given) (actions : List Action) (may : AllMayAct given actions (new_cluster given)) (placed : List Placed) (placed_are : ArePlaced given actions placed) (id : ℕ) (member : Contains given.ids id) where
  no_leader : (b c : Bool) (i : ℕ) (l : Option ℕ) → (if b then Ok i else if c then Failed else Unknown) ≡ NotLeader l → ⊥
  no_leader true c i l e = cc
  no_leader false true i l e = cc
  no_leader false false i l e = cc

  truth : (e : Entry) → IsTold given actions id e → (p : Proposal) (a : Asked) → IsAwaited given actions placed id p a → IsAnswered given actions placed id a (record { token = p.token; answer = answer_at e.log_id p })
  truth e t p a h = (h.token, go (answer_at e.log_id p) refl)
    where
      proposed : Proposed given actions h.awaits.call h.awaits.value h.awaits.entry
      proposed = element (λ (w : Placed). Proposed given actions w.call w.value w.entry) placed h.awaits placed_are.each h.there

      go : (x : Answer) → answer_at e.log_id p ≡ x → IsTrue given actions placed id a x
      go (Ok index) q =
          let f = answers_are_true.ok e.log_id p index q in
          let same : e.log_id ≡ h.awaits.entry.log_id = sym f.0 ∙ h.same in
          let there : slice_get t.taken h.awaits.entry.log_id.index ≡ Some e = subst (λ (x : LogId ℕ). slice_get t.taken x.index ≡ Some e) same t.there in
          let z : (told : Told given actions h.awaits.entry.log_id.leader_id.node_id t.flush t.commands t.taken) × (h.awaits.call ≤ told.by) =
          subst (λ d. (told : Told given actions d t.flush t.commands t.taken) × (h.awaits.call ≤ told.by)) (sym h.here)
          (t.told, told_since given wf actions may id member h.awaits.call h.awaits.value h.awaits.entry h.here proposed h.runs t.flush t.commands t.taken t.told e there same) in
          let is : h.awaits.entry ≡ e = told_is given wf actions may id member h.awaits.call h.awaits.value h.awaits.entry h.here proposed h.runs t.flush t.commands t.taken t.told e there same in
          record {
            awaits = h.awaits;
            there = h.there;
            own = h.own;
            only = h.only;
            here = h.here;
            later = h.later;
            index_is = ap (λ (x : LogId ℕ). x.index) (sym same) ∙ sym f.1;
            flush = t.flush;
            commands = t.commands;
            executes = record {
              taken = t.taken;
              told = z.0;
              since = z.1;
              runs = λ number k at l m r. h.runs number k at l (r ∙ ap (λ d. Some (Crashes d k at)) h.here);
              entry = e;
              there = there;
              same = same;
            };
            left = subst (Contains (entries_left given actions)) (sym is) t.left;
          }
      go Failed q =
          let f = answers_are_true.failed e.log_id p q in
          λ w c by.
          let is : h.awaits ≡ w = sym (h.only w c by) in
          subst (λ (w : Placed). Fails given actions w.entry) is (record {
            id = id;
            flush = t.flush;
            commands = t.commands;
            taken = t.taken;
            told = t.told;
            entry = e;
            there = ap (slice_get t.taken) (ap (λ (x : LogId ℕ). x.index) (sym h.same) ∙ f.0) ∙ t.there;
            other = λ z. f.1 (h.same ∙ sym z);
          })
      go (NotLeader l) q = absurd (no_leader (log_id_eq nat_eq p.log_id e.log_id) (nat_eq p.log_id.index e.log_id.index) e.log_id.index l q)
      go Unknown q = tt

  pub closes_settled : (e : Entry) → IsTold given actions id e → (asked : List Asked) (o : Open) → AreOpen given actions placed id o asked → Closed given actions placed id asked (settled_replies e.log_id o.proposed) (settled e.log_id o)
  closes_settled e t asked o h = closes_proposed given actions placed id (prefix_len (waits_upto e.log_id.index) o.proposed) (λ p. record { token = p.token; answer = answer_at e.log_id p }) (truth e t) asked o h

  pub closes_executed : (S : Type 0) (es : List Entry) → AllByRecursion (IsTold given actions id) es → (asked : List Asked) (o : Open)
      → AreOpen given actions placed id o asked
      → Closed given actions placed id asked (replies_of {S = S} (executed_outputs es o.proposed)) (settled_all es o)
  closes_executed S [] t asked o h = closes_none given actions placed id asked o h
  closes_executed S (e ∷ es) t asked o h =
      subst (λ rs. Closed given actions placed id asked rs (settled_all (e ∷ es) o)) (sym made)
      (closes_both given actions placed id asked (settled_replies e.log_id o.proposed)
      (replies_of {S = S} (executed_outputs es (settled e.log_id o).proposed))
      (settled_all (e ∷ es) o) (settled e.log_id o) (closes_settled e t.0 asked o h)
      (λ left k. closes_executed S es t.1 left (settled e.log_id o) k))
    where
      made : replies_of {S = S} (executed_outputs (e ∷ es) o.proposed)
          ≡ settled_replies e.log_id o.proposed ++ replies_of {S = S} (executed_outputs es (settled e.log_id o).proposed)
      made =
          replies_more {S = S} (replies_out (settled_replies e.log_id o.proposed)) (executed_outputs es (settled e.log_id o).proposed)
          ∙ ap (λ rs. rs ++ replies_of {S = S} (executed_outputs es (settled e.log_id o).proposed))
          (replies_are S (settled_replies e.log_id o.proposed))
