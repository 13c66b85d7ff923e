-- A write: requests whose lead is over are answered, and those that wait are proposed, or answered.
use Rattle.std.proofs.Common.{ℕ, ◌+◌, ◌<◌, ◌≤◌, ◌≡◌, ◌≢◌, ◌⊎◌, inl, inr, ⊎_elim, Bool, true, false, List, [], ◌∷◌, ◌++◌, length, take, drop, map, arith, refl, sym, ap, ◌∙◌, subst, Option, None, Some, append_assoc}
use Rattle.std.specs.Prelude.{Contains, IfSome, slice_get}
use Rattle.std.specs.List.{AllByRecursion}
use Rattle.std.specs.Option.{option_map}
use Rattle.std.proofs.Math.Nat.{min-eq_left}
use Rattle.std.proofs.lemmas.List.{append-nil, length-append, map-append}
use Rattle.std.proofs.lemmas.List.Elements.{Contains-append_cases, Contains-append_left, Contains-append_right}
use Rattle.raft_state.specs.declared.ids.LogId.{LogId}
use Rattle.raft_store.specs.declared.entry.Entry.{Entry}
use Rattle.raft_store.specs.declared.entry.Value.{Value}
use Rattle.raft_store.specs.declared.entry.Value.TheVariants.{Bytes}
use Rattle.raft_store.specs.Types.{EngineView}
use Rattle.raft_schedule.specs.declared.event.Outcome.{Outcome}
use Rattle.raft_schedule.specs.declared.event.Outcome.TheVariants.{Done, Refused, Skipped, Stopped}
use Rattle.raft_calls.specs.declared.message.Message.{Message}
use Rattle.raft_codec.specs.Codec.{Codec}
use Rattle.raft_node.specs.declared.act.Act.{Act}
use Rattle.raft_node.specs.declared.act.Act.TheVariants as acts
use Rattle.raft_node.specs.declared.act.Act.TheVariants.{Propose}
use Rattle.raft_node.specs.declared.given.Given.{Given}
use Rattle.raft_node.specs.Net.{NodeView, no_records}
use Rattle.raft_node.specs.WellFormed.{IsWellFormed}
use Rattle.raft_answers.specs.declared.answer.Answer.TheVariants.{NotLeader}
use Rattle.raft_answers.specs.declared.answer.Reply.{Reply}
use Rattle.raft_answers.specs.declared.batch.Place.{Place}
use Rattle.raft_answers.specs.declared.request.Operation.{Operation}
use Rattle.raft_answers.specs.declared.request.Operation.TheVariants.{Read, Write}
use Rattle.raft_answers.specs.declared.request.Proposal.{Proposal}
use Rattle.raft_answers.specs.declared.request.Request.{Request}
use Rattle.raft_answers.specs.Answers.{ended, failed, refused}
use Rattle.raft_answers.specs.Laws.{with_places}
use Rattle.raft_answers.specs.Requests.{Batched, Open, no_requests, proposal_at}
use Rattle.proof_packed.specs.Nodes.{PackedNode, bare_engine}
use Rattle.proof_packed.specs.Stores.{Application}
use Rattle.raft_core.specs.proof_packed_servers.Servers.{PackedServer, PackedStep, packed_played_alone, packed_with_step, server_packed}
use Rattle.raft_core.specs.proof_packed_servers.Servers.{step_packed}
use Rattle.raft_core.specs.raft_packed_server.declared.serving.Serving.{Serving}
use Rattle.raft_core.specs.raft_packed_server.Represents.{Represents, StandsFor}
use Rattle.raft_core.specs.raft_packed_server.Views.{ServerView}
use Rattle.raft_core.specs.raft_peers.declared.output.Output.{Output}
use Rattle.raft_core.specs.Calls.{Asks, Becomes, IsNext, IsNextId, Proposes, ProposesBatch, Writes, WritesNow, appended}
use Rattle.raft_core.specs.Laws.{replies_of}
use Rattle.raft_core.specs.Outputs.{lost_left, lost_replies}
use Rattle.raft_core.specs.Steps.{step_at, steps_at, with_steps}
use Rattle.raft_core.specs.Views.{CoreView}
use Rattle.raft_core.proofs.Told.{before_read, none_appended}
use Rattle.proof_clients.proofs.Sequences.{element, each_of}
use Rattle.proof_clients.proofs.Slots.{here, slot_below, there}
use Rattle.proof_servers.specs.Servers.{Action, AllMayAct, Crashes, MayTake, Server, Step, Takes, after_actions, new_cluster, played_alone}
use Rattle.proof_answers.specs.Answers.{Proposed, StepAppends, node_then}
use Rattle.proof_answers.proofs.Prefixes.{slot_cases, slot_last}
use Rattle.proof_requests.specs.Actions.{AreSteps, taking, written}
use Rattle.proof_requests.specs.Answered.{AreAnswered, IsAnswered}
use Rattle.proof_requests.specs.Entries.{value_at}
use Rattle.proof_requests.specs.Frames.{frames_of}
use Rattle.proof_requests.specs.Laws.{IsOwnAction, Keeps, OfCalls}
use Rattle.proof_requests.specs.Requests.{AllPairs, AreApart, AreOfTwo, AreOnce, AreOpen, ArePlaced, AreSingle, Asked, IsAwaited, IsCore, IsMarked, IsOwn, IsWaiting, Placed, Rises, Wrote, server_after}
use Rattle.proof_requests.proofs.Batches.{HasPlace, IsOf, Mark, Marked, batch_marked, bytes_of, marks_single, placed_at, placed_from, placed_in, placed_once, placed_single, placed_there}
use Rattle.proof_requests.proofs.Calls.{stepped}
use Rattle.proof_requests.proofs.Closing.{Closed, answered_both, closes_both, closes_lost, closes_none, closes_refused_all}
use Rattle.proof_requests.proofs.Kept.{all_awaited_on, all_waiting_on, open_kept, own_no_crash, placed_kept, steps_may, steps_no_proposal, steps_own}
use Rattle.proof_requests.proofs.Lists.{all_append, all_in, contains_take, map_slot, none_in, pairs_append, pairs_drop, pairs_of, pairs_take, rises_apart, rises_first, rises_left, slot_map, slot_none, split_at}
use Rattle.proof_requests.proofs.More.{may_both, proposed_less, proposed_more, server_there}
use Rattle.proof_requests.proofs.Packs.{acts_at, acts_packed, asked_acts, asked_are, outcome_packed, proposed_acts, proposed_are, stands_after}
use Rattle.proof_requests.proofs.Sent.{AreSent, no_written_frames, none_sent}
use Rattle.proof_requests.proofs.Steps.{Appends, DoneBy, Nothing, appends, come, nothing_appended, one_appended, only_appended}

once_append : (xs ys : List Placed) → AreOnce xs → AreOnce ys → ((v w : Placed) → Contains xs v → Contains ys w → AreApart v w) → AreOnce (xs ++ ys)
once_append [] ys a b f = b
once_append (x ∷ xs) ys a b f = (
  all_append (AreApart x) xs ys a.0 (all_in (AreApart x) ys (λ w c. f x w (here x xs) c)),
  once_append xs ys a.1 b (λ v w c d. f v w (there x xs v c) d),
)

single_append : (xs ys : List Placed) → AreSingle xs → AreSingle ys → ((v w : Placed) → Contains xs v → Contains ys w → AreOfTwo v w) → AreSingle (xs ++ ys)
single_append [] ys a b f = b
single_append (x ∷ xs) ys a b f = (
  all_append (AreOfTwo x) xs ys a.0 (all_in (AreOfTwo x) ys (λ w c. f x w (here x xs) c)),
  single_append xs ys a.1 b (λ v w c d. f v w (there x xs v c) d),
)

becomes_done : (first : LogId ℕ) (places : List Place) (old new : Open) (told replies : List Reply) (o : Outcome) → o ≡ Done → Becomes o first places old told new replies → (new ≡ with_places first places old) × (replies ≡ told)
becomes_done first places old new told replies o q b = subst (λ x. Becomes x first places old told new replies) q b

becomes_failed : (first : LogId ℕ) (places : List Place) (old new : Open) (told replies : List Reply) (o : Outcome) → o ≢ Done → Becomes o first places old told new replies
    → (new ≡ record old { proposed = [] }) × (replies ≡ told ++ (ended old.proposed ++ failed places))
becomes_failed first places old new told replies Done d b = absurd (d refl)
becomes_failed first places old new told replies (Refused n) d b = b
becomes_failed first places old new told replies (Skipped r) d b = b
becomes_failed first places old new told replies Stopped d b = b

module _ {S : Type 0} (app : Application S) (c : Codec S) (given : Given) (wf : IsWellFormed given) (actions : List Action)
    (may : AllMayAct given actions (new_cluster given)) (placed : List Placed) (placed_are : ArePlaced given actions placed)
    (id : ℕ) (asked : List Asked) (old new : CoreView S) (out : List (Output S)) (w : WritesNow app c old out new)
    (core : IsCore app given actions placed id (record old { server = w.asked }) asked) where
  -- those whose lead is over
  record Lost (o : Open) : Type 0 where
    mid : List Asked
    told : (upto : List Action) (ps : List Placed) → AreAnswered given upto ps id asked (lost_replies w.loses.lost old.requests) mid
    open_are : AreOpen given actions placed id o mid
    within : (a : Asked) → Contains mid a → Contains asked a

  unknown_pairs : (upto : List Action) (ps : List Placed) (xs : List Proposal) (asks : List Asked) → AllPairs (IsAwaited given actions placed id) xs asks → AllPairs (IsAnswered given upto ps id) asks (ended xs)
  unknown_pairs upto ps [] [] h = tt
  unknown_pairs upto ps [] (a ∷ asks) h = absurd h
  unknown_pairs upto ps (x ∷ xs) [] h = absurd h
  unknown_pairs upto ps (x ∷ xs) (a ∷ asks) h = ((h.0.token, tt), unknown_pairs upto ps xs asks h.1)

  lost_by : (lost : Bool) (o : Open) → AreOpen given actions placed id o asked
      → (mid : List Asked) × ((upto : List Action) (ps : List Placed) → AreAnswered given upto ps id asked (lost_replies lost o) mid) × AreOpen given actions placed id (lost_left lost o) mid × ((a : Asked) → Contains mid a → Contains asked a)
  lost_by true o h = (
    h.waiting,
    λ upto ps. record { closed = h.proposed; all = h.all; each = unknown_pairs upto ps o.proposed h.proposed h.awaited },
    record { proposed = []; waiting = h.waiting; all = refl; awaited = tt; waits = h.waits; rises = rises_left h.proposed h.waiting (subst Rises h.all h.rises) },
    λ a c. subst (λ xs. Contains xs a) (sym h.all) (Contains-append_right h.proposed h.waiting a c),
  )
  lost_by false o h = (asked, λ upto ps. record { closed = []; all = refl; each = tt }, h, λ a c. c)

  lost : Lost w.kept
  lost =
      let z = lost_by w.loses.lost old.requests core.open_are in
      record { mid = z.0; told = z.1; open_are = subst (λ (o : Open). AreOpen given actions placed id o z.0) (sym w.loses.left) z.2; within = z.3 }

  abbrev h : AreOpen given actions placed id w.kept lost.mid
  h = lost.open_are

  same_id : new.id ≡ old.id
  same_id = ap (λ (v : CoreView S). v.id) w.rest

  leave : replies_of out ≡ w.replies
  leave = ap replies_of w.leaves ∙ before_read w.replies w.refused (appended w.written) (none_appended S w.written)

  sent_are : (bag : List Message) → AreSent app c bag (frames_of out)
  sent_are bag = none_sent app c bag out (ap frames_of w.leaves ∙ no_written_frames S w.replies w.refused w.written)

  lost_told : w.lost ≡ lost_replies w.loses.lost old.requests
  lost_told = w.loses.tells

  -- The oldest of those that wait are proposed

  module _ (first : LogId ℕ) (next_is : IsNextId w.asked.serving first)
      (b : ProposesBatch app old.clock first w.asked w.kept w.lost w.server new.requests w.replies) where
    abbrev values : List Value
    values = map Bytes b.batch.values

    abbrev step : Step
    step = record { act = Propose values; at = old.clock }

    abbrev took : List Action
    took = Takes id step ∷ []

    abbrev after : List Action
    after = actions ++ took

    abbrev call : ℕ
    call = length actions

    abbrev node : NodeView
    node = (server_after given actions id).node

    -- the model's server, packed
    abbrev packed : PackedServer S
    packed = server_packed app (server_after given actions id)

    abbrev step_taken : PackedStep S
    step_taken = step_at app old.clock (Propose values)

    taken_step : (b.outcome ≡ (packed_played_alone app given packed.node step_taken).0)
        × Represents app (packed_with_step app given step_taken packed) w.server
    taken_step =
        subst (λ g. (b.outcome ≡ (packed_played_alone app g packed.node step_taken).0)
        × Represents app (packed_with_step app g step_taken packed) w.server)
        core.given_is (b.takes.step packed core.stands)

    outcome_is : b.outcome ≡ (played_alone given node step).0
    outcome_is = taken_step.0 ∙ sym (outcome_packed app given wf id core.member actions may step)

    given_now : new.server.given ≡ given
    given_now = w.given ∙ (b.takes.given ∙ core.given_is)

    may_now : AllMayAct given after (new_cluster given)
    may_now = may_both given actions took (new_cluster given) may ((core.member, tt), tt)

    stands_now : Represents app (server_packed app (server_after given after id)) new.server
    stands_now =
        w.stays (server_packed app (server_after given after id))
        (stands_after app given wf id core.member (step ∷ []) (step_taken ∷ []) refl actions may_now w.server taken_step.1)

    next_id : IfSome node.engine (λ e. IsNext e first)
    next_id = go w.asked.serving core.stands next_is
      where
        bared : (o : Option EngineView) → IfSome (option_map bare_engine o) (λ e. IsNext e first) → IfSome o (λ e. IsNext e first)
        bared None n = tt
        bared (Some e) n = record { leads = n.leads; index = n.index }

        go : (o : Option (Serving S)) → StandsFor app packed o → IsNextId o first → IfSome node.engine (λ e. IsNext e first)
        go None s n = absurd s
        go (Some v) s n = bared node.engine (subst (λ (m : PackedNode S). IfSome m.engine (λ e. IsNext e first)) s.node n)

    -- the requests of the batch
    abbrev count : ℕ
    count = b.batched.count

    abbrev asks : List Asked
    asks = take count h.waiting

    abbrev later : List Asked
    later = drop count h.waiting

    rises_waiting : Rises (asks ++ later)
    rises_waiting = subst Rises (split_at count h.waiting) (rises_left h.proposed h.waiting (subst Rises h.all h.rises))

    M : Marked id b.batch asks
    M =
        subst (λ (x : Batched). Marked id x asks) (sym b.batched.batch)
        (batch_marked id given actions placed (take count w.kept.waiting) asks (pairs_take (IsWaiting given actions placed id) count w.kept.waiting h.waiting h.waits) (rises_first asks later rises_waiting))

    values_are : values ≡ map Bytes (map bytes_of M.marks)
    values_are = ap (map Bytes) M.values

    slot_value : (k : ℕ) (m : Mark) → slice_get M.marks k ≡ Some m → slice_get values k ≡ Some (Bytes m.0)
    slot_value k m e = ap (λ (vs : List Value). slice_get vs k) values_are ∙ slot_map Bytes (map bytes_of M.marks) k m.0 (slot_map bytes_of M.marks k m e)

    value_slot : (k : ℕ) (v : Value) → slice_get values k ≡ Some v → (m : Mark) × (slice_get M.marks k ≡ Some m) × (Bytes m.0 ≡ v)
    value_slot k v e =
        let y = map_slot Bytes (map bytes_of M.marks) k v (sym (ap (λ (vs : List Value). slice_get vs k) {x = values} values_are) ∙ e) in
        let z = map_slot bytes_of M.marks k y.0 y.1 in
        (z.0, z.1, ap Bytes {x = bytes_of z.0} z.2 ∙ y.2)

    -- the action of a proposal after these
    record IsNow (number d : ℕ) (s : Step) : Type 0 where
      call_is : number ≡ call
      own : id ≡ d
      step_is : step ≡ s

    now_or_before : (c : ℕ) (v : Value) (x : Entry) → (p : Proposed given after c v x) → (c < call) ⊎ IsNow c x.log_id.leader_id.node_id p.step
    now_or_before c v x p =
        ⊎_elim
        (λ e. inl (slot_below actions c (Takes x.log_id.leader_id.node_id p.step) e))
        (λ e. inr (record { call_is = e.0; own = (takes_same id x.log_id.leader_id.node_id step p.step e.1).0; step_is = (takes_same id x.log_id.leader_id.node_id step p.step e.1).1 }))
        (slot_cases actions (Takes id step) c (Takes x.log_id.leader_id.node_id p.step) p.takes)
      where
        takes_same : (a d : ℕ) (s t : Step) → ◌≡◌ {A = Action} (Takes a s) (Takes d t) → (a ≡ d) × (s ≡ t)
        takes_same a d s t e = ((let z : a ≡ d = cc in z), (let z : s ≡ t = cc in z))

    node_is : (d : ℕ) → id ≡ d → node_then given after call d ≡ node
    node_is d q = subst (λ e. node_then given after call e ≡ node) q (ap (λ (s : Server). s.node) (server_there given actions took id))

    -- what a proposal now would append
    appends_now : (c : ℕ) (v : Value) (x : Entry) → (p : Proposed given after c v x) → IsNow c x.log_id.leader_id.node_id p.step → (slice_get values p.place ≡ Some v) × StepAppends given node step p.place x
    appends_now c v x p n =
        let same : values ≡ p.values = act_same values p.values (ap (λ (s : Step). s.act) n.step_is ∙ p.proposes) in (
          ap (λ (vs : List Value). slice_get vs p.place) same ∙ p.value,
          subst (λ (s : Step). StepAppends given node s p.place x) (sym n.step_is)
              (subst (λ (m : NodeView). StepAppends given m p.step p.place x) (node_is x.log_id.leader_id.node_id n.own)
              (subst (λ (j : ℕ). StepAppends given (node_then given after j x.log_id.leader_id.node_id) p.step p.place x) n.call_is p.appended)),
        )
      where
        act_same : (us vs : List Value) → ◌≡◌ {A = Act} (Propose us) (Propose vs) → us ≡ vs
        act_same us vs e = cc

    taken_is : b.taken ≡ record w.kept { waiting = drop count w.kept.waiting }
    taken_is = b.batched.left

    -- If the step isn't done, nothing was proposed

    module _ (none : Nothing given node old.clock values no_records node.engine) where
      not_done : b.outcome ≢ Done
      not_done e = none.not_done (sym outcome_is ∙ e)

      becomes : (new.requests ≡ record b.taken { proposed = [] }) × (w.replies ≡ w.lost ++ (ended b.taken.proposed ++ failed b.batch.places))
      becomes = becomes_failed first b.batch.places b.taken new.requests w.lost w.replies b.outcome not_done b.becomes

      placed_now : ArePlaced given after placed
      placed_now = record {
        each = each_of (λ (x : Placed). Proposed given actions x.call x.value x.entry) (λ (x : Placed). Proposed given after x.call x.value x.entry)
            (λ x p. proposed_more given actions took x.call x.value x.entry p) placed placed_are.each;
        all = λ c v x p.
            ⊎_elim
            (λ l. placed_are.all c v x (proposed_less given actions took c v x l p))
            (λ n. absurd (nothing_appended given wf actions may id core.member old.clock values none p.place x (appends_now c v x p n).1))
            (now_or_before c v x p);
        once = placed_are.once;
        single = placed_are.single;
        markers = placed_are.markers;
      }

      failed_pairs : (rs : List Request) (pls : List Place) (cs : List Asked) → AllPairs (IsWaiting given actions placed id) rs cs → AllPairs (HasPlace id M.marks) pls cs → AllPairs (IsAnswered given after placed id) cs (failed pls)
      failed_pairs [] [] [] a k = tt
      failed_pairs [] (p ∷ pls) [] a k = absurd k
      failed_pairs [] pls (c ∷ cs) a k = absurd a
      failed_pairs (r ∷ rs) pls [] a k = absurd a
      failed_pairs (r ∷ rs) [] (c ∷ cs) a k = absurd k
      failed_pairs (r ∷ rs) (p ∷ pls) (c ∷ cs) a k = ((k.0.token, λ x m e. let l : c.number < c.number = a.0.fresh x c.number m e in absurd (omega (arith, l))), failed_pairs rs pls cs a.1 k.1)

      failed_told : AreAnswered given after placed id lost.mid (ended w.kept.proposed ++ failed b.batch.places) later
      failed_told = record {
        closed = h.proposed ++ asks;
        all = h.all ∙ (ap (λ xs. h.proposed ++ xs) (split_at count h.waiting) ∙ sym (append_assoc h.proposed asks later));
        each = pairs_append (IsAnswered given after placed id) h.proposed (ended w.kept.proposed) asks (failed b.batch.places) (unknown_pairs after placed w.kept.proposed h.proposed h.awaited)
            (failed_pairs (take count w.kept.waiting) b.batch.places asks (pairs_take (IsWaiting given actions placed id) count w.kept.waiting h.waiting h.waits) M.places);
      }

      keeps_failed : Keeps app c given actions placed id asked out new took
      keeps_failed = record {
        own = (refl, tt);
        may = may_now;
        more = [];
        of_asked = λ x by k e. absurd (none_in x k);
        placed_are = subst (ArePlaced given after) (sym (append-nil placed)) placed_now;
        left = later;
        answered = subst (λ ps. AreAnswered given after ps id asked (replies_of out) later) (sym (append-nil placed))
            (subst (λ rs. AreAnswered given after placed id asked rs later) (sym replies_are)
            (answered_both given after placed id asked lost.mid later (lost_replies w.loses.lost old.requests) (ended w.kept.proposed ++ failed b.batch.places) (lost.told after placed) failed_told));
        core = subst (λ ps. IsCore app given after ps id new later) (sym (append-nil placed)) (record {
          member = core.member;
          own = same_id ∙ core.own;
          given_is = given_now;
          stands = stands_now;
          open_are = subst (λ (o : Open). AreOpen given after placed id o later) (sym requests_are) (record {
            proposed = [];
            waiting = later;
            all = refl;
            awaited = tt;
            waits = all_waiting_on given actions took placed placed id (own_no_crash id took (refl, tt)) (λ x c. c) (drop count w.kept.waiting) later (λ a k x n c e. inl c)
                (pairs_drop (IsWaiting given actions placed id) count w.kept.waiting h.waiting h.waits);
            rises = rises_left asks later rises_waiting;
          });
        });
        frames = sent_are (after_actions given after (new_cluster given)).released.bag;
      }
        where
          requests_are : new.requests ≡ record { proposed = []; waiting = drop count w.kept.waiting }
          requests_are = becomes.0 ∙ ap (λ (o : Open). let x : Open = record o { proposed = [] } in x) taken_is

          replies_are : replies_of out ≡ lost_replies w.loses.lost old.requests ++ (ended w.kept.proposed ++ failed b.batch.places)
          replies_are =
              leave
              ∙ (becomes.1
              ∙ (ap (λ rs. rs ++ (ended b.taken.proposed ++ failed b.batch.places)) lost_told
              ∙ ap (λ (o : Open). lost_replies w.loses.lost old.requests ++ (ended o.proposed ++ failed b.batch.places)) taken_is))

    -- If it is done, each request of the batch waits for its entry

    module _ (done : b.outcome ≡ Done) (some : (k : ℕ) (v : Value) → slice_get values k ≡ Some v → Appends given wf actions may id core.member old.clock values first) where
      becomes_so : (new.requests ≡ with_places first b.batch.places b.taken) × (w.replies ≡ w.lost)
      becomes_so = becomes_done first b.batch.places b.taken new.requests w.lost w.replies b.outcome done b.becomes

      abbrev rows : List Placed
      rows = placed_from call first 0 M.marks

      abbrev placed' : List Placed
      placed' = placed ++ rows

      proposed_row : (k : ℕ) (m : Mark) → slice_get M.marks k ≡ Some m → Proposed given after call (Bytes m.0) (value_at first.leader_id (first.index + k) (Bytes m.0))
      proposed_row k m e =
          let v = slot_value k m e in
          let A = some k (Bytes m.0) v in
          record {
            step = step;
            takes = slot_last actions (Takes id step) ∙ ap (λ d. Some (Takes d step)) (sym A.own);
            values = values;
            proposes = refl;
            place = k;
            value = v;
            appended = subst (λ (n : NodeView). StepAppends given n step k (value_at first.leader_id (first.index + k) (Bytes m.0))) (sym (node_is first.leader_id.node_id (sym A.own)))
                (one_appended given wf actions may id core.member old.clock values first A k (Bytes m.0) v);
            payload = refl;
          }

      row_in : (x : Placed) → Contains rows x → (k : ℕ) × (m : Mark) × (slice_get M.marks k ≡ Some m) × (placed_at call first k m ≡ x)
      row_in x c =
          let z = placed_in call first 0 M.marks x c in
          let q : z.0 ≡ 0 + z.0 = omega arith in
          (z.0, z.1, z.2, ap (λ j. placed_at call first j z.1) q ∙ z.3)

      row_there : (k : ℕ) (m : Mark) → slice_get M.marks k ≡ Some m → Contains rows (placed_at call first k m)
      row_there k m e = let q : 0 + k ≡ k = omega arith in subst (λ j. Contains rows (placed_at call first j m)) q (placed_there call first 0 M.marks k m e)

      waits : (a : Asked) → Contains asks a → (r : Request) × IsWaiting given actions placed id r a
      waits a c = pairs_of (IsWaiting given actions placed id) (take count w.kept.waiting) asks (pairs_take (IsWaiting given actions placed id) count w.kept.waiting h.waiting h.waits) a c

      row_of : (x : Placed) (by : ℕ × ℕ) → Contains rows x → x.by ≡ Some by → (a : Asked) × Contains asks a × (by ≡ (id, a.number)) × Wrote a x.value × (a.came ≤ x.call)
      row_of x by c e =
          let z = row_in x c in
          let y = M.numbers z.0 z.1 by z.2 (ap (λ (y : Placed). y.by) z.3 ∙ e) in
          let l = (waits y.0 y.1).1.came in
          let q : call ≡ x.call = ap (λ (y : Placed). y.call) z.3 in
          (y.0, y.1, y.2, (z.1.0, y.3, ap (λ (y : Placed). y.value) (sym z.3)), omega (arith, l, q))

      placed_now' : ArePlaced given after placed'
      placed_now' = record {
        each = all_append (λ (x : Placed). Proposed given after x.call x.value x.entry) placed rows
            (each_of (λ (x : Placed). Proposed given actions x.call x.value x.entry) (λ (x : Placed). Proposed given after x.call x.value x.entry) (λ x p. proposed_more given actions took x.call x.value x.entry p) placed placed_are.each)
            (all_in (λ (x : Placed). Proposed given after x.call x.value x.entry) rows (λ x c.
            let z = row_in x c in subst (λ (x : Placed). Proposed given after x.call x.value x.entry) z.3 (proposed_row z.0 z.1 z.2)));
        all = λ c v x p.
            ⊎_elim
            (λ l. let z = placed_are.all c v x (proposed_less given actions took c v x l p) in (z.0, Contains-append_left placed rows z.0 z.1, z.2, z.3, z.4))
            (λ n.
            let a = appends_now c v x p n in
            let m = value_slot p.place v a.0 in
            let same : value_at first.leader_id (first.index + p.place) v ≡ x = only_appended given wf actions may id core.member old.clock values first (some p.place v a.0) p.place v x a.0 a.1 in (
              placed_at call first p.place m.0,
              Contains-append_right placed rows (placed_at call first p.place m.0) (row_there p.place m.0 m.1),
              sym n.call_is,
              m.2,
              ap (value_at first.leader_id (first.index + p.place)) m.2 ∙ same,
            ))
            (now_or_before c v x p);
        once = once_append placed rows placed_are.once (placed_once call first 0 M.marks)
            (λ x y c d.
            let p = element (λ (x : Placed). Proposed given actions x.call x.value x.entry) placed x placed_are.each c in
            let l : x.call < call = slot_below actions x.call (Takes x.entry.log_id.leader_id.node_id p.step) p.takes in
            let z = row_in y d in
            inl (λ e. let q : call ≡ y.call = ap (λ (y : Placed). y.call) z.3 in omega (arith, l, e, q)));
        single = single_append placed rows placed_are.single (placed_single call first 0 M.marks (marks_single id b.batch asks M))
            (λ x y c d by q r.
            let z = row_of y by d r in
            let l : z.0.number < z.0.number = (waits z.0 z.1).1.fresh x z.0.number c (q ∙ ap (λ (p : ℕ × ℕ). Some p) z.2) in
            absurd (omega (arith, l)));
        markers = all_append IsMarked placed rows placed_are.markers
            (all_in IsMarked rows (λ x c e.
            let z = row_in x c in ap (λ (y : Placed). y.value) (sym z.3) ∙ ap Bytes (M.markers z.0 z.1 z.2 (ap (λ (y : Placed). y.by) z.3 ∙ e))));
      }

      -- one of the batch
      one_awaited : (pl : Place) (r : Request) (a : Asked) → HasPlace id M.marks pl a → IsWaiting given actions placed id r a → IsAwaited given after placed' id (proposal_at first pl) a
      one_awaited pl r a k wait = record {
        token = k.token;
        awaits = row;
        there = Contains-append_right placed rows row (row_there pl.value k.mark k.slot);
        own = own_of a.operation k.mark k.own;
        only = λ x c e.
            ⊎_elim
            (λ d. let l : a.number < a.number = wait.fresh x a.number d e in absurd (omega (arith, l)))
            (λ d.
            let z = row_in x d in
            let at : z.0 ≡ pl.value = k.only z.0 z.1 z.2 (ap (λ (y : Placed). y.by) z.3 ∙ e) in
            let same : z.1 ≡ k.mark = mark_same z.1 k.mark (sym z.2 ∙ (ap (slice_get M.marks) at ∙ k.slot)) in
            sym z.3 ∙ (ap (λ j. placed_at call first j z.1) at ∙ ap (placed_at call first pl.value) same))
            (Contains-append_cases placed rows x c);
        same = ap (λ i. let x : LogId ℕ = record { leader_id = first.leader_id; index = i } in x) (min-eq_left room);
        here = A.own;
        later = wait.came;
        runs = λ number j at l e. no_more number j at l e;
      }
        where
          row : Placed
          row = placed_at call first pl.value k.mark

          A : Appends given wf actions may id core.member old.clock values first
          A = some pl.value (Bytes k.mark.0) (slot_value pl.value k.mark k.slot)

          room : first.index + pl.value ≤ 18446744073709551615
          room = (let a = A.small in let l : pl.value < length values = slot_below values pl.value (Bytes k.mark.0) (slot_value pl.value k.mark k.slot) in omega (arith, a, l))

          mark_same : (m n : Mark) → ◌≡◌ {A = Option Mark} (Some m) (Some n) → m ≡ n
          mark_same m n e = cc

          own_of : (o : Operation) (m : Mark) → IsOf id o a.number m → IsOwn id a.number o (placed_at call first pl.value m)
          own_of (Write bytes) m z = (z.0, ap Bytes z.1)
          own_of Read m z = tt

          no_more : (number j at : ℕ) → call < number → slice_get after number ≡ Some (Crashes id j at) → ⊥
          no_more number j at l e =
              let m : number < length after = slot_below after number (Crashes id j at) e in
              let n : length after ≡ length actions + 1 = length-append actions took in
              omega (arith, l, m, n)

      all_awaited : (rs : List Request) (pls : List Place) (cs : List Asked) → AllPairs (IsWaiting given actions placed id) rs cs → AllPairs (HasPlace id M.marks) pls cs → AllPairs (IsAwaited given after placed' id) (map (proposal_at first) pls) cs
      all_awaited [] [] [] a k = tt
      all_awaited [] (p ∷ pls) [] a k = absurd k
      all_awaited [] pls (c ∷ cs) a k = absurd a
      all_awaited (r ∷ rs) pls [] a k = absurd a
      all_awaited (r ∷ rs) [] (c ∷ cs) a k = absurd k
      all_awaited (r ∷ rs) (p ∷ pls) (c ∷ cs) a k = (one_awaited p r c k.0 a.0, all_awaited rs pls cs a.1 k.1)

      open_done : AreOpen given after placed' id (record { proposed = w.kept.proposed ++ map (proposal_at first) b.batch.places; waiting = drop count w.kept.waiting }) lost.mid
      open_done = record {
        proposed = h.proposed ++ asks;
        waiting = later;
        all = h.all ∙ (ap (λ xs. h.proposed ++ xs) (split_at count h.waiting) ∙ sym (append_assoc h.proposed asks later));
        awaited = pairs_append (IsAwaited given after placed' id) w.kept.proposed h.proposed (map (proposal_at first) b.batch.places) asks
            (all_awaited_on given actions took placed placed' id quiet grows w.kept.proposed h.proposed
            (λ a c x d e.
            ⊎_elim (λ y. y)
            (λ y.
            let z = row_of x (id, a.number) y e in
            let q : a.number ≡ z.0.number = ap (λ (p : ℕ × ℕ). p.1) z.2 in
            let l : a.number < z.0.number = rises_apart h.proposed h.waiting a z.0 (subst Rises h.all h.rises) c (contains_take count h.waiting z.0 z.1) in
            absurd (omega (arith, q, l)))
            (Contains-append_cases placed rows x d)) h.awaited)
            (all_awaited (take count w.kept.waiting) b.batch.places asks (pairs_take (IsWaiting given actions placed id) count w.kept.waiting h.waiting h.waits) M.places);
        waits = all_waiting_on given actions took placed placed' id quiet grows (drop count w.kept.waiting) later
            (λ a c x n d e.
            ⊎_elim inl
            (λ y.
            let z = row_of x (id, n) y e in
            let q : n ≡ z.0.number = ap (λ (p : ℕ × ℕ). p.1) z.2 in
            let l : z.0.number < a.number = rises_apart asks later z.0 a rises_waiting z.1 c in
            inr (omega (arith, q, l)))
            (Contains-append_cases placed rows x d))
            (pairs_drop (IsWaiting given actions placed id) count w.kept.waiting h.waiting h.waits);
        rises = h.rises;
      }
        where
          quiet : (j k at : ℕ) → slice_get took j ≡ Some (Crashes id k at) → ⊥
          quiet = own_no_crash id took (refl, tt)

          grows : (x : Placed) → Contains placed x → Contains placed' x
          grows x c = Contains-append_left placed rows x c

      keeps_done : Keeps app c given actions placed id asked out new took
      keeps_done = record {
        own = (refl, tt);
        may = may_now;
        more = rows;
        of_asked = λ x by c e.
            let z = row_of x by c e in
            (z.0, lost.within z.0 (subst (λ xs. Contains xs z.0) (sym h.all) (Contains-append_right h.proposed h.waiting z.0 (contains_take count h.waiting z.0 z.1))), z.2, z.3, z.4);
        placed_are = placed_now';
        left = lost.mid;
        answered = subst (λ rs. AreAnswered given after placed' id asked rs lost.mid) (sym (leave ∙ (becomes_so.1 ∙ lost_told))) (lost.told after placed');
        core = record {
          member = core.member;
          own = same_id ∙ core.own;
          given_is = given_now;
          stands = stands_now;
          open_are = subst (λ (o : Open). AreOpen given after placed' id o lost.mid) (sym (becomes_so.0 ∙ ap (λ (o : Open). with_places first b.batch.places o) taken_is)) open_done;
        };
        frames = sent_are (after_actions given after (new_cluster given)).released.bag;
      }

    keeps_batch : Keeps app c given actions placed id asked out new took
    keeps_batch =
        ⊎_elim
        (λ (d : DoneBy given node old.clock values no_records node.engine). keeps_done (outcome_is ∙ d.done) (λ k v e. go values k v e d))
        (λ n. keeps_failed n)
        (come given wf actions may id core.member old.clock values)
      where
        go : (vs : List Value) (k : ℕ) (v : Value) → slice_get vs k ≡ Some v → DoneBy given node old.clock vs no_records node.engine → Appends given wf actions may id core.member old.clock vs first
        go [] k v e d = absurd (slot_none k v e)
        go (x ∷ vs) k v e d = appends given wf actions may id core.member old.clock x vs first d next_id

  abbrev refused_all : Option ℕ → Open → List Reply
  refused_all leader o = ended o.proposed ++ refused (NotLeader leader) o.waiting

  -- what doesn't propose
  keeps_without : w.server ≡ w.asked → (rs : List Reply) (o : Open) → w.replies ≡ rs → new.requests ≡ o
      → (AreOpen given (actions ++ []) placed id old.requests asked → Closed given (actions ++ []) placed id asked rs o)
      → Keeps app c given actions placed id asked out new []
  keeps_without e rs o q r close =
      stepped app c given wf actions may placed placed_are id asked (record old { server = w.asked }) new out core [] [] refl
      (w.given ∙ ap (λ (v : ServerView S). v.given) e) (λ s is. w.stays s (subst (Represents app s) (sym e) is)) same_id tt tt rs o (leave ∙ q) r close
      sent_are

  abbrev proposed_by : Proposes app old.clock w.asked w.kept w.lost w.server new.requests w.replies → List Act
  proposed_by p = proposed_acts app old.clock w.asked w.kept w.lost w.server new.requests w.replies p

  keeps_now : (p : Proposes app old.clock w.asked w.kept w.lost w.server new.requests w.replies)
      → Keeps app c given actions placed id asked out new (taking id (acts_at old.clock (proposed_by p)))
  keeps_now (inl (none, e, q, r)) =
      keeps_without e (lost_replies w.loses.lost old.requests) (lost_left w.loses.lost old.requests) (r ∙ lost_told) (q ∙ w.loses.left)
      (λ k. closes_lost given (actions ++ []) placed id w.loses.lost asked old.requests k)
  keeps_now (inr (inl (leader, e, r))) =
      keeps_without e (lost_replies w.loses.lost old.requests ++ refused_all leader (lost_left w.loses.lost old.requests)) no_requests
      (r.tells ∙ (ap (λ rs. rs ++ refused_all leader w.kept) lost_told
      ∙ ap (λ (o : Open). lost_replies w.loses.lost old.requests ++ refused_all leader o) w.loses.left)) r.left
      (λ k. closes_both given (actions ++ []) placed id asked (lost_replies w.loses.lost old.requests)
      (refused_all leader (lost_left w.loses.lost old.requests)) no_requests (lost_left w.loses.lost old.requests)
      (closes_lost given (actions ++ []) placed id w.loses.lost asked old.requests k)
      (λ left j. closes_refused_all given (actions ++ []) placed id leader left (lost_left w.loses.lost old.requests) j))
  keeps_now (inr (inr (first, n, b))) = keeps_batch first n b

-- reads are asked for, and then
keeps_both : {S : Type 0} (app : Application S) (c : Codec S) (given : Given) (actions first next : List Action) (placed : List Placed) (id : ℕ)
    (asked : List Asked) (out : List (Output S)) (new : CoreView S) → AllByRecursion (IsOwnAction id) first
    → Keeps app c given (actions ++ first) placed id asked out new next → Keeps app c given actions placed id asked out new (first ++ next)
keeps_both app c given actions first next placed id asked out new own k =
    let same : (actions ++ first) ++ next ≡ actions ++ (first ++ next) = append_assoc actions first next in
    record {
      own = all_append (IsOwnAction id) first next own k.own;
      may = subst (λ xs. AllMayAct given xs (new_cluster given)) same k.may;
      more = k.more;
      of_asked = k.of_asked;
      placed_are = subst (λ xs. ArePlaced given xs (placed ++ k.more)) same k.placed_are;
      left = k.left;
      answered = subst (λ xs. AreAnswered given xs (placed ++ k.more) id asked (replies_of out) k.left) same k.answered;
      core = subst (λ xs. IsCore app given xs (placed ++ k.more) id new k.left) same k.core;
      frames = subst (λ xs. AreSent app c (after_actions given xs (new_cluster given)).released.bag (frames_of out)) same k.frames;
    }

module _ {S : Type 0} (app : Application S) (c : Codec S) (given : Given) (wf : IsWellFormed given) (actions : List Action)
    (may : AllMayAct given actions (new_cluster given)) (placed : List Placed) (placed_are : ArePlaced given actions placed)
    (id : ℕ) (asked : List Asked) (old new : CoreView S) (out : List (Output S)) (core : IsCore app given actions placed id old asked)
    (w : WritesNow app c old out new) where
  abbrev proposing : List Act
  proposing = proposed_acts app old.clock w.asked w.kept w.lost w.server new.requests w.replies w.proposes

  -- at the server that has asked
  after_asking : (steps : List Step) (taken : List (PackedStep S)) → AreSteps app steps taken
      → AllByRecursion (λ (s : Step). MayTake (after_actions given actions (new_cluster given)).released.bag id s.act) steps
      → AllByRecursion (λ (s : Step). (values : List Value) → s.act ≡ Propose values → ⊥) steps → w.asked.given ≡ given
      → Represents app (with_steps app given taken (server_packed app (server_after given actions id))) w.asked
      → Keeps app c given actions placed id asked out new (taking id (steps ++ acts_at old.clock proposing))
  after_asking steps taken same m n g r =
      let first : List Action = map (Takes id) steps in
      let own : AllByRecursion (IsOwnAction id) first = steps_own given id steps in
      let may_first : AllMayAct given (actions ++ first) (new_cluster given) =
      may_both given actions first (new_cluster given) may (steps_may given id steps (after_actions given actions (new_cluster given)) core.member m) in
      let next : List Step = acts_at old.clock proposing in
      subst (Keeps app c given actions placed id asked out new) (sym (map-append (Takes id) steps next))
      (keeps_both app c given actions first (map (Takes id) next) placed id asked out new own
      (keeps_now app c given wf (actions ++ first) may_first placed
      (placed_kept given actions first placed (steps_no_proposal given id steps n) placed_are) id asked old new out w
      (record {
        member = core.member;
        own = core.own;
        given_is = g;
        stands = stands_after app given wf id core.member steps taken same actions may_first w.asked r;
        open_are = open_kept given actions first placed id (own_no_crash id first own) old.requests asked core.open_are;
      })
      w.proposes))

  keeps_asking : (a : Asks app old.clock old.id old.server w.reads w.asked new.reads)
      → Keeps app c given actions placed id asked out new
      (taking id (acts_at old.clock (asked_acts app old.clock old.id old.server w.reads w.asked new.reads a) ++ acts_at old.clock proposing))
  keeps_asking (inl (e, q)) =
      after_asking [] [] refl tt tt (ap (λ (v : ServerView S). v.given) e ∙ core.given_is)
      (subst (Represents app (server_packed app (server_after given actions id))) (sym e) core.stands)
  keeps_asking (inr asks) =
      after_asking (acts_at old.clock (acts.Read ∷ [])) (steps_at app old.clock (acts.Read ∷ [])) refl (tt, tt) ((λ values e. cc), tt)
      (asks.takes.given ∙ core.given_is)
      (subst (λ g. Represents app (with_steps app g (steps_at app old.clock (acts.Read ∷ [])) (server_packed app (server_after given actions id)))
      w.asked)
      core.given_is (asks.takes.steps (server_packed app (server_after given actions id)) core.stands))

  -- both are the call's steps, packed
  keeps_written : (steps : List Step) × AreSteps app steps (written app c old out new (inr w))
      × Keeps app c given actions placed id asked out new (taking id steps)
  keeps_written =
      let asks : List Act = asked_acts app old.clock old.id old.server w.reads w.asked new.reads w.asks in
      let a = asked_are app old.clock old.id old.server w.reads w.asked new.reads w.asks in
      let p = proposed_are app old.clock w.asked w.kept w.lost w.server new.requests w.replies w.proposes in (
        acts_at old.clock asks ++ acts_at old.clock proposing,
        map-append (step_packed app) (acts_at old.clock asks) (acts_at old.clock proposing)
            ∙ (λ i. (acts_packed app old.clock asks a.1 ∙ sym a.0) i ++ (acts_packed app old.clock proposing p.1 ∙ sym p.0) i),
        keeps_asking w.asks,
      )

pub writes : {S : Type 0} (app : Application S) (c : Codec S)
    → OfCalls app c (λ given actions old out new. Writes app c old out new) (λ given actions old out new d. written app c old out new d)
writes {S} app c given wf actions may placed placed_are id asked old new out core (inl (e, q)) = (
  [],
  refl,
  stepped app c given wf actions may placed placed_are id asked old new out core [] [] refl
      (ap (λ (v : CoreView S). v.server.given) q) (λ s is. subst (λ (v : CoreView S). Represents app s v.server) (sym q) is)
      (ap (λ (v : CoreView S). v.id) q) tt tt [] old.requests (ap replies_of e) (ap (λ (v : CoreView S). v.requests) q)
      (λ k. closes_none given (actions ++ []) placed id asked old.requests k) (λ bag. none_sent app c bag out (ap frames_of e)),
)
writes app c given wf actions may placed placed_are id asked old new out core (inr w) =
    keeps_written app c given wf actions may placed placed_are id asked old new out core w
