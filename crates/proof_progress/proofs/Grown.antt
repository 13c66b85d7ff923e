-- Where an event takes no request, its node's whole log grows by the first entry, or by entries of its own under its vote; and what holds of all entries
-- that the node had, of those of all messages, and of the added ones, holds of all then.
use Rattle.std.proofs.Common.{ℕ, ◌+◌, ◌<◌, ◌≤◌, ◌≡◌, ◌⊎◌, inl, inr, Bool, true, false, List, [], ◌++◌, append-nil, true≢false, arith, refl, sym, ap, ◌∙◌, subst, Option, None, Some}
use Rattle.std.specs.Prelude.{IfSome, map}
use Rattle.std.specs.List.{AllByRecursion}
use Rattle.std.specs.Ordering.{nat_cmp}
use Rattle.proof_deeds.specs.raft_state.declared.ids.Vote.{Vote}
use Rattle.proof_deeds.specs.raft_error.declared.error.EngineError.{EngineError}
use Rattle.proof_deeds.specs.raft_steps.InstallRefusals.{refusals_of_install}
use Rattle.proof_deeds.specs.raft_steps.RequestRefusals.{refusals_of_append}
use Rattle.proof_deeds.specs.raft_steps.VoteHandler.{rejects_vote}
use Rattle.proof_deeds.specs.raft_store.declared.entry.Entry.{Entry}
use Rattle.proof_deeds.specs.raft_store.Store.{whole}
use Rattle.proof_deeds.specs.raft_store.Types.{EngineView, WorldStore}
use Rattle.proof_deeds.specs.raft_schedule.declared.event.Event.{Event}
use Rattle.proof_deeds.specs.raft_schedule.declared.event.Outcome.{Outcome}
use Rattle.proof_deeds.specs.raft_schedule.declared.event.Outcome.TheVariants.{Skipped}
use Rattle.proof_deeds.specs.raft_schedule.declared.event.SkipReason.{SkipReason}
use Rattle.proof_deeds.specs.raft_calls.declared.lead.Answer.{Answer}
use Rattle.proof_deeds.specs.raft_calls.declared.message.Body.{Body}
use Rattle.proof_deeds.specs.raft_calls.declared.message.Body.TheVariants as body
use Rattle.proof_deeds.specs.raft_calls.declared.message.Message.{Message}
use Rattle.proof_deeds.specs.raft_node.declared.act.Act.{Act}
use Rattle.proof_deeds.specs.raft_node.declared.act.Act.TheVariants.{ChangeLearners, ChangeMembership, Elect, Fail, FinishSnapshot, Initialize, Propose, Read, Restart, SendHeartbeat, StepDown, Stop, Take, TriggerPurge, TriggerSnapshot}
use Rattle.proof_deeds.specs.raft_node.declared.given.Given.{Given}
use Rattle.proof_deeds.specs.raft_node.declared.node.Turn.{Turn}
use Rattle.proof_deeds.specs.raft_node.Events.{Scene, answer_at, called_at, calls, calls_at, finish, moment_of, played, skip_reason, turn_of, with_answer, work_of}
use Rattle.proof_deeds.specs.raft_node.Net.{NodeView, Records}
use Rattle.proof_deeds.specs.raft_node.Runs.{whole_logs}
use Rattle.proof_deeds.specs.raft_node.Work.{Work, weight, worked}
use Rattle.proof_deeds.proofs.raft_node_proofs.Ready.{scene_after, skip_moved}
use Rattle.proof_deeds.specs.Chains.{Reached, left_by}
use Rattle.proof_deeds.specs.Images.{Ideal, number, setup_of}
use Rattle.proof_deeds.specs.Nets.{EngineFollows, NodeFollows}
use Rattle.proof_deeds.proofs.AllLaws.{all_laws}
use Rattle.proof_deeds.proofs.AppendFitting.{Settled}
use Rattle.proof_deeds.proofs.Called.{calls_work}
use Rattle.proof_deeds.proofs.Drains.{EngineWorks}
use Rattle.proof_deeds.proofs.Events.{ActFits}
use Rattle.proof_deeds.proofs.Joined.{ExtraAt}
use Rattle.proof_deeds.proofs.Nodes.{moved_follows}
use Rattle.proof_deeds.proofs.Pushes.{chain_within}
use Rattle.proof_deeds.proofs.ReadAnswers.{answer_known, answered_fits, answered_follows}
use Rattle.proof_deeds.proofs.Runs.{RecordsFit}
use Rattle.proof_deeds.proofs.Tails.{tail_vote}
use Rattle.proof_deeds.proofs.Worlds.{if_some}
use Rattle.proof_progress.proofs.Bringing.{Brought}
use Rattle.proof_progress.proofs.BringingCalled.{ActTakesNone, AllBring, NodeBrings, Resting, TakesNone, calls_bring}
use Rattle.proof_progress.proofs.CallsKept.{Stays, calls_stay}
use Rattle.proof_progress.proofs.EntriesKept.{NodeOf, calls_keep}
use Rattle.proof_progress.proofs.Growing.{HasGrown, worked_grown}
use Rattle.proof_progress.proofs.Throughout.{AtWork}
use Rattle.proof_progress.proofs.Top.{BagOf, IsRequest}

-- an event took a scene to another: its node has appended such entries, and has no greater vote
pub record GrownTo (P : Entry → Type 0) (s t : Scene (List Entry)) : Type 0 where
  pub low : ℕ
  pub added : List Entry
  pub log : whole t.node.store ≡ whole s.node.store ++ added
  pub each : AllByRecursion (Brought s.node.id low) added
  pub vote : number t.node.store.vote.leader_id ≤ low
  pub all : AllByRecursion P added → NodeOf P t.node × BagOf P t.records.bag

-- the engine doesn't refuse a request
abbrev pub IsAccepted : Body → EngineView → Type 0
IsAccepted (body.AppendRequest o prev es committed) e = refusals_of_append nat_cmp e.config o.session_id.vote prev (map (λ x. x.log_id) es) e.machine ≡ None
IsAccepted (body.SnapshotRequest o s) e = refusals_of_install nat_cmp e.config o.session_id.vote s.meta e.machine ≡ None
IsAccepted _ e = ⊥

-- a request that a running node takes, with its vote and its entries
pub record Taking (act : Act) (N : NodeView) : Type 0 where
  pub message : Message
  pub is : act ≡ Take message
  pub engine : EngineView
  pub runs : N.engine ≡ Some engine
  pub vote : Vote ℕ
  pub entries : List Entry
  pub request : IsRequest message.body vote entries
  pub accepted : IsAccepted message.body engine
  pub takes : rejects_vote nat_cmp engine.machine.core.state vote ≡ false

-- an event takes such a request, or none
pub takes_or : (act : Act) (N : NodeView) → ActTakesNone act N ⊎ Taking act N
takes_or Initialize N = inl tt
takes_or (Elect candidates) N = inl tt
takes_or (Take m) N = by_engine N.engine refl
  where
    none : (b : Body) → m.body ≡ b → ((e : EngineView) → N.engine ≡ Some e → TakesNone b e) → ActTakesNone (Take m) N
    none b q k e is = subst (λ b. TakesNone b e) (sym q) (k e is)

    same : (e f : EngineView) → N.engine ≡ Some e → N.engine ≡ Some f → e ≡ f
    same e f p q = cc

    apart : (e f : EngineView) (v : Vote ℕ) → e ≡ f → rejects_vote nat_cmp e.machine.core.state v ≡ true → rejects_vote nat_cmp f.machine.core.state v ≡ false → ⊥
    apart e f v q a b = true≢false (sym a ∙ (ap (λ (g : EngineView). rejects_vote nat_cmp g.machine.core.state v) q ∙ b))

    refused : (R : EngineView → Option (EngineError ℕ (Unit {0}))) (x : EngineError ℕ (Unit {0})) (e f : EngineView) → e ≡ f → R e ≡ Some x → R f ≡ None → ⊥
    refused R x e f q a b = none_some (sym (sym a ∙ (ap R q ∙ b)))
      where
        none_some : ◌≡◌ {A = Option (EngineError ℕ (Unit {0}))} None (Some x) → ⊥
        none_some q = cc

    by_vote : (b : Body) (v : Vote ℕ) (es : List Entry) → m.body ≡ b → IsRequest b v es → (R : EngineView → Option (EngineError ℕ (Unit {0}))) (e : EngineView) → N.engine ≡ Some e → (R e ≡ None → IsAccepted b e)
        → ((f : EngineView) → (R f ≡ None → rejects_vote nat_cmp f.machine.core.state v ≡ false → ⊥) → TakesNone b f)
        → (o : Option (EngineError ℕ (Unit {0}))) → R e ≡ o → (t : Bool) → rejects_vote nat_cmp e.machine.core.state v ≡ t → ActTakesNone (Take m) N ⊎ Taking (Take m) N
    by_vote b v es q r R e is a k (Some x) y t z = inl (none b q (λ f on. k f (λ asks w. absurd (refused R x e f (same e f is on) y asks))))
    by_vote b v es q r R e is a k None y true z = inl (none b q (λ f on. k f (λ asks w. absurd (apart e f v (same e f is on) z w))))
    by_vote b v es q r R e is a k None y false z =
        inr (record { message = m; is = refl; engine = e; runs = is; vote = v; entries = es; request = subst (λ b. IsRequest b v es) (sym q) r; accepted = subst (λ b. IsAccepted b e) (sym q) (a y); takes = z })

    by_body : (e : EngineView) → N.engine ≡ Some e → (b : Body) → m.body ≡ b → ActTakesNone (Take m) N ⊎ Taking (Take m) N
    by_body e is (body.VoteRequest req) q = inl (none (body.VoteRequest req) q (λ f on. tt))
    by_body e is (body.VoteReply r) q = inl (none (body.VoteReply r) q (λ f on. tt))
    by_body e is (body.AppendRequest o prev es committed) q =
        by_vote (body.AppendRequest o prev es committed) o.session_id.vote es q (refl, refl) (λ f. refusals_of_append nat_cmp f.config o.session_id.vote prev (map (λ x. x.log_id) es) f.machine) e is (λ y. y) (λ f h. h)
        (refusals_of_append nat_cmp e.config o.session_id.vote prev (map (λ x. x.log_id) es) e.machine) refl (rejects_vote nat_cmp e.machine.core.state o.session_id.vote) refl
    by_body e is (body.AppendReply o r prev upto) q = inl (none (body.AppendReply o r prev upto) q (λ f on. tt))
    by_body e is (body.SnapshotRequest o s) q =
        by_vote (body.SnapshotRequest o s) o.session_id.vote s.snapshot q (refl, refl) (λ f. refusals_of_install nat_cmp f.config o.session_id.vote s.meta f.machine) e is (λ y. y) (λ f h. h)
        (refusals_of_install nat_cmp e.config o.session_id.vote s.meta e.machine) refl (rejects_vote nat_cmp e.machine.core.state o.session_id.vote) refl
    by_body e is (body.SnapshotReply o r upto) q = inl (none (body.SnapshotReply o r upto) q (λ f on. tt))

    by_engine : (o : Option EngineView) → N.engine ≡ o → ActTakesNone (Take m) N ⊎ Taking (Take m) N
    by_engine None q = inl (λ e is. absurd (none_some e q is))
      where
        none_some : (e : EngineView) → N.engine ≡ None → N.engine ≡ Some e → ⊥
        none_some e p q = cc
    by_engine (Some e) q = by_body e q m.body refl
takes_or (Propose values) N = inl tt
takes_or SendHeartbeat N = inl tt
takes_or (Fail target) N = inl tt
takes_or TriggerSnapshot N = inl tt
takes_or FinishSnapshot N = inl tt
takes_or (TriggerPurge i) N = inl tt
takes_or (Restart start) N = inl tt
takes_or (ChangeLearners learners) N = inl tt
takes_or (ChangeMembership groups learners) N = inl tt
takes_or Read N = inl tt
takes_or StepDown N = inl tt
takes_or Stop N = inl tt

-- it is the same at another moment
takes_moved : (act : Act) (N : NodeView) (moment : ℕ) → ActTakesNone act N → ActTakesNone act (record N { moment = moment })
takes_moved Initialize N k h = tt
takes_moved (Elect candidates) N k h = tt
takes_moved (Take m) N k h = h
takes_moved (Propose values) N k h = tt
takes_moved SendHeartbeat N k h = tt
takes_moved (Fail target) N k h = tt
takes_moved TriggerSnapshot N k h = tt
takes_moved FinishSnapshot N k h = tt
takes_moved (TriggerPurge i) N k h = tt
takes_moved (Restart start) N k h = tt
takes_moved (ChangeLearners learners) N k h = tt
takes_moved (ChangeMembership groups learners) N k h = tt
takes_moved Read N k h = tt
takes_moved StepDown N k h = tt
takes_moved Stop N k h = tt

-- the number of the leader id of an engine's vote, or of the stored vote where none runs
abbrev low_of : WorldStore → Option EngineView → ℕ
low_of u None = number u.vote.leader_id
low_of u (Some e) = number e.machine.core.state.vote.leader_id

votes_itself : (u : WorldStore) (o : Option EngineView) → IfSome o (λ e. number e.machine.core.state.vote.leader_id ≡ low_of u o)
votes_itself u None = tt
votes_itself u (Some e) = refl

all_bring : (n : ℕ) (u : WorldStore) (o : Option EngineView) → NodeBrings n (low_of u o) o → IfSome o (AllBring n (low_of u o))
all_bring n u None k = tt
all_bring n u (Some e) k = k (omega arith)

module _ (given : Given) (P : Entry → Type 0) where
  -- the stored vote isn't above the engine's
  stored_low : (t : Turn) (W : Ideal) (w : Work (List Entry)) → AtWork given t W w → number w.effects.store.vote.leader_id ≤ low_of w.effects.store w.engine
  stored_low t W w h = go w.engine h.engine
    where
      go : (o : Option EngineView) → IfSome o (EngineWorks given.membership (Settled (setup_of given.membership)) t w.effects.store h.world) → number w.effects.store.vote.leader_id ≤ low_of w.effects.store o
      go None k = omega arith
      go (Some e) k =
          let a : (h.world.store t.id).vote ≡ number w.effects.store.vote.leader_id = h.effects.store.vote in
          let b : (h.world.store t.id).vote ≤ (k.carried.end.store t.id).vote =
          (chain_within (setup_of given.membership) t e.machine.core.state.vote.leader_id w.effects.store e.machine.core.output.items h.world k.carried.end k.carried.chain).votes t.id in
          let d : (k.carried.end.store t.id).vote ≡ number e.machine.core.state.vote.leader_id =
          tail_vote (setup_of given.membership) (left_by w.effects.store e.machine.core.output.items) (k.carried.end.store t.id) e.machine.core.state k.carried.store k.pending.core.in_step in
          omega (arith, a, b, d)

  finish_grown : (t : Turn) (low : ℕ) (stop refusal : Option ℕ) (W : Ideal) (from s : Scene (List Entry)) → from.node.id ≡ t.id → t.id < 18446744073709551616 → AtWork given t W (work_of stop s)
      → HasGrown given t low P from.node.store (work_of stop s).effects s.node.engine → GrownTo P from (finish whole_logs weight t stop refusal s).1
  unfolding finish
  finish_grown t low stop refusal W from s i node h g =
      let k : HasGrown given t low P from.node.store (worked whole_logs (weight (work_of stop s)) t (work_of stop s)).effects (worked whole_logs (weight (work_of stop s)) t (work_of stop s)).engine =
      worked_grown given t low P from.node.store node W (weight (work_of stop s)) (work_of stop s) h g in
      record {
        low = low;
        added = k.added;
        log = k.log;
        each = subst (λ n. AllByRecursion (Brought n low) k.added) (sym i) k.each;
        vote = k.vote;
        all = λ a. let e = k.all a in (record { store = e.store; noted = e.noted }, e.bag);
      }

  module _ (W : Ideal) (r : Reached (setup_of given.membership) W) where
    resting : (records : Records (List Entry)) (N : NodeView) → NodeFollows (setup_of given.membership) W records N → IfSome N.engine (Resting N.id)
    resting records N f = go N.engine f.engine
      where
        go : (o : Option EngineView) → IfSome o (EngineFollows (setup_of given.membership) N W) → IfSome o (Resting N.id)
        go None h = tt
        go (Some e) h = record { none = h.queue; named = h.id; sound = h.sound; led = if_some _ _ (λ l k. k.vote) e.machine.leader h.knows.leader }

    -- at a node
    pub played_grown : (act : Act) (event : Event) (s : Scene (List Entry)) → ActFits given.membership W s.node.id act → NodeFollows (setup_of given.membership) W s.records s.node → RecordsFit (setup_of given.membership) W s.records
        → ExtraAt given (Settled (setup_of given.membership)) W s.node → ActTakesNone act s.node → NodeOf P s.node → BagOf P s.records.bag → GrownTo P s (played whole_logs weight given act event s).1
    unfolding played
    played_grown act event s told h f a takes all bag = go (skip_reason act s.node) refl
      where
        now : Scene (List Entry)
        now = called_at (moment_of event s.node) s

        go : (o : Option SkipReason) → skip_reason act s.node ≡ o → GrownTo P s
            (scene_after {L = List Entry} (elim o as (λ _. Outcome × Scene (List Entry)) [
              | Some reason ↦ (Skipped reason, s)
              | None ↦ finish whole_logs weight (turn_of act now.node) event.stop (calls given act now).0 (calls given act now).1
            ]))
        go (Some reason) is = record { low = number s.node.store.vote.leader_id; added = []; log = sym (append-nil (whole s.node.store)); each = tt; vote = omega arith; all = λ _. (all, bag) }
        go None is =
            let moved : NodeFollows (setup_of given.membership) W s.records now.node = moved_follows (setup_of given.membership) W s.records s.node (moment_of event s.node) h in
            let answer : Option Answer = answer_at act (calls_at given act now.node).1 in
            let fits : RecordsFit (setup_of given.membership) W (with_answer answer s.records) = answered_fits (setup_of given.membership) W s.records f answer (answer_known given W s.records act now.node moved) in
            let unskipped : skip_reason act now.node ≡ None = skip_moved act s.node (moment_of event s.node) ∙ is in
            let w : AtWork given (turn_of act now.node) W (work_of event.stop (calls given act now).1) =
            calls_work given (Settled (setup_of given.membership)) (all_laws given.membership) W r (with_answer answer s.records) fits act event.stop now.node unskipped told (answered_follows (setup_of given.membership) W s.records now.node answer moved) a in
            let stays : Stays now.node (calls_at given act now.node).1 = calls_stay given W s.records r now.node moved act unskipped in
            let kept : NodeOf P (calls_at given act now.node).1 = calls_keep P given act now.node (record { store = all.store; noted = all.noted }) in
            let after : NodeView = (calls_at given act now.node).1 in
            let brings : NodeBrings s.node.id (low_of after.store after.engine) after.engine =
            calls_bring s.node.id (low_of after.store after.engine) given act now.node refl (resting s.records now.node moved) (takes_moved act s.node (moment_of event s.node) takes) in
            finish_grown (turn_of act now.node) (low_of after.store after.engine) event.stop (calls given act now).0 W s (calls given act now).1 refl h.node w
            (record {
              added = [];
              log = stays.log ∙ sym (append-nil (whole s.node.store));
              each = tt;
              all = λ _. record { store = kept.store; noted = kept.noted; bag = bag };
              reaches = stays.reaches;
              vote = stored_low (turn_of act now.node) W (work_of event.stop (calls given act now).1) w;
              votes = votes_itself after.store after.engine;
              queue = all_bring s.node.id after.store after.engine brings;
            })
