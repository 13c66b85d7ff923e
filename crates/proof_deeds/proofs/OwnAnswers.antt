-- What a leader would answer to a read has all that it decided since its node was last started.
use Rattle.std.proofs.Common.{ℕ, ◌+◌, ◌<◌, ◌≤◌, ◌≡◌, Bool, true, false, List, [], ◌∷◌, ◌++◌, arith, refl, sym, ap, ◌∙◌, subst, append_assoc, length, Option, None, Some, suc}
use Rattle.std.specs.Prelude.{Contains, IfSome, is_some, if◌then◌else◌, nat_le}
use Rattle.std.specs.List.{AllByRecursion}
use Rattle.std.specs.Option.{option_map}
use Rattle.std.specs.declared.cmp.Ordering.TheVariants.{Equal}
use Rattle.std.specs.Ordering.{is_eq, is_gt, is_le, nat_cmp, ordering_then}
use Rattle.std.proofs.lemmas.Bool.{cond_both}
use Rattle.std.proofs.lemmas.Bool.Decides.{nat_tests}
use Rattle.std.proofs.lemmas.Cmp.{nat_cmp_total, tied_itself}
use Rattle.std.proofs.lemmas.List.{append_cancel_left}
use Rattle.std.proofs.lemmas.List.Elements.{Contains-append_right}
use Rattle.raft_node.specs.raft_state.declared.ids.LeaderId.{LeaderId}
use Rattle.raft_node.specs.raft_state.declared.ids.LogId.{LogId}
use Rattle.raft_node.specs.raft_state.declared.ids.Vote.{Vote}
use Rattle.raft_node.specs.raft_state.Fits.{is_within}
use Rattle.raft_node.specs.raft_state.Invariants.{first_index}
use Rattle.raft_node.specs.raft_state.Log.{at}
use Rattle.raft_node.specs.raft_state.Order.{last_id_cmp, leader_id_cmp, next}
use Rattle.raft_node.specs.raft_state.Same.{nat_same}
use Rattle.raft_node.proofs.raft_state_proofs.LogLists.{at_has, run_low}
use Rattle.raft_node.proofs.raft_state_proofs.Orders.{both_and, leader_total, nat_le_of}
use Rattle.raft_node.proofs.raft_state_proofs.StateLaws.{committed_has}
use Rattle.raft_node.specs.raft_steps.Invariants.{LeaderFits}
use Rattle.raft_node.specs.raft_steps.Laws.{later}
use Rattle.proof_agreement.specs.Deeds.{Leads}
use Rattle.proof_agreement.specs.Machine.{Setup, last_leader, start}
use Rattle.proof_agreement.specs.Stores.{entry_at, whole}
use Rattle.proof_agreement.proofs.StoresTheorems as theorems
use Rattle.raft_node.specs.raft_store.declared.entry.Entry.{Entry}
use Rattle.raft_node.specs.raft_store.Entries.{entry_meaning}
use Rattle.raft_node.specs.raft_store.Types.{EngineView, WorldLeader}
use Rattle.proof_mirror.specs.Ready.{IsStored}
use Rattle.proof_mirror.proofs.Shape.{applied_upto, shaped_of}
use Rattle.raft_node.specs.raft_schedule.declared.event.Event.{Event}
use Rattle.raft_node.specs.raft_schedule.declared.event.EventKind.TheVariants as event
use Rattle.raft_node.specs.declared.given.Given.{Given}
use Rattle.raft_node.specs.raft_calls.declared.lead.Answer.{Answer}
use Rattle.raft_node.specs.declared.record.Decided.{Decided}
use Rattle.raft_node.specs.raft_calls.LeaderCalls.{answer_by, read_answer, read_refusal}
use Rattle.raft_node.specs.Net.{NodeView, Records}
use Rattle.raft_node.specs.Runs.{History, run, start as begun, whole_logs, with_event, world_after}
use Rattle.raft_node.specs.WellFormed.{IsWellFormed}
use Rattle.proof_deeds.specs.Chains.{Reached}
use Rattle.proof_deeds.specs.Follows.{DecidedIs}
use Rattle.proof_deeds.specs.Images.{Ideal, IsNamed, images, number, setup_of}
use Rattle.proof_deeds.specs.Knows.{KnowsLed}
use Rattle.proof_deeds.specs.Nets.{EngineFollows, NodeFollows}
use Rattle.proof_deeds.specs.OwnReads.{IsDecidedAt, Leaves, ReadsSeeOwn}
use Rattle.proof_deeds.proofs.AllLaws.{all_laws}
use Rattle.proof_deeds.proofs.AppendFitting.{Settled}
use Rattle.proof_deeds.proofs.Decides.{tail_inside}
use Rattle.proof_deeds.proofs.Joined.{Followed}
use Rattle.proof_deeds.proofs.Noops.{front_of}
use Rattle.proof_deeds.proofs.Numbers.{number_node, number_same}
use Rattle.proof_deeds.proofs.Overlap.{laps}
use Rattle.proof_deeds.proofs.OwnReads.{Sees, run_sees, sees_nothing, sees_now}
use Rattle.proof_deeds.proofs.Promised.{one_of}
use Rattle.proof_deeds.proofs.Proved.{followed}
use Rattle.proof_deeds.proofs.ReadRecords.{Answers, read_recorded}
use Rattle.proof_deeds.proofs.Roles.{WorldState}
use Rattle.proof_deeds.proofs.Stored.{stored_ends}
use Rattle.proof_deeds.proofs.Tails.{tail_named, tail_reaches, tail_vote, tail_vote_committed}
use Rattle.proof_deeds.proofs.Worlds.{stores_follow}

same_index : (a b : ℕ) → a ≤ b → is_le (nat_cmp a b) ≡ true
same_index a b l = grind (arith, nat_tests)

not_above : (a b : ℕ) → is_gt (nat_cmp a b) ≡ false → a ≤ b
not_above a b e = grind (arith, nat_tests)

equal_ids : (a b : ℕ) → is_eq (nat_cmp a b) ≡ true → a ≡ b
equal_ids a b e = grind (arith, nat_tests)

-- of ids of one leader
tied : (a b : LeaderId ℕ) → a ≡ b → leader_id_cmp nat_cmp a b ≡ Equal
tied a b e = subst (λ c. leader_id_cmp nat_cmp a c ≡ Equal) e (tied_itself (leader_total nat_cmp nat_cmp_total) a)

within_own : (a b : LogId ℕ) → a.leader_id ≡ b.leader_id → a.index ≤ b.index → is_within nat_cmp (Some a) (Some b) ≡ true
within_own a b e l =
    both_and (is_le (last_id_cmp nat_cmp (Some a) (Some b))) (nat_le (a.index + 1) (b.index + 1)) (ap (λ q. is_le (ordering_then q (nat_cmp a.index b.index))) (tied a.leader_id b.leader_id e) ∙ same_index a.index b.index l)
    (nat_le_of (a.index + 1) (b.index + 1) (omega (arith, l)))

module _ (given : Given) (W : Ideal) (reached : Reached (setup_of given.membership) W) (rs : Records (List Entry)) (n : NodeView) (e : EngineView) (h : NodeFollows (setup_of given.membership) W rs n) (f : EngineFollows (setup_of given.membership) n W e) (l : WorldLeader) (is : e.machine.leader ≡ Some l)
    (r : Decided (List Entry)) (b : DecidedIs W r) (same : r.leader_id ≡ l.vote.leader_id) (applied : r.leader_id.node_id ≡ n.id → r.log_id.index < length n.store.applied) where
  abbrev s : Setup Entry
  s = setup_of given.membership

  abbrev st : WorldState
  st = e.machine.core.state

  known : KnowsLed s n.id st l W
  known = subst (λ o. IfSome o (λ l. KnowsLed s n.id st l W)) is f.knows.leader

  led : LeaderFits nat_cmp e.config.id st.ids st.purged st.em.membership l
  led = subst (λ o. IfSome o (LeaderFits nat_cmp e.config.id st.ids st.purged st.em.membership)) is f.sound.lead.leader_fits

  named : IsNamed st.vote.leader_id
  named = tail_named s n.store (W.store n.id) st h.store f.in_step

  node_is : l.vote.leader_id.node_id ≡ n.id
  node_is = equal_ids l.vote.leader_id.node_id e.config.id led.own ∙ f.id

  vote : (W.store n.id).vote ≡ number l.vote.leader_id
  vote = tail_vote s n.store (W.store n.id) st h.store f.in_step ∙ ap (λ (v : Vote ℕ). number v.leader_id) (sym known.vote)

  leads : Leads s (W.store n.id) n.id
  leads = record {
    own = ap s.owner vote ∙ (number_node l.vote.leader_id (subst (λ (v : Vote ℕ). IsNamed v.leader_id) (sym known.vote) named) ∙ node_is);
    vote_committed = tail_vote_committed s n.store (W.store n.id) st h.store f.in_step ∙ (ap (λ (v : Vote ℕ). v.committed) (sym known.vote) ∙ led.committed);
  }

  decided : r.log_id.index < next st.committed
  decided = omega (arith, applied (ap (λ (d : LeaderId ℕ). d.node_id) same ∙ node_is), applied_upto entry_meaning n.store st f.in_step)

  -- the committed id is of this leader
  module _ (x : LogId ℕ) (c : st.committed ≡ Some x) where
    low : r.log_id.index ≤ x.index
    low = let q : next st.committed ≡ x.index + 1 = ap next c in omega (arith, q, decided)

    held : at st.ids x.index ≡ Some x
    held = committed_has nat_cmp nat_cmp_total nat_same _ _ _ _ _ _ _ f.sound.sound x c

    own : x.leader_id ≡ l.vote.leader_id
    own =
        let stored : IsStored entry_meaning n.store x = subst (λ ids. at ids x.index ≡ Some x) f.in_step.mirrors.log.ids_are held in
        let front : next n.store.front ≤ x.index + 1 = subst (λ o. next o ≤ x.index + 1) f.in_step.mirrors.log.purged_is (front_of st.purged x.index (run_low (first_index st.purged) x st.ids f.in_step.marks.run (at_has x.index x st.ids held))) in
        let one : x.index + 1 ≡ suc x.index = omega arith in
        let z : (last_leader (entry_at s (whole (W.store n.id))) (x.index + 1) ≡ number x.leader_id) × IsNamed x.leader_id =
        stored_ends s n.store (W.store n.id) h.store (shaped_of entry_meaning n.store st f.in_step) (laps s W reached n.id) (tail_reaches s n.store (W.store n.id) st h.store f.in_step) x stored front in
        let mine : (entry_at s (whole (W.store n.id)) x.index).leader ≡ number x.leader_id = ap (last_leader (entry_at s (whole (W.store n.id)))) (sym one) ∙ z.0 in
        let by : (entry_at s (whole (W.store n.id)) x.index).leader ≡ (W.store n.id).vote =
        theorems.own_from_decided s (start s) W (stores_follow s W reached) n.id leads (record { leader = number r.leader_id; index = r.log_id.index; entries = images r.log }) b.there (ap number same ∙ sym vote) x.index low
        (tail_inside s n.store (W.store n.id) st h.store f.in_step x held) in
        number_same x.leader_id l.vote.leader_id z.1 (subst (λ (v : Vote ℕ). IsNamed v.leader_id) (sym known.vote) named) (sym mine ∙ (by ∙ vote))

    reads : is_within nat_cmp (Some r.log_id) (later nat_cmp (Some l.noop_log_id) (Some x)) ≡ true
    reads = cond_both (is_gt (last_id_cmp nat_cmp (Some x) (Some l.noop_log_id))) (Some x) (Some l.noop_log_id) (λ y. is_within nat_cmp (Some r.log_id) y ≡ true)
        (λ g. within_own r.log_id x (b.own ∙ (same ∙ sym own)) low)
        (λ g.
        let t : leader_id_cmp nat_cmp x.leader_id l.noop_log_id.leader_id ≡ Equal = tied x.leader_id l.noop_log_id.leader_id (own ∙ sym led.noop) in
        let k : is_gt (nat_cmp x.index l.noop_log_id.index) ≡ false = ap (λ q. is_gt (ordering_then q (nat_cmp x.index l.noop_log_id.index))) (sym t) ∙ g in
        within_own r.log_id l.noop_log_id (b.own ∙ (same ∙ sym led.noop)) (omega (arith, low, not_above x.index l.noop_log_id.index k)))

  read_sees : is_within nat_cmp (Some r.log_id) (answer_by n.id l e).log_id ≡ true
  read_sees = go st.committed refl where
    go : (o : Option (LogId ℕ)) → st.committed ≡ o → is_within nat_cmp (Some r.log_id) (later nat_cmp (Some l.noop_log_id) o) ≡ true
    go None c = let q : next st.committed ≡ 0 = ap next c in absurd (omega (arith, q, decided))
    go (Some x) c = reads x c

-- an answer is one of its leader
answered : (n : ℕ) (e : EngineView) (a : Answer) → read_answer n e ≡ Some a → (l : WorldLeader) × (e.machine.leader ≡ Some l) × (answer_by n l e ≡ a)
answered n e a q = pick (is_some (read_refusal e)) q where
  asked : (o : Option WorldLeader) → e.machine.leader ≡ o → option_map (λ l. answer_by n l e) o ≡ Some a → (l : WorldLeader) × (e.machine.leader ≡ Some l) × (answer_by n l e ≡ a)
  asked None is q = cc
  asked (Some l) is q = (l, is, let z : answer_by n l e ≡ a = cc in z)

  pick : (b : Bool) → ◌≡◌ {A = Option Answer} (if b then None else option_map (λ l. answer_by n l e) e.machine.leader) (Some a) → (l : WorldLeader) × (e.machine.leader ≡ Some l) × (answer_by n l e ≡ a)
  pick true q = cc
  pick false q = asked e.machine.leader refl q

pub run_both : (given : Given) (es fs : List Event) (x : History (List Entry)) → run whole_logs given (es ++ fs) x ≡ run whole_logs given fs (run whole_logs given es x)
run_both given [] fs x = refl
run_both given (e ∷ es) fs x = run_both given es fs (with_event whole_logs given x e)

-- what a node would answer
would_see_own : (given : Given) → IsWellFormed given → (es : List Event) (first : Event) (since : List Event) (n : NodeView) (e : EngineView) (a : Answer) (new : List (Decided (List Entry))) (r : Decided (List Entry)) → AllByRecursion (Leaves n.id) since → Contains (world_after given (es ++ (first ∷ since))).nodes n → n.engine ≡ Some e
    → read_answer n.id e ≡ Some a → (world_after given (es ++ (first ∷ since))).records.decided ≡ (world_after given es).records.decided ++ new → Contains new r → r.leader_id ≡ a.leader_id → is_within nat_cmp (Some r.log_id) a.log_id ≡ true
would_see_own given wf es first since n e a new r up here runs asked grown found same =
    let Extra = Settled (setup_of given.membership) in
    let H : Followed given Extra _ (world_after given es) = followed given wf es in
    let joined : (run whole_logs given (es ++ (first ∷ since)) (begun given)).net ≡ (run whole_logs given (first ∷ since) (run whole_logs given es (begun given))).net = ap (λ (x : History (List Entry)). x.net) (run_both given es (first ∷ since) (begun given)) in
    let K : Followed given Extra _ (world_after given (es ++ (first ∷ since))) = followed given wf (es ++ (first ∷ since)) in
    let p : Sees n.id (world_after given es).records.decided (world_after given (es ++ (first ∷ since))) =
    subst (Sees n.id (world_after given es).records.decided) (sym joined)
    (run_sees given Extra (all_laws given.membership) n.id (world_after given es).records.decided _ first since (run whole_logs given es (begun given)) H up (sees_now n.id (world_after given es)) (sees_nothing n.id (world_after given es))) in
    let these : new ≡ p.new = append_cancel_left (world_after given es).records.decided new p.new (sym grown ∙ p.are) in
    let k : NodeFollows (setup_of given.membership) K.world (world_after given (es ++ (first ∷ since))).records n = one_of (NodeFollows (setup_of given.membership) K.world (world_after given (es ++ (first ∷ since))).records) (world_after given (es ++ (first ∷ since))).nodes n K.follows.nodes here in
    let f : EngineFollows (setup_of given.membership) n K.world e = subst (λ o. IfSome o (EngineFollows (setup_of given.membership) n K.world)) runs k.engine in
    let seen : AllByRecursion (λ r. IsDecidedAt n.id r → r.log_id.index < length n.store.applied) p.new =
    subst (λ o. IfSome o (λ e. AllByRecursion (λ r. IsDecidedAt n.id r → r.log_id.index < length n.store.applied) p.new)) runs
    (one_of (λ (m : NodeView). m.id ≡ n.id → IfSome m.engine (λ e. AllByRecursion (λ r. IsDecidedAt n.id r → r.log_id.index < length m.store.applied) p.new)) (world_after given (es ++ (first ∷ since))).nodes n p.nodes here refl) in
    let one : IsDecidedAt n.id r → r.log_id.index < length n.store.applied = one_of (λ r. IsDecidedAt n.id r → r.log_id.index < length n.store.applied) p.new r seen (subst (λ rs. Contains rs r) these found) in
    let b : DecidedIs K.world r = one_of (DecidedIs K.world) (world_after given (es ++ (first ∷ since))).records.decided r K.follows.records.decided (subst (λ rs. Contains rs r) (sym grown) (Contains-append_right (world_after given es).records.decided new r found)) in
    let q : (l : WorldLeader) × (e.machine.leader ≡ Some l) × (answer_by n.id l e ≡ a) = answered n.id e a asked in
    subst (λ (x : Answer). is_within nat_cmp (Some r.log_id) x.log_id ≡ true) q.2
    (read_sees given K.world K.follows.reached (world_after given (es ++ (first ∷ since))).records n e k f q.0 q.1 r b (same ∙ ap (λ (x : Answer). x.leader_id) (sym q.2)) one)

told_answers : (given : Given) (x : History (List Entry)) (read : Event) (n : ℕ) (a : Answer) → read.kind ≡ event.Read n → (with_event whole_logs given x read).net.records.answers ≡ x.net.records.answers ++ a ∷ [] → (m : NodeView) × Contains x.net.nodes m × Answers n a m
unfolding with_event
told_answers given x read n a is q = read_recorded given read a x.net n is q

-- what is recorded as answered
pub run_reads_own : (given : Given) → IsWellFormed given → (all : List Event) → ReadsSeeOwn given all
run_reads_own given wf all es since after first read part n is up a q new grown r found same =
    let joined : run whole_logs given (es ++ (first ∷ (since ++ read ∷ []))) (begun given) ≡ with_event whole_logs given (run whole_logs given (es ++ (first ∷ since)) (begun given)) read =
    ap (λ fs. run whole_logs given fs (begun given)) (sym (append_assoc es (first ∷ since) (read ∷ []))) ∙ run_both given (es ++ (first ∷ since)) (read ∷ []) (begun given) in
    let z : (m : NodeView) × Contains (world_after given (es ++ (first ∷ since))).nodes m × Answers n a m =
    told_answers given (run whole_logs given (es ++ (first ∷ since)) (begun given)) read n a is (subst (λ (x : History (List Entry)). x.net.records.answers ≡ (world_after given (es ++ (first ∷ since))).records.answers ++ a ∷ []) joined q) in
    would_see_own given wf es first since z.0 z.2.engine a new r (subst (λ k. AllByRecursion (Leaves k) since) (sym z.2.is) up) z.1 z.2.runs z.2.says grown found same
