-- Records of whole logs: their indexes go on from 0, and their leaders are named by u64.
use Rattle.std.proofs.Common.{ℕ, zero, suc, ◌+◌, ◌≡◌, true, List, [], ◌∷◌, ◌++◌, length, map, take, arith, sym, ap, ◌∙◌, subst, Some}
use Rattle.std.specs.Prelude.{Contains, slice_get}
use Rattle.std.specs.List.{AllByRecursion}
use Rattle.std.specs.Map.{values_of}
use Rattle.std.specs.Ordering.{nat_cmp}
use Rattle.std.proofs.lemmas.List.Elements.{Contains-append_left}
use Rattle.raft_node.specs.raft_state.declared.ids.LogId.{LogId}
use Rattle.raft_node.specs.raft_state.Log.{at}
use Rattle.raft_node.specs.raft_state.LogLaws.{IsRun, at-run}
use Rattle.raft_node.specs.raft_state.Order.{next}
use Rattle.raft_node.specs.raft_state.Same.{found_is, nat_same}
use Rattle.raft_node.specs.raft_state.State.{is_found}
use Rattle.raft_node.specs.raft_store.declared.entry.Entry.{Entry}
use Rattle.raft_node.specs.raft_store.Entries.{entry_meaning}
use Rattle.raft_node.specs.raft_store.Store as store
use Rattle.raft_node.specs.raft_store.Types.{WorldStore}
use Rattle.raft_node.proofs.raft_store_proofs.Lists.{Run, onward, run_append, run_onward}
use Rattle.proof_mirror.specs.Ready.{Shaped}
use Rattle.proof_mirror.proofs.Shape.{run_of_ids, ids_of_run, past_keyed}
use Rattle.proof_agreement.specs.Machine.{Includes, Setup}
use Rattle.proof_agreement.specs.Stores.{Accepted, DecidedCommit, Session}
use Rattle.raft_node.specs.raft_calls.declared.message.Message.{Message}
use Rattle.raft_node.specs.raft_calls.declared.lead.Answer.{Answer}
use Rattle.raft_node.specs.declared.record.Decided.{Decided}
use Rattle.raft_node.specs.declared.record.Established.{Established}
use Rattle.raft_node.specs.declared.record.Installed.{Installed}
use Rattle.raft_node.specs.Net.{Records}
use Rattle.proof_deeds.specs.Chains.{IsAcknowledged, Does}
use Rattle.proof_deeds.specs.Images.{Ideal, IsNamed, images, number}
use Rattle.proof_deeds.specs.Knows.{StaysAbove}
use Rattle.proof_deeds.proofs.Tails.{index}
use Rattle.proof_deeds.proofs.Worlds.{does_then, each_on}

abbrev pub ids_in : List Entry → List (LogId ℕ)
ids_in es = map (λ (e : Entry). e.log_id) es

-- an id that is found in a run from 0 on stands at its place
pub found_id : (es : List Entry) (x : LogId ℕ) → IsRun 0 (ids_in es) → is_found nat_cmp (at (ids_in es) x.index) x ≡ true → slice_get (ids_in es) x.index ≡ Some x
found_id es x r h =
    let q : x.index ≡ 0 + x.index = omega arith in
    sym (at-run 0 x.index (ids_in es) r) ∙ (ap (at (ids_in es)) (sym q) ∙ found_is nat_cmp nat_same (at (ids_in es) x.index) x h)

-- the indexes of a shaped store's whole log go on from 0
pub whole_runs : (u : WorldStore) → Shaped entry_meaning u → IsRun 0 (ids_in (store.whole u))
whole_runs u z =
    let xs : List Entry = values_of u.log in
    let r : Run index (next u.front) xs = run_of_ids entry_meaning (next u.front) xs z.run in
    let p : store.past (length u.snap) u.log ≡ onward index (length u.snap) xs = ap (store.past (length u.snap)) z.keys ∙ past_keyed entry_meaning (length u.snap) xs in
    ids_of_run entry_meaning 0 (store.whole u)
    (run_append index 0 (length u.snap) u.snap (store.past (length u.snap) u.log) (omega arith) (run_of_ids entry_meaning 0 u.snap z.snap_run)
    (subst (Run index (length u.snap)) (sym p) (run_onward index (next u.front) (length u.snap) xs z.front r)))

pub run_taken : (k n : ℕ) (es : List Entry) → IsRun n (ids_in es) → IsRun n (ids_in (take k es))
run_taken zero n [] r = tt
run_taken zero n (e ∷ es) r = tt
run_taken (suc k) n [] r = tt
run_taken (suc k) n (e ∷ es) r = (r.0, run_taken k (n + 1) es r.1)

abbrev pub InstalledFits : Installed → Type 0
InstalledFits x = IsRun 0 (ids_in x.entries)

pub record DecidedFits (x : Decided (List Entry)) : Type 0 where
  pub named : IsNamed x.leader_id
  pub run : IsRun 0 (ids_in x.log)
  pub all_named : AllByRecursion (λ (e : Entry). IsNamed e.log_id.leader_id) x.log

pub record EstablishedFits (x : Established (List Entry)) : Type 0 where
  pub named : IsNamed x.leader_id
  pub run : IsRun 0 (ids_in x.log)

-- what a leader answers to a read is an id of its own, above all that leaders of smaller ids ever decide
pub record AnswerFits (s : Setup Entry) (W : Ideal) (a : Answer) : Type 0 where
  pub named : IsNamed a.leader_id
  pub id : LogId ℕ
  pub is : a.log_id ≡ Some id
  pub own : id.leader_id ≡ a.leader_id
  pub above : StaysAbove s W (number a.leader_id) id.index

-- what is accepted in the ideal world is acknowledged in the bag
abbrev pub AllAcknowledged : Ideal → List Message → Type 0
AllAcknowledged W ms = (n : ℕ) (q : Session) (last upto : ℕ) → Includes W.messages (Accepted n q last upto) → IsAcknowledged ms n q.leader last upto

-- more messages acknowledge as much
pub answered_more : (W : Ideal) (ms more : List Message) → AllAcknowledged W ms → AllAcknowledged W (ms ++ more)
answered_more W ms more h n q last upto i = let a : IsAcknowledged ms n q.leader last upto = h n q last upto i in (a.0, Contains-append_left ms more a.0 a.1, a.2)

-- what is decided in the ideal world is recorded
pub record IsRecorded (c : DecidedCommit Entry) (rs : List (Decided (List Entry))) : Type 0 where
  pub by : Decided (List Entry)
  pub there : Contains rs by
  pub is : c ≡ record { leader = number by.leader_id; index = by.log_id.index; entries = images by.log }

abbrev pub AllRecorded : Ideal → List (Decided (List Entry)) → Type 0
AllRecorded W rs = (c : DecidedCommit Entry) → Includes W.decided c → IsRecorded c rs

-- more records tell as much
pub recorded_more : (W : Ideal) (rs more : List (Decided (List Entry))) → AllRecorded W rs → AllRecorded W (rs ++ more)
recorded_more W rs more h c i = let a : IsRecorded c rs = h c i in record { by = a.by; there = Contains-append_left rs more a.by a.there; is = a.is }

-- no more is decided: no more is to be recorded
pub quiet_recorded : (W V : Ideal) (rs : List (Decided (List Entry))) → V.decided ≡ W.decided → AllRecorded W rs → AllRecorded V rs
quiet_recorded W V rs e h c i = h c (subst (λ (cs : List (DecidedCommit Entry)). Includes cs c) e i)

-- what the ideal records don't tell: indexes of entries go on from 0, leaders are named by u64, and what was answered;
-- and what the world's say of ideal ones: all that is accepted is acknowledged, all that is decided is recorded
pub record RecordsFit (s : Setup Entry) (W : Ideal) (r : Records (List Entry)) : Type 0 where
  pub installed : AllByRecursion InstalledFits r.installed
  pub decided : AllByRecursion DecidedFits r.decided
  pub established : AllByRecursion EstablishedFits r.established
  pub answers : AllByRecursion (AnswerFits s W) r.answers
  pub accepted : AllAcknowledged W r.bag
  pub recorded : AllRecorded W r.decided

-- it stays so as the world goes on
pub fit_on : (s : Setup Entry) (W V : Ideal) → Does s W V → (r : Records (List Entry)) → AllAcknowledged V r.bag → AllRecorded V r.decided → RecordsFit s W r → RecordsFit s V r
fit_on s W V came r a d h = record {
  installed = h.installed;
  decided = h.decided;
  established = h.established;
  answers = each_on (AnswerFits s W) (AnswerFits s V) (λ a f. record { named = f.named; id = f.id; is = f.is; own = f.own; above = λ X then. f.above X (does_then s W V X came then) }) r.answers h.answers;
  accepted = a;
  recorded = d;
}
