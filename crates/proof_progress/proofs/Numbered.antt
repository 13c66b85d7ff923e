-- What the events of a way on are computed from: the first message that a test finds, and the engine that a node runs.
use Rattle.std.proofs.Common.{ℕ, zero, suc, ◌+◌, ◌-◌, ◌≡◌, inl, inr, Bool, true, false, cond, ◌&&◌, List, [], ◌∷◌, length, arith, refl, sym, ap, ◌∙◌, subst, Option, None, Some}
use Rattle.std.specs.Prelude.{if◌then◌else◌, is_none, is_some, nat_eq, slice_get}
use Rattle.std.specs.Option.{option_and_then}
use Rattle.std.specs.Ordering.{is_eq, nat_cmp}
use Rattle.std.proofs.lemmas.Bool.Decides.{nat_tests}
use Rattle.std.proofs.lemmas.Cmp.{nat_cmp_total, tied_itself}
use Rattle.proof_deeds.specs.raft_state.declared.ids.LogId.{LogId}
use Rattle.proof_deeds.specs.raft_state.declared.ids.Vote.{Vote}
use Rattle.proof_deeds.specs.raft_state.Order.{last_id_cmp, vote_cmp}
use Rattle.proof_deeds.specs.raft_state.Same.{log_id_same, nat_same}
use Rattle.proof_deeds.proofs.raft_state_proofs.Orders.{and_both, both_and, is_equal, last_total, vote_total}
use Rattle.proof_deeds.specs.raft_progress_entry.declared.entry.Inflight.{Inflight}
use Rattle.proof_deeds.specs.raft_progress_entry.declared.entry.Inflight.TheVariants as inflight
use Rattle.proof_deeds.specs.raft_command.declared.replication.ReplicationSessionId.{ReplicationSessionId}
use Rattle.proof_deeds.specs.raft_command.declared.replication.RequestId.{RequestId}
use Rattle.proof_deeds.specs.raft_command.declared.replication.RequestId.TheVariants as request
use Rattle.proof_deeds.proofs.raft_steps_proofs.Leads.{vote_same}
use Rattle.proof_deeds.specs.raft_store.declared.entry.Entry.{Entry}
use Rattle.proof_deeds.specs.raft_store.Types.{EngineView, WorldLeader}
use Rattle.proof_deeds.specs.raft_calls.declared.message.Body.{Body}
use Rattle.proof_deeds.specs.raft_calls.declared.message.Body.TheVariants as body
use Rattle.proof_deeds.specs.raft_calls.declared.message.Message.{Message}
use Rattle.proof_deeds.specs.raft_calls.declared.message.Origin.{Origin}
use Rattle.proof_deeds.specs.raft_calls.Deliveries.{same_session}
use Rattle.proof_deeds.specs.raft_calls.Feeds.{last_sent}
use Rattle.proof_deeds.specs.raft_node.Events.{message_at}
use Rattle.proof_deeds.specs.raft_node.Net.{Net, NodeView, node_at}
use Rattle.proof_progress.specs.Continuations.{At}
use Rattle.proof_progress.specs.Exchanges.{AreEntries, Carries, IsTold}
use Rattle.proof_progress.specs.Plans.{asks_vote, carries, first_from, is_append, is_leading, number_of, running, sends, tells}
use Rattle.proof_progress.proofs.Elects.{if_false}
use Rattle.proof_progress.proofs.Places.{other_ids, same_ids}

-- The first message that passes

-- its number in a list of messages, and that it passes
pub record FirstOf (p : Message → Bool) (bag : List Message) : Type 0 where
  pub number : ℕ
  pub message : Message
  pub found : number_of p bag ≡ Some number
  pub there : message_at bag number ≡ Some message
  pub passes : p message ≡ true

-- and its place, if they are counted from some number
record FirstFrom (k : ℕ) (p : Message → Bool) (bag : List Message) : Type 0 where
  place : ℕ
  message : Message
  found : first_from k p bag ≡ Some (place + k)
  there : slice_get bag place ≡ Some message
  passes : p message ≡ true

first_there : (k : ℕ) (p : Message → Bool) (bag : List Message) (i : ℕ) (m : Message) → slice_get bag i ≡ Some m → p m ≡ true → FirstFrom k p bag
first_there k p [] i m there passes = cc
first_there k p (x ∷ xs) i m there passes = go (p x) refl i there (λ j e. first_there (k + 1) p xs j m e passes)
  where
    counted : (j : ℕ) → j + (k + 1) ≡ suc j + k
    counted j = omega arith

    now : (b : Bool) → b ≡ true → ◌≡◌ {A = Option ℕ} (if b then Some k else first_from (k + 1) p xs) (Some (0 + k))
    now true e = let z : k ≡ 0 + k = omega arith in ap (λ j. let o : Option ℕ = Some j in o) z
    now false e = cc

    later : (b : Bool) (j : ℕ) → b ≡ false → first_from (k + 1) p xs ≡ Some (j + (k + 1))
        → ◌≡◌ {A = Option ℕ} (if b then Some k else first_from (k + 1) p xs) (Some (suc j + k))
    later true j e f = cc
    later false j e f = f ∙ ap (λ i. let o : Option ℕ = Some i in o) (counted j)

    go : (b : Bool) → p x ≡ b → (i : ℕ) → slice_get (x ∷ xs) i ≡ Some m → ((j : ℕ) → slice_get xs j ≡ Some m → FirstFrom (k + 1) p xs)
        → FirstFrom k p (x ∷ xs)
    go true q i e f = record { place = 0; message = x; found = now (p x) q; there = refl; passes = q }
    go false q zero e f = let z : x ≡ m = cc in let y : true ≡ false = sym passes ∙ (ap p (sym z) ∙ q) in cc
    go false q (suc i) e f =
        let r : FirstFrom (k + 1) p xs = f i e in
        record { place = suc r.place; message = r.message; found = later (p x) r.place q r.found; there = r.there; passes = r.passes }

-- where any message passes
pub first_found : (p : Message → Bool) (bag : List Message) (k : ℕ) (m : Message) → message_at bag k ≡ Some m → p m ≡ true → FirstOf p bag
first_found p bag k m there passes =
    let r : FirstFrom 1 p bag = first_there 1 p bag (k - 1) m (placed (nat_eq k 0) there) passes in
    record {
      number = r.place + 1;
      message = r.message;
      found = r.found;
      there = if_false (nat_eq (r.place + 1) 0) None (slice_get bag (r.place + 1 - 1)) (nonzero r.place)
          ∙ (ap (slice_get bag) (back r.place) ∙ r.there);
      passes = r.passes;
    }
  where
    placed : (b : Bool) → ◌≡◌ {A = Option Message} (if b then None else slice_get bag (k - 1)) (Some m) → slice_get bag (k - 1) ≡ Some m
    placed true e = cc
    placed false e = e

    nonzero : (n : ℕ) → nat_eq (n + 1) 0 ≡ false
    nonzero n = grind (arith, nat_tests)

    back : (n : ℕ) → n + 1 - 1 ≡ n
    back n = omega arith

-- What passes

same : (a b : ℕ) → nat_eq a b ≡ true → a ≡ b
same a b e = grind (arith, nat_tests)

itself : (a : ℕ) → nat_eq a a ≡ true
itself a = grind (arith, nat_tests)

pub last_same : (a b : Option (LogId ℕ)) → is_eq (last_id_cmp nat_cmp a b) ≡ true → a ≡ b
last_same None None e = refl
last_same None (Some b) e = cc
last_same (Some a) None e = cc
last_same (Some a) (Some b) e = ap Some (log_id_same nat_cmp nat_same a b (is_equal _ e))

last_itself : (a : Option (LogId ℕ)) → is_eq (last_id_cmp nat_cmp a a) ≡ true
last_itself a = ap is_eq (tied_itself (last_total nat_cmp nat_cmp_total) a)

votes_same : (v w : Vote ℕ) → is_eq (vote_cmp nat_cmp v w) ≡ true → v ≡ w
votes_same v w e = vote_same nat_cmp nat_same v w (is_equal _ e)

vote_itself : (v : Vote ℕ) → is_eq (vote_cmp nat_cmp v v) ≡ true
vote_itself v = ap is_eq (tied_itself (vote_total nat_cmp nat_cmp_total) v)

-- a message that was sent from a node to another, with a body that passes
pub sends_is : (n t : ℕ) (p : Body → Bool) (m : Message) → sends n t p m ≡ true → (m ≡ record { from = n; to = t; body = m.body }) × (p m.body ≡ true)
sends_is n t p m e =
    let a = and_both (nat_eq m.from n && nat_eq m.to t) (p m.body) e in
    let b = and_both (nat_eq m.from n) (nat_eq m.to t) a.0 in
    let from : m.from ≡ n = same m.from n b.0 in
    let to : m.to ≡ t = same m.to t b.1 in
    ((λ i. record { from = from i; to = to i; body = m.body }), a.1)

pub sends_it : (n t : ℕ) (p : Body → Bool) (b : Body) → p b ≡ true → sends n t p (record { from = n; to = t; body = b }) ≡ true
sends_it n t p b e = both_and (nat_eq n n && nat_eq t t) (p b) (both_and (nat_eq n n) (nat_eq t t) (itself n) (itself t)) e

-- a request for a vote
abbrev pub vote_request : Vote ℕ → Option (LogId ℕ) → Body
vote_request v x = body.VoteRequest (record { vote = v; last_log_id = x })

pub asks_vote_is : (v : Vote ℕ) (x : Option (LogId ℕ)) (b : Body) → asks_vote v x b ≡ true → b ≡ vote_request v x
asks_vote_is v x (body.VoteRequest r) e =
    let a = and_both (is_eq (vote_cmp nat_cmp r.vote v)) (is_eq (last_id_cmp nat_cmp r.last_log_id x)) e in
    let by : r.vote ≡ v = votes_same r.vote v a.0 in
    let end : r.last_log_id ≡ x = last_same r.last_log_id x a.1 in
    λ i. body.VoteRequest (record { vote = by i; last_log_id = end i })
asks_vote_is v x (body.VoteReply r) e = cc
asks_vote_is v x (body.AppendRequest o prev es told) e = cc
asks_vote_is v x (body.AppendReply o r prev upto) e = cc
asks_vote_is v x (body.SnapshotRequest o s) e = cc
asks_vote_is v x (body.SnapshotReply o r upto) e = cc

pub asks_vote_it : (v : Vote ℕ) (x : Option (LogId ℕ)) → asks_vote v x (vote_request v x) ≡ true
asks_vote_it v x = both_and (is_eq (vote_cmp nat_cmp v v)) (is_eq (last_id_cmp nat_cmp x x)) (vote_itself v) (last_itself x)

pub asked_for : (n t : ℕ) (v : Vote ℕ) (x : Option (LogId ℕ)) (m : Message) → sends n t (asks_vote v x) m ≡ true
    → m ≡ record { from = n; to = t; body = vote_request v x }
asked_for n t v x m e =
    let s = sends_is n t (asks_vote v x) m e in
    s.0 ∙ ap (λ b. let z : Message = record { from = n; to = t; body = b } in z) (asks_vote_is v x m.body s.1)

pub asks_for : (n t : ℕ) (v : Vote ℕ) (x : Option (LogId ℕ)) → sends n t (asks_vote v x) (record { from = n; to = t; body = vote_request v x }) ≡ true
asks_for n t v x = sends_it n t (asks_vote v x) (vote_request v x) (asks_vote_it v x)

-- a request that carries the entries in flight
session_same : (s t : ReplicationSessionId ℕ) → same_session s t ≡ true → s ≡ t
session_same s t e =
    let a = and_both (is_eq (vote_cmp nat_cmp s.vote t.vote)) (is_eq (last_id_cmp nat_cmp s.membership_log_id t.membership_log_id)) e in
    let by : s.vote ≡ t.vote = votes_same s.vote t.vote a.0 in
    let id : s.membership_log_id ≡ t.membership_log_id = last_same s.membership_log_id t.membership_log_id a.1 in
    λ i. record { vote = by i; membership_log_id = id i }

session_itself : (s : ReplicationSessionId ℕ) → same_session s s ≡ true
session_itself s =
    both_and (is_eq (vote_cmp nat_cmp s.vote s.vote)) (is_eq (last_id_cmp nat_cmp s.membership_log_id s.membership_log_id)) (vote_itself s.vote)
    (last_itself s.membership_log_id)

append_is : (number : ℕ) (r : RequestId) → is_append number r ≡ true → r ≡ request.AppendEntries number
append_is number (request.AppendEntries k) e = ap (λ i. request.AppendEntries i) (same k number e)
append_is number request.HeartBeat e = cc
append_is number (request.Snapshot k) e = cc

pub carries_is : (s : ReplicationSessionId ℕ) (i : Inflight ℕ) (b : Body) → AreEntries i → carries s i b ≡ true → Carries s i b
carries_is s (inflight.Logs number range) (body.AppendRequest o prev es told) entries e =
    let same_ends : Bool = is_eq (last_id_cmp nat_cmp prev range.prev) && is_eq (last_id_cmp nat_cmp (last_sent prev es) range.last) in
    let a = and_both (same_session o.session_id s && is_append number o.request_id) same_ends e in
    let b = and_both (same_session o.session_id s) (is_append number o.request_id) a.0 in
    let c = and_both (is_eq (last_id_cmp nat_cmp prev range.prev)) (is_eq (last_id_cmp nat_cmp (last_sent prev es) range.last)) a.1 in
    (session_same o.session_id s b.0, append_is number o.request_id b.1, last_same prev range.prev c.0, last_same (last_sent prev es) range.last c.1)
carries_is s (inflight.Logs number range) (body.VoteRequest r) entries e = cc
carries_is s (inflight.Logs number range) (body.VoteReply r) entries e = cc
carries_is s (inflight.Logs number range) (body.AppendReply o r prev upto) entries e = cc
carries_is s (inflight.Logs number range) (body.SnapshotRequest o snapshot) entries e = cc
carries_is s (inflight.Logs number range) (body.SnapshotReply o r upto) entries e = cc
carries_is s inflight.None b entries e = absurd entries
carries_is s (inflight.Snapshot number end) b entries e = absurd entries

pub carries_it : (s : ReplicationSessionId ℕ) (i : Inflight ℕ) (b : Body) → AreEntries i → Carries s i b → carries s i b ≡ true
carries_it s (inflight.Logs number range) (body.AppendRequest o prev es told) entries c =
    both_and (same_session o.session_id s && is_append number o.request_id)
    (is_eq (last_id_cmp nat_cmp prev range.prev) && is_eq (last_id_cmp nat_cmp (last_sent prev es) range.last))
    (both_and (same_session o.session_id s) (is_append number o.request_id)
    (subst (λ (t : ReplicationSessionId ℕ). same_session t s ≡ true) (sym c.0) (session_itself s))
    (subst (λ (r : RequestId). is_append number r ≡ true) (sym c.1) (itself number)))
    (both_and (is_eq (last_id_cmp nat_cmp prev range.prev)) (is_eq (last_id_cmp nat_cmp (last_sent prev es) range.last))
    (subst (λ (x : Option (LogId ℕ)). is_eq (last_id_cmp nat_cmp x range.prev) ≡ true) (sym c.2) (last_itself range.prev))
    (subst (λ (x : Option (LogId ℕ)). is_eq (last_id_cmp nat_cmp x range.last) ≡ true) (sym c.3) (last_itself range.last)))
carries_it s (inflight.Logs number range) (body.VoteRequest r) entries c = absurd c
carries_it s (inflight.Logs number range) (body.VoteReply r) entries c = absurd c
carries_it s (inflight.Logs number range) (body.AppendReply o r prev upto) entries c = absurd c
carries_it s (inflight.Logs number range) (body.SnapshotRequest o snapshot) entries c = absurd c
carries_it s (inflight.Logs number range) (body.SnapshotReply o r upto) entries c = absurd c
carries_it s inflight.None b entries c = absurd entries
carries_it s (inflight.Snapshot number end) b entries c = absurd entries

-- the first request of all that carry it
pub record CarriesFirst (bag : List Message) (n t : ℕ) (s : ReplicationSessionId ℕ) (i : Inflight ℕ) : Type 0 where
  pub number : ℕ
  pub body : Body
  pub found : number_of (sends n t (carries s i)) bag ≡ Some number
  pub there : message_at bag number ≡ Some (record { from = n; to = t; body = body })
  pub carries : Carries s i body

pub carries_first : (bag : List Message) (n t : ℕ) (s : ReplicationSessionId ℕ) (i : Inflight ℕ) → AreEntries i → (k : ℕ) (b : Body)
    → message_at bag k ≡ Some (record { from = n; to = t; body = b }) → Carries s i b → CarriesFirst bag n t s i
carries_first bag n t s i entries k b there c =
    let passes = sends_it n t (carries s i) b (carries_it s i b entries c) in
    let f : FirstOf (sends n t (carries s i)) bag = first_found (sends n t (carries s i)) bag k (record { from = n; to = t; body = b }) there passes in
    let is = sends_is n t (carries s i) f.message f.passes in
    record {
      number = f.number;
      body = f.message.body;
      found = f.found;
      there = f.there ∙ ap (λ (m : Message). let o : Option Message = Some m in o) is.0;
      carries = carries_is s i f.message.body entries is.1;
    }

-- a request that tells what is committed
pub tells_is : (v : Vote ℕ) (x : Option (LogId ℕ)) (b : Body) → tells v x b ≡ true
    → (o : Origin) × (o.session_id.vote ≡ v) × (b ≡ body.AppendRequest o None [] x)
tells_is v x (body.AppendRequest o prev es told) e =
    let a = and_both (is_eq (vote_cmp nat_cmp o.session_id.vote v) && is_none prev) (nat_eq (length es) 0 && is_eq (last_id_cmp nat_cmp told x)) e in
    let b = and_both (is_eq (vote_cmp nat_cmp o.session_id.vote v)) (is_none prev) a.0 in
    let c = and_both (nat_eq (length es) 0) (is_eq (last_id_cmp nat_cmp told x)) a.1 in
    let at : prev ≡ None = none_is prev b.1 in
    let without : es ≡ [] = empty_is es c.0 in
    let end : told ≡ x = last_same told x c.1 in
    (o, votes_same o.session_id.vote v b.0, λ i. body.AppendRequest o (at i) (without i) (end i))
  where
    none_is : (o : Option (LogId ℕ)) → is_none o ≡ true → o ≡ None
    none_is None e = refl
    none_is (Some y) e = cc

    empty_is : (es : List Entry) → nat_eq (length es) 0 ≡ true → es ≡ []
    empty_is [] e = refl
    empty_is (y ∷ ys) e = let z : suc (length ys) ≡ 0 = same (suc (length ys)) 0 e in absurd (omega (arith, z))
tells_is v x (body.VoteRequest r) e = cc
tells_is v x (body.VoteReply r) e = cc
tells_is v x (body.AppendReply o r prev upto) e = cc
tells_is v x (body.SnapshotRequest o s) e = cc
tells_is v x (body.SnapshotReply o r upto) e = cc

pub tells_it : (v : Vote ℕ) (x : Option (LogId ℕ)) (o : Origin) → o.session_id.vote ≡ v → tells v x (body.AppendRequest o None [] x) ≡ true
tells_it v x o by =
    both_and (is_eq (vote_cmp nat_cmp o.session_id.vote v) && true) (true && is_eq (last_id_cmp nat_cmp x x))
    (both_and (is_eq (vote_cmp nat_cmp o.session_id.vote v)) true
    (subst (λ (w : Vote ℕ). is_eq (vote_cmp nat_cmp w v) ≡ true) (sym by) (vote_itself v)) refl)
    (last_itself x)

-- the first request of all that tell it
pub told_first : (net : Net (List Entry)) (v : Vote ℕ) (n t : ℕ) (x : Option (LogId ℕ)) → IsTold net v n t x
    → (h : IsTold net v n t x) × (number_of (sends n t (tells v x)) net.records.bag ≡ Some h.number)
told_first net v n t x h =
    let tell : Body = body.AppendRequest h.o None [] x in
    let passes = sends_it n t (tells v x) tell (tells_it v x h.o h.own) in
    let f : FirstOf (sends n t (tells v x)) net.records.bag =
    first_found (sends n t (tells v x)) net.records.bag h.number (record { from = n; to = t; body = tell }) h.there passes in
    let is = sends_is n t (tells v x) f.message f.passes in
    let told = tells_is v x f.message.body is.1 in (
      record {
        number = f.number;
        o = told.0;
        own = told.1;
        there = f.there
            ∙ (ap (λ (m : Message). let o : Option Message = Some m in o) is.0
            ∙ ap (λ b. let o : Option Message = Some (record { from = n; to = t; body = b }) in o) told.2);
      },
      f.found,
    )

-- The engine that a node runs

pub node_there : (nodes : List NodeView) (id : ℕ) (N : NodeView) → At nodes id N → node_at nodes id ≡ Some N
node_there [] id N h = absurd h
node_there (x ∷ xs) id N (inl h) = go (nat_eq x.id id) (same_ids x.id id h.0)
  where
    go : (b : Bool) → b ≡ true → cond b (Some x) (node_at xs id) ≡ Some N
    go true e = ap (λ (M : NodeView). let o : Option NodeView = Some M in o) h.1
    go false e = cc
node_there (x ∷ xs) id N (inr h) = go (node_there xs id N h.1) (nat_eq x.id id) (other_ids x.id id h.0)
  where
    go : node_at xs id ≡ Some N → (b : Bool) → b ≡ false → cond b (Some x) (node_at xs id) ≡ Some N
    go r true e = cc
    go r false e = r

pub running_is : (net : Net (List Entry)) (n : ℕ) (N : NodeView) (e : EngineView) → At net.nodes n N → N.engine ≡ Some e → running net n ≡ Some e
running_is net n N e at runs = ap (λ (o : Option NodeView). option_and_then (λ (M : NodeView). M.engine) o) (node_there net.nodes n N at) ∙ runs

-- whether it leads
pub leads_is : (net : Net (List Entry)) (n : ℕ) (N : NodeView) (e : EngineView) → At net.nodes n N → N.engine ≡ Some e
    → is_leading net n ≡ is_some e.machine.leader
leads_is net n N e at runs =
    ap (λ (o : Option EngineView). is_some (option_and_then (λ (f : EngineView). let l : Option WorldLeader = f.machine.leader in l) o))
    (running_is net n N e at runs)
