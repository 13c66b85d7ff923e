-- Servers and their clients stay beside the model, whatever they do.
use Rattle.std.proofs.Common.{ℕ, ◌+◌, ◌<◌, ◌≤◌, ◌≡◌, ◌≢◌, ◌⊎◌, inl, inr, ⊎_elim, List, [], ◌∷◌, ◌++◌, length, arith, refl, sym, ap, ◌∙◌, subst, Option, None, Some}
use Rattle.std.specs.Prelude.{Contains}
use Rattle.std.specs.List.{AllByRecursion}
use Rattle.std.proofs.lemmas.Bool.{cases_eq}
use Rattle.std.proofs.lemmas.List.{append-nil, length-append}
use Rattle.std.proofs.lemmas.List.Elements.{Contains-append_cases, Contains-append_left, Contains-append_right}
use Rattle.raft_node.specs.declared.act.Act.TheVariants.{Restart}
use Rattle.raft_codec.specs.Codec.{Codec, IsCodec}
use Rattle.raft_node.specs.declared.given.Given.{Given}
use Rattle.raft_answers.specs.declared.answer.Answer.{Answer}
use Rattle.raft_answers.specs.declared.answer.Answer.TheVariants.{Failed, NotLeader, Ok, Unknown}
use Rattle.raft_answers.specs.declared.answer.Reply.{Reply}
use Rattle.raft_answers.specs.declared.request.Operation.{Operation}
use Rattle.raft_answers.specs.declared.request.Operation.TheVariants.{Read}
use Rattle.raft_answers.specs.declared.request.Token.{Token}
use Rattle.proof_packed.specs.Stores.{Application}
use Rattle.raft_core.specs.proof_packed_servers.Servers.{PackedServer, server_packed}
use Rattle.raft_core.specs.raft_packed_server.Laws.{cut_file}
use Rattle.raft_core.specs.raft_packed_server.Represents.{Represents}
use Rattle.raft_core.proofs.raft_packed_server_proofs.Crashed.{opens_after_cuts}
use Rattle.raft_core.specs.raft_peers.declared.output.Output.{Output}
use Rattle.raft_core.specs.Calls.{Admits, AdmitsRead}
use Rattle.raft_core.specs.Laws.{read_replies_of, replies_of}
use Rattle.raft_core.specs.Views.{CoreView}
use Rattle.proof_clients.proofs.Sequences.{each_of, element}
use Rattle.proof_clients.proofs.Slots.{slot_below}
use Rattle.proof_servers.specs.Servers.{Action, AllMayAct, Crashes, Flushes, Server, Takes, after_actions, new_cluster}
use Rattle.proof_requests.specs.Answered.{IsAnswered, IsTrue}
use Rattle.proof_requests.specs.Clients.{AnswerFirst, AreBeside, AreOver, AreTwoRequests, Cores, Exchange, IsOpen, IsOver, WasTold, StaysByReading, StaysByStart, WasWritten, after_call, after_end, after_read, after_request, answered_with, no_cores, unanswered, with_one}
use Rattle.proof_requests.specs.Frames.{IsSent, frames_of}
use Rattle.proof_requests.specs.Laws.{IsOwnAction, Keeps}
use Rattle.proof_requests.specs.Moving.{HasLeft, IsComing, IsGoing, IsMoving}
use Rattle.proof_requests.specs.Reading.{StartsBare}
use Rattle.proof_requests.specs.ReadLaws.{IsReadAnswered, IsReadTrue, IsReader, KeepsReads}
use Rattle.proof_requests.specs.Requests.{ArePlaced, Asked, IsCore, Placed, Rises, Wrote, server_after}
use Rattle.proof_requests.proofs.Calls.{admits, opens}
use Rattle.proof_requests.proofs.Kept.{NoCrash, all_awaited_on, all_waiting_on}
use Rattle.proof_requests.proofs.Left.{entries_more}
use Rattle.proof_requests.proofs.Lists.{all_append, all_in, none_in, rises_more, slot_none}
use Rattle.proof_requests.proofs.More.{executes_more, fails_more}
use Rattle.proof_requests.proofs.Others.{Concerns, bare_other, bare_start, concerns_own, no_crash_of, reader_other, reader_start, server_still}
use Rattle.proof_requests.proofs.Queues.{FirstAnswered, answered_once, end_was, ends_rise, more_still, none_own, one_other, one_own, open_or_ended, open_or_over, over_below, over_once, own_left, queues_rise, still_open, tells_of, tokens_first, unanswered_in, unanswered_once, was_open, was_or_one}
use Rattle.proof_requests.proofs.Reading.{done_more}
use Rattle.proof_requests.proofs.ReadsKept.{admits_read}
use Rattle.proof_requests.proofs.MovedCalls.{each_core, moving_later, moving_same, stays, with_core}
use Rattle.proof_requests.proofs.Sent.{still_sent}

pub some_same : {A : Type 0} (a b : A) → ◌≡◌ {A = Option A} (Some a) (Some b) → a ≡ b
some_same a b e = cc

-- an exchange of what was open is another one than those that are over
two_by_open : {S : Type 0} (given : Given) (actions : List Action) (placed : List Placed) (s : Cores S) (e f : Exchange)
    → IsOver given actions placed s e → IsOpen s f.server f.asked → AreTwoRequests e f
two_by_open given actions placed s e f o c =
    ⊎_elim
    (λ (q : e.server ≡ f.server). inr (o.apart f.asked (subst (λ (i : ℕ). IsOpen s i f.asked) (sym q) c)))
    inl
    (cases_eq e.server f.server)

-- More actions of one server, which proposed values for its open requests
module _ {S : Type 0} (app : Application S) (codec : Codec S) (given : Given) (actions : List Action) (placed : List Placed)
    (s : Cores S) (h : AreBeside app codec given actions placed s) (id : ℕ) (took : List Action) (own : AllByRecursion (Concerns id) took)
    (more : List Placed)
    (rows : (w : Placed) (by : ℕ × ℕ) → Contains more w → w.by ≡ Some by → (a : Asked) × Contains (s.open_at id) a × (by ≡ (id, a.number)) × Wrote a w.value × (a.came ≤ w.call)) where
  abbrev after : List Action
  after = actions ++ took

  abbrev placed' : List Placed
  placed' = placed ++ more

  grows : (w : Placed) → Contains placed w → Contains placed' w
  grows w c = Contains-append_left placed more w c

  -- the row of another server is none of these
  other_row : (other n : ℕ) → other ≢ id → (w : Placed) → Contains placed' w → w.by ≡ Some (other, n) → Contains placed w
  other_row other n d w c e =
      ⊎_elim (λ y. y)
      (λ y. let z = rows w (other, n) y e in absurd (d (ap (λ (x : ℕ × ℕ). x.0) z.2)))
      (Contains-append_cases placed more w c)

  pub other_core : (other : ℕ) (v : CoreView S) → other ≢ id → IsCore app given actions placed other v (s.open_at other)
      → IsCore app given after placed' other v (s.open_at other)
  other_core other v d core =
      let quiet : NoCrash other took = no_crash_of given id other d took own in
      let o = core.open_are in
      record {
        member = core.member;
        own = core.own;
        given_is = core.given_is;
        stands = subst (λ (x : Server). Represents app (server_packed app x) v.server) (sym (server_still given id other d actions took own)) core.stands;
        open_are = record {
          proposed = o.proposed;
          waiting = o.waiting;
          all = o.all;
          awaited = all_awaited_on given actions took placed placed' other quiet grows v.requests.proposed o.proposed (λ a c w k e. other_row other a.number d w k e) o.awaited;
          waits = all_waiting_on given actions took placed placed' other quiet grows v.requests.waiting o.waiting (λ a c w n k e. inl (other_row other n d w k e)) o.waits;
          rises = o.rises;
        };
      }

  -- nor that of a request that is over
  over_row : (e : Exchange) → IsOver given actions placed s e → (w : Placed) → Contains placed' w → w.by ≡ Some (e.server, e.asked.number) → Contains placed w
  over_row e o w c q =
      ⊎_elim (λ y. y)
      (λ y.
      let z = rows w (e.server, e.asked.number) y q in
      let server : e.server ≡ id = ap (λ (x : ℕ × ℕ). x.0) z.2 in
      let number : e.asked.number ≡ z.0.number = ap (λ (x : ℕ × ℕ). x.1) z.2 in
      absurd (o.apart z.0 (inl (subst (λ (i : ℕ). Contains (s.open_at i) z.0) (sym server) z.1)) number))
      (Contains-append_cases placed more w c)

  -- nor of a read that needs no entry
  pub read_row : (i : ℕ) (a : Asked) → Contains (s.reads_at i) a → (w : Placed) → Contains placed' w → w.by ≡ Some (i, a.number) → ⊥
  read_row i a c w m q =
      ⊎_elim
      (λ y.
      let z = h.values w i a.number y q in
      ⊎_elim
      (λ o. h.apart i z.asked a o c z.number_is)
      (λ x.
      (element (IsOver given actions placed s) s.done x.0 h.over x.1).apart a (inr (subst (λ (j : ℕ). Contains (s.reads_at j) a) (sym x.2) c)) (ap (λ (b : Asked). b.number) x.3 ∙ z.number_is))
      z.there)
      (λ y.
      let z = rows w (i, a.number) y q in
      let server : i ≡ id = ap (λ (x : ℕ × ℕ). x.0) z.2 in
      let number : a.number ≡ z.0.number = ap (λ (x : ℕ × ℕ). x.1) z.2 in
      h.apart id z.0 a z.1 (subst (λ (j : ℕ). Contains (s.reads_at j) a) server c) (sym number))
      (Contains-append_cases placed more w m)

  told_on : (e : Exchange) → IsOver given actions placed s e → (x : Answer) → WasTold given actions placed e x → WasTold given after placed' e x
  told_on e o (Ok index) (inl t) = inl (
    record {
      awaits = t.0.awaits;
      there = grows t.0.awaits t.0.there;
      own = t.0.own;
      only = λ w c q. t.0.only w (over_row e o w c q) q;
      here = t.0.here;
      later = t.0.later;
      index_is = t.0.index_is;
      flush = t.0.flush;
      commands = t.0.commands;
      executes = executes_more given actions took t.0.awaits.call t.0.awaits.entry t.0.flush t.0.commands t.0.executes;
      left = entries_more given actions took t.0.awaits.entry t.0.left;
    },
    t.1,
  )
  told_on e o (Ok index) (inr (r, d, l)) = let z = done_more given actions took e.server e.asked index e.told o.early (d, l) in inr (r, z.0, z.1)
  told_on e o Failed t = λ w c q. fails_more given actions took w.entry (t w (over_row e o w c q) q)
  told_on e o (NotLeader l) t = λ w c q. fails_more given actions took w.entry (t w (over_row e o w c q) q)
  told_on e o Unknown t = tt

  -- requests that are over stay so, if what is open then was open before, or is new
  pub over_on : (t : Cores S) → ((i : ℕ) → s.next i ≤ t.next i) → ((i : ℕ) (a : Asked) → IsOpen t i a → IsOpen s i a ⊎ (s.next i ≤ a.number))
      → (e : Exchange) → IsOver given actions placed s e
      → IsOver given after placed' t e
  over_on t up back e o = record {
    below = (let l = o.below in let u = up e.server in omega (arith, l, u));
    apart = λ a c. ⊎_elim (λ y. o.apart a y) (λ y q. let l = o.below in omega (arith, l, y, q)) (back e.server a c);
    early = (let l = o.early in let n : length after ≡ length actions + length took = length-append actions took in omega (arith, l, n));
    was_told = λ x q. told_on e o x (o.was_told x q);
  }

  -- each value is of a request that is still open, or over now
  pub values_on : (t : Cores S) → ((e : Exchange) → Contains s.done e → Contains t.done e)
      → ((i : ℕ) (a : Asked) → Contains (s.open_at i) a → Contains (t.open_at i) a ⊎ ((e : Exchange) × Contains t.done e × (e.server ≡ i) × (e.asked ≡ a)))
      → (w : Placed) (i n : ℕ) → Contains placed' w → w.by ≡ Some (i, n) → WasWritten t i n w.call w.value
  values_on t keeps goes w i n c e =
      ⊎_elim
      (λ y. let z = h.values w i n y e in record {
        asked = z.asked;
        number_is = z.number_is;
        wrote = z.wrote;
        came = z.came;
        there = ⊎_elim (λ o. goes i z.asked o) (λ x. inr (x.0, keeps x.0 x.1, x.2, x.3)) z.there;
      })
      (λ y.
      let z = rows w (i, n) y e in
      let server : i ≡ id = ap (λ (x : ℕ × ℕ). x.0) z.2 in
      let number : n ≡ z.0.number = ap (λ (x : ℕ × ℕ). x.1) z.2 in
      record { asked = z.0; number_is = sym number; wrote = z.3; came = z.4; there = goes i z.0 (subst (λ (j : ℕ). Contains (s.open_at j) z.0) (sym server) z.1) })
      (Contains-append_cases placed more w c)

-- the numbers of values are below the next one
value_below : {S : Type 0} (app : Application S) (codec : Codec S) (given : Given) (actions : List Action) (placed : List Placed) (s : Cores S)
    → AreBeside app codec given actions placed s → (w : Placed) (i n : ℕ) → Contains placed w → w.by ≡ Some (i, n) → n < s.next i
value_below app codec given actions placed s h w i n c e =
    let z = h.values w i n c e in
    let q : z.asked.number ≡ n = z.number_is in
    ⊎_elim
    (λ o. let l = h.numbers i z.asked (inl o) in omega (arith, l, q))
    (λ x.
    let l : x.0.asked.number < s.next i = subst (λ (j : ℕ). x.0.asked.number < s.next j) x.2 (element (IsOver given actions placed s) s.done x.0 h.over x.1).below in
    let u : x.0.asked.number ≡ z.asked.number = ap (λ (a : Asked). a.number) x.3 in
    omega (arith, l, u, q))
    z.there

-- no requests, and no actions
pub beside_first : {S : Type 0} (app : Application S) (codec : Codec S) (given : Given) → AreBeside app codec given [] [] no_cores
beside_first app codec given = record {
  may = tt;
  placed_are = record { each = tt; all = λ call v x p. absurd (slot_none call (Takes x.log_id.leader_id.node_id p.step) p.takes); once = tt; single = tt; markers = tt };
  running = λ id v e. cc;
  reading = λ id v e. cc;
  bare = λ id number at start e. slot_none number (Takes id (record { act = Restart start; at = at })) e;
  numbers = λ id a c. absurd (⊎_elim (none_in a) (none_in a) c);
  rises = λ id. tt;
  reads_rise = λ id. tt;
  are_reads = λ id a c. absurd (none_in a c);
  apart = λ id a b c d. absurd (none_in a c);
  values = λ w id n c e. absurd (none_in w c);
  over = tt;
  once = tt;
  frames = tt;
  moving = λ id v e. cc;
}

-- a call
module _ {S : Type 0} (app : Application S) (codec : Codec S) (given : Given) (actions : List Action) (placed : List Placed)
    (s : Cores S) (h : AreBeside app codec given actions placed s) (id : ℕ) (new : CoreView S) (out : List (Output S)) (took : List Action)
    (k : Keeps app codec given actions placed id (s.open_at id) out new took) (r : KeepsReads given actions id (s.reads_at id) out new took)
    (moved : IsMoving app codec (after_actions given (actions ++ took) (new_cluster given)).released.bag new) where
  abbrev now : List Action
  now = actions ++ took

  abbrev placed_now : List Placed
  placed_now = placed ++ k.more

  abbrev told_at : ℕ
  told_at = length now

  abbrev next_cores : Cores S
  next_cores = after_call id out new told_at s

  abbrev P : Asked → Reply → Type 0
  P = IsAnswered given now placed_now id

  abbrev Q : Asked → Reply → Type 0
  Q = IsReadAnswered given now id

  abbrev rs : List Reply
  rs = replies_of out

  abbrev qs : List Reply
  qs = read_replies_of out

  abbrev requests : FirstAnswered P (s.open_at id) rs
  requests = record { closed = k.answered.closed; left = k.left; all = k.answered.all; each = k.answered.each }

  abbrev reads : FirstAnswered Q (s.reads_at id) qs
  reads = record { closed = r.answered.closed; left = r.left; all = r.answered.all; each = r.answered.each }

  abbrev fresh : List Exchange
  fresh = answered_with id told_at (s.open_at id) rs

  abbrev fresh_reads : List Exchange
  fresh_reads = answered_with id told_at (s.reads_at id) qs

  own_all : AllByRecursion (Concerns id) took
  own_all = each_of (IsOwnAction id) (Concerns id) (λ a z. concerns_own id a z) took k.own

  was_request : (i : ℕ) (a : Asked) → Contains (next_cores.open_at i) a → Contains (s.open_at i) a
  was_request i a c = still_open id told_at P s.open_at rs requests i a c

  was_read : (i : ℕ) (a : Asked) → Contains (next_cores.reads_at i) a → Contains (s.reads_at i) a
  was_read i a c = still_open id told_at Q s.reads_at qs reads i a c

  back : (i : ℕ) (a : Asked) → IsOpen next_cores i a → IsOpen s i a
  back i a (inl c) = inl (was_request i a c)
  back i a (inr c) = inr (was_read i a c)

  -- what was open is so still, or over now
  goes : (i : ℕ) (a : Asked) → Contains (s.open_at i) a → Contains (next_cores.open_at i) a ⊎ ((e : Exchange) × Contains next_cores.done e × (e.server ≡ i) × (e.asked ≡ a))
  goes i a c =
      ⊎_elim inl
      (λ x. inr (x.0, Contains-append_right s.done (fresh ++ fresh_reads) x.0 (Contains-append_left fresh fresh_reads x.0 x.1), x.2, x.3))
      (open_or_over id told_at P s.open_at rs requests i a c)

  fresh_over : (e : Exchange) → Contains fresh e → IsOver given now placed_now next_cores e
  fresh_over e c =
      let t = tells_of id told_at P s.open_at rs requests e c in
      let was : Contains (s.open_at id) e.asked = was_open id told_at P s.open_at rs requests e c in
      record {
        below = subst (λ (i : ℕ). e.asked.number < s.next i) (sym t.server) (h.numbers id e.asked (inl was));
        apart = λ a d q.
            ⊎_elim
            (λ y.
            let l : e.asked.number < a.number = over_below id told_at P s.open_at rs requests (h.rises id) e c a (subst (λ (j : ℕ). Contains (next_cores.open_at j) a) t.server y) in
            omega (arith, l, q))
            (λ y. h.apart id e.asked a was (subst (λ (j : ℕ). Contains (s.reads_at j) a) t.server (was_read e.server a y)) q)
            d;
        early = (let q : e.told ≡ told_at = t.at in omega (arith, q));
        was_told = λ x q.
            let same : t.reply.answer ≡ x = some_same t.reply.answer x (sym t.answer ∙ q) in
            told x (subst (λ (i : ℕ). IsTrue given now placed_now i e.asked x) (sym t.server) (subst (IsTrue given now placed_now id e.asked) same t.is.1)) t.at;
      }
    where
      told : (x : Answer) → IsTrue given now placed_now e.server e.asked x → e.told ≡ told_at → WasTold given now placed_now e x
      told (Ok index) d q =
          inl (d, (let l : d.flush < told_at = slot_below now d.flush (Flushes d.awaits.entry.log_id.leader_id.node_id) d.executes.told.flushes in omega (arith, l, q)))
      told Failed d q = d
      told (NotLeader l) d q = d
      told Unknown d q = tt

  read_over : (e : Exchange) → Contains fresh_reads e → IsOver given now placed_now next_cores e
  read_over e c =
      let t = tells_of id told_at Q s.reads_at qs reads e c in
      let was : Contains (s.reads_at id) e.asked = was_open id told_at Q s.reads_at qs reads e c in
      record {
        below = subst (λ (i : ℕ). e.asked.number < s.next i) (sym t.server) (h.numbers id e.asked (inr was));
        apart = λ a d q.
            ⊎_elim
            (λ y. h.apart id a e.asked (subst (λ (j : ℕ). Contains (s.open_at j) a) t.server (was_request e.server a y)) was (sym q))
            (λ y.
            let l : e.asked.number < a.number = over_below id told_at Q s.reads_at qs reads (h.reads_rise id) e c a (subst (λ (j : ℕ). Contains (next_cores.reads_at j) a) t.server y) in
            omega (arith, l, q))
            d;
        early = (let q : e.told ≡ told_at = t.at in omega (arith, q));
        was_told = λ x q.
            let same : t.reply.answer ≡ x = some_same t.reply.answer x (sym t.answer ∙ q) in
            told was t.server x (subst (λ (i : ℕ). IsReadTrue given now i e.asked x) (sym t.server) (subst (IsReadTrue given now id e.asked) same t.is.true)) t.at;
      }
    where
      failed : Contains (s.reads_at id) e.asked → e.server ≡ id → (w : Placed) → Contains placed_now w → w.by ≡ Some (e.server, e.asked.number) → ⊥
      failed was q w m y = read_row app codec given actions placed s h id took own_all k.more k.of_asked e.server e.asked
          (subst (λ (j : ℕ). Contains (s.reads_at j) e.asked) (sym q) was) w m y

      told : Contains (s.reads_at id) e.asked → e.server ≡ id → (x : Answer) → IsReadTrue given now e.server e.asked x → e.told ≡ told_at → WasTold given now placed_now e x
      told was i (Ok index) d q = inr (h.are_reads id e.asked was, d.0, (let l = d.1 in omega (arith, l, q)))
      told was i Failed d q = λ w m y. absurd (failed was i w m y)
      told was i (NotLeader l) d q = λ w m y. absurd (failed was i w m y)
      told was i Unknown d q = tt

  once_now : AreOver (fresh ++ fresh_reads)
  once_now =
      over_once fresh fresh_reads (answered_once id told_at (s.open_at id) rs (h.rises id)) (answered_once id told_at (s.reads_at id) qs (h.reads_rise id))
      (λ e f c d. inr (h.apart id e.asked f.asked (was_open id told_at P s.open_at rs requests e c) (was_open id told_at Q s.reads_at qs reads f d)))

  is_open : (f : Exchange) → Contains (fresh ++ fresh_reads) f → IsOpen s f.server f.asked
  is_open f c =
      ⊎_elim
      (λ y. inl (subst (λ (j : ℕ). Contains (s.open_at j) f.asked) (sym (tells_of id told_at P s.open_at rs requests f y).server) (was_open id told_at P s.open_at rs requests f y)))
      (λ y. inr (subst (λ (j : ℕ). Contains (s.reads_at j) f.asked) (sym (tells_of id told_at Q s.reads_at qs reads f y).server) (was_open id told_at Q s.reads_at qs reads f y)))
      (Contains-append_cases fresh fresh_reads f c)

  pub beside_call : AreBeside app codec given now placed_now next_cores
  beside_call = record {
    may = k.may;
    placed_are = k.placed_are;
    running = λ i v e.
        ⊎_elim
        (λ (q : i ≡ id).
        let same : new ≡ v = some_same new v (sym (one_own id (Some new) s.cores) ∙ subst (λ (j : ℕ). next_cores.cores j ≡ Some v) q e) in
        subst (λ (j : ℕ). IsCore app given now placed_now j v (next_cores.open_at j)) (sym q)
        (subst (IsCore app given now placed_now id v) (sym (own_left id told_at P s.open_at rs requests))
        (subst (λ (x : CoreView S). IsCore app given now placed_now id x k.left) same k.core)))
        (λ d.
        subst (IsCore app given now placed_now i v) (sym (one_other id i _ s.open_at d))
        (other_core app codec given actions placed s h id took own_all k.more k.of_asked i v d
        (h.running i v (sym (one_other id i (Some new) s.cores d) ∙ e))))
        (cases_eq i id);
    reading = λ i v e.
        ⊎_elim
        (λ (q : i ≡ id).
        let same : new ≡ v = some_same new v (sym (one_own id (Some new) s.cores) ∙ subst (λ (j : ℕ). next_cores.cores j ≡ Some v) q e) in
        subst (λ (j : ℕ). IsReader given now j v (next_cores.reads_at j)) (sym q)
        (subst (IsReader given now id v) (sym (own_left id told_at Q s.reads_at qs reads))
        (subst (λ (x : CoreView S). IsReader given now id x r.left) same r.reader)))
        (λ d.
        subst (IsReader given now i v) (sym (one_other id i _ s.reads_at d))
        (reader_other given id i d actions took own_all v (s.reads_at i) (h.reading i v (sym (one_other id i (Some new) s.cores d) ∙ e))))
        (cases_eq i id);
    bare = λ i.
        ⊎_elim
        (λ (q : i ≡ id). subst (StartsBare now) (sym q) r.reader.bare)
        (λ d. bare_other given id i d actions took own_all (h.bare i))
        (cases_eq i id);
    numbers = λ i a c. h.numbers i a (back i a c);
    rises = queues_rise id told_at P s.open_at rs requests h.rises;
    reads_rise = queues_rise id told_at Q s.reads_at qs reads h.reads_rise;
    are_reads = λ i a c. h.are_reads i a (was_read i a c);
    apart = λ i a b c d. h.apart i a b (was_request i a c) (was_read i b d);
    values = λ w i n c e. values_on app codec given actions placed s h id took own_all k.more k.of_asked next_cores
        (λ x y. Contains-append_left s.done (fresh ++ fresh_reads) x y) goes w i n c e;
    over = all_append (IsOver given now placed_now next_cores) s.done (fresh ++ fresh_reads)
        (each_of (IsOver given actions placed s) (IsOver given now placed_now next_cores)
        (λ e o. over_on app codec given actions placed s h id took own_all k.more k.of_asked next_cores (λ i. omega arith) (λ i a c. inl (back i a c))
        e o) s.done h.over)
        (all_append (IsOver given now placed_now next_cores) fresh fresh_reads
        (all_in (IsOver given now placed_now next_cores) fresh fresh_over)
        (all_in (IsOver given now placed_now next_cores) fresh_reads read_over));
    once = over_once s.done (fresh ++ fresh_reads) h.once once_now
        (λ e f c d. two_by_open given actions placed s e f (element (IsOver given actions placed s) s.done e h.over c) (is_open f d));
    frames = all_append (IsSent app codec (after_actions given now (new_cluster given)).released.bag) s.sent (frames_of out)
        (still_sent app codec given actions took s.sent h.frames) k.frames;
    moving = with_core (λ i v. IsMoving app codec (after_actions given now (new_cluster given)).released.bag v) s.cores id new moved
        (λ i v e. moving_later app codec given actions took v (h.moving i v e));
  }

  -- its replies answer the first requests
  pub first_answered : AnswerFirst rs (s.open_at id)
  first_answered = tokens_first id told_at P s.open_at rs requests (λ a x z. z.0)

  -- and the first reads
  pub first_read : AnswerFirst qs (s.reads_at id)
  first_read = tokens_first id told_at Q s.reads_at qs reads (λ a x z. z.token)

-- One more is taken

-- numbers go up
module _ {S : Type 0} (s : Cores S) (id : ℕ) where
  abbrev next_up : ℕ → ℕ
  next_up = with_one id (s.next id + 1) s.next

  no_less : (i : ℕ) → s.next i ≤ next_up i
  no_less i =
      ⊎_elim
      (λ (q : i ≡ id). subst (λ (j : ℕ). s.next j ≤ next_up j) (sym q) (let e : next_up id ≡ s.next id + 1 = one_own id (s.next id + 1) s.next in omega (arith, e)))
      (λ d. let e : next_up i ≡ s.next i = one_other id i (s.next id + 1) s.next d in omega (arith, e))
      (cases_eq i id)

  above : (i n : ℕ) → i ≡ id → n ≡ s.next id → n < next_up i
  above i n q e = subst (λ (j : ℕ). n < next_up j) (sym q) (let u : next_up id ≡ s.next id + 1 = one_own id (s.next id + 1) s.next in omega (arith, e, u))

-- a core that differs in its requests alone, or in its reads alone
module _ {S : Type 0} (app : Application S) (given : Given) (actions : List Action) (placed : List Placed) (id : ℕ) where
  still_reader : (old new : CoreView S) (token : Token) (operation : Operation) (reading : List Asked) → Admits token operation old new
      → IsReader given actions id old reading → IsReader given actions id new reading
  still_reader old new token operation reading a x =
      subst (λ (v : CoreView S). IsReader given actions id v reading) (sym a)
      (record { bare = x.bare; handed = x.handed; pending_is = x.pending_is; reads = x.reads })

  still_core : (old new : CoreView S) (token : Token) (asked : List Asked) → AdmitsRead token old new → IsCore app given actions placed id old asked
      → IsCore app given actions placed id new asked
  still_core old new token asked a x =
      subst (λ (v : CoreView S). IsCore app given actions placed id v asked) (sym a)
      (record { member = x.member; own = x.own; given_is = x.given_is; stands = x.stands; open_are = x.open_are })

-- a request
module _ {S : Type 0} (app : Application S) (codec : Codec S) (given : Given) (actions : List Action) (placed : List Placed)
    (s : Cores S) (h : AreBeside app codec given actions placed s) (id : ℕ) (old new : CoreView S) (token : Token) (operation : Operation)
    (runs : s.cores id ≡ Some old) (admitted : Admits token operation old new) where
  abbrev one : Asked
  one = record { number = s.next id; token = token; operation = operation; came = length actions }

  abbrev with_request : Cores S
  with_request = after_request id token operation new (length actions) s

  core_now : IsCore app given actions placed id new (s.open_at id ++ one ∷ [])
  core_now = admits app given actions placed id (s.open_at id) old new token operation (s.next id) (h.running id old runs) admitted
      (λ a c. h.numbers id a (inl c)) (λ w n c e. value_below app codec given actions placed s h w id n c e)

  -- what is open was so before, or is this request
  request_was : (i : ℕ) (a : Asked) → IsOpen with_request i a → IsOpen s i a ⊎ ((i ≡ id) × (a.number ≡ s.next id))
  request_was i a (inl c) = ⊎_elim (λ y. inl (inl y)) (λ y. inr (y.0, ap (λ (b : Asked). b.number) y.1)) (was_or_one id s.open_at one i a c)
  request_was i a (inr c) = inl (inr c)

  pub beside_request : AreBeside app codec given actions placed with_request
  beside_request = record {
    may = h.may;
    placed_are = h.placed_are;
    running = λ i v e.
        ⊎_elim
        (λ (q : i ≡ id).
        let same : new ≡ v = some_same new v (sym (one_own id (Some new) s.cores) ∙ subst (λ (j : ℕ). with_request.cores j ≡ Some v) q e) in
        subst (λ (j : ℕ). IsCore app given actions placed j v (with_request.open_at j)) (sym q)
        (subst (IsCore app given actions placed id v) (sym (one_own id (s.open_at id ++ one ∷ []) s.open_at))
        (subst (λ (x : CoreView S). IsCore app given actions placed id x (s.open_at id ++ one ∷ [])) same core_now)))
        (λ d. subst (IsCore app given actions placed i v) (sym (one_other id i (s.open_at id ++ one ∷ []) s.open_at d))
        (h.running i v (sym (one_other id i (Some new) s.cores d) ∙ e)))
        (cases_eq i id);
    reading = λ i v e.
        ⊎_elim
        (λ (q : i ≡ id).
        let same : new ≡ v = some_same new v (sym (one_own id (Some new) s.cores) ∙ subst (λ (j : ℕ). with_request.cores j ≡ Some v) q e) in
        subst (λ (j : ℕ). IsReader given actions j v (s.reads_at j)) (sym q)
        (subst (λ (x : CoreView S). IsReader given actions id x (s.reads_at id)) same
        (still_reader app given actions placed id old new token operation (s.reads_at id) admitted (h.reading id old runs))))
        (λ d. h.reading i v (sym (one_other id i (Some new) s.cores d) ∙ e))
        (cases_eq i id);
    bare = h.bare;
    numbers = λ i a c.
        ⊎_elim
        (λ y. let l = h.numbers i a y in let u = no_less s id i in omega (arith, l, u))
        (λ y. above s id i a.number y.0 y.1)
        (request_was i a c);
    rises = λ i.
        ⊎_elim
        (λ (q : i ≡ id). subst (λ (j : ℕ). Rises (with_request.open_at j)) (sym q) (subst Rises (sym (one_own id (s.open_at id ++ one ∷ []) s.open_at)) core_now.open_are.rises))
        (λ d. subst Rises (sym (one_other id i (s.open_at id ++ one ∷ []) s.open_at d)) (h.rises i))
        (cases_eq i id);
    reads_rise = h.reads_rise;
    are_reads = h.are_reads;
    apart = λ i a b c d q.
        ⊎_elim
        (λ y. h.apart i a b y d q)
        (λ y.
        let l : b.number < s.next id = subst (λ (j : ℕ). b.number < s.next j) y.0 (h.numbers i b (inr d)) in
        let n : a.number ≡ s.next id = ap (λ (x : Asked). x.number) y.1 in
        omega (arith, l, n, q))
        (was_or_one id s.open_at one i a c);
    values = λ w i n c e.
        let z = h.values w i n c e in
        record { asked = z.asked; number_is = z.number_is; wrote = z.wrote; came = z.came; there = ⊎_elim (λ o. inl (more_still id s.open_at one i z.asked o)) inr z.there };
    over = each_of (IsOver given actions placed s) (IsOver given actions placed with_request)
        (λ e o. record {
          below = (let l = o.below in let u = no_less s id e.server in omega (arith, l, u));
          apart = λ a c q.
              ⊎_elim
              (λ y. o.apart a y q)
              (λ y. let l : e.asked.number < s.next id = subst (λ (j : ℕ). e.asked.number < s.next j) y.0 o.below in let n = y.1 in omega (arith, l, n, q))
              (request_was e.server a c);
          early = o.early;
          was_told = o.was_told;
        }) s.done h.over;
    once = h.once;
    frames = h.frames;
    moving = with_core (λ i v. IsMoving app codec (after_actions given actions (new_cluster given)).released.bag v) s.cores id new
        (moving_same app codec (after_actions given actions (new_cluster given)).released.bag old new
        (stays old new _ admitted refl refl refl)
        (h.moving id old runs))
        h.moving;
  }

-- a read that needs no entry
module _ {S : Type 0} (app : Application S) (codec : Codec S) (given : Given) (actions : List Action) (placed : List Placed)
    (s : Cores S) (h : AreBeside app codec given actions placed s) (id : ℕ) (old new : CoreView S) (token : Token)
    (runs : s.cores id ≡ Some old) (admitted : AdmitsRead token old new) where
  abbrev one_read : Asked
  one_read = record { number = s.next id; token = token; operation = Read; came = length actions }

  abbrev with_read : Cores S
  with_read = after_read id token new (length actions) s

  reader_now : IsReader given actions id new (s.reads_at id ++ one_read ∷ [])
  reader_now = admits_read given actions id (s.reads_at id) old new token (s.next id) (h.reading id old runs) admitted

  read_was : (i : ℕ) (a : Asked) → IsOpen with_read i a → IsOpen s i a ⊎ ((i ≡ id) × (a.number ≡ s.next id))
  read_was i a (inl c) = inl (inl c)
  read_was i a (inr c) = ⊎_elim (λ y. inl (inr y)) (λ y. inr (y.0, ap (λ (b : Asked). b.number) y.1)) (was_or_one id s.reads_at one_read i a c)

  pub beside_read : AreBeside app codec given actions placed with_read
  beside_read = record {
    may = h.may;
    placed_are = h.placed_are;
    running = λ i v e.
        ⊎_elim
        (λ (q : i ≡ id).
        let same : new ≡ v = some_same new v (sym (one_own id (Some new) s.cores) ∙ subst (λ (j : ℕ). with_read.cores j ≡ Some v) q e) in
        subst (λ (j : ℕ). IsCore app given actions placed j v (s.open_at j)) (sym q)
        (subst (λ (x : CoreView S). IsCore app given actions placed id x (s.open_at id)) same
        (still_core app given actions placed id old new token (s.open_at id) admitted (h.running id old runs))))
        (λ d. h.running i v (sym (one_other id i (Some new) s.cores d) ∙ e))
        (cases_eq i id);
    reading = λ i v e.
        ⊎_elim
        (λ (q : i ≡ id).
        let same : new ≡ v = some_same new v (sym (one_own id (Some new) s.cores) ∙ subst (λ (j : ℕ). with_read.cores j ≡ Some v) q e) in
        subst (λ (j : ℕ). IsReader given actions j v (with_read.reads_at j)) (sym q)
        (subst (IsReader given actions id v) (sym (one_own id (s.reads_at id ++ one_read ∷ []) s.reads_at))
        (subst (λ (x : CoreView S). IsReader given actions id x (s.reads_at id ++ one_read ∷ [])) same reader_now)))
        (λ d. subst (IsReader given actions i v) (sym (one_other id i (s.reads_at id ++ one_read ∷ []) s.reads_at d)) (h.reading i v (sym (one_other id i (Some new) s.cores d) ∙ e)))
        (cases_eq i id);
    bare = h.bare;
    numbers = λ i a c.
        ⊎_elim
        (λ y. let l = h.numbers i a y in let u = no_less s id i in omega (arith, l, u))
        (λ y. above s id i a.number y.0 y.1)
        (read_was i a c);
    rises = h.rises;
    reads_rise = λ i.
        ⊎_elim
        (λ (q : i ≡ id).
        subst (λ (j : ℕ). Rises (with_read.reads_at j)) (sym q)
        (subst Rises (sym (one_own id (s.reads_at id ++ one_read ∷ []) s.reads_at)) (rises_more (s.reads_at id) one_read (h.reads_rise id) (λ a c. h.numbers id a (inr c)))))
        (λ d. subst Rises (sym (one_other id i (s.reads_at id ++ one_read ∷ []) s.reads_at d)) (h.reads_rise i))
        (cases_eq i id);
    are_reads = λ i a c. ⊎_elim (λ y. h.are_reads i a y) (λ y. ap (λ (x : Asked). x.operation) y.1) (was_or_one id s.reads_at one_read i a c);
    apart = λ i a b c d q.
        ⊎_elim
        (λ y. h.apart i a b c y q)
        (λ y.
        let l : a.number < s.next id = subst (λ (j : ℕ). a.number < s.next j) y.0 (h.numbers i a (inl c)) in
        let n : b.number ≡ s.next id = ap (λ (x : Asked). x.number) y.1 in
        omega (arith, l, n, q))
        (was_or_one id s.reads_at one_read i b d);
    values = λ w i n c e.
        let z = h.values w i n c e in
        record { asked = z.asked; number_is = z.number_is; wrote = z.wrote; came = z.came; there = z.there };
    over = each_of (IsOver given actions placed s) (IsOver given actions placed with_read)
        (λ e o. record {
          below = (let l = o.below in let u = no_less s id e.server in omega (arith, l, u));
          apart = λ a c q.
              ⊎_elim
              (λ y. o.apart a y q)
              (λ y. let l : e.asked.number < s.next id = subst (λ (j : ℕ). e.asked.number < s.next j) y.0 o.below in let n = y.1 in omega (arith, l, n, q))
              (read_was e.server a c);
          early = o.early;
          was_told = o.was_told;
        }) s.done h.over;
    once = h.once;
    frames = h.frames;
    moving = with_core (λ i v. IsMoving app codec (after_actions given actions (new_cluster given)).released.bag v) s.cores id new
        (moving_same app codec (after_actions given actions (new_cluster given)).released.bag old new
        (stays old new _ admitted refl refl refl)
        (h.moving id old runs))
        h.moving;
  }

-- a server that ends, and starts again, or doesn't
module _ {S : Type 0} (app : Application S) (codec : Codec S) (given : Given) (actions : List Action) (placed : List Placed)
    (s : Cores S) (h : AreBeside app codec given actions placed s) (id told : ℕ) (new : Option (CoreView S)) (took : List Action)
    (own : AllByRecursion (Concerns id) took)
    (may : AllMayAct given (actions ++ took) (new_cluster given)) (placed_are : ArePlaced given (actions ++ took) (placed ++ [])) (bare : (i : ℕ) → StartsBare (actions ++ took) i) (early : told ≤ length (actions ++ took))
    (is_core : (v : CoreView S) → new ≡ Some v → IsCore app given (actions ++ took) (placed ++ []) id v [])
    (is_reader : (v : CoreView S) → new ≡ Some v → IsReader given (actions ++ took) id v [])
    (moved : (v : CoreView S) → new ≡ Some v → IsMoving app codec (after_actions given (actions ++ took) (new_cluster given)).released.bag v) where
  abbrev ended : Cores S
  ended = after_end id new told s

  abbrev gone : List Exchange
  gone = unanswered id told (s.open_at id)

  abbrev gone_reads : List Exchange
  gone_reads = unanswered id told (s.reads_at id)

  no_rows : (w : Placed) (by : ℕ × ℕ) → Contains {X = Placed} [] w → w.by ≡ Some by → (a : Asked) × Contains (s.open_at id) a × (by ≡ (id, a.number)) × Wrote a w.value × (a.came ≤ w.call)
  no_rows w by c e = absurd (none_in w c)

  was : (i : ℕ) (a : Asked) → IsOpen ended i a → IsOpen s i a
  was i a (inl c) = inl (end_was id told s.open_at i a c)
  was i a (inr c) = inr (end_was id told s.reads_at i a c)

  -- what was open at this server is over
  goes_over : (i : ℕ) (a : Asked) → Contains (s.open_at i) a → Contains (ended.open_at i) a ⊎ ((e : Exchange) × Contains ended.done e × (e.server ≡ i) × (e.asked ≡ a))
  goes_over i a c =
      ⊎_elim inl
      (λ x. inr (x.0, Contains-append_right s.done (gone ++ gone_reads) x.0 (Contains-append_left gone gone_reads x.0 x.1), x.2, x.3))
      (open_or_ended id told s.open_at i a c)

  -- one that was open here has no answer
  ended_by : (asks : List Asked) → ((a : Asked) → Contains asks a → IsOpen s id a) → (e : Exchange) → Contains (unanswered id told asks) e → IsOver given (actions ++ took) (placed ++ []) ended e
  ended_by asks is_open e c =
      let z = unanswered_in id told asks e c in
      record {
        below = subst (λ (i : ℕ). e.asked.number < s.next i) (sym z.server) (h.numbers id e.asked (is_open e.asked z.asked));
        apart = λ a d. absurd (⊎_elim
            (λ y. none_own id told s.open_at a (subst (λ (j : ℕ). Contains (ended.open_at j) a) z.server y))
            (λ y. none_own id told s.reads_at a (subst (λ (j : ℕ). Contains (ended.reads_at j) a) z.server y)) d);
        early = (let q : e.told ≡ told = z.at in omega (arith, early, q));
        was_told = λ x q. absurd (no_answer x (sym z.none ∙ q));
      }
    where
      no_answer : (x : Answer) → ◌≡◌ {A = Option Answer} None (Some x) → ⊥
      no_answer x q = cc

  gone_is : (f : Exchange) → Contains (gone ++ gone_reads) f → IsOpen s f.server f.asked
  gone_is f c =
      ⊎_elim
      (λ y. let z = unanswered_in id told (s.open_at id) f y in inl (subst (λ (j : ℕ). Contains (s.open_at j) f.asked) (sym z.server) z.asked))
      (λ y. let z = unanswered_in id told (s.reads_at id) f y in inr (subst (λ (j : ℕ). Contains (s.reads_at j) f.asked) (sym z.server) z.asked))
      (Contains-append_cases gone gone_reads f c)

  gone_once : AreOver (gone ++ gone_reads)
  gone_once =
      over_once gone gone_reads (unanswered_once id told (s.open_at id) (h.rises id)) (unanswered_once id told (s.reads_at id) (h.reads_rise id))
      (λ e f c d. inr (h.apart id e.asked f.asked (unanswered_in id told (s.open_at id) e c).asked (unanswered_in id told (s.reads_at id) f d).asked))

  beside_by_end : AreBeside app codec given (actions ++ took) (placed ++ []) ended
  beside_by_end = record {
    may = may;
    placed_are = placed_are;
    running = λ i v e.
        ⊎_elim
        (λ (q : i ≡ id).
        subst (λ (j : ℕ). IsCore app given (actions ++ took) (placed ++ []) j v (ended.open_at j)) (sym q)
        (subst (IsCore app given (actions ++ took) (placed ++ []) id v) (sym (one_own id [] s.open_at))
        (is_core v (sym (one_own id new s.cores) ∙ subst (λ (j : ℕ). ended.cores j ≡ Some v) q e))))
        (λ d.
        subst (IsCore app given (actions ++ took) (placed ++ []) i v) (sym (one_other id i [] s.open_at d))
        (other_core app codec given actions placed s h id took own [] no_rows i v d (h.running i v (sym (one_other id i new s.cores d) ∙ e))))
        (cases_eq i id);
    reading = λ i v e.
        ⊎_elim
        (λ (q : i ≡ id).
        subst (λ (j : ℕ). IsReader given (actions ++ took) j v (ended.reads_at j)) (sym q)
        (subst (IsReader given (actions ++ took) id v) (sym (one_own id [] s.reads_at))
        (is_reader v (sym (one_own id new s.cores) ∙ subst (λ (j : ℕ). ended.cores j ≡ Some v) q e))))
        (λ d.
        subst (IsReader given (actions ++ took) i v) (sym (one_other id i [] s.reads_at d))
        (reader_other given id i d actions took own v (s.reads_at i) (h.reading i v (sym (one_other id i new s.cores d) ∙ e))))
        (cases_eq i id);
    bare = bare;
    numbers = λ i a c. h.numbers i a (was i a c);
    rises = ends_rise id told s.open_at h.rises;
    reads_rise = ends_rise id told s.reads_at h.reads_rise;
    are_reads = λ i a c. h.are_reads i a (end_was id told s.reads_at i a c);
    apart = λ i a b c d. h.apart i a b (end_was id told s.open_at i a c) (end_was id told s.reads_at i b d);
    values = λ w i n c e. values_on app codec given actions placed s h id took own [] no_rows ended
        (λ x y. Contains-append_left s.done (gone ++ gone_reads) x y) goes_over w i n c e;
    over = all_append (IsOver given (actions ++ took) (placed ++ []) ended) s.done (gone ++ gone_reads)
        (each_of (IsOver given actions placed s) (IsOver given (actions ++ took) (placed ++ []) ended)
        (λ e o. over_on app codec given actions placed s h id took own [] no_rows ended (λ i. omega arith) (λ i a c. inl (was i a c)) e o) s.done
        h.over)
        (all_append (IsOver given (actions ++ took) (placed ++ []) ended) gone gone_reads
        (all_in (IsOver given (actions ++ took) (placed ++ []) ended) gone (ended_by (s.open_at id) (λ a c. inl c)))
        (all_in (IsOver given (actions ++ took) (placed ++ []) ended) gone_reads (ended_by (s.reads_at id) (λ a c. inr c))));
    once = over_once s.done (gone ++ gone_reads) h.once gone_once
        (λ e f c d. two_by_open given actions placed s e f (element (IsOver given actions placed s) s.done e h.over c) (gone_is f d));
    frames = still_sent app codec given actions took s.sent h.frames;
    moving = each_core (λ i v. IsMoving app codec (after_actions given (actions ++ took) (new_cluster given)).released.bag v) s.cores id new moved
        (λ i v e. moving_later app codec given actions took v (h.moving i v e));
  }

-- a server starts, at first or after a crash
pub beside_reading : {S : Type 0} (app : Application S) (codec : Codec S) → StaysByReading app codec
beside_reading {S} app codec given wf actions placed s h log k disk bytes o member same begins c =
    let took : List Action = Crashes log.node c.survive 0 ∷ [] in
    let z = opens app given wf actions h.may placed h.placed_are log.node c.survive 0 member o.core begins.node begins.is_given begins.requests
    disk same c.stands in
    let ps : placed ≡ placed ++ [] = sym (append-nil placed) in
    let n : length (actions ++ took) ≡ length actions + 1 = length-append actions took in
    subst (λ ps. AreBeside app codec given (actions ++ took) ps (after_end log.node (Some o.core) (length actions + 1) s)) (append-nil placed)
    (beside_by_end app codec given actions placed s h log.node (length actions + 1) (Some o.core) took (refl, tt) z.0
    (subst (ArePlaced given (actions ++ took)) ps z.1)
    (λ i. bare_start given actions log.node c.survive 0 i (h.bare i))
    (omega (arith, n))
    (λ v e. subst (λ ps. IsCore app given (actions ++ took) ps log.node v []) ps
    (subst (λ (v : CoreView S). IsCore app given (actions ++ took) placed log.node v []) (some_same o.core v e) z.2))
    (λ v e. subst (λ (v : CoreView S). IsReader given (actions ++ took) log.node v []) (some_same o.core v e)
    (reader_start given actions log.node c.survive 0 o.core begins.executed begins.reads (h.bare log.node)))
    (λ v e. subst (IsMoving app codec (after_actions given (actions ++ took) (new_cluster given)).released.bag) (some_same o.core v e)
    (record {
      preparing = subst (AllByRecursion (HasLeft app codec (after_actions given (actions ++ took) (new_cluster given)).released.bag))
          (sym begins.preparing) tt;
      going = subst (AllByRecursion (IsGoing app codec (after_actions given (actions ++ took) (new_cluster given)).released.bag)) (sym begins.outgoing) tt;
      coming = subst (IsComing app codec (after_actions given (actions ++ took) (new_cluster given)).released.bag) (sym begins.incoming) (inl refl);
    })))

pub beside_start : {S : Type 0} (app : Application S) (codec : Codec S) → IsCodec codec → StaysByStart app codec
beside_start {S} app codec inverse given wf actions placed s h log k disk batches next n o member same cut begins =
    let server : PackedServer S = record (server_packed app (server_after given actions log.node)) { disk = disk } in
    let c = opens_after_cuts app codec inverse given log k 0 server batches next n (record { server = o.core.server; end = o.end }) cut begins.opens in
    (c.survive, beside_reading app codec given wf actions placed s h log k disk (cut_file app codec log batches next n) o member same begins c)

-- a server stops for good
pub beside_stop : {S : Type 0} (app : Application S) (codec : Codec S) (given : Given) (actions : List Action) (placed : List Placed) (s : Cores S)
    → AreBeside app codec given actions placed s → (id : ℕ) → AreBeside app codec given actions placed (after_end id None (length actions) s)
beside_stop app codec given actions placed s h id =
    let n : length (actions ++ []) ≡ length actions + 0 = length-append {A = Action} actions [] in
    subst (λ xs. AreBeside app codec given xs placed (after_end id None (length actions) s)) (append-nil actions)
    (subst (λ ps. AreBeside app codec given (actions ++ []) ps (after_end id None (length actions) s)) (append-nil placed)
    (beside_by_end app codec given actions placed s h id (length actions) None [] tt
    (subst (λ xs. AllMayAct given xs (new_cluster given)) (sym (append-nil actions)) h.may)
    (subst (ArePlaced given (actions ++ [])) (sym (append-nil placed)) (subst (λ xs. ArePlaced given xs placed) (sym (append-nil actions)) h.placed_are))
    (λ i. subst (λ xs. StartsBare xs i) (sym (append-nil actions)) (h.bare i))
    (omega (arith, n))
    (λ v e. cc)
    (λ v e. cc)
    (λ v e. cc)))
