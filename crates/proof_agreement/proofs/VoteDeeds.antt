-- A deed is a few events of the machine; and the deeds of votes.
use Rattle.std.proofs.Common.{ℕ, suc, ◌<◌, ◌≤◌, ◌≡◌, ◌≢◌, inl, inr, ⊎_elim, Bool, true, false, List, [], ◌∷◌, length, eqb, cond, max, arith, refl, sym, ap, ◌∙◌, subst}
use Rattle.std.proofs.lemmas.Bool.{cases_lt, eqb-true}
use Rattle.proof_agreement.specs.Machine.{World, Node, Setup, Agree, AtOrBelow, log_of, leader_log, vote_of, last_leader, updated, Event, RaiseVote, GrantVote, Follow, Establish, Propose, Decide, LearnCommitted, ForgetCommitted, Allowed, happens}
use Rattle.proof_agreement.proofs.Logs.{Agree-sym, Agree-refl, updated_all}
use Rattle.proof_agreement.proofs.Invariants.{Covered}
use Rattle.proof_agreement.proofs.Growth.{grows, still, executed_grows}
use Rattle.proof_agreement.proofs.Theorems.{kept}
use Rattle.proof_agreement.proofs.Bridge.{snapshot_in}
use Rattle.proof_agreement.specs.Stores.{DecidedCommit, Store, Message, VoteRequest, VoteGranted, Stores, whole, of_list, last_leader_of, no_session}
use Rattle.proof_agreement.specs.Deeds.{IsCandidate, MayAnswerVote, MayRestart, MayRestartSaved, put, say}
use Rattle.proof_agreement.proofs.StoresFollow.{AllRecorded, IsRecorded, StoreOk, VoteRequestOk, BehindOk, MessageOk, ToldOk, behind_on, StoresFollow, Since-grows, told_on, told_message, end_same}

pub updated_both : {X Y : Type 0} (P : ℕ → X → Y → Type 0) (f : ℕ → X) (g : ℕ → Y) (a n : ℕ) (x : X) (y : Y) → a ≡ n → P n x y → ((m : ℕ) → P m (f m) (g m)) → (m : ℕ) → P m (updated f a x m) (updated g n y m)
updated_both P f g a n x y p h k =
    subst (λ j. (m : ℕ) → P m (updated f j x m) (updated g n y m)) (sym p) at_n
  where
    at_n : (m : ℕ) → P m (updated f n x m) (updated g n y m)
    at_n m = go (eqb m n) refl
      where
        go : (b : Bool) → eqb m n ≡ b → P m (cond b x (f m)) (cond b y (g m))
        go true e = subst (λ j. P j x y) (sym (eqb-true m n e)) h
        go false e = k m

module _ {A : Type 0} where
  -- of what an event decides, there is a record more
  abbrev pub Records : Event A → List (DecidedCommit A) → List (DecidedCommit A) → Type 0
  Records (Decide d c q) old new = (x : DecidedCommit A) × (new ≡ x ∷ old) × (x.leader ≡ d) × (suc x.index ≡ c)
  Records _ old new = new ≡ old

  recorded_more : (x : DecidedCommit A) (old : List (DecidedCommit A)) (d k : ℕ) → IsRecorded old d k → IsRecorded (x ∷ old) d k
  recorded_more x old d k h = record { commit = h.commit; there = inr h.there; leader = h.leader; past = h.past }

  pub still_recorded : (s : Setup A) (w : World A) (e : Event A) (old new : List (DecidedCommit A)) → Records e old new → AllRecorded w old → AllRecorded (happens s w e) new
  still_recorded s w (Decide d c q) old new r h =
      subst (λ ds. AllRecorded (happens s w (Decide d c q)) ds) (sym r.1)
      (updated_all (λ m D. (k : ℕ) → k < D.decided → IsRecorded (r.0 ∷ old) m k) w.leader d (record (w.leader d) { decided = max c (w.leader d).decided })
      (λ k l. ⊎_elim
      (λ b. recorded_more r.0 old d k (h d k b))
      (λ b. record { commit = r.0; there = inl refl; leader = r.2; past = omega (arith, l, b, r.3) })
      (cases_lt k (w.leader d).decided))
      (λ m _ k l. recorded_more r.0 old m k (h m k l)))
  still_recorded s w (Establish d q) old new r h =
      subst (λ ds. AllRecorded (happens s w (Establish d q)) ds) (sym r)
      (updated_all (λ m D. (k : ℕ) → k < D.decided → IsRecorded old m k) w.leader d _ (λ k l. absurd (omega (arith, l))) (λ m _. h m))
  still_recorded s w (Propose d payload) old new r h =
      subst (λ ds. AllRecorded (happens s w (Propose d payload)) ds) (sym r)
      (updated_all (λ m D. (k : ℕ) → k < D.decided → IsRecorded old m k) w.leader d _ (h d) (λ m _. h m))
  still_recorded s w _ old new r h = subst (AllRecorded w) (sym r) h

module _ {A : Type 0} (s : Setup A) (since : World A) (W : Stores A) (K : StoresFollow s since W) where
  -- what was told before an event holds after it
  pub moved : (e : Event A) → Allowed s K.world e → ToldOk s (happens s K.world e) W.messages W.executed W.installed W.decided W.established
  moved e h = told_on s K.world (happens s K.world e) (grows s K.world K.inv e h) (still s K.world K.inv e h) (executed_grows s K.world e) W.messages W.executed W.installed W.decided W.established K.told

  -- one event, after which the stores are those of V
  unfoldable pub after : (e : Event A) → Allowed s K.world e → (V : Stores A) → Records e W.decided V.decided → ((n : ℕ) → StoreOk s ((happens s K.world e).node n) (V.store n)) → ((n : ℕ) → BehindOk s K.world (vote_of K.world n) (V.store n).snapshot (V.store n).noted (V.store n).saved (V.store n).saved_leader) → ToldOk s (happens s K.world e) V.messages V.executed V.installed V.decided V.established → StoresFollow s since V
  after e h V r st sn told =
      record {
        world = happens s K.world e;
        inv = kept s K.world e K.inv h;
        above = Since-grows since K.world (happens s K.world e) K.above (grows s K.world K.inv e h);
        store = st;
        behind = λ n. behind_on s K.world (happens s K.world e) (grows s K.world K.inv e h) (still s K.world K.inv e h) (vote_of K.world n) (vote_of (happens s K.world e) n) (V.store n).snapshot (V.store n).noted (V.store n).saved (V.store n).saved_leader ((grows s K.world K.inv e h).vote n) (sn n);
        told = told;
        recorded = still_recorded s K.world e W.decided V.decided r K.recorded;
      }

  -- no event, and the stores are those of V
  unfoldable pub stay : (V : Stores A) → V.decided ≡ W.decided → ((n : ℕ) → StoreOk s (K.world.node n) (V.store n)) → ((n : ℕ) → BehindOk s K.world (vote_of K.world n) (V.store n).snapshot (V.store n).noted (V.store n).saved (V.store n).saved_leader) → ToldOk s K.world V.messages V.executed V.installed V.decided V.established → StoresFollow s since V
  stay V r st sn told = record { world = K.world; inv = K.inv; above = K.above; store = st; behind = sn; told = told; recorded = subst (AllRecorded K.world) (sym r) K.recorded }

  -- only a message is sent
  unfoldable pub speak : (m : Message A) → MessageOk s K.world m → StoresFollow s since (say W m)
  speak m o = stay (say W m) refl K.store K.behind (told_message s K.world W.messages W.executed W.installed W.decided W.established K.told m o)

  -- an event that leaves the nodes as they are
  unfoldable pub silent : (e : Event A) → Allowed s K.world e → Records e W.decided W.decided → ((n : ℕ) → (happens s K.world e).node n ≡ K.world.node n) → StoresFollow s since W
  silent e h r p = after e h W r (λ n. subst (λ N. StoreOk s N (W.store n)) (sym (p n)) (K.store n)) K.behind (moved e h)

  -- another store at n, with what lies behind its log
  pub behinds : (n : ℕ) (T : Store A) → BehindOk s K.world (vote_of K.world n) T.snapshot T.noted T.saved T.saved_leader → (m : ℕ) → BehindOk s K.world (vote_of K.world m) (updated W.store n T m).snapshot (updated W.store n T m).noted (updated W.store n T m).saved (updated W.store n T m).saved_leader
  behinds n T C = updated_all (λ m U. BehindOk s K.world (vote_of K.world m) U.snapshot U.noted U.saved U.saved_leader) W.store n T C (λ m _. K.behind m)

  -- n's node and store change together
  pub both_change : (n : ℕ) (N : Node A) (T : Store A) → StoreOk s N T → (m : ℕ) → StoreOk s (updated K.world.node n N m) (updated W.store n T m)
  both_change n N T o = updated_both (λ m N T. StoreOk s N T) K.world.node W.store n n N T refl o K.store

  -- n's store changes alone
  pub store_changes : (n : ℕ) (T : Store A) → StoreOk s (K.world.node n) T → (m : ℕ) → StoreOk s (K.world.node m) (updated W.store n T m)
  store_changes n T o = updated_all (λ m U. StoreOk s (K.world.node m) U) W.store n T o (λ m _. K.store m)

  -- the store with another vote
  revoted : (n d : ℕ) (b : Bool) → StoreOk s (record (K.world.node n) { vote = d; vote_committed = b }) (record (W.store n) { vote = d; vote_committed = b })
  revoted n d b = let S : StoreOk s (K.world.node n) (W.store n) = K.store n in record { vote = refl; vote_committed = refl; committed = S.committed; log = S.log; room = S.room; note = S.note; shape = S.shape }

  pub save_vote : (n d : ℕ) → (W.store n).vote < d → StoresFollow s since (put W n (record (W.store n) { vote = d; vote_committed = false }))
  save_vote n d h =
      let T : Store A = record (W.store n) { vote = d; vote_committed = false } in
      let e : vote_of K.world n < d = omega (arith, (K.store n).vote) in
      after (RaiseVote n d) e (put W n T) refl (both_change n (record (K.world.node n) { vote = d; vote_committed = false }) T (revoted n d false)) (behinds n T (K.behind n)) (moved (RaiseVote n d) e)

  pub request_votes : (n : ℕ) → IsCandidate s (W.store n) n → StoresFollow s since (say W (VoteRequest (W.store n).vote (last_leader_of s (whole (W.store n))) (length (whole (W.store n)))))
  request_votes n c =
      let S : StoreOk s (K.world.node n) (W.store n) = K.store n in
      speak (VoteRequest (W.store n).vote (last_leader_of s (whole (W.store n))) (length (whole (W.store n))))
      (record {
        positive = c.positive;
        sent = subst (λ j. (W.store n).vote ≤ vote_of K.world j) (sym c.own) (omega (arith, S.vote));
        end = λ _. subst (λ j. (last_leader_of s (whole (W.store n)) ≡ last_leader (log_of K.world j).at (log_of K.world j).len) × (length (whole (W.store n)) ≡ (log_of K.world j).len)) (sym c.own) (end_same (log_of K.world n) (of_list s (whole (W.store n))) S.log, sym S.log.len);
      })

  pub answer_vote : (n a l : ℕ) → MayAnswerVote s W n a l → StoresFollow s since (say W (VoteGranted n (W.store n).vote))
  answer_vote n a l c =
      let S : StoreOk s (K.world.node n) (W.store n) = K.store n in
      let k : VoteRequestOk s K.world (W.store n).vote a l = K.told.message (VoteRequest (W.store n).vote a l) c.sent in
      let u : AtOrBelow (last_leader (log_of K.world n).at (log_of K.world n).len) (log_of K.world n).len a l = subst (λ x. AtOrBelow x (log_of K.world n).len a l) (end_same (log_of K.world n) (of_list s (whole (W.store n))) S.log) (subst (λ x. AtOrBelow (last_leader_of s (whole (W.store n))) x a l) (sym S.log.len) c.up_to_date) in
      let f : (K.world.node n).vote_committed ≡ false = S.vote_committed ∙ c.not_committed in
      after (GrantVote n) f (say W (VoteGranted n (W.store n).vote)) refl K.store K.behind
      (told_message s (happens s K.world (GrantVote n)) W.messages W.executed W.installed W.decided W.established (moved (GrantVote n) f) (VoteGranted n (W.store n).vote)
      (record {
        grant = record { node = n; leader = vote_of K.world n; last = last_leader (log_of K.world n).at (log_of K.world n).len; len = (log_of K.world n).len };
        has = inl refl;
        node = refl;
        leader = S.vote;
        positive = k.positive;
        sent = k.sent;
        end = λ x. let E : (a ≡ last_leader (log_of K.world (s.owner (W.store n).vote)).at (log_of K.world (s.owner (W.store n).vote)).len) × (l ≡ (log_of K.world (s.owner (W.store n).vote)).len) = k.end (record { vote = x.vote; not_committed = x.not_committed }) in
            subst (λ y. AtOrBelow (last_leader (log_of K.world n).at (log_of K.world n).len) (log_of K.world n).len y (log_of K.world (s.owner (W.store n).vote)).len) E.0 (subst (λ y. AtOrBelow (last_leader (log_of K.world n).at (log_of K.world n).len) (log_of K.world n).len a y) E.1 u);
      }))

  -- n takes the vote of an established leader
  pub follow : (n d : ℕ) → (K.world.leader d).established ≡ true → (W.store n).vote ≤ d → n ≢ s.owner d → StoresFollow s since (put W n (record (W.store n) { vote = d; vote_committed = true }))
  follow n d u h ne =
      let T : Store A = record (W.store n) { vote = d; vote_committed = true } in
      let e : Allowed s K.world (Follow n d) = record { established = u; from = omega (arith, (K.store n).vote); other = ne } in
      after (Follow n d) e (put W n T) refl (both_change n (record (K.world.node n) { vote = d; vote_committed = true }) T (revoted n d true)) (behinds n T (K.behind n)) (moved (Follow n d) e)

  -- a restart drops the note and the streams
  dropped : (n : ℕ) → BehindOk s K.world (vote_of K.world n) (W.store n).snapshot [] (W.store n).saved (W.store n).saved_leader
  dropped n =
      let B : BehindOk s K.world (vote_of K.world n) (W.store n).snapshot (W.store n).noted (W.store n).saved (W.store n).saved_leader = K.behind n in
      record {
        cover = B.cover;
        note = record { leader = 0; low = omega arith; within = omega arith; agree = record { left = omega arith; right = omega arith; same = λ i h. absurd (omega arith) } };
        leader = B.leader;
        low = B.low;
        within = B.within;
        inside = B.inside;
        is = B.is;
      }

  -- nothing that is saved stands for no commit
  pub forget_saved : (n : ℕ) → StoresFollow s since (put W n (record (W.store n) { saved = 0; saved_leader = 0 }))
  forget_saved n =
      let S : StoreOk s (K.world.node n) (W.store n) = K.store n in
      let B : BehindOk s K.world (vote_of K.world n) (W.store n).snapshot (W.store n).noted (W.store n).saved (W.store n).saved_leader = K.behind n in
      let T : Store A = record (W.store n) { saved = 0; saved_leader = 0 } in
      stay (put W n T) refl (store_changes n T (record { vote = S.vote; vote_committed = S.vote_committed; committed = S.committed; log = S.log; room = S.room; note = S.note; shape = S.shape }))
      (behinds n T (record { cover = B.cover; note = B.note; leader = 0; low = omega arith; within = omega arith; inside = omega arith; is = refl }))
      K.told

  pub restart : (n c : ℕ) → MayRestart (W.store n) c → StoresFollow s since (put W n (record (W.store n) { committed = c; noted = []; session = no_session }))
  restart n c h =
      let S : StoreOk s (K.world.node n) (W.store n) = K.store n in
      let T : Store A = record (W.store n) { committed = c; noted = []; session = no_session } in
      let e : c ≤ (K.world.node n).committed = omega (arith, S.committed, h.lower) in
      after (ForgetCommitted n c) e (put W n T) refl
      (both_change n (record (K.world.node n) { committed = c }) T (record { vote = S.vote; vote_committed = S.vote_committed; committed = refl; log = S.log; room = h.snapshot; note = omega arith; shape = S.shape }))
      (behinds n T (dropped n)) (moved (ForgetCommitted n c) e)

  pub restart_saved : (n k : ℕ) → MayRestartSaved s (W.store n) k → StoresFollow s since (put W n (record (W.store n) { committed = (W.store n).saved; noted = []; session = no_session }))
  restart_saved n k h =
      let S : StoreOk s (K.world.node n) (W.store n) = K.store n in
      let B : BehindOk s K.world (vote_of K.world n) (W.store n).snapshot (W.store n).noted (W.store n).saved (W.store n).saved_leader = K.behind n in
      let T : Store A = record (W.store n) { committed = (W.store n).saved; noted = []; session = no_session } in
      let l : k < (log_of K.world n).len = omega (arith, h.inside, S.log.len) in
      let C : Covered K.world (vote_of K.world n) (leader_log K.world B.leader) (suc k) = record { leader = B.leader; low = B.low; within = omega (arith, B.within, h.saved); agree = Agree-refl (suc k) (leader_log K.world B.leader) (omega (arith, B.inside, h.saved)) } in
      let q : ((leader_log K.world B.leader).at k).leader ≡ (W.store n).saved_leader = subst (λ m. last_leader (leader_log K.world B.leader).at m ≡ (W.store n).saved_leader) h.saved B.is in
      let a : Agree (suc k) (leader_log K.world B.leader) (log_of K.world n) = snapshot_in s K.world K.inv n (vote_of K.world n) k (leader_log K.world B.leader) C l (ap (λ z. z.leader) (S.log.agree.same k l) ∙ (h.held ∙ sym q)) in
      let e : Allowed s K.world (LearnCommitted n B.leader (W.store n).saved) = record { low = B.low; decided = B.within; agree = subst (λ m. Agree m (log_of K.world n) (leader_log K.world B.leader)) (sym h.saved) (Agree-sym a) } in
      after (LearnCommitted n B.leader (W.store n).saved) e (put W n T) refl
      (both_change n (record (K.world.node n) { committed = (W.store n).saved }) T (record { vote = S.vote; vote_committed = S.vote_committed; committed = refl; log = S.log; room = h.snapshot; note = omega arith; shape = S.shape }))
      (behinds n T (dropped n)) (moved (LearnCommitted n B.leader (W.store n).saved) e)

  -- streams are of no concern to the machine
  pub restream : (n : ℕ) (q : _) → StoresFollow s since (put W n (record (W.store n) { session = q }))
  restream n q =
      let S : StoreOk s (K.world.node n) (W.store n) = K.store n in
      let T : Store A = record (W.store n) { session = q } in
      stay (put W n T) refl (store_changes n T (record { vote = S.vote; vote_committed = S.vote_committed; committed = S.committed; log = S.log; room = S.room; note = S.note; shape = S.shape })) (behinds n T (K.behind n)) K.told
