-- How stores, messages and records relate to the machine, and that each event keeps this.
use Rattle.std.proofs.Common.{ℕ, zero, suc, ◌+◌, ◌-◌, ◌<◌, ◌≤◌, ◌≡◌, ⊎_elim, true, false, List, ◌∷◌, length, arith, refl, sym, ap, ◌∙◌, subst}
use Rattle.proof_agreement.specs.Machine.{Entry, Log, Node, World, Setup, Grant, Executed, Includes, Agree, AtOrBelow, log_of, leader_log, vote_of, last_leader}
use Rattle.proof_agreement.proofs.Logs.{Agree-refl, Agree-sym, Agree-trans, Agree-less}
use Rattle.proof_agreement.proofs.Invariants.{Invariants, Covered}
use Rattle.proof_agreement.proofs.Stability.{Grows, cover_on, holds_on}
use Rattle.proof_agreement.proofs.Growth.{Still}
use Rattle.proof_agreement.specs.Stores.{Store, Append, Message, VoteRequest, VoteGranted, AppendRequest, Accepted, SnapshotRequest, Stores, ExecutedCommit, InstalledSnapshot, DecidedCommit, EstablishedLeader, whole, entry_at, last_leader_of, of_list}

module _ {A : Type 0} where
  -- two logs with the same entries
  pub record Same (X Y : Log A) : Type 0 where
    pub len : X.len ≡ Y.len
    pub agree : Agree X.len X Y

  -- how front, stored entries and snapshot stand to one another: where the entries reach the snapshot's end, they hold
  -- its last id
  pub record Shape (s : Setup A) (front : ℕ) (entries snapshot : List (Entry A)) : Type 0 where
    pub low : front ≤ length snapshot
    pub joined : front < length snapshot → length snapshot ≤ front + length entries → (entry_at s entries (length snapshot - suc front)).leader ≡ last_leader_of s snapshot

  pub record StoreOk (s : Setup A) (N : Node A) (S : Store A) : Type 0 where
    pub vote : N.vote ≡ S.vote
    pub vote_committed : N.vote_committed ≡ S.vote_committed
    pub committed : N.committed ≡ S.committed
    pub log : Same N.log (of_list s (whole S))
    pub room : length S.snapshot ≤ S.committed
    pub note : length S.noted ≤ S.committed
    pub shape : Shape s S.front S.entries S.snapshot

module _ {A : Type 0} (s : Setup A) (w : World A) where
  -- d's owner still asks for votes
  pub record StillAsks (d : ℕ) : Type 0 where
    pub vote : vote_of w (s.owner d) ≡ d
    pub not_committed : (w.node (s.owner d)).vote_committed ≡ false

  -- while the candidate still asks, its request tells the end of its log
  pub record VoteRequestOk (d a l : ℕ) : Type 0 where
    pub positive : 0 < d
    pub sent : d ≤ vote_of w (s.owner d)
    pub end : StillAsks d → (a ≡ last_leader (log_of w (s.owner d)).at (log_of w (s.owner d)).len) × (l ≡ (log_of w (s.owner d)).len)

  -- while the candidate still asks, a granted vote's log ends at or below the candidate's
  pub record VoteGrantedOk (n d : ℕ) : Type 0 where
    pub grant : Grant
    pub has : Includes w.grants grant
    pub node : grant.node ≡ n
    pub leader : grant.leader ≡ d
    pub positive : 0 < d
    pub sent : d ≤ vote_of w (s.owner d)
    pub end : StillAsks d → AtOrBelow grant.last grant.len (last_leader (log_of w (s.owner d)).at (log_of w (s.owner d)).len) (log_of w (s.owner d)).len

  -- an append request is a segment of its leader's log, and what it tells as committed is decided
  pub record AppendRequestOk (d : ℕ) (r : Append A) : Type 0 where
    pub established : (w.leader d).established ≡ true
    pub fits : r.from + length r.entries ≤ (leader_log w d).len
    pub same : (j : ℕ) → j < length r.entries → (leader_log w d).at (r.from + j) ≡ entry_at s r.entries j
    pub previous : last_leader (leader_log w d).at r.from ≡ r.previous
    pub cover : Covered w d (leader_log w d) r.committed
    pub committed_is : last_leader (leader_log w d).at r.committed ≡ r.committed_leader

  -- a snapshot that was sent is of decided entries
  pub record SnapshotRequestOk (d : ℕ) (es : List (Entry A)) : Type 0 where
    pub established : (w.leader d).established ≡ true
    pub cover : Covered w d (of_list s es) (length es)

  -- what a node accepted it has acknowledged, and it stands in the leader's log
  pub record AcceptedOk (n d last upto : ℕ) : Type 0 where
    pub acknowledged : upto ≤ w.acknowledged n d
    pub inside : upto ≤ (leader_log w d).len
    pub last_is : last_leader (leader_log w d).at upto ≡ last

  abbrev pub MessageOk : Message A → Type 0
  MessageOk (VoteRequest d a l) = VoteRequestOk d a l
  MessageOk (VoteGranted n d) = VoteGrantedOk n d
  MessageOk (AppendRequest r) = AppendRequestOk r.session.leader r
  MessageOk (SnapshotRequest q es) = SnapshotRequestOk q.leader es
  MessageOk (Accepted n q last upto) = AcceptedOk n q.leader last upto

  -- what is stored beside the log is of decided entries: the snapshot, the noted list, and the saved committed id
  pub record BehindOk (v : ℕ) (snapshot noted : List (Entry A)) (saved saved_leader : ℕ) : Type 0 where
    pub cover : Covered w v (of_list s snapshot) (length snapshot)
    pub note : Covered w v (of_list s noted) (length noted)
    pub leader : ℕ
    pub low : leader ≤ v
    pub within : saved ≤ (w.leader leader).decided
    pub inside : saved ≤ (leader_log w leader).len
    pub is : last_leader (leader_log w leader).at saved ≡ saved_leader

  pub record InstalledOk (x : InstalledSnapshot A) : Type 0 where
    pub up_to : ℕ
    pub cover : Covered w up_to (of_list s x.entries) (length x.entries)

  pub record DecidedOk (x : DecidedCommit A) : Type 0 where
    pub size : length x.entries ≡ suc x.index
    pub within : x.index < (w.leader x.leader).decided
    pub agree : Agree (suc x.index) (of_list s x.entries) (leader_log w x.leader)
    pub own : (entry_at s x.entries x.index).leader ≡ x.leader

  pub record EstablishedOk (x : EstablishedLeader A) : Type 0 where
    pub established : (w.leader x.leader).established ≡ true
    pub base : (w.leader x.leader).base ≤ length x.entries
    pub agree : Agree (length x.entries) (of_list s x.entries) (leader_log w x.leader)

  -- what was sent and recorded
  pub record ToldOk (messages : List (Message A)) (executed : List (ExecutedCommit A)) (installed : List (InstalledSnapshot A)) (decided : List (DecidedCommit A)) (established : List (EstablishedLeader A)) : Type 0 where
    pub message : (m : Message A) → Includes messages m → MessageOk m
    pub executed_one : (x : ExecutedCommit A) → Includes executed x → Includes w.executed (record { index = x.index; entry = x.entry })
    pub installed_one : (x : InstalledSnapshot A) → Includes installed x → InstalledOk x
    pub decided_one : (x : DecidedCommit A) → Includes decided x → DecidedOk x
    pub established_one : (x : EstablishedLeader A) → Includes established x → EstablishedOk x

-- what a later world keeps of an earlier one: leaders stay established on the same base, their histories got longer, and
-- acknowledgements stay
pub record Since {A : Type 0} (w w' : World A) : Type 0 where
  pub base : (d : ℕ) → (w.leader d).established ≡ true → ((w'.leader d).established ≡ true) × ((w'.leader d).base ≡ (w.leader d).base)
  pub log : (d : ℕ) → Agree (leader_log w d).len (leader_log w d) (leader_log w' d)
  pub acknowledged : (n d : ℕ) → w.acknowledged n d ≤ w'.acknowledged n d

module _ {A : Type 0} where
  pub Since-refl : (w : World A) → Since w w
  Since-refl w = record { base = λ d u. (u, refl); log = λ d. Agree-refl (leader_log w d).len (leader_log w d) (omega arith); acknowledged = λ n d. omega arith }

  pub Since-grows : (u w w' : World A) → Since u w → Grows w w' → Since u w'
  Since-grows u w w' h g =
      record {
        base = λ d x. let p = h.base d x in ((g.leader d).established p.0, (g.leader d).base p.0 ∙ p.1);
        log = λ d. let a : Agree (leader_log u d).len (leader_log u d) (leader_log w d) = h.log d in Agree-trans a (Agree-less (leader_log u d).len a.right (g.leader d).log);
        acknowledged = λ n d. omega (arith, h.acknowledged n d, g.acknowledges n d);
      }

module _ {A : Type 0} where
  -- leader d committed its entry at k, or one above it, and that is recorded
  pub record IsRecorded (decided : List (DecidedCommit A)) (d k : ℕ) : Type 0 where
    pub commit : DecidedCommit A
    pub there : Includes decided commit
    pub leader : commit.leader ≡ d
    pub past : k ≤ commit.index

  -- whatever a leader of the machine has decided is recorded
  abbrev pub AllRecorded : World A → List (DecidedCommit A) → Type 0
  AllRecorded w decided = (d k : ℕ) → k < (w.leader d).decided → IsRecorded decided d k

-- a world of the machine that the stores follow, and that came after `since`
pub record StoresFollow {A : Type 0} (s : Setup A) (since : World A) (W : Stores A) : Type 0 where
  pub world : World A
  pub inv : Invariants s world
  pub above : Since since world
  pub store : (n : ℕ) → StoreOk s (world.node n) (W.store n)
  pub behind : (n : ℕ) → BehindOk s world (vote_of world n) (W.store n).snapshot (W.store n).noted (W.store n).saved (W.store n).saved_leader
  pub told : ToldOk s world W.messages W.executed W.installed W.decided W.established
  pub recorded : AllRecorded world W.decided

module _ {A : Type 0} where
  pub last_same : (X Y : Log A) (i : ℕ) → Agree i X Y → last_leader X.at i ≡ last_leader Y.at i
  last_same X Y zero a = refl
  last_same X Y (suc i) a = ap (λ x. x.leader) (a.same i (omega arith))

  pub end_same : (X Y : Log A) → Same X Y → last_leader Y.at Y.len ≡ last_leader X.at X.len
  end_same X Y t = subst (λ n. last_leader Y.at n ≡ last_leader X.at X.len) t.len (sym (last_same X Y X.len t.agree))

module _ {A : Type 0} (s : Setup A) (w w' : World A) (g : Grows w w') (t : Still w w') where
  -- a candidate that still asks asked before, with the same log
  refusals_of_back : (d : ℕ) → 0 < d → d ≤ vote_of w (s.owner d) → StillAsks s w' d → StillAsks s w d
  refusals_of_back d p h a =
      let e : vote_of w (s.owner d) ≡ d = omega (arith, g.vote (s.owner d), a.vote) in
      record { vote = e; not_committed = (t (s.owner d) (omega (arith, a.vote)) (omega arith) a.not_committed).vote_committed }

  same_log : (d : ℕ) → 0 < d → d ≤ vote_of w (s.owner d) → StillAsks s w' d → log_of w' (s.owner d) ≡ log_of w (s.owner d)
  same_log d p h a = (t (s.owner d) (omega (arith, g.vote (s.owner d), a.vote)) (omega arith) a.not_committed).log

  vote_request_on : (d a l : ℕ) → VoteRequestOk s w d a l → VoteRequestOk s w' d a l
  vote_request_on d a l k =
      record {
        positive = k.positive;
        sent = omega (arith, k.sent, g.vote (s.owner d));
        end = λ x. subst (λ X. (a ≡ last_leader X.at X.len) × (l ≡ X.len)) (sym (same_log d k.positive k.sent x)) (k.end (refusals_of_back d k.positive k.sent x));
      }

  vote_granted_on : (n d : ℕ) → VoteGrantedOk s w n d → VoteGrantedOk s w' n d
  vote_granted_on n d k =
      record {
        grant = k.grant;
        has = g.grants k.grant k.has;
        node = k.node;
        leader = k.leader;
        positive = k.positive;
        sent = omega (arith, k.sent, g.vote (s.owner d));
        end = λ x. subst (λ X. AtOrBelow k.grant.last k.grant.len (last_leader X.at X.len) X.len) (sym (same_log d k.positive k.sent x)) (k.end (refusals_of_back d k.positive k.sent x));
      }

  append_request_on : (d : ℕ) (r : Append A) → AppendRequestOk s w d r → AppendRequestOk s w' d r
  append_request_on d r k =
      record {
        established = (g.leader d).established k.established;
        fits = omega (arith, k.fits, (g.leader d).log.right);
        same = λ j l. sym ((g.leader d).log.same (r.from + j) (omega (arith, k.fits))) ∙ k.same j l;
        previous = sym (last_same (leader_log w d) (leader_log w' d) r.from (Agree-less r.from (omega (arith, k.fits)) (g.leader d).log)) ∙ k.previous;
        cover = let C : Covered w' d (leader_log w d) r.committed = cover_on s w w' g d d (leader_log w d) r.committed (omega arith) k.cover in
            record { leader = C.leader; low = C.low; within = C.within; agree = Agree-trans (Agree-sym (Agree-less r.committed C.agree.left (g.leader d).log)) C.agree };
        committed_is = sym (last_same (leader_log w d) (leader_log w' d) r.committed (Agree-less r.committed k.cover.agree.left (g.leader d).log)) ∙ k.committed_is;
      }

  pub behind_on : (v v' : ℕ) (snapshot noted : List (Entry A)) (saved saved_leader : ℕ) → v ≤ v' → BehindOk s w v snapshot noted saved saved_leader → BehindOk s w' v' snapshot noted saved saved_leader
  behind_on v v' snapshot noted saved saved_leader h k =
      record {
        cover = cover_on s w w' g v v' (of_list s snapshot) (length snapshot) h k.cover;
        note = cover_on s w w' g v v' (of_list s noted) (length noted) h k.note;
        leader = k.leader;
        low = omega (arith, k.low);
        within = omega (arith, k.within, (g.leader k.leader).decided);
        inside = omega (arith, k.inside, (g.leader k.leader).log.right);
        is = sym (last_same (leader_log w k.leader) (leader_log w' k.leader) saved (Agree-less saved k.inside (g.leader k.leader).log)) ∙ k.is;
      }

  pub message_on : (m : Message A) → MessageOk s w m → MessageOk s w' m
  message_on (VoteRequest d a l) k = vote_request_on d a l k
  message_on (VoteGranted n d) k = vote_granted_on n d k
  message_on (AppendRequest r) k = append_request_on r.session.leader r k
  message_on (SnapshotRequest q es) k = record { established = (g.leader q.leader).established k.established; cover = cover_on s w w' g q.leader q.leader (of_list s es) (length es) (omega arith) k.cover }
  message_on (Accepted n q last upto) k = record { acknowledged = omega (arith, k.acknowledged, g.acknowledges n q.leader); inside = omega (arith, k.inside, (g.leader q.leader).log.right); last_is = sym (last_same (leader_log w q.leader) (leader_log w' q.leader) upto (Agree-less upto k.inside (g.leader q.leader).log)) ∙ k.last_is }

  installed_on : (x : InstalledSnapshot A) → InstalledOk s w x → InstalledOk s w' x
  installed_on x k = record { up_to = k.up_to; cover = cover_on s w w' g k.up_to k.up_to (of_list s x.entries) (length x.entries) (omega arith) k.cover }

  decided_on : (x : DecidedCommit A) → DecidedOk s w x → DecidedOk s w' x
  decided_on x k = record { size = k.size; within = omega (arith, k.within, (g.leader x.leader).decided); agree = holds_on s w w' g x.leader k.agree; own = k.own }

  established_on : (x : EstablishedLeader A) → EstablishedOk s w x → EstablishedOk s w' x
  established_on x k = record { established = (g.leader x.leader).established k.established; base = omega (arith, k.base, (g.leader x.leader).base k.established); agree = holds_on s w w' g x.leader k.agree }

  pub told_on : (more : (x : Executed A) → Includes w.executed x → Includes w'.executed x) (messages : List (Message A)) (executed : List (ExecutedCommit A)) (installed : List (InstalledSnapshot A)) (decided : List (DecidedCommit A)) (established : List (EstablishedLeader A)) → ToldOk s w messages executed installed decided established → ToldOk s w' messages executed installed decided established
  told_on more messages executed installed decided established k =
      record {
        message = λ m h. message_on m (k.message m h);
        executed_one = λ x h. more (record { index = x.index; entry = x.entry }) (k.executed_one x h);
        installed_one = λ x h. installed_on x (k.installed_one x h);
        decided_one = λ x h. decided_on x (k.decided_one x h);
        established_one = λ x h. established_on x (k.established_one x h);
      }

-- one more of a kind
module _ {A : Type 0} (s : Setup A) (w : World A) (messages : List (Message A)) (executed : List (ExecutedCommit A)) (installed : List (InstalledSnapshot A)) (decided : List (DecidedCommit A)) (established : List (EstablishedLeader A)) (k : ToldOk s w messages executed installed decided established) where
  pub told_message : (m : Message A) → MessageOk s w m → ToldOk s w (m ∷ messages) executed installed decided established
  told_message m o = record { message = λ x h. ⊎_elim (λ e. subst (MessageOk s w) e o) (k.message x) h; executed_one = k.executed_one; installed_one = k.installed_one; decided_one = k.decided_one; established_one = k.established_one }

  pub told_executed : (y : ExecutedCommit A) → Includes w.executed (record { index = y.index; entry = y.entry }) → ToldOk s w messages (y ∷ executed) installed decided established
  told_executed y o = record { message = k.message; executed_one = λ x h. ⊎_elim (λ e. subst (λ z. Includes w.executed (record { index = z.index; entry = z.entry })) e o) (k.executed_one x) h; installed_one = k.installed_one; decided_one = k.decided_one; established_one = k.established_one }

  pub told_installed : (y : InstalledSnapshot A) → InstalledOk s w y → ToldOk s w messages executed (y ∷ installed) decided established
  told_installed y o = record { message = k.message; executed_one = k.executed_one; installed_one = λ x h. ⊎_elim (λ e. subst (InstalledOk s w) e o) (k.installed_one x) h; decided_one = k.decided_one; established_one = k.established_one }

  pub told_decided : (y : DecidedCommit A) → DecidedOk s w y → ToldOk s w messages executed installed (y ∷ decided) established
  told_decided y o = record { message = k.message; executed_one = k.executed_one; installed_one = k.installed_one; decided_one = λ x h. ⊎_elim (λ e. subst (DecidedOk s w) e o) (k.decided_one x) h; established_one = k.established_one }

  pub told_established : (y : EstablishedLeader A) → EstablishedOk s w y → ToldOk s w messages executed installed decided (y ∷ established)
  told_established y o = record { message = k.message; executed_one = k.executed_one; installed_one = k.installed_one; decided_one = k.decided_one; established_one = λ x h. ⊎_elim (λ e. subst (EstablishedOk s w) e o) (k.established_one x) h }
