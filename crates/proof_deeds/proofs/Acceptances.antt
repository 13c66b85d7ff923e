-- What is accepted in the ideal world stays acknowledged in the bag, as deeds go on.
use Rattle.std.proofs.Common.{ℕ, suc, ◌≡◌, ⊎_elim, Bool, true, false, List, [], ◌∷◌, length, refl, sym, ap, ◌∙◌, subst, true≢false}
use Rattle.std.specs.Prelude.{Contains}
use Rattle.std.specs.List.{AllByRecursion}
use Rattle.proof_agreement.specs.Machine.{Setup, Includes}
use Rattle.proof_agreement.specs.Stores.{Accepted, Session, last_leader_of}
use Rattle.proof_agreement.specs.Deeds.{AcceptAppend, AcceptSnapshot, AnswerVote, CommitByQuorum, RequestVotes, SendAppend, SendSnapshot, does, run_all, say}
use Rattle.raft_node.specs.raft_store.declared.entry.Entry.{Entry}
use Rattle.raft_node.specs.raft_calls.declared.message.Message.{Message}
use Rattle.proof_deeds.specs.Chains.{IsAcknowledged, AcceptsAcknowledged}
use Rattle.proof_deeds.specs.Images.{Ideal, IdealDeed, IdealMessage}
use Rattle.proof_deeds.proofs.Runs.{AllAcknowledged}

abbrev is_accepted : IdealMessage → Bool
is_accepted (Accepted n q last upto) = true
is_accepted _ = false

-- no more messages: no more to acknowledge
pub quiet_answered : (W V : Ideal) (bag : List Message) → V.messages ≡ W.messages → AllAcknowledged W bag → AllAcknowledged V bag
quiet_answered W V bag e h n q last upto i = h n q last upto (subst (λ (ms : List IdealMessage). Includes ms (Accepted n q last upto)) e i)

module _ (s : Setup Entry) (ms bag : List Message) (sent : (m : Message) → Contains ms m → Contains bag m) where
  said : (W : Ideal) (x : IdealMessage) → is_accepted x ≡ false → AllAcknowledged W bag → AllAcknowledged (say W x) bag
  said W x other h n q last upto i = ⊎_elim (λ (e : x ≡ Accepted n q last upto). absurd (true≢false (sym (ap is_accepted e) ∙ other))) (λ k. h n q last upto k) i

  accepts : (W : Ideal) (n : ℕ) (q : Session) (last upto : ℕ) → IsAcknowledged ms n q.leader last upto → AllAcknowledged W bag → AllAcknowledged (say W (Accepted n q last upto)) bag
  accepts W n q last upto a h n2 q2 last2 upto2 i = ⊎_elim (λ (e : ◌≡◌ {A = IdealMessage} (Accepted n q last upto) (Accepted n2 q2 last2 upto2)). same e) (λ k. h n2 q2 last2 upto2 k) i where
    same : ◌≡◌ {A = IdealMessage} (Accepted n q last upto) (Accepted n2 q2 last2 upto2) → IsAcknowledged bag n2 q2.leader last2 upto2
    same e =
        let i : n ≡ n2 = cc in
        let j : q ≡ q2 = cc in
        let l : last ≡ last2 = cc in
        let k : upto ≡ upto2 = cc in
        subst (λ m. IsAcknowledged bag m q2.leader last2 upto2) i
        (subst (λ (p : Session). IsAcknowledged bag n p.leader last2 upto2) j
        (subst (λ x. IsAcknowledged bag n q.leader x upto2) l
        (subst (λ m. IsAcknowledged bag n q.leader last m) k (a.0, sent a.0 a.1, a.2))))

  does_answered : (W : Ideal) (d : IdealDeed) → AcceptsAcknowledged s ms d → AllAcknowledged W bag → AllAcknowledged (does s W d) bag
  does_answered W (RequestVotes n) a h = said W _ refl h
  does_answered W (AnswerVote n last len) a h = said W _ refl h
  does_answered W (SendAppend n i m) a h = said W _ refl h
  does_answered W (SendSnapshot n) a h = said W _ refl h
  does_answered W (CommitByQuorum n c q) a h = said W _ refl h
  does_answered W (AcceptAppend n r k x) a h = accepts W n r.session x (suc k) a h
  does_answered W (AcceptSnapshot n q es) a h = accepts W n q (last_leader_of s es) (length es) a h
  does_answered W _ a h = h

  -- so with the deeds of a command, whose replies are in the bag
  pub run_answered : (ds : List IdealDeed) (W : Ideal) → AllByRecursion (AcceptsAcknowledged s ms) ds → AllAcknowledged W bag → AllAcknowledged (run_all s ds W) bag
  run_answered [] W a h = h
  run_answered (d ∷ ds) W a h = run_answered ds (does s W d) a.1 (does_answered W d a.0 h)
