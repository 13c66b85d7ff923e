-- The greatest log: the node that its last id names still has that id as its last one, and is a voter of its own membership. So it stays
-- after an event, if each who leads is a voter.
use Rattle.std.proofs.Common.{ℕ, ◌+◌, ◌<◌, ◌≤◌, ◌≡◌, ◌≢◌, ◌⊎◌, inl, inr, ⊎_elim, Bool, true, false, List, [], ◌∷◌, ◌++◌, append-nil, append_assoc, arith, refl, sym, ap, ◌∙◌, subst}
use Rattle.std.specs.Prelude.{Contains, nat_eq}
use Rattle.std.proofs.lemmas.Bool.{cases_lt}
use Rattle.std.proofs.lemmas.Bool.Decides.{nat_tests}
use Rattle.std.specs.List.{AllByRecursion}
use Rattle.proof_deeds.specs.raft_state.declared.ids.LogId.{LogId}
use Rattle.proof_deeds.specs.raft_state.declared.ids.Vote.{Vote}
use Rattle.proof_deeds.specs.raft_store.declared.entry.Entry.{Entry}
use Rattle.proof_deeds.specs.raft_store.Store.{whole}
use Rattle.proof_deeds.specs.raft_calls.declared.message.Body.{Body}
use Rattle.proof_deeds.specs.raft_calls.declared.message.Body.TheVariants as body
use Rattle.proof_deeds.specs.raft_calls.declared.message.Message.{Message}
use Rattle.proof_deeds.specs.raft_node.Net.{Net, NodeView}
use Rattle.proof_deeds.specs.Images.{IsNamed, number}
use Rattle.proof_deeds.proofs.Numbers.{number_same}
use Rattle.proof_deeds.proofs.Promised.{one_of}
use Rattle.proof_deeds.proofs.Worlds.{each_on}
use Rattle.proof_progress.specs.Continuations.{At}
use Rattle.proof_progress.proofs.EntriesKept.{NodeOf}
use Rattle.proof_progress.proofs.EntriesQueued.{BodyOf}
use Rattle.proof_progress.proofs.EntriesStored.{whole_keeps}
use Rattle.proof_progress.proofs.OwnFirst.{UpTo, end_leader, more_upto}
use Rattle.proof_progress.proofs.Places.{at_one}
use Rattle.proof_progress.proofs.VoteQueues.{Votes, votes_along}

-- What a node has

-- each entry that messages bring is so
abbrev pub BagOf : (Entry → Type 0) → List Message → Type 0
BagOf P ms = AllByRecursion (λ (m : Message). BodyOf P m.body) ms

module _ (P : Entry → Type 0) where
  pub behind_all : (xs ys : List Entry) → AllByRecursion P (xs ++ ys) → AllByRecursion P ys
  behind_all [] ys h = h
  behind_all (x ∷ xs) ys h = behind_all xs ys h.1

node_on : (P Q : Entry → Type 0) → ((e : Entry) → P e → Q e) → (N : NodeView) → NodeOf P N → NodeOf Q N
node_on P Q f N h = record {
  store = record {
    log = each_on (λ (p : ℕ × Entry). P p.1) (λ (p : ℕ × Entry). Q p.1) (λ p. f p.1) N.store.log h.store.log;
    snap = each_on P Q f N.store.snap h.store.snap;
    applied = each_on P Q f N.store.applied h.store.applied;
  };
  noted = λ es q. each_on P Q f es (h.noted es q);
}

body_on : (P Q : Entry → Type 0) → ((e : Entry) → P e → Q e) → (b : Body) → BodyOf P b → BodyOf Q b
body_on P Q f (body.VoteRequest q) h = tt
body_on P Q f (body.VoteReply r) h = tt
body_on P Q f (body.AppendRequest o prev es committed) h = each_on P Q f es h
body_on P Q f (body.AppendReply o r prev upto) h = tt
body_on P Q f (body.SnapshotRequest o s) h = each_on P Q f s.snapshot h
body_on P Q f (body.SnapshotReply o r upto) h = tt

-- a log's end is of no later leader id than its entries are
pub end_upto : (c : ℕ) (es : List Entry) → AllByRecursion (λ (e : Entry). number e.log_id.leader_id ≤ c) es → end_leader es ≤ c
end_upto c [] h = omega arith
end_upto c (e ∷ []) h = h.0
end_upto c (e ∷ f ∷ es) h = end_upto c (f ∷ es) h.1

-- Ids

-- y isn't above x
abbrev pub Below : LogId ℕ → LogId ℕ → Type 0
Below x y = (number y.leader_id < number x.leader_id) ⊎ ((number y.leader_id ≡ number x.leader_id) × (y.index ≤ x.index))

abbrev pub IsUnder : LogId ℕ → Entry → Type 0
IsUnder x e = Below x e.log_id

pub below_number : (x y : LogId ℕ) → Below x y → number y.leader_id ≤ number x.leader_id
below_number x y (inl l) = omega (arith, l)
below_number x y (inr p) = omega (arith, p.0)

below_then : (x y z : LogId ℕ) → Below x y → Below y z → Below x z
below_then x y z (inl l) (inl k) = inl (omega (arith, l, k))
below_then x y z (inl l) (inr q) = inl (omega (arith, l, q.0))
below_then x y z (inr p) (inl k) = inl (omega (arith, p.0, k))
below_then x y z (inr p) (inr q) = inr (omega (arith, p.0, q.0), omega (arith, p.1, q.1))

-- of two ids one isn't above the other
below_or : (x y : LogId ℕ) → Below x y ⊎ Below y x
below_or x y =
    ⊎_elim (λ l. inr (inl l))
    (λ ge. ⊎_elim (λ l. inl (inl l)) (λ le. ⊎_elim (λ i. inr (inr (omega (arith, ge, le), omega (arith, i)))) (λ i. inl (inr (omega (arith, ge, le), i))) (cases_lt x.index y.index)) (cases_lt (number y.leader_id) (number x.leader_id)))
    (cases_lt (number x.leader_id) (number y.leader_id))

-- Worlds

-- all entries are so, and no request is of a later leader id
pub record Within (P : Entry → Type 0) (c : ℕ) (net : Net (List Entry)) : Type 0 where
  pub nodes : (t : ℕ) (T : NodeView) → At net.nodes t T → NodeOf P T
  pub bag : BagOf P net.records.bag
  pub sent : AllByRecursion (λ (m : Message). UpTo c m.body) net.records.bag

-- no entry or request is of a leader id above the first
abbrev pub IsFirst : Entry → Type 0
IsFirst e = number e.log_id.leader_id ≤ 0

-- the node that x names has it as its last id, and is a voter; no id is above x
pub record IsTop (net : Net (List Entry)) (o : ℕ) (x : LogId ℕ) : Type 0 where
  pub node : NodeView
  pub at : At net.nodes o node
  pub own : x.leader_id.node_id ≡ o
  pub positive : 0 < number x.leader_id
  pub before : List Entry
  pub last : Entry
  pub ends : whole node.store ≡ before ++ last ∷ []
  pub is : last.log_id ≡ x
  pub votes : Votes o node.store
  pub within : Within (IsUnder x) (number x.leader_id) net

-- there is such a node, unless no log has more than the first entry
abbrev pub Top : Net (List Entry) → Type 0
Top net = Within IsFirst 0 net ⊎ ((o : ℕ) × (x : LogId ℕ) × IsTop net o x)

-- An event

-- what holds of a node in each reached world: no id of its whole log is above the last one, or of a later leader than its vote
pub record Sorted (N : NodeView) : Type 0 where
  pub rises : (before : List Entry) (y : Entry) → whole N.store ≡ before ++ y ∷ [] → AllByRecursion (IsUnder y.log_id) (whole N.store)
  pub low : AllByRecursion (λ (e : Entry). number e.log_id.leader_id ≤ number N.store.vote.leader_id) (whole N.store)
  pub named : AllByRecursion (λ (e : Entry). IsNamed e.log_id.leader_id) (whole N.store)

-- an event changes a node, and sends messages: each request under a leader id that isn't above the node's last entry then
pub record Moves (net new : Net (List Entry)) (n : ℕ) (N M : NodeView) : Type 0 where
  pub from : At net.nodes n N
  pub to : At new.nodes n M
  pub on : (k : ℕ) (K : NodeView) → k ≢ n → At net.nodes k K → At new.nodes k K
  pub back : (k : ℕ) (K : NodeView) → k ≢ n → At new.nodes k K → At net.nodes k K
  pub sent : AllByRecursion (λ (m : Message). Contains net.records.bag m ⊎ UpTo (end_leader (whole M.store)) m.body) new.records.bag

-- an entry that a node wrote as a leader
pub record IsOwn (n : ℕ) (e : Entry) : Type 0 where
  pub own : e.log_id.leader_id.node_id ≡ n
  pub positive : 0 < number e.log_id.leader_id

-- the node appends the first entry, or entries of its own
pub record Grows (n : ℕ) (N M : NodeView) (brought : List Entry) : Type 0 where
  pub log : whole M.store ≡ whole N.store ++ brought
  pub each : AllByRecursion (λ (e : Entry). IsFirst e ⊎ IsOwn n e) brought

-- a request, with its entries
abbrev pub IsRequest : Body → Vote ℕ → List Entry → Type 0
IsRequest (body.AppendRequest o prev es committed) v fs = (o.session_id.vote ≡ v) × (es ≡ fs)
IsRequest (body.SnapshotRequest o s) v fs = (o.session_id.vote ≡ v) × (s.snapshot ≡ fs)
IsRequest _ v fs = ⊥

-- or it takes a request of another node, under a vote that isn't below its own
pub record Follows (net : Net (List Entry)) (n : ℕ) (N M : NodeView) (brought : List Entry) : Type 0 where
  pub message : Message
  pub there : Contains net.records.bag message
  pub vote : Vote ℕ
  pub request : IsRequest message.body vote brought
  pub other : vote.leader_id.node_id ≢ n
  pub named : IsNamed vote.leader_id
  pub not_lower : number N.store.vote.leader_id ≤ number vote.leader_id

-- The step

same_or_other : (a b : ℕ) → (a ≡ b) ⊎ (a ≢ b)
same_or_other a b = go (nat_eq a b) refl
  where
    yes : nat_eq a b ≡ true → a ≡ b
    yes e = grind (arith, nat_tests)

    no : nat_eq a b ≡ false → a ≢ b
    no e q = let z : nat_eq a b ≡ true = grind (arith, nat_tests) in cc

    go : (t : Bool) → nat_eq a b ≡ t → (a ≡ b) ⊎ (a ≢ b)
    go true e = inl (yes e)
    go false e = inr (no e)

-- the last of some entries
record Ends (es : List Entry) : Type 0 where
  before : List Entry
  last : Entry
  is : es ≡ before ++ last ∷ []

ends_of : (e : Entry) (es : List Entry) → Ends (e ∷ es)
ends_of e [] = record { before = []; last = e; is = refl }
ends_of e (f ∷ es) = let h : Ends (f ∷ es) = ends_of f es in record { before = e ∷ h.before; last = h.last; is = ap (λ xs. e ∷ xs) h.is }

within_more : (P Q : Entry → Type 0) (c d : ℕ) (net : Net (List Entry)) → ((e : Entry) → P e → Q e) → c ≤ d → Within P c net → Within Q d net
within_more P Q c d net f l h = record {
  nodes = λ t T at. node_on P Q f T (h.nodes t T at);
  bag = each_on (λ (m : Message). BodyOf P m.body) (λ (m : Message). BodyOf Q m.body) (λ m. body_on P Q f m.body) net.records.bag h.bag;
  sent = each_on (λ (m : Message). UpTo c m.body) (λ (m : Message). UpTo d m.body) (λ m. more_upto c d l m.body) net.records.bag h.sent;
}

module _ (net new : Net (List Entry)) (n : ℕ) (N M : NodeView) (brought : List Entry) (moves : Moves net new n N M)
    (keeps : (P : Entry → Type 0) → NodeOf P N → BagOf P net.records.bag → AllByRecursion P brought → NodeOf P M × BagOf P new.records.bag) where
  -- bounds that what is brought meets stay
  within_on : (P : Entry → Type 0) (c : ℕ) → ((e : Entry) → P e → number e.log_id.leader_id ≤ c) → Within P c net → AllByRecursion P brought → Within P c new
  within_on P c low h b =
      let k : NodeOf P M × BagOf P new.records.bag = keeps P (h.nodes n N moves.from) h.bag b in
      let l : end_leader (whole M.store) ≤ c = end_upto c (whole M.store) (each_on P (λ (e : Entry). number e.log_id.leader_id ≤ c) low (whole M.store) (whole_keeps P M.store k.0.store)) in
      record {
        nodes = λ t T at. ⊎_elim
            (λ (q : t ≡ n). subst (NodeOf P) (at_one new.nodes n M T moves.to (subst (λ i. At new.nodes i T) q at)) k.0)
            (λ (d : t ≢ n). h.nodes t T (moves.back t T d at)) (same_or_other t n);
        bag = k.1;
        sent = each_on (λ (m : Message). Contains net.records.bag m ⊎ UpTo (end_leader (whole M.store)) m.body) (λ (m : Message). UpTo c m.body)
            (λ m. ⊎_elim (λ (i : Contains net.records.bag m). one_of (λ (m : Message). UpTo c m.body) net.records.bag m h.sent i) (λ (u : UpTo (end_leader (whole M.store)) m.body). more_upto (end_leader (whole M.store)) c l m.body u)) new.records.bag moves.sent;
      }

  -- the greatest log is that of another node
  other_top : (o : ℕ) (x : LogId ℕ) → o ≢ n → IsTop net o x → Within (IsUnder x) (number x.leader_id) new → IsTop new o x
  other_top o x d h w = record { node = h.node; at = moves.on o h.node d h.at; own = h.own; positive = h.positive; before = h.before; last = h.last; ends = h.ends; is = h.is; votes = h.votes; within = w }

  -- what a request brings is bounded
  request_within : (P : Entry → Type 0) (c : ℕ) → Within P c net → (f : Follows net n N M brought) → AllByRecursion P brought × (number f.vote.leader_id ≤ c)
  request_within P c h f =
      go f.message.body (one_of (λ (m : Message). BodyOf P m.body) net.records.bag f.message h.bag f.there) (one_of (λ (m : Message). UpTo c m.body) net.records.bag f.message h.sent f.there) f.request
    where
      go : (b : Body) → BodyOf P b → UpTo c b → IsRequest b f.vote brought → AllByRecursion P brought × (number f.vote.leader_id ≤ c)
      go (body.VoteRequest q) a u r = absurd r
      go (body.VoteReply q) a u r = absurd r
      go (body.AppendRequest o prev es committed) a u r = (subst (AllByRecursion P) r.1 a, subst (λ (v : Vote ℕ). number v.leader_id ≤ c) r.0 u)
      go (body.AppendReply o q prev upto) a u r = absurd r
      go (body.SnapshotRequest o s) a u r = (subst (AllByRecursion P) r.1 a, subst (λ (v : Vote ℕ). number v.leader_id ≤ c) r.0 u)
      go (body.SnapshotReply o q upto) a u r = absurd r

  followed_within : (P : Entry → Type 0) (c : ℕ) → ((e : Entry) → P e → number e.log_id.leader_id ≤ c) → Within P c net → Follows net n N M brought → Within P c new
  followed_within P c low h f =
      let r : AllByRecursion P brought × (number f.vote.leader_id ≤ c) = request_within P c h f in
      within_on P c low h r.0

  module _ (sorted : Sorted N) where
    -- the node with the greatest log follows nobody
    never_follows : (o : ℕ) (x : LogId ℕ) → IsTop net o x → n ≡ o → Follows net n N M brought → ⊥
    never_follows o x h q f =
        let same : h.node ≡ N = at_one net.nodes o h.node N h.at (subst (λ i. At net.nodes i N) q moves.from) in
        let ends : whole N.store ≡ h.before ++ h.last ∷ [] = subst (λ (T : NodeView). whole T.store ≡ h.before ++ h.last ∷ []) same h.ends in
        let a : number h.last.log_id.leader_id ≤ number N.store.vote.leader_id = (behind_all (λ (e : Entry). number e.log_id.leader_id ≤ number N.store.vote.leader_id) h.before (h.last ∷ []) (subst (AllByRecursion (λ (e : Entry). number e.log_id.leader_id ≤ number N.store.vote.leader_id)) ends sorted.low)).0 in
        let b : number f.vote.leader_id ≤ number x.leader_id = (request_within (IsUnder x) (number x.leader_id) h.within f).1 in
        let c : number h.last.log_id.leader_id ≡ number x.leader_id = ap (λ (y : LogId ℕ). number y.leader_id) h.is in
        let named : IsNamed x.leader_id = subst (λ (y : LogId ℕ). IsNamed y.leader_id) h.is (behind_all (λ (e : Entry). IsNamed e.log_id.leader_id) h.before (h.last ∷ []) (subst (AllByRecursion (λ (e : Entry). IsNamed e.log_id.leader_id)) ends sorted.named)).0 in
        let e : number f.vote.leader_id ≡ number x.leader_id = omega (arith, a, b, c, f.not_lower) in
        f.other (ap (λ d. d.node_id) (number_same f.vote.leader_id x.leader_id f.named named e) ∙ (h.own ∙ sym q))

    pub follows_top : Top net → Follows net n N M brought → Top new
    follows_top (inl h) f = inl (followed_within IsFirst 0 (λ e k. k) h f)
    follows_top (inr (o, x, h)) f =
        ⊎_elim (λ (q : n ≡ o). absurd (never_follows o x h q f))
        (λ (d : n ≢ o). inr (o, x, other_top o x (λ q. d (sym q)) h (followed_within (IsUnder x) (number x.leader_id) (λ e. below_number x e.log_id) h.within f))) (same_or_other n o)

  module _ (sorted : Sorted M) (voter : (before : List Entry) (y : Entry) → brought ≡ before ++ y ∷ [] → IsOwn n y → Votes n M.store) (g : Grows n N M brought) where
    -- what is brought ends with y
    module _ (end : Ends brought) where
      whole_ends : whole M.store ≡ (whole N.store ++ end.before) ++ end.last ∷ []
      whole_ends = g.log ∙ (ap (λ es. whole N.store ++ es) end.is ∙ sym (append_assoc (whole N.store) end.before (end.last ∷ [])))

      all_under : AllByRecursion (IsUnder end.last.log_id) (whole M.store)
      all_under = sorted.rises (whole N.store ++ end.before) end.last whole_ends

      brought_under : AllByRecursion (IsUnder end.last.log_id) brought
      brought_under = behind_all (IsUnder end.last.log_id) (whole N.store) brought (subst (AllByRecursion (IsUnder end.last.log_id)) g.log all_under)

      last_is : IsFirst end.last ⊎ IsOwn n end.last
      last_is = (behind_all (λ (e : Entry). IsFirst e ⊎ IsOwn n e) end.before (end.last ∷ []) (subst (AllByRecursion (λ (e : Entry). IsFirst e ⊎ IsOwn n e)) end.is g.each)).0

      -- the node's own entry is above all others
      new_top : (P : Entry → Type 0) (c : ℕ) → ((e : Entry) → P e → IsUnder end.last.log_id e) → c ≤ number end.last.log_id.leader_id → Within P c net → IsOwn n end.last → Top new
      new_top P c f l h i =
          let w : Within (IsUnder end.last.log_id) (number end.last.log_id.leader_id) net = within_more P (IsUnder end.last.log_id) c (number end.last.log_id.leader_id) net f l h in
          inr (
            n,
            end.last.log_id,
            record {
              node = M;
              at = moves.to;
              own = i.own;
              positive = i.positive;
              before = whole N.store ++ end.before;
              last = end.last;
              ends = whole_ends;
              is = refl;
              votes = voter end.before end.last end.is i;
              within = within_on (IsUnder end.last.log_id) (number end.last.log_id.leader_id) (λ e. below_number end.last.log_id e.log_id) w brought_under;
            },
          )

      from_first : Within IsFirst 0 net → Top new
      from_first h =
          ⊎_elim
          (λ (z : IsFirst end.last). inl (within_on IsFirst 0 (λ e k. k) h (each_on (IsUnder end.last.log_id) IsFirst (λ e k. let a : number e.log_id.leader_id ≤ number end.last.log_id.leader_id = below_number end.last.log_id e.log_id k in omega (arith, a, z)) brought brought_under)))
          (λ (i : IsOwn n end.last). new_top IsFirst 0 (λ e k. let p : 0 < number end.last.log_id.leader_id = i.positive in inl (omega (arith, k, p))) (omega arith) h i) last_is

      -- entries of another leader that aren't above x
      stays_other : (o : ℕ) (x : LogId ℕ) → IsTop net o x → n ≢ o → Below x end.last.log_id → Top new
      stays_other o x h d b =
          inr (
            o,
            x,
            other_top o x (λ q. d (sym q)) h
                (within_on (IsUnder x) (number x.leader_id) (λ e. below_number x e.log_id) h.within (each_on (IsUnder end.last.log_id) (IsUnder x) (λ e k. below_then x end.last.log_id e.log_id b k) brought brought_under)),
          )

      above_x : (o : ℕ) (x : LogId ℕ) → IsTop net o x → Below end.last.log_id x → IsOwn n end.last → Top new
      above_x o x h b i = new_top (IsUnder x) (number x.leader_id) (λ e k. below_then end.last.log_id x e.log_id b k) (below_number end.last.log_id x b) h.within i

      -- the node with the greatest log itself
      own_above : (o : ℕ) (x : LogId ℕ) → IsTop net o x → n ≡ o → Below end.last.log_id x
      own_above o x h q =
          let same : h.node ≡ N = at_one net.nodes o h.node N h.at (subst (λ i. At net.nodes i N) q moves.from) in
          let ends : whole N.store ≡ h.before ++ h.last ∷ [] = subst (λ (T : NodeView). whole T.store ≡ h.before ++ h.last ∷ []) same h.ends in
          let is : whole M.store ≡ h.before ++ (h.last ∷ brought) = g.log ∙ (ap (λ es. es ++ brought) ends ∙ append_assoc h.before (h.last ∷ []) brought) in
          subst (Below end.last.log_id) h.is (behind_all (IsUnder end.last.log_id) h.before (h.last ∷ brought) (subst (AllByRecursion (IsUnder end.last.log_id)) is all_under)).0

      from_top : (o : ℕ) (x : LogId ℕ) → IsTop net o x → Top new
      from_top o x h = ⊎_elim own_case other_case (same_or_other n o)
        where
          own_case : n ≡ o → Top new
          own_case q =
              let b : Below end.last.log_id x = own_above o x h q in
              ⊎_elim (λ (z : IsFirst end.last). let a : number x.leader_id ≤ number end.last.log_id.leader_id = below_number end.last.log_id x b in let p : 0 < number x.leader_id = h.positive in absurd (omega (arith, a, z, p))) (λ (i : IsOwn n end.last). above_x o x h b i) last_is

          other_case : n ≢ o → Top new
          other_case d =
              ⊎_elim (λ (z : IsFirst end.last). let p : 0 < number x.leader_id = h.positive in stays_other o x h d (inl (omega (arith, z, p))))
              (λ (i : IsOwn n end.last). ⊎_elim (λ (b : Below x end.last.log_id). stays_other o x h d b) (λ (b : Below end.last.log_id x). above_x o x h b i) (below_or x end.last.log_id)) last_is

    -- nothing is appended
    still_top : brought ≡ [] → Top net → Top new
    still_top none (inl h) = inl (within_on IsFirst 0 (λ e k. k) h (subst (AllByRecursion IsFirst) (sym none) tt))
    still_top none (inr (o, x, h)) =
        let w : Within (IsUnder x) (number x.leader_id) new = within_on (IsUnder x) (number x.leader_id) (λ e. below_number x e.log_id) h.within (subst (AllByRecursion (IsUnder x)) (sym none) tt) in
        ⊎_elim
        (λ (q : n ≡ o).
        let same : h.node ≡ N = at_one net.nodes o h.node N h.at (subst (λ i. At net.nodes i N) q moves.from) in
        let log : whole M.store ≡ whole h.node.store = g.log ∙ (ap (λ es. whole N.store ++ es) none ∙ (append-nil (whole N.store) ∙ ap (λ (T : NodeView). whole T.store) (sym same))) in
        inr (
          o,
          x,
          record {
            node = M;
            at = subst (λ i. At new.nodes i M) q moves.to;
            own = h.own;
            positive = h.positive;
            before = h.before;
            last = h.last;
            ends = log ∙ h.ends;
            is = h.is;
            votes = votes_along o h.node.store M.store log h.votes;
            within = w;
          },
        ))
        (λ (d : n ≢ o). inr (o, x, other_top o x (λ q. d (sym q)) h w)) (same_or_other n o)

    pub grows_top : Top net → Top new
    grows_top h = go brought refl
      where
        go : (es : List Entry) → brought ≡ es → Top new
        go [] q = still_top q h
        go (e ∷ es) q =
            let k : Ends (e ∷ es) = ends_of e es in
            let end : Ends brought = record { before = k.before; last = k.last; is = q ∙ k.is } in
            by end h
          where
            by : (end : Ends brought) → Top net → Top new
            by end (inl h) = from_first end h
            by end (inr (o, x, h)) = from_top end o x h
