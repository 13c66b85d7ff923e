-- Servers with files are servers.
use Rattle.std.specs.Prelude.{ℕ, ◌≡◌, ◌≢◌, ◌≤◌, ◌+◌, ◌⊎◌, true, false, List, [], ◌∷◌, ◌++◌, Contains, Err, None, Ok, Option, Result, Some, fold, if◌then◌else◌, length, map, nat_eq, refl, replicate, take}
use Rattle.std.proofs.Common.{◌∙◌, ap, arith, inl, inr, subst, suc, sym, zero}
use Rattle.std.proofs.lemmas.Bool.{cases_eq, eq-eqb, ne_eqb}
use Rattle.std.proofs.lemmas.List.{append_assoc, append-nil, map-append}
use Rattle.raft_frames.specs.declared.error.Fault.{Fault}
use Rattle.raft_frames.specs.declared.header.LogId.{LogId}
use Rattle.raft_frames.specs.declared.tail.Tail.{Tail}
use Rattle.raft_frames.specs.Format.{after, after_all, frame, frames, header, start}
use Rattle.raft_frames.specs.Laws.{contents, file, kept_of}
use Rattle.raft_frames.specs.Reading.{Contents, read}
use Rattle.raft_frames.proofs.Cuts.{recovers}
use Rattle.raft_frames.proofs.Runs.{frames-length, read-file}
use Rattle.raft_store.specs.declared.entry.Entry.{Entry}
use Rattle.raft_node.specs.declared.given.Given.{Given}
use Rattle.raft_node.specs.Net.{Records}
use Rattle.raft_codec.specs.declared.error.DecodeError.{DecodeError}
use Rattle.raft_wire.specs.declared.record.Record.{Record}
use Rattle.proof_servers.specs.Recorded.{joined}
use Rattle.proof_servers.specs.Servers.{Action, AllMayAct, Cluster, MayTake, Server, WaitingStep, after_action, after_actions, crashed, flushed, flushed_first, new_cluster, started, with_server, with_step}
use Rattle.proof_servers.specs.Servers as servers
use Rattle.proof_logs.specs.FileLaws.{AreServers, FilesFollow, FilesOpen}
use Rattle.proof_logs.specs.Files.{AllMayActOnFiles, Crashes, FileAction, FileCluster, FileServer, MayActOnFile, Opened, Syncs, Takes, after_file_action, after_file_actions, left_file, log_of, new_file_cluster, opened, with_batches, with_file_server}
use Rattle.proof_logs.specs.Laws.{IsCut, ReadsByChance, Restores, cut_file}
use Rattle.proof_logs.specs.Logs.{AreBatches, HasLog, IsFile, records_of, batch_bytes, restored, first_batch, log_file, records_in}
use Rattle.proof_logs.proofs.Batches.{batches_more}
use Rattle.proof_logs.proofs.Crashes.{flushed_made, restore, restore_filled}
use Rattle.proof_logs.proofs.Files.{file_bytes, kept_is, payloads_of}

-- more frames behind those of a file
frames_more : (tail : Tail) (payloads more : List (List ℕ)) → frames tail payloads ++ frames (after_all tail payloads) more ≡ frames tail (payloads ++ more)
frames_more tail [] more = refl
frames_more tail (p ∷ payloads) more =
    append_assoc (frame tail p) (frames (after tail p) payloads) (frames (after_all (after tail p) payloads) more)
    ∙ ap (λ x. frame tail p ++ x) (frames_more (after tail p) payloads more)

abbrev behind_it : LogId → List (List Record) → List ℕ → Result Contents Fault → List ℕ
behind_it log next bytes r = elim r as (λ _. List ℕ) [ Err fault ↦ bytes | Ok c ↦ kept_of log bytes c ++ frames c.tail (map batch_bytes next) ]

more_is : (log : LogId) (batches : List (List Record)) (batch : List Record) (others : List (List Record)) (bytes : List ℕ) → AreBatches batches → IsFile log batches bytes
    → with_batches log (batch ∷ others) bytes ≡ log_file log (batches ++ batch ∷ others)
more_is log batches batch others bytes are (inl none) =
    ap (with_batches log (batch ∷ others)) none.0
    ∙ (ap (behind_it log (batch ∷ others) []) (recovers log [] 0 tt).reads ∙ ap (λ x. log_file log (x ++ batch ∷ others)) (sym none.1))
more_is log batches batch others bytes are (inr all) =
    let next = batch ∷ others in
    let ps = map batch_bytes batches in
    let far : 32 + length (frames (start log) ps) ≡ (after_all (start log) ps).position = frames-length (start log) ps in
    let there : nat_eq (after_all (start log) ps).position 0 ≡ false = ne_eqb (after_all (start log) ps).position 0 (λ e. omega (arith, far, e)) in
    let whole = log_file log batches in
    let reads : read log (log_file log batches) ≡ Ok (contents log ps) = read-file log ps (payloads_of batches are) in
    ap (with_batches log next) all
    ∙ (ap (behind_it log next whole) reads
    ∙ (ap (λ t. (if t then header log else take (after_all (start log) ps).position whole) ++ frames (after_all (start log) ps) (map batch_bytes next)) there
    ∙ (ap (λ x. x ++ frames (after_all (start log) ps) (map batch_bytes next)) (kept_is log whole ps (file_bytes log ps (payloads_of batches are)) reads)
    ∙ (append_assoc (header log) (frames (start log) ps) (frames (after_all (start log) ps) (map batch_bytes next))
    ∙ (ap (λ x. header log ++ x) (frames_more (start log) ps (map batch_bytes next))
    ∙ ap (file log) (sym (map-append batch_bytes batches next)))))))

with_batches_is : (log : LogId) (batches next : List (List Record)) (bytes : List ℕ) → AreBatches batches → IsFile log batches bytes → IsFile log (batches ++ next) (with_batches log next bytes)
with_batches_is log batches [] bytes are is = subst (λ bs. IsFile log bs bytes) (sym (append-nil batches)) is
with_batches_is log batches (batch ∷ others) bytes are is = inr (more_is log batches batch others bytes are is)

take_none : {A : Type 0} (n : ℕ) → take {A = A} n [] ≡ []
take_none zero = refl
take_none (suc n) = refl

-- what is left of a file with more batches is it with them, cut somewhere: an empty file that gets none at its front, since it has no header
record IsTorn (log : LogId) (batches next : List (List Record)) (bytes : List ℕ) (n : ℕ) : Type 0 where
  pub upto : ℕ
  pub there : length bytes ≤ upto
  pub is : take n (with_batches log next bytes) ≡ take upto (log_file log (batches ++ next))

torn_is : (log : LogId) (batches next : List (List Record)) (bytes : List ℕ) (n : ℕ) → AreBatches batches → IsFile log batches bytes → length bytes ≤ n → IsTorn log batches next bytes n
torn_is log batches [] bytes n are (inl none) there = record { upto = 0; there = omega (arith, ap length none.0); is = ap (take n) none.0 ∙ take_none n }
torn_is log batches [] bytes n are (inr all) there = record { upto = n; there = there; is = ap (take n) (all ∙ ap (log_file log) (sym (append-nil batches))) }
torn_is log batches (batch ∷ others) bytes n are is there = record { upto = n; there = there; is = ap (take n) (more_is log batches batch others bytes are is) }

-- a file has the batches that made the server's disk
record IsFiled (log : LogId) (s : FileServer) : Type 0 where
  pub batches : List (List Record)
  pub has : HasLog s.server batches
  pub is : IsFile log batches s.file

-- servers with files are these servers
record Runs (cluster : ℕ) (c : Cluster) (f : FileCluster) : Type 0 where
  pub same : AreServers c f
  pub files : (id : ℕ) → IsFiled (log_of cluster id) (f.servers id)

-- a server changes, with its file
module _ (cluster id : ℕ) (c d : Cluster) (f : FileCluster) (s : FileServer) (r : Records (List Entry)) (runs : Runs cluster c f)
    (own : d.servers id ≡ s.server) (others : (x : ℕ) → id ≢ x → d.servers x ≡ c.servers x) (told : d.released ≡ r) (filed : IsFiled (log_of cluster id) s) where
  abbrev next : FileCluster
  next = record (with_file_server id s f) { released = r }

  placed : next.servers id ≡ s
  placed = (let y : nat_eq id id ≡ true = eq-eqb id id refl in rw y refl)

  passed : (x : ℕ) → id ≢ x → next.servers x ≡ f.servers x
  passed x d = (let y : nat_eq x id ≡ false = ne_eqb x id (λ e. d (sym e)) in rw y refl)

  each_by : (x : ℕ) → (id ≡ x) ⊎ (id ≢ x) → d.servers x ≡ (next.servers x).server
  each_by x (inl e) = subst (λ y. d.servers y ≡ (next.servers y).server) e (own ∙ ap (λ (y : FileServer). y.server) (sym placed))
  each_by x (inr e) = others x e ∙ (runs.same.each x ∙ ap (λ (y : FileServer). y.server) (sym (passed x e)))

  files_by : (x : ℕ) → (id ≡ x) ⊎ (id ≢ x) → IsFiled (log_of cluster x) (next.servers x)
  files_by x (inl e) = subst (λ y. IsFiled (log_of cluster y) (next.servers y)) e (subst (IsFiled (log_of cluster id)) (sym placed) filed)
  files_by x (inr e) = subst (IsFiled (log_of cluster x)) (sym (passed x e)) (runs.files x)

  changed_runs : Runs cluster d next
  changed_runs = record { same = record { each = λ x. each_by x (cases_eq id x); released = told }; files = λ x. files_by x (cases_eq id x) }

pub server_in : (id : ℕ) (s : Server) (c : Cluster) → (with_server id s c).servers id ≡ s
server_in id s c = (let y : nat_eq id id ≡ true = eq-eqb id id refl in rw y refl)

pub server_past : (id x : ℕ) (s : Server) (c : Cluster) → id ≢ x → (with_server id s c).servers x ≡ c.servers x
server_past id x s c d = (let y : nat_eq x id ≡ false = ne_eqb x id (λ e. d (sym e)) in rw y refl)

-- k flushes in a row
abbrev pub told_by : List WaitingStep → Records (List Entry) → Records (List Entry)
told_by ws r = fold (λ r w. joined r w.outputs) r ws

pub record AreFlushed (id k : ℕ) (c d : Cluster) : Type 0 where
  pub own : d.servers id ≡ flushed_first k (c.servers id)
  pub others : (x : ℕ) → id ≢ x → d.servers x ≡ c.servers x
  pub released : d.released ≡ told_by (take k (c.servers id).waiting) c.released

none_flushed : (k : ℕ) (s : Server) → s.waiting ≡ [] → flushed_first k s ≡ s
none_flushed zero s e = refl
none_flushed (suc k) s e = ap (λ (xs : List WaitingStep). elim xs as (λ _. Server) [ [] ↦ s | w ∷ ws ↦ flushed_first k (flushed w ws s) ]) e

module _ (given : Given) (id : ℕ) where
  abbrev pub flushes : ℕ → List Action
  flushes k = replicate k (servers.Flushes id)

  abbrev after_flush : Cluster → List WaitingStep → Cluster
  after_flush c xs =
      elim xs as (λ _. Cluster) [ [] ↦ c | w ∷ ws ↦ record (with_server id (flushed w ws (c.servers id)) c) { released = joined c.released w.outputs } ]

  pub all_flushed : (k : ℕ) (c : Cluster) → AreFlushed id k c (after_actions given (flushes k) c)
  all_flushed zero c = record { own = refl; others = λ x d. refl; released = refl }
  all_flushed (suc k) c = go (c.servers id).waiting refl (λ d. all_flushed k d)
    where
      go : (xs : List WaitingStep) → (c.servers id).waiting ≡ xs → ((d : Cluster) → AreFlushed id k d (after_actions given (flushes k) d))
          → AreFlushed id (suc k) c (after_actions given (flushes k) (after_flush c (c.servers id).waiting))
      go [] q rest =
          let one : AreFlushed id k c (after_actions given (flushes k) c) = rest c in
          subst (λ ys. AreFlushed id (suc k) c (after_actions given (flushes k) (after_flush c ys))) (sym q) (record {
            own = one.own ∙ (none_flushed k (c.servers id) q ∙ sym (none_flushed (suc k) (c.servers id) q));
            others = one.others;
            released = one.released
                ∙ ap (λ ys. told_by ys c.released) (ap (take k) q ∙ (take_none k ∙ (sym (take_none (suc k)) ∙ sym (ap (take (suc k)) q))));
          })
      go (w ∷ ws) q rest =
          let mid : Cluster = after_flush c (w ∷ ws) in
          let one : AreFlushed id k mid (after_actions given (flushes k) mid) = rest mid in
          let there : mid.servers id ≡ flushed w ws (c.servers id) = server_in id (flushed w ws (c.servers id)) c in
          subst (λ ys. AreFlushed id (suc k) c (after_actions given (flushes k) (after_flush c ys))) (sym q) (record {
            own = one.own
                ∙ (ap (flushed_first k) there
                ∙ sym (ap (λ (xs : List WaitingStep). elim xs as (λ _. Server) [ [] ↦ c.servers id | v ∷ vs ↦ flushed_first k (flushed v vs (c.servers id)) ]) q));
            others = λ x d. one.others x d ∙ server_past id x (flushed w ws (c.servers id)) c d;
            released = one.released
                ∙ (ap (λ (s : Server). told_by (take k s.waiting) (joined c.released w.outputs)) there
                ∙ sym (ap (λ ys. told_by (take (suc k) ys) c.released) q));
          })

  pub all_may_flush : (k : ℕ) (c : Cluster) → Contains given.ids id → AllMayAct given (flushes k) c
  all_may_flush zero c member = tt
  all_may_flush (suc k) c member = (member, all_may_flush k (after_action given (servers.Flushes id) c) member)

-- what is read of what a crash left
module _ (cluster : ℕ) (given : Given) (id k n zeros at : ℕ) (c : Cluster) (f : FileCluster) (runs : Runs cluster c f) (may : MayActOnFile cluster given (Crashes id k n zeros at) f) where
  abbrev log : LogId
  log = log_of cluster id

  abbrev s : FileServer
  s = f.servers id

  abbrev left : List ℕ
  left = left_file log k n zeros s

  filed : IsFiled (log_of cluster id) (f.servers id)
  filed = runs.files id

  where_torn : IsTorn (log_of cluster id) filed.batches (first_batch k (f.servers id).server.waiting) (f.servers id).file n
  where_torn = torn_is log filed.batches (first_batch k s.server.waiting) s.file n filed.has.writable filed.is may.2

  cut : IsCut (log_of cluster id) k (f.servers id).server filed.batches where_torn.upto
  cut = record { has = filed.has; next = may.1; file = s.file; is = filed.is; there = where_torn.there }

  abbrev torn : List ℕ
  torn = cut_file log k s.server filed.batches where_torn.upto

  left_is : left ≡ torn ++ replicate zeros 0
  left_is = ap (λ x. x ++ replicate zeros 0) where_torn.is

  left_there : Restores given (log_of cluster id) id k at (f.servers id).server (left_file (log_of cluster id) k n zeros (f.servers id))
  left_there = subst (Restores given log id k at s.server) (sym left_is) (go may.3)
    where
      by_chance : ((batches : List (List Record)) → IsFile (log_of cluster id) batches s.file → ReadsByChance (log_of cluster id) k s.server batches left → ⊥)
          → Restores given log id k at s.server (torn ++ replicate zeros 0) ⊎ ReadsByChance log k s.server filed.batches (torn ++ replicate zeros 0) → Restores given log id k at s.server (torn ++ replicate zeros 0)
      by_chance not (inl r) = r
      by_chance not (inr chance) = absurd (not filed.batches filed.is (subst (ReadsByChance log k s.server filed.batches) (sym left_is) chance))

      go : ((zeros ≡ 0) ⊎ ((batches : List (List Record)) → IsFile (log_of cluster id) batches s.file → ReadsByChance (log_of cluster id) k s.server batches left → ⊥))
          → Restores given log id k at s.server (torn ++ replicate zeros 0)
      go (inl none) =
          subst (Restores given log id k at s.server) (sym (append-nil torn) ∙ ap (λ i. torn ++ replicate i 0) (sym none)) (restore given log id k at s.server filed.batches where_torn.upto cut)
      go (inr not) = by_chance not (restore_filled given log id k at s.server filed.batches where_torn.upto zeros cut)

  abbrev found : Opened
  found = record { records = records_of left_there.batches; file = take left_there.found.contents.end left }

  abbrev opened_by : Result Contents Fault → Option Opened
  opened_by r =
      elim r as (λ _. Option Opened) [
        | Err fault ↦ None
        | Ok x ↦ elim (records_in x.payloads) as (λ _. Option Opened) [ Err e ↦ None | Ok records ↦ Some (record { records = records; file = take x.end left }) ]
      ]

  it_opens : opened (log_of cluster id) (left_file (log_of cluster id) k n zeros (f.servers id)) ≡ Some found
  it_opens =
      ap opened_by left_there.found.holds.frames
      ∙ ap (λ (r : Result (List Record) DecodeError). elim r as (λ _. Option Opened) [
        | Err e ↦ None
        | Ok records ↦ Some (record { records = records; file = take left_there.found.contents.end left })
      ]) left_there.found.holds.decoded

  abbrev anew : FileServer
  anew = record { server = started given id at (restored (records_of left_there.batches)); file = take left_there.found.contents.end left }

  crashed_runs : Runs cluster (with_server id (crashed given id left_there.survive at (c.servers id)) c) (after_file_action cluster given (Crashes id k n zeros at) f)
  crashed_runs =
      subst (Runs cluster (with_server id (crashed given id left_there.survive at (c.servers id)) c))
      (sym (ap (λ (o : Option Opened). elim o as (λ _. FileCluster) [ None ↦ f | Some o ↦ with_file_server id (record { server = started given id at (restored o.records); file = o.file }) f ]) it_opens))
      (changed_runs cluster id c (with_server id (crashed given id left_there.survive at (c.servers id)) c) f anew f.released runs
      (server_in id (crashed given id left_there.survive at (c.servers id)) c
      ∙ (ap (crashed given id left_there.survive at) (runs.same.each id) ∙ sym left_there.starts))
      (λ x d. server_past id x (crashed given id left_there.survive at (c.servers id)) c d) runs.same.released
      (record { batches = left_there.batches; has = subst (λ x. HasLog x left_there.batches) (sym left_there.starts) left_there.has; is = left_there.kept }))

-- whatever servers with files do, these servers do
record Goes (cluster : ℕ) (given : Given) (c : Cluster) (f : FileCluster) : Type 0 where
  pub actions : List Action
  pub may : AllMayAct given actions c
  pub runs : Runs cluster (after_actions given actions c) f

act_goes : (cluster : ℕ) (given : Given) (a : FileAction) (c : Cluster) (f : FileCluster) → Runs cluster c f → MayActOnFile cluster given a f → Goes cluster given c (after_file_action cluster given a f)
act_goes cluster given (Takes id step) c f runs may =
    let s : FileServer = f.servers id in
    let filed = runs.files id in
    record {
      actions = servers.Takes id step ∷ [];
      may = ((may.0, subst (λ (r : Records (List Entry)). MayTake r.bag id step.act) (sym runs.same.released) may.1), tt);
      runs = changed_runs cluster id c (with_server id (with_step given step (c.servers id)) c) f (record s { server = with_step given step s.server }) f.released runs
          (server_in id (with_step given step (c.servers id)) c ∙ ap (with_step given step) (runs.same.each id)) (λ x d. server_past id x (with_step given step (c.servers id)) c d)
          runs.same.released (record { batches = filed.batches; has = record { writable = filed.has.writable; disk = filed.has.disk }; is = filed.is });
    }
act_goes cluster given (Syncs id k) c f runs may =
    let s : FileServer = f.servers id in
    let ws = s.server.waiting in
    let filed = runs.files id in
    let done : AreFlushed id k c (after_actions given (flushes given id k) c) = all_flushed given id k c in
    record {
      actions = flushes given id k;
      may = all_may_flush given id k c may.0;
      runs = changed_runs cluster id c (after_actions given (flushes given id k) c) f
          (record { server = flushed_first k s.server; file = with_batches (log_of cluster id) (first_batch k ws) s.file })
          (told_by (take k ws) f.released) runs
          (done.own ∙ ap (flushed_first k) (runs.same.each id)) done.others
          (done.released
          ∙ (ap (λ (x : Server). told_by (take k x.waiting) c.released) (runs.same.each id) ∙ ap (λ r. told_by (take k ws) r) runs.same.released))
          (record {
            batches = filed.batches ++ first_batch k ws;
            has = record { writable = batches_more filed.batches (first_batch k ws) filed.has.writable may.1; disk = flushed_made k s.server filed.batches filed.has.disk };
            is = with_batches_is (log_of cluster id) filed.batches (first_batch k ws) s.file filed.has.writable filed.is;
          });
    }
act_goes cluster given (Crashes id k n zeros at) c f runs may = record {
  actions = servers.Crashes id (left_there cluster given id k n zeros at c f runs may).survive at ∷ [];
  may = (may.0, tt);
  runs = crashed_runs cluster given id k n zeros at c f runs may;
}

pub after_more : (given : Given) (first more : List Action) (c : Cluster) → after_actions given (first ++ more) c ≡ after_actions given more (after_actions given first c)
after_more given [] more c = refl
after_more given (a ∷ first) more c = after_more given first more (after_action given a c)

pub may_more : (given : Given) (first more : List Action) (c : Cluster) → AllMayAct given first c → AllMayAct given more (after_actions given first c) → AllMayAct given (first ++ more) c
may_more given [] more c h k = k
may_more given (a ∷ first) more c h k = (h.0, may_more given first more (after_action given a c) h.1 k)

all_go : (cluster : ℕ) (given : Given) (actions : List FileAction) (c : Cluster) (f : FileCluster) → Runs cluster c f → AllMayActOnFiles cluster given actions f
    → Goes cluster given c (after_file_actions cluster given actions f)
all_go cluster given [] c f runs may = record { actions = []; may = tt; runs = runs }
all_go cluster given (a ∷ rest) c f runs may =
    let one : Goes cluster given c (after_file_action cluster given a f) = act_goes cluster given a c f runs may.0 in
    let others = all_go cluster given rest (after_actions given one.actions c) (after_file_action cluster given a f) one.runs may.1 in
    record {
      actions = one.actions ++ others.actions;
      may = may_more given one.actions others.actions c one.may others.may;
      runs = subst (λ d. Runs cluster d (after_file_actions cluster given rest (after_file_action cluster given a f))) (sym (after_more given one.actions others.actions c)) others.runs;
    }

new_runs : (cluster : ℕ) (given : Given) → Runs cluster (new_cluster given) (new_file_cluster cluster given)
new_runs cluster given = record {
  same = record { each = λ id. refl; released = refl };
  files = λ id. record { batches = []; has = record { writable = tt; disk = refl }; is = inl (refl, refl) };
}

goes : (cluster : ℕ) (given : Given) (actions : List FileAction) → AllMayActOnFiles cluster given actions (new_file_cluster cluster given)
    → Goes cluster given (new_cluster given) (after_file_actions cluster given actions (new_file_cluster cluster given))
goes cluster given actions may = all_go cluster given actions (new_cluster given) (new_file_cluster cluster given) (new_runs cluster given) may

pub files_follow : FilesFollow
files_follow cluster given actions may = (let g = goes cluster given actions may in (g.actions, g.may, g.runs.same))

pub files_open : FilesOpen
files_open cluster given actions id k n zeros at may crash =
    let g = goes cluster given actions may in
    let c : Cluster = after_actions given g.actions (new_cluster given) in
    let f : FileCluster = after_file_actions cluster given actions (new_file_cluster cluster given) in
    (found cluster given id k n zeros at c f g.runs crash, it_opens cluster given id k n zeros at c f g.runs crash)
