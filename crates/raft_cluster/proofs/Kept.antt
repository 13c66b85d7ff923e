-- An answer that acknowledges a request names the index of an entry that was executed.
use Rattle.std.proofs.Common.{ℕ, ◌≡◌, ◌∙◌, ⊎_elim, Bool, true, false, List, [], ◌∷◌, ◌++◌, inl, inr, refl, sym, ap, subst, arith}
use Rattle.std.specs.Prelude.{Contains, IfSome, None, Option, Some, map, nat_eq, take, if◌then◌else◌}
use Rattle.std.specs.List.{AllByRecursion, take_while}
use Rattle.std.proofs.lemmas.List.Elements.{Contains-append_left, Contains-append_right}
use Rattle.raft_answers.specs.declared.answer.Answer.{Answer}
use Rattle.raft_answers.specs.declared.answer.Answer.TheVariants as answers
use Rattle.raft_answers.specs.declared.answer.Reply.{Reply}
use Rattle.raft_answers.specs.declared.request.Proposal.{Proposal}
use Rattle.raft_answers.specs.Answers.{answer_at, settled_left, settled_replies, waits_upto}
use Rattle.raft_node.specs.declared.record.Executed.{Executed}
use Rattle.raft_state.specs.IdEquality.{log_id_eq}
use Rattle.raft_store.specs.declared.entry.Entry.{Entry}
use Rattle.raft_codec.specs.Codec.{Codec}
use Rattle.proof_packed.specs.Nodes.{PackedInstalled, PackedMessage, PackedRecords}
use Rattle.proof_packed.specs.Stores.{Application, Packed}
use Rattle.raft_packed_wire.specs.declared.packet.PackedContent.{PackedContent}
use Rattle.raft_packed_wire.specs.declared.packet.PackedContent.TheVariants as content
use Rattle.raft_packed_wire.specs.Messages.{received}
use Rattle.proof_requests.specs.raft_core.raft_peers.declared.output.Output.{Output}
use Rattle.proof_requests.specs.raft_core.raft_peers.declared.output.Output.TheVariants as outputs
use Rattle.proof_requests.specs.raft_core.raft_peers.declared.frame.Frame.TheVariants as frames
use Rattle.proof_requests.specs.raft_core.raft_reads.declared.reads.Reader.{Reader}
use Rattle.proof_requests.specs.raft_core.Calls.{Receives, Releases, TakesContent, TakesMessage}
use Rattle.proof_requests.specs.raft_core.Laws.{IsNotOk, read_replies_of, replies_of}
use Rattle.proof_requests.specs.raft_core.Outputs.{executed_outputs, install, reads_out, replies_out, said_outputs}
use Rattle.proof_requests.specs.raft_core.raft_peers.Sends.{Sends}
use Rattle.proof_requests.specs.raft_core.raft_peers.Parts.{Outgoing, assembled}
use Rattle.proof_requests.specs.raft_core.raft_reads.Reads.{ReadsView, count_over, read_replies, refused_left, refused_replies, told, with_heard, with_left}
use Rattle.proof_requests.specs.raft_core.Outputs.{executed_after, handed_after}
use Rattle.proof_requests.specs.raft_core.Views.{CoreView}
use Rattle.proof_requests.proofs.raft_core_proofs.ReadsTold.{none_granted, none_went, told_by_message, told_by_release}
use Rattle.proof_requests.proofs.raft_peers_proofs.Sending.{messages_send}
use Rattle.proof_requests.proofs.raft_core_proofs.Told.{none_read, none_sent, replies_are, replies_more}
use Rattle.proof_clients.proofs.Sequences.{first_or}
use Rattle.proof_clients.proofs.Slots.{here, there}
use Rattle.proof_requests.proofs.Lists.{none_in}
use Rattle.raft_cluster.specs.declared.machine.Machine.{Machine}
use Rattle.raft_cluster.specs.declared.told.Told.{Told}
use Rattle.raft_cluster.specs.Clusters.{HasEntryAt, HasHanded, IsKept, KeepsAcknowledged, acknowledged_at, entries_told, replies_told}
use Rattle.raft_cluster.specs.Outputs.{AreQuiet, answers_in, executed_in}
use Rattle.raft_cluster.proofs.Leaving.{executed_said}
use Rattle.raft_cluster.proofs.Order.{AreInOrder}

abbrev AreKept : List Entry → List Reply → Type 0
AreKept es rs = AllByRecursion (IsKept es) rs

kept_more : (es : List Entry) (a b : List Reply) → AreKept es a → AreKept es b → AreKept es (a ++ b)
kept_more es [] b x y = y
kept_more es (r ∷ a) b x y = (x.0, kept_more es a b x.1 y)

at_left : (es more : List Entry) (o : Option ℕ) → IfSome o (λ index. HasEntryAt index es) → IfSome o (λ index. HasEntryAt index (es ++ more))
at_left es more None k = tt
at_left es more (Some index) k = record { entry = k.entry; among = Contains-append_left es more k.entry k.among; at = k.at }

at_right : (es more : List Entry) (o : Option ℕ) → IfSome o (λ index. HasEntryAt index more) → IfSome o (λ index. HasEntryAt index (es ++ more))
at_right es more None k = tt
at_right es more (Some index) k = record { entry = k.entry; among = Contains-append_right es more k.entry k.among; at = k.at }

kept_left : (es more : List Entry) (rs : List Reply) → AreKept es rs → AreKept (es ++ more) rs
kept_left es more [] k = tt
kept_left es more (r ∷ rs) k = (at_left es more (acknowledged_at r.answer) k.0, kept_left es more rs k.1)

kept_right : (es more : List Entry) (rs : List Reply) → AreKept more rs → AreKept (es ++ more) rs
kept_right es more [] k = tt
kept_right es more (r ∷ rs) k = (at_right es more (acknowledged_at r.answer) k.0, kept_right es more rs k.1)

nothing_kept : (es : List Entry) (a : Answer) → ((index : ℕ) → a ≡ answers.Ok index → ⊥) → IfSome (acknowledged_at a) (λ index. HasEntryAt index es)
nothing_kept es (answers.Ok index) never = absurd (never index refl)
nothing_kept es answers.Failed never = tt
nothing_kept es (answers.NotLeader leader) never = tt
nothing_kept es answers.Unknown never = tt

-- of requests none acknowledges anything
pub quiet_kept : {S : Type 0} (codec : Codec S) (es : List Entry) (out : List (Output S)) → AreQuiet codec out → AreKept es (read_replies_of out) → AreKept es (answers_in out)
quiet_kept codec es [] q k = tt
quiet_kept codec es (outputs.Send to bytes ∷ out) q k = quiet_kept codec es out q.1 k
quiet_kept codec es (outputs.Append bytes end next ∷ out) q k = absurd q.0
quiet_kept codec es (outputs.Install xs ∷ out) q k = absurd q.0
quiet_kept codec es (outputs.Execute e ∷ out) q k = absurd q.0
quiet_kept codec es (outputs.Reply r ∷ out) q k = (nothing_kept es r.answer q.0, quiet_kept codec es out q.1 k)
quiet_kept codec es (outputs.Read r ∷ out) q k = (k.0, quiet_kept codec es out q.1 k.1)

-- Reads that need no entry

pub not_ok_kept : (es : List Entry) (rs : List Reply) → AllByRecursion IsNotOk rs → AreKept es rs
not_ok_kept es [] h = tt
not_ok_kept es (r ∷ rs) h = (nothing_kept es r.answer h.0, not_ok_kept es rs h.1)

refused_kept : (es : List Entry) (gone : Option (Option ℕ)) (r : ReadsView) → AreKept es (refused_replies gone r)
refused_kept es None r = tt
refused_kept es (Some leader) r = go r.readers
  where
    go : (xs : List Reader) → AreKept es (told (answers.NotLeader leader) xs)
    go [] = tt
    go (x ∷ xs) = (tt, go xs)

over_kept : (es : List Entry) (executed : Option ℕ) (r : ReadsView) → IfSome executed (λ index. HasEntryAt index es) → AreKept es (read_replies executed r)
over_kept es None r h = tt
over_kept es (Some index) r h = all (take (count_over index r.rounds) r.readers)
  where
    all : (xs : List Reader) → AreKept es (told (answers.Ok index) xs)
    all [] = tt
    all (x ∷ xs) = (h, all xs)

-- those that are told when a message is taken
message_kept : {S : Type 0} (app : Application S) (codec : Codec S) (es : List Entry) (m : PackedMessage S) (core new : CoreView S)
    (out : List (Output S)) → IfSome core.executed (λ index. HasEntryAt index es) → TakesMessage app m core out new → AreKept es (read_replies_of out)
message_kept app codec es m core new out h t =
    let heard : ReadsView = with_heard m.message core.reads in
    let mid : ReadsView = refused_left t.answers.gone heard in
    subst (AreKept es) (sym (told_by_message app codec m core new out t))
    (kept_more es (refused_replies t.answers.gone heard) (read_replies core.executed mid) (refused_kept es t.answers.gone heard)
    (over_kept es core.executed mid h))

content_kept : {S : Type 0} (app : Application S) (codec : Codec S) (es : List Entry) (core new : CoreView S) (out : List (Output S))
    → IfSome core.executed (λ index. HasEntryAt index es) → (x : PackedContent (Packed S)) → TakesContent app codec x core out new
    → AreKept es (read_replies_of out)
content_kept app codec es core new out h (content.Message m) t = message_kept app codec es (received app m) core new out h t
content_kept app codec es core new out h (content.Part x) (inl k) = subst (AreKept es) (sym (ap read_replies_of k.leaves)) tt
content_kept app codec es core new out h (content.Part x) (inr t) =
    subst (AreKept es) (sym (ap read_replies_of t.leaves))
    (message_kept app codec es (record { message = x.message; brought = t.snapshot }) (record core { incoming = assembled t.comes }) new t.others h t.takes)

-- those that are told when a frame comes
pub received_kept : {S : Type 0} (app : Application S) (codec : Codec S) (es : List Entry) (core new : CoreView S) (out : List (Output S)) (bytes : List ℕ)
    → IfSome core.executed (λ index. HasEntryAt index es) → Receives app codec bytes core out new → AreKept es (read_replies_of out)
received_kept app codec es core new out bytes h (frames.Packet p, is, t) = content_kept app codec es core new out h p.content t
received_kept {S} app codec es core new out bytes h (frames.PartReply reply, is, t) =
    subst (AreKept es) (sym (none_went codec core.start core.outgoing out t.leaves)) tt
received_kept {S} app codec es core new out bytes h (frames.PreVote ask, is, t) = subst (AreKept es) (sym (ap read_replies_of t.leaves ∙ none_granted S t.replies)) tt
received_kept app codec es core new out bytes h (frames.PreVoteReply reply, is, t) = subst (AreKept es) (sym (ap read_replies_of t.leaves)) tt

-- and when steps come on disk
pub released_kept : {S : Type 0} (app : Application S) (codec : Codec S) (es : List Entry) (position : ℕ) (core new : CoreView S) (out : List (Output S))
    (r : Releases app codec position core out new) → IfSome new.executed (λ index. HasEntryAt index es) → AreKept es (read_replies_of out)
released_kept {S} app codec es position core new out r h =
    subst (AreKept es) (sym (told_by_release app codec position core new out r))
    (over_kept es (handed_after r.said core.executed) (with_left r.said.answers core.reads)
    (subst (λ (o : Option ℕ). IfSome o (λ index. HasEntryAt index es)) (ap (λ (v : CoreView S). v.executed) r.rest) h))

-- the last of these that were handed out is there
last_there : (es : List Entry) (xs : List Executed) (last : Option ℕ) → ((x : Executed) → Contains xs x → Contains es x.entry) → IfSome last (λ index. HasEntryAt index es)
    → IfSome (executed_after xs last) (λ index. HasEntryAt index es)
last_there es [] last f h = h
last_there es (x ∷ xs) last f h =
    last_there es xs (Some x.entry.log_id.index) (λ y c. f y (there x xs y c)) (record { entry = x.entry; among = f x (here x xs); at = refl })

pub handed_there : {S : Type 0} (es : List Entry) (said : PackedRecords S) (last : Option ℕ) → IfSome last (λ index. HasEntryAt index es)
    → IfSome (handed_after said last) (λ index. HasEntryAt index (es ++ map (λ x. x.entry) said.executed))
handed_there {S} es said last h = go said.installed
  where
    go : (ys : List (PackedInstalled S)) → IfSome (elim ys as (λ _. Option ℕ) [ [] ↦ executed_after said.executed last | y ∷ ys ↦ None ]) (λ index. HasEntryAt index (es ++ map (λ x. x.entry) said.executed))
    go [] =
        last_there (es ++ map (λ x. x.entry) said.executed) said.executed last
        (λ x c. Contains-append_right es (map (λ x. x.entry) said.executed) x.entry (mapped said.executed x c)) (at_left es (map (λ x. x.entry) said.executed) last h)
      where
        mapped : (xs : List Executed) (x : Executed) → Contains xs x → Contains (map (λ x. x.entry) xs) x.entry
        mapped [] x c = absurd (none_in x c)
        mapped (y ∷ xs) x c =
            ⊎_elim
            (λ q. subst (λ (z : Executed). Contains (map (λ x. x.entry) (y ∷ xs)) z.entry) q (here y.entry (map (λ x. x.entry) xs)))
            (λ d. there y.entry (map (λ x. x.entry) xs) x.entry (mapped xs x d))
            (first_or y xs x c)
    go (y ∷ ys) = tt

-- an entry's answers name its index
settled_one : (e : Entry) (es : List Entry) (a b : Bool)
    → IfSome (acknowledged_at (if a then answers.Ok e.log_id.index else if b then answers.Failed else answers.Unknown)) (λ index. HasEntryAt index (e ∷ es))
settled_one e es true b = record { entry = e; among = (0, omega arith, refl); at = refl }
settled_one e es false true = tt
settled_one e es false false = tt

settled_kept : (e : Entry) (es : List Entry) (ps : List Proposal)
    → AreKept (e ∷ es) (map (λ p. record { token = p.token; answer = answer_at e.log_id p }) ps)
settled_kept e es [] = tt
settled_kept e es (p ∷ ps) = (
  settled_one e es (log_id_eq nat_eq p.log_id e.log_id) (nat_eq p.log_id.index e.log_id.index),
  settled_kept e es ps,
)

executed_kept : (S : Type 0) (es : List Entry) (ps : List Proposal) → AreKept es (replies_of {S = S} (executed_outputs es ps))
executed_kept S [] ps = tt
executed_kept S (e ∷ es) ps =
    let now = settled_replies e.log_id ps in
    let later : List (Output S) = executed_outputs es (settled_left e.log_id.index ps) in
    subst (AreKept (e ∷ es)) (sym (replies_more (replies_out now) later ∙ ap (λ rs. rs ++ replies_of later) (replies_are S now)))
    (kept_more (e ∷ es) now (replies_of later) (settled_kept e es (take_while (waits_upto e.log_id.index) ps))
    (kept_right (e ∷ []) es (replies_of later) (executed_kept S es (settled_left e.log_id.index ps))))

none_install : {S : Type 0} (xs : List (PackedInstalled S)) → replies_of (map install xs) ≡ []
none_install [] = refl
none_install (x ∷ xs) = none_install xs

-- what steps say, and answers to reads
pub said_kept : {S : Type 0} (app : Application S) (codec : Codec S) (start : ℕ) (ps : List Proposal) (said : PackedRecords S) (frames : List (Output S))
    (old new : List (PackedMessage S)) (going going' : List Outgoing) → Sends app codec start said.bag old going frames new going'
    → (qs : List Reply) (out : List (Output S)) → out ≡ said_outputs frames said ps ++ reads_out qs → AreKept (executed_in out) (replies_of out)
said_kept {S} app codec start ps said frames old new going going' sends qs out leaves =
    let es = map (λ (x : Executed). x.entry) said.executed in
    let last : List (Output S) = executed_outputs es ps in
    let silent : replies_of frames ≡ [] = none_sent frames (messages_send app codec start old new going going' said.bag frames sends) in
    let said_is : replies_of (said_outputs frames said ps) ≡ replies_of last =
    replies_more frames (map install said.installed ++ last)
    ∙ ((λ i. silent i ++ (replies_more (map install said.installed) last ∙ ap (λ rs. rs ++ replies_of last) (none_install said.installed)) i)) in
    let same : replies_of out ≡ replies_of last =
    ap replies_of leaves
    ∙ (replies_more (said_outputs frames said ps) (reads_out qs)
    ∙ ((λ i. said_is i ++ none_read S qs i) ∙ append_nil (replies_of last))) in
    subst (λ xs. AreKept xs (replies_of out)) (sym (ap executed_in leaves ∙ executed_said app codec start said frames old new going going' sends ps qs))
    (subst (AreKept es) (sym same) (executed_kept S es ps))
  where
    append_nil : (rs : List Reply) → rs ++ [] ≡ rs
    append_nil [] = refl
    append_nil (r ∷ rs) = ap (λ xs. r ∷ xs) (append_nil rs)

-- what leaves with entries keeps them, and reads those that were told of by then
pub answers_kept : {S : Type 0} (es more : List Entry) (out : List (Output S)) → AreInOrder out → AreKept more (replies_of out) → AreKept (es ++ more) (read_replies_of out) → AreKept (es ++ more) (answers_in out)
answers_kept es more out order replies reads =
    subst (AreKept (es ++ more)) (sym order) (kept_more (es ++ more) (replies_of out) (read_replies_of out) (kept_right es more (replies_of out) replies) reads)

-- what leaves keeps what was acknowledged before
pub keeps : {S : Type 0} (out : List (Output S)) (told told2 : Told S) → entries_told told2 ≡ entries_told told ++ executed_in out → replies_told told2 ≡ replies_told told ++ answers_in out
    → AreKept (entries_told told2) (answers_in out) → KeepsAcknowledged told → KeepsAcknowledged told2
keeps out told told2 executed replies now kept =
    subst (AreKept (entries_told told2)) (sym replies)
    (kept_more (entries_told told2) (replies_told told) (answers_in out)
    (subst (λ es. AreKept es (replies_told told)) (sym executed) (kept_left (entries_told told) (executed_in out) (replies_told told) kept)) now)

-- what was handed out stays
pub handed_on : {S : Type 0} (es more : List Entry) (m : Machine S) → HasHanded es m → HasHanded (es ++ more) m
handed_on {S} es more m h = go m.core h
  where
    go : (o : Option (CoreView S)) → IfSome o (λ v. IfSome v.executed (λ index. HasEntryAt index es)) → IfSome o (λ v. IfSome v.executed (λ index. HasEntryAt index (es ++ more)))
    go None k = tt
    go (Some v) k = at_left es more v.executed k
