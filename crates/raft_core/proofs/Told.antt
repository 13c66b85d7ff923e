-- Each client is answered once.
use Rattle.std.proofs.Common.{ℕ, ◌≡◌, ◌∙◌, ⊎_elim, Bool, true, false, List, [], ◌∷◌, ◌++◌, None, Some, refl, sym, ap, subst, append_assoc, inl, inr}
use Rattle.std.specs.Prelude.{◌⊎◌, Contains, map, Option}
use Rattle.std.specs.Option.{option_map, option_to_list}
use Rattle.std.proofs.lemmas.List.{append-nil, map-append}
use Rattle.raft_answers.specs.declared.answer.Answer.TheVariants.{NotLeader}
use Rattle.raft_answers.specs.declared.answer.Reply.{Reply}
use Rattle.raft_answers.specs.declared.request.Operation.{Operation}
use Rattle.raft_answers.specs.declared.request.Token.{Token}
use Rattle.raft_answers.specs.Answers.{ended, expired_replies, failed, refused, settled, settled_replies}
use Rattle.raft_answers.specs.Laws.{AnswersFirst}
use Rattle.raft_answers.specs.Requests.{Batched, IsBatched, Open, no_requests, tokens_of}
use Rattle.raft_answers.proofs.Answered.{both, ends, expires, fails, of_proposal, of_request, proposes, refuses, settles}
use Rattle.raft_peers.specs.raft_packed_wire.declared.packet.PackedContent.{PackedContent}
use Rattle.raft_peers.specs.raft_packed_wire.declared.packet.PackedContent.TheVariants as content
use Rattle.raft_peers.specs.raft_packed_wire.Messages.{received}
use Rattle.raft_codec.specs.Codec.{Codec}
use Rattle.raft_peers.specs.proof_packed.Nodes.{PackedInstalled, PackedMessage, PackedRecords}
use Rattle.raft_peers.specs.proof_packed.Stores.{Application, Packed}
use Rattle.raft_schedule.specs.declared.event.Outcome.{Outcome}
use Rattle.raft_schedule.specs.declared.event.Outcome.TheVariants.{Done, Refused, Skipped, Stopped}
use Rattle.raft_peers.specs.raft_packed_server.declared.batch.Written.{Written}
use Rattle.raft_peers.specs.raft_packed_server.Views.{ServerView}
use Rattle.raft_state.specs.declared.ids.LogId.{LogId}
use Rattle.raft_store.specs.declared.entry.Entry.{Entry}
use Rattle.raft_peers.specs.declared.frame.Frame.{Frame}
use Rattle.raft_peers.specs.declared.frame.Frame.TheVariants as frames
use Rattle.raft_peers.specs.declared.frame.PreVote.{PreVote}
use Rattle.raft_peers.specs.declared.frame.PreVoteReply.{PreVoteReply}
use Rattle.raft_peers.specs.declared.output.Output.{Output}
use Rattle.raft_peers.specs.declared.output.Output.TheVariants as outputs
use Rattle.raft_core.specs.Views.{CoreView}
use Rattle.raft_core.specs.Calls.{Admits, Becomes, Proposes, RefusesAll, Releases, TakesContent, TakesFrame, TakesMessage, Ticks, Writes, WritesNow}
use Rattle.raft_core.specs.Calls.{appended}
use Rattle.raft_peers.specs.Frames.{asked, granted}
use Rattle.raft_core.specs.Laws.{AnswersOnce, ClientsAreAnsweredOnce, replies_of}
use Rattle.raft_core.specs.Outputs.{executed_outputs, install, lost_left, lost_replies, overdue_left, overdue_replies, reads_out, replies_out}
use Rattle.raft_core.specs.Outputs.{said_outputs, settled_all}
use Rattle.raft_peers.specs.Parts.{AreParts, Outgoing, assembled}
use Rattle.raft_peers.proofs.Sending.{AreSends, messages_send, parts_send}
use Rattle.raft_reads.specs.Reads.{read_replies, refused_left, refused_replies, with_heard, with_left}
use Rattle.raft_core.specs.Outputs.{handed_after}

-- ---- the replies among outputs

module _ {S : Type 0} where
  pub replies_more : (a b : List (Output S)) → replies_of (a ++ b) ≡ replies_of a ++ replies_of b
  replies_more [] b = refl
  replies_more (outputs.Reply r ∷ a) b = ap (λ rs. r ∷ rs) (replies_more a b)
  replies_more (outputs.Read r ∷ a) b = replies_more a b
  replies_more (outputs.Send to bytes ∷ a) b = replies_more a b
  replies_more (outputs.Append bytes end next ∷ a) b = replies_more a b
  replies_more (outputs.Install snapshot ∷ a) b = replies_more a b
  replies_more (outputs.Execute entry ∷ a) b = replies_more a b

  pub none_sent : (out : List (Output S)) → AreSends out → replies_of out ≡ []
  none_sent [] h = refl
  none_sent (outputs.Send to bytes ∷ out) h = none_sent out h.1
  none_sent (outputs.Append bytes end next ∷ out) h = absurd h.0
  none_sent (outputs.Install snapshot ∷ out) h = absurd h.0
  none_sent (outputs.Execute entry ∷ out) h = absurd h.0
  none_sent (outputs.Reply r ∷ out) h = absurd h.0
  none_sent (outputs.Read r ∷ out) h = absurd h.0

  pub none_went : (c : Codec S) (start : ℕ) (old : List Outgoing) (out : List (Output S))
      → (out ≡ []) ⊎ ((o : Outgoing) × Contains old o × AreParts c start o out) → replies_of out ≡ []
  none_went c start old out h = ⊎_elim (λ none. ap replies_of none) (λ p. none_sent out (parts_send c start p.0 out p.2)) h

  none_installed : (xs : List (PackedInstalled S)) → replies_of (map install xs) ≡ []
  none_installed [] = refl
  none_installed (x ∷ xs) = none_installed xs

pub replies_are : (S : Type 0) (rs : List Reply) → replies_of {S = S} (replies_out rs) ≡ rs
replies_are S [] = refl
replies_are S (r ∷ rs) = ap (λ rs. r ∷ rs) (replies_are S rs)

pub none_asked : (S : Type 0) (asks : List PreVote) → replies_of {S = S} (map asked asks) ≡ []
none_asked S [] = refl
none_asked S (a ∷ asks) = none_asked S asks

pub none_read : (S : Type 0) (rs : List Reply) → replies_of {S = S} (reads_out rs) ≡ []
none_read S [] = refl
none_read S (r ∷ rs) = none_read S rs

pub none_appended : (S : Type 0) (w : Option Written) → replies_of {S = S} (appended w) ≡ []
none_appended S None = refl
none_appended S (Some w) = refl

pub none_granted : (S : Type 0) (r : Option PreVoteReply) → replies_of {S = S} (option_to_list (option_map granted r)) ≡ []
none_granted S None = refl
none_granted S (Some r) = refl

module _ {S : Type 0} where
  -- replies behind outputs that have none, and in front of such
  pub behind : (a : List (Output S)) (rs : List Reply) → replies_of a ≡ [] → replies_of (a ++ replies_out rs) ≡ rs
  behind a rs none = replies_more a (replies_out rs) ∙ (ap (λ x. x ++ replies_of {S = S} (replies_out rs)) none ∙ replies_are S rs)

  pub before : (rs : List Reply) (b : List (Output S)) → replies_of b ≡ [] → replies_of {S = S} (replies_out rs ++ b) ≡ rs
  before rs b none = replies_more (replies_out rs) b
      ∙ (ap (λ x. replies_of {S = S} (replies_out rs) ++ x) none ∙ (append-nil (replies_of {S = S} (replies_out rs)) ∙ replies_are S rs))

  -- the same, with answers to reads behind them
  pub behind_read : (a : List (Output S)) (rs ys : List Reply) → replies_of a ≡ [] → replies_of (a ++ (replies_out rs ++ reads_out ys)) ≡ rs
  behind_read a rs ys none = replies_more a (replies_out rs ++ reads_out ys)
      ∙ (ap (λ x. x ++ replies_of {S = S} (replies_out rs ++ reads_out ys)) none ∙ before rs (reads_out ys) (none_read S ys))

  pub before_read : (rs ys : List Reply) (b : List (Output S)) → replies_of b ≡ [] → replies_of {S = S} (replies_out rs ++ (reads_out ys ++ b)) ≡ rs
  before_read rs ys b none = before rs (reads_out ys ++ b) (replies_more (reads_out ys) b ∙ (ap (λ x. x ++ replies_of b) (none_read S ys) ∙ none))

-- ---- who is answered

nobody : (o : Open) → AnswersFirst o [] o
nobody o = refl

lost_first : (lost : Bool) (o : Open) → AnswersFirst o (lost_replies lost o) (lost_left lost o)
lost_first true o = ends o
lost_first false o = refl

overdue_first : (lost : Bool) (upto : ℕ) (o : Open) → AnswersFirst o (overdue_replies lost upto o) (overdue_left lost upto o)
overdue_first lost upto o = both o (lost_left lost o) (overdue_left lost upto o) (lost_replies lost o) (expired_replies upto (lost_left lost o))
    (lost_first lost o) (expires upto (lost_left lost o))

-- all are answered: those that were proposed, and then those that wait
refuses_all : (leader : Option ℕ) (old new : Open) (told replies : List Reply) → RefusesAll leader old told new replies
    → (more : List Reply) × (replies ≡ told ++ more) × AnswersFirst old more new
refuses_all leader old new told replies r = (
  ended old.proposed ++ refused (NotLeader leader) old.waiting,
  r.tells,
  subst (λ (o : Open). AnswersFirst old (ended old.proposed ++ refused (NotLeader leader) old.waiting) o) (sym r.left)
      (both old (record old { proposed = [] }) no_requests (ended old.proposed) (refused (NotLeader leader) old.waiting) (ends old)
      (refuses (NotLeader leader) (record old { proposed = [] }) refl)),
)

failed_first : (first : LogId ℕ) (b : Batched) (old taken new : Open) (told replies : List Reply) → IsBatched old taken b
    → (new ≡ record taken { proposed = [] }) × (replies ≡ told ++ (ended taken.proposed ++ failed b.places))
    → (more : List Reply) × (replies ≡ told ++ more) × AnswersFirst old more new
failed_first first b old taken new told replies is r = (
  ended taken.proposed ++ failed b.places,
  r.1,
  subst (λ (o : Open). AnswersFirst old (ended taken.proposed ++ failed b.places) o) (sym r.0)
      (subst (λ (o : Open). AnswersFirst old (ended o.proposed ++ failed b.places) (record taken { proposed = [] })) (sym is.left)
      (fails old taken b is)),
)

-- by the outcome of the proposal
becomes_first : (outcome : Outcome) (first : LogId ℕ) (b : Batched) (old taken new : Open) (told replies : List Reply) → IsBatched old taken b
    → Becomes outcome first b.places taken told new replies
    → (more : List Reply) × (replies ≡ told ++ more) × AnswersFirst old more new
becomes_first Done first b old taken new told replies is r =
    ([], r.1 ∙ sym (append-nil told), sym (ap tokens_of r.0 ∙ proposes first old taken b is))
becomes_first (Refused n) first b old taken new told replies is r = failed_first first b old taken new told replies is r
becomes_first (Skipped reason) first b old taken new told replies is r = failed_first first b old taken new told replies is r
becomes_first Stopped first b old taken new told replies is r = failed_first first b old taken new told replies is r

executed_first : (S : Type 0) (es : List Entry) (o : Open) → AnswersFirst o (replies_of {S = S} (executed_outputs es o.proposed)) (settled_all es o)
executed_first S [] o = refl
executed_first S (e ∷ es) o =
    subst (λ rs. AnswersFirst o rs (settled_all (e ∷ es) o)) (sym made)
    (both o (settled e.log_id o) (settled_all (e ∷ es) o) (settled_replies e.log_id o.proposed)
    (replies_of {S = S} (executed_outputs es (settled e.log_id o).proposed)) (settles e.log_id o) (executed_first S es (settled e.log_id o)))
  where
    made : replies_of {S = S} (executed_outputs (e ∷ es) o.proposed)
        ≡ settled_replies e.log_id o.proposed ++ replies_of {S = S} (executed_outputs es (settled e.log_id o).proposed)
    made =
        replies_more (replies_out (settled_replies e.log_id o.proposed)) (executed_outputs es (settled e.log_id o).proposed)
        ∙ ap (λ rs. rs ++ replies_of {S = S} (executed_outputs es (settled e.log_id o).proposed))
        (replies_are S (settled_replies e.log_id o.proposed))

-- ---- calls

module _ {S : Type 0} (app : Application S) (c : Codec S) where
  admits : (token : Token) (operation : Operation) (old new : CoreView S) → Admits token operation old new
      → tokens_of new.requests ≡ tokens_of old.requests ++ token ∷ []
  admits token operation old new is =
      ap (λ (v : CoreView S). tokens_of v.requests) is
      ∙ (ap (λ ts. map of_proposal old.requests.proposed ++ ts) (map-append of_request old.requests.waiting _)
      ∙ sym (append_assoc (map of_proposal old.requests.proposed) (map of_request old.requests.waiting) (token ∷ [])))

  ticks : (old new : CoreView S) (out : List (Output S)) → Ticks app old out new → AnswersOnce old out new
  ticks old new out t =
      let a = t.answers in
      subst (λ rs. AnswersFirst old.requests rs new.requests) (sym (ap replies_of a.leaves
      ∙ behind_read (map asked t.asks) (overdue_replies a.lost t.upto old.requests) _ (none_asked S t.asks)))
      (subst (λ (o : Open). AnswersFirst old.requests (overdue_replies a.lost t.upto old.requests) o) (sym a.requests_left)
      (overdue_first a.lost t.upto old.requests))

  takes_message : (m : PackedMessage S) (old new : CoreView S) (out : List (Output S)) → TakesMessage app m old out new → AnswersOnce old out new
  takes_message m old new out t =
      let a = t.answers in
      let heard = with_heard m.message old.reads in
      let told = refused_replies a.gone heard ++ read_replies old.executed (refused_left a.gone heard) in
      subst (λ rs. AnswersFirst old.requests rs new.requests)
      (sym (ap replies_of a.leaves ∙ before (lost_replies a.lost old.requests) (reads_out told) (none_read S told)))
      (subst (λ (o : Open). AnswersFirst old.requests (lost_replies a.lost old.requests) o) (sym a.requests_left) (lost_first a.lost old.requests))

  receives_content : (x : PackedContent (Packed S)) (old new : CoreView S) (out : List (Output S)) → TakesContent app c x old out new
      → AnswersOnce old out new
  receives_content (content.Message m) old new out t = takes_message (received app m) old new out t
  receives_content (content.Part x) old new out (inl k) =
      subst (λ rs. AnswersFirst old.requests rs new.requests) (sym (ap replies_of k.leaves)) (ap (λ (v : CoreView S). tokens_of v.requests) (sym k.rest))
  receives_content (content.Part x) old new out (inr t) =
      subst (λ rs. AnswersFirst old.requests rs new.requests) (sym (ap replies_of t.leaves))
      (takes_message (record { message = x.message; brought = t.snapshot }) (record old { incoming = assembled t.comes }) new t.others t.takes)

  receives_frame : (frame : Frame S) (old new : CoreView S) (out : List (Output S)) → TakesFrame app c frame old out new → AnswersOnce old out new
  receives_frame (frames.Packet p) old new out r = receives_content p.content old new out r
  receives_frame (frames.PartReply reply) old new out r =
      subst (λ rs. AnswersFirst old.requests rs new.requests) (sym (none_went c old.start old.outgoing out r.leaves))
      (ap (λ (v : CoreView S). tokens_of v.requests) (sym r.rest))
  receives_frame (frames.PreVote ask) old new out r =
      subst (λ rs. AnswersFirst old.requests rs new.requests) (sym (ap replies_of r.leaves ∙ none_granted S r.replies))
      (ap (λ (v : CoreView S). tokens_of v.requests) (sym r.rest))
  receives_frame (frames.PreVoteReply reply) old new out r =
      subst (λ rs. AnswersFirst old.requests rs new.requests) (sym (ap replies_of r.leaves))
      (ap (λ (v : CoreView S). tokens_of v.requests) (sym r.moved.rest))

  -- the answers to reads that leave when steps come on disk
  abbrev told_reads : CoreView S → PackedRecords S → List Reply
  told_reads old said = read_replies (handed_after said old.executed) (with_left said.answers old.reads)

  releases : (position : ℕ) (old new : CoreView S) (out : List (Output S)) → Releases app c position old out new → AnswersOnce old out new
  releases position old new out r =
      subst (λ rs. AnswersFirst old.requests rs new.requests) (sym (ap replies_of r.leaves ∙ said))
      (subst (λ (v : CoreView S). AnswersFirst old.requests (replies_of {S = S} (executed_outputs es old.requests.proposed)) v.requests) (sym r.rest)
      (executed_first S es old.requests))
    where
      es : List Entry
      es = map (λ x. x.entry) r.said.executed

      sends : replies_of r.frames ≡ []
      sends = none_sent r.frames (messages_send app c old.start old.preparing new.preparing old.outgoing new.outgoing r.said.bag r.frames r.sends)

      executes : replies_of (said_outputs r.frames r.said old.requests.proposed) ≡ replies_of {S = S} (executed_outputs es old.requests.proposed)
      executes =
          replies_more r.frames (map install r.said.installed ++ executed_outputs es old.requests.proposed)
          ∙ (ap (λ rs. rs ++ replies_of (map install r.said.installed ++ executed_outputs es old.requests.proposed)) sends
          ∙ (replies_more (map install r.said.installed) (executed_outputs es old.requests.proposed)
          ∙ ap (λ rs. rs ++ replies_of {S = S} (executed_outputs es old.requests.proposed)) (none_installed r.said.installed)))

      said : replies_of (said_outputs r.frames r.said old.requests.proposed ++ reads_out (told_reads old r.said))
          ≡ replies_of {S = S} (executed_outputs es old.requests.proposed)
      said =
          replies_more (said_outputs r.frames r.said old.requests.proposed) (reads_out (told_reads old r.said))
          ∙ (ap (λ x. replies_of (said_outputs r.frames r.said old.requests.proposed) ++ x) (none_read S (told_reads old r.said))
          ∙ (append-nil (replies_of (said_outputs r.frames r.said old.requests.proposed)) ∙ executes))

  proposes_first : (at : ℕ) (server server2 : ServerView S) (old new : Open) (told replies : List Reply)
      → Proposes app at server old told server2 new replies
      → (more : List Reply) × (replies ≡ told ++ more) × AnswersFirst old more new
  proposes_first at server server2 old new told replies (inl none) = ([], none.3 ∙ sym (append-nil told), ap tokens_of (sym none.2))
  proposes_first at server server2 old new told replies (inr (inl all)) = refuses_all all.0 old new told replies all.2
  proposes_first at server server2 old new told replies (inr (inr made)) =
      becomes_first made.2.outcome made.0 made.2.batch old made.2.taken new told replies made.2.batched made.2.becomes

  writes_now : (old new : CoreView S) (out : List (Output S)) → WritesNow app c old out new → AnswersOnce old out new
  writes_now old new out w =
      let p = proposes_first old.clock w.asked w.server w.kept new.requests w.lost w.replies w.proposes in
      subst (λ rs. AnswersFirst old.requests rs new.requests) (sym (ap replies_of w.leaves
      ∙ (before_read w.replies w.refused (appended w.written) (none_appended S w.written) ∙ p.1)))
      (both old.requests w.kept new.requests w.lost p.0
      (subst (λ rs. AnswersFirst old.requests rs w.kept) (sym w.loses.tells)
      (subst (λ (o : Open). AnswersFirst old.requests (lost_replies w.loses.lost old.requests) o) (sym w.loses.left)
      (lost_first w.loses.lost old.requests)))
      p.2)

  writes : (old new : CoreView S) (out : List (Output S)) → Writes app c old out new → AnswersOnce old out new
  writes old new out (inl none) = subst (λ rs. AnswersFirst old.requests rs new.requests) (sym (ap replies_of none.0))
      (ap (λ (v : CoreView S). tokens_of v.requests) (sym none.1))
  writes old new out (inr now) = writes_now old new out now

  pub clients_are_answered_once : ClientsAreAnsweredOnce app c
  clients_are_answered_once = record {
    admits = admits;
    ticks = ticks;
    receives = λ bytes old new out r. receives_frame r.0 old new out r.2;
    writes = writes;
    releases = releases;
  }
