-- `Ok` leaves with releases alone.
use Rattle.std.proofs.Common.{ℕ, ◌∙◌, Bool, true, false, List, [], ◌∷◌, ◌++◌, sym, ap, subst, inl, inr}
use Rattle.std.specs.Prelude.{map, take, Option}
use Rattle.std.specs.List.{AllByRecursion, take_while}
use Rattle.raft_answers.specs.declared.answer.Answer.TheVariants.{Failed, NotLeader}
use Rattle.raft_answers.specs.declared.answer.Reply.{Reply}
use Rattle.raft_answers.specs.declared.batch.Place.{Place}
use Rattle.raft_answers.specs.declared.request.Proposal.{Proposal}
use Rattle.raft_answers.specs.declared.request.Request.{Request}
use Rattle.raft_answers.specs.Answers.{count_expired, ended, expired_replies, failed, proposed_upto, refused}
use Rattle.raft_answers.specs.Requests.{Open}
use Rattle.raft_schedule.specs.declared.event.Outcome.{Outcome}
use Rattle.raft_schedule.specs.declared.event.Outcome.TheVariants.{Done, Refused, Skipped, Stopped}
use Rattle.raft_codec.specs.Codec.{Codec}
use Rattle.raft_peers.specs.proof_packed.Nodes.{PackedMessage}
use Rattle.raft_peers.specs.proof_packed.Stores.{Application, Packed}
use Rattle.raft_peers.specs.raft_packed_wire.declared.packet.PackedContent.{PackedContent}
use Rattle.raft_peers.specs.raft_packed_wire.declared.packet.PackedContent.TheVariants as content
use Rattle.raft_peers.specs.raft_packed_wire.Messages.{received}
use Rattle.raft_peers.specs.raft_packed_server.Views.{ServerView}
use Rattle.raft_state.specs.declared.ids.LogId.{LogId}
use Rattle.raft_peers.specs.declared.frame.Frame.{Frame}
use Rattle.raft_peers.specs.declared.frame.Frame.TheVariants as frames
use Rattle.raft_peers.specs.declared.output.Output.{Output}
use Rattle.raft_core.specs.Views.{CoreView}
use Rattle.raft_core.specs.Calls.{Becomes, Proposes, TakesContent, TakesFrame, TakesMessage, Ticks, Writes, WritesNow, appended}
use Rattle.raft_peers.specs.Frames.{asked}
use Rattle.raft_core.specs.Laws.{IsNotOk, NoneIsOk, OnlyReleasesTellOk, replies_of}
use Rattle.raft_core.specs.Outputs.{lost_left, lost_replies, overdue_replies, reads_out}
use Rattle.raft_peers.specs.Parts.{assembled}
use Rattle.raft_reads.specs.Reads.{read_replies, refused_left, refused_replies, with_heard}
use Rattle.raft_core.proofs.Told.{before, before_read, behind_read, none_appended, none_asked, none_granted, none_read, none_went}

abbrev pub NoOk : List Reply → Type 0
NoOk rs = AllByRecursion IsNotOk rs

pub no_more : (a b : List Reply) → NoOk a → NoOk b → NoOk (a ++ b)
no_more [] b x y = y
no_more (r ∷ a) b x y = (x.0, no_more a b x.1 y)

no_ended : (ps : List Proposal) → NoOk (ended ps)
no_ended [] = tt
no_ended (p ∷ ps) = ((λ index e. cc), no_ended ps)

no_failed : (ps : List Place) → NoOk (failed ps)
no_failed [] = tt
no_failed (p ∷ ps) = ((λ index e. cc), no_failed ps)

no_refused : (leader : Option ℕ) (rs : List Request) → NoOk (refused (NotLeader leader) rs)
no_refused leader [] = tt
no_refused leader (r ∷ rs) = ((λ index e. cc), no_refused leader rs)

no_expired : (rs : List Request) → NoOk (refused Failed rs)
no_expired [] = tt
no_expired (r ∷ rs) = ((λ index e. cc), no_expired rs)

no_lost : (lost : Bool) (o : Open) → NoOk (lost_replies lost o)
no_lost true o = no_ended o.proposed
no_lost false o = tt

no_overdue : (lost : Bool) (upto : ℕ) (o : Open) → NoOk (overdue_replies lost upto o)
no_overdue lost upto o =
    let left = lost_left lost o in
    no_more (lost_replies lost o) (expired_replies upto left) (no_lost lost o)
    (no_more (ended (take_while (proposed_upto upto) left.proposed)) (refused Failed (take (count_expired upto left) left.waiting))
    (no_ended (take_while (proposed_upto upto) left.proposed))
    (no_expired (take (count_expired upto left) left.waiting)))

no_becomes : (outcome : Outcome) (first : LogId ℕ) (places : List Place) (old new : Open) (told replies : List Reply) → NoOk told
    → Becomes outcome first places old told new replies → NoOk replies
no_becomes Done first places old new told replies quiet r = subst NoOk (sym r.1) quiet
no_becomes (Refused n) first places old new told replies quiet r = subst NoOk (sym r.1)
    (no_more told (ended old.proposed ++ failed places) quiet
    (no_more (ended old.proposed) (failed places) (no_ended old.proposed) (no_failed places)))
no_becomes (Skipped reason) first places old new told replies quiet r = subst NoOk (sym r.1)
    (no_more told (ended old.proposed ++ failed places) quiet
    (no_more (ended old.proposed) (failed places) (no_ended old.proposed) (no_failed places)))
no_becomes Stopped first places old new told replies quiet r = subst NoOk (sym r.1)
    (no_more told (ended old.proposed ++ failed places) quiet
    (no_more (ended old.proposed) (failed places) (no_ended old.proposed) (no_failed places)))

module _ {S : Type 0} (app : Application S) (c : Codec S) where
  ticks : (old new : CoreView S) (out : List (Output S)) → Ticks app old out new → NoneIsOk out
  ticks old new out t =
      let a = t.answers in
      subst NoOk (sym (ap replies_of a.leaves
      ∙ behind_read (map asked t.asks) (overdue_replies a.lost t.upto old.requests) _ (none_asked S t.asks))) (no_overdue a.lost t.upto old.requests)

  takes_message : (m : PackedMessage S) (old new : CoreView S) (out : List (Output S)) → TakesMessage app m old out new → NoneIsOk out
  takes_message m old new out t =
      let a = t.answers in
      let heard = with_heard m.message old.reads in
      let told = refused_replies a.gone heard ++ read_replies old.executed (refused_left a.gone heard) in
      subst NoOk (sym (ap replies_of a.leaves ∙ before (lost_replies a.lost old.requests) (reads_out told) (none_read S told)))
      (no_lost a.lost old.requests)

  receives_content : (x : PackedContent (Packed S)) (old new : CoreView S) (out : List (Output S)) → TakesContent app c x old out new → NoneIsOk out
  receives_content (content.Message m) old new out t = takes_message (received app m) old new out t
  receives_content (content.Part x) old new out (inl k) = subst NoOk (sym (ap replies_of k.leaves)) tt
  receives_content (content.Part x) old new out (inr t) =
      subst NoOk (sym (ap replies_of t.leaves))
      (takes_message (record { message = x.message; brought = t.snapshot }) (record old { incoming = assembled t.comes }) new t.others t.takes)

  receives_frame : (frame : Frame S) (old new : CoreView S) (out : List (Output S)) → TakesFrame app c frame old out new → NoneIsOk out
  receives_frame (frames.Packet p) old new out r = receives_content p.content old new out r
  receives_frame (frames.PartReply reply) old new out r = subst NoOk (sym (none_went c old.start old.outgoing out r.leaves)) tt
  receives_frame (frames.PreVote ask) old new out r = subst NoOk (sym (ap replies_of r.leaves ∙ none_granted S r.replies)) tt
  receives_frame (frames.PreVoteReply reply) old new out r = subst NoOk (sym (ap replies_of r.leaves)) tt

  no_proposes : (at : ℕ) (server server2 : ServerView S) (old new : Open) (told replies : List Reply) → NoOk told
      → Proposes app at server old told server2 new replies → NoOk replies
  no_proposes at server server2 old new told replies quiet (inl none) = subst NoOk (sym none.3) quiet
  no_proposes at server server2 old new told replies quiet (inr (inl all)) =
      subst NoOk (sym all.2.tells)
      (no_more told (ended old.proposed ++ refused (NotLeader all.0) old.waiting) quiet
      (no_more (ended old.proposed) (refused (NotLeader all.0) old.waiting) (no_ended old.proposed) (no_refused all.0 old.waiting)))
  no_proposes at server server2 old new told replies quiet (inr (inr made)) =
      no_becomes made.2.outcome made.0 made.2.batch.places made.2.taken new told replies quiet made.2.becomes

  writes_now : (old new : CoreView S) (out : List (Output S)) → WritesNow app c old out new → NoneIsOk out
  writes_now old new out w =
      subst NoOk (sym (ap replies_of w.leaves ∙ before_read w.replies w.refused (appended w.written) (none_appended S w.written)))
      (no_proposes old.clock w.asked w.server w.kept new.requests w.lost w.replies
      (subst NoOk (sym w.loses.tells) (no_lost w.loses.lost old.requests)) w.proposes)

  writes : (old new : CoreView S) (out : List (Output S)) → Writes app c old out new → NoneIsOk out
  writes old new out (inl none) = subst NoOk (sym (ap replies_of none.0)) tt
  writes old new out (inr now) = writes_now old new out now

  pub only_releases_tell_ok : OnlyReleasesTellOk app c
  only_releases_tell_ok = record { ticks = ticks; receives = λ bytes old new out r. receives_frame r.0 old new out r.2; writes = writes }
