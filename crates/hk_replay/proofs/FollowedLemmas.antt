-- What `follow` wrote, as an outcome of the program, and that it is true.
use Rattle.std.proofs.Common.{◌≡◌, ℕ, List, [], ◌++◌, map, take, drop, Option, Some, None, Ok, Err, ◌⊎◌, inl, inr, refl, sym, ap, subst, ◌∙◌, append-nil}
use Rattle.std.specs.Prelude.{IfSome, option_map}
use Rattle.std.specs.Option.{option_or}
use Rattle.std.proofs.lemmas.List.{take-append-drop}
use Rattle.hk_base.specs.TailoringParts.{TailoringParts}
use Rattle.pus_messages.specs.Messages.{protocol}
use Rattle.hk_tailoring.specs.declared.fault.TailoringFault.{TailoringFault}
use Rattle.session_record.specs.Written.{IsPrefixWritten}
use Rattle.session_record.specs.declared.header.Header.{Header}
use Rattle.session_record.specs.declared.entry.Entry.{Entry}
use Rattle.hk_world.specs.Worlds.{World}
use Rattle.session_texts.specs.Sessions.{entries_problem}
use Rattle.session_texts.specs.Follow.{follow_text}
use Rattle.session_texts.specs.Truth.{IsSeenIn}
use Rattle.session_texts.specs.Lines.{HasTrueLines}
use Rattle.session_texts.specs.declared.problem.RecordProblem.{RecordProblem}
use Rattle.followed_records.specs.Told.{Told, told_text, told_until, told_of, told}
use Rattle.followed_records.specs.Following.{FollowsUntil}
use Rattle.followed_records.specs.declared.fault.FollowingFault.{FollowingFault}
use Rattle.followed_records.specs.declared.fault.FollowingFault.TheVariants as following
use Rattle.hk_replay.specs.Faults.{status_of_following}
use Rattle.hk_replay.specs.Outcomes.{Outcome, listed, stopped, status_of_problem, follow_outcome}
use Rattle.hk_replay.specs.Words.{Command, on_record, replay, follow, show, encode, check, trim, generate}
use Rattle.hk_replay.specs.Replay.{HasOutput}
use Rattle.program_edge.specs.Tailorings.{StandsFor}
use Rattle.hk_replay.specs.Inputs.{Tells, TellsOf, IsToFollow}
use Rattle.hk_replay.specs.Truth.{IsRecordOf, IsPartOf, IsFollowOf}
use Rattle.hk_replay.specs.declared.status.ReplayStatus.{ReplayStatus}
use Rattle.hk_replay.specs.declared.status.ReplayStatus.TheVariants.{Done, Usage, Tailoring, Record, ReadFault, WriteFault, NoMemory, Text}
use Rattle.hk_replay.proofs.HeadlineLemmas.{none_written, stands_for}

-- how following ended is how the run ends
follows_output : (t : TailoringParts) (octets : List ℕ) (left before after : Option (List ℕ)) (fault : FollowingFault) → FollowsUntil fault (told t) octets left before after
    → HasOutput (status_of_following fault) (follow_outcome t octets) before after
follows_output t octets left before after (following.Record problem) h = (sym (ap status_of_problem h.0), h.1)
follows_output t octets left before after following.ReadFault h = h.1
follows_output t octets left before after following.WriteFault h = h
follows_output t octets left before after following.Memory h = h

pub followed_output : (t : TailoringParts) (rest left before after : Option (List ℕ)) (fault : FollowingFault) → IfSome rest (λ octets. FollowsUntil fault (told t) octets left before after)
    → IfSome rest (λ octets. HasOutput (status_of_following fault) (follow_outcome t octets) before after)
followed_output t None left before after fault follows = tt
followed_output t (Some octets) left before after fault follows = follows_output t octets left before after fault follows

-- the entries without their offsets
abbrev held : List (ℕ × Entry) → List Entry
held entries = map (λ (e : ℕ × Entry). e.1) entries

-- What is promised of the record of a world under a tailoring: no entry is a problem, what is written as its entries come keeps a promise, and each line is true of a first part of what keeps it.
pub record IsToldOn (t : TailoringParts) (w : World) (IsPromised : List ℕ → Type 0) : Type 0 where
  pub taken : (h : Header) (entries : List (ℕ × Entry)) → IsSeenIn w h (held entries) → entries_problem (protocol t) h [] entries ≡ None
  pub is_so : (h : Header) (entries : List Entry) → IsSeenIn w h entries → IsPromised (follow_text (protocol t) h entries)
  pub lines : (text more : List ℕ) → IsPromised (text ++ more) → HasTrueLines w text

world_told : (t : TailoringParts) (w : World) (IsPromised : List ℕ → Type 0) (octets : List ℕ) (is : IsRecordOf w octets) → IsToldOn t w IsPromised
    → told t octets ≡ told_until (protocol t) is.header [] is.entries None
unfolding told
world_told t w IsPromised octets is laws =
    let p = protocol t in
    ap (told_of p) is.record_is ∙ ap (λ (o : Option RecordProblem). told_until p is.header [] is.entries (option_or o None)) (laws.taken is.header is.entries is.seen_in)

world_follow : (t : TailoringParts) (w : World) (IsPromised : List ℕ → Type 0) (octets : List ℕ) (is : IsRecordOf w octets) → IsToldOn t w IsPromised
    → follow_outcome t octets ≡ listed (follow_text (protocol t) is.header (held is.entries)) Done
world_follow t w IsPromised octets is laws = ap (λ (x : Told). listed (told_text x) (status_of_problem x.problem)) (world_told t w IsPromised octets is laws)

module _ (IsPromised : List ℕ → Type 0) (w : World) (lines : (one more : List ℕ) → IsPromised (one ++ more) → HasTrueLines w one) (text : List ℕ) (before after : Option (List ℕ)) (is : IsPromised text) where
  part : IsPrefixWritten before text after → IsPartOf IsPromised w before after
  part written =
      let both = subst IsPromised (sym (take-append-drop written.0 text)) is in
      (take written.0 text, drop written.0 text, both, lines (take written.0 text) (drop written.0 text) both, written.2)

  follow_by : (status : ReplayStatus) → HasOutput status (listed text Done) before after → IsFollowOf IsPromised w status before after
  follow_by Done h = (text, is, lines text [] (subst IsPromised (sym (append-nil text)) is), h.1)
  follow_by Usage h = absurd (cc h.0)
  follow_by (Tailoring fault) h = absurd (cc h.0)
  follow_by (Record problem) h = absurd (cc h.0)
  follow_by ReadFault h = part h
  follow_by WriteFault h = part h
  follow_by NoMemory h = part h
  follow_by (Text line) h = absurd (cc h.0)

  -- the same where the tailoring has a fault
  faulty_follow : (status : ReplayStatus) (known : TailoringFault) → HasOutput status (stopped (Tailoring known)) before after → IsFollowOf IsPromised w status before after
  faulty_follow Done known h = absurd (cc h.0)
  faulty_follow Usage known h = absurd (cc h.0)
  faulty_follow (Tailoring fault) known h = h.1
  faulty_follow (Record problem) known h = absurd (cc h.0)
  faulty_follow ReadFault known h = part (none_written text before after h.1)
  faulty_follow WriteFault known h = absurd (cc h.0)
  faulty_follow NoMemory known h = part (none_written text before after h.1)
  faulty_follow (Text line) known h = absurd (cc h.0)

-- What is made of the files where a world's record is followed is the outcome of its record, or the fault of the tailoring.
follow_tells : (command : Option Command) (files : Option (List (List ℕ × List ℕ))) (t : TailoringParts) (octets : List ℕ) → IsToFollow files command t octets
    → TellsOf files command (follow_outcome t octets) ⊎ ((fault : TailoringFault) × TellsOf files command (stopped (Tailoring fault)))
follow_tells None files t octets r = absurd r
follow_tells (Some (check tailoring)) files t octets r = absurd r
follow_tells (Some (trim name)) files t octets r = absurd r
follow_tells (Some (encode tailoring name)) files t octets r = absurd r
follow_tells (Some (generate seed rounds)) files t octets r = absurd r
follow_tells (Some (on_record show tailoring name)) files t octets r = absurd r
follow_tells (Some (on_record replay tailoring name)) files t octets r = absurd r
follow_tells (Some (on_record follow tailoring name)) files t octets r = by (stands_for files tailoring t r.0)
  where
    by : StandsFor files tailoring (Ok t) ⊎ ((fault : TailoringFault) × StandsFor files tailoring (Err fault))
        → Tells files (on_record follow tailoring name) (follow_outcome t octets) ⊎ ((fault : TailoringFault) × Tells files (on_record follow tailoring name) (stopped (Tailoring fault)))
    by (inl fit) = inl (Ok t, fit, ap (option_map (follow_outcome t)) r.1)
    by (inr (fault, at)) = inr (fault, (Err fault, at, refl))

-- What a run writes that follows the record of a world keeps what is promised of it.
pub follow_of : (command : Option Command) (files : Option (List (List ℕ × List ℕ))) (status : ReplayStatus) (before after : Option (List ℕ))
    → ((outcome : Outcome) → TellsOf files command outcome → HasOutput status outcome before after)
    → (t : TailoringParts) (w : World) (IsPromised : List ℕ → Type 0) → IsToldOn t w IsPromised → (octets : List ℕ) → IsToFollow files command t octets → IsRecordOf w octets
    → IsFollowOf IsPromised w status before after
follow_of command files status before after tells t w IsPromised laws octets r is = by (follow_tells command files t octets r)
  where
    all : List ℕ
    all = follow_text (protocol t) is.header (held is.entries)

    so : IsPromised all
    so = laws.is_so is.header (held is.entries) is.seen_in

    by : TellsOf files command (follow_outcome t octets) ⊎ ((fault : TailoringFault) × TellsOf files command (stopped (Tailoring fault))) → IsFollowOf IsPromised w status before after
    by (inl fit) =
        follow_by IsPromised w laws.lines all before after so status
        (subst (λ (o : Outcome). HasOutput status o before after) (world_follow t w IsPromised octets is laws) (tells (follow_outcome t octets) fit))
    by (inr (fault, at)) = faulty_follow IsPromised w laws.lines all before after so status fault (tells (stopped (Tailoring fault)) at)
