-- What a run writes of the record of a world is true.
use Rattle.std.proofs.Common.{◌≡◌, ℕ, List, [], map, Option, Some, None, Result, Ok, Err, ◌⊎◌, inl, inr, refl, sym, ap, subst, ◌∙◌}
use Rattle.std.specs.Prelude.{option_map, IfSome, IsSome}
use Rattle.std.specs.Option.{option_or}
use Rattle.hk_base.specs.TailoringParts.{TailoringParts}
use Rattle.pus_messages.specs.Messages.{protocol}
use Rattle.hk_tailoring.specs.Files.{IsOf}
use Rattle.hk_tailoring.specs.declared.fault.TailoringFault.{TailoringFault}
use Rattle.session_record.specs.Records.{Entries}
use Rattle.session_record.specs.Written.{IsPrefixWritten}
use Rattle.session_record.specs.declared.header.Header.{Header}
use Rattle.session_record.specs.declared.entry.Entry.{Entry}
use Rattle.session_record.specs.declared.entry.RecordFault.{RecordFault}
use Rattle.hk_world.specs.Worlds.{World}
use Rattle.session_texts.specs.Sessions.{entries_problem, problem_of}
use Rattle.session_texts.specs.Texts.{text}
use Rattle.session_texts.specs.Truth.{IsSeenIn}
use Rattle.session_texts.specs.declared.problem.RecordProblem.{RecordProblem}
use Rattle.hk_replay.specs.Outcomes.{Outcome, written, stopped, unless_problem, session_text, replay_outcome}
use Rattle.program_edge.specs.Names.{TailoringName, standard, in_file}
use Rattle.program_edge.specs.Tailorings.{octets_of, fault_of_file, IsMeaning, StandsFor}
use Rattle.hk_replay.specs.Words.{Command, on_record, replay, follow, show, encode, check, trim, generate}
use Rattle.hk_replay.specs.Replay.{HasOutput}
use Rattle.hk_replay.specs.Inputs.{IsTailoring, Tells, TellsOf, Replays}
use Rattle.hk_replay.specs.Truth.{IsRecordOf, IsRunOf}
use Rattle.hk_replay.specs.declared.status.ReplayStatus.{ReplayStatus}
use Rattle.hk_replay.specs.declared.status.ReplayStatus.TheVariants.{Done, Usage, Tailoring, Record, ReadFault, WriteFault, NoMemory, Text}
use Rattle.hk_replay.proofs.TakingLemmas.{nothing_written}

-- the entries without their offsets
abbrev held : List (ℕ × Entry) → List Entry
held entries = map (λ (e : ℕ × Entry). e.1) entries

-- What is promised of the record of a world under a tailoring: no entry is a problem, and the text keeps a promise.
pub record IsTold (t : TailoringParts) (w : World) (IsPromised : List ℕ → Type 0) : Type 0 where
  pub taken : (h : Header) (entries : List (ℕ × Entry)) → IsSeenIn w h (held entries) → entries_problem (protocol t) h [] entries ≡ None
  pub is_so : (h : Header) (entries : List Entry) → IsSeenIn w h entries → IsPromised (text (protocol t) h entries)

world_outcome : (t : TailoringParts) (w : World) (IsPromised : List ℕ → Type 0) (octets : List ℕ) (is : IsRecordOf w octets) → IsTold t w IsPromised
    → replay_outcome t octets ≡ written (text (protocol t) is.header (held is.entries))
unfolding replay_outcome
world_outcome t w IsPromised octets is told =
    let p = protocol t in
    ap (λ (r : Result (Header × Entries) RecordFault). unless_problem (problem_of p r) (session_text p r)) is.record_is
    ∙ ap (λ (o : Option RecordProblem). unless_problem (option_or o None) (text p is.header (held is.entries))) (told.taken is.header is.entries is.seen_in)

run_by : (IsPromised : List ℕ → Type 0) (status : ReplayStatus) (text : List ℕ) (before after : Option (List ℕ)) → IsPromised text → HasOutput status (written text) before after
    → IsRunOf IsPromised status before after
run_by IsPromised Done text before after is h = (text, is, h)
run_by IsPromised Usage text before after is h = h.0
run_by IsPromised (Tailoring fault) text before after is h = absurd h.0
run_by IsPromised (Record problem) text before after is h = h.0
run_by IsPromised ReadFault text before after is h = h.1
run_by IsPromised WriteFault text before after is h = (text, is, h)
run_by IsPromised NoMemory text before after is h = (text, is, h)
run_by IsPromised (Text line) text before after is h = h.0

pub none_written : (text : List ℕ) (before after : Option (List ℕ)) → after ≡ before → IsPrefixWritten before text after
none_written text before after same = subst (IsPrefixWritten before text) (sym same) (nothing_written before text)

-- the same where the tailoring has a fault
faulty_run : (IsPromised : List ℕ → Type 0) (status : ReplayStatus) (known : TailoringFault) (text : List ℕ) (before after : Option (List ℕ)) → IsPromised text
    → HasOutput status (stopped (Tailoring known)) before after → IsRunOf IsPromised status before after
faulty_run IsPromised Done known text before after is h = absurd (cc h.0)
faulty_run IsPromised Usage known text before after is h = absurd (cc h.0)
faulty_run IsPromised (Tailoring fault) known text before after is h = h.1
faulty_run IsPromised (Record problem) known text before after is h = absurd (cc h.0)
faulty_run IsPromised ReadFault known text before after is h = h.1
faulty_run IsPromised WriteFault known text before after is h = absurd (cc h.0)
faulty_run IsPromised NoMemory known text before after is h = (text, is, none_written text before after h.1)
faulty_run IsPromised (Text line) known text before after is h = absurd (cc h.0)

-- a tailoring file that states a tailoring means it, or has a fault
meaning : (octets : List ℕ) (t : TailoringParts) → IsOf octets t → (o : Option TailoringFault) → fault_of_file octets ≡ o
    → IsMeaning octets (Ok t) ⊎ ((fault : TailoringFault) × IsMeaning octets (Err fault))
meaning octets t is None none = inl (none, is)
meaning octets t is (Some fault) some = inr (fault, some)

pub stands_for : (files : Option (List (List ℕ × List ℕ))) (name : TailoringName) (t : TailoringParts) → IsTailoring files name t
    → StandsFor files name (Ok t) ⊎ ((fault : TailoringFault) × StandsFor files name (Err fault))
stands_for files standard t is = inl (ap Ok is)
stands_for files (in_file name) t is = go (octets_of files name) is.0 is.1
  where
    go : (o : Option (List ℕ)) → IfSome o (λ octets. IsOf octets t) → IsSome o
        → (IfSome o (λ octets. IsMeaning octets (Ok t)) × IsSome o) ⊎ ((fault : TailoringFault) × (IfSome o (λ octets. IsMeaning octets (Err fault)) × IsSome o))
    go None here some = absurd (cc some)
    go (Some octets) here some = by (meaning octets t here (fault_of_file octets) refl)
      where
        by : IsMeaning octets (Ok t) ⊎ ((fault : TailoringFault) × IsMeaning octets (Err fault))
            → (IsMeaning octets (Ok t) × IsSome (Some octets)) ⊎ ((fault : TailoringFault) × (IsMeaning octets (Err fault) × IsSome (Some octets)))
        by (inl fit) = inl (fit, some)
        by (inr (fault, at)) = inr (fault, (at, some))

-- What is made of the files of a world's replay is the outcome of its record, or the fault of the tailoring.
replay_tells : (command : Option Command) (files : Option (List (List ℕ × List ℕ))) (t : TailoringParts) (octets : List ℕ) → Replays files command t octets
    → TellsOf files command (replay_outcome t octets) ⊎ ((fault : TailoringFault) × TellsOf files command (stopped (Tailoring fault)))
replay_tells None files t octets r = absurd r
replay_tells (Some (check tailoring)) files t octets r = absurd r
replay_tells (Some (trim name)) files t octets r = absurd r
replay_tells (Some (encode tailoring name)) files t octets r = absurd r
replay_tells (Some (generate seed rounds)) files t octets r = absurd r
replay_tells (Some (on_record follow tailoring name)) files t octets r = absurd r
replay_tells (Some (on_record show tailoring name)) files t octets r = absurd r
replay_tells (Some (on_record replay tailoring name)) files t octets r = by (stands_for files tailoring t r.0)
  where
    by : StandsFor files tailoring (Ok t) ⊎ ((fault : TailoringFault) × StandsFor files tailoring (Err fault))
        → Tells files (on_record replay tailoring name) (replay_outcome t octets) ⊎ ((fault : TailoringFault) × Tells files (on_record replay tailoring name) (stopped (Tailoring fault)))
    by (inl fit) = inl (Ok t, fit, ap (option_map (replay_outcome t)) r.1)
    by (inr (fault, at)) = inr (fault, (Err fault, at, refl))

-- What a run writes that replays the record of a world keeps what is promised of it.
pub run_of : (command : Option Command) (files : Option (List (List ℕ × List ℕ))) (status : ReplayStatus) (before after : Option (List ℕ))
    → ((outcome : Outcome) → TellsOf files command outcome → HasOutput status outcome before after)
    → (t : TailoringParts) (w : World) (IsPromised : List ℕ → Type 0) → IsTold t w IsPromised → (octets : List ℕ) → Replays files command t octets → IsRecordOf w octets
    → IsRunOf IsPromised status before after
run_of command files status before after tells t w IsPromised told octets r is = by (replay_tells command files t octets r)
  where
    all : List ℕ
    all = text (protocol t) is.header (held is.entries)

    so : IsPromised all
    so = told.is_so is.header (held is.entries) is.seen_in

    by : TellsOf files command (replay_outcome t octets) ⊎ ((fault : TailoringFault) × TellsOf files command (stopped (Tailoring fault))) → IsRunOf IsPromised status before after
    by (inl fit) =
        run_by IsPromised status all before after so
        (subst (λ (o : Outcome). HasOutput status o before after) (world_outcome t w IsPromised octets is told) (tells (replay_outcome t octets) fit))
    by (inr (fault, at)) = faulty_run IsPromised status fault all before after so (tells (stopped (Tailoring fault)) at)
