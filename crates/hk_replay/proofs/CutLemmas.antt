-- What is trimmed and replayed of a cut record with a journal is that of the world of its lines, and true in it.
use Rattle.std.proofs.Common.{◌≡◌, ◌⊎◌, inl, inr, ℕ, List, ◌++◌, take, Option, Some, None, Result, Ok, Err, refl, sym, ap, subst}
use Rattle.std.specs.Prelude.{⊤, option_map}
use Rattle.hk_base.specs.TailoringParts.{TailoringParts}
use Rattle.pus_messages.specs.Messages.{protocol}
use Rattle.hk_world.specs.Timelines.{Session}
use Rattle.hk_world.specs.Worlds.{World, IsWorld}
use Rattle.session_record.specs.declared.entry.RecordFault.{RecordFault}
use Rattle.session_record.specs.declared.entry.RecordFault.TheVariants as record_fault
use Rattle.session_record.specs.Records.{trimmed}
use Rattle.session_record.specs.declared.header.Header.{Header}
use Rattle.session_record.specs.declared.entry.Entry.{Entry}
use Rattle.record_commands.specs.Trimming.{trimmed_octets}
use Rattle.session_texts.specs.Truth.{IsSeenIn, IsTrueText}
use Rattle.journaled_records.specs.OwnWorlds.{IsFrontOf, IsOwnWorld, IsOwnRecord, entries_of}
use Rattle.journaled_records.specs.Replays.{HasTrueSamples}
use Rattle.hk_replay.specs.Truth.{IsRecordOf, IsTrueRun}
use Rattle.hk_replay.specs.Cut.{IsCutRecord, IsTrueCutText, IsTrueCutRun, IsTrueTrim, Trims}
use Rattle.hk_replay.specs.Faults.{status_of_fault}
use Rattle.hk_replay.specs.Outcomes.{Outcome, written, stopped, given_outcome, trim_outcome}
use Rattle.hk_replay.specs.Replay.{HasOutput}
use Rattle.hk_replay.specs.Inputs.{TellsOf}
use Rattle.hk_replay.specs.Words.{Command, on_record, encode, check, trim, generate}
use Rattle.hk_replay.specs.declared.status.ReplayStatus.{ReplayStatus}
use Rattle.hk_replay.specs.declared.status.ReplayStatus.TheVariants.{Done, Usage, Tailoring, Record, ReadFault, WriteFault, NoMemory, Text}

-- what the laws on records with a journal say of texts: each sample of a text that is true up to a step is true in the whole world
abbrev pub SamplesStay : Type 0
SamplesStay = (v w : World) (written rest : List ℕ) → IsFrontOf v w → IsWorld w → IsTrueText v (written ++ rest) → HasTrueSamples w written

-- what they say of entries: those of a record with a journal are what the ground saw
abbrev pub IsSeen : Type 0
IsSeen = (w : World) (h : Header) (entries : List Entry) → IsOwnWorld w h entries → IsSeenIn w h entries

-- a record with a journal is one of the world of its lines
own-record : IsSeen → (w : World) (octets : List ℕ) → IsOwnRecord w octets → IsRecordOf w octets
own-record seen w octets own =
    record { header = own.header; entries = own.entries; record_is = own.record_is; seen_in = seen w own.header (entries_of own.entries) own.own }

cut-text : SamplesStay → (v w : World) (text : List ℕ) → IsFrontOf v w → IsWorld w → IsTrueText v text → IsTrueCutText w text
cut-text stay v w text front world is =
    let P : List ℕ → Type 0 = λ octets. IsTrueText v octets in
    record { part = v; is_front = front; is_true = is; samples = λ written rest same. stay v w written rest front world (subst P same is) }

cut-run : SamplesStay → (v w : World) (status : ReplayStatus) (before after : Option (List ℕ)) → IsFrontOf v w → IsWorld w → IsTrueRun v status before after → IsTrueCutRun w status before after
cut-run stay v w Done before after front world r = (r.0, cut-text stay v w r.0 front world r.1, r.2)
cut-run stay v w WriteFault before after front world r = (r.0, cut-text stay v w r.0 front world r.1, r.2)
cut-run stay v w NoMemory before after front world r = (r.0, cut-text stay v w r.0 front world r.1, r.2)
cut-run stay v w ReadFault before after front world r = r
cut-run stay v w Usage before after front world r = r
cut-run stay v w (Tailoring fault) before after front world r = r
cut-run stay v w (Record problem) before after front world r = r
cut-run stay v w (Text line) before after front world r = r

-- what a run writes of a cut record is true, by what is so of the record of each world
pub true-cut : SamplesStay → IsSeen → (t : TailoringParts) (w : World) (octets : List ℕ) (status : ReplayStatus) (before after : Option (List ℕ)) → IsWorld w → w.session.protocol ≡ protocol t
    → IsCutRecord w octets → ((v : World) → IsWorld v → v.session.protocol ≡ protocol t → IsRecordOf v octets → IsTrueRun v status before after)
    → IsTrueCutRun w status before after
true-cut stay seen t w octets status before after world spoken cut headline =
    let P : Session → Type 0 = λ s. s.protocol ≡ protocol t in
    cut-run stay cut.part w status before after cut.is_front world
    (headline cut.part cut.own.own.world (subst P (sym cut.is_front.session) spoken) (own-record seen cut.part octets cut.own))

trim-by : (w : World) (octets : List ℕ) (status : ReplayStatus) (before after : Option (List ℕ)) → IsCutRecord w octets → HasOutput status (written octets) before after → IsTrueTrim w status before after
trim-by w octets Done before after cut h = (octets, cut, h)
trim-by w octets Usage before after cut h = h.0
trim-by w octets (Tailoring fault) before after cut h = h.0
trim-by w octets (Record problem) before after cut h = h.1
trim-by w octets ReadFault before after cut h = h.1
trim-by w octets WriteFault before after cut h = (octets, cut, h)
trim-by w octets NoMemory before after cut h = inr (octets, cut, h)
trim-by w octets (Text line) before after cut h = h.0

-- a status by which a record is refused, or reading of it fails
abbrev IsOfReading : ReplayStatus → Type 0
IsOfReading Done = ⊥
IsOfReading Usage = ⊥
IsOfReading (Tailoring fault) = ⊥
IsOfReading (Record problem) = ⊤
IsOfReading ReadFault = ⊤
IsOfReading WriteFault = ⊥
IsOfReading NoMemory = ⊤
IsOfReading (Text line) = ⊥

of-reading : (fault : RecordFault) → IsOfReading (status_of_fault fault)
of-reading record_fault.ReadFault = tt
of-reading record_fault.Memory = tt
of-reading record_fault.BadMagic = tt
of-reading (record_fault.BadKind octet offset) = tt
of-reading (record_fault.Cut offset) = tt
of-reading (record_fault.TooLong offset) = tt
of-reading (record_fault.TooManyEntries offset) = tt

not-trim : (fault : RecordFault) (status : ReplayStatus) → status ≡ status_of_fault fault → IsOfReading status
not-trim fault status is = subst IsOfReading (sym is) (of-reading fault)

trim-failed : (w : World) (fault : RecordFault) (status : ReplayStatus) (before after : Option (List ℕ)) → HasOutput status (stopped (status_of_fault fault)) before after → IsTrueTrim w status before after
trim-failed w fault Done before after h = absurd (not-trim fault Done h.0)
trim-failed w fault Usage before after h = absurd (not-trim fault Usage h.0)
trim-failed w fault (Tailoring f) before after h = absurd (not-trim fault (Tailoring f) h.0)
trim-failed w fault (Record problem) before after h = h.1
trim-failed w fault ReadFault before after h = h.1
trim-failed w fault WriteFault before after h = absurd (not-trim fault WriteFault h.0)
trim-failed w fault NoMemory before after h = inl h.1
trim-failed w fault (Text line) before after h = absurd (not-trim fault (Text line) h.0)

trim-of : (w : World) (given : Result (List ℕ) RecordFault) (status : ReplayStatus) (before after : Option (List ℕ)) → ((front : List ℕ) → given ≡ Ok front → IsCutRecord w front)
    → HasOutput status (given_outcome given) before after → IsTrueTrim w status before after
trim-of w (Ok front) status before after cut h = trim-by w front status before after (cut front refl) h
trim-of w (Err fault) status before after cut h = trim-failed w fault status before after h

-- what is made of the file that is trimmed is the outcome of its octets
trim-tells : (command : Option Command) (files : Option (List (List ℕ × List ℕ))) (octets : List ℕ) → Trims files command octets → TellsOf files command (trim_outcome octets)
trim-tells None files octets r = absurd r
trim-tells (Some (check tailoring)) files octets r = absurd r
trim-tells (Some (encode tailoring name)) files octets r = absurd r
trim-tells (Some (generate seed rounds)) files octets r = absurd r
trim-tells (Some (on_record command tailoring name)) files octets r = absurd r
trim-tells (Some (trim name)) files octets r = ap (option_map trim_outcome) r

-- what the laws on trimmed records say: what `trim` leaves is the record of the world up to a step
pub record Cuts : Type 0 where
  pub trims : (octets front : List ℕ) → trimmed_octets octets ≡ Ok front → trimmed octets ≡ Some front
  pub cut : (w : World) (octets front : List ℕ) (n : ℕ) → IsOwnRecord w octets → trimmed (take n octets) ≡ Some front → (v : World) × IsFrontOf v w × IsOwnRecord v front

cut-front : Cuts → (w : World) (octets front : List ℕ) (n : ℕ) → IsOwnRecord w octets → trimmed_octets (take n octets) ≡ Ok front → IsCutRecord w front
cut-front cuts w octets front n own is =
    let v = cuts.cut w octets front n own (cuts.trims (take n octets) front is) in
    record { part = v.0; is_front = v.1; own = v.2 }

-- what is trimmed of a first part of a record with a journal is the record of the world of its lines up to a step
pub true-trim : Cuts → (w : World) (octets : List ℕ) (n : ℕ) (command : Option Command) (files : Option (List (List ℕ × List ℕ))) (status : ReplayStatus) (before after : Option (List ℕ))
    → ((outcome : Outcome) → TellsOf files command outcome → HasOutput status outcome before after)
    → IsOwnRecord w octets → Trims files command (take n octets) → IsTrueTrim w status before after
true-trim cuts w octets n command files status before after output own words =
    trim-of w (trimmed_octets (take n octets)) status before after (λ front is. cut-front cuts w octets front n own is)
    (output (trim_outcome (take n octets)) (trim-tells command files (take n octets) words))
