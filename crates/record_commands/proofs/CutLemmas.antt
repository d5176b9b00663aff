-- A record is read to its end, or to where it is cut.
use Rattle.std.proofs.Common.{◌≡◌, inl, inr, ℕ, List, Option, Some, None, Result, Ok, Err, refl, sym, ap, subst, ◌∙◌}
use Rattle.std.specs.Prelude.{IsSome, MatchResult}
use Rattle.session_record.specs.Records.{Entries, fault_in}
use Rattle.session_record.specs.Reading.{Reading, Answers, no_entries, reading_at_start, to_come}
use Rattle.session_record.specs.declared.header.Header.{Header}
use Rattle.session_record.specs.declared.entry.Entry.{Entry}
use Rattle.session_record.specs.declared.entry.RecordFault.{RecordFault}
use Rattle.session_record.specs.declared.entry.RecordFault.TheVariants.{Cut}
use Rattle.program_edge.proofs.ReaderLemmas.{read_out_at_end}
use Rattle.record_commands.specs.Trimming.{HasReadWhole, IsCut, IsFirstWhole, IsKeptTo, IsReadTo, IsReadToCut, TakesWhole}
use Rattle.record_commands.proofs.ToComeLemmas.{none_told}

-- behind an entry the fault is the same
same_fault : (before after : Result (Header × Entries) RecordFault) (e : Entry) → IsFirstWhole (Ok (Some e)) before after → fault_in after ≡ fault_in before
same_fault before (Ok left) e first = sym (ap fault_in first.1)
same_fault before (Err f) e first = absurd first

pub entry_on : (r s : Reading) (rest left : Option (List ℕ)) (e : Entry) → TakesWhole (Ok (Some e)) r rest s left → IsReadToCut (Ok (Some e)) r rest s left
entry_on r s None left e takes = tt
entry_on r s (Some was) None e takes = absurd (none_told takes.1)
entry_on r s (Some was) (Some now) e takes = (same_fault (to_come r was) (to_come s now) e takes.0, refl)

-- at the end the input was read out
pub end_on : (r s : Reading) (rest left : Option (List ℕ)) → Answers (Ok None) r rest s left → IsSome s.header → IsReadToCut (Ok None) r rest s left
end_on r s None left answer header = tt
end_on r s (Some was) left answer header = inl (read_out_at_end r s (Some was) left answer header)

cut_in : (offset : ℕ) (before : Result (Header × Entries) RecordFault) → MatchResult before (λ b. b.1 ≡ no_entries (Some (Cut offset))) (λ f. ⊥) → IsCut (fault_in before)
cut_in offset (Ok b) is = subst IsCut (sym (ap (λ (es : Entries). es.fault) is)) tt
cut_in offset (Err f) is = absurd is

-- at a cut it is cut
pub cut_on : (offset : ℕ) (r s : Reading) (rest left : Option (List ℕ)) → Answers (Err (Cut offset)) r rest s left → IsReadToCut (Ok None) r rest s left
cut_on offset r s None left answer = tt
cut_on offset r s (Some was) None answer = absurd (none_told answer.1)
cut_on offset r s (Some was) (Some now) answer = inr (cut_in offset (to_come r was) answer.0.1)

-- What was read since a first entry, if there is one, with the next one: nothing, or up to there.
abbrev pub ReadsTo : Option Entry → Reading → Option (List ℕ) → Option Entry → Reading → Option (List ℕ) → Type 0
ReadsTo None start was next s rest = (next ≡ None) × (rest ≡ was)
ReadsTo (Some e) start was next s rest = IsReadToCut (Ok next) start was s rest

pub reads_start : (first : Option Entry) (r : Reading) (was : Option (List ℕ)) → ReadsTo first r was first r was
reads_start None r was = (refl, refl)
reads_start (Some e) r None = tt
reads_start (Some e) r (Some a) = (refl, refl)

then_on : (start s u : Reading) (was rest left : Option (List ℕ)) (e : Entry) (next : Option Entry) → IsReadToCut (Ok (Some e)) start was s rest → IsReadToCut (Ok next) s rest u left
    → IsReadToCut (Ok next) start was u left
then_on start s u None rest left e None one two = tt
then_on start s u None rest left e (Some next) one two = tt
then_on start s u (Some a) None left e next one two = absurd (none_told one.1)
then_on start s u (Some a) (Some b) left e None one two = subst (λ f. IsReadTo f left) one.0 two
then_on start s u (Some a) (Some b) None e (Some next) one two = absurd (none_told two.1)
then_on start s u (Some a) (Some b) (Some c) e (Some next) one two = (two.0 ∙ one.0, refl)

no_next : (e : Entry) → ◌≡◌ {A = Option Entry} (Some e) None → ⊥
no_next e is = cc

pub reads_next : (first : Option Entry) (start s u : Reading) (was rest left : Option (List ℕ)) (e : Entry) (next : Option Entry) → ReadsTo first start was (Some e) s rest
    → IsReadToCut (Ok next) s rest u left → ReadsTo first start was next u left
reads_next None start s u was rest left e next reads two = absurd (no_next e reads.0)
reads_next (Some x) start s u was rest left e next reads two = then_on start s u was rest left e next reads two

pub reads_end : (first : Option Entry) (start s : Reading) (was rest : Option (List ℕ)) → ReadsTo first start was None s rest → IsKeptTo first start was rest
reads_end None start s was rest reads = reads.1
reads_end (Some x) start s was rest reads = reads

-- the whole record
pub kept_whole : (r s : Reading) (was mid left : Option (List ℕ)) (first : Option Entry) → r ≡ reading_at_start → IsReadToCut (Ok first) r was s mid → IsKeptTo first s mid left → HasReadWhole was left
kept_whole r s None mid left first start one two = tt
kept_whole r s (Some a) mid left None start one two =
    subst (λ o. IsReadTo (fault_in (to_come reading_at_start a)) o) (sym two) (subst (λ (u : Reading). IsReadTo (fault_in (to_come u a)) mid) start one)
kept_whole r s (Some a) None left (Some e) start one two = absurd (none_told one.1)
kept_whole r s (Some a) (Some b) left (Some e) start one two = subst (λ (u : Reading). IsReadTo (fault_in (to_come u a)) left) start (subst (λ f. IsReadTo f left) one.0 two)
