-- What comes of a record, by its first problem.
use Rattle.std.proofs.Common.{◌≡◌, ℕ, List, [], map, Option, Some, None, Result, Ok, Err, refl, ap, sym, ◌∙◌, append-nil}
use Rattle.std.specs.Prelude.{reverse}
use Rattle.hk_base.specs.TailoringParts.{TailoringParts}
use Rattle.pus_messages.specs.Protocol.{Protocol}
use Rattle.pus_messages.specs.Messages.{protocol}
use Rattle.session_record.specs.Records.{Entries, read_record}
use Rattle.session_record.specs.declared.header.Header.{Header}
use Rattle.session_record.specs.declared.entry.Entry.{Entry}
use Rattle.session_record.specs.declared.entry.RecordFault.{RecordFault}
use Rattle.session_texts.specs.Sessions.{problem_of, record_problem}
use Rattle.session_texts.specs.Follow.{follow_text, followed}
use Rattle.session_texts.specs.declared.problem.RecordProblem.{RecordProblem}
use Rattle.followed_records.specs.Told.{taken_entries, told_until, told_of, told, told_text}

until_problem : (p : Protocol) (h : Header) (list : List (ℕ × Entry)) (found : Option RecordProblem) → (told_until p h [] list found).problem ≡ found
until_problem p h list None = refl
until_problem p h list (Some q) = refl

of_problem : (p : Protocol) (r : Result (Header × Entries) RecordFault) → (told_of p r).problem ≡ problem_of p r
of_problem p (Err f) = refl
of_problem p (Ok x) = until_problem p x.0 x.1.list (problem_of p (Ok x))

pub problem_is : (t : TailoringParts) (octets : List ℕ) → (told t octets).problem ≡ record_problem (protocol t) octets
unfolding told
problem_is t octets = of_problem (protocol t) (read_record octets)

until_is : (t : TailoringParts) (octets : List ℕ) (x : Header × Entries) (found : Option RecordProblem) → read_record octets ≡ Ok x → record_problem (protocol t) octets ≡ found
    → told t octets ≡ told_until (protocol t) x.0 [] x.1.list found
unfolding told
until_is t octets x found is problem =
    let p = protocol t in
    ap (told_of p) is ∙ ap (told_until p x.0 [] x.1.list) (sym (ap (problem_of p) is) ∙ problem)

pub whole_is : (t : TailoringParts) (octets : List ℕ) (x : Header × Entries) → read_record octets ≡ Ok x → record_problem (protocol t) octets ≡ None
    → told_text (told t octets) ≡ follow_text (protocol t) x.0 (map (λ e. e.1) x.1.list)
whole_is t octets x is none = ap told_text (until_is t octets x None is none)

pub part_is : (t : TailoringParts) (octets : List ℕ) (x : Header × Entries) (found : RecordProblem) → read_record octets ≡ Ok x → record_problem (protocol t) octets ≡ Some found
    → told_text (told t octets) ≡ followed (protocol t) x.0 (reverse (taken_entries (protocol t) x.0 [] x.1.list))
part_is t octets x found is some = ap told_text (until_is t octets x (Some found) is some) ∙ append-nil (followed (protocol t) x.0 (reverse (taken_entries (protocol t) x.0 [] x.1.list)))
