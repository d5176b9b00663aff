-- What is still to come of a record whose header was read.
use Rattle.std.proofs.Common.{◌≡◌, ℕ, List, ◌++◌, Option, Some, None, Result, Ok, sym, ap, ◌∙◌}
use Rattle.std.specs.Prelude.{IsSome}
use Rattle.std.specs.Result.{result_unwrap_or}
use Rattle.session_record.specs.Records.{Entries, entries_from}
use Rattle.session_record.specs.Reading.{Reading, no_entries, read_on, to_come}
use Rattle.session_record.specs.declared.header.Header.{Header}
use Rattle.session_record.specs.declared.entry.RecordFault.{RecordFault}

pub none_told : IsSome {T = List ℕ} None → ⊥
none_told e = cc

same_ok : (x y : Header × Entries) → ◌≡◌ {A = Result (Header × Entries) RecordFault} (Ok x) (Ok y) → x.0 ≡ y.0
same_ok x y e = ap (λ r. (result_unwrap_or r x).0) e

same_header : (h : Header) (fault : Option RecordFault) (room offset : ℕ) (octets : List ℕ) (b : Header × Entries) → read_on (Some h) fault room offset octets ≡ Ok b → b.0 ≡ h
same_header h None room offset octets b e = sym (same_ok (h, entries_from room offset octets) b e)
same_header h (Some fault) room offset octets b e = sym (same_ok (h, no_entries (Some fault)) b e)

pub header_of_rest : (s : Reading) (a : List ℕ) (b : Header × Entries) (h : Header) → s.header ≡ Some h → to_come s a ≡ Ok b → b.0 ≡ h
header_of_rest s a b h is e = same_header h s.fault s.room s.offset (s.held ++ a) b (ap (λ o. read_on o s.fault s.room s.offset (s.held ++ a)) (sym is) ∙ e)
