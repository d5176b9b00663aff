-- A record from its first octet on.
use Rattle.std.proofs.Common.{◌≡◌, ◌≤◌, ℕ, List, [], ◌++◌, length, Option, Some, None, Result, Ok, Err, refl, sym, ap, subst, ◌∙◌}
use Rattle.std.specs.Prelude.{IfSome, IsSome, MatchResult}
use Rattle.std.specs.Result.{result_unwrap_or}
use Rattle.hk_base.specs.TailoringParts.{TailoringParts}
use Rattle.session_record.specs.Records.{Entries, entries_from, entry_before, read_record}
use Rattle.session_record.specs.Reading.{Reading, Answers, GoesOn, no_entries, read_on, reading_at_start, to_come}
use Rattle.session_record.specs.declared.header.Header.{Header}
use Rattle.session_record.specs.declared.entry.Entry.{Entry}
use Rattle.session_record.specs.declared.entry.RecordFault.{RecordFault}
use Rattle.decommutator.specs.Standing.{Decommutation}
use Rattle.decommutator.specs.Following.{after_followed, closing_text}
use Rattle.followed_records.specs.Told.{Told, told, told_text}
use Rattle.followed_records.specs.Following.{told_end, told_entry, told_rest, told_from, new_decommutation, Closes, Follows, FollowsAll, IsUnfailed, WithRoom}
use Rattle.followed_records.specs.declared.fault.FollowingFault.{FollowingFault}
use Rattle.followed_records.specs.declared.fault.FollowingFault.TheVariants.{Memory}
use Rattle.followed_records.proofs.WrittenLemmas.{written_none, prefix_none}
use Rattle.followed_records.proofs.ToldLemmas.{IsPromised, start_of, told_start}
use Rattle.followed_records.proofs.ReadingLemmas.{none_told, end_next}
use Rattle.followed_records.proofs.FollowingLemmas.{behind_all, closes}

same_ok : (x y : Header × Entries) → ◌≡◌ {A = Result (Header × Entries) RecordFault} (Ok x) (Ok y) → x.0 ≡ y.0
same_ok x y e = ap (λ r. (result_unwrap_or r x).0) e

header_read : (h : Header) (fault : Option RecordFault) (room offset : ℕ) (octets : List ℕ) (b : Header × Entries) → read_on (Some h) fault room offset octets ≡ Ok b → b.0 ≡ h
header_read h None room offset octets b e = sym (same_ok (h, entries_from room offset octets) b e)
header_read h (Some fault) room offset octets b e = sym (same_ok (h, no_entries (Some fault)) b e)

-- a header that was read is that of what is still to come
header_of_rest : (r : Reading) (a : List ℕ) (b : Header × Entries) (h : Header) → r.header ≡ Some h → to_come r a ≡ Ok b → b.0 ≡ h
header_of_rest r a b h is e = header_read h r.fault r.room r.offset (r.held ++ a) b (ap (λ o. read_on o r.fault r.room r.offset (r.held ++ a)) (sym is) ∙ e)

-- what stands under the header that was read
abbrev pub IsNewUnder : TailoringParts → Option Header → Decommutation → Type 0
IsNewUnder t header d = IfSome header (λ h. d ≡ new_decommutation t h) × IsSome header

new_is : (t : TailoringParts) (header : Option Header) (r : Reading) (a : List ℕ) (b : Header × Entries) (d : Decommutation) → r.header ≡ header → IsNewUnder t header d → to_come r a ≡ Ok b
    → new_decommutation t b.0 ≡ d
new_is t None r a b d is new e = absurd (none new.1)
  where
    none : IsSome {T = Header} None → ⊥
    none x = cc
new_is t (Some h) r a b d is new e = ap (new_decommutation t) (header_of_rest r a b h is e) ∙ sym new.0

-- want of memory before anything was written
pub nothing_yet : (T : List ℕ → Told) (rest left before : Option (List ℕ)) → IfSome rest (λ octets. Follows (Err Memory) T octets left before before)
nothing_yet T None left before = tt
nothing_yet T (Some octets) left before = prefix_none before (told_text (T octets))

-- a record without entries
no_entry : IsPromised → (t : TailoringParts) (octets a : List ℕ) (q : Reading) (d : Decommutation) (r : Result (Header × Entries) RecordFault) → read_record octets ≡ r → IsNewUnder t q.header d
    → to_come q a ≡ r → MatchResult r (λ b. b.1 ≡ no_entries None) (λ f. ⊥) → told t octets ≡ told_end d None
no_entry laws t octets a q d (Err f) is new come h = absurd h
no_entry laws t octets a q d (Ok b) is new come h =
    told_start laws t octets
    ∙ (ap (λ r. told_rest (start_of t r) r) is
    ∙ (end_next (new_decommutation t b.0) (Ok b) h
    ∙ ap (λ (y : Decommutation). told_end y None) (new_is t q.header q a b d refl new come)))

pub none_all : IsPromised → (t : TailoringParts) (rest left before : Option (List ℕ)) (q : Reading) (d : Decommutation) → Answers (Ok None) reading_at_start rest q left → IsNewUnder t q.header d
    → IfSome rest (λ octets. FollowsAll (Ok d) (told t) octets left before before)
none_all laws t None left before q d answer new = tt
none_all laws t (Some octets) None before q d answer new = absurd (none_told answer.1)
none_all laws t (Some octets) (Some a) before q d answer new = ([], no_entry laws t octets a q d (read_record octets) refl new answer.0.0 answer.0.1, written_none before)

pub none_closes : IsPromised → (t : TailoringParts) (rest left before after : Option (List ℕ)) (q : Reading) (d : Decommutation) (result : Result Unit FollowingFault)
    → Answers (Ok None) reading_at_start rest q left → IsNewUnder t q.header d → Closes result (closing_text d) before after → IfSome rest (λ octets. Follows result (told t) octets left before after)
none_closes laws t None left before after q d result answer new end = tt
none_closes laws t (Some octets) left before after q d result answer new end =
    closes (told t) octets d left left before before after result (none_all laws t (Some octets) left before q d answer new) end

none_size : (d : Decommutation) (x : Told) (free : ℕ) → x ≡ told_end d None → length (told_text x) ≤ free → length (closing_text d) ≤ free
none_size d x free is enough = subst (λ (y : Told). length (told_text y) ≤ free) is enough

pub none_room : IsPromised → (t : TailoringParts) (rest left : Option (List ℕ)) (room : Option ℕ) (q : Reading) (d : Decommutation) (result : Result Unit FollowingFault)
    → Answers (Ok None) reading_at_start rest q left → IsNewUnder t q.header d → IfSome room (λ free. length (closing_text d) ≤ free → IsUnfailed result) → WithRoom (told t) rest room (IsUnfailed result)
none_room laws t None left room q d result answer new end = tt
none_room laws t (Some octets) left None q d result answer new end = tt
none_room laws t (Some octets) None (Some free) q d result answer new end = absurd (none_told answer.1)
none_room laws t (Some octets) (Some a) (Some free) q d result answer new end =
    λ enough. end (none_size d (told t octets) free (no_entry laws t octets a q d (read_record octets) refl new answer.0.0 answer.0.1) enough)

-- a record with a first entry
first_entry : IsPromised → (t : TailoringParts) (octets more : List ℕ) (q : Reading) (d : Decommutation) (x : ℕ × Entry) (after : Result (Header × Entries) RecordFault) → to_come q more ≡ after → IsNewUnder t q.header d
    → MatchResult after (λ left. read_record octets ≡ Ok (left.0, entry_before x.0 x.1 left.1)) (λ f. ⊥) → told t octets ≡ told_entry d x.0 x.1 (told_rest (after_followed d x.1) after)
first_entry laws t octets more q d x (Err f) come new h = absurd h
first_entry laws t octets more q d x (Ok left) come new h =
    told_start laws t octets
    ∙ (ap (λ r. told_rest (start_of t r) r) h
    ∙ ap (λ (y : Decommutation). told_entry y x.0 x.1 (told_rest (after_followed y x.1) (Ok left))) (new_is t q.header q more left d refl new come))

pub first_follows : IsPromised → (t : TailoringParts) (rest left end before after : Option (List ℕ)) (q : Reading) (d : Decommutation) (x : ℕ × Entry) (result : Result Unit FollowingFault)
    → GoesOn (Ok (Some x)) reading_at_start rest q left → IsNewUnder t q.header d
    → IfSome left (λ octets. Follows result (λ more. told_from d x.0 x.1 q more) octets end before after) → IfSome rest (λ octets. Follows result (told t) octets end before after)
first_follows laws t None left end before after q d x result onward new h = tt
first_follows laws t (Some octets) None end before after q d x result onward new h = absurd (none_told onward.1)
first_follows laws t (Some octets) (Some a) end before after q d x result onward new h =
    behind_all (told t) (λ more. told_from d x.0 x.1 q more) octets onward.0.0 a [] end before before after result onward.0.1
    (λ more. first_entry laws t (onward.0.0 ++ more) more q d x (to_come q more) refl new (onward.0.2 more)) (written_none before) h

pub first_room : IsPromised → (t : TailoringParts) (rest left : Option (List ℕ)) (room : Option ℕ) (q : Reading) (d : Decommutation) (x : ℕ × Entry) (P : Type 0)
    → Answers (Ok (Some x)) reading_at_start rest q left → IsNewUnder t q.header d → WithRoom (λ more. told_from d x.0 x.1 q more) left room P → WithRoom (told t) rest room P
first_room laws t None left room q d x P answer new h = tt
first_room laws t (Some octets) left None q d x P answer new h = tt
first_room laws t (Some octets) None (Some free) q d x P answer new h = absurd (none_told answer.1)
first_room laws t (Some octets) (Some a) (Some free) q d x P answer new h =
    λ enough. h (subst (λ (y : Told). length (told_text y) ≤ free) (first_entry laws t octets a q d x (to_come q a) refl new answer.0) enough)
