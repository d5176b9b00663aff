-- When a reader that found the end of a record has read its input to the end. Crates above use it too.
use Rattle.std.proofs.Common.{◌≡◌, ℕ, zero, suc, Bool, true, false, List, [], ◌∷◌, ◌++◌, Option, Some, None, Result, Ok, Err, refl, ap, ◌∙◌}
use Rattle.std.specs.Prelude.{IsSome, MatchResult, if◌then◌else◌}
use Rattle.std.specs.Result.{result_unwrap_or}
use Rattle.session_record.specs.Records.{Entries, entries_by, entries_from, entry_after_kind, entry_of_kind, entry_size}
use Rattle.session_record.specs.Reading.{Reading, Answers, no_entries, read_on, to_come}
use Rattle.session_record.specs.declared.header.Header.{Header}
use Rattle.session_record.specs.declared.entry.Entry.{Entry}
use Rattle.session_record.specs.declared.entry.RecordFault.{RecordFault}
use Rattle.session_record.specs.declared.entry.RecordFault.TheVariants.{Cut, TooLong, TooManyEntries}
use Rattle.program_edge.specs.Inputs.{IsReadOut}

none_told : IsSome {T = List ℕ} None → ⊥
none_told e = cc

no_header : IsSome {T = Header} None → ⊥
no_header e = cc

chosen : (short long cut : Bool) (offset : ℕ) (e : Entry)
    → ◌≡◌ {A = Result (Option Entry) RecordFault} (if short then Err (Cut offset) else if long then Err (TooLong offset) else if cut then Err (Cut offset) else Ok (Some e)) (Ok None) → ⊥
chosen true long cut offset e is = cc
chosen false true cut offset e is = cc
chosen false false true offset e is = cc
chosen false false false offset e is = cc

-- octets that begin an entry have one, or a fault
begun : (offset kind : ℕ) (rest : List ℕ) (make : Option (List ℕ → Entry)) → entry_after_kind offset kind rest make ≡ Ok None → ⊥
begun offset kind rest None is = cc
begun offset kind rest (Some make) is = chosen _ _ _ offset _ is

some_entry : (offset : ℕ) (next : Result (Option Entry) RecordFault) (later : Entry → Entries) → (next ≡ Ok None → ⊥) → entries_by offset next later ≡ no_entries None → ⊥
some_entry offset (Err fault) later never is = let f = ap (λ (es : Entries). es.fault) is in cc
some_entry offset (Ok None) later never is = never refl
some_entry offset (Ok (Some e)) later never is = let l = ap (λ (es : Entries). es.list) is in cc

-- octets without an entry and without a fault are none
behind_none : (room offset : ℕ) (octets : List ℕ) → entries_from room offset octets ≡ no_entries None → octets ≡ []
behind_none room offset [] is = refl
behind_none zero offset (kind ∷ rest) is = absurd (too_many (ap (λ (es : Entries). es.fault) is))
  where
    too_many : ◌≡◌ {A = Option RecordFault} (Some (TooManyEntries offset)) None → ⊥
    too_many e = cc
behind_none (suc room) offset (kind ∷ rest) is = absurd (some_entry offset (entry_after_kind offset kind rest (entry_of_kind kind)) _ (begun offset kind rest (entry_of_kind kind)) is)

same_rest : (h : Header) (es : Entries) (x : Header × Entries) → ◌≡◌ {A = Result (Header × Entries) RecordFault} (Ok (h, es)) (Ok x) → es ≡ x.1
same_rest h es x e = ap (λ (r : Result (Header × Entries) RecordFault). (result_unwrap_or {T = Header × Entries} r (h, es)).1) e

nothing_after : (held now : List ℕ) → held ++ now ≡ [] → now ≡ []
nothing_after [] now is = is
nothing_after (x ∷ xs) now is = absurd (cc is)

at_end : (header : Option Header) (fault : Option RecordFault) (room offset : ℕ) (held now : List ℕ) (before : Result (Header × Entries) RecordFault) → IsSome header
    → read_on header fault room offset (held ++ now) ≡ before → MatchResult before (λ b. b.1 ≡ no_entries None) (λ f. ⊥) → now ≡ []
at_end None fault room offset held now before some is end = absurd (no_header some)
at_end (Some h) fault room offset held now (Err f) some is end = absurd end
at_end (Some h) None room offset held now (Ok x) some is end =
    nothing_after held now (behind_none room offset (held ++ now) (same_rest h (entries_from room offset (held ++ now)) x is ∙ end))
at_end (Some h) (Some f) room offset held now (Ok x) some is end =
    let e = ap (λ (es : Entries). es.fault) (same_rest h (no_entries (Some f)) x is ∙ end) in absurd (cc e)

-- a reader that answers that nothing comes any more has read its input to the end
pub read_out_at_end : (r s : Reading) (rest left : Option (List ℕ)) → Answers (Ok None) r rest s left → IsSome s.header → IsReadOut rest left
read_out_at_end r s None left answer some = tt
read_out_at_end r s (Some was) None answer some = absurd (none_told answer.1)
read_out_at_end r s (Some was) (Some now) answer some =
    ap Some (at_end s.header s.fault s.room s.offset s.held now (to_come r was) some answer.0.0 answer.0.1)

-- what was told and is told still, and read out now, was read out since
pub read_out_since : (was mid now : Option (List ℕ)) → (IsSome was → IsSome mid) → IsReadOut mid now → IsReadOut was now
read_out_since None mid now told out = tt
read_out_since (Some octets) None now told out = absurd (none_told (told refl))
read_out_since (Some octets) (Some rest) now told out = out

-- what was told is told still after an answer
pub told_on : (result : Result (Option (ℕ × Entry)) RecordFault) (r q : Reading) (was mid rest : Option (List ℕ)) → (IsSome was → IsSome mid) → Answers result r mid q rest
    → IsSome was → IsSome rest
told_on result r q was None rest told answer some = absurd (none_told (told some))
told_on result r q was (Some octets) rest told answer some = answer.1
