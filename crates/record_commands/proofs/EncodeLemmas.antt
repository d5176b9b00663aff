-- The lines of a text, one after the other, and the packets that are put.
use Rattle.std.proofs.Common.{arith, ◌≡◌, ◌+◌, ◌<◌, ◌≤◌, zero-le, ℕ, Bool, true, false, List, [], ◌∷◌, ◌++◌, length, take, drop, map, Option, Some, None, Result, Ok, Err, refl, sym, ap, subst, ◌∙◌, append_assoc, append-nil, add-one}
use Rattle.std.specs.Prelude.{◌==◌, IfSome, OnOk, flat_map, if◌then◌else◌}
use Rattle.hk_base.specs.TailoringParts.{TailoringParts}
use Rattle.session_record.specs.Records.{entry_octets}
use Rattle.session_record.specs.declared.entry.Entry.TheVariants.{Sent}
use Rattle.program_edge.specs.Faults.{IsOfLines}
use Rattle.program_edge.specs.Inputs.{IsReadOut, IsReadOutIfWhole, IsWhole}
use Rattle.record_commands.specs.Packets.{line_packet}
use Rattle.record_commands.specs.Encoding.{longer_first, lines_by, lines, line_length, packets_by, packets, with_packets, most_lines_octets, record_of_lines, encoded, Encodes, IsPut, IsLinePut}
use Rattle.program_edge.specs.declared.fault.RunFault.{RunFault}
use Rattle.program_edge.specs.declared.fault.RunFault.TheVariants.{Tailoring, Record, Line, ReadFault, WriteFault, NoMemory}

pub length_within : (text : List ℕ) → line_length text ≤ length text
length_within [] = zero-le
length_within (octet ∷ rest) = by_feed (octet == 10) (length_within rest)
  where
    by_feed : (feed : Bool) → line_length rest ≤ length rest → (if feed then 0 else line_length rest + 1) ≤ length (octet ∷ rest)
    by_feed true within = zero-le
    by_feed false within = omega (arith, within)

-- a text begins with its first line
first_line : (octet : ℕ) (rest : List ℕ)
    → lines (octet ∷ rest) ≡ take (line_length (octet ∷ rest)) (octet ∷ rest) ∷ lines (drop 1 (drop (line_length (octet ∷ rest)) (octet ∷ rest)))
first_line octet [] = by_feed (octet == 10)
  where
    by_feed : (feed : Bool) → lines_by feed octet [] ≡ take (if feed then 0 else 0 + 1) (octet ∷ []) ∷ lines (drop 1 (drop (if feed then 0 else 0 + 1) (octet ∷ [])))
    by_feed true = refl
    by_feed false = refl
first_line octet (next ∷ rest) = by_feed (octet == 10) (next ∷ rest) (ap (longer_first octet) (first_line next rest))
  where
    by_feed : (feed : Bool) (xs : List ℕ) → longer_first octet (lines xs) ≡ (octet ∷ take (line_length xs) xs) ∷ lines (drop 1 (drop (line_length xs) xs))
        → lines_by feed octet (lines xs) ≡ take (if feed then 0 else line_length xs + 1) (octet ∷ xs) ∷ lines (drop 1 (drop (if feed then 0 else line_length xs + 1) (octet ∷ xs)))
    by_feed true xs longer = refl
    by_feed false xs longer = rw add-one longer

-- a text that is split behind its first line
pub begins : (text front back after : List ℕ) (end : ℕ) → 0 < length text → end ≡ line_length text → front ≡ take end text → back ≡ drop end text → after ≡ drop 1 back
    → lines text ≡ front ∷ lines after
begins [] front back after end some at is_front is_back is_after = absurd (omega arith)
begins (octet ∷ rest) front back after end some at is_front is_back is_after =
    let text : List ℕ = octet ∷ rest in
    first_line octet rest
    ∙ (ap (λ n. take n (octet ∷ rest) ∷ lines (drop 1 (drop n (octet ∷ rest)))) (sym at)
    ∙ (ap (λ xs. xs ∷ lines (drop 1 (drop end (octet ∷ rest)))) (sym is_front)
    ∙ (ap (λ xs. front ∷ lines (drop 1 xs)) (sym is_back) ∙ ap (λ xs. front ∷ lines xs) (sym is_after))))

pub nothing_behind : (xs : List ℕ) → length xs ≡ 0 → xs ≡ drop 1 xs
nothing_behind [] none = refl
nothing_behind (x ∷ xs) none = absurd (omega (arith, none))

-- a packet more is put
pub put_more : (kept more : List ℕ) (number : ℕ) (packet : Option (List ℕ)) (rest : Result (List (List ℕ)) ℕ) (sent : List ℕ) → packet ≡ Some sent → more ≡ kept ++ entry_octets (Sent sent)
    → with_packets more rest ≡ with_packets kept (packets_by number packet rest)
put_more kept more number packet rest sent is put = ap (λ xs. with_packets xs rest) put ∙ (by_rest rest ∙ ap (λ p. with_packets kept (packets_by number p rest)) (sym is))
  where
    by_rest : (r : Result (List (List ℕ)) ℕ) → with_packets (kept ++ entry_octets (Sent sent)) r ≡ with_packets kept (packets_by number (Some sent) r)
    by_rest (Ok ps) = ap Ok (append_assoc kept (entry_octets (Sent sent)) (flat_map entry_octets (map Sent ps)))
    by_rest (Err n) = refl

-- one line more was put
pub line_more : (t : TailoringParts) (number : ℕ) (line : List ℕ) (after text : List ℕ) (kept more : List ℕ) → lines text ≡ line ∷ lines after
    → IsLinePut (Ok tt) number (line_packet t number line) kept more
    → with_packets more (packets t (number + 1) (lines after)) ≡ with_packets kept (packets t number (lines text))
line_more t number line after text kept more is put =
    put_more kept more number (line_packet t number line) (packets t (number + 1) (lines after)) put.0 put.1 put.2
    ∙ ap (λ ls. with_packets kept (packets t number ls)) (sym is)

-- a line is refused, or memory ran out
pub line_ends : (t : TailoringParts) (number : ℕ) (line : List ℕ) (after text : List ℕ) (kept more now : List ℕ) (fault : RunFault) → lines text ≡ line ∷ lines after
    → IsLinePut (Err fault) number (line_packet t number line) kept more
    → IsPut (Err fault) now (with_packets kept (packets t number (lines text)))
line_ends t number line after text kept more now (Line refused) is put =
    ap (λ ls. with_packets kept (packets t number ls)) is
    ∙ (ap (λ p. with_packets kept (packets_by number p (packets t (number + 1) (lines after)))) put.0 ∙ ap Err (sym put.1))
line_ends t number line after text kept more now ReadFault is put = absurd put
line_ends t number line after text kept more now NoMemory is put = tt
line_ends t number line after text kept more now (Tailoring f) is put = absurd put
line_ends t number line after text kept more now (Record f) is put = absurd put
line_ends t number line after text kept more now WriteFault is put = absurd put

-- no line is left
pub lines_end : (t : TailoringParts) (number : ℕ) (text kept : List ℕ) → length text ≡ 0 → with_packets kept (packets t number (lines text)) ≡ Ok kept
lines_end t number [] kept none = ap Ok (append-nil kept)
lines_end t number (x ∷ xs) kept none = absurd (omega (arith, none))

-- a file that is too long
pub too_long_encoded : (t : TailoringParts) (was : Option (List ℕ)) → IfSome was (λ octets. IsWhole most_lines_octets octets (Ok None)) → IfSome was (λ octets. encoded t octets ≡ Err 0)
unfolding encoded
too_long_encoded t None whole = tt
too_long_encoded t (Some octets) whole = ap (λ b. if b then Err 0 else record_of_lines t octets) whole

-- a file that is read whole
pub whole_encoded : (t : TailoringParts) (was : Option (List ℕ)) (text : List ℕ) (result : Result (List ℕ) RunFault) → IfSome was (λ octets. IsWhole most_lines_octets octets (Ok (Some text)))
    → Encodes result (record_of_lines t text) → IfSome was (λ octets. Encodes result (encoded t octets))
unfolding encoded
whole_encoded t None text result whole made = tt
whole_encoded t (Some octets) text result whole made =
    let is : record_of_lines t text ≡ encoded t octets =
    ap (record_of_lines t) whole.0 ∙ sym (ap (λ b. if b then Err 0 else record_of_lines t octets) whole.1) in
    subst (λ given. Encodes result given) is made

-- no record is made for a line that is refused, or for a cause that stands alone
pub encodes_causes : (result : Result (List ℕ) RunFault) (given : Result (List ℕ) ℕ) → Encodes result given → IsOfLines result
encodes_causes (Ok octets) given made = tt
encodes_causes (Err (Line line)) given made = tt
encodes_causes (Err ReadFault) given made = tt
encodes_causes (Err NoMemory) given made = tt
encodes_causes (Err (Tailoring f)) given made = absurd made
encodes_causes (Err (Record f)) given made = absurd made
encodes_causes (Err WriteFault) given made = absurd made

-- a file that was found whole was read to its end
pub read_whole : (text : List ℕ) (found : Option (List ℕ)) (was now : Option (List ℕ)) → found ≡ Some text → IsReadOutIfWhole (Ok found) was now → IsReadOut was now
read_whole text None was now is out = absurd (cc is)
read_whole text (Some octets) was now is out = out

-- what holds anyway holds on Ok
pub on_any : {T E : Type 0} (r : Result T E) (P : Type 0) → P → OnOk r P
on_any (Ok x) P holds = holds
on_any (Err e) P holds = tt
