-- How much a reader takes of a shelf.
use Rattle.std.proofs.Common.{arith, ◌≡◌, ◌+◌, ◌<◌, ◌≤◌, ℕ, zero, suc, List, [], ◌∷◌, ◌++◌, length, take, drop, Bool, true, false, Option, Some, None, Result, Ok, Err, refl, sym, ap, subst, ◌∙◌, length-append}
use Rattle.std.specs.Prelude.{IsSome, IfSome, nat_lt, nat_le, if◌then◌else◌}
use Rattle.std.proofs.lemmas.List.{length-drop, length-take-le, take-append-le}
use Rattle.std.proofs.lemmas.Bool.Decides.{nat_tests}
use Rattle.hk_base.specs.Fields.{number_of}
use Rattle.session_record.specs.Records.{Header, most_octets, entry_of_kind, entry_after_kind, entry_size, held_octets, next_entry}
use Rattle.session_record.specs.Reading.{Reading, IsWithin, AreTaken, TakesFew, HasHeader, Grows, is_settled, KeepsAhead, ahead, is_final, octets_taken, octets_taken_by}
use Rattle.session_record.specs.Steps.{HeldAlone, HeaderTaken, HeaderTakenAt, EntryTaken, behind, is_ready, is_ready_at}
use Rattle.session_record.specs.declared.entry.Entry.{Entry}
use Rattle.session_record.specs.declared.entry.RecordFault.{RecordFault}
use Rattle.session_record.specs.declared.entry.RecordFault.TheVariants.{BadMagic, BadKind, Cut, TooLong, TooManyEntries, ReadFault, Memory}
use Rattle.session_record.proofs.TrimLemmas.{holds}
use Rattle.session_record.proofs.ReadingLemmas.{settled-ready}

-- an entry that isn't there in full is within the record, or its length isn't there yet
cut-few : (offset kind : ℕ) (rest : List ℕ) (make : Option (List ℕ → Entry)) → is_final (entry_after_kind offset kind rest make) ≡ false
    → offset ≤ most_octets → offset + suc (length rest) ≤ most_octets + 4
cut-few offset kind rest None unready within = absurd (cc unready)
cut-few offset kind rest (Some make) unready within =
    by_tests (nat_lt (length rest) 4) (nat_lt most_octets (offset + 5 + number_of (take 4 rest))) (nat_lt (length rest) (4 + number_of (take 4 rest))) refl refl refl unready
  where
    by_tests : (short long cut : Bool) → nat_lt (length rest) 4 ≡ short → nat_lt most_octets (offset + 5 + number_of (take 4 rest)) ≡ long → nat_lt (length rest) (4 + number_of (take 4 rest)) ≡ cut
        → is_final (if short then Err (Cut offset) else if long then Err (TooLong offset) else if cut then Err (Cut offset) else Ok (Some (make (take (number_of (take 4 rest)) (drop 4 rest))))) ≡ false
        → offset + suc (length rest) ≤ most_octets + 4
    by_tests true long cut a b d u = let few : length rest < 4 = grind (arith, nat_tests) in omega (arith, few, within)
    by_tests false true cut a b d u = absurd (cc u)
    by_tests false false true a b d u =
        let few : length rest < 4 + number_of (take 4 rest) = grind (arith, nat_tests) in
        let room : offset + 5 + number_of (take 4 rest) ≤ most_octets = grind (arith, nat_tests) in
        omega (arith, few, room)
    by_tests false false false a b d u = absurd (cc u)

-- what isn't there in full is within the record, but for the kind and length of one entry more
pub unready-few : (room offset : ℕ) (held : List ℕ) → is_final (next_entry room offset held) ≡ false → offset ≤ most_octets → offset + length held ≤ most_octets + 4
unready-few room offset [] unready within = omega (arith, within)
unready-few zero offset (kind ∷ rest) unready within = absurd (cc unready)
unready-few (suc room) offset (kind ∷ rest) unready within = cut-few offset kind rest (entry_of_kind kind) unready within

-- an entry holds as many octets as its length says
found-size : (offset kind : ℕ) (rest : List ℕ) (make : List ℕ → Entry) (e : Entry) → entry_of_kind kind ≡ Some make → entry_after_kind offset kind rest (Some make) ≡ Ok (Some e)
    → length (held_octets e) ≡ number_of (take 4 rest)
found-size offset kind rest make e is found =
    by_tests (nat_lt (length rest) 4) (nat_lt most_octets (offset + 5 + number_of (take 4 rest))) (nat_lt (length rest) (4 + number_of (take 4 rest))) refl found
  where
    by_tests : (short long cut : Bool) → nat_lt (length rest) (4 + number_of (take 4 rest)) ≡ cut
        → (if short then Err (Cut offset) else if long then Err (TooLong offset) else if cut then Err (Cut offset) else Ok (Some (make (take (number_of (take 4 rest)) (drop 4 rest))))) ≡ Ok (Some e)
        → length (held_octets e) ≡ number_of (take 4 rest)
    by_tests true long cut enough found = absurd (cc found)
    by_tests false true cut enough found = absurd (cc found)
    by_tests false false true enough found = absurd (cc found)
    by_tests false false false enough found =
        let size = number_of (take 4 rest) in
        let same : make (take size (drop 4 rest)) ≡ e = cc in
        let held : held_octets e ≡ take size (drop 4 rest) = ap held_octets (sym same) ∙ holds kind make is (take size (drop 4 rest)) in
        let whole : 4 + size ≤ length rest = grind (arith, nat_tests) in
        let left = length-drop 4 rest in
        ap (λ (xs : List ℕ). length xs) held ∙ length-take-le size (drop 4 rest) (omega arith)

after-shorter : (offset kind : ℕ) (rest last : List ℕ) (make : Option (List ℕ → Entry)) (e : Entry) → entry_of_kind kind ≡ make → is_final (entry_after_kind offset kind rest make) ≡ false
    → entry_after_kind offset kind (rest ++ last) make ≡ Ok (Some e) → suc (length rest) < entry_size e
after-shorter offset kind rest last None e is unready found = absurd (cc unready)
after-shorter offset kind rest last (Some make) e is unready found =
    by_tests (nat_lt (length rest) 4) (nat_lt most_octets (offset + 5 + number_of (take 4 rest))) (nat_lt (length rest) (4 + number_of (take 4 rest))) refl refl unready
  where
    by_tests : (short long cut : Bool) → nat_lt (length rest) 4 ≡ short → nat_lt (length rest) (4 + number_of (take 4 rest)) ≡ cut
        → is_final (if short then Err (Cut offset) else if long then Err (TooLong offset) else if cut then Err (Cut offset) else Ok (Some (make (take (number_of (take 4 rest)) (drop 4 rest))))) ≡ false
        → suc (length rest) < entry_size e
    by_tests true long cut a d u = let few : length rest < 4 = grind (arith, nat_tests) in omega (arith, few)
    by_tests false true cut a d u = absurd (cc u)
    by_tests false false true a d u =
        let few : length rest < 4 + number_of (take 4 rest) = grind (arith, nat_tests) in
        let enough : 4 ≤ length rest = grind (arith, nat_tests) in
        let same : number_of (take 4 (rest ++ last)) ≡ number_of (take 4 rest) = ap number_of (take-append-le 4 rest last enough) in
        let size = found-size offset kind (rest ++ last) make e is found ∙ same in
        omega (arith, few, size)
    by_tests false false false a d u = absurd (cc u)

-- an entry is longer than what wasn't all of it
pub unready-shorter : (room offset : ℕ) (held last : List ℕ) (e : Entry) → is_final (next_entry room offset held) ≡ false → next_entry room offset (held ++ last) ≡ Ok (Some e)
    → length held < entry_size e
unready-shorter room offset [] last e unready found = omega arith
unready-shorter zero offset (kind ∷ rest) last e unready found = absurd (cc unready)
unready-shorter (suc room) offset (kind ∷ rest) last e unready found = after-shorter offset kind rest last (entry_of_kind kind) e refl unready found

no_header : (o : Option Header) → o ≡ None → IsSome o → ⊥
no_header None none some = cc some
no_header (Some h) none some = cc none

-- a piece more is read only where what comes next isn't there in full
pub grown-within : (r : Reading) (grown : List ℕ) → r.offset ≤ most_octets → is_ready r ≡ false → IsWithin r → Grows r.most r.held grown → IsWithin (record r { held = grown })
grown-within r grown low unready within grows = by_header r.header refl
  where
    sizes : length grown ≡ length r.held + length grows.0
    sizes = ap (λ (xs : List ℕ). length xs) grows.1 ∙ length-append r.held grows.0

    by_header : (o : Option Header) → r.header ≡ o → IsWithin (record r { held = grown })
    by_header None none =
        let unlong : nat_le 8 (length r.held) ≡ false = sym (ap (λ o. is_ready_at o r.room r.offset r.held) none) ∙ unready in
        let few : length r.held < 8 = grind (arith, nat_tests) in
        record {
          start = within.start;
          all = subst (λ o. octets_taken_by o r.offset grown < most_octets + 5 + r.most) (sym none) (omega (arith, few, sizes, grows.2));
          headed = λ _. omega (arith, few, sizes, grows.2);
          ahead = λ e some found. absurd (no_header r.header none some);
        }
    by_header (Some h) is =
        let unfinal : is_final (next_entry r.room r.offset r.held) ≡ false = sym (ap (λ o. is_ready_at o r.room r.offset r.held) is) ∙ unready in
        let few = unready-few r.room r.offset r.held unfinal low in
        record {
          start = within.start;
          all = subst (λ o. octets_taken_by o r.offset grown < most_octets + 5 + r.most) (sym is) (omega (arith, few, sizes, grows.2));
          headed = λ none. absurd (cc (sym is ∙ none));
          ahead = λ e some found.
              let shorter = unready-shorter r.room r.offset r.held grows.0 e unfinal (sym (ap (next_entry r.room r.offset) grows.1) ∙ found) in
              omega (arith, shorter, sizes, grows.2);
        }

-- the same by a buffer of as many octets
pub grown-fields : (r : Reading) (grown : List ℕ) (size now : ℕ) → r.offset ≤ most_octets → is_ready r ≡ false → IsWithin r → Grows size r.held grown → size ≡ r.most → now ≡ r.most
    → IsWithin (record r { held = grown; most = now })
grown-fields r grown size now low unready within grows size_is now_is =
    let few : length grows.0 ≤ r.most = omega (arith, grows.2, size_is) in
    let Q : ℕ → Type 0 = λ m. IsWithin (record r { held = grown; most = m }) in
    subst Q (sym now_is) (grown-within r grown low unready within (grows.0, grows.1, few))

-- behind an entry as many octets were taken
pub behind-taken : (r : Reading) (size : ℕ) → IsSome r.header → size ≤ length r.held → octets_taken (behind r size) ≡ octets_taken r
behind-taken r size some held = by_header r.header some
  where
    by_header : (o : Option Header) → IsSome o → octets_taken_by o (r.offset + size) (drop size r.held) ≡ octets_taken_by o r.offset r.held
    by_header None some = absurd (cc some)
    by_header (Some h) some = omega (arith, length-drop size r.held, held)

-- behind an entry less than a piece is held
pub behind-within : (r : Reading) (size : ℕ) → IsSome r.header → size ≤ length r.held → length r.held < size + r.most → IsWithin r → IsWithin (behind r size)
behind-within r size some held near within =
    let left = length-drop size r.held in
    record {
      start = λ none. absurd (no_header r.header none some);
      all = omega (arith, behind-taken r size some held, within.all);
      headed = λ none. omega (arith, left, near, held);
      ahead = λ next _ _. omega (arith, left, near, held);
    }

-- the same by another name of the size
pub near-by : (held size most given : ℕ) → held < size + most → given ≡ size → held < given + most
near-by held size most given near is = omega (arith, near, is)

-- what is held behind an entry
pub behind-less : (s after : Reading) (size : ℕ) → after ≡ behind s size → length s.held < size + s.most → 0 < s.most → length after.held < after.most
behind-less s after size is near some =
    let left = length-drop size s.held in
    subst (λ (r : Reading). length r.held < r.most) (sym is) (omega (arith, left, near, some))

-- the header that was read is behind what was taken
pub header-taken-same : (r : Reading) (h : Header) → r.header ≡ None → 8 ≤ length r.held → IsWithin r → octets_taken_by (Some h) r.offset (drop 8 r.held) ≡ octets_taken r
header-taken-same r h none long within =
    omega (arith, within.start none, length-drop 8 r.held, long) ∙ ap (λ o. octets_taken_by o r.offset r.held) (sym none)

-- as few were taken where nothing changes
pub few-self : (s : Reading) → IsWithin s → TakesFew s s
few-self s within = (within.all, refl)

-- few were taken in two steps
pub few-then : (s0 s1 s2 : Reading) → TakesFew s0 s1 → TakesFew s1 s2 → TakesFew s0 s2
few-then s0 s1 s2 a b = (omega (arith, b.0, a.1), b.1 ∙ a.1)

-- taking an entry leaves the header
pub entry-header : (s3 s4 : Reading) (next : Result (Option Entry) RecordFault) (result : Result (Option (ℕ × Entry)) RecordFault) → EntryTaken result next s3 s4 → s4.header ≡ s3.header
entry-header s3 s4 next (Ok None) taken = ap (λ (s : Reading). s.header) taken.1
entry-header s3 s4 next (Ok (Some x)) taken = ap (λ (s : Reading). s.header) taken.3
entry-header s3 s4 next (Err Memory) taken = ap (λ (s : Reading). s.header) taken
entry-header s3 s4 next (Err ReadFault) taken = absurd taken.0
entry-header s3 s4 next (Err BadMagic) taken = absurd taken.0
entry-header s3 s4 next (Err fault) taken = ap (λ (s : Reading). s.header) taken.2

some-header : (o p : Option Header) → o ≡ p → IsSome p → IsSome o
some-header o p same some = subst (λ x. IsSome x) (sym same) some

-- an answer by an entry has the header
pub entry-has-header : (s3 s4 : Reading) (next : Result (Option Entry) RecordFault) (result : Result (Option (ℕ × Entry)) RecordFault) → EntryTaken result next s3 s4 → IsSome s3.header
    → HasHeader result s4.header
entry-has-header s3 s4 next (Ok None) taken some = some-header s4.header s3.header (entry-header s3 s4 next (Ok None) taken) some
entry-has-header s3 s4 next (Ok (Some x)) taken some = some-header s4.header s3.header (entry-header s3 s4 next (Ok (Some x)) taken) some
entry-has-header s3 s4 next (Err Memory) taken some = tt
entry-has-header s3 s4 next (Err ReadFault) taken some = tt
entry-has-header s3 s4 next (Err BadMagic) taken some = absurd taken.0
entry-has-header s3 s4 next (Err (BadKind kind offset)) taken some = some-header s4.header s3.header (ap (λ (s : Reading). s.header) taken.2) some
entry-has-header s3 s4 next (Err (Cut offset)) taken some = some-header s4.header s3.header (ap (λ (s : Reading). s.header) taken.2) some
entry-has-header s3 s4 next (Err (TooLong offset)) taken some = some-header s4.header s3.header (ap (λ (s : Reading). s.header) taken.2) some
entry-has-header s3 s4 next (Err (TooManyEntries offset)) taken some = some-header s4.header s3.header (ap (λ (s : Reading). s.header) taken.2) some

-- a header that was read stays
pub header-stays : (s0 s1 s2 s3 s4 : Reading) (next : Result (Option Entry) RecordFault) (result : Result (Option (ℕ × Entry)) RecordFault) → HeldAlone s0 s1 → HeaderTaken (Ok tt) s1 s2 → HeldAlone s2 s3
    → EntryTaken result next s3 s4 → IfSome s0.header (λ h. s4.header ≡ Some h)
header-stays s0 s1 s2 s3 s4 next result alone taken alone' entry =
    let first : s1.header ≡ s0.header = ap (λ (s : Reading). s.header) alone in
    let last : s4.header ≡ s2.header = entry-header s3 s4 next result entry ∙ ap (λ (s : Reading). s.header) alone' in
    go s0.header first last
  where
    by_header : (o : Option Header) (h : Header) → o ≡ Some h → HeaderTakenAt o (Ok tt) s1 s2 → s2 ≡ s1
    by_header None h is t = absurd (cc is)
    by_header (Some g) h is t = t.1

    go : (o : Option Header) → s1.header ≡ o → s4.header ≡ s2.header → IfSome o (λ h. s4.header ≡ Some h)
    go None first last = tt
    go (Some h) first last = last ∙ (ap (λ (s : Reading). s.header) (by_header s1.header h first taken) ∙ first)

-- what isn't held in full isn't settled
pub unready-unsettled : (s : Reading) → s.fault ≡ None → is_ready s ≡ false → is_settled s ≡ false
unready-unsettled s fine unready = by_settled (is_settled s) refl
  where
    by_settled : (b : Bool) → is_settled s ≡ b → is_settled s ≡ false
    by_settled false is = is
    by_settled true is = absurd (cc (sym (settled-ready s fine is) ∙ unready))

-- where more is held by as much as less is left, as much was taken
taken-more : (o : Option Header) (offset : ℕ) (held grown was now : List ℕ) → length grown + length now ≡ length held + length was
    → length was + octets_taken_by o offset held ≡ length now + octets_taken_by o offset grown
taken-more None offset held grown was now same = omega (arith, same)
taken-more (Some h) offset held grown was now same = omega (arith, same)

some_same : (xs ys : List ℕ) → Some xs ≡ Some ys → xs ≡ ys
some_same xs ys e = cc

-- gathering takes what the shelf gave
pub gathered-taken : (s0 s1 : Reading) (r0 r1 : Option (List ℕ)) → HeldAlone s0 s1 → KeepsAhead (ahead s0.held r0) (ahead s1.held r1) → AreTaken s0 r0 s1 r1
gathered-taken s0 s1 None r1 alone keeps = tt
gathered-taken s0 s1 (Some was) None alone keeps = absurd (cc keeps)
gathered-taken s0 s1 (Some was) (Some now) alone keeps =
    let same : length s1.held + length now ≡ length s0.held + length was =
    sym (length-append s1.held now) ∙ (ap (λ (xs : List ℕ). length xs) (some_same (s1.held ++ now) (s0.held ++ was) keeps) ∙ length-append s0.held was) in
    let alike : octets_taken s1 ≡ octets_taken_by s0.header s0.offset s1.held = ap octets_taken alone in
    (omega (arith, taken-more s0.header s0.offset s0.held s1.held was now same, alike), refl)

-- one step after another
pub taken-then : (s0 s1 s2 : Reading) (r0 r1 r2 : Option (List ℕ)) → AreTaken s0 r0 s1 r1 → AreTaken s1 r1 s2 r2 → AreTaken s0 r0 s2 r2
taken-then s0 s1 s2 None r1 r2 a b = tt
taken-then s0 s1 s2 (Some was) None r2 a b = absurd (cc a.1)
taken-then s0 s1 s2 (Some was) (Some mid) None a b = absurd (cc b.1)
taken-then s0 s1 s2 (Some was) (Some mid) (Some now) a b = (omega (arith, a.0, b.0), refl)

-- as much was taken, and the shelf wasn't read
pub taken-same : (s0 s1 : Reading) (r : Option (List ℕ)) → octets_taken s1 ≡ octets_taken s0 → AreTaken s0 r s1 r
taken-same s0 s1 None same = tt
taken-same s0 s1 (Some now) same = (ap (λ n. length now + n) (sym same), refl)
