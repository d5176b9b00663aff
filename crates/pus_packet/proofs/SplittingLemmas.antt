-- What is split is the one packet of its headers and its body.
use Rattle.std.proofs.Common.{arith, ◌≡◌, refl, sym, ap, subst, ◌∙◌, ℕ, zero, suc, ◌+◌, ◌-◌, ◌*◌, ◌/◌, ◌%◌, ◌^◌, ◌<◌, ◌≤◌, List, [], ◌∷◌, ◌++◌, length, Bool, true, false, Option, Some, None, Ok, take, drop, get_or}
use Rattle.std.specs.Prelude.{nat_lt, not, ◌==◌, if◌then◌else◌}
use Rattle.std.specs.Option.{option_or}
use Rattle.std.proofs.Math.Seq.{drop-cons}
use Rattle.std.proofs.lemmas.Bool.Decides.{nat_tests}
use Rattle.std.proofs.lemmas.List.{take_all, take-append-drop, take-append-le, length-drop, length-take-le, get_or-drop, drop-drop}
use Rattle.std.specs.Int.Digits.{AllBelowBase}
use Rattle.std.proofs.lemmas.Int.Digits.{number_lt}
use Rattle.std.proofs.lemmas.Nat.{div-mul-add}
use Rattle.std.proofs.Math.Nat.{mod-eq_of_lt}
use Rattle.hk_base.specs.Fields.{digits, number, octets_of, number_of}
use Rattle.hk_base.proofs.Numbers.{IsBytes-take, IsBytes-below, number_is, number_bound, digits_below}
use Rattle.pus_packet.specs.Packets.{word_at, version, direction, secondary_flag, process, sequence_flags, sequence_count, claimed_length, pus_version, low_half, crc, checksum_octets, checked_part, checksum_fault, fault_unless, first_fault, header_faults, packet_fault, unless_fault, command_headers}
use Rattle.pus_packet.specs.Joining.{with_checksum, most_octets, IsCommand, IsReport, IsCommandPacket, IsReportPacket, AreOctets}
use Rattle.pus_packet.specs.declared.header.TcHeader.{TcHeader}
use Rattle.pus_packet.specs.declared.header.TmHeader.{TmHeader}
use Rattle.pus_packet.specs.declared.header.PacketFault.{PacketFault}
use Rattle.pus_packet.specs.declared.header.PacketFault.TheVariants.{Short, Length, Version, Direction, NoSecondary, Segmented, PusVersion, Checksum}
use Rattle.pus_packet.proofs.Registers.{both}
use Rattle.pus_packet.proofs.Fronts.{front, wanted, start}
use Rattle.pus_packet.proofs.JoiningLemmas.{command, command_by, command_parts, report, report_by, report_parts, headers_by}

-- a test without a fault passes
passes : (b : Bool) (fault : PacketFault) → fault_unless b fault ≡ None → b ≡ true
passes true fault e = refl
passes false fault e = absurd (cc e)

equals : (a b : ℕ) (fault : PacketFault) → fault_unless (a == b) fault ≡ None → a ≡ b
equals a b fault e = let same : (a == b) ≡ true = passes (a == b) fault e in grind (arith, nat_tests)

suffices : (n least : ℕ) (fault : PacketFault) → fault_unless (not (nat_lt n least)) fault ≡ None → least ≤ n
suffices n least fault e = let many : not (nat_lt n least) ≡ true = passes (not (nat_lt n least)) fault e in grind (arith, nat_tests)

neither : (a b : Option PacketFault) → option_or a b ≡ None → (a ≡ None) × (b ≡ None)
neither None b e = (refl, e)
neither (Some fault) b e = absurd (cc e)

-- headers without a fault
record Stands (request : Bool) (least : ℕ) (octets : List ℕ) : Type 0 where
  enough : least ≤ length octets
  size : claimed_length octets ≡ length octets
  version : version octets ≡ 0
  direction : direction octets ≡ wanted request
  secondary : secondary_flag octets ≡ 1
  whole : sequence_flags octets ≡ 3
  pus : pus_version octets ≡ 2

stands : (request : Bool) (least : ℕ) (octets : List ℕ) → first_fault (header_faults (wanted request) least octets) ≡ None → Stands request least octets
stands request least octets none =
    let a = neither _ _ none in
    let b = neither _ _ a.1 in
    let c = neither _ _ b.1 in
    let d = neither _ _ c.1 in
    let e = neither _ _ d.1 in
    let f = neither _ _ e.1 in
    let g = neither _ _ f.1 in
    record {
      enough = suffices (length octets) least (Short (length octets)) a.0;
      size = equals (claimed_length octets) (length octets) (Length (claimed_length octets) (length octets)) b.0;
      version = equals (version octets) 0 (Version (version octets)) c.0;
      direction = equals (direction octets) (wanted request) (Direction (direction octets)) d.0;
      secondary = equals (secondary_flag octets) 1 NoSecondary e.0;
      whole = equals (sequence_flags octets) 3 (Segmented (sequence_flags octets)) f.0;
      pus = equals (pus_version octets) 2 (PusVersion (pus_version octets)) g.0;
    }

high-octet : (n a b : ℕ) → n ≡ a * 256 + (b * 1 + 0) → a < 256 → b < 256 → a ≡ n / 256 % 256
high-octet n a b e p q = omega (arith, e, p, q)

low-octet : (n a b : ℕ) → n ≡ a * 256 + (b * 1 + 0) → a < 256 → b < 256 → b ≡ n / 1 % 256
low-octet n a b e p q = omega (arith, e, p, q)

first-word : (request : Bool) (w : ℕ) → w / 2 ^ 13 ≡ 0 → w / 2 ^ 12 % 2 ≡ wanted request → w / 2 ^ 11 % 2 ≡ 1 → start request + w % 2 ^ 11 ≡ w
first-word true w a b c = omega (arith, a, b, c)
first-word false w a b c = omega (arith, a, b, c)

second-word : (w : ℕ) → w / 2 ^ 14 ≡ 3 → 0xc000 + w % 2 ^ 14 ≡ w
second-word w e = omega (arith, e)

seventh : (n : ℕ) → n / 16 ≡ 2 → n ≡ 0x20 + n % 16
seventh n e = omega (arith, e)

less_seven : (w n : ℕ) → w + 7 ≡ n → n - 7 ≡ w
less_seven w n e = omega (arith, e)

-- the front of a packet, of which the rest is checked or not
front-spelled : (request : Bool) (least a b c d e f g : ℕ) (rest behind : List ℕ)
    → AreOctets (a ∷ b ∷ c ∷ d ∷ e ∷ f ∷ g ∷ rest)
    → Stands request least (a ∷ b ∷ c ∷ d ∷ e ∷ f ∷ g ∷ rest ++ behind)
    → a ∷ b ∷ c ∷ d ∷ e ∷ f ∷ g ∷ rest ≡ front request (process (a ∷ b ∷ c ∷ d ∷ e ∷ f ∷ g ∷ rest ++ behind)) (sequence_count (a ∷ b ∷ c ∷ d ∷ e ∷ f ∷ g ∷ rest ++ behind)) (length (a ∷ b ∷ c ∷ d ∷ e ∷ f ∷ g ∷ rest ++ behind) - 7) (low_half (a ∷ b ∷ c ∷ d ∷ e ∷ f ∷ g ∷ rest ++ behind)) rest
front-spelled request least a b c d e f g rest behind are stand =
    let octets = a ∷ b ∷ c ∷ d ∷ e ∷ f ∷ g ∷ rest ++ behind in
    let first : start request + process octets ≡ a * 256 + (b * 1 + 0) = first-word request (a * 256 + (b * 1 + 0)) stand.version stand.direction stand.secondary in
    let second : 0xc000 + sequence_count octets ≡ c * 256 + (d * 1 + 0) = second-word (c * 256 + (d * 1 + 0)) stand.whole in
    let third : length octets - 7 ≡ e * 256 + (f * 1 + 0) = less_seven (e * 256 + (f * 1 + 0)) (length octets) stand.size in
    both (high-octet (start request + process octets) a b first (are 0) (are 1))
    (both (low-octet (start request + process octets) a b first (are 0) (are 1))
    (both (high-octet (0xc000 + sequence_count octets) c d second (are 2) (are 3))
    (both (low-octet (0xc000 + sequence_count octets) c d second (are 2) (are 3))
    (both (high-octet (length octets - 7) e f third (are 4) (are 5))
    (both (low-octet (length octets - 7) e f third (are 4) (are 5)) (both (seventh g stand.pus) refl))))))

-- the octets of a list one by one, from a place on, so many of them
firsts : ℕ → ℕ → List ℕ → List ℕ
firsts zero place xs = drop place xs
firsts (suc n) place xs = get_or xs place 0 ∷ firsts n (suc place) xs

firsts-are : (n place : ℕ) (xs : List ℕ) → place + n ≤ length xs → firsts n place xs ≡ drop place xs
unfolding firsts
firsts-are zero place xs long = refl
firsts-are (suc n) place xs long =
    ap (λ rest. get_or xs place 0 ∷ rest) (firsts-are n (suc place) xs (omega (arith, long))) ∙ sym (drop-cons xs place 0 (omega (arith, long)))

-- digits are those of their number
digits-again : (base : ℕ) (ds : List ℕ) → 0 < base → AllBelowBase base ds → digits base (length ds) (number base ds) ≡ ds
digits-again base [] some are = refl
digits-again base (d ∷ ds) some are =
    let bound : number base ds < base ^ length ds = rw (number_is base ds) (number_lt base ds are.1) in
    let head : (d * base ^ length ds + number base ds) / base ^ length ds % base ≡ d =
    ap (λ n. n % base) (div-mul-add d (base ^ length ds) (number base ds) bound) ∙ mod-eq_of_lt are.0 in
    both head (digits_below base (length ds) d (number base ds) some ∙ digits-again base ds some are.1)

octets-again : (count : ℕ) (xs : List ℕ) → length xs ≡ count → AreOctets xs → octets_of count (number_of xs) ≡ xs
octets-again count xs many are = ap (λ n. octets_of n (number_of xs)) (sym many) ∙ digits-again 256 xs (omega arith) (IsBytes-below xs are)

octets-behind : (n : ℕ) (octets : List ℕ) → AreOctets octets → AreOctets (drop n octets)
octets-behind n octets are place = rw (get_or-drop n octets place 0) (are (n + place))

field-is : (a b : ℕ) (fault : PacketFault) → (if a == b then None else Some fault) ≡ None → a ≡ b
field-is a b fault e = equals a b fault e

-- octets without a fault in their checksum end in it
sealed : (on : Bool) (octets : List ℕ) → AreOctets octets → checksum_octets on ≤ length octets → checksum_fault on octets ≡ None → octets ≡ with_checksum on (checked_part on octets)
sealed false octets are long none = sym (take_all (length octets - 0) octets (omega arith))
sealed true octets are long none =
    let place = length octets - 2 in
    let behind = drop place octets in
    let two : length behind ≡ 2 = length-drop place octets ∙ omega (arith, long) in
    let field : word_at place octets ≡ number_of behind = ap number_of (take_all (place + 2 - place) behind (omega (arith, two))) in
    let computed : number_of behind ≡ crc (take place octets) =
    sym field ∙ field-is (word_at place octets) (crc (take place octets)) (Checksum (word_at place octets) (crc (take place octets))) none in
    sym (take-append-drop place octets)
    ∙ ap (λ xs. take place octets ++ xs) (sym (octets-again 2 behind two (octets-behind place octets are)) ∙ ap (octets_of 2) computed)

unless-ok : {A : Type 0} (f : Option PacketFault) (x y : A) → unless_fault f x ≡ Ok y → (f ≡ None) × (x ≡ y)
unless-ok None x y e = (refl, cc e)
unless-ok (Some fault) x y e = absurd (cc e)

-- headers and the octets that are checked, of a request packet
record IsCommandFront (checked behind : List ℕ) : Type 0 where
  headers : IsCommand (command_headers (checked ++ behind))
  spelling : checked ≡ command (command_headers (checked ++ behind)) (length (checked ++ behind) - 7) (drop 11 checked)

command-cells : (least a b c d e f g s u i j : ℕ) (body behind : List ℕ)
    → AreOctets (a ∷ b ∷ c ∷ d ∷ e ∷ f ∷ g ∷ s ∷ u ∷ i ∷ j ∷ body)
    → Stands true least (a ∷ b ∷ c ∷ d ∷ e ∷ f ∷ g ∷ s ∷ u ∷ i ∷ j ∷ body ++ behind)
    → IsCommandFront (a ∷ b ∷ c ∷ d ∷ e ∷ f ∷ g ∷ s ∷ u ∷ i ∷ j ∷ body) behind
command-cells least a b c d e f g s u i j body behind are stand =
    let octets = a ∷ b ∷ c ∷ d ∷ e ∷ f ∷ g ∷ s ∷ u ∷ i ∷ j ∷ body ++ behind in
    let source : octets_of 2 (number_of (i ∷ j ∷ [])) ≡ i ∷ j ∷ [] = both (sym (high-octet (number_of (i ∷ j ∷ [])) i j refl (are 9) (are 10))) (both (sym (low-octet (number_of (i ∷ j ∷ [])) i j refl (are 9) (are 10))) refl) in
    record {
      headers = record {
        apid = omega arith;
        count = omega arith;
        flags = omega arith;
        service = are 7;
        subtype = are 8;
        source = omega (arith, are 9, are 10);
      };
      spelling = front-spelled true least a b c d e f g (s ∷ u ∷ i ∷ j ∷ body) behind are stand
          ∙ ap (λ xs. front true (process octets) (sequence_count octets) (length octets - 7) (low_half octets) (s ∷ u ∷ (xs ++ body))) (sym source);
    }

command-front : (least : ℕ) (checked behind : List ℕ) → 11 ≤ length checked → AreOctets checked → Stands true least (checked ++ behind) → IsCommandFront checked behind
unfolding firsts
command-front least checked behind long are stand =
    let P : List ℕ → Type 0 = λ xs. AreOctets xs → Stands true least (xs ++ behind) → IsCommandFront xs behind in
    let o : ℕ → ℕ = λ place. get_or checked place 0 in
    subst P (firsts-are 11 0 checked long) (command-cells least (o 0) (o 1) (o 2) (o 3) (o 4) (o 5) (o 6) (o 7) (o 8) (o 9) (o 10) (drop 11 checked) behind) are stand

-- the octets that are checked, and those of the checksum behind them
octets-checked : (on : Bool) (octets : List ℕ) → AreOctets octets → AreOctets (checked_part on octets)
octets-checked on octets are = IsBytes-take (length octets - checksum_octets on) octets are

length-checked : (on : Bool) (octets : List ℕ) → length (checked_part on octets) ≡ length octets - checksum_octets on
length-checked on octets = length-take-le (length octets - checksum_octets on) octets (omega arith)

claimed-fits : (octets : List ℕ) → AreOctets octets → 6 ≤ length octets → claimed_length octets ≤ most_octets
unfolding firsts
claimed-fits octets are long =
    let P : List ℕ → Type 0 = λ xs. AreOctets xs → claimed_length xs ≤ most_octets in
    let o : ℕ → ℕ = λ place. get_or octets place 0 in
    subst P (firsts-are 6 0 octets long) (cells (o 0) (o 1) (o 2) (o 3) (o 4) (o 5) (drop 6 octets)) are
  where
    cells : (a b c d e f : ℕ) (rest : List ℕ) → AreOctets (a ∷ b ∷ c ∷ d ∷ e ∷ f ∷ rest) → claimed_length (a ∷ b ∷ c ∷ d ∷ e ∷ f ∷ rest) ≤ most_octets
    cells a b c d e f rest are = omega (arith, are 4, are 5)

-- A request packet is the one of what it is split into.
pub command-split : (on : Bool) (h : TcHeader) (body octets : List ℕ) → AreOctets octets → command_by on octets ≡ Ok (command_parts h body) → IsCommandPacket on h body octets
command-split on h body octets are split =
    let ok = unless-ok (packet_fault 1 11 on octets) (command_headers octets, drop 11 (checked_part on octets)) (command_parts h body) split in
    let none = neither (first_fault (header_faults 1 (11 + checksum_octets on) octets)) (checksum_fault on octets) ok.0 in
    let stand = stands true (11 + checksum_octets on) octets none.0 in
    let long = stand.enough in
    let checked = checked_part on octets in
    let behind = drop (length octets - checksum_octets on) octets in
    let whole : checked ++ behind ≡ octets = take-append-drop (length octets - checksum_octets on) octets in
    let fewer = length-checked on octets in
    let front = command-front (11 + checksum_octets on) checked behind (omega (arith, long, fewer)) (octets-checked on octets are) (subst (Stands true (11 + checksum_octets on)) (sym whole) stand) in
    let headers : command_headers octets ≡ h = ap (λ x. x.0) ok.1 in
    let tail : drop 11 checked ≡ body = ap (λ x. x.1) ok.1 in
    let claimed : length octets - 7 ≡ 4 + length body + checksum_octets on = omega (arith, long, fewer, length-drop 11 checked, ap length tail) in
    let spelled : checked ≡ command h (4 + length body + checksum_octets on) body =
    front.spelling
    ∙ (ap (λ xs. command (command_headers xs) (length xs - 7) (drop 11 checked)) whole
    ∙ (ap (λ g. command g (length octets - 7) (drop 11 checked)) headers
    ∙ (ap (λ n. command h n (drop 11 checked)) claimed ∙ ap (command h (4 + length body + checksum_octets on)) tail))) in
    record {
      headers = subst IsCommand (ap command_headers whole ∙ headers) front.headers;
      spelling = sealed on octets are (omega (arith, long)) none.1 ∙ ap (with_checksum on) spelled;
      size = subst (λ n. n ≤ most_octets) stand.size (claimed-fits octets are (omega (arith, long)));
    }

-- headers and the octets that are checked, of a report packet whose time has so many octets
record IsReportFront (time : ℕ) (checked behind : List ℕ) : Type 0 where
  headers : IsReport time (headers_by time (checked ++ behind))
  spelling : checked ≡ report time (headers_by time (checked ++ behind)) (length (checked ++ behind) - 7) (drop (13 + time) checked)

report-cells : (time least a b c d e f g s u i j k l : ℕ) (rest behind : List ℕ)
    → time ≤ length rest
    → AreOctets (a ∷ b ∷ c ∷ d ∷ e ∷ f ∷ g ∷ s ∷ u ∷ i ∷ j ∷ k ∷ l ∷ rest)
    → Stands false least (a ∷ b ∷ c ∷ d ∷ e ∷ f ∷ g ∷ s ∷ u ∷ i ∷ j ∷ k ∷ l ∷ rest ++ behind)
    → IsReportFront time (a ∷ b ∷ c ∷ d ∷ e ∷ f ∷ g ∷ s ∷ u ∷ i ∷ j ∷ k ∷ l ∷ rest) behind
report-cells time least a b c d e f g s u i j k l rest behind long are stand =
    let octets = a ∷ b ∷ c ∷ d ∷ e ∷ f ∷ g ∷ s ∷ u ∷ i ∷ j ∷ k ∷ l ∷ rest ++ behind in
    let counter : octets_of 2 (number_of (i ∷ j ∷ [])) ≡ i ∷ j ∷ [] = both (sym (high-octet (number_of (i ∷ j ∷ [])) i j refl (are 9) (are 10))) (both (sym (low-octet (number_of (i ∷ j ∷ [])) i j refl (are 9) (are 10))) refl) in
    let destination : octets_of 2 (number_of (k ∷ l ∷ [])) ≡ k ∷ l ∷ [] = both (sym (high-octet (number_of (k ∷ l ∷ [])) k l refl (are 11) (are 12))) (both (sym (low-octet (number_of (k ∷ l ∷ [])) k l refl (are 11) (are 12))) refl) in
    let field = take time rest in
    let many : length field ≡ time = length-take-le time rest long in
    let octets-field : AreOctets field = IsBytes-take time rest (octets-behind 13 (a ∷ b ∷ c ∷ d ∷ e ∷ f ∷ g ∷ s ∷ u ∷ i ∷ j ∷ k ∷ l ∷ rest) are) in
    let read : take (13 + time - 13) (rest ++ behind) ≡ field = ap (λ n. take n (rest ++ behind)) (omega arith) ∙ take-append-le time rest behind long in
    let tag : octets_of time (number_of (take (13 + time - 13) (rest ++ behind))) ≡ field = ap (λ xs. octets_of time (number_of xs)) read ∙ octets-again time field many octets-field in
    let body : drop (13 + time) (a ∷ b ∷ c ∷ d ∷ e ∷ f ∷ g ∷ s ∷ u ∷ i ∷ j ∷ k ∷ l ∷ rest) ≡ drop time rest =
    sym (drop-drop time 13 (a ∷ b ∷ c ∷ d ∷ e ∷ f ∷ g ∷ s ∷ u ∷ i ∷ j ∷ k ∷ l ∷ rest)) in
    let ends : rest ≡ octets_of time (number_of (take (13 + time - 13) (rest ++ behind))) ++ drop (13 + time) (a ∷ b ∷ c ∷ d ∷ e ∷ f ∷ g ∷ s ∷ u ∷ i ∷ j ∷ k ∷ l ∷ rest) =
    rw (tag, body) (sym (take-append-drop time rest)) in
    record {
      headers = record {
        apid = omega arith;
        count = omega arith;
        status = omega arith;
        service = are 7;
        subtype = are 8;
        counter = omega (arith, are 9, are 10);
        destination = omega (arith, are 11, are 12);
        tag = subst (λ xs. number_of xs < 256 ^ time) (sym read) (number_bound time field octets-field (omega (arith, many)));
      };
      spelling = front-spelled false least a b c d e f g (s ∷ u ∷ i ∷ j ∷ k ∷ l ∷ rest) behind are stand
          ∙ (ap (λ xs. front false (process octets) (sequence_count octets) (length octets - 7) (low_half octets) (s ∷ u ∷ (xs ++ (k ∷ l ∷ rest)))) (sym counter)
          ∙ (ap (λ xs. front false (process octets) (sequence_count octets) (length octets - 7) (low_half octets) (s ∷ u ∷ octets_of 2 (number_of (i ∷ j ∷ [])) ++ (xs ++ rest))) (sym destination)
          ∙ ap (λ xs. front false (process octets) (sequence_count octets) (length octets - 7) (low_half octets) (s ∷ u ∷ octets_of 2 (number_of (i ∷ j ∷ [])) ++ (octets_of 2 (number_of (k ∷ l ∷ [])) ++ xs))) ends));
    }

report-front : (time least : ℕ) (checked behind : List ℕ) → 13 + time ≤ length checked → AreOctets checked → Stands false least (checked ++ behind) → IsReportFront time checked behind
unfolding firsts
report-front time least checked behind long are stand =
    let P : List ℕ → Type 0 = λ xs. AreOctets xs → Stands false least (xs ++ behind) → IsReportFront time xs behind in
    let o : ℕ → ℕ = λ place. get_or checked place 0 in
    let room : time ≤ length (drop 13 checked) = omega (arith, long, length-drop 13 checked) in
    subst P (firsts-are 13 0 checked (omega (arith, long)))
    (report-cells time least (o 0) (o 1) (o 2) (o 3) (o 4) (o 5) (o 6) (o 7) (o 8) (o 9) (o 10) (o 11) (o 12) (drop 13 checked) behind room) are stand

-- A report packet is the one of what it is split into.
pub report-split : (on : Bool) (time : ℕ) (h : TmHeader) (body octets : List ℕ) → AreOctets octets → report_by on time octets ≡ Ok (report_parts h body) → IsReportPacket on time h body octets
report-split on time h body octets are split =
    let ok = unless-ok (packet_fault 0 (13 + time) on octets) (headers_by time octets, drop (13 + time) (checked_part on octets)) (report_parts h body) split in
    let none = neither (first_fault (header_faults 0 (13 + time + checksum_octets on) octets)) (checksum_fault on octets) ok.0 in
    let stand = stands false (13 + time + checksum_octets on) octets none.0 in
    let long = stand.enough in
    let checked = checked_part on octets in
    let behind = drop (length octets - checksum_octets on) octets in
    let whole : checked ++ behind ≡ octets = take-append-drop (length octets - checksum_octets on) octets in
    let fewer = length-checked on octets in
    let front = report-front time (13 + time + checksum_octets on) checked behind (omega (arith, long, fewer)) (octets-checked on octets are) (subst (Stands false (13 + time + checksum_octets on)) (sym whole) stand) in
    let headers : headers_by time octets ≡ h = ap (λ x. x.0) ok.1 in
    let tail : drop (13 + time) checked ≡ body = ap (λ x. x.1) ok.1 in
    let claimed : length octets - 7 ≡ 6 + time + length body + checksum_octets on = omega (arith, long, fewer, length-drop (13 + time) checked, ap length tail) in
    let spelled : checked ≡ report time h (6 + time + length body + checksum_octets on) body =
    front.spelling
    ∙ (ap (λ xs. report time (headers_by time xs) (length xs - 7) (drop (13 + time) checked)) whole
    ∙ (ap (λ g. report time g (length octets - 7) (drop (13 + time) checked)) headers
    ∙ (ap (λ n. report time h n (drop (13 + time) checked)) claimed ∙ ap (report time h (6 + time + length body + checksum_octets on)) tail))) in
    record {
      headers = subst (IsReport time) (ap (headers_by time) whole ∙ headers) front.headers;
      spelling = sealed on octets are (omega (arith, long)) none.1 ∙ ap (with_checksum on) spelled;
      size = subst (λ n. n ≤ most_octets) stand.size (claimed-fits octets are (omega (arith, long)));
    }
