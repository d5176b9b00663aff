-- What is read is a script.
use Rattle.std.proofs.Common.{arith, zero, suc, lit<, ◌≡◌, ◌+◌, ◌<◌, ◌≤◌, ◌^◌, ℕ, Bool, true, false, List, [], ◌∷◌, length, Option, Some, None, Result, Ok, Err, refl, sym, ap, subst, ◌∙◌}
use Rattle.std.specs.Prelude.{◌&&◌, nat_le, codes, slice_index, if◌then◌else◌}
use Rattle.std.specs.Option.{option_map_or}
use Rattle.std.specs.Result.{result_ok}
use Rattle.std.specs.Str.{bytes_eq}
use Rattle.std.proofs.lemmas.Bool.{and_parts}
use Rattle.std.proofs.lemmas.Option.{same_Some}
use Rattle.hex.specs.Hex.{IsBytes, decode_of}
use Rattle.hex.specs.declared.error.FromHexError.{FromHexError}
use Rattle.hex.proofs.HexLemmas.{decode_of-ok}
use Rattle.body_fields.specs.Spelling.{AreOctets}
use Rattle.pus_packet.specs.Joining.{most_octets}
use Rattle.hk_base.specs.TailoringParts.{TailoringParts}
use Rattle.message_words.specs.Numbers.{wide_number_in}
use Rattle.simulated_link.specs.declared.settings.Settings.{Settings}
use Rattle.board_scripts.specs.Texts.{lines, words_of}
use Rattle.board_scripts.specs.Lines.{start_in, number_in_line, percents_in_line, send_text, sending_if, sending_by, sending_in, most_slots, is_length}
use Rattle.board_scripts.specs.Scripts.{first_told, settings_told, may_follow, following, sent_first, sendings_told, script_of_text}
use Rattle.board_scripts.specs.Spelling.{ArePercents, IsSending, AreSent, IsScript}
use Rattle.board_scripts.specs.declared.script.Script.{Script}
use Rattle.board_scripts.specs.declared.script.Sending.{Sending}
use Rattle.board_scripts.proofs.LinesAgain.{if_some, number-only, percents-only}
use Rattle.board_scripts.proofs.ScriptsAgain.{from_ok, told-only, then-only, with-only, following-only}

octets-of : (bs : List ℕ) → IsBytes bs → AreOctets bs
octets-of [] are = tt
octets-of (b ∷ bs) are = (are zero, octets-of bs (λ i. are (suc i)))

ok-only : (r : Result (List ℕ) FromHexError) (packet : List ℕ) → result_ok r ≡ Some packet → r ≡ Ok packet
ok-only (Ok bytes) packet e = ap Ok (same_Some bytes packet e)
ok-only (Err f) packet e = cc

decoded-octets : (digits packet : List ℕ) → result_ok (decode_of digits) ≡ Some packet → AreOctets packet
decoded-octets digits packet e = octets-of packet (decode_of-ok digits packet (ok-only (decode_of digits) packet e)).3

below : (a b : ℕ) → nat_le a b ≡ true → a ≤ b
below a b e = grind arith

sending-is : (line : List ℕ) (x : Sending) → sending_in line ≡ Some x → IsSending x
sending-is line x e = by (words_of line) e
  where
    by_packet : (slot : ℕ) (packet : Option (List ℕ)) → ((p : List ℕ) → packet ≡ Some p → AreOctets p) → sending_if line slot packet ≡ Some x → IsSending x
    by_packet slot None octets e = cc
    by_packet slot (Some packet) octets e =
        let found : Sending = record { slot = slot; packet = packet } in
        let passed = if_some (bytes_eq line (send_text slot packet) && (nat_le slot most_slots && is_length (length packet))) found x e in
        let parts = and_parts (bytes_eq line (send_text slot packet)) (nat_le slot most_slots && is_length (length packet)) passed.0 in
        let ranges = and_parts (nat_le slot most_slots) (is_length (length packet)) parts.1 in
        let sizes = and_parts (nat_le 1 (length packet)) (nat_le (length packet) most_octets) ranges.1 in
        let is : IsSending found = record { slot = below slot most_slots ranges.0; octets = octets packet refl; some = below 1 (length packet) sizes.0; most = below (length packet) most_octets sizes.1 } in
        subst IsSending passed.1 is

    by : (words : List (List ℕ)) → sending_by line words ≡ Some x → IsSending x
    by [] e = cc
    by (form ∷ []) e = cc
    by (form ∷ slot ∷ []) e = cc
    by (form ∷ slot ∷ digits ∷ []) e = by_packet (wide_number_in slot) (result_ok (decode_of digits)) (decoded-octets digits) e
    by (form ∷ slot ∷ digits ∷ other ∷ words) e = cc

may-only : (t : TailoringParts) (earlier : List Sending) (o : Option Sending) (x : Sending) → following t earlier o ≡ Some x → may_follow t earlier x ≡ true
may-only t earlier None x e = cc
may-only t earlier (Some y) x e =
    let passed = if_some (may_follow t earlier y) y x e in
    subst (λ s. may_follow t earlier s ≡ true) passed.1 passed.0

sendings-are : (t : TailoringParts) (n : ℕ) (earlier : List Sending) (ls : List (List ℕ)) (xs : List Sending) → sendings_told t n earlier ls ≡ Ok xs → AreSent t earlier xs
sendings-are t n earlier [] xs e = subst (AreSent t earlier) (ap (from_ok xs) e) tt
sendings-are t n earlier (line ∷ later) xs e = by (following t earlier (sending_in line)) refl e (λ s ys h. sendings-are t (n + 1) (s ∷ earlier) later ys h)
  where
    by_rest : (s : Sending) → IsSending s → may_follow t earlier s ≡ true → (r : Result (List Sending) ℕ) → ((ys : List Sending) → r ≡ Ok ys → AreSent t (s ∷ earlier) ys)
        → sent_first s r ≡ Ok xs → AreSent t earlier xs
    by_rest s is may (Ok ys) again e = subst (AreSent t earlier) (ap (from_ok xs) e) (is, may, again ys refl)
    by_rest s is may (Err number) again e = cc

    by : (o : Option Sending) → following t earlier (sending_in line) ≡ o → option_map_or (λ s. sent_first s (sendings_told t (n + 1) (s ∷ earlier) later)) o (Err n) ≡ Ok xs
        → ((s : Sending) (ys : List Sending) → sendings_told t (n + 1) (s ∷ earlier) later ≡ Ok ys → AreSent t (s ∷ earlier) ys) → AreSent t earlier xs
    by None is e again = cc
    by (Some s) is e again =
        by_rest s (sending-is line s (following-only t earlier (sending_in line) s is)) (may-only t earlier (sending_in line) s is) (sendings_told t (n + 1) (s ∷ earlier) later) (again s) e

-- the ranges of how the link is disturbed
record AreRanges (link : Settings) : Type 0 where
  seed : link.seed < 2 ^ 64
  loss : ArePercents link.loss
  repeat : ArePercents link.repeat
  delay : link.delay ≤ 1000

settings-are : (ls : List (List ℕ)) (link : Settings) (rest : List (List ℕ)) → settings_told ls ≡ Ok (link, rest) → AreRanges link
settings-are ls link rest e =
    let a = then-only (first_told 3 (number_in_line (codes "seed") 18446744073709551615) ls) _ (link, rest) e in
    let b = then-only (first_told 4 (percents_in_line (codes "loss")) a.1) _ (link, rest) a.3 in
    let c = then-only (first_told 5 (percents_in_line (codes "repeat")) b.1) _ (link, rest) b.3 in
    let d = then-only (first_told 6 (number_in_line (codes "delay") 1000) c.1) _ (link, rest) c.3 in
    let made : (record { seed = a.0; loss = b.0; repeat = c.0; delay = d.0 }, d.1) ≡ (link, rest) = ap (from_ok (link, rest)) d.3 in
    let seed = told-only 3 (number_in_line (codes "seed") 18446744073709551615) ls a.0 a.1 a.2 in
    let loss = told-only 4 (percents_in_line (codes "loss")) a.1 b.0 b.1 b.2 in
    let again = told-only 5 (percents_in_line (codes "repeat")) b.1 c.0 c.1 c.2 in
    let late = told-only 6 (number_in_line (codes "delay") 1000) c.1 d.0 d.1 d.2 in
    let most : a.0 ≤ 18446744073709551615 = (number-only (codes "seed") 18446744073709551615 a.0 seed.0 seed.2).1 in
    let ranges : AreRanges (record { seed = a.0; loss = b.0; repeat = c.0; delay = d.0 }) = record {
      seed = omega (arith, most);
      loss = (percents-only (codes "loss") b.0 loss.0 loss.2).1;
      repeat = (percents-only (codes "repeat") c.0 again.0 again.2).1;
      delay = (number-only (codes "delay") 1000 d.0 late.0 late.2).1;
    } in
    subst (λ (p : Settings × List (List ℕ)). AreRanges p.0) made ranges

pub script-is : (t : TailoringParts) (s : Script) (text : List ℕ) → script_of_text t text ≡ Ok s → IsScript t s
unfolding script_of_text
script-is t s text e =
    let a = then-only (first_told 1 start_in (lines text)) _ s e in
    let b = then-only (first_told 2 (number_in_line (codes "slots") most_slots) a.1) _ s a.3 in
    let c = then-only (settings_told b.1) _ s b.3 in
    let d = with-only a.0 b.0 c.0 (sendings_told t 7 [] c.1) s c.3 in
    let slots = told-only 2 (number_in_line (codes "slots") most_slots) a.1 b.0 b.1 b.2 in
    let ranges = settings-are b.1 c.0 c.1 c.2 in
    let is : IsScript t (record { known = a.0; slots = b.0; link = c.0; sendings = d.0 }) = record {
      slots = (number-only (codes "slots") most_slots b.0 slots.0 slots.2).1;
      seed = ranges.seed;
      loss = ranges.loss;
      repeat = ranges.repeat;
      delay = ranges.delay;
      sendings = sendings-are t 7 [] c.1 d.0 d.1;
    } in
    subst (IsScript t) d.2 is
