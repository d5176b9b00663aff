-- The octets of a kept packet, of which those of a payload stand in its report.
use Rattle.std.proofs.Common.{arith, ◌≡◌, ℕ, ◌+◌, ◌-◌, refl, sym, ◌∙◌, ap, subst, List, [], ◌∷◌, ◌++◌, length, Bool, true, false, Option, Some, None, Bor}
use Rattle.std.proofs.Math.Seq.{take-append_seam, drop-append_seam, drop-append-add}
use Rattle.std.proofs.lemmas.Bool.{eqb-true, eqb-false, eq-eqb, ne_eqb}
use Rattle.std.proofs.lemmas.List.{length-append, append_assoc, append-nil}
use Rattle.std.specs.Prelude.{take, drop, ◌&&◌, ◌==◌, bytes_eq}
use Rattle.std.specs.Option.{option_map_or, MatchOption}
use Rattle.hk_base.specs.Fields.{octets_of}
use Rattle.hk_base.specs.TailoringParts.{TailoringParts}
use Rattle.body_fields.specs.Spelling.{structure_octets}
use Rattle.pus_packet.specs.Packets.{crc, checksum_octets, time_octets}
use Rattle.pus_packet.specs.Joining.{with_checksum, primary_octets}
use Rattle.st03_grammar.specs.declared.bodies.Report03.TheVariants as told
use Rattle.pus_messages.specs.Spelling.{IsReportPacket, report_body_octets}
use Rattle.pus_messages.specs.declared.message.Report.{Report}
use Rattle.pus_messages.specs.declared.message.ReportBody.{ReportBody}
use Rattle.pus_messages.specs.declared.message.ReportBody.TheVariants as tell
use Rattle.ground_history.specs.Ground.{HasPayload, payload_of, with_payload}

-- two numbers are equal in either order
same_in_turn : (x y : ℕ) → (x == y) ≡ (y == x)
same_in_turn x y = go (x == y) refl
  where
    go : (b : Bool) → (x == y) ≡ b → b ≡ (y == x)
    go true e = sym (eq-eqb y x (sym (eqb-true x y e)))
    go false e = sym (ne_eqb y x (λ same. eqb-false x y e (sym same)))

both_in_turn : (a b c : Bool) → (a && (b && c)) ≡ ((a && b) && c)
both_in_turn true b c = refl
both_in_turn false b c = refl

-- octets are a front and more exactly where they begin with the front, and what follows is more
pub front-then : (front bytes more : List ℕ) → bytes_eq (front ++ more) bytes ≡ (bytes_eq (take (length front) bytes) front && bytes_eq more (drop (length front) bytes))
front-then [] bytes more = refl
front-then (x ∷ xs) [] more = refl
front-then (x ∷ xs) (y ∷ ys) more =
    ap (λ b. b && bytes_eq (xs ++ more) ys) (same_in_turn x y)
    ∙ (ap (λ b. (y == x) && b) (front-then xs ys more)
    ∙ both_in_turn (y == x) (bytes_eq (take (length xs) ys) xs) (bytes_eq more (drop (length xs) ys)))

-- octets that were taken apart at their payload are put together
apart : (front payload check : List ℕ) → with_payload (take (length front) (front ++ (payload ++ check)) ++ drop (length front + length payload) (front ++ (payload ++ check))) (length front) payload ≡ front ++ (payload ++ check)
apart front payload check =
    let before : take (length front) (front ++ (payload ++ check)) ≡ front = take-append_seam front (payload ++ check) in
    let behind : drop (length front + length payload) (front ++ (payload ++ check)) ≡ check = drop-append-add front (payload ++ check) (length payload) ∙ drop-append_seam payload check in
    ap (λ x. with_payload (x ++ drop (length front + length payload) (front ++ (payload ++ check))) (length front) payload) before
    ∙ (ap (λ x. with_payload (front ++ x) (length front) payload) behind
    ∙ (ap (λ x. x ++ (payload ++ drop (length front) (front ++ check))) (take-append_seam front check)
    ∙ ap (λ x. front ++ (payload ++ x)) (drop-append_seam front check)))

pub whole : (bytes front payload check around given : List ℕ) (behind place : ℕ) → bytes ≡ front ++ (payload ++ check) → length check ≡ behind → given ≡ payload
    → place ≡ length bytes - behind - length given → around ≡ take place bytes ++ drop (place + length given) bytes → with_payload around place payload ≡ bytes
whole bytes front payload check around given behind place is checked same placed taken =
    let lengths : length bytes ≡ length front + (length payload + length check) = ap length is ∙ (length-append front (payload ++ check) ∙ ap (λ n. length front + n) (length-append payload check)) in
    let given_length : length given ≡ length payload = ap length same in
    let at : place ≡ length front = omega (arith, lengths, given_length, placed, checked) in
    ap (λ x. with_payload x place payload) (taken ∙ ap (λ n. take place bytes ++ drop (place + n) bytes) given_length)
    ∙ (ap (λ n. with_payload (take n bytes ++ drop (n + length payload) bytes) n payload) at
    ∙ (ap (λ xs. with_payload (take (length front) xs ++ drop (length front + length payload) xs) (length front) payload) is
    ∙ (apart front payload check ∙ sym is)))

-- what `strip_prefix` answers tells whether octets are a front and more
pub stripped : (front bytes more : List ℕ) (o : Option (Bor (List ℕ)))
    → MatchOption o (bytes_eq (take (length front) bytes) front ≡ false) (λ x. (bytes_eq (take (length front) bytes) front ≡ true) × (x.now ≡ drop (length front) bytes) × (length x.now + length front ≡ length bytes))
    → option_map_or (λ rest. bytes_eq more rest.now) o false ≡ bytes_eq (front ++ more) bytes
stripped front bytes more None other = sym (front-then front bytes more ∙ ap (λ b. b && bytes_eq more (drop (length front) bytes)) other)
stripped front bytes more (Some rest) begins =
    ap (λ xs. bytes_eq more xs) begins.1 ∙ sym (front-then front bytes more ∙ ap (λ b. b && bytes_eq more (drop (length front) bytes)) begins.0)

-- a body is what stands before its payload, and the payload
body-parts : (t : TailoringParts) (body : ReportBody) → (front : List ℕ) × (report_body_octets t body ≡ front ++ payload_of body)
body-parts t (tell.Verify v) = (report_body_octets t (tell.Verify v), sym (append-nil (report_body_octets t (tell.Verify v))))
body-parts t (tell.Hk (told.Structure key s)) = (report_body_octets t (tell.Hk (told.Structure key s)), sym (append-nil (report_body_octets t (tell.Hk (told.Structure key s)))))
body-parts t (tell.Hk (told.Values key payload)) = (structure_octets t key.id, refl)
body-parts t (tell.Hk (told.Periodic kind rows)) = (report_body_octets t (tell.Hk (told.Periodic kind rows)), sym (append-nil (report_body_octets t (tell.Hk (told.Periodic kind rows)))))
body-parts t (tell.Stat r) = (report_body_octets t (tell.Stat r), sym (append-nil (report_body_octets t (tell.Stat r))))
body-parts t (tell.Par r) = (report_body_octets t (tell.Par r), sym (append-nil (report_body_octets t (tell.Par r))))

-- five parts, of which the last is two
regrouped : (p q r s k payload : List ℕ) → p ++ (q ++ (r ++ (s ++ (k ++ payload)))) ≡ (p ++ (q ++ (r ++ (s ++ k)))) ++ payload
regrouped p q r s k payload =
    ap (λ x. p ++ (q ++ (r ++ x))) (sym (append_assoc s k payload))
    ∙ (ap (λ x. p ++ (q ++ x)) (sym (append_assoc r (s ++ k) payload))
    ∙ (ap (λ x. p ++ x) (sym (append_assoc q (r ++ (s ++ k)) payload))
    ∙ sym (append_assoc p (q ++ (r ++ (s ++ k))) payload)))

-- octets that end with a payload have it before their checksum
checked-payload : (on : Bool) (octets front payload : List ℕ) → octets ≡ front ++ payload → HasPayload (checksum_octets on) payload (with_checksum on octets)
checked-payload false octets front payload e = (front, [], e ∙ ap (λ x. front ++ x) (sym (append-nil payload)), refl)
checked-payload true octets front payload e =
    (front, octets_of 2 (crc octets), ap (λ x. x ++ octets_of 2 (crc octets)) e ∙ append_assoc front payload (octets_of 2 (crc octets)), refl)

-- the packet of a report has its payload
pub has-payload : (t : TailoringParts) (r : Report) (octets : List ℕ) → IsReportPacket t r octets → HasPayload (checksum_octets t.widths.tm_checksum) (payload_of r.body) octets
has-payload t r octets is = subst (HasPayload (checksum_octets t.widths.tm_checksum) (payload_of r.body)) (sym is.spelling) (checked-payload t.widths.tm_checksum packet front (payload_of r.body) parted)
  where
    parts : (front : List ℕ) × (report_body_octets t r.body ≡ front ++ payload_of r.body)
    parts = body-parts t r.body

    body : List ℕ
    body = report_body_octets t r.body

    first : List ℕ
    first = primary_octets 0x800 r.header.apid r.header.count (6 + time_octets t + length body + checksum_octets t.widths.tm_checksum)

    second : List ℕ
    second = (0x20 + r.header.status) ∷ r.header.service ∷ r.header.subtype ∷ octets_of 2 r.header.counter

    third : List ℕ
    third = octets_of 2 r.header.destination

    fourth : List ℕ
    fourth = octets_of (time_octets t) r.header.tag

    packet : List ℕ
    packet = first ++ (second ++ (third ++ (fourth ++ body)))

    front : List ℕ
    front = first ++ (second ++ (third ++ (fourth ++ parts.0)))

    parted : packet ≡ front ++ payload_of r.body
    parted = ap (λ x. first ++ (second ++ (third ++ (fourth ++ x)))) parts.1 ∙ regrouped first second third fourth parts.0 (payload_of r.body)
