-- The moments of a board are within their ranges.
use Rattle.std.proofs.Common.{arith, ◌≡◌, ℕ, zero, suc, ◌+◌, ◌-◌, ◌*◌, ◌^◌, ◌<◌, ◌≤◌, refl, sym, ◌∙◌, ap, subst, List, [], ◌∷◌, length, reverse, Bool, true, false, ◌==◌, Option, Some, None, Result, Ok, Err, ◌⊎◌, inl, inr}
use Rattle.std.specs.Prelude.{⊤, ℤ, pos, negsuc, IfSome, filter_map, slice_get, option_and_then, if◌then◌else◌}
use Rattle.std.specs.List.{AllByRecursion, cons_option}
use Rattle.std.specs.Option.{option_map_or}
use Rattle.std.proofs.lemmas.Option.{none-some, slice_get_within}
use Rattle.std.proofs.lemmas.List.{reverse-append, length-reverse}
use Rattle.std.proofs.Math.Nat.{pow-le-pow_right}
use Rattle.hk_base.specs.Fields.{FitsSignedOctets}
use Rattle.hk_base.specs.Fit.{IsFit, greatest_tag}
use Rattle.hk_base.specs.TailoringParts.{TailoringParts}
use Rattle.hk_base.specs.Parameters.{parameter, fits}
use Rattle.hk_base.specs.declared.types.Form.{Form}
use Rattle.hk_base.specs.declared.types.Form.TheVariants.{Unsigned, Signed, Enumerated, Boolean}
use Rattle.hk_base.specs.declared.types.Param.{Param}
use Rattle.hk_base.proofs.Membership.{AllByRecursion-append}
use Rattle.body_fields.specs.Spelling.{AreOctets, IsInOctets}
use Rattle.body_fields.proofs.FitLemmas.{parameter-fit, fits-in_octets}
use Rattle.pus_messages.specs.Instructions.{Instruction, instructions, instruction}
use Rattle.pus_messages.specs.Messages.{protocol, report_of, reception_by, reception_from}
use Rattle.pus_messages.specs.Protocol.{foreign, readable}
use Rattle.pus_messages.specs.Spelling.{IsReportPacket}
use Rattle.pus_packet.specs.Packets.{process_of}
use Rattle.pus_messages.specs.declared.message.MessageFault.{MessageFault}
use Rattle.pus_messages.specs.declared.message.MessageFault.TheVariants as fault
use Rattle.pus_messages.specs.declared.message.Report.{Report}
use Rattle.pus_messages.specs.declared.message.ReportBody.{ReportBody}
use Rattle.pus_messages.specs.declared.message.Request.{Request}
use Rattle.hk_world.specs.Timelines.{EachAfter, Session, request_at, instructions_at, instruction_at, request_number, is_act_of, last_act}
use Rattle.hk_world.specs.Legal.{MayFollow, IsInOrder, TellsOutcome, FilesSample, refused_number}
use Rattle.hk_world.specs.Honest.{Carries, IsReport}
use Rattle.hk_world.specs.Worlds.{MayHappen}
use Rattle.hk_world.specs.declared.moment.Moment.{Moment}
use Rattle.hk_world.specs.declared.moment.Act.{Act}
use Rattle.hk_world.specs.declared.moment.Act.TheVariants.{Accepted, TurnedAway, Started, NotStarted, Executed, Completed, Emitted, Filed}
use Rattle.hk_world.proofs.OrderLemmas.{last_act-other, is_act_of-number}
use Rattle.hk_world.proofs.RequestLemmas.{last_act-own, in_order-of}
use Rattle.board_steps.specs.Cores.{Core, session}
use Rattle.board_steps.specs.Timeline.{Stands, IsBelow, AreBelow, IsFiledBy, AreFiledBy}
use Rattle.board_steps.specs.Added.{IsActWithin, IsWithin, IsJournal}
use Rattle.board_steps.proofs.GrammarLemmas.{RequestsOnly}
use Rattle.board_steps.proofs.ValueLemmas.{request-grammatical}
use Rattle.board_steps.proofs.ReportLemmas.{IsVerification, carries-verification}

-- a report is read from its packet alone
abbrev pub ReportsOnly : TailoringParts → Type 0
ReportsOnly t = (r : Report) (octets : List ℕ) → AreOctets octets → report_of t octets ≡ Ok r → IsReportPacket t r octets

-- a report that is received is one of the tailoring
readable-report : (t : TailoringParts) (octets : List ℕ) (r : Report) → (protocol t).reception octets ≡ readable r → report_of t octets ≡ Ok r
readable-report t octets r e = by_process (process_of octets) e
  where
    by_report : (x : Result Report MessageFault) → report_of t octets ≡ x → reception_by x ≡ readable r → report_of t octets ≡ Ok r
    by_report (Ok y) f g = let same : y ≡ r = cc in f ∙ ap Ok same
    by_report (Err (fault.Packet p)) f g = cc
    by_report (Err (fault.Unknown a b)) f g = cc
    by_report (Err (fault.Body b)) f g = cc
    by_report (Err fault.Memory) f g = cc

    by_test : (apid : ℕ) (b : Bool) → (if b then reception_by (report_of t octets) else foreign apid) ≡ readable r → report_of t octets ≡ Ok r
    by_test apid true g = by_report (report_of t octets) refl g
    by_test apid false g = cc

    by_process : (o : Option ℕ) → reception_from t octets o ≡ readable r → report_of t octets ≡ Ok r
    by_process None g = by_report (report_of t octets) refl g
    by_process (Some apid) g = by_test apid (apid == t.widths.apid) g

-- how many refused instructions of a request its last act leaves room for
abbrev pub IsFewBy : Option Act → ℕ → Type 0
IsFewBy None count = count ≤ 0
IsFewBy (Some (Accepted j)) count = count ≤ 0
IsFewBy (Some (TurnedAway j)) count = count ≤ 0
IsFewBy (Some (Started j)) count = count ≤ 0
IsFewBy (Some (NotStarted j)) count = count ≤ 0
IsFewBy (Some (Executed j number flag)) count = count ≤ number
IsFewBy (Some (Completed j refused)) count = ⊤
IsFewBy (Some Emitted) count = ⊤
IsFewBy (Some (Filed id x value)) count = ⊤

one-longer : (o : Option ℕ) (xs : List ℕ) → length (cons_option o xs) ≤ length xs + 1
one-longer None xs = omega arith
one-longer (Some x) xs = omega arith

-- the next act of a request leaves room for one more, where it is an execution
few-next : (count k : ℕ) (o : Option Act) (act : Act) (xs : List ℕ) → MayFollow count o act → IsFewBy o (length xs) → IsFewBy (Some act) (length (cons_option (refused_number k act) xs))
few-next count k None (Accepted j) xs f h = h
few-next count k None (TurnedAway j) xs f h = h
few-next count k None (Started j) xs f h = absurd f
few-next count k None (NotStarted j) xs f h = absurd f
few-next count k None (Executed j number flag) xs f h = absurd f
few-next count k None (Completed j refused) xs f h = tt
few-next count k None Emitted xs f h = tt
few-next count k None (Filed id x value) xs f h = tt
few-next count k (Some (Accepted i)) (Accepted j) xs f h = absurd f
few-next count k (Some (Accepted i)) (TurnedAway j) xs f h = absurd f
few-next count k (Some (Accepted i)) (Started j) xs f h = h
few-next count k (Some (Accepted i)) (NotStarted j) xs f h = h
few-next count k (Some (Accepted i)) (Executed j number flag) xs f h = absurd f
few-next count k (Some (Accepted i)) (Completed j refused) xs f h = tt
few-next count k (Some (Accepted i)) Emitted xs f h = tt
few-next count k (Some (Accepted i)) (Filed id x value) xs f h = tt
few-next count k (Some (Started i)) (Accepted j) xs f h = absurd f
few-next count k (Some (Started i)) (TurnedAway j) xs f h = absurd f
few-next count k (Some (Started i)) (Started j) xs f h = absurd f
few-next count k (Some (Started i)) (NotStarted j) xs f h = absurd f
few-next count k (Some (Started i)) (Executed j number flag) xs f h = omega (arith, f.0, h, one-longer (refused_number k (Executed j number flag)) xs)
few-next count k (Some (Started i)) (Completed j refused) xs f h = tt
few-next count k (Some (Started i)) Emitted xs f h = tt
few-next count k (Some (Started i)) (Filed id x value) xs f h = tt
few-next count k (Some (Executed i last also)) (Accepted j) xs f h = absurd f
few-next count k (Some (Executed i last also)) (TurnedAway j) xs f h = absurd f
few-next count k (Some (Executed i last also)) (Started j) xs f h = absurd f
few-next count k (Some (Executed i last also)) (NotStarted j) xs f h = absurd f
few-next count k (Some (Executed i last also)) (Executed j number flag) xs f h = omega (arith, f.0, h, one-longer (refused_number k (Executed j number flag)) xs)
few-next count k (Some (Executed i last also)) (Completed j refused) xs f h = tt
few-next count k (Some (Executed i last also)) Emitted xs f h = tt
few-next count k (Some (Executed i last also)) (Filed id x value) xs f h = tt
few-next count k (Some (TurnedAway i)) act xs f h = absurd f
few-next count k (Some (NotStarted i)) act xs f h = absurd f
few-next count k (Some (Completed i refused)) act xs f h = absurd f
few-next count k (Some Emitted) act xs f h = absurd f
few-next count k (Some (Filed id x value)) act xs f h = absurd f

-- an act of another request, or of none, refuses none of this one
refused-other : (k : ℕ) (act : Act) → is_act_of k act ≡ false → refused_number k act ≡ None
refused-other k (Executed j number false) e = ap (λ b. if b then Some number else None) e
refused-other k (Executed j number true) e = refl
refused-other k (Accepted j) e = refl
refused-other k (TurnedAway j) e = refl
refused-other k (Started j) e = refl
refused-other k (NotStarted j) e = refl
refused-other k (Completed j refused) e = refl
refused-other k Emitted e = refl
refused-other k (Filed id x value) e = refl

-- the instructions of a request that were refused so far
abbrev pub refused_so_far : ℕ → List Moment → List ℕ
refused_so_far k moments = filter_map (λ m. refused_number k m.act) moments

refused-few : (s : Session) (k : ℕ) (moments : List Moment) → EachAfter (MayHappen s) moments → IsFewBy (last_act k moments) (length (refused_so_far k moments))
refused-few s k [] h = omega arith
refused-few s k (m ∷ earlier) h = go (is_act_of k m.act) refl (refused-few s k earlier h.1)
  where
    go : (b : Bool) → is_act_of k m.act ≡ b → IsFewBy (last_act k earlier) (length (refused_so_far k earlier)) → IsFewBy (last_act k (m ∷ earlier)) (length (refused_so_far k (m ∷ earlier)))
    go false e ih =
        let P : Option Act → Option ℕ → Type 0 = λ o n. IsFewBy o (length (cons_option n (refused_so_far k earlier))) in
        subst (λ o. P o (refused_number k m.act)) (sym (last_act-other k m earlier e)) (subst (P (last_act k earlier)) (sym (refused-other k m.act e)) ih)
    go true e ih =
        let order : IsInOrder s earlier m.act k = in_order-of s k earlier m.act h.0.order (is_act_of-number k m.act e) in
        subst (λ o. IsFewBy o (length (refused_so_far k (m ∷ earlier)))) (sym (last_act-own k m earlier e))
        (few-next (length (instructions_at s k)) k (last_act k earlier) m.act (refused_so_far k earlier) order.order ih)

-- a request that is completed has as many instructions as were executed
completed-few : (count k n : ℕ) (refused : List ℕ) (o : Option Act) → MayFollow count o (Completed k refused) → IsFewBy o n → n ≤ count
completed-few count k n refused (Some (Executed j last flag)) f h = omega (arith, f, h)
completed-few count k n refused None f h = absurd f
completed-few count k n refused (Some (Accepted j)) f h = absurd f
completed-few count k n refused (Some (TurnedAway j)) f h = absurd f
completed-few count k n refused (Some (Started j)) f h = absurd f
completed-few count k n refused (Some (NotStarted j)) f h = absurd f
completed-few count k n refused (Some (Completed j numbers)) f h = absurd f
completed-few count k n refused (Some Emitted) f h = absurd f
completed-few count k n refused (Some (Filed id x value)) f h = absurd f

all-reverse : {X : Type 0} (P : X → Type 0) (xs : List X) → AllByRecursion P xs → AllByRecursion P (reverse xs)
all-reverse P [] h = tt
all-reverse P (x ∷ xs) h =
    subst (AllByRecursion P) (sym (reverse-append (x ∷ []) xs)) (AllByRecursion-append P (reverse xs) (x ∷ []) (all-reverse P xs h.1) (h.0, tt))

-- the numbers of instructions that were refused are small where those of executions are
refused-small : (t : TailoringParts) (slot k : ℕ) (moments : List Moment) → AllByRecursion (λ m. IsActWithin t slot m.act) moments → AllByRecursion (λ n. n ≤ 255) (refused_so_far k moments)
refused-small t slot k [] h = tt
refused-small t slot k (m ∷ moments) h = by_act m.act h.0 (refused-small t slot k moments h.1)
  where
    kept : (b : Bool) (number : ℕ) → number ≤ 255 → AllByRecursion (λ n. n ≤ 255) (refused_so_far k moments)
        → AllByRecursion (λ n. n ≤ 255) (cons_option (if b then Some number else None) (refused_so_far k moments))
    kept true number low rest = (low, rest)
    kept false number low rest = rest

    by_act : (act : Act) → IsActWithin t slot act → AllByRecursion (λ n. n ≤ 255) (refused_so_far k moments)
        → AllByRecursion (λ n. n ≤ 255) (cons_option (refused_number k act) (refused_so_far k moments))
    by_act (Executed j number false) f rest = kept (j == k) number f.1 rest
    by_act (Executed j number true) f rest = rest
    by_act (Accepted j) f rest = rest
    by_act (TurnedAway j) f rest = rest
    by_act (Started j) f rest = rest
    by_act (NotStarted j) f rest = rest
    by_act (Completed j refused) f rest = rest
    by_act Emitted f rest = rest
    by_act (Filed id x value) f rest = rest

-- a value of at most eight octets has room in sixteen
in-sixteen : (form : Form) (octets : ℕ) (v : ℤ) → octets ≤ 8 → IsInOctets form octets v → FitsSignedOctets 16 v
in-sixteen Signed octets (pos n) few h = let most : 2 ^ (8 * octets) ≤ 2 ^ 64 = pow-le-pow_right {n = 2} (omega arith) {i = 8 * octets} {j = 64} (omega (arith, few)) in omega (arith, h, most)
in-sixteen Signed octets (negsuc n) few h = let most : 2 ^ (8 * octets) ≤ 2 ^ 64 = pow-le-pow_right {n = 2} (omega arith) {i = 8 * octets} {j = 64} (omega (arith, few)) in omega (arith, h, most)
in-sixteen Unsigned octets (pos n) few h = let most : 256 ^ octets ≤ 256 ^ 8 = pow-le-pow_right {n = 256} (omega arith) {i = octets} {j = 8} few in omega (arith, h, most)
in-sixteen Unsigned octets (negsuc n) few h = absurd h
in-sixteen (Enumerated values) octets (pos n) few h = let most : 256 ^ octets ≤ 256 ^ 8 = pow-le-pow_right {n = 256} (omega arith) {i = octets} {j = 8} few in omega (arith, h, most)
in-sixteen (Enumerated values) octets (negsuc n) few h = absurd h
in-sixteen Boolean octets (pos n) few h = let most : 256 ^ octets ≤ 256 ^ 8 = pow-le-pow_right {n = 256} (omega arith) {i = octets} {j = 8} few in omega (arith, h, most)
in-sixteen Boolean octets (negsuc n) few h = absurd h

module _ (c : Core) (fit : IsFit c.tailoring) (only : RequestsOnly c.tailoring) (reports : ReportsOnly c.tailoring) (octets : AllByRecursion AreOctets c.requests)
    (room : length c.requests ≤ 16384) where
  -- a request has at most 255 instructions
  count-few : (k : ℕ) → length (instructions_at (session c) k) ≤ 255
  count-few k = go (request_at (session c) k) refl
    where
      go : (o : Option Request) → request_at (session c) k ≡ o → length (option_map_or instructions o []) ≤ 255
      go None e = omega arith
      go (Some r) e = (request-grammatical c only octets k r e).few

  -- so their numbers are small
  number-few : (k number : ℕ) (x : Instruction) → instruction_at (session c) k number ≡ Some x → number ≤ 255
  number-few k number x e = go (request_at (session c) k) refl
    where
      go : (o : Option Request) → request_at (session c) k ≡ o → number ≤ 255
      go None f = absurd (none-some x (sym (ap (λ o. option_and_then (λ r. instruction r number) o) f) ∙ e))
      go (Some r) f =
          let there : slice_get (instructions r) (number - 1) ≡ Some x = sym (ap (λ o. option_and_then (λ r. instruction r number) o) f) ∙ e in
          let within : number - 1 < length (instructions r) = slice_get_within (instructions r) (number - 1) x there in
          omega (arith, within, (request-grammatical c only octets k r f).few)

  -- an ID of a parameter and its value are small
  sample-small : (slot id x : ℕ) (v : ℤ) (q : Param) → parameter c.tailoring id ≡ Some q → fits q v ≡ true → x ≤ slot → IsActWithin c.tailoring slot (Filed id x v)
  sample-small slot id x v q known fit_value low =
      let p = parameter-fit c.tailoring id q fit known in
      let most : 256 ^ c.tailoring.widths.parameter_octets ≤ 256 ^ 2 = pow-le-pow_right {n = 256} (omega arith) {i = c.tailoring.widths.parameter_octets} {j = 2} fit.widths.parameter_octets.1 in
      let small : q.octets ≤ 8 = omega (arith, p.0.shape.octets, p.0.shape.bits.1) in
      (omega (arith, p.0.id, p.1, most), low, in-sixteen q.form q.octets v small (fits-in_octets q v p.0.shape fit_value), (q, known, fit_value))

  act-within : (slot : ℕ) (earlier : List Moment) (act : Act) → EachAfter (MayHappen (session c)) earlier → AllByRecursion (λ m. IsActWithin c.tailoring slot m.act) earlier
      → IsBelow (length c.requests) act → IsFiledBy c.tailoring slot act → IfSome (request_number act) (IsInOrder (session c) earlier act) → TellsOutcome (session c) earlier act
      → FilesSample (session c) earlier act → IsActWithin c.tailoring slot act
  act-within slot earlier (Accepted k) h before below filed order outcome sample = omega (arith, below, room)
  act-within slot earlier (TurnedAway k) h before below filed order outcome sample = omega (arith, below, room)
  act-within slot earlier (Started k) h before below filed order outcome sample = omega (arith, below, room)
  act-within slot earlier (NotStarted k) h before below filed order outcome sample = omega (arith, below, room)
  act-within slot earlier (Executed k number flag) h before below filed order outcome sample =
      (omega (arith, below, room), number-few k number outcome.0 outcome.1)
  act-within slot earlier (Completed k refused) h before below filed order outcome sample =
      let few = completed-few (length (instructions_at (session c) k)) k (length (refused_so_far k earlier)) refused (last_act k earlier) order.order (refused-few (session c) k earlier h) in (
        omega (arith, below, room),
        omega (arith, ap length outcome, length-reverse (refused_so_far k earlier), few, count-few k),
        subst (AllByRecursion (λ n. n ≤ 255)) (sym outcome) (all-reverse (λ n. n ≤ 255) (refused_so_far k earlier) (refused-small c.tailoring slot k earlier before)),
      )
  act-within slot earlier Emitted h before below filed order outcome sample = tt
  act-within slot earlier (Filed id x value) h before below filed order outcome sample =
      sample-small slot id x value sample.0 sample.1.known sample.1.fit filed.0

  acts-within : (slot : ℕ) (moments : List Moment) → EachAfter (MayHappen (session c)) moments → AreBelow (length c.requests) moments → AreFiledBy c.tailoring slot moments
      → AllByRecursion (λ m. IsActWithin c.tailoring slot m.act) moments
  acts-within slot [] h below filed = tt
  acts-within slot (m ∷ earlier) h below filed =
      let before = acts-within slot earlier h.1 below.1 filed.1 in
      (act-within slot earlier m.act h.1 before below.0 filed.0 h.0.order h.0.outcome h.0.sample, before)

  -- a report has at most so many octets
  report-size : (m : Moment) (body : ReportBody) → IsReport (session c) m body → AreOctets m.packet → length m.packet ≤ 65542
  report-size m body h are =
      let r : Report = record { header = h.0; body = body } in
      (reports r m.packet are (readable-report c.tailoring m.packet r h.1)).size

  packet-size : (earlier : List Moment) (m : Moment) (act : Act) → Carries (session c) earlier m act → AreOctets m.packet → length m.packet ≤ 65542
  packet-size earlier m act h are = by_act act h
    where
      by_packet : (m.packet ≡ []) ⊎ ((body : ReportBody) × IsVerification body × IsReport (session c) m body) → length m.packet ≤ 65542
      by_packet (inl none) = omega (arith, ap length none)
      by_packet (inr told) = report-size m told.0 told.2 are

      by_act : (a : Act) → Carries (session c) earlier m a → length m.packet ≤ 65542
      by_act Emitted f = report-size m f.0 f.1 are
      by_act (Accepted k) f = by_packet (carries-verification (session c) earlier m (Accepted k) tt f)
      by_act (TurnedAway k) f = by_packet (carries-verification (session c) earlier m (TurnedAway k) tt f)
      by_act (Started k) f = by_packet (carries-verification (session c) earlier m (Started k) tt f)
      by_act (NotStarted k) f = by_packet (carries-verification (session c) earlier m (NotStarted k) tt f)
      by_act (Executed k number flag) f = by_packet (carries-verification (session c) earlier m (Executed k number flag) tt f)
      by_act (Completed k refused) f = by_packet (carries-verification (session c) earlier m (Completed k refused) tt f)
      by_act (Filed id x value) f = by_packet (carries-verification (session c) earlier m (Filed id x value) tt f)

  moments-within : (slot : ℕ) (moments : List Moment) → EachAfter (MayHappen (session c)) moments → AllByRecursion (λ m. AreOctets m.packet) moments
      → AllByRecursion (λ m. IsActWithin c.tailoring slot m.act) moments → AllByRecursion (IsWithin c.tailoring slot) moments
  moments-within slot [] h packets acts = tt
  moments-within slot (m ∷ earlier) h packets acts = (
    record {
      tag = h.0.tag.high;
      act = acts.0;
      octets = packets.0;
      size = packet-size earlier m m.act h.0.packet packets.0;
    },
    moments-within slot earlier h.1 packets.1 acts.1,
  )

-- the greatest tag has at most 56 bits
greatest-few : (t : TailoringParts) → IsFit t → greatest_tag t < 2 ^ 56
greatest-few t fit =
    let most : 256 ^ (t.widths.coarse + t.widths.fine) ≤ 256 ^ 7 = pow-le-pow_right {n = 256} (omega arith) {i = t.widths.coarse + t.widths.fine} {j = 7} (omega (arith, fit.widths.coarse.1, fit.widths.fine)) in
    omega (arith, most)

-- a slot is no greater than its first tag
slot-few : (slot width greatest : ℕ) → 1 ≤ width → slot * width ≤ greatest → slot ≤ greatest
slot-few slot width greatest some low = let more : slot ≤ slot * width = grow slot in omega (arith, low, more)
  where
    grow : (n : ℕ) → n ≤ n * width
    grow zero = omega arith
    grow (suc n) = omega (arith, some, grow n)

pub stands-journal : (c : Core) → IsFit c.tailoring → RequestsOnly c.tailoring → ReportsOnly c.tailoring → Stands c → IsJournal c
stands-journal c fit only reports k =
    record {
      room = k.room;
      greatest = greatest-few c.tailoring fit;
      slot = slot-few c.slot_now c.tailoring.widths.slot (greatest_tag c.tailoring) (omega (arith, fit.widths.slot.0)) k.early;
      moments = moments-within c fit only reports k.octets k.few c.slot_now c.moments k.good.timeline k.packets
          (acts-within c fit only reports k.octets k.few c.slot_now c.moments k.good.timeline k.good.below k.good.filed);
    }
