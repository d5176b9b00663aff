-- The reports of a board are counted one by one, all together and by message type.
use Rattle.std.proofs.Common.{◌≡◌, ℕ, ◌%◌, refl, sym, ◌∙◌, ap, ap₂, subst, List, [], ◌∷◌, length, map, cond, Bool, true, false, ◌==◌, ◌&&◌, Option, Some, None}
use Rattle.std.specs.List.{cons_option}
use Rattle.std.proofs.lemmas.Bool.{and_parts}
use Rattle.std.proofs.lemmas.Bool.Decides.{Decides-eqb}
use Rattle.std.proofs.lemmas.Option.{same_Some, none-some}
use Rattle.hk_base.specs.TailoringParts.{TailoringParts}
use Rattle.pus_messages.specs.Messages.{protocol}
use Rattle.pus_messages.specs.Protocol.{Protocol, Reception, foreign, skipped, unread, readable}
use Rattle.pus_messages.specs.Spelling.{report_type}
use Rattle.pus_messages.specs.declared.message.Report.{Report}
use Rattle.hk_world.specs.Timelines.{EachAfter, Session}
use Rattle.hk_world.specs.declared.moment.Moment.{Moment}
use Rattle.board_steps.specs.Cores.{Core, session, reports_of, report_in, is_of_type, header_of, HasNextHeader}
use Rattle.board_steps.specs.Plans.{Plan, prepared, planned}
use Rattle.board_steps.specs.Steps.{AreNext}
use Rattle.board_steps.specs.Runs.{IsRun}
use Rattle.board_steps.specs.Headers.{falling, has_type, of_type}
use Rattle.board_steps.specs.declared.event.Event.{Event}
use Rattle.board_steps.proofs.AddedLemmas.{filter-same}
use Rattle.board_steps.proofs.ReportLemmas.{prepared-tailoring}

-- each moment's report has the next header
abbrev pub HaveHeaders : Protocol → List Moment → Type 0
HaveHeaders p moments = EachAfter (HasNextHeader p) moments

next-headers : (s : Session) (clock slot : ℕ) (earlier after : List Moment) (plans : List Plan) → HaveHeaders s.protocol earlier → AreNext s clock slot earlier plans after → HaveHeaders s.protocol after
next-headers s clock slot earlier after [] all h = subst (HaveHeaders s.protocol) (sym h) all
next-headers s clock slot earlier after (plan ∷ plans) all h = next-headers s clock slot (h.0 ∷ earlier) after plans (h.1.header, all) h.2

pub run-headers : (t : TailoringParts) (events : List Event) (c : Core) → IsRun t events c → (c.tailoring ≡ t) × HaveHeaders (protocol t) c.moments
run-headers t [] c h = (ap (λ (x : Core). x.tailoring) h, subst (λ (x : Core). HaveHeaders (protocol t) x.moments) (sym h) tt)
run-headers t (event ∷ earlier) c h =
    let before : Core = h.0 in
    let was = run-headers t earlier before h.1 in
    let p : Core = prepared before event in
    let same : p.tailoring ≡ t = prepared-tailoring before event ∙ was.0 in
    let old : HaveHeaders (protocol p.tailoring) before.moments = subst (λ x. HaveHeaders (protocol x) before.moments) (sym same) was.1 in
    let new = next-headers (session p) p.clock before.slot_now before.moments c.moments (planned before event) old h.2.step.moments in
    (h.2.step.tailoring ∙ was.0, subst (λ x. HaveHeaders (protocol x) c.moments) same new)

-- the report of a reception
in-readable : (x : Reception) (r : Report) → report_in x ≡ Some r → x ≡ readable r
in-readable (readable q) r e = ap readable (same_Some q r e)
in-readable (foreign apid) r e = absurd (none-some r e)
in-readable (skipped service subtype) r e = absurd (none-some r e)
in-readable unread r e = absurd (none-some r e)

module _ (p : Protocol) where
  -- the sequence counts of the reports so far
  abbrev pub counts : List Moment → List ℕ
  counts moments = map (λ (r : Report). r.header.count) (reports_of p moments)

  pub counted : (moments : List Moment) → HaveHeaders p moments → counts moments ≡ falling 16384 (length (reports_of p moments))
  counted [] h = refl
  counted (m ∷ earlier) h = by_report (report_in (p.reception m.packet)) refl (counted earlier h.1)
    where
      by_report : (o : Option Report) → report_in (p.reception m.packet) ≡ o → counts earlier ≡ falling 16384 (length (reports_of p earlier))
          → map (λ (r : Report). r.header.count) (cons_option o (reports_of p earlier)) ≡ falling 16384 (length (cons_option o (reports_of p earlier)))
      by_report None e ih = ih
      by_report (Some r) e ih =
          let header : r.header ≡ header_of p earlier m.tag r.body = h.0 r (in-readable (p.reception m.packet) r e) in
          ap₂ (λ n ns. n ∷ ns) (ap (λ x. x.count) header) ih

  module _ (service subtype : ℕ) where
    -- the reports of the message type so far
    abbrev pub typed : List Moment → List Report
    typed moments = of_type service subtype (reports_of p moments)

    type-same : (r : Report) (header : r.header.service ≡ (report_type r.body).0) (other : r.header.subtype ≡ (report_type r.body).1) → has_type service subtype r ≡ true
        → (q : Report) → is_of_type r.body q ≡ has_type service subtype q
    type-same r header other e q =
        let parts = and_parts (r.header.service == service) (r.header.subtype == subtype) e in
        let s : (report_type r.body).0 ≡ service = sym header ∙ (Decides-eqb r.header.service service).0 parts.0 in
        let u : (report_type r.body).1 ≡ subtype = sym other ∙ (Decides-eqb r.header.subtype subtype).0 parts.1 in
        ap₂ (λ a b. q.header.service == a && q.header.subtype == b) s u

    pub typed-counted : (moments : List Moment) → HaveHeaders p moments → map (λ (r : Report). r.header.counter) (typed moments) ≡ falling 65536 (length (typed moments))
    typed-counted [] h = refl
    typed-counted (m ∷ earlier) h = by_report (report_in (p.reception m.packet)) refl (typed-counted earlier h.1)
      where
        by_type : (r : Report) → p.reception m.packet ≡ readable r → (b : Bool) → has_type service subtype r ≡ b
            → map (λ (q : Report). q.header.counter) (typed earlier) ≡ falling 65536 (length (typed earlier))
            → map (λ (q : Report). q.header.counter) (cond b (r ∷ typed earlier) (typed earlier)) ≡ falling 65536 (length (cond b (r ∷ typed earlier) (typed earlier)))
        by_type r is false e ih = ih
        by_type r is true e ih =
            let header : r.header ≡ header_of p earlier m.tag r.body = h.0 r is in
            let same = filter-same (is_of_type r.body) (has_type service subtype) (type-same r (ap (λ x. x.service) header) (ap (λ x. x.subtype) header) e) (reports_of p earlier) in
            ap₂ (λ n ns. n ∷ ns) (ap (λ x. x.counter) header ∙ ap (λ (qs : List Report). length qs % 65536) same) ih

        by_report : (o : Option Report) → report_in (p.reception m.packet) ≡ o → map (λ (q : Report). q.header.counter) (typed earlier) ≡ falling 65536 (length (typed earlier))
            → map (λ (q : Report). q.header.counter) (of_type service subtype (cons_option o (reports_of p earlier)))
            ≡ falling 65536 (length (of_type service subtype (cons_option o (reports_of p earlier))))
        by_report None e ih = ih
        by_report (Some r) e ih =
            let is = in-readable (p.reception m.packet) r e in
            let both = by_type r is (has_type service subtype r) refl ih in
            both
