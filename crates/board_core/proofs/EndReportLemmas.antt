-- The reports at the end of a slot tell what the filings left: the samples of structures, and the statistics.
use Rattle.std.proofs.Common.{arith, ◌≡◌, ℕ, ◌+◌, ◌*◌, ◌^◌, ◌<◌, ◌≤◌, ℤ, pos, refl, sym, ◌∙◌, ap, subst, List, [], ◌∷◌, length, length-append, map, false, ◌==◌, ◌&&◌, Some, None}
use Rattle.std.specs.Prelude.{IsTrue, unwrap_or}
use Rattle.std.specs.List.{All, AllByRecursion}
use Rattle.std.specs.Option.{option_or}
use Rattle.std.proofs.lemmas.List.Elements.{All-from_recursion}
use Rattle.std.proofs.Math.Nat.{pow-le-pow_right}
use Rattle.hk_base.specs.Fit.{IsFit, greatest_tag}
use Rattle.hk_base.specs.Fields.{octets_of}
use Rattle.hk_base.specs.Parameters.{fits}
use Rattle.hk_base.specs.Payload.{places}
use Rattle.hk_base.specs.declared.types.Key.{Key}
use Rattle.hk_base.specs.declared.types.Param.{Param}
use Rattle.hk_base.specs.declared.types.Place.{Place}
use Rattle.hk_base.proofs.FieldLemmas.{length-digits}
use Rattle.body_fields.specs.Spelling.{AreOctets}
use Rattle.st03_grammar.specs.declared.bodies.Report03.TheVariants as hk
use Rattle.pus_messages.specs.declared.message.ReportBody.{ReportBody}
use Rattle.pus_messages.specs.declared.message.ReportBody.TheVariants.{Hk}
use Rattle.hk_world.specs.Honest.{IsFiled}
use Rattle.hk_world.specs.Legal.{is_filing}
use Rattle.hk_world.specs.Timelines.{Session, done_by, done_at, state_after}
use Rattle.hk_world.specs.declared.moment.Moment.{Moment}
use Rattle.hk_world.specs.declared.moment.Act.TheVariants.{Filed, Emitted}
use Rattle.board_steps.specs.Cores.{Core, session, state_of, next_tag}
use Rattle.board_steps.specs.Plans.{Topic, does, tells, samples_of, statistics, settables, own_filing}
use Rattle.board_steps.specs.Slots.{sample_at, filed_at}
use Rattle.board_steps.specs.Steps.{AreNext, IsAbout}
use Rattle.board_steps.specs.Timeline.{IsGood}
use Rattle.board_steps.proofs.ClosingLemmas.{IsToFile, IsClosing, closing-begins}
use Rattle.board_steps.proofs.GrammarLemmas.{RequestsOnly}
use Rattle.board_steps.proofs.NextLemmas.{MayDo, does-next}
use Rattle.board_steps.proofs.RunLemmas.{next-length}
use Rattle.board_steps.proofs.TimeLemmas.{next-tag-more}
use Rattle.board_steps.proofs.ValueLemmas.{settable-value, still-set, still-structure}
use Rattle.board_state.specs.Statistics.{StatisticsHeld, AreStatistics, IsSettled, IsTimely}
use Rattle.board_state.proofs.StatisticsLemmas.{zip-mapped}
use Rattle.board_state.proofs.SummaryLemmas.{members-timely, report-honest}
use Rattle.board_core.specs.Closing.{end_clock, end_settings, end_filings, end_sample, IsEndPayload, AreEndStatistics, IsTelling}
use Rattle.board_core.specs.Logs.{IsWritable, drafted}
use Rattle.board_core.specs.Planned.{log_of}
use Rattle.board_core.specs.Reporting.{IsStatisticsBody}
use Rattle.board_core.specs.declared.log.Draft.{Draft}
use Rattle.board_core.proofs.EndLemmas.{next-parts, filings-are, filings-count}
use Rattle.board_core.proofs.EndSampleLemmas.{found-filed, filed-at-end}
use Rattle.board_core.proofs.ExecutedLemmas.{told-keep}
use Rattle.board_core.proofs.StatisticsClosingLemmas.{filings-held, reports-held, up-to-last}
use Rattle.board_core.proofs.StatisticsShortLemmas.{statistics-told}

-- what a filing leaves, some filings leave
pub filings-keep : (P : List Moment → Type 0) (s : Session) (clock slot : ℕ) (c : Core) → ((m : Moment) (earlier : List Moment) (p : Param) → m.act ≡ own_filing c p → P earlier → P (m ∷ earlier))
    → (ps : List Param) (earlier after : List Moment) → AreNext s clock slot earlier (map (λ p. does (own_filing c p)) ps) after → P earlier → P after
filings-keep P s clock slot c step [] earlier after h k = subst P (sym h) k
filings-keep P s clock slot c step (p ∷ ps) earlier after h k =
    filings-keep P s clock slot c step ps (h.0 ∷ earlier) after h.2 (step h.0 earlier p h.1.follows.0 k)

-- a filing does no instruction
pub filing-undone : (s : Session) (c : Core) (m : Moment) (p : Param) → m.act ≡ own_filing c p → done_at s m ≡ None
filing-undone s c m p e = ap (done_by s m.tag) e

pub report-undone : (s : Session) (m : Moment) → m.act ≡ Emitted → done_at s m ≡ None
report-undone s m e = ap (done_by s m.tag) e

-- a sample of one parameter is none of another
other-filing : (id other slot : ℕ) (v : ℤ) → (id == other) ≡ false → is_filing other slot (Filed id slot v) ≡ false
other-filing id other slot v e = ap (λ b. b && slot == slot) e

module _ (c : Core) (fit : IsFit c.tailoring) (only : RequestsOnly c.tailoring) (octets : AllByRecursion AreOctets c.requests) where
  -- the value of a settable parameter may be filed
  may-file : (p : Param) (ps : List Param) (earlier : List Moment) → IsClosing c (p ∷ ps) earlier → MayDo (session c) (c.slot_now + 1) earlier (own_filing c p)
  may-file p ps earlier h =
      let f = h.params.0 in
      let v = settable-value c only octets fit p p.id f.known f.set c.moments in
      let is : unwrap_or ((state_of c).value p.id) (pos 0) ≡ v.0 = ap (λ o. unwrap_or o (pos 0)) v.1 in
      record {
        handling = tt;
        order = tt;
        outcome = tt;
        sample = (
          p,
          record {
            known = f.known;
            fit = subst (λ w. IsTrue (fits p w)) (sym is) v.2;
            once = f.once;
            settable = λ set why. f.value ∙ v.1 ∙ ap Some (sym is);
          },
        );
        below = tt;
        filed = (omega arith, λ set. omega arith);
      }

  to-file-more : (p q : Param) (m : Moment) (earlier : List Moment) → m.act ≡ own_filing c p → (p.id == q.id) ≡ false → IsToFile c earlier q → IsToFile c (m ∷ earlier) q
  to-file-more p q m earlier e apart f =
      record {
        known = f.known;
        set = f.set;
        value = still-set c only octets q q.id f.known f.set m earlier (ap (done_by (session c) m.tag) e) ∙ f.value;
        once = (ap (is_filing q.id c.slot_now) e ∙ other-filing p.id q.id c.slot_now (unwrap_or ((state_of c).value p.id) (pos 0)) apart, f.once);
      }

  all-to-file-more : (p : Param) (m : Moment) (earlier : List Moment) → m.act ≡ own_filing c p → (ps : List Param) → AllByRecursion (λ q. (p.id == q.id) ≡ false) ps
      → AllByRecursion (IsToFile c earlier) ps → AllByRecursion (IsToFile c (m ∷ earlier)) ps
  all-to-file-more p m earlier e [] apart h = tt
  all-to-file-more p m earlier e (q ∷ ps) apart h = (to-file-more p q m earlier e apart.0 h.0, all-to-file-more p m earlier e ps apart.1 h.1)

  -- the filings may come
  filings-good : (ps : List Param) (earlier after : List Moment) → IsClosing c ps earlier → next_tag (end_clock c) earlier + length ps ≤ greatest_tag c.tailoring + 1
      → AreNext (session c) (end_clock c) c.slot_now earlier (map (λ p. does (own_filing c p)) ps) after → IsGood (session c) (c.slot_now + 1) after
  filings-good [] earlier after k time h = subst (IsGood (session c) (c.slot_now + 1)) (sym h) k.good
  filings-good (p ∷ ps) earlier after k time h =
      let m : Moment = h.0 in
      let more = next-tag-more (end_clock c) earlier m h.1.tag in
      let none = ap (done_by (session c) m.tag) h.1.follows.0 in
      let good = does-next (session c) (end_clock c) c.slot_now (c.slot_now + 1) earlier (own_filing c p) m k.good h.1 (omega (arith, time)) (may-file p ps earlier k) in
      let next : IsClosing c ps (m ∷ earlier) =
      record {
        good = good;
        structures = λ key. still-structure (session c) m earlier key none ∙ k.structures key;
        params = all-to-file-more p m earlier h.1.follows.0 ps k.apart.0 k.params.1;
        apart = k.apart.1;
      } in
      filings-good ps (m ∷ earlier) after next (omega (arith, time, more)) h.2

  module _ (good : IsGood (session c) c.slot_now c.moments) (topics : List Topic) (d : Draft) (h : IsTelling c topics d) where
    parts : (mid : List Moment) × AreNext (session c) (end_clock c) c.slot_now c.moments (end_filings c) mid
        × AreNext (session c) (end_clock c) c.slot_now mid (map tells topics) (drafted (log_of c) d.moments.items)
    parts = next-parts (session c) (end_clock c) c.slot_now c.moments (drafted (log_of c) d.moments.items) (end_filings c) (map tells topics) h.moments

    -- the structures are what they were
    structure-same : (key : Key) → (state_after (session c) (drafted (log_of c) d.moments.items)).structure key ≡ (state_of c).structure key
    structure-same key =
        told-keep (λ ms. (state_after (session c) ms).structure key ≡ (state_of c).structure key) (session c) (end_clock c) c.slot_now
        (λ m ms act p. still-structure (session c) m ms key (report-undone (session c) m act) ∙ p) topics parts.0 (drafted (log_of c) d.moments.items) parts.2
        (filings-keep (λ ms. (state_after (session c) ms).structure key ≡ (state_of c).structure key) (session c) (end_clock c) c.slot_now c
        (λ m ms p act q. still-structure (session c) m ms key (filing-undone (session c) c m p act) ∙ q) (settables c.tailoring) c.moments parts.0 parts.1 refl)

    -- each place has its sample
    sample-same : (place : Place) → sample_at place (drafted (log_of c) d.moments.items) ≡ end_sample c place
    sample-same place =
        told-keep (λ ms. sample_at place ms ≡ end_sample c place) (session c) (end_clock c) c.slot_now
        (λ m ms act p. ap (λ a. option_or (filed_at place a) (sample_at place ms)) act ∙ p) topics parts.0 (drafted (log_of c) d.moments.items) parts.2
        (filed-at-end c fit only octets place parts.0 parts.1)

    -- the report of a structure can be written, and tells its samples
    pub value-told : (key : Key) (payload : List ℕ) (tag : ℕ) → IsEndPayload c key payload
        → IsWritable c.tailoring (Hk (hk.Values key payload)) × IsAbout (session c) c.slot_now (drafted (log_of c) d.moments.items) tag (samples_of key) (Hk (hk.Values key payload))
    value-told key payload tag k = (
      record {
        grammar = k.id;
        room = let short = k.short in omega (arith, short);
        short = let short = k.short in
            let all = length-append (octets_of c.tailoring.widths.structure_octets key.id) payload in
            let named = length-digits 256 c.tailoring.widths.structure_octets key.id in
            let few = fit.widths.structure_octets.1 in
            omega (arith, all, named, few, short);
      },
      (
        payload,
        refl,
        record {
          structure = k.structure;
          values = k.values;
          is_there = structure-same key ∙ k.is_there;
          samples = zip-mapped (λ place v. end_sample c place ≡ Some v) (IsFiled (drafted (log_of c) d.moments.items))
              (λ place v e. found-filed place v (drafted (log_of c) d.moments.items) (sample-same place ∙ e)) (places k.structure.def c.slot_now) k.values k.samples;
          payload_is = k.payload_is;
        },
      ),
    )

    module _ (time : next_tag (end_clock c) c.moments + length (settables c.tailoring) ≤ greatest_tag c.tailoring) (room : length c.moments + length (settables c.tailoring) ≤ 1048576)
        (x : StatisticsHeld) (k : AreEndStatistics c x) where
      filed-good : IsGood (session c) (c.slot_now + 1) parts.0
      filed-good = filings-good (settables c.tailoring) c.moments parts.0 (closing-begins c fit good) (omega (arith, time)) parts.1

      filed-room : length parts.0 ≤ 1048576
      filed-room =
          let all = next-length (session c) (end_clock c) c.slot_now c.moments parts.0 (end_filings c) parts.1 in
          let count = filings-count c in
          omega (arith, all, count, room)

      early : (c.slot_now + 1) * c.tailoring.widths.slot ≤ greatest_tag c.tailoring
      early = omega (arith, time)

      small : greatest_tag c.tailoring < 2 ^ 63
      small =
          let coarse = fit.widths.coarse.1 in
          let fine = fit.widths.fine in
          let most : 256 ^ (c.tailoring.widths.coarse + c.tailoring.widths.fine) ≤ 256 ^ 7 =
          (let some : 0 < 256 = omega arith in let le : c.tailoring.widths.coarse + c.tailoring.widths.fine ≤ 7 = omega (arith, coarse, fine) in pow-le-pow_right some le) in
          omega (arith, most)

      filed-held : AreStatistics (session c) parts.0 x × IsSettled (session c) parts.0
      filed-held =
          let next = subst (λ ps. AreNext (session c) (end_clock c) c.slot_now c.moments ps parts.0) (sym (filings-are c)) parts.1 in
          filings-held (session c) (end_clock c) c.slot_now (end_settings c) c.moments parts.0 k.old x (refl, refl) (up-to-last (session c) c.moments good.timeline) next k.files k.settled k.held

      -- the times of the statistics can be told
      pub end-timely : All (IsTimely c.tailoring) x.members
      end-timely =
          All-from_recursion (IsTimely c.tailoring) x.members
          (members-timely (session c) (c.slot_now + 1) parts.0 x filed-good (let a = early in let b = small in omega (arith, a, b)) filed-held.0)

      -- their report can be written, and is honest
      pub statistics-end : (tag : ℕ) (body : ReportBody) → tag ≤ greatest_tag c.tailoring → IsStatisticsBody c.tailoring x tag body
          → IsWritable c.tailoring body × IsAbout (session c) c.slot_now (drafted (log_of c) d.moments.items) tag statistics body
      statistics-end tag body le q =
          let later = reports-held (session c) (end_clock c) c.slot_now topics parts.0 (drafted (log_of c) d.moments.items) x parts.2 filed-held in (
            (statistics-told (session c) (c.slot_now + 1) c.slot_now parts.0 x tag body fit filed-good filed-room early (refl, refl) le filed-held.0 q).0,
            (q.0, q.1, report-honest (session c) (drafted (log_of c) d.moments.items) x tag q.0 later.0 q.2),
          )
