-- What is held once a slot has ended, and what is answered.
use Rattle.std.proofs.Common.{arith, ◌≡◌, ℕ, suc, ◌+◌, ◌≤◌, pos, refl, sym, ◌∙◌, ap, subst, List, [], ◌∷◌, length, map, take, cond, Bool, true, false, ◌==◌, Option, Some, None, Ok}
use Rattle.std.specs.Prelude.{IfSome, filter, find, option_map, unwrap_or, if◌then◌else◌}
use Rattle.std.specs.List.{AllByRecursion, cons_option}
use Rattle.std.specs.Map.{lookup}
use Rattle.std.specs.Option.{option_map_or, option_and_then}
use Rattle.std.proofs.lemmas.Bool.Decides.{Decides-eqb, nat_tests}
use Rattle.std.proofs.lemmas.List.{length-map}
use Rattle.hk_base.specs.Fit.{IsFit}
use Rattle.hk_base.specs.Parameters.{is_settable, key_eq}
use Rattle.hk_base.specs.declared.types.Key.{Key}
use Rattle.hk_base.specs.declared.types.Param.{Param}
use Rattle.body_fields.specs.Spelling.{AreOctets}
use Rattle.statistics.specs.Summaries.{IsSampleValue}
use Rattle.st20_grammar.specs.declared.bodies.Setting.{Setting}
use Rattle.hk_world.specs.Timelines.{Session, Done, request_number, done_instructions}
use Rattle.hk_world.specs.declared.moment.Moment.{Moment}
use Rattle.hk_world.specs.declared.moment.Act.TheVariants.{Emitted}
use Rattle.hk_world.proofs.OrderLemmas.{true_is_not_false}
use Rattle.board_steps.specs.Cores.{Core, session, state_of, pending}
use Rattle.board_steps.specs.Plans.{tells, settables, own_filing, due_topics, tags_left, prepared, one_shot_after}
use Rattle.board_steps.specs.Slots.{is_set, is_spent}
use Rattle.board_steps.specs.Steps.{AreNext, IsStep, Answers}
use Rattle.board_steps.specs.Timeline.{IsGood}
use Rattle.board_steps.specs.declared.event.Event.TheVariants.{CloseSlot}
use Rattle.board_steps.proofs.ClosingLemmas.{AreIdsApart, closing-begins, settables-own}
use Rattle.board_steps.proofs.GrammarLemmas.{RequestsOnly}
use Rattle.board_steps.proofs.RunLemmas.{step-stands}
use Rattle.board_steps.proofs.ValueLemmas.{settable-value}
use Rattle.board_state.specs.Holdings.{held_at, ends_one_shot, after_slot, all_after_slot, one_shots_of, AreRisingKeys, AreStructures}
use Rattle.board_state.specs.Statistics.{StatisticsHeld, AreStatistics, IsSettled}
use Rattle.board_state.specs.Values.{AreValues, IsLater, channel_at, change_channel, filed_channel}
use Rattle.board_state.specs.Waiting.{RequestsHeld, AreWaiting}
use Rattle.board_state.specs.declared.channels.Channel.{Channel}
use Rattle.board_state.specs.declared.structures.Held.{Held}
use Rattle.board_state.proofs.ChannelLemmas.{IsNoFiling, SetsNone, is-valueless, values-still}
use Rattle.board_state.proofs.FilingLemmas.{AreOnce}
use Rattle.board_state.proofs.QuietLemmas.{waiting-still, settable-before, later-held}
use Rattle.board_state.proofs.RisingLemmas.{pending-is, held-ended, structures-ended}
use Rattle.board_core.specs.Boards.{core_of, IsWhole}
use Rattle.board_core.specs.Closing.{end_clock, end_settings, end_filings, own_setting, filing_of, with_filings, AreToFile}
use Rattle.board_core.specs.Logs.{LogParts, drafted, with_moments}
use Rattle.board_core.specs.Planned.{IsPlanned}
use Rattle.board_core.specs.Reporting.{FilesAll}
use Rattle.board_core.specs.declared.log.Draft.{Draft}
use Rattle.board_core.proofs.CloseValueLemmas.{IsToKeep, values-filed}
use Rattle.board_core.proofs.EndLemmas.{next-parts, filings-are}
use Rattle.board_core.proofs.EndReportLemmas.{filings-keep, filing-undone, report-undone}
use Rattle.board_core.proofs.ExecutedLemmas.{told-keep}
use Rattle.board_core.proofs.StatisticsClosingLemmas.{filings-held, reports-held, up-to-last, value-sampled}

-- the settings that are filed are each of another parameter
once-mapped : (c : Core) (p : Param) (ps : List Param) → AllByRecursion (λ q. (p.id == q.id) ≡ false) ps → AllByRecursion (λ (y : Setting). (p.id == y.param) ≡ false) (map (own_setting c) ps)
once-mapped c p [] h = tt
once-mapped c p (q ∷ ps) h = (h.0, once-mapped c p ps h.1)

are-once : (c : Core) (ps : List Param) → AreIdsApart ps → AreOnce (map (own_setting c) ps)
are-once c [] h = tt
are-once c (p ∷ ps) h = (once-mapped c p ps h.0, are-once c ps h.1)

settings-once : (c : Core) → IsFit c.tailoring → IsGood (session c) c.slot_now c.moments → AreOnce (end_settings c)
settings-once c fit good = are-once c (settables c.tailoring) (closing-begins c fit good).apart

module _ (c : Core) (fit : IsFit c.tailoring) (only : RequestsOnly c.tailoring) (octets : AllByRecursion AreOctets c.requests) (good : IsGood (session c) c.slot_now c.moments) where
  to-keep : (ps : List Param) → AllByRecursion (λ p. (find (λ q. q.id == p.id) c.tailoring.params ≡ Some p) × (is_settable p ≡ true)) ps
      → AllByRecursion (IsToKeep (session c) c.slot_now c.moments) (map (own_setting c) ps)
  to-keep [] h = tt
  to-keep (p ∷ ps) h =
      let set : is_set c.tailoring p.id ≡ true = ap (λ o. option_map_or is_settable o false) h.0.0 ∙ h.0.1 in
      let v = settable-value c only octets fit p p.id h.0.0 h.0.1 c.moments in (
        record {
          set = set;
          value = v.1 ∙ sym (ap (λ o. Some (unwrap_or o (pos 0))) v.1);
          before = settable-before c.tailoring p.id c.slot_now c.moments set good.filed;
        },
        to-keep ps h.1,
      )

  -- each is a value that is to be filed
  settings-to-keep : AllByRecursion (IsToKeep (session c) c.slot_now c.moments) (end_settings c)
  settings-to-keep = to-keep (settables c.tailoring) (settables-own c.tailoring fit)

  values-of : (ps : List Param) → AllByRecursion (λ p. (find (λ q. q.id == p.id) c.tailoring.params ≡ Some p) × (is_settable p ≡ true)) ps
      → AllByRecursion (λ (y : Setting). IsSampleValue y.value) (map (own_setting c) ps)
  values-of [] h = tt
  values-of (p ∷ ps) h =
      let v = settable-value c only octets fit p p.id h.0.0 h.0.1 c.moments in
      let is : v.0 ≡ unwrap_or ((state_of c).value p.id) (pos 0) = sym (ap (λ o. unwrap_or o (pos 0)) v.1) in
      (subst IsSampleValue is (value-sampled c.tailoring p.id p v.0 fit h.0.0 v.2), values-of ps h.1)

  -- and can be a sample
  pub settings-sampled : AllByRecursion (λ (y : Setting). IsSampleValue y.value) (end_settings c)
  settings-sampled = values-of (settables c.tailoring) (settables-own c.tailoring fit)

  -- its sample is later than those that are held
  settings-later : (channels : List (ℕ × Channel)) → AreValues (session c) c.moments channels → (xs : List Setting) → AllByRecursion (IsToKeep (session c) c.slot_now c.moments) xs
      → AllByRecursion (λ (y : Setting). IfSome (channel_at channels y.param) (IsLater c.slot_now)) xs
  settings-later channels h [] k = tt
  settings-later channels h (y ∷ ys) k = (later-held (session c) c.moments channels y.param c.slot_now k.0.before h, settings-later channels h ys k.1)

-- a parameter that isn't changed
channel-other : (id other : ℕ) (f : Channel → Channel) (cs : List (ℕ × Channel)) → (id == other) ≡ false → channel_at (change_channel id f cs) other ≡ channel_at cs other
channel-other id other f [] e = refl
channel-other id other f (x ∷ cs) e = go (id == x.0) (other == x.0) refl refl (channel-other id other f cs e)
  where
    go : (a b : Bool) → (id == x.0) ≡ a → (other == x.0) ≡ b → channel_at (change_channel id f cs) other ≡ channel_at cs other
        → lookup (λ k. other == k) ((if a then (x.0, f x.1) else x) ∷ change_channel id f cs) ≡ lookup (λ k. other == k) (x ∷ cs)
    go true true p q ih =
        let same : id ≡ other = (Decides-eqb id x.0).0 p ∙ sym ((Decides-eqb other x.0).0 q) in
        absurd (true_is_not_false (own id ∙ ap (λ k. id == k) same ∙ e))
      where
        own : (n : ℕ) → true ≡ (n == n)
        own n = grind (arith, nat_tests)
    go true false p q ih = ap (λ b. cond b (Some (f x.1)) (channel_at (change_channel id f cs) other)) q ∙ ih ∙ sym (ap (λ b. cond b (Some x.1) (channel_at cs other)) q)
    go false b p q ih = ap (λ o. cond (other == x.0) (Some x.1) o) ih

-- the other settings are still later
later-left : (slot : ℕ) (x : Setting) (channels : List (ℕ × Channel)) (ys : List Setting) → AllByRecursion (λ (y : Setting). (x.param == y.param) ≡ false) ys
    → AllByRecursion (λ (y : Setting). IfSome (channel_at channels y.param) (IsLater slot)) ys
    → AllByRecursion (λ (y : Setting). IfSome (channel_at (change_channel x.param (filed_channel slot x.value) channels) y.param) (IsLater slot)) ys
later-left slot x channels [] apart h = tt
later-left slot x channels (y ∷ ys) apart h = (
  subst (λ o. IfSome o (IsLater slot)) (sym (channel-other x.param y.param (filed_channel slot x.value) channels apart.0)) h.0,
  later-left slot x channels ys apart.1 h.1,
)

all-to-file : (slot : ℕ) (channels : List (ℕ × Channel)) (xs : List Setting) → AreOnce xs → AllByRecursion (λ (y : Setting). IfSome (channel_at channels y.param) (IsLater slot)) xs
    → AreToFile slot channels xs
all-to-file slot channels [] once h = tt
all-to-file slot channels (x ∷ xs) once h =
    (h.0, all-to-file slot (change_channel x.param (filed_channel slot x.value) channels) xs once.1 (later-left slot x channels xs once.0 h.1))

-- the values of settable parameters may be filed one after the other
pub settings-to-file : (c : Core) (channels : List (ℕ × Channel)) → IsFit c.tailoring → RequestsOnly c.tailoring → AllByRecursion AreOctets c.requests → IsGood (session c) c.slot_now c.moments
    → AreValues (session c) c.moments channels → AreToFile c.slot_now channels (end_settings c)
settings-to-file c channels fit only octets good h =
    all-to-file c.slot_now channels (end_settings c) (settings-once c fit good)
    (settings-later c fit only octets good channels h (end_settings c) (settings-to-keep c fit only octets good))

module _ (clock slot : ℕ) (rq : RequestsHeld) (held : List (Key × Held)) (l : LogParts) (channels : List (ℕ × Channel)) (members : StatisticsHeld)
    (fit : IsFit l.tailoring) (only : RequestsOnly l.tailoring) (b : IsWhole (core_of clock slot rq held l) rq.waiting held channels members)
    (d : Draft) (plan : IsPlanned (core_of clock slot rq held l) CloseSlot d) (rising : AreRisingKeys (all_after_slot slot held)) where
  -- the one-shots that are spent are over
  shots : (key : Key) → lookup (key_eq key) (one_shots_of (all_after_slot slot held)) ≡ one_shot_after (core_of clock slot rq held l) CloseSlot key
  shots key =
      pending-is (all_after_slot slot held) rising key ∙ ap (option_and_then (λ h. h.one_shot)) (held-ended slot held key)
      ∙ go (held_at held key) refl
    where
      pend : pending (core_of clock slot rq held l) key ≡ option_and_then (λ h. h.one_shot) (held_at held key)
      pend = pending-is held b.structures.rising key

      go : (o : Option Held) → held_at held key ≡ o
          → option_and_then (λ h. h.one_shot) (option_map (after_slot slot) o) ≡ one_shot_after (core_of clock slot rq held l) CloseSlot key
      go None e =
          let none : (state_of (core_of clock slot rq held l)).structure key ≡ None = sym (b.structures.same key) ∙ ap (option_map (λ (y : Held). y.structure)) e in
          sym (ap (λ o. if option_map_or (is_spent (core_of clock slot rq held l) key) o false then None else pending (core_of clock slot rq held l) key) none
          ∙ pend ∙ ap (option_and_then (λ (h : Held). h.one_shot)) e)
      go (Some h) e =
          let there : (state_of (core_of clock slot rq held l)).structure key ≡ Some h.structure = sym (b.structures.same key) ∙ ap (option_map (λ (y : Held). y.structure)) e in
          let own : pending (core_of clock slot rq held l) key ≡ h.one_shot = pend ∙ ap (option_and_then (λ (y : Held). y.one_shot)) e in
          by (ends_one_shot slot h)
          ∙ sym (ap (λ o. if option_map_or (is_spent (core_of clock slot rq held l) key) o false then None else pending (core_of clock slot rq held l) key) there
          ∙ ap (λ p. if option_map_or (λ first. first + h.structure.def.interval == slot + 1) p false then None else p) own)
        where
          by : (x : Bool) → (if x then record h { one_shot = None } else h).one_shot ≡ (if x then None else h.one_shot)
          by true = refl
          by false = refl

  step : IsStep (core_of clock slot rq held l) CloseSlot (core_of (end_clock (core_of clock slot rq held l)) (slot + 1) rq (all_after_slot slot held) (with_moments l (drafted l d.moments.items)))
  step = record { tailoring = refl; clock = refl; requests = refl; slot_now = refl; one_shots = shots; moments = plan.moments }

  -- what is answered
  closed : (count : ℕ) → count ≡ length d.moments.items
      → Answers (core_of clock slot rq held l) CloseSlot (core_of (end_clock (core_of clock slot rq held l)) (slot + 1) rq (all_after_slot slot held) (with_moments l (drafted l d.moments.items))) (Ok count)
  closed count is = (plan.room, plan.time, is ∙ plan.count, step)

  parts : (mid : List Moment) × AreNext (session (core_of clock slot rq held l)) (end_clock (core_of clock slot rq held l)) slot l.moments (end_filings (core_of clock slot rq held l)) mid
      × AreNext (session (core_of clock slot rq held l)) (end_clock (core_of clock slot rq held l)) slot mid
      (map tells (take (tags_left (prepared (core_of clock slot rq held l) CloseSlot)) (due_topics (core_of clock slot rq held l)))) (drafted l d.moments.items)
  parts =
      next-parts (session (core_of clock slot rq held l)) (end_clock (core_of clock slot rq held l)) slot l.moments (drafted l d.moments.items) (end_filings (core_of clock slot rq held l))
      (map tells (take (tags_left (prepared (core_of clock slot rq held l) CloseSlot)) (due_topics (core_of clock slot rq held l)))) plan.moments

  -- what filings and reports leave
  kept : (P : List Moment → Type 0) → ((m : Moment) (earlier : List Moment) (p : Param) → m.act ≡ own_filing (core_of clock slot rq held l) p → P earlier → P (m ∷ earlier))
      → ((m : Moment) (earlier : List Moment) → m.act ≡ Emitted → P earlier → P (m ∷ earlier)) → P l.moments → P (drafted l d.moments.items)
  kept P files reports h =
      told-keep P (session (core_of clock slot rq held l)) (end_clock (core_of clock slot rq held l)) slot reports
      (take (tags_left (prepared (core_of clock slot rq held l) CloseSlot)) (due_topics (core_of clock slot rq held l))) parts.0 (drafted l d.moments.items) parts.2
      (filings-keep P (session (core_of clock slot rq held l)) (end_clock (core_of clock slot rq held l)) slot (core_of clock slot rq held l) files (settables l.tailoring) l.moments parts.0 parts.1 h)

  next : AreNext (session (core_of clock slot rq held l)) (end_clock (core_of clock slot rq held l)) slot l.moments (map (filing_of slot) (end_settings (core_of clock slot rq held l))) parts.0
  next =
      subst (λ ps. AreNext (session (core_of clock slot rq held l)) (end_clock (core_of clock slot rq held l)) slot l.moments ps parts.0) (sym (filings-are (core_of clock slot rq held l))) parts.1

  values-then : AreValues (session (core_of clock slot rq held l)) (drafted l d.moments.items) (with_filings slot (end_settings (core_of clock slot rq held l)) channels)
  values-then =
      let s : Session = session (core_of clock slot rq held l) in
      told-keep (λ ms. AreValues s ms (with_filings slot (end_settings (core_of clock slot rq held l)) channels)) s (end_clock (core_of clock slot rq held l)) slot
      (λ m earlier a p. values-still s m earlier (with_filings slot (end_settings (core_of clock slot rq held l)) channels)
      (is-valueless s m (subst IsNoFiling (sym a) tt) (subst (λ (o : Option Done). IfSome o (λ y. SetsNone y.instruction)) (sym (report-undone s m a)) tt)) p)
      (take (tags_left (prepared (core_of clock slot rq held l) CloseSlot)) (due_topics (core_of clock slot rq held l))) parts.0 (drafted l d.moments.items) parts.2
      (values-filed s (end_clock (core_of clock slot rq held l)) slot (end_settings (core_of clock slot rq held l)) l.moments parts.0 channels
      (settings-once (core_of clock slot rq held l) fit b.board.stands.good)
      (settings-to-keep (core_of clock slot rq held l) fit only b.board.stands.octets b.board.stands.good) next b.values)

  statistics-then : (x : StatisticsHeld) → FilesAll slot (end_settings (core_of clock slot rq held l)) members x
      → AreStatistics (session (core_of clock slot rq held l)) (drafted l d.moments.items) x × IsSettled (session (core_of clock slot rq held l)) (drafted l d.moments.items)
  statistics-then x files =
      let s : Session = session (core_of clock slot rq held l) in
      reports-held s (end_clock (core_of clock slot rq held l)) slot
      (take (tags_left (prepared (core_of clock slot rq held l) CloseSlot)) (due_topics (core_of clock slot rq held l))) parts.0 (drafted l d.moments.items) x parts.2
      (filings-held s (end_clock (core_of clock slot rq held l)) slot (end_settings (core_of clock slot rq held l)) l.moments parts.0 members x (refl, refl)
      (up-to-last s l.moments b.board.stands.good.timeline) next files b.settled b.statistics)

  -- and what is held then
  closing-holds : (x : StatisticsHeld) → FilesAll slot (end_settings (core_of clock slot rq held l)) members x
      → IsWhole (core_of (end_clock (core_of clock slot rq held l)) (slot + 1) rq (all_after_slot slot held) (with_moments l (drafted l d.moments.items))) rq.waiting (all_after_slot slot held)
      (with_filings slot (end_settings (core_of clock slot rq held l)) channels) x
  closing-holds x files =
      let c : Core = core_of clock slot rq held l in
      let s : Session = session (core_of clock slot rq held l) in
      let after : Core = core_of (end_clock (core_of clock slot rq held l)) (slot + 1) rq (all_after_slot slot held) (with_moments l (drafted l d.moments.items)) in
      let stood = step-stands c CloseSlot after fit only b.board.stands (record { comes = tt; room = plan.room; time = plan.time; step = step }) in
      let dones = kept (λ ms. done_instructions s ms ≡ done_instructions s l.moments)
      (λ m earlier p act k. ap (λ o. cons_option o (done_instructions s earlier)) (filing-undone s c m p act) ∙ k)
      (λ m earlier act k. ap (λ o. cons_option o (done_instructions s earlier)) (report-undone s m act) ∙ k) refl in
      let now = statistics-then x files in
      record {
        board = record {
          stands = stood;
          waits = kept (λ ms. AreWaiting s ms rq.waiting) (λ m earlier p act k. waiting-still s earlier m (ap request_number act) rq.waiting k)
              (λ m earlier act k. waiting-still s earlier m (ap request_number act) rq.waiting k) b.board.waits;
          room = stood.room;
        };
        structures = structures-ended l.tailoring (done_instructions s (drafted l d.moments.items)) slot held rising
            (subst (λ ds. AreStructures l.tailoring ds held) (sym dones) b.structures);
        values = values-then;
        statistics = now.0;
        settled = now.1;
      }

  -- both, by what is held then
  pub closing-done : (x : StatisticsHeld) → FilesAll slot (end_settings (core_of clock slot rq held l)) members x → (clock2 : ℕ) (held2 : List (Key × Held)) (l2 : LogParts)
      (channels2 : List (ℕ × Channel)) (count : ℕ) → clock2 ≡ end_clock (core_of clock slot rq held l) → held2 ≡ all_after_slot slot held → l2 ≡ with_moments l (drafted l d.moments.items)
      → channels2 ≡ with_filings slot (end_settings (core_of clock slot rq held l)) channels → count ≡ length d.moments.items
      → Answers (core_of clock slot rq held l) CloseSlot (core_of clock2 (slot + 1) rq held2 l2) (Ok count) × IsWhole (core_of clock2 (slot + 1) rq held2 l2) rq.waiting held2 channels2 x
  closing-done x files clock2 held2 l2 channels2 count e1 e2 e3 e4 e5 =
      let c : Core = core_of clock slot rq held l in
      let l3 : LogParts = with_moments l (drafted l d.moments.items) in
      let ended : List (Key × Held) = all_after_slot slot held in
      let P : ℕ → List (Key × Held) → LogParts → List (ℕ × Channel) → Type 0 =
      λ k h y cs. Answers (core_of clock slot rq held l) CloseSlot (core_of k (slot + 1) rq h y) (Ok count) × IsWhole (core_of k (slot + 1) rq h y) rq.waiting h cs x in
      let all : P (end_clock c) ended l3 (with_filings slot (end_settings c) channels) = (closed count e5, closing-holds x files) in
      subst (λ k. P k held2 l2 channels2) (sym e1)
      (subst (λ h. P (end_clock c) h l2 channels2) (sym e2)
      (subst (λ y. P (end_clock c) ended y channels2) (sym e3)
      (subst (λ cs. P (end_clock c) ended l3 cs) (sym e4) all)))

filter-short : (test : Param → Bool) (ps : List Param) → length (filter test ps) ≤ length ps
filter-short test [] = omega arith
filter-short test (p ∷ ps) = go (test p) (filter-short test ps)
  where
    go : (b : Bool) → length (filter test ps) ≤ length ps → length (cond b (p ∷ filter test ps) (filter test ps)) ≤ suc (length ps)
    go true h = omega (arith, h)
    go false h = omega (arith, h)

-- there are no more settings than parameters
pub settings-few : (c : Core) → IsFit c.tailoring → length (end_settings c) ≤ 512
settings-few c fit =
    let same = length-map (settables c.tailoring) (own_setting c) in
    let few = filter-short is_settable c.tailoring.params in
    let most = fit.count.1 in
    omega (arith, same, few, most)

pub settings-length : (c : Core) → length (end_settings c) ≡ length (settables c.tailoring)
settings-length c = length-map (settables c.tailoring) (own_setting c)
