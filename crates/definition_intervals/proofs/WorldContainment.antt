-- In a world the state at a report is possible from each opening.
use Rattle.std.proofs.Common.{arith, ◌≡◌, ◌≢◌, ℕ, ◌<◌, ◌≤◌, refl, sym, ◌∙◌, ap, subst, List, [], ◌∷◌, Bool, true, false, ◌⊎◌, inl, inr, nat_lt, cond, Option, Some, None, Result, Ok, Err}
use Rattle.std.specs.Prelude.{filter_map, option_map, MatchBool, if◌then◌else◌}
use Rattle.std.proofs.lemmas.Bool.{both_ways, ltb-true, le-ltb}
use Rattle.hk_base.specs.Parameters.{key_eq, boot_structure}
use Rattle.hk_base.specs.declared.types.Key.{Key}
use Rattle.hk_base.specs.declared.types.Structure.{Structure}
use Rattle.st01_reports.specs.declared.verification.Cause.{Cause}
use Rattle.st01_reports.specs.declared.verification.Verification.{Verification}
use Rattle.st01_reports.specs.declared.verification.Verification.TheVariants as verify
use Rattle.st03_grammar.specs.declared.bodies.Report03.TheVariants as hk
use Rattle.pus_messages.specs.Instructions.{Instruction}
use Rattle.pus_messages.specs.Protocol.{Protocol, Reception, foreign, skipped, unread, readable}
use Rattle.pus_messages.specs.declared.message.Report.{Report}
use Rattle.pus_messages.specs.declared.message.ReportBody.{ReportBody}
use Rattle.pus_messages.specs.declared.message.ReportBody.TheVariants.{Verify, Hk, Stat, Par}
use Rattle.hk_world.specs.States.{BoardState}
use Rattle.hk_world.specs.Timelines.{EachAfter, Session, tailoring, moments_before, instruction_at}
use Rattle.hk_world.specs.Honest.{Carries, IsReport, IsHonestBody, IsSilent, IsRefusedFor, asks_for, has_several, request_id}
use Rattle.hk_world.specs.Worlds.{World, Step, send, happen, deliver, stray, MayStep, IsWorld, moments_of, deliveries_of, world_state_at, entries_seen, Entry, sent, got}
use Rattle.hk_world.specs.declared.moment.Moment.{Moment}
use Rattle.hk_world.specs.declared.moment.Act.{Act}
use Rattle.hk_world.specs.declared.moment.Act.TheVariants.{Accepted, TurnedAway, Started, NotStarted, Executed, Completed, Emitted, Filed}
use Rattle.hk_world.proofs.WorldLemmas.{IsWorld-legal, IsWorld-honest}
use Rattle.ground_history.specs.Histories.{Kept, History, tag_of, history_of, history_with_sent, history_with_report, history_with_got, kind_by_reception, sent_answer}
use Rattle.ground_history.specs.declared.answer.SentFault.{SentFault}
use Rattle.ground_history.specs.declared.answer.GotKind.{GotKind}
use Rattle.ground_history.specs.declared.answer.GotKind.TheVariants as became
use Rattle.ground_history.specs.Bounds.{history_in}
use Rattle.ground_history.proofs.KeptLemmas.{IsDelivered, kept_delivered}
use Rattle.definition_intervals.specs.Openings.{Opening, opening, openings, boot_openings, report_opening, reported_structure}
use Rattle.definition_intervals.specs.States.{is_possible_from}
use Rattle.definition_intervals.specs.Soundness.{IsContained}
use Rattle.hk_base.proofs.Membership.{some_value, IsIn, IsIn-append, IsIn-filter_map, IsIn-AllByRecursion, AllByRecursion-IsIn, slice_get-IsIn}
use Rattle.definition_intervals.proofs.StateLemmas.{key_eq-same, structure_by, each_at, unique_tag, positive_tag}
use Rattle.definition_intervals.proofs.KnownFacts.{IsKnown, NamesOnce}
use Rattle.definition_intervals.proofs.CandidateLemmas.{IsSetting}
use Rattle.definition_intervals.proofs.ContainmentLemmas.{contained}

-- what a report says that is no verification report
abbrev pub is_verification : ReportBody → Bool
is_verification (Verify v) = true
is_verification (Hk r) = false
is_verification (Stat r) = false
is_verification (Par r) = false

abbrev read_report : Reception → Report → Report
read_report (readable r) other = r
read_report _ other = other

-- octets are one report
readable-same : (x : Reception) (a b : Report) → x ≡ readable a → x ≡ readable b → a ≡ b
readable-same x a b e f = ap (λ y. read_report y a) (sym e ∙ f)

-- a moment that carries a report that is no verification report emits it, and it is honest
record IsEmitted (s : Session) (earlier : List Moment) (m : Moment) (act : Act) (r : Report) : Type 0 where
  emits : act ≡ Emitted
  honest : IsHonestBody s earlier m.tag r.body
  tagged : r.header.tag ≡ m.tag

module _ (s : Session) (earlier : List Moment) (m : Moment) (r : Report) (there : m.packet ≢ []) (reads : s.protocol.reception m.packet ≡ readable r) (other : is_verification r.body ≡ false) where
  no_verification : (act : Act) (v : Verification) → IsReport s m (Verify v) → IsEmitted s earlier m act r
  no_verification act v x =
      let body : r.body ≡ Verify v = ap (λ (q : Report). q.body) (readable-same (s.protocol.reception m.packet) r (record { header = x.0; body = Verify v }) reads x.1) in
      absurd (both_ways (is_verification r.body) other (ap is_verification body))

  no_silence : (act : Act) → IsSilent m → IsEmitted s earlier m act r
  no_silence act x = absurd (there x)

  no_choice : (act : Act) (b : Bool) (v : Verification) → MatchBool b (IsReport s m (Verify v)) (IsSilent m) → IsEmitted s earlier m act r
  no_choice act true v x = no_verification act v x
  no_choice act false v x = no_silence act x

  failed : (k n : ℕ) (b : Bool)
      → MatchBool b ((x : Instruction) × (c : Cause) × (instruction_at s k n ≡ Some x) × IsRefusedFor s earlier x c × IsReport s m (Verify (verify.StepFailed (request_id s k) n c))) (IsSilent m)
      → IsEmitted s earlier m (Executed k n false) r
  failed k n true x = no_verification (Executed k n false) _ x.4
  failed k n false x = no_silence (Executed k n false) x

  carried : (act : Act) → Carries s earlier m act → IsEmitted s earlier m act r
  carried (Accepted k) x = no_choice (Accepted k) (asks_for 0 s k) _ x
  carried (TurnedAway k) x = no_verification (TurnedAway k) _ x.4
  carried (Started k) x = no_choice (Started k) (asks_for 1 s k) _ x
  carried (NotStarted k) x = no_verification (NotStarted k) _ x.4
  carried (Executed k n true) x = no_choice (Executed k n true) _ _ x
  carried (Executed k n false) x = failed k n (has_several s k) x
  carried (Completed k []) x = no_choice (Completed k []) (asks_for 3 s k) _ x
  carried (Completed k (n ∷ ns)) x = no_verification (Completed k (n ∷ ns)) _ x
  carried Emitted x =
      let same : r ≡ record { header = x.1.0; body = x.0 } = readable-same (s.protocol.reception m.packet) r (record { header = x.1.0; body = x.0 }) reads x.1.1 in
      record {
        emits = refl;
        honest = subst (λ (q : Report). IsHonestBody s earlier m.tag q.body) (sym same) x.2;
        tagged = ap (λ (q : Report). q.header.tag) same ∙ x.1.2;
      }
  carried (Filed param slot value) x = no_silence (Filed param slot value) x

-- what was delivered happened, and has octets
delivered : (s : Session) (steps : List Step) → EachAfter (MayStep s) steps → (m : Moment) → IsIn m (deliveries_of steps) → IsIn m (moments_of steps) × (m.packet ≢ [])
delivered s [] h m i = absurd i
delivered s (send k ∷ earlier) h m i = delivered s earlier h.1 m i
delivered s (happen n ∷ earlier) h m i = let r = delivered s earlier h.1 m i in (inr r.0, r.1)
delivered s (deliver n ∷ earlier) h m (inl e) =
    let here : IsIn n (moments_of earlier) = slice_get-IsIn n (moments_of earlier) h.0.0.0 h.0.0.1 in
    subst (λ x. IsIn x (moments_of earlier) × (x.packet ≢ [])) (sym e) (here, h.0.1)
delivered s (deliver n ∷ earlier) h m (inr i) = delivered s earlier h.1 m i
delivered s (stray packet ∷ earlier) h m i = delivered s earlier h.1 m i

-- the moment that a kept report was emitted at
pub record IsReported (s : Session) (ms : List Moment) (k : Kept) : Type 0 where
  pub moment : Moment
  pub here : IsIn moment ms
  pub emits : moment.act ≡ Emitted
  pub honest : IsHonestBody s (moments_before moment.tag ms) moment.tag k.report.body
  pub tagged : tag_of k ≡ moment.tag

-- a kept report that is no verification report was emitted, and is honest
pub kept_reported : (w : World) → IsWorld w → (k : Kept) → IsIn k (history_in w).kept → is_verification k.report.body ≡ false → IsReported w.session (moments_of w.steps) k
kept_reported w world k i other =
    let got : IsDelivered w.session w.steps k = AllByRecursion-IsIn (IsDelivered w.session w.steps) k (history_in w).kept (kept_delivered w.session w.steps world.steps) i in
    let m : Moment = got.1 in
    let happened = delivered w.session w.steps world.steps m (slice_get-IsIn m (deliveries_of w.steps) got.0 got.2) in
    let reads : w.session.protocol.reception m.packet ≡ readable k.report = ap (λ p. w.session.protocol.reception p) got.3 ∙ got.4 in
    let carries : Carries w.session (moments_before m.tag (moments_of w.steps)) m m.act =
    each_at (λ earlier x. Carries w.session earlier x x.act) w.session m (moments_of w.steps) (IsWorld-legal w world).tags (IsWorld-honest w world) happened.0 in
    let e : IsEmitted w.session (moments_before m.tag (moments_of w.steps)) m m.act k.report =
    carried w.session (moments_before m.tag (moments_of w.steps)) m k.report happened.1 reads other m.act carries in
    record { moment = m; here = happened.0; emits = e.emits; honest = e.honest; tagged = e.tagged }

-- a structure that is reported
pub reported_is : (key : Key) (body : ReportBody) (st : Structure) → reported_structure key body ≡ Some st → (named : Key) × (body ≡ Hk (hk.Structure named st)) × (named ≡ key)
reported_is key (Verify v) st e = absurd (let no : None ≡ Some st → ⊥ = λ e. cc in no e)
reported_is key (Hk (hk.Values named payload)) st e = absurd (let no : None ≡ Some st → ⊥ = λ e. cc in no e)
reported_is key (Hk (hk.Structure named x)) st e = go (key_eq named key) refl e
  where
    go : (b : Bool) → key_eq named key ≡ b → (if b then Some x else None) ≡ Some st → (other : Key) × (Hk (hk.Structure named x) ≡ Hk (hk.Structure other st)) × (other ≡ key)
    go true p h = (named, ap (λ z. Hk (hk.Structure named z)) (some_value x st h), key_eq-same named key p)
    go false p h = absurd (let no : None ≡ Some st → ⊥ = λ e. cc in no h)
reported_is key (Hk (hk.Periodic kind rows)) st e = absurd (let no : None ≡ Some st → ⊥ = λ e. cc in no e)
reported_is key (Stat r) st e = absurd (let no : None ≡ Some st → ⊥ = λ e. cc in no e)
reported_is key (Par r) st e = absurd (let no : None ≡ Some st → ⊥ = λ e. cc in no e)

-- the opening of a kept packet
pub record IsReportOpening (h : History) (key : Key) (tag : ℕ) (k : Kept) (o : Opening) : Type 0 where
  pub structure : Structure
  pub below : tag_of k < tag
  pub reports : reported_structure key k.report.body ≡ Some structure
  pub is : opening h key tag (tag_of k) (Some structure) ≡ o

pub report_opening-is : (h : History) (key : Key) (tag : ℕ) (k : Kept) (o : Opening) → report_opening h key tag k ≡ Some o → IsReportOpening h key tag k o
report_opening-is h key tag k o e = go (nat_lt (tag_of k) tag) (reported_structure key k.report.body) refl refl e
  where
    go : (b : Bool) (s : Option Structure) → nat_lt (tag_of k) tag ≡ b → reported_structure key k.report.body ≡ s
        → (if b then option_map (λ x. opening h key tag (tag_of k) (Some x)) s else None) ≡ Some o → IsReportOpening h key tag k o
    go true (Some x) p q f = record { structure = x; below = ltb-true (tag_of k) tag p; reports = q; is = some_value (opening h key tag (tag_of k) (Some x)) o f }
    go true None p q f = absurd (let no : None ≡ Some o → ⊥ = λ e. cc in no f)
    go false s p q f = absurd (let no : None ≡ Some o → ⊥ = λ e. cc in no f)

pub no_act_emits : (k n : ℕ) (b : Bool) → Emitted ≡ Executed k n b → ⊥
no_act_emits k n b e = cc

-- whether the start is known stays so
known-sent : (p : Protocol) (h : History) (packet : List ℕ) (r : Result Bool SentFault) → (history_with_sent p h packet r).known ≡ h.known
known-sent p h packet (Ok true) = refl
known-sent p h packet (Ok false) = refl
known-sent p h packet (Err fault) = refl

known-report : (h : History) (packet : List ℕ) (r : Report) (kind : GotKind) → (history_with_report h packet r kind).known ≡ h.known
known-report h packet r (became.Kept tag) = refl
known-report h packet r (became.Repeat tag) = refl
known-report h packet r (became.Conflict tag) = refl
known-report h packet r (became.Foreign apid) = refl
known-report h packet r (became.Skipped service subtype) = refl
known-report h packet r became.Unread = refl
known-report h packet r (became.Stray id) = refl

known-got : (h : History) (packet : List ℕ) (x : Reception) → (history_with_got h packet x).known ≡ h.known
known-got h packet (foreign apid) = refl
known-got h packet (skipped service subtype) = refl
known-got h packet unread = refl
known-got h packet (readable r) = known-report h packet r (kind_by_reception h packet (readable r))

pub history-known : (p : Protocol) (known long : Bool) (entries : List Entry) → (history_of p known long entries).known ≡ known
history-known p known long [] = refl
history-known p known long (sent packet ∷ earlier) =
    known-sent p (history_of p known long earlier) packet (sent_answer p (history_of p known long earlier) packet) ∙ history-known p known long earlier
history-known p known long (got packet ∷ earlier) = known-got (history_of p known long earlier) packet (p.reception packet) ∙ history-known p known long earlier

pub none-before_start : (ms : List Moment) → moments_before 0 ms ≡ []
none-before_start [] = refl
none-before_start (m ∷ ms) = ap (λ b. cond b (m ∷ moments_before 0 ms) (moments_before 0 ms)) (le-ltb m.tag 0 (omega arith)) ∙ none-before_start ms

-- an opening has the state at its tag
pub record IsOpenedAt (w : World) (h : History) (key : Key) (from tag : ℕ) (state : Option Structure) : Type 0 where
  pub setting : IsSetting w.session key (moments_of w.steps) h from tag
  pub is : structure_by w.session key (moments_before from (moments_of w.steps)) ≡ state

-- a kept structure report opens with the state at its tag
pub report-opened : (w : World) (h : History) (key : Key) (tag : ℕ) → IsWorld w → IsKnown w.session (moments_of w.steps) h tag → NamesOnce w.session key
    → (k : Kept) → IsIn k (history_in w).kept → (x : Structure) → tag_of k < tag → reported_structure key k.report.body ≡ Some x → IsOpenedAt w h key (tag_of k) tag (Some x)
report-opened w h key tag world known names k i x below reports =
    let ms : List Moment = moments_of w.steps in
    let told = reported_is key k.report.body x reports in
    let r : IsReported w.session ms k = kept_reported w world k i (ap is_verification told.1) in
    let same : tag_of k ≡ r.moment.tag = r.tagged in
    let honest : structure_by w.session told.0 (moments_before r.moment.tag ms) ≡ Some x =
    subst (λ body. IsHonestBody w.session (moments_before r.moment.tag ms) r.moment.tag body) told.1 r.honest in
    record {
      setting =
          record {
            known = known;
            names = names;
            before = omega arith;
            quiet = λ m j d p.
                no_act_emits d.request d.number true
                (sym r.emits ∙ (ap (λ (z : Moment). z.act) (unique_tag w.session r.moment m ms known.ordered.tags r.here j (sym same ∙ sym p)) ∙ d.act));
          };
      is = ap (λ t. structure_by w.session key (moments_before t ms)) same ∙ (ap (λ z. structure_by w.session z (moments_before r.moment.tag ms)) (sym told.2) ∙ honest);
    }

-- where the start is known, the boot state is that at tag 0
pub boot-opened : (w : World) (h : History) (key : Key) (tag : ℕ) → IsWorld w → IsKnown w.session (moments_of w.steps) h tag → NamesOnce w.session key → w.session.known ≡ true
    → IsOpenedAt w h key 0 tag (boot_structure (tailoring w.session) key)
boot-opened w h key tag world known names start =
    record {
      setting =
          record {
            known = known;
            names = names;
            before = omega arith;
            quiet = λ m k d q. let first : 1 ≤ m.tag = positive_tag w.session m (moments_of w.steps) known.ordered.tags k in omega arith;
          };
      is = ap (λ l. structure_by w.session key l) (none-before_start (moments_of w.steps)) ∙ ap (λ (b : BoardState). b.structure key) (world.session.booted start);
    }

-- what is known at some time of a world: all that was kept then is kept now
pub record IsRecordOf (w : World) (h : History) (tag : ℕ) : Type 0 where
  pub known : IsKnown w.session (moments_of w.steps) h tag
  pub kept : (k : Kept) → IsIn k h.kept → IsIn k (history_in w).kept
  pub start : h.known ≡ w.session.known

pub own_record : (w : World) (tag : ℕ) → IsKnown w.session (moments_of w.steps) (history_in w) tag → IsRecordOf w (history_in w) tag
own_record w tag known =
    record { known = known; kept = λ k i. i; start = history-known w.session.protocol w.session.known w.session.long (entries_seen w.session.requests w.steps) }

-- the state at a tag is possible from each opening
pub possible_each : (w : World) (h : History) (key : Key) (tag : ℕ) → IsWorld w → NamesOnce w.session key → IsRecordOf w h tag → (o : Opening) → IsIn o (openings (tailoring w.session) h key tag)
    → is_possible_from (tailoring w.session) ((world_state_at w tag).structure key) o ≡ true
possible_each w h key tag world names told o i = go (IsIn-append o (boot_openings (tailoring w.session) h key tag) (filter_map (report_opening h key tag) h.kept) i)
  where
    from_state : (from : ℕ) (state : Option Structure) → IsOpenedAt w h key from tag state → opening h key tag from state ≡ o
        → is_possible_from (tailoring w.session) ((world_state_at w tag).structure key) o ≡ true
    from_state from state x e =
        subst (λ z. is_possible_from (tailoring w.session) ((world_state_at w tag).structure key) z ≡ true) (ap (λ z. opening h key tag from z) x.is ∙ e)
        (contained w.session key (moments_of w.steps) h from tag x.setting)

    boot : (b : Bool) → h.known ≡ b → IsIn o (if b then opening h key tag 0 (boot_structure (tailoring w.session) key) ∷ [] else [])
        → is_possible_from (tailoring w.session) ((world_state_at w tag).structure key) o ≡ true
    boot false e j = absurd j
    boot true e (inr j) = absurd j
    boot true e (inl p) =
        from_state 0 (boot_structure (tailoring w.session) key) (boot-opened w h key tag world told.known names (sym told.start ∙ e)) (sym p)

    go : IsIn o (boot_openings (tailoring w.session) h key tag) ⊎ IsIn o (filter_map (report_opening h key tag) h.kept)
        → is_possible_from (tailoring w.session) ((world_state_at w tag).structure key) o ≡ true
    go (inl j) = boot h.known refl j
    go (inr j) =
        let k = IsIn-filter_map (report_opening h key tag) o h.kept j in
        let x : IsReportOpening h key tag k.0 o = report_opening-is h key tag k.0 o k.2 in
        from_state (tag_of k.0) (Some x.structure) (report-opened w h key tag world told.known names k.0 (told.kept k.0 k.1) x.structure x.below x.reports) x.is

pub world_contained : (w : World) (key : Key) (tag : ℕ) → IsWorld w → IsKnown w.session (moments_of w.steps) (history_in w) tag → NamesOnce w.session key → IsContained w key tag
world_contained w key tag world known names =
    IsIn-AllByRecursion (λ o. is_possible_from (tailoring w.session) ((world_state_at w tag).structure key) o ≡ true)
    (openings (tailoring w.session) (history_in w) key tag) (possible_each w (history_in w) key tag world names (own_record w tag known))
