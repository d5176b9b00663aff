-- The parameter reports that a step adds are those that are due.
use Rattle.std.proofs.Common.{arith, ◌≡◌, ℕ, zero, suc, ◌+◌, ◌-◌, ◌*◌, ◌≤◌, refl, sym, ◌∙◌, ap, ap₂, subst, List, [], ◌∷◌, ◌++◌, length, reverse, map, take, cond, Bool, true, false, ◌==◌, ◌&&◌, ◌||◌, Option, Some, None, filter, ◌⊎◌, inl, inr}
use Rattle.std.specs.Prelude.{⊤, ℤ, pos, MatchBool, is_some, nat_lt, find, option_map, unwrap_or, if◌then◌else◌}
use Rattle.std.specs.List.{AllByRecursion, list_all, list_any, cons_option}
use Rattle.std.specs.Option.{option_or, option_map_or}
use Rattle.std.proofs.lemmas.Bool.Decides.{Decides-eqb, nat_tests}
use Rattle.std.proofs.lemmas.List.{reverse-reverse, append_cancel_right}
use Rattle.std.proofs.lemmas.List.Folds.{list_any-append}
use Rattle.hk_base.specs.Fit.{IsFit}
use Rattle.hk_base.specs.TailoringParts.{TailoringParts}
use Rattle.hk_base.specs.Parameters.{is_settable}
use Rattle.hk_base.specs.Payload.{places}
use Rattle.hk_base.specs.declared.types.Definition.{Definition}
use Rattle.hk_base.specs.declared.types.Key.{Key}
use Rattle.hk_base.specs.declared.types.Param.{Param}
use Rattle.hk_base.specs.declared.types.Place.{Place}
use Rattle.st01_reports.specs.declared.verification.Cause.{Cause}
use Rattle.st01_reports.specs.declared.verification.Verification.{Verification}
use Rattle.st01_reports.specs.declared.verification.Verification.TheVariants as verify
use Rattle.pus_messages.specs.Instructions.{Instruction}
use Rattle.pus_messages.specs.Messages.{protocol}
use Rattle.pus_messages.specs.Protocol.{Protocol}
use Rattle.pus_messages.specs.declared.message.ReportBody.{ReportBody}
use Rattle.pus_messages.specs.declared.message.ReportBody.TheVariants.{Verify, Hk, Stat, Par}
use Rattle.pus_messages.proofs.Lawful.{nothing}
use Rattle.hk_world.specs.Timelines.{Session, request_at, instruction_at, request_number}
use Rattle.hk_world.specs.Honest.{Carries, VerifiesIf, IsReport, IsSilent, IsRefusedFor, asks_for, has_several, request_id}
use Rattle.hk_world.specs.declared.moment.Moment.{Moment}
use Rattle.hk_world.specs.declared.moment.Act.{Act}
use Rattle.hk_world.specs.declared.moment.Act.TheVariants.{Accepted, TurnedAway, Started, NotStarted, Executed, Completed, Emitted, Filed}
use Rattle.hk_world.proofs.OrderLemmas.{true_is_not_false}
use Rattle.board_steps.specs.Cores.{Core, session, state_of, next_tag}
use Rattle.board_steps.specs.Slots.{filed_at, sample_at, is_set, has_sample, is_complete}
use Rattle.board_steps.specs.Plans.{Topic, samples_of, structure_of, properties_of, statistics, definitions, values_of, Plan, does, tells, handled_as, handling, prepared, worked_request, worked_acts, worked_done, topics_of, settables, own_filing, every_key, is_reported, due_topics, tags_left, planned}
use Rattle.board_steps.specs.Slots.{is_statistics_due}
use Rattle.board_steps.specs.Steps.{IsAbout, IsNext, AreNext, IsStep}
use Rattle.board_steps.specs.Added.{Reported, body_key, report_key, parameter_reports, tagged, first_report_tag, reports_due}
use Rattle.board_steps.specs.declared.event.Event.{Event}
use Rattle.board_steps.specs.declared.event.Event.TheVariants.{Uplink, Clock, Work, Filing, CloseSlot}
use Rattle.board_steps.proofs.TimeLemmas.{next-tag-more}
use Rattle.board_steps.proofs.RunLemmas.{session_by, packet-tailoring}
use Rattle.board_steps.proofs.WorkLemmas.{IsOrdered, all-ordered}
use Rattle.board_steps.proofs.ClosingLemmas.{AreIdsApart, distinct-apart}
use Rattle.board_steps.proofs.AddedLemmas.{AreAdded, step-parted, worked-of-requests, handling-of-request}

-- what a moment's packet can be: none, or a report
abbrev pub IsNoneOr : (ReportBody → Type 0) → Session → Moment → Type 0
IsNoneOr P s m = (m.packet ≡ []) ⊎ ((body : ReportBody) × P body × IsReport s m body)

-- a verification report
abbrev pub IsVerification : ReportBody → Type 0
IsVerification (Verify v) = ⊤
IsVerification _ = ⊥

-- an act that isn't a report of its own
abbrev pub IsNoReport : Act → Type 0
IsNoReport Emitted = ⊥
IsNoReport _ = ⊤

verifies : (due : Bool) (s : Session) (m : Moment) (v : Verification) → VerifiesIf due s m v → IsNoneOr IsVerification s m
verifies true s m v h = inr (Verify v, tt, h)
verifies false s m v h = inl h

-- the packet of an act is a verification report, or there is none
pub carries-verification : (s : Session) (earlier : List Moment) (m : Moment) (act : Act) → IsNoReport act → Carries s earlier m act → IsNoneOr IsVerification s m
carries-verification s earlier m (Accepted k) n h = verifies (asks_for 0 s k) s m (verify.Accepted (request_id s k)) h
carries-verification s earlier m (TurnedAway k) n h = inr (Verify (verify.Refused (request_id s k) h.1), tt, h.4)
carries-verification s earlier m (Started k) n h = verifies (asks_for 1 s k) s m (verify.Started (request_id s k)) h
carries-verification s earlier m (NotStarted k) n h = inr (Verify (verify.NotStarted (request_id s k) h.1), tt, h.4)
carries-verification s earlier m (Executed k number true) n h = verifies (has_several s k && asks_for 2 s k) s m (verify.Step (request_id s k) number) h
carries-verification s earlier m (Executed k number false) n h = by_several (has_several s k) h
  where
    by_several : (b : Bool) → MatchBool b
        ((x : Instruction) × (c : Cause) × (instruction_at s k number ≡ Some x) × IsRefusedFor s earlier x c
        × IsReport s m (Verify (verify.StepFailed (request_id s k) number c)))
        (IsSilent m) → IsNoneOr IsVerification s m
    by_several true f = inr (Verify (verify.StepFailed (request_id s k) number f.1), tt, f.4)
    by_several false f = inl f
carries-verification s earlier m (Completed k []) n h = verifies (asks_for 3 s k) s m (verify.Completed (request_id s k)) h
carries-verification s earlier m (Completed k (number ∷ numbers)) n h = inr (Verify (verify.Incomplete (request_id s k) 200 (number ∷ numbers)), tt, h)
carries-verification s earlier m Emitted n h = absurd n
carries-verification s earlier m (Filed id x value) n h = inl h

-- the report of a moment, if it is one of a structure
abbrev pub told : Protocol → Moment → Option Reported
told p m = option_map (λ key. record { key = key; tag = m.tag }) (report_key (p.reception m.packet))

-- what a body tells of a structure at a tag
abbrev pub told_by : ℕ → ReportBody → Option Reported
told_by tag body = option_map (λ key. record { key = key; tag = tag }) (body_key body)

report-told : (s : Session) (m : Moment) (body : ReportBody) → IsReport s m body → told s.protocol m ≡ told_by m.tag body
report-told s m body h = ap (λ r. option_map (λ key. record { key = key; tag = m.tag }) (report_key r)) h.1

module _ (t : TailoringParts) (requests : List (List ℕ)) where
  silent-told : (m : Moment) → m.packet ≡ [] → told (protocol t) m ≡ None
  silent-told m e = ap (λ r. option_map (λ key. record { key = key; tag = m.tag }) (report_key r)) (ap (protocol t).reception e ∙ nothing t)

  none-told : (m : Moment) → IsNoneOr IsVerification (session_by t requests) m → told (protocol t) m ≡ None
  none-told m (inl e) = silent-told m e
  none-told m (inr h) = go h.0 h.1 h.2
    where
      go : (body : ReportBody) → IsVerification body → IsReport (session_by t requests) m body → told (protocol t) m ≡ None
      go (Verify v) f g = report-told (session_by t requests) m (Verify v) g
      go (Hk r) f g = absurd f
      go (Stat r) f g = absurd f
      go (Par r) f g = absurd f

-- what a plan tells of a structure at a tag
abbrev pub plan_told : ℕ → Plan → Option Reported
plan_told tag (tells (samples_of key)) = Some (record { key = key; tag = tag })
plan_told tag _ = None

-- the reports of structures that are planned, with their tags
abbrev pub plans_told : ℕ → List Plan → List Reported
plans_told tag [] = []
plans_told tag (plan ∷ plans) = cons_option (plan_told tag plan) (plans_told (tag + 1) plans)

-- no plan is a report as an act
abbrev pub IsPlanned : Plan → Type 0
IsPlanned (does act) = IsNoReport act
IsPlanned (tells topic) = ⊤

about-told : (s : Session) (slot : ℕ) (earlier : List Moment) (tag : ℕ) (topic : Topic) (body : ReportBody) → IsAbout s slot earlier tag topic body
    → told_by tag body ≡ plan_told tag (tells topic)
about-told s slot earlier tag (samples_of key) body h = ap (told_by tag) h.1
about-told s slot earlier tag (structure_of key) body h = ap (told_by tag) h.1
about-told s slot earlier tag (properties_of key) body h = ap (told_by tag) h.1
about-told s slot earlier tag statistics body h = ap (told_by tag) h.1
about-told s slot earlier tag definitions body h = ap (told_by tag) h
about-told s slot earlier tag (values_of ids) body h = ap (told_by tag) h.1

next-told : (t : TailoringParts) (requests : List (List ℕ)) (clock slot : ℕ) (earlier : List Moment) (plan : Plan) (m : Moment) → IsPlanned plan
    → IsNext (session_by t requests) clock slot earlier plan m → told (protocol t) m ≡ plan_told m.tag plan
next-told t requests clock slot earlier (does act) m n h =
    none-told t requests m (carries-verification (session_by t requests) earlier m act n h.follows.1)
next-told t requests clock slot earlier (tells topic) m n h =
    report-told (session_by t requests) m h.follows.1.0 h.follows.1.1
    ∙ about-told (session_by t requests) slot earlier m.tag topic h.follows.1.0 h.follows.1.2

-- the reports of structures among moments are those that were planned
pub added-told : (t : TailoringParts) (requests : List (List ℕ)) (clock slot : ℕ) (earlier : List Moment) (plans : List Plan) (new : List Moment) → AllByRecursion IsPlanned plans
    → AreAdded (session_by t requests) clock slot earlier plans new → parameter_reports (protocol t) new ≡ plans_told (next_tag clock earlier) plans
added-told t requests clock slot earlier [] [] n h = refl
added-told t requests clock slot earlier [] (m ∷ new) n h = absurd h
added-told t requests clock slot earlier (plan ∷ plans) [] n h = absurd h
added-told t requests clock slot earlier (plan ∷ plans) (m ∷ new) n h =
    ap₂ (λ o xs. cons_option o xs)
    (next-told t requests clock slot earlier plan m n.0 h.0 ∙ ap (λ tag. plan_told tag plan) h.0.tag)
    (added-told t requests clock slot (m ∷ earlier) plans new n.1 h.1 ∙ ap (λ tag. plans_told tag plans) (next-tag-more clock earlier m h.0.tag))

-- acts tell nothing, they take tags
acts-told : (tag : ℕ) (acts : List Act) (plans : List Plan) → plans_told tag (map does acts ++ plans) ≡ plans_told (tag + length acts) plans
acts-told tag [] plans = ap (λ n. plans_told n plans) (omega arith)
acts-told tag (act ∷ acts) plans = acts-told (tag + 1) acts plans ∙ ap (λ n. plans_told n plans) (omega arith)

own-told : (c : Core) (tag : ℕ) (ps : List Param) (plans : List Plan) → plans_told tag (map (λ p. does (own_filing c p)) ps ++ plans) ≡ plans_told (tag + length ps) plans
own-told c tag [] plans = ap (λ n. plans_told n plans) (omega arith)
own-told c tag (p ∷ ps) plans = own-told c (tag + 1) ps plans ∙ ap (λ n. plans_told n plans) (omega arith)

-- reports that are ordered are none of samples
ordered-told : (tag : ℕ) (topics : List Topic) → AllByRecursion IsOrdered topics → plans_told tag (map tells topics) ≡ []
ordered-told tag [] h = refl
ordered-told tag (samples_of key ∷ topics) h = absurd h.0
ordered-told tag (structure_of key ∷ topics) h = ordered-told (tag + 1) topics h.1
ordered-told tag (properties_of key ∷ topics) h = ordered-told (tag + 1) topics h.1
ordered-told tag (statistics ∷ topics) h = ordered-told (tag + 1) topics h.1
ordered-told tag (definitions ∷ topics) h = ordered-told (tag + 1) topics h.1
ordered-told tag (values_of ids ∷ topics) h = ordered-told (tag + 1) topics h.1

-- no report has a tag below the first
late-filtered : (limit tag : ℕ) (keys : List Key) → limit ≤ tag → filter (λ r. nat_lt r.tag limit) (tagged tag keys) ≡ []
late-filtered limit tag [] h = refl
late-filtered limit tag (key ∷ keys) h =
    let late : nat_lt tag limit ≡ false = grind (arith, nat_tests) in
    ap (λ b. cond b (record { key = key; tag = tag } ∷ filter (λ r. nat_lt r.tag limit) (tagged (tag + 1) keys)) (filter (λ r. nat_lt r.tag limit) (tagged (tag + 1) keys))) late
    ∙ late-filtered limit (tag + 1) keys (omega (arith, h))

-- a statistics report behind them is none of a structure
behind-told : (n tag : ℕ) (b : Bool) → plans_told tag (map tells (take n (if b then statistics ∷ [] else []))) ≡ []
behind-told zero tag b = refl
behind-told (suc n) tag false = refl
behind-told (suc n) tag true = last n
  where
    last : (n : ℕ) → plans_told (tag + 1) (map tells (take n [])) ≡ []
    last zero = refl
    last (suc n) = refl

-- the first so many reports that are due are those with a tag below the limit
taken-told : (limit n tag : ℕ) (keys : List Key) (b : Bool) → n ≡ limit - tag
    → plans_told tag (map tells (take n (map samples_of keys ++ (if b then statistics ∷ [] else [])))) ≡ filter (λ r. nat_lt r.tag limit) (tagged tag keys)
taken-told limit n tag [] b e = behind-told n tag b
taken-told limit zero tag (key ∷ keys) b e = sym (late-filtered limit tag (key ∷ keys) (omega (arith, e)))
taken-told limit (suc n) tag (key ∷ keys) b e =
    let early : nat_lt tag limit ≡ true = grind (arith, nat_tests) in
    ap (λ xs. record { key = key; tag = tag } ∷ xs) (taken-told limit n (tag + 1) keys b (omega (arith, e)))
    ∙ ap (λ b. cond b (record { key = key; tag = tag } ∷ filter (λ r. nat_lt r.tag limit) (tagged (tag + 1) keys)) (filter (λ r. nat_lt r.tag limit) (tagged (tag + 1) keys))) (sym early)

packet-told : (tag : ℕ) (s : Session) (o : Option ℕ) → plans_told tag (option_map_or (λ k. does (handling s k) ∷ []) o []) ≡ []
packet-told tag s None = refl
packet-told tag s (Some k) = refl

-- the reports of structures that are planned are those that are due
pub planned-told : (c : Core) (event : Event) → plans_told (next_tag (prepared c event).clock c.moments) (planned c event) ≡ reports_due c event
planned-told c (Uplink packet) = packet-told (next_tag (prepared c (Uplink packet)).clock c.moments) (session (prepared c (Uplink packet))) (handled_as c packet)
planned-told c (Clock tag) = refl
planned-told c Work =
    acts-told (next_tag c.clock c.moments) (worked_acts c) (map tells (topics_of (worked_done c)))
    ∙ ordered-told (next_tag c.clock c.moments + length (worked_acts c)) (topics_of (worked_done c)) (all-ordered (worked_done c))
planned-told c (Filing x) = refl
planned-told c CloseSlot =
    let p : Core = prepared c CloseSlot in
    own-told p (next_tag p.clock c.moments) (settables c.tailoring) (map tells (take (tags_left p) (due_topics p)))
    ∙ taken-told ((c.slot_now + 2) * c.tailoring.widths.slot) (tags_left p) (first_report_tag c) (filter (is_reported c) (every_key c.tailoring)) (is_statistics_due c) refl

-- an act of a request is no report of its own
request-no-report : (act : Act) → is_some (request_number act) ≡ true → IsNoReport act
request-no-report (Accepted k) h = tt
request-no-report (TurnedAway k) h = tt
request-no-report (Started k) h = tt
request-no-report (NotStarted k) h = tt
request-no-report (Executed k number flag) h = tt
request-no-report (Completed k refused) h = tt
request-no-report Emitted h = absurd (true_is_not_false (sym h))
request-no-report (Filed id x value) h = tt

topics-planned : (topics : List Topic) → AllByRecursion IsPlanned (map tells topics)
topics-planned [] = tt
topics-planned (topic ∷ topics) = (tt, topics-planned topics)

acts-planned : (acts : List Act) (topics : List Topic) → AllByRecursion (λ act. is_some (request_number act) ≡ true) acts → AllByRecursion IsPlanned (map does acts ++ map tells topics)
acts-planned [] topics h = topics-planned topics
acts-planned (act ∷ acts) topics h = (request-no-report act h.0, acts-planned acts topics h.1)

own-planned : (c : Core) (ps : List Param) (topics : List Topic) → AllByRecursion IsPlanned (map (λ p. does (own_filing c p)) ps ++ map tells topics)
own-planned c [] topics = topics-planned topics
own-planned c (p ∷ ps) topics = (tt, own-planned c ps topics)

packet-planned : (s : Session) (o : Option ℕ) → AllByRecursion IsPlanned (option_map_or (λ k. does (handling s k) ∷ []) o [])
packet-planned s None = tt
packet-planned s (Some k) = (request-no-report (handling s k) (handling-of-request (is_some (request_at s k)) k), tt)

pub all-planned : (c : Core) (event : Event) → AllByRecursion IsPlanned (planned c event)
all-planned c (Uplink packet) = packet-planned (session (prepared c (Uplink packet))) (handled_as c packet)
all-planned c (Clock tag) = tt
all-planned c Work = acts-planned (worked_acts c) (topics_of (worked_done c)) (worked-of-requests c (worked_request c))
all-planned c (Filing x) = (tt, tt)
all-planned c CloseSlot =
    let p : Core = prepared c CloseSlot in
    own-planned p (settables c.tailoring) (take (tags_left p) (due_topics p))

-- the sample that a plan files for a place
abbrev pub plan_filed : Place → Plan → Bool
plan_filed place (does act) = is_some (filed_at place act)
plan_filed place (tells topic) = false

next-filed : (s : Session) (clock slot : ℕ) (earlier : List Moment) (place : Place) (plan : Plan) (m : Moment) → IsNext s clock slot earlier plan m
    → is_some (filed_at place m.act) ≡ plan_filed place plan
next-filed s clock slot earlier place (does act) m h = ap (λ a. is_some (filed_at place a)) h.follows.0
next-filed s clock slot earlier place (tells topic) m h = ap (λ a. is_some (filed_at place a)) h.follows.0

some-or : (a b : Option ℤ) → is_some (option_or a b) ≡ (is_some a || is_some b)
some-or None b = refl
some-or (Some x) b = refl

turn-or : (a b e : Bool) → (a || (b || e)) ≡ ((b || a) || e)
turn-or true true e = refl
turn-or true false e = refl
turn-or false true e = refl
turn-or false false e = refl

-- a place has a sample after some moments where it had one, or one was planned
pub next-sampled : (s : Session) (clock slot : ℕ) (earlier after : List Moment) (plans : List Plan) (place : Place) → AreNext s clock slot earlier plans after
    → is_some (sample_at place after) ≡ (list_any (plan_filed place) plans || is_some (sample_at place earlier))
next-sampled s clock slot earlier after [] place h = ap (λ ms. is_some (sample_at place ms)) h
next-sampled s clock slot earlier after (plan ∷ plans) place h =
    next-sampled s clock slot (h.0 ∷ earlier) after plans place h.2
    ∙ ap (λ b. list_any (plan_filed place) plans || b)
    (some-or (filed_at place h.0.act) (sample_at place earlier) ∙ ap (λ b. b || is_some (sample_at place earlier)) (next-filed s clock slot earlier place plan h.0 h.1))
    ∙ turn-or (list_any (plan_filed place) plans) (plan_filed place plan) (is_some (sample_at place earlier))

topics-filed : (place : Place) (topics : List Topic) → list_any (plan_filed place) (map tells topics) ≡ false
topics-filed place [] = refl
topics-filed place (topic ∷ topics) = topics-filed place topics

if-some : (b : Bool) (v : ℤ) → is_some (if b then Some v else None) ≡ b
if-some true v = refl
if-some false v = refl

-- whether one of the parameters is that of a place
abbrev pub names : ℕ → List Param → Bool
names id ps = list_any (λ p. p.id == id) ps

and-or : (a b s : Bool) → ((a && s) || (s && b)) ≡ (s && (a || b))
and-or true b true = refl
and-or true b false = refl
and-or false b true = refl
and-or false b false = refl

and-false : (b : Bool) → (b && false) ≡ false
and-false true = refl
and-false false = refl

own-sampled : (c : Core) (place : Place) (ps : List Param) → list_any (plan_filed place) (map (λ p. does (own_filing c p)) ps) ≡ ((c.slot_now == place.slot) && names place.param ps)
own-sampled c place [] = sym (and-false (c.slot_now == place.slot))
own-sampled c place (p ∷ ps) =
    ap₂ (λ a b. a || b) (if-some (p.id == place.param && c.slot_now == place.slot) (unwrap_or ((state_of c).value p.id) (pos 0))) (own-sampled c place ps)
    ∙ and-or (p.id == place.param) (names place.param ps) (c.slot_now == place.slot)

-- no other parameter has the ID of one
none-named : (p : Param) (id : ℕ) (ps : List Param) → p.id ≡ id → AllByRecursion (λ q. (p.id == q.id) ≡ false) ps → names id (filter is_settable ps) ≡ false
none-named p id [] e h = refl
none-named p id (q ∷ ps) e h = go (is_settable q) (none-named p id ps e h.1)
  where
    other : (q.id == id) ≡ false
    other = let apart : (p.id == q.id) ≡ false = h.0 in grind (arith, nat_tests)

    go : (b : Bool) → names id (filter is_settable ps) ≡ false → names id (cond b (q ∷ filter is_settable ps) (filter is_settable ps)) ≡ false
    go true ih = ap₂ (λ a b. a || b) other ih
    go false ih = ih

-- a settable parameter has an ID where the parameter with that ID is settable
settable-named : (id : ℕ) (ps : List Param) → AreIdsApart ps → names id (filter is_settable ps) ≡ option_map_or is_settable (find (λ p. p.id == id) ps) false
settable-named id [] h = refl
settable-named id (p ∷ ps) h = go (p.id == id) (is_settable p) refl refl (settable-named id ps h.1)
  where
    go : (a b : Bool) → (p.id == id) ≡ a → is_settable p ≡ b → names id (filter is_settable ps) ≡ option_map_or is_settable (find (λ p. p.id == id) ps) false
        → names id (filter is_settable (p ∷ ps)) ≡ option_map_or is_settable (find (λ p. p.id == id) (p ∷ ps)) false
    go true true e f ih =
        ap (λ b. names id (cond b (p ∷ filter is_settable ps) (filter is_settable ps))) f ∙ ap (λ b. b || names id (filter is_settable ps)) e
        ∙ sym (ap (λ b. option_map_or is_settable (cond b (Some p) (find (λ p. p.id == id) ps)) false) e ∙ f)
    go true false e f ih =
        let same : p.id ≡ id = (Decides-eqb p.id id).0 e in
        ap (λ b. names id (cond b (p ∷ filter is_settable ps) (filter is_settable ps))) f ∙ none-named p id ps same h.0
        ∙ sym (ap (λ b. option_map_or is_settable (cond b (Some p) (find (λ p. p.id == id) ps)) false) e ∙ f)
    go false true e f ih =
        ap (λ b. names id (cond b (p ∷ filter is_settable ps) (filter is_settable ps))) f ∙ ap (λ b. b || names id (filter is_settable ps)) e ∙ ih
        ∙ sym (ap (λ b. option_map_or is_settable (cond b (Some p) (find (λ p. p.id == id) ps)) false) e)
    go false false e f ih =
        ap (λ b. names id (cond b (p ∷ filter is_settable ps) (filter is_settable ps))) f ∙ ih
        ∙ sym (ap (λ b. option_map_or is_settable (cond b (Some p) (find (λ p. p.id == id) ps)) false) e)

swap-eq : (a b : ℕ) → (a == b) ≡ (b == a)
swap-eq a b = grind (arith, nat_tests)

or-none : (b : Bool) → (b || false) ≡ b
or-none true = refl
or-none false = refl

-- a place counts as sampled where a sample of it stands once the slot has ended
pub place-sampled : (before after : Core) → IsFit before.tailoring → IsStep before CloseSlot after → (place : Place)
    → has_sample before place ≡ is_some (sample_at place after.moments)
place-sampled before after fit step place =
    let p : Core = prepared before CloseSlot in
    let topics : List Topic = take (tags_left p) (due_topics p) in
    let ps : List Param = settables before.tailoring in
    let filed : list_any (plan_filed place) (planned before CloseSlot) ≡ (place.slot == before.slot_now && is_set before.tailoring place.param) =
    list_any-append (plan_filed place) (map (λ q. does (own_filing p q)) ps) (map tells topics)
    ∙ ap₂ (λ a b. a || b) (own-sampled p place ps) (topics-filed place topics)
    ∙ or-none ((before.slot_now == place.slot) && names place.param ps)
    ∙ ap₂ (λ a b. a && b) (swap-eq before.slot_now place.slot) (settable-named place.param before.tailoring.params (distinct-apart before.tailoring.params fit.ids)) in
    sym (next-sampled (session p) p.clock before.slot_now before.moments after.moments (planned before CloseSlot) place step.moments
    ∙ ap (λ b. b || is_some (sample_at place before.moments)) filed)

-- what is told after an event, of the session that the event leaves
step-told-in : (t : TailoringParts) (requests : List (List ℕ)) (before : Core) (event : Event) (clock : ℕ) (new : List Moment) → clock ≡ (prepared before event).clock
    → AreAdded (session_by t requests) clock before.slot_now before.moments (planned before event) new → parameter_reports (protocol t) new ≡ reports_due before event
step-told-in t requests before event clock new same h =
    added-told t requests clock before.slot_now before.moments (planned before event) new (all-planned before event) h
    ∙ ap (λ n. plans_told (next_tag n before.moments) (planned before event)) same ∙ planned-told before event

-- the tailoring of a session isn't changed by an event
pub prepared-tailoring : (c : Core) (event : Event) → (prepared c event).tailoring ≡ c.tailoring
prepared-tailoring c (Uplink packet) = packet-tailoring c packet (handled_as c packet)
prepared-tailoring c (Clock tag) = refl
prepared-tailoring c Work = refl
prepared-tailoring c (Filing x) = refl
prepared-tailoring c CloseSlot = refl

-- the parameter reports that a step adds are those that are due
pub step-told : (before : Core) (event : Event) (after : Core) (new : List Moment) → IsStep before event after → after.moments ≡ reverse new ++ before.moments
    → parameter_reports (session before).protocol new ≡ reports_due before event
step-told before event after new step e =
    let p : Core = prepared before event in
    let parts = step-parted before event after step in
    let turned : reverse parts.new ≡ reverse new = append_cancel_right (reverse parts.new) (reverse new) before.moments (sym parts.moments ∙ e) in
    let same : parts.new ≡ new = sym (reverse-reverse parts.new) ∙ ap reverse turned ∙ reverse-reverse new in
    let told = step-told-in p.tailoring p.requests before event p.clock parts.new refl parts.added in
    subst (λ ms. parameter_reports (protocol before.tailoring) ms ≡ reports_due before event) same
    (subst (λ t. parameter_reports (protocol t) parts.new ≡ reports_due before event) (prepared-tailoring before event) told)

-- tests that agree answer alike of all members
list_all-same : {X : Type 0} (f g : X → Bool) → ((x : X) → f x ≡ g x) → (xs : List X) → list_all f xs ≡ list_all g xs
list_all-same f g same [] = refl
list_all-same f g same (x ∷ xs) = ap₂ (λ a b. a && b) (same x) (list_all-same f g same xs)

-- a definition counts as complete where all its places have samples once the slot has ended
pub all-sampled : (before after : Core) → IsFit before.tailoring → IsStep before CloseSlot after → (d : Definition)
    → is_complete before d ≡ list_all (λ place. is_some (sample_at place after.moments)) (places d before.slot_now)
all-sampled before after fit step d =
    list_all-same (has_sample before) (λ place. is_some (sample_at place after.moments)) (place-sampled before after fit step) (places d before.slot_now)
