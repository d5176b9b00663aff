-- A session with other packets under numbers that no moment names: what was done stays legal and honest, and a world stays a world.
use Rattle.std.proofs.Common.{arith, ◌≡◌, ℕ, ◌/◌, ◌%◌, ◌^◌, ◌<◌, ◌≤◌, refl, sym, ◌∙◌, ap, ap₂, subst, List, [], ◌∷◌, length, filter, map, reverse, Bool, true, false, ◌==◌, ◌&&◌, Option, Some, None, inl}
use Rattle.std.specs.Prelude.{IfSome, IsSome, IsNone, MatchBool, unwrap_or, nat_lt, is_none, slice_get, option_and_then, option_map, if◌then◌else◌}
use Rattle.std.specs.List.{AllByRecursion, AllZip, cons_option}
use Rattle.std.specs.Option.{option_or, option_map_or}
use Rattle.std.specs.Result.{result_ok}
use Rattle.hk_base.specs.Parameters.{parameter, is_settable}
use Rattle.hk_base.specs.declared.types.RequestId.{RequestId}
use Rattle.statistics.specs.Summaries.{IsSummary}
use Rattle.st01_reports.specs.declared.verification.Cause.{Cause}
use Rattle.st01_reports.specs.declared.verification.Verification.TheVariants as verify
use Rattle.st03_grammar.specs.declared.bodies.PeriodicRow.{PeriodicRow}
use Rattle.st03_grammar.specs.declared.bodies.Report03.TheVariants as hk
use Rattle.st04_grammar.specs.declared.bodies.StatRow.{StatRow}
use Rattle.st04_grammar.specs.declared.bodies.Report04.TheVariants as stat
use Rattle.pus_messages.specs.Instructions.{Instruction, instructions, instruction}
use Rattle.pus_messages.specs.declared.message.Request.{Request}
use Rattle.pus_messages.specs.declared.message.ReportBody.{ReportBody}
use Rattle.pus_messages.specs.declared.message.ReportBody.TheVariants.{Verify, Hk, Stat, Par}
use Rattle.report_structures.specs.declared.refusal.Refusal.{Refusal}
use Rattle.hk_world.specs.States.{Member, BoardState, refusal}
use Rattle.hk_world.specs.Timelines.{EachAfter, Session, tailoring, Done, request_number, last_act, done_by, done_instructions, structure_after, statistics_after, set_value, filed_value, first_some, restarts, start_after, state_after}
use Rattle.hk_world.specs.Legal.{HandlesNext, MayFollow, IsInOrder, TellsOutcome, FilesSample}
use Rattle.hk_world.specs.Honest.{Carries, VerifiesIf, IsReport, IsSilent, IsHonestBody, IsPeriodicRow, IsStatRow, cause_of, id_of_packet, samples_of, has_samples}
use Rattle.hk_world.specs.Worlds.{World, Step, send, happen, deliver, stray, MayHappen, MayStep, IsRequest, IsWorld, sent_count, moments_of}
use Rattle.hk_world.proofs.SentLemmas.{sent-moment}
use Rattle.session_record.specs.declared.header.Header.{Header}
use Rattle.session_record.specs.declared.entry.Entry.{Entry}
use Rattle.session_record.specs.declared.entry.Entry.TheVariants as entry
use Rattle.journaled_records.specs.OwnWorlds.{IsStepOf, AreStepsOf, IsOwnWorld}
use Rattle.journaled_records.specs.Agreeing.{IsAlike, AgreesOn, AgreeBelow}
use Rattle.hk_world.specs.declared.moment.Moment.{Moment}
use Rattle.hk_world.specs.declared.moment.Act.{Act}
use Rattle.hk_world.specs.declared.moment.Act.TheVariants.{Accepted, TurnedAway, Started, NotStarted, Executed, Completed, Emitted, Filed}

-- a session with other requests
abbrev pub exchanged : Session → List (List ℕ) → Session
exchanged s other = record { protocol = s.protocol; known = s.known; long = s.long; initial = s.initial; requests = other }

-- two lists of packets agree at the number that an act names
abbrev pub Agrees : List (List ℕ) → List (List ℕ) → Act → Type 0
Agrees requests other act = IfSome (request_number act) (λ k. slice_get requests k ≡ slice_get other k)

-- they agree at each number that a moment names
abbrev pub AgreeOn : List (List ℕ) → List (List ℕ) → List Moment → Type 0
AgreeOn requests other moments = AllByRecursion (λ m. Agrees requests other m.act) moments

-- the request of a packet, if it is one
abbrev pub request_in : Session → Option (List ℕ) → Option Request
request_in s o = option_and_then (λ packet. result_ok (s.protocol.request packet)) o

done-agrees : (s : Session) (other : List (List ℕ)) (tag : ℕ) (act : Act) → Agrees s.requests other act → done_by s tag act ≡ done_by (exchanged s other) tag act
done-agrees s other tag (Executed k number true) h =
    ap (λ o. option_map (λ x. record { tag = tag; request = k; instruction = x }) (option_and_then (λ r. instruction r number) (request_in s o))) h
done-agrees s other tag (Executed k number false) h = refl
done-agrees s other tag (Accepted k) h = refl
done-agrees s other tag (TurnedAway k) h = refl
done-agrees s other tag (Started k) h = refl
done-agrees s other tag (NotStarted k) h = refl
done-agrees s other tag (Completed k refused) h = refl
done-agrees s other tag Emitted h = refl
done-agrees s other tag (Filed param slot value) h = refl

pub dones-agrees : (s : Session) (other : List (List ℕ)) (moments : List Moment) → AgreeOn s.requests other moments
    → done_instructions s moments ≡ done_instructions (exchanged s other) moments
dones-agrees s other [] h = refl
dones-agrees s other (m ∷ earlier) h = ap₂ (λ o xs. cons_option o xs) (done-agrees s other m.tag m.act h.0) (dones-agrees s other earlier h.1)

restarts-agrees : (s : Session) (other : List (List ℕ)) (moments : List Moment) → AgreeOn s.requests other moments
    → restarts s moments ≡ restarts (exchanged s other) moments
restarts-agrees s other [] h = refl
restarts-agrees s other (m ∷ []) h = rw (done-agrees s other m.tag m.act h.0)
restarts-agrees s other (m ∷ e ∷ earlier) h = rw (done-agrees s other m.tag m.act h.0) (rw (done-agrees s other e.tag e.act h.1.0))

start-agrees : (s : Session) (other : List (List ℕ)) (moments : List Moment) → AgreeOn s.requests other moments
    → start_after s moments ≡ start_after (exchanged s other) moments
start-agrees s other [] h = refl
start-agrees s other (m ∷ earlier) h =
    ap₂ (λ b n. if b then m.tag else n) (restarts-agrees s other (m ∷ earlier) h) (start-agrees s other earlier h.1)

-- the state that is left by some instructions
abbrev pub state_by : Session → List Moment → List Done → ℕ → BoardState
state_by s moments done start =
    record {
      structure = structure_after (tailoring s) s.initial done;
      value = λ id.
          option_or
          (if option_map_or is_settable (parameter (tailoring s) id) false
          then first_some (λ d. set_value id d.instruction) done
          else first_some (λ m. filed_value id m.act) moments)
          (s.initial.value id);
      statistics = statistics_after s.initial done;
      start = start;
    }

pub state-agrees : (s : Session) (other : List (List ℕ)) (moments : List Moment) → AgreeOn s.requests other moments
    → state_after s moments ≡ state_after (exchanged s other) moments
state-agrees s other moments h = ap₂ (λ d n. state_by s moments d n) (dones-agrees s other moments h) (start-agrees s other moments h)

AllZip-mapped : {A B : Type 0} (P Q : A → B → Type 0) → ((x : A) (y : B) → P x y → Q x y) → (xs : List A) (ys : List B) → AllZip P xs ys → AllZip Q xs ys
AllZip-mapped P Q f [] [] h = tt
AllZip-mapped P Q f [] (y ∷ ys) h = absurd h
AllZip-mapped P Q f (x ∷ xs) [] h = absurd h
AllZip-mapped P Q f (x ∷ xs) (y ∷ ys) h = (f x y h.0, AllZip-mapped P Q f xs ys h.1)

-- a body that is honest in one session is so in one that leaves the same state
honest-agrees : (s : Session) (other : List (List ℕ)) (earlier : List Moment) (tag : ℕ) (body : ReportBody)
    → state_after s earlier ≡ state_after (exchanged s other) earlier → IsHonestBody s earlier tag body → IsHonestBody (exchanged s other) earlier tag body
honest-agrees s other earlier tag (Verify v) e h = absurd h
honest-agrees s other earlier tag (Hk (hk.Values key payload)) e h =
    record {
      structure = h.structure;
      values = h.values;
      is_there = subst (λ (x : BoardState). x.structure key ≡ Some h.structure) e h.is_there;
      interval = h.interval;
      samples = h.samples;
      payload_is = h.payload_is;
    }
honest-agrees s other earlier tag (Hk (hk.Structure key x)) e h = subst (λ (y : BoardState). y.structure key ≡ Some x) e h
honest-agrees s other earlier tag (Hk (hk.Periodic kind rows)) e h = go rows h
  where
    go : (rs : List PeriodicRow) → AllByRecursion (IsPeriodicRow s earlier kind) rs → AllByRecursion (IsPeriodicRow (exchanged s other) earlier kind) rs
    go [] k = tt
    go (r ∷ rs) k =
        ((k.0.0, subst (λ (y : BoardState). y.structure (record { kind = kind; id = r.id }) ≡ Some k.0.0) e k.0.1, k.0.2, k.0.3), go rs k.1)
honest-agrees s other earlier tag (Stat (stat.Statistics r)) e h =
    record {
      start = subst (λ (y : BoardState). r.start ≡ y.start) e h.start;
      end = h.end;
      rows = AllZip-mapped (IsStatRow s earlier) (IsStatRow (exchanged s other) earlier) row
          (filter (λ m. has_samples (samples_of (state_after (exchanged s other) earlier) earlier m)) (state_after (exchanged s other) earlier).statistics.members) r.rows
          (subst (λ (y : BoardState). AllZip (IsStatRow s earlier) (filter (λ m. has_samples (samples_of y earlier m)) y.statistics.members) r.rows) e h.rows);
    }
  where
    row : (m : Member) (r : StatRow) → IsStatRow s earlier m r → IsStatRow (exchanged s other) earlier m r
    row m r k =
        record {
          param = k.param;
          max_slot = k.max_slot;
          min_slot = k.min_slot;
          max_time = k.max_time;
          min_time = k.min_time;
          summary = subst (λ (y : BoardState). IsSummary (tailoring s).widths.mean_fraction (samples_of y earlier m)
              (record { count = r.count; max = r.max; max_slot = k.max_slot; min = r.min; min_slot = k.min_slot; mean = r.mean })) e k.summary;
        }
honest-agrees s other earlier tag (Stat (stat.Definitions enabled interval params)) e h =
    subst (λ (y : BoardState). (y.statistics.enabled ≡ enabled) × (y.statistics.interval ≡ interval) × (map (λ m. m.param) y.statistics.members ≡ params)) e h
honest-agrees s other earlier tag (Par r) e h =
    subst (λ (y : BoardState). AllByRecursion (λ x. y.value x.param ≡ Some x.value) r.pairs) e h

-- what a request's packet tells of it
abbrev pub asks_in : ℕ → Session → Option (List ℕ) → Bool
asks_in bit s o = option_map_or (λ r. r.header.flags / 2 ^ bit % 2 == 1) (request_in s o) false

abbrev pub id_in : Option (List ℕ) → RequestId
id_in o = id_of_packet (unwrap_or o [])

abbrev pub instructions_in : Session → Option (List ℕ) → List Instruction
instructions_in s o = option_map_or instructions (request_in s o) []

abbrev pub instruction_in : Session → Option (List ℕ) → ℕ → Option Instruction
instruction_in s o number = option_and_then (λ r. instruction r number) (request_in s o)

abbrev pub several_in : Session → Option (List ℕ) → Bool
several_in s o = nat_lt 1 (length (instructions_in s o))

-- why an instruction is refused in a state
abbrev pub IsRefusedIn : Session → BoardState → Instruction → Cause → Type 0
IsRefusedIn s y x c = (r : Refusal) × (refusal (tailoring s) y x ≡ Some r) × (c ≡ cause_of r)

pub carries-agrees : (s : Session) (other : List (List ℕ)) (earlier : List Moment) (m : Moment) (act : Act) → AgreeOn s.requests other earlier
    → Agrees s.requests other act → Carries s earlier m act → Carries (exchanged s other) earlier m act
carries-agrees s other earlier m (Accepted k) a b h =
    subst (λ o. VerifiesIf (asks_in 0 s o) s m (verify.Accepted (id_in o))) b h
carries-agrees s other earlier m (TurnedAway k) a b h =
    (h.0, h.1, sym b ∙ h.2, h.3, subst (λ o. IsReport s m (Verify (verify.Refused (id_in o) h.1))) b h.4)
carries-agrees s other earlier m (Started k) a b h =
    subst (λ o. VerifiesIf (asks_in 1 s o) s m (verify.Started (id_in o))) b h
carries-agrees s other earlier m (NotStarted k) a b h =
    let e = b in
    let f = state-agrees s other earlier a in (
      h.0,
      h.1,
      subst (λ o. instructions_in s o ≡ h.0 ∷ []) e h.2,
      subst (λ y. IsRefusedIn s y h.0 h.1) f h.3,
      subst (λ o. IsReport s m (Verify (verify.NotStarted (id_in o) h.1))) e h.4,
    )
carries-agrees s other earlier m (Executed k number true) a b h =
    subst (λ o. VerifiesIf (several_in s o && asks_in 2 s o) s m (verify.Step (id_in o) number)) b h
carries-agrees s other earlier m (Executed k number false) a b h =
    let e = b in
    let f = state-agrees s other earlier a in
    let P : Option (List ℕ) → BoardState → Type 0 = λ o y. MatchBool (several_in s o)
    ((x : Instruction) × (c : Cause) × (instruction_in s o number ≡ Some x) × IsRefusedIn s y x c × IsReport s m (Verify (verify.StepFailed (id_in o) number c)))
    (IsSilent m) in
    subst (λ y. P (slice_get (exchanged s other).requests k) y) f (subst (λ o. P o (state_after s earlier)) e h)
carries-agrees s other earlier m (Completed k []) a b h =
    subst (λ o. VerifiesIf (asks_in 3 s o) s m (verify.Completed (id_in o))) b h
carries-agrees s other earlier m (Completed k (number ∷ numbers)) a b h =
    subst (λ o. IsReport s m (Verify (verify.Incomplete (id_in o) 200 (number ∷ numbers)))) b h
carries-agrees s other earlier m Emitted a b h = (h.0, h.1, honest-agrees s other earlier m.tag h.0 (state-agrees s other earlier a) h.2)
carries-agrees s other earlier m (Filed param slot value) a b h = h

handles-agrees : (s : Session) (other : List (List ℕ)) (earlier : List Moment) (act : Act) → Agrees s.requests other act
    → HandlesNext s earlier act → HandlesNext (exchanged s other) earlier act
handles-agrees s other earlier (Accepted k) b h = (h.0, subst (λ o. IsSome (request_in s o)) b h.1)
handles-agrees s other earlier (TurnedAway k) b h =
    (h.0, (h.1.0, h.1.1, sym b ∙ h.1.2, h.1.3))
handles-agrees s other earlier (Started k) b h = tt
handles-agrees s other earlier (NotStarted k) b h = tt
handles-agrees s other earlier (Executed k number flag) b h = tt
handles-agrees s other earlier (Completed k refused) b h = tt
handles-agrees s other earlier Emitted b h = tt
handles-agrees s other earlier (Filed param slot value) b h = tt

order-agrees : (s : Session) (other : List (List ℕ)) (earlier : List Moment) (act : Act) (number : Option ℕ) → IfSome number (λ k. slice_get s.requests k ≡ slice_get other k)
    → IfSome number (IsInOrder s earlier act) → IfSome number (IsInOrder (exchanged s other) earlier act)
order-agrees s other earlier act None b h = tt
order-agrees s other earlier act (Some k) b h =
    record { order = subst (λ o. MayFollow (length (instructions_in s o)) (last_act k earlier) act) b h.order; turn = h.turn }

outcome-agrees : (s : Session) (other : List (List ℕ)) (earlier : List Moment) (act : Act) → AgreeOn s.requests other earlier → Agrees s.requests other act
    → TellsOutcome s earlier act → TellsOutcome (exchanged s other) earlier act
outcome-agrees s other earlier (Executed k number flag) a b h = (
  h.0,
  subst (λ o. instruction_in s o number ≡ Some h.0) b h.1,
  subst (λ y. flag ≡ is_none (refusal (tailoring s) y h.0)) (state-agrees s other earlier a) h.2,
)
outcome-agrees s other earlier (NotStarted k) a b h = (
  h.0,
  subst (λ o. instructions_in s o ≡ h.0 ∷ []) b h.1,
  subst (λ y. IsSome (refusal (tailoring s) y h.0)) (state-agrees s other earlier a) h.2,
)
outcome-agrees s other earlier (Started k) a b h =
    λ x e. subst (λ y. IsNone (refusal (tailoring s) y x)) (state-agrees s other earlier a)
    (h x (subst (λ o. instructions_in s o ≡ x ∷ []) (sym b) e))
outcome-agrees s other earlier (Completed k refused) a b h = h
outcome-agrees s other earlier (Accepted k) a b h = tt
outcome-agrees s other earlier (TurnedAway k) a b h = tt
outcome-agrees s other earlier Emitted a b h = tt
outcome-agrees s other earlier (Filed param slot value) a b h = tt

sample-agrees : (s : Session) (other : List (List ℕ)) (earlier : List Moment) (act : Act) → AgreeOn s.requests other earlier
    → FilesSample s earlier act → FilesSample (exchanged s other) earlier act
sample-agrees s other earlier (Filed id slot value) a h = (
  h.0,
  record {
    known = h.1.known;
    fit = h.1.fit;
    once = h.1.once;
    settable = λ set why. subst (λ (y : BoardState). y.value id ≡ Some value) (state-agrees s other earlier a) (h.1.settable set why);
  },
)
sample-agrees s other earlier (Accepted k) a h = tt
sample-agrees s other earlier (TurnedAway k) a h = tt
sample-agrees s other earlier (Started k) a h = tt
sample-agrees s other earlier (NotStarted k) a h = tt
sample-agrees s other earlier (Executed k number flag) a h = tt
sample-agrees s other earlier (Completed k refused) a h = tt
sample-agrees s other earlier Emitted a h = tt

-- what may happen may happen in a session with other requests too
pub happens-agrees : (s : Session) (other : List (List ℕ)) (earlier : List Moment) (m : Moment) → AgreeOn s.requests other earlier
    → Agrees s.requests other m.act → MayHappen s earlier m → MayHappen (exchanged s other) earlier m
happens-agrees s other earlier m a b h =
    record {
      tag = record { low = h.tag.low; high = h.tag.high; above = h.tag.above };
      handling = handles-agrees s other earlier m.act b h.handling;
      order = order-agrees s other earlier m.act (request_number m.act) b h.order;
      outcome = outcome-agrees s other earlier m.act a b h.outcome;
      sample = sample-agrees s other earlier m.act a h.sample;
      packet = carries-agrees s other earlier m m.act a b h.packet;
    }

pub timeline-agrees : (s : Session) (other : List (List ℕ)) (moments : List Moment) → AgreeOn s.requests other moments
    → EachAfter (MayHappen s) moments → EachAfter (MayHappen (exchanged s other)) moments
timeline-agrees s other [] a h = tt
timeline-agrees s other (m ∷ earlier) a h = (happens-agrees s other earlier m a.1 a.0 h.0, timeline-agrees s other earlier a.1 h.1)

-- a session that is like another one is that one with its own requests
alike-same : (s r : Session) → IsAlike s r → exchanged s r.requests ≡ r
alike-same s r alike =
    let r_is : r ≡ record { protocol = r.protocol; known = r.known; long = r.long; initial = r.initial; requests = r.requests } = refl in
    let protocol = alike.protocol in
    let known = alike.known in
    let long = alike.long in
    let initial = alike.initial in
    cc

agreed : (s r : Session) (act : Act) → AgreesOn s r act → Agrees s.requests r.requests act
agreed s r act h = go (request_number act) h
  where
    go : (o : Option ℕ) → IfSome o (λ k. slice_get r.requests k ≡ slice_get s.requests k) → IfSome o (λ k. slice_get s.requests k ≡ slice_get r.requests k)
    go None h = tt
    go (Some k) h = sym h

agreed-all : (s r : Session) (moments : List Moment) → AllByRecursion (λ m. AgreesOn s r m.act) moments → AgreeOn s.requests r.requests moments
agreed-all s r [] h = tt
agreed-all s r (m ∷ moments) h = (agreed s r m.act h.0, agreed-all s r moments h.1)

-- moments that may happen one after the other may so in a session that is like that one and has the same packet under each number that they name
pub moments-agree : (s r : Session) (moments : List Moment) → IsAlike s r → AllByRecursion (λ m. AgreesOn s r m.act) moments
    → EachAfter (MayHappen s) moments → EachAfter (MayHappen r) moments
moments-agree s r moments alike agree each =
    let P : Session → Type 0 = λ x. EachAfter (MayHappen x) moments in
    subst P (alike-same s r alike) (timeline-agrees s r.requests moments (agreed-all s r moments agree) each)

-- two lists have the same packet under each number below one
abbrev AgreeTo : ℕ → List (List ℕ) → List (List ℕ) → Type 0
AgreeTo n requests other = (k : ℕ) → k < n → slice_get requests k ≡ slice_get other k

agree-act : (n : ℕ) (requests other : List (List ℕ)) (act : Act) → AgreeTo n requests other → ((k : ℕ) → request_number act ≡ Some k → k < n) → Agrees requests other act
agree-act n requests other act agree below = go (request_number act) refl
  where
    go : (o : Option ℕ) → request_number act ≡ o → IfSome o (λ k. slice_get requests k ≡ slice_get other k)
    go None is = tt
    go (Some k) is = agree k (below k is)

-- they agree on each moment of a world in which so many requests were sent
agree-moments : (s : Session) (steps : List Step) (n : ℕ) (other : List (List ℕ)) → AgreeTo n s.requests other → EachAfter (MayStep s) steps → sent_count steps ≤ n
    → AgreeOn s.requests other (moments_of steps)
agree-moments s [] n other agree each few = tt
agree-moments s (send k ∷ steps) n other agree each few = agree-moments s steps n other agree each.1 (omega (arith, few))
agree-moments s (deliver m ∷ steps) n other agree each few = agree-moments s steps n other agree each.1 few
agree-moments s (stray packet ∷ steps) n other agree each few = agree-moments s steps n other agree each.1 few
agree-moments s (happen m ∷ steps) n other agree each few = (
  agree-act n s.requests other m.act agree (λ k is. let sent = sent-moment s (happen m ∷ steps) each m k (inl refl) is in omega (arith, sent, few)),
  agree-moments s steps n other agree each.1 few,
)

request-agrees : (s : Session) (other : List (List ℕ)) (k : ℕ) → slice_get s.requests k ≡ slice_get other k → IsRequest s k → IsRequest (exchanged s other) k
request-agrees s other k same r =
    record { packet = r.packet; header = r.header; listed = sym same ∙ r.listed; command = r.command; apid = r.apid; source = r.source; count = r.count }

step-exchanged : (s : Session) (other : List (List ℕ)) (earlier : List Step) (step : Step) → AgreeTo (sent_count (step ∷ earlier)) s.requests other
    → EachAfter (MayStep s) earlier → MayStep s earlier step → MayStep (exchanged s other) earlier step
step-exchanged s other earlier (send k) agree each may = (request-agrees s other k (agree k (omega arith)) may.0, may.1)
step-exchanged s other earlier (deliver m) agree each may = may
step-exchanged s other earlier (stray packet) agree each may = may
step-exchanged s other earlier (happen m) agree each may = (
  may.0,
  happens-agrees s other (moments_of earlier) m (agree-moments s earlier (sent_count earlier) other agree each (omega arith))
      (agree-act (sent_count earlier) s.requests other m.act agree (λ k is. sent-moment s (happen m ∷ earlier) (may, each) m k (inl refl) is))
      may.1,
)

-- a step that may come next may so in a session that is like that one and has the same packets under the numbers that were sent
pub step-agrees : (s r : Session) (earlier : List Step) (step : Step) → IsAlike s r → AgreeBelow (sent_count (step ∷ earlier)) s r
    → EachAfter (MayStep s) earlier → MayStep s earlier step → MayStep r earlier step
step-agrees s r earlier step alike agree each may =
    let P : Session → Type 0 = λ x. MayStep x earlier step in
    subst P (alike-same s r alike) (step-exchanged s r.requests earlier step (λ k below. sym (agree k below)) each may)

-- as many were sent later
fewer : (step : Step) (steps : List Step) (n : ℕ) → sent_count (step ∷ steps) ≤ n → sent_count steps ≤ n
fewer (send k) steps n few = omega (arith, few)
fewer (happen m) steps n few = few
fewer (deliver m) steps n few = few
fewer (stray packet) steps n few = few

each-exchanged : (s : Session) (other : List (List ℕ)) (n : ℕ) (steps : List Step) → AgreeTo n s.requests other → sent_count steps ≤ n
    → EachAfter (MayStep s) steps → EachAfter (MayStep (exchanged s other)) steps
each-exchanged s other n [] agree few each = tt
each-exchanged s other n (step ∷ steps) agree few each = (
  step-exchanged s other steps step (λ k below. agree k (omega (arith, below, few))) each.1 each.0,
  each-exchanged s other n steps agree (fewer step steps n few) each.1,
)

-- a world stays one
pub world-agrees : (w : World) (r : Session) → IsAlike w.session r → AgreeBelow (sent_count w.steps) w.session r → IsWorld w → IsWorld (record { session = r; steps = w.steps })
world-agrees w r alike agree world =
    let s = w.session in
    let P : Session → Type 0 = λ x. IsWorld (record { session = x; steps = w.steps }) in
    subst P (alike-same s r alike)
    (record {
      session = record { fit = world.session.fit; valid = world.session.valid; booted = world.session.booted };
      steps = each-exchanged s r.requests (sent_count w.steps) w.steps (λ k below. sym (agree k below)) (omega arith) world.steps;
    })

steps-of : (s : Session) (other : List (List ℕ)) (n : ℕ) (steps : List Step) (newest : List Entry) → AgreeTo n s.requests other → sent_count steps ≤ n
    → AllZip (IsStepOf s) steps newest → AllZip (IsStepOf (exchanged s other)) steps newest
steps-of s other n [] [] agree few each = tt
steps-of s other n [] (e ∷ newest) agree few each = absurd each
steps-of s other n (step ∷ steps) [] agree few each = absurd each
steps-of s other n (send k ∷ steps) (entry.Sent packet ∷ newest) agree few each =
    (sym (agree k (omega (arith, few))) ∙ each.0, steps-of s other n steps newest agree (omega (arith, few)) each.1)
steps-of s other n (send k ∷ steps) (entry.Got packet ∷ newest) agree few each = absurd each.0
steps-of s other n (send k ∷ steps) (entry.Line text ∷ newest) agree few each = absurd each.0
steps-of s other n (happen m ∷ steps) (entry.Sent packet ∷ newest) agree few each = absurd each.0
steps-of s other n (happen m ∷ steps) (entry.Got packet ∷ newest) agree few each = absurd each.0
steps-of s other n (happen m ∷ steps) (entry.Line text ∷ newest) agree few each = (each.0, steps-of s other n steps newest agree few each.1)
steps-of s other n (deliver m ∷ steps) (entry.Sent packet ∷ newest) agree few each = absurd each.0
steps-of s other n (deliver m ∷ steps) (entry.Got packet ∷ newest) agree few each = (each.0, steps-of s other n steps newest agree few each.1)
steps-of s other n (deliver m ∷ steps) (entry.Line text ∷ newest) agree few each = absurd each.0
steps-of s other n (stray packet ∷ steps) (entry.Sent other_packet ∷ newest) agree few each = absurd each.0
steps-of s other n (stray packet ∷ steps) (entry.Got other_packet ∷ newest) agree few each = (each.0, steps-of s other n steps newest agree few each.1)
steps-of s other n (stray packet ∷ steps) (entry.Line text ∷ newest) agree few each = absurd each.0

-- and it stays that of the same entries' own lines
pub own-agrees : (w : World) (r : Session) (h : Header) (entries : List Entry) → IsAlike w.session r → AgreeBelow (sent_count w.steps) w.session r
    → IsOwnWorld w h entries → IsOwnWorld (record { session = r; steps = w.steps }) h entries
own-agrees w r h entries alike agree own =
    let s = w.session in
    let P : Session → Type 0 = λ x. AreStepsOf x w.steps entries in
    record {
      world = world-agrees w r alike agree own.world;
      known = own.known ∙ sym alike.known;
      long = own.long ∙ sym alike.long;
      steps = subst P (alike-same s r alike) (steps-of s r.requests (sent_count w.steps) w.steps (reverse entries) (λ k below. sym (agree k below)) (omega arith) own.steps);
    }
