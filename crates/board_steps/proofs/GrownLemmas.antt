-- A session with other packets under numbers that no moment names, whose start is known or not: what was done stays legal and honest. So it does where packets are added.
use Rattle.std.proofs.Common.{arith, ◌≡◌, ℕ, zero, suc, ◌/◌, ◌%◌, ◌^◌, ◌<◌, refl, sym, ◌∙◌, ap, ap₂, subst, List, [], ◌∷◌, ◌++◌, length, filter, map, Bool, true, false, ◌==◌, ◌&&◌, Option, Some, None}
use Rattle.std.specs.Prelude.{IfSome, IsSome, IsNone, MatchBool, unwrap_or, nat_lt, is_none, slice_get, option_and_then, option_map, if◌then◌else◌}
use Rattle.std.specs.List.{AllByRecursion, AllZip, cons_option}
use Rattle.std.specs.Option.{option_or, option_map_or}
use Rattle.std.specs.Result.{result_ok}
use Rattle.hk_base.specs.Parameters.{parameter, is_settable}
use Rattle.hk_base.specs.declared.types.RequestId.{RequestId}
use Rattle.statistics.specs.Summaries.{IsSummary}
use Rattle.st01_reports.specs.declared.verification.Cause.{Cause}
use Rattle.st01_reports.specs.declared.verification.Verification.TheVariants as verify
use Rattle.st03_grammar.specs.declared.bodies.PeriodicRow.{PeriodicRow}
use Rattle.st03_grammar.specs.declared.bodies.Report03.TheVariants as hk
use Rattle.st04_grammar.specs.declared.bodies.StatRow.{StatRow}
use Rattle.st04_grammar.specs.declared.bodies.Report04.TheVariants as stat
use Rattle.pus_messages.specs.Instructions.{Instruction, instructions, instruction}
use Rattle.pus_messages.specs.declared.message.Request.{Request}
use Rattle.pus_messages.specs.declared.message.ReportBody.{ReportBody}
use Rattle.pus_messages.specs.declared.message.ReportBody.TheVariants.{Verify, Hk, Stat, Par}
use Rattle.report_structures.specs.declared.refusal.Refusal.{Refusal}
use Rattle.hk_world.specs.States.{Member, BoardState, refusal}
use Rattle.hk_world.specs.Timelines.{EachAfter, Session, tailoring, Done, request_number, last_act, done_by, done_instructions, structure_after, statistics_after, set_value, filed_value, first_some, restarts, start_after, state_after}
use Rattle.hk_world.specs.Legal.{HandlesNext, MayFollow, IsInOrder, TellsOutcome, FilesSample}
use Rattle.hk_world.specs.Honest.{Carries, VerifiesIf, IsReport, IsSilent, IsHonestBody, IsPeriodicRow, IsStatRow, cause_of, id_of_packet, samples_of, has_samples}
use Rattle.hk_world.specs.Worlds.{MayHappen}
pub use Rattle.board_steps.specs.Timeline.{IsBelow, AreBelow, exchanged, on_ground, Agrees, AgreeOn}
use Rattle.hk_world.specs.declared.moment.Moment.{Moment}
use Rattle.hk_world.specs.declared.moment.Act.{Act}
use Rattle.hk_world.specs.declared.moment.Act.TheVariants.{Accepted, TurnedAway, Started, NotStarted, Executed, Completed, Emitted, Filed}

-- a session with more requests
abbrev pub grown : Session → List (List ℕ) → Session
grown s more = exchanged s (s.requests ++ more)

pub slice_get-front : {X : Type 0} (xs ys : List X) (k : ℕ) → k < length xs → slice_get (xs ++ ys) k ≡ slice_get xs k
slice_get-front [] ys k h = absurd (omega (arith, h))
slice_get-front (x ∷ xs) ys zero h = refl
slice_get-front (x ∷ xs) ys (suc k) h = slice_get-front xs ys k (omega (arith, h))

-- the request of a packet, if it is one
abbrev pub request_in : Session → Option (List ℕ) → Option Request
request_in s o = option_and_then (λ packet. result_ok (s.protocol.request packet)) o

pub done-ground : (s : Session) (known : Bool) (other : List (List ℕ)) (tag : ℕ) (act : Act) → Agrees s.requests other act → done_by s tag act ≡ done_by (on_ground s known other) tag act
done-ground s known other tag (Executed k number true) h =
    ap (λ o. option_map (λ x. record { tag = tag; request = k; instruction = x }) (option_and_then (λ r. instruction r number) (request_in s o))) h
done-ground s known other tag (Executed k number false) h = refl
done-ground s known other tag (Accepted k) h = refl
done-ground s known other tag (TurnedAway k) h = refl
done-ground s known other tag (Started k) h = refl
done-ground s known other tag (NotStarted k) h = refl
done-ground s known other tag (Completed k refused) h = refl
done-ground s known other tag Emitted h = refl
done-ground s known other tag (Filed param slot value) h = refl

pub dones-ground : (s : Session) (known : Bool) (other : List (List ℕ)) (moments : List Moment) → AgreeOn s.requests other moments
    → done_instructions s moments ≡ done_instructions (on_ground s known other) moments
dones-ground s known other [] h = refl
dones-ground s known other (m ∷ earlier) h = ap₂ (λ o xs. cons_option o xs) (done-ground s known other m.tag m.act h.0) (dones-ground s known other earlier h.1)

restarts-ground : (s : Session) (known : Bool) (other : List (List ℕ)) (moments : List Moment) → AgreeOn s.requests other moments
    → restarts s moments ≡ restarts (on_ground s known other) moments
restarts-ground s known other [] h = refl
restarts-ground s known other (m ∷ []) h = rw (done-ground s known other m.tag m.act h.0)
restarts-ground s known other (m ∷ e ∷ earlier) h = rw (done-ground s known other m.tag m.act h.0) (rw (done-ground s known other e.tag e.act h.1.0))

start-ground : (s : Session) (known : Bool) (other : List (List ℕ)) (moments : List Moment) → AgreeOn s.requests other moments
    → start_after s moments ≡ start_after (on_ground s known other) moments
start-ground s known other [] h = refl
start-ground s known other (m ∷ earlier) h =
    ap₂ (λ b n. if b then m.tag else n) (restarts-ground s known other (m ∷ earlier) h) (start-ground s known other earlier h.1)

-- the state that is left by some instructions
abbrev pub state_by : Session → List Moment → List Done → ℕ → BoardState
state_by s moments done start =
    record {
      structure = structure_after (tailoring s) s.initial done;
      value = λ id.
          option_or
          (if option_map_or is_settable (parameter (tailoring s) id) false
          then first_some (λ d. set_value id d.instruction) done
          else first_some (λ m. filed_value id m.act) moments)
          (s.initial.value id);
      statistics = statistics_after s.initial done;
      start = start;
    }

pub state-ground : (s : Session) (known : Bool) (other : List (List ℕ)) (moments : List Moment) → AgreeOn s.requests other moments
    → state_after s moments ≡ state_after (on_ground s known other) moments
state-ground s known other moments h = ap₂ (λ d n. state_by s moments d n) (dones-ground s known other moments h) (start-ground s known other moments h)

AllZip-mapped : {A B : Type 0} (P Q : A → B → Type 0) → ((x : A) (y : B) → P x y → Q x y) → (xs : List A) (ys : List B) → AllZip P xs ys → AllZip Q xs ys
AllZip-mapped P Q f [] [] h = tt
AllZip-mapped P Q f [] (y ∷ ys) h = absurd h
AllZip-mapped P Q f (x ∷ xs) [] h = absurd h
AllZip-mapped P Q f (x ∷ xs) (y ∷ ys) h = (f x y h.0, AllZip-mapped P Q f xs ys h.1)

-- a body that is honest in one session is so in one that leaves the same state
honest-ground : (s : Session) (known : Bool) (other : List (List ℕ)) (earlier : List Moment) (tag : ℕ) (body : ReportBody)
    → state_after s earlier ≡ state_after (on_ground s known other) earlier → IsHonestBody s earlier tag body → IsHonestBody (on_ground s known other) earlier tag body
honest-ground s known other earlier tag (Verify v) e h = absurd h
honest-ground s known other earlier tag (Hk (hk.Values key payload)) e h =
    record {
      structure = h.structure;
      values = h.values;
      is_there = subst (λ (x : BoardState). x.structure key ≡ Some h.structure) e h.is_there;
      interval = h.interval;
      samples = h.samples;
      payload_is = h.payload_is;
    }
honest-ground s known other earlier tag (Hk (hk.Structure key x)) e h = subst (λ (y : BoardState). y.structure key ≡ Some x) e h
honest-ground s known other earlier tag (Hk (hk.Periodic kind rows)) e h = go rows h
  where
    go : (rs : List PeriodicRow) → AllByRecursion (IsPeriodicRow s earlier kind) rs → AllByRecursion (IsPeriodicRow (on_ground s known other) earlier kind) rs
    go [] k = tt
    go (r ∷ rs) k =
        ((k.0.0, subst (λ (y : BoardState). y.structure (record { kind = kind; id = r.id }) ≡ Some k.0.0) e k.0.1, k.0.2, k.0.3), go rs k.1)
honest-ground s known other earlier tag (Stat (stat.Statistics r)) e h =
    record {
      start = subst (λ (y : BoardState). r.start ≡ y.start) e h.start;
      end = h.end;
      rows = AllZip-mapped (IsStatRow s earlier) (IsStatRow (on_ground s known other) earlier) row
          (filter (λ m. has_samples (samples_of (state_after (on_ground s known other) earlier) earlier m)) (state_after (on_ground s known other) earlier).statistics.members) r.rows
          (subst (λ (y : BoardState). AllZip (IsStatRow s earlier) (filter (λ m. has_samples (samples_of y earlier m)) y.statistics.members) r.rows) e h.rows);
    }
  where
    row : (m : Member) (r : StatRow) → IsStatRow s earlier m r → IsStatRow (on_ground s known other) earlier m r
    row m r k =
        record {
          param = k.param;
          max_slot = k.max_slot;
          min_slot = k.min_slot;
          max_time = k.max_time;
          min_time = k.min_time;
          summary = subst (λ (y : BoardState). IsSummary (tailoring s).widths.mean_fraction (samples_of y earlier m)
              (record { count = r.count; max = r.max; max_slot = k.max_slot; min = r.min; min_slot = k.min_slot; mean = r.mean })) e k.summary;
        }
honest-ground s known other earlier tag (Stat (stat.Definitions enabled interval params)) e h =
    subst (λ (y : BoardState). (y.statistics.enabled ≡ enabled) × (y.statistics.interval ≡ interval) × (map (λ m. m.param) y.statistics.members ≡ params)) e h
honest-ground s known other earlier tag (Par r) e h =
    subst (λ (y : BoardState). AllByRecursion (λ x. y.value x.param ≡ Some x.value) r.pairs) e h

-- what a request's packet tells of it
abbrev pub asks_in : ℕ → Session → Option (List ℕ) → Bool
asks_in bit s o = option_map_or (λ r. r.header.flags / 2 ^ bit % 2 == 1) (request_in s o) false

abbrev pub id_in : Option (List ℕ) → RequestId
id_in o = id_of_packet (unwrap_or o [])

abbrev pub instructions_in : Session → Option (List ℕ) → List Instruction
instructions_in s o = option_map_or instructions (request_in s o) []

abbrev pub instruction_in : Session → Option (List ℕ) → ℕ → Option Instruction
instruction_in s o number = option_and_then (λ r. instruction r number) (request_in s o)

abbrev pub several_in : Session → Option (List ℕ) → Bool
several_in s o = nat_lt 1 (length (instructions_in s o))

-- why an instruction is refused in a state
abbrev pub IsRefusedIn : Session → BoardState → Instruction → Cause → Type 0
IsRefusedIn s y x c = (r : Refusal) × (refusal (tailoring s) y x ≡ Some r) × (c ≡ cause_of r)

pub carries-ground : (s : Session) (known : Bool) (other : List (List ℕ)) (earlier : List Moment) (m : Moment) (act : Act) → AgreeOn s.requests other earlier
    → Agrees s.requests other act → Carries s earlier m act → Carries (on_ground s known other) earlier m act
carries-ground s known other earlier m (Accepted k) a b h =
    subst (λ o. VerifiesIf (asks_in 0 s o) s m (verify.Accepted (id_in o))) b h
carries-ground s known other earlier m (TurnedAway k) a b h =
    (h.0, h.1, sym b ∙ h.2, h.3, subst (λ o. IsReport s m (Verify (verify.Refused (id_in o) h.1))) b h.4)
carries-ground s known other earlier m (Started k) a b h =
    subst (λ o. VerifiesIf (asks_in 1 s o) s m (verify.Started (id_in o))) b h
carries-ground s known other earlier m (NotStarted k) a b h =
    let e = b in
    let f = state-ground s known other earlier a in (
      h.0,
      h.1,
      subst (λ o. instructions_in s o ≡ h.0 ∷ []) e h.2,
      subst (λ y. IsRefusedIn s y h.0 h.1) f h.3,
      subst (λ o. IsReport s m (Verify (verify.NotStarted (id_in o) h.1))) e h.4,
    )
carries-ground s known other earlier m (Executed k number true) a b h =
    subst (λ o. VerifiesIf (several_in s o && asks_in 2 s o) s m (verify.Step (id_in o) number)) b h
carries-ground s known other earlier m (Executed k number false) a b h =
    let e = b in
    let f = state-ground s known other earlier a in
    let P : Option (List ℕ) → BoardState → Type 0 = λ o y. MatchBool (several_in s o)
    ((x : Instruction) × (c : Cause) × (instruction_in s o number ≡ Some x) × IsRefusedIn s y x c × IsReport s m (Verify (verify.StepFailed (id_in o) number c)))
    (IsSilent m) in
    subst (λ y. P (slice_get (on_ground s known other).requests k) y) f (subst (λ o. P o (state_after s earlier)) e h)
carries-ground s known other earlier m (Completed k []) a b h =
    subst (λ o. VerifiesIf (asks_in 3 s o) s m (verify.Completed (id_in o))) b h
carries-ground s known other earlier m (Completed k (number ∷ numbers)) a b h =
    subst (λ o. IsReport s m (Verify (verify.Incomplete (id_in o) 200 (number ∷ numbers)))) b h
carries-ground s known other earlier m Emitted a b h = (h.0, h.1, honest-ground s known other earlier m.tag h.0 (state-ground s known other earlier a) h.2)
carries-ground s known other earlier m (Filed param slot value) a b h = h

handles-ground : (s : Session) (known : Bool) (other : List (List ℕ)) (earlier : List Moment) (act : Act) → Agrees s.requests other act
    → HandlesNext s earlier act → HandlesNext (on_ground s known other) earlier act
handles-ground s known other earlier (Accepted k) b h = (h.0, subst (λ o. IsSome (request_in s o)) b h.1)
handles-ground s known other earlier (TurnedAway k) b h =
    (h.0, (h.1.0, h.1.1, sym b ∙ h.1.2, h.1.3))
handles-ground s known other earlier (Started k) b h = tt
handles-ground s known other earlier (NotStarted k) b h = tt
handles-ground s known other earlier (Executed k number flag) b h = tt
handles-ground s known other earlier (Completed k refused) b h = tt
handles-ground s known other earlier Emitted b h = tt
handles-ground s known other earlier (Filed param slot value) b h = tt

order-ground : (s : Session) (known : Bool) (other : List (List ℕ)) (earlier : List Moment) (act : Act) (number : Option ℕ) → IfSome number (λ k. slice_get s.requests k ≡ slice_get other k)
    → IfSome number (IsInOrder s earlier act) → IfSome number (IsInOrder (on_ground s known other) earlier act)
order-ground s known other earlier act None b h = tt
order-ground s known other earlier act (Some k) b h =
    record { order = subst (λ o. MayFollow (length (instructions_in s o)) (last_act k earlier) act) b h.order; turn = h.turn }

outcome-ground : (s : Session) (known : Bool) (other : List (List ℕ)) (earlier : List Moment) (act : Act) → AgreeOn s.requests other earlier → Agrees s.requests other act
    → TellsOutcome s earlier act → TellsOutcome (on_ground s known other) earlier act
outcome-ground s known other earlier (Executed k number flag) a b h = (
  h.0,
  subst (λ o. instruction_in s o number ≡ Some h.0) b h.1,
  subst (λ y. flag ≡ is_none (refusal (tailoring s) y h.0)) (state-ground s known other earlier a) h.2,
)
outcome-ground s known other earlier (NotStarted k) a b h = (
  h.0,
  subst (λ o. instructions_in s o ≡ h.0 ∷ []) b h.1,
  subst (λ y. IsSome (refusal (tailoring s) y h.0)) (state-ground s known other earlier a) h.2,
)
outcome-ground s known other earlier (Started k) a b h =
    λ x e. subst (λ y. IsNone (refusal (tailoring s) y x)) (state-ground s known other earlier a)
    (h x (subst (λ o. instructions_in s o ≡ x ∷ []) (sym b) e))
outcome-ground s known other earlier (Completed k refused) a b h = h
outcome-ground s known other earlier (Accepted k) a b h = tt
outcome-ground s known other earlier (TurnedAway k) a b h = tt
outcome-ground s known other earlier Emitted a b h = tt
outcome-ground s known other earlier (Filed param slot value) a b h = tt

sample-ground : (s : Session) (known : Bool) (other : List (List ℕ)) (earlier : List Moment) (act : Act) → AgreeOn s.requests other earlier
    → FilesSample s earlier act → FilesSample (on_ground s known other) earlier act
sample-ground s known other earlier (Filed id slot value) a h = (
  h.0,
  record {
    known = h.1.known;
    fit = h.1.fit;
    once = h.1.once;
    settable = λ set why. subst (λ (y : BoardState). y.value id ≡ Some value) (state-ground s known other earlier a) (h.1.settable set why);
  },
)
sample-ground s known other earlier (Accepted k) a h = tt
sample-ground s known other earlier (TurnedAway k) a h = tt
sample-ground s known other earlier (Started k) a h = tt
sample-ground s known other earlier (NotStarted k) a h = tt
sample-ground s known other earlier (Executed k number flag) a h = tt
sample-ground s known other earlier (Completed k refused) a h = tt
sample-ground s known other earlier Emitted a h = tt

-- what may happen may happen in a session with other requests too
pub happens-ground : (s : Session) (known : Bool) (other : List (List ℕ)) (earlier : List Moment) (m : Moment) → AgreeOn s.requests other earlier
    → Agrees s.requests other m.act → MayHappen s earlier m → MayHappen (on_ground s known other) earlier m
happens-ground s known other earlier m a b h =
    record {
      tag = record { low = h.tag.low; high = h.tag.high; above = h.tag.above };
      handling = handles-ground s known other earlier m.act b h.handling;
      order = order-ground s known other earlier m.act (request_number m.act) b h.order;
      outcome = outcome-ground s known other earlier m.act a b h.outcome;
      sample = sample-ground s known other earlier m.act a h.sample;
      packet = carries-ground s known other earlier m m.act a b h.packet;
    }

pub timeline-ground : (s : Session) (known : Bool) (other : List (List ℕ)) (moments : List Moment) → AgreeOn s.requests other moments
    → EachAfter (MayHappen s) moments → EachAfter (MayHappen (on_ground s known other)) moments
timeline-ground s known other [] a h = tt
timeline-ground s known other (m ∷ earlier) a h = (happens-ground s known other earlier m a.1 a.0 h.0, timeline-ground s known other earlier a.1 h.1)

-- so it is in a session with the same start flag
pub done-agrees : (s : Session) (other : List (List ℕ)) (tag : ℕ) (act : Act) → Agrees s.requests other act → done_by s tag act ≡ done_by (exchanged s other) tag act
done-agrees s other tag act h = done-ground s s.known other tag act h

pub dones-agrees : (s : Session) (other : List (List ℕ)) (moments : List Moment) → AgreeOn s.requests other moments
    → done_instructions s moments ≡ done_instructions (exchanged s other) moments
dones-agrees s other moments h = dones-ground s s.known other moments h

pub state-agrees : (s : Session) (other : List (List ℕ)) (moments : List Moment) → AgreeOn s.requests other moments
    → state_after s moments ≡ state_after (exchanged s other) moments
state-agrees s other moments h = state-ground s s.known other moments h

pub timeline-agrees : (s : Session) (other : List (List ℕ)) (moments : List Moment) → AgreeOn s.requests other moments
    → EachAfter (MayHappen s) moments → EachAfter (MayHappen (exchanged s other)) moments
timeline-agrees s other moments a h = timeline-ground s s.known other moments a h

-- a packet in front stays where others are added
agree-grown : (requests more : List (List ℕ)) (act : Act) → IsBelow (length requests) act → Agrees requests (requests ++ more) act
agree-grown requests more act h = go (request_number act) h
  where
    go : (o : Option ℕ) → IfSome o (λ k. k < length requests) → IfSome o (λ k. slice_get requests k ≡ slice_get (requests ++ more) k)
    go None lt = tt
    go (Some k) lt = sym (slice_get-front requests more k lt)

pub agree-all : (requests more : List (List ℕ)) (moments : List Moment) → AreBelow (length requests) moments → AgreeOn requests (requests ++ more) moments
agree-all requests more [] h = tt
agree-all requests more (m ∷ moments) h = (agree-grown requests more m.act h.0, agree-all requests more moments h.1)

pub timeline-grown : (s : Session) (more : List (List ℕ)) (moments : List Moment) → AreBelow (length s.requests) moments
    → EachAfter (MayHappen s) moments → EachAfter (MayHappen (grown s more)) moments
timeline-grown s more moments a h = timeline-ground s s.known (s.requests ++ more) moments (agree-all s.requests more moments a) h
