-- The moments that a step adds, one by one: their samples, and the requests that wait then.
use Rattle.std.proofs.Common.{arith, ◌≡◌, ℕ, suc, ◌+◌, ◌<◌, ◌≤◌, refl, sym, ◌∙◌, ap, ap₂, subst, List, [], ◌∷◌, ◌++◌, length, reverse, map, cond, Bool, true, false, ◌==◌, ◌&&◌, ◌||◌, Option, Some, None, filter, take, length-append}
use Rattle.std.specs.Prelude.{⊤, is_some, find, filter_map, if◌then◌else◌}
use Rattle.std.specs.List.{AllByRecursion, list_any, range_with_len, cons_option}
use Rattle.std.specs.Option.{option_map_or}
use Rattle.std.proofs.lemmas.List.{length-map, append_assoc, append-nil, reverse-append}
use Rattle.std.proofs.lemmas.List.Elements.{filter_map-append}
use Rattle.std.proofs.lemmas.Bool.{ne_eqb}
use Rattle.hk_base.specs.Fit.{IsFit}
use Rattle.hk_base.specs.TailoringParts.{TailoringParts}
use Rattle.hk_base.specs.Parameters.{parameter, is_settable}
use Rattle.hk_base.specs.declared.types.Param.{Param}
use Rattle.hk_world.specs.Timelines.{Session, request_at, instructions_at, request_number, is_act_of, last_act}
use Rattle.hk_world.specs.Legal.{is_pending, is_filing, refused_numbers}
use Rattle.hk_world.specs.declared.moment.Moment.{Moment}
use Rattle.hk_world.specs.declared.moment.Act.{Act}
use Rattle.hk_world.specs.declared.moment.Act.TheVariants.{Accepted, TurnedAway, Started, NotStarted, Executed, Completed, Emitted, Filed}
use Rattle.hk_world.proofs.OrderLemmas.{true_is_not_false, last_act-other}
use Rattle.board_steps.specs.Cores.{Core, session}
use Rattle.board_steps.specs.Slots.{is_filed, is_set}
use Rattle.board_steps.specs.Plans.{Topic, Plan, does, tells, handled_as, handling, prepared, is_barred, execution, next_acts, worked_request, worked_acts, worked_done, topics_of, settables, own_filing, due_topics, tags_left, planned}
use Rattle.board_steps.specs.Steps.{IsNext, AreNext, IsStep}
use Rattle.board_steps.specs.Timeline.{Stands, IsFiledBy, AreFiledBy}
use Rattle.board_steps.specs.SlotRuns.{waiting, filed_sample, filings}
use Rattle.board_steps.specs.Added.{own_sample, filed_by, Adds}
use Rattle.board_steps.specs.declared.event.Event.{Event}
use Rattle.board_steps.specs.declared.event.Event.TheVariants.{Uplink, Clock, Work, Filing, CloseSlot}
use Rattle.board_steps.specs.declared.event.Sample.{Sample}
use Rattle.board_steps.proofs.ClosingLemmas.{settables-own}
use Rattle.board_steps.proofs.RunLemmas.{acts_of}

-- moments, the oldest first, each of which is the next one, as planned
abbrev pub AreAdded : Session → ℕ → ℕ → List Moment → List Plan → List Moment → Type 0
AreAdded s clock slot earlier [] [] = ⊤
AreAdded s clock slot earlier [] (m ∷ new) = ⊥
AreAdded s clock slot earlier (plan ∷ plans) [] = ⊥
AreAdded s clock slot earlier (plan ∷ plans) (m ∷ new) = IsNext s clock slot earlier plan m × AreAdded s clock slot (m ∷ earlier) plans new

-- the moments that come as planned, apart from those before them
pub record AreParted (s : Session) (clock slot : ℕ) (earlier after : List Moment) (plans : List Plan) : Type 0 where
  pub new : List Moment
  pub moments : after ≡ reverse new ++ earlier
  pub count : length new ≡ length plans
  pub added : AreAdded s clock slot earlier plans new

pub parted : (s : Session) (clock slot : ℕ) (earlier after : List Moment) (plans : List Plan) → AreNext s clock slot earlier plans after → AreParted s clock slot earlier after plans
parted s clock slot earlier after [] h = record { new = []; moments = h; count = refl; added = tt }
parted s clock slot earlier after (plan ∷ plans) h =
    let m : Moment = h.0 in
    let p = parted s clock slot (m ∷ earlier) after plans h.2 in
    record {
      new = m ∷ p.new;
      moments = p.moments ∙ sym (append_assoc (reverse p.new) (m ∷ []) earlier) ∙ ap (λ xs. xs ++ earlier) (sym (reverse-append (m ∷ []) p.new));
      count = ap suc p.count;
      added = (h.1, p.added);
    }

-- the sample that a plan files
abbrev pub plan_sample : Plan → Option Sample
plan_sample (does act) = filed_sample act
plan_sample (tells topic) = None

next-sample : (s : Session) (slot : ℕ) (earlier : List Moment) (clock : ℕ) (plan : Plan) (m : Moment) → IsNext s clock slot earlier plan m → filed_sample m.act ≡ plan_sample plan
next-sample s slot earlier clock (does act) m h = ap filed_sample h.follows.0
next-sample s slot earlier clock (tells topic) m h = ap filed_sample h.follows.0

-- the samples of moments are those that were planned
pub added-samples : (s : Session) (clock slot : ℕ) (earlier : List Moment) (plans : List Plan) (new : List Moment) → AreAdded s clock slot earlier plans new
    → filings new ≡ filter_map plan_sample plans
added-samples s clock slot earlier [] [] h = refl
added-samples s clock slot earlier [] (m ∷ new) h = absurd h
added-samples s clock slot earlier (plan ∷ plans) [] h = absurd h
added-samples s clock slot earlier (plan ∷ plans) (m ∷ new) h =
    ap₂ (λ o xs. cons_option o xs) (next-sample s slot earlier clock plan m h.0) (added-samples s clock slot (m ∷ earlier) plans new h.1)

-- acts that come where a request goes on are of a request
pub begun-of-request : (b : Bool) (k : ℕ) → is_some (request_number (if b then NotStarted k else Started k)) ≡ true
begun-of-request true k = refl
begun-of-request false k = refl

pub next-of-request : (b : Bool) (s : Session) (earlier : List Moment) (k last : ℕ)
    → is_some (request_number (if b then Completed k (refused_numbers k earlier) else execution s earlier k (last + 1))) ≡ true
next-of-request true s earlier k last = refl
next-of-request false s earlier k last = refl

pub handling-of-request : (b : Bool) (k : ℕ) → is_some (request_number (if b then Accepted k else TurnedAway k)) ≡ true
handling-of-request true k = refl
handling-of-request false k = refl

pub acts-of-requests : (s : Session) (earlier : List Moment) (k : ℕ) (o : Option Act) → AllByRecursion (λ act. is_some (request_number act) ≡ true) (next_acts s earlier k o)
acts-of-requests s earlier k None = tt
acts-of-requests s earlier k (Some (Accepted j)) = (begun-of-request (is_barred s earlier (instructions_at s k)) k, tt)
acts-of-requests s earlier k (Some (Started j)) = (refl, tt)
acts-of-requests s earlier k (Some (Executed j last flag)) = (next-of-request (last == length (instructions_at s k)) s earlier k last, tt)
acts-of-requests s earlier k (Some (TurnedAway j)) = tt
acts-of-requests s earlier k (Some (NotStarted j)) = tt
acts-of-requests s earlier k (Some (Completed j refused)) = tt
acts-of-requests s earlier k (Some Emitted) = tt
acts-of-requests s earlier k (Some (Filed id x value)) = tt

pub worked-of-requests : (c : Core) (o : Option ℕ) → AllByRecursion (λ act. is_some (request_number act) ≡ true) (acts_of c o)
worked-of-requests c None = tt
worked-of-requests c (Some k) = acts-of-requests (session c) c.moments k (last_act k c.moments)

request-unfiled : (act : Act) → is_some (request_number act) ≡ true → filed_sample act ≡ None
request-unfiled (Accepted k) h = refl
request-unfiled (TurnedAway k) h = refl
request-unfiled (Started k) h = refl
request-unfiled (NotStarted k) h = refl
request-unfiled (Executed k number flag) h = refl
request-unfiled (Completed k refused) h = refl
request-unfiled Emitted h = refl
request-unfiled (Filed id x value) h = absurd (true_is_not_false (sym h))

acts-unfiled : (acts : List Act) → AllByRecursion (λ act. is_some (request_number act) ≡ true) acts → filter_map plan_sample (map does acts) ≡ []
acts-unfiled [] h = refl
acts-unfiled (act ∷ acts) h = ap₂ (λ o xs. cons_option o xs) (request-unfiled act h.0) (acts-unfiled acts h.1)

topics-unfiled : (topics : List Topic) → filter_map plan_sample (map tells topics) ≡ []
topics-unfiled [] = refl
topics-unfiled (topic ∷ topics) = topics-unfiled topics

own-filed : (c : Core) (ps : List Param) → filter_map plan_sample (map (λ p. does (own_filing c p)) ps) ≡ map (own_sample c) ps
own-filed c [] = refl
own-filed c (p ∷ ps) = ap (λ xs. own_sample c p ∷ xs) (own-filed c ps)

packet-unfiled : (c : Core) (s : Session) (o : Option ℕ) → filter_map plan_sample (option_map_or (λ k. does (handling s k) ∷ []) o []) ≡ []
packet-unfiled c s None = refl
packet-unfiled c s (Some k) = acts-unfiled (handling s k ∷ []) (handling-of-request (is_some (request_at s k)) k, tt)

-- the samples that are planned are those of the event
pub planned-samples : (c : Core) (event : Event) → filter_map plan_sample (planned c event) ≡ filed_by c event
planned-samples c (Uplink packet) = packet-unfiled c (session (prepared c (Uplink packet))) (handled_as c packet)
planned-samples c (Clock tag) = refl
planned-samples c Work =
    filter_map-append plan_sample (map does (worked_acts c)) (map tells (topics_of (worked_done c)))
    ∙ ap₂ (λ xs ys. xs ++ ys) (acts-unfiled (worked_acts c) (worked-of-requests c (worked_request c))) (topics-unfiled (topics_of (worked_done c)))
planned-samples c (Filing x) = refl
planned-samples c CloseSlot =
    let p : Core = prepared c CloseSlot in
    let topics : List Topic = take (tags_left p) (due_topics p) in
    filter_map-append plan_sample (map (λ q. does (own_filing p q)) (settables c.tailoring)) (map tells topics)
    ∙ ap₂ (λ xs ys. xs ++ ys) (own-filed c (settables c.tailoring)) (topics-unfiled topics) ∙ append-nil (map (own_sample c) (settables c.tailoring))

-- lists that are filtered by tests that agree
pub filter-same : {X : Type 0} (f g : X → Bool) → ((x : X) → f x ≡ g x) → (xs : List X) → filter f xs ≡ filter g xs
filter-same f g same [] = refl
filter-same f g same (x ∷ xs) = ap₂ (λ b ys. cond b (x ∷ ys) ys) (same x) (filter-same f g same xs)

-- a sample leaves the number of requests that wait
pub waits-same : (before : Core) (x : Sample) (after : Core) → IsStep before (Filing x) after → waiting after ≡ waiting before
waits-same before x after step =
    let m : Moment = step.moments.0 in
    let next = step.moments.1 in
    let more : after.moments ≡ m ∷ before.moments = step.moments.2 in
    let none : (k : ℕ) → is_act_of k m.act ≡ false = λ k. ap (is_act_of k) next.follows.0 in
    let same : (k : ℕ) → is_pending (last_act k after.moments) ≡ is_pending (last_act k before.moments) =
    λ k. ap (λ ms. is_pending (last_act k ms)) more ∙ ap is_pending (last_act-other k m before.moments (none k)) in
    filter-length same
  where
    filter-length : ((k : ℕ) → is_pending (last_act k after.moments) ≡ is_pending (last_act k before.moments)) → waiting after ≡ waiting before
    filter-length same =
        ap length (filter-same (λ k. is_pending (last_act k after.moments)) (λ k. is_pending (last_act k before.moments)) same (range_with_len 0 (length after.requests)))
        ∙ ap (λ (rs : List (List ℕ)). length (filter (λ k. is_pending (last_act k before.moments)) (range_with_len 0 (length rs)))) step.requests

-- where some pass a test the first of them is found
found-first : (f : ℕ → Bool) (xs : List ℕ) → 0 < length (filter f xs) → (k : ℕ) × (find f xs ≡ Some k) × (f k ≡ true)
found-first f [] h = absurd (omega (arith, h))
found-first f (x ∷ xs) h = go (f x) refl h (found-first f xs)
  where
    go : (b : Bool) → f x ≡ b → 0 < length (cond b (x ∷ filter f xs) (filter f xs)) → (0 < length (filter f xs) → (k : ℕ) × (find f xs ≡ Some k) × (f k ≡ true))
        → (k : ℕ) × (find f (x ∷ xs) ≡ Some k) × (f k ≡ true)
    go true e h ih = (x, ap (λ b. cond b (Some x) (find f xs)) e, e)
    go false e h ih = let r = ih h in (r.0, ap (λ b. cond b (Some x) (find f xs)) e ∙ r.1, r.2)

-- a request that is pending has a next act
next-there : (s : Session) (earlier : List Moment) (k : ℕ) (o : Option Act) → is_pending o ≡ true → (act : Act) × (next_acts s earlier k o ≡ act ∷ [])
next-there s earlier k None h = absurd (true_is_not_false (sym h))
next-there s earlier k (Some (Accepted j)) h = ((if is_barred s earlier (instructions_at s k) then NotStarted k else Started k), refl)
next-there s earlier k (Some (Started j)) h = (execution s earlier k 1, refl)
next-there s earlier k (Some (Executed j last flag)) h =
    ((if last == length (instructions_at s k) then Completed k (refused_numbers k earlier) else execution s earlier k (last + 1)), refl)
next-there s earlier k (Some (TurnedAway j)) h = absurd (true_is_not_false (sym h))
next-there s earlier k (Some (NotStarted j)) h = absurd (true_is_not_false (sym h))
next-there s earlier k (Some (Completed j refused)) h = absurd (true_is_not_false (sym h))
next-there s earlier k (Some Emitted) h = absurd (true_is_not_false (sym h))
next-there s earlier k (Some (Filed id x value)) h = absurd (true_is_not_false (sym h))

-- work does something while a request waits
pub works-on : (c : Core) → 0 < waiting c → 0 < length (planned c Work)
works-on c some =
    let k = found-first (λ j. is_pending (last_act j c.moments)) (range_with_len 0 (length c.requests)) some in
    let act = next-there (session c) c.moments k.0 (last_act k.0 c.moments) k.2 in
    let acts : worked_acts c ≡ act.0 ∷ [] = ap (acts_of c) k.1 ∙ act.1 in
    let count : length (map does (worked_acts c)) ≡ 1 = length-map (worked_acts c) does ∙ ap length acts in
    omega (arith, count, length-append (map does (worked_acts c)) (map tells (topics_of (worked_done c))))

-- a sample is of a slot up to this one
abbrev pub IsUpTo : ℕ → Act → Type 0
IsUpTo slot (Filed id x value) = x ≤ slot
IsUpTo slot _ = ⊤

abbrev pub IsPlanUpTo : ℕ → Plan → Type 0
IsPlanUpTo slot (does act) = IsUpTo slot act
IsPlanUpTo slot (tells topic) = ⊤

next-up-to : (s : Session) (clock slot limit : ℕ) (earlier : List Moment) (plan : Plan) (m : Moment) → IsNext s clock slot earlier plan m → IsPlanUpTo limit plan → IsUpTo limit m.act
next-up-to s clock slot limit earlier (does act) m h up = subst (IsUpTo limit) (sym h.follows.0) up
next-up-to s clock slot limit earlier (tells topic) m h up = subst (IsUpTo limit) (sym h.follows.0) tt

all-up-to : (s : Session) (clock slot limit : ℕ) (earlier after : List Moment) (plans : List Plan) → AllByRecursion (IsPlanUpTo limit) plans
    → AllByRecursion (λ m. IsUpTo limit m.act) earlier → AreNext s clock slot earlier plans after → AllByRecursion (λ m. IsUpTo limit m.act) after
all-up-to s clock slot limit earlier after [] up all h = subst (AllByRecursion (λ (m : Moment). IsUpTo limit m.act)) (sym h) all
all-up-to s clock slot limit earlier after (plan ∷ plans) up all h =
    all-up-to s clock slot limit (h.0 ∷ earlier) after plans up.1 (next-up-to s clock slot limit earlier plan h.0 h.1 up.0, all) h.2

filed-up-to : (t : TailoringParts) (slot : ℕ) (act : Act) → IsFiledBy t slot act → IsUpTo slot act
filed-up-to t slot (Filed id x value) h = h.0
filed-up-to t slot (Accepted k) h = tt
filed-up-to t slot (TurnedAway k) h = tt
filed-up-to t slot (Started k) h = tt
filed-up-to t slot (NotStarted k) h = tt
filed-up-to t slot (Executed k number flag) h = tt
filed-up-to t slot (Completed k refused) h = tt
filed-up-to t slot Emitted h = tt

pub are-up-to : (t : TailoringParts) (slot : ℕ) (moments : List Moment) → AreFiledBy t slot moments → AllByRecursion (λ m. IsUpTo slot m.act) moments
are-up-to t slot [] h = tt
are-up-to t slot (m ∷ moments) h = (filed-up-to t slot m.act h.0, are-up-to t slot moments h.1)

samples-up-to : (slot : ℕ) (moments : List Moment) → AllByRecursion (λ m. IsUpTo slot m.act) moments → AllByRecursion (λ x. x.slot ≤ slot) (filings moments)
samples-up-to slot [] h = tt
samples-up-to slot (m ∷ moments) h = go m.act h.0 (samples-up-to slot moments h.1)
  where
    go : (act : Act) → IsUpTo slot act → AllByRecursion (λ x. x.slot ≤ slot) (filings moments) → AllByRecursion (λ x. x.slot ≤ slot) (cons_option (filed_sample act) (filings moments))
    go (Filed id x value) low ih = (low, ih)
    go (Accepted k) low ih = ih
    go (TurnedAway k) low ih = ih
    go (Started k) low ih = ih
    go (NotStarted k) low ih = ih
    go (Executed k number flag) low ih = ih
    go (Completed k refused) low ih = ih
    go Emitted low ih = ih

-- no sample is of a slot after the one that runs
pub stands-up-to : (c : Core) → Stands c → AllByRecursion (λ (x : Sample). x.slot ≤ c.slot_now) (filings c.moments)
stands-up-to c k = samples-up-to c.slot_now c.moments (are-up-to c.tailoring c.slot_now c.moments k.good.filed)

topics-up-to : (limit : ℕ) (topics : List Topic) → AllByRecursion (IsPlanUpTo limit) (map tells topics)
topics-up-to limit [] = tt
topics-up-to limit (topic ∷ topics) = (tt, topics-up-to limit topics)

closing-up-to : (c : Core) (ps : List Param) (topics : List Topic) → AllByRecursion (IsPlanUpTo c.slot_now) (map (λ p. does (own_filing c p)) ps ++ map tells topics)
closing-up-to c [] topics = topics-up-to c.slot_now topics
closing-up-to c (p ∷ ps) topics = (omega arith, closing-up-to c ps topics)

none-filed : (id slot : ℕ) (moments : List Moment) → AllByRecursion (λ m. IsUpTo slot m.act) moments → list_any (λ m. is_filing id (slot + 1) m.act) moments ≡ false
none-filed id slot [] h = refl
none-filed id slot (m ∷ moments) h = ap₂ (λ a b. a || b) (one m.act h.0) (none-filed id slot moments h.1)
  where
    one : (act : Act) → IsUpTo slot act → is_filing id (slot + 1) act ≡ false
    one (Filed p x value) low = ap (λ b. p == id && b) (ne_eqb x (slot + 1) (omega (arith, low))) ∙ and-false (p == id)
      where
        and-false : (b : Bool) → (b && false) ≡ false
        and-false true = refl
        and-false false = refl
    one (Accepted k) low = refl
    one (TurnedAway k) low = refl
    one (Started k) low = refl
    one (NotStarted k) low = refl
    one (Executed k number flag) low = refl
    one (Completed k refused) low = refl
    one Emitted low = refl

-- a slot begins without samples
pub begins-unfiled : (before after : Core) → Stands before → IsStep before CloseSlot after → (id : ℕ) → is_filed after id ≡ false
begins-unfiled before after k step id =
    let p : Core = prepared before CloseSlot in
    let up = all-up-to (session before) p.clock before.slot_now before.slot_now before.moments after.moments (planned before CloseSlot)
    (closing-up-to p (settables before.tailoring) (take (tags_left p) (due_topics p))) (are-up-to before.tailoring before.slot_now before.moments k.good.filed) step.moments in
    ap (λ n. list_any (λ m. is_filing id n m.act) after.moments) step.slot_now ∙ none-filed id before.slot_now after.moments up

-- what a step adds, with the requests and the clock that its event leaves
pub step-parted : (before : Core) (event : Event) (after : Core) → IsStep before event after
    → AreParted (session (prepared before event)) (prepared before event).clock before.slot_now before.moments after.moments (planned before event)
step-parted before event after step =
    parted (session (prepared before event)) (prepared before event).clock before.slot_now before.moments after.moments (planned before event) step.moments

pub step-adds : (before : Core) (event : Event) (after : Core) → IsStep before event after → (new : List Moment) × Adds before event new after
step-adds before event after step =
    let p = step-parted before event after step in (
      p.new,
      record {
        moments = p.moments;
        count = p.count;
        tailoring = step.tailoring;
        slot_now = step.slot_now;
        samples = added-samples (session (prepared before event)) (prepared before event).clock before.slot_now before.moments (planned before event) p.new p.added
            ∙ planned-samples before event;
      },
    )

own-settable : (c : Core) (ps : List Param) → AllByRecursion (λ p. (parameter c.tailoring p.id ≡ Some p) × (is_settable p ≡ true)) ps
    → AllByRecursion (λ (x : Sample). is_set c.tailoring x.param ≡ true) (map (own_sample c) ps)
own-settable c [] h = tt
own-settable c (p ∷ ps) h = (ap (λ o. option_map_or is_settable o false) h.0.0 ∙ h.0.1, own-settable c ps h.1)

-- the samples at the end of a slot are of settable parameters
pub closing-settable : (c : Core) → IsFit c.tailoring → AllByRecursion (λ (x : Sample). is_set c.tailoring x.param ≡ true) (filed_by c CloseSlot)
closing-settable c fit = own-settable c (settables c.tailoring) (settables-own c.tailoring fit)
