-- What the moments of a board name are requests that were sent, each with the packet that it was sent with.
use Rattle.std.proofs.Common.{arith, ◌≡◌, ℕ, zero, suc, ◌+◌, ◌-◌, ◌<◌, ◌≤◌, refl, sym, ap, subst, ◌∙◌, List, [], ◌∷◌, ◌++◌, length, length-append, map, replicate, Bool, true, false, Option, Some, None, ◌⊎◌, inl, inr, append_assoc}
use Rattle.std.specs.Prelude.{⊤, IfSome, slice_get, take, is_some, ◌==◌, option_and_then, if◌then◌else◌}
use Rattle.std.specs.List.{AllByRecursion}
use Rattle.std.specs.Option.{option_map_or, option_or}
use Rattle.std.proofs.lemmas.List.{length-replicate}
use Rattle.std.proofs.lemmas.Bool.{eqb-true}
use Rattle.std.proofs.lemmas.Option.{same_Some, none-some}
use Rattle.hk_base.specs.Fit.{IsFit}
use Rattle.hk_base.specs.TailoringParts.{TailoringParts}
use Rattle.hk_base.specs.declared.types.Param.{Param}
use Rattle.hk_base.proofs.Membership.{AllByRecursion-append}
use Rattle.pus_packet.specs.declared.header.TcHeader.{TcHeader}
use Rattle.pus_messages.specs.Messages.{protocol}
use Rattle.hk_world.specs.Timelines.{Session, request_at, instructions_at, request_number, is_act_of, last_act}
use Rattle.hk_world.specs.Legal.{handled_number, refused_numbers}
use Rattle.hk_world.specs.declared.moment.Moment.{Moment}
use Rattle.hk_world.specs.declared.moment.Act.{Act}
use Rattle.hk_world.specs.declared.moment.Act.TheVariants.{Accepted, TurnedAway, Started, NotStarted, Executed, Completed, Emitted, Filed}
use Rattle.hk_world.proofs.OrderLemmas.{true_is_not_false}
use Rattle.board_steps.specs.Cores.{Core, session}
use Rattle.board_steps.specs.Plans.{Plan, Topic, does, tells, is_handled, handled_as, with_request, prepared, handling, is_barred, execution, next_acts, worked_request, worked_acts, worked_done, topics_of, settables, own_filing, tags_left, due_topics, planned}
use Rattle.board_steps.specs.Steps.{AreNext}
use Rattle.board_steps.specs.Runs.{IsMade}
use Rattle.board_steps.specs.SlotRuns.{Ahead, at_work, Comes, Leads}
use Rattle.board_steps.specs.Timeline.{Stands, Agrees, AreBelow, IsBelow}
use Rattle.board_steps.specs.declared.event.Event.{Event}
use Rattle.board_steps.specs.declared.event.Event.TheVariants.{Uplink, Clock, Work, Filing, CloseSlot}
use Rattle.board_steps.proofs.GrammarLemmas.{RequestsOnly}
use Rattle.board_steps.proofs.RunLemmas.{with_packet, packet_plans, number-new, step-stands}
use Rattle.board_runs.specs.Requests.{number_in}
use Rattle.board_runs.proofs.ListLemmas.{slice_get-front, slice_get-last}

-- an act names a request that is listed with the packet that the board has, and one that it handles has a number below this one
abbrev pub IsNamed : List (List ℕ) → List (List ℕ) → ℕ → Act → Type 0
IsNamed own requests n act = Agrees own requests act × IfSome (handled_number act) (λ k. k < n)

-- so does each moment
abbrev pub AreNamed : List (List ℕ) → List (List ℕ) → ℕ → List Moment → Type 0
AreNamed own requests n moments = AllByRecursion (λ m. IsNamed own requests n m.act) moments

-- a packet is that of a request that was sent
abbrev pub IsRequestOf : TailoringParts → List (List ℕ) → ℕ → List ℕ → Type 0
IsRequestOf t requests n packet = (number_in t packet < n) × (slice_get requests (number_in t packet) ≡ Some packet)

-- a plan is of such acts
abbrev pub IsPlanOf : (Act → Type 0) → Plan → Type 0
IsPlanOf Q (does act) = Q act
IsPlanOf Q (tells topic) = ⊤

-- what is planned comes: each moment is as the plans
next-all : (Q : Act → Type 0) → Q Emitted → (s : Session) (clock slot : ℕ) (earlier after : List Moment) (plans : List Plan) → AllByRecursion (IsPlanOf Q) plans
    → AllByRecursion (λ m. Q m.act) earlier → AreNext s clock slot earlier plans after → AllByRecursion (λ m. Q m.act) after
next-all Q e s clock slot earlier after [] all was h = subst (AllByRecursion (λ (m : Moment). Q m.act)) (sym h) was
next-all Q e s clock slot earlier after (does act ∷ plans) all was h =
    next-all Q e s clock slot (h.0 ∷ earlier) after plans all.1 (subst Q (sym h.1.follows.0) all.0, was) h.2
next-all Q e s clock slot earlier after (tells topic ∷ plans) all was h =
    next-all Q e s clock slot (h.0 ∷ earlier) after plans all.1 (subst Q (sym h.1.follows.0) e, was) h.2

plans-tell : (Q : Act → Type 0) (topics : List Topic) → AllByRecursion (IsPlanOf Q) (map tells topics)
plans-tell Q [] = tt
plans-tell Q (topic ∷ topics) = (tt, plans-tell Q topics)

plans-do : (Q : Act → Type 0) (acts : List Act) → AllByRecursion Q acts → AllByRecursion (IsPlanOf Q) (map does acts)
plans-do Q [] h = tt
plans-do Q (act ∷ acts) h = (h.0, plans-do Q acts h.1)

-- a packet under its number
slice_get-request : (own : List (List ℕ)) (k : ℕ) (packet : List ℕ) → length own ≤ k → slice_get (with_request own k packet) k ≡ Some packet
slice_get-request own k packet le =
    let none : List (List ℕ) = replicate (k - length own) [] in
    let size = length-append own none in
    let many : length none ≡ k - length own = length-replicate (k - length own) [] in
    let k_is : length (own ++ none) ≡ k = omega (arith, size, many, le) in
    ap (λ xs. slice_get xs k) (sym (append_assoc own none (packet ∷ []))) ∙ (ap (slice_get ((own ++ none) ++ packet ∷ [])) (sym k_is) ∙ slice_get-last (own ++ none) packet)

slice_get-old : (xs ys : List (List ℕ)) (k : ℕ) → k < length xs → slice_get (xs ++ ys) k ≡ slice_get xs k
slice_get-old [] ys k h = absurd (omega (arith, h))
slice_get-old (x ∷ xs) ys zero h = refl
slice_get-old (x ∷ xs) ys (suc k) h = slice_get-old xs ys k (omega (arith, h))

-- what was named is so too once there is one more packet
named-grown : (own more requests : List (List ℕ)) (n : ℕ) (moments : List Moment) → AreBelow (length own) moments → AreNamed own requests n moments → AreNamed (own ++ more) requests n moments
named-grown own more requests n [] below h = tt
named-grown own more requests n (m ∷ moments) below h =
    ((one (request_number m.act) below.0 h.0.0, h.0.1), named-grown own more requests n moments below.1 h.1)
  where
    one : (o : Option ℕ) → IfSome o (λ k. k < length own) → IfSome o (λ k. slice_get own k ≡ slice_get requests k) → IfSome o (λ k. slice_get (own ++ more) k ≡ slice_get requests k)
    one None b a = tt
    one (Some k) b a = slice_get-old own more k b ∙ a

-- a packet is handled under the count in it
pub handled-number : (c : Core) (packet : List ℕ) (k : ℕ) → handled_as c packet ≡ Some k → number_in c.tailoring packet ≡ k
handled-number c packet k e = by_header ((protocol c.tailoring).command packet) refl
  where
    by_test : (h : TcHeader) (b : Bool) → (protocol c.tailoring).command packet ≡ Some h → (if b then Some h.count else None) ≡ Some k → number_in c.tailoring packet ≡ k
    by_test h true f g = ap (λ o. option_map_or (λ (x : TcHeader). x.count) o 0) f ∙ same_Some h.count k g
    by_test h false f g = absurd (none-some k g)

    by_header : (o : Option TcHeader) → (protocol c.tailoring).command packet ≡ o → number_in c.tailoring packet ≡ k
    by_header None f = absurd (none-some k (sym (ap (λ o. option_and_then (λ h. if is_handled c h then Some h.count else None) o) f) ∙ e))
    by_header (Some h) f = by_test h (is_handled c h) f (sym (ap (λ o. option_and_then (λ x. if is_handled c x then Some x.count else None) o) f) ∙ e)

-- the handling of a packet names it
handling-named : (s : Session) (own requests : List (List ℕ)) (n k : ℕ) → slice_get own k ≡ slice_get requests k → k < n → IsNamed own requests n (handling s k)
handling-named s own requests n k e lt = by (is_some (request_at s k))
  where
    by : (b : Bool) → IsNamed own requests n (if b then Accepted k else TurnedAway k)
    by true = (e, lt)
    by false = (e, lt)

uplink-named : (c : Core) (requests : List (List ℕ)) (n : ℕ) (packet : List ℕ) (o : Option ℕ) → handled_as c packet ≡ o → AreBelow (length c.requests) c.moments
    → IsRequestOf c.tailoring requests n packet → AreNamed c.requests requests n c.moments → (after : List Moment)
    → AreNext (session (with_packet c packet o)) (with_packet c packet o).clock c.slot_now c.moments (packet_plans c packet o) after
    → AreNamed (with_packet c packet o).requests requests n after
uplink-named c requests n packet None e below sent was after h = subst (AreNamed c.requests requests n) (sym h) was
uplink-named c requests n packet (Some k) e below sent was after h =
    let number = handled-number c packet k e in
    let le = number-new c packet k e in
    let own : List (List ℕ) = with_request c.requests k packet in
    let same : slice_get own k ≡ slice_get requests k = slice_get-request c.requests k packet le ∙ (sym sent.1 ∙ ap (slice_get requests) number) in
    let low : k < n = subst (λ x. x < n) number sent.0 in
    let s : Session = session (with_packet c packet (Some k)) in
    next-all (IsNamed own requests n) (tt, tt) s (with_packet c packet (Some k)).clock c.slot_now c.moments after (packet_plans c packet (Some k))
    (handling-named s own requests n k same low, tt) (named-grown c.requests (replicate (k - length c.requests) [] ++ packet ∷ []) requests n c.moments below was) h

-- a request that has an act is named
pub last-named : (own requests : List (List ℕ)) (n k : ℕ) (moments : List Moment) (act : Act) → last_act k moments ≡ Some act → AreNamed own requests n moments
    → slice_get own k ≡ slice_get requests k
last-named own requests n k [] act e h = cc
last-named own requests n k (m ∷ moments) act e h = by (is_act_of k m.act) refl e (λ f. last-named own requests n k moments act f h.1)
  where
    named : (o : Option ℕ) → option_map_or (λ j. j == k) o false ≡ true → IfSome o (λ j. slice_get own j ≡ slice_get requests j) → slice_get own k ≡ slice_get requests k
    named None f a = absurd (true_is_not_false (sym f))
    named (Some j) f a = subst (λ i. slice_get own i ≡ slice_get requests i) (eqb-true j k f) a

    by : (b : Bool) → is_act_of k m.act ≡ b → option_or (if b then Some m.act else None) (last_act k moments) ≡ Some act
        → (last_act k moments ≡ Some act → slice_get own k ≡ slice_get requests k) → slice_get own k ≡ slice_get requests k
    by true f g later = named (request_number m.act) f h.0.0
    by false f g later = later g

-- so is what comes next of it
acts-named : (s : Session) (own requests : List (List ℕ)) (n k : ℕ) (moments : List Moment) (o : Option Act) → last_act k moments ≡ o → AreNamed own requests n moments
    → AllByRecursion (IsNamed own requests n) (next_acts s moments k o)
acts-named s own requests n k moments None e h = tt
acts-named s own requests n k moments (Some (Accepted j)) e h = (by (is_barred s moments (instructions_at s k)), tt)
  where
    by : (b : Bool) → IsNamed own requests n (if b then NotStarted k else Started k)
    by true = (last-named own requests n k moments (Accepted j) e h, tt)
    by false = (last-named own requests n k moments (Accepted j) e h, tt)
acts-named s own requests n k moments (Some (Started j)) e h = ((last-named own requests n k moments (Started j) e h, tt), tt)
acts-named s own requests n k moments (Some (Executed j last flag)) e h = (by (last == length (instructions_at s k)), tt)
  where
    by : (b : Bool) → IsNamed own requests n (if b then Completed k (refused_numbers k moments) else execution s moments k (last + 1))
    by true = (last-named own requests n k moments (Executed j last flag) e h, tt)
    by false = (last-named own requests n k moments (Executed j last flag) e h, tt)
acts-named s own requests n k moments (Some (TurnedAway j)) e h = tt
acts-named s own requests n k moments (Some (NotStarted j)) e h = tt
acts-named s own requests n k moments (Some (Completed j refused)) e h = tt
acts-named s own requests n k moments (Some Emitted) e h = tt
acts-named s own requests n k moments (Some (Filed param slot value)) e h = tt

work-named : (c : Core) (requests : List (List ℕ)) (n : ℕ) → AreNamed c.requests requests n c.moments → AllByRecursion (IsNamed c.requests requests n) (worked_acts c)
work-named c requests n h = by (worked_request c)
  where
    by : (o : Option ℕ) → AllByRecursion (IsNamed c.requests requests n) (option_map_or (λ k. next_acts (session c) c.moments k (last_act k c.moments)) o [])
    by None = tt
    by (Some k) = acts-named (session c) c.requests requests n k c.moments (last_act k c.moments) refl h

filings-named : (c : Core) (own requests : List (List ℕ)) (n : ℕ) (params : List Param) → AllByRecursion (IsPlanOf (IsNamed own requests n)) (map (λ p. does (own_filing c p)) params)
filings-named c own requests n [] = tt
filings-named c own requests n (p ∷ params) = ((tt, tt), filings-named c own requests n params)

-- an event brings a request that was sent, if it is an uplink
abbrev pub IsSentEvent : TailoringParts → List (List ℕ) → ℕ → Event → Type 0
IsSentEvent t requests n (Uplink packet) = IsRequestOf t requests n packet
IsSentEvent t requests n _ = ⊤

-- what a step adds names requests that were sent
pub step-named : (before : Core) (event : Event) (after : Core) (requests : List (List ℕ)) (n : ℕ) → Stands before → IsSentEvent before.tailoring requests n event
    → AreNamed before.requests requests n before.moments → IsMade before event after → AreNamed after.requests requests n after.moments
step-named before (Uplink packet) after requests n k sent was made =
    subst (λ own. AreNamed own requests n after.moments) (sym made.step.requests)
    (uplink-named before requests n packet (handled_as before packet) refl k.good.below sent was after.moments made.step.moments)
step-named before (Clock tag) after requests n k sent was made =
    let same = subst (AreNamed before.requests requests n) (sym made.step.moments) was in
    subst (λ own. AreNamed own requests n after.moments) (sym made.step.requests) same
step-named before Work after requests n k sent was made =
    let plans = AllByRecursion-append (IsPlanOf (IsNamed before.requests requests n)) (map does (worked_acts before)) (map tells (topics_of (worked_done before)))
    (plans-do (IsNamed before.requests requests n) (worked_acts before) (work-named before requests n was))
    (plans-tell (IsNamed before.requests requests n) (topics_of (worked_done before))) in
    subst (λ own. AreNamed own requests n after.moments) (sym made.step.requests)
    (next-all (IsNamed before.requests requests n) (tt, tt) (session before) before.clock before.slot_now before.moments after.moments (planned before Work) plans was made.step.moments)
step-named before (Filing x) after requests n k sent was made =
    subst (λ own. AreNamed own requests n after.moments) (sym made.step.requests)
    (next-all (IsNamed before.requests requests n) (tt, tt) (session before) before.clock before.slot_now before.moments after.moments (planned before (Filing x)) ((tt, tt), tt) was made.step.moments)
step-named before CloseSlot after requests n k sent was made =
    let p = prepared before CloseSlot in
    let plans = AllByRecursion-append (IsPlanOf (IsNamed before.requests requests n)) (map (λ q. does (own_filing p q)) (settables p.tailoring))
    (map tells (take (tags_left p) (due_topics p)))
    (filings-named p before.requests requests n (settables p.tailoring)) (plans-tell (IsNamed before.requests requests n) (take (tags_left p) (due_topics p))) in
    subst (λ own. AreNamed own requests n after.moments) (sym made.step.requests)
    (next-all (IsNamed before.requests requests n) (tt, tt) (session p) p.clock before.slot_now before.moments after.moments (planned before CloseSlot) plans was made.step.moments)

-- A core has done what a board can have done under a tailoring, and what it has done names requests that were sent.
pub record IsSound (t : TailoringParts) (requests : List (List ℕ)) (n : ℕ) (c : Core) : Type 0 where
  pub tailoring : c.tailoring ≡ t
  pub stands : Stands c
  pub named : AreNamed c.requests requests n c.moments

pub event-sent : (t : TailoringParts) (requests : List (List ℕ)) (n : ℕ) (ahead : Ahead) (core : Core) (event : Event) (next : Ahead)
    → AllByRecursion (IsRequestOf t requests n) ahead.packets → Comes ahead core event next → IsSentEvent t requests n event × AllByRecursion (IsRequestOf t requests n) next.packets
event-sent t requests n ahead core (Uplink packet) next all h =
    let parts = subst (AllByRecursion (IsRequestOf t requests n)) h.1.1.1 all in
    (parts.0, subst (λ (a : Ahead). AllByRecursion (IsRequestOf t requests n) a.packets) (sym h.1.1.2) parts.1)
event-sent t requests n ahead core Work next all h = (tt, subst (λ (a : Ahead). AllByRecursion (IsRequestOf t requests n) a.packets) (sym h.1.2) all)
event-sent t requests n ahead core (Filing x) next all h = (tt, subst (λ (a : Ahead). AllByRecursion (IsRequestOf t requests n) a.packets) (sym h.2) all)
event-sent t requests n ahead core CloseSlot next all h = (tt, subst (λ (a : Ahead). AllByRecursion (IsRequestOf t requests n) a.packets) (sym h.1.2) tt)
event-sent t requests n ahead core (Clock tag) next all h = absurd h

-- so it is after each event of a slot whose uplinks were sent
pub leads-sound : (t : TailoringParts) (requests : List (List ℕ)) (n : ℕ) → IsFit t → RequestsOnly t → (events : List Event) (ahead : Ahead) (before : Core) (next : Ahead) (after : Core)
    → AllByRecursion (IsRequestOf t requests n) ahead.packets → IsSound t requests n before → Leads ahead before events next after → IsSound t requests n after
leads-sound t requests n fit only [] ahead before next after all k h = subst (IsSound t requests n) (sym h.1) k
leads-sound t requests n fit only (event ∷ events) ahead before next after all k h =
    let sent = event-sent t requests n ahead before event h.0 all h.2 in
    let mid = h.1 in
    let same = sym k.tailoring in
    leads-sound t requests n fit only events h.0 mid next after sent.1
    (record {
      tailoring = h.3.step.tailoring ∙ k.tailoring;
      stands = step-stands before event mid (subst IsFit same fit) (subst RequestsOnly same only) k.stands h.3;
      named = step-named before event mid requests n k.stands (subst (λ x. IsSentEvent x requests n event) same sent.0) k.named h.3;
    }) h.4
