-- What is left to do of the requests of a script: how many moments each can still make.
use Rattle.std.proofs.Common.{arith, ◌≡◌, ℕ, zero, suc, ◌+◌, ◌-◌, ◌*◌, ◌<◌, ◌≤◌, refl, sym, ap, ap₂, subst, ◌∙◌, List, [], ◌∷◌, ◌++◌, length, length-append, map, filter, take, Bool, true, false, Option, Some, None, ◌⊎◌, inl, inr, append_assoc}
use Rattle.std.specs.Prelude.{⊤, IfSome, slice_get, is_some, not, ◌==◌, ◌&&◌, reverse, if◌then◌else◌}
use Rattle.std.specs.List.{AllByRecursion, list_any}
use Rattle.std.specs.Option.{option_map_or, option_or, option_and_then}
use Rattle.std.specs.Result.{result_ok}
use Rattle.std.proofs.lemmas.List.{length-map}
use Rattle.std.proofs.lemmas.Bool.{eqb-true, eq-eqb}
use Rattle.std.proofs.lemmas.Bool.Decides.{nat_tests}
use Rattle.hk_base.specs.TailoringParts.{TailoringParts}
use Rattle.pus_messages.specs.Messages.{protocol}
use Rattle.pus_messages.specs.Instructions.{Instruction, on_structure, on_statistics, report_values, set_values, instructions}
use Rattle.st03_grammar.specs.Instructions.{StructureChange, create, append, set_interval, plain}
use Rattle.st03_grammar.specs.declared.bodies.Each.TheVariants.{Delete, Enable, Disable, Show, OneShot, ShowPeriodic}
use Rattle.st04_grammar.specs.Instructions.{StatisticsChange, report, reset, enable, disable, add, delete, delete_all, show_definitions}
use Rattle.hk_world.specs.States.{boot_state}
use Rattle.hk_world.specs.Timelines.{Session, Done, done_by, request_at, instructions_at, request_number, is_act_of, last_act}
use Rattle.hk_world.specs.Legal.{MayFollow, IsInOrder, is_pending, refused_numbers}
use Rattle.hk_world.specs.declared.moment.Moment.{Moment}
use Rattle.hk_world.specs.declared.moment.Act.{Act}
use Rattle.hk_world.specs.declared.moment.Act.TheVariants.{Accepted, TurnedAway, Started, NotStarted, Executed, Completed, Emitted, Filed}
use Rattle.hk_world.proofs.OrderLemmas.{true_is_not_false, last_act-other, is_act_of-number}
use Rattle.board_steps.specs.Cores.{Core, session, next_tag}
use Rattle.board_steps.specs.Plans.{Plan, Topic, does, tells, is_barred, execution, ordered_topics, structure_topics, statistics_topics, handled_as, handling, next_acts, worked_request, worked_acts, worked_done, done_of, topics_of, planned}
use Rattle.board_steps.specs.Steps.{AreNext}
use Rattle.board_steps.specs.Timeline.{Stands, AreBelow, IsBelow}
use Rattle.board_steps.specs.declared.event.Event.{Event}
use Rattle.board_steps.specs.declared.event.Event.TheVariants.{Uplink, Clock, Work, Filing, CloseSlot}
use Rattle.board_steps.proofs.GrammarLemmas.{RequestsOnly}
use Rattle.board_steps.proofs.ValueLemmas.{request-grammatical}
use Rattle.board_steps.proofs.WorkLemmas.{find-range, IsOneAct, one-act}
use Rattle.board_steps.proofs.RunLemmas.{with_packet, packet_plans, number-new}
use Rattle.board_runs.specs.Requests.{number_in, session_with}
use Rattle.board_runs.proofs.NameLemmas.{IsNamed, AreNamed, IsRequestOf, handled-number, last-named}
use Rattle.board_runs.proofs.ListLemmas.{slice_get-within}
use Rattle.board_runs.proofs.SumLemmas.{sum_below, sum-less, sum-spent, term-within}

-- the most moments that a request with so many instructions can still make, by its last act
abbrev pub left_by : ℕ → Option Act → ℕ
left_by i None = 3 + 2 * i
left_by i (Some (Accepted k)) = 2 + 2 * i
left_by i (Some (Started k)) = 1 + 2 * i
left_by i (Some (Executed k number flag)) = 1 + 2 * (i - number)
left_by i (Some _) = 0

-- the most moments that come with an act: it, and the report that its instruction orders
abbrev pub cost_by : Act → ℕ
cost_by (Executed k number flag) = 2
cost_by _ = 1

-- an act in its order takes what it costs from what is left
pub follow-cost : (i : ℕ) (o : Option Act) (act : Act) → MayFollow i o act → left_by i (Some act) + cost_by act ≤ left_by i o
follow-cost i None (Accepted k) h = omega arith
follow-cost i None (TurnedAway k) h = omega arith
follow-cost i (Some (Accepted k)) (NotStarted j) h = omega arith
follow-cost i (Some (Accepted k)) (Started j) h = omega arith
follow-cost i (Some (Started k)) (Executed j number flag) h = let a = h.0 in let b = h.1 in omega (arith, a, b)
follow-cost i (Some (Executed k last flag)) (Executed j number also) h = let a = h.0 in let b = h.1 in omega (arith, a, b)
follow-cost i (Some (Executed k last flag)) (Completed j refused) h = omega (arith, h)
follow-cost i o act h = absurd h

-- an instruction orders one report at most
one-topic : (x : Instruction) → length (ordered_topics x) ≤ 1
one-topic (on_structure key change) = by change
  where
    by : (y : StructureChange) → length (structure_topics key y) ≤ 1
    by (create d) = omega arith
    by (append a) = omega arith
    by (set_interval n) = omega arith
    by (plain Delete) = omega arith
    by (plain Enable) = omega arith
    by (plain Disable) = omega arith
    by (plain Show) = omega arith
    by (plain OneShot) = omega arith
    by (plain ShowPeriodic) = omega arith
one-topic (on_statistics change) = by change
  where
    by : (y : StatisticsChange) → length (statistics_topics y) ≤ 1
    by (report resets) = omega arith
    by show_definitions = omega arith
    by reset = omega arith
    by (enable n) = omega arith
    by disable = omega arith
    by (add id) = omega arith
    by (delete id) = omega arith
    by delete_all = omega arith
one-topic (report_values ids) = omega arith
one-topic (set_values settings) = omega arith

-- what is left of a request of a session
abbrev pub left_of : Session → List Moment → ℕ → ℕ
left_of s moments k = left_by (length (instructions_at s k)) (last_act k moments)

-- what is left of so many requests
abbrev pub left : Session → ℕ → List Moment → ℕ
left s count moments = sum_below (left_of s moments) count

-- the instructions of a request that is listed alike
pub instructions-same : (t : TailoringParts) (known : Bool) (requests : List (List ℕ)) (c : Core) (k : ℕ) → c.tailoring ≡ t → slice_get c.requests k ≡ slice_get requests k
    → instructions_at (session c) k ≡ instructions_at (session_with t known requests) k
instructions-same t known requests c k same listed =
    ap (λ (o : Option (List ℕ)). option_map_or instructions (option_and_then (λ packet. result_ok ((protocol c.tailoring).request packet)) o) []) listed
    ∙ ap (λ x. option_map_or instructions (option_and_then (λ packet. result_ok ((protocol x).request packet)) (slice_get requests k)) []) same

-- reports leave the last act of each request
tells-last : (s : Session) (clock slot : ℕ) (earlier after : List Moment) (topics : List Topic) → AreNext s clock slot earlier (map tells topics) after → (k : ℕ) → last_act k after ≡ last_act k earlier
tells-last s clock slot earlier after [] h k = ap (last_act k) h
tells-last s clock slot earlier after (topic ∷ topics) h k =
    tells-last s clock slot (h.0 ∷ earlier) after topics h.2 k ∙ last_act-other k h.0 earlier (ap (is_act_of k) h.1.follows.0)

-- an act becomes the last one of its request
act-last : (s : Session) (clock slot : ℕ) (earlier after : List Moment) (act : Act) (topics : List Topic) → AreNext s clock slot earlier (does act ∷ map tells topics) after → (k : ℕ)
    → last_act k after ≡ (if is_act_of k act then Some act else last_act k earlier)
act-last s clock slot earlier after act topics h k =
    tells-last s clock slot (h.0 ∷ earlier) after topics h.2 k ∙ by (is_act_of k act) refl
  where
    same : is_act_of k h.0.act ≡ is_act_of k act
    same = ap (is_act_of k) h.1.follows.0

    by : (b : Bool) → is_act_of k act ≡ b → last_act k (h.0 ∷ earlier) ≡ (if b then Some act else last_act k earlier)
    by false e = last_act-other k h.0 earlier (same ∙ e)
    by true e = ap (λ b. option_or (if b then Some h.0.act else None) (last_act k earlier)) (same ∙ e) ∙ ap Some h.1.follows.0

-- an act of a request takes its cost from what is left
spent : (s : Session) (count : ℕ) (earlier after : List Moment) (act : Act) (k : ℕ) → k < count → request_number act ≡ Some k
    → MayFollow (length (instructions_at s k)) (last_act k earlier) act
    → ((j : ℕ) → last_act j after ≡ (if is_act_of j act then Some act else last_act j earlier))
    → left s count after + cost_by act ≤ left s count earlier
spent s count earlier after act k lt number follows last =
    sum-spent (left_of s earlier) (left_of s after) count k (cost_by act) each lt one
  where
    follow-at : (j : ℕ) → is_act_of j act ≡ true → j ≡ k
    follow-at j e = some-same (sym (is_act_of-number j act e) ∙ number)
      where
        some-same : Some j ≡ Some k → j ≡ k
        some-same f = ap (λ (o : Option ℕ). option_map_or (λ x. x) o 0) f

    own : is_act_of k act ≡ true
    own = ap (λ o. option_map_or (λ n. n == k) o false) number ∙ eq-eqb k k refl

    one : left_of s after k + cost_by act ≤ left_of s earlier k
    one =
        subst (λ o. left_by (length (instructions_at s k)) o + cost_by act ≤ left_of s earlier k) (sym (last k ∙ ap (λ b. if b then Some act else last_act k earlier) own))
        (follow-cost (length (instructions_at s k)) (last_act k earlier) act follows)

    each : (j : ℕ) → j < count → left_of s after j ≤ left_of s earlier j
    each j l = by (is_act_of j act) refl
      where
        by : (b : Bool) → is_act_of j act ≡ b → left_of s after j ≤ left_of s earlier j
        by true e = let o = one in subst (λ x. left_of s after x ≤ left_of s earlier x) (sym (follow-at j e)) (omega (arith, o))
        by false e =
            let same : last_act j after ≡ last_act j earlier = last j ∙ ap (λ b. if b then Some act else last_act j earlier) e in
            subst (λ o. left_by (length (instructions_at s j)) o ≤ left_of s earlier j) (sym same) (omega arith)

-- what may still come is enough for an act
enough : (s : Session) (count : ℕ) (earlier : List Moment) (act : Act) (k : ℕ) → k < count → MayFollow (length (instructions_at s k)) (last_act k earlier) act
    → cost_by act ≤ left s count earlier
enough s count earlier act k lt follows =
    let cost = follow-cost (length (instructions_at s k)) (last_act k earlier) act follows in
    let within = term-within (left_of s earlier) count k lt in
    omega (arith, cost, within)

-- no act has a number that none was given
none-yet : (n k : ℕ) (moments : List Moment) → n ≤ k → AreBelow n moments → last_act k moments ≡ None
none-yet n k [] le h = refl
none-yet n k (m ∷ earlier) le h = last_act-other k m earlier (other (request_number m.act) h.0) ∙ none-yet n k earlier le h.1
  where
    other : (o : Option ℕ) → IfSome o (λ j. j < n) → option_map_or (λ j. j == k) o false ≡ false
    other None f = refl
    other (Some j) f = grind (arith, nat_tests)

-- what some plans take of what is left, and that it is enough for them
pub record IsPaid (s : Session) (count clock slot : ℕ) (found : Session) (earlier : List Moment) (plans : List Plan) : Type 0 where
  pub enough : length plans ≤ left s count earlier
  pub after : (after : List Moment) → AreNext found clock slot earlier plans after → left s count after + length plans ≤ left s count earlier

nothing-paid : (s : Session) (count clock slot : ℕ) (found : Session) (earlier : List Moment) → IsPaid s count clock slot found earlier []
nothing-paid s count clock slot found earlier =
    record { enough = omega arith; after = λ after h. subst (λ ms. left s count ms + 0 ≤ left s count earlier) (sym h) (omega arith) }

-- an act with the reports that it orders is paid
act-paid : (s : Session) (count clock slot : ℕ) (found : Session) (earlier : List Moment) (act : Act) (topics : List Topic) (k : ℕ) → k < count → request_number act ≡ Some k
    → MayFollow (length (instructions_at s k)) (last_act k earlier) act → 1 + length topics ≤ cost_by act
    → IsPaid s count clock slot found earlier (does act ∷ map tells topics)
act-paid s count clock slot found earlier act topics k lt number follows cost =
    let size : length (map (λ x. tells x) topics) ≡ length topics = length-map topics (λ x. tells x) in
    let most = enough s count earlier act k lt follows in
    record {
      enough = omega (arith, size, most, cost);
      after = λ after h. let l = spent s count earlier after act k lt number follows (act-last found clock slot earlier after act topics h) in omega (arith, size, l, cost);
    }

handling-number : (s : Session) (k : ℕ) → (request_number (handling s k) ≡ Some k) × (1 ≤ cost_by (handling s k)) × ((i : ℕ) → MayFollow i None (handling s k))
handling-number s k = by (is_some (request_at s k))
  where
    by : (b : Bool) → (request_number (if b then Accepted k else TurnedAway k) ≡ Some k) × (1 ≤ cost_by (if b then Accepted k else TurnedAway k)) × ((i : ℕ) → MayFollow i None (if b then Accepted k else TurnedAway k))
    by true = (refl, omega arith, λ i. tt)
    by false = (refl, omega arith, λ i. tt)

-- the handling of a packet that was sent is paid
pub uplink-paid : (s : Session) (count : ℕ) (c : Core) (packet : List ℕ) (o : Option ℕ) → handled_as c packet ≡ o → AreBelow (length c.requests) c.moments
    → number_in c.tailoring packet < count → IsPaid s count (with_packet c packet o).clock c.slot_now (session (with_packet c packet o)) c.moments (packet_plans c packet o)
uplink-paid s count c packet None e below lt = nothing-paid s count c.clock c.slot_now (session c) c.moments
uplink-paid s count c packet (Some k) e below lt =
    let found : Session = session (with_packet c packet (Some k)) in
    let low : k < count = subst (λ x. x < count) (handled-number c packet k e) lt in
    let h = handling-number found k in
    let none = none-yet (length c.requests) k c.moments (number-new c packet k e) below in
    act-paid s count (with_packet c packet (Some k)).clock c.slot_now found c.moments (handling found k) [] k low h.0
    (subst (λ o. MayFollow (length (instructions_at s k)) o (handling found k)) (sym none) (h.2 (length (instructions_at s k)))) (let one = h.1 in omega (arith, one))

-- the reports that an act orders are within its cost
topics-cost : (s : Session) (tag : ℕ) (act : Act) → 1 + length (topics_of (done_of s tag (act ∷ []))) ≤ cost_by act
topics-cost s tag (Executed k number true) = by (done_by s tag (Executed k number true))
  where
    by : (o : Option Done) → 1 + length (topics_of (option_map_or (λ d. d ∷ []) o [])) ≤ 2
    by None = omega arith
    by (Some d) =
        let one = one-topic d.instruction in
        let size = length-append (ordered_topics d.instruction) [] in
        omega (arith, one, size)
topics-cost s tag (Executed k number false) = omega arith
topics-cost s tag (Accepted k) = omega arith
topics-cost s tag (TurnedAway k) = omega arith
topics-cost s tag (Started k) = omega arith
topics-cost s tag (NotStarted k) = omega arith
topics-cost s tag (Completed k refused) = omega arith
topics-cost s tag Emitted = omega arith
topics-cost s tag (Filed param slot value) = omega arith

-- what comes next of a request is an act of it
acts-number : (s : Session) (moments : List Moment) (k : ℕ) (o : Option Act) → AllByRecursion (λ act. request_number act ≡ Some k) (next_acts s moments k o)
acts-number s moments k None = tt
acts-number s moments k (Some (Accepted j)) = (by (is_barred s moments (instructions_at s k)), tt)
  where
    by : (b : Bool) → request_number (if b then NotStarted k else Started k) ≡ Some k
    by true = refl
    by false = refl
acts-number s moments k (Some (Started j)) = (refl, tt)
acts-number s moments k (Some (Executed j last flag)) = (by (last == length (instructions_at s k)), tt)
  where
    by : (b : Bool) → request_number (if b then Completed k (refused_numbers k moments) else execution s moments k (last + 1)) ≡ Some k
    by true = refl
    by false = refl
acts-number s moments k (Some (TurnedAway j)) = tt
acts-number s moments k (Some (NotStarted j)) = tt
acts-number s moments k (Some (Completed j refused)) = tt
acts-number s moments k (Some Emitted) = tt
acts-number s moments k (Some (Filed param slot value)) = tt

some-at : {X : Type 0} (xs : List X) (k : ℕ) → k < length xs → (x : X) × (slice_get xs k ≡ Some x)
some-at [] k lt = absurd (omega (arith, lt))
some-at (x ∷ xs) zero lt = (x, refl)
some-at (x ∷ xs) (suc k) lt = some-at xs k (omega (arith, lt))

-- a number that two lists have alike is within both
listed-within : {X : Type 0} (xs ys : List X) (k : ℕ) → slice_get xs k ≡ slice_get ys k → k < length xs → k < length ys
listed-within xs ys k e lt = let r = some-at xs k lt in slice_get-within ys k r.0 (sym e ∙ r.1)

-- work is planned as the acts of a request, with the reports that they order
abbrev pub work_plans : Core → List Act → List Plan
work_plans c acts = map does acts ++ map tells (topics_of (done_of (session c) (next_tag c.clock c.moments) acts))

-- the work on a request is paid
request-paid : (t : TailoringParts) (known : Bool) (requests : List (List ℕ)) (n : ℕ) (c : Core) (k : ℕ) → c.tailoring ≡ t → k < length c.requests → AreNamed c.requests requests n c.moments
    → (o : Option Act) → last_act k c.moments ≡ o → IsOneAct (session c) c.slot_now c.moments (next_acts (session c) c.moments k o)
    → IsPaid (session_with t known requests) (length requests) c.clock c.slot_now (session c) c.moments (work_plans c (next_acts (session c) c.moments k o))
request-paid t known requests n c k same lt named None e one =
    nothing-paid (session_with t known requests) (length requests) c.clock c.slot_now (session c) c.moments
request-paid t known requests n c k same lt named (Some last) e (inl none) =
    subst (λ acts. IsPaid (session_with t known requests) (length requests) c.clock c.slot_now (session c) c.moments (work_plans c acts)) (sym none)
    (nothing-paid (session_with t known requests) (length requests) c.clock c.slot_now (session c) c.moments)
request-paid t known requests n c k same lt named (Some last) e (inr act) =
    let s : Session = session_with t known requests in
    let listed = last-named c.requests requests n k c.moments last e named in
    let numbers = subst (AllByRecursion (λ a. request_number a ≡ Some k)) act.1 (acts-number (session c) c.moments k (Some last)) in
    let order = subst (λ o. IfSome o (IsInOrder (session c) c.moments act.0)) numbers.0 act.2.order in
    let count : length (instructions_at (session c) k) ≡ length (instructions_at s k) = ap length (instructions-same t known requests c k same listed) in
    let follows = subst (λ i. MayFollow i (last_act k c.moments) act.0) count order.order in
    subst (λ acts. IsPaid s (length requests) c.clock c.slot_now (session c) c.moments (work_plans c acts)) (sym act.1)
    (act-paid s (length requests) c.clock c.slot_now (session c) c.moments act.0 (topics_of (done_of (session c) (next_tag c.clock c.moments) (act.0 ∷ []))) k
    (listed-within c.requests requests k listed lt) numbers.0 follows (topics-cost (session c) (next_tag c.clock c.moments) act.0))

-- work is paid
pub work-paid : (t : TailoringParts) (known : Bool) (requests : List (List ℕ)) (n : ℕ) (c : Core) → c.tailoring ≡ t → RequestsOnly t → Stands c → AreNamed c.requests requests n c.moments
    → IsPaid (session_with t known requests) (length requests) c.clock c.slot_now (session c) c.moments (planned c Work)
work-paid t known requests n c same only k named = by (worked_request c) refl
  where
    by : (o : Option ℕ) → worked_request c ≡ o
        → IsPaid (session_with t known requests) (length requests) c.clock c.slot_now (session c) c.moments (work_plans c (option_map_or (λ j. next_acts (session c) c.moments j (last_act j c.moments)) o []))
    by None e = nothing-paid (session_with t known requests) (length requests) c.clock c.slot_now (session c) c.moments
    by (Some j) e =
        let found = find-range (λ i. is_pending (last_act i c.moments)) 0 (length c.requests) j e in
        let low : j < length c.requests = let f = found.1 in omega (arith, f) in
        let one = one-act (session c) c.slot_now c.moments k.good j low (λ i lt. found.2 i (omega arith) lt)
        (λ r f. (request-grammatical c (subst RequestsOnly (sym same) only) k.octets j r f).some) (last_act j c.moments) refl in
        request-paid t known requests n c j same low named (last_act j c.moments) refl one
