-- Whatever events come, what a board has done is a legal and honest timeline.
use Rattle.std.proofs.Common.{arith, ◌≡◌, ℕ, zero, suc, ◌+◌, ◌-◌, ◌*◌, ◌^◌, ◌<◌, ◌≤◌, max, refl, sym, ◌∙◌, ap, subst, List, [], ◌∷◌, ◌++◌, length, length-append, replicate, Bool, true, false, ◌==◌, ◌&&◌, ◌||◌, Option, Some, None, ◌⊎◌, inl, inr}
use Rattle.std.specs.Prelude.{IfSome, IsFalse, is_some, nat_le, nat_lt, option_and_then, if◌then◌else◌}
use Rattle.std.specs.List.{AllByRecursion, list_any}
use Rattle.std.specs.Option.{option_map_or}
use Rattle.std.proofs.lemmas.Option.{same_Some, none-some}
use Rattle.std.proofs.lemmas.List.{length-replicate}
use Rattle.std.proofs.lemmas.Bool.Decides.{nat_tests}
use Rattle.std.proofs.lemmas.Bool.{ltb-false}
use Rattle.hk_base.specs.Fit.{IsFit, greatest_tag}
use Rattle.hk_base.specs.TailoringParts.{TailoringParts}
use Rattle.hk_base.specs.Parameters.{is_settable}
use Rattle.hk_base.proofs.Membership.{AllByRecursion-append}
use Rattle.body_fields.specs.Spelling.{AreOctets}
use Rattle.pus_packet.specs.declared.header.TcHeader.{TcHeader}
use Rattle.pus_messages.specs.Messages.{protocol}
use Rattle.pus_messages.proofs.Lawful.{lawful}
use Rattle.hk_world.specs.States.{boot_state}
use Rattle.hk_world.specs.Timelines.{EachAfter, Session, request_at, instructions_at, request_number, last_act}
use Rattle.hk_world.specs.Legal.{HandledBelow, handled_number, is_pending, MayFollow, is_filing, IsLegal}
use Rattle.hk_world.specs.Honest.{IsHonest, Carries}
use Rattle.hk_world.specs.Worlds.{MayHappen}
pub use Rattle.board_steps.specs.Timeline.{Stands}
use Rattle.hk_world.specs.declared.moment.Moment.{Moment}
use Rattle.hk_world.specs.declared.moment.Act.{Act}
use Rattle.hk_world.specs.declared.moment.Act.TheVariants.{Accepted, TurnedAway, Started, NotStarted, Executed, Completed, Emitted, Filed}
use Rattle.hk_world.proofs.OrderLemmas.{true_is_not_false, last_act-other}
use Rattle.board_steps.specs.Cores.{Core, session, new_core, next_tag}
use Rattle.board_steps.specs.Plans.{Plan, does, is_handled, handled_as, with_request, end_of_slot, prepared, handling, worked_request, next_acts, planned, slot_after_event}
use Rattle.board_steps.specs.Steps.{AreNext, MayFile, is_closing, is_late}
use Rattle.board_steps.specs.Runs.{IsMade, IsRun}
use Rattle.board_steps.specs.declared.event.Event.{Event}
use Rattle.board_steps.specs.declared.event.Event.TheVariants.{Uplink, Clock, Work, Filing, CloseSlot}
use Rattle.board_steps.specs.declared.event.Sample.{Sample}
use Rattle.board_steps.proofs.GrownLemmas.{on_ground, AgreeOn, IsBelow, AreBelow, timeline-grown, timeline-ground}
use Rattle.board_steps.proofs.GrammarLemmas.{RequestsOnly}
use Rattle.board_steps.proofs.TimeLemmas.{all-mapped, IsGood, are-filed-later, timeline-legal, timeline-honest}
use Rattle.board_steps.proofs.ValueLemmas.{request-grammatical}
use Rattle.board_steps.proofs.NextLemmas.{MayDo, does-next}
use Rattle.board_steps.proofs.WorkLemmas.{find-range, IsOneAct, acts-next, one-act}
use Rattle.board_steps.proofs.ClosingLemmas.{closing-next}

-- the session of a tailoring with these requests
abbrev pub session_by : TailoringParts → List (List ℕ) → Session
session_by t requests = record { protocol = protocol t; known = true; long = false; initial = boot_state t; requests = requests }

-- the last tag of a step is one that a packet can carry
in-time : (a b x y : Bool) → ((a && b) || (x && y)) ≡ false → a ≡ true → b ≡ false
in-time true b x y e h = left b (x && y) e
  where
    left : (p q : Bool) → (p || q) ≡ false → p ≡ false
    left false q e = refl
    left true q e = absurd (true_is_not_false e)
in-time false b x y e h = absurd (true_is_not_false (sym h))

time-left : (c : Core) (event : Event) → is_late c event ≡ false → 0 < length (planned c event)
    → next_tag (prepared c event).clock c.moments + length (planned c event) ≤ greatest_tag c.tailoring + 1
time-left c event e some =
    let first : nat_lt 0 (length (planned c event)) ≡ true = grind (arith, nat_tests) in
    let last : nat_lt (greatest_tag c.tailoring + 1) (next_tag (prepared c event).clock c.moments + length (planned c event)) ≡ false =
    in-time (nat_lt 0 (length (planned c event))) (nat_lt (greatest_tag c.tailoring + 1) (next_tag (prepared c event).clock c.moments + length (planned c event)))
    (is_closing event) (nat_lt (greatest_tag c.tailoring) (prepared c event).clock) e first in
    grind (arith, nat_tests)

-- the timeline of a core is good, and its requests are of octets
record IsSteady (c : Core) : Type 0 where
  pub good : IsGood (session c) c.slot_now c.moments
  pub octets : AllByRecursion AreOctets c.requests

steady : (c : Core) → Stands c → IsSteady c
steady c k = record { good = k.good; octets = k.octets }

-- what is known of the core after a step, by its session and its slot
stands-from : (t : TailoringParts) (requests : List (List ℕ)) (slot : ℕ) (after : Core) → after.tailoring ≡ t → after.requests ≡ requests → after.slot_now ≡ slot
    → IsGood (session_by t requests) slot after.moments → AllByRecursion AreOctets requests → IsSteady after
stands-from t requests slot after same listed now g octets =
    let a = subst (λ n. IsGood (session_by t requests) n after.moments) (sym now) g in
    let b = subst (λ rs. IsGood (session_by t rs) after.slot_now after.moments) (sym listed) a in
    record { good = subst (λ x. IsGood (session_by x after.requests) after.slot_now after.moments) (sym same) b; octets = subst (AllByRecursion AreOctets) (sym listed) octets }

-- a core with a packet that is handled under a number, if it is
abbrev pub with_packet : Core → List ℕ → Option ℕ → Core
with_packet c packet o = option_map_or (λ k. record c { requests = with_request c.requests k packet }) o c

-- what is planned for a packet
abbrev pub packet_plans : Core → List ℕ → Option ℕ → List Plan
packet_plans c packet o = option_map_or (λ k. does (handling (session (with_packet c packet o)) k) ∷ []) o []

last-of-two : (a b d : Bool) → (a && (b && d)) ≡ true → d ≡ true
last-of-two true true d h = h
last-of-two true false d h = absurd (true_is_not_false (sym h))
last-of-two false b d h = absurd (true_is_not_false (sym h))

-- a packet is handled under a number that none had before
pub number-new : (c : Core) (packet : List ℕ) (k : ℕ) → handled_as c packet ≡ Some k → length c.requests ≤ k
number-new c packet k e = by_header ((session c).protocol.command packet) refl
  where
    by_test : (h : TcHeader) (b : Bool) → is_handled c h ≡ b → (if b then Some h.count else None) ≡ Some k → length c.requests ≤ k
    by_test h true f g =
        let test : nat_le (length c.requests) h.count ≡ true = last-of-two (h.apid == c.tailoring.widths.apid) (h.source == c.tailoring.widths.ground) (nat_le (length c.requests) h.count) f in
        let same : h.count ≡ k = same_Some h.count k g in
        grind (arith, nat_tests)
    by_test h false f g = absurd (none-some k g)

    by_header : (o : Option TcHeader) → (session c).protocol.command packet ≡ o → length c.requests ≤ k
    by_header None f = absurd (none-some k (sym (ap (λ o. option_and_then (λ h. if is_handled c h then Some h.count else None) o) f) ∙ e))
    by_header (Some h) f = by_test h (is_handled c h) refl (sym (ap (λ o. option_and_then (λ x. if is_handled c x then Some x.count else None) o) f) ∙ e)

-- no act has the next number
none-yet : (n k : ℕ) (moments : List Moment) → n ≤ k → AreBelow n moments → last_act k moments ≡ None
none-yet n k [] le h = refl
none-yet n k (m ∷ earlier) le h = last_act-other k m earlier (other (request_number m.act) h.0) ∙ none-yet n k earlier le h.1
  where
    other : (o : Option ℕ) → IfSome o (λ j. j < n) → option_map_or (λ j. j == k) o false ≡ false
    other None f = refl
    other (Some j) f = grind (arith, nat_tests)

handled-number-below : (n k : ℕ) (act : Act) → n ≤ k → IsBelow n act → IfSome (handled_number act) (λ j. j < k)
handled-number-below n k (Accepted j) le h = omega (arith, le, h)
handled-number-below n k (TurnedAway j) le h = omega (arith, le, h)
handled-number-below n k (Started j) le h = tt
handled-number-below n k (NotStarted j) le h = tt
handled-number-below n k (Executed j number flag) le h = tt
handled-number-below n k (Completed j refused) le h = tt
handled-number-below n k Emitted le h = tt
handled-number-below n k (Filed id x v) le h = tt

handled-below : (n k : ℕ) (moments : List Moment) → n ≤ k → AreBelow n moments → HandledBelow k moments
handled-below n k moments le h =
    all-mapped (λ (m : Moment). IsBelow n m.act) (λ m. IfSome (handled_number m.act) (λ j. j < k)) (λ m b. handled-number-below n k m.act le b) moments h

below-more : (n k : ℕ) → n ≤ k → (act : Act) → IsBelow n act → IsBelow k act
below-more n k le act h = go (request_number act) h
  where
    go : (o : Option ℕ) → IfSome o (λ j. j < n) → IfSome o (λ j. j < k)
    go None f = tt
    go (Some j) f = omega (arith, f, le)

are-below-more : (n k : ℕ) → n ≤ k → (moments : List Moment) → AreBelow n moments → AreBelow k moments
are-below-more n k le moments h = all-mapped (λ (m : Moment). IsBelow n m.act) (λ m. IsBelow k m.act) (λ m b. below-more n k le m.act b) moments h

silent-octets : (n : ℕ) → AllByRecursion AreOctets (replicate n [])
silent-octets zero = tt
silent-octets (suc n) = (tt, silent-octets n)

-- the list with a packet under a number
packet-octets : (c : Core) (packet : List ℕ) (k : ℕ) → AllByRecursion AreOctets c.requests → AreOctets packet → AllByRecursion AreOctets (with_request c.requests k packet)
packet-octets c packet k old new =
    AllByRecursion-append AreOctets c.requests (replicate (k - length c.requests) [] ++ packet ∷ []) old
    (AllByRecursion-append AreOctets (replicate (k - length c.requests) []) (packet ∷ []) (silent-octets (k - length c.requests)) (new, tt))

pub packet-length : (c : Core) (packet : List ℕ) (k : ℕ) → length c.requests ≤ k → length (with_request c.requests k packet) ≡ k + 1
packet-length c packet k le =
    let none : List (List ℕ) = replicate (k - length c.requests) [] in
    omega (arith, length-append c.requests (none ++ packet ∷ []), length-append none (packet ∷ []), length-replicate (k - length c.requests) packet-none, le)
  where
    packet-none : List ℕ
    packet-none = []

-- the timeline before a packet is handled, with the packet among the requests
good-handled : (c : Core) (packet : List ℕ) (k : ℕ) → length c.requests ≤ k → IsGood (session c) c.slot_now c.moments
    → IsGood (session (with_packet c packet (Some k))) c.slot_now c.moments
good-handled c packet k le g =
    let more : List (List ℕ) = replicate (k - length c.requests) [] ++ packet ∷ [] in
    record {
      timeline = timeline-grown (session c) more c.moments g.below g.timeline;
      below = are-below-more (length c.requests) (length (with_request c.requests k packet)) (omega (arith, le, packet-length c packet k le)) c.moments g.below;
      filed = g.filed;
    }

-- the handling of a packet may come
may-handle : (c : Core) (s : Session) (k : ℕ) (m : Moment) → length c.requests ≤ k → k < length s.requests → AreBelow (length c.requests) c.moments → (b : Bool)
    → is_some (request_at s k) ≡ b → Carries s c.moments m (if b then Accepted k else TurnedAway k)
    → MayDo s c.slot_now c.moments (if b then Accepted k else TurnedAway k)
may-handle c s k m le known below true e h =
    record {
      handling = (handled-below (length c.requests) k c.moments le below, e);
      order = record {
        order = subst (λ o. MayFollow (length (instructions_at s k)) o (Accepted k)) (sym (none-yet (length c.requests) k c.moments le below)) tt;
        turn = λ b. absurd (true_is_not_false (sym b));
      };
      outcome = tt;
      sample = tt;
      below = known;
      filed = tt;
    }
may-handle c s k m le known below false e h =
    record {
      handling = (handled-below (length c.requests) k c.moments le below, (h.0, h.1, h.2, h.3));
      order = record {
        order = subst (λ o. MayFollow (length (instructions_at s k)) o (TurnedAway k)) (sym (none-yet (length c.requests) k c.moments le below)) tt;
        turn = λ b. absurd (true_is_not_false (sym b));
      };
      outcome = tt;
      sample = tt;
      below = known;
      filed = tt;
    }

-- a packet comes
uplink-next : (c : Core) (packet : List ℕ) (o : Option ℕ) → handled_as c packet ≡ o → AreOctets packet → IsSteady c → (after : List Moment)
    → next_tag c.clock c.moments + length (packet_plans c packet o) ≤ greatest_tag c.tailoring + 1 ⊎ (packet_plans c packet o ≡ [])
    → AreNext (session (with_packet c packet o)) (with_packet c packet o).clock c.slot_now c.moments (packet_plans c packet o) after
    → IsGood (session (with_packet c packet o)) c.slot_now after × AllByRecursion AreOctets (with_packet c packet o).requests
uplink-next c packet None e octets k after time h = (subst (IsGood (session c) c.slot_now) (sym h) k.good, k.octets)
uplink-next c packet (Some n) e octets k after (inr none) h = cc
uplink-next c packet (Some n) e octets k after (inl time) h =
    let s : Session = session (with_packet c packet (Some n)) in
    let le = number-new c packet n e in
    let g = good-handled c packet n le k.good in
    let known : n < length s.requests = omega (arith, packet-length c packet n le) in
    let may = may-handle c s n h.0 le known k.good.below (is_some (request_at s n)) refl h.1.follows.1 in
    let good = does-next s c.clock c.slot_now c.slot_now c.moments (handling s n) h.0 g h.1 (omega (arith, time)) may in
    (subst (IsGood s c.slot_now) (sym h.2) good, packet-octets c packet n k.octets octets)

-- a sample comes
filing-next : (c : Core) (x : Sample) → MayFile c x → IsSteady c → (after : List Moment) → next_tag c.clock c.moments + 1 ≤ greatest_tag c.tailoring + 1
    → AreNext (session c) c.clock c.slot_now c.moments (does (Filed x.param x.slot x.value) ∷ []) after → IsGood (session c) c.slot_now after
filing-next c x f k after time h =
    let may : MayDo (session c) c.slot_now c.moments (Filed x.param x.slot x.value) =
    record {
      handling = tt;
      order = tt;
      outcome = tt;
      sample = (
        f.param,
        record {
          known = f.known;
          fit = f.fit;
          once = subst (λ n. AllByRecursion (λ e. IsFalse (is_filing x.param n e.act)) c.moments) (sym f.slot) (none-of c.moments f.once);
          settable = λ set why. absurd (true_is_not_false (sym set ∙ f.sensed));
        },
      );
      below = tt;
      filed = (omega (arith, f.slot), λ set. absurd (true_is_not_false (sym set ∙ ap (λ o. option_map_or is_settable o false) f.known ∙ f.sensed)));
    } in
    subst (IsGood (session c) c.slot_now) (sym h.2) (does-next (session c) c.clock c.slot_now c.slot_now c.moments (Filed x.param x.slot x.value) h.0 k.good h.1 (omega (arith, time)) may)
  where
    none-of : (ms : List Moment) → list_any (λ m. is_filing x.param c.slot_now m.act) ms ≡ false → AllByRecursion (λ e. IsFalse (is_filing x.param c.slot_now e.act)) ms
    none-of [] e = tt
    none-of (m ∷ ms) e = go (is_filing x.param c.slot_now m.act) refl e (none-of ms)
      where
        go : (b : Bool) → is_filing x.param c.slot_now m.act ≡ b → (b || list_any (λ m. is_filing x.param c.slot_now m.act) ms) ≡ false
            → (list_any (λ m. is_filing x.param c.slot_now m.act) ms ≡ false → AllByRecursion (λ e. IsFalse (is_filing x.param c.slot_now e.act)) ms)
            → AllByRecursion (λ e. IsFalse (is_filing x.param c.slot_now e.act)) (m ∷ ms)
        go false f g ih = (f, ih g)
        go true f g ih = absurd (true_is_not_false g)

-- the acts of a request that may be worked on
abbrev pub acts_of : Core → Option ℕ → List Act
acts_of c o = option_map_or (λ k. next_acts (session c) c.moments k (last_act k c.moments)) o []

work-acts : (c : Core) → RequestsOnly c.tailoring → IsSteady c → (o : Option ℕ) → worked_request c ≡ o → IsOneAct (session c) c.slot_now c.moments (acts_of c o)
work-acts c only k None e = inl refl
work-acts c only k (Some n) e =
    let found = find-range (λ j. is_pending (last_act j c.moments)) 0 (length c.requests) n e in
    one-act (session c) c.slot_now c.moments k.good n (omega (arith, found.1)) (λ j lt. found.2 j (omega arith) lt)
    (λ r f. (request-grammatical c only k.octets n r f).some) (last_act n c.moments) refl

some-or-none : {X : Type 0} (xs : List X) → (0 < length xs) ⊎ (xs ≡ [])
some-or-none [] = inr refl
some-or-none (x ∷ xs) = inl (omega arith)

-- where nothing is planned nothing comes
none-comes : (s : Session) (clock slot : ℕ) (earlier after : List Moment) (plans : List Plan) → plans ≡ [] → AreNext s clock slot earlier plans after → after ≡ earlier
none-comes s clock slot earlier after plans e h =
    let P : List Plan → Type 0 = λ xs. AreNext s clock slot earlier xs after in
    subst P e h

uplink-time : (c : Core) (packet : List ℕ) → is_late c (Uplink packet) ≡ false
    → (next_tag (prepared c (Uplink packet)).clock c.moments + length (planned c (Uplink packet)) ≤ greatest_tag c.tailoring + 1) ⊎ (planned c (Uplink packet) ≡ [])
uplink-time c packet e = go (some-or-none (planned c (Uplink packet)))
  where
    go : (0 < length (planned c (Uplink packet))) ⊎ (planned c (Uplink packet) ≡ [])
        → (next_tag (prepared c (Uplink packet)).clock c.moments + length (planned c (Uplink packet)) ≤ greatest_tag c.tailoring + 1) ⊎ (planned c (Uplink packet) ≡ [])
    go (inl some) = inl (time-left c (Uplink packet) e some)
    go (inr none) = inr none

-- the clock isn't changed by a packet
pub packet-clock : (c : Core) (packet : List ℕ) (o : Option ℕ) → (with_packet c packet o).clock ≡ c.clock
packet-clock c packet None = refl
packet-clock c packet (Some k) = refl

pub packet-tailoring : (c : Core) (packet : List ℕ) (o : Option ℕ) → (with_packet c packet o).tailoring ≡ c.tailoring
packet-tailoring c packet None = refl
packet-tailoring c packet (Some k) = refl

work-next : (c : Core) → RequestsOnly c.tailoring → IsSteady c → (after : List Moment) → is_late c Work ≡ false
    → AreNext (session c) c.clock c.slot_now c.moments (planned c Work) after → IsGood (session c) c.slot_now after
work-next c only k after time h = go (some-or-none (planned c Work))
  where
    go : (0 < length (planned c Work)) ⊎ (planned c Work ≡ []) → IsGood (session c) c.slot_now after
    go (inl some) =
        acts-next (session c) c.clock c.slot_now c.slot_now (next_tag c.clock c.moments) c.moments after (acts_of c (worked_request c)) k.good
        (work-acts c only k (worked_request c) refl) (time-left c Work time some) h
    go (inr none) = subst (IsGood (session c) c.slot_now) (sym (none-comes (session c) c.clock c.slot_now c.moments after (planned c Work) none h)) k.good

close-next : (c : Core) → IsFit c.tailoring → RequestsOnly c.tailoring → IsSteady c → (after : List Moment) → is_late c CloseSlot ≡ false
    → AreNext (session c) (prepared c CloseSlot).clock c.slot_now c.moments (planned c CloseSlot) after → IsGood (session c) (c.slot_now + 1) after
close-next c fit only k after time h = go (some-or-none (planned c CloseSlot))
  where
    go : (0 < length (planned c CloseSlot)) ⊎ (planned c CloseSlot ≡ []) → IsGood (session c) (c.slot_now + 1) after
    go (inl some) = closing-next (prepared c CloseSlot) fit only k.octets (omega arith) k.good after (time-left c CloseSlot time some) h
    go (inr none) =
        let same = none-comes (session c) (prepared c CloseSlot).clock c.slot_now c.moments after (planned c CloseSlot) none h in
        subst (IsGood (session c) (c.slot_now + 1)) (sym same)
        (record { timeline = k.good.timeline; below = k.good.below; filed = are-filed-later c.tailoring c.slot_now c.moments k.good.filed })

-- a step leaves a good timeline
step-steady : (before : Core) (event : Event) (after : Core) → IsFit before.tailoring → RequestsOnly before.tailoring → IsSteady before → IsMade before event after → IsSteady after
step-steady before (Uplink packet) after fit only k made =
    let o : Option ℕ = handled_as before packet in
    let time = uplink-time before packet made.time in
    let T : ℕ → Type 0 = λ n. (next_tag n before.moments + length (packet_plans before packet o) ≤ greatest_tag before.tailoring + 1) ⊎ (packet_plans before packet o ≡ []) in
    let r = uplink-next before packet o refl made.comes k after.moments (subst T (packet-clock before packet o) time) made.step.moments in
    let g : IsGood (session_by before.tailoring (with_packet before packet o).requests) before.slot_now after.moments =
    subst (λ t. IsGood (session_by t (with_packet before packet o).requests) before.slot_now after.moments) (packet-tailoring before packet o) r.0 in
    stands-from before.tailoring (with_packet before packet o).requests before.slot_now after made.step.tailoring made.step.requests made.step.slot_now g r.1
step-steady before (Clock tag) after fit only k made =
    stands-from before.tailoring before.requests before.slot_now after made.step.tailoring made.step.requests made.step.slot_now
    (subst (IsGood (session before) before.slot_now) (sym made.step.moments) k.good) k.octets
step-steady before Work after fit only k made =
    stands-from before.tailoring before.requests before.slot_now after made.step.tailoring made.step.requests made.step.slot_now
    (work-next before only k after.moments made.time made.step.moments) k.octets
step-steady before (Filing x) after fit only k made =
    stands-from before.tailoring before.requests before.slot_now after made.step.tailoring made.step.requests made.step.slot_now
    (filing-next before x made.comes k after.moments (time-left before (Filing x) made.time (omega arith)) made.step.moments) k.octets
step-steady before CloseSlot after fit only k made =
    stands-from before.tailoring before.requests (before.slot_now + 1) after made.step.tailoring made.step.requests made.step.slot_now
    (close-next before fit only k after.moments made.time made.step.moments) k.octets

-- the moments that come have packets of octets
next-octets : (s : Session) (clock slot : ℕ) (earlier after : List Moment) (plans : List Plan) → AllByRecursion (λ m. AreOctets m.packet) earlier
    → AreNext s clock slot earlier plans after → AllByRecursion (λ m. AreOctets m.packet) after
next-octets s clock slot earlier after [] all h = subst (AllByRecursion (λ (m : Moment). AreOctets m.packet)) (sym h) all
next-octets s clock slot earlier after (plan ∷ plans) all h = next-octets s clock slot (h.0 ∷ earlier) after plans (h.1.octets, all) h.2

-- as many moments come as were planned
pub next-length : (s : Session) (clock slot : ℕ) (earlier after : List Moment) (plans : List Plan) → AreNext s clock slot earlier plans after
    → length after ≡ length earlier + length plans
next-length s clock slot earlier after [] h = ap length h ∙ omega arith
next-length s clock slot earlier after (plan ∷ plans) h = next-length s clock slot (h.0 ∷ earlier) after plans h.2 ∙ omega arith

-- the number of a packet that is handled has 14 bits
pub number-small : (c : Core) (packet : List ℕ) (k : ℕ) → handled_as c packet ≡ Some k → k < 16384
number-small c packet k e = by_header ((session c).protocol.command packet) refl
  where
    by_test : (h : TcHeader) (b : Bool) → (session c).protocol.command packet ≡ Some h → (if b then Some h.count else None) ≡ Some k → k < 16384
    by_test h true f g =
        let same : h.count ≡ k = same_Some h.count k g in
        let low : h.count < 2 ^ 14 = (lawful c.tailoring).count packet h f in
        omega (arith, same, low)
    by_test h false f g = absurd (none-some k g)

    by_header : (o : Option TcHeader) → (session c).protocol.command packet ≡ o → k < 16384
    by_header None f = absurd (none-some k (sym (ap (λ o. option_and_then (λ h. if is_handled c h then Some h.count else None) o) f) ∙ e))
    by_header (Some h) f = by_test h (is_handled c h) f (sym (ap (λ o. option_and_then (λ x. if is_handled c x then Some x.count else None) o) f) ∙ e)

-- there are no more requests than counts
few-more : (c : Core) (packet : List ℕ) (o : Option ℕ) → handled_as c packet ≡ o → length c.requests ≤ 16384 → length (with_packet c packet o).requests ≤ 16384
few-more c packet None e h = h
few-more c packet (Some k) e h = omega (arith, packet-length c packet k (number-new c packet k e), number-small c packet k e)

few-after : (c : Core) (event : Event) → length c.requests ≤ 16384 → length (prepared c event).requests ≤ 16384
few-after c (Uplink packet) h = few-more c packet (handled_as c packet) refl h
few-after c (Clock tag) h = h
few-after c Work h = h
few-after c (Filing x) h = h
few-after c CloseSlot h = h

-- the slot that runs begins at a tag that a packet can carry
early-after : (c : Core) (event : Event) → is_late c event ≡ false → c.slot_now * c.tailoring.widths.slot ≤ greatest_tag c.tailoring
    → slot_after_event c event * c.tailoring.widths.slot ≤ greatest_tag c.tailoring
early-after c (Uplink packet) e h = h
early-after c (Clock tag) e h = h
early-after c Work e h = h
early-after c (Filing x) e h = h
early-after c CloseSlot e h =
    let late : nat_lt (greatest_tag c.tailoring) (prepared c CloseSlot).clock ≡ false =
    right (nat_lt 0 (length (planned c CloseSlot)) && nat_lt (greatest_tag c.tailoring + 1) (next_tag (prepared c CloseSlot).clock c.moments + length (planned c CloseSlot)))
    (nat_lt (greatest_tag c.tailoring) (prepared c CloseSlot).clock) e in
    let low : max c.clock (end_of_slot c) ≤ greatest_tag c.tailoring = ltb-false (greatest_tag c.tailoring) (max c.clock (end_of_slot c)) late in
    omega (arith, low)
  where
    right : (p q : Bool) → (p || q) ≡ false → q ≡ false
    right false q e = e
    right true q e = absurd (true_is_not_false e)

-- a step leaves a core that stands
pub step-stands : (before : Core) (event : Event) (after : Core) → IsFit before.tailoring → RequestsOnly before.tailoring → Stands before → IsMade before event after → Stands after
step-stands before event after fit only k made =
    let g = step-steady before event after fit only (steady before k) made in
    let p = prepared before event in
    let count = next-length (session p) p.clock before.slot_now before.moments after.moments (planned before event) made.step.moments in
    let room : length before.moments + length (planned before event) ≤ 1048576 = ltb-false 1048576 (length before.moments + length (planned before event)) made.room in
    let few : length p.requests ≤ 16384 = few-after before event k.few in
    let early = early-after before event made.time k.early in
    let there = subst (λ n. n * before.tailoring.widths.slot ≤ greatest_tag before.tailoring) (sym made.step.slot_now) early in
    record {
      good = g.good;
      octets = g.octets;
      packets = next-octets (session p) p.clock before.slot_now before.moments after.moments (planned before event) k.packets made.step.moments;
      few = subst (λ (rs : List (List ℕ)). length rs ≤ 16384) (sym made.step.requests) few;
      room = omega (arith, count, room);
      early = subst (λ (t : TailoringParts). after.slot_now * t.widths.slot ≤ greatest_tag t) (sym made.step.tailoring) there;
    }

pub new-stands : (t : TailoringParts) → Stands (new_core t)
new-stands t = record { good = record { timeline = tt; below = tt; filed = tt }; octets = tt; packets = tt; few = omega arith; room = omega arith; early = omega arith }

pub run-tailoring : (t : TailoringParts) (events : List Event) (c : Core) → IsRun t events c → c.tailoring ≡ t
run-tailoring t [] c h = ap (λ (x : Core). x.tailoring) h
run-tailoring t (event ∷ earlier) c h = h.2.step.tailoring ∙ run-tailoring t earlier h.0 h.1

pub run-stands : (t : TailoringParts) (events : List Event) (c : Core) → IsFit t → RequestsOnly t → IsRun t events c → Stands c
run-stands t [] c fit only h = subst Stands (sym h) (new-stands t)
run-stands t (event ∷ earlier) c fit only h =
    let same = sym (run-tailoring t earlier h.0 h.1) in
    step-stands h.0 event c (subst IsFit same fit) (subst RequestsOnly same only) (run-stands t earlier h.0 fit only h.1) h.2

pub run-legal : (t : TailoringParts) (events : List Event) (c : Core) → IsFit t → RequestsOnly t → IsRun t events c → IsLegal (session c) c.moments
run-legal t events c fit only h = timeline-legal (session c) c.moments (run-stands t events c fit only h).good.timeline

pub run-honest : (t : TailoringParts) (events : List Event) (c : Core) → IsFit t → RequestsOnly t → IsRun t events c → IsHonest (session c) c.moments
run-honest t events c fit only h = timeline-honest (session c) c.moments (run-stands t events c fit only h).good.timeline

-- so they are in a session with other packets under numbers that no moment names
pub stands-ground : (c : Core) (known : Bool) (other : List (List ℕ)) → Stands c → AgreeOn c.requests other c.moments
    → EachAfter (MayHappen (on_ground (session c) known other)) c.moments
stands-ground c known other k agree = timeline-ground (session c) known other c.moments agree k.good.timeline

pub run-ground : (t : TailoringParts) (events : List Event) (c : Core) (known : Bool) (other : List (List ℕ)) → IsFit t → RequestsOnly t → IsRun t events c
    → AgreeOn c.requests other c.moments → IsLegal (on_ground (session c) known other) c.moments × IsHonest (on_ground (session c) known other) c.moments
run-ground t events c known other fit only h agree =
    let both = stands-ground c known other (run-stands t events c fit only h) agree in
    (timeline-legal (on_ground (session c) known other) c.moments both, timeline-honest (on_ground (session c) known other) c.moments both)
