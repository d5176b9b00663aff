-- The steps of a slot are a part of a run; the slot that runs then is the next one, and nothing waits where nothing did.
use Rattle.std.proofs.Common.{arith, ◌≡◌, ℕ, ◌+◌, refl, sym, ◌∙◌, ap, subst, List, [], ◌∷◌, ◌++◌, length, reverse, map, take, Bool, true, false, ◌==◌, Option, Some, None, filter}
use Rattle.std.specs.Prelude.{⊤, if◌then◌else◌}
use Rattle.std.specs.List.{AllByRecursion, range_with_len}
use Rattle.std.specs.Option.{option_map_or}
use Rattle.std.proofs.lemmas.List.{append_assoc, reverse-append}
use Rattle.hk_base.specs.TailoringParts.{TailoringParts}
use Rattle.hk_base.specs.declared.types.Param.{Param}
use Rattle.hk_world.specs.Timelines.{Session, request_number, is_act_of, last_act}
use Rattle.hk_world.specs.Legal.{is_pending}
use Rattle.hk_world.specs.declared.moment.Moment.{Moment}
use Rattle.hk_world.proofs.OrderLemmas.{true_is_not_false, last_act-other}
use Rattle.board_steps.specs.Cores.{Core, session}
use Rattle.board_steps.specs.Plans.{Topic, Plan, does, tells, prepared, settables, own_filing, due_topics, tags_left, planned}
use Rattle.board_steps.specs.Steps.{IsNext, AreNext, IsStep}
use Rattle.board_steps.specs.Runs.{IsMade, IsRun}
use Rattle.board_steps.specs.SlotRuns.{waiting, Ahead, at_start, at_end, Comes, Leads, IsSlot}
use Rattle.board_steps.specs.declared.event.Event.{Event}
use Rattle.board_steps.specs.declared.event.Event.TheVariants.{Uplink, Clock, Work, Filing, CloseSlot}
use Rattle.board_steps.proofs.AddedLemmas.{filter-same, waits-same}

-- the events of a slot go on with a run
pub leads-run : (t : TailoringParts) (earlier : List Event) (ahead next : Ahead) (before after : Core) (events : List Event) → IsRun t earlier before
    → Leads ahead before events next after → IsRun t (reverse events ++ earlier) after
leads-run t earlier ahead next before after [] run h = subst (IsRun t earlier) (sym h.1) run
leads-run t earlier ahead next before after (event ∷ events) run h =
    let rest = leads-run t (event ∷ earlier) h.0 next h.1 after events (before, run, h.3) h.4 in
    subst (λ es. IsRun t es after) (sym (ap (λ es. es ++ earlier) (reverse-append (event ∷ []) events) ∙ append_assoc (reverse events) (event ∷ []) earlier)) rest

-- no act of a request is planned
abbrev pub IsApart : Plan → Type 0
IsApart (does act) = request_number act ≡ None
IsApart (tells topic) = ⊤

next-other : (s : Session) (clock slot k : ℕ) (earlier : List Moment) (plan : Plan) (m : Moment) → IsApart plan → IsNext s clock slot earlier plan m → is_act_of k m.act ≡ false
next-other s clock slot k earlier (does act) m none h = ap (is_act_of k) h.follows.0 ∙ by_number (request_number act) none
  where
    by_number : (o : Option ℕ) → o ≡ None → option_map_or (λ n. n == k) o false ≡ false
    by_number None e = refl
    by_number (Some n) e = cc
next-other s clock slot k earlier (tells topic) m none h = ap (is_act_of k) h.follows.0

others-same : (s : Session) (clock slot k : ℕ) (earlier after : List Moment) (plans : List Plan) → AllByRecursion IsApart plans → AreNext s clock slot earlier plans after
    → last_act k after ≡ last_act k earlier
others-same s clock slot k earlier after [] all h = ap (last_act k) h
others-same s clock slot k earlier after (plan ∷ plans) all h =
    others-same s clock slot k (h.0 ∷ earlier) after plans all.1 h.2 ∙ last_act-other k h.0 earlier (next-other s clock slot k earlier plan h.0 all.0 h.1)

topics-apart : (topics : List Topic) → AllByRecursion IsApart (map tells topics)
topics-apart [] = tt
topics-apart (topic ∷ topics) = (tt, topics-apart topics)

closing-apart : (c : Core) (ps : List Param) (topics : List Topic) → AllByRecursion IsApart (map (λ p. does (own_filing c p)) ps ++ map tells topics)
closing-apart c [] topics = topics-apart topics
closing-apart c (p ∷ ps) topics = (refl, closing-apart c ps topics)

-- the end of a slot leaves the number of requests that wait
pub closes-same : (before after : Core) → IsStep before CloseSlot after → waiting after ≡ waiting before
closes-same before after step =
    let p : Core = prepared before CloseSlot in
    let same : (k : ℕ) → is_pending (last_act k after.moments) ≡ is_pending (last_act k before.moments) =
    λ k. ap is_pending (others-same (session p) p.clock before.slot_now k before.moments after.moments (planned before CloseSlot)
    (closing-apart p (settables before.tailoring) (take (tags_left p) (due_topics p))) step.moments) in
    by_tests same
  where
    by_tests : ((k : ℕ) → is_pending (last_act k after.moments) ≡ is_pending (last_act k before.moments)) → waiting after ≡ waiting before
    by_tests same =
        ap length (filter-same (λ k. is_pending (last_act k after.moments)) (λ k. is_pending (last_act k before.moments)) same (range_with_len 0 (length after.requests)))
        ∙ ap (λ (rs : List (List ℕ)). length (filter (λ k. is_pending (last_act k before.moments)) (range_with_len 0 (length rs)))) step.requests

-- nothing comes in a slot that has ended
ended-open : (ahead next : Ahead) (c : Core) (event : Event) → Comes ahead c event next → ahead.is_open ≡ true
ended-open ahead next c (Uplink packet) h = h.0
ended-open ahead next c (Clock tag) h = absurd h
ended-open ahead next c Work h = h.0
ended-open ahead next c (Filing x) h = h.0
ended-open ahead next c CloseSlot h = h.0

-- how many slots have ended where this is ahead
abbrev pub ended : Ahead → ℕ
ended ahead = if ahead.is_open then 0 else 1

pub leads-slot : (ahead next : Ahead) (before after : Core) (events : List Event) → Leads ahead before events next after
    → after.slot_now + ended ahead ≡ before.slot_now + ended next
leads-slot ahead next before after [] h = by_ends h.0 (ap (λ (c : Core). c.slot_now) h.1)
  where
    by_ends : next ≡ ahead → after.slot_now ≡ before.slot_now → after.slot_now + ended ahead ≡ before.slot_now + ended next
    by_ends e f = ap (λ n. n + ended ahead) f ∙ ap (λ a. before.slot_now + ended a) (sym e)
leads-slot ahead next before after (event ∷ events) h = by_event (leads-slot h.0 next h.1 after events h.4) event h.2 h.3
  where
    -- the slot that runs is the same, and so is whether it has ended
    stays : after.slot_now + ended h.0 ≡ h.1.slot_now + ended next → h.1.slot_now ≡ before.slot_now → ended h.0 ≡ ended ahead
        → after.slot_now + ended ahead ≡ before.slot_now + ended next
    stays rest e f = ap (λ n. after.slot_now + n) (sym f) ∙ rest ∙ ap (λ n. n + ended next) e

    by_event : after.slot_now + ended h.0 ≡ h.1.slot_now + ended next → (x : Event) → Comes ahead before x h.0 → IsMade before x h.1 → after.slot_now + ended ahead ≡ before.slot_now + ended next
    by_event rest (Uplink packet) c m =
        stays rest m.step.slot_now (ap ended c.1.1.2 ∙ sym (ap (λ b. if b then 0 else 1) c.0))
    by_event rest (Clock tag) c m = absurd c
    by_event rest Work c m = stays rest m.step.slot_now (ap ended c.1.2)
    by_event rest (Filing x) c m = stays rest m.step.slot_now (ap ended c.2)
    by_event rest CloseSlot c m =
        let was : ended ahead ≡ 0 = ap (λ b. if b then 0 else 1) c.0 in
        let is : ended h.0 ≡ 1 = ap ended c.1.2 in
        omega (arith, rest, was, is, m.step.slot_now)

-- nothing waits where no uplink has come
abbrev pub IsAtRest : Ahead → Core → Type 0
IsAtRest ahead c = ahead.working ≡ false → waiting c ≡ 0

pub leads-idle : (ahead : Ahead) (before after : Core) (events : List Event) → IsAtRest ahead before → Leads ahead before events at_end after → waiting after ≡ 0
leads-idle ahead before after [] rest h = ap waiting h.1 ∙ rest (ap (λ (a : Ahead). a.working) (sym h.0))
leads-idle ahead before after (event ∷ events) rest h = leads-idle h.0 h.1 after events (by_event event h.2 h.3) h.4
  where
    by_working : (b : Bool) → ahead.working ≡ b → (ahead.working ≡ true → waiting before ≡ 0) → waiting before ≡ 0
    by_working true e idle = idle e
    by_working false e idle = rest e

    by_event : (x : Event) → Comes ahead before x h.0 → IsMade before x h.1 → IsAtRest h.0 h.1
    by_event (Uplink packet) c m = λ e. absurd (true_is_not_false (sym (ap (λ (a : Ahead). a.working) c.1.1.2) ∙ e))
    by_event (Clock tag) c m = absurd c
    by_event Work c m = λ e. absurd (true_is_not_false (sym c.1.0 ∙ sym (ap (λ (a : Ahead). a.working) c.1.2) ∙ e))
    by_event (Filing x) c m = λ e. waits-same before x h.1 m.step ∙ rest (sym (ap (λ (a : Ahead). a.working) c.2) ∙ e)
    by_event CloseSlot c m = λ e. closes-same before h.1 m.step ∙ by_working ahead.working refl c.1.0

pub slot-next : (uplinks : List (List ℕ)) (before after : Core) → IsSlot uplinks before after → after.slot_now ≡ before.slot_now + 1
slot-next uplinks before after h = let e = leads-slot (at_start uplinks) at_end before after h.0 h.1 in omega (arith, e)

pub slot-idle : (uplinks : List (List ℕ)) (before after : Core) → IsSlot uplinks before after → waiting before ≡ 0 → waiting after ≡ 0
slot-idle uplinks before after h none = leads-idle (at_start uplinks) before after h.0 (λ e. none) h.1
