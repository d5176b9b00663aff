-- What a slot adds to the moments that were made and those that requests can still make.
use Rattle.std.proofs.Common.{arith, ◌≡◌, ℕ, zero, suc, ◌+◌, ◌*◌, ◌<◌, ◌≤◌, max, refl, sym, ap, subst, ◌∙◌, List, [], ◌∷◌, ◌++◌, length, map, filter, take, Bool, true, false, Option, Some, None, ◌⊎◌, inl, inr}
use Rattle.std.specs.Prelude.{⊤, IfSome, slice_get, reverse, ◌==◌, if◌then◌else◌}
use Rattle.std.specs.List.{AllByRecursion}
use Rattle.std.specs.Option.{option_map_or}
use Rattle.hk_base.specs.Fit.{IsFit}
use Rattle.hk_base.specs.TailoringParts.{TailoringParts}
use Rattle.hk_base.specs.declared.types.Param.{Param}
use Rattle.hk_base.proofs.Membership.{AllByRecursion-append}
use Rattle.hk_world.specs.Timelines.{Session, request_number, is_act_of, last_act, instructions_at}
use Rattle.hk_world.specs.declared.moment.Moment.{Moment}
use Rattle.hk_world.specs.declared.moment.Act.{Act}
use Rattle.hk_world.specs.declared.moment.Act.TheVariants.{Filed, Emitted}
use Rattle.hk_world.proofs.OrderLemmas.{true_is_not_false, last_act-other}
use Rattle.board_steps.specs.Cores.{Core, session, last_tag, next_tag}
use Rattle.board_steps.specs.Plans.{Plan, Topic, does, tells, handled_as, prepared, end_of_slot, own_filing, settables, tags_left, due_topics, planned, slot_after_event}
use Rattle.board_steps.specs.Steps.{AreNext}
use Rattle.board_steps.specs.Runs.{IsMade}
use Rattle.board_steps.specs.SlotRuns.{Ahead, Comes, Leads}
use Rattle.board_steps.specs.Timeline.{Stands}
use Rattle.board_steps.specs.declared.event.Event.{Event}
use Rattle.board_steps.specs.declared.event.Event.TheVariants.{Uplink, Clock, Work, Filing, CloseSlot}
use Rattle.board_steps.proofs.GrammarLemmas.{RequestsOnly}
use Rattle.board_steps.proofs.RunLemmas.{with_packet, next-length, step-stands}
use Rattle.board_steps.proofs.AddedLemmas.{step-adds}
use Rattle.board_runs.specs.Requests.{number_in, session_with}
use Rattle.board_runs.proofs.ListLemmas.{slice_get-within}
use Rattle.board_runs.proofs.NameLemmas.{IsRequestOf, IsSentEvent, IsSound, event-sent, step-named}
use Rattle.board_runs.proofs.SumLemmas.{sum-less}
use Rattle.board_runs.proofs.CostLemmas.{left_by, left_of, left, IsPaid, uplink-paid, work-paid}
use Rattle.board_runs.proofs.UnfiledLemmas.{unfiled, sensed_count, unfiled-most, unfiled-later, filing-left, filing-unfiled}
use Rattle.board_runs.proofs.CountLemmas.{closing-few, params-parted}

-- where the last act of each request stays, so does what is left
left-same : (s : Session) (count : ℕ) (earlier after : List Moment) → ((k : ℕ) → last_act k after ≡ last_act k earlier) → left s count after ≤ left s count earlier
left-same s count earlier after h = sum-less (left_of s earlier) (left_of s after) count (λ k lt. each k)
  where
    each : (k : ℕ) → left_of s after k ≤ left_of s earlier k
    each k = subst (λ o. left_by (length (instructions_at s k)) o ≤ left_of s earlier k) (sym (h k)) (omega arith)

-- a plan that is of no request
abbrev pub IsQuiet : Plan → Type 0
IsQuiet (does act) = request_number act ≡ None
IsQuiet (tells topic) = ⊤

quiet-last : (s : Session) (clock slot : ℕ) (earlier after : List Moment) (plans : List Plan) → AllByRecursion IsQuiet plans → AreNext s clock slot earlier plans after → (k : ℕ)
    → last_act k after ≡ last_act k earlier
quiet-last s clock slot earlier after [] q h k = ap (last_act k) h
quiet-last s clock slot earlier after (does act ∷ plans) q h k =
    quiet-last s clock slot (h.0 ∷ earlier) after plans q.1 h.2 k
    ∙ last_act-other k h.0 earlier (ap (is_act_of k) h.1.follows.0 ∙ ap (λ o. option_map_or (λ n. n == k) o false) q.0)
quiet-last s clock slot earlier after (tells topic ∷ plans) q h k =
    quiet-last s clock slot (h.0 ∷ earlier) after plans q.1 h.2 k ∙ last_act-other k h.0 earlier (ap (is_act_of k) h.1.follows.0)

filings-quiet : (c : Core) (params : List Param) → AllByRecursion IsQuiet (map (λ p. does (own_filing c p)) params)
filings-quiet c [] = tt
filings-quiet c (p ∷ params) = (refl, filings-quiet c params)

topics-quiet : (topics : List Topic) → AllByRecursion IsQuiet (map tells topics)
topics-quiet [] = tt
topics-quiet (topic ∷ topics) = (tt, topics-quiet topics)

-- the moments that were made, and those that requests can still make
abbrev pub spent_of : TailoringParts → Bool → List (List ℕ) → Core → ℕ
spent_of t known requests c = length c.moments + left (session_with t known requests) (length requests) c.moments

-- what a slot adds at most
abbrev pub slot_most : TailoringParts → List (List ℕ) → ℕ
slot_most t requests = length t.params + (length t.boots + length requests + 1)

-- an event that may come doesn't take more than there is
record IsCheap (t : TailoringParts) (known : Bool) (requests : List (List ℕ)) (before : Core) (event : Event) : Type 0 where
  pub enough : length before.moments + length (planned before event) ≤ spent_of t known requests before + unfiled before
  pub after : (after : Core) → IsMade before event after → spent_of t known requests after + unfiled after ≤ spent_of t known requests before + unfiled before

-- an event that isn't the end of a slot
abbrev pub IsInside : Event → Type 0
IsInside CloseSlot = ⊥
IsInside (Clock tag) = ⊥
IsInside _ = ⊤

cheap : (t : TailoringParts) (known : Bool) (requests : List (List ℕ)) (n : ℕ) (before : Core) (event : Event) (ahead next : Ahead) → RequestsOnly t → IsSound t requests n before
    → IsSentEvent t requests n event → Comes ahead before event next → IsInside event → IsCheap t known requests before event
cheap t known requests n before (Uplink packet) ahead next only k sent comes inside =
    let s : Session = session_with t known requests in
    let within = slice_get-within requests (number_in t packet) packet sent.1 in
    let paid = uplink-paid s (length requests) before packet (handled_as before packet) refl k.stands.good.below (subst (λ x. number_in x packet < length requests) (sym k.tailoring) within) in
    record {
      enough = let e = paid.enough in omega (arith, e);
      after = λ after made.
          let a = step-adds before (Uplink packet) after made.step in
          let l = paid.after after.moments made.step.moments in
          let u = unfiled-later before after (reverse a.0) a.1.moments a.1.slot_now a.1.tailoring in
          let p = prepared before (Uplink packet) in
          let size = next-length (session p) p.clock before.slot_now before.moments after.moments (planned before (Uplink packet)) made.step.moments in
          omega (arith, l, u, size);
    }
cheap t known requests n before Work ahead next only k sent comes inside =
    let paid = work-paid t known requests n before k.tailoring only k.stands k.named in
    record {
      enough = let e = paid.enough in omega (arith, e);
      after = λ after made.
          let a = step-adds before Work after made.step in
          let l = paid.after after.moments made.step.moments in
          let u = unfiled-later before after (reverse a.0) a.1.moments a.1.slot_now a.1.tailoring in
          let size = next-length (session before) before.clock before.slot_now before.moments after.moments (planned before Work) made.step.moments in
          omega (arith, l, u, size);
    }
cheap t known requests n before (Filing x) ahead next only k sent comes inside =
    let one = filing-left before x comes.1 in
    record {
      enough = omega (arith, one);
      after = λ after made.
          let u = filing-unfiled before x after made in
          let size = next-length (session before) before.clock before.slot_now before.moments after.moments (planned before (Filing x)) made.step.moments in
          let l = left-same (session_with t known requests) (length requests) before.moments after.moments
          (quiet-last (session before) before.clock before.slot_now before.moments after.moments (planned before (Filing x)) (refl, tt) made.step.moments) in
          omega (arith, u, size, l);
    }
cheap t known requests n before CloseSlot ahead next only k sent comes inside = absurd inside
cheap t known requests n before (Clock tag) ahead next only k sent comes inside = absurd inside

-- the end of a slot adds so many at most
close-few : (t : TailoringParts) (requests : List (List ℕ)) (n : ℕ) (before : Core) → IsSound t requests n before
    → length (planned before CloseSlot) ≤ length (settables t) + (length t.boots + length requests + 1)
close-few t requests n before k = closing-few t requests n (prepared before CloseSlot) k.tailoring k.named

close-cheap : (t : TailoringParts) (known : Bool) (requests : List (List ℕ)) (n : ℕ) (before after : Core) → IsSound t requests n before → IsMade before CloseSlot after
    → spent_of t known requests after ≤ spent_of t known requests before + (length (settables t) + (length t.boots + length requests + 1))
close-cheap t known requests n before after k made =
    let p = prepared before CloseSlot in
    let few = close-few t requests n before k in
    let size = next-length (session p) p.clock before.slot_now before.moments after.moments (planned before CloseSlot) made.step.moments in
    let quiet = AllByRecursion-append IsQuiet (map (λ q. does (own_filing p q)) (settables p.tailoring)) (map tells (take (tags_left p) (due_topics p)))
    (filings-quiet p (settables p.tailoring)) (topics-quiet (take (tags_left p) (due_topics p))) in
    let l = left-same (session_with t known requests) (length requests) before.moments after.moments
    (quiet-last (session p) p.clock before.slot_now before.moments after.moments (planned before CloseSlot) quiet made.step.moments) in
    omega (arith, few, size, l)

-- what is there of the moments of some whole slots, and of the one that runs
pub record IsInBudget (t : TailoringParts) (known : Bool) (requests : List (List ℕ)) (total : ℕ) (ahead : Ahead) (c : Core) : Type 0 where
  pub begun : ahead.is_open ≡ true → spent_of t known requests c + unfiled c ≤ total + sensed_count t
  pub ended : ahead.is_open ≡ false → spent_of t known requests c ≤ total + slot_most t requests

parted : (t : TailoringParts) → length (settables t) + sensed_count t ≡ length t.params
parted t = params-parted t.params

next-budget : (t : TailoringParts) (known : Bool) (requests : List (List ℕ)) (n total : ℕ) (ahead next : Ahead) (before after : Core) (event : Event) → RequestsOnly t → IsSound t requests n before
    → IsSentEvent t requests n event → Comes ahead before event next → IsMade before event after → IsInBudget t known requests total ahead before → IsInBudget t known requests total next after
next-budget t known requests n total ahead next before after (Uplink packet) only k sent comes made b =
    let a = (cheap t known requests n before (Uplink packet) ahead next only k sent comes tt).after after made in
    let w = b.begun comes.0 in
    record {
      begun = λ o. omega (arith, a, w);
      ended = λ o. absurd (true_is_not_false (sym (ap (λ (x : Ahead). x.is_open) comes.1.1.2) ∙ o));
    }
next-budget t known requests n total ahead next before after Work only k sent comes made b =
    let a = (cheap t known requests n before Work ahead next only k sent comes tt).after after made in
    let w = b.begun comes.0 in
    record {
      begun = λ o. omega (arith, a, w);
      ended = λ o. absurd (true_is_not_false (sym (ap (λ (x : Ahead). x.is_open) comes.1.2 ∙ comes.0) ∙ o));
    }
next-budget t known requests n total ahead next before after (Filing x) only k sent comes made b =
    let a = (cheap t known requests n before (Filing x) ahead next only k sent comes tt).after after made in
    let w = b.begun comes.0 in
    record {
      begun = λ o. omega (arith, a, w);
      ended = λ o. absurd (true_is_not_false (sym (ap (λ (y : Ahead). y.is_open) comes.2 ∙ comes.0) ∙ o));
    }
next-budget t known requests n total ahead next before after CloseSlot only k sent comes made b =
    let a = close-cheap t known requests n before after k made in
    let w = b.begun comes.0 in
    let p = parted t in
    record {
      begun = λ o. absurd (true_is_not_false (sym o ∙ ap (λ (x : Ahead). x.is_open) comes.1.2));
      ended = λ o. omega (arith, a, w, p);
    }
next-budget t known requests n total ahead next before after (Clock tag) only k sent comes made b = absurd comes

-- the next step, made or not, is within what a slot adds
pub step-budget : (t : TailoringParts) (known : Bool) (requests : List (List ℕ)) (n total : ℕ) (ahead next : Ahead) (c : Core) (event : Event) → RequestsOnly t → IsSound t requests n c
    → IsSentEvent t requests n event → Comes ahead c event next → IsInBudget t known requests total ahead c → length c.moments + length (planned c event) ≤ total + slot_most t requests
step-budget t known requests n total ahead next c (Uplink packet) only k sent comes b =
    let e = (cheap t known requests n c (Uplink packet) ahead next only k sent comes tt).enough in
    let w = b.begun comes.0 in
    let p = parted t in
    omega (arith, e, w, p)
step-budget t known requests n total ahead next c Work only k sent comes b =
    let e = (cheap t known requests n c Work ahead next only k sent comes tt).enough in
    let w = b.begun comes.0 in
    let p = parted t in
    omega (arith, e, w, p)
step-budget t known requests n total ahead next c (Filing x) only k sent comes b =
    let e = (cheap t known requests n c (Filing x) ahead next only k sent comes tt).enough in
    let w = b.begun comes.0 in
    let p = parted t in
    omega (arith, e, w, p)
step-budget t known requests n total ahead next c CloseSlot only k sent comes b =
    let few = close-few t requests n c k in
    let w = b.begun comes.0 in
    let p = parted t in
    omega (arith, few, w, p)
step-budget t known requests n total ahead next c (Clock tag) only k sent comes b = absurd comes

-- The clock is at the start of the slot that runs or before, and the last tag isn't further on than there are moments.
pub record IsInTime (t : TailoringParts) (c : Core) : Type 0 where
  pub clock : c.clock ≤ c.slot_now * t.widths.slot
  pub tags : last_tag c.moments ≤ c.clock + length c.moments

next-tags : (s : Session) (clock slot : ℕ) (earlier after : List Moment) (plans : List Plan) → AreNext s clock slot earlier plans after → last_tag earlier ≤ clock + length earlier
    → last_tag after ≤ clock + length after
next-tags s clock slot earlier after [] h b = subst (λ ms. last_tag ms ≤ clock + length ms) (sym h) b
next-tags s clock slot earlier after (plan ∷ plans) h b =
    let e = h.1.tag in
    next-tags s clock slot (h.0 ∷ earlier) after plans h.2 (omega (arith, e, b))

product-more : (n k : ℕ) → (n + 1) * k ≡ n * k + k
product-more n k = omega arith

-- the clock that an event finds
pub clock-within : (t : TailoringParts) (c : Core) (event : Event) (ahead next : Ahead) → c.tailoring ≡ t → Comes ahead c event next → IsInTime t c
    → ((prepared c event).clock ≤ (c.slot_now + 1) * t.widths.slot) × (c.clock ≤ (prepared c event).clock)
clock-within t c (Uplink packet) ahead next same comes b =
    let e = packet-clock c packet (handled_as c packet) in
    let w = b.clock in
    let p = product-more c.slot_now t.widths.slot in
    (omega (arith, e, w, p), omega (arith, e))
  where
    packet-clock : (c : Core) (packet : List ℕ) (o : Option ℕ) → (with_packet c packet o).clock ≡ c.clock
    packet-clock c packet None = refl
    packet-clock c packet (Some k) = refl
clock-within t c Work ahead next same comes b = let w = b.clock in let p = product-more c.slot_now t.widths.slot in (omega (arith, w, p), omega arith)
clock-within t c (Filing x) ahead next same comes b = let w = b.clock in let p = product-more c.slot_now t.widths.slot in (omega (arith, w, p), omega arith)
clock-within t c CloseSlot ahead next same comes b =
    let w = b.clock in
    let p = product-more c.slot_now t.widths.slot in
    let e : end_of_slot c ≡ (c.slot_now + 1) * t.widths.slot = ap (λ (x : TailoringParts). (c.slot_now + 1) * x.widths.slot) same in
    (omega (arith, w, p, e), omega arith)
clock-within t c (Clock tag) ahead next same comes b = absurd comes

next-time : (t : TailoringParts) (ahead next : Ahead) (before after : Core) (event : Event) → before.tailoring ≡ t → Comes ahead before event next → IsMade before event after → IsInTime t before → IsInTime t after
next-time t ahead next before after event same comes made b =
    let p = prepared before event in
    let c = clock-within t before event ahead next same comes b in
    let early = c.1 in
    let was = b.tags in
    let tags = next-tags (session p) p.clock before.slot_now before.moments after.moments (planned before event) made.step.moments (omega (arith, early, was)) in
    record {
      clock = subst (λ n. after.clock ≤ n * t.widths.slot) (sym made.step.slot_now) (subst (λ n. n ≤ slot_after_event before event * t.widths.slot) (sym made.step.clock) (by event comes));
      tags = subst (λ n. last_tag after.moments ≤ n + length after.moments) (sym made.step.clock) tags;
    }
  where
    packet-clock : (packet : List ℕ) (o : Option ℕ) → (with_packet before packet o).clock ≡ before.clock
    packet-clock packet None = refl
    packet-clock packet (Some k) = refl

    by : (e : Event) → Comes ahead before e next → (prepared before e).clock ≤ slot_after_event before e * t.widths.slot
    by (Uplink packet) h = let w = b.clock in let e = packet-clock packet (handled_as before packet) in omega (arith, w, e)
    by Work h = b.clock
    by (Filing x) h = b.clock
    by CloseSlot h = (clock-within t before CloseSlot ahead next same h b).0
    by (Clock tag) h = absurd h

-- what is known of a core in a slot
pub record IsSteady (t : TailoringParts) (known : Bool) (requests : List (List ℕ)) (n total slots : ℕ) (ahead : Ahead) (c : Core) : Type 0 where
  pub sound : IsSound t requests n c
  pub budget : IsInBudget t known requests total ahead c
  pub time : IsInTime t c
  pub running : ahead.is_open ≡ true → c.slot_now ≡ slots
  pub ended : ahead.is_open ≡ false → c.slot_now ≡ slots + 1

next-slot : (ahead next : Ahead) (before after : Core) (event : Event) (slots : ℕ) → Comes ahead before event next → IsMade before event after → (ahead.is_open ≡ true → before.slot_now ≡ slots)
    → (next.is_open ≡ true → after.slot_now ≡ slots) × (next.is_open ≡ false → after.slot_now ≡ slots + 1)
next-slot ahead next before after (Uplink packet) slots comes made h =
    (λ o. made.step.slot_now ∙ h comes.0, λ o. absurd (true_is_not_false (sym (ap (λ (x : Ahead). x.is_open) comes.1.1.2) ∙ o)))
next-slot ahead next before after Work slots comes made h =
    (λ o. made.step.slot_now ∙ h comes.0, λ o. absurd (true_is_not_false (sym (ap (λ (x : Ahead). x.is_open) comes.1.2 ∙ comes.0) ∙ o)))
next-slot ahead next before after (Filing x) slots comes made h =
    (λ o. made.step.slot_now ∙ h comes.0, λ o. absurd (true_is_not_false (sym (ap (λ (y : Ahead). y.is_open) comes.2 ∙ comes.0) ∙ o)))
next-slot ahead next before after CloseSlot slots comes made h =
    (λ o. absurd (true_is_not_false (sym o ∙ ap (λ (x : Ahead). x.is_open) comes.1.2)), λ o. made.step.slot_now ∙ ap (λ n. n + 1) (h comes.0))
next-slot ahead next before after (Clock tag) slots comes made h = absurd comes

-- so it is after each event of a slot whose uplinks were sent, and what is still ahead was sent too
pub leads-steady : (t : TailoringParts) (known : Bool) (requests : List (List ℕ)) (n total slots : ℕ) → IsFit t → RequestsOnly t → (events : List Event) (ahead : Ahead) (before : Core) (next : Ahead) (after : Core)
    → AllByRecursion (IsRequestOf t requests n) ahead.packets → IsSteady t known requests n total slots ahead before → Leads ahead before events next after
    → IsSteady t known requests n total slots next after × AllByRecursion (IsRequestOf t requests n) next.packets
leads-steady t known requests n total slots fit only [] ahead before next after all k h =
    let P : Ahead → Core → Type 0 = λ a c. IsSteady t known requests n total slots a c × AllByRecursion (IsRequestOf t requests n) a.packets in
    subst (λ a. P a after) (sym h.0) (subst (P ahead) (sym h.1) (k, all))
leads-steady t known requests n total slots fit only (event ∷ events) ahead before next after all k h =
    let sent = event-sent t requests n ahead before event h.0 all h.2 in
    let same = sym k.sound.tailoring in
    let place = next-slot ahead h.0 before h.1 event slots h.2 h.3 k.running in
    leads-steady t known requests n total slots fit only events h.0 h.1 next after sent.1
    (record {
      sound = record {
        tailoring = h.3.step.tailoring ∙ k.sound.tailoring;
        stands = step-stands before event h.1 (subst IsFit same fit) (subst RequestsOnly same only) k.sound.stands h.3;
        named = step-named before event h.1 requests n k.sound.stands (subst (λ x. IsSentEvent x requests n event) same sent.0) k.sound.named h.3;
      };
      budget = next-budget t known requests n total ahead h.0 before h.1 event only k.sound sent.0 h.2 h.3 k.budget;
      time = next-time t ahead h.0 before h.1 event k.sound.tailoring h.2 h.3 k.time;
      running = place.0;
      ended = place.1;
    }) h.4
