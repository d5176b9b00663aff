-- A run has no more moments than its script allows, and no later tags.
use Rattle.std.proofs.Common.{arith, ◌≡◌, ℕ, zero, suc, ◌+◌, ◌*◌, ◌<◌, ◌≤◌, max, refl, sym, ap, subst, ◌∙◌, List, [], ◌∷◌, ◌++◌, length, length-append, Bool, true, false, ◌&&◌, ◌||◌, Option, Some, None, Result, Ok, Err, ◌⊎◌, inl, inr}
use Rattle.std.specs.Prelude.{⊤, slice_get, nat_lt, option_and_then, reverse}
use Rattle.std.specs.List.{AllByRecursion}
use Rattle.std.specs.Option.{option_map_or}
use Rattle.std.specs.Result.{result_ok, result_map_both}
use Rattle.std.proofs.lemmas.Bool.{le-ltb}
use Rattle.hk_base.specs.Fit.{IsFit, greatest_tag}
use Rattle.hk_base.specs.TailoringParts.{TailoringParts}
use Rattle.pus_messages.specs.Instructions.{instructions}
use Rattle.pus_messages.specs.Messages.{protocol, request_of, cause_of_fault}
use Rattle.pus_messages.specs.declared.message.Request.{Request}
use Rattle.pus_messages.specs.declared.message.MessageFault.{MessageFault}
use Rattle.hk_world.specs.Timelines.{Session, instructions_at}
use Rattle.hk_world.specs.declared.moment.Moment.{Moment}
use Rattle.hk_world.proofs.OrderLemmas.{true_is_not_false}
use Rattle.board_steps.specs.Cores.{Core, new_core, last_tag, next_tag}
use Rattle.board_steps.specs.Plans.{prepared, planned}
use Rattle.board_steps.specs.Steps.{is_full, is_late, is_closing}
use Rattle.board_steps.specs.SlotRuns.{Ahead, at_start, at_end, Comes, Leads}
use Rattle.board_steps.specs.declared.event.Event.{Event}
use Rattle.board_steps.specs.declared.event.Event.TheVariants.{Uplink, Clock, Work, Filing, CloseSlot}
use Rattle.board_steps.proofs.GrammarLemmas.{RequestsOnly}
use Rattle.board_scripts.specs.Spelling.{AreSent, IsScript}
use Rattle.board_scripts.specs.declared.script.Script.{Script}
use Rattle.board_scripts.specs.declared.script.Sending.{Sending}
use Rattle.board_runs.specs.Bounds.{instruction_count, most_moments, HasRoom}
use Rattle.board_runs.specs.Requests.{requests_behind, session_with}
use Rattle.board_runs.specs.Runs.{HasRun, HasBegun}
use Rattle.board_runs.specs.Slots.{uplinks, entries_of}
use Rattle.board_runs.proofs.ListLemmas.{onto, onto-reverse, slice_get-last}
use Rattle.std.proofs.Common.{append-nil}
use Rattle.board_runs.proofs.SendLemmas.{line-numbered}
use Rattle.board_runs.proofs.SumLemmas.{sum_below, sum-less}
use Rattle.board_runs.proofs.NameLemmas.{IsRequestOf, IsSentEvent, IsSound, event-sent}
use Rattle.board_runs.proofs.CostLemmas.{left_of, left}
use Rattle.board_runs.proofs.UnfiledLemmas.{unfiled, sensed_count, unfiled-most}
use Rattle.board_runs.proofs.UplinkLemmas.{sent_below, uplinks-requests}
use Rattle.board_runs.proofs.BudgetLemmas.{spent_of, slot_most, IsInBudget, IsInTime, IsSteady, leads-steady, step-budget, clock-within}
use Rattle.board_runs.proofs.WorldLemmas.{HasSteps, all_requests, requests_by, requests-front, lines-below, run-steps, run-moments, begin-slot}

product-suc : (n k : ℕ) → suc n * k ≡ n * k + k
product-suc n k = omega arith

product-less : (a b k : ℕ) → a ≤ b → a * k ≤ b * k
product-less zero b k h = omega arith
product-less (suc a) zero k h = absurd (omega (arith, h))
product-less (suc a) (suc b) k h =
    let l = product-less a b k (omega (arith, h)) in
    let e = product-suc a k in
    let f = product-suc b k in
    omega (arith, l, e, f)

product-within : (n a b : ℕ) → a ≤ b → n * a ≤ n * b
product-within zero a b h = omega arith
product-within (suc n) a b h =
    let l = product-within n a b h in
    let e = product-suc n a in
    let f = product-suc n b in
    omega (arith, l, e, f, h)

-- what requests cost at most, before any of them is handled
abbrev pub total_of : TailoringParts → Bool → List (List ℕ) → ℕ
total_of t known requests = left (session_with t known requests) (length requests) []

-- the instructions in a packet
abbrev pub count_in : TailoringParts → List ℕ → ℕ
count_in t packet = option_map_or (λ (r : Request). length (instructions r)) (result_ok (request_of t packet)) 0

count-is : (t : TailoringParts) (packet : List ℕ) → length (option_map_or instructions (option_and_then (λ p. result_ok ((protocol t).request p)) (Some packet)) []) ≡ count_in t packet
count-is t packet = by (request_of t packet)
  where
    by : (r : Result Request MessageFault) → length (option_map_or instructions (result_ok (result_map_both (λ x. x) cause_of_fault r)) []) ≡ option_map_or (λ (x : Request). length (instructions x)) (result_ok r) 0
    by (Ok r) = refl
    by (Err fault) = refl

slice_get-old : (xs ys : List (List ℕ)) (k : ℕ) → k < length xs → slice_get (xs ++ ys) k ≡ slice_get xs k
slice_get-old [] ys k h = absurd (omega (arith, h))
slice_get-old (x ∷ xs) ys zero h = refl
slice_get-old (x ∷ xs) ys (suc k) h = slice_get-old xs ys k (omega (arith, h))

-- the cost of one more request
total-more : (t : TailoringParts) (known : Bool) (requests : List (List ℕ)) (packet : List ℕ)
    → total_of t known (requests ++ packet ∷ []) ≤ total_of t known requests + (3 + 2 * count_in t packet)
total-more t known requests packet =
    let n : ℕ = length requests in
    let size : length (requests ++ packet ∷ []) ≡ suc n = length-append requests (packet ∷ []) ∙ omega arith in
    let more : Session = session_with t known (requests ++ packet ∷ []) in
    let last : length (instructions_at more n) ≡ count_in t packet =
    ap (λ o. length (option_map_or instructions (option_and_then (λ p. result_ok ((protocol t).request p)) o) [])) (slice_get-last requests packet) ∙ count-is t packet in
    let others = sum-less (left_of (session_with t known requests) []) (left_of more []) n
    (λ k lt. subst (λ i. 3 + 2 * i ≤ 3 + 2 * length (instructions_at (session_with t known requests) k)) (sym (ap length (same k lt))) (omega arith)) in
    subst (λ m. sum_below (left_of more []) m ≤ total_of t known requests + (3 + 2 * count_in t packet)) (sym size) (omega (arith, others, last))
  where
    same : (k : ℕ) → k < length requests → instructions_at (session_with t known (requests ++ packet ∷ [])) k ≡ instructions_at (session_with t known requests) k
    same k lt = ap (λ o. option_map_or instructions (option_and_then (λ p. result_ok ((protocol t).request p)) o) []) (slice_get-old requests (packet ∷ []) k lt)

-- lines cost no more than each its own request
lines-cost : (t : TailoringParts) (known : Bool) (xs earlier : List Sending) → AreSent t earlier xs
    → (total_of t known (requests_behind t (onto xs earlier)) ≤ total_of t known (requests_behind t earlier) + (3 * length xs + 2 * instruction_count t xs))
    × (length (requests_behind t (onto xs earlier)) ≤ length (requests_behind t earlier) + length xs)
lines-cost t known [] earlier h = (omega arith, omega arith)
lines-cost t known (x ∷ xs) earlier h =
    let n = line-numbered t earlier x h.1 in
    let later = lines-cost t known xs (x ∷ earlier) h.2 in
    let one = by (requests_behind t (x ∷ earlier)) n.more n.grown n.fresh in
    let a = later.0 in
    let b = later.1 in
    let c = one.0 in
    let d = one.1 in
    (omega (arith, a, c), omega (arith, b, d))
  where
    by : (after more : List (List ℕ)) → after ≡ requests_behind t earlier ++ more → (more ≡ []) ⊎ (more ≡ x.packet ∷ [])
        → (total_of t known after ≤ total_of t known (requests_behind t earlier) + (3 + 2 * count_in t x.packet)) × (length after ≤ suc (length (requests_behind t earlier)))
    by after more e (inl none) =
        let same : after ≡ requests_behind t earlier = e ∙ (ap (λ ys. requests_behind t earlier ++ ys) none ∙ append-nil (requests_behind t earlier)) in
        subst (λ rs. (total_of t known rs ≤ total_of t known (requests_behind t earlier) + (3 + 2 * count_in t x.packet)) × (length rs ≤ suc (length (requests_behind t earlier)))) (sym same)
        (omega arith, omega arith)
    by after more e (inr one) =
        let same : after ≡ requests_behind t earlier ++ x.packet ∷ [] = e ∙ ap (λ ys. requests_behind t earlier ++ ys) one in
        let cost = total-more t known (requests_behind t earlier) x.packet in
        let size = length-append (requests_behind t earlier) (x.packet ∷ []) in
        subst (λ rs. (total_of t known rs ≤ total_of t known (requests_behind t earlier) + (3 + 2 * count_in t x.packet)) × (length rs ≤ suc (length (requests_behind t earlier)))) (sym same)
        (cost, omega (arith, size))

-- the requests of a script cost no more than its lines
script-cost : (t : TailoringParts) (s : Script) → AreSent t [] s.sendings
    → (total_of t s.known (all_requests t s) ≤ 3 * length s.sendings + 2 * instruction_count t s.sendings) × (length (all_requests t s) ≤ length s.sendings)
script-cost t s sent =
    let turned : onto s.sendings [] ≡ reverse s.sendings = onto-reverse s.sendings [] ∙ append-nil (reverse s.sendings) in
    let c = lines-cost t s.known s.sendings [] sent in
    let P : List Sending → Type 0 = λ xs. (total_of t s.known (requests_behind t xs) ≤ 3 * length s.sendings + 2 * instruction_count t s.sendings) × (length (requests_behind t xs) ≤ length s.sendings) in
    let a = c.0 in
    let b = c.1 in
    subst P turned (omega (arith, a), omega (arith, b))

-- so many moments at most in so many slots
slots-cost : (t : TailoringParts) (s : Script) (n : ℕ) → AreSent t [] s.sendings → n ≤ s.slots
    → n * slot_most t (all_requests t s) + total_of t s.known (all_requests t s) ≤ most_moments t s
slots-cost t s n sent le =
    let cost = script-cost t s sent in
    let a = cost.0 in
    let few : slot_most t (all_requests t s) ≤ length t.params + length t.boots + length s.sendings + 1 = let b = cost.1 in omega (arith, b) in
    let each = product-within n (slot_most t (all_requests t s)) (length t.params + length t.boots + length s.sendings + 1) few in
    let all = product-less n s.slots (length t.params + length t.boots + length s.sendings + 1) le in
    omega (arith, a, each, all)

-- what is known after whole slots
pub record HasSpent (t : TailoringParts) (s : Script) (slots : List (List Moment)) (c : Core) : Type 0 where
  pub spent : spent_of t s.known (all_requests t s) c ≤ length slots * slot_most t (all_requests t s) + total_of t s.known (all_requests t s)
  pub time : IsInTime t c
  pub slot : c.slot_now ≡ length slots

-- the requests that were sent by the slot after some
abbrev pub sent_by : TailoringParts → Script → List (List Moment) → ℕ
sent_by t s slots = length (requests_by t s (suc (length slots)))

-- the total of whole slots
abbrev pub total_by : TailoringParts → Script → List (List Moment) → ℕ
total_by t s slots = length slots * slot_most t (all_requests t s) + total_of t s.known (all_requests t s)

-- how it stands in a slot, after some whole ones
slot-steady : (t : TailoringParts) (s : Script) (slots : List (List Moment)) (before : Core) (events : List Event) (ahead : Ahead) (c : Core) → IsFit t → RequestsOnly t → AreSent t [] s.sendings
    → HasRun t s slots before → HasSpent t s slots before → Leads (at_start (uplinks t s slots)) before events ahead c
    → IsSteady t s.known (all_requests t s) (sent_by t s slots) (total_by t s slots) (length slots) ahead c × AllByRecursion (IsRequestOf t (all_requests t s) (sent_by t s slots)) ahead.packets
slot-steady t s slots before events ahead c fit only sent ran spent led =
    let steps = run-steps t s slots before fit only sent ran in
    let begun = begin-slot t s slots (entries_of t s slots) before sent (run-moments t s slots before ran) steps in
    let n : ℕ = suc (length slots) in
    let front = requests-front t s n sent in
    let up = uplinks-requests t s slots (all_requests t s) front.0 (lines-below t s n sent).0 front.1 in
    let most = unfiled-most before in
    let same : sensed_count before.tailoring ≡ sensed_count t = ap sensed_count steps.sound.tailoring in
    let a = spent.spent in
    leads-steady t s.known (all_requests t s) (sent_by t s slots) (total_by t s slots) (length slots) fit only events (at_start (uplinks t s slots)) before ahead c up
    (record {
      sound = begun.sound;
      budget = record { begun = λ o. omega (arith, a, most, same); ended = λ o. absurd (true_is_not_false o) };
      time = spent.time;
      running = λ o. spent.slot;
      ended = λ o. absurd (true_is_not_false o);
    }) led

pub run-spent : (t : TailoringParts) (s : Script) (slots : List (List Moment)) (c : Core) → IsFit t → RequestsOnly t → AreSent t [] s.sendings → HasRun t s slots c → HasSpent t s slots c
run-spent t s [] c fit only sent h =
    subst (HasSpent t s []) (sym h)
    (record {
      spent = omega arith;
      time = record { clock = omega arith; tags = omega arith };
      slot = refl;
    })
run-spent t s (moments ∷ earlier) c fit only sent h =
    let k = (slot-steady t s earlier h.0 h.2.0 at_end c fit only sent h.1 (run-spent t s earlier h.0 fit only sent h.1) h.2.1).0 in
    let a = k.budget.ended refl in
    let e = product-suc (length earlier) (slot_most t (all_requests t s)) in
    let p = k.ended refl in
    record {
      spent = omega (arith, a, e);
      time = k.time;
      slot = omega (arith, p);
    }

-- a run has no more moments than its script allows
pub run-bounded : (t : TailoringParts) (s : Script) (slots : List (List Moment)) (c : Core) → IsFit t → RequestsOnly t → AreSent t [] s.sendings → length slots ≤ s.slots → HasRun t s slots c
    → length c.moments ≤ most_moments t s
run-bounded t s slots c fit only sent le h =
    let k = (run-spent t s slots c fit only sent h).spent in
    let m = slots-cost t s (length slots) sent le in
    omega (arith, k, m)

-- Nor would the next step of it bring more, or a later tag.
pub record IsNextBounded (t : TailoringParts) (s : Script) (c : Core) (event : Event) : Type 0 where
  pub moments : length c.moments + length (planned c event) ≤ most_moments t s
  pub clock : (prepared c event).clock ≤ s.slots * t.widths.slot
  pub tags : next_tag (prepared c event).clock c.moments + length (planned c event) ≤ s.slots * t.widths.slot + most_moments t s + 1

pub next-bounded : (t : TailoringParts) (s : Script) (slots : List (List Moment)) (moments : List Moment) (ahead : Ahead) (c : Core) (event : Event) (next : Ahead) → IsFit t → RequestsOnly t
    → AreSent t [] s.sendings → length slots < s.slots → HasBegun t s slots moments ahead c → Comes ahead c event next → IsNextBounded t s c event
next-bounded t s slots moments ahead c event next fit only sent lt h comes =
    let r = slot-steady t s slots h.0 h.2.0 ahead c fit only sent h.1 (run-spent t s slots h.0 fit only sent h.1) h.2.1 in
    let k = r.0 in
    let of = event-sent t (all_requests t s) (sent_by t s slots) ahead c event next r.1 comes in
    let few = step-budget t s.known (all_requests t s) (sent_by t s slots) (total_by t s slots) ahead next c event only k.sound of.0 comes k.budget in
    let e = product-suc (length slots) (slot_most t (all_requests t s)) in
    let most = slots-cost t s (suc (length slots)) sent (omega (arith, lt)) in
    let all : length c.moments + length (planned c event) ≤ most_moments t s = omega (arith, few, e, most) in
    let w = clock-within t c event ahead next k.sound.tailoring comes k.time in
    let slot = open-slot ahead c event next comes k.running in
    let a = w.0 in
    let d = w.1 in
    let there : (c.slot_now + 1) * t.widths.slot ≤ s.slots * t.widths.slot = product-less (c.slot_now + 1) s.slots t.widths.slot (omega (arith, slot, lt)) in
    let tags = k.time.tags in
    record {
      moments = all;
      clock = omega (arith, a, there);
      tags = omega (arith, a, d, there, tags, all);
    }
  where
    open-slot : (a : Ahead) (core : Core) (e : Event) (b : Ahead) → Comes a core e b → (a.is_open ≡ true → core.slot_now ≡ length slots) → core.slot_now ≡ length slots
    open-slot a core (Uplink packet) b h r = r h.0
    open-slot a core Work b h r = r h.0
    open-slot a core (Filing x) b h r = r h.0
    open-slot a core CloseSlot b h r = r h.0
    open-slot a core (Clock tag) b h r = absurd h

-- a script that there is room for is never stopped by the journal or by time
pub room-unstopped : (t : TailoringParts) (s : Script) (c : Core) (event : Event) → c.tailoring ≡ t → HasRoom t s → IsNextBounded t s c event → (is_full c event ≡ false) × (is_late c event ≡ false)
room-unstopped t s c event same room b =
    let a = b.moments in
    let d = room.journal in
    let f = room.time in
    let g = b.clock in
    let h = b.tags in
    let greatest : greatest_tag c.tailoring ≡ greatest_tag t = ap greatest_tag same in
    let clock : nat_lt (greatest_tag c.tailoring) (prepared c event).clock ≡ false = le-ltb (greatest_tag c.tailoring) (prepared c event).clock (omega (arith, f, g, greatest)) in
    let tags : nat_lt (greatest_tag c.tailoring + 1) (next_tag (prepared c event).clock c.moments + length (planned c event)) ≡ false =
    le-ltb (greatest_tag c.tailoring + 1) (next_tag (prepared c event).clock c.moments + length (planned c event)) (omega (arith, f, h, greatest)) in (
      le-ltb 1048576 (length c.moments + length (planned c event)) (omega (arith, a, d)),
      by (nat_lt 0 (length (planned c event))) (nat_lt (greatest_tag c.tailoring + 1) (next_tag (prepared c event).clock c.moments + length (planned c event))) (is_closing event)
          (nat_lt (greatest_tag c.tailoring) (prepared c event).clock) tags clock,
    )
  where
    by : (a b d e : Bool) → b ≡ false → e ≡ false → ((a && b) || (d && e)) ≡ false
    by true false true false f g = refl
    by true false false false f g = refl
    by false b true false f g = refl
    by false b false false f g = refl
    by a true d e f g = absurd (true_is_not_false f)
    by a b d true f g = absurd (true_is_not_false g)

-- so the last tag of a run isn't beyond its slots by more than it may have moments
pub run-tags : (t : TailoringParts) (s : Script) (slots : List (List Moment)) (c : Core) → IsFit t → RequestsOnly t → AreSent t [] s.sendings → length slots ≤ s.slots → HasRun t s slots c
    → last_tag c.moments ≤ s.slots * t.widths.slot + most_moments t s
run-tags t s slots c fit only sent le h =
    let k = run-spent t s slots c fit only sent h in
    let few = run-bounded t s slots c fit only sent le h in
    let a = k.time.clock in
    let b = k.time.tags in
    let slot = k.slot in
    let there : c.slot_now * t.widths.slot ≤ s.slots * t.widths.slot = product-less c.slot_now s.slots t.widths.slot (omega (arith, slot, le)) in
    omega (arith, few, a, b, there)

-- the tailoring stays that of the run
pub begun-tailoring : (t : TailoringParts) (s : Script) (slots : List (List Moment)) (moments : List Moment) (ahead : Ahead) (c : Core) → IsFit t → RequestsOnly t → AreSent t [] s.sendings
    → HasBegun t s slots moments ahead c → c.tailoring ≡ t
begun-tailoring t s slots moments ahead c fit only sent h =
    (slot-steady t s slots h.0 h.2.0 ahead c fit only sent h.1 (run-spent t s slots h.0 fit only sent h.1) h.2.1).0.sound.tailoring
