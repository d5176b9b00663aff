-- What a packet that was kept, or a request that was sent, leaves as it was.
use Rattle.std.proofs.Common.{arith, ◌≡◌, ℕ, zero, suc, ◌+◌, ◌<◌, ◌≤◌, refl, sym, ◌∙◌, ap, subst, List, [], ◌∷◌, ◌++◌, map, max, min, Bool, true, false, length, inl, inr, ◌⊎◌, Option, Some, None, cond, nat_lt}
use Rattle.std.specs.Prelude.{filter, find, slice_get, nat_le, bytes_eq, ◌&&◌, ◌||◌, ◌==◌, IfSome, IsSomeAnd, if◌then◌else◌}
use Rattle.std.specs.Option.{option_map_or}
use Rattle.std.proofs.lemmas.Bool.{le-leb, leb-true, leb-false, lt-leb, ltb-true, lt-ltb, both_ways}
use Rattle.std.proofs.lemmas.Bool.Decides.{nat_tests}
use Rattle.hk_base.specs.declared.types.Key.{Key}
use Rattle.hk_base.proofs.Membership.{some_value}
use Rattle.st01_reports.specs.declared.verification.Verification.{Verification}
use Rattle.st01_reports.specs.declared.verification.Verification.TheVariants as verification
use Rattle.pus_messages.specs.declared.message.ReportBody.{ReportBody}
use Rattle.pus_messages.specs.declared.message.ReportBody.TheVariants.{Verify}
use Rattle.pus_messages.specs.declared.message.ReportBody.TheVariants as tell
use Rattle.pus_messages.specs.Protocol.{Reception, foreign, skipped, unread, readable}
use Rattle.st03_grammar.specs.declared.bodies.Report03.TheVariants as hk
use Rattle.ground_history.specs.declared.answer.GotKind.TheVariants as became
use Rattle.pus_messages.specs.Instructions.{instructions}
use Rattle.ground_history.specs.Histories.{Sent, Kept, History, tag_of, greatest, insert_kept, kind_by_tag, kind_by_reception, kept_at, stray_id, number_of_body, history_with_got, history_with_report}
use Rattle.ground_history.specs.Evidence.{verifies, comes_before, comes_after, is_acceptance, is_start, is_completion, low, high, floor, has_report, is_alone, shows_accepted, shows_barred, shows_refused, shows_executed}
use Rattle.ground_history.specs.Ground.{Ground, IsGrounded, with_history, tells_structure}
use Rattle.ground_history.specs.Indexes.{place_before, place_after}
use Rattle.ground_history.specs.Rising.{BoundsRise}
use Rattle.ground_history.specs.declared.answer.Outcome.TheVariants.{Done, Refused, Unknown}
use Rattle.ground_history.proofs.KeptLemmas.{tags, greatest-insert_kept}
use Rattle.ground_history.proofs.SayLemmas.{lower, tag_if, least-step, least-insert_kept, any-insert_kept, IsReport, verifies-is, comes-before-is, comes-after-is, IsOther, other-passes, or-false, nothing}
use Rattle.definition_intervals.specs.Openings.{reported_structure}
use Rattle.entry_changes.specs.Changes.{IsBelow, AreSameBelow, IsLastBefore, is_under, with_packet}
use Rattle.entry_changes.proofs.SameLemmas.{IsSame, IsSameTo, with_request, IsUnseen, same-kept, same-sent}

-- ---- what is known of a request after one more kept packet

low-same : (h : History) (n : Kept) (k : ℕ) → comes_before k n ≡ false → low (with_packet h n) k ≡ low h k
low-same h n k e = ap (λ m. max (floor h k) m) (greatest-insert_kept (comes_before k) n h.kept ∙ unpassed (comes_before k n) e)
  where
    unpassed : (b : Bool) → b ≡ false → greatest (map tag_of (cond b (n ∷ filter (comes_before k) h.kept) (filter (comes_before k) h.kept))) ≡ greatest (tags (comes_before k) h.kept)
    unpassed true e = absurd (both_ways true e refl)
    unpassed false e = refl

low-raised : (h : History) (n : Kept) (k : ℕ) → low h k ≤ low (with_packet h n) k
low-raised h n k =
    let more = greatest-insert_kept (comes_before k) n h.kept in
    let grown = go (comes_before k n) in
    subst (λ m. low h k ≤ max (floor h k) m) (sym more) (omega (arith, grown))
  where
    go : (b : Bool) → greatest (tags (comes_before k) h.kept) ≤ greatest (map tag_of (cond b (n ∷ filter (comes_before k) h.kept) (filter (comes_before k) h.kept)))
    go true = omega arith
    go false = omega arith

high-step : (h : History) (n : Kept) (k : ℕ) → high (with_packet h n) k ≡ lower (tag_if (comes_after k n) n) (high h k)
high-step h n k = least-insert_kept (comes_after k) n h.kept ∙ least-step (comes_after k) n h.kept

high-same : (h : History) (n : Kept) (k : ℕ) → comes_after k n ≡ false → high (with_packet h n) k ≡ high h k
high-same h n k e = high-step h n k ∙ ap (λ b. lower (tag_if b n) (high h k)) e

-- an upper bound below the packet's tag was there before
high-below : (h : History) (n : Kept) (k top : ℕ) → high (with_packet h n) k ≡ Some top → top < tag_of n → high (with_packet h n) k ≡ high h k
high-below h n k top e lt = go (comes_after k n) refl
  where
    was : (o : Option ℕ) → lower (Some (tag_of n)) o ≡ Some top → lower (Some (tag_of n)) o ≡ o
    was None p = let no : tag_of n ≡ top = (let same : Some (tag_of n) ≡ Some top → tag_of n ≡ top = λ e. cc in same p) in absurd (omega (arith, lt, no))
    was (Some m) p =
        let same : min (tag_of n) m ≡ top = (let inside : Some (min (tag_of n) m) ≡ Some top → min (tag_of n) m ≡ top = λ e. cc in inside p) in
        let least_ : min (tag_of n) m ≡ m = omega (arith, lt, same) in
        ap (λ x. Some x) least_

    go : (b : Bool) → comes_after k n ≡ b → high (with_packet h n) k ≡ high h k
    go false p = high-same h n k p
    go true p = let step = high-step h n k ∙ ap (λ b. lower (tag_if b n) (high h k)) p in step ∙ was (high h k) (sym step ∙ e)

report-same : (test : Verification → Bool) (h : History) (n : Kept) (k : ℕ) → verifies test (λ j. j == k) n ≡ false → has_report test (with_packet h n) k ≡ has_report test h k
report-same test h n k e = any-insert_kept (verifies test (λ j. j == k)) n h.kept ∙ or-false (verifies test (λ j. j == k) n) (has_report test h k) e

untouched : (h : History) (n : Kept) (k : ℕ) → comes_before k n ≡ false → high (with_packet h n) k ≡ high h k → ((test : Verification → Bool) → verifies test (λ j. j == k) n ≡ false)
    → IsSame h (with_packet h n) k
untouched h n k before top none =
    record {
      low = low-same h n k before;
      high = top;
      accepted = report-same shows_accepted h n k (none shows_accepted);
      barred = report-same shows_barred h n k (none shows_barred);
      outcome = λ number.
          ap (λ (b : Bool). if b then Refused else if has_report (shows_executed (is_alone h k) number) (with_packet h n) k then Done else Unknown)
          (report-same (shows_refused number) h n k (none (shows_refused number)))
          ∙ ap (λ (b : Bool). if has_report (shows_refused number) h k then Refused else if b then Done else Unknown)
          (report-same (shows_executed (is_alone h k) number) h n k (none (shows_executed (is_alone h k) number)));
    }

-- ---- a packet that is no verification report

no-verification : (n : Kept) → IsOther n.report.body → (test : Verification → Bool) (numbers : ℕ → Bool) → verifies test numbers n ≡ false
no-verification n o test numbers = ap (λ b. option_map_or numbers n.number false && b) (other-passes n.report.body o test) ∙ nothing (option_map_or numbers n.number false)

none-of : (a b c : Bool) → a ≡ false → b ≡ false → c ≡ false → ((a || b) || c) ≡ false
none-of a b c ea eb ec = rw (ea, eb, ec) refl

other-same : (h : History) (n : Kept) → IsOther n.report.body → (k : ℕ) → IsSame h (with_packet h n) k
other-same h n o k =
    untouched h n k
    (none-of _ _ _ (no-verification n o is_acceptance (λ j. nat_le j k)) (no-verification n o is_start (λ j. nat_le j k)) (no-verification n o is_completion (λ j. nat_lt j k)))
    (high-same h n k (let a = no-verification n o is_completion (λ j. nat_le k j) in let b = no-verification n o is_start (λ j. nat_lt k j) in or-false _ _ a ∙ b))
    (λ test. no-verification n o test (λ j. j == k))

pub kept-other : (from : Option ℕ) (g : Ground) (n : Kept) → IsOther n.report.body → ((key : Key) (tag : ℕ) → IsBelow tag from → IsUnseen key tag n)
    → AreSameBelow from g (with_history g (with_packet g.history n))
kept-other from g n o unseen = same-kept from g n (λ k l. inl (other-same g.history n o k)) unseen

-- ---- a verification report

place-before : (j k : ℕ) (v : Verification) → k < j → option_map_or (λ p. nat_le p k) (place_before j v) false ≡ false
place-before j k (verification.Accepted id) lt = lt-leb j k lt
place-before j k (verification.Refused id cause) lt = lt-leb j k lt
place-before j k (verification.Started id) lt = lt-leb j k lt
place-before j k (verification.NotStarted id cause) lt = lt-leb j k lt
place-before j k (verification.Completed id) lt = lt-leb (j + 1) k (omega (arith, lt))
place-before j k (verification.Incomplete id code steps) lt = lt-leb (j + 1) k (omega (arith, lt))
place-before j k (verification.Step id step) lt = refl
place-before j k (verification.StepFailed id step cause) lt = refl
place-before j k (verification.NotRouted id cause) lt = refl

other-number : (j k : ℕ) → k < j → (j == k) ≡ false
other-number j k lt = grind (arith, nat_tests, lt)

-- requests before the first that a verification report can touch
abbrev pub IsBefore : History → ℕ → Verification → ℕ → ℕ → Type 0
IsBefore later j v tag k = IsLastBefore later j v tag k

earlier-same : (h : History) (n : Kept) (j : ℕ) (v : Verification) → IsReport n (tag_of n) j v → (k : ℕ) → IsBefore (with_packet h n) j v (tag_of n) k → IsSame h (with_packet h n) k
earlier-same h n j v is k before =
    untouched h n k (comes-before-is n (tag_of n) j k v is ∙ place-before j k v before.earlier) (top before.ended)
    (λ test. verifies-is n (tag_of n) j v is test (λ i. i == k) ∙ ap (λ b. b && test v) (other-number j k before.earlier))
  where
    below : (o : Option ℕ) → high (with_packet h n) k ≡ o → is_under o (tag_of n) ≡ true → high (with_packet h n) k ≡ high h k
    below None e s = absurd (both_ways false refl s)
    below (Some top) e s = high-below h n k top e (ltb-true top (tag_of n) s)

    top : (place_after j v ≡ None) ⊎ (is_under (high (with_packet h n) k) (tag_of n) ≡ true) → high (with_packet h n) k ≡ high h k
    top (inl e) = high-same h n k (comes-after-is n (tag_of n) j k v is ∙ ap (λ o. option_map_or (λ p. nat_le k p) o false) e)
    top (inr s) = below (high (with_packet h n) k) refl s

either-side : (k m : ℕ) → (k ≤ m) ⊎ (m < k)
either-side k m = go (nat_le k m) refl
  where
    go : (b : Bool) → nat_le k m ≡ b → (k ≤ m) ⊎ (m < k)
    go true e = inl (leb-true k m e)
    go false e = inr (leb-false k m e)

lower-ended : (a b : Option ℕ) (tag : ℕ) → IfSome b (λ top. IsSomeAnd a (λ t. t ≤ top)) → is_under b tag ≡ true → is_under a tag ≡ true
lower-ended a None tag rise s = absurd (both_ways false refl s)
lower-ended None (Some top) tag rise s = absurd rise
lower-ended (Some t) (Some top) tag rise s = let lt = ltb-true top tag s in lt-ltb t tag (omega (arith, rise, lt))

ended-before : BoundsRise → (later : Ground) → IsGrounded later → (j : ℕ) (v : Verification) (tag m k : ℕ) → IsLastBefore later.history j v tag m → m < length later.history.requests → k ≤ m
    → IsBefore later.history j v tag k
ended-before law later grounded j v tag m k last sent le = let first = last.earlier in record { earlier = omega (arith, first, le); ended = go last.ended }
  where
    go : (place_after j v ≡ None) ⊎ (is_under (high later.history m) tag ≡ true) → (place_after j v ≡ None) ⊎ (is_under (high later.history k) tag ≡ true)
    go (inl e) = inl e
    go (inr s) = inr (lower-ended (high later.history k) (high later.history m) tag (law later k m grounded le sent).high s)

left-most : (a b : ℕ) → a ≤ max a b
left-most a b = omega arith

-- A verification report changes nothing for reports up to the lower bound of the last request before the first that it touches, nor up to
-- the greatest tag that was kept before that one was sent.
pub kept-verification : BoundsRise → (g : Ground) (n : Kept) (j : ℕ) (v : Verification) (from m : ℕ) → IsGrounded g → IsGrounded (with_history g (with_packet g.history n))
    → IsReport n (tag_of n) j v → j < length g.history.requests → IsLastBefore (with_packet g.history n) j v (tag_of n) m → from ≤ max (low (with_packet g.history n) m) (floor g.history (m + 1)) + 1
    → AreSameBelow (Some from) g (with_history g (with_packet g.history n))
kept-verification law g n j v from m grounded later_grounded is sent last limit = same-kept (Some from) g n same unseen
  where
    h : History
    h = g.history

    later : History
    later = with_packet h n

    within : m < length h.requests
    within = let first = last.earlier in omega (arith, first, sent)

    before : (k : ℕ) → k ≤ m → IsSame h later k
    before k le = earlier-same h n j v is k (ended-before law (with_history g later) later_grounded j v (tag_of n) m k last within le)

    -- no report up to the bound comes after a request behind the last one
    hidden : (tag : ℕ) → tag < from → (k : ℕ) → m < k → k < length h.requests → (tag ≤ low h k) × (tag ≤ low later k)
    hidden tag below k lt l =
        let at : low later m ≡ low h m = (before m (omega arith)).low in
        let old : low h m ≤ low h k = (law g m k grounded (omega (arith, lt)) l).low in
        let new : low later m ≤ low later k = (law (with_history g later) m k later_grounded (omega (arith, lt)) l).low in
        let sent_old : low h (m + 1) ≤ low h k = (law g (m + 1) k grounded (omega (arith, lt)) l).low in
        let sent_new : low later (m + 1) ≤ low later k = (law (with_history g later) (m + 1) k later_grounded (omega (arith, lt)) l).low in
        let first_old : floor h (m + 1) ≤ low h (m + 1) = left-most (floor h (m + 1)) (greatest (tags (comes_before (m + 1)) h.kept)) in
        let first_new : floor h (m + 1) ≤ low later (m + 1) = left-most (floor h (m + 1)) (greatest (tags (comes_before (m + 1)) later.kept)) in
        let most : from ≤ max (low later m) (floor h (m + 1)) + 1 = limit in
        (omega (arith, below, most, at, old, sent_old, first_old), omega (arith, below, most, at, old, new, sent_new, first_new))

    same : (k : ℕ) → k < length h.requests → IsSameTo (Some from) h later k
    same k l = go (either-side k m)
      where
        go : (k ≤ m) ⊎ (m < k) → IsSameTo (Some from) h later k
        go (inl le) = inl (before k le)
        go (inr lt) = inr (λ tag below. hidden tag below k lt l)

    unseen : (key : Key) (tag : ℕ) → IsBelow tag (Some from) → IsUnseen key tag n
    unseen key tag below = inl (ap (λ body. reported_structure key body) is.body)

-- where it touches the first request, it changes nothing for reports with tag 0
pub kept-first : (g : Ground) (n : Kept) (from : ℕ) → from ≤ 1 → ((key : Key) → reported_structure key n.report.body ≡ None) → AreSameBelow (Some from) g (with_history g (with_packet g.history n))
kept-first g n from limit untold =
    same-kept (Some from) g n (λ k l. inr (λ tag below. (omega (arith, below, limit), omega (arith, below, limit)))) (λ key tag below. inl (untold key))

-- ---- a request that was sent

sent-at : {X : Type 0} (xs : List X) (x : X) (k : ℕ) → k < length xs → slice_get (xs ++ x ∷ []) k ≡ slice_get xs k
sent-at [] x k l = absurd (omega (arith, l))
sent-at (y ∷ xs) x zero l = refl
sent-at (y ∷ xs) x (suc k) l = sent-at xs x k (omega (arith, l))

pub sent-same : (h : History) (r : Sent) (k : ℕ) → k < length h.requests → IsSame h (with_request h r) k
sent-same h r k l =
    let at = sent-at h.requests r k l in
    record {
      low = ap (λ (o : Option Sent). max (option_map_or (λ s. s.floor) o 0) (greatest (tags (comes_before k) h.kept))) at;
      high = refl;
      accepted = refl;
      barred = refl;
      outcome = λ number.
          ap (λ (o : Option Sent).
          if has_report (shows_refused number) h k then Refused
          else if has_report (shows_executed (option_map_or (λ s. option_map_or (λ q. length (instructions q) == 1) s.request false) o false) number) h k then Done else Unknown) at;
    }

pub request-sent : (g : Ground) (r : Sent) (from : ℕ) → from ≤ low (with_request g.history r) (length g.history.requests) + 1 → AreSameBelow (Some from) g (with_history g (with_request g.history r))
request-sent g r from limit = same-sent (Some from) g r (λ k l. inl (sent-same g.history r k l)) (λ tag below. omega (arith, below, limit))

-- ---- as the code asks for them

pub verification-kept : BoundsRise → (g later : Ground) (n : Kept) (j : ℕ) (v : Verification) (tag m from : ℕ) → later ≡ with_history g (with_packet g.history n) → IsGrounded g → IsGrounded later
    → n.number ≡ Some j → n.report.body ≡ Verify v → tag ≡ tag_of n → j < length later.history.requests → IsLastBefore later.history j v tag m → from ≤ max (low later.history m) (floor later.history (m + 1)) + 1
    → AreSameBelow (Some from) g later
verification-kept law g later n j v tag m from e grounded later_grounded number body stamp sent last limit =
    subst Claim (sym e)
    (λ gr s l b.
    kept-verification law g n j v from m grounded gr (record { number = number; body = body; stamped = refl }) s
    (subst (λ t. IsLastBefore (with_packet g.history n) j v t m) stamp l) b)
    later_grounded sent last limit
  where
    Claim : Ground → Type 0
    Claim x = IsGrounded x → j < length x.history.requests → IsLastBefore x.history j v tag m → from ≤ max (low x.history m) (floor x.history (m + 1)) + 1 → AreSameBelow (Some from) g x

untold-body : (key : Key) (body : ReportBody) → tells_structure body ≡ false → reported_structure key body ≡ None
untold-body key (tell.Verify v) e = refl
untold-body key (tell.Stat r) e = refl
untold-body key (tell.Par r) e = refl
untold-body key (tell.Hk (hk.Structure named s)) e = absurd (both_ways true e refl)
untold-body key (tell.Hk (hk.Values named payload)) e = refl
untold-body key (tell.Hk (hk.Periodic kind rows)) e = refl

pub first-kept : (g later : Ground) (n : Kept) (v : Verification) (from : ℕ) → later ≡ with_history g (with_packet g.history n) → n.report.body ≡ Verify v → from ≤ 1 → AreSameBelow (Some from) g later
first-kept g later n v from e body limit = subst (λ x. AreSameBelow (Some from) g x) (sym e) (kept-first g n from limit (λ key. ap (λ b. reported_structure key b) body))

pub structure-kept : (g later : Ground) (n : Kept) (tag from : ℕ) → later ≡ with_history g (with_packet g.history n) → IsOther n.report.body → tag ≡ tag_of n → from ≤ tag + 1 → AreSameBelow (Some from) g later
structure-kept g later n tag from e other stamp limit =
    subst (λ x. AreSameBelow (Some from) g x) (sym e) (kept-other (Some from) g n other (λ key t below. inr (omega (arith, below, limit, stamp))))

pub other-kept : (g later : Ground) (n : Kept) → later ≡ with_history g (with_packet g.history n) → IsOther n.report.body → tells_structure n.report.body ≡ false → AreSameBelow None g later
other-kept g later n e other untold = subst (λ x. AreSameBelow None g x) (sym e) (kept-other None g n other (λ key t below. inl (untold-body key n.report.body untold)))

-- ---- the packet that was kept

-- a packet with a tag was kept
pub record IsKeptAs (h later : History) (tag : ℕ) : Type 0 where
  pub packet : Kept
  pub stamp : tag_of packet ≡ tag
  pub with_it : later ≡ with_packet h packet
  pub new : find (λ j. tag_of j == tag_of packet) h.kept ≡ None

kind-kept : (tag stamp : ℕ) (packet : List ℕ) (o : Option Kept) → kind_by_tag stamp packet o ≡ became.Kept tag → (stamp ≡ tag) × (o ≡ None)
kind-kept tag stamp packet None e = let same : became.Kept stamp ≡ became.Kept tag → stamp ≡ tag = λ p. cc in (same e, refl)
kind-kept tag stamp packet (Some k) e = go (bytes_eq k.packet packet) e
  where
    go : (b : Bool) → (if b then became.Repeat stamp else became.Conflict stamp) ≡ became.Kept tag → (stamp ≡ tag) × (Some k ≡ None)
    go true p = absurd (let no : became.Repeat stamp ≡ became.Kept tag → ⊥ = λ e. cc in no p)
    go false p = absurd (let no : became.Conflict stamp ≡ became.Kept tag → ⊥ = λ e. cc in no p)

pub kept-as : (h : History) (packet : List ℕ) (tag : ℕ) (x : Reception) → kind_by_reception h packet x ≡ became.Kept tag → IsKeptAs h (history_with_got h packet x) tag
kept-as h packet tag (foreign apid) e = absurd (let no : became.Foreign apid ≡ became.Kept tag → ⊥ = λ p. cc in no e)
kept-as h packet tag unread e = absurd (let no : became.Unread ≡ became.Kept tag → ⊥ = λ p. cc in no e)
kept-as h packet tag (skipped service subtype) e = absurd (let no : became.Skipped service subtype ≡ became.Kept tag → ⊥ = λ p. cc in no e)
kept-as h packet tag (readable r) e =
    let by = unstray (stray_id h r.header.tag r.body) e in
    let parts = kind-kept tag r.header.tag packet (kept_at h r.header.tag) by in
    record {
      packet = record { packet = packet; report = r; number = number_of_body h r.header.tag r.body };
      stamp = parts.0;
      with_it = ap (λ kind. history_with_report h packet r kind) e;
      new = parts.1;
    }
  where
    unstray : (o : Option ℕ) → option_map_or became.Stray o (kind_by_tag r.header.tag packet (kept_at h r.header.tag)) ≡ became.Kept tag
        → kind_by_tag r.header.tag packet (kept_at h r.header.tag) ≡ became.Kept tag
    unstray None p = p
    unstray (Some id) p = absurd (let no : became.Stray id ≡ became.Kept tag → ⊥ = λ e. cc in no p)

found-from : (k : Kept) (ks : List Kept) → find (λ j. tag_of j == tag_of k) ks ≡ None → find (λ j. nat_le (tag_of k) (tag_of j)) (insert_kept k ks) ≡ Some k
found-from k [] none = let at : nat_le (tag_of k) (tag_of k) ≡ true = le-leb (tag_of k) (tag_of k) (omega arith) in ap (λ b. cond b (Some k) None) at
found-from k (j ∷ js) none = go (nat_lt (tag_of k) (tag_of j)) refl (tag_of j == tag_of k) refl none (found-from k js)
  where
    rest : Option Kept
    rest = find (λ x. nat_le (tag_of k) (tag_of x)) (insert_kept k js)

    go : (b : Bool) → nat_lt (tag_of k) (tag_of j) ≡ b → (c : Bool) → (tag_of j == tag_of k) ≡ c → cond c (Some j) (find (λ x. tag_of x == tag_of k) js) ≡ None
        → (find (λ x. tag_of x == tag_of k) js ≡ None → rest ≡ Some k)
        → find (λ x. nat_le (tag_of k) (tag_of x)) (if b then k ∷ j ∷ js else j ∷ insert_kept k js) ≡ Some k
    go true p c q none ih = let at : nat_le (tag_of k) (tag_of k) ≡ true = le-leb (tag_of k) (tag_of k) (omega arith) in ap (λ b. cond b (Some k) (find (λ x. nat_le (tag_of k) (tag_of x)) (j ∷ js))) at
    go false p true q none ih = absurd (let no : Some j ≡ None → ⊥ = λ e. cc in no none)
    go false p false q none ih =
        let other : nat_le (tag_of k) (tag_of j) ≡ false = grind (arith, nat_tests, p, q) in
        ap (λ b. cond b (Some j) rest) other ∙ ih none

-- it is the first from its tag on
pub kept-found : (h later : History) (tag : ℕ) (k : Kept) → (is : IsKeptAs h later tag) → find (λ j. nat_le tag (tag_of j)) later.kept ≡ Some k → is.packet ≡ k
kept-found h later tag k is e =
    let at = found-from is.packet h.kept is.new in
    let here : find (λ j. nat_le tag (tag_of j)) later.kept ≡ Some is.packet =
    ap (λ (x : History). find (λ j. nat_le tag (tag_of j)) x.kept) is.with_it ∙ (ap (λ t. find (λ j. nat_le t (tag_of j)) (insert_kept is.packet h.kept)) (sym is.stamp) ∙ at) in
    some_value is.packet k (sym here ∙ e)
