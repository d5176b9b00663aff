-- The requests and states of a structure, one after the other.
use Rattle.std.proofs.Common.{arith, ◌≡◌, ℕ, zero, suc, ◌+◌, ◌^◌, ◌<◌, ◌≤◌, refl, sym, ◌∙◌, ap, subst, List, [], ◌∷◌, ◌++◌, Bool, true, false, length, map, take, add-one, Option, Some, None, IfSome, option_to_list, append-nil, append_assoc, inl, inr, cond}
use Rattle.std.specs.Prelude.{filter, filter_map, find, slice_get, option_map, option_and_then, nat_le, IsSomeAnd, if◌then◌else◌}
use Rattle.std.specs.List.{enumerate_from, cons_option, All, AllByRecursion}
use Rattle.std.proofs.lemmas.Bool.{leb-true, leb-false, le-leb, lt-leb, both_ways}
use Rattle.std.proofs.lemmas.List.{take_all}
use Rattle.std.proofs.lemmas.List.Elements.{filter_map-append, All-from_recursion}
use Rattle.std.proofs.Math.Nat.{pow-le-pow_right}
use Rattle.hk_base.specs.TailoringParts.{TailoringParts}
use Rattle.hk_base.specs.Fit.{IsFit, IsFitWidths}
use Rattle.hk_base.specs.declared.types.Key.{Key}
use Rattle.hk_base.specs.declared.types.Structure.{Structure}
use Rattle.hk_base.proofs.Membership.{some_value, IsIn, IsIn-filter, IsIn-filter_map, IsIn-AllByRecursion, AllByRecursion-IsIn}
use Rattle.st03_grammar.specs.Instructions.{StructureChange}
use Rattle.pus_messages.specs.Changes.{change_by}
use Rattle.pus_messages.specs.Instructions.{instructions}
use Rattle.pus_messages.specs.Spelling.{IsRequest}
use Rattle.pus_messages.specs.declared.message.Request.{Request}
use Rattle.pus_messages.specs.declared.message.Report.{Report}
use Rattle.pus_messages.specs.declared.message.ReportBody.{ReportBody}
use Rattle.pus_messages.specs.declared.message.ReportBody.TheVariants as tell
use Rattle.st03_grammar.specs.declared.bodies.Report03.TheVariants as hk
use Rattle.report_structures.specs.Changes.{IsGrammarChange, IsFormedState}
use Rattle.ground_history.specs.Histories.{Sent, Kept, History, tag_of, greatest}
use Rattle.ground_history.specs.Evidence.{low, high, is_accepted, is_barred, outcome}
use Rattle.ground_history.specs.Ground.{Ground, IsGrammarSent, IsGrammarKept, IsGrounded, HaveRisingTags, newest_told, tells_structure}
use Rattle.ground_history.specs.Rising.{AreNoHigher, BoundsRise}
use Rattle.definition_intervals.specs.Openings.{reported_structure}
use Rattle.definition_intervals.specs.Founds.{ChangesAreFormed, ReportedStatesAreFormed}
use Rattle.opening_sweeps.specs.Requests.{Bounded, Start, bounded_request, bounded_requests, IsBelow, AreRising, IsFormedRequest, told_start, told_starts, HaveRisingStarts, IsFormedStart}

-- one more member with its number
enumerate-more : {X : Type 0} (n : ℕ) (xs : List X) (x : X) → enumerate_from n (xs ++ x ∷ []) ≡ enumerate_from n xs ++ (n + length xs, x) ∷ []
enumerate-more n [] x = ap (λ k. (k, x) ∷ []) (omega arith)
enumerate-more n (y ∷ xs) x =
    let numbers : n + 1 + length xs ≡ n + length (y ∷ xs) = omega arith in
    ap (λ l. (n, y) ∷ l) (enumerate-more (n + 1) xs x ∙ ap (λ k. enumerate_from (n + 1) xs ++ (k, x) ∷ []) numbers)

length-take_within : {X : Type 0} (n : ℕ) (xs : List X) → n ≤ length xs → length (take n xs) ≡ n
length-take_within zero xs h = refl
length-take_within (suc k) [] h = absurd (omega arith)
length-take_within (suc k) (x ∷ xs) h = ap suc (length-take_within k xs (omega arith))

member-at : {X : Type 0} (xs : List X) (n : ℕ) → n < length xs → (x : X) × (slice_get xs n ≡ Some x)
member-at [] n l = absurd (omega arith)
member-at (x ∷ xs) zero l = (x, refl)
member-at (x ∷ xs) (suc n) l = member-at xs n (omega arith)

take-suc_at : {X : Type 0} (xs : List X) (n : ℕ) (x : X) → slice_get xs n ≡ Some x → take (suc n) xs ≡ take n xs ++ x ∷ []
take-suc_at [] n x e = absurd (let no : None ≡ Some x → ⊥ = λ e. cc in no e)
take-suc_at (y ∷ xs) zero x e = ap (λ z. z ∷ []) (some_value y x e)
take-suc_at (y ∷ xs) (suc n) x e = ap (λ l. y ∷ l) (take-suc_at xs n x e)

-- what the first so many requests give
abbrev pub first_requests : History → Key → ℕ → List Bounded
first_requests h key n = filter_map (bounded_request h key) (enumerate_from 0 (take n h.requests))

abbrev pub IsRequestAt : History → Key → ℕ → Option Bounded → Type 0
IsRequestAt h key n o = (s : Sent) → slice_get h.requests n ≡ Some s → o ≡ bounded_request h key (n, s)

requests-more : (h : History) (key : Key) (n : ℕ) (o : Option Bounded) → n < length h.requests → IsRequestAt h key n o → first_requests h key (n + 1) ≡ first_requests h key n ++ option_to_list o
requests-more h key n o l told =
    let s = member-at h.requests n l in
    let within : length (take n h.requests) ≡ n = length-take_within n h.requests (omega arith) in
    let number : 0 + length (take n h.requests) ≡ n = omega arith in
    ap (λ xs. filter_map (bounded_request h key) (enumerate_from 0 xs)) (ap (λ k. take k h.requests) (add-one n) ∙ take-suc_at h.requests n s.0 s.1)
    ∙ (ap (λ xs. filter_map (bounded_request h key) xs) (enumerate-more 0 (take n h.requests) s.0 ∙ ap (λ k. enumerate_from 0 (take n h.requests) ++ (k, s.0) ∷ []) number)
    ∙ (filter_map-append (bounded_request h key) (enumerate_from 0 (take n h.requests)) ((n, s.0) ∷ [])
    ∙ (ap (λ (r : Option Bounded). first_requests h key n ++ cons_option r []) (sym (told s.0 s.1)) ∙ ap (λ l. first_requests h key n ++ l) (one o))))
  where
    one : (r : Option Bounded) → cons_option r [] ≡ option_to_list r
    one None = refl
    one (Some c) = refl

pub request-added : (h : History) (key : Key) (n : ℕ) (r : Bounded) (before after : List Bounded) → n < length h.requests → IsRequestAt h key n (Some r) → before ≡ first_requests h key n
    → after ≡ before ++ r ∷ [] → after ≡ first_requests h key (n + 1)
request-added h key n r before after l told b a = a ∙ (ap (λ xs. xs ++ r ∷ []) b ∙ sym (requests-more h key n (Some r) l told))

pub request-skipped : (h : History) (key : Key) (n : ℕ) (before : List Bounded) → n < length h.requests → IsRequestAt h key n None → before ≡ first_requests h key n → before ≡ first_requests h key (n + 1)
request-skipped h key n before l told b = b ∙ sym (requests-more h key n None l told ∙ append-nil (first_requests h key n))

pub requests-all : (h : History) (key : Key) (n : ℕ) (found : List Bounded) → length h.requests ≤ n → found ≡ first_requests h key n → found ≡ bounded_requests h key
requests-all h key n found l e = e ∙ ap (λ xs. filter_map (bounded_request h key) (enumerate_from 0 xs)) (take_all n h.requests l)

-- where a request comes from
record IsFrom (h : History) (key : Key) (n : ℕ) (s : Sent) (r : Bounded) : Type 0 where
  low : r.low ≡ low h n
  high : r.high ≡ high h n
  asked : Request
  change : ℕ
  there : s.request ≡ Some asked
  by : change_by key asked ≡ Some (change, r.change)

made_of : History → ℕ → ℕ × StructureChange → Bounded
made_of h n c = record { number = n; change = c.1; low = low h n; high = high h n; accepted = is_accepted h n; outcome = outcome h n c.0 }

is-from : (h : History) (key : Key) (n : ℕ) (s : Sent) (r : Bounded) → bounded_request h key (n, s) ≡ Some r → IsFrom h key n s r
unfolding made_of
is-from h key n s r e = go (is_barred h n) s.request refl e
  where
    found : (q : Request) (o : Option (ℕ × StructureChange)) → s.request ≡ Some q → change_by key q ≡ o → option_map (made_of h n) o ≡ Some r → IsFrom h key n s r
    found q None p g x = absurd (let no : None ≡ Some r → ⊥ = λ e. cc in no x)
    found q (Some c) p g x =
        let same = some_value (made_of h n c) r x in
        record {
          low = ap (λ (b : Bounded). b.low) (sym same);
          high = ap (λ (b : Bounded). b.high) (sym same);
          asked = q;
          change = c.0;
          there = p;
          by = g ∙ ap (λ (b : Bounded). Some (c.0, b.change)) same;
        }

    go : (b : Bool) (o : Option Request) → s.request ≡ o → (if b then None else option_map (made_of h n) (option_and_then (change_by key) o)) ≡ Some r → IsFrom h key n s r
    go true o p x = absurd (let no : None ≡ Some r → ⊥ = λ e. cc in no x)
    go false None p x = absurd (let no : None ≡ Some r → ⊥ = λ e. cc in no x)
    go false (Some q) p x = found q (change_by key q) p refl x

-- the bounds of a request and a later one
below-from : (h : History) (key : Key) (m n : ℕ) (x y : Sent) (a b : Bounded) → IsFrom h key m x a → IsFrom h key n y b → AreNoHigher h m n → IsBelow a b
below-from h key m n x y a b f g up =
    record {
      low = omega (arith, up.low, f.low, g.low);
      high = subst (λ o. IfSome o (λ top. IsSomeAnd a.high (λ t. t ≤ top))) (sym g.high) (subst (λ o. IfSome (high h n) (λ top. IsSomeAnd o (λ t. t ≤ top))) (sym f.high) up.high);
    }

rises : BoundsRise → (g : Ground) (key : Key) → IsGrounded g → (n : ℕ) (xs : List Sent) → n + length xs ≤ length g.history.requests
    → AreRising (filter_map (bounded_request g.history key) (enumerate_from n xs))
rises law g key grounded n [] l = tt
rises law g key grounded n (x ∷ xs) l = go (bounded_request g.history key (n, x)) refl (rises law g key grounded (n + 1) xs (omega arith))
  where
    rest : List Bounded
    rest = filter_map (bounded_request g.history key) (enumerate_from (n + 1) xs)

    later : (r : Bounded) → IsFrom g.history key n x r → (m : ℕ) (ys : List Sent) → n ≤ m → m + length ys ≤ length g.history.requests
        → AllByRecursion (IsBelow r) (filter_map (bounded_request g.history key) (enumerate_from m ys))
    later r f m [] le k = tt
    later r f m (y ∷ ys) le k = one (bounded_request g.history key (m, y)) refl (later r f (m + 1) ys (omega arith) (omega arith))
      where
        one : (o : Option Bounded) → bounded_request g.history key (m, y) ≡ o → AllByRecursion (IsBelow r) (filter_map (bounded_request g.history key) (enumerate_from (m + 1) ys))
            → AllByRecursion (IsBelow r) (cons_option o (filter_map (bounded_request g.history key) (enumerate_from (m + 1) ys)))
        one None e all = all
        one (Some b) e all =
            let within : m < length g.history.requests = omega arith in
            (below-from g.history key n m x y r b f (is-from g.history key m y b e) (law g n m grounded le within), all)

    go : (o : Option Bounded) → bounded_request g.history key (n, x) ≡ o → AreRising rest → AreRising (cons_option o rest)
    go None e all = all
    go (Some r) e all = (later r (is-from g.history key n x r e) (n + 1) xs (omega arith) (omega arith), all)

pub requests-rise : BoundsRise → (g : Ground) (key : Key) → IsGrounded g → AreRising (bounded_requests g.history key)
requests-rise law g key grounded = rises law g key grounded 0 g.history.requests (omega arith)

numbered-IsIn : (n : ℕ) (p : ℕ × Sent) (xs : List Sent) → IsIn p (enumerate_from n xs) → IsIn p.1 xs
numbered-IsIn n p [] i = absurd i
numbered-IsIn n p (x ∷ xs) (inl e) = inl (ap (λ (z : ℕ × Sent). z.1) e)
numbered-IsIn n p (x ∷ xs) (inr i) = inr (numbered-IsIn (n + 1) p xs i)

pub requests-formed : ChangesAreFormed → (g : Ground) (key : Key) → IsGrounded g → All (IsFormedRequest g.tailoring) (bounded_requests g.history key)
requests-formed law g key grounded = All-from_recursion (IsFormedRequest g.tailoring) (bounded_requests g.history key) (IsIn-AllByRecursion (IsFormedRequest g.tailoring) (bounded_requests g.history key) each)
  where
    each : (r : Bounded) → IsIn r (bounded_requests g.history key) → IsFormedRequest g.tailoring r
    each r i =
        let f = IsIn-filter_map (bounded_request g.history key) r (enumerate_from 0 g.history.requests) i in
        let from = is-from g.history key f.0.0 f.0.1 r f.2 in
        let sent = AllByRecursion-IsIn (IsGrammarSent g.tailoring) f.0.1 g.history.requests grounded.requests (numbered-IsIn 0 f.0 g.history.requests f.1) in
        law g.tailoring key from.asked from.change r.change (subst (λ o. IfSome o (λ q. IsRequest g.tailoring q × (length (instructions q) ≤ 255))) from.there sent).0 from.by

-- the states that were told
start-from : (key : Key) (k : Kept) (s : Start) → told_start key k ≡ Some s → (x : Structure) × (reported_structure key k.report.body ≡ Some x) × (s ≡ record { tag = tag_of k; state = Some x })
start-from key k s e = go (reported_structure key k.report.body) refl e
  where
    go : (o : Option Structure) → reported_structure key k.report.body ≡ o → option_map (λ (x : Structure). record { tag = tag_of k; state = Some x }) o ≡ Some s
        → (x : Structure) × (reported_structure key k.report.body ≡ Some x) × (s ≡ record { tag = tag_of k; state = Some x })
    go None p q = absurd (let no : None ≡ Some s → ⊥ = λ e. cc in no q)
    go (Some x) p q = (x, p, some_value s (record { tag = tag_of k; state = Some x }) (sym q))

pub starts-rise : (key : Key) (ks : List Kept) → HaveRisingTags ks → HaveRisingStarts (filter_map (told_start key) ks)
starts-rise key [] h = tt
starts-rise key (k ∷ ks) h = go (told_start key k) refl (starts-rise key ks h.1)
  where
    later : (s : Start) → s.tag ≡ tag_of k → (xs : List Kept) → AllByRecursion (λ x. tag_of k < tag_of x) xs → AllByRecursion (λ x. s.tag < x.tag) (filter_map (told_start key) xs)
    later s e [] all = tt
    later s e (x ∷ xs) all = one (told_start key x) refl (later s e xs all.1)
      where
        one : (o : Option Start) → told_start key x ≡ o → AllByRecursion (λ y. s.tag < y.tag) (filter_map (told_start key) xs) → AllByRecursion (λ y. s.tag < y.tag) (cons_option o (filter_map (told_start key) xs))
        one None p rest = rest
        one (Some y) p rest =
            let f = start-from key x y p in
            let tag : y.tag ≡ tag_of x = ap (λ (z : Start). z.tag) f.2 in
            (omega (arith, e, tag, all.0), rest)

    go : (o : Option Start) → told_start key k ≡ o → HaveRisingStarts (filter_map (told_start key) ks) → HaveRisingStarts (cons_option o (filter_map (told_start key) ks))
    go None p rest = rest
    go (Some s) p rest = let f = start-from key k s p in (later s (ap (λ (z : Start). z.tag) f.2) ks h.0, rest)

pub starts-formed : ReportedStatesAreFormed → (g : Ground) (key : Key) → IsGrounded g → All (IsFormedStart g.tailoring) (told_starts g.history key)
starts-formed law g key grounded = All-from_recursion (IsFormedStart g.tailoring) (told_starts g.history key) (IsIn-AllByRecursion (IsFormedStart g.tailoring) (told_starts g.history key) each)
  where
    each : (s : Start) → IsIn s (told_starts g.history key) → IsFormedStart g.tailoring s
    each s i =
        let f = IsIn-filter_map (told_start key) s g.history.kept i in
        let from = start-from key f.0 s f.2 in
        let kept = AllByRecursion-IsIn (IsGrammarKept g.tailoring) f.0 g.history.kept grounded.reports f.1 in
        subst (λ (x : Start). IsFormedStart g.tailoring x) (sym from.2) (subst (λ o. IsFormedState g.tailoring o) from.1 (law g.tailoring key f.0.report kept))

-- a packet that tells of no structure tells no state
pub untold : (key : Key) (k : Kept) → tells_structure k.report.body ≡ false → told_start key k ≡ None
untold key k e = body-untold key k.report.body e
  where
    start : Option Structure → Option Start
    start o = option_map (λ s. record { tag = tag_of k; state = Some s }) o

    body-untold : (key : Key) (body : ReportBody) → tells_structure body ≡ false → start (reported_structure key body) ≡ None
    body-untold key (tell.Verify v) e = refl
    body-untold key (tell.Stat r) e = refl
    body-untold key (tell.Par r) e = refl
    body-untold key (tell.Hk (hk.Structure named s)) e = absurd (both_ways true e refl)
    body-untold key (tell.Hk (hk.Values named payload)) e = refl
    body-untold key (tell.Hk (hk.Periodic kind rows)) e = refl
