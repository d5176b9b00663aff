-- The requests before a mark's tag, and those behind it.
use Rattle.std.proofs.Common.{arith, ◌≡◌, ℕ, zero, suc, ◌+◌, ◌<◌, ◌≤◌, refl, sym, ◌∙◌, ap, subst, List, [], ◌∷◌, ◌++◌, take, drop, Bool, true, false, length, inl, inr, ◌⊎◌, Option, Some, None, append-nil}
use Rattle.std.specs.Prelude.{filter_map, nat_le, not, ◌&&◌, ◌||◌, IfSome, IsSomeAnd, option_map, option_and_then, if◌then◌else◌}
use Rattle.std.specs.List.{enumerate_from}
use Rattle.std.proofs.lemmas.Bool.{le-leb, leb-true, leb-false, lt-leb, both_ways}
use Rattle.std.proofs.lemmas.List.{take-append-drop, drop_all}
use Rattle.std.proofs.lemmas.List.Elements.{filter_map-append}
use Rattle.hk_base.specs.declared.types.Key.{Key}
use Rattle.hk_base.proofs.Membership.{IsIn}
use Rattle.st03_grammar.specs.Instructions.{StructureChange}
use Rattle.pus_messages.specs.Changes.{change_by}
use Rattle.ground_history.specs.Histories.{Sent, History}
use Rattle.ground_history.specs.Evidence.{low, high, is_accepted, is_barred, outcome}
use Rattle.ground_history.specs.Ground.{Ground, IsGrounded}
use Rattle.ground_history.specs.Rising.{BoundsRise}
use Rattle.ground_history.proofs.SayLemmas.{nothing}
use Rattle.definition_intervals.specs.Openings.{Candidate, is_at_most, is_possible, is_certain, candidate, candidates}
use Rattle.entry_changes.specs.Changes.{unsure, unsures}
use Rattle.live_verdicts.specs.Marks.{among, passed, HavePassed, HaveBegun, ArePending, AreLate, HoldsFor, GoesOn}
use Rattle.live_verdicts.specs.declared.mark.Mark.{Mark}
use Rattle.entry_changes.proofs.SameLemmas.{filter_map-same, filter_map-none, enumerate-within}

-- ---- upper bounds, and tags

pub not_true : (b : Bool) → not b ≡ true → b ≡ false
not_true true e = absurd (both_ways false refl e)
not_true false e = refl

pub lower-most : (a b : Option ℕ) (tag : ℕ) → IfSome b (λ top. IsSomeAnd a (λ t. t ≤ top)) → is_at_most b tag ≡ true → is_at_most a tag ≡ true
lower-most a None tag rise s = absurd (both_ways false refl s)
lower-most None (Some top) tag rise s = absurd rise
lower-most (Some t) (Some top) tag rise s = let le = leb-true top tag s in le-leb t tag (omega (arith, rise, le))

pub higher-most : (a b : Option ℕ) (tag : ℕ) → IfSome b (λ top. IsSomeAnd a (λ t. t ≤ top)) → is_at_most a tag ≡ false → is_at_most b tag ≡ false
higher-most a b tag rise s = go (is_at_most b tag) refl
  where
    go : (x : Bool) → is_at_most b tag ≡ x → x ≡ false
    go false e = refl
    go true e = absurd (both_ways (is_at_most a tag) s (lower-most a b tag rise e))

pub wider-most : (a : Option ℕ) (early tag : ℕ) → early ≤ tag → is_at_most a tag ≡ false → is_at_most a early ≡ false
wider-most None early tag le e = refl
wider-most (Some t) early tag le e = let lt = leb-false t tag e in lt-leb t early (omega (arith, le, lt))

pub raised-most : (a : Option ℕ) (early tag : ℕ) → early ≤ tag → is_at_most a early ≡ true → is_at_most a tag ≡ true
raised-most None early tag le e = e
raised-most (Some t) early tag le e = let low_ = leb-true t early e in le-leb t tag (omega (arith, le, low_))

-- ---- a request, as it is seen from states and by reports

-- a candidate by what is said of its request
abbrev pick : History → ℕ → Option (ℕ × StructureChange) → Bool → Bool → Option Candidate
pick h k o possible certain =
    if possible then option_map (λ (c : ℕ × StructureChange). record { number = k; change = c.1; certain = certain; outcome = outcome h k c.0 }) o else None

abbrev asked : Key → Sent → Option (ℕ × StructureChange)
asked key s = option_and_then (change_by key) s.request

-- a request that may have been executed below a tag already stands the same to later reports
early-same : (h : History) (key : Key) (start early tag k : ℕ) (s : Sent) → low h k < early → early ≤ tag → is_at_most (high h k) tag ≡ is_at_most (high h k) early
    → candidate h key start tag (k, s) ≡ candidate h key start early (k, s)
early-same h key start early tag k s lo le e =
    let now : nat_le tag (low h k) ≡ false = lt-leb tag (low h k) (omega (arith, lo, le)) in
    let then_ : nat_le early (low h k) ≡ false = lt-leb early (low h k) lo in
    ap (λ b. pick h k (asked key s) (not (b || is_barred h k) && not (is_at_most (high h k) start)) (is_certain h start tag k)) (now ∙ sym then_)
    ∙ ap (λ b. pick h k (asked key s) (is_possible h start early k) (nat_le start (low h k) && is_accepted h k && b)) e

-- no report comes after a request whose lower bound isn't below its tag
pub late-none : (h : History) (key : Key) (start tag k : ℕ) (s : Sent) → tag ≤ low h k → candidate h key start tag (k, s) ≡ None
late-none h key start tag k s le =
    ap (λ b. pick h k (asked key s) (not (b || is_barred h k) && not (is_at_most (high h k) start)) (is_certain h start tag k)) (le-leb tag (low h k) le)

-- a request that ended before an opening isn't one of its requests
ended-none : (h : History) (key : Key) (start tag k : ℕ) (s : Sent) → is_at_most (high h k) start ≡ true → candidate h key start tag (k, s) ≡ None
ended-none h key start tag k s e =
    ap (λ b. pick h k (asked key s) (not (nat_le tag (low h k) || is_barred h k) && not b) (is_certain h start tag k)) e
    ∙ ap (λ b. pick h k (asked key s) b (is_certain h start tag k)) (nothing (not (nat_le tag (low h k) || is_barred h k)))

-- of a request behind two openings it makes no difference from which it is seen
behind-same : (h : History) (key : Key) (start early tag k : ℕ) (s : Sent) → start ≤ early → early ≤ low h k → is_at_most (high h k) early ≡ false
    → candidate h key start tag (k, s) ≡ candidate h key early tag (k, s)
behind-same h key start early tag k s le lo e =
    let open_ : is_at_most (high h k) start ≡ false = wider-most (high h k) start early le e in
    let below : nat_le start (low h k) ≡ true = le-leb start (low h k) (omega (arith, le, lo)) in
    let also : nat_le early (low h k) ≡ true = le-leb early (low h k) lo in
    ap (λ b. pick h k (asked key s) (not (nat_le tag (low h k) || is_barred h k) && not b) (is_certain h start tag k)) (open_ ∙ sym e)
    ∙ ap (λ b. pick h k (asked key s) (is_possible h early tag k) (b && is_accepted h k && is_at_most (high h k) tag)) (below ∙ sym also)

-- a request that has begun and isn't known to have ended is unsure
pub unsure-same : (h : History) (key : Key) (start tag k : ℕ) (s : Sent) → low h k < tag → is_at_most (high h k) tag ≡ false → start ≤ tag
    → candidate h key start tag (k, s) ≡ unsure h key (k, s)
unsure-same h key start tag k s lo e le =
    let now : nat_le tag (low h k) ≡ false = lt-leb tag (low h k) lo in
    let open_ : is_at_most (high h k) start ≡ false = wider-most (high h k) start tag le e in
    ap (λ b. pick h k (asked key s) (not (b || is_barred h k) && not (is_at_most (high h k) start)) (is_certain h start tag k)) now
    ∙ (ap (λ b. pick h k (asked key s) (not (is_barred h k) && not b) (is_certain h start tag k)) open_
    ∙ (ap (λ b. pick h k (asked key s) (not (is_barred h k) && true) (nat_le start (low h k) && is_accepted h k && b)) e
    ∙ (ap (λ b. pick h k (asked key s) (not (is_barred h k) && true) b) (never (nat_le start (low h k)) (is_accepted h k))
    ∙ ap (λ b. pick h k (asked key s) b false) (always (not (is_barred h k))))))
  where
    never : (a b : Bool) → (a && b && false) ≡ false
    never true true = refl
    never true false = refl
    never false b = refl

    always : (a : Bool) → (a && true) ≡ a
    always true = refl
    always false = refl

take-enumerate : {X : Type 0} (n b : ℕ) (xs : List X) → take b (enumerate_from n xs) ≡ enumerate_from n (take b xs)
take-enumerate n zero xs = refl
take-enumerate n (suc b) [] = refl
take-enumerate n (suc b) (x ∷ xs) = ap (λ l. (n, x) ∷ l) (take-enumerate (n + 1) b xs)

pub taken-below : {X : Type 0} (n a : ℕ) (xs : List X) (x : ℕ × X) → IsIn x (take a (enumerate_from n xs)) → x.0 < n + a
taken-below n zero xs x i = absurd i
taken-below n (suc a) [] x i = absurd i
taken-below n (suc a) (y ∷ ys) x (inl e) = let number : x.0 ≡ n = ap (λ (p : ℕ × _). p.0) e in omega (arith, number)
taken-below n (suc a) (y ∷ ys) x (inr i) = let rest = taken-below (n + 1) a ys x i in omega (arith, rest)

pub dropped-above : {X : Type 0} (n a : ℕ) (xs : List X) (x : ℕ × X) → IsIn x (drop a (enumerate_from n xs)) → (n + a ≤ x.0) × (x.0 < n + length xs)
dropped-above n zero xs x i = let w = enumerate-within n xs x i in (omega (arith, w.0), w.1)
dropped-above n (suc a) [] x i = absurd i
dropped-above n (suc a) (y ∷ ys) x i = let rest = dropped-above (n + 1) a ys x i in (omega (arith, rest.0), omega (arith, rest.1))

pub taken-in : {X : Type 0} (a : ℕ) (xs : List X) (x : X) → IsIn x (take a xs) → IsIn x xs
taken-in zero xs x i = absurd i
taken-in (suc a) [] x i = absurd i
taken-in (suc a) (y ∷ ys) x (inl e) = inl e
taken-in (suc a) (y ∷ ys) x (inr i) = inr (taken-in a ys x i)

pub dropped-in : {X : Type 0} (n : ℕ) (xs : List X) (x : X) → IsIn x (drop n xs) → IsIn x xs
dropped-in zero xs x i = i
dropped-in (suc n) [] x i = absurd i
dropped-in (suc n) (y ∷ ys) x i = inr (dropped-in n ys x i)

pub nothing-between : (rs : List Sent) (a b : ℕ) → b ≤ a → drop a (take b (enumerate_from 0 rs)) ≡ []
nothing-between rs a b le = drop_all a (take b (enumerate_from 0 rs)) (let most = length-most b (enumerate_from 0 rs) in omega (arith, most, le))
  where
    length-most : (n : ℕ) (xs : List (ℕ × Sent)) → length (take n xs) ≤ n
    length-most zero xs = omega arith
    length-most (suc n) [] = omega arith
    length-most (suc n) (x ∷ xs) = let more = length-most n xs in omega (arith, more)

take-take : {X : Type 0} (a b : ℕ) (xs : List X) → a ≤ b → take a (take b xs) ≡ take a xs
take-take zero b xs le = refl
take-take (suc a) zero xs le = absurd (omega (arith, le))
take-take (suc a) (suc b) [] le = refl
take-take (suc a) (suc b) (x ∷ xs) le = ap (λ l. x ∷ l) (take-take a b xs (omega (arith, le)))

-- the elements between two places, and those from the second to a third
drop-between : {X : Type 0} (a b c : ℕ) (xs : List X) → a ≤ b → b ≤ c → drop a (take c xs) ≡ drop a (take b xs) ++ drop b (take c xs)
drop-between zero b c xs le le2 = ap (λ l. l) (sym (ap (λ l. l ++ drop b (take c xs)) (sym (take-take b c xs le2)) ∙ take-append-drop b (take c xs)))
drop-between (suc a) zero c xs le le2 = absurd (omega (arith, le))
drop-between (suc a) (suc b) zero xs le le2 = absurd (omega (arith, le2))
drop-between (suc a) (suc b) (suc c) [] le le2 = refl
drop-between (suc a) (suc b) (suc c) (x ∷ xs) le le2 = drop-between a b c xs (omega (arith, le)) (omega (arith, le2))

-- requests with numbers from one to another, and those from it to a third
pub between-append : {Y : Type 0} (f : ℕ × Sent → Option Y) (rs : List Sent) (a b c : ℕ) → a ≤ b → b ≤ c
    → filter_map f (drop a (take c (enumerate_from 0 rs))) ≡ filter_map f (drop a (take b (enumerate_from 0 rs))) ++ filter_map f (drop b (take c (enumerate_from 0 rs)))
between-append f rs a b c le le2 =
    ap (λ xs. filter_map f xs) (drop-between a b c (enumerate_from 0 rs) le le2) ∙ filter_map-append f (drop a (take b (enumerate_from 0 rs))) (drop b (take c (enumerate_from 0 rs)))

pub between-number : (rs : List Sent) (a b : ℕ) (x : ℕ × Sent) → IsIn x (drop a (take b (enumerate_from 0 rs))) → (a ≤ x.0) × (x.0 < b) × (x.0 < length rs)
between-number rs a b x i =
    let above = dropped-above 0 a (take b rs) x (subst (λ xs. IsIn x (drop a xs)) (take-enumerate 0 b rs) i) in
    let all = dropped-in a (take b (enumerate_from 0 rs)) x i in
    let below : x.0 < 0 + b = taken-below 0 b rs x all in
    let within = enumerate-within 0 rs x (taken-in b (enumerate_from 0 rs) x all) in
    (omega (arith, above.0), omega (arith, below), omega (arith, within.1))

-- ---- requests in parts

-- the requests before a number are all that count where the others may not have been executed
pub candidates-front : (h : History) (key : Key) (start tag end : ℕ) → AreLate h end tag → candidates h key start tag ≡ among h key start tag 0 end
candidates-front h key start tag end late =
    ap (λ xs. filter_map (candidate h key start tag) xs) (sym (take-append-drop end (enumerate_from 0 h.requests)))
    ∙ (filter_map-append (candidate h key start tag) (take end (enumerate_from 0 h.requests)) (drop end (enumerate_from 0 h.requests))
    ∙ (ap (λ xs. among h key start tag 0 end ++ xs)
    (filter_map-none (candidate h key start tag) (drop end (enumerate_from 0 h.requests))
    (λ x i. let w = dropped-above 0 end h.requests x i in late-none h key start tag x.0 x.1 (late x.0 (omega (arith, w.0)) (omega (arith, w.1)))))
    ∙ append-nil (among h key start tag 0 end)))

-- requests that a mark doesn't hold as passed are unsure
pub open-same : (h : History) (key : Key) (m : Mark) (start tag n : ℕ) → HoldsFor h m n tag → start ≤ tag → among h key start tag m.past n ≡ unsures h key m.past n
open-same h key m start tag n holds le = go holds.pending
  where
    go : (m.past ≡ n) ⊎ ArePending h m.past tag → among h key start tag m.past n ≡ unsures h key m.past n
    go (inl e) =
        ap (λ xs. filter_map (candidate h key start tag) xs) (nothing-between h.requests m.past n (omega (arith, e)))
        ∙ sym (ap (λ xs. filter_map (unsure h key) xs) (nothing-between h.requests m.past n (omega (arith, e))))
    go (inr pending) =
        filter_map-same (candidate h key start tag) (unsure h key) (drop m.past (take n (enumerate_from 0 h.requests)))
        (λ x i. let w = between-number h.requests m.past n x i in unsure-same h key start tag x.0 x.1 (holds.begun x.0 w.1) (pending x.0 w.0 w.2) le)

-- where a mark holds, the requests are those that it says
pub passed-same : (h : History) (key : Key) (m : Mark) (start tag n : ℕ) → HoldsFor h m n tag → start ≤ tag → among h key start tag 0 n ≡ passed h key m.tag m.past n start
passed-same h key m start tag n holds le =
    between-append (candidate h key start tag) h.requests 0 m.past n (omega arith) holds.order
    ∙ (ap (λ xs. xs ++ among h key start tag m.past n) front ∙ ap (λ xs. among h key start m.tag 0 m.past ++ xs) (open-same h key m start tag n holds le))
  where
    front : among h key start tag 0 m.past ≡ among h key start m.tag 0 m.past
    front =
        filter_map-same (candidate h key start tag) (candidate h key start m.tag) (take m.past (enumerate_from 0 h.requests))
        (λ x i.
        let l = (between-number h.requests 0 m.past x i).1 in
        let e = holds.passed.ended x.0 l in
        early-same h key start m.tag tag x.0 x.1 (holds.passed.begun x.0 l) holds.later (raised-most (high h x.0) m.tag tag holds.later e ∙ sym e))

-- From a state that a mark holds: the requests that it says, and those behind it.
pub passed-split : (h : History) (key : Key) (m : Mark) (start tag n end : ℕ) → GoesOn h m n tag → m.opened ≤ tag → start ≤ m.opened → n ≤ end
    → among h key start tag 0 end ≡ passed h key m.tag m.past n start ++ among h key m.opened tag n end
passed-split h key m start tag n end goes below le order =
    between-append (candidate h key start tag) h.requests 0 n end (omega arith) order
    ∙ (ap (λ xs. xs ++ among h key start tag n end) (passed-same h key m start tag n goes.holds (omega (arith, le, below)))
    ∙ ap (λ xs. passed h key m.tag m.past n start ++ xs)
    (filter_map-same (candidate h key start tag) (candidate h key m.opened tag) (drop n (take end (enumerate_from 0 h.requests)))
    (λ x i. let w = between-number h.requests n end x i in behind-same h key start m.opened tag x.0 x.1 le (goes.late x.0 w.0 w.2) (goes.ahead x.0 w.0 w.2))))

-- From a state behind a mark: the requests that it doesn't hold as passed.
pub passed-behind : (h : History) (key : Key) (m : Mark) (start tag end : ℕ) → HavePassed h m.past m.tag → m.tag ≤ start → m.past ≤ end
    → among h key start tag 0 end ≡ among h key start tag m.past end
passed-behind h key m start tag end have le order =
    between-append (candidate h key start tag) h.requests 0 m.past end (omega arith) order
    ∙ ap (λ xs. xs ++ among h key start tag m.past end)
    (filter_map-none (candidate h key start tag) (take m.past (enumerate_from 0 h.requests))
    (λ x i.
    let l = (between-number h.requests 0 m.past x i).1 in
    ended-none h key start tag x.0 x.1 (raised-most (high h x.0) m.tag start le (have.ended x.0 l))))

-- requests that have passed at a tag have at a later one
pub passed-later : (h : History) (past early tag : ℕ) → early ≤ tag → HavePassed h past early → HavePassed h past tag
passed-later h past early tag le have =
    record {
      ended = λ k l. raised-most (high h k) early tag le (have.ended k l);
      begun = λ k l. let lt = have.begun k l in omega (arith, lt, le);
    }

-- less is held of fewer requests
pub holds-below : (h : History) (m : Mark) (n listed tag : ℕ) → m.past ≤ n → n ≤ listed → HoldsFor h m listed tag → HoldsFor h m n tag
holds-below h m n listed tag le order holds =
    record {
      later = holds.later;
      order = le;
      within = let w = holds.within in omega (arith, w, order);
      passed = holds.passed;
      pending = go holds.pending;
      begun = λ k l. holds.begun k (omega (arith, l, order));
    }
  where
    go : (m.past ≡ listed) ⊎ ArePending h m.past tag → (m.past ≡ n) ⊎ ArePending h m.past tag
    go (inl e) = inl (omega (arith, le, order, e))
    go (inr pending) = inr pending

-- ---- what is so of one request is so of those before it, or behind it

pub have-passed : BoundsRise → (g : Ground) (past tag last : ℕ) → IsGrounded g → past ≤ length g.history.requests → past ≡ last + 1 → is_at_most (high g.history last) tag ≡ true → low g.history last < tag
    → HavePassed g.history past tag
have-passed law g past tag last grounded within is e lt =
    record {
      ended = λ k l. lower-most (high g.history k) (high g.history last) tag (law g k last grounded (omega (arith, l, is)) (omega (arith, within, is))).high e;
      begun = λ k l. let rise = (law g k last grounded (omega (arith, l, is)) (omega (arith, within, is))).low in omega (arith, rise, lt);
    }

pub none-passed : (h : History) (past tag : ℕ) → past ≡ 0 → HavePassed h past tag
none-passed h past tag zero_ = record { ended = λ k l. absurd (omega (arith, l, zero_)); begun = λ k l. absurd (omega (arith, l, zero_)) }

pub have-begun : BoundsRise → (g : Ground) (end tag last : ℕ) → IsGrounded g → end ≤ length g.history.requests → end ≡ last + 1 → low g.history last < tag → HaveBegun g.history end tag
have-begun law g end tag last grounded within is lt k l =
    let rise = (law g k last grounded (omega (arith, l, is)) (omega (arith, within, is))).low in
    omega (arith, rise, lt)

pub are-pending : BoundsRise → (g : Ground) (first tag : ℕ) → IsGrounded g → is_at_most (high g.history first) tag ≡ false → ArePending g.history first tag
are-pending law g first tag grounded e k le l = higher-most (high g.history first) (high g.history k) tag (law g first k grounded le l).high e

pub are-late : BoundsRise → (g : Ground) (first tag : ℕ) → IsGrounded g → tag ≤ low g.history first → AreLate g.history first tag
are-late law g first tag grounded le k at l =
    let rise = (law g first k grounded at l).low in
    omega (arith, rise, le)
