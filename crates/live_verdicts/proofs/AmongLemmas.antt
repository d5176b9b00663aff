-- Requests and states that are gathered one after the other.
use Rattle.std.proofs.Common.{arith, ◌≡◌, ℕ, zero, suc, ◌+◌, ◌<◌, ◌≤◌, refl, sym, ◌∙◌, ap, List, [], ◌∷◌, ◌++◌, length, take, drop, Bool, true, false, Option, Some, None, append-nil, append_assoc, option_to_list}
use Rattle.std.specs.Prelude.{filter_map, slice_get, IfSome, nat_le, nat_lt, if◌then◌else◌}
use Rattle.std.specs.List.{All, cons_option, enumerate_from}
use Rattle.std.proofs.lemmas.List.{length-take-le, drop-append-le}
use Rattle.std.proofs.lemmas.List.Elements.{filter_map-append, All-from_recursion, recursion_from_All}
use Rattle.hk_base.specs.TailoringParts.{TailoringParts}
use Rattle.hk_base.specs.declared.types.Key.{Key}
use Rattle.hk_base.proofs.Membership.{IsIn, IsIn-filter, IsIn-filter_map, filter_map-IsIn, IsIn-AllByRecursion, AllByRecursion-IsIn}
use Rattle.pus_messages.specs.declared.message.Report.{Report}
use Rattle.ground_history.specs.Histories.{Sent, Kept, History, tag_of}
use Rattle.ground_history.specs.Ground.{Ground, IsGrounded}
use Rattle.definition_intervals.specs.Openings.{Candidate, candidate}
use Rattle.definition_intervals.specs.Findings.{IsFormedCandidate}
use Rattle.definition_intervals.proofs.GatherLemmas.{IsCandidateAt, IsGroundedRequest, candidate-formed, numbered-IsIn, member-at, take-more_at}
use Rattle.opening_sweeps.specs.Requests.{Start, told_start, told_starts, IsFormedStart}
use Rattle.entry_changes.specs.Changes.{told_start_below}
use Rattle.live_verdicts.specs.Marks.{among, told_between}
use Rattle.live_verdicts.proofs.SplitLemmas.{taken-in, dropped-in}
use Rattle.live_verdicts.proofs.ToldLemmas.{from_tag}

length-numbered : {X : Type 0} (n : ℕ) (xs : List X) → length (enumerate_from n xs) ≡ length xs
length-numbered n [] = refl
length-numbered n (x ∷ xs) = ap suc (length-numbered (n + 1) xs)

numbered-at : {X : Type 0} (n i : ℕ) (xs : List X) (x : X) → slice_get xs i ≡ Some x → slice_get (enumerate_from n xs) i ≡ Some (n + i, x)
numbered-at n i [] x e = absurd (let no : None ≡ Some x → ⊥ = λ p. cc in no e)
numbered-at n zero (y ∷ xs) x e =
    let same : y ≡ x = (let inside : Some y ≡ Some x → y ≡ x = λ p. cc in inside e) in
    let number : n ≡ n + 0 = omega arith in
    ap (λ z. Some (n, z)) same ∙ ap (λ k. Some (k, x)) number
numbered-at n (suc i) (y ∷ xs) x e = let number : n + 1 + i ≡ n + suc i = omega arith in numbered-at (n + 1) i xs x e ∙ ap (λ k. Some (k, x)) number

-- one more request
pub next-numbered : {Y : Type 0} (f : ℕ × Sent → Option Y) (rs : List Sent) (first n : ℕ) (o : Option Y) → first ≤ n → n < length rs → ((s : Sent) → slice_get rs n ≡ Some s → o ≡ f (n, s))
    → filter_map f (drop first (take (n + 1) (enumerate_from 0 rs))) ≡ filter_map f (drop first (take n (enumerate_from 0 rs))) ++ option_to_list o
next-numbered {Y} f rs first n o le l told =
    let s = member-at rs n l in
    let all = enumerate_from 0 rs in
    let zero_ : 0 + n ≡ n = omega arith in
    let at : slice_get all n ≡ Some (n, s.0) = numbered-at 0 n rs s.0 s.1 ∙ ap (λ k. Some (k, s.0)) zero_ in
    let long : n ≤ length all = let same = length-numbered 0 rs in omega (arith, l, same) in
    let front : first ≤ length (take n all) = let same = length-take-le n all long in omega (arith, le, same) in
    ap (λ xs. filter_map f (drop first xs)) (take-more_at all n (n, s.0) at)
    ∙ (ap (λ xs. filter_map f xs) (drop-append-le first (take n all) ((n, s.0) ∷ []) front)
    ∙ (filter_map-append f (drop first (take n all)) ((n, s.0) ∷ [])
    ∙ (ap (λ (r : Option Y). filter_map f (drop first (take n all)) ++ cons_option r []) (sym (told s.0 s.1)) ∙ ap (λ l. filter_map f (drop first (take n all)) ++ l) (one o))))
  where
    one : (r : Option Y) → cons_option r [] ≡ option_to_list r
    one None = refl
    one (Some c) = refl

among-next : (h : History) (key : Key) (from tag first n : ℕ) (o : Option Candidate) → first ≤ n → n < length h.requests → IsCandidateAt h key from tag n o
    → among h key from tag first (n + 1) ≡ among h key from tag first n ++ option_to_list o
among-next h key from tag first n o le l told = next-numbered (candidate h key from tag) h.requests first n o le l told

pub among-more : (h : History) (key : Key) (from tag first n : ℕ) (c : Candidate) (before after : List Candidate) → first ≤ n → n < length h.requests → IsCandidateAt h key from tag n (Some c)
    → before ≡ among h key from tag first n → after ≡ before ++ c ∷ [] → after ≡ among h key from tag first (n + 1)
among-more h key from tag first n c before after le l told b a = a ∙ (ap (λ xs. xs ++ c ∷ []) b ∙ sym (among-next h key from tag first n (Some c) le l told))

pub among-less : (h : History) (key : Key) (from tag first n : ℕ) (before : List Candidate) → first ≤ n → n < length h.requests → IsCandidateAt h key from tag n None
    → before ≡ among h key from tag first n → before ≡ among h key from tag first (n + 1)
among-less h key from tag first n before le l told b = b ∙ sym (among-next h key from tag first n None le l told ∙ append-nil (among h key from tag first n))

-- they are of the grammar
pub among-formed : (g : Ground) (key : Key) (from tag first end : ℕ) → IsGrounded g → All (IsFormedCandidate g.tailoring) (among g.history key from tag first end)
among-formed g key from tag first end grounded = All-from_recursion (IsFormedCandidate g.tailoring) cs (IsIn-AllByRecursion (IsFormedCandidate g.tailoring) cs each)
  where
    cs : List Candidate
    cs = among g.history key from tag first end

    each : (c : Candidate) → IsIn c cs → IsFormedCandidate g.tailoring c
    each c i =
        let h = g.history in
        let r = IsIn-filter_map (candidate h key from tag) c (drop first (take end (enumerate_from 0 h.requests))) i in
        let j = taken-in end (enumerate_from 0 h.requests) r.0 (dropped-in first (take end (enumerate_from 0 h.requests)) r.0 r.1) in
        candidate-formed g.tailoring h key from tag r.0.0 r.0.1 c
        (AllByRecursion-IsIn (λ s. IfSome s.request (IsGroundedRequest g.tailoring)) r.0.1 h.requests grounded.requests (numbered-IsIn 0 r.0 h.requests j)) r.2

-- nothing more is told
pub told-all : (starts rest all : List Start) → rest ≡ [] → starts ++ rest ≡ all → starts ≡ all
told-all starts rest all e h = sym (append-nil starts) ∙ (ap (λ xs. starts ++ xs) (sym e) ∙ h)

-- the states that were told between two tags are valid
pub told-formed : (t : TailoringParts) (h : History) (key : Key) (from tag : ℕ) → All (IsFormedStart t) (told_starts h key) → All (IsFormedStart t) (told_between h key from tag)
told-formed t h key from tag all =
    All-from_recursion (IsFormedStart t) (told_between h key from tag)
    (IsIn-AllByRecursion (IsFormedStart t) (told_between h key from tag)
    (λ s i.
    let k = IsIn-filter_map (told_start_below key tag) s (from_tag from h.kept) i in
    let member = IsIn-filter (λ x. nat_le from (tag_of x)) k.0 h.kept k.1 in
    AllByRecursion-IsIn (IsFormedStart t) s (told_starts h key) (recursion_from_All (IsFormedStart t) (told_starts h key) all)
    (filter_map-IsIn (told_start key) k.0 s h.kept member.0 (told (nat_lt (tag_of k.0) tag) (told_start key k.0) s k.2))))
  where
    told : (b : Bool) (o : Option Start) (s : Start) → if◌then◌else◌ {A = Option Start} b o None ≡ Some s → o ≡ Some s
    told true o s e = e
    told false o s e = absurd (let no : None ≡ Some s → ⊥ = λ p. cc in no e)
