-- The places of all structures, collected in one pass.
use Rattle.std.proofs.Common.{arith, ◌≡◌, ℕ, zero, suc, ◌+◌, ◌<◌, ◌≤◌, refl, sym, ◌∙◌, ap, List, [], ◌∷◌, ◌++◌, append_assoc, append-nil, Bool, true, false, Option, Some, None, length, take, drop, flat_map, add-one, inl, inr}
use Rattle.std.specs.Prelude.{slice_get, nat_le, find, is_some, if◌then◌else◌}
use Rattle.std.specs.List.{AllByRecursion, enumerate_from}
use Rattle.std.specs.Option.{option_map_or}
use Rattle.std.proofs.lemmas.Bool.{le-leb, lt-leb, both_ways}
use Rattle.std.proofs.lemmas.List.{take_more, take-append-drop}
use Rattle.std.proofs.lemmas.List.Concat.{flat_map-append}
use Rattle.std.proofs.lemmas.Option.{slice_get_within, get_or_from_slice_get}
use Rattle.hk_base.specs.Parameters.{key_eq}
use Rattle.hk_base.specs.declared.types.Key.{Key}
use Rattle.hk_base.specs.declared.types.Structure.{Structure}
use Rattle.hk_base.proofs.Membership.{some_value, IsIn, AllByRecursion-IsIn, slice_get-IsIn}
use Rattle.st03_grammar.specs.declared.bodies.Report03.TheVariants as hk
use Rattle.pus_messages.specs.declared.message.Request.{Request}
use Rattle.pus_messages.specs.declared.message.ReportBody.{ReportBody}
use Rattle.pus_messages.specs.declared.message.ReportBody.TheVariants.{Hk}
use Rattle.pus_messages.specs.declared.message.ReportBody.TheVariants as tell
use Rattle.ground_history.specs.Histories.{Sent, Kept, History, tag_of}
use Rattle.ground_history.specs.Ground.{HaveRisingTags, newest_told, tells_structure}
use Rattle.definition_intervals.specs.Openings.{reported_structure}
use Rattle.definition_intervals.proofs.KeptLemmas.{newest-above}
use Rattle.verdict_tables.specs.Places.{report_places, bound_places, changed_keys}
use Rattle.verdict_tables.specs.Collecting.{tags_of, Collects, tags_if, named_places, sent_places}

-- tags that are collected one after the other
pub collects-both : (old middle new : List (Key × List ℕ)) (f g : Key → List ℕ) → Collects old middle f → Collects middle new g → Collects old new (λ key. f key ++ g key)
collects-both old middle new f g h k key =
    k key ∙ (ap (λ l. l ++ g key) (h key) ∙ append_assoc (tags_of old key) (f key) (g key))

pub collects-same : (old new : List (Key × List ℕ)) (f g : Key → List ℕ) → ((key : Key) → f key ≡ g key) → Collects old new f → Collects old new g
collects-same old new f g same h key = h key ∙ ap (λ l. tags_of old key ++ l) (same key)

pub collects-none : (old : List (Key × List ℕ)) → Collects old old (λ key. [])
collects-none old key = sym (append-nil (tags_of old key))

-- the two bounds of a request
pub bounds-both : (named key : Key) (low high : ℕ) → tags_if named key (low ∷ []) ++ tags_if named key (high ∷ []) ≡ tags_if named key (low ∷ high ∷ [])
bounds-both named key low high = go (key_eq named key)
  where
    go : (b : Bool) → (if b then low ∷ [] else []) ++ (if b then high ∷ [] else []) ≡ (if b then low ∷ high ∷ [] else [])
    go true = refl
    go false = refl

-- one more structure that a request names
pub named-more : (bounds : List ℕ) (named : List Key) (one : Key) (key : Key) → named_places bounds named key ++ tags_if one key bounds ≡ named_places bounds (named ++ one ∷ []) key
named-more bounds named one key =
    sym (flat_map-append (λ n. tags_if n key bounds) named (one ∷ []) ∙ ap (λ l. named_places bounds named key ++ l) (append-nil (tags_if one key bounds)))

-- the pieces of one more numbered member
pub pieces-more : {X Y : Type 0} (f : ℕ × X → List Y) (n : ℕ) (xs : List X) (i : ℕ) (x : X) (m : ℕ) → m ≡ n + i → slice_get xs i ≡ Some x
    → flat_map f (take (suc i) (enumerate_from n xs)) ≡ flat_map f (take i (enumerate_from n xs)) ++ f (m, x)
pieces-more f n [] i x m e at = absurd (omega (arith, slice_get_within [] i x at))
pieces-more {X = X} f n (y ∷ ys) zero x m e at =
    append-nil (f (n, y)) ∙ (ap (λ (z : X). f (n, z)) (some_value y x at) ∙ ap (λ k. f (k, x)) (let same : n ≡ m = omega (arith, e) in same))
pieces-more f n (y ∷ ys) (suc i) x m e at =
    ap (λ l. f (n, y) ++ l) (pieces-more f (n + 1) ys i x m (omega (arith, e)) at)
    ∙ sym (append_assoc (f (n, y)) (flat_map f (take i (enumerate_from (n + 1) ys))) (f (m, x)))

-- so many first packets have lower tags, and the others don't
pub record IsSplit (kept : List Kept) (number from : ℕ) : Type 0 where
  pub below : AllByRecursion (λ k. tag_of k < from) (take number kept)
  pub above : AllByRecursion (λ k. from ≤ tag_of k) (drop number kept)

pub split-first : (kept : List Kept) → IsSplit kept 0 0
split-first kept = record { below = tt; above = all kept }
  where
    all : (ks : List Kept) → AllByRecursion (λ k. 0 ≤ tag_of k) ks
    all [] = tt
    all (k ∷ ks) = (omega arith, all ks)

-- the next packet is the first one whose tag isn't lower
pub split-found : (kept : List Kept) (number from : ℕ) → number < length kept → IsSplit kept number from → find (λ k. nat_le from (tag_of k)) kept ≡ slice_get kept number
split-found [] number from l is = absurd (omega (arith, l))
split-found (k ∷ ks) zero from l is = ap (λ b. if b then Some k else find (λ x. nat_le from (tag_of x)) ks) (le-leb from (tag_of k) is.above.0)
split-found (k ∷ ks) (suc n) from l is =
    ap (λ b. if b then Some k else find (λ x. nat_le from (tag_of x)) ks) (lt-leb from (tag_of k) is.below.0)
    ∙ split-found ks n from (omega (arith, l)) (record { below = is.below.1; above = is.above })

pub split-next : (kept : List Kept) (number next : ℕ) (k : Kept) → HaveRisingTags kept → slice_get kept number ≡ Some k → next ≡ tag_of k + 1 → IsSplit kept (suc number) next
split-next [] number next k rising at e = absurd (omega (arith, slice_get_within [] number k at))
split-next (x ∷ xs) zero next k rising at e =
    let same = ap (λ (y : Kept). tag_of y) (some_value x k at) in
    record { below = (omega (arith, same, e), tt); above = later (omega (arith, same, e)) xs rising.0 }
  where
    later : next ≡ tag_of x + 1 → (ys : List Kept) → AllByRecursion (λ y. tag_of x < tag_of y) ys → AllByRecursion (λ y. next ≤ tag_of y) ys
    later h [] all = tt
    later h (y ∷ ys) all = (omega (arith, h, all.0), later h ys all.1)
split-next (x ∷ xs) (suc n) next k rising at e =
    let rest = split-next xs n next k rising.1 at e in
    let lower = AllByRecursion-IsIn (λ y. tag_of x < tag_of y) k xs rising.0 (slice_get-IsIn k xs n at) in
    record { below = (omega (arith, lower, e), rest.below); above = rest.above }

untold-body : (key : Key) (body : ReportBody) → tells_structure body ≡ false → reported_structure key body ≡ None
untold-body key (tell.Verify v) e = refl
untold-body key (tell.Stat r) e = refl
untold-body key (tell.Par r) e = refl
untold-body key (Hk (hk.Structure named s)) e = absurd (both_ways true e refl)
untold-body key (Hk (hk.Values named payload)) e = refl
untold-body key (Hk (hk.Periodic kind rows)) e = refl

untold-places : (key : Key) (k : Kept) → tells_structure k.report.body ≡ false → report_places key k ≡ []
untold-places key k e = ap (λ (o : Option Structure). if is_some o then (tag_of k + 1) ∷ [] else []) (untold-body key k.report.body e)

-- no report behind the last one of a structure has a place
pub places-end : (key : Key) (kept : List Kept) (number from : ℕ) → IsSplit kept number from → newest_told kept < from → flat_map (report_places key) (take number kept) ≡ flat_map (report_places key) kept
places-end key kept number from is lt =
    sym (append-nil (flat_map (report_places key) (take number kept)))
    ∙ (ap (λ l. flat_map (report_places key) (take number kept) ++ l) (sym (none (drop number kept) is.above (λ k i. dropped-in number kept k i)))
    ∙ (sym (flat_map-append (report_places key) (take number kept) (drop number kept)) ∙ ap (λ ks. flat_map (report_places key) ks) (take-append-drop number kept)))
  where
    one : (k : Kept) → from ≤ tag_of k → IsIn k kept → (b : Bool) → tells_structure k.report.body ≡ b → report_places key k ≡ []
    one k le i true e = let high = newest-above k kept i e in absurd (omega (arith, le, lt, high))
    one k le i false e = untold-places key k e

    none : (ks : List Kept) → AllByRecursion (λ k. from ≤ tag_of k) ks → ((k : Kept) → IsIn k ks → IsIn k kept) → flat_map (report_places key) ks ≡ []
    none [] all sub = refl
    none (k ∷ ks) all sub =
        ap (λ l. l ++ flat_map (report_places key) ks) (one k all.0 (sub k (inl refl)) (tells_structure k.report.body) refl) ∙ none ks all.1 (λ x i. sub x (inr i))

    dropped-in : (n : ℕ) (ks : List Kept) (k : Kept) → IsIn k (drop n ks) → IsIn k ks
    dropped-in zero ks k i = i
    dropped-in (suc n) [] k i = absurd i
    dropped-in (suc n) (x ∷ ks) k i = inr (dropped-in n ks k i)

pub pieces-next : {X Y : Type 0} (f : X → List Y) (xs : List X) (i : ℕ) (x : X) → slice_get xs i ≡ Some x → flat_map f (take i xs) ++ f x ≡ flat_map f (take (i + 1) xs)
pieces-next {X = X} f xs i x at =
    sym (ap (λ l. flat_map f l) (take_more xs i x (slice_get_within xs i x at) ∙ ap (λ (y : X). take i xs ++ y ∷ []) (get_or_from_slice_get xs i x x at))
    ∙ (flat_map-append f (take i xs) (x ∷ []) ∙ ap (λ l. flat_map f (take i xs) ++ l) (append-nil (f x))))

pub member-at : {X : Type 0} (xs : List X) (i : ℕ) → i < length xs → (x : X) × (slice_get xs i ≡ Some x)
member-at [] i l = absurd (omega (arith, l))
member-at (x ∷ xs) zero l = (x, refl)
member-at (x ∷ xs) (suc i) l = member-at xs i (omega (arith, l))

-- the place of a report that tells of a structure, and of one that doesn't
pub told-places : (named : Key) (structure : Structure) (kept : Kept) (next : ℕ) → next ≡ tag_of kept + 1 → kept.report.body ≡ Hk (hk.Structure named structure)
    → (key : Key) → tags_if named key (next ∷ []) ≡ report_places key kept
told-places named structure kept next e is key =
    go (key_eq named key) ∙ ap (λ (body : ReportBody). if is_some (reported_structure key body) then (tag_of kept + 1) ∷ [] else []) (sym is)
  where
    go : (b : Bool) → (if b then next ∷ [] else []) ≡ (if is_some (if b then Some structure else None) then (tag_of kept + 1) ∷ [] else [])
    go true = ap (λ n. n ∷ []) e
    go false = refl

longer-pieces : (h : History) (n : ℕ) (sent : Sent) → slice_get h.requests n ≡ Some sent → (key : Key)
    → flat_map (sent_places h key) (take n (enumerate_from 0 h.requests)) ++ sent_places h key (n, sent) ≡ flat_map (sent_places h key) (take (n + 1) (enumerate_from 0 h.requests))
longer-pieces h n sent at key =
    sym (ap (λ k. flat_map (sent_places h key) (take k (enumerate_from 0 h.requests))) (add-one n) ∙ pieces-more (sent_places h key) 0 h.requests n sent n (omega arith) at)

-- one more request, of which it is known what it asks, or isn't
pub sent-step : (h : History) (n : ℕ) (sent : Sent) (r : Request) (old middle new : List (Key × List ℕ)) → slice_get h.requests n ≡ Some sent → sent.request ≡ Some r
    → Collects old middle (λ key. flat_map (sent_places h key) (take n (enumerate_from 0 h.requests)))
    → Collects middle new (named_places (bound_places h n) (changed_keys r))
    → Collects old new (λ key. flat_map (sent_places h key) (take (n + 1) (enumerate_from 0 h.requests)))
sent-step h n sent r old middle new at is earlier more =
    collects-same old new
    (λ key. flat_map (sent_places h key) (take n (enumerate_from 0 h.requests)) ++ named_places (bound_places h n) (changed_keys r) key)
    (λ key. flat_map (sent_places h key) (take (n + 1) (enumerate_from 0 h.requests)))
    (λ key. ap (λ (o : Option Request). flat_map (sent_places h key) (take n (enumerate_from 0 h.requests)) ++ option_map_or (λ q. named_places (bound_places h n) (changed_keys q) key) o []) (sym is)
    ∙ longer-pieces h n sent at key)
    (collects-both old middle new
    (λ key. flat_map (sent_places h key) (take n (enumerate_from 0 h.requests)))
    (named_places (bound_places h n) (changed_keys r)) earlier more)

pub unsent-step : (h : History) (n : ℕ) (sent : Sent) (old new : List (Key × List ℕ)) → slice_get h.requests n ≡ Some sent → sent.request ≡ None
    → Collects old new (λ key. flat_map (sent_places h key) (take n (enumerate_from 0 h.requests)))
    → Collects old new (λ key. flat_map (sent_places h key) (take (n + 1) (enumerate_from 0 h.requests)))
unsent-step h n sent old new at is earlier =
    collects-same old new
    (λ key. flat_map (sent_places h key) (take n (enumerate_from 0 h.requests)))
    (λ key. flat_map (sent_places h key) (take (n + 1) (enumerate_from 0 h.requests)))
    (λ key. sym (append-nil (flat_map (sent_places h key) (take n (enumerate_from 0 h.requests))))
    ∙ (ap (λ (o : Option Request). flat_map (sent_places h key) (take n (enumerate_from 0 h.requests)) ++ option_map_or (λ q. named_places (bound_places h n) (changed_keys q) key) o []) (sym is)
    ∙ longer-pieces h n sent at key)) earlier

pub none_is_some : {X : Type 0} {x : X} → None ≡ Some x → ⊥
none_is_some e = cc
