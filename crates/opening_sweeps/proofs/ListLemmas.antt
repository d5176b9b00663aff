-- The lists of openings at a tag, as the parts that a sweep has.
use Rattle.std.proofs.Common.{arith, ◌≡◌, ℕ, zero, suc, ◌+◌, ◌<◌, ◌≤◌, refl, sym, ◌∙◌, ap, subst, List, [], ◌∷◌, ◌++◌, Bool, true, false, ◌||◌, ◌&&◌, ◌⊎◌, inl, inr, Option, Some, None, length, map, take, drop, append-nil, append_assoc}
use Rattle.std.specs.Prelude.{filter, filter_map, nat_le, nat_lt, not, option_map, option_and_then, find, unwrap_or, if◌then◌else◌}
use Rattle.std.specs.List.{All, AllByRecursion, enumerate_from, cons_option}
use Rattle.std.specs.Option.{option_map_or}
use Rattle.std.proofs.lemmas.Bool.{le-leb, leb-true, lt-leb, lt-ltb, le-ltb, both_ways}
use Rattle.std.proofs.lemmas.List.{take-append-drop, map-append, length-take-le}
use Rattle.std.proofs.lemmas.List.Elements.{filter_map-append, filter-append, recursion_from_All}
use Rattle.hk_base.specs.TailoringParts.{TailoringParts}
use Rattle.hk_base.specs.Parameters.{boot_structure}
use Rattle.hk_base.specs.declared.types.Key.{Key}
use Rattle.hk_base.specs.declared.types.Structure.{Structure}
use Rattle.st03_grammar.specs.Instructions.{StructureChange}
use Rattle.pus_messages.specs.Changes.{change_by}
use Rattle.ground_history.specs.Histories.{Sent, Kept, History, tag_of}
use Rattle.ground_history.specs.Evidence.{low, high, is_accepted, is_barred, outcome}
use Rattle.definition_intervals.specs.Openings.{Candidate, Opening, is_at_most, is_certain, candidate, candidates, from_creation, opening, reported_structure, report_opening, boot_openings, openings, first_open}
use Rattle.definition_intervals.specs.Verdicts.{later_of, latest, named_request}
use Rattle.definition_intervals.specs.Founds.{found_after_all, first_after_all, AreFoundOf, OpeningsAreFound}
use Rattle.opening_sweeps.specs.Requests.{Bounded, Start, bounded_request, bounded_requests, as_request, between, settled, told_start, told_starts, boot_starts, HaveRisingStarts}
use Rattle.opening_sweeps.specs.Groups.{unsure}
use Rattle.opening_sweeps.specs.Sweeps.{last_tag}
use Rattle.opening_sweeps.proofs.FoldLemmas.{first_all-append}
use Rattle.opening_sweeps.proofs.StartLemmas.{take-parts, at_most-more}

-- what is known of a request, with its change
made : History → ℕ → ℕ × StructureChange → Bounded
made h k c = record { number = k; change = c.1; low = low h k; high = high h k; accepted = is_accepted h k; outcome = outcome h k c.0 }

between_by : ℕ → ℕ → Bool → Bool → Bounded → Option Candidate
between_by from tag late past r = if late || past then None else Some (as_request (nat_le from r.low && r.accepted && is_at_most r.high tag) r)

candidate_made : History → ℕ → ℕ → ℕ → ℕ × StructureChange → Candidate
candidate_made h from tag k c = record { number = k; change = c.1; certain = is_certain h from tag k; outcome = outcome h k c.0 }

candidate-bounded : (h : History) (key : Key) (from tag : ℕ) (x : ℕ × Sent) → candidate h key from tag x ≡ option_and_then (between from tag) (bounded_request h key x)
unfolding made between_by candidate_made
candidate-bounded h key from tag x =
    go (is_barred h x.0) (nat_le tag (low h x.0)) (is_at_most (high h x.0) from) (option_and_then (change_by key) x.1.request)
    ∙ sym (same (is_barred h x.0) (option_and_then (change_by key) x.1.request))
  where
    same : (b : Bool) (o : Option (ℕ × StructureChange)) → option_and_then (between from tag) (if b then None else option_map (made h x.0) o)
        ≡ option_and_then (between_by from tag (nat_le tag (low h x.0)) (is_at_most (high h x.0) from)) (if b then None else option_map (made h x.0) o)
    same true o = refl
    same false None = refl
    same false (Some c) = refl

    go : (b late past : Bool) (o : Option (ℕ × StructureChange)) → (if not (late || b) && not past then option_map (candidate_made h from tag x.0) o else None)
        ≡ option_and_then (between_by from tag late past) (if b then None else option_map (made h x.0) o)
    go true true past o = refl
    go true false past o = refl
    go false true past None = refl
    go false true past (Some c) = refl
    go false false true None = refl
    go false false true (Some c) = refl
    go false false false None = refl
    go false false false (Some c) = refl

candidates-among : (h : History) (key : Key) (from tag : ℕ) (xs : List (ℕ × Sent)) → filter_map (candidate h key from tag) xs ≡ filter_map (between from tag) (filter_map (bounded_request h key) xs)
candidates-among h key from tag [] = refl
candidates-among h key from tag (x ∷ xs) =
    ap (λ o. cons_option o (filter_map (candidate h key from tag) xs)) (candidate-bounded h key from tag x)
    ∙ (ap (λ l. cons_option (option_and_then (between from tag) (bounded_request h key x)) l) (candidates-among h key from tag xs) ∙ go (bounded_request h key x))
  where
    rest : List Bounded
    rest = filter_map (bounded_request h key) xs

    go : (o : Option Bounded) → cons_option (option_and_then (between from tag) o) (filter_map (between from tag) rest) ≡ filter_map (between from tag) (cons_option o rest)
    go None = refl
    go (Some r) = refl

pub candidates-bounded : (h : History) (key : Key) (from tag : ℕ) → candidates h key from tag ≡ filter_map (between from tag) (bounded_requests h key)
candidates-bounded h key from tag = candidates-among h key from tag (enumerate_from 0 h.requests)

-- the three parts of the requests
not_late : (tag : ℕ) (r : Bounded) → r.low < tag → nat_le tag r.low ≡ false
not_late tag r l = lt-leb tag r.low l

and_true : (b : Bool) → (b && true) ≡ b
and_true true = refl
and_true false = refl

and_false : (b : Bool) → (b && false) ≡ false
and_false true = refl
and_false false = refl

one-settled : (from tag : ℕ) (r : Bounded) → r.low < tag → is_at_most r.high tag ≡ true → between from tag r ≡ settled from r
one-settled from tag r l e =
    ap (λ b. if b || is_at_most r.high from then None else Some (as_request (nat_le from r.low && r.accepted && is_at_most r.high tag) r)) (not_late tag r l)
    ∙ ap (λ b. if is_at_most r.high from then None else Some (as_request b r)) (ap (λ b. nat_le from r.low && r.accepted && b) e ∙ and_true (nat_le from r.low && r.accepted))

one-unsure : (from tag : ℕ) (r : Bounded) → from ≤ tag → r.low < tag → is_at_most r.high tag ≡ false → between from tag r ≡ Some (as_request false r)
one-unsure from tag r le l e =
    ap (λ b. if b || is_at_most r.high from then None else Some (as_request (nat_le from r.low && r.accepted && is_at_most r.high tag) r)) (not_late tag r l)
    ∙ (ap (λ b. if b then None else Some (as_request (nat_le from r.low && r.accepted && is_at_most r.high tag) r)) (still (is_at_most r.high from) refl)
    ∙ ap (λ b. Some (as_request b r)) (ap (λ b. nat_le from r.low && r.accepted && b) e ∙ and_false (nat_le from r.low && r.accepted)))
  where
    still : (b : Bool) → is_at_most r.high from ≡ b → is_at_most r.high from ≡ false
    still false p = p
    still true p = absurd (both_ways (is_at_most r.high tag) e (at_most-more r.high from tag le p))

settled-part : (from tag : ℕ) (rs : List Bounded) → AllByRecursion (λ r. r.low < tag) rs → AllByRecursion (λ r. is_at_most r.high tag ≡ true) rs → filter_map (between from tag) rs ≡ filter_map (settled from) rs
settled-part from tag [] h g = refl
settled-part from tag (r ∷ rs) h g =
    ap (λ o. cons_option o (filter_map (between from tag) rs)) (one-settled from tag r h.0 g.0) ∙ ap (λ l. cons_option (settled from r) l) (settled-part from tag rs h.1 g.1)

unsure-part : (from tag : ℕ) (rs : List Bounded) → from ≤ tag → AllByRecursion (λ r. r.low < tag) rs → AllByRecursion (λ r. is_at_most r.high tag ≡ false) rs → filter_map (between from tag) rs ≡ unsure rs
unsure-part from tag [] le h g = refl
unsure-part from tag (r ∷ rs) le h g =
    ap (λ o. cons_option o (filter_map (between from tag) rs)) (one-unsure from tag r le h.0 g.0) ∙ ap (λ l. as_request false r ∷ l) (unsure-part from tag rs le h.1 g.1)

late-part : (from tag : ℕ) (rs : List Bounded) → AllByRecursion (λ r. tag ≤ r.low) rs → filter_map (between from tag) rs ≡ []
late-part from tag [] h = refl
late-part from tag (r ∷ rs) h =
    ap (λ b. cons_option (if b || is_at_most r.high from then None else Some (as_request (nat_le from r.low && r.accepted && is_at_most r.high tag) r)) (filter_map (between from tag) rs)) (le-leb tag r.low h.0)
    ∙ late-part from tag rs h.1

pub list-parts : (from tag m b : ℕ) (rs : List Bounded) → from ≤ tag → m ≤ b → AllByRecursion (λ r. r.low < tag) (take m rs) → AllByRecursion (λ r. is_at_most r.high tag ≡ true) (take m rs)
    → AllByRecursion (λ r. r.low < tag) (drop m (take b rs)) → AllByRecursion (λ r. is_at_most r.high tag ≡ false) (drop m (take b rs)) → AllByRecursion (λ r. tag ≤ r.low) (drop b rs)
    → filter_map (between from tag) rs ≡ filter_map (settled from) (take m rs) ++ unsure (drop m (take b rs))
list-parts from tag m b rs le order l1 h1 l2 h2 l3 =
    let front = take m rs in
    let tail = drop m (take b rs) in
    let all : rs ≡ (front ++ tail) ++ drop b rs = sym (take-append-drop b rs) ∙ ap (λ xs. xs ++ drop b rs) (take-parts rs m b order) in
    ap (λ xs. filter_map (between from tag) xs) all
    ∙ (filter_map-append (between from tag) (front ++ tail) (drop b rs)
    ∙ (ap (λ xs. filter_map (between from tag) (front ++ tail) ++ xs) (late-part from tag (drop b rs) l3)
    ∙ (append-nil (filter_map (between from tag) (front ++ tail))
    ∙ (filter_map-append (between from tag) front tail
    ∙ (ap (λ xs. xs ++ filter_map (between from tag) tail) (settled-part from tag front l1 h1) ∙ ap (λ xs. filter_map (settled from) front ++ xs) (unsure-part from tag tail le l2 h2))))))

-- the opening that begins with a state
abbrev pub opening_of : History → Key → ℕ → Start → Opening
opening_of h key tag s = opening h key tag s.tag s.state

abbrev pub found_of : TailoringParts → History → Key → ℕ → Start → Option (List (Option Structure))
found_of t h key tag s = found_after_all t (candidates h key s.tag tag) (Some (s.state ∷ []))

pub all-found : OpeningsAreFound → (t : TailoringParts) (h : History) (key : Key) (tag : ℕ) (ss : List Start) → AreFoundOf t (map (opening_of h key tag) ss) (map (found_of t h key tag) ss)
all-found law t h key tag [] = tt
all-found law t h key tag (s ∷ ss) = ((law t h key tag s.tag s.state).0, all-found law t h key tag ss)

-- the openings of the states that were told below a tag
reports-told : (h : History) (key : Key) (tag : ℕ) (ks : List Kept)
    → filter_map (report_opening h key tag) ks ≡ map (opening_of h key tag) (filter (λ s. nat_lt s.tag tag) (filter_map (told_start key) ks))
reports-told h key tag [] = refl
reports-told h key tag (k ∷ ks) = ap (λ l. cons_option (report_opening h key tag k) l) (reports-told h key tag ks) ∙ go (nat_lt (tag_of k) tag) (reported_structure key k.report.body) refl
  where
    rest : List Start
    rest = filter_map (told_start key) ks

    go : (b : Bool) (o : Option Structure) → nat_lt (tag_of k) tag ≡ b
        → cons_option (if b then option_map (λ s. opening h key tag (tag_of k) (Some s)) o else None) (map (opening_of h key tag) (filter (λ s. nat_lt s.tag tag) rest))
        ≡ map (opening_of h key tag) (filter (λ s. nat_lt s.tag tag) (cons_option (option_map (λ s. record { tag = tag_of k; state = Some s }) o) rest))
    go true None e = refl
    go false None e = refl
    go true (Some s) e =
        sym (ap (λ b. map (opening_of h key tag) (if b then record { tag = tag_of k; state = Some s } ∷ filter (λ x. nat_lt x.tag tag) rest else filter (λ x. nat_lt x.tag tag) rest)) e)
    go false (Some s) e =
        sym (ap (λ b. map (opening_of h key tag) (if b then record { tag = tag_of k; state = Some s } ∷ filter (λ x. nat_lt x.tag tag) rest else filter (λ x. nat_lt x.tag tag) rest)) e)

all-below : (tag : ℕ) (ss : List Start) → AllByRecursion (λ s. s.tag < tag) ss → filter (λ s. nat_lt s.tag tag) ss ≡ ss
all-below tag [] h = refl
all-below tag (s ∷ ss) h = ap (λ b. if b then s ∷ filter (λ x. nat_lt x.tag tag) ss else filter (λ x. nat_lt x.tag tag) ss) (lt-ltb s.tag tag h.0) ∙ ap (λ l. s ∷ l) (all-below tag ss h.1)

none-below : (tag : ℕ) (ss : List Start) → AllByRecursion (λ s. tag ≤ s.tag) ss → filter (λ s. nat_lt s.tag tag) ss ≡ []
none-below tag [] h = refl
none-below tag (s ∷ ss) h = ap (λ b. if b then s ∷ filter (λ x. nat_lt x.tag tag) ss else filter (λ x. nat_lt x.tag tag) ss) (le-ltb s.tag tag h.0) ∙ none-below tag ss h.1

pub openings-opened : (t : TailoringParts) (h : History) (key : Key) (tag j : ℕ) → AllByRecursion (λ s. s.tag < tag) (take j (told_starts h key)) → AllByRecursion (λ s. tag ≤ s.tag) (drop j (told_starts h key))
    → openings t h key tag ≡ map (opening_of h key tag) (boot_starts t h key ++ take j (told_starts h key))
openings-opened t h key tag j below above =
    let told = told_starts h key in
    let low : List Start → List Start = λ ss. filter (λ s. nat_lt s.tag tag) ss in
    let parts : low told ≡ take j told =
    ap (λ xs. filter (λ (s : Start). nat_lt s.tag tag) xs) (sym (take-append-drop j told))
    ∙ (filter-append (λ (s : Start). nat_lt s.tag tag) (take j told) (drop j told)
    ∙ (ap (λ xs. xs ++ filter (λ (s : Start). nat_lt s.tag tag) (drop j told)) (all-below tag (take j told) below)
    ∙ (ap (λ xs. take j told ++ xs) (none-below tag (drop j told) above) ∙ append-nil (take j told)))) in
    ap (λ l. boot_openings t h key tag ++ l) (reports-told h key tag h.kept ∙ ap (λ xs. map (opening_of h key tag) xs) parts)
    ∙ (ap (λ l. l ++ map (opening_of h key tag) (take j told)) (boot h.known) ∙ sym (map-append (opening_of h key tag) (boot_starts t h key) (take j told)))
  where
    boot : (b : Bool) → (if b then opening h key tag 0 (boot_structure t key) ∷ [] else []) ≡ map (opening_of h key tag) (if b then record { tag = 0; state = boot_structure t key } ∷ [] else [])
    boot true = refl
    boot false = refl

-- the last state, and the latest opening
abbrev pub last_start : Start → List Start → Start
last_start s [] = s
last_start s (x ∷ xs) = last_start x xs

pub last-tag : (d : ℕ) (s : Start) (ss : List Start) → last_tag d (s ∷ ss) ≡ (last_start s ss).tag
last-tag d s [] = refl
last-tag d s (x ∷ xs) = last-tag s.tag x xs

-- no tag is above those behind it
abbrev pub AreInOrder : List Start → Type 0
AreInOrder [] = Unit {0}
AreInOrder (s ∷ ss) = AllByRecursion (λ x. s.tag ≤ x.tag) ss × AreInOrder ss

opening-tag : (h : History) (key : Key) (tag : ℕ) (s : Start) → (opening_of h key tag s).tag ≡ s.tag
opening-tag h key tag s = go (from_creation (candidates h key s.tag tag))
  where
    go : (o : Option (List Candidate)) → (option_map_or {U = Opening} (λ rest. record { tag = s.tag; state = None; requests = rest }) o (record { tag = s.tag; state = s.state; requests = candidates h key s.tag tag })).tag ≡ s.tag
    go None = refl
    go (Some r) = refl

last-high : (m : ℕ) (s : Start) (ss : List Start) → m ≤ s.tag → AllByRecursion (λ x. m ≤ x.tag) ss → m ≤ (last_start s ss).tag
last-high m s [] le h = le
last-high m s (x ∷ xs) le h = last-high m x xs h.0 h.1

latest-last : (h : History) (key : Key) (tag : ℕ) (s : Start) (ss : List Start) → AreInOrder (s ∷ ss) → latest (map (opening_of h key tag) (s ∷ ss)) ≡ Some (opening_of h key tag (last_start s ss))
latest-last h key tag s [] order = refl
latest-last h key tag s (x ∷ xs) order =
    let last = opening_of h key tag (last_start x xs) in
    let first = opening_of h key tag s in
    let high : s.tag ≤ (last_start x xs).tag = last-high s.tag x xs order.0.0 order.0.1 in
    let later : nat_lt last.tag first.tag ≡ false = le-ltb last.tag first.tag (omega (arith, opening-tag h key tag s, opening-tag h key tag (last_start x xs))) in
    ap (λ o. Some (later_of first o)) (latest-last h key tag x xs order.1) ∙ ap (λ b. Some (if b then first else last)) later

pub named-last : OpeningsAreFound → (t : TailoringParts) (h : History) (key : Key) (tag : ℕ) (s : Start) (ss : List Start) → AreInOrder (s ∷ ss)
    → named_request (map (opening_of h key tag) (s ∷ ss)) ≡ unwrap_or (first_after_all (candidates h key (last_start s ss).tag tag) None) 0
named-last law t h key tag s ss order =
    let y = last_start s ss in
    ap (λ o. unwrap_or (option_and_then first_open o) 0) (latest-last h key tag s ss order) ∙ ap (λ f. unwrap_or f 0) (law t h key tag y.tag y.state).1

-- the boot state and those that were told are in order
told-order : (ss : List Start) → HaveRisingStarts ss → AreInOrder ss
told-order [] h = tt
told-order (s ∷ ss) h = (weak s ss h.0, told-order ss h.1)
  where
    weak : (x : Start) (xs : List Start) → AllByRecursion (λ y. x.tag < y.tag) xs → AllByRecursion (λ y. x.tag ≤ y.tag) xs
    weak x [] g = tt
    weak x (y ∷ ys) g = (omega (arith, g.0), weak x ys g.1)

taken-order : (n : ℕ) (ss : List Start) → AreInOrder ss → AreInOrder (take n ss)
taken-order zero ss h = tt
taken-order (suc n) [] h = tt
taken-order (suc n) (s ∷ ss) h = (part n s ss h.0, taken-order n ss h.1)
  where
    part : (k : ℕ) (x : Start) (xs : List Start) → AllByRecursion (λ y. x.tag ≤ y.tag) xs → AllByRecursion (λ y. x.tag ≤ y.tag) (take k xs)
    part zero x xs g = tt
    part (suc k) x [] g = tt
    part (suc k) x (y ∷ ys) g = (g.0, part k x ys g.1)

pub opened-order : (t : TailoringParts) (h : History) (key : Key) (n : ℕ) → HaveRisingStarts (told_starts h key) → AreInOrder (boot_starts t h key ++ take n (told_starts h key))
opened-order t h key n rising = go h.known
  where
    told : List Start
    told = take n (told_starts h key)

    above : (xs : List Start) → AllByRecursion (λ y. 0 ≤ y.tag) xs
    above [] = tt
    above (x ∷ xs) = (omega arith, above xs)

    go : (b : Bool) → AreInOrder ((if b then record { tag = 0; state = boot_structure t key } ∷ [] else []) ++ told)
    go true = (above told, taken-order n (told_starts h key) (told-order (told_starts h key) rising))
    go false = taken-order n (told_starts h key) (told-order (told_starts h key) rising)

-- their tags aren't above one that is passed
pub opened-below : (t : TailoringParts) (h : History) (key : Key) (tag n : ℕ) → AllByRecursion (λ s. s.tag < tag) (take n (told_starts h key)) → AllByRecursion (λ s. s.tag ≤ tag) (boot_starts t h key ++ take n (told_starts h key))
opened-below t h key tag n below = go h.known
  where
    told : List Start
    told = take n (told_starts h key)

    weak : (xs : List Start) → AllByRecursion (λ y. y.tag < tag) xs → AllByRecursion (λ y. y.tag ≤ tag) xs
    weak [] g = tt
    weak (y ∷ ys) g = (omega (arith, g.0), weak ys g.1)

    go : (b : Bool) → AllByRecursion (λ s. s.tag ≤ tag) ((if b then record { tag = 0; state = boot_structure t key } ∷ [] else []) ++ told)
    go true = (omega arith, weak told below)
    go false = weak told below
