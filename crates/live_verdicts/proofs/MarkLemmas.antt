-- From a mark on to the mark at a later tag.
use Rattle.std.proofs.Common.{arith, ◌≡◌, ℕ, ◌<◌, ◌≤◌, refl, sym, ◌∙◌, ap, subst, List, [], ◌∷◌, ◌++◌, length, map, Bool, true, false, inl, inr, Option, Some, None, IfSome, option_to_list, append_assoc, append-nil, ◌⊎◌}
use Rattle.std.proofs.lemmas.List.{map-append}
use Rattle.std.specs.Prelude.{filter, filter_map, nat_lt, nat_le, option_map, unwrap_or, if◌then◌else◌}
use Rattle.std.specs.List.{All, IsDistinct, cons_option}
use Rattle.std.proofs.lemmas.List.Elements.{All-from_recursion, All-weaker}
use Rattle.std.proofs.lemmas.Bool.{leb-true, ltb-true, le-ltb}
use Rattle.hk_base.specs.TailoringParts.{TailoringParts}
use Rattle.hk_base.specs.Parameters.{boot_structure}
use Rattle.hk_base.specs.declared.types.Key.{Key}
use Rattle.hk_base.specs.declared.types.Structure.{Structure}
use Rattle.hk_base.proofs.Membership.{some_value, IsIn, IsIn-append, IsIn-filter, IsIn-filter_map, AllByRecursion-IsIn, IsIn-AllByRecursion}
use Rattle.ground_history.specs.Histories.{Kept, History, tag_of}
use Rattle.ground_history.specs.Ground.{Ground, IsGrounded, HaveRisingTags, newest_told}
use Rattle.definition_intervals.specs.Openings.{Candidate, candidates, openings, opening, report_opening, reported_structure}
use Rattle.definition_intervals.specs.Bases.{IsBasis, IsFormedBasis}
use Rattle.definition_intervals.specs.Founds.{found_after_all, first_after_all, IsFormedFound, IsBasisOf, OpeningsAreFound, SameIsFound, FindsGiveBases}
use Rattle.definition_intervals.specs.Verdicts.{named_request}
use Rattle.definition_intervals.specs.declared.answer.Basis.{Basis}
use Rattle.definition_intervals.specs.States.{state_eq}
use Rattle.opening_sweeps.specs.Requests.{Start, told_start, boot_starts, IsFormedStart}
use Rattle.opening_sweeps.proofs.JoinLemmas.{formed-one}
use Rattle.opening_sweeps.proofs.FoldLemmas.{after_all-append, first_all-append}
use Rattle.opening_sweeps.proofs.ListLemmas.{opening_of, all-found, last_start, AreInOrder, named-last}
use Rattle.opening_sweeps.proofs.BasisLemmas.{basis-covered}
use Rattle.entry_changes.specs.Changes.{told_start_below, told_below, unsures}
use Rattle.live_verdicts.specs.Marks.{starts_below, found_at, first_found, first_at, AreAlike, AreFound, AreKnown, IsFormedMark, IsMark, HavePassed, ArePending, HoldsFor, GoesOn, ComesTo, IsNear, AreListedBelow, among, passed, told_between, found_by, first_by}
use Rattle.live_verdicts.specs.declared.mark.Mark.{Mark}
use Rattle.live_verdicts.proofs.SplitLemmas.{candidates-front, open-same, passed-same, passed-split, passed-behind, passed-later}
use Rattle.entry_changes.proofs.SameLemmas.{filter_map-none}
use Rattle.live_verdicts.proofs.ToldLemmas.{told-split, told-after}
use Rattle.live_verdicts.proofs.FindLemmas.{alike-covered, alike-refl, alike-trans, alike-after}

-- ---- the states that openings begin with

pub map-same : {X Y : Type 0} (f g : X → Y) (xs : List X) → ((x : X) → IsIn x xs → f x ≡ g x) → map f xs ≡ map g xs
map-same f g [] h = refl
map-same f g (x ∷ xs) h = ap (λ y. y ∷ map f xs) (h x (inl refl)) ∙ ap (λ ys. g x ∷ ys) (map-same f g xs (λ y i. h y (inr i)))

pub map-twice : {X Y Z : Type 0} (g : Y → Z) (f : X → Y) (xs : List X) → map g (map f xs) ≡ map (λ x. g (f x)) xs
map-twice g f [] = refl
map-twice g f (x ∷ xs) = ap (λ ys. g (f x) ∷ ys) (map-twice g f xs)

-- a state that a packet tells below a tag has the packet's tag
told-tag : (key : Key) (tag : ℕ) (k : Kept) (s : Start) → told_start_below key tag k ≡ Some s → (s.tag ≡ tag_of k) × (tag_of k < tag)
told-tag key tag k s e = go (nat_lt (tag_of k) tag) refl (reported_structure key k.report.body) e
  where
    made : Bool → Option Structure → Option Start
    made b o = if b then option_map (λ x. record { tag = tag_of k; state = Some x }) o else None

    go : (b : Bool) → nat_lt (tag_of k) tag ≡ b → (o : Option Structure) → made b o ≡ Some s → (s.tag ≡ tag_of k) × (tag_of k < tag)
    go true p (Some x) q = (ap (λ (y : Start). y.tag) (sym (some_value _ s q)), ltb-true (tag_of k) tag p)
    go true p None q = absurd (let no : None ≡ Some s → ⊥ = λ e. cc in no q)
    go false p o q = absurd (let no : None ≡ Some s → ⊥ = λ e. cc in no q)

told-member : (h : History) (key : Key) (tag : ℕ) (s : Start) → IsIn s (told_below h key tag) → s.tag < tag
told-member h key tag s i =
    let k = IsIn-filter_map (told_start_below key tag) s h.kept i in
    let t = told-tag key tag k.0 s k.2 in
    omega (arith, t.0, t.1)

boot-member : (t : TailoringParts) (h : History) (key : Key) (s : Start) → IsIn s (boot_starts t h key) → s.tag ≡ 0
boot-member t h key s i = go h.known i
  where
    go : (b : Bool) → IsIn s (if b then record { tag = 0; state = boot_structure t key } ∷ [] else []) → s.tag ≡ 0
    go true (inl e) = ap (λ (x : Start). x.tag) e
    go true (inr j) = absurd j
    go false j = absurd j

pub below-member : (t : TailoringParts) (h : History) (key : Key) (tag : ℕ) (s : Start) → IsIn s (starts_below t h key tag) → s.tag ≤ tag
below-member t h key tag s i = go (IsIn-append s (boot_starts t h key) (told_below h key tag) i)
  where
    go : IsIn s (boot_starts t h key) ⊎ IsIn s (told_below h key tag) → s.tag ≤ tag
    go (inl j) = let zero_ = boot-member t h key s j in omega (arith, zero_)
    go (inr j) = let lt = told-member h key tag s j in omega (arith, lt)

between-member : (h : History) (key : Key) (from tag : ℕ) (s : Start) → IsIn s (told_between h key from tag) → from ≤ s.tag
between-member h key from tag s i =
    let k = IsIn-filter_map (told_start_below key tag) s (filter (λ x. nat_le from (tag_of x)) h.kept) i in
    let at = leb-true from (tag_of k.0) (IsIn-filter (λ x. nat_le from (tag_of x)) k.0 h.kept k.1).1 in
    let t = told-tag key tag k.0 s k.2 in
    omega (arith, at, t.0)

between-below : (h : History) (key : Key) (from tag : ℕ) (s : Start) → IsIn s (told_between h key from tag) → s.tag < tag
between-below h key from tag s i =
    let k = IsIn-filter_map (told_start_below key tag) s (filter (λ x. nat_le from (tag_of x)) h.kept) i in
    let t = told-tag key tag k.0 s k.2 in
    omega (arith, t.0, t.1)

-- they are in the order of tags
kept-order : (key : Key) (tag : ℕ) (ks : List Kept) → HaveRisingTags ks → AreInOrder (filter_map (told_start_below key tag) ks)
kept-order key tag [] rising = tt
kept-order key tag (k ∷ ks) rising = go (told_start_below key tag k) refl (kept-order key tag ks rising.1)
  where
    go : (o : Option Start) → told_start_below key tag k ≡ o → AreInOrder (filter_map (told_start_below key tag) ks) → AreInOrder (cons_option o (filter_map (told_start_below key tag) ks))
    go None e ih = ih
    go (Some s) e ih = (
      IsIn-AllByRecursion (λ x. s.tag ≤ x.tag) (filter_map (told_start_below key tag) ks)
          (λ x i.
          let j = IsIn-filter_map (told_start_below key tag) x ks i in
          let later = AllByRecursion-IsIn (λ y. tag_of k < tag_of y) j.0 ks rising.0 j.1 in
          let a = told-tag key tag k s e in
          let b = told-tag key tag j.0 x j.2 in
          omega (arith, later, a.0, b.0)),
      ih,
    )

starts-order : (t : TailoringParts) (h : History) (key : Key) (tag : ℕ) → HaveRisingTags h.kept → AreInOrder (starts_below t h key tag)
starts-order t h key tag rising = go h.known
  where
    go : (b : Bool) → AreInOrder ((if b then record { tag = 0; state = boot_structure t key } ∷ [] else []) ++ told_below h key tag)
    go true = (IsIn-AllByRecursion (λ (x : Start). 0 ≤ x.tag) (told_below h key tag) (λ x i. omega arith), kept-order key tag h.kept rising)
    go false = kept-order key tag h.kept rising

-- the openings for reports with a tag begin with them
reports-opened : (h : History) (key : Key) (tag : ℕ) (ks : List Kept) → filter_map (report_opening h key tag) ks ≡ map (opening_of h key tag) (filter_map (told_start_below key tag) ks)
reports-opened h key tag [] = refl
reports-opened h key tag (k ∷ ks) = go (nat_lt (tag_of k) tag) (reported_structure key k.report.body) (reports-opened h key tag ks)
  where
    go : (b : Bool) (o : Option Structure) → filter_map (report_opening h key tag) ks ≡ map (opening_of h key tag) (filter_map (told_start_below key tag) ks)
        → cons_option (if b then option_map (λ s. opening h key tag (tag_of k) (Some s)) o else None) (filter_map (report_opening h key tag) ks)
        ≡ map (opening_of h key tag) (cons_option (if b then option_map (λ s. record { tag = tag_of k; state = Some s }) o else None) (filter_map (told_start_below key tag) ks))
    go true (Some s) e = ap (λ os. opening h key tag (tag_of k) (Some s) ∷ os) e
    go true None e = e
    go false o e = e

pub starts-opened : (t : TailoringParts) (h : History) (key : Key) (tag : ℕ) → openings t h key tag ≡ map (opening_of h key tag) (starts_below t h key tag)
starts-opened t h key tag = go h.known
  where
    go : (b : Bool)
        → (if b then opening h key tag 0 (boot_structure t key) ∷ [] else []) ++ filter_map (report_opening h key tag) h.kept
        ≡ map (opening_of h key tag) ((if b then record { tag = 0; state = boot_structure t key } ∷ [] else []) ++ told_below h key tag)
    go true = ap (λ os. opening h key tag 0 (boot_structure t key) ∷ os) (reports-opened h key tag h.kept)
    go false = reports-opened h key tag h.kept

-- ---- the first open change of the latest opening

first-last : (requests : ℕ → List Candidate) (s : Start) (ss : List Start) → first_at requests (s ∷ ss) ≡ first_after_all (requests (last_start s ss).tag) None
first-last requests s [] = refl
first-last requests s (x ∷ ss) = first-last requests x ss

first-behind : (requests : ℕ → List Candidate) (ss : List Start) (s : Start) (rest : List Start) → first_at requests (ss ++ s ∷ rest) ≡ first_at requests (s ∷ rest)
first-behind requests [] s rest = refl
first-behind requests (x ∷ []) s rest = refl
first-behind requests (x ∷ y ∷ ss) s rest = first-behind requests (y ∷ ss) s rest

first-same : (requests others : ℕ → List Candidate) (ss : List Start) → ((s : Start) → IsIn s ss → requests s.tag ≡ others s.tag) → first_at requests ss ≡ first_at others ss
first-same requests others [] same = refl
first-same requests others (s ∷ []) same = ap (λ cs. first_after_all cs None) (same s (inl refl))
first-same requests others (s ∷ x ∷ ss) same = first-same requests others (x ∷ ss) (λ y i. same y (inr i))

-- by the same requests the same is found
pub found-same : (t : TailoringParts) (requests others : ℕ → List Candidate) (ss : List Start) (fs : List (Option (List (Option Structure)))) (change : Option ℕ)
    → ((s : Start) → IsIn s ss → requests s.tag ≡ others s.tag) → AreFound t requests ss fs change → AreFound t others ss fs change
found-same t requests others ss fs change same are =
    record {
      finds = subst (λ xs. AreAlike xs fs) (map-same (found_at t requests) (found_at t others) ss (λ s i. ap (λ cs. found_after_all t cs (first_found s)) (same s i))) are.finds;
      first = λ l. are.first l ∙ first-same requests others ss same;
    }

first-on : (h : History) (key : Key) (m : Mark) (tag n end : ℕ) → GoesOn h m n tag → m.opened ≤ tag → n ≤ end → (ss : List Start) → ((s : Start) → IsIn s ss → s.tag ≤ m.opened) → 1 ≤ length ss
    → first_at (λ s. among h key s tag 0 end) ss ≡ first_after_all (among h key m.opened tag n end) (first_at (passed h key m.tag m.past n) ss)
first-on h key m tag n end goes below order [] low l = absurd (omega (arith, l))
first-on h key m tag n end goes below order (s ∷ []) low l =
    ap (λ cs. first_after_all cs None) (passed-split h key m s.tag tag n end goes below (low s (inl refl)) order)
    ∙ first_all-append (passed h key m.tag m.past n s.tag) (among h key m.opened tag n end) None
first-on h key m tag n end goes below order (s ∷ x ∷ ss) low l = first-on h key m tag n end goes below order (x ∷ ss) (λ y i. low y (inr i)) (omega arith)

first-new : (h : History) (key : Key) (m : Mark) (tag n end : ℕ) → GoesOn h m n tag → m.past ≤ end → (s : Start) (ss : List Start) (given : Option ℕ) → ((x : Start) → IsIn x (s ∷ ss) → m.tag ≤ x.tag)
    → first_by h key tag m.past end (s ∷ ss) given ≡ first_at (λ x. among h key x tag 0 end) (s ∷ ss)
first-new h key m tag n end goes order s [] given high = ap (λ cs. first_after_all cs None) (sym (passed-behind h key m s.tag tag end goes.holds.passed (high s (inl refl)) order))
first-new h key m tag n end goes order s (x ∷ ss) given high =
    first-new h key m tag n end goes order x ss (first_after_all (among h key s.tag tag m.past end) None) (λ y i. high y (inr i))

-- ---- the mark at the later tag

-- what is found at the later tag by those that a mark holds, and by those that open behind it
pub record IsLater (g : Ground) (key : Key) (m : Mark) (tag n end : ℕ) (finds : List (Option (List (Option Structure)))) (first : Option ℕ) (later : List (Option (List (Option Structure)))) (last : Option ℕ) : Type 0 where
  pub early : AreAlike (map (found_after_all g.tailoring (among g.history key m.opened tag n end)) m.finds.items) finds
  pub change : first ≡ first_after_all (among g.history key m.opened tag n end) m.first
  pub all : (fs : List (Option (List (Option Structure)))) → AreAlike fs finds → AreAlike (fs ++ map (found_by g.tailoring g.history key tag m.past end) (told_between g.history key m.tag tag)) later
  pub latest : last ≡ first_by g.history key tag m.past end (told_between g.history key m.tag tag) first

later-starts : (g : Ground) (key : Key) (from tag : ℕ) → IsGrounded g → from ≤ tag
    → starts_below g.tailoring g.history key tag ≡ starts_below g.tailoring g.history key from ++ told_between g.history key from tag
later-starts g key from tag grounded le =
    ap (λ ss. boot_starts g.tailoring g.history key ++ ss) (told-split g.history key from tag grounded.tags le)
    ∙ sym (append_assoc (boot_starts g.tailoring g.history key) (told_below g.history key from) (told_between g.history key from tag))

-- the states that a mark holds open before it
opened-member : (g : Ground) (key : Key) (m : Mark) → IsMark g key m → (s : Start) → IsIn s (starts_below g.tailoring g.history key m.tag) → s.tag ≤ m.opened
opened-member g key m mark s i =
    below-member g.tailoring g.history key m.opened s (subst (λ ss. IsIn s (boot_starts g.tailoring g.history key ++ ss)) mark.told i)

later-finds : SameIsFound → (g : Ground) (key : Key) (m : Mark) (tag n end : ℕ) (finds : List (Option (List (Option Structure)))) (first : Option ℕ) (later : List (Option (List (Option Structure)))) (last : Option ℕ)
    → IsGrounded g → IsMark g key m → GoesOn g.history m n tag → n ≤ end → IsLater g key m tag n end finds first later last
    → AreAlike (map (found_at g.tailoring (λ s. among g.history key s tag 0 end)) (starts_below g.tailoring g.history key tag)) later
later-finds law g key m tag n end finds first later last grounded mark goes order is =
    subst (λ fs. AreAlike fs later) (sym all) (is.all (map (found_at t now) before) early)
  where
    t : TailoringParts
    t = g.tailoring

    h : History
    h = g.history

    before : List Start
    before = starts_below t h key m.tag

    tail : List Candidate
    tail = among h key m.opened tag n end

    now : ℕ → List Candidate
    now s = among h key s tag 0 end

    was : ℕ → List Candidate
    was = passed h key m.tag m.past n

    opened : m.opened ≤ tag
    opened = let a = mark.opened in let b = goes.holds.later in omega (arith, a, b)

    reach : m.past ≤ end
    reach = let a = goes.holds.order in omega (arith, a, order)

    early : AreAlike (map (found_at t now) before) finds
    early =
        subst (λ fs. AreAlike fs finds)
        (map-twice (found_after_all t tail) (found_at t was) before
        ∙ map-same (λ s. found_after_all t tail (found_at t was s)) (found_at t now) before
        (λ s i.
        sym (ap (λ cs. found_after_all t cs (first_found s)) (passed-split h key m s.tag tag n end goes opened (opened-member g key m mark s i) order)
        ∙ after_all-append t (was s.tag) tail (first_found s))))
        (alike-trans (map (found_after_all t tail) (map (found_at t was) before)) (map (found_after_all t tail) m.finds.items) finds
        (alike-after law t tail (map (found_at t was) before) m.finds.items (mark.mark.found n goes.from goes.to).finds) is.early)

    all : map (found_at t now) (starts_below t h key tag) ≡ map (found_at t now) before ++ map (found_by t h key tag m.past end) (told_between h key m.tag tag)
    all =
        ap (λ ss. map (found_at t now) ss) (later-starts g key m.tag tag grounded goes.holds.later)
        ∙ (map-append (found_at t now) before (told_between h key m.tag tag)
        ∙ ap (λ fs. map (found_at t now) before ++ fs)
        (map-same (found_at t now) (found_by t h key tag m.past end) (told_between h key m.tag tag)
        (λ s i. ap (λ cs. found_after_all t cs (first_found s)) (passed-behind h key m s.tag tag end goes.holds.passed (between-member h key m.tag tag s i) reach))))

later-first : (g : Ground) (key : Key) (m : Mark) (tag n end : ℕ) (finds : List (Option (List (Option Structure)))) (first : Option ℕ) (later : List (Option (List (Option Structure)))) (last : Option ℕ)
    → IsGrounded g → IsMark g key m → GoesOn g.history m n tag → n ≤ end → IsLater g key m tag n end finds first later last
    → 1 ≤ length (starts_below g.tailoring g.history key tag) → last ≡ first_at (λ s. among g.history key s tag 0 end) (starts_below g.tailoring g.history key tag)
later-first g key m tag n end finds first later last grounded mark goes order is l =
    is.latest
    ∙ (go (told_between h key m.tag tag) (between-member h key m.tag tag) (subst (λ (ss : List Start). 1 ≤ length ss) starts l)
    ∙ ap (λ ss. first_at now ss) (sym starts))
  where
    h : History
    h = g.history

    before : List Start
    before = starts_below g.tailoring h key m.tag

    now : ℕ → List Candidate
    now s = among h key s tag 0 end

    starts : starts_below g.tailoring h key tag ≡ before ++ told_between h key m.tag tag
    starts = later-starts g key m.tag tag grounded goes.holds.later

    go : (ss : List Start) → ((s : Start) → IsIn s ss → m.tag ≤ s.tag) → 1 ≤ length (before ++ ss) → first_by h key tag m.past end ss first ≡ first_at now (before ++ ss)
    go [] high l =
        let some : 1 ≤ length before = subst (λ (ss : List Start). 1 ≤ length ss) (append-nil before) l in
        let opened : m.opened ≤ tag = (let a = mark.opened in let b = goes.holds.later in omega (arith, a, b)) in
        is.change
        ∙ (ap (λ f. first_after_all (among h key m.opened tag n end) f) ((mark.mark.found n goes.from goes.to).first some)
        ∙ (sym (first-on h key m tag n end goes opened order before (opened-member g key m mark) some) ∙ ap (λ ss. first_at now ss) (sym (append-nil before))))
    go (s ∷ ss) high l =
        let reach : m.past ≤ end = (let a = goes.holds.order in omega (arith, a, order)) in
        first-new h key m tag n end goes reach s ss first high ∙ sym (first-behind now before s ss)

-- nothing was told from a tag on where it is above all that was told
pub untold-same : (g : Ground) (key : Key) (from tag : ℕ) → IsGrounded g → from ≤ tag → (newest_told g.history.kept < from) ⊎ (from ≡ tag) → told_below g.history key tag ≡ told_below g.history key from
untold-same g key from tag grounded le (inl lt) =
    told-split g.history key from tag grounded.tags le ∙ (ap (λ ss. told_below g.history key from ++ ss) (told-after key from tag g.history.kept lt) ∙ append-nil (told_below g.history key from))
untold-same g key from tag grounded le (inr e) = ap (λ n. told_below g.history key n) (sym e)

-- from which tag on no state opens, where states opened behind a mark, or none did
pub record IsOpened (g : Ground) (key : Key) (m now : Mark) (starts : List Start) : Type 0 where
  pub none : starts ≡ [] → now.opened ≡ m.opened
  pub some : (starts ≡ [] → ⊥) → (now.opened ≤ now.tag) × ((newest_told g.history.kept < now.opened) ⊎ (now.opened ≡ now.tag))

opened-told : (g : Ground) (key : Key) (m now : Mark) (tag : ℕ) → IsGrounded g → IsMark g key m → m.tag ≤ now.tag → now.tag ≤ tag → told_below g.history key tag ≡ told_below g.history key now.tag
    → IsOpened g key m now (told_between g.history key m.tag tag) → (now.opened ≤ now.tag) × (told_below g.history key now.tag ≡ told_below g.history key now.opened)
opened-told g key m now tag grounded mark from to untold is = go (told_between g.history key m.tag tag) refl
  where
    h : History
    h = g.history

    go : (ss : List Start) → told_between h key m.tag tag ≡ ss → (now.opened ≤ now.tag) × (told_below h key now.tag ≡ told_below h key now.opened)
    go [] e =
        let same = is.none e in
        let below = mark.opened in (
          omega (arith, same, below, from),
          sym untold
              ∙ (told-split h key m.tag tag grounded.tags (omega (arith, from, to))
              ∙ (ap (λ ss. told_below h key m.tag ++ ss) e ∙ (append-nil (told_below h key m.tag) ∙ (mark.told ∙ ap (λ n. told_below h key n) (sym same))))),
        )
    go (s ∷ ss) e =
        let some = is.some (λ p. let no : s ∷ ss ≡ [] → ⊥ = λ q. cc in no (sym e ∙ p)) in
        (some.0, untold-same g key now.opened now.tag grounded some.0 some.1)

-- A mark by what is found for reports with a tag, to which it comes.
pub mark-at : (g : Ground) (key : Key) (m now : Mark) (tag end : ℕ) → IsGrounded g → IsMark g key m → IsFormedMark g.tailoring now → now.listed ≡ end → now.calm ≡ end → m.tag ≤ now.tag → now.tag ≤ tag
    → (newest_told g.history.kept < now.tag) ⊎ (now.tag ≡ tag) → IsOpened g key m now (told_between g.history key m.tag tag) → HoldsFor g.history now end tag
    → AreFound g.tailoring (λ s. among g.history key s tag 0 end) (starts_below g.tailoring g.history key tag) now.finds.items now.first
    → AreKnown g.tailoring (unsures g.history key now.past end) now.origins.items now.finds.items → now.open_change ≡ first_after_all (unsures g.history key now.past end) None → IsMark g key now
mark-at g key m now tag end grounded mark formed listed calm from to untold opened holds at_tag known change =
    record {
      mark =
          record {
            behind = let o = holds.order in omega (arith, o, listed);
            order = omega (arith, listed, calm);
            within = let w = holds.within in omega (arith, w, calm);
            formed = formed;
            found = λ k a b. subst (λ j. AreFound t (passed h key now.tag now.past j) (starts_below t h key now.tag) now.finds.items now.first) (omega (arith, a, b, listed, calm)) found;
            known = λ k a b. subst (λ j. AreKnown t (unsures h key now.past j) now.origins.items now.finds.items) (omega (arith, a, b, listed, calm)) known;
            open_change = λ k a b. subst (λ j. now.open_change ≡ first_after_all (unsures h key now.past j) None) (omega (arith, a, b, listed, calm)) change;
          };
      opened = both.0;
      told = both.1;
    }
  where
    t : TailoringParts
    t = g.tailoring

    h : History
    h = g.history

    same_told : told_below h key tag ≡ told_below h key now.tag
    same_told = untold-same g key now.tag tag grounded to untold

    both : (now.opened ≤ now.tag) × (told_below h key now.tag ≡ told_below h key now.opened)
    both = opened-told g key m now tag grounded mark from to same_told opened

    found : AreFound t (passed h key now.tag now.past end) (starts_below t h key now.tag) now.finds.items now.first
    found =
        subst (λ ss. AreFound t (passed h key now.tag now.past end) (boot_starts t h key ++ ss) now.finds.items now.first) same_told
        (found-same t (λ s. among h key s tag 0 end) (passed h key now.tag now.past end) (starts_below t h key tag) now.finds.items now.first
        (λ s i. passed-same h key now s.tag tag end holds (below-member t h key tag s i)) at_tag)

-- The mark at the later tag.
pub later-mark : SameIsFound → (g : Ground) (key : Key) (m now : Mark) (tag n end : ℕ) (finds : List (Option (List (Option Structure)))) (first : Option ℕ)
    → IsGrounded g → IsMark g key m → GoesOn g.history m n tag → n ≤ end → IsLater g key m tag n end finds first now.finds.items now.first → IsFormedMark g.tailoring now
    → now.listed ≡ end → now.calm ≡ end → m.tag ≤ now.tag → now.tag ≤ tag → (newest_told g.history.kept < now.tag) ⊎ (now.tag ≡ tag)
    → IsOpened g key m now (told_between g.history key m.tag tag) → now.origins.items ≡ [] → now.open_change ≡ first_after_all (unsures g.history key now.past end) None
    → HoldsFor g.history now end tag → IsMark g key now
later-mark same g key m now tag n end finds first grounded mark goes order is formed listed calm from to untold opened none change holds =
    mark-at g key m now tag end grounded mark formed listed calm from to untold opened holds
    (record {
      finds = later-finds same g key m tag n end finds first now.finds.items now.first grounded mark goes order is;
      first = later-first g key m tag n end finds first now.finds.items now.first grounded mark goes order is;
    })
    (subst (λ fs. AreKnown g.tailoring (unsures g.history key now.past end) fs now.finds.items) (sym none) tt) change

-- ---- the mark with more states that were told

-- what is found with more states, behind those of a mark, of which the requests that it doesn't hold as passed haven't ended
pub record IsTold (g : Ground) (key : Key) (m now : Mark) (listed tag : ℕ) : Type 0 where
  pub alike : (fs : List (Option (List (Option Structure)))) → AreAlike fs m.finds.items
      → AreAlike (fs ++ map (found_at g.tailoring (λ s. unsures g.history key m.past listed)) (told_between g.history key m.tag tag)) now.finds.items
  pub none : told_between g.history key m.tag tag ≡ [] → now.first ≡ m.first
  pub some : (told_between g.history key m.tag tag ≡ [] → ⊥) → now.first ≡ m.open_change
  pub known : AreKnown g.tailoring (unsures g.history key m.past listed) now.origins.items now.finds.items

-- nothing but requests that haven't ended comes behind a state that is told behind a mark
told-requests : (h : History) (key : Key) (m : Mark) (listed tag : ℕ) → ComesTo h m listed tag → (s : Start) → IsIn s (told_between h key m.tag tag)
    → among h key s.tag tag 0 listed ≡ unsures h key m.past listed
told-requests h key m listed tag comes s i =
    passed-behind h key m s.tag tag listed comes.holds.passed (between-member h key m.tag tag s i) comes.holds.order
    ∙ open-same h key m s.tag tag listed comes.holds (let lt = between-below h key m.tag tag s i in omega (arith, lt))

told-first : (requests : ℕ → List Candidate) (us : List Candidate) (s : Start) (ss : List Start) → ((x : Start) → IsIn x (s ∷ ss) → requests x.tag ≡ us) → first_at requests (s ∷ ss) ≡ first_after_all us None
told-first requests us s [] same = ap (λ cs. first_after_all cs None) (same s (inl refl))
told-first requests us s (x ∷ ss) same = told-first requests us x ss (λ y i. same y (inr i))

told-found : (g : Ground) (key : Key) (m now : Mark) (listed tag : ℕ) → IsGrounded g → IsMark g key m → ComesTo g.history m listed tag → listed ≤ m.calm → IsTold g key m now listed tag
    → AreFound g.tailoring (λ s. among g.history key s tag 0 listed) (starts_below g.tailoring g.history key tag) now.finds.items now.first
told-found g key m now listed tag grounded mark comes reaches is = record { finds = finds; first = first }
  where
    t : TailoringParts
    t = g.tailoring

    h : History
    h = g.history

    us : List Candidate
    us = unsures h key m.past listed

    requests : ℕ → List Candidate
    requests s = among h key s tag 0 listed

    before : List Start
    before = starts_below t h key m.tag

    starts : starts_below t h key tag ≡ before ++ told_between h key m.tag tag
    starts = later-starts g key m.tag tag grounded comes.holds.later

    early : AreFound t requests before m.finds.items m.first
    early =
        found-same t (passed h key m.tag m.past listed) requests before m.finds.items m.first
        (λ s i.
        let at = below-member t h key m.tag s i in
        let later = comes.holds.later in
        sym (passed-same h key m s.tag tag listed comes.holds (omega (arith, at, later)))) (mark.mark.found listed comes.from reaches)

    finds : AreAlike (map (found_at t requests) (starts_below t h key tag)) now.finds.items
    finds =
        subst (λ fs. AreAlike fs now.finds.items)
        (sym
        (ap (λ ss. map (found_at t requests) ss) starts
        ∙ (map-append (found_at t requests) before (told_between h key m.tag tag)
        ∙ ap (λ fs. map (found_at t requests) before ++ fs)
        (map-same (found_at t requests) (found_at t (λ s. us)) (told_between h key m.tag tag)
        (λ s i. ap (λ cs. found_after_all t cs (first_found s)) (told-requests h key m listed tag comes s i))))))
        (is.alike (map (found_at t requests) before) early.finds)

    first : 1 ≤ length (starts_below t h key tag) → now.first ≡ first_at requests (starts_below t h key tag)
    first l = go (told_between h key m.tag tag) refl ∙ ap (λ ss. first_at requests ss) (sym starts)
      where
        go : (ss : List Start) → told_between h key m.tag tag ≡ ss → now.first ≡ first_at requests (before ++ told_between h key m.tag tag)
        go [] e =
            let same : before ++ told_between h key m.tag tag ≡ before = ap (λ ss. before ++ ss) e ∙ append-nil before in
            is.none e
            ∙ (early.first (subst (λ (ss : List Start). 1 ≤ length ss) (starts ∙ same) l) ∙ ap (λ ss. first_at requests ss) (sym same))
        go (s ∷ ss) e =
            is.some (λ p. let no : s ∷ ss ≡ [] → ⊥ = λ q. cc in no (sym e ∙ p))
            ∙ (mark.mark.open_change listed comes.from reaches
            ∙ (sym (told-first requests us s ss (λ x i. told-requests h key m listed tag comes x (subst (λ (xs : List Start). IsIn x xs) (sym e) i)))
            ∙ (sym (first-behind requests before s ss) ∙ ap (λ xs. first_at requests (before ++ xs)) (sym e))))

-- A mark with more states that were told, for reports to which it comes.
pub told-mark : (g : Ground) (key : Key) (m now : Mark) (listed tag : ℕ) → IsGrounded g → IsMark g key m → ComesTo g.history m listed tag → listed ≤ m.calm → IsFormedMark g.tailoring now
    → now.past ≡ m.past → now.listed ≡ listed → now.calm ≡ listed → now.open_change ≡ m.open_change → m.tag ≤ now.tag → now.tag ≤ tag → (newest_told g.history.kept < now.tag) ⊎ (now.tag ≡ tag)
    → IsOpened g key m now (told_between g.history key m.tag tag) → IsTold g key m now listed tag → IsMark g key now × IsNear g.history key now listed tag
told-mark g key m now listed tag grounded mark comes reaches formed past is calm change from to untold opened told = (
  mark-at g key m now tag listed grounded mark formed is calm from to untold opened holds (told-found g key m now listed tag grounded mark comes reaches told)
      (subst (λ p. AreKnown g.tailoring (unsures h key p listed) now.origins.items now.finds.items) (sym past) told.known)
      (change ∙ (mark.mark.open_change listed comes.from reaches ∙ ap (λ p. first_after_all (unsures h key p listed) None) (sym past))),
  record { comes = record { from = omega (arith, is); holds = holds }; reaches = omega (arith, calm); untold = untold-same g key now.tag tag grounded to untold },
)
  where
    h : History
    h = g.history

    holds : HoldsFor h now listed tag
    holds =
        record {
          later = to;
          order = let o = comes.holds.order in omega (arith, o, past);
          within = comes.holds.within;
          passed = subst (λ p. HavePassed h p now.tag) (sym past) (passed-later h m.past m.tag now.tag from comes.holds.passed);
          pending = subst (λ p. (p ≡ listed) ⊎ ArePending h p tag) (sym past) comes.holds.pending;
          begun = comes.holds.begun;
        }

-- ---- the basis of verdicts

-- the basis by what is found
basis-of : OpeningsAreFound → FindsGiveBases → (g : Ground) (key : Key) (tag : ℕ) (finds : List (Option (List (Option Structure)))) (first : Option ℕ) (basis : Basis) → IsGrounded g
    → AreFound g.tailoring (λ s. candidates g.history key s tag) (starts_below g.tailoring g.history key tag) finds first
    → IsBasisOf finds (unwrap_or first 0) basis → IsBasis g.tailoring (openings g.tailoring g.history key tag) basis
basis-of found give g key tag finds first basis grounded are is =
    let covers = alike-covered (map (found_at t now) ss) finds are.finds in
    subst (λ os. IsBasis t os basis) (sym (starts-opened t h key tag))
    (give t (map (opening_of h key tag) ss) (map (found_at t now) ss) basis (all-found found t h key tag ss)
    (basis-covered finds (map (found_at t now) ss) (unwrap_or first 0) (named_request (map (opening_of h key tag) ss)) basis covers.1 covers.0 (λ l. name ss refl are.first (starts-order t h key tag grounded.tags) l) is))
  where
    t : TailoringParts
    t = g.tailoring

    h : History
    h = g.history

    now : ℕ → List Candidate
    now s = candidates h key s tag

    ss : List Start
    ss = starts_below t h key tag

    name : (xs : List Start) → ss ≡ xs → (1 ≤ length xs → first ≡ first_at now xs) → AreInOrder xs → 1 ≤ length (map (found_at t now) xs)
        → named_request (map (opening_of h key tag) xs) ≡ unwrap_or first 0
    name [] e n order l = absurd (omega (arith, l))
    name (s ∷ xs) e n order l = named-last found t h key tag s xs order ∙ ap (λ o. unwrap_or o 0) (sym (n (omega arith) ∙ first-last now s xs))

-- the basis that a mark holds is that of reports to which it is near
pub near-basis : OpeningsAreFound → FindsGiveBases → (g : Ground) (key : Key) (m : Mark) (listed tag : ℕ) → IsGrounded g → IsMark g key m → IsNear g.history key m listed tag
    → AreListedBelow g.history tag listed → IsBasis g.tailoring (openings g.tailoring g.history key tag) m.basis
near-basis found give g key m listed tag grounded mark near are =
    basis-of found give g key tag m.finds.items m.first m.basis grounded now mark.mark.formed.basis
  where
    t : TailoringParts
    t = g.tailoring

    h : History
    h = g.history

    now : AreFound t (λ s. candidates h key s tag) (starts_below t h key tag) m.finds.items m.first
    now =
        subst (λ ss. AreFound t (λ s. candidates h key s tag) (boot_starts t h key ++ ss) m.finds.items m.first) (sym near.untold)
        (found-same t (passed h key m.tag m.past listed) (λ s. candidates h key s tag) (starts_below t h key m.tag) m.finds.items m.first
        (λ s i.
        let at = below-member t h key m.tag s i in
        let later = near.comes.holds.later in
        sym (candidates-front h key s.tag tag listed are.late ∙ passed-same h key m s.tag tag listed near.comes.holds (omega (arith, at, later))))
        (mark.mark.found listed near.comes.from near.reaches))

-- ---- the mark at tag 0

none-told : (h : History) (key : Key) → told_below h key 0 ≡ []
none-told h key = filter_map-none (told_start_below key 0) h.kept (λ k i. ap (λ (b : Bool). if b then told_start key k else None) (le-ltb (tag_of k) 0 (omega arith)))

first-starts : (t : TailoringParts) (h : History) (key : Key) → starts_below t h key 0 ≡ boot_starts t h key
first-starts t h key = ap (λ ss. boot_starts t h key ++ ss) (none-told h key) ∙ append-nil (boot_starts t h key)

pub first-formed : (t : TailoringParts) (boot : Option Start) → IfSome boot (IsFormedStart t) → All (IsFormedFound t) (map first_found (option_to_list boot))
first-formed t None h = All-from_recursion (IsFormedFound t) [] tt
first-formed t (Some s) h = All-from_recursion (IsFormedFound t) (first_found s ∷ []) (formed-one t s.state h, tt)

pub found-once : (t : TailoringParts) (fs : List (Option (List (Option Structure)))) → All (IsFormedFound t) fs → All (λ (f : Option (List (Option Structure))). IfSome f (IsDistinct state_eq)) fs
found-once t fs all = All-weaker (IsFormedFound t) (λ (f : Option (List (Option Structure))). IfSome f (IsDistinct state_eq)) (λ f h. once f h) fs all
  where
    once : (f : Option (List (Option Structure))) → IsFormedFound t f → IfSome f (IsDistinct state_eq)
    once None h = tt
    once (Some states) h = h.1

pub first-mark : (g : Ground) (key : Key) (boot : Option Start) (m : Mark) → m.tag ≡ 0 → m.opened ≡ 0 → m.past ≡ 0 → m.listed ≡ 0 → m.calm ≡ 0 → m.first ≡ None → m.open_change ≡ None → m.origins.items ≡ []
    → option_to_list boot ≡ boot_starts g.tailoring g.history key → IfSome boot (IsFormedStart g.tailoring) → m.finds.items ≡ map first_found (option_to_list boot)
    → IsBasisOf m.finds.items (unwrap_or m.first 0) m.basis → IsFormedBasis g.tailoring m.basis → IsMark g key m
first-mark g key boot m at opened past listed calm none change origins starts formed finds_are basis valid =
    record {
      mark =
          record {
            behind = omega (arith, past, listed);
            order = omega (arith, listed, calm);
            within = omega (arith, calm);
            formed =
                record {
                  finds = subst (λ (fs : List (Option (List (Option Structure)))). All (IsFormedFound t) fs) (sym finds_are) (first-formed t boot formed);
                  basis = basis;
                  valid = valid;
                };
            found = λ n from to.
                let zero_ : 0 ≡ n = omega (arith, to, calm) in
                subst (λ j. AreFound t (passed h key m.tag m.past j) (starts_below t h key m.tag) m.finds.items m.first) zero_
                (subst (λ j. AreFound t (passed h key m.tag j 0) (starts_below t h key m.tag) m.finds.items m.first) (sym past)
                (subst (λ j. AreFound t (passed h key j 0 0) (starts_below t h key j) m.finds.items m.first) (sym at) found));
            known = λ n from to. subst (λ fs. AreKnown t (unsures h key m.past n) fs m.finds.items) (sym origins) tt;
            open_change = λ n from to.
                let zero_ : 0 ≡ n = omega (arith, to, calm) in
                subst (λ j. m.open_change ≡ first_after_all (unsures h key m.past j) None) zero_ (subst (λ j. m.open_change ≡ first_after_all (unsures h key j 0) None) (sym past) change);
          };
      opened = omega (arith, opened);
      told = ap (λ n. told_below h key n) (at ∙ sym opened);
    }
  where
    t : TailoringParts
    t = g.tailoring

    h : History
    h = g.history

    all : map (found_at t (passed h key 0 0 0)) (starts_below t h key 0) ≡ m.finds.items
    all =
        ap (λ ss. map (found_at t (passed h key 0 0 0)) ss) (first-starts t h key ∙ sym starts)
        ∙ (map-same (found_at t (passed h key 0 0 0)) first_found (option_to_list boot) (λ s i. refl) ∙ sym finds_are)

    found : AreFound t (passed h key 0 0 0) (starts_below t h key 0) m.finds.items m.first
    found = record { finds = subst (λ fs. AreAlike fs m.finds.items) (sym all) (alike-refl m.finds.items); first = λ l. none ∙ go (starts_below t h key 0) }
      where
        go : (ss : List Start) → None ≡ first_at (passed h key 0 0 0) ss
        go [] = refl
        go (s ∷ []) = refl
        go (s ∷ x ∷ ss) = go (x ∷ ss)
