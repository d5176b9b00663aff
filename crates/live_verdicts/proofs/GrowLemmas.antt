-- Marks that hold of more requests.
use Rattle.std.proofs.Common.{arith, IfOk, Result, Ok, Err, filter_map, ◌≡◌, ℕ, zero, suc, ◌+◌, ◌<◌, ◌≤◌, refl, sym, ◌∙◌, ap, subst, List, [], ◌∷◌, ◌++◌, length, map, take, drop, get_or, Bool, true, false, inl, inr, ◌⊎◌, Option, Some, None, IfSome, append_assoc, append-nil}
use Rattle.std.specs.Prelude.{slice_get, option_map, option_and_then, not, if◌then◌else◌}
use Rattle.std.specs.List.{All, AllByRecursion, enumerate_from}
use Rattle.std.proofs.lemmas.List.{take_more}
use Rattle.std.proofs.lemmas.List.Elements.{All-push, All-from_recursion, recursion_from_All}
use Rattle.hk_base.specs.TailoringParts.{TailoringParts}
use Rattle.hk_base.specs.declared.types.Key.{Key}
use Rattle.hk_base.specs.declared.types.Memory.{Memory}
use Rattle.hk_base.specs.declared.types.Structure.{Structure}
use Rattle.hk_base.proofs.Membership.{some_value, IsIn, IsIn-filter_map, AllByRecursion-IsIn, IsIn-AllByRecursion}
use Rattle.st03_grammar.specs.Instructions.{StructureChange}
use Rattle.pus_messages.specs.Changes.{change_by}
use Rattle.pus_messages.specs.Instructions.{instructions}
use Rattle.pus_messages.specs.Spelling.{IsRequest}
use Rattle.pus_messages.specs.declared.message.Request.{Request}
use Rattle.ground_history.specs.Histories.{Sent, History}
use Rattle.ground_history.specs.Evidence.{is_barred, outcome}
use Rattle.ground_history.specs.Ground.{Ground, IsGrounded}
use Rattle.definition_intervals.specs.Openings.{Candidate}
use Rattle.definition_intervals.specs.Findings.{IsFormedCandidate}
use Rattle.definition_intervals.specs.Founds.{found_after, found_after_all, first_after_all, AreSameFound, SameIsFound, ChangesAreFormed}
use Rattle.definition_intervals.proofs.GatherLemmas.{numbered-IsIn}
use Rattle.opening_sweeps.specs.Requests.{Start}
use Rattle.opening_sweeps.proofs.FoldLemmas.{same-refl, same-sym, same-trans, after_all-same, after_all-append, first_all-append}
use Rattle.opening_sweeps.proofs.BasisLemmas.{in-map, map-in}
use Rattle.entry_changes.specs.Changes.{unsure, unsures}
use Rattle.live_verdicts.specs.Marks.{found_at, first_found, first_at, AreAlike, AreFound, AreKnown, HasSame, IsFormedMark, IsMarkOf, HasAlike, IsAlike, Leaves, LeavesFinds, among, passed, with_calm}
use Rattle.live_verdicts.specs.declared.mark.Mark.{Mark}
use Rattle.live_verdicts.proofs.AmongLemmas.{next-numbered}
use Rattle.live_verdicts.proofs.SplitLemmas.{between-append, nothing-between, taken-in, dropped-in}
use Rattle.live_verdicts.proofs.FindLemmas.{has-in, in-has, alike-covered, covered-alike, alike-trans, alike-after}
use Rattle.live_verdicts.proofs.MarkLemmas.{map-same, map-twice}

-- ---- all of a list's front

pub all-more : {X : Type 0} (P : X → Type 0) (xs : List X) (i : ℕ) (x : X) → i < length xs → x ≡ get_or xs i x → All P (take i xs) → P x → All P (take (i + 1) xs)
all-more P xs i x l is all p =
    subst (λ ys. All P ys) (sym (take_more xs i x l ∙ ap (λ y. take i xs ++ y ∷ []) (sym is))) (All-push P (take i xs) x all p)

pub all-taken : {X : Type 0} (P : X → Type 0) (xs : List X) (i : ℕ) → length xs ≤ i → All P (take i xs) → All P xs
all-taken P xs i le all = subst (λ ys. All P ys) (whole i xs le) all
  where
    whole : {X : Type 0} (i : ℕ) (xs : List X) → length xs ≤ i → take i xs ≡ xs
    whole zero [] le = refl
    whole zero (x ∷ xs) le = absurd (omega (arith, le))
    whole (suc i) [] le = refl
    whole (suc i) (x ∷ xs) le = ap (λ l. x ∷ l) (whole i xs (omega (arith, le)))

-- ---- the next request

abbrev pub IsUnsureAt : History → Key → ℕ → Option Candidate → Type 0
IsUnsureAt h key n o = (s : Sent) → slice_get h.requests n ≡ Some s → o ≡ unsure h key (n, s)

abbrev IsOwn : TailoringParts → Request → Type 0
IsOwn t r = IsRequest t r × (length (instructions r) ≤ 255)

unsure-formed : ChangesAreFormed → (t : TailoringParts) (h : History) (key : Key) (n : ℕ) (s : Sent) (c : Candidate) → IfSome s.request (IsOwn t) → unsure h key (n, s) ≡ Some c → IsFormedCandidate t c
unsure-formed law t h key n s c grounded e = go (not (is_barred h n)) s.request grounded e
  where
    found : (r : Request) (o : Option (ℕ × StructureChange)) → IsOwn t r → change_by key r ≡ o
        → option_map (λ (d : ℕ × StructureChange). record { number = n; change = d.1; certain = false; outcome = outcome h n d.0 }) o ≡ Some c → IsFormedCandidate t c
    found r None g p q = absurd (let no : None ≡ Some c → ⊥ = λ e. cc in no q)
    found r (Some d) g p q = subst (λ (x : Candidate). IsFormedCandidate t x) (some_value _ c q) (law t key r d.0 d.1 g.0 p)

    go : (b : Bool) (o : Option Request) → IfSome o (IsOwn t)
        → (if b then option_map (λ (d : ℕ × StructureChange). record { number = n; change = d.1; certain = false; outcome = outcome h n d.0 }) (option_and_then (change_by key) o) else None) ≡ Some c
        → IsFormedCandidate t c
    go false o g p = absurd (let no : None ≡ Some c → ⊥ = λ e. cc in no p)
    go true None g p = absurd (let no : None ≡ Some c → ⊥ = λ e. cc in no p)
    go true (Some r) g p = found r (change_by key r) g refl p

pub unsures-formed : ChangesAreFormed → (g : Ground) (key : Key) (first end : ℕ) → IsGrounded g → All (IsFormedCandidate g.tailoring) (unsures g.history key first end)
unsures-formed law g key first end grounded = All-from_recursion (IsFormedCandidate g.tailoring) cs (IsIn-AllByRecursion (IsFormedCandidate g.tailoring) cs each)
  where
    cs : List Candidate
    cs = unsures g.history key first end

    each : (c : Candidate) → IsIn c cs → IsFormedCandidate g.tailoring c
    each c i =
        let h = g.history in
        let r = IsIn-filter_map (unsure h key) c (drop first (take end (enumerate_from 0 h.requests))) i in
        let j = taken-in end (enumerate_from 0 h.requests) r.0 (dropped-in first (take end (enumerate_from 0 h.requests)) r.0 r.1) in
        unsure-formed law g.tailoring h key r.0.0 r.0.1 c
        (AllByRecursion-IsIn (λ s. IfSome s.request (IsOwn g.tailoring)) r.0.1 h.requests grounded.requests (numbered-IsIn 0 r.0 h.requests j)) r.2

pub unsures-with : (h : History) (key : Key) (first n : ℕ) (c : Candidate) (before after : List Candidate) → first ≤ n → n < length h.requests → IsUnsureAt h key n (Some c) → before ≡ unsures h key first n
    → after ≡ before ++ c ∷ [] → after ≡ unsures h key first (n + 1)
unsures-with h key first n c before after le l told b a = a ∙ (ap (λ xs. xs ++ c ∷ []) b ∙ sym (next-numbered (unsure h key) h.requests first n (Some c) le l told))

pub unsures-without : (h : History) (key : Key) (first n : ℕ) (before : List Candidate) → first ≤ n → n < length h.requests → IsUnsureAt h key n None → before ≡ unsures h key first n
    → before ≡ unsures h key first (n + 1)
unsures-without h key first n before le l told b = b ∙ sym (next-numbered (unsure h key) h.requests first n None le l told ∙ append-nil (unsures h key first n))

pub one-unsure : (h : History) (key : Key) (n : ℕ) (c : Candidate) → n < length h.requests → IsUnsureAt h key n (Some c) → unsures h key n (n + 1) ≡ c ∷ []
one-unsure h key n c l told = sym (unsures-with h key n n c [] (c ∷ []) (omega arith) l told (sym (ap (λ xs. filter_map (unsure h key) xs) (nothing-between h.requests n n (omega arith)))) refl)

pub none-unsure : (h : History) (key : Key) (n : ℕ) → n < length h.requests → IsUnsureAt h key n None → unsures h key n (n + 1) ≡ []
none-unsure h key n l told = sym (unsures-without h key n n [] (omega arith) l told (sym (ap (λ xs. filter_map (unsure h key) xs) (nothing-between h.requests n n (omega arith)))))

-- ---- requests with the same change

-- such a request is the other but for its number
change-after : (t : TailoringParts) (a b : Candidate) (f : Option (List (Option Structure))) → IsAlike a b → found_after t a f ≡ found_after t b f
change-after t a b f alike =
    ap (λ change. found_after t (record { number = a.number; change = change; certain = a.certain; outcome = a.outcome }) f) alike.change
    ∙ (ap (λ certain. found_after t (record { number = a.number; change = b.change; certain = certain; outcome = a.outcome }) f) alike.certain
    ∙ ap (λ outcome. found_after t (record { number = a.number; change = b.change; certain = b.certain; outcome = outcome }) f) alike.outcome)

pub has-item-alike : (ds : List Candidate) (c d : Candidate) (i : ℕ) → i < length ds → d ≡ get_or ds i d → IsAlike d c → HasAlike ds c
has-item-alike [] c d i l is alike = absurd (omega (arith, l))
has-item-alike (x ∷ ds) c d zero l is alike = inl (subst (λ y. IsAlike y c) is alike)
has-item-alike (x ∷ ds) c d (suc i) l is alike = inr (has-item-alike ds c d i (omega (arith, l)) is alike)

pub alike-leaves : (t : TailoringParts) (m : Mark) (ds : List Candidate) (c : Candidate) → HasAlike ds c → All (λ d. LeavesFinds t d m) ds → LeavesFinds t c m
alike-leaves t m [] c has all = absurd has
alike-leaves t m (d ∷ ds) c (inl alike) all =
    λ k e l. subst (λ g. AreSameFound (get_or m.finds.items k e) g) (change-after t d c (get_or m.finds.items k e) alike) (all 0 d (omega arith) k e l)
alike-leaves t m (d ∷ ds) c (inr has) all = alike-leaves t m ds c has (λ k e l. all (suc k) e (omega (arith, l)))

pub all-one : {X : Type 0} (P : X → Type 0) (xs : List X) (x : X) → xs ≡ x ∷ [] → P x → All P xs
all-one P xs x is p = subst (λ ys. All P ys) (sym is) (All-from_recursion P (x ∷ []) (p, tt))

pub one-all : {X : Type 0} (P : X → Type 0) (xs : List X) (x : X) → xs ≡ x ∷ [] → All P xs → P x
one-all P xs x is all = (recursion_from_All P (x ∷ []) (subst (λ ys. All P ys) is all)).0

pub all-none : {X : Type 0} (P : X → Type 0) (xs : List X) → xs ≡ [] → All P xs
all-none P xs is = subst (λ ys. All P ys) (sym is) (All-from_recursion P [] tt)

pub if-passes : (t : TailoringParts) (m : Mark) (us : List Candidate) (c : Candidate) → us ≡ c ∷ [] → (result : Result Bool Memory) → IfOk result (λ yes. yes ≡ true → Leaves t c m)
    → IfOk result (λ yes. yes ≡ true → All (λ r. Leaves t r m) us)
if-passes t m us c is (Ok b) leaves = λ e. all-one (λ r. Leaves t r m) us c is (leaves e)
if-passes t m us c is (Err e) leaves = tt

-- ---- one more request

passed-more : (h : History) (key : Key) (tag past n from : ℕ) → past ≤ n → passed h key tag past (n + 1) from ≡ passed h key tag past n from ++ unsures h key n (n + 1)
passed-more h key tag past n from le =
    ap (λ us. among h key from tag 0 past ++ us) (between-append (unsure h key) h.requests past n (n + 1) le (omega arith))
    ∙ sym (append_assoc (among h key from tag 0 past) (unsures h key past n) (unsures h key n (n + 1)))

first-more : (r later : ℕ → List Candidate) (us : List Candidate) (ss : List Start) → ((s : ℕ) → later s ≡ r s ++ us) → 1 ≤ length ss → first_at later ss ≡ first_after_all us (first_at r ss)
first-more r later us [] more l = absurd (omega (arith, l))
first-more r later us (s ∷ []) more l = ap (λ cs. first_after_all cs None) (more s.tag) ∙ first_all-append (r s.tag) us None
first-more r later us (s ∷ x ∷ ss) more l = first-more r later us (x ∷ ss) more (omega arith)

-- what is found by more requests
found-more : SameIsFound → (t : TailoringParts) (r later : ℕ → List Candidate) (us : List Candidate) (ss : List Start) (fs gs : List (Option (List (Option Structure)))) (change last : Option ℕ)
    → ((s : ℕ) → later s ≡ r s ++ us) → AreFound t r ss fs change → AreAlike (map (found_after_all t us) fs) gs → last ≡ first_after_all us change → AreFound t later ss gs last
found-more law t r later us ss fs gs change last more are alike is =
    record {
      finds =
          alike-trans (map (found_at t later) ss) (map (found_after_all t us) fs) gs
          (subst (λ xs. AreAlike xs (map (found_after_all t us) fs))
          (map-twice (found_after_all t us) (found_at t r) ss
          ∙ map-same (λ s. found_after_all t us (found_at t r s)) (found_at t later) ss
          (λ s i. sym (ap (λ cs. found_after_all t cs (first_found s)) (more s.tag) ∙ after_all-append t (r s.tag) us (first_found s))))
          (alike-after law t us (map (found_at t r) ss) fs are.finds)) alike;
      first = λ l. is ∙ (ap (λ o. first_after_all us o) (are.first l) ∙ sym (first-more r later us ss more l));
    }

-- what more requests make of finds is known
known-more : SameIsFound → (t : TailoringParts) (us more : List Candidate) (origins fs gs : List (Option (List (Option Structure)))) → AreAlike (map (found_after_all t more) fs) gs → AreKnown t us origins fs
    → AreKnown t (us ++ more) origins gs
known-more law t us more [] fs gs alike known = tt
known-more law t us more (o ∷ os) fs gs alike known = (one (has-in fs (found_after_all t us o) known.0), known-more law t us more os fs gs alike known.1)
  where
    one : (f : Option (List (Option Structure))) × IsIn f fs × AreSameFound (found_after_all t us o) f → HasSame gs (found_after_all t (us ++ more) o)
    one f =
        let g = (alike-covered (map (found_after_all t more) fs) gs alike).0 (found_after_all t more f.0) (map-in (found_after_all t more) f.0 fs f.1) in
        in-has gs (found_after_all t (us ++ more) o) g.0 g.1
        (subst (λ (x : Option (List (Option Structure))). AreSameFound x g.0) (sym (after_all-append t us more o))
        (same-trans (found_after_all t more (found_after_all t us o)) (found_after_all t more f.0) g.0 (after_all-same law t more (found_after_all t us o) f.0 f.2) g.2))

unsures-more : (h : History) (key : Key) (past n : ℕ) → past ≤ n → unsures h key past (n + 1) ≡ unsures h key past n ++ unsures h key n (n + 1)
unsures-more h key past n le = between-append (unsure h key) h.requests past n (n + 1) le (omega arith)

-- the mark that holds with one more request
pub grown-mark : SameIsFound → (g : Ground) (key : Key) (starts : List Start) (m now : Mark) → m.calm < length g.history.requests → now.tag ≡ m.tag → now.past ≡ m.past → now.listed ≡ m.calm + 1 → now.calm ≡ m.calm + 1
    → AreAlike (map (found_after_all g.tailoring (unsures g.history key m.calm (m.calm + 1))) m.finds.items) now.finds.items → now.first ≡ first_after_all (unsures g.history key m.calm (m.calm + 1)) m.first
    → now.open_change ≡ first_after_all (unsures g.history key m.calm (m.calm + 1)) m.open_change → now.origins.items ≡ m.origins.items
    → IsFormedMark g.tailoring now → IsMarkOf g key starts m → IsMarkOf g key starts now
grown-mark law g key starts m now within tag past listed calm alike first change origins formed mark =
    record {
      behind = let a = mark.behind in let b = mark.order in omega (arith, a, b, past, listed);
      order = omega (arith, listed, calm);
      within = omega (arith, calm, within);
      formed = formed;
      found = λ n from to.
          let number : m.calm + 1 ≡ n = omega (arith, from, to, listed, calm) in
          subst (λ k. AreFound t (passed h key now.tag now.past k) starts now.finds.items now.first) number
          (subst (λ k. AreFound t (passed h key k now.past (m.calm + 1)) starts now.finds.items now.first) (sym tag)
          (subst (λ k. AreFound t (passed h key m.tag k (m.calm + 1)) starts now.finds.items now.first) (sym past) found));
      known = λ n from to.
          let number : m.calm + 1 ≡ n = omega (arith, from, to, listed, calm) in
          subst (λ k. AreKnown t (unsures h key now.past k) now.origins.items now.finds.items) number
          (subst (λ k. AreKnown t (unsures h key k (m.calm + 1)) now.origins.items now.finds.items) (sym past)
          (subst (λ fs. AreKnown t (unsures h key m.past (m.calm + 1)) fs now.finds.items) (sym origins)
          (subst (λ cs. AreKnown t cs m.origins.items now.finds.items) (sym more)
          (known-more law t (unsures h key m.past m.calm) (unsures h key m.calm (m.calm + 1)) m.origins.items m.finds.items now.finds.items alike (mark.known m.calm mark.order (omega arith))))));
      open_change = λ n from to.
          let number : m.calm + 1 ≡ n = omega (arith, from, to, listed, calm) in
          subst (λ k. now.open_change ≡ first_after_all (unsures h key now.past k) None) number
          (subst (λ k. now.open_change ≡ first_after_all (unsures h key k (m.calm + 1)) None) (sym past)
          (change
          ∙ (ap (λ o. first_after_all (unsures h key m.calm (m.calm + 1)) o) (mark.open_change m.calm mark.order (omega arith))
          ∙ (sym (first_all-append (unsures h key m.past m.calm) (unsures h key m.calm (m.calm + 1)) None) ∙ ap (λ cs. first_after_all cs None) (sym more)))));
    }
  where
    t : TailoringParts
    t = g.tailoring

    h : History
    h = g.history

    more : unsures h key m.past (m.calm + 1) ≡ unsures h key m.past m.calm ++ unsures h key m.calm (m.calm + 1)
    more = unsures-more h key m.past m.calm (let a = mark.behind in let b = mark.order in omega (arith, a, b))

    found : AreFound t (passed h key m.tag m.past (m.calm + 1)) starts now.finds.items now.first
    found =
        found-more law t (passed h key m.tag m.past m.calm) (passed h key m.tag m.past (m.calm + 1)) (unsures h key m.calm (m.calm + 1)) starts m.finds.items now.finds.items m.first now.first
        (λ s. passed-more h key m.tag m.past m.calm s (let a = mark.behind in let b = mark.order in omega (arith, a, b)))
        (mark.found m.calm mark.order (omega arith)) alike first

-- requests that leave a find as it is, one by one, leave it so together
left-find : SameIsFound → (t : TailoringParts) (us : List Candidate) (f : Option (List (Option Structure))) → AllByRecursion (λ c. AreSameFound f (found_after t c f)) us → AreSameFound f (found_after_all t us f)
left-find law t [] f all = same-refl f
left-find law t (c ∷ cs) f all =
    same-trans f (found_after_all t cs f) (found_after_all t cs (found_after t c f)) (left-find law t cs f all.1) (after_all-same law t cs f (found_after t c f) all.0)

left-first : (us : List Candidate) (t : TailoringParts) (m : Mark) → AllByRecursion (λ c. Leaves t c m) us → first_after_all us m.first ≡ m.first
left-first [] t m all = refl
left-first (c ∷ cs) t m all = ap (λ o. first_after_all cs o) all.0.first ∙ left-first cs t m all.1

left-open : (us : List Candidate) (t : TailoringParts) (m : Mark) → AllByRecursion (λ c. Leaves t c m) us → first_after_all us m.open_change ≡ m.open_change
left-open [] t m all = refl
left-open (c ∷ cs) t m all = ap (λ o. first_after_all cs o) all.0.open_change ∙ left-open cs t m all.1

left-finds : SameIsFound → (t : TailoringParts) (us : List Candidate) (m : Mark) → All (λ c. Leaves t c m) us → AreAlike (map (found_after_all t us) m.finds.items) m.finds.items
left-finds law t us m all = covered-alike (map (found_after_all t us) m.finds.items) m.finds.items there back
  where
    same : (f : Option (List (Option Structure))) → IsIn f m.finds.items → AreSameFound f (found_after_all t us f)
    same f i =
        left-find law t us f
        (IsIn-AllByRecursion (λ c. AreSameFound f (found_after t c f)) us
        (λ c j.
        let leaves = AllByRecursion-IsIn (λ x. Leaves t x m) c us (recursion_from_All (λ x. Leaves t x m) us all) j in
        AllByRecursion-IsIn (λ x. AreSameFound x (found_after t c x)) f m.finds.items (recursion_from_All (λ x. AreSameFound x (found_after t c x)) m.finds.items leaves.finds) i))

    there : (x : Option (List (Option Structure))) → IsIn x (map (found_after_all t us) m.finds.items) → (y : Option (List (Option Structure))) × IsIn y m.finds.items × AreSameFound x y
    there x i =
        let f = in-map (found_after_all t us) x m.finds.items i in
        (f.0, f.1, subst (λ (y : Option (List (Option Structure))). AreSameFound y f.0) (sym f.2) (same-sym f.0 (found_after_all t us f.0) (same f.0 f.1)))

    back : (y : Option (List (Option Structure))) → IsIn y m.finds.items → (x : Option (List (Option Structure))) × IsIn x (map (found_after_all t us) m.finds.items) × AreSameFound y x
    back y i = (found_after_all t us y, map-in (found_after_all t us) y m.finds.items i, same y i)

-- a mark that one more request leaves as it is
pub calm-more : SameIsFound → (g : Ground) (key : Key) (starts : List Start) (m : Mark) (n : ℕ) → n < length g.history.requests → m.listed ≤ n → All (λ c. Leaves g.tailoring c m) (unsures g.history key n (n + 1))
    → IsMarkOf g key starts (with_calm m n) → IsMarkOf g key starts (with_calm m (n + 1))
calm-more law g key starts m n within listed all mark =
    record {
      behind = mark.behind;
      order = omega (arith, listed);
      within = omega (arith, within);
      formed = record { finds = mark.formed.finds; basis = mark.formed.basis; valid = mark.formed.valid };
      found = λ k from to. go k from (below k (n + 1) to);
      known = λ k from to. go_known k from (below k (n + 1) to);
      open_change = λ k from to. go_open k from (below k (n + 1) to);
    }
  where
    t : TailoringParts
    t = g.tailoring

    h : History
    h = g.history

    below : (k j : ℕ) → k ≤ j → (k < j) ⊎ (k ≡ j)
    below zero zero le = inr refl
    below zero (suc j) le = inl (omega arith)
    below (suc k) zero le = absurd (omega (arith, le))
    below (suc k) (suc j) le = lift (below k j (omega (arith, le)))
      where
        lift : (k < j) ⊎ (k ≡ j) → (suc k < suc j) ⊎ (suc k ≡ suc j)
        lift (inl l) = inl (omega (arith, l))
        lift (inr e) = inr (ap suc e)

    go : (k : ℕ) → m.listed ≤ k → (k < n + 1) ⊎ (k ≡ n + 1) → AreFound t (passed h key m.tag m.past k) starts m.finds.items m.first
    go k from (inl l) = mark.found k from (omega (arith, l))
    go k from (inr e) =
        subst (λ j. AreFound t (passed h key m.tag m.past j) starts m.finds.items m.first) (sym e)
        (found-more law t (passed h key m.tag m.past n) (passed h key m.tag m.past (n + 1)) (unsures h key n (n + 1)) starts m.finds.items m.finds.items m.first m.first
        (λ s. passed-more h key m.tag m.past n s (let a = mark.behind in omega (arith, a, listed)))
        (mark.found n listed (omega arith)) (left-finds law t (unsures h key n (n + 1)) m all)
        (sym (left-first (unsures h key n (n + 1)) t m (recursion_from_All (λ c. Leaves t c m) (unsures h key n (n + 1)) all))))

    more : unsures h key m.past (n + 1) ≡ unsures h key m.past n ++ unsures h key n (n + 1)
    more = unsures-more h key m.past n (let a = mark.behind in omega (arith, a, listed))

    go_known : (k : ℕ) → m.listed ≤ k → (k < n + 1) ⊎ (k ≡ n + 1) → AreKnown t (unsures h key m.past k) m.origins.items m.finds.items
    go_known k from (inl l) = mark.known k from (omega (arith, l))
    go_known k from (inr e) =
        subst (λ j. AreKnown t (unsures h key m.past j) m.origins.items m.finds.items) (sym e)
        (subst (λ cs. AreKnown t cs m.origins.items m.finds.items) (sym more)
        (known-more law t (unsures h key m.past n) (unsures h key n (n + 1)) m.origins.items m.finds.items m.finds.items (left-finds law t (unsures h key n (n + 1)) m all) (mark.known n listed (omega arith))))

    go_open : (k : ℕ) → m.listed ≤ k → (k < n + 1) ⊎ (k ≡ n + 1) → m.open_change ≡ first_after_all (unsures h key m.past k) None
    go_open k from (inl l) = mark.open_change k from (omega (arith, l))
    go_open k from (inr e) =
        subst (λ j. m.open_change ≡ first_after_all (unsures h key m.past j) None) (sym e)
        (sym (left-open (unsures h key n (n + 1)) t m (recursion_from_All (λ c. Leaves t c m) (unsures h key n (n + 1)) all))
        ∙ (ap (λ o. first_after_all (unsures h key n (n + 1)) o) (mark.open_change n listed (omega arith))
        ∙ (sym (first_all-append (unsures h key m.past n) (unsures h key n (n + 1)) None) ∙ ap (λ cs. first_after_all cs None) (sym more))))
