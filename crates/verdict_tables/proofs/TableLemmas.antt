-- Tables that were built of what is known stand for it.
use Rattle.std.proofs.Common.{arith, ◌≡◌, ℕ, zero, suc, ◌+◌, ◌-◌, ◌<◌, refl, sym, ◌∙◌, ap, subst, List, [], ◌∷◌, ◌++◌, append-nil, Bool, true, false, inl, inr, Option, Some, None, IfSome}
use Rattle.std.specs.Prelude.{slice_get, unwrap_or, filter_map, option_and_then, is_some, if◌then◌else◌}
use Rattle.std.specs.List.{All, IsDistinct, cons_option, enumerate_from}
use Rattle.hk_base.specs.TailoringParts.{TailoringParts}
use Rattle.hk_base.specs.Parameters.{boot_structure}
use Rattle.hk_base.specs.declared.types.Key.{Key}
use Rattle.hk_base.specs.declared.types.Structure.{Structure}
use Rattle.std.specs.Option.{option_map_or}
use Rattle.hk_base.proofs.Membership.{IsIn, some_value, AllByRecursion-IsIn}
use Rattle.st03_grammar.specs.Instructions.{StructureChange}
use Rattle.pus_messages.specs.Changes.{change_by}
use Rattle.ground_history.specs.Histories.{Sent, Kept, History, tag_of}
use Rattle.ground_history.specs.Ground.{Ground}
use Rattle.ground_history.specs.Evidence.{low}
use Rattle.definition_intervals.specs.Openings.{Candidate, candidate, candidates, from_creation, openings, boot_openings, report_opening, reported_structure}
use Rattle.definition_intervals.specs.Findings.{IsSetOf}
use Rattle.definition_intervals.specs.Bases.{IsBasis, AreBases, IsFormedBasis, BasesDecide}
use Rattle.definition_intervals.specs.declared.answer.Basis.{Basis}
use Rattle.definition_intervals.specs.declared.answer.Basis.TheVariants.{NoOpening}
use Rattle.verdict_tables.specs.Places.{places, AreFirsts}
use Rattle.verdict_tables.specs.Tables.{RangeParts, HasRanges, StandsFor, AreFormed, basis_in, begun, start_basis}
use Rattle.verdict_tables.specs.Collecting.{HasTable, held_for}
use Rattle.verdict_tables.proofs.MemberLemmas.{among-IsIn, IsIn-among}
use Rattle.verdict_tables.proofs.RisingLemmas.{Rises, rises, IsLast, last-of}
use Rattle.verdict_tables.proofs.CollectLemmas.{none_is_some}
use Rattle.verdict_tables.proofs.OpeningLemmas.{same-openings, bounds-there, report-there, unchanged, untold}

-- the basis of a range is that of the openings at its first tag
basis-there : (t : TailoringParts) (h : History) (key : Key) (firsts : List ℕ) (bases : List Basis) (number first : ℕ) → AreBases t h key firsts bases → slice_get firsts number ≡ Some first
    → (b : Basis) × (slice_get bases number ≡ Some b) × IsBasis t (openings t h key first) b
basis-there t h key [] [] number first all at = absurd (none_is_some at)
basis-there t h key (f ∷ fs) (b ∷ bs) zero first all at =
    (b, refl, subst (λ n. IsBasis t (openings t h key n) b) (some_value f first at) all.0)
basis-there t h key (f ∷ fs) (b ∷ bs) (suc n) first all at = basis-there t h key fs bs n first all.1 at
basis-there t h key [] (b ∷ bs) number first all at = absurd all
basis-there t h key (f ∷ fs) [] number first all at = absurd all

-- rising tags with 0 among them have a last one at each tag or before it
last-there : (firsts : List ℕ) (tag : ℕ) → Rises firsts → IsIn 0 firsts → (number : ℕ) × (first : ℕ) × IsLast firsts tag number first
last-there [] tag r i = absurd i
last-there (x ∷ xs) tag r (inl e) = last-of x xs tag r (omega (arith, e))
last-there (x ∷ xs) tag r (inr i) = last-of x xs tag r (omega (arith, AllByRecursion-IsIn (λ y. x < y) 0 xs r.0 i))

basis-in : (t : TailoringParts) (h : History) (key : Key) (ranges : RangeParts) (tag : ℕ) → AreFirsts h key ranges.firsts → AreBases t h key ranges.firsts ranges.bases
    → IsBasis t (openings t h key tag) (basis_in ranges tag)
basis-in t h key ranges tag firsts bases =
    let begin = among-IsIn 0 ranges.firsts (firsts.members 0 ∙ IsIn-among 0 (0 ∷ places h key) (inl refl)) in
    let found = last-there ranges.firsts tag (rises ranges.firsts firsts.rising) begin in
    let basis = basis-there t h key ranges.firsts ranges.bases found.0 found.1 bases found.2.there in
    let apart = λ (n : ℕ) (i : IsIn n (places h key)). found.2.apart n (among-IsIn n ranges.firsts (firsts.members n ∙ IsIn-among n (0 ∷ places h key) (inr i))) in
    let number : begun ranges.firsts tag - 1 ≡ found.0 = omega (arith, found.2.count) in
    subst (λ b. IsBasis t (openings t h key tag) b)
    (sym (ap (λ n. unwrap_or (slice_get ranges.bases n) NoOpening) number ∙ ap (λ (o : Option Basis). unwrap_or o NoOpening) basis.1))
    (subst (λ os. IsBasis t os basis.0) (same-openings t h key found.1 tag found.2.low apart) basis.2)

-- where a function gives nothing at each member
nothing : {X Y : Type 0} (f : X → Option Y) (xs : List X) → ((x : X) → IsIn x xs → f x ≡ None) → filter_map f xs ≡ []
nothing f [] h = refl
nothing {Y = Y} f (x ∷ xs) h = ap (λ (o : Option Y). cons_option o (filter_map f xs)) (h x (inl refl)) ∙ nothing f xs (λ y i. h y (inr i))

no_place : (h : History) (key : Key) (n : ℕ) → places h key ≡ [] → IsIn n (places h key) → ⊥
no_place h key n e i = subst (λ (l : List ℕ). IsIn n l) e i

-- without places no request can change the structure, and no report tells of it
no-candidates : (h : History) (key : Key) (from tag : ℕ) → places h key ≡ [] → candidates h key from tag ≡ []
no-candidates h key from tag e = nothing (candidate h key from tag) (enumerate_from 0 h.requests) (λ x i. one x.0 x.1 i (option_and_then (change_by key) x.1.request) refl)
  where
    one : (k : ℕ) (sent : Sent) → IsIn (k, sent) (enumerate_from 0 h.requests) → (o : Option (ℕ × StructureChange)) → option_and_then (change_by key) sent.request ≡ o
        → candidate h key from tag (k, sent) ≡ None
    one k sent i None p = unchanged h key from tag k sent p
    one k sent i (Some c) p =
        absurd (no_place h key (low h k + 1) e (bounds-there h key k sent i (ap (λ (o : Option (ℕ × StructureChange)). is_some o) p) (low h k + 1) (inl refl)))

no-reports : (h : History) (key : Key) (tag : ℕ) → places h key ≡ [] → filter_map (report_opening h key tag) h.kept ≡ []
no-reports h key tag e = nothing (report_opening h key tag) h.kept (λ k i. one k i (reported_structure key k.report.body) refl)
  where
    one : (k : Kept) → IsIn k h.kept → (o : Option Structure) → reported_structure key k.report.body ≡ o → report_opening h key tag k ≡ None
    one k i None p = untold h key tag k p
    one k i (Some s) p = absurd (no_place h key (tag_of k + 1) e (report-there h key k s i p))

-- without places the boot state is all there is
start-openings : (t : TailoringParts) (h : History) (key : Key) (tag : ℕ) → places h key ≡ []
    → openings t h key tag ≡ (if h.known then record { tag = 0; state = boot_structure t key; requests = [] } ∷ [] else [])
start-openings t h key tag e =
    ap (λ os. boot_openings t h key tag ++ os) (no-reports h key tag e)
    ∙ (append-nil (boot_openings t h key tag)
    ∙ ap (λ (cs : List Candidate). if h.known then option_map_or (λ rest. record { tag = 0; state = None; requests = rest }) (from_creation cs) (record { tag = 0; state = boot_structure t key; requests = cs }) ∷ [] else [])
    (no-candidates h key 0 tag e))

one-state : (s : Option Structure) → IsSetOf (s ∷ []) (s ∷ [])
unfolding IsDistinct
one-state s = record { once = (tt, tt); members = λ q. refl }

start-basis : (t : TailoringParts) (h : History) (key : Key) (tag : ℕ) → places h key ≡ [] → IsBasis t (openings t h key tag) (start_basis t h.known key)
start-basis t h key tag e = subst (λ os. IsBasis t os (start_basis t h.known key)) (sym (start-openings t h key tag e)) (go h.known)
  where
    go : (b : Bool) → IsBasis t (if b then record { tag = 0; state = boot_structure t key; requests = [] } ∷ [] else []) (start_basis t b key)
    go true = ((omega arith, one-state (boot_structure t key)), refl)
    go false = refl

-- the tables that were built of what is known
abbrev pub IsBuilt : Ground → List (Key × RangeParts) → Type 0
IsBuilt g structures = (key : Key) → HasTable g key (held_for structures key)

pub built-formed : (g : Ground) (structures : List (Key × RangeParts)) → IsBuilt g structures → AreFormed (record { tailoring = Some g.tailoring; known = g.history.known; structures = structures })
built-formed g structures built key = go (held_for structures key) (built key)
  where
    go : (found : Option RangeParts) → HasTable g key found → IfSome found (λ ranges. All (IsFormedBasis g.tailoring) ranges.bases)
    go None has = tt
    go (Some ranges) has = has.formed

-- the basis that is held for a structure is that of its openings
pub basis-by : (g : Ground) (key : Key) (tag : ℕ) (found : Option RangeParts) → HasTable g key found
    → IsBasis g.tailoring (openings g.tailoring g.history key tag) (option_map_or (λ ranges. basis_in ranges tag) found (start_basis g.tailoring g.history.known key))
basis-by g key tag None h = start-basis g.tailoring g.history key tag h
basis-by g key tag (Some ranges) h = basis-in g.tailoring g.history key ranges tag h.firsts h.bases

pub built-stands : (g : Ground) (structures : List (Key × RangeParts)) → BasesDecide → IsBuilt g structures
    → StandsFor (record { tailoring = Some g.tailoring; known = g.history.known; structures = structures }) g
built-stands g structures decide built =
    record {
      verdicts = λ key tag payload. decide g.tailoring (openings g.tailoring g.history key tag) _ tag payload (basis-by g key tag (held_for structures key) (built key));
      ranges = λ key. has (held_for structures key) key (built key);
    }
  where
    has : (found : Option RangeParts) (key : Key) → HasTable g key found → HasRanges g.history key found
    has None key h = h
    has (Some ranges) key h = (h.some, h.firsts)
