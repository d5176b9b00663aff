-- Marks that are held while more is known.
use Rattle.std.proofs.Common.{arith, ◌≡◌, ℕ, suc, ◌+◌, ◌<◌, ◌≤◌, refl, sym, ◌∙◌, ap, subst, List, [], ◌∷◌, ◌++◌, length, take, drop, get_or, Bool, true, false, inl, inr, Option, Some, None, append-nil}
use Rattle.std.specs.Prelude.{filter, filter_map, nat_lt, option_map, option_and_then, if◌then◌else◌}
use Rattle.std.specs.List.{cons_option, enumerate_from}
use Rattle.std.proofs.lemmas.Bool.{lt-ltb, le-ltb}
use Rattle.std.proofs.lemmas.List.Elements.{All-push, All-append, All-take, All-drop, filter_map-append}
use Rattle.std.proofs.lemmas.List.{get_or-drop, length-drop, take-append-drop}
use Rattle.hk_base.specs.declared.types.Key.{Key}
use Rattle.hk_base.specs.Parameters.{key_eq, boot_structure}
use Rattle.hk_base.proofs.Membership.{some_value, IsIn}
use Rattle.st03_grammar.specs.Instructions.{StructureChange}
use Rattle.pus_messages.specs.Changes.{change_by}
use Rattle.ground_history.specs.Histories.{Sent, History}
use Rattle.ground_history.specs.Evidence.{outcome}
use Rattle.ground_history.specs.Ground.{Ground}
use Rattle.definition_intervals.specs.Openings.{Candidate, candidate, candidates, is_possible, is_certain}
use Rattle.definition_intervals.specs.Founds.{first_after_all}
use Rattle.definition_intervals.proofs.StateLemmas.{key_eq-same}
use Rattle.opening_sweeps.specs.Requests.{boot_starts}
use Rattle.entry_changes.specs.Changes.{IsBelow, IsUpTo, AreSameBelow, AreUnsureSame, told_below, unsures}
use Rattle.live_verdicts.specs.Marks.{starts_below, among, passed, AreFound, AreKnown, IsFormedMark, IsMark, IsKept, StandsFor, narrowed_to, with_calm, IsPlaceOf}
use Rattle.live_verdicts.specs.declared.mark.Mark.{Mark}
use Rattle.live_verdicts.specs.declared.mark.StructureMark.{StructureMark}
use Rattle.live_verdicts.proofs.SplitLemmas.{taken-below, dropped-above}
use Rattle.live_verdicts.proofs.MarkLemmas.{found-same}

-- ---- the requests before a number, by all of them

filter-all : {X Y : Type 0} (p : Y → Bool) (f : X → Option Y) (xs : List X) → ((x : X) (y : Y) → IsIn x xs → f x ≡ Some y → p y ≡ true) → filter p (filter_map f xs) ≡ filter_map f xs
filter-all p f [] all = refl
filter-all {X} {Y} p f (x ∷ xs) all = go (f x) refl (filter-all p f xs (λ z y i e. all z y (inr i) e))
  where
    keep : (y : Y) (b : Bool) → b ≡ true → filter p (filter_map f xs) ≡ filter_map f xs → (if b then y ∷ filter p (filter_map f xs) else filter p (filter_map f xs)) ≡ y ∷ filter_map f xs
    keep y true e h = ap (λ l. y ∷ l) h
    keep y false e h = absurd (let no : false ≡ true → ⊥ = λ q. cc in no e)

    go : (o : Option Y) → f x ≡ o → filter p (filter_map f xs) ≡ filter_map f xs → filter p (cons_option o (filter_map f xs)) ≡ cons_option o (filter_map f xs)
    go None e h = h
    go (Some y) e h = keep y (p y) (all x y (inl refl) e) h

filter-none : {X Y : Type 0} (p : Y → Bool) (f : X → Option Y) (xs : List X) → ((x : X) (y : Y) → IsIn x xs → f x ≡ Some y → p y ≡ false) → filter p (filter_map f xs) ≡ []
filter-none p f [] all = refl
filter-none {X} {Y} p f (x ∷ xs) all = go (f x) refl (filter-none p f xs (λ z y i e. all z y (inr i) e))
  where
    leave : (y : Y) (b : Bool) → b ≡ false → filter p (filter_map f xs) ≡ [] → (if b then y ∷ filter p (filter_map f xs) else filter p (filter_map f xs)) ≡ []
    leave y true e h = absurd (let no : true ≡ false → ⊥ = λ q. cc in no e)
    leave y false e h = h

    go : (o : Option Y) → f x ≡ o → filter p (filter_map f xs) ≡ [] → filter p (cons_option o (filter_map f xs)) ≡ []
    go None e h = h
    go (Some y) e h = leave y (p y) (all x y (inl refl) e) h

filter-append : {Y : Type 0} (p : Y → Bool) (xs ys : List Y) → filter p (xs ++ ys) ≡ filter p xs ++ filter p ys
filter-append p [] ys = refl
filter-append p (x ∷ xs) ys = go (p x) (filter-append p xs ys)
  where
    go : (b : Bool) → filter p (xs ++ ys) ≡ filter p xs ++ filter p ys
        → (if b then x ∷ filter p (xs ++ ys) else filter p (xs ++ ys)) ≡ (if b then x ∷ filter p xs else filter p xs) ++ filter p ys
    go true h = ap (λ l. x ∷ l) h
    go false h = h

-- a candidate has the number of its request
candidate-number : (h : History) (key : Key) (start tag : ℕ) (x : ℕ × Sent) (c : Candidate) → candidate h key start tag x ≡ Some c → c.number ≡ x.0
candidate-number h key start tag x c e = go (is_possible h start tag x.0) (option_and_then (change_by key) x.1.request) e
  where
    go : (b : Bool) (o : Option (ℕ × StructureChange))
        → (if b then option_map (λ (d : ℕ × StructureChange). record { number = x.0; change = d.1; certain = is_certain h start tag x.0; outcome = outcome h x.0 d.0 }) o else None) ≡ Some c → c.number ≡ x.0
    go true (Some d) p = ap (λ (y : Candidate). y.number) (sym (some_value _ c p))
    go true None p = absurd (let no : None ≡ Some c → ⊥ = λ q. cc in no p)
    go false o p = absurd (let no : None ≡ Some c → ⊥ = λ q. cc in no p)

front-of : (h : History) (key : Key) (start tag past : ℕ) → filter (λ (c : Candidate). nat_lt c.number past) (candidates h key start tag) ≡ among h key start tag 0 past
front-of h key start tag past =
    ap (λ xs. filter before (filter_map f xs)) (sym (take-append-drop past all))
    ∙ (ap (λ cs. filter before cs) (filter_map-append f (take past all) (drop past all))
    ∙ (filter-append before (filter_map f (take past all)) (filter_map f (drop past all))
    ∙ (ap (λ cs. cs ++ filter before (filter_map f (drop past all)))
    (filter-all before f (take past all)
    (λ x c i e. let number = candidate-number h key start tag x c e in let l = taken-below 0 past h.requests x i in lt-ltb c.number past (omega (arith, number, l))))
    ∙ (ap (λ cs. filter_map f (take past all) ++ cs)
    (filter-none before f (drop past all)
    (λ x c i e. let number = candidate-number h key start tag x c e in let l = (dropped-above 0 past h.requests x i).0 in le-ltb c.number past (omega (arith, number, l))))
    ∙ append-nil (filter_map f (take past all))))))
  where
    f : ℕ × Sent → Option Candidate
    f = candidate h key start tag

    before : Candidate → Bool
    before c = nat_lt c.number past

    all : List (ℕ × Sent)
    all = enumerate_from 0 h.requests

-- ---- a mark while more is known

narrowed-below : (calm : ℕ) (touched : Option ℕ) (n : ℕ) → n ≤ narrowed_to calm touched → (n ≤ calm) × IsUpTo n touched
narrowed-below calm None n le = (le, tt)
narrowed-below calm (Some k) n le = (omega (arith, le), omega (arith, le))

narrowed-above : (calm : ℕ) (touched : Option ℕ) (n : ℕ) → n ≤ calm → IsUpTo n touched → n ≤ narrowed_to calm touched
narrowed-above calm None n le up = le
narrowed-above calm (Some k) n le up = omega (arith, le, up)

below-lower : (from : Option ℕ) (early tag : ℕ) → early ≤ tag → IsBelow tag from → IsBelow early from
below-lower None early tag le below = tt
below-lower (Some from) early tag le below = omega (arith, le, below)

-- a mark that stays is one of what is known later, as far as no request was touched
pub mark-later : (from touched : Option ℕ) (g later : Ground) (key : Key) (m : Mark) → AreSameBelow from g later → AreUnsureSame touched g later → IsKept m from touched → IsMark g key m
    → IsMark later key (with_calm m (narrowed_to m.calm touched))
mark-later from touched g later key m same unsure kept mark =
    record {
      mark =
          record {
            behind = mark.mark.behind;
            order = narrowed-above m.calm touched m.listed mark.mark.order kept.1;
            within =
                let below = (narrowed-below m.calm touched (narrowed_to m.calm touched) (omega arith)).0 in
                let w = mark.mark.within in
                let more = unsure.count in
                omega (arith, below, w, more);
            formed =
                subst (λ t. IsFormedMark t (with_calm m (narrowed_to m.calm touched))) (sym same.tailoring)
                (record { finds = mark.mark.formed.finds; basis = mark.mark.formed.basis; valid = mark.mark.formed.valid });
            found = found;
            known = λ n at to.
                let b = narrowed-below m.calm touched n to in
                subst (λ t. AreKnown t (unsures later.history key m.past n) m.origins.items m.finds.items) (sym same.tailoring)
                (subst (λ us. AreKnown g.tailoring us m.origins.items m.finds.items) (sym (unsure.unsures key m.past n (within n b.0) b.1)) (mark.mark.known n at b.0));
            open_change = λ n at to.
                let b = narrowed-below m.calm touched n to in
                mark.mark.open_change n at b.0 ∙ ap (λ us. first_after_all us None) (sym (unsure.unsures key m.past n (within n b.0) b.1));
          };
      opened = mark.opened;
      told = same.told key m.tag kept.0 ∙ (mark.told ∙ sym (same.told key m.opened (below-lower from m.opened m.tag mark.opened kept.0)));
    }
  where
    within : (n : ℕ) → n ≤ m.calm → n ≤ length g.history.requests
    within n le = let w = mark.mark.within in omega (arith, le, w)

    starts : starts_below later.tailoring later.history key m.tag ≡ starts_below g.tailoring g.history key m.tag
    starts =
        ap (λ t. boot_starts t later.history key ++ told_below later.history key m.tag) same.tailoring
        ∙ (ap (λ (b : Bool). (if b then record { tag = 0; state = boot_structure g.tailoring key } ∷ [] else []) ++ told_below later.history key m.tag) same.known
        ∙ ap (λ ss. boot_starts g.tailoring g.history key ++ ss) (same.told key m.tag kept.0))

    front : (s : ℕ) → among later.history key s m.tag 0 m.past ≡ among g.history key s m.tag 0 m.past
    front s =
        sym (front-of later.history key s m.tag m.past)
        ∙ (ap (λ cs. filter (λ (c : Candidate). nat_lt c.number m.past) cs) (same.candidates key s m.tag kept.0) ∙ front-of g.history key s m.tag m.past)

    found : (n : ℕ) → m.listed ≤ n → n ≤ narrowed_to m.calm touched
        → AreFound later.tailoring (passed later.history key m.tag m.past n) (starts_below later.tailoring later.history key m.tag) m.finds.items m.first
    found n at to =
        let below = narrowed-below m.calm touched n to in
        let w = mark.mark.within in
        let le : n ≤ length g.history.requests = (let b = below.0 in omega (arith, b, w)) in
        subst (λ ss. AreFound later.tailoring (passed later.history key m.tag m.past n) ss m.finds.items m.first) (sym starts)
        (subst (λ t. AreFound t (passed later.history key m.tag m.past n) (starts_below g.tailoring g.history key m.tag) m.finds.items m.first) (sym same.tailoring)
        (found-same g.tailoring (passed g.history key m.tag m.past n) (passed later.history key m.tag m.past n) (starts_below g.tailoring g.history key m.tag) m.finds.items m.first
        (λ s i. sym (ap (λ cs. cs ++ unsures later.history key m.past n) (front s.tag) ∙ ap (λ us. among g.history key s.tag m.tag 0 m.past ++ us) (unsure.unsures key m.past n le below.1)))
        (mark.mark.found n at below.0)))

-- ---- what is held

pub stands-more : (g : Ground) (held : List StructureMark) (x : StructureMark) → StandsFor held g → IsMark g x.key x.mark → StandsFor (held ++ x ∷ []) g
stands-more g held x stands mark = record { marks = All-push (λ (y : StructureMark). IsMark g y.key y.mark) held x stands.marks mark }

pub stands-drop : (g : Ground) (held : List StructureMark) (n : ℕ) → n ≤ length held → StandsFor held g → StandsFor (drop n held) g
stands-drop g held n le stands =
    record {
      marks = λ k d l.
          let long = length-drop n held in
          let within : n + k < length held = omega (arith, l, long, le) in
          subst (λ (y : StructureMark). IsMark g y.key y.mark) (sym (get_or-drop n held k d)) (stands.marks (n + k) d within);
    }

pub stands-left : (g : Ground) (held : List StructureMark) (place : ℕ) → StandsFor held g → StandsFor (take place held ++ drop (suc place) held) g
stands-left g held place stands =
    record {
      marks =
          All-append (λ (y : StructureMark). IsMark g y.key y.mark) (take place held) (drop (suc place) held) (All-take (λ (y : StructureMark). IsMark g y.key y.mark) place held stands.marks)
          (All-drop (λ (y : StructureMark). IsMark g y.key y.mark) (suc place) held stands.marks);
    }

-- what is said of a place is so of the mark there
pub place-at : (Wanted : Mark → Type 0) (key : Key) (held : List StructureMark) (place : ℕ) (x : StructureMark) → IsPlaceOf Wanted key held place → x ≡ get_or held place x
    → (key_eq x.key key ≡ true) × Wanted x.mark
place-at Wanted key held place x told is = subst (λ (y : StructureMark). (key_eq y.key key ≡ true) × Wanted y.mark) (sym is) (told.1 x)

-- a mark at a place, with its structure's key
pub held-mark : (g : Ground) (key : Key) (held : List StructureMark) (place : ℕ) (x : StructureMark) → StandsFor held g → place < length held → x ≡ get_or held place x → key_eq x.key key ≡ true → IsMark g key x.mark
held-mark g key held place x stands l is same =
    subst (λ k. IsMark g k x.mark) (key_eq-same x.key key same) (subst (λ (y : StructureMark). IsMark g y.key y.mark) (sym is) (stands.marks place x l))
