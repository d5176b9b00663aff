-- Lines that are each ended by a line feed, divided again.
use Rattle.std.proofs.Common.{arith, ◌≡◌, ℕ, zero, suc, ◌+◌, ◌/◌, ◌%◌, refl, sym, ◌∙◌, ap, List, [], ◌∷◌, ◌++◌, append_assoc, Bool, true, false, ◌==◌, nat_lt, cond, ℤ, pos, negsuc}
use Rattle.std.proofs.lemmas.List.Elements.{All-from_recursion}
use Rattle.std.proofs.lemmas.List.Folds.{list_all-append}
use Rattle.std.proofs.lemmas.List.Splits.{slice_split_at}
use Rattle.std.proofs.lemmas.Bool.{and_from, and_parts, not-true}
use Rattle.std.proofs.lemmas.Bool.Decides.{nat_tests}
use Rattle.std.specs.Prelude.{not, flat_map, if◌then◌else◌}
use Rattle.std.specs.List.{AllByRecursion, list_all, slice_split, onto_first}
use Rattle.std.specs.Fmt.{decimal, signed_decimal, digits, digits_onto, digit_glyph}
use Rattle.session_texts.specs.Blocks.{line_end}
use Rattle.session_texts.specs.Lines.{without_last, lines_of}

-- no octet is a line feed
abbrev pub has_no_feed : List ℕ → Bool
has_no_feed xs = list_all (λ octet. not (octet == 10)) xs

pub no_feed-append : (xs ys : List ℕ) → has_no_feed xs ≡ true → has_no_feed ys ≡ true → has_no_feed (xs ++ ys) ≡ true
no_feed-append xs ys e f = list_all-append (λ octet. not (octet == 10)) xs ys ∙ and_from (has_no_feed xs) (has_no_feed ys) e f

no_feed-glyph : (d : ℕ) → not (digit_glyph false d == 10) ≡ true
no_feed-glyph d = go (nat_lt d 10)
  where
    go : (b : Bool) → not ((if b then 48 + d else 87 + d) == 10) ≡ true
    go true = grind (arith, nat_tests)
    go false = grind (arith, nat_tests)

no_feed-onto : (k base n : ℕ) (acc : List ℕ) → has_no_feed acc ≡ true → has_no_feed (digits_onto k base false n acc) ≡ true
no_feed-onto zero base n acc e = e
no_feed-onto (suc k) base n acc e = go (n / base == 0) (no_feed-onto k base (n / base) (digit_glyph false (n % base) ∷ acc) more)
  where
    more : has_no_feed (digit_glyph false (n % base) ∷ acc) ≡ true
    more = and_from (not (digit_glyph false (n % base) == 10)) (has_no_feed acc) (no_feed-glyph (n % base)) e

    go : (b : Bool) → has_no_feed (digits_onto k base false (n / base) (digit_glyph false (n % base) ∷ acc)) ≡ true
        → has_no_feed (if b then digit_glyph false (n % base) ∷ acc else digits_onto k base false (n / base) (digit_glyph false (n % base) ∷ acc)) ≡ true
    go true rest = more
    go false rest = rest

-- the text of a number has no line feed
pub no_feed-decimal : (n : ℕ) → has_no_feed (decimal n) ≡ true
unfolding digits
no_feed-decimal n = no_feed-onto 64 10 n [] refl

pub no_feed-signed : (v : ℤ) → has_no_feed (signed_decimal v) ≡ true
no_feed-signed (pos n) = no_feed-decimal n
no_feed-signed (negsuc n) = no_feed-decimal (suc n)

-- a line with its line feed, one part in front
pub line-more : (a x y : List ℕ) → x ≡ y ++ line_end → a ++ x ≡ (a ++ y) ++ line_end
line-more a x y e = ap (λ z. a ++ z) e ∙ sym (append_assoc a y line_end)

-- lines, each with its line feed
abbrev pub fed : List (List ℕ) → List ℕ
fed lines = flat_map (λ line. line ++ line_end) lines

pub fed-append : (xs ys : List (List ℕ)) → fed (xs ++ ys) ≡ fed xs ++ fed ys
fed-append [] ys = refl
fed-append (x ∷ xs) ys = ap (λ z. (x ++ line_end) ++ z) (fed-append xs ys) ∙ sym (append_assoc (x ++ line_end) (fed xs) (fed ys))

-- no line has a line feed
abbrev pub AreWhole : List (List ℕ) → Type 0
AreWhole lines = AllByRecursion (λ line. has_no_feed line ≡ true) lines

abbrev is_feed : ℕ → Bool
is_feed octet = octet == 10

each-no_feed : (xs : List ℕ) → has_no_feed xs ≡ true → AllByRecursion (λ octet. is_feed octet ≡ false) xs
each-no_feed [] e = tt
each-no_feed (x ∷ xs) e = let r = and_parts (not (x == 10)) (has_no_feed xs) e in (not-true (x == 10) r.0, each-no_feed xs r.1)

-- a list that is divided has a part
record IsParted (parts : List (List ℕ)) : Type 0 where
  first : List ℕ
  others : List (List ℕ)
  is : parts ≡ first ∷ others

onto-parted : (x : ℕ) (parts : List (List ℕ)) → IsParted (onto_first x parts)
onto-parted x [] = record { first = _; others = _; is = refl }
onto-parted x (p ∷ ps) = record { first = _; others = _; is = refl }

parted : (xs : List ℕ) → IsParted (slice_split is_feed xs)
parted [] = record { first = []; others = []; is = refl }
parted (x ∷ xs) = go (is_feed x)
  where
    go : (b : Bool) → IsParted (cond b ([] ∷ slice_split is_feed xs) (onto_first x (slice_split is_feed xs)))
    go true = record { first = []; others = slice_split is_feed xs; is = refl }
    go false = onto-parted x (slice_split is_feed xs)

last-more : (line : List ℕ) (parts : List (List ℕ)) → IsParted parts → without_last (line ∷ parts) ≡ line ∷ without_last parts
last-more line parts p = ap (λ ps. without_last (line ∷ ps)) p.is ∙ ap (λ ps. line ∷ without_last ps) (sym p.is)

-- a line and its line feed stand before the lines of what follows
lines-more : (line text : List ℕ) → has_no_feed line ≡ true → lines_of ((line ++ line_end) ++ text) ≡ line ∷ lines_of text
lines-more line text e =
    ap lines_of (append_assoc line line_end text)
    ∙ ap without_last (slice_split_at is_feed line 10 text (All-from_recursion _ line (each-no_feed line e)) refl)
    ∙ last-more line (slice_split is_feed text) (parted text)

-- the lines of lines are these
pub lines-fed : (lines : List (List ℕ)) → AreWhole lines → lines_of (fed lines) ≡ lines
lines-fed [] whole = refl
lines-fed (line ∷ lines) whole = lines-more line (fed lines) whole.0 ∙ ap (λ ls. line ∷ ls) (lines-fed lines whole.1)

-- ---- a first part of a text

-- the first lines of a list
record IsFront (front all : List (List ℕ)) : Type 0 where
  more : List (List ℕ)
  is : all ≡ front ++ more

front-feed : (parts wider : List (List ℕ)) → IsParted parts → IsParted wider → IsFront (without_last parts) (without_last wider) → IsFront (without_last ([] ∷ parts)) (without_last ([] ∷ wider))
front-feed parts wider p q f =
    record { more = f.more; is = last-more [] wider q ∙ ap (λ ls. [] ∷ ls) f.is ∙ ap (λ ls. ls ++ f.more) (sym (last-more [] parts p)) }

first-longer : (x : ℕ) (parts wider : List (List ℕ)) → IsParted parts → IsParted wider → IsFront (without_last parts) (without_last wider)
    → IsFront (without_last (onto_first x parts)) (without_last (onto_first x wider))
first-longer x [] wider p q f = absurd (let same = p.is in cc)
first-longer x (a ∷ []) wider p q f = record { more = without_last (onto_first x wider); is = refl }
first-longer x (a ∷ b ∷ bs) [] p q f = absurd (let same = q.is in cc)
first-longer x (a ∷ b ∷ bs) (c ∷ []) p q f = absurd (let same = f.is in cc)
first-longer x (a ∷ b ∷ bs) (c ∷ d ∷ ds) p q f =
    record { more = f.more; is = with_first (λ z. x ∷ z) c a (without_last (d ∷ ds)) (without_last (b ∷ bs) ++ f.more) f.is }
  where
    head_of : List (List ℕ) → List ℕ
    head_of [] = []
    head_of (z ∷ zs) = z

    tail_of : List (List ℕ) → List (List ℕ)
    tail_of [] = []
    tail_of (z ∷ zs) = zs

    with_first : (g : List ℕ → List ℕ) (y z : List ℕ) (ys zs : List (List ℕ)) → y ∷ ys ≡ z ∷ zs → g y ∷ ys ≡ g z ∷ zs
    with_first g y z ys zs e = ap (λ h. g h ∷ ys) (ap head_of e) ∙ ap (λ t. g z ∷ t) (ap tail_of e)

front : (xs ys : List ℕ) → IsFront (without_last (slice_split is_feed xs)) (without_last (slice_split is_feed (xs ++ ys)))
front [] ys = record { more = without_last (slice_split is_feed ys); is = refl }
front (x ∷ xs) ys = go (is_feed x) (front xs ys)
  where
    go : (b : Bool) → IsFront (without_last (slice_split is_feed xs)) (without_last (slice_split is_feed (xs ++ ys)))
        → IsFront (without_last (cond b ([] ∷ slice_split is_feed xs) (onto_first x (slice_split is_feed xs))))
        (without_last (cond b ([] ∷ slice_split is_feed (xs ++ ys)) (onto_first x (slice_split is_feed (xs ++ ys)))))
    go true f = front-feed (slice_split is_feed xs) (slice_split is_feed (xs ++ ys)) (parted xs) (parted (xs ++ ys)) f
    go false f = first-longer x (slice_split is_feed xs) (slice_split is_feed (xs ++ ys)) (parted xs) (parted (xs ++ ys)) f

-- the lines of a first part of a text are its first lines
pub lines-front : (xs ys : List ℕ) → (more : List (List ℕ)) × (lines_of (xs ++ ys) ≡ lines_of xs ++ more)
lines-front xs ys = let f = front xs ys in (f.more, f.is)
