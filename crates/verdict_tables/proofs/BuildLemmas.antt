-- The ranges of all structures, one structure after the other.
use Rattle.std.proofs.Common.{arith, ◌≡◌, ℕ, suc, ◌^◌, ◌<◌, refl, sym, ◌∙◌, ap, subst, List, [], ◌∷◌, inl, inr, Option, Some, None, length, IfOk}
use Rattle.std.specs.Prelude.{◌≢◌, slice_get, unwrap_or, Result, Ok, Err}
use Rattle.std.specs.List.{All}
use Rattle.std.specs.List.Sorted.{IsStrictlyIncreasing}
use Rattle.hk_base.specs.TailoringParts.{TailoringParts}
use Rattle.hk_base.specs.declared.types.Key.{Key}
use Rattle.hk_base.specs.declared.types.Memory.{Memory}
use Rattle.hk_base.proofs.Membership.{IsIn, AllByRecursion-IsIn}
use Rattle.ground_history.specs.Histories.{History}
use Rattle.ground_history.specs.Ground.{Ground}
use Rattle.definition_intervals.specs.Bases.{AreBases, IsFormedBasis}
use Rattle.definition_intervals.specs.declared.answer.Basis.{Basis}
use Rattle.verdict_tables.specs.Places.{is_among, places}
use Rattle.verdict_tables.specs.Collecting.{HasTable, IsTable, collected_places}
use Rattle.verdict_tables.specs.Tables.{RangeParts, IsRanges}
use Rattle.verdict_tables.specs.Collecting.{AreRangesAt}
use Rattle.verdict_tables.proofs.MemberLemmas.{among-IsIn, among-same}
use Rattle.verdict_tables.proofs.NamedLemmas.{collected-IsIn, places-IsIn}
use Rattle.verdict_tables.proofs.RisingLemmas.{Rises, rises}

-- a structure whose places are left has no ranges yet; another one has its ranges, or no places
abbrev pub IsPartly : Ground → Key → Option (List ℕ) → Option RangeParts → Type 0
IsPartly g key (Some tags) found = (tags ≡ collected_places g.history key) × (found ≡ None)
IsPartly g key None found = HasTable g key found

-- a list whose members are those of an empty one
no_members : (xs ys : List ℕ) → ((n : ℕ) → IsIn n xs → IsIn n ys) → ys ≡ [] → xs ≡ []
no_members [] ys h e = refl
no_members (x ∷ xs) ys h e = absurd (subst (λ (l : List ℕ). IsIn x l) e (h x (inl refl)))

no-places : (h : History) (key : Key) → [] ≡ collected_places h key → places h key ≡ []
no-places h key e = no_members (places h key) (collected_places h key) (λ n i. places-IsIn h key n i) (sym e)

-- before any structure is taken
pub partly-first : (g : Ground) (key : Key) (left : Option (List ℕ)) → unwrap_or left [] ≡ collected_places g.history key → IsPartly g key left None
partly-first g key None e = no-places g.history key e
partly-first g key (Some tags) e = (e, refl)

-- the first of rising tags with 0 among them is 0
zero-first : (firsts : List ℕ) → Rises firsts → IsIn 0 firsts → slice_get firsts 0 ≡ Some 0
zero-first [] r i = absurd i
zero-first (x ∷ xs) r (inl e) = ap Some (sym e)
zero-first (x ∷ xs) r (inr i) = absurd (omega (arith, AllByRecursion-IsIn (λ y. x < y) 0 xs r.0 i))

bases-length : (t : TailoringParts) (h : History) (key : Key) (firsts : List ℕ) (bases : List Basis) → AreBases t h key firsts bases → length bases ≡ length firsts
bases-length t h key [] [] all = refl
bases-length t h key (f ∷ fs) (b ∷ bs) all = ap suc (bases-length t h key fs bs all.1)
bases-length t h key [] (b ∷ bs) all = absurd all
bases-length t h key (f ∷ fs) [] all = absurd all

pub ranges-made : (t : TailoringParts) (h : History) (key : Key) (tags firsts : List ℕ) (bases : List Basis) → IsStrictlyIncreasing firsts
    → ((tag : ℕ) → is_among tag firsts ≡ is_among tag (0 ∷ tags)) → AreBases t h key firsts bases → length firsts < 2 ^ 32 → IsRanges (record { firsts = firsts; bases = bases })
ranges-made t h key tags firsts bases rising members are few =
    record {
      begin = zero-first firsts (rises firsts rising) (among-IsIn 0 firsts (members 0));
      rising = rising;
      each = bases-length t h key firsts bases are;
      few = few;
    }

pub table-made : (g : Ground) (key : Key) (tags firsts : List ℕ) (bases : List Basis) → tags ≡ collected_places g.history key → tags ≢ [] → IsStrictlyIncreasing firsts
    → ((tag : ℕ) → is_among tag firsts ≡ is_among tag (0 ∷ tags)) → AreBases g.tailoring g.history key firsts bases → All (IsFormedBasis g.tailoring) bases
    → IsTable g key (record { firsts = firsts; bases = bases })
table-made g key tags firsts bases is some rising members are formed =
    record {
      some = λ e. some (is ∙ no_members (collected_places g.history key) (places g.history key) (λ n i. collected-IsIn g.history key n i) e);
      firsts = record {
        rising = rising;
        members = λ tag. members tag ∙ (ap (λ (l : List ℕ). is_among tag (0 ∷ l)) is
            ∙ among-same (0 ∷ collected_places g.history key) (0 ∷ places g.history key) (λ n i. with-zero n (collected_places g.history key) (places g.history key) (collected-IsIn g.history key n) i)
            (λ n i. with-zero n (places g.history key) (collected_places g.history key) (places-IsIn g.history key n) i) tag);
      };
      bases = are;
      formed = formed;
    }
  where
    with-zero : (n : ℕ) (xs ys : List ℕ) → (IsIn n xs → IsIn n ys) → IsIn n (0 ∷ xs) → IsIn n (0 ∷ ys)
    with-zero n xs ys h (inl e) = inl e
    with-zero n xs ys h (inr i) = inr (h i)

-- ranges that begin at what was collected for a structure are its table
pub tables-made : (g : Ground) (key : Key) (tags : List ℕ) (made : Result RangeParts Memory) → tags ≡ collected_places g.history key → tags ≢ [] → IfOk made (AreRangesAt g key tags)
    → IfOk made (IsTable g key)
tables-made g key tags (Ok ranges) is some at = table-made g key tags ranges.firsts ranges.bases is some at.rising at.members at.bases at.formed
tables-made g key tags (Err m) is some at = at
