-- Files by their names.
use Rattle.std.proofs.Common.{◌≡◌, ◌<◌, ℕ, zero, suc, true, List, [], ◌∷◌, Some, length, drop, get_or, ap, ◌∙◌, sym, refl, arith}
use Rattle.std.specs.Str.{bytes_eq}
use Rattle.hk_base.specs.Memory.{file_at}
use Rattle.hk_base.specs.Outside.{file_of}

-- the file at a place that has the name is the one that is found from there on
pub file_at-of : (files : List (List ℕ × List ℕ)) (name : List ℕ) (i : ℕ) (file : List ℕ × List ℕ) → i < length files → file ≡ get_or files i file → bytes_eq file.0 name ≡ true → file_of (drop i files) name ≡ file_at files (Some i)
file_at-of [] name i file h e same = absurd (omega arith)
file_at-of (f ∷ files) name zero file h e same = rw (ap (λ g. bytes_eq g.0 name) (sym e) ∙ same) refl
file_at-of (f ∷ files) name (suc i) file h e same = file_at-of files name i file (omega (arith, h)) e same

-- the file at a place in the list
pub file_at-some : (files : List (List ℕ × List ℕ)) (i : ℕ) (file : List ℕ × List ℕ) → i < length files → file ≡ get_or files i file → file_at files (Some i) ≡ Some file.1
file_at-some [] i file h e = absurd (omega arith)
file_at-some (f ∷ files) zero file h e = ap (λ g. Some g.1) (sym e)
file_at-some (f ∷ files) (suc i) file h e = file_at-some files i file (omega (arith, h)) e
