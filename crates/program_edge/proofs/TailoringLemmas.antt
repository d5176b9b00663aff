-- What a tailoring file means, and what is answered of it.
use Rattle.std.proofs.Common.{◌≡◌, ℕ, true, false, List, [], length, Option, Some, None, Result, Ok, Err, refl, sym, ap, subst, ◌∙◌}
use Rattle.std.specs.Prelude.{Bool, nat_lt, IfSome, IsSome, if◌then◌else◌}
use Rattle.hk_base.specs.TailoringParts.{TailoringParts}
use Rattle.hk_base.specs.declared.types.Widths.{Widths}
use Rattle.hk_tailoring.specs.Keys.{Section}
use Rattle.hk_tailoring.specs.Widths.{AreWidths}
use Rattle.hk_tailoring.specs.Files.{document, file_fault, tree_of, IsOf, Stands}
use Rattle.hk_tailoring.specs.declared.fault.TailoringFault.{TailoringFault}
use Rattle.hk_tailoring.specs.declared.fault.TailoringFault.TheVariants as fault
use Rattle.hk_base.specs.Outside.{file_of, Selects}
use Rattle.program_edge.specs.Faults.{fault_of_tailoring}
use Rattle.program_edge.specs.Inputs.{IsWhole, TakesAtMost}
use Rattle.program_edge.specs.Tailorings.{most_file_octets, most_taken_of_tailoring, octets_of, IsAbsentFile, IsMeaning, IsMeant, HasReadFile, MovesInFile}
use Rattle.program_edge.specs.declared.fault.RunFault.{RunFault}
use Rattle.program_edge.specs.declared.fault.RunFault.TheVariants as run

-- a document states one row of widths
one_widths : (s : Section) (v w : Widths) → AreWidths s v → AreWidths s w → v ≡ w
one_widths s v w a b =
    let v_is : v ≡ record { apid = v.apid; ground = v.ground; coarse = v.coarse; fine = v.fine; slot = v.slot; tc_checksum = v.tc_checksum; tm_checksum = v.tm_checksum; packed = v.packed; structure_octets = v.structure_octets; parameter_octets = v.parameter_octets; interval_octets = v.interval_octets; count_octets = v.count_octets; repetition_octets = v.repetition_octets; step_octets = v.step_octets; mean_fraction = v.mean_fraction; max_interval = v.max_interval; max_payload = v.max_payload } = refl in
    let w_is : w ≡ record { apid = w.apid; ground = w.ground; coarse = w.coarse; fine = w.fine; slot = w.slot; tc_checksum = w.tc_checksum; tm_checksum = w.tm_checksum; packed = w.packed; structure_octets = w.structure_octets; parameter_octets = w.parameter_octets; interval_octets = w.interval_octets; count_octets = w.count_octets; repetition_octets = w.repetition_octets; step_octets = w.step_octets; mean_fraction = w.mean_fraction; max_interval = w.max_interval; max_payload = w.max_payload } = refl in
    let e0 = a.packed ∙ sym b.packed in
    let e1 = a.apid ∙ sym b.apid in
    let e2 = a.address ∙ sym b.address in
    let e3 = a.coarse ∙ sym b.coarse in
    let e4 = a.fine ∙ sym b.fine in
    let e5 = a.slot ∙ sym b.slot in
    let e6 = a.tc_checksum ∙ sym b.tc_checksum in
    let e7 = a.tm_checksum ∙ sym b.tm_checksum in
    let e8 = a.structure_octets ∙ sym b.structure_octets in
    let e9 = a.parameter_octets ∙ sym b.parameter_octets in
    let e10 = a.interval_octets ∙ sym b.interval_octets in
    let e11 = a.count_octets ∙ sym b.count_octets in
    let e12 = a.repetition_octets ∙ sym b.repetition_octets in
    let e13 = a.step_octets ∙ sym b.step_octets in
    let e14 = a.mean_fraction ∙ sym b.mean_fraction in
    let e15 = a.max_interval ∙ sym b.max_interval in
    let e16 = a.max_payload ∙ sym b.max_payload in
    cc

same_parts : (t u : TailoringParts) → t.widths ≡ u.widths → t.params ≡ u.params → t.boots ≡ u.boots → t ≡ u
same_parts t u a b c =
    let t_is : t ≡ record { widths = t.widths; params = t.params; boots = t.boots } = refl in
    let u_is : u ≡ record { widths = u.widths; params = u.params; boots = u.boots } = refl in
    cc

-- a document states one tailoring
one_stated : (s : Section) (t u : TailoringParts) → Stands s t → Stands s u → t ≡ u
one_stated s t u a b = same_parts t u (one_widths s t.widths u.widths a.widths b.widths) (a.params ∙ sym b.params) (a.boots ∙ sym b.boots)

one_in : {M : Type 0} (tree : Option M) (P Q : M → Type 0) (t u : TailoringParts) → ((m : M) → P m → Q m → t ≡ u) → IfSome tree P × IsSome tree
    → IfSome tree Q × IsSome tree → t ≡ u
one_in None P Q t u same a b = absurd (cc a.1)
one_in (Some m) P Q t u same a b = same m a.0 b.0

-- a file states one tailoring
one_of_file : (octets : List ℕ) (t u : TailoringParts) → IsOf octets t → IsOf octets u → t ≡ u
one_of_file octets t u a b = one_in (tree_of octets) (λ m. Stands (document m) t) (λ m. Stands (document m) u) t u (λ m x y. one_stated (document m) t u x y) a b

-- a file that isn't too long has the fault of its document
short_fault : (long : Bool) (f found : Option TailoringFault) → long ≡ false → (if long then Some fault.TooLong else f) ≡ found → f ≡ found
short_fault true f found e p = absurd (cc e)
short_fault false f found e p = p

not_both : (f : TailoringFault) (o : Option TailoringFault) → o ≡ None → o ≡ Some f → ⊥
not_both f o a b = cc

same_fault : (f h : TailoringFault) (o : Option TailoringFault) → o ≡ Some f → o ≡ Some h → f ≡ h
same_fault f h o a b = cc

-- a tailoring that was read is what was meant
pub read_meant : (octets : List ℕ) (t : TailoringParts) → nat_lt most_file_octets (length octets) ≡ false → file_fault octets ≡ None → IsOf octets t
    → (meant : Result TailoringParts TailoringFault) → IsMeaning octets meant → IsMeant (Ok t) meant
read_meant octets t short fine is (Ok u) m = ap Ok (one_of_file octets u t m.1 is)
read_meant octets t short fine is (Err f) m = absurd (not_both f (file_fault octets) fine (short_fault (nat_lt most_file_octets (length octets)) (file_fault octets) (Some f) short m))

-- a fault that is not of memory is what was meant
told_fault : (octets : List ℕ) (f : TailoringFault) → nat_lt most_file_octets (length octets) ≡ false → file_fault octets ≡ Some f
    → (meant : Result TailoringParts TailoringFault) → IsMeaning octets meant → IsMeant (Err (run.Tailoring f)) meant
told_fault octets f short is (Ok u) m = absurd (not_both f (file_fault octets) (short_fault (nat_lt most_file_octets (length octets)) (file_fault octets) None short m.0) is)
told_fault octets f short is (Err h) m = sym (ap Err (same_fault f h (file_fault octets) is (short_fault (nat_lt most_file_octets (length octets)) (file_fault octets) (Some h) short m)))

-- the same of every fault that reading answers
pub fault_meant : (octets : List ℕ) (f : TailoringFault) → nat_lt most_file_octets (length octets) ≡ false → (¬ (f ≡ fault.Memory) → file_fault octets ≡ Some f)
    → (meant : Result TailoringParts TailoringFault) → IsMeaning octets meant → IsMeant (Err (fault_of_tailoring f)) meant
fault_meant octets fault.Memory short is (Ok u) m = tt
fault_meant octets fault.Memory short is (Err h) m = tt
fault_meant octets fault.NotToml short is meant m = told_fault octets fault.NotToml short (is (λ e. cc e)) meant m
fault_meant octets (fault.MissingKey p) short is meant m = told_fault octets (fault.MissingKey p) short (is (λ e. cc e)) meant m
fault_meant octets (fault.WrongKind p) short is meant m = told_fault octets (fault.WrongKind p) short (is (λ e. cc e)) meant m
fault_meant octets (fault.OutOfRange p v) short is meant m = told_fault octets (fault.OutOfRange p v) short (is (λ e. cc e)) meant m
fault_meant octets (fault.RepeatedParam n) short is meant m = told_fault octets (fault.RepeatedParam n) short (is (λ e. cc e)) meant m
fault_meant octets (fault.UnknownParam n) short is meant m = told_fault octets (fault.UnknownParam n) short (is (λ e. cc e)) meant m
fault_meant octets (fault.RepeatedStructure k) short is meant m = told_fault octets (fault.RepeatedStructure k) short (is (λ e. cc e)) meant m
fault_meant octets (fault.BadRepetition r n) short is meant m = told_fault octets (fault.BadRepetition r n) short (is (λ e. cc e)) meant m
fault_meant octets (fault.TooWide n) short is meant m = told_fault octets (fault.TooWide n) short (is (λ e. cc e)) meant m
fault_meant octets (fault.Doubled n) short is meant m = told_fault octets (fault.Doubled n) short (is (λ e. cc e)) meant m
fault_meant octets (fault.UnknownKey p) short is meant m = told_fault octets (fault.UnknownKey p) short (is (λ e. cc e)) meant m
fault_meant octets fault.TooLong short is meant m = told_fault octets fault.TooLong short (is (λ e. cc e)) meant m

long_fault : (long : Bool) (f found : Option TailoringFault) → long ≡ true → (if long then Some fault.TooLong else f) ≡ found → found ≡ Some fault.TooLong
long_fault true f found e p = sym p
long_fault false f found e p = absurd (cc e)

-- a file that is too long means that
pub long_meant : (octets : List ℕ) → nat_lt most_file_octets (length octets) ≡ true → (meant : Result TailoringParts TailoringFault) → IsMeaning octets meant
    → IsMeant (Err (run.Tailoring fault.TooLong)) meant
long_meant octets long (Ok u) m = absurd (cc (long_fault (nat_lt most_file_octets (length octets)) (file_fault octets) None long m.0))
long_meant octets long (Err h) m = sym (ap Err (same_fault fault.TooLong h (Some fault.TooLong) refl (sym (long_fault (nat_lt most_file_octets (length octets)) (file_fault octets) (Some h) long m))))

-- what octets mean that were found whole is what the shelf's octets mean
pub whole_meant : (rest : Option (List ℕ)) (found : List ℕ) (result : Result TailoringParts RunFault) → IfSome rest (λ octets. IsWhole most_file_octets octets (Ok (Some found)))
    → ((meant : Result TailoringParts TailoringFault) → IsMeaning found meant → IsMeant result meant)
    → IfSome rest (λ octets. (meant : Result TailoringParts TailoringFault) → IsMeaning octets meant → IsMeant result meant)
whole_meant None found result whole is = tt
whole_meant (Some octets) found result whole is = λ meant m. is meant (subst (λ xs. IsMeaning xs meant) (sym whole.0) m)

-- a file that was found too long means that
pub long_told : (rest : Option (List ℕ)) → IfSome rest (λ octets. IsWhole most_file_octets octets (Ok None))
    → IfSome rest (λ octets. (meant : Result TailoringParts TailoringFault) → IsMeaning octets meant → IsMeant (Err (run.Tailoring fault.TooLong)) meant)
long_told None long = tt
long_told (Some octets) long = λ meant m. long_meant octets long meant m

-- an absent file can't be selected
pub unselected : (files : Option (List (List ℕ × List ℕ))) (name : List ℕ) (rest : Option (List ℕ)) → IsAbsentFile files name → Selects files name rest → ⊥
unselected None name rest absent selects = cc (absent.1)
unselected (Some all) name rest absent selects = no_file (file_of all name) absent.0 selects.0
  where
    no_file : (o : Option (List ℕ)) → o ≡ None → IsSome o → ⊥
    no_file None is some = cc some
    no_file (Some octets) is some = cc is

-- what a shelf took of the file that it selected
pub moved_in : (most : ℕ) (files : Option (List (List ℕ × List ℕ))) (name : List ℕ) (rest now : Option (List ℕ)) → Selects files name rest → TakesAtMost most rest now
    → TakesAtMost most (octets_of files name) now
moved_in most None name rest now selects taken = tt
moved_in most (Some all) name rest now selects taken = subst (λ o. TakesAtMost most o now) selects.1 taken

-- the file that was selected was read to its end
pub file_read : (files : Option (List (List ℕ × List ℕ))) (name : List ℕ) (rest now : Option (List ℕ)) → Selects files name rest → IfSome rest (λ octets. now ≡ Some []) → HasReadFile files now
file_read None name rest now selects out = tt
file_read (Some all) name None now selects out = absurd (no_rest (file_of all name) selects.1 selects.0)
  where
    no_rest : (o : Option (List ℕ)) → None ≡ o → IsSome o → ⊥
    no_rest None is some = cc some
    no_rest (Some octets) is some = cc is
file_read (Some all) name (Some octets) now selects out = out
