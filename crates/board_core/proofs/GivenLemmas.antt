-- The instructions of a request of a core are of the grammar.
use Rattle.std.proofs.Common.{◌≡◌, ℕ, zero, suc, ◌<◌, ◌^◌, refl, sym, ◌∙◌, ap, ap₂, subst, List, [], ◌∷◌, map, Option, Some, None, Ok, Err, Result}
use Rattle.std.specs.Prelude.{slice_get}
use Rattle.std.specs.List.{AllByRecursion}
use Rattle.std.specs.Option.{option_or}
use Rattle.std.proofs.lemmas.Option.{none-some, same_Some}
use Rattle.hk_base.specs.TailoringParts.{TailoringParts}
use Rattle.hk_base.specs.declared.types.Key.{Key}
use Rattle.body_fields.specs.Spelling.{AreOctets, AllStand, AllFit}
use Rattle.st03_grammar.specs.Spelling.{IsRequest03}
use Rattle.st03_grammar.specs.Instructions.{StructureChange, structure_changes, key_of, plain, set_interval}
use Rattle.st03_grammar.specs.declared.bodies.Request03.{Request03}
use Rattle.st03_grammar.specs.declared.bodies.Request03.TheVariants.{Create, Append, OnEach, Intervals}
use Rattle.st03_grammar.specs.declared.bodies.Pair.{Pair}
use Rattle.body_fields.specs.Reading.{param_fault, repeat_fault}
use Rattle.st04_grammar.specs.Bodies.{numeric_fault, form_fault}
use Rattle.st04_grammar.specs.Instructions.{StatisticsChange, statistics_changes, add, delete}
use Rattle.st04_grammar.specs.Spelling as st04
use Rattle.st04_grammar.specs.declared.bodies.Request04.{Request04}
use Rattle.st04_grammar.specs.declared.bodies.Request04.TheVariants as ask04
use Rattle.st20_grammar.specs.declared.bodies.Request20.TheVariants as ask20
use Rattle.pus_messages.specs.Instructions.{Instruction, on_structure, on_statistics, body_instructions, instructions}
use Rattle.pus_messages.specs.Messages.{request_of}
use Rattle.pus_messages.specs.Spelling.{IsRequestBody}
use Rattle.pus_messages.specs.declared.message.MessageFault.{MessageFault}
use Rattle.pus_messages.specs.declared.message.Request.{Request}
use Rattle.pus_messages.specs.declared.message.RequestBody.{RequestBody}
use Rattle.pus_messages.specs.declared.message.RequestBody.TheVariants as ask
use Rattle.report_structures.proofs.GrammarLemmas.{instruction_of_grammar}
use Rattle.hk_world.specs.Timelines.{request_at}
use Rattle.board_steps.specs.Cores.{Core, session}
use Rattle.board_steps.proofs.GrammarLemmas.{RequestsOnly}
use Rattle.board_steps.proofs.ValueLemmas.{all-at, in_packet}
use Rattle.board_core.specs.Effects.{IsOfGrammar, IsStatisticsOfGrammar}

-- a member of a mapped list
mapped-at : {A B : Type 0} (f : A → B) (xs : List A) (i : ℕ) (y : B) → slice_get (map f xs) i ≡ Some y → (x : A) × (slice_get xs i ≡ Some x) × (f x ≡ y)
mapped-at f [] i y e = absurd (none-some y e)
mapped-at f (x ∷ xs) zero y e = (x, refl, same_Some (f x) y e)
mapped-at f (x ∷ xs) (suc i) y e = mapped-at f xs i y e

-- the keys of a request fit their field
key-fits : (t : TailoringParts) (r : Request03) (i : ℕ) (c : Key × StructureChange) → IsRequest03 t r → slice_get (structure_changes r) i ≡ Some c → c.0.id < 256 ^ t.widths.structure_octets
key-fits t (Create key d) zero c h e = subst (λ (x : Key × StructureChange). x.0.id < 256 ^ t.widths.structure_octets) (same_Some _ c e) h.0
key-fits t (Create key d) (suc i) c h e = absurd (none-some c e)
key-fits t (Append key a) zero c h e = subst (λ (x : Key × StructureChange). x.0.id < 256 ^ t.widths.structure_octets) (same_Some _ c e) h.0
key-fits t (Append key a) (suc i) c h e = absurd (none-some c e)
key-fits t (OnEach each kind ids) i c h e =
    let m = mapped-at each_change ids i c e in
    subst (λ (x : Key × StructureChange). x.0.id < 256 ^ t.widths.structure_octets) m.2 (all-at (λ n. n < 256 ^ t.widths.structure_octets) ids i m.0 h.1.1 m.1)
  where
    each_change : ℕ → Key × StructureChange
    each_change id = (key_of kind id, plain each)
key-fits t (Intervals kind pairs) i c h e =
    let m = mapped-at pair_change pairs i c e in
    subst (λ (x : Key × StructureChange). x.0.id < 256 ^ t.widths.structure_octets) m.2 (pairs-fit pairs i m.0 h.1.1 m.1)
  where
    pair_change : Pair → Key × StructureChange
    pair_change p = (key_of kind p.id, set_interval p.interval)

    pairs-fit : (ps : List Pair) (j : ℕ) (p : Pair) → AllFit t.widths.structure_octets (map (λ q. q.id) ps) → slice_get ps j ≡ Some p → p.id < 256 ^ t.widths.structure_octets
    pairs-fit [] j p k f = absurd (none-some p f)
    pairs-fit (q ∷ ps) zero p k f = subst (λ (x : Pair). x.id < 256 ^ t.widths.structure_octets) (same_Some q p f) k.0
    pairs-fit (q ∷ ps) (suc j) p k f = pairs-fit ps j p k.1 f

or-none : {X : Type 0} (a b : Option X) → option_or a b ≡ None → (a ≡ None) × (b ≡ None)
or-none None b e = (refl, e)
or-none (Some x) b e = absurd (none-some x (sym e))

-- a parameter with numbers among others is one
alone-numeric : (t : TailoringParts) (earlier : List ℕ) (id : ℕ) → numeric_fault t earlier id ≡ None → numeric_fault t [] id ≡ None
alone-numeric t earlier id e =
    let a = or-none (param_fault t earlier id) (form_fault t id) e in
    let b = or-none (repeat_fault earlier id) (param_fault t [] id) a.0 in
    ap₂ option_or b.1 a.1

all-numeric : (t : TailoringParts) (ids earlier : List ℕ) (i id : ℕ) → AllStand (numeric_fault t) earlier ids → slice_get ids i ≡ Some id → numeric_fault t [] id ≡ None
all-numeric t [] earlier i id h e = absurd (none-some id e)
all-numeric t (x ∷ ids) earlier zero id h e = subst (λ n. numeric_fault t [] n ≡ None) (same_Some x id e) (alone-numeric t earlier x h.0)
all-numeric t (x ∷ ids) earlier (suc i) id h e = all-numeric t ids (x ∷ earlier) i id h.1 e

one-only : {A : Type 0} (P : A → Type 0) (x y : A) (i : ℕ) → P x → slice_get (x ∷ []) i ≡ Some y → P y
one-only P x y zero h e = subst P (same_Some x y e) h
one-only P x y (suc i) h e = absurd (none-some y e)

statistics-of : (t : TailoringParts) (r : Request04) (i : ℕ) (c : StatisticsChange) → st04.IsRequest t r → slice_get (statistics_changes r) i ≡ Some c → IsStatisticsOfGrammar t c
statistics-of t (ask04.Report resets) i c h e = one-only (IsStatisticsOfGrammar t) _ c i tt e
statistics-of t ask04.Reset i c h e = one-only (IsStatisticsOfGrammar t) _ c i tt e
statistics-of t (ask04.Enable n) i c h e = one-only (IsStatisticsOfGrammar t) _ c i h e
statistics-of t ask04.Disable i c h e = one-only (IsStatisticsOfGrammar t) _ c i tt e
statistics-of t (ask04.Add ids) i c h e =
    let m = mapped-at add ids i c e in
    subst (IsStatisticsOfGrammar t) m.2 (all-numeric t ids [] i m.0 h.stand m.1)
statistics-of t (ask04.Delete []) i c h e = one-only (IsStatisticsOfGrammar t) _ c i tt e
statistics-of t (ask04.Delete (x ∷ ids)) i c h e =
    let m = mapped-at delete (x ∷ ids) i c e in
    subst (IsStatisticsOfGrammar t) m.2 tt
statistics-of t ask04.ShowDefinitions i c h e = one-only (IsStatisticsOfGrammar t) _ c i tt e

-- each instruction of a body of the grammar is of the grammar
instruction-of : (t : TailoringParts) (b : RequestBody) (i : ℕ) (x : Instruction) → IsRequestBody t b → slice_get (body_instructions b) i ≡ Some x → IsOfGrammar t x
instruction-of t (ask.Hk r) i x h e =
    let m = mapped-at on_change (structure_changes r) i x e in
    subst (IsOfGrammar t) m.2 (instruction_of_grammar t r (suc i) m.0.0 m.0.1 h m.1, key-fits t r i m.0 h m.1)
  where
    on_change : Key × StructureChange → Instruction
    on_change c = on_structure c.0 c.1
instruction-of t (ask.Stat r) i x h e =
    let m = mapped-at on_statistics (statistics_changes r) i x e in
    subst (IsOfGrammar t) m.2 (statistics-of t r i m.0 h m.1)
instruction-of t (ask.Par (ask20.Report ids)) i x h e = one-only (IsOfGrammar t) _ x i h e
instruction-of t (ask.Par (ask20.Set settings)) i x h e = one-only (IsOfGrammar t) _ x i h e

-- the body of a request of a core is of the grammar
pub body-of : (c : Core) → RequestsOnly c.tailoring → AllByRecursion AreOctets c.requests → (k : ℕ) (r : Request) → request_at (session c) k ≡ Some r → IsRequestBody c.tailoring r.body
body-of c only octets k r e = go (slice_get c.requests k) refl
  where
    read-as : (packet : List ℕ) → in_packet c.tailoring (Some packet) ≡ Some r → request_of c.tailoring packet ≡ Ok r
    read-as packet f = by (request_of c.tailoring packet) refl f
      where
        by : (o : Result Request MessageFault) → request_of c.tailoring packet ≡ o → in_packet c.tailoring (Some packet) ≡ Some r → request_of c.tailoring packet ≡ Ok r
        by (Ok x) q h = let g : Some x ≡ Some r = rw q at h in q ∙ ap Ok (same_Some x r g)
        by (Err fault) q h = absurd (let g : None ≡ Some r = rw q at h in none-some r g)

    go : (o : Option (List ℕ)) → slice_get c.requests k ≡ o → IsRequestBody c.tailoring r.body
    go None f = absurd (none-some r (sym (ap (in_packet c.tailoring) f) ∙ e))
    go (Some packet) f =
        let read : request_of c.tailoring packet ≡ Ok r = read-as packet (sym (ap (in_packet c.tailoring) f) ∙ e) in
        (only r packet (all-at AreOctets c.requests k packet octets f) read).message.body

-- and so is each of its instructions
pub given-of : (c : Core) → RequestsOnly c.tailoring → AllByRecursion AreOctets c.requests → (k : ℕ) (r : Request) → request_at (session c) k ≡ Some r → (i : ℕ) (x : Instruction)
    → slice_get (instructions r) i ≡ Some x → IsOfGrammar c.tailoring x
given-of c only octets k r e i x f = instruction-of c.tailoring r.body i x (body-of c only octets k r e) f
