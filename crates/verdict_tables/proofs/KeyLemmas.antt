-- The structures that a request can change.
use Rattle.std.proofs.Common.{◌≡◌, ◌∙◌, ℕ, refl, sym, ap, List, [], ◌∷◌, Bool, true, false, inl, inr, ◌⊎◌, Some, None, map}
use Rattle.std.specs.Prelude.{filter_map, if◌then◌else◌}
use Rattle.std.specs.List.{cons_option}
use Rattle.hk_base.specs.declared.types.Kind.{Kind}
use Rattle.st03_grammar.specs.Instructions.{each_changes, key_of, plain, set_interval}
use Rattle.st03_grammar.specs.declared.bodies.Each.{Each}
use Rattle.st03_grammar.specs.declared.bodies.Pair.{Pair}
use Rattle.st04_grammar.specs.Instructions.{StatisticsChange, statistics_changes}
use Rattle.st04_grammar.specs.declared.bodies.Request04.{Request04}
use Rattle.st20_grammar.specs.declared.bodies.Request20.{Request20}
use Rattle.st20_grammar.specs.declared.bodies.Request20.TheVariants as values
use Rattle.pus_messages.specs.declared.message.RequestBody.{RequestBody}
use Rattle.pus_messages.specs.declared.message.RequestBody.TheVariants.{Stat, Par}
use Rattle.pus_messages.specs.Instructions.{on_structures, on_statistics, body_instructions}
use Rattle.verdict_tables.specs.Places.{changed_key}

pub each-keys : (each : Each) (kind : Kind) (ids : List ℕ)
    → (if each_changes each then map (key_of kind) ids else []) ≡ filter_map changed_key (on_structures (map (λ id. (key_of kind id, plain each)) ids))
each-keys each kind ids = go (each_changes each) refl
  where
    changing : (b : Bool) → each_changes each ≡ b → (xs : List ℕ)
        → filter_map changed_key (on_structures (map (λ id. (key_of kind id, plain each)) xs)) ≡ (if b then map (key_of kind) xs else [])
    changing true e [] = refl
    changing true e (x ∷ xs) =
        ap (λ c. cons_option (if c then Some (key_of kind x) else None) (filter_map changed_key (on_structures (map (λ id. (key_of kind id, plain each)) xs)))) e
        ∙ ap (λ ks. key_of kind x ∷ ks) (changing true e xs)
    changing false e [] = refl
    changing false e (x ∷ xs) =
        ap (λ c. cons_option (if c then Some (key_of kind x) else None) (filter_map changed_key (on_structures (map (λ id. (key_of kind id, plain each)) xs)))) e
        ∙ changing false e xs

    go : (b : Bool) → each_changes each ≡ b → (if each_changes each then map (key_of kind) ids else []) ≡ filter_map changed_key (on_structures (map (λ id. (key_of kind id, plain each)) ids))
    go b e = ap (λ c. if c then map (key_of kind) ids else []) e ∙ sym (changing b e ids)

pub pair-keys : (kind : Kind) (pairs : List Pair)
    → map (λ pair. key_of kind pair.id) pairs ≡ filter_map changed_key (on_structures (map (λ pair. (key_of kind pair.id, set_interval pair.interval)) pairs))
pair-keys kind [] = refl
pair-keys kind (p ∷ pairs) = ap (λ ks. key_of kind p.id ∷ ks) (pair-keys kind pairs)

pub statistics-keys : (changes : List StatisticsChange) → filter_map changed_key (map on_statistics changes) ≡ []
statistics-keys [] = refl
statistics-keys (c ∷ changes) = statistics-keys changes

value-keys : (r : Request20) → filter_map changed_key (body_instructions (Par r)) ≡ []
value-keys (values.Report ids) = refl
value-keys (values.Set settings) = refl

pub other-keys : (body : RequestBody) → ((x : Request04) × (body ≡ Stat x)) ⊎ ((x : Request20) × (body ≡ Par x)) → filter_map changed_key (body_instructions body) ≡ []
other-keys body (inl p) = ap (λ b. filter_map changed_key (body_instructions b)) p.1 ∙ statistics-keys (statistics_changes p.0)
other-keys body (inr p) = ap (λ b. filter_map changed_key (body_instructions b)) p.1 ∙ value-keys p.0
