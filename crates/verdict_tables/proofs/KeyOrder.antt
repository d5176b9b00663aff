-- What is held for a structure, by the order of keys.
use Rattle.std.proofs.Common.{◌≡◌, ℕ, refl, sym, ◌∙◌, ap, subst, List, [], ◌∷◌, ◌++◌, append-nil, Bool, true, false, ◌&&◌, ◌==◌, Option, Some, None, IfSome, IfNone, cond}
use Rattle.std.specs.Prelude.{unwrap_or, if◌then◌else◌}
use Rattle.std.proofs.lemmas.Bool.{both_ways, and_parts, eqb-true, eq-eqb}
use Rattle.std.specs.Map.{lookup}
use Rattle.std.specs.BTreeMap.{is_at}
use Rattle.std.specs.declared.cmp.Ordering.{Ordering}
use Rattle.hk_base.specs.Parameters.{kind_eq, key_eq}
use Rattle.hk_base.specs.declared.types.Kind.{Kind}
use Rattle.hk_base.specs.declared.types.Kind.TheVariants.{Housekeeping, Diagnostic}
use Rattle.hk_base.specs.declared.types.Key.{Key}
use Rattle.verdict_tables.specs.Collecting.{held_for, IsHeld, tags_of, tags_if, Collects}

-- an order of keys finds a key where two keys are one
abbrev pub FindsKeys : (Key → Key → Ordering) → Type 0
FindsKeys C = (a b : Key) → is_at (C a) b ≡ key_eq a b

pub lookup-key : {X : Type 0} (C : Key → Key → Ordering) → FindsKeys C → (es : List (Key × X)) (key : Key) → lookup (is_at (C key)) es ≡ held_for es key
lookup-key C finds [] key = refl
lookup-key C finds (e ∷ es) key =
    ap (λ b. if b then Some e.1 else lookup (is_at (C key)) es) (finds key e.0) ∙ ap (λ o. if key_eq key e.0 then Some e.1 else o) (lookup-key C finds es key)

pub held-updates : {X : Type 0} (C : Key → Key → Ordering) → FindsKeys C → (old new : List (Key × X)) (key : Key) (value : Option X)
    → ((q : Key) → lookup (is_at (C q)) new ≡ (if is_at (C key) q then value else lookup (is_at (C q)) old)) → IsHeld key value old new
held-updates C finds old new key value h q =
    sym (lookup-key C finds new q)
    ∙ (h q ∙ (ap (λ b. if b then value else lookup (is_at (C q)) old) (finds key q) ∙ ap (λ o. if key_eq key q then value else o) (lookup-key C finds old q)))

-- two keys that are found to be one are the same
pub same-key : (a b : Key) → key_eq a b ≡ true → a ≡ b
same-key a b e =
    let p = and_parts (kind_eq a.kind b.kind) (a.id == b.id) e in
    λ i. record { kind = same-kind a.kind b.kind p.0 i; id = eqb-true a.id b.id p.1 i }
  where
    same-kind : (x y : Kind) → kind_eq x y ≡ true → x ≡ y
    same-kind Housekeeping Housekeeping p = refl
    same-kind Diagnostic Diagnostic p = refl
    same-kind Housekeeping Diagnostic p = absurd (both_ways false refl p)
    same-kind Diagnostic Housekeeping p = absurd (both_ways false refl p)

pub key-itself : (a : Key) → key_eq a a ≡ true
key-itself a = ap (λ b. b && a.id == a.id) (same-kind a.kind) ∙ eq-eqb a.id a.id refl
  where
    same-kind : (x : Kind) → kind_eq x x ≡ true
    same-kind Housekeeping = refl
    same-kind Diagnostic = refl

-- what holds of each that was held and of a new one holds of each that is held
pub held-all : {X : Type 0} (P : X → Type 0) (key : Key) (value : Option X) (old new : List (Key × X)) → IsHeld key value old new → IfSome value P
    → ((q : Key) → IfSome (held_for old q) P) → (q : Key) → IfSome (held_for new q) P
held-all {X = X} P key value old new held here all q =
    subst (λ (o : Option X). IfSome o P) (sym (held q)) (go (key_eq key q))
  where
    go : (b : Bool) → IfSome (if b then value else held_for old q) P
    go true = here
    go false = all q

-- tags that were taken, made longer and put back
pub tags-added : (key : Key) (tag : ℕ) (tags : List ℕ) (old middle new : List (Key × List ℕ)) → IsHeld key None old middle → IsHeld key (Some tags) middle new
    → tags ≡ tags_of old key ++ tag ∷ [] → Collects old new (λ other. tags_if key other (tag ∷ []))
tags-added key tag tags old middle new taken put is q = go (key_eq key q) refl
  where
    go : (b : Bool) → key_eq key q ≡ b → tags_of new q ≡ tags_of old q ++ (if key_eq key q then tag ∷ [] else [])
    go true e =
        ap (λ (o : Option (List ℕ)). unwrap_or o []) (put q ∙ ap (λ b. if b then Some tags else held_for middle q) e)
        ∙ (is ∙ (ap (λ k. tags_of old k ++ tag ∷ []) (same-key key q e) ∙ ap (λ b. tags_of old q ++ (if b then tag ∷ [] else [])) (sym e)))
    go false e =
        ap (λ (o : Option (List ℕ)). unwrap_or o [])
        (put q ∙ (ap (λ b. if b then Some tags else held_for middle q) e ∙ (taken q ∙ ap (λ b. if b then None else held_for old q) e)))
        ∙ (sym (append-nil (tags_of old q)) ∙ ap (λ b. tags_of old q ++ (if b then tag ∷ [] else [])) (sym e))

-- what holds of each that is held holds after one was taken, or none
pub taken-all : {X : Type 0} (C : Key → Key → Ordering) → FindsKeys C → (P : X → Type 0) (U : Key × X → Type 0) (taken : Option (Key × X)) (old new : List (Key × X))
    → ((p : Key × X) → U p → (q : Key) → lookup (is_at (C q)) new ≡ (if is_at (C p.0) q then None else lookup (is_at (C q)) old))
    → IfSome taken U → IfNone taken (new ≡ old) → ((q : Key) → IfSome (held_for old q) P) → (q : Key) → IfSome (held_for new q) P
taken-all C finds P U (Some p) old new f u same all = held-all P p.0 None old new (held-updates C finds old new p.0 None (f p u)) tt all
taken-all {X = X} C finds P U None old new f u same all = λ q. subst (λ (es : List (Key × X)). IfSome (held_for es q) P) (sym same) (all q)

some-tags : (tag : ℕ) (tags : List ℕ) → tag ∷ tags ≡ [] → ⊥
some-tags tag tags e = cc

pub held-same : {X : Type 0} (P : X → Type 0) (old new : List (Key × X)) → new ≡ old → ((q : Key) → IfSome (held_for old q) P) → (q : Key) → IfSome (held_for new q) P
held-same {X = X} P old new same all q = subst (λ (es : List (Key × X)). IfSome (held_for es q) P) (sym same) (all q)

-- tags with one more are some
pub push-some : (tags : List ℕ) (tag : ℕ) (longer : List ℕ) → longer ≡ tags ++ tag ∷ [] → longer ≡ [] → ⊥
push-some [] tag longer e f = absurd (some-tags tag [] (sym e ∙ f))
push-some (t ∷ tags) tag longer e f = absurd (some-tags t (tags ++ tag ∷ []) (sym e ∙ f))
