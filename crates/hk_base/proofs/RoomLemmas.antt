-- The room of a sink in memory is told as long as no later call is listed.
use Rattle.std.proofs.Common.{◌≡◌, ◌∙◌, ◌-◌, ◌≤◌, ℕ, Bool, true, false, List, Option, Some, None, Ok, Err, refl, sym, ap, arith}
use Rattle.std.specs.Prelude.{nat_le, IfSome, if◌then◌else◌}
use Rattle.std.specs.List.{list_all, AllPass}
use Rattle.std.proofs.lemmas.Bool.{leb-true, le-leb}
use Rattle.std.proofs.lemmas.List.Elements.{All-weaker}
use Rattle.std.proofs.lemmas.List.Sums.{AllPass-from_list_all, list_all-from_AllPass}
use Rattle.hk_base.specs.Memory.{is_next_listed}
use Rattle.hk_base.specs.Outside.{UsesRoom}
use Rattle.hk_base.specs.declared.outside.Failed.{Failed}
use Rattle.hk_base.proofs.ListedLemmas.{none_listed}

-- whether no number is ahead
abbrev pub none_ahead : List ℕ → ℕ → Bool
none_ahead failing calls = list_all (λ number. nat_le number calls) failing

-- the room, where it is told
abbrev pub told_room : List ℕ → ℕ → ℕ → Option ℕ
told_room failing calls room = if none_ahead failing calls then Some room else None

where_told : (b : Bool) (room : ℕ) (P : ℕ → Type 0) → (b ≡ true → P room) → IfSome (if b then Some room else None) P
where_told true room P f = f refl
where_told false room P f = tt

passes : (failing : List ℕ) (calls later : ℕ) → calls ≤ later → AllPass (λ n. nat_le n calls) failing → AllPass (λ n. nat_le n later) failing
passes failing calls later le all = All-weaker (λ n. nat_le n calls ≡ true) (λ n. nat_le n later ≡ true) (λ n h. le-leb n later (omega (arith, le, leb-true n calls h))) failing all

stays_none : (failing : List ℕ) (calls later : ℕ) → calls ≤ later → none_ahead failing calls ≡ true → none_ahead failing later ≡ true
stays_none failing calls later le none = list_all-from_AllPass (λ n. nat_le n later) failing (passes failing calls later le (AllPass-from_list_all (λ n. nat_le n calls) failing none))

-- no room is told before a listed call
pub uses_listed : (failing : List ℕ) (calls room : ℕ) (P : ℕ → Type 0) → is_next_listed failing calls ≡ true → IfSome (told_room failing calls room) P
uses_listed failing calls room P listed =
    where_told (none_ahead failing calls) room P
    (λ none. absurd (true-false (sym listed ∙ none_listed failing calls (All-weaker (λ n. nat_le n calls ≡ true) (λ n. n ≤ calls) (λ n h. leb-true n calls h) failing (AllPass-from_list_all (λ n. nat_le n calls) failing none)))))
  where
    true-false : true ≡ false → ⊥
    true-false e = cc

-- a write that is refused for want of room
pub uses_none : (failing : List ℕ) (calls later room : ℕ) (e : Failed) → calls ≤ later → room ≡ 0 → IfSome (told_room failing calls room) (λ left. UsesRoom left (Err e) (told_room failing later room))
uses_none failing calls later room e le empty =
    where_told (none_ahead failing calls) room (λ left. UsesRoom left (Err e) (told_room failing later room))
    (λ none. rw (stays_none failing calls later le none) (empty, ap Some empty))

-- a write that took n octets
pub uses_some : (failing : List ℕ) (calls later room n : ℕ) → calls ≤ later → n ≤ room → IfSome (told_room failing calls room) (λ left. UsesRoom left (Ok n) (told_room failing later (room - n)))
uses_some failing calls later room n le within =
    where_told (none_ahead failing calls) room (λ left. UsesRoom left (Ok n) (told_room failing later (room - n)))
    (λ none. rw (stays_none failing calls later le none) (within, refl))
