-- The words of a seed, one after the other.
use Rattle.std.proofs.Common.{◌≡◌, ℕ, zero, suc, ◌+◌, refl, sym, ap, ◌∙◌, add-one}
use Rattle.rand_pcg.specs.Lcg.{Lcg, next, advance, next_state, state_after}
use Rattle.rand_pcg.specs.Pcg.{multiplier_64, pcg32}
use Rattle.simulated_link.specs.Words.{generator, generator_at, word}

-- the last of some steps
state-last : (w m p n s : ℕ) → state_after w m p (suc n) s ≡ next_state w m p (state_after w m p n s)
unfolding state_after
state-last w m p zero s = refl
state-last w m p (suc n) s = state-last w m p n (next_state w m p s)

advance-last : (w m n : ℕ) (g : Lcg) → advance w m (suc n) g ≡ next w m (advance w m n g)
advance-last w m n g = ap (λ (s : ℕ). record { state = s; increment = g.increment }) (state-last w m g.increment n g.state)

pub generator-first : (seed : ℕ) → generator seed ≡ generator_at seed 0
unfolding generator_at state_after
generator-first seed = refl

pub generator-next : (seed number : ℕ) → (pcg32 (generator_at seed number)).1 ≡ generator_at seed (number + 1)
unfolding generator_at
generator-next seed number =
    let one : suc number ≡ number + 1 = sym (add-one number) in
    sym (advance-last 64 multiplier_64 number (generator seed)) ∙ ap (λ (n : ℕ). advance 64 multiplier_64 n (generator seed)) one

-- a word and the generator behind it
pub word-is : (seed number x : ℕ) (before after : Lcg) → (x, after) ≡ pcg32 before → before ≡ generator_at seed number → x ≡ word seed number
unfolding word
word-is seed number x before after drawn is = ap (λ (p : ℕ × Lcg). p.0) drawn ∙ ap (λ (g : Lcg). (pcg32 g).0) is

pub after-is : (seed number x : ℕ) (before after : Lcg) → (x, after) ≡ pcg32 before → before ≡ generator_at seed number → after ≡ generator_at seed (number + 1)
after-is seed number x before after drawn is = ap (λ (p : ℕ × Lcg). p.1) drawn ∙ (ap (λ (g : Lcg). (pcg32 g).1) is ∙ generator-next seed number)
