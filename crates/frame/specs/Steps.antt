-- A gain under a list of steps, and under the undo that follows: what demand 3 says of one gain.
use Rattle.std.specs.Prelude.{◌≡◌, ◌⊎◌, List, [], ◌∷◌, ℕ, ℤ, pos, neg_ℤ, ◌+ℤ◌, ◌≤ℤ◌}
use Rattle.frame.specs.declared.GainMode.{GainMode}
use Rattle.frame.specs.declared.GainMode.TheVariants.{Wrapping}
use Rattle.frame.specs.Gain.{adjust}

-- a gain after one step count after another
unfoldable pub after : GainMode → List ℤ → ℕ → ℕ
after m [] g = g
after m (s ∷ ss) g = after m ss (adjust m s g)

-- all steps together
unfoldable pub sum : List ℤ → ℤ
sum [] = pos 0
sum (s ∷ ss) = s +ℤ sum ss

-- and then moved by minus their sum: what undo does
unfoldable pub back : GainMode → List ℤ → ℕ → ℕ
back m steps g = adjust m (neg_ℤ (sum steps)) (after m steps g)

-- 1 through 255
unfoldable pub Lands : ℤ → Type 0
Lands z = (pos 1 ≤ℤ z) × (z ≤ℤ pos 255)

-- every step count, before clamping, takes the gain that it is lent to 1 through 255
unfoldable pub InRange : GainMode → List ℤ → ℕ → Type 0
InRange m [] g = Unit {0}
InRange m (s ∷ ss) g = Lands (pos g +ℤ s) × InRange m ss (adjust m s g)

-- the steps wrapped, or the gain began at 0, or every step count took it, before clamping, to 1 through 255
unfoldable pub Kept : GainMode → List ℤ → ℕ → Type 0
Kept m steps g = (m ≡ Wrapping) ⊎ (g ≡ 0) ⊎ InRange m steps g
