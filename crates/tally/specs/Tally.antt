-- What a level does to a list of gains: the counts of `SaturationStats`, and the gains that no undo brings back.
use Rattle.std.specs.Prelude.{ℕ, ◌+◌, ◌≡◌, ◌↔◌, Bool, ◌&&◌, ◌||◌, cond, List, [], ◌∷◌, map, leb, ltb, ℤ, pos, ◌+ℤ◌}
use Rattle.std.specs.Int.Signed.{lt_z}
use Rattle.lists.specs.Bytes.{Small}
use Rattle.frame.specs.Gain.{clamp_step}
use Rattle.frame.specs.Steps.{back}
use Rattle.frame.specs.declared.GainMode.{GainMode}
use Rattle.frame.specs.declared.GainMode.TheVariants.{Saturating, Wrapping}
use Rattle.calls.specs.Calls.{adjusted, least, greatest}
use Rattle.tally.specs.declared.Tallied.{Tallied}

-- how many gains of a list pass a test
unfoldable pub count : (ℕ → Bool) → List ℕ → ℕ
count p [] = 0
count p (g ∷ gs) = cond (p g) 1 0 + count p gs

-- a gain above the first number, and not above the second
abbrev pub within : ℕ → ℕ → ℕ → Bool
within over most g = ltb over g && leb g most

-- where N would take a gain if 0..255 had no ends: the steps are clamped to -255..255 all the same, so 255 by -256 aims at 0
abbrev pub aim : ℤ → ℕ → ℤ
aim s g = pos g +ℤ clamp_step s

-- held at 0: a gain that is not 0 and aims below it
unfoldable pub is_low : ℤ → ℕ → Bool
is_low s g = ltb 0 g && lt_z (aim s g) (pos 0)

-- held at 255: a gain that is not 0 and aims above it
unfoldable pub is_high : ℤ → ℕ → Bool
is_high s g = ltb 0 g && lt_z (pos 255) (aim s g)

-- lost: a gain that is not 0 and does not aim at 1 through 255
unfoldable pub is_lost : ℤ → ℕ → Bool
is_lost s g = ltb 0 g && (lt_z (aim s g) (pos 1) || lt_z (pos 255) (aim s g))

-- a count under N; under W none is held or lost
abbrev pub under_n : GainMode → ℕ → ℕ
under_n Saturating n = n
under_n Wrapping n = 0

-- all of it, with the least and the greatest of the gains afterwards
abbrev pub tally_of : GainMode → ℤ → List ℕ → Tallied
tally_of m s gs = record {
  low = under_n m (count (is_low s) gs);
  high = under_n m (count (is_high s) gs);
  lost = under_n m (count (is_lost s) gs);
  least = least (adjusted m s gs);
  greatest = greatest (adjusted m s gs);
}

-- some gain was held
abbrev pub saturated_of : Tallied → Bool
saturated_of t = ltb 0 t.low || ltb 0 t.high

-- level by one step count after another loses no gain of the list
unfoldable pub NoneLost : GainMode → List ℤ → List ℕ → Type 0
NoneLost m [] gs = Unit {0}
NoneLost m (s ∷ ss) gs = ((tally_of m s gs).lost ≡ 0) × NoneLost m ss (adjusted m s gs)

-- an undo brings every gain back exactly when none was lost; `lost-at-none` beside demand 3 says it of the level calls that a list of calls accepts
unfoldable pub LostTells : Type 0
LostTells = (m : GainMode) (steps : List ℤ) (gs : List ℕ) → Small gs → (map (back m steps) gs ≡ gs) ↔ NoneLost m steps gs
