-- A text of at most 32 bytes, the part of its bytes that it fills.
use Prim.Native.Nat.{ℕ, ◌≤◌}
use native.Mathlib.Omega.{arith}
use mathlib.Core.Path.{◌≡◌, refl}
use mathlib.Core.List.{List}
use lib.ListN.{length, take, length-append}
use lib.Seq.{take_at}
use Rattle.decimal.specs.Writing.{text_of}
use Rattle.decimal.specs.declared.Text.{Text}

module _ (t : Text) (w : List ℕ) (e : t ≡ text_of w) where
  pub text-within : t.len ≤ length t.bytes
  text-within = rw e (rw length-append (omega arith))

  pub text-part : take t.len t.bytes ≡ w
  text-part = rw e (take_at w _ (length w) refl)
