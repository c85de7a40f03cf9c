-- Texts of printable ASCII are UTF-8.
use Prim.Native.Nat.{ℕ}
use native.Mathlib.Omega.{arith}
use mathlib.Core.Path.{◌≡◌, refl}
use mathlib.Core.Bool.{true, and-eq-true_iff}
use mathlib.Core.List.{List, [], ◌∷◌}
use lib.Dec.{leb}
use borrow.Author.Tests.{leb-true, lt-ltb}
use Rattle.lists.specs.Bytes.{among, all}
use Rattle.utf8.specs.Utf8.{plain, valid}
use Rattle.utf8.proofs.Laws.{valid-plain}
use Rattle.decimal.proofs.ReadBack.{Plain}

plain-ascii : (s : List ℕ) → Plain s → plain s ≡ true
unfolding all
plain-ascii [] p = refl
plain-ascii (b ∷ s) p =
    let (q, r) = (and-eq-true_iff (among 32 126 b) (all (among 32 126) s)).0 p in
    let (l, h) = (and-eq-true_iff (leb 32 b) (leb b 126)).0 q in
    rw (lt-ltb b 128 (omega (arith, leb-true b 126 h))) (plain-ascii s r)

pub plain-valid : (s : List ℕ) → Plain s → valid s ≡ true
plain-valid s p = valid-plain s (plain-ascii s p)
