-- Laws of `stands_at`, `tag_start` and `tag_before`: what stands at EOF-n of a file in two parts, and where a tag starts, by the code's tests.
use Prim.Native.Nat.{ℕ, ◌+◌, ◌-◌, ◌≤◌, ◌<◌}
use native.Mathlib.Omega.{arith}
use Rattle.std.proofs.lemmas.Grind.{common_steps}
use mathlib.Core.Path.{◌≡◌, refl}
use mathlib.Core.Bool.{Bool, true, false}
use mathlib.Core.List.{List, ◌++◌}
use lib.ListN.{length, drop, length-append, length-drop}
use lib.Seq.{drop-append-le, drop-append-add}
use lib.Dec.{leb}
use borrow.Author.Tests.{leb-true, leb-false, le-leb, lt-leb}
use Rattle.lists.proofs.Same.{starts-append}
use Rattle.lists.specs.Le.{read_u32}
use Rattle.frame.specs.Tail.{stands_at, ends_with_id3v1, start_of, tag_start}
use Rattle.std.specs.Prelude.{Some}

-- n bytes that lie in b
pub stands-in : (n : ℕ) (p a b : List ℕ) → n ≤ length b → stands_at n p (a ++ b) ≡ stands_at n p b
unfolding stands_at
stands-in n p a b h =
    let e : length a + length b - n ≡ length a + (length b - n) = omega arith in
    rw (length-append, e, drop-append-add, le-leb n (length b) h, le-leb n (length a + length b) (omega arith))

-- n bytes that lie before b
pub stands-before : (n m : ℕ) (p a b : List ℕ) → length p ≤ n → length b ≡ m → stands_at (n + m) p (a ++ b) ≡ stands_at n p a
unfolding stands_at
stands-before n m p a b h l = go (leb n (length a)) refl
  where
    go : (t : Bool) → leb n (length a) ≡ t → stands_at (n + m) p (a ++ b) ≡ stands_at n p a
    go true e =
        let le : n ≤ length a = leb-true n (length a) e in
        let d : length a + length b - (n + m) ≡ length a - n = omega arith in
        rw (length-append, d, e, le-leb (n + m) (length a + length b) (omega arith), drop-append-le (length a - n) a b (omega arith))
        (starts-append p (drop (length a - n) a) b (rw length-drop (omega arith)))
    go false e =
        let lt : length a < n = leb-false n (length a) e in
        rw (length-append, e, lt-leb (n + m) (length a + length b) (omega arith))

-- an ID3v1 block has 128 bytes
pub id3v1-long : (s : List ℕ) → ends_with_id3v1 s ≡ true → 128 ≤ length s
unfolding stands_at
id3v1-long s e = grind (arith, common_steps)

-- ---- where a tag starts

pub start-there : (s : List ℕ) (f : ℕ) → f + 32 ≤ length s → tag_start s f ≡ start_of f (read_u32 s (f + 12)) (read_u32 s (f + 20))
unfolding tag_start
start-there s f h = rw (le-leb (f + 32) (length s) h)

-- with a header the tag starts 32 bytes earlier
pub start-headed : (f size flags : ℕ) → 0x80000000 ≤ flags → size ≤ f + 32 → 32 ≤ f + 32 - size → start_of f size flags ≡ Some (f + 32 - size - 32)
unfolding start_of
start-headed f size flags b l h = grind (arith, common_steps)

-- a start lies in the file
pub start-within : (s : List ℕ) (f a : ℕ) → tag_start s f ≡ Some a → (a ≤ f + 32) × (f + 32 ≤ length s)
unfolding tag_start start_of
start-within s f a e = grind (arith, common_steps)
