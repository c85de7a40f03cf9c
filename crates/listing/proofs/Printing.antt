-- Laws of printed bytes: how long they are, and the loop that writes them.
use Prim.Native.Nat.{ℕ, suc, ◌+◌, ◌-◌, ◌*◌, ◌≤◌, ◌<◌}
use native.Mathlib.Omega.{arith}
use native.Mathlib.Numerals.{add-one}
use mathlib.Core.Path.{◌≡◌, refl, sym, ap, ◌∙◌}
use mathlib.Core.Bool.{Bool, true, false}
use mathlib.Core.List.{List, [], ◌∷◌, ◌++◌, append_assoc, append-nil}
use lib.ListN.{length, drop, get_or, length-append, drop_of_length-le}
use lib.Seq.{drop-cons}
use Rattle.lists.specs.Write.{splice}
use Rattle.lists.proofs.Wrote.{Wrote, start, next, done}
use Rattle.listing.specs.Listing.{is_plain, printed, printed_all}

pub printed-short : (key : Bool) (b : ℕ) → length (printed key b) ≤ 3
printed-short key b = go (is_plain key b) refl
  where
    go : (t : Bool) → is_plain key b ≡ t → length (printed key b) ≤ 3
    go true e = rw e (omega arith)
    go false e = rw e (omega arith)

pub all_short : (key : Bool) (s : List ℕ) → length (printed_all key s) ≤ 3 * length s
unfolding printed_all
all_short key [] = omega arith
all_short key (b ∷ s) = simp length-append (omega (arith, printed-short key b, all_short key s))

-- the first i bytes of s are printed
pub record Printing (key : Bool) (s out₀ : List ℕ) (at : ℕ) (out : List ℕ) (i o : ℕ) : Type 0 where
  pub within : i ≤ length s
  pub done : List ℕ
  pub same : printed_all key s ≡ done ++ printed_all key (drop i s)
  pub wrote : Wrote out₀ at done o out
  pub long : length out ≡ length out₀
  pub room : o + 3 * (length s - i) ≤ length out₀

pub print-begin : (key : Bool) (s out : List ℕ) (at : ℕ) → at + 3 * length s ≤ length out → Printing key s out at out 0 at
print-begin key s out at h =
    record { within = omega arith; done = []; same = refl; wrote = start out at (omega arith); long = refl; room = omega arith }

module _ {key : Bool} {s out₀ out : List ℕ} {at i o : ℕ} (x : Printing key s out₀ at out i o) where
  more_same : i < length s → printed_all key s ≡ (x.done ++ printed key (get_or s i 0)) ++ printed_all key (drop (i + 1) s)
  unfolding printed_all
  more_same h =
      rw add-one (
      x.same
      ∙ ap (λ (r : List ℕ). x.done ++ printed_all key r) (drop-cons s i 0 h)
      ∙ sym (append_assoc x.done (printed key (get_or s i 0)) (printed_all key (drop (suc i) s))))

  pub print-more : i < length s → (o' : ℕ) (out' : List ℕ) → length out' ≡ length out
      → (o' ≡ o + length (printed key (get_or s i 0))) × (out' ≡ splice out o (printed key (get_or s i 0))) → Printing key s out₀ at out' (i + 1) o'
  print-more h o' out' l e =
      record {
        within = omega arith;
        done = x.done ++ printed key (get_or s i 0);
        same = more_same h;
        wrote = next x.wrote (printed key (get_or s i 0)) e;
        long = l ∙ x.long;
        room = omega (arith, x.room, e.0, printed-short key (get_or s i 0));
      }

  pub print-end : length s ≤ i → (o ≡ at + length (printed_all key s)) × (out ≡ splice out₀ at (printed_all key s))
  unfolding printed_all
  print-end h =
      let k : printed_all key s ≡ x.done = x.same ∙ ap (λ (r : List ℕ). x.done ++ printed_all key r) (drop_of_length-le s {i = i} h) ∙ append-nil x.done in
      rw k (done x.wrote)
