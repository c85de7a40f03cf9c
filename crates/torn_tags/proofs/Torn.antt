-- What the gate says of a torn file.
use Prim.Native.Nat.{ℕ, ◌+◌, ◌-◌, ◌≤◌, ◌<◌}
use native.Mathlib.Omega.{arith}
use native.Mathlib.Nat.{add-zero}
use mathlib.Core.Path.{◌≡◌, refl, sym, ap, ◌∙◌}
use mathlib.Core.Bool.{Bool, true, false, ◌&&◌, cond, and-false, true≢false}
use Rattle.std.specs.Prelude.{None, Some}
use mathlib.Core.List.{List, [], ◌∷◌, ◌++◌, append_assoc}
use lib.ListN.{length, take, drop, get_or, length-append, length-drop, take-append-drop, get_or-append}
use lib.Seq.{length-take-le, take-length, get_or-take}
use lib.Dec.{leb, eqb}
use borrow.Author.Tests.{leb-true}
use Rattle.lists.specs.Bytes.{starts_with, place_of, all}
use Rattle.lists.specs.Le.{read_u32}
use Rattle.lists.specs.Write.{part}
use Rattle.frame.specs.Tail.{preamble, id3v1_mark, stands_at, ends_with_id3v1, has_header, start_of, tag_start}
use Rattle.frame.proofs.Tails.{stands-in, start-there}
use Rattle.items.specs.Items.{Item, item_bytes, area_bytes, head_at, head, parse}
use Rattle.utf8.specs.Utf8.{number_of, class_at, run, step_of, valid_from, valid}
use Rattle.items.proofs.Area.{length-area}
use Rattle.ape.specs.Tag.{block_bytes, header_flags, footer_flags, tag_bytes, serialize, find_footer, size_at, count_at, area_at, moved, split}
use Rattle.ape.proofs.Files.{footer-within}
use Rattle.ape.proofs.Tail.{at-seam}
use Rattle.calls.specs.Gate.{header_at, is_version2, is_header, is_headed, fit, item_valid, all_valid, gate_items}
use Rattle.tail_write.specs.Rewrite.{Tail, tail, tagless, start_in, block_before, tail_of, length_of}
use Rattle.tail_write.proofs.Planning.{tail-tagged}
use Rattle.torn_tags.proofs.After.{end-within}
use Rattle.torn_tags.specs.Torn.{found_after, Torn, TornFigures}

-- what stands at EOF-160 has 160 bytes from there to the end
long160 : (s : List ℕ) → (stands_at 160 preamble s && ends_with_id3v1 s) ≡ true → 160 ≤ length s
unfolding stands_at
long160 s e = go (leb 160 (length s)) refl e
  where
    go : (t : Bool) → leb 160 (length s) ≡ t → ((t && starts_with preamble (drop (length s - 160) s)) && ends_with_id3v1 s) ≡ true → 160 ≤ length s
    go true q e = leb-true _ _ q
    go false q e = absurd (true≢false (sym e))

-- ---- a front of a file written anew, of the same length

module _ (s p : List ℕ) (within : length p ≤ length s) where
  abbrev r : List ℕ
  r = drop (length p) s

  whole : take (length p) s ++ r ≡ s
  whole = take-append-drop (length p) s

  front_long : length (take (length p) s) ≡ length p
  front_long = length-take-le (length p) s within

  rest-long : length r ≡ length s - length p
  rest-long = length-drop (length p) s

  -- numbers behind it are the old ones
  number_behind : (n : ℕ) → length p ≤ n → read_u32 (p ++ r) n ≡ read_u32 s n
  number_behind n h =
      let j : ℕ = n - length p in
      let e : n ≡ length p + j = omega arith in
      let g : n ≡ length (take (length p) s) + j = omega (arith, front_long) in
      ap (read_u32 (p ++ r)) e ∙ at-seam p r j ∙ sym (at-seam (take (length p) s) r j) ∙ ap (read_u32 (take (length p) s ++ r)) (sym g) ∙ ap (λ (l : List ℕ). read_u32 l n) whole

  -- so is what stands near the end
  stands-behind : (n : ℕ) (q : List ℕ) → length p + n ≤ length s → stands_at n q (p ++ r) ≡ stands_at n q s
  stands-behind n q h =
      let l : n ≤ length r = omega (arith, rest-long) in
      stands-in n q p r l ∙ sym (stands-in n q (take (length p) s) r l) ∙ ap (stands_at n q) whole

  same_length : length (p ++ r) ≡ length s
  same_length = length-append p r ∙ omega (arith, rest-long)

  footer-behind : (f : ℕ) → find_footer s ≡ Some f → length p ≤ f → find_footer (p ++ r) ≡ Some f
  unfolding find_footer
  footer-behind f e h = go (stands_at 32 preamble s) refl (stands_at 160 preamble s && ends_with_id3v1 s) refl e
    where
      inside : f + 32 ≤ length s
      inside = footer-within s f e

      go : (x : Bool) → stands_at 32 preamble s ≡ x → (y : Bool) → (stands_at 160 preamble s && ends_with_id3v1 s) ≡ y
          → cond x (Some (length s - 32)) (cond y (Some (length s - 160)) None) ≡ Some f
          → cond (stands_at 32 preamble (p ++ r)) (Some (length (p ++ r) - 32)) (cond (stands_at 160 preamble (p ++ r) && ends_with_id3v1 (p ++ r)) (Some (length (p ++ r) - 160)) None) ≡ Some f
      go true q y d c =
          let z : length s - 32 ≡ f = cc in
          rw (stands-behind 32 preamble (omega (arith, inside)), q, same_length) c
      go false q true d c =
          let z : length s - 160 ≡ f = cc in
          let l : length p + 160 ≤ length s = omega (arith, long160 s d) in
          rw (stands-behind 32 preamble (omega arith), q, stands-behind 160 preamble l, stands-behind 128 id3v1_mark (omega arith), d, same_length) c
      go false q false d c = absurd (let z : ◌≡◌ {A = ℕ} 0 1 = cc in omega arith)

-- a number in the front of a list is one of what it was taken from
read-front : (w r : List ℕ) (k i : ℕ) → k ≤ length w → i + 4 ≤ k → read_u32 (take k w ++ r) i ≡ read_u32 w i
read-front w r k i h l =
    rw (byte i (omega arith), byte (i + 1) (omega arith), byte (i + 2) (omega arith), byte (i + 3) (omega arith))
  where
    byte : (j : ℕ) → j < k → get_or (take k w ++ r) j 0 ≡ get_or w j 0
    byte j b = get_or-append (take k w) r 0 j (omega (arith, length-take-le k w h)) ∙ get_or-take k w j 0 b

-- the size and the count that a header holds
block_size : (z n f : ℕ) (back : List ℕ) → z < 4294967296 → read_u32 (block_bytes z n f ++ back) 12 ≡ z
unfolding block_bytes
block_size z n f back h = omega arith

block-count : (z n f : ℕ) (back : List ℕ) → n < 4294967296 → read_u32 (block_bytes z n f ++ back) 16 ≡ n
unfolding block_bytes
block-count z n f back h = omega arith

-- every item has bytes
few : (ts : List Item) → length ts ≤ length (area_bytes ts)
few [] = omega arith
few (t ∷ ts) = let h = few ts in omega (arith, length-area t ts)

-- what follows the header of a tag
abbrev after_header : List Item → List ℕ → List ℕ
after_header ts back = (area_bytes ts ++ block_bytes (length (area_bytes ts) + 32) (length ts) footer_flags) ++ back

-- a tag begins with its header
tag_is : (ts : List Item) (back : List ℕ) → 0 < length ts → serialize ts ++ back ≡ block_bytes (length (area_bytes ts) + 32) (length ts) header_flags ++ after_header ts back
unfolding serialize tag_bytes
tag_is [] back h = absurd (omega arith)
tag_is (t ∷ ts) back h =
    let z : ℕ = length (area_bytes (t ∷ ts)) + 32 in
    append_assoc (block_bytes z (length (t ∷ ts)) header_flags) (area_bytes (t ∷ ts) ++ block_bytes z (length (t ∷ ts)) footer_flags) back

-- one test that fails among others
fails : (x v a b h : Bool) → (a && b) ≡ false → (x && (v && (a && (b && h)))) ≡ false
fails false v a b h e = refl
fails true false a b h e = refl
fails true true false b h e = refl
fails true true true false h e = refl
fails true true true true h e = absurd (true≢false e)

-- ---- a tag with a header that is torn behind the numbers of the new header

module _ (s w rest : List ℕ) (f a k z n : ℕ) (at : find_footer s ≡ Some f) (e : tag_start s f ≡ Some a) (headed : has_header (read_u32 s (f + 20)) ≡ true)
    (w-is : w ≡ block_bytes z n header_flags ++ rest) (hz : z < 4294967296) (hn : n < 4294967296) (differ : (eqb z (size_at s f) && eqb n (count_at s f)) ≡ false)
    (least : 20 ≤ k) (h : k ≤ length w) (l : a + k ≤ f) where
  abbrev found : List ℕ
  found = take a s ++ (take k w ++ drop (a + k) s)

  abbrev p : List ℕ
  p = take a s ++ take k w

  inside : f + 32 ≤ length s
  inside = footer-within s f at

  before : length (take a s) ≡ a
  before = length-take-le a s (omega (arith, inside))

  p-long : length p ≡ a + k
  p-long = length-append (take a s) (take k w) ∙ omega (arith, before, length-take-le k w h)

  p-within : length p ≤ length s
  p-within = omega (arith, p-long, inside)

  found-is : found ≡ p ++ drop (length p) s
  found-is = sym (append_assoc (take a s) (take k w) (drop (a + k) s)) ∙ ap (λ (i : ℕ). p ++ drop i s) (sym p-long)

  footer-is : find_footer found ≡ Some f
  footer-is = ap find_footer found-is ∙ footer-behind s p p-within f at (omega (arith, p-long))

  number : (i : ℕ) → read_u32 found (f + i) ≡ read_u32 s (f + i)
  number i = ap (λ (x : List ℕ). read_u32 x (f + i)) found-is ∙ number_behind s p p-within (f + i) (omega (arith, p-long))

  long : length found ≡ length s
  long = ap length found-is ∙ same_length s p p-within

  start_is : tag_start found f ≡ Some a
  start_is =
      start-there found f (omega (arith, long, inside)) ∙ ap (λ (i : ℕ). start_of f i (read_u32 found (f + 20))) (number 12)
      ∙ ap (start_of f (read_u32 s (f + 12))) (number 20) ∙ sym (start-there s f inside) ∙ e

  header-number : (i : ℕ) → i + 4 ≤ k → read_u32 found (a + i) ≡ read_u32 w i
  header-number i b =
      let g : a + i ≡ length (take a s) + i = omega (arith, before) in
      ap (read_u32 found) g ∙ at-seam (take a s) (take k w ++ drop (a + k) s) i ∙ read-front w (drop (a + k) s) k i h b

  new-size : size_at found a ≡ z
  new-size = header-number 12 (omega arith) ∙ ap (λ (x : List ℕ). read_u32 x 12) w-is ∙ block_size z n header_flags rest hz

  new-count : count_at found a ≡ n
  new-count = header-number 16 (omega arith) ∙ ap (λ (x : List ℕ). read_u32 x 16) w-is ∙ block-count z n header_flags rest hn

  header-fails : header_at found f a ≡ false
  unfolding header_at
  header-fails =
      rw (new-size, new-count, number 12, number 16)
      (fails (starts_with preamble (drop a found)) (is_version2 found a) (eqb z (size_at s f)) (eqb n (count_at s f)) (is_header (read_u32 found (a + 20))) differ)

  headed-fails : is_headed found f ≡ false
  headed-fails = rw (number 20, headed, start_is, header-fails)

  unfit : fit found f ≡ false
  unfolding fit
  unfit = rw headed-fails (simp and-false)

  gate-none : gate_items found ≡ None
  unfolding gate_items
  gate-none = rw (footer-is, unfit)

-- ---- the claims

module _ (s : List ℕ) (ts : List Item) where
  abbrev new : Tail
  new = tail_of s ts

  footer-left : (f k : ℕ) → find_footer s ≡ Some f → k ≤ length new.bytes → new.end + k ≤ f → find_footer (found_after s new k) ≡ Some f
  footer-left f k at h l =
      let q : List ℕ = take new.end s ++ take k new.bytes in
      let n : length q ≡ new.end + k =
      length-append (take new.end s) (take k new.bytes) ∙ omega (arith, length-take-le new.end s (end-within s ts), length-take-le k new.bytes h) in
      let is : found_after s new k ≡ q ++ drop (length q) s =
      sym (append_assoc (take new.end s) (take k new.bytes) (drop (new.end + k) s)) ∙ ap (λ (i : ℕ). q ++ drop i s) (sym n) in
      ap find_footer is ∙ footer-behind s q (omega (arith, n, footer-within s f at)) f at (omega (arith, n))

  gate-refuses : (f a k : ℕ) → find_footer s ≡ Some f → tag_start s f ≡ Some a → has_header (read_u32 s (f + 20)) ≡ true
      → 0 < length ts → length (area_bytes ts) ≤ 16777216 → (eqb (length (area_bytes ts) + 32) (size_at s f) && eqb (length ts) (count_at s f)) ≡ false
      → 20 ≤ k → k ≤ length new.bytes → new.end + k ≤ f → gate_items (found_after s new k) ≡ None
  gate-refuses f a k at e headed there fits differ least h l =
      let back : List ℕ = part (f + 32) (length s) s in
      let is : tail_of s ts ≡ tail a (serialize ts ++ back) = tail-tagged s ts f a at e in
      ap (λ (x : Tail). gate_items (found_after s x k)) is
      ∙ gate-none s (serialize ts ++ back) (after_header ts back) f a k (length (area_bytes ts) + 32) (length ts) at e headed (tag_is ts back there) (omega arith) (omega (arith, few ts)) differ least (rw is at h) (rw is at l)

  pub torn : Torn s ts
  torn =
      record {
        untouched = rw add-zero (take-append-drop new.end s);
        all-written = rw (take-length new.bytes) (sym (append_assoc (take new.end s) new.bytes (drop (length_of new) s)));
        old-footer = footer-left;
        refused = gate-refuses;
      }

-- by computation
pub torn-figures : TornFigures
unfolding all starts_with place_of stands_at start_of tag_start number_of class_at run step_of valid_from valid item_bytes area_bytes head_at head parse block_bytes tag_bytes serialize find_footer area_at moved split header_at fit item_valid all_valid gate_items tagless start_in block_before tail_of
torn-figures = record { mixed = refl; lost = refl; held = refl }
