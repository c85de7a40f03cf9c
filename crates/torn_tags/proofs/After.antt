-- What is found after each write, and in the end: document 02's claims.
use Rattle.std.specs.Prelude.{Option, None, Some}
use Prim.Native.Nat.{ℕ, suc, ◌+◌, ◌-◌, ◌≤◌, ◌<◌, max}
use native.Mathlib.Omega.{arith}
use mathlib.Core.Path.{◌≡◌, refl, sym, ap, ◌∙◌}
use mathlib.Core.Bool.{Bool, true, false, ◌&&◌, cond, true≢false, and-eq-true_iff}
use mathlib.Core.List.{List, [], ◌∷◌, ◌++◌, append_assoc, append-nil}
use lib.ListN.{length, take, drop, get_or, set, length-append, take-append-drop, drop_of_length-le, get_or-append}
use lib.Seq.{length-take-le, take-take, take_at, take-length, take-append-add, take-suc, drop-cons, set_at, get_or-append-add, get_or-take, get_or-drop}
use lib.Dec.{leb, eqb}
use borrow.Author.Tests.{leb-true, eqb-true}
use Rattle.lists.specs.Write.{splice}
use Rattle.lists.proofs.Halves.{length-splice}
use Rattle.frame.specs.Tail.{ends_with_id3v1, tag_start}
use Rattle.items.specs.Items.{Item, items_in}
use Rattle.ape.specs.Tag.{Split, find_footer, footed, started, moved, split, serialize, file_of, replaced}
use Rattle.ape_replace.proofs.Cutting.{part-front, cut-is}
use Rattle.tail_write.specs.Rewrite.{tagless, start_in, block_before, audio_end, behind, Tail, tail, tail_of, length_of, after, length_after}
use Rattle.torn_tags.specs.Claims.{Rewrites, Claims}
use Rattle.tail_write.proofs.Sent.{splice-none}
use Rattle.tail_write.proofs.Placing.{place_is}
use Rattle.tail_write.proofs.Planning.{tail_none, plan-fits}

-- ---- any bytes w written into a buffer from e on, the first k of them

module _ (buf : List ℕ) (e : ℕ) (w : List ℕ) (room : e + length w ≤ length buf) where
  head-length : (k : ℕ) → k ≤ length w → length (take e buf ++ take k w) ≡ e + k
  head-length k h = length-append (take e buf) (take k w) ∙ omega (arith, length-take-le e buf (omega arith), length-take-le k w h)

  -- what is behind them, by the number of bytes written
  as_written : (k : ℕ) → k ≤ length w → splice buf e (take k w) ≡ (take e buf ++ take k w) ++ drop (e + k) buf
  as_written k h = ap (λ (i : ℕ). (take e buf ++ take k w) ++ drop (e + i) buf) (length-take-le k w h)

  write-none : splice buf e (take 0 w) ≡ buf
  write-none = splice-none buf e

  write-more : (k : ℕ) → k < length w → splice buf e (take (suc k) w) ≡ set (splice buf e (take k w)) (e + k) (get_or w k 0)
  write-more k h =
      let head = take e buf ++ take k w in
      let x = get_or w k 0 in
      let next : drop (e + k) buf ≡ get_or buf (e + k) 0 ∷ drop (suc (e + k)) buf = drop-cons buf (e + k) 0 (omega arith) in
      let place : e + suc k ≡ suc (e + k) = omega arith in
      let more : take e buf ++ take (suc k) w ≡ head ++ (x ∷ []) = ap (λ (l : List ℕ). take e buf ++ l) (take-suc w k 0 h) ∙ sym (append_assoc (take e buf) (take k w) (x ∷ [])) in
      let left : splice buf e (take (suc k) w) ≡ head ++ (x ∷ drop (suc (e + k)) buf) =
      as_written (suc k) (omega arith) ∙ ap (λ (i : ℕ). (take e buf ++ take (suc k) w) ++ drop i buf) place ∙ ap (λ (l : List ℕ). l ++ drop (suc (e + k)) buf) more ∙ append_assoc head (x ∷ []) (drop (suc (e + k)) buf) in
      let right : splice buf e (take k w) ≡ head ++ (get_or buf (e + k) 0 ∷ drop (suc (e + k)) buf) = as_written k (omega arith) ∙ ap (λ (l : List ℕ). head ++ l) next in
      left ∙ sym (ap (λ (l : List ℕ). set l (e + k) x) right ∙ set_at head (get_or buf (e + k) 0) (drop (suc (e + k)) buf) x (e + k) (head-length k (omega arith)))

  byte-new : (k i : ℕ) → k ≤ length w → i < k → get_or (splice buf e (take k w)) (e + i) 0 ≡ get_or w i 0
  byte-new k i h l =
      let n : length (take e buf) ≡ e = length-take-le e buf (omega arith) in
      let m : length (take k w) ≡ k = length-take-le k w h in
      ap (λ (b : List ℕ). get_or b (e + i) 0) (append_assoc (take e buf) (take k w) (drop (e + length (take k w)) buf))
      ∙ ap (λ (j : ℕ). get_or (take e buf ++ (take k w ++ drop (e + length (take k w)) buf)) (j + i) 0) (sym n)
      ∙ get_or-append-add (take e buf) (take k w ++ drop (e + length (take k w)) buf) i 0
      ∙ get_or-append (take k w) (drop (e + length (take k w)) buf) 0 i (omega (arith, m)) ∙ get_or-take k w i 0 l

  byte-before : (k i : ℕ) → i < e → get_or (splice buf e (take k w)) i 0 ≡ get_or buf i 0
  byte-before k i h =
      let n : length (take e buf) ≡ e = length-take-le e buf (omega arith) in
      ap (λ (b : List ℕ). get_or b i 0) (append_assoc (take e buf) (take k w) (drop (e + length (take k w)) buf))
      ∙ get_or-append (take e buf) (take k w ++ drop (e + length (take k w)) buf) 0 i (omega (arith, n)) ∙ get_or-take e buf i 0 h

  byte-behind : (k i : ℕ) → k ≤ length w → e + k ≤ i → get_or (splice buf e (take k w)) i 0 ≡ get_or buf i 0
  byte-behind k i h l =
      let j = i - (e + k) in
      let head = take e buf ++ take k w in
      let place : i ≡ length head + j = omega (arith, head-length k h) in
      let back : e + k + j ≡ i = omega arith in
      ap (λ (b : List ℕ). get_or b i 0) (as_written k h) ∙ ap (λ (p : ℕ). get_or (head ++ drop (e + k) buf) p 0) place
      ∙ get_or-append-add head (drop (e + k) buf) j 0 ∙ get_or-drop (e + k) buf j 0 ∙ ap (λ (p : ℕ). get_or buf p 0) back

  -- the file that is found
  found-file : (n k : ℕ) → e ≤ n → k ≤ length w → take (max n (e + k)) (splice buf e (take k w)) ≡ take e (take n buf) ++ (take k w ++ drop (e + k) (take n buf))
  found-file n k l h =
      let head = take e buf ++ take k w in
      let size : max n (e + k) ≡ length head + (n - (e + k)) = omega (arith, head-length k h) in
      ap (take (max n (e + k))) (as_written k h) ∙ ap (λ (i : ℕ). take i (head ++ drop (e + k) buf)) size
      ∙ take-append-add head (drop (e + k) buf) (n - (e + k)) ∙ ap (λ (r : List ℕ). head ++ r) (part-front buf (e + k) n)
      ∙ append_assoc (take e buf) (take k w) (drop (e + k) (take n buf))
      ∙ ap (λ (r : List ℕ). r ++ (take k w ++ drop (e + k) (take n buf))) (sym (take-take e n buf l))

  -- and in the end
  whole-file : (n : ℕ) → e ≤ n → take (e + length w) (splice buf e (take (length w) w)) ≡ take e (take n buf) ++ w
  whole-file n l =
      ap (take (e + length w)) (as_written (length w) (omega arith)) ∙ take_at (take e buf ++ take (length w) w) (drop (e + length w) buf) (e + length w) (head-length (length w) (omega arith))
      ∙ ap (λ (r : List ℕ). take e buf ++ r) (take-length w) ∙ ap (λ (r : List ℕ). r ++ w) (sym (take-take e n buf l))

-- ---- the audio end

-- audio without a tag is what precedes a new one and what follows it
moved-whole : (s : List ℕ) → (moved s []).front ++ (moved s []).back ≡ s
unfolding moved
moved-whole s = go (ends_with_id3v1 s)
  where
    go : (t : Bool) → let x : Split = cond t (record { front = take (length s - 128) s; back = drop (length s - 128) s }) (record { front = s; back = [] }) in x.front ++ x.back ≡ s
    go true = take-append-drop (length s - 128) s
    go false = append-nil s

module _ (s : List ℕ) where
  -- no tag: all is audio
  tagless-split : tagless s ≡ true → split s ≡ moved s []
  unfolding tagless split
  tagless-split e = go (find_footer s) e
    where
      begun : (f : ℕ) (t : Option ℕ) → started t true (λ a. false) ≡ true → started t (moved s []) (λ a. moved (take a s) (drop (f + 32) s)) ≡ moved s []
      begun f None e = refl
      begun f (Some a) e = absurd (true≢false (sym e))

      go : (x : Option ℕ) → footed x true (λ f. started (tag_start s f) true (λ a. false)) ≡ true
          → footed x (moved s []) (λ f. started (tag_start s f) (moved s []) (λ a. moved (take a s) (drop (f + 32) s))) ≡ moved s []
      go None e = refl
      go (Some f) e = begun f (tag_start s f) e

  -- a block before the tag: there is a tag, the block ends where the tag starts, and replacement parts what precedes the start
  block-is : block_before s ≡ true → (tagless s ≡ false) × (ends_with_id3v1 (take (start_in s) s) ≡ true) × ((split s).front ++ (split s).back ≡ take (start_in s) s)
  unfolding tagless start_in block_before split
  block-is e = go (find_footer s) e
    where
      begun : (f : ℕ) (t : Option ℕ) → started t false (λ a. leb (length s) (f + 32) && ends_with_id3v1 (take a s)) ≡ true
          → let a = started t (length s) (λ a. a) in let x = started t (moved s []) (λ a. moved (take a s) (drop (f + 32) s)) in
          (started t true (λ a. false) ≡ false) × (ends_with_id3v1 (take a s) ≡ true) × (x.front ++ x.back ≡ take a s)
      begun f None e = absurd (true≢false (sym e))
      begun f (Some a) e =
          let (l, b) = (and-eq-true_iff (leb (length s) (f + 32)) (ends_with_id3v1 (take a s))).0 e in
          (refl, b, rw (drop_of_length-le s {i = f + 32} (leb-true _ _ l)) (moved-whole (take a s)))

      go : (x : Option ℕ) → footed x false (λ f. started (tag_start s f) false (λ a. leb (length s) (f + 32) && ends_with_id3v1 (take a s))) ≡ true
          → let a = footed x (length s) (λ f. started (tag_start s f) (length s) (λ a. a)) in
          let y = footed x (moved s []) (λ f. started (tag_start s f) (moved s []) (λ a. moved (take a s) (drop (f + 32) s))) in
          (footed x true (λ f. started (tag_start s f) true (λ a. false)) ≡ false) × (ends_with_id3v1 (take a s) ≡ true) × (y.front ++ y.back ≡ take a s)
      go None e = absurd (true≢false (sym e))
      go (Some f) e = begun f (tag_start s f) e

  -- what precedes the new tag in replacement is a front of the file
  front-is : take (length (split s).front) s ≡ (split s).front
  front-is =
      let c = cut-is s in
      let n : length (split s).front ≡ _ = ap length (sym c.front-is) ∙ length-take-le _ s c.front-within in
      ap (λ (i : ℕ). take i s) n ∙ c.front-is

  audio-within : audio_end s ≤ length s
  audio-within = omega (arith, (place_is s).end_is, (place_is s).end-within)

-- ---- the tail of a file

-- no items
pub empty : (ts : List Item) → length ts ≡ 0 → serialize ts ≡ []
unfolding serialize
empty [] e = refl
empty (t ∷ ts) e = absurd (omega arith)

module _ (s : List ℕ) (ts : List Item) where
  abbrev t : Tail
  t = tail_of s ts

  -- nothing is written
  abbrev blank : Bool
  blank = tagless s && eqb (length ts) 0

  pub blank-items : blank ≡ true → length ts ≡ 0
  blank-items e = eqb-true _ _ ((and-eq-true_iff (tagless s) (eqb (length ts) 0)).0 e).1

  tail-there : blank ≡ false → t ≡ tail (audio_end s) (serialize ts ++ behind s)
  unfolding tail_of
  tail-there e = rw e

  pub end-within : t.end ≤ length s
  end-within = go blank refl
    where
      go : (b : Bool) → blank ≡ b → t.end ≤ length s
      go true e = rw (tail_none s ts e) (omega arith)
      go false e = rw (tail-there e) (audio-within s)

  blank-split : blank ≡ true → replaced s ts ≡ s
  unfolding replaced file_of
  blank-split e =
      let (q, z) = (and-eq-true_iff (tagless s) (eqb (length ts) 0)).0 e in
      rw (tagless-split s q, empty ts (eqb-true _ _ z)) (moved-whole s)

  -- the file in the end
  whole_is : block_before s ≡ false → take t.end s ++ t.bytes ≡ replaced s ts
  unfolding replaced file_of
  whole_is b = go blank refl
    where
      go : (x : Bool) → blank ≡ x → take t.end s ++ t.bytes ≡ replaced s ts
      go true e = ap (λ (u : Tail). take u.end s ++ u.bytes) (tail_none s ts e) ∙ append-nil (take (length s) s) ∙ take-length s ∙ sym (blank-split e)
      go false e =
          ap (λ (u : Tail). take u.end s ++ u.bytes) (tail-there e)
          ∙ rw b (ap (λ (r : List ℕ). r ++ (serialize ts ++ (split s).back)) (front-is s))

  block-tail : block_before s ≡ true → t ≡ tail (start_in s) (serialize ts)
  block-tail b =
      let e : blank ≡ false = ap (λ (x : Bool). x && eqb (length ts) 0) (block-is s b).0 in
      tail-there e ∙ rw b (ap (tail (start_in s)) (append-nil (serialize ts)))

  tail-size : length (take t.end s ++ t.bytes) ≡ length_of t
  tail-size = length-append (take t.end s) t.bytes ∙ ap (λ (n : ℕ). n + length t.bytes) (length-take-le t.end s end-within)

  replaced-size : block_before s ≡ true → length (replaced s ts) ≡ start_in s + length (serialize ts)
  unfolding replaced file_of
  replaced-size b =
      let u = block-tail b in
      let n : start_in s ≤ length s = rw u at end-within in
      let both : length (split s).front + length (split s).back ≡ start_in s = sym (length-append (split s).front (split s).back) ∙ ap length (block-is s b).2 ∙ length-take-le (start_in s) s n in
      simp length-append (omega (arith, both))

  same_size : length_of t ≡ length (replaced s ts)
  same_size = go (block_before s) refl
    where
      go : (b : Bool) → block_before s ≡ b → length_of t ≡ length (replaced s ts)
      go false b = sym tail-size ∙ ap length (whole_is b)
      go true b = ap length_of (block-tail b) ∙ sym (replaced-size b)

-- ---- all claims

module _ (buf : List ℕ) (n : ℕ) (ts : List Item) (in_Buffer : n ≤ length buf) (room : length_of (tail_of (take n buf) ts) ≤ length buf) where
  abbrev s : List ℕ
  s = take n buf

  abbrev u : Tail
  u = tail_of s ts

  long : length s ≡ n
  long = length-take-le n buf in_Buffer

  within : u.end ≤ n
  within = omega (arith, end-within s ts, long)

  ended : take (length_of u) (after u (length u.bytes) buf) ≡ take u.end s ++ u.bytes
  ended = whole-file buf u.end u.bytes room n within

  rewrites : Rewrites buf n s ts u
  rewrites =
      record {
        none_yet = write-none buf u.end u.bytes room;
        one_more = write-more buf u.end u.bytes room;
        new-byte = byte-new buf u.end u.bytes room;
        old-before = byte-before buf u.end u.bytes room;
        old-behind = byte-behind buf u.end u.bytes room;
        found = λ k h. found-file buf u.end u.bytes room n k within h;
        found-length = λ k h. length-take-le (length_after u k n) (after u k buf) (rw (after-length k h) (omega arith));
        whole = λ b. ended ∙ whole_is s ts b;
        block = λ b. ended ∙ ap (λ (x : Tail). take x.end s ++ x.bytes) (block-tail s ts b);
        block-stays = λ b. (block-is s b).1;
        same_length = same_size s ts;
        end_is = λ e b. ap (λ (x : Tail). x.end) (tail-there s ts e) ∙ rw b;
        end-block = λ b. ap (λ (x : Tail). x.end) (block-tail s ts b);
        unwritten = λ e. ap (λ (x : Tail). x.bytes) (tail_none s ts e);
      }
    where
      after-length : (k : ℕ) → k ≤ length u.bytes → length (after u k buf) ≡ length buf
      after-length k h = length-splice buf u.end (take k u.bytes) (omega (arith, length-take-le k u.bytes h))

pub claims : Claims
claims buf n area count t e =
    let f = plan-fits buf n area count t e in
    rw (← f.1) (rewrites buf n (items_in count area) f.0 (rw (← f.1) at f.2))
